use Rattle.gx_page.proofs.Scans.{image_heap, heap_goes_on}
use Rattle.gx_page.proofs.laws.heap.Goals as goal

pub returns : goal.returns
returns c = record {
  images_end_with_it = image_heap;
  goes_on = heap_goes_on;
}
