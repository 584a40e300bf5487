use Rattle.gx_page.proofs.Scans.{total_of_one_length, place_in_heap, place_in_image}
use Rattle.gx_page.proofs.laws.places.Goals as goal

pub returns : goal.returns
returns c = record {
  total = total_of_one_length;
  in_heap = place_in_heap;
  in_image = place_in_image;
}
