use Rattle.gx_page.specs.Reading.{read_of}
use Rattle.gx_record.proofs.Whole.{no_spelling_begins_another, spelling_begins, spellings_tell, spellings_join, spelling_sizes, image_of_page}
use Rattle.gx_record.proofs.Writes.{spelling_size}
use Rattle.gx_record.proofs.laws.format.Goals as goal

pub returns : goal.returns
returns c = record {
  no_spelling_begins_another = no_spelling_begins_another;
  spellings_begin = spelling_begins;
  spellings_tell = spellings_tell;
  spellings_join = spellings_join;
  spellings_have_sizes = λ key r is. spelling_size r is.in_range;
  spellings_are_short = spelling_sizes;
  images_are_of_pages = λ page bytes. (
    λ i. (read_of bytes, (i.image.well_formed, i.number, i.image.image)),
    λ h. image_of_page h.0 page bytes h.1.0 h.1.1 h.1.2,
  );
}
