use Rattle.gx_record.proofs.Writes.{then_wrote, then_page, last_page}
use Rattle.gx_record.proofs.encode.put_pages.Goals as goal

pub returns-in-One-clause-wrote : goal.returns-in-One-clause-wrote
returns-in-One-clause-wrote c = rw c.in-One.is (then_wrote c.put_bytes-at.ensures.wrote (last_page _ _ c.put_page.ensures.wrote))

pub returns-in-Two-clause-wrote : goal.returns-in-Two-clause-wrote
returns-in-Two-clause-wrote c = rw c.in-Two.is (then_wrote c.put_bytes-at-in-Two.ensures.wrote (then_page _ _ c.put_page-at.ensures.wrote (last_page _ _ c.put_page-in-Two.ensures.wrote)))

pub returns-in-Three-clause-wrote : goal.returns-in-Three-clause-wrote
returns-in-Three-clause-wrote c =
    rw c.in-Three.is (then_wrote c.put_bytes-at-in-Three.ensures.wrote (then_page _ _ c.put_page-at-in-Three.ensures.wrote (then_page _ _ c.put_page-at-in-Three-2.ensures.wrote (last_page _ _ c.put_page-in-Three.ensures.wrote))))
