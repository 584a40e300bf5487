use Rattle.gx_index_laws.proofs.measures.Unfreed.{unfreed}
use Rattle.gx_index_laws.proofs.measures.what_frees_no_claim_leaves_no_more.Goals as goal

pub returns : goal.returns
returns g c = λ k l old s a ne there slot work still. unfreed k l old s a ne there slot work still
