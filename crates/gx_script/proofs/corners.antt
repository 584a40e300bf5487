pub mod CornerLemmas
