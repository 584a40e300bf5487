pub mod PrintedLemmas
pub mod RequestLemmas
pub mod TextLemmas
