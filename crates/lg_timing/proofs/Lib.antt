pub mod ConfigLemmas
pub mod TableLemmas
pub mod TimeoutLemmas
