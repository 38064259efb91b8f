pub mod MarkLemmas
pub mod PairLemmas
