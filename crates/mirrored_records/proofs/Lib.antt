pub mod BringLemmas
pub mod DeltaLemmas
pub mod PrefixLemmas
