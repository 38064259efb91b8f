pub mod EntryBack
pub mod RowLemmas
pub mod InsertLemmas
pub mod AddingLemmas
pub mod AppendAllLemmas
pub mod AppendLemmas
pub mod FindLemmas
pub mod LookupLemmas
pub mod CheckLemmas
pub mod ShapeLemmas
pub mod InitLemmas
pub mod FaultLemmas
pub mod UndoneLemmas
pub mod QueryLemmas
pub mod MetaLemmas
pub mod OpeningLemmas
pub mod KeepLemmas
pub mod StopLemmas
mod MakeLemmas
pub mod UpdateLemmas
pub mod VersionLemmas
pub mod MigrateLemmas
pub mod ReadsLemmas
mod TurnLemmas
