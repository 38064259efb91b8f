pub mod Keeping
pub mod ListView
pub mod Lookups
pub mod Meta
