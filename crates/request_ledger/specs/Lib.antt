pub mod GivenBack
pub mod Ledger
pub mod Ranges
pub mod Requests
pub mod Words
