pub mod Runs
pub mod Steps
pub mod SitesCode
pub mod Premises
pub mod Moving
pub mod Copies
pub mod Shares
