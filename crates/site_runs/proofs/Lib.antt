pub mod Moves
pub mod OneStep
pub mod Asking
pub mod Restarting
pub mod Beginning
pub mod Listing
pub mod Sums
pub mod Growing
pub mod Histories
pub mod Adding
mod CopiesLaws
mod Copying
mod Examples
mod Forging
mod Sharing
