pub mod Audits
pub mod Balance
pub mod Delivering
pub mod Entered
pub mod Giving
pub mod Growing
pub mod Making
pub mod Positions
pub mod Promised
pub mod Reached
pub mod Seats
pub mod Sites
pub mod Steps
pub mod Widening
pub mod Worlds
mod Added
mod FlatList
mod Names
mod Nodes
mod Runs
mod Totals
