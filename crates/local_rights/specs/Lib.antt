pub mod BoundedCounter
pub mod Counted
pub mod Effects
pub mod OpenSeats
pub mod Rights
pub mod Shares
