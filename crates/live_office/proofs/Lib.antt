pub mod Rows
pub mod AskedAs
pub mod Handled
pub mod OfficeLines
pub mod Seats
pub mod Talks
