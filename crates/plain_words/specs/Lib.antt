pub mod Words
pub mod Number
pub mod Input
pub mod Writing
