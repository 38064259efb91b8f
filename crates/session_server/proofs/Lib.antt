pub mod Books
pub mod Exchanges
pub mod Meshes
pub mod Rows
pub mod Seats
pub mod Sessions
pub mod Settles
pub mod Sites
