pub mod ApplyLaw
pub mod Items
pub mod Lists
pub mod Marks
pub mod Rises
