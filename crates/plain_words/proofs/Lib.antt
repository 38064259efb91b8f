pub mod NumberLaws
pub mod TextLaws
pub mod WordLaws
pub mod LineLaws
pub mod WriteLaws
