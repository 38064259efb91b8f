pub mod KeptLaws
pub mod SumLaws
pub mod WordLaws
