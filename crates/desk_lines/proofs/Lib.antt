pub mod RequestLaws
pub mod CommandLaws
pub mod SessionLaws
pub mod ReadingLaws
