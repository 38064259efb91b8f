pub mod IntervalLaws
pub mod PendingLaws
