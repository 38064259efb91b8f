pub mod DeltaLaws
pub mod EndLaws
