pub mod CounterLaws
pub mod EffectLaws
pub mod KeptLaws
pub mod PositionLaws
pub mod Sums
pub mod Within
