pub mod Grammar
pub mod Fields
pub mod Reading
pub mod Wire
pub mod Items
pub mod TextLaws
pub mod Parts
