pub mod ActLaws
pub mod ExplainLaws
pub mod ShownLaws
