pub mod Fronts
pub mod AddingLaws
pub mod AdvanceLaws
pub mod ChangeLaws
pub mod UpdateLaws
pub mod DeadlineLaws
pub mod PublishLaws
