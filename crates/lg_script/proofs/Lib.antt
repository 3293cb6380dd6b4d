pub mod CuttingLaws
pub mod ReadingLaws
