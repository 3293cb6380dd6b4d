pub mod Written
pub mod HeadLaws
