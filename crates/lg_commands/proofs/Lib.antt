pub mod AnswerLaws
pub mod HeardLines
pub mod HexLines
pub mod ListLaws
pub mod TimeoutLaws
