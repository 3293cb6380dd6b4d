pub mod AnswerLaws
pub mod RoundLaws
