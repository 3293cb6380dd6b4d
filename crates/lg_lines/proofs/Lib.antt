pub mod RecordLaws
pub mod ReplyLaws
pub mod SendLaws
