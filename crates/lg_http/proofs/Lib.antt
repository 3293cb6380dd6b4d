pub mod ChainLaws
pub mod FeedLaws
pub mod FramingLaws
pub mod ReadLaws
pub mod ReplyLaws
pub mod SlotLaws
pub mod TimeLaws
