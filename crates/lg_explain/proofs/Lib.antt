pub mod EpisodeLaws
pub mod ExplainedLaws
pub mod FolderLaws
pub mod InsightLaws
pub mod PositionLaws
pub mod RoundLaws
pub mod SourceLaws
pub mod StandstillLaws
