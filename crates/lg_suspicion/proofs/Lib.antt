pub mod AccuserLaws
pub mod Accusing
pub mod DeadlineLaws
pub mod Hearing
pub mod KnownAccusers
pub mod SlotSets
