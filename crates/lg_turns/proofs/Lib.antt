pub mod KeyedLaws
pub mod WordLaws
