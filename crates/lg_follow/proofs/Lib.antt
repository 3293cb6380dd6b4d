pub mod LeadingLaws
pub mod LineLaws
pub mod SightLaws
pub mod TableLaws
pub mod TellingLaws
