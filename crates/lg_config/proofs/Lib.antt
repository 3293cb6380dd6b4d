pub mod HostLaws
pub mod KeyLaws
pub mod OptionLaws
pub mod ReasonLaws
pub mod SeedLaws
pub mod TextLaws
pub mod MeaningLaws
