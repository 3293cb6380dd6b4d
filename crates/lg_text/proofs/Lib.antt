pub mod CuttingLaws
pub mod IpLaws
pub mod LineLaws
pub mod NumberLaws
