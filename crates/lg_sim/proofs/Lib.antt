pub mod ClusterLaws
pub mod CommandLaws
pub mod OpenLaws
pub mod PlaceLaws
pub mod ScriptLaws
