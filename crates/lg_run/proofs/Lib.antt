pub mod EndLaws
pub mod FirstLaws
pub mod KeyLaws
