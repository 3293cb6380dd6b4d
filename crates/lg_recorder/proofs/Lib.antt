pub mod BatchLaws
pub mod FolderLaws
pub mod HoldingLaws
pub mod PieceLaws
