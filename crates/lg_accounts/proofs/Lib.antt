pub mod NameLaws
pub mod PictureLaws
pub mod TextLaws
pub mod VerdictLaws
