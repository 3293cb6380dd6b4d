pub mod EarlyLaws
pub mod FollowingLaws
pub mod PassesLaws
pub mod ServingLaws
