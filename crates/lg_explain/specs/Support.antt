-- What only carries the proofs.
pub mod Ends
pub mod Episodes
pub mod Explained
pub mod FolderAccounts
pub mod Insights
pub mod Positions
pub mod Standstills
