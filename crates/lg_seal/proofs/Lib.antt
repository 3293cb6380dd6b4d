pub mod KeyLines
pub mod KeySpellings
pub mod Padding
pub mod SameBytes
pub mod SealedParts
