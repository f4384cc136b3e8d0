pub mod Blake2b
pub mod Hashing
pub mod Hash
pub mod HashLaws
pub mod DigestLaws
