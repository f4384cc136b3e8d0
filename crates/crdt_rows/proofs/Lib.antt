mod Equal
mod Firsts
pub mod ObjectFacts
mod Older
mod RowFacts
mod Said
pub mod ObjectJoin
pub mod NewestKeys
