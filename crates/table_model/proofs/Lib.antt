pub mod Members
pub mod RowLaws
