pub mod StagedList
