pub mod ZoneNames
