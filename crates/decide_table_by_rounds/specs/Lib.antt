pub mod Made
pub mod Start
pub mod Rounds
