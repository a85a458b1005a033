pub mod Members
pub mod Insert
pub mod Two
pub mod Where
