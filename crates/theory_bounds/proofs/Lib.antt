pub mod BadHalves
pub mod AgreeHalves
