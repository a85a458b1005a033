pub mod Report
pub mod Input
pub mod Ready
pub mod Laws
