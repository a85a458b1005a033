pub mod Settled
pub mod Out
pub mod Least
pub mod Exact
