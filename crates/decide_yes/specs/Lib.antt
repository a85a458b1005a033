pub mod Table
pub mod Ready
