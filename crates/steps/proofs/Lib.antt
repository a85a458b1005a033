pub mod Meaning
pub mod PointLaws
pub mod Mirror
