pub mod Names
pub mod Device
pub mod Lines
pub mod Words
pub mod Output
pub mod Engine
pub mod Run
pub mod Laws
