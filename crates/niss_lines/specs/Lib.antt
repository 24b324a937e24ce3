pub mod LineCalls
pub mod LineFacts
