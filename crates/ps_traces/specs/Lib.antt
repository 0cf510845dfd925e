pub mod Traces
pub mod Shapes
pub mod Roles
pub mod Inputs
pub mod Meetings
pub mod Answers
