pub mod Codes
pub mod Places
pub mod Ways
pub mod Stepping
pub mod Merging
pub mod Entering
pub mod Closing
pub mod Ended
pub mod Spreads
pub mod Knots
pub mod Renewing
mod Reaching
