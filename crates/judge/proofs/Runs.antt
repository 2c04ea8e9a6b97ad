-- The secrecy theorem for certificates that meet the conditions.
pub mod Safe
pub mod Derive
pub mod Steps
pub mod Secrecy
pub mod Moves
