pub mod Agents
pub mod Pass
pub mod Served
pub mod Law
pub mod Sides
