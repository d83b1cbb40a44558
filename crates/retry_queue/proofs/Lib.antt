mod Bytes
mod Words
mod Forms
mod Standing
mod Counting
mod Generations
mod Hearing
mod Keeping
mod Queues
mod Calls
mod Texts
mod Watching
mod WriteBlocks
pub mod Cases
pub mod Places
pub mod Pumps
pub mod Order
pub mod Marks
pub mod Runs
pub mod Puts
pub mod Blocks
pub mod Owners
pub mod Asks
pub mod Media
pub mod Held
pub mod Written
pub mod Entries
pub mod Brought
mod Acted
mod Requests
mod LineSteps
mod Scripted
mod PlainRuns
pub mod ScriptRuns
pub mod StandingRuns
mod Tries
