pub mod DrillCounts
pub mod DrillTakings
pub mod DrillScripts
pub mod DrillMoments
pub mod DrillWire
mod DrillAir
mod DrillBudget
pub mod DrillSettles
mod DrillRings
mod DrillHosts
mod DrillTurns
mod DrillActs
pub mod DrillCalm
mod DrillRung
pub mod DrillTaken
mod DrillLegal
pub mod DrillRuns
pub mod DrillGood
pub mod DrillDisk
mod DrillUnits
pub mod DrillRan
mod DrillLists
mod DrillOrder
mod DrillHeld
pub mod DrillBlocks
pub mod DrillWrites
mod DrillReady
pub mod DrillRefused
pub mod DrillRoom
pub mod DrillSlots
pub mod DrillApart
mod DrillDies
mod DrillAgents
mod DrillKeeps
mod DrillReplies
mod DrillOwners
mod DrillMild
mod DrillPushes
mod DrillLive
mod DrillStands
pub mod DrillFew
pub mod DrillDone
mod DrillThere
mod DrillPending
mod DrillSits
pub mod DrillSlotsLeft
mod DrillLabels
pub mod DrillLabelsLeft
mod DrillLast
mod DrillFresh
mod DrillHolds
pub mod DrillRests
mod DrillFreshLines
mod DrillAgentsFresh
mod DrillTable
mod DrillRingReplies
mod DrillPackets
mod DrillServes
mod DrillArrives
mod DrillSends
mod DrillServed
mod DrillGots
mod DrillIgnores
mod DrillRinging
mod DrillSettling
mod DrillActing
pub mod DrillStuck
