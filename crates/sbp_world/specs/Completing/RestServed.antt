-- What was sent was taken (IEEE 1394-1995, transaction layer: split transactions and write requests). Where every node has seen the latest reset, nothing was lost since, and nothing is in flight:
-- each write of the latest generation, between two nodes that injected no packets, was taken as new by its receiver exactly once. So it is of each write of an agent's register, of
-- MANAGEMENT_AGENT, of data and of a status block.
use Rattle.std.specs.Prelude.{◌≡◌, ℕ, false, List, Some}
use Rattle.sbp_journal.specs.Run.{Moment}
use Rattle.sbp_journal.specs.Transactions.{Sending, part_of, request, writing}
use Rattle.sbp_journal.specs.Wire.{terms}
use Rattle.sbp_laws.specs.Budget.{Lossless}
use Rattle.sbp_laws.specs.Completion.{in_the_air}
use Rattle.sbp_world.specs.Lists.Closes.{Always}

-- a write of the latest generation between such nodes, which was not injected
pub record IsFairWrite (past : List Moment) (serial : ℕ) : Type 0 where
  pub packet : Sending
  pub sent : (terms past).sent serial ≡ Some packet
  pub honest : packet.injected ≡ false
  pub label : ℕ
  pub part : part_of packet.bytes ≡ request label writing
  pub latest : packet.generation ≡ (terms past).bus
  pub from : (terms past).injects packet.from ≡ false
  pub to : (terms past).injects packet.to ≡ false

abbrev pub WereTaken : List Moment → Type 0
WereTaken past = (serial : ℕ) → IsFairWrite past serial → (terms past).news serial ≡ 1

abbrev pub RestServedLaw : Type 0
RestServedLaw = Always (λ past w. Lossless past → in_the_air past ≡ 0 → WereTaken past)
