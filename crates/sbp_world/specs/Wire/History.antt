use Rattle.std.specs.Prelude.{◌≡◌, ℕ, false, List, Some}
use Rattle.bus_transactions.specs.Answers.{AreAnswered}
use Rattle.bus_transactions.specs.Judging.{AreJudged}
use Rattle.bus_transactions.specs.Once.{IsOnce}
use Rattle.bus_transactions.specs.Packets.{SerialsCount}
use Rattle.bus_transactions.specs.Sent.{AreSent}
use Rattle.sbp_journal.specs.Run.{Moment}
use Rattle.sbp_journal.specs.Transactions.{Sending, part_of, request, writing}
use Rattle.sbp_journal.specs.Wire.{terms}

-- What the laws of the wire say of a history: serials count from 1; a write is taken as new at most once where its sender has not
-- injected packets, and exactly once where it was closed and its receiver has not either; a delivery begins with the note of the first row
-- that holds; a request that is judged has exactly one response, the next packet; and what is not injected is its sender's own.
pub record IsOfWire (past : List Moment) : Type 0 where
  pub serials : SerialsCount past
  pub once : (s label : ℕ) (q : Sending) → (terms past).sent s ≡ Some q → q.injected ≡ false → part_of q.bytes ≡ request label writing → IsOnce (terms past) s q
  pub judged : AreJudged past
  pub answered : AreAnswered past
  pub sent : AreSent past
