-- What a node hands out in one call.
use Rattle.std.specs.Prelude.{List, []}
use Rattle.sbp_journal.specs.declared.outbox.Outgoing.{Outgoing}
use Rattle.sbp_journal.specs.declared.side.Side.{Side}

-- the packets to send and the sides to tell, each in its order
pub record OutboxState : Type 0 where
  pub packets : List Outgoing
  pub sides : List Side

abbrev pub empty_outbox : OutboxState
empty_outbox = record { packets = []; sides = [] }
