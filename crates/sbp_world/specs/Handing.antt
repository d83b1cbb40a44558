-- What a node hands out in a call: the notes on effects stand before those of the packets.
use Rattle.std.specs.Prelude.{ℕ}
use Rattle.sbp_journal.specs.Outgoings.{OutboxState}
use Rattle.sbp_world.specs.Sending.{sent_all}
use Rattle.sbp_world.specs.Telling.{told_all}
use Rattle.sbp_world.specs.Worlds.{WorldState}

abbrev pub handed_out : ℕ → ℕ → OutboxState → WorldState → WorldState
handed_out node weight outbox w = sent_all node outbox.packets (told_all weight outbox.sides w)
