-- The law of the calls of an initiator.
use Rattle.sbp_world.proofs.Words.Std.{refl, ℕ, Bool, [], ◌∷◌}
use Rattle.sbp_world.proofs.Words.Wire.{asked, said, empty_outbox}
use Rattle.sbp_world.proofs.Words.Initiator.{new_state}
use Rattle.sbp_world.proofs.Words.World.{CallLaw, Listed}
use Rattle.sbp_journal.specs.declared.event.Event.TheVariants as events
use Rattle.sbp_journal.specs.declared.note.Note.TheVariants as notes
use Rattle.sbp_world.proofs.Hosts.Acts.{act_left}
use Rattle.sbp_world.proofs.Hosts.Beside.{begins}
use Rattle.sbp_world.proofs.Hosts.Hears.{receive_listed, expire_listed}
use Rattle.sbp_world.proofs.Hosts.Sees.{sees_listed}

begins_listed : (line i initiators : ℕ) (ready logged_in : Bool) → Listed (said (notes.Begin initiators ready) ∷ asked line (events.Begin initiators ready) ∷ []) (empty_outbox, new_state i logged_in)
unfolding new_state
begins_listed line i initiators ready logged_in = record { rows = begins line i initiators ready; pin = refl; beside = λ j s e r. r }

pub call_law : CallLaw
call_law = record { begins = begins_listed; acts = act_left; receives = receive_listed; expires = expire_listed; sees = sees_listed }
