-- What each note makes of the agents of the terms of the target, which have ORBs that responses brought.
use Rattle.sbp_world.proofs.Words.Std.{◌≡◌, refl, ℕ, Bool, true, false, cond, List, Option, Some, None, unwrap_or}
use Rattle.sbp_world.proofs.Words.Wire.{Moment, Terms, Note}
use Rattle.sbp_world.proofs.Words.Target.{Which}
use Rattle.sbp_world.proofs.Words.Initiator.{CommandOrb}
use Rattle.sbp_world.proofs.Words.Laws.{access_at, answer_in, answered_at, id_for, packet_at, receiver_in, sender_in, Target, agent_at, for_agent, got_by, is_serial, over, purpose_of, target_by}
use Rattle.sbp_journal.specs.declared.note.Note.TheVariants as notes
use Rattle.sbp_world.proofs.Lists.FedFolds.{so}
use Rattle.sbp_world.proofs.Lists.FedNotes as machines
use Rattle.sbp_world.proofs.Lists.FedNotes.{request_kept, to_purpose}
use Rattle.sbp_world.proofs.Lists.OrbFolds.{AreReading, AreSettled, Brings, Has, brought_on, keeps, over_reads}

module _ (Read : ℕ → ℕ → CommandOrb → Type 0) where
  -- what it brings
  abbrev pub GotBrings : Terms → ℕ → Target → Type 0
  GotBrings wire serial t = (own : ℕ) → answered_at wire serial ≡ Some own → (place : ℕ) (which : Which) → purpose_of t own ≡ for_agent place which → Brings Read (agent_at t place).machine (record { place = place; which = which; answer = answer_in (packet_at wire serial) })

  got_reads : (own : Option ℕ) (wire : Terms) (serial : ℕ) (t : Target) → answered_at wire serial ≡ own → AreSettled Read t → GotBrings wire serial t → AreReading Read (got_by own wire serial t)
  got_reads (Some own) wire serial t e h b =
      to_purpose (Has Read) (keeps Read) (purpose_of t own) (answer_in (packet_at wire serial)) t h
      (λ place which p. brought_on Read (agent_at t place).machine (record { place = place; which = which; answer = answer_in (packet_at wire serial) }) (h.agents place) (b own e place which p))
  got_reads None wire serial t e h b = so (Has Read) _ (request_kept (Has Read) (keeps Read) (access_at wire serial) (id_for wire 0 (unwrap_or (sender_in (wire.sent serial)) 0)) t h)

  abbrev pub IfGot : Note → Terms → Target → Type 0
  IfGot (notes.Got serial) wire t = is_serial (receiver_in (wire.sent serial)) 0 ≡ true → GotBrings wire serial (over t)
  IfGot note wire t = Unit {0}

  got_note : (b : Bool) (serial : ℕ) (wire : Terms) (t : Target) → AreReading Read t → (b ≡ true → GotBrings wire serial (over t)) → AreReading Read (cond b (got_by (answered_at wire serial) wire serial (over t)) (over t))
  got_note true serial wire t h b = got_reads (answered_at wire serial) wire serial (over t) refl (over_reads Read t h) (b refl)
  got_note false serial wire t h b = so (Has Read) (over t) (over_reads Read t h)

  if_got : (note : Note) (past : List Moment) (wire : Terms) (t : Target) → AreReading Read t → IfGot note wire t → machines.IfGot (Has Read) (keeps Read) note past wire t
  if_got (notes.Got serial) past wire t h g = got_note (is_serial (receiver_in (wire.sent serial)) 0) serial wire t h g
  if_got note past wire t h g = tt

  pub note_reads : (note : Note) (past : List Moment) (wire : Terms) (t : Target) → AreReading Read t → IfGot note wire t → AreReading Read (target_by note past wire t)
  note_reads note past wire t h g = machines.note_kept (Has Read) (keeps Read) note past wire t h (if_got note past wire t h g)
