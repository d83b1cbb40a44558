-- What the notes of a call of the target tell of a run to the laws: nothing where it tells of none, and else what that one run told, which stands first.
use Rattle.std.proofs.Common.{arith, ◌≡◌, ◌∙◌, refl, ap, ℕ, ◌&&◌, nat_eq, Bool, true, cond, List, [], ◌∷◌, ◌++◌, Option, Some, None}
use Rattle.std.proofs.lemmas.Bool.Decides.{nat_tests}
use Rattle.std.specs.Prelude.{is_none}
use Rattle.rbc_disk.specs.declared.command.Outcome.{Outcome}
use Rattle.rbc_disk.specs.Runs.{answer_of}
use Rattle.rbc_disk.specs.Units.{PlainDisk}
use Rattle.sbp_bus.specs.Generations.{node_of}
use Rattle.sbp_bus.specs.Words.{check_of}
use Rattle.sbp_journal.specs.Outgoings.{OutboxState}
use Rattle.sbp_journal.specs.declared.note.Note.{Note}
use Rattle.sbp_journal.specs.declared.note.Note.TheVariants as notes
use Rattle.sbp_journal.specs.declared.outbox.Outgoing.{Outgoing}
use Rattle.sbp_journal.specs.declared.side.Side.{Side}
use Rattle.sbp_journal.specs.declared.side.Side.TheVariants as sides
use Rattle.sbp_laws.specs.Agents.{told_among, untold_among}
use Rattle.sbp_laws.specs.Targets.{told_of}
use Rattle.sbp_world.specs.Sending.{sent}
use Rattle.sbp_world.specs.Telling.{holder, told, told_all}
use Rattle.sbp_world.specs.Worlds.{WorldState}
use Rattle.sbp_world.proofs.Lists.RunTells.{AreRunless, IsRunless}
use Rattle.sbp_world.proofs.Lists.Runless.{AllPlain}
use Rattle.turn_laws.proofs.Handed.{handed, note_of, notes_sent, notes_told, packet_note}

-- ---- notes of no run
pub plain_untold : (i : ℕ) (rest : List Note) (plain : PlainDisk) (before : Bool) → AllPlain rest → untold_among i rest plain before ≡ before
plain_untold i [] plain before h = refl
plain_untold i (notes.Ran j n k unit cdb bytes check ∷ rest) plain before h = absurd h.0
plain_untold i (note ∷ rest) plain before h = plain_untold i rest plain before h.1

both_plain : (a b : List Note) → AllPlain a → AllPlain b → AllPlain (a ++ b)
both_plain [] b h i = i
both_plain (note ∷ a) b h i = (h.0, both_plain a b h.1 i)

one_plain : (side : Side) (w : WorldState) → IsRunless side → AllPlain (note_of side w)
one_plain (sides.Own note) w h = absurd h
one_plain (sides.Ran place orb cdb payload outcome) w h = absurd h
one_plain (sides.Opened place orb) w h = tt
one_plain side w h = (tt, tt)

told_plain : (weight : ℕ) (later : List Side) (w : WorldState) → AreRunless later → AllPlain (notes_told weight later w)
told_plain weight [] w h = tt
told_plain weight (side ∷ later) w h = let v = told weight side w in both_plain (note_of side w) (notes_told weight later v) (one_plain side w h.0) (told_plain weight later v h.1)

packet_plain : (to : Option ℕ) (from : ℕ) (packet : Outgoing) (w : WorldState) → AllPlain (packet_note to from packet w)
packet_plain None from packet w = tt
packet_plain (Some to) from packet w = (tt, tt)

sent_plain : (from : ℕ) (packets : List Outgoing) (w : WorldState) → AllPlain (notes_sent from packets w)
sent_plain from [] w = tt
sent_plain from (packet ∷ later) w =
    let v = sent from packet w in
    let to = node_of w.generations from packet.to in both_plain (packet_note to from packet w) (notes_sent from later v) (packet_plain to from packet w) (sent_plain from later v)

behind_plain : (later : List Side) (packets : List Outgoing) (w v : WorldState) → AreRunless later → AllPlain (notes_told 0 later w ++ notes_sent 0 packets v)
behind_plain later packets w v h = both_plain (notes_told 0 later w) (notes_sent 0 packets v) (told_plain 0 later w h) (sent_plain 0 packets v)

pub plain_handed : (outbox : OutboxState) (w : WorldState) → AreRunless outbox.sides → AllPlain (handed 0 0 outbox w)
plain_handed outbox w h = behind_plain outbox.sides outbox.packets w (told_all 0 outbox.sides w) h

-- ---- one run, before all others
module _ (place orb : ℕ) (cdb payload : List ℕ) (outcome : Outcome) (more : List Side) (outbox : OutboxState) (w : WorldState) (is : outbox.sides ≡ sides.Ran place orb cdb payload outcome ∷ more) (runless : AreRunless more) (plain : PlainDisk) (i : ℕ) (mine : (holder w place).initiator ≡ i) where
  abbrev ran : Side
  ran = sides.Ran place orb cdb payload outcome

  first_test : nat_eq (holder w place).initiator i ≡ true
  first_test = grind (arith, nat_tests)

  abbrev behind : List Side → List Note
  behind later = notes_told 0 later (told 0 ran w) ++ notes_sent 0 outbox.packets (told_all 0 (ran ∷ later) w)

  split : handed 0 0 outbox w ≡ note_of ran w ++ behind more
  split = ap (λ later. notes_told 0 later w ++ notes_sent 0 outbox.packets (told_all 0 later w)) is

  plainly : AllPlain (behind more)
  plainly = behind_plain more outbox.packets (told 0 ran w) (told_all 0 (ran ∷ more) w) runless

  pub run_told : told_among i (handed 0 0 outbox w) plain ≡ Some (told_of (check_of outcome) cdb plain)
  run_told =
      ap (λ rest. told_among i rest plain) split
      ∙ ap (λ b. cond b (Some (told_of (check_of outcome) cdb plain)) (told_among i (behind more) plain)) first_test

  pub run_untold : (before : Bool) → untold_among i (handed 0 0 outbox w) plain before ≡ (is_none (check_of outcome) && is_none (answer_of cdb plain.medium))
  run_untold before =
      let own = is_none (check_of outcome) && is_none (answer_of cdb plain.medium) in
      ap (λ rest. untold_among i rest plain before) split
      ∙ (ap (λ b. untold_among i (behind more) plain (cond b own before)) first_test ∙ plain_untold i (behind more) plain own plainly)
