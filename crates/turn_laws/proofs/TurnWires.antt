-- The wires that stand right behind the first note of a turn of the target: behind the time-out of one of its transactions, and behind the judgement of a packet that came to it.
use Rattle.std.proofs.Common.{arith, ◌≡◌, ◌∙◌, refl, sym, ap, ℕ, ◌≤◌, true, false, List, ◌∷◌, length, Option, Some, None, Ok}
use Rattle.sbp_base.specs.Update.{upd}
use Rattle.bus_transactions.specs.Bare.{bare, bare_finding}
use Rattle.bus_transactions.specs.Wire.{as_sending, due_for, first_note}
use Rattle.label_table.specs.Layer.{Finding, Layer, expiring_step, judging_step}
use Rattle.packet_store.specs.declared.sent.Sent.{Sent}
use Rattle.packet_store.specs.Kept.{found_sent}
use Rattle.rbc_disk.specs.Disk.{Disk}
use Rattle.sbp_bus.specs.declared.requests.Request.{Request}
use Rattle.sbp_bus.specs.Requests.{find}
use Rattle.sbp_journal.specs.Run.{Moment, asked}
use Rattle.sbp_journal.specs.Wire.{terms}
use Rattle.sbp_journal.specs.declared.event.Event.TheVariants as events
use Rattle.sbp_journal.specs.declared.note.Note.TheVariants as notes
use Rattle.sbp_target.specs.declared.purpose.Purpose.{Purpose}
use Rattle.sbp_target.specs.Nodes.{NodeState}
use Rattle.sbp_world.specs.Wire.Wires.{Stands, StandsAt, layers_of}
use Rattle.sbp_world.specs.Delivering.{marked}
use Rattle.sbp_world.specs.Worlds.{Scene, WorldState, with_note, without_notes}
use Rattle.sbp_world.proofs.Agents.Management.Still.{hist}
use Rattle.sbp_world.proofs.Wire.Deliver.{judged_marked}
use Rattle.sbp_world.proofs.Wire.Expires.{latest, timed_out_as}
use Rattle.sbp_world.proofs.Wire.Sound.{opens}
use Rattle.turn_laws.proofs.Places.{Place}

module _ (units ready : ℕ) (start : List Disk) (past : List Moment) (s : Scene) (here : Place units ready start past s) where
  abbrev w : WorldState
  w = s.world

  abbrev node : NodeState
  node = w.target

  -- ---- a time-out
  module _ (serial : ℕ) (request : Request) (found : find w.requests serial ≡ Some request) (zero_is : request.node ≡ 0) where
    abbrev pub Late : Layer Purpose → Type 0
    Late new = StandsAt past (upd (layers_of w) request.node (bare new)) None (with_note (notes.TimedOut serial) w)

    pub late_stands : (purpose : Option Purpose) (new : Layer Purpose) → expiring_step node.layer request.peer request.label ≡ (Ok purpose, new) → Late new
    late_stands purpose new e =
        let h = here.holds.sound.stands in
        let low : request.node ≤ length w.initiators = let z = zero_is in omega (arith, z) in
        let own : layers_of w request.node ≡ bare node.layer = ap (λ n. layers_of w n) zero_is in
        let last = latest w h serial request found low node.layer own request.peer in
        timed_out_as w h serial request found low node.layer own request.peer (λ same. ap (λ g. (terms h.wire.past).ids g last.to) (sym same) ∙ sym last.peer_is) purpose new e

  -- ---- a packet that comes: in a line that repeats it it need not be in flight
  module _ (serial : ℕ) (one : Sent) (found : found_sent serial w.store.kept ≡ Some one) (zero_to : one.to ≡ 0) where
    abbrev pub repeated : List Moment
    repeated = asked 0 (events.Repeat serial) ∷ hist past w

    abbrev pub alone : WorldState
    alone = without_notes w

    begun : Stands repeated alone
    begun = (opens 0 (events.Repeat serial) w refl here.holds.sound).stands

    repeats : (terms begun.wire.past).repeats ≡ true
    repeats = ap (λ x. (terms x).repeats) begun.is.past_is

    abbrev pub Judges : Finding Purpose × Layer Purpose → Type 0
    Judges f = StandsAt repeated (upd (layers_of alone) one.to (bare f.1)) (due_for (bare_finding f.0) None serial (as_sending one)) (with_note (first_note (bare_finding f.0) None serial) (marked serial true alone))

    pub judged_stands : Judges (judging_step node.layer one.generation one.bytes)
    judged_stands =
        let low : one.to ≤ length alone.initiators = let z = zero_to in omega (arith, z) in
        judged_marked alone begun serial one low node.layer (ap (λ n. layers_of alone n) zero_to) None refl found true repeats (λ f. absurd (let no : true ≡ false = f in cc))
