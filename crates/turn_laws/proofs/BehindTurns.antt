-- A law of what stands behind each turn holds of every run where it is known at each place, and as a run begins.
use Rattle.std.proofs.Common.{◌≡◌, ◌∙◌, refl, sym, ap, subst, ℕ, suc, ◌+◌, ◌<◌, Bool, List, [], ◌∷◌, ◌++◌, map, reverse}
use Rattle.std.proofs.lemmas.Grind.{reverse_onto}
use Rattle.rbc_disk.specs.Disk.{Disk}
use Rattle.sbp_bus.specs.Generations.{id_of}
use Rattle.sbp_bus.specs.Packets.{judged_note}
use Rattle.sbp_initiator.specs.Receiving.{receive_step}
use Rattle.sbp_initiator.specs.Seeing.{see_step}
use Rattle.sbp_journal.specs.Outgoings.{OutboxState, empty_outbox}
use Rattle.sbp_journal.specs.Run.{Moment, asked, said}
use Rattle.sbp_journal.specs.declared.event.Event.{Event}
use Rattle.sbp_journal.specs.declared.event.Event.TheVariants as events
use Rattle.sbp_journal.specs.declared.note.Note.{Note}
use Rattle.sbp_journal.specs.declared.note.Note.TheVariants as notes
use Rattle.sbp_laws.specs.SentLaw.{end_of}
use Rattle.sbp_laws.specs.Turns.{EachTurn, turn}
use Rattle.sbp_target.specs.Nodes as target
use Rattle.sbp_target.specs.Receiving.{received, seen, ticked}
use Rattle.sbp_world.specs.Delivering.{marked, whole_of}
use Rattle.sbp_world.specs.Handing.{handed_out}
use Rattle.sbp_world.specs.Lines.{weight_in}
use Rattle.sbp_world.specs.Making.{notes_begin}
use Rattle.sbp_world.specs.Nodes.{told_seen, with_seen}
use Rattle.sbp_world.specs.Worlds.{Scene, WorldState, initiator_at, with_initiator, with_note, with_target, without_notes}
use Rattle.sbp_world.proofs.Agents.Management.Still.{hist}
use Rattle.sbp_world.proofs.Common.{said_split}
use Rattle.sbp_world.proofs.Lists.Extends.{marked_fresh}
use Rattle.turn_laws.specs.Runs.{OfEveryRun}
use Rattle.turn_laws.proofs.Calls.{Cases}
use Rattle.turn_laws.proofs.Handed.{handed, handed_fresh, onto}
use Rattle.turn_laws.proofs.Pass.{of_every_run}
use Rattle.turn_laws.proofs.Places.{Place}

-- the notes of a turn, the latest first, behind what stood before it
pub behind_is : (rest old : List Note) (past : List Moment) → map said (reverse rest) ++ (map said old ++ past) ≡ map said (onto rest old) ++ past
behind_is [] old past = refl
behind_is (note ∷ rest) old past =
    let before = map said old ++ past in
    ap (λ ns. map said ns ++ before) (reverse_onto rest note []) ∙ said_split (reverse rest) (note ∷ []) before ∙ behind_is rest (note ∷ old) past

module _ (P : List Disk → List Moment → Type 0) (start : List Disk) where
  -- behind a note that begins a turn, and behind a line
  pub noted : (note : Note) (node : ℕ) (outbox : OutboxState) (w v : WorldState) (past : List Moment) → v.fresh ≡ note ∷ w.fresh
      → P start (hist past (handed_out node 0 outbox v)) → P start (end_of (turn (hist past w) (said note) (handed node 0 outbox v)))
  noted note node outbox w v past fresh p =
      let rest = handed node 0 outbox v in
      subst (P start) (ap (λ ns. map said ns ++ past) (handed_fresh node 0 outbox v ∙ ap (onto rest) fresh) ∙ sym (behind_is rest (note ∷ w.fresh) past)) p

  pub lined : (line : ℕ) (event : Event) (rest fresh : List Note) (before : List Moment) → fresh ≡ onto rest []
      → P start (map said fresh ++ asked line event ∷ before) → P start (end_of (turn before (asked line event) rest))
  lined line event rest fresh before is p =
      subst (P start) (ap (λ ns. map said ns ++ asked line event ∷ before) is ∙ sym (behind_is rest [] (asked line event ∷ before))) p

module _ (P : List Disk → List Moment → Type 0) (known : (units ready : ℕ) (start : List Disk) → 0 < units → (past : List Moment) (s : Scene) → Place units ready start past s → P start (hist past s.world)) (first : (start : List Disk) (line initiators : ℕ) (is_ready : Bool) → P start (said (notes_begin initiators is_ready) ∷ asked line (events.Begin initiators is_ready) ∷ [])) where
  module _ (units ready : ℕ) (has : 0 < units) (start : List Disk) where
    abbrev knows : (past : List Moment) (s : Scene) → Place units ready start past s → P start (hist past s.world)
    knows past s here = known units ready start has past s here

    behind_cases : Cases units ready start (λ t. P start (end_of t))
    behind_cases = record {
      heard = λ past s serial again run one found zero_to may others here behind judged.
          let x = received run one.generation one.bytes (whole_of s.world.target s.media) in
          let u = with_target x.1.node s.world in
          let note = judged_note serial x.0 in
          noted P start note 0 x.1.outbox s.world (with_note note (marked serial again u)) past (ap (λ ns. note ∷ ns) (marked_fresh serial again u)) (knows past _ behind);
      heard_own = λ past s serial again one i found to_is inside own here behind judged.
          let x = receive_step one.generation one.bytes empty_outbox (initiator_at s.world i) in
          let u = with_initiator i x.1.1 s.world in
          let note = judged_note serial x.0 in
          noted P start note (suc i) x.1.0 s.world (with_note note (marked serial again u)) past (ap (λ ns. note ∷ ns) (marked_fresh serial again u)) (knows past _ behind);
      late = λ past s serial request done t found node_is e others here behind judged.
          let note = notes.TimedOut serial in noted P start note 0 t.outbox s.world (with_note note (with_target t.node s.world)) past refl (knows past _ behind);
      late_own = λ past s serial request i outbox state found node_is inside e own here behind judged.
          let note = notes.TimedOut serial in noted P start note (suc i) outbox s.world (with_note note (with_initiator i state s.world)) past refl (knows past _ behind);
      sees = λ past s others here behind judged.
          let g = s.world.generations.latest in
          let x = (seen g.generation (id_of g 0) (target.scene s.world.target empty_outbox)).1 in
          noted P start (notes.Seen 0 g.generation) 0 x.outbox s.world (with_target x.node (with_seen 0 (told_seen 0 s.world))) past refl (knows past _ behind);
      sees_own = λ past s i inside own here behind judged.
          let g = s.world.generations.latest in
          let x = see_step g.generation (id_of g (suc i)) (id_of g 0) empty_outbox (initiator_at s.world i) in
          noted P start (notes.Seen (suc i) g.generation) (suc i) x.0 s.world (with_initiator i x.1 (with_seen (suc i) (told_seen (suc i) s.world))) past refl (knows past _ behind);
      ticks = λ past s others here behind judged.
          let x = ticked (target.scene s.world.target empty_outbox) in
          noted P start notes.Tick 0 x.outbox s.world (with_target x.node (with_note notes.Tick s.world)) past refl (knows past _ behind);
      ends = λ past s done here behind. knows past _ behind;
      acts = λ past s line i action outbox state inside e own here behind.
          let w = with_initiator i state (without_notes s.world) in
          let rest = handed (i + 1) (weight_in action) outbox w in
          let later = handed_out (i + 1) (weight_in action) outbox w in
          lined P start line (events.Act i action) rest later.fresh (hist past s.world) (handed_fresh (i + 1) (weight_in action) outbox w)
          (knows (asked line (events.Act i action) ∷ hist past s.world) _ behind);
      lines = λ past s line event rest behind brings fresh here there.
          lined P start line event rest behind.world.fresh (hist past s.world) fresh (knows (asked line event ∷ hist past s.world) behind there);
      begins = λ line initiators is_ready. first start line initiators is_ready;
    }

  pub behind_every_turn : OfEveryRun (λ start past. EachTurn (λ t. P start (end_of t)) past)
  behind_every_turn = of_every_run (λ start t. P start (end_of t)) (λ units ready start has. behind_cases units ready has start)
