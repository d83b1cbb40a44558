-- Each unsolicited status of the terms is a write of the block, to the FIFO of a login where its receiver injected nothing, before each turn of every run: it is carried from place to place, beside whom one is pending to.
use Rattle.std.proofs.Common.{arith, ◌≡◌, ◌∙◌, refl, sym, ap, subst, ℕ, suc, ◌+◌, ◌<◌, Bool, true, false, List, [], ◌∷◌, ◌++◌, length, map, Option, Some, Result, Ok}
use Rattle.std.proofs.Math.Nat.{suc-ne-zero}
use Rattle.std.proofs.lemmas.Bool.Decides.{nat_tests}
use Rattle.bus_transactions.specs.Packets.{SerialsCount}
use Rattle.bus_transactions.specs.Wire.{as_sending}
use Rattle.label_table.specs.declared.reply.Stale.{Stale}
use Rattle.packet_store.specs.Kept.{found_sent}
use Rattle.packet_store.specs.declared.sent.Sent.{Sent}
use Rattle.rbc_disk.specs.Disk.{Disk}
use Rattle.rbc_disk.specs.Held.{Held as Media}
use Rattle.rbc_disk.specs.Runs.{Told}
use Rattle.sbp_bus.specs.Generations.{id_of}
use Rattle.sbp_bus.specs.Packets.{judged_note}
use Rattle.sbp_bus.specs.declared.requests.Request.{Request}
use Rattle.sbp_initiator.specs.Receiving.{receive_step}
use Rattle.sbp_initiator.specs.Seeing.{see_step}
use Rattle.sbp_journal.specs.Outgoings.{OutboxState, empty_outbox}
use Rattle.sbp_journal.specs.Run.{Moment, asked, said}
use Rattle.sbp_journal.specs.Transactions.{Sending}
use Rattle.sbp_journal.specs.Wire.{Terms, terms}
use Rattle.sbp_journal.specs.declared.cause.Judged.{Judged}
use Rattle.sbp_journal.specs.declared.cause.Judged.TheVariants as judgements
use Rattle.sbp_journal.specs.declared.event.Event.{Event}
use Rattle.sbp_journal.specs.declared.event.Event.TheVariants as events
use Rattle.sbp_journal.specs.declared.note.Note.{Note}
use Rattle.sbp_journal.specs.declared.note.Note.TheVariants as notes
use Rattle.sbp_laws.specs.Packets.{begun_in}
use Rattle.sbp_laws.specs.Turns.{EachTurn, Turn}
use Rattle.sbp_target.specs.Calls.{alone, lets_expire, receives, sees, ticks}
use Rattle.sbp_target.specs.Nodes.{NodeState}
use Rattle.sbp_target.specs.Nodes as target
use Rattle.sbp_target.specs.Receiving.{expired, received, seen, ticked}
use Rattle.sbp_target.specs.Replies.{Whole}
use Rattle.sbp_world.specs.Delivering.{faults_after, marked, whole_of}
use Rattle.sbp_world.specs.Handing.{handed_out}
use Rattle.sbp_world.specs.Hosts.Handing.{AreOthers}
use Rattle.sbp_world.specs.Lines.{weight_in}
use Rattle.sbp_world.specs.Making.{new_world}
use Rattle.sbp_world.specs.Nodes.{told_seen, with_seen}
use Rattle.sbp_world.specs.Settling.{settled_from}
use Rattle.sbp_world.specs.Worlds.{Scene, WorldState, initiator_at, with_initiator, with_note, with_target, without_notes}
use Rattle.sbp_world.proofs.Agents.Management.Delivery.{marked_generations}
use Rattle.sbp_world.proofs.Agents.Management.Holding.{was_sent}
use Rattle.sbp_world.proofs.Agents.Management.Still.{hist}
use Rattle.sbp_world.proofs.Formed.{AreOwn}
use Rattle.sbp_world.proofs.Hosts.SentMoments.{sent_now}
use Rattle.sbp_world.proofs.Lists.SentOwned.{AllOwned}
use Rattle.turn_laws.specs.Alone.{PushesAlone}
use Rattle.turn_laws.specs.Runs.{OfEveryRun}
use Rattle.turn_laws.proofs.Alone.{alone_cases, first_kept_here}
use Rattle.turn_laws.proofs.Calls.{Brings, CarriedCases, Stays, calls, injects, loses, refuses, refuses_action, resets, sets_key}
use Rattle.turn_laws.proofs.Handed.{onto}
use Rattle.turn_laws.proofs.LaterNotes.{owns_handed}
use Rattle.turn_laws.proofs.LaterTerms.{Clean}
use Rattle.turn_laws.proofs.Pass.{Begins, of_every_carried}
use Rattle.turn_laws.proofs.PendingCalls.{Fifos, all_owned, blocks_kept, sight_owned}
use Rattle.turn_laws.proofs.PendingFirsts.{got_injected, late_injected}
use Rattle.turn_laws.proofs.PendingHeard.{marked_same}
use Rattle.turn_laws.proofs.PendingOwn.{all_leave, pushes_same, there_laws}
use Rattle.turn_laws.proofs.PendingTerms.{ignored_same, upd_other}
use Rattle.turn_laws.proofs.PendingTurns.{Kept, line_clean, note_clean}
use Rattle.turn_laws.proofs.Places.{Place}
use Rattle.turn_laws.proofs.PushBlocks.{AreBlocks, calm_by, handed_blocks, line_blocks, moved_block, note_blocks}
use Rattle.turn_laws.proofs.PushSerials.{Has, counted}
use Rattle.turn_laws.proofs.SerialsStay.{IsNoSent}

module _ (units ready : ℕ) (has : 0 < units) (start : List Disk) (past : List Moment) (s : Scene) (here : Place units ready start past s) (b : AreBlocks start (hist past s.world)) where
  abbrev w : WorldState
  w = s.world

  abbrev ms : List Moment
  ms = hist past w

  abbrev t : Terms
  t = terms ms

  abbrev node : NodeState
  node = w.target

  abbrev nodes : ℕ
  nodes = length w.initiators

  -- ---- a packet is judged
  module _ (serial : ℕ) (one : Sent) (found : found_sent serial w.store.kept ≡ Some one) where
    judged_clean : (judged : Judged) → Clean (terms (said (judged_note serial judged) ∷ ms))
    judged_clean judgements.Got = note_clean units ready has start past s here (notes.Got serial) tt (got_injected serial (as_sending one) t (was_sent w here.holds.sound.stands serial one found))
    judged_clean (judgements.Ignored cause) = note_clean units ready has start past s here (notes.Ignored serial cause) tt (ignored_same (t.sent serial) cause serial t).1.1.1.1.0

    judged_blocks : (judged : Judged) → AreBlocks start (said (judged_note serial judged) ∷ ms)
    judged_blocks judgements.Got = note_blocks start ms b (notes.Got serial) tt
    judged_blocks (judgements.Ignored cause) = note_blocks start ms b (notes.Ignored serial cause) tt

    -- by the target
    module _ (again : Bool) (run : Option Told) where
      abbrev X : Judged × Whole
      X = received run one.generation one.bytes (whole_of node s.media)

      abbrev V : WorldState
      V = with_note (judged_note serial X.0) (marked serial again (with_target X.1.node w))

      pub heard_blocks : (media : Media) → AreOthers X.1.outbox.sides → Place units ready start past (record { world = handed_out 0 0 X.1.outbox V; media = media }) → AreBlocks start (hist past (handed_out 0 0 X.1.outbox V))
      heard_blocks media others there =
          let m = marked_same serial again (with_target X.1.node w) in
          blocks_kept units ready has start past s here (judged_note serial X.0) X.1.outbox V media (ap (λ ns. judged_note serial X.0 ∷ ns) m.1.1) there others
          (subst (λ (n : NodeState). AllOwned (Fifos ms nodes V.generations) n.layer X.1.outbox.packets) (sym m.0)
          (all_owned units ready has start past s here V.generations (marked_generations serial again (with_target X.1.node w)) (receives run s.media.disks one.generation one.bytes)))
          (judged_clean X.0) (ap (λ xs. length xs) m.1.0) (judged_blocks X.0)

  -- ---- a transaction of the target times out
  module _ (serial : ℕ) (request : Request) (done : Unit {0}) (x : target.Scene) (e : expired request.peer request.label (target.scene node empty_outbox) ≡ (Ok done, x)) (others : AreOthers x.outbox.sides) where
    abbrev lapsed : WorldState
    lapsed = with_note (notes.TimedOut serial) (with_target x.node w)

    pub late_blocks : Place units ready start past (record { world = handed_out 0 0 x.outbox lapsed; media = s.media }) → AreBlocks start (hist past (handed_out 0 0 x.outbox lapsed))
    late_blocks there =
        blocks_kept units ready has start past s here (notes.TimedOut serial) x.outbox lapsed s.media refl there others
        (subst (λ (y : target.Scene). AllOwned (Fifos ms nodes w.generations) y.node.layer y.outbox.packets) (ap (λ (z : Result (Unit {0}) Stale × target.Scene). z.1) e) (all_owned units ready has start past s here w.generations refl (lets_expire request.peer request.label)))
        (note_clean units ready has start past s here (notes.TimedOut serial) tt (late_injected (begun_in (t.sent serial)) t)) refl (note_blocks start ms b (notes.TimedOut serial) tt)

  -- ---- it sees a generation, and a second passes
  module _ (x : target.Scene) (others : AreOthers x.outbox.sides) where
    abbrev v : WorldState
    v = with_target x.node (with_seen 0 (told_seen 0 w))

    abbrev u : WorldState
    u = with_target x.node (with_note notes.Tick w)

    abbrev latest : ℕ
    latest = w.generations.latest.generation

    pub sight_blocks : x ≡ alone (sees latest (id_of w.generations.latest 0)) node → Place units ready start past (record { world = handed_out 0 0 x.outbox v; media = s.media }) → AreBlocks start (hist past (handed_out 0 0 x.outbox v))
    sight_blocks is there =
        blocks_kept units ready has start past s here (notes.Seen 0 latest) x.outbox v s.media refl there others
        (subst (λ (y : target.Scene). AllOwned (Fifos ms nodes v.generations) y.node.layer y.outbox.packets) (sym is) (sight_owned units ready has start past s here v.generations latest (id_of w.generations.latest 0)))
        (note_clean units ready has start past s here (notes.Seen 0 latest) tt refl) refl (note_blocks start ms b (notes.Seen 0 latest) tt)

    pub tick_blocks : x ≡ alone ticks node → Place units ready start past (record { world = handed_out 0 0 x.outbox u; media = s.media }) → AreBlocks start (hist past (handed_out 0 0 x.outbox u))
    tick_blocks is there =
        blocks_kept units ready has start past s here notes.Tick x.outbox u s.media refl there others
        (subst (λ (y : target.Scene). AllOwned (Fifos ms nodes w.generations) y.node.layer y.outbox.packets) (sym is) (all_owned units ready has start past s here w.generations refl ticks))
        (note_clean units ready has start past s here notes.Tick tt refl) refl (note_blocks start ms b notes.Tick tt)

  -- ---- a call of an initiator
  module _ (from weight : ℕ) (other : from ≡ 0 → ⊥) (outbox : OutboxState) (v : WorldState) (own : AreOwn outbox.sides) where
    abbrev Then : Scene
    Then = record { world = handed_out from weight outbox v; media = s.media }

    pub own_blocks : (note : Note) → v.fresh ≡ note ∷ w.fresh → Clean (terms (said note ∷ ms)) → AreBlocks start (said note ∷ ms) → Place units ready start past Then → AreBlocks start (hist past Then.world)
    own_blocks note fresh_is clean blocks there =
        handed_blocks units ready has start past (note ∷ w.fresh) from weight outbox v s.media fresh_is there (λ to bytes. Unit {0})
        (owns_handed (λ to bytes. Unit {0}) from weight outbox v own (all_leave from v.generations outbox.packets)) clean blocks (λ r h z x. absurd (other z))

    pub act_blocks : (line : ℕ) (event : Event) → v.fresh ≡ [] → Place units ready start (asked line event ∷ ms) Then → AreBlocks start (hist (asked line event ∷ ms) Then.world)
    act_blocks line event fresh_is there =
        handed_blocks units ready has start (asked line event ∷ ms) [] from weight outbox v s.media fresh_is there (λ to bytes. Unit {0})
        (owns_handed (λ to bytes. Unit {0}) from weight outbox v own (all_leave from v.generations outbox.packets))
        (line_clean units ready has start past s here line event) (line_blocks start ms b line event) (λ r h z x. absurd (other z))

  pub end_blocks : (done : Bool) → AreBlocks start (hist past (settled_from done s).world)
  end_blocks true = note_blocks start ms b notes.Settled tt
  end_blocks false = note_blocks start ms b notes.Stopped tt

  -- ---- another line
  module _ (k : Kept start (hist past s.world) s) (line : ℕ) (event : Event) (rest : List Note) (behind : Scene) (fresh : behind.world.fresh ≡ onto rest []) (there : Place units ready start (asked line event ∷ ms) behind) (stays : Stays w behind.world) where
    abbrev Blocks : List Note → Type 0
    Blocks ns = AreBlocks start (map said ns ++ asked line event ∷ ms)

    brought_as : Blocks (onto rest []) → AreBlocks start (hist (asked line event ∷ ms) behind.world)
    brought_as h = subst Blocks (sym fresh) h

    begins : AreBlocks start (asked line event ∷ ms)
    begins = line_blocks start ms b line event

    noted_line : (note : Note) → IsNoSent note → AreBlocks start (said note ∷ asked line event ∷ ms)
    noted_line note i = note_blocks start (asked line event ∷ ms) begins note i

    module _ (serial generation from to : ℕ) (bytes : List ℕ) where
      abbrev first : List Moment
      first = said (notes.Injected serial) ∷ asked line event ∷ ms

      abbrev second : List Moment
      second = said (notes.Sent serial generation from to bytes) ∷ first

      injected_blocks : SerialsCount second → (terms second).injects 0 ≡ false → AreBlocks start second
      injected_blocks count fair r h =
          let k_first = subst (λ xs. Has xs r) (pushes_same units ready has start past s here k line event serial generation from to bytes count fair) h in
          let small = (counted start first count.1).pushes r k_first in
          let next = count.0 in
          let q : Sending = record { generation = generation; from = from; to = to; bytes = bytes; injected = (terms first).injected serial } in
          moved_block first second (calm_by (said (notes.Sent serial generation from to bytes) ∷ []) first) ((terms first).sent r) ((terms second).sent r)
          (ap (λ f. f r) (sent_now first serial generation from to bytes) ∙ upd_other (terms first).sent serial r (Some q) (grind (arith, nat_tests)))
          (noted_line (notes.Injected serial) tt r k_first)

  pub brought_blocks : (k : Kept start (hist past s.world) s) (line : ℕ) (event : Event) (rest : List Note) (behind : Scene) → Brings line s event rest → behind.world.fresh ≡ onto rest [] → Place units ready start (asked line event ∷ ms) behind → Stays w behind.world → AreBlocks start (hist (asked line event ∷ ms) behind.world)
  brought_blocks k line event rest behind (calls is_event c) fresh there stays = brought_as k line event [] behind fresh there stays (begins k line event [] behind fresh there stays)
  brought_blocks k line event rest behind (refuses is_event refusal) fresh there stays =
      brought_as k line event (notes.Refused line refusal.number ∷ []) behind fresh there stays (noted_line k line event (notes.Refused line refusal.number ∷ []) behind fresh there stays (notes.Refused line refusal.number) tt)
  brought_blocks k line event rest behind (refuses_action i action number e) fresh there stays =
      brought_as k line (events.Act i action) (notes.Refused line number ∷ []) behind fresh there stays (noted_line k line (events.Act i action) (notes.Refused line number ∷ []) behind fresh there stays (notes.Refused line number) tt)
  brought_blocks k line event rest behind (resets physical generation e) fresh there stays =
      brought_as k line (events.Reset physical) (notes.Reset generation ∷ []) behind fresh there stays (noted_line k line (events.Reset physical) (notes.Reset generation ∷ []) behind fresh there stays (notes.Reset generation) tt)
  brought_blocks k line event rest behind (loses serial) fresh there stays =
      brought_as k line (events.Lose serial) (notes.Lost serial ∷ []) behind fresh there stays (noted_line k line (events.Lose serial) (notes.Lost serial ∷ []) behind fresh there stays (notes.Lost serial) tt)
  brought_blocks k line event rest behind (sets_key unit key) fresh there stays =
      brought_as k line (events.Key unit key) (notes.Key unit ∷ []) behind fresh there stays (noted_line k line (events.Key unit key) (notes.Key unit ∷ []) behind fresh there stays (notes.Key unit) tt)
  brought_blocks k line event rest behind (injects i bytes serial generation from to) fresh there stays =
      let notes_then = notes.Injected serial ∷ notes.Sent serial generation from to bytes ∷ [] in
      let laws = there_laws units ready has start past s here k line (events.Inject i bytes) notes_then behind fresh there stays (said (notes.Sent serial generation from to bytes) ∷ said (notes.Injected serial) ∷ asked line (events.Inject i bytes) ∷ ms) refl in
      brought_as k line (events.Inject i bytes) notes_then behind fresh there stays (injected_blocks k line (events.Inject i bytes) notes_then behind fresh there stays serial generation from to bytes laws.0 laws.1)

-- ---- over the pass
abbrev Carried : List Disk → List Moment → Scene → Type 0
Carried start ms s = Kept start ms s × AreBlocks start ms

abbrev pub WereBlocks : List Disk → Turn → Type 0
WereBlocks start t = AreBlocks start t.past

module _ (units ready : ℕ) (has : 0 < units) (start : List Disk) where
  abbrev Keeps : CarriedCases units ready start (Kept start) (PushesAlone start)
  Keeps = alone_cases units ready has start

  block_cases : CarriedCases units ready start (Carried start) (WereBlocks start)
  block_cases = record {
    heard = λ past s serial again run one found zero_to may others here behind judged k.
        let x = received run one.generation one.bytes (whole_of s.world.target s.media) in (
          k.1,
          ((Keeps.heard past s serial again run one found zero_to may others here behind judged k.0).1, heard_blocks units ready has start past s here k.1 serial one found again run (record { disks = x.1.disks; faults = faults_after run one s.world.target s.media }) others behind),
        );
    heard_own = λ past s serial again one i found to_is inside own here behind judged k.
        let x = receive_step one.generation one.bytes empty_outbox (initiator_at s.world i) in
        let note = judged_note serial x.0 in
        let v = with_note note (marked serial again (with_initiator i x.1.1 s.world)) in
        let m = marked_same serial again (with_initiator i x.1.1 s.world) in (
          k.1,
          (
            (Keeps.heard_own past s serial again one i found to_is inside own here behind judged k.0).1,
            own_blocks units ready has start past s here k.1 (suc i) 0 (suc-ne-zero i) x.1.0 v own note (ap (λ ns. note ∷ ns) m.1.1) (judged_clean units ready has start past s here k.1 serial one found x.0) (judged_blocks units ready has start past s here k.1 serial one found x.0) behind,
          ),
        );
    late = λ past s serial request done t found node_is e others here behind judged k.
        (k.1, ((Keeps.late past s serial request done t found node_is e others here behind judged k.0).1, late_blocks units ready has start past s here k.1 serial request done t e others behind));
    late_own = λ past s serial request i outbox state found node_is inside e own here behind judged k.
        let v = with_note (notes.TimedOut serial) (with_initiator i state s.world) in
        let ms = hist past s.world in (
          k.1,
          (
            (Keeps.late_own past s serial request i outbox state found node_is inside e own here behind judged k.0).1,
            own_blocks units ready has start past s here k.1 (suc i) 0 (suc-ne-zero i) outbox v own (notes.TimedOut serial) refl (note_clean units ready has start past s here (notes.TimedOut serial) tt (late_injected (begun_in ((terms ms).sent serial)) (terms ms))) (note_blocks start ms k.1 (notes.TimedOut serial) tt) behind,
          ),
        );
    sees = λ past s others here behind judged k.
        let g = s.world.generations.latest in
        let x = (seen g.generation (id_of g 0) (target.scene s.world.target empty_outbox)).1 in
        (k.1, ((Keeps.sees past s others here behind judged k.0).1, sight_blocks units ready has start past s here k.1 x others refl behind));
    sees_own = λ past s i inside own here behind judged k.
        let g = s.world.generations.latest in
        let x = see_step g.generation (id_of g (suc i)) (id_of g 0) empty_outbox (initiator_at s.world i) in
        let v = with_initiator i x.1 (with_seen (suc i) (told_seen (suc i) s.world)) in
        let note = notes.Seen (suc i) g.generation in (
          k.1,
          (
            (Keeps.sees_own past s i inside own here behind judged k.0).1,
            own_blocks units ready has start past s here k.1 (suc i) 0 (suc-ne-zero i) x.0 v own note refl (note_clean units ready has start past s here note tt refl) (note_blocks start (hist past s.world) k.1 note tt) behind,
          ),
        );
    ticks = λ past s others here behind judged k.
        let x = ticked (target.scene s.world.target empty_outbox) in
        (k.1, ((Keeps.ticks past s others here behind judged k.0).1, tick_blocks units ready has start past s here k.1 x others refl behind));
    ends = λ past s done here behind k. (k.1, ((Keeps.ends past s done here behind k.0).1, end_blocks units ready has start past s here k.1 done));
    acts = λ past s line i action outbox state inside e own here behind k.
        let v = with_initiator i state (without_notes s.world) in
        (k.1, ((Keeps.acts past s line i action outbox state inside e own here behind k.0).1, act_blocks units ready has start past s here k.1 (i + 1) (weight_in action) (λ z. absurd (omega (arith, z))) outbox v own line (events.Act i action) refl behind));
    lines = λ past s line event rest behind brings fresh here there stays k.
        (k.1, ((Keeps.lines past s line event rest behind brings fresh here there stays k.0).1, brought_blocks units ready has start past s here k.1 k.0 line event rest behind brings fresh there stays));
    begins = λ line initiators is_ready r h. absurd h;
  }

first_blocks : Begins Carried
unfolding new_world
first_blocks line run has there = (first_kept_here line run has there, λ r h. absurd h)

pub blocks_law : OfEveryRun (λ start past. EachTurn (WereBlocks start) past)
blocks_law = of_every_carried Carried WereBlocks first_blocks (λ units ready start has. block_cases units ready has start)
