-- A law of turns holds of every turn of every run where it holds of the turn of each call. This is the one place where a line, a delivery and what a world does of them are
-- opened for such laws. With a law something may be carried from place to place: it holds where a run begins, and of the place behind each turn where it held before.
use Rattle.std.proofs.Common.{arith, ◌≡◌, ◌∙◌, refl, sym, ap, subst, ℕ, zero, suc, ◌+◌, ◌-◌, ◌==◌, ◌^◌, ◌<◌, ◌≤◌, nat_lt, Bool, true, false, cond, List, [], ◌∷◌, ◌++◌, map, length, Option, Some, None, Result, Ok, Err}
use Rattle.std.proofs.lemmas.List.{set-get_or}
use Rattle.std.proofs.lemmas.Bool.Decides.{nat_tests}
use Rattle.bus_transactions.specs.Judging.{AreJudged}
use Rattle.bus_transactions.specs.May.{is_reset}
use Rattle.label_table.specs.declared.reply.Stale.{Stale}
use Rattle.packet_store.specs.declared.sent.Sent.{Sent}
use Rattle.packet_store.specs.Kept.{found_sent}
use Rattle.rbc_disk.specs.Disk.{Disk}
use Rattle.rbc_disk.specs.Held.{Held}
use Rattle.rbc_disk.specs.Runs.{Told}
use Rattle.sbp_bus.specs.declared.requests.Request.{Request}
use Rattle.sbp_bus.specs.Generations.{id_of, topology_at}
use Rattle.sbp_bus.specs.Packets.{judged_note, no_node, no_packet}
use Rattle.sbp_bus.specs.Requests.{find}
use Rattle.sbp_initiator.proofs.FirstRow.{refusal_law}
use Rattle.sbp_initiator.specs.Acting.{act_step}
use Rattle.sbp_initiator.specs.declared.state.InitiatorState.{InitiatorState}
use Rattle.sbp_initiator.specs.Effects.{Turn as Called}
use Rattle.sbp_initiator.specs.Initiators.{new_state}
use Rattle.sbp_initiator.specs.Receiving.{expire_step, receive_step}
use Rattle.sbp_initiator.specs.Seeing.{see_step}
use Rattle.sbp_journal.specs.Outgoings.{OutboxState, empty_outbox}
use Rattle.sbp_journal.specs.Run.{Moment, asked, said}
use Rattle.sbp_journal.specs.declared.event.Action.{Action}
use Rattle.sbp_journal.specs.declared.event.Event.{Event}
use Rattle.sbp_journal.specs.declared.event.Event.TheVariants as events
use Rattle.sbp_journal.specs.declared.note.Note.{Note}
use Rattle.sbp_journal.specs.declared.note.Note.TheVariants as notes
use Rattle.sbp_laws.specs.Turns.{EachTurn, Turn, turn}
use Rattle.sbp_target.specs.Nodes as target
use Rattle.sbp_target.specs.Receiving.{expired, received, seen, ticked, with_key}
use Rattle.sbp_world.specs.Delivering.{MayAt as MayCome, MayReceive, MayTold, arrived, at_target, delivered, delivered_by, faults_after, initiator_received, initiators_received, marked, received_by, received_step, target_received, whole_of}
use Rattle.sbp_world.specs.Handing.{handed_out}
use Rattle.sbp_world.specs.Histories.{moments_behind}
use Rattle.sbp_world.specs.Hosts.Runs.{more_deliveries}
use Rattle.sbp_world.specs.Lines.{MayHappen, acted, acted_by, happens, keyed, no_unit, weight_in}
use Rattle.sbp_world.specs.Making.{new_world, ready_logins}
use Rattle.sbp_world.specs.Nodes.{handed_all, initiator_learns, reset_line, see_line, target_learns, target_sees, target_ticks, tick_line, told_seen, with_seen}
use Rattle.sbp_world.specs.Nodes as nodes
use Rattle.sbp_world.specs.Packets.{MayIf, delivered_if, expires, initiator_expires, inject_line, injected, injected_to, is_in_flight, lose_line, lost, may_repeat, refused, target_expired, target_left, timed_out, timeout_line, timeout_of}
use Rattle.sbp_world.specs.Packets as packets
use Rattle.sbp_world.specs.Runs.{AreEntries, Entry, Run, after, beginning}
use Rattle.sbp_world.specs.Sending.{posted}
use Rattle.sbp_world.specs.Settling.{MayAll, MayAt, MayNext, after_all, delivered_at, delivered_next, is_settled, lowest, settled_from}
use Rattle.sbp_world.specs.Wire.Lines.{AreLines, IsLine}
use Rattle.sbp_world.specs.Worlds.{Scene, WorldState, begun, initiator_at, scene, with_initiator, with_note, with_target, without_notes}
use Rattle.sbp_world.proofs.Common.{untrue}
use Rattle.sbp_world.proofs.Agents.Management.Begins.{first_holds, first_past}
use Rattle.sbp_world.proofs.Agents.Management.Holding.{Holding}
use Rattle.sbp_world.proofs.InitiatorForms as own
use Rattle.sbp_world.proofs.Agents.Management.Lines.{line_holds}
use Rattle.sbp_world.proofs.Formed.{AreOwn}
use Rattle.sbp_world.specs.Hosts.Handing.{AreOthers}
use Rattle.sbp_world.proofs.Agents.Management.Still.{hist}
use Rattle.sbp_world.proofs.Hosts.Hands.{hand_law}
use Rattle.sbp_world.proofs.Hosts.Pointed.{stale_is}
use Rattle.sbp_world.proofs.Lists.Extends.{marked_fresh}
use Rattle.sbp_world.proofs.Lists.SendsLast.{IsStart, judged_starts}
use Rattle.sbp_world.proofs.Wire.Comes.{own_inside, own_outside, received_is, to_own, to_zero}
use Rattle.sbp_world.proofs.Wire.Starts.{laws_of}
use Rattle.sbp_world.proofs.Wire.ToldBytes.{happened_fits}
use Rattle.turn_laws.specs.Runs.{OfEveryRun}
use Rattle.turn_laws.proofs.Calls.{Brings, CarriedCases, Cases, IsCalling, IsNoted, Stays, calls, calls_nodes, in_scene, is_act, injects, loses, refuses, refuses_action, resets, sets_key}
use Rattle.turn_laws.proofs.Handed.{AllInner, AreInner, handed, handed_fresh, handed_inner, onto, others_inner, own_inner}
use Rattle.turn_laws.proofs.Places.{Place, begun_place, between_place, ended_place}
use Rattle.turn_laws.proofs.Turns.{Turns, by_line, by_note, judged_before}

-- an initiator that is set as it was
set_as_was : (w : WorldState) (i : ℕ) (state : InitiatorState) → state ≡ initiator_at w i → (with_initiator i state w).initiators ≡ w.initiators
set_as_was w i state e = ap (λ x. (with_initiator i x w).initiators) e ∙ set-get_or w.initiators i (new_state 0 false)

-- a line that calls nodes is no action
pub call_no_act : (event : Event) → calls_nodes event ≡ true → is_act event ≡ false
call_no_act (events.Act i action) e = untrue e
call_no_act _ e = refl

module _ (units ready : ℕ) (start : List Disk) (K : List Moment → Scene → Type 0) (L : Turn → Type 0) (cases : CarriedCases units ready start K L) where
  abbrev At : List Moment → Scene → Type 0
  At past s = Place units ready start past s

  abbrev Each : List Moment → Type 0
  Each ms = Turns L ms []

  abbrev E : List Moment → Scene → Type 0
  E ms s = Each ms × K ms s

  -- ---- the calls of nodes behind the first note of a turn
  module _ (past : List Moment) (s : Scene) (here : At past s) (before : E (hist past s.world) s) (calling : IsCalling past) where
    abbrev w : WorldState
    w = s.world

    -- each turn of the history is so, where this is the next place
    abbrev Q : Scene → Type 0
    Q t = At past t → E (hist past t.world) t

    module _ (note : Note) (starts : IsStart note) (node : ℕ) (outbox : OutboxState) (v : WorldState) (media : Held) (fresh_is : v.fresh ≡ note ∷ w.fresh) (inner : AreInner outbox.sides) where
      abbrev rest : List Note
      rest = handed node 0 outbox v

      abbrev later : Scene
      later = record { world = handed_out node 0 outbox v; media = media }

      all_is : (handed_out node 0 outbox v).fresh ≡ onto rest (note ∷ w.fresh)
      all_is = handed_fresh node 0 outbox v ∙ ap (onto rest) fresh_is

      noted : At past later → IsNoted past w note
      noted there = record {
        judged = judged_before rest (note ∷ w.fresh) past (subst (λ ns. AreJudged (map said ns ++ past)) all_is (laws_of past later.world there.holds.sound.stands).judged);
        line = calling;
      }

      turned : (At past s → At past later → IsNoted past w note → K (hist past w) s → L (turn (hist past w) (said note) rest) × K (hist past later.world) later) → Q later
      turned law there =
          let r = law here there (noted there) before.1 in
          (subst (λ ns. Each (map said ns ++ past)) (sym all_is) (by_note L note starts rest w.fresh past (handed_inner node 0 outbox v inner) r.0 before.0), r.1)

    -- a packet is delivered
    module _ (serial : ℕ) (again : Bool) (run : Option Told) where
      module _ (one : Sent) (found : found_sent serial w.store.kept ≡ Some one) where
        target_comes : one.to ≡ 0 → MayTold true run one s → Q (delivered serial again run s)
        unfolding delivered target_received arrived
        target_comes zero_to may =
            let x = received run one.generation one.bytes (whole_of w.target s.media) in
            let faults = faults_after run one w.target s.media in
            let v = with_note (judged_note serial x.0) (marked serial again (with_target x.1.node w)) in
            let At_node : ℕ → Scene = λ n. scene (handed_out n 0 x.1.outbox v) x.1.disks faults in
            let last_is : delivered serial again run s ≡ At_node 0 =
            ap (delivered_by serial again)
            (received_is run serial s one found ∙ ap (λ b. cond b (at_target one.to (target_received run one w.target s.media) s) (initiator_received one s)) (to_zero one.to zero_to)) ∙ ap At_node zero_to in
            subst Q (sym last_is)
            (turned (judged_note serial x.0) (judged_starts serial x.0) 0 x.1.outbox v (At_node 0).media (ap (λ ns. judged_note serial x.0 ∷ ns) (marked_fresh serial again (with_target x.1.node w)))
            (others_inner x.1.outbox.sides (hand_law.received run one w.target s.media may)) (cases.heard past s serial again run one found zero_to may (hand_law.received run one w.target s.media may)))

        own_comes : (i : ℕ) → one.to ≡ suc i → i < length w.initiators → Q (delivered serial again run s)
        unfolding delivered initiators_received arrived
        own_comes i to_is inside =
            let old = initiator_at w i in
            let x = receive_step one.generation one.bytes empty_outbox old in
            let told : AreOwn x.1.0.sides = own.receives one.generation one.bytes empty_outbox old tt in
            let u = with_initiator i x.1.1 w in
            let v = with_note (judged_note serial x.0) (marked serial again u) in
            let At_node : ℕ → Scene = λ n. in_scene (handed_out n 0 x.1.0 v) s in
            let last_is : delivered serial again run s ≡ At_node (suc i) =
            ap (delivered_by serial again) (to_own run serial i s one found to_is ∙ own_inside one i s inside) ∙ ap At_node to_is in
            subst Q (sym last_is)
            (turned (judged_note serial x.0) (judged_starts serial x.0) (suc i) x.1.0 v s.media (ap (λ ns. judged_note serial x.0 ∷ ns) (marked_fresh serial again u))
            (own_inner x.1.0.sides told) (cases.heard_own past s serial again one i found to_is inside told))

        none_comes : (i : ℕ) → one.to ≡ suc i → length w.initiators ≤ i → Q (delivered serial again run s)
        unfolding delivered
        none_comes i to_is outside there =
            subst (λ (t : Scene). E (hist past t.world) t) (sym (ap (delivered_by serial again) (to_own run serial i s one found to_is ∙ own_outside one i s outside))) before

        comes_at : (to : ℕ) → one.to ≡ to → (one.to ≡ 0 → MayTold true run one s) → Q (delivered serial again run s)
        comes_at zero e may = target_comes e (may e)
        comes_at (suc i) e may = by (nat_lt i (length w.initiators)) refl
          where
            by : (b : Bool) → nat_lt i (length w.initiators) ≡ b → Q (delivered serial again run s)
            by true f = own_comes i e (grind (arith, nat_tests))
            by false f = none_comes i e (grind (arith, nat_tests))

      comes_by : (found : Option Sent) → found_sent serial w.store.kept ≡ found → MayCome run found s → Q (delivered serial again run s)
      unfolding delivered received_step
      comes_by None e may = λ there. subst (λ (t : Scene). E (hist past t.world) t) (sym (ap (λ o. delivered_by serial again (received_by run o s)) e)) before
      comes_by (Some one) e may = comes_at one e one.to refl (λ z. subst (λ b. MayTold b run one s) (to_zero one.to z) may)

      pub comes : MayReceive run serial s → Q (delivered serial again run s)
      unfolding MayReceive
      comes may = comes_by (found_sent serial w.store.kept) refl may

    lowest_comes : (run : Option Told) (o : Option ℕ) → MayAt o run s → Q (delivered_at o run s)
    lowest_comes run None may = absurd may
    lowest_comes run (Some serial) may = comes serial false run may

    pub next_comes : (run : Option Told) → MayNext run s → Q (delivered_next run s)
    unfolding delivered_next MayNext
    next_comes run may = lowest_comes run (lowest w) may

    -- a line that settles ends
    pub settles : (done : Bool) → Q (settled_from done s)
    settles true there = let r = cases.ends past s true here there before.1 in ((r.0, before.0), r.1)
    settles false there = let r = cases.ends past s false here there before.1 in ((r.0, before.0), r.1)

    -- a generation is seen
    target_sight : Q (in_scene (see_line 0 w) s)
    unfolding see_line nodes.sees target_sees
    target_sight =
        let g = w.generations.latest in
        let x = (seen g.generation (id_of g 0) (target.scene w.target empty_outbox)).1 in
        turned (notes.Seen 0 g.generation) tt 0 x.outbox (with_target x.node (with_seen 0 (told_seen 0 w))) s.media refl
        (others_inner x.outbox.sides (hand_law.sees g.generation (id_of g 0) w.target)) (cases.sees past s (hand_law.sees g.generation (id_of g 0) w.target))

    own_sight : (i : ℕ) → i < length w.initiators → Q (in_scene (see_line (suc i) w) s)
    unfolding see_line nodes.sees
    own_sight i inside =
        let g = w.generations.latest in
        let one = with_seen (suc i) (told_seen (suc i) w) in
        let other : (suc i == 0) ≡ false = grind (arith, nat_tests) in
        let At_own : ℕ → WorldState = λ j. (let y = see_step g.generation (id_of g (suc i)) (id_of g 0) empty_outbox (initiator_at w j) in handed_out (suc i) 0 y.0 (with_initiator j y.1 one)) in
        let last_is : see_line (suc i) w ≡ At_own i =
        ap (λ b. handed_all (suc i) (cond b (target_learns one) (initiator_learns (suc i) one))) other ∙ ap At_own (let z : suc i - 1 ≡ i = omega arith in z) in
        let x = see_step g.generation (id_of g (suc i)) (id_of g 0) empty_outbox (initiator_at w i) in
        let told : AreOwn x.0.sides = own.sees g.generation (id_of g (suc i)) (id_of g 0) empty_outbox (initiator_at w i) tt in
        subst (λ (v : WorldState). Q (in_scene v s)) (sym last_is)
        (turned (notes.Seen (suc i) g.generation) tt (suc i) x.0 (with_initiator i x.1 one) s.media refl
        (own_inner x.0.sides told) (cases.sees_own past s i inside told))

    pub sights : (node : ℕ) → node ≤ length w.initiators → Q (in_scene (see_line node w) s)
    sights zero l = target_sight
    sights (suc i) l = own_sight i (omega arith)

    -- a second passes
    pub second : Q (in_scene (tick_line w) s)
    unfolding tick_line target_ticks
    second =
        let x = ticked (target.scene w.target empty_outbox) in
        turned notes.Tick tt 0 x.outbox (with_target x.node (with_note notes.Tick w)) s.media refl (others_inner x.outbox.sides (hand_law.ticks w.target)) (cases.ticks past s (hand_law.ticks w.target))

    -- a transaction times out, or the line is refused
    module _ (line serial : ℕ) (refusal : (v : WorldState) → v.fresh ≡ w.fresh → Stays w v → Q (in_scene (refused line no_packet v) s)) where
      unchanged : Stays w w
      unchanged = (refl, (refl, refl))

      of_initiator : (i : ℕ) (state : InitiatorState) → state ≡ initiator_at w i → Stays w (with_initiator i state w)
      of_initiator i state same = (refl, (refl, set_as_was w i state same))

      abbrev W : WorldState → Type 0
      W v = Q (in_scene v s)

      module _ (request : Request) (found : find w.requests serial ≡ Some request) where
        target_lapse : request.node ≡ 0 → (y : Result (Unit {0}) Stale × target.Scene) → expired request.peer request.label (target.scene w.target empty_outbox) ≡ y → W (timed_out line serial request.node (packets.at_target (target_left y w.target) w))
        target_lapse zero_node (Ok done, t) e =
            let v = with_note (notes.TimedOut serial) (with_target t.node w) in
            let told : AreOthers t.outbox.sides = subst (λ (z : Result (Unit {0}) Stale × target.Scene). AreOthers z.1.outbox.sides) e (hand_law.expires request.peer request.label w.target) in
            subst (λ n. W (handed_out n 0 t.outbox v)) (sym zero_node)
            (turned (notes.TimedOut serial) tt 0 t.outbox v s.media refl
            (others_inner t.outbox.sides told) (cases.late past s serial request done t found zero_node e told))
        target_lapse zero_node (Err stale, t) e = refusal (with_target w.target w) refl unchanged

        own_lapse : (i : ℕ) → request.node ≡ suc i → i < length w.initiators → (x : Bool × Called) → expire_step request.label empty_outbox (initiator_at w i) ≡ x → W (timed_out line serial (suc i) (packets.at_initiator i x w))
        own_lapse i node_is inside (true, (outbox, state)) e =
            let v = with_note (notes.TimedOut serial) (with_initiator i state w) in
            let told : AreOwn outbox.sides = subst (λ (z : Bool × Called). own.At z.1) e (own.expires request.label empty_outbox (initiator_at w i) tt) in
            turned (notes.TimedOut serial) tt (suc i) outbox v s.media refl
            (own_inner outbox.sides told) (cases.late_own past s serial request i outbox state found node_is inside e told)
        own_lapse i node_is inside (false, (outbox, state)) e =
            let same = stale_is true request.label (initiator_at w i) (ap (λ (z : Bool × Called). z.0) e) in refusal (with_initiator i state w) refl (of_initiator i state (sym (ap (λ (z : Bool × Called). z.1.1) e) ∙ same))

        abbrev ExpiredAt : ℕ → ℕ → WorldState
        ExpiredAt n j = timed_out line serial n (cond (nat_lt j (length w.initiators)) (packets.at_initiator j (expire_step request.label empty_outbox (initiator_at w j)) w) (false, (empty_outbox, w)))

        own_lapses : (i : ℕ) → request.node ≡ suc i → W (timed_out line serial request.node (initiator_expires request w))
        own_lapses i node_is = subst W (sym last_is) (by (nat_lt i (length w.initiators)) refl)
          where
            last_is : timed_out line serial request.node (initiator_expires request w) ≡ ExpiredAt (suc i) i
            last_is = ap (ExpiredAt request.node) (let z : request.node - 1 ≡ i = omega arith in z) ∙ ap (λ n. ExpiredAt n i) node_is

            by : (b : Bool) → nat_lt i (length w.initiators) ≡ b → W (timed_out line serial (suc i) (cond b (packets.at_initiator i (expire_step request.label empty_outbox (initiator_at w i)) w) (false, (empty_outbox, w))))
            by true f = own_lapse i node_is (grind (arith, nat_tests)) (expire_step request.label empty_outbox (initiator_at w i)) refl
            by false f = refusal w refl unchanged

        lapses_at : (node : ℕ) → request.node ≡ node → W (timed_out line serial request.node (expires request w))
        unfolding expires target_expired
        lapses_at zero e =
            subst (λ b. W (timed_out line serial request.node (cond b (packets.at_target (target_expired request w.target) w) (initiator_expires request w)))) (sym (to_zero request.node e))
            (target_lapse e (expired request.peer request.label (target.scene w.target empty_outbox)) refl)
        lapses_at (suc i) e =
            let other : (request.node == 0) ≡ false = grind (arith, nat_tests) in
            subst (λ b. W (timed_out line serial request.node (cond b (packets.at_target (target_expired request w.target) w) (initiator_expires request w)))) (sym other) (own_lapses i e)

      late_by : (request : Option Request) → find w.requests serial ≡ request → W (timeout_of request line serial w)
      late_by None e = refusal w refl unchanged
      late_by (Some request) e = lapses_at request e request.node refl

      pub late : W (timeout_line line serial w)
      unfolding timeout_line
      late = late_by (find w.requests serial) refl

  -- ---- a line
  module _ (past : List Moment) (s : Scene) (here : At past s) (before : E (hist past s.world) s) (line : ℕ) where
    abbrev first : WorldState
    first = without_notes s.world

    module _ (event : Event) where
      abbrev now : List Moment
      now = asked line event ∷ hist past s.world

      abbrev Goes : Scene → Type 0
      Goes t = At now t → E (hist now t.world) t

      plain : (rest : List Note) (t : Scene) → Brings line s event rest → t.world.fresh ≡ onto rest [] → AllInner rest → Stays s.world t.world → Goes t
      plain rest t brings fresh inner stays there =
          let r = cases.lines past s line event rest t brings fresh here there stays before.1 in
          (subst (λ ns. Each (map said ns ++ now)) (sym fresh) (by_line L line event rest (hist past s.world) inner r.0 before.0), r.1)

      refuses_in : is_act event ≡ false → (number : ℕ) (v : WorldState) → v.fresh ≡ [] → Stays s.world v → Goes (in_scene (refused line number v) s)
      refuses_in other number v none stays = plain (notes.Refused line number ∷ []) (in_scene (refused line number v) s) (refuses event (record { number = number; no_act = other })) (ap (λ ns. notes.Refused line number ∷ ns) none) (tt, tt) stays

      refuses_line : is_act event ≡ false → (number : ℕ) → Goes (in_scene (refused line number first) s)
      refuses_line other number = refuses_in other number first refl (refl, (refl, refl))

      -- a node is called: the line has no notes of its own
      module _ (is_call : calls_nodes event ≡ true) (opened : At now (begun s)) where
        begins_now : E (hist now (begun s).world) (begun s)
        begins_now = plain [] (begun s) (calls event is_call) refl tt (refl, (refl, refl)) opened

        calling_now : IsCalling now
        calling_now = record { event = event; is = refl; calls = is_call }

        one_comes : (serial : ℕ) (again : Bool) (b : Bool) (run : List (Option Told)) → MayIf b serial run (begun s) → Goes (delivered_if b line serial again run (begun s))
        one_comes serial again true [] may = absurd may
        one_comes serial again true (one ∷ []) may = comes now (begun s) opened begins_now calling_now serial again one may
        one_comes serial again true (one ∷ other ∷ more) may = absurd may
        one_comes serial again false run may = refuses_line (call_no_act event is_call) no_packet

    -- an initiator acts
    module _ (i : ℕ) (action : Action) (inside : i < length s.world.initiators) where
      acts_by : (x : Option ℕ × Called) → act_step action empty_outbox (initiator_at s.world i) ≡ x → Goes (events.Act i action) (in_scene (acted_by x line i action first) s)
      acts_by (Some number, (outbox, state)) e =
          plain (events.Act i action) (notes.Refused line number ∷ []) (in_scene (refused line number (with_initiator i state first)) s) (refuses_action i action number (record { inside = inside; is = ap (λ (z : Option ℕ × Called). z.0) e })) refl (tt, tt)
          (refl, (refl, set_as_was s.world i state (sym (ap (λ (z : Option ℕ × Called). z.1.1) e) ∙ ap (λ (z : Called). z.1) (refusal_law.unchanged action empty_outbox (initiator_at s.world i) number (ap (λ (z : Option ℕ × Called). z.0) e)))))
      acts_by (None, (outbox, state)) e =
          let v = with_initiator i state first in
          let rest = handed (i + 1) (weight_in action) outbox v in
          let told : AreOwn outbox.sides = subst (λ (z : Option ℕ × Called). own.At z.1) e (own.acts action empty_outbox (initiator_at s.world i) tt) in
          let inner = handed_inner (i + 1) (weight_in action) outbox v (own_inner outbox.sides told) in
          λ there.
          let r = cases.acts past s line i action outbox state inside e told here there before.1 in (
            subst (λ ns. Each (map said ns ++ now (events.Act i action))) (sym (handed_fresh (i + 1) (weight_in action) outbox v))
                (by_line L line (events.Act i action) rest (hist past s.world) inner r.0 before.0),
            r.1,
          )

      acts : Goes (events.Act i action) (in_scene (acted line i action first) s)
      unfolding acted
      acts = acts_by (act_step action empty_outbox (initiator_at first i)) refl

    -- the lines of the bus
    resets_bus : (physical : List ℕ) → Goes (events.Reset physical) (in_scene (reset_line physical first) s)
    unfolding reset_line
    resets_bus physical = plain (events.Reset physical) (notes.Reset _ ∷ []) (in_scene (reset_line physical first) s) (resets physical _ refl) refl (tt, tt) (refl, (refl, refl))

    loses_packet : (serial : ℕ) → Goes (events.Lose serial) (in_scene (lose_line line serial first) s)
    unfolding lose_line
    loses_packet serial = by (is_in_flight serial first)
      where
        by : (b : Bool) → Goes (events.Lose serial) (in_scene (cond b (lost serial first) (refused line no_packet first)) s)
        by true = plain (events.Lose serial) (notes.Lost serial ∷ []) (in_scene (lost serial first) s) (loses serial) refl (tt, tt) (refl, (refl, refl))
        by false = refuses_line (events.Lose serial) refl no_packet

    injects_to : (i : ℕ) (bytes : List ℕ) (to : Option ℕ) → Goes (events.Inject i bytes) (in_scene (injected to line (i + 1) bytes first) s)
    unfolding posted
    injects_to i bytes None = refuses_line (events.Inject i bytes) refl no_node
    injects_to i bytes (Some to) =
        let n = first.store.last + 1 in
        let g = (topology_at first.generations (i + 1)).generation in
        plain (events.Inject i bytes) (notes.Injected n ∷ notes.Sent n g (i + 1) to bytes ∷ []) (in_scene (posted (i + 1) to true bytes first) s) (injects i bytes n g (i + 1) to) refl (tt, (tt, tt)) (refl, (refl, refl))

    injects_packet : (i : ℕ) (bytes : List ℕ) → Goes (events.Inject i bytes) (in_scene (inject_line line i bytes first) s)
    unfolding inject_line
    injects_packet i bytes = injects_to i bytes (injected_to (i + 1) bytes first)

    sets_a_key : (unit : ℕ) (key : List ℕ) → Goes (events.Key unit key) (in_scene (keyed line unit key first) s)
    unfolding keyed
    sets_a_key unit key = by (nat_lt unit (length first.target.units))
      where
        by : (b : Bool) → Goes (events.Key unit key) (in_scene (cond b (with_note (notes.Key unit) (with_target (with_key unit key first.target) first)) (refused line no_unit first)) s)
        by true = plain (events.Key unit key) (notes.Key unit ∷ []) (in_scene (with_note (notes.Key unit) (with_target (with_key unit key first.target) first)) s) (sets_key unit key) refl (tt, tt) (refl, (refl, refl))
        by false = refuses_line (events.Key unit key) refl no_unit

    -- deliveries one after the other
    module _ (most : Option ℕ) (is_call : calls_nodes (more_deliveries most) ≡ true) (between : (told : List (Option Told)) → MayAll told (begun s) → At (now (more_deliveries most)) (after_all told (begun s))) where
      pub all_come : (told : List (Option Told)) → MayAll told (begun s) → E (hist (now (more_deliveries most)) (after_all told (begun s)).world) (after_all told (begun s))
      all_come [] may = begins_now (more_deliveries most) is_call (between [] tt)
      all_come (one ∷ told) may =
          next_comes (now (more_deliveries most)) (after_all told (begun s)) (between told may.1) (all_come told may.1) (calling_now (more_deliveries most) is_call (between [] tt)) one may.0 (between (one ∷ told) may)

    -- every line
    module _ (opened : (event : Event) → is_reset event ≡ false → At (now event) (begun s)) (between : (most : Option ℕ) (told : List (Option Told)) → MayAll told (begun s) → At (now (more_deliveries most)) (after_all told (begun s))) where
      pub goes : (event : Event) (told : List (Option Told)) → IsLine event (length s.world.initiators) → MayHappen event told s → Goes event (happens line event told s)
      unfolding happens MayHappen
      goes (events.Begin initiators is_ready) told q may = absurd q
      goes (events.Act i action) told q may = acts i action q.0
      goes (events.Reset physical) told q may = resets_bus physical
      goes (events.See node) told q may =
          let e = events.See node in sights (now e) (begun s) (opened e refl) (begins_now e refl (opened e refl)) (calling_now e refl (opened e refl)) node q
      goes (events.Deliver serial) told q may =
          let e = events.Deliver serial in one_comes e refl (opened e refl) serial false (is_in_flight serial (begun s).world) told may
      goes (events.Repeat serial) told q may =
          let e = events.Repeat serial in one_comes e refl (opened e refl) serial true (may_repeat serial (begun s).world) told may
      goes (events.Lose serial) told q may = loses_packet serial
      goes (events.Timeout serial) told q may =
          let e = events.Timeout serial in
          late (now e) (begun s) (opened e refl) (begins_now e refl (opened e refl)) (calling_now e refl (opened e refl)) line serial (λ v none stays. refuses_in e refl no_packet v none stays)
      goes (events.Step count) told q may = λ there. all_come (Some count) refl (between (Some count)) told may.may
      goes events.Settle told q may =
          let t = after_all told (begun s) in
          settles (now events.Settle) t (between None told may.may) (all_come None refl (between None) told may.may) (calling_now events.Settle refl (between None [] tt)) (is_settled t.world)
      goes events.Tick told q may = let e = events.Tick in second (now e) (begun s) (opened e refl) (begins_now e refl (opened e refl)) (calling_now e refl (opened e refl))
      goes (events.Inject i bytes) told q may = injects_packet i bytes
      goes (events.Key unit key) told q may = sets_a_key unit key

-- ---- a run
-- what is carried holds where a run begins
abbrev pub Begins : (List Disk → List Moment → Scene → Type 0) → Type 0
Begins K =
    (line : ℕ) (run : Run) → 0 < run.units → (let past = first_past line run.initiators run.ready in
    Place run.units (ready_logins run.initiators run.ready) run.start.disks past (beginning run) → K run.start.disks (hist past (beginning run).world) (beginning run))

module _ (K : List Disk → List Moment → Scene → Type 0) (L : List Disk → Turn → Type 0) (begins : Begins K) (cases : (units ready : ℕ) (start : List Disk) → 0 < units → CarriedCases units ready start (K start) (L start)) (line : ℕ) (run : Run) (few : run.initiators ≤ 4) (has : 0 < run.units) (small : run.units ≤ 4) (size : length run.start.disks ≡ run.units) where
  abbrev logins : ℕ
  logins = ready_logins run.initiators run.ready

  abbrev disks : List Disk
  disks = run.start.disks

  abbrev own_cases : CarriedCases run.units logins disks (K disks) (L disks)
  own_cases = cases run.units logins disks has

  -- behind some of its lines
  record Behind (entries : List Entry) (w : WorldState) : Type 0 where
    past : List Moment
    holds : Holding run.units logins disks past (length entries) w
    is : hist past w ≡ moments_behind line run entries
    turns : Turns (L disks) (hist past w) []
    kept : K disks (hist past w) (after (beginning run) entries)

  first_behind : (let none : List Entry = [] in length none + 2 < 2 ^ 32) → Behind [] (beginning run).world
  unfolding new_world
  first_behind short =
      let past = first_past line run.initiators run.ready in
      let holds = first_holds run.initiators run.ready run.units line disks few small size in
      record {
        past = past;
        holds = holds;
        is = refl;
        turns = (own_cases.begins line run.initiators run.ready, tt);
        kept = begins line run has (ended_place line run few has small size [] short tt tt past holds refl);
      }

  all_behind : (entries : List Entry) → length entries + 2 < 2 ^ 32 → AreEntries (beginning run) entries → AreLines run entries → Behind entries (after (beginning run) entries).world
  all_behind [] short every fit = first_behind short
  all_behind (e ∷ earlier) short every fit =
      let short_then : length earlier + 2 < 2 ^ 32 = omega arith in
      let b = all_behind earlier short_then every.1 fit.1 in
      let s = after (beginning run) earlier in
      let t = happens e.line e.event e.told s in
      let now = asked e.line e.event ∷ hist b.past s.world in
      let holds_then : Holding run.units logins disks now (suc (length earlier)) t.world =
      subst (λ n. Holding run.units logins disks now n t.world) (let x : length earlier + 1 ≡ suc (length earlier) = omega arith in x)
      (line_holds run.units logins has disks e.line e.event e.told s fit.0 (happened_fits e.event e.told s every.0.may) (omega arith) b.holds) in
      let is_then : hist now t.world ≡ moments_behind line run (e ∷ earlier) =
      ap (λ ns. map said ns ++ now) (sym every.0.notes_are) ∙ ap (λ ms. map said e.notes ++ asked e.line e.event ∷ ms) b.is in
      let there = ended_place line run few has small size (e ∷ earlier) short every fit now holds_then is_then in
      let here = ended_place line run few has small size earlier short_then every.1 fit.1 b.past b.holds b.is in
      let turns_then = goes run.units logins disks (K disks) (L disks) own_cases b.past s here (b.turns, b.kept) e.line
      (λ event r. begun_place line run few has small size earlier short_then every.1 fit.1 b.past b.holds b.is e.line event r)
      (λ most told may. between_place line run few has small size earlier short_then every.1 fit.1 b.past b.holds b.is e.line most told may)
      e.event e.told fit.0 every.0.may there in
      record {
        past = now;
        holds = holds_then;
        is = is_then;
        turns = turns_then.0;
        kept = turns_then.1;
      }

  pub turns_after : (entries : List Entry) → length entries + 2 < 2 ^ 32 → AreEntries (beginning run) entries → AreLines run entries → EachTurn (L disks) (moments_behind line run entries)
  turns_after entries short every fit = let b = all_behind entries short every fit in subst (EachTurn (L disks)) b.is b.turns

  -- what is carried, behind some of its lines
  pub kept_after : (entries : List Entry) → length entries + 2 < 2 ^ 32 → AreEntries (beginning run) entries → AreLines run entries → K disks (moments_behind line run entries) (after (beginning run) entries)
  kept_after entries short every fit = let b = all_behind entries short every fit in subst (λ ms. K disks ms (after (beginning run) entries)) b.is b.kept

  more_calls : (most : Option ℕ) → calls_nodes (more_deliveries most) ≡ true
  more_calls (Some count) = refl
  more_calls None = refl

  pub turns_between : (entries : List Entry) → length entries + 2 < 2 ^ 32 → AreEntries (beginning run) entries → AreLines run entries → (next : ℕ) (most : Option ℕ) (told : List (Option Told))
      → (let s = begun (after (beginning run) entries) in
      MayAll told s → EachTurn (L disks) (map said (after_all told s).world.fresh ++ asked next (more_deliveries most) ∷ moments_behind line run entries))
  turns_between entries short every fit next most told may =
      let b = all_behind entries short every fit in
      let s = after (beginning run) entries in
      let here = ended_place line run few has small size entries short every fit b.past b.holds b.is in
      subst (λ ms. EachTurn (L disks) (map said (after_all told (begun s)).world.fresh ++ asked next (more_deliveries most) ∷ ms)) b.is
      (all_come run.units logins disks (K disks) (L disks) own_cases b.past s here (b.turns, b.kept) next most (more_calls most)
      (λ told may. between_place line run few has small size entries short every fit b.past b.holds b.is next most told may) told may).0

-- ---- so it is of every run
pub of_every_carried : (K : List Disk → List Moment → Scene → Type 0) (L : List Disk → Turn → Type 0) → Begins K → ((units ready : ℕ) (start : List Disk) → 0 < units → CarriedCases units ready start (K start) (L start)) → OfEveryRun (λ start past. EachTurn (L start) past)
of_every_carried K L begins cases = record {
  after_lines = λ line run r has small size. turns_after K L begins cases line run r.few has small size run.entries r.short r.entries r.lines;
  between = λ line run r has small size next most told may. turns_between K L begins cases line run r.few has small size run.entries r.short r.entries r.lines next most told may;
}

-- where nothing is carried
carried : (units ready : ℕ) (start : List Disk) (L : Turn → Type 0) → Cases units ready start L → CarriedCases units ready start (λ ms s. Unit {0}) L
carried units ready start L cases = record {
  heard = λ past s serial again run one found zero_to may others here behind noted k. (cases.heard past s serial again run one found zero_to may others here behind noted, tt);
  heard_own = λ past s serial again one i found to_is inside own here behind noted k. (cases.heard_own past s serial again one i found to_is inside own here behind noted, tt);
  late = λ past s serial request done t found node_is e others here behind noted k. (cases.late past s serial request done t found node_is e others here behind noted, tt);
  late_own = λ past s serial request i outbox state found node_is inside e own here behind noted k. (cases.late_own past s serial request i outbox state found node_is inside e own here behind noted, tt);
  sees = λ past s others here behind noted k. (cases.sees past s others here behind noted, tt);
  sees_own = λ past s i inside own here behind noted k. (cases.sees_own past s i inside own here behind noted, tt);
  ticks = λ past s others here behind noted k. (cases.ticks past s others here behind noted, tt);
  ends = λ past s done here behind k. (cases.ends past s done here behind, tt);
  acts = λ past s line i action outbox state inside e own here behind k. (cases.acts past s line i action outbox state inside e own here behind, tt);
  lines = λ past s line event rest behind brings fresh here there stays k. (cases.lines past s line event rest behind brings fresh here there, tt);
  begins = λ line initiators is_ready. cases.begins line initiators is_ready;
}

pub of_every_run : (L : List Disk → Turn → Type 0) → ((units ready : ℕ) (start : List Disk) → 0 < units → Cases units ready start (L start)) → OfEveryRun (λ start past. EachTurn (L start) past)
of_every_run L cases = of_every_carried (λ start ms s. Unit {0}) L (λ line run has there. tt) (λ units ready start has. carried units ready start (L start) (cases units ready start has))
