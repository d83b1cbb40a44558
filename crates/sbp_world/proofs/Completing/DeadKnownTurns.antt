-- What a turn leaves of the agents of the target, by its notes: where it says of no death, none is dead, or about to be, that was not so before; and behind a sight of a new generation none is so at all.
use Rattle.sbp_world.proofs.Words.Std.{arith, ◌≡◌, ◌∙◌, refl, sym, ap, subst, ℕ, zero, suc, ◌+◌, ◌-◌, ◌==◌, ◌<◌, ◌≤◌, nat_lt, Bool, true, false, cond, List, [], ◌∷◌, ◌++◌, length, map, Option, Some, None, Result, Ok, Err, nat_tests, slice_index_or, slice_set}
use Rattle.sbp_world.proofs.Words.Wire.{Stale, Sent, found_sent, Request, id_of, end_note, judged_note, no_node, no_packet, find, Event, Moment, OutboxState, empty_outbox, Action, Judged, Note}
use Rattle.sbp_world.proofs.Words.Target.{Told, NodeState, TargetScene, expired, scene, with_key}
use Rattle.sbp_world.proofs.Words.Initiator.{act_step, Turn as OwnTurn, new_state, InitiatorState, expire_step, receive_step, see_step}
use Rattle.sbp_world.proofs.Words.World.{Arrival, MayAt, MayReceive, MayTell, MayTold, arrived, at_target, delivered, delivered_by, initiator_received, initiators_received, marked, received_by, received_step, target_received, with_initiators, handed_out, MayHappen, acted, acted_by, happens, keyed, no_unit, weight_in, handed_all, initiator_learns, reset_line, see_line, target_learns, target_sees, target_ticks, tick_line, told_seen, with_seen, MayIf, delivered_if, expires, initiator_expires, inject_line, injected, injected_to, is_in_flight, lose_line, lost, may_repeat, refused, target_expired, target_left, timed_out, timeout_line, timeout_of, MayNext, delivered_at, delivered_next, lowest, posted, IsLine, Scene, WorldState, begun, initiator_at, with_initiator, with_note, with_target, without_notes, AreOthers}
use Rattle.sbp_journal.specs.Run.{said}
use Rattle.sbp_journal.specs.Run.{asked as asked_line}
use Rattle.sbp_journal.specs.declared.cause.Judged.TheVariants as judgements
use Rattle.sbp_journal.specs.declared.event.Event.TheVariants as events
use Rattle.sbp_journal.specs.declared.note.Note.TheVariants as notes
use Rattle.sbp_world.specs.Nodes as nodes
use Rattle.sbp_world.specs.Packets as packets
use Rattle.sbp_world.specs.Settling as settling
use Rattle.sbp_world.proofs.Formed.{AreOwn}
use Rattle.sbp_world.proofs.Agents.Management.Still.{hist}
use Rattle.sbp_world.proofs.Completing.DeadKnownCalls.{AreAlive, Known}
use Rattle.sbp_world.proofs.Completing.DeadKnownReplies.{expires_known, received_known, sees_known, sees_new, ticks_known}
use Rattle.sbp_world.proofs.Completing.DeadKnownSays.{Lives, Says, own_hands, same_says, says_adds, says_behind, target_hands}
use Rattle.sbp_world.proofs.Completing.DeathsTurns.{Adds, IsMid, adds_none, adds_one, any, posted_adds}
use Rattle.sbp_world.proofs.Hosts.Hands.{hand_law}
use Rattle.sbp_world.proofs.InitiatorForms as own
use Rattle.sbp_world.proofs.Lists.Extends.{marked_fresh}
use Rattle.sbp_world.proofs.Lists.Turned.{IsOne}
use Rattle.sbp_world.proofs.Lists.Walks.{Turn, by_delivery, by_end, by_line, by_start}
use Rattle.sbp_world.proofs.Wire.Comes.{own_inside, own_outside, received_is, to_own, to_zero}
use Rattle.sbp_world.proofs.Wire.Nodes.{handed_alike, marked_alike}

-- ---- of a target, behind these notes, to a world; the latest generation is the one that a sight is of
pub data Leads (latest : ℕ) (old : List Note) (x : NodeState) (v : WorldState) : Type 0 where
  passes : Says old v.fresh (Lives x v) → Leads latest old x v
  lapses : (serial : ℕ) → Says (notes.TimedOut serial ∷ old) v.fresh (Lives x v) → Leads latest old x v
  resets : v.fresh ≡ notes.Reset (latest + 1) ∷ old → Leads latest old x v
  sees_own : (i : ℕ) → Says (notes.Seen (suc i) latest ∷ old) v.fresh (Lives x v) → Leads latest old x v
  sees : Says (notes.Seen 0 latest ∷ old) v.fresh (Lives x v) → (length x.desks ≡ 8 → nat_lt x.layer.generation latest ≡ true → AreAlive v.target.desks) → Leads latest old x v

judged_mid : (serial : ℕ) (judged : Judged) → IsMid any (judged_note serial judged)
judged_mid serial judgements.Got = tt
judged_mid serial (judgements.Ignored cause) = tt

-- ---- a packet is delivered
module _ (s : Scene) (serial : ℕ) (again : Bool) (run : Option Told) where
  abbrev w : WorldState
  w = s.world

  abbrev after_it : WorldState
  after_it = (delivered serial again run s).world

  abbrev C : Type 0
  C = Leads w.generations.latest.generation w.fresh w.target after_it

  stays_there : after_it ≡ w → C
  stays_there e = subst (Leads w.generations.latest.generation w.fresh w.target) (sym e) (passes (same_says w.fresh w.target w refl (adds_none any w.fresh)))

  module _ (one : Sent) (found : found_sent serial w.store.kept ≡ Some one) where
    target_comes : one.to ≡ 0 → AreOthers (target_received run one w.target s.media).1.0.sides → C
    unfolding delivered target_received arrived
    target_comes zero_to others =
        let x = target_received run one w.target s.media in
        let there = with_target x.1.1.0 w in
        let note = judged_note serial x.0 in
        let u = with_note note (marked serial again there) in
        let now = handed_out one.to 0 x.1.0 u in
        let last_is : after_it ≡ now =
        ap (λ (y : Option Arrival × (OutboxState × Scene)). (delivered_by serial again y).world)
        (received_is run serial s one found ∙ ap (λ b. cond b (at_target one.to (target_received run one w.target s.media) s) (initiator_received one s)) (to_zero one.to zero_to)) in
        subst (Leads w.generations.latest.generation w.fresh w.target) (sym last_is)
        (passes
        (says_behind note w.fresh now.fresh (Lives w.target now) (judged_mid serial x.0)
        (subst (λ ns. Says (note ∷ ns) now.fresh (Lives w.target now)) (marked_fresh serial again there)
        (target_hands one.to 0 x.1.0 w.target u others
        (λ l a. subst (λ (n : NodeState). AreAlive n.desks) (sym (marked_alike there serial again).target) (received_known run one.generation one.bytes w.target s.media.disks a l))))))

    own_comes : (i : ℕ) → one.to ≡ suc i → i < length w.initiators → C
    unfolding delivered initiators_received arrived
    own_comes i to_is inside =
        let old = slice_index_or w.initiators i (new_state 0 false) in
        let x = receive_step one.generation one.bytes empty_outbox old in
        let v = with_initiators (slice_set w.initiators i x.1.1) w in
        let note = judged_note serial x.0 in
        let u = with_note note (marked serial again v) in
        let now = handed_out one.to 0 x.1.0 u in
        let last_is : after_it ≡ now =
        ap (λ (y : Option Arrival × (OutboxState × Scene)). (delivered_by serial again y).world) (to_own run serial i s one found to_is ∙ own_inside one i s inside) in
        subst (Leads w.generations.latest.generation w.fresh w.target) (sym last_is)
        (passes
        (says_behind note w.fresh now.fresh (Lives w.target now) (judged_mid serial x.0)
        (subst (λ ns. Says (note ∷ ns) now.fresh (Lives w.target now)) (marked_fresh serial again v)
        (own_hands one.to 0 x.1.0 w.target u (marked_alike v serial again).target (own.receives one.generation one.bytes empty_outbox old tt)))))

    none_comes : (i : ℕ) → one.to ≡ suc i → length w.initiators ≤ i → C
    unfolding delivered
    none_comes i to_is outside =
        stays_there (ap (λ (y : Option Arrival × (OutboxState × Scene)). (delivered_by serial again y).world) (to_own run serial i s one found to_is ∙ own_outside one i s outside))

    comes_at : (to : ℕ) → one.to ≡ to → (one.to ≡ 0 → MayTell run one w.target s.media) → C
    comes_at zero e m = target_comes e (hand_law.received run one w.target s.media (m e))
    comes_at (suc i) e m = by (nat_lt i (length w.initiators)) refl
      where
        by : (b : Bool) → nat_lt i (length w.initiators) ≡ b → C
        by true f = own_comes i e (grind (arith, nat_tests))
        by false f = none_comes i e (grind (arith, nat_tests))

  comes_by : (found : Option Sent) → found_sent serial w.store.kept ≡ found → MayAt run found s → C
  unfolding delivered received_step
  comes_by None e m = stays_there (ap (λ o. (delivered_by serial again (received_by run o s)).world) e)
  comes_by (Some one) e m = comes_at one e one.to refl (λ z. subst (λ b. MayTold b run one s) (to_zero one.to z) m)

  delivery_leads : MayReceive run serial s → C
  unfolding MayReceive
  delivery_leads m = comes_by (found_sent serial w.store.kept) refl m

-- ---- the other lines
module _ (w : WorldState) where
  abbrev last : ℕ
  last = w.generations.latest.generation

  abbrev Q : WorldState → Type 0
  Q v = Leads last w.fresh w.target v

  -- the target is as it was, behind these notes
  same : (v : WorldState) → v.target ≡ w.target → Adds any w.fresh v.fresh → Q v
  same v e a = passes (same_says w.fresh w.target v e a)

  refuses : (line number : ℕ) → Q (refused line number w)
  refuses line number = same (refused line number w) refl (adds_one any (notes.Refused line number) w.fresh tt)

  module _ (line i : ℕ) (action : Action) where
    acts_by : (x : Option ℕ × OwnTurn) → AreOwn x.1.0.sides → Q (acted_by x line i action w)
    acts_by (Some number, (outbox, state)) h = same (refused line number (with_initiator i state w)) refl (adds_one any (notes.Refused line number) w.fresh tt)
    acts_by (None, (outbox, state)) h = passes (own_hands (i + 1) (weight_in action) outbox w.target (with_initiator i state w) refl h)

    acts : Q (acted line i action w)
    unfolding acted
    acts = acts_by (act_step action empty_outbox (initiator_at w i)) (own.acts action empty_outbox (initiator_at w i) tt)

  resets_bus : (physical : List ℕ) → Q (reset_line physical w)
  unfolding reset_line
  resets_bus physical = resets refl

  -- a generation is seen
  target_sight : Q (see_line 0 w)
  unfolding see_line nodes.sees target_sees
  target_sight =
      let g = w.generations.latest in
      let x = target_sees g.generation (id_of g 0) w.target in
      let one = with_target x.1 (with_seen 0 (told_seen 0 w)) in
      let s = scene w.target empty_outbox in
      sees
      (target_hands 0 0 x.0 w.target one (hand_law.sees g.generation (id_of g 0) w.target) (λ l a. sees_known g.generation (id_of g 0) s (λ m. a) l))
      (λ size new. subst (λ (n : NodeState). AreAlive n.desks) (sym (handed_alike 0 0 x.0 one).target) (sees_new g.generation (id_of g 0) s size new))

  own_sight : (i : ℕ) → Q (see_line (suc i) w)
  unfolding see_line nodes.sees
  own_sight i =
      let g = w.generations.latest in
      let one = with_seen (suc i) (told_seen (suc i) w) in
      let t = see_step g.generation (id_of g (suc i)) (id_of g 0) empty_outbox (initiator_at w (suc i - 1)) in
      let two = with_initiator (suc i - 1) t.1 one in
      let other : (suc i == 0) ≡ false = grind (arith, nat_tests) in
      subst (λ b. Q (handed_all (suc i) (cond b (target_learns one) (initiator_learns (suc i) one)))) (sym other)
      (sees_own i (own_hands (suc i) 0 t.0 w.target two refl (own.sees g.generation (id_of g (suc i)) (id_of g 0) empty_outbox (initiator_at w (suc i - 1)) tt)))

  sights : (node : ℕ) → Q (see_line node w)
  sights zero = target_sight
  sights (suc i) = own_sight i

  -- a packet is lost, or injected
  loses : (line serial : ℕ) → Q (lose_line line serial w)
  unfolding lose_line
  loses line serial = by (is_in_flight serial w)
    where
      by : (b : Bool) → Q (cond b (lost serial w) (refused line no_packet w))
      by true = same (lost serial w) refl (adds_one any (notes.Lost serial) w.fresh tt)
      by false = refuses line no_packet

  injects_to : (line from : ℕ) (bytes : List ℕ) (to : Option ℕ) → Q (injected to line from bytes w)
  unfolding posted
  injects_to line from bytes None = refuses line no_node
  injects_to line from bytes (Some to) = same (injected (Some to) line from bytes w) refl (posted_adds any from to true bytes w)

  injects : (line i : ℕ) (bytes : List ℕ) → Q (inject_line line i bytes w)
  unfolding inject_line
  injects line i bytes = injects_to line (i + 1) bytes (injected_to (i + 1) bytes w)

  -- a transaction times out
  module _ (line serial : ℕ) (request : Request) where
    target_lapse : (y : Result (Unit {0}) Stale × TargetScene) → AreOthers y.1.outbox.sides → (AreAlive w.target.desks → Known y.1) → Q (timed_out line serial request.node (packets.at_target (target_left y w.target) w))
    target_lapse (Ok done, t) o k =
        let u = with_note (notes.TimedOut serial) (with_target t.node w) in
        lapses serial (target_hands request.node 0 t.outbox w.target u o (λ l a. k a l))
    target_lapse (Err stale, t) o k = refuses line no_packet

    own_lapse : (i : ℕ) (x : Bool × OwnTurn) → AreOwn x.1.0.sides → Q (timed_out line serial request.node (packets.at_initiator i x w))
    own_lapse i (true, (outbox, state)) h = lapses serial (own_hands request.node 0 outbox w.target (with_note (notes.TimedOut serial) (with_initiator i state w)) refl h)
    own_lapse i (false, (outbox, state)) h = same (refused line no_packet (with_initiator i state w)) refl (adds_one any (notes.Refused line no_packet) w.fresh tt)

    own_lapses : Q (timed_out line serial request.node (initiator_expires request w))
    own_lapses = by (nat_lt (request.node - 1) (length w.initiators))
      where
        old : InitiatorState
        old = initiator_at w (request.node - 1)

        by : (b : Bool) → Q (timed_out line serial request.node (cond b (packets.at_initiator (request.node - 1) (expire_step request.label empty_outbox old) w) (false, (empty_outbox, w))))
        by true = own_lapse (request.node - 1) (expire_step request.label empty_outbox old) (own.expires request.label empty_outbox old tt)
        by false = refuses line no_packet

    all_lapses : Q (timed_out line serial request.node (expires request w))
    unfolding expires target_expired
    all_lapses = by (request.node == 0)
      where
        by : (b : Bool) → Q (timed_out line serial request.node (cond b (packets.at_target (target_expired request w.target) w) (initiator_expires request w)))
        by true =
            target_lapse (expired request.peer request.label (scene w.target empty_outbox)) (hand_law.expires request.peer request.label w.target)
            (λ a l. expires_known request.peer request.label (scene w.target empty_outbox) (λ m. a) l)
        by false = own_lapses

  late_by : (line serial : ℕ) (request : Option Request) → Q (timeout_of request line serial w)
  late_by line serial None = refuses line no_packet
  late_by line serial (Some request) = all_lapses line serial request

  late : (line serial : ℕ) → Q (timeout_line line serial w)
  unfolding timeout_line
  late line serial = late_by line serial (find w.requests serial)

  -- a second passes, and a key is set
  ticks : Q (tick_line w)
  unfolding tick_line target_ticks
  ticks =
      let x = target_ticks w.target in
      let u = with_target x.1 (with_note notes.Tick w) in
      let now = handed_out 0 0 x.0 u in
      passes (says_behind notes.Tick w.fresh now.fresh (Lives w.target now) tt (target_hands 0 0 x.0 w.target u (hand_law.ticks w.target) (λ l a. ticks_known (scene w.target empty_outbox) (λ m. a) l)))

  keys : (line unit : ℕ) (key : List ℕ) → Q (keyed line unit key w)
  unfolding keyed
  keys line unit key = by (nat_lt unit (length w.target.units))
    where
      by : (b : Bool) → Q (cond b (with_note (notes.Key unit) (with_target (with_key unit key w.target) w)) (refused line no_unit w))
      by true = passes (says_adds w.fresh (notes.Key unit ∷ w.fresh) _ (adds_one any (notes.Key unit) w.fresh tt) (λ a. a))
      by false = refuses line no_unit

-- ---- a line that delivers one packet at most
module _ (s : Scene) (line serial : ℕ) (again : Bool) where
  one_leads : (b : Bool) (told : List (Option Told)) → MayIf b serial told s → Leads s.world.generations.latest.generation s.world.fresh s.world.target (delivered_if b line serial again told s).world
  one_leads true [] m = absurd m
  one_leads true (one ∷ []) m = delivery_leads s serial again one m
  one_leads true (one ∷ other ∷ more) m = absurd m
  one_leads false told m = refuses s.world line no_packet

-- ---- each turn
module _ (line : ℕ) (s : Scene) where
  line_leads : (event : Event) (told : List (Option Told)) → IsOne event → IsLine event (length s.world.initiators) → MayHappen event told s → Leads s.world.generations.latest.generation [] s.world.target (happens line event told s).world
  unfolding happens MayHappen
  line_leads (events.Begin initiators is_ready) told o q m = absurd q
  line_leads (events.Act i action) told o q m = acts (without_notes s.world) line i action
  line_leads (events.Reset physical) told o q m = resets_bus (without_notes s.world) physical
  line_leads (events.See node) told o q m = sights (without_notes s.world) node
  line_leads (events.Deliver serial) told o q m = one_leads (begun s) line serial false (is_in_flight serial (begun s).world) told m
  line_leads (events.Repeat serial) told o q m = one_leads (begun s) line serial true (may_repeat serial (begun s).world) told m
  line_leads (events.Lose serial) told o q m = loses (without_notes s.world) line serial
  line_leads (events.Timeout serial) told o q m = late (without_notes s.world) line serial
  line_leads (events.Step count) told o q m = absurd o
  line_leads events.Settle told o q m = absurd o
  line_leads events.Tick told o q m = ticks (without_notes s.world)
  line_leads (events.Inject i bytes) told o q m = injects (without_notes s.world) line i bytes
  line_leads (events.Key unit key) told o q m = keys (without_notes s.world) line unit key

next_leads : (s : Scene) (one : Option Told) (so : Option ℕ) → settling.MayAt so one s → Leads s.world.generations.latest.generation s.world.fresh s.world.target (delivered_at so one s).world
next_leads s one None m = absurd m
next_leads s one (Some serial) m = delivery_leads s serial false one m

-- By the moments of the turn: behind the line that is asked for, where it begins one.
pub data TurnLeads (latest : ℕ) (past : List Moment) (x : NodeState) (now : List Moment) (v : WorldState) : Type 0 where
  goes : (old : List Note) (below : List Moment) → map said old ++ below ≡ past → map said v.fresh ++ below ≡ now → Leads latest old x v → TurnLeads latest past x now v
  asks : (line : ℕ) (event : Event) → map said v.fresh ++ asked_line line event ∷ past ≡ now → Leads latest [] x v → TurnLeads latest past x now v

end_mid : (done : Bool) → IsMid any (end_note done)
end_mid true = tt
end_mid false = tt

pub turn_leads : (past : List Moment) (s : Scene) (later : List Moment) (t : Scene) (turn : Turn past s later t) → TurnLeads s.world.generations.latest.generation (hist past s.world) s.world.target (hist later t.world) t.world
unfolding delivered_next MayNext
turn_leads _ _ _ _ (by_line past s line event told o q m) = asks line event refl (line_leads line s event told o q m)
turn_leads _ _ _ _ (by_start past s line event d) = asks line event refl (same (without_notes s.world) (begun s).world refl (adds_none any []))
turn_leads _ _ _ _ (by_delivery past s one m) = goes s.world.fresh past refl refl (next_leads s one (lowest s.world) m)
turn_leads _ _ _ _ (by_end past s done) = goes s.world.fresh past refl refl (same s.world (with_note (end_note done) s.world) refl (adds_one any (end_note done) s.world.fresh (end_mid done)))
