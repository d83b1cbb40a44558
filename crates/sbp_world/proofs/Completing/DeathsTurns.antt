-- What a turn says of deaths, and of failures of the management operation: nothing, but where a packet is delivered to the target that tells of one, or behind a time-out.
use Rattle.sbp_world.proofs.Words.Std.{arith, ◌≡◌, ◌∙◌, refl, sym, ap, subst, ℕ, zero, suc, ◌+◌, ◌-◌, ◌==◌, ◌<◌, ◌≤◌, nat_lt, Bool, true, false, cond, List, [], ◌∷◌, ◌++◌, length, map, Option, Some, None, Result, Ok, Err, nat_tests, slice_index_or, slice_set}
use Rattle.sbp_world.proofs.Words.Wire.{LabelParts, Stale, Sent, found_sent, Request, id_of, node_of, end_note, judged_note, no_node, no_packet, find, Event, Moment, OutboxState, empty_outbox, Judged, Action, Note, Outgoing, Side}
use Rattle.sbp_world.proofs.Words.Target.{NodeState, Told, TargetScene, expired, received, scene, seen, ticked, with_key}
use Rattle.sbp_world.proofs.Words.Initiator.{act_step, Turn as OwnTurn, new_state, InitiatorState, expire_step, receive_step, see_step}
use Rattle.sbp_world.proofs.Words.World.{Arrival, MayAt, MayReceive, MayTell, MayTold, arrived, at_target, delivered, delivered_by, initiator_received, initiators_received, marked, received_by, received_step, target_received, whole_of, with_initiators, handed_out, MayHappen, acted, acted_by, happens, keyed, no_unit, weight_in, handed_all, initiator_learns, reset_line, see_line, target_learns, target_sees, target_ticks, tick_line, told_seen, with_seen, MayIf, delivered_if, expires, initiator_expires, inject_line, injected, injected_to, is_in_flight, lose_line, lost, may_repeat, refused, target_expired, target_left, timed_out, timeout_line, timeout_of, MayNext, delivered_at, delivered_next, lowest, asked, posted, sent, sent_all, sent_to, told, told_all, IsLine, Scene, WorldState, begun, initiator_at, with_initiator, with_note, with_target, without_notes, AreOthers, IsOther}
use Rattle.sbp_journal.specs.Run.{said}
use Rattle.sbp_journal.specs.Run.{asked as asked_line}
use Rattle.sbp_journal.specs.declared.cause.Judged.TheVariants as judgements
use Rattle.sbp_journal.specs.declared.event.Event.TheVariants as events
use Rattle.sbp_journal.specs.declared.note.Note.TheVariants as notes
use Rattle.sbp_journal.specs.declared.side.Side.TheVariants as sides
use Rattle.sbp_world.specs.Completing.Deaths.{AreLiving, IsLiving}
use Rattle.sbp_world.specs.Completing.Ends.{AreUnfailing, IsUnfailing}
use Rattle.sbp_world.specs.Nodes as nodes
use Rattle.sbp_world.specs.Packets as packets
use Rattle.sbp_world.specs.Settling as settling
use Rattle.sbp_world.proofs.Agents.Management.Still.{hist}
use Rattle.sbp_world.proofs.Wire.Comes.{own_inside, own_outside, received_is, to_own, to_zero}
use Rattle.sbp_world.proofs.InitiatorForms as own
use Rattle.sbp_world.proofs.Formed.{AreOwn, IsNoRun}
use Rattle.sbp_world.proofs.Hosts.Hands.{hand_law}
use Rattle.sbp_world.proofs.Lists.Extends.{marked_fresh}
use Rattle.sbp_world.proofs.Lists.Turned.{IsOne}
use Rattle.sbp_world.proofs.Lists.Walks.{Turn, by_delivery, by_end, by_line, by_start}
use Rattle.sbp_world.proofs.Lists.MachineTurns.{heard_in, line_heard, next_told}
use Rattle.sbp_world.proofs.Common.{notes_joined}

-- ---- what may be told: the death of an agent, and a failure of the operation
pub record May : Type 0 where
  pub dies : Bool
  pub fails : Bool

abbrev pub any : May
any = record { dies = true; fails = true }

abbrev pub deathless : May
deathless = record { dies = false; fails = true }

abbrev pub unfailing : May
unfailing = record { dies = true; fails = false }

-- ---- notes of no reset, sight or time-out; of what may be told
abbrev pub IsMid : May → Note → Type 0
IsMid may (notes.Begin initiators ready) = ⊥
IsMid may (notes.Reset generation) = ⊥
IsMid may (notes.Seen node generation) = ⊥
IsMid may (notes.TimedOut serial) = ⊥
IsMid may (notes.Dead i list cause) = may.dies ≡ true
IsMid may (notes.ManageFailed i cause) = may.fails ≡ true
IsMid may note = Unit {0}

abbrev pub AllMid : May → List Note → Type 0
AllMid may [] = Unit {0}
AllMid may (note ∷ later) = IsMid may note × AllMid may later

-- such notes stand in front of others
pub record Adds (may : May) (old new : List Note) : Type 0 where
  pub more : List Note
  pub is : more ++ old ≡ new
  pub mid : AllMid may more

module _ (may : May) where
  pub both : (a b : List Note) → AllMid may a → AllMid may b → AllMid may (a ++ b)
  both [] b x y = y
  both (m ∷ a) b x y = (x.0, both a b x.1 y)

  pub adds_none : (ns : List Note) → Adds may ns ns
  adds_none ns = record { more = []; is = refl; mid = tt }

  adds_then : (one two three : List Note) → Adds may one two → Adds may two three → Adds may one three
  adds_then one two three a b = record { more = b.more ++ a.more; is = notes_joined b.more a.more one ∙ ap (λ ns. b.more ++ ns) a.is ∙ b.is; mid = both b.more a.more b.mid a.mid }

  pub adds_one : (note : Note) (ns : List Note) → IsMid may note → Adds may ns (note ∷ ns)
  adds_one note ns q = record { more = note ∷ []; is = refl; mid = (q, tt) }

  -- ---- packets
  asked_adds : (serial to node peer : ℕ) (label : Option LabelParts) (old : List Note) (w : WorldState) → Adds may old w.fresh → Adds may old (asked serial to node peer label w).fresh
  asked_adds serial to node peer None old w e = e
  asked_adds serial to node peer (Some label) old w e = e

  pub posted_adds : (from to : ℕ) (is_injected : Bool) (bytes : List ℕ) (w : WorldState) → Adds may w.fresh (posted from to is_injected bytes w).fresh
  unfolding posted
  posted_adds from to false bytes w = record { more = notes.Sent _ _ from to bytes ∷ []; is = refl; mid = (tt, tt) }
  posted_adds from to true bytes w = record { more = notes.Sent _ _ from to bytes ∷ notes.Injected _ ∷ []; is = refl; mid = (tt, (tt, tt)) }

  to_adds : (to : Option ℕ) (from : ℕ) (packet : Outgoing) (w : WorldState) → Adds may w.fresh (sent_to to from packet w).fresh
  to_adds None from packet w = adds_none w.fresh
  to_adds (Some to) from packet w = asked_adds (w.store.last + 1) to from packet.to packet.label w.fresh (posted from to false packet.bytes w) (posted_adds from to false packet.bytes w)

  pub all_sent : (from : ℕ) (outgoing : List Outgoing) (w : WorldState) → Adds may w.fresh (sent_all from outgoing w).fresh
  unfolding sent_all sent
  all_sent from [] w = adds_none w.fresh
  all_sent from (packet ∷ later) w =
      let v = sent from packet w in adds_then w.fresh v.fresh (sent_all from later v).fresh (to_adds (node_of w.generations from packet.to) from packet w) (all_sent from later v)

  -- ---- what is told
  abbrev pub IsSaid : Side → Type 0
  IsSaid (sides.Own note) = IsMid may note
  IsSaid (sides.Dead place cause) = may.dies ≡ true
  IsSaid (sides.ManageFailed node cause) = may.fails ≡ true
  IsSaid side = Unit {0}

  abbrev pub AreSaid : List Side → Type 0
  AreSaid [] = Unit {0}
  AreSaid (side ∷ later) = IsSaid side × AreSaid later

  one_told : (weight : ℕ) (side : Side) (w : WorldState) → IsSaid side → Adds may w.fresh (told weight side w).fresh
  unfolding told
  one_told weight (sides.Own note) w q = adds_one note w.fresh q
  one_told weight (sides.Opened place orb) w q = adds_none w.fresh
  one_told weight (sides.Ran place orb cdb payload outcome) w q = record { more = notes.Ran _ _ _ _ _ _ _ ∷ []; is = refl; mid = (tt, tt) }
  one_told weight (sides.Ended place orb status) w q = record { more = notes.Ended _ _ _ _ ∷ []; is = refl; mid = (tt, tt) }
  one_told weight (sides.Dead place cause) w q = record { more = notes.Dead _ _ _ ∷ []; is = refl; mid = (q, tt) }
  one_told weight (sides.Cut place cause) w q = record { more = notes.Cut _ _ _ ∷ []; is = refl; mid = (tt, tt) }
  one_told weight (sides.Managed node function subject status login) w q = record { more = notes.Managed _ _ _ _ _ ∷ []; is = refl; mid = (tt, tt) }
  one_told weight (sides.ManageFailed node cause) w q = record { more = notes.ManageFailed _ _ ∷ []; is = refl; mid = (q, tt) }
  one_told weight (sides.Held login) w q = adds_one (notes.Held login) w.fresh tt
  one_told weight (sides.Expired login) w q = adds_one (notes.Expired login) w.fresh tt
  one_told weight (sides.Back login) w q = adds_one (notes.Back login) w.fresh tt
  one_told weight (sides.Left login) w q = adds_one (notes.Left login) w.fresh tt
  one_told weight (sides.Cleared unit) w q = adds_one (notes.Cleared unit) w.fresh tt
  one_told weight (sides.Unsolicited place) w q = record { more = notes.Unsolicited _ ∷ []; is = refl; mid = (tt, tt) }
  one_told weight (sides.Unsent place) w q = record { more = notes.Unsent _ ∷ []; is = refl; mid = (tt, tt) }

  all_told : (weight : ℕ) (side : List Side) (w : WorldState) → AreSaid side → Adds may w.fresh (told_all weight side w).fresh
  unfolding told_all
  all_told weight [] w q = adds_none w.fresh
  all_told weight (side ∷ later) w q =
      let v = told weight side w in adds_then w.fresh v.fresh (told_all weight later v).fresh (one_told weight side w q.0) (all_told weight later v q.1)

  pub handed_adds : (node weight : ℕ) (outbox : OutboxState) (w : WorldState) → AreSaid outbox.sides → Adds may w.fresh (handed_out node weight outbox w).fresh
  handed_adds node weight outbox w q =
      let v = told_all weight outbox.sides w in adds_then w.fresh v.fresh (handed_out node weight outbox w).fresh (all_told weight outbox.sides w q) (all_sent node outbox.packets v)

  -- the initiators tell of neither
  note_mid : (note : Note) → IsNoRun note → IsMid may note
  note_mid (notes.Begin initiators ready) h = absurd h
  note_mid (notes.Reset generation) h = absurd h
  note_mid (notes.Seen node generation) h = absurd h
  note_mid (notes.TimedOut serial) h = absurd h
  note_mid (notes.Dead i list cause) h = absurd h
  note_mid (notes.ManageFailed i cause) h = absurd h
  note_mid note h = tt

  pub own_said : (side : List Side) → AreOwn side → AreSaid side
  own_said [] h = tt
  own_said (sides.Own note ∷ later) h = (note_mid note h.0.1, own_said later h.1)
  own_said (side ∷ later) h = absurd h.0

-- the target may
other_said : (side : Side) → IsOther side → IsSaid any side
other_said (sides.Own note) o = absurd o
other_said (sides.Dead place cause) o = refl
other_said (sides.ManageFailed node cause) o = refl
other_said side o = tt

others_said : (side : List Side) → AreOthers side → AreSaid any side
others_said [] o = tt
others_said (one ∷ later) o = (other_said one o.0, others_said later o.1)

live_said : (side : Side) → IsOther side → IsLiving side → IsSaid deathless side
live_said (sides.Own note) o l = absurd o
live_said (sides.Dead place cause) o l = absurd l
live_said (sides.ManageFailed node cause) o l = refl
live_said side o l = tt

pub lives_said : (side : List Side) → AreOthers side → AreLiving side → AreSaid deathless side
lives_said [] o l = tt
lives_said (one ∷ later) o l = (live_said one o.0 l.0, lives_said later o.1 l.1)

unfailing_said : (side : Side) → IsOther side → IsUnfailing side → IsSaid unfailing side
unfailing_said (sides.Own note) o l = absurd o
unfailing_said (sides.Dead place cause) o l = refl
unfailing_said (sides.ManageFailed node cause) o l = absurd l
unfailing_said side o l = tt

pub fails_said : (side : List Side) → AreOthers side → AreUnfailing side → AreSaid unfailing side
fails_said [] o l = tt
fails_said (one ∷ later) o l = (unfailing_said one o.0 l.0, fails_said later o.1 l.1)

-- what a sight and a second tell
pub record OthersTell (may : May) : Type 0 where
  pub sights : (generation id : ℕ) (node : NodeState) → AreSaid may (seen generation id (scene node empty_outbox)).1.outbox.sides
  pub ticks : (node : NodeState) → AreSaid may (ticked (scene node empty_outbox)).outbox.sides

-- ---- a turn: of what may be told alone where a delivery tells of no other; or behind a time-out, a reset, or a sight of the latest generation
pub data Turned (may : May) (AreLive : Type 0) (latest : ℕ) (old new : List Note) : Type 0 where
  passes : Adds any old new → (AreLive → Adds may old new) → Turned may AreLive latest old new
  lapses : (serial : ℕ) → Adds any (notes.TimedOut serial ∷ old) new → Turned may AreLive latest old new
  resets : (generation : ℕ) → new ≡ notes.Reset generation ∷ old → Turned may AreLive latest old new
  sees : (node : ℕ) → Adds may (notes.Seen node latest ∷ old) new → Turned may AreLive latest old new

module _ (may : May) (tell : OthersTell may) (AreLive : Type 0) where
  silent : (latest : ℕ) (old new : List Note) → ((told : May) → Adds told old new) → Turned may AreLive latest old new
  silent latest old new a = passes (a any) (λ l. a may)

  one_note : (latest : ℕ) (note : Note) (ns : List Note) → ((told : May) → IsMid told note) → Turned may AreLive latest ns (note ∷ ns)
  one_note latest note ns q = silent latest ns (note ∷ ns) (λ told. adds_one told note ns (q told))

  -- ---- a packet is delivered
  module _ (s : Scene) (serial : ℕ) (again : Bool) (run : Option Told) where
    abbrev w : WorldState
    w = s.world

    abbrev after_it : WorldState
    after_it = (delivered serial again run s).world

    abbrev latest : ℕ
    latest = w.generations.latest.generation

    abbrev C : Type 0
    C = Turned may AreLive latest w.fresh after_it.fresh

    judged_mid : (told : May) (judged : Judged) → IsMid told (judged_note serial judged)
    judged_mid told judgements.Got = tt
    judged_mid told (judgements.Ignored cause) = tt

    behind_judged : (told : May) (node : ℕ) (judged : Judged) (outbox : OutboxState) (v : WorldState) → v.fresh ≡ w.fresh → AreSaid told outbox.sides → Adds told w.fresh (handed_out node 0 outbox (with_note (judged_note serial judged) (marked serial again v))).fresh
    behind_judged told node judged outbox v e q =
        let note = judged_note serial judged in
        let u = with_note note (marked serial again v) in
        adds_then told w.fresh (note ∷ w.fresh) (handed_out node 0 outbox u).fresh (adds_one told note w.fresh (judged_mid told judged))
        (subst (λ ns. Adds told (note ∷ ns) (handed_out node 0 outbox u).fresh) (marked_fresh serial again v ∙ e) (handed_adds told node 0 outbox u q))

    module _ (one : Sent) (found : found_sent serial w.store.kept ≡ Some one) where
      target_comes : one.to ≡ 0 → AreOthers (target_received run one w.target s.media).1.0.sides → (AreLive → AreSaid may (received run one.generation one.bytes (whole_of w.target s.media)).1.outbox.sides) → C
      unfolding delivered target_received arrived
      target_comes zero_to others live =
          let x = target_received run one w.target s.media in
          let last_is : after_it ≡ handed_out one.to 0 x.1.0 (with_note (judged_note serial x.0) (marked serial again (with_target x.1.1.0 w))) =
          ap (λ (y : Option Arrival × (OutboxState × Scene)). (delivered_by serial again y).world)
          (received_is run serial s one found ∙ ap (λ b. cond b (at_target one.to (target_received run one w.target s.media) s) (initiator_received one s)) (to_zero one.to zero_to)) in
          subst (λ (v : WorldState). Turned may AreLive latest w.fresh v.fresh) (sym last_is)
          (passes (behind_judged any one.to x.0 x.1.0 (with_target x.1.1.0 w) refl (others_said x.1.0.sides others))
          (λ l. behind_judged may one.to x.0 x.1.0 (with_target x.1.1.0 w) refl (live l)))

      own_comes : (i : ℕ) → one.to ≡ suc i → i < length w.initiators → C
      unfolding delivered initiators_received arrived
      own_comes i to_is inside =
          let old = slice_index_or w.initiators i (new_state 0 false) in
          let x = receive_step one.generation one.bytes empty_outbox old in
          let v = with_initiators (slice_set w.initiators i x.1.1) w in
          let last_is : after_it ≡ handed_out one.to 0 x.1.0 (with_note (judged_note serial x.0) (marked serial again v)) =
          ap (λ (y : Option Arrival × (OutboxState × Scene)). (delivered_by serial again y).world) (to_own run serial i s one found to_is ∙ own_inside one i s inside) in
          subst (λ (u : WorldState). Turned may AreLive latest w.fresh u.fresh) (sym last_is)
          (silent latest w.fresh _ (λ told. behind_judged told one.to x.0 x.1.0 v refl (own_said told x.1.0.sides (own.receives one.generation one.bytes empty_outbox old tt))))

      none_comes : (i : ℕ) → one.to ≡ suc i → length w.initiators ≤ i → C
      unfolding delivered
      none_comes i to_is outside =
          let same : after_it.fresh ≡ w.fresh = ap (λ (y : Option Arrival × (OutboxState × Scene)). (delivered_by serial again y).world.fresh) (to_own run serial i s one found to_is ∙ own_outside one i s outside) in
          subst (Turned may AreLive latest w.fresh) (sym same) (silent latest w.fresh w.fresh (λ told. adds_none told w.fresh))

      comes_at : (to : ℕ) → one.to ≡ to → (one.to ≡ 0 → MayTell run one w.target s.media) → (AreLive → one.to ≡ 0 → MayTell run one w.target s.media → AreSaid may (received run one.generation one.bytes (whole_of w.target s.media)).1.outbox.sides) → C
      comes_at zero e m l = target_comes e (hand_law.received run one w.target s.media (m e)) (λ x. l x e (m e))
      comes_at (suc i) e m l = by (nat_lt i (length w.initiators)) refl
        where
          by : (b : Bool) → nat_lt i (length w.initiators) ≡ b → C
          by true f = own_comes i e (grind (arith, nat_tests))
          by false f = none_comes i e (grind (arith, nat_tests))

    -- what it tells, where the packet is the target's
    abbrev LivesAt : Option Sent → Type 0
    LivesAt None = Unit {0}
    LivesAt (Some one) = one.to ≡ 0 → MayTell run one w.target s.media → AreSaid may (received run one.generation one.bytes (whole_of w.target s.media)).1.outbox.sides

    comes_by : (found : Option Sent) → found_sent serial w.store.kept ≡ found → MayAt run found s → (AreLive → LivesAt found) → C
    unfolding delivered received_step
    comes_by None e m l =
        let same : after_it.fresh ≡ w.fresh = ap (λ o. (delivered_by serial again (received_by run o s)).world.fresh) e in
        subst (Turned may AreLive latest w.fresh) (sym same) (silent latest w.fresh w.fresh (λ told. adds_none told w.fresh))
    comes_by (Some one) e m l = comes_at one e one.to refl (λ z. subst (λ b. MayTold b run one s) (to_zero one.to z) m) l

    pub delivery_turned : MayReceive run serial s → (AreLive → LivesAt (found_sent serial w.store.kept)) → C
    unfolding MayReceive
    delivery_turned m l = comes_by (found_sent serial w.store.kept) refl m l

  -- ---- the other lines
  module _ (w : WorldState) where
    abbrev last : ℕ
    last = w.generations.latest.generation

    abbrev Q : WorldState → Type 0
    Q v = Turned may AreLive last w.fresh v.fresh

    refuses : (line number : ℕ) → Q (refused line number w)
    refuses line number = one_note last (notes.Refused line number) w.fresh (λ told. tt)

    -- an initiator acts
    module _ (line i : ℕ) (action : Action) where
      acts_by : (x : Option ℕ × OwnTurn) → AreOwn x.1.0.sides → Q (acted_by x line i action w)
      acts_by (Some number, (outbox, state)) h = one_note last (notes.Refused line number) w.fresh (λ told. tt)
      acts_by (None, (outbox, state)) h = silent last w.fresh _ (λ told. handed_adds told (i + 1) (weight_in action) outbox (with_initiator i state w) (own_said told outbox.sides h))

      acts : Q (acted line i action w)
      unfolding acted
      acts = acts_by (act_step action empty_outbox (initiator_at w i)) (own.acts action empty_outbox (initiator_at w i) tt)

    -- the bus is reset, and a generation is seen
    resets_bus : (physical : List ℕ) → Q (reset_line physical w)
    unfolding reset_line
    resets_bus physical = resets _ refl

    target_sight : Q (see_line 0 w)
    unfolding see_line nodes.sees target_sees
    target_sight =
        let g = w.generations.latest in
        let x = target_sees g.generation (id_of g 0) w.target in
        let one = with_seen 0 (told_seen 0 w) in
        sees 0
        (handed_adds may 0 0 x.0 (with_target x.1 one) (tell.sights g.generation (id_of g 0) w.target))

    own_sight : (i : ℕ) → Q (see_line (suc i) w)
    unfolding see_line nodes.sees
    own_sight i =
        let g = w.generations.latest in
        let one = with_seen (suc i) (told_seen (suc i) w) in
        let t = see_step g.generation (id_of g (suc i)) (id_of g 0) empty_outbox (initiator_at w (suc i - 1)) in
        let two = with_initiator (suc i - 1) t.1 one in
        let other : (suc i == 0) ≡ false = grind (arith, nat_tests) in
        subst (λ b. Q (handed_all (suc i) (cond b (target_learns one) (initiator_learns (suc i) one)))) (sym other)
        (sees (suc i)
        (handed_adds may (suc i) 0 t.0 two (own_said may t.0.sides (own.sees g.generation (id_of g (suc i)) (id_of g 0) empty_outbox (initiator_at w (suc i - 1)) tt))))

    sights : (node : ℕ) → Q (see_line node w)
    sights zero = target_sight
    sights (suc i) = own_sight i

    -- a packet is lost, or injected
    loses : (line serial : ℕ) → Q (lose_line line serial w)
    unfolding lose_line
    loses line serial = by (is_in_flight serial w)
      where
        by : (b : Bool) → Q (cond b (lost serial w) (refused line no_packet w))
        by true = one_note last (notes.Lost serial) w.fresh (λ told. tt)
        by false = refuses line no_packet

    injects_to : (line from : ℕ) (bytes : List ℕ) (to : Option ℕ) → Q (injected to line from bytes w)
    injects_to line from bytes None = refuses line no_node
    injects_to line from bytes (Some to) = silent last w.fresh _ (λ told. posted_adds told from to true bytes w)

    injects : (line i : ℕ) (bytes : List ℕ) → Q (inject_line line i bytes w)
    unfolding inject_line
    injects line i bytes = injects_to line (i + 1) bytes (injected_to (i + 1) bytes w)

    -- a transaction times out
    module _ (line serial : ℕ) (request : Request) where
      target_lapse : (y : Result (Unit {0}) Stale × TargetScene) → AreOthers y.1.outbox.sides → Q (timed_out line serial request.node (packets.at_target (target_left y w.target) w))
      target_lapse (Ok done, t) o =
          let u = with_note (notes.TimedOut serial) (with_target t.node w) in
          lapses serial (handed_adds any request.node 0 t.outbox u (others_said t.outbox.sides o))
      target_lapse (Err stale, t) o = refuses line no_packet

      own_lapse : (i : ℕ) (x : Bool × OwnTurn) → AreOwn x.1.0.sides → Q (timed_out line serial request.node (packets.at_initiator i x w))
      own_lapse i (true, (outbox, state)) h =
          let u = with_note (notes.TimedOut serial) (with_initiator i state w) in
          lapses serial (handed_adds any request.node 0 outbox u (own_said any outbox.sides h))
      own_lapse i (false, (outbox, state)) h = refuses line no_packet

      own_lapses : Q (timed_out line serial request.node (initiator_expires request w))
      own_lapses = by (nat_lt (request.node - 1) (length w.initiators))
        where
          old : InitiatorState
          old = initiator_at w (request.node - 1)

          by : (b : Bool) → Q (timed_out line serial request.node (cond b (packets.at_initiator (request.node - 1) (expire_step request.label empty_outbox old) w) (false, (empty_outbox, w))))
          by true = own_lapse (request.node - 1) (expire_step request.label empty_outbox old) (own.expires request.label empty_outbox old tt)
          by false = refuses line no_packet

      all_lapses : Q (timed_out line serial request.node (expires request w))
      unfolding expires target_expired
      all_lapses = by (request.node == 0)
        where
          by : (b : Bool) → Q (timed_out line serial request.node (cond b (packets.at_target (target_expired request w.target) w) (initiator_expires request w)))
          by true = target_lapse (expired request.peer request.label (scene w.target empty_outbox)) (hand_law.expires request.peer request.label w.target)
          by false = own_lapses

    late_by : (line serial : ℕ) (request : Option Request) → Q (timeout_of request line serial w)
    late_by line serial None = refuses line no_packet
    late_by line serial (Some request) = all_lapses line serial request

    late : (line serial : ℕ) → Q (timeout_line line serial w)
    unfolding timeout_line
    late line serial = late_by line serial (find w.requests serial)

    -- a second passes, and a key is set
    ticks : Q (tick_line w)
    unfolding tick_line target_ticks
    ticks =
        let x = target_ticks w.target in
        let u = with_target x.1 (with_note notes.Tick w) in
        passes (adds_then any w.fresh (notes.Tick ∷ w.fresh) (handed_out 0 0 x.0 u).fresh (adds_one any notes.Tick w.fresh tt) (handed_adds any 0 0 x.0 u (others_said x.0.sides (hand_law.ticks w.target))))
        (λ l. adds_then may w.fresh (notes.Tick ∷ w.fresh) (handed_out 0 0 x.0 u).fresh (adds_one may notes.Tick w.fresh tt) (handed_adds may 0 0 x.0 u (tell.ticks w.target)))

    keys : (line unit : ℕ) (key : List ℕ) → Q (keyed line unit key w)
    unfolding keyed
    keys line unit key = by (nat_lt unit (length w.target.units))
      where
        by : (b : Bool) → Q (cond b (with_note (notes.Key unit) (with_target (with_key unit key w.target) w)) (refused line no_unit w))
        by true = one_note last (notes.Key unit) w.fresh (λ told. tt)
        by false = refuses line no_unit

  -- ---- a line that delivers one packet at most
  module _ (s : Scene) (line serial : ℕ) (again : Bool) where
    one_turned : (b : Bool) (told : List (Option Told)) → MayIf b serial told s → (AreLive → (run : Option Told) → told ≡ run ∷ [] → LivesAt s serial again run (found_sent serial s.world.store.kept)) → Turned may AreLive s.world.generations.latest.generation s.world.fresh (delivered_if b line serial again told s).world.fresh
    one_turned true [] m l = absurd m
    one_turned true (one ∷ []) m l = delivery_turned s serial again one m (λ x. l x one refl)
    one_turned true (one ∷ other ∷ more) m l = absurd m
    one_turned false told m l = refuses s.world line no_packet

-- ---- each turn
-- what the delivery of a packet to the target in the turn tells
abbrev pub TellsBy : May → (heard : ℕ → Option Told → Type 0) → Scene → Type 0
TellsBy may heard s =
    (serial : ℕ) (run : Option Told) → heard serial run → (sent : Sent) → found_sent serial s.world.store.kept ≡ Some sent → sent.to ≡ 0 → MayTell run sent s.world.target s.media → AreSaid may (received run sent.generation sent.bytes (whole_of s.world.target s.media)).1.outbox.sides

lives_at : (may : May) (tell : OthersTell may) (AreLive : Type 0) (s : Scene) (serial : ℕ) (again : Bool) (run : Option Told) (found : Option Sent) → found_sent serial s.world.store.kept ≡ found → ((sent : Sent) → found_sent serial s.world.store.kept ≡ Some sent → sent.to ≡ 0 → MayTell run sent s.world.target s.media → AreSaid may (received run sent.generation sent.bytes (whole_of s.world.target s.media)).1.outbox.sides) → LivesAt may tell AreLive s serial again run found
lives_at may tell AreLive s serial again run None e l = tt
lives_at may tell AreLive s serial again run (Some one) e l = l one e

module _ (may : May) (tell : OthersTell may) (line : ℕ) (s : Scene) where
  line_turned : (event : Event) (told : List (Option Told)) → IsOne event → IsLine event (length s.world.initiators) → MayHappen event told s → Turned may (TellsBy may (line_heard event told) s) s.world.generations.latest.generation [] (happens line event told s).world.fresh
  unfolding happens MayHappen
  line_turned (events.Begin initiators is_ready) told o q m = absurd q
  line_turned (events.Act i action) told o q m = acts may tell _ (without_notes s.world) line i action
  line_turned (events.Reset physical) told o q m = resets_bus may tell _ (without_notes s.world) physical
  line_turned (events.See node) told o q m = sights may tell _ (without_notes s.world) node
  line_turned (events.Deliver serial) told o q m =
      one_turned may tell _ (begun s) line serial false (is_in_flight serial (begun s).world) told m
      (λ live run e. lives_at may tell (TellsBy may (line_heard (events.Deliver serial) told) s) (begun s) serial false run (found_sent serial s.world.store.kept) refl (λ sent found to may. live serial run (refl, e) sent found to may))
  line_turned (events.Repeat serial) told o q m =
      one_turned may tell _ (begun s) line serial true (may_repeat serial (begun s).world) told m
      (λ live run e. lives_at may tell (TellsBy may (line_heard (events.Repeat serial) told) s) (begun s) serial true run (found_sent serial s.world.store.kept) refl (λ sent found to may. live serial run (refl, e) sent found to may))
  line_turned (events.Lose serial) told o q m = loses may tell _ (without_notes s.world) line serial
  line_turned (events.Timeout serial) told o q m = late may tell _ (without_notes s.world) line serial
  line_turned (events.Step count) told o q m = absurd o
  line_turned events.Settle told o q m = absurd o
  line_turned events.Tick told o q m = ticks may tell _ (without_notes s.world)
  line_turned (events.Inject i bytes) told o q m = injects may tell _ (without_notes s.world) line i bytes
  line_turned (events.Key unit key) told o q m = keys may tell _ (without_notes s.world) line unit key

next_turned : (may : May) (tell : OthersTell may) (AreLive : Type 0) (s : Scene) (one : Option Told) (so : Option ℕ) → settling.MayAt so one s → (AreLive → (serial : ℕ) → so ≡ Some serial → LivesAt may tell AreLive s serial false one (found_sent serial s.world.store.kept)) → Turned may AreLive s.world.generations.latest.generation s.world.fresh (delivered_at so one s).world.fresh
next_turned may tell AreLive s one None m l = absurd m
next_turned may tell AreLive s one (Some serial) m l = delivery_turned may tell AreLive s serial false one m (λ x. l x serial refl)

-- By the moments of the turn: behind the line that is asked for, where it begins one.
pub data TurnSays (may : May) (AreLive : Type 0) (latest : ℕ) (past : List Moment) (now : List Moment) : Type 0 where
  goes : (old new : List Note) (below : List Moment) → map said old ++ below ≡ past → map said new ++ below ≡ now → Turned may AreLive latest old new → TurnSays may AreLive latest past now
  asks : (line : ℕ) (event : Event) (new : List Note) → map said new ++ asked_line line event ∷ past ≡ now → Turned may AreLive latest [] new → TurnSays may AreLive latest past now

pub turn_says : (may : May) (tell : OthersTell may) (past : List Moment) (s : Scene) (later : List Moment) (t : Scene) (turn : Turn past s later t) → TurnSays may (TellsBy may (heard_in past s later t turn) s) s.world.generations.latest.generation (hist past s.world) (hist later t.world)
unfolding delivered_next MayNext
turn_says may tell _ _ _ _ (by_line past s line event told o q m) = asks line event (happens line event told s).world.fresh refl (line_turned may tell line s event told o q m)
turn_says may tell _ _ _ _ (by_start past s line event d) = asks line event [] refl (silent may tell _ _ [] [] (λ told. adds_none told []))
turn_says may tell _ _ _ _ (by_delivery past s one m) =
    goes s.world.fresh (delivered_at (lowest s.world) one s).world.fresh past refl refl
    (next_turned may tell _ s one (lowest s.world) m (λ live serial e. lives_at may tell (TellsBy may (next_told s one) s) s serial false one (found_sent serial s.world.store.kept) refl (λ sent found to may. live serial one (e, refl) sent found to may)))
turn_says may tell _ _ _ _ (by_end past s done) = goes s.world.fresh (end_note done ∷ s.world.fresh) past refl refl (one_note may tell _ _ (end_note done) s.world.fresh (λ told. end_mid told done))
  where
    end_mid : (told : May) (done : Bool) → IsMid told (end_note done)
    end_mid told true = tt
    end_mid told false = tt
