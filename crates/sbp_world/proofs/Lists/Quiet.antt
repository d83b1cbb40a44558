-- What a node hands out behind the first note of a turn: no packet is judged there.
use Rattle.sbp_world.proofs.Words.Std.{◌≡◌, ◌∙◌, refl, sym, ap, subst, ℕ, zero, suc, ◌+◌, ◌-◌, ◌==◌, ◌<◌, ◌≤◌, nat_lt, Bool, true, false, cond, List, [], ◌∷◌, ◌++◌, length, Option, Some, None, Result, Ok, Err, arith, nat_tests, slice_index_or, slice_set}
use Rattle.sbp_world.proofs.Words.Wire.{LabelParts, Stale, Sent, found_sent, Request, id_of, node_of, judged_note, no_node, no_packet, find, OutboxState, empty_outbox, Judged, Action, Note, Outgoing, Side}
use Rattle.sbp_world.proofs.Words.Target.{Told, expired, with_key}
use Rattle.sbp_world.proofs.Words.Initiator.{act_step, Turn, new_state, InitiatorState, expire_step, receive_step, see_step}
use Rattle.sbp_world.proofs.Words.World.{Arrival, MayAt, MayReceive, MayTold, arrived, at_target, delivered, delivered_by, initiator_received, initiators_received, marked, received_by, received_step, target_received, with_initiators, handed_out, acted, acted_by, keyed, no_unit, weight_in, handed_all, initiator_learns, reset_line, see_line, target_learns, target_sees, target_ticks, tick_line, told_seen, with_seen, MayIf, delivered_if, expires, initiator_expires, inject_line, injected, injected_to, is_in_flight, lose_line, lost, refused, target_expired, target_left, timed_out, timeout_line, timeout_of, asked, posted, sent, sent_all, sent_to, told, told_all, Scene, WorldState, initiator_at, with_initiator, with_note, with_target, AreOthers, IsOther}
use Rattle.sbp_journal.specs.declared.note.Note.TheVariants as notes
use Rattle.sbp_journal.specs.declared.side.Side.TheVariants as sides
use Rattle.sbp_target.specs.Nodes as target
use Rattle.sbp_world.specs.Nodes as nodes
use Rattle.sbp_world.specs.Packets as packets
use Rattle.sbp_world.proofs.Wire.Comes.{own_inside, own_outside, received_is, to_own, to_zero}
use Rattle.sbp_world.proofs.InitiatorForms as own
use Rattle.sbp_world.proofs.Formed.{AreOwn, IsNoRun}
use Rattle.sbp_world.proofs.Hosts.Hands.{hand_law}
use Rattle.sbp_world.proofs.Lists.Extends.{marked_fresh}
use Rattle.sbp_world.proofs.Common.{notes_joined}

-- ---- notes
abbrev pub IsQuiet : Note → Type 0
IsQuiet (notes.Got serial) = ⊥
IsQuiet (notes.Ignored serial cause) = ⊥
IsQuiet note = Unit {0}

abbrev pub AllQuiet : List Note → Type 0
AllQuiet [] = Unit {0}
AllQuiet (note ∷ later) = IsQuiet note × AllQuiet later

-- notes stand behind others, and no packet is judged in them
pub record Quietly (old new : List Note) : Type 0 where
  pub more : List Note
  pub is : more ++ old ≡ new
  pub quiet : AllQuiet more

both : (a b : List Note) → AllQuiet a → AllQuiet b → AllQuiet (a ++ b)
both [] b x y = y
both (m ∷ a) b x y = (x.0, both a b x.1 y)

pub quiet_none : (ns : List Note) → Quietly ns ns
quiet_none ns = record { more = []; is = refl; quiet = tt }

pub quiet_then : (one two three : List Note) → Quietly one two → Quietly two three → Quietly one three
quiet_then one two three a b = record { more = b.more ++ a.more; is = notes_joined b.more a.more one ∙ ap (λ ns. b.more ++ ns) a.is ∙ b.is; quiet = both b.more a.more b.quiet a.quiet }

quiet_one : (note : Note) (ns : List Note) → IsQuiet note → Quietly ns (note ∷ ns)
quiet_one note ns q = record { more = note ∷ []; is = refl; quiet = (q, tt) }

-- ---- packets
asked_quiet : (serial to node peer : ℕ) (label : Option LabelParts) (old : List Note) (w : WorldState) → Quietly old w.fresh → Quietly old (asked serial to node peer label w).fresh
asked_quiet serial to node peer None old w e = e
asked_quiet serial to node peer (Some label) old w e = e

posted_quiet : (from to : ℕ) (is_injected : Bool) (bytes : List ℕ) (w : WorldState) → Quietly w.fresh (posted from to is_injected bytes w).fresh
unfolding posted
posted_quiet from to false bytes w = record { more = notes.Sent _ _ from to bytes ∷ []; is = refl; quiet = (tt, tt) }
posted_quiet from to true bytes w = record { more = notes.Sent _ _ from to bytes ∷ notes.Injected _ ∷ []; is = refl; quiet = (tt, (tt, tt)) }

to_quiet : (to : Option ℕ) (from : ℕ) (packet : Outgoing) (w : WorldState) → Quietly w.fresh (sent_to to from packet w).fresh
to_quiet None from packet w = quiet_none w.fresh
to_quiet (Some to) from packet w = asked_quiet (w.store.last + 1) to from packet.to packet.label w.fresh (posted from to false packet.bytes w) (posted_quiet from to false packet.bytes w)

all_sent : (from : ℕ) (outgoing : List Outgoing) (w : WorldState) → Quietly w.fresh (sent_all from outgoing w).fresh
unfolding sent_all sent
all_sent from [] w = quiet_none w.fresh
all_sent from (packet ∷ later) w =
    let v = sent from packet w in quiet_then w.fresh v.fresh (sent_all from later v).fresh (to_quiet (node_of w.generations from packet.to) from packet w) (all_sent from later v)

-- ---- what is told
abbrev IsQuietSide : Side → Type 0
IsQuietSide (sides.Own note) = IsQuiet note
IsQuietSide side = Unit {0}

abbrev AreQuiet : List Side → Type 0
AreQuiet [] = Unit {0}
AreQuiet (side ∷ later) = IsQuietSide side × AreQuiet later

one_told : (weight : ℕ) (side : Side) (w : WorldState) → IsQuietSide side → Quietly w.fresh (told weight side w).fresh
unfolding told
one_told weight (sides.Own note) w q = quiet_one note w.fresh q
one_told weight (sides.Opened place orb) w q = quiet_none w.fresh
one_told weight (sides.Ran place orb cdb payload outcome) w q = record { more = notes.Ran _ _ _ _ _ _ _ ∷ []; is = refl; quiet = (tt, tt) }
one_told weight (sides.Ended place orb status) w q = record { more = notes.Ended _ _ _ _ ∷ []; is = refl; quiet = (tt, tt) }
one_told weight (sides.Dead place cause) w q = record { more = notes.Dead _ _ _ ∷ []; is = refl; quiet = (tt, tt) }
one_told weight (sides.Cut place cause) w q = record { more = notes.Cut _ _ _ ∷ []; is = refl; quiet = (tt, tt) }
one_told weight (sides.Managed node function subject status login) w q = record { more = notes.Managed _ _ _ _ _ ∷ []; is = refl; quiet = (tt, tt) }
one_told weight (sides.ManageFailed node cause) w q = record { more = notes.ManageFailed _ _ ∷ []; is = refl; quiet = (tt, tt) }
one_told weight (sides.Held login) w q = quiet_one (notes.Held login) w.fresh tt
one_told weight (sides.Expired login) w q = quiet_one (notes.Expired login) w.fresh tt
one_told weight (sides.Back login) w q = quiet_one (notes.Back login) w.fresh tt
one_told weight (sides.Left login) w q = quiet_one (notes.Left login) w.fresh tt
one_told weight (sides.Cleared unit) w q = quiet_one (notes.Cleared unit) w.fresh tt
one_told weight (sides.Unsolicited place) w q = record { more = notes.Unsolicited _ ∷ []; is = refl; quiet = (tt, tt) }
one_told weight (sides.Unsent place) w q = record { more = notes.Unsent _ ∷ []; is = refl; quiet = (tt, tt) }

all_told : (weight : ℕ) (side : List Side) (w : WorldState) → AreQuiet side → Quietly w.fresh (told_all weight side w).fresh
unfolding told_all
all_told weight [] w q = quiet_none w.fresh
all_told weight (side ∷ later) w q =
    let v = told weight side w in quiet_then w.fresh v.fresh (told_all weight later v).fresh (one_told weight side w q.0) (all_told weight later v q.1)

pub handed_quiet : (node weight : ℕ) (outbox : OutboxState) (w : WorldState) → AreQuiet outbox.sides → Quietly w.fresh (handed_out node weight outbox w).fresh
handed_quiet node weight outbox w q =
    let v = told_all weight outbox.sides w in quiet_then w.fresh v.fresh (handed_out node weight outbox w).fresh (all_told weight outbox.sides w q) (all_sent node outbox.packets v)

-- the target, and the initiators
other_quiet : (side : Side) → IsOther side → IsQuietSide side
other_quiet (sides.Own note) o = absurd o
other_quiet (sides.Opened place orb) o = tt
other_quiet (sides.Ran place orb cdb payload outcome) o = tt
other_quiet (sides.Ended place orb status) o = tt
other_quiet (sides.Dead place cause) o = tt
other_quiet (sides.Cut place cause) o = tt
other_quiet (sides.Managed node function subject status login) o = tt
other_quiet (sides.ManageFailed node cause) o = tt
other_quiet (sides.Held login) o = tt
other_quiet (sides.Expired login) o = tt
other_quiet (sides.Back login) o = tt
other_quiet (sides.Left login) o = tt
other_quiet (sides.Cleared unit) o = tt
other_quiet (sides.Unsolicited place) o = tt
other_quiet (sides.Unsent place) o = tt

pub others_quiet : (side : List Side) → AreOthers side → AreQuiet side
others_quiet [] o = tt
others_quiet (one ∷ later) o = (other_quiet one o.0, others_quiet later o.1)

note_quiet : (note : Note) → IsNoRun note → IsQuiet note
note_quiet (notes.Got serial) h = absurd h
note_quiet (notes.Ignored serial cause) h = absurd h
note_quiet note h = tt

pub own_quiet : (side : List Side) → AreOwn side → AreQuiet side
own_quiet [] h = tt
own_quiet (sides.Own note ∷ later) h = (note_quiet note h.0.1, own_quiet later h.1)
own_quiet (sides.Opened a b ∷ later) h = absurd h.0
own_quiet (sides.Ran a b c d e ∷ later) h = absurd h.0
own_quiet (sides.Ended a b c ∷ later) h = absurd h.0
own_quiet (sides.Dead a b ∷ later) h = absurd h.0
own_quiet (sides.Cut a b ∷ later) h = absurd h.0
own_quiet (sides.Managed a b c d e ∷ later) h = absurd h.0
own_quiet (sides.ManageFailed a b ∷ later) h = absurd h.0
own_quiet (sides.Held a ∷ later) h = absurd h.0
own_quiet (sides.Expired a ∷ later) h = absurd h.0
own_quiet (sides.Back a ∷ later) h = absurd h.0
own_quiet (sides.Left a ∷ later) h = absurd h.0
own_quiet (sides.Cleared a ∷ later) h = absurd h.0
own_quiet (sides.Unsolicited a ∷ later) h = absurd h.0
own_quiet (sides.Unsent a ∷ later) h = absurd h.0

-- ---- a packet is delivered: the note of its judgement comes first
pub data Comes (old new : List Note) : Type 0 where
  nothing : new ≡ old → Comes old new
  comes : (note : Note) → Quietly (note ∷ old) new → Comes old new

-- or there is no node that it comes to
pub data Hears (old new : List Note) : Type 0 where
  unheard : new ≡ old → Hears old new
  hears : (serial : ℕ) (judged : Judged) → Quietly (judged_note serial judged ∷ old) new → Hears old new

as_comes : (old new : List Note) → Hears old new → Comes old new
as_comes old new (unheard e) = nothing e
as_comes old new (hears serial judged q) = comes (judged_note serial judged) q

module _ (s : Scene) (serial : ℕ) (again : Bool) (run : Option Told) where
  abbrev w : WorldState
  w = s.world

  abbrev after_it : WorldState
  after_it = (delivered serial again run s).world

  abbrev C : Type 0
  C = Hears w.fresh after_it.fresh

  behind_judged : (node : ℕ) (judged : Judged) (outbox : OutboxState) (v : WorldState) → v.fresh ≡ w.fresh → AreQuiet outbox.sides → Hears w.fresh (handed_out node 0 outbox (with_note (judged_note serial judged) (marked serial again v))).fresh
  behind_judged node judged outbox v e q =
      let note = judged_note serial judged in
      let u = with_note note (marked serial again v) in
      hears serial judged (subst (λ ns. Quietly (note ∷ ns) (handed_out node 0 outbox u).fresh) (marked_fresh serial again v ∙ e) (handed_quiet node 0 outbox u q))

  module _ (one : Sent) (found : found_sent serial w.store.kept ≡ Some one) where
    target_comes : one.to ≡ 0 → AreOthers (target_received run one w.target s.media).1.0.sides → C
    unfolding delivered target_received arrived
    target_comes zero_to others =
        let x = target_received run one w.target s.media in
        let last_is : after_it ≡ handed_out one.to 0 x.1.0 (with_note (judged_note serial x.0) (marked serial again (with_target x.1.1.0 w))) =
        ap (λ (y : Option Arrival × (OutboxState × Scene)). (delivered_by serial again y).world)
        (received_is run serial s one found ∙ ap (λ b. cond b (at_target one.to (target_received run one w.target s.media) s) (initiator_received one s)) (to_zero one.to zero_to)) in
        subst (λ (v : WorldState). Hears w.fresh v.fresh) (sym last_is) (behind_judged one.to x.0 x.1.0 (with_target x.1.1.0 w) refl (others_quiet x.1.0.sides others))

    own_comes : (i : ℕ) → one.to ≡ suc i → i < length w.initiators → C
    unfolding delivered initiators_received arrived
    own_comes i to_is inside =
        let old = slice_index_or w.initiators i (new_state 0 false) in
        let x = receive_step one.generation one.bytes empty_outbox old in
        let v = with_initiators (slice_set w.initiators i x.1.1) w in
        let last_is : after_it ≡ handed_out one.to 0 x.1.0 (with_note (judged_note serial x.0) (marked serial again v)) =
        ap (λ (y : Option Arrival × (OutboxState × Scene)). (delivered_by serial again y).world) (to_own run serial i s one found to_is ∙ own_inside one i s inside) in
        subst (λ (u : WorldState). Hears w.fresh u.fresh) (sym last_is) (behind_judged one.to x.0 x.1.0 v refl (own_quiet x.1.0.sides (own.receives one.generation one.bytes empty_outbox old tt)))

    none_comes : (i : ℕ) → one.to ≡ suc i → length w.initiators ≤ i → C
    unfolding delivered
    none_comes i to_is outside =
        unheard (ap (λ (y : Option Arrival × (OutboxState × Scene)). (delivered_by serial again y).world.fresh) (to_own run serial i s one found to_is ∙ own_outside one i s outside))

    comes_at : (to : ℕ) → one.to ≡ to → (one.to ≡ 0 → AreOthers (target_received run one w.target s.media).1.0.sides) → C
    comes_at zero e o = target_comes e (o e)
    comes_at (suc i) e o = by (nat_lt i (length w.initiators)) refl
      where
        by : (b : Bool) → nat_lt i (length w.initiators) ≡ b → C
        by true f = own_comes i e (grind (arith, nat_tests))
        by false f = none_comes i e (grind (arith, nat_tests))

  comes_by : (found : Option Sent) → found_sent serial w.store.kept ≡ found → MayAt run found s → C
  unfolding delivered received_step
  comes_by None e m = unheard (ap (λ o. (delivered_by serial again (received_by run o s)).world.fresh) e)
  comes_by (Some one) e m = comes_at one e one.to refl (λ z. hand_law.received run one w.target s.media (subst (λ b. MayTold b run one s) (to_zero one.to z) m))

  pub delivery_hears : MayReceive run serial s → C
  unfolding MayReceive
  delivery_hears m = comes_by (found_sent serial w.store.kept) refl m

  pub delivery_comes : MayReceive run serial s → Comes w.fresh after_it.fresh
  delivery_comes m = as_comes w.fresh after_it.fresh (delivery_hears m)

-- ---- the other lines
module _ (w : WorldState) where
  abbrev Q : WorldState → Type 0
  Q v = Quietly w.fresh v.fresh

  refuses : (line number : ℕ) → Q (refused line number w)
  refuses line number = quiet_one (notes.Refused line number) w.fresh tt

  -- an initiator acts
  module _ (line i : ℕ) (action : Action) where
    acts_by : (x : Option ℕ × Turn) → AreOwn x.1.0.sides → Q (acted_by x line i action w)
    acts_by (Some number, (outbox, state)) h = quiet_one (notes.Refused line number) w.fresh tt
    acts_by (None, (outbox, state)) h = handed_quiet (i + 1) (weight_in action) outbox (with_initiator i state w) (own_quiet outbox.sides h)

    pub acts : Q (acted line i action w)
    unfolding acted
    acts = acts_by (act_step action empty_outbox (initiator_at w i)) (own.acts action empty_outbox (initiator_at w i) tt)

  -- the bus is reset, and a generation is seen
  pub resets : (physical : List ℕ) → Q (reset_line physical w)
  unfolding reset_line
  resets physical = record { more = notes.Reset _ ∷ []; is = refl; quiet = (tt, tt) }

  target_sight : Q (see_line 0 w)
  unfolding see_line nodes.sees target_sees
  target_sight =
      let g = w.generations.latest in
      let x = target_sees g.generation (id_of g 0) w.target in
      let one = with_seen 0 (told_seen 0 w) in
      quiet_then w.fresh one.fresh (handed_out 0 0 x.0 (with_target x.1 one)).fresh (quiet_one (notes.Seen 0 g.generation) w.fresh tt)
      (handed_quiet 0 0 x.0 (with_target x.1 one) (others_quiet x.0.sides (hand_law.sees g.generation (id_of g 0) w.target)))

  own_sight : (i : ℕ) → Q (see_line (suc i) w)
  unfolding see_line nodes.sees
  own_sight i =
      let g = w.generations.latest in
      let one = with_seen (suc i) (told_seen (suc i) w) in
      let t = see_step g.generation (id_of g (suc i)) (id_of g 0) empty_outbox (initiator_at w (suc i - 1)) in
      let two = with_initiator (suc i - 1) t.1 one in
      let other : (suc i == 0) ≡ false = grind (arith, nat_tests) in
      subst (λ b. Q (handed_all (suc i) (cond b (target_learns one) (initiator_learns (suc i) one)))) (sym other)
      (quiet_then w.fresh one.fresh (handed_out (suc i) 0 t.0 two).fresh (quiet_one (notes.Seen (suc i) g.generation) w.fresh tt)
      (handed_quiet (suc i) 0 t.0 two (own_quiet t.0.sides (own.sees g.generation (id_of g (suc i)) (id_of g 0) empty_outbox (initiator_at w (suc i - 1)) tt))))

  pub sights : (node : ℕ) → Q (see_line node w)
  sights zero = target_sight
  sights (suc i) = own_sight i

  -- a packet is lost, or injected
  pub loses : (line serial : ℕ) → Q (lose_line line serial w)
  unfolding lose_line
  loses line serial = by (is_in_flight serial w)
    where
      by : (b : Bool) → Q (cond b (lost serial w) (refused line no_packet w))
      by true = quiet_one (notes.Lost serial) w.fresh tt
      by false = refuses line no_packet

  injects_to : (line from : ℕ) (bytes : List ℕ) (to : Option ℕ) → Q (injected to line from bytes w)
  injects_to line from bytes None = refuses line no_node
  injects_to line from bytes (Some to) = posted_quiet from to true bytes w

  pub injects : (line i : ℕ) (bytes : List ℕ) → Q (inject_line line i bytes w)
  unfolding inject_line
  injects line i bytes = injects_to line (i + 1) bytes (injected_to (i + 1) bytes w)

  -- a transaction times out
  module _ (line serial : ℕ) (request : Request) where
    target_lapse : (y : Result (Unit {0}) Stale × target.Scene) → AreOthers y.1.outbox.sides → Q (timed_out line serial request.node (packets.at_target (target_left y w.target) w))
    target_lapse (Ok done, t) o =
        let u = with_note (notes.TimedOut serial) (with_target t.node w) in
        quiet_then w.fresh u.fresh (handed_out request.node 0 t.outbox u).fresh (quiet_one (notes.TimedOut serial) w.fresh tt) (handed_quiet request.node 0 t.outbox u (others_quiet t.outbox.sides o))
    target_lapse (Err stale, t) o = refuses line no_packet

    own_lapse : (i : ℕ) (x : Bool × Turn) → AreOwn x.1.0.sides → Q (timed_out line serial request.node (packets.at_initiator i x w))
    own_lapse i (true, (outbox, state)) h =
        let u = with_note (notes.TimedOut serial) (with_initiator i state w) in
        quiet_then w.fresh u.fresh (handed_out request.node 0 outbox u).fresh (quiet_one (notes.TimedOut serial) w.fresh tt) (handed_quiet request.node 0 outbox u (own_quiet outbox.sides h))
    own_lapse i (false, (outbox, state)) h = refuses line no_packet

    own_lapses : Q (timed_out line serial request.node (initiator_expires request w))
    own_lapses = by (nat_lt (request.node - 1) (length w.initiators))
      where
        old : InitiatorState
        old = initiator_at w (request.node - 1)

        by : (b : Bool) → Q (timed_out line serial request.node (cond b (packets.at_initiator (request.node - 1) (expire_step request.label empty_outbox old) w) (false, (empty_outbox, w))))
        by true = own_lapse (request.node - 1) (expire_step request.label empty_outbox old) (own.expires request.label empty_outbox old tt)
        by false = refuses line no_packet

    lapses : Q (timed_out line serial request.node (expires request w))
    unfolding expires target_expired
    lapses = by (request.node == 0)
      where
        by : (b : Bool) → Q (timed_out line serial request.node (cond b (packets.at_target (target_expired request w.target) w) (initiator_expires request w)))
        by true = target_lapse (expired request.peer request.label (target.scene w.target empty_outbox)) (hand_law.expires request.peer request.label w.target)
        by false = own_lapses

  late_by : (line serial : ℕ) (request : Option Request) → Q (timeout_of request line serial w)
  late_by line serial None = refuses line no_packet
  late_by line serial (Some request) = lapses line serial request

  pub late : (line serial : ℕ) → Q (timeout_line line serial w)
  unfolding timeout_line
  late line serial = late_by line serial (find w.requests serial)

  -- a second passes, and a key is set
  pub ticks : Q (tick_line w)
  unfolding tick_line target_ticks
  ticks =
      let x = target_ticks w.target in
      let u = with_target x.1 (with_note notes.Tick w) in
      quiet_then w.fresh u.fresh (handed_out 0 0 x.0 u).fresh (quiet_one notes.Tick w.fresh tt) (handed_quiet 0 0 x.0 u (others_quiet x.0.sides (hand_law.ticks w.target)))

  pub keys : (line unit : ℕ) (key : List ℕ) → Q (keyed line unit key w)
  unfolding keyed
  keys line unit key = by (nat_lt unit (length w.target.units))
    where
      by : (b : Bool) → Q (cond b (with_note (notes.Key unit) (with_target (with_key unit key w.target) w)) (refused line no_unit w))
      by true = quiet_one (notes.Key unit) w.fresh tt
      by false = refuses line no_unit

-- ---- a line that delivers one packet at most
module _ (s : Scene) (line serial : ℕ) (again : Bool) where
  pub one_comes : (b : Bool) (run : List (Option Told)) → MayIf b serial run s → Comes s.world.fresh (delivered_if b line serial again run s).world.fresh
  one_comes true [] m = absurd m
  one_comes true (one ∷ []) m = delivery_comes s serial again one m
  one_comes true (one ∷ other ∷ more) m = absurd m
  one_comes false run m = comes (notes.Refused line no_packet) (quiet_none (notes.Refused line no_packet ∷ s.world.fresh))
