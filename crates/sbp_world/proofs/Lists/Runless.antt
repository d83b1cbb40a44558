-- What a node hands out in a turn, where it tells of no run: notes of no run stand in front of a history. So it is of each line with no packet; and of a packet that is
-- delivered, but for the run that the target may tell of first, directly behind the note of the packet.
use Rattle.sbp_world.proofs.Words.Std.{◌≡◌, ◌∙◌, inl, inr, ◌⊎◌, refl, sym, ap, subst, ℕ, zero, suc, ◌+◌, ◌-◌, ◌==◌, ◌<◌, ◌≤◌, ◌||◌, not, nat_lt, Bool, true, false, cond, List, [], ◌∷◌, ◌++◌, length, Option, Some, None, Result, Ok, Err, arith, nat_tests, slice_index_or, slice_set}
use Rattle.sbp_world.proofs.Words.Wire.{LabelParts, Stale, Sent, found_sent, is_flying, deliver_step, Request, id_of, node_of, judged_note, no_node, no_packet, holder_at, list_in, orb_in, ran_note, check_of, Holder, Judged, find, OutboxState, empty_outbox, Action, Note, Outgoing, Side}
use Rattle.sbp_world.proofs.Words.Target.{Told, Outcome, NodeState, expired, received, with_key}
use Rattle.sbp_world.proofs.Words.Initiator.{act_step, Turn, new_state, InitiatorState, expire_step, receive_step, see_step}
use Rattle.sbp_world.proofs.Words.World.{Arrival, MayAt, MayReceive, MayTell, MayTold, arrived, at_target, delivered, delivered_by, initiator_received, initiators_received, marked, received_by, received_step, target_received, whole_of, with_initiators, handed_out, acted, acted_by, keyed, no_unit, weight_in, handed_all, initiator_learns, reset_line, see_line, target_learns, target_sees, target_ticks, tick_line, told_seen, with_seen, MayIf, delivered_if, expires, initiator_expires, inject_line, injected, injected_to, is_in_flight, lose_line, lost, refused, target_expired, target_left, timed_out, timeout_line, timeout_of, asked, posted, sent, sent_all, sent_to, holder, ticket_at, told, told_all, Scene, WorldState, initiator_at, with_initiator, with_note, with_target}
use Rattle.std.proofs.Common.{if◌then◌else◌}
use Rattle.sbp_journal.specs.declared.cause.Judged.TheVariants as judgements
use Rattle.sbp_journal.specs.declared.note.Note.TheVariants as notes
use Rattle.sbp_journal.specs.declared.side.Side.TheVariants as sides
use Rattle.sbp_target.specs.Nodes as target
use Rattle.sbp_world.specs.Nodes as nodes
use Rattle.sbp_world.specs.Packets as packets
use Rattle.sbp_world.proofs.Wire.Comes.{own_inside, own_outside, received_is, to_own, to_zero}
use Rattle.sbp_world.proofs.InitiatorForms as own
use Rattle.sbp_world.proofs.Formed.{AreOwn, IsNoRun}
use Rattle.sbp_world.proofs.Agents.Seats.{marked_same}
use Rattle.sbp_world.proofs.Agents.UnitsTurns.{second_spares, sight_spares}
use Rattle.sbp_target.proofs.Histories.Calling.{Good}
use Rattle.sbp_world.proofs.Lists.RunTells.{AreRunless, IsRunless, NoneRan, RanBy, TellsRun, all_runless, delivery_tells, is_got, lapse_runless, of_none, of_run}
use Rattle.sbp_world.proofs.Lists.Extends.{marked_fresh}
use Rattle.sbp_world.proofs.Common.{notes_joined}

-- ---- notes: of no run, and of no packet that is judged
abbrev pub IsPlain : Note → Type 0
IsPlain (notes.Ran i n k unit cdb bytes check) = ⊥
IsPlain (notes.Got serial) = ⊥
IsPlain (notes.Ignored serial cause) = ⊥
IsPlain note = Unit {0}

abbrev pub AllPlain : List Note → Type 0
AllPlain [] = Unit {0}
AllPlain (note ∷ later) = IsPlain note × AllPlain later

-- notes stand in front of others, and tell of no run
pub record Plainly (old new : List Note) : Type 0 where
  pub more : List Note
  pub is : more ++ old ≡ new
  pub plain : AllPlain more

both : (a b : List Note) → AllPlain a → AllPlain b → AllPlain (a ++ b)
both [] b x y = y
both (m ∷ a) b x y = (x.0, both a b x.1 y)

pub plain_none : (ns : List Note) → Plainly ns ns
plain_none ns = record { more = []; is = refl; plain = tt }

pub plain_then : (one two three : List Note) → Plainly one two → Plainly two three → Plainly one three
plain_then one two three a b = record { more = b.more ++ a.more; is = notes_joined b.more a.more one ∙ ap (λ ns. b.more ++ ns) a.is ∙ b.is; plain = both b.more a.more b.plain a.plain }

pub plain_one : (note : Note) (ns : List Note) → IsPlain note → Plainly ns (note ∷ ns)
plain_one note ns q = record { more = note ∷ []; is = refl; plain = (q, tt) }

-- ---- packets
asked_plain : (serial to node peer : ℕ) (label : Option LabelParts) (old : List Note) (w : WorldState) → Plainly old w.fresh → Plainly old (asked serial to node peer label w).fresh
asked_plain serial to node peer None old w e = e
asked_plain serial to node peer (Some label) old w e = e

posted_plain : (from to : ℕ) (is_injected : Bool) (bytes : List ℕ) (w : WorldState) → Plainly w.fresh (posted from to is_injected bytes w).fresh
unfolding posted
posted_plain from to false bytes w = record { more = notes.Sent _ _ from to bytes ∷ []; is = refl; plain = (tt, tt) }
posted_plain from to true bytes w = record { more = notes.Sent _ _ from to bytes ∷ notes.Injected _ ∷ []; is = refl; plain = (tt, (tt, tt)) }

to_plain : (to : Option ℕ) (from : ℕ) (packet : Outgoing) (w : WorldState) → Plainly w.fresh (sent_to to from packet w).fresh
to_plain None from packet w = plain_none w.fresh
to_plain (Some to) from packet w = asked_plain (w.store.last + 1) to from packet.to packet.label w.fresh (posted from to false packet.bytes w) (posted_plain from to false packet.bytes w)

all_sent : (from : ℕ) (outgoing : List Outgoing) (w : WorldState) → Plainly w.fresh (sent_all from outgoing w).fresh
unfolding sent_all sent
all_sent from [] w = plain_none w.fresh
all_sent from (packet ∷ later) w =
    let v = sent from packet w in plain_then w.fresh v.fresh (sent_all from later v).fresh (to_plain (node_of w.generations from packet.to) from packet w) (all_sent from later v)

-- ---- what is told
abbrev IsPlainSide : Side → Type 0
IsPlainSide (sides.Own note) = IsPlain note
IsPlainSide (sides.Ran place orb cdb payload outcome) = ⊥
IsPlainSide side = Unit {0}

abbrev ArePlain : List Side → Type 0
ArePlain [] = Unit {0}
ArePlain (side ∷ later) = IsPlainSide side × ArePlain later

one_told : (weight : ℕ) (side : Side) (w : WorldState) → IsPlainSide side → Plainly w.fresh (told weight side w).fresh
unfolding told
one_told weight (sides.Own note) w q = plain_one note w.fresh q
one_told weight (sides.Opened place orb) w q = plain_none w.fresh
one_told weight (sides.Ran place orb cdb payload outcome) w q = absurd q
one_told weight (sides.Ended place orb status) w q = record { more = notes.Ended _ _ _ _ ∷ []; is = refl; plain = (tt, tt) }
one_told weight (sides.Dead place cause) w q = record { more = notes.Dead _ _ _ ∷ []; is = refl; plain = (tt, tt) }
one_told weight (sides.Cut place cause) w q = record { more = notes.Cut _ _ _ ∷ []; is = refl; plain = (tt, tt) }
one_told weight (sides.Managed node function subject status login) w q = record { more = notes.Managed _ _ _ _ _ ∷ []; is = refl; plain = (tt, tt) }
one_told weight (sides.ManageFailed node cause) w q = record { more = notes.ManageFailed _ _ ∷ []; is = refl; plain = (tt, tt) }
one_told weight (sides.Held login) w q = plain_one (notes.Held login) w.fresh tt
one_told weight (sides.Expired login) w q = plain_one (notes.Expired login) w.fresh tt
one_told weight (sides.Back login) w q = plain_one (notes.Back login) w.fresh tt
one_told weight (sides.Left login) w q = plain_one (notes.Left login) w.fresh tt
one_told weight (sides.Cleared unit) w q = plain_one (notes.Cleared unit) w.fresh tt
one_told weight (sides.Unsolicited place) w q = record { more = notes.Unsolicited _ ∷ []; is = refl; plain = (tt, tt) }
one_told weight (sides.Unsent place) w q = record { more = notes.Unsent _ ∷ []; is = refl; plain = (tt, tt) }

all_told : (weight : ℕ) (side : List Side) (w : WorldState) → ArePlain side → Plainly w.fresh (told_all weight side w).fresh
unfolding told_all
all_told weight [] w q = plain_none w.fresh
all_told weight (side ∷ later) w q =
    let v = told weight side w in plain_then w.fresh v.fresh (told_all weight later v).fresh (one_told weight side w q.0) (all_told weight later v q.1)

handed_plain : (node weight : ℕ) (outbox : OutboxState) (w : WorldState) → ArePlain outbox.sides → Plainly w.fresh (handed_out node weight outbox w).fresh
handed_plain node weight outbox w q =
    let v = told_all weight outbox.sides w in plain_then w.fresh v.fresh (handed_out node weight outbox w).fresh (all_told weight outbox.sides w q) (all_sent node outbox.packets v)

-- the target, which tells of no run, and the initiators
other_plain : (side : Side) → IsRunless side → IsPlainSide side
other_plain (sides.Own note) o = absurd o
other_plain (sides.Ran place orb cdb payload outcome) o = absurd o
other_plain side o = tt

pub others_plain : (side : List Side) → AreRunless side → ArePlain side
others_plain [] o = tt
others_plain (one ∷ later) o = (other_plain one o.0, others_plain later o.1)

note_plain : (note : Note) → IsNoRun note → IsPlain note
note_plain (notes.Ran i n k unit cdb bytes check) h = absurd h
note_plain (notes.Got serial) h = absurd h
note_plain (notes.Ignored serial cause) h = absurd h
note_plain note h = tt

own_plain : (side : List Side) → AreOwn side → ArePlain side
own_plain [] h = tt
own_plain (sides.Own note ∷ later) h = (note_plain note h.0.1, own_plain later h.1)
own_plain (sides.Opened a b ∷ later) h = absurd h.0
own_plain (sides.Ran a b c d e ∷ later) h = absurd h.0
own_plain (sides.Ended a b c ∷ later) h = absurd h.0
own_plain (sides.Dead a b ∷ later) h = absurd h.0
own_plain (sides.Cut a b ∷ later) h = absurd h.0
own_plain (sides.Managed a b c d e ∷ later) h = absurd h.0
own_plain (sides.ManageFailed a b ∷ later) h = absurd h.0
own_plain (sides.Held a ∷ later) h = absurd h.0
own_plain (sides.Expired a ∷ later) h = absurd h.0
own_plain (sides.Back a ∷ later) h = absurd h.0
own_plain (sides.Left a ∷ later) h = absurd h.0
own_plain (sides.Cleared a ∷ later) h = absurd h.0
own_plain (sides.Unsolicited a ∷ later) h = absurd h.0
own_plain (sides.Unsent a ∷ later) h = absurd h.0

-- ---- a packet is delivered
-- Nothing is told; or a packet is judged, and runs no command; or the target got the packet and told of a run. Then notes of no run stand in front.
pub data Delivers (None_ran : ℕ → Judged → Type 0) (Ran : ℕ → Note → Type 0) (old new : List Note) : Type 0 where
  none_judged : new ≡ old → Delivers None_ran Ran old new
  no_run : (serial : ℕ) (judged : Judged) → None_ran serial judged → Plainly (judged_note serial judged ∷ old) new → Delivers None_ran Ran old new
  one_run : (serial : ℕ) (ran : Note) → Ran serial ran → Plainly (ran ∷ notes.Got serial ∷ old) new → Delivers None_ran Ran old new

-- The packet runs no command.
pub record IsRunlessBy (s : Scene) (run : Option Told) (serial : ℕ) (judged : Judged) : Type 0 where
  pub sent : Sent
  pub found : found_sent serial s.world.store.kept ≡ Some sent
  pub none : sent.to ≡ 0 → NoneRan s.world.target sent run s.media
  pub judged_is : sent.to ≡ 0 → judged ≡ (received run sent.generation sent.bytes (whole_of s.world.target s.media)).0

-- The note is of a run of the agent of a place, as its unit may run the command.
pub record IsRunBy (s : Scene) (run : Option Told) (serial : ℕ) (ran : Note) : Type 0 where
  pub sent : Sent
  pub found : found_sent serial s.world.store.kept ≡ Some sent
  pub to : sent.to ≡ 0
  pub place : ℕ
  pub orb : ℕ
  pub cdb : List ℕ
  pub payload : List ℕ
  pub outcome : Outcome
  pub by : RanBy s.world.target sent run s.media place orb cdb payload outcome
  pub list : Option ℕ
  pub number : Option ℕ
  pub list_is : list ≡ list_in (ticket_at s.world place orb)
  pub number_is : number ≡ orb_in (ticket_at s.world place orb)
  pub is : ran ≡ notes.Ran (holder s.world place).initiator list number (holder s.world place).unit cdb payload (check_of outcome)

module _ (s : Scene) (good : Good s.world.target) (serial : ℕ) (again : Bool) (run : Option Told) where
  abbrev w : WorldState
  w = s.world

  abbrev after_it : WorldState
  after_it = (delivered serial again run s).world

  -- of this packet
  abbrev pub None_here : ℕ → Judged → Type 0
  None_here at judged = (at ≡ serial) × IsRunlessBy s run at judged

  abbrev pub Ran_here : ℕ → Note → Type 0
  Ran_here at ran = (at ≡ serial) × IsRunBy s run at ran

  abbrev C : Type 0
  C = Delivers None_here Ran_here w.fresh after_it.fresh

  module _ (one : Sent) (found : found_sent serial w.store.kept ≡ Some one) where
    abbrev Ran : (place orb : ℕ) → (cdb payload : List ℕ) → Outcome → Type 0
    Ran place orb cdb payload outcome = RanBy w.target one run s.media place orb cdb payload outcome

    abbrev None_ran : Type 0
    None_ran = NoneRan w.target one run s.media

    -- what this packet makes the target tell
    pub data ToldHere (new : List Note) : Type 0 where
      told_none : None_ran → ToldHere new
      told_run : (ran : Note) (r : IsRunBy s run serial ran) → r.sent ≡ one → Plainly (ran ∷ notes.Got serial ∷ w.fresh) new → ToldHere new

    -- what is told behind the note of the packet
    module _ (zero_to : one.to ≡ 0) (outbox : OutboxState) (node : NodeState) where
      abbrev noted : Judged → WorldState
      noted judged = with_note (judged_note serial judged) (marked serial again (with_target node w))

      abbrev handed : Judged → WorldState
      handed judged = handed_out 0 0 outbox (noted judged)

      none_told : (judged : Judged) → AreRunless outbox.sides → Plainly (judged_note serial judged ∷ w.fresh) (handed judged).fresh
      none_told judged h =
          let u = noted judged in
          subst (λ ns. Plainly (judged_note serial judged ∷ ns) (handed judged).fresh) (marked_fresh serial again (with_target node w)) (handed_plain 0 0 outbox u (others_plain outbox.sides h))

      module _ (place orb : ℕ) (cdb payload : List ℕ) (outcome : Outcome) (more : List Side) (ran : Ran place orb cdb payload outcome) (h : AreRunless more) (is : outbox.sides ≡ sides.Ran place orb cdb payload outcome ∷ more) where
        abbrev u : WorldState
        u = noted judgements.Got

        abbrev note : Note
        note = ran_note (holder u place) (ticket_at u place orb) cdb payload outcome

        behind_run : Plainly (note ∷ u.fresh) (handed judgements.Got).fresh
        unfolding told_all told
        behind_run =
            let first = with_note note u in
            let later = told_all 0 more first in
            let same : told_all 0 outbox.sides u ≡ later = ap (λ xs. told_all 0 xs u) is in
            subst (λ (x : WorldState). Plainly first.fresh (sent_all 0 outbox.packets x).fresh) (sym same)
            (plain_then first.fresh later.fresh (sent_all 0 outbox.packets later).fresh (all_told 0 more first (others_plain more h)) (all_sent 0 outbox.packets later))

        holder_is : holder u place ≡ holder w place
        holder_is = ap (λ ps. holder_at ps place) (marked_same serial again (with_target node w))

        ticket_is : ticket_at u place orb ≡ ticket_at w place orb
        ticket_is = by (again || not (is_flying serial (with_target node w).store.kept))
          where
            by : (b : Bool) → ticket_at (with_note (notes.Got serial) (if b then with_target node w else record (with_target node w) { store = deliver_step (with_target node w).store serial })) place orb ≡ ticket_at w place orb
            by true = refl
            by false = refl

        is_run : IsRunBy s run serial note
        is_run = record {
          sent = one;
          found = found;
          to = zero_to;
          place = place;
          orb = orb;
          cdb = cdb;
          payload = payload;
          outcome = outcome;
          by = ran;
          list = list_in (ticket_at u place orb);
          number = orb_in (ticket_at u place orb);
          list_is = ap list_in ticket_is;
          number_is = ap orb_in ticket_is;
          is = ap (λ (x : Holder). ran_note x (ticket_at u place orb) cdb payload outcome) holder_is;
        }

        is_behind : Plainly (note ∷ notes.Got serial ∷ w.fresh) (handed judgements.Got).fresh
        is_behind = subst (λ ns. Plainly (note ∷ notes.Got serial ∷ ns) (handed judgements.Got).fresh) (marked_fresh serial again (with_target node w)) behind_run

        run_told : (judged : Judged) → judged ≡ judgements.Got → Delivers None_here Ran_here w.fresh (handed judged).fresh
        run_told judgements.Got e = one_run serial note (refl, is_run) is_behind
        run_told (judgements.Ignored cause) e = absurd (let no : judgements.Ignored cause ≡ judgements.Got = e in cc)

        run_here : (judged : Judged) → judged ≡ judgements.Got → ToldHere (handed judged).fresh
        unfolding is_run
        run_here judgements.Got e = told_run note is_run refl is_behind
        run_here (judgements.Ignored cause) e = absurd (let no : judgements.Ignored cause ≡ judgements.Got = e in cc)

      handed_delivers : (judged : Judged) → judged ≡ (received run one.generation one.bytes (whole_of w.target s.media)).0 → ((place orb : ℕ) (cdb payload : List ℕ) (outcome : Outcome) → Ran place orb cdb payload outcome → judged ≡ judgements.Got) → TellsRun None_ran Ran outbox.sides → Delivers None_here Ran_here w.fresh (handed judged).fresh
      handed_delivers judged is_so got (of_none n h) = no_run serial judged (refl, record { sent = one; found = found; none = λ zero_is. n; judged_is = λ zero_is. is_so }) (none_told judged h)
      handed_delivers judged is_so got (of_run place orb cdb payload outcome more ran h is) = run_told place orb cdb payload outcome more ran h is judged (got place orb cdb payload outcome ran)

    here_by : (zero_to : one.to ≡ 0) (outbox : OutboxState) (node : NodeState) (judged : Judged) → judged ≡ (received run one.generation one.bytes (whole_of w.target s.media)).0 → TellsRun None_ran Ran outbox.sides → ToldHere (handed zero_to outbox node judged).fresh
    here_by zero_to outbox node judged is_so (of_none n h) = told_none n
    here_by zero_to outbox node judged is_so (of_run place orb cdb payload outcome more ran h is) =
        run_here zero_to outbox node place orb cdb payload outcome more ran h is judged (is_so ∙ is_got w.target one run s.media place orb cdb payload outcome ran)

    pub target_told : one.to ≡ 0 → MayTell run one w.target s.media → ToldHere after_it.fresh
    unfolding delivered target_received arrived
    target_told zero_to may =
        let x = received run one.generation one.bytes (whole_of w.target s.media) in
        let last_is : after_it ≡ handed_out 0 0 x.1.outbox (with_note (judged_note serial x.0) (marked serial again (with_target x.1.node w))) =
        ap (λ (y : Option Arrival × (OutboxState × Scene)). (delivered_by serial again y).world)
        (received_is run serial s one found ∙ ap (λ b. cond b (at_target one.to (target_received run one w.target s.media) s) (initiator_received one s)) (to_zero one.to zero_to))
        ∙ ap (λ n. handed_out n 0 x.1.outbox (with_note (judged_note serial x.0) (marked serial again (with_target x.1.node w)))) zero_to in
        subst (λ (v : WorldState). ToldHere v.fresh) (sym last_is)
        (here_by zero_to x.1.outbox x.1.node x.0 refl (delivery_tells w.target good.mid.size good.table.sound one run s.media may))

    target_comes : one.to ≡ 0 → MayTell run one w.target s.media → C
    unfolding delivered target_received arrived
    target_comes zero_to may =
        let x = received run one.generation one.bytes (whole_of w.target s.media) in
        let last_is : after_it ≡ handed_out 0 0 x.1.outbox (with_note (judged_note serial x.0) (marked serial again (with_target x.1.node w))) =
        ap (λ (y : Option Arrival × (OutboxState × Scene)). (delivered_by serial again y).world)
        (received_is run serial s one found ∙ ap (λ b. cond b (at_target one.to (target_received run one w.target s.media) s) (initiator_received one s)) (to_zero one.to zero_to))
        ∙ ap (λ n. handed_out n 0 x.1.outbox (with_note (judged_note serial x.0) (marked serial again (with_target x.1.node w)))) zero_to in
        subst (λ (v : WorldState). Delivers None_here Ran_here w.fresh v.fresh) (sym last_is)
        (handed_delivers zero_to x.1.outbox x.1.node x.0 refl (λ place orb cdb payload outcome r. is_got w.target one run s.media place orb cdb payload outcome r) (delivery_tells w.target good.mid.size good.table.sound one run s.media may))

    own_comes : (i : ℕ) → one.to ≡ suc i → i < length w.initiators → C
    unfolding delivered initiators_received arrived
    own_comes i to_is inside =
        let old = slice_index_or w.initiators i (new_state 0 false) in
        let x = receive_step one.generation one.bytes empty_outbox old in
        let v = with_initiators (slice_set w.initiators i x.1.1) w in
        let note = judged_note serial x.0 in
        let u = with_note note (marked serial again v) in
        let last_is : after_it ≡ handed_out one.to 0 x.1.0 u =
        ap (λ (y : Option Arrival × (OutboxState × Scene)). (delivered_by serial again y).world) (to_own run serial i s one found to_is ∙ own_inside one i s inside) in
        no_run serial x.0 (refl, record { sent = one; found = found; none = λ zero_is. absurd (omega (arith, zero_is, to_is)); judged_is = λ zero_is. absurd (omega (arith, zero_is, to_is)) })
        (subst (λ (y : WorldState). Plainly (note ∷ w.fresh) y.fresh) (sym last_is)
        (subst (λ ns. Plainly (note ∷ ns) (handed_out one.to 0 x.1.0 u).fresh) (marked_fresh serial again v) (handed_plain one.to 0 x.1.0 u (own_plain x.1.0.sides (own.receives one.generation one.bytes empty_outbox old tt)))))

    none_comes : (i : ℕ) → one.to ≡ suc i → length w.initiators ≤ i → C
    unfolding delivered
    none_comes i to_is outside =
        let same : after_it.fresh ≡ w.fresh = ap (λ (y : Option Arrival × (OutboxState × Scene)). (delivered_by serial again y).world.fresh) (to_own run serial i s one found to_is ∙ own_outside one i s outside) in
        none_judged same

    comes_at : (to : ℕ) → one.to ≡ to → (one.to ≡ 0 → MayTell run one w.target s.media) → C
    comes_at zero e o = target_comes e (o e)
    comes_at (suc i) e o = by (nat_lt i (length w.initiators)) refl
      where
        by : (b : Bool) → nat_lt i (length w.initiators) ≡ b → C
        by true f = own_comes i e (grind (arith, nat_tests))
        by false f = none_comes i e (grind (arith, nat_tests))

  comes_by : (found : Option Sent) → found_sent serial w.store.kept ≡ found → MayAt run found s → C
  unfolding delivered received_step
  comes_by None e m =
      let same : after_it.fresh ≡ w.fresh = ap (λ o. (delivered_by serial again (received_by run o s)).world.fresh) e in
      none_judged same
  comes_by (Some one) e m = comes_at one e one.to refl (λ z. subst (λ b. MayTold b run one s) (to_zero one.to z) m)

  pub delivery_at : MayReceive run serial s → C
  unfolding MayReceive
  delivery_at m = comes_by (found_sent serial w.store.kept) refl m

  any : (old new : List Note) → Delivers None_here Ran_here old new → Delivers (IsRunlessBy s run) (IsRunBy s run) old new
  any old new (none_judged e) = none_judged e
  any old new (no_run at judged none q) = no_run at judged none.1 q
  any old new (one_run at ran r q) = one_run at ran r.1 q

  pub delivery_comes : MayReceive run serial s → Delivers (IsRunlessBy s run) (IsRunBy s run) w.fresh after_it.fresh
  delivery_comes m = any w.fresh after_it.fresh (delivery_at m)

-- ---- the other lines
module _ (w : WorldState) where
  abbrev Q : WorldState → Type 0
  Q v = Plainly w.fresh v.fresh

  refuses : (line number : ℕ) → Q (refused line number w)
  refuses line number = plain_one (notes.Refused line number) w.fresh tt

  -- an initiator acts
  module _ (line i : ℕ) (action : Action) where
    acts_by : (x : Option ℕ × Turn) → AreOwn x.1.0.sides → Q (acted_by x line i action w)
    acts_by (Some number, (outbox, state)) h = plain_one (notes.Refused line number) w.fresh tt
    acts_by (None, (outbox, state)) h = handed_plain (i + 1) (weight_in action) outbox (with_initiator i state w) (own_plain outbox.sides h)

    pub acts : Q (acted line i action w)
    unfolding acted
    acts = acts_by (act_step action empty_outbox (initiator_at w i)) (own.acts action empty_outbox (initiator_at w i) tt)

  -- the bus is reset, and a generation is seen
  pub resets : (physical : List ℕ) → Q (reset_line physical w)
  unfolding reset_line
  resets physical = record { more = notes.Reset _ ∷ []; is = refl; plain = (tt, tt) }

  target_sight : Q (see_line 0 w)
  unfolding see_line nodes.sees target_sees
  target_sight =
      let g = w.generations.latest in
      let x = target_sees g.generation (id_of g 0) w.target in
      let one = with_seen 0 (told_seen 0 w) in
      plain_then w.fresh one.fresh (handed_out 0 0 x.0 (with_target x.1 one)).fresh (plain_one (notes.Seen 0 g.generation) w.fresh tt)
      (handed_plain 0 0 x.0 (with_target x.1 one) (others_plain x.0.sides (all_runless x.0.sides (sight_spares w.target g.generation (id_of g 0)).told)))

  own_sight : (i : ℕ) → Q (see_line (suc i) w)
  unfolding see_line nodes.sees
  own_sight i =
      let g = w.generations.latest in
      let one = with_seen (suc i) (told_seen (suc i) w) in
      let t = see_step g.generation (id_of g (suc i)) (id_of g 0) empty_outbox (initiator_at w (suc i - 1)) in
      let two = with_initiator (suc i - 1) t.1 one in
      let other : (suc i == 0) ≡ false = grind (arith, nat_tests) in
      subst (λ b. Q (handed_all (suc i) (cond b (target_learns one) (initiator_learns (suc i) one)))) (sym other)
      (plain_then w.fresh one.fresh (handed_out (suc i) 0 t.0 two).fresh (plain_one (notes.Seen (suc i) g.generation) w.fresh tt)
      (handed_plain (suc i) 0 t.0 two (own_plain t.0.sides (own.sees g.generation (id_of g (suc i)) (id_of g 0) empty_outbox (initiator_at w (suc i - 1)) tt))))

  pub sights : (node : ℕ) → Q (see_line node w)
  sights zero = target_sight
  sights (suc i) = own_sight i

  -- a packet is lost, or injected
  pub loses : (line serial : ℕ) → Q (lose_line line serial w)
  unfolding lose_line
  loses line serial = by (is_in_flight serial w)
    where
      by : (b : Bool) → Q (cond b (lost serial w) (refused line no_packet w))
      by true = plain_one (notes.Lost serial) w.fresh tt
      by false = refuses line no_packet

  injects_to : (line from : ℕ) (bytes : List ℕ) (to : Option ℕ) → Q (injected to line from bytes w)
  injects_to line from bytes None = refuses line no_node
  injects_to line from bytes (Some to) = posted_plain from to true bytes w

  pub injects : (line i : ℕ) (bytes : List ℕ) → Q (inject_line line i bytes w)
  unfolding inject_line
  injects line i bytes = injects_to line (i + 1) bytes (injected_to (i + 1) bytes w)

  -- a transaction times out
  module _ (line serial : ℕ) (request : Request) where
    target_lapse : (y : Result (Unit {0}) Stale × target.Scene) → AreRunless y.1.outbox.sides → Q (timed_out line serial request.node (packets.at_target (target_left y w.target) w))
    target_lapse (Ok done, t) o =
        let u = with_note (notes.TimedOut serial) (with_target t.node w) in
        plain_then w.fresh u.fresh (handed_out request.node 0 t.outbox u).fresh (plain_one (notes.TimedOut serial) w.fresh tt) (handed_plain request.node 0 t.outbox u (others_plain t.outbox.sides o))
    target_lapse (Err stale, t) o = refuses line no_packet

    own_lapse : (i : ℕ) (x : Bool × Turn) → AreOwn x.1.0.sides → Q (timed_out line serial request.node (packets.at_initiator i x w))
    own_lapse i (true, (outbox, state)) h =
        let u = with_note (notes.TimedOut serial) (with_initiator i state w) in
        plain_then w.fresh u.fresh (handed_out request.node 0 outbox u).fresh (plain_one (notes.TimedOut serial) w.fresh tt) (handed_plain request.node 0 outbox u (own_plain outbox.sides h))
    own_lapse i (false, (outbox, state)) h = refuses line no_packet

    own_lapses : Q (timed_out line serial request.node (initiator_expires request w))
    own_lapses = by (nat_lt (request.node - 1) (length w.initiators))
      where
        old : InitiatorState
        old = initiator_at w (request.node - 1)

        by : (b : Bool) → Q (timed_out line serial request.node (cond b (packets.at_initiator (request.node - 1) (expire_step request.label empty_outbox old) w) (false, (empty_outbox, w))))
        by true = own_lapse (request.node - 1) (expire_step request.label empty_outbox old) (own.expires request.label empty_outbox old tt)
        by false = refuses line no_packet

    lapses : Q (timed_out line serial request.node (expires request w))
    unfolding expires target_expired
    lapses = by (request.node == 0)
      where
        by : (b : Bool) → Q (timed_out line serial request.node (cond b (packets.at_target (target_expired request w.target) w) (initiator_expires request w)))
        by true = target_lapse (expired request.peer request.label (target.scene w.target empty_outbox)) (lapse_runless request.peer request.label w.target)
        by false = own_lapses

  late_by : (line serial : ℕ) (request : Option Request) → Q (timeout_of request line serial w)
  late_by line serial None = refuses line no_packet
  late_by line serial (Some request) = lapses line serial request

  pub late : (line serial : ℕ) → Q (timeout_line line serial w)
  unfolding timeout_line
  late line serial = late_by line serial (find w.requests serial)

  -- a second passes, and a key is set
  pub ticks : Q (tick_line w)
  unfolding tick_line target_ticks
  ticks =
      let x = target_ticks w.target in
      let u = with_target x.1 (with_note notes.Tick w) in
      plain_then w.fresh u.fresh (handed_out 0 0 x.0 u).fresh (plain_one notes.Tick w.fresh tt) (handed_plain 0 0 x.0 u (others_plain x.0.sides (all_runless x.0.sides (second_spares w.target).told)))

  pub keys : (line unit : ℕ) (key : List ℕ) → Q (keyed line unit key w)
  unfolding keyed
  keys line unit key = by (nat_lt unit (length w.target.units))
    where
      by : (b : Bool) → Q (cond b (with_note (notes.Key unit) (with_target (with_key unit key w.target) w)) (refused line no_unit w))
      by true = plain_one (notes.Key unit) w.fresh tt
      by false = refuses line no_unit

-- ---- a line that delivers one packet at most
module _ (s : Scene) (good : Good s.world.target) (line serial : ℕ) (again : Bool) where
  -- what its run told
  abbrev pub NoneRun : List (Option Told) → ℕ → Judged → Type 0
  NoneRun [] packet judged = ⊥
  NoneRun (one ∷ more) packet judged = IsRunlessBy s one packet judged

  abbrev pub OneRan : List (Option Told) → ℕ → Note → Type 0
  OneRan [] judged ran = ⊥
  OneRan (one ∷ more) judged ran = IsRunBy s one judged ran

  pub one_comes : (b : Bool) (run : List (Option Told)) → MayIf b serial run s → Plainly s.world.fresh (delivered_if b line serial again run s).world.fresh ⊎ Delivers (NoneRun run) (OneRan run) s.world.fresh (delivered_if b line serial again run s).world.fresh
  one_comes true [] m = absurd m
  one_comes true (one ∷ []) m = inr (delivery_comes s good serial again one m)
  one_comes true (one ∷ other ∷ more) m = absurd m
  one_comes false run m = inl (plain_one (notes.Refused line no_packet) s.world.fresh tt)
