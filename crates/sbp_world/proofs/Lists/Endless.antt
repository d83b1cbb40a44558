-- What a node hands out in a turn, where it tells of no end of an ORB but with the status failed: notes of none stand in front of a history. So it is of each line with no packet;
-- and of a packet that is delivered, but for one end that the target may tell of, behind the note of the packet, and the run and the death of that agent.
use Rattle.sbp_world.proofs.Words.Std.{◌≡◌, ◌∙◌, refl, sym, ap, subst, ℕ, zero, suc, ◌+◌, ◌-◌, ◌==◌, ◌<◌, ◌≤◌, ◌||◌, not, nat_lt, Bool, true, false, cond, List, [], ◌∷◌, ◌++◌, length, Option, Some, None, Result, Ok, Err, arith, nat_tests, slice_index_or, slice_set}
use Rattle.sbp_world.proofs.Words.Wire.{LabelParts, Stale, Sent, found_sent, is_flying, deliver_step, Request, id_of, node_of, judged_note, no_node, no_packet, holder_at, dead_note, ended_note, ran_note, Holder, Judged, find, OutboxState, empty_outbox, Action, Note, Outgoing, Side}
use Rattle.sbp_world.proofs.Words.Target.{Sense, Told, Outcome, NodeState, expired, received, seen, ticked, with_key}
use Rattle.sbp_world.proofs.Words.Initiator.{FailCause, StatusKind, last_at, act_step, Turn, new_state, InitiatorState, expire_step, receive_step, see_step}
use Rattle.sbp_world.proofs.Words.World.{Arrival, MayAt, MayReceive, MayTell, MayTold, arrived, at_target, delivered, delivered_by, initiator_received, initiators_received, marked, received_by, received_step, target_received, whole_of, with_initiators, handed_out, acted, acted_by, keyed, no_unit, weight_in, handed_all, initiator_learns, reset_line, see_line, target_learns, target_sees, target_ticks, tick_line, told_seen, with_seen, MayIf, delivered_if, expires, initiator_expires, inject_line, injected, injected_to, is_in_flight, lose_line, lost, refused, target_expired, target_left, timed_out, timeout_line, timeout_of, asked, posted, sent, sent_all, sent_to, holder, ticket_at, told, told_all, Scene, WorldState, initiator_at, with_initiator, with_note, with_target}
use Rattle.sbp_journal.specs.declared.cause.Judged.TheVariants as judgements
use Rattle.sbp_journal.specs.declared.note.Note.TheVariants as notes
use Rattle.sbp_journal.specs.declared.side.Side.TheVariants as sides
use Rattle.sbp_target.specs.Nodes as target
use Rattle.sbp_world.specs.Nodes as nodes
use Rattle.sbp_world.specs.Packets as packets
use Rattle.sbp_world.proofs.Wire.Comes.{own_inside, own_outside, received_is, to_own, to_zero}
use Rattle.sbp_world.proofs.InitiatorForms as own
use Rattle.sbp_world.proofs.Formed.{AreOwn, IsNoRun}
use Rattle.sbp_world.proofs.Agents.Seats.{marked_same}
use Rattle.sbp_world.proofs.Agents.UnitsTurns.{second_spares, sight_spares}
use Rattle.sbp_target.proofs.Histories.Calling.{Good}
use Rattle.sbp_world.proofs.Lists.EndTells.{AreLight, AreMild, EndedBy, IsMild, TellsEnd, delivery_ends, ended_got, lapse_mild, none_mild, of_end, of_mild}
use Rattle.sbp_world.proofs.Lists.OrbSteps.{ends_read}
use Rattle.sbp_world.proofs.Lists.RunTells.{AreRunless, IsRunless, TellsRun, all_runless, delivery_tells, lapse_runless, of_none, of_run}
use Rattle.sbp_world.proofs.Lists.StatusRests.{Resting}
use Rattle.sbp_world.proofs.Lists.StatusRests as target_rests
use Rattle.sbp_world.proofs.Lists.Extends.{marked_fresh}
use Rattle.sbp_world.proofs.Common.{notes_joined}

-- ---- notes
abbrev pub IsPlain : Note → Type 0
IsPlain (notes.Ended i n k status) = ends_read (Some status) ≡ false
IsPlain note = Unit {0}

abbrev pub AllPlain : List Note → Type 0
AllPlain [] = Unit {0}
AllPlain (note ∷ later) = IsPlain note × AllPlain later

-- notes stand in front of others, and tell of no end but with the status failed
pub record Plainly (old new : List Note) : Type 0 where
  pub more : List Note
  pub is : more ++ old ≡ new
  pub plain : AllPlain more

both : (a b : List Note) → AllPlain a → AllPlain b → AllPlain (a ++ b)
both [] b x y = y
both (m ∷ a) b x y = (x.0, both a b x.1 y)

pub plain_none : (ns : List Note) → Plainly ns ns
plain_none ns = record { more = []; is = refl; plain = tt }

pub plain_then : (one two three : List Note) → Plainly one two → Plainly two three → Plainly one three
plain_then one two three a b = record { more = b.more ++ a.more; is = notes_joined b.more a.more one ∙ ap (λ ns. b.more ++ ns) a.is ∙ b.is; plain = both b.more a.more b.plain a.plain }

plain_one : (note : Note) (ns : List Note) → IsPlain note → Plainly ns (note ∷ ns)
plain_one note ns q = record { more = note ∷ []; is = refl; plain = (q, tt) }

-- ---- packets
asked_plain : (serial to node peer : ℕ) (label : Option LabelParts) (old : List Note) (w : WorldState) → Plainly old w.fresh → Plainly old (asked serial to node peer label w).fresh
asked_plain serial to node peer None old w e = e
asked_plain serial to node peer (Some label) old w e = e

posted_plain : (from to : ℕ) (is_injected : Bool) (bytes : List ℕ) (w : WorldState) → Plainly w.fresh (posted from to is_injected bytes w).fresh
unfolding posted
posted_plain from to false bytes w = record { more = notes.Sent _ _ from to bytes ∷ []; is = refl; plain = (tt, tt) }
posted_plain from to true bytes w = record { more = notes.Sent _ _ from to bytes ∷ notes.Injected _ ∷ []; is = refl; plain = (tt, (tt, tt)) }

to_plain : (to : Option ℕ) (from : ℕ) (packet : Outgoing) (w : WorldState) → Plainly w.fresh (sent_to to from packet w).fresh
to_plain None from packet w = plain_none w.fresh
to_plain (Some to) from packet w = asked_plain (w.store.last + 1) to from packet.to packet.label w.fresh (posted from to false packet.bytes w) (posted_plain from to false packet.bytes w)

all_sent : (from : ℕ) (outgoing : List Outgoing) (w : WorldState) → Plainly w.fresh (sent_all from outgoing w).fresh
unfolding sent_all sent
all_sent from [] w = plain_none w.fresh
all_sent from (packet ∷ later) w =
    let v = sent from packet w in plain_then w.fresh v.fresh (sent_all from later v).fresh (to_plain (node_of w.generations from packet.to) from packet w) (all_sent from later v)

-- ---- what is told
abbrev IsPlainSide : Side → Type 0
IsPlainSide (sides.Own note) = IsPlain note
IsPlainSide (sides.Ended place orb status) = ends_read (Some status) ≡ false
IsPlainSide side = Unit {0}

abbrev ArePlain : List Side → Type 0
ArePlain [] = Unit {0}
ArePlain (side ∷ later) = IsPlainSide side × ArePlain later

one_told : (weight : ℕ) (side : Side) (w : WorldState) → IsPlainSide side → Plainly w.fresh (told weight side w).fresh
unfolding told
one_told weight (sides.Own note) w q = plain_one note w.fresh q
one_told weight (sides.Opened place orb) w q = plain_none w.fresh
one_told weight (sides.Ran place orb cdb payload outcome) w q = record { more = notes.Ran _ _ _ _ _ _ _ ∷ []; is = refl; plain = (tt, tt) }
one_told weight (sides.Ended place orb status) w q = plain_one (ended_note (holder w place) (ticket_at w place orb) status) w.fresh q
one_told weight (sides.Dead place cause) w q = record { more = notes.Dead _ _ _ ∷ []; is = refl; plain = (tt, tt) }
one_told weight (sides.Cut place cause) w q = record { more = notes.Cut _ _ _ ∷ []; is = refl; plain = (tt, tt) }
one_told weight (sides.Managed node function subject status login) w q = record { more = notes.Managed _ _ _ _ _ ∷ []; is = refl; plain = (tt, tt) }
one_told weight (sides.ManageFailed node cause) w q = record { more = notes.ManageFailed _ _ ∷ []; is = refl; plain = (tt, tt) }
one_told weight (sides.Held login) w q = plain_one (notes.Held login) w.fresh tt
one_told weight (sides.Expired login) w q = plain_one (notes.Expired login) w.fresh tt
one_told weight (sides.Back login) w q = plain_one (notes.Back login) w.fresh tt
one_told weight (sides.Left login) w q = plain_one (notes.Left login) w.fresh tt
one_told weight (sides.Cleared unit) w q = plain_one (notes.Cleared unit) w.fresh tt
one_told weight (sides.Unsolicited place) w q = record { more = notes.Unsolicited _ ∷ []; is = refl; plain = (tt, tt) }
one_told weight (sides.Unsent place) w q = record { more = notes.Unsent _ ∷ []; is = refl; plain = (tt, tt) }

all_told : (weight : ℕ) (side : List Side) (w : WorldState) → ArePlain side → Plainly w.fresh (told_all weight side w).fresh
unfolding told_all
all_told weight [] w q = plain_none w.fresh
all_told weight (side ∷ later) w q =
    let v = told weight side w in plain_then w.fresh v.fresh (told_all weight later v).fresh (one_told weight side w q.0) (all_told weight later v q.1)

handed_plain : (node weight : ℕ) (outbox : OutboxState) (w : WorldState) → ArePlain outbox.sides → Plainly w.fresh (handed_out node weight outbox w).fresh
handed_plain node weight outbox w q =
    let v = told_all weight outbox.sides w in plain_then w.fresh v.fresh (handed_out node weight outbox w).fresh (all_told weight outbox.sides w q) (all_sent node outbox.packets v)

-- the target, and the initiators
abbrev IsTheirs : Side → Type 0
IsTheirs (sides.Own note) = ⊥
IsTheirs side = Unit {0}

abbrev AreTheirs : List Side → Type 0
AreTheirs [] = Unit {0}
AreTheirs (side ∷ later) = IsTheirs side × AreTheirs later

runless_one : (side : Side) → IsRunless side → IsTheirs side
runless_one (sides.Own note) h = absurd h
runless_one side h = tt

runless_theirs : (told : List Side) → AreRunless told → AreTheirs told
runless_theirs [] h = tt
runless_theirs (side ∷ later) h = (runless_one side h.0, runless_theirs later h.1)

run_theirs : (None_ran : Type 0) (Ran : (place orb : ℕ) → (cdb payload : List ℕ) → Outcome → Type 0) (told : List Side) → TellsRun None_ran Ran told → AreTheirs told
run_theirs None_ran Ran told (of_none n h) = runless_theirs told h
run_theirs None_ran Ran told (of_run place orb cdb payload outcome more ran h is) = subst AreTheirs (sym is) (tt, runless_theirs more h)

other_plain : (side : Side) → IsTheirs side → IsMild side → IsPlainSide side
other_plain (sides.Own note) o m = absurd o
other_plain (sides.Ended place orb status) o m = m
other_plain side o m = tt

others_plain : (side : List Side) → AreTheirs side → AreMild side → ArePlain side
others_plain [] o m = tt
others_plain (one ∷ later) o m = (other_plain one o.0 m.0, others_plain later o.1 m.1)

theirs_behind : (early later : List Side) (one : Side) → AreTheirs (early ++ one ∷ later) → AreTheirs later
theirs_behind [] later one h = h.1
theirs_behind (side ∷ early) later one h = theirs_behind early later one h.1

note_plain : (note : Note) → IsNoRun note → IsPlain note
note_plain (notes.Ended i n k status) h = absurd h
note_plain note h = tt

own_plain : (side : List Side) → AreOwn side → ArePlain side
own_plain [] h = tt
own_plain (sides.Own note ∷ later) h = (note_plain note h.0.1, own_plain later h.1)
own_plain (sides.Opened a b ∷ later) h = absurd h.0
own_plain (sides.Ran a b c d e ∷ later) h = absurd h.0
own_plain (sides.Ended a b c ∷ later) h = absurd h.0
own_plain (sides.Dead a b ∷ later) h = absurd h.0
own_plain (sides.Cut a b ∷ later) h = absurd h.0
own_plain (sides.Managed a b c d e ∷ later) h = absurd h.0
own_plain (sides.ManageFailed a b ∷ later) h = absurd h.0
own_plain (sides.Held a ∷ later) h = absurd h.0
own_plain (sides.Expired a ∷ later) h = absurd h.0
own_plain (sides.Back a ∷ later) h = absurd h.0
own_plain (sides.Left a ∷ later) h = absurd h.0
own_plain (sides.Cleared a ∷ later) h = absurd h.0
own_plain (sides.Unsolicited a ∷ later) h = absurd h.0
own_plain (sides.Unsent a ∷ later) h = absurd h.0

-- ---- a packet is delivered
-- notes of no end but as failed stand in front of others; or the target got the packet, told of one end behind a run and a death alone, and then of none
pub data Delivers (End : ℕ → List Note → Note → Type 0) (old new : List Note) : Type 0 where
  no_end : Plainly old new → Delivers End old new
  one_end : (serial : ℕ) (early : List Note) (ended : Note) → End serial early ended → Plainly (ended ∷ (early ++ notes.Got serial ∷ old)) new → Delivers End old new

-- the notes of a run and a death
pub data IsLightNote : Note → Type 0 where
  light_run : (i : ℕ) (n k : Option ℕ) (unit : ℕ) (cdb bytes : List ℕ) (check : Option Sense) → IsLightNote (notes.Ran i n k unit cdb bytes check)
  light_death : (i : ℕ) (n : Option ℕ) (cause : FailCause) → IsLightNote (notes.Dead i n cause)

pub light_plain : (note : Note) → IsLightNote note → IsPlain note
light_plain _ (light_run i n k unit cdb bytes check) = tt
light_plain _ (light_death i n cause) = tt

abbrev pub AllLight : List Note → Type 0
AllLight [] = Unit {0}
AllLight (note ∷ later) = IsLightNote note × AllLight later

plain_judged : (serial : ℕ) (judged : Judged) → IsPlain (judged_note serial judged)
plain_judged serial judgements.Got = tt
plain_judged serial (judgements.Ignored cause) = tt

-- The note is of an end of the present ORB of the agent of a place.
pub record IsEndBy (s : Scene) (run : Option Told) (serial : ℕ) (early : List Note) (ended : Note) : Type 0 where
  pub sent : Sent
  pub found : found_sent serial s.world.store.kept ≡ Some sent
  pub to : sent.to ≡ 0
  pub place : ℕ
  pub orb : ℕ
  pub status : StatusKind
  pub by : EndedBy s.world.target sent run s.media place orb status
  pub may : MayTell run sent s.world.target s.media
  pub light : AllLight early
  pub is : ended ≡ ended_note (holder s.world place) (ticket_at s.world place orb) status

-- light sides are told as light notes
record Lightly (v told : WorldState) : Type 0 where
  notes_are : List Note
  light : AllLight notes_are
  is : told ≡ record v { fresh = notes_are ++ v.fresh }

light_both : (a b : List Note) → AllLight a → AllLight b → AllLight (a ++ b)
light_both [] b x y = y
light_both (m ∷ a) b x y = (x.0, light_both a b x.1 y)

light_one : (note : Note) (v later : WorldState) → IsLightNote note → Lightly (with_note note v) later → Lightly v later
light_one note v later f l = record {
  notes_are = l.notes_are ++ note ∷ [];
  light = light_both l.notes_are (note ∷ []) l.light (f, tt);
  is = l.is ∙ ap (λ ns. record v { fresh = ns }) (sym (notes_joined l.notes_are (note ∷ []) v.fresh));
}

lights : (early : List Side) (v : WorldState) → AreLight early → Lightly v (told_all 0 early v)
unfolding told_all told
lights [] v h = record { notes_are = []; light = tt; is = refl }
lights (sides.Ran place orb cdb payload outcome ∷ early) v h = let note = ran_note (holder v place) (ticket_at v place orb) cdb payload outcome in light_one note v _ (light_run _ _ _ _ _ _ _) (lights early (with_note note v) h.1)
lights (sides.Dead place cause ∷ early) v h = let note = dead_note (holder v place) cause in light_one note v _ (light_death _ _ _) (lights early (with_note note v) h.1)
lights (sides.Own a ∷ early) v h = absurd h.0
lights (sides.Opened a b ∷ early) v h = absurd h.0
lights (sides.Ended a b c ∷ early) v h = absurd h.0
lights (sides.Cut a b ∷ early) v h = absurd h.0
lights (sides.Managed a b c d e ∷ early) v h = absurd h.0
lights (sides.ManageFailed a b ∷ early) v h = absurd h.0
lights (sides.Held a ∷ early) v h = absurd h.0
lights (sides.Expired a ∷ early) v h = absurd h.0
lights (sides.Back a ∷ early) v h = absurd h.0
lights (sides.Left a ∷ early) v h = absurd h.0
lights (sides.Cleared a ∷ early) v h = absurd h.0
lights (sides.Unsolicited a ∷ early) v h = absurd h.0
lights (sides.Unsent a ∷ early) v h = absurd h.0

pub told_both : (a b : List Side) (v : WorldState) → told_all 0 (a ++ b) v ≡ told_all 0 b (told_all 0 a v)
unfolding told_all
told_both [] b v = refl
told_both (side ∷ a) b v = told_both a b (told 0 side v)

-- who has a place, and which ORB stands at an address, as a packet is marked
marked_initiators : (serial : ℕ) (again : Bool) (w : WorldState) → (marked serial again w).initiators ≡ w.initiators
marked_initiators serial again w = by (again || not (is_flying serial w.store.kept))
  where
    by : (b : Bool) → (cond b w (record w { store = deliver_step w.store serial })).initiators ≡ w.initiators
    by true = refl
    by false = refl

abbrev named_in : List (Option Holder) → List InitiatorState → ℕ → ℕ → StatusKind → Note
named_in places initiators place orb status =
    let h = holder_at places place in
    ended_note h (cond (nat_lt h.initiator (length initiators)) (last_at (slice_index_or initiators h.initiator (new_state 0 false)).lists orb) None) status

module _ (s : Scene) (good : Good s.world.target) (serial : ℕ) (again : Bool) (run : Option Told) where
  abbrev w : WorldState
  w = s.world

  abbrev after_it : WorldState
  after_it = (delivered serial again run s).world

  abbrev C : Type 0
  C = Delivers (IsEndBy s run) w.fresh after_it.fresh

  module _ (one : Sent) (found : found_sent serial w.store.kept ≡ Some one) where
    abbrev End : (place orb : ℕ) → StatusKind → Type 0
    End place orb status = EndedBy w.target one run s.media place orb status

    -- what is told behind the note of the packet
    module _ (zero_to : one.to ≡ 0) (may : MayTell run one w.target s.media) (outbox : OutboxState) (node : NodeState) (theirs : AreTheirs outbox.sides) where
      abbrev noted : Judged → WorldState
      noted judged = with_note (judged_note serial judged) (marked serial again (with_target node w))

      abbrev handed : Judged → WorldState
      handed judged = handed_out 0 0 outbox (noted judged)

      none_told : (judged : Judged) → AreMild outbox.sides → Plainly w.fresh (handed judged).fresh
      none_told judged h =
          let u = noted judged in
          plain_then w.fresh u.fresh (handed judged).fresh
          (subst (λ ns. Plainly w.fresh (judged_note serial judged ∷ ns)) (sym (marked_fresh serial again (with_target node w))) (plain_one (judged_note serial judged) w.fresh (plain_judged serial judged)))
          (handed_plain 0 0 outbox u (others_plain outbox.sides theirs h))

      module _ (place orb : ℕ) (status : StatusKind) (early later : List Side) (ended : End place orb status) (light : AreLight early) (h : AreMild later) (is : early ++ sides.Ended place orb status ∷ later ≡ outbox.sides) where
        abbrev u : WorldState
        u = noted judgements.Got

        abbrev note : Note
        note = ended_note (holder u place) (ticket_at u place orb) status

        abbrev first : Lightly u (told_all 0 early u)
        first = lights early u light

        abbrev behind : WorldState
        behind = record u { fresh = note ∷ (first.notes_are ++ u.fresh) }

        told_is : told_all 0 outbox.sides u ≡ told_all 0 later behind
        unfolding told_all told
        told_is =
            ap (λ xs. told_all 0 xs u) (sym is)
            ∙ (told_both early (sides.Ended place orb status ∷ later) u
            ∙ ap (λ (x : WorldState). told_all 0 later (told 0 (sides.Ended place orb status) x)) first.is)

        behind_end : Plainly (note ∷ (first.notes_are ++ u.fresh)) (handed judgements.Got).fresh
        behind_end =
            let after_all = told_all 0 later behind in
            let rest : AreTheirs later = theirs_behind early later (sides.Ended place orb status) (subst AreTheirs (sym is) theirs) in
            subst (λ (x : WorldState). Plainly behind.fresh (sent_all 0 outbox.packets x).fresh) (sym told_is)
            (plain_then behind.fresh after_all.fresh (sent_all 0 outbox.packets after_all).fresh (all_told 0 later behind (others_plain later rest h)) (all_sent 0 outbox.packets after_all))

        note_is : note ≡ ended_note (holder w place) (ticket_at w place orb) status
        note_is =
            ap (λ ps. named_in ps u.initiators place orb status) (marked_same serial again (with_target node w))
            ∙ ap (λ is. named_in w.places is place orb status) (marked_initiators serial again (with_target node w))

        run_told : (judged : Judged) → judged ≡ judgements.Got → Delivers (IsEndBy s run) w.fresh (handed judged).fresh
        run_told judgements.Got e =
            one_end serial first.notes_are note
            (record {
              sent = one;
              found = found;
              to = zero_to;
              place = place;
              orb = orb;
              status = status;
              by = ended;
              may = may;
              light = first.light;
              is = note_is;
            })
            (subst (λ ns. Plainly (note ∷ (first.notes_are ++ notes.Got serial ∷ ns)) (handed judgements.Got).fresh) (marked_fresh serial again (with_target node w)) behind_end)
        run_told (judgements.Ignored cause) e = absurd (let no : judgements.Ignored cause ≡ judgements.Got = e in cc)

      handed_delivers : (judged : Judged) → ((place orb : ℕ) (status : StatusKind) → End place orb status → judged ≡ judgements.Got) → TellsEnd End outbox.sides → Delivers (IsEndBy s run) w.fresh (handed judged).fresh
      handed_delivers judged got (of_mild h) = no_end (none_told judged h)
      handed_delivers judged got (of_end place orb status early later x l h is) = run_told place orb status early later x l h is judged (got place orb status x)

    target_comes : one.to ≡ 0 → MayTell run one w.target s.media → C
    unfolding delivered target_received arrived
    target_comes zero_to may =
        let x = received run one.generation one.bytes (whole_of w.target s.media) in
        let last_is : after_it ≡ handed_out 0 0 x.1.outbox (with_note (judged_note serial x.0) (marked serial again (with_target x.1.node w))) =
        ap (λ (y : Option Arrival × (OutboxState × Scene)). (delivered_by serial again y).world)
        (received_is run serial s one found ∙ ap (λ b. cond b (at_target one.to (target_received run one w.target s.media) s) (initiator_received one s)) (to_zero one.to zero_to))
        ∙ ap (λ n. handed_out n 0 x.1.outbox (with_note (judged_note serial x.0) (marked serial again (with_target x.1.node w)))) zero_to in
        subst (λ (v : WorldState). Delivers (IsEndBy s run) w.fresh v.fresh) (sym last_is)
        (handed_delivers zero_to may x.1.outbox x.1.node (run_theirs _ _ x.1.outbox.sides (delivery_tells w.target good.mid.size good.table.sound one run s.media may)) x.0
        (λ place orb status r. ended_got w.target one run s.media place orb status r) (delivery_ends w.target good.mid.size good.table.sound one run s.media))

    own_comes : (i : ℕ) → one.to ≡ suc i → i < length w.initiators → C
    unfolding delivered initiators_received arrived
    own_comes i to_is inside =
        let old = slice_index_or w.initiators i (new_state 0 false) in
        let x = receive_step one.generation one.bytes empty_outbox old in
        let v = with_initiators (slice_set w.initiators i x.1.1) w in
        let note = judged_note serial x.0 in
        let u = with_note note (marked serial again v) in
        let last_is : after_it ≡ handed_out one.to 0 x.1.0 u =
        ap (λ (y : Option Arrival × (OutboxState × Scene)). (delivered_by serial again y).world) (to_own run serial i s one found to_is ∙ own_inside one i s inside) in
        let first : Plainly w.fresh u.fresh = subst (λ ns. Plainly w.fresh (note ∷ ns)) (sym (marked_fresh serial again v)) (plain_one note w.fresh (plain_judged serial x.0)) in
        no_end (subst (λ (y : WorldState). Plainly w.fresh y.fresh) (sym last_is)
        (plain_then w.fresh u.fresh (handed_out one.to 0 x.1.0 u).fresh first (handed_plain one.to 0 x.1.0 u (own_plain x.1.0.sides (own.receives one.generation one.bytes empty_outbox old tt)))))

    none_comes : (i : ℕ) → one.to ≡ suc i → length w.initiators ≤ i → C
    unfolding delivered
    none_comes i to_is outside =
        let same : after_it.fresh ≡ w.fresh = ap (λ (y : Option Arrival × (OutboxState × Scene)). (delivered_by serial again y).world.fresh) (to_own run serial i s one found to_is ∙ own_outside one i s outside) in
        no_end (subst (Plainly w.fresh) (sym same) (plain_none w.fresh))

    comes_at : (to : ℕ) → one.to ≡ to → (one.to ≡ 0 → MayTell run one w.target s.media) → C
    comes_at zero e o = target_comes e (o e)
    comes_at (suc i) e o = by (nat_lt i (length w.initiators)) refl
      where
        by : (b : Bool) → nat_lt i (length w.initiators) ≡ b → C
        by true f = own_comes i e (grind (arith, nat_tests))
        by false f = none_comes i e (grind (arith, nat_tests))

  comes_by : (found : Option Sent) → found_sent serial w.store.kept ≡ found → MayAt run found s → C
  unfolding delivered received_step
  comes_by None e m =
      let same : after_it.fresh ≡ w.fresh = ap (λ o. (delivered_by serial again (received_by run o s)).world.fresh) e in
      no_end (subst (Plainly w.fresh) (sym same) (plain_none w.fresh))
  comes_by (Some one) e m = comes_at one e one.to refl (λ z. subst (λ b. MayTold b run one s) (to_zero one.to z) m)

  pub delivery_comes : MayReceive run serial s → C
  unfolding MayReceive
  delivery_comes m = comes_by (found_sent serial w.store.kept) refl m

-- ---- the other lines
module _ (w : WorldState) (size : length w.target.desks ≡ 8) where
  abbrev Q : WorldState → Type 0
  Q v = Plainly w.fresh v.fresh

  refuses : (line number : ℕ) → Q (refused line number w)
  refuses line number = plain_one (notes.Refused line number) w.fresh tt

  -- an initiator acts
  module _ (line i : ℕ) (action : Action) where
    acts_by : (x : Option ℕ × Turn) → AreOwn x.1.0.sides → Q (acted_by x line i action w)
    acts_by (Some number, (outbox, state)) h = plain_one (notes.Refused line number) w.fresh tt
    acts_by (None, (outbox, state)) h = handed_plain (i + 1) (weight_in action) outbox (with_initiator i state w) (own_plain outbox.sides h)

    pub acts : Q (acted line i action w)
    unfolding acted
    acts = acts_by (act_step action empty_outbox (initiator_at w i)) (own.acts action empty_outbox (initiator_at w i) tt)

  -- the bus is reset, and a generation is seen
  pub resets : (physical : List ℕ) → Q (reset_line physical w)
  unfolding reset_line
  resets physical = record { more = notes.Reset _ ∷ []; is = refl; plain = (tt, tt) }

  abbrev calm : target.Scene
  calm = target.scene w.target empty_outbox

  abbrev at_rest : Resting (λ p. (target.desk_at w.target p).agent) calm
  at_rest = record { desks = size; told_is = refl; stays = λ p r. r }

  sight_rests : (generation id : ℕ) → Resting (λ p. (target.desk_at w.target p).agent) (seen generation id calm).1
  sight_rests generation id = target_rests.sees (λ p. (target.desk_at w.target p).agent) generation id calm at_rest

  second_rests : Resting (λ p. (target.desk_at w.target p).agent) (ticked calm)
  second_rests = target_rests.ticks (λ p. (target.desk_at w.target p).agent) calm at_rest

  target_sight : Q (see_line 0 w)
  unfolding see_line nodes.sees target_sees
  target_sight =
      let g = w.generations.latest in
      let x = target_sees g.generation (id_of g 0) w.target in
      let one = with_seen 0 (told_seen 0 w) in
      plain_then w.fresh one.fresh (handed_out 0 0 x.0 (with_target x.1 one)).fresh (plain_one (notes.Seen 0 g.generation) w.fresh tt)
      (handed_plain 0 0 x.0 (with_target x.1 one) (others_plain x.0.sides (runless_theirs x.0.sides (all_runless x.0.sides (sight_spares w.target g.generation (id_of g 0)).told)) (none_mild x.0.sides (sight_rests g.generation (id_of g 0)).told_is)))

  own_sight : (i : ℕ) → Q (see_line (suc i) w)
  unfolding see_line nodes.sees
  own_sight i =
      let g = w.generations.latest in
      let one = with_seen (suc i) (told_seen (suc i) w) in
      let t = see_step g.generation (id_of g (suc i)) (id_of g 0) empty_outbox (initiator_at w (suc i - 1)) in
      let two = with_initiator (suc i - 1) t.1 one in
      let other : (suc i == 0) ≡ false = grind (arith, nat_tests) in
      subst (λ b. Q (handed_all (suc i) (cond b (target_learns one) (initiator_learns (suc i) one)))) (sym other)
      (plain_then w.fresh one.fresh (handed_out (suc i) 0 t.0 two).fresh (plain_one (notes.Seen (suc i) g.generation) w.fresh tt)
      (handed_plain (suc i) 0 t.0 two (own_plain t.0.sides (own.sees g.generation (id_of g (suc i)) (id_of g 0) empty_outbox (initiator_at w (suc i - 1)) tt))))

  pub sights : (node : ℕ) → Q (see_line node w)
  sights zero = target_sight
  sights (suc i) = own_sight i

  -- a packet is lost, or injected
  pub loses : (line serial : ℕ) → Q (lose_line line serial w)
  unfolding lose_line
  loses line serial = by (is_in_flight serial w)
    where
      by : (b : Bool) → Q (cond b (lost serial w) (refused line no_packet w))
      by true = plain_one (notes.Lost serial) w.fresh tt
      by false = refuses line no_packet

  injects_to : (line from : ℕ) (bytes : List ℕ) (to : Option ℕ) → Q (injected to line from bytes w)
  injects_to line from bytes None = refuses line no_node
  injects_to line from bytes (Some to) = posted_plain from to true bytes w

  pub injects : (line i : ℕ) (bytes : List ℕ) → Q (inject_line line i bytes w)
  unfolding inject_line
  injects line i bytes = injects_to line (i + 1) bytes (injected_to (i + 1) bytes w)

  -- a transaction times out
  module _ (line serial : ℕ) (request : Request) where
    target_lapse : (y : Result (Unit {0}) Stale × target.Scene) → AreRunless y.1.outbox.sides → AreMild y.1.outbox.sides → Q (timed_out line serial request.node (packets.at_target (target_left y w.target) w))
    target_lapse (Ok done, t) o m =
        let u = with_note (notes.TimedOut serial) (with_target t.node w) in
        plain_then w.fresh u.fresh (handed_out request.node 0 t.outbox u).fresh (plain_one (notes.TimedOut serial) w.fresh tt) (handed_plain request.node 0 t.outbox u (others_plain t.outbox.sides (runless_theirs t.outbox.sides o) m))
    target_lapse (Err stale, t) o m = refuses line no_packet

    own_lapse : (i : ℕ) (x : Bool × Turn) → AreOwn x.1.0.sides → Q (timed_out line serial request.node (packets.at_initiator i x w))
    own_lapse i (true, (outbox, state)) h =
        let u = with_note (notes.TimedOut serial) (with_initiator i state w) in
        plain_then w.fresh u.fresh (handed_out request.node 0 outbox u).fresh (plain_one (notes.TimedOut serial) w.fresh tt) (handed_plain request.node 0 outbox u (own_plain outbox.sides h))
    own_lapse i (false, (outbox, state)) h = refuses line no_packet

    own_lapses : Q (timed_out line serial request.node (initiator_expires request w))
    own_lapses = by (nat_lt (request.node - 1) (length w.initiators))
      where
        old : InitiatorState
        old = initiator_at w (request.node - 1)

        by : (b : Bool) → Q (timed_out line serial request.node (cond b (packets.at_initiator (request.node - 1) (expire_step request.label empty_outbox old) w) (false, (empty_outbox, w))))
        by true = own_lapse (request.node - 1) (expire_step request.label empty_outbox old) (own.expires request.label empty_outbox old tt)
        by false = refuses line no_packet

    lapses : Q (timed_out line serial request.node (expires request w))
    unfolding expires target_expired
    lapses = by (request.node == 0)
      where
        by : (b : Bool) → Q (timed_out line serial request.node (cond b (packets.at_target (target_expired request w.target) w) (initiator_expires request w)))
        by true = target_lapse (expired request.peer request.label (target.scene w.target empty_outbox)) (lapse_runless request.peer request.label w.target) (lapse_mild request.peer request.label w.target size)
        by false = own_lapses

  late_by : (line serial : ℕ) (request : Option Request) → Q (timeout_of request line serial w)
  late_by line serial None = refuses line no_packet
  late_by line serial (Some request) = lapses line serial request

  pub late : (line serial : ℕ) → Q (timeout_line line serial w)
  unfolding timeout_line
  late line serial = late_by line serial (find w.requests serial)

  -- a second passes, and a key is set
  pub ticks : Q (tick_line w)
  unfolding tick_line target_ticks
  ticks =
      let x = target_ticks w.target in
      let u = with_target x.1 (with_note notes.Tick w) in
      plain_then w.fresh u.fresh (handed_out 0 0 x.0 u).fresh (plain_one notes.Tick w.fresh tt) (handed_plain 0 0 x.0 u (others_plain x.0.sides (runless_theirs x.0.sides (all_runless x.0.sides (second_spares w.target).told)) (none_mild x.0.sides second_rests.told_is)))

  pub keys : (line unit : ℕ) (key : List ℕ) → Q (keyed line unit key w)
  unfolding keyed
  keys line unit key = by (nat_lt unit (length w.target.units))
    where
      by : (b : Bool) → Q (cond b (with_note (notes.Key unit) (with_target (with_key unit key w.target) w)) (refused line no_unit w))
      by true = plain_one (notes.Key unit) w.fresh tt
      by false = refuses line no_unit

-- ---- a line that delivers one packet at most
module _ (s : Scene) (good : Good s.world.target) (line serial : ℕ) (again : Bool) where
  -- as its run told
  abbrev pub OneEnd : List (Option Told) → ℕ → List Note → Note → Type 0
  OneEnd [] judged early ended = ⊥
  OneEnd (one ∷ more) judged early ended = IsEndBy s one judged early ended

  pub one_comes : (b : Bool) (run : List (Option Told)) → MayIf b serial run s → Delivers (OneEnd run) s.world.fresh (delivered_if b line serial again run s).world.fresh
  one_comes true [] m = absurd m
  one_comes true (one ∷ []) m = delivery_comes s good serial again one m
  one_comes true (one ∷ other ∷ more) m = absurd m
  one_comes false run m = no_end (plain_one (notes.Refused line no_packet) s.world.fresh tt)
