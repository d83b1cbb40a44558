-- Only deliveries tell that a packet was got.
use Rattle.sbp_world.proofs.Words.Std.{arith, ◌≡◌, refl, sym, ◌∙◌, ap, subst, ℕ, zero, suc, ◌+◌, ◌<◌, ◌≤◌, nat_lt, Bool, true, false, cond, List, [], ◌∷◌, ◌++◌, length, map, Option, Some, None, append_assoc, nat_tests}
use Rattle.sbp_world.proofs.Words.Wire.{as_sending, Sent, found_sent, OutboxState, empty_outbox, Moment, asked, said, terms, Judged, Action, Event, Note, Side, Request, end_note, judged_note, find}
use Rattle.sbp_world.proofs.Words.Target.{Told}
use Rattle.sbp_world.proofs.Words.Initiator.{InitiatorState, act_step, Turn, receive_step, is_step}
use Rattle.sbp_world.proofs.Words.Laws.{AreEffects, begins_delivery, is_effect}
use Rattle.sbp_world.proofs.Words.World.{MayReceive, arrived, delivered, delivered_by, initiators_received, listed, marked, received_by, received_step, handed_out, history_of, moments_behind, MayHappen, acted, acted_by, happens, keyed, weight_in, reset_line, see_line, tick_line, MayIf, delivered_if, expires, inject_line, injected, injected_to, is_in_flight, lose_line, may_repeat, timed_out, timeout_line, timeout_of, Entry, Run, after, beginning, posted, MayAll, MayNext, after_all, delivered_at, delivered_next, is_settled, lowest, told, told_all, Scene, WorldState, begun, initiator_at, with_initiator, with_note, IsDelivering, DeliveriesLaw, IsDelivered, front_of, IsRun}
use Rattle.std.proofs.Common.{slice_set}
use Rattle.sbp_journal.specs.declared.cause.Judged.TheVariants as judgements
use Rattle.sbp_journal.specs.declared.event.Event.TheVariants as events
use Rattle.sbp_journal.specs.declared.note.Note.TheVariants as notes
use Rattle.sbp_journal.specs.declared.side.Side.TheVariants as sides
use Rattle.sbp_world.specs.Delivering.{at_initiator}
use Rattle.sbp_world.specs.Settling as settling
use Rattle.sbp_world.proofs.Wire.Comes.{own_inside, own_outside, to_own}
use Rattle.sbp_world.proofs.Wire.Gains.{Gains, all_sent, hands_out}
use Rattle.sbp_world.proofs.Wire.OwnActs.{AreStepSides, IsStepSide, acts}
use Rattle.sbp_world.proofs.Wire.OwnTells as own
use Rattle.sbp_world.proofs.Wire.Turned.{delivers, lapse_turns, second_turns, sight_turns, stale_refuses}
use Rattle.sbp_world.proofs.Wire.Turns.{Turned, marked_by}
use Rattle.sbp_world.specs.Hosts.Deliveries.{WasGot}
use Rattle.sbp_world.proofs.Hosts.Between.{stands_there}
use Rattle.sbp_world.proofs.Hosts.GotRequests.{request_got}
use Rattle.sbp_world.proofs.Hosts.Knows.{was_sent}
use Rattle.sbp_world.proofs.Hosts.Runs.{count_after, count_between}
use Rattle.sbp_world.proofs.Hosts.Statuses.Ranges.{moments_same, lines_same}
use Rattle.sbp_world.proofs.Common.{said_joined}

-- ---- notes

-- what is so of each note that a packet was got, and of the notes before it
abbrev pub GotsAre : (ℕ → List Note → Type 0) → List Note → Type 0
GotsAre F [] = Unit {0}
GotsAre F (notes.Got serial ∷ ns) = F serial ns × GotsAre F ns
GotsAre F (note ∷ ns) = GotsAre F ns

quiet : (F : ℕ → List Note → Type 0) (note : Note) (ns : List Note) → ((serial : ℕ) → note ≡ notes.Got serial → ⊥) → GotsAre F ns → GotsAre F (note ∷ ns)
quiet F (notes.Got serial) ns n h = absurd (n serial refl)
quiet F note ns n h = h

effect_not : (note : Note) → is_effect note ≡ true → (serial : ℕ) → note ≡ notes.Got serial → ⊥
effect_not note e serial is = differ (subst (λ n. is_effect n ≡ true) is e)
  where
    differ : false ≡ true → ⊥
    differ e = cc

step_not : (note : Note) → is_step note ≡ true → (serial : ℕ) → note ≡ notes.Got serial → ⊥
step_not note e serial is = differ (subst (λ n. is_step n ≡ true) is e)
  where
    differ : false ≡ true → ⊥
    differ e = cc

effects_gots : (F : ℕ → List Note → Type 0) (more old : List Note) → AreEffects more → GotsAre F old → GotsAre F (more ++ old)
effects_gots F [] old e h = h
effects_gots F (note ∷ more) old e h = quiet F note (more ++ old) (effect_not note e.0) (effects_gots F more old e.1 h)

map_gots : (F G : ℕ → List Note → Type 0) (ns : List Note) → ((serial : ℕ) (before : List Note) → F serial before → G serial before) → GotsAre F ns → GotsAre G ns
map_gots F G [] f h = tt
map_gots F G (notes.Got serial ∷ ns) f h = (f serial ns h.0, map_gots F G ns f h.1)
map_gots F G (note ∷ ns) f h = map_gots F G ns f h

gains_gots : (F : ℕ → List Note → Type 0) (old new : List Note) → Gains old new → GotsAre F old → GotsAre F new
gains_gots F old new g h = subst (GotsAre F) (sym g.is) (effects_gots F g.more old g.effects h)

turned_gots : (F : ℕ → List Note → Type 0) (first : Note) (old new : List Note) → Turned first old new → GotsAre F (first ∷ old) → GotsAre F new
turned_gots F first old new t h = subst (GotsAre F) (sym t.is) (effects_gots F t.more (first ∷ old) t.effects h)

-- ---- a delivery

pub some_same : {x y : ℕ} → Some x ≡ Some y → x ≡ y
some_same e = cc

first_gots : (F : ℕ → List Note → Type 0) (first : Note) (serial : ℕ) (old : List Note) → begins_delivery first ≡ Some serial → (first ≡ notes.Got serial → F serial old) → GotsAre F old → GotsAre F (first ∷ old)
first_gots F (notes.Got s) serial old e f h =
    let same : s ≡ serial = some_same e in
    (subst (λ k. F k old) (sym same) (f (ap (λ k. notes.Got k) same)), h)
first_gots F note serial old e f h = h

judged_got : (serial : ℕ) (judged : Judged) → judged_note serial judged ≡ notes.Got serial → judged ≡ judgements.Got
judged_got serial judgements.Got e = refl
judged_got serial (judgements.Ignored cause) e = cc

judged_by : (serial : ℕ) (judged : Judged) → begins_delivery (judged_note serial judged) ≡ Some serial
judged_by serial judgements.Got = refl
judged_by serial (judgements.Ignored cause) = refl

-- what stands there behind one delivery: more notes, and what is so of those that a packet was got
record Comes (F : ℕ → List Note → Type 0) (old new : List Note) : Type 0 where
  gots : GotsAre F old → GotsAre F new
  more : List Note
  is : new ≡ more ++ old

comes_not : (F : ℕ → List Note → Type 0) (old : List Note) → Comes F old old
comes_not F old = record { gots = λ h. h; more = []; is = refl }

comes_turned : (F : ℕ → List Note → Type 0) (first : Note) (serial : ℕ) (old new : List Note) → begins_delivery first ≡ Some serial → (first ≡ notes.Got serial → F serial old) → Turned first old new → Comes F old new
comes_turned F first serial old new e f t = record {
  gots = λ h. turned_gots F first old new t (first_gots F first serial old e f h);
  more = t.more ++ first ∷ [];
  is = t.is ∙ sym (append_assoc t.more (first ∷ []) old);
}

module _ (F : ℕ → List Note → Type 0) (serial : ℕ) (again : Bool) where
  -- at an initiator
  own_turns : (i node : ℕ) (r : Judged × Turn) (s : Scene) → (judged_note serial r.0 ≡ notes.Got serial → F serial s.world.fresh) → own.At r.1 → Comes F s.world.fresh (delivered_by serial again (at_initiator node (listed i r s.world.initiators) s)).world.fresh
  unfolding arrived
  own_turns i node (judged, (outbox, state)) s f quiet =
      let w = record s.world { initiators = slice_set s.world.initiators i state } in
      let note = judged_note serial judged in
      let v = with_note note (marked serial again w) in
      let g : Gains (note ∷ s.world.fresh) (handed_out node 0 outbox v).fresh = subst (λ ns. Gains (note ∷ ns) (handed_out node 0 outbox v).fresh) (marked_by _ w _ refl) (hands_out node 0 outbox v quiet) in
      comes_turned F note serial s.world.fresh (handed_out node 0 outbox v).fresh (judged_by serial judged) f (record { more = g.more; is = g.is; effects = g.effects })

  module _ (one : Option Told) (s : Scene) (sent : Sent) (found : found_sent serial s.world.store.kept ≡ Some sent) (f : WasGot serial s → F serial s.world.fresh) where
    abbrev Goes : Type 0
    Goes = Comes F s.world.fresh (delivered serial again one s).world.fresh

    own_comes : (i : ℕ) → sent.to ≡ suc i → (b : Bool) → nat_lt i (length s.world.initiators) ≡ b → Goes
    unfolding delivered initiators_received
    own_comes i to true e =
        let inside : i < length s.world.initiators = grind (arith, nat_tests) in
        let r = receive_step sent.generation sent.bytes empty_outbox (initiator_at s.world i) in
        let was : judged_note serial r.0 ≡ notes.Got serial → WasGot serial s = λ g. record {
          sent = sent;
          found = found;
          inside = λ j is. let same : j ≡ i = omega arith in omega arith;
          got = λ j is. let same : i ≡ j = omega arith in subst (λ k. (receive_step sent.generation sent.bytes empty_outbox (initiator_at s.world k)).0 ≡ judgements.Got) same (judged_got serial r.0 g);
        } in
        subst (λ x. Comes F s.world.fresh (delivered_by serial again x).world.fresh) (sym (to_own one serial i s sent found to ∙ own_inside sent i s inside))
        (own_turns i sent.to r s (λ g. f (was g)) (own.receives sent.generation sent.bytes empty_outbox (initiator_at s.world i) tt))
    own_comes i to false e =
        let outside : length s.world.initiators ≤ i = grind (arith, nat_tests) in
        subst (λ x. Comes F s.world.fresh (delivered_by serial again x).world.fresh) (sym (to_own one serial i s sent found to ∙ own_outside sent i s outside))
        (comes_not F s.world.fresh)

    target_comes : sent.to ≡ 0 → Goes
    target_comes to =
        let d = delivers serial again one s sent found (omega arith) in
        comes_turned F d.first serial s.world.fresh (delivered serial again one s).world.fresh d.by
        (λ g. f (record { sent = sent; found = found; inside = λ i is. absurd (omega arith); got = λ i is. absurd (omega arith) })) d.turned

    sent_comes : (to : ℕ) → sent.to ≡ to → Goes
    sent_comes zero e = target_comes e
    sent_comes (suc i) e = own_comes i e (nat_lt i (length s.world.initiators)) refl

  none_comes : (one : Option Told) (s : Scene) → found_sent serial s.world.store.kept ≡ None → Comes F s.world.fresh (delivered serial again one s).world.fresh
  unfolding delivered received_step
  none_comes one s e = subst (λ o. Comes F s.world.fresh (delivered_by serial again (received_by one o s)).world.fresh) (sym e) (comes_not F s.world.fresh)

  found_comes : (one : Option Told) (s : Scene) (o : Option Sent) → found_sent serial s.world.store.kept ≡ o → (WasGot serial s → F serial s.world.fresh) → Comes F s.world.fresh (delivered serial again one s).world.fresh
  found_comes one s None e f = none_comes one s e
  found_comes one s (Some sent) e f = sent_comes one s sent e f sent.to refl

comes : (F : ℕ → List Note → Type 0) (serial : ℕ) (again : Bool) (one : Option Told) (s : Scene) → (WasGot serial s → F serial s.world.fresh) → Comes F s.world.fresh (delivered serial again one s).world.fresh
comes F serial again one s f = found_comes F serial again one s (found_sent serial s.world.store.kept) refl f

-- ---- deliveries one after the other

-- In a line from a scene: notes stand before the delivery of a packet, and what stands behind it is the end of all notes.
pub record Here (event : Event) (s : Scene) (all : List Note) (serial : ℕ) (before : List Note) : Type 0 where
  pub told : List (Option Told)
  pub delivers : IsDelivering event told
  pub may : MayAll told s
  pub again : Bool
  pub one : Option Told
  pub may_one : MayReceive one serial (after_all told s)
  pub was_got : WasGot serial (after_all told s)
  pub is : before ≡ (after_all told s).world.fresh
  pub later : List Note
  pub behind : all ≡ later ++ (delivered serial again one (after_all told s)).world.fresh

-- all notes are more
wider : (event : Event) (s : Scene) (old new more : List Note) → new ≡ more ++ old → (serial : ℕ) (before : List Note) → Here event s old serial before → Here event s new serial before
wider event s old new more e serial before h = record {
  told = h.told;
  delivers = h.delivers;
  may = h.may;
  again = h.again;
  one = h.one;
  may_one = h.may_one;
  was_got = h.was_got;
  is = h.is;
  later = more ++ h.later;
  behind = e ∙ ap (λ ns. more ++ ns) h.behind ∙ sym (append_assoc more h.later (delivered serial h.again h.one (after_all h.told s)).world.fresh);
}

module _ (event : Event) (s : Scene) (none : s.world.fresh ≡ []) where
  abbrev pub GotsHere : List Note → Type 0
  GotsHere all = GotsAre (Here event s all) all

  begins_gots : (F : ℕ → List Note → Type 0) → GotsAre F s.world.fresh
  begins_gots F = subst (GotsAre F) (sym none) tt

  next_gots : (told : List (Option Told)) → IsDelivering event told → MayAll told s → (again : Bool) (one : Option Told) (serial : ℕ) → MayReceive one serial (after_all told s) → GotsHere (after_all told s).world.fresh → GotsHere (delivered serial again one (after_all told s)).world.fresh
  next_gots told d m again one serial may h =
      let t = after_all told s in
      let new = (delivered serial again one t).world.fresh in
      let c = comes (Here event s new) serial again one t (λ g. record { told = told; delivers = d; may = m; again = again; one = one; may_one = may; was_got = g; is = refl; later = []; behind = refl }) in
      c.gots (map_gots (Here event s t.world.fresh) (Here event s new) t.world.fresh (λ k before h. wider event s t.world.fresh new c.more c.is k before h) h)

  lowest_gots : (told : List (Option Told)) → IsDelivering event told → MayAll told s → (one : Option Told) (o : Option ℕ) → settling.MayAt o one (after_all told s) → GotsHere (after_all told s).world.fresh → GotsHere (delivered_at o one (after_all told s)).world.fresh
  lowest_gots told d m one None may h = absurd may
  lowest_gots told d m one (Some serial) may h = next_gots told d m false one serial may h

  pub all_gots : ((told : List (Option Told)) → IsDelivering event told) → (told : List (Option Told)) → MayAll told s → GotsHere (after_all told s).world.fresh
  unfolding delivered_next MayNext
  all_gots d [] m = begins_gots (Here event s s.world.fresh)
  all_gots d (one ∷ before) m = lowest_gots before (d before) m.1 one (lowest (after_all before s).world) m.0 (all_gots d before m.1)

  -- one packet, where it may be delivered
  one_gots : (line serial : ℕ) (again b : Bool) (told : List (Option Told)) → IsDelivering event [] → MayIf b serial told s → GotsHere (delivered_if b line serial again told s).world.fresh
  one_gots line serial again true [] d m = absurd m
  one_gots line serial again true (one ∷ []) d m = next_gots [] d tt again one serial m (begins_gots (Here event s s.world.fresh))
  one_gots line serial again true (one ∷ other ∷ more) d m = absurd m
  one_gots line serial again false told d m = begins_gots _

-- ---- the other lines

ends_gots : (F : ℕ → List Note → Type 0) (b : Bool) (ns : List Note) → GotsAre F ns → GotsAre F (end_note b ∷ ns)
ends_gots F true ns h = h
ends_gots F false ns h = h

module _ (F : ℕ → List Note → Type 0) where
  one_step : (weight : ℕ) (side : Side) (w : WorldState) → IsStepSide side → GotsAre F w.fresh → GotsAre F (told weight side w).fresh
  unfolding told
  one_step weight (sides.Own note) w e h = quiet F note w.fresh (step_not note e) h
  one_step weight (sides.Opened place orb) w e h = absurd e
  one_step weight (sides.Ran place orb cdb payload outcome) w e h = absurd e
  one_step weight (sides.Ended place orb status) w e h = absurd e
  one_step weight (sides.Dead place cause) w e h = absurd e
  one_step weight (sides.Cut place cause) w e h = absurd e
  one_step weight (sides.Managed node function subject status login) w e h = absurd e
  one_step weight (sides.ManageFailed node cause) w e h = absurd e
  one_step weight (sides.Held login) w e h = absurd e
  one_step weight (sides.Expired login) w e h = absurd e
  one_step weight (sides.Back login) w e h = absurd e
  one_step weight (sides.Left login) w e h = absurd e
  one_step weight (sides.Cleared unit) w e h = absurd e
  one_step weight (sides.Unsolicited place) w e h = absurd e
  one_step weight (sides.Unsent place) w e h = absurd e

  all_steps : (weight : ℕ) (told_now : List Side) (w : WorldState) → AreStepSides told_now → GotsAre F w.fresh → GotsAre F (told_all weight told_now w).fresh
  unfolding told_all
  all_steps weight [] w e h = h
  all_steps weight (side ∷ later) w e h = all_steps weight later (told weight side w) e.1 (one_step weight side w e.0 h)

  act_by : (r : Option ℕ × (OutboxState × InitiatorState)) (line i : ℕ) (action : Action) (w : WorldState) → AreStepSides r.1.0.sides → GotsAre F w.fresh → GotsAre F (acted_by r line i action w).fresh
  act_by (Some number, (outbox, state)) line i action w e h = h
  act_by (None, (outbox, state)) line i action w e h =
      let v = with_initiator i state w in
      let told_now = told_all (weight_in action) outbox.sides v in
      gains_gots F told_now.fresh (handed_out (i + 1) (weight_in action) outbox v).fresh (all_sent (i + 1) outbox.packets told_now) (all_steps (weight_in action) outbox.sides v e h)

  act_gots : (line i : ℕ) (action : Action) (w : WorldState) → GotsAre F w.fresh → GotsAre F (acted line i action w).fresh
  unfolding acted
  act_gots line i action w h = act_by (act_step action empty_outbox (initiator_at w i)) line i action w (acts action empty_outbox (initiator_at w i) tt) h

  expires_by : (line serial : ℕ) (request : Request) (w : WorldState) (b : Bool) → (expires request w).0 ≡ b → GotsAre F w.fresh → GotsAre F (timed_out line serial request.node (expires request w)).fresh
  expires_by line serial request w true e h =
      turned_gots F (notes.TimedOut serial) w.fresh (timed_out line serial request.node (expires request w)).fresh (lapse_turns line serial request w e) h
  expires_by line serial request w false e h = subst (GotsAre F) (sym (stale_refuses line serial request w e)) h

  found_expires : (request : Option Request) (line serial : ℕ) (w : WorldState) → GotsAre F w.fresh → GotsAre F (timeout_of request line serial w).fresh
  found_expires None line serial w h = h
  found_expires (Some request) line serial w h = expires_by line serial request w (expires request w).0 refl h

  expires_gots : (line serial : ℕ) (w : WorldState) → GotsAre F w.fresh → GotsAre F (timeout_line line serial w).fresh
  unfolding timeout_line
  expires_gots line serial w h = found_expires (find w.requests serial) line serial w h

  pick_gots : (b : Bool) (x y : WorldState) → GotsAre F x.fresh → GotsAre F y.fresh → GotsAre F (cond b x y).fresh
  pick_gots true x y h i = h
  pick_gots false x y h i = i

  injects_gots : (to : Option ℕ) (line from : ℕ) (bytes : List ℕ) (w : WorldState) → GotsAre F w.fresh → GotsAre F (injected to line from bytes w).fresh
  unfolding posted
  injects_gots None line from bytes w h = h
  injects_gots (Some to) line from bytes w h = h

line_gots : (line : ℕ) (event : Event) (told : List (Option Told)) (s : Scene) → MayHappen event told s → (let all = (happens line event told s).world.fresh in GotsAre (Here event (begun s) all) all)
unfolding happens MayHappen reset_line lose_line inject_line keyed
line_gots line (events.Begin initiators ready) told s m = tt
line_gots line (events.Act i action) told s m = act_gots _ line i action (begun s).world tt
line_gots line (events.Reset physical) told s m = tt
line_gots line (events.See node) told s m =
    let w = (begun s).world in
    turned_gots _ (notes.Seen node w.generations.latest.generation) w.fresh (see_line node w).fresh (sight_turns node w) tt
line_gots line (events.Deliver serial) told s m = one_gots (events.Deliver serial) (begun s) refl line serial false (is_in_flight serial (begun s).world) told refl m
line_gots line (events.Repeat serial) told s m = one_gots (events.Repeat serial) (begun s) refl line serial true (may_repeat serial (begun s).world) told refl m
line_gots line (events.Lose serial) told s m = pick_gots _ (is_in_flight serial (begun s).world) _ _ tt tt
line_gots line (events.Timeout serial) told s m = expires_gots _ line serial (begun s).world tt
line_gots line (events.Step count) told s m = all_gots (events.Step count) (begun s) refl (λ told. tt) told m.may
line_gots line events.Settle told s m =
    let old = (after_all told (begun s)).world in
    let new = end_note (is_settled old) ∷ old.fresh in
    ends_gots (Here events.Settle (begun s) new) (is_settled old) old.fresh
    (map_gots (Here events.Settle (begun s) old.fresh) (Here events.Settle (begun s) new) old.fresh (λ k before h. wider events.Settle (begun s) old.fresh new (end_note (is_settled old) ∷ []) refl k before h)
    (all_gots events.Settle (begun s) refl (λ told. tt) told m.may))
line_gots line events.Tick told s m =
    let w = (begun s).world in
    turned_gots _ notes.Tick w.fresh (tick_line w).fresh (second_turns w) tt
line_gots line (events.Inject initiator bytes) told s m = injects_gots _ (injected_to (initiator + 1) bytes (begun s).world) line (initiator + 1) bytes (begun s).world tt
line_gots line (events.Key unit key) told s m = pick_gots _ (nat_lt unit (length s.world.target.units)) _ _ tt tt

-- ---- moments

abbrev pub GotsIn : (ℕ → List Moment → Type 0) → List Moment → Type 0
GotsIn G [] = Unit {0}
GotsIn G (said (notes.Got serial) ∷ ms) = G serial ms × GotsIn G ms
GotsIn G (said note ∷ ms) = GotsIn G ms
GotsIn G (asked line event ∷ ms) = GotsIn G ms

pub said_gots : (F : ℕ → List Note → Type 0) (G : ℕ → List Moment → Type 0) (ns : List Note) (ms : List Moment) → ((serial : ℕ) (before : List Note) → F serial before → G serial (map said before ++ ms)) → GotsAre F ns → GotsIn G ms → GotsIn G (map said ns ++ ms)
said_gots F G [] ms f h g = g
said_gots F G (notes.Got serial ∷ ns) ms f h g = (f serial ns h.0, said_gots F G ns ms f h.1 g)
said_gots F G (note ∷ ns) ms f h g = said_gots F G ns ms f h g

pub map_in : (F G : ℕ → List Moment → Type 0) (ms : List Moment) → ((serial : ℕ) (before : List Moment) → F serial before → G serial before) → GotsIn F ms → GotsIn G ms
map_in F G [] f h = tt
map_in F G (said (notes.Got serial) ∷ ms) f h = (f serial ms h.0, map_in F G ms f h.1)
map_in F G (said note ∷ ms) f h = map_in F G ms f h
map_in F G (asked line event ∷ ms) f h = map_in F G ms f h

pub find_got : (G : ℕ → List Moment → Type 0) (later before : List Moment) (serial : ℕ) → GotsIn G (later ++ said (notes.Got serial) ∷ before) → G serial before
find_got G [] before serial h = h.0
find_got G (said (notes.Got other) ∷ later) before serial h = find_got G later before serial h.1
find_got G (said note ∷ later) before serial h = find_got G later before serial h
find_got G (asked line event ∷ later) before serial h = find_got G later before serial h

-- ---- a run

module _ (line : ℕ) (run : Run) (e : Entry) (earlier : List Entry) (q : IsRun (front_of run (e ∷ earlier))) where
  abbrev now : Run
  now = front_of run (e ∷ earlier)

  abbrev front : Run
  front = front_of run earlier

  abbrev s : Scene
  s = after (beginning run) earlier

  front_is : IsRun front
  front_is = let short = q.short in record { few = q.few; short = omega arith; entries = q.entries.1; lines = lines_same now earlier earlier q.lines.1 }

  same : moments_behind line front earlier ≡ moments_behind line now earlier
  same = moments_same line now earlier earlier

  was_there : (serial : ℕ) (before : List Note) (h : Here e.event (begun s) e.notes serial before) → (terms (map said before ++ asked e.line e.event ∷ history_of line front)).sent serial ≡ Some (as_sending h.was_got.sent)
  was_there serial before h =
      let b = stands_there line front front_is e.line e.event h.told h.delivers h.may in
      subst (λ ns. (terms (map said ns ++ asked e.line e.event ∷ history_of line front)).sent serial ≡ Some (as_sending h.was_got.sent)) (sym h.is)
      (subst (λ ms. (terms ms).sent serial ≡ Some (as_sending h.was_got.sent)) b.is
      (was_sent (after_all h.told (begun s)).world b.sound.stands serial h.was_got.sent h.was_got.found))

  is_inside : (told : List (Option Told)) (i : ℕ) → i < length (after_all told (begun s)).world.initiators → i < run.initiators
  is_inside told i b = subst (λ n. i < n) (count_between told s ∙ count_after run earlier) b

  here_is : (serial : ℕ) (before : List Note) → Here e.event (begun s) e.notes serial before → IsDelivered line now serial (map said before ++ asked e.line e.event ∷ history_of line front)
  here_is serial before h =
      let new = (delivered serial h.again h.one (after_all h.told (begun s))).world.fresh in
      record {
        later = [];
        entry = e;
        earlier = earlier;
        entries = refl;
        front = front_is;
        told = h.told;
        delivers = h.delivers;
        may = h.may;
        again = h.again;
        one = h.one;
        may_one = h.may_one;
        was_got = h.was_got;
        was = was_there serial before h;
        inside = λ i is. is_inside h.told i (h.was_got.inside i is);
        is = ap (λ ns. map said ns ++ asked e.line e.event ∷ history_of line front) h.is;
        rest = map said h.later;
        behind = said_joined h.later new (asked e.line e.event ∷ history_of line front)
            ∙ ap (λ ns. map said ns ++ asked e.line e.event ∷ history_of line front) (sym h.behind)
            ∙ ap (λ ms. map said e.notes ++ asked e.line e.event ∷ ms) same;
      }

  earlier_is : (serial : ℕ) (before : List Moment) → IsDelivered line front serial before → IsDelivered line now serial before
  earlier_is serial before d = record {
    later = e ∷ d.later;
    entry = d.entry;
    earlier = d.earlier;
    entries = ap (λ es. e ∷ es) d.entries;
    front = d.front;
    told = d.told;
    delivers = d.delivers;
    may = d.may;
    again = d.again;
    one = d.one;
    may_one = d.may_one;
    was_got = d.was_got;
    was = d.was;
    inside = d.inside;
    is = d.is;
    rest = map said e.notes ++ asked e.line e.event ∷ d.rest;
    behind = append_assoc (map said e.notes) (asked e.line e.event ∷ d.rest) _ ∙ ap (λ ms. map said e.notes ++ asked e.line e.event ∷ ms) (d.behind ∙ same);
  }

  entry_gots : GotsIn (IsDelivered line front) (history_of line front) → GotsIn (IsDelivered line now) (history_of line now)
  entry_gots h =
      subst (λ ms. GotsIn (IsDelivered line now) (map said e.notes ++ asked e.line e.event ∷ ms)) same
      (said_gots (Here e.event (begun s) e.notes) (IsDelivered line now) e.notes (asked e.line e.event ∷ history_of line front) here_is
      (subst (λ ns. GotsAre (Here e.event (begun s) ns) ns) (sym q.entries.0.notes_are) (line_gots e.line e.event e.told s q.entries.0.may))
      (map_in (IsDelivered line front) (IsDelivered line now) (history_of line front) earlier_is h))

pub run_gots : (line : ℕ) (run : Run) (entries : List Entry) → IsRun (front_of run entries) → GotsIn (IsDelivered line (front_of run entries)) (history_of line (front_of run entries))
run_gots line run [] q = tt
run_gots line run (e ∷ earlier) q = entry_gots line run e earlier q (run_gots line run earlier (front_is line run e earlier q))

pub deliveries_law : DeliveriesLaw
deliveries_law = record {
  deliveries = λ line run q later before serial e.
      find_got (IsDelivered line run) later before serial (subst (GotsIn (IsDelivered line run)) (sym e) (run_gots line run run.entries q));
  requests = λ line run before serial i d to packet read access asks is_said. record {
    sent = d.was_got.sent;
    found = d.was_got.found;
    to_it = to;
    packet = packet;
    request =
        request_got (initiator_at (after_all d.told (begun (after (beginning run) d.earlier))).world i) d.was_got.sent.generation d.was_got.sent.bytes packet access asks read
        (d.was_got.got i to);
    access = access;
    asks_for = asks;
    got = d.was_got.got i to;
    is_said = is_said;
  };
}
