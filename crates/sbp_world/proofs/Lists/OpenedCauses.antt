-- Why each list of an initiator is dropped, in every run.
use Rattle.sbp_world.proofs.Words.Std.{arith, ◌≡◌, ◌∙◌, refl, sym, ap, subst, ◌<◌, ◌==◌, not, ℕ, zero, suc, nat_eq, Bool, true, false, List, [], ◌∷◌, ◌++◌, map, Option, None, nat_tests}
use Rattle.sbp_world.proofs.Words.Wire.{judged_note, empty_outbox, Moment, asked, said, Judged, Action, Note, Side}
use Rattle.sbp_world.proofs.Words.Target.{Told}
use Rattle.sbp_world.proofs.Words.Initiator.{act_step, Turn, new_state, expire_step, receive_step, see_step, InitiatorState, own}
use Rattle.sbp_world.proofs.Words.Laws.{action_notes, link_notes, new_list, new_number, EachMoment}
use Rattle.sbp_world.proofs.Words.World.{history_of, Run, after, beginning, MayAll, after_all, begun, behind, AreRows, IsRun, more_deliveries, turn_of}
use Rattle.sbp_journal.specs.declared.cause.Judged.TheVariants as judgements
use Rattle.sbp_journal.specs.declared.event.Action.TheVariants as actions
use Rattle.sbp_journal.specs.declared.event.Event.TheVariants as events
use Rattle.sbp_journal.specs.declared.note.Note.TheVariants as notes
use Rattle.sbp_journal.specs.declared.side.Side.TheVariants as sides
use Rattle.sbp_world.proofs.Hosts.Carried.{between_runs, of_runs}
use Rattle.sbp_world.proofs.Hosts.Carries.{Carries, is_apart}
use Rattle.sbp_world.proofs.Hosts.Layered.{AreTame, expire_left, is_tame, receive_left}
use Rattle.sbp_world.proofs.Hosts.OrbTells as tell
use Rattle.sbp_world.proofs.Hosts.OrbTerms.{AreStill}
use Rattle.sbp_world.proofs.Hosts.PointSees.{see_left}
use Rattle.sbp_world.proofs.Hosts.PointerNotes.{Fit}
use Rattle.sbp_world.proofs.Hosts.Pointed.{stale_is}
use Rattle.sbp_world.proofs.Hosts.Telling.{action_law}
use Rattle.sbp_world.proofs.Pointers.Dropping.{drops_of, expire_drops, is_drop, receive_drops, see_drops}
use Rattle.sbp_world.proofs.Pointers.Ending.{other_number}
use Rattle.sbp_world.proofs.Pointers.GuardHears.{anew, as_before, SawAs, saw}
use Rattle.sbp_world.proofs.Pointers.Guarded.{Guarded}
use Rattle.sbp_world.proofs.Pointers.GuardDoes.{Ready}
use Rattle.sbp_world.proofs.Pointers.Guarding.{first_guarded, guarded_carried, ready_known}
use Rattle.sbp_world.proofs.Lists.OpenedEnds.{Drops, drops_by_sight, heard_drops}
use Rattle.sbp_world.proofs.Hosts.Pointed.{judged_fit}
use Rattle.sbp_world.proofs.Pointers.Passing.{turn_same}
use Rattle.sbp_world.proofs.Common.{untrue, or_left, or_right}

-- at each drop of its list
abbrev pub DropAt : ℕ → Moment → List Moment → Type 0
DropAt i (said (notes.Drop j n)) past = (j == i) ≡ true → Fit past → Drops (turn_of past) i
DropAt i moment past = Unit {0}

abbrev pub AllDrops : ℕ → List Moment → Type 0
AllDrops i past = EachMoment (DropAt i) past

-- ---- notes
itself : {A : Type 0} (i : ℕ) → not (nat_eq i i) ≡ true → A
itself i e = let f : nat_eq i i ≡ true = grind (arith, nat_tests) in untrue (sym (ap not f) ∙ e)

-- and each leaves it fit
fit_before : (note : Note) (past : List Moment) → is_tame note ≡ true → Fit (said note ∷ past) → Fit past
fit_before (notes.Append j n k cdb buffer) past e f = record { serials = f.serials; sent = f.sent }
fit_before (notes.Low j n k) past e f = record { serials = f.serials; sent = f.sent }
fit_before (notes.Linked j n k) past e f = record { serials = f.serials; sent = f.sent }
fit_before (notes.Dummied j n k) past e f = record { serials = f.serials; sent = f.sent }
fit_before (notes.Drop j n) past e f = record { serials = f.serials; sent = f.sent }
fit_before (notes.Rung j n k) past e f = record { serials = f.serials; sent = f.sent }
fit_before (notes.Taken j n k status answer) past e f = record { serials = f.serials; sent = f.sent }
fit_before (notes.Op j operation word) past e f = record { serials = f.serials; sent = f.sent }
fit_before (notes.Stuck j) past e f = record { serials = f.serials; sent = f.sent }
fit_before (notes.Told j) past e f = record { serials = f.serials; sent = f.sent }
fit_before _ past e f = untrue e

apart_kept : (note : Note) (past : List Moment) (i : ℕ) → is_apart i note ≡ true → AllDrops i past → AllDrops i (said note ∷ past)
apart_kept (notes.Drop j n) past i e h = (λ same fit. itself i (subst (λ m. not (nat_eq i m) ≡ true) (let x : j ≡ i = grind (arith, nat_tests) in x) e), h)
apart_kept note past i e h = (tt, h)

judged_kept : (serial i : ℕ) (judged : Judged) (past : List Moment) → AllDrops i past → AllDrops i (said (judged_note serial judged) ∷ past)
judged_kept serial i judgements.Got past h = (tt, h)
judged_kept serial i (judgements.Ignored cause) past h = (tt, h)

judged_turn : (serial : ℕ) (judged : Judged) (past : List Moment) (i : ℕ) → Drops (said (judged_note serial judged) ∷ past) i → Drops (turn_of (said (judged_note serial judged) ∷ past)) i
judged_turn serial judgements.Got past i d = d
judged_turn serial (judgements.Ignored cause) past i d = d

-- ---- what an initiator tells in a turn
one_kept : (note : Note) (past : List Moment) (i : ℕ) → (is_drop i (sides.Own note) ≡ true → Fit past → Drops (turn_of past) i) → DropAt i (said note) past
one_kept (notes.Drop j n) past i d = d
one_kept note past i d = tt

told_kept : (told : List Side) (past : List Moment) (i : ℕ) → AreTame told → AreStill told → (drops_of i told ≡ true → Fit past → Drops (turn_of past) i) → AllDrops i past → AllDrops i (behind told past)
told_kept [] past i t l d h = h
told_kept (sides.Own note ∷ later) past i t l d h =
    told_kept later (said note ∷ past) i t.1 l.1
    (λ x fit. subst (λ ms. Drops ms i) (sym (turn_same note past t.0 l.0)) (d (or_right (is_drop i (sides.Own note)) (drops_of i later) x) (fit_before note past t.0 fit)))
    (one_kept note past i (λ x fit. d (or_left (is_drop i (sides.Own note)) (drops_of i later) x) fit), h)
told_kept (_ ∷ later) past i t l d h = absurd t.0

none_kept : (told : List Side) (past : List Moment) (i : ℕ) → AreTame told → AreStill told → drops_of i told ≡ false → AllDrops i past → AllDrops i (behind told past)
none_kept told past i t l none h = told_kept told past i t l (λ d. untrue (sym none ∙ d)) h

-- an action drops none
linked_kept : (past : List Moment) (i j n k : ℕ) → AllDrops j past → AllDrops j (behind (own (link_notes i n k ++ notes.Rung i n k ∷ [])) past)
linked_kept past i j n zero h = (tt, h)
linked_kept past i j n (suc k) h = (tt, (tt, (tt, h)))

acts_kept : (past : List Moment) (i j : ℕ) (action : Action) → AllDrops j past → AllDrops j (behind (own (action_notes action past i)) past)
acts_kept past i j (actions.Put cmd) h = (tt, h)
acts_kept past i j (actions.Append cmd) h = linked_kept _ i j (new_list past i) (new_number past i) (tt, h)
acts_kept past i j actions.Low h = (tt, h)
acts_kept past i j actions.Link h = (tt, h)
acts_kept past i j actions.Ring h = (tt, h)
acts_kept past i j (actions.Dummy k) h = (tt, h)
acts_kept past i j _ h = h

-- ---- what is carried on
pub record Caused (ready : Bool) (past : List Moment) (i : ℕ) (s : InitiatorState) : Type 0 where
  pub guarded : Guarded ready past i s
  pub kept : AllDrops i past

-- a later generation is seen
module _ (ready : Bool) (generation id target : ℕ) (past : List Moment) (i : ℕ) (s : InitiatorState) (h : Guarded ready past i s) where
  abbrev seen : List Moment
  seen = said (notes.Seen (suc i) generation) ∷ past

  saw_drops : SawAs s generation (see_step generation id target empty_outbox s) → drops_of i (see_step generation id target empty_outbox s).0.sides ≡ true → Drops (turn_of seen) i
  saw_drops (anew later unwritten now) d = drops_by_sight generation past refl (let e = h.generation in let l : s.layer.generation < generation = grind (arith, nat_tests) in omega (arith, e, l))
  saw_drops (as_before later none mark now) d = untrue (sym (ap (drops_of i) none) ∙ d)

module _ (ready : Bool) where
  module _ (action : Action) (past : List Moment) (i : ℕ) (s : InitiatorState) (done : (act_step action empty_outbox s).0 ≡ None) (known : Ready past i s) (h : Caused ready past i s) where
    abbrev t : Turn
    t = (act_step action empty_outbox s).1

    abbrev number : s.number ≡ i
    number = h.guarded.pointed.cored.own.number

    sides_are : t.0.sides ≡ own (action_notes action past i)
    sides_are =
        action_law.notes past s action empty_outbox (subst (λ j. AreRows past j s.lists.slots) (sym number) known.rows) done
        ∙ ap (λ j. own (action_notes action past j)) number

    act_kept : (j : ℕ) → AllDrops j past → AllDrops j (behind t.0.sides past)
    act_kept j k = subst (λ xs. AllDrops j (behind xs past)) (sym sides_are) (acts_kept past i j action k)

  pub caused_carried : Carries Ready (Caused ready)
  caused_carried = record {
    known = (guarded_carried ready).known;
    number = λ past i s h. h.guarded.pointed.cored.own.number;
    asked = λ line event past i s h. record { guarded = (guarded_carried ready).asked line event past i s h.guarded; kept = (tt, h.kept) };
    apart = λ note past i s e w h. record { guarded = (guarded_carried ready).apart note past i s e w h.guarded; kept = apart_kept note past i e h.kept };
    sent = λ serial generation from to bytes past i s n h. record { guarded = (guarded_carried ready).sent serial generation from to bytes past i s n h.guarded; kept = (tt, h.kept) };
    hears = λ serial generation bytes past i s heard shown after_it h.
        let tells = (guarded_carried ready).hears serial generation bytes past i s heard shown after_it h.guarded in
        let left = receive_left generation bytes s in
        let still = tell.receives generation bytes empty_outbox s tt in
        let r = receive_step generation bytes empty_outbox s in
        let now = said (judged_note serial r.0) ∷ past in
        let number = h.guarded.pointed.cored.own.number in
        record {
          own = record {
            guarded = tells.own;
            kept = told_kept r.1.0.sides now i left.told still (λ d fit. judged_turn serial r.0 past i (heard_drops ready serial generation bytes past i s heard shown after_it h.guarded (judged_fit serial r.0 past fit) d)) (judged_kept serial i r.0 past h.kept);
          };
          others = λ j x e g. record {
            guarded = tells.others j x e g.guarded;
            kept = none_kept r.1.0.sides now j left.told still (receive_drops j generation bytes s (λ d. other_number i j s.number number e)) g.kept;
          };
        };
    expires = λ serial label past i s after_it h.
        let tells = (guarded_carried ready).expires serial label past i s after_it h.guarded in
        let left = expire_left label s in
        let still = tell.expires label empty_outbox s tt in
        let t : Turn = (expire_step label empty_outbox s).1 in
        let now = said (notes.TimedOut serial) ∷ past in
        record {
          own = record { guarded = tells.own; kept = none_kept t.0.sides now i left.told still (expire_drops i label s) (tt, h.kept) };
          others = λ j x e g. record { guarded = tells.others j x e g.guarded; kept = none_kept t.0.sides now j left.told still (expire_drops j label s) g.kept };
        };
    stale = λ label past i s e h. subst (λ (x : InitiatorState). Caused ready past i x) (sym (stale_is ready label s e)) h;
    sees = λ generation id target past i s flag h.
        let tells = (guarded_carried ready).sees generation id target past i s flag h.guarded in
        let left = see_left generation id target s in
        let still = tell.sees generation id target empty_outbox s tt in
        let t : Turn = see_step generation id target empty_outbox s in
        let now = said (notes.Seen (suc i) generation) ∷ past in
        let number = h.guarded.pointed.cored.own.number in
        record {
          own = record {
            guarded = tells.own;
            kept = told_kept t.0.sides now i left.told still (λ d fit. saw_drops ready generation id target past i s h.guarded (saw generation id target s) d) (tt, h.kept);
          };
          others = λ j x e g. record { guarded = tells.others j x e g.guarded; kept = none_kept t.0.sides now j left.told still (see_drops j generation id target s (other_number i j s.number number e)) g.kept };
        };
    acts = λ action past i s under fit done shown known h.
        let does = (guarded_carried ready).acts action past i s under fit done shown known h.guarded in
        record {
          others = λ j x e g. record { guarded = does.others j x e g.guarded; kept = act_kept action past i s done known h j g.kept };
          quiet = λ none. record { guarded = does.quiet none; kept = act_kept action past i s done known h i h.kept };
          asking = λ packet one serial generation injected q. record {
            guarded = does.asking packet one serial generation injected q;
            kept = (tt, act_kept action past i s done known h i h.kept);
          };
        };
  }

pub first_caused : (line i initiators : ℕ) (ready : Bool) → i < initiators → Caused ready (said (notes.Begin initiators ready) ∷ asked line (events.Begin initiators ready) ∷ []) i (new_state i ready)
first_caused line i initiators ready b = record { guarded = first_guarded line i initiators ready b; kept = (tt, (tt, tt)) }

-- ---- in every run
module _ (line : ℕ) (run : Run) (r : IsRun run) (i : ℕ) (b : i < run.initiators) where
  pub drops_after : AllDrops i (history_of line run)
  drops_after = (of_runs (Caused run.ready) (caused_carried run.ready) line run (ready_known line run) (λ j c. first_caused line j run.initiators run.ready c) r i b).kept

  pub drops_between : (next : ℕ) (most : Option ℕ) (told : List (Option Told)) → MayAll told (begun (after (beginning run) run.entries)) → AllDrops i (map said (after_all told (begun (after (beginning run) run.entries))).world.fresh ++ asked next (more_deliveries most) ∷ history_of line run)
  drops_between next most told m = (between_runs (Caused run.ready) (caused_carried run.ready) line run (ready_known line run) (λ j c. first_caused line j run.initiators run.ready c) r next most told m i b).kept
