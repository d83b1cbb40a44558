-- In every run an initiator begins a list in a generation that the target has seen: it does so in a live session alone.
use Rattle.sbp_world.proofs.Words.Std.{arith, ◌≡◌, ◌∙◌, refl, sym, ap, subst, inl, inr, ◌⊎◌, ℕ, zero, suc, ◌≤◌, ◌==◌, not, nat_eq, Bool, true, false, List, [], ◌∷◌, ◌++◌, Option, Some, None, nat_tests, not-false}
use Rattle.sbp_world.proofs.Words.Wire.{judged_note, empty_outbox, Moment, asked, said, terms, Judged, Action, Note, Side}
use Rattle.sbp_world.proofs.Words.Initiator.{act_step, facts_with, judged_as, Turn, new_state, expire_step, receive_step, is_in_live, prepares, refusal, see_step, session_of, InitiatorState, own}
use Rattle.sbp_world.proofs.Words.Laws.{action_notes, link_notes, new_list, new_number, EachMoment}
use Rattle.sbp_world.proofs.Words.World.{behind, AreRows}
use Rattle.sbp_journal.specs.declared.cause.Judged.TheVariants as judgements
use Rattle.sbp_journal.specs.declared.event.Action.TheVariants as actions
use Rattle.sbp_journal.specs.declared.event.Event.TheVariants as events
use Rattle.sbp_journal.specs.declared.note.Note.TheVariants as notes
use Rattle.sbp_journal.specs.declared.side.Side.TheVariants as sides
use Rattle.sbp_world.proofs.Hosts.Acts.{Goes, goes_on}
use Rattle.sbp_world.proofs.Hosts.Calling.{IsOwn, own_first, own_on}
use Rattle.sbp_world.proofs.Hosts.Carries.{Carries, Does, IsLineOf, is_apart}
use Rattle.sbp_world.proofs.Hosts.OrbTells.{expires, receives, sees}
use Rattle.sbp_world.proofs.Hosts.OrbTerms.{AreStill, is_left}
use Rattle.sbp_world.proofs.Hosts.Telling.{action_law}
use Rattle.sbp_initiator.specs.Histories.Laws as calls
use Rattle.sbp_world.proofs.Lists.Generations.{moment_generation}
use Rattle.sbp_world.proofs.Lists.Stands.{no}

abbrev pub BeginsAt : ℕ → Moment → List Moment → Type 0
BeginsAt i (said (notes.Append j n k cdb buffer)) past = (j == i) ≡ true → (terms past).generation (suc i) ≤ (terms past).generation 0
BeginsAt i moment past = Unit {0}

abbrev pub Begins : ℕ → List Moment → Type 0
Begins i past = EachMoment (BeginsAt i) past

-- ---- notes
not_here : (i j : ℕ) → not (i == j) ≡ true → (j == i) ≡ true → ⊥
not_here i j e f = let g : nat_eq i j ≡ true = grind (arith, nat_tests) in no (ap not (sym g) ∙ e)

not_both : (i j : ℕ) → (i == j) ≡ false → (j == i) ≡ true → ⊥
not_both i j e f = let g : nat_eq i j ≡ true = grind (arith, nat_tests) in no (sym e ∙ g)

left_begins : (note : Note) (past : List Moment) (i : ℕ) → is_left i note ≡ true → BeginsAt i (said note) past
left_begins (notes.Append j n k cdb buffer) past i e = λ same. absurd (not_here i j e same)
left_begins _ past i e = tt

apart_begins : (note : Note) (past : List Moment) (i : ℕ) → is_apart i note ≡ true → BeginsAt i (said note) past
apart_begins (notes.Append j n k cdb buffer) past i e = λ same. absurd (not_here i j e same)
apart_begins _ past i e = tt

still_begins : (told : List Side) (past : List Moment) (i : ℕ) → AreStill told → Begins i past → Begins i (behind told past)
still_begins [] past i h y = y
still_begins (sides.Own note ∷ told) past i h y = still_begins told (said note ∷ past) i h.1 (left_begins note past i (h.0 i), y)
still_begins (_ ∷ told) past i h y = absurd h.0

linked_begin : (past : List Moment) (i j n k : ℕ) → Begins j past → Begins j (behind (own (link_notes i n k ++ notes.Rung i n k ∷ [])) past)
linked_begin past i j n zero y = (tt, y)
linked_begin past i j n (suc k) y = (tt, (tt, (tt, y)))

-- what initiator i tells of an action
acts_begin : (past : List Moment) (i j : ℕ) (action : Action) → (prepares action ≡ true → (i == j) ≡ true → (terms past).generation (suc j) ≤ (terms past).generation 0) → Begins j past → Begins j (behind (own (action_notes action past i)) past)
acts_begin past i j (actions.Put cmd) f y = (f refl, y)
acts_begin past i j (actions.Append cmd) f y = linked_begin _ i j (new_list past i) (new_number past i) (f refl, y)
acts_begin past i j actions.Low f y = (tt, y)
acts_begin past i j actions.Link f y = (tt, y)
acts_begin past i j actions.Ring f y = (tt, y)
acts_begin past i j (actions.Dummy k) f y = (tt, y)
acts_begin past i j _ f y = y

judged_begins : (serial i : ℕ) (judged : Judged) (past : List Moment) → Begins i past → Begins i (said (judged_note serial judged) ∷ past)
judged_begins serial i judgements.Got past y = (tt, y)
judged_begins serial i (judgements.Ignored cause) past y = (tt, y)

-- ---- an ORB is prepared in a live session alone

pub prepared : (action : Action) (s : InitiatorState) → prepares action ≡ true → Goes action s → is_in_live (session_of s.seat) ≡ true
prepared (actions.Put cmd) s p g = not-false (is_in_live (session_of s.seat)) g.rows.wrong_state
prepared (actions.Append cmd) s p g = not-false (is_in_live (session_of s.seat)) g.rows.wrong_state
prepared _ s p g = absurd (no p)

goes_by : (action : Action) (s : InitiatorState) (r : Option ℕ) → refusal action (facts_with true s action) ≡ r → (judged_as r action empty_outbox s).0 ≡ None → Goes action s
goes_by action s (Some number) e f = absurd (let x : Some number ≡ None = f in cc)
goes_by action s None e f = goes_on action s e

act_goes : (action : Action) (s : InitiatorState) → (act_step action empty_outbox s).0 ≡ None → Goes action s
unfolding act_step
act_goes action s e = goes_by action s (refusal action (facts_with true s action)) refl e

-- ---- what is carried on
pub record Joins (ready : Bool) (past : List Moment) (i : ℕ) (s : InitiatorState) : Type 0 where
  pub own : IsOwn ready i s
  pub begins : Begins i past

-- what is known as a line begins
pub record Starts (past : List Moment) (i : ℕ) (s : InitiatorState) : Type 0 where
  pub rows : AreRows past i s.lists.slots
  pub joined : is_in_live (session_of s.seat) ≡ true → (terms past).generation (suc i) ≤ (terms past).generation 0

module _ (ready : Bool) where
  module _ (action : Action) (past : List Moment) (i : ℕ) (s : InitiatorState) (fit : IsLineOf action) (done : (act_step action empty_outbox s).0 ≡ None) (known : Starts past i s) (h : Joins ready past i s) where
    abbrev t : Turn
    t = (act_step action empty_outbox s).1

    sides_are : t.0.sides ≡ own (action_notes action past i)
    sides_are =
        action_law.notes past s action empty_outbox (subst (λ j. AreRows past j s.lists.slots) (sym h.own.number) known.rows) done
        ∙ ap (λ j. own (action_notes action past j)) h.own.number

    now_begins : (j : ℕ) → ((j == i) ≡ false → ⊥) ⊎ ((j == i) ≡ false) → Begins j past → Begins j (behind t.0.sides past)
    now_begins j (inl same) y = subst (λ xs. Begins j (behind xs past)) (sym sides_are) (acts_begin past i j action (λ p e. subst (λ k. (terms past).generation (suc k) ≤ (terms past).generation 0) (let x : i ≡ j = grind (arith, nat_tests) in x) (known.joined (prepared action s p (act_goes action s done)))) y)
    now_begins j (inr other) y = subst (λ xs. Begins j (behind xs past)) (sym sides_are) (acts_begin past i j action (λ p e. absurd (not_both j i other e)) y)

    own_begins : Begins i (behind t.0.sides past)
    own_begins = now_begins i (inl (λ e. no (sym e ∙ (let x : nat_eq i i ≡ true = grind (arith, nat_tests) in x)))) h.begins

    does : Does (Joins ready) past i t
    does = record {
      others = λ j x e k.
          record { own = k.own; begins = now_begins j (inr e) k.begins };
      quiet = λ none. record { own = own_on ready i s (calls.acts action) fit.0 h.own; begins = own_begins };
      asking = λ packet one serial generation f q. record { own = own_on ready i s (calls.acts action) fit.0 h.own; begins = (tt, own_begins) };
    }

  pub joins_carried : Carries Starts (Joins ready)
  joins_carried = record {
    known = λ line event past i s q. record {
      rows = q.rows;
      joined = λ e.
          let a = moment_generation (suc i) (asked line event) past refl in
          let b = moment_generation 0 (asked line event) past refl in
          let c = q.joined e in
          omega (arith, a, b, c);
    };
    number = λ past i s h. h.own.number;
    asked = λ line event past i s h. record { own = h.own; begins = (tt, h.begins) };
    apart = λ note past i s e away h. record { own = h.own; begins = (apart_begins note past i e, h.begins) };
    sent = λ serial generation from to bytes past i s n h. record { own = h.own; begins = (tt, h.begins) };
    hears = λ serial generation bytes past i s heard shown after h.
        let t = (receive_step generation bytes empty_outbox s).1 in
        let judged = (receive_step generation bytes empty_outbox s).0 in
        let still = receives generation bytes empty_outbox s tt in
        record {
          own = record { own = own_on ready i s (calls.receives generation bytes) tt h.own; begins = still_begins t.0.sides _ i still (judged_begins serial i judged past h.begins) };
          others = λ j x e k. record { own = k.own; begins = still_begins t.0.sides _ j still k.begins };
        };
    expires = λ serial label past i s shown h.
        let t = (expire_step label empty_outbox s).1 in
        let still = expires label empty_outbox s tt in
        record {
          own = record { own = own_on ready i s (calls.lets_expire label) tt h.own; begins = still_begins t.0.sides _ i still (tt, h.begins) };
          others = λ j x e k. record { own = k.own; begins = still_begins t.0.sides _ j still k.begins };
        };
    stale = λ label past i s e h. record { own = own_on ready i s (calls.lets_expire label) tt h.own; begins = h.begins };
    sees = λ generation id target past i s e h.
        let t = see_step generation id target empty_outbox s in
        let still = sees generation id target empty_outbox s tt in
        record {
          own = record { own = own_on ready i s (calls.sees generation id target) tt h.own; begins = still_begins t.0.sides _ i still (tt, h.begins) };
          others = λ j x f k. record { own = k.own; begins = still_begins t.0.sides _ j still k.begins };
        };
    acts = λ action past i s line fit d shown known h. does action past i s fit d known h;
  }

pub first_joins : (line i initiators : ℕ) (ready : Bool) → Joins ready (said (notes.Begin initiators ready) ∷ asked line (events.Begin initiators ready) ∷ []) i (new_state i ready)
first_joins line i initiators ready = record { own = own_first ready i; begins = (tt, (tt, tt)) }
