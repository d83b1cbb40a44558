-- What a delivery and a time-out leave of a session that has a list: it stays so, and carries the same response, where no logout is refused; and while the
-- operation under way does not end, it carries the same response.
use Rattle.sbp_world.proofs.Words.Std.{arith, ◌≡◌, refl, sym, ◌∙◌, ap, subst, ℕ, nat_eq, is_some, Bool, true, false, cond, List, [], ◌∷◌, ◌++◌, Option, Some, None, nat_tests}
use Rattle.sbp_world.proofs.Words.Wire.{LabelParts, OutboxState, empty_outbox, Note, Operation, OpWord, Side}
use Rattle.sbp_world.proofs.Words.Initiator.{PresentList, ListState, drop_lists, unpin_lists, drop_for, drop_step, Running, InitiatorState, drop_list_step, drop_where, dropped_as, end_step, good_end, good_event, good_word, managed_step, moved, moves_session, response_of, then_step, expire_step, receive_step, ends_list, is_list, carried, Event, bad, goes, Seat}
use Rattle.sbp_world.proofs.Words.World.{operation_by, session_in, work_in, is_refusal, is_seated}
use Rattle.sbp_journal.specs.declared.note.Note.TheVariants as notes
use Rattle.sbp_journal.specs.declared.operation.Operation.TheVariants as operations
use Rattle.sbp_journal.specs.declared.operation.OpWord.TheVariants as words
use Rattle.sbp_journal.specs.declared.side.Side.TheVariants as sides
use Rattle.sbp_world.proofs.Hosts.Knowing.{Sits}
use Rattle.sbp_world.proofs.Pointers.BaseSeats.{is_logout, is_reset_seen, kept_carried, kept_seated, moved_stays}
use Rattle.sbp_world.proofs.Pointers.BaseTold.{closes_of, front_unclosed, front_unrefused, is_end, last_unclosed, last_unrefused, refuses_of}
use Rattle.sbp_world.proofs.Pointers.PendHears.{SameList}
use Rattle.sbp_world.proofs.Pointers.Walks.{expires, is_drop_note, is_kept, receives, unpin_same}
use Rattle.sbp_world.proofs.Common.{itself, untrue}

-- a session that has a list, and the response that it carried before
pub record Keeps (old now : Seat) : Type 0 where
  pub seated : is_seated now ≡ true
  pub same : carried now ≡ carried old

some_list : (old new : Option PresentList) → ((n : ℕ) → is_list new n ≡ is_list old n) → is_some new ≡ true → is_some old ≡ true
some_list None None f e = e
some_list (Some list) new f e = refl
some_list None (Some list) f e = untrue (sym (f list.tail.list) ∙ itself list.tail.list)

drops_for : (present : Option PresentList) (o : OutboxState) (s : InitiatorState) → s.lists.slots.present ≡ present → is_some (dropped_as ((drop_for present s.lists.slots).0, record s.lists { slots = (drop_for present s.lists.slots).1 }) o s).1.lists.slots.present ≡ false
drops_for None o s e = ap (λ (p : Option PresentList). is_some p) e
drops_for (Some list) o s e = refl

drops_none : (o : OutboxState) (s : InitiatorState) → is_some (drop_list_step o s).1.lists.slots.present ≡ false
unfolding drop_lists drop_step
drops_none o s = drops_for s.lists.slots.present o s refl

moved_seat : (b : Bool) (event : Event) (u : InitiatorState) → (cond b (record u { seat = goes event u.seat }) u).seat ≡ cond b (goes event u.seat) u.seat
moved_seat true event u = refl
moved_seat false event u = refl

moved_lists : (b : Bool) (event : Event) (u : InitiatorState) → (cond b (record u { seat = goes event u.seat }) u).lists ≡ u.lists
moved_lists true event u = refl
moved_lists false event u = refl

-- an operation that leaves the list is no logout
no_logout : (operation : Operation) → ends_list (Some operation) ≡ false → is_logout operation ≡ false
no_logout operations.Logout e = untrue (sym e)
no_logout operations.Rom e = refl
no_logout operations.Login e = refl
no_logout operations.Query e = refl
no_logout operations.Reconnect e = refl
no_logout operations.Abort e = refl
no_logout operations.AbortSet e = refl
no_logout operations.UnitReset e = refl
no_logout operations.TargetReset e = refl
no_logout operations.AgentReset e = refl
no_logout operations.State e = refl
no_logout operations.Enable e = refl

logout_is : (operation : Operation) → is_logout operation ≡ true → operation ≡ operations.Logout
logout_is operations.Logout e = refl
logout_is _ e = untrue e

good_seen : (operation : Operation) (response : List ℕ) → is_reset_seen (good_event operation response) ≡ false
good_seen operations.Login response = refl
good_seen operations.Query response = refl
good_seen operations.Rom response = refl
good_seen operations.Reconnect response = refl
good_seen operations.Logout response = refl
good_seen operations.Abort response = refl
good_seen operations.AbortSet response = refl
good_seen operations.UnitReset response = refl
good_seen operations.TargetReset response = refl
good_seen operations.AgentReset response = refl
good_seen operations.State response = refl
good_seen operations.Enable response = refl

pub dropped_number : (r : Option ℕ × ListState) (o : OutboxState) (s : InitiatorState) → (dropped_as r o s).1.number ≡ s.number
dropped_number (None, lists) o s = refl
dropped_number (Some n, lists) o s = refl

drop_number : (s : InitiatorState) → (drop_list_step empty_outbox s).1.number ≡ s.number
drop_number s = dropped_number (drop_lists s.lists) empty_outbox s

-- ---- a session that has a list

pub record Sitting (i : ℕ) (old : Seat) (told : List Side) (seat : Seat) (lists : ListState) : Type 0 where
  pub keeps : refuses_of i told ≡ false → is_some lists.slots.present ≡ true → Keeps old seat

module _ (i : ℕ) (s : InitiatorState) (number : s.number ≡ i) (fits : Sits (operation_by (work_in s.operation)) (session_in s.seat)) (start : is_some s.lists.slots.present ≡ true → is_seated s.seat ≡ true) where
  abbrev W : List Side → Seat → ListState → Type 0
  W told seat lists = Sitting i s.seat told seat lists

  plain : (event : Event) (told : List Side) (seat : Seat) (lists : ListState) → is_kept event ≡ true → W told seat lists → W told (goes event seat) lists
  plain event told seat lists e h = record {
    keeps = λ r p. let k = h.keeps r p in record { seated = kept_seated event seat e k.seated; same = kept_carried event seat e ∙ k.same };
  }

  relist : (told : List Side) (seat : Seat) (a b : ListState) → SameList a b → W told seat a → W told seat b
  relist told seat a b same h = record { keeps = λ r p. h.keeps r (some_list a.slots.present b.slots.present same p) }

  tells : (note : Note) (told : List Side) (seat : Seat) (lists : ListState) → is_drop_note note ≡ false → W told seat lists → W (told ++ sides.Own note ∷ []) seat lists
  tells note told seat lists e h = record { keeps = λ r p. h.keeps (front_unrefused i told (sides.Own note) r) p }

  gone : (other n : ℕ) (told : List Side) (seat : Seat) (a b : ListState) → b.slots.present ≡ None → W told seat a → W (told ++ sides.Own (notes.Drop other n) ∷ []) seat b
  gone other n told seat a b e h = record { keeps = λ r p. untrue (sym (ap (λ (x : Option PresentList). is_some x) e) ∙ p) }

  here : W [] s.seat s.lists
  here = record { keeps = λ r p. record { seated = start p; same = refl } }

  -- a status block ends an operation
  module _ (running : Running) (status : ℕ) (u : InitiatorState) (is : s.operation ≡ Some running) (seat : u.seat ≡ s.seat) (lists : u.lists ≡ s.lists) (same : u.number ≡ s.number) where
    sits : Sits (Some running.operation) (session_in s.seat)
    sits = subst (λ (x : Option Running). Sits (operation_by (work_in x)) (session_in s.seat)) is fits

    had : (event : Event) → is_some (unpin_lists (moved running.operation event u).lists).slots.present ≡ true → is_some s.lists.slots.present ≡ true
    had event p =
        let l = (moved running.operation event u).lists in
        let q = some_list l.slots.present (unpin_lists l).slots.present (unpin_same l) p in
        sym (ap (λ (x : ListState). is_some x.slots.present) (moved_lists (moves_session running.operation) event u ∙ lists)) ∙ q

    -- it stays as it was, where it is no logout
    stays : (event : Event) → is_reset_seen event ≡ false → is_logout running.operation ≡ false → is_some (unpin_lists (moved running.operation event u).lists).slots.present ≡ true → Keeps s.seat (moved running.operation event u).seat
    stays event e n p =
        let f = start (had event p) in
        let x : (moved running.operation event u).seat ≡ s.seat =
        moved_seat (moves_session running.operation) event u
        ∙ ap (λ y. cond (moves_session running.operation) (goes event y) y) seat
        ∙ moved_stays running.operation event s.seat e n sits f in
        record { seated = ap is_seated x ∙ f; same = ap carried x }

    good_by : (b : Bool) → ends_list (Some running.operation) ≡ b → (let t = then_step (good_end running) (drop_where b empty_outbox u) in W t.0.sides t.1.seat t.1.lists)
    good_by true e = record {
      keeps = λ r p.
          let t = drop_where true empty_outbox u in
          let event = good_event running.operation (response_of running t.1) in
          let l = (moved running.operation event t.1).lists in
          let q = some_list l.slots.present (unpin_lists l).slots.present (unpin_same l) p in
          untrue (sym (drops_none empty_outbox u) ∙ (sym (ap (λ (x : ListState). is_some x.slots.present) (moved_lists (moves_session running.operation) event t.1)) ∙ q));
    }
    good_by false e = record {
      keeps = λ r p. stays (good_event running.operation (response_of running u)) (good_seen running.operation (response_of running u)) (no_logout running.operation e) p;
    }

    refused : W (end_step running.operation (words.Refused status) empty_outbox (moved running.operation bad u)).0.sides (end_step running.operation (words.Refused status) empty_outbox (moved running.operation bad u)).1.seat (end_step running.operation (words.Refused status) empty_outbox (moved running.operation bad u)).1.lists
    refused = record { keeps = λ r p. by (is_logout running.operation) refl r p }
      where
        moved_number : (b : Bool) → (cond b (record u { seat = goes bad u.seat }) u).number ≡ u.number
        moved_number true = refl
        moved_number false = refl

        told : (moved running.operation bad u).number ≡ i
        told = moved_number (moves_session running.operation) ∙ same ∙ number

        by : (b : Bool) → is_logout running.operation ≡ b → refuses_of i (sides.Own (notes.Op (moved running.operation bad u).number running.operation (words.Refused status)) ∷ []) ≡ false → is_some (unpin_lists (moved running.operation bad u).lists).slots.present ≡ true → Keeps s.seat (moved running.operation bad u).seat
        by true e r p =
            let n = last_unrefused i [] (sides.Own (notes.Op (moved running.operation bad u).number running.operation (words.Refused status))) r in
            let m : is_refusal i (notes.Op (moved running.operation bad u).number operations.Logout (words.Refused status)) ≡ false = sym (ap (λ x. is_refusal i (notes.Op (moved running.operation bad u).number x (words.Refused status))) (logout_is running.operation e)) ∙ n in
            untrue (sym m ∙ (let same_number = told in (let z : nat_eq (moved running.operation bad u).number i ≡ true = grind (arith, nat_tests) in z)))
        by false e r p = stays bad refl e p

    pub manages : (let t = managed_step running status empty_outbox u in W t.0.sides t.1.seat t.1.lists)
    manages = by (nat_eq status 0)
      where
        by : (b : Bool) → (let t = cond b (then_step (good_end running) (drop_where (ends_list (Some running.operation)) empty_outbox u)) (end_step running.operation (words.Refused status) empty_outbox (moved running.operation bad u)) in W t.0.sides t.1.seat t.1.lists)
        by true = good_by (ends_list (Some running.operation)) refl
        by false = refused

  pub receive_sits : (generation : ℕ) (bytes : List ℕ) → (let t = (receive_step generation bytes empty_outbox s).1 in refuses_of i t.0.sides ≡ false → is_some t.1.lists.slots.present ≡ true → Keeps s.seat t.1.seat)
  receive_sits generation bytes = (receives W plain relist tells gone s here (λ running status u is seat lists operation same. manages running status u is seat lists same) generation bytes).keeps

  pub expire_sits : (label : LabelParts) → (let t = (expire_step label empty_outbox s).1 in refuses_of i t.0.sides ≡ false → is_some t.1.lists.slots.present ≡ true → Keeps s.seat t.1.seat)
  expire_sits label = (expires W plain relist tells gone label s here).keeps

-- ---- a response that is carried

pub record Steady (i : ℕ) (old : Seat) (told : List Side) (seat : Seat) : Type 0 where
  pub same : closes_of i told ≡ false → carried seat ≡ carried old

-- an operation that is under way ends by a note of it
end_told : (operation : Operation) (seat : Seat) (word : OpWord) (i number : ℕ) → Sits (Some operation) (session_in seat) → number ≡ i → is_end i (notes.Op number operation word) ≡ true
end_told operations.State seat word i number s e = absurd s
end_told operations.Rom seat word i number s e = grind (arith, nat_tests)
end_told operations.Login seat word i number s e = grind (arith, nat_tests)
end_told operations.Query seat word i number s e = grind (arith, nat_tests)
end_told operations.Reconnect seat word i number s e = grind (arith, nat_tests)
end_told operations.Logout seat word i number s e = grind (arith, nat_tests)
end_told operations.Abort seat word i number s e = grind (arith, nat_tests)
end_told operations.AbortSet seat word i number s e = grind (arith, nat_tests)
end_told operations.UnitReset seat word i number s e = grind (arith, nat_tests)
end_told operations.TargetReset seat word i number s e = grind (arith, nat_tests)
end_told operations.AgentReset seat word i number s e = grind (arith, nat_tests)
end_told operations.Enable seat word i number s e = grind (arith, nat_tests)

module _ (i : ℕ) (s : InitiatorState) (number : s.number ≡ i) (fits : Sits (operation_by (work_in s.operation)) (session_in s.seat)) where
  abbrev V : List Side → Seat → ListState → Type 0
  V told seat lists = Steady i s.seat told seat

  steady_plain : (event : Event) (told : List Side) (seat : Seat) (lists : ListState) → is_kept event ≡ true → V told seat lists → V told (goes event seat) lists
  steady_plain event told seat lists e h = record { same = λ c. kept_carried event seat e ∙ h.same c }

  steady_relist : (told : List Side) (seat : Seat) (a b : ListState) → SameList a b → V told seat a → V told seat b
  steady_relist told seat a b same h = h

  steady_tells : (note : Note) (told : List Side) (seat : Seat) (lists : ListState) → is_drop_note note ≡ false → V told seat lists → V (told ++ sides.Own note ∷ []) seat lists
  steady_tells note told seat lists e h = record { same = λ c. h.same (front_unclosed i told (sides.Own note) c) }

  steady_gone : (other n : ℕ) (told : List Side) (seat : Seat) (a b : ListState) → b.slots.present ≡ None → V told seat a → V (told ++ sides.Own (notes.Drop other n) ∷ []) seat b
  steady_gone other n told seat a b e h = record { same = λ c. h.same (front_unclosed i told (sides.Own (notes.Drop other n)) c) }

  steady_here : V [] s.seat s.lists
  steady_here = record { same = λ c. refl }

  module _ (running : Running) (status : ℕ) (u : InitiatorState) (is : s.operation ≡ Some running) (same : u.number ≡ s.number) where
    over : (word : OpWord) (told : List Side) (n : ℕ) (seat : Seat) → n ≡ i → Steady i s.seat (told ++ sides.Own (notes.Op n running.operation word) ∷ []) seat
    over word told n seat e = record {
      same = λ c.
          let sits : Sits (Some running.operation) (session_in s.seat) = subst (λ (x : Option Running). Sits (operation_by (work_in x)) (session_in s.seat)) is fits in
          untrue (sym (last_unclosed i told (sides.Own (notes.Op n running.operation word)) c) ∙ end_told running.operation s.seat word i n sits e);
    }

    moved_number : (b : Bool) (event : Event) (x : InitiatorState) → (cond b (record x { seat = goes event x.seat }) x).number ≡ x.number
    moved_number true event x = refl
    moved_number false event x = refl

    where_number : (b : Bool) → (drop_where b empty_outbox u).1.number ≡ u.number
    where_number true = drop_number u
    where_number false = refl

    pub steady_manages : (let t = managed_step running status empty_outbox u in Steady i s.seat t.0.sides t.1.seat)
    steady_manages = by (nat_eq status 0)
      where
        by : (b : Bool) → (let t = cond b (then_step (good_end running) (drop_where (ends_list (Some running.operation)) empty_outbox u)) (end_step running.operation (words.Refused status) empty_outbox (moved running.operation bad u)) in Steady i s.seat t.0.sides t.1.seat)
        by true =
            let t = drop_where (ends_list (Some running.operation)) empty_outbox u in
            let event = good_event running.operation (response_of running t.1) in
            over (good_word running.operation (response_of running t.1)) t.0.sides (moved running.operation event t.1).number (moved running.operation event t.1).seat
            (moved_number (moves_session running.operation) event t.1 ∙ where_number (ends_list (Some running.operation)) ∙ same ∙ number)
        by false = over (words.Refused status) [] (moved running.operation bad u).number (moved running.operation bad u).seat (moved_number (moves_session running.operation) bad u ∙ same ∙ number)

  pub receive_steady : (generation : ℕ) (bytes : List ℕ) → (let t = (receive_step generation bytes empty_outbox s).1 in closes_of i t.0.sides ≡ false → carried t.1.seat ≡ carried s.seat)
  receive_steady generation bytes = (receives V steady_plain steady_relist steady_tells steady_gone s steady_here (λ running status u is seat lists operation same. steady_manages running status u is same) generation bytes).same

  pub expire_steady : (label : LabelParts) → (let t = (expire_step label empty_outbox s).1 in closes_of i t.0.sides ≡ false → carried t.1.seat ≡ carried s.seat)
  expire_steady label = (expires V steady_plain steady_relist steady_tells steady_gone label s steady_here).same
