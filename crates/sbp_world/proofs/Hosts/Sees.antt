-- An initiator sees a generation.
use Rattle.sbp_world.proofs.Words.Std.{◌≡◌, refl, sym, ◌∙◌, ap, subst, ℕ, suc, ◌<◌, ◌≤◌, ◌==◌, ◌&&◌, not, nat_eq, nat_lt, Bool, true, false, cond, List, [], ◌∷◌, map, Option, Some, None}
use Rattle.sbp_world.proofs.Words.Wire.{Layer, seeing_step, Moment, said, wire_terms, OutboxState, empty_outbox, Operation}
use Rattle.sbp_world.proofs.Words.Initiator.{PresentList, SlotState, TicketParts, SlotTable, slot_in, Purpose, Running, InitiatorState, drop_lists, free_lists, with_slots, dropped_as, told, all_end, freed_step, interrupted, reset_step, reset_told, resets_told, see_step, seen_as, states_end}
use Rattle.sbp_world.proofs.Words.Laws.{lists, appends, Row, vacant, new_slots, put_to_rest}
use Rattle.sbp_world.proofs.Words.World.{present_in, ListTerms, terms_at, over_at, Frees, IfLast, StateFits, IfList, Fits, Rows, AreRows, behind, Beside, Listed, Pins}
use Rattle.orb_list.specs.declared.slot.SlotState.TheVariants as states
use Rattle.orb_list.specs.Table as table
use Rattle.sbp_journal.specs.declared.note.Note.TheVariants as notes
use Rattle.sbp_journal.specs.declared.operation.Operation.TheVariants as operations
use Rattle.sbp_journal.specs.declared.operation.OpWord.TheVariants as words
use Rattle.sbp_journal.specs.declared.side.Side.TheVariants as sides
use Rattle.sbp_laws.specs.Lists as terms
use Rattle.sbp_world.proofs.Hosts.Pins.{pin_terms}
use Rattle.sbp_world.proofs.Hosts.Sweeps.{frees, rests}
use Rattle.sbp_world.proofs.Hosts.Drops.{drop_terms, seen_terms, dropped_fits, dropped_table, freed_fits}
use Rattle.sbp_world.proofs.Hosts.Ends.{op_beside}
use Rattle.sbp_world.proofs.Hosts.Listed.{behind_more, tells_beside}
use Rattle.sbp_world.proofs.Common.{itself}

-- what holds between the note of a later generation and the last of what is told then: the slots are new, nothing is pinned, and the other
-- terms are those of before
pub record Seen (i : ℕ) (old : ListTerms) (present : Option ℕ) (past : List Moment) : Type 0 where
  pub slots : terms.slots past i ≡ new_slots
  pub pinned : terms.pinned_orb past i ≡ None
  pub present_is : terms.present_list past i ≡ present
  pub begun : lists past i ≡ old.begun
  pub appended : (n : ℕ) → appends past i n ≡ old.appended n
  pub linked : (n : ℕ) → terms.linked past i n ≡ old.linked n
  pub lowered : (n : ℕ) → terms.lowered past i n ≡ old.lowered n
  pub passed : (n : ℕ) → terms.passed past i n ≡ old.passed n
  pub taken : (n k : ℕ) → terms.taken_at past i n k ≡ old.taken n k
  pub place : (n k : ℕ) → terms.slot_at past i n k ≡ old.place n k
  pub prepared : (k : ℕ) → terms.prepared_in past i k ≡ old.prepared k

-- a slot that is vacant stays so
all_vacant : (f : Row → Row) (rows : List Row) → f vacant ≡ vacant → rows ≡ new_slots → map f rows ≡ new_slots
all_vacant f rows e r = ap (map f) r ∙ ap (λ v. v ∷ v ∷ v ∷ v ∷ v ∷ v ∷ v ∷ v ∷ v ∷ v ∷ v ∷ v ∷ v ∷ v ∷ v ∷ v ∷ v ∷ v ∷ v ∷ v ∷ v ∷ v ∷ v ∷ v ∷ v ∷ v ∷ v ∷ v ∷ v ∷ v ∷ v ∷ v ∷ []) e

module _ (past : List Moment) (i : ℕ) (generation : ℕ) (new : (generation == (wire_terms past).generation (suc i)) ≡ false) where
  -- its note
  pub seen_note : Seen i (terms_at past i) (terms.present_list past i) (said (notes.Seen (suc i) generation) ∷ past)
  seen_note = record {
    slots = all_vacant _ (cond (nat_eq (suc i) (suc i) && not (generation == (wire_terms past).generation (suc i))) new_slots (terms.slots past i)) refl
        (ap (λ b. cond (b && not (generation == (wire_terms past).generation (suc i))) new_slots (terms.slots past i)) (itself (suc i))
        ∙ ap (λ b. cond (not b) new_slots (terms.slots past i)) new);
    pinned =
        ap (λ b. cond b (cond (generation == (wire_terms past).generation (suc i)) (terms.pinned_orb past i) None) (terms.pinned_orb past i)) (itself i)
        ∙ ap (λ b. cond b (terms.pinned_orb past i) None) new;
    present_is = refl;
    begun = refl;
    appended = λ n. refl;
    linked = λ n. refl;
    lowered = λ n. refl;
    passed = λ n. refl;
    taken = λ n k. refl;
    place = λ n k. refl;
    prepared = λ k. refl;
  }

module _ (i : ℕ) (old : ListTerms) (present : Option ℕ) where
  -- an operation ends
  op_pinned : (operation : Operation) (past : List Moment) → terms.pinned_orb past i ≡ None → terms.pinned_orb (said (notes.Op i operation words.Reset) ∷ past) i ≡ None
  op_pinned operations.Abort past e = ap (λ b. cond b None (terms.pinned_orb past i)) (itself i)
  op_pinned operations.Rom past e = e
  op_pinned operations.Login past e = e
  op_pinned operations.Query past e = e
  op_pinned operations.Reconnect past e = e
  op_pinned operations.Logout past e = e
  op_pinned operations.AbortSet past e = e
  op_pinned operations.UnitReset past e = e
  op_pinned operations.TargetReset past e = e
  op_pinned operations.AgentReset past e = e
  op_pinned operations.State past e = e
  op_pinned operations.Enable past e = e

  seen_op : (operation : Operation) (past : List Moment) → Seen i old present past → Seen i old present (said (notes.Op i operation words.Reset) ∷ past)
  seen_op operation past h = record {
    slots = all_vacant _ (terms.slots past i) refl h.slots;
    pinned = op_pinned operation past h.pinned;
    present_is = h.present_is;
    begun = h.begun;
    appended = h.appended;
    linked = h.linked;
    lowered = h.lowered;
    passed = h.passed;
    taken = h.taken;
    place = h.place;
    prepared = h.prepared;
  }

  -- the list is dropped
  rest_new : (rows : List Row) → rows ≡ new_slots → map put_to_rest rows ≡ new_slots
  rest_new rows r = ap (map put_to_rest) r

  pub seen_drop : (n : ℕ) (past : List Moment) → Seen i old present past → Seen i old None (said (notes.Drop i n) ∷ past)
  seen_drop n past h = record {
    slots = all_vacant _ (cond (nat_eq i i) (map put_to_rest (terms.slots past i)) (terms.slots past i)) refl (ap (λ b. cond b (map put_to_rest (terms.slots past i)) (terms.slots past i)) (itself i) ∙ rest_new (terms.slots past i) h.slots);
    pinned = h.pinned;
    present_is = ap (λ b. cond b None (terms.present_list past i)) (itself i);
    begun = h.begun;
    appended = h.appended;
    linked = h.linked;
    lowered = h.lowered;
    passed = h.passed;
    taken = h.taken;
    place = h.place;
    prepared = h.prepared;
  }

  -- ---- what is told of operations
  abbrev Behind : List Moment → OutboxState → Type 0
  Behind past o = Seen i old present (behind o.sides past)

  reset_seen : (past : List Moment) (operation : Operation) (o : OutboxState) → Behind past o → Behind past (reset_told i operation o)
  reset_seen past operation o h =
      subst (Seen i old present) (sym (behind_more o.sides (sides.Own (notes.Op i operation words.Reset)) past)) (seen_op operation (behind o.sides past) h)

  states_seen : (past : List Moment) (acts : List ℕ) (o : OutboxState) → Behind past o → Behind past (states_end i acts o)
  states_seen past [] o h = h
  states_seen past (act ∷ acts) o h = states_seen past acts (reset_told i operations.State o) (reset_seen past operations.State o h)

  pick_seen : (b : Bool) (past : List Moment) (o p : OutboxState) → Behind past o → Behind past p → Behind past (cond b o p)
  pick_seen true past o p h k = h
  pick_seen false past o p h k = k

  all_seen : (past : List Moment) (running : Running) (acts : List ℕ) (o : OutboxState) → Behind past o → Behind past (all_end i running acts o)
  all_seen past running [] o h = reset_seen past running.operation o h
  all_seen past running (act ∷ acts) o h =
      pick_seen (nat_lt running.act act) past (states_end i (act ∷ acts) (reset_told i running.operation o)) (all_end i running acts (reset_told i operations.State o))
      (states_seen past (act ∷ acts) (reset_told i running.operation o) (reset_seen past running.operation o h))
      (all_seen past running acts (reset_told i operations.State o) (reset_seen past operations.State o h))

  resets_seen : (past : List Moment) (operation : Option Running) (acts : List ℕ) (o : OutboxState) → Behind past o → Behind past (resets_told i operation acts o)
  resets_seen past None acts o h = states_seen past acts o h
  resets_seen past (Some running) acts o h = all_seen past running acts o h

-- ---- at the end all slots are free

fits_of : (i : ℕ) (t : ListTerms) (past : List Moment) (s : SlotTable) → Rows (seen_terms t) new_slots s → Seen i t None past → AreRows past i s
fits_of i t past s r h = record {
  fits = record {
    size = r.fits.size;
    present = h.present_is ∙ r.fits.present;
    begun = h.begun ∙ r.fits.begun;
    pinned = h.pinned ∙ r.fits.pinned;
    held = r.fits.held;
    prepared = λ k b. h.prepared k ∙ r.fits.prepared k b;
    last = λ k b. last_of k (slot_in s.slots k).last (r.fits.last k b);
    states = λ k b. state_of (slot_in s.slots k).state (slot_in s.slots k).last (r.fits.states k b);
    list = list_of s.present (r.fits.present) r.fits.list;
    to_come = record {
      appended = λ n b. h.appended n ∙ r.fits.to_come.appended n b;
      linked = λ n b. h.linked n ∙ r.fits.to_come.linked n b;
      lowered = λ n b. h.lowered n ∙ r.fits.to_come.lowered n b;
      passed = λ n b. h.passed n ∙ r.fits.to_come.passed n b;
      taken = λ n k b. h.taken n k ∙ r.fits.to_come.taken n k (subst (λ x. x ≤ k) (h.appended n) b);
    };
  };
  rows_are = h.slots ∙ r.rows_are;
  swept = r.swept;
}
  where
    last_of : (k : ℕ) (last : Option TicketParts) → IfLast s.lists t.appended t.place k last → IfLast s.lists (appends past i) (terms.slot_at past i) k last
    last_of k None l = tt
    last_of k (Some u) l = record { slot = l.slot; list = l.list; below = subst (λ x. u.number < x) (sym (h.appended u.list)) l.below; at = h.place u.list u.number ∙ l.at }

    state_of : (state : SlotState) (last : Option TicketParts) → StateFits s.present t.taken state last → StateFits s.present (terms.taken_at past i) state last
    state_of states.Free last x = tt
    state_of states.Resting last x = tt
    state_of states.Waiting None x = absurd x
    state_of states.Waiting (Some u) x = (x.0, h.taken u.list u.number ∙ x.1)
    state_of (states.Taken had_next) None x = absurd x
    state_of (states.Taken had_next) (Some u) x = (x.0, record { taken = x.1.taken; is = h.taken u.list u.number ∙ x.1.is; resp = x.1.resp; src = x.1.src })

    list_of : (present : Option PresentList) → None ≡ present_in present → IfList (seen_terms t) s.slots s.lists present → IfList (terms_at past i) s.slots s.lists present
    list_of None e l = tt
    list_of (Some list) e l = absurd (none e)
      where
        none : None ≡ Some list.tail.list → ⊥
        none e = cc

-- ---- a generation is seen

-- what is told then says nothing of the lists of another initiator
module _ (past : List Moment) (i : ℕ) where
  reset_beside : (operation : Operation) (o : OutboxState) → Beside past i o.sides → Beside past i (reset_told i operation o).sides
  reset_beside operation o h = tells_beside past i o (notes.Op i operation words.Reset) (λ j e. op_beside past operation words.Reset j i e) h

  states_beside : (acts : List ℕ) (o : OutboxState) → Beside past i o.sides → Beside past i (states_end i acts o).sides
  states_beside [] o h = h
  states_beside (act ∷ acts) o h = states_beside acts (reset_told i operations.State o) (reset_beside operations.State o h)

  pick_beside : (b : Bool) (o p : OutboxState) → Beside past i o.sides → Beside past i p.sides → Beside past i (cond b o p).sides
  pick_beside true o p h k = h
  pick_beside false o p h k = k

  all_beside : (running : Running) (acts : List ℕ) (o : OutboxState) → Beside past i o.sides → Beside past i (all_end i running acts o).sides
  all_beside running [] o h = reset_beside running.operation o h
  all_beside running (act ∷ acts) o h =
      pick_beside (nat_lt running.act act) (states_end i (act ∷ acts) (reset_told i running.operation o)) (all_end i running acts (reset_told i operations.State o))
      (states_beside (act ∷ acts) (reset_told i running.operation o) (reset_beside running.operation o h))
      (all_beside running acts (reset_told i operations.State o) (reset_beside operations.State o h))

  resets_beside : (operation : Option Running) (acts : List ℕ) (o : OutboxState) → Beside past i o.sides → Beside past i (resets_told i operation acts o).sides
  resets_beside None acts o h = states_beside acts o h
  resets_beside (Some running) acts o h = all_beside running acts o h

none_pins : (operation : Option Running) → operation ≡ None → Pins operation None
none_pins None e = refl
none_pins (Some running) e = absurd (some_none e)
  where
    some_none : Some running ≡ None → ⊥
    some_none e = cc

-- what is behind a drop
dropped_fits_any : (past : List Moment) (i : ℕ) (t : ListTerms) (o : OutboxState) (s : InitiatorState) (found : Option PresentList) → Beside past i o.sides → s.operation ≡ None → s.number ≡ i → s.lists.slots.present ≡ found → Fits t s.lists.slots → Seen i t (present_in found) (behind o.sides past) → Listed past (freed_step (dropped_as ((table.drop_for found s.lists.slots).0, with_slots s.lists (table.drop_for found s.lists.slots).1) o s))
unfolding free_lists table.free_all_step
dropped_fits_any past i t o s None d w n e f h = record {
  rows = subst (λ j. AreRows (behind o.sides past) j (table.all_freed s.lists.slots)) (sym n) (fits_of i t (behind o.sides past) (table.all_freed s.lists.slots) (freed_fits t s.lists.slots f) h);
  pin = none_pins s.operation w;
  beside = subst (λ j. Beside past j o.sides) (sym n) d;
}
dropped_fits_any past i t o s (Some list) d w n e f h = record {
  rows = subst (λ j. AreRows (behind (told o (notes.Drop s.number list.tail.list)).sides past) j (table.all_freed (table.drop_for (Some list) s.lists.slots).1)) (sym n)
      (subst (λ j. AreRows (behind (told o (notes.Drop j list.tail.list)).sides past) i (table.all_freed (table.drop_for (Some list) s.lists.slots).1)) (sym n)
      (subst (λ ms. AreRows ms i (table.all_freed (table.drop_for (Some list) s.lists.slots).1)) (sym (behind_more o.sides (sides.Own (notes.Drop i list.tail.list)) past))
      (fits_of i t (said (notes.Drop i list.tail.list) ∷ behind o.sides past) (table.all_freed (table.drop_for (Some list) s.lists.slots).1) (freed_fits (drop_terms true t) (dropped_table s.lists.slots) (dropped_fits t s.lists.slots f)) (seen_drop i t (Some list.tail.list) list.tail.list (behind o.sides past) h))));
  pin = none_pins s.operation w;
  beside = tells_beside past s.number o (notes.Drop s.number list.tail.list) (λ j g. ap not g) (subst (λ j. Beside past j o.sides) (sym n) d);
}

-- A later generation, from its note on.
pub sees_new : (past : List Moment) (generation : ℕ) (target : ℕ) (s : InitiatorState) → (generation == (wire_terms past).generation (suc s.number)) ≡ false → Listed past (empty_outbox, s) → Listed (said (notes.Seen (suc s.number) generation) ∷ past) (reset_step target empty_outbox s)
unfolding drop_lists table.drop_step
sees_new past generation target s new h =
    let now = said (notes.Seen (suc s.number) generation) ∷ past in
    let i = s.number in
    let t = terms_at past i in
    let first = seen_note past i generation new in
    let o = resets_told i s.operation s.states empty_outbox in
    let told = resets_seen i t (terms.present_list past i) now s.operation s.states empty_outbox first in
    dropped_fits_any now i t o (interrupted s target) s.lists.slots.present (resets_beside now i s.operation s.states empty_outbox (λ j x e r. r)) refl refl refl h.rows.fits
    (subst (λ p. Seen i t p (behind o.sides now)) h.rows.fits.present told)

-- One that is not later: what is pinned stays so.
module _ (past : List Moment) (i generation : ℕ) (s : SlotTable) (r : AreRows past i s) where
  abbrev now : List Moment
  now = said (notes.Seen (suc i) generation) ∷ past

  old_as : (b c : Bool) (f : Row → Row) → Frees (over_at (pin_terms b (terms.pinned_orb past i) (terms_at past i))) f → Rows (pin_terms b (terms.pinned_orb past i) (terms_at past i)) (map f (cond (c && not true) new_slots (terms.slots past i))) s
  old_as true true f h = rests (terms_at past i) s (terms.slots past i) f h r
  old_as true false f h = rests (terms_at past i) s (terms.slots past i) f h r
  old_as false true f h = rests (terms_at past i) s (terms.slots past i) f h r
  old_as false false f h = rests (terms_at past i) s (terms.slots past i) f h r

  pub sees_old : (generation == (wire_terms past).generation (suc i)) ≡ true → AreRows now i s
  sees_old same =
      subst (λ d. Frees (over_at (pin_terms (nat_eq i i) (cond d (terms.pinned_orb past i) None) (terms_at past i))) (terms.freed now i) → Rows (pin_terms (nat_eq i i) (cond d (terms.pinned_orb past i) None) (terms_at past i)) (map (terms.freed now i) (cond (nat_eq (suc i) (suc i) && not d) new_slots (terms.slots past i))) s) (sym same)
      (λ h. old_as (nat_eq i i) (nat_eq (suc i) (suc i)) (terms.freed now i) h) (frees now i)

turned : (a b : Bool) → a ≡ not b → b ≡ not a
turned true true e = cc
turned true false e = refl
turned false true e = refl
turned false false e = cc

sees_as : (past : List Moment) (generation target : ℕ) (s : InitiatorState) (r : Bool × Layer Purpose) → r.0 ≡ not (generation == (wire_terms past).generation (suc s.number)) → Listed past (empty_outbox, s) → Listed (said (notes.Seen (suc s.number) generation) ∷ past) (seen_as r target empty_outbox s)
sees_as past generation target s (true, layer) e h =
    sees_new past generation target (record s { layer = layer }) (turned true (generation == (wire_terms past).generation (suc s.number)) e) (record { rows = h.rows; pin = h.pin; beside = h.beside })
sees_as past generation target s (false, layer) e h = record {
  rows = sees_old past s.number generation s.lists.slots h.rows (turned false (generation == (wire_terms past).generation (suc s.number)) e);
  pin = h.pin;
  beside = λ j x e r. r;
}

pub sees_listed : (past : List Moment) (generation id target : ℕ) (s : InitiatorState) → (seeing_step s.layer generation id).0 ≡ not (generation == (wire_terms past).generation (suc s.number)) → Listed past (empty_outbox, s) → Listed (said (notes.Seen (suc s.number) generation) ∷ past) (see_step generation id target empty_outbox s)
unfolding see_step
sees_listed past generation id target s e h = sees_as past generation target s (seeing_step s.layer generation id) e h
