-- What a world counts is what its history says: notes, packets, and what the target tells.
use Rattle.sbp_world.proofs.Words.Std.{slice_set, slice_index_or, ◌≡◌, arith, refl, sym, ◌∙◌, ap, subst, nat_eq, nat_tests, get_or-set_at, get_or-set_other, upd}
use Rattle.sbp_world.proofs.Words.Wire.{LabelParts, is_flying, deliver_step, Moment, said, OutboxState, CutCause, Note, Outgoing, Side, Holder, node_of, cut_step, of_initiator, cut_loads, list_in, function_word}
use Rattle.sbp_world.proofs.Words.Target.{NodeState}
use Rattle.sbp_world.proofs.Words.Initiator.{slot_of, TicketParts, InitiatorState, Turn, new_state, last_at, last_in}
use Rattle.sbp_world.proofs.Words.World.{marked, handed_out, asked, posted, sent, sent_all, sent_to, holder, initiator_of, told, told_all, ticket_of, WorldState, initiator_at, with_note, with_target}
use Rattle.std.specs.Prelude.{ℕ, ◌+◌, ◌<◌, ◌||◌, not, nat_lt, Bool, true, false, cond, List, [], ◌∷◌, length, Option, Some, None}
use Rattle.std.proofs.lemmas.List.{length-set}
use Rattle.sbp_journal.specs.declared.note.Note.TheVariants as notes
use Rattle.sbp_journal.specs.declared.side.Side.TheVariants as sides
use Rattle.sbp_world.proofs.Wire.Alike.{told_alike}
use Rattle.sbp_world.proofs.Wire.Counted.{AreHeld, CountedAt, counted_places, counted_same, says_cut}
use Rattle.sbp_world.proofs.Wire.Effects.{AreOtherSides, IsOtherSide}
use Rattle.sbp_world.proofs.Wire.Held.{decided_held, leaves_held, opens_held}
use Rattle.sbp_world.proofs.Wire.OwnCounts.{Own, history, is_counted}
use Rattle.sbp_world.proofs.Wire.Slotted.{SlottedIn, last_small, present_key}

-- ---- the lists of the initiators
abbrev pub state_at : List InitiatorState → ℕ → InitiatorState
state_at states i = slice_index_or states i (new_state 0 false)

abbrev pub begun_in : List InitiatorState → ℕ → ℕ
begun_in states i = (state_at states i).lists.slots.lists

abbrev pub keys_in : List InitiatorState → ℕ → Option (ℕ × ℕ)
keys_in states i = present_key (state_at states i).lists.slots.present

abbrev pub CountsIn : List InitiatorState → ℕ → List Moment → WorldState → Type 0
CountsIn states most h w = CountedAt (length states) (begun_in states) (keys_in states) most h w.places w.loads

pub record AreSlotted (states : List InitiatorState) : Type 0 where
  pub slotted : (i : ℕ) → i < length states → SlottedIn (state_at states i).lists.slots
  pub numbers : (i : ℕ) → i < length states → (state_at states i).number ≡ i

-- a world, behind what stood before
pub record Balanced (past : List Moment) (most : ℕ) (w : WorldState) : Type 0 where
  pub counted : CountsIn w.initiators most (history w past) w
  pub states : AreSlotted w.initiators

module _ (past : List Moment) (most : ℕ) where
  -- ---- a note that is not counted
  plain_stays : (states : List InitiatorState) (note : Note) (w : WorldState) → is_counted note ≡ false → CountsIn states most (history w past) w → CountsIn states most (said note ∷ history w past) w
  plain_stays states (notes.Append i m k cdb buffer) w e c = cc
  plain_stays states (notes.Taken i m k status answer) w e c = cc
  plain_stays states (notes.Drop i m) w e c = cc
  plain_stays states (notes.Cut i m cause) w e c = cc
  plain_stays states note w e c = c

  pub notes_balance : (note : Note) (w : WorldState) → is_counted note ≡ false → Balanced past most w → Balanced past most (with_note note w)
  notes_balance note w e b = record { counted = plain_stays w.initiators note w e b.counted; states = b.states }

  -- ---- packets
  asked_balances : (serial to node peer : ℕ) (label : Option LabelParts) (w : WorldState) → Balanced past most w → Balanced past most (asked serial to node peer label w)
  asked_balances serial to node peer None w b = b
  asked_balances serial to node peer (Some label) w b = record { counted = b.counted; states = b.states }

  pub posts_balance : (from to : ℕ) (injected : Bool) (bytes : List ℕ) (w : WorldState) → Balanced past most w → Balanced past most (posted from to injected bytes w)
  unfolding posted
  posts_balance from to true bytes w b = record { counted = b.counted; states = b.states }
  posts_balance from to false bytes w b = record { counted = b.counted; states = b.states }

  to_balances : (to : Option ℕ) (from : ℕ) (packet : Outgoing) (w : WorldState) → Balanced past most w → Balanced past most (sent_to to from packet w)
  to_balances None from packet w b = b
  to_balances (Some to) from packet w b =
      asked_balances (w.store.last + 1) to from packet.to packet.label (posted from to false packet.bytes w) (posts_balance from to false packet.bytes w b)

  sent_balances : (from : ℕ) (packet : Outgoing) (w : WorldState) → Balanced past most w → Balanced past most (sent from packet w)
  unfolding sent
  sent_balances from packet w b = to_balances (node_of w.generations from packet.to) from packet w b

  pub all_sent_balance : (from : ℕ) (packets : List Outgoing) (w : WorldState) → Balanced past most w → Balanced past most (sent_all from packets w)
  unfolding sent_all
  all_sent_balance from [] w b = b
  all_sent_balance from (packet ∷ later) w b = all_sent_balance from later (sent from packet w) (sent_balances from packet w b)

  pub marks_balance : (serial : ℕ) (again : Bool) (w : WorldState) → Balanced past most w → Balanced past most (marked serial again w)
  marks_balance serial again w b = by (again || not (is_flying serial w.store.kept))
    where
      by : (c : Bool) → Balanced past most (cond c w (record w { store = deliver_step w.store serial }))
      by true = b
      by false = record { counted = b.counted; states = b.states }

  -- ---- what the target tells
  placed : (w : WorldState) (places : List (Option Holder)) → AreHeld (length w.initiators) (begun_in w.initiators) places → Balanced past most w → Balanced past most (record w { places = places })
  placed w places h b = record {
    counted = counted_places (length w.initiators) (begun_in w.initiators) (keys_in w.initiators) most (history w past) w.places places w.loads h b.counted;
    states = b.states;
  }

  some_list : (o : Option TicketParts) (m : ℕ) → list_in o ≡ Some m → (t : TicketParts) × ((o ≡ Some t) × (t.list ≡ m))
  some_list None m e = absurd (differ e)
    where
      differ : None ≡ Some m → ⊥
      differ e = cc
  some_list (Some t) m e = (t, (refl, is e))
    where
      is : Some t.list ≡ Some m → t.list ≡ m
      is e = cc

  last_begun : (s : InitiatorState) → SlottedIn s.lists.slots → (slot : Option ℕ) (t : TicketParts) → last_in s.lists slot ≡ Some t → t.list < s.lists.slots.lists
  last_begun s h None t e = absurd (differ e)
    where
      differ : None ≡ Some t → ⊥
      differ e = cc
  last_begun s h (Some slot) t e = h.last slot t (last_small s.lists.slots.slots slot t h.size e) e

  -- the list of an ORB that an initiator named was begun
  ticket_begun : (w : WorldState) (i orb m : ℕ) → AreSlotted w.initiators → list_in (ticket_of w i orb) ≡ Some m → (i < length w.initiators) × (m < begun_in w.initiators i)
  ticket_begun w i orb m a e = by (nat_lt i (length w.initiators)) refl e
    where
      by : (b : Bool) → nat_lt i (length w.initiators) ≡ b → list_in (cond b (last_at (initiator_at w i).lists orb) None) ≡ Some m → (i < length w.initiators) × (m < begun_in w.initiators i)
      by true f e =
          let inside : i < length w.initiators = grind (arith, nat_tests) in
          let t = some_list (last_at (initiator_at w i).lists orb) m e in
          (inside, subst (λ x. x < begun_in w.initiators i) t.1.1 (last_begun (initiator_at w i) (a.slotted i inside) (slot_of orb) t.0 t.1.0))
      by false f e = absurd (differ e)
        where
          differ : None ≡ Some m → ⊥
          differ e = cc

  same_upd : {A : Type 0} (f : ℕ → A) (i j : ℕ) → f j ≡ upd f i (f i) j
  same_upd f i j = by (nat_eq j i) refl
    where
      by : (b : Bool) → nat_eq j i ≡ b → f j ≡ cond b (f i) (f j)
      by true e = let g : j ≡ i = grind (arith, nat_tests) in ap f g
      by false e = refl

  cut_balances : (place : ℕ) (cause : CutCause) (list : Option ℕ) (w : WorldState) → (holder w place).list ≡ list → Balanced past most w → Balanced past most (with_note (notes.Cut (holder w place).initiator list cause) (record w { loads = cut_loads list (holder w place).initiator w.loads }))
  cut_balances place cause None w e b = record { counted = b.counted; states = b.states }
  cut_balances place cause (Some m) w e b =
      let i = (holder w place).initiator in
      let n = length w.initiators in
      let begun = begun_in w.initiators in
      let keys = keys_in w.initiators in
      let a = b.counted.held place m e in
      let c = says_cut n begun keys most (history w past) w.places w.loads b.counted i a.0 m cause a.1 in
      record {
        counted = counted_same n (upd begun i (begun i)) begun (upd keys i (keys i)) keys most (said (notes.Cut i (Some m) cause) ∷ history w past) w.places (of_initiator i (cut_step m) w.loads)
            (same_upd begun i) (same_upd keys i) c;
        states = b.states;
      }

  one_told : (weight : ℕ) (side : Side) (w : WorldState) → IsOtherSide side → Balanced past most w → Balanced past most (told weight side w)
  unfolding told
  one_told weight (sides.Own note) w o b = absurd o
  one_told weight (sides.Opened place orb) w o b =
      placed w _ (opens_held (length w.initiators) (begun_in w.initiators) place (list_in (ticket_of w (holder w place).initiator orb)) w.places
      (λ m e. ticket_begun w (holder w place).initiator orb m b.states e) b.counted.held) b
  one_told weight (sides.Ran place orb cdb payload outcome) w o b = notes_balance _ w refl b
  one_told weight (sides.Ended place orb status) w o b = notes_balance _ w refl b
  one_told weight (sides.Dead place cause) w o b = notes_balance _ w refl b
  one_told weight (sides.Cut place cause) w o b = cut_balances place cause (holder w place).list w refl b
  one_told weight (sides.Managed node function subject status login) w o b =
      notes_balance _ _ refl (placed w _ (decided_held (length w.initiators) (begun_in w.initiators) status (function_word function) subject login (initiator_of w node) w.places b.counted.held) b)
  one_told weight (sides.ManageFailed node cause) w o b = notes_balance _ w refl b
  one_told weight (sides.Held login) w o b = notes_balance _ w refl b
  one_told weight (sides.Expired login) w o b = notes_balance _ _ refl (placed w _ (leaves_held (length w.initiators) (begun_in w.initiators) login w.places b.counted.held) b)
  one_told weight (sides.Back login) w o b = notes_balance _ w refl b
  one_told weight (sides.Left login) w o b = notes_balance _ _ refl (placed w _ (leaves_held (length w.initiators) (begun_in w.initiators) login w.places b.counted.held) b)
  one_told weight (sides.Cleared unit) w o b = notes_balance _ w refl b
  one_told weight (sides.Unsolicited place) w o b = notes_balance _ w refl b
  one_told weight (sides.Unsent place) w o b = notes_balance _ w refl b

  all_told : (weight : ℕ) (told_now : List Side) (w : WorldState) → AreOtherSides told_now → Balanced past most w → Balanced past most (told_all weight told_now w)
  unfolding told_all
  all_told weight [] w o b = b
  all_told weight (side ∷ later) w o b = all_told weight later (told weight side w) o.1 (one_told weight side w o.0 b)

  -- the target hands out what it told and sent
  pub target_balances : (node weight : ℕ) (outbox : OutboxState) (state : NodeState) (w : WorldState) → AreOtherSides outbox.sides → Balanced past most w → Balanced past most (handed_out node weight outbox (with_target state w))
  target_balances node weight outbox state w o b =
      all_sent_balance node outbox.packets (told_all weight outbox.sides (with_target state w))
      (all_told weight outbox.sides (with_target state w) o (record { counted = b.counted; states = b.states }))

  -- ---- what an initiator hands out
  set_here : (states : List InitiatorState) (i j : ℕ) (state : InitiatorState) → nat_eq j i ≡ true → i < length states → state_at (slice_set states i state) j ≡ state
  set_here states i j state e l = get_or-set_at states i j state (new_state 0 false) (grind (arith, nat_tests)) l

  set_there : (states : List InitiatorState) (i j : ℕ) (state : InitiatorState) → nat_eq j i ≡ false → state_at (slice_set states i state) j ≡ state_at states j
  set_there states i j state e = get_or-set_other states i j state (new_state 0 false) (λ x. apart x e)
    where
      apart : j ≡ i → nat_eq j i ≡ false → ⊥
      apart x f = let y : nat_eq j i ≡ true = grind (arith, nat_tests) in cc

  set_slotted : (states : List InitiatorState) (i : ℕ) (state : InitiatorState) → i < length states → SlottedIn state.lists.slots → state.number ≡ i → AreSlotted states → AreSlotted (slice_set states i state)
  set_slotted states i state l h e a = record {
    slotted = λ j m. slotted_by j (subst (λ x. j < x) (length-set states i state) m) (nat_eq j i) refl;
    numbers = λ j m. numbers_by j (subst (λ x. j < x) (length-set states i state) m) (nat_eq j i) refl;
  }
    where
      slotted_by : (j : ℕ) → j < length states → (b : Bool) → nat_eq j i ≡ b → SlottedIn (state_at (slice_set states i state) j).lists.slots
      slotted_by j m true f = subst (λ (s : InitiatorState). SlottedIn s.lists.slots) (sym (set_here states i j state f l)) h
      slotted_by j m false f = subst (λ (s : InitiatorState). SlottedIn s.lists.slots) (sym (set_there states i j state f)) (a.slotted j m)

      numbers_by : (j : ℕ) → j < length states → (b : Bool) → nat_eq j i ≡ b → (state_at (slice_set states i state) j).number ≡ j
      numbers_by j m true f = ap (λ (s : InitiatorState). s.number) (set_here states i j state f l) ∙ (e ∙ (let x : i ≡ j = grind (arith, nat_tests) in x))
      numbers_by j m false f = ap (λ (s : InitiatorState). s.number) (set_there states i j state f) ∙ a.numbers j m

  set_words : {A : Type 0} (f : InitiatorState → A) (states : List InitiatorState) (i : ℕ) (state : InitiatorState) → i < length states → (j : ℕ) → f (state_at (slice_set states i state) j) ≡ upd (λ k. f (state_at states k)) i (f state) j
  set_words f states i state l j = by (nat_eq j i) refl
    where
      by : (b : Bool) → nat_eq j i ≡ b → f (state_at (slice_set states i state) j) ≡ cond b (f state) (f (state_at states j))
      by true e = ap f (set_here states i j state e l)
      by false e = ap f (set_there states i j state e)

  -- the world once an initiator told this; before it had other states, and its own call is under way
  pub own_balances : (w : WorldState) (states : List InitiatorState) (i from weight : ℕ) (t : Turn) (inside : i < length states) → w.initiators ≡ slice_set states i t.1 → AreSlotted states → Own past weight w i (length states) inside (begun_in states) (keys_in states) most t.0.sides t.1.number t.1.lists.slots → Balanced past most (handed_out from weight t.0 w)
  own_balances w states i from weight t inside e a own =
      let x = told_all weight t.0.sides w in
      let same : x.initiators ≡ slice_set states i t.1 = (told_alike weight t.0.sides w).initiators ∙ e in
      let now = slice_set states i t.1 in
      let c = counted_same (length states) (upd (begun_in states) i t.1.lists.slots.lists) (begun_in now) (upd (keys_in states) i (present_key t.1.lists.slots.present)) (keys_in now) most (history x past) x.places x.loads
      (set_words (λ (s : InitiatorState). s.lists.slots.lists) states i t.1 inside) (set_words (λ (s : InitiatorState). present_key s.lists.slots.present) states i t.1 inside) own.counted in
      all_sent_balance from t.0.packets x (record {
        counted = subst (λ xs. CountsIn xs most (history x past) x) (sym same)
            (subst (λ n. CountedAt n (begun_in now) (keys_in now) most (history x past) x.places x.loads) (sym (length-set states i t.1)) c);
        states = subst AreSlotted (sym same) (set_slotted states i t.1 inside own.slotted own.number_is a);
      })

  -- a call begins
  pub own_begins : (w : WorldState) (states : List InitiatorState) (i weight : ℕ) (inside : i < length states) → AreSlotted states → CountsIn states most (history w past) w → Own past weight w i (length states) inside (begun_in states) (keys_in states) most [] (state_at states i).number (state_at states i).lists.slots
  unfolding told_all
  own_begins w states i weight inside a c = record {
    number_is = a.numbers i inside;
    counted = counted_same (length states) (begun_in states) (upd (begun_in states) i (begun_in states i)) (keys_in states) (upd (keys_in states) i (keys_in states i)) most (history w past) w.places w.loads
        (λ j. sym (same_upd (begun_in states) i j)) (λ j. sym (same_upd (keys_in states) i j)) c;
    slotted = a.slotted i inside;
    line = refl;
  }
