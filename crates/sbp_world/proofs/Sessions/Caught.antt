-- A node that has caught up with the target: it has an ID, as the target knows the nodes, and is in the target's generation or in a later one. What is kept
-- of a world is that the target knows such nodes alone, and that an initiator whose session is live or is being left, or that has a list, is in a generation that
-- the target has seen.
use Rattle.sbp_world.proofs.Words.Std.{is_some, arith, ◌≡◌, ◌∙◌, refl, sym, ap, subst, ℕ, suc, ◌<◌, ◌≤◌, ◌&&◌, nat_eq, nat_lt, nat_le, Bool, true, false, List, length, Option, Some, None, slice_index_or, nat_tests, get_or-set_other, set_past, get_or-set_at, false≢true}
use Rattle.sbp_world.proofs.Words.Wire.{GenerationsState, node_of, topology_at, OutboxState}
use Rattle.sbp_world.proofs.Words.Target.{NodeState}
use Rattle.sbp_world.proofs.Words.Initiator.{LoginResponse, ListState, InitiatorState, new_state, Origin, Seat, Event, bad, conflict, entered, failed, from_entering, from_held, from_out, from_returning, from_stuck, goes, good, pointed, pointing, reset, sent}
use Rattle.sbp_world.proofs.Words.World.{Holds, handed_out, WorldState, initiator_at, with_initiator}
use Rattle.sbp_session.specs.declared.seat.Origin.TheVariants as origins
use Rattle.sbp_session.specs.declared.seat.Seat.TheVariants as seats
use Rattle.sbp_world.proofs.Wire.Alike.{IsAlike, alike_then}
use Rattle.sbp_world.proofs.Wire.Found.{has_id}
use Rattle.sbp_world.proofs.Wire.Nodes.{handed_alike}
use Rattle.sbp_world.proofs.Sessions.Presents.{Fewer}
use Rattle.sbp_world.proofs.Sessions.Sessions.{is_plain}

-- ---- a node that has caught up
abbrev pub up_by : GenerationsState → Option ℕ → Bool
up_by g None = false
up_by g (Some node) = nat_le (topology_at g 0).generation (topology_at g node).generation

abbrev pub is_up : GenerationsState → ℕ → Bool
is_up g id = has_id (topology_at g 0) id && up_by g (node_of g 0 id)

abbrev pub Up : GenerationsState → ℕ → Type 0
Up g id = is_up g id ≡ true

pub up_parts : (a b : Bool) → (a && b) ≡ true → (a ≡ true) × (b ≡ true)
up_parts true true e = (refl, refl)
up_parts true false e = absurd (false≢true e)
up_parts false b e = absurd (false≢true e)

pub up_known : (g : GenerationsState) (id : ℕ) → Up g id → has_id (topology_at g 0) id ≡ true
up_known g id u = (up_parts (has_id (topology_at g 0) id) (up_by g (node_of g 0 id)) u).0

pub up_flag : (g : GenerationsState) (id : ℕ) → Up g id → up_by g (node_of g 0 id) ≡ true
up_flag g id u = (up_parts (has_id (topology_at g 0) id) (up_by g (node_of g 0 id)) u).1

le_of : (m n : ℕ) → nat_le m n ≡ true → m ≤ n
le_of m n e = grind (arith, nat_tests)

of_le : (m n : ℕ) → m ≤ n → nat_le m n ≡ true
of_le m n e = grind (arith, nat_tests)

pub up_later : (g : GenerationsState) (id node : ℕ) → Up g id → node_of g 0 id ≡ Some node → (topology_at g 0).generation ≤ (topology_at g node).generation
up_later g id node u e =
    le_of (topology_at g 0).generation (topology_at g node).generation
    (sym (ap (up_by g) e) ∙ (up_parts (has_id (topology_at g 0) id) (up_by g (node_of g 0 id)) u).1)

pub up_of : (g : GenerationsState) (id node : ℕ) → has_id (topology_at g 0) id ≡ true → node_of g 0 id ≡ Some node → (topology_at g 0).generation ≤ (topology_at g node).generation → Up g id
up_of g id node k e l =
    let f : up_by g (node_of g 0 id) ≡ true = ap (up_by g) e ∙ of_le (topology_at g 0).generation (topology_at g node).generation l in
    ap (λ (b : Bool). has_id (topology_at g 0) id && b) f ∙ ap (λ (b : Bool). b && true) k

-- ---- a session that is live or is being left
abbrev pub is_in : Seat → Bool
is_in (seats.Live live) = true
is_in (seats.Leaving response) = true
is_in _ = false

-- where a session is so, or a list is present, something is the case
pub record Sits (Case : Type 0) (seat : Seat) (lists : ListState) : Type 0 where
  pub joined : is_in seat ≡ true → Case
  pub listed : is_some lists.slots.present ≡ true → Case

pub sits_any : (Case : Type 0) (seat : Seat) (lists : ListState) → Case → Sits Case seat lists
sits_any Case seat lists c = record { joined = λ e. c; listed = λ e. c }

pub sits_to : (A B : Type 0) (seat : Seat) (lists : ListState) → (A → B) → Sits A seat lists → Sits B seat lists
sits_to A B seat lists f h = record { joined = λ e. f (h.joined e); listed = λ e. f (h.listed e) }

pub sits_relist : (Case : Type 0) (seat : Seat) (old new : ListState) → Fewer old new → Sits Case seat old → Sits Case seat new
sits_relist Case seat old new f h = record { joined = h.joined; listed = λ e. h.listed (f e) }

out_stays : (event : Event) → is_in (from_out event) ≡ false
out_stays sent = refl
out_stays (entered response) = refl
out_stays good = refl
out_stays bad = refl
out_stays conflict = refl
out_stays pointing = refl
out_stays pointed = refl
out_stays reset = refl
out_stays failed = refl

entering_stays : (event : Event) → is_plain event ≡ true → is_in (from_entering event) ≡ false
entering_stays sent p = refl
entering_stays (entered response) p = absurd (false≢true p)
entering_stays good p = absurd (false≢true p)
entering_stays bad p = refl
entering_stays conflict p = refl
entering_stays pointing p = refl
entering_stays pointed p = refl
entering_stays reset p = refl
entering_stays failed p = refl

held_stays : (event : Event) (response : LoginResponse) → is_in (from_held event response) ≡ false
held_stays sent response = refl
held_stays (entered other) response = refl
held_stays good response = refl
held_stays bad response = refl
held_stays conflict response = refl
held_stays pointing response = refl
held_stays pointed response = refl
held_stays reset response = refl
held_stays failed response = refl

returning_stays : (event : Event) (response : LoginResponse) → is_plain event ≡ true → is_in (from_returning event response) ≡ false
returning_stays sent response p = refl
returning_stays (entered other) response p = absurd (false≢true p)
returning_stays good response p = absurd (false≢true p)
returning_stays bad response p = refl
returning_stays conflict response p = refl
returning_stays pointing response p = refl
returning_stays pointed response p = refl
returning_stays reset response p = refl
returning_stays failed response p = refl

unstuck : (origin : Origin) → is_in (from_stuck reset origin) ≡ false
unstuck (origins.Out out) = refl
unstuck (origins.Entering entering) = refl
unstuck (origins.Live live) = refl
unstuck (origins.Held response) = refl
unstuck (origins.Returning response) = refl
unstuck (origins.Leaving response) = refl

stuck_stays : (event : Event) (origin : Origin) → is_in (from_stuck event origin) ≡ false
stuck_stays sent origin = refl
stuck_stays (entered response) origin = refl
stuck_stays good origin = refl
stuck_stays bad origin = refl
stuck_stays conflict origin = refl
stuck_stays pointing origin = refl
stuck_stays pointed origin = refl
stuck_stays reset origin = unstuck origin
stuck_stays failed origin = refl

plain_in : (Case : Type 0) (event : Event) (seat : Seat) → is_plain event ≡ true → (is_in seat ≡ true → Case) → is_in (goes event seat) ≡ true → Case
unfolding goes
plain_in Case event (seats.Out out) p h e = absurd (false≢true (sym (out_stays event) ∙ e))
plain_in Case event (seats.Entering entering) p h e = absurd (false≢true (sym (entering_stays event p) ∙ e))
plain_in Case event (seats.Live live) p h e = h refl
plain_in Case event (seats.Held response) p h e = absurd (false≢true (sym (held_stays event response) ∙ e))
plain_in Case event (seats.Returning response) p h e = absurd (false≢true (sym (returning_stays event response p) ∙ e))
plain_in Case event (seats.Leaving response) p h e = h refl
plain_in Case event (seats.Stuck origin) p h e = absurd (false≢true (sym (stuck_stays event origin) ∙ e))

pub sits_plain : (Case : Type 0) (event : Event) (seat : Seat) (lists : ListState) → is_plain event ≡ true → Sits Case seat lists → Sits Case (goes event seat) lists
sits_plain Case event seat lists p h = record { joined = plain_in Case event seat p h.joined; listed = h.listed }

-- a generation that is seen leaves none
reset_out : (seat : Seat) → is_in (goes reset seat) ≡ false
unfolding goes
reset_out (seats.Out out) = refl
reset_out (seats.Entering entering) = refl
reset_out (seats.Live live) = refl
reset_out (seats.Held response) = refl
reset_out (seats.Returning response) = refl
reset_out (seats.Leaving response) = refl
reset_out (seats.Stuck origin) = unstuck origin

pub sits_cleared : (Case : Type 0) (seat : Seat) (lists : ListState) → is_some lists.slots.present ≡ false → Sits Case (goes reset seat) lists
sits_cleared Case seat lists f = record { joined = λ e. absurd (false≢true (sym (reset_out seat) ∙ e)); listed = λ e. absurd (false≢true (sym f ∙ e)) }

-- ---- a world
abbrev pub Seen : GenerationsState → ℕ → Type 0
Seen g i = (topology_at g (suc i)).generation ≤ (topology_at g 0).generation

pub record Met (w : WorldState) : Type 0 where
  pub up : Holds (Up w.generations) w.target
  pub sits : (i : ℕ) → Sits (Seen w.generations i) (initiator_at w i).seat (initiator_at w i).lists

abbrev Sit : GenerationsState → List InitiatorState → Type 0
Sit g initiators = (i : ℕ) → Sits (Seen g i) (slice_index_or initiators i (new_state 0 false)).seat (slice_index_or initiators i (new_state 0 false)).lists

pub met_alike : (w v : WorldState) → IsAlike w v → Met w → Met v
met_alike w v a m = record {
  up = subst (λ (g : GenerationsState). Holds (Up g) v.target) (sym a.generations) (subst (λ (n : NodeState). Holds (Up w.generations) n) (sym a.target) m.up);
  sits = subst (λ (g : GenerationsState). Sit g v.initiators) (sym a.generations) (subst (λ xs. Sit w.generations xs) (sym a.initiators) m.sits);
}

-- an initiator has another state
pub met_own : (w : WorldState) (i : ℕ) (state : InitiatorState) → Sits (Seen w.generations i) state.seat state.lists → Met w → Met (with_initiator i state w)
met_own w i state s m = record { up = m.up; sits = λ j. by j (nat_eq j i) refl (nat_lt i (length w.initiators)) refl }
  where
    by : (j : ℕ) (b : Bool) → nat_eq j i ≡ b → (c : Bool) → nat_lt i (length w.initiators) ≡ c → Sits (Seen w.generations j) (initiator_at (with_initiator i state w) j).seat (initiator_at (with_initiator i state w) j).lists
    by j true e true l =
        let same : j ≡ i = grind (arith, nat_tests) in
        subst (λ (x : InitiatorState). Sits (Seen w.generations j) x.seat x.lists) (sym (get_or-set_at w.initiators i j state (new_state 0 false) same (grind (arith, nat_tests))))
        (subst (λ k. Sits (Seen w.generations k) state.seat state.lists) (sym same) s)
    by j true e false l =
        let beyond : length w.initiators ≤ i = grind (arith, nat_tests) in
        subst (λ xs. Sits (Seen w.generations j) (slice_index_or xs j (new_state 0 false)).seat (slice_index_or xs j (new_state 0 false)).lists) (sym (set_past w.initiators i state beyond)) (m.sits j)
    by j false e c l =
        subst (λ (x : InitiatorState). Sits (Seen w.generations j) x.seat x.lists)
        (sym (get_or-set_other w.initiators i j state (new_state 0 false) (λ x. let y : nat_eq j i ≡ true = grind (arith, nat_tests) in false≢true (sym e ∙ y)))) (m.sits j)

-- the same, where the others are known to be so
pub met_but : (w : WorldState) (i : ℕ) (state : InitiatorState) → i < length w.initiators → Holds (Up w.generations) w.target → Sits (Seen w.generations i) state.seat state.lists → ((j : ℕ) → nat_eq j i ≡ false → Sits (Seen w.generations j) (initiator_at w j).seat (initiator_at w j).lists) → Met (with_initiator i state w)
met_but w i state inside u s others = record { up = u; sits = λ j. by j (nat_eq j i) refl }
  where
    by : (j : ℕ) (b : Bool) → nat_eq j i ≡ b → Sits (Seen w.generations j) (initiator_at (with_initiator i state w) j).seat (initiator_at (with_initiator i state w) j).lists
    by j true e =
        let same : j ≡ i = grind (arith, nat_tests) in
        subst (λ (x : InitiatorState). Sits (Seen w.generations j) x.seat x.lists) (sym (get_or-set_at w.initiators i j state (new_state 0 false) same inside))
        (subst (λ k. Sits (Seen w.generations k) state.seat state.lists) (sym same) s)
    by j false e =
        subst (λ (x : InitiatorState). Sits (Seen w.generations j) x.seat x.lists)
        (sym (get_or-set_other w.initiators i j state (new_state 0 false) (λ x. let y : nat_eq j i ≡ true = grind (arith, nat_tests) in false≢true (sym e ∙ y)))) (others j e)

-- it has a turn
pub own_hands : (i weight : ℕ) (outbox : OutboxState) (state : InitiatorState) (w v : WorldState) → IsAlike (with_initiator i state w) v → Sits (Seen w.generations i) state.seat state.lists → Met w → Met (handed_out (suc i) weight outbox v)
own_hands i weight outbox state w v a s m =
    met_alike (with_initiator i state w) (handed_out (suc i) weight outbox v) (alike_then (with_initiator i state w) v (handed_out (suc i) weight outbox v) a (handed_alike (suc i) weight outbox v)) (met_own w i state s m)

-- and so has the target
pub target_hands : (outbox : OutboxState) (node : NodeState) (w v : WorldState) → IsAlike (record w { target = node }) v → Holds (Up w.generations) node → Met w → Met (handed_out 0 0 outbox v)
target_hands outbox node w v a h m =
    met_alike (record w { target = node }) (handed_out 0 0 outbox v) (alike_then (record w { target = node }) v (handed_out 0 0 outbox v) a (handed_alike 0 0 outbox v)) (record { up = h; sits = m.sits })
