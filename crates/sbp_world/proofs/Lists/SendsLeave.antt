-- The packets that are sent at the end of a turn leave who has the places of the target, the lists that its pointers name, and each agent that is out of RESET out of it. So the open list of an initiator
-- before such a packet is that of its one agent out of RESET behind the turn.
use Rattle.sbp_world.proofs.Words.Std.{arith, ◌≡◌, ◌∙◌, refl, ap, ◌≤◌, ℕ, zero, suc, ◌+◌, ◌==◌, ◌&&◌, nat_eq, Bool, true, false, cond, List, [], ◌∷◌, ◌++◌, map, length, Option, Some, None, nat_tests, position, slice_set}
use Rattle.sbp_world.proofs.Words.Wire.{Moment, said, Part, part_of, request, response, Terms, terms, Note}
use Rattle.sbp_world.proofs.Words.Target.{Ahead, Main, Table, place_at, Disk}
use Rattle.sbp_world.proofs.Words.Initiator.{Nothing}
use Rattle.sbp_world.proofs.Words.Laws.{list_taken, open_among, access_in_bytes, id_for, Agent, Reply, Target, agent_at, agent_over, closed, initiator_at, initiator_from, initiator_with, is_nothing, is_write_access, main_lost, moved, node_in, over, plain_for, reply_of, sends_of, sent_as, sent_for, taken_on, target_at, wants, wants_it, lists}
use Rattle.sbp_world.proofs.Words.World.{agent_in}
use Rattle.command_agent.specs.Steps as steps
use Rattle.orb_layout.specs.declared.ask.FailCause.TheVariants as causes
use Rattle.sbp_journal.specs.Transactions.{no_packet}
use Rattle.sbp_journal.specs.declared.note.Note.TheVariants as notes
use Rattle.sbp_world.proofs.Lists.ManageSends.{sent_terms}
use Rattle.sbp_world.proofs.Lists.OpenCuts.{is_up}
use Rattle.sbp_world.proofs.Lists.RepliesStayUp.{lost_up, reply_up}
use Rattle.sbp_world.proofs.Lists.SendsLast.{AllSends}
use Rattle.sbp_world.proofs.Common.{untrue}

-- ---- an agent
abbrev UpStays : (before now : Agent) → Type 0
UpStays before now = is_up before.machine ≡ true → is_up now.machine ≡ true

loses_up : (a : Agent) → UpStays a (main_lost a)
loses_up a = by (is_nothing a.asks)
  where
    by : (b : Bool) → UpStays a (cond b a (moved (steps.lost_step a.machine Main causes.Label) a))
    by true = λ e. e
    by false = lost_up a.machine Main causes.Label

over_up : (a : Agent) → UpStays a (agent_over a)
over_up a = λ e. by (is_nothing x.asks_ahead) (loses_up a e)
  where
    x : Agent
    x = main_lost a

    by : (b : Bool) → UpStays x (cond b x (record x { machine = (steps.lost_step x.machine Ahead causes.Label).1; asks_ahead = Nothing }))
    by true = λ e. e
    by false = lost_up x.machine Ahead causes.Label

sends_up : (is_write : Bool) (serial : ℕ) (a : Agent) → UpStays a (sends_of is_write serial a)
sends_up is_write serial a = by (wants a.asks is_write) (wants a.asks_ahead is_write)
  where
    by : (x y : Bool) → UpStays a (cond x (record a { main = Some serial; asks = Nothing }) (cond y (record a { ahead = Some serial; asks_ahead = Nothing }) a))
    by true y = λ e. e
    by false true = λ e. e
    by false false = λ e. e

-- ---- the target
pub record Leaves (t x : Target) : Type 0 where
  pub up : (p : ℕ) → UpStays (agent_in t.agents p) (agent_in x.agents p)
  pub table : x.table ≡ t.table

left : (t : Target) → Leaves t t
left t = record { up = λ p e. e; table = refl }

pub then_left : (t x y : Target) → Leaves t x → Leaves x y → Leaves t y
then_left t x y a b = record { up = λ p e. b.up p (a.up p e); table = b.table ∙ a.table }

set_up : (agents : List Agent) (k : ℕ) (x : Agent) → UpStays (agent_in agents k) x → (p : ℕ) → UpStays (agent_in agents p) (agent_in (slice_set agents k x) p)
set_up [] k x h p = λ e. e
set_up (a ∷ agents) zero x h zero = h
set_up (a ∷ agents) zero x h (suc p) = λ e. e
set_up (a ∷ agents) (suc k) x h zero = λ e. e
set_up (a ∷ agents) (suc k) x h (suc p) = set_up agents k x h p

map_up : (f : Agent → Agent) (agents : List Agent) → ((a : Agent) → UpStays a (f a)) → (p : ℕ) → UpStays (agent_in agents p) (agent_in (map f agents) p)
map_up f [] h p = λ e. e
map_up f (a ∷ agents) h zero = h a
map_up f (a ∷ agents) h (suc p) = map_up f agents h p

takes : (reply : Option Reply) (t : Target) → Leaves t (taken_on None reply t)
takes None t = left t
takes (Some reply) t =
    let a = agent_at t reply.place in
    let step = reply_of t reply None in
    record { up = set_up t.agents reply.place (moved step (closed reply.which a)) (λ e. reply_up a.machine reply.place (plain_for t reply) None reply.which reply.answer e); table = refl }

pub over_leaves : (t : Target) → Leaves t (over t)
over_leaves t = then_left t x (over t) (takes t.reply t) (record { up = map_up agent_over x.agents over_up; table = refl })
  where
    x : Target
    x = taken_on None t.reply t

sent_left : (place : Option ℕ) (is_write : Bool) (serial : ℕ) (t : Target) → Leaves t (sent_for place is_write serial t)
sent_left (Some place) is_write serial t = record { up = set_up t.agents place (sends_of is_write serial (agent_at t place)) (sends_up is_write serial (agent_at t place)); table = refl }
sent_left None is_write serial t = by (wants t.manager_asks is_write)
  where
    by : (b : Bool) → Leaves t (cond b (record t { manages = Some serial; manager_asks = Nothing }) (record t { pushes = serial ∷ t.pushes }))
    by true = record { up = λ p e. e; table = refl }
    by false = record { up = λ p e. e; table = refl }

part_left : (part : Part) (is_write : Bool) (serial : ℕ) (t : Target) → Leaves t (sent_as part is_write serial t)
part_left (request label kind) is_write serial t = sent_left (position (wants_it is_write) t.agents) is_write serial t
part_left (response label kind) is_write serial t = left t
part_left no_packet is_write serial t = left t

-- ---- packets behind a history
module _ (start : List Disk) where
  pub sends_leave : (ns : List Note) (past : List Moment) → AllSends ns → Leaves (target_at start past) (target_at start (map said ns ++ past))
  sends_leave [] past q = left (target_at start past)
  sends_leave (notes.Sent serial generation from to bytes ∷ ns) past q =
      then_left (target_at start past) t (target_at start (said (notes.Sent serial generation from to bytes) ∷ map said ns ++ past)) (sends_leave ns past q.1) (then_left t x (target_at start (said (notes.Sent serial generation from to bytes) ∷ map said ns ++ past)) (takes t.reply t) (by (from == 0)))
    where
      t : Target
      t = target_at start (map said ns ++ past)

      x : Target
      x = taken_on None t.reply t

      by : (b : Bool) → Leaves x (cond b (sent_as (part_of bytes) (is_write_access (access_in_bytes bytes)) serial x) x)
      by true = part_left (part_of bytes) (is_write_access (access_in_bytes bytes)) serial x
      by false = left x
  sends_leave (note ∷ ns) past q = absurd q.0

-- the terms of the wire that say who is at an ID
pub record SameIds (t u : Terms) : Type 0 where
  pub generation : u.generation ≡ t.generation
  pub ids : u.ids ≡ t.ids

pub sends_ids : (ns : List Note) (past : List Moment) → AllSends ns → SameIds (terms past) (terms (map said ns ++ past))
sends_ids [] past q = record { generation = refl; ids = refl }
sends_ids (notes.Sent serial generation from to bytes ∷ ns) past q =
    let ms = map said ns ++ past in
    let k = sent_terms serial (record { generation = generation; from = from; to = to; bytes = bytes; injected = (terms ms).injected serial }) (terms ms) in
    let r = sends_ids ns past q.1 in
    record { generation = k.generation ∙ r.generation; ids = k.ids ∙ r.ids }
sends_ids (note ∷ ns) past q = absurd q.0

from_same : (more i : ℕ) (t u : Terms) (id : ℕ) → ((k : ℕ) → id_for u 0 k ≡ id_for t 0 k) → initiator_from more i u id ≡ initiator_from more i t id
from_same zero i t u id h = refl
from_same (suc more) i t u id h =
    ap (λ x. cond (x == id) i (initiator_from more (i + 1) u id)) (h (i + 1)) ∙ ap (λ r. cond (id_for t 0 (i + 1) == id) i r) (from_same more (i + 1) t u id h)

pub same_initiator : (t u : Terms) (a b : Target) → SameIds t u → b.table ≡ a.table → (p : ℕ) → initiator_at b u p ≡ initiator_at a t p
same_initiator t u a b s table p =
    ap (λ (x : Table). initiator_with u (node_in (place_at x.places p))) table
    ∙ from_same 4 0 t u (node_in (place_at a.table.places p)) (λ k. ap (λ (f : ℕ → ℕ). u.ids (f 0) k) s.generation ∙ ap (λ (f : ℕ → ℕ → ℕ). f (t.generation 0) k) s.ids)

-- how many lists an initiator began
pub sends_lists : (ns : List Note) (past : List Moment) (i : ℕ) → AllSends ns → lists (map said ns ++ past) i ≡ lists past i
sends_lists [] past i q = refl
sends_lists (notes.Sent serial generation from to bytes ∷ ns) past i q = sends_lists ns past i q.1
sends_lists (note ∷ ns) past i q = absurd q.0

-- ---- the open list of an initiator that has one agent out of RESET, or none
new_down : (p : ℕ) (A : Type 0) → is_up (agent_in [] p).machine ≡ true → A
new_down zero A e = untrue e
new_down (suc p) A e = untrue e

pub beyond_down : (agents : List Agent) (p : ℕ) (A : Type 0) → length agents ≤ p → is_up (agent_in agents p).machine ≡ true → A
beyond_down [] p A l e = new_down p A e
beyond_down (a ∷ agents) zero A l e = absurd (omega (arith, l))
beyond_down (a ∷ agents) (suc p) A l e = beyond_down agents p A (omega (arith, l)) e

module _ (start : List Disk) (past : List Moment) (wire : Terms) (target : Target) (i : ℕ) where
  passed : (found : Option ℕ) (place : ℕ) (a : Agent) (agents : List Agent) → (is_up a.machine ≡ true → initiator_at target wire place ≡ i → ⊥) → open_among start past wire target i (place + 1) agents ≡ found → open_among start past wire target i place (a ∷ agents) ≡ found
  passed found place a agents other rest = by (is_up a.machine) (nat_eq (initiator_at target wire place) i) refl refl
    where
      by : (x y : Bool) → is_up a.machine ≡ x → nat_eq (initiator_at target wire place) i ≡ y → cond (is_up a.machine && nat_eq (initiator_at target wire place) i) (list_taken start past place) (open_among start past wire target i (place + 1) agents) ≡ found
      by true true e f = absurd (other e (grind (arith, nat_tests)))
      by true false e f =
          ap (λ b. cond (b && nat_eq (initiator_at target wire place) i) (list_taken start past place) (open_among start past wire target i (place + 1) agents)) e
          ∙ (ap (λ b. cond (true && b) (list_taken start past place) (open_among start past wire target i (place + 1) agents)) f ∙ rest)
      by false y e f =
          ap (λ b. cond (b && nat_eq (initiator_at target wire place) i) (list_taken start past place) (open_among start past wire target i (place + 1) agents)) e ∙ rest

  -- of one that has none out of RESET
  pub no_open : (place : ℕ) (agents : List Agent) → ((j q : ℕ) → place + j ≡ q → is_up (agent_in agents j).machine ≡ true → initiator_at target wire q ≡ i → ⊥) → open_among start past wire target i place agents ≡ None
  no_open place [] none = refl
  no_open place (a ∷ agents) none =
      passed None place a agents (none 0 place (omega arith))
      (no_open (place + 1) agents (λ j q b u o. none (suc j) q (omega (arith, b)) u o))

  module _ (n : ℕ) where
    pub one_open : (place : ℕ) (agents : List Agent) (k p : ℕ) → place + k ≡ p → is_up (agent_in agents k).machine ≡ true → initiator_at target wire p ≡ i → list_taken start past p ≡ Some n → ((j q : ℕ) → place + j ≡ q → is_up (agent_in agents j).machine ≡ true → initiator_at target wire q ≡ i → j ≡ k) → open_among start past wire target i place agents ≡ Some n
    one_open place [] k p at up own list alone = new_down k (open_among start past wire target i place [] ≡ Some n) up
    one_open place (a ∷ agents) zero p at up own list alone =
        let here : place ≡ p = omega (arith, at) in
        let z : nat_eq (initiator_at target wire place) i ≡ true = let y = ap (initiator_at target wire) here ∙ own in grind (arith, nat_tests) in
        ap (λ b. cond (b && nat_eq (initiator_at target wire place) i) (list_taken start past place) (open_among start past wire target i (place + 1) agents)) up
        ∙ (ap (λ b. cond (true && b) (list_taken start past place) (open_among start past wire target i (place + 1) agents)) z ∙ (ap (list_taken start past) here ∙ list))
    one_open place (a ∷ agents) (suc k) p at up own list alone =
        passed (Some n) place a agents (λ e f. let z = alone 0 place (omega arith) e f in omega (arith, z))
        (one_open (place + 1) agents k p (omega (arith, at)) up own list (λ j q b u o. let e = alone (suc j) q (omega (arith, b)) u o in omega (arith, e)))
