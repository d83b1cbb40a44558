-- What the target gets in answer to a request of nobody begins elsewhere than in the slot of an ORB of an open list: a request that goes there is under way, and is the main transaction of an agent, or an ORB had the slot whose list was cut.
use Rattle.sbp_world.proofs.Common.{serial_is}
use Rattle.sbp_world.proofs.Words.Std.{arith, ◌≡◌, ◌∙◌, refl, sym, ap, inl, inr, ◌⊎◌, ◌<◌, ◌≤◌, ◌==◌, ◌&&◌, ℕ, suc, Bool, true, false, cond, List, [], Option, Some, None, nat_tests}
use Rattle.sbp_world.proofs.Words.Wire.{SerialsCount, Access, Moment, Sending, Transaction, between, Held, Terms, terms}
use Rattle.sbp_world.proofs.Words.Target.{Disk}
use Rattle.sbp_world.proofs.Words.Initiator.{window_at}
use Rattle.sbp_world.proofs.Words.Laws.{moved_by, payload_at, read_by, orb, prepared_in, taken_at, IsOpen, access_at, answered_at, begun_in, is_under_way, is_waiting_for, receiver_in, sender_in, waits_for, for_nobody, is_serial, over, purpose_of, target_at, ends}
use Rattle.sbp_world.proofs.Words.World.{IsInSlot, IsMainAt, WasCutOff, AllElsewhere, data_slot}
use Rattle.bus_memory.specs.declared.window.Window.TheVariants as windows
use Rattle.sbp_world.proofs.Lists.BegunBy.{IsBegun, IsHeld, IsTransactionOf, begun_of, held_by, transaction_of}
use Rattle.sbp_world.proofs.Lists.CutOffs.{off_apart}
use Rattle.sbp_world.proofs.Lists.FedOnce.{IsReply, reply_by}
use Rattle.sbp_world.proofs.Lists.Joins.{Begins}
use Rattle.sbp_world.proofs.Lists.MainLater.{somebodys}
use Rattle.sbp_world.proofs.Lists.ManageTerms.{same_some}
use Rattle.sbp_world.proofs.Lists.NobodyWaits.{waits_over}
use Rattle.sbp_world.proofs.Lists.Passing.{PassLaw}
use Rattle.sbp_world.proofs.Lists.Rises.{Rises}

-- the packet is of the generation of the node that it goes to
abbrev pub IsCurrent : List Moment → ℕ → Type 0
IsCurrent past serial = (packet : Sending) → (terms past).sent serial ≡ Some packet → packet.generation ≡ (terms past).generation packet.to

-- ---- a response closes a request
module _ (past : List Moment) (c : SerialsCount past) (serial own : ℕ) (closed : answered_at (terms past) serial ≡ Some own) where
  abbrev t : Terms
  t = terms past

  reply : IsReply t serial own
  reply = reply_by t serial own (t.sent serial) refl closed

  abbrev q : Sending
  q = reply.packet

  abbrev u : Transaction
  u = between q q.to q.from reply.label

  held : IsHeld (t.held u) own
  held = held_by (t.held u) reply.kind own reply.closes

  begun : IsBegun past u own
  begun = begun_of past c u held.kind own held.is

  nodes : IsTransactionOf begun.packet u
  nodes = transaction_of begun.packet u begun.begun

  own_waits : is_waiting_for (t.held u) own ≡ true
  own_waits = ap (λ (h : Held). is_waiting_for h own) held.is ∙ (let z : (own == own) ≡ true = grind (arith, nat_tests) in z)

  closed_under_way : IsCurrent past serial → is_under_way t own ≡ true
  closed_under_way current =
      let e : q.generation ≡ t.generation q.to = current q reply.sent in
      let now : (t.generation q.to == q.generation) ≡ true = grind (arith, nat_tests) in
      ap (λ so. waits_for t (begun_in so) own) begun.sent ∙ (ap (λ (v : Option Transaction). waits_for t v own) begun.begun ∙ (ap (λ b. b && is_waiting_for (t.held u) own) now ∙ own_waits))

  module _ (i slot : ℕ) where
    -- it goes to the slot
    pub closed_in_slot : IsCurrent past serial → sender_in (t.sent serial) ≡ Some (suc i) → receiver_in (t.sent serial) ≡ Some 0 → (access : Access) → access_at t own ≡ Some access → data_slot (window_at access.offset) ≡ Some slot → (window_at access.offset ≡ Some (windows.Buffer slot) → access.is_write ≡ false) → IsInSlot past i slot own
    closed_in_slot current from to access is stands reads = record {
      from = ap sender_in begun.sent ∙ ap Some (sym nodes.requester ∙ same_some q.to 0 (sym (ap receiver_in reply.sent) ∙ to));
      to = ap receiver_in begun.sent ∙ ap Some (sym nodes.responder ∙ same_some q.from (suc i) (sym (ap sender_in reply.sent) ∙ from));
      under_way = closed_under_way current;
      access = access;
      is = is;
      stands = stands;
      reads = reads;
    }

    -- where it does not, the response begins elsewhere, or has no bytes
    module _ (bytes : (access : Access) → access_at t own ≡ Some access → access.is_write ≡ true → payload_at t serial ≡ []) (none : sender_in (t.sent serial) ≡ Some (suc i) → receiver_in (t.sent serial) ≡ Some 0 → (access : Access) → access_at t own ≡ Some access → data_slot (window_at access.offset) ≡ Some slot → (window_at access.offset ≡ Some (windows.Buffer slot) → access.is_write ≡ false) → ⊥) where
      table_not : (at : ℕ) → window_at at ≡ Some (windows.Table slot) → window_at at ≡ Some (windows.Buffer slot) → ⊥
      table_not at e f = let x : Some (windows.Table slot) ≡ Some (windows.Buffer slot) = sym e ∙ f in cc

      read_at : (b d : Bool) → is_serial (sender_in (t.sent serial)) (suc i) ≡ b → is_serial (receiver_in (t.sent serial)) 0 ≡ d → (a : Option Access) → access_at t own ≡ a → AllElsewhere slot (cond (b && d) (moved_by a (payload_at t serial)) [])
      read_at false d f g a e = tt
      read_at true false f g a e = tt
      read_at true true f g None e = tt
      read_at true true f g (Some access) e = (record { table = table; buffer = λ w. by w access.is_write refl }, tt)
        where
          not_there : data_slot (window_at access.offset) ≡ Some slot → (window_at access.offset ≡ Some (windows.Buffer slot) → access.is_write ≡ false) → ⊥
          not_there = none (serial_is (sender_in (t.sent serial)) (suc i) f) (serial_is (receiver_in (t.sent serial)) 0 g) access e

          table : window_at access.offset ≡ Some (windows.Table slot) → ⊥
          table w = not_there (ap data_slot w) (λ z. absurd (table_not access.offset w z))

          by : window_at access.offset ≡ Some (windows.Buffer slot) → (writes : Bool) → access.is_write ≡ writes → payload_at t serial ≡ []
          by w true h = bytes access e h
          by w false h = absurd (not_there (ap data_slot w) (λ z. h))

      pub begins_elsewhere : AllElsewhere slot (read_by t i serial (Some own))
      begins_elsewhere = read_at (is_serial (sender_in (t.sent serial)) (suc i)) (is_serial (receiver_in (t.sent serial)) 0) refl refl (access_at t own) refl

-- ---- at a place
-- what is known of it
pub record OffFacts (wild : ℕ → Bool) (start : List Disk) (past : List Moment) (count : ℕ) : Type 0 where
  pub counts : SerialsCount past
  pub passes : PassLaw wild past
  pub rises : Rises past
  pub begins : (i : ℕ) → i < count → Begins i past
  pub untaken : (i : ℕ) → i < count → wild i ≡ false → (n k : ℕ) → ends past i n ≤ k → taken_at past i n k ≡ None
  pub off : (i : ℕ) → i < count → wild i ≡ false → (slot serial : ℕ) → IsInSlot past i slot serial → IsMainAt start past serial ⊎ WasCutOff past i slot
  pub ours : (serial i : ℕ) → sender_in ((terms past).sent serial) ≡ Some (suc i) → i < count
  -- what answers a write has no bytes
  pub bytes : (serial own : ℕ) → answered_at (terms past) serial ≡ Some own → (access : Access) → access_at (terms past) own ≡ Some access → access.is_write ≡ true → payload_at (terms past) serial ≡ []

-- of a response that is current
abbrev pub IsUnownedNow : (ℕ → Bool) → List Disk → List Moment → ℕ → Type 0
IsUnownedNow wild start past serial =
    IsCurrent past serial → (i slot list number request : ℕ) → wild i ≡ false → IsOpen past i list → prepared_in past i slot ≡ Some (orb list number) → answered_at (terms past) serial ≡ Some request → purpose_of (over (target_at start past)) request ≡ for_nobody → AllElsewhere slot (read_by (terms past) i serial (Some request))

module _ (wild : ℕ → Bool) (start : List Disk) (past : List Moment) (count : ℕ) (f : OffFacts wild start past count) where
  pub unowned_here : (serial : ℕ) → IsUnownedNow wild start past serial
  unowned_here serial current i slot list number request own opened there closed nobody =
      begins_elsewhere past f.counts serial request closed i slot (f.bytes serial request closed)
      (λ from to access is stands reads.
      let x = closed_in_slot past f.counts serial request closed i slot current from to access is stands reads in
      let inside = f.ours serial i from in
      not_there inside x (f.off i inside own slot request x))
    where
      not_main : IsInSlot past i slot request → IsMainAt start past request → ⊥
      not_main x m = somebodys (over (target_at start past)) m.place request (waits_over start [] past m.place request f.counts x.under_way m.waits) nobody

      not_there : i < count → IsInSlot past i slot request → IsMainAt start past request ⊎ WasCutOff past i slot → ⊥
      not_there inside x (inl m) = not_main x m
      not_there inside x (inr off) = off_apart wild i own past f.passes f.rises (f.begins i inside) (f.untaken i inside own) slot off list number opened there
