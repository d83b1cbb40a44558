-- A request of the target for the page table or the buffer of a slot is no agent's read ahead, and not the management operation's.
use Rattle.sbp_world.proofs.Words.Std.{arith, ◌≡◌, ◌∙◌, refl, sym, ap, subst, ◌<◌, ℕ, suc, Bool, true, false, List, length, Option, Some, None, same_Some}
use Rattle.sbp_world.proofs.Words.Wire.{IsAwaited, transaction, Access, Moment, Transaction, Terms, terms}
use Rattle.sbp_world.proofs.Words.Target.{ahead_ask, ReadAhead, Ahead, Main, source_in, Operation, Disk}
use Rattle.sbp_world.proofs.Words.Initiator.{Window, window_at, OrbPointer, At, Null}
use Rattle.sbp_world.proofs.Words.Laws.{access_at, receiver_in, agent_at, over, target_at, EachMoment}
use Rattle.sbp_world.proofs.Words.World.{Stands, WorldState, IsAccessFor, Awaits, HasRequest, AreAlong, WasAsked, IsInSlot, IsCalm, IsOpenAt, OpenLists, initiator_in, machine_at, IsOwnRead, ReadsData, data_slot, BasedAt, IsInAPlace, AreShort}
use Rattle.bus_memory.specs.declared.window.Window.TheVariants as windows
use Rattle.bus_transactions.proofs.Reaches.{goes_on}
use Rattle.command_agent.specs.declared.phase.ReadAhead.TheVariants as aheads
use Rattle.mgmt_agent.specs.Machine.{Machine}
use Rattle.sbp_world.proofs.Agents.Management.Holding.{Holding, past_terms}
use Rattle.sbp_world.proofs.Agents.Management.Still.{hist}
use Rattle.sbp_world.proofs.Lists.BufferClears.{Ground}
use Rattle.sbp_world.proofs.Lists.ContentManages.{bound}
use Rattle.sbp_world.proofs.Lists.FedOwners.{are_own_reads}
use Rattle.sbp_world.proofs.Lists.Heard.{awaited_to}
use Rattle.sbp_world.proofs.Lists.KeptTurns.{id_is}
use Rattle.sbp_world.proofs.Lists.LiveSteps.{id_in}
use Rattle.sbp_world.proofs.Lists.ManagedGots.{Aims, aims_by, elsewhere, writes}
use Rattle.sbp_world.proofs.Lists.ManageTerms.{none_is, same_some}
use Rattle.sbp_world.proofs.Lists.OfficeAsks.{HasOpOf}
use Rattle.sbp_world.proofs.Lists.OfficeWrites.{OfficeSoAt, op_placed}
use Rattle.sbp_world.proofs.Lists.OrbsRead.{access_there}
use Rattle.sbp_world.proofs.Lists.Sites.{Site, Waiting, waiting as agent_waiting}

-- ---- a read ahead
pub record IsRead (access : Access) : Type 0 where
  pub reads : access.is_write ≡ false
  pub some : 0 < access.count

ahead_reads : (ahead : ReadAhead) (next : OrbPointer) (is_status : Bool) (fifo : ℕ) (access : Access) → IsAccessFor (ahead_ask ahead next) is_status fifo access → IsRead access
ahead_reads (aheads.UnderWay rung) (At next) is_status fifo access a = record { reads = ap (λ (x : Access). x.is_write) a; some = (let e = ap (λ (x : Access). x.count) a in omega (arith, e)) }
ahead_reads (aheads.UnderWay rung) Null is_status fifo access a = absurd a
ahead_reads aheads.Idle next is_status fifo access a = absurd a
ahead_reads (aheads.Kept orb) next is_status fifo access a = absurd a

module _ (units ready : ℕ) (has : 0 < units) (start : List Disk) {past : List Moment} {lines : ℕ} (w : WorldState) (h : Holding units ready start past lines w) (s : Site start past w) (open_lists : OpenLists (hist past w) w) (along : AreAlong (hist past w) w) where
  abbrev ms : List Moment
  ms = hist past w

  module _ (place i slot serial : ℕ) (b : place < 8) (calm : IsCalm ms i) (waits : (agent_at (over (target_at start ms)) place).ahead ≡ Some serial) (x : IsInSlot ms i slot serial) where
    wait : Waiting units ready has start w h s place b Ahead serial
    wait = agent_waiting units ready has start w h s place b Ahead serial waits

    here : initiator_in w place ≡ i
    here = let e = same_some (suc (initiator_in w place)) (suc i) (sym wait.to ∙ x.to) in omega (arith, e)

    read : IsRead wait.access
    read = ahead_reads (machine_at w place).ahead (machine_at w place).orb.next wait.status _ wait.access wait.asks

    of_data : ReadsData start ms place Ahead serial (initiator_in w place) slot
    of_data = record {
      waits = waits;
      to = wait.to;
      access = wait.access;
      is = wait.is;
      reads = read.reads;
      some = read.some;
      stands = subst (λ (a : Access). data_slot (window_at a.offset) ≡ Some slot) (same_Some x.access wait.access (sym x.is ∙ wait.is)) x.stands;
    }

    which_not : Ahead ≡ Main → ⊥
    which_not e = cc

    quiet : IsCalm ms (initiator_in w place)
    quiet = subst (IsCalm ms) (sym here) calm

    open_there : IsOpenAt ms w place
    open_there = open_lists.listed place b wait.is_open quiet

    of_main : IsOwnRead ms place (initiator_in w place) open_there.n place Ahead slot
    of_main = are_own_reads units ready has start w h s open_lists along place b wait.is_open quiet open_there.n open_there.list place b Ahead serial slot of_data

    pub ahead_not : ⊥
    ahead_not = which_not of_main.main

-- ---- the management operation
slot_window : (window : Option Window) (slot : ℕ) → data_slot window ≡ Some slot → (window ≡ Some (windows.Table slot) → ⊥) → (window ≡ Some (windows.Buffer slot) → ⊥) → ⊥
slot_window (Some (windows.Table other)) slot e f g = f (ap (λ s. Some (windows.Table s)) (same_some other slot e))
slot_window (Some (windows.Buffer other)) slot e f g = g (ap (λ s. Some (windows.Buffer s)) (same_some other slot e))
slot_window (Some (windows.Orb other)) slot e f g = none_is slot e
slot_window (Some (windows.Management other)) slot e f g = none_is slot e
slot_window (Some (windows.Response other)) slot e f g = none_is slot e
slot_window (Some windows.Rom) slot e f g = none_is slot e
slot_window None slot e f g = none_is slot e

module _ (units ready : ℕ) (has : 0 < units) (start : List Disk) {past : List Moment} {lines : ℕ} (w : WorldState) (h : Holding units ready start past lines w) (g : Ground start (hist past w) w) (shorts : AreShort (hist past w)) (o : OfficeSoAt start (hist past w) w) where
  abbrev before : List Moment
  before = hist past w

  abbrev t : Terms
  t = terms before

  abbrev stands : Stands past w
  stands = h.sound.stands

  module _ (i slot own : ℕ) (inside : i < length w.initiators) (calm : IsCalm before i) (based : EachMoment (BasedAt i) before) (manages : (target_at start before).manages ≡ Some own) (x : IsInSlot before i slot own) where
    module _ (op : Operation) (e : (target_at start before).manager.operation ≡ Some op) where
      there : w.target.manager.operation ≡ Some op
      there = ap (λ (m : Machine). m.operation) (sym h.at.agrees.manager) ∙ e

      asking : HasRequest t w.target.layer op.source (target_at start before).manages
      asking = subst (λ (s : Option ℕ). Awaits t w.target.layer s (target_at start before).manages) (ap source_in there) h.at.awaits

      asking_is : asking.serial ≡ own
      asking_is = same_some asking.serial own (sym asking.manages_is ∙ manages)

      abbrev v : Transaction
      v = transaction (t.generation 0) 0 asking.peer asking.number

      goes_there : receiver_in (t.sent own) ≡ Some asking.peer
      goes_there =
          let same = past_terms w stands in
          let a : IsAwaited (terms stands.wire.past) v asking.kind asking.serial = goes_on.awaited stands.wire v asking.kind asking.serial stands.reached (ap (λ (y : Terms). y.held v) same ∙ asking.waits_for) in
          subst (λ r. receiver_in (t.sent r) ≡ Some asking.peer) asking_is (ap (λ (y : Terms). receiver_in (y.sent asking.serial)) (sym same) ∙ awaited_to (terms stands.wire.past) v asking.kind asking.serial a)

      peer_same : asking.peer ≡ suc i
      peer_same = same_some asking.peer (suc i) (sym goes_there ∙ x.to)

      source : op.source ≡ id_in w i
      source = sym asking.peer_is ∙ (ap (λ n. t.ids (t.generation 0) n) peer_same ∙ id_is units ready has start w h i inside)

      has_op : HasOpOf (id_in w i) (target_at start before).manager
      has_op = record { op = op; is = e; of = source }

      placed : IsInAPlace op
      placed = op_placed units ready has start w h g i inside op e source calm shorts based

      write_not : (access : Access) → access_at t own ≡ Some access → access.is_write ≡ true → ⊥
      write_not access is write =
          let same : x.access ≡ access = same_Some x.access access (sym x.is ∙ is) in
          slot_window (window_at access.offset) slot (subst (λ (a : Access). data_slot (window_at a.offset) ≡ Some slot) same x.stands)
          (λ at. (o i inside calm shorts based).waits_may has_op own manages access is write slot at)
          (λ at. let r = subst (λ (a : Access). window_at a.offset ≡ Some (windows.Buffer slot) → a.is_write ≡ false) same x.reads at in let z : true ≡ false = sym write ∙ r in cc)

      by_access : (access : Access) → access_at t own ≡ Some access → Aims access → ⊥
      by_access access is (elsewhere none) = none slot (subst (λ (a : Access). data_slot (window_at a.offset) ≡ Some slot) (same_Some x.access access (sym x.is ∙ is)) x.stands)
      by_access access is (writes write) = write_not access is write

      of_operation : ⊥
      of_operation =
          let was : WasAsked start before own op = g.known.are.each own op (((bound start before g.known.counts).own own manages).0 ∙ e) in
          by_access was.access (access_there start before g.known.counts own op was) (aims_by op.phase op was.access was.content placed)

    pub manager_not : ⊥
    manager_not = by (target_at start before).manager.operation refl
      where
        by : (operation : Option Operation) → (target_at start before).manager.operation ≡ operation → ⊥
        by None e = none_is own (sym ((bound start before g.known.counts).bare e) ∙ manages)
        by (Some op) e = of_operation op e
