-- In every run in which no initiator injected packets, or few logins were given: a read that the management operation waits for, of its ORB or of a half of the EUI-64, is answered complete.
use Rattle.sbp_world.proofs.Words.Std.{arith, ◌≡◌, ◌∙◌, refl, sym, ap, subst, ◌<◌, ◌+◌, ◌-◌, ℕ, suc, true, false, List, [], length, Option, Some, None, true≢false}
use Rattle.sbp_world.proofs.Words.Wire.{Access, Moment, Terms, terms}
use Rattle.sbp_world.proofs.Words.Target.{Operation, high_eui_at, low_eui_at, source_in, Disk}
use Rattle.sbp_world.proofs.Words.Initiator.{is_fifo, new_memory, start_of}
use Rattle.sbp_world.proofs.Words.Laws.{host_reply, id_for, sender_in, target_at}
use Rattle.sbp_world.proofs.Words.World.{WorldState, initiator_at, AccessOf, WasAsked, IsReadBy, IsCalm, IsInAPlace, IsSaid, IsTameOrFew, read_access}
use Rattle.bus_memory.proofs.Found.{window_here}
use Rattle.bus_memory.specs.declared.window.Window.TheVariants as windows
use Rattle.mgmt_agent.specs.Machine.{Machine}
use Rattle.mgmt_agent.specs.declared.operation.Phase.{Phase}
use Rattle.mgmt_agent.specs.declared.operation.Phase.TheVariants as phases
use Rattle.sbp_laws.specs.Served.{place_bytes, place_held, window_gives}
use Rattle.sbp_world.specs.Agents.Holders.{IsOf}
use Rattle.sbp_world.specs.Completing.Answers.{IsComplete, OperationReads}
use Rattle.sbp_world.proofs.Agents.Management.Holding.{Holding}
use Rattle.sbp_world.proofs.Agents.Management.Still.{hist}
use Rattle.sbp_world.proofs.Completing.AnswersMemory.{IsInside, complete_read, inside_complete}
use Rattle.sbp_world.proofs.FitInitiator.Memory.{taken_length}
use Rattle.sbp_world.proofs.Lists.AnswersCarriedWrites.{low_fifo}
use Rattle.sbp_world.proofs.Lists.ContentManages.{bound}
use Rattle.sbp_world.proofs.Lists.KeptTurns.{id_is}
use Rattle.sbp_world.proofs.Lists.LiveSteps.{id_in}
use Rattle.sbp_world.proofs.Lists.ManagedGots as managed_gots
use Rattle.sbp_world.proofs.Lists.ManageTerms.{none_is, same_some}
use Rattle.sbp_world.proofs.Lists.OfficeWrites.{goes_of, op_placed}
use Rattle.sbp_world.proofs.Lists.OrbsRead.{access_there, sender_there}
use Rattle.sbp_world.proofs.Lists.PlaceReplies.{place_length}
use Rattle.sbp_world.proofs.Lists.ManagedGots.{rom_high, rom_low}

-- ---- what is read
pub high_no_fifo : is_fifo high_eui_at ≡ false
unfolding is_fifo
high_no_fifo = refl

pub low_no_fifo : is_fifo low_eui_at ≡ false
unfolding is_fifo
low_no_fifo = refl

abbrev eui_access : ℕ → Access
eui_access at = record { is_lock = false; is_write = false; is_block = false; offset = at; count = 4; payload = [] }

-- a read of the ORB in a place, or of a quadlet
pub data IsManagedRead (access : Access) : Type 0 where
  of_orb : (place : ℕ) → place < 2 → access ≡ read_access (start_of (windows.Management place)) 32 → IsManagedRead access
  of_eui : (at : ℕ) → access ≡ eui_access at → IsManagedRead access

managed_read : (phase : Phase) (op : Operation) (access : Access) → AccessOf phase op access → IsInAPlace op → access.is_write ≡ false → IsManagedRead access
managed_read phases.Orb op access a p reads = of_orb p.place p.small (a ∙ ap (λ x. read_access x 32) p.orb)
managed_read (phases.HighEui orb) op access a p reads = of_eui high_eui_at a
managed_read (phases.LowEui orb high) op access a p reads = of_eui low_eui_at a
managed_read (phases.Response fifo) op access a p reads = absurd (true≢false (sym a ∙ reads))
managed_read phases.Status op access (status, (fifo, a)) p reads = absurd (true≢false (sym (ap (λ (x : Access). x.is_write) a) ∙ reads))

module _ (past : List Moment) (i : ℕ) where
  -- the ORB in a place
  place_inside : (place : ℕ) → place < 2 → IsInside past i (read_access (start_of (windows.Management place)) 32) (windows.Management place)
  place_inside place small = record {
    found = window_here (new_memory []) (start_of (windows.Management place)) (windows.Management place) small (omega arith) (omega arith);
    lock = refl;
    some = omega arith;
    fifo = low_fifo (start_of (windows.Management place)) (omega (arith, small));
    opened = refl;
    room = omega arith;
    way = refl;
  }

  place_complete : (place : ℕ) → place < 2 → IsComplete past i (read_access (start_of (windows.Management place)) 32)
  place_complete place small =
      let access = read_access (start_of (windows.Management place)) 32 in
      let inside = place_inside place small in
      let long = place_length (place_held past i place) in
      record {
        rcode = inside_complete past i access (windows.Management place) inside;
        size = λ reads.
            ap (λ found. length (window_gives past i access found)) inside.found
            ∙ taken_length (start_of (windows.Management place) - start_of (windows.Management place)) 32 (place_bytes (place_held past i place)) (omega (arith, long));
      }

  -- whatever the history
  pub orb_rcode : (access : Access) → IsManagedRead access → access.is_block ≡ true → (host_reply past i access).rcode ≡ 0
  orb_rcode access (of_orb place small a) block = subst (λ x. (host_reply past i x).rcode ≡ 0) (sym a) (place_complete place small).rcode
  orb_rcode access (of_eui at a) block = absurd (true≢false (sym block ∙ ap (λ (x : Access). x.is_block) a))

  -- a half of the EUI-64
  eui_complete : (s : _) → IsReadBy past i s → (at : ℕ) → IsInside past i (eui_access at) windows.Rom → IsComplete past i (eui_access at)
  eui_complete s known at inside =
      let complete = inside_complete past i (eui_access at) windows.Rom inside in
      record { rcode = complete; size = λ reads. complete_read past i (eui_access at) s known refl refl (subst (IsSaid past i (eui_access at)) (sym inside.found) tt) complete }

  high_inside : IsInside past i (eui_access high_eui_at) windows.Rom
  high_inside = record { found = rom_high; lock = refl; some = omega arith; fifo = high_no_fifo; opened = refl; room = omega arith; way = refl }

  low_inside : IsInside past i (eui_access low_eui_at) windows.Rom
  low_inside = record { found = rom_low; lock = refl; some = omega arith; fifo = low_no_fifo; opened = refl; room = omega arith; way = refl }

  by_phase : (s : _) → IsReadBy past i s → (phase : Phase) (op : Operation) (access : Access) → AccessOf phase op access → IsInAPlace op → access.is_write ≡ false → IsComplete past i access
  by_phase s known phases.Orb op access a p reads = subst (IsComplete past i) (sym (a ∙ ap (λ x. read_access x 32) p.orb)) (place_complete p.place p.small)
  by_phase s known (phases.HighEui orb) op access a p reads = subst (IsComplete past i) (sym a) (eui_complete s known high_eui_at high_inside)
  by_phase s known (phases.LowEui orb high) op access a p reads = subst (IsComplete past i) (sym a) (eui_complete s known low_eui_at low_inside)
  by_phase s known (phases.Response fifo) op access a p reads = absurd (true≢false (sym a ∙ reads))
  by_phase s known phases.Status op access (status, (fifo, a)) p reads = absurd (true≢false (sym (ap (λ (x : Access). x.is_write) a) ∙ reads))

-- what is known of a read that the operation waits for
pub record IsManagedSo (past : List Moment) (i serial : ℕ) (access : Access) : Type 0 where
  pub complete : IsComplete past i access
  pub from : sender_in ((terms past).sent serial) ≡ Some 0
  pub kind : IsManagedRead access
  pub lock : access.is_lock ≡ false

not_locked : (access : Access) → IsManagedRead access → access.is_lock ≡ false
not_locked access (of_orb place small a) = ap (λ (x : Access). x.is_lock) a
not_locked access (of_eui at a) = ap (λ (x : Access). x.is_lock) a

-- ---- at a place
module _ (units ready : ℕ) (has : 0 < units) (start : List Disk) {past : List Moment} {lines : ℕ} (w : WorldState) (h : Holding units ready start past lines w) (k : managed_gots.Kit start (hist past w) w) (memory : (i : ℕ) → i < length w.initiators → IsReadBy (hist past w) i (initiator_at w i)) (beside : IsTameOrFew (hist past w)) where
  abbrev ms : List Moment
  ms = hist past w

  abbrev t : Terms
  t = terms ms

  module _ (i serial : ℕ) (access : Access) (calm : IsCalm ms i) (x : OperationReads start ms i serial access) where
    module _ (op : Operation) (e : (target_at start ms).manager.operation ≡ Some op) where
      there : w.target.manager.operation ≡ Some op
      there = ap (λ (m : Machine). m.operation) (sym h.at.agrees.manager) ∙ e

      of : (initiator : ℕ) × IsOf t (length w.initiators) initiator op.source
      of = k.ground.known.held.operation op.source (ap source_in there)

      abbrev j : ℕ
      j = of.0

      within : j < length w.initiators
      within = of.1.small

      source_there : op.source ≡ id_in w j
      source_there = sym of.1.node_is ∙ (ap (λ n. id_for t 0 n) (let z : j + 1 ≡ suc j = omega arith in z) ∙ id_is units ready has start w h j within)

      same : j ≡ i
      same =
          let both : suc j ≡ suc i = same_some (suc j) (suc i) (sym (goes_of units ready has start w h k.ground j within op e source_there serial x.manages) ∙ x.to) in
          omega (arith, both)

      so_of : IsManagedSo ms i serial access
      so_of =
          let was : WasAsked start ms serial op = k.ground.known.are.each serial op (((bound start ms k.ground.known.counts).own serial x.manages).0 ∙ e) in
          let is = access_there start ms k.ground.known.counts serial op was in
          let asks : was.access ≡ access = same_some was.access access (sym is ∙ x.asks) in
          let quiet : IsCalm ms j = subst (IsCalm ms) (sym same) calm in
          let placed : IsInAPlace op = op_placed units ready has start w h k.ground j within op e source_there quiet k.shorts (k.based beside j within quiet) in
          let content = subst (AccessOf op.phase op) asks was.content in
          let kind = managed_read op.phase op access content placed x.reads in
          record {
            complete = subst (λ p. IsComplete ms p access) same (by_phase ms j (initiator_at w j) (memory j within) op.phase op access content placed x.reads);
            from = sender_there start ms k.ground.known.counts serial op was;
            kind = kind;
            lock = not_locked access kind;
          }

    by_operation : (operation : Option Operation) → (target_at start ms).manager.operation ≡ operation → IsManagedSo ms i serial access
    by_operation None e = none_is serial (sym ((bound start ms k.ground.known.counts).bare e) ∙ x.manages)
    by_operation (Some op) e = so_of op e

    pub managed_so : IsManagedSo ms i serial access
    managed_so = by_operation (target_at start ms).manager.operation refl
