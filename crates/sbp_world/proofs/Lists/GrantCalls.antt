-- What a delivery to the target makes of the logins that it granted, of its undecided operation and of its live logins (NCITS 325-1998, management agent and login): an
-- operation begins with a write of MANAGEMENT_AGENT, and is decided with at most one login.
use Rattle.sbp_world.proofs.Words.Std.{arith, ◌≡◌, ◌∙◌, refl, sym, ap, ℕ, ◌+◌, ◌*◌, ◌≤◌, Bool, true, false, cond, List, length, Option, Some, None}
use Rattle.sbp_world.proofs.Words.Wire.{Packet, header_in, Finding, judging_step, of_again, of_generation, of_grammar, of_label, of_request, of_response, Side, empty_outbox}
use Rattle.sbp_world.proofs.Words.Target.{Table, Operation, Disk, Told, demand_of, Demand, Purpose, NodeState, scene, answer_in, received, whole, is_barred}
use Rattle.sbp_world.proofs.Words.Initiator.{Nothing}
use Rattle.sbp_world.proofs.Words.World.{CallsKeep, demanded, requested, Agrees, Office, by_sides, is_written}
use Rattle.mgmt_agent.specs.Machine.{Machine}
use Rattle.target_base.specs.declared.address.Demand.TheVariants as demands
use Rattle.sbp_target.specs.declared.purpose.Purpose.TheVariants as purposes
use Rattle.sbp_target.proofs.Histories.Calling.{Good}
use Rattle.sbp_world.specs.Agents.Management.Calls as calls
use Rattle.sbp_world.proofs.Sessions.Tables.{delivery_tabled, tabled}
use Rattle.sbp_world.proofs.Sessions.Writing.{behind}
use Rattle.sbp_world.proofs.Lists.CountedLogins.{live_in}
use Rattle.sbp_world.proofs.Lists.DecisionsDue.{reply_leaves, undecided}
use Rattle.sbp_world.proofs.Lists.GrantSides.{delivery_grants, found_grants, grants}

pub undecided_one : (operation : Option Operation) → undecided operation ≤ 1
undecided_one None = omega arith
undecided_one (Some op) = by (is_written op.phase)
  where
    by : (b : Bool) → cond b 0 1 ≤ 1
    by true = omega arith
    by false = omega arith

-- a request asks for an operation
pub record IsManageRequest (node : NodeState) (generation : ℕ) (bytes : List ℕ) : Type 0 where
  pub packet : Packet
  pub found : (judging_step node.layer generation bytes).0 ≡ of_request packet
  pub orb : ℕ
  pub asks : demand_of (length node.rom) packet ≡ demands.Manage orb

-- what is due behind a delivery
pub data IsDue (node : NodeState) (generation : ℕ) (bytes : List ℕ) (told : List Side) (now : NodeState) : Type 0 where
  rests : 9 * grants told + (8 * undecided now.manager.operation + live_in node.logins.places) ≤ 8 * undecided node.manager.operation + live_in now.logins.places → IsDue node generation bytes told now
  begins : IsManageRequest node generation bytes → grants told ≡ 0 → live_in now.logins.places ≡ live_in node.logins.places → IsDue node generation bytes told now

module _ (node : NodeState) (g : Good node) (keeps : CallsKeep node (record { table = node.logins; keys = node.keys; manager = node.manager; manages = None; asks = Nothing; decided = None })) where
  abbrev o : Office
  o = record { table = node.logins; keys = node.keys; manager = node.manager; manages = None; asks = Nothing; decided = None }

  -- an operation that is under way behind a call is that of the office behind its first note
  pub behind_most : (told : List Side) (first : Office) (now : NodeState) → Agrees (by_sides told first) now → undecided now.manager.operation ≤ undecided first.manager.operation
  behind_most told first now a = by now.manager.operation refl
    where
      by : (operation : Option Operation) → now.manager.operation ≡ operation → undecided operation ≤ undecided first.manager.operation
      by None e = omega arith
      by (Some op) e =
          let same = behind node g keeps told first now a op e in
          let is : undecided (Some op) ≡ undecided first.manager.operation = ap undecided (sym e) ∙ ap (λ (m : Machine). undecided m.operation) same in
          omega (arith, is)

  module _ (generation : ℕ) (bytes : List ℕ) (told : List Side) (now : NodeState) where
    abbrev Due : Type 0
    Due = IsDue node generation bytes told now

    abbrev Is : Finding Purpose → Type 0
    Is f = (judging_step node.layer generation bytes).0 ≡ f

    still : undecided now.manager.operation ≤ undecided node.manager.operation → now.logins ≡ node.logins → grants told ≡ 0 → Due
    still u l e = let same = ap (λ (t : Table). live_in t.places) l in rests (omega (arith, u, same, e))

    demand_due : (p : Packet) → Is (of_request p) → (demand : Demand) → demand_of (length node.rom) p ≡ demand → undecided now.manager.operation ≤ undecided (demanded demand (header_in p).source o).manager.operation → now.logins ≡ node.logins → grants told ≡ 0 → Due
    demand_due p f (demands.Refused rcode) d u l e = still u l e
    demand_due p f (demands.Rom at len) d u l e = still u l e
    demand_due p f (demands.Manage orb) d u l e = begins (record { packet = p; found = f; orb = orb; asks = d }) e (ap (λ (t : Table). live_in t.places) l)
    demand_due p f (demands.Agent place access) d u l e = still u l e

    request_due : (p : Packet) → Is (of_request p) → (b : Bool) → undecided now.manager.operation ≤ undecided (requested b p node o).manager.operation → now.logins ≡ node.logins → grants told ≡ 0 → Due
    request_due p f true u l e = still u l e
    request_due p f false u l e = demand_due p f (demand_of (length node.rom) p) refl u l e

    found_due : (f : Finding Purpose) → Is f → undecided now.manager.operation ≤ undecided (calls.delivered f node o).manager.operation → now.logins ≡ tabled f node → grants told ≡ found_grants node g f → Due
    found_due of_generation f u l e = still u l e
    found_due of_grammar f u l e = still u l e
    found_due of_label f u l e = still u l e
    found_due (of_response p label None) f u l e = still u l e
    found_due (of_response p label (Some (purposes.Agent place))) f u l e = still u l e
    found_due (of_response p label (Some purposes.Management)) f u l e =
        let r = reply_leaves node.manager node.logins node.keys (answer_in p) in
        let same = ap (λ (t : Table). live_in t.places) l in
        rests (omega (arith, u, same, e, r))
    found_due (of_response p label (Some purposes.Unsolicited)) f u l e = still u l e
    found_due (of_again p rcode) f u l e = still u l e
    found_due (of_request p) f u l e = request_due p f (is_barred node p) u l e

  pub delivery_due : (told : Option Told) (disks : List Disk) (generation : ℕ) (bytes : List ℕ) → (let x = (received told generation bytes (whole (scene node empty_outbox) disks)).1 in IsDue node generation bytes x.outbox.sides x.node)
  delivery_due told disks generation bytes =
      let x = (received told generation bytes (whole (scene node empty_outbox) disks)).1 in
      let f = (judging_step node.layer generation bytes).0 in
      found_due generation bytes x.outbox.sides x.node f refl (behind_most x.outbox.sides (calls.delivered f node o) x.node (keeps.deliveries told disks generation bytes))
      (delivery_tabled node g told disks generation bytes) (delivery_grants node g told disks generation bytes)
