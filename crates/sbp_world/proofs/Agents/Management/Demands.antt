-- What a request asks of the target, as the laws read it by its address and as the target reads it.
use Rattle.sbp_world.proofs.Words.Std.{arith, ◌≡◌, ◌∙◌, refl, sym, ap, subst, ℕ, ◌≤◌, ◌==◌, Bool, true, false, cond, List, length, Option, Some, None, nat_tests}
use Rattle.sbp_world.proofs.Words.Wire.{Packet, lock, lock_response, read_block, read_block_response, read_quadlet, read_quadlet_response, write_block, write_quadlet, write_response, Access, Start, access_of, management_agent, no_start, register, rom_start, start_at, start_serves}
use Rattle.sbp_world.proofs.Words.Target.{AgentAccess, AgentRegister, Demand, accessed, accessed_at, demand_by, demand_of, management_start, offset_in, or_nowhere, reached, register_at, row_of, served_by, asked_at, asked_of}
use Rattle.sbp_world.proofs.Words.Initiator.{offset_at}
use Rattle.sbp_world.proofs.Words.World.{demanded, Office}
use Rattle.target_base.specs.declared.address.Demand.TheVariants as demands
use Rattle.target_base.specs.Addresses.{managed, served}
use Rattle.sbp_target.proofs.Histories.Asked.{serves_is}
use Rattle.sbp_world.proofs.Agents.Management.Firsts.{served_office, start_office}

module _ (source : ℕ) (o : Office) where
  abbrev Not : Option Demand → Type 0
  Not found = demanded (or_nowhere found) source o ≡ o

  accessed_not : (place : ℕ) (x : Option AgentAccess) → Not (accessed_at place x)
  accessed_not place None = refl
  accessed_not place (Some access) = refl

  register_not : (x : Option AgentRegister) (p : Packet) → Not (served_by x p)
  register_not None p = refl
  register_not (Some found) p = accessed_not found.place (accessed found.register p)

  pick_not : (b : Bool) (x y : Option Demand) → (b ≡ true → Not x) → Not y → Not (cond b x y)
  pick_not true x y h i = h refl
  pick_not false x y h i = i

  -- where nothing of the operation is served
  other_not : (p : Packet) → managed p ≡ None → Not (served (offset_in p) p)
  other_not p e =
      pick_not (offset_in p == management_start) (managed p) (served_by (register_at (offset_in p)) p) (λ f. subst Not (sym e) refl) (register_not (register_at (offset_in p)) p)

  block_not : (b : Bool) (offset : ℕ) (payload : List ℕ) → (length payload == 8) ≡ b → offset ≡ management_start → start_serves (start_at offset) (record { is_lock = false; is_write = true; is_block = true; offset = offset; count = length payload; payload = payload }) ≡ false → Not (cond b (Some (demands.Manage (offset_at payload 0))) None)
  unfolding start_at
  block_not false offset payload e f n = refl
  block_not true offset payload e f n =
      let access : Access = record { is_lock = false; is_write = true; is_block = true; offset = offset; count = length payload; payload = payload } in
      let serves : start_serves (start_at offset) access ≡ true = ap (λ x. start_serves (start_at x) access) f ∙ e in
      absurd (let no : false ≡ true = sym n ∙ serves in cc)

  served_not : (p : Packet) (access : Access) → access_of p ≡ Some access → start_serves (start_at access.offset) access ≡ false → Not (served (offset_in p) p)
  served_not (write_quadlet header offset value) access a n = other_not (write_quadlet header offset value) refl
  served_not (write_block header offset payload) access a n =
      let is : access ≡ record { is_lock = false; is_write = true; is_block = true; offset = offset; count = length payload; payload = payload } = cc in
      pick_not (offset == management_start) (managed (write_block header offset payload)) (served_by (register_at offset) (write_block header offset payload))
      (λ f. block_not (length payload == 8) offset payload refl (let z : offset ≡ management_start = grind (arith, nat_tests) in z) (sym (ap (λ (x : Access). start_serves (start_at x.offset) x) is) ∙ n))
      (register_not (register_at offset) (write_block header offset payload))
  served_not (write_response header rcode) access a n = other_not (write_response header rcode) refl
  served_not (read_quadlet header offset) access a n = other_not (read_quadlet header offset) refl
  served_not (read_block header offset asked) access a n = other_not (read_block header offset asked) refl
  served_not (read_quadlet_response header rcode value) access a n = other_not (read_quadlet_response header rcode value) refl
  served_not (read_block_response header rcode payload) access a n = other_not (read_block_response header rcode payload) refl
  served_not (lock header offset extended payload) access a n = other_not (lock header offset extended payload) refl
  served_not (lock_response header rcode extended payload) access a n = other_not (lock_response header rcode extended payload) refl

  rows_not : (l e w r s a : Bool) (p : Packet) → Not (served (offset_in p) p) → demanded (demand_by (row_of (record { is_lock = l; is_empty = e; writes_rom = w; reads_rom = r; is_served = s; is_start = a })) p) source o ≡ o
  rows_not true e w r s a p h = refl
  rows_not false true w r s a p h = refl
  rows_not false false true r s a p h = refl
  rows_not false false false true s a p h = refl
  rows_not false false false false true a p h = h
  rows_not false false false false false true p h = refl
  rows_not false false false false false false p h = refl

  demand_not : (size : ℕ) (p : Packet) (access : Access) → access_of p ≡ Some access → start_serves (start_at access.offset) access ≡ false → demanded (demand_of size p) source o ≡ o
  unfolding demand_of
  demand_not size p access a n =
      let f = reached size p in rows_not f.is_lock f.is_empty f.writes_rom f.reads_rom f.is_served f.is_start p (served_not p access a n)

  asked_as : (start : Start) (access : Access) (d : Demand) → Some d ≡ asked_at start access → demanded d source o ≡ start_office start source access o
  asked_as management_agent access d e = ap (λ x. demanded x source o) (let z : d ≡ demands.Manage (offset_at access.payload 0) = cc in z)
  asked_as (register place name) access d e = ap (λ x. demanded x source o) (let z : d ≡ demands.Agent place (asked_of name access) = cc in z)
  asked_as rom_start access d e = absurd (none_not e)
    where
      none_not : {x : Demand} → Some x ≡ None → ⊥
      none_not e = cc
  asked_as no_start access d e = absurd (none_not e)
    where
      none_not : {x : Demand} → Some x ≡ None → ⊥
      none_not e = cc

  by_serving : (b : Bool) (size : ℕ) (p : Packet) (access : Access) → access_of p ≡ Some access → size ≤ 1024 → start_serves (start_at access.offset) access ≡ b → demanded (demand_of size p) source o ≡ served_office b (start_at access.offset) source access o
  by_serving true size p access a small e = asked_as (start_at access.offset) access (demand_of size p) (serves_is p access a size small e)
  by_serving false size p access a small e = demand_not size p access a e

  pub demand_is : (size : ℕ) (p : Packet) (access : Access) → access_of p ≡ Some access → size ≤ 1024 → demanded (demand_of size p) source o ≡ served_office (start_serves (start_at access.offset) access) (start_at access.offset) source access o
  demand_is size p access a small = by_serving (start_serves (start_at access.offset) access) size p access a small refl

-- a request that starts an operation is of MANAGEMENT_AGENT
manage_start : (start : Start) (access : Access) (orb : ℕ) → Some (demands.Manage orb) ≡ asked_at start access → start ≡ management_agent
manage_start management_agent access orb e = refl
manage_start (register place name) access orb e = absurd (agent_not e)
  where
    agent_not : {y : AgentAccess} → Some (demands.Manage orb) ≡ Some (demands.Agent place y) → ⊥
    agent_not e = cc
manage_start rom_start access orb e = absurd (let no : Some (demands.Manage orb) ≡ None = e in cc)
manage_start no_start access orb e = absurd (let no : Some (demands.Manage orb) ≡ None = e in cc)

pub starts_at : (size orb : ℕ) (p : Packet) (access : Access) → access_of p ≡ Some access → size ≤ 1024 → start_serves (start_at access.offset) access ≡ true → demand_of size p ≡ demands.Manage orb → start_at access.offset ≡ management_agent
starts_at size orb p access a small s d = manage_start (start_at access.offset) access orb (sym (ap Some d) ∙ serves_is p access a size small s)
