-- What the target answers to a request that it gets, by what it keeps, is the reply of the terms: the rcode of the table of addresses and of the state that stands
-- there, and the bytes that a read gives.
use Rattle.std.proofs.Common.{arith, ◌≡◌, ◌∙◌, refl, sym, ap, subst, ℕ, zero, suc, ◌*◌, ◌<◌, ◌≤◌, ◌==◌, ◌&&◌, not, is_some, nat_lt, Bool, true, false, cond, List, [], length, Option, Some, None}
use Rattle.std.proofs.Math.Nat.{suc-ne-zero}
use Rattle.std.proofs.lemmas.Bool.Decides.{nat_tests}
use Rattle.std.proofs.Math.ListN.{get_or-eq_default}
use Rattle.async_packet.specs.Packet.{Packet, lock, lock_response, read_block, read_block_response, read_quadlet, read_quadlet_response, write_block, write_quadlet, write_response}
use Rattle.byteorder.specs.Endian.{big_bytes}
use Rattle.command_agent.specs.Machine.{Machine, state_in}
use Rattle.command_agent.specs.Steps.{point_in, point_step}
use Rattle.command_agent.specs.declared.step.AgentState.{AgentState}
use Rattle.command_agent.specs.declared.step.AgentState.TheVariants as states
use Rattle.config_rom.specs.Make.{made}
use Rattle.orb_layout.specs.Pointers.{pointer_at, quad_bytes}
use Rattle.orb_layout.specs.declared.pointer.OrbPointer.{OrbPointer}
use Rattle.orb_layout.specs.declared.pointer.OrbPointer.TheVariants.{At, Null}
use Rattle.rbc_disk.specs.Disk.{Disk}
use Rattle.sbp_journal.specs.Addresses.{Access, Register, Start, access_of, agent_reset, agent_state, begins_in_rom, doorbell, is_start, lies_in_rom, management_agent, no_start, orb_pointer, register, rom_start, start_at, start_serves, unsolicited_enable}
use Rattle.sbp_journal.specs.Rows.{TargetFacts, target_rcode}
use Rattle.sbp_journal.specs.Run.{Moment}
use Rattle.sbp_laws.specs.JudgementLaw.{rom_quads, rom_size, target_eui}
use Rattle.sbp_laws.specs.Served as laws
use Rattle.sbp_laws.specs.Served.{rom_bytes, target_facts, target_gives, target_reply}
use Rattle.sbp_laws.specs.Targets.{Agent, Target, agent_at, new_agent, over, target_at}
use Rattle.sbp_target.specs.Desks.{new_desk}
use Rattle.sbp_target.specs.Histories.Judgements as nodes
use Rattle.sbp_target.specs.Histories.Judgements.{facts_at, facts_of, gives_at, given_by}
use Rattle.sbp_target.specs.Nodes.{NodeState, desk_at}
use Rattle.sbp_target.specs.Serving as serving
use Rattle.sbp_target.specs.Serving.{last_pointer}
use Rattle.sbp_target.specs.declared.desk.Desk.{Desk}
use Rattle.sbp_world.specs.Agents.Crews.{IsOf}
use Rattle.sbp_world.specs.Agents.Management.Offices.{Agrees, office_of}
use Rattle.sbp_world.specs.Worlds.{Scene}
use Rattle.sbp_world.proofs.Agents.CrewFirsts.{agrees}
use Rattle.sbp_world.proofs.Agents.Management.Still.{hist}
use Rattle.sbp_world.proofs.Hosts.Answering.{answer, asks_block, asks_quadlet, none_is, same_answer}
use Rattle.sbp_world.proofs.Lists.RomStays.{rom_stays}
use Rattle.target_base.proofs.Making.{bytes_size, numbers_size}
use Rattle.turn_laws.proofs.AgentHere.{good}
use Rattle.turn_laws.proofs.Places.{Place}

-- ---- a response to a write has no bytes, and those to a read count where it is complete
pub reply_same : (p : Packet) (access : Access) → access_of p ≡ Some access → (node rcode code : ℕ) (given other : List ℕ) → rcode ≡ code
    → (access.is_write ≡ false → rcode ≡ 0 → given ≡ other) → answer node p rcode given ≡ answer node p code other
reply_same (read_quadlet header offset) access is node rcode code given other e h =
    let g : asks_quadlet false offset ≡ access = cc in same_answer node (read_quadlet header offset) rcode code given other e (h (ap (λ (a : Access). a.is_write) (sym g)))
reply_same (read_block header offset asked) access is node rcode code given other e h =
    let g : asks_block offset asked ≡ access = cc in same_answer node (read_block header offset asked) rcode code given other e (h (ap (λ (a : Access). a.is_write) (sym g)))
reply_same (write_quadlet header offset value) access is node rcode code given other e h = ap (λ n. answer node (write_quadlet header offset value) n given) e
reply_same (write_block header offset payload) access is node rcode code given other e h = ap (λ n. answer node (write_block header offset payload) n given) e
reply_same (lock header offset extended payload) access is node rcode code given other e h = ap (λ n. answer node (lock header offset extended payload) n given) e
reply_same (write_response header rcode) access is node r code given other e h = absurd (none_is is)
reply_same (read_quadlet_response header rcode value) access is node r code given other e h = absurd (none_is is)
reply_same (read_block_response header rcode payload) access is node r code given other e h = absurd (none_is is)
reply_same (lock_response header rcode extended payload) access is node r code given other e h = absurd (none_is is)

-- ---- the tables of the node and of the laws
number_same : (state : AgentState) → laws.state_number state ≡ serving.state_number state
number_same states.Reset = refl
number_same states.Active = refl
number_same states.Suspended = refl
number_same states.Dead = refl

pointer_same : (pointer : Option ℕ) → laws.pointer_bytes (laws.pointer_of pointer) ≡ serving.pointer_bytes (last_pointer pointer)
pointer_same None = refl
pointer_same (Some orb) = refl

pointed_same : (m : Machine) (pointer : OrbPointer) → laws.pointed_rcode (state_in m.phase) pointer ≡ nodes.pointed_rcode (point_step m pointer).0
unfolding point_step
pointed_same m pointer = by (state_in m.phase) pointer
  where
    by : (state : AgentState) (pointer : OrbPointer) → laws.pointed_rcode state pointer ≡ nodes.pointed_rcode (point_in state m pointer).0
    by states.Reset Null = refl
    by states.Reset (At orb) = refl
    by states.Suspended Null = refl
    by states.Suspended (At orb) = refl
    by states.Active pointer = refl
    by states.Dead pointer = refl

-- where a read is complete, its bytes are those of the ROM inside it and else those of the state
abbrev read_facts : (is_lock is_empty inside serves at : Bool) → (code : ℕ) → TargetFacts
read_facts is_lock is_empty inside serves at code = record {
  is_lock = is_lock;
  is_empty = is_empty;
  writes_rom = false;
  reads_rom = inside;
  is_served = serves;
  by_state = code;
  is_start = at;
}

rows_give : (l e inside serves at : Bool) (code : ℕ) (rom state : List ℕ) → target_rcode (read_facts l e inside serves at code) ≡ 0
    → given_by (read_facts l e inside serves at code) rom state ≡ cond inside rom state
rows_give true e inside serves at code rom state z = absurd (suc-ne-zero 5 z)
rows_give false true inside serves at code rom state z = absurd (suc-ne-zero 5 z)
rows_give false false true serves at code rom state z = refl
rows_give false false false true at code rom state z = refl
rows_give false false false false true code rom state z = absurd (suc-ne-zero 5 z)
rows_give false false false false false code rom state z = absurd (suc-ne-zero 6 z)

gives_by : (b : Bool) (units : ℕ) (target : Target) (access : Access)
    → target_gives b units target access ≡ cond b (laws.rom_gives 0 units access) (laws.start_gives (start_at access.offset) target)
gives_by true units target access = refl
gives_by false units target access = refl

-- ---- the ROM that is made
quads_are : (units : ℕ) → length (made target_eui units) ≡ rom_quads units
unfolding made
quads_are zero = refl
quads_are (suc units) = let rest = numbers_size 0 (suc units) in omega (arith, rest)

-- ---- at a place
record IsSame (a : Agent) (desk : Desk) : Type 0 where
  state : state_in a.machine.phase ≡ state_in desk.agent.phase
  pointer : a.pointer ≡ desk.pointer

module _ (units ready : ℕ) (has : 0 < units) (start : List Disk) (past : List Moment) (s : Scene) (here : Place units ready start past s) where
  abbrev node : NodeState
  node = s.world.target

  abbrev pub target : Target
  target = over (target_at start (hist past s.world))

  rom_made : node.rom ≡ quad_bytes (made target_eui units)
  rom_made = ap (λ (n : NodeState). n.rom) (sym here.holds.made) ∙ rom_stays units ready here.holds.calls

  rom_is : node.rom ≡ rom_bytes 0 (length start)
  rom_is = rom_made ∙ ap (λ n. rom_bytes 0 n) (sym here.size)

  size_is : length node.rom ≡ rom_size 0 (length start)
  size_is =
      ap (λ (xs : List ℕ). length xs) rom_made ∙ bytes_size (made target_eui units) ∙ ap (λ n. 4 * n) (quads_are units)
      ∙ ap (λ n. rom_size 0 n) (sym here.size)

  -- each agent has the state and the pointer of its desk
  agent_same : (place : ℕ) → IsSame (agent_at target place) (desk_at node place)
  agent_same place = by (nat_lt place 8) refl
    where
      by : (b : Bool) → nat_lt place 8 ≡ b → IsSame (agent_at target place) (desk_at node place)
      by true f =
          let one : IsOf here.agents.requests (agent_at target place) (desk_at node place) = here.agents.are.each place (grind (arith, nat_tests)) in
          record { state = ap state_in one.machine.phase; pointer = one.pointer }
      by false f =
          let far : 8 ≤ place = grind (arith, nat_tests) in
          let agents = here.agents.are.size in
          let desks = (good units ready has start past s here).mid.size in
          let none : agent_at target place ≡ new_agent = get_or-eq_default target.agents new_agent (omega (arith, far, agents)) in
          let empty : desk_at node place ≡ new_desk = get_or-eq_default node.desks new_desk (omega (arith, far, desks)) in
          record {
            state = ap (λ (a : Agent). state_in a.machine.phase) none ∙ sym (ap (λ (d : Desk). state_in d.agent.phase) empty);
            pointer = ap (λ (a : Agent). a.pointer) none ∙ sym (ap (λ (d : Desk). d.pointer) empty);
          }

  same : Agrees (office_of target) node
  same = agrees units ready has start s.world here.holds

  -- the node as it is then: as it was but for its layer
  module _ (now : NodeState) (desks : now.desks ≡ node.desks) (manager : now.manager ≡ node.manager) (rom : now.rom ≡ node.rom) (access : Access) where
    desk_is : (place : ℕ) → desk_at now place ≡ desk_at node place
    desk_is place = ap (λ ds. desk_at (record node { desks = ds }) place) desks

    there : (place : ℕ) → IsSame (agent_at target place) (desk_at now place)
    there place = subst (IsSame (agent_at target place)) (sym (desk_is place)) (agent_same place)

    register_code : (name : Register) (place : ℕ) → laws.register_rcode name (agent_at target place) access ≡ nodes.register_rcode now place name access
    register_code agent_state place = refl
    register_code agent_reset place = refl
    register_code orb_pointer place =
        let pointer = pointer_at access.payload 0 in
        ap (λ n. cond access.is_write n 0) (ap (λ state. laws.pointed_rcode state pointer) (there place).state ∙ pointed_same (desk_at now place).agent pointer)
    register_code doorbell place = refl
    register_code unsolicited_enable place = refl

    state_code : (at : Start) → laws.state_rcode at target access ≡ nodes.state_rcode now at access
    state_code management_agent = ap (λ m. cond (is_some m.operation) 4 0) (same.manager ∙ sym manager)
    state_code (register place name) = register_code name place
    state_code rom_start = refl
    state_code no_start = refl

    facts_same : target_facts (rom_size 0 (length start)) target access ≡ facts_at now access
    facts_same =
        ap (λ size. facts_of size (laws.state_rcode (start_at access.offset) target access) access) (sym (ap (λ (xs : List ℕ). length xs) rom ∙ size_is))
        ∙ ap (λ code. facts_of (length now.rom) code access) (state_code (start_at access.offset))

    pub code_same : target_rcode (facts_at now access) ≡ (target_reply start target access).rcode
    code_same = ap target_rcode (sym facts_same)

    -- the bytes of a read
    module _ (reads : access.is_write ≡ false) where
      register_bytes : (name : Register) (place : ℕ) → laws.register_gives name (agent_at target place) ≡ nodes.register_gives now place name access
      register_bytes agent_state place =
          ap (λ state. big_bytes 4 (laws.state_number state)) (there place).state ∙ ap (λ n. big_bytes 4 n) (number_same (state_in (desk_at now place).agent.phase))
      register_bytes agent_reset place = refl
      register_bytes orb_pointer place =
          ap (λ pointer. laws.pointer_bytes (laws.pointer_of pointer)) (there place).pointer ∙ pointer_same (desk_at now place).pointer
          ∙ ap (λ b. cond b [] (serving.pointer_bytes (last_pointer (desk_at now place).pointer))) (sym reads)
      register_bytes doorbell place = refl
      register_bytes unsolicited_enable place = refl

      state_bytes : (at : Start) → laws.start_gives at target ≡ nodes.state_gives now at access
      state_bytes management_agent = refl
      state_bytes (register place name) = register_bytes name place
      state_bytes rom_start = refl
      state_bytes no_start = refl

      pub bytes_same : target_rcode (facts_at now access) ≡ 0 → gives_at now access ≡ (target_reply start target access).given
      bytes_same z =
          let size = length now.rom in
          let code = nodes.state_rcode now (start_at access.offset) access in
          let serves = start_serves (start_at access.offset) access in
          let inside = lies_in_rom size access in
          let rom_given = nodes.rom_gives now access in
          let state_given = nodes.state_gives now (start_at access.offset) access in
          let By : Bool → TargetFacts = λ w. record {
            is_lock = access.is_lock;
            is_empty = access.count == 0;
            writes_rom = w && begins_in_rom size access;
            reads_rom = not w && inside;
            is_served = serves;
            by_state = code;
            is_start = is_start (start_at access.offset);
          } in
          let bytes_are : laws.rom_gives 0 (length start) access ≡ rom_given = ap (λ xs. nodes.rom_gives (record now { rom = xs }) access) (sym (rom ∙ rom_is)) in
          ap (λ w. given_by (By w) rom_given state_given) reads
          ∙ (rows_give access.is_lock (access.count == 0) inside serves (is_start (start_at access.offset)) code rom_given state_given (sym (ap (λ w. target_rcode (By w)) reads) ∙ z)
          ∙ (ap (λ xs. cond inside xs state_given) (sym bytes_are)
          ∙ (ap (λ xs. cond inside (laws.rom_gives 0 (length start) access) xs) (sym (state_bytes (start_at access.offset)))
          ∙ (ap (λ n. cond (lies_in_rom n access) (laws.rom_gives 0 (length start) access) (laws.start_gives (start_at access.offset) target)) (ap (λ (xs : List ℕ). length xs) rom ∙ size_is)
          ∙ sym (gives_by (lies_in_rom (rom_size 0 (length start)) access) (length start) target access)))))
