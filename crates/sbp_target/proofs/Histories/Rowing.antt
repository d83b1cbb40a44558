-- What a target answers is the row of the tables that nodes and laws share.
use Rattle.std.proofs.Common.{◌≡◌, refl, sym, ap, ◌∙◌, subst, ℕ, ◌-◌, ◌==◌, ◌&&◌, not, is_some, Bool, true, false, cond, List, [], ◌∷◌, ◌++◌, length, take, drop, Option, Some, None, IfSome, Result, Ok, Err}
use Rattle.byteorder.specs.Endian.{big_bytes}
use Rattle.async_packet.specs.Packet.{Packet, header_in, write_quadlet, write_block, write_response, read_quadlet, read_block, read_quadlet_response, read_block_response, lock, lock_response}
use Rattle.label_table.specs.Layer.{answering_step, asking_step}
use Rattle.label_table.specs.declared.judgement.Asked.{Asked}
use Rattle.login_table.specs.declared.login.Login.{Login}
use Rattle.orb_layout.specs.declared.ask.Ask.{Ask}
use Rattle.orb_layout.specs.declared.pointer.OrbPointer.{OrbPointer}
use Rattle.orb_layout.specs.Pointers.{pointer_at}
use Rattle.mgmt_agent.specs.declared.operation.Operation.{Operation}
use Rattle.mgmt_agent.specs.Machine.{start_step, start_with}
use Rattle.command_agent.specs.declared.step.PointRefusal.{PointRefusal}
use Rattle.command_agent.specs.declared.step.PointRefusal.TheVariants as refusals
use Rattle.command_agent.specs.Machine.{Machine, state_in}
use Rattle.command_agent.specs.Steps.{asks, doorbell_step, point_step}
use Rattle.sbp_journal.specs.declared.cause.Cause.TheVariants as causes
use Rattle.sbp_journal.specs.declared.cause.CutCause.TheVariants as cuts
use Rattle.sbp_journal.specs.declared.cause.Judged.{Judged}
use Rattle.sbp_journal.specs.declared.cause.Judged.TheVariants as judged
use Rattle.sbp_journal.specs.declared.outbox.Outgoing.{Outgoing}
use Rattle.sbp_journal.specs.declared.side.Side.TheVariants as sides
use Rattle.sbp_journal.specs.Addresses as table
use Rattle.sbp_journal.specs.Addresses.{Register, agent_state, agent_reset, orb_pointer, doorbell, unsolicited_enable, Start, rom_start, management_agent, register, no_start, start_at, start_serves, begins_in_rom, lies_in_rom, access_of, rom_base, management_address}
use Rattle.sbp_journal.specs.Rows.{TargetFacts, target_rcode, judging_of, Judging}
use Rattle.target_base.specs.declared.address.Access.{Access}
use Rattle.target_base.specs.declared.address.Access.TheVariants as accesses
use Rattle.target_base.specs.declared.address.AgentRegister.{AgentRegister}
use Rattle.target_base.specs.declared.address.Demand.{Demand}
use Rattle.target_base.specs.declared.address.Demand.TheVariants as demands
use Rattle.sbp_target.specs.declared.desk.Desk.{Desk}
use Rattle.target_base.specs.Addresses.{complete, demand_of, or_nowhere, register_at}
use Rattle.sbp_target.specs.Desks.{point_desk, pointed_desk}
use Rattle.sbp_target.specs.Nodes.{NodeState, Scene, scene, desk_at, login_at, with_desk, with_agent}
use Rattle.sbp_target.specs.Agents.{cut}
use Rattle.sbp_target.specs.Sending.{answer_step, with_side}
use Rattle.sbp_target.specs.Telling.{orb_of}
use Rattle.target_base.specs.Logins.{is_barred_at}
use Rattle.sbp_target.specs.Serving.{accessed_by, answered, asked_in, enabled, is_barred, last_pointer, point, pointed_by, pointer_bytes, request_step, ring, rung_by, serve, served_as, start, started_by, state_number}
use Rattle.sbp_target.specs.Histories.Layers.{request, with_asked}
use Rattle.sbp_target.specs.Histories.Answers.{response_of}
use Rattle.sbp_target.specs.Histories.Judgements.{is_of_no_login, judged_by, judged_as, asked_of, asked_at, pointed_rcode, register_rcode, state_rcode, register_gives, state_gives, given_by, facts_at, gives_at, BeginsWith, row_rcode, row_gives, RowLaw}
use Rattle.sbp_target.proofs.Histories.Pass.{Said, At, Keeps, cuts_at, follows, asks_manager}
use Rattle.sbp_target.proofs.Histories.Answered.{Nothing, leave_nothing}
use Rattle.sbp_target.proofs.Histories.Rowed.{start_by, start_is, management_apart, rom_apart}
use Rattle.sbp_target.proofs.Histories.Asked.{Rows, demand_is, serves_is, of_access}

-- ---- the response to what is asked for
abbrev access_rcode : NodeState → ℕ → Access → ℕ
access_rcode node place (accesses.Point pointer) = pointed_rcode (point_step (desk_at node place).agent pointer).0
access_rcode node place accesses.State = 0
access_rcode node place accesses.Reset = 0
access_rcode node place accesses.Pointer = 0
access_rcode node place accesses.Ring = 0
access_rcode node place accesses.Enable = 0

abbrev access_gives : NodeState → ℕ → Access → List ℕ
access_gives node place accesses.State = big_bytes 4 (state_number (state_in (desk_at node place).agent.phase))
access_gives node place accesses.Pointer = pointer_bytes (last_pointer (desk_at node place).pointer)
access_gives node place (accesses.Point pointer) = []
access_gives node place accesses.Reset = []
access_gives node place accesses.Ring = []
access_gives node place accesses.Enable = []

abbrev demand_rcode : NodeState → Demand → ℕ
demand_rcode node (demands.Refused rcode) = rcode
demand_rcode node (demands.Rom at len) = 0
demand_rcode node (demands.Manage orb) = cond (is_some node.manager.operation) 4 0
demand_rcode node (demands.Agent place access) = access_rcode node place access

abbrev demand_gives : NodeState → Demand → List ℕ
demand_gives node (demands.Refused rcode) = []
demand_gives node (demands.Rom at len) = take len (drop at node.rom)
demand_gives node (demands.Manage orb) = []
demand_gives node (demands.Agent place access) = access_gives node place access

module _ (node : ℕ) (p : Packet) (rcode : ℕ) (given : List ℕ) where
  abbrev Begins : Said
  Begins = λ layer packets. BeginsWith node p rcode given packets

  begins_asks : (peer : ℕ) (asked : Option Asked) (packets : List Outgoing) → BeginsWith node p rcode given packets → BeginsWith node p rcode given (with_asked peer asked packets)
  begins_asks peer None packets b = b
  begins_asks peer (Some asked) packets b = record {
    more = b.more ++ request peer asked ∷ [];
    packets_are = ap (λ (ps : List Outgoing). ps ++ request peer asked ∷ []) b.packets_are;
  }

  keeps_first : Keeps Begins
  keeps_first = record {
    leaves = record { disowns = λ layer packets peer label b. b };
    asks = λ layer packets peer body purpose b. begins_asks peer (asking_step layer peer body purpose).0 packets b;
  }

  begins : (bytes : List ℕ) (s : Scene) → At (Nothing node) s → At Begins (answered p bytes rcode given s)
  unfolding answer_step answering_step
  begins bytes s h = record {
    more = [];
    packets_are = ap (λ (ps : List Outgoing). ps ++ response_of s.node.layer.node p rcode given ∷ []) h.1 ∙ ap (λ (n : ℕ). response_of n p rcode given ∷ []) h.0;
  }

  asked_after : (place : ℕ) (ask : Ask) (login : Option Login) (s : Scene) → At Begins s → At Begins (asked_in place ask login s)
  asked_after place ask None s h = h
  asked_after place ask (Some login) s h = follows Begins keeps_first place login (asks ask) s h

module _ (node : ℕ) (p : Packet) (bytes : List ℕ) where
  points_first : (place : ℕ) (r : Result Ask PointRefusal × Desk) (s : Scene) → At (Nothing node) s → At (Begins node p (pointed_rcode r.0) []) (pointed_by place p bytes r s)
  points_first place (Ok ask, desk) s h =
      let t = scene (with_desk s.node place desk) (with_side s.outbox (sides.Opened place (orb_of desk.agent))) in
      let u = answered p bytes complete [] t in
      asked_after node p 0 [] place ask (login_at u.node place) u (begins node p 0 [] bytes t h)
  points_first place (Err refusals.Conflict, desk) s h = begins node p 4 [] bytes (scene (with_desk s.node place desk) s.outbox) h
  points_first place (Err refusals.Null, desk) s h = begins node p 5 [] bytes (scene (with_desk s.node place desk) s.outbox) h

  same_refusal : (desk : Desk) (r : Result Ask PointRefusal × Machine) → (pointed_desk desk r).0 ≡ r.0
  same_refusal desk (Ok ask, m) = refl
  same_refusal desk (Err refusal, m) = refl

  point_first : (place : ℕ) (pointer : OrbPointer) (s : Scene) → At (Nothing node) s → At (Begins node p (pointed_rcode (point_step (desk_at s.node place).agent pointer).0) []) (point place pointer p bytes s)
  unfolding point
  point_first place pointer s h =
      subst (λ (r : Result Ask PointRefusal). At (Begins node p (pointed_rcode r) []) (pointed_by place p bytes (point_desk (desk_at s.node place) pointer) s)) (same_refusal (desk_at s.node place) (point_step (desk_at s.node place).agent pointer))
      (points_first place (point_desk (desk_at s.node place) pointer) s h)

  rings_first : (place : ℕ) (r : Ask × Machine) (s : Scene) → At (Nothing node) s → At (Begins node p 0 []) (rung_by place p bytes r s)
  rings_first place (ask, m) s h =
      let t = scene (with_agent s.node place m) s.outbox in
      let u = answered p bytes complete [] t in
      asked_after node p 0 [] place ask (login_at u.node place) u (begins node p 0 [] bytes t h)

  ring_first : (place : ℕ) (s : Scene) → At (Nothing node) s → At (Begins node p 0 []) (ring place p bytes s)
  unfolding ring
  ring_first place s h = rings_first place (doorbell_step (desk_at s.node place).agent) s h

  accesses_first : (access : Access) (place : ℕ) (s : Scene) → At (Nothing node) s → At (Begins node p (access_rcode s.node place access) (access_gives s.node place access)) (accessed_by access place p bytes s)
  accesses_first accesses.State place s h = begins node p 0 _ bytes s h
  accesses_first accesses.Reset place s h = begins node p 0 [] bytes (cut cuts.AgentReset place s) (cuts_at (Nothing node) (leave_nothing node) cuts.AgentReset place s h)
  accesses_first (accesses.Point pointer) place s h = point_first place pointer s h
  accesses_first accesses.Pointer place s h = begins node p 0 _ bytes s h
  accesses_first accesses.Ring place s h = ring_first place s h
  accesses_first accesses.Enable place s h = begins node p 0 [] bytes (enabled place s) h

  starts_first : (operation : Option Operation) (orb : ℕ) (s : Scene) → At (Nothing node) s → At (Begins node p (cond (is_some operation) 4 0) []) (started_by (header_in p).source p bytes (start_with operation s.node.manager (header_in p).source orb) s)
  starts_first None orb s h =
      let m = (start_with None s.node.manager (header_in p).source orb).1 in
      let t = scene (record s.node { manager = m }) s.outbox in
      asks_manager (Begins node p 0 []) (keeps_first node p 0 []) (header_in p).source _ (answered p bytes complete [] t) (begins node p 0 [] bytes t h)
  starts_first (Some operation) orb s h = begins node p 4 [] bytes (scene (record s.node { manager = s.node.manager }) s.outbox) h

  start_first : (orb : ℕ) (s : Scene) → At (Nothing node) s → At (Begins node p (cond (is_some s.node.manager.operation) 4 0) []) (start orb p bytes s)
  unfolding start start_step
  start_first orb s h = starts_first s.node.manager.operation orb s h

  serves_first : (demand : Demand) (s : Scene) → At (Nothing node) s → At (Begins node p (demand_rcode s.node demand) (demand_gives s.node demand)) (served_as demand p bytes s)
  serves_first (demands.Refused rcode) s h = begins node p rcode [] bytes s h
  serves_first (demands.Rom at len) s h = begins node p 0 _ bytes s h
  serves_first (demands.Manage orb) s h = start_first orb s h
  serves_first (demands.Agent place access) s h = accesses_first access place s h

  serve_first : (s : Scene) → At (Nothing node) s → At (Begins node p (demand_rcode s.node (demand_of (length s.node.rom) p)) (demand_gives s.node (demand_of (length s.node.rom) p))) (serve p bytes s)
  unfolding serve
  serve_first s h = serves_first (demand_of (length s.node.rom) p) s h

-- ---- which is that of the table
register_says : (node : NodeState) (place : ℕ) (name : Register) (access : table.Access) → access_rcode node place (asked_of name access) ≡ register_rcode node place name access
register_says node place agent_state access = refl
register_says node place agent_reset access = refl
register_says node place orb_pointer access = by_kind access.is_write
  where
    by_kind : (b : Bool) → access_rcode node place (cond b (accesses.Point (pointer_at access.payload 0)) accesses.Pointer) ≡ cond b (pointed_rcode (point_step (desk_at node place).agent (pointer_at access.payload 0)).0) 0
    by_kind true = refl
    by_kind false = refl
register_says node place doorbell access = refl
register_says node place unsolicited_enable access = refl

register_given : (node : NodeState) (place : ℕ) (name : Register) (access : table.Access) → access_gives node place (asked_of name access) ≡ register_gives node place name access
register_given node place agent_state access = refl
register_given node place agent_reset access = refl
register_given node place orb_pointer access = by_kind access.is_write
  where
    by_kind : (b : Bool) → access_gives node place (cond b (accesses.Point (pointer_at access.payload 0)) accesses.Pointer) ≡ cond b [] (pointer_bytes (last_pointer (desk_at node place).pointer))
    by_kind true = refl
    by_kind false = refl
register_given node place doorbell access = refl
register_given node place unsolicited_enable access = refl

state_says : (node : NodeState) (start : Start) (access : table.Access) → start_serves start access ≡ true → demand_rcode node (or_nowhere (asked_at start access)) ≡ state_rcode node start access
state_says node management_agent access s = refl
state_says node (register place name) access s = register_says node place name access
state_says node rom_start access s = cc
state_says node no_start access s = cc

state_given : (node : NodeState) (start : Start) (access : table.Access) → start_serves start access ≡ true → demand_gives node (or_nowhere (asked_at start access)) ≡ state_gives node start access
state_given node management_agent access s = refl
state_given node (register place name) access s = register_given node place name access
state_given node rom_start access s = cc
state_given node no_start access s = cc

abbrev FactsBy : (by_state : ℕ) (l e w r s a : Bool) → TargetFacts
FactsBy by_state l e w r s a = record { is_lock = l; is_empty = e; writes_rom = w; reads_rom = r; is_served = s; by_state = by_state; is_start = a }

rcode_by : (node : NodeState) (by_state at len : ℕ) (asked : Demand) (l e w r s a : Bool) → (s ≡ true → demand_rcode node asked ≡ by_state) → demand_rcode node (Rows l e w r s a (demands.Rom at len) asked) ≡ target_rcode (FactsBy by_state l e w r s a)
rcode_by node by_state at len asked true e w r s a h = refl
rcode_by node by_state at len asked false true w r s a h = refl
rcode_by node by_state at len asked false false true r s a h = refl
rcode_by node by_state at len asked false false false true s a h = refl
rcode_by node by_state at len asked false false false false true a h = h refl
rcode_by node by_state at len asked false false false false false true h = refl
rcode_by node by_state at len asked false false false false false false h = refl

gives_by : (node : NodeState) (by_state at len : ℕ) (state : List ℕ) (asked : Demand) (l e w r s a : Bool) → (s ≡ true → demand_gives node asked ≡ state) → demand_gives node (Rows l e w r s a (demands.Rom at len) asked) ≡ given_by (FactsBy by_state l e w r s a) (take len (drop at node.rom)) state
gives_by node by_state at len state asked true e w r s a h = refl
gives_by node by_state at len state asked false true w r s a h = refl
gives_by node by_state at len state asked false false true r s a h = refl
gives_by node by_state at len state asked false false false true s a h = refl
gives_by node by_state at len state asked false false false false true a h = h refl
gives_by node by_state at len state asked false false false false false true h = refl
gives_by node by_state at len state asked false false false false false false h = refl

module _ (node : NodeState) (p : Packet) (access : table.Access) (is : access_of p ≡ Some access) where
  rcode_is : demand_rcode node (demand_of (length node.rom) p) ≡ target_rcode (facts_at node access)
  rcode_is =
      let start = start_at access.offset in
      ap (λ (d : Demand). demand_rcode node d) (demand_is (length node.rom) p access is)
      ∙ rcode_by node (state_rcode node start access) (access.offset - rom_base) access.count (or_nowhere (asked_at start access)) access.is_lock (access.count == 0) (access.is_write && begins_in_rom (length node.rom) access) (not access.is_write && lies_in_rom (length node.rom) access) (start_serves start access) (table.is_start start) (state_says node start access)

  gives_is : demand_gives node (demand_of (length node.rom) p) ≡ gives_at node access
  gives_is =
      let start = start_at access.offset in
      ap (λ (d : Demand). demand_gives node d) (demand_is (length node.rom) p access is)
      ∙ gives_by node (state_rcode node start access) (access.offset - rom_base) access.count (state_gives node start access) (or_nowhere (asked_at start access)) access.is_lock (access.count == 0) (access.is_write && begins_in_rom (length node.rom) access) (not access.is_write && lies_in_rom (length node.rom) access) (start_serves start access) (table.is_start start) (state_given node start access)

-- ---- judging
barred_in : (node : NodeState) (source : ℕ) (r m : Bool) (found : Option AgentRegister) → (r ≡ true → (m ≡ false) × (found ≡ None)) → (m ≡ true → found ≡ None) → is_barred_at found node.logins source ≡ is_of_no_login node source (start_by r m found)
barred_in node source true m found a b = ap (λ (f : Option AgentRegister). is_barred_at f node.logins source) (a refl).1
barred_in node source false true found a b = ap (λ (f : Option AgentRegister). is_barred_at f node.logins source) (b refl)
barred_in node source false false None a b = refl
barred_in node source false false (Some found) a b = refl

barred_there : (node : NodeState) (source offset : ℕ) → is_barred_at (register_at offset) node.logins source ≡ is_of_no_login node source (start_at offset)
barred_there node source offset =
    barred_in node source (offset == rom_base) (offset == management_address) (register_at offset) (rom_apart offset) (management_apart offset)
    ∙ ap (λ (s : Start). is_of_no_login node source s) (start_is offset)

barred_at : (node : NodeState) (p : Packet) → IfSome (access_of p) (λ access. is_barred node p ≡ (not access.is_lock && is_of_no_login node (header_in p).source (start_at access.offset)))
unfolding is_barred
barred_at node (write_quadlet h offset value) = barred_there node h.source offset
barred_at node (write_block h offset payload) = barred_there node h.source offset
barred_at node (read_quadlet h offset) = barred_there node h.source offset
barred_at node (read_block h offset asked) = barred_there node h.source offset
barred_at node (lock h offset extended payload) = refl
barred_at node (write_response h rcode) = tt
barred_at node (read_quadlet_response h rcode value) = tt
barred_at node (read_block_response h rcode payload) = tt
barred_at node (lock_response h rcode extended payload) = tt

-- the request by the word whether it is barred
abbrev Step : Bool → Packet → List ℕ → Scene → Judged × Scene
Step b p bytes s = cond b (judged.Ignored causes.Login, answered p bytes 7 [] s) (judged.Got, serve p bytes s)

step_is : (p : Packet) (bytes : List ℕ) (s : Scene) → request_step p bytes s ≡ Step (is_barred s.node p) p bytes s
unfolding request_step
step_is p bytes s = refl

judged_in : (b : Bool) (node : NodeState) (source : ℕ) (access : table.Access) (p : Packet) (bytes : List ℕ) (s : Scene) → (Step b p bytes s).0 ≡ judged_as (judging_of (record (judged_by node source access) { of_other_login = b }))
judged_in true node source access p bytes s = refl
judged_in false node source access p bytes s = refl

answers_in : (b : Bool) (source : ℕ) (access : table.Access) (p : Packet) (bytes : List ℕ) (s : Scene) → access_of p ≡ Some access → s.outbox.packets ≡ [] → BeginsWith s.node.layer.node p (row_rcode (judging_of (record (judged_by s.node source access) { of_other_login = b })) (target_rcode (facts_at s.node access))) (row_gives (judging_of (record (judged_by s.node source access) { of_other_login = b })) (gives_at s.node access)) (Step b p bytes s).1.outbox.packets
answers_in true source access p bytes s is none = begins s.node.layer.node p 7 [] bytes s (refl, none)
answers_in false source access p bytes s is none =
    subst (λ (rcode : ℕ). BeginsWith s.node.layer.node p rcode (gives_at s.node access) (serve p bytes s).outbox.packets) (rcode_is s.node p access is)
    (subst (λ (given : List ℕ). BeginsWith s.node.layer.node p (demand_rcode s.node (demand_of (length s.node.rom) p)) given (serve p bytes s).outbox.packets) (gives_is s.node p access is)
    (serve_first s.node.layer.node p bytes s (refl, none)))

module _ (p : Packet) (access : table.Access) (is : access_of p ≡ Some access) where
  barred_is : (node : NodeState) → is_barred node p ≡ (judged_by node (header_in p).source access).of_other_login
  barred_is node = of_access p (λ access'. is_barred node p ≡ (not access'.is_lock && is_of_no_login node (header_in p).source (start_at access'.offset))) (barred_at node p) access is

  judges_as : (bytes : List ℕ) (s : Scene) → (request_step p bytes s).0 ≡ judged_as (judging_of (judged_by s.node (header_in p).source access))
  judges_as bytes s =
      ap (λ (r : Judged × Scene). r.0) (step_is p bytes s)
      ∙ judged_in (is_barred s.node p) s.node (header_in p).source access p bytes s
      ∙ ap (λ (b : Bool). judged_as (judging_of (record (judged_by s.node (header_in p).source access) { of_other_login = b }))) (barred_is s.node)

  answers_as : (bytes : List ℕ) (s : Scene) → s.outbox.packets ≡ [] → BeginsWith s.node.layer.node p (row_rcode (judging_of (judged_by s.node (header_in p).source access)) (target_rcode (facts_at s.node access))) (row_gives (judging_of (judged_by s.node (header_in p).source access)) (gives_at s.node access)) (request_step p bytes s).1.outbox.packets
  answers_as bytes s none =
      let rows : Bool → Judging = λ (b : Bool). judging_of (record (judged_by s.node (header_in p).source access) { of_other_login = b }) in
      subst (λ (r : Judged × Scene). BeginsWith s.node.layer.node p (row_rcode (rows (judged_by s.node (header_in p).source access).of_other_login) (target_rcode (facts_at s.node access))) (row_gives (rows (judged_by s.node (header_in p).source access).of_other_login) (gives_at s.node access)) r.1.outbox.packets) (sym (step_is p bytes s))
      (subst (λ (b : Bool). BeginsWith s.node.layer.node p (row_rcode (rows b) (target_rcode (facts_at s.node access))) (row_gives (rows b) (gives_at s.node access)) (Step (is_barred s.node p) p bytes s).1.outbox.packets) (barred_is s.node)
      (answers_in (is_barred s.node p) (header_in p).source access p bytes s is none))

pub row_law : RowLaw
row_law p access is = record { judges = judges_as p access is; answers = answers_as p access is; serves = serves_is p access is }
