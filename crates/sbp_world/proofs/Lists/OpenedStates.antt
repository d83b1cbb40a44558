-- What the target answers to a read of AGENT_STATE: the state of the agent, which is 0 in RESET alone.
use Rattle.sbp_world.proofs.Words.Std.{arith, ◌≡◌, ◌⊎◌, inl, inr, ◌∙◌, refl, sym, ap, subst, ◌<◌, ◌≤◌, ◌+◌, ◌%◌, ◌^◌, ◌==◌, ◌&&◌, not, is_some, nat_le, ℕ, Bool, true, false, cond, List, [], ◌∷◌, ◌++◌, length, Option, Some, None, Ok, slice_index_or, nat_tests, false≢true, same_Some, big_bytes, big_number, big_number-reads_back, quad}
use Rattle.sbp_world.proofs.Words.Wire.{IsValid, canon, Header, Packet, header_in, lock, lock_response, read_block, read_block_response, read_quadlet, read_quadlet_response, write_block, write_quadlet, write_response, reading, AreBytes, FitsAnswer, Gives, response_to, Finding, of_again, of_generation, of_grammar, of_label, of_request, of_response, reply_kind, Access, access_of, Outgoing, answering_step}
use Rattle.sbp_world.proofs.Words.Target.{AgentState, state_in, is_reset, Told, address_error, complete, demand_of, management_start, register_at, rom_start, served_by, Desk, Purpose, new_desk, NodeState, desk_at, judged_scene, received_as, Whole, scene_of, answer_step, answered, is_barred, serve, served_as, state_number}
use Rattle.sbp_world.proofs.Words.Initiator.{ending_of}
use Rattle.sbp_world.proofs.Words.Laws.{access_in_bytes}
use Rattle.sbp_world.proofs.Words.World.{register_read}
use Rattle.sbp_world.proofs.Pointers.Spelled.{read_canon}
use Rattle.bus_transactions.proofs.FitJudged.{IsFoundAs, IsReadOf, no_gives, source_fits}
use Rattle.bus_transactions.proofs.Fits.{answer_fits, bytes_quad, no_bytes}
use Rattle.command_agent.specs.declared.step.AgentState.TheVariants as states
use Rattle.sbp_initiator.specs.declared.purpose.Ending.TheVariants as endings
use Rattle.sbp_journal.specs.declared.cause.Cause.TheVariants as causes
use Rattle.sbp_journal.specs.declared.cause.Judged.TheVariants as judgements
use Rattle.target_base.specs.declared.address.Access.TheVariants as accesses
use Rattle.target_base.specs.declared.address.Demand.TheVariants as demands
use Rattle.target_base.specs.declared.address.Register.TheVariants as registers
use Rattle.sbp_target.proofs.Histories.Found.{IsFound}
use Rattle.sbp_target.specs.Serving.{request_step}
use Rattle.sbp_world.proofs.Lists.OpenCuts.{Listing, is_up}
use Rattle.sbp_world.proofs.Lists.OpenedAddresses.{IsBase, demand_served, near_register}
use Rattle.sbp_world.proofs.Lists.OpenedResets.{asks_for, near}
use Rattle.sbp_world.proofs.Wire.Kept.{and_false}

-- ---- a read of a quadlet
pub record IsReading (q : Packet) (at : ℕ) : Type 0 where
  pub header : Header
  pub offset : ℕ
  pub is : q ≡ read_quadlet header offset
  pub offset_is : offset ≡ at

reading_of : (q : Packet) (a : Access) → access_of q ≡ Some a → a.is_write ≡ false → a.is_block ≡ false → IsReading q a.offset
reading_of (read_quadlet header offset) a e w b = record { header = header; offset = offset; is = refl; offset_is = ap (λ (x : Access). x.offset) (same_Some _ a e) }
reading_of (write_quadlet header offset value) a e w b = absurd (false≢true (sym w ∙ sym (ap (λ (x : Access). x.is_write) (same_Some _ a e))))
reading_of (write_block header offset payload) a e w b = absurd (false≢true (sym w ∙ sym (ap (λ (x : Access). x.is_write) (same_Some _ a e))))
reading_of (read_block header offset count) a e w b = absurd (false≢true (sym b ∙ sym (ap (λ (x : Access). x.is_block) (same_Some _ a e))))
reading_of (lock header offset extended payload) a e w b = absurd (false≢true (sym b ∙ sym (ap (λ (x : Access). x.is_block) (same_Some _ a e))))
reading_of (write_response header rcode) a e w b = absurd (differ e)
  where
    differ : None ≡ Some a → ⊥
    differ f = cc
reading_of (read_quadlet_response header rcode value) a e w b = absurd (differ e)
  where
    differ : None ≡ Some a → ⊥
    differ f = cc
reading_of (read_block_response header rcode payload) a e w b = absurd (differ e)
  where
    differ : None ≡ Some a → ⊥
    differ f = cc
reading_of (lock_response header rcode extended payload) a e w b = absurd (differ e)
  where
    differ : None ≡ Some a → ⊥
    differ f = cc

no_length : length {A = ℕ} [] ≡ 4 → ⊥
no_length e = omega (arith, e)

-- ---- what is answered
-- the bytes are those of one of the packets
abbrev pub IsIn : List ℕ → List Outgoing → Type 0
IsIn bytes [] = ⊥
IsIn bytes (packet ∷ packets) = (bytes ≡ packet.bytes) ⊎ IsIn bytes packets

-- a complete response with 0
abbrev pub TellsZero : List ℕ → Type 0
TellsZero bytes = (p : Packet) × ((reading bytes ≡ Ok p) × (ending_of p ≡ endings.Complete 0))

ok_same : (bytes : List ℕ) (p q : Packet) → reading bytes ≡ Ok p → reading bytes ≡ Ok q → p ≡ q
ok_same bytes p q a b = let z = sym a ∙ b in cc

-- a response with a number that is not 0, or with another rcode
refused_not : (b : Bool) (rcode value : ℕ) → (rcode == 0) ≡ b → (rcode ≡ 0 → value ≡ 0 → ⊥) → cond b (endings.Complete value) (endings.Refused rcode) ≡ endings.Complete 0 → ⊥
refused_not true rcode value f g e = g (grind (arith, nat_tests)) (value_is e)
  where
    value_is : endings.Complete value ≡ endings.Complete 0 → value ≡ 0
    value_is h = cc
refused_not false rcode value f g e = differ e
  where
    differ : endings.Refused rcode ≡ endings.Complete 0 → ⊥
    differ h = cc

module _ (node : ℕ) (header : Header) (offset rcode : ℕ) (given : List ℕ) (valid : IsValid (response_to node (read_quadlet header offset) rcode given)) (other : rcode ≡ 0 → cond (rcode == 0) (quad given 0) 0 ≡ 0 → ⊥) where
  zero_not : TellsZero (canon (response_to node (read_quadlet header offset) rcode given)) → ⊥
  zero_not z =
      let r = response_to node (read_quadlet header offset) rcode given in
      let same : z.0 ≡ r = ok_same (canon r) z.0 r z.1.0 (read_canon r valid) in
      refused_not (rcode == 0) rcode (cond (rcode == 0) (quad given 0) 0) refl other (ap ending_of (sym same) ∙ z.1.1)

-- the number of a state
quad_is : (value : ℕ) → value < 2 ^ 32 → quad (big_bytes 4 value) 0 ≡ value
quad_is value small = ap (λ xs. big_number 4 xs) (sym (append_none (big_bytes 4 value))) ∙ big_number-reads_back 4 value [] small
  where
    append_none : (xs : List ℕ) → xs ++ [] ≡ xs
    append_none [] = refl
    append_none (x ∷ xs) = ap (λ ys. x ∷ ys) (append_none xs)

state_not : (state : AgentState) → not (is_reset state) ≡ true → state_number state ≡ 0 → ⊥
state_not states.Reset e f = false≢true e
state_not states.Active e f = absurd (omega (arith, f))
state_not states.Suspended e f = absurd (omega (arith, f))
state_not states.Dead e f = absurd (omega (arith, f))

state_small : (state : AgentState) → state_number state < 2 ^ 32
state_small states.Reset = omega arith
state_small states.Active = omega arith
state_small states.Suspended = omega arith
state_small states.Dead = omega arith

-- ---- the target answers the read
module _ (node : NodeState) (id_small : node.layer.node < 2 ^ 16) (rom : length node.rom ≤ 1024) (bytes : List ℕ) (generation : ℕ) (fit : AreBytes bytes) (run : Option Told) (all : Whole) (same : all.node.desks ≡ node.desks) (same_rom : all.node.rom ≡ node.rom) (same_id : all.node.layer.node ≡ node.layer.node) (none : all.outbox.packets ≡ []) (place : ℕ) (agent : ℕ) (reads : access_in_bytes bytes ≡ Some (register_read agent 0x00)) (base : IsBase ((agent + 8) % 2 ^ 48) place) (up : Listing node place) where
  quadlet : (q : Packet) → reading bytes ≡ Ok q → IsReading q ((agent + 0x00) % 2 ^ 48)
  quadlet q read = reading_of q (register_read agent 0x00) (asks_for bytes q (register_read agent 0x00) read reads) refl refl

  demand : (q : Packet) → reading bytes ≡ Ok q → demand_of (length all.node.rom) q ≡ demands.Agent place accesses.State
  demand q read =
      let k = quadlet q read in
      let offset = k.offset in
      let at = k.offset_is in
      let n = near agent place 0x00 (omega arith) base in
      let r = near_register ((agent + 8) % 2 ^ 48) ((agent + 0x00) % 2 ^ 48) place 0x00 registers.AgentState n refl in
      let low = n.base.low in
      let is = n.is in
      let high : rom_start + 1024 < offset = omega (arith, low, is, at) in
      let fits : length all.node.rom ≤ 1024 = subst (λ (xs : List ℕ). length xs ≤ 1024) (sym same_rom) rom in
      let far : (offset == management_start) ≡ false = (let z : management_start < offset = omega (arith, high, low, is, at) in grind (arith, nat_tests)) in
      let w : read_quadlet k.header offset ≡ q = sym k.is in
      subst (λ x. demand_of (length all.node.rom) x ≡ demands.Agent place accesses.State) w
      (demand_served (length all.node.rom) (read_quadlet k.header offset) (demands.Agent place accesses.State) refl refl refl
      (let z : nat_le (offset + 4) (rom_start + length all.node.rom) ≡ false = grind (arith, nat_tests) in ap (λ b. nat_le rom_start offset && b) z ∙ and_false (nat_le rom_start offset))
      (ap (λ b. cond b None (served_by (register_at offset) (read_quadlet k.header offset))) far ∙ ap (λ x. served_by x (read_quadlet k.header offset)) (ap register_at at ∙ r)))

  -- an answer to it
  one_answer : (q : Packet) (rcode : ℕ) (given out : List ℕ) → IsReadOf generation node.layer.generation bytes q → FitsAnswer q rcode given → (rcode ≡ 0 → cond (rcode == 0) (quad given 0) 0 ≡ 0 → ⊥) → out ≡ canon (response_to all.node.layer.node q rcode given) → TellsZero out → ⊥
  one_answer q rcode given out k f other e z =
      let x = quadlet q k.read in
      let small : all.node.layer.node < 2 ^ 16 = subst (λ m. m < 2 ^ 16) (sym same_id) id_small in
      let v = answer_fits all.node.layer.node q bytes rcode given small (source_fits bytes q k.read fit) k.request f in
      zero_not all.node.layer.node x.header x.offset rcode given (subst (λ p. IsValid (response_to all.node.layer.node p rcode given)) x.is v) other
      (subst TellsZero (e ∙ ap (λ p. canon (response_to all.node.layer.node p rcode given)) x.is) z)

  answers_in : (q : Packet) (rcode : ℕ) (given out : List ℕ) → IsIn out (answered q bytes rcode given (scene_of all)).outbox.packets → out ≡ canon (response_to all.node.layer.node q rcode given)
  unfolding answer_step answering_step
  answers_in q rcode given out m = by (subst (λ (ps : List Outgoing). IsIn out (ps ++ record { to = (header_in q).source; label = None; bytes = canon (response_to all.node.layer.node q rcode given) } ∷ [])) none m)
    where
      by : (out ≡ canon (response_to all.node.layer.node q rcode given)) ⊎ ⊥ → out ≡ canon (response_to all.node.layer.node q rcode given)
      by (inl e) = e
      by (inr e) = absurd e

  state_other : complete ≡ 0 → cond (complete == 0) (quad (big_bytes 4 (state_number (state_in (desk_at all.node place).agent.phase))) 0) 0 ≡ 0 → ⊥
  state_other z e =
      let state = state_in (desk_at all.node place).agent.phase in
      state_not state (subst (λ (ds : List Desk). is_up (slice_index_or ds place new_desk).agent ≡ true) (sym same) up) (sym (quad_is (state_number state) (state_small state)) ∙ e)

  refused_other : address_error ≡ 0 → cond (address_error == 0) (quad [] 0) 0 ≡ 0 → ⊥
  refused_other z e = omega (arith, z)

  by_bar : (q : Packet) (b : Bool) (out : List ℕ) → IsReadOf generation node.layer.generation bytes q → IsIn out (judged_scene (cond b (judgements.Ignored causes.Login, answered q bytes address_error [] (scene_of all)) (judgements.Got, serve q bytes (scene_of all))) all).1.outbox.packets → TellsZero out → ⊥
  unfolding serve
  by_bar q true out k m z = one_answer q address_error [] out k (record { small = omega arith; bytes = no_bytes; gives = no_gives q address_error [] (λ e. omega (arith, e)) }) refused_other (answers_in q address_error [] out m) z
  by_bar q false out k m z =
      let x = quadlet q k.read in
      let given = big_bytes 4 (state_number (state_in (desk_at all.node place).agent.phase)) in
      let n = subst (λ d. IsIn out (served_as d q bytes (scene_of all)).outbox.packets) (demand q k.read) m in
      one_answer q complete given out k (record { small = omega arith; bytes = bytes_quad _; gives = subst (λ p. Gives p complete given) (sym x.is) (λ e. refl) }) state_other (answers_in q complete given out n) z

  pub tells_not : (f : Finding Purpose) (out : List ℕ) → IsFound f node.layer all.node.layer bytes → IsFoundAs node.layer generation bytes f → IsIn out (received_as run bytes f all).1.outbox.packets → TellsZero out → ⊥
  unfolding request_step
  tells_not of_generation out k r m z = subst (IsIn out) none m
  tells_not of_grammar out k r m z = subst (IsIn out) none m
  tells_not of_label out k r m z = subst (IsIn out) none m
  tells_not (of_again q rcode) out k r m z =
      let x = quadlet q r.0.read in
      let gives : Gives (read_quadlet x.header x.offset) rcode [] = subst (λ p. Gives p rcode []) x.is r.1.gives in
      one_answer q rcode [] out r.0 r.1 (λ e f. no_length (gives e)) (answers_in q rcode [] out m) z
  tells_not (of_response q label purpose) out k r m z =
      let x = quadlet q r in false≢true (ap (λ (p : Packet). is_some (reply_kind p)) (sym x.is) ∙ k.kind)
  tells_not (of_request q) out k r m z = by_bar q (is_barred all.node q) out r m z
