-- As the target serves an AGENT_RESET that is under way, the agents of its initiator come to RESET: they are the one at which it is written.
use Rattle.sbp_world.proofs.Words.Std.{arith, ◌≡◌, ◌∙◌, refl, sym, ap, subst, ◌<◌, ◌≤◌, ◌+◌, ◌%◌, ◌^◌, ◌==◌, ◌&&◌, is_some, nat_le, nat_lt, ℕ, Bool, true, false, cond, List, [], length, Option, Some, None, Ok, nat_tests, false≢true, same_Some}
use Rattle.sbp_world.proofs.Words.Wire.{Header, Packet, lock, lock_response, read_block, read_block_response, read_quadlet, read_quadlet_response, write_block, write_quadlet, write_response, reading, reply_kind, Finding, of_again, of_generation, of_grammar, of_label, of_request, of_response, Access, access_of, Sending, CutCause}
use Rattle.sbp_world.proofs.Words.Target.{Told, address_error, demand_of, management_start, register_at, rom_start, served_by, cut, cut_node, reset_desk, Desk, Purpose, NodeState, TargetScene, desk_at, judged_scene, received_as, Whole, scene_of, answered, is_barred, serve, served_as}
use Rattle.sbp_world.proofs.Words.Laws.{access_in, access_in_bytes, spelled_by}
use Rattle.sbp_world.proofs.Words.World.{pointer_write, register_write, IsPointedBy}
use Rattle.sbp_target.proofs.Histories.Found.{IsFound}
use Rattle.sbp_journal.specs.declared.cause.Cause.TheVariants as causes
use Rattle.sbp_journal.specs.declared.cause.CutCause.TheVariants as cuts
use Rattle.sbp_journal.specs.declared.cause.Judged.TheVariants as judgements
use Rattle.target_base.specs.declared.address.Access.TheVariants as accesses
use Rattle.target_base.specs.declared.address.Demand.TheVariants as demands
use Rattle.target_base.specs.declared.address.Register.TheVariants as registers
use Rattle.sbp_target.specs.Serving.{request_step}
use Rattle.sbp_world.proofs.Lists.SameAgents.{set_here}
use Rattle.sbp_world.proofs.Lists.OpenCuts.{Here, Listing, is_up, reset_none}
use Rattle.sbp_world.proofs.Lists.OpenedAddresses.{IsBase, IsNear, block_base, demand_served, near_register}
use Rattle.sbp_world.proofs.Wire.Kept.{and_false}

-- ---- what a packet asks for
pub asks_for : (bytes : List ℕ) (q : Packet) (a : Access) → reading bytes ≡ Ok q → access_in_bytes bytes ≡ Some a → access_of q ≡ Some a
asks_for bytes q a read e = ap (λ r. access_in (spelled_by r)) (sym read) ∙ e

pub record IsQuadlet (q : Packet) (at : ℕ) : Type 0 where
  pub header : Header
  pub offset : ℕ
  pub value : ℕ
  pub is : q ≡ write_quadlet header offset value
  pub offset_is : offset ≡ at

pub quadlet_of : (q : Packet) (a : Access) → access_of q ≡ Some a → a.is_write ≡ true → a.is_block ≡ false → IsQuadlet q a.offset
quadlet_of (write_quadlet header offset value) a e w b = record { header = header; offset = offset; value = value; is = refl; offset_is = ap (λ (x : Access). x.offset) (same_Some _ a e) }
quadlet_of (write_block header offset payload) a e w b = absurd (false≢true (sym b ∙ sym (ap (λ (x : Access). x.is_block) (same_Some _ a e))))
quadlet_of (read_quadlet header offset) a e w b = absurd (false≢true (ap (λ (x : Access). x.is_write) (same_Some _ a e) ∙ w))
quadlet_of (read_block header offset count) a e w b = absurd (false≢true (ap (λ (x : Access). x.is_write) (same_Some _ a e) ∙ w))
quadlet_of (lock header offset extended payload) a e w b = absurd (false≢true (ap (λ (x : Access). x.is_write) (same_Some _ a e) ∙ w))
quadlet_of (write_response header rcode) a e w b = absurd (differ e)
  where
    differ : None ≡ Some a → ⊥
    differ f = cc
quadlet_of (read_quadlet_response header rcode value) a e w b = absurd (differ e)
  where
    differ : None ≡ Some a → ⊥
    differ f = cc
quadlet_of (read_block_response header rcode payload) a e w b = absurd (differ e)
  where
    differ : None ≡ Some a → ⊥
    differ f = cc
quadlet_of (lock_response header rcode extended payload) a e w b = absurd (differ e)
  where
    differ : None ≡ Some a → ⊥
    differ f = cc

-- the block write by which an agent was pointed
pub record IsBlock (q : Packet) (at : ℕ) : Type 0 where
  pub header : Header
  pub offset : ℕ
  pub payload : List ℕ
  pub is : q ≡ write_block header offset payload
  pub offset_is : offset ≡ at

block_of : (q : Packet) (a : Access) → access_of q ≡ Some a → a.is_write ≡ true → a.is_block ≡ true → IsBlock q a.offset
block_of (write_block header offset payload) a e w b = record { header = header; offset = offset; payload = payload; is = refl; offset_is = ap (λ (x : Access). x.offset) (same_Some _ a e) }
block_of (write_quadlet header offset value) a e w b = absurd (false≢true (ap (λ (x : Access). x.is_block) (same_Some _ a e) ∙ b))
block_of (read_quadlet header offset) a e w b = absurd (false≢true (ap (λ (x : Access). x.is_write) (same_Some _ a e) ∙ w))
block_of (read_block header offset count) a e w b = absurd (false≢true (ap (λ (x : Access). x.is_write) (same_Some _ a e) ∙ w))
block_of (lock header offset extended payload) a e w b = absurd (false≢true (ap (λ (x : Access). x.is_write) (same_Some _ a e) ∙ w))
block_of (write_response header rcode) a e w b = absurd (differ e)
  where
    differ : None ≡ Some a → ⊥
    differ f = cc
block_of (read_quadlet_response header rcode value) a e w b = absurd (differ e)
  where
    differ : None ≡ Some a → ⊥
    differ f = cc
block_of (read_block_response header rcode payload) a e w b = absurd (differ e)
  where
    differ : None ≡ Some a → ⊥
    differ f = cc
block_of (lock_response header rcode extended payload) a e w b = absurd (differ e)
  where
    differ : None ≡ Some a → ⊥
    differ f = cc

-- its agent has this base
pub pointed_base : (sent : Sending) (i place address agent named : ℕ) → IsPointedBy sent i place address → access_in_bytes sent.bytes ≡ Some (pointer_write agent named) → IsBase ((agent + 8) % 2 ^ 48) place
pointed_base sent i place address agent named p e =
    let b = block_of p.packet (pointer_write agent named) (asks_for sent.bytes p.packet (pointer_write agent named) p.read e) refl refl in
    subst (λ o. IsBase o place) b.offset_is
    (block_base p.rom b.header b.offset b.payload place p.pointer (ap (demand_of p.rom) (sym b.is) ∙ p.asks))

-- a register of an agent at this base
pub near : (agent place distance : ℕ) → distance < 8 → IsBase ((agent + 8) % 2 ^ 48) place → IsNear ((agent + 8) % 2 ^ 48) ((agent + distance) % 2 ^ 48) place distance
near agent place distance d b =
    let low = b.low in
    record { base = b; is = omega (arith, low, d); small = omega (arith, d) }

-- ---- an agent that is cut is in RESET
cut_closes : (cause : CutCause) (place : ℕ) (s : TargetScene) → length s.node.desks ≡ 8 → place < 8 → Listing (cut cause place s).node place → ⊥
unfolding cut
cut_closes cause place s size b e =
    let x : desk_at (cut_node place s.node) place ≡ reset_desk (desk_at s.node place) = set_here (record s.node { layer = (cut_node place s.node).layer }) place (reset_desk (desk_at s.node place)) (omega (arith, size, b)) in
    false≢true (sym (reset_none (Here s.node place)) ∙ (sym (ap (λ (d : Desk). is_up d.agent) x) ∙ e))

-- ---- the target serves the write
module _ (node : NodeState) (size : length node.desks ≡ 8) (rom : length node.rom ≤ 1024) (bytes : List ℕ) (generation : ℕ) (run : Option Told) (all : Whole) (same : all.node.desks ≡ node.desks) (same_rom : all.node.rom ≡ node.rom) (place : ℕ) (small : place < 8) (agent : ℕ) (writes : access_in_bytes bytes ≡ Some (register_write agent 0x04)) (base : IsBase ((agent + 8) % 2 ^ 48) place) where
  quadlet : (q : Packet) → reading bytes ≡ Ok q → IsQuadlet q ((agent + 0x04) % 2 ^ 48)
  quadlet q read = quadlet_of q (register_write agent 0x04) (asks_for bytes q (register_write agent 0x04) read writes) refl refl

  demand : (q : Packet) → reading bytes ≡ Ok q → demand_of (length all.node.rom) q ≡ demands.Agent place accesses.Reset
  demand q read =
      let k = quadlet q read in
      let offset = k.offset in
      let at = k.offset_is in
      let n = near agent place 0x04 (omega arith) base in
      let r = near_register ((agent + 8) % 2 ^ 48) ((agent + 0x04) % 2 ^ 48) place 0x04 registers.AgentReset n refl in
      let low = n.base.low in
      let is = n.is in
      let high : rom_start + 1024 < offset = omega (arith, low, is, at) in
      let fits : length all.node.rom ≤ 1024 = subst (λ (xs : List ℕ). length xs ≤ 1024) (sym same_rom) rom in
      let other : (offset == management_start) ≡ false = (let z : management_start < offset = omega (arith, high, low, is, at) in grind (arith, nat_tests)) in
      let w : write_quadlet k.header offset k.value ≡ q = sym k.is in
      subst (λ x. demand_of (length all.node.rom) x ≡ demands.Agent place accesses.Reset) w
      (demand_served (length all.node.rom) (write_quadlet k.header offset k.value) (demands.Agent place accesses.Reset) refl refl
      (let z : nat_lt offset (rom_start + length all.node.rom) ≡ false = grind (arith, nat_tests) in ap (λ b. nat_le rom_start offset && b) z ∙ and_false (nat_le rom_start offset))
      refl
      (ap (λ b. cond b None (served_by (register_at offset) (write_quadlet k.header offset k.value))) other ∙ ap (λ x. served_by x (write_quadlet k.header offset k.value)) (ap register_at at ∙ r)))

  by_bar : (q : Packet) (b : Bool) → reading bytes ≡ Ok q → (judged_scene (cond b (judgements.Ignored causes.Login, answered q bytes address_error [] (scene_of all)) (judgements.Got, serve q bytes (scene_of all))) all).0 ≡ judgements.Got → Listing (judged_scene (cond b (judgements.Ignored causes.Login, answered q bytes address_error [] (scene_of all)) (judgements.Got, serve q bytes (scene_of all))) all).1.node place → ⊥
  unfolding serve
  by_bar q true read got up = absurd (differ got)
    where
      differ : judgements.Ignored causes.Login ≡ judgements.Got → ⊥
      differ e = cc
  by_bar q false read got up =
      cut_closes cuts.AgentReset place (scene_of all) (ap length same ∙ size) small
      (subst (λ d. Listing (served_as d q bytes (scene_of all)).node place) (demand q read) up)

  pub closes : (f : Finding Purpose) → IsFound f node.layer all.node.layer bytes → (received_as run bytes f all).0 ≡ judgements.Got → Listing (received_as run bytes f all).1.node place → ⊥
  unfolding request_step
  closes of_generation k got up = absurd (differ got)
    where
      differ : judgements.Ignored causes.Generation ≡ judgements.Got → ⊥
      differ e = cc
  closes of_grammar k got up = absurd (differ got)
    where
      differ : judgements.Ignored causes.Grammar ≡ judgements.Got → ⊥
      differ e = cc
  closes of_label k got up = absurd (differ got)
    where
      differ : judgements.Ignored causes.Label ≡ judgements.Got → ⊥
      differ e = cc
  closes (of_again q rcode) k got up = absurd (differ got)
    where
      differ : judgements.Ignored causes.Again ≡ judgements.Got → ⊥
      differ e = cc
  closes (of_response q label purpose) k got up =
      let x = quadlet q k.read in
      false≢true (ap (λ (z : Packet). is_some (reply_kind z)) (sym x.is) ∙ k.kind)
  closes (of_request q) k got up = by_bar q (is_barred all.node q) k.1.read got up
