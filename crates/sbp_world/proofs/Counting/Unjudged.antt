-- What a packet brings that is delivered to the target is due for it by its bytes: a write of MANAGEMENT_AGENT that is taken as new was not judged before, and is of the generation that the
-- target is in.
use Rattle.sbp_world.proofs.Words.Std.{arith, ◌≡◌, ◌∙◌, refl, ap, subst, ℕ, ◌≤◌, is_some, Bool, true, false, List, length, Option, Some, None}
use Rattle.sbp_world.proofs.Words.Wire.{Packet, Finding, judging_step, lock, lock_response, of_again, of_generation, of_grammar, of_label, of_request, of_response, read_block, read_block_response, read_quadlet, read_quadlet_response, write_block, write_quadlet, write_response, Header, Access, access_of, Sent}
use Rattle.sbp_world.proofs.Words.Target.{NodeState, Purpose, demand_of, is_barred, management_start}
use Rattle.sbp_world.proofs.Words.Laws.{access_in, spelled_by}
use Rattle.target_base.specs.declared.address.Demand.TheVariants as demands
use Rattle.target_base.specs.Addresses.{register_at}
use Rattle.label_table.specs.Requests.{reply_kind}
use Rattle.sbp_target.proofs.Histories.Found.{IsFound, found as found_as}
use Rattle.sbp_target.specs.RequestsLeft.{demand_due, found_due}
use Rattle.sbp_world.specs.Counting.Wire.{due_of}
use Rattle.sbp_world.proofs.Counting.DueDemands.{request_brings}
use Rattle.sbp_world.proofs.Lists.PlacedOps.{manage_write}

-- ---- a request at MANAGEMENT_AGENT is barred by no login
start_free : (node : NodeState) (header : Header) (payload : List ℕ) → is_barred node (write_block header management_start payload) ≡ false
unfolding is_barred register_at
start_free node header payload = refl

pub manage_free : (node : NodeState) (size orb : ℕ) (p : Packet) → demand_of size p ≡ demands.Manage orb → is_barred node p ≡ false
manage_free node size orb p e =
    let m = manage_write orb size p e in
    ap (is_barred node) (m.is ∙ ap (λ o. write_block m.header o m.payload) m.at) ∙ start_free node m.header m.payload

-- ---- what a packet was found to be
has_access : (p : Packet) → is_some (reply_kind p) ≡ false → access_of p ≡ None → {A : Type 0} → A
has_access (write_quadlet header offset value) k e = absurd (let no : Some _ ≡ None = e in cc)
has_access (write_block header offset payload) k e = absurd (let no : Some _ ≡ None = e in cc)
has_access (read_quadlet header offset) k e = absurd (let no : Some _ ≡ None = e in cc)
has_access (read_block header offset count) k e = absurd (let no : Some _ ≡ None = e in cc)
has_access (lock header offset extended payload) k e = absurd (let no : Some _ ≡ None = e in cc)
has_access (write_response header rcode) k e = absurd (let no : true ≡ false = k in cc)
has_access (read_quadlet_response header rcode value) k e = absurd (let no : true ≡ false = k in cc)
has_access (read_block_response header rcode payload) k e = absurd (let no : true ≡ false = k in cc)
has_access (lock_response header rcode extended payload) k e = absurd (let no : true ≡ false = k in cc)

module _ (node : NodeState) (small : length node.rom ≤ 1024) (sent : Sent) (apart : sent.from ≡ 0 → ⊥) (counts : Bool) where
  -- a write of MANAGEMENT_AGENT that is taken counts
  abbrev pub Counted : Type 0
  Counted = (p : Packet) (orb : ℕ) → (judging_step node.layer sent.generation sent.bytes).0 ≡ of_request p → demand_of (length node.rom) p ≡ demands.Manage orb → counts ≡ true

  due_as : (found : Finding Purpose) → (judging_step node.layer sent.generation sent.bytes).0 ≡ found → Counted → found_due (length node.rom) found ≤ due_of counts sent.from sent.bytes
  due_as of_generation e c = omega arith
  due_as of_grammar e c = omega arith
  due_as of_label e c = omega arith
  due_as (of_response p label purpose) e c = omega arith
  due_as (of_again p rcode) e c = omega arith
  due_as (of_request p) e c = by (access_of p) refl
    where
      is : IsFound (of_request p) node.layer (judging_step node.layer sent.generation sent.bytes).1 sent.bytes
      is = subst (λ (f : Finding Purpose). IsFound f node.layer (judging_step node.layer sent.generation sent.bytes).1 sent.bytes) e (found_as node.layer sent.generation sent.bytes)

      by : (asks : Option Access) → access_of p ≡ asks → demand_due (demand_of (length node.rom) p) ≤ due_of counts sent.from sent.bytes
      by None a = has_access p is.1.kind a
      by (Some access) a =
          request_brings counts (length node.rom) sent.from sent.bytes p access small apart (ap (λ r. access_in (spelled_by r)) is.1.read ∙ a) a (λ orb d. c p orb e d)

  pub due_most : Counted → found_due (length node.rom) (judging_step node.layer sent.generation sent.bytes).0 ≤ due_of counts sent.from sent.bytes
  due_most c = due_as (judging_step node.layer sent.generation sent.bytes).0 refl c
