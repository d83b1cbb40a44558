-- What the target of a drill answers to a ring (NCITS 325-1998, ORB_POINTER and DOORBELL): complete, where the agent to which ORB_POINTER comes is in RESET.
use Rattle.std.proofs.Common.{◌≡◌, ◌∙◌, refl, ap, ℕ, zero, suc, ◌+◌, ◌*◌, ◌<◌, ◌≤◌, ◌/◌, ◌%◌, ◌^◌, ◌&&◌, nat_le, nat_lt, Bool, true, false, cond, List, [], ◌++◌, Some, Result, Ok, Err, arith}
use Rattle.std.proofs.lemmas.Bool.Decides.{nat_tests}
use Rattle.byteorder.specs.Endian.{big_bytes}
use Rattle.byteorder.specs.Numbers.{big_number-reads_back}
use Rattle.async_packet.specs.declared.fault.PacketFault.{PacketFault}
use Rattle.async_packet.specs.Canon.{canon, four, three, with_pad}
use Rattle.async_packet.specs.Fields.{rcode_of}
use Rattle.async_packet.specs.Packet.{Packet, lock, lock_response, read_block, read_block_response, read_quadlet, read_quadlet_response, write_block, write_quadlet, write_response}
use Rattle.async_packet.specs.Reading.{reading}
use Rattle.async_packet.proofs.Spelled.{reads_spelling}
use Rattle.command_agent.specs.Machine.{state_in}
use Rattle.command_agent.specs.declared.step.AgentState.TheVariants as states
use Rattle.label_table.specs.Bodies.{response_to}
use Rattle.login_table.specs.Table.{Table, by_agent}
use Rattle.orb_layout.specs.Pointers.{pointer_at}
use Rattle.orb_layout.specs.Replies.{Done}
use Rattle.sbp_base.specs.Quadlets.{quad}
use Rattle.sbp_journal.specs.Addresses.{Access, base_of, rom_base, start_at}
use Rattle.sbp_journal.specs.Rows.{RequestFacts, judging_of, serving, target_rcode}
use Rattle.sbp_journal.specs.Transactions.{part_by, part_of, response, writing}
use Rattle.sbp_journal.specs.Wire.{local_id}
use Rattle.sbp_laws.specs.JudgementLaw.{is_none_live, rom_size}
use Rattle.sbp_laws.specs.JudgementLaw.{target_facts as request_facts_of}
use Rattle.sbp_laws.specs.Packets.{answer_in, spelled_by}
use Rattle.sbp_laws.specs.Served.{pointed_rcode, target_facts, taken_rcode}
use Rattle.sbp_laws.specs.Targets.{Target, agent_at, first_table}

-- ---- the rcode of a response
second_code : (a b : ℕ) (rest : List ℕ) → b < 2 ^ 32 → b / 2 ^ 12 % 2 ^ 4 ≡ 0 → rcode_of (big_bytes 4 a ++ (big_bytes 4 b ++ rest)) ≡ 0
unfolding rcode_of
second_code a b rest small zeros =
    let is : quad (big_bytes 4 a ++ (big_bytes 4 b ++ rest)) 4 ≡ b = big_number-reads_back 4 b rest small in
    ap (λ q. q / 2 ^ 12 % 2 ^ 4) is ∙ zeros

three_code : (a node c : ℕ) → node < 2 ^ 16 → rcode_of (three a (node * 2 ^ 16 + 0 * 2 ^ 12) c) ≡ 0
unfolding three
three_code a node c small = second_code a (node * 2 ^ 16 + 0 * 2 ^ 12) (big_bytes 4 c) (omega (arith, small)) (omega (arith, small))

four_code : (a node c d : ℕ) (rest : List ℕ) → node < 2 ^ 16 → rcode_of (four a (node * 2 ^ 16 + 0 * 2 ^ 12) c d ++ rest) ≡ 0
unfolding four
four_code a node c d rest small = second_code a (node * 2 ^ 16 + 0 * 2 ^ 12) ((big_bytes 4 c ++ big_bytes 4 d) ++ rest) (omega (arith, small)) (omega (arith, small))

four_alone : (a node c d : ℕ) → node < 2 ^ 16 → rcode_of (four a (node * 2 ^ 16 + 0 * 2 ^ 12) c d) ≡ 0
unfolding four
four_alone a node c d small = second_code a (node * 2 ^ 16 + 0 * 2 ^ 12) (big_bytes 4 c ++ big_bytes 4 d) (omega (arith, small)) (omega (arith, small))

pub reply_complete : (node : ℕ) (request : Packet) (given : List ℕ) → node < 2 ^ 16 → rcode_of (canon (response_to node request 0 given)) ≡ 0
reply_complete node (write_quadlet h offset value) given small = three_code _ node 0 small
reply_complete node (write_block h offset payload) given small = three_code _ node 0 small
reply_complete node (write_response h other) given small = three_code _ node 0 small
reply_complete node (read_quadlet_response h other value) given small = three_code _ node 0 small
reply_complete node (read_block_response h other payload) given small = three_code _ node 0 small
reply_complete node (lock_response h other extended payload) given small = three_code _ node 0 small
reply_complete node (read_quadlet h offset) given small = four_alone _ node 0 _ small
reply_complete node (read_block h offset asked) given small = four_code _ node 0 _ (with_pad given) small
reply_complete node (lock h offset extended payload) given small = four_code _ node 0 _ (with_pad []) small

-- what it tells
pub done_of : (bytes : List ℕ) (label : ℕ) → part_of bytes ≡ response label writing → rcode_of bytes ≡ 0 → answer_in (spelled_by (reading bytes)) ≡ Done
unfolding part_of
done_of bytes label e zeros = by (reading bytes) refl e
  where
    by : (r : Result Packet PacketFault) → reading bytes ≡ r → part_by r ≡ response label writing → answer_in (spelled_by r) ≡ Done
    by (Ok (write_response header rcode)) is e =
        let same : rcode ≡ 0 = ((reads_spelling.packets bytes (write_response header rcode)).0 is).1 ∙ zeros in
        ap (λ n. answer_in (Some (write_response header n))) same
    by (Ok (read_quadlet_response header rcode value)) is e = absurd (cc e)
    by (Ok (read_block_response header rcode payload)) is e = absurd (cc e)
    by (Ok (lock_response header rcode extended payload)) is e = absurd (cc e)
    by (Ok (write_quadlet header offset value)) is e = absurd (cc e)
    by (Ok (write_block header offset payload)) is e = absurd (cc e)
    by (Ok (read_quadlet header offset)) is e = absurd (cc e)
    by (Ok (read_block header offset asked)) is e = absurd (cc e)
    by (Ok (lock header offset extended payload)) is e = absurd (cc e)
    by (Err fault) is e = absurd (cc e)

-- ---- what a ring of an initiator writes
abbrev pub pointing : ℕ → List ℕ → Access
pointing i payload = record { is_lock = false; is_write = true; is_block = true; offset = (base_of i + 0x08) % 2 ^ 48; count = 8; payload = payload }

abbrev pub belling : ℕ → Access
belling i = record { is_lock = false; is_write = true; is_block = false; offset = (base_of i + 0x10) % 2 ^ 48; count = 4; payload = [] }

-- where ORB_POINTER is written, something is known
pub data IsRingOf (i : ℕ) (access : Access) (Where : Type 0) : Type 0 where
  points : (payload : List ℕ) → access ≡ pointing i payload → taken_rcode (pointer_at payload 0) ≡ 0 → Where → IsRingOf i access Where
  bells : access ≡ belling i → IsRingOf i access Where

-- it lies outside the ROM
small_rom : (units : ℕ) → units ≤ 4 → rom_size 0 units ≤ 100
small_rom zero few = omega arith
small_rom (suc units) few = omega (arith, few)

outside : (offset size : ℕ) → size ≤ 100 → rom_base + 100 ≤ offset → (nat_le rom_base offset && nat_lt offset (rom_base + size)) ≡ false
outside offset size few far = by (nat_le rom_base offset) (nat_lt offset (rom_base + size)) refl
  where
    by : (a b : Bool) → nat_lt offset (rom_base + size) ≡ b → (a && b) ≡ false
    by a true e = absurd (grind (arith, nat_tests))
    by true false e = refl
    by false false e = refl

pointed_code : (i size : ℕ) (target : Target) (payload : List ℕ) → i < 2 → size ≤ 100 → taken_rcode (pointer_at payload 0) ≡ 0 → state_in (agent_at target i).machine.phase ≡ states.Reset → target_rcode (target_facts size target (pointing i payload)) ≡ 0
unfolding start_at
pointed_code zero size target payload small few at fresh =
    ap (λ b. cond b 6 (pointed_rcode (state_in (agent_at target 0).machine.phase) (pointer_at payload 0))) (outside ((base_of 0 + 0x08) % 2 ^ 48) size few (omega arith)) ∙ ap (λ s. pointed_rcode s (pointer_at payload 0)) fresh ∙ at
pointed_code (suc zero) size target payload small few at fresh =
    ap (λ b. cond b 6 (pointed_rcode (state_in (agent_at target 1).machine.phase) (pointer_at payload 0))) (outside ((base_of 1 + 0x08) % 2 ^ 48) size few (omega arith)) ∙ ap (λ s. pointed_rcode s (pointer_at payload 0)) fresh ∙ at
pointed_code (suc (suc i)) size target payload small few at fresh = absurd (omega (arith, small))

belled_code : (i size : ℕ) (target : Target) → i < 2 → size ≤ 100 → target_rcode (target_facts size target (belling i)) ≡ 0
unfolding start_at
belled_code zero size target small few = ap {B = ℕ} (λ b. cond b 6 0) (outside ((base_of 0 + 0x10) % 2 ^ 48) size few (omega arith))
belled_code (suc zero) size target small few = ap {B = ℕ} (λ b. cond b 6 0) (outside ((base_of 1 + 0x10) % 2 ^ 48) size few (omega arith))
belled_code (suc (suc i)) size target small few = absurd (omega (arith, small))

pub ring_code : (i units : ℕ) (target : Target) (access : Access) → i < 2 → units ≤ 4 → IsRingOf i access (state_in (agent_at target i).machine.phase ≡ states.Reset) → target_rcode (target_facts (rom_size 0 units) target access) ≡ 0
ring_code i units target access small few (points payload e at fresh) = ap (λ a. target_rcode (target_facts (rom_size 0 units) target a)) e ∙ pointed_code i (rom_size 0 units) target payload small (small_rom units few) at fresh
ring_code i units target access small few (bells e) = ap (λ a. target_rcode (target_facts (rom_size 0 units) target a)) e ∙ belled_code i (rom_size 0 units) target small (small_rom units few)

-- ---- it is of the initiator's own login
abbrev plain_facts : Bool → RequestFacts
plain_facts other = record { to_initiator = false; reads_rom = false; of_target = false; of_other_login = other; to_closed_fifo = false; is_status = false; is_unsolicited = false; is_read = false; is_awaited = false }

own_login : (i id : ℕ) (table : Table) → i < 2 → table ≡ first_table true 2 → id ≡ local_id (suc i) → is_none_live (by_agent table.places i id) ≡ false
own_login zero id table small e f = ap (λ (t : Table). is_none_live (by_agent t.places 0 id)) e ∙ ap (λ n. is_none_live (by_agent (first_table true 2).places 0 n)) f
own_login (suc zero) id table small e f = ap (λ (t : Table). is_none_live (by_agent t.places 1 id)) e ∙ ap (λ n. is_none_live (by_agent (first_table true 2).places 1 n)) f
own_login (suc (suc i)) id table small e f = absurd (omega (arith, small))

pointed_served : (i id : ℕ) (payload : List ℕ) (target : Target) → i < 2 → target.table ≡ first_table true 2 → id ≡ local_id (suc i) → judging_of (request_facts_of target id (pointing i payload)) ≡ serving
unfolding start_at
pointed_served zero id payload target small e f = ap (λ b. judging_of (plain_facts b)) (own_login 0 id target.table small e f)
pointed_served (suc zero) id payload target small e f = ap (λ b. judging_of (plain_facts b)) (own_login 1 id target.table small e f)
pointed_served (suc (suc i)) id payload target small e f = absurd (omega (arith, small))

belled_served : (i id : ℕ) (target : Target) → i < 2 → target.table ≡ first_table true 2 → id ≡ local_id (suc i) → judging_of (request_facts_of target id (belling i)) ≡ serving
unfolding start_at
belled_served zero id target small e f = ap (λ b. judging_of (plain_facts b)) (own_login 0 id target.table small e f)
belled_served (suc zero) id target small e f = ap (λ b. judging_of (plain_facts b)) (own_login 1 id target.table small e f)
belled_served (suc (suc i)) id target small e f = absurd (omega (arith, small))

pub ring_served : {Where : Type 0} (i id : ℕ) (target : Target) (access : Access) → i < 2 → target.table ≡ first_table true 2 → id ≡ local_id (suc i) → IsRingOf i access Where → judging_of (request_facts_of target id access) ≡ serving
ring_served i id target access small e f (points payload is at known) = ap (λ a. judging_of (request_facts_of target id a)) is ∙ pointed_served i id payload target small e f
ring_served i id target access small e f (bells is) = ap (λ a. judging_of (request_facts_of target id a)) is ∙ belled_served i id target small e f
