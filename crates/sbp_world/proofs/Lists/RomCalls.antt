-- Each packet that a target hands out in a call, where it gives a quadlet, gives one that may stand in its ROM: one of the ROM itself, whichever four bytes were read; the number of an
-- agent's state; or 0, where nothing is given.
use Rattle.sbp_world.proofs.Words.Std.{arith, ◌≡◌, ◌∙◌, refl, sym, ap, subst, ℕ, ◌-◌, ◌==◌, ◌&&◌, not, Bool, true, false, List, [], ◌∷◌, ◌++◌, length, Option, Some, None, big_bytes}
use Rattle.sbp_world.proofs.Words.Wire.{canon, LabelParts, Header, Packet, header_in, lock, lock_response, read_block, read_block_response, read_quadlet, read_quadlet_response, write_block, write_quadlet, write_response, Asked, response_to, Finding, Layer, answering_step, asking_step, expiring_step, judging_step, of_again, of_generation, of_grammar, of_label, of_request, of_response, seeing_step, Start, agent_reset, agent_state, begins_in_rom, doorbell, lies_in_rom, management_agent, no_start, orb_pointer, register, rom_base, rom_start, start_at, start_serves, unsolicited_enable, Outgoing, empty_outbox, Judging, first_or, ignored_as, judging_of, serving, target_rcode, telling}
use Rattle.sbp_world.proofs.Words.Target.{AgentState, state_in, tick_step, Disk, Told, Purpose, NodeState, desk_at, scene, answer_in, expired, received, received_as, seen, ticked, whole, answer_step, answered, state_number, response_of, BeginsWith, facts_at, gives_at, judged_by, rom_gives, row_gives, row_rcode, state_gives, request, with_asked}
use Rattle.command_agent.specs.declared.step.AgentState.TheVariants as states
use Rattle.sbp_journal.specs.Addresses as table
use Rattle.sbp_target.specs.Serving.{request_step}
use Rattle.sbp_target.proofs.Histories.Pass.{Keeps, Said, concludes, expires_in, sees_by, ticks_by}
use Rattle.sbp_target.proofs.Histories.Rowing.{row_law}
use Rattle.sbp_target.proofs.Histories.Served.{judges}
use Rattle.sbp_world.proofs.Lists.RomBytes.{IsGiven, IsRom, none_given}
use Rattle.sbp_world.proofs.Lists.RomCodes.{IfFair, IsFair, asked_fair, none_given_to, response_fair}
use Rattle.sbp_world.proofs.Lists.ManageCalls.{disowns_node, same_bytes}
use Rattle.sbp_world.proofs.Common.{untrue}

abbrev pub AllFair : List Outgoing → Type 0
AllFair [] = Unit {0}
AllFair (packet ∷ later) = IsFair packet.bytes × AllFair later

one_more : (packets : List Outgoing) (packet : Outgoing) → AllFair packets → IsFair packet.bytes → AllFair (packets ++ packet ∷ [])
one_more [] packet h f = (f, tt)
one_more (first ∷ packets) packet h f = (h.0, one_more packets packet h.1 f)

asked_more : (peer : ℕ) (asked : Option Asked) (packets : List Outgoing) → IfFair asked → AllFair packets → AllFair (with_asked peer asked packets)
asked_more peer None packets f h = h
asked_more peer (Some asked) packets f h = one_more packets (request peer asked) h f

abbrev Fair : Said
Fair = λ layer packets. AllFair packets

keeps : Keeps Fair
keeps = record {
  leaves = record { disowns = λ layer packets peer label h. h };
  asks = λ layer packets peer body purpose h. asked_more peer (asking_step layer peer body purpose).0 packets (asked_fair layer peer body purpose) h;
}

-- ---- a request: its response, and what is asked for behind that

record Behind (node : ℕ) (p : Packet) (packets : List Outgoing) : Type 0 where
  rcode : ℕ
  given : List ℕ
  more : List Outgoing
  packets_are : packets ≡ response_of node p rcode given ∷ more
  fair : AllFair more

abbrev Begins : ℕ → Packet → Said
Begins node p = λ layer packets. Behind node p packets

behind_asks : (node : ℕ) (p : Packet) (peer : ℕ) (asked : Option Asked) (packets : List Outgoing) → IfFair asked → Behind node p packets → Behind node p (with_asked peer asked packets)
behind_asks node p peer None packets f b = b
behind_asks node p peer (Some asked) packets f b = record {
  rcode = b.rcode;
  given = b.given;
  more = b.more ++ request peer asked ∷ [];
  packets_are = ap (λ (ps : List Outgoing). ps ++ request peer asked ∷ []) b.packets_are;
  fair = one_more b.more (request peer asked) b.fair f;
}

keeps_behind : (node : ℕ) (p : Packet) → Keeps (Begins node p)
keeps_behind node p = record {
  leaves = record { disowns = λ layer packets peer label b. b };
  asks = λ layer packets peer body purpose b. behind_asks node p peer (asking_step layer peer body purpose).0 packets (asked_fair layer peer body purpose) b;
}

abbrev Nothing : ℕ → Said
Nothing node = λ layer packets. (layer.node ≡ node) × (packets ≡ [])

answers_first : (node : ℕ) (p : Packet) (bytes : List ℕ) (layer : Layer Purpose) (packets : List Outgoing) (rcode : ℕ) (given : List ℕ) → (layer.node ≡ node) × (packets ≡ []) → Behind node p (packets ++ record { to = (header_in p).source; label = None; bytes = (answering_step layer p bytes rcode given).0 } ∷ [])
unfolding answering_step
answers_first node p bytes layer packets rcode given h = record {
  rcode = rcode;
  given = given;
  more = [];
  packets_are = ap (λ (ps : List Outgoing). ps ++ response_of layer.node p rcode given ∷ []) h.1 ∙ ap (λ (n : ℕ). response_of n p rcode given ∷ []) h.0;
  fair = tt;
}

-- ---- what a read of a quadlet is given

given_from : (l e w r s : Bool) (rom state : List ℕ) → IsGiven rom → (s ≡ true → IsGiven state) → IsGiven (first_or [] ((l, []) ∷ (e, []) ∷ (w, []) ∷ (r, rom) ∷ (s, state) ∷ []))
given_from true e w r s rom state h k = none_given
given_from false true w r s rom state h k = none_given
given_from false false true r s rom state h k = none_given
given_from false false false true s rom state h k = h
given_from false false false false true rom state h k = k refl
given_from false false false false false rom state h k = none_given

state_given : (state : AgentState) → IsGiven (big_bytes 4 (state_number state))
state_given states.Reset e = absurd (omega (arith, e))
state_given states.Active e = absurd (omega (arith, e))
state_given states.Suspended e = absurd (omega (arith, e))
state_given states.Dead e = absurd (omega (arith, e))

abbrev quadlet_at : ℕ → table.Access
quadlet_at offset = record { is_lock = false; is_write = false; is_block = false; offset = offset; count = 4; payload = [] }

start_given : (node : NodeState) (offset : ℕ) (start : Start) → start_serves start (quadlet_at offset) ≡ true → IsGiven (state_gives node start (quadlet_at offset))
start_given node offset management_agent e = none_given
start_given node offset rom_start e = none_given
start_given node offset no_start e = none_given
start_given node offset (register place agent_state) e = state_given (state_in (desk_at node place).agent.phase)
start_given node offset (register place agent_reset) e = none_given
start_given node offset (register place orb_pointer) e = untrue e
start_given node offset (register place doorbell) e = none_given
start_given node offset (register place unsolicited_enable) e = none_given

row_given : (row : Judging) (given : List ℕ) → IsGiven given → IsGiven (row_gives row given)
row_given (ignored_as cause rcode) given h = none_given
row_given telling given h = h
row_given serving given h = h

read_given : (node : NodeState) (offset : ℕ) → IsRom node.rom → IsGiven (gives_at node (quadlet_at offset))
read_given node offset rom =
    let access = quadlet_at offset in
    given_from access.is_lock (access.count == 0) (access.is_write && begins_in_rom (length node.rom) access) (not access.is_write && lies_in_rom (length node.rom) access) (start_serves (start_at access.offset) access) (rom_gives node access) (state_gives node (start_at access.offset) access)
    (rom (offset - rom_base)) (start_given node offset (start_at offset))

-- ---- the response is fair

module _ (node : NodeState) (p : Packet) (bytes : List ℕ) where
  abbrev left : List Outgoing
  left = (request_step p bytes (scene node empty_outbox)).1.outbox.packets

  begins : Behind node.layer.node p left
  begins =
      let n = node.layer.node in
      judges (Nothing n) (Begins n p) p bytes (record { answers = λ layer packets rcode given h. answers_first n p bytes layer packets rcode given h })
      (record { disowns = λ layer packets peer label h. (disowns_node layer peer label ∙ h.0, h.1) }) (keeps_behind n p) (scene node empty_outbox) (refl, refl)

  all_by : IsFair (canon (response_to node.layer.node p begins.rcode begins.given)) → AllFair left
  all_by f = subst AllFair (sym begins.packets_are) (f, begins.fair)

first_given : (node : NodeState) (header : Header) (offset : ℕ) (bytes : List ℕ) → IsRom node.rom → AllFair (left node (read_quadlet header offset) bytes)
first_given node header offset bytes rom =
    let p = read_quadlet header offset in
    let access = quadlet_at offset in
    let row = judging_of (judged_by node header.source access) in
    let b = begins node p bytes in
    let rcode = row_rcode row (target_rcode (facts_at node access)) in
    let first : BeginsWith node.layer.node p rcode (row_gives row (gives_at node access)) (left node p bytes) = (row_law p access refl).answers bytes (scene node empty_outbox) refl in
    all_by node p bytes
    (subst IsFair (same_bytes (response_of node.layer.node p rcode (row_gives row (gives_at node access))) (response_of node.layer.node p b.rcode b.given) first.more b.more (left node p bytes) first.packets_are b.packets_are)
    (response_fair node.layer.node rcode p (row_gives row (gives_at node access)) (row_given row (gives_at node access) (read_given node offset rom))))

request_fair : (node : NodeState) (p : Packet) (bytes : List ℕ) → IsRom node.rom → AllFair (left node p bytes)
request_fair node (read_quadlet header offset) bytes rom = first_given node header offset bytes rom
request_fair node (read_block header offset asked) bytes rom = let p = read_block header offset asked in let b = begins node p bytes in all_by node p bytes (response_fair node.layer.node b.rcode p b.given tt)
request_fair node (lock header offset extended payload) bytes rom = let p = lock header offset extended payload in let b = begins node p bytes in all_by node p bytes (response_fair node.layer.node b.rcode p b.given tt)
request_fair node (write_quadlet header offset value) bytes rom = let p = write_quadlet header offset value in let b = begins node p bytes in all_by node p bytes (response_fair node.layer.node b.rcode p b.given tt)
request_fair node (write_block header offset payload) bytes rom = let p = write_block header offset payload in let b = begins node p bytes in all_by node p bytes (response_fair node.layer.node b.rcode p b.given tt)
request_fair node (write_response header code) bytes rom = let p = write_response header code in let b = begins node p bytes in all_by node p bytes (response_fair node.layer.node b.rcode p b.given tt)
request_fair node (read_quadlet_response header code value) bytes rom = let p = read_quadlet_response header code value in let b = begins node p bytes in all_by node p bytes (response_fair node.layer.node b.rcode p b.given tt)
request_fair node (read_block_response header code payload) bytes rom = let p = read_block_response header code payload in let b = begins node p bytes in all_by node p bytes (response_fair node.layer.node b.rcode p b.given tt)
request_fair node (lock_response header code extended payload) bytes rom = let p = lock_response header code extended payload in let b = begins node p bytes in all_by node p bytes (response_fair node.layer.node b.rcode p b.given tt)

again_fair : (node : NodeState) (p : Packet) (bytes : List ℕ) (rcode : ℕ) → AllFair (answered p bytes rcode [] (scene node empty_outbox)).outbox.packets
unfolding answer_step answering_step
again_fair node p bytes rcode = (response_fair node.layer.node rcode p [] (none_given_to p), tt)

-- ---- each call

receives_as : (told : Option Told) (bytes : List ℕ) (found : Finding Purpose) (node : NodeState) (disks : List Disk) → IsRom node.rom → AllFair (received_as told bytes found (whole (scene node empty_outbox) disks)).1.outbox.packets
receives_as told bytes of_generation node disks rom = tt
receives_as told bytes of_grammar node disks rom = tt
receives_as told bytes of_label node disks rom = tt
receives_as told bytes (of_response p label purpose) node disks rom = concludes Fair keeps told purpose (header_in p).source label (answer_in p) (whole (scene node empty_outbox) disks) tt
receives_as told bytes (of_again p rcode) node disks rom = again_fair node p bytes rcode
receives_as told bytes (of_request p) node disks rom = request_fair node p bytes rom

pub delivery_fair : (told : Option Told) (generation : ℕ) (bytes : List ℕ) (node : NodeState) (disks : List Disk) → IsRom node.rom → AllFair (received told generation bytes (whole (scene node empty_outbox) disks)).1.outbox.packets
unfolding received
delivery_fair told generation bytes node disks rom =
    let found = judging_step node.layer generation bytes in receives_as told bytes found.0 (record node { layer = found.1 }) disks rom

pub lapse_fair : (peer : ℕ) (label : LabelParts) (node : NodeState) → AllFair (expired peer label (scene node empty_outbox)).1.outbox.packets
unfolding expired
lapse_fair peer label node = expires_in Fair keeps (expiring_step node.layer peer label) peer label (scene node empty_outbox) tt

pub sight_fair : (generation id : ℕ) (node : NodeState) → AllFair (seen generation id (scene node empty_outbox)).1.outbox.packets
unfolding seen
sight_fair generation id node = sees_by Fair keeps.leaves (seeing_step node.layer generation id) (scene node empty_outbox) tt

pub second_fair : (node : NodeState) → AllFair (ticked (scene node empty_outbox)).outbox.packets
unfolding ticked
second_fair node = ticks_by Fair (tick_step node.logins) (scene node empty_outbox) tt
