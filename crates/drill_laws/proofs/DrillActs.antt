-- What a line of a drill that appends tells: nothing of management, and one packet at most, which writes ORB_POINTER or DOORBELL of the initiator's agent.
use Rattle.std.proofs.Common.{◌≡◌, ◌∙◌, inr, refl, sym, ap, subst, ℕ, suc, ◌+◌, ◌%◌, ◌^◌, ◌<◌, true, false, List, [], ◌∷◌, ◌++◌, append-nil, drop, map, reverse, Option, Some, None, arith}
use Rattle.std.specs.List.{AllByRecursion}
use Rattle.async_packet.specs.Canon.{canon}
use Rattle.label_table.specs.Bodies.{header_to, request_with}
use Rattle.label_table.specs.Requests.{label_of}
use Rattle.rbc_disk.specs.Disk.{Disk}
use Rattle.sbp_journal.specs.Addresses.{base_of, doorbell, orb_pointer}
use Rattle.sbp_journal.specs.Run.{Moment, asked, said}
use Rattle.sbp_journal.specs.Wire.{Terms, local_id, terms}
use Rattle.sbp_journal.specs.declared.event.Cmd.{Cmd}
use Rattle.sbp_journal.specs.declared.event.Event.{Event}
use Rattle.sbp_journal.specs.declared.event.Event.TheVariants as events
use Rattle.sbp_journal.specs.declared.event.Action.TheVariants as actions
use Rattle.sbp_journal.specs.declared.note.Note.{Note}
use Rattle.sbp_journal.specs.declared.note.Note.TheVariants as notes
use Rattle.bus_memory.specs.declared.window.Window.TheVariants as windows
use Rattle.bus_memory.specs.Windows.{start}
use Rattle.sbp_laws.specs.Actions.{action_body, address_bytes, first_slot, pointer_for, refusal_at, register_of, ring_body}
use Rattle.sbp_laws.specs.Agents.{requests_to}
use Rattle.sbp_laws.specs.Deliveries.{once_told}
use Rattle.sbp_laws.specs.Hosts.{Host, host_at}
use Rattle.sbp_laws.specs.Lists.{present_list}
use Rattle.sbp_laws.specs.Packets.{id_for, id_of}
use Rattle.sbp_laws.specs.SentRequests.{ArePackets, IsAsked, IsRequest, RequestsLaw, unless_refused}
use Rattle.sbp_laws.specs.Turns.{Turn, effects_of, sends_of, turn}
use Rattle.drill_laws.proofs.DrillAir.{AreActing, all_reverse, is_acting}
use Rattle.drill_laws.proofs.DrillRings.{AreHarmless, IsRing, bell_harmless, bell_place, pointer_harmless, pointer_place}
use Rattle.drill_laws.proofs.DrillTurns.{AreFine, IsCalm, IsFineSent}
use Rattle.drill_laws.proofs.DrillWire.{Parts, Young, parts}

-- ---- the wire behind what a line tells before its packet

-- packets are no effects
abbrev IsTelling : Note → Type 0
IsTelling (notes.Sent serial generation from to bytes) = ⊥
IsTelling note = is_acting note ≡ true

effects_tell : (told : List Note) → AreActing told → AllByRecursion IsTelling (effects_of told)
effects_tell [] all = tt
effects_tell (notes.Sent serial generation from to bytes ∷ told) all = effects_tell told all.1
effects_tell (notes.Append i n k cdb buffer ∷ told) all = (refl, effects_tell told all.1)
effects_tell (notes.Low i n k ∷ told) all = (refl, effects_tell told all.1)
effects_tell (notes.Linked i n k ∷ told) all = (refl, effects_tell told all.1)
effects_tell (notes.Rung i n k ∷ told) all = (refl, effects_tell told all.1)
effects_tell (notes.Refused line number ∷ told) all = (refl, effects_tell told all.1)
effects_tell (_ ∷ told) all = absurd (let no : false ≡ true = all.0 in cc no)

telling_same : (told : List Note) (past : List Moment) → AllByRecursion IsTelling told → parts (terms (map said told ++ past)) ≡ parts (terms past)
telling_same [] past all = refl
telling_same (notes.Append i n k cdb buffer ∷ told) past all = telling_same told past all.1
telling_same (notes.Low i n k ∷ told) past all = telling_same told past all.1
telling_same (notes.Linked i n k ∷ told) past all = telling_same told past all.1
telling_same (notes.Rung i n k ∷ told) past all = telling_same told past all.1
telling_same (notes.Refused line number ∷ told) past all = telling_same told past all.1
telling_same (notes.Sent serial generation from to bytes ∷ told) past all = absurd all.0
telling_same (_ ∷ told) past all = absurd (let no : false ≡ true = all.0 in cc no)

-- ---- the packet
-- it is the ring of the initiator's line
pub record IsRingPacket (past : List Moment) (i from to : ℕ) (bytes : List ℕ) : Type 0 where
  pub sender : from ≡ suc i
  pub receiver : to ≡ 0
  pub source : ℕ
  pub destination : ℕ
  pub source_small : source < 2 ^ 16
  pub destination_small : destination < 2 ^ 16
  pub spelled : bytes ≡ canon (request_with (header_to source destination (label_of bytes)) (ring_body past i (host_at past i) (pointer_for (present_list past i) (host_at past i))))

-- which is the one packet
pub record OneRing (past : List Moment) (i : ℕ) (sent : List Note) : Type 0 where
  pub serial : ℕ
  pub generation : ℕ
  pub from : ℕ
  pub to : ℕ
  pub bytes : List ℕ
  pub is : sent ≡ notes.Sent serial generation from to bytes ∷ []
  pub ring : IsRingPacket past i from to bytes

module _ (past : List Moment) (i : ℕ) (small : i < 2) (host : Host) (agent : host.login.agent ≡ base_of i) (wire : Terms) (ids : (generation node : ℕ) → wire.ids generation node ≡ local_id node) where
  own_small : id_of wire (suc i) < 2 ^ 16
  own_small = let is : id_of wire (suc i) ≡ 65472 + suc i = ids (wire.generation (suc i)) (suc i) in omega (arith, is, small)

  target_small : id_for wire (suc i) 0 < 2 ^ 16
  target_small = let is : id_for wire (suc i) 0 ≡ 65472 + 0 = ids (wire.generation (suc i)) 0 in omega (arith, is)

  pointer_at : IsRing (register_of host orb_pointer)
  pointer_at = subst (λ a. IsRing ((a + 0x08) % 2 ^ 48)) (sym agent) (pointer_place i small)

  bell_at : IsRing (register_of host doorbell)
  bell_at = subst (λ a. IsRing ((a + 0x10) % 2 ^ 48)) (sym agent) (bell_place i small)

  body_harmless : (pointer : Option ℕ) (bytes : List ℕ) → bytes ≡ canon (request_with (header_to (id_of wire (suc i)) (id_for wire (suc i) 0) (label_of bytes)) (ring_body past i host pointer)) → AreHarmless bytes
  body_harmless None bytes e =
      pointer_harmless bytes (address_bytes (start (windows.Orb (first_slot past i (present_list past i))))) (id_of wire (suc i)) (id_for wire (suc i) 0) (register_of host orb_pointer) own_small target_small (omega arith) (omega arith) pointer_at e
  body_harmless (Some serial) bytes e = bell_harmless bytes (id_of wire (suc i)) (id_for wire (suc i) 0) (register_of host doorbell) host.running own_small target_small (omega arith) bell_at e

  request_fine : (serial generation from to : ℕ) (bytes : List ℕ) (pointer : Option ℕ)
      → IsRequest wire (suc i) (record { to = 0; body = ring_body past i host pointer; is_untold = false }) (ring_body past i host pointer) serial generation from to bytes → IsFineSent (notes.Sent serial generation from to bytes)
  request_fine serial generation from to bytes pointer r = λ back. ((λ own. absurd (let no : suc i ≡ 0 = sym r.sender ∙ own in omega (arith, no))), inr (body_harmless pointer bytes r.spelled))

-- ---- the line
module _ (start_disks : List Disk) (past : List Moment) (line i : ℕ) (cmd : Cmd) (small : i < 2) (calm : IsCalm start_disks past) (young : Young (terms past)) (rest : List Note) (acting : AreActing rest) where
  abbrev event : Event
  event = events.Act i (actions.Append cmd)

  abbrev t : Turn
  t = turn past (asked line event) rest

  abbrev host : Host
  host = host_at past i

  abbrev there : List Moment
  there = once_told (asked line event ∷ past) (effects_of rest ++ [])

  there_same : parts (terms there) ≡ parts (terms past)
  there_same = telling_same (reverse (effects_of rest ++ [])) (asked line event ∷ past) (all_reverse IsTelling (effects_of rest ++ []) (subst (AllByRecursion IsTelling) (sym (append-nil (effects_of rest))) (effects_tell rest acting)))

  ids_there : (generation node : ℕ) → (terms there).ids generation node ≡ local_id node
  ids_there generation node = ap (λ (p : Parts). p.ids generation node) there_same ∙ young.ids generation node

  as_request : (pointer : Option ℕ) (serial generation from to : ℕ) (bytes : List ℕ) → IsAsked false (ring_body past i host pointer) (terms there) (suc i) (record { to = 0; body = ring_body past i host pointer; is_untold = false }) serial generation from to bytes
      → IsRequest (terms there) (suc i) (record { to = 0; body = ring_body past i host pointer; is_untold = false }) (ring_body past i host pointer) serial generation from to bytes
  as_request None serial generation from to bytes h = h
  as_request (Some own) serial generation from to bytes h = h

  one_fine : (sent : List Note) → ArePackets there (suc i) sent (requests_to 0 (Some (ring_body past i host (pointer_for (present_list past i) host)))) → AllByRecursion IsFineSent sent
  one_fine [] h = absurd h
  one_fine (notes.Sent serial generation from to bytes ∷ []) h =
      (request_fine past i small host (calm.agents i small) (terms there) ids_there serial generation from to bytes (pointer_for (present_list past i) host) (as_request (pointer_for (present_list past i) host) serial generation from to bytes h.0), tt)
  one_fine (notes.Sent serial generation from to bytes ∷ notes.Sent a b c d e ∷ rest) h = absurd h.1
  one_fine (notes.Sent serial generation from to bytes ∷ _ ∷ rest) h = absurd h.1
  one_fine (_ ∷ rest) h = absurd h

  none_fine : (sent : List Note) → ArePackets there (suc i) sent [] → AllByRecursion IsFineSent sent
  none_fine [] h = tt
  none_fine (notes.Sent serial generation from to bytes ∷ rest) h = absurd h
  none_fine (_ ∷ rest) h = absurd h

  ring_here : (serial generation from to : ℕ) (bytes : List ℕ) (pointer : Option ℕ)
      → IsRequest (terms there) (suc i) (record { to = 0; body = ring_body past i host pointer; is_untold = false }) (ring_body past i host pointer) serial generation from to bytes → pointer ≡ pointer_for (present_list past i) host → IsRingPacket past i from to bytes
  ring_here serial generation from to bytes pointer r e = record {
    sender = r.sender;
    receiver = r.receiver;
    source = id_of (terms there) (suc i);
    destination = id_for (terms there) (suc i) 0;
    source_small = own_small past i small host (calm.agents i small) (terms there) ids_there;
    destination_small = target_small past i small host (calm.agents i small) (terms there) ids_there;
    spelled = r.spelled ∙ ap (λ p. canon (request_with (header_to (id_of (terms there) (suc i)) (id_for (terms there) (suc i) 0) (label_of bytes)) (ring_body past i host p))) e;
  }

  one_ring : (sent : List Note) → ArePackets there (suc i) sent (requests_to 0 (Some (ring_body past i host (pointer_for (present_list past i) host)))) → OneRing past i sent
  one_ring [] h = absurd h
  one_ring (notes.Sent serial generation from to bytes ∷ []) h =
      record { serial = serial; generation = generation; from = from; to = to; bytes = bytes; is = refl; ring = ring_here serial generation from to bytes (pointer_for (present_list past i) host) (as_request (pointer_for (present_list past i) host) serial generation from to bytes h.0) refl }
  one_ring (notes.Sent serial generation from to bytes ∷ notes.Sent a b c d e ∷ rest) h = absurd h.1
  one_ring (notes.Sent serial generation from to bytes ∷ _ ∷ rest) h = absurd h.1
  one_ring (_ ∷ rest) h = absurd h

  pub rings_here : RequestsLaw start_disks t → refusal_at past i (actions.Append cmd) ≡ None → OneRing past i (sends_of rest)
  rings_here asks none = one_ring (sends_of rest) (subst (λ r. ArePackets there (suc i) (drop 0 (sends_of rest)) (unless_refused r (requests_to 0 (action_body (actions.Append cmd) past i host)))) none (asks refl))

  sends_fine_here : RequestsLaw start_disks t → AllByRecursion IsFineSent (sends_of rest)
  sends_fine_here asks = by (refusal_at past i (actions.Append cmd)) (asks refl)
    where
      by : (refusal : Option ℕ) → ArePackets there (suc i) (drop 0 (sends_of rest)) (unless_refused refusal (requests_to 0 (action_body (actions.Append cmd) past i host))) → AllByRecursion IsFineSent (sends_of rest)
      by None h = one_fine (sends_of rest) h
      by (Some number) h = none_fine (sends_of rest) h

  over_all : (rest : List Note) → AreActing rest → AllByRecursion IsFineSent (sends_of rest) → AreFine rest
  over_all [] acting sent = tt
  over_all (notes.Sent serial generation from to bytes ∷ rest) acting sent = (record { calm = tt; sent = sent.0 }, over_all rest acting.1 sent.1)
  over_all (notes.Append j n k cdb buffer ∷ rest) acting sent = (record { calm = tt; sent = tt }, over_all rest acting.1 sent)
  over_all (notes.Low j n k ∷ rest) acting sent = (record { calm = tt; sent = tt }, over_all rest acting.1 sent)
  over_all (notes.Linked j n k ∷ rest) acting sent = (record { calm = tt; sent = tt }, over_all rest acting.1 sent)
  over_all (notes.Rung j n k ∷ rest) acting sent = (record { calm = tt; sent = tt }, over_all rest acting.1 sent)
  over_all (notes.Refused number other ∷ rest) acting sent = (record { calm = tt; sent = tt }, over_all rest acting.1 sent)
  over_all (_ ∷ rest) acting sent = absurd (let no : false ≡ true = acting.0 in cc no)

  pub act_fine : RequestsLaw start_disks t → AreFine rest
  act_fine asks = over_all rest acting (sends_fine_here asks)
