-- What a packet that comes to the target is for, by the terms of its place: a call of the management operation.
use Rattle.std.proofs.Common.{arith, ◌≡◌, ◌∙◌, refl, ap, ℕ, suc, ◌<◌, nat_eq, is_some, Bool, true, false, cond, List, ◌∷◌, Option, Some, None, Result, Ok}
use Rattle.std.proofs.lemmas.Bool.Decides.{nat_tests}
use Rattle.async_packet.specs.Labels.{LabelParts}
use Rattle.async_packet.specs.Packet.{Packet, header_in}
use Rattle.async_packet.specs.Reading.{reading}
use Rattle.async_packet.specs.declared.fault.PacketFault.{PacketFault}
use Rattle.bus_transactions.specs.Judging.{AreJudged}
use Rattle.bus_transactions.specs.Wire.{as_sending}
use Rattle.label_table.specs.Layer.{Layer, judging_step, of_response}
use Rattle.label_table.specs.Requests.{reply_kind}
use Rattle.label_table.specs.declared.reply.ReplyKind.{ReplyKind}
use Rattle.packet_store.specs.declared.sent.Sent.{Sent}
use Rattle.packet_store.specs.Kept.{found_sent}
use Rattle.rbc_disk.specs.Disk.{Disk}
use Rattle.sbp_bus.specs.Packets.{judged_note}
use Rattle.sbp_journal.specs.Addresses.{access_of}
use Rattle.sbp_journal.specs.Run.{Moment, said}
use Rattle.sbp_journal.specs.Transactions.{Sending}
use Rattle.sbp_journal.specs.Wire.{Terms, terms}
use Rattle.sbp_journal.specs.declared.cause.Judged.{Judged}
use Rattle.sbp_journal.specs.declared.cause.Judged.TheVariants as judgements
use Rattle.sbp_journal.specs.declared.note.Note.TheVariants as notes
use Rattle.sbp_laws.specs.Management.{answer_to, answers as call_answers, call_by, got_call, no_call, source_node, start_in}
use Rattle.sbp_laws.specs.Agents.{event_by, got_in, nothing, write_in}
use Rattle.sbp_laws.specs.Packets.{access_at, access_in, answer_in as term_answer, answered_at, id_for, packet_at, packet_in, receiver_in, sender_in, spelled_by}
use Rattle.sbp_laws.specs.Targets.{Purpose as TermPurpose, Target, for_agent, for_manager, for_nobody, is_serial, over, purpose_of, target_at}
use Rattle.sbp_target.specs.declared.purpose.Purpose.{Purpose}
use Rattle.sbp_target.specs.declared.purpose.Purpose.TheVariants as purposes
use Rattle.sbp_target.specs.Receiving.{answer_in}
use Rattle.sbp_world.specs.Agents.Serials.{IsHanded}
use Rattle.sbp_world.specs.Worlds.{Scene, WorldState}
use Rattle.sbp_world.proofs.Agents.CrewFirsts.{answer_same, asks_part, for_it, handed}
use Rattle.sbp_world.proofs.Agents.Management.Hearing.{IsAnswer, answers, answers_none}
use Rattle.sbp_world.proofs.Agents.Management.Holding.{was_sent}
use Rattle.sbp_world.proofs.Agents.Management.Still.{hist}
use Rattle.turn_laws.proofs.Places.{Place}

-- a request is no reply
pub no_kind : (kind : Option ReplyKind) → is_some kind ≡ false → kind ≡ None
no_kind None k = refl
no_kind (Some kind) k = absurd (let no : true ≡ false = k in cc)

module _ (units ready : ℕ) (has : 0 < units) (start : List Disk) (past : List Moment) (s : Scene) (here : Place units ready start past s) (serial : ℕ) (one : Sent) (found : found_sent serial s.world.store.kept ≡ Some one) where
  abbrev w : WorldState
  w = s.world

  abbrev ms : List Moment
  ms = hist past w

  abbrev wire : Terms
  wire = terms ms

  abbrev T : Target
  T = over (target_at start ms)

  abbrev q : Sending
  q = as_sending one

  was_it : wire.sent serial ≡ Some q
  was_it = was_sent w here.holds.sound.stands serial one found

  -- what it calls
  call_to : (b : Bool) → is_serial (receiver_in (wire.sent serial)) 0 ≡ b → call_by (said (notes.Got serial)) T wire ≡ cond b (got_call (answered_at wire serial) T wire serial) no_call
  call_to b e = ap (λ x. cond x (got_call (answered_at wire serial) T wire serial) no_call) e

  -- of an initiator nothing
  got_own : (i : ℕ) → one.to ≡ suc i → call_by (said (notes.Got serial)) T wire ≡ no_call
  got_own i to_is =
      let away : nat_eq one.to 0 ≡ false = grind (arith, nat_tests) in call_to false (ap (λ so. is_serial (receiver_in so) 0) was_it ∙ away)

  pub own_calls_nothing : (i : ℕ) → one.to ≡ suc i → (judged : Judged) → call_by (said (judged_note serial judged)) T wire ≡ no_call
  own_calls_nothing i to_is judgements.Got = got_own i to_is
  own_calls_nothing i to_is (judgements.Ignored cause) = refl

  -- and what it is for an agent
  event_to : (b : Bool) → is_serial (receiver_in (wire.sent serial)) 0 ≡ b → event_by (said (notes.Got serial)) T wire ≡ cond b (got_in (answered_at wire serial) T wire serial) nothing
  event_to b e = ap (λ x. cond x (got_in (answered_at wire serial) T wire serial) nothing) e

  pub own_brings_nothing : (i : ℕ) → one.to ≡ suc i → event_by (said (notes.Got serial)) T wire ≡ nothing
  own_brings_nothing i to_is =
      let away : nat_eq one.to 0 ≡ false = grind (arith, nat_tests) in event_to false (ap (λ so. is_serial (receiver_in so) 0) was_it ∙ away)

  -- of the target
  module _ (zero_to : one.to ≡ 0) where
    to_it : is_serial (receiver_in (wire.sent serial)) 0 ≡ true
    to_it = ap (λ so. is_serial (receiver_in so) 0) was_it ∙ (let same : nat_eq one.to 0 ≡ true = grind (arith, nat_tests) in same)

    pub got_brings : event_by (said (notes.Got serial)) T wire ≡ got_in (answered_at wire serial) T wire serial
    got_brings = event_to true to_it

    pub access_is : (p : Packet) → reading one.bytes ≡ Ok p → access_at wire serial ≡ access_of p
    access_is p read = ap (λ so. access_in (packet_in so)) was_it ∙ ap (λ (r : Result Packet PacketFault). access_in (spelled_by r)) read

    pub request_brings : (p : Packet) → reading one.bytes ≡ Ok p → reply_kind p ≡ None → event_by (said (notes.Got serial)) T wire ≡ write_in (access_of p)
    request_brings p read none =
        let part = asks_part units ready has start w here.holds serial false one found zero_to p read none in
        got_brings ∙ (ap (λ own. got_in own T wire serial) (answers_none wire serial q part.label part.kind was_it part.part) ∙ ap write_in (access_is p read))

    -- a request asks for a register
    pub request_calls : (p : Packet) → reading one.bytes ≡ Ok p → reply_kind p ≡ None → call_by (said (notes.Got serial)) T wire ≡ start_in (access_at wire serial) (id_for wire 0 (source_node (sender_in (wire.sent serial))))
    request_calls p read none =
        let part = asks_part units ready has start w here.holds serial false one found zero_to p read none in
        call_to true to_it ∙ ap (λ own. got_call own T wire serial) (answers_none wire serial q part.label part.kind was_it part.part)

    -- a response answers the operation, or another
    module _ (judged : AreJudged (said (notes.Got serial) ∷ ms)) (p : Packet) (read : reading one.bytes ≡ Ok p) (some : is_some (reply_kind p) ≡ true) (label : LabelParts) (layer : Layer Purpose) (purpose : Option Purpose) (e : judging_step w.target.layer one.generation one.bytes ≡ (of_response p label purpose, layer)) where
      pub a : IsAnswer wire serial q p
      a = answers wire serial q p was_it read some (judged.0 q was_it)

      pub hand : IsHanded T w.target purpose (wire.ids (wire.generation 0) one.from) (header_in p).label a.own
      hand = handed units ready has start w here.holds serial false one found zero_to p read some label purpose layer e a here.agents.requests here.agents.are here.agents.known

      pub response_calls : (for : TermPurpose) → purpose_of T a.own ≡ for → call_by (said (notes.Got serial)) T wire ≡ answer_to for (answer_in p)
      response_calls for f =
          call_to true to_it ∙ ap (λ own. got_call own T wire serial) a.answered ∙ ap (λ x. answer_to x (term_answer (packet_at wire serial))) f
          ∙ ap (λ x. answer_to for x) (answer_same units ready has start w here.holds serial false one found zero_to p read some label purpose layer e a)

      pub nobody_calls : purpose ≡ None → call_by (said (notes.Got serial)) T wire ≡ no_call
      nobody_calls f = response_calls for_nobody (hand.nobody f)

      pub unsolicited_calls : purpose ≡ Some purposes.Unsolicited → call_by (said (notes.Got serial)) T wire ≡ no_call
      unsolicited_calls f = response_calls for_nobody (hand.unsolicited f)

      pub manager_calls : purpose ≡ Some purposes.Management → call_by (said (notes.Got serial)) T wire ≡ call_answers (answer_in p)
      manager_calls f = response_calls for_manager (hand.operation f)

      pub agent_calls : (place : ℕ) → purpose ≡ Some (purposes.Agent place) → call_by (said (notes.Got serial)) T wire ≡ no_call
      agent_calls place f =
          let its = for_it units ready has start w here.holds serial false one found zero_to p read some label purpose layer e a here.agents.requests here.agents.are here.agents.known place f in
          response_calls (for_agent place its.which) its.is
