-- What the target sends first in a delivery in which it gets a request is the response of the law of answers.
use Rattle.std.proofs.Common.{arith, ◌≡◌, ◌∙◌, refl, sym, ap, ℕ, ◌<◌, ◌≤◌, List, ◌∷◌, ◌++◌, length, Option, Some}
use Rattle.async_packet.specs.Packet.{Packet, header_in}
use Rattle.bus_transactions.specs.Wire.{as_sending}
use Rattle.label_table.specs.Judging.{by_request}
use Rattle.label_table.specs.Layer.{Finding, Layer, judging_step, of_request}
use Rattle.packet_store.specs.declared.sent.Sent.{Sent}
use Rattle.packet_store.specs.Kept.{found_sent}
use Rattle.rbc_disk.specs.Disk.{Disk}
use Rattle.rbc_disk.specs.Runs.{Told}
use Rattle.sbp_bus.specs.Packets.{judged_note}
use Rattle.sbp_journal.specs.Addresses.{Access, access_of}
use Rattle.sbp_journal.specs.Outgoings.{empty_outbox}
use Rattle.sbp_journal.specs.Rows.{Judging, ignored_as, judging_of, serving, target_rcode, telling}
use Rattle.sbp_journal.specs.Run.{Moment, said}
use Rattle.sbp_journal.specs.Transactions.{Sending}
use Rattle.sbp_journal.specs.Wire.{Terms, terms}
use Rattle.sbp_journal.specs.declared.cause.Judged.{Judged}
use Rattle.sbp_journal.specs.declared.cause.Judged.TheVariants as judgements
use Rattle.sbp_journal.specs.declared.note.Note.{Note}
use Rattle.sbp_laws.specs.JudgementLaw.{answer_packet}
use Rattle.sbp_laws.specs.SentAnswers.{AnswersLaw}
use Rattle.sbp_laws.specs.Served.{Reply, reply_of, target_reply}
use Rattle.sbp_laws.specs.Targets.{Target, over, target_at}
use Rattle.sbp_laws.specs.Turns.{sends_of, turn}
use Rattle.sbp_target.specs.Histories.Answers.{response_of}
use Rattle.sbp_target.specs.Histories.Judgements.{BeginsWith, facts_at, gives_at, judged_as, judged_by, row_gives, row_rcode}
use Rattle.sbp_target.specs.Nodes.{NodeState, Scene as TargetScene, scene}
use Rattle.sbp_target.specs.Receiving.{judged_scene, received, received_as, with_layer}
use Rattle.sbp_target.specs.Replies.{Whole}
use Rattle.sbp_target.specs.Serving.{request_step}
use Rattle.sbp_target.specs.declared.purpose.Purpose.{Purpose}
use Rattle.sbp_target.proofs.Histories.Found.{IsFound, found as found_as}
use Rattle.sbp_target.proofs.Histories.Rowing.{row_law}
use Rattle.sbp_world.specs.Delivering.{whole_of}
use Rattle.sbp_world.specs.Hosts.Handing.{AreOthers}
use Rattle.sbp_world.specs.Wire.Wires.{Stands, layers_of}
use Rattle.sbp_world.specs.Worlds.{Scene, WorldState}
use Rattle.sbp_world.proofs.Agents.CrewFirsts.{AccessIs, access_there}
use Rattle.sbp_world.proofs.Agents.Management.Holding.{was_sent}
use Rattle.sbp_world.proofs.Agents.Management.Still.{hist}
use Rattle.sbp_world.proofs.Hosts.AnsweringBlocks.{not_got}
use Rattle.turn_laws.proofs.AnswerNotes.{SameBus}
use Rattle.turn_laws.proofs.FoundRows.{Asks, RowFor}
use Rattle.turn_laws.proofs.Handed.{handed}
use Rattle.turn_laws.proofs.Places.{Place}
use Rattle.turn_laws.proofs.SentAnswers.{IfRequest, answers_by, first_handed, others_unsent, request_answers, sends_more}
use Rattle.turn_laws.proofs.TargetJudges.{judged_first, target_acts}
use Rattle.turn_laws.proofs.TargetReplies.{bytes_same, code_same, reply_same}

-- a request that is got has the rcode and the bytes of the table of addresses
got_code : (j : Judging) (code : ℕ) → judged_as j ≡ judgements.Got → row_rcode j code ≡ code
got_code (ignored_as cause rcode) code e = absurd (not_got cause e)
got_code telling code e = refl
got_code serving code e = refl

got_bytes : (j : Judging) (given : List ℕ) → judged_as j ≡ judgements.Got → row_gives j given ≡ given
got_bytes (ignored_as cause rcode) given e = absurd (not_got cause e)
got_bytes telling given e = refl
got_bytes serving given e = refl

scene_packets : (x : Judged × TargetScene) (w : Whole) → (judged_scene x w).1.outbox.packets ≡ x.1.outbox.packets
scene_packets (judged, s) w = refl

module _ (units ready : ℕ) (has : 0 < units) (start : List Disk) (past : List Moment) (s : Scene) (here : Place units ready start past s) (serial : ℕ) (one : Sent) (found : found_sent serial s.world.store.kept ≡ Some one) (zero_to : one.to ≡ 0) (run : Option Told) (v : WorldState) (bus : SameBus s.world v) where
  abbrev node : NodeState
  node = s.world.target

  abbrev ms : List Moment
  ms = hist past s.world

  abbrev t : Terms
  t = terms ms

  abbrev target : Target
  target = over (target_at start ms)

  abbrev q : Sending
  q = as_sending one

  stands : Stands past s.world
  stands = here.holds.sound.stands

  there : one.to ≤ length s.world.initiators
  there = omega (arith, zero_to)

  abbrev Given : Finding Purpose × Layer Purpose → Judged × Whole
  Given x = received_as run one.bytes x.0 (with_layer x.1 (whole_of node s.media))

  abbrev rest_of : Judged × Whole → List Note
  rest_of r = handed 0 0 r.1.outbox v

  abbrev Law : Judged → Judged × Whole → Type 0
  Law judged r = AnswersLaw start (turn ms (said (judged_note serial judged)) (rest_of r))

  module _ (p : Packet) (layer : Layer Purpose) (layer_is : layer ≡ node.layer) (a : Asks t q p by_request) where
    abbrev now : NodeState
    now = record node { layer = layer }

    abbrev r : Judged × Whole
    r = Given (of_request p, layer)

    abbrev asks : AccessIs p
    asks = access_there p a.none

    abbrev access : Access
    access = asks.access

    is : access_of p ≡ Some access
    is = asks.is

    abbrev judging : Judging
    judging = judging_of (judged_by now (header_in p).source access)

    abbrev code : ℕ
    code = target_rcode (facts_at now access)

    abbrev served : Judged × TargetScene
    served = request_step p one.bytes (scene now empty_outbox)

    begins : BeginsWith layer.node p (row_rcode judging code) (row_gives judging (gives_at now access)) served.1.outbox.packets
    begins = (row_law p access is).answers one.bytes (scene now empty_outbox) refl

    abbrev reply : Reply
    reply = target_reply start target access

    -- its packets begin with the reply of the terms
    packets_are : r.0 ≡ judgements.Got → r.1.outbox.packets ≡ response_of node.layer.node p reply.rcode reply.given ∷ begins.more
    packets_are got =
        let all = with_layer layer (whole_of node s.media) in
        let so : judged_as judging ≡ judgements.Got = sym ((row_law p access is).judges one.bytes (scene now empty_outbox)) ∙ sym (judged_first served all) ∙ got in
        scene_packets served all
        ∙ (begins.packets_are
        ∙ (ap (λ c. response_of layer.node p c (row_gives judging (gives_at now access)) ∷ begins.more) (got_code judging code so)
        ∙ (ap (λ xs. response_of layer.node p code xs ∷ begins.more) (got_bytes judging (gives_at now access) so)
        ∙ (ap (λ x. x ∷ begins.more)
        (reply_same p access is layer.node code reply.rcode (gives_at now access) reply.given (code_same units ready has start past s here now refl refl refl access)
        (λ reads z. bytes_same units ready has start past s here now refl refl refl access reads z))
        ∙ ap (λ (l : Layer Purpose). response_of l.node p reply.rcode reply.given ∷ begins.more) layer_is))))

    request_got : AreOthers r.1.outbox.sides → r.0 ≡ judgements.Got → Law judgements.Got r
    request_got others got =
        let own_is : node.layer.node ≡ (layers_of s.world one.to).node = ap (λ n. (layers_of s.world n).node) (sym zero_to) in
        let o = r.1.outbox in
        let more = sends_more s.world stands serial one found there p a.read v bus reply.rcode node.layer.node reply.given own_is a.current o begins.more in
        let first =
        first_handed s.world stands serial one found there p a.read v bus reply.rcode node.layer.node reply.given own_is a.current o
        (others_unsent o.sides others) begins.more (packets_are got) in
        let At : ℕ → List Note = λ n. (let x = reply_of start ms target n access in answer_packet t q x.rcode x.given (Some p) ++ more) in
        request_answers start ms serial q (was_sent s.world stands serial one found) p access a.read is (rest_of r) more
        (ap (λ n. sends_of (handed n 0 o v)) (sym zero_to) ∙ (first ∙ ap At (sym zero_to)))

  -- by what it is found to be
  requests : (x : Finding Purpose × Layer Purpose) → IsFound x.0 node.layer x.1 one.bytes → AreOthers (Given x).1.outbox.sides
      → IfRequest start ms serial q (was_sent s.world stands serial one found) node.layer.node (rest_of (Given x)) x.0 (Given x).0
  requests (of_request p, layer) f others = λ a got. request_got p layer f.0 a others got
  requests (f, layer) h others = tt

  pub target_answers : (let x = received run one.generation one.bytes (whole_of node s.media) in
      AreOthers x.1.outbox.sides → RowFor t q node.layer.node (judging_step node.layer one.generation one.bytes) → Law x.0 x)
  unfolding received
  target_answers others row =
      let x = judging_step node.layer one.generation one.bytes in
      answers_by start ms serial q (was_sent s.world stands serial one found) node.layer.node (rest_of (Given x)) x (Given x).0 row
      (target_acts units ready has start past s here serial one found zero_to run v bus row)
      (requests x (found_as node.layer one.generation one.bytes) others)
