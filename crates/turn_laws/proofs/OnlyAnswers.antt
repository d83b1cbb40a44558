-- What the target sends where it gets a packet is its response alone, or nothing: so nothing stands behind the response. And the node from which a request came is there.
use Rattle.std.proofs.Common.{arith, ◌≡◌, ◌∙◌, refl, ap, subst, ℕ, ◌≤◌, is_some, true, List, [], ◌∷◌, ◌++◌, length, Some, None, Ok}
use Rattle.async_packet.specs.Packet.{Packet, header_in}
use Rattle.async_packet.specs.Reading.{reading}
use Rattle.bus_transactions.specs.Judging.{AreJudged}
use Rattle.bus_transactions.specs.Wire.{as_sending}
use Rattle.label_table.specs.Layer.{Layer, answering_step}
use Rattle.label_table.specs.Requests.{reply_kind}
use Rattle.packet_store.specs.declared.sent.Sent.{Sent}
use Rattle.packet_store.specs.Kept.{found_sent}
use Rattle.rbc_disk.specs.Disk.{Disk}
use Rattle.sbp_bus.specs.Generations.{node_of}
use Rattle.sbp_journal.specs.Outgoings.{OutboxState}
use Rattle.sbp_journal.specs.Run.{Moment, said}
use Rattle.sbp_journal.specs.Wire.{Terms, terms}
use Rattle.sbp_journal.specs.declared.note.Note.{Note}
use Rattle.sbp_journal.specs.declared.note.Note.TheVariants as notes
use Rattle.sbp_journal.specs.declared.outbox.Outgoing.{Outgoing}
use Rattle.sbp_laws.specs.SentAnswers.{answer_due}
use Rattle.sbp_laws.specs.SentRequests.{behind_answer}
use Rattle.sbp_laws.specs.Turns.{Turn, turn}
use Rattle.sbp_target.specs.declared.purpose.Purpose.{Purpose}
use Rattle.sbp_target.specs.Nodes.{Scene as TargetScene}
use Rattle.sbp_target.specs.Sending.{answer_step, answered_by}
use Rattle.sbp_target.specs.Serving.{answered}
use Rattle.sbp_world.specs.Hosts.Handing.{AreOthers}
use Rattle.sbp_world.specs.Worlds.{Scene, WorldState}
use Rattle.sbp_world.proofs.Agents.CrewFirsts.{access_there}
use Rattle.sbp_world.proofs.Agents.Management.Holding.{was_sent}
use Rattle.sbp_world.proofs.Agents.Management.Still.{hist}
use Rattle.sbp_world.proofs.Common.{equal}
use Rattle.turn_laws.proofs.AnswerNotes.{source_there}
use Rattle.turn_laws.proofs.Handed.{handed, notes_sent}
use Rattle.turn_laws.proofs.Places.{Place}
use Rattle.turn_laws.proofs.SentAnswers.{none_due, reply_due}
use Rattle.turn_laws.proofs.TurnSends.{all_alone, all_second, is_current, response_is}

-- the packet of a response
abbrev pub response_to : Packet → List ℕ → Outgoing
response_to p bytes = record { to = (header_in p).source; label = None; bytes = bytes }

packet_by : (r : List ℕ × Layer Purpose) (o : OutboxState) (source : ℕ) → (answered_by r o source).1.packets ≡ o.packets ++ record { to = source; label = None; bytes = r.0 } ∷ []
packet_by (bytes, layer) o source = refl

pub answered_packets : (p : Packet) (bytes : List ℕ) (rcode : ℕ) (given : List ℕ) (s : TargetScene) → (answered p bytes rcode given s).outbox.packets ≡ s.outbox.packets ++ response_to p (answering_step s.node.layer p bytes rcode given).0 ∷ []
unfolding answer_step
answered_packets p bytes rcode given s = packet_by (answering_step s.node.layer p bytes rcode given) s.outbox (header_in p).source

module _ (units ready : ℕ) (start : List Disk) (past : List Moment) (s : Scene) (here : Place units ready start past s) (serial : ℕ) (one : Sent) (found : found_sent serial s.world.store.kept ≡ Some one) (zero_to : one.to ≡ 0) (p : Packet) (read : reading one.bytes ≡ Ok p) (now : WorldState) (same : now.generations ≡ s.world.generations) (o : OutboxState) (others : AreOthers o.sides) where
  abbrev w : WorldState
  w = s.world

  abbrev ms : List Moment
  ms = hist past w

  abbrev wire : Terms
  wire = terms ms

  abbrev t : Turn
  t = turn ms (said (notes.Got serial)) (handed 0 0 o now)

  -- a response that is got is not answered
  pub got_nothing : is_some (reply_kind p) ≡ true → o.packets ≡ [] → behind_answer start t ≡ []
  got_nothing some packets =
      let all = all_alone start t w.generations o now same others refl (none_due start ms serial (as_sending one) (was_sent w here.holds.sound.stands serial one found) (handed 0 0 o now) (response_is one.bytes p read some)) in
      all.is ∙ ap (λ ps. notes_sent 0 ps all.world) packets

  module _ (judged : AreJudged (said (notes.Got serial) ∷ hist past s.world)) (none : reply_kind p ≡ None) where
    pub from_there : node_of w.generations 0 (header_in p).source ≡ Some one.from
    from_there =
        let stands = here.holds.sound.stands in
        let q = as_sending one in
        let current : one.generation ≡ wire.generation one.to = equal one.generation (wire.generation one.to) (is_current wire q (judged.0 q (was_sent w stands serial one found))) in
        let inside : one.to ≤ length w.initiators = omega (arith, zero_to) in
        subst (λ n. node_of w.generations n (header_in p).source ≡ Some one.from) zero_to (source_there w stands serial one found inside p read current)

    pub one_due : length (answer_due start t t.start) ≡ 1
    one_due =
        let there = access_there p none in
        ap (λ (ns : List Note). length ns) (reply_due start ms serial (as_sending one) (was_sent w here.holds.sound.stands serial one found) p there.access read there.is (handed 0 0 o now))

    -- a request that is got has its response
    pub answered_alone : (bytes : List ℕ) → o.packets ≡ response_to p bytes ∷ [] → behind_answer start t ≡ []
    answered_alone bytes packets = (all_second start t w.generations o now same others refl one_due (response_to p bytes) one.from from_there [] packets).is
