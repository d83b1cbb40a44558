-- What an initiator answers to a request that it gets in a delivery is what the run terms say.
use Rattle.sbp_world.proofs.Words.Std.{◌≡◌, refl, sym, ap, subst, ◌∙◌, ℕ, suc, ◌+◌, ◌^◌, ◌<◌, ◌≤◌, Bool, true, false, cond, List, [], ◌∷◌, length, Option, Some, AllByRecursion}
use Rattle.sbp_world.proofs.Words.Wire.{canon, Packet, as_sending, response_to, empty_outbox, Moment, said, Sending, part_of, Terms, terms, Judged, Note}
use Rattle.sbp_world.proofs.Words.Target.{Disk, Told}
use Rattle.sbp_world.proofs.Words.Initiator.{InitiatorState, Turn, receive_step}
use Rattle.sbp_world.proofs.Words.Laws.{answer_packet, access_in, id_of, packet_in, spelled_by, Begins, answers_to, is_answered, reply_in, reply_packet, host_reply, is_sent, turn}
use Rattle.sbp_world.proofs.Words.World.{delivered, Scene, initiator_at, GetsRequest, in_order, history, IsReadBy}
use Rattle.bus_transactions.proofs.PacketParts.{part_read}
use Rattle.sbp_journal.specs.declared.note.Note.TheVariants as notes
use Rattle.sbp_laws.specs.Served.{Reply}
use Rattle.sbp_laws.specs.Turns.{sends_of}
use Rattle.sbp_world.proofs.Wire.Holding.{Sound}
use Rattle.sbp_world.specs.Hosts.Answering.{IsAnswered}
use Rattle.sbp_world.proofs.Hosts.AnsweringTold.{asks_part, none_on, notes_on, sends_last}
use Rattle.sbp_world.proofs.Hosts.AnsweringSends as sends
use Rattle.sbp_world.proofs.Hosts.AnsweringSends.{Gets}
use Rattle.sbp_world.proofs.Hosts.Answering.{answer, read_code}
use Rattle.sbp_world.proofs.Hosts.AnsweringBlocks.{answers}

-- ---- a delivery

module _ {past : List Moment} {lines : ℕ} (s : Scene) (sound : Sound past lines s.world) (i : ℕ) (inside : i < length s.world.initiators) (known : IsReadBy (history s.world past) i (initiator_at s.world i)) (few : (initiator_at s.world i).counts.logins ≤ 2 ^ 32) (serial : ℕ) (again : Bool) (told : Option Told) (g : GetsRequest (history s.world past) s.world i serial) where
  abbrev H : List Moment
  H = history s.world past

  abbrev t : Terms
  t = terms H

  abbrev old : InitiatorState
  old = initiator_at s.world i

  abbrev p : Packet
  p = g.packet

  abbrev q : Sending
  q = as_sending g.sent

  abbrev r : Judged × Turn
  r = receive_step g.sent.generation g.sent.bytes empty_outbox old

  abbrev own_reply : Reply
  own_reply = host_reply H i g.access

  abbrev gets : Gets s.world i serial
  gets = record { sent = g.sent; found = g.found; to_it = g.to_it; packet = g.packet; request = g.request; access = g.access; asks_for = g.asks_for; got = g.got }

  packets_are : r.1.0.packets ≡ answer old.layer.node p own_reply.rcode own_reply.given ∷ []
  packets_are =
      answers H i old known g.sent.generation g.sent.bytes p g.access g.request g.asks_for
      (λ out r z. known.gives g.access out r (g.is_said r.write (sym (read_code H i old known g.access out r) ∙ z)) z)
      (λ e. few) g.got

  abbrev effects : List Note
  effects = notes_on r.1.0.sides []

  none : AllByRecursion (λ note. is_sent note ≡ false) effects
  none = none_on r.1.0.sides [] (sends.plain s sound i inside serial again told gets own_reply packets_are) tt

  abbrev response_as : (last generation node own : ℕ) → Note
  response_as last generation node own = notes.Sent (last + 1) generation node g.sent.from (canon (response_to own p own_reply.rcode own_reply.given))

  abbrev response : Note
  response = response_as t.count (t.generation (suc i)) (suc i) (id_of t (suc i))

  -- that of the sent law
  due : (disks : List Disk) (rest : List Note) → answers_to disks (turn H (said (notes.Got serial)) rest) (t.sent serial) ≡ response ∷ []
  due disks rest =
      let T = turn H (said (notes.Got serial)) rest in
      let asks : is_answered (part_of g.sent.bytes) ≡ true = ap is_answered (part_read g.sent.bytes p (sends.request s sound i inside serial again told gets own_reply packets_are).read) ∙ asks_part p g.access g.asks_for in
      let spelled : packet_in (Some q) ≡ Some p = ap spelled_by (sends.request s sound i inside serial again told gets own_reply packets_are).read in
      ap (answers_to disks T) (sends.was s sound i inside serial again told gets own_reply packets_are)
      ∙ (ap (λ b. cond b (reply_packet t q (reply_in disks T q.to (access_in (packet_in (Some q))))) []) asks
      ∙ (ap (λ k. reply_packet t q (reply_in disks T q.to (access_in k))) spelled
      ∙ (ap (λ a. reply_packet t q (reply_in disks T q.to a)) g.asks_for
      ∙ (ap (λ n. reply_packet t q (reply_in disks T n (Some g.access))) g.to_it
      ∙ (ap (answer_packet t q own_reply.rcode own_reply.given) spelled
      ∙ ap (λ n. response_as t.count (t.generation n) n (id_of t n) ∷ []) g.to_it)))))

  pub is_answered_here : IsAnswered H serial (history (delivered serial again told s).world past)
  is_answered_here = record {
    effects = effects;
    none_sent = none;
    response = response;
    is = sends.shows s sound i inside serial again told gets own_reply packets_are;
    due = due;
    law = λ disks.
        let rest = in_order (response ∷ effects) [] in
        subst (λ xs. Begins xs (sends_of rest)) (sym (due disks rest))
        (subst (Begins (response ∷ [])) (sym (sends_last effects (response ∷ []) none)) (refl, tt));
  }
