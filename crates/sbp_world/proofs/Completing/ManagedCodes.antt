-- The response of an initiator to a request that it gets has the rcode that the run terms say.
use Rattle.sbp_world.proofs.Words.Std.{arith, ◌≡◌, ◌∙◌, refl, sym, ap, subst, ℕ, suc, ◌+◌, ◌*◌, ◌/◌, ◌%◌, ◌^◌, ◌<◌, Bool, true, false, cond, List, [], ◌∷◌, ◌++◌, map, Option, Some, None, big_bytes, big_from-bytes, same_Some}
use Rattle.sbp_world.proofs.Words.Wire.{Access, Moment, Note, Packet, Sending, SerialsCount, Terms, canon, four, lock, lock_response, part_of, rcode_of, read_block, read_block_response, read_quadlet, read_quadlet_response, response_to, said, terms, three, write_block, write_quadlet, write_response}
use Rattle.sbp_world.proofs.Words.Laws.{access_in, answers_to, host_reply, id_of, is_answered, packet_in, receiver_in, reply_in, reply_packet, turn}
use Rattle.sbp_journal.specs.declared.note.Note.TheVariants as notes
use Rattle.sbp_laws.specs.Turns.{Turn}
use Rattle.sbp_world.specs.Hosts.Answering.{IsAnswered}
use Rattle.sbp_world.specs.Hosts.Remaining.{Remains}
use Rattle.sbp_world.proofs.Hosts.GotServed.{IsAsked}
use Rattle.sbp_world.proofs.Hosts.Remaining.{remains}
use Rattle.sbp_world.proofs.Hosts.ResponseTells.{rcode_small}
use Rattle.sbp_world.proofs.Hosts.SentMoments.{count_now, sent_there, serials_from}
use Rattle.sbp_world.proofs.Lists.ManageTerms.{none_is, same_some}

-- ---- the bytes of a response
second_code : (node rcode : ℕ) → rcode < 2 ^ 4 → (node * 2 ^ 16 + rcode * 2 ^ 12) % 256 ^ 4 / 2 ^ 12 % 2 ^ 4 ≡ rcode
second_code node rcode small = omega arith

second_quad : (a b : ℕ) (bytes rest : List ℕ) → bytes ≡ big_bytes 4 a ++ (big_bytes 4 b ++ rest) → rcode_of bytes ≡ b % 256 ^ 4 / 2 ^ 12 % 2 ^ 4
unfolding rcode_of
second_quad a b bytes rest e = ap rcode_of e ∙ ap (λ n. n / 2 ^ 12 % 2 ^ 4) (big_from-bytes 4 b rest)

coded : (a node rcode : ℕ) (bytes rest : List ℕ) → rcode < 2 ^ 4 → bytes ≡ big_bytes 4 a ++ (big_bytes 4 (node * 2 ^ 16 + rcode * 2 ^ 12) ++ rest) → rcode_of bytes ≡ rcode
coded a node rcode bytes rest small e = second_quad a (node * 2 ^ 16 + rcode * 2 ^ 12) bytes rest e ∙ second_code node rcode small

pub response_rcode : (node rcode : ℕ) (p : Packet) (given : List ℕ) → rcode < 2 ^ 4 → rcode_of (canon (response_to node p rcode given)) ≡ rcode
unfolding three four
response_rcode node rcode (read_quadlet header at) given small = coded _ node rcode (canon (response_to node (read_quadlet header at) rcode given)) _ small refl
response_rcode node rcode (read_block header at asked) given small = coded _ node rcode (canon (response_to node (read_block header at asked) rcode given)) _ small refl
response_rcode node rcode (lock header at extended payload) given small = coded _ node rcode (canon (response_to node (lock header at extended payload) rcode given)) _ small refl
response_rcode node rcode (write_quadlet header at value) given small = coded _ node rcode (canon (response_to node (write_quadlet header at value) rcode given)) _ small refl
response_rcode node rcode (write_block header at payload) given small = coded _ node rcode (canon (response_to node (write_block header at payload) rcode given)) _ small refl
response_rcode node rcode (write_response header code) given small = coded _ node rcode (canon (response_to node (write_response header code) rcode given)) _ small refl
response_rcode node rcode (read_quadlet_response header code value) given small = coded _ node rcode (canon (response_to node (read_quadlet_response header code value) rcode given)) _ small refl
response_rcode node rcode (read_block_response header code payload) given small = coded _ node rcode (canon (response_to node (read_block_response header code payload) rcode given)) _ small refl
response_rcode node rcode (lock_response header code extended payload) given small = coded _ node rcode (canon (response_to node (lock_response header code extended payload) rcode given)) _ small refl

-- ---- behind the note that a request was got
record IsPacket (so : Option Sending) : Type 0 where
  packet : Sending
  is : so ≡ Some packet

packet_there : (so : Option Sending) (p : Packet) → packet_in so ≡ Some p → IsPacket so
packet_there None p e = none_is p e
packet_there (Some q) p e = record { packet = q; is = refl }

module _ (past : List Moment) (i serial : ℕ) (packet : Packet) (access : Access) (a : IsAsked past i serial packet access) (now : List Moment) (h : IsAnswered past serial now) where
  abbrev t : Terms
  t = terms past

  abbrev T : Turn
  T = turn past (said (notes.Got serial)) []

  asking : IsPacket (t.sent serial)
  asking = packet_there (t.sent serial) packet a.spelled

  abbrev q : Sending
  q = asking.packet

  abbrev response_as : ℕ → List ℕ → Note
  response_as node bytes = notes.Sent (t.count + 1) (t.generation node) node q.from bytes

  abbrev pub bytes : List ℕ
  bytes = canon (response_to (id_of t (suc i)) packet (host_reply past i access).rcode (host_reply past i access).given)

  to_is : q.to ≡ suc i
  to_is = same_Some q.to (suc i) (sym (ap receiver_in asking.is) ∙ a.to_it)

  first_is : (b : Bool) (xs : List Note) → cond b xs [] ≡ h.response ∷ [] → xs ≡ h.response ∷ []
  first_is true xs e = e
  first_is false xs e = absurd (let no : [] ≡ h.response ∷ [] = e in cc)

  there : reply_packet t q (reply_in [] T q.to (access_in (packet_in (Some q)))) ≡ h.response ∷ []
  there = first_is (is_answered (part_of q.bytes)) _ (ap (answers_to [] T) (sym asking.is) ∙ h.due [] [])

  spelled : packet_in (Some q) ≡ Some packet
  spelled = ap packet_in (sym asking.is) ∙ a.spelled

  so : reply_packet t q (reply_in [] T q.to (access_in (packet_in (Some q)))) ≡ response_as (suc i) bytes ∷ []
  so =
      ap (λ k. reply_packet t q (reply_in [] T q.to (access_in k))) spelled
      ∙ (ap (λ x. reply_packet t q (reply_in [] T q.to x)) a.asks
      ∙ (ap (λ n. reply_packet t (record q { to = n }) (reply_in [] T n (Some access))) to_is
      ∙ ap (λ k. reply_packet_as k) spelled))
    where
      reply_packet_as : Option Packet → List Note
      reply_packet_as None = []
      reply_packet_as (Some p) = response_as (suc i) (canon (response_to (id_of t (suc i)) p (host_reply past i access).rcode (host_reply past i access).given)) ∷ []

  same_first : (x y : Note) → x ∷ [] ≡ y ∷ [] → x ≡ y
  same_first x y e = cc

  response_is : h.response ≡ response_as (suc i) bytes
  response_is = same_first h.response (response_as (suc i) bytes) (sym there ∙ so)

  -- and so by all of the history
  pub got_rcode : (all rest : List Moment) → SerialsCount all → rest ++ now ≡ all → (reply : ℕ) → reply ≡ t.count + 1 → (sent : Sending) → (terms all).sent reply ≡ Some sent → rcode_of sent.bytes ≡ (host_reply past i access).rcode
  got_rcode all rest serials is reply next sent e =
      let before = map said h.effects ++ said (notes.Got serial) ∷ past in
      let note = response_as (suc i) bytes in
      let now_is : now ≡ said note ∷ before = h.is ∙ ap (λ x. said x ∷ before) response_is in
      let counts : SerialsCount (rest ++ now) = subst SerialsCount (sym is) serials in
      let kept : Remains now all = subst (Remains now) is (remains rest now counts) in
      let counted : (terms now).count ≡ (terms before).count + 1 = ap (λ ms. (terms ms).count) now_is ∙ count_now before (t.count + 1) (t.generation (suc i)) (suc i) q.from bytes in
      let serial_is : t.count + 1 ≡ (terms before).count + 1 = (subst SerialsCount now_is (serials_from rest now counts)).0 in
      let new : Sending = record { generation = t.generation (suc i); from = suc i; to = q.from; bytes = bytes; injected = (terms before).injected (t.count + 1) } in
      let there_all : (terms all).sent (t.count + 1) ≡ Some new =
      kept.sent (t.count + 1) (omega (arith, counted, serial_is)) ∙ (ap (λ ms. (terms ms).sent (t.count + 1)) now_is ∙ sent_there before (t.count + 1) (t.generation (suc i)) (suc i) q.from bytes) in
      let same : sent ≡ new = same_some sent new (sym e ∙ (ap (λ n. (terms all).sent n) next ∙ there_all)) in
      ap (λ (x : Sending). rcode_of x.bytes) same ∙ response_rcode (id_of t (suc i)) (host_reply past i access).rcode packet (host_reply past i access).given (rcode_small past i access)
