-- What a packet that is got in a drill brings: no session gets stuck, and the target answers a ring complete.
use Rattle.std.proofs.Common.{◌≡◌, ◌∙◌, refl, sym, ap, subst, ℕ, zero, suc, ◌^◌, ◌<◌, ◌≤◌, ◌&&◌, not, Bool, true, false, cond, List, [], ◌∷◌, ◌++◌, append-nil, length, Option, Some, None, arith}
use Rattle.std.specs.List.{AllByRecursion}
use Rattle.async_packet.specs.Fields.{rcode_of}
use Rattle.async_packet.specs.Reading.{reading}
use Rattle.command_agent.specs.Machine.{state_in}
use Rattle.command_agent.specs.declared.step.AgentState.TheVariants as states
use Rattle.orb_layout.specs.Replies.{Answer, Done, Payload}
use Rattle.rbc_disk.specs.Disk.{Disk}
use Rattle.sbp_journal.specs.Addresses.{Access}
use Rattle.sbp_journal.specs.Run.{Moment, said}
use Rattle.sbp_journal.specs.Transactions.{Kind, Part, Sending, between, is_same_kind, no_packet, part_of, request, response, writing}
use Rattle.sbp_journal.specs.Wire.{Held, Terms, arrives, free, gets, gets_as, is_news, is_served, rests, terms, waits}
use Rattle.sbp_journal.specs.declared.note.Note.{Note}
use Rattle.sbp_journal.specs.declared.note.Note.TheVariants as notes
use Rattle.sbp_laws.specs.Budget.{flies}
use Rattle.sbp_laws.specs.CauseLaw.{HasCauses}
use Rattle.sbp_laws.specs.Hosts.{Host, Underway, host_at, is_stuck}
use Rattle.sbp_laws.specs.JudgementLaw.{answer_packet}
use Rattle.sbp_laws.specs.Lists.{present_list}
use Rattle.sbp_laws.specs.OnceLaw.{is_write_in}
use Rattle.sbp_laws.specs.Operations.{at_initiator, end_notes, gets_stuck, got_notes, is_failure, is_management_write, next_read, stuck_note}
use Rattle.sbp_laws.specs.Packets.{access_at, access_in, access_in_bytes, answer_in, answered_as, answered_at, answered_in, closed_by, id_of, packet_at, packet_in, receiver_in, spelled_by}
use Rattle.sbp_laws.specs.SentAnswers.{AnswersLaw, answer_due, answers_to, is_answered, reply_in, reply_packet}
use Rattle.sbp_laws.specs.SentRequests.{ArePackets, RequestsLaw, asks, asks_at, asks_by, before_requests, behind_answer, host_requests}
use Rattle.sbp_laws.specs.Served.{reply_of, target_reply}
use Rattle.sbp_laws.specs.Targets.{Target, agent_at, over, target_at}
use Rattle.sbp_laws.specs.Turns.{Turn, sends_of, turn}
use Rattle.sbp_world.proofs.Lists.AgentFolds.{over_still}
use Rattle.drill_laws.proofs.DrillAgentsFresh.{fresh_kept, IsFreshAt}
use Rattle.drill_laws.proofs.DrillPackets.{IsHeldFor, request_asks, writes_ask}
use Rattle.drill_laws.proofs.DrillRingReplies.{IsRingOf, done_of, ring_code}
use Rattle.drill_laws.proofs.DrillServes.{IsSentBy, Serves, asks_none, ring_map, rung}
use Rattle.drill_laws.proofs.DrillArrives.{sender_of}
use Rattle.drill_laws.proofs.DrillServed.{AnswersDue, AnswersWell, AreFromTarget, IsFree, closes_owes, from_sends, got_owes, host_answer, id_small, none_stuck, packet_of, packets_from, same_writing, target_answer, well_sends}
use Rattle.drill_laws.proofs.DrillTurns.{answers_end, begins_split, none_sent, writes_end}
use Rattle.drill_laws.proofs.DrillWire.{Young}

-- ---- a packet is got
module _ (start : List Disk) (past : List Moment) (s : ℕ) (rest : List Note) (q : Sending) (is : (terms past).sent s ≡ Some q) (h : Serves start past) (few : length start ≤ 4) (y : Young (terms past)) (flown : flies ((terms past).flight s) ≡ true) (idle : (terms past).owes ≡ None) where
  abbrev wire : Terms
  wire = terms past

  abbrev t : Turn
  t = turn past (said (notes.Got s)) rest

  abbrev target : Target
  target = over (target_at start past)

  -- the agent to which a pointer comes
  ring_fresh : (i : ℕ) → i < 2 → (host_at past i).pointer ≡ Some s → state_in (agent_at target i).machine.phase ≡ states.Reset
  ring_fresh i small e = ((over_still (IsFreshAt i) (fresh_kept i).lasting (target_at start past) (h.fresh i small (λ p f. (let one : Some s ≡ Some p = sym e ∙ f in let same : s ≡ p = cc one in subst (λ n. flies (wire.flight n) ≡ true) same flown)))).agents i refl).state

  target_rcode : q.to ≡ 0 → (access : Access) → access_in_bytes q.bytes ≡ Some access → (target_reply start target access).rcode ≡ 0
  target_rcode to access found = sender_of start s past q is h to ((target_reply start target access).rcode ≡ 0) by
    where
      by : (i : ℕ) → q.from ≡ suc i → IsSentBy past i s q → (target_reply start target access).rcode ≡ 0
      by i e (asks_none none) = absurd (let no : None ≡ Some access = sym none ∙ found in cc no)
      by i e (rung small back other there ring) =
          let one : Some other ≡ Some access = sym there ∙ found in
          let same : other ≡ access = cc one in
          ring_code i (length start) target access small few (ring_map i access (ring_fresh i small) (subst (λ a. IsRingOf i a ((host_at past i).pointer ≡ Some s)) same ring))

  id_at : q.to ≡ 0 → id_of wire q.to < 2 ^ 16
  id_at to = subst (λ n. id_of wire n < 2 ^ 16) (sym to) (id_small wire 0 y (omega arith))

  due_is : answer_due start t (said (notes.Got s)) ≡ answers_to start t (Some q)
  due_is = ap (answers_to start t) is

  -- ---- what is sent
  module _ (answers : AnswersLaw start t) (requests : RequestsLaw start t) where
    abbrev behind : List Note
    behind = behind_answer start t

    split : sends_of rest ≡ answers_to start t (Some q) ++ behind
    split = begins_split (answer_due start t (said (notes.Got s))) (sends_of rest) answers ∙ ap (λ ns. ns ++ behind) due_is

    behind_target : q.to ≡ 0 → AreFromTarget behind
    behind_target to =
        let same : asks_by start t (said (notes.Got s)) ≡ asks_at start t s (Some 0) = ap (λ found. asks_at start t s (receiver_in found)) is ∙ ap (λ n. asks_at start t s (Some n)) to in
        packets_from (before_requests start t) behind (asks_at start t s (Some 0)).requests (subst (λ a. ArePackets (before_requests start t) a.node behind a.requests) same (requests refl))

    none_read : (i own : ℕ) (answer : Answer) → next_read (host_at past i) own answer ≡ []
    none_read i own answer = ap (λ (o : Option Underway). next_read (record (host_at past i) { operation = o }) own answer) (h.calm.hosts i).operation ∙ by answer
      where
        by : (answer : Answer) → next_read (record (host_at past i) { operation = None }) own answer ≡ []
        by (Payload bytes) = refl
        by _ = refl

    none_asked : (i : ℕ) (own : Option ℕ) → host_requests t i s own ≡ []
    none_asked i None = refl
    none_asked i (Some own) = none_read i own _

    behind_host : (i : ℕ) → q.to ≡ suc i → behind ≡ []
    behind_host i to =
        let same : asks_by start t (said (notes.Got s)) ≡ asks (suc i) [] = ap (λ found. asks_at start t s (receiver_in found)) is ∙ ap (λ n. asks_at start t s (Some n)) to ∙ ap (λ r. asks (suc i) r) (none_asked i (answered_at wire s)) in
        none_sent (before_requests start t) (suc i) behind (subst (λ a. ArePackets (before_requests start t) a.node behind a.requests) same (requests refl))

    -- of a request
    replied : (label : ℕ) (kind : Kind) → part_of q.bytes ≡ request label kind → AnswersWell (answers_to start t (Some q) ++ behind)
    replied label kind e = subst (λ part. AnswersWell (cond (is_answered part) (reply_packet wire q (reply_in start t q.to (access_in_bytes q.bytes))) [] ++ behind)) (sym e) (by_access (access_in_bytes q.bytes) refl)
      where
        by_access : (found : Option Access) → access_in_bytes q.bytes ≡ found → AnswersWell (reply_packet wire q (reply_in start t q.to found) ++ behind)
        by_access None f = absurd (request_asks q.bytes label kind e f)
        by_access (Some access) f = by_node q.to refl
          where
            by_node : (to : ℕ) → q.to ≡ to → AnswersWell (reply_packet wire q (Some (reply_of start past target q.to access)) ++ behind)
            by_node zero to =
                let zeros : (reply_of start past target q.to access).rcode ≡ 0 = ap (λ n. (reply_of start past target n access).rcode) to ∙ target_rcode to access f in
                target_answer wire q (reply_of start past target q.to access).rcode (reply_of start past target q.to access).given (packet_in (Some q)) behind zeros (packet_of q.bytes access f) (id_at to) (behind_target to)
            by_node (suc i) to =
                let other : q.to ≡ 0 → ⊥ = λ z. (let no : suc i ≡ 0 = sym to ∙ z in omega (arith, no)) in
                subst (λ ns. AnswersWell (answer_packet wire q (reply_of start past target q.to access).rcode (reply_of start past target q.to access).given (packet_in (Some q)) ++ ns)) (sym (behind_host i to))
                (subst AnswersWell (sym (append-nil (answer_packet wire q (reply_of start past target q.to access).rcode (reply_of start past target q.to access).given (packet_in (Some q))))) (host_answer wire q (reply_of start past target q.to access).rcode (reply_of start past target q.to access).given (packet_in (Some q)) other))

    -- of anything else
    unreplied : is_answered (part_of q.bytes) ≡ false → (terms (said (notes.Got s) ∷ past)).owes ≡ None → AnswersDue (terms (said (notes.Got s) ∷ past)).owes rest
    unreplied none owes =
        let sends : sends_of rest ≡ behind = split ∙ ap (λ b. cond b (reply_packet wire q (reply_in start t q.to (access_in (packet_in (Some q))))) [] ++ behind) none in
        subst (λ o. AnswersDue o rest) (sym owes) (from_sends rest (subst AreFromTarget (sym sends) (by q.to refl)))
      where
        by : (to : ℕ) → q.to ≡ to → AreFromTarget behind
        by zero to = behind_target to
        by (suc i) to = subst AreFromTarget (sym (behind_host i to)) tt

    pub got_answers : AnswersDue (terms (said (notes.Got s) ∷ past)).owes rest
    got_answers = by (part_of q.bytes) refl
      where
        by : (part : Part) → part_of q.bytes ≡ part → AnswersDue (terms (said (notes.Got s) ∷ past)).owes rest
        by (request label kind) e =
            let owes : (terms (said (notes.Got s) ∷ past)).owes ≡ Some (record { serial = s; cause = None }) = ap (λ found. (gets found s wire).owes) is ∙ got_owes q s wire label kind e in
            subst (λ o. AnswersDue o rest) (sym owes) (well_sends rest (subst AnswersWell (sym split) (replied label kind e)))
        by (response label kind) e =
            unreplied (ap is_answered e) (ap (λ found. (gets found s wire).owes) is ∙ ap (λ part. (gets_as part s q (is_served s (is_news s (arrives s wire)))).owes) e ∙ closes_owes _ _ kind (rcode_of q.bytes) _ ∙ idle)
        by no_packet e = unreplied (ap is_answered e) (ap (λ found. (gets found s wire).owes) is ∙ ap (λ part. (gets_as part s q (is_served s (is_news s (arrives s wire)))).owes) e ∙ idle)

  -- ---- no session gets stuck
  done_here : (i own : ℕ) (access : Access) → q.to ≡ suc i → answered_as (part_of q.bytes) wire q ≡ Some own → access_at wire own ≡ Some access → access.is_write ≡ true → answer_in (packet_at wire s) ≡ Done
  done_here i own access to closed found w = ap (λ f. answer_in (packet_in f)) is ∙ by (part_of q.bytes) refl closed
    where
      by_held : (label : ℕ) (kind : Kind) → part_of q.bytes ≡ response label kind → (held : Held) → wire.held (between q q.to q.from label) ≡ held → closed_by held kind ≡ Some own → answer_in (spelled_by (reading q.bytes)) ≡ Done
      by_held label kind e free g c = absurd (let no : None ≡ Some own = c in cc no)
      by_held label kind e rests g c = absurd (let no : None ≡ Some own = c in cc no)
      by_held label kind e (waits other o) g c = by_kind (is_same_kind other kind) refl c
        where
          by_kind : (b : Bool) → is_same_kind other kind ≡ b → cond b (Some o) None ≡ Some own → answer_in (spelled_by (reading q.bytes)) ≡ Done
          by_kind false k c = absurd (let no : None ≡ Some own = c in cc no)
          by_kind true k c =
              let same : o ≡ own = cc c in
              let for_it : IsHeldFor (between q q.to q.from label) (wire.sent own) other = subst (λ n. IsHeldFor (between q q.to q.from label) (wire.sent n) other) same (h.wired.held (between q q.to q.from label) other o g) in
              let asks_it : access_in_bytes for_it.packet.bytes ≡ Some access = sym (ap (λ f. access_in (packet_in f)) for_it.is) ∙ found in
              let written : other ≡ writing = writes_ask for_it.packet.bytes for_it.label other access for_it.part asks_it w in
              let kinds : kind ≡ writing = same_writing kind (sym (ap (λ x. is_same_kind x kind) written) ∙ k) in
              let sent_to : for_it.packet.to ≡ 0 = to_target (h.rings own i for_it.packet for_it.is (for_it.requester ∙ to)) asks_it in
              let from : q.from ≡ 0 = sym for_it.responder ∙ sent_to in
              let part : part_of q.bytes ≡ response label writing = e ∙ ap (response label) kinds in
              done_of q.bytes label part (h.answers s q is from label writing part)
            where
              to_target : {p : Sending} → IsSentBy past i own p → access_in_bytes p.bytes ≡ Some access → p.to ≡ 0
              to_target (asks_none none) f = absurd (let no : None ≡ Some access = sym none ∙ f in cc no)
              to_target (rung small back a there ring) f = back

      by : (part : Part) → part_of q.bytes ≡ part → answered_as part wire q ≡ Some own → answer_in (spelled_by (reading q.bytes)) ≡ Done
      by (response label kind) e c = by_held label kind e (wire.held (between q q.to q.from label)) refl c
      by (request label kind) e c = absurd (let no : None ≡ Some own = c in cc no)
      by no_packet e c = absurd (let no : None ≡ Some own = c in cc no)

  not_stuck : (i own : ℕ) (host : Host) → q.to ≡ suc i → answered_at wire s ≡ Some own → gets_stuck host (access_at wire own) (answer_in (packet_at wire s)) ≡ false
  not_stuck i own host to closed = by (access_at wire own) refl
    where
      by_write : (access : Access) (w : Bool) → access.is_write ≡ w → access_at wire own ≡ Some access → (w && is_failure (answer_in (packet_at wire s)) (is_management_write host (Some access)) && not (is_stuck host.session)) ≡ false
      by_write access false e f = refl
      by_write access true e f = ap (λ a. is_failure a (is_management_write host (Some access)) && not (is_stuck host.session)) (done_here i own access to (sym (ap (answered_in wire) is) ∙ closed) f e)

      by : (found : Option Access) → access_at wire own ≡ found → (is_write_in found && is_failure (answer_in (packet_at wire s)) (is_management_write host found) && not (is_stuck host.session)) ≡ false
      by None e = refl
      by (Some access) e = by_write access access.is_write refl e

  pub got_free : HasCauses start t → AllByRecursion IsFree rest
  got_free laws = none_stuck rest (laws.operations ∙ ap (λ found. at_initiator (receiver_in found) told) is ∙ by_node q.to refl)
    where
      told : ℕ → List Note
      told = λ i. got_notes i (host_at past i) (present_list past i) wire (answered_at wire s) s

      by_own : (i : ℕ) → q.to ≡ suc i → (own : Option ℕ) → answered_at wire s ≡ own → got_notes i (host_at past i) (present_list past i) wire own s ≡ []
      by_own i to None e = ap (λ x. end_notes i x (present_list past i)) (writes_end start past s rest h.calm (host_at past i) (access_at wire s) (h.calm.hosts i))
      by_own i to (Some own) e =
          ap (λ x. end_notes i x (present_list past i) ++ stuck_note i (gets_stuck (host_at past i) (access_at wire own) (answer_in (packet_at wire s)))) (answers_end start past s rest h.calm (host_at past i) own (answer_in (packet_at wire s)) (present_list past i) (h.calm.hosts i))
          ∙ ap (stuck_note i) (not_stuck i own (host_at past i) to e)

      by_node : (to : ℕ) → q.to ≡ to → at_initiator (Some q.to) told ≡ []
      by_node zero to = ap (λ n. at_initiator (Some n) told) to
      by_node (suc i) to = ap (λ n. at_initiator (Some n) told) to ∙ by_own i to (answered_at wire s) refl
