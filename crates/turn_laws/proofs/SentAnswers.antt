-- What the law of answers asks of a delivery: nothing where no request is got, and else that what the node sends first is the response of the terms.
use Rattle.std.proofs.Common.{◌≡◌, ◌∙◌, refl, sym, ap, subst, ℕ, ◌≤◌, Bool, true, false, cond, List, [], ◌∷◌, ◌++◌, length, Some, Ok}
use Rattle.std.specs.List.{AllByRecursion}
use Rattle.async_packet.specs.Packet.{Packet}
use Rattle.async_packet.specs.Reading.{reading}
use Rattle.bus_transactions.proofs.PacketParts.{part_read}
use Rattle.bus_transactions.specs.Wire.{as_sending}
use Rattle.label_table.specs.Judging.{Facts, by_again, by_generation, by_grammar, by_request, by_response, row_of}
use Rattle.label_table.specs.Layer.{Finding, Layer, of_again, of_generation, of_grammar, of_label, of_request, of_response}
use Rattle.packet_store.specs.declared.sent.Sent.{Sent}
use Rattle.packet_store.specs.Kept.{found_sent}
use Rattle.packet_store.specs.Stored.{Stored}
use Rattle.rbc_disk.specs.Disk.{Disk}
use Rattle.sbp_bus.specs.Packets.{judged_note}
use Rattle.sbp_journal.specs.Addresses.{Access, access_of}
use Rattle.sbp_journal.specs.Outgoings.{OutboxState}
use Rattle.sbp_journal.specs.Run.{Moment, said}
use Rattle.sbp_journal.specs.Transactions.{Part, Sending, no_packet, part_of, request, response}
use Rattle.sbp_journal.specs.Wire.{Terms, terms}
use Rattle.sbp_journal.specs.declared.cause.Judged.{Judged}
use Rattle.sbp_journal.specs.declared.cause.Judged.TheVariants as judgements
use Rattle.sbp_journal.specs.declared.note.Note.{Note}
use Rattle.sbp_journal.specs.declared.note.Note.TheVariants as notes
use Rattle.sbp_journal.specs.declared.outbox.Outgoing.{Outgoing}
use Rattle.sbp_journal.specs.declared.side.Side.{Side}
use Rattle.sbp_journal.specs.declared.side.Side.TheVariants as sides
use Rattle.sbp_laws.specs.JudgementLaw.{answer_packet, facts_of, is_response}
use Rattle.sbp_laws.specs.Packets.{access_in, packet_in, spelled_by}
use Rattle.sbp_laws.specs.SentAnswers.{AnswersLaw, Begins, answers_to, is_answered, reply_in, reply_packet}
use Rattle.sbp_laws.specs.Served.{Reply, reply_of}
use Rattle.sbp_laws.specs.Targets.{Target, over, target_at}
use Rattle.sbp_laws.specs.Turns as turns
use Rattle.sbp_laws.specs.Turns.{is_sent, sends_of, turn}
use Rattle.sbp_world.specs.Hosts.Handing.{AreOthers, IsOther}
use Rattle.sbp_world.specs.Sending.{sent}
use Rattle.sbp_world.specs.Telling.{told, told_all}
use Rattle.sbp_world.specs.Wire.Wires.{Stands, layers_of}
use Rattle.sbp_world.specs.Worlds.{WorldState}
use Rattle.sbp_world.proofs.Agents.Management.Still.{hist}
use Rattle.sbp_world.proofs.Common.{untrue}
use Rattle.sbp_world.proofs.Formed.{AreOwn, IsNoRun, IsOwn}
use Rattle.sbp_world.proofs.Hosts.Answering.{answer}
use Rattle.sbp_world.proofs.Hosts.AnsweringBlocks.{not_got}
use Rattle.sbp_world.proofs.Hosts.AnsweringTold.{asks_part}
use Rattle.sbp_world.proofs.Hosts.Requested.{all_told_bus}
use Rattle.turn_laws.proofs.AnswerNotes.{SameBus, one_noted}
use Rattle.turn_laws.proofs.FoundRows.{Asks, RowFor}
use Rattle.turn_laws.proofs.Handed.{handed, note_of, notes_sent, notes_told}
use Rattle.turn_laws.proofs.Verdicts.{Acts}

-- ---- what a node tells is no packet
abbrev pub AllUnsent : List Note → Type 0
AllUnsent ns = AllByRecursion (λ note. is_sent note ≡ false) ns

abbrev IsUnsent : Side → Type 0
IsUnsent (sides.Own note) = is_sent note ≡ false
IsUnsent side = Unit {0}

abbrev pub AreUnsent : List Side → Type 0
AreUnsent [] = Unit {0}
AreUnsent (side ∷ later) = IsUnsent side × AreUnsent later

both_unsent : (a b : List Note) → AllUnsent a → AllUnsent b → AllUnsent (a ++ b)
both_unsent [] b p q = q
both_unsent (note ∷ a) b p q = (p.0, both_unsent a b p.1 q)

one_unsent : (side : Side) (w : WorldState) → IsUnsent side → AllUnsent (note_of side w)
one_unsent (sides.Own note) w h = (h, tt)
one_unsent (sides.Opened place orb) w h = tt
one_unsent side w h = (refl, tt)

pub told_unsent : (weight : ℕ) (later : List Side) (w : WorldState) → AreUnsent later → AllUnsent (notes_told weight later w)
told_unsent weight [] w h = tt
told_unsent weight (side ∷ later) w h =
    let v = told weight side w in both_unsent (note_of side w) (notes_told weight later v) (one_unsent side w h.0) (told_unsent weight later v h.1)

-- of the target, and of an initiator
other_unsent : (side : Side) → IsOther side → IsUnsent side
other_unsent (sides.Own note) o = absurd o
other_unsent side o = tt

pub others_unsent : (later : List Side) → AreOthers later → AreUnsent later
others_unsent [] o = tt
others_unsent (side ∷ later) o = (other_unsent side o.0, others_unsent later o.1)

no_packet_note : (note : Note) → IsNoRun note → is_sent note ≡ false
no_packet_note (notes.Sent serial generation from to bytes) h = absurd h
no_packet_note note h = refl

own_unsent : (side : Side) → IsOwn side → IsUnsent side
own_unsent (sides.Own note) h = no_packet_note note h.1
own_unsent side h = absurd h

pub all_own_unsent : (later : List Side) → AreOwn later → AreUnsent later
all_own_unsent [] h = tt
all_own_unsent (side ∷ later) h = (own_unsent side h.0, all_own_unsent later h.1)

pub sends_behind : (a b : List Note) → AllUnsent a → sends_of (a ++ b) ≡ sends_of b
sends_behind [] b h = refl
sends_behind (note ∷ a) b h = ap (λ x. cond x (note ∷ sends_of (a ++ b)) (sends_of (a ++ b))) h.0 ∙ sends_behind a b h.1

-- ---- what a node sends first is one answer, in a world `v` behind the first note of the delivery
told_same : (sides_told : List Side) (w v : WorldState) → SameBus w v → SameBus w (told_all 0 sides_told v)
told_same sides_told w v same =
    let b = all_told_bus 0 sides_told v in record { last = ap (λ (st : Stored). st.last) b.store ∙ same.last; generations = b.generations ∙ same.generations }

module _ {past : List Moment} (w : WorldState) (h : Stands past w) (serial : ℕ) (one : Sent) (found : found_sent serial w.store.kept ≡ Some one) (inside : one.to ≤ length w.initiators) (p : Packet) (read : reading one.bytes ≡ Ok p) where
  abbrev here : Terms
  here = terms (hist past w)

  module _ (v : WorldState) (same : SameBus w v) (rcode own : ℕ) (given : List ℕ) (own_is : own ≡ (layers_of w one.to).node) (now : one.generation ≡ here.generation one.to) where
    abbrev first : Outgoing
    first = answer own p rcode given

    -- what it sends behind it
    abbrev pub sends_more : OutboxState → List Outgoing → List Note
    sends_more o more = sends_of (notes_sent one.to more (sent one.to first (told_all 0 o.sides v)))

    pub first_handed : (o : OutboxState) → AreUnsent o.sides → (more : List Outgoing) → o.packets ≡ first ∷ more
        → sends_of (handed one.to 0 o v) ≡ answer_packet here (as_sending one) rcode given (Some p) ++ sends_more o more
    first_handed o unsent more packets_are =
        let x = told_all 0 o.sides v in
        let later = notes_sent one.to more (sent one.to first x) in
        sends_behind (notes_told 0 o.sides v) (notes_sent one.to o.packets x) (told_unsent 0 o.sides v unsent)
        ∙ (ap (λ ps. sends_of (notes_sent one.to ps x)) packets_are
        ∙ ap (λ ns. sends_of (ns ++ later)) (one_noted w h serial one found inside p read x (told_same o.sides w v same) rcode own given own_is now))

-- ---- the law
response_row : (c n r a e : Bool) → row_of (record { is_current = c; is_for_node = n; is_response = r; is_awaited = a; is_repeated = e }) ≡ by_response → r ≡ true
response_row false n r a e i = absurd (let no : by_generation ≡ by_response = i in cc)
response_row true false r a e i = absurd (let no : by_grammar ≡ by_response = i in cc)
response_row true true true a e i = refl
response_row true true false a true i = absurd (let no : by_again ≡ by_response = i in cc)
response_row true true false a false i = absurd (let no : by_request ≡ by_response = i in cc)

unanswered : (part : Part) → is_response part ≡ true → is_answered part ≡ false
unanswered (request label kind) e = untrue e
unanswered (response label kind) e = refl
unanswered no_packet e = refl

module _ (start : List Disk) (ms : List Moment) (serial : ℕ) (q : Sending) (was : (terms ms).sent serial ≡ Some q) where
  abbrev t : Terms
  t = terms ms

  abbrev target : Target
  target = over (target_at start ms)

  abbrev at : List Note → turns.Turn
  at rest = turn ms (said (notes.Got serial)) rest

  abbrev Law : List Note → Type 0
  Law rest = AnswersLaw start (at rest)

  -- of a response nothing is asked
  pub none_due : (rest : List Note) → is_response (part_of q.bytes) ≡ true → answers_to start (at rest) (t.sent serial) ≡ []
  none_due rest e =
      ap (answers_to start (at rest)) was
      ∙ ap (λ b. cond b (reply_packet t q (reply_in start (at rest) q.to (access_in (packet_in (Some q))))) []) (unanswered (part_of q.bytes) e)

  response_answers : (rest : List Note) → is_response (part_of q.bytes) ≡ true → Law rest
  response_answers rest e = subst (λ ns. Begins ns (sends_of rest)) (sym (none_due rest e)) tt

  -- the reply of the terms to a request
  module _ (p : Packet) (access : Access) (read : reading q.bytes ≡ Ok p) (is : access_of p ≡ Some access) where
    abbrev pub reply : Reply
    reply = reply_of start ms target q.to access

    -- and so the response that is due
    pub reply_due : (rest : List Note) → answers_to start (at rest) (t.sent serial) ≡ answer_packet t q reply.rcode reply.given (Some p)
    reply_due rest =
        let asks : is_answered (part_of q.bytes) ≡ true = ap is_answered (part_read q.bytes p read) ∙ asks_part p access is in
        let spelled : packet_in (Some q) ≡ Some p = ap spelled_by read in
        ap (answers_to start (at rest)) was
        ∙ (ap (λ b. cond b (reply_packet t q (reply_in start (at rest) q.to (access_in (packet_in (Some q))))) []) asks
        ∙ (ap (λ k. reply_packet t q (reply_in start (at rest) q.to (access_in k))) spelled
        ∙ (ap (λ a. reply_packet t q (reply_in start (at rest) q.to a)) is
        ∙ ap (λ k. answer_packet t q reply.rcode reply.given k) spelled)))

    pub request_answers : (rest more : List Note) → sends_of rest ≡ answer_packet t q reply.rcode reply.given (Some p) ++ more → Law rest
    request_answers rest more first =
        subst (λ ns. Begins ns (sends_of rest)) (sym (reply_due rest))
        (subst (Begins (answer_packet t q reply.rcode reply.given (Some p))) (sym first) (refl, tt))

  -- by what a packet is found to be: what is left is a request that is got
  module _ {P : Type 0} (own : ℕ) (rest : List Note) where
    abbrev pub IfRequest : Finding P → Judged → Type 0
    IfRequest (of_request p) judged = Asks t q p by_request → judged ≡ judgements.Got → Law rest
    IfRequest f judged = Unit {0}

    got_answers : (x : Finding P × Layer P) → RowFor t q own x → Acts start ms serial q x.0 judgements.Got rest → IfRequest x.0 judgements.Got → Law rest
    got_answers (of_generation, layer) row acts requests = absurd (not_got _ (sym acts.0))
    got_answers (of_grammar, layer) row acts requests = absurd (not_got _ (sym acts.0))
    got_answers (of_label, layer) row acts requests = absurd (not_got _ (sym acts.0))
    got_answers (of_response p label purpose, layer) row acts requests =
        let f : Facts = facts_of t q in response_answers rest (response_row f.is_current f.is_for_node f.is_response f.is_awaited f.is_repeated row)
    got_answers (of_again p rcode, layer) row acts requests = absurd (not_got _ (sym acts.0))
    got_answers (of_request p, layer) row acts requests = requests row refl

    pub answers_by : (x : Finding P × Layer P) (judged : Judged) → RowFor t q own x → Acts start ms serial q x.0 judged rest → IfRequest x.0 judged
        → AnswersLaw start (turn ms (said (judged_note serial judged)) rest)
    answers_by x judgements.Got row acts requests = got_answers x row acts requests
    answers_by x (judgements.Ignored cause) row acts requests = tt
