-- The requests of an initiator that gets a packet: the next read of a ROM behind the answer to the latest one, and no other.
use Rattle.std.proofs.Common.{arith, ◌≡◌, ◌∙◌, refl, sym, ap, subst, ℕ, zero, suc, ◌+◌, ◌*◌, ◌%◌, ◌^◌, ◌<◌, ◌≤◌, ◌==◌, ◌&&◌, ◌||◌, nat_lt, not, is_some, Bool, true, false, cond, List, [], ◌∷◌, ◌++◌, drop, length, Option, Some, None}
use Rattle.std.proofs.lemmas.Bool.Decides.{nat_tests}
use Rattle.async_packet.specs.Canon.{IsValid, canon}
use Rattle.async_packet.proofs.Headers.{header_spelled}
use Rattle.async_packet.specs.Fields.{header_of, rcode_of}
use Rattle.async_packet.specs.Labels.{LabelParts}
use Rattle.async_packet.specs.Packet.{Packet, header_in}
use Rattle.async_packet.specs.declared.packet.Header.{Header}
use Rattle.bus_transactions.specs.Bare.{bare, bare_finding}
use Rattle.bus_transactions.specs.Judging.{AreJudged, is_response}
use Rattle.bus_transactions.specs.Wire.{Node, as_sending, due_for, first_note, id_for, transaction}
use Rattle.bus_transactions.proofs.FitJudged.{spelled as spells}
use Rattle.bus_transactions.proofs.FitSteps.{judges_same}
use Rattle.bus_transactions.proofs.Fits.{request_fits}
use Rattle.bus_transactions.proofs.Follows.{last_is}
use Rattle.bus_transactions.proofs.PacketParts.{part_case}
use Rattle.label_table.specs.Bodies.{Body, header_to, quadlet_read, request_with}
use Rattle.label_table.specs.Judging.{by_request}
use Rattle.label_table.specs.Layer.{Finding, Layer, answering_step, asking_step, judging_step, of_again, of_generation, of_grammar, of_label, of_request, of_response}
use Rattle.label_table.specs.Requests.{is_last, is_write, with_label}
use Rattle.label_table.specs.declared.judgement.Asked.{Asked}
use Rattle.orb_layout.specs.Replies.{Answer, Payload}
use Rattle.packet_store.specs.Kept.{found_sent}
use Rattle.packet_store.specs.Stored.{Stored}
use Rattle.packet_store.specs.declared.sent.Sent.{Sent}
use Rattle.rbc_disk.specs.Disk.{Disk}
use Rattle.sbp_base.specs.Update.{upd}
use Rattle.sbp_bus.specs.Generations.{GenerationsState, node_of, topology_at}
use Rattle.sbp_bus.specs.Packets.{end_note, judged_note}
use Rattle.sbp_initiator.proofs.Histories.Over.{sound}
use Rattle.sbp_initiator.proofs.Histories.Requests.{HasOrb, request_answers}
use Rattle.sbp_initiator.specs.Effects.{Turn as Called, ended_for, next_quad}
use Rattle.sbp_initiator.specs.Histories.Moves.{outgoing, response as replied}
use Rattle.sbp_initiator.specs.Receiving.{called, receive_step, received, request_step}
use Rattle.sbp_initiator.specs.States.{ending_of}
use Rattle.sbp_initiator.specs.declared.purpose.Ending.{Ending}
use Rattle.sbp_initiator.specs.declared.purpose.Ending.TheVariants as endings
use Rattle.sbp_initiator.specs.declared.purpose.Purpose.{Purpose}
use Rattle.sbp_initiator.specs.declared.purpose.Purpose.TheVariants as purposes
use Rattle.sbp_initiator.specs.declared.state.InitiatorState.{InitiatorState}
use Rattle.sbp_journal.specs.Addresses.{rom_base}
use Rattle.sbp_journal.specs.Outgoings.{empty_outbox}
use Rattle.sbp_journal.specs.Run.{Moment, asked, said}
use Rattle.sbp_journal.specs.Transactions.{Kind, Part, Sending, Transaction, asked_by, between, is_same_kind, no_packet, part_of, request, response}
use Rattle.sbp_journal.specs.Wire.{Held, Terms, arrives, closes, closes_if, free, gets, gets_as, is_news, is_served, judges, rests, terms, waits}
use Rattle.sbp_journal.specs.declared.cause.Judged.{Judged}
use Rattle.sbp_journal.specs.declared.cause.Judged.TheVariants as judgements
use Rattle.sbp_journal.specs.declared.event.Event.TheVariants as events
use Rattle.sbp_journal.specs.declared.note.Note.{Note}
use Rattle.sbp_journal.specs.declared.note.Note.TheVariants as notes
use Rattle.sbp_journal.specs.declared.outbox.Outgoing.{Outgoing}
use Rattle.sbp_laws.specs.Agents.{Request, requests_to}
use Rattle.sbp_laws.specs.Deliveries.{once_told}
use Rattle.sbp_laws.specs.Hosts.{host_at, is_latest, is_rom}
use Rattle.sbp_laws.specs.Operations.{next_read}
use Rattle.sbp_laws.specs.Packets.{answer_in, answer_of, answered_at, closed_by, finds_label, is_free, label_for, lowest_from, receiver_in, request_bytes, serves}
use Rattle.sbp_laws.specs.SentAnswers.{answers_to}
use Rattle.sbp_laws.specs.SentRequests.{ArePackets, IsRequest, RequestsLaw, asks_at, before_requests, behind_answer, host_requests}
use Rattle.sbp_laws.specs.Turns.{Turn, Where, effects_of, sends_of, turn}
use Rattle.sbp_world.proofs.Agents.CrewFirsts.{access_there}
use Rattle.sbp_world.proofs.Agents.Management.Hearing.{IsAnswer}
use Rattle.sbp_world.proofs.Agents.Management.Holding.{past_terms, was_sent}
use Rattle.sbp_world.proofs.Agents.Management.Still.{hist}
use Rattle.sbp_world.proofs.Common.{untrue}
use Rattle.sbp_world.proofs.Formed.{AreOwn}
use Rattle.sbp_world.proofs.Hosts.Knows.{target_there}
use Rattle.sbp_world.proofs.Hosts.Labels.{found_by, read_bytes}
use Rattle.sbp_world.proofs.Lists.FedHeld.{got_frees}
use Rattle.sbp_world.proofs.Lists.LiveRefusing.{label_number}
use Rattle.sbp_world.proofs.Wire.Asks.{upd_own}
use Rattle.sbp_world.proofs.Wire.Bus.{holds}
use Rattle.sbp_world.proofs.Wire.Deliver.{judged_marked}
use Rattle.sbp_world.proofs.Wire.Holding.{target_small, to_target}
use Rattle.sbp_world.proofs.Wire.Sound.{opens}
use Rattle.sbp_target.specs.Receiving.{received as heard_target}
use Rattle.sbp_world.specs.Delivering.{marked, whole_of}
use Rattle.sbp_world.specs.Telling.{told_all}
use Rattle.sbp_world.specs.Wire.Wires.{Stands, StandsAt, layers_of}
use Rattle.sbp_world.specs.Worlds.{Scene, WorldState, initiator_at, with_initiator, with_note, with_target, without_notes}
use Rattle.turn_laws.specs.HostRequests.{HostAsks, HostRequestsLaw}
use Rattle.turn_laws.specs.Operations.{of_initiator}
use Rattle.turn_laws.proofs.AnswerNotes.{SameBus, judged_bus}
use Rattle.turn_laws.proofs.FoundLabels.{SameLabels, gets_same, same_labels}
use Rattle.turn_laws.proofs.FoundRows.{Asks, RowFor}
use Rattle.turn_laws.proofs.Handed.{handed, notes_sent, notes_told, packet_note}
use Rattle.turn_laws.proofs.Judgements.{row_there}
use Rattle.turn_laws.proofs.KnownRuns.{Known, KnowingCases, of_every_known}
use Rattle.turn_laws.proofs.OwnAnswers.{IsRead, gives, lapses, refuses}
use Rattle.turn_laws.proofs.Places.{HasCalls, Place}
use Rattle.turn_laws.proofs.PushSerials.{gets_count}
use Rattle.turn_laws.proofs.RequestLabels.{IsSpelled, finds_at, spelled_at}
use Rattle.turn_laws.proofs.RomEnds.{read_on}
use Rattle.turn_laws.proofs.RomKnown.{KnownOf, more_quads, one_longer}
use Rattle.turn_laws.proofs.RomKnown as known
use Rattle.turn_laws.proofs.RomSends.{expired_sends, last_sends, next_sends, next_tells, other_sends, refused_sends}
use Rattle.turn_laws.proofs.RomTies.{RomOf}
use Rattle.turn_laws.proofs.SentAnswers.{all_own_unsent, none_due, reply_due, sends_behind, told_unsent}
use Rattle.turn_laws.proofs.Unserved.{where_holds}

-- ---- a label that is free serves a read
lowest_found : (tries label n : ℕ) (test : ℕ → Bool) → label ≤ n → n < label + tries → test n ≡ true → is_some (lowest_from tries test label) ≡ true
unfolding lowest_from
lowest_found zero label n test l m t = absurd (omega (arith, l, m))
lowest_found (suc tries) label n test l m t = by (test label) refl (λ g. lowest_found tries (label + 1) n test g (omega (arith, m)) t)
  where
    by : (b : Bool) → test label ≡ b → (label + 1 ≤ n → is_some (lowest_from tries test (label + 1)) ≡ true) → is_some (cond b (Some label) (lowest_from tries test (label + 1))) ≡ true
    by true e f = refl
    by false e f = f (above (label == n) refl)
      where
        above : (c : Bool) → (label == n) ≡ c → label + 1 ≤ n
        above true g = (let same : label ≡ n = grind (arith, nat_tests) in untrue (sym e ∙ ap test same ∙ t))
        above false g = grind (arith, nat_tests)

free_finds : (t : Terms) (node peer : ℕ) (body : Body) (n : ℕ) → n < 64 → serves t node peer (request_bytes t node peer body) n ≡ true → finds_label t node peer body ≡ true
unfolding label_for
free_finds t node peer body n small e =
    found_by t node peer body (label_for t node peer (request_bytes t node peer body)) refl ∙ lowest_found 64 0 n (serves t node peer (request_bytes t node peer body)) (omega arith) (omega (arith, small)) e

header_small : (bytes : List ℕ) → (header_of bytes).label < 64
unfolding header_of
header_small bytes = omega arith

-- ---- what a packet that is got leaves
record SameNodes (a b : Terms) : Type 0 where
  generation : a.generation ≡ b.generation
  ids : a.ids ≡ b.ids

closes_nodes : (b : Bool) (s : ℕ) (u : Transaction) (rcode : ℕ) (t : Terms) → SameNodes (closes_if b s u rcode t) t
closes_nodes true s u rcode t = record { generation = refl; ids = refl }
closes_nodes false s u rcode t = record { generation = refl; ids = refl }

held_nodes : (h : Held) (u : Transaction) (kind : Kind) (rcode : ℕ) (t : Terms) → SameNodes (closes h u kind rcode t) t
held_nodes free u kind rcode t = record { generation = refl; ids = refl }
held_nodes rests u kind rcode t = record { generation = refl; ids = refl }
held_nodes (waits own s) u kind rcode t = closes_nodes (is_same_kind own kind) s u rcode t

judges_nodes : (u : Option Transaction) (s : ℕ) (q : Sending) (t : Terms) → SameNodes (judges u None s q t) t
judges_nodes None s q t = record { generation = refl; ids = refl }
judges_nodes (Some u) s q t = record { generation = refl; ids = refl }

part_nodes : (part : Part) (s : ℕ) (q : Sending) (t : Terms) → SameNodes (gets_as part s q (is_served s (is_news s (arrives s t)))) t
part_nodes (request label kind) s q t = (let x = judges_nodes (asked_by q) s q (is_served s (is_news s (arrives s t))) in record { generation = x.generation; ids = x.ids })
part_nodes (response label kind) s q t =
    (let u = between q q.to q.from label in let x = held_nodes (t.held u) u kind (rcode_of q.bytes) (is_served s (is_news s (arrives s t))) in record { generation = x.generation; ids = x.ids })
part_nodes no_packet s q t = record { generation = refl; ids = refl }

gets_nodes : (q : Option Sending) (s : ℕ) (t : Terms) → SameNodes (gets q s t) t
gets_nodes None s t = record { generation = refl; ids = refl }
gets_nodes (Some q) s t = part_nodes (part_of q.bytes) s q t

-- the label of a request hangs on these alone
module _ (node peer : ℕ) (body : Body) where
  abbrev label_in_terms : Terms → Option ℕ
  label_in_terms t = label_for t node peer (request_bytes t node peer body)

  abbrev with_labels : Terms → Terms → Terms
  with_labels t a = record t { generation = a.generation; ids = a.ids; held = a.held; last = a.last }

  label_off : (t a : Terms) → label_in_terms a ≡ label_in_terms (with_labels t a)
  unfolding label_for
  label_off t a = refl

  same_label : (a b : Terms) → SameLabels a b → label_in_terms a ≡ label_in_terms b
  same_label a b s =
      label_off b a
      ∙ (ap (λ g. label_in_terms (record b { generation = g; ids = a.ids; held = a.held; last = a.last })) s.generation
      ∙ (ap (λ i. label_in_terms (record b { ids = i; held = a.held; last = a.last })) s.ids
      ∙ (ap (λ h. label_in_terms (record b { held = h; last = a.last })) s.held
      ∙ ap (λ l. label_in_terms (record b { last = l })) s.last)))

-- ---- by conditions
where_none : (b : Bool) (X : Type 0) → b ≡ false → Where b X
where_none true X e = untrue (sym e)
where_none false X e = tt

one_dropped : (to : Option ℕ) (from : ℕ) (packet : Outgoing) (w : WorldState) → drop 1 (sends_of (packet_note to from packet w ++ [])) ≡ []
one_dropped None from packet w = refl
one_dropped (Some to) from packet w = refl

none_next : (answer : Answer) (serial : ℕ) (i : ℕ) (ms : List Moment) → (is_rom (host_at ms i).operation && is_latest (host_at ms i).operation serial) ≡ false → next_read (host_at ms i) serial answer ≡ []
none_next (Payload bytes) serial i ms e = ap (λ b. cond (b && nat_lt (length (host_at ms i).quads) 255) (next_read_list ms i) []) e
  where
    next_read_list : List Moment → ℕ → List Request
    next_read_list ms i = requests_to 0 (Some (quadlet_read (rom_base + 4 * (length (host_at ms i).quads + 1))))
none_next answer serial i ms e = refl

module _ (units ready : ℕ) (start : List Disk) where
  module _ (past : List Moment) (s : Scene) (here : Place units ready start past s) (k : Known start (hist past s.world) s) (i : ℕ) (inside : i < length s.world.initiators) (serial : ℕ) (again : Bool) (one : Sent) (found : found_sent serial s.world.store.kept ≡ Some one) (to_is : one.to ≡ suc i) where
    abbrev w : WorldState
    w = s.world

    abbrev ms : List Moment
    ms = hist past w

    abbrev wire : Terms
    wire = terms ms

    abbrev old : InitiatorState
    old = initiator_at w i

    abbrev q : Sending
    q = as_sending one

    stands : Stands past w
    stands = here.holds.sound.stands

    abbrev rom : RomOf ms i old
    rom = k.0.each i inside

    abbrev known_here : KnownOf ms i old
    known_here = k.1.each i inside

    was_it : wire.sent serial ≡ Some q
    was_it = was_sent w stands serial one found

    abbrev got : List Moment
    got = said (notes.Got serial) ∷ ms

    inside_there : suc i ≤ length w.initiators
    inside_there = omega (arith, inside)

    low : 0 ≤ length w.initiators
    low = omega arith

    -- what is due of a turn with these notes
    module _ (rest : List Note) where
      abbrev t : Turn
      t = turn ms (said (notes.Got serial)) rest

      abbrev Due : List Request → Type 0
      Due requests = ArePackets (before_requests start t) (suc i) (behind_answer start t) requests

      law_by : (own : Option ℕ) → answered_at wire serial ≡ own → Due (host_requests t i serial own) → RequestsLaw start t
      law_by own e h not_silent =
          subst (λ o. ArePackets (before_requests start t) (asks_at start t serial o).node (behind_answer start t) (asks_at start t serial o).requests) (sym (ap receiver_in was_it ∙ ap Some to_is))
          (subst (λ x. Due (host_requests t i serial x)) (sym e) h)

    -- ---- a response
    module _ (p : Packet) (label : LabelParts) (purpose : Option Purpose) (new : Layer Purpose) (e : judging_step old.layer one.generation one.bytes ≡ (of_response p label purpose, new)) (judged : AreJudged got) (v : WorldState) (bus : SameBus w v) where
      abbrev finding : (judging_step old.layer one.generation one.bytes).0 ≡ of_response p label purpose
      finding = ap (λ (r : Finding Purpose × Layer Purpose). r.0) e

      abbrev answer : IsAnswer wire serial q p
      answer = known.a units ready start past s here i inside rom serial one found to_is p label purpose finding judged

      abbrev closed : InitiatorState
      closed = called (record old { layer = new })

      abbrev hands : Called
      hands = ended_for purpose (ending_of p) empty_outbox closed

      abbrev rest : List Note
      rest = handed (suc i) 0 hands.0 v

      response_part : is_response (part_of q.bytes) ≡ true
      response_part = ap is_response answer.part

      none_answers : answers_to start (turn ms (said (notes.Got serial)) rest) (wire.sent serial) ≡ []
      none_answers = none_due start ms serial q was_it rest response_part

      behind_is : behind_answer start (turn ms (said (notes.Got serial)) rest) ≡ sends_of rest
      behind_is = ap (λ xs. drop (length xs) (sends_of rest)) none_answers

      asked_next : host_requests (turn ms (said (notes.Got serial)) rest) i serial (Some answer.own) ≡ next_read (host_at ms i) answer.own (answer_of p)
      asked_next = ap (λ x. next_read (host_at ms i) answer.own (answer_in x)) (known.packet_is units ready start past s here i inside rom serial one found to_is p (known.read units ready start past s here i inside rom serial one found to_is p label purpose finding judged))

      -- nothing is sent, where nothing is asked
      silent : AreOwn hands.0.sides → hands.0.packets ≡ [] → next_read (host_at ms i) answer.own (answer_of p) ≡ [] → RequestsLaw start (turn ms (said (notes.Got serial)) rest)
      silent own none asks =
          let sends : sends_of rest ≡ [] =
          sends_behind (notes_told 0 hands.0.sides v) (notes_sent (suc i) hands.0.packets (told_all 0 hands.0.sides v)) (told_unsent 0 hands.0.sides v (all_own_unsent hands.0.sides own))
          ∙ ap (λ ps. sends_of (notes_sent (suc i) ps (told_all 0 hands.0.sides v))) none in
          law_by rest (Some answer.own) answer.answered
          (subst (λ ns. ArePackets (before_requests start (turn ms (said (notes.Got serial)) rest)) (suc i) ns (host_requests (turn ms (said (notes.Got serial)) rest) i serial (Some answer.own))) (sym (behind_is ∙ sends))
          (subst (λ rs. ArePackets (before_requests start (turn ms (said (notes.Got serial)) rest)) (suc i) [] rs) (sym (asked_next ∙ asks)) tt))

      -- ---- the wire behind its first note: in a line that repeats it it need not be in flight
      abbrev line : List Moment
      line = asked 0 (events.Repeat serial) ∷ ms

      abbrev alone : WorldState
      alone = without_notes w

      begun : Stands line alone
      begun = (opens 0 (events.Repeat serial) w refl here.holds.sound).stands

      abbrev Judges : Finding Purpose × Layer Purpose → Type 0
      Judges f = StandsAt line (upd (layers_of alone) one.to (bare f.1)) (due_for (bare_finding f.0) None serial q) (with_note (first_note (bare_finding f.0) None serial) (marked serial true alone))

      judged_there : Judges (judging_step old.layer one.generation one.bytes)
      judged_there =
          let there : one.to ≤ length alone.initiators = omega (arith, to_is, inside) in
          judged_marked alone begun serial one there old.layer (ap (λ n. layers_of alone n) to_is) None refl found true (ap (λ x. (terms x).repeats) begun.is.past_is) (λ f. absurd (let no : true ≡ false = f in cc))

      got_stands : Judges (of_response p label purpose, new)
      got_stands = subst Judges e judged_there

      abbrev there : WorldState
      there = with_note (notes.Got serial) alone

      abbrev layers : ℕ → Node
      layers = upd (layers_of alone) one.to (bare new)

      own_is : layers (suc i) ≡ bare new
      own_is = ap (λ n. upd (layers_of alone) n (bare new) (suc i)) to_is ∙ upd_own (layers_of alone) (suc i) (bare new)

      stands_there : StandsAt line layers None there
      stands_there = got_stands

      target_is : id_for stands_there.wire (suc i) 0 ≡ old.target
      target_is =
          ap (λ g. (terms stands_there.wire.past).ids g 0) (stands_there.is.sights (suc i) inside_there) ∙ stands_there.is.known_ids (suc i) 0 inside_there low
          ∙ to_target w.generations.seen i old.target (here.holds.sound.nodes.own.holds i inside).fits.target_known

      labels_same : SameLabels (terms (said (notes.Got serial) ∷ line)) (terms got)
      labels_same = gets_same (wire.sent serial) serial wire

      module _ (offset : ℕ) (fit : offset < 2 ^ 48) where
        abbrev body : Body
        body = quadlet_read offset

        valid : IsValid (request_with (header_to new.node old.target 0) body)
        valid =
            let h = here.holds.sound.nodes.own.holds i inside in
            let node_is : old.layer.node ≡ new.node = sym (judges_same old.layer one.generation one.bytes).node ∙ ap (λ (r : Finding Purpose × Layer Purpose). r.1.node) e in
            request_fits new.node old.target body (subst (λ n. n < 2 ^ 16) node_is h.layer.small) (target_small w.generations.seen i old.target h.fits.target_known) fit

        finds : (act : ℕ) → is_some (asking_step new old.target body (purposes.Rom act)).0 ≡ finds_label (terms got) (suc i) 0 body
        finds act =
            finds_at there stands_there (suc i) 0 inside_there low new own_is old.target target_is body valid (purposes.Rom act)
            ∙ same_labels (suc i) 0 body (terms (said (notes.Got serial) ∷ line)) (terms got) labels_same

        spelled : (act : ℕ) (next : Asked) → (asking_step new old.target body (purposes.Rom act)).0 ≡ Some next → IsSpelled (terms (said (notes.Got serial) ∷ line)) (suc i) 0 body next
        spelled act next f = spelled_at there stands_there (suc i) 0 inside_there low new own_is old.target target_is body valid (purposes.Rom act) next f

        nodes : SameNodes (terms got) wire
        nodes = gets_nodes (wire.sent serial) serial wire

        bytes_same : request_bytes (terms got) (suc i) 0 body ≡ request_bytes wire (suc i) 0 body
        bytes_same =
            ap (λ g. request_bytes (record (terms got) { generation = g }) (suc i) 0 body) nodes.generation
            ∙ ap (λ x. request_bytes (record wire { ids = x }) (suc i) 0 body) nodes.ids

        -- the label that was answered is free
        serves_it : serves (terms got) (suc i) 0 (request_bytes (terms got) (suc i) 0 body) label.number ≡ true
        serves_it =
            ap (λ bs. is_free ((terms got).held (transaction ((terms got).generation (suc i)) (suc i) 0 label.number)) && (not (is_write bs) || not (is_last ((terms got).last (transaction ((terms got).generation (suc i)) (suc i) 0 label.number)) (with_label label.number bs)))) bytes_same
            ∙ ap (λ b. is_free ((terms got).held (transaction ((terms got).generation (suc i)) (suc i) 0 label.number)) && (not b || not (is_last ((terms got).last (transaction ((terms got).generation (suc i)) (suc i) 0 label.number)) (with_label label.number (request_bytes wire (suc i) 0 body))))) (read_bytes w here.holds.sound i inside offset fit)
            ∙ ap (λ h. is_free h && true) freed
          where
            freed : (terms got).held (transaction ((terms got).generation (suc i)) (suc i) 0 label.number) ≡ free
            freed =
                ap (λ u. (terms got).held u) (transaction_is)
                ∙ got_frees wire serial answer.own q (header_in p).label answer.kind was_it answer.part (ap (λ h. closed_by h answer.kind) answer.held ∙ ap (λ b. cond b (Some answer.own) None) answer.alike)
              where
                transaction_is : transaction ((terms got).generation (suc i)) (suc i) 0 label.number ≡ between q q.to q.from (header_in p).label
                transaction_is =
                    ap (λ g. transaction (g (suc i)) (suc i) 0 label.number) nodes.generation
                    ∙ ap (λ g. transaction g (suc i) 0 label.number) (ap (λ n. wire.generation n) (sym to_is) ∙ sym answer.current)
                    ∙ ap (λ n. transaction one.generation n 0 label.number) (sym to_is)
                    ∙ ap (λ n. transaction one.generation one.to n label.number) (sym (known.from_is units ready start past s here i inside rom serial one found to_is p label purpose finding judged))
                    ∙ ap (λ n. transaction one.generation one.to one.from n) (label_number old.layer one.generation one.bytes p label purpose finding)

        small_label : label.number < 64
        small_label =
            subst (λ n. n < 64) (sym (label_number old.layer one.generation one.bytes p label purpose finding ∙ ap (λ (h : Header). h.label) (header_spelled one.bytes p (spells one.bytes p (known.read units ready start past s here i inside rom serial one found to_is p label purpose finding judged)))))
            (header_small one.bytes)

        pub finds_next : (act : ℕ) → is_some (asking_step new old.target body (purposes.Rom act)).0 ≡ true
        finds_next act = finds act ∙ free_finds (terms got) (suc i) 0 body label.number small_label serves_it

      -- ---- the next read of a ROM
      module _ (act : ℕ) (rom_is : purpose ≡ Some (purposes.Rom act)) where
        abbrev quads : List ℕ
        quads = (host_at ms i).quads

        abbrev offset : ℕ
        offset = rom_base + 4 * (length quads + 1)

        quads_are : quads ≡ old.quads
        quads_are = known.quads_are units ready start past s here i inside rom serial one found to_is known_here

        few : length old.quads < 256
        few = (let r = known.is_of_rom units ready start past s here i inside rom serial one found to_is p label purpose finding judged act rom_is in known_here.few r.running r.is r.kind)

        fit : offset < 2 ^ 48
        fit = (let n = ap (λ (xs : List ℕ). length xs) quads_are in let f = few in omega (arith, n, f))

        latest : (is_rom (host_at ms i).operation && is_latest (host_at ms i).operation answer.own) ≡ true
        latest = known.latest units ready start past s here i inside rom serial one found to_is p label purpose finding judged act rom_is

        module _ (ending : Ending) (ending_is : ending_of p ≡ ending) where
          hands_are : hands ≡ ended_for (Some (purposes.Rom act)) ending empty_outbox closed
          hands_are = ap (λ x. ended_for x (ending_of p) empty_outbox closed) rom_is ∙ ap (λ y. ended_for (Some (purposes.Rom act)) y empty_outbox closed) ending_is

          sends_none : (ended_for (Some (purposes.Rom act)) ending empty_outbox closed).0.packets ≡ [] → hands.0.packets ≡ []
          sends_none none = ap (λ (x : Called). x.0.packets) hands_are ∙ none

        module _ (value : ℕ) (bytes : List ℕ) (ending_is : ending_of p ≡ endings.Complete value) (answer_is : answer_of p ≡ Payload bytes) where
          abbrev more : List ℕ
          more = read_on (endings.Complete value) old.quads

          longer : length more ≡ length quads + 1
          longer =
              ap (λ (xs : List ℕ). length xs) (more_quads old.quads value few) ∙ one_longer old.quads value
              ∙ (let n = ap (λ (xs : List ℕ). length xs) quads_are in let z : suc (length old.quads) ≡ length quads + 1 = omega (arith, n) in z)

          next_by : (b : Bool) → nat_lt (length quads) 255 ≡ b → next_read (host_at ms i) answer.own (answer_of p) ≡ cond b (requests_to 0 (Some (quadlet_read offset))) []
          next_by b e =
              ap (next_read (host_at ms i) answer.own) answer_is ∙ ap (λ c. cond (c && nat_lt (length quads) 255) (requests_to 0 (Some (quadlet_read offset))) []) latest
              ∙ ap (λ c. cond (true && c) (requests_to 0 (Some (quadlet_read offset))) []) e

          -- all are read
          all_read : AreOwn hands.0.sides → (length more == 256) ≡ true → RequestsLaw start (turn ms (said (notes.Got serial)) rest)
          all_read own f =
              let n = longer in
              silent own (sends_none (endings.Complete value) ending_is (last_sends act closed value f)) (next_by false (grind (arith, nat_tests)))

          module _ (unread : (length more == 256) ≡ false) (next : Asked) (step : (asking_step new old.target (next_quad more) (purposes.Rom act)).0 ≡ Some next) where
            body_is : next_quad more ≡ quadlet_read offset
            body_is = ap quadlet_read (let n = longer in let f = fit in let z : (0xffff_f000_0400 + 4 * length more) % 2 ^ 48 ≡ offset = omega (arith, n, f) in z)

            asks_it : (asking_step new old.target (quadlet_read offset) (purposes.Rom act)).0 ≡ Some next
            asks_it = ap (λ b. (asking_step new old.target b (purposes.Rom act)).0) (sym body_is) ∙ step

            abbrev packet : Outgoing
            packet = outgoing old.target next

            abbrev number : ℕ
            number = v.store.last + 1

            abbrev generation : ℕ
            generation = (topology_at v.generations (suc i)).generation

            abbrev sent_alone : List Note
            sent_alone = notes.Sent number generation (suc i) 0 next.bytes ∷ []

            rest_is : rest ≡ sent_alone
            unfolding told_all
            rest_is =
                ap (λ xs. notes_told 0 xs v ++ notes_sent (suc i) hands.0.packets (told_all 0 xs v)) (ap (λ (x : Called). x.0.sides) (hands_are (endings.Complete value) ending_is) ∙ next_tells act closed value unread next step)
                ∙ ap (λ ps. notes_sent (suc i) ps v) (ap (λ (x : Called). x.0.packets) (hands_are (endings.Complete value) ending_is) ∙ next_sends act closed value unread next step)
                ∙ ap (λ to. packet_note to (suc i) packet v ++ []) (ap (λ (g : GenerationsState). node_of g (suc i) old.target) bus.generations ∙ target_there w stands i inside here.holds.sound.nodes)

            is_request : IsRequest (terms got) (suc i) (record { to = 0; body = quadlet_read offset; is_untold = false }) (quadlet_read offset) number generation (suc i) 0 next.bytes
            is_request =
                let x = spelled offset fit act next asks_it in
                let same = labels_same in
                let T = terms (said (notes.Got serial) ∷ line) in
                record {
                  number =
                      ap (λ n. n + 1) (bus.last ∙ ap (λ (st : Stored). st.last) (sym stands.is.store_is) ∙ last_is (holds stands.wire stands.reached).follows ∙ ap (λ (t : Terms). t.count) (past_terms w stands) ∙ sym (gets_count (wire.sent serial) serial wire));
                  in_generation =
                      ap (λ (g : GenerationsState). (topology_at g (suc i)).generation) bus.generations ∙ sym (stands.is.sights (suc i) inside_there) ∙ ((holds stands.wire stands.reached).nodes (suc i)).generation
                      ∙ ap (λ (t : Terms). t.generation (suc i)) (past_terms w stands) ∙ sym (ap (λ g. g (suc i)) (gets_nodes (wire.sent serial) serial wire).generation);
                  sender = refl;
                  receiver = refl;
                  label = sym (same_label (suc i) 0 (quadlet_read offset) T (terms got) same) ∙ x.label ∙ ap Some (sym x.number);
                  spelled =
                      x.spelled
                      ∙ ap (λ g. canon (request_with (header_to (T.ids (g (suc i)) (suc i)) (T.ids (g (suc i)) 0) next.label.number) (quadlet_read offset))) same.generation
                      ∙ ap (λ d. let g = (terms got).generation (suc i) in canon (request_with (header_to (d g (suc i)) (d g 0) next.label.number) (quadlet_read offset))) same.ids
                      ∙ ap (λ n. let t = terms got in canon (request_with (header_to (t.ids (t.generation (suc i)) (suc i)) (t.ids (t.generation (suc i)) 0) n) (quadlet_read offset))) (sym x.number);
                }

            next_law : RequestsLaw start (turn ms (said (notes.Got serial)) sent_alone)
            next_law =
                let t0 = turn ms (said (notes.Got serial)) sent_alone in
                let wanted : host_requests t0 i serial (Some answer.own) ≡ requests_to 0 (Some (quadlet_read offset)) =
                asked_next ∙ next_by true (let n = longer in let o = unread in grind (arith, nat_tests)) in
                law_by sent_alone (Some answer.own) answer.answered
                (subst (λ xs. ArePackets (once_told got (effects_of sent_alone ++ xs)) (suc i) (drop (length xs) (sends_of sent_alone)) (host_requests t0 i serial (Some answer.own))) (sym (none_due start ms serial q was_it sent_alone response_part))
                (subst (λ rs. ArePackets got (suc i) sent_alone rs) (sym wanted) (is_request, tt)))

          reads_next : (length more == 256) ≡ false → (r : Option Asked) → (asking_step new old.target (next_quad more) (purposes.Rom act)).0 ≡ r → is_some r ≡ true → RequestsLaw start (turn ms (said (notes.Got serial)) rest)
          reads_next unread (Some next) step some = subst (λ ns. RequestsLaw start (turn ms (said (notes.Got serial)) ns)) (sym (rest_is unread next step)) (next_law unread next step)
          reads_next unread None step some = untrue some

          gives_law : AreOwn hands.0.sides → RequestsLaw start (turn ms (said (notes.Got serial)) rest)
          gives_law own = by (length more == 256) refl
            where
              by : (b : Bool) → (length more == 256) ≡ b → RequestsLaw start (turn ms (said (notes.Got serial)) rest)
              by true f = all_read own f
              by false f =
                  reads_next f (asking_step new old.target (next_quad more) (purposes.Rom act)).0 refl
                  (finds_next ((0xffff_f000_0400 + 4 * length more) % 2 ^ 48) (omega arith) act)

        read_law : AreOwn hands.0.sides → (ending : Ending) (answer : Answer) → ending_of p ≡ ending → answer_of p ≡ answer → IsRead ending answer → RequestsLaw start (turn ms (said (notes.Got serial)) rest)
        read_law own _ _ f g (gives value bytes e) = gives_law value bytes f g own
        read_law own _ _ f g (refuses rcode) = silent own (sends_none (endings.Refused rcode) f (refused_sends act closed rcode)) (ap (next_read (host_at ms i) answer.own) g)
        read_law own _ _ f g lapses = silent own (sends_none endings.Expired f (expired_sends act closed)) (ap (next_read (host_at ms i) answer.own) g)

        rom_law : AreOwn hands.0.sides → RequestsLaw start (turn ms (said (notes.Got serial)) rest)
        rom_law own = read_law own (ending_of p) (answer_of p) refl refl (known.reads units ready start past s here i inside rom serial one found to_is p label purpose finding judged act rom_is)

      other_law : AreOwn hands.0.sides → ((act : ℕ) → purpose ≡ Some (purposes.Rom act) → ⊥) → RequestsLaw start (turn ms (said (notes.Got serial)) rest)
      other_law own other =
          silent own (other_sends purpose other (ending_of p) closed)
          (none_next (answer_of p) answer.own i ms (known.not_latest units ready start past s here i inside rom serial one found to_is p label purpose finding judged other (host_at ms i).operation refl))

      response_law : AreOwn hands.0.sides → (x : Option Purpose) → purpose ≡ x → RequestsLaw start (turn ms (said (notes.Got serial)) rest)
      response_law own (Some (purposes.Rom act)) f = rom_law act f own
      response_law own None f = other_law own (λ act g. (let no : None ≡ Some (purposes.Rom act) = sym f ∙ g in cc))
      response_law own (Some (purposes.Pointer list)) f = other_law own (λ act g. (let no : Some (purposes.Pointer list) ≡ Some (purposes.Rom act) = sym f ∙ g in cc))
      response_law own (Some purposes.Doorbell) f = other_law own (λ act g. (let no : Some purposes.Doorbell ≡ Some (purposes.Rom act) = sym f ∙ g in cc))
      response_law own (Some (purposes.AgentReset n)) f = other_law own (λ act g. (let no : Some (purposes.AgentReset n) ≡ Some (purposes.Rom act) = sym f ∙ g in cc))
      response_law own (Some (purposes.Enable n)) f = other_law own (λ act g. (let no : Some (purposes.Enable n) ≡ Some (purposes.Rom act) = sym f ∙ g in cc))
      response_law own (Some (purposes.Management n)) f = other_law own (λ act g. (let no : Some (purposes.Management n) ≡ Some (purposes.Rom act) = sym f ∙ g in cc))
      response_law own (Some (purposes.State n list)) f = other_law own (λ act g. (let no : Some (purposes.State n list) ≡ Some (purposes.Rom act) = sym f ∙ g in cc))

    -- ---- a request: it sends its response alone
    module _ (p : Packet) (a : Asks wire q p by_request) (l : Layer Purpose) (v : WorldState) where
      abbrev asking : InitiatorState
      asking = record old { layer = l }

      has : HasOrb old.operation
      has = by (here.calls i inside)
        where
          by : HasCalls i old → HasOrb old.operation
          by c = subst (λ (x : InitiatorState). HasOrb x.operation) c.called.is (sound i c.ready c.called.calls).orb

      abbrev served : Called
      served = (request_step p one.bytes empty_outbox asking).1

      abbrev replies_so : List Note
      replies_so = handed (suc i) 0 served.0 v

      request_law : AreOwn served.0.sides → RequestsLaw start (turn ms (said (notes.Got serial)) replies_so)
      request_law own =
          let t0 = turn ms (said (notes.Got serial)) replies_so in
          let x = request_answers one.bytes empty_outbox asking has p in
          let asks_for = access_there p a.none in
          let V = told_all 0 served.0.sides v in
          let sends : sends_of replies_so ≡ sends_of (notes_sent (suc i) served.0.packets V) =
          sends_behind (notes_told 0 served.0.sides v) (notes_sent (suc i) served.0.packets V) (told_unsent 0 served.0.sides v (all_own_unsent served.0.sides own)) in
          let one_answer : length (answers_to start t0 (wire.sent serial)) ≡ 1 = ap (λ (xs : List Note). length xs) (reply_due start ms serial q was_it p asks_for.access a.read asks_for.is replies_so) in
          law_by replies_so None (known.unanswered units ready start past s here i inside rom serial one found to_is known_here p a (part_case p))
          (subst (λ ns. ArePackets (before_requests start t0) (suc i) ns [])
          (sym (ap (λ n. drop n (sends_of replies_so)) one_answer ∙ ap (drop 1) (sends ∙ ap (λ ps. sends_of (notes_sent (suc i) ps V)) x.packets)
          ∙ one_dropped (node_of V.generations (suc i) (header_in p).source) (suc i) (replied p (answering_step l p one.bytes x.rcode x.given).0) V)) tt)

    -- ---- what it hears
    module _ (v : WorldState) (bus : SameBus w v) where
      abbrev Asks_so : Judged × Called → Type 0
      Asks_so r = HostAsks start (turn ms (said (judged_note serial r.0)) (handed (suc i) 0 r.1.0 v))

      request_asks : (p : Packet) → Asks wire q p by_request → (l : Layer Purpose) → (let r = request_step p one.bytes empty_outbox (record old { layer = l }) in AreOwn r.1.0.sides → (j : Judged) → HostAsks start (turn ms (said (judged_note serial j)) (handed (suc i) 0 r.1.0 v)))
      request_asks p a l own judgements.Got = where_holds (of_initiator (receiver_in (wire.sent serial))) _ (request_law p a l v own)
      request_asks p a l own (judgements.Ignored cause) = tt

      found_asks : (x : Finding Purpose × Layer Purpose) → judging_step old.layer one.generation one.bytes ≡ x → RowFor wire q old.layer.node x → (let r = received x one.bytes empty_outbox old in AreJudged (said (judged_note serial r.0) ∷ ms) → AreOwn r.1.0.sides → Asks_so r)
      found_asks (of_generation, l) e row judged own = tt
      found_asks (of_grammar, l) e row judged own = tt
      found_asks (of_label, l) e row judged own = tt
      found_asks (of_response p label purpose, l) e row judged own = where_holds (of_initiator (receiver_in (wire.sent serial))) _ (response_law p label purpose l e judged v bus own purpose refl)
      found_asks (of_again p rcode, l) e row judged own = tt
      found_asks (of_request p, l) e row judged own = request_asks p row l own (request_step p one.bytes empty_outbox (record old { layer = l })).0

      pub heard_asks : RowFor wire q old.layer.node (judging_step old.layer one.generation one.bytes) → AreJudged (said (judged_note serial (receive_step one.generation one.bytes empty_outbox old).0) ∷ ms) → AreOwn (receive_step one.generation one.bytes empty_outbox old).1.0.sides → Asks_so (receive_step one.generation one.bytes empty_outbox old)
      unfolding receive_step
      heard_asks row judged own = found_asks (judging_step old.layer one.generation one.bytes) refl row judged own

  -- ---- no other turn begins so
  target_asks : (past : List Moment) (serial : ℕ) (packet : Sending) (judged : Judged) (rest : List Note) → (terms past).sent serial ≡ Some packet → packet.to ≡ 0 → HostAsks start (turn past (said (judged_note serial judged)) rest)
  target_asks past serial packet judgements.Got rest was zero_to = where_none (of_initiator (receiver_in ((terms past).sent serial))) _ (ap (λ so. of_initiator (receiver_in so)) was ∙ ap (λ n. of_initiator (Some n)) zero_to)
  target_asks past serial packet (judgements.Ignored cause) rest was zero_to = tt

  end_asks : (past : List Moment) (done : Bool) → HostAsks start (turn past (said (end_note done)) [])
  end_asks past true = tt
  end_asks past false = tt

  host_cases : KnowingCases units ready start (HostAsks start)
  host_cases = record {
    heard = λ past s serial again run one found zero_to may others here behind noted k.
        let x = heard_target run one.generation one.bytes (whole_of s.world.target s.media) in
        let rest = handed 0 0 x.1.outbox (with_note (judged_note serial x.0) (marked serial again (with_target x.1.node s.world))) in
        target_asks (hist past s.world) serial (as_sending one) x.0 rest (was_sent s.world here.holds.sound.stands serial one found) zero_to;
    heard_own = λ past s serial again one i found to_is inside own here behind noted k.
        let old = initiator_at s.world i in
        let x = receive_step one.generation one.bytes empty_outbox old in
        let there : one.to ≤ length s.world.initiators = omega (arith, to_is, inside) in
        let row = row_there s.world here.holds.sound.stands serial one found there old.layer (ap (layers_of s.world) to_is) in
        let v = with_note (judged_note serial x.0) (marked serial again (with_initiator i x.1.1 s.world)) in
        heard_asks past s here k i inside serial again one found to_is v (judged_bus (judged_note serial x.0) serial again s.world (with_initiator i x.1.1 s.world) (record { last = refl; generations = refl })) row noted.judged own;
    late = λ past s serial request done t found node_is e others here behind noted k. tt;
    late_own = λ past s serial request i outbox state found node_is inside e own here behind noted k. tt;
    sees = λ past s others here behind noted k. tt;
    sees_own = λ past s i inside own here behind noted k. tt;
    ticks = λ past s others here behind noted k. tt;
    ends = λ past s done here behind k. end_asks (hist past s.world) done;
    acts = λ past s line i action outbox state inside e own here behind k. tt;
    lines = λ past s line event rest behind brings fresh here there k. tt;
    begins = λ line initiators is_ready. tt;
  }

pub host_requests_law : HostRequestsLaw
host_requests_law = of_every_known (λ start. HostAsks start) (λ units ready start has. host_cases units ready start)
