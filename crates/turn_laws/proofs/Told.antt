-- `told` stands in each turn of every run exactly where an initiator got a packet whose row tells of a changed medium: what it finds of the packet, and how it judges a request, is by the terms.
use Rattle.std.proofs.Common.{arith, ◌≡◌, ◌∙◌, ◌⊎◌, inl, inr, refl, sym, ap, ℕ, suc, if◌then◌else◌, ◌+◌, ◌<◌, ◌≤◌, ◌&&◌, ◌||◌, not, Bool, true, false, List, [], ◌∷◌, length, Option, Some, None, Result, Ok, Err}
use Rattle.async_packet.specs.Packet.{Packet, header_in}
use Rattle.bus_transactions.specs.Wire.{as_sending}
use Rattle.label_table.specs.Judging.{Row, by_again, by_generation, by_grammar, by_label, by_request, by_response, row_of}
use Rattle.label_table.specs.Layer.{Finding, Layer, judging_step, of_again, of_generation, of_grammar, of_label, of_request, of_response}
use Rattle.orb_layout.specs.declared.fault.OrbFault.{OrbFault}
use Rattle.orb_layout.specs.declared.status.StatusBlock.{StatusBlock}
use Rattle.packet_store.specs.Kept.{found_sent}
use Rattle.packet_store.specs.declared.sent.Sent.{Sent}
use Rattle.rbc_disk.specs.Disk.{Disk}
use Rattle.sbp_bus.specs.Packets.{end_note, judged_note}
use Rattle.sbp_initiator.specs.Effects.{Turn as Called}
use Rattle.sbp_initiator.specs.Histories.Judging.{facts_at as facts_for, fifo_for, judging_by, judging_for}
use Rattle.sbp_initiator.specs.Histories.Taking.{block_notes, brought, brought_by, brought_for, finding_note, nothing, read_as, unsolicited}
use Rattle.sbp_initiator.specs.Receiving.{receive_step}
use Rattle.sbp_initiator.specs.declared.purpose.Purpose.{Purpose}
use Rattle.sbp_initiator.specs.declared.state.InitiatorState.{InitiatorState}
use Rattle.sbp_journal.specs.Addresses.{Access, access_of}
use Rattle.sbp_journal.specs.Outgoings.{empty_outbox}
use Rattle.sbp_journal.specs.Rows.{Judging, RequestFacts, first_or, ignored_as, judging_of, serving, telling}
use Rattle.sbp_journal.specs.Run.{Moment, asked, said}
use Rattle.sbp_journal.specs.Transactions.{Sending}
use Rattle.sbp_journal.specs.Wire.{Terms, terms}
use Rattle.sbp_journal.specs.declared.cause.Cause.TheVariants as causes
use Rattle.sbp_journal.specs.declared.cause.Judged.{Judged}
use Rattle.sbp_journal.specs.declared.cause.Judged.TheVariants as judgements
use Rattle.sbp_journal.specs.declared.event.Event.{Event}
use Rattle.sbp_journal.specs.declared.note.Note.{Note}
use Rattle.sbp_journal.specs.declared.note.Note.TheVariants as notes
use Rattle.sbp_bus.specs.Generations.{id_of}
use Rattle.sbp_laws.specs.Actions.{action_notes}
use Rattle.sbp_laws.specs.JudgementLaw.{facts_at, facts_of, request_facts}
use Rattle.sbp_laws.specs.Packets.{access_in, packet_in, spelled_by}
use Rattle.sbp_laws.specs.Targets.{Target, over, target_at}
use Rattle.sbp_laws.specs.Turns.{turn}
use Rattle.sbp_initiator.specs.States.{status_in}
use Rattle.sbp_world.proofs.Agents.CrewFirsts.{AccessIs, access_there}
use Rattle.sbp_world.proofs.Agents.Management.Holding.{was_sent}
use Rattle.sbp_world.proofs.Agents.Management.Still.{hist}
use Rattle.sbp_world.specs.Lines.{weight_in}
use Rattle.sbp_world.specs.Worlds.{Scene, WorldState, initiator_at, with_initiator, with_note}
use Rattle.sbp_world.specs.Delivering.{marked}
use Rattle.sbp_world.specs.Wire.Wires.{layers_of}
use Rattle.turn_laws.specs.Told.{TellsByRow, ToldLaw, is_telling, row_tells, tells_by, packet_tells, told_by, told_of, told_to}
use Rattle.turn_laws.proofs.Actions.{sides_are}
use Rattle.turn_laws.proofs.AnswerNotes.{SameBus, judged_bus}
use Rattle.turn_laws.proofs.Calls.{Brings, Cases, calls, injects, loses, refuses, refuses_action, resets, sets_key}
use Rattle.turn_laws.proofs.FoundRows.{Asks, RowFor}
use Rattle.turn_laws.proofs.Handed.{handed}
use Rattle.turn_laws.proofs.HostJudges.{host_acts, judged_same}
use Rattle.turn_laws.proofs.HostTold.{expire_told, receive_told}
use Rattle.turn_laws.proofs.Judgements.{row_there}
use Rattle.turn_laws.proofs.Pass.{of_every_run}
use Rattle.turn_laws.proofs.Places.{Place}
use Rattle.turn_laws.proofs.ToldNotes.{Told, action_none, block_first, block_told, is_push, own_are, sight_none, target_none, told_if}
use Rattle.turn_laws.proofs.Verdicts.{Acts, ActsBy}

-- ---- a block is told by the row of its request
read_none : (read : Result StatusBlock OrbFault) → is_push (read_as read) ≡ false
read_none (Ok block) = refl
read_none (Err fault) = refl

push_rows : (a b c d e f : Bool) (read : Result StatusBlock OrbFault)
    → is_push (if a then nothing else if b then nothing else if c && d then unsolicited else if c then read_as read else nothing)
    ≡ is_telling (first_or serving ((a, ignored_as causes.Source 7) ∷ (b, ignored_as causes.Login 7) ∷ (c && d, telling) ∷ (c && not e, ignored_as causes.Grammar 5) ∷ (c && not f, ignored_as causes.Slot 0) ∷ []))
push_rows true b c d e f read = refl
push_rows false true c d e f read = refl
push_rows false false true true e f read = refl
push_rows false false true false false f read = read_none read
push_rows false false true false true false read = read_none read
push_rows false false true false true true read = read_none read
push_rows false false false d e f read = refl

push_judged : (facts : RequestFacts) (read : Result StatusBlock OrbFault) → is_push (brought_by facts read) ≡ is_telling (judging_of facts)
push_judged facts read = push_rows (facts.to_initiator && not facts.reads_rom && not facts.of_target) (facts.of_other_login || facts.to_closed_fifo) facts.is_status facts.is_unsolicited facts.is_read facts.is_awaited read

push_is : (p : Packet) (s : InitiatorState) → is_push (brought p s) ≡ is_telling (judging_for p s)
push_is p s = by (access_of p)
  where
    by : (so : Option Access) → is_push (brought_for so (header_in p).source s) ≡ is_telling (judging_by so (header_in p).source s)
    by None = refl
    by (Some access) = push_judged (facts_for (fifo_for access s) access (header_in p).source s) (status_in access.payload)

-- ---- a delivery to an initiator
module _ (units ready : ℕ) (start : List Disk) (past : List Moment) (s : Scene) (here : Place units ready start past s) (serial : ℕ) (one : Sent) (found : found_sent serial s.world.store.kept ≡ Some one) (i : ℕ) (to_is : one.to ≡ suc i) (inside : i < length s.world.initiators) (v : WorldState) (bus : SameBus s.world v) where
  abbrev old : InitiatorState
  old = initiator_at s.world i

  abbrev ms : List Moment
  ms = hist past s.world

  abbrev t : Terms
  t = terms ms

  abbrev target : Target
  target = over (target_at start ms)

  abbrev q : Sending
  q = as_sending one

  abbrev heard : Judged × Called
  heard = receive_step one.generation one.bytes empty_outbox old

  abbrev F : Option RequestFacts
  F = facts_at start ms target t q (access_in (packet_in (Some q)))

  abbrev tells : Bool
  tells = row_tells (row_of (facts_of t q)) F

  by_row : (row : Row) → row_of (facts_of t q) ≡ row → ((facts : Option RequestFacts) → row_tells row facts ≡ false) → tells ≡ false
  by_row row e f = ap (λ r. row_tells r F) e ∙ f F

  law_tells : (p : Packet) (a : Asks t q p by_request) (asks : AccessIs p) → tells ≡ is_telling (judging_of (request_facts start ms target t one.from one.to asks.access))
  law_tells p a asks =
      ap (λ r. row_tells r F) a.row_is
      ∙ (ap (λ r. tells_by (facts_at start ms target t q (access_in (spelled_by r)))) a.read
      ∙ ap (λ x. tells_by (facts_at start ms target t q x)) asks.is)

  request_tells : (p : Packet) (a : Asks t q p by_request) → tells ≡ is_telling (judging_for p old)
  request_tells p a = law_tells p a (access_there p a.none) ∙ ap is_telling (sym (judged_same units ready start past s here serial one found i to_is inside v bus p a))

  abbrev Row_ : Finding Purpose × Layer Purpose → Type 0
  Row_ x = RowFor t q old.layer.node x

  finding_tells : (x : Finding Purpose × Layer Purpose) → Row_ x → Told (block_notes (finding_note x.0 old)) ≡ told_if tells old.number
  finding_tells (of_generation, layer) row = sym (ap (λ b. told_if b old.number) (by_row by_generation row (λ facts. refl)))
  finding_tells (of_grammar, layer) row = sym (ap (λ b. told_if b old.number) (by_row by_grammar row (λ facts. refl)))
  finding_tells (of_label, layer) row = sym (ap (λ b. told_if b old.number) (by_row by_label row (λ facts. refl)))
  finding_tells (of_response p label purpose, layer) row = sym (ap (λ b. told_if b old.number) (by_row by_response row (λ facts. refl)))
  finding_tells (of_again p rcode, layer) row = sym (ap (λ b. told_if b old.number) (by_row by_again row.asks.row_is (λ facts. refl)))
  finding_tells (of_request p, layer) a = block_told old (brought p old) ∙ ap (λ b. told_if b old.number) (push_is p old ∙ sym (request_tells p a))

  got_or : (x : Finding Purpose × Layer Purpose) → Row_ x → (judged : Judged) (rest : List Note) → Acts start ms serial q x.0 judged rest → (judged ≡ judgements.Got) ⊎ (tells ≡ false)
  got_or (of_generation, layer) row judged rest acts = inr (by_row by_generation row (λ facts. refl))
  got_or (of_grammar, layer) row judged rest acts = inr (by_row by_grammar row (λ facts. refl))
  got_or (of_label, layer) row judged rest acts = inr (by_row by_label row (λ facts. refl))
  got_or (of_response p label purpose, layer) row judged rest acts = inl acts
  got_or (of_again p rcode, layer) row judged rest acts = inr (by_row by_again row.asks.row_is (λ facts. refl))
  got_or (of_request p, layer) a judged rest acts = by (judging_of (request_facts start ms target t one.from one.to acts.asks.access)) refl acts.acts
    where
      by : (j : Judging) → judging_of (request_facts start ms target t one.from one.to acts.asks.access) ≡ j → ActsBy start ms serial q j p judged rest → (judged ≡ judgements.Got) ⊎ (tells ≡ false)
      by (ignored_as cause rcode) e h = inr (law_tells p a acts.asks ∙ ap is_telling e)
      by telling e h = inl h
      by serving e h = inl h

  as_told : (b : Bool) → told_to (suc i) b ≡ told_if b i
  as_told true = refl
  as_told false = refl

  was : t.sent serial ≡ Some q
  was = was_sent s.world here.holds.sound.stands serial one found

  law_side : (judged : Judged) (rest : List Note) → (judged ≡ judgements.Got) ⊎ (tells ≡ false) → told_of start (turn ms (said (judged_note serial judged)) rest) (said (judged_note serial judged)) ≡ told_if tells i
  law_side judgements.Got rest h = ap (told_by start (turn ms (said (notes.Got serial)) rest)) was ∙ (ap (λ n. told_to n tells) to_is ∙ as_told tells)
  law_side (judgements.Ignored cause) rest (inl e) = absurd (let no : judgements.Ignored cause ≡ judgements.Got = e in cc)
  law_side (judgements.Ignored cause) rest (inr e) = sym (ap (λ b. told_if b i) e)

  pub hears_by_row : RowFor t q old.layer.node (judging_step old.layer one.generation one.bytes) → TellsByRow start (turn ms (said (judged_note serial heard.0)) (handed (suc i) 0 heard.1.0 v))
  hears_by_row row =
      let x = judging_step old.layer one.generation one.bytes in
      let c = here.calls i inside in
      let k = receive_told c.ready i old c.called one.generation one.bytes in
      let rest = handed (suc i) 0 heard.1.0 v in
      own_are (suc i) 0 heard.1.0 v _ k.sides
      ∙ (block_first old.number (finding_note x.0 old) _ k.op k.state k.stuck
      ∙ (finding_tells x row
      ∙ (ap (told_if tells) (here.hosts i inside).number
      ∙ sym (law_side heard.0 rest (got_or x row heard.0 rest (host_acts units ready start past s here serial one found i to_is inside v bus row))))))

-- ---- over the pass
line_tells : (start : List Disk) (line : ℕ) (s : Scene) (past : List Moment) (event : Event) (rest : List Note) → Brings line s event rest → TellsByRow start (turn past (asked line event) rest)
line_tells start line s past event rest (calls is_event c) = refl
line_tells start line s past event rest (refuses is_event number) = refl
line_tells start line s past event rest (refuses_action i action number e) = refl
line_tells start line s past event rest (resets physical generation e) = refl
line_tells start line s past event rest (loses serial) = refl
line_tells start line s past event rest (sets_key unit key) = refl
line_tells start line s past event rest (injects i bytes serial generation from to) = refl

end_tells : (start : List Disk) (past : List Moment) (done : Bool) → TellsByRow start (turn past (said (end_note done)) [])
end_tells start past true = refl
end_tells start past false = refl

-- the target is told nothing
to_target : (start : List Disk) (past : List Moment) (serial : ℕ) (q : Sending) → (terms past).sent serial ≡ Some q → q.to ≡ 0 → (judged : Judged) → told_of start (turn past (said (judged_note serial judged)) []) (said (judged_note serial judged)) ≡ []
to_target start past serial q sent zero_to judgements.Got =
    let t = turn past (said (notes.Got serial)) [] in
    ap (told_by start t) sent ∙ ap (λ n. told_to n (packet_tells start t q)) zero_to
to_target start past serial q sent zero_to (judgements.Ignored cause) = refl

module _ (units ready : ℕ) (start : List Disk) where
  told_cases : Cases units ready start (TellsByRow start)
  told_cases = record {
    heard = λ past s serial again run one found zero_to may others here behind noted.
        target_none 0 _ _ others ∙ sym (to_target start (hist past s.world) serial (as_sending one) (was_sent s.world here.holds.sound.stands serial one found) zero_to _);
    heard_own = λ past s serial again one i found to_is inside own here behind noted.
        let there : one.to ≤ length s.world.initiators = omega (arith, to_is, inside) in
        let old = initiator_at s.world i in
        let x = receive_step one.generation one.bytes empty_outbox old in
        let u = with_initiator i x.1.1 s.world in
        hears_by_row units ready start past s here serial one found i to_is inside (with_note (judged_note serial x.0) (marked serial again u))
        (judged_bus (judged_note serial x.0) serial again s.world u (record { last = refl; generations = refl }))
        (row_there s.world here.holds.sound.stands serial one found there old.layer (ap (layers_of s.world) to_is));
    late = λ past s serial request done t found node_is e others here behind noted. target_none 0 t.outbox _ others;
    late_own = λ past s serial request i outbox state found node_is inside e own here behind noted.
        let c = here.calls i inside in
        let k = expire_told c.ready i (initiator_at s.world i) c.called request.label in
        own_are (suc i) 0 outbox _ _ (sym (ap (λ (r : Bool × Called). r.1.0.sides) e) ∙ k.sides) ∙ block_first (initiator_at s.world i).number None None k.op k.state k.stuck;
    sees = λ past s others here behind noted. target_none 0 _ _ others;
    sees_own = λ past s i inside own here behind noted. (let g = s.world.generations.latest in sight_none (suc i) 0 _ g.generation (id_of g (suc i)) (id_of g 0) (initiator_at s.world i));
    ticks = λ past s others here behind noted. target_none 0 _ _ others;
    ends = λ past s done here behind. end_tells start (hist past s.world) done;
    acts = λ past s line i action outbox state inside e own here behind.
        own_are (i + 1) (weight_in action) outbox _ (action_notes action (hist past s.world) i) (sides_are units ready start past s here i inside action outbox state e) ∙ action_none action (hist past s.world) i;
    lines = λ past s line event rest behind brings fresh here there. line_tells start line s (hist past s.world) event rest brings;
    begins = λ line initiators is_ready. refl;
  }

pub told_law : ToldLaw
told_law = of_every_run TellsByRow (λ units ready start has. told_cases units ready start)
