-- What the terms keep of the management operation under way (NCITS 325-1998, management agent): its ORB stands where the write of MANAGEMENT_AGENT said that it began with; and where its response is written, the FIFO that the status block then goes to is that of the ORB that was decided on.
use Rattle.std.proofs.Common.{arith, ◌≡◌, ◌∙◌, refl, sym, ap, subst, ℕ, ◌+◌, ◌*◌, ◌^◌, ◌≤◌, ◌==◌, not, is_none, Bool, true, false, cond, List, [], ◌∷◌, length, Option, Some, None, Result, Ok, Err}
use Rattle.sbp_base.specs.Quadlets.{quad}
use Rattle.bus_transactions.specs.Packets.{SerialsCount}
use Rattle.login_table.specs.Table.{Table}
use Rattle.mgmt_agent.specs.Decisions.{decide, reads_eui}
use Rattle.mgmt_agent.specs.declared.decision.ManagerStep.{ManagerStep}
use Rattle.mgmt_agent.specs.declared.decision.Outcome.{Outcome}
use Rattle.mgmt_agent.specs.declared.operation.Operation.{Operation}
use Rattle.mgmt_agent.specs.declared.operation.Phase.{Phase}
use Rattle.mgmt_agent.specs.declared.operation.Phase.TheVariants as phases
use Rattle.mgmt_agent.specs.declared.status.Status.{Status}
use Rattle.mgmt_agent.specs.Machine.{Machine, beside, cut_response, decide_step, decided_as, eui_step, high_eui_at, high_got, in_phase, low_got, orb_got, quiet, reply_in, reply_step, reply_to, response_written, start_step, start_with, status_step, status_written}
use Rattle.orb_layout.specs.declared.ask.Ask.TheVariants as asks
use Rattle.orb_layout.specs.declared.ask.FailCause.{FailCause}
use Rattle.orb_layout.specs.declared.management.ManagementOrb.{ManagementOrb}
use Rattle.orb_layout.specs.ManagementOrbs.{management_orb}
use Rattle.orb_layout.specs.Pointers.{offset_at}
use Rattle.orb_layout.specs.Replies.{Answer, Expired, payload_of, write_failure}
use Rattle.rbc_disk.specs.Disk.{Disk}
use Rattle.sbp_journal.specs.Addresses.{Access, Start, management_agent, no_start, register, rom_start, start_at, start_serves}
use Rattle.sbp_journal.specs.Run.{Moment, asked, said}
use Rattle.sbp_journal.specs.Transactions.{Part, Sending, no_packet, part_of, request, response}
use Rattle.sbp_journal.specs.Wire.{Terms, terms}
use Rattle.sbp_journal.specs.declared.event.Event.{Event}
use Rattle.sbp_journal.specs.declared.event.Event.TheVariants as events
use Rattle.sbp_journal.specs.declared.note.Note.{Note}
use Rattle.sbp_journal.specs.declared.note.Note.TheVariants as notes
use Rattle.sbp_journal.specs.declared.operation.FunctionWord.{FunctionWord}
use Rattle.sbp_journal.specs.declared.operation.FunctionWord.TheVariants as words
use Rattle.sbp_laws.specs.Management.{Call, answer_to, began_with, begins_with, call_by, got_call, no_call, source_node, start_in, start_of, started, starts}
use Rattle.sbp_laws.specs.Packets.{access_at, access_in, access_in_bytes, answer_in, answered_at, id_for, packet_at, packet_in, receiver_in, sender_in}
use Rattle.sbp_laws.specs.SentWrites.{offset_in}
use Rattle.sbp_laws.specs.Targets.{Decided, Purpose, Target, bytes_in, decided_by, decided_in, for_agent, for_manager, for_nobody, got_by, is_serial, is_write_access, keep_decided, key_by, known_at, over, purpose_of, replied, request_got, reset_seen, sent_as, sent_for, taken_on, target_at, target_by, wants}
use Rattle.sbp_laws.specs.Turns.{event_of}
use Rattle.sbp_world.specs.Agents.Management.Offices.{Office, at_rest, by_managed, by_note, office_of, placed, placed_by, started_by}
use Rattle.sbp_world.proofs.Agents.Management.Firsts.{other_reply, own_reply, request_keeps, served_office, wire_is}
use Rattle.sbp_world.proofs.Agents.Management.Offices.{note_changes, over_keeps, taken_keeps}
use Rattle.sbp_world.proofs.Common.{untrue}
use Rattle.sbp_world.proofs.Hosts.Remaining.{serials_behind, step}
use Rattle.sbp_world.proofs.Hosts.SentMoments.{sent_below}
use Rattle.sbp_world.proofs.Sessions.Decisions.{bytes_are}

-- ---- the operation, by the address of its ORB and by what was decided on
abbrev FifoIs : Phase → Option Decided → Type 0
FifoIs (phases.Response fifo) None = ⊥
FifoIs (phases.Response fifo) (Some decided) = decided.orb.fifo ≡ fifo
FifoIs phase decided = Unit {0}

abbrev pub OperationIs : ℕ → Option Decided → Option Operation → Type 0
OperationIs at decided None = Unit {0}
OperationIs at decided (Some op) = (at ≡ op.orb) × FifoIs op.phase decided

-- ---- a reply
module _ (at : ℕ) (m : Machine) (op : Operation) (table : Table) (keys : List (List ℕ)) (decided : Option Decided) (is : at ≡ op.orb) where
  -- what its step leaves, where it brings this to a decision
  abbrev Leaves : Option Decided → ManagerStep × (Machine × Table) → Type 0
  Leaves brought r = OperationIs at (keep_decided r.0.decided brought decided) r.1.0.operation

  responds : (b : Bool) (n : Machine) (orb : ManagementOrb) (status : Status) (d : Decided) → d.orb.fifo ≡ orb.fifo
      → OperationIs at (Some d) (cond {A = ManagerStep × Machine} b (status_step n op orb.fifo status) (quiet (asks.Write orb.second (length n.outgoing)), in_phase n op (phases.Response orb.fifo))).1.operation
  responds true n orb status d e = (is, tt)
  responds false n orb status d e = (is, e)

  decides : (orb : ManagementOrb) (d : Decided) → d.orb.fifo ≡ orb.fifo → (r : Outcome × Table) → Leaves (Some d) (decided_as r m op orb)
  decides orb d e (outcome, t) = responds (length (cut_response orb outcome t) == 0) (record m { outgoing = cut_response orb outcome t }) orb outcome.status d e

  reads : (b : Bool) (orb : ManagementOrb) (d : Decided) → d.orb.fifo ≡ orb.fifo → (r : Outcome × Table)
      → Leaves (Some d) (cond {A = ManagerStep × (Machine × Table)} b (beside table (eui_step m op (phases.HighEui orb) high_eui_at)) (decided_as r m op orb))
  reads true orb d e r = (is, tt)
  reads false orb d e r = decides orb d e r

  at_orb : (answer : Answer) (x : Result (List ℕ) FailCause) → payload_of answer 32 ≡ x → Leaves (decided_in phases.Orb op.source answer) (orb_got x m op table keys)
  unfolding decide_step
  at_orb answer (Err cause) e = tt
  at_orb answer (Ok bytes) e =
      let orb = management_orb bytes in
      reads (reads_eui orb) orb (record { orb = management_orb (bytes_in answer); source = op.source; eui = 0 }) (ap (λ bs. (management_orb bs).fifo) (bytes_are answer 32 bytes e)) (decide orb op.source 0 table keys)

  at_low : (answer : Answer) (orb : ManagementOrb) (high : ℕ) (x : Result (List ℕ) FailCause) → Leaves (decided_in (phases.LowEui orb high) op.source answer) (low_got x m op orb high table keys)
  unfolding decide_step
  at_low answer orb high (Err cause) = tt
  at_low answer orb high (Ok bytes) =
      decides orb (record { orb = orb; source = op.source; eui = high * 2 ^ 32 + quad (bytes_in answer) 0 }) refl (decide orb op.source (high * 2 ^ 32 + quad bytes 0) table keys)

  at_high : (orb : ManagementOrb) (x : Result (List ℕ) FailCause) → Leaves None (beside table (high_got x m op orb))
  at_high orb (Err cause) = tt
  at_high orb (Ok bytes) = (is, tt)

  at_response : (fifo : ℕ) (x : Option FailCause) → Leaves None (beside table (response_written x m op fifo))
  at_response fifo None = (is, tt)
  at_response fifo (Some cause) = tt

  at_status : (x : Option FailCause) → Leaves None (beside table (status_written x m))
  at_status None = tt
  at_status (Some cause) = tt

  at_phase : (phase : Phase) (answer : Answer) → Leaves (decided_in phase op.source answer) (reply_in phase m op table keys answer)
  at_phase phases.Orb answer = at_orb answer (payload_of answer 32) refl
  at_phase (phases.HighEui orb) answer = at_high orb (payload_of answer 4)
  at_phase (phases.LowEui orb high) answer = at_low answer orb high (payload_of answer 4)
  at_phase (phases.Response fifo) answer = at_response fifo (write_failure answer)
  at_phase phases.Status answer = at_status (write_failure answer)

module _ (at : ℕ) where
  reply_by : (operation : Option Operation) (m : Machine) (table : Table) (keys : List (List ℕ)) (answer : Answer) (decided : Option Decided) → m.operation ≡ operation → OperationIs at decided operation
      → (let r = reply_to operation m table keys answer in OperationIs at (keep_decided r.0.decided (decided_by operation answer) decided) r.1.0.operation)
  reply_by None m table keys answer decided e h = subst (OperationIs at decided) (sym e) tt
  reply_by (Some op) m table keys answer decided e h = at_phase at m op table keys decided h.0 op.phase answer

  reply_is : (m : Machine) (table : Table) (keys : List (List ℕ)) (answer : Answer) (decided : Option Decided) → OperationIs at decided m.operation
      → (let r = reply_step m table keys answer in OperationIs at (keep_decided r.0.decided (decided_by m.operation answer) decided) r.1.0.operation)
  unfolding reply_step
  reply_is m table keys answer decided h = reply_by m.operation m table keys answer decided refl h

  -- ---- in the terms
  abbrev Of : Office → Type 0
  Of o = OperationIs at o.decided o.manager.operation

  abbrev pub IsKnown : Target → Type 0
  IsKnown t = OperationIs at t.decided t.manager.operation

  by_office : (t : Target) (o : Office) → office_of t ≡ o → Of o → IsKnown t
  by_office t o e h = subst Of (sym e) h

  pub over_known : (t : Target) → IsKnown t → IsKnown (over t)
  over_known t h = by_office (over t) (at_rest (office_of t)) (over_keeps t) h

  replied_known : (serial : ℕ) (answer : Answer) (t : Target) → IsKnown t → IsKnown (replied serial answer t)
  replied_known serial answer t h = by (is_serial t.manages serial) refl
    where
      by : (b : Bool) → is_serial t.manages serial ≡ b → IsKnown (replied serial answer t)
      by true e = by_office (replied serial answer t) _ (own_reply serial answer t e) (reply_is t.manager t.table t.keys answer t.decided h)
      by false e = by_office (replied serial answer t) (office_of t) (other_reply serial answer t e) h

  placed_known : (place : Option ℕ) (d : Option Decided) (id : ℕ) (o : Office) → Of o → Of (placed place d id o)
  placed_known None d id o h = h
  placed_known (Some place) None id o h = h
  placed_known (Some place) (Some d) id o h = h

  login_known : (login : Option ℕ) (o : Office) → Of o → Of (placed_by login o)
  login_known None o h = h
  login_known (Some id) o h = placed_known _ o.decided id o h

  managed_known : (word : FunctionWord) (login : Option ℕ) (o : Office) → Of o → Of (by_managed word login o)
  managed_known words.Login login o h = login_known login o h
  managed_known word login o h = h

  note_known : (note : Note) (o : Office) → Of o → Of (by_note note o)
  note_known (notes.ManageFailed i cause) o h = tt
  note_known (notes.Managed i word subject status login) o h = managed_known word login o h
  note_known note o h = h

  wanted_known : (b : Bool) (serial : ℕ) (t : Target) → IsKnown t → IsKnown (cond b (record t { manages = Some serial; manager_asks = asks.Nothing }) (record t { pushes = serial ∷ t.pushes }))
  wanted_known true serial t h = h
  wanted_known false serial t h = h

  for_known : (place : Option ℕ) (b : Bool) (serial : ℕ) (t : Target) → IsKnown t → IsKnown (sent_for place b serial t)
  for_known None b serial t h = wanted_known (wants t.manager_asks b) serial t h
  for_known (Some place) b serial t h = h

  part_known : (part : Part) (b : Bool) (serial : ℕ) (t : Target) → IsKnown t → IsKnown (sent_as part b serial t)
  part_known (request label kind) b serial t h = for_known _ b serial t h
  part_known (response label kind) b serial t h = h
  part_known no_packet b serial t h = h

  if_known : (b : Bool) (x y : Target) → IsKnown x → IsKnown y → IsKnown (cond b x y)
  if_known true x y p q = p
  if_known false x y p q = q

  reset_known : (b : Bool) (t : Target) → IsKnown t → IsKnown (reset_seen b t)
  reset_known true t h = tt
  reset_known false t h = h

  key_known : (event : Option Event) (unit : ℕ) (t : Target) → IsKnown t → IsKnown (key_by event unit t)
  key_known None unit t h = h
  key_known (Some (events.Key other key)) unit t h = h
  key_known (Some event) unit t h = h

-- ---- what an operation began with
module _ (start : List Disk) where
  abbrev pub orb_at : List Moment → ℕ
  orb_at past = offset_in (access_at (terms past) (began_with start past))

  abbrev T : List Moment → Target
  T past = target_at start past

  abbrev Call_at : ℕ → List Moment → Call
  Call_at serial past = call_by (said (notes.Got serial)) (T past) (terms past)

  abbrev Begins : ℕ → List Moment → Bool
  Begins serial past = begins_with (Call_at serial past) (T past)

  -- the packet was sent
  was_sent : (serial : ℕ) (past : List Moment) → Begins serial past ≡ true → (so : Option Sending) → (terms past).sent serial ≡ so → (q : Sending) × ((terms past).sent serial ≡ Some q)
  was_sent serial past b (Some q) e = (q, e)
  was_sent serial past b None e =
      let wire = terms past in
      untrue (sym (ap (λ so. begins_with (cond (is_serial (receiver_in so) 0) (got_call (answered_at wire serial) (T past) wire serial) no_call) (T past)) e) ∙ b)

  begin_below : (serial : ℕ) (past : List Moment) → SerialsCount past → Begins serial past ≡ true → serial ≤ (terms past).count
  begin_below serial past c b = let q = was_sent serial past b ((terms past).sent serial) refl in sent_below past serial q.0 c q.1

  began_below : (past : List Moment) → SerialsCount past → began_with start past ≤ (terms past).count
  began_below [] c = omega arith
  began_below (asked line event ∷ past) c =
      let more = (step (asked line event) past c).count in let below = began_below past c in omega (arith, more, below)
  began_below (said (notes.Got serial) ∷ past) c = by (began_below past c) (Begins serial past) refl
    where
      by : began_with start past ≤ (terms past).count → (b : Bool) → Begins serial past ≡ b → cond b serial (began_with start past) ≤ (terms (said (notes.Got serial) ∷ past)).count
      by old true e = let more = (step (said (notes.Got serial)) past c).count in let below = begin_below serial past c e in omega (arith, more, below)
      by old false e = let more = (step (said (notes.Got serial)) past c).count in omega (arith, more, old)
  began_below (said note ∷ past) c =
      let more = (step (said note) past c).count in let below = began_below past (serials_behind (said note) past c) in omega (arith, more, below)

  -- the ORB is the same while its packet is
  same_orb : (m : Moment) (past : List Moment) (c : SerialsCount (m ∷ past)) → began_with start (m ∷ past) ≡ began_with start past → orb_at (m ∷ past) ≡ orb_at past
  same_orb m past c e =
      ap (λ s. offset_in (access_at (terms (m ∷ past)) s)) e
      ∙ ap (λ so. offset_in (access_in (packet_in so))) ((step m past c).sent (began_with start past) (began_below past (serials_behind m past c)))

  got_same : (serial : ℕ) (past : List Moment) → SerialsCount past → Begins serial past ≡ false → orb_at (said (notes.Got serial) ∷ past) ≡ orb_at past
  got_same serial past c e = same_orb (said (notes.Got serial)) past c (ap (λ b. cond b serial (began_with start past)) e)

  got_new : (serial : ℕ) (past : List Moment) → SerialsCount past → Begins serial past ≡ true → orb_at (said (notes.Got serial) ∷ past) ≡ offset_in (access_at (terms past) serial)
  got_new serial past c e =
      ap (λ b. offset_in (access_at (terms (said (notes.Got serial) ∷ past)) (cond b serial (began_with start past)))) e
      ∙ ap (λ so. offset_in (access_in (packet_in so))) ((step (said (notes.Got serial)) past c).sent serial (begin_below serial past c e))

  -- ---- a packet is got
  module _ (serial : ℕ) (past : List Moment) (c : SerialsCount past) (known : IsKnown (orb_at past) (T past)) where
    abbrev wire : Terms
    wire = terms past

    abbrev at : ℕ
    at = orb_at (said (notes.Got serial) ∷ past)

    stays : Begins serial past ≡ false → IsKnown at (T past)
    stays e = subst (λ n. IsKnown n (T past)) (sym (got_same serial past c e)) known

    rests : Begins serial past ≡ false → IsKnown at (over (T past))
    rests e = over_known at (T past) (stays e)

    answers_none : (for : Purpose) (answer : Answer) → begins_with (answer_to for answer) (T past) ≡ false
    answers_none for_manager answer = refl
    answers_none (for_agent place which) answer = refl
    answers_none for_nobody answer = refl

    abbrev source : ℕ
    source = id_for wire 0 (source_node (sender_in (wire.sent serial)))

    module _ (here : is_serial (receiver_in (wire.sent serial)) 0 ≡ true) where
      begins_by : (own : Option ℕ) → answered_at wire serial ≡ own → Begins serial past ≡ begins_with (got_call own (T past) wire serial) (T past)
      begins_by own e =
          ap (λ b. begins_with (cond b (got_call (answered_at wire serial) (T past) wire serial) no_call) (T past)) here
          ∙ ap (λ o. begins_with (got_call o (T past) wire serial) (T past)) e

      module _ (none : answered_at wire serial ≡ None) (access : Access) (e : access_at wire serial ≡ Some access) where
        begins_at : (first : Start) → start_at access.offset ≡ first → Begins serial past ≡ begins_with (start_of first source access) (T past)
        begins_at first f =
            begins_by None none ∙ ap (λ x. begins_with (start_in x source) (T past)) e ∙ ap (λ s. begins_with (start_of s source access) (T past)) f

        -- an operation begins, where none is under way
        abbrev Started : Option Operation → (from : ℕ) → Office
        Started operation from = started_by (start_with operation (T past).manager from (offset_at access.payload 0)) (at_rest (office_of (T past)))

        managed_by : (from : ℕ) → (operation : Option Operation) → (T past).manager.operation ≡ operation
            → Begins serial past ≡ not (is_none (started (start_with (T past).manager.operation (T past).manager source (offset_at access.payload 0)))) → Of at (Started operation from)
        managed_by from None f b =
            (got_new serial past c (b ∙ ap (λ o. not (is_none (started (start_with o (T past).manager source (offset_at access.payload 0))))) f) ∙ ap offset_in e, tt)
        managed_by from (Some own) f b = stays (b ∙ ap (λ o. not (is_none (started (start_with o (T past).manager source (offset_at access.payload 0))))) f)

        manages : (from : ℕ) → start_at access.offset ≡ management_agent → start_serves management_agent access ≡ true → Of at (served_office true management_agent from access (office_of (over (T past))))
        unfolding start_step
        manages from f g =
            subst (λ (o : Office). Of at (served_office true management_agent from access o)) (sym (over_keeps (T past)))
            (subst (λ o. Of at (Started o from)) refl
            (managed_by from (T past).manager.operation refl (begins_at management_agent f ∙ ap (λ b. begins_with (cond b (starts source (offset_at access.payload 0)) no_call) (T past)) g)))

        served : (first : Start) → start_at access.offset ≡ first → (b : Bool) → start_serves first access ≡ b → (from : ℕ) → Of at (served_office b first from access (office_of (over (T past))))
        served management_agent f true g from = manages from f g
        served management_agent f false g from = rests (begins_at management_agent f ∙ ap (λ b. begins_with (cond b (starts source (offset_at access.payload 0)) no_call) (T past)) g)
        served (register place name) f true g from = rests (begins_at (register place name) f)
        served (register place name) f false g from = rests (begins_at (register place name) f)
        served rom_start f true g from = rests (begins_at rom_start f)
        served rom_start f false g from = rests (begins_at rom_start f)
        served no_start f true g from = rests (begins_at no_start f)
        served no_start f false g from = rests (begins_at no_start f)

      by_access : answered_at wire serial ≡ None → (x : Option Access) → access_at wire serial ≡ x → (from : ℕ) → IsKnown at (request_got x from (over (T past)))
      by_access none None e from = rests (begins_by None none ∙ ap (λ x. begins_with (start_in x source) (T past)) e)
      by_access none (Some access) e from =
          by_office at (request_got (Some access) from (over (T past))) _ (request_keeps access from (over (T past)))
          (served none access e (start_at access.offset) refl (start_serves (start_at access.offset) access) refl from)

      by_answered : (own : Option ℕ) → answered_at wire serial ≡ own → IsKnown at (got_by own wire serial (over (T past)))
      by_answered None e = by_access e (access_at wire serial) refl _
      by_answered (Some own) e =
          let answer = answer_in (packet_at wire serial) in
          replied_known at own answer (over (T past)) (rests (begins_by (Some own) e ∙ answers_none (purpose_of (T past) own) answer))

    got_known : IsKnown at (cond (is_serial (receiver_in (wire.sent serial)) 0) (got_by (answered_at wire serial) wire serial (over (T past))) (over (T past)))
    got_known = by (is_serial (receiver_in (wire.sent serial)) 0) refl
      where
        by : (b : Bool) → is_serial (receiver_in (wire.sent serial)) 0 ≡ b → IsKnown at (cond b (got_by (answered_at wire serial) wire serial (over (T past))) (over (T past)))
        by true e = by_answered e (answered_at wire serial) refl
        by false e = rests (ap (λ b. begins_with (cond b (got_call (answered_at wire serial) (T past) wire serial) no_call) (T past)) e)

  -- ---- another note
  abbrev IsOther : Note → Type 0
  IsOther (notes.Got serial) = ⊥
  IsOther note = Unit {0}

  moves : (n : ℕ) (note : Note) (past : List Moment) (known : Terms) (t : Target) → IsOther note → IsKnown n t → IsKnown n (target_by note past known t)
  moves n (notes.Got serial) past known t o h = absurd o
  moves n (notes.Begin initiators ready) past known t o h = h
  moves n (notes.Sent serial generation from to bytes) past known t o h =
      let settled = taken_on None t.reply t in
      let there = by_office n settled (office_of t) (taken_keeps None t.reply t) h in
      if_known n (from == 0) (sent_as (part_of bytes) (is_write_access (access_in_bytes bytes)) serial settled) settled (part_known n (part_of bytes) (is_write_access (access_in_bytes bytes)) serial settled there) there
  moves n (notes.Ignored serial cause) past known t o h = over_known n t h
  moves n (notes.TimedOut serial) past known t o h =
      let there = over_known n t h in
      if_known n (is_serial (sender_in (known.sent serial)) 0) (replied serial Expired (over t)) (over t) (replied_known n serial Expired (over t) there) there
  moves n (notes.Seen node generation) past known t o h =
      let there = over_known n t h in
      let b = not (generation == known.generation 0) in if_known n (node == 0) (reset_seen b (over t)) (over t) (reset_known n b (over t) there) there
  moves n notes.Tick past known t o h = over_known n t h
  moves n (notes.Key unit) past known t o h = key_known n (event_of past) unit t h
  moves n note past known t o h = by_office n (target_by note past known t) _ (note_changes note past known t tt) (note_known n note (office_of t) h)

  pub operation_known : (past : List Moment) → SerialsCount past → IsKnown (orb_at past) (T past)
  operation_known [] c = tt
  operation_known (asked line event ∷ past) c =
      subst (λ n. IsKnown n (over (T past))) (sym (same_orb (asked line event) past c refl)) (over_known (orb_at past) (T past) (operation_known past c))
  operation_known (said (notes.Got serial) ∷ past) c =
      subst (λ w. IsKnown (orb_at (said (notes.Got serial) ∷ past)) (target_by (notes.Got serial) past w (T past))) (sym (wire_is start past)) (got_known serial past c (operation_known past c))
  operation_known (said note ∷ past) c =
      subst (λ n. IsKnown n (T (said note ∷ past))) (sym (same_orb (said note) past c refl))
      (moves (orb_at past) note past (known_at start past).wire (T past) tt (operation_known past (serials_behind (said note) past c)))
