-- In each turn of every run an end of an ORB whose status write finds no label has a death beside it: the write that the history names is the one that its agent asks for.
use Rattle.std.proofs.Common.{◌≡◌, ◌∙◌, refl, sym, ap, subst, ℕ, suc, ◌==◌, ◌&&◌, is_some, Bool, true, false, cond, List, [], ◌∷◌, Option, Some, None, Result, Ok, Err}
use Rattle.bus_memory.specs.Windows.{start as slot_start}
use Rattle.bus_transactions.specs.Packets.{SerialsCount}
use Rattle.bus_memory.specs.declared.window.Window.TheVariants as windows
use Rattle.label_table.specs.Bodies.{block_write}
use Rattle.orb_layout.specs.declared.ask.Ask.{Ask}
use Rattle.orb_layout.specs.declared.pointer.OrbPointer.{OrbPointer}
use Rattle.orb_layout.specs.declared.pointer.OrbPointer.TheVariants.{At, Null}
use Rattle.orb_layout.specs.declared.status.StatusKind.{StatusKind}
use Rattle.orb_layout.specs.Pointers.{pointer_at}
use Rattle.orb_layout.specs.Replies.{Answer, Expired, payload_of}
use Rattle.orb_layout.specs.StatusBlocks.{status_bytes}
use Rattle.rbc_disk.specs.Disk.{Disk}
use Rattle.rbc_disk.specs.Runs.{Told}
use Rattle.rbc_disk.specs.Units.{PlainDisk}
use Rattle.command_agent.specs.Machine.{Machine, is_ahead}
use Rattle.command_agent.specs.Steps.{ahead_step, asks, doorbell_step, point_step, quiet, reply_step, src_of}
use Rattle.command_agent.specs.declared.step.AgentStep.{AgentStep}
use Rattle.command_agent.specs.declared.step.PointRefusal.{PointRefusal}
use Rattle.command_agent.specs.declared.step.Which.{Which}
use Rattle.command_agent.specs.declared.step.Which.TheVariants.{Ahead, Main}
use Rattle.sbp_journal.specs.Addresses.{agent_reset, agent_state, doorbell, orb_pointer, unsolicited_enable}
use Rattle.sbp_journal.specs.Run.{Moment, asked, said}
use Rattle.sbp_journal.specs.Wire.{Terms, terms}
use Rattle.sbp_journal.specs.declared.note.Note.{Note}
use Rattle.sbp_journal.specs.declared.note.Note.TheVariants as notes
use Rattle.sbp_laws.specs.Agents.{AgentTurn, Event, agent_event, agent_turn, by_doorbell, by_pointer, event_by, fifo_in, got_in, nothing, replies, reply_to, target_before, told_among, untold_among, wire_after, wire_before, writes}
use Rattle.sbp_laws.specs.Deaths.{deaths_in}
use Rattle.sbp_laws.specs.Lists.{Orb, list_in, named, number_in, orb as named_orb, slot_at}
use Rattle.sbp_laws.specs.LoginLaw.{HasLogins}
use Rattle.sbp_laws.specs.Management.{answer_to, call_by, decided_in, got_call, manager_turn, no_call, operator_of}
use Rattle.sbp_laws.specs.NoteKinds.{is_end_note, of_kind}
use Rattle.sbp_laws.specs.Packets.{access_at, answer_in, answered_at, finds_label, packet_at, receiver_in, sender_in}
use Rattle.sbp_laws.specs.Progress.{Progress, gets, gets_by, progress}
use Rattle.sbp_laws.specs.SentWrites.{End, address_in, behind_turn, end_in, is_unsent, lacks_death, place_in, served, src_by, statuses_due, status_of}
use Rattle.sbp_laws.specs.Targets.{Agent, Purpose, Reply, Target, agent_at, for_agent, for_manager, for_nobody, got_by, initiator_at, is_nothing, is_serial, login_at, over, plain_for, purpose_of, replied, replied_to, target_at, target_by}
use Rattle.sbp_laws.specs.Turns.{EachTurn, EachTurnBefore, Turn}
use Rattle.sbp_world.specs.Histories.{history_of}
use Rattle.sbp_world.proofs.Agents.Management.Firsts.{wire_is}
use Rattle.sbp_world.proofs.Common.{none_is, same_number, untrue}
use Rattle.turn_laws.specs.Runs.{OfEveryRun, history_between}
use Rattle.turn_laws.specs.Silent.{EndsHeard, SilentLaw}
use Rattle.turn_laws.proofs.AgentDue.{HasTurn, TellsEnds, TellsFor, has_rest, has_steps}
use Rattle.turn_laws.proofs.DeathAnswers.{nothing_no, same_reply, write_no}
use Rattle.turn_laws.proofs.EachTurns.{joined_law}
use Rattle.turn_laws.proofs.Ends.{tells_law}
use Rattle.turn_laws.proofs.Handed.{AllInner}
use Rattle.turn_laws.proofs.LoginRuns.{login_run_law}
use Rattle.turn_laws.proofs.NextSteps.{main_tracked}
use Rattle.turn_laws.proofs.PresentOrbs.{AllCalm, calm_notes, stands_there}
use Rattle.turn_laws.proofs.Progresses.{whole_before}
use Rattle.turn_laws.proofs.SilentTurns.{IsStatusServed, end_by_ends, status_served}
use Rattle.turn_laws.proofs.StatusSteps.{EndsAs, IsEnd, reply_ends}
use Rattle.sbp_world.proofs.Agents.Management.Still.{hist}
use Rattle.sbp_world.proofs.Lists.MainAnswers.{main_of}
use Rattle.sbp_world.proofs.Lists.OrbSteps.{holds_read}
use Rattle.sbp_world.proofs.Wire.Starts.{laws_of}
use Rattle.turn_laws.proofs.EveryPlace.{of_every_place}
use Rattle.turn_laws.proofs.FetchSteps.{ahead_leaves}
use Rattle.turn_laws.proofs.Fetches.{unread_before}
use Rattle.turn_laws.proofs.LaterNotes.{one_count}
use Rattle.sbp_world.proofs.Lists.EndReads.{ahead_none as read_none, none_if}

-- ---- the notes of a turn begin none
inner_from : (past : List Moment) (rest : List Note) → AllInner rest → EachTurnBefore (λ t. AllInner t.rest) past rest
inner_from [] rest h = tt
inner_from (asked line event ∷ past) rest h = (h, inner_from past [] tt)
inner_from (said (notes.Got serial) ∷ past) rest h = (h, inner_from past [] tt)
inner_from (said (notes.Ignored serial cause) ∷ past) rest h = (h, inner_from past [] tt)
inner_from (said (notes.TimedOut serial) ∷ past) rest h = (h, inner_from past [] tt)
inner_from (said (notes.Seen node generation) ∷ past) rest h = (h, inner_from past [] tt)
inner_from (said notes.Tick ∷ past) rest h = (h, inner_from past [] tt)
inner_from (said notes.Settled ∷ past) rest h = (h, inner_from past [] tt)
inner_from (said notes.Stopped ∷ past) rest h = (h, inner_from past [] tt)
inner_from (said note ∷ past) rest h = inner_from past (note ∷ rest) (tt, h)

abbrev pub IsWithin : List Disk → Turn → Type 0
IsWithin start t = AllInner t.rest

pub inner_law : OfEveryRun (λ start past. EachTurn (IsWithin start) past)
inner_law = record {
  after_lines = λ line run is some most size. inner_from (history_of line run) [] tt;
  between = λ line run is some most size next deliveries told may. inner_from (history_between line run next deliveries told) [] tt;
}

-- before each turn serials count
counts_from : (past : List Moment) (rest : List Note) → SerialsCount past → EachTurnBefore (λ t. SerialsCount t.past) past rest
counts_from [] rest h = tt
counts_from (asked line event ∷ past) rest h = (h, counts_from past [] h)
counts_from (said (notes.Got serial) ∷ past) rest h = (h, counts_from past [] h)
counts_from (said (notes.Ignored serial cause) ∷ past) rest h = (h, counts_from past [] h)
counts_from (said (notes.TimedOut serial) ∷ past) rest h = (h, counts_from past [] h)
counts_from (said (notes.Seen node generation) ∷ past) rest h = (h, counts_from past [] h)
counts_from (said notes.Tick ∷ past) rest h = (h, counts_from past [] h)
counts_from (said notes.Settled ∷ past) rest h = (h, counts_from past [] h)
counts_from (said notes.Stopped ∷ past) rest h = (h, counts_from past [] h)
counts_from (said note ∷ past) rest h = counts_from past (note ∷ rest) (one_count note past h)

abbrev IsCounted : List Disk → Turn → Type 0
IsCounted start t = SerialsCount t.past

counted_law : OfEveryRun (λ start past. EachTurn (IsCounted start) past)
counted_law =
    of_every_place (λ start past. EachTurn (IsCounted start) past) (λ units ready start has past s here. counts_from (hist past s.world) [] (laws_of past s.world here.holds.sound.stands).serials)

-- ---- a turn that replies to an agent
module _ (start : List Disk) (past : List Moment) (reply : Reply) where
  abbrev T : Target
  T = over (target_at start past)

  abbrev wire : Terms
  wire = terms past

  -- a main transaction was under way
  abbrev IsMain : Type 0
  IsMain = reply.which ≡ Main → is_some (agent_at T reply.place).main ≡ true

  -- it takes the agent on, and is none of the management
  record IsReplied (moment : Moment) : Type 0 where
    waits : target_at start (moment ∷ past) ≡ record T { reply = Some reply }
    call : call_by moment T wire ≡ no_call
    goes : progress start (moment ∷ past) reply.place ≡ gets (replies reply) reply.place (agent_at T reply.place) (progress start past reply.place)
    main : IsMain

  main_there : (own place : ℕ) (which : Which) (answer : Answer) → purpose_of T own ≡ for_agent place which → record { place = place; which = which; answer = answer } ≡ reply → IsMain
  main_there own place which answer p same m =
      let purpose : purpose_of T own ≡ for_agent reply.place Main =
      p ∙ (ap (λ (r : Reply). for_agent r.place r.which) same ∙ ap (for_agent reply.place) m) in
      ap (λ (x : Option ℕ). is_some x) (main_of T reply.place own purpose)

  to_purpose : (own : ℕ) (purpose : Purpose) (answer : Answer) → purpose_of T own ≡ purpose → reply_to purpose answer ≡ replies reply
      → (replied_to purpose answer T ≡ record T { reply = Some reply }) × ((answer_to purpose answer ≡ no_call) × IsMain)
  to_purpose own (for_agent place which) answer p e =
      let same = same_reply (record { place = place; which = which; answer = answer }) reply e in (ap (λ (r : Reply). record T { reply = Some r }) same, (refl, main_there own place which answer p same))
  to_purpose own for_manager answer p e = absurd (nothing_no reply e)
  to_purpose own for_nobody answer p e = absurd (nothing_no reply e)

  got_replies : (serial : ℕ) (b : Bool) (own : Option ℕ) → cond b (got_in own T wire serial) nothing ≡ replies reply
      → (cond b (got_by own wire serial T) T ≡ record T { reply = Some reply }) × ((cond b (got_call own T wire serial) no_call ≡ no_call) × IsMain)
  got_replies serial true (Some own) e = to_purpose own (purpose_of T own) (answer_in (packet_at wire serial)) refl e
  got_replies serial true None e = absurd (write_no (access_at wire serial) reply e)
  got_replies serial false own e = absurd (nothing_no reply e)

  late_replies : (serial : ℕ) (b : Bool) → cond b (reply_to (purpose_of T serial) Expired) nothing ≡ replies reply
      → (cond b (replied serial Expired T) T ≡ record T { reply = Some reply }) × ((cond b (answer_to (purpose_of T serial) Expired) no_call ≡ no_call) × IsMain)
  late_replies serial true e = to_purpose serial (purpose_of T serial) Expired refl e
  late_replies serial false e = absurd (nothing_no reply e)

  replies_so : (moment : Moment) → event_by moment T wire ≡ replies reply → IsReplied moment
  replies_so (said (notes.Got serial)) e =
      let g = got_replies serial (is_serial (receiver_in (wire.sent serial)) 0) (answered_at wire serial) e in
      record {
        waits = ap (λ (w : Terms). target_by (notes.Got serial) past w (target_at start past)) (wire_is start past) ∙ g.0;
        call = g.1.0;
        main = g.1.1;
        goes = ap (λ (ev : Event). gets ev reply.place (agent_at T reply.place) (progress start past reply.place)) e;
      }
  replies_so (said (notes.TimedOut serial)) e =
      let g = late_replies serial (is_serial (sender_in (wire.sent serial)) 0) e in
      record {
        waits = ap (λ (w : Terms). target_by (notes.TimedOut serial) past w (target_at start past)) (wire_is start past) ∙ g.0;
        call = g.1.0;
        main = g.1.1;
        goes = ap (λ (ev : Event). gets ev reply.place (agent_at T reply.place) (progress start past reply.place)) e;
      }
  replies_so moment e = absurd (nothing_no reply e)

-- ---- the next pointer that counts
ahead_none : (m : Machine) (place : ℕ) (plain : PlainDisk) (told : Option Told) (answer : Answer) → (reply_step m place plain told Ahead answer).0.ended ≡ None
unfolding reply_step
ahead_none m place plain told answer = none_if (is_ahead m.ahead) (ahead_step m answer) (quiet, m) (read_none m (payload_of answer 32)) refl

pub src_same : (next : OrbPointer) → src_by next ≡ src_of next
src_same Null = refl
src_same (At address) = refl

module _ (start : List Disk) (past : List Moment) (q : ℕ) where
  abbrev here : Agent
  here = agent_at (over (target_at start past)) q

  -- of a reply to the main transaction what it sends has the next pointer that was got last, where it ends the ORB, and while the ORB is read
  pub record SrcIs (which : Which) (answer : Answer) (s : AgentStep × Machine) : Type 0 where
    pub ended : is_some s.0.ended ≡ true → (gets_by which here answer (progress start past q)).next ≡ s.1.orb.next
    pub held : is_nothing s.0.ask ≡ false → holds_read s.1.phase ≡ true → (gets_by which here answer (progress start past q)).next ≡ s.1.orb.next

  next_is : SerialsCount past → (which : Which) → (which ≡ Main → is_some here.main ≡ true) → (answer : Answer) (plain : PlainDisk) (told : Option Told) → SrcIs which answer (reply_step here.machine q plain told which answer)
  next_is count Main main answer plain told =
      let t = main_tracked (progress start past q) here.machine q plain told answer (whole_before start past q).tracked in
      record { ended = t.ended (unread_before start past count q (main refl)); held = λ e. t.tracked.main }
  next_is count Ahead main answer plain told = record {
    ended = λ e. untrue (sym (ap (λ (x : Option StatusKind). is_some x) (ahead_none here.machine q plain told answer)) ∙ e);
    held = λ e. untrue (sym e ∙ ap (λ (step : AgentStep). is_nothing step.ask) (ahead_leaves here.machine q plain told answer).quiet_is);
  }

-- ---- an end is heard where the turn tells a death, or a label serves its status
module _ (start : List Disk) (t : Turn) where
  with_death : (x : Bool) → (deaths_in t == 0) ≡ false → (x && (deaths_in t == 0)) ≡ false
  with_death true e = e
  with_death false e = refl

  by_deaths : (end : End) (b : Bool) → (deaths_in t == 0) ≡ b → (b ≡ true → is_unsent (statuses_due start t (Some end)) ≡ false) → lacks_death start t (Some end) ≡ false
  by_deaths end true e h = ap (λ x. x && (deaths_in t == 0)) (h refl)
  by_deaths end false e h = with_death (is_unsent (statuses_due start t (Some end))) e

  none_heard : of_kind is_end_note t.rest ≡ [] → EndsHeard start t
  none_heard e = ap (lacks_death start t) (end_by_ends t.rest ∙ ap end_in e)

-- ---- its status
module _ (start : List Disk) (t : Turn) (calm : AllInner t.rest) (logins : HasLogins start t) (count : SerialsCount t.past) (reply : Reply) (event_is : agent_event start t ≡ replies reply) where
  abbrev B : Target
  B = target_before start t

  abbrev i : ℕ
  i = initiator_at B (wire_before t) reply.place

  abbrev plain : PlainDisk
  plain = plain_for B reply

  abbrev told : Option Told
  told = told_among i t.rest plain

  abbrev s : AgentStep × Machine
  s = reply_step (agent_at B reply.place).machine reply.place plain told reply.which reply.answer

  abbrev a : AgentTurn
  a = record { place = reply.place; untold = untold_among i t.rest plain (agent_at B reply.place).untold; which = reply.which; step = s.0; machine = s.1 }

  replied_here : IsReplied start t.past reply t.start
  replied_here = replies_so start t.past reply t.start event_is

  all_calm : AllCalm t.rest
  all_calm = calm_notes t.rest calm (logins.decisions ∙ ap (λ c. decided_in (operator_of B t) (manager_turn c B)) replied_here.call)

  src_here : SrcIs start t.past reply.place reply.which reply.answer s
  src_here = next_is start t.past reply.place count reply.which replied_here.main reply.answer plain told

  progress_is : (progress start (t.start ∷ t.past) reply.place).next ≡ (gets_by reply.which (agent_at B reply.place) reply.answer (progress start t.past reply.place)).next
  progress_is =
      let was = progress start t.past reply.place in
      let got = gets_by reply.which (agent_at B reply.place) reply.answer was in
      ap (λ (p : Progress). p.next) (replied_here.goes ∙ ap (λ b. cond b got was) (same_number reply.place))

  pub next_ended : is_some s.0.ended ≡ true → (progress start (t.start ∷ t.past) reply.place).next ≡ s.1.orb.next
  next_ended e = progress_is ∙ src_here.ended e

  pub next_held : is_nothing s.0.ask ≡ false → holds_read s.1.phase ≡ true → (progress start (t.start ∷ t.past) reply.place).next ≡ s.1.orb.next
  next_held e f = progress_is ∙ src_here.held e f

  abbrev pub read_from : ℕ
  read_from = (agent_at (target_at start (behind_turn t)) reply.place).machine.present

  pub read_here : is_some (end_in t.rest) ≡ true → read_from ≡ s.1.present
  read_here tells = stands_there start t.past t.start t.rest reply B replied_here.waits all_calm tells plain told

  module _ (end : End) (tells : end_in t.rest ≡ Some end) (status : IsStatusServed B t a end) where
    next : (progress start (t.start ∷ t.past) reply.place).next ≡ s.1.orb.next
    next = next_ended (ap (λ (x : Option StatusKind). is_some x) status.ended)

    read_is : read_from ≡ s.1.present
    read_is = read_here (ap (λ (x : Option End). is_some x) tells)

    -- where an ORB with a name stands in the slot of that
    abbrev InSlot : Type 0
    InSlot = (list number : ℕ) → named t.past i s.1.present ≡ Some (named_orb list number) → slot_start (windows.Orb (slot_at t.past i list number)) ≡ s.1.present

    module _ (stands : InSlot) where
      address : (one : Option Orb) → named t.past i s.1.present ≡ one → address_in t.past read_from i (list_in one) (number_in one) ≡ s.1.present
      address None e = read_is
      address (Some one) e = stands one.list one.number e

      abbrev orb_at : ℕ
      orb_at = address_in t.past read_from end.initiator end.list end.number

      orb_is : orb_at ≡ s.1.present
      orb_is =
          ap (λ j. address_in t.past read_from j end.list end.number) status.initiator
          ∙ (ap (λ l. address_in t.past read_from i l end.number) status.list
          ∙ (ap (λ n. address_in t.past read_from i (list_in (named t.past i s.1.present)) n) status.number
          ∙ address (named t.past i s.1.present) refl))

      as_end : IsEnd end.kind s.0 s.1
      as_end = subst (λ x. EndsAs x s.0 s.1) status.ended (reply_ends (agent_at B reply.place).machine reply.place plain told reply.which reply.answer)

      bytes_are : (status_of start t reply.place end).payload ≡ s.1.outgoing
      bytes_are =
          ap (λ n. status_bytes (record { src = n; kind = end.kind; orb = orb_at })) (ap src_by next ∙ src_same s.1.orb.next)
          ∙ (ap (λ n. status_bytes (record { src = src_of s.1.orb.next; kind = end.kind; orb = n })) orb_is ∙ sym as_end.bytes)

      finds : finds_label (wire_after t) 0 (suc end.initiator) (block_write (fifo_in (login_at B reply.place)) (status_of start t reply.place end).payload) ≡ true
      finds =
          let fifo = fifo_in (login_at B reply.place) in
          ap (λ j. finds_label (wire_after t) 0 (suc j) (block_write fifo (status_of start t reply.place end).payload)) status.initiator
          ∙ (ap (λ bytes. finds_label (wire_after t) 0 (suc i) (block_write fifo bytes)) bytes_are ∙ status.finds)

      heard : is_unsent (statuses_due start t (Some end)) ≡ false
      heard =
          ap (λ (e : Event). is_unsent (served t (status_of start t (place_in e) end))) event_is
          ∙ ap (λ b. is_unsent (cond b (status_of start t reply.place end ∷ []) [])) finds

  ends_by : HasTurn start B t a → (x : Option End) → end_in t.rest ≡ x → lacks_death start t x ≡ false
  ends_by h None e = refl
  ends_by (has_steps step m login layer h) (Some end) e =
      by_deaths start t end (deaths_in t == 0) refl
      (λ none.
      let as_end = reply_ends (agent_at B reply.place).machine reply.place plain told reply.which reply.answer in
      heard end e (status_served start B t a step m login layer h as_end end e none) (λ list number. h.stands s.1.present list number))
  ends_by (has_rest still none alone) (Some end) e = none_is end (sym (end_by_ends t.rest ∙ ap end_in none) ∙ e)

  pub reply_heard : HasTurn start B t a → EndsHeard start t
  reply_heard h = ends_by h (end_in t.rest) refl

-- ---- a turn that asks an agent ends none
module _ (start : List Disk) (T : Target) (t : Turn) where
  asks_heard : (a : AgentTurn) → a.step.ended ≡ None → HasTurn start T t a → EndsHeard start t
  asks_heard a e (has_rest still none alone) = none_heard start t none
  asks_heard a e (has_steps step m login layer h) = by_end (end_in t.rest) refl
    where
      as_end : EndsAs a.step.ended a.step a.machine
      as_end = subst (λ x. EndsAs x a.step a.machine) (sym e) tt

      by_end : (x : Option End) → end_in t.rest ≡ x → lacks_death start t x ≡ false
      by_end None f = refl
      by_end (Some end) f = by_deaths start t end (deaths_in t == 0) refl (λ g. none_is end.kind (sym e ∙ (status_served start T t a step m login layer h as_end end f g).ended))

  pointer_heard : (q : ℕ) (r : Result Ask PointRefusal × Machine) → TellsFor start T t (by_pointer q (agent_at T q) r) → EndsHeard start t
  pointer_heard q (Err refusal, n) h = none_heard start t h
  pointer_heard q (Ok ask, n) h = asks_heard (record { place = q; untold = (agent_at T q).untold; which = Main; step = asks ask; machine = n }) refl h

  ring_heard : (q : ℕ) (r : Ask × Machine) → TellsFor start T t (by_doorbell q (agent_at T q) r) → EndsHeard start t
  ring_heard q (ask, n) h = asks_heard (record { place = q; untold = (agent_at T q).untold; which = Main; step = asks ask; machine = n }) refl h

-- ---- at each event
event_heard : (start : List Disk) (t : Turn) → AllInner t.rest → HasLogins start t → SerialsCount t.past → (e : Event) → agent_event start t ≡ e
    → TellsFor start (target_before start t) t (agent_turn e (target_before start t) (wire_before t) t.rest) → EndsHeard start t
event_heard start t calm logins count nothing is h = none_heard start t h
event_heard start t calm logins count (replies reply) is h = reply_heard start t calm logins count reply is h
event_heard start t calm logins count (writes agent_state q given) is h = none_heard start t h
event_heard start t calm logins count (writes agent_reset q given) is h = none_heard start t h
event_heard start t calm logins count (writes unsolicited_enable q given) is h = none_heard start t h
event_heard start t calm logins count (writes orb_pointer q given) is h =
    let T = target_before start t in pointer_heard start T t q (point_step (agent_at T q).machine (pointer_at given.payload 0)) h
event_heard start t calm logins count (writes doorbell q given) is h =
    let T = target_before start t in ring_heard start T t q (doorbell_step (agent_at T q).machine) h

abbrev pub Calmly : List Disk → Turn → Type 0
Calmly start t = AllInner t.rest × (HasLogins start t × SerialsCount t.past)

pub calm_law : OfEveryRun (λ start past. EachTurn (Calmly start) past)
calm_law =
    joined_law IsWithin (λ start t. HasLogins start t × SerialsCount t.past) Calmly (λ start t calm known. (calm, known)) inner_law
    (joined_law HasLogins IsCounted (λ start t. HasLogins start t × SerialsCount t.past) (λ start t logins count. (logins, count)) login_run_law counted_law)

pub silent_law : SilentLaw
silent_law =
    joined_law Calmly TellsEnds EndsHeard
    (λ start t c h. event_heard start t c.0 c.1.0 c.1.1 (agent_event start t) refl h) calm_law tells_law
