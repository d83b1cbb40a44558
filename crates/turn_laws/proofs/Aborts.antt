-- In each turn of every run an ORB ends as aborted exactly where an abort of it stands before.
use Rattle.std.proofs.Common.{◌≡◌, ◌∙◌, ◌⊎◌, inl, inr, refl, sym, ap, subst, ℕ, suc, ◌<◌, ◌==◌, ◌&&◌, not, Bool, true, false, cond, List, [], ◌∷◌, ◌++◌, length, map, Option, Some, None, Result, Ok, Err}
use Rattle.std.specs.List.{list_any}
use Rattle.label_table.specs.Bodies.{Body}
use Rattle.login_table.specs.Sound.{IsTable}
use Rattle.orb_layout.specs.CommandOrbs.{command_orb}
use Rattle.orb_layout.specs.Pointers.{pointer_at}
use Rattle.orb_layout.specs.Replies.{Answer, Done, Expired, NoLabel, Payload, Refused, payload_of}
use Rattle.orb_layout.specs.declared.ask.Ask.{Ask}
use Rattle.orb_layout.specs.declared.ask.FailCause.{FailCause}
use Rattle.orb_layout.specs.declared.ask.FailCause.TheVariants as causes
use Rattle.orb_layout.specs.declared.status.StatusKind.{StatusKind}
use Rattle.orb_layout.specs.declared.status.StatusKind.TheVariants as kinds
use Rattle.rbc_disk.specs.Disk.{Disk}
use Rattle.rbc_disk.specs.Runs.{Told}
use Rattle.rbc_disk.specs.Units.{PlainDisk}
use Rattle.command_agent.specs.Machine.{Machine, awaits_run}
use Rattle.command_agent.specs.Steps.{asks, doorbell_step, point_step, reply_step}
use Rattle.command_agent.specs.declared.phase.Phase.{Phase}
use Rattle.command_agent.specs.declared.phase.Phase.TheVariants as phases
use Rattle.command_agent.specs.declared.step.AgentStep.{AgentStep}
use Rattle.command_agent.specs.declared.step.PointRefusal.{PointRefusal}
use Rattle.command_agent.specs.declared.step.Which.{Which}
use Rattle.command_agent.specs.declared.step.Which.TheVariants.{Ahead, Main}
use Rattle.agent_laws.specs.Along.Requests.{main_ask}
use Rattle.sbp_bus.specs.Packets.{end_note, judged_note}
use Rattle.sbp_initiator.specs.Receiving.{receive_step}
use Rattle.sbp_journal.specs.Addresses.{Access, agent_reset, agent_state, doorbell, orb_pointer, unsolicited_enable}
use Rattle.sbp_journal.specs.Outgoings.{empty_outbox}
use Rattle.sbp_journal.specs.Run.{Moment, asked, said}
use Rattle.sbp_journal.specs.Wire.{terms}
use Rattle.sbp_journal.specs.declared.cause.Judged.{Judged}
use Rattle.sbp_journal.specs.declared.cause.Judged.TheVariants as judgements
use Rattle.sbp_journal.specs.declared.event.Event.{Event}
use Rattle.sbp_journal.specs.declared.event.Event.TheVariants as events
use Rattle.sbp_journal.specs.declared.note.Note.{Note}
use Rattle.sbp_journal.specs.declared.note.Note.TheVariants as notes
use Rattle.sbp_journal.specs.declared.operation.FunctionWord.TheVariants as functions
use Rattle.sbp_laws.specs.Aborts.{AbortsStand, aborted_by, brings_format, is_abort, is_aborted, is_aborted_note, is_whole}
use Rattle.sbp_laws.specs.ActionLaw.{Ordered}
use Rattle.sbp_laws.specs.Agents.{AgentTurn, Event as AgentEvent, agent_event, agent_notes_for, agent_turn, body_of, by_doorbell, by_pointer, dead_note, ended_note, event_by, fifo_in, finds_first, list_taken, nothing, replies, target_before, told_among, untold_among, wire_after, wire_before, writes}
use Rattle.sbp_laws.specs.Deaths.{access_by, ends_by}
use Rattle.sbp_laws.specs.Lists.{Orb, list_in, named, number_in}
use Rattle.sbp_laws.specs.LoginLaw.{HasLogins}
use Rattle.sbp_laws.specs.NoteKinds.{is_end_note, of_kind}
use Rattle.sbp_laws.specs.Packets.{finds_label}
use Rattle.sbp_laws.specs.Targets.{Reply, for_agent, Target, agent_at, initiator_at, login_at, over, plain_for, target_at}
use Rattle.sbp_laws.specs.Turns.{EachTurn, Turn}
use Rattle.sbp_target.specs.Receiving.{received}
use Rattle.sbp_world.specs.Delivering.{whole_of}
use Rattle.sbp_world.specs.Histories.{history_of, moments_behind}
use Rattle.sbp_world.specs.Runs.{Entry, Run, after, beginning}
use Rattle.sbp_world.specs.Settling.{after_all}
use Rattle.sbp_world.specs.Worlds.{Scene, initiator_at as own_state, begun}
use Rattle.sbp_world.proofs.Agents.Management.Still.{hist}
use Rattle.sbp_world.proofs.Common.{and_first, same_number, untrue}
use Rattle.turn_laws.specs.Aborts.{AbortsLaw}
use Rattle.turn_laws.specs.Cleared.{ClearsWhereDue}
use Rattle.turn_laws.specs.Cuts.{CutsWhereDue}
use Rattle.turn_laws.specs.Ends.{EndsWhereDue}
use Rattle.turn_laws.specs.Runs.{OfEveryRun, history_between}
use Rattle.turn_laws.proofs.AbortHistory.{keeps_over, mark_is}
use Rattle.turn_laws.proofs.AbortRuns.{IsRooted, MarkedBefore, TurnFacts, each_marked}
use Rattle.turn_laws.proofs.AbortSteps.{ahead_not, ends_aborted, main_aborts, size_of, takes, and_true}
use Rattle.turn_laws.proofs.Calls.{Cases}
use Rattle.turn_laws.proofs.Cleared.{cleared_law}
use Rattle.turn_laws.proofs.Cuts.{cuts_law}
use Rattle.turn_laws.proofs.DeathAnswers.{asked_here, got_reply, late_reply, nothing_no}
use Rattle.turn_laws.proofs.DeathRows.{AnswersFairly}
use Rattle.turn_laws.proofs.DeathSteps.{FairFor}
use Rattle.turn_laws.proofs.FailingRows.{MayAnswer}
use Rattle.sbp_world.specs.Hosts.Runs.{more_deliveries}
use Rattle.sbp_world.proofs.Lists.OrbSteps.{yes}
use Rattle.turn_laws.proofs.Deaths.{answers_law}
use Rattle.turn_laws.proofs.DecisionRuns.{sound_table}
use Rattle.turn_laws.proofs.EachTurns.{joined_law}
use Rattle.turn_laws.proofs.EndTries.{brings, brought, brought_notes, brought_unsent, fails_in, found_by, notes_tried}
use Rattle.turn_laws.proofs.Ends.{ends_law}
use Rattle.turn_laws.proofs.LoginRuns.{login_run_law}
use Rattle.turn_laws.proofs.OrderRuns.{ordered_law}
use Rattle.turn_laws.proofs.Pass.{of_every_run}
use Rattle.turn_laws.proofs.Places.{Place}
use Rattle.turn_laws.proofs.Silent.{IsWithin, inner_law}
use Rattle.sbp_world.proofs.Wire.Kept.{and_false}

-- ---- ends as aborted among the notes
any_kept : (rest : List Note) → list_any is_aborted_note rest ≡ list_any is_aborted_note (of_kind is_end_note rest)
any_kept [] = refl
any_kept (notes.Ended i list number kinds.Aborted ∷ rest) = refl
any_kept (notes.Ended i list number kind ∷ rest) = any_kept rest
any_kept (notes.Dead i list cause ∷ rest) = any_kept rest
any_kept (note ∷ rest) = any_kept rest

one_kind : (i : ℕ) (list number : Option ℕ) (kind : StatusKind) (more : List Note) → list_any is_aborted_note more ≡ false
    → list_any is_aborted_note (notes.Ended i list number kind ∷ more) ≡ ends_aborted (Some kind)
one_kind i list number kinds.Aborted more e = refl
one_kind i list number kind more e = e

last_any : (i : ℕ) (list : Option ℕ) (dead : Option FailCause) → list_any is_aborted_note (dead_note i list dead) ≡ false
last_any i list None = refl
last_any i list (Some cause) = refl

ended_any : (i : ℕ) (list : Option ℕ) (one : Option Orb) (ended : Option StatusKind) (behind : Option FailCause)
    → list_any is_aborted_note (ended_note i one ended ++ dead_note i list behind) ≡ ends_aborted ended
ended_any i list one None behind = last_any i list behind
ended_any i list one (Some kind) behind = one_kind i (list_in one) (number_in one) kind (dead_note i list behind) (last_any i list behind)

brought_any : (i : ℕ) (list : Option ℕ) (one : Option Orb) (dead : Option FailCause) (ended : Option StatusKind) (behind : Option FailCause)
    → list_any is_aborted_note (brought_notes i list one (brings dead ended behind)) ≡ ends_aborted ended
brought_any i list one None ended behind = ended_any i list one ended behind
brought_any i list one (Some cause) ended behind = ended_any i list one ended behind

fails_not : (phase : Phase) → ends_aborted (fails_in phase) ≡ false
fails_not phases.Fetching = refl
fails_not phases.ReadingTable = refl
fails_not (phases.ReadingData wanted) = refl
fails_not phases.Answering = refl
fails_not phase = refl

unsent_any : (step : AgentStep) (phase : Phase) (ended : Option StatusKind) → ends_aborted (brought_unsent step phase ended).ended ≡ ends_aborted ended
unsent_any step phase (Some kind) = refl
unsent_any step phase None = fails_not phase

step_any : (b : Bool) (step : AgentStep) (phase : Phase) → ends_aborted (brought b step phase).ended ≡ ends_aborted step.ended
step_any true step phase = refl
step_any false step phase = unsent_any step phase step.ended

module _ (start : List Disk) (T : Target) (t : Turn) where
  agent_any : (a : AgentTurn) → list_any is_aborted_note (agent_notes_for start T t a) ≡ ends_aborted a.step.ended
  agent_any a =
      let i = initiator_at T (wire_before t) a.place in
      let list = list_taken start (t.start ∷ t.past) a.place in
      let one = named t.past i a.machine.present in
      let fifo = fifo_in (login_at T a.place) in
      let body : Option Body = body_of a.step.ask a.machine a.step.ended fifo in
      let b = brought (found_by (finds_first T t a) body) a.step a.machine.phase in
      ap (list_any is_aborted_note) (notes_tried (finds_first T t a) (finds_label (wire_after t) 0 (suc i)) fifo i list one a.step a.machine body)
      ∙ (brought_any i list one b.dead b.ended b.dead_behind ∙ step_any (found_by (finds_first T t a) body) a.step a.machine.phase)

  pointer_any : (q : ℕ) (r : Result Ask PointRefusal × Machine) → list_any is_aborted_note (ends_by start T t (by_pointer q (agent_at T q) r)) ≡ false
  pointer_any q (Err refusal, n) = refl
  pointer_any q (Ok ask, n) = agent_any (record { place = q; untold = (agent_at T q).untold; which = Main; step = asks ask; machine = n })

  ring_any : (q : ℕ) (r : Ask × Machine) → list_any is_aborted_note (ends_by start T t (by_doorbell q (agent_at T q) r)) ≡ false
  ring_any q (ask, n) = agent_any (record { place = q; untold = (agent_at T q).untold; which = Main; step = asks ask; machine = n })

-- ---- an abort stands before
stands_before : (start : List Disk) (past : List Moment) (q address : ℕ) → is_aborted start past q address ≡ true → list_any is_abort past ≡ true
stands_before start [] q address e = untrue e
stands_before start (asked line event ∷ past) q address e = stands_before start past q address (and_first (is_aborted start past q address) _ e)
stands_before start (said (notes.Managed i functions.Abort subject status login) ∷ past) q address e = refl
stands_before start (said note ∷ past) q address e = stands_before start past q address (and_first (is_aborted start past q address) _ e)

-- ---- what an answer brings whole
same_not : (x y : Bool) → not x ≡ not y → x ≡ y
same_not true true e = refl
same_not false false e = refl
same_not true false e = untrue e
same_not false true e = untrue (sym e)

not_not : (b : Bool) → b ≡ not (not b)
not_not true = refl
not_not false = refl

whole_takes : (phase : Phase) (bytes : List ℕ) (brings_it : Bool) (size count : ℕ) → takes phase (Ok bytes) ≡ not brings_it → takes phase (Err causes.Grammar) ≡ false
    → not (length bytes == count) ≡ not (length bytes == size) → takes phase (payload_of (Payload bytes) size) ≡ ((length bytes == count) && not brings_it)
whole_takes phase bytes brings_it size count e f g = by (length bytes == size) refl
  where
    by : (b : Bool) → (length bytes == size) ≡ b → takes phase (cond b (Ok bytes) (Err causes.Grammar)) ≡ ((length bytes == count) && not brings_it)
    by true h = e ∙ ap (λ b. b && not brings_it) (sym (same_not (length bytes == count) (length bytes == size) g ∙ h))
    by false h = f ∙ ap (λ b. b && not brings_it) (sym (same_not (length bytes == count) (length bytes == size) g ∙ h))

-- of what was asked for
abbrev HasAccess : Answer → Option Access → Type 0
HasAccess (Payload bytes) None = ⊥
HasAccess answer access = Unit {0}

whole_reads : (phase : Phase) (size : ℕ) (answer : Answer) (access : Option Access) → ((bytes : List ℕ) → takes phase (Ok bytes) ≡ not (brings_format phase (Payload bytes)))
    → ((cause : FailCause) → takes phase (Err cause) ≡ false)
    → MayAnswer (Some size) answer access → HasAccess answer access → takes phase (payload_of answer size) ≡ (is_whole answer access && not (brings_format phase answer))
whole_reads phase size (Payload bytes) (Some access) e f fair has = whole_takes phase bytes (brings_format phase (Payload bytes)) size access.count (e bytes) (f causes.Grammar) fair
whole_reads phase size (Payload bytes) None e f fair has = absurd has
whole_reads phase size Done access e f fair has = absurd fair
whole_reads phase size (Refused rcode) access e f fair has = f causes.Refused
whole_reads phase size Expired access e f fair has = f causes.Timeout
whole_reads phase size NoLabel access e f fair has = absurd fair

module _ (m : Machine) (answer : Answer) (access : Option Access) where
  reading : (phase : Phase) → FairFor (main_ask phase m) answer access → HasAccess answer access → awaits_run phase ≡ true
      → takes phase (payload_of answer (size_of phase m)) ≡ (is_whole answer access && not (brings_format phase answer))
  reading phases.Fetching fair has e = whole_reads phases.Fetching 32 answer access (λ bytes. not_not ((command_orb bytes).format == 0)) (λ cause. refl) fair has
  reading phases.ReadingTable fair has e = whole_reads phases.ReadingTable (size_of phases.ReadingTable m) answer access (λ bytes. refl) (λ cause. refl) fair has
  reading (phases.ReadingData wanted) fair has e = whole_reads (phases.ReadingData wanted) (size_of (phases.ReadingData wanted) m) answer access (λ bytes. refl) (λ cause. refl) fair has
  reading phase fair has e = untrue e

  resting : (phase : Phase) (r : Result (List ℕ) FailCause) → awaits_run phase ≡ false → takes phase r ≡ false
  resting phases.Fetching r e = yes e
  resting phases.ReadingTable r e = yes e
  resting (phases.ReadingData wanted) r e = yes e
  resting phase r e = refl

all_so : (ab x y la d : Bool) → d ≡ ab → (d ≡ true → la ≡ true) → (ab && (x && y)) ≡ (la && (((true && x) && y) && d))
all_so true x y la d e f = and_true (x && y) ∙ (ap (λ z. (x && y) && z) (sym e) ∙ ap (λ z. z && ((x && y) && d)) (sym (f e)))
all_so false x y la d e f = sym (ap (λ z. la && ((x && y) && z)) e ∙ (ap (λ z. la && z) (and_false (x && y)) ∙ and_false la))

-- ---- at a turn
abbrev AccessAt : List Disk → List Moment → Moment → Type 0
AccessAt start past moment =
    (reply : Reply) →
    (let T = over (target_at start past) in event_by moment T (terms past) ≡ replies reply → reply.which ≡ Main → HasAccess reply.answer (access_by (terms past) (agent_at T reply.place).main))

pub record AbortFacts (start : List Disk) (t : Turn) : Type 0 where
  pub ends : EndsWhereDue start t
  pub fair : AnswersFairly start t
  pub access : AccessAt start t.past t.start
  pub marked : MarkedBefore start t

module _ (start : List Disk) (t : Turn) (f : AbortFacts start t) where
  abbrev B : Target
  B = target_before start t

  module _ (q : ℕ) (answer : Answer) (is : agent_event start t ≡ replies (record { place = q; which = Main; answer = answer })) where
    abbrev m : Machine
    m = (agent_at B q).machine

    abbrev access : Option Access
    access = access_by (wire_before t) (agent_at B q).main

    abbrev D : Bool
    D = is_aborted start t.past q m.present

    abbrev la : Bool
    la = list_any is_abort t.past

    abbrev Due : Bool
    Due = la && ((((true && awaits_run m.phase) && is_whole answer access) && not (brings_format m.phase answer)) && D)

    mark : awaits_run m.phase ≡ true → D ≡ m.aborted
    mark e =
        mark_is D (agent_at (target_at start t.past) q) (agent_at B q) m.present (f.marked q m.present) ((keeps_over (target_at start t.past)).agents q)
        (ap (λ b. b && awaits_run m.phase) (same_number m.present) ∙ e)

    main_due : (plain : PlainDisk) (told : Option Told) → ends_aborted (reply_step m q plain told Main answer).0.ended ≡ Due
    main_due plain told = main_aborts m q plain told answer ∙ by (awaits_run m.phase) refl
      where
        reply : Reply
        reply = record { place = q; which = Main; answer = answer }

        by : (b : Bool) → awaits_run m.phase ≡ b → (m.aborted && takes m.phase (payload_of answer (size_of m.phase m))) ≡ Due
        by true e =
            ap (λ x. m.aborted && x)
            (reading m answer access m.phase (f.fair (record { place = q; which = Main; answer = answer }) is refl) (f.access (record { place = q; which = Main; answer = answer }) is refl) e)
            ∙ (all_so m.aborted (is_whole answer access) (not (brings_format m.phase answer)) la D (mark e) (λ g. stands_before start t.past q m.present g)
            ∙ ap (λ w. la && ((((true && w) && is_whole answer access) && not (brings_format m.phase answer)) && D)) (sym e))
        by false e =
            ap (λ x. m.aborted && x) (resting m answer access m.phase (payload_of answer (size_of m.phase m)) e)
            ∙ (and_false m.aborted ∙ sym (ap (λ w. la && ((((true && w) && is_whole answer access) && not (brings_format m.phase answer)) && D)) e ∙ and_false la))

  reply_due : (q : ℕ) (which : Which) (answer : Answer) → agent_event start t ≡ replies (record { place = q; which = which; answer = answer }) → (plain : PlainDisk) (told : Option Told)
      → ends_aborted (reply_step (agent_at B q).machine q plain told which answer).0.ended ≡ aborted_by start t (replies (record { place = q; which = which; answer = answer }))
  reply_due q Main answer is plain told = main_due q answer is plain told
  reply_due q Ahead answer is plain told = ahead_not (agent_at B q).machine q plain told answer ∙ sym (and_false (list_any is_abort t.past))

  event_due : (e : AgentEvent) → agent_event start t ≡ e → list_any is_aborted_note (ends_by start B t (agent_turn e B (wire_before t) t.rest)) ≡ aborted_by start t e
  event_due nothing is = refl
  event_due (replies reply) is =
      let i = initiator_at B (wire_before t) reply.place in
      let plain = plain_for B reply in
      let told = told_among i t.rest plain in
      let s = reply_step (agent_at B reply.place).machine reply.place plain told reply.which reply.answer in
      agent_any start B t (record { place = reply.place; untold = untold_among i t.rest plain (agent_at B reply.place).untold; which = reply.which; step = s.0; machine = s.1 })
      ∙ reply_due reply.place reply.which reply.answer is plain told
  event_due (writes agent_state q given) is = refl
  event_due (writes agent_reset q given) is = refl
  event_due (writes unsolicited_enable q given) is = refl
  event_due (writes orb_pointer q given) is = pointer_any start B t q (point_step (agent_at B q).machine (pointer_at given.payload 0))
  event_due (writes doorbell q given) is = ring_any start B t q (doorbell_step (agent_at B q).machine)

  aborts_stand : AbortsStand start t
  aborts_stand = any_kept t.rest ∙ (ap (list_any is_aborted_note) f.ends ∙ event_due (agent_event start t) refl)

-- ---- of every run: the tables, and what is asked for
abbrev TableAt : List Disk → Turn → Type 0
TableAt start t = (IsTable (target_before start t).table ⊎ ((line : ℕ) × ((event : Event) × (t.start ≡ asked line event)))) × AccessAt start t.past t.start

module _ (units ready : ℕ) (has : 0 < units) (start : List Disk) (past : List Moment) (s : Scene) (here : Place units ready start past s) where
  abbrev ms : List Moment
  ms = hist past s.world

  access_there : (answer : Answer) (serial : ℕ) (asked_so : Access) → access_by (terms ms) (Some serial) ≡ Some asked_so → HasAccess answer (access_by (terms ms) (Some serial))
  access_there (Payload bytes) serial asked_so e = subst (HasAccess (Payload bytes)) (sym e) tt
  access_there Done serial asked_so e = tt
  access_there (Refused rcode) serial asked_so e = tt
  access_there Expired serial asked_so e = tt
  access_there NoLabel serial asked_so e = tt

  got_access : (serial : ℕ) → AccessAt start ms (said (notes.Got serial))
  got_access serial reply e main =
      let T = over (target_at start ms) in
      let g = got_reply T (terms ms) serial reply e in
      let a = asked_here units ready has start past s here in
      let waits = a.handed g.own reply.place Main (g.of.purpose ∙ ap (λ w. for_agent reply.place w) main) in
      let was = (a.all reply.place waits.0).main g.own waits.1 in
      subst (λ x. HasAccess reply.answer (access_by (terms ms) x)) (sym waits.1) (access_there reply.answer g.own was.access was.is)

  judged_access : (serial : ℕ) (judged : Judged) → AccessAt start ms (said (judged_note serial judged))
  judged_access serial judgements.Got = got_access serial
  judged_access serial (judgements.Ignored cause) = λ reply e main. absurd (nothing_no reply e)

  late_access : (serial : ℕ) → AccessAt start ms (said (notes.TimedOut serial))
  late_access serial reply e main =
      subst (λ x. HasAccess x (access_by (terms ms) (agent_at (over (target_at start ms)) reply.place).main)) (late_reply (over (target_at start ms)) (terms ms) serial reply e) tt

end_access : (start : List Disk) (past : List Moment) (done : Bool) → AccessAt start past (said (end_note done))
end_access start past true = λ reply e main. absurd (nothing_no reply e)
end_access start past false = λ reply e main. absurd (nothing_no reply e)

module _ (units ready : ℕ) (has : 0 < units) (start : List Disk) where
  table_cases : Cases units ready start (TableAt start)
  table_cases = record {
    heard = λ past s serial again run one found zero_to may told here behind j.
        (inl (sound_table units ready has start past s here), judged_access units ready has start past s here serial (received run one.generation one.bytes (whole_of s.world.target s.media)).0);
    heard_own = λ past s serial again one i found to_is inside told here behind j.
        (inl (sound_table units ready has start past s here), judged_access units ready has start past s here serial (receive_step one.generation one.bytes empty_outbox (own_state s.world i)).0);
    late = λ past s serial request done t found node_is e told here behind j. (inl (sound_table units ready has start past s here), late_access units ready has start past s here serial);
    late_own =
        λ past s serial request i outbox state found node_is inside e told here behind j. (inl (sound_table units ready has start past s here), late_access units ready has start past s here serial);
    sees = λ past s told here behind j. (inl (sound_table units ready has start past s here), λ reply e main. absurd (nothing_no reply e));
    sees_own = λ past s i inside told here behind j. (inl (sound_table units ready has start past s here), λ reply e main. absurd (nothing_no reply e));
    ticks = λ past s told here behind j. (inl (sound_table units ready has start past s here), λ reply e main. absurd (nothing_no reply e));
    ends = λ past s done here behind. (inl (sound_table units ready has start past s here), end_access start (hist past s.world) done);
    acts = λ past s line i action outbox state inside e told here behind. (inl (sound_table units ready has start past s here), λ reply g main. absurd (nothing_no reply g));
    lines = λ past s line event rest behind brings fresh here there. (inl (sound_table units ready has start past s here), λ reply e main. absurd (nothing_no reply e));
    begins = λ line initiators is_ready. (inr (line, (events.Begin initiators is_ready, refl)), λ reply e main. absurd (nothing_no reply e));
  }

table_law : OfEveryRun (λ start past. EachTurn (TableAt start) past)
table_law = of_every_run TableAt (λ units ready start has. table_cases units ready has start)

-- ---- the marks of every run
abbrev Clearings : List Disk → Turn → Type 0
Clearings start t = CutsWhereDue start t × ClearsWhereDue start t

abbrev Orderly : List Disk → Turn → Type 0
Orderly start t = Ordered t × HasLogins start t

abbrev Tabled : List Disk → Turn → Type 0
Tabled start t = IsWithin start t × TableAt start t

clearings_law : OfEveryRun (λ start past. EachTurn (Clearings start) past)
clearings_law = joined_law CutsWhereDue ClearsWhereDue Clearings (λ start t x y. (x, y)) cuts_law cleared_law

orderly_law : OfEveryRun (λ start past. EachTurn (Orderly start) past)
orderly_law = joined_law (λ start. Ordered) HasLogins Orderly (λ start t x y. (x, y)) ordered_law login_run_law

tabled_law : OfEveryRun (λ start past. EachTurn (Tabled start) past)
tabled_law = joined_law IsWithin TableAt Tabled (λ start t x y. (x, y)) inner_law table_law

abbrev Decided : List Disk → Turn → Type 0
Decided start t = Clearings start t × Orderly start t

decided_law : OfEveryRun (λ start past. EachTurn (Decided start) past)
decided_law = joined_law Clearings Orderly Decided (λ start t x y. (x, y)) clearings_law orderly_law

pub facts_law : OfEveryRun (λ start past. EachTurn (TurnFacts start) past)
facts_law = joined_law Decided Tabled TurnFacts (λ start t x y. record { inner = y.0; logins = x.1.1; cuts = x.0.0; cleared = x.0.1; ordered = x.1.0; table = y.1.0 }) decided_law tabled_law

said_rooted : (ns : List Note) (line : ℕ) (event : Event) (past : List Moment) → IsRooted (asked line event ∷ past) → IsRooted (map said ns ++ asked line event ∷ past)
said_rooted [] line event past h = h
said_rooted (n ∷ ns) line event past h = said_rooted ns line event past h

asked_rooted : (line : ℕ) (event : Event) (past : List Moment) → IsRooted past → IsRooted (asked line event ∷ past)
asked_rooted line event [] h = absurd h
asked_rooted line event (moment ∷ past) h = h

behind_rooted : (line : ℕ) (run : Run) (entries : List Entry) → IsRooted (moments_behind line run entries)
behind_rooted line run [] = tt
behind_rooted line run (e ∷ before) = said_rooted e.notes e.line e.event (moments_behind line run before) (asked_rooted e.line e.event (moments_behind line run before) (behind_rooted line run before))

pub rooted_law : OfEveryRun (λ start past. IsRooted past)
rooted_law = record {
  after_lines = λ line run is some most size. behind_rooted line run run.entries;
  between = λ line run is some most size next deliveries told may.
      said_rooted (after_all told (begun (after (beginning run) run.entries))).world.fresh next (more_deliveries deliveries) (history_of line run) (asked_rooted next (more_deliveries deliveries) (history_of line run) (behind_rooted line run run.entries));
}

pub marks_law : OfEveryRun (λ start past. EachTurn (MarkedBefore start) past)
marks_law = record {
  after_lines = λ line run is some most size.
      each_marked run.start.disks (history_of line run) (rooted_law.after_lines line run is some most size) (facts_law.after_lines line run is some most size);
  between = λ line run is some most size next deliveries told may.
      each_marked run.start.disks (history_between line run next deliveries told) (rooted_law.between line run is some most size next deliveries told may) (facts_law.between line run is some most size next deliveries told may);
}

abbrev Answered : List Disk → Turn → Type 0
Answered start t = EndsWhereDue start t × AnswersFairly start t

answered_law : OfEveryRun (λ start past. EachTurn (Answered start) past)
answered_law = joined_law EndsWhereDue AnswersFairly Answered (λ start t x y. (x, y)) ends_law answers_law

abbrev MarkedAsAsked : List Disk → Turn → Type 0
MarkedAsAsked start t = MarkedBefore start t × TableAt start t

marked_law : OfEveryRun (λ start past. EachTurn (MarkedAsAsked start) past)
marked_law = joined_law MarkedBefore TableAt MarkedAsAsked (λ start t x y. (x, y)) marks_law table_law

pub aborts_law : AbortsLaw
aborts_law = joined_law Answered MarkedAsAsked AbortsStand (λ start t x y. aborts_stand start t (record { ends = x.0; fair = x.1; access = y.1.1; marked = y.0 })) answered_law marked_law
