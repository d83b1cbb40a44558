-- A command that runs ends as the ORB that was read has it, in each turn of every run: by the check that holds on the plain disk, or, where none does, good or by a medium call that failed.
use Rattle.std.proofs.Common.{◌≡◌, ◌∙◌, refl, sym, ap, subst, ℕ, suc, ◌+◌, ◌<◌, ◌&&◌, is_some, Bool, true, List, [], ◌∷◌, Option, Some, Result}
use Rattle.std.specs.Prelude.{is_none}
use Rattle.async_packet.specs.Packet.{Packet}
use Rattle.bus_transactions.specs.Judging.{AreJudged}
use Rattle.command_agent.specs.Machine.{Machine, plan_of}
use Rattle.command_agent.specs.Steps.{reply_step, told_or}
use Rattle.command_agent.specs.declared.step.AgentStep.{AgentStep}
use Rattle.label_table.specs.Layer.{Finding, Layer, judging_step, of_response}
use Rattle.label_table.specs.declared.reply.Stale.{Stale}
use Rattle.login_table.specs.Table.{expired_ids, is_live}
use Rattle.login_table.specs.declared.login.Login.{Login}
use Rattle.packet_store.specs.Kept.{found_sent}
use Rattle.packet_store.specs.declared.sent.Sent.{Sent}
use Rattle.page_table.specs.Buffer.{bytes_of}
use Rattle.page_table.specs.declared.segment.Segment.{Segment}
use Rattle.orb_layout.specs.Replies.{Answer}
use Rattle.orb_layout.specs.declared.command.CommandOrb.{CommandOrb}
use Rattle.rbc_disk.specs.Checks.{check_of as check_by}
use Rattle.rbc_disk.specs.Disk.{Disk}
use Rattle.rbc_disk.specs.Runs.{MayEnd, Told, answer_of, failure_of}
use Rattle.rbc_disk.specs.Units.{PlainDisk}
use Rattle.rbc_disk.specs.declared.command.BufferPlan.{BufferPlan}
use Rattle.rbc_disk.specs.declared.command.Outcome.{Outcome}
use Rattle.sbp_bus.specs.Generations.{id_of}
use Rattle.sbp_bus.specs.Packets.{end_note, judged_note}
use Rattle.sbp_bus.specs.Places.{or_nobody}
use Rattle.sbp_bus.specs.Words.{check_of}
use Rattle.sbp_initiator.specs.Receiving.{receive_step}
use Rattle.sbp_journal.specs.Outgoings.{OutboxState, empty_outbox}
use Rattle.sbp_journal.specs.Run.{Moment, asked, said}
use Rattle.sbp_journal.specs.Wire.{Terms, terms}
use Rattle.sbp_journal.specs.declared.cause.Judged.{Judged}
use Rattle.sbp_journal.specs.declared.cause.Judged.TheVariants as judgements
use Rattle.sbp_journal.specs.declared.event.Event.{Event}
use Rattle.sbp_journal.specs.declared.event.Event.TheVariants as events
use Rattle.sbp_journal.specs.declared.note.Note.{Note}
use Rattle.sbp_journal.specs.declared.note.Note.TheVariants as notes
use Rattle.sbp_journal.specs.declared.side.Side.{Side}
use Rattle.sbp_journal.specs.declared.side.Side.TheVariants as sides
use Rattle.sbp_laws.specs.Agents.{AgentTurn, agent_event, agent_turn, told_among, untold_among}
use Rattle.sbp_laws.specs.CarriedLaw.{EndEachBy, EndsAsRead, EndsBy}
use Rattle.sbp_laws.specs.DiskFold.{unit_at}
use Rattle.sbp_laws.specs.NoteKinds.{of_kind}
use Rattle.sbp_laws.specs.Targets.{Agent, Target, agent_at, initiator_at, over, target_at, told_of}
use Rattle.sbp_laws.specs.Turns.{turn}
use Rattle.sbp_target.specs.Nodes.{NodeState, desk_at, login_at}
use Rattle.sbp_target.specs.Nodes as target
use Rattle.sbp_target.specs.Receiving.{answer_in, received}
use Rattle.sbp_target.specs.Replies.{Whole, plain_in}
use Rattle.sbp_target.specs.declared.purpose.Purpose.{Purpose}
use Rattle.sbp_target.specs.declared.purpose.Purpose.TheVariants as purposes
use Rattle.sbp_target.proofs.Histories.Found.{IsFound, found as found_as}
use Rattle.sbp_target.proofs.Histories.Told.{side_law}
use Rattle.sbp_world.specs.Agents.Alike.{StepsAlike, TellsAlike, has_list}
use Rattle.sbp_world.specs.Delivering.{marked, whole_of}
use Rattle.sbp_world.specs.Lines.{weight_in}
use Rattle.sbp_world.specs.Telling.{holder}
use Rattle.sbp_world.specs.Worlds.{Scene, WorldState, initiator_at as host_of, with_note, with_target}
use Rattle.sbp_world.proofs.Agents.Keeping.{given_in}
use Rattle.sbp_world.proofs.Agents.Management.Still.{hist}
use Rattle.sbp_world.proofs.Agents.Mild.{reply_mild}
use Rattle.sbp_world.proofs.Agents.ToldAlike.{run_alike}
use Rattle.sbp_world.proofs.Formed.{AreOwn}
use Rattle.sbp_world.proofs.Lists.DueRuns.{AtDelivery, alike, event_is, inside, plain_is, serve, some_same}
use Rattle.sbp_world.proofs.Lists.RunTells.{AreRunless, NoneRan, RanBy, TellsRun, delivery_tells, is_got, lapse_runless, of_none, of_run, served_there}
use Rattle.turn_laws.specs.RunsEnd.{RunsEndLaw}
use Rattle.turn_laws.proofs.AgentHere.{good, hold, initiator_is}
use Rattle.turn_laws.proofs.Announcing.{over_same, own_ran, ran_kind}
use Rattle.turn_laws.proofs.Calls.{Brings, Cases, calls, injects, loses, refuses, refuses_action, resets, sets_key}
use Rattle.turn_laws.proofs.Cuts.{marked_holder}
use Rattle.turn_laws.proofs.Handed.{handed, notes_told}
use Rattle.turn_laws.proofs.KindNotes.{kind_handed, own_handed}
use Rattle.turn_laws.proofs.Pass.{of_every_run}
use Rattle.turn_laws.proofs.Places.{Place}
use Rattle.turn_laws.proofs.PushSides.{AreSilent, expired_silent, is_ran_note, run_noted, runs_none, sight_silent, silent_runless}
use Rattle.turn_laws.proofs.RestRuns.{run_told}
use Rattle.turn_laws.proofs.RunPlans.{segments_alike}

-- ---- only notes of runs count
module _ (T : Target) (a : Option AgentTurn) where
  of_runs : (rest : List Note) → EndEachBy T a (of_kind is_ran_note rest) → EndEachBy T a rest
  of_runs [] h = tt
  of_runs (notes.Ran i list number unit cdb bytes check ∷ rest) h = (h.0, of_runs rest h.1)
  of_runs (note ∷ rest) h = of_runs rest h

none_ends : (start : List Disk) (past : List Moment) (first : Moment) (rest : List Note) → of_kind is_ran_note rest ≡ [] → EndsAsRead start (turn past first rest)
none_ends start past first rest e =
    let T = over (target_at start past) in
    let a = agent_turn (agent_event start (turn past first rest)) T (terms past) rest in of_runs T a rest (subst (EndEachBy T a) (sym e) tt)

module _ (start : List Disk) (past : List Moment) (first : Moment) where
  runless_ends : (outbox : OutboxState) (w : WorldState) → AreRunless outbox.sides → EndsAsRead start (turn past first (handed 0 0 outbox w))
  runless_ends outbox w h = none_ends start past first (handed 0 0 outbox w) (kind_handed is_ran_note ran_kind 0 0 outbox w ∙ runs_none 0 outbox.sides w h)

  own_ends : (node weight : ℕ) (outbox : OutboxState) (w : WorldState) → AreOwn outbox.sides → EndsAsRead start (turn past first (handed node weight outbox w))
  own_ends node weight outbox w h = none_ends start past first (handed node weight outbox w) (own_handed is_ran_note ran_kind own_ran node weight outbox w h)

-- ---- a command that ran as a response was delivered
module _ (units ready : ℕ) (has : 0 < units) (start : List Disk) (past : List Moment) (s : Scene) (here : Place units ready start past s) (serial : ℕ) (again : Bool) (one : Sent) (found : found_sent serial s.world.store.kept ≡ Some one) (zero_to : one.to ≡ 0) (judged : AreJudged (said (notes.Got serial) ∷ hist past s.world)) (run : Option Told) where
  abbrev w : WorldState
  w = s.world

  abbrev node : NodeState
  node = w.target

  abbrev ms : List Moment
  ms = hist past w

  abbrev wire : Terms
  wire = terms ms

  abbrev T : Target
  T = over (target_at start ms)

  site : AtDelivery start past w
  site = record { agents = here.agents; held = here.held; rows = λ i b. (here.hosts i b).rows }

  module _ (q orb : ℕ) (cdb payload : List ℕ) (outcome : Outcome) (ran : RanBy node one run s.media q orb cdb payload outcome) (more : List Side) (runless : AreRunless more) (x : NodeState) (o : OutboxState) (is : o.sides ≡ sides.Ran q orb cdb payload outcome ∷ more) where
    abbrev now : WorldState
    now = with_note (notes.Got serial) (marked serial again (with_target x w))

    abbrev after : List Note
    after = handed 0 0 o now

    abbrev login : Login
    login = ran.login

    abbrev p : Packet
    p = ran.packet

    abbrev answer : Answer
    answer = answer_in p

    abbrev new : Layer Purpose
    new = (judging_step node.layer one.generation one.bytes).1

    abbrev plain : PlainDisk
    plain = plain_in node.units s.media.disks login.unit

    abbrev own : AgentStep × Machine
    own = reply_step (desk_at node q).agent q plain run ran.which answer

    abbrev A : Agent
    A = agent_at T q

    abbrev i : ℕ
    i = initiator_at T wire q

    e : judging_step node.layer one.generation one.bytes ≡ (of_response p ran.label (Some (purposes.Agent q)), new)
    e = ap (λ (f : Finding Purpose). (f, new)) ran.found

    f : IsFound (of_response p ran.label (Some (purposes.Agent q))) node.layer new one.bytes
    f = subst (λ (y : Finding Purpose). IsFound y node.layer new one.bytes) ran.found (found_as node.layer one.generation one.bytes)

    there : login_at node q ≡ Some login
    there = served_there node q login ran.served

    live : is_live login ≡ true
    live =
        let serves = serve units ready has start s here.holds site here.units_are.each serial judged after one found zero_to p f.read f.kind ran.label new (Some (purposes.Agent q)) e q refl in
        subst (λ (l : Login). is_live l ≡ true) (some_same (sym serves.served_is ∙ ran.served)) serves.live

    mine : (holder now q).initiator ≡ i
    mine = ap (λ h. h.initiator) (marked_holder serial again (with_target x w) q) ∙ sym (initiator_is units ready has start past s here q login there live)

    abbrev told : Option Told
    told = told_among i after plain

    abbrev law_step : AgentStep × Machine
    law_step = reply_step A.machine q plain told ran.which answer

    abbrev law_turn : AgentTurn
    law_turn = record { place = q; untold = untold_among i after plain A.untold; which = ran.which; step = law_step.0; machine = law_step.1 }

    turn_is : agent_turn (agent_event start (turn ms (said (notes.Got serial)) after)) T wire after ≡ Some law_turn
    turn_is =
        ap (λ y. agent_turn y T wire after) (event_is units ready has start s here.holds site here.units_are.each serial judged after one found zero_to p f.read f.kind ran.label new (Some (purposes.Agent q)) e q refl login there ran.which ran.is_which)
        ∙ ap (λ y. (let r = reply_step A.machine q y (told_among i after y) ran.which answer in Some (record { place = q; untold = untold_among i after y A.untold; which = ran.which; step = r.0; machine = r.1 })))
        (plain_is units ready has start s here.holds site here.units_are.each serial judged after one found zero_to p f.read f.kind ran.label new (Some (purposes.Agent q)) e q refl login there ran.which ran.is_which)

    abbrev v : Bool
    v = is_none (check_of outcome) && is_none (answer_of own.1.orb.cdb plain.medium)

    tells : TellsAlike v (told_or told) (told_or run)
    tells =
        let so : told ≡ Some (told_of (check_of outcome) own.1.orb.cdb plain) = run_told q orb cdb payload outcome more o now is runless plain i mine ∙ ap (λ c. Some (told_of (check_of outcome) c plain)) ran.cdb_is in
        subst (λ y. TellsAlike v (told_or y) (told_or run)) (sym so)
        (subst (λ y. TellsAlike v (told_of (check_of outcome) own.1.orb.cdb plain) (told_or y)) (sym ran.told_is) (run_alike outcome own.1 q plain ran.may))

    steps : StepsAlike A.untold v law_step own
    steps = alike units ready has start s here.holds site here.units_are.each serial judged after one found zero_to p f.read f.kind ran.label new (Some (purposes.Agent q)) e q refl login there ran.which ran.is_which v told run tells

    small : q < 8
    small = inside units ready has start s here.holds site here.units_are.each serial judged after one found zero_to p f.read f.kind ran.label new (Some (purposes.Agent q)) e q refl

    same_plan : plan_of law_step.1 ≡ plan_of own.1
    same_plan =
        let listed : has_list own.1.phase ≡ true = ((reply_mild (desk_at node q).agent q plain run ran.which answer (given_in p)).runs outcome ran.ran).0 in
        ap (λ (c : CommandOrb). (let y : BufferPlan = record { to_initiator = c.to_initiator; bytes = bytes_of law_step.1.segments } in y)) (steps.alike.orb listed)
        ∙ ap (λ (g : List Segment). (let y : BufferPlan = record { to_initiator = own.1.orb.to_initiator; bytes = bytes_of g } in y))
        (segments_alike A.untold v A.machine (desk_at node q).agent q plain told run ran.which answer (here.agents.are.each q small).machine tells (ap is_some ran.ran))

    unit_is : (holder now q).unit ≡ login.unit
    unit_is =
        let k = hold units ready has start past s here q login there live in
        ap (λ h. h.unit) (marked_holder serial again (with_target x w) q) ∙ (ap (λ h. (or_nobody h).unit) k.there ∙ k.unit_is)

    medium_is : unit_at T.units login.unit ≡ plain
    medium_is = ap (λ us. unit_at us login.unit) (over_same units ready has start past s here).1.0 ∙ here.units_are.each login.unit

    abbrev Ends : PlainDisk → BufferPlan → List ℕ → Type 0
    Ends y plan c = MayEnd (check_by c plan y q) (failure_of y.medium.is_bay c) (check_of outcome)

    ends : EndsBy T (Some law_turn) (holder now q).unit cdb (check_of outcome)
    ends =
        subst (λ n. EndsBy T (Some law_turn) n cdb (check_of outcome)) (sym unit_is)
        (subst (λ y. Ends y (plan_of law_step.1) cdb) (sym medium_is)
        (subst (λ plan. Ends plain plan cdb) (sym same_plan) (subst (λ c. Ends plain (plan_of own.1) c) (sym ran.cdb_is) ran.may.ended)))

    pub run_ends : EndsAsRead start (turn ms (said (notes.Got serial)) after)
    run_ends =
        let a = agent_turn (agent_event start (turn ms (said (notes.Got serial)) after)) T wire after in
        let runs = kind_handed is_ran_note ran_kind 0 0 o now ∙ (ap (λ later. of_kind is_ran_note (notes_told 0 later now)) is ∙ run_noted 0 q orb cdb payload outcome more now runless) in
        of_runs T a after (subst (EndEachBy T a) (sym runs) (subst (λ y. EndsBy T y (holder now q).unit cdb (check_of outcome)) (sym turn_is) ends, tt))

module _ (units ready : ℕ) (has : 0 < units) (start : List Disk) (past : List Moment) (s : Scene) (here : Place units ready start past s) (serial : ℕ) (again : Bool) (one : Sent) (found : found_sent serial s.world.store.kept ≡ Some one) (zero_to : one.to ≡ 0) (run : Option Told) where
  abbrev given : Judged × Whole
  given = received run one.generation one.bytes (whole_of s.world.target s.media)

  heard_by : (x : NodeState) (o : OutboxState) (done : Judged) → AreJudged (said (judged_note serial done) ∷ hist past s.world) → TellsRun (NoneRan s.world.target one run s.media) (λ place orb cdb payload outcome. RanBy s.world.target one run s.media place orb cdb payload outcome) o.sides → given.0 ≡ done
      → EndsAsRead start (turn (hist past s.world) (said (judged_note serial done)) (handed 0 0 o (with_note (judged_note serial done) (marked serial again (with_target x s.world)))))
  heard_by x o done judged (of_none none runless) e = runless_ends start (hist past s.world) (said (judged_note serial done)) o (with_note (judged_note serial done) (marked serial again (with_target x s.world))) runless
  heard_by x o done judged (of_run q orb cdb payload outcome more ran runless is) e =
      let got : judgements.Got ≡ done = sym (is_got s.world.target one run s.media q orb cdb payload outcome ran) ∙ e in
      subst (λ d. AreJudged (said (judged_note serial d) ∷ hist past s.world) → EndsAsRead start (turn (hist past s.world) (said (judged_note serial d)) (handed 0 0 o (with_note (judged_note serial d) (marked serial again (with_target x s.world)))))) got
      (λ j. run_ends units ready has start past s here serial again one found zero_to j run q orb cdb payload outcome ran more runless x o is) judged

-- ---- the turns of the calls
line_ends : (start : List Disk) (line : ℕ) (s : Scene) (past : List Moment) (event : Event) (rest : List Note) → Brings line s event rest → EndsAsRead start (turn past (asked line event) rest)
line_ends start line s past event rest (calls is_event c) = tt
line_ends start line s past event rest (refuses is_event number) = tt
line_ends start line s past event rest (refuses_action i action number e) = tt
line_ends start line s past event rest (resets physical generation e) = tt
line_ends start line s past event rest (loses serial) = tt
line_ends start line s past event rest (sets_key unit key) = tt
line_ends start line s past event rest (injects i bytes serial generation from to) = tt

module _ (units ready : ℕ) (has : 0 < units) (start : List Disk) where
  run_cases : Cases units ready start (EndsAsRead start)
  run_cases = record {
    heard = λ past s serial again run one found zero_to may others here behind noted.
        let x = received run one.generation one.bytes (whole_of s.world.target s.media) in
        let g = good units ready has start past s here in
        heard_by units ready has start past s here serial again one found zero_to run x.1.node x.1.outbox x.0 noted.judged (delivery_tells s.world.target g.mid.size g.table.sound one run s.media may) refl;
    heard_own = λ past s serial again one i found to_is inside own here behind judged.
        own_ends start (hist past s.world) (said (judged_note serial (receive_step one.generation one.bytes empty_outbox (host_of s.world i)).0)) (suc i) 0 _ _ own;
    late = λ past s serial request done t found node_is e others here behind judged.
        runless_ends start (hist past s.world) (said (notes.TimedOut serial)) t.outbox _
        (subst (λ (x : Result (Unit {0}) Stale × target.Scene). AreRunless x.1.outbox.sides) e (lapse_runless request.peer request.label s.world.target));
    late_own = λ past s serial request i outbox state found node_is inside e own here behind judged. own_ends start (hist past s.world) (said (notes.TimedOut serial)) (suc i) 0 outbox _ own;
    sees = λ past s others here behind judged.
        let g = s.world.generations.latest in
        let tells = side_law.sights g.generation (id_of g 0) s.world.target in
        runless_ends start (hist past s.world) (said (notes.Seen 0 g.generation)) _ _ (silent_runless _ (subst AreSilent (sym tells) (sight_silent g.generation s.world.target)));
    sees_own = λ past s i inside own here behind judged. own_ends start (hist past s.world) (said (notes.Seen (suc i) s.world.generations.latest.generation)) (suc i) 0 _ _ own;
    ticks = λ past s others here behind judged.
        runless_ends start (hist past s.world) (said notes.Tick) _ _ (silent_runless _ (subst AreSilent (sym (side_law.seconds s.world.target)) (expired_silent (expired_ids s.world.target.logins.places))));
    ends = λ past s done here behind. none_ends start (hist past s.world) (said (end_note done)) [] refl;
    acts = λ past s line i action outbox state inside e own here behind. own_ends start (hist past s.world) (asked line (events.Act i action)) (i + 1) (weight_in action) outbox _ own;
    lines = λ past s line event rest behind brings fresh here there. line_ends start line s (hist past s.world) event rest brings;
    begins = λ line initiators is_ready. tt;
  }

pub runs_end_law : RunsEndLaw
runs_end_law = of_every_run EndsAsRead (λ units ready start has. run_cases units ready has start)
