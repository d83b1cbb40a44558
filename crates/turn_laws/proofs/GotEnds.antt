-- The deaths and ends of a response that the target got, whatever its transaction was for and whatever ran.
use Rattle.std.proofs.Common.{◌≡◌, ◌∙◌, refl, sym, ap, subst, ℕ, ◌<◌, ◌&&◌, is_some, Bool, true, cond, List, [], ◌∷◌, Option, Some, None, Ok}
use Rattle.std.specs.Prelude.{is_none}
use Rattle.async_packet.specs.Labels.{LabelParts}
use Rattle.async_packet.specs.Packet.{Packet, header_in}
use Rattle.async_packet.specs.Reading.{reading}
use Rattle.bus_transactions.specs.Judging.{AreJudged}
use Rattle.label_table.specs.Layer.{Finding, Layer, judging_step, of_response}
use Rattle.label_table.specs.Requests.{reply_kind}
use Rattle.login_table.specs.declared.login.Login.{Login}
use Rattle.packet_store.specs.declared.sent.Sent.{Sent}
use Rattle.packet_store.specs.Kept.{found_sent}
use Rattle.rbc_disk.specs.declared.command.Outcome.{Outcome}
use Rattle.rbc_disk.specs.Disk.{Disk}
use Rattle.rbc_disk.specs.Runs.{Told, answer_of}
use Rattle.rbc_disk.specs.Units.{PlainDisk}
use Rattle.command_agent.specs.Machine.{Machine}
use Rattle.command_agent.specs.Runs.{MayRun}
use Rattle.command_agent.specs.Steps.{reply_step, told_or}
use Rattle.command_agent.specs.declared.step.AgentStep.{AgentStep}
use Rattle.command_agent.specs.declared.step.Which.{Which}
use Rattle.sbp_bus.specs.Words.{check_of}
use Rattle.sbp_bus.specs.declared.places.Holder.{Holder}
use Rattle.sbp_journal.specs.Outgoings.{OutboxState}
use Rattle.sbp_journal.specs.Run.{Moment, said}
use Rattle.sbp_journal.specs.Wire.{Terms, terms}
use Rattle.sbp_journal.specs.declared.note.Note.{Note}
use Rattle.sbp_journal.specs.declared.note.Note.TheVariants as notes
use Rattle.sbp_journal.specs.declared.side.Side.{Side}
use Rattle.sbp_journal.specs.declared.side.Side.TheVariants as sides
use Rattle.sbp_laws.specs.Agents.{agent_event, nothing, told_among, untold_among}
use Rattle.sbp_laws.specs.Targets.{Agent, Target, agent_at, for_manager, for_nobody, initiator_at, over, target_at, told_of}
use Rattle.sbp_laws.specs.Turns.{Turn, turn}
use Rattle.sbp_target.specs.declared.purpose.Purpose.{Purpose}
use Rattle.sbp_target.specs.declared.purpose.Purpose.TheVariants as purposes
use Rattle.sbp_target.specs.Agents.{sent_to}
use Rattle.sbp_target.specs.Desks.{which_in}
use Rattle.sbp_target.specs.Nodes.{NodeState, desk_at}
use Rattle.sbp_target.specs.Receiving.{answer_in, concluded, with_layer}
use Rattle.sbp_target.specs.Replies.{plain_in, served_login}
use Rattle.sbp_world.specs.Agents.Alike.{TellsAlike}
use Rattle.sbp_world.specs.Delivering.{MayTell, marked, whole_of}
use Rattle.sbp_world.specs.FitTarget.{BytesTold}
use Rattle.sbp_world.specs.Hosts.Handing.{AreOthers}
use Rattle.sbp_world.specs.Telling.{holder}
use Rattle.sbp_world.specs.Worlds.{Scene, WorldState, with_note, with_target}
use Rattle.sbp_world.proofs.Agents.CrewSeats.{IsServing}
use Rattle.sbp_world.proofs.Agents.Management.Still.{hist}
use Rattle.sbp_world.proofs.Agents.ToldAlike.{run_alike}
use Rattle.sbp_world.proofs.Lists.DueRuns.{event_for, hand, inside, its, serve, some_same}
use Rattle.sbp_world.proofs.Lists.DueTurns.{plain_told}
use Rattle.sbp_world.proofs.Lists.RunTells.{AreRunless, RanBy}
use Rattle.sbp_world.proofs.Wire.ToldBytes.{told_fits}
use Rattle.turn_laws.proofs.AgentDue.{TellsEnds, none_tells}
use Rattle.turn_laws.proofs.AgentHere.{initiator_is}
use Rattle.turn_laws.proofs.EndNotes.{NoEnds, low_ranks, none_handed}
use Rattle.turn_laws.proofs.Handed.{handed}
use Rattle.turn_laws.proofs.OrderManaged.{manages}
use Rattle.turn_laws.proofs.Places.{Place}
use Rattle.turn_laws.proofs.ReplyEnds.{agent_ends, site, still_holder}
use Rattle.turn_laws.proofs.RestRuns.{plain_handed, plain_untold, run_told, run_untold}
use Rattle.turn_laws.proofs.LateEnds.{if_same}

module _ (units ready : ℕ) (has : 0 < units) (start : List Disk) (past : List Moment) (s : Scene) (here : Place units ready start past s) (serial : ℕ) (again : Bool) (one : Sent) (found : found_sent serial s.world.store.kept ≡ Some one) (zero_to : one.to ≡ 0) (judged : AreJudged (said (notes.Got serial) ∷ hist past s.world)) (run : Option Told) (may : MayTell run one s.world.target s.media) where
  abbrev w : WorldState
  w = s.world

  abbrev node : NodeState
  node = w.target

  abbrev ms : List Moment
  ms = hist past w

  abbrev wire : Terms
  wire = terms ms

  abbrev T : Target
  T = over (target_at start ms)

  abbrev t : List Note → Turn
  t rest = turn ms (said (notes.Got serial)) rest

  told_bytes : BytesTold run
  told_bytes = told_fits true run one s may

  module _ (p : Packet) (read : reading one.bytes ≡ Ok p) (some : is_some (reply_kind p) ≡ true) (label : LabelParts) (new : Layer Purpose) where
    abbrev Is : Option Purpose → Type 0
    Is purpose = judging_step node.layer one.generation one.bytes ≡ (of_response p label purpose, new)

    abbrev given : Option Purpose → OutboxState
    given purpose = (concluded run purpose (header_in p).source label (answer_in p) (with_layer new (whole_of node s.media))).outbox

    abbrev behind : NodeState → WorldState
    behind x = with_note (notes.Got serial) (marked serial again (with_target x w))

    abbrev Due : NodeState → OutboxState → Type 0
    Due x o = TellsEnds start (t (handed 0 0 o (behind x)))

    -- of nobody, and of the management
    module _ (purpose : Option Purpose) (e : Is purpose) (rest : List Note) where
      nobody_due : purpose ≡ None → agent_event start (t rest) ≡ nothing
      nobody_due f = event_for units ready has start s here.holds (site units ready has start past s here serial again one found zero_to judged) here.units_are.each serial judged rest one found zero_to p read some label new purpose e for_nobody ((hand units ready has start s here.holds (site units ready has start past s here serial again one found zero_to judged) here.units_are.each serial judged rest one found zero_to p read some label new purpose e).nobody f)

      unsolicited_due : purpose ≡ Some purposes.Unsolicited → agent_event start (t rest) ≡ nothing
      unsolicited_due f = event_for units ready has start s here.holds (site units ready has start past s here serial again one found zero_to judged) here.units_are.each serial judged rest one found zero_to p read some label new purpose e for_nobody ((hand units ready has start s here.holds (site units ready has start past s here serial again one found zero_to judged) here.units_are.each serial judged rest one found zero_to p read some label new purpose e).unsolicited f)

      manager_due : purpose ≡ Some purposes.Management → agent_event start (t rest) ≡ nothing
      manager_due f = event_for units ready has start s here.holds (site units ready has start past s here serial again one found zero_to judged) here.units_are.each serial judged rest one found zero_to p read some label new purpose e for_manager ((hand units ready has start s here.holds (site units ready has start past s here serial again one found zero_to judged) here.units_are.each serial judged rest one found zero_to p read some label new purpose e).operation f)

    none_ends : (x : NodeState) (o : OutboxState) → AreOthers o.sides → NoEnds o.sides → ((rest : List Note) → agent_event start (t rest) ≡ nothing) → Due x o
    none_ends x o others none due = let rest = handed 0 0 o (behind x) in none_tells start (t rest) (due rest) (none_handed o (behind x) others none)

    pub nobody_ends : Is None → (x : NodeState) (o : OutboxState) → o ≡ given None → AreOthers o.sides → Due x o
    unfolding concluded
    nobody_ends e x o o_is others = none_ends x o others (subst (λ (y : OutboxState). NoEnds y.sides) (sym o_is) tt) (λ rest. nobody_due None e rest refl)

    pub unsolicited_ends : Is (Some purposes.Unsolicited) → (x : NodeState) (o : OutboxState) → o ≡ given (Some purposes.Unsolicited) → AreOthers o.sides → Due x o
    unfolding concluded
    unsolicited_ends e x o o_is others =
        none_ends x o others (subst (λ (y : OutboxState). NoEnds y.sides) (sym o_is) tt) (λ rest. unsolicited_due (Some purposes.Unsolicited) e rest refl)

    pub manager_ends : Is (Some purposes.Management) → (x : NodeState) (o : OutboxState) → o ≡ given (Some purposes.Management) → AreOthers o.sides → Due x o
    unfolding concluded
    manager_ends e x o o_is others =
        none_ends x o others (subst (λ (y : OutboxState). NoEnds y.sides) (sym o_is) (low_ranks (given (Some purposes.Management)).sides 0 (manages (record node { layer = new }) (answer_in p)))) (λ rest. manager_due (Some purposes.Management) e rest refl)

    -- ---- of an agent
    module _ (q : ℕ) (e : Is (Some (purposes.Agent q))) (x : NodeState) (o : OutboxState) (o_is : o ≡ given (Some (purposes.Agent q))) where
      abbrev rest : List Note
      rest = handed 0 0 o (behind x)

      b : q < 8
      b = inside units ready has start s here.holds (site units ready has start past s here serial again one found zero_to judged) here.units_are.each serial judged [] one found zero_to p read some label new (Some (purposes.Agent q)) e q refl

      serves : IsServing node q (sent_to (header_in p).source label) (its units ready has start s here.holds (site units ready has start past s here serial again one found zero_to judged) here.units_are.each serial judged [] one found zero_to p read some label new (Some (purposes.Agent q)) e q refl).which
      serves = serve units ready has start s here.holds (site units ready has start past s here serial again one found zero_to judged) here.units_are.each serial judged [] one found zero_to p read some label new (Some (purposes.Agent q)) e q refl

      abbrev login : Login
      login = serves.login

      abbrev which : Which
      which = (its units ready has start s here.holds (site units ready has start past s here serial again one found zero_to judged) here.units_are.each serial judged [] one found zero_to p read some label new (Some (purposes.Agent q)) e q refl).which

      abbrev plain : PlainDisk
      plain = plain_in node.units s.media.disks login.unit

      abbrev own : AgentStep × Machine
      own = reply_step (desk_at node q).agent q plain run which (answer_in p)

      abbrev A : Agent
      A = agent_at T q

      abbrev i : ℕ
      i = initiator_at T wire q

      by_told : (told : Option Told) (v : Bool) → told_among i rest plain ≡ told → untold_among i rest plain A.untold ≡ cond (is_some own.0.ran) v A.untold → TellsAlike v (told_or told) (told_or run) → Due x o
      by_told told v f g h =
          agent_ends units ready has start past s here serial again one found zero_to judged run told_bytes p read some label new q e login serves.login_is serves.served_is serves.live which serves.which_is
          (its units ready has start s here.holds (site units ready has start past s here serial again one found zero_to judged) here.units_are.each serial judged [] one found zero_to p read some label new (Some (purposes.Agent q)) e q refl).kept.sent (its units ready has start s here.holds (site units ready has start past s here serial again one found zero_to judged) here.units_are.each serial judged [] one found zero_to p read some label new (Some (purposes.Agent q)) e q refl).kept.is b rest told v f g h o x o_is refl

      -- no command runs
      pub no_run : run ≡ None → AreRunless o.sides → Due x o
      no_run untold runless =
          let plainly = plain_handed o (behind x) runless in
          by_told None A.untold (plain_told i rest plain plainly) (plain_untold i rest plain A.untold plainly ∙ sym (if_same (is_some own.0.ran) A.untold))
          (subst (λ y. TellsAlike A.untold (told_or None) (told_or y)) (sym untold) (record { outcome = refl; size = refl; answer = λ f. refl }))

      -- one runs
      module _ (orb : ℕ) (cdb payload : List ℕ) (outcome : Outcome) (more : List Side) (runless : AreRunless more) (is : o.sides ≡ sides.Ran q orb cdb payload outcome ∷ more) (ran : own.0.ran ≡ Some outcome) (told_is : run ≡ Some (record { outcome = outcome; answer = own.1.answer })) (cdb_is : cdb ≡ own.1.orb.cdb) (may_run : MayRun own.1 q outcome plain) where
        abbrev told : Told
        told = told_of (check_of outcome) own.1.orb.cdb plain

        abbrev v : Bool
        v = is_none (check_of outcome) && is_none (answer_of own.1.orb.cdb plain.medium)

        mine : (holder (behind x) q).initiator ≡ i
        mine =
            ap (λ (h : Holder). h.initiator) (still_holder units ready has start past s here serial again one found zero_to judged (with_target x w) q)
            ∙ sym (initiator_is units ready has start past s here q login serves.login_is serves.live)

        one_ran : Due x o
        one_ran =
            by_told (Some told) v
            (run_told q orb cdb payload outcome more o (behind x) is runless plain i mine ∙ ap (λ c. Some (told_of (check_of outcome) c plain)) cdb_is)
            (run_untold q orb cdb payload outcome more o (behind x) is runless plain i mine A.untold
            ∙ (ap (λ c. is_none (check_of outcome) && is_none (answer_of c plain.medium)) cdb_is ∙ sym (ap (λ r. cond (is_some r) v A.untold) ran)))
            (subst (λ y. TellsAlike v told (told_or y)) (sym told_is) (run_alike outcome own.1 q plain may_run))

      abbrev step_of : ℕ → Packet → Login → Which → AgentStep × Machine
      step_of k pk l wh = reply_step (desk_at node k).agent k (plain_in node.units s.media.disks l.unit) run wh (answer_in pk)

      record IsRun (orb : ℕ) (cdb payload : List ℕ) (outcome : Outcome) (more : List Side) (k : ℕ) (pk : Packet) (l : Login) (wh : Which) : Type 0 where
        is : o.sides ≡ sides.Ran k orb cdb payload outcome ∷ more
        ran : (step_of k pk l wh).0.ran ≡ Some outcome
        told_is : run ≡ Some (record { outcome = outcome; answer = (step_of k pk l wh).1.answer })
        cdb_is : cdb ≡ (step_of k pk l wh).1.orb.cdb
        may_run : MayRun (step_of k pk l wh).1 k outcome (plain_in node.units s.media.disks l.unit)

      same_place : (pk : Packet) (lb : LabelParts) (k : ℕ) → ◌≡◌ {A = Finding Purpose} (of_response pk lb (Some (purposes.Agent k))) (of_response p label (Some (purposes.Agent q))) → (pk ≡ p) × ((lb ≡ label) × (k ≡ q))
      same_place pk lb k f = (cc, (cc, cc))

      pub some_run : (place orb : ℕ) (cdb payload : List ℕ) (outcome : Outcome) (more : List Side) → RanBy node one run s.media place orb cdb payload outcome → AreRunless more → o.sides ≡ sides.Ran place orb cdb payload outcome ∷ more → Due x o
      some_run place orb cdb payload outcome more ran runless is =
          let f = same_place ran.packet ran.label place (sym ran.found ∙ ap (λ (y : Finding Purpose × Layer Purpose). y.0) e) in
          let login_is : ran.login ≡ login = some_same (sym ran.served ∙ (ap (served_login node) f.1.1 ∙ serves.served_is)) in
          let which_is : ran.which ≡ which =
          some_same (sym ran.is_which
          ∙ (ap (λ k. which_in (desk_at node k) (header_in ran.packet).source ran.label) f.1.1
          ∙ (ap (λ pk. which_in (desk_at node q) (header_in pk).source ran.label) f.0
          ∙ (ap (λ lb. which_in (desk_at node q) (header_in p).source lb) f.1.0 ∙ serves.which_is)))) in
          let first : IsRun orb cdb payload outcome more place ran.packet ran.login ran.which = record { is = is; ran = ran.ran; told_is = ran.told_is; cdb_is = ran.cdb_is; may_run = ran.may } in
          let h : IsRun orb cdb payload outcome more q p login which =
          subst (λ k. IsRun orb cdb payload outcome more k p login which) f.1.1
          (subst (λ pk. IsRun orb cdb payload outcome more place pk login which) f.0
          (subst (λ l. IsRun orb cdb payload outcome more place ran.packet l which) login_is
          (subst (λ wh. IsRun orb cdb payload outcome more place ran.packet ran.login wh) which_is first))) in
          one_ran orb cdb payload outcome more runless h.is h.ran h.told_is h.cdb_is h.may_run
