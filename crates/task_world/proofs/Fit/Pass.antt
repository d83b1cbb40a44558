-- What is kept by telling, by giving up a transaction with a known node, and by asking a known node for what fits a packet, is kept by all
-- that a task node does behind its answer; and what fits stays so.
use Rattle.sbp_world.proofs.Words.Std.{◌≡◌, refl, sym, subst, ℕ, suc, ◌^◌, ◌<◌, nat_lt, is_some, Bool, true, false, cond, List, [], ◌∷◌, ◌++◌, get_or, Option, Some, None}
use Rattle.sbp_world.proofs.Words.Wire.{LabelParts, AreBytes, FitsRequest, with_asked, Asked, Body, Layer, asking_step, disowning_step, Outgoing, Side, OutboxState}
use Rattle.sbp_world.proofs.Words.Target.{agent_body}
use Rattle.bus_transactions.proofs.FitSteps.{replicate_or}
use Rattle.bus_transactions.proofs.Fits.{no_bytes, put_or}
use Rattle.login_table.specs.declared.login.Login.{Login}
use Rattle.orb_layout.specs.declared.ask.Ask.{Ask}
use Rattle.orb_layout.specs.declared.ask.Ask.TheVariants.{Read, Write, Nothing}
use Rattle.orb_layout.specs.declared.ask.FailCause.{FailCause}
use Rattle.orb_layout.specs.declared.status.StatusKind.{StatusKind}
use Rattle.orb_layout.specs.Replies.{Answer, NoLabel}
use Rattle.rbc_disk.specs.declared.command.Outcome.{Outcome}
use Rattle.rbc_disk.specs.Disk.{no_disk}
use Rattle.rbc_disk.specs.Units.{new_unit, plain_disk}
use Rattle.sbp_journal.specs.declared.cause.CutCause.TheVariants as cuts
use Rattle.sbp_journal.specs.declared.side.Side.TheVariants as sides
use Rattle.command_agent.specs.Steps.{is_reset}
use Rattle.sbp_world.proofs.FitTarget.Agents.{BytesIn, FitsAsk}
use Rattle.sbp_world.proofs.FitTarget.Nodes.{IfBody, agent_body_fits}
use Rattle.unordered_agent.specs.declared.step.TaskStep.{TaskStep}
use Rattle.unordered_agent.specs.Machine.{TaskMachine, is_busy, state_in, task_at}
use Rattle.unordered_agent.specs.Steps.{reset_all_step}
use Rattle.task_target.specs.declared.purpose.Sent.{Sent}
use Rattle.task_target.specs.declared.purpose.TaskPurpose.{TaskPurpose}
use Rattle.task_target.specs.Following.{Fails, about, all_disowned, ask_place, asked_by, asks_sent, body_of_ask, cut, disowned, dropped_by, failed_step, fetch, fetch_sent, follow, lose, lost_at, noted, outgoing_of, place_sent, settled, stepped, told_cut, with_agent, without_sents}
use Rattle.task_target.specs.Nodes.{Scene, TaskNode, no_sents, scene, with_sent}
use Rattle.task_target.specs.Sending.{purpose_of, request_step, sent_by, sent_to}
use Rattle.task_target.specs.Telling.{tell_dead, tell_ended, tell_ran, tell_step}
use Rattle.task_world.specs.Fitting.{Fits, FitsTasks, IsServed}
use Rattle.task_world.proofs.Fit.Agents.{AllFit, FitsTaskStep, replies_fit, resets_fit}

-- what is said of a layer, the packets handed out, and what was told
abbrev pub Said : Type 1
Said = Layer TaskPurpose → List Outgoing → List Side → Type 0

-- what a step may tell: that a command ran, and that an ORB ended
pub record StepTold (T : Side → Type 0) (step : TaskStep) : Type 0 where
  pub ran : (outcome : Outcome) → step.ran ≡ Some outcome → (orb : ℕ) (cdb payload : List ℕ) → T (sides.Ran 0 orb cdb payload outcome)
  pub ended : (status : StatusKind) → step.ended ≡ Some status → (orb : ℕ) → T (sides.Ended 0 orb status)

-- and what else a task node tells, by its own steps
pub record NodeTold (T : Side → Type 0) : Type 0 where
  pub dead : (cause : FailCause) → T (sides.Dead 0 cause)
  pub cut : T (sides.Cut 0 cuts.AgentReset)
  pub opened : (orb : ℕ) → T (sides.Opened 0 orb)
  pub failed : (m : TaskMachine) (place : ℕ) (answer : Answer) → Fails answer → StepTold T (failed_step m place answer).0

pub record Leaves (T : Side → Type 0) (known : ℕ → Type 0) (P : Said) : Type 0 where
  pub node : NodeTold T
  pub tells : (layer : Layer TaskPurpose) (packets : List Outgoing) (told : List Side) (side : Side) → T side → P layer packets told → P layer packets (told ++ side ∷ [])
  pub disowns : (layer : Layer TaskPurpose) (packets : List Outgoing) (told : List Side) (peer : ℕ) (label : LabelParts) → known peer → P layer packets told → P (disowning_step layer peer label) packets told

pub record Keeps (T : Side → Type 0) (known : ℕ → Type 0) (P : Said) : Type 0 where
  pub leaves : Leaves T known P
  pub asks : (layer : Layer TaskPurpose) (packets : List Outgoing) (told : List Side) (peer : ℕ) (body : Body) (purpose : TaskPurpose) → known peer → FitsRequest body → P layer packets told → P (asking_step layer peer body purpose).1 (with_asked peer (asking_step layer peer body purpose).0 packets) told

pub record In (known : ℕ → Type 0) (P : Said) (s : Scene) : Type 0 where
  pub made : P s.node.layer s.outbox.packets s.outbox.sides
  pub fits : Fits known s.node

-- ---- bodies are those of an ordered agent
body_is : (ask : Ask) (is_status : Bool) (fifo : ℕ) (outgoing : List ℕ) → agent_body ask is_status fifo outgoing ≡ body_of_ask ask is_status fifo outgoing
body_is (Read offset len) is_status fifo outgoing = refl
body_is (Write offset len) is_status fifo outgoing = refl
body_is Nothing is_status fifo outgoing = refl

body_fits : (ask : Ask) (is_status : Bool) (fifo : ℕ) (outgoing : List ℕ) → FitsAsk ask → fifo < 2 ^ 48 → AreBytes outgoing → IfBody (body_of_ask ask is_status fifo outgoing)
body_fits ask is_status fifo outgoing f h b = subst IfBody (body_is ask is_status fifo outgoing) (agent_body_fits ask is_status fifo outgoing f h b)

outgoing_fits : (m : TaskMachine) (place : ℕ) → FitsTasks m → AreBytes (outgoing_of m place)
outgoing_fits m place f = by (nat_lt place 8)
  where
    by : (b : Bool) → AreBytes (cond b (task_at m place).outgoing [])
    by true = (f.tasks place).outgoing
    by false = no_bytes

-- ---- parts of a node
module _ (known : ℕ → Type 0) where
  pub fits_layer : (node : TaskNode) (layer : Layer TaskPurpose) → Fits known node → Fits known (record node { layer = layer })
  fits_layer node layer f = record { served = f.served; agent = f.agent; sents = f.sents; rom = f.rom }

  pub fits_agent : (node : TaskNode) (m : TaskMachine) → FitsTasks m → Fits known node → Fits known (with_agent node m)
  fits_agent node m g f = record { served = f.served; agent = g; sents = f.sents; rom = f.rom }

  abbrev IsOf : Option Sent → Type 0
  IsOf sent = (x : Sent) → sent ≡ Some x → known x.peer

  pub none_of : IsOf None
  none_of x e = absurd (off x e)
    where
      off : (x : Sent) → None ≡ Some x → ⊥
      off x f = cc

  pub fits_sent : (node : TaskNode) (place : ℕ) (sent : Option Sent) → IsOf sent → Fits known node → Fits known (with_sent node place sent)
  fits_sent node place sent g f = record {
    served = f.served;
    agent = f.agent;
    sents = λ p. put_or IsOf node.sents place p sent None (λ e. g) (f.sents p);
    rom = f.rom;
  }

  none_sent : (p : ℕ) → IsOf (get_or no_sents p None)
  none_sent p = subst IsOf (sym (replicate_or 9 p None)) none_of

  pub fits_none : (node : TaskNode) → Fits known node → Fits known (record node { sents = no_sents })
  fits_none node f = record { served = f.served; agent = f.agent; sents = none_sent; rom = f.rom }

module _ (T : Side → Type 0) (known : ℕ → Type 0) (P : Said) where
  abbrev Of : Layer TaskPurpose → OutboxState → Type 0
  Of l o = P l o.packets o.sides

  -- ---- what gives transactions up
  module _ (k : Leaves T known P) where
    ran_at : (l : Layer TaskPurpose) (place : Option ℕ) (m : TaskMachine) (x : Option Outcome) (o : OutboxState) → ((outcome : Outcome) → x ≡ Some outcome → (orb : ℕ) (cdb payload : List ℕ) → T (sides.Ran 0 orb cdb payload outcome)) → Of l o → Of l (tell_ran place m x o)
    ran_at l (Some place) m (Some outcome) o t h = k.tells l o.packets o.sides _ (t outcome refl _ _ _) h
    ran_at l (Some place) m None o t h = h
    ran_at l None m x o t h = h

    dead_at : (l : Layer TaskPurpose) (x : Option FailCause) (o : OutboxState) → Of l o → Of l (tell_dead x o)
    dead_at l None o h = h
    dead_at l (Some cause) o h = k.tells l o.packets o.sides _ (k.node.dead cause) h

    ended_at : (l : Layer TaskPurpose) (place : Option ℕ) (m : TaskMachine) (x : Option StatusKind) (o : OutboxState) → ((status : StatusKind) → x ≡ Some status → (orb : ℕ) → T (sides.Ended 0 orb status)) → Of l o → Of l (tell_ended place m x o)
    ended_at l (Some place) m (Some status) o t h = k.tells l o.packets o.sides _ (t status refl _) h
    ended_at l (Some place) m None o t h = h
    ended_at l None m x o t h = h

    told_at : (l : Layer TaskPurpose) (place : Option ℕ) (m : TaskMachine) (step : TaskStep) (o : OutboxState) → StepTold T step → Of l o → Of l (tell_step place m step o)
    unfolding tell_step
    told_at l place m step o t h =
        let a = tell_ran place m step.ran o in
        ended_at l place m step.ended (tell_dead step.dead a) t.ended (dead_at l step.dead a (ran_at l place m step.ran o t.ran h))

    gives_up : (sent : Option Sent) (l : Layer TaskPurpose) (o : OutboxState) → IsOf known sent → Of l o → Of (disowned sent l) o
    gives_up None l o n h = h
    gives_up (Some sent) l o n h = k.disowns l o.packets o.sides sent.peer sent.label (n sent refl) h

    gives_all : (sents : List (Option Sent)) (l : Layer TaskPurpose) (o : OutboxState) → ((p : ℕ) → IsOf known (get_or sents p None)) → Of l o → Of (all_disowned sents l) o
    unfolding all_disowned
    gives_all [] l o n h = h
    gives_all (sent ∷ sents) l o n h = gives_all sents (disowned sent l) o (λ p. n (suc p)) (gives_up sent l o (n 0) h)

    drops_all : (node : TaskNode) (o : OutboxState) → In known P (scene node o) → In known P (scene (without_sents node) o)
    drops_all node o h =
        let layer = all_disowned node.sents node.layer in
        record { made = gives_all node.sents node.layer o h.fits.sents h.made; fits = fits_none known (record node { layer = layer }) (fits_layer known node layer h.fits) }

    drops : (dead : Option FailCause) (node : TaskNode) (o : OutboxState) → In known P (scene node o) → In known P (scene (dropped_by dead node) o)
    drops None node o h = h
    drops (Some cause) node o h = drops_all node o h

    tells_step : (place : Option ℕ) (m : TaskMachine) (step : TaskStep) (node : TaskNode) (o : OutboxState) → StepTold T step → In known P (scene node o) → In known P (scene node (tell_step place m step o))
    tells_step place m step node o t h = record { made = told_at node.layer place m step o t h.made; fits = h.fits }

    notes_at : (place : Option ℕ) (step : TaskStep) (s : Scene) → StepTold T step → In known P s → In known P (noted place step s)
    notes_at place step s t h =
        tells_step place s.node.agent step (dropped_by step.dead s.node) s.outbox t (drops step.dead s.node s.outbox (record { made = h.made; fits = h.fits }))

    cut_told : (l : Layer TaskPurpose) (b : Bool) (o : OutboxState) → Of l o → Of l (told_cut b o)
    cut_told l true o h = h
    cut_told l false o h = k.tells l o.packets o.sides _ k.node.cut h

    pub cuts_all : (s : Scene) → In known P s → In known P (cut s)
    unfolding cut
    cuts_all s h =
        let d = drops_all s.node s.outbox (record { made = h.made; fits = h.fits }) in
        record {
          made = cut_told (without_sents s.node).layer (is_reset (state_in s.node.agent.fetcher.phase)) s.outbox d.made;
          fits = fits_agent known (without_sents s.node) (reset_all_step s.node.agent) (resets_fit s.node.agent h.fits.agent) d.fits;
        }

  -- ---- what asks
  module _ (k : Keeps T known P) where
    sends : (peer : ℕ) (r : Option Asked × Layer TaskPurpose) (o : OutboxState) → P r.1 (with_asked peer r.0 o.packets) o.sides → Of (sent_by r o peer).1.0 (sent_by r o peer).1.1
    sends peer (Some asked, layer) o h = h
    sends peer (None, layer) o h = h

    requests : (l : Layer TaskPurpose) (o : OutboxState) (peer : ℕ) (body : Body) (place : ℕ) → known peer → FitsRequest body → Of l o → Of (request_step l o peer body place).1.0 (request_step l o peer body place).1.1
    unfolding request_step
    requests l o peer body place n f h = sends peer (asking_step l peer body (purpose_of place)) o (k.asks l o.packets o.sides peer body (purpose_of place) n f h)

    place_leaves : (place : ℕ) (login : Login) (s : Scene) (r : Option LabelParts × (Layer TaskPurpose × OutboxState)) → IsServed known login → In known P s → Of r.1.0 r.1.1 → In known P (place_sent place login.node s.node r).1
    place_leaves place login s (Some label, (layer, outbox)) v h m = record {
      made = m;
      fits = fits_sent known (record s.node { layer = layer }) place (Some (sent_to login.node label)) (λ x e. subst (λ (y : Sent). known y.peer) (same x e) v.there) (fits_layer known s.node layer h.fits);
    }
      where
        same : (x : Sent) → Some (sent_to login.node label) ≡ Some x → sent_to login.node label ≡ x
        same x e = cc
    place_leaves place login s (None, (layer, outbox)) v h m = record { made = m; fits = fits_layer known s.node layer h.fits }

    asks_by : (body : Option Body) (login : Login) (place : ℕ) (s : Scene) → IfBody body → IsServed known login → In known P s → In known P (asked_by body login place s).1
    asks_by None login place s b v h = h
    asks_by (Some body) login place s b v h =
        place_leaves place login s (request_step s.node.layer s.outbox login.node body place) v h (requests s.node.layer s.outbox login.node body place v.there b h.made)

    asks_place : (login : Login) (is_status : Bool) (place : ℕ) (ask : Ask) (s : Scene) → FitsAsk ask → IsServed known login → In known P s → In known P (ask_place login is_status place ask s).1
    unfolding ask_place
    asks_place login is_status place ask s f v h =
        asks_by (body_of_ask ask is_status login.fifo (outgoing_of s.node.agent place)) login place s
        (body_fits ask is_status login.fifo (outgoing_of s.node.agent place) f v.fifo (outgoing_fits s.node.agent place h.fits.agent)) v h

    -- up to one that finds no label
    asks_on : (b : Bool) (login : Login) (is_status : Bool) (place : ℕ) (more : List (ℕ × Ask)) (s : Scene) → In known P (asks_sent login is_status more s).1 → In known P s → In known P (cond b (asks_sent login is_status more s) (Some place, s)).1
    asks_on true login is_status place more s g h = g
    asks_on false login is_status place more s g h = h

    asks_all : (login : Login) (is_status : Bool) (asks : List (ℕ × Ask)) (s : Scene) → AllFit asks → IsServed known login → In known P s → In known P (asks_sent login is_status asks s).1
    unfolding asks_sent
    asks_all login is_status [] s f v h = h
    asks_all login is_status ((place, ask) ∷ more) s f v h =
        let one = ask_place login is_status place ask s in
        let g = asks_place login is_status place ask s f.0 v h in
        asks_on one.0 login is_status place more one.1 (asks_all login is_status more one.1 f.1 v g) g

    steps : (login : Login) (place : Option ℕ) (step : TaskStep) (s : Scene) → AllFit step.asks → StepTold T step → IsServed known login → In known P s → In known P (stepped login place step s).1
    unfolding stepped
    steps login place step s f t v h = asks_all login (is_some step.ended) step.asks (noted place step s) f v (notes_at k.leaves place step s t h)

    pub renews : (m : TaskMachine) (s : Scene) → FitsTasks m → In known P s → In known P (scene (with_agent s.node m) s.outbox)
    renews m s f h = record { made = h.made; fits = fits_agent known s.node m f h.fits }

    pub failed_fits : (m : TaskMachine) (place : ℕ) (answer : Answer) → BytesIn answer → FitsTasks m → FitsTaskStep (failed_step m place answer)
    failed_fits m place answer b f = replies_fit m 0 (plain_disk new_unit no_disk) None place answer tt b f

    loses_at : (login : Login) (place : ℕ) (s : Scene) → IsServed known login → In known P s → In known P (lost_at login place s).1
    loses_at login place s v h =
        let failed = failed_step s.node.agent place NoLabel in
        let f = failed_fits s.node.agent place NoLabel tt h.fits.agent in
        steps login (about s.node.agent place) failed.0 (scene (with_agent s.node failed.1) s.outbox) f.asks (k.leaves.node.failed s.node.agent place NoLabel tt) v (renews failed.1 s f.agent h)

    loses_if : (b : Bool) (login : Login) (place : ℕ) (s : Scene) → IsServed known login → In known P s → In known P (cond b (lost_at login place s) (None, s)).1
    loses_if true login place s v h = loses_at login place s v h
    loses_if false login place s v h = h

    loses : (login : Login) (place : Option ℕ) (s : Scene) → IsServed known login → In known P s → In known P (lose login place s).1
    unfolding lose
    loses login None s v h = h
    loses login (Some place) s v h = loses_if (is_busy place s.node.agent) login place s v h

    settles : (login : Login) (first : Option ℕ × Scene) → IsServed known login → In known P first.1 → In known P (settled login first)
    settles login first v h =
        let second = lose login first.0 first.1 in
        loses login second.0 second.1 v (loses login first.0 first.1 v h)

    pub follows : (login : Login) (place : Option ℕ) (step : TaskStep) (s : Scene) → AllFit step.asks → StepTold T step → IsServed known login → In known P s → In known P (follow login place step s)
    unfolding follow
    follows login place step s f t v h = settles login (stepped login place step s) v (steps login place step s f t v h)

    fetches_by : (r : Bool × Scene) → In known P r.1 → In known P (fetch_sent r).1
    fetches_by (true, s) h = h
    fetches_by (false, s) h = h

    pub fetches : (login : Login) (ask : Ask) (s : Scene) → FitsAsk ask → IsServed known login → In known P s → In known P (fetch login ask s)
    unfolding fetch
    fetches login ask s f v h =
        settles login (fetch_sent (ask_place login false 8 ask s)) v (fetches_by (ask_place login false 8 ask s) (asks_place login false 8 ask s f v h))
