-- What the target tells and what it leaves of the logins, as it follows a step of an agent, cuts lists, clears units and announces a disc.
use Rattle.std.proofs.Common.{◌≡◌, ◌∙◌, refl, sym, ap, subst, ℕ, zero, suc, ◌+◌, nat_lt, Bool, true, false, cond, List, length, Option, Some, None}
use Rattle.std.proofs.Math.ListN.{length-set}
use Rattle.async_packet.specs.Labels.{LabelParts}
use Rattle.async_packet.specs.Packet.{Packet, header_in}
use Rattle.label_table.specs.declared.judgement.Asked.{Asked}
use Rattle.label_table.specs.Bodies.{Body, block_write}
use Rattle.label_table.specs.Layer.{Layer, asking_step, answering_step}
use Rattle.login_table.specs.declared.login.Login.{Login}
use Rattle.login_table.specs.Table.{Table}
use Rattle.media_bay.specs.Unsolicited.{block}
use Rattle.orb_layout.specs.declared.ask.FailCause.{FailCause}
use Rattle.orb_layout.specs.declared.ask.FailCause.TheVariants as causes
use Rattle.orb_layout.specs.declared.status.StatusKind.{StatusKind}
use Rattle.command_agent.specs.declared.phase.Phase.{Phase}
use Rattle.command_agent.specs.declared.phase.Phase.TheVariants as phases
use Rattle.command_agent.specs.declared.step.AgentStep.{AgentStep}
use Rattle.command_agent.specs.declared.step.Which.{Which}
use Rattle.command_agent.specs.declared.step.Which.TheVariants.{Main, Ahead}
use Rattle.command_agent.specs.Machine.{Machine, is_ahead, state_in}
use Rattle.command_agent.specs.Steps.{ahead_lost, is_reset, lost, lost_step, main_lost, quiet}
use Rattle.sbp_journal.specs.declared.cause.CutCause.{CutCause}
use Rattle.sbp_journal.specs.declared.side.Side.{Side}
use Rattle.sbp_journal.specs.declared.side.Side.TheVariants as sides
use Rattle.sbp_journal.specs.Outgoings.{OutboxState}
use Rattle.sbp_target.specs.declared.desk.Desk.{Desk}
use Rattle.sbp_target.specs.declared.purpose.Purpose.{Purpose}
use Rattle.sbp_target.specs.declared.purpose.Purpose.TheVariants as purposes
use Rattle.sbp_target.specs.Agents.{ahead_sent, cut, dropped_by, follow, main_sent, noted, promoted_by, told_cut, without_ahead}
use Rattle.sbp_target.specs.Management.{clear_one, cut_placed}
use Rattle.sbp_target.specs.Nodes.{NodeState, Scene, desk_at, scene, with_agent, with_desk}
use Rattle.sbp_target.specs.Replies.{announced_by}
use Rattle.sbp_target.specs.Sending.{answer_step, answered_by, request_step, sent_by, with_side}
use Rattle.sbp_target.specs.Serving.{answered}
use Rattle.sbp_target.specs.Telling.{tell_dead, tell_ended, tell_ran, tell_step}
use Rattle.sbp_target.specs.Units.{clear_from, clear_unit, cut_all, unsolicited_by}
use Rattle.media_laws.proofs.Ledgers.{Ledger, after_more, after_sides, by_side}
use Rattle.sbp_target.specs.Histories.Moves.{Announced, Behind, asks_ahead, asks_main, loses, pushes, stay, withholds}
use Rattle.sbp_target.proofs.Histories.Moved.{announced_moves, behind_moves, cut_all_moves, cut_placed_moves}
use Rattle.sbp_target.proofs.Histories.Views.{carried, kept}

-- a transaction that fails runs no command
loss_runs : (phase : Phase) (m : Machine) (cause : FailCause) → (main_lost phase m cause).0.ran ≡ None
loss_runs phases.Reset m cause = refl
loss_runs phases.Fetching m cause = refl
loss_runs phases.ReadingTable m cause = refl
loss_runs (phases.ReadingData wanted) m cause = refl
loss_runs phases.Answering m cause = refl
loss_runs phases.WritingStatus m cause = refl
loss_runs phases.ReadingNext m cause = refl
loss_runs phases.WritingLastStatus m cause = refl
loss_runs phases.Suspended m cause = refl
loss_runs phases.Dead m cause = refl

runs_if : (b : Bool) (x y : AgentStep × Machine) → x.0.ran ≡ None → y.0.ran ≡ None → (cond b x y).0.ran ≡ None
runs_if true x y h i = h
runs_if false x y h i = i

loss_by : (m : Machine) (which : Which) (cause : FailCause) → (lost m which cause).0.ran ≡ None
loss_by m Main cause = loss_runs m.phase m cause
loss_by m Ahead cause = runs_if (is_ahead m.ahead) (ahead_lost m cause) (quiet, m) refl refl

pub lost_runs : (m : Machine) (which : Which) (cause : FailCause) → (lost_step m which cause).0.ran ≡ None
unfolding lost_step
lost_runs m which cause = loss_by m which cause

-- The node has this table of logins, and a desk for each place.
pub record Fits (table : Table) (node : NodeState) : Type 0 where
  pub logins : node.logins ≡ table
  pub desks : length node.desks ≡ 8

pub fits_desk : (table : Table) (node : NodeState) (place : ℕ) (desk : Desk) → Fits table node → Fits table (with_desk node place desk)
fits_desk table node place desk f = record { logins = f.logins; desks = length-set node.desks place desk ∙ f.desks }

fits_dropped : (x : Option FailCause) (table : Table) (place : ℕ) (node : NodeState) → Fits table node → Fits table (dropped_by x place node)
unfolding without_ahead
fits_dropped None table place node f = f
fits_dropped (Some cause) table place node f = record { logins = f.logins; desks = length-set node.desks place _ ∙ f.desks }

fits_promoted : (b : Bool) (table : Table) (place : ℕ) (node : NodeState) → Fits table node → Fits table (promoted_by b place node)
fits_promoted false table place node f = f
fits_promoted true table place node f = record { logins = f.logins; desks = length-set node.desks place _ ∙ f.desks }

-- What was told makes this of the places and the media that were at first.
abbrev pub Is : Ledger → Ledger → OutboxState → Type 0
Is first l o = after_sides o.sides first ≡ l

pub record In (first l : Ledger) (table : Table) (s : Scene) : Type 0 where
  pub told : Is first l s.outbox
  pub fits : Fits table s.node

pub tells : (first l : Ledger) (side : Side) (o : OutboxState) → Is first l o → Is first (by_side side l) (with_side o side)
tells first l side o h = after_more o.sides side first ∙ ap (by_side side) h

module _ (first l : Ledger) (table : Table) where
  pub pick : (b : Bool) (x y : Scene) → In first l table x → In first l table y → In first l table (cond b x y)
  pick true x y h i = h
  pick false x y h i = i

  -- ---- what is told

  dead_tells : (place : ℕ) (x : Option FailCause) (o : OutboxState) → Is first l o → Is first l (tell_dead place x o)
  dead_tells place None o h = h
  dead_tells place (Some cause) o h = tells first l (sides.Dead place cause) o h

  ended_tells : (place : ℕ) (m : Machine) (x : Option StatusKind) (o : OutboxState) → Is first l o → Is first l (tell_ended place m x o)
  ended_tells place m None o h = h
  ended_tells place m (Some status) o h = tells first l (sides.Ended place _ status) o h

  step_tells : (place : ℕ) (m : Machine) (step : AgentStep) (o : OutboxState) → Is first l (tell_ran place m step.ran o) → Is first l (tell_step place m step o)
  unfolding tell_step
  step_tells place m step o h =
      let a = tell_ran place m step.ran o in
      ended_tells place m step.ended (tell_dead place step.dead a) (dead_tells place step.dead a h)

  pub notes_tell : (place : ℕ) (step : AgentStep) (s : Scene) → Is first l (tell_ran place (desk_at s.node place).agent step.ran s.outbox) → Fits table s.node → In first l table (noted place step s)
  unfolding noted
  notes_tell place step s h f = record {
    told = step_tells place (desk_at s.node place).agent step s.outbox h;
    fits = fits_promoted step.promoted table place (dropped_by step.dead place s.node) (fits_dropped step.dead table place s.node f);
  }

  -- a step that ran no command
  pub quiet_tells : (place : ℕ) (step : AgentStep) (s : Scene) → step.ran ≡ None → In first l table s → In first l table (noted place step s)
  quiet_tells place step s e h =
      notes_tell place step s (subst (λ x. Is first l (tell_ran place (desk_at s.node place).agent x s.outbox)) (sym e) h.told) h.fits

  -- ---- what is asked tells nothing

  sends : (peer : ℕ) (r : Option Asked × Layer Purpose) (o : OutboxState) → Is first l o → Is first l (sent_by r o peer).1.1
  sends peer (Some asked, layer) o h = h
  sends peer (None, layer) o h = h

  pub requests : (layer : Layer Purpose) (o : OutboxState) (peer : ℕ) (body : Body) (purpose : Purpose) → Is first l o → Is first l (request_step layer o peer body purpose).1.1
  unfolding request_step
  requests layer o peer body purpose h = sends peer (asking_step layer peer body purpose) o h

  answers_by : (r : List ℕ × Layer Purpose) (o : OutboxState) (source : ℕ) → Is first l o → Is first l (answered_by r o source).1
  answers_by (bytes, layer) o source h = h

  pub answers : (request : Packet) (bytes : List ℕ) (rcode : ℕ) (given : List ℕ) (s : Scene) → In first l table s → In first l table (answered request bytes rcode given s)
  unfolding answer_step
  answers request bytes rcode given s h = record {
    told = answers_by (answering_step s.node.layer request bytes rcode given) s.outbox (header_in request).source h.told;
    fits = record { logins = h.fits.logins; desks = h.fits.desks };
  }

  -- ---- what follows a step of an agent

  main_leaves : (place peer : ℕ) (node : NodeState) (r : Option LabelParts × (Layer Purpose × OutboxState)) → Is first l r.1.1 → Fits table node → In first l table (main_sent place peer node r).1
  main_leaves place peer node (Some label, (layer, outbox)) h f = record { told = h; fits = record { logins = f.logins; desks = length-set node.desks place _ ∙ f.desks } }
  main_leaves place peer node (None, (layer, outbox)) h f = record { told = h; fits = record { logins = f.logins; desks = f.desks } }

  ahead_leaves : (place peer : ℕ) (node : NodeState) (r : Option LabelParts × (Layer Purpose × OutboxState)) → Is first l r.1.1 → Fits table node → In first l table (ahead_sent place peer node r).1
  ahead_leaves place peer node (Some label, (layer, outbox)) h f = record { told = h; fits = record { logins = f.logins; desks = length-set node.desks place _ ∙ f.desks } }
  ahead_leaves place peer node (None, (layer, outbox)) h f = record { told = h; fits = record { logins = f.logins; desks = f.desks } }

  behind : (place : ℕ) (login : Login) (x y : Scene) → Behind place login x y → In first l table x → In first l table y
  behind place login _ _ (loses which s e) h =
      let x = lost_step (desk_at s.node place).agent which causes.Label in
      let t = scene (with_agent s.node place x.1) s.outbox in
      let i : In first l table t = record { told = h.told; fits = record { logins = h.fits.logins; desks = length-set s.node.desks place _ ∙ h.fits.desks } } in
      quiet_tells place x.0 t (lost_runs (desk_at s.node place).agent which causes.Label) i
  behind place login _ _ (asks_main ask b body s e) h =
      main_leaves place login.node s.node (request_step s.node.layer s.outbox login.node body (purposes.Agent place)) (requests s.node.layer s.outbox login.node body (purposes.Agent place) h.told) h.fits
  behind place login _ _ (asks_ahead ask body s e) h =
      ahead_leaves place login.node s.node (request_step s.node.layer s.outbox login.node body (purposes.Agent place)) (requests s.node.layer s.outbox login.node body (purposes.Agent place) h.told) h.fits

  -- what was noted is followed
  pub follows : (place : ℕ) (login : Login) (step : AgentStep) (s : Scene) → In first l table (noted place step s) → In first l table (follow place login step s)
  follows place login step s h =
      let t = noted place step s in
      kept (Behind place login) (In first l table) (behind place login) t _ (behind_moves (Behind place login) place login (λ x y m. m) t step s (stay t)) h

  -- ---- cuts and cleared units

  cut_tells : (b : Bool) (place : ℕ) (cause : CutCause) (o : OutboxState) → Is first l o → Is first l (told_cut b place cause o)
  cut_tells true place cause o h = h
  cut_tells false place cause o h = tells first l (sides.Cut place cause) o h

  pub cuts_at : (cause : CutCause) (place : ℕ) (s : Scene) → In first l table s → In first l table (cut cause place s)
  unfolding cut
  cuts_at cause place s h = record {
    told = cut_tells (is_reset (state_in (desk_at s.node place).agent.phase)) place cause s.outbox h.told;
    fits = record { logins = h.fits.logins; desks = length-set s.node.desks place _ ∙ h.fits.desks };
  }

  abbrev Carries : Scene → Scene → Type 0
  Carries x y = In first l table x → In first l table y

  pub cuts_all : (cause : CutCause) (unit : Option ℕ) (s : Scene) → In first l table s → In first l table (cut_all cause unit s)
  cuts_all cause unit s h = carried (In first l table) s _ (cut_all_moves Carries cuts_at s cause unit s (stay s)) h

  pub cuts_placed : (place : Option ℕ) (cause : CutCause) (s : Scene) → In first l table s → In first l table (cut_placed place cause s)
  cuts_placed place cause s h = carried (In first l table) s _ (cut_placed_moves Carries cuts_at s place cause s (stay s)) h

  clears : (unit : ℕ) (s : Scene) → In first l table s → In first l table (clear_unit unit s)
  unfolding clear_unit
  clears unit s h = record { told = tells first l (sides.Cleared unit) s.outbox h.told; fits = record { logins = h.fits.logins; desks = h.fits.desks } }

  pub clears_from : (left unit : ℕ) (s : Scene) → In first l table s → In first l table (clear_from left unit s)
  unfolding clear_from
  clears_from zero unit s h = h
  clears_from (suc left) unit s h = clears_from left (unit + 1) (clear_unit unit s) (clears unit s h)

  pub clears_one : (unit : ℕ) (s : Scene) → In first l table s → In first l table (clear_one unit s)
  clears_one unit s h = pick (nat_lt unit (length s.node.units)) (clear_unit unit s) s (clears unit s h) h

  -- ---- unsolicited statuses

  disc_tells : (place peer : ℕ) (node : NodeState) (r : Option LabelParts × (Layer Purpose × OutboxState)) → Is first l r.1.1 → Fits table node → In first l table (unsolicited_by place peer node r)
  disc_tells place peer node (Some label, (layer, outbox)) h f = record {
    told = tells first l (sides.Unsolicited place) outbox h;
    fits = record { logins = f.logins; desks = length-set node.desks place _ ∙ f.desks };
  }
  disc_tells place peer node (None, (layer, outbox)) h f = record { told = tells first l (sides.Unsent place) outbox h; fits = record { logins = f.logins; desks = f.desks } }

  announced : (unit from : ℕ) (x y : Scene) → Announced unit from x y → In first l table x → In first l table y
  announced unit from _ _ (pushes place login s e) h =
      let body = block_write login.fifo block in
      disc_tells place login.node s.node (request_step s.node.layer s.outbox login.node body purposes.Unsolicited) (requests s.node.layer s.outbox login.node body purposes.Unsolicited h.told) h.fits
  announced unit from _ _ (withholds place login s e) h = record { told = tells first l (sides.Unsent place) s.outbox h.told; fits = h.fits }

  pub announces_by : (b : Bool) (unit place : ℕ) (s : Scene) → In first l table s → In first l table (announced_by b unit place s)
  announces_by b unit place s h =
      kept (Announced unit place) (In first l table) (announced unit place) s _ (announced_moves (Announced unit place) unit place (λ x y m. m) s b s (stay s)) h
