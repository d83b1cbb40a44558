-- At a place of a run the agent that has an ORB aborted is not in RESET: it waits for more of the ORB, or a reply took it on from there.
use Rattle.std.proofs.Common.{◌≡◌, ◌∙◌, refl, sym, ap, subst, ◌<◌, ℕ, ◌==◌, ◌&&◌, not, Bool, true, false, cond, List, Some}
use Rattle.command_agent.specs.declared.phase.Phase.{Phase}
use Rattle.command_agent.specs.declared.phase.Phase.TheVariants as phases
use Rattle.command_agent.specs.declared.step.Which.TheVariants.{Ahead, Main}
use Rattle.command_agent.specs.Machine.{awaits_run, state_in}
use Rattle.command_agent.specs.Steps.{is_reset, lost_step}
use Rattle.orb_layout.specs.declared.ask.Ask.TheVariants.{Nothing}
use Rattle.orb_layout.specs.declared.ask.FailCause.TheVariants as causes
use Rattle.rbc_disk.specs.Disk.{Disk}
use Rattle.sbp_journal.specs.Run.{Moment}
use Rattle.sbp_laws.specs.Aborts.{is_aborted}
use Rattle.sbp_laws.specs.Targets.{Agent, Target, agent_at, agent_over, is_nothing, main_lost, moved, over, sends_of, target_at, wants}
use Rattle.sbp_world.specs.Lists.Needs.{machine_at}
use Rattle.sbp_world.specs.Worlds.{WorldState}
use Rattle.sbp_world.proofs.Agents.Management.Still.{hist}
use Rattle.sbp_world.proofs.Common.{and_first, and_second, untrue}
use Rattle.sbp_world.proofs.Lists.AgentFolds.{AreLasting, AreSo, Every, over_still}
use Rattle.sbp_world.proofs.Lists.OpenCuts.{is_up}
use Rattle.sbp_world.proofs.Lists.RepliesStayUp.{lost_up, reply_up}
use Rattle.sbp_world.proofs.Lists.Sites.{Site}
use Rattle.turn_laws.proofs.AbortHistory.{AreMarked, new_same}

abbrev UpFrom : (ℕ → Agent) → ℕ → Agent → Type 0
UpFrom first q a = is_up (first q).machine ≡ true → is_up a.machine ≡ true

module _ (first : ℕ → Agent) where
  abbrev From : ℕ → Agent → Type 0
  From q a = UpFrom first q a

  sends : (q : ℕ) (a : Agent) (is_write : Bool) (serial : ℕ) → Every serial → From q a → From q (sends_of is_write serial a)
  sends q a is_write serial may h = by (wants a.asks is_write) (wants a.asks_ahead is_write)
    where
      by : (x y : Bool) → From q (cond x (record a { main = Some serial; asks = Nothing }) (cond y (record a { ahead = Some serial; asks_ahead = Nothing }) a))
      by true y = h
      by false true = h
      by false false = h

  loses : (q : ℕ) (a : Agent) → From q a → From q (main_lost a)
  loses q a h = by (is_nothing a.asks)
    where
      by : (b : Bool) → From q (cond b a (moved (lost_step a.machine Main causes.Label) a))
      by true = h
      by false = λ u. lost_up a.machine Main causes.Label (h u)

  ends : (q : ℕ) (a : Agent) → From q a → From q (agent_over a)
  ends q a h = by (is_nothing (main_lost a).asks_ahead)
    where
      k : From q (main_lost a)
      k = loses q a h

      by : (b : Bool) → From q (cond b (main_lost a) (record (main_lost a) { machine = (lost_step (main_lost a).machine Ahead causes.Label).1; asks_ahead = Nothing }))
      by true = k
      by false = λ u. lost_up (main_lost a).machine Ahead causes.Label (k u)

  lasts : AreLasting (UpFrom first) Every
  lasts = record {
    untells = λ q a b h. h;
    sends = sends;
    loses = loses;
    ends = ends;
    stays = λ q which answer plain told b h. subst (λ m. is_up (first q).machine ≡ true → is_up m ≡ true) (new_same q plain told which answer) h;
  }

up_over : (t : Target) (q : ℕ) → is_up (agent_at t q).machine ≡ true → is_up (agent_at (over t) q).machine ≡ true
up_over t q = (over_still (UpFrom (λ p. agent_at t p)) (lasts (λ p. agent_at t p)) t so).agents q
  where
    so : AreSo (UpFrom (λ p. agent_at t p)) t
    so = record { agents = λ p e u. u; pending = λ reply e plain told b u. reply_up (agent_at t reply.place).machine reply.place plain told reply.which reply.answer u }

pub awaits_up : (phase : Phase) → awaits_run phase ≡ true → not (is_reset (state_in phase)) ≡ true
awaits_up phases.Fetching e = refl
awaits_up phases.ReadingTable e = refl
awaits_up (phases.ReadingData wanted) e = refl
awaits_up phase e = untrue e

pub not_true : (b : Bool) → not b ≡ true → b ≡ false
not_true true e = untrue e
not_true false e = refl

pub aborted_up : (start : List Disk) (past : List Moment) (w : WorldState) → Site start past w → AreMarked start (hist past w) → (p address : ℕ) → p < 8 → is_aborted start (hist past w) p address ≡ true → is_reset (state_in (machine_at w p).phase) ≡ false
aborted_up start past w site marked p address b e =
    let a = agent_at (target_at start (hist past w)) p in
    let unrun : ((a.machine.present == address) && awaits_run a.machine.phase) ≡ true = and_first ((a.machine.present == address) && awaits_run a.machine.phase) a.machine.aborted (sym (marked p address) ∙ e) in
    let up = up_over (target_at start (hist past w)) p (awaits_up a.machine.phase (and_second (a.machine.present == address) (awaits_run a.machine.phase) unrun)) in
    not_true (is_reset (state_in (machine_at w p).phase)) (ap (λ x. not (is_reset (state_in x))) (sym (site.agents.are.each p b).machine.phase) ∙ up)
