-- Moment by moment an agent of the terms that is in RESET stays so, but where the target gets a packet: a write of ORB_POINTER alone takes it out of RESET.
use Rattle.sbp_world.proofs.Words.Std.{◌≡◌, ◌∙◌, refl, ap, ℕ, Bool, true, false, cond, List, [], ◌∷◌, ◌++◌, Option, Some}
use Rattle.sbp_world.proofs.Words.Wire.{Moment, asked, said, Note}
use Rattle.sbp_world.proofs.Words.Target.{Phase, Which, Ahead, Main, Machine, Disk, Told, PlainDisk}
use Rattle.sbp_world.proofs.Words.Initiator.{Nothing, FailCause, Answer}
use Rattle.sbp_world.proofs.Words.Laws.{Agent, Reply, agent_at, agent_over, ahead_lost, closed, is_nothing, known_at, main_lost, moved, over, sends_of, target_at, wants}
use Rattle.sbp_world.proofs.Words.World.{IsCut}
use Rattle.command_agent.specs.declared.phase.Phase.TheVariants as phases
use Rattle.command_agent.specs.Steps as steps
use Rattle.orb_layout.specs.declared.ask.FailCause.TheVariants as causes
use Rattle.sbp_journal.specs.declared.note.Note.TheVariants as notes
use Rattle.sbp_world.proofs.Lists.AgentGoes.{AreGoing, IsNoGot, ends_turn, note_goes}
use Rattle.sbp_world.proofs.Lists.MainSteps.{lost_quiet, read_quiet}
use Rattle.sbp_world.proofs.Lists.MainStays.{abort_phase, reset_phase}

-- ---- an agent
abbrev Rests : Agent → Agent → Type 0
Rests before now = IsCut before → IsCut now

-- a reply or a loss leaves it there
main_stays : (m : Machine) (place : ℕ) (plain : PlainDisk) (told : Option Told) (answer : Answer) → m.phase ≡ phases.Reset → (steps.reply_step m place plain told Main answer).1.phase ≡ phases.Reset
unfolding steps.reply_step
main_stays m place plain told answer e = ap (λ (x : Phase). let a = steps.advanced x m answer in (steps.served place plain (steps.told_or told) a.0 a.1).1.phase) e ∙ e

reply_stays : (m : Machine) (place : ℕ) (plain : PlainDisk) (told : Option Told) (which : Which) (answer : Answer) → m.phase ≡ phases.Reset → (steps.reply_step m place plain told which answer).1.phase ≡ phases.Reset
reply_stays m place plain told Main answer e = main_stays m place plain told answer e
reply_stays m place plain told Ahead answer e = (read_quiet m place plain told answer).phase ∙ e

lost_main : (m : Machine) (cause : FailCause) → m.phase ≡ phases.Reset → (steps.lost_step m Main cause).1.phase ≡ phases.Reset
unfolding steps.lost_step
lost_main m cause e = ap (λ (x : Phase). (steps.main_lost x m cause).1.phase) e ∙ e

main_loses : (a : Agent) → Rests a (main_lost a)
main_loses a e = by (is_nothing a.asks)
  where
    by : (b : Bool) → IsCut (cond b a (moved (steps.lost_step a.machine Main causes.Label) a))
    by true = e
    by false = lost_main a.machine causes.Label e

ahead_loses : (a : Agent) → Rests a (ahead_lost a)
ahead_loses a e = by (is_nothing a.asks_ahead)
  where
    by : (b : Bool) → IsCut (cond b a (record a { machine = (steps.lost_step a.machine Ahead causes.Label).1; asks_ahead = Nothing }))
    by true = e
    by false = (lost_quiet a.machine causes.Label).phase ∙ e

ends : (a : Agent) → Rests a (agent_over a)
ends a e = ahead_loses (main_lost a) (main_loses a e)

sends : (is_write : Bool) (serial : ℕ) (a : Agent) → Rests a (sends_of is_write serial a)
sends is_write serial a e = by (wants a.asks is_write) (wants a.asks_ahead is_write)
  where
    by : (x y : Bool) → IsCut (cond x (record a { main = Some serial; asks = Nothing }) (cond y (record a { ahead = Some serial; asks_ahead = Nothing }) a))
    by true y = e
    by false true = e
    by false false = e

replies : (a : Agent) (reply : Reply) (plain : PlainDisk) (told : Option Told) → Rests a (moved (steps.reply_step a.machine reply.place plain told reply.which reply.answer) (closed reply.which a))
replies a reply plain told e = reply_stays a.machine reply.place plain told reply.which reply.answer e

are_going : AreGoing Rests
are_going = record {
  self = λ a e. e;
  onward = λ a b c f g e. g (f e);
  untells = λ a b e. e;
  replies = replies;
  loses = main_loses;
  ends = ends;
  sends = λ a is_write serial e. sends is_write serial a e;
  cuts = λ a e. reset_phase a.machine;
  aborts = λ a orb e. abort_phase a.machine orb ∙ e;
  enters = λ a e. refl;
}

-- ---- a history
abbrev pub IsUngot : Moment → Type 0
IsUngot (said (notes.Got serial)) = ⊥
IsUngot moment = Unit {0}

-- no packet is got
abbrev pub AreUngot : List Moment → Type 0
AreUngot [] = Unit {0}
AreUngot (m ∷ later) = IsUngot m × AreUngot later

ungot : (note : Note) → IsUngot (said note) → IsNoGot note
ungot (notes.Got serial) u = u
ungot note u = tt

module _ (start : List Disk) (p : ℕ) where
  moment_rests : (m : Moment) (past : List Moment) → IsUngot m → IsCut (agent_at (target_at start past) p) → IsCut (agent_at (target_at start (m ∷ past)) p)
  moment_rests (asked line event) past u e = ends_turn Rests are_going (target_at start past) p e
  moment_rests (said note) past u e = note_goes Rests are_going note past (known_at start past).wire (target_at start past) (ungot note u) p e

  pub cut_stays_so : (later past : List Moment) → AreUngot later → IsCut (agent_at (target_at start past) p) → IsCut (agent_at (target_at start (later ++ past)) p)
  cut_stays_so [] past u e = e
  cut_stays_so (m ∷ later) past u e = moment_rests m (later ++ past) u.0 (cut_stays_so later past u.1 e)

  pub cut_over : (past : List Moment) → IsCut (agent_at (target_at start past) p) → IsCut (agent_at (over (target_at start past)) p)
  cut_over past e = ends_turn Rests are_going (target_at start past) p e
