-- What is said of the machine of each agent of the terms of the target, by its place, where each step of an agent keeps it: what is done with an agent keeps it.
use Rattle.sbp_world.proofs.Words.Std.{◌≡◌, refl, sym, subst, ℕ, Bool, true, false, cond, Option}
use Rattle.sbp_world.proofs.Words.Target.{Which, Ahead, Main, Machine, new_machine, abort_step, doorbell_step, lost_step, point_step, reply_step, reset_step, Told, PlainDisk}
use Rattle.sbp_world.proofs.Words.Initiator.{OrbPointer, Answer, Expired}
use Rattle.sbp_world.proofs.Words.Laws.{Agent, Reply, Target, ahead_lost, is_nothing, main_lost, moved, over, sends_of, wants}
use Rattle.orb_layout.specs.declared.ask.FailCause.TheVariants as causes
use Rattle.sbp_world.proofs.Lists.AgentFolds as agents
use Rattle.sbp_world.proofs.Lists.AgentFolds.{AreKept, Every}

-- it is kept by each step
pub record IsKept (P : ℕ → Machine → Type 0) : Type 0 where
  pub new : (q : ℕ) → P q new_machine
  pub cut : (q : ℕ) (m : Machine) → P q (reset_step m)
  pub aborted : (q : ℕ) (m : Machine) (orb : ℕ) → P q m → P q (abort_step m orb)
  pub pointed : (q : ℕ) (m : Machine) (pointer : OrbPointer) → P q m → P q (point_step m pointer).1
  pub rung : (q : ℕ) (m : Machine) → P q m → P q (doorbell_step m).1
  pub lost : (q : ℕ) (m : Machine) (which : Which) → P q m → P q (lost_step m which causes.Label).1
  pub late : (q : ℕ) (m : Machine) (plain : PlainDisk) (told : Option Told) (which : Which) → P q m → P q (reply_step m q plain told which Expired).1
  pub unheard : (q : ℕ) (plain : PlainDisk) (told : Option Told) (which : Which) (answer : Answer) → P q (reply_step new_machine q plain told which answer).1

-- a packet that is sent leaves the machine
sends_machine : (is_write : Bool) (serial : ℕ) (a : Agent) → (sends_of is_write serial a).machine ≡ a.machine
sends_machine is_write serial a = by (wants a.asks is_write) (wants a.asks_ahead is_write) _ _ refl refl
  where
    by : (b c : Bool) (x y : Agent) → x.machine ≡ a.machine → y.machine ≡ a.machine → (cond b x (cond c y a)).machine ≡ a.machine
    by true c x y e f = e
    by false true x y e f = f
    by false false x y e f = refl

module _ (P : ℕ → Machine → Type 0) where
  -- of an agent, by its machine
  abbrev pub Of : ℕ → Agent → Type 0
  Of q a = P q a.machine

  -- as the reply takes its agent on
  abbrev pub Pends : Machine → Reply → Type 0
  Pends m reply = (plain : PlainDisk) (told : Option Told) → P reply.place (reply_step m reply.place plain told reply.which reply.answer).1

  abbrev pub AreSo : Target → Type 0
  AreSo t = agents.AreSo Of t

  -- and no reply waits
  abbrev pub AreStill : Target → Type 0
  AreStill t = agents.AreStill Of t

  pub so : (t : Target) → AreStill t → AreSo t
  so t h = agents.so Of t h

module _ (P : ℕ → Machine → Type 0) (kept : IsKept P) where
  main_kept : (q : ℕ) (a : Agent) → P q a.machine → P q (main_lost a).machine
  main_kept q a h = by (is_nothing a.asks)
    where
      by : (b : Bool) → P q (cond b a (moved (lost_step a.machine Main causes.Label) a)).machine
      by true = h
      by false = kept.lost q a.machine Main h

  ahead_kept : (q : ℕ) (a : Agent) → P q a.machine → P q (ahead_lost a).machine
  ahead_kept q a h = by (is_nothing a.asks_ahead) _ refl
    where
      by : (b : Bool) (x : Agent) → x.machine ≡ (lost_step a.machine Ahead causes.Label).1 → P q (cond b a x).machine
      by true x e = h
      by false x e = subst (P q) (sym e) (kept.lost q a.machine Ahead h)

  pub are_kept : AreKept (Of P) Every
  are_kept = record {
    lasting = record {
      untells = λ q a b h. h;
      sends = λ q a is_write serial may h. subst (P q) (sym (sends_machine is_write serial a)) h;
      loses = main_kept;
      ends = λ q a h. ahead_kept q (main_lost a) (main_kept q a h);
      stays = λ q which answer plain told b h. kept.new q;
    };
    cuts = λ q a h. kept.cut q a.machine;
  }

  pub over_still : (t : Target) → AreSo P t → AreStill P (over t)
  over_still t h = agents.over_still (Of P) are_kept.lasting t h
