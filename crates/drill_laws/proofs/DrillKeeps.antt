-- What an agent of the terms keeps, where it is never put into RESET: what was its main transaction is that until it is answered, and it drops its read ahead once at most, as it dies.
use Rattle.std.proofs.Common.{◌≡◌, ◌∙◌, ◌⊎◌, inl, inr, refl, sym, ap, ℕ, not, Bool, true, false, cond, Option, None, Result, Ok, Err}
use Rattle.command_agent.specs.Machine.{Machine, is_ahead, is_sent}
use Rattle.command_agent.specs.Steps.{doorbell_step, lost_step}
use Rattle.command_agent.specs.declared.step.AgentStep.{AgentStep}
use Rattle.command_agent.specs.declared.step.PointRefusal.{PointRefusal}
use Rattle.command_agent.specs.declared.step.Which.TheVariants.{Ahead, Main}
use Rattle.orb_layout.specs.declared.ask.Ask.{Ask}
use Rattle.orb_layout.specs.declared.ask.Ask.TheVariants.{Nothing}
use Rattle.orb_layout.specs.declared.ask.FailCause.TheVariants as causes
use Rattle.sbp_laws.specs.Targets.{Agent, agent_over, is_nothing, main_lost, moved, pointed_by, rings, sends_of}
use Rattle.sbp_target.proofs.Histories.Stepped.{Fit, Lost, Over, ahead_loses, main_loses}
use Rattle.sbp_world.proofs.Common.{none_is}
use Rattle.sbp_world.proofs.Completing.DeadKnownSteps.{is_alive}
use Rattle.sbp_world.proofs.Lists.MainSteps.{doorbell_rung, main_is_lost}
use Rattle.drill_laws.proofs.DrillAgents.{Fits, IsBell, IsPointed, IsTaken, Owns, alive_none, asked_not, bell_of, by_ahead, by_last, by_main, kept, kept_ahead, kept_last, lost_ahead, none_ahead, sends_new}
use Rattle.drill_laws.proofs.DrillDies.{IsLast, loss_dies}

-- ---- of what is under way
module _ (Live : ℕ → Type 0) where
  pub record After (a : Agent) (last : Option ℕ) (b : Agent) : Type 0 where
    pub now : Option ℕ
    pub fits : Fits b now
    pub owns : (s : ℕ) → Live s → Owns a last s → Owns b now s

  abbrev pub Keeps : Agent → Agent → Type 0
  Keeps a b = (last : Option ℕ) → Fits a last → After a last b

  pub self : (a : Agent) → Keeps a a
  self a last f = record { now = last; fits = f; owns = λ s live o. o }

  pub then_keeps : (a b c : Agent) → Keeps a b → Keeps b c → Keeps a c
  then_keeps a b c f g last h =
      let x = f last h in
      let y = g x.now x.fits in
      record { now = y.now; fits = y.fits; owns = λ s live o. y.owns s live (x.owns s live o) }

  own_same : (a b : Agent) (last : Option ℕ) (s : ℕ) → b.main ≡ a.main → b.ahead ≡ a.ahead → Owns a last s → Owns b last s
  own_same a b last s e f (by_main h) = by_main (e ∙ h)
  own_same a b last s e f (by_ahead h) = by_ahead (f ∙ h)
  own_same a b last s e f (by_last h) = by_last h

  pub untold : (a : Agent) (b : Bool) → Keeps a (record a { untold = b })
  untold a b last f = record {
    now = last;
    fits = record { fit = f.fit; none = f.none; asks = f.asks; idle = f.idle; reads = f.reads; over = f.over };
    owns = λ s live o. own_same a (record a { untold = b }) last s refl refl o;
  }

  -- ---- a main transaction that finds no label
  pub loses : (a : Agent) → Keeps a (main_lost a)
  loses a = by (is_nothing a.asks) refl
    where
      step : AgentStep × Machine
      step = lost_step a.machine Main causes.Label

      by : (b : Bool) → is_nothing a.asks ≡ b → Keeps a (cond b a (moved step a))
      by true e last f = self a last f
      by false e last f = record {
        now = kept a.ahead last;
        fits = record {
          fit = l.behind.fit;
          none = λ h. main;
          asks = λ h. (main, (main_is_lost a.machine causes.Label).sound.asks h);
          idle = λ h. ahead;
          reads = λ h. asked_not step.0.ahead l.unasked h;
          over = inr (loss_dies a.machine causes.Label up);
        };
        owns = own;
      }
        where
          up : is_sent a.machine.phase ≡ true
          up = (f.asks e).1

          l : Lost (is_ahead a.machine.ahead) step
          l = main_loses a.machine causes.Label up f.fit

          main : (moved step a).main ≡ None
          main = ap (λ b. cond b a.ahead a.main) l.unturned ∙ (f.asks e).0

          ahead : (moved step a).ahead ≡ None
          ahead = lost_ahead step.0.promoted (is_ahead step.1.ahead) a.ahead l.idle

          own : (s : ℕ) → Live s → Owns a last s → Owns (moved step a) (kept a.ahead last) s
          own s live (by_main h) = none_is s (sym (f.asks e).0 ∙ h)
          own s live (by_ahead h) = by_last (kept_ahead a last f s h)
          own s live (by_last h) = by_last (kept_last a last f s h)

  -- a turn is over
  pub ends : (a : Agent) → Keeps a (agent_over a)
  ends a = then_keeps a x (agent_over a) (loses a) (rest (is_nothing x.asks_ahead) refl)
    where
      x : Agent
      x = main_lost a

      lost : AgentStep × Machine
      lost = lost_step x.machine Ahead causes.Label

      y : Bool → Agent
      y b = record (cond b x (record x { machine = lost.1; asks_ahead = Nothing })) { asks = Nothing }

      rest : (b : Bool) → is_nothing x.asks_ahead ≡ b → Keeps x (y b)
      rest true e last f = record {
        now = last;
        fits = record { fit = f.fit; none = f.none; asks = λ h. absurd (cc h); idle = f.idle; reads = f.reads; over = f.over };
        owns = λ s live o. own_same x (y true) last s refl refl o;
      }
      rest false e last f =
          let read = f.reads e in
          let o : Over x.machine lost = ahead_loses x.machine causes.Label read.1 f.fit in
          record {
            now = last;
            fits = record {
              fit = o.fit;
              none = λ h. f.none (ap is_sent (sym o.phase) ∙ h);
              asks = λ h. absurd (cc h);
              idle = λ h. read.0;
              reads = λ h. absurd (cc h);
              over = over_as o.phase f.over;
            };
            owns = λ s live w. own_same x (y false) last s refl refl w;
          }
        where
          over_as : lost.1.phase ≡ x.machine.phase → (last ≡ None) ⊎ IsLast x.machine → (last ≡ None) ⊎ IsLast lost.1
          over_as e (inl n) = inl n
          over_as e (inr o) = inr (ap is_alive e ∙ o)

  -- ---- ORB_POINTER and DOORBELL
  pub pointed_keeps : (r : Result Ask PointRefusal × Machine) (pointer : ℕ) (a : Agent) → (Fit a.machine → IsPointed a.machine r) → Keeps a (pointed_by r pointer a)
  pointed_keeps (Err refusal, machine) pointer a h last f = self a last f
  pointed_keeps (Ok ask, machine) pointer a h last f =
      let p = h f.fit in
      let ahead_none : a.ahead ≡ None = f.idle p.bare in
      record {
        now = last;
        fits = record {
          fit = p.fit;
          none = λ e. f.none p.rests;
          asks = λ e. (f.none p.rests, p.goes);
          idle = λ e. none_ahead (not (is_ahead machine.ahead)) a.ahead ahead_none;
          reads = λ e. absurd (cc e);
          over = inl (alive_none a last f p.alive);
        };
        owns = own f p;
      }
    where
      own : Fits a last → IsTaken a.machine (ask, machine) → (s : ℕ) → Live s → Owns a last s → Owns (pointed_by (Ok ask, machine) pointer a) last s
      own f p s live (by_main e) = by_main e
      own f p s live (by_ahead e) = none_is s (sym (f.idle p.bare) ∙ e)
      own f p s live (by_last e) = by_last e

  pub rung : (a : Agent) → Keeps a (rings a)
  rung a last f =
      let r = doorbell_rung a.machine in
      let b = bell_of a.machine f.fit in
      record {
        now = last;
        fits = record {
          fit = b.fit;
          none = λ e. f.none (r.rests e);
          asks = λ e. (f.none (r.asks e).0, (r.asks e).1);
          idle = λ e. f.idle (sym b.ahead ∙ e);
          reads = λ e. ((f.reads e).0, b.ahead ∙ (f.reads e).1);
          over = over_as b f.over;
        };
        owns = λ s live o. own_same a (rings a) last s refl refl o;
      }
    where
      over_as : IsBell a.machine (doorbell_step a.machine) → (last ≡ None) ⊎ IsLast a.machine → (last ≡ None) ⊎ IsLast (doorbell_step a.machine).1
      over_as b (inl n) = inl n
      over_as b (inr o) = inr (b.last o)

  -- ---- it sends what it asks for
  pub sends : (is_write : Bool) (serial : ℕ) (a : Agent) → Keeps a (sends_of is_write serial a)
  sends is_write serial a last f = let x = sends_new is_write serial a last f in record { now = last; fits = x.fits; owns = λ s live o. x.owns s o }
