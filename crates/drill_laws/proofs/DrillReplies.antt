-- A reply takes an agent on: it keeps what it waits for, but for the transaction that was answered; and it drops its read ahead only as it dies.
use Rattle.std.proofs.Common.{◌≡◌, ◌∙◌, ◌⊎◌, inl, inr, refl, sym, ap, subst, ℕ, ◌&&◌, ◌||◌, not, is_some, Bool, true, false, cond, Option, Some, None}
use Rattle.command_agent.specs.Machine.{Machine, is_ahead, is_sent}
use Rattle.command_agent.specs.Steps.{reply_step}
use Rattle.command_agent.specs.declared.step.AgentStep.{AgentStep}
use Rattle.command_agent.specs.declared.step.Which.{Which}
use Rattle.command_agent.specs.declared.step.Which.TheVariants.{Ahead, Main}
use Rattle.orb_layout.specs.Replies.{Answer}
use Rattle.rbc_disk.specs.Runs.{Told}
use Rattle.rbc_disk.specs.Units.{PlainDisk}
use Rattle.sbp_laws.specs.Targets.{Agent, closed, is_nothing, moved}
use Rattle.sbp_target.proofs.Histories.Stepped.{Behind, Fit, ahead_replied, is_asked, main_replied}
use Rattle.sbp_world.specs.Agents.AskedRuns.{serial_of}
use Rattle.sbp_world.proofs.Common.{none_is, untrue}
use Rattle.sbp_world.proofs.Completing.DeadKnownSteps.{is_alive}
use Rattle.sbp_world.proofs.Lists.MainSteps.{IsQuiet, IsSound, main_sound, read_quiet}
use Rattle.drill_laws.proofs.DrillAgents.{Fits, Owns, by_ahead, by_last, by_main, died, kept, kept_ahead, kept_last, lost_ahead, none_ahead, none_read, nothing_is, same_ahead}
use Rattle.drill_laws.proofs.DrillDies.{IsLast, reply_dies, reply_stays}
use Rattle.drill_laws.proofs.DrillKeeps.{After, Keeps}

module _ (Live : ℕ → Type 0) where
  -- ---- a reply takes it on
  -- what is answered is under way no more
  abbrev pub Closes : Which → Agent → Type 0
  Closes which a = (s : ℕ) → serial_of which a ≡ Some s → Live s → ⊥

  module _ (a : Agent) (place : ℕ) (plain : PlainDisk) (told : Option Told) (answer : Answer) where
    abbrev main_step : AgentStep × Machine
    main_step = reply_step a.machine place plain told Main answer

    abbrev ahead_stepped : AgentStep × Machine
    ahead_stepped = reply_step a.machine place plain told Ahead answer

    pub replies_main : Closes Main a → Keeps Live a (moved main_step (closed Main a))
    replies_main closes last f = by main_step.0.promoted (is_ahead main_step.1.ahead) refl refl
      where
        now : Agent
        now = moved main_step (closed Main a)

        B : Behind (is_ahead a.machine.ahead) main_step
        B = main_replied a.machine place plain told answer f.fit

        sound : IsSound main_step
        sound = main_sound a.machine place plain told answer

        main_is : (p : Bool) → main_step.0.promoted ≡ p → now.main ≡ cond p a.ahead None
        main_is p e = ap (λ b. cond b a.ahead None) e

        none_by : (p : Bool) → main_step.0.promoted ≡ p → is_sent main_step.1.phase ≡ false → now.main ≡ None
        none_by true g e = untrue (sym e ∙ (sound.promotes g).1)
        none_by false g e = main_is false g

        asks_by : (p : Bool) → main_step.0.promoted ≡ p → is_nothing main_step.0.ask ≡ false → (now.main ≡ None) × (is_sent main_step.1.phase ≡ true)
        asks_by true g e = untrue (sym e ∙ (sound.promotes g).0)
        asks_by false g e = (main_is false g, sound.asks e)

        reads_by : is_nothing main_step.0.ahead ≡ false → (now.ahead ≡ None) × (is_ahead main_step.1.ahead ≡ true)
        reads_by e =
            let asked = nothing_is main_step.0.ahead e in
            let had = is_ahead a.machine.ahead in
            (none_ahead (main_step.0.promoted || not (is_ahead main_step.1.ahead)) a.ahead (f.idle (B.alone asked).0), B.ahead ∙ ap (λ b. b || (had && not (is_some main_step.0.dead || main_step.0.promoted))) asked)

        fits : (l : Option ℕ) → (l ≡ None) ⊎ IsLast main_step.1 → Fits now l
        fits l o = record {
          fit = B.fit;
          none = λ e. none_by main_step.0.promoted refl e;
          asks = λ e. asks_by main_step.0.promoted refl e;
          idle = λ e. lost_ahead main_step.0.promoted (is_ahead main_step.1.ahead) a.ahead e;
          reads = reads_by;
          over = o;
        }

        over_by : (last ≡ None) ⊎ IsLast a.machine → (last ≡ None) ⊎ IsLast main_step.1
        over_by (inl n) = inl n
        over_by (inr o) = inr (reply_stays a.machine place plain told answer o)

        over : (last ≡ None) ⊎ IsLast main_step.1
        over = over_by f.over

        -- its read ahead becomes its main transaction
        turned : main_step.0.promoted ≡ true → (s : ℕ) → Live s → Owns a last s → Owns now last s
        turned e s live (by_main h) = absurd (closes s h live)
        turned e s live (by_ahead h) = by_main (main_is true e ∙ h)
        turned e s live (by_last h) = by_last h

        -- it stays
        stays : now.ahead ≡ a.ahead → (s : ℕ) → Live s → Owns a last s → Owns now last s
        stays e s live (by_main h) = absurd (closes s h live)
        stays e s live (by_ahead h) = by_ahead (e ∙ h)
        stays e s live (by_last h) = by_last h

        -- it is dropped
        had_by : (b : Bool) → is_ahead a.machine.ahead ≡ b → (s : ℕ) → a.ahead ≡ Some s → b ≡ true
        had_by true e s h = refl
        had_by false e s h = none_is s (sym (f.idle e) ∙ h)

        dropped : main_step.0.promoted ≡ false → is_ahead main_step.1.ahead ≡ false → (o : Option ℕ) → a.ahead ≡ o → (kept a.ahead last ≡ None) ⊎ IsLast main_step.1
        dropped e g None h = by_over over
          where
            by_over : (last ≡ None) ⊎ IsLast main_step.1 → (kept a.ahead last ≡ None) ⊎ IsLast main_step.1
            by_over (inl n) = inl (ap (λ o. kept o last) h ∙ n)
            by_over (inr o) = inr o
        dropped e g (Some s) h =
            inr (reply_dies a.machine place plain told answer
            (died (is_asked main_step.0.ahead) (is_ahead a.machine.ahead) (is_some main_step.0.dead) main_step.0.promoted (sym g ∙ B.ahead) (had_by (is_ahead a.machine.ahead) refl s h) e))

        drops : (s : ℕ) → Live s → Owns a last s → Owns now (kept a.ahead last) s
        drops s live (by_main h) = absurd (closes s h live)
        drops s live (by_ahead h) = by_last (kept_ahead a last f s h)
        drops s live (by_last h) = by_last (kept_last a last f s h)

        by : (p x : Bool) → main_step.0.promoted ≡ p → is_ahead main_step.1.ahead ≡ x → After Live a last now
        by true x e g = record { now = last; fits = fits last over; owns = turned e }
        by false true e g = record { now = last; fits = fits last over; owns = stays (same_ahead main_step.0.promoted (is_ahead main_step.1.ahead) a.ahead e g) }
        by false false e g = record { now = kept a.ahead last; fits = fits (kept a.ahead last) (dropped e g a.ahead refl); owns = drops }

    ahead_fit : Fit a.machine → Fit ahead_stepped.1
    ahead_fit f = by (is_ahead a.machine.ahead) refl
      where
        by : (b : Bool) → is_ahead a.machine.ahead ≡ b → Fit ahead_stepped.1
        by true e = (ahead_replied a.machine place plain told answer e f).fit
        by false e = subst (λ (s : AgentStep × Machine). Fit s.1) (sym (none_read a.machine place plain told answer e)) f

    pub replies_ahead : Closes Ahead a → Keeps Live a (moved ahead_stepped (closed Ahead a))
    replies_ahead closes last f = record {
      now = last;
      fits = record {
        fit = ahead_fit f.fit;
        none = λ e. main ∙ f.none (ap is_sent (sym q.phase) ∙ e);
        asks = λ e. absurd (not_asked (ap (λ (x : AgentStep). is_nothing x.ask) q.nothing) e);
        idle = λ e. ahead;
        reads = λ e. absurd (not_asked (ap (λ (x : AgentStep). is_nothing x.ahead) q.nothing) e);
        over = over_as f.over;
      };
      owns = own;
    }
      where
        now : Agent
        now = moved ahead_stepped (closed Ahead a)

        q : IsQuiet a.machine ahead_stepped
        q = read_quiet a.machine place plain told answer

        not_asked : {b : Bool} → b ≡ true → b ≡ false → ⊥
        not_asked e g = cc (sym e ∙ g)

        main : now.main ≡ a.main
        main = ap (λ (x : AgentStep). cond x.promoted None a.main) q.nothing

        ahead : now.ahead ≡ None
        ahead = none_ahead (ahead_stepped.0.promoted || not (is_ahead ahead_stepped.1.ahead)) None refl

        over_as : (last ≡ None) ⊎ IsLast a.machine → (last ≡ None) ⊎ IsLast ahead_stepped.1
        over_as (inl n) = inl n
        over_as (inr o) = inr (ap is_alive q.phase ∙ o)

        own : (s : ℕ) → Live s → Owns a last s → Owns now last s
        own s live (by_main h) = by_main (main ∙ h)
        own s live (by_ahead h) = absurd (closes s h live)
        own s live (by_last h) = by_last h
