-- In every history what was the main transaction of the agent of a place is that still, or the agent let it go by a reply or in RESET; and what a request of the target is for as it is sent.
use Rattle.sbp_world.proofs.Words.Std.{arith, ◌≡◌, ◌∙◌, refl, sym, ap, inl, inr, ◌⊎◌, ◌==◌, ℕ, zero, suc, ◌+◌, Bool, true, false, cond, List, [], ◌∷◌, ◌++◌, Option, Some, None, nat_tests}
use Rattle.sbp_world.proofs.Words.Wire.{Moment}
use Rattle.sbp_world.proofs.Words.Target.{Which, Ahead, Main, Disk}
use Rattle.sbp_world.proofs.Words.Laws.{Agent, Target, agent_at, for_agent, for_manager, for_nobody, is_serial, purpose_among, purpose_of, target_at}
use Rattle.sbp_world.proofs.Words.World.{agent_in, IsCut, MainStaysLaw, WasLetGo}
use Rattle.sbp_world.specs.Lists.LetsGo.{IsAnswered}
use Rattle.sbp_world.proofs.Lists.MainStays.{stays_or}
use Rattle.sbp_world.proofs.Common.{untrue}

module _ (start : List Disk) (place serial : ℕ) where
  abbrev Waits : List Moment → Type 0
  Waits past = (agent_at (target_at start past) place).main ≡ Some serial

  longer : (m : Moment) (later before : List Moment) → WasLetGo start place serial later before → WasLetGo start place serial (m ∷ later) before
  longer m later before x = record { since = m ∷ x.since; moment = x.moment; until = x.until; is = ap (λ ms. m ∷ ms) x.is; waited = x.waited; how = x.how }

  later_main : (later before : List Moment) → Waits before → Waits (later ++ before) ⊎ WasLetGo start place serial later before
  later_main [] before e = inl e
  later_main (m ∷ later) before e = by (later_main later before e)
    where
      next : Waits (later ++ before) → Waits (m ∷ later ++ before) ⊎ (IsAnswered (target_at start (later ++ before)).reply place ⊎ IsCut (agent_at (target_at start (m ∷ later ++ before)) place)) → Waits (m ∷ later ++ before) ⊎ WasLetGo start place serial (m ∷ later) before
      next w (inl f) = inl f
      next w (inr x) = inr (record { since = []; moment = m; until = later; is = refl; waited = w; how = x })

      by : Waits (later ++ before) ⊎ WasLetGo start place serial later before → Waits (m ∷ later ++ before) ⊎ WasLetGo start place serial (m ∷ later) before
      by (inl w) = next w (stays_or start m (later ++ before) place serial w)
      by (inr x) = inr (longer m later before x)

pub main_stays_law : MainStaysLaw
main_stays_law start later before place serial e = later_main start place serial later before e

-- ---- what is an agent's is not nobody's
is_it : (x : Option ℕ) (serial : ℕ) → x ≡ Some serial → is_serial x serial ≡ true
is_it None serial e = absurd (let f : None ≡ Some serial = e in cc)
is_it (Some other) serial e = let f : other ≡ serial = cc in let g : (other == serial) ≡ true = grind (arith, nat_tests) in g

agents_not : (place : ℕ) (which : Which) → for_agent place which ≡ for_nobody → ⊥
agents_not place which e = cc

manager_not : for_manager ≡ for_nobody → ⊥
manager_not e = cc

pub among_not : (from : ℕ) (agents : List Agent) (p serial : ℕ) → (agent_in agents p).main ≡ Some serial → purpose_among from agents serial ≡ for_nobody → ⊥
among_not from [] p serial e f = absurd (let g : None ≡ Some serial = e in cc)
among_not from (a ∷ agents) p serial e f = by (λ q h i. among_not (from + 1) agents q serial h i) (is_serial a.main serial) refl (is_serial a.ahead serial) p e f
  where
    by : ((q : ℕ) → (agent_in agents q).main ≡ Some serial → purpose_among (from + 1) agents serial ≡ for_nobody → ⊥) → (x : Bool) → is_serial a.main serial ≡ x → (y : Bool) (q : ℕ) → (agent_in (a ∷ agents) q).main ≡ Some serial → cond x (for_agent from Main) (cond y (for_agent from Ahead) (purpose_among (from + 1) agents serial)) ≡ for_nobody → ⊥
    by more true g y q h i = agents_not from Main i
    by more false g true q h i = agents_not from Ahead i
    by more false g false zero h i = untrue (sym g ∙ is_it a.main serial h)
    by more false g false (suc q) h i = more q h i

pub somebodys : (t : Target) (p serial : ℕ) → (agent_at t p).main ≡ Some serial → purpose_of t serial ≡ for_nobody → ⊥
somebodys t p serial e = by (is_serial t.manages serial)
  where
    by : (b : Bool) → cond b for_manager (purpose_among 0 t.agents serial) ≡ for_nobody → ⊥
    by true f = manager_not f
    by false f = among_not 0 t.agents p serial e f
