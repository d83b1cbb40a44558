-- What an agent waits for it waited for as it was judged: since it was sent.
use Rattle.sbp_world.proofs.Words.Std.{arith, ◌≡◌, ◌∙◌, sym, subst, inl, inr, ◌≤◌, ℕ, List, [], ◌∷◌, ◌++◌, Some}
use Rattle.sbp_world.proofs.Words.Wire.{Moment, SerialsCount, terms}
use Rattle.sbp_world.proofs.Words.Target.{Disk, Which, Ahead, Main}
use Rattle.sbp_world.proofs.Words.Laws.{Target, agent_at, over, target_at}
use Rattle.sbp_world.proofs.Words.World.{serial_of}
use Rattle.sbp_world.proofs.Agents.Asides.{over_none}
use Rattle.sbp_world.proofs.Common.{none_is}
use Rattle.sbp_world.proofs.Hosts.Remaining.{remains}
use Rattle.sbp_world.proofs.Hosts.SentMoments.{serials_from}
use Rattle.sbp_world.proofs.Lists.AgentFolds.{AreSo}
use Rattle.sbp_world.proofs.Lists.YoungAgents.{HasSuch, IsYoung, Such, Young, young_ended, young_on}

-- the agent of a place waits for it
abbrev pub Waited : List Disk → ℕ → List Moment → ℕ → Type 0
Waited start place past serial = (which : Which) × (serial_of which (agent_at (over (target_at start past)) place) ≡ Some serial)

-- a moment by which a packet for another node is judged
module _ (start : List Disk) (place : ℕ) (earlier : List Moment) (m : Moment) (out : target_at start (m ∷ earlier) ≡ over (target_at start earlier)) where
  abbrev W : ℕ → Type 0
  W = Waited start place earlier

  abbrev count : ℕ
  count = (terms earlier).count

  now_young : IsYoung count W start (m ∷ earlier) place
  now_young =
      subst (AreSo (Such (Young count W) place)) (sym out)
      (record {
        agents = λ q e at. ((λ s f. inr (Main, subst (λ p. (agent_at (over (target_at start earlier)) p).main ≡ Some s) at f)), (λ s f. inr (Ahead, subst (λ p. (agent_at (over (target_at start earlier)) p).ahead ≡ Some s) at f)));
        pending = λ reply e. none_is reply (sym (over_none (target_at start earlier)) ∙ e);
      })

  young_is : (s : ℕ) → s ≤ count → Young count W s → W s
  young_is s low (inl late) = absurd (omega (arith, low, late))
  young_is s low (inr own) = own

  by_which : (which : Which) (now : Target) → HasSuch (Young count W) (agent_at now place) → (s : ℕ) → s ≤ count → serial_of which (agent_at now place) ≡ Some s → W s
  by_which Main now h s low e = young_is s low (h.0 s e)
  by_which Ahead now h s low e = young_is s low (h.1 s e)

  pub waited_since : (back : List Moment) → SerialsCount (back ++ m ∷ earlier) → (which : Which) (s : ℕ) → s ≤ count → serial_of which (agent_at (over (target_at start (back ++ m ∷ earlier))) place) ≡ Some s → W s
  waited_since back counts which s low e =
      let now = m ∷ earlier in
      by_which which (over (target_at start (back ++ now))) (young_ended count W start place (back ++ now) (young_on count W start place back now counts (remains (m ∷ []) earlier (serials_from back now counts)).count now_young)) s low e
