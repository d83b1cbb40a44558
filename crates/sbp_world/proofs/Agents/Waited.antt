-- A serial that is for an agent, by the terms, is one that it waits for.
use Rattle.sbp_world.proofs.Common.{serial_is}
use Rattle.sbp_world.proofs.Words.Std.{arith, ◌≡◌, refl, sym, subst, ℕ, suc, ◌+◌, ◌<◌, Bool, true, false, cond, List, [], ◌∷◌, length, Some}
use Rattle.sbp_world.proofs.Words.Target.{Which, Ahead, Main}
use Rattle.sbp_world.proofs.Words.Laws.{Agent, Purpose, Target, for_agent, for_manager, for_nobody, is_serial, purpose_among, purpose_of}
use Rattle.sbp_world.proofs.Words.World.{serial_of, agent_in}

-- one of these agents, the first of which has place k, waits for it
record IsAt (k : ℕ) (agents : List Agent) (serial place : ℕ) (which : Which) : Type 0 where
  index : ℕ
  inside : index < length agents
  is : place ≡ k + index
  waits : serial_of which (agent_in agents index) ≡ Some serial

nobody_not : (place : ℕ) (which : Which) → for_nobody ≡ for_agent place which → ⊥
nobody_not place which e = cc

manager_not : (place : ℕ) (which : Which) → for_manager ≡ for_agent place which → ⊥
manager_not place which e = cc

place_is : (k place : ℕ) (one which : Which) → for_agent k one ≡ for_agent place which → place ≡ k
place_is k place one which e = cc

which_is : (k place : ℕ) (one which : Which) → for_agent k one ≡ for_agent place which → one ≡ which
which_is k place one which e = cc

first_at : (k : ℕ) (a : Agent) (agents : List Agent) (serial place : ℕ) (one which : Which) → for_agent k one ≡ for_agent place which → serial_of one a ≡ Some serial → IsAt k (a ∷ agents) serial place which
first_at k a agents serial place one which e w =
    let same : place ≡ k = place_is k place one which e in
    record { index = 0; inside = omega arith; is = omega (arith, same); waits = subst (λ (x : Which). serial_of x a ≡ Some serial) (which_is k place one which e) w }

later_at : (k : ℕ) (a : Agent) (agents : List Agent) (serial place : ℕ) (which : Which) → IsAt (k + 1) agents serial place which → IsAt k (a ∷ agents) serial place which
later_at k a agents serial place which i =
    let n = i.is in let l = i.inside in record { index = suc i.index; inside = omega arith; is = omega arith; waits = i.waits }

among_at : (k : ℕ) (agents : List Agent) (serial place : ℕ) (which : Which) → purpose_among k agents serial ≡ for_agent place which → IsAt k agents serial place which
among_at k [] serial place which e = absurd (nobody_not place which e)
among_at k (a ∷ agents) serial place which e = by (is_serial a.main serial) (is_serial a.ahead serial) refl refl (λ f. among_at (k + 1) agents serial place which f) e
  where
    by : (x y : Bool) → is_serial a.main serial ≡ x → is_serial a.ahead serial ≡ y → (purpose_among (k + 1) agents serial ≡ for_agent place which → IsAt (k + 1) agents serial place which) → cond x (for_agent k Main) (cond y (for_agent k Ahead) (purpose_among (k + 1) agents serial)) ≡ for_agent place which → IsAt k (a ∷ agents) serial place which
    by true y f g rest e = first_at k a agents serial place Main which e (serial_is a.main serial f)
    by false true f g rest e = first_at k a agents serial place Ahead which e (serial_is a.ahead serial g)
    by false false f g rest e = later_at k a agents serial place which (rest e)

not_managed : (b : Bool) (rest : Purpose) (place : ℕ) (which : Which) → cond b for_manager rest ≡ for_agent place which → rest ≡ for_agent place which
not_managed true rest place which e = absurd (manager_not place which e)
not_managed false rest place which e = e

pub waited : (target : Target) → length target.agents ≡ 8 → (serial place : ℕ) (which : Which) → purpose_of target serial ≡ for_agent place which → (place < 8) × (serial_of which (agent_in target.agents place) ≡ Some serial)
waited target size serial place which e =
    let i = among_at 0 target.agents serial place which (not_managed (is_serial target.manages serial) (purpose_among 0 target.agents serial) place which e) in
    let same : place ≡ i.index = (let n = i.is in omega arith) in
    let l = i.inside in
    (omega arith, subst (λ n. serial_of which (agent_in target.agents n) ≡ Some serial) (sym same) i.waits)
