-- What the target is yet to send is the same by two counts of its ORBs, where these agree on the places that are at work; and so is what ORBs bring whose turn came.
use Rattle.sbp_world.proofs.Words.Std.{arith, ◌≡◌, ◌∙◌, refl, ap, ℕ, zero, suc, ◌<◌, Bool, true, false}
use Rattle.command_agent.specs.Counting.{left_of, mark}
use Rattle.command_agent.specs.Machine.{Machine}
use Rattle.command_agent.specs.declared.phase.Phase.{Phase}
use Rattle.command_agent.specs.declared.phase.Phase.TheVariants as phases
use Rattle.command_agent.specs.Counting as agents
use Rattle.command_agent.specs.Making.{is_at_work}
use Rattle.sbp_target.specs.Nodes.{NodeState, desk_at}
use Rattle.sbp_target.specs.RequestsLeft.{node_left, place_left, sum_below, works}

-- ---- sums over places
pub sum_same : (n : ℕ) (f g : ℕ → ℕ) → ((place : ℕ) → place < n → f place ≡ g place) → sum_below n f ≡ sum_below n g
unfolding sum_below
sum_same zero f g e = refl
sum_same (suc n) f g e =
    let rest = sum_same n f g (λ place b. e place (omega (arith, b))) in
    let last = e n (omega arith) in
    omega (arith, rest, last)

-- ---- an agent that is not at work has nothing left
idle_phase : (phase : Phase) (t c : ℕ) (m : Machine) → is_at_work phase ≡ false → agents.left_in phase t c m ≡ 0
idle_phase phases.Fetching t c m e = absurd (let no : true ≡ false = e in cc)
idle_phase phases.ReadingTable t c m e = absurd (let no : true ≡ false = e in cc)
idle_phase (phases.ReadingData wanted) t c m e = absurd (let no : true ≡ false = e in cc)
idle_phase phases.Answering t c m e = absurd (let no : true ≡ false = e in cc)
idle_phase phase t c m e = refl

-- at one place
module _ (node : NodeState) (place : ℕ) (t c u d : ℕ → ℕ) where
  pub place_same : (works node place ≡ true → (t place ≡ u place) × (c place ≡ d place)) → place_left t c node place ≡ place_left u d node place
  place_same e = by (works node place) refl
    where
      m : Machine
      m = (desk_at node place).agent

      by : (b : Bool) → works node place ≡ b → place_left t c node place ≡ place_left u d node place
      by true w = let same = e w in ap (λ n. place_left (λ p. n) c node place) same.0 ∙ ap (λ n. place_left (λ p. u place) (λ p. n) node place) same.1
      by false w =
          let one = idle_phase m.phase (t place) (c place) m w in
          let two = idle_phase m.phase (u place) (d place) m w in
          omega (arith, one, two)

-- of all places
pub left_same : (node : NodeState) (t c u d : ℕ → ℕ) → ((place : ℕ) → place < 8 → works node place ≡ true → (t place ≡ u place) × (c place ≡ d place)) → node_left t c node ≡ node_left u d node
left_same node t c u d e =
    let places = sum_same 8 (place_left t c node) (place_left u d node) (λ place b. place_same node place t c u d (e place b)) in
    omega (arith, places)

-- ---- the turns that came
