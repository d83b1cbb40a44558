-- In every run in which nobody injected packets, no agent is DEAD where the target has seen the latest reset, and no agent died since it first saw it.
use Rattle.sbp_world.proofs.Words.Std.{arith, ◌≡◌, ◌∙◌, refl, sym, ap, inl, ◌<◌, ℕ, zero, suc, replicate, slice_index_or, Bool, true, false, List, [], ◌∷◌, ◌++◌, map, false≢true}
use Rattle.sbp_world.proofs.Words.Wire.{Moment, Node, Terms, asked, said, terms}
use Rattle.sbp_world.proofs.Words.Target.{Disk, Phase, new_desk}
use Rattle.sbp_world.proofs.Words.World.{IsTame, Run, UnderFrom, WorldState, after, after_all, beginning, begun, history_of, moments_behind, more_deliveries, machine_at}
use Rattle.command_agent.specs.declared.phase.Phase.TheVariants as phases
use Rattle.sbp_world.specs.Completing.Done.{DeadKnownLaw, NoneDead}
use Rattle.sbp_world.specs.Making.{new_world}
use Rattle.sbp_world.proofs.Common.{untrue}
use Rattle.sbp_world.proofs.Agents.Management.Holding.{past_terms, target_generation}
use Rattle.sbp_world.proofs.Agents.Management.Still.{hist}
use Rattle.sbp_world.proofs.Completing.DeadKnownHistory.{Knows, turn_knows}
use Rattle.sbp_world.proofs.Completing.DeadKnownSteps.{IsAlive, is_alive}
use Rattle.sbp_world.proofs.Completing.DeadKnownTurns.{turn_leads}
use Rattle.sbp_world.proofs.Completing.DeathsHistory.{is_open}
use Rattle.sbp_world.proofs.Lists.Clauses.{open_lists_law}
use Rattle.sbp_world.proofs.Lists.Courses.{more_than_one}
use Rattle.sbp_world.proofs.Lists.IdsOwned.{aged_at}
use Rattle.sbp_world.proofs.Lists.ListsProved.{closing}
use Rattle.sbp_world.proofs.Lists.OwnFifos.{tame_before}
use Rattle.sbp_world.proofs.Lists.TameWalks.{from_after, from_between}
use Rattle.sbp_world.proofs.Lists.Walks.{Walks}
use Rattle.sbp_world.proofs.Wire.Bus.{holds}

abbrev Nothing : List Moment → WorldState → Type 0
Nothing past w = Unit {0}

abbrev Any : List Disk → List Moment → WorldState → Type 0
Any start past w = Unit {0}

abbrev Known : List Disk → (ℕ → Bool) → List Moment → WorldState → Type 0
Known start wild past w = Knows past w.target

known_walk : (wild : ℕ → Bool) (units ready : ℕ) → 0 < units → (start : List Disk) → Walks wild units ready start Nothing (Any start) (Known start wild)
known_walk wild units ready has start past s later t step p =
    let w = s.world in
    let h = step.stands.reached.holds in
    let stands = h.sound.stands in
    let old = hist past w in
    let bus : (terms old).bus ≡ w.generations.latest.generation = ap (λ (x : Terms). x.bus) (sym (past_terms w stands)) ∙ (sym (holds stands.wire stands.reached).bus_is ∙ stands.is.bus_is) in
    let level : w.target.layer.generation ≡ (terms old).generation 0 = sym (ap (λ (l : Node). l.generation) (stands.is.layers_are 0 (omega arith))) ∙ stands.is.sights 0 (omega arith) ∙ sym (target_generation w stands) in
    let aged = aged_at units ready start w h in
    turn_knows w.generations.latest.generation old (hist later t.world) w.target t.world (turn_leads past s later t step.turn)
    (record { bus = bus; aged = omega (arith, bus, aged); size = step.stands.known_all.good.mid.size; level = level }) p

-- each agent is in RESET
new_alive : (count place : ℕ) → IsAlive (slice_index_or (replicate count new_desk) place new_desk).agent
new_alive zero place = refl
new_alive (suc count) zero = refl
new_alive (suc count) (suc place) = new_alive count place

first_known : (start : List Disk) (wild : ℕ → Bool) (line : ℕ) (run : Run) → Known start wild (moments_behind line run []) (beginning run).world
unfolding new_world
first_known start wild line run = record { alive = λ o none place. new_alive 8 place; early = λ o. untrue (sym o) }

-- ---- at a place
dead_not : (phase : Phase) → is_alive phase ≡ true → phase ≡ phases.Dead → ⊥
dead_not phase a e = false≢true (sym (ap is_alive e) ∙ a)

none_dead : (past : List Moment) (w : WorldState) → Knows past w.target → NoneDead past w
none_dead past w k tame level none i dead = dead_not (machine_at w dead.place).phase (k.alive (by (is_open past) refl) none dead.place) dead.dead
  where
    by : (b : Bool) → is_open past ≡ b → is_open past ≡ true
    by true o = o
    by false o = absurd (let l = k.early o in omega (arith, l, level))

-- ---- in every run
under : UnderFrom (λ start past w. IsTame past → Any start past w)
under = record {
  after_lines = λ line run r has small size so_far tame. tt;
  between = λ line run r has small size next most told m so_far tame. tt;
}

pub dead_known_law : DeadKnownLaw
dead_known_law = record {
  after_lines = λ line run r has small size tame.
      none_dead (history_of line run) (after (beginning run) run.entries).world
      (from_after IsTame tame_before Nothing Any Known (record { after_lines = λ a b c d e f. tt; between = λ a b c d e f g h j k. tt }) under known_walk (λ wild a b. first_known b.start.disks wild a b) line run r has small size
      (closing.before open_lists_law line run r has small size (inl tame)) tame) tame;
  between = λ line run r has small size next most told m tame.
      none_dead (map said (after_all told (begun (after (beginning run) run.entries))).world.fresh ++ asked next (more_deliveries most) ∷ history_of line run) (after_all told (begun (after (beginning run) run.entries))).world
      (from_between IsTame tame_before Nothing Any Known (record { after_lines = λ a b c d e f. tt; between = λ a b c d e f g h j k. tt }) under known_walk (λ wild a b. first_known b.start.disks wild a b) line run r has small size next (more_deliveries most) (more_than_one most) told m
      (closing.between open_lists_law line run r has small size next (more_deliveries most) (more_than_one most) told m (inl tame)) tame) tame;
}
