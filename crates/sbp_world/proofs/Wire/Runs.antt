-- The laws of the wire hold of every run.
use Rattle.sbp_world.proofs.Words.Std.{arith, sym, ◌∙◌, ap, subst, get_or-replicate}
use Rattle.sbp_world.proofs.Words.Wire.{Moment, asked, said, local_id, Topology, first_topology, id_of, no_topology}
use Rattle.sbp_world.proofs.Words.Initiator.{new_state, InitiatorState}
use Rattle.sbp_world.proofs.Words.World.{moments_behind, new_initiators, new_world, ready_logins, AreEntries, Entry, Run, after, beginning, happens, WorldState, OwnFittingLaw, OwnHolds, FittingLaw, AreLines, StandsAfter, IsOfWire}
use Rattle.std.specs.Prelude.{◌≡◌, ◌≤◌, ◌<◌, ℕ, suc, ◌+◌, ◌^◌, Bool, true, false, List, [], ◌∷◌, ◌++◌, length, map, replicate, refl}
use Rattle.sbp_journal.specs.declared.event.Event.TheVariants as events
use Rattle.sbp_bus.proofs.Making.{ids_size}
use Rattle.sbp_world.proofs.Making.{initiators_size, ready_few}
use Rattle.sbp_world.proofs.FitInitiator.Law.{fitting_law as own_fitting_law}
use Rattle.sbp_world.proofs.FitTarget.Law.{fitting_law}
use Rattle.sbp_world.specs.Wire.Lines.{RunLaw}
use Rattle.sbp_world.proofs.Wire.Found.{known_has}
use Rattle.sbp_world.proofs.Wire.Holding.{KnownTo, NodesOf, OwnNodes, Sound, TargetOf, of_target, own_has, seen_at, state_at, target_has}
use Rattle.sbp_world.proofs.Wire.Sound.{line_goes}
use Rattle.sbp_world.proofs.Wire.ToldBytes.{happened_fits}
use Rattle.sbp_world.proofs.Wire.Starts.{begins, first_id, laws_of, states_at}

pub record SoundAfter (line : ℕ) (run : Run) (entries : List Entry) (w : WorldState) : Type 0 where
  pub past : List Moment
  pub sound : Sound past (length entries) w
  pub is : map said w.fresh ++ past ≡ moments_behind line run entries

-- ---- the initiators at the beginning
module _ (n : ℕ) where
  abbrev pub first_seen : List Topology
  first_seen = replicate (n + 1) (first_topology (n + 1))

  seen_is : (k : ℕ) → k ≤ n → seen_at first_seen k ≡ first_topology (n + 1)
  seen_is k l = get_or-replicate (n + 1) k (first_topology (n + 1)) no_topology (omega arith)

  module _ (few : n ≤ 4) where
    id_at : (node k : ℕ) → node ≤ n → k ≤ n → id_of (seen_at first_seen node) k ≡ local_id k
    id_at node k l m = ap (λ t. id_of t k) (seen_is node l) ∙ sym (first_id (n + 1) k (omega arith) (omega arith))

    -- the target knows them
    pub first_known : (i : ℕ) → i < n → KnownTo first_seen (0xffc1 + i)
    first_known i there =
        known_has (seen_at first_seen 0) n (0xffc1 + i) (ap (λ (t : Topology). length t.ids) (seen_is 0 (omega arith)) ∙ ids_size (n + 1) ∙ omega arith)
        (record { node = suc i; there = omega (arith, there); id_is = id_at 0 (suc i) (omega arith) (omega (arith, there)) ∙ (let e : 65472 + suc i ≡ 0xffc1 + i = omega arith in e) })

    no_acts : (number : ℕ) (r : Bool) → (new_state number r).counts.acts ≡ 0
    unfolding new_state
    no_acts number true = refl
    no_acts number false = refl

    pub first_own : OwnFittingLaw → (ready : Bool) → OwnNodes first_seen (new_initiators n ready) 0
    first_own initiators ready =
        let size = initiators_size n ready in
        record {
          holds = λ i l.
              let there : i < n = omega (arith, size, l) in
              subst (λ (s : InitiatorState). OwnHolds (TargetOf first_seen i) s) (sym (states_at n i ready (new_state 0 false) there))
              ((initiators (own_has first_seen i) (own_has first_seen i)).begins i ready (omega arith) (of_target first_seen i 0xffc0 (id_at (suc i) 0 there (omega arith))));
          counts = λ i l.
              let there : i < n = omega (arith, size, l) in
              let none : (state_at (new_initiators n ready) i).counts.acts ≡ 0 = ap (λ (s : InitiatorState). s.counts.acts) (states_at n i ready (new_state 0 false) there) ∙ no_acts i ready in
              omega arith;
        }

module _ (targets : FittingLaw) (initiators : OwnFittingLaw) where
  module _ (n : ℕ) (ready : Bool) (units : ℕ) (few : n ≤ 4) where
    first_nodes : NodesOf (new_world n ready units) 0
    unfolding new_world
    first_nodes = record {
      target_holds = (targets (target_has (first_seen n)) (target_has (first_seen n))).begins units (ready_logins n ready) (λ i l. first_known n few i (ready_few n ready i l));
      own = first_own n few initiators ready;
    }

  sound_first : (line : ℕ) (run : Run) → run.initiators ≤ 4 → SoundAfter line run [] (beginning run).world
  unfolding new_world
  sound_first line run few = record {
    past = asked line (events.Begin run.initiators run.ready) ∷ [];
    sound = record { stands = begins line run.initiators run.ready run.units few; nodes = first_nodes run.initiators run.ready run.units few };
    is = refl;
  }

  pub sound_after : (line : ℕ) (run : Run) (entries : List Entry) → run.initiators ≤ 4 → length entries + 2 < 2 ^ 32 → AreEntries (beginning run) entries → AreLines run entries → SoundAfter line run entries (after (beginning run) entries).world
  sound_after line run [] few most all fit = sound_first line run few
  sound_after line run (e ∷ before) few most all fit =
      let b = sound_after line run before few (omega arith) all.1 fit.1 in
      let s = after (beginning run) before in
      record {
        past = asked e.line e.event ∷ (map said s.world.fresh ++ b.past);
        sound = subst (λ n. Sound (asked e.line e.event ∷ (map said s.world.fresh ++ b.past)) n (happens e.line e.event e.told s).world) (let x : length before + 1 ≡ suc (length before) = omega arith in x)
            (line_goes targets initiators e.line e.event e.told s fit.0 (happened_fits e.event e.told s all.0.may) (omega arith) b.sound);
        is = ap (λ ns. map said ns ++ asked e.line e.event ∷ (map said s.world.fresh ++ b.past)) (sym all.0.notes_are)
            ∙ ap (λ ms. map said e.notes ++ asked e.line e.event ∷ ms) b.is;
      }

  runs_stand : (line : ℕ) (run : Run) → run.initiators ≤ 4 → length run.entries + 2 < 2 ^ 32 → AreEntries (beginning run) run.entries → AreLines run run.entries → StandsAfter line run run.entries (after (beginning run) run.entries).world
  runs_stand line run few most all fit =
      let r = sound_after line run run.entries few most all fit in
      record {
        past = r.past;
        stands = r.sound.stands;
        is = r.is;
        has_laws = subst IsOfWire r.is (laws_of r.past (after (beginning run) run.entries).world r.sound.stands);
      }

  pub run_law : RunLaw
  run_law = record { begins = begins; has_laws = laws_of; runs = runs_stand }

-- the target and the initiators fit the wire
pub all_runs : RunLaw
all_runs = run_law fitting_law own_fitting_law
