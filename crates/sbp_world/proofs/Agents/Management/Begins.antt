-- A new world: the terms of the target's management are its state.
use Rattle.sbp_world.proofs.Words.Std.{arith, ◌≡◌, ◌∙◌, refl, sym, ap, subst, ℕ, zero, suc, ◌+◌, ◌<◌, ◌≤◌, Bool, true, false, List, [], ◌∷◌, map, length, replicate, get_or-replicate}
use Rattle.sbp_world.proofs.Words.Wire.{Moment, asked, local_id, Topology, first_topology, id_of, no_topology}
use Rattle.sbp_world.proofs.Words.Target.{enter_step, fresh_id, left_for, new_table, Disk, ready_from}
use Rattle.sbp_world.proofs.Words.Initiator.{new_state, InitiatorState}
use Rattle.sbp_world.proofs.Words.Laws.{first_table}
use Rattle.sbp_world.proofs.Words.World.{OwnHolds, new_initiators, new_world, ready_logins}
use Rattle.sbp_world.proofs.FitInitiator.Law.{fitting_law as own_fitting_law}
use Rattle.sbp_journal.specs.declared.event.Event.TheVariants as events
use Rattle.target_base.proofs.Making.{rom_size}
use Rattle.sbp_bus.proofs.Making.{ids_size}
use Rattle.sbp_world.proofs.Making.{initiators_size, ready_few}
use Rattle.sbp_world.proofs.FitTarget.Law.{fitting_law}
use Rattle.sbp_world.proofs.Wire.Found.{known_has}
use Rattle.sbp_world.proofs.Wire.Holding.{NodesOf, TargetOf, of_target, own_has, seen_at, state_at, target_has}
use Rattle.sbp_world.proofs.Wire.Starts.{begins, first_id, states_at}
use Rattle.sbp_world.proofs.Agents.Management.Holding.{Holding}

module _ (n : ℕ) (ready : Bool) (units : ℕ) (few : n ≤ 4) where
  -- ---- the nodes of a new world, as the laws of the wire have them
  abbrev first_seen : List Topology
  first_seen = replicate (n + 1) (first_topology (n + 1))

  seen_is : (k : ℕ) → k ≤ n → seen_at first_seen k ≡ first_topology (n + 1)
  seen_is k l = get_or-replicate (n + 1) k (first_topology (n + 1)) no_topology (omega arith)

  id_at : (node k : ℕ) → node ≤ n → k ≤ n → id_of (seen_at first_seen node) k ≡ local_id k
  id_at node k l m = ap (λ t. id_of t k) (seen_is node l) ∙ sym (first_id (n + 1) k (omega arith) (omega arith))

  no_acts : (number : ℕ) (r : Bool) → (new_state number r).counts.acts ≡ 0
  unfolding new_state
  no_acts number true = refl
  no_acts number false = refl

  first_nodes : NodesOf (new_world n ready units) 0
  unfolding new_world
  first_nodes =
      let size = initiators_size n ready in
      record {
        target_holds = (fitting_law (target_has first_seen) (target_has first_seen)).begins units (ready_logins n ready) (λ i l.
            let there = ready_few n ready i l in
            known_has (seen_at first_seen 0) n (0xffc1 + i) (ap (λ (t : Topology). length t.ids) (seen_is 0 (omega arith)) ∙ ids_size (n + 1) ∙ omega arith)
            (record { node = suc i; there = omega (arith, there); id_is = id_at 0 (suc i) (omega arith) (omega (arith, there)) ∙ (let e : 65472 + suc i ≡ 0xffc1 + i = omega arith in e) }));
        own = record {
          holds = λ i l.
              let there : i < n = omega (arith, size, l) in
              subst (λ (s : InitiatorState). OwnHolds (TargetOf first_seen i) s) (sym (states_at n i ready (new_state 0 false) there))
              ((own_fitting_law (own_has first_seen i) (own_has first_seen i)).begins i ready (omega arith) (of_target first_seen i 0xffc0 (id_at (suc i) 0 there (omega arith))));
          counts = λ i l.
              let there : i < n = omega (arith, size, l) in
              let none : (state_at (new_initiators n ready) i).counts.acts ≡ 0 = ap (λ (s : InitiatorState). s.counts.acts) (states_at n i ready (new_state 0 false) there) ∙ no_acts i ready in
              omega arith;
        };
      }

-- ---- its logins and keys
abbrev pub first_past : ℕ → ℕ → Bool → List Moment
first_past line n ready = asked line (events.Begin n ready) ∷ []

abbrev no_key : List ℕ
no_key = replicate 8 0

keys_are : (start : List Disk) (count : ℕ) → length start ≡ count → map (λ disk. no_key) start ≡ replicate count no_key
keys_are [] zero e = refl
keys_are [] (suc count) e = absurd (omega (arith, e))
keys_are (disk ∷ start) zero e = absurd (omega (arith, e))
keys_are (disk ∷ start) (suc count) e = ap (λ ks. no_key ∷ ks) (keys_are start count (omega (arith, e)))

table_ready : (n : ℕ) → n ≤ 4 → first_table true n ≡ ready_from n 0 new_table
unfolding ready_from enter_step left_for fresh_id
table_ready zero l = refl
table_ready (suc zero) l = refl
table_ready (suc (suc zero)) l = refl
table_ready (suc (suc (suc zero))) l = refl
table_ready (suc (suc (suc (suc zero)))) l = refl
table_ready (suc (suc (suc (suc (suc n))))) l = absurd (omega arith)

table_is : (n : ℕ) (ready : Bool) → n ≤ 4 → first_table ready n ≡ ready_from (ready_logins n ready) 0 new_table
unfolding ready_from
table_is n true l = table_ready n l
table_is n false l = refl

pub first_holds : (n : ℕ) (ready : Bool) (units line : ℕ) (start : List Disk) → n ≤ 4 → units ≤ 4 → length start ≡ units → Holding units (ready_logins n ready) start (first_past line n ready) 0 (new_world n ready units)
unfolding new_world
first_holds n ready units line start few small size = record {
  sound = record { stands = begins line n ready units few; nodes = first_nodes n ready units few };
  calls = [];
  made = refl;
  at = record {
    agrees = record { table = table_is n ready few; keys = keys_are start units size; manager = refl };
    awaits = refl;
  };
  rom = rom_size _ units small;
}
