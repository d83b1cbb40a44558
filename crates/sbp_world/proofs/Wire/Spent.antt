-- Over every run what the world counts is what the history says.
use Rattle.sbp_world.proofs.Words.Std.{◌≡◌, arith, refl, sym, ◌∙◌, ap, subst, get_or-replicate, length-replicate, none-some}
use Rattle.sbp_world.proofs.Words.Wire.{Moment, asked, said, lists_weight, new_load}
use Rattle.sbp_world.proofs.Words.Initiator.{new_table, unused, waiting, Slot, InitiatorState, new_state}
use Rattle.sbp_world.proofs.Words.Laws.{shares}
use Rattle.sbp_world.proofs.Words.World.{moments_behind, happens, new_initiators, new_world, ready_logins, AreEntries, Entry, Run, after, beginning, WorldState, begun, AreLines}
use Rattle.std.specs.Prelude.{ℕ, suc, ◌+◌, ◌*◌, ◌^◌, ◌<◌, Bool, false, List, [], ◌∷◌, ◌++◌, length, map, None}
use Rattle.sbp_world.proofs.Making.{initiators_size}
use Rattle.sbp_world.proofs.Wire.Balanced.{AreSlotted, Balanced, CountsIn, begun_in, keys_in, state_at}
use Rattle.sbp_world.proofs.Wire.Counted.{PaidIn, most_share, weighs}
use Rattle.sbp_world.proofs.Wire.Held.{new_held}
use Rattle.sbp_world.proofs.Wire.LineCounts.{happens_balance}
use Rattle.sbp_world.proofs.Wire.Slotted.{SlottedIn}
use Rattle.sbp_world.proofs.Wire.Starts.{states_at}

-- a world, behind a history
pub record IsSpent (h : List Moment) (most : ℕ) (w : WorldState) : Type 0 where
  pub counted : CountsIn w.initiators most h w
  pub states : AreSlotted w.initiators

-- ---- at the start

new_slotted : SlottedIn new_table
new_slotted = record {
  size = length-replicate 32 unused;
  waits = λ k t b e. absurd (none-some t (sym (ap waiting (get_or-replicate 32 k unused unused b)) ∙ e));
  last = λ k t b e. absurd (none-some t (sym (ap (λ (s : Slot). s.last) (get_or-replicate 32 k unused unused b)) ∙ e));
}

new_states_slotted : (number : ℕ) (ready : Bool) → SlottedIn (new_state number ready).lists.slots
unfolding new_state
new_states_slotted number ready = new_slotted

new_number : (number : ℕ) (ready : Bool) → (new_state number ready).number ≡ number
unfolding new_state
new_number number ready = refl

new_paid : (line n : ℕ) (ready : Bool) (number i : ℕ) → PaidIn (λ j m. false) (λ j m k. false) (λ j m k. None) [] i (new_state number ready).lists.slots.lists (keys_in (new_state number ready ∷ []) 0) new_load
unfolding new_state
new_paid line n ready number i = record {
  list_is = refl;
  cut_is = refl;
  uncut = λ m l. refl;
  none = λ m l. refl;
  new_lists = λ m k l. record { unborn = refl; untaken = refl };
  now = record { light = refl; first = λ z. refl; left = refl };
  others = λ m e. refl;
  sum_is = refl;
  rises = tt;
}

pub begins : (line : ℕ) (run : Run) → IsSpent (moments_behind line run []) 0 (beginning run).world
unfolding new_world
begins line run =
    let n = run.initiators in
    let states = new_initiators n run.ready in
    let size = initiators_size n run.ready in
    let at : (i : ℕ) → i < length states → state_at states i ≡ new_state i run.ready = λ i l. states_at n i run.ready (new_state 0 false) (omega (arith, l, size)) in
    record {
      counted = record {
        size = length-replicate n new_load ∙ omega (arith, size);
        within = tt;
        few = omega arith;
        small = omega arith;
        rows = λ i l.
            subst (λ r. PaidIn (λ j m. false) (λ j m k. false) (λ j m k. None) [] i (begun_in states i) (keys_in states i) r) (sym (get_or-replicate n i new_load new_load (omega (arith, l, size))))
            (subst (λ (s : InitiatorState). PaidIn (λ j m. false) (λ j m k. false) (λ j m k. None) [] i s.lists.slots.lists (keys_in (s ∷ []) 0) new_load) (sym (at i l)) (new_paid line n run.ready i i));
        held = new_held (length states) (begun_in states) (ready_logins n run.ready);
      };
      states = record {
        slotted = λ i l. subst (λ (s : InitiatorState). SlottedIn s.lists.slots) (sym (at i l)) (new_states_slotted i run.ready);
        numbers = λ i l. ap (λ (s : InitiatorState). s.number) (at i l) ∙ new_number i run.ready;
      };
    }

-- ---- behind some lines
spent_after : (line : ℕ) (run : Run) (entries : List Entry) → length entries + 2 < 2 ^ 32 → AreEntries (beginning run) entries → AreLines run entries → IsSpent (moments_behind line run entries) (length entries * most_share) (after (beginning run) entries).world
unfolding happens
spent_after line run [] few all fit = begins line run
spent_after line run (e ∷ before) few all fit =
    let b = spent_after line run before (omega arith) all.1 fit.1 in
    let s = after (beginning run) before in
    let past = asked e.line e.event ∷ moments_behind line run before in
    let most = length before * most_share in
    let c : Balanced past most (begun s).world = record { counted = b.counted; states = b.states } in
    let d = happens_balance past most (omega arith) e.line e.event e.told (begun s) fit.0 refl c in
    let w = (happens e.line e.event e.told s).world in
    record {
      counted = subst (λ m. CountsIn w.initiators m (map said e.notes ++ past) w) (let x : most + most_share ≡ suc (length before) * most_share = omega arith in x)
          (subst (λ ns. CountsIn w.initiators (most + most_share) (map said ns ++ past) w) (sym all.0.notes_are) d.counted);
      states = d.states;
    }

-- what the world counts is what the law says
pub weighs_after : (line : ℕ) (run : Run) (entries : List Entry) → length entries + 2 < 2 ^ 32 → AreEntries (beginning run) entries → AreLines run entries → lists_weight (after (beginning run) entries).world.loads ≡ shares (moments_behind line run entries) (moments_behind line run entries)
weighs_after line run entries few all fit =
    let b = spent_after line run entries few all fit in
    let w = (after (beginning run) entries).world in
    weighs (length w.initiators) (begun_in w.initiators) (keys_in w.initiators) (length entries * most_share) (moments_behind line run entries) w.places w.loads b.counted
