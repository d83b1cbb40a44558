-- In every run a live login of the target is the only one of its node on its unit.
use Rattle.sbp_world.proofs.Words.Std.{arith, ◌≡◌, ◌∙◌, refl, sym, subst, ℕ, ◌<◌, nat_eq, Bool, true, false, List, ◌∷◌, ◌++◌, map, Option, nat_tests}
use Rattle.sbp_world.proofs.Words.Wire.{Moment, asked, said}
use Rattle.sbp_world.proofs.Words.Target.{Login, IsSound, Table, Disk}
use Rattle.sbp_world.proofs.Words.World.{ready_logins, after, beginning, after_all, WorldState, begun, AreSingle, AreSingleIn, SingleLaw}
use Rattle.sbp_world.proofs.Agents.Management.Holding.{Holding, good_of}
use Rattle.sbp_world.proofs.Agents.Management.Lines.{all_heard, opens}
use Rattle.sbp_world.proofs.Agents.Management.Runs.{holds_after, no_repeats, not_reset}
use Rattle.sbp_world.proofs.Agents.Management.Still.{hist}
use Rattle.sbp_world.proofs.Hosts.Runs.{are_told}

module _ (places : List (Option Login)) (sound : IsSound places) where
  same_place : (i j : ℕ) → ((i ≡ j → ⊥) → ⊥) → i ≡ j
  same_place i j n = by (nat_eq i j) refl
    where
      by : (b : Bool) → nat_eq i j ≡ b → i ≡ j
      by true e = grind (arith, nat_tests)
      by false e = absurd (n (λ same. (let yes : nat_eq i j ≡ true = grind (arith, nat_tests) in let no : false ≡ true = sym e ∙ yes in cc)))

  are_single : AreSingle places
  are_single = record {
    ids = λ i j a b at of e. same_place i j (λ apart. (sound.apart i j a b apart at of).ids e);
    nodes = λ i j a b at of x y unit node. same_place i j (λ apart. (sound.apart i j a b apart at of).nodes unit x y node);
  }

single_by : (units ready : ℕ) → 0 < units → (start : List Disk) {past : List Moment} {lines : ℕ} (w : WorldState) → Holding units ready start past lines w → AreSingleIn start (hist past w)
single_by units ready has start {past} w h =
    let g = good_of units ready h.calls w.target has h.made in
    subst (λ (t : Table). AreSingle t.places) (sym h.at.agrees.table) (are_single w.target.logins.places g.table.sound)

pub single_law : SingleLaw
single_law = record {
  after_lines = λ line run few has small size short all fit.
      let r = holds_after line run run.entries few has small size short all fit in
      let w = (after (beginning run) run.entries).world in
      subst (λ ms. AreSingleIn run.start.disks ms) r.is (single_by run.units (ready_logins run.initiators run.ready) has run.start.disks w r.holds);
  between = λ line run few has small size short all fit next event d told may.
      let r = holds_after line run run.entries few has small size short all fit in
      let s = after (beginning run) run.entries in
      let logins = ready_logins run.initiators run.ready in
      let begins = opens run.units logins has run.start.disks next event s.world (not_reset event d) r.holds in
      let h = all_heard run.units logins has run.start.disks told (are_told told s may) (begun s) begins (no_repeats event (hist r.past s.world) next d) in
      let w = (after_all told (begun s)).world in
      subst (λ ms. AreSingleIn run.start.disks (map said w.fresh ++ asked next event ∷ ms)) r.is (single_by run.units logins has run.start.disks w h);
}
