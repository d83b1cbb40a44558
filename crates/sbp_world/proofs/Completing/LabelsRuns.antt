-- At each place of every run in which nobody injected packets few of the target's labels to an initiator are under way; and where nothing was lost, and few of them are of lists that were cut, 20 are free.
use Rattle.sbp_world.proofs.Words.Std.{arith, ◌≡◌, refl, sym, subst, inl, ℕ, suc, ◌+◌, ◌≤◌, not, true, List, ◌∷◌, ◌++◌, map}
use Rattle.sbp_world.proofs.Words.Wire.{Held, Moment, asked, free, rests, said, terms, waits}
use Rattle.sbp_world.proofs.Words.Target.{Disk}
use Rattle.sbp_world.proofs.Words.Laws.{to_peer}
use Rattle.sbp_world.proofs.Words.World.{IsTame, WorldState, after, after_all, beginning, begun, history_of, more_deliveries}
use Rattle.sbp_laws.specs.Packets.{is_free}
use Rattle.sbp_laws.specs.Packets as packets
use Rattle.sbp_world.specs.Completing.Labels.{AlwaysFrom, AreFew, AreLeft, FewUnderWayLaw, LabelsLeftLaw, LosesNothing, has_unsolicited, is_waiting, of_nobody, under_way}
use Rattle.sbp_world.proofs.Agents.CrewRuns.{serials_between_law, serials_law}
use Rattle.sbp_world.proofs.Agents.Holders.{holders_between_law, holders_law}
use Rattle.sbp_world.proofs.Completing.LabelsKnown.{labels_known}
use Rattle.sbp_world.proofs.Completing.LabelsCounts.{count_all, count_more}
use Rattle.sbp_world.proofs.Completing.LabelsOwned.{IsKnown, few_somebodys}
use Rattle.sbp_world.proofs.Completing.LabelsPlaces.{IsHolding, holding_everywhere}
use Rattle.sbp_world.proofs.Completing.LabelsResting.{none_held_rests}
use Rattle.sbp_world.proofs.Hosts.OrbSpelled.{bit_small}
use Rattle.sbp_world.proofs.Lists.Clauses.{one_up}
use Rattle.sbp_world.proofs.Lists.Courses.{more_than_one}
use Rattle.sbp_world.proofs.Lists.OpenProved.{opens_law}

-- ---- what is known at each place
known_everywhere : AlwaysFrom (λ start now w. IsTame now → IsKnown start now w)
known_everywhere = record {
  after_lines = λ line run r has small size tame. record {
    purposed = serials_law line run r.few has small size r.short r.entries r.lines;
    opened = opens_law.after_lines line run r has small size;
    held = holders_law line run r.few has small size r.short r.entries r.lines;
    apart = one_up.after_lines line run r has small size (inl tame);
  };
  between = λ line run r has small size next most told m tame.
      let event = more_deliveries most in
      let d = more_than_one most in
      record {
        purposed = serials_between_law line run r.few has small size r.short r.entries r.lines next event d told m;
        opened = opens_law.between line run r has small size next event d told m;
        held = holders_between_law line run r.few has small size r.short r.entries r.lines next event d told m;
        apart = one_up.between line run r has small size next most told m (inl tame);
      };
}

-- ---- at a place
module _ (start : List Disk) (now : List Moment) (w : WorldState) (h : IsHolding start now w) (known : IsTame now → IsKnown start now w) where
  few : IsTame now → (i : ℕ) → under_way now i ≤ 3 + of_nobody start now i
  few tame i =
      subst (λ ms. under_way ms i ≤ 3 + of_nobody start ms i) h.is
      (few_somebodys h.units h.ready h.has start w h.holds (subst (λ ms. IsKnown start ms w) (sym h.is) (known tame)) (subst IsTame (sym h.is) tame) i)

  pub are_few : AreFew start now w
  are_few tame i inside = let a = few tame i in let b = bit_small (has_unsolicited start now i) in omega (arith, a, b)

  -- those that are not under way are free where none rests
  not_waiting : (held : Held) → (held ≡ rests → ⊥) → not (is_waiting held) ≡ true → is_free held ≡ true
  not_waiting free r e = refl
  not_waiting rests r e = absurd (r refl)
  not_waiting (waits kind serial) r e = cc

  free_left : LosesNothing now → (i : ℕ) → 64 ≤ packets.free_labels (terms now) 0 (suc i) + under_way now i
  free_left l i =
      let at : ℕ → Held = λ number. (terms now).held (to_peer (terms now) 0 (suc i) number) in
      let all = count_all 64 (λ number. is_waiting (at number)) in
      let more = count_more 64 (λ number. not (is_waiting (at number))) (λ number. is_free (at number)) (λ number b e. not_waiting (at number) (none_held_rests w h l (suc i) number) e) in
      omega (arith, all, more)

  pub are_left : AreLeft start now w
  are_left tame l i inside cut =
      let known_here = labels_known w h (suc i) (omega (arith, inside)) in
      let same = known_here.frees in
      let most = are_few tame i inside in
      let all = free_left l i in
      omega (arith, same, most, all, cut)

-- ---- each place of a run
pub few_under_way_law : FewUnderWayLaw
few_under_way_law = record {
  after_lines = λ line run r has small size.
      are_few run.start.disks (history_of line run) (after (beginning run) run.entries).world (holding_everywhere.after_lines line run r has small size) (known_everywhere.after_lines line run r has small size);
  between = λ line run r has small size next most told m.
      let w = (after_all told (begun (after (beginning run) run.entries))).world in
      are_few run.start.disks (map said w.fresh ++ asked next (more_deliveries most) ∷ history_of line run) w (holding_everywhere.between line run r has small size next most told m) (known_everywhere.between line run r has small size next most told m);
}

pub labels_left_law : LabelsLeftLaw
labels_left_law = record {
  after_lines = λ line run r has small size.
      are_left run.start.disks (history_of line run) (after (beginning run) run.entries).world (holding_everywhere.after_lines line run r has small size) (known_everywhere.after_lines line run r has small size);
  between = λ line run r has small size next most told m.
      let w = (after_all told (begun (after (beginning run) run.entries))).world in
      are_left run.start.disks (map said w.fresh ++ asked next (more_deliveries most) ∷ history_of line run) w (holding_everywhere.between line run r has small size next most told m) (known_everywhere.between line run r has small size next most told m);
}
