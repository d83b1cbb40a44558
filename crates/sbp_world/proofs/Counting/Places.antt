-- What is known of the lists at each place of a run in which nobody injected packets, as the rooms need it: so it is ground for each turn from one place to the next.
use Rattle.sbp_world.proofs.Words.Std.{refl, subst, inl, ◌<◌, List, [], ◌∷◌, ◌++◌, map}
use Rattle.sbp_world.proofs.Words.Wire.{Moment, asked, said}
use Rattle.sbp_world.proofs.Words.Laws.{OrderLaw, injectors}
use Rattle.sbp_world.proofs.Words.World.{Always, AreAlong, AreApart, OpenLists, WorldState, after, after_all, beginning, begun, history_of, more_deliveries}
use Rattle.sbp_world.proofs.Counting.Worked.{AreWithin}
use Rattle.sbp_world.proofs.Hosts.Lasting.{lasting_law}
use Rattle.sbp_world.proofs.Hosts.Runs.{count_after, count_between}
use Rattle.sbp_world.proofs.Lists.Clauses.{one_up, open_lists_law}
use Rattle.sbp_world.proofs.Lists.Courses.{more_than_one}
use Rattle.sbp_world.proofs.Lists.ListsProved.{closing}
use Rattle.sbp_world.proofs.Lists.RunLaws.{along_law, order_run_law}
use Rattle.sbp_world.proofs.Lists.ShortLines.{short_law}
use Rattle.sbp_world.proofs.Lists.UpLatest.{AreUpLatest, up_latest_law}
use Rattle.sbp_world.specs.Lists.OwnLogins.{IsTame}

pub record IsPlace (past : List Moment) (w : WorldState) : Type 0 where
  pub lists : OpenLists past w
  pub along : AreAlong past w
  pub within : AreWithin past w
  pub latest : AreUpLatest past w
  pub apart : AreApart past w
  pub order : OrderLaw (injectors past) past

-- ---- each place of a run
pub places_law : Always (λ past w. IsTame past → IsPlace past w)
places_law = record {
  after_lines = λ line run r has small size tame.
      let so_far = closing.before open_lists_law line run r has small size (inl tame) in
      record {
        lists = open_lists_law.after_lines line run r has small size (inl tame);
        along = along_law.after_lines line run r has small size so_far;
        within = λ i n b. (lasting_law.lasts line run r i (subst (λ k. i < k) (count_after run run.entries) b) [] (history_of line run) refl).linked_in n;
        latest = (up_latest_law short_law).after_lines line run r has small size so_far (inl tame);
        apart = one_up.after_lines line run r has small size (inl tame);
        order = order_run_law.after_lines line run r has small size so_far;
      };
  between = λ line run r has small size next most told m tame.
      let d = more_than_one most in
      let w = (after_all told (begun (after (beginning run) run.entries))).world in
      let now = map said w.fresh ++ asked next (more_deliveries most) ∷ history_of line run in
      let so_far = closing.between open_lists_law line run r has small size next (more_deliveries most) d told m (inl tame) in
      record {
        lists = open_lists_law.between line run r has small size next (more_deliveries most) d told m (inl tame);
        along = along_law.between line run r has small size next (more_deliveries most) d told m so_far;
        within = λ i n b. (lasting_law.between line run r next most told m i (subst (λ k. i < k) (count_after run run.entries) (subst (λ k. i < k) (count_between told (after (beginning run) run.entries)) b)) [] now refl).linked_in n;
        latest = (up_latest_law short_law).between line run r has small size next most told m so_far (inl tame);
        apart = one_up.between line run r has small size next most told m (inl tame);
        order = order_run_law.between line run r has small size next (more_deliveries most) d told m so_far;
      };
}
