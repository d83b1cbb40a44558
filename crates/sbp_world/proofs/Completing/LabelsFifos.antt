-- At each place of every run in which nobody injected packets each login of the target has a FIFO of a login.
use Rattle.sbp_world.proofs.Words.Std.{inl, ℕ, ◌<◌, ◌∷◌, ◌++◌, map, length, Option, Some, None}
use Rattle.sbp_world.proofs.Words.Wire.{asked, said}
use Rattle.sbp_world.proofs.Words.World.{Always, AreOwn, IsTame, after, after_all, beginning, begun, history_of, more_deliveries}
use Rattle.sbp_world.specs.Lists.Shorts.{IsShortEvent}
use Rattle.sbp_world.proofs.Lists.Beside.{done_based}
use Rattle.sbp_world.proofs.Lists.Clauses.{open_lists_law}
use Rattle.sbp_world.proofs.Lists.Courses.{more_than_one}
use Rattle.sbp_world.proofs.Lists.ListsProved.{closing}
use Rattle.sbp_world.proofs.Lists.LiveLogins.{logins_known}
use Rattle.sbp_world.proofs.Lists.OwnLogins.{own_everywhere}
use Rattle.sbp_world.proofs.Lists.ShortLines.{short_behind, short_law, short_said}

more_short : (most : Option ℕ) → IsShortEvent (more_deliveries most)
more_short (Some count) = tt
more_short None = tt

-- where there is an initiator
pub own_fifos_law : Always (λ now w. IsTame now → 0 < length w.initiators → AreOwn w)
own_fifos_law = record {
  after_lines = λ line run r has small size tame some.
      let so_far = closing.before open_lists_law line run r has small size (inl tame) in
      let w = (after (beginning run) run.entries).world in
      own_everywhere.after_lines line run r has small size so_far tame (short_behind line run run.entries r.lines)
      (λ i l. done_based run.start.disks (length w.initiators) (history_of line run) i l ((logins_known short_law).after_lines line run r has small size so_far i l (tame i, inl tame))) some;
  between = λ line run r has small size next most told m tame some.
      let w = (after_all told (begun (after (beginning run) run.entries))).world in
      let event = more_deliveries most in
      let now = map said w.fresh ++ asked next event ∷ history_of line run in
      let so_far = closing.between open_lists_law line run r has small size next event (more_than_one most) told m (inl tame) in
      own_everywhere.between line run r has small size next most told m so_far tame (short_said w.fresh (asked next event ∷ history_of line run) (more_short most, short_behind line run run.entries r.lines))
      (λ i l. done_based run.start.disks (length w.initiators) now i l ((logins_known short_law).between line run r has small size next most told m so_far i l (tame i, inl tame))) some;
}
