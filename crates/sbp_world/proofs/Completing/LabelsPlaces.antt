-- At each place of every run the target is what calls made of it, and its terms of management are its state.
use Rattle.sbp_world.proofs.Words.Std.{◌≡◌, ap, ℕ, ◌+◌, ◌<◌, List, ◌∷◌, ◌++◌, map, length}
use Rattle.sbp_world.proofs.Words.Wire.{Moment, asked, said}
use Rattle.sbp_world.proofs.Words.Target.{Disk}
use Rattle.sbp_world.proofs.Words.World.{WorldState, after, after_all, beginning, begun, more_deliveries, ready_logins}
use Rattle.sbp_world.specs.Completing.Labels.{AlwaysFrom}
use Rattle.sbp_world.proofs.Agents.Management.Holding.{Holding}
use Rattle.sbp_world.proofs.Agents.Management.Lines.{all_heard, opens}
use Rattle.sbp_world.proofs.Agents.Management.Runs.{holds_after, no_repeats, not_reset}
use Rattle.sbp_world.proofs.Agents.Management.Still.{hist}
use Rattle.sbp_world.proofs.Hosts.Runs.{are_told}
use Rattle.sbp_world.proofs.Lists.Courses.{more_than_one}

pub record IsHolding (start : List Disk) (now : List Moment) (w : WorldState) : Type 0 where
  pub units : ℕ
  pub ready : ℕ
  pub has : 0 < units
  pub past : List Moment
  pub lines : ℕ
  pub holds : Holding units ready start past lines w
  pub is : hist past w ≡ now

pub holding_everywhere : AlwaysFrom IsHolding
holding_everywhere = record {
  after_lines = λ line run r has small size.
      let h = holds_after line run run.entries r.few has small size r.short r.entries r.lines in
      record { units = run.units; ready = ready_logins run.initiators run.ready; has = has; past = h.past; lines = length run.entries; holds = h.holds; is = h.is };
  between = λ line run r has small size next most told m.
      let here = after (beginning run) run.entries in
      let w = (after_all told (begun here)).world in
      let d = more_than_one most in
      let h = holds_after line run run.entries r.few has small size r.short r.entries r.lines in
      let logins = ready_logins run.initiators run.ready in
      let first = opens run.units logins has run.start.disks next (more_deliveries most) here.world (not_reset (more_deliveries most) d) h.holds in
      record {
        units = run.units;
        ready = logins;
        has = has;
        past = asked next (more_deliveries most) ∷ hist h.past here.world;
        lines = length run.entries + 1;
        holds = all_heard run.units logins has run.start.disks told (are_told told here m) (begun here) first (no_repeats (more_deliveries most) (hist h.past here.world) next d);
        is = ap (λ ms. map said w.fresh ++ asked next (more_deliveries most) ∷ ms) h.is;
      };
}
