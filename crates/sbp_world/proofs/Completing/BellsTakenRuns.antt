-- So it is at rest in every run.
use Rattle.sbp_world.proofs.Words.Std.{◌≡◌, ◌∙◌, subst, ◌<◌, ℕ, List, ◌∷◌, ◌++◌, map}
use Rattle.sbp_world.proofs.Words.Wire.{Moment, asked, said, terms}
use Rattle.sbp_world.proofs.Words.Laws.{EachMoment}
use Rattle.sbp_world.proofs.Words.World.{IsCalm, MayStand, Stands, WorldState, after, after_all, beginning, begun, history_of, more_deliveries}
use Rattle.sbp_laws.specs.Budget.{Lossless}
use Rattle.sbp_world.specs.Completing.Bells.{WasBelled}
use Rattle.sbp_world.specs.Completing.BellsTaken.{RestBelledLaw}
use Rattle.sbp_world.specs.Completing.RestServed.{WereTaken}
use Rattle.sbp_world.specs.Completing.Sights.{IsFresh}
use Rattle.sbp_world.proofs.Agents.Management.Runs.{holds_after}
use Rattle.sbp_world.proofs.Agents.Management.Still.{hist}
use Rattle.sbp_world.proofs.Completing.BellsTaken.{bell_taken}
use Rattle.sbp_world.proofs.Completing.RestRuns.{rest_served_law}
use Rattle.sbp_world.proofs.Hosts.Between.{stands_there}
use Rattle.sbp_world.proofs.Hosts.Runs.{count_after, count_between}
use Rattle.sbp_world.proofs.Lists.UnderwayRuns.{delivering}
use Rattle.sbp_world.proofs.Pointers.Proved.{moments_law}

taken_at : (past : List Moment) (w : WorldState) (now : List Moment) → Stands past w → hist past w ≡ now → (i n k : ℕ) → IsCalm now i → Lossless now → WereTaken now → EachMoment (MayStand i) now → IsFresh now i n → (written : WasBelled now i n k) → (terms now).news written.serial ≡ 1
taken_at past w now h is i n k =
    subst (λ ms. IsCalm ms i → Lossless ms → WereTaken ms → EachMoment (MayStand i) ms → IsFresh ms i n → (written : WasBelled ms i n k) → (terms ms).news written.serial ≡ 1) is
    (λ calm lossless taken moments fresh written. bell_taken w h i n k calm lossless taken moments fresh written)

pub rest_belled_law : RestBelledLaw
rest_belled_law = record {
  after_lines = λ line run r has small size lossless quiet i n k b calm fresh written.
      let h = holds_after line run run.entries r.few has small size r.short r.entries r.lines in
      taken_at h.past (after (beginning run) run.entries).world (history_of line run) h.holds.sound.stands h.is i n k calm lossless (rest_served_law.after_lines line run r has small size lossless quiet)
      (moments_law.after_lines line run r i (subst (λ c. i < c) (count_after run run.entries) b)) fresh written;
  between = λ line run r has small size next most told m lossless quiet i n k b calm fresh written.
      let w = (after_all told (begun (after (beginning run) run.entries))).world in
      let x = stands_there line run r next (more_deliveries most) told (delivering told most) m in
      taken_at x.past w (map said w.fresh ++ asked next (more_deliveries most) ∷ history_of line run) x.sound.stands x.is i n k calm lossless (rest_served_law.between line run r has small size next most told m lossless quiet)
      (moments_law.between line run r next most told m i (subst (λ c. i < c) (count_between told (after (beginning run) run.entries) ∙ count_after run run.entries) b)) fresh written;
}
