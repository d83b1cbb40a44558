-- At rest the target handles no operation, and each write of the latest generation was taken: so an operation that an initiator has under way was refused or ignored, or its status block was taken.
use Rattle.sbp_world.proofs.Words.Std.{arith, ◌≡◌, ◌∙◌, inl, sym, ap, ℕ, suc, ◌<◌, ◌++◌, List, ◌∷◌, length, map}
use Rattle.sbp_world.proofs.Words.Wire.{Moment, asked, said, terms}
use Rattle.sbp_world.proofs.Words.Target.{Disk}
use Rattle.sbp_world.proofs.Words.Laws.{Underway, initiators}
use Rattle.sbp_world.proofs.Words.World.{IsTame, WorldState, after, after_all, beginning, begun, history_of, more_deliveries}
use Rattle.sbp_laws.specs.Budget.{Lossless}
use Rattle.sbp_world.specs.Completing.EndsAimed.{IsAimed}
use Rattle.sbp_world.specs.Completing.EndsBecame.{IsLeft, LeftLaw, ended, ignored, refused}
use Rattle.sbp_world.specs.Completing.EndsTaken.{Became, busy, dropped, handled, told}
use Rattle.sbp_world.specs.Completing.Rest.{IsAtRest}
use Rattle.sbp_world.specs.Completing.RestServed.{WereTaken}
use Rattle.sbp_world.proofs.Common.{delivers, none_is}
use Rattle.sbp_world.proofs.Completing.EndsAimed.{aimed_law}
use Rattle.sbp_world.proofs.Completing.EndsBecame.{became_law}
use Rattle.sbp_world.proofs.Completing.LabelsResting.{lossless_law}
use Rattle.sbp_world.proofs.Completing.OperationsRuns.{management_alone_law}
use Rattle.sbp_world.proofs.Completing.RestRuns.{rest_law, rest_served_law}
use Rattle.sbp_world.proofs.Counting.StartCounted.{counted_after, counted_between}
use Rattle.sbp_world.proofs.Lists.Clauses.{open_lists_law}
use Rattle.sbp_world.proofs.Lists.Fair.{Told, told_everywhere}
use Rattle.sbp_world.proofs.Lists.ListsProved.{closing}

module _ (disks : List Disk) (now : List Moment) (w : WorldState) (tame : IsTame now) (lossless : Lossless now) (count : length w.initiators ≡ initiators now) (rest : IsAtRest disks now w) (taken : WereTaken now) (fair : Told now) (i : ℕ) (b : i < length w.initiators) (u : Underway) (a : IsAimed now i u.place u.first) where
  level : (terms now).generation (suc i) ≡ (terms now).bus
  level = lossless.seen (suc i) (omega (arith, b, count))

  was_taken : 0 < (terms now).news u.first
  was_taken =
      let one : (terms now).news u.first ≡ 1 = taken u.first (record {
        packet = a.packet;
        sent = a.sent;
        honest = a.honest;
        label = a.label;
        part = a.part;
        latest = a.current ∙ level;
        from = ap (terms now).injects a.for_place.from_is ∙ tame i;
        to = ap (terms now).injects a.for_place.to_is ∙ fair.fair;
      }) in
      omega (arith, one)

  left_of : Became disks now i u.first u.place (terms now).bus → IsLeft disks now i u
  left_of (handled h) = none_is h.op (sym rest.by_terms.operation ∙ h.is)
  left_of (busy x) = refused x
  left_of (dropped x) = ignored x
  left_of (told x) = ended x

pub left_law : LeftLaw
left_law = record {
  after_lines = λ line run r has small size tame lossless calm well i b u is.
      let w = (after (beginning run) run.entries).world in
      let now = history_of line run in
      let count = counted_after line run r size in
      let so_far = closing.before open_lists_law line run r has small size (inl tame) in
      let manages = management_alone_law.after_lines line run r has small size lossless calm i b u is in
      let a = aimed_law.after_lines line run r has small size (inl tame) i b (tame i) u is manages in
      let rest = rest_law.after_lines line run r has small size lossless calm in
      let taken = rest_served_law.after_lines line run r has small size lossless calm in
      let fair = told_everywhere.after_lines line run r has small size so_far in
      left_of run.start.disks now w tame lossless count rest taken fair i b u a
      (became_law.after_lines line run r has small size tame (lossless_law.after_lines line run r has small size lossless).kept well i b u
      (record { is = is; manages = manages; latest = level run.start.disks now w tame lossless count rest taken fair i b u a; taken = was_taken run.start.disks now w tame lossless count rest taken fair i b u a }));
  between = λ line run r has small size next most told m tame lossless calm well i b u is.
      let w = (after_all told (begun (after (beginning run) run.entries))).world in
      let now = map said w.fresh ++ asked next (more_deliveries most) ∷ history_of line run in
      let count = counted_between line run r size next (more_deliveries most) told m in
      let so_far = closing.between open_lists_law line run r has small size next (more_deliveries most) (delivers most) told m (inl tame) in
      let manages = management_alone_law.between line run r has small size next most told m lossless calm i b u is in
      let a = aimed_law.between line run r has small size next most told m (inl tame) i b (tame i) u is manages in
      let rest = rest_law.between line run r has small size next most told m lossless calm in
      let taken = rest_served_law.between line run r has small size next most told m lossless calm in
      let fair = told_everywhere.between line run r has small size next most told m so_far in
      left_of run.start.disks now w tame lossless count rest taken fair i b u a
      (became_law.between line run r has small size next most told m tame (lossless_law.between line run r has small size next most told m lossless).kept well i b u
      (record { is = is; manages = manages; latest = level run.start.disks now w tame lossless count rest taken fair i b u a; taken = was_taken run.start.disks now w tame lossless count rest taken fair i b u a }));
}
