-- One more piece is summed up.
use Rattle.std.proofs.Common.{◌≤◌, ◌∙◌, refl, sym, ap, ◌*◌, length, drop, length-append, length-drop, arith}
use Rattle.std.proofs.lemmas.List.{length-take-le}
use Rattle.sbp_base.specs.Faults.{count_up}
use Rattle.drill_text.specs.Disks.IsUnread.{failed}
use Rattle.drill_text.proofs.DiskSums.{goes_over, summed_all, summed_more, summed_none}
use Rattle.drill_text.proofs.disk.sum_of_medium.Goals as goal

pub loop-lba-init : goal.loop-lba-init
loop-lba-init g c = record { size = c.requires; few = omega arith; kept = refl; no_fault = refl; summed = summed_none _ }

pub loop-lba-preserved : goal.loop-lba-preserved
loop-lba-preserved g c =
    let inv = c.loop-lba.invariant in
    let lba = c.loop-lba.lba in
    let count = c.min-count.result in
    let test = c.loop-lba-test.true in
    let least = c.min-count.ensures in
    let told = c.blocks-blocks.ensures.0 in
    let room_is = inv.size in
    let inside : 512 * c.min-count.result ≤ length c.loop-lba.room = omega (arith, least, room_is) in
    let size = length-take-le (512 * count) c.loop-lba.room inside in
    let piece = c.read_piece.auto.piece in
    let behind = length-drop (512 * count) c.loop-lba.room in
    let both = length-append c.read_piece.new.piece (drop (512 * count) c.loop-lba.room) in
    record {
      size = omega (arith, both, behind, piece, size, room_is, inside);
      few = omega (arith, least, test);
      kept = c.in-Ok.ensures.kept ∙ inv.kept;
      no_fault = c.in-Ok.ensures.no_fault ∙ inv.no_fault;
      summed = summed_more _ lba count (512 * count) c.loop-lba.sum c.in-Ok.next c.blocks-blocks.ensures.1 refl (omega (arith, least, test, told)) inv.summed (goes_over _ _ lba _ (512 * count) c.loop-lba.sum c.in-Ok.next inv.kept size c.in-Ok.ensures.sum);
    }

pub returns-clause-told : goal.returns-clause-told
returns-clause-told g c =
    let inv = c.loop-lba.invariant in
    let told = c.blocks-blocks.ensures.0 in
    let few = inv.few in
    let test = c.loop-lba-test.false in
    record {
      present = sym c.is_there.ensures ∙ c.if-not-is_there.false;
      no_fault = inv.no_fault;
      sum_is = summed_all _ c.loop-lba.lba c.loop-lba.sum c.blocks-blocks.ensures.1 (omega (arith, told, few, test)) inv.summed;
    }

pub returns-in_default-clause-told : goal.returns-in_default-clause-told
returns-in_default-clause-told g c = failed (sym c.is_there.ensures ∙ c.if-not-is_there.false) (c.in_default.ensures.fault ∙ ap (λ k. count_up k 1) c.loop-lba.invariant.no_fault)
