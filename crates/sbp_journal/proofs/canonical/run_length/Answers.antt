use Rattle.std.proofs.Common.{◌≡◌, ◌-◌, ◌≤◌, ◌==◌, true, subst, length, length-drop, take, drop, arith}
use Rattle.std.specs.List.{list_all}
use Rattle.std.proofs.lemmas.List.{take_all}
use Rattle.sbp_journal.proofs.Runs.{block_more}
use Rattle.sbp_journal.proofs.canonical.run_length.Goals as goal

pub loop-at-preserved : goal.loop-at-preserved
loop-at-preserved c =
    let bytes = c.args.bytes.now in
    let at = c.loop-at.at in
    let inv = c.loop-at.invariant in
    let block = c.begins_block.ensures c.loop-at-test.true in
    let whole = take_all (length bytes - at) (drop at bytes) (simp length-drop (omega arith)) in
    let room = subst (λ xs. 256 ≤ length xs) whole block.0 in
    let all = subst (λ xs. list_all (λ other. other == c.args.byte) (take 256 xs) ≡ true) whole block.1 in
    let size = length-drop at bytes in
    record {
      within = omega (arith, room, size, inv.within);
      counted = block_more c.args.byte at bytes room all inv.counted;
    }
