use Rattle.std.proofs.Common.{◌∙◌, sym, ap, inr, ◌+◌, ◌-◌, ◌++◌, ◌∷◌, [], arith}
use Rattle.config_rom.specs.Tree.{entries_from, first_void, is_void}
use Rattle.config_rom.proofs.Steps.{entries-added, void-next, void-here}
use Rattle.config_rom.proofs.read.push_entries.Goals as goal

pub returns-then-is_void-clause-err : goal.returns-then-is_void-clause-err
returns-then-is_void-clause-err c =
    let place = c.loop-place.place in
    let end = c.args.at + 1 + c.args.count in
    let void = ap is_void (sym c.read-entry.ensures) ∙ sym c.is_void.ensures ∙ c.if-is_void.true in
    inr (void-here c.args.quads.now place (end - place) (end - (place + 1)) (first_void (entries_from c.args.quads.now (c.args.at + 1) c.args.count)) (omega arith) void c.loop-place.invariant.sound)

pub loop-place-preserved : goal.loop-place-preserved
loop-place-preserved c =
    let place = c.loop-place.place in
    let quads = c.args.quads.now in
    let end = c.args.at + 1 + c.args.count in
    let void = ap is_void (sym c.read-entry.ensures) ∙ sym c.is_void.ensures ∙ c.if-is_void.false in
    let xs = c.loop-place.entries.items in
    let pushed = c.in_ok-push.ensures.items ∙ ap (λ entry. xs ++ entry ∷ []) c.read-entry.ensures in
    record {
      added = entries-added quads place (place + 1) (end - place) (end - (place + 1)) xs c.push.new.self.items (c.args.entries.now.items ++ entries_from quads (c.args.at + 1) c.args.count) (omega arith) (omega arith) pushed c.loop-place.invariant.added;
      sound = void-next quads place (place + 1) (end - place) (end - (place + 1)) (first_void (entries_from quads (c.args.at + 1) c.args.count)) (omega arith) (omega arith) void c.loop-place.invariant.sound;
    }
