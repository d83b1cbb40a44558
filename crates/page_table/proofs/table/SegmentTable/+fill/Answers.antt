use Rattle.std.proofs.Common.{arith, rules, ◌∙◌, ap, ◌*◌, ◌<◌, length, length-append}
use Rattle.page_table.proofs.ElementSteps.{one_behind, none_behind, rest_sound}
use Rattle.page_table.proofs.table.SegmentTable.+fill.Goals as goal

pub fill-requires : goal.fill-requires
fill-requires t c =
    let below : 8 * c.args.at < length c.args.bytes.now = omega (arith, c.if-from-bytes.false) in (
      search rules,
      (
        c.requires.whole,
        (
          omega arith,
          (
            c.requires.room,
            (
              omega (arith, simp length-append at (ap length c.push.ensures)),
              rest_sound c.args.bytes.now c.args.at below c.requires.whole c.requires.sound,
            ),
          ),
        ),
      ),
    )

pub returns : goal.returns
returns t c =
    let below : 8 * c.args.at < length c.args.bytes.now = omega (arith, c.if-from-bytes.false) in
    c.fill.ensures ∙ one_behind c.args.bytes.now c.args.at c.args.self.now c.push.new.self below c.requires.whole (cc)

pub returns-then-from-bytes : goal.returns-then-from-bytes
returns-then-from-bytes t c = none_behind c.args.bytes.now c.args.at c.args.self.now (omega arith)
