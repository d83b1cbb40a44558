use Rattle.std.proofs.Common.{arith, ◌≡◌, ◌*◌, ◌%◌, ◌^◌, ◌-◌, ◌∙◌, take, drop, length, get_or}
use Rattle.orb_list.proofs.Quads.{first_apart, table_step}
use Rattle.orb_list.proofs.layout.+put_table.Goals as goal

pub returns-in-len1-up : goal.returns-in-len1-up
returns-in-len1-up t c =
    let f = c.from.ensures in
    let small = c.type_inv.segments 0 in
    let first : c.from.result * 65536 % 4294967296 ≡ get_or c.args.segments.now 0 0 * 2 ^ 16 = omega arith in
    table_step c.args.image.now c.put_slot_quad.new.image c.put_slot_quad-in-len1-up.new.image c.put_table.new.image c.args.slot c.args.number c.args.at (get_or c.args.segments.now 0 0) _ c.value.result c.behind.result c.args.segments.now (take (length c.args.segments.now - 1) (drop 1 c.args.segments.now))
    c.requires.whole c.requires.small (omega arith) c.put_slot_quad.ensures.set first c.put_slot_quad-in-len1-up.ensures.set (c.value.ensures.value ∙ c.place.ensures) c.put_table.ensures c.behind.ensures (first_apart c.args.segments.now c.in-len1-up.len_at_least)
