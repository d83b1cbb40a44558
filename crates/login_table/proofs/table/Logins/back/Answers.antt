use Rattle.std.proofs.Common.{◌≡◌, ◌∙◌, ◌<◌, false, length, sym, arith, Some, None}
use Rattle.std.proofs.lemmas.Bool.Decides.{nat_tests}
use Rattle.std.proofs.lemmas.List.{get_or_default}
use Rattle.login_table.specs.Table.{any_login, is_barred, is_held, is_of_node, place_at}
use Rattle.login_table.proofs.Searching.{found}
use Rattle.login_table.proofs.Kept.{revived_kept}
use Rattle.login_table.proofs.table.Logins.back.Goals as goal

pub unreachable-requires : goal.unreachable-requires
unreachable-requires c =
    let f = found (is_held c.args.login) c.self.inside.places c.in-Some.place (sym c.held_place.ensures.place ∙ c.in-Some.is) in
    let within : c.in-Some.place < length c.self.inside.places = grind arith in
    c.in_default-places.not-Some f.login (get_or_default c.self.inside.places c.in-Some.place _ None within ∙ f.stands)

pub invariant_of-self : goal.invariant_of-self
invariant_of-self c =
    let held = c.in-Some-places.held in
    let within : c.in-Some.place < length c.self.inside.places = grind arith in
    let stands : place_at c.self.inside.places c.in-Some.place ≡ Some held = get_or_default c.self.inside.places c.in-Some.place None _ within ∙ c.in-Some-places.is in
    let alone : any_login (is_of_node held.unit c.args.node) c.self.inside.places ≡ false = sym c.any_of_node.ensures ∙ c.if-any_of_node.false in
    let free : is_barred c.args.node c.args.eui held c.self.inside.places ≡ false = grind (arith, nat_tests, c.if-held-eui.false) in
    rw c.revived.ensures (revived_kept (record { last = c.self.inside.last; places = c.self.inside.places }) c.in-Some.place c.args.node c.args.eui held c.self.invariant stands free)
