use Rattle.std.proofs.Common.{rules, ◌≡◌, Some, false, ap, sym, ◌∙◌}
use Rattle.slab.specs.Slab.{get, with_value}
use Rattle.slab.proofs.SlabLemmas.{Updates-with_value}
use Rattle.packet_store.specs.Kept.{in_air}
use Rattle.packet_store.specs.Packets.{holds, kept_in}
use Rattle.packet_store.specs.Rings.{finds}
use Rattle.packet_store.proofs.Keyed.{Marks, absent_marked, mark_holds, mark_tied}
use Rattle.packet_store.proofs.packets.Packets.deliver.Goals as goal

pub returns-in_default-clause-marked : goal.returns-in_default-clause-marked
unfolding holds
returns-in_default-clause-marked c = λ q.
    absent_marked c.args.self.now.slab (finds c.args.self.now.ring) c.args.serial q (ap (kept_in c.args.self.now.slab) (sym c.key_of.ensures ∙ c.in_default.is))

marks : (c : goal.After-self-in-Some-get_mut-1) → Marks c.args.self.now.slab (with_value c.args.self.now.slab c.in-Some.key (record c.in-Some-get_mut.kept.now { in_flight = false })) (finds c.args.self.now.ring) c.args.serial c.in-Some.key c.in-Some-get_mut.kept.now
marks c =
    let there : get c.args.self.now.slab c.in-Some.key ≡ Some c.in-Some-get_mut.kept.now = search rules in
    let up = Updates-with_value c.args.self.now.slab c.in-Some.key (record c.in-Some-get_mut.kept.now { in_flight = false }) (search rules) in
    record { was = sym c.key_of.ensures ∙ c.in-Some.is; there = there; here = up.changed; others = up.others }

pub returns-in-Some-get_mut-clause-marked : goal.returns-in-Some-get_mut-clause-marked
unfolding holds
returns-in-Some-get_mut-clause-marked c = λ q. mark_holds _ _ _ _ c.args.serial c.in-Some.key c.in-Some-get_mut.kept.now q c.requires.tied (marks c)

pub returns-in-Some-get_mut-clause-exact : goal.returns-in-Some-get_mut-clause-exact
returns-in-Some-get_mut-clause-exact c = record {
  ring = c.requires.ring;
  tied = mark_tied _ _ _ _ c.args.serial c.in-Some.key c.in-Some-get_mut.kept.now c.requires.tied (marks c);
  full = c.requires.full;
}

pub returns-in_default-clause-flew : goal.returns-in_default-clause-flew
unfolding holds
returns-in_default-clause-flew c = sym (ap (λ o. in_air (kept_in c.args.self.now.slab o)) (sym c.key_of.ensures ∙ c.in_default.is))

pub returns-in-Some-get_mut-clause-flew : goal.returns-in-Some-get_mut-clause-flew
unfolding holds
returns-in-Some-get_mut-clause-flew c =
    let m = marks c in
    sym (ap (λ o. in_air (kept_in c.args.self.now.slab o)) m.was ∙ ap in_air m.there)
