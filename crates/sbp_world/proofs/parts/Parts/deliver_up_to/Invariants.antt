-- So many packets were delivered.
use Rattle.sbp_world.proofs.Words.Std.{◌≡◌, length, map}
use Rattle.sbp_world.proofs.Words.Target.{NoneFell}
use Rattle.sbp_world.proofs.Words.World.{DeliversAll, scene}
use Rattle.sbp_world.proofs.parts.Parts.deliver_up_to.Given as goal

abbrev pub invariant-loop : goal.invariant-loop
invariant-loop g l = record {
  size : length l.media.items ≡ length l.initial.media.items;
  units : length l.self.target.units ≡ length l.initial.self.target.units;
  fell : NoneFell (map (λ b. (goal.Medium-dyn g (b.vtable, b.value)).media_faults b.value) l.initial.media.items) (map (λ b. (goal.Medium-dyn g (b.vtable, b.value)).media_faults b.value) l.media.items);
  so_far : DeliversAll l.counter
      (scene l.initial.self (map (λ b. (goal.Medium-dyn g (b.vtable, b.value)).disk b.value) l.initial.media.items) (map (λ b. (goal.Medium-dyn g (b.vtable, b.value)).media_faults b.value) l.initial.media.items))
      (scene l.self (map (λ b. (goal.Medium-dyn g (b.vtable, b.value)).disk b.value) l.media.items) (map (λ b. (goal.Medium-dyn g (b.vtable, b.value)).media_faults b.value) l.media.items));
}
