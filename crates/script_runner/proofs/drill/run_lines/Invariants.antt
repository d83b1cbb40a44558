-- The lines up to this one were run.
use Rattle.std.proofs.Common.{◌≡◌, List, length, map}
use Rattle.rbc_disk.specs.Held.{Held, held}
use Rattle.sbp_journal.specs.declared.event.Event.{Event}
use Rattle.script_runner.specs.Drilling.{AreLeft, InDrill}
use Rattle.script_runner.proofs.drill.run_lines.Given as goal

abbrev pub invariant-lines : goal.invariant-lines
invariant-lines g l = record {
  size : length l.media.items ≡ length l.initial.media.items;
  units : length l.media.items ≡ length l.world.target.units;
  left : AreLeft l.line l.script (length l.world.initiators);
  so_far : (start : Held) (all : List Event)
      → InDrill start all 1 l.initial.script l.initial.tally l.initial.world (held (map (λ b. (goal.Medium-dyn g (b.vtable, b.value)).disk b.value) l.initial.media.items) (map (λ b. (goal.Medium-dyn g (b.vtable, b.value)).media_faults b.value) l.initial.media.items))
      → InDrill start all l.line l.script l.tally l.world (held (map (λ b. (goal.Medium-dyn g (b.vtable, b.value)).disk b.value) l.media.items) (map (λ b. (goal.Medium-dyn g (b.vtable, b.value)).media_faults b.value) l.media.items));
}

abbrev pub decreases-lines : goal.decreases-lines
decreases-lines g l = length l.script
