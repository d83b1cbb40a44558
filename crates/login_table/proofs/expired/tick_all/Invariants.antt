use Rattle.std.specs.Prelude.{◌≡◌, ◌≤◌, ◌++◌, length, map, take, drop}
use Rattle.login_table.specs.Table.{ticked, expired_ids}
use Rattle.login_table.proofs.expired.tick_all.Given as goal

abbrev pub invariant-loop-place : goal.invariant-loop-place
invariant-loop-place l = record {
  places : l.places ≡ map ticked (take l.place-index l.initial.places) ++ drop l.place-index l.initial.places;
  expired : l.expired ≡ expired_ids (take l.place-index l.initial.places);
  most : length l.expired ≤ l.place-index;
}
