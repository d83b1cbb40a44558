use Rattle.std.proofs.Common.{refl, ◌∙◌, ap, List, ◌++◌, drop, ℕ}
use Rattle.orb_layout.specs.Pointers.{quad_bytes}
use Rattle.orb_layout.specs.CommandOrbs.{command_quads}
use Rattle.orb_layout.proofs.Writing.{middle_written}
use Rattle.orb_layout.proofs.command.CommandOrb.write.Goals as goal

pub returns-clause-written : goal.returns-clause-written
returns-clause-written c =
    middle_written c.args.out.now c.put_quadlets.new.out (quad_bytes (command_quads c.args.self.now)) c.copy_from_slice.new.self 20 12 refl c.put_quadlets.ensures
    ∙ ap (λ (l : List ℕ). quad_bytes (command_quads c.args.self.now) ++ (l ++ drop 32 c.args.out.now)) c.copy_from_slice.ensures.after
