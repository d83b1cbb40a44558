use Rattle.std.specs.Prelude.{◌≡◌, replicate}
use Rattle.orb_list.specs.Lists.{no_answer}
use Rattle.orb_list.proofs.lists.no_answers.Given as goal

abbrev pub invariant-loop : goal.invariant-loop
invariant-loop l = l.answers.items ≡ replicate l.counter no_answer
