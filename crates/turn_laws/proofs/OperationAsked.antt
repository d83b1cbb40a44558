-- What was asked for an operation stays so as a line begins.
use Rattle.std.proofs.Common.{ap, ℕ, List, ◌∷◌}
use Rattle.rbc_disk.specs.Disk.{Disk}
use Rattle.sbp_journal.specs.Run.{Moment, asked}
use Rattle.sbp_journal.specs.declared.event.Event.{Event}
use Rattle.sbp_world.specs.Lists.Contents.{AreAsked}

pub asked_opens : (start : List Disk) (line : ℕ) (event : Event) (past : List Moment) → AreAsked start past → AreAsked start (asked line event ∷ past)
asked_opens start line event past a = record {
  each = λ serial op e.
      let w = a.each serial op e in
      record {
        generation = w.generation;
        to = w.to;
        bytes = w.bytes;
        later = asked line event ∷ w.later;
        before = w.before;
        is = ap (λ ms. asked line event ∷ ms) w.is;
        operation = w.operation;
        asked = w.asked;
        access = w.access;
        spelled = w.spelled;
        content = w.content;
      };
}
