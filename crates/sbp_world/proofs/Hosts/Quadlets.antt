-- In every run no quadlet is written into the memory of an initiator, and what it serves is the target's.
use Rattle.sbp_world.proofs.Words.Std.{◌∙◌, ap, ℕ, List}
use Rattle.sbp_world.proofs.Words.Wire.{Moment}
use Rattle.sbp_world.proofs.Words.Laws.{packet_in}
use Rattle.sbp_world.proofs.Words.World.{history_of, writes_quadlet, QuadletLaw, WritesNoQuadlet, SourceLaw}
use Rattle.sbp_world.proofs.Hosts.Between.{between, carried_there}
use Rattle.sbp_world.proofs.Hosts.Mild.{spells_mild}
use Rattle.sbp_world.proofs.Hosts.Fair.{Carried, Fair, fair_carried, fair_of_runs, first_fair, sent_mild}

writes_none : (past : List Moment) (i : ℕ) → Fair past i → WritesNoQuadlet past i
writes_none past i h = record {
  sends = λ serial packet e f. ap (λ x. writes_quadlet (packet_in x)) e ∙ spells_mild packet.bytes (sent_mild past serial packet h.sent e f);
  takes = h.none;
}

pub quadlet_law : QuadletLaw
quadlet_law = record {
  none = λ line run q i b.
      writes_none (history_of line run) i
      (fair_of_runs line run q i b);
  between = λ line run q next event told d m i b.
      writes_none (between line run q next event told) i
      (carried_there line run q next (Carried run.ready) (fair_carried run.ready) (λ entries few short all fit j c. tt) (λ j c. first_fair line j run.initiators run.ready) i b event told d m).fair;
}

pub source_law : SourceLaw
source_law = record {
  sources = λ line run q i b. (fair_of_runs line run q i b).sources;
  between = λ line run q next event told d m i b.
      (carried_there line run q next (Carried run.ready) (fair_carried run.ready) (λ entries few short all fit j c. tt) (λ j c. first_fair line j run.initiators run.ready) i b event told d m).fair.sources;
}
