use Rattle.std.proofs.Common.{subst}
use Rattle.sbp_initiator.specs.Acting.{IsAction}
use Rattle.task_world.proofs.parts.lines.weight_in.Goals as goal

pub weight_of-requires-clause-limit : goal.weight_of-requires-clause-limit
weight_of-requires-clause-limit c = (subst IsAction c.in-Put.is c.requires 0 0).max_payload

pub weight_of-requires-clause-short : goal.weight_of-requires-clause-short
weight_of-requires-clause-short c = (subst IsAction c.in-Put.is c.requires 0 0).segments

pub weight_of-requires-in-Append-clause-limit : goal.weight_of-requires-in-Append-clause-limit
weight_of-requires-in-Append-clause-limit c = (subst IsAction c.in-Append.is c.requires 0 0).max_payload

pub weight_of-requires-in-Append-clause-short : goal.weight_of-requires-in-Append-clause-short
weight_of-requires-in-Append-clause-short c = (subst IsAction c.in-Append.is c.requires 0 0).segments
