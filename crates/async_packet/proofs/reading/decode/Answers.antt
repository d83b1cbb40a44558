use Rattle.std.proofs.Common.{◌∙◌, sym}
use Rattle.async_packet.specs.Packet.{view}
use Rattle.async_packet.proofs.Judged.{no_fault}
use Rattle.async_packet.proofs.Spelled.{reading_spelled, reading_fault}
use Rattle.async_packet.proofs.reading.decode.Goals as goal

pub returns-in-Some-clause-only : goal.returns-in-Some-clause-only
returns-in-Some-clause-only c p s =
    let e = sym c.in-Some.is ∙ c.judge.ensures ∙ no_fault c.args.bytes.now p s in
    cc e

pub returns-in-Some-clause-reading : goal.returns-in-Some-clause-reading
returns-in-Some-clause-reading c = reading_fault c.args.bytes.now c.in-Some.fault (sym c.judge.ensures ∙ c.in-Some.is)

pub returns-in-None-clause-reading : goal.returns-in-None-clause-reading
returns-in-None-clause-reading c = reading_spelled c.args.bytes.now (view c.packet_at.result) c.packet_at.ensures
