use Rattle.sbp2.proofs.serve.serve.Goals as goal

pub returns : goal.returns
returns g c = record { media = _; ends = rw (c.in_ok-media.ensures.media) at c.sbp2.ensures }
