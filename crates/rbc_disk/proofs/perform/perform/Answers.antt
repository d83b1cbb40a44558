-- A load has neither data nor an answer.
use Rattle.rbc_disk.proofs.perform.perform.Goals as goal

pub returns-in-Load : goal.returns-in-Load
returns-in-Load g c = rw c.in-Load.is (c.load.ensures c.args.payload.now c.args.answer.now)
