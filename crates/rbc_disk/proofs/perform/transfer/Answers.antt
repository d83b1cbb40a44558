-- The command that makes the call is the one that was matched.
use Rattle.rbc_disk.proofs.perform.transfer.Goals as goal

pub returns-in-Read : goal.returns-in-Read
returns-in-Read g c = rw c.in-Read.is (c.read_blocks.ensures c.args.payload.now)

pub returns-in-Write : goal.returns-in-Write
returns-in-Write g c = rw c.in-Write.is (c.write_blocks.ensures c.args.answer.now)

pub returns-in-Verify : goal.returns-in-Verify
returns-in-Verify g c = rw c.in-Verify.is (c.verify_blocks.ensures c.args.payload.now c.args.answer.now)
