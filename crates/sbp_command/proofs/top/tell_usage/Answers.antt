-- A front of the usage line was written.
use Rattle.sbp_command.proofs.Words.{usage_fails}
use Rattle.sbp_command.proofs.top.tell_usage.Goals as goal

pub returns-in-Err : goal.returns-in-Err
returns-in-Err g c = λ left reads disks faults.
    rw c.status_of.ensures (usage_fails c.in-Err.status left reads (g.K.Sink.written c.args.sink.now) (g.K.Sink.written c.write_all.new.sink) (g.K.Sink.faults c.args.sink.now) (g.K.Sink.faults c.write_all.new.sink) disks faults
    (rw c.as_bytes.ensures.value at c.in-Err.ensures))
