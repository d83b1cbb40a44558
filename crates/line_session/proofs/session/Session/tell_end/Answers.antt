-- What is said at the end is written, as far as memory and the sink allow.
use Rattle.line_session.proofs.Sessions.{close_torn, close_fails}
use Rattle.line_session.proofs.session.Session.tell_end.Goals as goal

pub returns-in-Err : goal.returns-in-Err
returns-in-Err g c = record { told = λ before left reads disks faults h. close_torn g.V.Serve.meaning before _ _ _ h }

pub returns-in-Err-flush : goal.returns-in-Err-flush
returns-in-Err-flush g c = record {
  told = λ before left reads disks faults h.
      let k = rw (← c.self.view_is) at h in
      close_fails g.V.Serve.meaning c.in-Err-flush.status before _ _ _ _ _ _ k (c.in_default.ensures before.media _ _ k.front k.ran) c.in-Err-flush.ensures.written;
}
