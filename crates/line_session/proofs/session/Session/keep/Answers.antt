-- The bytes are kept, or the line is refused for its length, or memory was wanting.
use Rattle.std.proofs.Common.{sym, ◌∙◌}
use Rattle.line_session.proofs.Sessions.{push_ok, long_faces, stops, faces_ends}
use Rattle.line_session.proofs.session.Session.keep.Goals as goal

pub returns-in-Err-clause-told : goal.returns-in-Err-clause-told
returns-in-Err-clause-told g c = λ before left reads disks faults h. stops g.V.Serve.meaning before _ _ _ _ _ h (g.V.Serve.meaning.stays_same _)

pub returns-then-is_surely_long-clause-told : goal.returns-then-is_surely_long-clause-told
returns-then-is_surely_long-clause-told g c = λ before left reads disks faults h.
    let k = rw (← c.self.view_is) at h in
    let pushed = push_ok g.V.Serve.meaning before _ c.args.part.now _ _ k c.requires.feedless in
    let long = rw (c.as_slice.ensures, c.in_default.ensures.ok) at (sym c.is_surely_long.ensures ∙ c.if-is_surely_long.true) in
    faces_ends g.V.Serve.meaning c.tell_fault.result before _ _ _ _ _ _ (long_faces g.V.Serve.meaning before _ _ _ pushed long) (rw c.long_fault.ensures at c.tell_fault.ensures)

pub returns-clause-told : goal.returns-clause-told
returns-clause-told g c = λ before left reads disks faults h.
    let k = rw (← c.self.view_is) at h in
    rw c.in_default.ensures.ok (push_ok g.V.Serve.meaning before _ c.args.part.now _ _ k c.requires.feedless)
