-- The line was served and its text waits, or its fault is told, or memory was wanting.
use Rattle.line_session.proofs.Sessions.{feed_ok, feed_faces, stops, faces_ends, flushed, next_number}
use Rattle.line_session.proofs.session.Session.end_line.Goals as goal

pub returns-in-Ok-clause-told : goal.returns-in-Ok-clause-told
returns-in-Ok-clause-told g c = λ before left reads pending h.
    let ran = c.in-Ok.ensures.served before.media _ h.front (next_number _ _ h.lines_are) h.ran in
    let fed = feed_ok g.V.Serve.meaning before _ c.args.part.now pending _ _ h c.requires.feedless c.serve_part.new.self _ _ c.in-Ok.ensures.number c.in-Ok.ensures.rest ran in
    flushed g.V.Serve.meaning c.flush_full.result before _ pending _ c.flush_full.new.self _ _ _ c.flush_full.ensures.number c.flush_full.ensures.rest fed c.flush_full.ensures.written

pub returns-in-Err-Fault-clause-told : goal.returns-in-Err-Fault-clause-told
returns-in-Err-Fault-clause-told g c = λ before left reads pending h.
    let t = rw (c.in-Err-Fault.field-0-is) at (c.in-Err-Fault.ensures.served before.media _ h.front (next_number _ _ h.lines_are) h.ran) in
    let faces = rw (← c.self.view_is) at (feed_faces g.V.Serve.meaning before _ c.args.part.now pending _ _ h c.requires.feedless c.serve_part.new.self.out _ _ t.0 t.1) in
    faces_ends g.V.Serve.meaning c.tell_fault.result before _ _ _ _ _ _ faces c.tell_fault.ensures

pub returns-in-Err-NoMemory-clause-told : goal.returns-in-Err-NoMemory-clause-told
returns-in-Err-NoMemory-clause-told g c = λ before left reads pending h.
    let t = rw (c.in-Err-NoMemory.field-0-is) at (c.in-Err-NoMemory.ensures.served before.media _ h.front (next_number _ _ h.lines_are) h.ran) in
    stops g.V.Serve.meaning before _ _ _ _ _ h t
