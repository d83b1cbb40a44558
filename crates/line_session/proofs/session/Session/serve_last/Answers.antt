-- The last line was served, or its fault is told, or memory was wanting.
use Rattle.std.proofs.Common.{sym, ap, ◌∙◌}
use Rattle.line_session.proofs.Sessions.{end_none, end_ok, end_faces, stops, faces_ends, next_number, some_rest, no_rest}
use Rattle.line_session.proofs.session.Session.serve_last.Goals as goal

pub returns-then-is_empty : goal.returns-then-is_empty
returns-then-is_empty g c = record {
  told = λ before left reads end h.
      end_none g.V.Serve.meaning before _ _ _ h end (ap (λ s. s.rest) (sym c.self.view_is) ∙ no_rest c.self.inside.rest c.is_empty.result (rw c.as_slice.ensures at c.is_empty.ensures) c.if-is_empty.true);
}

pub returns-in-Ok : goal.returns-in-Ok
returns-in-Ok g c = record {
  told = λ before left reads end h.
      let k = rw (← c.self.view_is) at h in
      let some = some_rest c.self.inside.rest c.is_empty.result (rw c.as_slice.ensures at c.is_empty.ensures) c.if-is_empty.false in
      end_ok g.V.Serve.meaning before _ _ _ k end some _ _ _ (rw c.as_slice-2.ensures at (c.in-Ok.ensures.served before.media _ k.front (next_number _ _ k.lines_are) k.ran));
}

pub returns-in-Err-Fault : goal.returns-in-Err-Fault
returns-in-Err-Fault g c = record {
  told = λ before left reads end h.
      let k = rw (← c.self.view_is) at h in
      let some = some_rest c.self.inside.rest c.is_empty.result (rw c.as_slice.ensures at c.is_empty.ensures) c.if-is_empty.false in
      let t = rw (c.in-Err-Fault.field-0-is, c.as_slice-2.ensures) at (c.in-Err-Fault.ensures.served before.media _ k.front (next_number _ _ k.lines_are) k.ran) in
      faces_ends g.V.Serve.meaning c.tell_fault.result before _ _ _ _ _ _ (end_faces g.V.Serve.meaning before _ _ _ k end some _ _ _ t.0 t.1) c.tell_fault.ensures;
}

pub returns-in-Err-NoMemory : goal.returns-in-Err-NoMemory
returns-in-Err-NoMemory g c = record {
  told = λ before left reads end h.
      let k = rw (← c.self.view_is) at h in
      let t = rw (c.in-Err-NoMemory.field-0-is, c.as_slice-2.ensures) at (c.in-Err-NoMemory.ensures.served before.media _ k.front (next_number _ _ k.lines_are) k.ran) in
      stops g.V.Serve.meaning before _ _ _ _ _ k t;
}
