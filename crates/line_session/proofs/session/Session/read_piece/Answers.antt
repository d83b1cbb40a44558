-- What waited is written, and the piece that was read is taken.
use Rattle.std.proofs.Common.{Ok, Err, [], arith}
use Rattle.sbp_base.proofs.FaultLemmas.{cause_rose}
use Rattle.line_session.proofs.Sessions.{flushes_all, flush_ok, flush_fails, piece_read, read_fails, keeps_all}
use Rattle.line_session.proofs.session.Session.read_piece.Goals as goal

pub returns-in-Err-clause-told : goal.returns-in-Err-clause-told
returns-in-Err-clause-told g c = λ before h.
    flush_fails g.V.Serve.meaning c.in-Err.status before _ _ _ [] _ _ _ h (flushes_all _ _ _ _ (Err c.in-Err.status) _ [] c.in-Err.ensures.written tt)

pub returns-in-Ok-take_piece-clause-told : goal.returns-in-Ok-take_piece-clause-told
returns-in-Ok-take_piece-clause-told g c = λ before h.
    let f = flush_ok g.V.Serve.meaning c.in_default.field-0 before _ _ _ c.flush.new.self _ _ _ c.flush.ensures.number c.flush.ensures.rest h (flushes_all _ _ _ _ (Ok _) _ _ c.in_default.ensures.written c.in_default.ensures.none) in
    (c.in-Ok-take_piece.ensures.told before _ _ (piece_read g.V.Serve.meaning before _ _ _ _ _ _ f c.in-Ok.ensures.bytes.0 c.in-Ok.ensures.cause.counted), λ e. c.in-Ok.ensures.bytes.1 e (omega arith))

pub returns-in-Err-take_piece-clause-told : goal.returns-in-Err-take_piece-clause-told
returns-in-Err-take_piece-clause-told g c = λ before h.
    let f = flush_ok g.V.Serve.meaning c.in_default.field-0 before _ _ _ c.flush.new.self _ _ _ c.flush.ensures.number c.flush.ensures.rest h (flushes_all _ _ _ _ (Ok _) _ _ c.in_default.ensures.written c.in_default.ensures.none) in
    c.in-Err-take_piece.ensures.told before _ _ (piece_read g.V.Serve.meaning before _ _ _ _ _ _ f c.in-Ok.ensures.bytes.0 c.in-Ok.ensures.cause.counted)

pub returns-in-Err-read-clause-told : goal.returns-in-Err-read-clause-told
returns-in-Err-read-clause-told g c = λ before h.
    let f = flush_ok g.V.Serve.meaning c.in_default.field-0 before _ _ _ c.flush.new.self _ _ _ c.flush.ensures.number c.flush.ensures.rest h (flushes_all _ _ _ _ (Ok _) _ _ c.in_default.ensures.written c.in_default.ensures.none) in
    read_fails g.V.Serve.meaning before _ _ _ _ _ f c.in_default.ensures.none (rw c.flush.ensures.rest c.requires.ready.short) (keeps_all _ _ c.in-Err-read.ensures.bytes) (cause_rose _ _ _ c.in-Err-read.ensures.cause)
