-- A write comes behind the others.
use Rattle.std.proofs.Common.{◌∙◌, sym, subst, ◌<◌, arith}
use Rattle.retry_queue.proofs.Calls.{as_many, has_submitted, writes_more}
use Rattle.retry_queue.proofs.queue.Queue.submit.Goals as goal

pub overflow_cast-number : goal.overflow_cast-number
overflow_cast-number c =
    let many = as_many c.self.inside.told.world c.self.inside.kept c.self.inside.submissions.items c.self.inside.told.notes c.args.self.now c.self.view_is in
    let few = c.requires.count in
    let count = c.len-number.ensures in
    omega (arith, many, few, count)

pub invariant_of-self-2 : goal.invariant_of-self-2
invariant_of-self-2 c =
    let many = as_many c.self.inside.told.world c.self.inside.kept c.self.inside.submissions.items c.self.inside.told.notes c.args.self.now c.self.view_is in
    writes_more c.self.inside.submissions.items c.push.new.self.items c.args.lba c.args.payload (record { event = c.append_event.result; event_is = c.append_event.ensures.event; behind = c.in_ok-push.ensures.items }) c.self.invariant
    (record { address = c.append_event.ensures.address; some = c.requires.some; few = c.requires.few; whole = c.requires.whole }) c.append_event.ensures.bytes (subst (λ n. n < 65536) (sym many) c.requires.count)

pub returns-clause-number : goal.returns-clause-number
returns-clause-number c =
    let many = as_many c.self.inside.told.world c.self.inside.kept c.self.inside.submissions.items c.self.inside.told.notes c.args.self.now c.self.view_is in
    let count = c.len-number.ensures in
    omega (arith, many, count)

pub returns-clause-ok : goal.returns-clause-ok
returns-clause-ok c =
    has_submitted c.self.inside.told.world c.submit.new.self.world c.self.inside.kept c.self.inside.submissions.items c.push.new.self.items c.self.inside.told.notes c.submit.new.self.notes c.args.self.now c.args.lba c.args.payload _ c.len-number.result c.self.view_is c.append_event.ensures.address c.submit.ensures.world
    (record { event = c.append_event.result; event_is = c.append_event.ensures.event; behind = c.in_ok-push.ensures.items }) (let count = c.len-number.ensures in omega (arith, count)) (c.in_ok-bytes.ensures ∙ c.as_slice.ensures) c.submit.ensures.notes
