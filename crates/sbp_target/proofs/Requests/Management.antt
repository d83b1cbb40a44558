-- The management operation: a write of MANAGEMENT_AGENT brings its five requests, and each reply makes one of those that are left.
use Rattle.std.proofs.Common.{arith, ◌≡◌, refl, ap, ℕ, ◌+◌, ◌*◌, ◌^◌, ◌≤◌, ◌==◌, Bool, true, false, cond, List, length, Option, Some, None, Result, Ok, Err}
use Rattle.sbp_base.specs.Quadlets.{quad}
use Rattle.label_table.specs.declared.judgement.Asked.{Asked}
use Rattle.label_table.specs.Bodies.{Body}
use Rattle.label_table.specs.Layer.{Layer, asking_step}
use Rattle.login_table.specs.Table.{Table}
use Rattle.mgmt_agent.specs.declared.decision.ManagerStep.{ManagerStep}
use Rattle.mgmt_agent.specs.declared.decision.Outcome.{Outcome}
use Rattle.mgmt_agent.specs.declared.operation.Operation.{Operation}
use Rattle.mgmt_agent.specs.declared.operation.Phase.{Phase}
use Rattle.mgmt_agent.specs.declared.operation.Phase.TheVariants as phases
use Rattle.mgmt_agent.specs.declared.status.Status.{Status}
use Rattle.mgmt_agent.specs.Decisions.{decide, reads_eui}
use Rattle.mgmt_agent.specs.Machine as management
use Rattle.orb_layout.specs.declared.ask.Ask.{Ask}
use Rattle.orb_layout.specs.declared.ask.Ask.TheVariants as asks
use Rattle.orb_layout.specs.declared.ask.FailCause.{FailCause}
use Rattle.orb_layout.specs.declared.management.ManagementOrb.{ManagementOrb}
use Rattle.orb_layout.specs.ManagementOrbs.{management_orb}
use Rattle.orb_layout.specs.Replies.{Answer, NoLabel, payload_of, write_failure}
use Rattle.command_agent.specs.Counting.{is_made}
use Rattle.sbp_journal.specs.declared.side.Side.TheVariants as sides
use Rattle.sbp_journal.specs.Outgoings.{OutboxState}
use Rattle.sbp_target.specs.declared.purpose.Purpose.{Purpose}
use Rattle.sbp_target.specs.declared.purpose.Purpose.TheVariants as purposes
use Rattle.sbp_target.specs.Management.{ask_manager, decided_by, failed_by, lose_operation, lost_in, manage, managed_in, managed_with, manager_asked, manager_body, manager_lost, manager_sent, tell_failed, with_manager}
use Rattle.sbp_target.specs.Nodes.{Scene, scene}
use Rattle.sbp_target.specs.Requests.{requests}
use Rattle.sbp_target.specs.RequestsLeft.{operation_left}
use Rattle.sbp_target.specs.Sending.{request_step, sent_by}
use Rattle.sbp_target.proofs.Requests.Easing.{NoneBegins, beside, none_more, none_then, same_scene}
use Rattle.sbp_target.proofs.Requests.Effects.{decides}
use Rattle.sbp_target.proofs.Requests.Follows.{one_more}
use Rattle.sbp_target.proofs.Requests.Telling.{EndsNone, one_side, silent}

-- ---- the machine
-- what a step leaves, and asks for
abbrev pub step_left : ManagerStep × (management.Machine × Table) → ℕ
step_left s = operation_left s.1.0.operation + is_made s.0.ask

either : (most : ℕ) (b : Bool) (x y : ManagerStep × management.Machine) → operation_left x.1.operation + is_made x.0.ask ≤ most → operation_left y.1.operation + is_made y.0.ask ≤ most
    → operation_left (cond b x y).1.operation + is_made (cond b x y).0.ask ≤ most
either most true x y p q = p
either most false x y p q = q

responds : (m : management.Machine) (operation : Operation) (orb : ManagementOrb) (status : Status) → operation_left (management.respond_step m operation orb status).1.operation + is_made (management.respond_step m operation orb status).0.ask ≤ 2
responds m operation orb status = either 2 (length m.outgoing == 0) _ _ (omega arith) (omega arith)

decides_left : (m : management.Machine) (operation : Operation) (orb : ManagementOrb) (eui : ℕ) (table : Table) (keys : List (List ℕ)) → step_left (management.decide_step m operation orb eui table keys) ≤ 2
unfolding management.decide_step
decides_left m operation orb eui table keys = by (decide orb operation.source eui table keys)
  where
    by : (r : Outcome × Table) → step_left (management.decided_as r m operation orb) ≤ 2
    by (outcome, now) = responds (record m { outgoing = management.cut_response orb outcome now }) operation orb outcome.status

reads : (b : Bool) (x y : ManagerStep × (management.Machine × Table)) → step_left x ≤ 4 → step_left y ≤ 2 → step_left (cond b x y) ≤ 4
reads true x y p q = p
reads false x y p q = omega (arith, q)

orb_left : (read : Result (List ℕ) FailCause) (m : management.Machine) (operation : Operation) (table : Table) (keys : List (List ℕ)) → step_left (management.orb_got read m operation table keys) ≤ 4
orb_left (Err cause) m operation table keys = omega arith
orb_left (Ok bytes) m operation table keys =
    let orb = management_orb bytes in
    let decided = management.decide_step m operation orb 0 table keys in
    reads (reads_eui orb) _ decided (omega arith) (decides_left m operation orb 0 table keys)

high_left : (read : Result (List ℕ) FailCause) (m : management.Machine) (operation : Operation) (orb : ManagementOrb) (table : Table) → step_left (management.beside table (management.high_got read m operation orb)) ≤ 3
high_left (Err cause) m operation orb table = omega arith
high_left (Ok bytes) m operation orb table = omega arith

low_left : (read : Result (List ℕ) FailCause) (m : management.Machine) (operation : Operation) (orb : ManagementOrb) (high : ℕ) (table : Table) (keys : List (List ℕ)) → step_left (management.low_got read m operation orb high table keys) ≤ 2
low_left (Err cause) m operation orb high table keys = omega arith
low_left (Ok bytes) m operation orb high table keys = decides_left m operation orb (high * 2 ^ 32 + quad bytes 0) table keys

written_left : (failure : Option FailCause) (m : management.Machine) (operation : Operation) (fifo : ℕ) (table : Table) → step_left (management.beside table (management.response_written failure m operation fifo)) ≤ 1
written_left None m operation fifo table = omega arith
written_left (Some cause) m operation fifo table = omega arith

over_left : (failure : Option FailCause) (m : management.Machine) (table : Table) → step_left (management.beside table (management.status_written failure m)) ≤ 0
over_left None m table = omega arith
over_left (Some cause) m table = omega arith

phase_left_in : (phase : Phase) (m : management.Machine) (operation : Operation) (table : Table) (keys : List (List ℕ)) (answer : Answer)
    → step_left (management.reply_in phase m operation table keys answer) ≤ operation_left (Some (record operation { phase = phase }))
phase_left_in phases.Orb m operation table keys answer = orb_left (payload_of answer 32) m operation table keys
phase_left_in (phases.HighEui orb) m operation table keys answer = high_left (payload_of answer 4) m operation orb table
phase_left_in (phases.LowEui orb high) m operation table keys answer = low_left (payload_of answer 4) m operation orb high table keys
phase_left_in (phases.Response fifo) m operation table keys answer = written_left (write_failure answer) m operation fifo table
phase_left_in phases.Status m operation table keys answer = over_left (write_failure answer) m table

operation_falls : (operation : Option Operation) (m : management.Machine) (table : Table) (keys : List (List ℕ)) (answer : Answer) → m.operation ≡ operation → step_left (management.reply_to operation m table keys answer) ≤ operation_left operation
operation_falls None m table keys answer e = let none = ap operation_left e in omega (arith, none)
operation_falls (Some operation) m table keys answer e = phase_left_in operation.phase m operation table keys answer

replies_fall : (m : management.Machine) (table : Table) (keys : List (List ℕ)) (answer : Answer) → step_left (management.reply_step m table keys answer) ≤ operation_left m.operation
unfolding management.reply_step
replies_fall m table keys answer = operation_falls m.operation m table keys answer refl

-- ---- what it asks for
one_made : (ask : Ask) (outgoing : List ℕ) (body : Body) → manager_body ask outgoing ≡ Some body → is_made ask ≡ 1
one_made (asks.Read offset len) outgoing body e = refl
one_made (asks.Write offset len) outgoing body e = refl
one_made asks.Nothing outgoing body e = cc e

failed_sides : (source : ℕ) (cause : Option FailCause) (o : OutboxState) → EndsNone o (tell_failed source cause o)
failed_sides source None o = silent o
failed_sides source (Some cause) o = one_side o (sides.ManageFailed source cause) (λ p. refl)

pub failed_packets : (source : ℕ) (cause : Option FailCause) (o : OutboxState) → (tell_failed source cause o).packets ≡ o.packets
failed_packets source None o = refl
failed_packets source (Some cause) o = refl

module _ (tables chunks : ℕ → ℕ) where
  fails : (source : ℕ) (cause : Option FailCause) (s : Scene) → length s.node.desks ≡ 8 → NoneBegins tables chunks 0 s (failed_by source cause s)
  fails source cause s size =
      let packets = ap requests (failed_packets source cause s.outbox) in
      beside tables chunks s (failed_by source cause s) 0 size refl (omega (arith, packets)) (failed_sides source cause s.outbox)

  -- a request that finds no label ends it
  loses_with : (source : ℕ) (s : Scene) (r : ManagerStep × (management.Machine × Table)) → length s.node.desks ≡ 8 → step_left r ≤ operation_left s.node.manager.operation → NoneBegins tables chunks 0 s (manager_lost source s r)
  loses_with source s (step, (m, table)) size less =
      let packets = ap requests (failed_packets source step.failed s.outbox) in
      beside tables chunks s (manager_lost source s (step, (m, table))) 0 size refl (omega (arith, packets, less)) (failed_sides source step.failed s.outbox)

  loses_in : (source : Option ℕ) (s : Scene) → length s.node.desks ≡ 8 → NoneBegins tables chunks 0 s (lost_in source s)
  loses_in None s size = same_scene tables chunks s size
  loses_in (Some source) s size =
      loses_with source s (management.reply_step s.node.manager s.node.logins s.node.keys NoLabel) size (replies_fall s.node.manager s.node.logins s.node.keys NoLabel)

  sends : (source : ℕ) (s : Scene) (r : Option Asked × Layer Purpose) → length s.node.desks ≡ 8 → NoneBegins tables chunks 1 s (manager_sent s.node (sent_by r s.outbox source))
  unfolding lose_operation
  sends source s (Some asked, layer) size =
      let one = one_more s.outbox.packets source asked.label asked.bytes in
      beside tables chunks s (manager_sent s.node (sent_by (Some asked, layer) s.outbox source)) 1 size refl (omega (arith, one)) (silent_sides s.outbox)
    where
      silent_sides : (o : OutboxState) → EndsNone o (sent_by (Some asked, layer) o source).1.1
      silent_sides o = record { ended = λ p. refl; cut = λ p e. e }
  sends source s (None, layer) size =
      let t = scene (record s.node { layer = layer }) s.outbox in
      let turned = beside tables chunks s t 0 size refl (omega arith) (silent s.outbox) in
      let lost = loses_in (management.source_in t.node.manager.operation) t size in
      none_more tables chunks s _ 0 1 (omega arith) (none_then tables chunks s t _ 0 0 turned lost)

  asks_for : (body : Option Body) (source made : ℕ) (s : Scene) → ((b : Body) → body ≡ Some b → made ≡ 1) → length s.node.desks ≡ 8 → NoneBegins tables chunks made s (manager_asked body source s)
  unfolding request_step
  asks_for None source made s one size = none_more tables chunks s s 0 made (omega arith) (same_scene tables chunks s size)
  asks_for (Some body) source made s one size =
      let single = one body refl in
      none_more tables chunks s _ 1 made (omega (arith, single)) (sends source s (asking_step s.node.layer source body purposes.Management) size)

  pub asks_manager : (source : ℕ) (ask : Ask) (s : Scene) → length s.node.desks ≡ 8 → NoneBegins tables chunks (is_made ask) s (ask_manager source ask s)
  unfolding ask_manager
  asks_manager source ask s size = asks_for (manager_body ask s.node.manager.outgoing) source (is_made ask) s (λ b e. one_made ask s.node.manager.outgoing b e) size

  -- ---- a reply
  manages_with : (source : ℕ) (s : Scene) (r : ManagerStep × (management.Machine × Table)) → length s.node.desks ≡ 8 → step_left r ≤ operation_left s.node.manager.operation → NoneBegins tables chunks 0 s (managed_with source s r)
  manages_with source s (step, (m, table)) size less =
      let t = scene (with_manager s.node (m, table)) s.outbox in
      let u = decided_by step.decided step.effect source t in
      let v = failed_by source step.failed u in
      let decided = decides tables chunks t 0 step.decided step.effect source t (same_scene tables chunks t size) in
      let failed = none_then tables chunks t u v 0 0 decided (fails source step.failed u decided.size) in
      let asked = none_then tables chunks t v _ 0 (is_made step.ask) failed (asks_manager source step.ask v failed.size) in
      let few = asked.few in
      record { size = asked.size; few = omega (arith, few, less); old = asked.old; goes = asked.goes; told = asked.told }

  manages_in : (source : Option ℕ) (answer : Answer) (s : Scene) → length s.node.desks ≡ 8 → NoneBegins tables chunks 0 s (managed_in source answer s)
  manages_in None answer s size = same_scene tables chunks s size
  manages_in (Some source) answer s size =
      manages_with source s (management.reply_step s.node.manager s.node.logins s.node.keys answer) size (replies_fall s.node.manager s.node.logins s.node.keys answer)

  pub manages : (answer : Answer) (s : Scene) → length s.node.desks ≡ 8 → NoneBegins tables chunks 0 s (manage answer s)
  unfolding manage
  manages answer s size = manages_in (management.source_in s.node.manager.operation) answer s size
