-- The reply to a read of the present ORB, of its page table or of its data, and to a write of its answer.
use Rattle.std.proofs.Common.{◌≡◌, refl, ap, sym, subst, inr, ◌∙◌, ℕ, suc, ◌+◌, ◌-◌, ◌==◌, ◌≤◌, Bool, true, false, cond, List, [], ◌++◌, length, Option, Some, None, Result, Ok, Err, arith}
use Rattle.std.proofs.lemmas.Bool.Decides.{nat_tests}
use Rattle.orb_layout.specs.declared.ask.Ask.{Ask}
use Rattle.orb_layout.specs.declared.ask.Ask.TheVariants.{Nothing}
use Rattle.orb_layout.specs.declared.ask.FailCause.{FailCause}
use Rattle.orb_layout.specs.declared.ask.FailCause.TheVariants as causes
use Rattle.orb_layout.specs.declared.command.CommandOrb.{CommandOrb}
use Rattle.orb_layout.specs.declared.pointer.OrbPointer.{OrbPointer}
use Rattle.orb_layout.specs.declared.status.StatusKind.TheVariants as kinds
use Rattle.orb_layout.specs.CommandOrbs.{command_orb}
use Rattle.page_table.specs.declared.fault.PageFault.{PageFault}
use Rattle.page_table.specs.declared.segment.Chunk.{Chunk}
use Rattle.page_table.specs.declared.segment.Segment.{Segment}
use Rattle.page_table.specs.Elements.{elements_of, first_fault}
use Rattle.rbc_disk.specs.Units.{PlainDisk}
use Rattle.rbc_disk.specs.Runs.{data_length_of, Told}
use Rattle.command_agent.specs.declared.phase.ReadAhead.{ReadAhead}
use Rattle.command_agent.specs.declared.phase.ReadAhead.TheVariants as aheads
use Rattle.command_agent.specs.declared.step.AgentStep.{AgentStep}
use Rattle.command_agent.specs.declared.step.Move.{Move}
use Rattle.command_agent.specs.Machine.{Machine, plan_of, cut_to}
use Rattle.command_agent.specs.Steps.{sent, served, end_step, answer_step, orb_read, table_read, elements_read, data_read, data_grown, chunk_written, answer_chunk}
use Rattle.command_agent.proofs.Fits.{feeds_all}
use Rattle.agent_laws.specs.Answers.{to_write}
use Rattle.agent_laws.specs.Along.Lists.{OrbList, Leads, IsGood, IsLaid}
use Rattle.agent_laws.specs.Along.Along.{Progress, Begins, Awaits, Tabling, Filling, HasTold, ReadsAhead}
use Rattle.agent_laws.specs.Along.Requests.{ahead_ask, ahead_under}
use Rattle.agent_laws.specs.Along.Steps.{chunk_by, Keeps}
use Rattle.agent_laws.proofs.Along.Ends.{end_keeps, fail_keeps}
use Rattle.agent_laws.proofs.Along.Runs.{answer_keeps, run_keeps, data_keeps, judge_keeps}
use Rattle.agent_laws.proofs.Along.Checks.{keeps_test, check_keeps}

-- what follows from a reply to the main transaction
pub record MoveKeeps (l : OrbList) (p : Progress) (told : Told) (place : ℕ) (plain : PlainDisk) (ahead : Ask) (s : Move × Machine) : Type 0 where
  pub keeps : Keeps l p place plain Nothing ahead (served place plain told s.0 s.1)

pub move_test : (l : OrbList) (p : Progress) (told : Told) (place : ℕ) (plain : PlainDisk) (ahead : Ask) (b : Bool) (x y : Move × Machine) → (b ≡ true → MoveKeeps l p told place plain ahead x) → (b ≡ false → MoveKeeps l p told place plain ahead y) → MoveKeeps l p told place plain ahead (cond b x y)
move_test l p told place plain ahead true x y f g = f refl
move_test l p told place plain ahead false x y f g = g refl

pub moved : (l : OrbList) (p : Progress) (told : Told) (place : ℕ) (plain : PlainDisk) (ahead : Ask) (s : AgentStep × Machine) → Keeps l p place plain Nothing ahead s → MoveKeeps l p told place plain ahead (sent s)
moved l p told place plain ahead s k = record { keeps = k }

-- nothing is read ahead, whatever the next pointer is
pub idle_behind : (l : OrbList) (k : ℕ) (ahead : ReadAhead) (next : OrbPointer) → ahead ≡ aheads.Idle → ReadsAhead l k next ahead
idle_behind l k ahead next e = subst (λ (a : ReadAhead). ReadsAhead l k next a) (sym e) tt

pub idle_asks : (ahead : ReadAhead) (next other : OrbPointer) → ahead ≡ aheads.Idle → ahead_ask ahead other ≡ ahead_ask ahead next
idle_asks ahead next other e = ap (λ (a : ReadAhead). ahead_ask a other) e ∙ sym (ap (λ (a : ReadAhead). ahead_ask a next) e)

-- a null pointer leads nowhere
pub unread_leads : (l : OrbList) (p : Progress) (m : Machine) → Begins l p m.present m.orb.next m.payload → Leads l p.ended m.orb.next
unread_leads l p m b = subst (λ (o : OrbPointer). Leads l p.ended o) (sym b.unread) tt

-- the ORB
pub orb_keeps : (r : Result (List ℕ) FailCause) (l : OrbList) (p : Progress) (m : Machine) (told : Told) (place : ℕ) (plain : PlainDisk) → IsLaid l → Begins l p m.present m.orb.next m.payload → m.ahead ≡ aheads.Idle → ((bytes : List ℕ) → r ≡ Ok bytes → IsGood l p.ended (command_orb bytes))
    → MoveKeeps l p told place plain (ahead_under m) (orb_read m r)
orb_keeps (Err cause) l p m told place plain laid b idle brings =
    moved l p told place plain (ahead_under m) _ (fail_keeps l p m cause place plain (ahead_under m) b.turn (unread_leads l p m b) (record { reads = idle_behind l (suc p.ended) m.ahead m.orb.next idle; under = refl }))
orb_keeps (Ok bytes) l p m told place plain laid b idle brings = record {
  keeps = check_keeps l p (record m { orb = command_orb bytes }) told place plain (ahead_under m) laid
      (record {
        turn = b.turn;
        unrun = b.unrun;
        good = brings bytes refl;
        empty = b.empty;
        behind = record { reads = idle_behind l (suc p.ended) m.ahead (command_orb bytes).next idle; under = idle_asks m.ahead m.orb.next (command_orb bytes).next idle };
      });
}

-- without a run an ORB that is no dummy ends as aborted or illegal
abort_keeps : (l : OrbList) (p : Progress) (m : Machine) (told : Told) (place : ℕ) (plain : PlainDisk) → Awaits l p m.present m.orb → ReadsAhead l (suc p.ended) m.orb.next m.ahead → MoveKeeps l p told place plain (ahead_under m) (sent (end_step m kinds.Aborted None))
abort_keeps l p m told place plain a h =
    moved l p told place plain (ahead_under m) _ (end_keeps l p m kinds.Aborted None place plain (ahead_under m) a.turn a.unrun tt (a.good.own, a.proper) a.good.leads (record { reads = h; under = refl }))

-- its page table
elements_keeps : (fault : Option PageFault) (l : OrbList) (p : Progress) (m : Machine) (bytes : List ℕ) (told : Told) (place : ℕ) (plain : PlainDisk) → IsLaid l → Awaits l p m.present m.orb → m.payload ≡ [] → ReadsAhead l (suc p.ended) m.orb.next m.ahead → l.is_buffer p.ended m.orb (elements_of bytes)
    → MoveKeeps l p told place plain (ahead_under m) (elements_read m bytes fault)
elements_keeps (Some fault) l p m bytes told place plain laid a empty h buffer =
    moved l p told place plain (ahead_under m) _ (end_keeps l p m (kinds.Illegal 0xff) (Some causes.Grammar) place plain (ahead_under m) a.turn a.unrun tt (a.good.own, a.proper) a.good.leads (record { reads = h; under = refl }))
elements_keeps None l p m bytes told place plain laid a empty h buffer = record {
  keeps = judge_keeps l p (record m { segments = elements_of bytes }) told place plain (ahead_under m) laid (record { ready = record { awaits = a; behind = record { reads = h; under = refl } }; buffer = buffer; empty = empty });
}

pub table_read_keeps : (r : Result (List ℕ) FailCause) (l : OrbList) (p : Progress) (m : Machine) (told : Told) (place : ℕ) (plain : PlainDisk) → IsLaid l → Tabling l p m.present m.orb m.payload → ReadsAhead l (suc p.ended) m.orb.next m.ahead → ((bytes : List ℕ) → r ≡ Ok bytes → l.is_buffer p.ended m.orb (elements_of bytes))
    → MoveKeeps l p told place plain (ahead_under m) (table_read m r)
table_read_keeps (Err cause) l p m told place plain laid t h brings =
    moved l p told place plain (ahead_under m) _ (fail_keeps l p m cause place plain (ahead_under m) t.awaits.turn t.awaits.good.leads (record { reads = h; under = refl }))
table_read_keeps (Ok bytes) l p m told place plain laid t h brings =
    move_test l p told place plain (ahead_under m) m.aborted _ _
    (λ _. abort_keeps l p m told place plain t.awaits h)
    (λ _. elements_keeps (first_fault 0 (elements_of bytes)) l p m bytes told place plain laid t.awaits t.empty h (brings bytes refl))

-- its data
pub is_whole : (n wanted : ℕ) → (n == wanted) ≡ true → n ≡ wanted
is_whole n wanted e = grind (arith, nat_tests)

grown_keeps : (l : OrbList) (p : Progress) (m : Machine) (wanted : ℕ) (told : Told) (place : ℕ) (plain : PlainDisk) → Filling l p m.present m.orb m.payload m.segments wanted → ReadsAhead l (suc p.ended) m.orb.next m.ahead → MoveKeeps l p told place plain (ahead_under m) (data_grown m wanted)
grown_keeps l p m wanted told place plain f h =
    move_test l p told place plain (ahead_under m) (length m.payload == wanted) _ _
    (λ t.
    let all : length m.payload ≡ data_length_of false m.orb.cdb = is_whole (length m.payload) wanted t ∙ f.whole in
    record {
      keeps = run_keeps l p m told place plain (ahead_under m) (record { ready = record { awaits = f.awaits; behind = record { reads = h; under = refl } }; buffer = f.buffer; part = f.part; whole = inr all; fed = feeds_all m.orb.cdb (plan_of m) plain place m.payload all });
    })
    (λ _. moved l p told place plain (ahead_under m) _ (data_keeps l p m wanted place plain (ahead_under m) f (record { reads = h; under = refl })))

pub data_read_keeps : (r : Result (List ℕ) FailCause) (l : OrbList) (p : Progress) (m : Machine) (wanted : ℕ) (told : Told) (place : ℕ) (plain : PlainDisk) → Filling l p m.present m.orb m.payload m.segments wanted → ReadsAhead l (suc p.ended) m.orb.next m.ahead → ((bytes : List ℕ) → r ≡ Ok bytes → l.is_data p.ended m.orb m.segments (m.payload ++ bytes))
    → MoveKeeps l p told place plain (ahead_under m) (data_read m wanted r)
data_read_keeps (Err cause) l p m wanted told place plain f h brings =
    moved l p told place plain (ahead_under m) _ (fail_keeps l p m cause place plain (ahead_under m) f.awaits.turn f.awaits.good.leads (record { reads = h; under = refl }))
data_read_keeps (Ok bytes) l p m wanted told place plain f h brings =
    move_test l p told place plain (ahead_under m) m.aborted _ _
    (λ _. abort_keeps l p m told place plain f.awaits h)
    (λ _. grown_keeps l p (record m { payload = m.payload ++ bytes }) wanted told place plain
    (record {
      awaits = f.awaits;
      part = brings bytes refl;
      buffer = f.buffer;
      whole = f.whole;
    }) h)

-- its answer
cut_small : (left : ℕ) (o : Option Chunk) → (cut_to left o).length ≤ left
cut_small left None = omega arith
cut_small left (Some taken) = omega arith

told_more : (l : OrbList) (p : Progress) (m : Machine) → HasTold l p m.present m.orb m.segments m.answer m.written → HasTold l (record p { carried = p.carried + answer_chunk m }) m.present m.orb m.segments m.answer (m.written + answer_chunk m)
told_more l p m t =
    let far : answer_chunk m ≤ length m.answer - m.written = cut_small (length m.answer - m.written) _ in
    let had : m.written ≤ length m.answer = t.within in
    record { turn = t.turn; good = t.good; proper = t.proper; buffer = t.buffer; ran = t.ran; told = t.told; whole = t.whole; done = ap (λ (n : ℕ). n + answer_chunk m) t.done; within = omega arith }

-- all of it is written
told_whole : (l : OrbList) (p : Progress) (at : ℕ) (orb : CommandOrb) (segments : List Segment) (answer : List ℕ) (written : ℕ) → HasTold l p at orb segments answer written → written ≡ length answer → p.carried ≡ length (to_write p.outcome p.answer)
told_whole l p at orb segments answer written t e = sym t.done ∙ e ∙ ap length (t.told ∙ sym t.whole)

pub chunk_keeps : (failure : Option FailCause) (l : OrbList) (p : Progress) (m : Machine) (told : Told) (place : ℕ) (plain : PlainDisk) → HasTold l p m.present m.orb m.segments m.answer m.written → ReadsAhead l (suc p.ended) m.orb.next m.ahead → MoveKeeps l (chunk_by failure (answer_chunk m) p) told place plain (ahead_under m) (chunk_written m failure)
chunk_keeps (Some cause) l p m told place plain t h =
    moved l p told place plain (ahead_under m) _ (fail_keeps l p m cause place plain (ahead_under m) t.turn t.good.leads (record { reads = h; under = refl }))
chunk_keeps None l p m told place plain t h =
    let n : Machine = record m { written = m.written + answer_chunk m } in
    let q : Progress = record p { carried = p.carried + answer_chunk m } in
    let now : HasTold l q m.present m.orb m.segments m.answer (m.written + answer_chunk m) = told_more l p m t in
    moved l q told place plain (ahead_under m) _
    (keeps_test l q place plain Nothing (ahead_under m) (n.written == length n.answer) (end_step n kinds.Good None) (answer_step n)
    (λ e. end_keeps l q n kinds.Good None place plain (ahead_under m) t.turn t.ran (told_whole l q m.present m.orb m.segments m.answer n.written now (is_whole n.written (length n.answer) e)) (t.good.own, t.proper) t.good.leads (record { reads = h; under = refl }))
    (λ _. answer_keeps l q n place plain (ahead_under m) now (record { reads = h; under = refl })))
