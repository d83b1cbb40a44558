-- Its command runs, and is judged.
use Rattle.std.proofs.Common.{◌≡◌, refl, ap, sym, subst, inl, ℕ, suc, ◌*◌, ◌==◌, Bool, true, false, cond, List, [], length, Some, None, arith}
use Rattle.orb_layout.specs.declared.ask.Ask.{Ask}
use Rattle.orb_layout.specs.declared.ask.Ask.TheVariants.{Read, Nothing}
use Rattle.orb_layout.specs.declared.status.StatusKind.TheVariants as kinds
use Rattle.rbc_disk.specs.declared.command.Need.{Need}
use Rattle.rbc_disk.specs.declared.command.Need.TheVariants as needs
use Rattle.rbc_disk.specs.declared.command.Outcome.{Outcome}
use Rattle.rbc_disk.specs.declared.command.Outcome.TheVariants as outcomes
use Rattle.rbc_disk.specs.Units.{PlainDisk}
use Rattle.rbc_disk.specs.Runs.{need_of, Told}
use Rattle.command_agent.specs.declared.phase.Phase.TheVariants as phases
use Rattle.command_agent.specs.Machine.{Machine, plan_of}
use Rattle.command_agent.specs.Checks.{reads_table}
use Rattle.command_agent.specs.Steps.{asks, end_step, answer_step, with_outcome, ran_as, run_step, judged, judge_step, data_step}
use Rattle.command_agent.proofs.Fits.{data_needed, feeds_none}
use Rattle.agent_laws.specs.Along.Lists.{OrbList, IsLaid}
use Rattle.agent_laws.specs.Along.Along.{Progress, Filling, HasTold}
use Rattle.agent_laws.specs.Along.Steps.{IsRun, Keeps}
use Rattle.agent_laws.proofs.Along.Records.{Behind, Ready, Judgeable, Runnable}
use Rattle.agent_laws.proofs.Along.Ends.{end_keeps}

-- a chunk of its answer is written
pub answer_keeps : (l : OrbList) (p : Progress) (m : Machine) (place : ℕ) (plain : PlainDisk) (ahead : Ask) → HasTold l p m.present m.orb m.segments m.answer m.written → Behind l (suc p.ended) m ahead → Keeps l p place plain Nothing ahead (answer_step m)
answer_keeps l p m place plain ahead t h = record { along = record { main = record { told = t; bytes = refl }; ahead = h.reads }; runs = tt; ends = tt; main_is = refl; ahead_is = h.under }

-- its command runs
abbrev ran : Progress → Machine → Outcome → Progress
ran p m outcome = record p { outcome = Some outcome; answer = m.answer; carried = 0 }

is_run : (l : OrbList) (p : Progress) (m : Machine) (place : ℕ) (plain : PlainDisk) (ahead : Ask) → Runnable l p m place plain ahead → IsRun l p place plain m.present m.orb m.segments m.payload
is_run l p m place plain ahead r =
    let a = r.ready.awaits in
    record { turn = a.turn; once = a.unrun; good = a.good; proper = a.proper; buffer = r.buffer; part = r.part; whole = r.whole; fed = r.fed }

good_keeps : (b : Bool) (len : ℕ) (l : OrbList) (p : Progress) (m : Machine) (place : ℕ) (plain : PlainDisk) (ahead : Ask) → (len == 0) ≡ b → m.written ≡ 0 → Runnable l p m place plain ahead → Keeps l p place plain Nothing ahead (with_outcome (outcomes.Good len) (cond b (end_step m kinds.Good None) (answer_step m)))
good_keeps true len l p m place plain ahead e z r =
    let a = r.ready.awaits in
    let q : Progress = ran p m (outcomes.Good len) in
    let k : Keeps l q place plain Nothing ahead (end_step m kinds.Good None) =
    end_keeps l q m kinds.Good None place plain ahead a.turn refl (sym (ap (λ (b : Bool). length (cond b [] m.answer)) e)) (a.good.own, a.proper) a.good.leads r.ready.behind in
    record { along = k.along; runs = is_run l p m place plain ahead r; ends = k.ends; main_is = k.main_is; ahead_is = k.ahead_is }
good_keeps false len l p m place plain ahead e z r =
    let a = r.ready.awaits in
    let q : Progress = ran p m (outcomes.Good len) in
    let k : Keeps l q place plain Nothing ahead (answer_step m) =
    answer_keeps l q m place plain ahead
    (record { turn = a.turn; good = a.good; proper = a.proper; buffer = r.buffer; ran = refl; told = refl; whole = ap (λ (b : Bool). cond b [] m.answer) e; done = z; within = omega arith })
    r.ready.behind in
    record { along = k.along; runs = is_run l p m place plain ahead r; ends = k.ends; main_is = k.main_is; ahead_is = k.ahead_is }

ran_keeps : (outcome : Outcome) (l : OrbList) (p : Progress) (m : Machine) (place : ℕ) (plain : PlainDisk) (ahead : Ask) → m.written ≡ 0 → Runnable l p m place plain ahead → Keeps l p place plain Nothing ahead (with_outcome outcome (ran_as m outcome))
ran_keeps (outcomes.Good len) l p m place plain ahead z r = good_keeps (len == 0) len l p m place plain ahead refl z r
ran_keeps (outcomes.Check sense) l p m place plain ahead z r =
    let a = r.ready.awaits in
    let q : Progress = ran p m (outcomes.Check sense) in
    let k : Keeps l q place plain Nothing ahead (end_step m (kinds.Check sense) None) =
    end_keeps l q m (kinds.Check sense) None place plain ahead a.turn refl tt (a.good.own, a.proper) a.good.leads r.ready.behind in
    record { along = k.along; runs = is_run l p m place plain ahead r; ends = k.ends; main_is = k.main_is; ahead_is = k.ahead_is }

pub run_keeps : (l : OrbList) (p : Progress) (m : Machine) (told : Told) (place : ℕ) (plain : PlainDisk) (ahead : Ask) → Runnable l p m place plain ahead → Keeps l p place plain Nothing ahead (run_step m told)
run_keeps l p m told place plain ahead r =
    ran_keeps told.outcome l p (record m { answer = told.answer; written = 0 }) place plain ahead refl
    (record { ready = record { awaits = r.ready.awaits; behind = record { reads = r.ready.behind.reads; under = r.ready.behind.under } }; buffer = r.buffer; part = r.part; whole = r.whole; fed = r.fed })

-- its data are read
pub data_keeps : (l : OrbList) (p : Progress) (m : Machine) (wanted : ℕ) (place : ℕ) (plain : PlainDisk) (ahead : Ask) → Filling l p m.present m.orb m.payload m.segments wanted → Behind l (suc p.ended) m ahead → Keeps l p place plain Nothing ahead (data_step m wanted)
data_keeps l p m wanted place plain ahead f h = record { along = record { main = f; ahead = h.reads }; runs = tt; ends = tt; main_is = refl; ahead_is = h.under }

-- it is judged
none_of : (l : OrbList) (p : Progress) (m : Machine) (ahead : Ask) → IsLaid l → Judgeable l p m ahead → l.is_data p.ended m.orb m.segments m.payload
none_of l p m ahead laid j = subst (λ (bytes : List ℕ). l.is_data p.ended m.orb m.segments bytes) (sym j.empty) (laid.empty p.ended m.orb m.segments j.ready.awaits.good.own j.buffer)

judged_keeps : (need : Need) (l : OrbList) (p : Progress) (m : Machine) (told : Told) (place : ℕ) (plain : PlainDisk) (ahead : Ask) → IsLaid l → need ≡ need_of m.orb.cdb (plan_of m) plain place → Judgeable l p m ahead → Keeps l p place plain Nothing ahead (judged m told need)
judged_keeps needs.RunNow l p m told place plain ahead laid e j =
    run_keeps l p m told place plain ahead (record { ready = j.ready; buffer = j.buffer; part = none_of l p m ahead laid j; whole = inl j.empty; fed = feeds_none (need_of m.orb.cdb (plan_of m) plain place) m.payload (sym e) })
judged_keeps (needs.Payload len) l p m told place plain ahead laid e j =
    data_keeps l p m len place plain ahead (record { awaits = j.ready.awaits; part = none_of l p m ahead laid j; buffer = j.buffer; whole = data_needed m.orb.cdb (plan_of m) plain place len (sym e) }) j.ready.behind

pub judge_keeps : (l : OrbList) (p : Progress) (m : Machine) (told : Told) (place : ℕ) (plain : PlainDisk) (ahead : Ask) → IsLaid l → Judgeable l p m ahead → Keeps l p place plain Nothing ahead (judge_step m place plain told)
judge_keeps l p m told place plain ahead laid j = judged_keeps (need_of m.orb.cdb (plan_of m) plain place) l p m told place plain ahead laid refl j

-- its page table is read
pub table_keeps : (l : OrbList) (p : Progress) (m : Machine) (place : ℕ) (plain : PlainDisk) (ahead : Ask) → reads_table m.orb ≡ true → m.payload ≡ [] → Ready l p m ahead → Keeps l p place plain Nothing ahead (asks (Read m.orb.descriptor (8 * m.orb.data_size)), record m { phase = phases.ReadingTable })
table_keeps l p m place plain ahead reads empty r = record { along = record { main = record { awaits = r.awaits; reads = reads; empty = empty }; ahead = r.behind.reads }; runs = tt; ends = tt; main_is = refl; ahead_is = r.behind.under }
