-- It is checked, and behind it the next ORB is read ahead.
use Rattle.std.proofs.Common.{◌≡◌, refl, ap, sym, subst, ◌∙◌, nat_lt, ℕ, suc, ◌+◌, ◌==◌, ◌^◌, Bool, true, false, cond, not, ◌&&◌, Option, Some, None}
use Rattle.orb_layout.specs.declared.ask.Ask.{Ask}
use Rattle.orb_layout.specs.declared.ask.Ask.TheVariants.{Nothing}
use Rattle.orb_layout.specs.declared.ask.FailCause.{FailCause}
use Rattle.orb_layout.specs.declared.command.CommandOrb.{CommandOrb}
use Rattle.orb_layout.specs.declared.pointer.OrbPointer.{OrbPointer}
use Rattle.orb_layout.specs.declared.pointer.OrbPointer.TheVariants.{Null, At}
use Rattle.orb_layout.specs.declared.status.StatusKind.{StatusKind}
use Rattle.orb_layout.specs.declared.status.StatusKind.TheVariants as kinds
use Rattle.rbc_disk.specs.declared.command.Need.{Need}
use Rattle.rbc_disk.specs.declared.command.Need.TheVariants as needs
use Rattle.rbc_disk.specs.declared.command.Outcome.{Outcome}
use Rattle.rbc_disk.specs.declared.command.Outcome.TheVariants as outcomes
use Rattle.rbc_disk.specs.Units.{PlainDisk}
use Rattle.rbc_disk.specs.Runs.{need_of, Told}
use Rattle.command_agent.specs.declared.phase.Phase.{Phase}
use Rattle.command_agent.specs.declared.phase.Phase.TheVariants as phases
use Rattle.command_agent.specs.declared.phase.ReadAhead.TheVariants as aheads
use Rattle.command_agent.specs.declared.step.AgentStep.{AgentStep}
use Rattle.command_agent.specs.Machine.{Machine, plan_of}
use Rattle.command_agent.specs.Checks.{verdict, refusal, death_by, reads_table}
use Rattle.command_agent.specs.Steps.{end_step, answer_step, with_outcome, ran_as, judged, checked, check_step, ahead_of, with_ahead, unread_buffer}
use Rattle.agent_laws.specs.Wire.{EndsBy}
use Rattle.agent_laws.specs.Along.Lists.{OrbList, Leads, IsLaid}
use Rattle.agent_laws.specs.Along.Along.{Progress, Awaits, IsNamed, KnowsAhead}
use Rattle.agent_laws.specs.Along.Requests.{ahead_ask}
use Rattle.agent_laws.specs.Along.Steps.{progress_by, IsWhole, WasRead, Keeps}
use Rattle.agent_laws.proofs.Along.Records.{Fresh, still, still_asks}
use Rattle.agent_laws.proofs.Along.Ends.{end_keeps}
use Rattle.agent_laws.proofs.Along.Runs.{judge_keeps, table_keeps}

pub keeps_test : (l : OrbList) (p : Progress) (place : ℕ) (plain : PlainDisk) (main ahead : Ask) (b : Bool) (x y : AgentStep × Machine) → (b ≡ true → Keeps l p place plain main ahead x) → (b ≡ false → Keeps l p place plain main ahead y) → Keeps l p place plain main ahead (cond b x y)
keeps_test l p place plain main ahead true x y f g = f refl
keeps_test l p place plain main ahead false x y f g = g refl

-- how it ends by its checks: as a dummy exactly where it is one, and without a run
abbrev EndsSo : OrbList → ℕ → CommandOrb → Option StatusKind → Type 0
EndsSo l k orb (Some kind) = EndsBy kind None × WasRead kind l k orb
EndsSo l k orb None = (orb.format == 3) ≡ false

pick : (l : OrbList) (k : ℕ) (orb : CommandOrb) (b : Bool) (x y : Option StatusKind) → (b ≡ true → EndsSo l k orb x) → (b ≡ false → EndsSo l k orb y) → EndsSo l k orb (cond b x y)
pick l k orb true x y f g = f refl
pick l k orb false x y f g = g refl

refusal_ends : (l : OrbList) (k : ℕ) (orb : CommandOrb) → l.is_orb k orb → (orb.format == 3) ≡ false → EndsSo l k orb (refusal orb)
unfolding refusal
refusal_ends l k orb own proper =
    pick l k orb (nat_lt 2 orb.speed) (Some (kinds.Illegal 0x02)) _ (λ _. (refl, (own, proper)))
    (λ _. pick l k orb (nat_lt (7 + orb.speed) orb.max_payload) (Some (kinds.Illegal 0xff)) _ (λ _. (refl, (own, proper)))
    (λ _. pick l k orb (orb.has_table && not (orb.page_size == 0)) (Some (kinds.Illegal 0x03)) _ (λ _. (refl, (own, proper)))
    (λ _. pick l k orb (orb.has_table && nat_lt 64 orb.data_size) (Some (kinds.Illegal 0xff)) _ (λ _. (refl, (own, proper)))
    (λ _. pick l k orb (not orb.has_table && nat_lt (2 ^ 48) (orb.descriptor + orb.data_size)) (Some (kinds.Illegal 0xff)) None (λ _. (refl, (own, proper))) (λ _. proper)))))

verdict_ends : (l : OrbList) (k : ℕ) (orb : CommandOrb) (aborted : Bool) → l.is_orb k orb → EndsSo l k orb (verdict orb aborted)
unfolding verdict
verdict_ends l k orb aborted own =
    pick l k orb (orb.format == 3) (Some kinds.Dummy) _ (λ dummy. (refl, (own, dummy)))
    (λ proper. pick l k orb (not (orb.format == 0)) (Some (kinds.Illegal 0x01)) _ (λ _. (refl, (own, proper)))
    (λ _. pick l k orb aborted (Some kinds.Aborted) _ (λ _. (refl, (own, proper))) (λ _. refusal_ends l k orb own proper)))

whole_unrun : (kind : StatusKind) (p : Progress) → EndsBy kind None → IsWhole kind p
whole_unrun kinds.Good p e = cc e
whole_unrun _ p e = tt

checked_keeps : (verdict : Option StatusKind) (l : OrbList) (p : Progress) (m : Machine) (told : Told) (place : ℕ) (plain : PlainDisk) (ahead : Ask) → IsLaid l → EndsSo l p.ended m.orb verdict → Fresh l p m ahead → Keeps l p place plain Nothing ahead (checked m place plain told verdict)
checked_keeps (Some kind) l p m told place plain ahead laid e f =
    end_keeps l p m kind (death_by kind) place plain ahead f.turn (subst (λ (o : Option Outcome). EndsBy kind o) (sym f.unrun) e.0) (whole_unrun kind p e.0) e.1 f.good.leads f.behind
checked_keeps None l p m told place plain ahead laid e f =
    let a : Awaits l p m.present m.orb = record { turn = f.turn; unrun = f.unrun; good = f.good; proper = e } in
    keeps_test l p place plain Nothing ahead (reads_table m.orb) _ _
    (λ reads. table_keeps l p m place plain ahead reads f.empty (record { awaits = a; behind = f.behind }))
    (λ unread. judge_keeps l p (record m { segments = unread_buffer m.orb }) told place plain ahead laid
    (record { ready = record { awaits = a; behind = record { reads = f.behind.reads; under = f.behind.under } }; buffer = laid.buffer p.ended m.orb f.good.own unread; empty = f.empty }))

-- ---- the read ahead
-- behind the checks the present ORB is read no more, and the number of the ORB behind it is this
abbrev IsBehind : Phase → ℕ → ℕ → Type 0
IsBehind phases.ReadingTable ended k = suc ended ≡ k
IsBehind (phases.ReadingData wanted) ended k = suc ended ≡ k
IsBehind phases.Answering ended k = suc ended ≡ k
IsBehind phases.WritingStatus ended k = ended ≡ k
IsBehind _ ended k = ⊥

-- unless the agent became dead
abbrev IsBehindBy : Option FailCause → Phase → ℕ → ℕ → Type 0
IsBehindBy (Some cause) phase ended k = Unit {0}
IsBehindBy None phase ended k = IsBehind phase ended k

record Checked (p : Progress) (next : OrbPointer) (s : AgentStep × Machine) : Type 0 where
  pub behind : IsBehindBy s.0.dead s.1.phase (progress_by s p).ended (suc p.ended)
  pub same : s.1.orb.next ≡ next

checked_if : (b : Bool) (p : Progress) (next : OrbPointer) (x y : AgentStep × Machine) → Checked p next x → Checked p next y → Checked p next (cond b x y)
checked_if true p next x y f g = f
checked_if false p next x y f g = g

checked_end : (dead : Option FailCause) (p : Progress) (kind : StatusKind) (m : Machine) → Checked p m.orb.next (end_step m kind dead)
checked_end None p kind m = record { behind = refl; same = refl }
checked_end (Some cause) p kind m = record { behind = tt; same = refl }

checked_good : (b : Bool) (len : ℕ) (p : Progress) (m : Machine) → Checked p m.orb.next (with_outcome (outcomes.Good len) (cond b (end_step m kinds.Good None) (answer_step m)))
checked_good true len p m = record { behind = refl; same = refl }
checked_good false len p m = record { behind = refl; same = refl }

checked_ran : (outcome : Outcome) (p : Progress) (m : Machine) → Checked p m.orb.next (with_outcome outcome (ran_as m outcome))
checked_ran (outcomes.Good len) p m = checked_good (len == 0) len p m
checked_ran (outcomes.Check sense) p m = record { behind = refl; same = refl }

checked_judged : (need : Need) (p : Progress) (m : Machine) (told : Told) → Checked p m.orb.next (judged m told need)
checked_judged needs.RunNow p m told = checked_ran told.outcome p (record m { answer = told.answer; written = 0 })
checked_judged (needs.Payload len) p m told = record { behind = refl; same = refl }

checked_by : (verdict : Option StatusKind) (p : Progress) (m : Machine) (told : Told) (place : ℕ) (plain : PlainDisk) → Checked p m.orb.next (checked m place plain told verdict)
checked_by (Some kind) p m told place plain = checked_end (death_by kind) p kind m
checked_by None p m told place plain =
    checked_if (reads_table m.orb) p m.orb.next _ _ (record { behind = refl; same = refl })
    (checked_judged (need_of m.orb.cdb (plan_of (record m { segments = unread_buffer m.orb })) plain place) p (record m { segments = unread_buffer m.orb }) told)

knows_ahead : (phase : Phase) (l : OrbList) (p : Progress) (k : ℕ) (next : OrbPointer) (rung : Bool) → IsBehind phase p.ended k → IsNamed l k next → KnowsAhead l p phase next (aheads.UnderWay rung)
knows_ahead phases.ReadingTable l p k next rung e n = subst (λ (j : ℕ). IsNamed l j next) (sym e) n
knows_ahead (phases.ReadingData wanted) l p k next rung e n = subst (λ (j : ℕ). IsNamed l j next) (sym e) n
knows_ahead phases.Answering l p k next rung e n = subst (λ (j : ℕ). IsNamed l j next) (sym e) n
knows_ahead phases.WritingStatus l p k next rung e n = subst (λ (j : ℕ). IsNamed l j next) (sym e) n
knows_ahead _ l p k next rung e n = elim e [ ]

ahead_keeps : (dead : Option FailCause) (next : OrbPointer) (l : OrbList) (p : Progress) (place : ℕ) (plain : PlainDisk) (ahead : Ask) (s : AgentStep × Machine) → Leads l p.ended next → IsBehindBy dead s.1.phase (progress_by s p).ended (suc p.ended) → s.1.orb.next ≡ next → Keeps l p place plain Nothing ahead s → Keeps l p place plain Nothing ahead (ahead_of dead next s)
ahead_keeps None (At next) l p place plain ahead s n b c k = record {
  along = record {
    main = still s.1.phase l (progress_by s p) s.1 (aheads.UnderWay s.1.doorbell) false s.1.aborted k.along.main;
    ahead = knows_ahead s.1.phase l (progress_by s p) (suc p.ended) s.1.orb.next s.1.doorbell b (record { offset = next; named = c; place = n.0; linked = n.1 });
  };
  runs = k.runs;
  ends = k.ends;
  main_is = still_asks s.1.phase s.1 (aheads.UnderWay s.1.doorbell) false s.1.aborted ∙ k.main_is;
  ahead_is = ap (λ (o : OrbPointer). ahead_ask (aheads.UnderWay s.1.doorbell) o) c;
}
ahead_keeps None Null l p place plain ahead s n b c k = k
ahead_keeps (Some cause) next l p place plain ahead s n b c k = k

pub check_keeps : (l : OrbList) (p : Progress) (m : Machine) (told : Told) (place : ℕ) (plain : PlainDisk) (ahead : Ask) → IsLaid l → Fresh l p m ahead → Keeps l p place plain Nothing ahead (with_ahead (check_step m place plain told))
check_keeps l p m told place plain ahead laid f =
    let s : AgentStep × Machine = check_step m place plain told in
    let c : Checked p m.orb.next s = checked_by (verdict m.orb m.aborted) p m told place plain in
    let k : Keeps l p place plain Nothing ahead s = checked_keeps (verdict m.orb m.aborted) l p m told place plain ahead laid (verdict_ends l p.ended m.orb m.aborted f.good.own) f in
    ahead_keeps s.0.dead s.1.orb.next l p place plain ahead s
    (subst (λ (o : OrbPointer). Leads l p.ended o) (sym c.same) f.good.leads)
    c.behind refl k
