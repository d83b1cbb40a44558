-- The reply to the write of the status block, and to a read of the last ORB's next pointer: the turn of the ORB behind it.
use Rattle.std.proofs.Common.{◌≡◌, refl, ap, sym, subst, ◌∙◌, ℕ, suc, ◌<◌, List, Option, Some, None, Result, Ok, Err}
use Rattle.orb_layout.specs.declared.ask.Ask.{Ask}
use Rattle.orb_layout.specs.declared.ask.Ask.TheVariants.{Nothing}
use Rattle.orb_layout.specs.declared.ask.FailCause.{FailCause}
use Rattle.orb_layout.specs.declared.pointer.OrbPointer.{OrbPointer}
use Rattle.orb_layout.specs.declared.pointer.OrbPointer.TheVariants.{Null, At}
use Rattle.orb_layout.specs.Pointers.{pointer_at}
use Rattle.rbc_disk.specs.Units.{PlainDisk}
use Rattle.rbc_disk.specs.Runs.{Told}
use Rattle.command_agent.specs.declared.phase.Phase.TheVariants as phases
use Rattle.command_agent.specs.declared.phase.ReadAhead.{ReadAhead}
use Rattle.command_agent.specs.declared.phase.ReadAhead.TheVariants as aheads
use Rattle.command_agent.specs.Machine.{Machine, aligned}
use Rattle.command_agent.specs.Steps.{quiet, src_of, turned, turn_step, reread_step, wait_step, follow_step, status_written, next_read}
use Rattle.agent_laws.specs.Along.Lists.{OrbList, Leads, IsLaid}
use Rattle.agent_laws.specs.Along.Along.{Progress, IsNext, IsOver, Writing, AtEnd, ReadsAhead}
use Rattle.agent_laws.specs.Along.Requests.{ahead_ask, ahead_under}
use Rattle.agent_laws.specs.Along.Steps.{status_by, Keeps}
use Rattle.agent_laws.proofs.Along.Records.{Behind}
use Rattle.agent_laws.proofs.Along.Ends.{dead_keeps}
use Rattle.agent_laws.proofs.Along.Checks.{keeps_test, check_keeps}
use Rattle.agent_laws.proofs.Along.Reading.{MoveKeeps, moved, idle_behind, idle_asks}

-- the turn of the next ORB
turn_keeps : (ahead : ReadAhead) (next : ℕ) (l : OrbList) (p : Progress) (m : Machine) (told : Told) (place : ℕ) (plain : PlainDisk) (under : Ask) → IsLaid l → IsNext l p.ended p.answered (aligned next) → p.outcome ≡ None → ReadsAhead l p.ended (At next) ahead → ahead_ask ahead (At next) ≡ under
    → MoveKeeps l p told place plain under (turn_step m next ahead)
turn_keeps aheads.Idle next l p m told place plain under laid t u h e = record {
  keeps = record { along = record { main = record { turn = t; unrun = u; unread = refl; empty = refl }; ahead = refl }; runs = tt; ends = tt; main_is = refl; ahead_is = e };
}
turn_keeps (aheads.UnderWay rung) next l p m told place plain under laid t u h e = record {
  keeps = record { along = record { main = record { turn = t; unrun = u; unread = refl; empty = refl }; ahead = refl }; runs = tt; ends = tt; main_is = e; ahead_is = refl };
}
turn_keeps (aheads.Kept orb) next l p m told place plain under laid t u h e = record {
  keeps = check_keeps l p (record (turned m next) { orb = orb }) told place plain under laid (record { turn = t; unrun = u; good = h.1; empty = refl; behind = record { reads = tt; under = e } });
}

-- a null pointer names no ORB to be read ahead
null_idle : (ahead : ReadAhead) (l : OrbList) (k : ℕ) (next : OrbPointer) → next ≡ Null → ReadsAhead l k next ahead → ahead ≡ aheads.Idle
null_idle aheads.Idle l k next e h = refl
null_idle (aheads.UnderWay rung) l k next e h = let named : next ≡ At h.offset = h.named in cc
null_idle (aheads.Kept orb) l k next e h = let named : next ≡ At h.0.offset = h.0.named in cc

-- its last ORB waits for the one behind it
record Last (l : OrbList) (p : Progress) (m : Machine) (under : Ask) : Type 0 where
  pub over : IsOver l p m.present m.orb.next
  pub all : p.answered ≡ p.ended
  pub src : m.orb.next ≡ Null → p.src ≡ 1
  pub behind : Behind l p.ended m under

wait_keeps : (l : OrbList) (p : Progress) (m : Machine) (place : ℕ) (plain : PlainDisk) (under : Ask) → m.orb.next ≡ Null → Last l p m under → Keeps l p place plain Nothing under (wait_step m)
wait_keeps l p m place plain under e w =
    let idle : m.ahead ≡ aheads.Idle = null_idle m.ahead l p.ended m.orb.next e w.behind.reads in
    keeps_test l p place plain Nothing under m.doorbell (reread_step m) (quiet, record m { phase = phases.Suspended })
    (λ _. record { along = record { main = record { over = w.over; all = w.all; null = e; src = w.src e }; ahead = idle }; runs = tt; ends = tt; main_is = refl; ahead_is = w.behind.under })
    (λ _. record { along = record { main = record { over = w.over; all = w.all; null = e; src = w.src e }; ahead = idle }; runs = tt; ends = tt; main_is = refl; ahead_is = w.behind.under })

next_is : (l : OrbList) (p : Progress) (at next : ℕ) (pointer : OrbPointer) → pointer ≡ At next → p.answered ≡ p.ended → IsOver l p at pointer → IsNext l p.ended p.answered (aligned next)
next_is l p at next pointer e all o =
    let n : Leads l o.last (At next) = subst (λ (q : OrbPointer). Leads l o.last q) e o.leads in
    record {
      place = n.0 ∙ ap l.address (sym o.ended);
      linked = subst (λ (k : ℕ). k < l.linked) (sym o.ended) n.1;
      all = all;
    }

follow_keeps : (next : OrbPointer) (l : OrbList) (p : Progress) (m : Machine) (told : Told) (place : ℕ) (plain : PlainDisk) (under : Ask) → IsLaid l → m.orb.next ≡ next → Last l p m under → MoveKeeps l p told place plain under (follow_step m next)
follow_keeps (At next) l p m told place plain under laid e w =
    turn_keeps m.ahead next l p m told place plain under laid (next_is l p m.present next m.orb.next e w.all w.over) w.over.unrun
    (subst (λ (q : OrbPointer). ReadsAhead l p.ended q m.ahead) e w.behind.reads)
    (ap (λ (q : OrbPointer). ahead_ask m.ahead q) (sym e) ∙ w.behind.under)
follow_keeps Null l p m told place plain under laid e w = moved l p told place plain under _ (wait_keeps l p m place plain under e w)

-- the status block is written
pub status_keeps : (failure : Option FailCause) (l : OrbList) (p : Progress) (m : Machine) (told : Told) (place : ℕ) (plain : PlainDisk) → IsLaid l → Writing l p m.present m.orb.next m.outgoing → ReadsAhead l p.ended m.orb.next m.ahead → MoveKeeps l (status_by failure p) told place plain (ahead_under m) (status_written m failure)
status_keeps (Some cause) l p m told place plain laid w h = moved l p told place plain (ahead_under m) _ (dead_keeps l p m cause place plain (ahead_under m))
status_keeps None l p m told place plain laid w h =
    follow_keeps m.orb.next l (record p { answered = suc p.answered }) m told place plain (ahead_under m) laid refl
    (record {
      over = record { last = w.over.last; ended = w.over.ended; place = w.over.place; linked = w.over.linked; leads = w.over.leads; unrun = w.over.unrun };
      all = sym w.others;
      src = λ e. w.src ∙ ap src_of e;
      behind = record { reads = h; under = refl };
    })

-- the next pointer was read again
pub next_keeps : (r : Result (List ℕ) FailCause) (l : OrbList) (p : Progress) (m : Machine) (told : Told) (place : ℕ) (plain : PlainDisk) → IsLaid l → AtEnd l p m.present m.orb.next → m.ahead ≡ aheads.Idle → ((bytes : List ℕ) (last : ℕ) → p.ended ≡ suc last → r ≡ Ok bytes → Leads l last (pointer_at bytes 0))
    → MoveKeeps l p told place plain (ahead_under m) (next_read m r)
next_keeps (Err cause) l p m told place plain laid a idle brings = moved l p told place plain (ahead_under m) _ (dead_keeps l p m cause place plain (ahead_under m))
next_keeps (Ok bytes) l p m told place plain laid a idle brings =
    follow_keeps (pointer_at bytes 0) l p (record m { orb = record m.orb { next = pointer_at bytes 0 } }) told place plain (ahead_under m) laid refl
    (record {
      over = record { last = a.over.last; ended = a.over.ended; place = a.over.place; linked = a.over.linked; leads = brings bytes a.over.last a.over.ended refl; unrun = a.over.unrun };
      all = a.all;
      src = λ _. a.src;
      behind = record { reads = idle_behind l p.ended m.ahead (pointer_at bytes 0) idle; under = idle_asks m.ahead m.orb.next (pointer_at bytes 0) idle };
    })
