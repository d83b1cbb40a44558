-- The replies and losses, by phase.
use Rattle.std.proofs.Common.{◌≡◌, refl, ℕ, suc, ◌*◌, Bool, cond, List, length, Result, Ok, Err}
use Rattle.orb_layout.specs.declared.ask.Ask.TheVariants.{Nothing}
use Rattle.orb_layout.specs.declared.ask.FailCause.{FailCause}
use Rattle.orb_layout.specs.declared.pointer.OrbPointer.{OrbPointer}
use Rattle.orb_layout.specs.CommandOrbs.{command_orb}
use Rattle.orb_layout.specs.Replies.{Answer, payload_of, write_failure}
use Rattle.rbc_disk.specs.Units.{PlainDisk}
use Rattle.rbc_disk.specs.Runs.{Told}
use Rattle.command_agent.specs.declared.phase.Phase.{Phase}
use Rattle.command_agent.specs.declared.phase.Phase.TheVariants as phases
use Rattle.command_agent.specs.declared.phase.ReadAhead.{ReadAhead}
use Rattle.command_agent.specs.declared.phase.ReadAhead.TheVariants as aheads
use Rattle.command_agent.specs.declared.step.Which.TheVariants.{Main, Ahead}
use Rattle.command_agent.specs.Machine.{Machine, is_ahead, chunk_of}
use Rattle.command_agent.specs.Steps.{quiet, told_or, advanced, ahead_read, ahead_step, ahead_lost, main_lost, reply_step, lost_step}
use Rattle.agent_laws.specs.Along.Lists.{OrbList, IsLaid}
use Rattle.agent_laws.specs.Along.Along.{Progress, Knows, KnowsAhead, Along}
use Rattle.agent_laws.specs.Along.Requests.{ahead_ask, main_under, ahead_under}
use Rattle.agent_laws.specs.Along.Steps.{main_heard, Keeps, MainBrings, AheadBrings, Replies, Loses}
use Rattle.agent_laws.proofs.Along.Records.{still, still_asks}
use Rattle.agent_laws.proofs.Along.Ends.{fail_keeps, dead_keeps}
use Rattle.agent_laws.proofs.Along.Reading.{MoveKeeps, idle_behind, unread_leads, orb_keeps, table_read_keeps, data_read_keeps, chunk_keeps}
use Rattle.agent_laws.proofs.Along.Turns.{status_keeps, next_keeps}

-- ---- the main transaction
main_keeps : (phase : Phase) (l : OrbList) (p : Progress) (m : Machine) (told : Told) (place : ℕ) (plain : PlainDisk) (answer : Answer) → IsLaid l → Knows l p phase m → KnowsAhead l p phase m.orb.next m.ahead → MainBrings l p.ended phase m answer
    → MoveKeeps l (main_heard phase m answer p) told place plain (ahead_under m) (advanced phase (record m { phase = phase }) answer)
main_keeps phases.Fetching l p m told place plain answer laid k h b = orb_keeps (payload_of answer 32) l p (record m { phase = phases.Fetching }) told place plain laid k h b
main_keeps phases.ReadingTable l p m told place plain answer laid k h b = table_read_keeps (payload_of answer (8 * m.orb.data_size)) l p (record m { phase = phases.ReadingTable }) told place plain laid k h b
main_keeps (phases.ReadingData wanted) l p m told place plain answer laid k h b =
    data_read_keeps (payload_of answer (chunk_of m (length m.payload) wanted).length) l p (record m { phase = phases.ReadingData wanted }) wanted told place plain k h b
main_keeps phases.Answering l p m told place plain answer laid k h b = chunk_keeps (write_failure answer) l p (record m { phase = phases.Answering }) told place plain k.told h
main_keeps phases.WritingStatus l p m told place plain answer laid k h b = status_keeps (write_failure answer) l p (record m { phase = phases.WritingStatus }) told place plain laid k h
main_keeps phases.ReadingNext l p m told place plain answer laid k h b = next_keeps (payload_of answer 8) l p (record m { phase = phases.ReadingNext }) told place plain laid k h b
main_keeps phases.WritingLastStatus l p m told place plain answer laid k h b = record { keeps = record { along = record { main = tt; ahead = h }; runs = tt; ends = tt; main_is = refl; ahead_is = refl } }
main_keeps phases.Reset l p m told place plain answer laid k h b = record { keeps = record { along = record { main = tt; ahead = h }; runs = tt; ends = tt; main_is = refl; ahead_is = refl } }
main_keeps phases.Suspended l p m told place plain answer laid k h b = record { keeps = record { along = record { main = k; ahead = h }; runs = tt; ends = tt; main_is = refl; ahead_is = refl } }
main_keeps phases.Dead l p m told place plain answer laid k h b = record { keeps = record { along = record { main = tt; ahead = h }; runs = tt; ends = tt; main_is = refl; ahead_is = refl } }

-- ---- the read ahead
-- it is over
no_ahead : (phase : Phase) (l : OrbList) (p : Progress) (next : OrbPointer) → KnowsAhead l p phase next aheads.Idle
no_ahead phases.ReadingTable l p next = tt
no_ahead (phases.ReadingData wanted) l p next = tt
no_ahead phases.Answering l p next = tt
no_ahead phases.WritingStatus l p next = tt
no_ahead _ l p next = refl

-- its bytes are kept
kept_ahead : (phase : Phase) (l : OrbList) (p : Progress) (next : OrbPointer) (rung : Bool) (bytes : List ℕ) (answer : Answer) → KnowsAhead l p phase next (aheads.UnderWay rung) → payload_of answer 32 ≡ Ok bytes → AheadBrings l p.ended phase answer → KnowsAhead l p phase next (aheads.Kept (command_orb bytes))
kept_ahead phases.ReadingTable l p next rung bytes answer n e b = (n, b bytes e)
kept_ahead (phases.ReadingData wanted) l p next rung bytes answer n e b = (n, b bytes e)
kept_ahead phases.Answering l p next rung bytes answer n e b = (n, b bytes e)
kept_ahead phases.WritingStatus l p next rung bytes answer n e b = (n, b bytes e)
kept_ahead _ l p next rung bytes answer n e b = cc n

over_keeps : (l : OrbList) (p : Progress) (m : Machine) (ahead : ReadAhead) (doorbell : Bool) (place : ℕ) (plain : PlainDisk) → Along l p m → KnowsAhead l p m.phase m.orb.next ahead → ahead_ask ahead m.orb.next ≡ Nothing → Keeps l p place plain (main_under m) Nothing (quiet, record m { ahead = ahead; doorbell = doorbell })
over_keeps l p m ahead doorbell place plain a h e = record {
  along = record { main = still m.phase l p m ahead doorbell m.aborted a.main; ahead = h };
  runs = tt;
  ends = tt;
  main_is = still_asks m.phase m ahead doorbell m.aborted;
  ahead_is = e;
}

read_keeps : (r : Result (List ℕ) FailCause) (l : OrbList) (p : Progress) (m : Machine) (place : ℕ) (plain : PlainDisk) → Along l p m → ((bytes : List ℕ) → r ≡ Ok bytes → KnowsAhead l p m.phase m.orb.next (aheads.Kept (command_orb bytes))) → Keeps l p place plain (main_under m) Nothing (ahead_read m r)
read_keeps (Ok bytes) l p m place plain a h = over_keeps l p m (aheads.Kept (command_orb bytes)) m.doorbell place plain a (h bytes refl) refl
read_keeps (Err cause) l p m place plain a h = over_keeps l p m aheads.Idle _ place plain a (no_ahead m.phase l p m.orb.next) refl

ahead_keeps : (ahead : ReadAhead) (l : OrbList) (p : Progress) (m : Machine) (place : ℕ) (plain : PlainDisk) (answer : Answer) → Along l p (record m { ahead = ahead }) → AheadBrings l p.ended m.phase answer
    → Keeps l p place plain (main_under (record m { ahead = ahead })) Nothing (cond (is_ahead ahead) (ahead_step (record m { ahead = ahead }) answer) (quiet, record m { ahead = ahead }))
ahead_keeps (aheads.UnderWay rung) l p m place plain answer a b =
    read_keeps (payload_of answer 32) l p (record m { ahead = aheads.UnderWay rung }) place plain a (λ bytes e. kept_ahead m.phase l p m.orb.next rung bytes answer a.ahead e b)
ahead_keeps aheads.Idle l p m place plain answer a b = record { along = a; runs = tt; ends = tt; main_is = refl; ahead_is = refl }
ahead_keeps (aheads.Kept orb) l p m place plain answer a b = record { along = a; runs = tt; ends = tt; main_is = refl; ahead_is = refl }

pub replies : (l : OrbList) → Replies l
unfolding reply_step
replies l p m place plain told Main answer laid a b = (main_keeps m.phase l p m (told_or told) place plain answer laid a.main a.ahead b).keeps
replies l p m place plain told Ahead answer laid a b = ahead_keeps m.ahead l p m place plain answer a b

-- ---- losses
main_lost_keeps : (phase : Phase) (l : OrbList) (p : Progress) (m : Machine) (cause : FailCause) (place : ℕ) (plain : PlainDisk) → Knows l p phase m → KnowsAhead l p phase m.orb.next m.ahead
    → Keeps l p place plain Nothing (ahead_under m) (main_lost phase (record m { phase = phase }) cause)
main_lost_keeps phases.Fetching l p m cause place plain k h =
    fail_keeps l p (record m { phase = phases.Fetching }) cause place plain (ahead_under m) k.turn (unread_leads l p m k) (record { reads = idle_behind l (suc p.ended) m.ahead m.orb.next h; under = refl })
main_lost_keeps phases.ReadingTable l p m cause place plain k h = fail_keeps l p (record m { phase = phases.ReadingTable }) cause place plain (ahead_under m) k.awaits.turn k.awaits.good.leads (record { reads = h; under = refl })
main_lost_keeps (phases.ReadingData wanted) l p m cause place plain k h =
    fail_keeps l p (record m { phase = phases.ReadingData wanted }) cause place plain (ahead_under m) k.awaits.turn k.awaits.good.leads (record { reads = h; under = refl })
main_lost_keeps phases.Answering l p m cause place plain k h = fail_keeps l p (record m { phase = phases.Answering }) cause place plain (ahead_under m) k.told.turn k.told.good.leads (record { reads = h; under = refl })
main_lost_keeps phases.WritingStatus l p m cause place plain k h = dead_keeps l p (record m { phase = phases.WritingStatus }) cause place plain (ahead_under m)
main_lost_keeps phases.ReadingNext l p m cause place plain k h = dead_keeps l p (record m { phase = phases.ReadingNext }) cause place plain (ahead_under m)
main_lost_keeps phases.WritingLastStatus l p m cause place plain k h = record { along = record { main = tt; ahead = h }; runs = tt; ends = tt; main_is = refl; ahead_is = refl }
main_lost_keeps phases.Reset l p m cause place plain k h = record { along = record { main = tt; ahead = h }; runs = tt; ends = tt; main_is = refl; ahead_is = refl }
main_lost_keeps phases.Suspended l p m cause place plain k h = record { along = record { main = k; ahead = h }; runs = tt; ends = tt; main_is = refl; ahead_is = refl }
main_lost_keeps phases.Dead l p m cause place plain k h = record { along = record { main = tt; ahead = h }; runs = tt; ends = tt; main_is = refl; ahead_is = refl }

ahead_lost_keeps : (ahead : ReadAhead) (l : OrbList) (p : Progress) (m : Machine) (cause : FailCause) (place : ℕ) (plain : PlainDisk) → Along l p (record m { ahead = ahead })
    → Keeps l p place plain (main_under (record m { ahead = ahead })) Nothing (cond (is_ahead ahead) (ahead_lost (record m { ahead = ahead }) cause) (quiet, record m { ahead = ahead }))
ahead_lost_keeps (aheads.UnderWay rung) l p m cause place plain a = over_keeps l p (record m { ahead = aheads.UnderWay rung }) aheads.Idle _ place plain a (no_ahead m.phase l p m.orb.next) refl
ahead_lost_keeps aheads.Idle l p m cause place plain a = record { along = a; runs = tt; ends = tt; main_is = refl; ahead_is = refl }
ahead_lost_keeps (aheads.Kept orb) l p m cause place plain a = record { along = a; runs = tt; ends = tt; main_is = refl; ahead_is = refl }

pub loses : (l : OrbList) → Loses l
unfolding lost_step
loses l p m place plain Main cause a = main_lost_keeps m.phase l p m cause place plain a.main a.ahead
loses l p m place plain Ahead cause a = ahead_lost_keeps m.ahead l p m cause place plain a
