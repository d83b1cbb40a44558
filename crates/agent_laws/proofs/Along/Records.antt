-- What is known of an agent in the course of a step.
use Rattle.std.proofs.Common.{◌≡◌, ◌⊎◌, refl, ℕ, suc, Bool, false, [], length, None}
use Rattle.orb_layout.specs.declared.ask.Ask.{Ask}
use Rattle.rbc_disk.specs.Units.{PlainDisk}
use Rattle.rbc_disk.specs.Runs.{need_of, data_length_of, Feeds}
use Rattle.command_agent.specs.declared.phase.Phase.{Phase}
use Rattle.command_agent.specs.declared.phase.Phase.TheVariants as phases
use Rattle.command_agent.specs.declared.phase.ReadAhead.{ReadAhead}
use Rattle.command_agent.specs.Machine.{Machine, plan_of}
use Rattle.agent_laws.specs.Along.Lists.{OrbList, IsGood}
use Rattle.agent_laws.specs.Along.Along.{Progress, IsNext, Awaits, Knows, ReadsAhead}
use Rattle.agent_laws.specs.Along.Requests.{main_ask, ahead_under}

-- what is read ahead is the ORB of this number, and of the read this is under way
pub record Behind (l : OrbList) (k : ℕ) (m : Machine) (ahead : Ask) : Type 0 where
  pub reads : ReadsAhead l k m.orb.next m.ahead
  pub under : ahead_under m ≡ ahead

-- the present ORB was read, and is to be checked
pub record Fresh (l : OrbList) (p : Progress) (m : Machine) (ahead : Ask) : Type 0 where
  pub turn : IsNext l p.ended p.answered m.present
  pub unrun : p.outcome ≡ None
  pub good : IsGood l p.ended m.orb
  pub empty : m.payload ≡ []
  pub behind : Behind l (suc p.ended) m ahead

-- it passed its checks, and waits for its run
pub record Ready (l : OrbList) (p : Progress) (m : Machine) (ahead : Ask) : Type 0 where
  pub awaits : Awaits l p m.present m.orb
  pub behind : Behind l (suc p.ended) m ahead

-- its buffer is known
pub record Judgeable (l : OrbList) (p : Progress) (m : Machine) (ahead : Ask) : Type 0 where
  pub ready : Ready l p m ahead
  pub buffer : l.is_buffer p.ended m.orb m.segments
  pub empty : m.payload ≡ []

-- its command may run
pub record Runnable (l : OrbList) (p : Progress) (m : Machine) (place : ℕ) (plain : PlainDisk) (ahead : Ask) : Type 0 where
  pub ready : Ready l p m ahead
  pub buffer : l.is_buffer p.ended m.orb m.segments
  pub part : l.is_data p.ended m.orb m.segments m.payload
  pub whole : (m.payload ≡ []) ⊎ (length m.payload ≡ data_length_of false m.orb.cdb)
  pub fed : Feeds (need_of m.orb.cdb (plan_of m) plain place) m.payload

-- the read ahead, the doorbell's mark and that of an abort are nothing to the main transaction
pub still : (phase : Phase) (l : OrbList) (p : Progress) (m : Machine) (ahead : ReadAhead) (doorbell aborted : Bool) → Knows l p phase m → Knows l p phase (record m { ahead = ahead; doorbell = doorbell; aborted = aborted })
still phases.Fetching l p m ahead doorbell aborted k = k
still _ l p m ahead doorbell aborted k = k

pub still_asks : (phase : Phase) (m : Machine) (ahead : ReadAhead) (doorbell aborted : Bool) → main_ask phase (record m { ahead = ahead; doorbell = doorbell; aborted = aborted }) ≡ main_ask phase m
still_asks phases.Fetching m ahead doorbell aborted = refl
still_asks _ m ahead doorbell aborted = refl
