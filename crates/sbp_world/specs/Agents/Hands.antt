-- What the target hands out behind the first note of a turn changes the agents of the terms as what it tells and its packets do (NCITS 325-1998,
-- command block agents). A reply that waits takes its agent on before, with what the first of these notes tells of a run, which is of the initiator of
-- the login in that place.
use Rattle.std.specs.Prelude.{◌≡◌, ◌<◌, ◌&&◌, ℕ, Bool, is_none, List, [], ◌∷◌, ◌++◌, length, map, Option, Some, None}
use Rattle.async_packet.specs.Labels.{LabelParts}
use Rattle.label_table.specs.Requests.{is_write}
use Rattle.rbc_disk.specs.Disk.{Disk}
use Rattle.rbc_disk.specs.Runs.{Told, answer_of}
use Rattle.rbc_disk.specs.Units.{PlainDisk}
use Rattle.sbp_bus.specs.Generations.{GenerationsState, node_of}
use Rattle.sbp_bus.specs.Words.{check_of}
use Rattle.sbp_journal.specs.Outgoings.{OutboxState}
use Rattle.sbp_journal.specs.Run.{Moment, said}
use Rattle.sbp_journal.specs.Transactions.{Kind, part_of, request, response}
use Rattle.sbp_journal.specs.Wire.{Terms, terms}
use Rattle.sbp_journal.specs.declared.outbox.Outgoing.{Outgoing}
use Rattle.sbp_journal.specs.declared.side.Side.{Side}
use Rattle.sbp_journal.specs.declared.side.Side.TheVariants as sides
use Rattle.sbp_laws.specs.Packets.{access_in_bytes}
use Rattle.sbp_laws.specs.Targets.{Agent, Reply, Target, initiator_at, is_write_access, over, plain_for, target_at, told_of}
use Rattle.sbp_world.specs.Handing.{handed_out}
use Rattle.sbp_world.specs.Telling.{holder}
use Rattle.sbp_world.specs.Worlds.{WorldState}
use Rattle.sbp_world.specs.Agents.Management.Offices.{office_of}
use Rattle.sbp_world.specs.Agents.Calls.{changed}
use Rattle.sbp_world.specs.Agents.Crews.{answered, crew_over, crew_packets, crew_sides}

-- a target tells no note of its own
abbrev pub AreTold : List Side → Type 0
AreTold [] = Unit {0}
AreTold (sides.Own note ∷ later) = ⊥
AreTold (side ∷ later) = AreTold later

-- A packet leaves: a node has its ID. A request has a label, and a response has none.
pub record IsResponse (bytes : List ℕ) : Type 0 where
  pub number : ℕ
  pub kind : Kind
  pub is : part_of bytes ≡ response number kind

pub record IsRequest (bytes : List ℕ) : Type 0 where
  pub number : ℕ
  pub kind : Kind
  pub is : part_of bytes ≡ request number kind
  pub writes : is_write_access (access_in_bytes bytes) ≡ is_write bytes

abbrev pub IsPart : Option LabelParts → List ℕ → Type 0
IsPart None bytes = IsResponse bytes
IsPart (Some label) bytes = IsRequest bytes

pub record Leaves (generations : GenerationsState) (packet : Outgoing) : Type 0 where
  pub to : ℕ
  pub there : node_of generations 0 packet.to ≡ Some to
  pub part : IsPart packet.label packet.bytes

abbrev pub AllLeave : GenerationsState → List Outgoing → Type 0
AllLeave generations [] = Unit {0}
AllLeave generations (packet ∷ later) = Leaves generations packet × AllLeave generations later

-- what a step of an agent tells first
abbrev pub IsOfStep : List Side → Type 0
IsOfStep [] = Unit {0}
IsOfStep (sides.Ran place orb cdb payload outcome ∷ later) = Unit {0}
IsOfStep (sides.Ended place orb status ∷ later) = Unit {0}
IsOfStep (sides.Dead place cause ∷ later) = Unit {0}
IsOfStep (side ∷ later) = ⊥

abbrev pub run_told : List Side → PlainDisk → Option Told
run_told (sides.Ran place orb cdb payload outcome ∷ later) plain = Some (told_of (check_of outcome) cdb plain)
run_told told plain = None

abbrev pub run_untold : List Side → PlainDisk → (before : Bool) → Bool
run_untold (sides.Ran place orb cdb payload outcome ∷ later) plain before = is_none (check_of outcome) && is_none (answer_of cdb plain.medium)
run_untold told plain before = before

-- the agents, once a reply that waits has taken its agent on
abbrev pub resumed : Option Reply → List Side → Target → List Agent
resumed None told t = t.agents
resumed (Some reply) told t =
    let plain = plain_for t reply in changed reply.place (λ a. answered (run_told told plain) (run_untold told plain a.untold) reply.place plain reply.which reply.answer a) t.agents

-- a run that is told first is of this initiator, which has the place where it ran
abbrev pub IsRunOf : List Side → WorldState → (initiator : ℕ) → Type 0
IsRunOf (sides.Ran place orb cdb payload outcome ∷ later) w initiator = (holder w place).initiator ≡ initiator
IsRunOf told w initiator = Unit {0}

abbrev pub MayResume : Option Reply → List Side → WorldState → Terms → Target → Type 0
MayResume None told w wire t = Unit {0}
MayResume (Some reply) told w wire t =
    (length t.agents ≡ 8) × (reply.place < 8) × (IsOfStep told × IsRunOf told w (initiator_at t wire reply.place))

abbrev pub HandsLaw : Type 0
HandsLaw =
    (start : List Disk) (past : List Moment) (weight : ℕ) (outbox : OutboxState) (w : WorldState) → (let ms = map said w.fresh ++ past in let t = target_at start ms in AreTold outbox.sides → AllLeave w.generations outbox.packets → MayResume t.reply outbox.sides w (terms ms) t → (over (target_at start (map said (handed_out 0 weight outbox w).fresh ++ past))).agents ≡ crew_over (crew_packets w.store.last outbox.packets (crew_sides outbox.sides (office_of t) (resumed t.reply outbox.sides t))))
