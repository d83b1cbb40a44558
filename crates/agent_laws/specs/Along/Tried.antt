-- A list of two ORBs, each a TEST UNIT READY, along which an agent goes: the first one is read and runs, the second is read ahead, and its turn comes
-- when the status block of the first is written.
use Rattle.std.specs.Prelude.{◌≡◌, ℕ, ◌*◌, true, false, List, [], ◌∷◌, ◌++◌, replicate, Some, None}
use Rattle.orb_layout.specs.declared.command.CommandOrb.{CommandOrb}
use Rattle.orb_layout.specs.declared.pointer.OrbPointer.TheVariants.{At}
use Rattle.orb_layout.specs.declared.status.StatusKind.TheVariants.{Good}
use Rattle.orb_layout.specs.CommandOrbs.{command_orb}
use Rattle.orb_layout.specs.Replies.{Answer, Payload, Done}
use Rattle.rbc_disk.specs.declared.command.Outcome.TheVariants as outcomes
use Rattle.rbc_disk.specs.Units.{PlainDisk, new_unit}
use Rattle.rbc_disk.specs.Runs.{Told}
use Rattle.command_agent.specs.declared.step.Which.{Which}
use Rattle.command_agent.specs.declared.step.Which.TheVariants.{Main, Ahead}
use Rattle.command_agent.specs.Machine.{Machine, new_machine}
use Rattle.command_agent.specs.Steps.{point_step, unread_buffer}
use Rattle.agent_laws.specs.Along.Lists.{OrbList, IsLaid}
use Rattle.agent_laws.specs.Along.Laws.{list_by}
use Rattle.agent_laws.specs.Along.Calls.{Call, Reply, Tale, Ran, Ended, tales, AllBring, TakesList}

-- 32 bytes each: the next pointer names the second, which has none
abbrev pub first_bytes : List ℕ
first_bytes = replicate 7 0 ++ 96 ∷ replicate 24 0

abbrev pub second_bytes : List ℕ
second_bytes = 128 ∷ replicate 31 0

abbrev pub two : OrbList
two = list_by (record { address = λ k. 96 * k; linked = 2; is_orb = λ k orb. true; is_buffer = λ k orb segments. true; is_data = λ k orb segments bytes. true })

abbrev pub disk : PlainDisk
disk = record { unit = new_unit; medium = record { bytes = None; blocks = 1; is_protected = false; is_present = true; is_bay = false; shelf = [] } }

abbrev pub ready : Told
ready = record { outcome = outcomes.Good 0; answer = [] }

abbrev pub heard : Which → Answer → Call
heard which answer = Reply 0 disk (Some ready) which answer

abbrev pub started : Machine
started = (point_step new_machine (At 0)).1

-- the latest first
abbrev pub calls : List Call
calls = heard Main Done ∷ heard Main Done ∷ heard Ahead (Payload second_bytes) ∷ heard Main (Payload first_bytes) ∷ []

abbrev pub ran : (at : ℕ) → CommandOrb → Tale
ran at orb = Ran at orb (unread_buffer orb) [] (outcomes.Good 0)

-- All that the law of a list asks for is there, and what is told is this.
pub record ListTried : Type 0 where
  pub laid : IsLaid two
  pub taken : TakesList two new_machine (At 0)
  pub brought : AllBring two started calls
  pub told : tales started calls ≡ Ended 96 Good ∷ ran 96 (command_orb second_bytes) ∷ Ended 0 Good ∷ ran 0 (command_orb first_bytes) ∷ []
