-- What an initiator sends as a transaction of its own ends: the read of the next quadlet of a ROM, where it asks for one, and nothing else.
use Rattle.std.proofs.Common.{◌≡◌, ◌∙◌, refl, ap, ℕ, ◌==◌, Bool, true, false, cond, List, [], ◌∷◌, length, Option, Some, None, Result, Ok, Err}
use Rattle.config_rom.specs.Reading.{Tree, reading}
use Rattle.config_rom.specs.Unit.{sbp_unit_of}
use Rattle.config_rom.specs.declared.fault.RomFault.{RomFault}
use Rattle.config_rom.specs.declared.unit.SbpUnit.{SbpUnit}
use Rattle.initiator_base.specs.Places.{management_at}
use Rattle.label_table.specs.Layer.{Layer, asking_step}
use Rattle.label_table.specs.declared.judgement.Asked.{Asked}
use Rattle.sbp_initiator.specs.Effects.{asked_quad, end_own_for, end_own_step, end_step, ended_for, ended_step, fault_number, finish_rom, is_address, next_quad, with_rom, with_unit}
use Rattle.sbp_initiator.specs.Histories.Moves.{outgoing}
use Rattle.sbp_initiator.specs.declared.purpose.Ending.{Ending}
use Rattle.sbp_initiator.specs.declared.purpose.Ending.TheVariants as endings
use Rattle.sbp_initiator.specs.declared.purpose.Purpose.{Purpose}
use Rattle.sbp_initiator.specs.declared.purpose.Purpose.TheVariants as purposes
use Rattle.sbp_initiator.specs.declared.purpose.Running.{Running}
use Rattle.sbp_initiator.specs.declared.state.InitiatorState.{InitiatorState}
use Rattle.sbp_journal.specs.Outgoings.{OutboxState, empty_outbox}
use Rattle.sbp_journal.specs.declared.outbox.Outgoing.{Outgoing}
use Rattle.sbp_journal.specs.declared.operation.Operation.TheVariants as operations
use Rattle.sbp_journal.specs.declared.operation.OpWord.{OpWord}
use Rattle.sbp_journal.specs.declared.operation.OpWord.TheVariants as words
use Rattle.turn_laws.proofs.RomEnds.{ended_leaves, is_plain, read_on}

own_sends : (found : Option Running) (act : ℕ) (word : OpWord) (o : OutboxState) (u : InitiatorState) → (end_own_for found act word o u).0.packets ≡ o.packets
own_sends None act word o u = refl
own_sends (Some running) act word o u = by (running.act == act)
  where
    by : (b : Bool) → (cond b (end_step running.operation word o u) (o, u)).0.packets ≡ o.packets
    by true = refl
    by false = refl

unit_sends : (unit : Option SbpUnit) (act : ℕ) (o : OutboxState) (u : InitiatorState) → (with_unit unit act o u).0.packets ≡ o.packets
unit_sends None act o u = own_sends u.operation act words.NoUnit o u
unit_sends (Some unit) act o u = own_sends u.operation act words.Done o (record u { management = Some (management_at unit.management) })

rom_sends : (x : Result Tree RomFault) (act : ℕ) (o : OutboxState) (u : InitiatorState) → (with_rom x act o u).0.packets ≡ o.packets
rom_sends (Ok tree) act o u = unit_sends (sbp_unit_of tree.blocks tree.entries) act o u
rom_sends (Err fault) act o u = own_sends u.operation act (words.Bad (fault_number fault)) o u

module _ (act : ℕ) (u : InitiatorState) where
  abbrev Sends : Ending → List Outgoing → Type 0
  Sends ending ps = (ended_for (Some (purposes.Rom act)) ending empty_outbox u).0.packets ≡ ps

  refused_by : (b : Bool) → (cond b (finish_rom act empty_outbox u) (end_own_step act words.Error empty_outbox u)).0.packets ≡ []
  refused_by true = rom_sends (reading u.quads) act empty_outbox u
  refused_by false = own_sends u.operation act words.Error empty_outbox u

  pub refused_sends : (rcode : ℕ) → Sends (endings.Refused rcode) []
  unfolding ended_step
  refused_sends rcode = refused_by (is_address rcode)

  pub expired_sends : Sends endings.Expired []
  unfolding ended_step
  expired_sends = own_sends u.operation act words.Error empty_outbox u

  module _ (value : ℕ) where
    abbrev quads : List ℕ
    quads = read_on (endings.Complete value) u.quads

    abbrev v : InitiatorState
    v = record u { quads = quads }

    abbrev Step : Option Asked × Layer Purpose
    Step = asking_step u.layer u.target (next_quad quads) (purposes.Rom act)

    pub last_sends : (length quads == 256) ≡ true → Sends (endings.Complete value) []
    unfolding ended_step
    last_sends e =
        ap (λ b. (cond b (finish_rom act empty_outbox v) (asked_quad Step act empty_outbox v)).0.packets) e ∙ rom_sends (reading quads) act empty_outbox v

    asked_sends : (r : Option Asked × Layer Purpose) (asked : Asked) → r.0 ≡ Some asked → (asked_quad r act empty_outbox v).0.packets ≡ outgoing u.target asked ∷ []
    asked_sends (Some one, layer) asked e = ap (λ (a : Asked). outgoing u.target a ∷ []) (let same : one ≡ asked = cc in same)
    asked_sends (None, layer) asked e = absurd (let no : None ≡ Some asked = e in cc)

    pub next_sends : (length quads == 256) ≡ false → (asked : Asked) → Step.0 ≡ Some asked → Sends (endings.Complete value) (outgoing u.target asked ∷ [])
    unfolding ended_step
    next_sends e asked f =
        ap (λ b. (cond b (finish_rom act empty_outbox v) (asked_quad Step act empty_outbox v)).0.packets) e ∙ asked_sends Step asked f

    asked_tells : (r : Option Asked × Layer Purpose) (asked : Asked) → r.0 ≡ Some asked → (asked_quad r act empty_outbox v).0.sides ≡ []
    asked_tells (Some one, layer) asked e = refl
    asked_tells (None, layer) asked e = absurd (let no : None ≡ Some asked = e in cc)

    pub next_tells : (length quads == 256) ≡ false → (asked : Asked) → Step.0 ≡ Some asked → (ended_for (Some (purposes.Rom act)) (endings.Complete value) empty_outbox u).0.sides ≡ []
    unfolding ended_step
    next_tells e asked f = ap (λ b. (cond b (finish_rom act empty_outbox v) (asked_quad Step act empty_outbox v)).0.sides) e ∙ asked_tells Step asked f

-- ---- every other one sends nothing
abbrev any : Running
any = record { operation = operations.Rom; act = 0; managed = None }

pub plain_sends : (purpose : Purpose) → is_plain purpose ≡ true → (ending : Ending) (u : InitiatorState) → (ended_for (Some purpose) ending empty_outbox u).0.packets ≡ []
plain_sends purpose plain ending u = (ended_leaves any ⊥ purpose ending empty_outbox u plain (λ x. absurd x)).packets

pub other_sends : (purpose : Option Purpose) → ((act : ℕ) → purpose ≡ Some (purposes.Rom act) → ⊥) → (ending : Ending) (u : InitiatorState) → (ended_for purpose ending empty_outbox u).0.packets ≡ []
other_sends None other ending u = refl
other_sends (Some (purposes.Rom act)) other ending u = absurd (other act refl)
other_sends (Some (purposes.Pointer list)) other ending u = plain_sends (purposes.Pointer list) refl ending u
other_sends (Some purposes.Doorbell) other ending u = plain_sends purposes.Doorbell refl ending u
other_sends (Some (purposes.AgentReset act)) other ending u = plain_sends (purposes.AgentReset act) refl ending u
other_sends (Some (purposes.Enable act)) other ending u = plain_sends (purposes.Enable act) refl ending u
other_sends (Some (purposes.Management act)) other ending u = plain_sends (purposes.Management act) refl ending u
other_sends (Some (purposes.State act list)) other ending u = plain_sends (purposes.State act list) refl ending u
