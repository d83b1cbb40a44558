-- An initiator that knows where MANAGEMENT_AGENT stands goes on to know it.
use Rattle.std.proofs.Common.{◌≡◌, ◌∙◌, ap, refl, ℕ, ◌==◌, is_some, length, Bool, true, false, cond, List, Option, Some, None, Result, Ok, Err}
use Rattle.config_rom.specs.Reading.{Tree, reading}
use Rattle.config_rom.specs.Unit.{sbp_unit_of}
use Rattle.config_rom.specs.declared.fault.RomFault.{RomFault}
use Rattle.config_rom.specs.declared.unit.SbpUnit.{SbpUnit}
use Rattle.initiator_base.specs.Places.{management_at}
use Rattle.initiator_base.specs.Quads.{with_quad}
use Rattle.label_table.specs.Layer.{Finding, Layer, answering_step, asking_step, expiring_step, judging_step, of_again, of_generation, of_grammar, of_label, of_request, of_response}
use Rattle.label_table.specs.declared.judgement.Asked.{Asked}
use Rattle.label_table.specs.declared.reply.Stale.{Stale}
use Rattle.async_packet.specs.Labels.{LabelParts}
use Rattle.sbp_initiator.specs.Acting.{act_step}
use Rattle.sbp_initiator.specs.Effects.{asked_quad, end_own_for, end_own_step, end_step, ended_for, ended_step, fault_number, finish_rom, is_address, next_quad, quad_got, rom_ended, with_rom, with_unit}
use Rattle.sbp_initiator.specs.Receiving.{called, expire_step, expired_as, receive_step, received}
use Rattle.sbp_initiator.specs.States.{ending_of}
use Rattle.sbp_initiator.specs.declared.purpose.Ending.{Ending}
use Rattle.sbp_initiator.specs.declared.purpose.Ending.TheVariants as endings
use Rattle.sbp_initiator.specs.declared.purpose.Purpose.{Purpose}
use Rattle.sbp_initiator.specs.declared.purpose.Purpose.TheVariants as purposes
use Rattle.sbp_initiator.specs.declared.purpose.Running.{Running}
use Rattle.sbp_initiator.specs.declared.state.InitiatorState.{InitiatorState}
use Rattle.sbp_journal.specs.Outgoings.{OutboxState, empty_outbox}
use Rattle.sbp_journal.specs.declared.event.Action.{Action}
use Rattle.sbp_journal.specs.declared.event.Action.TheVariants as actions
use Rattle.sbp_journal.specs.declared.operation.OpWord.{OpWord}
use Rattle.sbp_journal.specs.declared.operation.OpWord.TheVariants as words
use Rattle.sbp_journal.specs.declared.operation.Operation.TheVariants as operations
use Rattle.turn_laws.proofs.HostRoms.{Rom, begun_rom}
use Rattle.turn_laws.proofs.RomEnds.{ended_leaves, is_plain, own_rom}
use Rattle.turn_laws.proofs.RomReads.{act_rom}
use Rattle.turn_laws.proofs.RomStays.{request_reads}

abbrev pub Knows : InitiatorState → Type 0
Knows s = is_some s.management ≡ true

same_knows : (s u : InitiatorState) → own_rom u ≡ own_rom s → Knows s → Knows u
same_knows s u e h = ap (λ (r : Rom). is_some r.management) e ∙ h

-- ---- the read of a ROM ends
module _ (act : ℕ) (o : OutboxState) where
  ends_for : (found : Option Running) (word : OpWord) (s : InitiatorState) → Knows s → Knows (end_own_for found act word o s).1
  ends_for None word s h = h
  ends_for (Some running) word s h = by (running.act == act)
    where
      by : (b : Bool) → Knows (cond b (end_step running.operation word o s) (o, s)).1
      by true = h
      by false = h

  ends : (word : OpWord) (s : InitiatorState) → Knows s → Knows (end_own_step act word o s).1
  ends word s h = ends_for s.operation word s h

  units : (unit : Option SbpUnit) (s : InitiatorState) → Knows s → Knows (with_unit unit act o s).1
  units None s h = ends words.NoUnit s h
  units (Some unit) s h = ends words.Done (record s { management = Some (management_at unit.management) }) refl

  roms : (r : Result Tree RomFault) (s : InitiatorState) → Knows s → Knows (with_rom r act o s).1
  roms (Ok tree) s h = units (sbp_unit_of tree.blocks tree.entries) s h
  roms (Err fault) s h = ends (words.Bad (fault_number fault)) s h

  asks : (r : Option Asked × Layer Purpose) (s : InitiatorState) → Knows s → Knows (asked_quad r act o s).1
  asks (Some asked, layer) s h = h
  asks (None, layer) s h = ends words.Error (record s { layer = layer }) h

  got : (s : InitiatorState) → Knows s → Knows (quad_got act o s).1
  got s h = by (length s.quads == 256)
    where
      by : (b : Bool) → Knows (cond b (finish_rom act o s) (asked_quad (asking_step s.layer s.target (next_quad s.quads) (purposes.Rom act)) act o s)).1
      by true = roms (reading s.quads) s h
      by false = asks (asking_step s.layer s.target (next_quad s.quads) (purposes.Rom act)) s h

  rom_knows : (ending : Ending) (s : InitiatorState) → Knows s → Knows (rom_ended act ending o s).1
  rom_knows (endings.Complete value) s h = got (record s { quads = with_quad s.quads value }) h
  rom_knows (endings.Refused rcode) s h = by (is_address rcode)
    where
      by : (b : Bool) → Knows (cond b (finish_rom act o s) (end_own_step act words.Error o s)).1
      by true = roms (reading s.quads) s h
      by false = ends words.Error s h
  rom_knows endings.Expired s h = ends words.Error s h

-- ---- a transaction ends
plain_knows : (purpose : Purpose) (ending : Ending) (o : OutboxState) (s : InitiatorState) → is_plain purpose ≡ true → Knows s → Knows (ended_step purpose ending o s).1
plain_knows purpose ending o s plain h =
    let any : Running = record { operation = operations.Rom; act = 0; managed = None } in
    same_knows s (ended_step purpose ending o s).1 (ended_leaves any ⊥ purpose ending o s plain (λ x. absurd x)).read h

ended_knows : (purpose : Option Purpose) (ending : Ending) (o : OutboxState) (s : InitiatorState) → Knows s → Knows (ended_for purpose ending o s).1
unfolding ended_step
ended_knows None ending o s h = h
ended_knows (Some (purposes.Rom act)) ending o s h = rom_knows act o ending s h
ended_knows (Some (purposes.Pointer list)) ending o s h = plain_knows (purposes.Pointer list) ending o s refl h
ended_knows (Some purposes.Doorbell) ending o s h = plain_knows purposes.Doorbell ending o s refl h
ended_knows (Some (purposes.AgentReset act)) ending o s h = plain_knows (purposes.AgentReset act) ending o s refl h
ended_knows (Some (purposes.Enable act)) ending o s h = plain_knows (purposes.Enable act) ending o s refl h
ended_knows (Some (purposes.Management act)) ending o s h = plain_knows (purposes.Management act) ending o s refl h
ended_knows (Some (purposes.State act list)) ending o s h = plain_knows (purposes.State act list) ending o s refl h

-- ---- the calls
found_knows : (f : Finding Purpose) (layer : Layer Purpose) (bytes : List ℕ) (s : InitiatorState) → Knows s → Knows (received (f, layer) bytes empty_outbox s).1.1
unfolding answering_step
found_knows of_generation layer bytes s h = h
found_knows of_grammar layer bytes s h = h
found_knows of_label layer bytes s h = h
found_knows (of_response p label purpose) layer bytes s h = ended_knows purpose (ending_of p) empty_outbox (called (record s { layer = layer })) h
found_knows (of_again p rcode) layer bytes s h = h
found_knows (of_request p) layer bytes s h = same_knows s (received (of_request p, layer) bytes empty_outbox s).1.1 (request_reads bytes empty_outbox (record s { layer = layer }) p) h

pub heard_knows : (generation : ℕ) (bytes : List ℕ) (s : InitiatorState) → Knows s → Knows (receive_step generation bytes empty_outbox s).1.1
unfolding receive_step
heard_knows generation bytes s h = let x = judging_step s.layer generation bytes in found_knows x.0 x.1 bytes s h

lapsed_knows : (r : Result (Option Purpose) Stale) (layer : Layer Purpose) (s : InitiatorState) → Knows s → Knows (expired_as (r, layer) empty_outbox s).1.1
lapsed_knows (Err stale) layer s h = h
lapsed_knows (Ok purpose) layer s h = ended_knows purpose endings.Expired empty_outbox (called (record s { layer = layer })) h

pub late_knows : (label : LabelParts) (s : InitiatorState) → Knows s → Knows (expire_step label empty_outbox s).1.1
unfolding expire_step
late_knows label s h = let x = expiring_step s.layer s.target label in lapsed_knows x.0 x.1 s h

begun_same : (action : Action) (r : Rom) → (begun_rom action r).management ≡ r.management
begun_same actions.Rom r = refl
begun_same action r = refl

pub acted_knows : (action : Action) (s : InitiatorState) → (act_step action empty_outbox s).0 ≡ None → Knows s → Knows (act_step action empty_outbox s).1.1
acted_knows action s done h = ap is_some (ap (λ (r : Rom). r.management) (act_rom action s done) ∙ begun_same action (own_rom s)) ∙ h
