-- What the end of the latest read of a ROM tells at an initiator is what the laws say of its operation: it ends with the ROM that was read or with an error, or the next quadlet is read.
use Rattle.std.proofs.Common.{[], arith, ◌<◌, ◌&&◌, ◌==◌, Bool, List, None, Ok, Err, Option, Result, Some, ap, cond, false, is_some, length, nat_le, not, refl, suc, sym, true, ℕ, ◌++◌, ◌∙◌, ◌∷◌, ◌≡◌}
use Rattle.std.proofs.lemmas.Bool.Decides.{nat_tests}
use Rattle.config_rom.specs.Reading.{Tree, reading}
use Rattle.config_rom.specs.Unit.{sbp_unit_of}
use Rattle.config_rom.specs.declared.fault.RomFault.{RomFault}
use Rattle.config_rom.specs.declared.fault.RomFault.TheVariants as rom_faults
use Rattle.config_rom.specs.declared.unit.SbpUnit.{SbpUnit}
use Rattle.initiator_base.specs.Quads.{with_quad}
use Rattle.label_table.specs.Layer.{Layer, asking_step}
use Rattle.label_table.specs.declared.judgement.Asked.{Asked}
use Rattle.orb_layout.specs.Replies.{Answer, Expired, Payload, Refused}
use Rattle.sbp_base.specs.Quadlets.{quad}
use Rattle.sbp_initiator.specs.Effects.{Turn, asked_quad, end_own_for, end_own_step, end_step, fault_number, finish_rom, next_quad, quad_got, rom_ended, with_rom, with_unit}
use Rattle.sbp_initiator.specs.declared.purpose.Ending.{Ending}
use Rattle.sbp_initiator.specs.declared.purpose.Ending.TheVariants as endings
use Rattle.sbp_initiator.specs.declared.purpose.Purpose.{Purpose}
use Rattle.sbp_initiator.specs.declared.purpose.Purpose.TheVariants as purposes
use Rattle.sbp_initiator.specs.declared.purpose.Running.{Running}
use Rattle.sbp_initiator.specs.declared.state.InitiatorState.{InitiatorState}
use Rattle.sbp_journal.specs.Addresses.{Access}
use Rattle.sbp_journal.specs.Outgoings.{OutboxState}
use Rattle.sbp_journal.specs.declared.note.Note.TheVariants as notes
use Rattle.sbp_journal.specs.declared.operation.OpWord.{OpWord}
use Rattle.sbp_journal.specs.declared.operation.OpWord.TheVariants as words
use Rattle.sbp_journal.specs.declared.operation.Operation.{Operation}
use Rattle.sbp_journal.specs.declared.operation.Operation.TheVariants as operations
use Rattle.sbp_laws.specs.Hosts.{Host, StateRead, Underway, is_latest, is_present, is_rom, is_stuck}
use Rattle.sbp_laws.specs.OnceLaw.{is_write_in}
use Rattle.sbp_laws.specs.Operations as law
use Rattle.sbp_laws.specs.Operations.{End, end_notes, ends_as, gets_stuck, is_failure, is_management_write, operation_answered, or_end, read_ends, reply_notes, request_answered, rom_answered, rom_ends, rom_word, says_reset, state_word, stuck_note, unit_word}
use Rattle.sbp_world.proofs.Common.{same_number, untrue}
use Rattle.turn_laws.proofs.KindNotes.{none_behind}
use Rattle.turn_laws.proofs.OwnAnswers.{IsRead, gives, lapses, refuses}
use Rattle.turn_laws.proofs.OwnEnds.{Says, own, says_as}
use Rattle.turn_laws.proofs.RomKnown.{more_quads, one_longer}
use Rattle.turn_laws.proofs.RomLabels.{IsRom}

-- no read of AGENT_STATE has this serial
abbrev pub AreApart : ℕ → List StateRead → Type 0
AreApart serial [] = Unit {0}
AreApart serial (read ∷ reads) = (read.serial == serial) ≡ false × AreApart serial reads

pub none_reads : (reads : List StateRead) (serial : ℕ) (answer : Answer) (present : Option ℕ) → AreApart serial reads → read_ends reads serial answer present ≡ None
none_reads [] serial answer present a = refl
none_reads (read ∷ reads) serial answer present a =
    ap (λ b. cond b (ends_as operations.State (state_word answer) (says_reset answer && is_present read.list present)) (read_ends reads serial answer present)) a.0
    ∙ none_reads reads serial answer present a.1

pub or_none : (end : Option End) → or_end end None ≡ end
or_none None = refl
or_none (Some end) = refl

fault_same : (fault : RomFault) → fault_number fault ≡ law.fault_number fault
fault_same (rom_faults.Short need) = refl
fault_same rom_faults.Name = refl
fault_same (rom_faults.Entry at) = refl
fault_same (rom_faults.Outside at) = refl
fault_same rom_faults.NoMemory = refl

module _ (serial : ℕ) (host : Host) where
  -- the latest read of the operation under way, which is a ROM
  abbrev pub ReadsRom : Option Underway → Type 0
  ReadsRom u = (is_rom u && is_latest u serial) ≡ true

  rom_asked : (underway : Underway) (answer : Answer) → is_rom (Some underway) ≡ true → request_answered underway.operation answer host ≡ rom_answered answer host.quads
  rom_asked underway answer e = by underway.operation e
    where
      by : (operation : Operation) → is_rom (Some (record underway { operation = operation })) ≡ true → request_answered operation answer host ≡ rom_answered answer host.quads
      by operations.Rom k = refl
      by operation k = untrue k

  answered_by : (underway : Underway) (answer : Answer) (b c : Bool) → is_rom (Some underway) ≡ b → (underway.latest == serial) ≡ c → (b && c) ≡ true → operation_answered (Some underway) serial answer host ≡ rom_answered answer host.quads
  answered_by underway answer true true f g e = ap (λ x. cond x (request_answered underway.operation answer host) None) g ∙ rom_asked underway answer f
  answered_by underway answer true false f g e = untrue e
  answered_by underway answer false c f g e = untrue e

  rom_is_answered : (u : Option Underway) (answer : Answer) → ReadsRom u → operation_answered u serial answer host ≡ rom_answered answer host.quads
  rom_is_answered None answer e = untrue e
  rom_is_answered (Some underway) answer e = answered_by underway answer (is_rom (Some underway)) (underway.latest == serial) refl refl e

module _ (serial : ℕ) (s : InitiatorState) (host : Host) (present : Option ℕ) (access : Option Access) (o : OutboxState) (act : ℕ) (runs : IsRom act s.operation) (latest : ReadsRom serial host host.operation) (apart : AreApart serial host.reads) (reads_it : is_write_in access ≡ false) (quads_are : s.quads ≡ host.quads) where
  abbrev pub Due : Answer → Turn → Type 0
  Due answer t = Says o t (reply_notes s.number host present access serial answer)

  notes_as : (answer : Answer) (end : Option End) → rom_answered answer host.quads ≡ end → reply_notes s.number host present access serial answer ≡ end_notes s.number end present ++ []
  notes_as answer end e =
      ap (λ x. end_notes s.number (or_end x (read_ends host.reads serial answer present)) present ++ stuck_note s.number (gets_stuck host access answer)) (rom_is_answered serial host host.operation answer latest ∙ e)
      ∙ ap (λ x. end_notes s.number (or_end end x) present ++ stuck_note s.number (gets_stuck host access answer)) (none_reads host.reads serial answer present apart)
      ∙ ap (λ x. end_notes s.number x present ++ stuck_note s.number (gets_stuck host access answer)) (or_none end)
      ∙ ap (λ b. end_notes s.number end present ++ stuck_note s.number b) (ap (λ b. b && is_failure answer (is_management_write host access) && not (is_stuck host.session)) reads_it)

  -- it ends
  op_says : (word : OpWord) (u : InitiatorState) → u.operation ≡ s.operation → u.number ≡ s.number → Says o (end_own_step act word o u) (notes.Op s.number operations.Rom word ∷ [])
  op_says word u same number =
      ap (λ (r : Option Running). (end_own_for r act word o u).0.sides) (same ∙ runs.is)
      ∙ ap (λ b. (cond b (end_step runs.running.operation word o u) (o, u)).0.sides) (ap (λ n. n == act) runs.act ∙ same_number act)
      ∙ ap (λ n. o.sides ++ own (notes.Op n runs.running.operation word ∷ [])) number
      ∙ ap (λ x. o.sides ++ own (notes.Op s.number x word ∷ [])) runs.kind

  ends : (answer : Answer) (word : OpWord) (u : InitiatorState) → u.operation ≡ s.operation → u.number ≡ s.number → rom_answered answer host.quads ≡ ends_as operations.Rom word false → Due answer (end_own_step act word o u)
  ends answer word u same number e =
      says_as o (end_own_step act word o u) (notes.Op s.number operations.Rom word ∷ []) _ (sym (notes_as answer (ends_as operations.Rom word false) e)) (op_says word u same number)

  unit_due : (answer : Answer) (unit : Option SbpUnit) (u : InitiatorState) → u.operation ≡ s.operation → u.number ≡ s.number → rom_answered answer host.quads ≡ ends_as operations.Rom (unit_word unit) false → Due answer (with_unit unit act o u)
  unit_due answer None u same number e = ends answer words.NoUnit u same number e
  unit_due answer (Some unit) u same number e = ends answer words.Done _ same number e

  tree_due : (answer : Answer) (r : Result Tree RomFault) (u : InitiatorState) → u.operation ≡ s.operation → u.number ≡ s.number → rom_answered answer host.quads ≡ ends_as operations.Rom (rom_word r) false → Due answer (with_rom r act o u)
  tree_due answer (Ok tree) u same number e = unit_due answer (sbp_unit_of tree.blocks tree.entries) u same number e
  tree_due answer (Err fault) u same number e =
      ends answer (words.Bad (fault_number fault)) u same number (e ∙ ap (λ n. ends_as operations.Rom (words.Bad n) false) (sym (fault_same fault)))

  -- all of it was read, where the quadlets are those of the terms
  all_due : (answer : Answer) (quads : List ℕ) (u : InitiatorState) → u.operation ≡ s.operation → u.number ≡ s.number → u.quads ≡ quads → rom_answered answer host.quads ≡ rom_ends quads → Due answer (finish_rom act o u)
  all_due answer quads u same number quads_so e =
      tree_due answer (reading u.quads) u same number (e ∙ ap (λ q. ends_as operations.Rom (rom_word (reading q)) false) (sym quads_so))

  refused_by : (rcode : ℕ) (b : Bool) → (rcode == 7) ≡ b → Due (Refused rcode) (cond b (finish_rom act o s) (end_own_step act words.Error o s))
  refused_by rcode true e = all_due (Refused rcode) host.quads s refl refl quads_are (ap (λ b. cond b (rom_ends host.quads) (ends_as operations.Rom words.Error false)) e)
  refused_by rcode false e = ends (Refused rcode) words.Error s refl refl (ap (λ b. cond b (rom_ends host.quads) (ends_as operations.Rom words.Error false)) e)

  pub late_due : Due Expired (rom_ended act endings.Expired o s)
  late_due = ends Expired words.Error s refl refl refl

  -- ---- a quadlet that is read, where the read of the next one finds a label
  abbrev pub GoesOn : Type 0
  GoesOn = (value : ℕ) → is_some (asking_step s.layer s.target (next_quad (with_quad s.quads value)) (purposes.Rom act)).0 ≡ true

  module _ (few : length s.quads < 256) (goes_on : GoesOn) where
    -- which is not the last one ends nothing
    next_due : (u : InitiatorState) (bytes : List ℕ) (r : Option Asked × Layer Purpose) → is_some r.0 ≡ true → nat_le 255 (length host.quads) ≡ false → Due (Payload bytes) (asked_quad r act o u)
    next_due u bytes (Some asked, layer) some e =
        says_as o (asked_quad (Some asked, layer) act o u) [] _ (sym (notes_as (Payload bytes) None (ap (λ b. cond b (rom_ends (host.quads ++ (quad bytes 0 ∷ []))) None) e))) (sym (none_behind o.sides))
    next_due u bytes (None, layer) some e = untrue some

    abbrev with_more : List ℕ → InitiatorState
    with_more quads = record s { quads = quads }

    -- the quadlets that it has then
    module _ (value : ℕ) (bytes : List ℕ) (is : quad bytes 0 ≡ value) where
      abbrev more : List ℕ
      more = with_quad s.quads value

      more_are : more ≡ host.quads ++ (quad bytes 0 ∷ [])
      more_are = more_quads s.quads value few ∙ ap (λ q. q ++ (value ∷ [])) quads_are ∙ ap (λ v. host.quads ++ (v ∷ [])) (sym is)

      longer : length more ≡ suc (length host.quads)
      longer = ap (λ (q : List ℕ). length q) more_are ∙ one_longer host.quads (quad bytes 0)

      got_by : (b : Bool) → (length more == 256) ≡ b
          → Due (Payload bytes) (cond b (finish_rom act o (with_more more)) (asked_quad (asking_step s.layer s.target (next_quad more) (purposes.Rom act)) act o (with_more more)))
      got_by true f =
          let n = longer in
          let last : nat_le 255 (length host.quads) ≡ true = grind (arith, nat_tests) in
          all_due (Payload bytes) (host.quads ++ (quad bytes 0 ∷ [])) (with_more more) refl refl more_are (ap (λ b. cond b (rom_ends (host.quads ++ (quad bytes 0 ∷ []))) None) last)
      got_by false f =
          let n = longer in
          let m = ap (λ (q : List ℕ). length q) quads_are in
          let k = few in
          let before : nat_le 255 (length host.quads) ≡ false = grind (arith, nat_tests) in
          next_due (with_more more) bytes (asking_step s.layer s.target (next_quad more) (purposes.Rom act)) (goes_on value) before

      got_due : Due (Payload bytes) (quad_got act o (with_more more))
      got_due = got_by (length more == 256) refl

    pub answer_due : (ending : Ending) (answer : Answer) → IsRead ending answer → Due answer (rom_ended act ending o s)
    answer_due _ _ (gives value bytes e) = got_due value bytes e
    answer_due _ _ (refuses rcode) = refused_by rcode (rcode == 7) refl
    answer_due _ _ lapses = late_due
