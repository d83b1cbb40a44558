-- What a slot brings with a good status is the plan of the command that was prepared there last.
use Rattle.sbp_world.proofs.Words.Std.{arith, ◌≡◌, refl, sym, ◌∙◌, ap, ℕ, ◌<◌, nat_eq, Bool, true, false, List, ◌∷◌, length, Option, Some, nat_tests, get_or-set_other, get_or-set_same}
use Rattle.sbp_world.proofs.Words.Wire.{Moment, said, Cmd, NoteBuffer}
use Rattle.sbp_world.proofs.Words.Initiator.{no_answer, AnswerPlan, plan_of}
use Rattle.sbp_world.proofs.Words.Laws.{Orb, cmd_of, command_at, lowest_vacant, orb, prepared_in, slots, event_of}
use Rattle.std.proofs.Common.{slice_index_or, slice_set}
use Rattle.std.proofs.lemmas.List.{length-set}
use Rattle.sbp_journal.specs.declared.note.Note.TheVariants as notes
use Rattle.sbp_world.proofs.Hosts.ByteTerms.{ByteTerms, byte_terms, command_now, command_there, prepared_now}

-- the names of the ORBs of the slots, and their commands
pub record NameTerms : Type 0 where
  pub command : ℕ → ℕ → Option Cmd
  pub prepared : ℕ → Option Orb

abbrev pub names_of : ByteTerms → NameTerms
names_of t = record { command = t.command; prepared = t.prepared }

abbrev pub names : List Moment → ℕ → NameTerms
names past i = names_of (byte_terms past i)

pub record PlansHold (t : NameTerms) (answers : List AnswerPlan) : Type 0 where
  pub size : length answers ≡ 32
  pub plans : (k : ℕ) (one : Orb) (cmd : Cmd) → k < 32 → t.prepared k ≡ Some one → t.command one.list one.number ≡ Some cmd → slice_index_or answers k no_answer ≡ plan_of cmd

-- an ORB that is appended
module _ (past : List Moment) (i n k slot : ℕ) (cdb : List ℕ) (buffer : NoteBuffer) (cmd : Cmd) (line : cmd_of (event_of past) ≡ Some cmd) (low : lowest_vacant (slots past i) ≡ slot) (fresh : (x : ℕ) (one : Orb) → x < 32 → prepared_in past i x ≡ Some one → one.list ≡ n → one.number ≡ k → ⊥) (small : slot < 32) (answers : List AnswerPlan) (h : PlansHold (names past i) answers) where
  abbrev now : List Moment
  now = said (notes.Append i n k cdb buffer) ∷ past

  abbrev set_plans : List AnswerPlan
  set_plans = slice_set answers slot (plan_of cmd)

  plan_now : (x : ℕ) (one : Orb) (other : Cmd) → x < 32 → prepared_in now i x ≡ Some one → command_at now i one.list one.number ≡ Some other → (c : Bool) → nat_eq slot x ≡ c → slice_index_or set_plans x no_answer ≡ plan_of other
  plan_now x one other b p q true t =
      let size = h.size in
      let same : slot ≡ x = grind (arith, nat_tests) in
      let named : orb n k ≡ one = let u = sym (prepared_now past i n k slot cdb buffer cmd line low fresh x true t) ∙ p in cc in
      let is : Some cmd ≡ Some other = sym (command_now past i n k slot cdb buffer cmd line low fresh) ∙ (ap (λ (y : Orb). command_at now i y.list y.number) named ∙ q) in
      let equal : cmd ≡ other = cc in
      ap (λ y. slice_index_or set_plans y no_answer) (sym same)
      ∙ (get_or-set_same answers slot (plan_of cmd) no_answer (omega arith) ∙ ap plan_of equal)
  plan_now x one other b p q false t =
      let before : prepared_in past i x ≡ Some one = sym (prepared_now past i n k slot cdb buffer cmd line low fresh x false t) ∙ p in
      let command : command_at past i one.list one.number ≡ Some other = sym (command_there past i n k slot cdb buffer cmd line low fresh one.list one.number (fresh x one b before)) ∙ q in
      let apart : x ≡ slot → ⊥ = λ (e : x ≡ slot). absurd (grind (arith, nat_tests)) in
      get_or-set_other answers slot x (plan_of cmd) no_answer apart ∙ h.plans x one other b before command

  pub plans_appended : PlansHold (names now i) set_plans
  plans_appended = record {
    size = length-set answers slot (plan_of cmd) ∙ h.size;
    plans = λ x one other b p q. plan_now x one other b p q (nat_eq slot x) refl;
  }
