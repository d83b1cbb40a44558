-- The answer of a good status is that of the plain disk, where the medium tells it: what brought it are bytes of the answer that the disk had for the command as that ran.
use Rattle.sbp_world.proofs.Words.Std.{◌≡◌, ◌∙◌, refl, sym, ap, subst, IfSome, IsSomeAnd, ◌<◌, ℕ, zero, suc, Bool, false, List, [], ◌∷◌, ◌++◌, length, Option, Some, None}
use Rattle.sbp_world.proofs.Words.Wire.{Cmd, Moment, said, Sending}
use Rattle.sbp_world.proofs.Words.Target.{Machine, Disk, answer_length_of, answer_of}
use Rattle.sbp_world.proofs.Words.Laws.{Answers, before_run, ExecutionLaw, disk_of, Request, appends, request_at}
use Rattle.sbp_world.proofs.Words.World.{request_of, HasLength, IsAnswerBefore, IsAnswerOf, IsDataOf}
use Rattle.std.specs.Prelude.{take}
use Rattle.sbp_journal.specs.declared.note.Note.TheVariants as notes
use Rattle.sbp_laws.specs.AnswerLaw as law
use Rattle.sbp_world.proofs.Lists.AnswersCarriedBefore.{WereDataWritten}
use Rattle.sbp_world.proofs.Lists.AnswersCarriedTaken.{AreAnswersOf}
use Rattle.sbp_world.proofs.Lists.AnswerChecks.{told_none}
use Rattle.sbp_world.proofs.Lists.AnswerDisks.{answer_before}
use Rattle.sbp_world.proofs.Lists.AnswerRuns.{answer_on}
use Rattle.sbp_world.proofs.Lists.DataServed.{moved}
use Rattle.sbp_world.proofs.Lists.DataSlots.{request_lasts}
use Rattle.sbp_world.proofs.Lists.Passing.{PassLaw}
use Rattle.sbp_world.proofs.Lists.UnrunTerms.{passes_from}
use Rattle.sbp_world.proofs.Common.{moments_split, no_bytes}

same_disk : (a b : Disk) → Some a ≡ Some b → a ≡ b
same_disk a b e = cc

-- a front as long as all is all
take_whole : (count : ℕ) (xs : List ℕ) → length (take count xs) ≡ length xs → take count xs ≡ xs
take_whole zero [] e = refl
take_whole zero (x ∷ xs) e = absurd (let z : 0 ≡ suc (length xs) = e in cc)
take_whole (suc count) [] e = refl
take_whole (suc count) (x ∷ xs) e = ap (λ ys. x ∷ ys) (take_whole count xs (let z : suc (length (take count xs)) ≡ suc (length xs) = e in cc))

module _ (start : List Disk) (wild : ℕ → Bool) (i : ℕ) (own : wild i ≡ false) (past : List Moment) (passes : PassLaw wild past) (runs_so : ExecutionLaw wild start past) (n k : ℕ) where
  -- ---- a machine that wrote data of the ORB had the answer that the medium told
  module _ (serial slot : ℕ) (packet : Sending) (d : IsDataOf start past i n k serial packet slot) where
    abbrev m : Machine
    m = d.was.machine

    abbrev leaves : Moment
    leaves = said (notes.Sent serial packet.generation packet.from packet.to packet.bytes)

    was_told : IsAnswerOf start past i n k m.answer
    was_told =
        answer_on start (d.later ++ leaves ∷ []) d.before past (sym (moments_split d.later (leaves ∷ []) d.before) ∙ d.is) i n k m.answer
        (moved i past n k serial slot packet d (λ a b. IsAnswerOf start d.before i a b m.answer) d.was.told)

    as_before : IsAnswerBefore start past i n k m.answer
    as_before = answer_before start wild past i n k m.answer own runs_so was_told

    abbrev x : IsAnswerOf start past i n k m.answer
    x = as_before.of

    abbrev ran : Moment
    ran = said (notes.Ran i (Some n) (Some k) x.unit x.cdb x.bytes x.check)

    passed : PassLaw wild (x.later ++ ran ∷ x.before)
    passed = subst (PassLaw wild) (sym x.is) passes

    below : k < appends x.before i n
    below = ((passes_from wild x.later (ran ∷ x.before) passed).0 own).next.turn.appended

    request_same : request_at past i n k ≡ request_at x.before i n k
    request_same = ap (λ h. request_at h i n k) (sym x.is) ∙ request_lasts i n k wild x.later (ran ∷ x.before) passed below

    module _ (cmd : Cmd) (request : request_at past i n k ≡ Some (request_of cmd)) (disk : Disk) (medium : before_run start past i n k ≡ Some disk) where
      cdb_same : x.cdb ≡ cmd.cdb
      cdb_same = subst (λ (o : Option Request). IsSomeAnd o (λ r. x.cdb ≡ r.cdb)) (sym request_same ∙ request) as_before.asked

      disk_same : disk_of start x.before x.unit ≡ disk
      disk_same = same_disk (disk_of start x.before x.unit) disk (sym as_before.medium ∙ medium)

      told_here : IfSome (answer_of cmd.cdb disk) (λ told. m.answer ≡ told)
      told_here =
          subst (λ cdb. IfSome (answer_of cdb disk) (λ told. m.answer ≡ told)) cdb_same
          (subst (λ held. IfSome (answer_of x.cdb held) (λ told. m.answer ≡ told)) disk_same x.told)

      size_here : length m.answer ≡ answer_length_of disk.is_bay cmd.cdb
      size_here = x.size ∙ (ap (λ (held : Disk). answer_length_of held.is_bay x.cdb) disk_same ∙ ap (λ cdb. answer_length_of disk.is_bay cdb) cdb_same)

  -- ---- the answer that is taken
  module _ (answer : List ℕ) (h : HasLength start past i n k answer) where
    abbrev IsTold : Type 0
    IsTold = IfSome (answer_of h.cmd.cdb h.disk) (λ told. answer ≡ told)

    -- where data were written
    module _ (w : WereDataWritten start past i n k) (count : ℕ) (brings : (xs : List ℕ) → AreAnswersOf start wild i own past n k xs → answer ≡ take count xs) where
      by_told : (xs : List ℕ) → answer_of h.cmd.cdb h.disk ≡ Some xs → answer ≡ xs
      by_told xs e =
          let each : AreAnswersOf start wild i own past n k xs =
          λ serial slot packet d. subst (λ (o : Option (List ℕ)). IfSome o (λ told. d.was.machine.answer ≡ told)) e (told_here serial slot packet d h.cmd h.request h.disk h.ran) in
          let cut = brings xs each in
          let size : length xs ≡ length answer =
          ap length (sym (each w.serial w.slot w.packet w.of)) ∙ (size_here w.serial w.slot w.packet w.of h.cmd h.request h.disk h.ran ∙ sym h.len) in
          cut ∙ take_whole count xs (ap length (sym cut) ∙ sym size)

      pub told_written : IsTold
      told_written = by (answer_of h.cmd.cdb h.disk) refl
        where
          by : (o : Option (List ℕ)) → answer_of h.cmd.cdb h.disk ≡ o → IfSome o (λ told. answer ≡ told)
          by None e = tt
          by (Some xs) e = by_told xs e

    -- where it has no bytes
    pub told_empty : answer_length_of h.disk.is_bay h.cmd.cdb ≡ 0 → IsTold
    told_empty none =
        subst (λ xs. IfSome (answer_of h.cmd.cdb h.disk) (λ told. xs ≡ told)) (sym (no_bytes answer (h.len ∙ none))) (told_none h.cmd.cdb h.disk none)

    pub answers : IsTold → Answers start past i n k answer
    answers told =
        subst (λ (o : Option Request). IsSomeAnd o (λ request. IsSomeAnd (before_run start past i n k) (λ disk. law.IsAnswerOf request disk answer))) (sym h.request)
        (subst (λ (o : Option Disk). IsSomeAnd o (λ disk. law.IsAnswerOf (request_of h.cmd) disk answer)) (sym h.ran) (record { len = h.len; told = told }))
