-- The ORBs of a list are those of consecutive submissions, and the submissions with a status are a front.
use Rattle.std.proofs.Common.{◌≡◌, ◌∙◌, ℕ, zero, suc, ◌+◌, ◌<◌, Bool, true, false, cond, nat_eq, nat_lt, List, [], ◌∷◌, Option, Some, None, refl, sym, ap, subst, arith}
use Rattle.std.specs.Prelude.{◌==◌, ◌&&◌, if◌then◌else◌, IsSomeAnd}
use Rattle.std.proofs.lemmas.Bool.Decides.{nat_tests}
use Rattle.sbp_journal.specs.Run.{Moment, said}
use Rattle.sbp_journal.specs.declared.note.NoteBuffer.{NoteBuffer}
use Rattle.sbp_journal.specs.declared.note.Note.TheVariants as notes
use Rattle.sbp_laws.specs.Actions.{list_for}
use Rattle.sbp_laws.specs.Lists.{is_list, is_none_taken, present_list, taken_at, waits_in}
use Rattle.sbp_laws.specs.Terms.{appends, lists}
use Rattle.sbp_world.specs.Lists.TakenTurns.{is_failed, takes_in}
use Rattle.retry_queue.specs.Steps.{Step, of_world, submitted, Submission, EachStep, command_for, submissions, world, write_at}
use Rattle.retry_queue.specs.Known.{begins_list, known}
use Rattle.retry_queue.specs.Pump.{next, next_by}
use Rattle.retry_queue.specs.Journals.{IsAppended, IsJournal, IsOf, MadeAt}
use Rattle.retry_queue.specs.Parts.{ConsecutiveAt}
use Rattle.retry_queue.specs.Law.{OrderKept}
use Rattle.retry_queue.proofs.Cases.{no_other, not_first, not_own, skips}
use Rattle.retry_queue.proofs.Places.{Places, begins, goes_on, is_at_first, leaves_list, none_begun, submits, takes}
use Rattle.retry_queue.proofs.Pumps.{IsDue, is_due, is_made}

-- what stood before a step is a journal
pub journal_before : (step : Step) (past : List Step) → IsJournal (step ∷ past) → IsJournal past
journal_before (of_world moment) past j = record { made = j.made.1; follows = j.follows.1; brought = j.brought.1; plain = j.plain.1 }
journal_before _ past j = record { made = j.made.1; follows = j.follows.1; brought = j.brought.1; plain = j.plain }

-- the lists and the submissions behind some steps
abbrev pub PlacesAt : List Step → Type 0
PlacesAt past = Places (known past) (submissions past) (appends (world past) 0) (takes_in (world past) 0) (is_failed (world past) 0) (lists (world past) 0) (present_list (world past) 0)

-- ---- an ORB is appended
-- the present list, where there is one, is that of an ORB which is appended; where there is none the next one begins
list_given : (present : Option ℕ) (past : List Moment) (n m : ℕ) → n ≡ list_for past 0 present → present ≡ Some m → n ≡ m
list_given present past n m e f = e ∙ ap (list_for past 0) f

record Appending (past : List Step) (n k : ℕ) (cdb : List ℕ) (buffer : NoteBuffer) : Type 0 where
  places : PlacesAt (of_world (said (notes.Append 0 n k cdb buffer)) ∷ past)
  consecutive : ConsecutiveAt (of_world (said (notes.Append 0 n k cdb buffer))) past

-- a submission that is known by its number
at_number : (past : List Step) (q p : ℕ) (cdb : List ℕ) (buffer : NoteBuffer) (w : Submission) → write_at past q ≡ Some w → q ≡ p → IsOf (command_for w) cdb buffer
    → IsSomeAnd (write_at past p) (λ write. IsOf (command_for write) cdb buffer)
at_number past q p cdb buffer w e f of = subst (λ (o : Option Submission). IsSomeAnd o (λ write. IsOf (command_for write) cdb buffer)) (sym e ∙ ap (write_at past) f) of

-- behind others it is of the present list
module _ (past : List Step) (n : ℕ) (cdb : List ℕ) (buffer : NoteBuffer) (here : PlacesAt past) where
  pub still_present : (j : ℕ) → IsAppended past 0 n (suc j) cdb buffer → present_list (world past) 0 ≡ Some n
  still_present j a = by (present_list (world past) 0) refl
    where
      by : (present : Option ℕ) → present_list (world past) 0 ≡ present → present ≡ Some n
      by None e =
          let first : n ≡ lists (world past) 0 = a.list ∙ ap (list_for (world past) 0) e in
          let last : suc n ≡ lists (world past) 0 = sym (not_first j n (suc n)) ∙ a.next.list in
          absurd (omega (arith, first, last))
      by (Some m) e = ap Some (sym (list_given (present_list (world past) 0) (world past) n m a.list e))

module _ (past : List Step) (n : ℕ) (cdb : List ℕ) (buffer : NoteBuffer) (here : PlacesAt past) (made : EachStep MadeAt past) where
  -- the first one of a list
  first_appended : IsAppended past 0 n 0 cdb buffer → Appending past n 0 cdb buffer
  first_appended a = by (present_list (world past) 0) refl
    where
      due : IsDue past cdb buffer
      due = is_due past cdb buffer a.asked made

      by : (present : Option ℕ) → present_list (world past) 0 ≡ present → Appending past n 0 cdb buffer
      by None e =
          let at : next past ≡ (known past).done = ap (λ p. next_by p (known past) (appends (world past) 0)) e in
          let few : (known past).done < submissions past = is_made past (known past).done due.write (ap (write_at past) (sym at) ∙ due.is) in
          let first = is_at_first (known past) n in
          record {
            places = begins (known past) (submissions past) (appends (world past) 0) (takes_in (world past) 0) (is_failed (world past) 0) (lists (world past) 0) (present_list (world past) 0) here n a.next.list (sym a.next.number) few;
            consecutive = at_number past (next past) ((begins_list n (known past)).first n + 0) cdb buffer due.write due.is (omega (arith, at, first)) due.of;
          }
      by (Some m) e =
          let same : n ≡ m = list_given (present_list (world past) 0) (world past) n m a.list e in
          let last : suc m ≡ lists (world past) 0 = here.latest m e in
          let next = a.next.list in
          absurd (omega (arith, same, last, next))

  -- one behind others
  later_appended : (j : ℕ) → IsAppended past 0 n (suc j) cdb buffer → Appending past n (suc j) cdb buffer
  later_appended j a = by (present_list (world past) 0) refl
    where
      due : IsDue past cdb buffer
      due = is_due past cdb buffer a.asked made

      last : suc n ≡ lists (world past) 0
      last = sym (not_first j n (suc n)) ∙ a.next.list

      by : (present : Option ℕ) → present_list (world past) 0 ≡ present → Appending past n (suc j) cdb buffer
      by None e =
          let first : n ≡ lists (world past) 0 = a.list ∙ ap (list_for (world past) 0) e in
          absurd (let l = last in omega (arith, first, l))
      by (Some m) e =
          let same : n ≡ m = list_given (present_list (world past) 0) (world past) n m a.list e in
          let at : next past ≡ (known past).first n + appends (world past) 0 n = ap (λ p. next_by p (known past) (appends (world past) 0)) (e ∙ ap Some (sym same)) in
          let room : (known past).first n + appends (world past) 0 n < submissions past = is_made past ((known past).first n + appends (world past) 0 n) due.write (ap (write_at past) (sym at) ∙ due.is) in
          let number = a.next.number in
          record {
            places = subst (λ count. Places (known past) (submissions past) (λ m. cond (nat_eq m n) (suc (appends (world past) 0 n)) (appends (world past) 0 m)) (takes_in (world past) 0) (is_failed (world past) 0) count (Some n)) (sym (not_first j (suc (lists (world past) 0)) (lists (world past) 0)))
                (subst (λ present. Places (known past) (submissions past) (λ m. cond (nat_eq m n) (suc (appends (world past) 0 n)) (appends (world past) 0 m)) (takes_in (world past) 0) (is_failed (world past) 0) (lists (world past) 0) present) (e ∙ ap Some (sym same))
                (goes_on (known past) (submissions past) (appends (world past) 0) (takes_in (world past) 0) (is_failed (world past) 0) (lists (world past) 0) (present_list (world past) 0) here n last room));
            consecutive = at_number past (next past) ((known past).first n + suc j) cdb buffer due.write due.is (at ∙ ap (λ x. (known past).first n + x) (sym number)) due.of;
          }

  appended : (k : ℕ) → IsAppended past 0 n k cdb buffer → Appending past n k cdb buffer
  appended zero a = first_appended a
  appended (suc j) a = later_appended j a

-- ---- a status is taken
both : (b c d : Bool) → (b && c && d) ≡ true → (b ≡ true) × (c ≡ true)
both true true d e = (refl, refl)
both true false d e = absurd (cc e)
both false c d e = absurd (cc e)

present_is : (present : Option ℕ) (n : ℕ) → is_list present n ≡ true → present ≡ Some n
present_is None n e = absurd (cc e)
present_is (Some m) n e = ap Some (grind (arith, nat_tests))

pub record Waits (past : List Moment) (n k : ℕ) : Type 0 where
  pub present : present_list past 0 ≡ Some n
  pub appended : k < appends past 0 n

pub waits_so : (past : List Moment) (n k : ℕ) → waits_in past 0 n k ≡ true → Waits past n k
waits_so past n k e =
    let split = both (is_list (present_list past 0) n) (nat_lt k (appends past 0 n)) (is_none_taken (taken_at past 0 n k)) e in
    let less = split.1 in
    record { present = present_is (present_list past 0) n split.0; appended = grind (arith, nat_tests) }

-- ---- no other initiator has lists
pub record HasNone (past : List Step) (i : ℕ) : Type 0 where
  pub unbegun : lists (world past) i ≡ 0
  pub absent : present_list (world past) i ≡ None

none_if : (b : Bool) (present : Option ℕ) → present ≡ None → cond b None present ≡ None
none_if true present e = refl
none_if false present e = e

pub has_none : (past : List Step) → IsJournal past → (i : ℕ) → HasNone past (suc i)
has_none [] j i = record { unbegun = refl; absent = refl }
has_none (of_world (said (notes.Append zero n k cdb buffer)) ∷ past) j i =
    let before = has_none past (journal_before _ past j) i in
    record {
      unbegun = skips (nat_eq (suc i) 0) (if k == 0 then suc (lists (world past) 0) else lists (world past) 0) (lists (world past) (suc i)) (no_other i) ∙ before.unbegun;
      absent = skips (nat_eq (suc i) 0) (Some n) (present_list (world past) (suc i)) (no_other i) ∙ before.absent;
    }
has_none (of_world (said (notes.Append (suc l) n k cdb buffer)) ∷ past) j i = absurd (not_own l j.brought.0.own)
has_none (of_world (said (notes.Drop l n)) ∷ past) j i =
    let before = has_none past (journal_before _ past j) i in
    record { unbegun = before.unbegun; absent = none_if (nat_eq (suc i) l) (present_list (world past) (suc i)) before.absent }
has_none (_ ∷ past) j i = let before = has_none past (journal_before _ past j) i in record { unbegun = before.unbegun; absent = before.absent }

-- so none of them takes a status
not_listed : (present : Option ℕ) (n : ℕ) (b c : Bool) → present ≡ None → (is_list present n && b && c) ≡ true → ⊥
not_listed None n b c e f = cc f
not_listed (Some m) n b c e f = cc e

pub none_taken : (past : List Step) → IsJournal past → (i n k : ℕ) → waits_in (world past) (suc i) n k ≡ true → ⊥
none_taken past j i n k e =
    not_listed (present_list (world past) (suc i)) n (nat_lt k (appends (world past) (suc i) n)) (is_none_taken (taken_at (world past) (suc i) n k)) (has_none past j i).absent e

-- ---- the invariant
back_if : (b : Bool) (p : Option ℕ) (m : ℕ) → cond b None p ≡ Some m → p ≡ Some m
back_if true p m e = absurd (cc e)
back_if false p m e = e

pub places_at : (past : List Step) → IsJournal past → PlacesAt past
places_at [] j = none_begun
places_at (of_world (said (notes.Append zero n k cdb buffer)) ∷ past) j =
    (appended past n cdb buffer (places_at past (journal_before _ past j)) j.made.1 k j.brought.0).places
places_at (of_world (said (notes.Append (suc i) n k cdb buffer)) ∷ past) j = absurd (not_own i j.brought.0.own)
places_at (of_world (said (notes.Taken zero n k status answer)) ∷ past) j =
    let here = places_at past (journal_before _ past j) in
    let waits = waits_so (world past) n k j.brought.0 in
    let own = j.plain.0 in
    takes (known past) (submissions past) (appends (world past) 0) (takes_in (world past) 0) (is_failed (world past) 0) (lists (world past) 0) (present_list (world past) 0) here n k status
    (here.latest n waits.present) own.turn.number waits.appended own.turn.alive own.plain
places_at (of_world (said (notes.Taken (suc i) n k status answer)) ∷ past) j = absurd (none_taken past (journal_before _ past j) i n k j.brought.0)
places_at (of_world (said (notes.Drop i n)) ∷ past) j =
    leaves_list (known past) (submissions past) (appends (world past) 0) (takes_in (world past) 0) (is_failed (world past) 0) (lists (world past) 0) (present_list (world past) 0) (places_at past (journal_before _ past j))
    (cond (nat_eq 0 i) None (present_list (world past) 0)) (λ m e. back_if (nat_eq 0 i) (present_list (world past) 0) m e)
places_at (submitted lba bytes ∷ past) j = submits (known past) (submissions past) _ _ _ _ _ (places_at past (journal_before _ past j))
places_at (_ ∷ past) j = places_at past (journal_before _ past j)

-- ---- the law
pub consecutive : (past : List Step) → IsJournal past → EachStep ConsecutiveAt past
consecutive [] j = tt
consecutive (of_world (said (notes.Append zero n k cdb buffer)) ∷ past) j =
    let before = journal_before _ past j in
    ((appended past n cdb buffer (places_at past before) j.made.1 k j.brought.0).consecutive, consecutive past before)
consecutive (of_world (said (notes.Append (suc i) n k cdb buffer)) ∷ past) j = absurd (not_own i j.brought.0.own)
consecutive (_ ∷ past) j = (tt, consecutive past (journal_before _ past j))

pub keeps_order : OrderKept
keeps_order past j = record { consecutive = consecutive past j; front = (places_at past j).front }
