-- What the ORBs of the latest list ask for: each the write of its submission.
use Rattle.std.proofs.Common.{arith, ◌≡◌, ◌∙◌, refl, sym, ap, subst, ℕ, zero, suc, ◌+◌, nat_eq, Bool, true, false, cond, List, [], ◌∷◌, Option, Some, None}
use Rattle.std.specs.Prelude.{IsSomeAnd}
use Rattle.sbp_base.specs.Update.{upd}
use Rattle.orb_layout.specs.declared.status.StatusKind.{StatusKind}
use Rattle.rbc_disk.specs.Disk.{Disk}
use Rattle.sbp_journal.specs.Run.{said}
use Rattle.sbp_journal.specs.declared.note.Note.TheVariants as notes
use Rattle.sbp_laws.specs.Terms.{Request, appends, lists, request_at}
use Rattle.retry_queue.specs.Steps.{EachStep, Step, Submission, command_for, of_world, submissions, submitted, world, write_at}
use Rattle.retry_queue.specs.Known.{Known, begins_list, finishes, is_final, known}
use Rattle.retry_queue.specs.Journals.{IsOf, IsSubmission, MadeAt}
use Rattle.retry_queue.proofs.Cases.{by_one, by_two, not_first, not_own, older, some_is}
use Rattle.retry_queue.proofs.Order.{consecutive}
use Rattle.retry_queue.proofs.Owners.{IsLawfulJournal, lawful_before, orbs_of}
use Rattle.retry_queue.proofs.Pumps.{is_made}

-- ---- submissions have their size
sized_one : (lba : ℕ) (bytes : List ℕ) (w : Submission) → IsSubmission lba bytes → Some (record { lba = lba; bytes = bytes }) ≡ Some w → IsSubmission w.lba w.bytes
sized_one lba bytes w s e = subst (λ (x : Submission). IsSubmission x.lba x.bytes) (some_is (record { lba = lba; bytes = bytes }) w e) s

pub sized : (past : List Step) → EachStep MadeAt past → (q : ℕ) (w : Submission) → write_at past q ≡ Some w → IsSubmission w.lba w.bytes
sized [] made q w e = absurd (cc e)
sized (submitted lba bytes ∷ past) made q w e =
    by_one (λ b. cond b (Some (record { lba = lba; bytes = bytes })) (write_at past q) ≡ Some w → IsSubmission w.lba w.bytes) q (submissions past)
    (λ same. sized_one lba bytes w made.0.sized) (λ differ. sized past made.1 q w) e
sized (_ ∷ past) made q w e = sized past made.1 q w e

-- a submission that was made stays
pub kept : (past : List Step) (q : ℕ) (x : Submission) (w : Submission) → write_at past q ≡ Some w → upd (write_at past) (submissions past) (Some x) q ≡ write_at past q
kept past q x w e = older (write_at past) (submissions past) (Some x) q (is_made past q w e)

-- ---- what an ORB asks for

-- a request is that of a submission
abbrev pub IsFor : Option Submission → Request → Type 0
IsFor write request = IsSomeAnd write (λ w. IsOf (command_for w) request.cdb request.buffer)

pub record Found (write : Option Submission) (request : Request) : Type 0 where
  pub of : Submission
  pub is : write ≡ Some of
  pub asks : IsOf (command_for of) request.cdb request.buffer

pub found : (write : Option Submission) (request : Request) → IsFor write request → Found write request
found None request f = absurd f
found (Some w) request f = record { of = w; is = refl; asks = f }

abbrev Asks : (ℕ → ℕ) → (ℕ → Option Submission) → (ℕ → ℕ → Option Request) → ℕ → Type 0
Asks first W Q lists = (n k : ℕ) (request : Request) → suc n ≡ lists → Q n k ≡ Some request → IsFor (W (first n + k)) request

abbrev pub AsksAt : List Step → Type 0
AsksAt past = Asks (known past).first (write_at past) (request_at (world past) 0) (lists (world past) 0)

first_stays : (n k : ℕ) (status : StatusKind) (K : Known) → (finishes n k status K).first ≡ K.first
first_stays n k status K = by (is_final status)
  where
    by : (b : Bool) → (cond b (record K { done = suc K.done; has = upd K.has (K.first n + k) true }) K).first ≡ K.first
    by true = refl
    by false = refl

-- an ORB more of a list
module _ (first : ℕ → ℕ) (W : ℕ → Option Submission) (Q : ℕ → ℕ → Option Request) (n k : ℕ) (here : Request) (f : IsFor (W (first n + k)) here) (m l : ℕ) (request : Request) where
  asks_more : (Q m l ≡ Some request → IsFor (W (first m + l)) request) → cond (nat_eq m n) (cond (nat_eq l k) (Some here) (Q m l)) (Q m l) ≡ Some request → IsFor (W (first m + l)) request
  asks_more before = by_two (λ b c. cond b (cond c (Some here) (Q m l)) (Q m l) ≡ Some request → IsFor (W (first m + l)) request) m n l k
      (λ e g z. subst (IsFor (W (first m + l))) (some_is here request z) (subst (λ q. IsFor (W q) here) (sym (ap (λ x. first x + l) e ∙ ap (λ x. first n + x) g)) f))
      (λ e. before) (λ c. before)

module _ (wild : ℕ → Bool) (start : List Disk) (tame : (i : ℕ) → wild i ≡ false) where
  pub asks : (past : List Step) → IsLawfulJournal wild start past → AsksAt past
  asks [] j n k request e f = absurd (cc e)
  asks (submitted lba bytes ∷ past) j n k request e f =
      let before = asks past (lawful_before wild start _ past j) n k request e f in
      let w = found (write_at past ((known past).first n + k)) request before in
      subst (λ (o : Option Submission). IsFor o request) (sym (kept past ((known past).first n + k) (record { lba = lba; bytes = bytes }) w.of w.is)) before
  asks (of_world (said (notes.Append zero n zero cdb buffer)) ∷ past) j m l request e f =
      let before = lawful_before wild start _ past j in
      let a = j.journal.brought.0 in
      let list : n ≡ lists (world past) 0 = a.next.list in
      let last : suc m ≡ suc (lists (world past) 0) = e in
      let none : 0 ≡ appends (world past) 0 n = a.next.number in
      let same : m ≡ n = omega (arith, last, list) in
      asks_more (begins_list n (known past)).first (write_at past) (request_at (world past) 0) n 0 (record { cdb = cdb; buffer = buffer }) (consecutive _ j.journal).0 m l request
      (λ g. absurd (let few = (orbs_of wild start tame past before).requested m l request g in let at : appends (world past) 0 m ≡ appends (world past) 0 n = ap (appends (world past) 0) same in omega (arith, few, at, none))) f
  asks (of_world (said (notes.Append zero n (suc k) cdb buffer)) ∷ past) j m l request e f =
      asks_more (known past).first (write_at past) (request_at (world past) 0) n (suc k) (record { cdb = cdb; buffer = buffer }) (consecutive _ j.journal).0 m l request
      (asks past (lawful_before wild start _ past j) m l request (e ∙ not_first k (suc (lists (world past) 0)) (lists (world past) 0))) f
  asks (of_world (said (notes.Append (suc i) n k cdb buffer)) ∷ past) j m l request e f = absurd (not_own i j.journal.brought.0.own)
  asks (of_world (said (notes.Taken zero n k status answer)) ∷ past) j m l request e f =
      subst (λ (first : ℕ → ℕ). IsFor (write_at past (first m + l)) request) (sym (first_stays n k status (known past))) (asks past (lawful_before wild start _ past j) m l request e f)
  asks (_ ∷ past) j m l request e f = asks past (lawful_before wild start _ past j) m l request e f
