-- Whose each block of unit 0 is: the submission of the last good run that writes it. Where a submission has its status and writes a block,
-- the block is its own or a later one's.
use Rattle.std.proofs.Common.{arith, ◌≡◌, ◌∙◌, refl, sym, ap, subst, ℕ, zero, suc, ◌+◌, ◌<◌, ◌≤◌, nat_eq, Bool, true, false, cond, List, [], ◌∷◌, Option, Some, None}
use Rattle.std.proofs.lemmas.Bool.Decides.{nat_tests}
use Rattle.sbp_base.specs.Update.{upd}
use Rattle.orb_layout.specs.declared.status.StatusKind.{StatusKind}
use Rattle.orb_layout.specs.declared.status.StatusKind.TheVariants as kinds
use Rattle.rbc_disk.specs.Disk.{Disk}
use Rattle.sbp_journal.specs.Run.{said}
use Rattle.sbp_journal.specs.declared.note.Note.TheVariants as notes
use Rattle.sbp_laws.specs.ExecutionLaw.{ExecutionLaw}
use Rattle.sbp_laws.specs.OrderLaw.{OrderLaw}
use Rattle.sbp_laws.specs.StatusLaw.{TakenAt}
use Rattle.sbp_laws.specs.Terms.{appends, ended_status, ends, lists, request_at, runs}
use Rattle.sbp_laws.specs.Lists.{present_list}
use Rattle.sbp_laws.specs.Turns.{EachMoment}
use Rattle.sbp_world.specs.Lists.TakenTurns.{is_failed, takes_in}
use Rattle.retry_queue.specs.Steps.{Step, Submission, of_world, submissions, submitted, world, write_at}
use Rattle.retry_queue.specs.Known.{Known, begins_list, finishes, known, new_known}
use Rattle.retry_queue.specs.Taking.{IsPlain, IsTakenInTurn, all_good, ran_good}
use Rattle.retry_queue.specs.Journals.{IsJournal}
use Rattle.retry_queue.specs.Parts.{covers}
use Rattle.retry_queue.proofs.Cases.{by_two, not_first, not_own, older}
use Rattle.retry_queue.proofs.Order.{PlacesAt, has_none, journal_before, none_taken, places_at, waits_so}
use Rattle.retry_queue.proofs.Places.{Places}
use Rattle.retry_queue.proofs.Runs.{HasRun, OrbsAt, orbs, requested_one}

-- the submission of the last good run that writes a block
abbrev pub owner : List Step → ℕ → Option ℕ
owner [] = λ block. None
owner (of_world (said (notes.Ran zero (Some n) (Some k) unit cdb bytes None)) ∷ past) =
    λ block. cond (covers (write_at past ((known past).first n + k)) block) (Some ((known past).first n + k)) (owner past block)
owner (_ ∷ past) = owner past

-- a block's owner is this submission or a later one, which writes it
pub record IsOwned (W : ℕ → Option Submission) (count : ℕ) (owner : Option ℕ) (p block : ℕ) : Type 0 where
  pub number : ℕ
  pub is : owner ≡ Some number
  pub late : p ≤ number
  pub made : number < count
  pub writes : covers (W number) block ≡ true

-- Of the latest list each submission that ran good owns its blocks, or a later one does; and so does each one that has its status, where all
-- statuses are good.
pub record Owned (K : Known) (count : ℕ) (W : ℕ → Option Submission) (G : ℕ → ℕ → Bool) (good : Bool) (owner : ℕ → Option ℕ) (lists : ℕ) : Type 0 where
  pub ran : (n k block : ℕ) → suc n ≡ lists → G n k ≡ true → covers (W (K.first n + k)) block ≡ true → IsOwned W count (owner block) (K.first n + k) block
  pub own : (p block : ℕ) → good ≡ true → p < K.done → covers (W p) block ≡ true → IsOwned W count (owner block) p block

none_owned : (count : ℕ) (W : ℕ → Option Submission) (owner : ℕ → Option ℕ) → Owned new_known count W (λ n k. false) true owner 0
none_owned count W owner = record { ran = λ n k b e g c. absurd (cc g); own = λ p b g less c. absurd (let none : p < 0 = less in omega arith) }

module _ (K : Known) (count : ℕ) (A T : ℕ → ℕ) (F : ℕ → Bool) (lists : ℕ) (present : Option ℕ) (places : Places K count A T F lists present)
    (W : ℕ → Option Submission) (G : ℕ → ℕ → Bool) (good : Bool) (owner : ℕ → Option ℕ) (h : Owned K count W G good owner lists) where
  -- what is asked of the good runs so far
  module _ (E : ℕ → ℕ) (N : ℕ → ℕ → ℕ) (has_run : (n k : ℕ) → G n k ≡ true → HasRun (A n) (E n) (N n k) k) (served : (n : ℕ) → T n ≤ E n) where
    below : (n k : ℕ) → suc n ≡ lists → k < A n → K.first n + k < count
    below n k last few = let made = (places.tail n last).made in omega (arith, made, few)

    -- ---- a write is submitted
    module _ (w : Submission) where
      owned_still : (o : Option ℕ) (p block : ℕ) → IsOwned W count o p block → IsOwned (upd W count (Some w)) (suc count) o p block
      owned_still o p block i = record {
        number = i.number;
        is = i.is;
        late = i.late;
        made = (let less = i.made in omega (arith, less));
        writes = ap (λ x. covers x block) (older W count (Some w) i.number i.made) ∙ i.writes;
      }

      pub submits_owned : Owned K (suc count) (upd W count (Some w)) G good owner lists
      submits_owned = record {
        ran = λ n k b e g c. owned_still (owner b) (K.first n + k) b (h.ran n k b e g (sym (ap (λ x. covers x b) (older W count (Some w) (K.first n + k) (below n k e (has_run n k g).appended))) ∙ c));
        own = λ p b g less c. owned_still (owner b) p b (h.own p b g less (sym (ap (λ x. covers x b) (older W count (Some w) p (let few = places.few in omega (arith, few, less)))) ∙ c));
      }

    -- ---- a list begins
    pub begins_owned : (n : ℕ) → n ≡ lists → A n ≡ 0 → Owned (begins_list n K) count W G good owner (suc lists)
    begins_owned n e none = record {
      ran = λ m k b same g c. absurd (let few = (has_run m k g).appended in let at : m ≡ n = omega (arith, e, same) in let zero : A m ≡ 0 = ap A at ∙ none in omega (arith, few, zero));
      own = h.own;
    }

    -- ---- a status is taken of an ORB that ran good
    module _ (n k : ℕ) (last : suc n ≡ lists) (turn : k ≡ T n) (alive : F n ≡ false) (ran : G n k ≡ true) where
      at_done : K.done ≡ K.first n + k
      at_done = (places.tail n last).alive alive ∙ ap (λ t. K.first n + t) (sym turn)

      pub takes_owned : Owned (finishes n k kinds.Good K) count W G good owner lists
      takes_owned = record {
        ran = h.ran;
        own = λ p b g less c. by_last p b g (nat_eq p K.done) refl less c;
      }
        where
          by_last : (p b : ℕ) → good ≡ true → (x : Bool) → nat_eq p K.done ≡ x → p < suc K.done → covers (W p) b ≡ true → IsOwned W count (owner b) p b
          by_last p b g true e less c =
              let at : p ≡ K.first n + k = let here = at_done in grind (arith, nat_tests) in
              subst (λ p. IsOwned W count (owner b) p b) (sym at) (h.ran n k b last ran (ap (λ p. covers (W p) b) (sym at) ∙ c))
          by_last p b g false e less c = h.own p b g (grind (arith, nat_tests)) c

    -- ---- a good run
    module _ (n k : ℕ) (last : suc n ≡ lists) (turn : k ≡ E n) (few : k < A n) where
      abbrev now : ℕ → Option ℕ
      now block = cond (covers (W (K.first n + k)) block) (Some (K.first n + k)) (owner block)

      -- owned so far, by one that is not behind this one
      goes_over : (p block : ℕ) → p ≤ K.first n + k → IsOwned W count (owner block) p block → IsOwned W count (now block) p block
      goes_over p block late i = by (covers (W (K.first n + k)) block) refl
        where
          by : (x : Bool) → covers (W (K.first n + k)) block ≡ x → IsOwned W count (cond x (Some (K.first n + k)) (owner block)) p block
          by true e = record { number = K.first n + k; is = refl; late = late; made = below n k last few; writes = e }
          by false e = i

      takes_over : (block : ℕ) → covers (W (K.first n + k)) block ≡ true → IsOwned W count (now block) (K.first n + k) block
      takes_over block e = record { number = K.first n + k; is = ap (λ x. cond x (Some (K.first n + k)) (owner block)) e; late = omega arith; made = below n k last few; writes = e }

      done_before : K.done ≤ K.first n + k
      done_before = by (F n) refl
        where
          by : (x : Bool) → F n ≡ x → K.done ≤ K.first n + k
          by true e = let at = (places.tail n last).dead e in let s = served n in omega (arith, at, s, turn)
          by false e = let at = (places.tail n last).alive e in let s = served n in omega (arith, at, s, turn)

      pub runs_owned : Owned K count W (λ m l. cond (nat_eq m n) (cond (nat_eq l k) true (G m l)) (G m l)) good now lists
      runs_owned = record {
        ran = λ m l block e. by_two (λ b c. cond b (cond c true (G m l)) (G m l) ≡ true → covers (W (K.first m + l)) block ≡ true → IsOwned W count (now block) (K.first m + l) block) m n l k
            (λ same this g c. let at : K.first m + l ≡ K.first n + k = ap (λ x. K.first x + l) same ∙ ap (λ x. K.first n + x) this in subst (λ p. IsOwned W count (now block) p block) (sym at) (takes_over block (ap (λ p. covers (W p) block) (sym at) ∙ c)))
            (λ same g c. before m l block e g c) (λ x g c. before m l block e g c);
        own = λ p block g less c. goes_over p block (let b = done_before in omega (arith, b, less)) (h.own p block g less c);
      }
        where
          before : (m l block : ℕ) → suc m ≡ lists → G m l ≡ true → covers (W (K.first m + l)) block ≡ true → IsOwned W count (now block) (K.first m + l) block
          before m l block e g c =
              let same : m ≡ n = omega (arith, e, last) in
              let first : K.first m ≡ K.first n = ap K.first same in
              let less = (has_run m l g).turn in
              let end : E m ≡ E n = ap E same in
              goes_over (K.first m + l) block (omega (arith, first, less, end, turn)) (h.ran m l block e g c)

-- ---- in every journal

-- with the laws of lists, moment by moment
pub record IsLawfulJournal (wild : ℕ → Bool) (start : List Disk) (past : List Step) : Type 0 where
  pub journal : IsJournal past
  pub order : OrderLaw wild (world past)
  pub execution : ExecutionLaw wild start (world past)
  pub taken : EachMoment (TakenAt wild) (world past)

pub lawful_before : (wild : ℕ → Bool) (start : List Disk) (step : Step) (past : List Step) → IsLawfulJournal wild start (step ∷ past) → IsLawfulJournal wild start past
lawful_before wild start (of_world moment) past j = record { journal = journal_before (of_world moment) past j.journal; order = j.order.1; execution = j.execution.1; taken = j.taken.1 }
lawful_before wild start (submitted lba bytes) past j = record { journal = journal_before (submitted lba bytes) past j.journal; order = j.order; execution = j.execution; taken = j.taken }
lawful_before wild start _ past j = record { journal = journal_before _ past j.journal; order = j.order; execution = j.execution; taken = j.taken }

abbrev pub OwnedAt : List Step → Type 0
OwnedAt past = Owned (known past) (submissions past) (write_at past) (ran_good (world past) 0) (all_good (world past)) (owner past) (lists (world past) 0)

-- no other initiator has a list
pub none_runs : (past : List Step) → IsJournal past → (i n : ℕ) → suc n ≡ lists (world past) (suc i) → ⊥
none_runs past j i n last = let none = (has_none past j i).unbegun in omega (arith, last, none)

module _ (wild : ℕ → Bool) (start : List Disk) (tame : (i : ℕ) → wild i ≡ false) where
  pub orbs_of : (past : List Step) → IsLawfulJournal wild start past → OrbsAt (world past)
  orbs_of past j = orbs wild start tame (world past) j.order j.execution j.taken j.journal.plain

  -- what a status that is taken makes of it
  module _ (past : List Step) (n k : ℕ) (h : OwnedAt past) (orbs : OrbsAt (world past)) (places : PlacesAt past) (last : suc n ≡ lists (world past) 0) (turn : IsTakenInTurn (world past) 0 n k) where
    taken_owned : (status : StatusKind) (answer : List ℕ) → ended_status (world past) 0 n k ≡ Some status → IsPlain status → OwnedAt (of_world (said (notes.Taken 0 n k status answer)) ∷ past)
    taken_owned kinds.Good answer ended plain =
        takes_owned (known past) (submissions past) (appends (world past) 0) (takes_in (world past) 0) (is_failed (world past) 0) (lists (world past) 0) (present_list (world past) 0) places
        (write_at past) (ran_good (world past) 0) (all_good (world past)) (owner past) h (ends (world past) 0) (runs (world past) 0) orbs.ran orbs.served n k last turn.number turn.alive (orbs.ends_good n k ended)
    taken_owned (kinds.Check sense) answer ended plain = record { ran = h.ran; own = λ p b g less c. absurd (cc g) }
    taken_owned (kinds.Illegal meaning) answer ended plain = h
    taken_owned kinds.Failed answer ended plain = h
    taken_owned kinds.Dummy answer ended plain = absurd plain
    taken_owned kinds.Aborted answer ended plain = absurd plain
    taken_owned (kinds.Management meaning) answer ended plain = absurd plain

  pub owned : (past : List Step) → IsLawfulJournal wild start past → OwnedAt past
  owned [] j = none_owned 0 (λ q. None) (λ b. None)
  owned (submitted lba bytes ∷ past) j =
      let before = lawful_before wild start _ past j in
      let o = orbs_of past before in
      submits_owned (known past) (submissions past) (appends (world past) 0) (takes_in (world past) 0) (is_failed (world past) 0) (lists (world past) 0) (present_list (world past) 0) (places_at past before.journal)
      (write_at past) (ran_good (world past) 0) (all_good (world past)) (owner past) (owned past before) (ends (world past) 0) (runs (world past) 0) o.ran o.served (record { lba = lba; bytes = bytes })
  owned (of_world (said (notes.Append zero n zero cdb buffer)) ∷ past) j =
      let before = lawful_before wild start _ past j in
      let o = orbs_of past before in
      let a = j.journal.brought.0 in
      begins_owned (known past) (submissions past) (appends (world past) 0) (takes_in (world past) 0) (is_failed (world past) 0) (lists (world past) 0) (present_list (world past) 0) (places_at past before.journal)
      (write_at past) (ran_good (world past) 0) (all_good (world past)) (owner past) (owned past before) (ends (world past) 0) (runs (world past) 0) o.ran o.served n a.next.list (sym a.next.number)
  owned (of_world (said (notes.Append zero n (suc k) cdb buffer)) ∷ past) j =
      subst (Owned (known past) (submissions past) (write_at past) (ran_good (world past) 0) (all_good (world past)) (owner past)) (sym (not_first k (suc (lists (world past) 0)) (lists (world past) 0)))
      (owned past (lawful_before wild start _ past j))
  owned (of_world (said (notes.Append (suc i) n k cdb buffer)) ∷ past) j = absurd (not_own i j.journal.brought.0.own)
  owned (of_world (said (notes.Taken zero n k status answer)) ∷ past) j =
      let before = lawful_before wild start _ past j in
      let places = places_at past before.journal in
      let waits = waits_so (world past) n k j.journal.brought.0 in
      let own = j.journal.plain.0 in
      taken_owned past n k (owned past before) (orbs_of past before) places (places.latest n waits.present) own.turn status answer (j.taken.0 (tame 0)).ended own.plain
  owned (of_world (said (notes.Taken (suc i) n k status answer)) ∷ past) j = absurd (none_taken past (journal_before _ past j.journal) i n k j.journal.brought.0)
  owned (of_world (said (notes.Ran zero (Some n) (Some k) unit cdb bytes None)) ∷ past) j =
      let before = lawful_before wild start _ past j in
      let o = orbs_of past before in
      let law = j.execution.0 (tame 0) in
      runs_owned (known past) (submissions past) (appends (world past) 0) (takes_in (world past) 0) (is_failed (world past) 0) (lists (world past) 0) (present_list (world past) 0) (places_at past before.journal)
      (write_at past) (ran_good (world past) 0) (all_good (world past)) (owner past) (owned past before) (ends (world past) 0) (runs (world past) 0) o.ran o.served n k (j.order.0 (tame 0)).latest law.0.order
      (requested_one (request_at (world past) 0 n k) _ law.1 (k < appends (world past) 0 n) (o.requested n k))
  owned (of_world (said (notes.Ran (suc i) (Some n) (Some k) unit cdb bytes None)) ∷ past) j = absurd (none_runs past (journal_before _ past j.journal) i n (j.order.0 (tame (suc i))).latest)
  owned (_ ∷ past) j = owned past (lawful_before wild start _ past j)
