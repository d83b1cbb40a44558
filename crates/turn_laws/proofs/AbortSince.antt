-- An ORB is marked as aborted from the moment on at which an abort with 00 of it stands: that moment, read off the history, whose it is, and what the cause law asks of it.
use Rattle.std.proofs.Common.{◌≡◌, ◌∙◌, refl, sym, ap, subst, ℕ, suc, ◌==◌, ◌&&◌, ◌||◌, nat_eq, Bool, true, false, cond, List, [], ◌∷◌, ◌++◌, Option, Some, None}
use Rattle.orb_layout.specs.declared.status.StatusKind.{StatusKind}
use Rattle.rbc_disk.specs.Disk.{Disk}
use Rattle.sbp_journal.specs.Run.{Moment, said}
use Rattle.sbp_journal.specs.declared.note.Note.TheVariants as notes
use Rattle.sbp_journal.specs.declared.operation.FunctionWord.TheVariants as words
use Rattle.sbp_laws.specs.Aborts.{aborts}
use Rattle.sbp_laws.specs.CauseLaw.{abort_names, is_marked, is_none_status, is_orb_of}
use Rattle.sbp_laws.specs.Lists.{named, orb}
use Rattle.sbp_laws.specs.Targets.{target_at}
use Rattle.sbp_laws.specs.Terms.{ended_status, runs}
use Rattle.sbp_world.proofs.Common.{same_number, untrue}

-- ---- where it stands
module _ (start : List Disk) (q address : ℕ) where
  pub record SinceAbort (past : List Moment) : Type 0 where
    pub later : List Moment
    pub before : List Moment
    pub i : ℕ
    pub subject : ℕ
    pub status : ℕ
    pub login : Option ℕ
    pub is : later ++ said (notes.Managed i words.Abort subject status login) ∷ before ≡ past
    pub zero : (status == 0) ≡ true
    pub aborted : aborts (target_at start before) q address (target_at start before).decided ≡ true

  abbrev one_later : (moment : Moment) (past : List Moment) → SinceAbort past → SinceAbort (moment ∷ past)
  one_later moment past s = record {
    later = moment ∷ s.later;
    before = s.before;
    i = s.i;
    subject = s.subject;
    status = s.status;
    login = s.login;
    is = ap (λ ms. moment ∷ ms) s.is;
    zero = s.zero;
    aborted = s.aborted;
  }

  -- ---- of whom it is, and by which name: what a turn keeps that keeps the initiator of the place and what was prepared in the slot
  pub record IsKnown (past : List Moment) (i : ℕ) : Type 0 where
    pub since : SinceAbort past
    pub mine : since.i ≡ i
    pub name_is : abort_names since.before i (target_at start since.before).decided ≡ named past i address

  since_later : (back past : List Moment) → SinceAbort past → SinceAbort (back ++ past)
  since_later [] past s = s
  since_later (moment ∷ back) past s = one_later moment (back ++ past) (since_later back past s)

  same_before : (back past : List Moment) (s : SinceAbort past) → ((since_later back past s).before ≡ s.before) × ((since_later back past s).i ≡ s.i)
  unfolding since_later
  same_before [] past s = (refl, refl)
  same_before (moment ∷ back) past s = same_before back past s

  pub known_later : (back past : List Moment) (i : ℕ) → IsKnown past i → named (back ++ past) i address ≡ named past i address → IsKnown (back ++ past) i
  known_later back past i k same =
      let b = same_before back past k.since in
      record {
        since = since_later back past k.since;
        mine = b.1 ∙ k.mine;
        name_is = ap (λ ms. abort_names ms i (target_at start ms).decided) b.0 ∙ (k.name_is ∙ sym same);
      }

-- ---- it stays marked
either_second : (a b : Bool) → b ≡ true → (a || b) ≡ true
either_second true b e = refl
either_second false b e = e

all_five : (a b c d e r : Bool) → a ≡ true → b ≡ true → c ≡ true → d ≡ true → e ≡ true → ((a && b && c && d && e) || r) ≡ true
all_five true true true true true r ea eb ec ed ee = refl
all_five false b c d e r ea eb ec ed ee = untrue ea
all_five true false c d e r ea eb ec ed ee = untrue eb
all_five true true false d e r ea eb ec ed ee = untrue ec
all_five true true true false e r ea eb ec ed ee = untrue ed
all_five true true true true false r ea eb ec ed ee = untrue ee

module _ (start : List Disk) (i n k : ℕ) where
  mark_stays : (moment : Moment) (past : List Moment) → is_marked start past i n k ≡ true → is_marked start (moment ∷ past) i n k ≡ true
  mark_stays (said (notes.Managed j words.Abort subject status login)) past e = either_second _ (is_marked start past i n k) e
  mark_stays moment past e = e

  pub marked_later : (later past : List Moment) → is_marked start past i n k ≡ true → is_marked start (later ++ past) i n k ≡ true
  marked_later [] past e = e
  marked_later (moment ∷ later) past e = mark_stays moment (later ++ past) (marked_later later past e)

  -- ---- what has neither run nor ended had not before
  unrun_one : (x y z : Bool) (r more : ℕ) → cond x (cond y (cond z (suc more) r) r) r ≡ 0 → r ≡ 0
  unrun_one true true true r more e = absurd (let no : suc more ≡ 0 = e in cc)
  unrun_one true true false r more e = e
  unrun_one true false z r more e = e
  unrun_one false y z r more e = e

  unrun_before : (moment : Moment) (past : List Moment) → runs (moment ∷ past) i n k ≡ 0 → runs past i n k ≡ 0
  unrun_before (said (notes.Ran j (Some m) (Some l) unit cdb bytes check)) past e = unrun_one (nat_eq i j) (nat_eq n m) (nat_eq k l) (runs past i n k) (runs past j m l) e
  unrun_before moment past e = e

  unended_one : (x y z : Bool) (r : Option StatusKind) (status : StatusKind) → cond x (cond y (cond z (Some status) r) r) r ≡ None → r ≡ None
  unended_one true true true r status e = absurd (let no : Some status ≡ None = e in cc)
  unended_one true true false r status e = e
  unended_one true false z r status e = e
  unended_one false y z r status e = e

  unended_before : (moment : Moment) (past : List Moment) → ended_status (moment ∷ past) i n k ≡ None → ended_status past i n k ≡ None
  unended_before (said (notes.Ended j (Some m) (Some l) status)) past e = unended_one (nat_eq i j) (nat_eq n m) (nat_eq k l) (ended_status past i n k) status e
  unended_before moment past e = e

  unrun_then : (later past : List Moment) → runs (later ++ past) i n k ≡ 0 → runs past i n k ≡ 0
  unrun_then [] past e = e
  unrun_then (moment ∷ later) past e = unrun_then later past (unrun_before moment (later ++ past) e)

  unended_then : (later past : List Moment) → ended_status (later ++ past) i n k ≡ None → ended_status past i n k ≡ None
  unended_then [] past e = e
  unended_then (moment ∷ later) past e = unended_then later past (unended_before moment (later ++ past) e)

  -- ---- where an abort of it by its initiator stands, it is marked
  mark_begins : (past : List Moment) (subject status : ℕ) (login : Option ℕ) → (status == 0) ≡ true → abort_names past i (target_at start past).decided ≡ Some (orb n k)
      → runs past i n k ≡ 0 → ended_status past i n k ≡ None → is_marked start (said (notes.Managed i words.Abort subject status login) ∷ past) i n k ≡ true
  mark_begins past subject status login zero named unrun unended =
      all_five (i == i) (status == 0) (is_orb_of (abort_names past i (target_at start past).decided) n k) (runs past i n k == 0) (is_none_status (ended_status past i n k)) (is_marked start past i n k)
      (same_number i) zero
      (ap (λ one. is_orb_of one n k) named ∙ (ap (λ b. b && (k == k)) (same_number n) ∙ same_number k))
      (ap (λ r. r == 0) unrun) (ap is_none_status unended)

  -- so an ORB that has neither run nor ended is marked where its agent has it aborted
  pub marked_since : (q address : ℕ) (past : List Moment) → IsKnown start q address past i → named past i address ≡ Some (orb n k) → runs past i n k ≡ 0 → ended_status past i n k ≡ None
      → is_marked start past i n k ≡ true
  marked_since q address past known name_is unrun unended =
      let s = known.since in
      let back = said (notes.Managed s.i words.Abort s.subject s.status s.login) ∷ s.before in
      let run_then = unrun_then s.later back (ap (λ ms. runs ms i n k) s.is ∙ unrun) in
      let end_then = unended_then s.later back (ap (λ ms. ended_status ms i n k) s.is ∙ unended) in
      let begins = mark_begins s.before s.subject s.status s.login s.zero (known.name_is ∙ name_is) run_then end_then in
      subst (λ ms. is_marked start ms i n k ≡ true) s.is
      (marked_later s.later back (subst (λ j. is_marked start (said (notes.Managed j words.Abort s.subject s.status s.login) ∷ s.before) i n k ≡ true) (sym known.mine) begins))
