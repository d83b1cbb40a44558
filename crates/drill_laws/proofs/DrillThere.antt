-- In a drill no ORB ends as a dummy, and each command runs on the first unit; so where no medium call failed there, each ran well.
use Rattle.std.proofs.Common.{◌≡◌, refl, ap, subst, ℕ, zero, suc, ◌<◌, ◌==◌, ◌&&◌, ◌||◌, Bool, true, false, cond, nat_eq, nat_lt, List, [], ◌∷◌, Option, Some, None, arith}
use Rattle.std.specs.Prelude.{IsSomeAnd}
use Rattle.std.proofs.lemmas.Bool.Decides.{nat_tests}
use Rattle.bus_transactions.specs.Judging.{AreJudged}
use Rattle.orb_layout.specs.declared.status.StatusKind.TheVariants as kinds
use Rattle.rbc_disk.specs.Disk.{Disk}
use Rattle.rbc_disk.specs.Runs.{is_failure}
use Rattle.sbp_journal.specs.Run.{Moment, asked, said}
use Rattle.sbp_journal.specs.declared.event.Event.{Event}
use Rattle.sbp_journal.specs.declared.event.Event.TheVariants as events
use Rattle.sbp_journal.specs.declared.event.Action.TheVariants as actions
use Rattle.sbp_journal.specs.declared.note.Note.TheVariants as notes
use Rattle.sbp_laws.specs.DiskFold.{failed_runs}
use Rattle.sbp_laws.specs.ExecutionLaw.{ExecutionLaw}
use Rattle.sbp_laws.specs.Lawful.{nobody}
use Rattle.sbp_laws.specs.OrderLaw.{OrderLaw}
use Rattle.sbp_laws.specs.SentPackets.{SentAt}
use Rattle.sbp_laws.specs.Terms.{Request, appends, request_at}
use Rattle.sbp_laws.specs.Turns.{EachMoment}
use Rattle.sbp_world.specs.Lists.LoginUnits.{RunsOnUnits, asks_unit, is_asked_unit}
use Rattle.sbp_world.specs.Lists.PlainStatuses.{NoneDummied, NoneEndsDummy}
use Rattle.drill_laws.specs.DrillGood.{IsDeathlessAt, IsUndummiedAt, RanWell}
use Rattle.drill_laws.specs.DrillLines.{IsDrillLine}
use Rattle.drill_laws.specs.DrillRan.{IsUncheckedAt, RanThereAt}
use Rattle.drill_laws.proofs.DrillMoments.{DrillAt, MayAsk}
use Rattle.drill_laws.proofs.DrillRan.{CommandAt}
use Rattle.drill_laws.proofs.DrillWire.{is_quiet}

-- ---- what was appended is of one of the two initiators
abbrev AreInside : List Moment → Type 0
AreInside past = (i n : ℕ) → 0 < appends past i n → i < 2

still_some : (past : List Moment) (j m i n : ℕ) → 0 < appends past i n → 0 < cond (nat_eq i j) (cond (nat_eq n m) (suc (appends past j m)) (appends past i n)) (appends past i n)
still_some past j m i n some = by (nat_eq i j) (nat_eq n m)
  where
    by : (b c : Bool) → 0 < cond b (cond c (suc (appends past j m)) (appends past i n)) (appends past i n)
    by true true = omega arith
    by true false = some
    by false c = some

requested_some : (past : List Moment) (i n k : ℕ) (r : Request) → request_at past i n k ≡ Some r → 0 < appends past i n
requested_some [] i n k r e = absurd (let no : None ≡ Some r = e in cc no)
requested_some (said (notes.Append j m l cdb buffer) ∷ past) i n k r e = by (requested_some past i n k r) (nat_eq i j) (nat_eq n m) (nat_eq k l) e
  where
    by : (request_at past i n k ≡ Some r → 0 < appends past i n) → (b c d : Bool) → cond b (cond c (cond d (Some (record { cdb = cdb; buffer = buffer })) (request_at past i n k)) (request_at past i n k)) (request_at past i n k) ≡ Some r → 0 < cond b (cond c (suc (appends past j m)) (appends past i n)) (appends past i n)
    by old true true d e = omega arith
    by old true false d e = old e
    by old false c d e = old e
requested_some (_ ∷ past) i n k r e = requested_some past i n k r e

-- ---- dummies
pub none_dummied : (past : List Moment) → EachMoment CommandAt past → (i : ℕ) → NoneDummied past i
none_dummied [] each i n k = refl
none_dummied (said (notes.Dummied j m l) ∷ past) each i n k = absurd each.0
none_dummied (asked line event ∷ past) each i n k = none_dummied past each.1 i n k
none_dummied (said _ ∷ past) each i n k = none_dummied past each.1 i n k

neither : (i : ℕ) → i < 2 → (i ≡ 0 → ⊥) → (i ≡ 1 → ⊥) → ⊥
neither zero small a b = a refl
neither (suc zero) small a b = b refl
neither (suc (suc i)) small a b = omega (arith, small)

pub undummied : (past : List Moment) → AreInside past → OrderLaw nobody past → NoneEndsDummy past 0 → NoneEndsDummy past 1 → EachMoment IsUndummiedAt past
undummied [] inside order a b = tt
undummied (said (notes.Ended i (Some n) (Some k) kinds.Dummy) ∷ past) inside order a b =
    let below = (order.0 refl).appended in absurd (neither i (inside i n (omega (arith, below))) a.0 b.0)
undummied (said (notes.Ended i None k kinds.Dummy) ∷ past) inside order a b = absurd (let no : false ≡ true = order.0 in cc no)
undummied (said (notes.Ended i (Some n) None kinds.Dummy) ∷ past) inside order a b = absurd (let no : false ≡ true = order.0 in cc no)
undummied (said (notes.Append i n k cdb buffer) ∷ past) inside order a b = (tt, undummied past (λ j m some. inside j m (still_some past i n j m some)) order.1 a.1 b.1)
undummied (asked line event ∷ past) inside order a b = (tt, undummied past inside order.1 a.1 b.1)
undummied (said _ ∷ past) inside order a b = (tt, undummied past inside order.1 a.1 b.1)

-- ---- units
asks_none : (line i unit : ℕ) (event : Event) (past : List Moment) → MayAsk past event → asks_unit (asked line event) i unit ≡ false
asks_none line i unit event [] is = ap (λ v. asks_unit (asked line v) i unit) is
asks_none line i unit event (moment ∷ past) is = by event is
  where
    by : (event : Event) → IsDrillLine event → asks_unit (asked line event) i unit ≡ false
    by (events.Act j (actions.Append cmd)) is = refl
    by events.Settle is = refl
    by _ is = absurd is

later_one : (a b : Bool) → a ≡ false → (a || b) ≡ true → b ≡ true
later_one true b none e = cc none
later_one false b none e = e

first_asked : (ready small unit_is rest : Bool) (unit : ℕ) → (unit == 0) ≡ unit_is → (rest ≡ true → unit ≡ 0) → (((ready && small) && unit_is) || rest) ≡ true → unit ≡ 0
first_asked true true true rest unit is old e = grind (arith, nat_tests, is)
first_asked true true false rest unit is old e = old e
first_asked true false unit_is rest unit is old e = old e
first_asked false small unit_is rest unit is old e = old e

asked_first : (past : List Moment) → EachMoment DrillAt past → (i unit : ℕ) → is_asked_unit past i unit ≡ true → unit ≡ 0
asked_first [] d i unit e = absurd (let no : false ≡ true = e in cc no)
asked_first (asked line event ∷ past) d i unit e = asked_first past d.1 i unit (later_one (asks_unit (asked line event) i unit) (is_asked_unit past i unit) (asks_none line i unit event past d.0) e)
asked_first (said (notes.Begin initiators ready) ∷ past) d i unit e = first_asked ready (nat_lt i initiators) (unit == 0) (is_asked_unit past i unit) unit refl (asked_first past d.1 i unit) e
asked_first (said _ ∷ past) d i unit e = asked_first past d.1 i unit e

-- ---- each command ran there
-- a run that failed counts
none_failed : (past : List Moment) (unit : ℕ) (failure : Bool) → unit ≡ 0 → cond (nat_eq 0 unit) (cond failure (suc (failed_runs past unit)) (failed_runs past unit)) (failed_runs past 0) ≡ 0 → (failure ≡ false) × (failed_runs past 0 ≡ 0)
none_failed past unit true at none = absurd (let n : suc (failed_runs past 0) ≡ 0 = subst (λ u. cond (nat_eq 0 u) (suc (failed_runs past u)) (failed_runs past 0) ≡ 0) at none in cc n)
none_failed past unit false at none = (refl, subst (λ u. cond (nat_eq 0 u) (failed_runs past u) (failed_runs past 0) ≡ 0) at none)

asked_some : (past : List Moment) (i n k : ℕ) (P : Request → Type 0) (found : Option Request) → request_at past i n k ≡ found → IsSomeAnd found P → 0 < appends past i n
asked_some past i n k P None e some = absurd some
asked_some past i n k P (Some r) e some = requested_some past i n k r e

pub ran_there : (disks : List Disk) (past : List Moment) → EachMoment DrillAt past → EachMoment SentAt past → AreJudged past → AreInside past → OrderLaw nobody past → ExecutionLaw nobody disks past → RunsOnUnits 2 past → failed_runs past 0 ≡ 0 → EachMoment RanThereAt past
ran_there disks [] d own j inside order run units none = tt
ran_there disks (said (notes.Ran i (Some n) (Some k) unit cdb bytes check) ∷ past) d own j inside order run units none =
    let small = inside i n (asked_some past i n k _ (request_at past i n k) refl (run.0 refl).1) in
    let on = (units.0 small).all (λ node. (is_quiet past d.1 own.1 j).nobody_injects (suc node)) in
    let at = asked_first past d.1 on.i unit on.asked in
    let both = none_failed past unit (is_failure check) at none in
    ((at, both.0), ran_there disks past d.1 own.1 j inside order.1 run.1 units.1 both.1)
ran_there disks (said (notes.Ran i None k unit cdb bytes check) ∷ past) d own j inside order run units none = absurd (let no : false ≡ true = order.0 in cc no)
ran_there disks (said (notes.Ran i (Some n) None unit cdb bytes check) ∷ past) d own j inside order run units none = absurd (let no : false ≡ true = order.0 in cc no)
ran_there disks (said (notes.Append i n k cdb buffer) ∷ past) d own j inside order run units none = (tt, ran_there disks past d.1 own.1 j (λ x m some. inside x m (still_some past i n x m some)) order.1 run.1 units.1 none)
ran_there disks (said (notes.Got s) ∷ past) d own j inside order run units none = (tt, ran_there disks past d.1 own.1 j.1 inside order.1 run.1 units.1 none)
ran_there disks (said (notes.Ignored s cause) ∷ past) d own j inside order run units none = (tt, ran_there disks past d.1 own.1 j.1 inside order.1 run.1 units.1 none)
ran_there disks (asked line event ∷ past) d own j inside order run units none = (tt, ran_there disks past d.1 own.1 j inside order.1 run.1 units.1 none)
ran_there disks (said _ ∷ past) d own j inside order run units none = (tt, ran_there disks past d.1 own.1 j inside order.1 run.1 units.1 none)

-- ---- and ran well
pub ran_well : (past : List Moment) → EachMoment IsDeathlessAt past → EachMoment IsUndummiedAt past → EachMoment IsUncheckedAt past → RanWell past
ran_well [] living plain fine = tt
ran_well (said (notes.Dead i list cause) ∷ past) living plain fine = absurd living.0
ran_well (said (notes.Ended i list number kinds.Dummy) ∷ past) living plain fine = absurd plain.0
ran_well (said (notes.Ran i list number unit cdb bytes (Some sense)) ∷ past) living plain fine = absurd fine.0
ran_well (_ ∷ past) living plain fine = (tt, ran_well past living.1 plain.1 fine.1)
