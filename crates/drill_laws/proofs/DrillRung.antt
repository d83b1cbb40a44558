-- Behind each line of a drill every ORB that was appended is rung, and is of one of the two initiators; and its list was begun since the run began.
use Rattle.std.proofs.Common.{◌≡◌, ◌∙◌, refl, sym, ap, subst, ℕ, zero, suc, ◌<◌, ◌≤◌, max, Bool, true, false, cond, nat_eq, List, [], ◌∷◌, ◌++◌, map, reverse, Option, Some, None, arith}
use Rattle.std.specs.List.{AllByRecursion}
use Rattle.std.proofs.lemmas.Bool.Decides.{nat_tests}
use Rattle.std.proofs.lemmas.List.{reverse-append, reverse-reverse}
use Rattle.rbc_disk.specs.Disk.{Disk}
use Rattle.sbp_base.specs.Update.{upd2}
use Rattle.sbp_journal.proofs.Each.{all_append}
use Rattle.sbp_journal.specs.Run.{Entry, Moment, asked, history, said}
use Rattle.sbp_journal.specs.declared.event.Cmd.{Cmd}
use Rattle.sbp_journal.specs.declared.event.Event.{Event}
use Rattle.sbp_journal.specs.declared.event.Event.TheVariants as events
use Rattle.sbp_journal.specs.declared.event.Action.TheVariants as actions
use Rattle.sbp_journal.specs.declared.note.Note.{Note}
use Rattle.sbp_journal.specs.declared.note.Note.TheVariants as notes
use Rattle.sbp_laws.specs.ActionLaw.{ActsOr, Brings, BringsEach}
use Rattle.sbp_laws.specs.Actions.{append_notes, buffer_of, link_notes, new_list, new_number, refusal_at}
use Rattle.sbp_laws.specs.Budget.{initiators, settle_deliveries, since_reset}
use Rattle.sbp_laws.specs.Deliveries.{AreLowest, EndsSettle, is_effect}
use Rattle.sbp_laws.specs.Lawful.{nobody}
use Rattle.sbp_laws.specs.OrderLaw.{OrderLaw}
use Rattle.sbp_laws.specs.Terms.{appends}
use Rattle.sbp_laws.specs.Turns.{EachMoment, effects_of, sends_of}
use Rattle.sbp_world.specs.Completing.Sights.{has_begun, rung}
use Rattle.drill_laws.specs.DrillLines.{AreDrillLines, IsDrillLine}
use Rattle.drill_laws.proofs.DrillMoments.{DrillAt}

-- ---- notes that neither append nor ring
abbrev is_beside : Note → Bool
is_beside (notes.Append i n k cdb buffer) = false
is_beside (notes.Rung i n k) = false
is_beside (notes.Begin initiators ready) = false
is_beside _ = true

-- what such notes leave
record IsSame (past later : List Moment) : Type 0 where
  appended : appends later ≡ appends past
  rung_is : rung later ≡ rung past
  counted : initiators later ≡ initiators past

one_beside : (note : Note) (past : List Moment) → is_beside note ≡ true → IsSame past (said note ∷ past)
one_beside (notes.Append i n k cdb buffer) past e = absurd (cc e)
one_beside (notes.Rung i n k) past e = absurd (cc e)
one_beside (notes.Begin initiators ready) past e = absurd (cc e)
one_beside _ past e = record { appended = refl; rung_is = refl; counted = refl }

same_then : (a b c : List Moment) → IsSame a b → IsSame b c → IsSame a c
same_then a b c h k = record { appended = k.appended ∙ h.appended; rung_is = k.rung_is ∙ h.rung_is; counted = k.counted ∙ h.counted }

-- in the order of time
abbrev pub behind : List Moment → List Note → List Moment
behind past [] = past
behind past (note ∷ rest) = behind (said note ∷ past) rest

pub behind-append : (past : List Moment) (xs ys : List Note) → behind past (xs ++ ys) ≡ behind (behind past xs) ys
behind-append past [] ys = refl
behind-append past (x ∷ xs) ys = behind-append (said x ∷ past) xs ys

pub behind_latest : (past : List Moment) (told : List Note) → behind past (reverse told) ≡ map said told ++ past
behind_latest past [] = refl
behind_latest past (note ∷ told) = ap (behind past) (reverse-append (note ∷ []) told) ∙ behind-append past (reverse told) (note ∷ []) ∙ ap (λ ms. said note ∷ ms) (behind_latest past told)

all_beside : (past : List Moment) (told : List Note) → AllByRecursion (λ note. is_beside note ≡ true) told → IsSame past (behind past told)
all_beside past [] b = record { appended = refl; rung_is = refl; counted = refl }
all_beside past (note ∷ told) b = same_then past (said note ∷ past) (behind (said note ∷ past) told) (one_beside note past b.0) (all_beside (said note ∷ past) told b.1)

sends_beside : (told : List Note) → AllByRecursion (λ note. is_beside note ≡ true) (sends_of told)
sends_beside [] = tt
sends_beside (notes.Sent serial generation from to bytes ∷ rest) = (refl, sends_beside rest)
sends_beside (_ ∷ rest) = sends_beside rest

links_beside : (i n k : ℕ) → AllByRecursion (λ note. is_beside note ≡ true) (link_notes i n k)
links_beside i n zero = tt
links_beside i n (suc k) = (refl, (refl, tt))

effect_beside : (note : Note) → is_effect note ≡ true → is_beside note ≡ true
effect_beside (notes.Append i n k cdb buffer) e = absurd (cc e)
effect_beside (notes.Rung i n k) e = absurd (cc e)
effect_beside (notes.Begin initiators ready) e = absurd (cc e)
effect_beside _ e = refl

lowest_beside : (past : List Moment) (told : List Note) → AreLowest past told → AllByRecursion (λ note. is_beside note ≡ true) told
lowest_beside past [] h = tt
lowest_beside past (notes.Got serial ∷ rest) h = (refl, lowest_beside _ rest h.1)
lowest_beside past (notes.Ignored serial cause ∷ rest) h = (refl, lowest_beside _ rest h.1)
lowest_beside past (note ∷ rest) h = (effect_beside note h.0, lowest_beside _ rest h.1)

-- ---- what is known behind a line
pub record IsRungUp (past : List Moment) : Type 0 where
  pub rung_all : (i n : ℕ) → appends past i n ≤ rung past i n
  pub two : initiators past ≡ 2
  pub inside : (i n : ℕ) → 0 < appends past i n → i < 2

stays_up : (past later : List Moment) → IsSame past later → IsRungUp past → IsRungUp later
stays_up past later s u = record {
  rung_all = λ i n. (let a = ap (λ (f : ℕ → ℕ → ℕ). f i n) s.appended in let b = ap (λ (f : ℕ → ℕ → ℕ). f i n) s.rung_is in let l = u.rung_all i n in omega (arith, a, b, l));
  two = s.counted ∙ u.two;
  inside = λ i n some. u.inside i n (let a = ap (λ (f : ℕ → ℕ → ℕ). f i n) s.appended in omega (arith, a, some));
}

-- an ORB is appended and rung
one_up : (f g : ℕ → ℕ → ℕ) (i n k : ℕ) → k ≡ f i n → ((j m : ℕ) → f j m ≤ g j m) → (j m : ℕ) → upd2 f i n (suc (f i n)) j m ≤ upd2 g i n (max (g i n) (suc k)) j m
one_up f g i n k e all j m = by (nat_eq j i) (nat_eq m n)
  where
    by : (b c : Bool) → cond b (cond c (suc (f i n)) (f j m)) (f j m) ≤ cond b (cond c (max (g i n) (suc k)) (g j m)) (g j m)
    by true true = omega (arith, e)
    by true false = all j m
    by false c = all j m

one_inside : (f : ℕ → ℕ → ℕ) (i n : ℕ) → i < 2 → ((j m : ℕ) → 0 < f j m → j < 2) → (j m : ℕ) → 0 < upd2 f i n (suc (f i n)) j m → j < 2
one_inside f i n small all j m some = by (nat_eq j i) refl (nat_eq m n) some
  where
    by : (b : Bool) → nat_eq j i ≡ b → (c : Bool) → 0 < cond b (cond c (suc (f i n)) (f j m)) (f j m) → j < 2
    by true e c some = let same : j ≡ i = grind (arith, nat_tests) in omega (arith, same, small)
    by false e c some = all j m some

append_up : (past : List Moment) (i n k : ℕ) (cmd : Cmd) (line : ℕ) (event : Event) → i < 2 → k ≡ appends past i n → IsRungUp past → IsRungUp (behind (asked line event ∷ past) (append_notes i n k cmd))
append_up past i n k cmd line event small next u =
    let first : List Moment = said (notes.Append i n k cmd.cdb (buffer_of cmd)) ∷ asked line event ∷ past in
    let linked = all_beside first (link_notes i n k) (links_beside i n k) in
    let whole : behind (asked line event ∷ past) (append_notes i n k cmd) ≡ said (notes.Rung i n k) ∷ behind first (link_notes i n k) = behind-append first (link_notes i n k) (notes.Rung i n k ∷ []) in
    subst IsRungUp (sym whole) (record {
      rung_all = λ j m.
          let a : appends (behind first (link_notes i n k)) j m ≡ upd2 (appends past) i n (suc (appends past i n)) j m = ap (λ (f : ℕ → ℕ → ℕ). f j m) linked.appended in
          let b : upd2 (rung (behind first (link_notes i n k))) i n (max (rung (behind first (link_notes i n k)) i n) (suc k)) j m ≡ upd2 (rung past) i n (max (rung past i n) (suc k)) j m
          = ap (λ (f : ℕ → ℕ → ℕ). upd2 f i n (max (f i n) (suc k)) j m) linked.rung_is in
          let l = one_up (appends past) (rung past) i n k next u.rung_all j m in
          omega (arith, a, b, l);
      two = linked.counted ∙ u.two;
      inside = λ j m some. one_inside (appends past) i n small u.inside j m (let a : appends (behind first (link_notes i n k)) j m ≡ upd2 (appends past) i n (suc (appends past i n)) j m = ap (λ (f : ℕ → ℕ → ℕ). f j m) linked.appended in omega (arith, a, some));
    })

-- ---- the lines
asked_same : (past : List Moment) (line : ℕ) (event : Event) → IsSame past (asked line event ∷ past)
asked_same past line event = record { appended = refl; rung_is = refl; counted = refl }

line_up : (disks : List Disk) (past : List Moment) (line : ℕ) (event : Event) (told : List Note) → IsDrillLine event → Brings disks past line event told → IsRungUp past → IsRungUp (behind (asked line event ∷ past) told)
line_up disks past line (events.Act i (actions.Append cmd)) told is h u = by (refusal_at past i (actions.Append cmd)) h
  where
    event : Event
    event = events.Act i (actions.Append cmd)

    by : (refusal : Option ℕ) → ActsOr refusal past line i (actions.Append cmd) told → IsRungUp (behind (asked line event ∷ past) told)
    by (Some number) e = subst (λ ns. IsRungUp (behind (asked line event ∷ past) ns)) (sym e) (stays_up past _ (same_then past (asked line event ∷ past) _ (asked_same past line event) (one_beside (notes.Refused line number) (asked line event ∷ past) refl)) u)
    by None acts =
        let there : List Moment = asked line event ∷ past in
        let split : behind there told ≡ behind (behind there (append_notes i (new_list past i) (new_number past i) cmd)) (sends_of told)
        = ap (behind there) acts.first ∙ behind-append there (effects_of told) (sends_of told) ∙ ap (λ ns. behind (behind there ns) (sends_of told)) acts.effects in
        subst IsRungUp (sym split)
        (stays_up _ _ (all_beside _ (sends_of told) (sends_beside told)) (append_up past i (new_list past i) (new_number past i) cmd line event is.0 refl u))
line_up disks past line events.Settle told is h u =
    let beside = subst (AllByRecursion (λ note. is_beside note ≡ true)) (sym h.is) (all_append (λ note. is_beside note ≡ true) h.before (h.last ∷ []) (lowest_beside _ h.before h.delivers.lowest) (last_beside (asked line events.Settle ∷ past) (settle_deliveries (asked line events.Settle ∷ past)) h.before h.last h.ends, tt)) in
    stays_up past _ (same_then past (asked line events.Settle ∷ past) _ (asked_same past line events.Settle) (all_beside (asked line events.Settle ∷ past) told beside)) u
  where
    last_beside : (earlier : List Moment) (most : ℕ) (ns : List Note) (note : Note) → EndsSettle earlier most ns note → is_beside note ≡ true
    last_beside earlier most ns notes.Settled h = refl
    last_beside earlier most ns notes.Stopped h = refl
    last_beside earlier most ns _ h = absurd h
line_up disks past line _ told is h u = absurd is

pub rung_up : (disks : List Disk) (entries : List Entry) → BringsEach disks entries → AreDrillLines entries → IsRungUp (history entries)
rung_up disks [] h are = absurd are
rung_up disks (entry ∷ []) h are =
    let told : reverse entry.notes ≡ notes.Begin 2 true ∷ [] = subst (λ e. Brings disks [] entry.line e (reverse entry.notes)) are h.0 in
    let is : entry.notes ≡ notes.Begin 2 true ∷ [] = sym (reverse-reverse entry.notes) ∙ ap reverse told in
    subst (λ ns. IsRungUp (map said ns ++ asked entry.line entry.event ∷ [])) (sym is) (record { rung_all = λ i n. omega arith; two = refl; inside = λ i n some. absurd (omega (arith, some)) })
rung_up disks (entry ∷ next ∷ before) h are =
    subst IsRungUp (behind_latest (asked entry.line entry.event ∷ history (next ∷ before)) entry.notes)
    (line_up disks (history (next ∷ before)) entry.line entry.event (reverse entry.notes) are.0 h.0 (rung_up disks (next ∷ before) h.1 are.1))

-- ---- each list was begun since the run began
abbrev HaveBegun : List Moment → List Moment → Type 0
HaveBegun past since = (i n : ℕ) → 0 < appends past i n → has_begun since i n ≡ true

begun_first : (past since : List Moment) (i n : ℕ) → HaveBegun past since → (j m : ℕ) → 0 < upd2 (appends past) i n (suc (appends past i n)) j m → upd2 (has_begun since) i n true j m ≡ true
begun_first past since i n all j m some = by (nat_eq j i) (nat_eq m n) some
  where
    by : (b c : Bool) → 0 < cond b (cond c (suc (appends past i n)) (appends past j m)) (appends past j m) → cond b (cond c true (has_begun since j m)) (has_begun since j m) ≡ true
    by true true some = refl
    by true false some = all j m some
    by false c some = all j m some

begun_later : (past since : List Moment) (i n k : ℕ) → suc k ≡ appends past i n → HaveBegun past since → (j m : ℕ) → 0 < upd2 (appends past) i n (suc (appends past i n)) j m → has_begun since j m ≡ true
begun_later past since i n k next all j m some = by (nat_eq j i) refl (nat_eq m n) refl some
  where
    by : (b : Bool) → nat_eq j i ≡ b → (c : Bool) → nat_eq m n ≡ c → 0 < cond b (cond c (suc (appends past i n)) (appends past j m)) (appends past j m) → has_begun since j m ≡ true
    by true e true f some =
        let at : j ≡ i = grind (arith, nat_tests) in
        let of : m ≡ n = grind (arith, nat_tests) in
        let same : appends past j m ≡ appends past i n = ap (λ x. appends past x m) at ∙ ap (λ x. appends past i x) of in
        all j m (omega (arith, same, next))
    by true e false f some = all j m some
    by false e c f some = all j m some

pub begun_since : (past : List Moment) → EachMoment DrillAt past → OrderLaw nobody past → HaveBegun past (since_reset past)
begun_since [] d order = λ i n some. absurd (omega (arith, some))
begun_since (said (notes.Append i n zero cdb buffer) ∷ past) d order = begun_first past (since_reset past) i n (begun_since past d.1 order.1)
begun_since (said (notes.Append i n (suc k) cdb buffer) ∷ past) d order = begun_later past (since_reset past) i n k order.0.number (begun_since past d.1 order.1)
begun_since (said (notes.Begin count ready) ∷ past) d order =
    λ i n some. absurd (let none : appends past i n ≡ 0 = ap (λ ms. appends ms i n) d.0.past_is in omega (arith, none, some))
begun_since (said (notes.Reset generation) ∷ past) d order = absurd (let no : false ≡ true = d.0 in cc no)
begun_since (asked line event ∷ past) d order = begun_since past d.1 order.1
begun_since (said _ ∷ past) d order = begun_since past d.1 order.1
