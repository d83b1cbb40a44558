-- What each moment of a history leaves of the statuses that an initiator took.
use Rattle.sbp_world.proofs.Words.Std.{arith, ◌≡◌, refl, sym, ◌∙◌, ap, ℕ, zero, suc, ◌≤◌, nat_eq, not, Bool, true, false, cond, List, [], ◌∷◌, Option, Some, None, Result, Ok, Err, nat_tests, AllByRecursion, not-true}
use Rattle.sbp_world.proofs.Words.Wire.{Access, Moment, asked, said, Sending, terms, Event, Note, Side}
use Rattle.sbp_world.proofs.Words.Initiator.{OrbFault, StatusBlock, StatusKind, read_block}
use Rattle.sbp_world.proofs.Words.Laws.{Orb, TakenStatus, named, orb, taken_at, waits_in, access_at, receiver_in, Taking, if_waits, taking_at, taking_by, taking_of, takings_in, takes, EachMoment, EachTurn, EachTurnBefore}
use Rattle.sbp_world.proofs.Words.World.{behind, IsTakenBy, TakenOf, Takings, TakesDue, of_one}
use Rattle.sbp_journal.specs.declared.note.Note.TheVariants as notes
use Rattle.sbp_journal.specs.declared.side.Side.TheVariants as sides
use Rattle.sbp_world.specs.Hosts.Calls.{by_side}
use Rattle.sbp_world.proofs.Hosts.Carries.{is_apart}
use Rattle.sbp_world.proofs.Hosts.Shown.{IsElsewhere, NotTo}
use Rattle.sbp_world.proofs.Common.{untrue, itself}

-- ---- notes that take nothing of an initiator, and say of no packet that it was got

abbrev pub is_silent : ℕ → Note → Bool
is_silent i (notes.Got serial) = false
is_silent i (notes.Taken j n k status answer) = not (nat_eq i j)
is_silent i _ = true

-- of no initiator
abbrev pub is_calm : Note → Bool
is_calm (notes.Got serial) = false
is_calm (notes.Taken j n k status answer) = false
is_calm _ = true

pub calm_silent : (i : ℕ) (note : Note) → is_calm note ≡ true → is_silent i note ≡ true
calm_silent i (notes.Got serial) e = untrue e
calm_silent i (notes.Taken j n k status answer) e = untrue e
calm_silent i note e = refl

abbrev pub IsSilentSide : ℕ → Side → Type 0
IsSilentSide i (sides.Own note) = is_silent i note ≡ true
IsSilentSide i _ = Unit {0}

abbrev pub AreSilent : ℕ → List Side → Type 0
AreSilent i told = AllByRecursion (IsSilentSide i) told

-- ---- the statuses that an initiator took, with their count

abbrev pub count_of : Option TakenStatus → ℕ
count_of None = 0
count_of (Some taken) = 1

pub record Counted (past : List Moment) (i : ℕ) : Type 0 where
  pub each : EachTurn (TakesDue i) past
  pub taken : EachMoment (TakenOf i) past
  pub count : (n k : ℕ) → takes past i n k ≡ count_of (taken_at past i n k)

at_most : (found : Option TakenStatus) (x : ℕ) → x ≡ count_of found → x ≤ 1
at_most None x e = omega arith
at_most (Some taken) x e = omega arith

pub takings_of : (past : List Moment) (i : ℕ) → Counted past i → Takings past i
takings_of past i h = record { each = h.each; taken = h.taken; once = λ n k. at_most (taken_at past i n k) (takes past i n k) (h.count n k) }

module _ (i : ℕ) where
  abbrev taking : (n k : ℕ) → StatusKind → Taking
  taking n k status = record { initiator = i; one = orb n k; status = status }

  cons_same : (note : Note) (rest more : List Note) → of_one i (takings_in rest) ≡ of_one i (takings_in more) → of_one i (takings_in (note ∷ rest)) ≡ of_one i (takings_in (note ∷ more))
  cons_same (notes.Taken j n k status answer) rest more e =
      ap (λ (xs : List Taking). cond (nat_eq i j) (record { initiator = j; one = orb n k; status = status } ∷ xs) xs) e
  cons_same note rest more e = e

  -- the notes of the latest turn count by what they take of this initiator
  same_rest : (past : List Moment) (rest more : List Note) → of_one i (takings_in rest) ≡ of_one i (takings_in more) → EachTurnBefore (TakesDue i) past rest → EachTurnBefore (TakesDue i) past more
  same_rest [] rest more e h = tt
  same_rest (asked line event ∷ past) rest more e h = (sym e ∙ h.0, h.1)
  same_rest (said (notes.Got serial) ∷ past) rest more e h = (sym e ∙ h.0, h.1)
  same_rest (said (notes.Ignored serial cause) ∷ past) rest more e h = (sym e ∙ h.0, h.1)
  same_rest (said (notes.TimedOut serial) ∷ past) rest more e h = (sym e ∙ h.0, h.1)
  same_rest (said (notes.Seen node generation) ∷ past) rest more e h = (sym e ∙ h.0, h.1)
  same_rest (said notes.Tick ∷ past) rest more e h = (sym e ∙ h.0, h.1)
  same_rest (said notes.Settled ∷ past) rest more e h = (sym e ∙ h.0, h.1)
  same_rest (said notes.Stopped ∷ past) rest more e h = (sym e ∙ h.0, h.1)
  same_rest (said note ∷ past) rest more e h = same_rest past (note ∷ rest) (note ∷ more) (cons_same note rest more e) h

  -- ---- a silent note

  silent_each : (note : Note) (past : List Moment) → is_silent i note ≡ true → EachTurn (TakesDue i) past → EachTurn (TakesDue i) (said note ∷ past)
  silent_each (notes.Got serial) past e h = untrue e
  silent_each (notes.Taken j n k status answer) past e h =
      let other = ap (λ (b : Bool). cond b (record { initiator = j; one = orb n k; status = status } ∷ []) []) (not-true (nat_eq i j) e) in
      same_rest past [] (notes.Taken j n k status answer ∷ []) (sym other) h
  silent_each (notes.Ignored serial cause) past e h = (refl, h)
  silent_each (notes.TimedOut serial) past e h = (refl, h)
  silent_each (notes.Seen node generation) past e h = (refl, h)
  silent_each notes.Tick past e h = (refl, h)
  silent_each notes.Settled past e h = (refl, h)
  silent_each notes.Stopped past e h = (refl, h)
  silent_each note past e h = same_rest past [] (note ∷ []) refl h

  silent_moments : (note : Note) (past : List Moment) → is_silent i note ≡ true → EachMoment (TakenOf i) past → EachMoment (TakenOf i) (said note ∷ past)
  silent_moments (notes.Taken j n k status answer) past e h = (λ same. untrue (sym (not-true (nat_eq i j) e) ∙ same), h)
  silent_moments note past e h = (tt, h)

  silent_count : (note : Note) (past : List Moment) (n k : ℕ) → is_silent i note ≡ true → takes past i n k ≡ count_of (taken_at past i n k) → takes (said note ∷ past) i n k ≡ count_of (taken_at (said note ∷ past) i n k)
  silent_count (notes.Taken j m l status answer) past n k e h = by_test (nat_eq i j) (not-true (nat_eq i j) e) _ _
    where
      by_test : (b : Bool) → b ≡ false → (x : ℕ) (u : Option TakenStatus) → cond b x (takes past i n k) ≡ count_of (cond b u (taken_at past i n k))
      by_test true f x u = untrue (sym f)
      by_test false f x u = h
  silent_count note past n k e h = h

  pub silent_on : (note : Note) (past : List Moment) → is_silent i note ≡ true → Counted past i → Counted (said note ∷ past) i
  silent_on note past e h = record { each = silent_each note past e h.each; taken = silent_moments note past e h.taken; count = λ n k. silent_count note past n k e (h.count n k) }

  silent_side : (side : Side) (past : List Moment) → IsSilentSide i side → Counted past i → Counted (by_side side past) i
  silent_side (sides.Own note) past e h = silent_on note past e h
  silent_side side past e h = h

  pub silent_behind : (told : List Side) (past : List Moment) → AreSilent i told → Counted past i → Counted (behind told past) i
  silent_behind [] past e h = h
  silent_behind (side ∷ told) past e h = silent_behind told (by_side side past) e.1 (silent_side side past e.0 h)

  -- ---- a line, and a packet that is got

  pub asked_on : (line : ℕ) (event : Event) (past : List Moment) → Counted past i → Counted (asked line event ∷ past) i
  asked_on line event past h = record { each = (refl, h.each); taken = (tt, h.taken); count = h.count }

  -- what is due of this initiator as a packet is got
  abbrev pub due_at : List Moment → ℕ → List Taking
  due_at past serial = of_one i (taking_at past (receiver_in ((terms past).sent serial)) (access_at (terms past) serial))

  pub got_on : (serial : ℕ) (past : List Moment) → due_at past serial ≡ [] → Counted past i → Counted (said (notes.Got serial) ∷ past) i
  got_on serial past none h = record { each = (sym none, h.each); taken = (tt, h.taken); count = h.count }

  -- none of another initiator
  other_waits : (past : List Moment) (j : ℕ) (found : Option Orb) (status : StatusKind) → nat_eq i j ≡ false → of_one i (if_waits past j found status) ≡ []
  other_waits past j None status e = refl
  other_waits past j (Some one) status e = by_test (waits_in past j one.list one.number)
    where
      by_test : (b : Bool) → of_one i (cond b (record { initiator = j; one = one; status = status } ∷ []) []) ≡ []
      by_test true = ap (λ (c : Bool). cond c (record { initiator = j; one = one; status = status } ∷ []) []) e
      by_test false = refl

  other_block : (past : List Moment) (j : ℕ) (r : Result StatusBlock OrbFault) → nat_eq i j ≡ false → of_one i (taking_of past j r) ≡ []
  other_block past j (Err fault) e = refl
  other_block past j (Ok block) e = other_waits past j (named past j block.orb) block.kind e

  pick_none : (b : Bool) (xs : List Taking) → of_one i xs ≡ [] → of_one i (cond b xs []) ≡ []
  pick_none true xs e = e
  pick_none false xs e = refl

  other_due : (past : List Moment) (j : ℕ) (access : Option Access) → nat_eq i j ≡ false → of_one i (taking_by past j access) ≡ []
  other_due past j None e = refl
  other_due past j (Some access) e = pick_none _ (taking_of past j (read_block false access.payload)) (other_block past j (read_block false access.payload) e)

  to_other : (past : List Moment) (to : ℕ) (access : Option Access) → nat_eq to (suc i) ≡ false → of_one i (taking_at past (Some to) access) ≡ []
  to_other past zero access e = refl
  to_other past (suc j) access e = other_due past j access (let f : nat_eq i j ≡ false = grind (arith, nat_tests) in f)

  pub elsewhere_none : (past : List Moment) (serial : ℕ) → NotTo past i serial → due_at past serial ≡ []
  elsewhere_none past serial away = by_sent ((terms past).sent serial) refl
    where
      by_sent : (found : Option Sending) → (terms past).sent serial ≡ found → of_one i (taking_at past (receiver_in found) (access_at (terms past) serial)) ≡ []
      by_sent None e = refl
      by_sent (Some packet) e = to_other past packet.to (access_at (terms past) serial) (away packet e)

  pub apart_on : (note : Note) (past : List Moment) → is_apart i note ≡ true → IsElsewhere past i note → Counted past i → Counted (said note ∷ past) i
  apart_on (notes.Got serial) past e away h = got_on serial past (elsewhere_none past serial away) h
  apart_on (notes.Taken j n k status answer) past e away h = silent_on (notes.Taken j n k status answer) past e h
  apart_on note past e away h = silent_on note past refl h

  -- ---- a status that is taken

  pub taken_on : (serial n k : ℕ) (status : StatusKind) (answer : List ℕ) (past : List Moment) → due_at past serial ≡ taking n k status ∷ [] → IsTakenBy (said (notes.Got serial) ∷ past) i n k status → Counted past i → Counted (said (notes.Taken i n k status answer) ∷ said (notes.Got serial) ∷ past) i
  taken_on serial n k status answer past due t h = record {
    each = (ap (λ (b : Bool). cond b (taking n k status ∷ []) []) (itself i) ∙ sym due, h.each);
    taken = (λ same. t, (tt, h.taken));
    count = λ m l. by_tests (nat_eq i i) (nat_eq m n) (nat_eq l k) _ _ _ _ t.once (h.count m l);
  }
    where
      by_tests : (a b c : Bool) (z u : ℕ) (found : Option TakenStatus) (x : TakenStatus) → z ≡ 0 → u ≡ count_of found → cond a (cond b (cond c (suc z) u) u) u ≡ count_of (cond a (cond b (cond c (Some x) found) found) found)
      by_tests true true true z u found x e f = ap suc e
      by_tests true true false z u found x e f = f
      by_tests true false c z u found x e f = f
      by_tests false b c z u found x e f = f
