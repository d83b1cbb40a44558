-- What lasts from one moment of a history to a later one, of the ORB_POINTER write that a host names; and what an initiator may tell.
use Rattle.sbp_world.proofs.Words.Std.{arith, ◌≡◌, refl, sym, ◌∙◌, ap, subst, ℕ, suc, ◌==◌, nat_eq, is_some, not, ◌||◌, Bool, true, false, List, [], ◌∷◌, Option, Some, None, nat_tests, AllByRecursion, not-true}
use Rattle.sbp_world.proofs.Words.Wire.{judged_note, Moment, asked, said, Sending, Terms, terms, Judged, Event, Note, Side}
use Rattle.sbp_world.proofs.Words.Laws.{EachMoment}
use Rattle.sbp_world.proofs.Words.World.{behind, MayDrop, MayEnd, MayStand, NonePoints, turn_of}
use Rattle.sbp_journal.specs.declared.cause.Judged.TheVariants as judgements
use Rattle.sbp_journal.specs.declared.note.Note.TheVariants as notes
use Rattle.sbp_journal.specs.declared.side.Side.TheVariants as sides
use Rattle.sbp_world.proofs.Wire.Agrees.{got_agrees, ignored_agrees, timed_agrees}
use Rattle.sbp_world.proofs.Hosts.Carries.{is_apart}
use Rattle.sbp_world.proofs.Hosts.Layered.{AreTame, is_tame}
use Rattle.sbp_world.proofs.Hosts.OrbTerms.{AreStill, is_left}
use Rattle.sbp_world.proofs.Hosts.PointerNotes.{got_fades_now, opens, pointer, tame_told, timed_fades_now}
use Rattle.sbp_world.proofs.Pointers.Ages.{Closes, is_sight, moment_closes, moment_generation}
use Rattle.sbp_world.proofs.Pointers.Dropping.{drops_of, is_drop}
use Rattle.sbp_world.proofs.Pointers.Names.{drop_none, here}
use Rattle.sbp_world.proofs.Common.{untrue}

-- ---- from one moment to a later one

pub record Goes (past later : List Moment) (i : ℕ) : Type 0 where
  pub fades : (n : ℕ) → pointer later i ≡ Some n → pointer past i ≡ Some n
  pub sent : (n : ℕ) → (terms later).sent n ≡ (terms past).sent n
  pub generation : (terms later).generation (suc i) ≡ (terms past).generation (suc i)
  pub closed : Closes (terms past) (terms later)

-- the packet that is named is of the generation of its initiator
abbrev pub IsCurrent : List Moment → ℕ → Type 0
IsCurrent past i = (serial : ℕ) (packet : Sending) → pointer past i ≡ Some serial → (terms past).sent serial ≡ Some packet → packet.generation ≡ (terms past).generation (suc i)

module _ {past later : List Moment} {i : ℕ} (g : Goes past later i) where
  pub none_goes : NonePoints past i → NonePoints later i
  none_goes k = record { answered = λ n e. g.closed n (k.answered n (g.fades n e)) }

  pub current_goes : IsCurrent past i → IsCurrent later i
  current_goes k serial packet e f = k serial packet (g.fades serial e) (sym (g.sent serial) ∙ f) ∙ sym g.generation

  pub drop_goes : turn_of later ≡ turn_of past → MayDrop past i → MayDrop later i
  drop_goes same k = record { cause = subst (λ ms. MayEnd ms i) (sym same) k.cause; answered = λ n packet e f h. g.closed n (k.answered n packet (g.fades n e) (sym (g.sent n) ∙ f) (h ∙ g.generation)) }

-- ---- single moments

pub told_goes : (told : List Side) (past : List Moment) (i : ℕ) → AreTame told → Goes past (behind told past) i
told_goes told past i h =
    let k = tame_told told past i h in
    record {
      fades = k.fades;
      sent = λ n. ap (λ (t : Terms). t.sent n) k.wire;
      generation = ap (λ (t : Terms). t.generation (suc i)) k.wire;
      closed = λ n e. ap (λ (t : Terms). is_some (t.closed n)) k.wire ∙ e;
    }

pub judged_goes : (serial : ℕ) (judged : Judged) (past : List Moment) (i : ℕ) → Goes past (said (judged_note serial judged) ∷ past) i
judged_goes serial judgements.Got past i = record {
  fades = got_fades_now serial past i;
  sent = λ n. ap (λ (f : ℕ → Option Sending). f n) (got_agrees ((terms past).sent serial) serial (terms past)).sent;
  generation = moment_generation (suc i) (said (notes.Got serial)) past refl;
  closed = moment_closes (said (notes.Got serial)) past;
}
judged_goes serial (judgements.Ignored cause) past i = record {
  fades = λ n e. e;
  sent = λ n. ap (λ (f : ℕ → Option Sending). f n) (ignored_agrees ((terms past).sent serial) cause serial (terms past)).sent;
  generation = moment_generation (suc i) (said (notes.Ignored serial cause)) past refl;
  closed = moment_closes (said (notes.Ignored serial cause)) past;
}

pub timed_goes : (serial : ℕ) (past : List Moment) (i : ℕ) → Goes past (said (notes.TimedOut serial) ∷ past) i
timed_goes serial past i = record {
  fades = timed_fades_now serial past i;
  sent = λ n. ap (λ (f : ℕ → Option Sending). f n) (timed_agrees ((terms past).sent serial) (terms past)).sent;
  generation = moment_generation (suc i) (said (notes.TimedOut serial)) past refl;
  closed = moment_closes (said (notes.TimedOut serial)) past;
}

pub asked_goes : (line : ℕ) (event : Event) (past : List Moment) (i : ℕ) → Goes past (asked line event ∷ past) i
asked_goes line event past i = record {
  fades = λ n e. e;
  sent = λ n. ap (λ (f : ℕ → Option Sending). f n) (opens event (terms past)).sent;
  generation = moment_generation (suc i) (asked line event) past refl;
  closed = moment_closes (asked line event) past;
}

-- ---- what is told

-- what another initiator tells
abbrev pub IsAway : ℕ → Side → Type 0
IsAway i (sides.Own note) = is_apart i note ≡ true
IsAway i _ = ⊥

abbrev pub AreApart : ℕ → List Side → Type 0
AreApart i told = AllByRecursion (IsAway i) told

abbrev pub Stand : ℕ → List Moment → Type 0
Stand i past = EachMoment (MayStand i) past

pub judged_stands : (serial : ℕ) (judged : Judged) (past : List Moment) (i : ℕ) → Stand i past → Stand i (said (judged_note serial judged) ∷ past)
judged_stands serial judgements.Got past i k = (tt, k)
judged_stands serial (judgements.Ignored cause) past i k = (tt, k)

pub itself : (i : ℕ) → not (nat_eq i i) ≡ true → false ≡ true
itself i e = let f : nat_eq i i ≡ true = grind (arith, nat_tests) in sym (ap not f) ∙ e

-- of the tame notes that are no steps of a list, a drop alone asks for something
one_stands : (note : Note) (past : List Moment) (i : ℕ) → is_tame note ≡ true → ((j : ℕ) → is_left j note ≡ true) → ((n : ℕ) → note ≡ notes.Drop i n → MayDrop past i) → MayStand i (said note) past
one_stands (notes.Append j n k cdb buffer) past i e l d = λ same. untrue (itself j (l j))
one_stands (notes.Low j n k) past i e l d = λ same. untrue (itself j (l j))
one_stands (notes.Linked j n k) past i e l d = λ same. untrue (itself j (l j))
one_stands (notes.Dummied j n k) past i e l d = λ same. untrue (itself j (l j))
one_stands (notes.Drop j n) past i e l d = λ same. d n (ap (λ m. notes.Drop m n) (here i j same))
one_stands (notes.Rung j n k) past i e l d = tt
one_stands (notes.Taken j n k status answer) past i e l d = tt
one_stands (notes.Op j operation word) past i e l d = tt
one_stands (notes.Stuck j) past i e l d = tt
one_stands (notes.Told j) past i e l d = tt
one_stands (notes.Begin initiators ready) past i e l d = untrue e
one_stands (notes.Sent serial generation from to bytes) past i e l d = untrue e
one_stands (notes.Injected serial) past i e l d = untrue e
one_stands (notes.Got serial) past i e l d = untrue e
one_stands (notes.Ignored serial cause) past i e l d = untrue e
one_stands (notes.Lost serial) past i e l d = untrue e
one_stands (notes.TimedOut serial) past i e l d = untrue e
one_stands (notes.Ran j n k at cdb bytes check) past i e l d = untrue e
one_stands (notes.Ended j n k status) past i e l d = untrue e
one_stands (notes.Cut j n cause) past i e l d = untrue e
one_stands (notes.Dead j n cause) past i e l d = untrue e
one_stands (notes.Managed j word subject status login) past i e l d = untrue e
one_stands (notes.ManageFailed j cause) past i e l d = untrue e
one_stands (notes.Held id) past i e l d = untrue e
one_stands (notes.Expired id) past i e l d = untrue e
one_stands (notes.Back id) past i e l d = untrue e
one_stands (notes.Left id) past i e l d = untrue e
one_stands (notes.Cleared at) past i e l d = untrue e
one_stands (notes.Reset generation) past i e l d = untrue e
one_stands (notes.Seen node generation) past i e l d = untrue e
one_stands notes.Tick past i e l d = untrue e
one_stands (notes.Refused line number) past i e l d = untrue e
one_stands notes.Settled past i e l d = untrue e
one_stands notes.Stopped past i e l d = untrue e
one_stands (notes.Key at) past i e l d = untrue e
one_stands (notes.Unsolicited j) past i e l d = untrue e
one_stands (notes.Unsent j) past i e l d = untrue e

-- and none of these begins a turn
pub turn_same : (note : Note) (past : List Moment) → is_tame note ≡ true → ((j : ℕ) → is_left j note ≡ true) → turn_of (said note ∷ past) ≡ turn_of past
turn_same (notes.Append j n k cdb buffer) past e l = untrue (itself j (l j))
turn_same (notes.Low j n k) past e l = untrue (itself j (l j))
turn_same (notes.Linked j n k) past e l = untrue (itself j (l j))
turn_same (notes.Dummied j n k) past e l = untrue (itself j (l j))
turn_same (notes.Drop j n) past e l = refl
turn_same (notes.Rung j n k) past e l = refl
turn_same (notes.Taken j n k status answer) past e l = refl
turn_same (notes.Op j operation word) past e l = refl
turn_same (notes.Stuck j) past e l = refl
turn_same (notes.Told j) past e l = refl
turn_same _ past e l = untrue e

-- a host that names nothing goes on so
none_later : (old new : Option ℕ) → ((n : ℕ) → new ≡ Some n → old ≡ Some n) → old ≡ None → is_some new ≡ false
none_later old None f e = refl
none_later old (Some n) f e = absurd (differ (sym e ∙ f n refl))
  where
    differ : None ≡ Some n → ⊥
    differ e = cc

-- Where a list may be dropped if the host names nothing then, each note of the told may stand.
pub told_stands : (told : List Side) (past : List Moment) (i : ℕ) → AreTame told → AreStill told → (drops_of i told ≡ true → is_some (pointer (behind told past) i) ≡ false → MayDrop past i) → Stand i past → Stand i (behind told past)
told_stands [] past i h l d k = k
told_stands (sides.Own note ∷ later) past i h l d k =
    told_stands later (said note ∷ past) i h.1 l.1 (λ x e. drop_goes (told_goes (sides.Own note ∷ []) past i (h.0, tt)) (turn_same note past h.0 l.0) (d (later_drop (is_drop i (sides.Own note)) x) e))
    (one_stands note past i h.0 l.0 (λ n e. d (ap (λ (x : Note). is_drop i (sides.Own x) || drops_of i later) e ∙ ap (λ b. b || drops_of i later) (self i)) (subst (λ (x : Note). is_some (pointer (behind later (said x ∷ past)) i) ≡ false) (sym e) (dropped n h.1))), k)
  where
    self : (j : ℕ) → (j == j) ≡ true
    self j = grind (arith, nat_tests)

    later_drop : (b : Bool) → drops_of i later ≡ true → (b || drops_of i later) ≡ true
    later_drop true x = refl
    later_drop false x = x

    dropped : (n : ℕ) → AreTame later → is_some (pointer (behind later (said (notes.Drop i n) ∷ past)) i) ≡ false
    dropped n tame = none_later (pointer (said (notes.Drop i n) ∷ past) i) _ (told_goes later (said (notes.Drop i n) ∷ past) i tame).fades (drop_none i n past)
told_stands ((sides.Opened place orb) ∷ later) past i h l d k = absurd h.0
told_stands ((sides.Ran place orb cdb payload outcome) ∷ later) past i h l d k = absurd h.0
told_stands ((sides.Ended place orb status) ∷ later) past i h l d k = absurd h.0
told_stands ((sides.Dead place cause) ∷ later) past i h l d k = absurd h.0
told_stands ((sides.Cut place cause) ∷ later) past i h l d k = absurd h.0
told_stands ((sides.Managed node function subject status login) ∷ later) past i h l d k = absurd h.0
told_stands ((sides.ManageFailed node cause) ∷ later) past i h l d k = absurd h.0
told_stands ((sides.Held login) ∷ later) past i h l d k = absurd h.0
told_stands ((sides.Expired login) ∷ later) past i h l d k = absurd h.0
told_stands ((sides.Back login) ∷ later) past i h l d k = absurd h.0
told_stands ((sides.Left login) ∷ later) past i h l d k = absurd h.0
told_stands ((sides.Cleared unit) ∷ later) past i h l d k = absurd h.0
told_stands ((sides.Unsolicited place) ∷ later) past i h l d k = absurd h.0
told_stands ((sides.Unsent place) ∷ later) past i h l d k = absurd h.0

-- ---- notes of others, and packets that leave in a line that is no action of the initiator

pub none_by : {past now : List Moment} {i : ℕ} → ((n : ℕ) → pointer now i ≡ Some n → pointer past i ≡ Some n) → Closes (terms past) (terms now) → NonePoints past i → NonePoints now i
none_by fades closed k = record { answered = λ n e. closed n (k.answered n (fades n e)) }

pub current_by : (past now : List Moment) (i : ℕ) → ((n : ℕ) → pointer now i ≡ Some n → pointer past i ≡ Some n) → ((n : ℕ) → pointer past i ≡ Some n → (terms now).sent n ≡ (terms past).sent n) → (terms now).generation (suc i) ≡ (terms past).generation (suc i) → IsCurrent past i → IsCurrent now i
current_by past now i fades same generation k serial packet p q =
    k serial packet (fades serial p) (sym (same serial (fades serial p)) ∙ q) ∙ sym generation

pub apart_sight : (note : Note) (i : ℕ) → is_apart i note ≡ true → is_sight (suc i) (said note) ≡ false
apart_sight (notes.Seen node generation) i e = not-true (node == suc i) e
apart_sight (notes.Begin initiators ready) i e = refl
apart_sight (notes.Append j n k cdb buffer) i e = refl
apart_sight (notes.Low j n k) i e = refl
apart_sight (notes.Linked j n k) i e = refl
apart_sight (notes.Rung j n k) i e = refl
apart_sight (notes.Dummied j n k) i e = refl
apart_sight (notes.Sent serial generation from to bytes) i e = refl
apart_sight (notes.Injected serial) i e = refl
apart_sight (notes.Got serial) i e = refl
apart_sight (notes.Ignored serial cause) i e = refl
apart_sight (notes.Lost serial) i e = refl
apart_sight (notes.TimedOut serial) i e = refl
apart_sight (notes.Ran j n k at cdb bytes check) i e = refl
apart_sight (notes.Ended j n k status) i e = refl
apart_sight (notes.Taken j n k status answer) i e = refl
apart_sight (notes.Cut j n cause) i e = refl
apart_sight (notes.Dead j n cause) i e = refl
apart_sight (notes.Drop j n) i e = refl
apart_sight (notes.Managed j word subject status login) i e = refl
apart_sight (notes.ManageFailed j cause) i e = refl
apart_sight (notes.Held id) i e = refl
apart_sight (notes.Expired id) i e = refl
apart_sight (notes.Back id) i e = refl
apart_sight (notes.Left id) i e = refl
apart_sight (notes.Cleared at) i e = refl
apart_sight (notes.Op j operation word) i e = refl
apart_sight (notes.Stuck j) i e = refl
apart_sight (notes.Reset generation) i e = refl
apart_sight notes.Tick i e = refl
apart_sight (notes.Refused line number) i e = refl
apart_sight notes.Settled i e = refl
apart_sight notes.Stopped i e = refl
apart_sight (notes.Key at) i e = refl
apart_sight (notes.Unsolicited j) i e = refl
apart_sight (notes.Unsent j) i e = refl
apart_sight (notes.Told j) i e = refl

-- a name that is not this one
not_here : {A : Type 0} (i j : ℕ) → not (i == j) ≡ true → (j == i) ≡ true → A
not_here i j e f = absurd (differ (i == j) (not-true (i == j) e) (let g : (i == j) ≡ true = grind (arith, nat_tests) in g))
  where
    differ : (b : Bool) → b ≡ false → b ≡ true → ⊥
    differ true e f = cc
    differ false e f = cc

same_test : {A : Type 0} (b : Bool) → not b ≡ true → b ≡ true → A
same_test true e f = untrue e
same_test false e f = untrue f

pub apart_stands : (note : Note) (past : List Moment) (i : ℕ) → is_apart i note ≡ true → MayStand i (said note) past
apart_stands (notes.Append j n k cdb buffer) past i e = λ same. not_here i j e same
apart_stands (notes.Low j n k) past i e = λ same. not_here i j e same
apart_stands (notes.Linked j n k) past i e = λ same. not_here i j e same
apart_stands (notes.Dummied j n k) past i e = λ same. not_here i j e same
apart_stands (notes.Drop j n) past i e = λ same. not_here i j e same
apart_stands (notes.Sent serial generation from to bytes) past i e = λ same h. same_test (from == suc i) e same
apart_stands (notes.Seen node generation) past i e = λ same. same_test (node == suc i) e same
apart_stands (notes.Begin initiators ready) past i e = untrue e
apart_stands (notes.Rung j n k) past i e = tt
apart_stands (notes.Injected serial) past i e = tt
apart_stands (notes.Got serial) past i e = tt
apart_stands (notes.Ignored serial cause) past i e = tt
apart_stands (notes.Lost serial) past i e = tt
apart_stands (notes.TimedOut serial) past i e = tt
apart_stands (notes.Ran j n k at cdb bytes check) past i e = tt
apart_stands (notes.Ended j n k status) past i e = tt
apart_stands (notes.Taken j n k status answer) past i e = tt
apart_stands (notes.Cut j n cause) past i e = tt
apart_stands (notes.Dead j n cause) past i e = tt
apart_stands (notes.Managed j word subject status login) past i e = tt
apart_stands (notes.ManageFailed j cause) past i e = tt
apart_stands (notes.Held id) past i e = tt
apart_stands (notes.Expired id) past i e = tt
apart_stands (notes.Back id) past i e = tt
apart_stands (notes.Left id) past i e = tt
apart_stands (notes.Cleared at) past i e = tt
apart_stands (notes.Op j operation word) past i e = tt
apart_stands (notes.Stuck j) past i e = tt
apart_stands (notes.Reset generation) past i e = tt
apart_stands notes.Tick past i e = tt
apart_stands (notes.Refused line number) past i e = tt
apart_stands notes.Settled past i e = tt
apart_stands notes.Stopped past i e = tt
apart_stands (notes.Key at) past i e = tt
apart_stands (notes.Unsolicited j) past i e = tt
apart_stands (notes.Unsent j) past i e = tt
apart_stands (notes.Told j) past i e = tt

-- all that another initiator tells
pub others_stand : (told : List Side) (past : List Moment) (i : ℕ) → AreApart i told → Stand i past → Stand i (behind told past)
others_stand [] past i h k = k
others_stand (sides.Own note ∷ later) past i h k = others_stand later (said note ∷ past) i h.1 (apart_stands note past i h.0, k)
others_stand ((sides.Opened place orb) ∷ later) past i h k = absurd h.0
others_stand ((sides.Ran place orb cdb payload outcome) ∷ later) past i h k = absurd h.0
others_stand ((sides.Ended place orb status) ∷ later) past i h k = absurd h.0
others_stand ((sides.Dead place cause) ∷ later) past i h k = absurd h.0
others_stand ((sides.Cut place cause) ∷ later) past i h k = absurd h.0
others_stand ((sides.Managed node function subject status login) ∷ later) past i h k = absurd h.0
others_stand ((sides.ManageFailed node cause) ∷ later) past i h k = absurd h.0
others_stand ((sides.Held login) ∷ later) past i h k = absurd h.0
others_stand ((sides.Expired login) ∷ later) past i h k = absurd h.0
others_stand ((sides.Back login) ∷ later) past i h k = absurd h.0
others_stand ((sides.Left login) ∷ later) past i h k = absurd h.0
others_stand ((sides.Cleared unit) ∷ later) past i h k = absurd h.0
others_stand ((sides.Unsolicited place) ∷ later) past i h k = absurd h.0
others_stand ((sides.Unsent place) ∷ later) past i h k = absurd h.0
