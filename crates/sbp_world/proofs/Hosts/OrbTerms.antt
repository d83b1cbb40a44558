-- What the history says of the ORBs of an initiator, and the notes that leave it.
use Rattle.sbp_world.proofs.Words.Std.{◌≡◌, refl, ◌∙◌, ap, ℕ, zero, suc, ◌==◌, ◌&&◌, nat_eq, not, Bool, true, false, cond, List, [], ◌∷◌, Option, Some, AllByRecursion, not-true}
use Rattle.sbp_world.proofs.Words.Wire.{Moment, said, terms, Cmd, Note, NoteBuffer, Side}
use Rattle.sbp_world.proofs.Words.Initiator.{own}
use Rattle.sbp_world.proofs.Words.Laws.{cmd_of, command_at, is_dummy, linked, lowered, lowest_vacant, slot_at, slots, id_of, id_as_prepared, Request, appends, request_at, event_of}
use Rattle.sbp_world.proofs.Words.World.{behind}
use Rattle.sbp_journal.specs.declared.note.Note.TheVariants as notes
use Rattle.sbp_journal.specs.declared.side.Side.TheVariants as sides
use Rattle.sbp_world.specs.Hosts.Calls.{by_side}
use Rattle.sbp_world.proofs.Hosts.Carries.{is_apart}
use Rattle.sbp_world.proofs.Common.{turned, itself}

pub record OrbTerms : Type 0 where
  pub request : ℕ → ℕ → Option Request
  pub command : ℕ → ℕ → Option Cmd
  pub appended : ℕ → ℕ
  pub linked : ℕ → ℕ
  pub lowered : ℕ → ℕ
  pub place : ℕ → ℕ → ℕ
  pub dummy : ℕ → ℕ → Bool
  -- the node ID that its initiator had at its append
  pub id : ℕ → ℕ → ℕ

abbrev pub orb_terms : List Moment → ℕ → OrbTerms
orb_terms past i = record {
  request = request_at past i;
  command = command_at past i;
  appended = appends past i;
  linked = linked past i;
  lowered = lowered past i;
  place = slot_at past i;
  dummy = is_dummy past i;
  id = id_as_prepared past i;
}

-- ---- what a note of an initiator says, and what it says of another one

abbrev pub with_append : (b same : Bool) → (n k : ℕ) → Option Request → Option Cmd → (more slot node : ℕ) → (ℕ → ℕ) → OrbTerms → OrbTerms
with_append b same n k request command more slot node linked t = record {
  request = λ m l. cond b (cond (nat_eq m n) (cond (nat_eq l k) request (t.request m l)) (t.request m l)) (t.request m l);
  command = λ m l. cond b (cond (nat_eq m n) (cond (nat_eq l k) command (t.command m l)) (t.command m l)) (t.command m l);
  appended = λ m. cond b (cond (nat_eq m n) more (t.appended m)) (t.appended m);
  linked = linked;
  lowered = t.lowered;
  place = λ m l. cond b (cond (nat_eq m n) (cond (nat_eq l k) slot (t.place m l)) (t.place m l)) (t.place m l);
  dummy = t.dummy;
  id = λ m l. cond (same && nat_eq n m && nat_eq k l) node (t.id m l);
}

-- the first ORB of a list is linked at once
abbrev pub first_linked : Bool → ℕ → OrbTerms → ℕ → ℕ
first_linked b n t = λ m. cond b (cond (nat_eq m n) 1 (t.linked m)) (t.linked m)

abbrev pub with_link : Bool → (n k : ℕ) → OrbTerms → OrbTerms
with_link b n k t = record t { linked = λ m. cond b (cond (nat_eq m n) (suc k) (t.linked m)) (t.linked m) }

abbrev pub with_low : Bool → (n k : ℕ) → OrbTerms → OrbTerms
with_low b n k t = record t { lowered = λ m. cond b (cond (nat_eq m n) k (t.lowered m)) (t.lowered m) }

abbrev pub with_dummy : Bool → (n k : ℕ) → OrbTerms → OrbTerms
with_dummy b n k t = record t { dummy = λ m l. cond b (cond (nat_eq m n) (cond (nat_eq l k) true (t.dummy m l)) (t.dummy m l)) (t.dummy m l) }

module _ (past : List Moment) (i : ℕ) where
  pub append_first : (n : ℕ) (cdb : List ℕ) (buffer : NoteBuffer) → orb_terms (said (notes.Append i n zero cdb buffer) ∷ past) i ≡ with_append true true n 0 (Some (record { cdb = cdb; buffer = buffer })) (cmd_of (event_of past)) (suc (appends past i n)) (lowest_vacant (slots past i)) (id_of (terms past) (suc i)) (first_linked true n (orb_terms past i)) (orb_terms past i)
  append_first n cdb buffer =
      ap (λ b. with_append b b n 0 (Some (record { cdb = cdb; buffer = buffer })) (cmd_of (event_of past)) (suc (appends past i n)) (lowest_vacant (slots past i)) (id_of (terms past) (suc i)) (first_linked b n (orb_terms past i)) (orb_terms past i)) (itself i)

  pub append_next : (n k : ℕ) (cdb : List ℕ) (buffer : NoteBuffer) → orb_terms (said (notes.Append i n (suc k) cdb buffer) ∷ past) i ≡ with_append true true n (suc k) (Some (record { cdb = cdb; buffer = buffer })) (cmd_of (event_of past)) (suc (appends past i n)) (lowest_vacant (slots past i)) (id_of (terms past) (suc i)) (linked past i) (orb_terms past i)
  append_next n k cdb buffer =
      ap (λ b. with_append b b n (suc k) (Some (record { cdb = cdb; buffer = buffer })) (cmd_of (event_of past)) (suc (appends past i n)) (lowest_vacant (slots past i)) (id_of (terms past) (suc i)) (linked past i) (orb_terms past i)) (itself i)

  pub link_said : (n k : ℕ) → orb_terms (said (notes.Linked i n k) ∷ past) i ≡ with_link true n k (orb_terms past i)
  link_said n k = ap (λ b. with_link b n k (orb_terms past i)) (itself i)

  pub low_said : (n k : ℕ) → orb_terms (said (notes.Low i n k) ∷ past) i ≡ with_low true n k (orb_terms past i)
  low_said n k = ap (λ b. with_low b n k (orb_terms past i)) (itself i)

  pub dummy_said : (n k : ℕ) → orb_terms (said (notes.Dummied i n k) ∷ past) i ≡ with_dummy true n k (orb_terms past i)
  dummy_said n k = ap (λ b. with_dummy b n k (orb_terms past i)) (itself i)

-- ---- notes that say nothing of the ORBs of an initiator

abbrev pub is_left : ℕ → Note → Bool
is_left i (notes.Append j n k cdb buffer) = not (i == j)
is_left i (notes.Low j n k) = not (i == j)
is_left i (notes.Linked j n k) = not (i == j)
is_left i (notes.Dummied j n k) = not (i == j)
is_left i _ = true

pub orbs_left : (note : Note) (past : List Moment) (i : ℕ) → is_left i note ≡ true → orb_terms (said note ∷ past) i ≡ orb_terms past i
orbs_left (notes.Append j n zero cdb buffer) past i e =
    ap (λ b. with_append b (nat_eq j i) n 0 (Some (record { cdb = cdb; buffer = buffer })) (cmd_of (event_of past)) (suc (appends past j n)) (lowest_vacant (slots past j)) (id_of (terms past) (suc i)) (first_linked b n (orb_terms past i)) (orb_terms past i)) (not-true (nat_eq i j) e)
    ∙ ap (λ b. with_append false b n 0 (Some (record { cdb = cdb; buffer = buffer })) (cmd_of (event_of past)) (suc (appends past j n)) (lowest_vacant (slots past j)) (id_of (terms past) (suc i)) (first_linked false n (orb_terms past i)) (orb_terms past i)) (turned i j (not-true (nat_eq i j) e))
orbs_left (notes.Append j n (suc k) cdb buffer) past i e =
    ap (λ b. with_append b (nat_eq j i) n (suc k) (Some (record { cdb = cdb; buffer = buffer })) (cmd_of (event_of past)) (suc (appends past j n)) (lowest_vacant (slots past j)) (id_of (terms past) (suc i)) (linked past i) (orb_terms past i)) (not-true (nat_eq i j) e)
    ∙ ap (λ b. with_append false b n (suc k) (Some (record { cdb = cdb; buffer = buffer })) (cmd_of (event_of past)) (suc (appends past j n)) (lowest_vacant (slots past j)) (id_of (terms past) (suc i)) (linked past i) (orb_terms past i)) (turned i j (not-true (nat_eq i j) e))
orbs_left (notes.Linked j n k) past i e = ap (λ b. with_link b n k (orb_terms past i)) (not-true (nat_eq i j) e)
orbs_left (notes.Dummied j n k) past i e = ap (λ b. with_dummy b n k (orb_terms past i)) (not-true (nat_eq i j) e)
orbs_left (notes.Low j n k) past i e = ap (λ b. with_low b n k (orb_terms past i)) (not-true (nat_eq i j) e)
orbs_left (notes.Taken j n k status answer) past i e = refl
orbs_left (notes.Drop j n) past i e = refl
orbs_left (notes.Op j operation word) past i e = refl
orbs_left (notes.Sent serial generation from to bytes) past i e = refl
orbs_left (notes.Seen node generation) past i e = refl
orbs_left (notes.Begin initiators ready) past i e = refl
orbs_left (notes.Rung j n k) past i e = refl
orbs_left (notes.Injected serial) past i e = refl
orbs_left (notes.Got serial) past i e = refl
orbs_left (notes.Ignored serial cause) past i e = refl
orbs_left (notes.Lost serial) past i e = refl
orbs_left (notes.TimedOut serial) past i e = refl
orbs_left (notes.Ran j n k at cdb bytes check) past i e = refl
orbs_left (notes.Ended j n k status) past i e = refl
orbs_left (notes.Cut j n cause) past i e = refl
orbs_left (notes.Dead j n cause) past i e = refl
orbs_left (notes.Managed j word subject status login) past i e = refl
orbs_left (notes.ManageFailed j cause) past i e = refl
orbs_left (notes.Held id) past i e = refl
orbs_left (notes.Expired id) past i e = refl
orbs_left (notes.Back id) past i e = refl
orbs_left (notes.Left id) past i e = refl
orbs_left (notes.Cleared at) past i e = refl
orbs_left (notes.Stuck j) past i e = refl
orbs_left (notes.Reset generation) past i e = refl
orbs_left notes.Tick past i e = refl
orbs_left (notes.Refused line number) past i e = refl
orbs_left notes.Settled past i e = refl
orbs_left notes.Stopped past i e = refl
orbs_left (notes.Key at) past i e = refl
orbs_left (notes.Unsolicited j) past i e = refl
orbs_left (notes.Unsent j) past i e = refl
orbs_left (notes.Told j) past i e = refl

apart_left : (note : Note) (i : ℕ) → is_apart i note ≡ true → is_left i note ≡ true
apart_left (notes.Append j n k cdb buffer) i e = e
apart_left (notes.Linked j n k) i e = e
apart_left (notes.Dummied j n k) i e = e
apart_left (notes.Low j n k) i e = e
apart_left (notes.Taken j n k status answer) i e = refl
apart_left (notes.Drop j n) i e = refl
apart_left (notes.Op j operation word) i e = refl
apart_left (notes.Sent serial generation from to bytes) i e = refl
apart_left (notes.Seen node generation) i e = refl
apart_left (notes.Begin initiators ready) i e = refl
apart_left (notes.Rung j n k) i e = refl
apart_left (notes.Injected serial) i e = refl
apart_left (notes.Got serial) i e = refl
apart_left (notes.Ignored serial cause) i e = refl
apart_left (notes.Lost serial) i e = refl
apart_left (notes.TimedOut serial) i e = refl
apart_left (notes.Ran j n k at cdb bytes check) i e = refl
apart_left (notes.Ended j n k status) i e = refl
apart_left (notes.Cut j n cause) i e = refl
apart_left (notes.Dead j n cause) i e = refl
apart_left (notes.Managed j word subject status login) i e = refl
apart_left (notes.ManageFailed j cause) i e = refl
apart_left (notes.Held id) i e = refl
apart_left (notes.Expired id) i e = refl
apart_left (notes.Back id) i e = refl
apart_left (notes.Left id) i e = refl
apart_left (notes.Cleared at) i e = refl
apart_left (notes.Stuck j) i e = refl
apart_left (notes.Reset generation) i e = refl
apart_left notes.Tick i e = refl
apart_left (notes.Refused line number) i e = refl
apart_left notes.Settled i e = refl
apart_left notes.Stopped i e = refl
apart_left (notes.Key at) i e = refl
apart_left (notes.Unsolicited j) i e = refl
apart_left (notes.Unsent j) i e = refl
apart_left (notes.Told j) i e = refl

pub orbs_apart : (note : Note) (past : List Moment) (i : ℕ) → is_apart i note ≡ true → orb_terms (said note ∷ past) i ≡ orb_terms past i
orbs_apart note past i e = orbs_left note past i (apart_left note i e)

-- ---- what is told

-- notes of an initiator that say nothing of the ORBs of this one
abbrev pub AreLeft : ℕ → List Note → Type 0
AreLeft i [] = Unit {0}
AreLeft i (note ∷ ns) = (is_left i note ≡ true) × AreLeft i ns

pub told_left : (ns : List Note) (past : List Moment) (i : ℕ) → AreLeft i ns → orb_terms (behind (own ns) past) i ≡ orb_terms past i
told_left [] past i h = refl
told_left (note ∷ ns) past i h = told_left ns (said note ∷ past) i h.1 ∙ orbs_left note past i h.0

-- sides that say nothing of ORBs
abbrev pub IsStill : Side → Type 0
IsStill (sides.Own note) = (i : ℕ) → is_left i note ≡ true
IsStill _ = ⊥

abbrev pub AreStill : List Side → Type 0
AreStill told = AllByRecursion IsStill told

pub still_left : (told : List Side) (past : List Moment) (i : ℕ) → AreStill told → orb_terms (behind told past) i ≡ orb_terms past i
still_left [] past i h = refl
still_left (side ∷ told) past i h = still_left told (by_side side past) i h.1 ∙ one_side side past i h.0
  where
    one_side : (side : Side) (past : List Moment) (i : ℕ) → IsStill side → orb_terms (by_side side past) i ≡ orb_terms past i
    one_side (sides.Own note) past i h = orbs_left note past i (h i)
    one_side (sides.Opened place orb) past i h = absurd h
    one_side (sides.Ran place orb cdb payload outcome) past i h = absurd h
    one_side (sides.Ended place orb status) past i h = absurd h
    one_side (sides.Dead place cause) past i h = absurd h
    one_side (sides.Cut place cause) past i h = absurd h
    one_side (sides.Managed node function subject status login) past i h = absurd h
    one_side (sides.ManageFailed node cause) past i h = absurd h
    one_side (sides.Held login) past i h = absurd h
    one_side (sides.Expired login) past i h = absurd h
    one_side (sides.Back login) past i h = absurd h
    one_side (sides.Left login) past i h = absurd h
    one_side (sides.Cleared unit) past i h = absurd h
    one_side (sides.Unsolicited place) past i h = absurd h
    one_side (sides.Unsent place) past i h = absurd h
