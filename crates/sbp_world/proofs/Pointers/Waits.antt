-- A request of an AGENT_RESET or of a read of AGENT_STATE that is under way: the bus knows it under its label, it was sent in the line of such an
-- action, and a read that counts for a list tells of it.
use Rattle.sbp_world.proofs.Words.Std.{arith, ◌≡◌, refl, sym, ◌∙◌, ap, ℕ, zero, suc, ◌+◌, ◌≤◌, ◌==◌, nat_eq, Bool, true, false, cond, List, [], ◌∷◌, Option, Some, None, nat_tests, not-true}
use Rattle.sbp_world.proofs.Words.Wire.{awaits, shape, shape_of, transaction, ReplyKind, Layer, state_for, Moment, asked, said, Kind, Sending, Transaction, Held, Terms, terms, waits, Judged, Action, Event, Note, Side, judged_note}
use Rattle.sbp_world.proofs.Words.Initiator.{Purpose}
use Rattle.sbp_world.proofs.Words.World.{behind, asked_in, state_list}
use Rattle.sbp_journal.specs.declared.cause.Judged.TheVariants as judgements
use Rattle.sbp_journal.specs.declared.event.Action.TheVariants as actions
use Rattle.sbp_journal.specs.declared.note.Note.TheVariants as notes
use Rattle.sbp_journal.specs.declared.side.Side.TheVariants as sides
use Rattle.sbp_initiator.specs.declared.purpose.Purpose.TheVariants as purposes
use Rattle.sbp_world.proofs.Wire.Agrees.{got_agrees, ignored_agrees, timed_agrees}
use Rattle.sbp_world.proofs.Hosts.Carries.{is_apart}
use Rattle.sbp_world.proofs.Hosts.Held.{got_waits, ignored_quiet, sent_count, timed_waits}
use Rattle.sbp_world.proofs.Hosts.Layered.{AreTame, LayerLeft, is_tame, read, same}
use Rattle.sbp_world.proofs.Hosts.Lives.{At, AskedAt, Called, ask_at, asked_now, was_asked}
use Rattle.sbp_world.proofs.Hosts.PointerNotes.{Fit, opens, tame_told}
use Rattle.sbp_world.proofs.Hosts.Pointing.{asked_generation, at_same, sent_waits}
use Rattle.sbp_world.proofs.Hosts.Shown.{IsShown}
use Rattle.sbp_world.proofs.Common.{cond_off, least, untrue}

-- what such a request is for, and the action that makes it
abbrev pub is_cared : Purpose → Bool
is_cared (purposes.AgentReset act) = true
is_cared (purposes.State act list) = true
is_cared _ = false

abbrev pub makes : Action → Purpose → Bool
makes actions.AgentReset (purposes.AgentReset act) = true
makes actions.State (purposes.State act list) = true
makes _ _ = false

-- the list that a read of AGENT_STATE counts for
abbrev pub counted_in : Purpose → Option ℕ
counted_in (purposes.State act list) = list
counted_in _ = None

pub record AskedFor (past : List Moment) (i generation number : ℕ) (purpose : Purpose) : Type 0 where
  pub kind : Kind
  pub serial : ℕ
  pub held : (terms past).held (transaction generation (suc i) 0 number) ≡ waits kind serial
  pub action : Action
  pub asked : asked_in past serial i ≡ Some action
  pub for : makes action purpose ≡ true
  pub below : serial ≤ (terms past).count
  pub told : (n : ℕ) → counted_in purpose ≡ Some n → state_list past serial i ≡ Some n

pub record Asks (past : List Moment) (i target : ℕ) (layer : Layer Purpose) : Type 0 where
  pub waits_for : (number : ℕ) (purpose : Purpose) → is_cared purpose ≡ true → At layer target number (Some purpose) → AskedFor past i layer.generation number purpose

-- ---- what leaves the labels

module _ (past now : List Moment) (i target : ℕ) (layer : Layer Purpose) (held : (g m : ℕ) → (terms now).held (transaction g (suc i) 0 m) ≡ (terms past).held (transaction g (suc i) 0 m)) (count : (terms past).count ≤ (terms now).count) (asked_same : (n : ℕ) → n ≤ (terms past).count → asked_in now n i ≡ asked_in past n i) (told_same : (n : ℕ) → n ≤ (terms past).count → state_list now n i ≡ state_list past n i) where
  pub still_asks : Asks past i target layer → Asks now i target layer
  still_asks k = record {
    waits_for = λ m p c a.
        let w = k.waits_for m p c a in
        record { kind = w.kind; serial = w.serial; held = held layer.generation m ∙ w.held; action = w.action; asked = asked_same w.serial w.below ∙ w.asked; for = w.for; below = (let b = w.below in omega arith); told = λ n e. told_same w.serial w.below ∙ w.told n e };
  }

-- a note of an initiator is no packet
asked_note : (note : Note) (past : List Moment) → is_tame note ≡ true → asked_in (said note ∷ past) ≡ asked_in past
asked_note (notes.Append j n k cdb buffer) past e = refl
asked_note (notes.Low j n k) past e = refl
asked_note (notes.Linked j n k) past e = refl
asked_note (notes.Rung j n k) past e = refl
asked_note (notes.Dummied j n k) past e = refl
asked_note (notes.Taken j n k status answer) past e = refl
asked_note (notes.Drop j n) past e = refl
asked_note (notes.Op j operation word) past e = refl
asked_note (notes.Stuck j) past e = refl
asked_note (notes.Told j) past e = refl
asked_note _ past e = untrue e

pub asked_told : (told : List Side) (past : List Moment) → AreTame told → asked_in (behind told past) ≡ asked_in past
asked_told [] past t = refl
asked_told (sides.Own note ∷ later) past t = asked_told later (said note ∷ past) t.1 ∙ asked_note note past t.0
asked_told (_ ∷ later) past t = absurd t.0

state_note : (note : Note) (past : List Moment) → is_tame note ≡ true → state_list (said note ∷ past) ≡ state_list past
state_note (notes.Append j n k cdb buffer) past e = refl
state_note (notes.Low j n k) past e = refl
state_note (notes.Linked j n k) past e = refl
state_note (notes.Rung j n k) past e = refl
state_note (notes.Dummied j n k) past e = refl
state_note (notes.Taken j n k status answer) past e = refl
state_note (notes.Drop j n) past e = refl
state_note (notes.Op j operation word) past e = refl
state_note (notes.Stuck j) past e = refl
state_note (notes.Told j) past e = refl
state_note _ past e = untrue e

pub state_told : (told : List Side) (past : List Moment) → AreTame told → state_list (behind told past) ≡ state_list past
state_told [] past t = refl
state_told (sides.Own note ∷ later) past t = state_told later (said note ∷ past) t.1 ∙ state_note note past t.0
state_told (_ ∷ later) past t = absurd t.0

pub other : {A : Type 0} (b c : Bool) (x y : A) → c ≡ false → cond b (cond c x y) y ≡ y
other true true x y e = untrue (sym e)
other true false x y e = refl
other false c x y e = refl

pub asked_apart : (note : Note) (past : List Moment) (i : ℕ) → is_apart i note ≡ true → (n : ℕ) → asked_in (said note ∷ past) n i ≡ asked_in past n i
asked_apart (notes.Sent s generation zero to bytes) past i e n = refl
asked_apart (notes.Sent s generation (suc j) to bytes) past i e n =
    other (nat_eq n s) (nat_eq i j) _ (asked_in past n i) (let f : (suc j == suc i) ≡ false = not-true (suc j == suc i) e in grind (arith, nat_tests))
asked_apart note past i e n = refl

pub state_apart : (note : Note) (past : List Moment) (i : ℕ) → is_apart i note ≡ true → (n : ℕ) → state_list (said note ∷ past) n i ≡ state_list past n i
state_apart (notes.Sent s generation zero to bytes) past i e n = refl
state_apart (notes.Sent s generation (suc j) to bytes) past i e n =
    other (nat_eq n s) (nat_eq i j) _ (state_list past n i) (let f : (suc j == suc i) ≡ false = not-true (suc j == suc i) e in grind (arith, nat_tests))
state_apart note past i e n = refl

-- a packet that is sent is a new one
pub asked_sent : (serial generation from to : ℕ) (bytes : List ℕ) (past : List Moment) (i n : ℕ) → n ≤ (terms past).count → serial ≡ (terms past).count + 1 → asked_in (said (notes.Sent serial generation from to bytes) ∷ past) n i ≡ asked_in past n i
asked_sent serial generation zero to bytes past i n l e = refl
asked_sent serial generation (suc j) to bytes past i n l e = cond_off (nat_eq n serial) _ (asked_in past n i) (grind (arith, nat_tests))

pub state_sent : (serial generation from to : ℕ) (bytes : List ℕ) (past : List Moment) (i n : ℕ) → n ≤ (terms past).count → serial ≡ (terms past).count + 1 → state_list (said (notes.Sent serial generation from to bytes) ∷ past) n i ≡ state_list past n i
state_sent serial generation zero to bytes past i n l e = refl
state_sent serial generation (suc j) to bytes past i n l e = cond_off (nat_eq n serial) _ (state_list past n i) (grind (arith, nat_tests))

pub sent_asks : (serial generation from to : ℕ) (bytes : List ℕ) (past : List Moment) (i target : ℕ) (layer : Layer Purpose) → Fit (said (notes.Sent serial generation from to bytes) ∷ past) → Asks past i target layer → Asks (said (notes.Sent serial generation from to bytes) ∷ past) i target layer
sent_asks serial generation from to bytes past i target layer fit k = record {
  waits_for = λ m p c a.
      let t = terms past in
      let packet : Sending = record { generation = generation; from = from; to = to; bytes = bytes; injected = t.injected serial } in
      let w = k.waits_for m p c a in
      record {
        kind = w.kind;
        serial = w.serial;
        held = sent_waits t serial packet fit.sent.0 (transaction layer.generation (suc i) 0 m) w.kind w.serial w.held;
        action = w.action;
        asked = asked_sent serial generation from to bytes past i w.serial w.below fit.serials.0 ∙ w.asked;
        for = w.for;
        below = (let b = w.below in let d = sent_count serial packet t in omega arith);
        told = λ n e. state_sent serial generation from to bytes past i w.serial w.below fit.serials.0 ∙ w.told n e;
      };
}

-- ---- a transaction ends

-- a label that waits then did so before
abbrev pub Ends : List Moment → Note → Type 0
Ends past note = (v : Transaction) (kind : ReplyKind) → shape_of ((terms (said note ∷ past)).held v) ≡ awaits kind → (terms (said note ∷ past)).held v ≡ (terms past).held v

pub judged_ends : (serial : ℕ) (judged : Judged) (past : List Moment) → Ends past (judged_note serial judged)
judged_ends serial judgements.Got past = λ v kind e. got_waits ((terms past).sent serial) serial (terms past) v kind e
judged_ends serial (judgements.Ignored cause) past = λ v kind e. ap (λ h. h v) (ignored_quiet ((terms past).sent serial) cause serial (terms past)).held

pub timed_ends : (serial : ℕ) (past : List Moment) → Ends past (notes.TimedOut serial)
timed_ends serial past = λ v kind e. timed_waits ((terms past).sent serial) (terms past) v kind e

none_rom : {A : Type 0} (purpose : Purpose) (act : ℕ) → is_cared purpose ≡ true → Some purpose ≡ Some (purposes.Rom act) → A
none_rom purpose act c e = untrue (let f : purpose ≡ purposes.Rom act = cc in sym (ap is_cared f) ∙ c)

module _ (past : List Moment) (note : Note) (i target : ℕ) (old l : Layer Purpose) (e : Ends past note) (count : (terms past).count ≤ (terms (said note ∷ past)).count) (asked_same : asked_in (said note ∷ past) ≡ asked_in past) (told_same : state_list (said note ∷ past) ≡ state_list past) (k : Asks past i target old) (c : Called l) (generation_is : l.generation ≡ old.generation) (back : (number : ℕ) (purpose : Option Purpose) → At l target number purpose → At old target number purpose) (shown : IsShown (said note ∷ past) i target l) (told : List Side) (tame : AreTame told) where
  abbrev ended : List Moment
  ended = said note ∷ past

  abbrev later : List Moment
  later = behind told ended

  here : (m : ℕ) (kind : ReplyKind) → shape (state_for l.peers target m) ≡ awaits kind → (terms ended).held (transaction old.generation (suc i) 0 m) ≡ (terms past).held (transaction old.generation (suc i) 0 m)
  here m kind w =
      e (transaction old.generation (suc i) 0 m) kind (ap (λ g. shape_of ((terms ended).held (transaction g (suc i) 0 m))) (sym generation_is) ∙ sym (shown.states m) ∙ w)

  from_left : (new : Layer Purpose) → LayerLeft l target new → (m : ℕ) (purpose : Purpose) → is_cared purpose ≡ true → At new target m (Some purpose) → At l target m (Some purpose)
  from_left new (same g p) m purpose d a = at_same new l target m (Some purpose) (sym p) a
  from_left new (read body act quad step) m purpose d a = by_asked (ask_at l target body (purposes.Rom act) quad new target m (Some purpose) c step a)
    where
      by_asked : AskedAt l target quad (purposes.Rom act) target m (Some purpose) → At l target m (Some purpose)
      by_asked (asked_now p n f) = none_rom purpose act d f
      by_asked (was_asked b) = b

  stays : (new : Layer Purpose) → LayerLeft l target new → new.generation ≡ old.generation
  stays new (same g p) = g ∙ generation_is
  stays new (read body act quad step) = asked_generation l target body (purposes.Rom act) quad new step ∙ generation_is

  pub ended_asks : (new : Layer Purpose) → LayerLeft l target new → Asks later i target new
  ended_asks new left =
      let wire = (tame_told told ended i tame).wire in
      let g = stays new left in
      record {
        waits_for = λ m p d a.
            let b = from_left new left m p d a in
            let w = k.waits_for m p d (back m (Some p) b) in
            let v = transaction old.generation (suc i) 0 m in
            record {
              kind = w.kind;
              serial = w.serial;
              held = ap (λ x. (terms later).held (transaction x (suc i) 0 m)) g ∙ ap (λ (x : Terms). x.held v) wire ∙ here m b.kind (ap shape b.state) ∙ w.held;
              action = w.action;
              asked = ap (λ (f : ℕ → ℕ → Option Action). f w.serial i) (asked_told told ended tame ∙ asked_same) ∙ w.asked;
              for = w.for;
              below = (let x = w.below in let y = ap (λ (z : Terms). z.count) wire in omega arith);
              told = λ n e. ap (λ (f : ℕ → ℕ → Option ℕ). f w.serial i) (state_told told ended tame ∙ told_same) ∙ w.told n e;
            };
      }

  -- what waits then did so before
  pub ended_held : (new : Layer Purpose) → LayerLeft l target new → (m : ℕ) (p : Purpose) → is_cared p ≡ true → At new target m (Some p) → (kind : Kind) (serial : ℕ) → (terms later).held (transaction new.generation (suc i) 0 m) ≡ waits kind serial → At old target m (Some p) × ((terms past).held (transaction old.generation (suc i) 0 m) ≡ waits kind serial)
  ended_held new left m p d a kind serial w =
      let b = from_left new left m p d a in
      let wire = (tame_told told ended i tame).wire in
      let v = transaction old.generation (suc i) 0 m in
      (back m (Some p) b, sym (ap (λ x. (terms later).held (transaction x (suc i) 0 m)) (stays new left) ∙ ap (λ (x : Terms). x.held v) wire ∙ here m b.kind (ap shape b.state)) ∙ w)

pub judged_count : (serial : ℕ) (judged : Judged) (past : List Moment) → (terms past).count ≤ (terms (said (judged_note serial judged) ∷ past)).count
judged_count serial judgements.Got past = least _ _ (got_agrees ((terms past).sent serial) serial (terms past)).count
judged_count serial (judgements.Ignored cause) past = least _ _ (ignored_agrees ((terms past).sent serial) cause serial (terms past)).count

pub judged_asked : (serial : ℕ) (judged : Judged) (past : List Moment) → asked_in (said (judged_note serial judged) ∷ past) ≡ asked_in past
judged_asked serial judgements.Got past = refl
judged_asked serial (judgements.Ignored cause) past = refl

pub judged_state : (serial : ℕ) (judged : Judged) (past : List Moment) → state_list (said (judged_note serial judged) ∷ past) ≡ state_list past
judged_state serial judgements.Got past = refl
judged_state serial (judgements.Ignored cause) past = refl

pub timed_count : (serial : ℕ) (past : List Moment) → (terms past).count ≤ (terms (said (notes.TimedOut serial) ∷ past)).count
timed_count serial past = least _ _ (timed_agrees ((terms past).sent serial) (terms past)).count

-- a line begins
pub line_asks : (line : ℕ) (event : Event) (past : List Moment) (i target : ℕ) (layer : Layer Purpose) → Asks past i target layer → Asks (asked line event ∷ past) i target layer
line_asks line event past i target layer k =
    let o = opens event (terms past) in
    still_asks past (asked line event ∷ past) i target layer (λ g m. ap (λ (x : Transaction → Held). x (transaction g (suc i) 0 m)) o.held) (least _ _ o.count) (λ n l. refl) (λ n l. refl) k

-- what is told that is no packet
pub told_asks : (told : List Side) (past : List Moment) (i target : ℕ) (layer : Layer Purpose) → AreTame told → Asks past i target layer → Asks (behind told past) i target layer
told_asks told past i target layer tame k =
    let x = tame_told told past i tame in
    still_asks past (behind told past) i target layer (λ g m. ap (λ (t : Terms). t.held (transaction g (suc i) 0 m)) x.wire) (least _ _ (ap (λ (t : Terms). t.count) x.wire)) (λ n l. ap (λ (f : ℕ → ℕ → Option Action). f n i) (asked_told told past tame)) (λ n l. ap (λ (f : ℕ → ℕ → Option ℕ). f n i) (state_told told past tame)) k
