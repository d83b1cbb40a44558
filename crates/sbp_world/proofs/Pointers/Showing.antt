-- The list that an initiator has is the present one by its run. It stays so in a delivery and in a time-out, where a list that is dropped is told of, and as a
-- generation is seen.
use Rattle.sbp_world.proofs.Words.Std.{◌≡◌, refl, sym, ◌∙◌, ap, subst, ℕ, suc, ◌||◌, nat_eq, nat_lt, Bool, true, false, cond, List, [], ◌∷◌, ◌++◌, Option, Some, None, not-true}
use Rattle.sbp_world.proofs.Words.Wire.{LabelParts, Layer, seen_in_generation, seeing_step, judged_note, OutboxState, empty_outbox, Moment, said, Judged, Note, Side}
use Rattle.sbp_world.proofs.Words.Initiator.{PresentList, ListState, free_lists, free_all_step, Purpose, Running, InitiatorState, Turn, drop_where, end_step, good_end, good_event, good_word, managed_step, moved, moves_session, response_of, then_step, expire_step, receive_step, ends_list, see_step, seen_as, is_list, Seat, Event, bad, goes}
use Rattle.sbp_world.proofs.Words.Laws.{present_list}
use Rattle.sbp_world.proofs.Words.World.{behind}
use Rattle.sbp_journal.specs.declared.cause.Judged.TheVariants as judgements
use Rattle.sbp_journal.specs.declared.note.Note.TheVariants as notes
use Rattle.sbp_journal.specs.declared.operation.OpWord.TheVariants as words
use Rattle.sbp_journal.specs.declared.side.Side.TheVariants as sides
use Rattle.sbp_world.proofs.Hosts.Carries.{is_apart}
use Rattle.sbp_world.proofs.Hosts.Layered.{AreTame, is_tame}
use Rattle.sbp_world.proofs.Hosts.OrbTerms.{AreStill, is_left}
use Rattle.sbp_world.proofs.Pointers.Dropping.{drops_of, is_drop, more}
use Rattle.sbp_world.proofs.Pointers.Passing.{AreApart, itself}
use Rattle.sbp_world.proofs.Pointers.PendHears.{SameList}
use Rattle.sbp_world.proofs.Pointers.Walks.{drops, ends, expires, is_drop_note, is_kept, receives}
use Rattle.sbp_world.proofs.Pointers.WaitActs.{see_old}
use Rattle.sbp_world.proofs.Common.{cond_off, untrue}
use Rattle.sbp_world.proofs.Pointers.Naming.{turned}

-- each list that it has is the present one by the run
abbrev pub IsShowing : List Moment → ℕ → InitiatorState → Type 0
IsShowing past i s = (n : ℕ) → is_list s.lists.slots.present n ≡ true → present_list past i ≡ Some n

-- ---- what is left of a list in a delivery

-- a list that is there was there, and none was dropped
pub record Lasts (j : ℕ) (old : ListState) (told : List Side) (now : ListState) : Type 0 where
  pub had : (n : ℕ) → is_list now.slots.present n ≡ true → is_list old.slots.present n ≡ true
  pub undropped : (n : ℕ) → is_list now.slots.present n ≡ true → drops_of j told ≡ false

no_drop : (j : ℕ) (note : Note) → is_drop_note note ≡ false → is_drop j (sides.Own note) ≡ false
no_drop j (notes.Drop k n) e = untrue (sym e)
no_drop j _ e = refl

module _ (j : ℕ) (old : ListState) where
  abbrev W : List Side → Seat → ListState → Type 0
  W told seat lists = Lasts j old told lists

  plain : (event : Event) (told : List Side) (seat : Seat) (lists : ListState) → is_kept event ≡ true → W told seat lists → W told (goes event seat) lists
  plain event told seat lists e h = h

  relist : (told : List Side) (seat : Seat) (a b : ListState) → SameList a b → W told seat a → W told seat b
  relist told seat a b same h = record { had = λ n e. h.had n (sym (same n) ∙ e); undropped = λ n e. h.undropped n (sym (same n) ∙ e) }

  tells : (note : Note) (told : List Side) (seat : Seat) (lists : ListState) → is_drop_note note ≡ false → W told seat lists → W (told ++ sides.Own note ∷ []) seat lists
  tells note told seat lists e h = record { had = h.had; undropped = λ n f. more j told (sides.Own note) (no_drop j note e) ∙ h.undropped n f }

  gone : (number n : ℕ) (told : List Side) (seat : Seat) (a b : ListState) → b.slots.present ≡ None → W told seat a → W (told ++ sides.Own (notes.Drop number n) ∷ []) seat b
  gone number n told seat a b e h = record { had = λ m f. untrue (sym (ap (λ (p : Option PresentList). is_list p m) e) ∙ f); undropped = λ m f. untrue (sym (ap (λ (p : Option PresentList). is_list p m) e) ∙ f) }

  -- a status block ends an operation
  moved_lists : (b : Bool) (told : List Side) (event : Event) (s : InitiatorState) → Lasts j old told s.lists → Lasts j old told (cond b (record s { seat = goes event s.seat }) s).lists
  moved_lists true told event s h = h
  moved_lists false told event s h = h

  where_lasts : (b : Bool) (o : OutboxState) (s : InitiatorState) → Lasts j old o.sides s.lists → Lasts j old (drop_where b o s).0.sides (drop_where b o s).1.lists
  where_lasts true o s h = drops W plain relist tells gone o s h
  where_lasts false o s h = h

  managed_by : (b : Bool) (running : Running) (status : ℕ) (o : OutboxState) (s : InitiatorState) → Lasts j old o.sides s.lists → (let t = cond b (then_step (good_end running) (drop_where (ends_list (Some running.operation)) o s)) (end_step running.operation (words.Refused status) o (moved running.operation bad s)) in Lasts j old t.0.sides t.1.lists)
  managed_by true running status o s h =
      let t = drop_where (ends_list (Some running.operation)) o s in
      let event = good_event running.operation (response_of running t.1) in
      ends W plain relist tells gone running.operation (good_word running.operation (response_of running t.1)) t.0 (moved running.operation event t.1)
      (moved_lists (moves_session running.operation) t.0.sides event t.1 (where_lasts (ends_list (Some running.operation)) o s h))
  managed_by false running status o s h =
      ends W plain relist tells gone running.operation (words.Refused status) o (moved running.operation bad s) (moved_lists (moves_session running.operation) o.sides bad s h)

  here : Lasts j old [] old
  here = record { had = λ n e. e; undropped = λ n e. refl }

  manages : (running : Running) (status : ℕ) (u : InitiatorState) → u.lists ≡ old → (let t = managed_step running status empty_outbox u in Lasts j old t.0.sides t.1.lists)
  manages running status u e = managed_by (nat_eq status 0) running status empty_outbox u (record { had = λ n f. sym (ap (λ (l : ListState). is_list l.slots.present n) e) ∙ f; undropped = λ n f. refl })

pub receive_lasts : (j generation : ℕ) (bytes : List ℕ) (s : InitiatorState) → (let t = (receive_step generation bytes empty_outbox s).1 in Lasts j s.lists t.0.sides t.1.lists)
receive_lasts j generation bytes s =
    receives (W j s.lists) (plain j s.lists) (relist j s.lists) (tells j s.lists) (gone j s.lists) s (here j s.lists) (λ running status u f seat lists operation number. manages j s.lists running status u lists) generation bytes

pub expire_lasts : (j : ℕ) (label : LabelParts) (s : InitiatorState) → (let t = (expire_step label empty_outbox s).1 in Lasts j s.lists t.0.sides t.1.lists)
expire_lasts j label s = expires (W j s.lists) (plain j s.lists) (relist j s.lists) (tells j s.lists) (gone j s.lists) label s (here j s.lists)

-- ---- by the run

one_present : (note : Note) (past : List Moment) (i : ℕ) → is_tame note ≡ true → ((j : ℕ) → is_left j note ≡ true) → is_drop i (sides.Own note) ≡ false → present_list (said note ∷ past) i ≡ present_list past i
one_present (notes.Append j n k cdb buffer) past i e l d = untrue (itself j (l j))
one_present (notes.Drop j n) past i e l d = cond_off (nat_eq i j) None (present_list past i) (turned i j d)
one_present (notes.Low j n k) past i e l d = refl
one_present (notes.Linked j n k) past i e l d = refl
one_present (notes.Dummied j n k) past i e l d = refl
one_present (notes.Rung j n k) past i e l d = refl
one_present (notes.Taken j n k status answer) past i e l d = refl
one_present (notes.Op j operation word) past i e l d = refl
one_present (notes.Stuck j) past i e l d = refl
one_present (notes.Told j) past i e l d = refl
one_present _ past i e l d = untrue e

pub neither : (a b : Bool) → (a || b) ≡ false → (a ≡ false) × (b ≡ false)
neither true b e = untrue (sym e)
neither false b e = (refl, e)

-- what is told leaves the present list, where it drops none
pub told_present : (told : List Side) (past : List Moment) (i : ℕ) → AreTame told → AreStill told → drops_of i told ≡ false → present_list (behind told past) i ≡ present_list past i
told_present [] past i h l d = refl
told_present (sides.Own note ∷ later) past i h l d =
    let x = neither (is_drop i (sides.Own note)) (drops_of i later) d in
    told_present later (said note ∷ past) i h.1 l.1 x.1 ∙ one_present note past i h.0 l.0 x.0
told_present (_ ∷ later) past i h l d = absurd h.0

pub judged_present : (serial : ℕ) (judged : Judged) (past : List Moment) (i : ℕ) → present_list (said (judged_note serial judged) ∷ past) i ≡ present_list past i
judged_present serial judgements.Got past i = refl
judged_present serial (judgements.Ignored cause) past i = refl

pub lasts_showing : (past now : List Moment) (i : ℕ) (s : InitiatorState) (t : Turn) → present_list now i ≡ present_list past i → AreTame t.0.sides → AreStill t.0.sides → Lasts i s.lists t.0.sides t.1.lists → IsShowing past i s → IsShowing (behind t.0.sides now) i t.1
lasts_showing past now i s t same tame still l h = λ n e. told_present t.0.sides now i tame still (l.undropped n e) ∙ same ∙ h n (l.had n e)

-- what others say leaves it
pub apart_present : (note : Note) (past : List Moment) (i : ℕ) → is_apart i note ≡ true → present_list (said note ∷ past) i ≡ present_list past i
apart_present (notes.Append j n k cdb buffer) past i e = cond_off (nat_eq i j) (Some n) (present_list past i) (not-true (nat_eq i j) e)
apart_present (notes.Drop j n) past i e = cond_off (nat_eq i j) None (present_list past i) (not-true (nat_eq i j) e)
apart_present _ past i e = refl

pub aparts_present : (told : List Side) (past : List Moment) (i : ℕ) → AreApart i told → present_list (behind told past) i ≡ present_list past i
aparts_present [] past i h = refl
aparts_present (sides.Own note ∷ later) past i h = aparts_present later (said note ∷ past) i h.1 ∙ apart_present note past i h.0
aparts_present (_ ∷ later) past i h = absurd h.0

-- ---- a generation is seen

saw_none : (c : Bool) (s : InitiatorState) (new : Layer Purpose) (target n : ℕ) → c ≡ true → is_list (seen_as (cond c (true, new) (false, s.layer)) target empty_outbox s).1.lists.slots.present n ≡ false
unfolding free_lists free_all_step
saw_none true s new target n e = refl
saw_none false s new target n e = untrue e

pub see_none : (generation id target n : ℕ) (s : InitiatorState) → nat_lt s.layer.generation generation ≡ true → is_list (see_step generation id target empty_outbox s).1.lists.slots.present n ≡ false
unfolding see_step seeing_step
see_none generation id target n s e = saw_none (nat_lt s.layer.generation generation) s (seen_in_generation s.layer generation id) target n e

pub see_showing : (generation id target : ℕ) (past : List Moment) (i : ℕ) (s : InitiatorState) → IsShowing past i s → (let t = see_step generation id target empty_outbox s in IsShowing (behind t.0.sides (said (notes.Seen (suc i) generation) ∷ past)) i t.1)
see_showing generation id target past i s h = by (nat_lt s.layer.generation generation) refl
  where
    by : (b : Bool) → nat_lt s.layer.generation generation ≡ b → (let t = see_step generation id target empty_outbox s in IsShowing (behind t.0.sides (said (notes.Seen (suc i) generation) ∷ past)) i t.1)
    by true e = λ n f. untrue (sym (see_none generation id target n s e) ∙ f)
    by false e = subst (λ (t : Turn). IsShowing (behind t.0.sides (said (notes.Seen (suc i) generation) ∷ past)) i t.1) (sym (see_old generation id target s e)) h
