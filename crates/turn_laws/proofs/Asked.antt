-- `asked` of the sent law: each request of the target that nothing wants as it is sent is the write of an unsolicited status to an initiator of which `unsolicited` stands before it in its turn, the first packet there to it: turn by turn, and so moment by moment.
use Rattle.std.proofs.Common.{arith, ◌≡◌, ◌∙◌, refl, sym, subst, zero, suc, ◌≤◌, ◌&&◌, Bool, true, false, cond, List, [], ◌∷◌, None}
use Rattle.rbc_disk.specs.Disk.{Disk}
use Rattle.sbp_journal.specs.Run.{Moment, asked, said}
use Rattle.sbp_journal.specs.Wire.{terms}
use Rattle.sbp_journal.specs.declared.note.Note.{Note}
use Rattle.sbp_journal.specs.declared.note.Note.TheVariants as notes
use Rattle.sbp_laws.specs.ActionLaw.{OrdersTurn}
use Rattle.sbp_laws.specs.CarriedLaw.{RunsWhereDue}
use Rattle.sbp_laws.specs.Deliveries.{once_told}
use Rattle.sbp_laws.specs.Packets.{access_in_bytes}
use Rattle.sbp_laws.specs.SentLaw.{end_of}
use Rattle.sbp_laws.specs.Targets.{taken_on, target_at}
use Rattle.sbp_laws.specs.Turns.{EachMoment, EachTurn, EachTurnBefore, Turn, Where, is_sent, sends_of, turn}
use Rattle.sbp_laws.specs.Unasked.{NoneUnasked, is_announced, is_push, is_unasked}
use Rattle.sbp_world.specs.Histories.{history_of}
use Rattle.sbp_world.specs.Hosts.Runs.{more_deliveries}
use Rattle.sbp_world.proofs.Common.{untrue}
use Rattle.sbp_world.proofs.Lists.Courses.{more_than_one}
use Rattle.sbp_world.proofs.Lists.Executes.{due_runs_law}
use Rattle.turn_laws.specs.Asked.{AskedLaw}
use Rattle.turn_laws.specs.Runs.{OfEveryRun, history_between}
use Rattle.turn_laws.proofs.Begun.{IsBegun, IsReady, moments_begun, ready_more, ready_none, told_begun}
use Rattle.turn_laws.proofs.EachTurns.{joined_law}
use Rattle.turn_laws.proofs.PresentOrbs.{told_one}
use Rattle.turn_laws.proofs.PushPlaces.{ArePlaced, placed_law}
use Rattle.turn_laws.proofs.RequestPackets.{Sound, sound_law}
use Rattle.turn_laws.proofs.SentOwn.{AllOwn}
use Rattle.turn_laws.proofs.TargetHails.{AreForeign, AsksCalled, IsCalling, called_law, calling, foreign, silent}
use Rattle.turn_laws.proofs.TargetRequests.{AsksAll, asks_law}
use Rattle.turn_laws.proofs.UnaskedDue.{Due, EachDue, turn_due}
use Rattle.turn_laws.proofs.UnaskedPushes.{HailedAt, hailed_at, note_more}

-- ---- each note of some behind a history meets a condition
module _ (At : Moment → List Moment → Type 0) where
  abbrev pub NotesHold : List Moment → List Note → Type 0
  NotesHold past [] = Unit {0}
  NotesHold past (note ∷ rest) = At (said note) past × NotesHold (said note ∷ past) rest

-- what is known of a turn
record IsSo (start : List Disk) (t : Turn) : Type 0 where
  called : AsksCalled start t
  sound : Sound start t
  all : AsksAll start t
  placed : ArePlaced start t
  runs : RunsWhereDue (λ i. false) start t

module _ (start : List Disk) where
  abbrev Hold : List Moment → List Note → Type 0
  Hold past ns = NotesHold (NoneUnasked start) past ns

  -- no packet of the target
  foreign_at : (note : Note) (past : List Moment) → AreForeign (note ∷ []) → NoneUnasked start (said note) past
  foreign_at (notes.Sent serial generation zero to bytes) past f = absurd (f.0 refl)
  foreign_at (notes.Sent serial generation (suc from) to bytes) past f = tt
  foreign_at note past f = tt

  foreign_hold : (ns : List Note) (past : List Moment) → AreForeign ns → Hold past ns
  foreign_hold [] past f = tt
  foreign_hold (note ∷ ns) past f = (foreign_at note past (f.0, tt), foreign_hold ns (said note ∷ past) f.1)

  unsent_at : (note : Note) (past : List Moment) → is_sent note ≡ false → NoneUnasked start (said note) past
  unsent_at (notes.Sent serial generation from to bytes) past e = untrue (sym e)
  unsent_at note past e = tt

  silent_hold : (ns : List Note) (past : List Moment) → sends_of ns ≡ [] → Hold past ns
  silent_hold [] past e = tt
  silent_hold (note ∷ ns) past e = by (λ g. silent_hold ns (said note ∷ past) g) (is_sent note) refl e
    where
      by : (sends_of ns ≡ [] → Hold (said note ∷ past) ns) → (b : Bool) → is_sent note ≡ b → cond b (note ∷ sends_of ns) (sends_of ns) ≡ [] → Hold past (note ∷ ns)
      by later true f g = absurd (let no : note ∷ sends_of ns ≡ [] = g in cc)
      by later false f g = (unsent_at note past f, later g)

  module _ (t : Turn) (c : IsCalling start t) (own : AllOwn (end_of t)) where
    abbrev Low : List Moment → Type 0
    Low past = (terms (t.start ∷ t.past)).count ≤ (terms past).count

    due_at : (note : Note) (past : List Moment) → HailedAt start t c past note → Due t past note → NoneUnasked start (said note) past
    due_at (notes.Sent serial generation zero to bytes) past h d = by (is_unasked (taken_on None (target_at start past).reply (target_at start past)) (access_in_bytes bytes)) refl
      where
        by : (b : Bool) → is_unasked (taken_on None (target_at start past).reply (target_at start past)) (access_in_bytes bytes) ≡ b → Where b ((is_push (access_in_bytes bytes) && is_announced past to) ≡ true)
        by true e = let x = h e in d x.0 x.1.0 x.1.1
        by false e = tt
    due_at (notes.Sent serial generation (suc from) to bytes) past h d = tt
    due_at note past h d = tt

    calling_hold : (ns : List Note) (past : List Moment) → once_told past ns ≡ end_of t → Low past → EachDue t past ns → Hold past ns
    calling_hold [] past is low due = tt
    calling_hold (note ∷ ns) past is low due =
        let then = said note ∷ past in
        let more = note_more note past in
        (due_at note past (hailed_at start t c note ns past is own low) due.0, calling_hold ns then (sym (told_one note ns past) ∙ is) (omega (arith, low, more)) due.1)

  turn_holds : (t : Turn) → IsSo start t → Hold (t.start ∷ t.past) t.rest
  turn_holds t so = by so.called
    where
      by : AsksCalled start t → Hold (t.start ∷ t.past) t.rest
      by (foreign f) = foreign_hold t.rest (t.start ∷ t.past) f
      by (silent e) = silent_hold t.rest (t.start ∷ t.past) e
      by (calling c) =
          let order = subst (λ x. OrdersTurn x t) c.begins so.sound.ordered in
          calling_hold t c so.sound.own t.rest (t.start ∷ t.past) refl (omega arith) (turn_due start t so.sound so.all so.placed so.runs c.inner order)

-- ---- from turns to moments
module _ (start : List Disk) (L : Turn → Type 0) (holds : (t : Turn) → L t → Hold start (t.start ∷ t.past) t.rest) where
  abbrev Both : List Moment → List Note → Type 0
  Both past rest = EachMoment (NoneUnasked start) past × Hold start past rest

  begins : (first : Note) (past : List Moment) (rest : List Note) → NoneUnasked start (said first) past → EachMoment (NoneUnasked start) past → L (turn past (said first) rest) → Both (said first ∷ past) rest
  begins first past rest at each h = ((at, each), holds (turn past (said first) rest) h)

  moments : (past : List Moment) (rest : List Note) → IsBegun past → IsReady past rest → EachTurnBefore L past rest → Both past rest
  moments [] [] b r h = (tt, tt)
  moments [] (note ∷ rest) b r h = absurd r
  moments (asked line event ∷ past) rest b r h = ((tt, (moments past [] b (ready_none past) h.1).0), holds (turn past (asked line event) rest) h.0)
  moments (said (notes.Got serial) ∷ past) rest b r h = begins (notes.Got serial) past rest tt (moments past [] b.1 (ready_none past) h.1).0 h.0
  moments (said (notes.Ignored serial cause) ∷ past) rest b r h = begins (notes.Ignored serial cause) past rest tt (moments past [] b.1 (ready_none past) h.1).0 h.0
  moments (said (notes.TimedOut serial) ∷ past) rest b r h = begins (notes.TimedOut serial) past rest tt (moments past [] b.1 (ready_none past) h.1).0 h.0
  moments (said (notes.Seen node generation) ∷ past) rest b r h = begins (notes.Seen node generation) past rest tt (moments past [] b.1 (ready_none past) h.1).0 h.0
  moments (said notes.Tick ∷ past) rest b r h = begins notes.Tick past rest tt (moments past [] b.1 (ready_none past) h.1).0 h.0
  moments (said notes.Settled ∷ past) rest b r h = begins notes.Settled past rest tt (moments past [] b.1 (ready_none past) h.1).0 h.0
  moments (said notes.Stopped ∷ past) rest b r h = begins notes.Stopped past rest tt (moments past [] b.1 (ready_none past) h.1).0 h.0
  moments (said note ∷ past) rest b r h = let k = moments past (note ∷ rest) b.1 (ready_more past (note ∷ rest) b.0) h in ((k.1.0, k.0), k.1.1)

runs_law : OfEveryRun (λ start past. EachTurn (RunsWhereDue (λ i. false) start) past)
runs_law = record {
  after_lines = λ line run is some most size. due_runs_law.after_lines line run is some most size (λ i. false);
  between = λ line run is some most size next deliveries told may. due_runs_law.between line run is some most size next (more_deliveries deliveries) (more_than_one deliveries) told may (λ i. false);
}

abbrev IsCalled : List Disk → Turn → Type 0
IsCalled start t = AsksCalled start t × Sound start t

abbrev IsKnown : List Disk → Turn → Type 0
IsKnown start t = (AsksAll start t × ArePlaced start t) × RunsWhereDue (λ i. false) start t

so_law : OfEveryRun (λ start past. EachTurn (IsSo start) past)
so_law =
    joined_law IsCalled IsKnown IsSo (λ start t x y. record { called = x.0; sound = x.1; all = y.0.0; placed = y.0.1; runs = y.1 })
    (joined_law AsksCalled Sound IsCalled (λ start t x y. (x, y)) called_law sound_law)
    (joined_law (λ start t. AsksAll start t × ArePlaced start t) (λ start t. RunsWhereDue (λ i. false) start t) IsKnown (λ start t x y. (x, y))
    (joined_law AsksAll ArePlaced (λ start t. AsksAll start t × ArePlaced start t) (λ start t x y. (x, y)) asks_law placed_law) runs_law)

pub asked_law : AskedLaw
asked_law = record {
  after_lines = λ line run is some most size.
      let start = run.start.disks in
      (moments start (IsSo start) (turn_holds start) (history_of line run) [] (moments_begun line run run.entries) (ready_none (history_of line run)) (so_law.after_lines line run is some most size)).0;
  between = λ line run is some most size next deliveries told may.
      let start = run.start.disks in
      let past = history_between line run next deliveries told in
      let begun = (told_begun _ (asked next _ ∷ history_of line run) tt (moments_begun line run run.entries)).0 in
      (moments start (IsSo start) (turn_holds start) past [] begun (ready_none past) (so_law.between line run is some most size next deliveries told may)).0;
}
