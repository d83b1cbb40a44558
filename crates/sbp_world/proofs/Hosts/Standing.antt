-- A response stands right behind the note by which its request was judged.
use Rattle.sbp_world.proofs.Words.Std.{◌≡◌, refl, sym, ◌∙◌, ap, subst, ℕ, Bool, true, false, List, [], ◌∷◌, ◌++◌, Option, Some, None}
use Rattle.sbp_world.proofs.Words.Wire.{rcode_of, AreAnswered, IsSentFor, is_plain, Moment, asked, said, Kind, Part, Sending, Transaction, asked_by, between, begun_by, part_of, request, response, Owed, Terms, begins, gets, gets_as, ignores, ignores_that, judges, judges_if, opened, puts, sends, terms, Cause, Event, Note}
use Rattle.sbp_world.proofs.Words.World.{history_of, Run, after, beginning, IsRun, IsOwedThere, StandingLaw, StandsBehind, note_of}
use Rattle.sbp_journal.specs.Transactions.{no_packet}
use Rattle.sbp_journal.specs.declared.cause.Cause.TheVariants as causes
use Rattle.sbp_journal.specs.declared.event.Event.TheVariants as events
use Rattle.sbp_journal.specs.declared.note.Note.TheVariants as notes
use Rattle.sbp_world.proofs.FitInitiator.Law.{fitting_law as own_fitting_law}
use Rattle.sbp_world.proofs.FitTarget.Law.{fitting_law}
use Rattle.sbp_world.proofs.Wire.Runs.{sound_after}
use Rattle.sbp_world.proofs.Wire.Starts.{laws_of}
use Rattle.sbp_world.proofs.Lists.ManageTerms.{closes_owes, late_owes}
use Rattle.sbp_world.proofs.Lists.ManageSends.{pays_owes}

none_some : {A : Type 0} (x : Option A) (y : A) → x ≡ Some y → x ≡ None → ⊥
none_some x y e f = differ (sym f ∙ e)
  where
    differ : None ≡ Some y → ⊥
    differ e = cc

opened_owes : (event : Event) (t : Terms) → (opened event t).owes ≡ t.owes
opened_owes (events.Reset physical) t = refl
opened_owes (events.Repeat serial) t = refl
opened_owes _ t = refl

begins_owes : (u : Option Transaction) (s : ℕ) (packet : Sending) (t : Terms) → (begins u s packet t).owes ≡ t.owes
begins_owes None s packet t = refl
begins_owes (Some u) s packet t = refl

sends_owes : (s : ℕ) (packet : Sending) (t : Terms) → (sends s packet t).owes ≡ None
sends_owes s packet t =
    pays_owes t.owes t.sent s packet (begins (begun_by packet) s packet (puts (begun_by packet) s packet t)) (begins_owes (begun_by packet) s packet (puts (begun_by packet) s packet t))

-- ---- a request is judged

abbrev Judges : Terms → Terms → ℕ → Option Cause → Type 0
Judges t u s cause = (owed : Owed) → u.owes ≡ Some owed → t.owes ≡ None → note_of owed.serial owed.cause ≡ note_of s cause

judged_note : (u : Option Transaction) (cause : Option Cause) (s : ℕ) (packet : Sending) (t : Terms) → Judges t (judges u cause s packet t) s cause
judged_note None cause s packet t owed e f = absurd (none_some t.owes owed e f)
judged_note (Some u) cause s packet t owed e f =
    let now : Owed = record { serial = s; cause = cause } in
    let g : now ≡ owed = cc in
    ap (λ (x : Owed). note_of x.serial x.cause) (sym g)

judged_if : (b : Bool) (u : Option Transaction) (s : ℕ) (packet : Sending) (t : Terms) → Judges t (judges_if b u s packet t) s (Some causes.Grammar)
judged_if true u s packet t owed e f = judged_note u (Some causes.Grammar) s packet t owed e f
judged_if false u s packet t owed e f = absurd (none_some t.owes owed e f)

got_as : (part : Part) (s : ℕ) (packet : Sending) (t : Terms) → Judges t (gets_as part s packet t) s None
got_as (request label kind) s packet t owed e f = judged_note (asked_by packet) None s packet t owed e f
got_as (response label kind) s packet t owed e f =
    let u = between packet packet.to packet.from label in
    absurd (none_some t.owes owed (sym (closes_owes (t.held u) u kind (rcode_of packet.bytes) t) ∙ e) f)
got_as no_packet s packet t owed e f = absurd (none_some t.owes owed e f)

got : (found : Option Sending) (s : ℕ) (t : Terms) → Judges t (gets found s t) s None
got None s t owed e f = absurd (none_some t.owes owed e f)
got (Some packet) s t owed e f = got_as (part_of packet.bytes) s packet _ owed e f

ignored : (cause : Cause) (s : ℕ) (packet : Sending) (t : Terms) → Judges t (ignores cause s packet t) s (Some cause)
ignored causes.Generation s packet t owed e f = absurd (none_some t.owes owed e f)
ignored causes.Grammar s packet t owed e f = judged_if _ (asked_by packet) s packet _ owed e f
ignored causes.Label s packet t owed e f = absurd (none_some t.owes owed e f)
ignored causes.Again s packet t owed e f = judged_note (asked_by packet) (Some causes.Again) s packet t owed e f
ignored causes.Source s packet t owed e f = judged_note (asked_by packet) (Some causes.Source) s packet _ owed e f
ignored causes.Login s packet t owed e f = judged_note (asked_by packet) (Some causes.Login) s packet _ owed e f
ignored causes.Slot s packet t owed e f = judged_note (asked_by packet) (Some causes.Slot) s packet _ owed e f

ignored_that : (found : Option Sending) (cause : Cause) (s : ℕ) (t : Terms) → Judges t (ignores_that found cause s t) s (Some cause)
ignored_that None cause s t owed e f = absurd (none_some t.owes owed e f)
ignored_that (Some packet) cause s t owed e f = ignored cause s packet _ owed e f

-- ---- a history

first_behind : (note : Note) (past : List Moment) (owed : Owed) → note_of owed.serial owed.cause ≡ note → StandsBehind (said note ∷ past) owed
first_behind note past owed e = record { effects = []; plain = tt; past = past; is = ap (λ x. said x ∷ past) (sym e) }

later_behind : (note : Note) (past : List Moment) (owed : Owed) → is_plain note ≡ true → StandsBehind past owed → StandsBehind (said note ∷ past) owed
later_behind note past owed p h = record { effects = note ∷ h.effects; plain = (p, h.plain); past = h.past; is = ap (λ ms. said note ∷ ms) h.is }

owes_behind : (before : List Moment) → AreAnswered before → (owed : Owed) → (terms before).owes ≡ Some owed → StandsBehind before owed
unfolding is_plain
owes_behind [] h owed e = absurd (none_some None owed e refl)
owes_behind (asked line event ∷ past) h owed e = absurd (none_some (terms past).owes owed (sym (opened_owes event (terms past)) ∙ e) h.0)
owes_behind (said (notes.Sent s generation from to bytes) ∷ past) h owed e =
    let t = terms past in
    let packet : Sending = record { generation = generation; from = from; to = to; bytes = bytes; injected = t.injected s } in
    absurd (none_some (sends s packet t).owes owed e (sends_owes s packet t))
owes_behind (said (notes.Injected s) ∷ past) h owed e = absurd (none_some (terms past).owes owed e h.0)
owes_behind (said (notes.Lost s) ∷ past) h owed e = absurd (none_some (terms past).owes owed e h.0)
owes_behind (said (notes.TimedOut s) ∷ past) h owed e = absurd (none_some (terms past).owes owed (sym (late_owes _ (terms past)) ∙ e) h.0)
owes_behind (said (notes.Reset generation) ∷ past) h owed e = absurd (none_some (terms past).owes owed e h.0)
owes_behind (said (notes.Seen node generation) ∷ past) h owed e = absurd (none_some (terms past).owes owed e h.0)
owes_behind (said (notes.Got s) ∷ past) h owed e = first_behind (notes.Got s) past owed (got ((terms past).sent s) s (terms past) owed e h.0)
owes_behind (said (notes.Ignored s cause) ∷ past) h owed e = first_behind (notes.Ignored s cause) past owed (ignored_that ((terms past).sent s) cause s (terms past) owed e h.0)
owes_behind (said note ∷ past) h owed e = later_behind note past owed refl (owes_behind past h owed e)

-- what was answered before a moment
pub answered_from : (later before : List Moment) → AreAnswered (later ++ before) → AreAnswered before
answered_from [] before h = h
answered_from (said (notes.Sent s generation from to bytes) ∷ later) before h = answered_from later before h.1
answered_from (said (notes.Injected s) ∷ later) before h = answered_from later before h.1
answered_from (said (notes.Got s) ∷ later) before h = answered_from later before h.1
answered_from (said (notes.Ignored s cause) ∷ later) before h = answered_from later before h.1
answered_from (said (notes.Lost s) ∷ later) before h = answered_from later before h.1
answered_from (said (notes.TimedOut s) ∷ later) before h = answered_from later before h.1
answered_from (said (notes.Reset generation) ∷ later) before h = answered_from later before h.1
answered_from (said (notes.Seen node generation) ∷ later) before h = answered_from later before h.1
answered_from (said note ∷ later) before h = answered_from later before h
answered_from (asked line event ∷ later) before h = answered_from later before h.1

module _ (before : List Moment) (serial generation from to : ℕ) (bytes : List ℕ) (h : AreAnswered (said (notes.Sent serial generation from to bytes) ∷ before)) (honest : (terms before).injected serial ≡ false) (label : ℕ) (kind : Kind) (part : part_of bytes ≡ response label kind) where
  by_owed : (o : Option Owed) → (terms before).owes ≡ o → IsOwedThere before
  by_owed (Some owed) e = record { owed = owed; owes = e; stands = owes_behind before h.1 owed e }
  by_owed None e = absurd (differ (sym honest ∙ unowed))
    where
      differ : false ≡ true → ⊥
      differ e = cc

      unowed : (terms before).injected serial ≡ true
      unowed =
          let t = terms before in
          let packet : Sending = record { generation = generation; from = from; to = to; bytes = bytes; injected = t.injected serial } in
          subst (λ x. IsSentFor x t packet) e h.0 label kind part

  pub stands_there : IsOwedThere before
  stands_there = by_owed (terms before).owes refl

-- ---- a run

answered : (line : ℕ) (run : Run) → IsRun run → AreAnswered (history_of line run)
answered line run q =
    let b = sound_after fitting_law own_fitting_law line run run.entries q.few q.short q.entries q.lines in
    subst AreAnswered b.is (laws_of b.past (after (beginning run) run.entries).world b.sound.stands).answered

pub standing_law : StandingLaw
standing_law = record {
  responses = λ line run q later before serial generation from to bytes label kind e honest part.
      stands_there before serial generation from to bytes
      (answered_from later (said (notes.Sent serial generation from to bytes) ∷ before) (subst AreAnswered (sym e) (answered line run q))) honest label kind part;
}
