-- The line of a run in which an operation began: behind it none has judged its first request.
use Rattle.sbp_world.proofs.Words.Std.{arith, ◌≡◌, ◌∙◌, refl, sym, ap, subst, ℕ, ◌+◌, ◌^◌, ◌<◌, ◌≤◌, nat_le, Bool, true, false, List, [], ◌∷◌, ◌++◌, map, length, Option, Some, append_assoc, nat_tests}
use Rattle.sbp_world.proofs.Words.Wire.{SerialsCount, Action, Event, Note, Moment, asked, said, terms}
use Rattle.sbp_world.proofs.Words.Target.{Told}
use Rattle.sbp_world.proofs.Words.Laws.{Underway, host_at, event_of}
use Rattle.sbp_world.proofs.Words.World.{moments_behind, happens, AreEntries, Entry, Run, after, beginning, AreLines, Scene, without_notes, OpenBefore, OperationsLast}
use Rattle.sbp_journal.specs.declared.event.Event.TheVariants as events
use Rattle.sbp_journal.specs.declared.note.Note.TheVariants as notes
use Rattle.sbp_world.proofs.Hosts.Carries.{IsNoAct}
use Rattle.sbp_world.proofs.Hosts.SentMoments.{serials_from}
use Rattle.sbp_world.proofs.Lists.OpenNews.{opened_same}
use Rattle.sbp_world.proofs.Lists.OrbsFresh.{N, acts, unsent}
use Rattle.sbp_world.proofs.Lists.UnderwayHosts.{Had, note_keeps, sent_keeps}

-- ---- a line that is no action of the initiator begins none
event_in : (ns : List Note) (line : ℕ) (event : Event) (ms : List Moment) → event_of (map said ns ++ asked line event ∷ ms) ≡ Some event
event_in [] line event ms = refl
event_in (note ∷ ns) line event ms = event_in ns line event ms

pub record WasHad (ms : List Moment) (i : ℕ) (now : Underway) : Type 0 where
  pub was : Underway
  pub is : (host_at ms i).operation ≡ Some was
  pub first : now.first ≡ was.first

one_kept : (note : Note) (past : List Moment) (i : ℕ) → IsNoAct i (event_of past) → (now : Underway) → (host_at (said note ∷ past) i).operation ≡ Some now → Had (host_at past i) (host_at (said note ∷ past) i) now
one_kept (notes.Sent serial generation from to bytes) past i n = sent_keeps serial generation from to bytes past i n
one_kept note past i n = note_keeps note past i refl

pub line_kept : (ns : List Note) (line : ℕ) (event : Event) (ms : List Moment) (i : ℕ) → IsNoAct i (Some event) → (now : Underway) → (host_at (map said ns ++ asked line event ∷ ms) i).operation ≡ Some now → WasHad ms i now
line_kept [] line event ms i n now e = record { was = now; is = e; first = refl }
line_kept (note ∷ ns) line event ms i n now e =
    let h = one_kept note (map said ns ++ asked line event ∷ ms) i (subst (IsNoAct i) (sym (event_in ns line event ms)) n) now e in
    let k = line_kept ns line event ms i n h.was h.is in
    record { was = k.was; is = k.is; first = h.same.first ∙ k.first }

-- ---- an action judges none
act_line : (r line j : ℕ) (action : Action) (told : List (Option Told)) (s : Scene) (ms : List Moment) (n : ℕ) → (terms (asked line (events.Act j action) ∷ ms)).news r ≡ n → N r (asked line (events.Act j action) ∷ ms) n (happens line (events.Act j action) told s).world
unfolding happens
act_line r line j action told s ms n o = acts r (asked line (events.Act j action) ∷ ms) n line j action (without_notes s.world) o

module _ (line : ℕ) (run : Run) (i : ℕ) (past : List Moment) (counts : SerialsCount past) (lasts : OperationsLast past i) (underway : Underway) (there : (host_at past i).operation ≡ Some underway) where
  abbrev moments : List Entry → List Moment
  moments entries = moments_behind line run entries

  pub record BeganBy : Type 0 where
    pub entries : List Entry
    pub later : List Moment
    pub is : later ++ moments entries ≡ past
    pub short : length entries + 2 < 2 ^ 32
    pub every : AreEntries (beginning run) entries
    pub fit : AreLines run entries
    pub open_before : OpenBefore line run entries
    pub fresh : (terms (moments entries)).news underway.first ≡ 0
    pub sent : underway.first ≤ (terms (moments entries)).count

  -- none of the operation is under way before it began
  pub not_before : (later ms : List Moment) → later ++ ms ≡ past → (terms ms).count < underway.first → (now : Underway) → now.first ≡ underway.first → WasHad ms i now → ⊥
  not_before later ms is l now same h =
      let s = (lasts.each later ms is h.was h.is).sent in
      let f = h.first in
      omega (arith, l, same, s, f)

  abbrev segment : Entry → List Moment
  segment e = map said e.notes ++ asked e.line e.event ∷ []

  behind_is : (e : Entry) (before : List Entry) (later : List Moment) → later ++ moments (e ∷ before) ≡ past → (later ++ segment e) ++ moments before ≡ past
  behind_is e before later is =
      append_assoc later (segment e) (moments before)
      ∙ (ap (λ ms. later ++ ms) (append_assoc (map said e.notes) (asked e.line e.event ∷ []) (moments before)) ∙ is)

  module _ (e : Entry) (before : List Entry) (every : AreEntries (beginning run) (e ∷ before)) (later : List Moment) (is : later ++ moments (e ∷ before) ≡ past) (inside : underway.first ≤ (terms (moments (e ∷ before))).count) (outside : (terms (moments before)).count < underway.first) where
    other : IsNoAct i (Some e.event) → ⊥
    other n =
        let w = lasts.was later (moments (e ∷ before)) is underway there inside in
        not_before (later ++ segment e) (moments before) (behind_is e before later is) outside w.was (sym w.same.first) (line_kept e.notes e.line e.event (moments before) i n w.was w.is)

    acted_so : (j : ℕ) (action : Action) → e.event ≡ events.Act j action → (terms (moments (e ∷ before))).news underway.first ≡ 0
    acted_so j action f =
        let r = underway.first in
        let s = after (beginning run) before in
        let ms = moments before in
        let none = (unsent r ms (serials_from (later ++ segment e) ms (subst SerialsCount (sym (behind_is e before later is)) counts)) outside).news in
        let fresh_there : (terms (asked e.line (events.Act j action) ∷ ms)).news r ≡ 0 = ap (λ (x : ℕ → ℕ). x r) (opened_same r (events.Act j action) (terms ms)) ∙ none in
        ap (λ ns. (terms (map said ns ++ asked e.line e.event ∷ ms)).news r) every.0.notes_are
        ∙ subst (λ event. (terms (map said (happens e.line event e.told s).world.fresh ++ asked e.line event ∷ ms)).news r ≡ 0) (sym f) (act_line r e.line j action e.told s ms 0 fresh_there)

    by_event : (event : Event) → e.event ≡ event → (terms (moments (e ∷ before))).news underway.first ≡ 0
    by_event (events.Act j action) f = acted_so j action f
    by_event (events.Begin initiators ready) f = absurd (other (subst (λ x. IsNoAct i (Some x)) (sym f) tt))
    by_event (events.Reset physical) f = absurd (other (subst (λ x. IsNoAct i (Some x)) (sym f) tt))
    by_event (events.See node) f = absurd (other (subst (λ x. IsNoAct i (Some x)) (sym f) tt))
    by_event (events.Deliver serial) f = absurd (other (subst (λ x. IsNoAct i (Some x)) (sym f) tt))
    by_event (events.Repeat serial) f = absurd (other (subst (λ x. IsNoAct i (Some x)) (sym f) tt))
    by_event (events.Lose serial) f = absurd (other (subst (λ x. IsNoAct i (Some x)) (sym f) tt))
    by_event (events.Timeout serial) f = absurd (other (subst (λ x. IsNoAct i (Some x)) (sym f) tt))
    by_event (events.Step count) f = absurd (other (subst (λ x. IsNoAct i (Some x)) (sym f) tt))
    by_event events.Settle f = absurd (other (subst (λ x. IsNoAct i (Some x)) (sym f) tt))
    by_event events.Tick f = absurd (other (subst (λ x. IsNoAct i (Some x)) (sym f) tt))
    by_event (events.Inject initiator bytes) f = absurd (other (subst (λ x. IsNoAct i (Some x)) (sym f) tt))
    by_event (events.Key unit key) f = absurd (other (subst (λ x. IsNoAct i (Some x)) (sym f) tt))

  pub began : (entries : List Entry) → length entries + 2 < 2 ^ 32 → AreEntries (beginning run) entries → AreLines run entries → OpenBefore line run entries → (later : List Moment) → later ++ moments entries ≡ past → underway.first ≤ (terms (moments entries)).count → BeganBy
  began [] short every fit so_far later is l = record { entries = []; later = later; is = is; short = short; every = every; fit = fit; open_before = so_far; fresh = refl; sent = l }
  began (e ∷ before) short every fit so_far later is l =
      by (λ m. began before (omega arith) every.1 fit.1 so_far.1 (later ++ segment e) (behind_is e before later is) m) (nat_le underway.first (terms (moments before)).count) refl
    where
      by : (underway.first ≤ (terms (moments before)).count → BeganBy) → (b : Bool) → nat_le underway.first (terms (moments before)).count ≡ b → BeganBy
      by earlier true f = earlier (grind (arith, nat_tests))
      by earlier false f = record { entries = e ∷ before; later = later; is = is; short = short; every = every; fit = fit; open_before = so_far; fresh = by_event e before every later is l (grind (arith, nat_tests)) e.event refl; sent = l }
