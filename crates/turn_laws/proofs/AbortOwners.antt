-- In each turn of every run an abort with 00 is of the initiator whose login its management ORB names: the management acts on the login of the node that sent the ORB.
use Rattle.std.proofs.Common.{◌≡◌, ◌∙◌, ◌⊎◌, inl, inr, sym, ap, subst, ℕ, true, List, [], ◌∷◌}
use Rattle.login_table.specs.Sound.{IsTable}
use Rattle.login_table.specs.Table.{place_at}
use Rattle.mgmt_agent.specs.declared.decision.Effect.TheVariants as effects
use Rattle.orb_layout.specs.Replies.{Answer}
use Rattle.rbc_disk.specs.Disk.{Disk}
use Rattle.sbp_journal.specs.Run.{Moment, asked, said}
use Rattle.sbp_journal.specs.Wire.{terms}
use Rattle.sbp_journal.specs.declared.event.Event.{Event}
use Rattle.sbp_journal.specs.declared.note.Note.{Note}
use Rattle.sbp_journal.specs.declared.note.Note.TheVariants as notes
use Rattle.sbp_journal.specs.declared.operation.FunctionWord.TheVariants as words
use Rattle.sbp_laws.specs.Agents.{target_before, wire_before}
use Rattle.sbp_laws.specs.Management.{operator_for, operator_of}
use Rattle.sbp_laws.specs.Targets.{Target, has_id, initiator_at, login_at, node_in}
use Rattle.sbp_laws.specs.Turns.{EachMoment, EachTurn, EachTurnBefore, Turn, turn}
use Rattle.sbp_world.specs.Histories.{history_of}
use Rattle.sbp_world.proofs.Common.{untrue}
use Rattle.turn_laws.specs.AbortOwners.{AbortOwnersLaw, IsOfOwner, IsOwnAbort}
use Rattle.turn_laws.specs.Runs.{OfEveryRun, history_between}
use Rattle.turn_laws.proofs.AbortFacts.{Done}
use Rattle.turn_laws.proofs.AbortHistory.{AreMarked, IsAbort}
use Rattle.turn_laws.proofs.AbortRuns.{AbortOr, IsRooted, MarkedBefore, N, Root, TurnFacts, abort_or, asked_root, d, decided_is, is_abort, kept_fit, more, no_abort, none_more, note_as, now, now_is, rest_is, root_of, s, said_root, word}
use Rattle.turn_laws.proofs.AbortTurns.{AllFit, First, IsFirst, Manages, first, manages, none_fit, others}
use Rattle.turn_laws.proofs.Aborts.{facts_law, marks_law, rooted_law}
use Rattle.turn_laws.proofs.EachTurns.{joined_law}

-- ---- the notes of a turn
abbrev AreOwnAborts : List Disk → List Moment → List Note → Type 0
AreOwnAborts start past [] = Unit {0}
AreOwnAborts start past (note ∷ rest) = IsOwnAbort start (said note) past × AreOwnAborts start (said note ∷ past) rest

abbrev AbortsByOwners : List Disk → Turn → Type 0
AbortsByOwners start t = AreOwnAborts start (t.start ∷ t.past) t.rest

-- ---- where no abort has 00
module _ (start : List Disk) where
  one_owned : (note : Note) (past : List Moment) → IsAbort note → IsOwnAbort start (said note) past
  one_owned (notes.Managed i words.Abort subject status login) past f = λ e. untrue (sym f ∙ e)
  one_owned note past f = tt

  fit_owned : (past : List Moment) (rest : List Note) → AllFit rest → AreOwnAborts start past rest
  fit_owned past [] f = tt
  fit_owned past (note ∷ rest) f = (one_owned note past f.0, fit_owned (said note ∷ past) rest f.1)

-- ---- where the target gets an answer for the management
module _ (start : List Disk) (t : Turn) (f : TurnFacts start t) (h : AreMarked start t.past) (answer : Answer) (M : Manages start t.past t.start answer) (table : IsTable (target_before start t).table) where
  abbrev T : Target
  T = target_before start t

  abbrev i : ℕ
  i = operator_of T t

  module _ (place orb : ℕ) (e : (s start t f h answer M table).0.effect ≡ effects.Abort place orb) where
    abbrev there : Target
    there = N start t f h answer M table place orb e

    abbrev behind : List Moment
    behind = now start t f h answer M table place orb e

    abbrev done : Done T.table table T.keys T.manager.operation answer (s start t f h answer M table).0 place orb
    done = d start t f h answer M table place orb e

    of_owner : (q : ℕ) → has_id done.decided.orb.subject (login_at there q) ≡ true → initiator_at there (terms behind) q ≡ i
    of_owner q g = M.ids (node_in (place_at T.table.places q)) ∙ (done.owner q g (wire_before t) ∙ sym (ap (λ c. operator_for c (wire_before t) T) M.call))

    own_abort : IsOwnAbort start (said (note_as start t f h answer M table place orb e words.Abort)) behind
    own_abort zero =
        subst (λ (x : Target). IsOfOwner x (terms behind) i x.decided) (sym (now_is start t f h answer M table place orb e))
        (subst (λ x. IsOfOwner there (terms behind) i x) (sym (decided_is start t f h answer M table place orb e)) of_owner)

    abort_owned : AbortsByOwners start t
    abort_owned =
        let noted = note_as start t f h answer M table place orb e in
        let rest = more start t f h answer M table place orb e in
        subst (AreOwnAborts start behind) (sym (rest_is start t f h answer M table place orb e))
        (subst (λ w. IsOwnAbort start (said (noted w)) behind) (sym done.word_is) own_abort, fit_owned start (said (noted (word start t f h answer M table place orb e)) ∷ behind) rest (none_fit rest (none_more start t f h answer M table place orb e)).0)

  managed_owned : AbortsByOwners start t
  managed_owned = by (abort_or (s start t f h answer M table).0.effect)
    where
      by : AbortOr (s start t f h answer M table).0.effect → AbortsByOwners start t
      by (is_abort place orb e) = abort_owned place orb e
      by (no_abort n) = fit_owned start (t.start ∷ t.past) t.rest (kept_fit start t f h answer M table n)

-- ---- each turn
turn_owned : (start : List Disk) (t : Turn) → TurnFacts start t → IsFirst t.start × AreMarked start t.past → AbortsByOwners start t
turn_owned start t f h = by (first start t.past t.start h.0) f.table
  where
    by : First start t.past t.start → (IsTable (target_before start t).table ⊎ ((line : ℕ) × ((event : Event) × (t.start ≡ asked line event)))) → AbortsByOwners start t
    by (manages answer M) (inl table) = managed_owned start t f h.1 answer M table
    by (manages answer M) (inr x) = absurd (let no : asked x.0 x.1.0 ≡ said M.note = sym x.1.1 ∙ M.is in cc)
    by (others quiet marks) x = fit_owned start (t.start ∷ t.past) t.rest (none_fit t.rest (f.logins.decisions ∙ quiet (operator_of (target_before start t) t))).0

-- ---- each moment, turn by turn
module _ (start : List Disk) where
  abbrev Owned : List Moment → Type 0
  Owned past = EachMoment (IsOwnAbort start) past

  abbrev Facts : Turn → Type 0
  Facts t = TurnFacts start t × MarkedBefore start t

  turn_of : (past : List Moment) (moment : Moment) (rest : List Note) → IsFirst moment → Facts (turn past moment rest) → AreOwnAborts start (moment ∷ past) rest
  turn_of past moment rest is f = turn_owned start (turn past moment rest) f.0 (is, f.1)

  each : (past : List Moment) (rest : List Note) → Root past rest → EachTurnBefore Facts past rest → Owned past × AreOwnAborts start past rest
  each [] [] r e = (tt, tt)
  each [] (note ∷ rest) r e = absurd r
  each (asked line event ∷ past) rest r e = ((tt, (each past [] (asked_root line event past r) e.1).0), turn_of past (asked line event) rest tt e.0)
  each (said (notes.Got serial) ∷ past) rest r e = let n = notes.Got serial in ((tt, (each past [] (said_root n past [] r) e.1).0), turn_of past (said n) rest tt e.0)
  each (said (notes.Ignored serial cause) ∷ past) rest r e = let n = notes.Ignored serial cause in ((tt, (each past [] (said_root n past [] r) e.1).0), turn_of past (said n) rest tt e.0)
  each (said (notes.TimedOut serial) ∷ past) rest r e = let n = notes.TimedOut serial in ((tt, (each past [] (said_root n past [] r) e.1).0), turn_of past (said n) rest tt e.0)
  each (said (notes.Seen node generation) ∷ past) rest r e = let n = notes.Seen node generation in ((tt, (each past [] (said_root n past [] r) e.1).0), turn_of past (said n) rest tt e.0)
  each (said notes.Tick ∷ past) rest r e = ((tt, (each past [] (said_root notes.Tick past [] r) e.1).0), turn_of past (said notes.Tick) rest tt e.0)
  each (said notes.Settled ∷ past) rest r e = ((tt, (each past [] (said_root notes.Settled past [] r) e.1).0), turn_of past (said notes.Settled) rest tt e.0)
  each (said notes.Stopped ∷ past) rest r e = ((tt, (each past [] (said_root notes.Stopped past [] r) e.1).0), turn_of past (said notes.Stopped) rest tt e.0)
  each (said note ∷ past) rest r e = let b = each past (note ∷ rest) (said_root note past (note ∷ rest) r) e in ((b.1.0, b.0), b.1.1)

  each_owned : (past : List Moment) → IsRooted past → EachTurn Facts past → Owned past
  each_owned past r e = (each past [] (root_of past r) e).0

marked_facts_law : OfEveryRun (λ start past. EachTurn (Facts start) past)
marked_facts_law = joined_law TurnFacts MarkedBefore Facts (λ start t x y. (x, y)) facts_law marks_law

pub abort_owners_law : AbortOwnersLaw
abort_owners_law = record {
  after_lines = λ line run is some most size.
      each_owned run.start.disks (history_of line run) (rooted_law.after_lines line run is some most size) (marked_facts_law.after_lines line run is some most size);
  between = λ line run is some most size next deliveries told may.
      each_owned run.start.disks (history_between line run next deliveries told) (rooted_law.between line run is some most size next deliveries told may)
      (marked_facts_law.between line run is some most size next deliveries told may);
}
