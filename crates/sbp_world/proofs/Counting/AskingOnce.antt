-- At most one write of MANAGEMENT_AGENT of an initiator waits to be judged: an operation of management begins where none waits, and then its own may alone; and what else is done sends none. So
-- it stays as the session gets stuck.
use Rattle.sbp_world.proofs.Words.Std.{◌≡◌, ◌∙◌, ◌⊎◌, inl, inr, refl, sym, ap, subst, ℕ, suc, nat_eq, Bool, true, false, List, [], ◌∷◌, Option, Some, None}
use Rattle.sbp_world.proofs.Words.Wire.{judged_note, empty_outbox, Judged, Moment, said, terms, Action, Note, Operation, Outgoing, Side}
use Rattle.sbp_world.proofs.Words.Target.{Disk}
use Rattle.sbp_world.proofs.Words.Initiator.{InitiatorState, Running, Turn, act_step, after_by, begun_as, is_managed}
use Rattle.sbp_world.proofs.Words.Laws.{event_of, is_management, operation_of}
use Rattle.sbp_world.proofs.Words.World.{IsAsking, IsBusy, IsFree, behind, manages}
use Rattle.sbp_journal.specs.declared.cause.Judged.TheVariants as judgements
use Rattle.sbp_journal.specs.declared.event.Event.TheVariants as events
use Rattle.sbp_journal.specs.declared.note.Note.TheVariants as notes
use Rattle.sbp_journal.specs.declared.side.Side.TheVariants as sides
use Rattle.sbp_world.specs.Counting.Asking.{AsksOnce}
use Rattle.sbp_world.proofs.Common.{untrue}
use Rattle.sbp_world.proofs.Hosts.ActLeft.{act_left}
use Rattle.sbp_world.proofs.Hosts.Carries.{IsNoAct, is_apart}
use Rattle.sbp_world.proofs.Hosts.Cores.{not_so}
use Rattle.sbp_world.proofs.Hosts.Hosted.{Cored, marks_of}
use Rattle.sbp_world.proofs.Hosts.Layered.{AreTame}
use Rattle.sbp_world.proofs.Hosts.PointerNotes.{tame_told}
use Rattle.sbp_world.proofs.Lists.ManageActs.{act_operation, new_by, same_operation}
use Rattle.sbp_world.proofs.Lists.ManageHand.{other_asks_none}
use Rattle.sbp_world.proofs.Lists.ManageMoments.{Hands, IsActing, MayHand, SendFacts, SightFacts, quiet_calm}
use Rattle.sbp_world.proofs.Lists.ManageOwn.{at_host}
use Rattle.sbp_world.proofs.Lists.ManageRuns.{Managed}
use Rattle.sbp_world.proofs.Lists.ManageSent.{sent_asking}
use Rattle.sbp_world.proofs.Lists.ManageSights.{again_calm, sight_calm, tame_quiet, told_hands}
use Rattle.sbp_world.proofs.Lists.ManageStays.{rests_asking}
use Rattle.sbp_world.proofs.Lists.ManageTerms.{got_rests}
use Rattle.sbp_world.proofs.Lists.ManageWrites.{no_action}
use Rattle.sbp_world.proofs.Pointers.Asks.{act_allowed}
use Rattle.sbp_world.proofs.Pointers.GuardDoes.{same_action}

-- what waits now waited before
abbrev pub Back : List Moment → List Moment → ℕ → Type 0
Back past now i = (serial place : ℕ) → IsAsking now i serial place → IsAsking past i serial place

pub back_once : (past now : List Moment) (i : ℕ) → Back past now i → AsksOnce past i → AsksOnce now i
back_once past now i back h = λ serial other place at a b. h serial other place at (back serial place a) (back other at b)

module _ (start : List Disk) (i : ℕ) where
  -- nothing is in hand, or one operation
  none_once : (now : List Moment) → IsFree start now i → AsksOnce now i
  none_once now free = λ serial other place at a b. absurd (free.none serial place a)

  busy_once : (now : List Moment) (place write : ℕ) → IsBusy start now i place write → AsksOnce now i
  busy_once now place write busy = λ serial other one at a b. (busy.only serial one a).0 ∙ sym (busy.only other at b).0

  -- ---- what sends nothing
  pub judged_back : (serial : ℕ) (j : Judged) (past : List Moment) → MayHand start i (said (judged_note serial j)) past → Back past (said (judged_note serial j) ∷ past) i
  judged_back serial judgements.Got past f = λ s place a. rests_asking start past (said (notes.Got serial) ∷ past) i serial (got_rests serial past) (λ n. refl) s place a
  judged_back serial (judgements.Ignored cause) past f = (quiet_calm start i (notes.Ignored serial cause) past refl f).asking

  pub told_back : (told : List Side) (past : List Moment) → AreTame told → Hands start i (behind told past) → Back past (behind told past) i
  told_back [] past tame hands = λ s place a. a
  told_back (sides.Own note ∷ later) past tame hands =
      let known = told_hands start i later (said note ∷ past) tame.1 hands in
      let rest = told_back later (said note ∷ past) tame.1 hands in
      λ s place a. (quiet_calm start i note past (tame_quiet note tame.0) known.0).asking s place (rest s place a)
  told_back (_ ∷ later) past tame hands = absurd tame.0

  pub sees_once : (generation : ℕ) (past : List Moment) → SightFacts start past i (suc i) generation → AsksOnce past i → AsksOnce (said (notes.Seen (suc i) generation) ∷ past) i
  sees_once generation past f h = by (nat_eq generation ((terms past).generation (suc i))) refl
    where
      by : (b : Bool) → nat_eq generation ((terms past).generation (suc i)) ≡ b → AsksOnce (said (notes.Seen (suc i) generation) ∷ past) i
      by true e = back_once past (said (notes.Seen (suc i) generation) ∷ past) i (again_calm start generation past i e f.none).asking h
      by false e = none_once (said (notes.Seen (suc i) generation) ∷ past) (f.new refl e)

  -- ---- a packet that is sent, and is none that waits
  module _ (serial generation from to : ℕ) (bytes : List ℕ) (past : List Moment) (f : SendFacts start past i serial generation from to bytes) where
    abbrev now : List Moment
    now = said (notes.Sent serial generation from to bytes) ∷ past

    pub sent_back : ((place : ℕ) → IsAsking now i serial place → ⊥) → Back past now i
    sent_back quiet = λ s place a. by s place a (sent_asking start past i serial generation from to bytes f.facts s place a)
      where
        by : (s place : ℕ) → IsAsking now i s place → IsAsking past i s place ⊎ (s ≡ serial) → IsAsking past i s place
        by s place a (inl before) = before
        by s place a (inr same) = absurd (quiet place (subst (λ n. IsAsking now i n place) same a))

    pub idle_back : IsNoAct i (event_of past) → Back past now i
    idle_back none = sent_back (λ place a. (let x = f.acts place a in no_action i past x.action none x.line))

  pub apart_back : (note : Note) (past : List Moment) → is_apart i note ≡ true → MayHand start i (said note) past → Back past (said note ∷ past) i
  apart_back (notes.Begin initiators ready) past e f = untrue e
  apart_back (notes.Sent serial generation from to bytes) past e f =
      sent_back serial generation from to bytes past f (other_asks_none serial generation from to bytes start past i (not_so (nat_eq from (suc i)) e) f)
  apart_back (notes.Got serial) past e f = judged_back serial judgements.Got past f
  apart_back (notes.Seen node generation) past e f = (sight_calm start node generation past i (not_so (nat_eq node (suc i)) e) f.none).asking
  apart_back note past e f = (quiet_calm start i note past refl f).asking

-- ---- an action
module _ (ready : Bool) (start : List Disk) (action : Action) (past : List Moment) (i : ℕ) (s : InitiatorState) (under : event_of past ≡ Some (events.Act i action)) (done : (act_step action empty_outbox s).0 ≡ None) (cored : Cored ready past i s) (packet : Outgoing) (serial generation : ℕ) where
  abbrev t : Turn
  t = (act_step action empty_outbox s).1

  abbrev ms : List Moment
  ms = behind t.0.sides past

  abbrev sent_now : List Moment
  sent_now = said (notes.Sent serial generation (suc i) 0 packet.bytes) ∷ ms

  tame : AreTame t.0.sides
  tame = (act_left action s done).told

  module _ (m : Managed ready start sent_now i t.1) (hands : Hands start i sent_now) where
    -- that begins an operation of management: the write of this one alone may wait
    begun_once : (operation : Operation) → operation_of action ≡ Some operation → is_management operation ≡ true → AsksOnce sent_now i
    begun_once operation o manages_it =
        let r : Running = begun_as (is_managed operation) operation s in
        let is : t.1.operation ≡ Some r = act_operation action s (act_allowed action s done) (marks_of ready i s cored.own.called) done ∙ ap (λ x. after_by x s) (sym (same_operation action) ∙ o) in
        let a = at_host sent_now i t.1 r m.cored.core is in
        let kind : is_management a.u.operation ≡ true = ap is_management a.same ∙ (ap is_management (new_by (is_managed operation) operation s).is ∙ manages_it) in
        busy_once start i sent_now a.u.place a.u.first ((m.kept hands).busy a.u a.is kind)

    -- and any other: it sends no such write
    not_asking : manages (operation_of action) ≡ false → (place : ℕ) → IsAsking sent_now i serial place → ⊥
    not_asking none place a =
        let x : IsActing ms i place = hands.0.acts place a in
        let same : x.action ≡ action = same_action i x.action action (sym x.line ∙ ((tame_told t.0.sides past i tame).line ∙ under)) in
        untrue (sym none ∙ (ap (λ y. manages (operation_of y)) (sym same) ∙ x.manages_it))

    other_once : manages (operation_of action) ≡ false → AsksOnce past i → AsksOnce sent_now i
    other_once none h =
        back_once ms sent_now i (sent_back start i serial generation (suc i) 0 packet.bytes ms hands.0 (not_asking none))
        (back_once past ms i (told_back start i t.0.sides past tame hands.1) h)

    pub asking_once : AsksOnce past i → AsksOnce sent_now i
    asking_once h = by (operation_of action) refl
      where
        by_kind : (operation : Operation) → operation_of action ≡ Some operation → (b : Bool) → is_management operation ≡ b → AsksOnce sent_now i
        by_kind operation o true e = begun_once operation o e
        by_kind operation o false e = other_once (ap manages o ∙ e) h

        by : (found : Option Operation) → operation_of action ≡ found → AsksOnce sent_now i
        by None o = other_once (ap manages o) h
        by (Some operation) o = by_kind operation o (is_management operation) refl
