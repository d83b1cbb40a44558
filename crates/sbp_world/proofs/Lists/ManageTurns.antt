-- What is in hand of an initiator's management stays as it lets a transaction time out.
use Rattle.sbp_world.proofs.Words.Std.{arith, ◌≡◌, ◌∙◌, ◌⊎◌, inl, inr, refl, sym, ap, subst, ℕ, ◌≤◌, Bool, true, false, List, ◌∷◌, Option, Some, None}
use Rattle.sbp_world.proofs.Words.Wire.{LabelParts, Layer, expiring_step, empty_outbox, Moment, said, terms}
use Rattle.sbp_world.proofs.Words.Target.{Disk}
use Rattle.sbp_world.proofs.Words.Initiator.{Purpose, Running, InitiatorState, Turn, expire_step, is_stuck_seat}
use Rattle.sbp_world.proofs.Words.Laws.{host_at, is_management}
use Rattle.sbp_world.proofs.Words.World.{behind, IsFree}
use Rattle.sbp_journal.specs.declared.note.Note.TheVariants as notes
use Rattle.sbp_world.proofs.Wire.Agrees.{timed_agrees}
use Rattle.sbp_world.proofs.Hosts.Held.{timed_waits}
use Rattle.sbp_world.proofs.Hosts.Hosted.{Cored, expires_fit}
use Rattle.sbp_world.proofs.Hosts.Layered.{AreTame, Left as LayerOf}
use Rattle.sbp_world.proofs.Hosts.Lives.{expire_at}
use Rattle.sbp_world.proofs.Hosts.Pointed.{expired_called, expiring_stays}
use Rattle.sbp_world.proofs.Hosts.Pointing.{called_of}
use Rattle.sbp_world.proofs.Hosts.Shown.{IsShown}
use Rattle.sbp_world.proofs.Lists.ManageFirsts.{Goes, goes_then, note_first, told_first}
use Rattle.sbp_world.proofs.Lists.ManageHand.{InHand, Own, busy_on}
use Rattle.sbp_world.proofs.Lists.ManageHears.{Never, lapses_left}
use Rattle.sbp_world.proofs.Lists.ManageLabels.{Asks, asks_to, ended_asks}
use Rattle.sbp_world.proofs.Lists.ManageLeaves.{IsEnded, Left}
use Rattle.sbp_world.proofs.Lists.ManageMoments.{Hands, quiet_calm}
use Rattle.sbp_world.proofs.Lists.ManageSights.{told_busy, told_free, told_hands}
use Rattle.sbp_world.proofs.Lists.ManageStays.{Calms, calm_busy, calm_free}
use Rattle.sbp_world.proofs.Lists.ManageTerms.{none_is, same_some}

-- ---- a transaction times out

module _ (ready : Bool) (start : List Disk) (serial : ℕ) (label : LabelParts) (past : List Moment) (i : ℕ) (s : InitiatorState) (after : IsShown (said (notes.TimedOut serial) ∷ past) i s.target (expiring_step s.layer s.target label).1) (cored : Cored ready past i s) (h : InHand start past i s) where
  abbrev t : Turn
  t = (expire_step label empty_outbox s).1

  abbrev l : Layer Purpose
  l = (expiring_step s.layer s.target label).1

  abbrev late_now : List Moment
  late_now = said (notes.TimedOut serial) ∷ past

  abbrev later : List Moment
  later = behind t.0.sides late_now

  module _ (tame : AreTame t.0.sides) (hands : Hands start i later) where
    known : Hands start i late_now
    known = told_hands start i t.0.sides late_now tame hands

    calm : Calms start past late_now i
    calm = quiet_calm start i (notes.TimedOut serial) past refl known.0

    left : Left s Never t.1
    left = lapses_left s label (expires_fit ready i s cored.own.called label)

    free_as : (found : Option Running) → s.operation ≡ found → IsEnded s Never t.1 → is_stuck_seat t.1.seat ≡ false → IsFree start past i
    free_as None e k n = h.free (λ r f. none_is r (sym e ∙ f)) (left.unstuck n)
    free_as (Some r) e k n = by (is_management r.operation) refl
      where
        by : (b : Bool) → is_management r.operation ≡ b → IsFree start past i
        by true m = absurd (k.why r e m n)
        by false m = h.free (λ x f. ap (λ (y : Running). is_management y.operation) (same_some x r (sym f ∙ e)) ∙ m) (left.unstuck n)

    free_now : ((r : Running) → t.1.operation ≡ Some r → is_management r.operation ≡ false) → is_stuck_seat t.1.seat ≡ false → IsFree start later i
    free_now none n = told_free start i t.0.sides late_now tame hands (calm_free calm (by left.operation))
      where
        by : (t.1.operation ≡ s.operation) ⊎ IsEnded s Never t.1 → IsFree start past i
        by (inl e) = h.free (λ r f. none r (e ∙ f)) (left.unstuck n)
        by (inr k) = free_as s.operation refl k n

    goes : Goes (host_at past i) (host_at later i)
    goes = goes_then (host_at past i) (host_at late_now i) (host_at later i) (note_first (notes.TimedOut serial) past i refl) (told_first t.0.sides late_now i tame)

    own_now : (act n : ℕ) → Own past i s act n → Own later i t.1 act n
    own_now act n k = by left.operation
      where
        by : (t.1.operation ≡ s.operation) ⊎ IsEnded s Never t.1 → Own later i t.1 act n
        by (inl e) = λ r f a m u g. (let w = goes.on u g in sym w.first ∙ k r (sym e ∙ f) a m w.was w.is)
        by (inr d) = λ r f a m u g. none_is r (sym d.none ∙ f)

    labels_now : LayerOf l s.target t → Asks later i t.1.target t.1.layer (Own later i t.1)
    labels_now x =
        subst (λ n. Asks later i n t.1.layer (Own later i t.1)) (sym x.target_is)
        (asks_to (Own past i s) (Own later i t.1) own_now
        (ended_asks (Own past i s) past (notes.TimedOut serial) i s.target s.layer l (λ v kind e. timed_waits ((terms past).sent serial) (terms past) v kind e) (let e = (timed_agrees ((terms past).sent serial) (terms past)).count in let y : (terms past).count ≤ (terms late_now).count = omega (arith, e) in y) h.labels (expired_called ready s.layer s.target label (called_of cored)) (expiring_stays s.layer s.target label)
        (λ m q a. expire_at s.layer s.target label s.target m q (called_of cored) a) after t.0.sides tame t.1.layer x.layer))

    pub expires_hand : LayerOf l s.target t → InHand start later i t.1
    expires_hand x = record {
      free = free_now;
      busy = busy_on start past later i (λ place write k. told_busy start i t.0.sides late_now tame hands place write (calm_busy calm place write k)) goes h.busy;
      labels = labels_now x;
    }
