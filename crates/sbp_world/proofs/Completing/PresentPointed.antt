-- A list with a rung ORB: a write of ORB_POINTER was sent for it, by the terms.
use Rattle.sbp_world.proofs.Words.Std.{◌≡◌, ◌∙◌, sym, ap, subst, ◌<◌, ℕ, List, [], ◌∷◌, ◌++◌, Some}
use Rattle.sbp_world.proofs.Words.Wire.{Moment, SerialsCount, asked, said}
use Rattle.sbp_world.proofs.Words.Laws.{EachMoment}
use Rattle.sbp_world.proofs.Words.World.{MayStand, pointed_list}
use Rattle.bus_transactions.specs.Sent.{AreSent}
use Rattle.sbp_journal.specs.declared.note.Note.TheVariants as notes
use Rattle.sbp_world.specs.Completing.Sights.{rung}
use Rattle.sbp_world.specs.Completing.Present.{HasWrite}
use Rattle.sbp_world.proofs.Completing.PresentRung.{AreWritten, WasWritten}
use Rattle.sbp_world.proofs.Hosts.SentMoments.{serials_from}
use Rattle.sbp_world.proofs.Lists.OpenedMoments.{pointed_remains}
use Rattle.sbp_world.proofs.Lists.StatusKnown.{each_from}
use Rattle.sbp_world.proofs.Pointers.Naming.{Naming}
use Rattle.sbp_world.proofs.Pointers.Sending.{names}

sent_one : (m : Moment) (past : List Moment) → AreSent (m ∷ past) → AreSent past
sent_one (said (notes.Sent s generation from to bytes)) past a = a.1
sent_one (said note) past a = a
sent_one (asked line event) past a = a

pub sent_from : (later before : List Moment) → AreSent (later ++ before) → AreSent before
sent_from [] before a = a
sent_from (m ∷ later) before a = sent_from later before (sent_one m (later ++ before) a)

module _ (past : List Moment) (i n : ℕ) (serials : SerialsCount past) (sent : AreSent past) (moments : EachMoment (MayStand i) past) (written : AreWritten past i) (some : 0 < rung past i n) where
  w : WasWritten past i n
  w = written n some

  back : (F : List Moment → Type 0) → F past → F (w.front ++ w.back)
  back F h = subst F (sym w.is) h

  naming : Naming w.back i
  naming = names w.back i (serials_from w.front w.back (back SerialsCount serials)) (sent_from w.front w.back (back AreSent sent)) (each_from (MayStand i) w.front w.back (back (EachMoment (MayStand i)) moments))

  pub has_write : HasWrite past i n
  has_write =
      let x = naming.named w.serial w.named in
      let is : pointed_list w.back w.serial i ≡ Some n = x.is ∙ (sym x.present ∙ w.present) in
      let low = (naming.each n w.serial is).below in
      record {
        serial = w.serial;
        pointed = ap (λ ms. pointed_list ms w.serial i) (sym w.is) ∙ (pointed_remains w.front w.back w.serial i (back SerialsCount serials) low ∙ is);
      }
