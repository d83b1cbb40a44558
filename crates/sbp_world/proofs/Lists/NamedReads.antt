-- An ORB that was brought of a slot that it had then was read as the laws have it, behind its append; and where its list was open as its read was sent, whole.
use Rattle.sbp_world.proofs.Words.Std.{arith, ◌≡◌, ◌∙◌, refl, sym, ap, subst, append_assoc, ◌<◌, ◌+◌, ℕ, suc, Bool, false, List, [], ◌∷◌, ◌++◌, Some, same_Some}
use Rattle.sbp_world.proofs.Words.Wire.{SerialsCount, Moment, said, terms, Access}
use Rattle.sbp_world.proofs.Words.Target.{Disk}
use Rattle.sbp_world.proofs.Words.Initiator.{CommandOrb}
use Rattle.sbp_world.proofs.Words.Laws.{address_of, before_sent, open_list, named_orb, prepared_in, initiator_at, over, target_at, EachMoment, OrderLaw, appends, lists}
use Rattle.sbp_world.proofs.Words.World.{IsCalm, IsNamedBrought, AnswersAt, IsBrought, SentAsGot, read_access}
use Rattle.sbp_journal.specs.declared.note.Note.TheVariants as notes
use Rattle.sbp_world.proofs.Lists.Calm.{calm_before}
use Rattle.sbp_world.proofs.Lists.BegunLists.{latest_then, order_from}
use Rattle.sbp_world.proofs.Lists.WasReads.{SpellsOrb, it_answers, was_appended, was_read, was_read_by}
use Rattle.sbp_world.proofs.Lists.AsGot.{AsGot}
use Rattle.sbp_world.proofs.Lists.OpenGots.{OpenAsGot}
use Rattle.sbp_world.proofs.Lists.OpenSends.{AreOpenReads}
use Rattle.sbp_world.proofs.Lists.StatusLogins.{each_there as each_at}

-- the ORB has this name
pub record IsOfName (start : List Disk) (past : List Moment) (place address : ℕ) (orb : CommandOrb) (i n k : ℕ) (x : IsNamedBrought start past place address orb) : Type 0 where
  pub initiator : x.i ≡ i
  pub list : x.led.n ≡ n
  pub number : x.led.k ≡ k

module _ (start : List Disk) (past : List Moment) (place i n k : ℕ) (orb : CommandOrb) (x : IsNamedBrought start past place (address_of past i n k) orb) (name : IsOfName start past place (address_of past i n k) orb i n k x) (few : place < 8) (counts : SerialsCount past) (calm : IsCalm past i) (fair : (terms past).injects 0 ≡ false) (answers : EachMoment AnswersAt past) (sent : EachMoment (SentAsGot start) past) (opens : OpenAsGot start past) (wild : ℕ → Bool) (law : OrderLaw wild past) where
  abbrev b : IsBrought start past place (address_of past i n k) orb
  b = x.brought

  of_it : initiator_at (over (target_at start b.earlier)) (terms b.earlier) place ≡ i
  of_it =
      let e = same_Some (initiator_at (over (target_at start b.earlier)) (terms b.earlier) place + 1) (suc x.i) (sym b.asked.to ∙ x.to) in
      let f = name.initiator in
      omega (arith, e, f)

  there : prepared_in b.earlier i x.led.slot ≡ Some (named_orb n k)
  there =
      subst (λ j. prepared_in b.earlier j x.led.slot ≡ Some (named_orb n k)) name.initiator
      (x.led.there ∙ ap (λ a. Some (named_orb a x.led.k)) name.list ∙ ap (λ a. Some (named_orb n a)) name.number)

  appended : k < appends (before_sent b.earlier b.request) i n
  appended = was_appended start past place (address_of past i n k) orb b counts i of_it calm sent few x.led.slot n k x.led.small x.led.stands there

  latest : suc n ≡ lists (before_sent b.earlier b.request) i
  latest =
      let e = subst (λ j. suc x.led.n ≡ lists b.earlier j) name.initiator x.led.latest in
      let f = name.list in
      let law_then : OrderLaw wild (said (notes.Got b.response) ∷ b.earlier) = order_from wild b.later (said (notes.Got b.response) ∷ b.earlier) (subst (OrderLaw wild) (sym b.is) law) in
      latest_then wild i n b.earlier b.request k law_then.1 (omega (arith, e, f)) appended

  -- the list was open then, and it is this one
  opened : open_list start (before_sent b.earlier b.request) i ≡ Some n
  opened =
      let then : AreOpenReads start b.earlier = each_at (AsGot (AreOpenReads start)) b.later (said (notes.Got b.response)) b.earlier (subst (EachMoment (AsGot (AreOpenReads start))) (sym b.is) opens) in
      let y = then place few b.which b.request i (record {
        waits = b.waited;
        to = x.to ∙ ap (λ j. Some (suc j)) name.initiator;
        calm = calm_before (b.later ++ said (notes.Got b.response) ∷ []) b.earlier i (subst (λ ms. IsCalm ms i) (sym (append_assoc b.later (said (notes.Got b.response) ∷ []) b.earlier ∙ b.is)) calm);
        access = read_access (address_of past i n k) 32;
        is = b.asked.is ∙ ap (λ (a : Access). Some a) b.asked.asks;
        reads = refl;
      }) in
      let e = y.latest in
      let f = latest in
      y.opened ∙ ap (λ j. Some j) (let z : y.n ≡ n = omega (arith, e, f) in z)

  pub named_read : SpellsOrb start past i n k orb
  named_read =
      was_read start past place (address_of past i n k) orb b counts i n k of_it refl
      (it_answers start past place (address_of past i n k) orb b counts i of_it calm answers fair)
      appended opened

  pub named_read_by : named_read.read.response ≡ b.response
  unfolding named_read
  named_read_by =
      was_read_by start past place (address_of past i n k) orb b counts i n k of_it refl
      (it_answers start past place (address_of past i n k) orb b counts i of_it calm answers fair)
      appended opened
