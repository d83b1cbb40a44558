-- A list whose write of ORB_POINTER was not taken was not cut; and a list that is open was not cut: the write is got once, at one place.
use Rattle.sbp_world.proofs.Words.Std.{arith, ◌≡◌, ◌⊎◌, inl, inr, ◌∙◌, refl, sym, ap, subst, ◌<◌, ◌≤◌, ℕ, Bool, true, false, List, [], ◌∷◌, ◌++◌, Option, Some, None, Ok, same_Some}
use Rattle.sbp_world.proofs.Words.Wire.{Packet, reading, Holder, Moment, said, Sending, terms}
use Rattle.sbp_world.proofs.Words.Target.{demand_of}
use Rattle.sbp_world.proofs.Words.Initiator.{slot_of}
use Rattle.sbp_world.proofs.Words.Laws.{list_in, named_in, is_cut}
use Rattle.sbp_world.proofs.Words.World.{IsOfWire, PointersAt, pointed_list, IsCalm, WasHad, IsPointedBy, WasOpened, AreNamedFor}
use Rattle.sbp_journal.specs.declared.note.Note.TheVariants as notes
use Rattle.target_base.specs.declared.address.Access.TheVariants as accesses
use Rattle.sbp_world.proofs.Lists.OpenFresh.{writes_of}
use Rattle.sbp_world.proofs.Lists.OpenHad.{Was, WasElse}
use Rattle.sbp_world.proofs.Lists.OpenNews.{got_more, got_news}
use Rattle.sbp_world.proofs.Lists.OpenPlacing.{one_place}
use Rattle.sbp_world.proofs.Common.{moments_joined as joined}

module _ (past : List Moment) (i : ℕ) (named : AreNamedFor past i) (pointers : PointersAt past i) (lasting : (later earlier : List Moment) (serial : ℕ) (sent : Sending) → later ++ said (notes.Got serial) ∷ earlier ≡ past → (terms earlier).sent serial ≡ Some sent → (terms past).sent serial ≡ Some sent) where
  -- the list that a place had is that of the write
  list_for : (later earlier : List Moment) (serial : ℕ) (sent : Sending) (place address n : ℕ) → later ++ said (notes.Got serial) ∷ earlier ≡ past → (terms earlier).sent serial ≡ Some sent → IsPointedBy sent i place address → Some n ≡ list_in (named_in earlier i (slot_of address)) → pointed_list past serial i ≡ Some n
  list_for later earlier serial sent place address n is sent_is pointed list_is =
      let f = named later earlier serial sent place address is sent_is pointed in f.pointed ∙ sym (list_is ∙ ap list_in f.there)

  pub had_for : (n place : ℕ) (o : WasOpened past i place (Some n)) → pointed_list past o.serial i ≡ Some n
  had_for n place o = list_for o.later o.earlier o.serial o.sent place o.address n o.is o.sent_is o.pointed o.list_is

  -- ---- a write that was not taken
  module _ (had : (n : ℕ) → is_cut past i n ≡ true → WasHad past i n) (n serial : ℕ) (is : pointed_list past serial i ≡ Some n) (fresh : (terms past).news serial ≡ 0) where
    never : WasHad past i n → ⊥
    never h =
        let o = h.opened in
        let same : o.serial ≡ serial = pointers.once n o.serial serial (had_for n h.place o) is in
        let got = subst (λ s. 0 < (terms past).news s) same (got_news o.serial o.later o.earlier past o.sent o.is o.sent_is) in
        omega (arith, got, fresh)

    pub waits_uncut : is_cut past i n ≡ false
    waits_uncut = by (is_cut past i n) refl
      where
        by : (b : Bool) → is_cut past i n ≡ b → b ≡ false
        by true e = absurd (never (had n e))
        by false e = refl

  -- ---- a list that is open
  module _ (calm : IsCalm past i) (wire : IsOfWire past) where
    -- its write was taken at most once
    most : (n serial : ℕ) → pointed_list past serial i ≡ Some n → (terms past).news serial ≤ 1
    most n serial e =
        let k = pointers.each n serial e in
        let x = writes_of k.packet.bytes _ k.spelled refl in
        (wire.once serial x.label k.packet k.sent k.honest x.part).most (ap (λ j. (terms past).injects j) k.from_is ∙ calm)

    module _ (n p : ℕ) (o : WasOpened past i p (Some n)) where
      is_for : pointed_list past o.serial i ≡ Some n
      is_for = had_for n p o

      -- another one was got before
      before : WasHad o.earlier i n → ⊥
      before h =
          let x = h.opened in
          let front = o.later ++ said (notes.Got o.serial) ∷ [] in
          let is : (front ++ x.later) ++ said (notes.Got x.serial) ∷ x.earlier ≡ past =
          joined front x.later (said (notes.Got x.serial) ∷ x.earlier) ∙ ap (λ ms. front ++ ms) x.is ∙ joined o.later (said (notes.Got o.serial) ∷ []) o.earlier ∙ o.is in
          let same : x.serial ≡ o.serial =
          pointers.once n x.serial o.serial (list_for (front ++ x.later) x.earlier x.serial x.sent h.place x.address n is x.sent_is x.pointed x.list_is) is_for in
          let got = subst (λ s. 0 < (terms o.earlier).news s) same (got_news x.serial x.later x.earlier o.earlier x.sent x.is x.sent_is) in
          let again = got_more o.serial o.later o.earlier past o.sent o.is o.sent_is in
          let few = most n o.serial is_for in
          omega (arith, got, again, few)

      -- another place had it
      elsewhere : WasElse past i n p → ⊥
      elsewhere h =
          let x = h.had.opened in
          let same : x.serial ≡ o.serial = pointers.once n x.serial o.serial (had_for n h.had.place x) is_for in
          let one = lasting o.later o.earlier o.serial o.sent o.is o.sent_is in
          let two = lasting x.later x.earlier x.serial x.sent x.is x.sent_is in
          let sent_same : x.sent ≡ o.sent = same_Some x.sent o.sent (sym (subst (λ s. (terms past).sent s ≡ Some x.sent) same two) ∙ one) in
          let read : Ok x.pointed.packet ≡ Ok o.pointed.packet = sym x.pointed.read ∙ ap (λ (k : Sending). reading k.bytes) sent_same ∙ o.pointed.read in
          let packet_same : x.pointed.packet ≡ o.pointed.packet = cc in
          h.other (one_place o.pointed.packet x.pointed.rom o.pointed.rom h.had.place p (accesses.Point x.pointed.pointer) (accesses.Point o.pointed.pointer)
          (ap (λ (k : Packet). demand_of x.pointed.rom k) (sym packet_same) ∙ x.pointed.asks) o.pointed.asks)

      opened_uncut : (is_cut past i n ≡ true → WasHad o.earlier i n ⊎ WasElse past i n p) → is_cut past i n ≡ false
      opened_uncut spared = by (is_cut past i n) refl
        where
          never_both : WasHad o.earlier i n ⊎ WasElse past i n p → ⊥
          never_both (inl h) = before h
          never_both (inr h) = elsewhere h

          by : (b : Bool) → is_cut past i n ≡ b → b ≡ false
          by true e = absurd (never_both (spared e))
          by false e = refl

    spared_in : (n p : ℕ) (list : Option ℕ) → list ≡ Some n → (o : WasOpened past i p list) → ((m : ℕ) → list ≡ Some m → is_cut past i m ≡ true → WasHad o.earlier i m ⊎ WasElse past i m p) → is_cut past i n ≡ false
    spared_in n p None e o f = absurd (let z : None ≡ Some n = e in cc)
    spared_in n p (Some m) e o f = subst (λ k. is_cut past i k ≡ false) (same_Some m n e) (opened_uncut m p o (f m refl))

-- who has a place, by the world
pub open_uncut : (past : List Moment) (h : Holder) (p n : ℕ) → AreNamedFor past h.initiator → PointersAt past h.initiator → ((later earlier : List Moment) (serial : ℕ) (sent : Sending) → later ++ said (notes.Got serial) ∷ earlier ≡ past → (terms earlier).sent serial ≡ Some sent → (terms past).sent serial ≡ Some sent) → IsCalm past h.initiator → IsOfWire past → h.list ≡ Some n → Was past h p → is_cut past h.initiator n ≡ false
open_uncut past h p n named pointers lasting calm wire list w = spared_in past h.initiator named pointers lasting calm wire n p h.list list w.opened w.spared
