-- At rest, of a list that its initiator began since it first saw the latest reset and for which it wrote ORB_POINTER: that write was taken as new, in the generation of the initiator.
use Rattle.sbp_world.proofs.Words.Std.{arith, ◌≡◌, ◌∙◌, refl, sym, ap, subst, ◌≤◌, ℕ, suc, false, List, Some}
use Rattle.sbp_world.proofs.Words.Wire.{Moment, terms}
use Rattle.sbp_world.proofs.Words.Laws.{EachMoment}
use Rattle.sbp_world.proofs.Words.World.{IsCalm, MayStand, PointersAt, Stands, WorldState, pointed_list}
use Rattle.sbp_laws.specs.Budget.{Lossless}
use Rattle.sbp_world.specs.Completing.Sights.{IsFresh}
use Rattle.sbp_world.specs.Completing.Present.{WasPointed}
use Rattle.sbp_world.specs.Completing.RestServed.{WereTaken}
use Rattle.sbp_world.specs.Pointers.Pointers.{IsPointer}
use Rattle.sbp_world.proofs.Agents.Management.Still.{hist}
use Rattle.sbp_world.proofs.Completing.PresentFresh.{began_now, no_older}
use Rattle.sbp_world.proofs.Completing.PresentSights.{AreSights, latest_bus, latest_in, sights}
use Rattle.sbp_world.proofs.Lists.CutOffSteps.{young_at}
use Rattle.sbp_world.proofs.Lists.Judging.{counts_at}
use Rattle.sbp_world.proofs.Lists.ManageWire.{WireMoments, wire_moments}
use Rattle.sbp_world.proofs.Lists.OpenFresh.{writes_of}
use Rattle.sbp_world.proofs.Lists.Rises.{Rises, rises}
use Rattle.sbp_world.proofs.Wire.Bus.{holds}

module _ {past : List Moment} (w : WorldState) (h : Stands past w) (i n : ℕ) (calm : IsCalm (hist past w) i) (lossless : Lossless (hist past w)) (taken : WereTaken (hist past w)) (pointers : PointersAt (hist past w) i) (moments : EachMoment (MayStand i) (hist past w)) (fresh : IsFresh (hist past w) i n) (serial : ℕ) (pointed : pointed_list (hist past w) serial i ≡ Some n) where
  abbrev now : List Moment
  now = hist past w

  its : IsPointer now i n serial
  its = pointers.each n serial pointed

  level : (terms now).generation (suc i) ≡ (terms now).bus
  level = lossless.seen (suc i) (let b = fresh.inside in omega (arith, b))

  latest : (terms now).bus ≡ latest_in now
  latest = subst (λ ms. (terms ms).bus ≡ latest_in ms) h.is.past_is (sym (holds h.wire h.reached).bus_is ∙ latest_bus h.wire h.reached)

  -- the write is of the generation that the initiator is in
  current : its.packet.generation ≡ (terms now).generation (suc i)
  current =
      let begun = began_now i now (subst AreSights h.is.past_is (sights h.wire h.reached)) level (level ∙ latest) n fresh.begun in
      let older = no_older i now (subst Rises h.is.past_is (rises h.wire h.reached)) moments (subst WireMoments h.is.past_is (wire_moments h.wire h.reached)) (counts_at w h) n serial its.packet its.sent its.from_is pointed in
      let young : its.packet.generation ≤ (terms now).generation (suc i) = subst (λ node. its.packet.generation ≤ (terms now).generation node) its.from_is (young_at w h serial its.packet its.sent) in
      omega (arith, begun, older, young)

  fair : (terms now).injects 0 ≡ false
  fair = subst (λ ms. (terms ms).injects 0 ≡ false) h.is.past_is h.is.fair

  pub was_pointed : WasPointed now i n
  was_pointed =
      let x = writes_of its.packet.bytes _ its.spelled refl in
      let one = taken serial (record {
        packet = its.packet;
        sent = its.sent;
        honest = its.honest;
        label = x.label;
        part = x.part;
        latest = current ∙ level;
        from = ap (λ node. (terms now).injects node) its.from_is ∙ calm;
        to = ap (λ node. (terms now).injects node) its.to_is ∙ fair;
      }) in
      record { serial = serial; packet = its.packet; sent = its.sent; from_is = its.from_is; pointed = pointed; current = current; taken = omega (arith, one) }
