-- At a place: what a ring wrote for a list that its initiator began since it first saw the latest reset was sent in the generation that the initiator is in, so that it was taken as new at rest.
use Rattle.sbp_world.proofs.Words.Std.{arith, ◌≡◌, ◌∙◌, sym, ap, subst, ◌<◌, ◌≤◌, ℕ, suc, false, List, ◌∷◌, ◌++◌, Some}
use Rattle.sbp_world.proofs.Words.Wire.{Moment, Note, Sending, SerialsCount, said, terms}
use Rattle.sbp_world.proofs.Words.Laws.{EachMoment, lists}
use Rattle.sbp_world.proofs.Words.World.{IsCalm, MayStand, Stands, WorldState, begun_in}
use Rattle.sbp_journal.specs.declared.note.Note.TheVariants as notes
use Rattle.sbp_laws.specs.Budget.{Lossless}
use Rattle.sbp_world.specs.Completing.Bells.{WasBelled}
use Rattle.sbp_world.specs.Completing.RestServed.{WereTaken}
use Rattle.sbp_world.specs.Completing.Sights.{IsFresh}
use Rattle.sbp_world.proofs.Agents.Management.Still.{hist}
use Rattle.sbp_world.proofs.Completing.PresentFresh.{ages, began_now, low}
use Rattle.sbp_world.proofs.Completing.PresentSights.{AreSights, latest_bus, latest_in, sights}
use Rattle.sbp_world.proofs.Hosts.Remaining.{remains}
use Rattle.sbp_world.proofs.Hosts.SentMoments.{count_now, sent_there, serials_from}
use Rattle.sbp_world.proofs.Lists.CutOffSteps.{young_at}
use Rattle.sbp_world.proofs.Lists.Judging.{counts_at}
use Rattle.sbp_world.proofs.Lists.ManageWire.{WireAt, WireMoments, wire_moments}
use Rattle.sbp_world.proofs.Lists.OpenFresh.{writes_of}
use Rattle.sbp_world.proofs.Lists.OpenLists.{latest}
use Rattle.sbp_world.proofs.Lists.Rises.{Rises, RisesAt, rises}
use Rattle.sbp_world.proofs.Lists.StatusKnown.{each_from}
use Rattle.sbp_world.proofs.Wire.Bus.{holds}

module _ {past : List Moment} (w : WorldState) (h : Stands past w) (i n k : ℕ) (calm : IsCalm (hist past w) i) (lossless : Lossless (hist past w)) (taken : WereTaken (hist past w)) (moments : EachMoment (MayStand i) (hist past w)) (fresh : IsFresh (hist past w) i n) (written : WasBelled (hist past w) i n k) where
  abbrev now : List Moment
  now = hist past w

  abbrev back : List Moment
  back = written.back

  abbrev sent : Note
  sent = notes.Sent written.serial written.generation (suc i) written.to written.bytes

  abbrev packet : Sending
  packet = record { generation = written.generation; from = suc i; to = written.to; bytes = written.bytes; injected = (terms back).injected written.serial }

  counts : SerialsCount (written.front ++ said sent ∷ back)
  counts = subst SerialsCount (sym written.is) (counts_at w h)

  least : written.serial ≤ (terms (said sent ∷ back)).count
  least = let c = (serials_from written.front (said sent ∷ back) counts).0 in let d = count_now back written.serial written.generation (suc i) written.to written.bytes in omega (arith, c, d)

  sent_now : (terms now).sent written.serial ≡ Some packet
  sent_now =
      ap (λ ms. (terms ms).sent written.serial) (sym written.is)
      ∙ ((remains written.front (said sent ∷ back) counts).sent written.serial least ∙ sent_there back written.serial written.generation (suc i) written.to written.bytes)

  level : (terms now).generation (suc i) ≡ (terms now).bus
  level = lossless.seen (suc i) (let b = fresh.inside in omega (arith, b))

  bus_is : (terms now).bus ≡ latest_in now
  bus_is = subst (λ ms. (terms ms).bus ≡ latest_in ms) h.is.past_is (sym (holds h.wire h.reached).bus_is ∙ latest_bus h.wire h.reached)

  from_there : (F : List Moment → Type 0) → F now → F (written.front ++ said sent ∷ back)
  from_there F x = subst F (sym written.is) x

  wire_there : EachMoment WireAt (said sent ∷ back)
  wire_there = each_from WireAt written.front (said sent ∷ back) (from_there WireMoments (subst WireMoments h.is.past_is (wire_moments h.wire h.reached)))

  rises_there : EachMoment RisesAt (said sent ∷ back)
  rises_there = each_from RisesAt written.front (said sent ∷ back) (from_there Rises (subst Rises h.is.past_is (rises h.wire h.reached)))

  moments_there : EachMoment (MayStand i) (said sent ∷ back)
  moments_there = each_from (MayStand i) written.front (said sent ∷ back) (from_there (EachMoment (MayStand i)) moments)

  no_older : begun_in now i n ≤ written.generation
  no_older =
      let newest : suc n ≡ lists back i = latest i n back moments_there.1 written.present in
      let same : begun_in (written.front ++ said sent ∷ back) i n ≡ begun_in back i n = ages i written.front (said sent ∷ back) n (let l : n < lists back i = omega (arith, newest) in l) (from_there (EachMoment (MayStand i)) moments) in
      let l = low i back rises_there.1 n in
      let c : written.generation ≡ (terms back).generation (suc i) = wire_there.0.now in
      let at : begun_in now i n ≡ begun_in (written.front ++ said sent ∷ back) i n = ap (λ ms. begun_in ms i n) (sym written.is) in
      omega (arith, same, l, c, at)

  current : written.generation ≡ (terms now).generation (suc i)
  current =
      let begun = began_now i now (subst AreSights h.is.past_is (sights h.wire h.reached)) level (level ∙ bus_is) n fresh.begun in
      let older = no_older in
      let young : written.generation ≤ (terms now).generation (suc i) = young_at w h written.serial packet sent_now in
      omega (arith, begun, older, young)

  fair : (terms now).injects 0 ≡ false
  fair = subst (λ ms. (terms ms).injects 0 ≡ false) h.is.past_is h.is.fair

  pub bell_taken : (terms now).news written.serial ≡ 1
  bell_taken =
      let x = writes_of written.bytes written.access written.spelled written.write in
      taken written.serial (record {
        packet = packet;
        sent = sent_now;
        honest = written.honest;
        label = x.label;
        part = x.part;
        latest = current ∙ level;
        from = calm;
        to = ap (λ node. (terms now).injects node) written.to_target ∙ fair;
      })
