-- At a place: a quadlet that a ring wrote once the ORB_POINTER of its list was got is for the DOORBELL of the agent that has the list, for ORB_POINTER and DOORBELL are written at the agent of one login.
use Rattle.sbp_world.proofs.Words.Std.{arith, ◌≡◌, ◌∙◌, sym, ap, subst, ◌<◌, ◌≤◌, ◌+◌, ◌%◌, ◌^◌, ℕ, suc, false, List, [], ◌∷◌, ◌++◌, Some, same_Some}
use Rattle.sbp_world.proofs.Words.Wire.{Access, Moment, Note, SerialsCount, Sending, said, terms}
use Rattle.sbp_world.proofs.Words.Target.{Disk, agent_base}
use Rattle.sbp_world.proofs.Words.Laws.{EachMoment, access_in_bytes}
use Rattle.sbp_world.proofs.Words.World.{AreNamedFor, AreOpenFor, AreUnrefused, IsOpenFor, PointersAt, Stands, WorldState, holder, pointed_list, view}
use Rattle.bus_transactions.specs.Sent.{AreSent}
use Rattle.sbp_journal.specs.declared.note.Note.TheVariants as notes
use Rattle.sbp_world.specs.Completing.Bells.{IsBelledAt, WasBelled}
use Rattle.sbp_world.specs.Completing.BellsGot.{IsBehind}
use Rattle.sbp_world.specs.Pointers.Bases.{IsUnrefused}
use Rattle.sbp_world.specs.Pointers.Moments.{MayAsk}
use Rattle.sbp_world.proofs.Agents.Management.Still.{hist}
use Rattle.sbp_world.proofs.Common.{moment_joined}
use Rattle.sbp_world.proofs.Completing.BellsFound.{counts_there, later_than, serial_is}
use Rattle.sbp_world.proofs.Completing.PresentPointed.{sent_from}
use Rattle.sbp_world.proofs.Hosts.Remaining.{remains}
use Rattle.sbp_world.proofs.Lists.Judging.{counts_at}
use Rattle.sbp_world.proofs.Lists.OpenedAddresses.{IsBase}
use Rattle.sbp_world.proofs.Lists.OpenedHere.{has_list}
use Rattle.sbp_world.proofs.Lists.OpenedMoments.{pointed_remains}
use Rattle.sbp_world.proofs.Lists.OpenedResets.{pointed_base}
use Rattle.sbp_world.proofs.Lists.StatusKnown.{each_from}

-- DOORBELL is 8 behind ORB_POINTER
bell_at : (base place : ℕ) → place < 8 → IsBase ((base + 8) % 2 ^ 48) place → (base + 0x10) % 2 ^ 48 ≡ agent_base place + 0x10
bell_at base place small b =
    let low = b.low in
    let high = b.high in
    let place_is = b.place_is in
    let distance = b.distance in
    omega (arith, low, high, place_is, distance, small)

module _ {past : List Moment} (w : WorldState) (h : Stands past w) (start : List Disk) (i n k : ℕ) (pointers : PointersAt (hist past w) i) (asks : EachMoment (MayAsk i) (hist past w)) (written : WasBelled (hist past w) i n k) (x : IsBehind start (hist past w) w i n k written) (sent_all : AreSent (hist past w)) (unrefused : AreUnrefused (hist past w) i) (open_for : AreOpenFor (view (hist past w) i) w i) (names : AreNamedFor (hist past w) i) (quad : written.access.is_block ≡ false) where
  abbrev now : List Moment
  now = hist past w

  abbrev back : List Moment
  back = written.back

  abbrev s : ℕ
  s = x.pointed.serial

  abbrev place : ℕ
  place = x.opening.place

  abbrev sent : Note
  sent = notes.Sent written.serial written.generation (suc i) written.to written.bytes

  abbrev front : List Moment
  front = written.front ++ said sent ∷ []

  split : front ++ back ≡ now
  split = moment_joined written.front (said sent) back ∙ written.is

  counts : SerialsCount (front ++ back)
  counts = subst SerialsCount (sym split) (counts_at w h)

  below : s ≤ (terms back).count
  below =
      let l = later_than w h start i n k pointers asks written x in
      let is = serial_is w h start i n k pointers asks written x in
      omega (arith, l, is)

  pointed_back : pointed_list back s i ≡ Some n
  pointed_back = sym (pointed_remains front back s i counts below) ∙ (ap (λ ms. pointed_list ms s i) split ∙ x.pointed.pointed)

  belled : IsBelledAt back i s written.access
  belled =
      written.near s (counts_there w h start i n k pointers asks written x).1 (sent_from front back (subst AreSent (sym split) sent_all)) (each_from (IsUnrefused i) front back (subst (λ ms. AreUnrefused ms i) (sym split) unrefused)) pointed_back quad

  -- the place has this list
  o : IsOpenFor (view now i) i place (holder w place).list
  o = open_for.each place x.opening.small x.opening.up

  list_is : o.list ≡ n
  list_is = same_Some o.list n (sym (has_list now w i open_for names place o) ∙ x.opening.list)

  one : o.serial ≡ s
  one = pointers.once n o.serial s (o.pointed ∙ ap (λ l. Some l) list_is) x.pointed.pointed

  same : o.packet ≡ belled.asked.packet
  same =
      same_Some o.packet belled.asked.packet
      (sym o.sent ∙ (ap (λ q. (terms now).sent q) one ∙ (ap (λ ms. (terms ms).sent s) (sym split) ∙ ((remains front back counts).sent s below ∙ belled.asked.sent))))

  base : IsBase ((belled.base + 8) % 2 ^ 48) place
  base = pointed_base o.packet i place o.address belled.base belled.address o.at (ap (λ (p : Sending). access_in_bytes p.bytes) same ∙ belled.asked.spelled)

  pub is_addressed : written.access.offset ≡ agent_base place + 0x10
  is_addressed = ap (λ (a : Access). a.offset) belled.is ∙ bell_at belled.base place x.opening.small base
