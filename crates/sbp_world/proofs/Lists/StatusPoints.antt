-- The present list of an initiator whose agent acts, while the two are in one generation: that of the list which the agent has open; or, as a pointer is taken, the list
-- for which this was written.
use Rattle.sbp_world.proofs.Words.Std.{◌≡◌, ◌∙◌, refl, sym, ap, subst, ◌<◌, ℕ, suc, Bool, true, false, List, length, Some, Ok, same_Some}
use Rattle.sbp_world.proofs.Words.Wire.{Packet, as_sending, judging_step, of_request, Sent, topology_at, Moment, Sending, part_of, terms}
use Rattle.sbp_world.proofs.Words.Target.{point_step, Disk, is_barred, orb_of, demand_of}
use Rattle.sbp_world.proofs.Words.Initiator.{Ask, OrbPointer}
use Rattle.sbp_world.proofs.Words.Laws.{present_list}
use Rattle.sbp_world.proofs.Words.World.{holder, Stands, WorldState, has_list, PointersAt, AreFirsts, IsHere, IsCalm, IsFor, OpenLists, initiator_in, machine_at, AreOpened, IsPointedBy, IsFirst}
use Rattle.target_base.specs.declared.address.Access.TheVariants as accesses
use Rattle.target_base.specs.declared.address.Demand.TheVariants as demands
use Rattle.sbp_world.proofs.Agents.Management.Holding.{Holding, good_of, was_sent}
use Rattle.sbp_world.proofs.Agents.Management.Still.{hist}
use Rattle.sbp_world.proofs.Lists.OpenFresh.{never_new, writes_of}
use Rattle.sbp_world.proofs.Lists.OpenOwners.{CameFrom, came_from}
use Rattle.sbp_world.proofs.Lists.OpenTurns.{listing_up}
use Rattle.sbp_world.proofs.Lists.OpenWorlds.{taken}
use Rattle.sbp_world.proofs.Lists.Sites.{Site}
use Rattle.sbp_world.proofs.Lists.StatusTurn.{Acting, Up}
use Rattle.sbp_world.proofs.Lists.StatusUps.{AllCaught, generation_is, lives_access, lives_open, up_access, up_open}
use Rattle.sbp_world.proofs.Hosts.Cores.{not_so as up_state}

module _ (wild : ℕ → Bool) (i : ℕ) (own : wild i ≡ false) (units logins : ℕ) (has : 0 < units) (start : List Disk) {past : List Moment} {lines : ℕ} (w : WorldState) (h : Holding units logins start past lines w) (site : Site start past w) (inside : i < length w.initiators) (calm : IsCalm (hist past w) i) (lists : OpenLists (hist past w) w) (opened : AreOpened (hist past w) w) (caught : AllCaught (hist past w) w) (pointers : (j : ℕ) → j < length w.initiators → PointersAt (hist past w) j) (first : AreFirsts (hist past w) w) (here : IsHere (hist past w) w i) where
  abbrev ms : List Moment
  ms = hist past w

  abbrev gen : ℕ
  gen = (topology_at w.generations 0).generation

  stands : Stands past w
  stands = h.sound.stands

  same_gen : gen ≡ (terms ms).generation 0
  same_gen = generation_is wild i own start past w inside stands site.held caught

  calm_of : (q : ℕ) → (holder w q).initiator ≡ i → IsCalm ms (initiator_in w q)
  calm_of q mine = subst (IsCalm ms) (sym mine) calm

  -- ---- of an open list
  module _ (q : ℕ) (b : q < 8) (l : has_list (machine_at w q).phase ≡ true) where
    open_present : (holder w q).initiator ≡ i → gen ≡ (terms ms).generation (suc i) → (n : ℕ) × (present_list ms i ≡ Some n)
    open_present mine same =
        let o = lists.listed q b l (calm_of q mine) in
        (o.n, here.present q b l mine (sym same_gen ∙ same) ∙ o.list)

    pub open_up : Up wild i own past w q
    open_up = up_open wild i own start past w inside stands site.held caught opened q b (up_state _ (listing_up (machine_at w q).phase l)) open_present

    pub open_acting : Acting wild i own past w q
    open_acting = (open_up, lives_open ms w opened q b (up_state _ (listing_up (machine_at w q).phase l)))

  -- ---- as a pointer is taken
  module _ (sent : Sent) (is_for : IsFor w sent) (packet : Packet) (judged : (judging_step w.target.layer sent.generation sent.bytes).0 ≡ of_request packet) (bar : is_barred w.target packet ≡ false) (q : ℕ) (b : q < 8) (pointer : OrbPointer) (demand : demand_of (length w.target.rom) packet ≡ demands.Agent q (accesses.Point pointer)) (ask : Ask) (took : (point_step (machine_at w q) pointer).0 ≡ Ok ask) where
    abbrev j : ℕ
    j = initiator_in w q

    abbrev address : ℕ
    address = orb_of (point_step (machine_at w q) pointer).1

    came : CameFrom units logins start w h site.held sent packet q
    came = came_from units logins start w h site.held is_for.serial sent is_for.found packet q (accesses.Point pointer) judged bar demand

    points : IsPointedBy (as_sending sent) j q address
    points = record {
      from_is = came.from_is;
      to_is = is_for.to;
      packet = packet;
      read = came.read;
      rom = length w.target.rom;
      pointer = pointer;
      asks = demand;
      address_is = (taken (machine_at w q) pointer ask took).at;
    }

    sent_is : (terms ms).sent is_for.serial ≡ Some (as_sending sent)
    sent_is = was_sent w stands is_for.serial sent is_for.found

    point_present : (holder w q).initiator ≡ i → gen ≡ (terms ms).generation (suc i) → (n : ℕ) × (present_list ms i ≡ Some n)
    point_present mine same =
        let c = calm_of q mine in
        let f : IsFirst ms j is_for.serial address = first j came.inside c is_for.serial (as_sending sent) q address sent_is points in
        let k = (pointers j came.inside).each f.list is_for.serial f.pointed in
        let packet_is : k.packet ≡ as_sending sent = same_Some k.packet (as_sending sent) (sym k.sent ∙ sent_is) in
        let x = writes_of k.packet.bytes _ k.spelled refl in
        let fresh : (terms ms).news is_for.serial ≡ 0 =
        never_new w stands is_for.serial sent is_for.found is_for.to x.label (ap (λ (s : Sending). part_of s.bytes) (sym packet_is) ∙ x.part)
        (ap (λ n. (terms ms).injects n) came.from_is ∙ c) packet judged came.current in
        let there : (terms ms).generation 0 ≡ (terms ms).generation (suc j) = sym same_gen ∙ (same ∙ ap (λ n. (terms ms).generation (suc n)) (sym mine)) in
        let p = (pointers j came.inside).waits c f.list is_for.serial (as_sending sent) f.pointed sent_is (came.current ∙ there) fresh in
        (f.list, ap (present_list ms) (sym mine) ∙ p.present)

    pub point_up : Up wild i own past w q
    point_up = up_access wild i own start past w inside stands site.held caught (good_of units logins h.calls w.target has h.made) packet bar q (accesses.Point pointer) demand point_present

    pub point_acting : Acting wild i own past w q
    point_acting = (point_up, lives_access w (good_of units logins h.calls w.target has h.made) packet bar q (accesses.Point pointer) demand)
