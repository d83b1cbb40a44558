-- A pointer that is taken is that to the first ORB of the list for which it was written, which no other agent has open.
use Rattle.sbp_world.proofs.Words.Std.{arith, ◌≡◌, ◌∙◌, refl, sym, ap, subst, ◌<◌, ◌≤◌, ◌+◌, ℕ, suc, nat_eq, Bool, true, false, List, ◌∷◌, ◌++◌, length, Some, Ok, nat_tests}
use Rattle.sbp_world.proofs.Words.Wire.{Packet, reading, as_sending, judging_step, of_request, Sent, found_sent, Holder, or_nobody, place_in, Moment, said, Sending, part_of, request, writing, terms}
use Rattle.sbp_world.proofs.Words.Target.{point_step, Disk, is_barred, orb_of, Access, demand_of}
use Rattle.sbp_world.proofs.Words.Initiator.{Ask, OrbPointer}
use Rattle.sbp_world.proofs.Words.Laws.{linked, appends, lists, EachMoment}
use Rattle.sbp_world.proofs.Words.World.{holder, WorldState, initiator_at, AreHeldAt, HaveCaught, AreRows, MayStand, PointersAt, pointed_list, IsCalm, IsPointed, initiator_in, is_open_at, machine_at, AreOpened, IsPointedBy, ArePlaced, AreListed, IsFirst, IsStanding, IsWaiting, IsOfWire}
use Rattle.sbp_journal.specs.declared.note.Note.TheVariants as notes
use Rattle.target_base.specs.declared.address.Access.TheVariants as accesses
use Rattle.target_base.specs.declared.address.Demand.TheVariants as demands
use Rattle.sbp_world.proofs.Lists.OpenFresh.{writes_of}
use Rattle.sbp_world.proofs.Lists.OpenListed.{for_list, is_named, one_only, open_at, opened, standing, stands_there}
use Rattle.sbp_world.proofs.Lists.OpenLists.{latest}
use Rattle.sbp_world.proofs.Lists.OpenNews.{got_news}
use Rattle.sbp_world.proofs.Lists.OpenOwners.{owner}
use Rattle.sbp_world.proofs.Lists.OpenHad.{WereAt}
use Rattle.sbp_world.proofs.Lists.OpenUncut.{waits_uncut}
use Rattle.sbp_world.proofs.Lists.OpenWorlds.{taken}

-- a packet that asks for a register came from the initiator of the place
pub record HasCome (past : List Moment) (w : WorldState) (serial : ℕ) (sent : Sent) (packet : Packet) (place : ℕ) : Type 0 where
  pub read : reading sent.bytes ≡ Ok packet
  pub from_is : sent.from ≡ suc (initiator_in w place)
  pub inside : initiator_in w place < length w.initiators
  pub current : sent.generation ≡ (terms past).generation 0
  pub sent_is : (terms past).sent serial ≡ Some (as_sending sent)

abbrev pub AllCome : List Moment → WorldState → Type 0
AllCome past w = (serial : ℕ) (sent : Sent) → found_sent serial w.store.kept ≡ Some sent → (packet : Packet) (place : ℕ) (access : Access) → (judging_step w.target.layer sent.generation sent.bytes).0 ≡ of_request packet → is_barred w.target packet ≡ false → demand_of (length w.target.rom) packet ≡ demands.Agent place access → HasCome past w serial sent packet place

-- a write that the target finds new was not taken as new before
abbrev pub AllNew : List Moment → WorldState → Type 0
AllNew past w = (serial : ℕ) (sent : Sent) → found_sent serial w.store.kept ≡ Some sent → sent.to ≡ 0 → (label : ℕ) → part_of sent.bytes ≡ request label writing → (terms past).injects sent.from ≡ false → (packet : Packet) → (judging_step w.target.layer sent.generation sent.bytes).0 ≡ of_request packet → sent.generation ≡ (terms past).generation 0 → (terms past).news serial ≡ 0

module _ (start : List Disk) (past : List Moment) (w : WorldState) (opens : AreOpened past w) (placed : ArePlaced past w) (held : AreHeldAt start past w) (caught : HaveCaught start past w) (moments : (i : ℕ) → i < length w.initiators → EachMoment (MayStand i) past) (pointers : (i : ℕ) → i < length w.initiators → PointersAt past i) (rows : (i : ℕ) → i < length w.initiators → AreRows past i (initiator_at w i).lists.slots) (within : (i n : ℕ) → i < length w.initiators → linked past i n ≤ appends past i n) (lasting : (later earlier : List Moment) (serial : ℕ) (sent : Sending) → later ++ said (notes.Got serial) ∷ earlier ≡ past → (terms earlier).sent serial ≡ Some sent → (terms past).sent serial ≡ Some sent) (wire : IsOfWire past) (weres : WereAt past w) (come : AllCome past w) (new : AllNew past w) where
  module _ (serial : ℕ) (sent : Sent) (found : found_sent serial w.store.kept ≡ Some sent) (to_is : sent.to ≡ 0) (packet : Packet) (judged : (judging_step w.target.layer sent.generation sent.bytes).0 ≡ of_request packet) (bar : is_barred w.target packet ≡ false) (place : ℕ) (pointer : OrbPointer) (ask : Ask) (demand : demand_of (length w.target.rom) packet ≡ demands.Agent place (accesses.Point pointer)) (took : (point_step (machine_at w place) pointer).0 ≡ Ok ask) (calm : IsCalm past (initiator_in w place)) where
    abbrev i : ℕ
    i = initiator_in w place

    abbrev address : ℕ
    address = orb_of (point_step (machine_at w place) pointer).1

    came : HasCome past w serial sent packet place
    came = come serial sent found packet place (accesses.Point pointer) judged bar demand

    points_by : IsPointedBy (as_sending sent) i place address
    points_by = record {
      from_is = came.from_is;
      to_is = to_is;
      packet = packet;
      read = came.read;
      rom = length w.target.rom;
      pointer = pointer;
      asks = demand;
      address_is = (taken (machine_at w place) pointer ask took).at;
    }

    first_of : IsFirst past i serial address
    first_of = (placed i came.inside calm).1.first serial (as_sending sent) place address came.sent_is points_by

    fresh : (terms past).news serial ≡ 0
    fresh =
        let k = (pointers i came.inside).each first_of.list serial first_of.pointed in
        let one : Some k.packet ≡ Some (as_sending sent) = sym k.sent ∙ came.sent_is in
        let packet_is : k.packet ≡ as_sending sent = cc in
        let x = writes_of k.packet.bytes _ k.spelled refl in
        new serial sent found to_is x.label (ap (λ (q : Sending). part_of q.bytes) (sym packet_is) ∙ x.part) (ap (λ n. (terms past).injects n) came.from_is ∙ calm) packet judged came.current

    waiting : IsWaiting past i first_of.list
    waiting = (placed i came.inside calm).1.waiting serial first_of.list (as_sending sent) came.sent_is first_of.pointed came.current fresh

    -- who has the place
    record IsThere : Type 0 where
      there : place_in w.places place ≡ Some (holder w place)
      not_behind : (terms past).generation 0 ≤ (terms past).generation (suc i)

    is_there : IsThere
    is_there =
        let o = owner w.target packet place (accesses.Point pointer) bar demand in
        let k = held.held place o.login o.is in
        let is : holder w place ≡ k.holder = ap or_nobody k.there in
        let c = caught.logins place o.login o.is o.live k.holder.initiator (k.live o.live).of in
        let next : i + 1 ≡ suc i = omega arith in
        record {
          there = k.there ∙ ap Some (sym is);
          not_behind = subst (λ m. (terms past).generation 0 ≤ (terms past).generation m) (ap (λ (h : Holder). h.initiator + 1) (sym is) ∙ next) c;
        }

    waits_standing : IsStanding past i first_of.list
    waits_standing = by (nat_eq ((terms past).generation 0) ((terms past).generation (suc i))) refl
      where
        now : (terms past).generation 0 ≡ (terms past).generation (suc i) → IsStanding past i first_of.list
        now same =
            let p = (pointers i came.inside).waits calm first_of.list serial (as_sending sent) first_of.pointed came.sent_is (came.current ∙ same) fresh in
            record {
              latest = latest i first_of.list past (moments i came.inside) p.present;
              stands = λ k e f. stands_there past i first_of.list k (initiator_at w i).lists.slots (rows i came.inside) (let h = within i first_of.list came.inside in omega (arith, f, h)) ((placed i came.inside calm).0.taken first_of.list k e) p.present;
            }

        by : (x : Bool) → nat_eq ((terms past).generation 0) ((terms past).generation (suc i)) ≡ x → IsStanding past i first_of.list
        by true e = now (grind (arith, nat_tests))
        by false e =
            let h = is_there.not_behind in
            let f : (terms past).generation 0 < (terms past).generation (suc i) = grind (arith, nat_tests) in
            waiting.ahead f

    -- no agent has its list open yet
    alone : (other : ℕ) → other < 8 → is_open_at w other ≡ true → initiator_in w other ≡ i → other ≡ place
    alone other c m same = absurd (let z : 0 < 0 = subst (λ n. 0 < n) fresh got in omega (arith, z))
      where
        also : IsCalm past (initiator_in w other)
        also = subst (IsCalm past) (sym same) calm

        lists_same : (for_list start past w opens placed held caught moments pointers rows within lasting wire weres other c m also).list ≡ first_of.list
        lists_same =
            let x = (standing start past w opens placed held caught moments pointers rows within lasting wire weres other c m also).latest in
            let y = waits_standing.latest in
            let z : lists past (initiator_in w other) ≡ lists past i = ap (lists past) same in
            omega (arith, x, y, z)

        serials_same : (opened start past w opens placed held caught moments pointers rows within lasting wire weres other c m also).opened.serial ≡ serial
        serials_same =
            (pointers i came.inside).once first_of.list (opened start past w opens placed held caught moments pointers rows within lasting wire weres other c m also).opened.serial serial
            (ap (λ j. pointed_list past (opened start past w opens placed held caught moments pointers rows within lasting wire weres other c m also).opened.serial j) (sym same) ∙ (for_list start past w opens placed held caught moments pointers rows within lasting wire weres other c m also).pointed ∙ ap Some lists_same)
            first_of.pointed

        got : 0 < (terms past).news serial
        got =
            let o = (opened start past w opens placed held caught moments pointers rows within lasting wire weres other c m also).opened in
            subst (λ n. 0 < (terms past).news n) serials_same (got_news o.serial o.later o.earlier past o.sent o.is o.sent_is)

    pub is_pointed : IsPointed past w place pointer
    is_pointed = record {
      inside = came.inside;
      there = is_there.there;
      n = first_of.list;
      first = (taken (machine_at w place) pointer ask took).at ∙ ap Some first_of.address_is;
      linked_one = ((pointers i came.inside).each first_of.list serial first_of.pointed).one;
      none = waiting.none;
      still = record { latest = waits_standing.latest; uncut = waits_uncut past i (placed i came.inside calm).0.named (pointers i came.inside) lasting (weres.had i) first_of.list serial first_of.pointed fresh };
      named = λ k f. is_named past w place first_of.list k came.inside (rows i came.inside) (waits_standing.stands k (let e = waiting.none in omega (arith, e)) f);
      alone = alone;
    }

  pub are_listed : AreListed past w
  are_listed = record {
    listed = λ place b l calm. open_at start past w opens placed held caught moments pointers rows within lasting wire weres place b l calm;
    one = λ place other b c l m calm same. one_only start past w opens placed held caught moments pointers rows within lasting wire weres place other b c l m calm same;
    points = λ sent f packet judged bar place pointer ask demand took calm. is_pointed f.serial sent f.found f.to packet judged bar place pointer ask demand took calm;
  }
