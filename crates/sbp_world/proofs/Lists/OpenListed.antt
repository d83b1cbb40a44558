-- The list that is open at an agent is its initiator's latest one, and no other agent has one of that initiator open.
use Rattle.sbp_world.proofs.Words.Std.{arith, ◌≡◌, ◌∙◌, refl, sym, ap, subst, ◌<◌, ◌≤◌, ◌+◌, ℕ, suc, nat_eq, nat_lt, Bool, true, false, cond, List, ◌∷◌, ◌++◌, length, Option, Some, None, Ok, nat_tests, same_Some}
use Rattle.sbp_world.proofs.Words.Wire.{Packet, reading, Holder, or_nobody, Moment, said, Sending, terms}
use Rattle.sbp_world.proofs.Words.Target.{Disk, demand_of}
use Rattle.sbp_world.proofs.Words.Initiator.{start, PresentList, last_at, last_in, SlotTable, slot_in, TicketParts}
use Rattle.sbp_world.proofs.Words.Laws.{Orb, linked, list_in, orb, prepared_in, present_list, slot_at, taken_at, appends, lists, EachMoment, is_cut}
use Rattle.sbp_world.proofs.Words.World.{holder, ticket_at, WorldState, initiator_at, AreHeldAt, HaveCaught, AreRows, IfList, terms_at, name_in, present_in, MayStand, PointersAt, pointed_list, IsCalm, IsNamed, IsOpenAt, initiator_in, is_open_at, machine_at, AreOpened, IsOpened, ArePlaced, IsNamedFor, IsPlaced, IsStanding, StandsThere, IsOfWire}
use Rattle.bus_memory.specs.declared.window.Window.TheVariants as windows
use Rattle.bus_memory.proofs.Found.{slot_of_law}
use Rattle.orb_list.proofs.Tied.{waits_last}
use Rattle.sbp_bus.specs.Telling as bus
use Rattle.sbp_journal.specs.declared.note.Note.TheVariants as notes
use Rattle.target_base.specs.declared.address.Access.TheVariants as accesses
use Rattle.sbp_world.proofs.Hosts.Over.{last_at as last_fits}
use Rattle.sbp_world.proofs.Hosts.Readings.{read_law}
use Rattle.sbp_world.proofs.Lists.OpenHad.{WereAt}
use Rattle.sbp_world.proofs.Lists.OpenLists.{latest}
use Rattle.sbp_world.proofs.Lists.OpenPlacing.{one_place}
use Rattle.sbp_world.proofs.Lists.OpenUncut.{open_uncut}
use Rattle.sbp_world.proofs.Lists.OpenTurns.{listing_up}
use Rattle.sbp_world.proofs.Hosts.Cores.{not_so as up_state}

-- ---- an ORB of the present list whose status was not taken stands in its slot
module _ (past : List Moment) (i n k : ℕ) (s : SlotTable) (rows : AreRows past i s) (inside : k < appends past i n) (none : taken_at past i n k ≡ None) where
  in_list : (present : Option PresentList) → s.present ≡ present → present_list past i ≡ present_in present → IfList (terms_at past i) s.slots s.lists present → present_list past i ≡ Some n → StandsThere past i n k
  in_list None e p l f = absurd (let z : None ≡ Some n = sym p ∙ f in cc)
  in_list (Some list) e p l f =
      let same : list.tail.list ≡ n = same_Some list.tail.list n (sym p ∙ f) in
      let w = l.waits k (subst (λ m. k < appends past i m) (sym same) inside) (subst (λ m. taken_at past i m k ≡ None) (sym same) none) in
      let last = waits_last (slot_in s.slots w.ticket.slot) w.ticket w.waits in
      let fits = last_fits (terms_at past i) s rows.fits w.ticket.slot w.ticket w.small last in
      let list_is : w.ticket.list ≡ n = w.of_list ∙ same in
      let at : slot_at past i n k ≡ w.ticket.slot = ap (λ m. slot_at past i m k) (sym list_is) ∙ ap (slot_at past i w.ticket.list) (sym w.numbered) ∙ fits.at in
      let there : prepared_in past i w.ticket.slot ≡ Some (orb w.ticket.list w.ticket.number) = rows.fits.prepared w.ticket.slot w.small ∙ ap name_in last in
      record {
        small = subst (λ j. j < 32) (sym at) w.small;
        is = ap (prepared_in past i) at ∙ there ∙ ap (λ m. Some (orb m w.ticket.number)) list_is ∙ ap (λ j. Some (orb n j)) w.numbered;
      }

  pub stands_there : present_list past i ≡ Some n → StandsThere past i n k
  stands_there = in_list s.present refl rows.fits.present rows.fits.list

-- ---- the ORB that an address names, in the world
module _ (past : List Moment) (w : WorldState) (p n k : ℕ) (inside : initiator_in w p < length w.initiators) (rows : AreRows past (initiator_in w p) (initiator_at w (initiator_in w p)).lists.slots) (stands : StandsThere past (initiator_in w p) n k) where
  abbrev i : ℕ
  i = initiator_in w p

  abbrev slot : ℕ
  slot = slot_at past i n k

  abbrev last : Option TicketParts
  last = (slot_in (initiator_at w i).lists.slots.slots slot).last

  named_last : name_in last ≡ Some (orb n k)
  named_last = sym ((read_law past i (initiator_at w i).lists.slots rows).named slot stands.small) ∙ stands.is

  ticket_is : ticket_at w p (start (windows.Orb slot)) ≡ last
  ticket_is =
      let b : nat_lt i (length w.initiators) ≡ true = grind (arith, nat_tests) in
      ap (λ (c : Bool). cond c (last_at (initiator_at w i).lists (start (windows.Orb slot))) None) b ∙ ap (last_in (initiator_at w i).lists) (slot_of_law.found slot stands.small)

  list_of : (t : Option TicketParts) → name_in t ≡ Some (orb n k) → (bus.list_in t ≡ Some n) × (bus.orb_in t ≡ Some k)
  list_of None e = absurd (let z : None ≡ Some (orb n k) = e in cc)
  list_of (Some t) e =
      let same : orb t.list t.number ≡ orb n k = same_Some (orb t.list t.number) (orb n k) e in
      (ap (λ (o : Orb). Some o.list) same, ap (λ (o : Orb). Some o.number) same)

  pub is_named : IsNamed past w p n k
  is_named = let x = list_of last named_last in record { list = ap bus.list_in ticket_is ∙ x.0; number = ap bus.orb_in ticket_is ∙ x.1 }

-- ---- at a place of a history
module _ (start : List Disk) (past : List Moment) (w : WorldState) (opens : AreOpened past w) (placed : ArePlaced past w) (held : AreHeldAt start past w) (caught : HaveCaught start past w) (moments : (i : ℕ) → i < length w.initiators → EachMoment (MayStand i) past) (pointers : (i : ℕ) → i < length w.initiators → PointersAt past i) (rows : (i : ℕ) → i < length w.initiators → AreRows past i (initiator_at w i).lists.slots) (within : (i n : ℕ) → i < length w.initiators → linked past i n ≤ appends past i n) (lasting : (later earlier : List Moment) (serial : ℕ) (sent : Sending) → later ++ said (notes.Got serial) ∷ earlier ≡ past → (terms earlier).sent serial ≡ Some sent → (terms past).sent serial ≡ Some sent) (wire : IsOfWire past) (weres : WereAt past w) where
  module _ (p : ℕ) (b : p < 8) (l : is_open_at w p ≡ true) (calm : IsCalm past (initiator_in w p)) where
    abbrev j : ℕ
    j = initiator_in w p

    pub opened : IsOpened past w p
    opened = opens p b (up_state _ (listing_up (machine_at w p).phase l))

    here : IsPlaced past w j
    here = (placed j opened.inside calm).0

    pub for_list : IsNamedFor past opened.opened.earlier j opened.opened.serial opened.opened.address
    for_list = let o = opened.opened in here.named o.later o.earlier o.serial o.sent p o.address o.is o.sent_is o.pointed

    pub list_is : (holder w p).list ≡ Some for_list.list
    list_is = opened.opened.list_is ∙ ap list_in for_list.there

    -- its initiator is in the target's generation, or ahead of it
    not_behind : (terms past).generation 0 ≤ (terms past).generation (suc j)
    not_behind =
        let k = held.held p opened.login opened.is in
        let is : k.holder.initiator ≡ j = ap (λ (h : Holder). h.initiator) (sym (ap or_nobody k.there)) in
        let next : j + 1 ≡ suc j = omega arith in
        let c = caught.logins p opened.login opened.is opened.live k.holder.initiator (k.live opened.live).of in
        subst (λ m. (terms past).generation 0 ≤ (terms past).generation m) (ap (λ m. m + 1) is ∙ next) c

    pub standing : IsStanding past j for_list.list
    standing = by (nat_eq ((terms past).generation 0) ((terms past).generation (suc j))) refl
      where
        now : (terms past).generation 0 ≡ (terms past).generation (suc j) → IsStanding past j for_list.list
        now same =
            let present : present_list past j ≡ Some for_list.list = here.present p b l refl same ∙ list_is in
            record {
              latest = latest j for_list.list past (moments j opened.inside) present;
              stands = λ k e f. stands_there past j for_list.list k (initiator_at w j).lists.slots (rows j opened.inside) (let h = within j for_list.list opened.inside in omega (arith, f, h)) (here.taken for_list.list k e) present;
            }

        by : (x : Bool) → nat_eq ((terms past).generation 0) ((terms past).generation (suc j)) ≡ x → IsStanding past j for_list.list
        by true e = now (grind (arith, nat_tests))
        by false e =
            let h = not_behind in
            let f : (terms past).generation 0 < (terms past).generation (suc j) = grind (arith, nat_tests) in
            here.ahead p for_list.list b l refl f list_is

    uncut_one : is_cut past j for_list.list ≡ false
    uncut_one = open_uncut past (holder w p) p for_list.list here.named (pointers j opened.inside) lasting calm wire list_is (weres.each p b (listing_up (machine_at w p).phase l))

    pub open_at : IsOpenAt past w p
    open_at = record {
      inside = opened.inside;
      n = for_list.list;
      list = list_is;
      still = record { latest = standing.latest; uncut = uncut_one };
      named = λ k e f. is_named past w p for_list.list k opened.inside (rows j opened.inside) (standing.stands k e f);
    }

  -- two places with an open list of one initiator are one
  module _ (p q : ℕ) (b : p < 8) (c : q < 8) (l : is_open_at w p ≡ true) (m : is_open_at w q ≡ true) (calm : IsCalm past (initiator_in w p)) (same : initiator_in w q ≡ initiator_in w p) where
    also : IsCalm past (initiator_in w q)
    also = subst (IsCalm past) (sym same) calm

    abbrev a : ℕ
    a = initiator_in w p

    abbrev first : IsNamedFor past (opened p b l calm).opened.earlier a (opened p b l calm).opened.serial (opened p b l calm).opened.address
    first = for_list p b l calm

    abbrev other : IsNamedFor past (opened q c m also).opened.earlier (initiator_in w q) (opened q c m also).opened.serial (opened q c m also).opened.address
    other = for_list q c m also

    lists_same : other.list ≡ first.list
    lists_same =
        let x = (standing q c m also).latest in
        let y = (standing p b l calm).latest in
        let z : lists past (initiator_in w q) ≡ lists past a = ap (lists past) same in
        omega (arith, x, y, z)

    serials_same : (opened q c m also).opened.serial ≡ (opened p b l calm).opened.serial
    serials_same =
        (pointers a (opened p b l calm).inside).once first.list (opened q c m also).opened.serial (opened p b l calm).opened.serial
        (ap (λ i. pointed_list past (opened q c m also).opened.serial i) (sym same) ∙ other.pointed ∙ ap Some lists_same)
        first.pointed

    -- what was sent stays as it was
    one_packet : (serial : ℕ) (x y : Sending) → (terms past).sent serial ≡ Some x → (terms past).sent serial ≡ Some y → x ≡ y
    one_packet serial x y e f = same_Some x y (sym e ∙ f)

    pub one_only : q ≡ p
    one_only =
        let o = (opened p b l calm).opened in
        let x = (opened q c m also).opened in
        let one = lasting o.later o.earlier o.serial o.sent o.is o.sent_is in
        let two = lasting x.later x.earlier x.serial x.sent x.is x.sent_is in
        let sent_same : x.sent ≡ o.sent = one_packet o.serial x.sent o.sent (subst (λ n. (terms past).sent n ≡ Some x.sent) serials_same two) one in
        let read : Ok x.pointed.packet ≡ Ok o.pointed.packet = sym x.pointed.read ∙ ap (λ (k : Sending). reading k.bytes) sent_same ∙ o.pointed.read in
        let packet_same : x.pointed.packet ≡ o.pointed.packet = cc in
        one_place o.pointed.packet x.pointed.rom o.pointed.rom q p (accesses.Point x.pointed.pointer) (accesses.Point o.pointed.pointer)
        (ap (λ (k : Packet). demand_of x.pointed.rom k) (sym packet_same) ∙ x.pointed.asks) o.pointed.asks
