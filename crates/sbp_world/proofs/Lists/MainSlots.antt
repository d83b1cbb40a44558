-- At a place of a run, where lists are open as they should be: the main transaction of an agent that goes into the page table or the buffer of a slot of an initiator that injected no packets is for
-- the first ORB of its list that has not ended. The agent reads the page table of this ORB or its data, or it writes its answer; and the ORB has the slot, or its initiator is ahead of the target.
use Rattle.sbp_world.proofs.Common.{same_node}
use Rattle.sbp_world.proofs.Words.Std.{arith, ◌≡◌, ◌∙◌, refl, sym, ap, subst, ◌<◌, ◌≤◌, ◌+◌, ◌-◌, ℕ, suc, nat_lt, Bool, true, false, List, length, Some, nat_tests, pow_pos}
use Rattle.sbp_world.proofs.Words.Wire.{or_nobody, Access, Cmd, Moment, Terms, terms}
use Rattle.sbp_world.proofs.Words.Target.{Knows, Progress, main_ask, Phase, Main, Machine, chunk_of, limit_of, Disk}
use Rattle.sbp_world.proofs.Words.Initiator.{window_at}
use Rattle.sbp_world.proofs.Words.Laws.{fifo_in, command_at, linked, orb, prepared_in, present_list, slot_at, Target, agent_at, term_login, over, target_at, ends}
use Rattle.sbp_world.proofs.Words.World.{WorldState, initiator_at, IsAccessFor, GoesAlong, AreUntaken, AreForOrbs, HadSlot, IsForOrb, IsInSlot, ahead, in_generation, IsTameOrFew, IsCalm, IsOpenAt, OpenLists, initiator_in, machine_at, IsOpened, data_slot, HasSlot}
use Rattle.command_agent.specs.declared.phase.Phase.TheVariants as phases
use Rattle.sbp_world.proofs.Agents.Management.Holding.{Holding}
use Rattle.sbp_world.proofs.Agents.Management.Still.{hist}
use Rattle.sbp_world.proofs.Lists.AheadGots.{buffer_data, fifo_data, no_start, write_data}
use Rattle.sbp_world.proofs.Lists.Brought.{has_a_table, list}
use Rattle.sbp_world.proofs.Lists.FedOwners.{one_slot, orb_none}
use Rattle.sbp_world.proofs.Lists.ManagedGots.{NoData}
use Rattle.sbp_world.proofs.Lists.OpenTurns.{listing_up}
use Rattle.sbp_world.proofs.Lists.Sites.{IsPrepared, Site, Waiting, named_prepared, waiting as agent_waiting}
use Rattle.sbp_world.proofs.Lists.Slots.{IsFilled, table_slot}
use Rattle.sbp_world.proofs.Lists.StatusPlaced.{has_slot}
use Rattle.sbp_world.proofs.Lists.StatusPlaces.{AllPlacedFor}
use Rattle.sbp_world.proofs.Lists.StatusProved.{Ground as Known}
use Rattle.sbp_world.proofs.Lists.StatusRested.{AllHere}
use Rattle.sbp_world.proofs.Lists.StillTurns.{Ground, site_at}
use Rattle.sbp_world.proofs.Hosts.Cores.{not_so as up_state}
use Rattle.sbp_world.proofs.Hosts.Replies.{same_access}

-- ---- an agent along a list
module _ (past : List Moment) (i n : ℕ) where
  abbrev Small : ℕ → Type 0
  Small k = slot_at past i n k < 32

  abbrev Filled : ℕ → Type 0
  Filled k = (cmd : Cmd) → command_at past i n k ≡ Some cmd → IsFilled (slot_at past i n k) cmd

  -- it is in the slot of the ORB behind those that have ended, which is linked
  record IsPresent (ended s : ℕ) : Type 0 where
    slot_is : s ≡ slot_at past i n ended
    linked_is : ended < linked past i n

  -- where its main transaction goes: an ORB is in its window of ORBs, and a status block in a FIFO
  main_data : (phase : Phase) (p : Progress) (m : Machine) (is_status : Bool) (fifo : ℕ) (access : Access) → Knows (list past i n) p phase m → IsAccessFor (main_ask phase m) is_status fifo access → NoData fifo → (p.ended < linked past i n → Small p.ended) → (p.ended < linked past i n → Filled p.ended) → (phase ≡ phases.ReadingNext → (last : ℕ) → p.ended ≡ suc last → Small last) → (s : ℕ) → data_slot (window_at access.offset) ≡ Some s → IsPresent p.ended s
  main_data phases.Fetching p m is_status fifo access k a none small filled again s d =
      absurd (orb_none access.offset s (slot_at past i n p.ended) (small k.turn.linked) (ap (λ (x : Access). x.offset) a ∙ k.turn.place) d)
  main_data phases.ReadingTable p m is_status fifo access k a none small filled again s d =
      let below = k.awaits.turn.linked in
      let t = has_a_table (command_at past i n p.ended) (slot_at past i n p.ended) m.orb k.awaits.good.own k.reads in
      let here = table_slot access (slot_at past i n p.ended) (small below) (ap (λ (x : Access). x.offset) a ∙ t.descriptor) in
      record { slot_is = one_slot (window_at access.offset) s (slot_at past i n p.ended) d here; linked_is = below }
  main_data (phases.ReadingData wanted) p m is_status fifo access k a none small filled again s d =
      let below = k.awaits.turn.linked in
      let own = k.awaits.good.own in
      record {
        slot_is = buffer_data past i n p.ended own.cmd own.command (small below) (filled below) m.segments k.buffer (wanted - length m.payload) (length m.payload) (limit_of m.orb) (pow_pos (m.orb.max_payload + 2)) s (ap (λ (x : Access). data_slot (window_at x.offset)) (sym a) ∙ d);
        linked_is = below;
      }
  main_data phases.Answering p m is_status fifo access k a none small filled again s d =
      let below = k.told.turn.linked in
      let own = k.told.good.own in
      record {
        slot_is =
            buffer_data past i n p.ended own.cmd own.command (small below) (filled below) m.segments k.told.buffer (length m.answer - m.written) m.written (limit_of m.orb) (pow_pos (m.orb.max_payload + 2)) s
            (write_data past i n is_status fifo (chunk_of m m.written (length m.answer)).offset s none (ap (λ (x : Access). data_slot (window_at x.offset)) (sym a.0) ∙ d));
        linked_is = below;
      }
  main_data phases.WritingStatus p m is_status fifo access k a none small filled again s d =
      absurd (no_start s (write_data past i n is_status fifo 0 s none (ap (λ (x : Access). data_slot (window_at x.offset)) (sym a.0) ∙ d)))
  main_data phases.WritingLastStatus p m is_status fifo access k a none small filled again s d =
      absurd (no_start s (write_data past i n is_status fifo 0 s none (ap (λ (x : Access). data_slot (window_at x.offset)) (sym a.0) ∙ d)))
  main_data phases.ReadingNext p m is_status fifo access k a none small filled again s d =
      absurd (orb_none access.offset s (slot_at past i n k.over.last) (again refl k.over.last k.over.ended) (ap (λ (x : Access). x.offset) a ∙ k.over.place) d)
  main_data phases.Reset p m is_status fifo access k a none small filled again s d = absurd a
  main_data phases.Suspended p m is_status fifo access k a none small filled again s d = absurd a
  main_data phases.Dead p m is_status fifo access k a none small filled again s d = absurd a

-- ---- at a place
-- what is known of it
pub record Kit (start : List Disk) (past : List Moment) (w : WorldState) : Type 0 where
  pub ground : Ground start past w
  pub known : Known past w
  pub placed : IsTameOrFew past → AllPlacedFor past w
  pub here : IsTameOrFew past → AllHere past w
  pub untaken : IsTameOrFew past → AreUntaken past w

module _ (units ready : ℕ) (has : 0 < units) (start : List Disk) {past : List Moment} {lines : ℕ} (w : WorldState) (h : Holding units ready start past lines w) (kit : Kit start (hist past w) w) (beside : IsTameOrFew (hist past w)) where
  abbrev ms : List Moment
  ms = hist past w

  abbrev t : Terms
  t = terms ms

  abbrev T : Target
  T = over (target_at start ms)

  site : Site start past w
  site = site_at start past w kit.ground

  open_lists : OpenLists ms w
  open_lists = kit.ground.lists beside

  module _ (place i slot serial : ℕ) (b : place < 8) (calm : IsCalm ms i) (waits : (agent_at T place).main ≡ Some serial) (x : IsInSlot ms i slot serial) where
    wait : Waiting units ready has start w h site place b Main serial
    wait = agent_waiting units ready has start w h site place b Main serial waits

    abbrev j : ℕ
    j = initiator_in w place

    abbrev m : Machine
    m = machine_at w place

    -- it is of the initiator that has the place
    here : j ≡ i
    here = same_node j i (sym wait.to ∙ x.to)

    quiet : IsCalm ms j
    quiet = subst (IsCalm ms) (sym here) calm

    abbrev o : IsOpenAt ms w place
    o = open_lists.listed place b wait.is_open quiet

    abbrev goes : GoesAlong ms j o.n m
    goes = kit.ground.along.all place b wait.is_open quiet o.n o.list

    abbrev ended : ℕ
    ended = goes.progress.ended

    from_ended : ends ms j o.n ≤ ended
    from_ended = let e = goes.is in omega (arith, e)

    stored : ended < linked ms j o.n → IsPrepared ms j (slot_at ms j o.n ended) o.n ended
    stored below = named_prepared units ready has start w h site place o.n ended o.inside (o.named ended from_ended below)

    stored_last : m.phase ≡ phases.ReadingNext → (last : ℕ) → ended ≡ suc last → slot_at ms j o.n last < 32
    stored_last phase last e = (named_prepared units ready has start w h site place o.n last o.inside (open_lists.behind place b phase quiet o.n last o.list (sym goes.is ∙ e))).small

    -- it is in the slot of the first ORB that has not ended
    reads_there : data_slot (window_at wait.access.offset) ≡ Some slot
    reads_there =
        let same : x.access ≡ wait.access = same_access x.access wait.access (sym x.is ∙ wait.is) in
        subst (λ (y : Access). data_slot (window_at y.offset) ≡ Some slot) same x.stands

    present : IsPresent ms j o.n ended slot
    present =
        main_data ms j o.n m.phase goes.progress m wait.status (fifo_in (term_login T place)) wait.access goes.along.main wait.asks
        (fifo_data units ready has start w h kit.ground beside (kit.placed beside) kit.known.opened place b wait.is_open quiet)
        (λ below. (stored below).small)
        (λ below cmd command. let p = stored below in site.filled j o.inside (slot_at ms j o.n ended) o.n ended cmd p.small p.there command)
        stored_last slot reads_there

    prepared : prepared_in ms j slot ≡ Some (orb o.n ended)
    prepared = subst (λ s. prepared_in ms j s ≡ Some (orb o.n ended)) (sym present.slot_is) (stored present.linked_is).there

    -- the initiator is in the target's generation, or ahead
    caught : t.generation 0 ≤ t.generation (suc j)
    caught =
        let y : IsOpened ms w place = kit.known.opened place b (up_state _ (listing_up m.phase wait.is_open)) in
        let held = site.held.held place y.login y.is in
        let same : j ≡ held.holder.initiator = ap (λ o. (or_nobody o).initiator) held.there in
        let c = kit.known.caught place y.login y.is y.live held.holder.initiator (held.live y.live).of in
        let at : t.generation (held.holder.initiator + 1) ≡ t.generation (suc j) = ap t.generation (let z : held.holder.initiator + 1 ≡ suc j = omega (arith, same) in z) in
        omega (arith, c, at)

    -- in one generation the list is the present one, so that the slot is of its ORB
    module _ (same : t.generation 0 ≡ t.generation (suc j)) where
      present_is : present_list ms j ≡ Some o.n
      present_is = (kit.here beside j o.inside quiet).present place b wait.is_open refl same ∙ o.list

      has_it : HasSlot ms j slot (orb o.n ended)
      has_it =
          let below = present.linked_is in
          let within = kit.known.known.within j o.n o.inside in
          subst (λ s. HasSlot ms j s (orb o.n ended)) (sym present.slot_is)
          (has_slot ms j o.n ended (initiator_at w j).lists.slots (site.rows j o.inside) (omega (arith, below, within)) (kit.untaken beside j o.inside quiet o.n ended from_ended) present_is)

    had : HadSlot ms ms j slot (orb o.n ended)
    had = by (nat_lt (t.generation 0) (t.generation (suc j))) refl
      where
        by : (less : Bool) → nat_lt (t.generation 0) (t.generation (suc j)) ≡ less → HadSlot ms ms j slot (orb o.n ended)
        by true e = ahead prepared (let z : t.generation 0 < t.generation (suc j) = grind (arith, nat_tests, e) in z)
        by false e =
            let high : t.generation (suc j) ≤ t.generation 0 = grind (arith, nat_tests, e) in
            let low = caught in
            in_generation (has_it (omega (arith, high, low))) low

    pub for_orb : IsForOrb ms w place i slot
    for_orb = record {
      here = here;
      list = o.n;
      list_is = o.list;
      had = subst (λ a. HadSlot ms ms a slot (orb o.n (ends ms a o.n))) here (subst (λ k. HadSlot ms ms j slot (orb o.n k)) goes.is had);
    }

  pub are_for_orbs : AreForOrbs start ms w
  are_for_orbs place i slot serial b inside calm waits x = for_orb place i slot serial b calm waits x
