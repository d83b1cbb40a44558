-- Over a turn that leaves the initiators, or the target and who has its places, what an agent waits for to read in a slot is of the ORB that was prepared
-- there before the turn.
use Rattle.sbp_world.proofs.Common.{same_node}
use Rattle.sbp_world.proofs.Words.Std.{arith, ◌≡◌, ◌∙◌, sym, ap, subst, ◌<◌, ℕ, Bool, true, false, List, ◌++◌, length, Option, Some, None, slice_index_or, same_Some}
use Rattle.sbp_world.proofs.Words.Wire.{Holder, holder_at, Access, Moment, Cmd}
use Rattle.sbp_world.proofs.Words.Target.{Which, Machine, Disk, NodeState, desk_at}
use Rattle.sbp_world.proofs.Words.Initiator.{Window, IfShare, window_at, slot_of_table, InitiatorState, new_state}
use Rattle.sbp_world.proofs.Words.Laws.{fifo_in, Orb, command_at, orb, prepared_in, slot_at, term_login, over, target_at, ends}
use Rattle.sbp_world.proofs.Words.World.{holder, WorldState, initiator_at, has_list, Lasts, name_in, GoesAlong, IsCalm, IsOpenAt, OpenLists, initiator_in, machine_at, slot_in}
use Rattle.bus_memory.specs.declared.window.Window.TheVariants as windows
use Rattle.bus_memory.proofs.Found.{window_share}
use Rattle.sbp_world.proofs.Agents.Management.Holding.{Holding}
use Rattle.sbp_world.proofs.Agents.Management.Still.{hist}
use Rattle.sbp_world.proofs.Hosts.Lasting.{from_moment}
use Rattle.sbp_world.proofs.Hosts.PreparedLasts.{placed}
use Rattle.sbp_world.proofs.Hosts.Readings.{read_law}
use Rattle.sbp_world.proofs.Lists.Bringing.{read_prepared}
use Rattle.sbp_world.proofs.Lists.Brought.{number_of}
use Rattle.sbp_world.proofs.Lists.Early.{IsRead}
use Rattle.sbp_world.proofs.Lists.ReadSlots.{IsIn, is_in, stands}
use Rattle.sbp_world.proofs.Lists.Sites.{IsPrepared, Site, Waiting, waiting}
use Rattle.sbp_world.proofs.Lists.Slots.{IsFilled}
use Rattle.sbp_world.proofs.Lists.Told.{AgentAt}

slot_small : (offset slot : ℕ) (found : Option Window) → IfShare offset found → slot_in found ≡ Some slot → slot < 32
slot_small offset slot (Some (windows.Orb k)) h e = let same = same_Some k slot e in let b = h.0 in omega arith
slot_small offset slot (Some (windows.Table k)) h e = let same = same_Some k slot e in let b = h.0 in omega arith
slot_small offset slot (Some (windows.Buffer k)) h e = let same = same_Some k slot e in let b = h.0 in omega arith
slot_small offset slot (Some windows.Rom) h e = absurd (let no : None ≡ Some slot = e in cc)
slot_small offset slot (Some (windows.Management k)) h e = absurd (let no : None ≡ Some slot = e in cc)
slot_small offset slot (Some (windows.Response k)) h e = absurd (let no : None ≡ Some slot = e in cc)
slot_small offset slot None h e = absurd (let no : None ≡ Some slot = e in cc)

-- what a turn leaves
pub data Leaves (before now : List Moment) (w v : WorldState) : Type 0 where
  leaves_hosts : v.initiators ≡ w.initiators → Leaves before now w v
  leaves_target : v.target ≡ w.target → v.places ≡ w.places → length v.initiators ≡ length w.initiators → ((i n : ℕ) → ends now i n ≡ ends before i n) → Leaves before now w v

-- what is known at a place between two turns
pub record Stood (wild : ℕ → Bool) (units ready : ℕ) (start : List Disk) (past : List Moment) (lines : ℕ) (w : WorldState) : Type 0 where
  pub holds : Holding units ready start past lines w
  pub site : Site start past w
  pub lists : (i : ℕ) → wild i ≡ false → OpenLists (hist past w) w
  pub calm : (i : ℕ) → wild i ≡ false → IsCalm (hist past w) i
  pub agents : (p : ℕ) → p < 8 → AgentAt wild (hist past w) (holder w p) (machine_at w p)

module _ (wild : ℕ → Bool) (units ready : ℕ) (has : 0 < units) (start : List Disk) (past : List Moment) (lines : ℕ) (w : WorldState) (a : Stood wild units ready start past lines w) (later : List Moment) (more : ℕ) (v : WorldState) (b : Stood wild units ready start later more v) (turn : List Moment) (whole : turn ++ hist past w ≡ hist later v) where
  abbrev before : List Moment
  before = hist past w

  abbrev now : List Moment
  now = hist later v

  module _ (place : ℕ) (small : place < 8) (which : Which) (serial i slot n k : ℕ) (r : IsRead wild start now place which serial i slot n k) where
    asked : Waiting units ready has start v b.holds b.site place small which serial
    asked = waiting units ready has start v b.holds b.site place small which serial r.waits

    abbrev j : ℕ
    j = initiator_in v place

    abbrev m : Machine
    m = machine_at v place

    abbrev fifo : ℕ
    fifo = fifo_in (term_login (over (target_at start now)) place)

    i_is : i ≡ j
    i_is = same_node i j (sym r.to ∙ asked.to)

    own : wild j ≡ false
    own = ap wild (sym i_is) ∙ r.own

    there : prepared_in now j slot ≡ Some (orb n k)
    there = subst (λ x. prepared_in now x slot ≡ Some (orb n k)) i_is r.there

    -- ---- the initiators are as they were
    hosts_stay : v.initiators ≡ w.initiators → prepared_in before j slot ≡ Some (orb n k)
    hosts_stay e =
        let inside : j < length w.initiators = subst (λ (xs : List InitiatorState). j < length xs) e asked.inside in
        let low = slot_small r.access.offset slot (window_at r.access.offset) (window_share r.access.offset) r.stands in
        let same : initiator_at w j ≡ initiator_at v j = ap (λ (xs : List InitiatorState). slice_index_or xs j (new_state 0 false)) (sym e) in
        (read_law before j (initiator_at w j).lists.slots (a.site.rows j inside)).named slot low
        ∙ (ap (λ (x : InitiatorState). name_in (slot_of_table x.lists.slots.slots slot).last) same ∙ (sym ((read_law now j (initiator_at v j).lists.slots (b.site.rows j asked.inside)).named slot low) ∙ there))

    -- ---- the target is as it was
    module _ (same_target : v.target ≡ w.target) (same_places : v.places ≡ w.places) (count : length v.initiators ≡ length w.initiators) (ends_are : (i n : ℕ) → ends now i n ≡ ends before i n) where
      access_is : r.access ≡ asked.access
      access_is = same_Some r.access asked.access (sym r.is ∙ asked.is)

      reads : asked.access.is_write ≡ false
      reads = ap (λ (x : Access). x.is_write) (sym access_is) ∙ r.reads

      some : 0 < asked.access.count
      some = subst (λ (x : Access). 0 < x.count) access_is r.some

      open_now : IsOpenAt now v place
      open_now = (b.lists j own).listed place small asked.is_open (b.calm j own)

      abbrev list : ℕ
      list = open_now.n

      goes_now : GoesAlong now j list m
      goes_now = b.agents place small asked.is_open list open_now.list own

      abbrev number : ℕ
      number = number_of which m.phase goes_now.progress.ended

      prepared_now : IsPrepared now j (slot_at now j list number) list number
      prepared_now =
          read_prepared units ready has start v b.holds b.site (b.lists j own) place small asked.is_open asked.inside (b.calm j own) list open_now.list goes_now.progress.ended number goes_now.is
          (is_in now j list which goes_now.progress m asked.status fifo asked.access goes_now.along asked.asks reads)

      slot_is : slot ≡ slot_at now j list number
      slot_is =
          let filled : (cmd : Cmd) → command_at now j list number ≡ Some cmd → IsFilled (slot_at now j list number) cmd = λ cmd command. b.site.filled j asked.inside (slot_at now j list number) list number cmd prepared_now.small prepared_now.there command in
          let stood = stands now j list which goes_now.progress m asked.status fifo asked.access goes_now.along asked.asks reads some prepared_now.small filled in
          same_Some slot (slot_at now j list number) (sym r.stands ∙ (ap (λ (x : Access). slot_in (window_at x.offset)) access_is ∙ stood))

      orb_is : orb list number ≡ orb n k
      orb_is = same_Some (orb list number) (orb n k) (sym prepared_now.there ∙ (ap (prepared_in now j) (sym slot_is) ∙ there))

      -- before the turn
      goes_before : GoesAlong before j list m
      goes_before =
          subst (λ (t : NodeState). AgentAt wild before (holder v place) (desk_at t place).agent) (sym same_target)
          (subst (λ ps. AgentAt wild before (holder_at ps place) (machine_at w place)) (sym same_places) (a.agents place small)) asked.is_open list open_now.list own

      abbrev first : ℕ
      first = number_of which m.phase goes_before.progress.ended

      ended_same : goes_before.progress.ended ≡ goes_now.progress.ended
      ended_same = goes_before.is ∙ (sym (ends_are j list) ∙ sym goes_now.is)

      abbrev Reads : Holder → Machine → Type 0
      Reads h x = has_list x.phase ≡ true → h.initiator < length w.initiators → IsCalm before h.initiator → (n : ℕ) → h.list ≡ Some n → (ended k : ℕ) → ended ≡ ends before h.initiator n → IsIn before h.initiator n x.phase ended k → IsPrepared before h.initiator (slot_at before h.initiator n k) n k

      inside : j < length w.initiators
      inside = subst (λ l. j < l) count asked.inside

      prepared_before : IsPrepared before j (slot_at before j list first) list first
      prepared_before =
          subst (λ (t : NodeState). Reads (holder v place) (desk_at t place).agent) (sym same_target)
          (subst (λ ps. Reads (holder_at ps place) (machine_at w place)) (sym same_places)
          (λ o c d n e ended k f g. read_prepared units ready has start w a.holds a.site (a.lists j own) place small o c d n e ended k f g))
          asked.is_open inside (a.calm j own) list open_now.list goes_before.progress.ended first goes_before.is
          (is_in before j list which goes_before.progress m asked.status fifo asked.access goes_before.along asked.asks reads)

      slot_same : slot_at now j list first ≡ slot_at before j list first
      slot_same =
          let lasts : Lasts before now j = from_moment turn before now j whole (b.site.last j asked.inside) in
          lasts.slot list first (placed j (slot_at before j list first) list first before (a.site.last j inside) prepared_before.there).below

      target_stays : prepared_in before j slot ≡ Some (orb n k)
      target_stays =
          let same : first ≡ number = ap (number_of which m.phase) ended_same in
          ap (prepared_in before j) (slot_is ∙ (ap (slot_at now j list) (sym same) ∙ slot_same))
          ∙ (prepared_before.there ∙ (ap (λ x. Some (orb list x)) same ∙ ap (λ (x : Orb). Some x) orb_is))

    stays_by : Leaves before now w v → prepared_in before j slot ≡ Some (orb n k)
    stays_by (leaves_hosts e) = hosts_stay e
    stays_by (leaves_target e f g d) = target_stays e f g d

    pub same_before : Leaves before now w v → prepared_in before i slot ≡ Some (orb n k)
    same_before l = subst (λ x. prepared_in before x slot ≡ Some (orb n k)) (sym i_is) (stays_by l)
