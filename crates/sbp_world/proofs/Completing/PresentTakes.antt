-- A write of ORB_POINTER that is taken as new in a turn opens its list, where the login of its initiator's node is in the place of the agent to which it is written: no login bars it, and the agent is in RESET,
-- for an agent of the initiator that is out of RESET has the list of another write.
use Rattle.sbp_world.proofs.Words.Std.{arith, ◌≡◌, ◌∙◌, refl, sym, ap, subst, inl, inr, ◌<◌, ◌≤◌, ◌+◌, ◌%◌, ◌^◌, not, nat_lt, nat_tests, ℕ, suc, Bool, true, false, List, ◌∷◌, ◌++◌, length, Some, Ok, same_Some}
use Rattle.sbp_world.proofs.Words.Wire.{Access, Header, Holder, Moment, Packet, Sending, Sent, SerialsCount, as_sending, found_sent, judged_note, of_request, or_nobody, reading, said, terms, write_block}
use Rattle.sbp_world.proofs.Words.Target.{AgentState, Disk, Machine, NodeState, agent_base, desk_at, is_reset, point_in, point_step, received, state_in}
use Rattle.sbp_world.proofs.Words.Initiator.{Ask, At, OrbPointer, pointer_at, start_of}
use Rattle.sbp_world.proofs.Words.Laws.{access_in_bytes, id_for, lists, slot_at}
use Rattle.sbp_world.proofs.Words.World.{IsCalm, IsUp, PointersAt, Scene, Stands, WorldState, holder, initiator_in, machine_at, pointed_list, pointer_write, view, whole_of}
use Rattle.bus_memory.specs.declared.window.Window.TheVariants as windows
use Rattle.byteorder.specs.Endian.{big_bytes}
use Rattle.command_agent.specs.declared.step.AgentState.TheVariants as states
use Rattle.sbp_target.proofs.Histories.Calling.{Good}
use Rattle.sbp_world.specs.Lists.Opened.{AreAllOpenFor, IsOpenFor}
use Rattle.sbp_world.specs.Completing.Present.{IsUpWith, WasPointed}
use Rattle.sbp_world.specs.Completing.PresentHomes.{HasHome, WaitsFor}
use Rattle.sbp_world.specs.Pointers.Pointers.{IsPointer, IsPointing}
use Rattle.sbp_world.proofs.Agents.Management.Holding.{good_of, same_id, was_sent}
use Rattle.sbp_world.proofs.Agents.Management.Still.{hist}
use Rattle.sbp_world.proofs.Completing.PresentDemands.{SpellsBlock, block_by, pointer_demand, pointer_free}
use Rattle.sbp_world.proofs.Completing.PresentFinds.{IsFound, is_found}
use Rattle.sbp_world.proofs.Completing.PresentGets.{GotFrom, TurnGets, turn_gets}
use Rattle.sbp_world.proofs.Completing.PresentOpens.{PointsIt, opens_up}
use Rattle.sbp_world.proofs.Completing.PresentRuns.{Asks, Takes}
use Rattle.sbp_world.proofs.Completing.PresentStays.{called_lists}
use Rattle.sbp_world.proofs.Hosts.Remaining.{remains}
use Rattle.sbp_world.proofs.Lists.CutOffSteps.{young_at}
use Rattle.sbp_world.proofs.Lists.Gots.{turn_next}
use Rattle.sbp_world.proofs.Lists.Judging.{Grown, counts_at, grown, next_fresh}
use Rattle.sbp_world.proofs.Lists.OpenedMoments.{pointed_remains}
use Rattle.sbp_world.proofs.Lists.PlaceOwners.{walk_owns}
use Rattle.sbp_world.proofs.Lists.Rises.{Rises}
use Rattle.sbp_world.proofs.Lists.StatusKnown.{generation_grows}
use Rattle.sbp_world.proofs.Lists.StatusRested.{Grounds}
use Rattle.sbp_world.proofs.Lists.StatusRuns.{rises_of}
use Rattle.sbp_world.proofs.Lists.TurnWalk.{seated_of}
use Rattle.sbp_world.proofs.Lists.UpLatest.{AreUpLatest}
use Rattle.sbp_world.proofs.Lists.Walks.{Step}
use Rattle.sbp_world.proofs.Common.{untrue}

-- ---- an agent in RESET takes a pointer
takes_at : (state : AgentState) (m : Machine) (a : ℕ) → is_reset state ≡ true → (ask : Ask) × ((point_in state m (At a)).0 ≡ Ok ask)
takes_at states.Reset m a e = (_, refl)
takes_at states.Suspended m a e = untrue e
takes_at states.Active m a e = untrue e
takes_at states.Dead m a e = untrue e

reset_takes : (m : Machine) (pointer : OrbPointer) (a : ℕ) → pointer ≡ At a → is_reset (state_in m.phase) ≡ true → (ask : Ask) × ((point_step m pointer).0 ≡ Ok ask)
unfolding point_step
reset_takes m pointer a e r = subst (λ x. (ask : Ask) × ((point_step m x).0 ≡ Ok ask)) (sym e) (takes_at (state_in m.phase) m a r)

-- ---- what is known of a place
pub record Kit (asks : Asks) (past : List Moment) (w : WorldState) : Type 0 where
  pub up : AreUpLatest past w
  pub open_for : AreAllOpenFor past w
  pub home : (i n serial : ℕ) → i < length w.initiators → IsCalm past i → asks.of past i n → (x : WaitsFor past i n serial) → HasHome w (id_for (terms past) 0 (suc i)) x.pointer.base

-- an agent has a list, that was in RESET before
pub record IsOpenedIn (before : WorldState) (now : List Moment) (v : WorldState) (i n : ℕ) : Type 0 where
  pub has : IsUpWith now v i n
  pub reset : is_reset (state_in (machine_at before has.place).phase) ≡ true

module _ (asks : Asks) (wild : ℕ → Bool) (units ready : ℕ) (has : 0 < units) (start : List Disk) (past : List Moment) (s : Scene) (later : List Moment) (t : Scene) (step : Step wild units ready start Grounds (Kit asks) past s later t) (i n : ℕ) (inside : i < length s.world.initiators) (own : wild i ≡ false) (also : asks.of (hist later t.world) i n) (x : WasPointed (hist later t.world) i n) (unjudged : (terms (hist past s.world)).news x.serial ≡ 0) where
  abbrev w : WorldState
  w = s.world

  abbrev v : WorldState
  v = t.world

  abbrev before : List Moment
  before = hist past w

  abbrev now : List Moment
  now = hist later v

  abbrev serial : ℕ
  serial = x.serial

  calm : IsCalm before i
  calm = step.stands.reached.calm i own

  kit : Kit asks before w
  kit = step.so_far i own

  pointers : PointersAt before i
  pointers = step.known.ground.known.pointers i inside

  stands : Stands past w
  stands = step.stands.reached.holds.sound.stands

  -- ---- the write was sent before
  on : Grown before now
  on = grown before now (turn_next past s later t step.turn)

  counts : SerialsCount (on.new ++ before)
  counts = subst SerialsCount (sym on.is) step.reaches.site.serials

  rises : Rises (on.new ++ before)
  rises = subst Rises (sym on.is) (rises_of later v step.reaches.holds.sound.stands now refl)

  old : serial ≤ (terms before).count
  old = by (nat_lt (terms before).count serial) refl
    where
      by : (young : Bool) → nat_lt (terms before).count serial ≡ young → serial ≤ (terms before).count
      by true e =
          let none = next_fresh serial before now (counts_at w stands) (grind (arith, nat_tests, e)) (turn_next past s later t step.turn) in
          let taken = x.taken in
          absurd (omega (arith, none, taken))
      by false e = grind (arith, nat_tests, e)

  sent_then : (terms before).sent serial ≡ Some x.packet
  sent_then = sym ((remains on.new before counts).sent serial old) ∙ (ap (λ ms. (terms ms).sent serial) on.is ∙ x.sent)

  pointed_then : pointed_list before serial i ≡ Some n
  pointed_then = sym (pointed_remains on.new before serial i counts old) ∙ (ap (λ ms. pointed_list ms serial i) on.is ∙ x.pointed)

  k : IsPointer before i n serial
  k = pointers.each n serial pointed_then

  packet_is : k.packet ≡ x.packet
  packet_is = same_Some k.packet x.packet (sym k.sent ∙ sent_then)

  -- of the generation in which the initiator was, and is
  current : k.packet.generation ≡ (terms before).generation (suc i)
  current =
      let young : x.packet.generation ≤ (terms before).generation (suc i) = subst (λ node. x.packet.generation ≤ (terms before).generation node) x.from_is (young_at w stands serial x.packet sent_then) in
      let grows = generation_grows on.new before (suc i) rises in
      let same : (terms (on.new ++ before)).generation (suc i) ≡ (terms now).generation (suc i) = ap (λ ms. (terms ms).generation (suc i)) on.is in
      let is = x.current in
      let its : k.packet.generation ≡ x.packet.generation = ap (λ (q : Sending). q.generation) packet_is in
      omega (arith, young, grows, same, is, its)

  -- ---- the turn in which it is taken
  is_sent : (sent : Sent) → found_sent serial w.store.kept ≡ Some sent → k.packet ≡ as_sending sent
  is_sent sent found = same_Some k.packet (as_sending sent) (sym k.sent ∙ was_sent w stands serial sent found)

  to_target : (sent : Sent) → found_sent serial w.store.kept ≡ Some sent → sent.to ≡ 0
  to_target sent found = ap (λ (q : Sending). q.to) (sym (is_sent sent found)) ∙ k.to_is

  pub gets : TurnGets past w later v serial
  gets = turn_gets past s later t step.turn (seated_of wild units ready has start past step.lines w step.stands) serial to_target

  module _ (g : GotFrom past w later v serial) where
    abbrev sent : Sent
    sent = g.got.sent

    found : found_sent serial w.store.kept ≡ Some sent
    found = ap (λ st. found_sent serial st.kept) (sym g.store) ∙ g.got.found

    sending : k.packet ≡ as_sending sent
    sending = is_sent sent found

    honest : sent.injected ≡ false
    honest = ap (λ (q : Sending). q.injected) (sym sending) ∙ k.honest

    from_is : sent.from ≡ suc i
    from_is = ap (λ (q : Sending). q.from) (sym sending) ∙ k.from_is

    abbrev access : Access
    access = pointer_write k.base (start_of (windows.Orb (slot_at before i n 0)))

    b : SpellsBlock sent.bytes access
    b = block_by sent.bytes (reading sent.bytes) refl access (ap (λ (q : Sending). access_in_bytes q.bytes) (sym sending) ∙ k.spelled) refl refl

    abbrev header : Header
    header = b.block.header

    abbrev block : Packet
    block = write_block header b.block.offset b.block.payload

    read : reading sent.bytes ≡ Ok block
    read = b.read ∙ ap (λ p. Ok p) b.block.is

    rises_then : (terms (said (judged_note serial (received g.got.run sent.generation sent.bytes (whole_of w.target g.got.media)).0) ∷ hist later g.w)).news serial ≡ (terms (hist later g.w)).news serial → ⊥
    rises_then e =
        let same : (terms now).news serial ≡ (terms before).news serial =
        g.got.news
        ∙ (ap (λ (node : NodeState). (terms (said (judged_note serial (received g.got.run sent.generation sent.bytes (whole_of node g.got.media)).0) ∷ hist later g.w)).news serial) g.target
        ∙ (e ∙ g.news_are)) in
        let taken = x.taken in
        let none = unjudged in
        absurd (omega (arith, same, taken, none))

    its : IsFound w stands serial sent found g.got.to_is honest block read refl
    its = is_found w stands serial sent found g.got.to_is honest block read refl g.got.run g.got.media (hist later g.w) rises_then

    -- both ends are in one generation
    same : (terms before).generation 0 ≡ (terms before).generation (suc i)
    same = sym its.current ∙ (ap (λ (q : Sending). q.generation) (sym sending) ∙ current)

    waits : WaitsFor before i n serial
    waits = record { pointed = pointed_then; pointer = k; current = current; same = same; unjudged = unjudged }

    home : HasHome w (id_for (terms before) 0 (suc i)) k.base
    unfolding k waits
    home = kit.home i n serial inside calm (asks.back on.new before i n (subst (λ ms. asks.of ms i n) (sym on.is) also)) waits

    abbrev q : ℕ
    q = home.place

    pointing : IsPointing before i n serial
    pointing = pointers.waits calm n serial k.packet pointed_then k.sent current unjudged

    -- ---- whose the place is
    mine : initiator_in w q ≡ i
    mine =
        let h = step.stands.reached.site.held.held q home.login home.there in
        let of = (h.live home.live).of in
        let next : h.holder.initiator + 1 ≡ suc i = same_id w stands (h.holder.initiator + 1) (suc i) (of.node_is ∙ home.of_node) in
        ap (λ (y : Holder). y.initiator) (ap or_nobody h.there) ∙ (let z : h.holder.initiator ≡ i = omega (arith, next) in z)

    -- ---- its agent is in RESET
    in_reset : is_reset (state_in (machine_at w q).phase) ≡ true
    in_reset = by (is_reset (state_in (machine_at w q).phase)) refl
      where
        by : (r : Bool) → is_reset (state_in (machine_at w q).phase) ≡ r → r ≡ true
        by true e = refl
        by false e =
            let up : IsUp w i q = record { up = ap not e; own = mine } in
            let o : IsOpenFor (view before i) i q (holder w q).list = (kit.open_for i inside calm).each q home.small up in
            let list : o.list ≡ n = same_Some o.list n (sym (o.present same) ∙ pointing.present) in
            let one : o.serial ≡ serial = pointers.once n o.serial serial (o.pointed ∙ ap (λ l. Some l) list) pointed_then in
            let got : 0 < (terms before).news serial = subst (λ r. 0 < (terms before).news r) one o.got in
            let none = unjudged in
            absurd (omega (arith, got, none))

    -- ---- it takes the pointer
    abbrev payload : List ℕ
    payload = big_bytes 8 (start_of (windows.Orb (slot_at before i n 0)))

    abbrev write : Packet
    write = write_block header ((agent_base q + 0x08) % 2 ^ 48) payload

    is_write : block ≡ write
    is_write = ap (λ o. write_block header o b.block.payload) (b.block.offset_is ∙ home.at) ∙ ap (λ bytes. write_block header ((agent_base q + 0x08) % 2 ^ 48) bytes) b.block.payload_is

    good : Good w.target
    good = good_of units ready step.stands.reached.holds.calls w.target has step.stands.reached.holds.made

    points : PointsIt w good q home.small sent g.got.run g.got.media
    points =
        let take = reset_takes (desk_at w.target q).agent (pointer_at payload 0) (start_of (windows.Orb (slot_at before i n 0))) k.points in_reset in
        record {
          packet = write;
          found = its.is ∙ ap (λ p. of_request p) is_write;
          free = pointer_free q home.small header payload refl w.target home.login home.there home.live (home.of_node ∙ sym (its.source ∙ ap (λ node. id_for (terms before) 0 node) from_is));
          pointer = pointer_at payload 0;
          demand = pointer_demand q home.small header payload refl (length w.target.rom) step.stands.reached.holds.rom;
          ask = take.0;
          took = take.1;
        }

    target_is : v.target ≡ (received g.got.run sent.generation sent.bytes (whole_of w.target g.got.media)).1.node
    target_is = g.got.target ∙ ap (λ (node : NodeState). (received g.got.run sent.generation sent.bytes (whole_of node g.got.media)).1.node) g.target

    up_there : is_reset (state_in (machine_at v q).phase) ≡ false
    up_there = ap (λ (node : NodeState). is_reset (state_in (desk_at node q).agent.phase)) target_is ∙ opens_up w good q home.small sent g.got.run g.got.media points

    up_now : IsUp v i q
    up_now =
        let out = ap not up_there in
        record { up = out; own = walk_owns units ready has start s step.stands.reached.holds step.stands.reached.site.held later t step.turn q home.small out ∙ mine }

    latest : suc n ≡ lists now i
    latest = pointers.latest n pointing.present ∙ sym (called_lists later g.w v g.got.called i ∙ g.lists_are i)

    taken_with : IsUpWith now v i n
    taken_with = record { place = q; small = home.small; up = up_now; list = (step.so_far_then i own).up i q n (step.reaches.calm i own) home.small up_now latest; latest = latest }

    -- and was in RESET before
    pub opened_in : IsOpenedIn w now v i n
    unfolding taken_with
    opened_in = record { has = taken_with; reset = in_reset }

  pub opened : IsUpWith now v i n
  opened = by gets
    where
      by : TurnGets past w later v serial → IsUpWith now v i n
      by (inl e) = let taken = x.taken in let none = unjudged in absurd (omega (arith, e, taken, none))
      by (inr g) = taken_with g

-- so each turn of a run does
pub all_take : (asks : Asks) (wild : ℕ → Bool) (units ready : ℕ) → 0 < units → (start : List Disk) (past : List Moment) (s : Scene) (later : List Moment) (t : Scene) → Step wild units ready start Grounds (Kit asks) past s later t → Takes asks wild (hist past s.world) s.world (hist later t.world) t.world
all_take asks wild units ready has start past s later t step i n inside own x unjudged uncut also = opened asks wild units ready has start past s later t step i n inside own also x unjudged
