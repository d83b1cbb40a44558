-- At a place of a run, where lists are open as they should be: a read of an agent of an ORB, of a next pointer, or of an ORB ahead, of an initiator that injected no packets, is of an ORB of the list that the agent has, which
-- stands in its slot.
use Rattle.sbp_world.proofs.Words.Std.{arith, ◌≡◌, ◌∙◌, sym, ap, subst, ◌<◌, ◌≤◌, ℕ, suc, Bool, true, false, List, Some, Ok}
use Rattle.sbp_world.proofs.Words.Wire.{Access, Moment, Terms, terms}
use Rattle.sbp_world.proofs.Words.Target.{Ahead, Disk, Knows, KnowsAhead, Machine, Main, Phase, Progress, ReadAhead, ReadsAhead, Which, aligned, is_ahead, is_reset, main_ask, state_in}
use Rattle.sbp_world.proofs.Words.Initiator.{Answer, At, CommandOrb, Null, OrbPointer, command_orb, payload_of, pointer_at, start}
use Rattle.sbp_world.proofs.Words.Laws.{Agent, IsRead, Target, address_of, agent_at, appends, before_sent, fifo_in, linked, over, receiver_in, sender_in, slot_at, target_at, term_login}
use Rattle.sbp_world.proofs.Words.World.{GoesAlong, IsAccessFor, IsCalm, IsOpenAt, IsTameOrFew, OpenLists, WorldState, has_list, initiator_in, machine_at, read_access, serial_of}
use Rattle.agent_laws.specs.Along.Along.{IsNamed}
use Rattle.agent_laws.specs.Along.Lists.{OrbList}
use Rattle.agent_laws.specs.Along.Requests.{ahead_ask}
use Rattle.bus_memory.specs.declared.window.Window.TheVariants as windows
use Rattle.command_agent.specs.declared.phase.Phase.TheVariants as phases
use Rattle.command_agent.specs.declared.phase.ReadAhead.TheVariants as aheads
use Rattle.sbp_world.specs.Agents.Alike.{Alike}
use Rattle.sbp_world.specs.Completing.Bells.{AreListsThen, AreOfLists, BringsNullOf, IsOfList, of_orb, of_orb_ahead, of_pointer}
use Rattle.sbp_world.specs.Completing.Nulls as nulls
use Rattle.sbp_world.specs.Completing.Nulls.{IsNull}
use Rattle.sbp_world.specs.Lists.SentReads.{AreSentBehind}
use Rattle.sbp_world.specs.Lists.Taken.{AreTaken}
use Rattle.sbp_world.proofs.Agents.Management.Holding.{Holding}
use Rattle.sbp_world.proofs.Agents.Management.Still.{hist}
use Rattle.sbp_world.proofs.Common.{same_node, untrue}
use Rattle.sbp_world.proofs.Hosts.Cores.{not_so as up_state}
use Rattle.sbp_world.proofs.Lists.Brought.{list, read_at}
use Rattle.sbp_world.proofs.Lists.MainSlots.{Kit}
use Rattle.sbp_world.proofs.Lists.OpenTurns.{listing_up}
use Rattle.sbp_world.proofs.Lists.Sites.{IsPrepared, Site, Waiting, named_prepared, waiting as agent_waiting}
use Rattle.sbp_world.proofs.Lists.Slots.{orb_slot}
use Rattle.sbp_world.proofs.Lists.StillTurns.{site_at}
use Rattle.sbp_world.proofs.Lists.StillReads.{same_offset}

-- ---- what is read ahead
record NamesNext (l : OrbList) (ended : ℕ) (next : OrbPointer) : Type 0 where
  number : ℕ
  behind : ended ≤ number
  is : IsNamed l number next

reads_next : (l : OrbList) (k : ℕ) (next : OrbPointer) (ahead : ReadAhead) → is_ahead ahead ≡ true → ReadsAhead l k next ahead → IsNamed l k next
reads_next l k next aheads.Idle e h = untrue e
reads_next l k next (aheads.UnderWay rung) e h = h
reads_next l k next (aheads.Kept orb) e h = untrue e

next_behind : (l : OrbList) (ended : ℕ) (next : OrbPointer) (ahead : ReadAhead) → is_ahead ahead ≡ true → ReadsAhead l (suc ended) next ahead → NamesNext l ended next
next_behind l ended next ahead e h = record { number = suc ended; behind = omega arith; is = reads_next l (suc ended) next ahead e h }

idle_next : {A : Type 0} (ahead : ReadAhead) → is_ahead ahead ≡ true → ahead ≡ aheads.Idle → A
idle_next ahead e f = untrue (sym (ap is_ahead f) ∙ e)

names_next : (l : OrbList) (p : Progress) (phase : Phase) (next : OrbPointer) (ahead : ReadAhead) → is_ahead ahead ≡ true → KnowsAhead l p phase next ahead → NamesNext l p.ended next
names_next l p phases.ReadingTable next ahead e k = next_behind l p.ended next ahead e k
names_next l p (phases.ReadingData wanted) next ahead e k = next_behind l p.ended next ahead e k
names_next l p phases.Answering next ahead e k = next_behind l p.ended next ahead e k
names_next l p phases.WritingStatus next ahead e k = record { number = p.ended; behind = omega arith; is = reads_next l p.ended next ahead e k }
names_next l p phases.Fetching next ahead e k = idle_next ahead e k
names_next l p phases.ReadingNext next ahead e k = idle_next ahead e k
names_next l p phases.WritingLastStatus next ahead e k = idle_next ahead e k
names_next l p phases.Reset next ahead e k = idle_next ahead e k
names_next l p phases.Suspended next ahead e k = idle_next ahead e k
names_next l p phases.Dead next ahead e k = idle_next ahead e k

asks_next : (ahead : ReadAhead) (next : OrbPointer) (offset : ℕ) (status : Bool) (fifo : ℕ) (access : Access) → next ≡ At offset → IsAccessFor (ahead_ask ahead next) status fifo access → access ≡ read_access (aligned offset) 32
asks_next aheads.Idle next offset status fifo access e a = absurd a
asks_next (aheads.UnderWay rung) next offset status fifo access e a = subst (λ n. IsAccessFor (ahead_ask (aheads.UnderWay rung) n) status fifo access) e a
asks_next (aheads.Kept orb) next offset status fifo access e a = absurd a

-- ---- at a place
-- what is known of it
pub record Known (start_disks : List Disk) (ms : List Moment) (w : WorldState) : Type 0 where
  pub kit : Kit start_disks ms w
  pub taken : AreTaken start_disks ms w
  pub sent : IsTameOrFew ms → AreSentBehind start_disks ms

module _ (units ready : ℕ) (has : 0 < units) (start_disks : List Disk) {past : List Moment} {lines : ℕ} (w : WorldState) (h : Holding units ready start_disks past lines w) (known : Known start_disks (hist past w) w) (beside : IsTameOrFew (hist past w)) where
  abbrev kit : Kit start_disks (hist past w) w
  kit = known.kit

  abbrev ms : List Moment
  ms = hist past w

  abbrev t : Terms
  t = terms ms

  abbrev T : Target
  T = over (target_at start_disks ms)

  site : Site start_disks past w
  site = site_at start_disks past w kit.ground

  open_lists : OpenLists ms w
  open_lists = kit.ground.lists beside

  module _ (place address request : ℕ) (answer : Answer) (b : place < 8) where
    abbrev j : ℕ
    j = initiator_in w place

    abbrev a : Agent
    a = agent_at T place

    abbrev m : Machine
    m = machine_at w place

    alike : Alike a.untold a.machine m
    alike = (site.agents.are.each place b).machine

    from_by : (which : Which) → serial_of which a ≡ Some request → sender_in (t.sent request) ≡ Some 0
    from_by Main e = ((site.asked.all place b).main request e).from
    from_by Ahead e = ((site.asked.all place b).ahead request e).from

    module _ (which : Which) (waits : serial_of which a ≡ Some request) where
      wait : Waiting units ready has start_disks w h site place b which request
      wait = agent_waiting units ready has start_disks w h site place b which request waits

      up : is_reset (state_in m.phase) ≡ false
      up = up_state _ (listing_up m.phase wait.is_open)

    -- it goes to the initiator that has the place
    goes_to : BringsNullOf address a request answer → receiver_in (t.sent request) ≡ Some (suc j)
    goes_to (of_orb bytes main phase pays null at) = (wait Main main).to
    goes_to (of_pointer bytes main phase pays null at) = (wait Main main).to
    goes_to (of_orb_ahead bytes offset ahead under pays null next at) = (wait Ahead ahead).to

    -- it is of an ORB of the agent's list
    abbrev Named : Type 0
    Named = IsOfList start_disks ms place j address request answer

    module _ (quiet : IsCalm ms j) where
      module _ (which : Which) (waits : serial_of which a ≡ Some request) where
        abbrev x : Waiting units ready has start_disks w h site place b which request
        x = wait which waits

        o : IsOpenAt ms w place
        o = open_lists.listed place b x.is_open quiet

        abbrev l : OrbList
        l = list ms j o.n

        goes : GoesAlong ms j o.n m
        goes = kit.ground.along.all place b x.is_open quiet o.n o.list

        abbrev ended : ℕ
        ended = goes.progress.ended

        stored : (k : ℕ) → ended ≤ k → k < linked ms j o.n → IsPrepared ms j (slot_at ms j o.n k) o.n k
        stored k late below = let e = goes.is in named_prepared units ready has start_disks w h site place o.n k o.inside (o.named k (omega (arith, e, late)) below)

        stored_last : m.phase ≡ phases.ReadingNext → (last : ℕ) → ended ≡ suc last → IsPrepared ms j (slot_at ms j o.n last) o.n last
        stored_last phase last e = named_prepared units ready has start_disks w h site place o.n last o.inside (open_lists.behind place b phase quiet o.n last o.list (sym goes.is ∙ e))

        -- it is that of an ORB of the list
        module _ (size offset k : ℕ) (some : 0 < size) (asks : x.access ≡ read_access offset size) (there : offset ≡ address_of ms j o.n k) (p : IsPrepared ms j (slot_at ms j o.n k) o.n k) where
          is_read : IsRead x.access (start (windows.Orb (slot_at ms j o.n k))) size
          is_read = read_at x.access offset size (start (windows.Orb (slot_at ms j o.n k))) asks there

          sent_behind : k < appends (before_sent ms request) j o.n
          sent_behind = known.sent beside place b which request j (slot_at ms j o.n k) o.n k (record {
            waits = waits;
            to = x.to;
            calm = quiet;
            access = x.access;
            is = x.is;
            reads = is_read.read;
            some = subst (λ n. 0 < n) (sym is_read.size) some;
            stands = orb_slot x.access (slot_at ms j o.n k) size p.small is_read;
            there = p.there;
          })

          made : offset ≡ address → (bytes : List ℕ) → IsNull x.access (slot_at ms j o.n k) answer bytes → Named
          made at bytes null = record {
            list = o.n;
            list_is = known.taken place b (up which waits) ∙ o.list;
            number = k;
            address_is = sym at ∙ there;
            stands = record { small = p.small; is = p.there };
            behind = sent_behind;
            from = from_by which waits;
            access = x.access;
            is = x.is;
            bytes = bytes;
            brings = null;
          }

      -- the ORB that is fetched
      in_orb : (bytes : List ℕ) → a.main ≡ Some request → a.machine.phase ≡ phases.Fetching → payload_of answer 32 ≡ Ok bytes → (command_orb bytes).next ≡ Null → a.machine.present ≡ address → Named
      in_orb bytes main phase pays null at =
          let y = x Main main in
          let p : m.phase ≡ phases.Fetching = sym alike.phase ∙ phase in
          let k = subst (λ z. Knows (l Main main) (goes Main main).progress z m) p (goes Main main).along.main in
          let present : m.present ≡ address = sym (alike.present (ap has_list p)) ∙ at in
          let asks : y.access ≡ read_access m.present 32 = subst (λ z. IsAccessFor (main_ask z m) y.status (fifo_in (term_login T place)) y.access) p y.asks in
          let s = stored Main main (ended Main main) (omega arith) k.turn.linked in
          made Main main 32 m.present (ended Main main) (omega arith) asks k.turn.place s present bytes (nulls.of_orb (is_read Main main 32 m.present (ended Main main) (omega arith) asks k.turn.place s) pays null)

      -- the last one, whose next pointer is read
      in_pointer : (bytes : List ℕ) → a.main ≡ Some request → a.machine.phase ≡ phases.ReadingNext → payload_of answer 8 ≡ Ok bytes → pointer_at bytes 0 ≡ Null → a.machine.present ≡ address → Named
      in_pointer bytes main phase pays null at =
          let y = x Main main in
          let p : m.phase ≡ phases.ReadingNext = sym alike.phase ∙ phase in
          let k = subst (λ z. Knows (l Main main) (goes Main main).progress z m) p (goes Main main).along.main in
          let present : m.present ≡ address = sym (alike.present (ap has_list p)) ∙ at in
          let asks : y.access ≡ read_access m.present 8 = subst (λ z. IsAccessFor (main_ask z m) y.status (fifo_in (term_login T place)) y.access) p y.asks in
          let s = stored_last Main main p k.over.last k.over.ended in
          made Main main 8 m.present k.over.last (omega arith) asks k.over.place s present bytes (nulls.of_pointer (is_read Main main 8 m.present k.over.last (omega arith) asks k.over.place s) pays null)

      -- the one that is read ahead
      in_ahead : (bytes : List ℕ) (offset : ℕ) → a.ahead ≡ Some request → is_ahead a.machine.ahead ≡ true → payload_of answer 32 ≡ Ok bytes → (command_orb bytes).next ≡ Null → a.machine.orb.next ≡ At offset → aligned offset ≡ address → Named
      in_ahead bytes offset ahead under pays null next at =
          let y = x Ahead ahead in
          let reads : is_ahead m.ahead ≡ true = sym alike.flag ∙ under in
          let next_is : m.orb.next ≡ At offset = ap (λ (z : CommandOrb). z.next) (sym (alike.orb y.is_open)) ∙ next in
          let asks : y.access ≡ read_access (aligned offset) 32 = asks_next m.ahead m.orb.next offset y.status (fifo_in (term_login T place)) y.access next_is y.asks in
          let n = names_next (l Ahead ahead) (goes Ahead ahead).progress m.phase m.orb.next m.ahead reads (goes Ahead ahead).along.ahead in
          let same : offset ≡ n.is.offset = same_offset offset n.is.offset (sym next_is ∙ n.is.named) in
          let there : aligned offset ≡ address_of ms j (o Ahead ahead).n n.number = ap aligned same ∙ n.is.place in
          let s = stored Ahead ahead n.number n.behind n.is.linked in
          made Ahead ahead 32 (aligned offset) n.number (omega arith) asks there s at bytes (nulls.of_orb (is_read Ahead ahead 32 (aligned offset) n.number (omega arith) asks there s) pays null)

      of_list : BringsNullOf address a request answer → Named
      of_list (of_orb bytes main phase pays null at) = in_orb bytes main phase pays null at
      of_list (of_pointer bytes main phase pays null at) = in_pointer bytes main phase pays null at
      of_list (of_orb_ahead bytes offset ahead under pays null next at) = in_ahead bytes offset ahead under pays null next at

  pub are_of_lists : AreOfLists start_disks ms
  are_of_lists place i address request answer b calm to x =
      let here : initiator_in w place ≡ i = same_node (initiator_in w place) i (sym (goes_to place address request answer b x) ∙ to) in
      subst (λ k. IsOfList start_disks ms place k address request answer) here (of_list place address request answer b (subst (IsCalm ms) (sym here) calm) x)

  -- what an agent waits for goes to the initiator of its place, and its list is the one for which it took ORB_POINTER last
  pub are_lists_then : AreListsThen start_disks ms w
  are_lists_then place n b up held = record {
    taken = known.taken place b up ∙ held;
    sends = λ which request waits. (agent_waiting units ready has start_disks w h site place b which request waits).to;
  }
