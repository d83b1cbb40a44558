-- At a place of a run, where lists are open as they should be: what an agent waits for of an initiator that injected no packets, and is in the target's generation, is answered complete. It is a read of an ORB of the
-- agent's list, which stands in its slot; of its page table, or of bytes of its data; a write of bytes of its answer; or a write of a status block to a FIFO.
use Rattle.sbp_world.proofs.Words.Std.{arith, ◌≡◌, ◌∙◌, refl, sym, ap, subst, inl, inr, ◌<◌, ◌≤◌, ◌+◌, ◌-◌, ◌*◌, ◌&&◌, ℕ, suc, not, Bool, true, false, List, [], drop, take, length, Some, pow_pos}
use Rattle.sbp_world.proofs.Words.Wire.{Access, Cmd, Moment, Terms, terms}
use Rattle.sbp_world.proofs.Words.Target.{Knows, KnowsAhead, ReadsAhead, Progress, ahead_ask, main_ask, number_behind, writes_status, Phase, ReadAhead, Which, Ahead, Main, Machine, aligned, chunk_of, limit_of, Disk, Table, place_at}
use Rattle.sbp_world.proofs.Words.Initiator.{CommandOrb, OrbPointer, Segment, addresses, bytes_of, buffer_addresses, chunk_from, is_fifo, start, window_at, new_memory}
use Rattle.sbp_world.proofs.Words.Laws.{address_of, laid_out, injectors, fifo_in, command_at, direction_of, goes_in, has_direction, linked, orb, slot_at, Target, term_login, over, target_at}
use Rattle.sbp_world.proofs.Words.World.{WorldState, initiator_at, IsAccessFor, GoesAlong, read_access, write_access, Follows, HasSlot, IsBufferOf, IsReadBy, IsSaid, IsCalm, IsOpenAt, IsTameOrFew, IsOpened, IsLoginFifo, OpenLists, Office, initiator_in, machine_at, AreInward}
use Rattle.bus_memory.proofs.Found.{window_here}
use Rattle.bus_memory.specs.declared.window.Window.TheVariants as windows
use Rattle.command_agent.specs.declared.phase.Phase.TheVariants as phases
use Rattle.command_agent.specs.declared.phase.ReadAhead.TheVariants as aheads
use Rattle.page_table.proofs.Places.{chunk_in_place}
use Rattle.sbp_laws.specs.Served.{takes_writes}
use Rattle.sbp_world.specs.Completing.Answers.{AreComplete, IsComplete, WaitsOn}
use Rattle.sbp_world.specs.Lists.DataWhole.{AreWhole}
use Rattle.sbp_world.proofs.Agents.Management.Holding.{Holding}
use Rattle.sbp_world.proofs.Agents.Management.Offices.{over_keeps}
use Rattle.sbp_world.proofs.Agents.Management.Still.{hist}
use Rattle.sbp_world.proofs.Completing.AnswersMemory.{IsInside, complete_read, fifo_complete, inside_complete}
use Rattle.sbp_world.proofs.Completing.AnswersReading.{IsReading, ReadsIn}
use Rattle.sbp_world.proofs.Hosts.Replies.{same_access}
use Rattle.sbp_world.proofs.Lists.AnswersCarriedWrites.{buffer_begins, buffer_ends, low_fifo}
use Rattle.sbp_world.proofs.Lists.Bringing.{read_prepared}
use Rattle.sbp_world.proofs.Lists.Brought.{cut_follows, has_a_table, list}
use Rattle.sbp_world.proofs.Lists.DataSteps.{chunk_long}
use Rattle.sbp_world.proofs.Lists.MainSlots as main_slots
use Rattle.sbp_world.proofs.Common.{same_node}
use Rattle.sbp_world.proofs.Lists.OpenTurns.{listing_up}
use Rattle.sbp_world.proofs.Lists.OwnFifos.{fifo_is_fifo}
use Rattle.sbp_world.proofs.Lists.ReadSlots.{IsIn, is_in, under_as}
use Rattle.sbp_world.proofs.Hosts.Cores.{not_so as up_state}
use Rattle.sbp_world.proofs.Lists.Sites.{IsPrepared, Site, Waiting, waiting as agent_waiting}
use Rattle.sbp_world.proofs.Lists.Slots.{IsFilled, data_window}
use Rattle.sbp_world.proofs.Lists.SlotsHeld.{slot_opened}
use Rattle.sbp_world.proofs.Lists.StatusCall.{AreRested}
use Rattle.sbp_world.proofs.Lists.StatusPlaced.{has_slot}
use Rattle.sbp_world.proofs.Lists.StatusSteps.{rests_in}
use Rattle.sbp_world.proofs.Lists.StillTurns.{site_at}

-- ---- bytes of the slot of an ORB
module _ (past : List Moment) (i slot n k : ℕ) (small : slot < 32) (has : HasSlot past i slot (orb n k)) where
  -- the first ones of the ORB are read
  pub orb_inside : (access : Access) (count : ℕ) → access ≡ read_access (start (windows.Orb slot)) count → 0 < count → count ≤ 32 → IsInside past i access (windows.Orb slot)
  orb_inside access count a some most =
      let at : access.offset ≡ start (windows.Orb slot) = ap (λ (x : Access). x.offset) a in
      let size : access.count ≡ count = ap (λ (x : Access). x.count) a in
      record {
        found = ap window_at at ∙ window_here (new_memory []) (start (windows.Orb slot)) (windows.Orb slot) small (omega arith) (omega arith);
        lock = ap (λ (x : Access). x.is_lock) a;
        some = omega (arith, size, some);
        fifo = low_fifo access.offset (omega (arith, at, small));
        opened = slot_opened past i slot (orb n k) has;
        room = omega (arith, at, size, most);
        way = ap (λ (x : Access). has_direction past i x (Some (windows.Orb slot))) a;
      }

  pub table_inside : (access : Access) (count : ℕ) → access ≡ read_access (start (windows.Table slot)) count → 0 < count → count ≤ 512 → IsInside past i access (windows.Table slot)
  table_inside access count a some most =
      let at : access.offset ≡ start (windows.Table slot) = ap (λ (x : Access). x.offset) a in
      let size : access.count ≡ count = ap (λ (x : Access). x.count) a in
      record {
        found = ap window_at at ∙ window_here (new_memory []) (start (windows.Table slot)) (windows.Table slot) small (omega arith) (omega arith);
        lock = ap (λ (x : Access). x.is_lock) a;
        some = omega (arith, size, some);
        fifo = low_fifo access.offset (omega (arith, at, small));
        opened = slot_opened past i slot (orb n k) has;
        room = omega (arith, at, size, most);
        way = ap (λ (x : Access). has_direction past i x (Some (windows.Table slot))) a;
      }

  -- bytes of its buffer are read where its data go to the target, and else written
  is_same : (w t : Bool) → t ≡ w → (access : Access) → access.is_write ≡ w → takes_writes past i (windows.Buffer slot) ≡ t → has_direction past i access (Some (windows.Buffer slot)) ≡ true
  is_same true t e access write takes = ap (λ b. has_direction past i (record access { is_write = b }) (Some (windows.Buffer slot))) write ∙ (takes ∙ e)
  is_same false t e access write takes = ap (λ b. has_direction past i (record access { is_write = b }) (Some (windows.Buffer slot))) write ∙ ap not (takes ∙ e)

  pub buffer_inside : (cmd : Cmd) → command_at past i n k ≡ Some cmd → IsFilled slot cmd → (access : Access) (at : ℕ) → access.is_lock ≡ false → access.is_write ≡ goes_in (Some cmd) → 0 < access.count → Follows access slot cmd at → IsInside past i access (windows.Buffer slot)
  buffer_inside cmd command filled access at lock write some follow =
      let low = buffer_begins slot small cmd filled access some at follow in
      let high = buffer_ends slot small cmd filled access some at follow in
      let takes : takes_writes past i (windows.Buffer slot) ≡ goes_in (Some cmd) = ap (λ o. direction_of past i o) has.there ∙ ap goes_in command in
      record {
        found = data_window slot small cmd filled access at some follow;
        lock = lock;
        some = some;
        fifo = low_fifo access.offset (omega (arith, high, some, small));
        opened = slot_opened past i slot (orb n k) has;
        room = omega (arith, low, high);
        way = is_same (goes_in (Some cmd)) (goes_in (Some cmd)) refl access write takes;
      }

-- ---- a chunk of a buffer
module _ (m : Machine) (slot : ℕ) (cmd : Cmd) (laid : m.segments ≡ laid_out slot cmd cmd.segments) (done total : ℕ) (access : Access) (at : access.offset ≡ (chunk_of m done total).offset) (size : access.count ≡ (chunk_of m done total).length) where
  pub chunk_follows : Follows access slot cmd done
  chunk_follows =
      let taken = chunk_of m done total in
      let own : addresses taken.offset taken.length ≡ take taken.length (drop done (buffer_addresses m.segments)) =
      cut_follows (total - done) (chunk_from m.segments done (limit_of m.orb)) (buffer_addresses m.segments) done (chunk_in_place m.segments done (limit_of m.orb)) in
      let there : addresses taken.offset taken.length ≡ take taken.length (drop done (buffer_addresses (laid_out slot cmd cmd.segments))) =
      subst (λ (ss : List Segment). addresses taken.offset taken.length ≡ take taken.length (drop done (buffer_addresses ss))) laid own in
      ap (λ x. addresses x access.count) at ∙ (ap (λ x. addresses taken.offset x) size ∙ (there ∙ ap (λ x. take x (drop done (buffer_addresses (laid_out slot cmd cmd.segments)))) (sym size)))

  pub chunk_some : done < total → total ≤ bytes_of m.segments → 0 < access.count
  chunk_some more fits =
      let long = chunk_long (total - done) (limit_of m.orb) (omega (arith, more)) (pow_pos (m.orb.max_payload + 2)) m.segments done (omega (arith, more, fits)) in
      omega (arith, size, long)

-- ---- what is read ahead
named_read : (past : List Moment) (i n k : ℕ) (next : OrbPointer) (ahead : ReadAhead) (is_status : Bool) (fifo : ℕ) (access : Access) → ReadsAhead (list past i n) k next ahead → IsAccessFor (ahead_ask ahead next) is_status fifo access → access ≡ read_access (address_of past i n k) 32
named_read past i n k next (aheads.UnderWay rung) is_status fifo access r a =
    let e : access ≡ read_access (aligned r.offset) 32 = subst (λ (x : OrbPointer). IsAccessFor (ahead_ask (aheads.UnderWay rung) x) is_status fifo access) r.named a in
    e ∙ ap (λ x. read_access x 32) r.place
named_read past i n k next aheads.Idle is_status fifo access r a = absurd a
named_read past i n k next (aheads.Kept orb) is_status fifo access r a = absurd a

none_read : {A : Type 0} (next : OrbPointer) (ahead : ReadAhead) (is_status : Bool) (fifo : ℕ) (access : Access) → ahead ≡ aheads.Idle → IsAccessFor (ahead_ask ahead next) is_status fifo access → A
none_read next ahead is_status fifo access e a = absurd (subst (λ x. IsAccessFor (ahead_ask x next) is_status fifo access) e a)

ahead_read : (past : List Moment) (i n : ℕ) (phase : Phase) (p : Progress) (next : OrbPointer) (ahead : ReadAhead) (is_status : Bool) (fifo : ℕ) (access : Access) → KnowsAhead (list past i n) p phase next ahead → IsAccessFor (ahead_ask ahead next) is_status fifo access → access ≡ read_access (address_of past i n (number_behind phase p.ended)) 32
ahead_read past i n phases.ReadingTable p next ahead s fifo access k a = named_read past i n (suc p.ended) next ahead s fifo access k a
ahead_read past i n (phases.ReadingData wanted) p next ahead s fifo access k a = named_read past i n (suc p.ended) next ahead s fifo access k a
ahead_read past i n phases.Answering p next ahead s fifo access k a = named_read past i n (suc p.ended) next ahead s fifo access k a
ahead_read past i n phases.WritingStatus p next ahead s fifo access k a = named_read past i n p.ended next ahead s fifo access k a
ahead_read past i n phases.Fetching p next ahead s fifo access k a = none_read next ahead s fifo access k a
ahead_read past i n phases.ReadingNext p next ahead s fifo access k a = none_read next ahead s fifo access k a
ahead_read past i n phases.Reset p next ahead s fifo access k a = none_read next ahead s fifo access k a
ahead_read past i n phases.WritingLastStatus p next ahead s fifo access k a = none_read next ahead s fifo access k a
ahead_read past i n phases.Suspended p next ahead s fifo access k a = none_read next ahead s fifo access k a
ahead_read past i n phases.Dead p next ahead s fifo access k a = none_read next ahead s fifo access k a

-- ---- at a place
-- what is known of it
pub record Kit (start : List Disk) (past : List Moment) (w : WorldState) : Type 0 where
  pub lists : main_slots.Kit start past w
  pub rested : IsTameOrFew past → AreRested (injectors past) past w
  pub reading : (place : ℕ) → place < 8 → IsReading (machine_at w place)
  pub whole : AreWhole past w
  pub inward : AreInward past w
  pub memory : (i : ℕ) → i < length w.initiators → IsReadBy past i (initiator_at w i)

module _ (units ready : ℕ) (has : 0 < units) (start : List Disk) {past : List Moment} {lines : ℕ} (w : WorldState) (h : Holding units ready start past lines w) (kit : Kit start (hist past w) w) (beside : IsTameOrFew (hist past w)) where
  abbrev ms : List Moment
  ms = hist past w

  abbrev t : Terms
  t = terms ms

  abbrev T : Target
  T = over (target_at start ms)

  site : Site start past w
  site = site_at start past w kit.lists.ground

  open_lists : OpenLists ms w
  open_lists = kit.lists.ground.lists beside

  module _ (place i serial : ℕ) (asked_for : Access) (calm : IsCalm ms i) (x : WaitsOn start ms place i serial asked_for) where
    abbrev j : ℕ
    j = initiator_in w place

    abbrev m : Machine
    m = machine_at w place

    wait : Waiting units ready has start w h site place x.small x.which serial
    wait = agent_waiting units ready has start w h site place x.small x.which serial x.waits

    abbrev access : Access
    access = wait.access

    abbrev fifo : ℕ
    fifo = fifo_in (term_login T place)

    here : j ≡ i
    here = same_node j i (sym wait.to ∙ x.to)

    quiet : IsCalm ms j
    quiet = subst (IsCalm ms) (sym here) calm

    level : t.generation 0 ≡ t.generation (suc j)
    level = x.level ∙ ap (λ p. t.generation (suc p)) (sym here)

    abbrev o : IsOpenAt ms w place
    o = open_lists.listed place x.small wait.is_open quiet

    abbrev goes : GoesAlong ms j o.n m
    goes = kit.lists.ground.along.all place x.small wait.is_open quiet o.n o.list

    abbrev ended : ℕ
    ended = goes.progress.ended

    abbrev slot : ℕ → ℕ
    slot k = slot_at ms j o.n k

    -- the ORB of each read stands in its slot
    prepared : (k : ℕ) → IsIn ms j o.n m.phase ended k → IsPrepared ms j (slot k) o.n k
    prepared k is = read_prepared units ready has start w h site open_lists place x.small wait.is_open o.inside quiet o.n o.list ended k goes.is is

    has_it : (k : ℕ) → IsIn ms j o.n m.phase ended k → HasSlot ms j (slot k) (orb o.n k)
    has_it k (inl (low, below)) =
        let within = kit.lists.known.known.within j o.n o.inside in
        let is = goes.is in
        has_slot ms j o.n k (initiator_at w j).lists.slots (site.rows j o.inside) (omega (arith, below, within)) (kit.lists.untaken beside j o.inside quiet o.n k (omega (arith, low, is)))
        ((kit.lists.here beside j o.inside quiet).present place x.small wait.is_open refl level ∙ o.list)
    has_it k (inr (phase, last)) = (kit.rested beside j place quiet x.small (ap (λ y. rests_in y m.orb.next) phase) refl o.n k o.list (sym goes.is ∙ last)).slotted.held level

    filled : (k : ℕ) (cmd : Cmd) → IsIn ms j o.n m.phase ended k → command_at ms j o.n k ≡ Some cmd → IsFilled (slot k) cmd
    filled k cmd is command = let p = prepared k is in site.filled j o.inside (slot k) o.n k cmd p.small p.there command

    -- ---- each kind
    orb_read : (k count : ℕ) → IsIn ms j o.n m.phase ended k → access ≡ read_access (address_of ms j o.n k) count → 0 < count → count ≤ 32 → IsComplete ms j access
    orb_read k count is a some most =
        let inside = orb_inside ms j (slot k) o.n k (prepared k is).small (has_it k is) access count a some most in
        let complete = inside_complete ms j access (windows.Orb (slot k)) inside in
        record { rcode = complete; size = λ reads. complete_read ms j access (initiator_at w j) (kit.memory j o.inside) inside.lock reads (subst (IsSaid ms j access) (sym inside.found) tt) complete }

    present_in : ended < linked ms j o.n → IsIn ms j o.n m.phase ended ended
    present_in below = inl ((let z : ended ≤ ended = omega arith in z), below)

    buffer_part : (cmd : Cmd) → ended < linked ms j o.n → command_at ms j o.n ended ≡ Some cmd → (at : ℕ) → access.is_lock ≡ false → access.is_write ≡ goes_in (Some cmd) → 0 < access.count → Follows access (slot ended) cmd at → IsComplete ms j access
    buffer_part cmd below command at lock write some follow =
        let is = present_in below in
        let inside = buffer_inside ms j (slot ended) o.n ended (prepared ended is).small (has_it ended is) cmd command (filled ended cmd is command) access at lock write some follow in
        let complete = inside_complete ms j access (windows.Buffer (slot ended)) inside in
        record { rcode = complete; size = λ reads. complete_read ms j access (initiator_at w j) (kit.memory j o.inside) inside.lock reads (subst (IsSaid ms j access) (sym inside.found) tt) complete }

    fifo_there : is_fifo fifo ≡ true
    fifo_there =
        let y : IsOpened ms w place = kit.lists.known.opened place x.small (up_state _ (listing_up m.phase wait.is_open)) in
        let tables : T.table ≡ w.target.logins = ap (λ (of : Office). of.table) (over_keeps (target_at start ms)) ∙ h.at.agrees.table in
        let there : term_login T place ≡ Some y.login = ap (λ (table : Table). place_at table.places place) tables ∙ y.is in
        let own : IsLoginFifo y.login.fifo = (kit.lists.placed beside j o.inside quiet).1 place y.login y.is y.live refl in
        ap is_fifo (ap fifo_in there) ∙ fifo_is_fifo y.login.fifo own

    status_write : (payload : List ℕ) → access ≡ write_access fifo payload → IsComplete ms j access
    status_write payload a = fifo_complete ms j access (ap (λ (y : Access). y.is_write && y.is_block && is_fifo y.offset) a ∙ fifo_there) (ap (λ (y : Access). y.is_write) a)

    -- ---- the main transaction
    by_main : (phase : Phase) → m.phase ≡ phase → Knows (list ms j o.n) goes.progress phase m → ReadsIn phase m → IsAccessFor (main_ask phase m) (writes_status phase) fifo access → IsComplete ms j access
    by_main phases.Fetching e k r a = orb_read ended 32 (present_in k.turn.linked) (a ∙ ap (λ y. read_access y 32) k.turn.place) (omega arith) (omega arith)
    by_main phases.ReadingTable e k r a =
        let t = has_a_table (command_at ms j o.n ended) (slot ended) m.orb k.awaits.good.own k.reads in
        let is = present_in k.awaits.turn.linked in
        let own = k.awaits.good.own in
        let few = (filled ended own.cmd is own.command).fills.few in
        let size = t.size in
        let some = t.some in
        let inside = table_inside ms j (slot ended) o.n ended (prepared ended is).small (has_it ended is) access (8 * m.orb.data_size) (a ∙ ap (λ y. read_access y (8 * m.orb.data_size)) t.descriptor) (omega (arith, size, some)) (omega (arith, size, few)) in
        let complete = inside_complete ms j access (windows.Table (slot ended)) inside in
        record { rcode = complete; size = λ reads. complete_read ms j access (initiator_at w j) (kit.memory j o.inside) inside.lock reads (subst (IsSaid ms j access) (sym inside.found) tt) complete }
    by_main (phases.ReadingData wanted) e k r a =
        let own = k.awaits.good.own in
        let done = length m.payload in
        let laid : m.segments ≡ laid_out (slot ended) own.cmd own.cmd.segments = subst (λ y. IsBufferOf y (slot ended) m.segments) own.command k.buffer in
        let at : access.offset ≡ (chunk_of m done wanted).offset = ap (λ (y : Access). y.offset) a in
        let size : access.count ≡ (chunk_of m done wanted).length = ap (λ (y : Access). y.count) a in
        let out : goes_in (Some own.cmd) ≡ false = sym (ap (λ (y : CommandOrb). y.to_initiator) own.orb) ∙ r.out in
        buffer_part own.cmd k.awaits.turn.linked own.command done (ap (λ (y : Access). y.is_lock) a) (ap (λ (y : Access). y.is_write) a ∙ sym out)
        (chunk_some m (slot ended) own.cmd laid done wanted access at size r.more r.fits)
        (chunk_follows m (slot ended) own.cmd laid done wanted access at size)
    by_main phases.Answering e k r a =
        let own = k.told.good.own in
        let laid : m.segments ≡ laid_out (slot ended) own.cmd own.cmd.segments = subst (λ y. IsBufferOf y (slot ended) m.segments) own.command k.told.buffer in
        let at : access.offset ≡ (chunk_of m m.written (length m.answer)).offset = ap (λ (y : Access). y.offset) a.0 in
        let size : access.count ≡ (chunk_of m m.written (length m.answer)).length = ap (λ (y : Access). y.count) a.0 ∙ a.1 in
        let inward : goes_in (Some own.cmd) ≡ true = sym (ap (λ (y : CommandOrb). y.to_initiator) own.orb) ∙ kit.inward place x.small quiet e in
        let part = kit.whole place x.small quiet e in
        let fills = part.1 in
        buffer_part own.cmd k.told.turn.linked own.command m.written (ap (λ (y : Access). y.is_lock) a.0) (ap (λ (y : Access). y.is_write) a.0 ∙ sym inward)
        (chunk_some m (slot ended) own.cmd laid m.written (length m.answer) access at size part.0 (omega (arith, fills)))
        (chunk_follows m (slot ended) own.cmd laid m.written (length m.answer) access at size)
    by_main phases.WritingStatus e k r a = status_write access.payload a.0
    by_main phases.WritingLastStatus e k r a = status_write access.payload a.0
    by_main phases.ReadingNext e k r a = orb_read k.over.last 8 (inr (e, k.over.ended)) (a ∙ ap (λ y. read_access y 8) k.over.place) (omega arith) (omega arith)
    by_main phases.Reset e k r a = absurd a
    by_main phases.Suspended e k r a = absurd a
    by_main phases.Dead e k r a = absurd a

    by_which : (which : Which) → (which ≡ Main → wait.status ≡ writes_status m.phase) → IsAccessFor (under_as which m) wait.status fifo access → IsComplete ms j access
    by_which Main status a = by_main m.phase refl goes.along.main (kit.reading place x.small) (subst (λ s. IsAccessFor (main_ask m.phase m) s fifo access) (status refl) a)
    by_which Ahead status a =
        let k = number_behind m.phase ended in
        let reads = ahead_read ms j o.n m.phase goes.progress m.orb.next m.ahead wait.status fifo access goes.along.ahead a in
        orb_read k 32 (is_in ms j o.n Ahead goes.progress m wait.status fifo access goes.along a (ap (λ (y : Access). y.is_write) reads)) reads (omega arith) (omega arith)

    pub complete_there : IsComplete ms i asked_for
    complete_there =
        let same : asked_for ≡ access = same_access asked_for access (sym x.asks ∙ wait.is) in
        subst (λ y. IsComplete ms i y) (sym same) (subst (λ p. IsComplete ms p access) here (by_which x.which wait.status_is wait.asks))

  pub are_complete : AreComplete start ms w
  are_complete place i serial access calm x = complete_there place i serial access calm x
