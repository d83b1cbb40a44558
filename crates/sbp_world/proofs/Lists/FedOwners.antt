-- At a place of a run, where lists are open as they should be, what an agent waits for, to read in a page table or a buffer of an initiator that injected no packets and has a list open, is the main transaction of the
-- agent that has the list, in the slot of the first ORB that has not ended.
use Rattle.sbp_world.proofs.Words.Std.{arith, ◌≡◌, ◌∙◌, refl, sym, ap, subst, ◌<◌, ◌-◌, ℕ, suc, Bool, true, List, [], Option, Some, None}
use Rattle.sbp_world.proofs.Words.Wire.{Access, Moment}
use Rattle.sbp_world.proofs.Words.Target.{Knows, KnowsAhead, Progress, ReadsAhead, ahead_ask, main_ask, number_behind, Phase, ReadAhead, Which, Ahead, Main, Machine, aligned, Disk}
use Rattle.sbp_world.proofs.Words.Initiator.{new_memory, Window, start_of, window_at, OrbPointer, At, Null}
use Rattle.sbp_world.proofs.Words.Laws.{fifo_in, slot_at, Target, term_login, over, target_at, ends}
use Rattle.sbp_world.proofs.Words.World.{holder, WorldState, IsAccessFor, AreAlong, GoesAlong, IsCalm, IsOpenAt, OpenLists, initiator_in, is_open_at, machine_at, AreOwnReads, IsOwnRead, ReadsData, data_slot, slot_in}
use Rattle.bus_memory.specs.declared.window.Window.TheVariants as windows
use Rattle.bus_memory.proofs.Found.{window_here}
use Rattle.command_agent.specs.declared.phase.Phase.TheVariants as phases
use Rattle.command_agent.specs.declared.phase.ReadAhead.TheVariants as aheads
use Rattle.sbp_world.proofs.Agents.Management.Holding.{Holding}
use Rattle.sbp_world.proofs.Agents.Management.Still.{hist}
use Rattle.sbp_world.proofs.Lists.Bringing.{read_prepared}
use Rattle.sbp_world.proofs.Lists.Brought.{list, main_number, number_of}
use Rattle.sbp_world.proofs.Lists.ManageTerms.{same_some}
use Rattle.sbp_world.proofs.Lists.ReadSlots.{is_in, stands, under_as}
use Rattle.sbp_world.proofs.Lists.Sites.{IsPrepared, Site, Waiting, waiting as agent_waiting}
use Rattle.sbp_world.proofs.Hosts.Replies.{same_access}

-- ---- windows
-- an address in a page table or a buffer is in no ORB
pub orb_none : (offset slot s : ℕ) → s < 32 → offset ≡ start_of (windows.Orb s) → data_slot (window_at offset) ≡ Some slot → ⊥
orb_none offset slot s b e f =
    let here = ap window_at e ∙ window_here (new_memory []) (start_of (windows.Orb s)) (windows.Orb s) b (omega arith) (omega arith) in
    let none : None ≡ Some slot = sym (ap data_slot here) ∙ f in
    cc

pub one_slot : (window : Option Window) (slot s : ℕ) → data_slot window ≡ Some slot → slot_in window ≡ Some s → slot ≡ s
one_slot (Some (windows.Table x)) slot s e f = same_some slot s (sym e ∙ f)
one_slot (Some (windows.Buffer x)) slot s e f = same_some slot s (sym e ∙ f)
one_slot (Some windows.Rom) slot s e f = absurd (let x : None ≡ Some slot = e in cc)
one_slot (Some (windows.Orb x)) slot s e f = absurd (let x : None ≡ Some slot = e in cc)
one_slot (Some (windows.Management x)) slot s e f = absurd (let x : None ≡ Some slot = e in cc)
one_slot (Some (windows.Response x)) slot s e f = absurd (let x : None ≡ Some slot = e in cc)
one_slot None slot s e f = absurd (let x : None ≡ Some slot = e in cc)

-- ---- an agent along a list
module _ (past : List Moment) (i n : ℕ) where
  abbrev Small : ℕ → Type 0
  Small k = slot_at past i n k < 32

  -- its main transaction reads in a page table or a buffer of the ORB behind those that have ended
  main_same : (phase : Phase) (p : Progress) (m : Machine) (is_status : Bool) (fifo slot : ℕ) (access : Access) → Knows (list past i n) p phase m → IsAccessFor (main_ask phase m) is_status fifo access → Small (main_number phase p.ended) → data_slot (window_at access.offset) ≡ Some slot → main_number phase p.ended ≡ p.ended
  main_same phases.ReadingNext p m is_status fifo slot access k a small d =
      let ended = k.over.ended in
      let last : k.over.last ≡ p.ended - 1 = omega (arith, ended) in
      absurd (orb_none access.offset slot (slot_at past i n (p.ended - 1)) small (ap (λ (x : Access). x.offset) a ∙ k.over.place ∙ ap (λ j. start_of (windows.Orb (slot_at past i n j))) last) d)
  main_same phases.Fetching p m is_status fifo slot access k a small d = refl
  main_same phases.ReadingTable p m is_status fifo slot access k a small d = refl
  main_same (phases.ReadingData wanted) p m is_status fifo slot access k a small d = refl
  main_same phases.Answering p m is_status fifo slot access k a small d = refl
  main_same phases.WritingStatus p m is_status fifo slot access k a small d = refl
  main_same phases.WritingLastStatus p m is_status fifo slot access k a small d = refl
  main_same phases.Reset p m is_status fifo slot access k a small d = refl
  main_same phases.Suspended p m is_status fifo slot access k a small d = refl
  main_same phases.Dead p m is_status fifo slot access k a small d = refl

  -- what it reads ahead is an ORB
  named_none : (k : ℕ) (next : OrbPointer) (ahead : ReadAhead) (is_status : Bool) (fifo slot : ℕ) (access : Access) → ReadsAhead (list past i n) k next ahead → IsAccessFor (ahead_ask ahead next) is_status fifo access → Small k → data_slot (window_at access.offset) ≡ Some slot → ⊥
  named_none k (At next) (aheads.UnderWay rung) is_status fifo slot access r a small d =
      let same : r.offset ≡ next = (let x : At next ≡ At r.offset = r.named in cc) in
      orb_none access.offset slot (slot_at past i n k) small (ap (λ (x : Access). x.offset) a ∙ ap aligned (sym same) ∙ r.place) d
  named_none k Null (aheads.UnderWay rung) is_status fifo slot access r a small d = absurd a
  named_none k next aheads.Idle is_status fifo slot access r a small d = absurd a
  named_none k next (aheads.Kept orb) is_status fifo slot access r a small d = absurd a

  idle_none : (ahead : ReadAhead) (next : OrbPointer) (is_status : Bool) (fifo : ℕ) (access : Access) → ahead ≡ aheads.Idle → IsAccessFor (ahead_ask ahead next) is_status fifo access → ⊥
  idle_none ahead next is_status fifo access e a = subst (λ (x : ReadAhead). IsAccessFor (ahead_ask x next) is_status fifo access) e a

  pub ahead_none : (phase : Phase) (p : Progress) (next : OrbPointer) (ahead : ReadAhead) (is_status : Bool) (fifo slot : ℕ) (access : Access) → KnowsAhead (list past i n) p phase next ahead → IsAccessFor (ahead_ask ahead next) is_status fifo access → Small (number_behind phase p.ended) → data_slot (window_at access.offset) ≡ Some slot → ⊥
  ahead_none phases.ReadingTable p next ahead is_status fifo slot access k a small d = named_none (suc p.ended) next ahead is_status fifo slot access k a small d
  ahead_none (phases.ReadingData wanted) p next ahead is_status fifo slot access k a small d = named_none (suc p.ended) next ahead is_status fifo slot access k a small d
  ahead_none phases.Answering p next ahead is_status fifo slot access k a small d = named_none (suc p.ended) next ahead is_status fifo slot access k a small d
  ahead_none phases.WritingStatus p next ahead is_status fifo slot access k a small d = named_none p.ended next ahead is_status fifo slot access k a small d
  ahead_none phases.Fetching p next ahead is_status fifo slot access k a small d = idle_none ahead next is_status fifo access k a
  ahead_none phases.ReadingNext p next ahead is_status fifo slot access k a small d = idle_none ahead next is_status fifo access k a
  ahead_none phases.Reset p next ahead is_status fifo slot access k a small d = idle_none ahead next is_status fifo access k a
  ahead_none phases.WritingLastStatus p next ahead is_status fifo slot access k a small d = idle_none ahead next is_status fifo access k a
  ahead_none phases.Suspended p next ahead is_status fifo slot access k a small d = idle_none ahead next is_status fifo access k a
  ahead_none phases.Dead p next ahead is_status fifo slot access k a small d = idle_none ahead next is_status fifo access k a

-- ---- at a place
module _ (units ready : ℕ) (has : 0 < units) (start : List Disk) {past : List Moment} {lines : ℕ} (w : WorldState) (h : Holding units ready start past lines w) (s : Site start past w) (open_lists : OpenLists (hist past w) w) (along : AreAlong (hist past w) w) where
  abbrev ms : List Moment
  ms = hist past w

  abbrev T : Target
  T = over (target_at start ms)

  module _ (place : ℕ) (b : place < 8) (is_open : is_open_at w place ≡ true) (calm : IsCalm ms (initiator_in w place)) (n : ℕ) (list_is : (holder w place).list ≡ Some n) (other : ℕ) (c : other < 8) (which : Which) (serial slot : ℕ) (r : ReadsData start ms other which serial (initiator_in w place) slot) where
    abbrev i : ℕ
    i = initiator_in w place

    abbrev j : ℕ
    j = initiator_in w other

    abbrev m : Machine
    m = machine_at w other

    abbrev asked : Waiting units ready has start w h s other c which serial
    asked = agent_waiting units ready has start w h s other c which serial r.waits

    abbrev fifo : ℕ
    fifo = fifo_in (term_login T other)

    initiator_is : j ≡ i
    initiator_is = let e = same_some (suc j) (suc i) (sym asked.to ∙ r.to) in omega (arith, e)

    place_is : other ≡ place
    place_is = open_lists.one place other b c is_open asked.is_open calm initiator_is

    access_is : asked.access ≡ r.access
    access_is = same_access asked.access r.access (sym asked.is ∙ r.is)

    asks : IsAccessFor (under_as which m) asked.status fifo r.access
    asks = subst (IsAccessFor (under_as which m) asked.status fifo) access_is asked.asks

    abbrev quiet : IsCalm ms j
    quiet = subst (IsCalm ms) (sym initiator_is) calm

    abbrev o : IsOpenAt ms w other
    o = open_lists.listed other c asked.is_open quiet

    abbrev goes : GoesAlong ms j o.n m
    goes = along.all other c asked.is_open quiet o.n o.list

    abbrev number : ℕ
    number = number_of which m.phase goes.progress.ended

    prepared : IsPrepared ms j (slot_at ms j o.n number) o.n number
    prepared =
        read_prepared units ready has start w h s open_lists other c asked.is_open asked.inside quiet o.n o.list goes.progress.ended number goes.is
        (is_in ms j o.n which goes.progress m asked.status fifo r.access goes.along asks r.reads)

    stands_there : slot_in (window_at r.access.offset) ≡ Some (slot_at ms j o.n number)
    stands_there =
        stands ms j o.n which goes.progress m asked.status fifo r.access goes.along asks r.reads r.some prepared.small
        (λ cmd command. s.filled j asked.inside (slot_at ms j o.n number) o.n number cmd prepared.small prepared.there command)

    record IsMain : Type 0 where
      main : which ≡ Main
      number_is : number ≡ goes.progress.ended

    is_main : IsMain
    is_main = by which refl asks prepared.small
      where
        by : (x : Which) → x ≡ which → IsAccessFor (under_as x m) asked.status fifo r.access → slot_at ms j o.n (number_of x m.phase goes.progress.ended) < 32 → IsMain
        by Main e a small = record {
          main = sym e;
          number_is = ap (λ x. number_of x m.phase goes.progress.ended) (sym e) ∙ main_same ms j o.n m.phase goes.progress m asked.status fifo slot r.access goes.along.main a small r.stands;
        }
        by Ahead e a small = absurd (ahead_none ms j o.n m.phase goes.progress m.orb.next m.ahead asked.status fifo slot r.access goes.along.ahead a small r.stands)

    list_same : o.n ≡ n
    list_same = same_some o.n n (sym o.list ∙ ap (λ x. (holder w x).list) place_is ∙ list_is)

    own_read : IsOwnRead ms place i n other which slot
    own_read = record {
      place_is = place_is;
      main = is_main.main;
      slot_is =
          one_slot (window_at r.access.offset) slot (slot_at ms j o.n number) r.stands stands_there
          ∙ ap (λ k. slot_at ms j o.n k) (is_main.number_is ∙ goes.is)
          ∙ ap (λ x. slot_at ms j x (ends ms j x)) list_same
          ∙ ap (λ x. slot_at ms x n (ends ms x n)) initiator_is;
    }

  pub are_own_reads : AreOwnReads start ms w
  are_own_reads place b is_open calm n list_is other c which serial slot r = own_read place b is_open calm n list_is other c which serial slot r
