-- What an agent writes behind the buffers of its initiator is a status block alone.
use Rattle.sbp_world.proofs.Words.Std.{arith, ◌≡◌, ◌∙◌, refl, sym, ap, subst, inl, ◌<◌, ◌≤◌, ℕ, suc, true, false, List, length, Some, false≢true}
use Rattle.sbp_world.proofs.Words.Wire.{Access, Cmd, Moment, terms}
use Rattle.sbp_world.proofs.Words.Target.{Knows, ReadAhead, ahead_ask, main_ask, writes_status, Phase, Which, Ahead, Main, Machine, chunk_of, Disk}
use Rattle.sbp_world.proofs.Words.Initiator.{At, Null, OrbPointer}
use Rattle.sbp_world.proofs.Words.Laws.{agent_at, laid_out, command_at, fifo_in, slot_at, Target, term_login, over, target_at}
use Rattle.sbp_world.proofs.Words.World.{GoesAlong, IsAccessFor, IsBufferOf, IsOpenAt, IsTame, IsTameOrFew, OpenLists, WorldState, initiator_in, machine_at, serial_of}
use Rattle.command_agent.specs.declared.phase.Phase.TheVariants as phases
use Rattle.command_agent.specs.declared.phase.ReadAhead.TheVariants as aheads
use Rattle.sbp_world.specs.Completing.Answers.{WaitsOn}
use Rattle.sbp_world.specs.Completing.Labels.{AlwaysWhere}
use Rattle.sbp_world.specs.Completing.Writes.{AreAccepted, AreStatusesAccepted, IsAccepted}
use Rattle.sbp_world.specs.Lists.DataWhole.{AreWhole}
use Rattle.sbp_world.proofs.Agents.Management.Holding.{Holding}
use Rattle.sbp_world.proofs.Agents.Management.Still.{hist}
use Rattle.sbp_world.proofs.Common.{same_node}
use Rattle.sbp_world.proofs.Completing.AnswersAgents.{chunk_follows, chunk_some}
use Rattle.sbp_world.proofs.Completing.AnswersRuns.{by_places}
use Rattle.sbp_world.proofs.Hosts.Replies.{same_access}
use Rattle.sbp_world.proofs.Lists.AnswersCarriedWrites.{buffer_ends}
use Rattle.sbp_world.proofs.Lists.Bringing.{read_prepared}
use Rattle.sbp_world.proofs.Lists.Brought.{list}
use Rattle.sbp_world.proofs.Lists.Clauses.{open_lists_law}
use Rattle.sbp_world.proofs.Lists.Courses.{EveryPlace, more_than_one}
use Rattle.sbp_world.proofs.Lists.DataWhole.{whole_law}
use Rattle.sbp_world.proofs.Lists.ListsProved.{closing}
use Rattle.sbp_world.proofs.Lists.MainSlots as main_slots
use Rattle.sbp_world.proofs.Lists.MainSlotsRuns.{kit_everywhere}
use Rattle.sbp_world.proofs.Lists.ReadSlots.{IsIn, under_as}
use Rattle.sbp_world.proofs.Lists.ShortLines.{short_law}
use Rattle.sbp_world.proofs.Lists.Sites.{IsPrepared, Site, Waiting, waiting as agent_waiting}
use Rattle.sbp_world.proofs.Lists.Slots.{IsFilled}
use Rattle.sbp_world.proofs.Lists.StillTurns.{site_at}
use Rattle.sbp_world.proofs.Words.World.{more_deliveries}

-- what is known of a place
record Kit (start : List Disk) (past : List Moment) (w : WorldState) : Type 0 where
  lists : main_slots.Kit start past w
  whole : AreWhole past w

-- a read is no write
no_read : {A : Type 0} (access other : Access) → access ≡ other → other.is_write ≡ false → access.is_write ≡ true → A
no_read access other e f w = absurd (false≢true (sym f ∙ (ap (λ (y : Access). y.is_write) (sym e) ∙ w)))

module _ (units ready : ℕ) (has : 0 < units) (start : List Disk) {past : List Moment} {lines : ℕ} (w : WorldState) (h : Holding units ready start past lines w) (kit : Kit start (hist past w) w) (tame : IsTame (hist past w)) (statuses : AreStatusesAccepted start (hist past w) w) where
  abbrev ms : List Moment
  ms = hist past w

  abbrev T : Target
  T = over (target_at start ms)

  beside : IsTameOrFew ms
  beside = inl tame

  site : Site start past w
  site = site_at start past w kit.lists.ground

  open_lists : OpenLists ms w
  open_lists = kit.lists.ground.lists beside

  module _ (place i serial : ℕ) (asked_for : Access) (x : WaitsOn start ms place i serial asked_for) where
    abbrev j : ℕ
    j = initiator_in w place

    abbrev m : Machine
    m = machine_at w place

    wait : Waiting units ready has start w h site place x.small x.which serial
    wait = agent_waiting units ready has start w h site place x.small x.which serial x.waits

    abbrev access : Access
    access = wait.access

    abbrev fifo : ℕ
    fifo = fifo_in (term_login T place)

    here : j ≡ i
    here = same_node j i (sym wait.to ∙ x.to)

    level : (terms ms).generation 0 ≡ (terms ms).generation (suc j)
    level = x.level ∙ ap (λ p. (terms ms).generation (suc p)) (sym here)

    abbrev o : IsOpenAt ms w place
    o = open_lists.listed place x.small wait.is_open (tame j)

    abbrev goes : GoesAlong ms j o.n m
    goes = kit.lists.ground.along.all place x.small wait.is_open (tame j) o.n o.list

    abbrev ended : ℕ
    ended = goes.progress.ended

    abbrev slot : ℕ → ℕ
    slot k = slot_at ms j o.n k

    prepared : (k : ℕ) → IsIn ms j o.n m.phase ended k → IsPrepared ms j (slot k) o.n k
    prepared k is = read_prepared units ready has start w h site open_lists place x.small wait.is_open o.inside (tame j) o.n o.list ended k goes.is is

    filled : (k : ℕ) (cmd : Cmd) → IsIn ms j o.n m.phase ended k → command_at ms j o.n k ≡ Some cmd → IsFilled (slot k) cmd
    filled k cmd is command = let p = prepared k is in site.filled j o.inside (slot k) o.n k cmd p.small p.there command

    -- a chunk of the answer lies in the buffer
    chunk_low : m.phase ≡ phases.Answering → Knows (list ms j o.n) goes.progress phases.Answering m → IsAccessFor (main_ask phases.Answering m) false fifo access → access.offset < 0x1200_2000
    chunk_low e k a =
        let own = k.told.good.own in
        let is : IsIn ms j o.n m.phase ended ended = inl ((let z : ended ≤ ended = omega arith in z), k.told.turn.linked) in
        let laid : m.segments ≡ laid_out (slot ended) own.cmd own.cmd.segments = subst (λ y. IsBufferOf y (slot ended) m.segments) own.command k.told.buffer in
        let at : access.offset ≡ (chunk_of m m.written (length m.answer)).offset = ap (λ (y : Access). y.offset) a.0 in
        let size : access.count ≡ (chunk_of m m.written (length m.answer)).length = ap (λ (y : Access). y.count) a.0 ∙ a.1 in
        let part = kit.whole place x.small (tame j) e in
        let fills = part.1 in
        let some = chunk_some m (slot ended) own.cmd laid m.written (length m.answer) access at size part.0 (omega (arith, fills)) in
        let follow = chunk_follows m (slot ended) own.cmd laid m.written (length m.answer) access at size in
        let small = (prepared ended is).small in
        let high = buffer_ends (slot ended) small own.cmd (filled ended own.cmd is own.command) access some m.written follow in
        omega (arith, high, some, small)

    status_at : x.which ≡ Main → writes_status m.phase ≡ true → IsAccepted ms i asked_for
    status_at main writes =
        subst (λ p. IsAccepted ms p asked_for) here
        (statuses tame place serial x.small (subst (λ y. serial_of y (agent_at T place) ≡ Some serial) main x.waits) writes level asked_for x.asks)

    by_main : x.which ≡ Main → (phase : Phase) → m.phase ≡ phase → Knows (list ms j o.n) goes.progress phase m → IsAccessFor (main_ask phase m) (writes_status phase) fifo access → access.is_write ≡ true → 0x1200_2000 ≤ access.offset → IsAccepted ms i asked_for
    by_main main phases.Fetching e k a write high = no_read access _ a refl write
    by_main main phases.ReadingTable e k a write high = no_read access _ a refl write
    by_main main (phases.ReadingData wanted) e k a write high = no_read access _ a refl write
    by_main main phases.ReadingNext e k a write high = no_read access _ a refl write
    by_main main phases.Answering e k a write high = let low = chunk_low e k a in absurd (omega (arith, low, high))
    by_main main phases.WritingStatus e k a write high = status_at main (ap writes_status e)
    by_main main phases.WritingLastStatus e k a write high = status_at main (ap writes_status e)
    by_main main phases.Reset e k a write high = absurd a
    by_main main phases.Suspended e k a write high = absurd a
    by_main main phases.Dead e k a write high = absurd a

    by_ahead : (next : OrbPointer) (ahead : ReadAhead) → IsAccessFor (ahead_ask ahead next) wait.status fifo access → access.is_write ≡ true → IsAccepted ms i asked_for
    by_ahead (At next) (aheads.UnderWay rung) a write = no_read access _ a refl write
    by_ahead Null (aheads.UnderWay rung) a write = absurd a
    by_ahead next aheads.Idle a write = absurd a
    by_ahead next (aheads.Kept orb) a write = absurd a

    by_which : (which : Which) → x.which ≡ which → (which ≡ Main → wait.status ≡ writes_status m.phase) → IsAccessFor (under_as which m) wait.status fifo access → access.is_write ≡ true → 0x1200_2000 ≤ access.offset → IsAccepted ms i asked_for
    by_which Main e status a write high = by_main e m.phase refl goes.along.main (subst (λ s. IsAccessFor (main_ask m.phase m) s fifo access) (status refl) a) write high
    by_which Ahead e status a write high = by_ahead m.orb.next m.ahead a write

    same : asked_for ≡ access
    same = same_access asked_for access (sym x.asks ∙ wait.is)

    accepted_there : asked_for.is_write ≡ true → 0x1200_2000 ≤ asked_for.offset → IsAccepted ms i asked_for
    accepted_there write high =
        by_which x.which refl wait.status_is wait.asks (subst (λ (y : Access). y.is_write ≡ true) same write) (subst (λ (y : Access). 0x1200_2000 ≤ y.offset) same high)

  are_accepted : AreAccepted start ms w
  are_accepted tame place i serial access x write high = accepted_there place i serial access x write high

-- ---- each place of a run
abbrev Accepts : List Disk → List Moment → WorldState → Type 0
Accepts start past w = IsTame past → AreStatusesAccepted start past w → AreAccepted start past w

accepts : EveryPlace Accepts
accepts =
    let lists = kit_everywhere short_law open_lists_law in
    by_places Kit Accepts (λ units ready has start past lines w h kit tame statuses. are_accepted units ready has start w h kit tame statuses) (record {
      after_lines = λ line run r has small size so_far. record { lists = lists.after_lines line run r has small size so_far; whole = whole_law.after_lines line run r has small size so_far };
      between = λ line run r has small size next most told m so_far. record { lists = lists.between line run r has small size next most told m so_far; whole = whole_law.between line run r has small size next most told m so_far };
    })

pub statuses_accepted_where : (While : List Moment → Type 0) → AlwaysWhere While AreStatusesAccepted → AlwaysWhere While AreAccepted
statuses_accepted_where While statuses = record {
  after_lines = λ line run r has small size so tame.
      accepts.after_lines line run r has small size (closing.before open_lists_law line run r has small size (inl tame)) tame (statuses.after_lines line run r has small size so) tame;
  between = λ line run r has small size next most told m so tame.
      accepts.between line run r has small size next most told m (closing.between open_lists_law line run r has small size next (more_deliveries most) (more_than_one most) told m (inl tame)) tame
      (statuses.between line run r has small size next most told m so) tame;
}
