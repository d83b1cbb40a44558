-- At each place of a run, the write that an agent along a list waits for while it writes its answer is of the next chunk of the buffer of its present ORB.
use Rattle.sbp_world.proofs.Words.Std.{arith, ◌≡◌, ◌∙◌, sym, ap, subst, ◌<◌, ◌≤◌, ◌+◌, ◌-◌, ◌^◌, ℕ, Bool, true, false, List, length, take, drop, Some, same_Some}
use Rattle.sbp_world.proofs.Words.Wire.{Access, Moment, terms, Cmd}
use Rattle.sbp_world.proofs.Words.Target.{Phase, Main, Machine, chunk_of, cut_to, limit_of, writes_status, Answers, Knows, Progress, main_ask, main_under, Disk, desk_at, answer_chunk}
use Rattle.sbp_world.proofs.Words.Initiator.{CommandOrb, window_at, addresses, buffer_addresses, chunk, chunk_from, Chunk, Segment}
use Rattle.sbp_world.proofs.Words.Laws.{fifo_in, laid_out, command_at, linked, slot_at, Agent, Target, agent_at, term_initiator, term_login, over, target_at, ends, request_at, access_at}
use Rattle.sbp_world.proofs.Words.World.{holder, WorldState, initiator_at, HasAsked, IsAccessFor, IsOf, HoldsOrbs, IsNextChunk, IsBufferOf, orbs, IsCalm, OpenLists, initiator_in, machine_at, Follows}
use Rattle.command_agent.specs.declared.phase.Phase.TheVariants as phases
use Rattle.bus_memory.specs.declared.window.Window.TheVariants as windows
use Rattle.page_table.proofs.Places.{chunk_in_place}
use Rattle.sbp_world.proofs.Agents.AskedAlike.{main_alike, status_alike}
use Rattle.sbp_world.proofs.Agents.Management.Holding.{Holding}
use Rattle.sbp_world.proofs.Agents.Management.Still.{hist}
use Rattle.sbp_world.proofs.Lists.Brought.{cut_follows}
use Rattle.sbp_world.proofs.Lists.Executes.{asked_of}
use Rattle.sbp_world.proofs.Lists.Passing.{GoesOn}
use Rattle.sbp_world.proofs.Lists.RunFits.{WasAsked}
use Rattle.sbp_world.proofs.Lists.Sites.{Site, Waiting, named_prepared, waiting}
use Rattle.sbp_world.proofs.Lists.Slots.{IsFilled, data_window}
use Rattle.sbp_world.proofs.Lists.Told.{AgentOn}

-- ---- the access of a write of an answer
record IsChunkOf (m : Machine) (access : Access) : Type 0 where
  writes : access.is_write ≡ true
  count : access.count ≡ length access.payload
  piece : chunk access.offset (length access.payload) ≡ chunk_of m m.written (length m.answer)

pub same_piece : (a b : ℕ) (c : Chunk) → a ≡ c.offset → b ≡ c.length → chunk a b ≡ c
same_piece a b c e f = ap (λ x. chunk x b) e ∙ ap (λ x. chunk c.offset x) f

chunk_written : (m : Machine) (fifo : ℕ) (access : Access) → IsAccessFor (main_ask phases.Answering m) false fifo access → IsChunkOf m access
chunk_written m fifo access a = record {
  writes = ap (λ (x : Access). x.is_write) a.0;
  count = ap (λ (x : Access). x.count) a.0;
  piece = same_piece access.offset (length access.payload) (chunk_of m m.written (length m.answer)) (ap (λ (x : Access). x.offset) a.0) a.1;
}

module _ (past : List Moment) (i n : ℕ) (p : Progress) (m : Machine) (k : Answers (orbs past i n) p m.present m.orb m.segments m.answer m.written m.outgoing) where
  module _ (a : WasAsked (command_at past i n p.ended) (request_at past i n p.ended) (slot_at past i n p.ended)) where
    laid_is : m.segments ≡ laid_out (slot_at past i n p.ended) a.cmd a.cmd.segments
    laid_is = subst (λ o. IsBufferOf o (slot_at past i n p.ended) m.segments) a.command_is k.told.buffer

    most_is : m.orb.max_payload ≡ a.cmd.max_payload
    most_is =
        let o = k.told.good.own in
        ap (λ (x : CommandOrb). x.max_payload) o.orb ∙ ap (λ (c : Cmd). c.max_payload) (same_Some o.cmd a.cmd (sym o.command ∙ a.command_is))

    pub chunk_is : chunk_of m m.written (length m.answer) ≡ cut_to (length m.answer - m.written) (chunk_from (laid_out (slot_at past i n p.ended) a.cmd a.cmd.segments) m.written (2 ^ (a.cmd.max_payload + 2)))
    chunk_is =
        ap (λ (ss : List Segment). cut_to (length m.answer - m.written) (chunk_from ss m.written (limit_of m.orb))) laid_is
        ∙ ap (λ x. cut_to (length m.answer - m.written) (chunk_from (laid_out (slot_at past i n p.ended) a.cmd a.cmd.segments) m.written (2 ^ (x + 2)))) most_is

    -- and where it stands
    stands_in : slot_at past i n p.ended < 32 → IsFilled (slot_at past i n p.ended) a.cmd → (access : Access) → access.count ≡ length access.payload → chunk access.offset (length access.payload) ≡ chunk_of m m.written (length m.answer) → 0 < length access.payload → window_at access.offset ≡ Some (windows.Buffer (slot_at past i n p.ended))
    stands_in small filled access count piece some =
        let slot = slot_at past i n p.ended in
        let places = buffer_addresses m.segments in
        let own : addresses (chunk_of m m.written (length m.answer)).offset (chunk_of m m.written (length m.answer)).length ≡ take (chunk_of m m.written (length m.answer)).length (drop m.written places) =
        cut_follows (length m.answer - m.written) (chunk_from m.segments m.written (limit_of m.orb)) places m.written (chunk_in_place m.segments m.written (limit_of m.orb)) in
        let there : addresses access.offset (length access.payload) ≡ take (length access.payload) (drop m.written places) = subst (λ (c : Chunk). addresses c.offset c.length ≡ take c.length (drop m.written places)) (sym piece) own in
        let follow : Follows access slot a.cmd m.written =
        subst (λ j. addresses access.offset j ≡ take j (drop m.written (buffer_addresses (laid_out slot a.cmd a.cmd.segments)))) (sym count)
        (subst (λ (ss : List Segment). addresses access.offset (length access.payload) ≡ take (length access.payload) (drop m.written (buffer_addresses ss))) laid_is there) in
        data_window slot small a.cmd filled access m.written (subst (λ j. 0 < j) (sym count) some) follow

-- ---- at a place
module _ (wild : ℕ → Bool) (units ready : ℕ) (has : 0 < units) (start : List Disk) {past : List Moment} {lines : ℕ} (w : WorldState) (h : Holding units ready start past lines w) (s : Site start past w) (lists : (i : ℕ) → wild i ≡ false → OpenLists (hist past w) w) (calm : (i : ℕ) → wild i ≡ false → IsCalm (hist past w) i) (holds : (i : ℕ) → i < length w.initiators → HoldsOrbs (hist past w) i (initiator_at w i)) (agents : (p : ℕ) → p < 8 → AgentOn wild (hist past w) (holder w p) (machine_at w p)) where
  abbrev ms : List Moment
  ms = hist past w

  abbrev T : Target
  T = over (target_at start ms)

  module _ (place serial : ℕ) (b : place < 8) (own : wild (initiator_in w place) ≡ false) (answering : (machine_at w place).phase ≡ phases.Answering) (waits : (agent_at T place).main ≡ Some serial) where
    abbrev i : ℕ
    i = initiator_in w place

    abbrev m : Machine
    m = machine_at w place

    abbrev a : Agent
    a = agent_at T place

    x : Waiting units ready has start w h s place b Main serial
    x = waiting units ready has start w h s place b Main serial waits

    r : HasAsked (terms ms) (term_initiator T (terms ms) place) (fifo_in (term_login T place)) serial (main_under a.machine) (writes_status a.machine.phase)
    r = (s.asked.all place b).main serial waits

    is : IsOf s.agents.requests a (desk_at w.target place)
    is = s.agents.are.each place b

    asks : IsAccessFor (main_ask phases.Answering m) false (fifo_in (term_login T place)) r.access
    asks =
        let main = main_alike a.untold a.machine m is.machine ∙ ap (λ (p : Phase). main_ask p m) answering in
        let status : writes_status a.machine.phase ≡ false = status_alike a.untold a.machine m is.machine ∙ ap writes_status answering in
        subst (λ y. IsAccessFor (main_ask phases.Answering m) y (fifo_in (term_login T place)) r.access) status
        (subst (λ y. IsAccessFor y (writes_status a.machine.phase) (fifo_in (term_login T place)) r.access) main r.asks)

    -- it has as many bytes as the agent asked for
    pub next_size : (access : Access) → access_at (terms ms) serial ≡ Some access → length access.payload ≡ answer_chunk m
    next_size access e =
        ap (λ (x : Access). length x.payload) (let same : access ≡ r.access = (let both : Some access ≡ Some r.access = sym e ∙ r.is in cc) in same)
        ∙ ap (λ (x : Chunk). x.length) (chunk_written m (fifo_in (term_login T place)) r.access asks).piece

    pub next_chunk : IsNextChunk ms w place serial
    next_chunk =
        let o = (lists i own).listed place b x.is_open (calm i own) in
        let goes : GoesOn ms i o.n m = agents place b x.is_open o.n o.list own in
        let p = goes.progress in
        let k : Knows (orbs ms i o.n) p phases.Answering m = subst (λ y. Knows (orbs ms i o.n) p y m) answering goes.along.main in
        let from : ends ms i o.n ≤ p.ended = (let e = goes.is in omega (arith, e)) in
        let below : p.ended < linked ms i o.n = k.told.turn.linked in
        let q : WasAsked (command_at ms i o.n p.ended) (request_at ms i o.n p.ended) (slot_at ms i o.n p.ended) = asked_of wild start units ready has w h s lists calm holds place b x.is_open own o.n o.list p.ended from below in
        let there = named_prepared units ready has start w h s place o.n p.ended o.inside (o.named p.ended from below) in
        let c = chunk_written m (fifo_in (term_login T place)) r.access asks in
        record {
          inside = o.inside;
          list = o.n;
          list_is = o.list;
          number = p.ended;
          number_is = goes.is;
          below = below;
          cmd = q.cmd;
          command = q.command_is;
          small = there.small;
          has = there.there;
          from = r.from;
          to = x.to;
          under_way = r.under_way;
          access = r.access;
          is = r.is;
          writes = c.writes;
          within = k.told.within;
          piece = c.piece ∙ chunk_is ms i o.n p m k q;
          stands = stands_in ms i o.n p m k q there.small (s.filled i o.inside (slot_at ms i o.n p.ended) o.n p.ended q.cmd there.small there.there q.command_is) r.access c.count c.piece;
        }
