-- Behind a reply to the write of a chunk an agent asks for another write: the chunks of a buffer that is laid out begin apart, and a FIFO is in no buffer.
use Rattle.sbp_world.proofs.Words.Std.{arith, ◌≡◌, ◌∙◌, refl, sym, ap, subst, inl, ℕ, ◌+◌, ◌-◌, ◌<◌, ◌==◌, is_some, Bool, true, false, cond, List, ◌∷◌, ◌++◌, map, length, Option, Some, None, none-some, same_Some}
use Rattle.sbp_world.proofs.Words.Wire.{Access, Cmd, Moment, Packet, Sent, asked, said, terms}
use Rattle.sbp_world.proofs.Words.Target.{AgentStep, Answers, Disk, Knows, Login, Machine, Main, PlainDisk, Told, advanced, answer_chunk, chunk_of, chunk_written, cut_to, end_step, limit_of, login_at, main_ask, reply_step, served, told_or, writes_status}
use Rattle.sbp_world.proofs.Words.Initiator.{Answer, Chunk, FailCause, Segment, Write, chunk_from, window_at, write_failure}
use Rattle.sbp_world.proofs.Words.Laws.{access_at, agent_at, command_at, laid_out, over, slot_at, target_at}
use Rattle.sbp_world.proofs.Words.World.{AreAgentsAt, AreAlong, AreAskedAt, AreHeldAt, AreNextChunks, AreOwn, GoesAlong, IsAccessFor, IsBufferOf, IsNextChunk, IsTame, WorldState, after, after_all, beginning, begun, has_list, history_of, initiator_in, is_open_at, machine_at, more_deliveries, orbs}
use Rattle.bus_memory.specs.declared.window.Window.TheVariants as windows
use Rattle.command_agent.specs.Steps.{answer_step}
use Rattle.command_agent.specs.declared.phase.Phase.TheVariants as phases
use Rattle.orb_layout.specs.declared.status.StatusKind.TheVariants as kinds
use Rattle.sbp_world.specs.Completing.LabelsFollowing.{AsksForOther, ChunksDiffer, ChunksLaw, IsOtherThan}
use Rattle.sbp_world.specs.Counting.Brings.{IsMainReply}
use Rattle.sbp_world.specs.Lists.DataWhole.{AreWhole}
use Rattle.sbp_world.proofs.Agents.AskedRuns.{asked_between_law, asked_run_law}
use Rattle.sbp_world.proofs.Agents.CrewRuns.{agents_between_law, agents_run_law}
use Rattle.sbp_world.proofs.Agents.Holders.{holders_between_law, holders_law}
use Rattle.sbp_world.proofs.Completing.LabelsFollowing.{asked_there, is_main, serial, served_there}
use Rattle.sbp_world.proofs.Completing.LabelsFifos.{own_fifos_law}
use Rattle.sbp_world.proofs.Completing.LabelsPlaces.{IsHolding, holding_everywhere}
use Rattle.sbp_world.proofs.Counting.Places.{places_law}
use Rattle.sbp_world.proofs.Lists.Clauses.{open_lists_law}
use Rattle.sbp_world.proofs.Lists.DataLaid.{laid_low, laid_same}
use Rattle.sbp_world.proofs.Lists.DataRuns.{data_writes_law}
use Rattle.sbp_world.proofs.Lists.DataSteps.{part_chunk}
use Rattle.sbp_world.proofs.Lists.DataWhole.{whole_law}
use Rattle.sbp_world.proofs.Lists.Courses.{more_than_one}
use Rattle.sbp_world.proofs.Lists.ListsProved.{closing}
use Rattle.sbp_world.proofs.Lists.OwnFifos.{fifo_no_window}

-- ---- the chunks of a buffer
abbrev At : ℕ → Option Chunk → ℕ
At left found = (cut_to left found).offset

module _ (slot : ℕ) (cmd : Cmd) (segments : List Segment) (laid : segments ≡ laid_out slot cmd cmd.segments) (limit one other : ℕ) where
  chunks_by : (left more : ℕ) (x y : Option Chunk) → chunk_from segments one limit ≡ x → chunk_from segments other limit ≡ y → 0 < (cut_to left x).length → one < other → At left x ≡ At more y → ⊥
  chunks_by left more None y e f some less same = absurd (omega (arith, some))
  chunks_by left more (Some c) None e f some less same =
      let low = laid_low slot cmd cmd.segments one limit c (ap (λ ss. chunk_from ss one limit) (sym laid) ∙ e) in absurd (omega (arith, low, same))
  chunks_by left more (Some c) (Some d) e f some less same =
      let both = laid_same slot cmd cmd.segments one other limit c d (ap (λ ss. chunk_from ss one limit) (sym laid) ∙ e) (ap (λ ss. chunk_from ss other limit) (sym laid) ∙ f) same in
      absurd (omega (arith, both, less))

-- ---- an agent that writes its answer
module _ (m : Machine) (fifo slot : ℕ) (cmd : Cmd) (laid : m.segments ≡ laid_out slot cmd cmd.segments) (some : 0 < answer_chunk m) (away : (chunk_of m m.written (length m.answer)).offset ≡ fifo → ⊥) where
  abbrev at : ℕ
  at = (chunk_of m m.written (length m.answer)).offset

  abbrev Other : AgentStep × Machine → Type 0
  Other s = (offset size : ℕ) → s.0.ask ≡ Write offset size → at ≡ cond (is_some s.0.ended) fifo offset → ⊥

  abbrev behind : Machine
  behind = record m { written = m.written + answer_chunk m }

  next_apart : at ≡ (chunk_of behind behind.written (length m.answer)).offset → ⊥
  next_apart same =
      chunks_by slot cmd m.segments laid (limit_of m.orb) m.written (m.written + answer_chunk m) (length m.answer - m.written) (length m.answer - (m.written + answer_chunk m))
      (chunk_from m.segments m.written (limit_of m.orb)) (chunk_from m.segments (m.written + answer_chunk m) (limit_of m.orb)) refl refl some (omega (arith, some)) same

  same_at : (a b offset size : ℕ) → Write a b ≡ Write offset size → a ≡ offset
  same_at a b offset size e = cc

  grown : (b : Bool) → Other (cond b (end_step behind kinds.Good None) (answer_step behind))
  grown true offset size e same = away same
  grown false offset size e same = next_apart (same ∙ sym (same_at _ _ offset size e))

  written_by : (failure : Option FailCause) (place : ℕ) (plain : PlainDisk) (told : Told) → Other (served place plain told (chunk_written m failure).0 (chunk_written m failure).1)
  written_by (Some cause) place plain told offset size e same = away same
  written_by None place plain told offset size e same = grown (behind.written == length m.answer) offset size e same

  module _ (answering : m.phase ≡ phases.Answering) where
    replied_other : (place : ℕ) (plain : PlainDisk) (told : Option Told) (answer : Answer) → Other (reply_step m place plain told Main answer)
    unfolding reply_step
    replied_other place plain told answer =
        subst (λ ph. Other (served place plain (told_or told) (advanced ph m answer).0 (advanced ph m answer).1)) (sym answering)
        (written_by (write_failure answer) place plain (told_or told))

    asks_other : (login : Login) → login.fifo ≡ fifo → (place : ℕ) (plain : PlainDisk) (told : Option Told) (answer : Answer) → AsksForOther m login (reply_step m place plain told Main answer)
    asks_other login fifo_is place plain told answer offset size e =
        let s = reply_step m place plain told Main answer in
        let to : ℕ → ℕ = λ f. cond (is_some s.0.ended) f offset in
        subst (λ ph. IsOtherThan (main_ask ph m) (writes_status ph) login.fifo m.outgoing (to login.fifo) s.1.outgoing) (sym answering)
        (λ same alike. replied_other place plain told answer offset size e (same ∙ ap to fifo_is))

-- ---- at a place
module _ {start : List Disk} {now : List Moment} (w : WorldState) (h : IsHolding start now w) (crew : AreAgentsAt start now w) (asks : AreAskedAt start now) (held : AreHeldAt start now w) (along : AreAlong now w) (chunks : AreNextChunks start now w) (whole : AreWhole now w) (tame : IsTame now) (own : 0 < length w.initiators → AreOwn w) where
  module _ (one : Sent) (packet : Packet) (place : ℕ) (login : Login) (reply : IsMainReply w one packet place) (at : login_at w.target place ≡ Some login) (answering : (machine_at w place).phase ≡ phases.Answering) where
    abbrev M : Machine
    M = machine_at w place

    abbrev i : ℕ
    i = initiator_in w place

    abbrev serial_there : ℕ
    serial_there = serial w h crew asks held one packet place login reply at

    next : IsNextChunk now w place serial_there
    next = chunks place serial_there reply.small (tame i) answering (subst (λ ms. (agent_at (over (target_at start ms)) place).main ≡ Some serial_there) h.is (is_main w h crew asks held one packet place login reply at))

    -- what it knows of its buffer
    is_open : is_open_at w place ≡ true
    is_open = ap has_list answering

    goes : GoesAlong now i next.list M
    goes = along.all place reply.small is_open (tame i) next.list next.list_is

    knows : Answers (orbs now i next.list) goes.progress M.present M.orb M.segments M.answer M.written M.outgoing
    knows = subst (λ ph. Knows (orbs now i next.list) goes.progress ph M) answering goes.along.main

    laid : M.segments ≡ laid_out (slot_at now i next.list next.number) next.cmd next.cmd.segments
    laid =
        subst (λ o. IsBufferOf o (slot_at now i next.list next.number) M.segments) next.command
        (subst (λ k. IsBufferOf (command_at now i next.list k) (slot_at now i next.list k) M.segments) (goes.is ∙ sym next.number_is) knows.told.buffer)

    some : 0 < answer_chunk M
    some = let x = whole place reply.small (tame i) answering in part_chunk M (record { more = x.0; fills = x.1 })

    -- its chunk is in the buffer
    away : (chunk_of M M.written (length M.answer)).offset ≡ login.fifo → ⊥
    away same =
        let a = asked_there w h crew asks held one packet place login reply at in
        let access_is : a.access ≡ next.access = same_Some a.access next.access (sym a.is ∙ (ap (λ ms. access_at (terms ms) serial_there) h.is ∙ next.is)) in
        let for = subst (λ ph. IsAccessFor (main_ask ph M) (writes_status ph) (served_there w h crew asks held one packet place login reply at).login.fifo a.access) answering a.asks in
        let offset_is : (chunk_of M M.written (length M.answer)).offset ≡ next.access.offset = sym (ap (λ (x : Access). x.offset) for.0) ∙ ap (λ (x : Access). x.offset) access_is in
        let size_is : length next.access.payload ≡ answer_chunk M = ap (λ (x : Access). length x.payload) (sym access_is) ∙ for.1 in
        let there = next.stands (subst (λ n. 0 < n) (sym size_is) some) in
        none-some (windows.Buffer (slot_at now i next.list next.number)) (sym (fifo_no_window login.fifo (own (let b = next.inside in omega (arith, b)) place login at)) ∙ (ap window_at (sym same ∙ offset_is) ∙ there))

    others : (plain : PlainDisk) (told : Option Told) (answer : Answer) → AsksForOther M login (reply_step M place plain told Main answer)
    others plain told answer = asks_other M login.fifo (slot_at now i next.list next.number) next.cmd laid some away answering login refl place plain told answer

  pub chunks_differ : ChunksDiffer now w
  chunks_differ tame_here one packet place login reply at answering plain told answer = others one packet place login reply at answering plain told answer

-- ---- each place of a run
pub chunks_law : ChunksLaw
chunks_law = record {
  after_lines = λ line run r has small size tame one packet place login reply at answering.
      let w = (after (beginning run) run.entries).world in
      let so_far = closing.before open_lists_law line run r has small size (inl tame) in
      chunks_differ {start = run.start.disks} {now = history_of line run} w (holding_everywhere.after_lines line run r has small size) (agents_run_law line run r.few has small size r.short r.entries r.lines) (asked_run_law line run r.few has small size r.short r.entries r.lines)
      (holders_law line run r.few has small size r.short r.entries r.lines) (places_law.after_lines line run r has small size tame).along
      (data_writes_law.after_lines line run r has small size so_far (open_lists_law.after_lines line run r has small size (inl tame))) (whole_law.after_lines line run r has small size so_far) tame
      (own_fifos_law.after_lines line run r has small size tame) tame one packet place login reply at answering;
  between = λ line run r has small size next most told m tame one packet place login reply at answering.
      let w = (after_all told (begun (after (beginning run) run.entries))).world in
      let event = more_deliveries most in
      let d = more_than_one most in
      let so_far = closing.between open_lists_law line run r has small size next event d told m (inl tame) in
      chunks_differ {start = run.start.disks} {now = map said w.fresh ++ asked next event ∷ history_of line run} w (holding_everywhere.between line run r has small size next most told m)
      (agents_between_law line run r.few has small size r.short r.entries r.lines next event d told m) (asked_between_law line run r.few has small size r.short r.entries r.lines next event d told m)
      (holders_between_law line run r.few has small size r.short r.entries r.lines next event d told m) (places_law.between line run r has small size next most told m tame).along
      (data_writes_law.between line run r has small size next event d told m so_far (open_lists_law.between line run r has small size next event d told m (inl tame))) (whole_law.between line run r has small size next most told m so_far) tame
      (own_fifos_law.between line run r has small size next most told m tame) tame one packet place login reply at answering;
}
