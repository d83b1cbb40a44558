-- The bytes of an answer go to no FIFO, and to no response buffer: an agent along a list of an initiator that injected no packets writes them into the buffer that this
-- laid out for its command, in the window of the ORB's slot; and the buffers of the slots end below those and below the FIFOs.
use Rattle.sbp_world.proofs.Words.Std.{arith, ◌≡◌, ◌∙◌, refl, sym, ap, subst, ◌<◌, ◌≤◌, ◌+◌, ◌*◌, ◌==◌, ◌||◌, nat_lt, ℕ, Bool, true, false, cond, List, [], ◌∷◌, length, Option, Some, None, nat_tests, false≢true}
use Rattle.sbp_world.proofs.Words.Wire.{LabelParts, Packet, header_in, judging_step, of_response, Sent, Moment, Cmd}
use Rattle.sbp_world.proofs.Words.Target.{Login, Outcome, Disk, Held, Told, PlainDisk, Phase, AgentStep, Which, Machine, chunk_of, cut_to, limit_of, reply_step, Knows, Progress, ahead_beside, main_ask, main_beside, main_by, Keeps, end_by, heard_by, progress_by, run_by, which_in, desk_at, answer_in, plain_in}
use Rattle.sbp_world.proofs.Words.Initiator.{IfShare, start, window_at, Ask, StatusKind, behind, Chunk, Segment, chunk_from, single, IsCommand}
use Rattle.sbp_world.proofs.Words.Laws.{laid_out, placed, command_at, slot_at, ends, EachMoment}
use Rattle.sbp_world.proofs.Words.World.{holder, WorldState, initiator_at, after, beginning, AreRows, HoldsOrbs, Always, IsBufferOf, orbs, IsFor, IsOpenAt, is_open_at, machine_at, AreStatuses, IsFifo, SentSo}
use Rattle.std.specs.Prelude.{sum}
use Rattle.bus_memory.specs.declared.window.Window.TheVariants as windows
use Rattle.bus_memory.proofs.Found.{window_share}
use Rattle.orb_layout.specs.declared.ask.Ask.TheVariants as asks
use Rattle.command_agent.specs.declared.phase.Phase.TheVariants as phases
use Rattle.agent_laws.proofs.Along.Writes.{keeps_along}
use Rattle.sbp_target.specs.declared.purpose.Purpose.TheVariants as purposes
use Rattle.sbp_world.proofs.Agents.Management.Still.{hist}
use Rattle.sbp_world.proofs.Hosts.BytePlaces.{total as sum_more}
use Rattle.sbp_world.proofs.Hosts.Orbs.{orbs_law}
use Rattle.sbp_world.proofs.Hosts.Runs.{count_after, count_between}
use Rattle.sbp_world.specs.Lists.Statuses.{of_login, of_place}
use Rattle.sbp_world.proofs.Lists.Deliveries.{waits_has}
use Rattle.sbp_world.proofs.Lists.Lists.{laid}
use Rattle.sbp_world.proofs.Lists.Passing.{GoesOn}
use Rattle.sbp_world.proofs.Lists.RunFits.{WasAsked}
use Rattle.sbp_world.proofs.Lists.RunOutcomes.{AreAsked}
use Rattle.sbp_world.proofs.Lists.StatusBytes.{same_address, written_at}
use Rattle.sbp_world.proofs.Lists.StatusDue.{Ours, slot_small}
use Rattle.sbp_world.proofs.Lists.StatusPackets.{IsInbox, of_buffer, of_fifo}
use Rattle.sbp_world.proofs.Lists.StatusTurn.{Answers}
use Rattle.sbp_world.proofs.Lists.Turns.{Ready, heard_ended}
use Rattle.sbp_world.proofs.Lists.StatusSteps.{none_wrote, read_wrote}
use Rattle.sbp_world.proofs.Lists.FifoReplies.{same_at}

-- ---- the FIFOs stand above the buffers
no_place : (offset : ℕ) (a b : Bool) → (offset == 0x12002000) ≡ a → (offset == 0x12002020) ≡ b → offset < 0x1110_0000 → a || b ≡ true → ⊥
no_place offset true b e f small g = (let same : offset ≡ 0x12002000 = grind (arith, nat_tests) in omega (arith, same, small))
no_place offset false true e f small g = (let same : offset ≡ 0x12002020 = grind (arith, nat_tests) in omega (arith, same, small))
no_place offset false false e f small g = false≢true g

low_free : (offset : ℕ) → offset < 0x1110_0000 → IsFifo offset → ⊥
low_free offset small (of_login number e) = omega (arith, e, small)
low_free offset small (of_place e) = no_place offset (offset == 0x12002000) (offset == 0x12002020) refl refl small e

pub fifo_free : (offset : ℕ) → offset < 0x1110_0000 → IsFifo (written_at offset) → ⊥
fifo_free offset small fifo = low_free offset small (subst IsFifo (same_address offset (omega (arith, small))) fifo)

low_unboxed : (offset place : ℕ) → offset < 0x1110_0000 → window_at offset ≡ Some (windows.Response place) → ⊥
low_unboxed offset place small e = let share = (subst (IfShare offset) e (window_share offset)).1 in omega (arith, share, small)

inbox_free : (offset : ℕ) → offset < 0x1110_0000 → IsInbox (written_at offset) → ⊥
inbox_free offset small (of_fifo fifo) = fifo_free offset small fifo
inbox_free offset small (of_buffer place goes) =
    low_unboxed offset place small (ap window_at (sym (same_address offset (omega (arith, small)))) ∙ goes)

-- ---- where the segments of a buffer stand
abbrev AllBelow : ℕ → List Segment → Type 0
AllBelow high [] = Unit {0}
AllBelow high (segment ∷ rest) = (segment.base + segment.length ≤ high) × AllBelow high rest

abbrev IsBelow : ℕ → Option Chunk → Type 0
IsBelow high None = Unit {0}
IsBelow high (Some taken) = taken.offset < high

pick_below : (high : ℕ) (b : Bool) (x y : Option Chunk) → (b ≡ true → IsBelow high x) → (b ≡ false → IsBelow high y) → IsBelow high (cond b x y)
pick_below high true x y f g = f refl
pick_below high false x y f g = g refl

chunk_below : (high : ℕ) (segments : List Segment) → AllBelow high segments → (done limit : ℕ) → IsBelow high (chunk_from segments done limit)
chunk_below high [] a done limit = tt
chunk_below high (segment ∷ rest) a done limit =
    pick_below high (nat_lt done segment.length) _ _
    (λ e. let inside : done < segment.length = grind (arith, nat_tests) in let end = a.0 in omega (arith, inside, end))
    (λ e. chunk_below high rest a.1 _ limit)

cut_below : (high left : ℕ) → 0 < high → (found : Option Chunk) → IsBelow high found → (cut_to left found).offset < high
cut_below high left some None b = some
cut_below high left some (Some taken) b = b

-- those that are laid out for a command
single_below : (high base len : ℕ) → base + len ≤ high → AllBelow high (single base len)
single_below high base len end = by (len == 0)
  where
    by : (b : Bool) → AllBelow high (cond b [] (record { base = base; length = len } ∷ []))
    by true = tt
    by false = (end, tt)

placed_below : (high at : ℕ) (counts : List ℕ) → at + sum counts + 20 * length counts ≤ high → AllBelow high (placed at counts)
placed_below high at [] end = tt
placed_below high at (count ∷ counts) end =
    let rest = sum counts in
    let more = length counts in
    let total : sum (count ∷ counts) ≡ count + rest = sum_more count counts in
    let next : behind at count + rest + 20 * more ≤ high = omega (arith, end, total) in
    (omega (arith, end, total), placed_below high (behind at count) counts next)

laid_below : (slot : ℕ) (cmd : Cmd) → slot < 32 → (segments : List ℕ) → cmd.length ≤ 16384 → sum segments ≤ 16384 → length segments ≤ 64 → AllBelow 0x1110_0000 (laid_out slot cmd segments)
laid_below slot cmd small [] short whole few = single_below 0x1110_0000 (start (windows.Buffer slot)) cmd.length (omega (arith, small, short))
laid_below slot cmd small (count ∷ counts) short whole few = placed_below 0x1110_0000 (start (windows.Buffer slot)) (count ∷ counts) (omega (arith, small, whole, few))

-- ---- what an agent along a list writes

at_zero : (len offset size : ℕ) → asks.Write 0 len ≡ asks.Write offset size → offset < 0x1110_0000
at_zero len offset size e = let same = same_at 0 len offset size e in omega (arith, same)

module _ (past : List Moment) (i n : ℕ) where
  -- the command of an ORB, in its slot, is one of a line
  abbrev pub Laid : ℕ → Type 0
  Laid k = (cmd : Cmd) × ((command_at past i n k ≡ Some cmd) × IsCommand cmd)

  chunk_low : (k : ℕ) → slot_at past i n k < 32 → Laid k → (m : Machine) → IsBufferOf (command_at past i n k) (slot_at past i n k) m.segments → (done total : ℕ) → (chunk_of m done total).offset < 0x1110_0000
  chunk_low k small l m buffer done total =
      let cmd = l.0 in
      let q = l.1.1 0 0 in
      let whole = q.whole in
      let short = q.short in
      let is : m.segments ≡ laid_out (slot_at past i n k) cmd cmd.segments = subst (λ o. IsBufferOf o (slot_at past i n k) m.segments) l.1.0 buffer in
      let below : AllBelow 0x1110_0000 m.segments = subst (AllBelow 0x1110_0000) (sym is) (laid_below (slot_at past i n k) cmd small cmd.segments short (omega (arith, whole, short)) q.segments) in
      cut_below 0x1110_0000 _ (omega arith) (chunk_from m.segments done (limit_of m.orb)) (chunk_below 0x1110_0000 m.segments below done (limit_of m.orb))

  pub low_by : (small : (k : ℕ) → slot_at past i n k < 32) (p : Progress) (phase : Phase) (m : Machine) → Knows (orbs past i n) p phase m → (phase ≡ phases.Answering → Laid p.ended) → (offset size : ℕ) → main_ask phase m ≡ asks.Write offset size → offset < 0x1110_0000
  low_by small p phases.Answering m k l offset size e =
      let at = (chunk_of m m.written (length m.answer)).offset in
      let same : at ≡ offset = same_at at _ offset size e in
      subst (λ x. x < 0x1110_0000) same (chunk_low p.ended (small p.ended) (l refl) m k.told.buffer m.written (length m.answer))
  low_by small p phases.WritingStatus m k l offset size e = at_zero (length m.outgoing) offset size e
  low_by small p phases.WritingLastStatus m k l offset size e = at_zero (length m.outgoing) offset size e
  low_by small p phases.Fetching m k l offset size e = absurd (read_wrote _ _ offset size e)
  low_by small p phases.ReadingTable m k l offset size e = absurd (read_wrote _ _ offset size e)
  low_by small p (phases.ReadingData wanted) m k l offset size e = absurd (read_wrote _ _ offset size e)
  low_by small p phases.ReadingNext m k l offset size e = absurd (read_wrote _ _ offset size e)
  low_by small p phases.Suspended m k l offset size e = absurd (none_wrote offset size e)
  low_by small p phases.Reset m k l offset size e = absurd (none_wrote offset size e)
  low_by small p phases.Dead m k l offset size e = absurd (none_wrote offset size e)

-- which ORB that is
pub main_wrote : (promoted : Bool) (ask main ahead : Ask) (offset size : ℕ) → ask ≡ asks.Write offset size → main_by promoted ask main ahead ≡ asks.Write offset size
main_wrote true ask main ahead offset size e = subst (λ a. main_by true a main ahead ≡ asks.Write offset size) (sym e) refl
main_wrote false ask main ahead offset size e = subst (λ a. main_by false a main ahead ≡ asks.Write offset size) (sym e) refl

pub run_ended : (ran : Option Outcome) (answer : List ℕ) (p : Progress) → (run_by ran answer p).ended ≡ p.ended
run_ended None answer p = refl
run_ended (Some outcome) answer p = refl

none_ended : (ended : Option StatusKind) (src : ℕ) (p : Progress) → ended ≡ None → (end_by ended src p).ended ≡ p.ended
none_ended None src p e = refl
none_ended (Some kind) src p e = absurd (let z : Some kind ≡ None = e in cc)

pub step_ended : (s : AgentStep × Machine) (p : Progress) → s.0.ended ≡ None → (progress_by s p).ended ≡ p.ended
step_ended s p e = none_ended s.0.ended _ _ e ∙ run_ended s.0.ran s.1.answer p

pub answering_next : (past : List Moment) (i n : ℕ) (p : Progress) (phase : Phase) (m : Machine) → Knows (orbs past i n) p phase m → phase ≡ phases.Answering → p.ended < (orbs past i n).linked
answering_next past i n p phases.Answering m k e = k.told.turn.linked
answering_next past i n p phases.Fetching m k e = absurd (let z : phases.Fetching ≡ phases.Answering = e in cc)
answering_next past i n p phases.ReadingTable m k e = absurd (let z : phases.ReadingTable ≡ phases.Answering = e in cc)
answering_next past i n p (phases.ReadingData wanted) m k e = absurd (let z : phases.ReadingData wanted ≡ phases.Answering = e in cc)
answering_next past i n p phases.WritingStatus m k e = absurd (let z : phases.WritingStatus ≡ phases.Answering = e in cc)
answering_next past i n p phases.WritingLastStatus m k e = absurd (let z : phases.WritingLastStatus ≡ phases.Answering = e in cc)
answering_next past i n p phases.ReadingNext m k e = absurd (let z : phases.ReadingNext ≡ phases.Answering = e in cc)
answering_next past i n p phases.Suspended m k e = absurd (let z : phases.Suspended ≡ phases.Answering = e in cc)
answering_next past i n p phases.Reset m k e = absurd (let z : phases.Reset ≡ phases.Answering = e in cc)
answering_next past i n p phases.Dead m k e = absurd (let z : phases.Dead ≡ phases.Answering = e in cc)

-- ---- a reply to an agent
module _ (wild : ℕ → Bool) (past : List Moment) (w : WorldState) (r : Ready wild past w) (asked : AreAsked wild (hist past w) w) (sent : Sent) (is_for : IsFor w sent) (run : Option Told) (disks : List Disk) (p : Packet) (label : LabelParts) (place : ℕ) (f : (judging_step w.target.layer sent.generation sent.bytes).0 ≡ of_response p label (Some (purposes.Agent place))) (b : place < 8) (login : Login) (which : Which) (e : which_in (desk_at w.target place) (header_in p).source label ≡ Some which) where
  abbrev ms : List Moment
  ms = hist past w

  abbrev plain : PlainDisk
  plain = plain_in w.target.units disks login.unit

  abbrev pub reply : AgentStep × Machine
  reply = reply_step (machine_at w place) place plain run which (answer_in p)

  module _ (own : Ours wild past w r place) where
    abbrev i : ℕ
    i = (holder w place).initiator

    is_open : is_open_at w place ≡ true
    is_open = waits_has wild past w r place b (header_in p).source label which e

    pub opened : IsOpenAt ms w place
    opened = (r.needs i own).lists.listed place b is_open (r.calm i own)

    abbrev pub n : ℕ
    n = opened.n

    pub goes : GoesOn ms i n (machine_at w place)
    goes = r.kept.on place b is_open n opened.list own

    abbrev pub heard : Progress
    heard = heard_by which (machine_at w place) (answer_in p) goes.progress

    pub keeps : Keeps (orbs ms i n) heard place plain (main_beside which (machine_at w place)) (ahead_beside which (machine_at w place)) reply
    keeps =
        (keeps_along (orbs ms i n)).replies goes.progress (machine_at w place) place plain run which (answer_in p) (laid ms i n) goes.along
        ((r.needs i own).brings sent is_for p label place which f e b refl n opened.list goes.progress goes.is goes.along)

    pub small : (k : ℕ) → slot_at ms i n k < 32
    small k = slot_small wild ms r.kept.passes i n k

    -- the ORB whose answer it writes has not ended
    laid_at : (number : ℕ) → ends ms i n ≤ number → number < (orbs ms i n).linked → Laid ms i n number
    laid_at number from below =
        let a : WasAsked (command_at ms i n number) _ (slot_at ms i n number) = asked place b is_open own n opened.list number from below in
        (a.cmd, (a.command_is, a.fits))

    pub answer_low : reply.0.ended ≡ None → (offset size : ℕ) → reply.0.ask ≡ asks.Write offset size → offset < 0x1110_0000
    answer_low none offset size wrote =
        let now = progress_by reply heard in
        let same : now.ended ≡ ends ms i n = step_ended reply heard none ∙ (heard_ended which (machine_at w place) (answer_in p) goes.progress ∙ goes.is) in
        low_by ms i n small now reply.1.phase reply.1 keeps.along.main
        (λ g. laid_at now.ended (omega (arith, same)) (answering_next ms i n now reply.1.phase reply.1 keeps.along.main g))
        offset size (keeps.main_is ∙ main_wrote reply.0.promoted reply.0.ask _ _ offset size wrote)

    pub answer_free : reply.0.ended ≡ None → (offset size : ℕ) → reply.0.ask ≡ asks.Write offset size → IsInbox (written_at offset) → ⊥
    answer_free none offset size wrote inbox = inbox_free offset (answer_low none offset size wrote) inbox

-- so the bytes of an answer go to no FIFO, and into no response buffer
module _ (wild : ℕ → Bool) (i : ℕ) (own : wild i ≡ false) (past : List Moment) (w : WorldState) (r : Ready wild past w) (statuses : AreStatuses (hist past w) i) (each : EachMoment (SentSo i) (hist past w)) (rows : AreRows (hist past w) i (initiator_at w i).lists.slots) (asked : AreAsked wild (hist past w) w) (sent : Sent) (is_for : IsFor w sent) (run : Option Told) (media : Held) (serial : ℕ) where
  pub answers_apart : Answers wild i own past w r statuses each rows sent is_for run media serial
  answers_apart p label place f b login which e ours none offset size wrote fifo =
      answer_free wild past w r asked sent is_for run media.disks p label place f b login which e ours none offset size wrote fifo

-- ---- each initiator holds its ORBs, at every place of every run
abbrev pub AllHold : List Moment → WorldState → Type 0
AllHold past w = (i : ℕ) → i < length w.initiators → HoldsOrbs past i (initiator_at w i)

pub all_hold : Always AllHold
all_hold = record {
  after_lines = λ line run r has few size i b. orbs_law.orbs line run r i (subst (λ n. i < n) (count_after run run.entries) b);
  between = λ line run r has few size next most told m i b.
      let s = after (beginning run) run.entries in
      orbs_law.between line run r next most told m i (subst (λ n. i < n) (count_after run run.entries) (subst (λ n. i < n) (count_between told s) b));
}
