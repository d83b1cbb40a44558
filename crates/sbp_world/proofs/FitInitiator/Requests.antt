-- A request that comes to an initiator takes what is said before its answer to what is said behind it, by an answer that fits.
use Rattle.sbp_world.proofs.Words.Std.{arith, ◌≡◌, ◌≢◌, refl, ◌∙◌, ℕ, ◌^◌, ◌<◌, ◌&&◌, Bool, true, false, cond, List, [], ◌∷◌, ◌++◌, length, replicate, Option, Some, None, Result, Ok, Err, length-replicate, big_bytes}
use Rattle.sbp_world.proofs.Words.Wire.{Packet, header_in, lock, lock_response, read_block, read_block_response, read_quadlet, read_quadlet_response, write_block, write_quadlet, write_response, FitsAnswer, is_plain, may_ignore, answer_to, is_stated, Gives, Layer, answering_step, Cause, Judged, Outgoing, Side, OutboxState}
use Rattle.sbp_world.proofs.Words.Target.{is_block}
use Rattle.sbp_world.proofs.Words.Initiator.{read_step, OrbFault, StatusBlock, StatusKind, TicketParts, Fifo, Purpose, Running, InitiatorState, Turn, managed_step, told, with_dead, ListState, take_lists, write_lists, is_dead_kind, addressed, answer_of, block_at, block_by, block_step, called, fifo_of, got_step, ignored_step, is_foreign, managed_for, present_for, quadlet_at, read_as, request_step, respond_step, responded_as, serve_step, status_step, taken_as, taken_by, written_as, status_in}
use Rattle.sbp_world.proofs.Words.World.{FitsMemory, FitsState}
use Rattle.bus_transactions.proofs.Fits.{bytes_quad, bytes_zeros, no_bytes}
use Rattle.bus_transactions.proofs.FitJudged.{BytesOf, no_gives, not_complete}
use Rattle.orb_layout.specs.declared.status.StatusKind.TheVariants as kinds
use Rattle.initiator_base.specs.declared.fifos.Fifo.TheVariants as fifos
use Rattle.sbp_journal.specs.declared.cause.Cause.TheVariants as causes
use Rattle.sbp_journal.specs.declared.cause.Judged.TheVariants as judgements
use Rattle.sbp_journal.specs.declared.note.Note.TheVariants as notes
use Rattle.sbp_world.proofs.FitInitiator.Memory.{FitsRead, read_fits, take_fits, write_fits, wrote_small}
use Rattle.sbp_world.proofs.FitInitiator.Turns.{At, Said, Tells, fits_memory, managed}

-- why a request was ignored
abbrev pub cause_of : Judged → Option Cause
cause_of judgements.Got = None
cause_of (judgements.Ignored cause) = Some cause

pub record IsStated (judged : Judged) (rcode : ℕ) : Type 0 where
  pub may : may_ignore (cause_of judged) ≡ true
  pub stated : is_stated (cause_of judged) 0 rcode ≡ true

-- an answer to this request takes P to Q, by how it is judged
pub record Answers (P : Said) (Q : Judged → Said) (p : Packet) (bytes : List ℕ) : Type 0 where
  pub answers : (judged : Judged) (layer : Layer Purpose) (packets : List Outgoing) (told : List Side) (rcode : ℕ) (given : List ℕ) → IsStated judged rcode → FitsAnswer p rcode given → P layer packets told → Q judged (answering_step layer p bytes rcode given).1 (packets ++ answer_to p (answering_step layer p bytes rcode given).0 ∷ []) told

plain_told : (number : ℕ) → is_plain (notes.Told number) ≡ true
unfolding is_plain
plain_told number = refl

plain_taken : (number list orb : ℕ) (kind : StatusKind) (answer : List ℕ) → is_plain (notes.Taken number list orb kind answer) ≡ true
unfolding is_plain
plain_taken number list orb kind answer = refl

got : (rcode : ℕ) → IsStated judgements.Got rcode
got rcode = record { may = refl; stated = refl }

module _ (known : ℕ → Type 0) (acts most : ℕ) (P : Said) (Q : Judged → Said) (p : Packet) (bytes : List ℕ) (a : Answers P Q p bytes) (k : Tells P) where
  abbrev Before : Turn → Type 0
  Before t = At known acts most P t

  abbrev After : Judged × Turn → Type 0
  After r = Q r.0 r.1.1.layer r.1.0.packets r.1.0.sides × FitsState known acts most r.1.1

  responds_as : (judged : Judged) (r : List ℕ × Layer Purpose) (o : OutboxState) (s : InitiatorState) → Q judged r.1 (o.packets ++ answer_to p r.0 ∷ []) o.sides → FitsState known acts most s → After (judged, responded_as r (header_in p).source o s)
  responds_as judged (response, layer) o s h f = (h, f)

  responds : (judged : Judged) (rcode : ℕ) (given : List ℕ) (t : Turn) → IsStated judged rcode → FitsAnswer p rcode given → Before t → After (judged, respond_step p bytes rcode given t)
  responds judged rcode given t i f h =
      responds_as judged (answering_step t.1.layer p bytes rcode given) t.0 t.1 (a.answers judged t.1.layer t.0.packets t.0.sides rcode given i f h.0) h.1

  refused : (rcode : ℕ) → rcode ≢ 0 → rcode < 2 ^ 4 → FitsAnswer p rcode []
  refused rcode n s = record { small = s; bytes = no_bytes; gives = no_gives p rcode [] n }

  pick_judged : (b : Bool) (x y : Judged × Turn) → After x → After y → After (cond b x y)
  pick_judged true x y h i = h
  pick_judged false x y h i = i

  -- ---- a write is given nothing
  module _ (g : (rcode : ℕ) (given : List ℕ) → Gives p rcode given) where
    done : FitsAnswer p 0 []
    done = record { small = omega arith; bytes = no_bytes; gives = g 0 [] }

    with_lists : (o : OutboxState) (s : InitiatorState) (lists : ListState) → FitsMemory lists.memory → Before (o, s) → Before (o, record s { lists = lists })
    with_lists o s lists m h = (h.0, fits_memory known acts most s.target s.management s.counts.running s.counts.acts s.lists.memory lists.memory m h.1)

    marks : (b : Bool) (o : OutboxState) (s : InitiatorState) → Before (o, s) → Before (o, cond b (with_dead s) s)
    marks true o s h = h
    marks false o s h = h

    takes_as : (r : Option TicketParts × ListState) (kind : StatusKind) (o : OutboxState) (s : InitiatorState) → FitsMemory r.1.memory → Before (o, s) → After (taken_as r kind p bytes o s)
    takes_as (None, lists) kind o s m h =
        responds (judgements.Ignored causes.Slot) 0 [] (o, record s { lists = lists }) (record { may = refl; stated = refl }) done (with_lists o s lists m h)
    takes_as (Some t, lists) kind o s m h =
        let note = notes.Taken s.number t.list t.number kind (answer_of kind lists t.slot) in
        responds judgements.Got 0 [] (taken_by t lists kind o (called s)) (got 0) done
        (marks (is_dead_kind kind) (told o note) (record (called s) { lists = lists })
        (with_lists (told o note) (called s) lists m (k.tells s.layer o.packets o.sides note (plain_taken s.number t.list t.number kind (answer_of kind lists t.slot)) h.0, h.1)))

    manages_for : (running : Option Running) (status : ℕ) (o : OutboxState) (s : InitiatorState) → Before (o, s) → After (managed_for running status p bytes o s)
    manages_for None status o s h = responds (judgements.Ignored causes.Slot) 0 [] (o, s) (record { may = refl; stated = refl }) done h
    manages_for (Some running) status o s h =
        responds judgements.Got 0 [] (managed_step running status o (called s)) (got 0) done (managed known acts most P k running status o (called s) h)

    blocks_by : (kind : StatusKind) (block : StatusBlock) (o : OutboxState) (s : InitiatorState) → Before (o, s) → After (block_by kind block p bytes o s)
    blocks_by (kinds.Management status) block o s h = manages_for (present_for block.orb s.operation) status o s h
    blocks_by kinds.Good block o s h = takes_as (take_lists s.lists block) kinds.Good o s (take_fits s.lists block h.1.memory_fits) h
    blocks_by (kinds.Check sense) block o s h = takes_as (take_lists s.lists block) (kinds.Check sense) o s (take_fits s.lists block h.1.memory_fits) h
    blocks_by kinds.Dummy block o s h = takes_as (take_lists s.lists block) kinds.Dummy o s (take_fits s.lists block h.1.memory_fits) h
    blocks_by kinds.Aborted block o s h = takes_as (take_lists s.lists block) kinds.Aborted o s (take_fits s.lists block h.1.memory_fits) h
    blocks_by (kinds.Illegal meaning) block o s h = takes_as (take_lists s.lists block) (kinds.Illegal meaning) o s (take_fits s.lists block h.1.memory_fits) h
    blocks_by kinds.Failed block o s h = takes_as (take_lists s.lists block) kinds.Failed o s (take_fits s.lists block h.1.memory_fits) h

    blocks : (r : Result StatusBlock OrbFault) (o : OutboxState) (s : InitiatorState) → Before (o, s) → After (block_step r p bytes o s)
    blocks (Err fault) o s h = responds (judgements.Ignored causes.Grammar) 5 [] (o, s) (record { may = refl; stated = refl }) (refused 5 (not_complete 4) (omega arith)) h
    blocks (Ok block) o s h = blocks_by block.kind block o s h

    statuses : (is_login : Bool) (payload : List ℕ) (o : OutboxState) (s : InitiatorState) → Before (o, s) → After (status_step is_login payload p bytes o s)
    statuses is_login payload o s h =
        pick_judged (is_login && is_block payload) (got_step p bytes (told o (notes.Told s.number), called s)) (block_step (status_in payload) p bytes o s)
        (responds judgements.Got 0 [] (told o (notes.Told s.number), called s) (got 0) done (k.tells s.layer o.packets o.sides (notes.Told s.number) (plain_told s.number) h.0, h.1))
        (blocks (status_in payload) o s h)

    writes_as : (r : ℕ × ListState) (o : OutboxState) (s : InitiatorState) → r.0 < 2 ^ 4 → FitsMemory r.1.memory → Before (o, s) → After (written_as r p bytes o s)
    writes_as (rcode, lists) o s n m h =
        responds judgements.Got rcode [] (o, record (called s) { lists = lists }) (got rcode) (record { small = n; bytes = no_bytes; gives = g rcode [] }) (with_lists o (called s) lists m h)

  -- ---- a read is given as many bytes as there is room for
  reads_as : (r : ℕ × List ℕ) (count : ℕ) (o : OutboxState) (s : InitiatorState) → ((given : List ℕ) → length given ≡ count → Gives p r.0 given) → FitsRead count r → Before (o, s) → After (read_as r p bytes o s)
  reads_as (rcode, out) count o s g f h = responds judgements.Got rcode out (o, called s) (got rcode) (record { small = f.small; bytes = f.bytes; gives = g out f.long }) h

  unserved : (o : OutboxState) (s : InitiatorState) → Before (o, s) → After (judgements.Got, respond_step p bytes 6 [] (o, called s))
  unserved o s h = responds judgements.Got 6 [] (o, called s) (got 6) (refused 6 (not_complete 5) (omega arith)) h

  closes : (o : OutboxState) (s : InitiatorState) → Before (o, s) → After (ignored_step causes.Login 7 p bytes (o, s))
  closes o s h = responds (judgements.Ignored causes.Login) 7 [] (o, s) (record { may = refl; stated = refl }) (refused 7 (not_complete 6) (omega arith)) h

  foreign : (o : OutboxState) (s : InitiatorState) → Before (o, s) → After (ignored_step causes.Source 7 p bytes (o, s))
  foreign o s h = responds (judgements.Ignored causes.Source) 7 [] (o, s) (record { may = refl; stated = refl }) (refused 7 (not_complete 6) (omega arith)) h

module _ (known : ℕ → Type 0) (acts most : ℕ) (P : Said) (Q : Judged → Said) (bytes : List ℕ) (k : Tells P) where
  abbrev Serves : Packet → Judged × Turn → Type 0
  Serves p r = Q r.0 r.1.1.layer r.1.0.packets r.1.0.sides × FitsState known acts most r.1.1

  written_small : (lists : ListState) (offset : ℕ) (payload : List ℕ) → (write_lists lists offset payload).0 < 2 ^ 4
  unfolding write_lists
  written_small lists offset payload = wrote_small lists.memory payload _

  served : (p : Packet) (o : OutboxState) (s : InitiatorState) → Answers P Q p bytes → BytesOf p → At known acts most P (o, s) → Serves p (serve_step p bytes o s)
  served (read_quadlet header offset) o s a b h =
      reads_as known acts most P Q (read_quadlet header offset) bytes a k (read_step s.lists.memory offset (replicate 4 0)) 4 o s (λ given l r. l) (read_fits s.lists.memory offset (replicate 4 0) h.1.memory_fits (bytes_zeros 4)) h
  served (read_block header offset asked) o s a b h =
      let room = length-replicate asked 0 in
      reads_as known acts most P Q (read_block header offset asked) bytes a k (read_step s.lists.memory offset (replicate asked 0)) (length (replicate asked 0)) o s (λ given l r. l ∙ room)
      (read_fits s.lists.memory offset (replicate asked 0) h.1.memory_fits (bytes_zeros asked)) h
  served (write_quadlet header offset value) o s a b h =
      writes_as known acts most P Q (write_quadlet header offset value) bytes a k (λ rcode given. tt) (write_lists s.lists offset (big_bytes 4 value)) o s (written_small s.lists offset (big_bytes 4 value))
      (write_fits s.lists offset (big_bytes 4 value) (bytes_quad value) h.1.memory_fits) h
  served (write_block header offset payload) o s a b h =
      writes_as known acts most P Q (write_block header offset payload) bytes a k (λ rcode given. tt) (write_lists s.lists offset payload) o s (written_small s.lists offset payload)
      (write_fits s.lists offset payload b h.1.memory_fits) h
  served (write_response header rcode) o s a b h = unserved known acts most P Q (write_response header rcode) bytes a k o s h
  served (read_quadlet_response header rcode value) o s a b h = unserved known acts most P Q (read_quadlet_response header rcode value) bytes a k o s h
  served (read_block_response header rcode payload) o s a b h = unserved known acts most P Q (read_block_response header rcode payload) bytes a k o s h
  served (lock header offset extended payload) o s a b h = unserved known acts most P Q (lock header offset extended payload) bytes a k o s h
  served (lock_response header rcode extended payload) o s a b h = unserved known acts most P Q (lock_response header rcode extended payload) bytes a k o s h

  blocks_at : (fifo : Option Fifo) (offset : ℕ) (payload : List ℕ) (p : Packet) (o : OutboxState) (s : InitiatorState) → ((rcode : ℕ) (given : List ℕ) → Gives p rcode given) → Answers P Q p bytes → BytesOf p → At known acts most P (o, s) → Serves p (block_at fifo payload p bytes o s)
  blocks_at None offset payload p o s g a b h = served p o s a b h
  blocks_at (Some fifos.Closed) offset payload p o s g a b h = closes known acts most P Q p bytes a k o s h
  blocks_at (Some fifos.Login) offset payload p o s g a b h = statuses known acts most P Q p bytes a k g true payload o s h
  blocks_at (Some fifos.Place) offset payload p o s g a b h = statuses known acts most P Q p bytes a k g false payload o s h

  quadlets_at : (fifo : Option Fifo) (p : Packet) (o : OutboxState) (s : InitiatorState) → Answers P Q p bytes → BytesOf p → At known acts most P (o, s) → Serves p (quadlet_at fifo p bytes o s)
  quadlets_at None p o s a b h = served p o s a b h
  quadlets_at (Some fifos.Closed) p o s a b h = closes known acts most P Q p bytes a k o s h
  quadlets_at (Some fifos.Login) p o s a b h = served p o s a b h
  quadlets_at (Some fifos.Place) p o s a b h = served p o s a b h

  reaches : (p : Packet) (o : OutboxState) (s : InitiatorState) → Answers P Q p bytes → BytesOf p → At known acts most P (o, s) → Serves p (addressed p bytes o s)
  reaches (read_quadlet header offset) o s a b h = served (read_quadlet header offset) o s a b h
  reaches (read_block header offset asked) o s a b h = served (read_block header offset asked) o s a b h
  reaches (write_quadlet header offset value) o s a b h = quadlets_at (fifo_of s offset) (write_quadlet header offset value) o s a b h
  reaches (write_block header offset payload) o s a b h = blocks_at (fifo_of s offset) offset payload (write_block header offset payload) o s (λ rcode given. tt) a b h
  reaches (write_response header rcode) o s a b h = served (write_response header rcode) o s a b h
  reaches (read_quadlet_response header rcode value) o s a b h = served (read_quadlet_response header rcode value) o s a b h
  reaches (read_block_response header rcode payload) o s a b h = served (read_block_response header rcode payload) o s a b h
  reaches (lock header offset extended payload) o s a b h = served (lock header offset extended payload) o s a b h
  reaches (lock_response header rcode extended payload) o s a b h = served (lock_response header rcode extended payload) o s a b h

  pub requested : (p : Packet) (o : OutboxState) (s : InitiatorState) → Answers P Q p bytes → BytesOf p → At known acts most P (o, s) → Serves p (request_step p bytes o s)
  requested p o s a b h =
      pick_judged known acts most P Q p bytes a k (is_foreign p s) (ignored_step causes.Source 7 p bytes (o, s)) (addressed p bytes o s) (foreign known acts most P Q p bytes a k o s h) (reaches p o s a b h)
