-- A status block of the target that an initiator takes, and which names the management ORB of the operation that the initiator has under way, ends that operation: it is heard at an open FIFO.
use Rattle.sbp_world.proofs.Words.Std.{arith, ◌≡◌, refl, sym, ◌∙◌, ap, subst, ℕ, suc, ◌==◌, ◌||◌, not, nat_le, nat_lt, ◌%◌, Bool, true, false, cond, List, length, Option, Some, None, Ok, nat_tests, same_Some}
use Rattle.sbp_world.proofs.Words.Wire.{Finding, Header, Judged, Layer, Moment, Packet, Row, Sending, by_again, by_generation, by_grammar, by_label, by_request, by_response, empty_outbox, facts_of, judged_by, judged_note, judging_step, of_request, reading, row_of, said, terms, write_block}
use Rattle.sbp_world.proofs.Words.Initiator.{Fifo, InitiatorState, Purpose, Running, StatusBlock, addressed, block_at, fifo_at, fifo_of, ignored_step, is_foreign, is_login_fifo, is_open_login, is_orb_of, place_fifo, place_of, receive_step, received, request_step, start_of, status_in}
use Rattle.sbp_world.proofs.Words.Laws.{Underway, host_at, is_management}
use Rattle.sbp_world.proofs.Words.World.{Core, IsItsFifo, Work, is_open, of_login, of_place, work_in, work_of}
use Rattle.bus_memory.specs.declared.window.Window.TheVariants as windows
use Rattle.initiator_base.specs.declared.fifos.Fifo.TheVariants as fifos
use Rattle.label_table.specs.Layer.{facts_in}
use Rattle.orb_layout.specs.declared.status.StatusKind.TheVariants as kinds
use Rattle.sbp_journal.specs.declared.cause.Cause.TheVariants as causes
use Rattle.sbp_journal.specs.declared.cause.Judged.TheVariants as judgements
use Rattle.sbp_journal.specs.declared.note.Note.TheVariants as notes
use Rattle.sbp_session.specs.Seats.{is_out_seat}
use Rattle.sbp_world.specs.Hosts.Core.{placed}
use Rattle.sbp_world.proofs.Common.{all_three, none_is, some_none, untrue}
use Rattle.sbp_world.proofs.Completing.EndsHeard.{blocks_end}
use Rattle.sbp_world.proofs.Hosts.SlotIgnored.{current_row}
use Rattle.sbp_world.proofs.Completing.ShutRuns.{place_open}
use Rattle.sbp_world.proofs.Hosts.Hosted.{Cored}
use Rattle.sbp_world.proofs.Hosts.Shown.{IsHeard, IsShown}

-- ---- what is said of a history
-- a packet is taken: it is got, or ignored for its slot
abbrev pub Takes : Moment → ℕ → Type 0
Takes (said (notes.Got one)) serial = one ≡ serial
Takes (said (notes.Ignored one causes.Slot)) serial = one ≡ serial
Takes moment serial = ⊥

-- it is a block of the target which names the ORB of the operation under way
pub record EndsThere (past : List Moment) (i serial : ℕ) : Type 0 where
  pub packet : Sending
  pub sent : (terms past).sent serial ≡ Some packet
  pub to_is : packet.to ≡ suc i
  pub from_is : packet.from ≡ 0
  pub header : Header
  pub offset : ℕ
  pub payload : List ℕ
  pub spelled : reading packet.bytes ≡ Ok (write_block header offset payload)
  pub fifo : IsItsFifo offset
  pub size : length payload ≡ 8
  pub block : StatusBlock
  pub read : status_in payload ≡ Ok block
  pub status : ℕ
  pub kind : block.kind ≡ kinds.Management status
  pub underway : Underway
  pub under_way : (host_at past i).operation ≡ Some underway
  pub manages : is_management underway.operation ≡ true
  pub names : block.orb ≡ start_of (windows.Management underway.place)

-- ---- a FIFO of the ORBs is open or closed
login_by : (placed opened : Bool) (closed : Bool) → closed ≡ true → cond placed (Some fifos.Place) (cond opened (Some fifos.Login) (cond closed (Some fifos.Closed) None)) ≡ None → ⊥
login_by true opened closed c e = some_none fifos.Place e
login_by false true closed c e = some_none fifos.Login e
login_by false false true c e = some_none fifos.Closed e
login_by false false false c e = untrue c

fifo_there : (logins : ℕ) (is_out : Bool) (offset : ℕ) → IsItsFifo offset → fifo_at logins is_out offset ≡ None → ⊥
unfolding fifo_at
fifo_there logins is_out offset (of_login own) e =
    let few = own.few in
    let is = own.is in
    let even : offset % 0x20 ≡ 0 = omega (arith, is) in
    login_by (offset == place_fifo 0 || offset == place_fifo 1) (is_open_login logins is_out offset) (is_login_fifo offset)
    (all_three (nat_le 0x13000000 offset) (nat_lt offset 0x2013000000) (offset % 0x20 == 0) (grind (arith, nat_tests, is)) (grind (arith, nat_tests, few, is)) (grind (arith, nat_tests, even))) e
fifo_there logins is_out offset (of_place place small is) e = none_is fifos.Place (sym e ∙ (ap (fifo_at logins is_out) is ∙ place_open logins is_out place small))

-- ---- a packet that is heard
module _ {ready : Bool} (serial generation : ℕ) (bytes : List ℕ) (past : List Moment) (i : ℕ) (s : InitiatorState) (heard : IsHeard past i serial generation bytes) (shown : IsShown past i s.target s.layer) (cored : Cored ready past i s) (r : ℕ) where
  abbrev judged : Judged
  judged = (receive_step generation bytes empty_outbox s).0

  taken_is : (j : Judged) → Takes (said (judged_note serial j)) r → serial ≡ r
  taken_is judgements.Got t = t
  taken_is (judgements.Ignored causes.Slot) t = t
  taken_is (judgements.Ignored causes.Generation) t = absurd t
  taken_is (judgements.Ignored causes.Grammar) t = absurd t
  taken_is (judgements.Ignored causes.Label) t = absurd t
  taken_is (judgements.Ignored causes.Again) t = absurd t
  taken_is (judgements.Ignored causes.Source) t = absurd t
  taken_is (judgements.Ignored causes.Login) t = absurd t

  module _ (t : Takes (said (judged_note serial judged)) r) (e : EndsThere past i r) where
    abbrev w : Packet
    w = write_block e.header e.offset e.payload

    abbrev row : Row
    row = row_of (facts_of s.layer generation bytes)

    abbrev layer : Layer Purpose
    layer = (judging_step s.layer generation bytes).1

    abbrev u : InitiatorState
    u = record s { layer = layer }

    one : heard.packet ≡ e.packet
    one = same_Some heard.packet e.packet (sym heard.sent ∙ (ap (terms past).sent (taken_is judged t) ∙ e.sent))

    read : reading bytes ≡ Ok w
    read = ap reading (sym heard.bytes_are ∙ ap (λ (q : Sending). q.bytes) one) ∙ e.spelled

    abbrev Left : Judged → Type 0
    Left j = Takes (said (judged_note serial j)) r

    -- it is found to be that request
    request_row : (x : Row) → Left (received (judged_by x s.layer bytes (Ok w)) bytes empty_outbox s).0 → x ≡ by_request
    request_row by_generation k = absurd k
    request_row by_grammar k = absurd k
    request_row by_label k = absurd k
    request_row by_response k = absurd k
    request_row by_again k = absurd k
    request_row by_request k = refl

    step_is : judging_step s.layer generation bytes ≡ judged_by row s.layer bytes (Ok w)
    unfolding judging_step
    step_is = ap (λ x. judged_by row s.layer bytes x) read

    row_is : row ≡ by_request
    unfolding receive_step
    row_is = request_row row (subst (λ x. Left (received x bytes empty_outbox s).0) step_is t)

    found : (judging_step s.layer generation bytes).0 ≡ of_request w
    found = ap (λ (x : Finding Purpose × Layer Purpose). x.0) step_is ∙ ap (λ x. (judged_by x s.layer bytes (Ok w)).0) row_is

    current : generation ≡ s.layer.generation
    current =
        let f = facts_in s.layer generation bytes (Ok w) in
        let c : (generation == s.layer.generation) ≡ true = current_row f.is_current f.is_for_node f.is_response f.is_awaited f.is_repeated (sym (ap (λ x. row_of (facts_in s.layer generation bytes x)) read) ∙ row_is) in
        grind (arith, nat_tests)

    source : e.header.source ≡ s.target
    source =
        let now : heard.packet.generation ≡ s.layer.generation = heard.generation_is ∙ current in
        heard.source w (ap (λ (q : Sending). reading q.bytes) one ∙ e.spelled)
        ∙ (ap (λ g. (terms past).ids g heard.packet.from) now ∙ (ap ((terms past).ids s.layer.generation) (ap (λ (q : Sending). q.from) one ∙ e.from_is) ∙ shown.named))

    -- the FIFO is open
    own_source : is_foreign w u ≡ false
    own_source = let x = source in let b : (e.header.source == s.target) ≡ true = grind (arith, nat_tests) in ap not b

    requested : Left (request_step w bytes empty_outbox u).0
    unfolding receive_step
    requested = subst (λ f. Left (received (f, layer) bytes empty_outbox s).0) found t

    written : Left (block_at (fifo_of s e.offset) e.payload w bytes empty_outbox u).0
    written = subst (λ b. Left (cond b (ignored_step causes.Source 7 w bytes (empty_outbox, u)) (addressed w bytes empty_outbox u)).0) own_source requested

    opens_by : (f : Option Fifo) → fifo_of s e.offset ≡ f → Left (block_at f e.payload w bytes empty_outbox u).0 → is_open f ≡ true
    opens_by None f k = absurd (fifo_there s.counts.logins (is_out_seat s.seat) e.offset e.fifo f)
    opens_by (Some fifos.Closed) f k = absurd k
    opens_by (Some fifos.Login) f k = refl
    opens_by (Some fifos.Place) f k = refl

    opens : is_open (fifo_of s e.offset) ≡ true
    opens = opens_by (fifo_of s e.offset) refl written

    -- the operation is the one under way
    record IsRunning : Type 0 where
      running : Running
      is : s.operation ≡ Some running
      names : is_orb_of running.managed e.block.orb ≡ true

    own_place : (managed : Option ℕ) → placed managed ≡ Some e.underway.place → is_orb_of managed e.block.orb ≡ true
    own_place None f = none_is e.underway.place f
    own_place (Some m) f =
        let at : place_of m ≡ e.underway.place = same_Some (place_of m) e.underway.place f in
        let names : e.block.orb ≡ start_of (windows.Management (place_of m)) = e.names ∙ ap (λ n. start_of (windows.Management n)) (sym at) in
        (let b : (e.block.orb == start_of (windows.Management (place_of m))) ≡ true = grind (arith, nat_tests) in b)

    running_by : (found : Option Running) → s.operation ≡ found → work_of (Some e.underway) ≡ work_in found → IsRunning
    running_by None f k = some_none _ k
    running_by (Some running) f k =
        let place : cond (is_management e.underway.operation) (Some e.underway.place) None ≡ placed running.managed = ap (λ (x : Work). x.place) (same_Some _ _ k) in
        record { running = running; is = f; names = own_place running.managed (sym place ∙ ap (λ b. cond b (Some e.underway.place) None) e.manages) }

    under_way : IsRunning
    under_way = running_by s.operation refl (ap work_of (sym e.under_way) ∙ ap (λ (x : Core). x.work) cored.core)

    pub ended : (receive_step generation bytes empty_outbox s).1.1.operation ≡ None
    ended =
        (blocks_end.ends s generation bytes under_way.running e.status (record {
          header = e.header;
          offset = e.offset;
          payload = e.payload;
          found = found;
          source = source;
          opens = opens;
          size = e.size;
          block = e.block;
          read = e.read;
          kind = e.kind;
          under_way = under_way.is;
          names = under_way.names;
        })).1
