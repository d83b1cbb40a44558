-- What an initiator tells of its operations and its list as it gets a request is what the laws say: the status block of the management ORB of its operation ends that one, and no other request ends anything.
use Rattle.std.proofs.Common.{[], arith, ◌%◌, ◌&&◌, ◌==◌, ◌^◌, ◌*◌, ◌+◌, ◌≤◌, Bool, Err, List, None, Ok, Option, Result, Some, ap, cond, false, length, nat_le, nat_lt, refl, subst, sym, true, ℕ, ◌∙◌, ◌∷◌, ◌≡◌}
use Rattle.std.proofs.lemmas.Bool.Decides.{nat_tests}
use Rattle.std.specs.Prelude.{slice_index_or, unwrap_or}
use Rattle.async_packet.specs.declared.packet.Header.{Header}
use Rattle.async_packet.specs.Packet.{Packet, lock, lock_response, read_block as reads_block, read_block_response, read_quadlet, read_quadlet_response, write_block, write_quadlet, write_response}
use Rattle.bus_memory.specs.Memory.{place_at}
use Rattle.bus_memory.specs.Windows.{is_fifo}
use Rattle.initiator_base.specs.Places.{is_managed_orb, names_place}
use Rattle.initiator_base.specs.declared.fifos.Fifo.{Fifo}
use Rattle.initiator_base.specs.declared.fifos.Fifo.TheVariants as fifos
use Rattle.label_table.specs.Layer.{answering_step}
use Rattle.media_bay.specs.Unsolicited.{is_block}
use Rattle.orb_layout.specs.Pointers.{offset_at}
use Rattle.orb_layout.specs.StatusBlocks.{is_management as is_management_kind, read_block}
use Rattle.orb_layout.specs.declared.fault.OrbFault.{OrbFault}
use Rattle.orb_layout.specs.declared.status.StatusBlock.{StatusBlock}
use Rattle.orb_layout.specs.declared.status.StatusKind.{StatusKind}
use Rattle.orb_layout.specs.declared.status.StatusKind.TheVariants as kinds
use Rattle.orb_list.specs.Lists.{ListState, drop_lists, take_lists, write_lists}
use Rattle.orb_list.specs.Tickets.{TicketParts}
use Rattle.sbp_base.specs.Quadlets.{quad}
use Rattle.sbp_initiator.specs.Effects.{Turn, managed_step, response_of, told}
use Rattle.sbp_initiator.specs.Receiving.{address_error, addressed, answer_of, block_at, block_by, block_step, called, fifo_of, got_step, ignored_step, is_foreign, managed_for, present_for, quadlet_at, read_as, request_step, respond_step, status_step, taken_as, taken_by, written_as}
use Rattle.sbp_initiator.specs.States.{is_present_orb, place_of, status_in}
use Rattle.sbp_initiator.specs.declared.purpose.Running.{Running}
use Rattle.sbp_initiator.specs.declared.state.InitiatorState.{InitiatorState}
use Rattle.sbp_journal.specs.Addresses.{Access, access_of}
use Rattle.sbp_journal.specs.Outgoings.{empty_outbox}
use Rattle.sbp_journal.specs.declared.cause.Cause.{Cause}
use Rattle.sbp_journal.specs.declared.cause.Cause.TheVariants as causes
use Rattle.sbp_journal.specs.declared.cause.Judged.{Judged}
use Rattle.sbp_journal.specs.declared.cause.Judged.TheVariants as judgements
use Rattle.sbp_journal.specs.declared.note.Note.{Note}
use Rattle.sbp_journal.specs.declared.note.Note.TheVariants as notes
use Rattle.sbp_laws.specs.Hosts.{Host, Underway, is_management}
use Rattle.sbp_laws.specs.Hosts as terms
use Rattle.sbp_laws.specs.JudgementLaw as judging
use Rattle.sbp_laws.specs.JudgementLaw.{is_managed}
use Rattle.sbp_laws.specs.Operations.{End, end_by_write, end_notes, ends_by_block, ends_by_status, is_of, names_management, status_ends, told_status}
use Rattle.sbp_session.specs.Seats.{is_out_seat}
use Rattle.sbp_world.proofs.Hosts.Answering.{asks_block, asks_quadlet, locks, writes_block}
use Rattle.sbp_world.proofs.Hosts.Statuses.Blocks.{command_is, is_read_by, managed_kind}
use Rattle.sbp_world.specs.Hosts.Core.{placed, work_in, work_of}
use Rattle.sbp_world.specs.Sessions.Holding.{AreBuffers}
use Rattle.sbp_world.proofs.Common.{and_first, and_second, untrue}
use Rattle.turn_laws.proofs.HostFacts.{AtFifo, fifo_is, managed_same, none_there, open_test, place_by}
use Rattle.turn_laws.proofs.OwnEnds.{Says, own}
use Rattle.turn_laws.proofs.OwnFacts.{operation_same}
use Rattle.turn_laws.proofs.OwnNotes.{Ops, end_kept}
use Rattle.turn_laws.proofs.OwnStates.{status_due}

-- an answer tells nothing
pub answer_silent : (p : Packet) (bytes : List ℕ) (rcode : ℕ) (given : List ℕ) (turn : Turn) → (respond_step p bytes rcode given turn).0.sides ≡ turn.0.sides
unfolding answering_step
answer_silent p bytes rcode given turn = refl

-- ---- the blocks that name no management ORB

-- the unsolicited one
first_zero : (a b : ℕ) → (a == 0x85000000) ≡ true → (b == 0) ≡ true → is_managed_orb (a % 2 ^ 16 * 2 ^ 32 + b) ≡ false
first_zero a b e f =
    let x : a ≡ 0x85000000 = grind (arith, nat_tests) in
    let y : b ≡ 0 = grind (arith, nat_tests) in
    ap (λ n. is_managed_orb (n % 2 ^ 16 * 2 ^ 32 + b)) x ∙ ap (λ n. is_managed_orb (0x85000000 % 2 ^ 16 * 2 ^ 32 + n)) y

three : (a b c d : Bool) → (a && b && c && d) ≡ true → (b ≡ true) × (c ≡ true)
three true true true d e = (refl, refl)
three false b c d e = untrue e
three true false c d e = untrue e
three true true false d e = untrue e

unsolicited_free : (payload : List ℕ) → is_block payload ≡ true → is_managed_orb (offset_at payload 0) ≡ false
unsolicited_free payload e =
    let k = three (length payload == 24) (quad payload 0 == 0x85000000) (quad payload 4 == 0x00000000) (quad payload 8 == 0x02062800) e in first_zero (quad payload 0) (quad payload 4) k.0 k.1

-- a payload that is read names one where its address is one
short_fault : {A : Type 0} (c : Bool) (fault : OrbFault) (rest : Result StatusBlock OrbFault) (block : StatusBlock) → c ≡ true → cond c (Err fault) rest ≡ Ok block → A
short_fault true fault rest block e f = absurd (let no : Err fault ≡ Ok block = f in cc)
short_fault false fault rest block e f = untrue e

short_read : {A : Type 0} (payload : List ℕ) (block : StatusBlock) (named : Bool) → nat_lt (length payload) 8 ≡ true → read_block named payload ≡ Ok block → A
short_read payload block named short read = short_fault (nat_lt (length payload) 8) _ _ block short read

long_by : (payload : List ℕ) (block : StatusBlock) (named long : Bool) → nat_le 8 (length payload) ≡ long → (long && is_managed_orb (offset_at payload 0)) ≡ false → read_block named payload ≡ Ok block → is_managed_orb (offset_at payload 0) ≡ false
long_by payload block named true f g read = g
long_by payload block named false f g read = short_read payload block named (let short : nat_lt (length payload) 8 ≡ true = grind (arith, nat_tests) in short) read

long_enough : (payload : List ℕ) (block : StatusBlock) (named : Bool) → names_place payload ≡ false → read_block named payload ≡ Ok block → is_managed_orb (offset_at payload 0) ≡ false
long_enough payload block named e read = long_by payload block named (nat_le 8 (length payload)) refl e read

module _ (s : InitiatorState) (host : Host) (present : Option ℕ) (work : work_of host.operation ≡ work_in s.operation) (drops : (drop_lists s.lists).0 ≡ present) (buffers : AreBuffers host.responses s.lists.memory) (few : s.counts.logins ≤ 2 ^ 32) (bytes : List ℕ) where
  -- what the laws say where the packet is got, and where it is ignored
  abbrev pub Expected : Access → Judged → List Note
  Expected access judgements.Got = end_notes s.number (end_by_write host (Some access)) present
  Expected access (judgements.Ignored cause) = []

  pub record Tells (access : Access) (r : Judged × Turn) : Type 0 where
    pub told_notes : List Note
    pub sides : r.1.0.sides ≡ own told_notes
    pub are : Ops told_notes ≡ Expected access r.0

  nothing_by : (access : Access) (p : Packet) (judged : Judged) (rcode : ℕ) (given : List ℕ) (t : Turn) → t.0.sides ≡ [] → Expected access judged ≡ [] → Tells access (judged, respond_step p bytes rcode given t)
  nothing_by access p judged rcode given t e f = record { told_notes = []; sides = answer_silent p bytes rcode given t ∙ e; are = sym f }

  no_end : (access : Access) → end_by_write host (Some access) ≡ None → Expected access judgements.Got ≡ []
  no_end access e = ap (λ x. end_notes s.number x present) e

  -- ---- a block that is read
  abbrev response : List ℕ
  response = terms.response_of host

  fault_none : (u : Option Underway) (fault : OrbFault) → ends_by_block u (Err fault) response ≡ None
  fault_none None fault = refl
  fault_none (Some underway) fault = refl

  block_none : (u : Option Underway) (block : StatusBlock) → is_managed u block ≡ false → ends_by_block u (Ok block) response ≡ None
  block_none None block e = refl
  block_none (Some underway) block e = ap (λ b. cond b (ends_by_status (told_status block.kind) underway.operation response) None) e

  free_none : (payload : List ℕ) → is_managed_orb (offset_at payload 0) ≡ false → ends_by_block host.operation (read_block true payload) response ≡ None
  free_none payload e = by (read_block true payload) refl
    where
      by : (r : Result StatusBlock OrbFault) → read_block true payload ≡ r → ends_by_block host.operation r response ≡ None
      by (Err fault) f = fault_none host.operation fault
      by (Ok block) f =
          block_none host.operation block
          (managed_same block host.operation s.operation work ∙ none_there block s.operation (ap names_management (is_read_by true payload block f).orb ∙ e))

  either_none : (b : Bool) (x : Option End) → x ≡ None → cond b x None ≡ None
  either_none true x e = e
  either_none false x e = refl

  -- ---- the block of the operation under way
  response_is : (underway : Underway) (running : Running) (m : Option ℕ) → host.operation ≡ Some underway → is_management underway.operation ≡ true → cond (is_management underway.operation) (Some underway.place) None ≡ placed m → running.managed ≡ m → response ≡ response_of running s
  response_is underway running None at e f g = absurd (let no : Some underway.place ≡ None = sym (ap (λ b. cond b (Some underway.place) None) e) ∙ f in cc)
  response_is underway running (Some m) at e f g =
      let place : Some underway.place ≡ Some (place_of m) = sym (ap (λ b. cond b (Some underway.place) None) e) ∙ f in
      let place_is : underway.place ≡ place_of m = cc in
      ap (λ u. slice_index_or host.responses (terms.place_in u) []) at
      ∙ ap (λ n. slice_index_or host.responses n []) place_is
      ∙ buffers.each (place_of m) (omega arith)
      ∙ ap (λ (x : Option ℕ). (place_at s.lists.memory (place_of (unwrap_or x 0))).response) (sym g)

  -- what is told as it comes, where it is of the operation, or not
  abbrev StatusTells : Bool → Underway → StatusBlock → (status : ℕ) → Access → Packet → Type 0
  StatusTells b underway block status access p =
      block.kind ≡ kinds.Management status → end_by_write host (Some access) ≡ cond b (ends_by_status (told_status block.kind) underway.operation response) None → Tells access (managed_for (cond b s.operation None) status p bytes empty_outbox s)

  abbrev IsUnderWay : Underway → Running → Type 0
  IsUnderWay underway running = work_of (Some underway) ≡ work_in (Some running)

  status_by : (b : Bool) (underway : Underway) (running : Running) (block : StatusBlock) (status : ℕ) (access : Access) (p : Packet)
      → host.operation ≡ Some underway → s.operation ≡ Some running → IsUnderWay underway running → is_of underway block ≡ b → StatusTells b underway block status access p
  status_by false underway running block status access p at is same e kind law = nothing_by access p (judgements.Ignored _) 0 [] (empty_outbox, s) refl refl
  status_by true underway running block status access p at is same e kind law =
      let manages : is_management underway.operation ≡ true = and_first (is_management underway.operation) _ e in
      let operation_is : underway.operation ≡ running.operation = operation_same underway running same in
      let responses = response_is underway running running.managed at manages (ap place_by same) refl in
      let end_is : end_by_write host (Some access) ≡ status_ends running.operation status (response_of running s) =
      law ∙ ap (λ k. ends_by_status (told_status k) underway.operation response) kind ∙ ap (λ x. status_ends x status response) operation_is ∙ ap (status_ends running.operation status) responses in
      let t = managed_step running status empty_outbox (called s) in
      let says : Says empty_outbox t (end_notes s.number (status_ends running.operation status (response_of running s)) present) = status_due running (called s) present empty_outbox drops (ap is_management (sym operation_is) ∙ manages) status in
      subst (λ (r : Option Running). Tells access (managed_for r status p bytes empty_outbox s)) (sym is)
      (record {
        told_notes = end_notes s.number (status_ends running.operation status (response_of running s)) present;
        sides = answer_silent p bytes 0 [] t ∙ says;
        are = end_kept s.number (status_ends running.operation status (response_of running s)) present ∙ ap (λ x. end_notes s.number x present) (sym end_is);
      })

  -- and whatever is under way
  abbrev BlockTells : Option Underway → StatusBlock → (status : ℕ) → Access → Packet → Type 0
  BlockTells u block status access p = end_by_write host (Some access) ≡ ends_by_block u (Ok block) response → Tells access (managed_for (present_for block.orb s.operation) status p bytes empty_outbox s)

  status_for : (u : Option Underway) (r : Option Running) (block : StatusBlock) (status : ℕ) (access : Access) (p : Packet)
      → host.operation ≡ u → s.operation ≡ r → work_of u ≡ work_in r → block.kind ≡ kinds.Management status → BlockTells u block status access p
  status_for None None block status access p at is same kind law =
      subst (λ (r : Option Running). Tells access (managed_for (present_for block.orb r) status p bytes empty_outbox s)) (sym is) (nothing_by access p (judgements.Ignored _) 0 [] (empty_outbox, s) refl refl)
  status_for None (Some running) block status access p at is same kind law = absurd (let no : None ≡ Some _ = same in cc)
  status_for (Some underway) None block status access p at is same kind law = absurd (let no : Some _ ≡ None = same in cc)
  status_for (Some underway) (Some running) block status access p at is same kind law =
      let b = is_of underway block in
      let there : is_present_orb block.orb s.operation ≡ b = ap (is_present_orb block.orb) is ∙ sym (managed_same block (Some underway) (Some running) same) in
      subst (λ c. Tells access (managed_for (cond c s.operation None) status p bytes empty_outbox s)) (sym there)
      (status_by b underway running block status access p at is same refl kind law)

  -- ---- a block that is written to an open FIFO
  module _ (header : Header) (offset : ℕ) (payload : List ℕ) where
    abbrev w : Packet
    w = write_block header offset payload

    abbrev access : Access
    access = writes_block offset payload

    abbrev Here : Judged × Turn → Type 0
    Here r = Tells access r

    law_is : (b : Bool) → is_fifo offset ≡ b → end_by_write host (Some access) ≡ cond b (ends_by_block host.operation (read_block true payload) response) None
    law_is b e = ap (λ c. cond c (ends_by_block host.operation (read_block true payload) response) None) e

    free_end : is_managed_orb (offset_at payload 0) ≡ false → Expected access judgements.Got ≡ []
    free_end e = no_end access (law_is (is_fifo offset) refl ∙ either_none (is_fifo offset) _ (free_none payload e))

    -- a status of a command
    taken : (r : Option TicketParts × ListState) (kind : StatusKind) → is_managed_orb (offset_at payload 0) ≡ false → Here (taken_as r kind w bytes empty_outbox s)
    taken (None, lists) kind e = nothing_by access w (judgements.Ignored _) 0 [] (empty_outbox, record s { lists = lists }) refl refl
    taken (Some t, lists) kind e = record {
      told_notes = notes.Taken s.number t.list t.number kind (answer_of kind lists t.slot) ∷ [];
      sides = answer_silent w bytes 0 [] (taken_by t lists kind empty_outbox (called s));
      are = sym (free_end e);
    }

    command_by : (kind : StatusKind) (block : StatusBlock) → is_management_kind kind ≡ false → is_managed_orb (offset_at payload 0) ≡ false → Here (block_by kind block w bytes empty_outbox s)
    command_by (kinds.Management status) block k e = untrue (sym k)
    command_by kinds.Good block k e = taken (take_lists s.lists block) kinds.Good e
    command_by (kinds.Check sense) block k e = taken (take_lists s.lists block) (kinds.Check sense) e
    command_by kinds.Dummy block k e = taken (take_lists s.lists block) kinds.Dummy e
    command_by kinds.Aborted block k e = taken (take_lists s.lists block) kinds.Aborted e
    command_by (kinds.Illegal meaning) block k e = taken (take_lists s.lists block) (kinds.Illegal meaning) e
    command_by kinds.Failed block k e = taken (take_lists s.lists block) kinds.Failed e

    module _ (at_fifo : is_fifo offset ≡ true) where
      block_by_name : (named : Bool) → names_place payload ≡ named → (r : Result StatusBlock OrbFault) → read_block named payload ≡ r → Here (block_step r w bytes empty_outbox s)
      block_by_name named e (Err fault) f = nothing_by access w (judgements.Ignored _) _ [] (empty_outbox, s) refl refl
      block_by_name false e (Ok block) f = command_by block.kind block (command_is payload block f) (long_enough payload block false e f)
      block_by_name true e (Ok block) f =
          let m = managed_kind payload block f in
          subst (λ k. Here (block_by k block w bytes empty_outbox s)) (sym m.is)
          (status_for host.operation s.operation block m.code access w refl refl work m.is
          (law_is true at_fifo ∙ ap (λ r. ends_by_block host.operation r response) f))

      abbrev unsolicited_got : Judged × Turn
      unsolicited_got = got_step w bytes (told empty_outbox (notes.Told s.number), called s)

      status_tells : (is_login : Bool) (b : Bool) → (is_login && is_block payload) ≡ b → Here (status_step is_login payload w bytes empty_outbox s)
      status_tells is_login false e =
          subst (λ c. Here (cond c unsolicited_got (block_step (status_in payload) w bytes empty_outbox s))) (sym e)
          (block_by_name (names_place payload) refl (status_in payload) refl)
      status_tells is_login true e =
          subst (λ c. Here (cond c unsolicited_got (block_step (status_in payload) w bytes empty_outbox s))) (sym e)
          (record {
            told_notes = notes.Told s.number ∷ [];
            sides = answer_silent w bytes 0 [] (told empty_outbox (notes.Told s.number), called s);
            are = sym (free_end (unsolicited_free payload (and_second is_login (is_block payload) e)));
          })

    -- where it goes
    fifo_tells : (fifo : Option Fifo) (l o : Bool) → AtFifo fifo (is_fifo offset) l o → Here (block_at fifo payload w bytes empty_outbox s)
    fifo_tells None l o at = writes_tell (write_lists s.lists offset payload)
      where
        writes_tell : (r : ℕ × ListState) → Here (written_as r w bytes empty_outbox s)
        writes_tell (rcode, lists) = nothing_by access w judgements.Got rcode [] (empty_outbox, record (called s) { lists = lists }) refl (no_end access (law_is false at.0))
    fifo_tells (Some fifos.Closed) l o at = nothing_by access w (judgements.Ignored _) _ [] (empty_outbox, s) refl refl
    fifo_tells (Some fifos.Login) l o at = status_tells at.0 true (true && is_block payload) refl
    fifo_tells (Some fifos.Place) l o at = status_tells at.0 false (false && is_block payload) refl

    pub block_tells : Here (addressed w bytes empty_outbox s)
    block_tells = fifo_tells (fifo_of s offset) (judging.is_login_fifo offset) (open_test s.counts.logins (is_out_seat s.seat) offset) (fifo_is s.counts.logins (is_out_seat s.seat) offset few)

  -- ---- every other request
  module _ (p : Packet) (access : Access) (none : end_by_write host (Some access) ≡ None) where
    read_tells : (r : ℕ × List ℕ) → Tells access (read_as r p bytes empty_outbox s)
    read_tells (rcode, out) = nothing_by access p judgements.Got rcode out (empty_outbox, called s) refl (no_end access none)

    written_tells : (r : ℕ × ListState) → Tells access (written_as r p bytes empty_outbox s)
    written_tells (rcode, lists) = nothing_by access p judgements.Got rcode [] (empty_outbox, record (called s) { lists = lists }) refl (no_end access none)

    unserved_tells : Tells access (judgements.Got, respond_step p bytes 6 [] (empty_outbox, called s))
    unserved_tells = nothing_by access p judgements.Got 6 [] (empty_outbox, called s) refl (no_end access none)

    shut_tells : (cause : Cause) (rcode : ℕ) → Tells access (judgements.Ignored cause, respond_step p bytes rcode [] (empty_outbox, s))
    shut_tells cause rcode = nothing_by access p (judgements.Ignored cause) rcode [] (empty_outbox, s) refl refl

  quadlet_tells : (header : Header) (offset value : ℕ) (access : Access) → end_by_write host (Some access) ≡ None → (fifo : Option Fifo) → Tells access (quadlet_at fifo (write_quadlet header offset value) bytes empty_outbox s)
  quadlet_tells header offset value access none None = written_tells (write_quadlet header offset value) access none _
  quadlet_tells header offset value access none (Some fifos.Closed) = shut_tells (write_quadlet header offset value) access none _ _
  quadlet_tells header offset value access none (Some fifos.Login) = written_tells (write_quadlet header offset value) access none _
  quadlet_tells header offset value access none (Some fifos.Place) = written_tells (write_quadlet header offset value) access none _

  none_access : {A : Type 0} {access : Access} → None ≡ Some access → A
  none_access e = absurd (differ e)
    where
      differ : {access : Access} → None ≡ Some access → ⊥
      differ e = cc

  address_tells : (p : Packet) (access : Access) → access_of p ≡ Some access → Tells access (addressed p bytes empty_outbox s)
  address_tells (write_block header offset payload) access e = subst (λ a. Tells a (addressed (write_block header offset payload) bytes empty_outbox s)) (let same : Some (writes_block offset payload) ≡ Some access = e in cc) (block_tells header offset payload)
  address_tells (write_quadlet header offset value) access e =
      subst (λ a. Tells a (addressed (write_quadlet header offset value) bytes empty_outbox s)) (let same : Some (asks_quadlet true offset) ≡ Some access = e in cc) (quadlet_tells header offset value (asks_quadlet true offset) refl (fifo_of s offset))
  address_tells (read_quadlet header offset) access e =
      subst (λ a. Tells a (addressed (read_quadlet header offset) bytes empty_outbox s)) (let same : Some (asks_quadlet false offset) ≡ Some access = e in cc) (read_tells (read_quadlet header offset) (asks_quadlet false offset) refl _)
  address_tells (reads_block header offset asked) access e =
      subst (λ a. Tells a (addressed (reads_block header offset asked) bytes empty_outbox s)) (let same : Some (asks_block offset asked) ≡ Some access = e in cc) (read_tells (reads_block header offset asked) (asks_block offset asked) refl _)
  address_tells (lock header offset extended payload) access e =
      subst (λ a. Tells a (addressed (lock header offset extended payload) bytes empty_outbox s)) (let same : Some (locks offset (length payload)) ≡ Some access = e in cc) (unserved_tells (lock header offset extended payload) (locks offset (length payload)) refl)
  address_tells (write_response header rcode) access e = none_access e
  address_tells (read_quadlet_response header rcode value) access e = none_access e
  address_tells (read_block_response header rcode payload) access e = none_access e
  address_tells (lock_response header rcode extended payload) access e = none_access e

  pick_tells : (a : Access) (b : Bool) (x y : Judged × Turn) → Tells a x → Tells a y → Tells a (cond b x y)
  pick_tells a true x y h k = h
  pick_tells a false x y h k = k

  pub request_tells : (p : Packet) (a : Access) → access_of p ≡ Some a → Tells a (request_step p bytes empty_outbox s)
  request_tells p a e =
      pick_tells a (is_foreign p s) (ignored_step causes.Source address_error p bytes (empty_outbox, s)) (addressed p bytes empty_outbox s)
      (nothing_by a p (judgements.Ignored causes.Source) address_error [] (empty_outbox, s) refl refl) (address_tells p a e)
