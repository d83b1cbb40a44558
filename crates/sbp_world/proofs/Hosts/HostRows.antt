-- The rows of an initiator's slots, for a statement that lines carry on.
use Rattle.sbp_world.proofs.Words.Std.{◌≡◌, refl, sym, ◌∙◌, ap, subst, ℕ, suc, ◌==◌, not, false, true, List, [], ◌∷◌, Option, Some, None, Ok}
use Rattle.sbp_world.proofs.Words.Wire.{LabelParts, Packet, lock, lock_response, read_block, read_block_response, read_quadlet, read_quadlet_response, write_block, write_quadlet, write_response, reading, Finding, judging_step, of_again, of_generation, of_grammar, of_label, of_request, of_response, seeing_step, judged_note, OutboxState, empty_outbox, Moment, said, Sending, terms, Action, Event, Note, Outgoing, Side}
use Rattle.sbp_world.proofs.Words.Initiator.{names_place, acts, lets_expire, receives, sees, src_of, StatusBlock, act_step, Turn, expire_step, receive_step, see_step, status_in, Purpose, InitiatorState}
use Rattle.sbp_world.proofs.Words.Laws.{src_in, access_in, packet_in, spelled_by, event_of}
use Rattle.sbp_world.proofs.Words.World.{Listed, MayFind, MayPacket, Pinned, behind, AreRows, IsNoAbort, MayTake, is_beside, IsHost}
use Rattle.orb_list.specs.Table as table
use Rattle.sbp_journal.specs.declared.event.Action.TheVariants as actions
use Rattle.sbp_journal.specs.declared.event.Event.TheVariants as events
use Rattle.sbp_journal.specs.declared.note.Note.TheVariants as notes
use Rattle.sbp_journal.specs.declared.operation.Operation.TheVariants as operations
use Rattle.sbp_journal.specs.declared.side.Side.TheVariants as sides
use Rattle.sbp_world.specs.Hosts.Calls.{by_side}
use Rattle.sbp_world.proofs.Hosts.Aborts.{Requests, abort_requests}
use Rattle.sbp_world.proofs.Hosts.Acts.{act_left}
use Rattle.sbp_world.proofs.Hosts.Answering.{request_of}
use Rattle.sbp_world.proofs.Hosts.Beside.{beside_rests, pin_told, sent_rests}
use Rattle.sbp_world.proofs.Hosts.Brings.{src_read, told_got}
use Rattle.sbp_world.proofs.Hosts.Carries.{Does, IsLineOf, IsNoAct, Tells, is_apart}
use Rattle.sbp_world.proofs.Hosts.Hears.{expire_listed, receive_listed}
use Rattle.sbp_world.proofs.Hosts.Liners.{host_listed, number_call, silent}
use Rattle.sbp_world.proofs.Hosts.Passes.{judged_apart}
use Rattle.sbp_world.proofs.Hosts.Sees.{sees_listed}
use Rattle.sbp_world.proofs.Hosts.Shown.{IsHeard}
use Rattle.sbp_world.proofs.Sessions.BlockNotes.{gets_sent as sent_stays}

-- ---- notes of others

apart_beside : (note : Note) (i : ℕ) → is_apart i note ≡ true → is_beside i note ≡ true
apart_beside (notes.Append j n k cdb buffer) i e = e
apart_beside (notes.Low j n k) i e = e
apart_beside (notes.Linked j n k) i e = e
apart_beside (notes.Taken j n k status answer) i e = e
apart_beside (notes.Drop j n) i e = e
apart_beside (notes.Sent serial generation from to bytes) i e = e
apart_beside (notes.Seen node generation) i e = e
apart_beside (notes.Dummied j n k) i e = refl
apart_beside (notes.Op j operations.Abort word) i e = e
apart_beside (notes.Op j operations.Rom word) i e = refl
apart_beside (notes.Op j operations.Login word) i e = refl
apart_beside (notes.Op j operations.Query word) i e = refl
apart_beside (notes.Op j operations.Reconnect word) i e = refl
apart_beside (notes.Op j operations.Logout word) i e = refl
apart_beside (notes.Op j operations.AbortSet word) i e = refl
apart_beside (notes.Op j operations.UnitReset word) i e = refl
apart_beside (notes.Op j operations.TargetReset word) i e = refl
apart_beside (notes.Op j operations.AgentReset word) i e = refl
apart_beside (notes.Op j operations.State word) i e = refl
apart_beside (notes.Op j operations.Enable word) i e = refl
apart_beside (notes.Begin initiators ready) i e = refl
apart_beside (notes.Rung j n k) i e = refl
apart_beside (notes.Injected serial) i e = refl
apart_beside (notes.Got serial) i e = refl
apart_beside (notes.Ignored serial cause) i e = refl
apart_beside (notes.Lost serial) i e = refl
apart_beside (notes.TimedOut serial) i e = refl
apart_beside (notes.Ran j n k at cdb bytes check) i e = refl
apart_beside (notes.Ended j n k status) i e = refl
apart_beside (notes.Cut j n cause) i e = refl
apart_beside (notes.Dead j n cause) i e = refl
apart_beside (notes.Managed j word subject status login) i e = refl
apart_beside (notes.ManageFailed j cause) i e = refl
apart_beside (notes.Held id) i e = refl
apart_beside (notes.Expired id) i e = refl
apart_beside (notes.Back id) i e = refl
apart_beside (notes.Left id) i e = refl
apart_beside (notes.Cleared at) i e = refl
apart_beside (notes.Stuck j) i e = refl
apart_beside (notes.Reset generation) i e = refl
apart_beside notes.Tick i e = refl
apart_beside (notes.Refused line number) i e = refl
apart_beside notes.Settled i e = refl
apart_beside notes.Stopped i e = refl
apart_beside (notes.Key at) i e = refl
apart_beside (notes.Unsolicited j) i e = refl
apart_beside (notes.Unsent j) i e = refl
apart_beside (notes.Told j) i e = refl

pub host_apart : (note : Note) (past : List Moment) (i : ℕ) (s : InitiatorState) → is_apart i note ≡ true → IsHost past i s → IsHost (said note ∷ past) i s
host_apart note past i s e h = record { number = h.number; rows = beside_rests past i s.lists.slots h.rows note (apart_beside note i e); pin = h.pin }

-- a line that is no action is no abort
pub no_abort : (event : Option Event) (i : ℕ) → IsNoAct i event → IsNoAbort i event
no_abort None i n = tt
no_abort (Some (events.Act j (actions.Abort k))) i n = n
no_abort (Some event) i n = tt

pub host_sent : (serial generation from to : ℕ) (bytes : List ℕ) (past : List Moment) (i : ℕ) (s : InitiatorState) → IsNoAbort i (event_of past) → IsHost past i s → IsHost (said (notes.Sent serial generation from to bytes) ∷ past) i s
host_sent serial generation from to bytes past i s n h = record { number = h.number; rows = sent_rests past i s.lists.slots h.rows serial generation from to bytes n; pin = h.pin }

-- ---- what a call tells

module _ (past : List Moment) (i : ℕ) (t : Turn) (number : t.1.number ≡ i) (h : Listed past t) where
  own_host : IsHost (behind t.0.sides past) i t.1
  own_host = record { number = number; rows = subst (λ j. AreRows (behind t.0.sides past) j t.1.lists.slots) number h.rows; pin = h.pin }

  other_host : (j : ℕ) (x : InitiatorState) → (j == i) ≡ false → IsHost past j x → IsHost (behind t.0.sides past) j x
  other_host j x e k = record { number = k.number; rows = h.beside j x.lists.slots (ap (λ n. j == n) number ∙ e) k.rows; pin = k.pin }

  listed_tells : Tells IsHost past i t
  listed_tells = record { own = own_host; others = other_host }

-- a packet that it hears
module _ (past : List Moment) (i serial generation : ℕ) (bytes : List ℕ) (s : InitiatorState) (heard : IsHeard past i serial generation bytes) where
  abbrev t : Turn
  t = (receive_step generation bytes empty_outbox s).1

  abbrev judged : Note
  judged = judged_note serial (receive_step generation bytes empty_outbox s).0

  packet_is : (p : Packet) → reading bytes ≡ Ok p → packet_in ((terms (said (notes.Got serial) ∷ past)).sent serial) ≡ Some p
  packet_is p read =
      ap (λ (x : ℕ → Option Sending). packet_in (x serial)) (sent_stays ((terms past).sent serial) serial (terms past))
      ∙ (ap packet_in heard.sent ∙ ap spelled_by (ap reading heard.bytes_are ∙ read))

  may_take : (p : Packet) (payload : List ℕ) (block : StatusBlock) (side : Side) → src_in (access_in (Some p)) ≡ src_of payload → (judging_step s.layer generation bytes).0 ≡ of_request p → status_in payload ≡ Ok block → t.0.sides ≡ side ∷ [] → MayTake (said judged ∷ past) block
  may_take p payload block side src e read told =
      subst (λ j. MayTake (said (judged_note serial j) ∷ past) block) (sym (told_got generation bytes s p side e told))
      (ap (λ x. src_in (access_in x)) (packet_is p (request_of s.layer generation bytes p e).read) ∙ (src ∙ src_read (names_place payload) payload block read))

  may_packet : (p : Packet) → (judging_step s.layer generation bytes).0 ≡ of_request p → MayPacket (said judged ∷ past) p empty_outbox s t
  may_packet (write_block header offset payload) e = λ block u answer read took told. may_take (write_block header offset payload) payload block (sides.Own (notes.Taken s.number u.list u.number block.kind answer)) refl e read told
  may_packet (write_quadlet header offset value) e = tt
  may_packet (read_quadlet header offset) e = tt
  may_packet (read_block header offset asked) e = tt
  may_packet (lock header offset extended payload) e = tt
  may_packet (write_response header rcode) e = tt
  may_packet (read_quadlet_response header rcode value) e = tt
  may_packet (read_block_response header rcode payload) e = tt
  may_packet (lock_response header rcode extended payload) e = tt

  may_find : (f : Finding Purpose) → (judging_step s.layer generation bytes).0 ≡ f → MayFind (said judged ∷ past) f empty_outbox s t
  may_find of_generation e = tt
  may_find of_grammar e = tt
  may_find of_label e = tt
  may_find (of_response p label purpose) e = tt
  may_find (of_again p rcode) e = tt
  may_find (of_request p) e = may_packet p e

  pub host_hears : IsHost past i s → Tells IsHost (said judged ∷ past) i t
  host_hears h =
      let k = host_apart judged past i s (judged_apart serial (receive_step generation bytes empty_outbox s).0 i) h in
      listed_tells (said judged ∷ past) i t (number_call (receives generation bytes) (empty_outbox, s) tt ∙ h.number)
      (receive_listed (said judged ∷ past) generation bytes empty_outbox s (may_find (judging_step s.layer generation bytes).0 refl) (host_listed (said judged ∷ past) i s k))

pub host_expires : (serial : ℕ) (label : LabelParts) (past : List Moment) (i : ℕ) (s : InitiatorState) → IsHost past i s → Tells IsHost (said (notes.TimedOut serial) ∷ past) i (expire_step label empty_outbox s).1
host_expires serial label past i s h =
    let now = said (notes.TimedOut serial) ∷ past in
    listed_tells now i (expire_step label empty_outbox s).1 (number_call (lets_expire label) (empty_outbox, s) tt ∙ h.number)
    (expire_listed now label empty_outbox s (host_listed now i s (host_apart (notes.TimedOut serial) past i s refl h)))

pub host_stale : (label : LabelParts) (past : List Moment) (i : ℕ) (s : InitiatorState) → (expire_step label empty_outbox s).0 ≡ false → IsHost past i s → IsHost past i (expire_step label empty_outbox s).1.1
host_stale label past i s e h =
    let x = (expire_step label empty_outbox s).1 in
    let own = (listed_tells past i x (number_call (lets_expire label) (empty_outbox, s) tt ∙ h.number) (expire_listed past label empty_outbox s (host_listed past i s h))).own in
    subst (λ (o : OutboxState). IsHost (behind o.sides past) i x.1) (silent past 0 0 label s e) own

pub host_sees : (generation id target : ℕ) (past : List Moment) (i : ℕ) (s : InitiatorState) → (seeing_step s.layer generation id).0 ≡ not (generation == (terms past).generation (suc i)) → IsHost past i s → Tells IsHost (said (notes.Seen (suc i) generation) ∷ past) i (see_step generation id target empty_outbox s)
host_sees generation id target past i s e h =
    let t = see_step generation id target empty_outbox s in
    listed_tells (said (notes.Seen (suc i) generation) ∷ past) i t (number_call (sees generation id target) (empty_outbox, s) tt ∙ h.number)
    (subst (λ j. Listed (said (notes.Seen (suc j) generation) ∷ past) t) h.number
    (sees_listed past generation id target s (subst (λ j. (seeing_step s.layer generation id).0 ≡ not (generation == (terms past).generation (suc j))) (sym h.number) e) (host_listed past i s h)))

-- ---- an action

-- what is told is of its line
pub line_behind : (told : List Side) (past : List Moment) → event_of (behind told past) ≡ event_of past
line_behind [] past = refl
line_behind (side ∷ told) past = line_behind told (by_side side past) ∙ one_side side
  where
    one_side : (side : Side) → event_of (by_side side past) ≡ event_of past
    one_side (sides.Own note) = refl
    one_side (sides.Opened place orb) = refl
    one_side (sides.Ran place orb cdb payload outcome) = refl
    one_side (sides.Ended place orb status) = refl
    one_side (sides.Dead place cause) = refl
    one_side (sides.Cut place cause) = refl
    one_side (sides.Managed node function subject status login) = refl
    one_side (sides.ManageFailed node cause) = refl
    one_side (sides.Held login) = refl
    one_side (sides.Expired login) = refl
    one_side (sides.Back login) = refl
    one_side (sides.Left login) = refl
    one_side (sides.Cleared unit) = refl
    one_side (sides.Unsolicited place) = refl
    one_side (sides.Unsent place) = refl

module _ (past : List Moment) (i : ℕ) (s : InitiatorState) (h : IsHost past i s) where
  -- one that is no abort
  listed_does : (t : Turn) → t.1.number ≡ i → Listed past t → IsNoAbort i (event_of past) → Does IsHost past i t
  listed_does t number l n =
      let tells = listed_tells past i t number l in
      record {
        others = tells.others;
        quiet = λ none. tells.own;
        asking = λ packet one serial generation f q. host_sent serial generation (suc i) 0 packet.bytes (behind t.0.sides past) i t.1 (subst (IsNoAbort i) (sym (line_behind t.0.sides past)) n) tells.own;
      }

  -- an abort
  module _ (k : ℕ) (t : Turn) (line : event_of past ≡ Some (events.Act i (actions.Abort k))) (number : t.1.number ≡ i) (l : Pinned k empty_outbox s t) (asks : Requests s t.0) where
    no_packets : (packet : Outgoing) → packet ∷ [] ≡ [] → ⊥
    no_packets packet e = cc

    aborted : (serial generation : ℕ) (bytes : List ℕ) → IsHost (said (notes.Sent serial generation (suc i) 0 bytes) ∷ past) i t.1
    aborted serial generation bytes = record {
      number = number;
      rows = subst (AreRows (said (notes.Sent serial generation (suc i) 0 bytes) ∷ past) i) (sym l.table_is)
          (pin_told past i s.lists.slots h.rows serial generation 0 bytes l.ticket (line ∙ ap (λ n. Some (events.Act i (actions.Abort n))) (sym l.numbered)) l.none (ap (table.find_in s.lists.slots.slots) l.numbered ∙ l.found));
      pin = l.operation;
    }

    abort_does : Does IsHost past i t
    abort_does = record {
      others = λ j x e g. subst (λ told. IsHost (behind told past) j x) (sym l.silent) g;
      quiet = λ none. absurd (no_packets asks.packet (sym (ap (λ (o : OutboxState). o.packets) asks.is) ∙ none));
      asking = λ packet one serial generation f q. subst (λ told. IsHost (said (notes.Sent serial generation (suc i) 0 packet.bytes) ∷ behind told past) i t.1) (sym l.silent) (aborted serial generation packet.bytes);
    }

  acts_number : (action : Action) → IsLineOf action → (act_step action empty_outbox s).1.1.number ≡ i
  acts_number action fit = number_call (acts action) (empty_outbox, s) fit.0 ∙ h.number

  plain_does : (action : Action) → IsLineOf action → Listed past (act_step action empty_outbox s).1 → event_of past ≡ Some (events.Act i action) → IsNoAbort i (Some (events.Act i action)) → Does IsHost past i (act_step action empty_outbox s).1
  plain_does action fit l line n = listed_does (act_step action empty_outbox s).1 (acts_number action fit) l (subst (IsNoAbort i) (sym line) n)

  pub host_acts : (action : Action) → event_of past ≡ Some (events.Act i action) → IsLineOf action → (act_step action empty_outbox s).0 ≡ None → Does IsHost past i (act_step action empty_outbox s).1
  host_acts (actions.Abort k) line fit done =
      abort_does k (act_step (actions.Abort k) empty_outbox s).1 line (acts_number (actions.Abort k) fit) (act_left past (actions.Abort k) empty_outbox s done (host_listed past i s h)) (abort_requests k s done)
  host_acts (actions.Put cmd) line fit done = plain_does (actions.Put cmd) fit (act_left past (actions.Put cmd) empty_outbox s done (host_listed past i s h)) line tt
  host_acts (actions.Append cmd) line fit done = plain_does (actions.Append cmd) fit (act_left past (actions.Append cmd) empty_outbox s done (host_listed past i s h)) line tt
  host_acts actions.Low line fit done = plain_does actions.Low fit (act_left past actions.Low empty_outbox s done (host_listed past i s h)) line tt
  host_acts actions.Link line fit done = plain_does actions.Link fit (act_left past actions.Link empty_outbox s done (host_listed past i s h)) line tt
  host_acts actions.Ring line fit done = plain_does actions.Ring fit (act_left past actions.Ring empty_outbox s done (host_listed past i s h)) line tt
  host_acts (actions.Dummy orb) line fit done = plain_does (actions.Dummy orb) fit (act_left past (actions.Dummy orb) empty_outbox s done (host_listed past i s h)) line tt
  host_acts actions.Rom line fit done = plain_does actions.Rom fit (act_left past actions.Rom empty_outbox s done (host_listed past i s h)) line tt
  host_acts actions.AgentReset line fit done = plain_does actions.AgentReset fit (act_left past actions.AgentReset empty_outbox s done (host_listed past i s h)) line tt
  host_acts actions.State line fit done = plain_does actions.State fit (act_left past actions.State empty_outbox s done (host_listed past i s h)) line tt
  host_acts actions.Enable line fit done = plain_does actions.Enable fit (act_left past actions.Enable empty_outbox s done (host_listed past i s h)) line tt
  host_acts (actions.Login unit reconnect exclusive password) line fit done = plain_does (actions.Login unit reconnect exclusive password) fit (act_left past (actions.Login unit reconnect exclusive password) empty_outbox s done (host_listed past i s h)) line tt
  host_acts (actions.Query unit) line fit done = plain_does (actions.Query unit) fit (act_left past (actions.Query unit) empty_outbox s done (host_listed past i s h)) line tt
  host_acts actions.Reconnect line fit done = plain_does actions.Reconnect fit (act_left past actions.Reconnect empty_outbox s done (host_listed past i s h)) line tt
  host_acts actions.Logout line fit done = plain_does actions.Logout fit (act_left past actions.Logout empty_outbox s done (host_listed past i s h)) line tt
  host_acts actions.AbortSet line fit done = plain_does actions.AbortSet fit (act_left past actions.AbortSet empty_outbox s done (host_listed past i s h)) line tt
  host_acts actions.UnitReset line fit done = plain_does actions.UnitReset fit (act_left past actions.UnitReset empty_outbox s done (host_listed past i s h)) line tt
  host_acts actions.TargetReset line fit done = plain_does actions.TargetReset fit (act_left past actions.TargetReset empty_outbox s done (host_listed past i s h)) line tt
