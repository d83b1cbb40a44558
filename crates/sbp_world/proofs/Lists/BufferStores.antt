-- What changes the response buffers of an initiator by a history: a write into one that it gets, and nothing else.
use Rattle.sbp_world.proofs.Words.Std.{◌≡◌, ◌⊎◌, inl, inr, refl, sym, subst, ℕ, zero, suc, ◌&&◌, not, nat_eq, Bool, true, false, cond, List, ◌∷◌, Option, Some, None}
use Rattle.sbp_world.proofs.Words.Wire.{Access, Moment, said, Part, part_of, request, response, Terms, terms, Action, Event, Note, Operation, OpWord}
use Rattle.sbp_world.proofs.Words.Initiator.{Window, window_at, Answer, Done, Expired, NoLabel, Payload, Refused}
use Rattle.sbp_world.proofs.Words.Laws.{Host, Underway, acted, goes_on, host_at, host_by, list_begins, op_ended, operation_of, pointer_answered, ring, sent_in, stored, stored_in, present_list, access_at, answer_in, answered_at, packet_at, receiver_in, sender_in, event_of}
use Rattle.bus_memory.specs.declared.window.Window.TheVariants as windows
use Rattle.sbp_journal.specs.Transactions.{no_packet}
use Rattle.sbp_journal.specs.declared.event.Action.TheVariants as actions
use Rattle.sbp_journal.specs.declared.event.Event.TheVariants as events
use Rattle.sbp_journal.specs.declared.note.Note.TheVariants as notes
use Rattle.sbp_journal.specs.declared.operation.Operation.TheVariants as operations
use Rattle.sbp_journal.specs.declared.operation.OpWord.TheVariants as words
use Rattle.sbp_laws.specs.Hosts.{got_by, is_serial, reset_seen, sent_as}
use Rattle.sbp_world.proofs.Hosts.Cores.{wire_is}

-- ---- one note
abbrev Same : Host → Host → Type 0
Same new old = new.responses ≡ old.responses

same_if : (b : Bool) (x y : Host) → Same x y → Same (cond b x y) y
same_if true x y h = h
same_if false x y h = refl

goes_same : (u : Option Underway) (serial : ℕ) (host : Host) → Same (goes_on u serial host) host
goes_same None serial host = refl
goes_same (Some underway) serial host = refl

ring_same : (pointer : Option ℕ) (serial : ℕ) (host : Host) → Same (ring pointer serial host) host
ring_same None serial host = refl
ring_same (Some first) serial host = refl

none_same : (action : Action) (list : Option ℕ) (serial : ℕ) (host : Host) → Same (acted action None list serial host) host
none_same actions.State list serial host = refl
none_same actions.Ring list serial host = ring_same host.pointer serial host
none_same (actions.Append cmd) list serial host = ring_same host.pointer serial host
none_same _ list serial host = refl

acted_same : (action : Action) (operation : Option Operation) (list : Option ℕ) (serial : ℕ) (host : Host) → Same (acted action operation list serial host) host
acted_same action None list serial host = none_same action list serial host
acted_same (actions.Login unit reconnect exclusive password) (Some operation) list serial host = refl
acted_same actions.Rom (Some operation) list serial host = refl
acted_same actions.AgentReset (Some operation) list serial host = refl
acted_same action (Some operation) list serial host = refl

in_same : (event : Option Event) (i : ℕ) (list : Option ℕ) (serial : ℕ) (host : Host) → Same (sent_in event i list serial host) host
in_same (Some (events.Act j action)) i list serial host = by (nat_eq j i)
  where
    by : (b : Bool) → Same (cond b (acted action (operation_of action) list serial host) (goes_on host.operation serial host)) host
    by true = acted_same action (operation_of action) list serial host
    by false = goes_same host.operation serial host
in_same None i list serial host = goes_same host.operation serial host
in_same (Some (events.Begin initiators ready)) i list serial host = goes_same host.operation serial host
in_same (Some (events.Reset physical)) i list serial host = goes_same host.operation serial host
in_same (Some (events.See node)) i list serial host = goes_same host.operation serial host
in_same (Some (events.Deliver packet)) i list serial host = goes_same host.operation serial host
in_same (Some (events.Repeat packet)) i list serial host = goes_same host.operation serial host
in_same (Some (events.Lose packet)) i list serial host = goes_same host.operation serial host
in_same (Some (events.Timeout packet)) i list serial host = goes_same host.operation serial host
in_same (Some (events.Step count)) i list serial host = goes_same host.operation serial host
in_same (Some events.Settle) i list serial host = goes_same host.operation serial host
in_same (Some events.Tick) i list serial host = goes_same host.operation serial host
in_same (Some (events.Inject initiator bytes)) i list serial host = goes_same host.operation serial host
in_same (Some (events.Key unit key)) i list serial host = goes_same host.operation serial host

as_same : (part : Part) (event : Option Event) (i : ℕ) (list : Option ℕ) (serial : ℕ) (host : Host) → Same (sent_as part event i list serial host) host
as_same (request label kind) event i list serial host = in_same event i list serial host
as_same (response label kind) event i list serial host = refl
as_same no_packet event i list serial host = refl

pointer_same : (answer : Answer) (own : Bool) (host : Host) → Same (pointer_answered answer own host) host
pointer_same Done true host = refl
pointer_same Done false host = refl
pointer_same (Payload bytes) own host = refl
pointer_same (Refused rcode) own host = refl
pointer_same Expired own host = refl
pointer_same NoLabel own host = refl

ended_same : (operation : Operation) (word : OpWord) (host : Host) → Same (op_ended operation word host) host
ended_same operations.Login words.Done host = refl
ended_same operations.Rom words.Done host = refl
ended_same operations.State word host = refl
ended_same operation word host = refl

begins_same : (k : ℕ) (host : Host) → Same (list_begins k host) host
begins_same zero host = refl
begins_same (suc k) host = refl

reset_same : (b : Bool) (host : Host) → Same (reset_seen b host) host
reset_same true host = refl
reset_same false host = refl

-- ---- a write into a response buffer
pub record IsStoring (past : List Moment) (i serial : ℕ) : Type 0 where
  pub to_is : is_serial (receiver_in ((terms past).sent serial)) (suc i) ≡ true
  pub access : Access
  pub is : access_at (terms past) serial ≡ Some access
  pub writes : access.is_write ≡ true
  pub place : ℕ
  pub goes : window_at access.offset ≡ Some (windows.Response place)

-- a packet that is got stores nothing, or is such a write
pub data Stores (past : List Moment) (i serial : ℕ) : Type 0 where
  nothing : (host_at (said (notes.Got serial) ∷ past) i).responses ≡ (host_at past i).responses → Stores past i serial
  stores : IsStoring past i serial → Stores past i serial

data Goes (access : Access) (responses : List (List ℕ)) : List (List ℕ) → Type 0 where
  elsewhere : Goes access responses responses
  there : {left : List (List ℕ)} (place : ℕ) → window_at access.offset ≡ Some (windows.Response place) → Goes access responses left

in_window : (window : Option Window) (access : Access) (responses : List (List ℕ)) → window_at access.offset ≡ window → Goes access responses (stored_in window access responses)
in_window (Some (windows.Response m)) access responses e = there m e
in_window (Some windows.Rom) access responses e = elsewhere
in_window (Some (windows.Orb slot)) access responses e = elsewhere
in_window (Some (windows.Table slot)) access responses e = elsewhere
in_window (Some (windows.Buffer slot)) access responses e = elsewhere
in_window (Some (windows.Management place)) access responses e = elsewhere
in_window None access responses e = elsewhere

module _ (past : List Moment) (i serial : ℕ) where
  abbrev t : Terms
  t = terms past

  abbrev host : Host
  host = host_at past i

  abbrev Left : List (List ℕ) → Type 0
  Left left = (left ≡ host.responses) ⊎ IsStoring past i serial

  by_goes : (access : Access) → is_serial (receiver_in (t.sent serial)) (suc i) ≡ true → access_at t serial ≡ Some access → access.is_write ≡ true → (left : List (List ℕ)) → Goes access host.responses left → Left left
  by_goes access to is w _ elsewhere = inl refl
  by_goes access to is w left (there place e) = inr (record { to_is = to; access = access; is = is; writes = w; place = place; goes = e })

  by_write : (access : Access) (b : Bool) → access.is_write ≡ b → is_serial (receiver_in (t.sent serial)) (suc i) ≡ true → access_at t serial ≡ Some access → Left (cond b (stored_in (window_at access.offset) access host.responses) host.responses)
  by_write access false w to is = inl refl
  by_write access true w to is = by_goes access to is w (stored_in (window_at access.offset) access host.responses) (in_window (window_at access.offset) access host.responses refl)

  by_access : (found : Option Access) → access_at t serial ≡ found → is_serial (receiver_in (t.sent serial)) (suc i) ≡ true → Left (stored found host.responses)
  by_access None is to = inl refl
  by_access (Some access) is to = by_write access access.is_write refl to is

  by_own : (own : Option ℕ) → is_serial (receiver_in (t.sent serial)) (suc i) ≡ true → Left (got_by own t serial (present_list past i) host).responses
  by_own (Some own) to = inl (pointer_same (answer_in (packet_at t serial)) (is_serial host.pointer own) host)
  by_own None to = by_access (access_at t serial) refl to

  by_to : (b : Bool) → is_serial (receiver_in (t.sent serial)) (suc i) ≡ b → Left (cond b (got_by (answered_at t serial) t serial (present_list past i) host) host).responses
  by_to true to = by_own (answered_at t serial) to
  by_to false to = inl refl

  got_left : Left (host_at (said (notes.Got serial) ∷ past) i).responses
  got_left =
      subst (λ (x : Terms). Left (cond (is_serial (receiver_in (x.sent serial)) (suc i)) (got_by (answered_at x serial) x serial (present_list past i) host) host).responses) (sym (wire_is past i))
      (by_to (is_serial (receiver_in (t.sent serial)) (suc i)) refl)

  pub got_stores : Stores past i serial
  got_stores = by got_left
    where
      by : Left (host_at (said (notes.Got serial) ∷ past) i).responses → Stores past i serial
      by (inl e) = nothing e
      by (inr s) = stores s

-- every other note leaves them, but the beginning of a run
abbrev pub IsOther : Note → Type 0
IsOther (notes.Begin initiators ready) = ⊥
IsOther (notes.Got serial) = ⊥
IsOther note = Unit {0}

pub note_same : (note : Note) (past : List Moment) (wire : Terms) (i : ℕ) (old : Host) → IsOther note → Same (host_by note past wire i old) old
note_same (notes.Begin initiators ready) past wire i old q = absurd q
note_same (notes.Got serial) past wire i old q = absurd q
note_same (notes.Sent serial generation from to bytes) past wire i old q =
    same_if (nat_eq from (suc i) && not (wire.injected serial)) (sent_as (part_of bytes) (event_of past) i (present_list past i) serial old) old (as_same (part_of bytes) (event_of past) i (present_list past i) serial old)
note_same (notes.TimedOut serial) past wire i old q = same_if (is_serial (sender_in (wire.sent serial)) (suc i)) _ old refl
note_same (notes.Op j operation word) past wire i old q = same_if (nat_eq j i) (op_ended operation word old) old (ended_same operation word old)
note_same (notes.Stuck j) past wire i old q = same_if (nat_eq j i) _ old refl
note_same (notes.Append j n k cdb buffer) past wire i old q = same_if (nat_eq j i) (list_begins k old) old (begins_same k old)
note_same (notes.Drop j n) past wire i old q = same_if (nat_eq j i) (list_begins zero old) old (begins_same zero old)
note_same (notes.Taken j n k status answer) past wire i old q = same_if (nat_eq j i) _ old refl
note_same (notes.Seen node generation) past wire i old q =
    same_if (nat_eq node (suc i)) (reset_seen (not (nat_eq generation (wire.generation node))) old) old (reset_same (not (nat_eq generation (wire.generation node))) old)
note_same note past wire i old q = refl
