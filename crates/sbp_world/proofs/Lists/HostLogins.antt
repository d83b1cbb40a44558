-- What holds of the login of a host lasts: it is the one of the beginning, or the response that stood in its buffer as a login was done.
use Rattle.sbp_world.proofs.Words.Std.{◌≡◌, refl, sym, subst, ℕ, zero, suc, ◌==◌, ◌&&◌, not, nat_eq, nat_lt, Bool, true, false, cond, List, [], ◌∷◌, Option, Some, None}
use Rattle.sbp_world.proofs.Words.Wire.{Moment, asked, said, Part, part_of, request, response, Terms, Action, Event, Note, Operation, OpWord}
use Rattle.sbp_world.proofs.Words.Initiator.{LoginResponse, login_response}
use Rattle.sbp_world.proofs.Words.Laws.{Host, Underway, acted, goes_on, host_at, host_by, known_host, list_begins, new_host, op_ended, operation_of, ready_host, response_of, ring, sent_in, present_list, answer_in, answered_at, packet_at, receiver_in, sender_in, EachMoment, event_of}
use Rattle.sbp_journal.specs.Transactions.{no_packet}
use Rattle.sbp_journal.specs.declared.event.Action.TheVariants as actions
use Rattle.sbp_journal.specs.declared.event.Event.TheVariants as events
use Rattle.sbp_journal.specs.declared.note.Note.TheVariants as notes
use Rattle.sbp_journal.specs.declared.operation.Operation.TheVariants as operations
use Rattle.sbp_journal.specs.declared.operation.OpWord.TheVariants as words
use Rattle.sbp_laws.specs.Hosts.{got_by, is_serial, reset_seen, sent_as}
use Rattle.sbp_world.proofs.Lists.UnderwayHosts.{begun_login, pointer_login}

-- a login is done with a response of which it holds
abbrev pub GrantsAt : (LoginResponse → Type 0) → ℕ → Moment → List Moment → Type 0
GrantsAt Good i (said (notes.Op j operations.Login words.Done)) past = (j == i) ≡ true → Good (login_response (response_of (host_at past i)))
GrantsAt Good i moment past = Unit {0}

module _ (Good : LoginResponse → Type 0) where
  abbrev Small : Host → Type 0
  Small host = Good host.login

  small_same : (new old : Host) → new.login ≡ old.login → Small old → Small new
  small_same new old e h = subst Good (sym e) h

  small_if : (b : Bool) (x y : Host) → Small x → Small y → Small (cond b x y)
  small_if true x y h k = h
  small_if false x y h k = k

  abbrev IfDone : Host → Operation → OpWord → Type 0
  IfDone host operations.Login words.Done = Good (login_response (response_of host))
  IfDone host operation word = Unit {0}

  module _ (host : Host) (h : Small host) where
    goes_small : (u : Option Underway) (serial : ℕ) → Small (goes_on u serial host)
    goes_small None serial = h
    goes_small (Some underway) serial = h

    ring_small : (pointer : Option ℕ) (serial : ℕ) → Small (ring pointer serial host)
    ring_small None serial = h
    ring_small (Some first) serial = h

    none_small : (action : Action) (list : Option ℕ) (serial : ℕ) → Small (acted action None list serial host)
    none_small actions.State list serial = h
    none_small actions.Ring list serial = ring_small host.pointer serial
    none_small (actions.Append cmd) list serial = ring_small host.pointer serial
    none_small _ list serial = h

    acted_small : (action : Action) (operation : Option Operation) (list : Option ℕ) (serial : ℕ) → Small (acted action operation list serial host)
    acted_small action None list serial = none_small action list serial
    acted_small action (Some operation) list serial = small_same (acted action (Some operation) list serial host) host (begun_login action operation list serial host) h

    in_small : (event : Option Event) (i : ℕ) (list : Option ℕ) (serial : ℕ) → Small (sent_in event i list serial host)
    in_small (Some (events.Act j action)) i list serial = small_if (nat_eq j i) (acted action (operation_of action) list serial host) (goes_on host.operation serial host) (acted_small action (operation_of action) list serial) (goes_small host.operation serial)
    in_small None i list serial = goes_small host.operation serial
    in_small (Some (events.Begin initiators ready)) i list serial = goes_small host.operation serial
    in_small (Some (events.Reset physical)) i list serial = goes_small host.operation serial
    in_small (Some (events.See node)) i list serial = goes_small host.operation serial
    in_small (Some (events.Deliver packet)) i list serial = goes_small host.operation serial
    in_small (Some (events.Repeat packet)) i list serial = goes_small host.operation serial
    in_small (Some (events.Lose packet)) i list serial = goes_small host.operation serial
    in_small (Some (events.Timeout packet)) i list serial = goes_small host.operation serial
    in_small (Some (events.Step count)) i list serial = goes_small host.operation serial
    in_small (Some events.Settle) i list serial = goes_small host.operation serial
    in_small (Some events.Tick) i list serial = goes_small host.operation serial
    in_small (Some (events.Inject initiator bytes)) i list serial = goes_small host.operation serial
    in_small (Some (events.Key unit key)) i list serial = goes_small host.operation serial

    as_small : (part : Part) (event : Option Event) (i : ℕ) (list : Option ℕ) (serial : ℕ) → Small (sent_as part event i list serial host)
    as_small (request label kind) event i list serial = in_small event i list serial
    as_small (response label kind) event i list serial = h
    as_small no_packet event i list serial = h

    got_small : (own : Option ℕ) (wire : Terms) (serial : ℕ) (present : Option ℕ) → Small (got_by own wire serial present host)
    got_small (Some own) wire serial present =
        small_same (got_by (Some own) wire serial present host) host (pointer_login (answer_in (packet_at wire serial)) (is_serial host.pointer own) host) h
    got_small None wire serial present = h

    ended_small : (operation : Operation) (word : OpWord) → IfDone host operation word → Small (op_ended operation word host)
    ended_small operations.Login words.Done g = g
    ended_small operations.Rom words.Done g = h
    ended_small operations.State word g = h
    ended_small operation word g = h

    begins_small : (k : ℕ) → Small (list_begins k host)
    begins_small zero = h
    begins_small (suc k) = h

    reset_small : (b : Bool) → Small (reset_seen b host)
    reset_small true = h
    reset_small false = h

  small_when : (b : Bool) (x y : Host) → (b ≡ true → Small x) → Small y → Small (cond b x y)
  small_when true x y h k = h refl
  small_when false x y h k = k

  done_at : (operation : Operation) (word : OpWord) (j i : ℕ) (past : List Moment) → GrantsAt Good i (said (notes.Op j operation word)) past → (nat_eq j i) ≡ true → IfDone (host_at past i) operation word
  done_at operations.Login words.Done j i past g e = g e
  done_at operation word j i past g e = tt

  -- of a start where the initiators are ready
  abbrev pub ReadyAt : ℕ → Moment → List Moment → Type 0
  ReadyAt i (said (notes.Begin initiators ready)) past = (ready && nat_lt i initiators) ≡ true → Good (ready_host i).login
  ReadyAt i moment past = Unit {0}

  note_small : (note : Note) (past : List Moment) (wire : Terms) (i : ℕ) → ReadyAt i (said note) past → GrantsAt Good i (said note) past → Small (host_at past i) → Small (host_by note past wire i (host_at past i))
  note_small (notes.Begin initiators ready) past wire i l g h = small_when (ready && nat_lt i initiators) (ready_host i) (host_at past i) l h
  note_small (notes.Sent serial generation from to bytes) past wire i l g h =
      small_if (nat_eq from (suc i) && not (wire.injected serial)) (sent_as (part_of bytes) (event_of past) i (present_list past i) serial (host_at past i)) (host_at past i) (as_small (host_at past i) h (part_of bytes) (event_of past) i (present_list past i) serial) h
  note_small (notes.Got serial) past wire i l g h =
      small_if (is_serial (receiver_in (wire.sent serial)) (suc i)) (got_by (answered_at wire serial) wire serial (present_list past i) (host_at past i)) (host_at past i) (got_small (host_at past i) h (answered_at wire serial) wire serial (present_list past i)) h
  note_small (notes.TimedOut serial) past wire i l g h = small_if (is_serial (sender_in (wire.sent serial)) (suc i)) _ (host_at past i) h h
  note_small (notes.Op j operation word) past wire i l g h = small_when (nat_eq j i) (op_ended operation word (host_at past i)) (host_at past i) (λ e. ended_small (host_at past i) h operation word (done_at operation word j i past g e)) h
  note_small (notes.Stuck j) past wire i l g h = small_if (nat_eq j i) _ (host_at past i) h h
  note_small (notes.Append j n k cdb buffer) past wire i l g h = small_if (nat_eq j i) (list_begins k (host_at past i)) (host_at past i) (begins_small (host_at past i) h k) h
  note_small (notes.Drop j n) past wire i l g h = small_if (nat_eq j i) (list_begins zero (host_at past i)) (host_at past i) (begins_small (host_at past i) h zero) h
  note_small (notes.Taken j n k status answer) past wire i l g h = small_if (nat_eq j i) _ (host_at past i) h h
  note_small (notes.Seen node generation) past wire i l g h =
      small_if (nat_eq node (suc i)) (reset_seen (not (nat_eq generation (wire.generation node))) (host_at past i)) (host_at past i) (reset_small (host_at past i) h (not (nat_eq generation (wire.generation node)))) h
  note_small note past wire i l g h = h

  pub login_begun : (past : List Moment) (i : ℕ) → EachMoment (ReadyAt i) past → Good new_host.login → EachMoment (GrantsAt Good i) past → Small (host_at past i)
  login_begun [] i r n g = n
  login_begun (asked line event ∷ past) i r n g = login_begun past i r.1 n g.1
  login_begun (said note ∷ past) i r n g = note_small note past (known_host past i).wire i r.0 g.0 (login_begun past i r.1 n g.1)

  each_ready : (past : List Moment) (i : ℕ) → Good (ready_host i).login → EachMoment (ReadyAt i) past
  each_ready [] i r = tt
  each_ready (asked line event ∷ past) i r = (tt, each_ready past i r)
  each_ready (said (notes.Begin initiators ready) ∷ past) i r = ((λ e. r), each_ready past i r)
  each_ready (said note ∷ past) i r = (tt, each_ready past i r)

  pub login_good : (past : List Moment) (i : ℕ) → Good (ready_host i).login → Good new_host.login → EachMoment (GrantsAt Good i) past → Small (host_at past i)
  login_good past i r n g = login_begun past i (each_ready past i r) n g
