-- What a queue keeps of its session, its operation and the mark of its present list is what the run terms say.
use Rattle.std.proofs.Common.{◌≡◌, ◌∙◌, sym, ap, subst, refl, ℕ, zero, suc, ◌+◌, ◌==◌, nat_lt, ◌&&◌, ◌||◌, not, Bool, true, false, cond, List, [], Option, Some, None, eqb-true}
use Rattle.std.specs.Prelude.{is_none}
use Rattle.orb_layout.specs.declared.status.StatusKind.{StatusKind}
use Rattle.orb_layout.specs.declared.status.StatusKind.TheVariants as kinds
use Rattle.orb_layout.specs.Replies.{Answer, Payload, Done}
use Rattle.orb_layout.specs.StatusBlocks.{row_of}
use Rattle.sbp_journal.specs.Run.{Moment}
use Rattle.sbp_journal.specs.Transactions.{Part, request, response, no_packet, part_of}
use Rattle.sbp_journal.specs.Wire.{Terms}
use Rattle.sbp_journal.specs.declared.event.Action.{Action}
use Rattle.sbp_journal.specs.declared.event.Action.TheVariants as actions
use Rattle.sbp_journal.specs.declared.event.Event.{Event}
use Rattle.sbp_journal.specs.declared.event.Event.TheVariants as events
use Rattle.sbp_journal.specs.declared.note.Note.{Note}
use Rattle.sbp_journal.specs.declared.note.Note.TheVariants as notes
use Rattle.sbp_journal.specs.declared.operation.Operation.{Operation}
use Rattle.sbp_journal.specs.declared.operation.Operation.TheVariants as operations
use Rattle.sbp_journal.specs.declared.operation.OpWord.{OpWord}
use Rattle.sbp_journal.specs.declared.operation.OpWord.TheVariants as words
use Rattle.sbp_laws.specs.Hosts.{Host, Underway, acted, goes_on, got_by, host_by, is_serial, list_begins, live, op_ended, op_left, operation_of, pointer_answered, ready_host, reset_seen, ring, says_dead, sent_as, sent_in, session_ended, session_reset, session_sent, session_stuck, without_read}
use Rattle.sbp_laws.specs.Lists.{present_list}
use Rattle.sbp_laws.specs.Packets.{packet_at, answered_at, answer_in, receiver_in, sender_in}
use Rattle.sbp_laws.specs.Turns.{event_of}
use Rattle.sbp_world.specs.Lists.Faults.{is_fault}
use Rattle.retry_queue.specs.Heard.{IsRequest, WhereAsked}
use Rattle.retry_queue.specs.Kept.{Kept, appended, asked_in, dropped, ended, learned, seen, sent, taken}

-- ---- an initiator, as far as it counts

pub record Fits (k : Kept) (host : Host) : Type 0 where
  pub session : k.session ≡ host.session
  pub busy : k.is_busy ≡ not (is_none host.operation)
  pub dead : k.is_dead ≡ host.marked_dead
  pub reads : host.reads ≡ []

-- nothing of it changes
record Same (host now : Host) : Type 0 where
  session : now.session ≡ host.session
  none : is_none now.operation ≡ is_none host.operation
  dead : now.marked_dead ≡ host.marked_dead
  reads : now.reads ≡ host.reads

same : (host : Host) → Same host host
same host = record { session = refl; none = refl; dead = refl; reads = refl }

fits_same : (k : Kept) (host now : Host) → Fits k host → Same host now → Fits k now
fits_same k host now f s = record {
  session = f.session ∙ sym s.session;
  busy = f.busy ∙ ap not (sym s.none);
  dead = f.dead ∙ sym s.dead;
  reads = s.reads ∙ f.reads;
}

-- an operation begins
record Begins (operation : Operation) (host now : Host) : Type 0 where
  session : now.session ≡ session_sent operation host.session
  some : is_none now.operation ≡ false
  dead : now.marked_dead ≡ host.marked_dead
  reads : now.reads ≡ host.reads

fits_begun : (operation : Operation) (k : Kept) (host now : Host) → Fits k host → Begins operation host now → Fits (sent (Some operation) k) now
fits_begun operation k host now f s = record {
  session = ap (session_sent operation) f.session ∙ sym s.session;
  busy = ap not (sym s.some);
  dead = f.dead ∙ sym s.dead;
  reads = s.reads ∙ f.reads;
}

-- ---- what the initiator sends

goes : (operation : Option Underway) (serial : ℕ) (host : Host) → host.operation ≡ operation → Same host (goes_on operation serial host)
goes None serial host e = same host
goes (Some underway) serial host e = record { session = refl; none = ap is_none (sym e); dead = refl; reads = refl }

rings : (pointer : Option ℕ) (serial : ℕ) (host : Host) → Same host (ring pointer serial host)
rings None serial host = record { session = refl; none = refl; dead = refl; reads = refl }
rings (Some first) serial host = record { session = refl; none = refl; dead = refl; reads = refl }

abbrev IsNoRead : Action → Type 0
IsNoRead actions.State = ⊥
IsNoRead _ = Unit {0}

abbrev pub ReadsNoState : Option Event → Type 0
ReadsNoState (Some (events.Act i actions.State)) = ⊥
ReadsNoState _ = Unit {0}

no_read : (i : ℕ) (action : Action) → ReadsNoState (Some (events.Act i action)) → IsNoRead action
no_read i actions.State h = h
no_read i _ h = tt

acts_none : (action : Action) (list : Option ℕ) (serial : ℕ) (host : Host) → IsNoRead action → Same host (acted action None list serial host)
acts_none actions.State list serial host h = absurd h
acts_none actions.Ring list serial host h = rings host.pointer serial host
acts_none (actions.Append cmd) list serial host h = rings host.pointer serial host
acts_none _ list serial host h = same host

sends_none : (event : Option Event) (list : Option ℕ) (serial : ℕ) (host : Host) → asked_in event ≡ None → ReadsNoState event → Same host (sent_in event 0 list serial host)
sends_none None list serial host e h = goes host.operation serial host refl
sends_none (Some (events.Act j action)) list serial host e h =
    elim (j == 0) as (λ t. cond t (operation_of action) None ≡ None → Same host (cond t (acted action (operation_of action) list serial host) (goes_on host.operation serial host))) [
      | true ↦ λ none. subst (λ o. Same host (acted action o list serial host)) (sym none) (acts_none action list serial host (no_read j action h))
      | false ↦ λ none. goes host.operation serial host refl
    ] e
sends_none (Some _) list serial host e h = goes host.operation serial host refl

sends_any : (part : Part) (event : Option Event) (list : Option ℕ) (serial : ℕ) (host : Host) → asked_in event ≡ None → ReadsNoState event → Same host (sent_as part event 0 list serial host)
sends_any (request label kind) event list serial host e h = sends_none event list serial host e h
sends_any (response label kind) event list serial host e h = same host
sends_any no_packet event list serial host e h = same host

begins : (action : Action) (operation : Operation) (list : Option ℕ) (serial : ℕ) (host : Host) → Begins operation host (acted action (Some operation) list serial host)
begins (actions.Login unit reconnect exclusive password) operation list serial host = record { session = refl; some = refl; dead = refl; reads = refl }
begins actions.Rom operation list serial host = record { session = refl; some = refl; dead = refl; reads = refl }
begins actions.AgentReset operation list serial host = record { session = refl; some = refl; dead = refl; reads = refl }
begins _ operation list serial host = record { session = refl; some = refl; dead = refl; reads = refl }

sends_some : (event : Option Event) (operation : Operation) (list : Option ℕ) (serial : ℕ) (host : Host) → asked_in event ≡ Some operation → Begins operation host (sent_in event 0 list serial host)
sends_some None operation list serial host e = absurd (cc e)
sends_some (Some (events.Act j action)) operation list serial host e =
    elim (j == 0) as (λ t. cond t (operation_of action) None ≡ Some operation → Begins operation host (cond t (acted action (operation_of action) list serial host) (goes_on host.operation serial host))) [
      | true ↦ λ some. subst (λ o. Begins operation host (acted action o list serial host)) (sym some) (begins action operation list serial host)
      | false ↦ λ none. absurd (cc none)
    ] e
sends_some (Some _) operation list serial host e = absurd (cc e)

-- a packet of the initiator, in the line of an operation, is a request
abbrev pub Sends : List Moment → Terms → Note → Type 0
Sends past wire (notes.Sent serial generation from to bytes) = from ≡ 1 → WhereAsked (asked_in (event_of past)) (IsRequest wire serial bytes)
Sends past wire _ = Unit {0}

module _ (past : List Moment) (wire : Terms) (k : Kept) (host : Host) (f : Fits k host) where
  sent_case : (serial : ℕ) (bytes : List ℕ) (asked : Option Operation) (list : Option ℕ) → asked_in (event_of past) ≡ asked → ReadsNoState (event_of past) → WhereAsked asked (IsRequest wire serial bytes) → Fits (sent asked k) (cond (not (wire.injected serial)) (sent_as (part_of bytes) (event_of past) 0 list serial host) host)
  sent_case serial bytes None list e h asks =
      elim (wire.injected serial) as (λ t. Fits k (cond (not t) (sent_as (part_of bytes) (event_of past) 0 list serial host) host)) [
        | true ↦ f
        | false ↦ fits_same k host (sent_as (part_of bytes) (event_of past) 0 list serial host) f (sends_any (part_of bytes) (event_of past) list serial host e h)
      ]
  sent_case serial bytes (Some operation) list e h asks =
      subst (λ b. Fits (sent (Some operation) k) (cond (not b) (sent_as (part_of bytes) (event_of past) 0 list serial host) host)) (sym asks.own)
      (subst (λ part. Fits (sent (Some operation) k) (sent_as part (event_of past) 0 list serial host)) (sym asks.part)
      (fits_begun operation k host (sent_in (event_of past) 0 list serial host) f (sends_some (event_of past) operation list serial host e)))

  -- ---- what it gets
  or_false : (b : Bool) → (b || false) ≡ b
  or_false true = refl
  or_false false = refl

  says_none : (answer : Answer) (serial : ℕ) (present : Option ℕ) → says_dead answer serial present [] ≡ false
  says_none (Payload bytes) serial present = refl
  says_none _ serial present = refl

  pointer_same : (answer : Answer) (own : Bool) → ((pointer_answered answer own host).session ≡ host.session) × ((pointer_answered answer own host).operation ≡ host.operation)
  pointer_same Done true = (refl, refl)
  pointer_same Done false = (refl, refl)
  pointer_same _ own = (refl, refl)

  got_case : (own : Option ℕ) (serial : ℕ) (present : Option ℕ) → Fits k (got_by own wire serial present host)
  got_case None serial present = record { session = f.session; busy = f.busy; dead = f.dead; reads = f.reads }
  got_case (Some own) serial present =
      let answer = answer_in (packet_at wire serial) in
      let p = pointer_same answer (is_serial host.pointer own) in
      record {
        session = f.session ∙ sym p.0;
        busy = f.busy ∙ ap (λ o. not (is_none o)) (sym p.1);
        dead = f.dead ∙ sym (ap (λ rs. host.marked_dead || says_dead answer own present rs) f.reads ∙ ap (λ b. host.marked_dead || b) (says_none answer own present) ∙ or_false host.marked_dead);
        reads = ap (without_read own) f.reads;
      }

  -- ---- its operation ends
  abbrev IsOther : Operation → Type 0
  IsOther operations.State = ⊥
  IsOther _ = Unit {0}

  ended_is : (operation : Operation) (word : OpWord) → IsOther operation → ended operation word k ≡ record k { is_busy = false; session = session_ended operation word k.session }
  ended_is operations.State word h = absurd h
  ended_is _ word h = refl

  op_is : (operation : Operation) (word : OpWord) → IsOther operation → op_ended operation word host ≡ record (op_left operation word host) { operation = None; session = session_ended operation word host.session }
  op_is operations.State word h = absurd h
  op_is _ word h = refl

  left_same : (operation : Operation) (word : OpWord) → ((op_left operation word host).marked_dead ≡ host.marked_dead) × ((op_left operation word host).reads ≡ host.reads)
  left_same operations.Rom words.Done = (refl, refl)
  left_same operations.Login words.Done = (refl, refl)
  left_same _ _ = (refl, refl)

  op_other : (operation : Operation) (word : OpWord) → IsOther operation → Fits (ended operation word k) (op_ended operation word host)
  op_other operation word h =
      let left = left_same operation word in
      subst (λ now. Fits now (op_ended operation word host)) (sym (ended_is operation word h)) (subst (Fits (record k { is_busy = false; session = session_ended operation word k.session })) (sym (op_is operation word h)) (record {
        session = ap (session_ended operation word) f.session;
        busy = refl;
        dead = f.dead ∙ sym left.0;
        reads = left.1 ∙ f.reads;
      }))

  op_case : (operation : Operation) (word : OpWord) → Fits (ended operation word k) (op_ended operation word host)
  op_case operations.State word = f
  op_case operations.Rom word = op_other operations.Rom word tt
  op_case operations.Login word = op_other operations.Login word tt
  op_case operations.Query word = op_other operations.Query word tt
  op_case operations.Reconnect word = op_other operations.Reconnect word tt
  op_case operations.Logout word = op_other operations.Logout word tt
  op_case operations.Abort word = op_other operations.Abort word tt
  op_case operations.AbortSet word = op_other operations.AbortSet word tt
  op_case operations.UnitReset word = op_other operations.UnitReset word tt
  op_case operations.TargetReset word = op_other operations.TargetReset word tt
  op_case operations.AgentReset word = op_other operations.AgentReset word tt
  op_case operations.Enable word = op_other operations.Enable word tt

  -- ---- the other notes
  deadly_is : (status : StatusKind) → is_fault status ≡ ((row_of status).dead == 1)
  deadly_is kinds.Good = refl
  deadly_is (kinds.Check sense) = refl
  deadly_is kinds.Dummy = refl
  deadly_is kinds.Aborted = refl
  deadly_is (kinds.Illegal meaning) = refl
  deadly_is kinds.Failed = refl
  deadly_is (kinds.Management meaning) = refl

  seen_case : (generation own : ℕ) → k.generation ≡ own → Fits (seen generation k) (reset_seen (not (generation == own)) host)
  seen_case generation own e =
      subst (λ b. Fits (cond b k (record k { session = session_reset k.session; is_busy = false; generation = generation })) (reset_seen (not (generation == own)) host)) (sym (ap (λ n. generation == n) e))
      (elim (generation == own) as (λ t. Fits (cond t k (record k { session = session_reset k.session; is_busy = false; generation = generation })) (reset_seen (not t) host)) [
        | true ↦ f
        | false ↦ record { session = ap session_reset f.session; busy = refl; dead = f.dead; reads = refl }
      ])

  later_append : (n : ℕ) → appended (suc n) k ≡ record k { next = k.next + 1 }
  later_append n = by (suc n == 0) refl
    where
      by : (t : Bool) → (suc n == 0) ≡ t → cond t (record k { is_dead = false; first = k.done; next = k.done + 1 }) (record k { next = k.next + 1 }) ≡ record k { next = k.next + 1 }
      by true e = absurd (let same : suc n ≡ 0 = eqb-true (suc n) 0 e in cc same)
      by false e = refl

  pub fits_note : (note : Note) → k.generation ≡ wire.generation 1 → ReadsNoState (event_of past) → Sends past wire note → Fits (learned (asked_in (event_of past)) note k) (host_by note past wire 0 host)
  fits_note (notes.Begin initiators ready) g h s =
      elim (ready && nat_lt 0 initiators) as (λ t. Fits (cond t (record k { session = live; is_busy = false; is_dead = false }) k) (cond t (ready_host 0) host)) [
        | true ↦ record { session = refl; busy = refl; dead = refl; reads = refl }
        | false ↦ f
      ]
  fits_note (notes.Sent serial generation from to bytes) g h s =
      elim (from == 1) as (λ t. (from == 1) ≡ t → Fits (cond t (sent (asked_in (event_of past)) k) k) (cond (t && not (wire.injected serial)) (sent_as (part_of bytes) (event_of past) 0 (present_list past 0) serial host) host)) [
        | true ↦ λ e. sent_case serial bytes (asked_in (event_of past)) (present_list past 0) refl h (s (eqb-true from 1 e))
        | false ↦ λ e. f
      ] refl
  fits_note (notes.Got serial) g h s =
      elim (is_serial (receiver_in (wire.sent serial)) 1) as (λ t. Fits k (cond t (got_by (answered_at wire serial) wire serial (present_list past 0) host) host)) [
        | true ↦ got_case (answered_at wire serial) serial (present_list past 0)
        | false ↦ f
      ]
  fits_note (notes.TimedOut serial) g h s =
      elim (is_serial (sender_in (wire.sent serial)) 1) as (λ t. Fits k (cond t (record host { reads = without_read serial host.reads }) host)) [
        | true ↦ record { session = f.session; busy = f.busy; dead = f.dead; reads = ap (without_read serial) f.reads }
        | false ↦ f
      ]
  fits_note (notes.Op j operation word) g h s =
      elim (j == 0) as (λ t. Fits (cond t (ended operation word k) k) (cond t (op_ended operation word host) host)) [
        | true ↦ op_case operation word
        | false ↦ f
      ]
  fits_note (notes.Stuck j) g h s =
      elim (j == 0) as (λ t. Fits (cond t (record k { session = session_stuck k.session }) k) (cond t (record host { session = session_stuck host.session }) host)) [
        | true ↦ record { session = ap session_stuck f.session; busy = f.busy; dead = f.dead; reads = f.reads }
        | false ↦ f
      ]
  fits_note (notes.Append j n zero cdb buffer) g h s =
      elim (j == 0) as (λ t. Fits (cond t (appended 0 k) k) (cond t (list_begins 0 host) host)) [
        | true ↦ record { session = f.session; busy = f.busy; dead = refl; reads = f.reads }
        | false ↦ f
      ]
  fits_note (notes.Append j n (suc m) cdb buffer) g h s =
      elim (j == 0) as (λ t. Fits (cond t (appended (suc m) k) k) (cond t host host)) [
        | true ↦ subst (λ now. Fits now host) (sym (later_append m)) (record { session = f.session; busy = f.busy; dead = f.dead; reads = f.reads })
        | false ↦ f
      ]
  fits_note (notes.Drop j n) g h s =
      elim (j == 0) as (λ t. Fits (cond t (dropped k) k) (cond t (list_begins 0 host) host)) [
        | true ↦ record { session = f.session; busy = f.busy; dead = refl; reads = f.reads }
        | false ↦ f
      ]
  fits_note (notes.Taken j n m status answer) g h s =
      elim (j == 0) as (λ t. Fits (cond t (taken status k) k) (cond t (record host { marked_dead = host.marked_dead || ((row_of status).dead == 1) }) host)) [
        | true ↦ record { session = f.session; busy = f.busy; dead = ap (λ b. b || is_fault status) f.dead ∙ ap (λ b. host.marked_dead || b) (deadly_is status); reads = f.reads }
        | false ↦ f
      ]
  fits_note (notes.Seen node generation) g h s =
      elim (node == 1) as (λ t. (node == 1) ≡ t → Fits (cond t (seen generation k) k) (cond t (reset_seen (not (generation == wire.generation node)) host) host)) [
        | true ↦ λ e. seen_case generation (wire.generation node) (g ∙ ap wire.generation (sym (eqb-true node 1 e)))
        | false ↦ λ e. f
      ] refl
  fits_note _ g h s = f
