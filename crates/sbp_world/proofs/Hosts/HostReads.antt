-- The reads of AGENT_STATE that an initiator has under way by the terms: each note that ends no transaction of its own, sends nothing of its own and shows it no generation leaves them.
use Rattle.sbp_world.proofs.Words.Std.{◌≡◌, refl, sym, ◌∙◌, ap, ℕ, zero, suc, ◌==◌, ◌&&◌, nat_eq, not, Bool, true, false, cond, List, [], ◌∷◌, Option, Some, None}
use Rattle.sbp_world.proofs.Words.Wire.{Action, Event, Moment, Note, Operation, OpWord, Part, Sending, Side, Terms, part_of, request, response, said, terms}
use Rattle.sbp_world.proofs.Words.Laws.{Host, Underway, acted, answered_at, event_of, goes_on, host_at, known_host, list_begins, op_ended, operation_of, present_list, receiver_in, ring, sender_in, sent_in}
use Rattle.sbp_world.proofs.Words.World.{behind}
use Rattle.std.specs.List.{filter}
use Rattle.sbp_journal.specs.Transactions.{no_packet}
use Rattle.sbp_journal.specs.declared.cause.Judged.{Judged}
use Rattle.sbp_journal.specs.declared.cause.Judged.TheVariants as judgements
use Rattle.sbp_journal.specs.declared.event.Action.TheVariants as actions
use Rattle.sbp_journal.specs.declared.event.Event.TheVariants as events
use Rattle.sbp_journal.specs.declared.note.Note.TheVariants as notes
use Rattle.sbp_journal.specs.declared.operation.Operation.TheVariants as operations
use Rattle.sbp_journal.specs.declared.operation.OpWord.TheVariants as words
use Rattle.sbp_journal.specs.declared.side.Side.TheVariants as sides
use Rattle.sbp_laws.specs.Hosts.{StateRead, got_by, is_serial, op_left, reset_seen, sent_as, without_read}
use Rattle.sbp_world.proofs.Common.{cond_off, itself, turned, untrue}
use Rattle.sbp_world.proofs.Hosts.Beside.{turned as away}
use Rattle.sbp_world.proofs.Hosts.Carries.{IsNoAct, is_apart}
use Rattle.sbp_world.proofs.Hosts.Cores.{not_so, wire_is}
use Rattle.sbp_world.proofs.Hosts.Layered.{AreTame, is_tame}
use Rattle.sbp_world.proofs.Hosts.Shown.{IsElsewhere}
use Rattle.sbp_world.proofs.Pointers.Sending.{off as and_off}

abbrev pub Reads : List Moment → ℕ → List StateRead
Reads past i = (host_at past i).reads

-- ---- where a list loses none
pub all_kept : {A : Type 0} (xs : List A) → filter (λ x. true) xs ≡ xs
all_kept [] = refl
all_kept (x ∷ xs) = ap (λ ys. x ∷ ys) (all_kept xs)

same_if : (b : Bool) (x y : Host) → x.reads ≡ y.reads → (cond b x y).reads ≡ y.reads
same_if true x y e = e
same_if false x y e = refl

on : (b : Bool) (x y : Host) → b ≡ true → (cond b x y).reads ≡ x.reads
on true x y e = refl
on false x y e = untrue e

-- ---- an operation ends, a list begins
left_reads : (operation : Operation) (word : OpWord) (host : Host) → (op_left operation word host).reads ≡ host.reads
left_reads operations.Rom words.Done host = refl
left_reads operations.Rom (words.Refused status) host = refl
left_reads operations.Rom words.Conflict host = refl
left_reads operations.Rom words.Error host = refl
left_reads operations.Rom words.Reset host = refl
left_reads operations.Rom (words.Count count) host = refl
left_reads operations.Rom (words.Bad fault) host = refl
left_reads operations.Rom words.NoUnit host = refl
left_reads operations.Rom (words.State value) host = refl
left_reads operations.Login words.Done host = refl
left_reads operations.Login (words.Refused status) host = refl
left_reads operations.Login words.Conflict host = refl
left_reads operations.Login words.Error host = refl
left_reads operations.Login words.Reset host = refl
left_reads operations.Login (words.Count count) host = refl
left_reads operations.Login (words.Bad fault) host = refl
left_reads operations.Login words.NoUnit host = refl
left_reads operations.Login (words.State value) host = refl
left_reads operations.Query word host = refl
left_reads operations.Reconnect word host = refl
left_reads operations.Logout word host = refl
left_reads operations.Abort word host = refl
left_reads operations.AbortSet word host = refl
left_reads operations.UnitReset word host = refl
left_reads operations.TargetReset word host = refl
left_reads operations.AgentReset word host = refl
left_reads operations.State word host = refl
left_reads operations.Enable word host = refl

pub ended_reads : (operation : Operation) (word : OpWord) (host : Host) → (op_ended operation word host).reads ≡ host.reads
ended_reads operations.State word host = refl
ended_reads operations.Rom word host = left_reads operations.Rom word host
ended_reads operations.Login word host = left_reads operations.Login word host
ended_reads operations.Query word host = refl
ended_reads operations.Reconnect word host = refl
ended_reads operations.Logout word host = refl
ended_reads operations.Abort word host = refl
ended_reads operations.AbortSet word host = refl
ended_reads operations.UnitReset word host = refl
ended_reads operations.TargetReset word host = refl
ended_reads operations.AgentReset word host = refl
ended_reads operations.Enable word host = refl

pub begins_reads : (k : ℕ) (host : Host) → (list_begins k host).reads ≡ host.reads
begins_reads zero host = refl
begins_reads (suc k) host = refl

-- ---- the notes of an initiator that are none of a turn's first ones, and no packets
pub told_one : (note : Note) (past : List Moment) (i : ℕ) → is_tame note ≡ true → Reads (said note ∷ past) i ≡ Reads past i
told_one (notes.Append j n k cdb buffer) past i e = same_if (nat_eq j i) (list_begins k (host_at past i)) (host_at past i) (begins_reads k (host_at past i))
told_one (notes.Low j n k) past i e = refl
told_one (notes.Linked j n k) past i e = refl
told_one (notes.Rung j n k) past i e = refl
told_one (notes.Dummied j n k) past i e = refl
told_one (notes.Taken j n k status answer) past i e = same_if (nat_eq j i) _ (host_at past i) refl
told_one (notes.Drop j n) past i e = same_if (nat_eq j i) (list_begins zero (host_at past i)) (host_at past i) refl
told_one (notes.Op j operation word) past i e = same_if (nat_eq j i) (op_ended operation word (host_at past i)) (host_at past i) (ended_reads operation word (host_at past i))
told_one (notes.Stuck j) past i e = same_if (nat_eq j i) _ (host_at past i) refl
told_one (notes.Told j) past i e = refl
told_one _ past i e = untrue e

pub told_reads : (told : List Side) (past : List Moment) (i : ℕ) → AreTame told → Reads (behind told past) i ≡ Reads past i
told_reads [] past i h = refl
told_reads (sides.Own note ∷ later) past i h = told_reads later (said note ∷ past) i h.1 ∙ told_one note past i h.0
told_reads (_ ∷ later) past i h = absurd h.0

-- ---- the notes that say nothing of it
none_to : (so : Option Sending) (i : ℕ) → ((packet : Sending) → so ≡ Some packet → (packet.to == suc i) ≡ false) → is_serial (receiver_in so) (suc i) ≡ false
none_to None i f = refl
none_to (Some packet) i f = f packet refl

none_from : (so : Option Sending) (i : ℕ) → ((packet : Sending) → so ≡ Some packet → (packet.from == suc i) ≡ false) → is_serial (sender_in so) (suc i) ≡ false
none_from None i f = refl
none_from (Some packet) i f = f packet refl

pub apart_host : (note : Note) (past : List Moment) (i : ℕ) → is_apart i note ≡ true → IsElsewhere past i note → host_at (said note ∷ past) i ≡ host_at past i
apart_host (notes.Begin initiators ready) past i e w = untrue e
apart_host (notes.Append j n k cdb buffer) past i e w = cond_off (nat_eq j i) (list_begins k (host_at past i)) (host_at past i) (away i j e)
apart_host (notes.Taken j n k status answer) past i e w = cond_off (nat_eq j i) _ (host_at past i) (away i j e)
apart_host (notes.Drop j n) past i e w = cond_off (nat_eq j i) (list_begins zero (host_at past i)) (host_at past i) (away i j e)
apart_host (notes.Op j operation word) past i e w = cond_off (nat_eq j i) (op_ended operation word (host_at past i)) (host_at past i) (away i j e)
apart_host (notes.Stuck j) past i e w = cond_off (nat_eq j i) _ (host_at past i) (away i j e)
apart_host (notes.Sent serial generation from to bytes) past i e w =
    cond_off ((nat_eq from (suc i)) && not ((known_host past i).wire.injected serial)) _ (host_at past i) (and_off (nat_eq from (suc i)) _ (not_so (nat_eq from (suc i)) e))
apart_host (notes.Got serial) past i e w =
    cond_off (is_serial (receiver_in ((known_host past i).wire.sent serial)) (suc i)) _ (host_at past i)
    (ap (λ (t : Terms). is_serial (receiver_in (t.sent serial)) (suc i)) (wire_is past i) ∙ none_to ((terms past).sent serial) i w)
apart_host (notes.TimedOut serial) past i e w =
    cond_off (is_serial (sender_in ((known_host past i).wire.sent serial)) (suc i)) _ (host_at past i)
    (ap (λ (t : Terms). is_serial (sender_in (t.sent serial)) (suc i)) (wire_is past i) ∙ none_from ((terms past).sent serial) i w)
apart_host (notes.Seen node generation) past i e w = cond_off (nat_eq node (suc i)) _ (host_at past i) (not_so (nat_eq node (suc i)) e)
apart_host _ past i e w = refl

pub apart_reads : (note : Note) (past : List Moment) (i : ℕ) → is_apart i note ≡ true → IsElsewhere past i note → Reads (said note ∷ past) i ≡ Reads past i
apart_reads note past i e w = ap (λ (host : Host). host.reads) (apart_host note past i e w)

-- ---- a packet that leaves in a line that is no action of it
-- of what the next read of a ROM leaves
module _ {A : Type 0} (f : Host → A) (goes : (u : Option Underway) (serial : ℕ) (host : Host) → f (goes_on u serial host) ≡ f host) where
  other_same : (event : Option Event) (i : ℕ) (list : Option ℕ) (serial : ℕ) (host : Host) → IsNoAct i event → f (sent_in event i list serial host) ≡ f host
  other_same None i list serial host n = goes host.operation serial host
  other_same (Some (events.Act j action)) i list serial host n =
      ap f (cond_off (nat_eq j i) (acted action (operation_of action) list serial host) (goes_on host.operation serial host) (turned i j n)) ∙ goes host.operation serial host
  other_same (Some (events.Begin initiators ready)) i list serial host n = goes host.operation serial host
  other_same (Some (events.Reset physical)) i list serial host n = goes host.operation serial host
  other_same (Some (events.See node)) i list serial host n = goes host.operation serial host
  other_same (Some (events.Deliver packet)) i list serial host n = goes host.operation serial host
  other_same (Some (events.Repeat packet)) i list serial host n = goes host.operation serial host
  other_same (Some (events.Lose packet)) i list serial host n = goes host.operation serial host
  other_same (Some (events.Timeout packet)) i list serial host n = goes host.operation serial host
  other_same (Some (events.Step count)) i list serial host n = goes host.operation serial host
  other_same (Some events.Settle) i list serial host n = goes host.operation serial host
  other_same (Some events.Tick) i list serial host n = goes host.operation serial host
  other_same (Some (events.Inject initiator bytes)) i list serial host n = goes host.operation serial host
  other_same (Some (events.Key unit key)) i list serial host n = goes host.operation serial host

  part_same : (part : Part) (event : Option Event) (i : ℕ) (list : Option ℕ) (serial : ℕ) (host : Host) → IsNoAct i event → f (sent_as part event i list serial host) ≡ f host
  part_same (request label kind) event i list serial host n = other_same event i list serial host n
  part_same (response label kind) event i list serial host n = refl
  part_same no_packet event i list serial host n = refl

  either_same : (b : Bool) (x y : Host) → f x ≡ f y → f (cond b x y) ≡ f y
  either_same true x y e = e
  either_same false x y e = refl

  pub sent_same : (serial generation from to : ℕ) (bytes : List ℕ) (past : List Moment) (i : ℕ) → IsNoAct i (event_of past) → f (host_at (said (notes.Sent serial generation from to bytes) ∷ past) i) ≡ f (host_at past i)
  sent_same serial generation from to bytes past i n =
      either_same ((nat_eq from (suc i)) && not ((known_host past i).wire.injected serial)) (sent_as (part_of bytes) (event_of past) i (present_list past i) serial (host_at past i)) (host_at past i)
      (part_same (part_of bytes) (event_of past) i (present_list past i) serial (host_at past i) n)

pub goes_reads : (u : Option Underway) (serial : ℕ) (host : Host) → (goes_on u serial host).reads ≡ host.reads
goes_reads None serial host = refl
goes_reads (Some underway) serial host = refl

pub sent_reads : (serial generation from to : ℕ) (bytes : List ℕ) (past : List Moment) (i : ℕ) → IsNoAct i (event_of past)
    → Reads (said (notes.Sent serial generation from to bytes) ∷ past) i ≡ Reads past i
sent_reads = sent_same (λ host. host.reads) goes_reads

-- ---- the request of an action
ring_reads : (pointer : Option ℕ) (serial : ℕ) (host : Host) → (ring pointer serial host).reads ≡ host.reads
ring_reads None serial host = refl
ring_reads (Some first) serial host = refl

pub acted_reads : (action : Action) (list : Option ℕ) (serial : ℕ) (host : Host) → (action ≡ actions.State → ⊥) → (acted action (operation_of action) list serial host).reads ≡ host.reads
acted_reads actions.State list serial host n = absurd (n refl)
acted_reads actions.Rom list serial host n = refl
acted_reads (actions.Login unit reconnect exclusive password) list serial host n = refl
acted_reads (actions.Query unit) list serial host n = refl
acted_reads actions.Reconnect list serial host n = refl
acted_reads actions.Logout list serial host n = refl
acted_reads (actions.Abort k) list serial host n = refl
acted_reads actions.AbortSet list serial host n = refl
acted_reads actions.UnitReset list serial host n = refl
acted_reads actions.TargetReset list serial host n = refl
acted_reads actions.AgentReset list serial host n = refl
acted_reads actions.Enable list serial host n = refl
acted_reads (actions.Dummy k) list serial host n = refl
acted_reads (actions.Put cmd) list serial host n = refl
acted_reads actions.Low list serial host n = refl
acted_reads actions.Link list serial host n = refl
acted_reads (actions.Append cmd) list serial host n = ring_reads host.pointer serial host
acted_reads actions.Ring list serial host n = ring_reads host.pointer serial host

-- ---- a transaction of its own ends
-- the serial of the request that is over
abbrev pub is_gone : Option ℕ → ℕ → Bool
is_gone None n = false
is_gone (Some own) n = n == own

-- as the packet was judged
abbrev pub gone_by : Judged → List Moment → ℕ → Option ℕ
gone_by judgements.Got past serial = answered_at (terms past) serial
gone_by (judgements.Ignored cause) past serial = None

pub got_by_reads : (own : Option ℕ) (wire : Terms) (serial : ℕ) (present : Option ℕ) (host : Host)
    → (got_by own wire serial present host).reads ≡ filter (λ (read : StateRead). not (is_gone own read.serial)) host.reads
got_by_reads None wire serial present host = sym (all_kept host.reads)
got_by_reads (Some own) wire serial present host = refl

pub got_reads : (serial : ℕ) (packet : Sending) (past : List Moment) (i : ℕ) → (terms past).sent serial ≡ Some packet → packet.to ≡ suc i
    → Reads (said (notes.Got serial) ∷ past) i ≡ filter (λ (read : StateRead). not (is_gone (answered_at (terms past) serial) read.serial)) (Reads past i)
got_reads serial packet past i sent to_is =
    let host = host_at past i in
    ap (λ (t : Terms). (cond (is_serial (receiver_in (t.sent serial)) (suc i)) (got_by (answered_at t serial) t serial (present_list past i) host) host).reads) (wire_is past i)
    ∙ on (is_serial (receiver_in ((terms past).sent serial)) (suc i)) (got_by (answered_at (terms past) serial) (terms past) serial (present_list past i) host) host
    (ap (λ so. is_serial (receiver_in so) (suc i)) sent ∙ ap (λ n. nat_eq n (suc i)) to_is ∙ itself (suc i))
    ∙ got_by_reads (answered_at (terms past) serial) (terms past) serial (present_list past i) host

-- one that times out
abbrev pub over_if : Bool → ℕ → Option ℕ
over_if true serial = Some serial
over_if false serial = None

late_by : (b : Bool) (serial : ℕ) (host : Host)
    → (cond b (record host { reads = without_read serial host.reads }) host).reads ≡ filter (λ (read : StateRead). not (is_gone (over_if b serial) read.serial)) host.reads
late_by true serial host = refl
late_by false serial host = sym (all_kept host.reads)

pub late_reads : (serial : ℕ) (past : List Moment) (i : ℕ)
    → Reads (said (notes.TimedOut serial) ∷ past) i ≡ filter (λ (read : StateRead). not (is_gone (over_if (is_serial (sender_in ((terms past).sent serial)) (suc i)) serial) read.serial))
    (Reads past i)
late_reads serial past i =
    let host = host_at past i in
    ap (λ (t : Terms). (cond (is_serial (sender_in (t.sent serial)) (suc i)) (record host { reads = without_read serial host.reads }) host).reads) (wire_is past i)
    ∙ late_by (is_serial (sender_in ((terms past).sent serial)) (suc i)) serial host

-- ---- a generation is seen
pub seen_reads : (generation : ℕ) (past : List Moment) (i : ℕ)
    → Reads (said (notes.Seen (suc i) generation) ∷ past) i ≡ (reset_seen (not (nat_eq generation ((terms past).generation (suc i)))) (host_at past i)).reads
seen_reads generation past i =
    let host = host_at past i in
    on (nat_eq (suc i) (suc i)) (reset_seen (not (nat_eq generation ((known_host past i).wire.generation (suc i)))) host) host (itself (suc i))
    ∙ ap (λ (t : Terms). (reset_seen (not (nat_eq generation (t.generation (suc i)))) host).reads) (wire_is past i)
