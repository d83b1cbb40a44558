-- The label of each request (IEEE 1394-1995, transaction layer), by what a target was handed and what it gave. A label to a peer is under
-- way from the request that was given with it until a response of that peer with that label is got; it rests from a time-out of its
-- transaction until a later generation is seen; else it is free. A write may not take a free label whose last request in this generation
-- has its bytes. A request has the lowest label that it may take, and finds none, and is not given, exactly where it may take none, or
-- where five other peers have the tables.
use Rattle.std.specs.Prelude.{◌≡◌, ◌<◌, ℕ, ◌==◌, ◌&&◌, ◌||◌, not, Bool, true, false, if◌then◌else◌, List, [], ◌∷◌, Option, Some, None, Result, Ok, Err}
use Rattle.std.specs.Option.{IsSome}
use Rattle.async_packet.specs.declared.fault.PacketFault.{PacketFault}
use Rattle.async_packet.specs.Labels.{LabelParts}
use Rattle.async_packet.specs.Packet.{Packet, header_in}
use Rattle.async_packet.specs.Reading.{reading}
use Rattle.label_table.specs.declared.judgement.Asked.{Asked}
use Rattle.label_table.specs.declared.reply.ReplyKind.{ReplyKind}
use Rattle.label_table.specs.declared.reply.Stale.{Stale}
use Rattle.label_table.specs.Layer.{Layer, Finding, of_response, asking_step, expiring_step, judging_step, seeing_step, unlabelled, peer_place, new_layer}
use Rattle.label_table.specs.Requests.{with_label, is_write, is_last, reply_kind}
use Rattle.label_table.specs.History as wire
use Rattle.sbp_journal.specs.declared.cause.Judged.{Judged}
use Rattle.sbp_journal.specs.declared.cause.Judged.TheVariants as judged
use Rattle.sbp_journal.specs.declared.outbox.Outgoing.{Outgoing}
use Rattle.sbp_journal.specs.Outgoings.{empty_outbox}
use Rattle.sbp_target.specs.declared.purpose.Purpose.{Purpose}
use Rattle.sbp_target.specs.Nodes.{NodeState, scene}
use Rattle.sbp_target.specs.Replies.{whole}
use Rattle.sbp_target.specs.Receiving.{received, expired, seen}
use Rattle.sbp_target.specs.Calls.{Call, receives, lets_expire, sees, ticks, sets_key, alone, after, packets_after}
use Rattle.sbp_target.specs.Histories.Layers.{layer_after, packets_of}

-- ---- what happened to labels
-- a request was given to a peer under a label, with these bytes; a response of a peer with a label was got; the transaction with a peer
-- under a label timed out; a later generation was seen
pub data Happening : Type 0 where
  sent : (peer number : ℕ) → (bytes : List ℕ) → Happening
  answered : (peer number : ℕ) → Happening
  timed_out : (peer number : ℕ) → Happening
  reset : Happening

pub data Use : Type 0 where
  free : Use
  under_way : Use
  resting : Use

-- what a label to a peer is in, after what happened, the latest first; and the last request under it
abbrev pub use_of : List Happening → (peer number : ℕ) → Use
use_of [] peer number = free
use_of (sent p n bytes ∷ past) peer number = if peer == p && number == n then under_way else use_of past peer number
use_of (answered p n ∷ past) peer number = if peer == p && number == n then free else use_of past peer number
use_of (timed_out p n ∷ past) peer number = if peer == p && number == n then resting else use_of past peer number
use_of (reset ∷ past) peer number = free

abbrev pub last_request : List Happening → (peer number : ℕ) → Option (List ℕ)
last_request [] peer number = None
last_request (sent p n bytes ∷ past) peer number = if peer == p && number == n then Some bytes else last_request past peer number
last_request (answered p n ∷ past) peer number = last_request past peer number
last_request (timed_out p n ∷ past) peer number = last_request past peer number
last_request (reset ∷ past) peer number = None

abbrev pub is_free : Use → Bool
is_free free = true
is_free under_way = false
is_free resting = false

abbrev pub may_take : List Happening → (peer number : ℕ) → List ℕ → Bool
may_take past peer number bytes =
    is_free (use_of past peer number) && (not (is_write bytes) || not (is_last (last_request past peer number) (with_label number bytes)))

-- a request has the lowest label that it may take, and has it in its bytes
pub record HasLowest (past : List Happening) (peer number : ℕ) (bytes : List ℕ) : Type 0 where
  pub small : number < 64
  pub written : with_label number bytes ≡ bytes
  pub takes : may_take past peer number bytes ≡ true
  pub lowest : (other : ℕ) → other < number → may_take past peer other bytes ≡ false

abbrev pub AreLowest : List Happening → Type 0
AreLowest [] = Unit {0}
AreLowest (sent peer number bytes ∷ past) = HasLowest past peer number bytes × AreLowest past
AreLowest (_ ∷ past) = AreLowest past

-- ---- what happened in calls
-- the packets that a call gave: those with a label are requests
abbrev pub given : Option LabelParts → Outgoing → List Happening → List Happening
given None packet past = past
given (Some label) packet past = sent packet.to label.number packet.bytes ∷ past

abbrev pub gave : List Outgoing → List Happening → List Happening
gave [] past = past
gave (packet ∷ packets) past = gave packets (given packet.label packet past)

-- a packet that was got, where it is a response
abbrev pub got_as : Option ReplyKind → Packet → List Happening → List Happening
got_as None p past = past
got_as (Some kind) p past = answered (header_in p).source (header_in p).label ∷ past

abbrev pub got_read : Result Packet PacketFault → List Happening → List Happening
got_read (Err fault) past = past
got_read (Ok p) past = got_as (reply_kind p) p past

abbrev pub got : Judged → List ℕ → List Happening → List Happening
got judged.Got bytes past = got_read (reading bytes) past
got (judged.Ignored cause) bytes past = past

-- a time-out of a transaction that was under way
abbrev pub ran_out : {A : Type 0} → Result A Stale → ℕ → LabelParts → List Happening → List Happening
ran_out (Err stale) peer label past = past
ran_out (Ok done) peer label past = timed_out peer label.number ∷ past

abbrev pub saw : (is_later : Bool) → List Happening → List Happening
saw is_later past = if is_later then reset ∷ past else past

-- what a call of a target was handed, by its answer
abbrev pub handed : Call → NodeState → List Happening → List Happening
handed (receives told disks generation bytes) node past = got (received told generation bytes (whole (scene node empty_outbox) disks)).0 bytes past
handed (lets_expire peer label) node past = ran_out (expired peer label (scene node empty_outbox)).0 peer label past
handed (sees generation id) node past = saw (seen generation id (scene node empty_outbox)).0 past
handed ticks node past = past
handed (sets_key unit key) node past = past

-- what happened in all calls of a target from the start
abbrev pub course : ℕ → ℕ → List Call → List Happening
course units ready [] = []
course units ready (call ∷ calls) =
    let node = after units ready calls in gave (alone call node).outbox.packets (handed call node (course units ready calls))

-- ---- requests that find no label
-- what happened in steps of the transaction layer
abbrev pub closed : Finding Purpose → List Happening → List Happening
closed (of_response p label purpose) past = answered (header_in p).source (header_in p).label ∷ past
closed _ past = past

abbrev pub asked_of : ℕ → Option Asked → List Happening → List Happening
asked_of peer None past = past
asked_of peer (Some asked) past = sent peer asked.label.number asked.bytes ∷ past

abbrev pub happened : wire.Call Purpose → Layer Purpose → List Happening → List Happening
happened (wire.judges generation bytes) layer past = closed (judging_step layer generation bytes).0 past
happened (wire.answers p bytes rcode given) layer past = past
happened (wire.asks peer body purpose) layer past = asked_of peer (asking_step layer peer body purpose).0 past
happened (wire.lets_expire peer label) layer past = ran_out (expiring_step layer peer label).0 peer label past
happened (wire.disowns peer label) layer past = past
happened (wire.sees generation id) layer past = saw (seeing_step layer generation id).0 past

-- in a list of them from a layer on, the latest first
abbrev pub course_of : Layer Purpose → List (wire.Call Purpose) → List Happening → List Happening
course_of layer [] past = past
course_of layer (step ∷ steps) past = happened step (layer_after layer steps) (course_of layer steps past)

-- what a request finds that has these bytes but for its label
abbrev pub IsFound : Option Asked → Layer Purpose → List Happening → (peer : ℕ) → List ℕ → Type 0
IsFound (Some asked) layer past peer bytes =
    HasLowest past peer asked.label.number asked.bytes × (asked.bytes ≡ with_label asked.label.number bytes)
IsFound None layer past peer bytes = IsSome (peer_place peer layer) → (number : ℕ) → number < 64 → may_take past peer number bytes ≡ false

-- each request of a list of steps, at its moment
abbrev pub AreFound : Layer Purpose → List (wire.Call Purpose) → Type 0
AreFound layer [] = Unit {0}
AreFound layer (wire.asks peer body purpose ∷ steps) =
    let now = layer_after layer steps in
    IsFound (asking_step now peer body purpose).0 now (course_of layer steps []) peer (unlabelled now peer body) × AreFound layer steps
AreFound layer (_ ∷ steps) = AreFound layer steps

-- steps of a layer in which this happened, with these packets, that lead to another
pub record IsLabelledRun (node : ℕ) (layer : Layer Purpose) (packets : List Outgoing) (past : List Happening) : Type 0 where
  pub steps : List (wire.Call Purpose)
  pub layer_is : wire.after node steps ≡ layer
  pub packets_are : packets ≡ packets_of (new_layer node) steps
  pub course_is : course_of (new_layer node) steps [] ≡ past
  pub found : AreFound (new_layer node) steps

-- Over every list of calls each request that was given has the lowest label, and each that was not found none.
pub record LabelLaw : Type 0 where
  pub lowest : (units ready : ℕ) (calls : List Call) → AreLowest (course units ready calls)
  pub found : (units ready : ℕ) (calls : List Call) → IsLabelledRun 0xffc0 (after units ready calls).layer (packets_after units ready calls) (course units ready calls)
