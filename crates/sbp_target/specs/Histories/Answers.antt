-- What leaves in a delivery (IEEE 1394-1995, transaction layer). A request that is got has exactly one response, which is
-- the first packet of its delivery: it goes to the request's source, under its label. All other packets are requests, and no
-- other call gives a response. An ignored packet has the answer that its cause has, alone: none by its generation, its grammar
-- or its label; the rcode given the first time to a write that comes again; and address_error to a request of a register that
-- belongs to no live login of its source. It tells nothing, and leaves the target as it was but for the last requests.
use Rattle.std.specs.Prelude.{◌≡◌, ℕ, List, [], ◌∷◌, Option, Some, None, Result, Ok, Err}
use Rattle.std.specs.Option.{IsSome}
use Rattle.async_packet.specs.declared.fault.PacketFault.{PacketFault}
use Rattle.async_packet.specs.Packet.{Packet, header_in}
use Rattle.async_packet.specs.Canon.{canon}
use Rattle.async_packet.specs.Reading.{reading}
use Rattle.label_table.specs.declared.reply.ReplyKind.{ReplyKind}
use Rattle.label_table.specs.declared.reply.Verdict.TheVariants as verdicts
use Rattle.label_table.specs.Bodies.{response_to}
use Rattle.label_table.specs.Filter.{SourcePlace, judge_step}
use Rattle.label_table.specs.Requests.{reply_kind}
use Rattle.rbc_disk.specs.Disk.{Disk}
use Rattle.rbc_disk.specs.Runs.{Told}
use Rattle.sbp_journal.specs.declared.cause.Cause.{Cause}
use Rattle.sbp_journal.specs.declared.cause.Cause.TheVariants as causes
use Rattle.sbp_journal.specs.declared.cause.Judged.{Judged}
use Rattle.sbp_journal.specs.declared.cause.Judged.TheVariants as judged
use Rattle.sbp_journal.specs.declared.outbox.Outgoing.{Outgoing}
use Rattle.sbp_journal.specs.Outgoings.{empty_outbox}
use Rattle.target_base.specs.Addresses.{address_error}
use Rattle.sbp_target.specs.Nodes.{NodeState, scene}
use Rattle.sbp_target.specs.Replies.{Whole, whole}
use Rattle.sbp_target.specs.Receiving.{received}
use Rattle.sbp_target.specs.Calls.{Call, receives, alone}
use Rattle.sbp_target.specs.Histories.Layers.{response}

-- a request has a label of its own
abbrev pub AreRequests : List Outgoing → Type 0
AreRequests [] = Unit {0}
AreRequests (packet ∷ packets) = IsSome packet.label × AreRequests packets

-- the response of a node to a request, with an rcode and the bytes that a read gives
abbrev pub response_of : ℕ → Packet → ℕ → List ℕ → Outgoing
response_of node p rcode given = response p (canon (response_to node p rcode given))

-- one response, and then requests
pub record IsAnswered (node : ℕ) (p : Packet) (packets : List Outgoing) : Type 0 where
  pub rcode : ℕ
  pub given : List ℕ
  pub more : List Outgoing
  pub packets_are : packets ≡ response_of node p rcode given ∷ more
  pub requests : AreRequests more

-- what is got: a response has none, a request one
abbrev pub IsGotAs : Option ReplyKind → ℕ → Packet → List Outgoing → Type 0
IsGotAs (Some kind) node p packets = AreRequests packets
IsGotAs None node p packets = IsAnswered node p packets

abbrev pub IsGot : Result Packet PacketFault → ℕ → List Outgoing → Type 0
IsGot (Err fault) node packets = ⊥
IsGot (Ok p) node packets = IsGotAs (reply_kind p) node p packets

-- nothing changed but the last requests
pub record IsSameBut (before now : NodeState) : Type 0 where
  pub filter : List SourcePlace
  pub same : now ≡ record before { layer = record before.layer { filter = filter } }

-- a request is answered with this rcode, and that is all
pub record IsAnsweredAlone (before now : NodeState) (bytes : List ℕ) (rcode : ℕ) (packets : List Outgoing) : Type 0 where
  pub packet : Packet
  pub read : reading bytes ≡ Ok packet
  pub packets_are : packets ≡ response_of before.layer.node packet rcode [] ∷ []
  pub same : IsSameBut before now

-- the rcode that a write had the first time is the one that is remembered with it
pub record IsAnsweredAgain (before now : NodeState) (bytes : List ℕ) (packets : List Outgoing) : Type 0 where
  pub rcode : ℕ
  pub source : ℕ
  pub remembered : judge_step before.layer.filter source bytes ≡ verdicts.Again rcode
  pub alone : IsAnsweredAlone before now bytes rcode packets
  pub from : (header_in alone.packet).source ≡ source

abbrev pub IsSilent : NodeState → NodeState → List Outgoing → Type 0
IsSilent before now packets = (now ≡ before) × (packets ≡ [])

abbrev pub IsIgnored : Cause → NodeState → NodeState → List ℕ → List Outgoing → Type 0
IsIgnored causes.Generation before now bytes packets = IsSilent before now packets
IsIgnored causes.Grammar before now bytes packets = IsSilent before now packets
IsIgnored causes.Label before now bytes packets = IsSilent before now packets
IsIgnored causes.Again before now bytes packets = IsAnsweredAgain before now bytes packets
IsIgnored causes.Login before now bytes packets = IsAnsweredAlone before now bytes address_error packets
IsIgnored causes.Source before now bytes packets = ⊥
IsIgnored causes.Slot before now bytes packets = ⊥

abbrev pub IsJudged : Judged → NodeState → List ℕ → List Disk → Whole → Type 0
IsJudged judged.Got before bytes disks after = IsGot (reading bytes) before.layer.node after.outbox.packets
IsJudged (judged.Ignored cause) before bytes disks after =
    IsIgnored cause before after.node bytes after.outbox.packets × (after.outbox.sides ≡ []) × (after.disks ≡ disks)

abbrev pub IsDelivery : Call → Type 0
IsDelivery (receives told disks generation bytes) = Unit {0}
IsDelivery _ = ⊥

pub record AnswerLaw : Type 0 where
  pub deliveries : (told : Option Told) (disks : List Disk) (generation : ℕ) (bytes : List ℕ) (node : NodeState) → IsJudged (received told generation bytes (whole (scene node empty_outbox) disks)).0 node bytes disks (received told generation bytes (whole (scene node empty_outbox) disks)).1
  pub others : (call : Call) (node : NodeState) → (IsDelivery call → ⊥) → AreRequests (alone call node).outbox.packets
