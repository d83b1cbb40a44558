-- What a transaction layer tells of its node's transactions, over every list of its calls.
use Rattle.std.specs.Prelude.{◌≡◌, ◌≢◌, ℕ, ◌==◌, ◌&&◌, Bool, nat_lt, if◌then◌else◌, List, [], ◌∷◌, Option, Some, None, IfSome, Result, Ok, Err}
use Rattle.async_packet.specs.Labels.{LabelParts}
use Rattle.async_packet.specs.Packet.{Packet, header_in}
use Rattle.label_table.specs.declared.reply.ReplyKind.{ReplyKind}
use Rattle.label_table.specs.declared.reply.Stale.{Stale}
use Rattle.label_table.specs.declared.judgement.Asked.{Asked}
use Rattle.label_table.specs.Requests.{reply_kind, kind_of, label_of}
use Rattle.async_packet.specs.Canon.{IsValid, canon}
use Rattle.label_table.specs.declared.reply.Verdict.TheVariants as verdicts
use Rattle.label_table.specs.Filter.{judge_step}
use Rattle.label_table.specs.Last.{Answered, HadRoom, last_of, verdict_on}
use Rattle.label_table.specs.Bodies.{Body, header_to, request_with}
use Rattle.label_table.specs.Layer.{Layer, Finding, of_label, of_response, new_layer, unlabelled, judging_step, answering_step, asking_step, expiring_step, disowning_step, seeing_step}
use Rattle.async_packet.specs.Reading.{reading}
use Rattle.async_packet.specs.declared.fault.PacketFault.{PacketFault}

-- a call that may change the layer
pub data Call (P : Type 0) : Type 0 where
  judges : (generation : ℕ) → (bytes : List ℕ) → Call P
  answers : (request : Packet) → (bytes : List ℕ) → (rcode : ℕ) → (given : List ℕ) → Call P
  asks : (peer : ℕ) → Body → P → Call P
  lets_expire : (peer : ℕ) → LabelParts → Call P
  disowns : (peer : ℕ) → LabelParts → Call P
  sees : (generation node : ℕ) → Call P

-- What a call tells of a transaction of the node with a peer: it began, for something, and wants a
-- response of this kind; a response closed it, or it expired, and this is what it was for; it was
-- stale; it belongs to nobody; a response of this label and kind closed none; or all are forgotten.
pub data Told (P : Type 0) : Type 0 where
  began : (peer : ℕ) → LabelParts → ReplyKind → P → Told P
  closed : (peer : ℕ) → LabelParts → ReplyKind → Option P → Told P
  expired : (peer : ℕ) → LabelParts → Option P → Told P
  was_stale : (peer : ℕ) → LabelParts → Told P
  disowned : (peer : ℕ) → LabelParts → Told P
  unknown : (peer number : ℕ) → ReplyKind → Told P
  forgotten : Told P

-- What became of a transaction: it did not begin; it is under way, for something or nobody; or it is over.
pub data Life (P : Type 0) : Type 0 where
  not_begun : Life P
  under_way : ReplyKind → Option P → Life P
  over : Life P

-- whether it is the same transaction, by its peer and its handle
unfoldable pub is_same : ℕ → LabelParts → ℕ → LabelParts → Bool
is_same peer label other that =
    ((peer == other) && (label.number == that.number)) && ((label.generation == that.generation) && (label.serial == that.serial))

module _ {P : Type 0} where
  -- one call
  abbrev pub done : Call P → Layer P → Layer P
  done (judges generation bytes) layer = (judging_step layer generation bytes).1
  done (answers request bytes rcode given) layer = (answering_step layer request bytes rcode given).1
  done (asks peer body purpose) layer = (asking_step layer peer body purpose).1
  done (lets_expire peer label) layer = (expiring_step layer peer label).1
  done (disowns peer label) layer = disowning_step layer peer label
  done (sees generation node) layer = (seeing_step layer generation node).1

  -- the layer of a node with this ID after a list of calls, the latest of them first
  abbrev pub after : ℕ → List (Call P) → Layer P
  after node [] = new_layer node
  after node (call ∷ calls) = done call (after node calls)

  -- what is told of a response that is judged, by its kind
  abbrev pub told_closed : Packet → LabelParts → Option P → Option ReplyKind → Option (Told P)
  told_closed p label purpose None = None
  told_closed p label purpose (Some kind) = Some (closed (header_in p).source label kind purpose)

  abbrev pub told_unknown : Packet → Option ReplyKind → Option (Told P)
  told_unknown p None = None
  told_unknown p (Some kind) = Some (unknown (header_in p).source (header_in p).label kind)

  abbrev pub told_by_reading : Result Packet PacketFault → Option (Told P)
  told_by_reading (Err fault) = None
  told_by_reading (Ok p) = told_unknown p (reply_kind p)

  abbrev pub told_by_finding : Finding P → List ℕ → Option (Told P)
  told_by_finding (of_response p label purpose) bytes = told_closed p label purpose (reply_kind p)
  told_by_finding of_label bytes = told_by_reading (reading bytes)
  told_by_finding _ bytes = None

  abbrev pub told_by_asking : ℕ → ReplyKind → P → Option Asked → Option (Told P)
  told_by_asking peer kind purpose (Some asked) = Some (began peer asked.label kind purpose)
  told_by_asking peer kind purpose None = None

  abbrev pub told_by_expiring : ℕ → LabelParts → Result (Option P) Stale → Option (Told P)
  told_by_expiring peer label (Ok purpose) = Some (expired peer label purpose)
  told_by_expiring peer label (Err stale) = Some (was_stale peer label)

  -- what a call tells
  abbrev pub told : Call P → Layer P → Option (Told P)
  told (judges generation bytes) layer = told_by_finding (judging_step layer generation bytes).0 bytes
  told (answers request bytes rcode given) layer = None
  told (asks peer body purpose) layer =
      told_by_asking peer (kind_of (unlabelled layer peer body)) purpose (asking_step layer peer body purpose).0
  told (lets_expire peer label) layer = told_by_expiring peer label (expiring_step layer peer label).0
  told (disowns peer label) layer = Some (disowned peer label)
  told (sees generation node) layer = if nat_lt layer.generation generation then Some forgotten else None

  abbrev pub and_before : Option (Told P) → List (Told P) → List (Told P)
  and_before None notes = notes
  and_before (Some note) notes = note ∷ notes

  -- all that was told, the latest first
  abbrev pub history : ℕ → List (Call P) → List (Told P)
  history node [] = []
  history node (call ∷ calls) = and_before (told call (after node calls)) (history node calls)

  abbrev pub for_nobody : Life P → Life P
  for_nobody (under_way kind purpose) = under_way kind None
  for_nobody life = life

  abbrev pub ended : Life P → Life P
  ended (under_way kind purpose) = over
  ended life = life

  -- what a note makes of a transaction
  abbrev pub lived : Told P → ℕ → LabelParts → Life P → Life P
  lived (began peer label kind purpose) other that life =
      if is_same peer label other that then under_way kind (Some purpose) else life
  lived (closed peer label kind purpose) other that life = if is_same peer label other that then ended life else life
  lived (expired peer label purpose) other that life = if is_same peer label other that then ended life else life
  lived (disowned peer label) other that life = if is_same peer label other that then for_nobody life else life
  lived (was_stale peer label) other that life = life
  lived (unknown peer number kind) other that life = life
  lived forgotten other that life = ended life

  abbrev pub life : ℕ → LabelParts → List (Told P) → Life P
  life peer label [] = not_begun
  life peer label (note ∷ notes) = lived note peer label (life peer label notes)

  abbrev pub IsUnderWay : Life P → Type 0
  IsUnderWay (under_way kind purpose) = Unit {0}
  IsUnderWay _ = ⊥

  abbrev pub IsFor : Option P → Life P → Type 0
  IsFor purpose (under_way kind purpose') = purpose' ≡ purpose
  IsFor purpose _ = ⊥

  -- A transaction begins that did not begin before, under a label under which no other with that
  -- peer is under way. What is closed or expires is under way, and for what is told; what is stale is
  -- not under way. A response that closes none has the label and the kind of none that is under way.
  abbrev pub IsTold : Told P → List (Told P) → Type 0
  IsTold (began peer label kind purpose) notes =
      (life peer label notes ≡ not_begun) × ((other : LabelParts) → IsUnderWay (life peer other notes) → other.number ≢ label.number)
  IsTold (closed peer label kind purpose) notes = life peer label notes ≡ under_way kind purpose
  IsTold (expired peer label purpose) notes = IsFor purpose (life peer label notes)
  IsTold (was_stale peer label) notes = IsUnderWay (life peer label notes) → ⊥
  IsTold (disowned peer label) notes = Unit {0}
  IsTold (unknown peer number kind) notes =
      (label : LabelParts) (purpose : Option P) → label.number ≡ number → life peer label notes ≢ under_way kind purpose
  IsTold forgotten notes = Unit {0}

  abbrev pub AreTold : List (Told P) → Type 0
  AreTold [] = Unit {0}
  AreTold (note ∷ notes) = IsTold note notes × AreTold notes

-- the requests that a node answered since it saw its generation, the latest first
abbrev pub answered : {P : Type 0} → ℕ → List (Call P) → List Answered
answered node [] = []
answered node (answers request bytes rcode given ∷ calls) =
    record { source = (header_in request).source; bytes = bytes; rcode = rcode } ∷ answered node calls
answered node (sees generation id ∷ calls) =
    if nat_lt (after node calls).generation generation then [] else answered node calls
answered node (_ ∷ calls) = answered node calls

-- A request that is answered is remembered with its rcode until the next one of its source and label:
-- over every list of calls, whether a request comes again, and with which rcode, is up to the last one
-- of its source and label that was answered since the node saw its generation. (A sixth source has no
-- room.)
abbrev pub RememberedLaw : Type 0 → Type 0
RememberedLaw P =
    (node : ℕ) (calls : List (Call P)) → HadRoom (answered node calls) → (source : ℕ) (bytes : List ℕ) → judge_step (after node calls).filter source bytes ≢ verdicts.Crowded → judge_step (after node calls).filter source bytes ≡ verdict_on (last_of (answered node calls) source (label_of bytes)) bytes

-- What is asked of a peer, after every list of calls, is the canonical request to that peer, from this
-- node and under the label of the handle.
abbrev pub AskedLaw : Type 0 → Type 0
AskedLaw P =
    (node : ℕ) (calls : List (Call P)) (peer : ℕ) (body : Body) (purpose : P) → IsValid (request_with (header_to (after node calls).node peer 0) body) → IfSome (asking_step (after node calls) peer body purpose).0 (λ asked. asked.bytes ≡ canon (request_with (header_to (after node calls).node peer asked.label.number) body))

-- Over every list of calls, what is told of transactions is so.
abbrev pub ToldLaw : Type 0 → Type 0
ToldLaw P = (node : ℕ) (calls : List (Call P)) → AreTold (history node calls)
