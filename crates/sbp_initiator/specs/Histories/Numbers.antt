-- The running number (NCITS 325-1998, DOORBELL and AGENT_RESET). Each write of DOORBELL or AGENT_RESET carries the running number as its
-- one quadlet. Over every list of calls no two of these writes that were handed out carry the same value, over all lists and logins:
-- each carries more than every one before it. They are read off the requests that the transaction layer took, whose packets are those
-- that were handed out, in order.
use Rattle.std.specs.Prelude.{◌≡◌, ◌<◌, ℕ, ◌+◌, Bool, true, false, List, [], ◌∷◌, Option, Some, None}
use Rattle.label_table.specs.declared.judgement.Asked.{Asked}
use Rattle.label_table.specs.Bodies.{Body, quadlet_write}
use Rattle.label_table.specs.Layer.{Layer, asking_step}
use Rattle.label_table.specs.History as wire
use Rattle.sbp_journal.specs.declared.outbox.Outgoing.{Outgoing}
use Rattle.sbp_initiator.specs.declared.purpose.Purpose.{Purpose}
use Rattle.sbp_initiator.specs.declared.purpose.Purpose.TheVariants as purposes
use Rattle.sbp_initiator.specs.Histories.Laws.{Call, AreCalls, after, packets_of}

-- the writes that carry the running number
abbrev pub is_numbered : Purpose → Bool
is_numbered purposes.Doorbell = true
is_numbered (purposes.AgentReset act) = true
is_numbered _ = false

-- the value of a quadlet that is written
abbrev pub value_of : Body → Option ℕ
value_of (quadlet_write offset value) = Some value
value_of _ = None

-- a request that found a label is one of these writes, with its value
abbrev pub numbered_by : Bool → Option Asked → Body → List (Option ℕ) → List (Option ℕ)
numbered_by true (Some asked) body values = value_of body ∷ values
numbered_by _ _ body values = values

-- what the DOORBELL and AGENT_RESET writes carry that a layer took, the latest first
abbrev pub carried : ℕ → List (wire.Call Purpose) → List (Option ℕ)
carried node [] = []
carried node (wire.asks peer body purpose ∷ calls) =
    numbered_by (is_numbered purpose) (asking_step (wire.after node calls) peer body purpose).0 body (carried node calls)
carried node (_ ∷ calls) = carried node calls

-- Each carries one value, which is more than that of every one before it, and no more than this.
abbrev pub RisesTo : ℕ → List (Option ℕ) → Type 0
RisesTo above [] = Unit {0}
RisesTo above (None ∷ values) = ⊥
RisesTo above (Some value ∷ values) = (value < above) × RisesTo value values

-- The transaction layer is what these calls of it make of a new one, the packets that were handed out are theirs, and the values that
-- their DOORBELL and AGENT_RESET writes carry are all different.
pub record IsNumbered (node running : ℕ) (layer : Layer Purpose) (packets : List Outgoing) : Type 0 where
  pub calls : List (wire.Call Purpose)
  pub layer_is : wire.after node calls ≡ layer
  pub packets_are : packets_of node calls ≡ packets
  pub rises : RisesTo running (carried node calls)

-- Over every list of calls.
abbrev pub NumberLaw : Type 0
NumberLaw =
    (number : ℕ) (ready : Bool) (calls : List Call) → AreCalls calls → IsNumbered (0xffc1 + number) (after number ready calls).1.counts.running (after number ready calls).1.layer (after number ready calls).0.packets
