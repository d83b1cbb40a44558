-- What transactions are for is the nodes' own: a transaction layer without it takes the same steps. So each call of a node's layer is the
-- primitive of a move, whatever the node keeps with its transactions.
use Rattle.std.specs.Prelude.{◌≡◌, ℕ, List, map, Option, Some, None, Result, Ok, Err}
use Rattle.async_packet.specs.Labels.{LabelParts}
use Rattle.async_packet.specs.Packet.{Packet}
use Rattle.label_table.specs.declared.reply.Stale.{Stale}
use Rattle.label_table.specs.Bodies.{Body}
use Rattle.label_table.specs.Peers.{PeerPlace}
use Rattle.label_table.specs.Layer.{Layer, Finding, of_generation, of_grammar, of_label, of_response, of_again, of_request, judging_step, answering_step, asking_step, expiring_step, disowning_step, seeing_step}
use Rattle.bus_transactions.specs.Wire.{Node}

module _ {P : Type 0} where
  abbrev pub bare_purpose : Option P → Option (Unit {0})
  bare_purpose None = None
  bare_purpose (Some purpose) = Some tt

  abbrev pub bare_place : PeerPlace P → PeerPlace (Unit {0})
  bare_place place = record { peer = place.peer; table = place.table; purposes = map bare_purpose place.purposes }

  -- the layer without what its transactions are for
  abbrev pub bare : Layer P → Node
  bare layer = record {
    generation = layer.generation;
    node = layer.node;
    calls = layer.calls;
    peers = map bare_place layer.peers;
    filter = layer.filter;
  }

  -- what a delivery is found to be, and what a time-out tells, without it
  abbrev pub bare_finding : Finding P → Finding (Unit {0})
  bare_finding of_generation = of_generation
  bare_finding of_grammar = of_grammar
  bare_finding of_label = of_label
  bare_finding (of_response packet label purpose) = of_response packet label (bare_purpose purpose)
  bare_finding (of_again packet rcode) = of_again packet rcode
  bare_finding (of_request packet) = of_request packet

  abbrev pub bare_result : Result (Option P) Stale → Result (Option (Unit {0})) Stale
  bare_result (Ok purpose) = Ok (bare_purpose purpose)
  bare_result (Err stale) = Err stale

-- an answer and the layer after it
abbrev pub bare_after : {P A B : Type 0} → (A → B) → A × Layer P → B × Node
bare_after told (answer, layer) = (told answer, bare layer)

abbrev pub same : {A : Type 0} → A → A
same a = a

pub record TakesSteps (P : Type 0) : Type 0 where
  pub judges : (layer : Layer P) (generation : ℕ) (bytes : List ℕ) → judging_step (bare layer) generation bytes ≡ bare_after bare_finding (judging_step layer generation bytes)
  pub answers : (layer : Layer P) (request : Packet) (bytes : List ℕ) (rcode : ℕ) (given : List ℕ) → answering_step (bare layer) request bytes rcode given ≡ bare_after same (answering_step layer request bytes rcode given)
  pub asks : (layer : Layer P) (peer : ℕ) (body : Body) (purpose : P) → asking_step (bare layer) peer body tt ≡ bare_after same (asking_step layer peer body purpose)
  pub expires : (layer : Layer P) (peer : ℕ) (label : LabelParts) → expiring_step (bare layer) peer label ≡ bare_after bare_result (expiring_step layer peer label)
  pub disowns : (layer : Layer P) (peer : ℕ) (label : LabelParts) → disowning_step (bare layer) peer label ≡ bare (disowning_step layer peer label)
  pub sees : (layer : Layer P) (generation node : ℕ) → seeing_step (bare layer) generation node ≡ bare_after same (seeing_step layer generation node)
