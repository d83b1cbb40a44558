-- Whether the first request behind a step of an agent finds a label does not hang on what the step gave up: a transaction that is disowned keeps its label.
use Rattle.std.proofs.Common.{◌≡◌, ◌∙◌, refl, sym, ap, ℕ, zero, suc, ◌<◌, is_some, Bool, true, false, cond, List, [], ◌∷◌, Option, Some, None, Result, Ok, Err}
use Rattle.std.specs.Prelude.{position, slice_index_or, slice_set}
use Rattle.std.proofs.lemmas.List.Folds.{position_or_len-set}
use Rattle.std.proofs.Math.ListN.{length-set}
use Rattle.async_packet.specs.Labels.{LabelParts}
use Rattle.async_packet.specs.Canon.{canon}
use Rattle.label_table.specs.Bodies.{Body, header_to, request_with}
use Rattle.label_table.specs.Layer.{Layer, asked_at, asking_in, asking_step, disowning_in, disowning_step, peer_at, peer_place, unlabelled}
use Rattle.label_table.specs.Owned.{is_owned_by, is_same_node, or_else, owned_place}
use Rattle.label_table.specs.Peers.{PeerPlace, begun_for, disown_place, no_peer, peer_of, with_purpose}
use Rattle.label_table.specs.Table.{Table, begin_step, is_current}
use Rattle.label_table.specs.declared.judgement.Asked.{Asked}
use Rattle.label_table.specs.declared.reply.NoLabel.{NoLabel}
use Rattle.login_table.specs.declared.login.Login.{Login}
use Rattle.orb_layout.specs.declared.ask.FailCause.{FailCause}
use Rattle.command_agent.specs.Machine.{Machine}
use Rattle.command_agent.specs.declared.step.AgentStep.{AgentStep}
use Rattle.sbp_target.specs.declared.purpose.Purpose.{Purpose}
use Rattle.sbp_target.specs.declared.purpose.Purpose.TheVariants as purposes
use Rattle.sbp_target.specs.declared.purpose.Sent.{Sent}
use Rattle.sbp_target.specs.Agents.{agent_body, ask_main, disowned, dropped_by, main_asked, main_sent, noted, promoted_by, without_ahead}
use Rattle.sbp_target.specs.Nodes.{NodeState, Scene, desk_at}
use Rattle.sbp_target.specs.Sending.{request_step, sent_by}
use Rattle.sbp_world.proofs.Agents.Walk.{Holds, notes_hold}
use Rattle.sbp_laws.specs.Targets.{new_agent}
use Rattle.turn_laws.proofs.EndTries.{found_by}

-- ---- a place with another value of the same test, and of the same table
place_found : {A : Type 0} (p : A → Bool) (xs : List A) (i : ℕ) (y d : A) → p y ≡ p (slice_index_or xs i d) → position p (slice_set xs i y) ≡ position p xs
place_found p xs i y d e = let f = position_or_len-set p xs i y d e in let g = length-set xs i y in rw (f, g)

-- the label of a request, by the tables
abbrev given : Result LabelParts NoLabel × (Table × List ℕ) → Option Asked
given (Ok label, (table, bytes)) = Some (record { label = label; bytes = bytes })
given (Err none, (table, bytes)) = None

abbrev given_in : Option ℕ → (ℕ → Table) → List ℕ → Option Asked
given_in None table bytes = None
given_in (Some k) table bytes = given (begin_step (table k) bytes)

same_given : (k : Option ℕ) (table other : ℕ → Table) (bytes : List ℕ) → ((j : ℕ) → table j ≡ other j) → given_in k table bytes ≡ given_in k other bytes
same_given None table other bytes e = refl
same_given (Some k) table other bytes e = ap (λ t. given (begin_step t bytes)) (e k)

module _ {P : Type 0} where
  table_at : (xs : List (PeerPlace P)) (k j : ℕ) (y : PeerPlace P) → y.table ≡ (slice_index_or xs k no_peer).table → (slice_index_or (slice_set xs k y) j no_peer).table ≡ (slice_index_or xs j no_peer).table
  table_at [] k j y e = refl
  table_at (x ∷ xs) zero zero y e = e
  table_at (x ∷ xs) zero (suc j) y e = refl
  table_at (x ∷ xs) (suc k) zero y e = refl
  table_at (x ∷ xs) (suc k) (suc j) y e = table_at xs k j y e

  given_at : (k : ℕ) (layer : Layer P) (place : PeerPlace P) (peer : ℕ) (purpose : P) (r : Result LabelParts NoLabel × (Table × List ℕ)) → (asked_at k layer (begun_for place peer purpose r)).0 ≡ given r
  given_at k layer place peer purpose (Ok label, (table, bytes)) = refl
  given_at k layer place peer purpose (Err none, (table, bytes)) = refl

  asked_by : (k : Option ℕ) (layer : Layer P) (peer : ℕ) (bytes : List ℕ) (purpose : P) → (asking_in k layer peer bytes purpose).0 ≡ given_in k (λ j. (peer_at layer j).table) bytes
  asked_by None layer peer bytes purpose = refl
  asked_by (Some k) layer peer bytes purpose = given_at k layer (peer_at layer k) peer purpose (begin_step (peer_at layer k).table bytes)

  -- of a layer with another place of the same peer and table
  module _ (layer : Layer P) (k : ℕ) (y : PeerPlace P) (peer_is : peer_of y ≡ peer_of (peer_at layer k)) (table_is : y.table ≡ (peer_at layer k).table) where
    abbrev later : Layer P
    later = record layer { peers = slice_set layer.peers k y }

    owned_same : (who : Option ℕ) → position (is_owned_by peer_of who) later.peers ≡ position (is_owned_by peer_of who) layer.peers
    owned_same who = place_found (is_owned_by peer_of who) layer.peers k y no_peer (ap (λ o. is_same_node o who) peer_is)

    place_same : (peer : ℕ) → peer_place peer later ≡ peer_place peer layer
    unfolding owned_place
    place_same peer = ap (λ o. or_else o (position (is_owned_by peer_of None) later.peers)) (owned_same (Some peer)) ∙ ap (λ o. or_else (position (is_owned_by peer_of (Some peer)) layer.peers) o) (owned_same None)

    asks_same : (peer : ℕ) (body : Body) (purpose : P) → (asking_step later peer body purpose).0 ≡ (asking_step layer peer body purpose).0
    unfolding asking_step
    asks_same peer body purpose =
        let bytes = unlabelled layer peer body in
        asked_by (peer_place peer later) later peer bytes purpose
        ∙ (ap (λ o. given_in o (λ j. (peer_at later j).table) bytes) (place_same peer)
        ∙ (same_given (peer_place peer layer) (λ j. (peer_at later j).table) (λ j. (peer_at layer j).table) bytes (λ j. table_at layer.peers k j y table_is)
        ∙ sym (asked_by (peer_place peer layer) layer peer bytes purpose)))

  disowned_peer : (place : PeerPlace P) (label : LabelParts) → peer_of (disown_place place label) ≡ peer_of place
  disowned_peer place label = by (is_current place.table label)
    where
      by : (b : Bool) → peer_of (cond b (with_purpose place place.table label.number None) place) ≡ peer_of place
      by true = refl
      by false = refl

  disowned_table : (place : PeerPlace P) (label : LabelParts) → (disown_place place label).table ≡ place.table
  disowned_table place label = by (is_current place.table label)
    where
      by : (b : Bool) → (cond b (with_purpose place place.table label.number None) place).table ≡ place.table
      by true = refl
      by false = refl

  disowning_asks : (layer : Layer P) (label : LabelParts) (k : Option ℕ) (peer : ℕ) (body : Body) (purpose : P) → (asking_step (disowning_in k layer label) peer body purpose).0 ≡ (asking_step layer peer body purpose).0
  disowning_asks layer label None peer body purpose = refl
  disowning_asks layer label (Some k) peer body purpose =
      let place = peer_at layer k in asks_same layer k (disown_place place label) (disowned_peer place label) (disowned_table place label) peer body purpose

  pub disowned_asks : (layer : Layer P) (of : ℕ) (label : LabelParts) (peer : ℕ) (body : Body) (purpose : P) → (asking_step (disowning_step layer of label) peer body purpose).0 ≡ (asking_step layer peer body purpose).0
  unfolding disowning_step
  disowned_asks layer of label peer body purpose = disowning_asks layer label (peer_place of layer) peer body purpose

-- a layer with the same peers
pub peers_ask : (layer other : Layer Purpose) → other.peers ≡ layer.peers → other.node ≡ layer.node → (peer : ℕ) (body : Body) (purpose : Purpose) → (asking_step other peer body purpose).0 ≡ (asking_step layer peer body purpose).0
unfolding asking_step
peers_ask layer other p n peer body purpose =
    let bytes = unlabelled layer peer body in
    let same : unlabelled other peer body ≡ bytes = ap (λ id. canon (request_with (header_to id peer 0) body)) n in
    asked_by (peer_place peer other) other peer (unlabelled other peer body) purpose
    ∙ (ap (given_in (peer_place peer other) (λ j. (peer_at other j).table)) same
    ∙ (ap (λ ps. given_in (owned_place peer_of peer ps) (λ j. (slice_index_or ps j no_peer).table) bytes) p ∙ sym (asked_by (peer_place peer layer) layer peer bytes purpose)))

-- ---- behind a step of an agent
module _ (peer : ℕ) (body : Body) (purpose : Purpose) where
  abbrev Answer : Layer Purpose → Option Asked
  Answer layer = (asking_step layer peer body purpose).0

  left_asks : (sent : Option Sent) (layer : Layer Purpose) → Answer (disowned sent layer) ≡ Answer layer
  left_asks None layer = refl
  left_asks (Some sent) layer = disowned_asks layer sent.peer sent.label peer body purpose

  dropped_asks : (dead : Option FailCause) (q : ℕ) (node : NodeState) → Answer (dropped_by dead q node).layer ≡ Answer node.layer
  unfolding without_ahead
  dropped_asks None q node = refl
  dropped_asks (Some cause) q node = left_asks (desk_at node q).ahead node.layer

  promoted_asks : (b : Bool) (q : ℕ) (node : NodeState) → Answer (promoted_by b q node).layer ≡ Answer node.layer
  promoted_asks true q node = refl
  promoted_asks false q node = refl

  pub noted_asks : (q : ℕ) (step : AgentStep) (s : Scene) → Answer (noted q step s).node.layer ≡ Answer s.node.layer
  unfolding noted
  noted_asks q step s = promoted_asks step.promoted q (dropped_by step.dead q s.node) ∙ dropped_asks step.dead q s.node

-- a request finds a label at this layer
abbrev pub finds_in : ℕ → Layer Purpose → Login → Body → Bool
finds_in q layer login body = is_some (asking_step layer login.node body (purposes.Agent q)).0

pub same_found : (f g : Body → Bool) (body : Option Body) → ((b : Body) → body ≡ Some b → f b ≡ g b) → found_by f body ≡ found_by g body
same_found f g None e = refl
same_found f g (Some body) e = e body refl

main_by : (q : ℕ) (login : Login) (s : Scene) (r : Option Asked × Layer Purpose) → (main_sent q login.node s.node (sent_by r s.outbox login.node)).0 ≡ is_some r.0
main_by q login s (Some asked, layer) = refl
main_by q login s (None, layer) = refl

main_found : (body : Option Body) (q : ℕ) (login : Login) (s : Scene) → (main_asked body q login s).0 ≡ found_by (finds_in q s.node.layer login) body
unfolding request_step
main_found None q login s = refl
main_found (Some body) q login s = main_by q login s (asking_step s.node.layer login.node body (purposes.Agent q))

-- the request of a step finds a label as it would have before it
pub asked_found : (q : ℕ) (b : q < 8) (before : NodeState) (m : Machine) (login : Login) (step : AgentStep) (s : Scene) → Holds q before m s.node → (ask_main q login step (noted q step s)).0 ≡ found_by (finds_in q s.node.layer login) (agent_body step.ask (is_some step.ended) login.fifo m.outgoing)
unfolding ask_main
asked_found q b before m login step s h =
    let t = noted q step s in
    let body = agent_body step.ask (is_some step.ended) login.fifo m.outgoing in
    main_found (agent_body step.ask (is_some step.ended) login.fifo (desk_at t.node q).agent.outgoing) q login t
    ∙ (ap (λ (n : Machine). found_by (finds_in q t.node.layer login) (agent_body step.ask (is_some step.ended) login.fifo n.outgoing)) (notes_hold [] q b before new_agent m step s h).agent
    ∙ same_found (finds_in q t.node.layer login) (finds_in q s.node.layer login) body (λ x e. ap (λ o. is_some o) (noted_asks login.node x (purposes.Agent q) q step s)))
