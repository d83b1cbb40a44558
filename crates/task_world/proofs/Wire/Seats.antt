-- The transaction layer of the seat of a task node waits for the same transactions as that of the node.
use Rattle.std.specs.Prelude.{◌≡◌, List, [], ◌∷◌, map, Option, Some, None, refl}
use Rattle.std.proofs.Common.{◌∙◌, ap}
use Rattle.bus_transactions.specs.Bare.{bare, bare_place, bare_purpose}
use Rattle.label_table.specs.Layer.{Layer}
use Rattle.label_table.specs.Peers.{PeerPlace}
use Rattle.task_target.specs.declared.purpose.TaskPurpose.{TaskPurpose}
use Rattle.task_world.specs.Seats.{as_agent, as_agents, retag}

purposes_bare : (xs : List (Option TaskPurpose)) → map bare_purpose (map as_agent xs) ≡ map bare_purpose xs
purposes_bare [] = refl
purposes_bare (None ∷ xs) = ap (λ ys. None ∷ ys) (purposes_bare xs)
purposes_bare (Some purpose ∷ xs) = ap (λ ys. Some tt ∷ ys) (purposes_bare xs)

peers_bare : (ps : List (PeerPlace TaskPurpose)) → map bare_place (map as_agents ps) ≡ map bare_place ps
peers_bare [] = refl
peers_bare (p ∷ ps) =
    ap (λ xs. record { peer = p.peer; table = p.table; purposes = xs } ∷ map bare_place (map as_agents ps)) (purposes_bare p.purposes)
    ∙ ap (λ qs. bare_place p ∷ qs) (peers_bare ps)

pub retag_bare : (layer : Layer TaskPurpose) → bare (retag layer) ≡ bare layer
retag_bare layer = ap (λ ps. record (bare layer) { peers = ps }) (peers_bare layer.peers)
