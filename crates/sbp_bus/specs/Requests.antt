-- The latest request of each node to each peer under each label, with its serial.
use Rattle.std.specs.Prelude.{ℕ, ◌+◌, ◌*◌, List, position, nat_eq, replicate, slice_set, slice_index_or, Option, Some, None}
use Rattle.sbp_bus.specs.declared.requests.Request.{Request}

-- By node, peer and label the serial of the latest request, 0 where there was none; and that request.
pub record RequestsState : Type 0 where
  pub serials : List ℕ
  pub requests : List (Option Request)

abbrev pub new_requests : RequestsState
new_requests = record { serials = replicate 1600 0; requests = replicate 1600 None }

-- where the serial of a node's request to a peer under a label stands, of 5 nodes with 64 labels for each peer
abbrev pub place_of : ℕ → ℕ → ℕ → ℕ
place_of node peer label = (node * 5 + peer) * 64 + label

abbrev pub serial_at : RequestsState → ℕ → ℕ → ℕ → ℕ
serial_at requests node peer label = slice_index_or requests.serials (place_of node peer label) 0

abbrev pub request_at : RequestsState → Option ℕ → Option Request
request_at requests (Some place) = slice_index_or requests.requests place None
request_at requests None = None

-- the request with a serial, where it is still the latest one of its node to its peer under its label
abbrev pub find : RequestsState → ℕ → Option Request
find requests serial = request_at requests (position (nat_eq serial) requests.serials)

-- A request to a peer takes the place of the one before it under its label.
unfoldable pub add_step : ℕ → ℕ → Request → RequestsState → RequestsState
add_step serial peer request requests = record {
  serials = slice_set requests.serials (place_of request.node peer request.label.number) serial;
  requests = slice_set requests.requests (place_of request.node peer request.label.number) (Some request);
}
