-- Commands that are to be prepared.
use Rattle.std.specs.Prelude.{◌≡◌, ℕ, ◌<◌, ◌≤◌, ◌^◌, sum, Bool, List, length}
use Rattle.orb_list.specs.declared.request.Request.{Request}

-- a request, with its data and the lengths of its segments
pub record Asked : Type 0 where
  pub cdb : List ℕ
  pub to_initiator : Bool
  pub length : ℕ
  pub payload : List ℕ
  pub segments : List ℕ
  pub max_payload : ℕ
  pub node : ℕ
  pub login : ℕ

abbrev pub asked_of : Request → Asked
asked_of request = record {
  cdb = request.cdb;
  to_initiator = request.to_initiator;
  length = request.length;
  payload = request.payload.now;
  segments = request.segments.now;
  max_payload = request.max_payload;
  node = request.node;
  login = request.login;
}

-- A request of a command: a command block of 12 bytes, a buffer of at most 16,384 bytes, no more data than that, and either no
-- page table or one of at most 64 segments, which together are no longer than the buffer.
pub record IsRequest (asked : Asked) : Type 0 where
  pub cdb : length asked.cdb ≡ 12
  pub short : asked.length ≤ 16384
  pub payload : length asked.payload ≤ asked.length
  pub segments : length asked.segments ≤ 64
  pub whole : sum asked.segments ≤ asked.length
  pub max_payload : asked.max_payload < 2 ^ 4
