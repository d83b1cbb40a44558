-- Query responses, 4 bytes and 12 per login (NCITS 325-1998, query logins response).
use Rattle.std.specs.Prelude.{ℕ, ◌+◌, ◌-◌, ◌*◌, ◌/◌, ◌%◌, ◌^◌, ◌<◌, ◌==◌, ◌||◌, nat_lt, not, if◌then◌else◌, List, [], ◌∷◌, ◌++◌, length, Option, Some, None}
use Rattle.std.specs.List.{flat_map}
use Rattle.sbp_base.specs.Quadlets.{quad}
use Rattle.orb_layout.specs.declared.query.QueryEntry.{QueryEntry}
use Rattle.orb_layout.specs.Pointers.{quad_bytes}

-- the first quadlet: the length, and 8 as the greatest number of logins
abbrev pub query_head : ℕ → ℕ
query_head logins = (4 + 12 * logins) * 2 ^ 16 + 8

-- the three quadlets of a login
abbrev pub entry_quads : QueryEntry → List ℕ
entry_quads entry =
    (entry.node * 2 ^ 16 + entry.login) ∷ (entry.eui / 2 ^ 32) ∷ (entry.eui % 2 ^ 32) ∷ []

abbrev pub entries_bytes : List QueryEntry → List ℕ
entries_bytes logins = flat_map (λ entry. quad_bytes (entry_quads entry)) logins

abbrev pub query_bytes : List QueryEntry → List ℕ
query_bytes logins = quad_bytes (query_head (length logins) ∷ []) ++ entries_bytes logins

-- the fields of login `at`, counted from 0, each by its place
abbrev pub query_entry : List ℕ → ℕ → QueryEntry
query_entry bytes at = record {
  node = quad bytes (4 + 12 * at) / 2 ^ 16;
  login = quad bytes (4 + 12 * at) % 2 ^ 16;
  eui = quad bytes (8 + 12 * at) * 2 ^ 32 + quad bytes (12 + 12 * at);
}

-- the number of logins by the length field, also of a response that was cut short
abbrev pub logins_by : ℕ → Option ℕ
logins_by declared =
    if nat_lt declared 4 || nat_lt 100 declared || not ((declared - 4) % 12 == 0)
    then None
    else Some ((declared - 4) / 12)

abbrev pub query_count : List ℕ → Option ℕ
query_count bytes = if nat_lt (length bytes) 4 then None else logins_by (quad bytes 0 / 2 ^ 16)

-- Every field fits its place.
pub record IsQueryEntry (entry : QueryEntry) : Type 0 where
  pub node : entry.node < 2 ^ 16
  pub login : entry.login < 2 ^ 16
  pub eui : entry.eui < 2 ^ 64
