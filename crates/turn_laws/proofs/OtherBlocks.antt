-- What an agent writes as the status of an ORB, and the management as its response or status block, is no unsolicited status.
use Rattle.std.proofs.Common.{arith, ◌≡◌, refl, sym, ◌<◌, ◌≤◌, ◌^◌, ◌==◌, ◌%◌, ◌&&◌, ℕ, zero, suc, Bool, true, false, List, [], ◌∷◌, length, Option}
use Rattle.std.specs.Prelude.{take}
use Rattle.std.proofs.lemmas.Bool.Decides.{nat_tests}
use Rattle.login_table.specs.declared.login.Login.{Login}
use Rattle.media_bay.specs.Unsolicited.{is_block}
use Rattle.mgmt_agent.specs.Decisions.{entries_of, response_bytes}
use Rattle.mgmt_agent.specs.declared.decision.Response.{Response}
use Rattle.mgmt_agent.specs.declared.decision.Response.TheVariants as responses
use Rattle.orb_layout.specs.LoginResponses.{login_bytes}
use Rattle.orb_layout.specs.QueryResponses.{query_bytes}
use Rattle.orb_layout.specs.StatusBlocks.{status_bytes}
use Rattle.orb_layout.specs.declared.login.LoginResponse.{LoginResponse}
use Rattle.orb_layout.specs.declared.query.QueryEntry.{QueryEntry}
use Rattle.orb_layout.specs.declared.status.StatusKind.{StatusKind}
use Rattle.orb_layout.specs.declared.status.StatusKind.TheVariants as kinds
use Rattle.sbp_base.specs.Quadlets.{quad}
use Rattle.sbp_world.proofs.Common.{untrue}

-- another length, or another first quadlet
by_length : (a b c d : Bool) → a ≡ false → (a && b && c && d) ≡ false
by_length false b c d e = refl
by_length true b c d e = untrue (sym e)

by_head : (a b c d : Bool) → b ≡ false → (a && b && c && d) ≡ false
by_head false b c d e = refl
by_head true false c d e = refl
by_head true true c d e = untrue (sym e)

other_length : (bytes : List ℕ) → (length bytes == 24) ≡ false → is_block bytes ≡ false
other_length bytes e = by_length (length bytes == 24) (quad bytes 0 == 0x85000000) (quad bytes 4 == 0x00000000) (quad bytes 8 == 0x02062800) e

other_head : (bytes : List ℕ) → (quad bytes 0 == 0x85000000) ≡ false → is_block bytes ≡ false
other_head bytes e = by_head (length bytes == 24) (quad bytes 0 == 0x85000000) (quad bytes 4 == 0x00000000) (quad bytes 8 == 0x02062800) e

-- ---- a status block has src 0 or 1
below : (head : ℕ) → head < 2 ^ 31 → (head == 0x85000000) ≡ false
below head b = grind (arith, nat_tests)

pub status_other : (src orb : ℕ) (kind : StatusKind) → src < 2 → orb < 2 ^ 48 → is_block (status_bytes (record { src = src; kind = kind; orb = orb })) ≡ false
status_other src orb kinds.Good s o = other_length (status_bytes (record { src = src; kind = kinds.Good; orb = orb })) refl
status_other src orb (kinds.Check told) s o =
    let bytes = status_bytes (record { src = src; kind = kinds.Check told; orb = orb }) in
    other_head bytes (below (quad bytes 0) (omega (arith, s, o)))
status_other src orb kinds.Dummy s o = other_length (status_bytes (record { src = src; kind = kinds.Dummy; orb = orb })) refl
status_other src orb kinds.Aborted s o = other_length (status_bytes (record { src = src; kind = kinds.Aborted; orb = orb })) refl
status_other src orb (kinds.Illegal meaning) s o = other_length (status_bytes (record { src = src; kind = kinds.Illegal meaning; orb = orb })) refl
status_other src orb kinds.Failed s o = other_length (status_bytes (record { src = src; kind = kinds.Failed; orb = orb })) refl
status_other src orb (kinds.Management meaning) s o = other_length (status_bytes (record { src = src; kind = kinds.Management meaning; orb = orb })) refl

pub managed_other : (src orb meaning : ℕ) → is_block (status_bytes (record { src = src; kind = kinds.Management meaning; orb = orb })) ≡ false
managed_other src orb meaning = other_length (status_bytes (record { src = src; kind = kinds.Management meaning; orb = orb })) refl

-- ---- a response begins with its length, however it is cut
take_short : {A : Type 0} (n : ℕ) (xs : List A) → length (take n xs) ≤ length xs
take_short zero xs = omega arith
take_short (suc n) [] = omega arith
take_short (suc n) (x ∷ xs) = let l = take_short n xs in omega (arith, l)

login_other : (n : ℕ) (response : LoginResponse) → is_block (take n (login_bytes response)) ≡ false
login_other n response =
    let bytes = take n (login_bytes response) in
    let short : length bytes ≤ 16 = take_short n (login_bytes response) in
    other_length bytes (grind (arith, nat_tests))

-- the first quadlet of the response to a query ends with 8
query_other : (n : ℕ) (logins : List QueryEntry) → is_block (take n (query_bytes logins)) ≡ false
query_other zero logins = refl
query_other (suc zero) logins = refl
query_other (suc (suc zero)) logins = refl
query_other (suc (suc (suc zero))) logins = refl
query_other (suc (suc (suc (suc n)))) logins = other_head (take (suc (suc (suc (suc n)))) (query_bytes logins)) (by (quad (take (suc (suc (suc (suc n)))) (query_bytes logins)) 0) (omega arith))
  where
    by : (head : ℕ) → head % 256 ≡ 8 → (head == 0x85000000) ≡ false
    by head e = grind (arith, nat_tests)

pub response_other : (n : ℕ) (response : Response) (places : List (Option Login)) → is_block (take n (response_bytes response places)) ≡ false
unfolding response_bytes
response_other zero responses.Nothing places = refl
response_other (suc n) responses.Nothing places = refl
response_other n (responses.Login response) places = login_other n response
response_other n (responses.Query unit) places = query_other n (entries_of unit places)
