-- Reading the logins of a query response that was written.
use Rattle.std.proofs.Common.{arith, ◌≡◌, ◌∙◌, ap, ℕ, zero, suc, ◌+◌, ◌*◌, ◌/◌, ◌%◌, ◌^◌, ◌<◌, List, [], ◌∷◌, ◌++◌, length}
use Rattle.std.specs.Prelude.{slice_index_or}
use Rattle.std.specs.List.{AllByRecursion}
use Rattle.std.proofs.Math.Seq.{drop-append-add}
use Rattle.byteorder.specs.Endian.{big_number}
use Rattle.sbp_base.specs.Quadlets.{quad}
use Rattle.orb_layout.specs.declared.query.QueryEntry.{QueryEntry}
use Rattle.orb_layout.specs.Pointers.{quad_bytes}
use Rattle.orb_layout.specs.QueryResponses.{IsQueryEntry, entry_quads, entries_bytes, query_head, query_bytes, query_entry}
use Rattle.orb_layout.specs.ReadBack.{QueryEntriesReadBack}

quad_behind : (front back : List ℕ) (at : ℕ) → quad (front ++ back) (length front + at) ≡ quad back at
quad_behind front back at = ap (λ (l : List ℕ). big_number 4 l) (drop-append-add front back at)

entry_of : ℕ → ℕ → ℕ → QueryEntry
entry_of node login eui = record { node = node; login = login; eui = eui }

-- the login whose quadlets begin at a place
entry_at : List ℕ → ℕ → QueryEntry
entry_at bytes at = entry_of (quad bytes at / 2 ^ 16) (quad bytes at % 2 ^ 16) (quad bytes (at + 4) * 2 ^ 32 + quad bytes (at + 8))

entry_behind : (front back : List ℕ) (at : ℕ) → entry_at (front ++ back) (length front + at) ≡ entry_at back at
unfolding entry_at
entry_behind front back at =
    let first : quad (front ++ back) (length front + at) ≡ quad back at = quad_behind front back at in
    let second : quad (front ++ back) (length front + at + 4) ≡ quad back (at + 4) =
    ap (λ (n : ℕ). quad (front ++ back) n) (let e : length front + at + 4 ≡ length front + (at + 4) = omega arith in e) ∙ quad_behind front back (at + 4) in
    let third : quad (front ++ back) (length front + at + 8) ≡ quad back (at + 8) =
    ap (λ (n : ℕ). quad (front ++ back) n) (let e : length front + at + 8 ≡ length front + (at + 8) = omega arith in e) ∙ quad_behind front back (at + 8) in
    cc

first_entry : (entry : QueryEntry) (rest : List ℕ) → IsQueryEntry entry → entry_at (quad_bytes (entry_quads entry) ++ rest) 0 ≡ entry
unfolding entry_at entry_of
first_entry entry rest h =
    let node : quad (quad_bytes (entry_quads entry) ++ rest) 0 / 2 ^ 16 ≡ entry.node = omega arith in
    let login : quad (quad_bytes (entry_quads entry) ++ rest) 0 % 2 ^ 16 ≡ entry.login = omega arith in
    let eui : quad (quad_bytes (entry_quads entry) ++ rest) 4 * 2 ^ 32 + quad (quad_bytes (entry_quads entry) ++ rest) 8 ≡ entry.eui = omega arith in
    let same : entry_at (quad_bytes (entry_quads entry) ++ rest) 0 ≡ entry_of entry.node entry.login entry.eui = cc in
    same

entries_back : (logins : List QueryEntry) (at : ℕ) (other : QueryEntry) (rest : List ℕ) → AllByRecursion IsQueryEntry logins → at < length logins → entry_at (entries_bytes logins ++ rest) (12 * at) ≡ slice_index_or logins at other
entries_back [] at other rest all h = absurd (omega arith)
entries_back (entry ∷ logins) zero other rest all h = first_entry entry (entries_bytes logins ++ rest) all.0
entries_back (entry ∷ logins) (suc at) other rest all h =
    let place : 12 * suc at ≡ 12 + 12 * at = omega arith in
    ap (λ (n : ℕ). entry_at (entries_bytes (entry ∷ logins) ++ rest) n) place
    ∙ entry_behind (quad_bytes (entry_quads entry)) (entries_bytes logins ++ rest) (12 * at)
    ∙ entries_back logins at other rest all.1 (omega arith)

pub entries_read_back : QueryEntriesReadBack
unfolding entry_at entry_of
entries_read_back logins at other rest all h =
    let second : 8 + 12 * at ≡ 4 + 12 * at + 4 = omega arith in
    let third : 12 + 12 * at ≡ 4 + 12 * at + 8 = omega arith in
    let places : query_entry (query_bytes logins ++ rest) at ≡ entry_at (query_bytes logins ++ rest) (4 + 12 * at) = cc in
    places ∙ entry_behind (quad_bytes (query_head (length logins) ∷ [])) (entries_bytes logins ++ rest) (12 * at) ∙ entries_back logins at other rest all h
