-- A listing grows by a line.
use Rattle.std.proofs.Common.{◌≡◌, ◌∙◌, refl, sym, ap, ℕ, suc, ◌+◌, ◌≤◌, nat_lt, Bool, true, false, if◌then◌else◌, List, [], ◌∷◌, ◌++◌, length, None, Result, Ok, Err, append_assoc, append-nil, add-zero, arith}
use Rattle.std.proofs.lemmas.Bool.{le-ltb}
use Rattle.rbc_disk.specs.Held.{Held}
use Rattle.line_session.specs.Lines.{too_many, too_long}
use Rattle.line_session.specs.Meaning.{Serves}
use Rattle.line_session.specs.declared.serve.LineError.{LineError}
use Rattle.line_session.specs.declared.serve.LineError.TheVariants.{Fault, NoMemory}
use Rattle.line_text.specs.Digits.{spelled}
use Rattle.packet_listing.specs.Listing.{Listing, onto_listing, listing_from, line_listing, of_digits}
use Rattle.packet_listing.specs.Meaning.{ListedSo, ListsLine, list_meaning}

-- one listing behind another
abbrev pub behind : Listing → Listing → Listing
behind first second = record { text = first.text ++ second.text; fault = second.fault }

onto-behind : (n : ℕ) (read : Result (List ℕ) ℕ) (first second : Listing) → (onto_listing n read first).fault ≡ None → onto_listing n read (behind first second) ≡ behind (onto_listing n read first) second
onto-behind n (Ok text) first second h = ap (λ t. record { text = t; fault = second.fault }) (sym (append_assoc text first.text second.text))
onto-behind n (Err fault) first second h = cc h

onto-none : (n : ℕ) (read : Result (List ℕ) ℕ) (first : Listing) → (onto_listing n read first).fault ≡ None → first.fault ≡ None
onto-none n (Ok text) first h = h
onto-none n (Err fault) first h = cc h

-- behind lines without a fault the listing goes on
pub listing_from-append : (n : ℕ) (ls ms : List (List ℕ)) → (listing_from n ls).fault ≡ None → listing_from n (ls ++ ms) ≡ behind (listing_from n ls) (listing_from (n + length ls) ms)
listing_from-append n [] ms h = ap (λ m. listing_from m ms) (sym (add-zero n))
listing_from-append n (line ∷ ls) ms h =
    let moved : suc n + length ls ≡ n + suc (length ls) = omega arith in
    ap (onto_listing n (line_listing n line)) (listing_from-append (suc n) ls ms (onto-none n (line_listing n line) (listing_from (suc n) ls) h))
    ∙ onto-behind n (line_listing n line) (listing_from (suc n) ls) (listing_from (suc n + length ls) ms) h
    ∙ ap (λ m. behind (onto_listing n (line_listing n line) (listing_from (suc n) ls)) (listing_from m ms)) moved

-- behind lines of which all is known, the next one is read
pub listing-next : (served : List (List ℕ)) (line : List ℕ) (others : List (List ℕ)) (text : List ℕ) → listing_from 1 served ≡ record { text = text; fault = None }
    → listing_from 1 (served ++ line ∷ others) ≡ behind (record { text = text; fault = None }) (onto_listing (1 + length served) (line_listing (1 + length served) line) (listing_from (suc (1 + length served)) others))
listing-next served line others text e = listing_from-append 1 served (line ∷ others) (ap (λ l. l.fault) e) ∙ ap (λ l. behind l (listing_from (1 + length served) (line ∷ others))) e

onto-ok : (n : ℕ) (read : Result (List ℕ) ℕ) (text : List ℕ) (rest : Listing) → read ≡ Ok text → onto_listing n read rest ≡ record { text = text ++ rest.text; fault = rest.fault }
onto-ok n read text rest e = ap (λ r. onto_listing n r rest) e

-- one more line
listed_more : (served : List (List ℕ)) (line text brought : List ℕ) → listing_from 1 served ≡ record { text = text; fault = None } → line_listing (1 + length served) line ≡ Ok brought
    → listing_from 1 (served ++ line ∷ []) ≡ record { text = text ++ brought; fault = None }
listed_more served line text brought e read =
    listing-next served line [] text e ∙ ap (behind (record { text = text; fault = None })) (onto-ok (1 + length served) _ brought (listing_from (suc (1 + length served)) []) read)
    ∙ ap (λ t. record { text = text ++ t; fault = None }) (append-nil brought)

within_cases : (many long : Bool) (read : Result (List ℕ) ℕ) → many ≡ false → long ≡ false → (if many then Err too_many else if long then Err too_long else read) ≡ read
within_cases true long read m l = cc m
within_cases false true read m l = cc l
within_cases false false read m l = refl

-- a line within the limits is read by its digits alone
within : (n : ℕ) (line : List ℕ) → n ≤ 65536 → length line ≤ 8192 → line_listing n line ≡ of_digits (spelled line)
within n line few short = within_cases (nat_lt 65536 n) (nat_lt 8192 (length line)) (of_digits (spelled line)) (le-ltb 65536 n few) (le-ltb 8192 (length line) short)

-- a line is served as it is listed
pub lists : {S : Type 0} (result : Result (Unit {0}) LineError) (number : ℕ) (line before after : List ℕ) (state : S) (start media : Held) (served : List (List ℕ)) (front : List ℕ)
    → number ≤ 65536 → length line ≤ 8192 → ListsLine result line before after → number ≡ 1 + length served → ListedSo start served (front ++ before) media
    → Serves list_meaning (λ fault. line_listing (1 + length served) line ≡ Err fault) result start served line (front ++ after) state media media
lists (Ok done) number line before after state start media served front few short t e h =
    let read : line_listing (1 + length served) line ≡ Ok t.0 = within (1 + length served) line (omega arith) short ∙ t.1 in
    record {
      listed = listed_more served line (front ++ before) t.0 h.listed read ∙ ap (λ x. record { text = x; fault = None }) (append_assoc front before t.0 ∙ ap (λ x. front ++ x) (sym t.2));
      kept = h.kept;
    }
lists (Err (Fault fault)) number line before after state start media served front few short t e h =
    (within (1 + length served) line (omega arith) short ∙ t.0, (state, record { listed = h.listed ∙ ap (λ x. record { text = front ++ x; fault = None }) (sym t.1); kept = h.kept }))
lists (Err NoMemory) number line before after state start media served front few short t e h = refl
