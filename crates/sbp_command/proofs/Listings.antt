-- A listing of packets ends as its status says.
use Rattle.std.proofs.Common.{◌≡◌, ◌∙◌, refl, sym, ap, subst, ℕ, suc, ◌+◌, List, [], ◌∷◌, ◌++◌, take, drop, length, Some, None, Result, Err, append_assoc, append-nil}
use Rattle.std.specs.Prelude.{IfSome, nat_lt, if◌then◌else◌, Bool, true, false}
use Rattle.std.specs.Io.KnownBytes.{Appends}
use Rattle.std.specs.Str.Lines.{lines}
use Rattle.std.proofs.Math.Seq.{take-append_seam}
use Rattle.std.proofs.lemmas.List.{take-append-drop}
use Rattle.rbc_disk.specs.Held.{Held}
use Rattle.line_session.specs.Lines.{limit_fault, too_many, too_long}
use Rattle.line_session.specs.Outside.{Outside}
use Rattle.line_session.specs.Meaning.{RefusedFor, fault_text}
use Rattle.line_session.specs.Ends.{Ends, Brings}
use Rattle.line_session.specs.Ends as stream
use Rattle.line_session.specs.Ends.Brings.{lines_alone, with_fault, with_end}
use Rattle.line_session.specs.declared.status.Status.{Status}
use Rattle.line_session.specs.declared.status.Status.TheVariants as stream_statuses
use Rattle.line_session.proofs.Sessions.{begins, stops}
use Rattle.line_text.specs.Digits.{spelled}
use Rattle.packet_listing.specs.Listing.{onto_listing, listing_from, line_listing, of_digits, listing}
use Rattle.packet_listing.specs.Meaning.{list_meaning}
use Rattle.packet_listing.proofs.Listings.{behind, listing-next}
use Rattle.sbp_command.specs.Scripts.{ending}
use Rattle.sbp_command.specs.Headline.{status_of, whole_text, KeepsMedia, TornListing, ListingEnds}

refused_cases : (many long : Bool) (read : Result (List ℕ) ℕ) (fault : ℕ)
    → RefusedFor (if many then Some too_many else if long then Some too_long else None) ((if many then Err too_many else if long then Err too_long else read) ≡ Err fault) fault
    → (if many then Err too_many else if long then Err too_long else read) ≡ Err fault
refused_cases true long read fault r = ap Err (sym r)
refused_cases false true read fault r = ap Err (sym r)
refused_cases false false read fault r = r

-- a line that is refused has this fault
refused-listing : (n : ℕ) (line : List ℕ) (fault : ℕ) → RefusedFor (limit_fault n line) (line_listing n line ≡ Err fault) fault → line_listing n line ≡ Err fault
refused-listing n line fault r = refused_cases (nat_lt 65536 n) (nat_lt 8192 (length line)) (of_digits (spelled line)) fault r

-- the listing of lines before a faulty one
faulty : (served : List (List ℕ)) (line : List ℕ) (others : List (List ℕ)) (text : List ℕ) (fault : ℕ) → listing_from 1 served ≡ record { text = text; fault = None } → line_listing (1 + length served) line ≡ Err fault
    → listing_from 1 (served ++ line ∷ others) ≡ record { text = text; fault = Some (1 + length served, fault) }
faulty served line others text fault h read =
    listing-next served line others text h
    ∙ ap (λ r. behind (record { text = text; fault = None }) (onto_listing (1 + length served) r (listing_from (suc (1 + length served)) others))) read
    ∙ ap (λ t. record { text = t; fault = Some (1 + length served, fault) }) (append-nil text)

-- what the lines may have brought is a front of the whole
front_of : (served others : List (List ℕ)) (input text : List ℕ) → lines input ≡ served ++ others → listing_from 1 served ≡ record { text = text; fault = None } → (more : List ℕ) × (whole_text (listing input) ≡ text ++ more)
front_of served [] input text e h = ([], ap (λ ls. whole_text (listing_from 1 ls)) (e ∙ append-nil served) ∙ ap whole_text h)
front_of served (line ∷ others) input text e h =
    let after = onto_listing (1 + length served) (line_listing (1 + length served) line) (listing_from (suc (1 + length served)) others) in
    (after.text ++ ending after.fault, ap (λ ls. whole_text (listing_from 1 ls)) e ∙ ap whole_text (listing-next served line others text h) ∙ append_assoc text after.text (ending after.fault))

-- a front of a front of the whole was written
torn_front : (before now : Outside) (input output more : List ℕ) (len : ℕ) → IfSome before.left (λ bytes. bytes ≡ input) → whole_text (listing input) ≡ output ++ more → KeepsMedia before now → Appends before.written now.written (take len output) → TornListing before now
torn_front before now input output more len told e kept w = record {
  input = input;
  len = length (take len output);
  told = told;
  written = subst (Appends before.written now.written)
      (sym (ap (take (length (take len output))) (e ∙ ap (λ x. x ++ more) (sym (take-append-drop len output)) ∙ append_assoc (take len output) (drop len output) more) ∙ take-append_seam (take len output) (drop len output ++ more))) w;
  media = kept;
}

torn_by : (before now : Outside) (served others : List (List ℕ)) (input output : List ℕ) (len : ℕ) (media : Held) {S : Type 0} → IfSome before.left (λ bytes. bytes ≡ input) → lines input ≡ served ++ others
    → Brings (list_meaning {S = S}) before.media served others media output → now.media ≡ media → Appends before.written now.written (take len output) → TornListing before now
torn_by before now served others input output len media told e (lines_alone text (state, h)) stays w =
    let more = front_of served others input output e h.listed in
    torn_front before now input output more.0 len told more.1 (stays ∙ h.kept) w
torn_by before now served others input output len media told e (with_fault text line behind fault (state, h) f refused) stays w =
    let found = faulty served line behind text fault h.listed (refused-listing (1 + length served) line fault refused) in
    torn_front before now input output [] len told (ap (λ ls. whole_text (listing_from 1 ls)) (e ∙ ap (λ ls. served ++ ls) f) ∙ ap whole_text found ∙ sym (append-nil output)) (stays ∙ h.kept) w
torn_by before now served others input output len media told e (with_end text f h) stays w =
    let more = front_of served others input output e h.listed in
    torn_front before now input output more.0 len told more.1 (stays ∙ h.kept) w

torn : (S : Type 0) (before now : Outside) → stream.Torn (list_meaning {S = S}) before now → TornListing before now
torn S before now t = torn_by before now t.served t.others t.input t.output t.len t.media t.told t.input_is t.brings t.stays t.written

pub listing_ends : (S : Type 0) (status : Status) (before now : Outside) → Ends (list_meaning {S = S}) status before now → ListingEnds (status_of status) before now
listing_ends S stream_statuses.Done before now (end, t) = (
  end,
  record {
    input = t.input;
    told = t.told;
    fault_is = ap (λ l. l.fault) t.closed.listed;
    written = subst (Appends before.written now.written) (ap (λ l. l.text) (sym t.closed.listed) ∙ sym (append-nil (listing t.input).text)) t.written;
    media = t.closed.kept;
    no_fault = t.no_fault;
  },
)
listing_ends S stream_statuses.Script before now t =
    let h = t.ran.1 in
    let found : listing t.input ≡ record { text = t.text; fault = Some (1 + length t.served, t.fault) }
    = ap (listing_from 1) t.input_is ∙ faulty t.served t.line t.others t.text t.fault h.listed (refused-listing (1 + length t.served) t.line t.fault t.refused) in (
      (1 + length t.served, t.fault),
      record {
        input = t.input;
        told = t.told;
        fault_is = ap (λ l. l.fault) found;
        written = subst (λ x. Appends before.written now.written (x ++ fault_text (1 + length t.served) t.fault)) (ap (λ l. l.text) (sym found)) t.written;
        media = h.kept;
        no_fault = t.no_fault;
      },
    )
listing_ends S stream_statuses.ReadFault before now (rose, t) = (
  rose,
  let h = t.ran.1 in
      record {
        whole = t.whole;
        rest = t.rest;
        consumed = t.consumed;
        is_whole = t.is_whole;
        no_feed = t.no_feed;
        short = t.short;
        fault_is = ap (λ l. l.fault) h.listed;
        written = subst (Appends before.written now.written) (ap (λ l. l.text) (sym h.listed)) t.written;
        media = h.kept;
      },
)
listing_ends S stream_statuses.WriteFault before now (rose, t) = (rose, torn S before now t.0)
listing_ends S stream_statuses.NoMemory before now (no_fault, t) = (no_fault, torn S before now t)

-- no line was read
pub not_begun : (S : Type 0) (before : Outside) (state : S) → ListingEnds (status_of stream_statuses.NoMemory) before before
not_begun S before state = listing_ends S stream_statuses.NoMemory before before (stops list_meaning before before before.media [] _ state (begins list_meaning before state (record { listed = refl; kept = refl })) refl)
