-- A session goes on piece by piece and line by line, and ends as its status says.
use Rattle.std.proofs.Common.{◌≡◌, ◌∙◌, refl, sym, ap, subst, ℕ, ◌+◌, ◌-◌, ◌==◌, ◌<◌, inl, nat_lt, Bool, true, false, if◌then◌else◌, List, [], ◌∷◌, ◌++◌, take, drop, length, Option, Some, None, Result, Ok, Err, append_assoc, append-nil, arith}
use Rattle.std.specs.Prelude.{IfSome, OnOk}
use Rattle.std.specs.Io.KnownBytes.{Appends, Consumes, Keeps, IsAtEnd}
use Rattle.std.proofs.KnownBytes.{Appends-nil, Appends-trans, Consumes-nil, Consumes-trans}
use Rattle.std.specs.Str.Lines.{lines, strip_carriage_return}
use Rattle.std.proofs.Math.Seq.{take-append_seam}
use Rattle.std.proofs.lemmas.Bool.{lt-ltb, eqb-true}
use Rattle.std.proofs.lemmas.List.{take-append-drop, nil_from_length, length-drop, length-take}
use Rattle.sbp_base.specs.Faults.{Rose}
use Rattle.rbc_disk.specs.Held.{Held}
use Rattle.line_session.specs.Lines.{NoFeed, is_surely_long, limit_fault, long_fault, too_long, too_many}
use Rattle.line_session.specs.Outside.{Outside}
use Rattle.line_session.specs.Meaning.{Meaning, Refused, RefusedFor, Ran, fault_text}
use Rattle.line_session.specs.Ends.{Torn, Ends}
use Rattle.line_session.specs.Ends.Brings.{lines_alone, with_fault, with_end}
use Rattle.line_session.specs.Session.{SessionState, WritesFront, Flushes, told, InSession, Faces, AtEnd, GoesOn}
use Rattle.line_session.specs.declared.status.Status.{Status}
use Rattle.line_session.specs.declared.status.Status.TheVariants as statuses
use Rattle.line_session.proofs.Writes.{rest_slice}
use Rattle.line_session.proofs.Lines.{lines-whole, lines-one, lines-one_more, lines-last_some, lines-count, whole-line, no_feed-append, long_first}

-- the bytes that a source has left, as far as it tells them
abbrev known : Option (List ℕ) → List ℕ
known None = []
known (Some bytes) = bytes

input_is : (before now : Option (List ℕ)) (bytes : List ℕ) → Consumes before now bytes → IfSome before (λ all. all ≡ bytes ++ known now)
input_is None now bytes h = tt
input_is (Some all) None bytes h = absurd h
input_is (Some all) (Some left) bytes h = h

known_end : (left : Option (List ℕ)) → IsAtEnd left → known left ≡ []
known_end None h = refl
known_end (Some bytes) h = h

input_same : (before : Option (List ℕ)) (bytes bytes' : List ℕ) → bytes ≡ bytes' → IfSome before (λ all. all ≡ bytes) → IfSome before (λ all. all ≡ bytes')
input_same before bytes bytes' e h = subst (λ x. IfSome before (λ all. all ≡ x)) e h

end_input : (before now : Option (List ℕ)) (bytes : List ℕ) → Consumes before now (bytes ++ []) → IsAtEnd now → IfSome before (λ all. all ≡ bytes)
end_input before now bytes h end = input_same before _ bytes (ap (λ left. (bytes ++ []) ++ left) (known_end now end) ∙ append-nil _ ∙ append-nil _) (input_is before now _ h)

rose_since : (before mid now : ℕ) → mid ≡ before → Rose mid now → Rose before now
rose_since before mid now e r = subst (λ n. Rose n now) e r

pub next_number : (n m : ℕ) → n ≡ m → m + 1 ≡ 1 + n
next_number n m e = omega arith

-- a read that failed took nothing
pub keeps_all : (before now : Option (List ℕ)) → Keeps before now → Consumes before now []
keeps_all None now h = tt
keeps_all (Some bytes) None h = absurd h
keeps_all (Some bytes) (Some left) h = sym h

-- a front of all that was brought
seam : (xs ys : List ℕ) → take (length xs) (xs ++ ys) ≡ xs
seam xs ys = take-append_seam xs ys

torn_text : (before now : Option (List ℕ)) (output front behind : List ℕ) → output ≡ front ++ behind → Appends before now front → Appends before now (take (length front) output)
torn_text before now output front behind e w = subst (Appends before now) (sym (ap (take (length front)) e ∙ seam front behind)) w

-- nothing stands behind a front that is all
drop_whole : (n : ℕ) (xs : List ℕ) → take n xs ≡ xs → drop n xs ≡ []
drop_whole n xs e = nil_from_length (drop n xs) (omega (arith, sym (ap length e) ∙ length-take n xs, length-drop n xs))

module _ {S : Type 0} (meaning : Meaning S) where
  -- ---- where a session stops

  -- behind the lines that were served
  pub stops : (before old : Outside) (media : Held) (pending : List ℕ) (state : SessionState) (server : S) → InSession meaning before old pending state server → meaning.stays old.media media
      → Ends meaning statuses.NoMemory before (record old { media = media })
  stops before old media pending state server h stays =
      let more = state.rest ++ (pending ++ known old.left) in
      let regroup : ((h.whole ++ state.rest) ++ pending) ++ known old.left ≡ h.whole ++ more = simp append_assoc in (
        record { reads = h.reads; writes = h.writes },
        record {
          input = h.whole ++ more;
          served = lines h.whole;
          others = lines more;
          media = old.media;
          output = h.front ++ state.out;
          len = length h.front;
          told = input_same before.left _ _ regroup (input_is before.left old.left _ h.consumed);
          input_is = lines-whole h.whole more h.is_whole;
          brings = lines_alone (h.front ++ state.out) (server, h.ran);
          stays = stays;
          written = torn_text before.written old.written _ h.front state.out refl h.written;
        },
      )

  -- ---- a line with its line feed

  module _ (before old : Outside) (part pending : List ℕ) (state : SessionState) (server : S) (h : InSession meaning before old (part ++ 10 ∷ pending) state server) (n : NoFeed part) where
    taken : (h.whole ++ state.rest) ++ (part ++ 10 ∷ pending) ≡ ((h.whole ++ ((state.rest ++ part) ++ 10 ∷ [])) ++ []) ++ pending
    taken = simp (append_assoc, append-nil)

    pub feed_ok : (next : SessionState) (after : S) (media : Held) → next.number ≡ state.number + 1 → next.rest ≡ [] → meaning.ran before.media (lines h.whole ++ strip_carriage_return (state.rest ++ part) ∷ []) (h.front ++ next.out) after media
        → InSession meaning before (record old { media = media }) pending next after
    feed_ok next after media e none ran =
        let feedless = no_feed-append state.rest part h.no_feed n in
        record {
          whole = h.whole ++ ((state.rest ++ part) ++ 10 ∷ []);
          front = h.front;
          consumed = subst (Consumes before.left old.left) (taken ∙ ap (λ r. ((h.whole ++ ((state.rest ++ part) ++ 10 ∷ [])) ++ r) ++ pending) (sym none)) h.consumed;
          is_whole = whole-line h.whole (state.rest ++ part);
          no_feed = subst NoFeed (sym none) tt;
          lines_are = lines-count h.whole (state.rest ++ part) h.is_whole feedless ∙ ap (λ n. n + 1) h.lines_are ∙ sym e;
          ran = subst (λ ls. meaning.ran before.media ls (h.front ++ next.out) after media) (sym (lines-whole h.whole ((state.rest ++ part) ++ 10 ∷ []) h.is_whole ∙ ap (λ ls. lines h.whole ++ ls) (lines-one (state.rest ++ part) feedless))) ran;
          written = h.written;
          reads = h.reads;
          writes = h.writes;
        }

    regrouped : ((h.whole ++ state.rest) ++ (part ++ 10 ∷ pending)) ++ known old.left ≡ h.whole ++ ((state.rest ++ part) ++ 10 ∷ (pending ++ known old.left))
    regrouped = simp append_assoc

    pub feed_faces : (out : List ℕ) (media : Held) (fault : ℕ) → Refused meaning (lines h.whole) (strip_carriage_return (state.rest ++ part)) fault → Ran meaning before.media (lines h.whole) (h.front ++ out) media
        → Faces meaning before (record old { media = media }) out (state.number + 1) fault
    feed_faces out media fault refused ran = record {
      input = h.whole ++ ((state.rest ++ part) ++ 10 ∷ (pending ++ known old.left));
      served = lines h.whole;
      line = strip_carriage_return (state.rest ++ part);
      others = lines (pending ++ known old.left);
      front = h.front;
      told = input_same before.left _ _ regrouped (input_is before.left old.left _ h.consumed);
      input_is = lines-whole h.whole _ h.is_whole ∙ ap (λ ls. lines h.whole ++ ls) (lines-one_more (state.rest ++ part) (pending ++ known old.left) (no_feed-append state.rest part h.no_feed n));
      number_is = next_number _ _ h.lines_are;
      refused = refused;
      ran = ran;
      written = h.written;
      reads = h.reads;
      writes = h.writes;
    }

  -- ---- the rest of a line

  pub push_ok : (before now : Outside) (part : List ℕ) (state : SessionState) (server : S) → InSession meaning before now part state server → NoFeed part
      → InSession meaning before now [] (record { number = state.number; rest = state.rest ++ part; out = state.out }) server
  push_ok before now part state server h n = record {
    whole = h.whole;
    front = h.front;
    consumed = subst (Consumes before.left now.left) (pushed h.whole state.rest part) h.consumed;
    is_whole = h.is_whole;
    no_feed = no_feed-append state.rest part h.no_feed n;
    lines_are = h.lines_are;
    ran = h.ran;
    written = h.written;
    reads = h.reads;
    writes = h.writes;
  }
    where
      pushed : (a b c : List ℕ) → (a ++ b) ++ c ≡ (a ++ (b ++ c)) ++ []
      pushed a b c = simp (append_assoc, append-nil)

  long_cases : (many long : Bool) → long ≡ true → (if many then Some too_many else if long then Some too_long else None) ≡ Some (if many then too_many else too_long)
  long_cases true long e = refl
  long_cases false true e = refl
  long_cases false false e = cc e

  limit-long : (n : ℕ) (line : List ℕ) → 8192 < length line → limit_fault n line ≡ Some (long_fault n)
  limit-long n line l = long_cases (nat_lt 65536 n) (nat_lt 8192 (length line)) (lt-ltb 8192 (length line) l)

  -- a rest that is too long already is a faulty line
  pub long_faces : (before now : Outside) (state : SessionState) (server : S) → InSession meaning before now [] state server → is_surely_long state.rest ≡ true
      → Faces meaning before now state.out (state.number + 1) (long_fault (state.number + 1))
  long_faces before now state server h long =
      let first = long_first state.rest (known now.left) h.no_feed long in
      let regroup : ((h.whole ++ state.rest) ++ []) ++ known now.left ≡ h.whole ++ (state.rest ++ known now.left) = simp (append_assoc, append-nil) in
      let number = next_number (length (lines h.whole)) state.number h.lines_are in
      record {
        input = h.whole ++ (state.rest ++ known now.left);
        served = lines h.whole;
        line = first.line;
        others = first.others;
        front = h.front;
        told = input_same before.left _ _ regroup (input_is before.left now.left _ h.consumed);
        input_is = lines-whole h.whole _ h.is_whole ∙ ap (λ ls. lines h.whole ++ ls) first.is;
        number_is = number;
        refused = subst (λ limit. RefusedFor limit (meaning.refuses (lines h.whole) first.line (long_fault (state.number + 1))) (long_fault (state.number + 1))) (sym (limit-long (1 + length (lines h.whole)) first.line first.long)) (ap long_fault number);
        ran = (server, h.ran);
        written = h.written;
        reads = h.reads;
        writes = h.writes;
      }

  -- ---- writes

  pub flush_ok : {A : Type 0} (done : A) (before old : Outside) (pending : List ℕ) (state next : SessionState) (server : S) (written : Option (List ℕ)) (writes : ℕ)
      → next.number ≡ state.number → next.rest ≡ state.rest → InSession meaning before old pending state server → Flushes old.written written old.writes writes (Ok done) state.out next.out
      → InSession meaning before (record old { written = written; writes = writes }) pending next server
  flush_ok done before old pending state next server written writes number rest h f = record {
    whole = h.whole;
    front = h.front ++ f.front;
    consumed = subst (λ r. Consumes before.left old.left ((h.whole ++ r) ++ pending)) (sym rest) h.consumed;
    is_whole = h.is_whole;
    no_feed = subst NoFeed (sym rest) h.no_feed;
    lines_are = h.lines_are ∙ sym number;
    ran = subst (λ text. meaning.ran before.media (lines h.whole) text server old.media) (ap (λ x. h.front ++ x) (f.parts ∙ ap (λ x. f.front ++ x) f.kept) ∙ sym (append_assoc h.front f.front next.out)) h.ran;
    written = Appends-trans before.written old.written written h.front f.front h.written f.written;
    reads = h.reads;
    writes = f.ends ∙ h.writes;
  }

  abbrev flush_torn : {A : Type 0} (status : Status) (before old : Outside) (pending : List ℕ) (state : SessionState) (waits : List ℕ) (server : S) (written : Option (List ℕ)) (writes : ℕ)
      → InSession meaning before old pending state server → Flushes {A = A} old.written written old.writes writes (Err status) state.out waits → Torn meaning before (record old { written = written; writes = writes })
  flush_torn status before old pending state waits server written writes h f =
      let more = state.rest ++ (pending ++ known old.left) in
      let regroup : ((h.whole ++ state.rest) ++ pending) ++ known old.left ≡ h.whole ++ more = simp append_assoc in
      record {
        input = h.whole ++ more;
        served = lines h.whole;
        others = lines more;
        media = old.media;
        output = h.front ++ state.out;
        len = length (h.front ++ f.front);
        told = input_same before.left _ _ regroup (input_is before.left old.left _ h.consumed);
        input_is = lines-whole h.whole more h.is_whole;
        brings = lines_alone (h.front ++ state.out) (server, h.ran);
        stays = meaning.stays_same old.media;
        written = torn_text before.written written _ (h.front ++ f.front) f.behind (ap (λ x. h.front ++ x) f.parts ∙ sym (append_assoc h.front f.front f.behind)) (Appends-trans before.written old.written written h.front f.front h.written f.written);
      }

  -- the text that waited could not be written
  pub flush_fails : {A : Type 0} (status : Status) (before old : Outside) (pending : List ℕ) (state : SessionState) (waits : List ℕ) (server : S) (written : Option (List ℕ)) (writes : ℕ)
      → InSession meaning before old pending state server → Flushes {A = A} old.written written old.writes writes (Err status) state.out waits → Ends meaning status before (record old { written = written; writes = writes })
  flush_fails statuses.WriteFault before old pending state waits server written writes h f = (rose_since before.writes old.writes writes h.writes f.ends, (flush_torn statuses.WriteFault before old pending state waits server written writes h f, refl))
  flush_fails statuses.NoMemory before old pending state waits server written writes h f = (record { reads = h.reads; writes = f.ends ∙ h.writes }, flush_torn statuses.NoMemory before old pending state waits server written writes h f)
  flush_fails statuses.Done before old pending state waits server written writes h f = absurd f.ends
  flush_fails statuses.Script before old pending state waits server written writes h f = absurd f.ends
  flush_fails statuses.ReadFault before old pending state waits server written writes h f = absurd f.ends

  -- the text that waited was written, as far as memory and the sink allow
  pub flushed : {A : Type 0} (result : Result A Status) (before old : Outside) (pending : List ℕ) (state next : SessionState) (server : S) (written : Option (List ℕ)) (writes : ℕ)
      → next.number ≡ state.number → next.rest ≡ state.rest → InSession meaning before old pending state server → Flushes old.written written old.writes writes result state.out next.out
      → GoesOn meaning result before (record old { written = written; writes = writes }) pending next server
  flushed (Ok done) before old pending state next server written writes number rest h f = flush_ok done before old pending state next server written writes number rest h f
  flushed (Err status) before old pending state next server written writes number rest h f = flush_fails status before old pending state next.out server written writes h f

  -- the text of what the write is about, and a front of it
  abbrev faces_torn : {A : Type 0} (result : Result A Status) (before old : Outside) (out : List ℕ) (number fault : ℕ) (written : Option (List ℕ)) (writes : ℕ)
      → Faces meaning before old out number fault → WritesFront old.written written old.writes writes result (out ++ fault_text number fault) → Torn meaning before (record old { written = written; writes = writes })
  faces_torn result before old out number fault written writes h w =
      let brought = out ++ fault_text number fault in
      record {
        input = h.input;
        served = h.served;
        others = h.line ∷ h.others;
        media = old.media;
        output = (h.front ++ out) ++ fault_text (1 + length h.served) fault;
        len = length (h.front ++ take w.len brought);
        told = h.told;
        input_is = h.input_is;
        brings = with_fault (h.front ++ out) h.line h.others fault h.ran refl h.refused;
        stays = meaning.stays_same old.media;
        written = torn_text before.written written _ (h.front ++ take w.len brought) (drop w.len brought)
            (append_assoc h.front out _ ∙ ap (λ n. h.front ++ (out ++ fault_text n fault)) (sym h.number_is) ∙ ap (λ x. h.front ++ x) (sym (take-append-drop w.len brought)) ∙ sym (append_assoc h.front _ _))
            (Appends-trans before.written old.written written h.front (take w.len brought) h.written w.written);
      }

  -- the fault of a line was told, as far as memory and the sink allow
  pub faces_ends : (status : Status) (before old : Outside) (out : List ℕ) (number fault : ℕ) (written : Option (List ℕ)) (writes : ℕ)
      → Faces meaning before old out number fault → WritesFront old.written written old.writes writes (told status) (out ++ fault_text number fault) → Ends meaning status before (record old { written = written; writes = writes })
  faces_ends statuses.Script before old out number fault written writes h w = record {
    input = h.input;
    text = h.front ++ out;
    served = h.served;
    line = h.line;
    others = h.others;
    fault = fault;
    told = h.told;
    input_is = h.input_is;
    refused = h.refused;
    ran = h.ran;
    written = subst (Appends before.written written) (ap (λ x. h.front ++ x) w.whole ∙ sym (append_assoc h.front out _) ∙ ap (λ n. (h.front ++ out) ++ fault_text n fault) h.number_is)
        (Appends-trans before.written old.written written h.front _ h.written w.written);
    no_fault = record { reads = h.reads; writes = w.ends ∙ h.writes };
  }
  faces_ends statuses.WriteFault before old out number fault written writes h w = (rose_since before.writes old.writes writes h.writes w.ends, (faces_torn _ before old out number fault written writes h w, refl))
  faces_ends statuses.NoMemory before old out number fault written writes h w = (record { reads = h.reads; writes = w.ends ∙ h.writes }, faces_torn _ before old out number fault written writes h w)
  faces_ends statuses.Done before old out number fault written writes h w = absurd w.ends
  faces_ends statuses.ReadFault before old out number fault written writes h w = absurd w.ends

  -- ---- the end of the input

  pub end_none : (before now : Outside) (state : SessionState) (server : S) → InSession meaning before now [] state server → IsAtEnd now.left → state.rest ≡ [] → AtEnd meaning before now state.out server
  end_none before now state server h end none = record {
    input = h.whole;
    front = h.front;
    told = input_same before.left _ _ (ap (λ r. h.whole ++ r) none ∙ append-nil h.whole) (end_input before.left now.left (h.whole ++ state.rest) h.consumed end);
    at_end = end;
    ran = h.ran;
    written = h.written;
    reads = h.reads;
    writes = h.writes;
  }

  module _ (before old : Outside) (state : SessionState) (server : S) (h : InSession meaning before old [] state server) (end : IsAtEnd old.left) (some : 0 < length state.rest) where
    last_line : lines (h.whole ++ state.rest) ≡ lines h.whole ++ state.rest ∷ []
    last_line = lines-whole h.whole state.rest h.is_whole ∙ ap (λ ls. lines h.whole ++ ls) (lines-last_some state.rest h.no_feed some)

    pub end_ok : (out : List ℕ) (after : S) (media : Held) → meaning.ran before.media (lines h.whole ++ state.rest ∷ []) (h.front ++ out) after media → AtEnd meaning before (record old { media = media }) out after
    end_ok out after media ran = record {
      input = h.whole ++ state.rest;
      front = h.front;
      told = end_input before.left old.left (h.whole ++ state.rest) h.consumed end;
      at_end = end;
      ran = subst (λ ls. meaning.ran before.media ls (h.front ++ out) after media) (sym last_line) ran;
      written = h.written;
      reads = h.reads;
      writes = h.writes;
    }

    pub end_faces : (out : List ℕ) (media : Held) (fault : ℕ) → Refused meaning (lines h.whole) state.rest fault → Ran meaning before.media (lines h.whole) (h.front ++ out) media
        → Faces meaning before (record old { media = media }) out (state.number + 1) fault
    end_faces out media fault refused ran = record {
      input = h.whole ++ state.rest;
      served = lines h.whole;
      line = state.rest;
      others = [];
      front = h.front;
      told = end_input before.left old.left (h.whole ++ state.rest) h.consumed end;
      input_is = last_line;
      number_is = next_number _ _ h.lines_are;
      refused = refused;
      ran = ran;
      written = h.written;
      reads = h.reads;
      writes = h.writes;
    }

  -- memory was wanting for what is said at the end
  pub close_torn : (before now : Outside) (out : List ℕ) (server : S) → AtEnd meaning before now out server → Ends meaning statuses.NoMemory before now
  close_torn before now out server h = (
    record { reads = h.reads; writes = h.writes },
    record {
      input = h.input;
      served = lines h.input;
      others = [];
      media = now.media;
      output = h.front ++ out;
      len = length h.front;
      told = h.told;
      input_is = sym (append-nil (lines h.input));
      brings = lines_alone (h.front ++ out) (server, h.ran);
      stays = meaning.stays_same now.media;
      written = torn_text before.written now.written _ h.front out refl h.written;
    },
  )

  abbrev end_torn : {A : Type 0} (result : Result A Status) (before old : Outside) (out said : List ℕ) (server : S) (written : Option (List ℕ)) (writes : ℕ) (h : AtEnd meaning before old out server) → meaning.closed (lines h.input) (h.front ++ said) before.media old.media
      → WritesFront old.written written old.writes writes result said → Torn meaning before (record old { written = written; writes = writes })
  end_torn result before old out said server written writes h closed w = record {
    input = h.input;
    served = lines h.input;
    others = [];
    media = old.media;
    output = h.front ++ said;
    len = length (h.front ++ take w.len said);
    told = h.told;
    input_is = sym (append-nil (lines h.input));
    brings = with_end (h.front ++ said) refl closed;
    stays = meaning.stays_same old.media;
    written = torn_text before.written written _ (h.front ++ take w.len said) (drop w.len said)
        (ap (λ x. h.front ++ x) (sym (take-append-drop w.len said)) ∙ sym (append_assoc h.front _ _)) (Appends-trans before.written old.written written h.front (take w.len said) h.written w.written);
  }

  -- all lines are served, and their text could not be written whole
  pub close_fails : {A : Type 0} (status : Status) (before old : Outside) (out said : List ℕ) (server : S) (written : Option (List ℕ)) (writes : ℕ) (h : AtEnd meaning before old out server) → meaning.closed (lines h.input) (h.front ++ said) before.media old.media
      → WritesFront {A = A} old.written written old.writes writes (Err status) said → Ends meaning status before (record old { written = written; writes = writes })
  close_fails statuses.WriteFault before old out said server written writes h closed w = (rose_since before.writes old.writes writes h.writes w.ends, (end_torn _ before old out said server written writes h closed w, refl))
  close_fails statuses.NoMemory before old out said server written writes h closed w = (record { reads = h.reads; writes = w.ends ∙ h.writes }, end_torn _ before old out said server written writes h closed w)
  close_fails statuses.Done before old out said server written writes h closed w = absurd w.ends
  close_fails statuses.Script before old out said server written writes h closed w = absurd w.ends
  close_fails statuses.ReadFault before old out said server written writes h closed w = absurd w.ends

  -- the same bytes wait
  pub same_pending : (before now : Outside) (bytes bytes' : List ℕ) (state : SessionState) (server : S) → bytes ≡ bytes' → InSession meaning before now bytes state server → InSession meaning before now bytes' state server
  same_pending before now bytes bytes' state server e h = subst (λ x. InSession meaning before now x state server) e h

  -- ---- reads

  -- a piece of the input was read
  pub piece_read : (before old : Outside) (piece : List ℕ) (state : SessionState) (server : S) (left : Option (List ℕ)) (reads : ℕ) → InSession meaning before old [] state server → Consumes old.left left piece → reads ≡ old.reads
      → InSession meaning before (record old { left = left; reads = reads }) piece state server
  piece_read before old piece state server left reads h c later = record {
    whole = h.whole;
    front = h.front;
    consumed = Consumes-trans before.left old.left left (h.whole ++ state.rest) piece (subst (Consumes before.left old.left) (append-nil (h.whole ++ state.rest)) h.consumed) c;
    is_whole = h.is_whole;
    no_feed = h.no_feed;
    lines_are = h.lines_are;
    ran = h.ran;
    written = h.written;
    reads = later ∙ h.reads;
    writes = h.writes;
  }

  -- the source failed behind whole lines, of which all text is written, and the rest of one
  pub read_fails : (before old : Outside) (state : SessionState) (server : S) (left : Option (List ℕ)) (reads : ℕ) → InSession meaning before old [] state server → state.out ≡ [] → is_surely_long state.rest ≡ false → Consumes old.left left [] → Rose old.reads reads
      → Ends meaning statuses.ReadFault before (record old { left = left; reads = reads })
  read_fails before old state server left reads h none short c rose = (
    rose_since before.reads old.reads reads h.reads rose,
    record {
      whole = h.whole;
      rest = state.rest;
      text = h.front;
      consumed = subst (Consumes before.left left) (append-nil (h.whole ++ state.rest)) (Consumes-trans before.left old.left left (h.whole ++ state.rest) [] (subst (Consumes before.left old.left) (append-nil (h.whole ++ state.rest)) h.consumed) c);
      is_whole = h.is_whole;
      no_feed = h.no_feed;
      short = short;
      ran = (server, subst (λ text. meaning.ran before.media (lines h.whole) text server old.media) (ap (λ x. h.front ++ x) none ∙ append-nil h.front) h.ran);
      written = h.written;
    },
  )

  -- nothing was read yet
  pub begins : (before : Outside) (server : S) → meaning.ran before.media [] [] server before.media → InSession meaning before before [] (record { number = 0; rest = []; out = [] }) server
  begins before server ran = record {
    whole = [];
    front = [];
    consumed = Consumes-nil before.left;
    is_whole = inl refl;
    no_feed = tt;
    lines_are = refl;
    ran = ran;
    written = Appends-nil before.written;
    reads = refl;
    writes = refl;
  }

-- ---- writes of all that waits

-- all of it
pub flushes_all : {A : Type 0} (old new : Option (List ℕ)) (before now : ℕ) (result : Result A Status) (waited waits : List ℕ) → WritesFront old new before now result waited → OnOk result (waits ≡ []) → Flushes old new before now result waited waits
flushes_all old new before now result waited waits w none = record {
  front = take w.len waited;
  behind = drop w.len waited;
  parts = sym (take-append-drop w.len waited);
  written = w.written;
  kept = kept result w.whole none;
  ends = w.ends;
}
  where
    kept : {A : Type 0} (result : Result A Status) → OnOk result (take w.len waited ≡ waited) → OnOk result (waits ≡ []) → OnOk result (drop w.len waited ≡ waits)
    kept (Ok done) whole none = drop_whole w.len waited whole ∙ sym none
    kept (Err status) whole none = tt

-- nothing yet
pub flushes_none : {A : Type 0} (old : Option (List ℕ)) (before : ℕ) (done : A) (waited : List ℕ) → Flushes old old before before (Ok done) waited waited
flushes_none old before done waited = record { front = []; behind = waited; parts = refl; written = Appends-nil old; kept = refl; ends = refl }

-- ---- what a session can go on from

pub some_rest : (rest : List ℕ) (empty : Bool) → empty ≡ (length rest == 0) → empty ≡ false → 0 < length rest
some_rest rest empty e f = grind arith

pub no_rest : (rest : List ℕ) (empty : Bool) → empty ≡ (length rest == 0) → empty ≡ true → rest ≡ []
no_rest [] empty e f = refl
no_rest (x ∷ rest) empty e f = absurd (omega (arith, eqb-true (length (x ∷ rest)) 0 (sym e ∙ f)))

-- the first line of a piece, and what is behind its line feed
pub split_line : (piece : List ℕ) (at : ℕ) → at < length piece → piece ≡ take at piece ++ 10 ∷ drop (at + 1) piece → piece ≡ take at piece ++ 10 ∷ take (length piece - (at + 1)) (drop (at + 1) piece)
split_line piece at l e = e ∙ ap (λ x. take at piece ++ 10 ∷ x) (sym (rest_slice (at + 1) piece (omega arith)))
