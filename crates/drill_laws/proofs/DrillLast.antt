-- What an initiator of a drill rang with last under its labels (NCITS 325-1998, ORB_POINTER and DOORBELL): ORB_POINTER once, and then DOORBELL with a number that grows. So its next request is another one. In a settle it sends the target answers alone.
use Rattle.std.proofs.Common.{◌≡◌, ◌∙◌, ◌⊎◌, inl, inr, refl, sym, ap, subst, ℕ, suc, ◌+◌, ◌*◌, ◌/◌, ◌%◌, ◌^◌, ◌<◌, ◌≤◌, ◌==◌, ◌&&◌, not, Bool, true, false, cond, List, [], ◌∷◌, ◌++◌, map, slice_index_or, Option, Some, None, arith}
use Rattle.async_packet.specs.Canon.{canon, four}
use Rattle.async_packet.specs.Fields.{rcode_of}
use Rattle.bus_transactions.proofs.Facts.{asked_is, begun_asked}
use Rattle.bus_transactions.proofs.PacketParts.{same_is}
use Rattle.label_table.specs.Bodies.{header_to, request_with}
use Rattle.label_table.specs.Requests.{with_label}
use Rattle.async_packet.specs.declared.packet.Header.{Header}
use Rattle.orb_layout.specs.Replies.{Answer, Done}
use Rattle.sbp_journal.specs.Run.{Moment, said}
use Rattle.sbp_journal.specs.Transactions.{Kind, Part, Sending, Transaction, asked_by, begun_by, between, is_same, is_same_kind, is_to, no_packet, part_of, request, response}
use Rattle.sbp_journal.specs.Wire.{Held, Terms, arrives, begins, closes, closes_if, free, gets, gets_as, ignores, ignores_that, is_news, is_served, judges, judges_if, rests, sends, terms, waits}
use Rattle.sbp_journal.specs.declared.cause.Cause.{Cause}
use Rattle.sbp_journal.specs.declared.cause.Cause.TheVariants as causes
use Rattle.sbp_journal.specs.declared.event.Event.TheVariants as events
use Rattle.sbp_journal.specs.declared.note.Note.{Note}
use Rattle.sbp_journal.specs.declared.note.Note.TheVariants as notes
use Rattle.sbp_laws.specs.Actions.{ring_body}
use Rattle.sbp_laws.specs.Hosts.{Host, got_by, goes_on, host_at, host_by, known_host, pointer_answered, sent_as}
use Rattle.sbp_laws.specs.Lists.{present_list}
use Rattle.sbp_laws.specs.Terms.{appends}
use Rattle.sbp_laws.specs.Turns.{EachMoment, event_of, is_sent}
use Rattle.drill_laws.specs.DrillCalm.{IsCalmAt, IsCalmNote}
use Rattle.drill_laws.specs.DrillRefused.{IsAliveAt}
use Rattle.drill_laws.proofs.DrillHosts.{IsIdle, IsLater}
use Rattle.drill_laws.proofs.DrillLabels.{Tables, own, sent_tables, tables}
use Rattle.drill_laws.proofs.DrillMoments.{DrillAt}
use Rattle.drill_laws.proofs.DrillReady.{Stands, later_of, stands_told}
use Rattle.drill_laws.proofs.DrillRefused.{AreOther, is_other}
use Rattle.drill_laws.proofs.DrillRings.{code_byte}
use Rattle.drill_laws.proofs.DrillTurns.{AreBack, IsBackSent}

-- ---- bytes
abbrev pub value : List ℕ → ℕ
value bytes = slice_index_or bytes 12 0 * 2 ^ 24 + slice_index_or bytes 13 0 * 2 ^ 16 + slice_index_or bytes 14 0 * 2 ^ 8 + slice_index_or bytes 15 0

whole : (d : ℕ) → d < 2 ^ 32 → d / 256 ^ 3 % 256 * 2 ^ 24 + d / 256 ^ 2 % 256 * 2 ^ 16 + d / 256 ^ 1 % 256 * 2 ^ 8 + d % 256 ≡ d
whole d small = omega (arith, small)

four_value : (a b c d : ℕ) → d < 2 ^ 32 → value (four a b c d) ≡ d
unfolding four
four_value a b c d small = whole d small

more_value : (a b c d : ℕ) (rest : List ℕ) → d < 2 ^ 32 → value (four a b c d ++ rest) ≡ d
unfolding four
more_value a b c d rest small = whole d small

four_labelled : (number a b c d : ℕ) → d < 2 ^ 32 → (value (with_label number (four a b c d)) ≡ d) × (code_byte (with_label number (four a b c d)) ≡ a % 256)
unfolding four with_label
four_labelled number a b c d small = (whole d small, refl)

more_labelled : (number a b c d : ℕ) (rest : List ℕ) → d < 2 ^ 32 → (value (with_label number (four a b c d ++ rest)) ≡ d) × (code_byte (with_label number (four a b c d ++ rest)) ≡ a % 256)
unfolding four with_label
more_labelled number a b c d rest small = (whole d small, refl)

-- what a ring writes: the address of an ORB, or the number
abbrev pub ring_value : Option ℕ → ℕ → ℕ
ring_value None running = 8 * 2 ^ 16
ring_value (Some serial) running = running

pub plain_ring : (past : List Moment) (i : ℕ) (host : Host) (pointer : Option ℕ) (h : Header) → host.running < 2 ^ 32 → value (canon (request_with h (ring_body past i host pointer))) ≡ ring_value pointer host.running
plain_ring past i host None h small = more_value _ _ _ (8 * 2 ^ 16 + 0) _ (omega arith)
plain_ring past i host (Some serial) h small = four_value _ _ _ host.running small

pub record Labelled (pointer : Option ℕ) (running : ℕ) (bytes : List ℕ) : Type 0 where
  pub is : value bytes ≡ ring_value pointer running
  pub code : code_byte bytes < 32

pub labelled_ring : (past : List Moment) (i : ℕ) (host : Host) (pointer : Option ℕ) (source destination number : ℕ) → host.running < 2 ^ 32 → Labelled pointer host.running (with_label number (canon (request_with (header_to source destination 0) (ring_body past i host pointer))))
labelled_ring past i host None source destination number small =
    let l = more_labelled number _ _ _ (8 * 2 ^ 16 + 0) _ (omega arith) in
    let code = l.1 in
    record { is = l.0; code = omega (arith, code) }
labelled_ring past i host (Some serial) source destination number small =
    let l = four_labelled number _ _ _ host.running small in
    let code = l.1 in
    record { is = l.0; code = omega (arith, code) }

-- ---- what was sent before is not what it rings with next
abbrev pub IsOld : Option ℕ → ℕ → List ℕ → Type 0
IsOld pointer running bytes = (32 ≤ code_byte bytes) ⊎ (((pointer ≡ None → ⊥) × (value bytes ≡ 8 * 2 ^ 16)) ⊎ (value bytes < running))

pub older : (p now : Option ℕ) (r more : ℕ) → (now ≡ None → p ≡ None) → r ≤ more → (bytes : List ℕ) → IsOld p r bytes → IsOld now more bytes
older p now r more back grows bytes (inl code) = inl code
older p now r more back grows bytes (inr (inl x)) = inr (inl ((λ e. x.0 (back e)), x.1))
older p now r more back grows bytes (inr (inr low)) = inr (inr (omega (arith, low, grows)))

pub differs : (pointer : Option ℕ) (running : ℕ) (last bytes : List ℕ) → running < 8 * 2 ^ 16 → IsOld pointer running last → Labelled pointer running bytes → last ≡ bytes → ⊥
differs pointer running last bytes small (inl code) l e = (let same : code_byte last ≡ code_byte bytes = ap code_byte e in let low = l.code in omega (arith, code, same, low))
differs None running last bytes small (inr (inl x)) l e = x.0 refl
differs (Some s) running last bytes small (inr (inl x)) l e = (let same : value last ≡ value bytes = ap value e in let is = l.is in let was = x.1 in omega (arith, small, same, is, was))
differs None running last bytes small (inr (inr low)) l e = (let same : value last ≡ value bytes = ap value e in let is = l.is in omega (arith, small, same, is, low))
differs (Some s) running last bytes small (inr (inr low)) l e = (let same : value last ≡ value bytes = ap value e in let is = l.is in omega (arith, same, is, low))

-- ---- the last request under a label
pub record SentUnder (q : Sending) (u : Transaction) (bytes : List ℕ) : Type 0 where
  pub begun : begun_by q ≡ Some u
  pub same : q.bytes ≡ bytes

pub last_sent : (s : ℕ) (q : Sending) (t : Terms) (u : Transaction) (bytes : List ℕ) → (sends s q t).last u ≡ Some bytes → (t.last u ≡ Some bytes) ⊎ SentUnder q u bytes
last_sent s q t u bytes e = by (begun_by q) refl (sym (ap (λ (x : Tables). x.last u) (sent_tables s q t)) ∙ e)
  where
    by_same : (v : Transaction) → begun_by q ≡ Some v → (b : Bool) → is_same u v ≡ b → cond b (Some q.bytes) (t.last u) ≡ Some bytes → (t.last u ≡ Some bytes) ⊎ SentUnder q u bytes
    by_same v begun true same e = inr (record { begun = begun ∙ ap Some (sym (same_is u v same)); same = cc e })
    by_same v begun false same e = inl e

    by : (o : Option Transaction) → begun_by q ≡ o → (begins o s q t).last u ≡ Some bytes → (t.last u ≡ Some bytes) ⊎ SentUnder q u bytes
    by None begun e = inl e
    by (Some v) begun e = by_same v begun (is_same u v) refl e

judges_tables : (o : Option Transaction) (cause : Option Cause) (s : ℕ) (q : Sending) (t : Terms) → tables (judges o cause s q t) ≡ tables t
judges_tables None cause s q t = refl
judges_tables (Some u) cause s q t = refl

closes_last : (held : Held) (u : Transaction) (other : Kind) (rcode : ℕ) (t : Terms) → (closes held u other rcode t).last ≡ t.last
closes_last (waits kind s) u other rcode t = by (is_same_kind kind other)
  where
    by : (b : Bool) → (closes_if b s u rcode t).last ≡ t.last
    by true = refl
    by false = refl
closes_last free u other rcode t = refl
closes_last rests u other rcode t = refl

gets_last_as : (part : Part) (s : ℕ) (q : Sending) (t : Terms) → (gets_as part s q t).last ≡ t.last
gets_last_as (request label kind) s q t = ap (λ (x : Tables). x.last) (judges_tables (asked_by q) None s q t)
gets_last_as (response label kind) s q t = closes_last (t.held (between q q.to q.from label)) (between q q.to q.from label) kind (rcode_of q.bytes) t
gets_last_as no_packet s q t = refl

gets_last : (found : Option Sending) (s : ℕ) (t : Terms) → (gets found s t).last ≡ t.last
gets_last None s t = refl
gets_last (Some q) s t = gets_last_as (part_of q.bytes) s q (is_served s (is_news s (arrives s t)))

-- a response frees a label, if anything
closes_held : (held : Held) (u : Transaction) (other : Kind) (rcode : ℕ) (t : Terms) (v : Transaction) → ((closes held u other rcode t).held v ≡ t.held v) ⊎ ((closes held u other rcode t).held v ≡ free)
closes_held (waits kind s) u other rcode t v = by (is_same_kind kind other) (is_same v u)
  where
    by_same : (c : Bool) → (cond c free (t.held v) ≡ t.held v) ⊎ (cond c free (t.held v) ≡ free)
    by_same true = inr refl
    by_same false = inl refl

    by : (b c : Bool) → ((closes_if b s u rcode t).held v ≡ t.held v) ⊎ ((closes_if b s u rcode t).held v ≡ free)
    by true c = by_same (is_same v u)
    by false c = inl refl
closes_held free u other rcode t v = inl refl
closes_held rests u other rcode t v = inl refl

gets_held_as : (part : Part) (s : ℕ) (q : Sending) (t : Terms) (v : Transaction) → ((gets_as part s q t).held v ≡ t.held v) ⊎ ((gets_as part s q t).held v ≡ free)
gets_held_as (request label kind) s q t v = inl (ap (λ (x : Tables). x.held v) (judges_tables (asked_by q) None s q t))
gets_held_as (response label kind) s q t v = closes_held (t.held (between q q.to q.from label)) (between q q.to q.from label) kind (rcode_of q.bytes) t v
gets_held_as no_packet s q t v = inl refl

pub gets_held : (found : Option Sending) (s : ℕ) (t : Terms) (v : Transaction) → ((gets found s t).held v ≡ t.held v) ⊎ ((gets found s t).held v ≡ free)
gets_held None s t v = inl refl
gets_held (Some q) s t v = gets_held_as (part_of q.bytes) s q (is_served s (is_news s (arrives s t))) v

ignores_tables_as : (cause : Cause) (s : ℕ) (q : Sending) (t : Terms) → tables (ignores cause s q t) ≡ tables t
ignores_tables_as causes.Generation s q t = refl
ignores_tables_as causes.Grammar s q t = by (is_to q.bytes (t.ids q.generation q.to))
  where
    by : (b : Bool) → tables (judges_if b (asked_by q) s q (is_news s t)) ≡ tables t
    by true = judges_tables (asked_by q) (Some causes.Grammar) s q (is_news s t)
    by false = refl
ignores_tables_as causes.Label s q t = refl
ignores_tables_as causes.Again s q t = judges_tables (asked_by q) (Some causes.Again) s q t
ignores_tables_as causes.Source s q t = judges_tables (asked_by q) (Some causes.Source) s q (is_news s t)
ignores_tables_as causes.Login s q t = judges_tables (asked_by q) (Some causes.Login) s q (is_news s t)
ignores_tables_as causes.Slot s q t = judges_tables (asked_by q) (Some causes.Slot) s q (is_served s (is_news s t))

pub ignores_tables : (found : Option Sending) (cause : Cause) (s : ℕ) (t : Terms) → tables (ignores_that found cause s t) ≡ tables t
ignores_tables None cause s t = refl
ignores_tables (Some q) cause s t = ignores_tables_as cause s q (arrives s t)

-- ---- what a moment leaves
pub record SameRing (host now : Host) : Type 0 where
  pub pointer : now.pointer ≡ host.pointer
  pub running : now.running ≡ host.running

pub same_ring : (host : Host) → SameRing host host
same_ring host = record { pointer = refl; running = refl }

either_ring : (b : Bool) (x host : Host) → SameRing host x → SameRing host (cond b x host)
either_ring true x host s = s
either_ring false x host s = same_ring host

sent_ring : (part : Part) (i : ℕ) (list : Option ℕ) (serial : ℕ) (host : Host) → IsIdle host → SameRing host (sent_as part (Some events.Settle) i list serial host)
sent_ring (request label kind) i list serial host idle = subst (SameRing host) (sym (ap (λ o. goes_on o serial host) idle.operation)) (same_ring host)
sent_ring (response label kind) i list serial host idle = same_ring host
sent_ring no_packet i list serial host idle = same_ring host

pointed_ring : (answer : Answer) (mine : Bool) (host : Host) → SameRing host (pointer_answered answer mine host)
pointed_ring Done true host = record { pointer = refl; running = refl }
pointed_ring Done false host = same_ring host
pointed_ring _ mine host = same_ring host

got_ring : (mine : Option ℕ) (wire : Terms) (serial : ℕ) (present : Option ℕ) (host : Host) → SameRing host (got_by mine wire serial present host)
got_ring (Some mine) wire serial present host = let p = pointed_ring _ _ host in record { pointer = p.pointer; running = p.running }
got_ring None wire serial present host = record { pointer = refl; running = refl }

note_ring : (note : Note) (past : List Moment) (wire : Terms) (i : ℕ) (host : Host) → is_other note ≡ true → IsLater note → IsCalmNote note → event_of past ≡ Some events.Settle → IsIdle host → SameRing host (host_by note past wire i host)
note_ring (notes.Sent serial generation from to bytes) past wire i host other later calm e idle =
    either_ring ((from == suc i) && not (wire.injected serial)) _ host (subst (λ v. SameRing host (sent_as (part_of bytes) v i (present_list past i) serial host)) (sym e) (sent_ring (part_of bytes) i (present_list past i) serial host idle))
note_ring (notes.Got serial) past wire i host other later calm e idle = either_ring _ _ host (got_ring _ wire serial (present_list past i) host)
note_ring (notes.Append j n k cdb buffer) past wire i host other later calm e idle = absurd (let no : false ≡ true = other in cc no)
note_ring (notes.Taken j n k status answer) past wire i host other later calm e idle = either_ring (j == i) _ host (record { pointer = refl; running = refl })
note_ring (notes.Stuck j) past wire i host other later calm e idle = either_ring (j == i) _ host (record { pointer = refl; running = refl })
note_ring (notes.Op j operation word) past wire i host other later calm e idle = absurd calm
note_ring (notes.Drop j n) past wire i host other later calm e idle = absurd calm
note_ring (notes.Begin initiators ready) past wire i host other later calm e idle = absurd later
note_ring (notes.TimedOut serial) past wire i host other later calm e idle = absurd later
note_ring (notes.Seen node generation) past wire i host other later calm e idle = absurd later
note_ring _ past wire i host other later calm e idle = same_ring host

pub record Stays (past now : List Moment) (i : ℕ) : Type 0 where
  pub present : present_list now i ≡ present_list past i
  pub appended : (n : ℕ) → appends now i n ≡ appends past i n
  pub ring : SameRing (host_at past i) (host_at now i)
  pub last : (number : ℕ) (bytes : List ℕ) → (terms now).last (own i number) ≡ Some bytes → ((terms past).last (own i number) ≡ Some bytes) ⊎ (32 ≤ code_byte bytes)

pub stays_same : (past : List Moment) (i : ℕ) → Stays past past i
stays_same past i = record { present = refl; appended = λ n. refl; ring = same_ring (host_at past i); last = λ number bytes e. inl e }

pub stays_then : (a b c : List Moment) (i : ℕ) → Stays a b i → Stays b c i → Stays a c i
stays_then a b c i s t = record {
  present = t.present ∙ s.present;
  appended = λ n. t.appended n ∙ s.appended n;
  ring = record { pointer = t.ring.pointer ∙ s.ring.pointer; running = t.ring.running ∙ s.ring.running };
  last = λ number bytes e. by number bytes (t.last number bytes e);
}
  where
    by : (number : ℕ) (bytes : List ℕ) → ((terms b).last (own i number) ≡ Some bytes) ⊎ (32 ≤ code_byte bytes) → ((terms a).last (own i number) ≡ Some bytes) ⊎ (32 ≤ code_byte bytes)
    by number bytes (inl e) = s.last number bytes e
    by number bytes (inr code) = inr code

-- the responder is the receiver
pub receiver_is : (q : Sending) (u : Transaction) → begun_by q ≡ Some u → u.responder ≡ q.to
receiver_is q u e = ap (λ (x : Transaction). x.responder) (asked_is q u (begun_asked q u e).1).is

pub sender_is : (q : Sending) (u : Transaction) → begun_by q ≡ Some u → u.requester ≡ q.from
sender_is q u e = ap (λ (x : Transaction). x.requester) (asked_is q u (begun_asked q u e).1).is

note_last : (note : Note) (past : List Moment) → is_sent note ≡ false → IsLater note → (terms (said note ∷ past)).last ≡ (terms past).last
note_last (notes.Sent s generation from to bytes) past e later = absurd (let no : true ≡ false = e in cc no)
note_last (notes.Got s) past e later = gets_last ((terms past).sent s) s (terms past)
note_last (notes.Ignored s cause) past e later = ap (λ (x : Tables). x.last) (ignores_tables ((terms past).sent s) cause s (terms past))
note_last (notes.TimedOut s) past e later = absurd later
note_last _ past e later = refl

note_last_back : (note : Note) (past : List Moment) (i : ℕ) → IsLater note → IsBackSent note → (number : ℕ) (bytes : List ℕ) → (terms (said note ∷ past)).last (own i number) ≡ Some bytes → ((terms past).last (own i number) ≡ Some bytes) ⊎ (32 ≤ code_byte bytes)
note_last_back (notes.Sent s generation from to sent) past i later back number bytes e = by (last_sent s q (terms past) (own i number) bytes e)
  where
    q : Sending
    q = record { generation = generation; from = from; to = to; bytes = sent; injected = (terms past).injected s }

    by : ((terms past).last (own i number) ≡ Some bytes) ⊎ SentUnder q (own i number) bytes → ((terms past).last (own i number) ≡ Some bytes) ⊎ (32 ≤ code_byte bytes)
    by (inl old) = inl old
    by (inr under) = inr (subst (λ bs. 32 ≤ code_byte bs) under.same (back (sym (receiver_is q (own i number) under.begun))).1)
note_last_back note past i later back number bytes e = inl (sym (ap (λ f. f (own i number)) (note_last note past refl later)) ∙ e)

note_present : (note : Note) (past : List Moment) (i : ℕ) → is_other note ≡ true → IsCalmNote note → present_list (said note ∷ past) i ≡ present_list past i
note_present (notes.Append j n k cdb buffer) past i other calm = absurd (let no : false ≡ true = other in cc no)
note_present (notes.Drop j n) past i other calm = absurd calm
note_present _ past i other calm = refl

note_appends : (note : Note) (past : List Moment) (i : ℕ) → is_other note ≡ true → (n : ℕ) → appends (said note ∷ past) i n ≡ appends past i n
note_appends (notes.Append j m k cdb buffer) past i other n = absurd (let no : false ≡ true = other in cc no)
note_appends _ past i other n = refl

event_same : (told : List Note) (past : List Moment) → event_of (map said told ++ past) ≡ event_of past
event_same [] past = refl
event_same (note ∷ told) past = event_same told past

-- ---- a settle
pub record IsSuch (past : List Moment) : Type 0 where
  pub drill : EachMoment DrillAt past
  pub calm : EachMoment IsCalmAt past
  pub alive : EachMoment IsAliveAt past

such_before : (moment : Moment) (past : List Moment) → IsSuch (moment ∷ past) → IsSuch past
such_before moment past s = record { drill = s.drill.1; calm = s.calm.1; alive = s.alive.1 }

module _ (there : List Moment) (stood : Stands there) (event : event_of there ≡ Some events.Settle) (i : ℕ) (small : i < 2) where
  pub told_stays : (told : List Note) → IsSuch (map said told ++ there) → AreOther told → AreBack told → Stays there (map said told ++ there) i
  told_stays [] s other back = stays_same there i
  told_stays (note ∷ told) s other back =
      let past : List Moment = map said told ++ there in
      let before = such_before (said note) past s in
      let was = told_stays told before other.1 back.1 in
      let stands = stands_told told there before.drill before.calm before.alive stood in
      let later = later_of note past stands.some s.drill.0 in
      stays_then there past (said note ∷ past) i was (record {
        present = note_present note past i other.0 s.calm.0;
        appended = note_appends note past i other.0;
        ring = note_ring note past (known_host past i).wire i (host_at past i) other.0 later s.calm.0 (event_same told there ∙ event) (stands.idle i small);
        last = note_last_back note past i later back.0;
      })
