-- How many packets of a drill are in flight: each line that appends sends one at most, and behind a settle that settled there is none.
use Rattle.std.proofs.Common.{◌≡◌, ◌∙◌, refl, sym, ap, subst, ℕ, zero, suc, ◌+◌, ◌<◌, ◌≤◌, Bool, true, false, cond, nat_eq, List, [], ◌∷◌, ◌++◌, length, drop, map, reverse, Option, Some, None, arith}
use Rattle.std.specs.List.{AllByRecursion}
use Rattle.std.proofs.lemmas.Bool.Decides.{nat_tests}
use Rattle.std.proofs.lemmas.List.{reverse-append, reverse-reverse}
use Rattle.rbc_disk.specs.Disk.{Disk}
use Rattle.sbp_journal.proofs.Each.{all_append}
use Rattle.sbp_journal.specs.Run.{Moment, asked, said}
use Rattle.sbp_journal.specs.Transactions.{Sending, begun_by}
use Rattle.sbp_journal.specs.Wire.{Flight, Terms, by_bus_rule, in_flight, puts, sends, terms}
use Rattle.sbp_journal.specs.declared.event.Cmd.{Cmd}
use Rattle.sbp_journal.specs.declared.event.Event.{Event}
use Rattle.sbp_journal.specs.declared.event.Event.TheVariants as events
use Rattle.sbp_journal.specs.declared.event.Action.TheVariants as actions
use Rattle.sbp_journal.specs.declared.note.Note.{Note}
use Rattle.sbp_journal.specs.declared.note.Note.TheVariants as notes
use Rattle.sbp_laws.specs.Actions.{action_body, refusal_at}
use Rattle.sbp_laws.specs.Agents.{Request, requests_to}
use Rattle.sbp_laws.specs.Budget.{count_flying, flies, lowest_flying}
use Rattle.sbp_laws.specs.Completion.{in_the_air}
use Rattle.sbp_laws.specs.Deliveries.{NoneFlies}
use Rattle.sbp_laws.specs.Hosts.{host_at}
use Rattle.sbp_laws.specs.SentPackets.{SentAt}
use Rattle.sbp_laws.specs.SentRequests.{ArePackets, RequestsLaw, before_requests, unless_refused}
use Rattle.sbp_laws.specs.Turns.{EachMoment, EachTurnBefore, Turn, sends_of, turn}
use Rattle.drill_laws.proofs.DrillWire.{Parts, parts, rule_flies, sends_keeps}

-- ---- counting what is in flight
fewer : (f g : ℕ → Flight) (n : ℕ) → ((s : ℕ) → s ≤ n → flies (g s) ≡ true → flies (f s) ≡ true) → count_flying g n ≤ count_flying f n
unfolding count_flying
fewer f g zero less = omega arith
fewer f g (suc n) less =
    let rest = fewer f g n (λ s l. less s (omega (arith, l))) in
    by (flies (g (suc n))) (flies (f (suc n))) (less (suc n) (omega arith)) rest
  where
    by : (a b : Bool) → (a ≡ true → b ≡ true) → count_flying g n ≤ count_flying f n → cond a 1 0 + count_flying g n ≤ cond b 1 0 + count_flying f n
    by true true l rest = omega (arith, rest)
    by true false l rest = absurd (let no : false ≡ true = l refl in cc no)
    by false true l rest = omega (arith, rest)
    by false false l rest = omega (arith, rest)

one_flies : (f : ℕ → Flight) (n : ℕ) → count_flying f (suc n) ≤ 1 + count_flying f n
unfolding count_flying
one_flies f n = by (flies (f (suc n)))
  where
    by : (b : Bool) → cond b 1 0 + count_flying f n ≤ 1 + count_flying f n
    by true = omega arith
    by false = omega arith

none_from : (f : ℕ → Flight) (tries from : ℕ) → lowest_flying f tries from ≡ None → (s : ℕ) → from ≤ s → s < from + tries → flies (f s) ≡ false
unfolding lowest_flying
none_from f zero from e s l m = absurd (omega (arith, l, m))
none_from f (suc tries) from e s l m = by (flies (f from)) refl (nat_eq s from) refl (none_from f tries (from + 1)) e
  where
    by : (b : Bool) → flies (f from) ≡ b → (c : Bool) → nat_eq s from ≡ c → (lowest_flying f tries (from + 1) ≡ None → (s : ℕ) → from + 1 ≤ s → s < from + 1 + tries → flies (f s) ≡ false) → cond b (Some from) (lowest_flying f tries (from + 1)) ≡ None → flies (f s) ≡ false
    by true h c same later e = absurd (let no : Some from ≡ None = e in cc no)
    by false h true same later e = let is : s ≡ from = grind (arith, nat_tests) in ap (λ n. flies (f n)) is ∙ h
    by false h false apart later e = later e s (grind (arith, nat_tests)) (omega (arith, m))

all_down : (f : ℕ → Flight) (n : ℕ) → ((s : ℕ) → 1 ≤ s → s ≤ n → flies (f s) ≡ false) → count_flying f n ≡ 0
unfolding count_flying
all_down f zero none = refl
all_down f (suc n) none =
    let rest = all_down f n (λ s l m. none s l (omega (arith, m))) in
    let one : cond {A = ℕ} (flies (f (suc n))) 1 0 ≡ 0 = ap {B = ℕ} (λ b. cond b 1 0) (none (suc n) (omega arith) (omega arith)) in
    omega (arith, rest, one)

pub none_in_the_air : (past : List Moment) → NoneFlies past → in_the_air past ≡ 0
none_in_the_air past none =
    all_down (terms past).flight (terms past).count (λ s l m. none_from (terms past).flight (terms past).count 1 none s l (omega (arith, m)))

-- ---- a packet is sent
abbrev air : Parts → ℕ
air p = count_flying p.flight p.count

put_air : (s : ℕ) (q : Sending) (t : Terms) → s ≡ t.count + 1 → air (parts (puts (begun_by q) s q t)) ≤ 1 + air (parts t)
put_air s q t next =
    let now : ℕ → Flight = (puts (begun_by q) s q t).flight in
    let one = one_flies now t.count in
    let rest = fewer t.flight now t.count (λ o l e. by (nat_eq o s) o refl l (rule_flies (begun_by q) t.sent t.flight o) e) in
    let count : t.count + 1 ≡ suc t.count = omega arith in
    let whole : count_flying now (t.count + 1) ≤ 1 + count_flying now t.count = subst (λ n. count_flying now n ≤ 1 + count_flying now t.count) (sym count) one in
    omega (arith, whole, rest)
  where
    by : (b : Bool) (o : ℕ) → nat_eq o s ≡ b → o ≤ t.count → (flies (by_bus_rule (begun_by q) t.sent t.flight o) ≡ true → flies (t.flight o) ≡ true) → flies (cond b in_flight (by_bus_rule (begun_by q) t.sent t.flight o)) ≡ true → flies (t.flight o) ≡ true
    by true o same l rule e = absurd (let is : o ≡ s = grind (arith, nat_tests) in omega (arith, is, l, next))
    by false o apart l rule e = rule e

sent_air : (past : List Moment) (s generation from to : ℕ) (bytes : List ℕ) → SentAt (said (notes.Sent s generation from to bytes)) past → in_the_air (said (notes.Sent s generation from to bytes) ∷ past) ≤ 1 + in_the_air past
sent_air past s generation from to bytes own =
    let q : Sending = record { generation = generation; from = from; to = to; bytes = bytes; injected = (terms past).injected s } in
    let same : air (parts (sends s q (terms past))) ≡ air (parts (puts (begun_by q) s q (terms past))) = ap air (sends_keeps s q (terms past)) in
    let most = put_air s q (terms past) own.0 in
    omega (arith, same, most)

-- ---- the notes of a line that appends
abbrev pub is_acting : Note → Bool
is_acting (notes.Append i n k cdb buffer) = true
is_acting (notes.Low i n k) = true
is_acting (notes.Linked i n k) = true
is_acting (notes.Rung i n k) = true
is_acting (notes.Sent serial generation from to bytes) = true
is_acting (notes.Refused line number) = true
is_acting _ = false

abbrev pub AreActing : List Note → Type 0
AreActing told = AllByRecursion (λ note. is_acting note ≡ true) told

pub all_reverse : (P : Note → Type 0) (xs : List Note) → AllByRecursion P xs → AllByRecursion P (reverse xs)
all_reverse P [] all = tt
all_reverse P (x ∷ xs) all = subst (AllByRecursion P) (sym (reverse-append (x ∷ []) xs)) (all_append P (reverse xs) (x ∷ []) (all_reverse P xs all.1) (all.0, tt))

-- the latest one first
pub acting_latest : (told : List Note) → AreActing (reverse told) → AreActing told
acting_latest told all = subst AreActing (reverse-reverse told) (all_reverse (λ note. is_acting note ≡ true) (reverse told) all)

pub acting_air : (told : List Note) (past : List Moment) → AreActing told → EachMoment SentAt (map said told ++ past) → in_the_air (map said told ++ past) ≤ length (sends_of told) + in_the_air past
acting_air [] past all own = omega arith
acting_air (notes.Sent s generation from to bytes ∷ told) past all own =
    let one = sent_air (map said told ++ past) s generation from to bytes own.0 in
    let rest = acting_air told past all.1 own.1 in
    omega (arith, one, rest)
acting_air (notes.Append i n k cdb buffer ∷ told) past all own = acting_air told past all.1 own.1
acting_air (notes.Low i n k ∷ told) past all own = acting_air told past all.1 own.1
acting_air (notes.Linked i n k ∷ told) past all own = acting_air told past all.1 own.1
acting_air (notes.Rung i n k ∷ told) past all own = acting_air told past all.1 own.1
acting_air (notes.Refused line number ∷ told) past all own = acting_air told past all.1 own.1
acting_air (_ ∷ told) past all own = absurd (let no : false ≡ true = all.0 in cc no)

-- ---- the turn of such a line
abbrev pub onto : List Note → List Note → List Note
onto [] rest = rest
onto (note ∷ told) rest = onto told (note ∷ rest)

module _ (Law : Turn → Type 0) where
  pub line_turn : (told rest : List Note) (past : List Moment) (line : ℕ) (event : Event) → AreActing told → EachTurnBefore Law (map said told ++ asked line event ∷ past) rest → Law (turn past (asked line event) (onto told rest))
  line_turn [] rest past line event all each = each.0
  line_turn (notes.Sent s generation from to bytes ∷ told) rest past line event all each = line_turn told (notes.Sent s generation from to bytes ∷ rest) past line event all.1 each
  line_turn (notes.Append i n k cdb buffer ∷ told) rest past line event all each = line_turn told (notes.Append i n k cdb buffer ∷ rest) past line event all.1 each
  line_turn (notes.Low i n k ∷ told) rest past line event all each = line_turn told (notes.Low i n k ∷ rest) past line event all.1 each
  line_turn (notes.Linked i n k ∷ told) rest past line event all each = line_turn told (notes.Linked i n k ∷ rest) past line event all.1 each
  line_turn (notes.Rung i n k ∷ told) rest past line event all each = line_turn told (notes.Rung i n k ∷ rest) past line event all.1 each
  line_turn (notes.Refused number other ∷ told) rest past line event all each = line_turn told (notes.Refused number other ∷ rest) past line event all.1 each
  line_turn (_ ∷ told) rest past line event all each = absurd (let no : false ≡ true = all.0 in cc no)

  -- the turns before any line
  pub turns_before : (told rest : List Note) (past : List Moment) (line : ℕ) (event : Event) → EachTurnBefore Law (map said told ++ asked line event ∷ past) rest → EachTurnBefore Law past []
  turns_before [] rest past line event each = each.1
  turns_before (notes.Got s ∷ told) rest past line event each = turns_before told [] past line event each.1
  turns_before (notes.Ignored s cause ∷ told) rest past line event each = turns_before told [] past line event each.1
  turns_before (notes.TimedOut s ∷ told) rest past line event each = turns_before told [] past line event each.1
  turns_before (notes.Seen node generation ∷ told) rest past line event each = turns_before told [] past line event each.1
  turns_before (notes.Tick ∷ told) rest past line event each = turns_before told [] past line event each.1
  turns_before (notes.Settled ∷ told) rest past line event each = turns_before told [] past line event each.1
  turns_before (notes.Stopped ∷ told) rest past line event each = turns_before told [] past line event each.1
  turns_before (note ∷ told) rest past line event each = turns_before told (note ∷ rest) past line event each

-- ---- it sends one packet at most
sends_onto : (told rest : List Note) → length (sends_of (onto told rest)) ≡ length (sends_of told) + length (sends_of rest)
sends_onto [] rest = omega arith
sends_onto (notes.Sent s generation from to bytes ∷ told) rest = let more = sends_onto told (notes.Sent s generation from to bytes ∷ rest) in omega (arith, more)
sends_onto (note ∷ told) rest = sends_onto told (note ∷ rest)

packets_count : (past : List Moment) (node : ℕ) (sent : List Note) (requests : List Request) → ArePackets past node sent requests → length sent ≡ length requests
packets_count past node [] [] h = refl
packets_count past node (notes.Sent serial generation from to bytes ∷ rest) (want ∷ requests) h = ap suc (packets_count _ node rest requests h.1)
packets_count past node [] (want ∷ requests) h = absurd h
packets_count past node (notes.Sent serial generation from to bytes ∷ rest) [] h = absurd h
packets_count past node (_ ∷ rest) [] h = absurd h
packets_count past node (_ ∷ rest) (want ∷ requests) h = absurd h

pub one_sent : (disks : List Disk) (told : List Note) (past : List Moment) (line i : ℕ) (cmd : Cmd) → RequestsLaw disks (turn past (asked line (events.Act i (actions.Append cmd))) (onto told [])) → length (sends_of told) ≤ 1
one_sent disks told past line i cmd law =
    let t = turn past (asked line (events.Act i (actions.Append cmd))) (onto told []) in
    let wants = unless_refused (refusal_at past i (actions.Append cmd)) (requests_to 0 (action_body (actions.Append cmd) past i (host_at past i))) in
    let same : length (drop 0 (sends_of (onto told []))) ≡ length wants = packets_count (before_requests disks t) (suc i) (drop 0 (sends_of (onto told []))) wants (law refl) in
    let whole = sends_onto told [] in
    let few = by (refusal_at past i (actions.Append cmd)) in
    omega (arith, same, whole, few)
  where
    by : (refusal : Option ℕ) → length (unless_refused refusal (requests_to 0 (action_body (actions.Append cmd) past i (host_at past i)))) ≤ 1
    by None = omega arith
    by (Some number) = omega arith
