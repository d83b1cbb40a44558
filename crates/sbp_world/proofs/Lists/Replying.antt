-- A response of the target that waits to be judged by an initiator: what the notes of a turn leave of it, and of the target's operation that waits for the answer.
use Rattle.sbp_world.proofs.Words.Std.{arith, ◌≡◌, ◌∙◌, refl, sym, ap, ℕ, zero, suc, ◌≤◌, nat_eq, Bool, true, false, cond, List, [], ◌∷◌, ◌++◌, map, Option, Some, nat_tests}
use Rattle.sbp_world.proofs.Words.Wire.{SerialsCount, Kept, Moment, asked, said, Sending, terms, Event, Note}
use Rattle.sbp_world.proofs.Words.Target.{Operation, Disk}
use Rattle.sbp_world.proofs.Words.World.{managed_for, AllOf, IsReplying}
use Rattle.sbp_journal.specs.declared.note.Note.TheVariants as notes
use Rattle.sbp_world.proofs.Hosts.Remaining.{remains, serials_behind}
use Rattle.sbp_world.proofs.Lists.LiveTold.{AllAway, IsAway, IsFirst, is_behind, is_first}
use Rattle.sbp_world.proofs.Lists.ManageMoments.{LineFacts}
use Rattle.sbp_world.proofs.Lists.ManageSends.{opened_terms, sent_terms}
use Rattle.sbp_world.proofs.Lists.ManageSent.{for_below}
use Rattle.sbp_world.proofs.Lists.ManageTerms.{got_rests, ignored_rests, timed_rests}
use Rattle.sbp_world.proofs.Common.{untrue}

-- ---- the notes that are no packets of the target

abbrev pub is_spared : Note → Bool
is_spared (notes.Sent serial generation zero to bytes) = false
is_spared _ = true

abbrev is_sight : Note → Bool
is_sight (notes.Seen node generation) = true
is_sight _ = false

le_same : (a b : ℕ) → a ≡ b → a ≤ b
le_same a b e = omega (arith, e)

for_same : (start : List Disk) (note : Note) (past : List Moment) → is_spared note ≡ true → managed_for start (said note ∷ past) ≡ managed_for start past
for_same start (notes.Sent serial generation zero to bytes) past e = untrue e
for_same start (notes.Sent serial generation (suc j) to bytes) past e = refl
for_same start note past e = refl

ids_same : (note : Note) (past : List Moment) → (terms (said note ∷ past)).ids ≡ (terms past).ids
ids_same (notes.Sent serial generation from to bytes) past = (sent_terms serial (record { generation = generation; from = from; to = to; bytes = bytes; injected = (terms past).injected serial }) (terms past)).ids
ids_same (notes.Got serial) past = (got_rests serial past).ids
ids_same (notes.Ignored serial cause) past = (ignored_rests serial cause past).ids
ids_same (notes.TimedOut serial) past = (timed_rests serial past).ids
ids_same note past = refl

pub generations_same : (note : Note) (past : List Moment) → is_sight note ≡ false → (terms (said note ∷ past)).generation ≡ (terms past).generation
generations_same (notes.Sent serial generation from to bytes) past e = (sent_terms serial (record { generation = generation; from = from; to = to; bytes = bytes; injected = (terms past).injected serial }) (terms past)).generation
generations_same (notes.Got serial) past e = (got_rests serial past).generation
generations_same (notes.Ignored serial cause) past e = (ignored_rests serial cause past).generation
generations_same (notes.TimedOut serial) past e = (timed_rests serial past).generation
generations_same (notes.Seen node generation) past e = untrue (sym e)
generations_same note past e = refl

news_more : (note : Note) (past : List Moment) (s : ℕ) → (terms past).news s ≤ (terms (said note ∷ past)).news s
news_more (notes.Sent serial generation from to bytes) past s =
    let e = ap (λ (g : ℕ → ℕ). g s) (sent_terms serial (record { generation = generation; from = from; to = to; bytes = bytes; injected = (terms past).injected serial }) (terms past)).news in
    le_same _ _ (sym e)
news_more (notes.Got serial) past s = (got_rests serial past).news s
news_more (notes.Ignored serial cause) past s = (ignored_rests serial cause past).news s
news_more (notes.TimedOut serial) past s = (timed_rests serial past).news s
news_more note past s = le_same _ _ refl

module _ (start : List Disk) (i : ℕ) where
  -- a response that waits did so before such a note
  pub note_replying : (note : Note) (past : List Moment) → SerialsCount (said note ∷ past) → is_spared note ≡ true → (terms (said note ∷ past)).generation (suc i) ≡ (terms past).generation (suc i) → (s : ℕ) → IsReplying start (said note ∷ past) i s → IsReplying start past i s
  note_replying note past c e g s a =
      let is_for : managed_for start past s ≡ Some a.op = ap (λ (f : ℕ → Option Operation). f s) (sym (for_same start note past e)) ∙ a.is_for in
      let below = for_below start past s a.op (serials_behind (said note) past c) is_for in
      let news = news_more note past s in
      let zero = a.unjudged in
      record {
        packet = a.packet;
        sent = sym ((remains (said note ∷ []) past c).sent s below) ∙ a.sent;
        current = a.current ∙ g;
        op = a.op;
        is_for = is_for;
        responds = a.responds;
        source = a.source ∙ ap (λ (f : ℕ → ℕ → ℕ). f a.packet.generation (suc i)) (ids_same note past);
        label = a.label;
        part = a.part;
        unjudged = omega (arith, news, zero);
      }

  -- or before a line
  pub line_replying : (line : ℕ) (event : Event) (past : List Moment) → LineFacts past → (s : ℕ) → IsReplying start (asked line event ∷ past) i s → IsReplying start past i s
  line_replying line event past f s a =
      let o = opened_terms event (terms past) in
      let there : (terms past).sent s ≡ Some a.packet = ap (λ (g : ℕ → Option Sending). g s) (sym o.sent) ∙ a.sent in
      record {
        packet = a.packet;
        sent = there;
        current = a.current ∙ ap (λ (g : ℕ → ℕ). g (suc i)) o.generation;
        op = a.op;
        is_for = a.is_for;
        responds = a.responds;
        source = a.source ∙ o.ids a.packet.generation (suc i) (f.packets s a.packet there);
        label = a.label;
        part = a.part;
        unjudged = ap (λ (g : ℕ → ℕ). g s) (sym o.news) ∙ a.unjudged;
      }

-- ---- the notes of a turn of the target before its packets

behind_spared : (note : Note) → is_behind note ≡ true → is_spared note ≡ true
behind_spared (notes.Sent serial generation from to bytes) e = untrue e
behind_spared note e = refl

behind_sight : (note : Note) → is_behind note ≡ true → is_sight note ≡ false
behind_sight (notes.Seen node generation) e = untrue e
behind_sight note e = refl

first_spared : (note : Note) → is_first note ≡ true → is_spared note ≡ true
first_spared (notes.Sent serial generation from to bytes) e = untrue e
first_spared note e = refl

-- the generation of the initiator stays
first_own : (note : Note) (past : List Moment) (i : ℕ) → is_first note ≡ true → (terms (said note ∷ past)).generation (suc i) ≡ (terms past).generation (suc i)
first_own (notes.Seen zero generation) past i e = ap (λ b. cond b generation ((terms past).generation (suc i))) (let x : nat_eq (suc i) 0 ≡ false = grind (arith, nat_tests) in x)
first_own (notes.Seen (suc node) generation) past i e = untrue e
first_own note past i e = ap (λ (g : ℕ → ℕ). g (suc i)) (generations_same note past refl)

module _ (start : List Disk) (i : ℕ) where
  pub told_replying : (ns : List Note) (base : List Moment) → SerialsCount (map said ns ++ base) → AllOf is_behind ns → (s : ℕ) → IsReplying start (map said ns ++ base) i s → IsReplying start base i s
  told_replying [] base c b s a = a
  told_replying (note ∷ ns) base c b s a =
      told_replying ns base (serials_behind (said note) (map said ns ++ base) c) b.1 s
      (note_replying start i note (map said ns ++ base) c (behind_spared note b.0) (ap (λ (g : ℕ → ℕ). g (suc i)) (generations_same note (map said ns ++ base) (behind_sight note b.0))) s a)

  pub first_replying : (ns : List Note) (base : List Moment) → SerialsCount (map said ns ++ base) → IsFirst ns → (s : ℕ) → IsReplying start (map said ns ++ base) i s → IsReplying start base i s
  first_replying [] base c b s a = a
  first_replying (note ∷ []) base c b s a = note_replying start i note base c (first_spared note b) (first_own note base i b) s a
  first_replying (note ∷ other ∷ ns) base c b s a = absurd b

-- ---- the notes of a turn that is none of the target

-- a packet that was sent for an operation of the node, in a generation
pub record IsSentFor (start : List Disk) (past : List Moment) (i s generation : ℕ) : Type 0 where
  pub packet : Sending
  pub sent : (terms past).sent s ≡ Some packet
  pub at : packet.generation ≡ generation
  pub op : Operation
  pub is_for : managed_for start past s ≡ Some op
  pub source : op.source ≡ (terms past).ids packet.generation (suc i)

away_spared : (i own : ℕ) (kept : List Kept) (note : Note) → IsAway i own kept note → is_spared note ≡ true
away_spared i own kept (notes.Sent serial generation zero to bytes) a = absurd (a refl)
away_spared i own kept (notes.Sent serial generation (suc j) to bytes) a = refl
away_spared i own kept (notes.Begin initiators ready) a = absurd a
away_spared i own kept note a = refl

pub away_generation : (i own : ℕ) (kept : List Kept) (note : Note) (past : List Moment) → IsAway i own kept note → (terms past).generation (suc i) ≡ own → (terms (said note ∷ past)).generation (suc i) ≡ own
away_generation i own kept (notes.Seen node generation) past a e = by (nat_eq (suc i) node) refl
  where
    by : (b : Bool) → nat_eq (suc i) node ≡ b → cond b generation ((terms past).generation (suc i)) ≡ own
    by true f = a.1 (let x : node ≡ suc i = grind (arith, nat_tests) in x)
    by false f = e
away_generation i own kept (notes.Sent serial generation from to bytes) past a e = ap (λ (g : ℕ → ℕ). g (suc i)) (generations_same (notes.Sent serial generation from to bytes) past refl) ∙ e
away_generation i own kept (notes.Got serial) past a e = ap (λ (g : ℕ → ℕ). g (suc i)) (generations_same (notes.Got serial) past refl) ∙ e
away_generation i own kept (notes.Ignored serial cause) past a e = ap (λ (g : ℕ → ℕ). g (suc i)) (generations_same (notes.Ignored serial cause) past refl) ∙ e
away_generation i own kept (notes.TimedOut serial) past a e = ap (λ (g : ℕ → ℕ). g (suc i)) (generations_same (notes.TimedOut serial) past refl) ∙ e
away_generation i own kept note past a e = e

module _ (start : List Disk) (i : ℕ) where
  note_sent_for : (note : Note) (past : List Moment) → SerialsCount (said note ∷ past) → is_spared note ≡ true → (s generation : ℕ) → IsSentFor start (said note ∷ past) i s generation → IsSentFor start past i s generation
  note_sent_for note past c e s generation a =
      let is_for : managed_for start past s ≡ Some a.op = ap (λ (f : ℕ → Option Operation). f s) (sym (for_same start note past e)) ∙ a.is_for in
      let below = for_below start past s a.op (serials_behind (said note) past c) is_for in
      record {
        packet = a.packet;
        sent = sym ((remains (said note ∷ []) past c).sent s below) ∙ a.sent;
        at = a.at;
        op = a.op;
        is_for = is_for;
        source = a.source ∙ ap (λ (f : ℕ → ℕ → ℕ). f a.packet.generation (suc i)) (ids_same note past);
      }

  pub line_sent_for : (line : ℕ) (event : Event) (past : List Moment) → LineFacts past → (s generation : ℕ) → IsSentFor start (asked line event ∷ past) i s generation → IsSentFor start past i s generation
  line_sent_for line event past f s generation a =
      let o = opened_terms event (terms past) in
      let there : (terms past).sent s ≡ Some a.packet = ap (λ (g : ℕ → Option Sending). g s) (sym o.sent) ∙ a.sent in
      record { packet = a.packet; sent = there; at = a.at; op = a.op; is_for = a.is_for; source = a.source ∙ o.ids a.packet.generation (suc i) (f.packets s a.packet there) }

  pub away_sent_for : (own : ℕ) (kept : List Kept) (ns : List Note) (base : List Moment) → SerialsCount (map said ns ++ base) → AllAway i own kept ns → (s generation : ℕ) → IsSentFor start (map said ns ++ base) i s generation → IsSentFor start base i s generation
  away_sent_for own kept [] base c b s generation a = a
  away_sent_for own kept (note ∷ ns) base c b s generation a =
      away_sent_for own kept ns base (serials_behind (said note) (map said ns ++ base) c) b.1 s generation
      (note_sent_for note (map said ns ++ base) c (away_spared i own kept note b.0) s generation a)

  module _ (own : ℕ) (kept : List Kept) where
    all_generation : (ns : List Note) (base : List Moment) → AllAway i own kept ns → (terms base).generation (suc i) ≡ own → (terms (map said ns ++ base)).generation (suc i) ≡ own
    all_generation [] base b e = e
    all_generation (note ∷ ns) base b e = away_generation i own kept note (map said ns ++ base) b.0 (all_generation ns base b.1 e)

    pub away_replying : (ns : List Note) (base : List Moment) → SerialsCount (map said ns ++ base) → AllAway i own kept ns → (terms base).generation (suc i) ≡ own → (s : ℕ) → IsReplying start (map said ns ++ base) i s → IsReplying start base i s
    away_replying [] base c b e s a = a
    away_replying (note ∷ ns) base c b e s a =
        let past = map said ns ++ base in
        let there = all_generation ns base b.1 e in
        away_replying ns base (serials_behind (said note) past c) b.1 e s
        (note_replying start i note past c (away_spared i own kept note b.0) (away_generation i own kept note past b.0 there ∙ sym there) s a)
