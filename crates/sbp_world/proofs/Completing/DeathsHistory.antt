-- How a history goes on without a death, or without a failure of the management operation, since the target first saw the latest reset, turn by turn: where nothing was lost since, and the target is in the generation of
-- the bus, a turn says of none.
use Rattle.sbp_world.proofs.Words.Std.{◌≡◌, ◌∙◌, refl, sym, ap, subst, ℕ, ◌≤◌, ◌==◌, ◌||◌, nat_eq, Bool, true, false, cond, List, [], ◌∷◌, ◌++◌, length, map, Option, Some, None, arith, nat_tests, false≢true}
use Rattle.sbp_world.proofs.Words.Wire.{Moment, asked, said, Kind, Part, Sending, Transaction, asked_by, begun_by, part_of, request, response, Held, Owed, Terms, begins, closes, closes_if, free, gets, gets_as, gives, ignores, ignores_that, judges, judges_if, opened, pays, puts, rests, sends, terms, times_out, waits, Cause, Event, Note}
use Rattle.bus_transactions.specs.Carried.{AreKept}
use Rattle.sbp_journal.specs.Transactions.{no_packet}
use Rattle.sbp_journal.specs.declared.cause.Cause.TheVariants as causes
use Rattle.sbp_journal.specs.declared.event.Event.TheVariants as events
use Rattle.sbp_journal.specs.declared.note.Note.TheVariants as notes
use Rattle.sbp_laws.specs.Budget.{since_reset}
use Rattle.sbp_world.specs.Completing.Sights.{behind_sight, has_seen, since_sight}
use Rattle.sbp_world.specs.Completing.Deaths.{NoneDies}
use Rattle.sbp_world.specs.Completing.Ends.{NoneManagesFail}
use Rattle.sbp_world.proofs.Common.{said_joined}
use Rattle.sbp_world.proofs.Completing.DeathsTurns.{Adds, AllMid, IsMid, May, TurnSays, Turned, any, asks, deathless, goes, lapses, passes, resets, sees, unfailing}
use Rattle.sbp_world.proofs.Lists.Generations.{moment_generation}
use Rattle.sbp_world.proofs.Pointers.Ages.{other_node}

-- ---- what a note leaves of the generation of the bus
abbrev Same : Terms → Terms → Type 0
Same t u = u.bus ≡ t.bus

pub opens : (event : Event) (t : Terms) → Same t (opened event t)
opens (events.Reset physical) t = refl
opens (events.Repeat serial) t = refl
opens _ t = refl

judged : (u : Option Transaction) (cause : Option Cause) (s : ℕ) (packet : Sending) (t : Terms) → Same t (judges u cause s packet t)
judged None cause s packet t = refl
judged (Some u) cause s packet t = refl

judged_if : (b : Bool) (u : Option Transaction) (s : ℕ) (packet : Sending) (t : Terms) → Same t (judges_if b u s packet t)
judged_if true u s packet t = judged u (Some causes.Grammar) s packet t
judged_if false u s packet t = refl

closed_if : (b : Bool) (s : ℕ) (u : Transaction) (rcode : ℕ) (t : Terms) → Same t (closes_if b s u rcode t)
closed_if true s u rcode t = refl
closed_if false s u rcode t = refl

closed : (held : Held) (u : Transaction) (kind : Kind) (rcode : ℕ) (t : Terms) → Same t (closes held u kind rcode t)
closed (waits kind s) u other rcode t = closed_if _ s u rcode t
closed free u other rcode t = refl
closed rests u other rcode t = refl

got_as : (part : Part) (s : ℕ) (packet : Sending) (t : Terms) → Same t (gets_as part s packet t)
got_as (request label kind) s packet t = judged (asked_by packet) None s packet t
got_as (response label kind) s packet t = closed _ _ kind _ t
got_as no_packet s packet t = refl

got : (found : Option Sending) (s : ℕ) (t : Terms) → Same t (gets found s t)
got None s t = refl
got (Some packet) s t = got_as (part_of packet.bytes) s packet _

ignored : (cause : Cause) (s : ℕ) (packet : Sending) (t : Terms) → Same t (ignores cause s packet t)
ignored causes.Generation s packet t = refl
ignored causes.Grammar s packet t = judged_if _ (asked_by packet) s packet _
ignored causes.Label s packet t = refl
ignored causes.Again s packet t = judged (asked_by packet) (Some causes.Again) s packet t
ignored causes.Source s packet t = judged (asked_by packet) (Some causes.Source) s packet _
ignored causes.Login s packet t = judged (asked_by packet) (Some causes.Login) s packet _
ignored causes.Slot s packet t = judged (asked_by packet) (Some causes.Slot) s packet _

ignored_that : (found : Option Sending) (cause : Cause) (s : ℕ) (t : Terms) → Same t (ignores_that found cause s t)
ignored_that None cause s t = refl
ignored_that (Some packet) cause s t = ignored cause s packet _

pub timed : (u : Option Transaction) (t : Terms) → Same t (times_out u t)
timed None t = refl
timed (Some u) t = refl

begun : (u : Option Transaction) (s : ℕ) (packet : Sending) (t : Terms) → Same t (begins u s packet t)
begun None s packet t = refl
begun (Some u) s packet t = refl

given : (u : Option Transaction) (rcode : ℕ) (t : Terms) → Same t (gives u rcode t)
given None rcode t = refl
given (Some u) rcode t = refl

paid : (owed : Option Owed) (sent : ℕ → Option Sending) (s : ℕ) (packet : Sending) (t : Terms) → Same t (pays owed sent s packet t)
paid None sent s packet t = refl
paid (Some owed) sent s packet t = given _ _ t

sent : (s : ℕ) (packet : Sending) (t : Terms) → Same t (sends s packet t)
sent s packet t =
    let put = puts (begun_by packet) s packet t in
    paid t.owes t.sent s packet (begins (begun_by packet) s packet put) ∙ begun (begun_by packet) s packet put

pub note_bus : (note : Note) (past : List Moment) → IsMid any note → (terms (said note ∷ past)).bus ≡ (terms past).bus
note_bus (notes.Sent s generation from to bytes) past m = sent s _ (terms past)
note_bus (notes.Got s) past m = got ((terms past).sent s) s (terms past)
note_bus (notes.Ignored s cause) past m = ignored_that ((terms past).sent s) cause s (terms past)
note_bus (notes.TimedOut s) past m = absurd m
note_bus (notes.Reset generation) past m = absurd m
note_bus note past m = refl

-- ---- and of the rest
pub note_generation : (note : Note) (past : List Moment) → IsMid any note → (terms (said note ∷ past)).generation 0 ≡ (terms past).generation 0
note_generation (notes.Seen node generation) past m = absurd m
note_generation (notes.Sent s generation from to bytes) past m = moment_generation 0 (said (notes.Sent s generation from to bytes)) past refl
note_generation (notes.Got s) past m = moment_generation 0 (said (notes.Got s)) past refl
note_generation (notes.Ignored s cause) past m = moment_generation 0 (said (notes.Ignored s cause)) past refl
note_generation (notes.TimedOut s) past m = absurd m
note_generation note past m = refl

note_since : (note : Note) (past : List Moment) → IsMid any note → since_reset (said note ∷ past) ≡ said note ∷ since_reset past
note_since (notes.Begin initiators ready) past m = absurd m
note_since (notes.Reset generation) past m = absurd m
note_since note past m = refl

note_seen : (note : Note) (ms : List Moment) → IsMid any note → has_seen 0 (said note ∷ ms) ≡ has_seen 0 ms
note_seen (notes.Seen node generation) ms m = absurd m
note_seen note ms m = refl

note_kept : (note : Note) (past : List Moment) → IsMid any note → AreKept (said note ∷ past) → AreKept past
note_kept (notes.Reset generation) past m k = absurd m
note_kept (notes.Lost s) past m k = absurd k
note_kept (notes.TimedOut s) past m k = absurd m
note_kept (notes.Injected s) past m k = absurd k
note_kept (notes.Ignored s causes.Generation) past m k = k.1
note_kept note past m k = k

live_may : (may : May) (note : Note) → IsMid may note → IsMid any note
live_may may (notes.Begin initiators ready) m = absurd m
live_may may (notes.Reset generation) m = absurd m
live_may may (notes.Seen node generation) m = absurd m
live_may may (notes.TimedOut serial) m = absurd m
live_may may (notes.Dead i list cause) m = refl
live_may may (notes.ManageFailed i cause) m = refl
live_may may note m = tt

-- ---- since the sight
abbrev sight : Bool → List Moment → List Moment
sight first ms = cond first ms (behind_sight 0 ms)

-- a moment that is of what may be told; and such moments
abbrev pub IsLive : May → Moment → Type 0
IsLive may (said (notes.Dead i list cause)) = may.dies ≡ true
IsLive may (said (notes.ManageFailed i cause)) = may.fails ≡ true
IsLive may moment = Unit {0}

abbrev pub AreLive : May → List Moment → Type 0
AreLive may [] = Unit {0}
AreLive may (moment ∷ ms) = IsLive may moment × AreLive may ms

live_note : (may : May) (note : Note) → IsMid may note → IsLive may (said note)
live_note may (notes.Dead i list cause) m = m
live_note may (notes.ManageFailed i cause) m = m
live_note may note m = tt

-- so none died, or failed
pub none_dies : (ms : List Moment) → AreLive deathless ms → NoneDies ms
none_dies [] l = tt
none_dies (said (notes.Dead i list cause) ∷ ms) l = absurd (false≢true l.0)
none_dies (moment ∷ ms) l = none_dies ms l.1

pub none_fails : (ms : List Moment) → AreLive unfailing ms → NoneManagesFail ms
none_fails [] l = tt
none_fails (said (notes.ManageFailed i cause) ∷ ms) l = absurd (false≢true l.0)
none_fails (moment ∷ ms) l = none_fails ms l.1

-- the target saw the latest reset, or there was none
abbrev pub is_open : List Moment → Bool
is_open past = ((terms past).bus == 0) || has_seen 0 (since_reset past)

-- what is said of each history since then
abbrev pub AllSince : (List Moment → Type 0) → List Moment → Type 0
AllSince Small past = (later earlier : List Moment) → later ++ earlier ≡ past → length later ≤ length (since_sight 0 past) → Small earlier

-- none died, or failed, since then; and where the target saw it, it is in its generation
pub record Lives (may : May) (Small : List Moment → Type 0) (past : List Moment) : Type 0 where
  pub none : AreKept past → AllSince Small past → AreLive may (since_sight 0 past)
  pub seen : has_seen 0 (since_reset past) ≡ true → (terms past).generation 0 ≡ (terms past).bus

-- ---- one more moment, of the same generation
pub record Follows (moment : Moment) (past : List Moment) : Type 0 where
  pub bus : (terms (moment ∷ past)).bus ≡ (terms past).bus
  pub since : since_reset (moment ∷ past) ≡ moment ∷ since_reset past

module _ (moment : Moment) (past : List Moment) (f : Follows moment past) where
  abbrev first : Bool
  first = (terms past).bus == 0

  abbrev ms : List Moment
  ms = since_reset past

  sight_is : since_sight 0 (moment ∷ past) ≡ sight first (moment ∷ ms)
  sight_is = ap (λ (n : ℕ). sight (n == 0) (since_reset (moment ∷ past))) f.bus ∙ ap (sight first) f.since

  open_by : (b c : Bool) → first ≡ b → has_seen 0 ms ≡ c → (b || c) ≡ true → sight b (moment ∷ ms) ≡ moment ∷ sight b ms
  open_by true c e g o = refl
  open_by false true e g o = ap (λ x. cond x (moment ∷ behind_sight 0 ms) []) g
  open_by false false e g o = absurd (false≢true o)

  -- where it is since the sight
  pub sight_on : is_open past ≡ true → since_sight 0 (moment ∷ past) ≡ moment ∷ since_sight 0 past
  sight_on o = sight_is ∙ open_by first (has_seen 0 ms) refl refl o

  small_back : (Small : List Moment → Type 0) → is_open past ≡ true → AllSince Small (moment ∷ past) → AllSince Small past
  small_back Small o small later earlier is most =
      let long = ap (λ xs. length xs) (sight_on o) in small (moment ∷ later) earlier (ap (λ xs. moment ∷ xs) is) (omega (arith, long, most))

  shut_by : (b c : Bool) → first ≡ b → has_seen 0 ms ≡ c → (b || c) ≡ false → sight b (moment ∷ ms) ≡ []
  shut_by true c e g o = absurd (false≢true (sym o))
  shut_by false true e g o = absurd (false≢true (sym o))
  shut_by false false e g o = ap (λ x. cond x (moment ∷ behind_sight 0 ms) []) g

  sight_shut : is_open past ≡ false → since_sight 0 (moment ∷ past) ≡ []
  sight_shut o = sight_is ∙ shut_by first (has_seen 0 ms) refl refl o

  one_lives : (may : May) (Small : List Moment → Type 0) → IsLive may moment → (AreKept (moment ∷ past) → AreKept past) → Lives may Small past → AreKept (moment ∷ past) → AllSince Small (moment ∷ past) → AreLive may (since_sight 0 (moment ∷ past))
  one_lives may Small live back p kept small = by (is_open past) refl
    where
      by : (b : Bool) → is_open past ≡ b → AreLive may (since_sight 0 (moment ∷ past))
      by true o = subst (AreLive may) (sym (sight_on o)) (live, p.none (back kept) (small_back Small o small))
      by false o = subst (AreLive may) (sym (sight_shut o)) tt

pub note_follows : (note : Note) (past : List Moment) → IsMid any note → Follows (said note) past
note_follows note past m = record { bus = note_bus note past m; since = note_since note past m }

moment_seen : (moment : Moment) (ms : List Moment) → has_seen 0 (moment ∷ ms) ≡ false → has_seen 0 ms ≡ false
moment_seen (said (notes.Seen node generation)) ms e = by (node == 0) e
  where
    by : (b : Bool) → (b || has_seen 0 ms) ≡ false → has_seen 0 ms ≡ false
    by true e = absurd (false≢true (sym e))
    by false e = e
moment_seen moment ms e = e

module _ (may : May) (Small : List Moment → Type 0) where
  -- ---- notes of no reset or sight
  note_sight : (note : Note) (past : List Moment) → IsMid any note → Lives may Small past → has_seen 0 (since_reset (said note ∷ past)) ≡ true → (terms (said note ∷ past)).generation 0 ≡ (terms (said note ∷ past)).bus
  note_sight note past m p e =
      note_generation note past m ∙ (p.seen (sym (note_seen note (since_reset past) m) ∙ (ap (has_seen 0) (sym (note_since note past m)) ∙ e)) ∙ sym (note_bus note past m))

  note_lives : (note : Note) (past : List Moment) → IsMid may note → Lives may Small past → Lives may Small (said note ∷ past)
  note_lives note past m p =
      let mid = live_may may note m in
      record {
        none = one_lives (said note) past (note_follows note past mid) may Small (live_note may note m) (note_kept note past mid) p;
        seen = note_sight note past mid p;
      }

  more_lives : (more : List Note) (past : List Moment) → AllMid may more → Lives may Small past → Lives may Small (map said more ++ past)
  more_lives [] past m p = p
  more_lives (note ∷ more) past m p = note_lives note (map said more ++ past) m.0 (more_lives more past m.1 p)

  -- what is known of any such notes
  record Leaves (more : List Note) (past : List Moment) : Type 0 where
    sights : Lives may Small past → has_seen 0 (since_reset (map said more ++ past)) ≡ true → (terms (map said more ++ past)).generation 0 ≡ (terms (map said more ++ past)).bus
    open_is : is_open (map said more ++ past) ≡ is_open past
    kept : AreKept (map said more ++ past) → AreKept past
    small : is_open past ≡ true → AllSince Small (map said more ++ past) → AllSince Small past
    shut : is_open past ≡ false → since_sight 0 past ≡ [] → since_sight 0 (map said more ++ past) ≡ []

  pub open_same : (note : Note) (past : List Moment) → IsMid any note → is_open (said note ∷ past) ≡ is_open past
  open_same note past m =
      ap (λ (n : ℕ). (n == 0) || has_seen 0 (since_reset (said note ∷ past))) (note_bus note past m)
      ∙ ap (λ b. ((terms past).bus == 0) || b) (ap (has_seen 0) (note_since note past m) ∙ note_seen note (since_reset past) m)

  leaves : (more : List Note) (past : List Moment) → AllMid any more → Leaves more past
  leaves [] past m = record { sights = λ p. p.seen; open_is = refl; kept = λ k. k; small = λ o s. s; shut = λ o e. e }
  leaves (note ∷ more) past m =
      let l = leaves more past m.1 in
      let now = map said more ++ past in
      let f = note_follows note now m.0 in
      record {
        sights = λ p e.
            note_generation note now m.0
            ∙ (l.sights p (sym (note_seen note (since_reset now) m.0) ∙ (ap (has_seen 0) (sym (note_since note now m.0)) ∙ e)) ∙ sym (note_bus note now m.0));
        open_is = open_same note now m.0 ∙ l.open_is;
        kept = λ k. l.kept (note_kept note now m.0 k);
        small = λ o s. l.small o (small_back (said note) now f Small (l.open_is ∙ o) s);
        shut = λ o e. sight_shut (said note) now f (l.open_is ∙ o);
      }

  -- ---- a line is asked for
  pub asked_follows : (line : ℕ) (event : Event) (past : List Moment) → Follows (asked line event) past
  asked_follows line event past = record { bus = opens event (terms past); since = refl }

  asked_lives : (line : ℕ) (event : Event) (past : List Moment) → Lives may Small past → Lives may Small (asked line event ∷ past)
  asked_lives line event past p = record {
    none = one_lives (asked line event) past (asked_follows line event past) may Small tt (λ k. k) p;
    seen = λ e. moment_generation 0 (asked line event) past refl ∙ (p.seen e ∙ sym (opens event (terms past)));
  }

  -- a sight of the latest generation
  sees_lives : (node : ℕ) (past : List Moment) → Lives may Small past → Lives may Small (said (notes.Seen node (terms past).bus) ∷ past)
  sees_lives node past p = record {
    none = one_lives (said (notes.Seen node (terms past).bus)) past (record { bus = refl; since = refl }) may Small tt (λ k. k) p;
    seen = λ e. by (node == 0) refl e;
  }
    where
      by : (b : Bool) → (node == 0) ≡ b → (b || has_seen 0 (since_reset past)) ≡ true → (terms (said (notes.Seen node (terms past).bus) ∷ past)).generation 0 ≡ (terms past).bus
      by true f e = let same : nat_eq 0 node ≡ true = grind (arith, nat_tests, f) in ap (λ x. cond x (terms past).bus ((terms past).generation 0)) same
      by false f e = other_node 0 node (terms past).bus (terms past).generation f ∙ p.seen e

  -- before the sight there is nothing
  nothing_shut : (past : List Moment) → is_open past ≡ false → since_sight 0 past ≡ []
  nothing_shut past o = by ((terms past).bus == 0) (has_seen 0 (since_reset past)) refl o
    where
      none_seen : (ms : List Moment) → has_seen 0 ms ≡ false → behind_sight 0 ms ≡ []
      none_seen [] e = refl
      none_seen (moment ∷ ms) e = ap (λ x. cond x (moment ∷ behind_sight 0 ms) []) (moment_seen moment ms e)

      by : (b c : Bool) → has_seen 0 (since_reset past) ≡ c → (b || c) ≡ false → sight b (since_reset past) ≡ []
      by true c e f = absurd (false≢true (sym f))
      by false true e f = absurd (false≢true (sym f))
      by false false e f = none_seen (since_reset past) e

  -- ---- a turn
  module _ (Goes : Type 0) (latest : ℕ) (old : List Note) (base : List Moment) where
    abbrev before : List Moment
    before = map said old ++ base

    -- what is known of the history before it
    record Known : Type 0 where
      lives : Lives may Small before
      latest_is : (terms before).bus ≡ latest
      first : (terms before).bus ≡ 0 → (terms before).generation 0 ≡ (terms before).bus
      live : AreKept before → (terms before).generation 0 ≡ (terms before).bus → Small before → Goes

    joined : (told : May) (new : List Note) (a : Adds told old new) → map said a.more ++ before ≡ map said new ++ base
    joined told new a = said_joined a.more old base ∙ ap (λ ns. map said ns ++ base) a.is

    module _ (k : Known) where
      level_by : (b c : Bool) → ((terms before).bus == 0) ≡ b → has_seen 0 (since_reset before) ≡ c → (b || c) ≡ true → (terms before).generation 0 ≡ (terms before).bus
      level_by true c e f o = k.first (grind (arith, nat_tests, e))
      level_by false true e f o = k.lives.seen f
      level_by false false e f o = absurd (false≢true o)

      level : is_open before ≡ true → (terms before).generation 0 ≡ (terms before).bus
      level o = level_by ((terms before).bus == 0) (has_seen 0 (since_reset before)) refl refl o

      passes_on : (new : List Note) → Adds any old new → (Goes → Adds may old new) → Lives may Small (map said new ++ base)
      passes_on new all live = record {
        none = λ kept small. by (is_open before) refl kept small;
        seen = subst (λ ms. has_seen 0 (since_reset ms) ≡ true → (terms ms).generation 0 ≡ (terms ms).bus) (joined any new all) ((leaves all.more before all.mid).sights k.lives);
      }
        where
          l : Leaves all.more before
          l = leaves all.more before all.mid

          by : (b : Bool) → is_open before ≡ b → AreKept (map said new ++ base) → AllSince Small (map said new ++ base) → AreLive may (since_sight 0 (map said new ++ base))
          by true o kept small =
              let back = sym (joined any new all) in
              let few = l.small o (subst (AllSince Small) back small) in
              let a = live (k.live (l.kept (subst AreKept back kept)) (level o) (few [] before refl (omega arith))) in
              subst (λ ms. AreKept ms → AllSince Small ms → AreLive may (since_sight 0 ms)) (joined may new a) (more_lives a.more before a.mid k.lives).none kept small
          by false o kept small = subst (λ ms. AreLive may (since_sight 0 ms)) (joined any new all) (subst (AreLive may) (sym (l.shut o (nothing_shut before o))) tt)

      lapses_on : (new : List Note) (serial : ℕ) → Adds any (notes.TimedOut serial ∷ old) new → Lives may Small (map said new ++ base)
      lapses_on new serial a =
          let q = said (notes.TimedOut serial) ∷ before in
          let is : map said a.more ++ q ≡ map said new ++ base = said_joined a.more (notes.TimedOut serial ∷ old) base ∙ ap (λ ns. map said ns ++ base) a.is in
          let l = leaves a.more q a.mid in
          subst (Lives may Small) is
          (record {
            none = λ kept small. absurd (l.kept kept);
            seen = l.sights (record {
              none = λ kept small. absurd kept;
              seen = λ e. moment_generation 0 (said (notes.TimedOut serial)) before refl ∙ (k.lives.seen e ∙ sym (timed _ (terms before)));
            });
          })

      resets_on : (new : List Note) (generation : ℕ) → new ≡ notes.Reset generation ∷ old → Lives may Small (map said new ++ base)
      resets_on new generation e =
          subst (λ ns. Lives may Small (map said ns ++ base)) (sym e)
          (record { none = λ kept small. nothing_said (generation == 0); seen = λ x. absurd (false≢true x) })
        where
          nothing_said : (b : Bool) → AreLive may (sight b [])
          nothing_said true = tt
          nothing_said false = tt

      sees_on : (new : List Note) (node : ℕ) → Adds may (notes.Seen node latest ∷ old) new → Lives may Small (map said new ++ base)
      sees_on new node a =
          let q = said (notes.Seen node latest) ∷ before in
          let is : map said a.more ++ q ≡ map said new ++ base = said_joined a.more (notes.Seen node latest ∷ old) base ∙ ap (λ ns. map said ns ++ base) a.is in
          subst (Lives may Small) is (more_lives a.more q a.mid (subst (λ g. Lives may Small (said (notes.Seen node g) ∷ before)) k.latest_is (sees_lives node before k.lives)))

      turned_lives : (new : List Note) → Turned may Goes latest old new → Lives may Small (map said new ++ base)
      turned_lives new (passes all live) = passes_on new all live
      turned_lives new (lapses serial a) = lapses_on new serial a
      turned_lives new (resets generation e) = resets_on new generation e
      turned_lives new (sees node a) = sees_on new node a

  -- by what is known of the place before
  pub turn_lives : (Goes : Type 0) (latest : ℕ) (past now : List Moment) → TurnSays may Goes latest past now → Lives may Small past → (terms past).bus ≡ latest → ((terms past).bus ≡ 0 → (terms past).generation 0 ≡ (terms past).bus) → ((line : ℕ) (event : Event) → Small (asked line event ∷ past) → Small past) → (AreKept past → (terms past).generation 0 ≡ (terms past).bus → Small past → Goes) → Lives may Small now
  turn_lives Goes latest past now (goes old new below is ends turned) p bus first still live =
      subst (Lives may Small) ends
      (turned_lives Goes latest old below
      (record {
        lives = subst (Lives may Small) (sym is) p;
        latest_is = subst (λ ms. (terms ms).bus ≡ latest) (sym is) bus;
        first = subst (λ ms. (terms ms).bus ≡ 0 → (terms ms).generation 0 ≡ (terms ms).bus) (sym is) first;
        live = subst (λ ms. AreKept ms → (terms ms).generation 0 ≡ (terms ms).bus → Small ms → Goes) (sym is) live;
      })
      new turned)
  turn_lives Goes latest past now (asks line event new ends turned) p bus first still live =
      let same = opens event (terms past) in
      let level = moment_generation 0 (asked line event) past refl in
      subst (Lives may Small) ends
      (turned_lives Goes latest [] (asked line event ∷ past)
      (record {
        lives = asked_lives line event past p;
        latest_is = same ∙ bus;
        first = λ e. level ∙ (first (sym same ∙ e) ∙ sym same);
        live = λ k e small. live k (sym level ∙ (e ∙ same)) (still line event small);
      })
      new turned)
