-- A turn of others than the target, by its moments: it begins with a line, or a packet that is not for the target, a time-out, or a generation that another
-- node sees; and the target sends nothing in it.
use Rattle.sbp_world.proofs.Words.Std.{arith, ◌≡◌, ◌∙◌, refl, sym, ap, ◌<◌, ◌≤◌, ◌+◌, ℕ, suc, nat_eq, Bool, true, false, cond, List, [], ◌∷◌, ◌++◌, map, Option, Some, None, nat_tests, false≢true, same_Some}
use Rattle.sbp_world.proofs.Words.Wire.{Moment, asked, said, Kind, Part, Sending, Transaction, asked_by, part_of, request, response, Held, Terms, arrives, closes, closes_if, free, gets, gets_as, ignores, ignores_that, is_news, is_served, judges, judges_if, opened, rests, terms, times_out, waits, Cause, Event, Note}
use Rattle.sbp_world.proofs.Words.Laws.{EachMoment}
use Rattle.sbp_world.proofs.Words.World.{WorldState, MayStand, turn_of, AllOf, Ends, EndsAt, IsToldDone, IsUp, of_rest, View, view}
use Rattle.sbp_journal.specs.Transactions.{no_packet}
use Rattle.sbp_journal.specs.declared.cause.Cause.TheVariants as causes
use Rattle.sbp_journal.specs.declared.event.Event.TheVariants as events
use Rattle.sbp_journal.specs.declared.note.Note.TheVariants as notes
use Rattle.sbp_world.proofs.Lists.Generations.{is_sight, moment_generation, not_lower}
use Rattle.sbp_world.proofs.Lists.Joins.{Begins}
use Rattle.sbp_world.proofs.Lists.OpenedDrops.{Because, because, by_got, by_seen, holds, none_begins}
use Rattle.sbp_world.proofs.Lists.OpenedFirst.{first_lists, is_first}
use Rattle.sbp_world.proofs.Lists.OpenedHears.{IsAside, Keeps}
use Rattle.sbp_world.proofs.Lists.OpenedMoments.{Same, all_same, all_weaker, is_leaving, moment_sent, of_others, others_rest, others_sent}
use Rattle.sbp_world.proofs.Lists.OpenedTurns.{Grown, Known, NoneUp, WasUp}
use Rattle.sbp_world.proofs.Lists.Rises.{Rises}
use Rattle.sbp_world.proofs.Wire.Latest.{other_by}

-- ---- how often a packet was taken, and served, but for the one that comes
pub record Kept (s : ℕ) (t u : Terms) : Type 0 where
  pub served : u.served s ≡ t.served s
  pub news : u.news s ≡ t.news s

other : {A : Type 0} (b : Bool) (x y : A) → b ≡ false → cond b x y ≡ y
other true x y e = absurd (false≢true (sym e))
other false x y e = refl

module _ (s serial : ℕ) (apart : nat_eq s serial ≡ false) where
  like : (t u : Terms) → u.served ≡ t.served → u.news ≡ t.news → Kept s t u
  like t u e f = record { served = ap (λ (g : ℕ → ℕ). g s) e; news = ap (λ (g : ℕ → ℕ). g s) f }

  after_that : (t u v : Terms) → Kept s t u → Kept s u v → Kept s t v
  after_that t u v a b = record { served = b.served ∙ a.served; news = b.news ∙ a.news }

  taken : (t : Terms) → Kept s t (is_news serial t)
  taken t = record { served = refl; news = other (nat_eq s serial) (t.news serial + 1) (t.news s) apart }

  judged : (u : Option Transaction) (cause : Option Cause) (packet : Sending) (t : Terms) → Kept s t (judges u cause serial packet t)
  judged None cause packet t = like t t refl refl
  judged (Some u) cause packet t = like t (judges (Some u) cause serial packet t) refl refl

  judged_if : (b : Bool) (u : Option Transaction) (packet : Sending) (t : Terms) → Kept s t (judges_if b u serial packet t)
  judged_if true u packet t = judged u (Some causes.Grammar) packet t
  judged_if false u packet t = like t t refl refl

  closed_if : (b : Bool) (n : ℕ) (u : Transaction) (rcode : ℕ) (t : Terms) → Kept s t (closes_if b n u rcode t)
  closed_if true n u rcode t = like t (closes_if true n u rcode t) refl refl
  closed_if false n u rcode t = like t t refl refl

  closed : (held : Held) (u : Transaction) (kind : Kind) (rcode : ℕ) (t : Terms) → Kept s t (closes held u kind rcode t)
  closed (waits kind n) u wanted rcode t = closed_if _ n u rcode t
  closed free u wanted rcode t = like t t refl refl
  closed rests u wanted rcode t = like t t refl refl

  got_part : (part : Part) (packet : Sending) (t : Terms) → Kept s t (gets_as part serial packet t)
  got_part (request label kind) packet t = judged (asked_by packet) None packet t
  got_part (response label kind) packet t = closed _ _ kind _ t
  got_part no_packet packet t = like t t refl refl

  served_one : (t : Terms) → Kept s t (is_served serial t)
  served_one t = record { served = other (nat_eq s serial) (t.served serial + 1) (t.served s) apart; news = refl }

  pub got : (so : Option Sending) (t : Terms) → Kept s t (gets so serial t)
  got None t = like t t refl refl
  got (Some packet) t =
      let a = arrives serial t in
      let b = is_news serial a in
      let c = is_served serial b in
      let x = gets_as (part_of packet.bytes) serial packet c in
      after_that t a x (like t a refl refl) (after_that a b x (taken a) (after_that b c x (served_one b) (got_part (part_of packet.bytes) packet c)))

  ignored : (cause : Cause) (packet : Sending) (t : Terms) → Kept s t (ignores cause serial packet t)
  ignored causes.Generation packet t = like t t refl refl
  ignored causes.Grammar packet t = after_that t (is_news serial t) _ (taken t) (judged_if _ (asked_by packet) packet (is_news serial t))
  ignored causes.Label packet t = taken t
  ignored causes.Again packet t = judged (asked_by packet) (Some causes.Again) packet t
  ignored causes.Source packet t = after_that t (is_news serial t) _ (taken t) (judged (asked_by packet) (Some causes.Source) packet (is_news serial t))
  ignored causes.Login packet t = after_that t (is_news serial t) _ (taken t) (judged (asked_by packet) (Some causes.Login) packet (is_news serial t))
  ignored causes.Slot packet t =
      let b = is_news serial t in
      after_that t b _ (taken t) (after_that b (is_served serial b) _ (served_one b) (judged (asked_by packet) (Some causes.Slot) packet (is_served serial b)))

  pub ignored_that : (so : Option Sending) (cause : Cause) (t : Terms) → Kept s t (ignores_that so cause serial t)
  ignored_that None cause t = like t t refl refl
  ignored_that (Some packet) cause t = let a = arrives serial t in after_that t a (ignores cause serial packet a) (like t a refl refl) (ignored cause packet a)

late_kept : (s : ℕ) (u : Option Transaction) (t : Terms) → Kept s t (times_out u t)
late_kept s None t = record { served = refl; news = refl }
late_kept s (Some u) t = record { served = refl; news = refl }

opened_kept : (s : ℕ) (event : Event) (t : Terms) → Kept s t (opened event t)
opened_kept s (events.Reset physical) t = record { served = refl; news = refl }
opened_kept s (events.Repeat serial) t = record { served = refl; news = refl }
opened_kept s _ t = record { served = refl; news = refl }

-- ---- with what such a turn begins
pub data IsOthers (H : List Moment) : Moment → Type 0 where
  asked_first : (line : ℕ) (event : Event) → IsOthers H (asked line event)
  got_first : (serial j : ℕ) (packet : Sending) → (terms H).sent serial ≡ Some packet → packet.to ≡ suc j → IsOthers H (said (notes.Got serial))
  ignored_first : (serial : ℕ) (cause : Cause) (j : ℕ) (packet : Sending) → (terms H).sent serial ≡ Some packet → packet.to ≡ suc j → IsOthers H (said (notes.Ignored serial cause))
  late_first : (serial : ℕ) → IsOthers H (said (notes.TimedOut serial))
  saw_first : (j generation : ℕ) → IsOthers H (said (notes.Seen (suc j) generation))

module _ (H : List Moment) where
  others_first : (m : Moment) → IsOthers H m → is_first m ≡ true
  others_first _ (asked_first line event) = refl
  others_first _ (got_first serial j packet e to) = refl
  others_first _ (ignored_first serial cause j packet e to) = refl
  others_first _ (late_first serial) = refl
  others_first _ (saw_first j generation) = refl

  target_still : (m : Moment) → IsOthers H m → is_sight 0 m ≡ false
  target_still _ (asked_first line event) = refl
  target_still _ (got_first serial j packet e to) = refl
  target_still _ (ignored_first serial cause j packet e to) = refl
  target_still _ (late_first serial) = refl
  target_still _ (saw_first j generation) = (let z : nat_eq (suc j) 0 ≡ false = grind (arith, nat_tests) in z)

  leaves_none : (m : Moment) → IsOthers H m → is_leaving m ≡ false
  leaves_none _ (asked_first line event) = refl
  leaves_none _ (got_first serial j packet e to) = refl
  leaves_none _ (ignored_first serial cause j packet e to) = refl
  leaves_none _ (late_first serial) = refl
  leaves_none _ (saw_first j generation) = refl

  kept_first : (m : Moment) → IsOthers H m → (s : ℕ) → ((serial j : ℕ) (packet : Sending) → (terms H).sent serial ≡ Some packet → packet.to ≡ suc j → s ≡ serial → ⊥) → Kept s (terms H) (terms (m ∷ H))
  kept_first _ (asked_first line event) s f = opened_kept s event (terms H)
  kept_first _ (got_first serial j packet e to) s f = got s serial (other_by s serial (f serial j packet e to)) ((terms H).sent serial) (terms H)
  kept_first _ (ignored_first serial cause j packet e to) s f = ignored_that s serial (other_by s serial (f serial j packet e to)) ((terms H).sent serial) cause (terms H)
  kept_first _ (late_first serial) s f = late_kept s _ (terms H)
  kept_first _ (saw_first j generation) s f = record { served = refl; news = refl }

module _ (i : ℕ) (H : List Moment) (w v : WorldState) (m : Moment) (first : IsOthers H m) (more : List Note) (all : AllOf of_others more) where
  abbrev now : List Moment
  now = map said more ++ m ∷ H

  abbrev x : View
  x = view H i

  abbrev y : View
  y = view now i

  abbrev there : Terms
  there = terms (m ∷ H)

  module _ (grown : Grown x y) (unsent : (s : ℕ) → (terms H).count < s → (terms H).news s ≡ 0) (k : Known x w i) (latest : (n : ℕ) → x.present ≡ Some n → suc n ≡ x.begun) (up : (place : ℕ) → IsUp v i place → WasUp w v i place) (moments : EachMoment (MayStand i) now) (ends : EachMoment (EndsAt i) now) (begins : Begins i now) (rises : Rises now) (never : there.generation (suc i) ≡ (terms H).generation (suc i) → x.target ≡ x.own → Ends (turn_of (m ∷ H)) i → NoneUp w i) (told : (r : IsToldDone y i) → 0 < y.news r.underway.first) where
    rest_of : AllOf of_rest more
    rest_of = all_weaker of_others of_rest others_rest more all

    later : Same there (terms now)
    later = all_same more (m ∷ H) rest_of

    target_same : y.target ≡ x.target
    target_same = ap (λ (g : ℕ → ℕ). g 0) later.generation ∙ moment_generation 0 m H (target_still H m first)

    own_there : y.own ≡ there.generation (suc i)
    own_there = ap (λ (g : ℕ → ℕ). g (suc i)) later.generation

    rises_there : Rises (m ∷ H)
    rises_there = behind more rises
      where
        behind : (ns : List Note) → Rises (map said ns ++ m ∷ H) → Rises (m ∷ H)
        behind [] r = r
        behind (n ∷ ns) r = behind ns r.1

    own_up : x.own ≤ there.generation (suc i)
    own_up = not_lower (suc i) m H rises_there.0

    -- what comes is none that was sent to the target, nor one that was sent since
    of_served : (s : ℕ) (packet : Sending) → x.sent s ≡ Some packet → packet.to ≡ 0 → y.served s ≡ x.served s
    of_served s packet e to =
        ap (λ (g : ℕ → ℕ). g s) later.served
        ∙ (kept_first H m first s (λ serial j other f g same.
        let one : packet ≡ other = same_Some packet other (sym e ∙ (ap (terms H).sent same ∙ f)) in
        let z : packet.to ≡ suc j = ap (λ (q : Sending). q.to) one ∙ g in
        omega (arith, z, to))).served

    new_kept : (s : ℕ) → x.count < s → Kept s (terms H) there
    new_kept s l = kept_first H m first s (λ serial j packet f g same. let b = grown.below serial packet f in omega (arith, b, same, l))

    unserved_now : (s : ℕ) → x.count < s → y.served s ≡ 0
    unserved_now s l = ap (λ (g : ℕ → ℕ). g s) later.served ∙ ((new_kept s l).served ∙ grown.unserved s l)

    unjudged_now : (s : ℕ) → x.count < s → y.news s ≡ 0
    unjudged_now s l = ap (λ (g : ℕ → ℕ). g s) later.news ∙ ((new_kept s l).news ∙ unsent s l)

    none_sent : (s : ℕ) (packet : Sending) → x.count < s → y.sent s ≡ Some packet → packet.from ≡ 0 → ⊥
    none_sent s packet l e z =
        let a = others_sent more (m ∷ H) s packet all z e in
        let b = grown.below s packet (ap (λ (g : ℕ → Option Sending). g s) (sym (moment_sent m H (leaves_none H m first))) ∙ a) in
        omega (arith, b, l)

    -- ---- the list of an agent
    module _ (n place : ℕ) (b : place < 8) (u : IsUp w i place) (present : x.target ≡ x.own → x.present ≡ Some n) where
      caught : x.target ≤ x.own
      caught = k.caught place b u

      -- in one generation
      in_one : x.target ≡ there.generation (suc i) → Keeps x y n
      in_one e =
          let one : x.target ≡ x.own = (let a = caught in let c = own_up in omega (arith, a, c, e)) in
          let still : there.generation (suc i) ≡ (terms H).generation (suc i) = (let a = caught in let c = own_up in omega (arith, a, c, e)) in
          let l = first_lists m H i (others_first H m first) in
          let z = holds i m H n (λ q. never still one q place b u) (l.present ∙ present one) l.begun more all moments ends in
          record { present = λ f. z.present; begun = z.begun }

      -- ahead
      in_another : x.target < there.generation (suc i) → Keeps x y n
      in_another e =
          let l = first_lists m H i (others_first H m first) in
          let t : (terms (m ∷ H)).generation 0 ≡ x.target = moment_generation 0 m H (target_still H m first) in
          record {
            present = λ f. absurd (let a = target_same in let c = own_there in omega (arith, a, c, f, e));
            begun = none_begins i m H l.begun (omega (arith, t, e)) more all begins;
          }

      keeps : Keeps x y n
      keeps = by (nat_eq x.target (there.generation (suc i))) refl
        where
          by : (c : Bool) → nat_eq x.target (there.generation (suc i)) ≡ c → Keeps x y n
          by true e = in_one (grind (arith, nat_tests))
          by false e =
              let a = caught in
              let c = own_up in
              in_another (grind (arith, nat_tests))

    pub aside : IsAside x y w v i
    aside = record {
      target = target_same;
      up = up;
      caught = k.caught;
      latest = latest;
      served = of_served;
      unserved = unserved_now;
      replies = none_sent;
      told = λ r l. (let a = told r in let c = unjudged_now r.underway.first l in omega (arith, a, c));
      keeps = keeps;
    }

-- a turn that begins with no packet drops nothing, but for a later generation
pub data IsPlain : Moment → Type 0 where
  plain_asked : (line : ℕ) (event : Event) → IsPlain (asked line event)
  plain_ignored : (serial : ℕ) (cause : Cause) → IsPlain (said (notes.Ignored serial cause))
  plain_late : (serial : ℕ) → IsPlain (said (notes.TimedOut serial))

not_moment : (m : Moment) → IsPlain m → (H : List Moment) → Because (m ∷ H) → ⊥
not_moment _ (plain_asked line event) H (by_got serial earlier e) = absurd (differ e)
  where
    differ : asked line event ∷ H ≡ said (notes.Got serial) ∷ earlier → ⊥
    differ f = cc
not_moment _ (plain_asked line event) H (by_seen node generation earlier e) = absurd (differ e)
  where
    differ : asked line event ∷ H ≡ said (notes.Seen node generation) ∷ earlier → ⊥
    differ f = cc
not_moment _ (plain_ignored serial cause) H (by_got other earlier e) = absurd (differ e)
  where
    differ : said (notes.Ignored serial cause) ∷ H ≡ said (notes.Got other) ∷ earlier → ⊥
    differ f = cc
not_moment _ (plain_ignored serial cause) H (by_seen node generation earlier e) = absurd (differ e)
  where
    differ : said (notes.Ignored serial cause) ∷ H ≡ said (notes.Seen node generation) ∷ earlier → ⊥
    differ f = cc
not_moment _ (plain_late serial) H (by_got other earlier e) = absurd (differ e)
  where
    differ : said (notes.TimedOut serial) ∷ H ≡ said (notes.Got other) ∷ earlier → ⊥
    differ f = cc
not_moment _ (plain_late serial) H (by_seen node generation earlier e) = absurd (differ e)
  where
    differ : said (notes.TimedOut serial) ∷ H ≡ said (notes.Seen node generation) ∷ earlier → ⊥
    differ f = cc

pub plain_never : (m : Moment) → IsPlain m → (H : List Moment) (i : ℕ) → Ends (m ∷ H) i → ⊥
plain_never m p H i e = not_moment m p H (because (m ∷ H) i e)
