-- What a history says of an initiator grows as it goes on.
use Rattle.sbp_world.proofs.Words.Std.{arith, ◌≡◌, ◌∙◌, refl, sym, ap, ◌<◌, ◌≤◌, ◌&&◌, ℕ, suc, nat_eq, Bool, true, false, cond, List, [], ◌∷◌, ◌++◌, Option, Some, nat_tests, false≢true}
use Rattle.sbp_world.proofs.Words.Wire.{SerialsCount, Moment, asked, said, terms, Event, Note, end_note}
use Rattle.sbp_world.proofs.Words.World.{AsGot, got_as, view}
use Rattle.sbp_journal.specs.declared.event.Event.TheVariants as events
use Rattle.sbp_journal.specs.declared.note.Note.TheVariants as notes
use Rattle.sbp_world.proofs.Hosts.Remaining.{remains}
use Rattle.sbp_world.proofs.Hosts.SentMoments.{sent_below, serials_from}
use Rattle.sbp_world.proofs.Lists.Generations.{not_lower}
use Rattle.sbp_world.proofs.Lists.OpenNews.{all_grow}
use Rattle.sbp_world.proofs.Lists.OpenedHosts.{since}
use Rattle.sbp_world.proofs.Lists.OpenedMoments.{pointed_remains, told_remains}
use Rattle.sbp_world.proofs.Lists.OpenedTurns.{Grown}
use Rattle.sbp_world.proofs.Lists.Rises.{Rises}

-- a line that begins changes nothing, nor does the end of one that settles
pub asked_view : (line : ℕ) (event : Event) (past : List Moment) (i : ℕ) → view (asked line event ∷ past) i ≡ view past i
asked_view line (events.Reset physical) past i = refl
asked_view line (events.Repeat serial) past i = refl
asked_view line _ past i = refl

pub end_view : (b : Bool) (past : List Moment) (i : ℕ) → view (said (end_note b) ∷ past) i ≡ view past i
end_view true past i = refl
end_view false past i = refl

pub not_fallen : (node : ℕ) (later past : List Moment) → Rises (later ++ past) → (terms past).generation node ≤ (terms (later ++ past)).generation node
not_fallen node [] past r = omega arith
not_fallen node (m ∷ later) past r =
    let a = not_fallen node later past r.1 in
    let b = not_lower node m (later ++ past) r.0 in
    omega (arith, a, b)

-- ---- what a packet was as it was got first

got_not : (a b : Bool) (new old : Option AsGot) → (a ≡ true → b ≡ false) → cond (a && b) new old ≡ old
got_not true true new old f = absurd (false≢true (sym (f refl)))
got_not true false new old f = refl
got_not false b new old f = refl

got_note : (note : Note) (past : List Moment) (s i address : ℕ) → 0 < (terms past).news s → got_as (said note ∷ past) s i address ≡ got_as past s i address
got_note (notes.Got serial) past s i address l =
    got_not (nat_eq s serial) (nat_eq ((terms past).news serial) 0) _ (got_as past s i address)
    (λ e.
    let same : s ≡ serial = grind (arith, nat_tests) in
    let m : (terms past).news s ≡ (terms past).news serial = ap (terms past).news same in
    (let z : 0 < (terms past).news serial = omega (arith, l, m) in grind (arith, nat_tests)))
got_note _ past s i address l = refl

pub got_remains : (later past : List Moment) (s i address : ℕ) → 0 < (terms past).news s → got_as (later ++ past) s i address ≡ got_as past s i address
got_remains [] past s i address l = refl
got_remains (asked line event ∷ later) past s i address l = got_remains later past s i address l
got_remains (said note ∷ later) past s i address l =
    (let g = all_grow s later past in got_note note (later ++ past) s i address (omega (arith, g, l))) ∙ got_remains later past s i address l

module _ (i : ℕ) (later past : List Moment) (serials : SerialsCount (later ++ past)) (rises : Rises (later ++ past)) (unserved : (s : ℕ) → (terms past).count < s → (terms past).served s ≡ 0) (answered : (reply s : ℕ) → (terms past).answers reply ≡ Some s → s ≤ (terms past).count) where
  pub grown : Grown (view past i) (view (later ++ past) i)
  grown =
      let k = remains later past serials in
      let g = since later past i serials in
      record {
        count = k.count;
        sent = k.sent;
        answers = k.answers;
        pointed = λ s l. pointed_remains later past s i serials l;
        told = λ s l. told_remains later past s i serials l;
        answered = answered;
        news = λ s. all_grow s later past;
        below = λ s packet e. sent_below past s packet (serials_from later past serials) e;
        unserved = unserved;
        target = not_fallen 0 later past rises;
        own = not_fallen (suc i) later past rises;
        operation = g.operation;
        named = λ s address l. got_remains later past s i address l;
      }
