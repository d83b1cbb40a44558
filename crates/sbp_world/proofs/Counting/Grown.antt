-- A history goes on without an append: the same ORBs were appended, with the same commands, and lists that were cut or of which some ended stay so.
use Rattle.sbp_world.proofs.Words.Std.{arith, ◌≡◌, ◌∙◌, refl, sym, ap, subst, ◌<◌, ◌≤◌, ◌+◌, ℕ, suc, Bool, true, false, List, [], ◌∷◌, ◌++◌, Option, Some, None, false≢true}
use Rattle.sbp_world.proofs.Words.Wire.{LabelParts, Moment, Note, Outgoing, Side, asks, node_of, said}
use Rattle.sbp_world.proofs.Words.Initiator.{StatusKind}
use Rattle.sbp_world.proofs.Words.Laws.{OrderLaw, appends, command_at, ends, is_cut, lists}
use Rattle.sbp_world.proofs.Words.World.{AreOthers, IsOther, WorldState, asked, holder, posted, sent, sent_all, sent_to, told, told_all}
use Rattle.sbp_journal.specs.declared.note.Note.TheVariants as notes
use Rattle.sbp_journal.specs.declared.side.Side.TheVariants as sides
use Rattle.sbp_world.proofs.Agents.Management.Still.{hist}
use Rattle.sbp_world.proofs.Common.{moments_joined, not_true}
use Rattle.sbp_world.proofs.Counting.Folds.{Numbers}
use Rattle.sbp_world.proofs.Counting.Worked.{not_both}
use Rattle.sbp_world.proofs.Lists.BegunLists.{order_from}
use Rattle.sbp_world.proofs.Lists.BusyFollows.{AreOf, has_end}
use Rattle.sbp_world.proofs.Lists.BusyNotes.{one_holder}
use Rattle.sbp_world.proofs.Lists.Extends.{all_told}
use Rattle.sbp_world.proofs.Lists.Named.{ended_more}
use Rattle.sbp_world.proofs.Lists.OpenWorlds.{hist_on}
use Rattle.sbp_world.proofs.Lists.Turns.{First, got_it, ignored_it, key_it, late_it, seen_it, tick_it}
use Rattle.sbp_world.proofs.Lists.UnrunTerms.{cut_stays, ends_grow}
use Rattle.sbp_world.specs.Counting.Rooms.{over_appends}

-- ---- what was appended is the same
pub record Goes (before now : List Moment) : Type 0 where
  pub later : List Moment
  pub is : later ++ before ≡ now
  pub over : (f : Numbers) → over_appends f now ≡ over_appends f before
  pub commands : (i n k : ℕ) → command_at now i n k ≡ command_at before i n k
  pub counts : (i n : ℕ) → appends now i n ≡ appends before i n
  pub lists_are : (i : ℕ) → lists now i ≡ lists before i

pub goes_none : (ms : List Moment) → Goes ms ms
goes_none ms = record { later = []; is = refl; over = λ f. refl; commands = λ i n k. refl; counts = λ i n. refl; lists_are = λ i. refl }

pub goes_then : (one two three : List Moment) → Goes one two → Goes two three → Goes one three
goes_then one two three a b = record {
  later = b.later ++ a.later;
  is = moments_joined b.later a.later one ∙ (ap (λ ms. b.later ++ ms) a.is ∙ b.is);
  over = λ f. b.over f ∙ a.over f;
  commands = λ i n k. b.commands i n k ∙ a.commands i n k;
  counts = λ i n. b.counts i n ∙ a.counts i n;
  lists_are = λ i. b.lists_are i ∙ a.lists_are i;
}

module _ (before now : List Moment) (g : Goes before now) where
  pub cut_still : (i n : ℕ) → is_cut before i n ≡ true → is_cut now i n ≡ true
  cut_still i n e = subst (λ ms. is_cut ms i n ≡ true) g.is (cut_stays g.later before i n e)

  pub uncut_then : (i n : ℕ) → is_cut now i n ≡ false → is_cut before i n ≡ false
  uncut_then i n e = not_true (is_cut before i n) (λ f. not_both (is_cut now i n) e (cut_still i n f))

  pub ends_more : (i n : ℕ) → ends before i n ≤ ends now i n
  ends_more i n = subst (λ ms. ends before i n ≤ ends ms i n) g.is (ends_grow i n g.later before)

-- ---- a note that is no append
abbrev pub IsNoAppend : Moment → Type 0
IsNoAppend (said (notes.Append i n k cdb buffer)) = ⊥
IsNoAppend moment = Unit {0}

one_note : (note : Note) (ms : List Moment) → IsNoAppend (said note) → Goes ms (said note ∷ ms)
one_note (notes.Append i n k cdb buffer) ms h = absurd h
one_note note ms h = record { later = said note ∷ []; is = refl; over = λ f. refl; commands = λ i n k. refl; counts = λ i n. refl; lists_are = λ i. refl }

pub one_moment : (moment : Moment) (ms : List Moment) → IsNoAppend moment → Goes ms (moment ∷ ms)
one_moment (asks line event) ms h = record { later = asks line event ∷ []; is = refl; over = λ f. refl; commands = λ i n k. refl; counts = λ i n. refl; lists_are = λ i. refl }
one_moment (said note) ms h = one_note note ms h

-- the first note of a turn
pub first_goes : (ms : List Moment) (note : Note) → First note → Goes ms (said note ∷ ms)
first_goes ms _ (got_it serial) = one_note (notes.Got serial) ms tt
first_goes ms _ (ignored_it serial cause) = one_note (notes.Ignored serial cause) ms tt
first_goes ms _ (late_it serial) = one_note (notes.TimedOut serial) ms tt
first_goes ms _ (seen_it node generation) = one_note (notes.Seen node generation) ms tt
first_goes ms _ tick_it = one_note notes.Tick ms tt
first_goes ms _ (key_it unit) = one_note (notes.Key unit) ms tt

-- ---- what the target tells and sends
module _ (past : List Moment) where
  pub one_goes : (side : Side) (w : WorldState) → IsOther side → Goes (hist past w) (hist past (told 0 side w))
  unfolding told
  one_goes (sides.Own note) w o = absurd o
  one_goes (sides.Opened place orb) w o = goes_none (hist past w)
  one_goes (sides.Ran place orb cdb payload outcome) w o = one_note _ (hist past w) tt
  one_goes (sides.Ended place orb status) w o = one_note _ (hist past w) tt
  one_goes (sides.Dead place cause) w o = one_note _ (hist past w) tt
  one_goes (sides.Cut place cause) w o = one_note _ (hist past w) tt
  one_goes (sides.Managed node function subject status login) w o = one_note _ (hist past w) tt
  one_goes (sides.ManageFailed node cause) w o = one_note _ (hist past w) tt
  one_goes (sides.Held login) w o = one_note _ (hist past w) tt
  one_goes (sides.Expired login) w o = one_note _ (hist past w) tt
  one_goes (sides.Back login) w o = one_note _ (hist past w) tt
  one_goes (sides.Left login) w o = one_note _ (hist past w) tt
  one_goes (sides.Cleared unit) w o = one_note _ (hist past w) tt
  one_goes (sides.Unsolicited place) w o = one_note _ (hist past w) tt
  one_goes (sides.Unsent place) w o = one_note _ (hist past w) tt

  pub told_goes : (side : List Side) (w : WorldState) → AreOthers side → Goes (hist past w) (hist past (told_all 0 side w))
  unfolding told_all
  told_goes [] w o = goes_none (hist past w)
  told_goes (one ∷ later) w o =
      goes_then (hist past w) (hist past (told 0 one w)) (hist past (told_all 0 later (told 0 one w))) (one_goes one w o.0) (told_goes later (told 0 one w) o.1)

  asked_goes : (serial to node peer : ℕ) (label : Option LabelParts) (w : WorldState) → Goes (hist past w) (hist past (asked serial to node peer label w))
  asked_goes serial to node peer None w = goes_none (hist past w)
  asked_goes serial to node peer (Some label) w = goes_none (hist past w)

  to_goes : (to : Option ℕ) (from : ℕ) (packet : Outgoing) (w : WorldState) → Goes (hist past w) (hist past (sent_to to from packet w))
  unfolding posted
  to_goes None from packet w = goes_none (hist past w)
  to_goes (Some to) from packet w =
      let x = posted from to false packet.bytes w in
      goes_then (hist past w) (hist past x) (hist past (sent_to (Some to) from packet w)) (one_note _ (hist past w) tt) (asked_goes (w.store.last + 1) to from packet.to packet.label x)

  pub sent_goes : (from : ℕ) (outgoing : List Outgoing) (w : WorldState) → Goes (hist past w) (hist past (sent_all from outgoing w))
  unfolding sent_all sent
  sent_goes from [] w = goes_none (hist past w)
  sent_goes from (packet ∷ later) w =
      let x = sent from packet w in
      goes_then (hist past w) (hist past x) (hist past (sent_all from later x)) (to_goes (node_of w.generations from packet.to) from packet w) (sent_goes from later x)

-- ---- an end that is told of the agent of a place
-- It is of the latest list of its initiator, which was not cut, and of the ORB behind those that had ended, or of a later one.
pub record HasEnded (before now : List Moment) (i : ℕ) : Type 0 where
  pub n : ℕ
  pub latest : suc n ≡ lists before i
  pub uncut : is_cut before i n ≡ false
  pub next : ends before i n < appends before i n
  pub more : ends before i n < ends now i n

module _ (wild : ℕ → Bool) (past before now : List Moment) (law : OrderLaw wild now) (i : ℕ) (own : wild i ≡ false) (q : ℕ) where
  noted : (ms : List Moment) → Goes before ms → (x y : Option ℕ) (status : StatusKind) (later : List Moment) → later ++ said (notes.Ended i x y status) ∷ ms ≡ now → OrderLaw wild (said (notes.Ended i x y status) ∷ ms) → HasEnded before now i
  noted ms g None y status later is l = absurd (false≢true (sym own ∙ l.0))
  noted ms g (Some n) None status later is l = absurd (false≢true (sym own ∙ l.0))
  noted ms g (Some n) (Some k) status later is l =
      let e = l.0 own in
      let number = e.number in
      let appended = e.appended in
      let count = g.counts i n in
      let low = ends_more before ms g i n in
      let one = ended_more ms i n status (Some n) (Some k) k refl refl in
      let rest = subst (λ hs. ends (said (notes.Ended i (Some n) (Some k) status) ∷ ms) i n ≤ ends hs i n) is (ends_grow i n later (said (notes.Ended i (Some n) (Some k) status) ∷ ms)) in
      record {
        n = n;
        latest = e.still.latest ∙ g.lists_are i;
        uncut = uncut_then before ms g i n e.still.uncut;
        next = omega (arith, number, appended, count, low);
        more = omega (arith, low, one, rest);
      }

  at_side : (w : WorldState) (place orb : ℕ) (status : StatusKind) → place ≡ q → (holder w q).initiator ≡ i → Goes before (hist past w) → (later : List Moment) → later ++ hist past (told 0 (sides.Ended place orb status) w) ≡ now → HasEnded before now i
  unfolding told
  at_side w place orb status at from_is g later is = by (holder w place).initiator (ap (λ p. (holder w p).initiator) at ∙ from_is) _ _ is
    where
      by : (j : ℕ) → j ≡ i → (x y : Option ℕ) → later ++ said (notes.Ended j x y status) ∷ hist past w ≡ now → HasEnded before now i
      by j e x y f =
          let h = subst (λ a. later ++ said (notes.Ended a x y status) ∷ hist past w ≡ now) e f in
          noted (hist past w) g x y status later h (order_from wild later (said (notes.Ended i x y status) ∷ hist past w) (subst (OrderLaw wild) (sym h) law))

  pub told_ended : (side : List Side) (w : WorldState) → AreOf q side → AreOthers side → has_end side ≡ true → (holder w q).initiator ≡ i → Goes before (hist past w) → (later : List Moment) → later ++ hist past (told_all 0 side w) ≡ now → HasEnded before now i
  unfolding told_all
  told_ended [] w h o e f g later is = absurd (false≢true e)
  told_ended (sides.Ended place orb status ∷ rest) w h o e f g later is =
      let x = told 0 (sides.Ended place orb status) w in
      let more = hist_on past x (told_all 0 rest x) (all_told 0 rest x) in
      at_side w place orb status h.0 f g (later ++ more.more) (moments_joined later more.more (hist past x) ∙ (ap (λ ms. later ++ ms) more.is ∙ is))
  told_ended (sides.Opened place orb ∷ rest) w h o e f g later is = told_ended rest (told 0 (sides.Opened place orb) w) h.1 o.1 e (one_holder past q (sides.Opened place orb) w h.0 ∙ f) (goes_then before (hist past w) _ g (one_goes past (sides.Opened place orb) w tt)) later is
  told_ended (sides.Ran place orb cdb payload outcome ∷ rest) w h o e f g later is = told_ended rest (told 0 (sides.Ran place orb cdb payload outcome) w) h.1 o.1 e (one_holder past q (sides.Ran place orb cdb payload outcome) w h.0 ∙ f) (goes_then before (hist past w) _ g (one_goes past (sides.Ran place orb cdb payload outcome) w tt)) later is
  told_ended (sides.Dead place cause ∷ rest) w h o e f g later is = told_ended rest (told 0 (sides.Dead place cause) w) h.1 o.1 e (one_holder past q (sides.Dead place cause) w h.0 ∙ f) (goes_then before (hist past w) _ g (one_goes past (sides.Dead place cause) w tt)) later is
  told_ended (sides.Unsolicited place ∷ rest) w h o e f g later is = told_ended rest (told 0 (sides.Unsolicited place) w) h.1 o.1 e (one_holder past q (sides.Unsolicited place) w h.0 ∙ f) (goes_then before (hist past w) _ g (one_goes past (sides.Unsolicited place) w tt)) later is
  told_ended (sides.Unsent place ∷ rest) w h o e f g later is = told_ended rest (told 0 (sides.Unsent place) w) h.1 o.1 e (one_holder past q (sides.Unsent place) w h.0 ∙ f) (goes_then before (hist past w) _ g (one_goes past (sides.Unsent place) w tt)) later is
  told_ended (sides.Own note ∷ rest) w h o e f g later is = absurd h.0
  told_ended (sides.Cut place cause ∷ rest) w h o e f g later is = absurd h.0
  told_ended (sides.Managed node function subject status login ∷ rest) w h o e f g later is = absurd h.0
  told_ended (sides.ManageFailed node cause ∷ rest) w h o e f g later is = absurd h.0
  told_ended (sides.Held login ∷ rest) w h o e f g later is = absurd h.0
  told_ended (sides.Expired login ∷ rest) w h o e f g later is = absurd h.0
  told_ended (sides.Back login ∷ rest) w h o e f g later is = absurd h.0
  told_ended (sides.Left login ∷ rest) w h o e f g later is = absurd h.0
  told_ended (sides.Cleared unit ∷ rest) w h o e f g later is = absurd h.0
