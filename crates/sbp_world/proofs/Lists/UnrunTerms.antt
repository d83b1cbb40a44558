-- How often the first ORB of a list ran, by a history that goes on: a list that did not begin yet ran none; an end that is told of the latest list is one of its ORBs;
-- and lists that were cut or of which some ended stay so.
use Rattle.sbp_world.proofs.Words.Std.{arith, ◌≡◌, ◌∙◌, refl, sym, ap, subst, ◌<◌, ◌≤◌, ◌+◌, ℕ, suc, nat_eq, Bool, true, false, cond, List, [], ◌∷◌, ◌++◌, Option, Some, None, nat_tests, false≢true}
use Rattle.sbp_world.proofs.Words.Wire.{LabelParts, node_of, Note, Outgoing, Side, Moment, said}
use Rattle.sbp_world.proofs.Words.Initiator.{StatusKind}
use Rattle.sbp_world.proofs.Words.Laws.{is_cut, ends, lists, runs}
use Rattle.sbp_world.proofs.Words.World.{asked, posted, sent, sent_all, sent_to, holder, told, told_all, WorldState, AreOthers, IsOther}
use Rattle.sbp_journal.specs.declared.note.Note.TheVariants as notes
use Rattle.sbp_journal.specs.declared.side.Side.TheVariants as sides
use Rattle.sbp_world.proofs.Agents.Management.Still.{hist}
use Rattle.sbp_world.proofs.Lists.BusyFollows.{AreOf, has_end}
use Rattle.sbp_world.proofs.Lists.BusyNotes.{one_holder}
use Rattle.sbp_world.proofs.Lists.Extends.{all_told}
use Rattle.sbp_world.proofs.Lists.Named.{ended_more}
use Rattle.sbp_world.proofs.Lists.OpenWorlds.{hist_on}
use Rattle.sbp_world.proofs.Lists.Passing.{PassLaw}
use Rattle.sbp_world.proofs.Lists.Turns.{First, got_it, ignored_it, key_it, late_it, seen_it, tick_it}
use Rattle.sbp_world.proofs.Common.{moments_joined}
use Rattle.sbp_world.proofs.Lists.BusyTold.{still_cut}

-- ---- a history goes on

pub cut_stays : (later before : List Moment) (i n : ℕ) → is_cut before i n ≡ true → is_cut (later ++ before) i n ≡ true
cut_stays [] before i n e = e
cut_stays (said (notes.Cut j (Some m) cause) ∷ later) before i n e = still_cut (nat_eq i j) (nat_eq n m) (is_cut (later ++ before) i n) (cut_stays later before i n e)
cut_stays (m ∷ later) before i n e = cut_stays later before i n e

module _ (i n : ℕ) where
  end_grows : (ms : List Moment) (j m low : ℕ) (x : Bool) → nat_eq i j ≡ x → (y : Bool) → nat_eq n m ≡ y → low ≤ ends ms i n → low ≤ cond x (cond y (suc (ends ms j m)) (ends ms i n)) (ends ms i n)
  end_grows ms j m low true e true f b =
      let same_i : i ≡ j = grind (arith, nat_tests) in
      let same_n : n ≡ m = grind (arith, nat_tests) in
      let at : ends ms i n ≡ ends ms j m = ap (λ a. ends ms a n) same_i ∙ ap (ends ms j) same_n in
      omega (arith, at, b)
  end_grows ms j m low true e false f b = b
  end_grows ms j m low false e y f b = b

  pub ends_grow : (later before : List Moment) → ends before i n ≤ ends (later ++ before) i n
  ends_grow [] before = omega arith
  ends_grow (said (notes.Ended j (Some m) (Some k) status) ∷ later) before = end_grows (later ++ before) j m (ends before i n) (nat_eq i j) refl (nat_eq n m) refl (ends_grow later before)
  ends_grow (m ∷ later) before = ends_grow later before

module _ (i : ℕ) where
  list_grows : (ms : List Moment) (j low : ℕ) (x : Bool) → nat_eq i j ≡ x → (y : Bool) → low ≤ lists ms i → low ≤ cond x (cond y (suc (lists ms j)) (lists ms j)) (lists ms i)
  list_grows ms j low true e true b = let same : i ≡ j = grind (arith, nat_tests) in let at = ap (lists ms) same in omega (arith, at, b)
  list_grows ms j low true e false b = let same : i ≡ j = grind (arith, nat_tests) in let at = ap (lists ms) same in omega (arith, at, b)
  list_grows ms j low false e y b = b

  pub lists_grow : (later before : List Moment) → lists before i ≤ lists (later ++ before) i
  lists_grow [] before = omega arith
  lists_grow (said (notes.Append j n k cdb buffer) ∷ later) before = list_grows (later ++ before) j (lists before i) (nat_eq i j) refl (nat_eq k 0) (lists_grow later before)
  lists_grow (m ∷ later) before = lists_grow later before

pub passes_from : (wild : ℕ → Bool) (later before : List Moment) → PassLaw wild (later ++ before) → PassLaw wild before
passes_from wild [] before l = l
passes_from wild (m ∷ later) before l = passes_from wild later before l.1

-- ---- a list that did not begin yet
module _ (wild : ℕ → Bool) (i n : ℕ) (own : wild i ≡ false) where
  by_run : (ms : List Moment) (j m k : ℕ) → (wild j ≡ false → suc m ≡ lists ms j) → lists ms i ≤ n → runs ms i n 0 ≡ 0 → (x : Bool) → nat_eq i j ≡ x → (y : Bool) → nat_eq n m ≡ y → (z : Bool) → cond x (cond y (cond z (suc (runs ms j m k)) (runs ms i n 0)) (runs ms i n 0)) (runs ms i n 0) ≡ 0
  by_run ms j m k latest b r true e true f z =
      let same_i : i ≡ j = grind (arith, nat_tests) in
      let same_n : n ≡ m = grind (arith, nat_tests) in
      let at = latest (ap wild (sym same_i) ∙ own) in
      let lists_same = ap (lists ms) same_i in
      absurd (omega (arith, at, lists_same, same_n, b))
  by_run ms j m k latest b r true e false f z = r
  by_run ms j m k latest b r false e y f z = r

  pub unbegun : (ms : List Moment) → PassLaw wild ms → lists ms i ≤ n → runs ms i n 0 ≡ 0
  unbegun [] l b = refl
  unbegun (said (notes.Ran j (Some m) (Some k) unit cdb bytes check) ∷ ms) l b =
      by_run ms j m k (λ o. (l.0 o).next.turn.still.latest) b (unbegun ms l.1 b) (nat_eq i j) refl (nat_eq n m) refl (nat_eq 0 k)
  unbegun (said (notes.Append j m k cdb buffer) ∷ ms) l b =
      let more = lists_grow i (said (notes.Append j m k cdb buffer) ∷ []) ms in unbegun ms l.1 (omega (arith, more, b))
  unbegun (m ∷ ms) l b = unbegun ms l.1 b

  -- an end of the latest list
  pub ended_now : (ms : List Moment) (x y : Option ℕ) (status : StatusKind) → PassLaw wild (said (notes.Ended i x y status) ∷ ms) → suc n ≡ lists ms i → 0 < ends (said (notes.Ended i x y status) ∷ ms) i n
  ended_now ms None y status l e = absurd (false≢true (sym own ∙ l.0))
  ended_now ms (Some m) None status l e = absurd (false≢true (sym own ∙ l.0))
  ended_now ms (Some m) (Some k) status l e =
      let at = (l.0 own).turn.still.latest in
      let same : m ≡ n = omega (arith, at, e) in
      let more = ended_more ms i n status (Some m) (Some k) k (ap Some same) refl in
      omega (arith, more)

-- ---- the lists, by what the target tells and sends
module _ (past : List Moment) (i : ℕ) where
  one_lists : (side : Side) (w : WorldState) → IsOther side → lists (hist past (told 0 side w)) i ≡ lists (hist past w) i
  unfolding told
  one_lists (sides.Own note) w o = absurd o
  one_lists (sides.Opened place orb) w o = refl
  one_lists (sides.Ran place orb cdb payload outcome) w o = refl
  one_lists (sides.Ended place orb status) w o = refl
  one_lists (sides.Dead place cause) w o = refl
  one_lists (sides.Cut place cause) w o = refl
  one_lists (sides.Managed node function subject status login) w o = refl
  one_lists (sides.ManageFailed node cause) w o = refl
  one_lists (sides.Held login) w o = refl
  one_lists (sides.Expired login) w o = refl
  one_lists (sides.Back login) w o = refl
  one_lists (sides.Left login) w o = refl
  one_lists (sides.Cleared unit) w o = refl
  one_lists (sides.Unsolicited place) w o = refl
  one_lists (sides.Unsent place) w o = refl

  pub lists_told : (side : List Side) (w : WorldState) → AreOthers side → lists (hist past (told_all 0 side w)) i ≡ lists (hist past w) i
  unfolding told_all
  lists_told [] w o = refl
  lists_told (one ∷ later) w o = lists_told later (told 0 one w) o.1 ∙ one_lists one w o.0

  asked_lists : (serial to node peer : ℕ) (label : Option LabelParts) (w : WorldState) → lists (hist past (asked serial to node peer label w)) i ≡ lists (hist past w) i
  asked_lists serial to node peer None w = refl
  asked_lists serial to node peer (Some label) w = refl

  to_lists : (to : Option ℕ) (from : ℕ) (packet : Outgoing) (w : WorldState) → lists (hist past (sent_to to from packet w)) i ≡ lists (hist past w) i
  unfolding posted
  to_lists None from packet w = refl
  to_lists (Some to) from packet w = asked_lists (w.store.last + 1) to from packet.to packet.label (posted from to false packet.bytes w)

  pub lists_sent : (from : ℕ) (outgoing : List Outgoing) (w : WorldState) → lists (hist past (sent_all from outgoing w)) i ≡ lists (hist past w) i
  unfolding sent_all sent
  lists_sent from [] w = refl
  lists_sent from (packet ∷ later) w = lists_sent from later (sent from packet w) ∙ to_lists (node_of w.generations from packet.to) from packet w

-- the first note of a turn
pub record AsBefore (ms now : List Moment) : Type 0 where
  pub lists_are : (i : ℕ) → lists now i ≡ lists ms i
  pub ends_are : (i n : ℕ) → ends now i n ≡ ends ms i n
  pub cuts_are : (i n : ℕ) → is_cut now i n ≡ is_cut ms i n
  pub runs_are : (i n k : ℕ) → runs now i n k ≡ runs ms i n k

pub first_as : (ms : List Moment) (note : Note) → First note → AsBefore ms (said note ∷ ms)
first_as ms _ (got_it serial) = record { lists_are = λ i. refl; ends_are = λ i n. refl; cuts_are = λ i n. refl; runs_are = λ i n k. refl }
first_as ms _ (ignored_it serial cause) = record { lists_are = λ i. refl; ends_are = λ i n. refl; cuts_are = λ i n. refl; runs_are = λ i n k. refl }
first_as ms _ (late_it serial) = record { lists_are = λ i. refl; ends_are = λ i n. refl; cuts_are = λ i n. refl; runs_are = λ i n k. refl }
first_as ms _ (seen_it node generation) = record { lists_are = λ i. refl; ends_are = λ i n. refl; cuts_are = λ i n. refl; runs_are = λ i n k. refl }
first_as ms _ tick_it = record { lists_are = λ i. refl; ends_are = λ i n. refl; cuts_are = λ i n. refl; runs_are = λ i n k. refl }
first_as ms _ (key_it unit) = record { lists_are = λ i. refl; ends_are = λ i n. refl; cuts_are = λ i n. refl; runs_are = λ i n k. refl }

-- ---- an end that is told of the agent of a place is one of its initiator's latest list
module _ (wild : ℕ → Bool) (past : List Moment) (q i n : ℕ) (own : wild i ≡ false) (now : List Moment) (passes : PassLaw wild now) where
  -- the note of it
  module _ (w : WorldState) (place orb : ℕ) (status : StatusKind) (at : place ≡ q) (initiator_is : (holder w q).initiator ≡ i) (latest : suc n ≡ lists (hist past w) i) (later : List Moment) (is : later ++ hist past (told 0 (sides.Ended place orb status) w) ≡ now) where
    abbrev from_is : ℕ
    from_is = (holder w place).initiator

    same_from : from_is ≡ i
    same_from = ap (λ p. (holder w p).initiator) at ∙ initiator_is

    noted : 0 < ends now i n
    unfolding told
    noted = by from_is same_from _ _ is
      where
        by : (j : ℕ) → j ≡ i → (x y : Option ℕ) → later ++ said (notes.Ended j x y status) ∷ hist past w ≡ now → 0 < ends now i n
        by j e x y f =
            let g = subst (λ a. later ++ said (notes.Ended a x y status) ∷ hist past w ≡ now) e f in
            let l = passes_from wild later (said (notes.Ended i x y status) ∷ hist past w) (subst (PassLaw wild) (sym g) passes) in
            let some = ended_now wild i n own (hist past w) x y status l latest in
            let more = ends_grow i n later (said (notes.Ended i x y status) ∷ hist past w) in
            subst (λ ms. 0 < ends ms i n) g (omega (arith, some, more))

  pub told_ends : (side : List Side) (w : WorldState) → AreOf q side → AreOthers side → has_end side ≡ true → (holder w q).initiator ≡ i → suc n ≡ lists (hist past w) i → (later : List Moment) → later ++ hist past (told_all 0 side w) ≡ now → 0 < ends now i n
  unfolding told_all
  told_ends [] w h o e f g later is = absurd (false≢true e)
  told_ends (sides.Ended place orb status ∷ rest) w h o e f g later is =
      let x = told 0 (sides.Ended place orb status) w in
      let more = hist_on past x (told_all 0 rest x) (all_told 0 rest x) in
      noted w place orb status h.0 f g (later ++ more.more) (moments_joined later more.more (hist past x) ∙ ap (λ ms. later ++ ms) more.is ∙ is)
  told_ends (sides.Opened place orb ∷ rest) w h o e f g later is =
      let side = sides.Opened place orb in told_ends rest (told 0 side w) h.1 o.1 e (one_holder past q side w h.0 ∙ f) (g ∙ sym (one_lists past i side w tt)) later is
  told_ends (sides.Ran place orb cdb payload outcome ∷ rest) w h o e f g later is =
      let side = sides.Ran place orb cdb payload outcome in told_ends rest (told 0 side w) h.1 o.1 e (one_holder past q side w h.0 ∙ f) (g ∙ sym (one_lists past i side w tt)) later is
  told_ends (sides.Dead place cause ∷ rest) w h o e f g later is =
      let side = sides.Dead place cause in told_ends rest (told 0 side w) h.1 o.1 e (one_holder past q side w h.0 ∙ f) (g ∙ sym (one_lists past i side w tt)) later is
  told_ends (sides.Unsolicited place ∷ rest) w h o e f g later is =
      let side = sides.Unsolicited place in told_ends rest (told 0 side w) h.1 o.1 e (one_holder past q side w h.0 ∙ f) (g ∙ sym (one_lists past i side w tt)) later is
  told_ends (sides.Unsent place ∷ rest) w h o e f g later is =
      let side = sides.Unsent place in told_ends rest (told 0 side w) h.1 o.1 e (one_holder past q side w h.0 ∙ f) (g ∙ sym (one_lists past i side w tt)) later is
  told_ends (sides.Own note ∷ rest) w h o e f g later is = absurd h.0
  told_ends (sides.Cut place cause ∷ rest) w h o e f g later is = absurd h.0
  told_ends (sides.Managed node function subject status login ∷ rest) w h o e f g later is = absurd h.0
  told_ends (sides.ManageFailed node cause ∷ rest) w h o e f g later is = absurd h.0
  told_ends (sides.Held login ∷ rest) w h o e f g later is = absurd h.0
  told_ends (sides.Expired login ∷ rest) w h o e f g later is = absurd h.0
  told_ends (sides.Back login ∷ rest) w h o e f g later is = absurd h.0
  told_ends (sides.Left login ∷ rest) w h o e f g later is = absurd h.0
  told_ends (sides.Cleared unit ∷ rest) w h o e f g later is = absurd h.0
