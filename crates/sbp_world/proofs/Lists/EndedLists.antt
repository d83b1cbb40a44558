-- In a run in which lists were open as they should be before, a list of which an ORB has ended had been open at an agent; and so one whose write of ORB_POINTER was
-- not taken has no end.
use Rattle.sbp_world.proofs.Words.Std.{arith, ◌≡◌, ◌∙◌, refl, ap, subst, ℕ, suc, ◌<◌, nat_eq, nat_lt, Bool, true, false, cond, List, [], ◌∷◌, ◌++◌, map, Some, nat_tests}
use Rattle.sbp_world.proofs.Words.Wire.{Moment, asked, said, Sending, terms}
use Rattle.sbp_world.proofs.Words.Initiator.{StatusKind}
use Rattle.sbp_world.proofs.Words.Laws.{injectors, ends}
use Rattle.sbp_world.proofs.Words.World.{history_of, after, beginning, after_all, begun, PointersAt, pointed_list, WasHad, EndedListsLaw, AreNamedFor}
use Rattle.sbp_journal.specs.declared.note.Note.TheVariants as notes
use Rattle.sbp_world.proofs.Lists.Histories.{after_lines, between}
use Rattle.sbp_world.proofs.Lists.Later.{had_next}
use Rattle.sbp_world.proofs.Lists.OpenNews.{got_news}
use Rattle.sbp_world.proofs.Lists.OpenUncut.{had_for}
use Rattle.sbp_world.proofs.Lists.Passing.{EndsNext, PassLaw}

-- ---- by the law of lists
module _ (wild : ℕ → Bool) (i n : ℕ) (own : wild i ≡ false) where
  module _ (past : List Moment) (j m l : ℕ) (status : StatusKind) (last : wild j ≡ false → EndsNext past j m l status) (before : 0 < ends past i n → WasHad past i n) where
    by_end : (x : Bool) → nat_eq i j ≡ x → (y : Bool) → nat_eq n m ≡ y → 0 < cond x (cond y (suc (ends past j m)) (ends past i n)) (ends past i n) → WasHad past i n
    by_end true e true f c =
        let same_i : j ≡ i = grind (arith, nat_tests) in
        let same_n : m ≡ n = grind (arith, nat_tests) in
        subst (λ a. WasHad past a n) same_i (subst (λ a. WasHad past j a) same_n (last (ap wild same_i ∙ own)).had)
    by_end true e false f c = before c
    by_end false e y f c = before c

  pub ended_had : (past : List Moment) → PassLaw wild past → 0 < ends past i n → WasHad past i n
  ended_had [] law b = absurd (omega (arith, b))
  ended_had (said (notes.Ended j (Some m) (Some l) status) ∷ past) law b =
      had_next (said (notes.Ended j (Some m) (Some l) status)) past i n
      (by_end past j m l status law.0 (ended_had past law.1) (nat_eq i j) refl (nat_eq n m) refl b)
  ended_had (moment ∷ past) law b = had_next moment past i n (ended_had past law.1 b)

pub ended_lists_law : EndedListsLaw
ended_lists_law = record {
  after_lines = λ line run r has small size so_far i n calm b.
      let wild = injectors (history_of line run) in
      ended_had wild i n calm (history_of line run) (after_lines wild line run r has small size (λ j own. so_far) (λ j own. own)).law b;
  between = λ line run r has small size next event d told m so_far i n calm b.
      let now = map said (after_all told (begun (after (beginning run) run.entries))).world.fresh ++ asked next event ∷ history_of line run in
      ended_had (injectors now) i n calm now (between (injectors now) line run r has small size next event d told m (λ j own. so_far) (λ j own. own)).law b;
}

-- ---- a write that was not taken
module _ (past : List Moment) (i : ℕ) (named : AreNamedFor past i) (pointers : PointersAt past i) (lasting : (later earlier : List Moment) (serial : ℕ) (sent : Sending) → later ++ said (notes.Got serial) ∷ earlier ≡ past → (terms earlier).sent serial ≡ Some sent → (terms past).sent serial ≡ Some sent) (n : ℕ) (had : 0 < ends past i n → WasHad past i n) (serial : ℕ) (is : pointed_list past serial i ≡ Some n) (fresh : (terms past).news serial ≡ 0) where
  never : WasHad past i n → ⊥
  never h =
      let o = h.opened in
      let same : o.serial ≡ serial = pointers.once n o.serial serial (had_for past i named pointers lasting n h.place o) is in
      let got = subst (λ s. 0 < (terms past).news s) same (got_news o.serial o.later o.earlier past o.sent o.is o.sent_is) in
      omega (arith, got, fresh)

  pub none_ended : ends past i n ≡ 0
  none_ended = by (nat_lt 0 (ends past i n)) refl
    where
      by : (b : Bool) → nat_lt 0 (ends past i n) ≡ b → ends past i n ≡ 0
      by true e = absurd (never (had (let x : 0 < ends past i n = grind (arith, nat_tests) in x)))
      by false e = grind (arith, nat_tests)
