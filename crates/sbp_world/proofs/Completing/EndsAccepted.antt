-- At rest the write of an operation that an initiator has under way was answered complete: so the target did not refuse it, and it ignores none that it takes as new.
use Rattle.sbp_world.proofs.Words.Std.{arith, ◌≡◌, ◌∙◌, inl, inr, ◌⊎◌, sym, ap, subst, ◌<◌, ℕ, List, [], ◌∷◌, ◌++◌, map, None}
use Rattle.sbp_world.proofs.Words.Wire.{Moment, asked, said, terms}
use Rattle.sbp_world.proofs.Words.Target.{Disk}
use Rattle.sbp_world.proofs.Words.Laws.{Underway, target_at}
use Rattle.sbp_world.proofs.Words.World.{IsOwnWrite, WorldState, after, after_all, beginning, begun, history_of, more_deliveries}
use Rattle.sbp_journal.specs.declared.note.Note.TheVariants as notes
use Rattle.sbp_world.specs.Completing.Ends.{WasRefused}
use Rattle.sbp_world.specs.Completing.EndsAimed.{IsAimed}
use Rattle.sbp_world.specs.Completing.EndsJudged.{AcceptedAtRestLaw, AreGotNew, WasAccepted, WasGotNew}
use Rattle.sbp_world.specs.Completing.EndsTaken.{WasBusy, WasIgnored}
use Rattle.sbp_world.specs.Completing.Operations.{WasCompleted}
use Rattle.sbp_world.proofs.Common.{delivers, none_is}
use Rattle.sbp_world.proofs.Completing.EndsAimed.{aimed_law}
use Rattle.sbp_world.proofs.Completing.EndsJudged.{got_new_law}
use Rattle.sbp_world.proofs.Completing.EndsRefused.{Nested, inside, nested, news_grow, outside, refused_law}
use Rattle.sbp_world.proofs.Completing.OperationsRuns.{management_alone_law, written_law}
use Rattle.sbp_world.proofs.Hosts.Runs.{count_after, count_between}
use Rattle.sbp_world.proofs.Lists.Clauses.{open_lists_law}
use Rattle.sbp_world.proofs.Lists.ListsProved.{closing}
use Rattle.sbp_world.proofs.Lists.ManageMoments.{Hands, MayHand, TakeFacts}
use Rattle.sbp_world.proofs.Lists.ManageProved.{one_in_hand_law}
use Rattle.sbp_world.proofs.Lists.ManageTerms.{got_more}
use Rattle.sbp_world.proofs.Lists.StatusLogins.{each_there}

-- ---- a packet is taken as new first at one moment
module _ (past : List Moment) (write : ℕ) where
  -- at this one
  record IsFirst (m : Moment) (before : List Moment) : Type 0 where
    later : List Moment
    is : later ++ m ∷ before ≡ past
    new : (terms before).news write ≡ 0
    taken : 0 < (terms (m ∷ before)).news write

  one_first : (m n : Moment) (before back : List Moment) → IsFirst m before → IsFirst n back → m ∷ before ≡ n ∷ back
  one_first m n before back x y = by (nested x.later y.later (m ∷ before) (n ∷ back) (x.is ∙ sym y.is))
    where
      -- not one behind the other
      apart : {A : Type 0} (d : List Moment) (o : Moment) (before back : List Moment) → d ++ o ∷ before ≡ back → 0 < (terms (o ∷ before)).news write → (terms back).news write ≡ 0 → A
      apart d o before back e l new =
          let grow = news_grow d (o ∷ before) write in
          let same = ap (λ ms. (terms ms).news write) e in
          absurd (omega (arith, grow, same, l, new))

      by : Nested (m ∷ before) (n ∷ back) → m ∷ before ≡ n ∷ back
      by (inside [] e) = e
      by (inside (o ∷ d) e) = apart d m before back (let z : d ++ m ∷ before ≡ back = cc in z) x.taken y.new
      by (outside [] e) = sym e
      by (outside (o ∷ d) e) = apart d n back before (let z : d ++ n ∷ back ≡ before = cc in z) y.taken x.new

-- ---- at a place
module _ (start : List Disk) (now : List Moment) (w : WorldState) (i : ℕ) (u : Underway) (a : IsAimed now i u.place u.first) (hands : Hands start i now) (all : AreGotNew start now w) (completed : WasCompleted now u.first) (refuses : IsOwnWrite now i u.first → WasRefused now u.first → WasCompleted now u.first → ⊥) where
  abbrev write : ℕ
  write = u.first

  own : IsOwnWrite now i write
  own = record { packet = a.packet; sent = a.sent; from_is = a.for_place.from_is; to_is = a.for_place.to_is; honest = a.honest; current = a.current; label = a.label; part = a.part }

  got_new : 0 < (terms now).news write → WasGotNew start now write
  got_new taken = all write (record { packet = a.packet; sent = a.sent; to_is = a.for_place.to_is; honest = a.honest; access = a.for_place.access; spelled = a.for_place.spelled; at = a.for_place.at; serves = a.for_place.serves }) taken

  taken_then : (later before : List Moment) → later ++ said (notes.Got write) ∷ before ≡ now → 0 < (terms (said (notes.Got write) ∷ before)).news write
  taken_then later before is =
      let f : TakeFacts start before i write = each_there (MayHand start i) later (said (notes.Got write)) before (subst (Hands start i) (sym is) hands) in
      let l = got_more write before f.packet f.facts.sent in
      omega (arith, l)

  first_got : (x : WasGotNew start now write) → IsFirst now write (said (notes.Got write)) x.before
  first_got x = record { later = x.later; is = x.is; new = x.new; taken = taken_then x.later x.before x.is }

  taken_now : (later : List Moment) (m : Moment) (before : List Moment) → later ++ m ∷ before ≡ now → 0 < (terms (m ∷ before)).news write → 0 < (terms now).news write
  taken_now later m before is l =
      let grow = news_grow later (m ∷ before) write in
      let same = ap (λ ms. (terms ms).news write) is in
      omega (arith, l, grow, same)

  idle : WasBusy start now write → ⊥
  idle b =
      let taken = taken_then b.later b.before b.is in
      let x = got_new (taken_now b.later (said (notes.Got write)) b.before b.is taken) in
      let same = one_first now write (said (notes.Got write)) (said (notes.Got write)) x.before b.before (first_got x) (record { later = b.later; is = b.is; new = b.new; taken = taken }) in
      by x.before x.outcome (let z : x.before ≡ b.before = cc in z)
    where
      by : (before : List Moment) → ((target_at start before).manager.operation ≡ None) ⊎ WasRefused now write → before ≡ b.before → ⊥
      by before (inl e) same = none_is b.op (sym (ap (λ ms. (target_at start ms).manager.operation) (sym same) ∙ e) ∙ b.busy)
      by before (inr r) same = refuses own r completed

  heard : WasIgnored now write → ⊥
  heard d =
      let x = got_new (taken_now d.later (said (notes.Ignored write d.cause)) d.before d.is d.taken) in
      let same = one_first now write (said (notes.Got write)) (said (notes.Ignored write d.cause)) x.before d.before (first_got x) (record { later = d.later; is = d.is; new = d.new; taken = d.taken }) in
      let z : said (notes.Got write) ∷ x.before ≡ said (notes.Ignored write d.cause) ∷ d.before = same in
      cc

  accepted : WasAccepted start now write
  accepted = record { idle = idle; heard = heard }

-- ---- in every run
pub accepted_law : AcceptedAtRestLaw
accepted_law = record {
  after_lines = λ line run r has small size tame lossless calm i b u is.
      let now = history_of line run in
      let so_far = closing.before open_lists_law line run r has small size (inl tame) in
      let inside : i < run.initiators = subst (λ n. i < n) (count_after run run.entries) b in
      let manages = management_alone_law.after_lines line run r has small size lossless calm i b u is in
      accepted run.start.disks now (after (beginning run) run.entries).world i u (aimed_law.after_lines line run r has small size (inl tame) i b (tame i) u is manages)
      (one_in_hand_law.after_lines line run r has small size so_far i inside (tame i))
      (got_new_law.after_lines line run r has small size tame)
      (written_law.after_lines line run r has small size (inl tame) lossless calm i b (tame i) u is)
      (refused_law.after_lines line run r has small size (inl tame) i u.first b (tame i));
  between = λ line run r has small size next most told m tame lossless calm i b u is.
      let here = after (beginning run) run.entries in
      let w = (after_all told (begun here)).world in
      let now = map said w.fresh ++ asked next (more_deliveries most) ∷ history_of line run in
      let so_far = closing.between open_lists_law line run r has small size next (more_deliveries most) (delivers most) told m (inl tame) in
      let inside : i < run.initiators = subst (λ n. i < n) (count_between told here ∙ count_after run run.entries) b in
      let manages = management_alone_law.between line run r has small size next most told m lossless calm i b u is in
      accepted run.start.disks now w i u (aimed_law.between line run r has small size next most told m (inl tame) i b (tame i) u is manages)
      (one_in_hand_law.between line run r has small size next most told m so_far i inside (tame i))
      (got_new_law.between line run r has small size next most told m tame)
      (written_law.between line run r has small size next most told m (inl tame) lossless calm i b (tame i) u is)
      (refused_law.between line run r has small size next most told m (inl tame) i u.first b (tame i));
}
