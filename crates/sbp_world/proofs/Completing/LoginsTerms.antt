-- What the terms say of a block that its receiver ignores for a cause which is answered with an error: it was not taken as new before; it is of the generation of its receiver, and so of the target's while this waits for
-- the response; and the IDs of that generation, and the ORB that was read last, are still the same as the target waits.
use Rattle.sbp_world.proofs.Words.Std.{arith, ◌≡◌, ◌∙◌, refl, sym, ap, subst, ◌<◌, ◌≤◌, ◌++◌, ℕ, ◌+◌, true, cond, List, [], ◌∷◌, Option, Some, nat_tests}
use Rattle.sbp_world.proofs.Words.Wire.{AreJudged, Cause, Moment, Sending, SerialsCount, Terms, arrives, asked, asked_by, ignores, ignores_that, is_news, said, terms}
use Rattle.sbp_world.proofs.Words.Target.{Disk, Operation}
use Rattle.sbp_world.proofs.Words.Laws.{target_at}
use Rattle.sbp_world.proofs.Words.World.{last_read}
use Rattle.bus_transactions.specs.Judging.{facts_of}
use Rattle.mgmt_agent.specs.declared.operation.Phase.{Phase}
use Rattle.mgmt_agent.specs.declared.operation.Phase.TheVariants as phases
use Rattle.sbp_journal.specs.Transactions.{is_to}
use Rattle.sbp_journal.specs.declared.cause.Cause.TheVariants as causes
use Rattle.sbp_journal.specs.declared.note.Note.TheVariants as notes
use Rattle.sbp_world.specs.Completing.ManagedRefusals.{is_hard}
use Rattle.sbp_world.specs.Lists.CarriedOrbs.{read_in}
use Rattle.sbp_world.proofs.Common.{itself, untrue}
use Rattle.sbp_world.proofs.Completing.EndsLevels.{current_row}
use Rattle.sbp_world.proofs.Hosts.Owing.{judged_there}
use Rattle.sbp_world.proofs.Hosts.Remaining.{remains, serials_behind}
use Rattle.sbp_world.proofs.Lists.ContentManages.{so_before}
use Rattle.sbp_world.proofs.Lists.Gots.{next}
use Rattle.sbp_world.proofs.Lists.LastReads.{next_keeps}
use Rattle.sbp_world.proofs.Lists.ManageMoments.{Hands, MayHand}
use Rattle.sbp_world.proofs.Lists.ManageSends.{opened_terms, sent_terms}
use Rattle.sbp_world.proofs.Lists.ManageTerms.{got_rests, ignored_rests, judges_news, timed_rests}
use Rattle.sbp_world.proofs.Lists.OpenNews.{all_grow, judges_if_same}

-- ---- it is new
one_more : (s : ℕ) (t : Terms) → (is_news s t).news s ≡ t.news s + 1
one_more s t = ap (λ b. cond b (t.news s + 1) (t.news s)) (itself s)

hard_more : (cause : Cause) (s : ℕ) (q : Sending) (t : Terms) → is_hard cause ≡ true → t.news s < (ignores cause s q t).news s
hard_more causes.Grammar s q t hard =
    let e = ap (λ (f : ℕ → ℕ). f s) (judges_if_same s (is_to q.bytes (t.ids q.generation q.to)) (asked_by q) s q (is_news s t)) in
    let m = one_more s t in
    omega (arith, e, m)
hard_more causes.Source s q t hard =
    let e = ap (λ (f : ℕ → ℕ). f s) (judges_news (asked_by q) (Some causes.Source) s q (is_news s t)) in
    let m = one_more s t in
    omega (arith, e, m)
hard_more causes.Login s q t hard =
    let e = ap (λ (f : ℕ → ℕ). f s) (judges_news (asked_by q) (Some causes.Login) s q (is_news s t)) in
    let m = one_more s t in
    omega (arith, e, m)
hard_more causes.Generation s q t hard = untrue hard
hard_more causes.Label s q t hard = untrue hard
hard_more causes.Again s q t hard = untrue hard
hard_more causes.Slot s q t hard = untrue hard

module _ (all later earlier : List Moment) (ask : ℕ) (cause : Cause) (is : later ++ said (notes.Ignored ask cause) ∷ earlier ≡ all) (hard : is_hard cause ≡ true) (q : Sending) (sent : (terms earlier).sent ask ≡ Some q) where
  pub new_before : (terms all).news ask ≤ 1 → (terms earlier).news ask ≡ 0
  new_before most =
      let more = hard_more cause ask q (arrives ask (terms earlier)) hard in
      let here = ap (λ (so : Option Sending). (ignores_that so cause ask (terms earlier)).news ask) sent in
      let grown = all_grow ask later (said (notes.Ignored ask cause) ∷ earlier) in
      let same = ap (λ ms. (terms ms).news ask) is in
      omega (arith, more, here, grown, same, most)

  pub current_before : AreJudged all → q.generation ≡ (terms earlier).generation q.to
  current_before judged =
      let row = judged_there later earlier ask cause (subst AreJudged (sym is) judged) q sent in
      let e = current_row (facts_of (terms earlier) q) cause row not_stale in
      grind (arith, nat_tests)
    where
      not_stale : cause ≡ causes.Generation → ⊥
      not_stale e = untrue (sym (ap is_hard e) ∙ hard)

-- ---- the IDs of its generation
module _ (start : List Disk) (i serial : ℕ) (q : Sending) (node : ℕ) where
  ids_moment : (m : Moment) (past : List Moment) → MayHand start i m past → (terms past).sent serial ≡ Some q → (terms (m ∷ past)).ids q.generation node ≡ (terms past).ids q.generation node
  ids_moment (asked line event) past f e = (opened_terms event (terms past)).ids q.generation node (f.packets serial q e)
  ids_moment (said (notes.Sent s generation from to bytes)) past f e = ap (λ (g : ℕ → ℕ → ℕ). g q.generation node) (sent_terms s _ (terms past)).ids
  ids_moment (said (notes.Got s)) past f e = ap (λ (g : ℕ → ℕ → ℕ). g q.generation node) (got_rests s past).ids
  ids_moment (said (notes.Ignored s cause)) past f e = ap (λ (g : ℕ → ℕ → ℕ). g q.generation node) (ignored_rests s cause past).ids
  ids_moment (said (notes.TimedOut s)) past f e = ap (λ (g : ℕ → ℕ → ℕ). g q.generation node) (timed_rests s past).ids
  ids_moment (said note) past f e = refl

  pub ids_kept : (later past : List Moment) → SerialsCount (later ++ past) → Hands start i (later ++ past) → (terms past).sent serial ≡ Some q → serial ≤ (terms past).count → (terms (later ++ past)).ids q.generation node ≡ (terms past).ids q.generation node
  ids_kept [] past c hands e l = refl
  ids_kept (m ∷ later) past c hands e l =
      let before = serials_behind m (later ++ past) c in
      ids_moment m (later ++ past) hands.0 ((remains later past before).sent serial l ∙ e) ∙ ids_kept later past before hands.1 e l

-- ---- the ORB that was read last
pub last_kept : (start : List Disk) (r : ℕ) (op : Operation) → op.phase ≡ phases.Status → (later past : List Moment) → SerialsCount (later ++ past) → r ≤ (terms past).count → (target_at start (later ++ past)).manages ≡ Some r → (target_at start (later ++ past)).manager.operation ≡ Some op → last_read start (later ++ past) ≡ last_read start past
last_kept start r op phase [] past c l manages is = refl
last_kept start r op phase (m ∷ later) past c l manages is =
    let before = serials_behind m (later ++ past) c in
    let k = (remains later past before).count in
    let so = so_before start (m ∷ []) (later ++ past) r c (omega (arith, l, k)) manages in
    next_keeps start (later ++ past) (m ∷ later ++ past) (next [] tt m refl) op (so.operation ∙ is) (λ answer orb. ap (λ (p : Phase). read_in p answer orb) phase)
    ∙ last_kept start r op phase later past before l so.manages (so.operation ∙ is)
