-- The ends that the target tells of in a call, and who has a place in a call that tells of no step and no pointer.
use Rattle.sbp_world.proofs.Words.Std.{◌≡◌, ◌∙◌, refl, sym, ap, ◌||◌, ℕ, suc, nat_eq, Bool, true, false, cond, List, [], ◌∷◌, Option, Some, None, nat_tests, false≢true, arith}
use Rattle.sbp_world.proofs.Words.Wire.{Holder, Moment, Side, function_word, said}
use Rattle.sbp_world.proofs.Words.Initiator.{StatusKind}
use Rattle.sbp_world.proofs.Words.Target.{Phase, TargetScene, desk_at}
use Rattle.sbp_world.proofs.Words.Laws.{ends}
use Rattle.sbp_world.proofs.Words.World.{WorldState, holder, initiator_of, told, told_all}
use Rattle.command_agent.specs.Making.{is_at_work}
use Rattle.command_agent.specs.declared.phase.Phase.TheVariants as phases
use Rattle.sbp_journal.specs.declared.note.Note.TheVariants as notes
use Rattle.sbp_journal.specs.declared.side.Side.TheVariants as sides
use Rattle.sbp_target.proofs.Histories.Calling.{Good}
use Rattle.sbp_world.proofs.Agents.Management.Still.{hist}
use Rattle.sbp_world.proofs.Lists.BusyCuts.{AreBeside}
use Rattle.sbp_world.proofs.Lists.BusyFollows.{AreOf, has_end}
use Rattle.sbp_world.proofs.Lists.BusyNotes.{one_holder}
use Rattle.sbp_world.proofs.Lists.EndingCalls.{Called, acts, rests}
use Rattle.sbp_world.proofs.Lists.EndingFollows.{ends_in}
use Rattle.sbp_world.proofs.Lists.EndingSteps.{AreEnding, ends_over, is_over}
use Rattle.sbp_world.proofs.Lists.Kept.{Unlisted, decided_unlisted, left_unlisted}
use Rattle.sbp_world.specs.Counting.Rooms.{ends_at}

-- ---- the ends among sides
-- where all is told of one place, an end is of this place
pub end_of : (p q : ℕ) (side : List Side) → AreOf q side → ends_at p side ≡ true → (p ≡ q) × (has_end side ≡ true)
end_of p q [] h e = absurd (false≢true e)
end_of p q (sides.Ended place orb status ∷ later) h e = by (nat_eq place p) refl e (λ g. (end_of p q later h.1 g).0)
  where
    by : (b : Bool) → nat_eq place p ≡ b → (b || ends_at p later) ≡ true → (ends_at p later ≡ true → p ≡ q) → (p ≡ q) × (true ≡ true)
    by true f g rest = (sym (let same : place ≡ p = grind (arith, nat_tests) in same) ∙ h.0, refl)
    by false f g rest = (rest g, refl)
end_of p q (side ∷ later) h e = end_of p q later h.1 e

-- and of one place alone
pub one_place : (q r : ℕ) (side : List Side) → AreOf q side → AreOf r side → has_end side ≡ true → q ≡ r
one_place q r [] h g e = absurd (false≢true e)
one_place q r (sides.Ended place orb status ∷ later) h g e = sym h.0 ∙ g.0
one_place q r (side ∷ later) h g e = one_place q r later h.1 g.1 e

-- what is told beside steps has none
pub beside_none : (p : ℕ) (side : List Side) → AreBeside side → ends_at p side ≡ true → ⊥
beside_none p [] h e = false≢true e
beside_none p (sides.Ended place orb status ∷ later) h e = absurd h.0
beside_none p (side ∷ later) h e = beside_none p later h.1 e

some_kind : (side : List Side) → has_end side ≡ true → ends_in side ≡ [] → ⊥
some_kind [] h e = false≢true h
some_kind (sides.Ended place orb status ∷ later) h e = absurd (let z : status ∷ ends_in later ≡ [] = e in cc)
some_kind (side ∷ later) h e = some_kind later h e

-- where none is told as many ORBs have ended
module _ (past : List Moment) (q i n : ℕ) where
  pub no_end : (side : List Side) (w : WorldState) → AreOf q side → has_end side ≡ false → ends (hist past (told_all 0 side w)) i n ≡ ends (hist past w) i n
  unfolding told_all told
  no_end [] w h e = refl
  no_end (sides.Own note ∷ later) w h e = absurd h.0
  no_end (sides.Ended place orb status ∷ later) w h e = absurd (false≢true (sym e))
  no_end (side ∷ later) w h e = no_end later (told 0 side w) h.1 e

-- and an end at one place is of no other initiator than the one that has it
ended_other : (j : ℕ) (x y : Option ℕ) (status : StatusKind) (ms : List Moment) (i n : ℕ) → (j ≡ i → ⊥) → ends (said (notes.Ended j x y status) ∷ ms) i n ≡ ends ms i n
ended_other j None y status ms i n f = refl
ended_other j (Some m) None status ms i n f = refl
ended_other j (Some m) (Some k) status ms i n f = by (nat_eq i j) refl
  where
    by : (b : Bool) → nat_eq i j ≡ b → cond b (cond (nat_eq n m) (suc (ends ms j m)) (ends ms i n)) (ends ms i n) ≡ ends ms i n
    by true e = absurd (f (let same : j ≡ i = grind (arith, nat_tests) in same))
    by false e = refl

module _ (past : List Moment) (q i n : ℕ) where
  pub other_end : (side : List Side) (w : WorldState) → AreOf q side → ((holder w q).initiator ≡ i → ⊥) → ends (hist past (told_all 0 side w)) i n ≡ ends (hist past w) i n
  unfolding told_all told
  other_end [] w h f = refl
  other_end (sides.Own note ∷ later) w h f = absurd h.0
  other_end (sides.Ended place orb status ∷ later) w h f =
      other_end later (told 0 (sides.Ended place orb status) w) h.1 f
      ∙ ended_other _ _ _ status (hist past w) i n (λ e. f (ap (λ p. (holder w p).initiator) (sym h.0) ∙ e))
  other_end (sides.Opened place orb ∷ later) w h f = other_end later (told 0 (sides.Opened place orb) w) h.1 (λ e. f (sym (one_holder past q (sides.Opened place orb) w h.0) ∙ e))
  other_end (sides.Managed node function subject status login ∷ later) w h f = absurd h.0
  other_end (sides.Expired login ∷ later) w h f = absurd h.0
  other_end (sides.Left login ∷ later) w h f = absurd h.0
  other_end (side ∷ later) w h f = other_end later (told 0 side w) h.1 f

-- ---- the phase behind an end

pub over_rests : (phase : Phase) → is_over phase ≡ true → is_at_work phase ≡ true → ⊥
over_rests phases.WritingStatus e f = false≢true f
over_rests phases.WritingLastStatus e f = false≢true f
over_rests phases.Dead e f = false≢true f
over_rests phase e f = false≢true e

over_by : (Was : Type 0) (kinds : List StatusKind) (phase : Phase) → (kinds ≡ [] → ⊥) → AreEnding Was kinds phase → is_over phase ≡ true
over_by Was [] phase f h = absurd (f refl)
over_by Was (kind ∷ []) phase f h = ends_over kind phase h.0
over_by Was (kind ∷ other ∷ later) phase f h = absurd h

pub ends_in_over : (w : WorldState) (g : Good w.target) (t : TargetScene) (q : ℕ) → AreOf q t.outbox.sides → has_end t.outbox.sides ≡ true → Called w g t → is_over (desk_at t.node q).agent.phase ≡ true
ends_in_over w g t q of e (rests none stays beside) = absurd (some_kind t.outbox.sides e none)
ends_in_over w g t q of e (acts r b a) =
    let same : q ≡ r = one_place q r t.outbox.sides of a.of e in
    ap (λ k. is_over (desk_at t.node k).agent.phase) same
    ∙ over_by _ (ends_in t.outbox.sides) (desk_at t.node r).agent.phase (some_kind t.outbox.sides e) a.ends

-- ---- who has a place with a list
-- where no step and no pointer is told, who has it is the same
one_unlisted : (side : Side) (later : List Side) (w : WorldState) → AreBeside (side ∷ later) → Unlisted w.places (told 0 side w).places
unfolding told
one_unlisted (sides.Own note) later w h = absurd h.0
one_unlisted (sides.Opened place orb) later w h = absurd h.0
one_unlisted (sides.Managed node function subject status login) later w h = decided_unlisted status (function_word function) subject login (initiator_of w node) w.places
one_unlisted (sides.Expired login) later w h = left_unlisted login w.places
one_unlisted (sides.Left login) later w h = left_unlisted login w.places
one_unlisted side later w h = λ p n f. refl

pub all_unlisted : (side : List Side) (w : WorldState) → AreBeside side → Unlisted w.places (told_all 0 side w).places
unfolding told_all
all_unlisted [] w h = λ p n f. refl
all_unlisted (side ∷ later) w h = λ p n f.
    let x = told 0 side w in
    let rest = all_unlisted later x h.1 p n f in
    rest ∙ one_unlisted side later w h p n (ap (λ (k : Holder). k.list) (sym rest) ∙ f)
