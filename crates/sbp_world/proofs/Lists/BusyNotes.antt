-- What is told of the steps of the agent of a place, by the history: the ORBs of other initiators ran as often as before, and an end is one of its initiator.
use Rattle.sbp_world.proofs.Words.Std.{◌≡◌, ◌∙◌, refl, sym, ap, subst, ℕ, List, [], ◌∷◌}
use Rattle.sbp_world.proofs.Words.Wire.{holder_at, opened_step, list_in, orb_in, check_of, Side, Moment}
use Rattle.sbp_world.proofs.Words.Laws.{runs}
use Rattle.sbp_world.proofs.Words.World.{holder, ticket_at, told, told_all, WorldState}
use Rattle.sbp_journal.specs.declared.side.Side.TheVariants as sides
use Rattle.sbp_world.proofs.Agents.Management.Still.{hist}
use Rattle.sbp_world.proofs.Lists.BusyFollows.{AreOf, IsOf}
use Rattle.sbp_world.proofs.Lists.Running.{runs_other}
use Rattle.sbp_world.proofs.Lists.StatusTold.{opened_initiator}

module _ (past : List Moment) (q : ℕ) where
  -- who has the place is the same initiator
  pub one_holder : (side : Side) (w : WorldState) → IsOf q side → (holder (told 0 side w) q).initiator ≡ (holder w q).initiator
  unfolding told
  one_holder (sides.Opened place orb) w h =
      let list = list_in (ticket_at w place orb) in
      subst (λ p. (holder_at (opened_step p list w.places) q).initiator ≡ (holder w q).initiator) (sym h) (opened_initiator w.places q list)
  one_holder (sides.Ran place orb cdb payload outcome) w h = refl
  one_holder (sides.Ended place orb status) w h = refl
  one_holder (sides.Dead place cause) w h = refl
  one_holder (sides.Unsolicited place) w h = refl
  one_holder (sides.Unsent place) w h = refl
  one_holder (sides.Own note) w h = absurd h
  one_holder (sides.Cut place cause) w h = absurd h
  one_holder (sides.Managed node function subject status login) w h = absurd h
  one_holder (sides.ManageFailed node cause) w h = absurd h
  one_holder (sides.Held login) w h = absurd h
  one_holder (sides.Expired login) w h = absurd h
  one_holder (sides.Back login) w h = absurd h
  one_holder (sides.Left login) w h = absurd h
  one_holder (sides.Cleared unit) w h = absurd h

  one_runs : (i n k : ℕ) (side : Side) (w : WorldState) → IsOf q side → (i ≡ (holder w q).initiator → ⊥) → runs (hist past (told 0 side w)) i n k ≡ runs (hist past w) i n k
  unfolding told
  one_runs i n k (sides.Opened place orb) w h f = refl
  one_runs i n k (sides.Ran place orb cdb payload outcome) w h f =
      let t = ticket_at w place orb in
      runs_other (hist past w) (holder w place).initiator (holder w place).unit cdb payload (check_of outcome) (list_in t) (orb_in t) i n k (λ same. f (same ∙ ap (λ p. (holder w p).initiator) h))
  one_runs i n k (sides.Ended place orb status) w h f = refl
  one_runs i n k (sides.Dead place cause) w h f = refl
  one_runs i n k (sides.Unsolicited place) w h f = refl
  one_runs i n k (sides.Unsent place) w h f = refl
  one_runs i n k (sides.Own note) w h f = absurd h
  one_runs i n k (sides.Cut place cause) w h f = absurd h
  one_runs i n k (sides.Managed node function subject status login) w h f = absurd h
  one_runs i n k (sides.ManageFailed node cause) w h f = absurd h
  one_runs i n k (sides.Held login) w h f = absurd h
  one_runs i n k (sides.Expired login) w h f = absurd h
  one_runs i n k (sides.Back login) w h f = absurd h
  one_runs i n k (sides.Left login) w h f = absurd h
  one_runs i n k (sides.Cleared unit) w h f = absurd h

  pub step_runs : (i n k : ℕ) (side : List Side) (w : WorldState) → AreOf q side → (i ≡ (holder w q).initiator → ⊥) → runs (hist past (told_all 0 side w)) i n k ≡ runs (hist past w) i n k
  unfolding told_all
  step_runs i n k [] w h f = refl
  step_runs i n k (one ∷ later) w h f = step_runs i n k later (told 0 one w) h.1 (λ same. f (same ∙ one_holder one w h.0)) ∙ one_runs i n k one w h.0 f
