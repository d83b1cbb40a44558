-- What follows a step of an agent tells of runs, ends, deaths and unsolicited statuses alone, so nobody's place changes.
use Rattle.std.proofs.Common.{◌≡◌, ◌∙◌, refl, ap, ℕ, Bool, false, cond, List, [], ◌∷◌, ◌++◌, append_assoc, append-nil}
use Rattle.std.proofs.lemmas.List.Elements.{filter-append}
use Rattle.login_table.specs.declared.login.Login.{Login}
use Rattle.command_agent.specs.declared.step.AgentStep.{AgentStep}
use Rattle.sbp_journal.specs.declared.side.Side.{Side}
use Rattle.sbp_journal.specs.declared.side.Side.TheVariants as sides
use Rattle.sbp_target.specs.Agents.{follow}
use Rattle.sbp_target.specs.Nodes.{Scene}
use Rattle.sbp_target.specs.Replies.{announced_by}
use Rattle.sbp_target.proofs.Histories.Followed.{all_follows, announces_by}
use Rattle.sbp_world.specs.Hosts.Handing.{AreOthers, IsOther}
use Rattle.turn_laws.proofs.FollowEnds.{ends_in, is_end}

-- a side that changes no place
abbrev pub IsBeside : Side → Type 0
IsBeside (sides.Ran place orb cdb payload outcome) = Unit {0}
IsBeside (sides.Ended place orb status) = Unit {0}
IsBeside (sides.Dead place cause) = Unit {0}
IsBeside (sides.Unsolicited place) = Unit {0}
IsBeside (sides.Unsent place) = Unit {0}
IsBeside side = ⊥

abbrev pub AreBeside : List Side → Type 0
AreBeside [] = Unit {0}
AreBeside (side ∷ later) = IsBeside side × AreBeside later

one_other : (side : Side) → IsBeside side → IsOther side
one_other (sides.Own note) h = absurd h
one_other side h = tt

pub beside_others : (later : List Side) → AreBeside later → AreOthers later
beside_others [] h = tt
beside_others (side ∷ later) h = (one_other side h.0, beside_others later h.1)

both_beside : (a b : List Side) → AreBeside a → AreBeside b → AreBeside (a ++ b)
both_beside [] b h i = i
both_beside (side ∷ a) b h i = (h.0, both_beside a b h.1 i)

-- behind what was told there are such sides alone
pub record Goes (first told : List Side) : Type 0 where
  pub more : List Side
  pub is : told ≡ first ++ more
  pub beside : AreBeside more

pub goes_more : (first told : List Side) (side : Side) → IsBeside side → Goes first told → Goes first (told ++ side ∷ [])
goes_more first told side f h = record {
  more = h.more ++ side ∷ [];
  is = ap (λ xs. xs ++ side ∷ []) h.is ∙ append_assoc first h.more (side ∷ []);
  beside = both_beside h.more (side ∷ []) h.beside (f, tt);
}

pub follow_goes : (first : List Side) (place : ℕ) (login : Login) (step : AgentStep) (s : Scene) → Goes first s.outbox.sides → Goes first (follow place login step s).outbox.sides
follow_goes first place login step s h =
    all_follows (Goes first)
    (record { ran = λ told p o c d x g. goes_more first told (sides.Ran p o c d x) tt g; dead = λ told p c g. goes_more first told (sides.Dead p c) tt g; ended = λ told p o k g. goes_more first told (sides.Ended p o k) tt g })
    place login step s h

pub announce_goes : (first : List Side) (b : Bool) (unit place : ℕ) (s : Scene) → Goes first s.outbox.sides → Goes first (announced_by b unit place s).outbox.sides
announce_goes first b unit place s h =
    announces_by (Goes first)
    (record { pushed = λ told p g. goes_more first told (sides.Unsolicited p) tt g; unsent = λ told p g. goes_more first told (sides.Unsent p) tt g })
    b unit place s h

-- an unsolicited status is no end
abbrev HasEnds : List Side → List Side → Type 0
HasEnds ends told = ends_in told ≡ ends

no_more : (ends told : List Side) (side : Side) → is_end side ≡ false → HasEnds ends told → HasEnds ends (told ++ side ∷ [])
no_more ends told side e h = filter-append is_end told (side ∷ []) ∙ (ap (λ b. ends_in told ++ cond b (side ∷ []) []) e ∙ (append-nil (ends_in told) ∙ h))

pub announce_ends : (b : Bool) (unit place : ℕ) (s : Scene) → ends_in (announced_by b unit place s).outbox.sides ≡ ends_in s.outbox.sides
announce_ends b unit place s =
    let ends = ends_in s.outbox.sides in
    announces_by (HasEnds ends)
    (record { pushed = λ told p g. no_more ends told (sides.Unsolicited p) refl g; unsent = λ told p g. no_more ends told (sides.Unsent p) refl g })
    b unit place s refl
