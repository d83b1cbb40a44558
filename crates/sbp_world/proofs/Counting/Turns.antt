-- What a call of the target leaves of the history, of its agents and of who has their places, where lists are open as they should be before and behind it.
use Rattle.sbp_world.proofs.Words.Std.{arith, ◌≡◌, ◌∙◌, refl, sym, ap, subst, ◌<◌, not, ℕ, nat_eq, true, false, List, Some, nat_tests, false≢true}
use Rattle.sbp_world.proofs.Words.Wire.{Holder, Moment, Side, holder_at}
use Rattle.sbp_world.proofs.Words.Target.{NodeState, Phase, TargetScene, alone, desk_at, is_reset, state_in}
use Rattle.sbp_world.proofs.Words.Laws.{OrderLaw, ends, injectors, is_cut}
use Rattle.sbp_world.proofs.Words.World.{AreApart, IsUp, WorldState, holder, initiator_in, machine_at, told_all}
use Rattle.command_agent.specs.Making.{is_at_work}
use Rattle.sbp_world.proofs.Agents.Management.Still.{hist}
use Rattle.sbp_world.proofs.Agents.Peers.{all_sent_places}
use Rattle.sbp_world.proofs.Wire.Nodes.{handed_alike}
use Rattle.sbp_world.proofs.Counting.Grown.{Goes, HasEnded, cut_still, first_goes, goes_then, sent_goes, told_ended, told_goes}
use Rattle.sbp_world.proofs.Counting.Worked.{AreWorking, work_lists}
use Rattle.sbp_world.proofs.Lists.Adds.{all_stay}
use Rattle.sbp_world.proofs.Lists.BusyCuts.{Cutting, WasCut}
use Rattle.sbp_world.proofs.Lists.BusyFollows.{Acts, AreOf, has_end}
use Rattle.sbp_world.proofs.Lists.BusyTold.{cut_told}
use Rattle.sbp_world.proofs.Lists.Full.{IsFull, full_closed}
use Rattle.sbp_world.proofs.Lists.OpenTurns.{listing_up}
use Rattle.sbp_world.proofs.Lists.PlaceOwners.{Owns}
use Rattle.sbp_world.proofs.Lists.TurnCalls.{IsCalled}
use Rattle.sbp_world.proofs.Lists.UnrunTerms.{first_as}
use Rattle.sbp_world.proofs.Lists.UpLatest.{AreUpLatest}
use Rattle.sbp_world.specs.Counting.Rooms.{is_at_work_in}
use Rattle.sbp_world.specs.Lists.OwnLogins.{IsTame}

pub work_up : (phase : Phase) → is_at_work phase ≡ true → not (is_reset (state_in phase)) ≡ true
work_up phase e = listing_up phase (work_lists phase e)

-- ---- what is known of the places before and behind a call
pub record IsGround (before now : List Moment) (w v : WorldState) : Type 0 where
  pub calm : IsTame before
  pub calm_now : IsTame now
  pub working : AreWorking before w
  pub working_now : AreWorking now v
  -- an agent that is up has the latest list of its initiator, and is the one that is up of it
  pub latest_now : AreUpLatest now v
  pub apart_now : AreApart now v
  pub order : OrderLaw (injectors now) now
  pub owns : Owns w v

-- ---- a call of the target
module _ (past : List Moment) (w v : WorldState) (c : IsCalled past w v) where
  abbrev pub scene_of : TargetScene
  scene_of = alone c.call w.target

  abbrev pub told_of : List Side
  told_of = scene_of.outbox.sides

  abbrev pub told_world : WorldState
  told_world = told_all 0 told_of c.u

-- What it leaves: no ORB is appended; the machines are those of the target's scene, and who has the places is by what was told; an agent that is at work then is up, and of the initiator
-- that had its place; and what was told is of cuts and ends.
pub record IsTurn (past : List Moment) (w v : WorldState) (c : IsCalled past w v) : Type 0 where
  pub goes : Goes (hist past w) (hist past v)
  pub machine_now : (p : ℕ) → machine_at v p ≡ (desk_at (scene_of past w v c).node p).agent
  pub holder_u : (p : ℕ) → holder c.u p ≡ holder w p
  pub holder_now : (p : ℕ) → holder v p ≡ holder (told_world past w v c) p
  pub up_now : (p : ℕ) → is_at_work_in v p ≡ true → IsUp v (initiator_in v p) p
  pub owner : (p : ℕ) → p < 8 → is_at_work_in v p ≡ true → initiator_in v p ≡ initiator_in w p
  pub same_ends : (i n : ℕ) → ends (hist past (told_world past w v c)) i n ≡ ends (hist past c.u) i n → ends (hist past v) i n ≡ ends (hist past w) i n
  pub cut_now : (p n : ℕ) → (holder c.u p).list ≡ Some n → Cutting (λ q m. IsFull m) full_closed (machine_at w) (scene_of past w v c) → WasCut p (told_of past w v c) → is_cut (hist past v) (holder c.u p).initiator n ≡ true
  pub ended_now : (q : ℕ) → AreOf q (told_of past w v c) → has_end (told_of past w v c) ≡ true → HasEnded (hist past w) (hist past v) (initiator_in w q)

module _ (past : List Moment) (w v : WorldState) (ground : IsGround (hist past w) (hist past v) w v) (c : IsCalled past w v) where
  abbrev before : List Moment
  before = hist past w

  abbrev now : List Moment
  now = hist past v

  abbrev t : TargetScene
  t = scene_of past w v c

  abbrev told : List Side
  told = told_of past w v c

  abbrev x : WorldState
  x = told_all 0 told c.u

  first_on : Goes before (hist past c.u)
  first_on = subst (Goes before) (sym c.fresh) (first_goes before c.first c.starts)

  sent_on : Goes (hist past x) now
  sent_on = subst (λ (y : WorldState). Goes (hist past x) (hist past y)) (sym c.is) (sent_goes past 0 t.outbox.packets x)

  pub call_goes : Goes before now
  call_goes = goes_then before (hist past c.u) now first_on (goes_then (hist past c.u) (hist past x) now (told_goes past told c.u c.others) sent_on)

  machine_now : (p : ℕ) → machine_at v p ≡ (desk_at t.node p).agent
  machine_now p = ap (λ (y : WorldState). machine_at y p) c.is ∙ ap (λ (n : NodeState). (desk_at n p).agent) ((handed_alike 0 0 t.outbox c.u).target ∙ c.target)

  holder_u : (p : ℕ) → holder c.u p ≡ holder w p
  holder_u p = ap (λ ps. holder_at ps p) c.places

  holder_now : (p : ℕ) → holder v p ≡ holder x p
  holder_now p = ap (λ (y : WorldState). holder y p) c.is ∙ ap (λ ps. holder_at ps p) (all_sent_places 0 t.outbox.packets x)

  -- an agent at work then is up, and of the initiator that had the place
  up_now : (p : ℕ) → is_at_work_in v p ≡ true → IsUp v (initiator_in v p) p
  up_now p e = record { up = work_up (machine_at v p).phase e; own = refl }

  owner : (p : ℕ) → p < 8 → is_at_work_in v p ≡ true → initiator_in v p ≡ initiator_in w p
  owner p b e = ground.owns p b (work_up (machine_at v p).phase e)

  same_ends : (i n : ℕ) → ends (hist past x) i n ≡ ends (hist past c.u) i n → ends now i n ≡ ends before i n
  same_ends i n e =
      ap (λ (y : WorldState). ends (hist past y) i n) c.is
      ∙ ((all_stay (λ j. true) past 0 t.outbox.packets x).adds.ends_are i n ∙ (e ∙ (ap (λ ms. ends ms i n) c.fresh ∙ (first_as before c.first c.starts).ends_are i n)))

  -- the list of an agent that was cut is cut
  cut_now : (p n : ℕ) → (holder c.u p).list ≡ Some n → Cutting (λ q m. IsFull m) full_closed (machine_at w) t → WasCut p told → is_cut now (holder c.u p).initiator n ≡ true
  cut_now p n list k cut = cut_still (hist past x) now sent_on (holder c.u p).initiator n (cut_told past p n told c.u k.beside cut list)

  -- an end is told of it
  ended_now : (q : ℕ) → AreOf q told → has_end told ≡ true → HasEnded before now (initiator_in w q)
  ended_now q of e =
      told_ended (injectors now) past before now ground.order (initiator_in w q) (ground.calm_now (initiator_in w q)) q told c.u of c.others e
      (ap (λ (h : Holder). h.initiator) (holder_u q)) first_on sent_on.later sent_on.is

  pub turn : IsTurn past w v c
  turn = record {
    goes = call_goes;
    machine_now = machine_now;
    holder_u = holder_u;
    holder_now = holder_now;
    up_now = up_now;
    owner = owner;
    same_ends = same_ends;
    cut_now = cut_now;
    ended_now = ended_now;
  }

-- a step of one agent leaves the others
pub acts_other : (w : WorldState) (t : TargetScene) (q : ℕ) (b : q < 8) (Known : Type 0) → Acts q b Known ⊥ (λ p m. IsFull m) full_closed (machine_at w) t → (p : ℕ) → nat_eq p q ≡ false → (desk_at t.node p).agent ≡ machine_at w p
acts_other w t q b Known a p e = a.same p (λ same. false≢true (sym e ∙ (let z : nat_eq p q ≡ true = grind (arith, nat_tests) in z)))
