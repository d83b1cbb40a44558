-- A list for which ORB_POINTER was taken, in the generation that its initiator is in, and that was not cut, is open at an agent: turn by turn, where each turn in which such a write is taken as new opens
-- the list.
use Rattle.sbp_world.proofs.Words.Std.{arith, ◌≡◌, ◌∙◌, refl, sym, ap, subst, ◌<◌, ◌≤◌, nat_lt, nat_tests, ℕ, suc, Bool, true, false, List, [], ◌++◌, length, Some}
use Rattle.sbp_world.proofs.Words.Wire.{SerialsCount, Moment, terms}
use Rattle.sbp_world.proofs.Words.Target.{Disk}
use Rattle.sbp_world.proofs.Words.Laws.{is_cut}
use Rattle.sbp_world.proofs.Words.World.{Run, Scene, WorldState, beginning, moments_behind, pointed_list}
use Rattle.sbp_world.specs.Completing.Present.{IsUpWith, WasPointed}
use Rattle.sbp_world.proofs.Agents.Management.Still.{hist}
use Rattle.sbp_world.proofs.Common.{untrue}
use Rattle.sbp_world.proofs.Completing.PresentStays.{stays_with}
use Rattle.sbp_world.proofs.Hosts.Remaining.{remains}
use Rattle.sbp_world.proofs.Lists.CutOffSteps.{young_at}
use Rattle.sbp_world.proofs.Lists.Gots.{turn_next}
use Rattle.sbp_world.proofs.Lists.Judging.{Grown, counts_at, grown}
use Rattle.sbp_world.proofs.Lists.OpenedMoments.{pointed_remains}
use Rattle.sbp_world.proofs.Lists.OrbsFresh.{unsent}
use Rattle.sbp_world.proofs.Lists.PlaceOwners.{walk_owns}
use Rattle.sbp_world.proofs.Lists.Rises.{Rises}
use Rattle.sbp_world.proofs.Lists.StatusKnown.{generation_grows}
use Rattle.sbp_world.proofs.Lists.StatusRested.{Grounds}
use Rattle.sbp_world.proofs.Lists.StatusRuns.{rises_of}
use Rattle.sbp_world.proofs.Lists.TurnWalk.{turn_from}
use Rattle.sbp_world.proofs.Lists.UnrunTerms.{cut_stays}
use Rattle.sbp_world.proofs.Lists.UpLatest.{AreUpLatest}
use Rattle.sbp_world.proofs.Lists.Walks.{Step}

-- what else is asked of a list, which held before wherever it does
pub record Asks : Type 1 where
  pub of : List Moment → (i n : ℕ) → Type 0
  pub back : (later past : List Moment) (i n : ℕ) → of (later ++ past) i n → of past i n

-- each such list is at an agent
abbrev pub AreHad : Asks → (ℕ → Bool) → List Moment → WorldState → Type 0
AreHad asks wild past w = (i n : ℕ) → i < length w.initiators → wild i ≡ false → WasPointed past i n → is_cut past i n ≡ false → asks.of past i n → IsUpWith past w i n

-- a write of ORB_POINTER that is taken as new in a turn opens its list
abbrev pub Takes : Asks → (ℕ → Bool) → List Moment → WorldState → List Moment → WorldState → Type 0
Takes asks wild before w now v = (i n : ℕ) → i < length w.initiators → wild i ≡ false → (x : WasPointed now i n) → (terms before).news x.serial ≡ 0 → is_cut now i n ≡ false → asks.of now i n → IsUpWith now v i n

module _ (asks : Asks) (wild : ℕ → Bool) (units ready : ℕ) (has : 0 < units) (start : List Disk) (Kit : List Moment → WorldState → Type 0) (up : (past : List Moment) (w : WorldState) → Kit past w → AreUpLatest past w) (past : List Moment) (s : Scene) (later : List Moment) (t : Scene) (step : Step wild units ready start Grounds Kit past s later t) (takes : Takes asks wild (hist past s.world) s.world (hist later t.world) t.world) where
  abbrev before : List Moment
  before = hist past s.world

  abbrev now : List Moment
  now = hist later t.world

  on : Grown before now
  on = grown before now (turn_next past s later t step.turn)

  counts : SerialsCount (on.new ++ before)
  counts = subst SerialsCount (sym on.is) step.reaches.site.serials

  rises : Rises (on.new ++ before)
  rises = subst Rises (sym on.is) (rises_of later t.world step.reaches.holds.sound.stands now refl)

  module _ (i n : ℕ) (own : wild i ≡ false) (x : WasPointed now i n) (known : 0 < (terms before).news x.serial) where
    old_by : (young : Bool) → nat_lt (terms before).count x.serial ≡ young → x.serial ≤ (terms before).count
    old_by true e =
        let none = (unsent x.serial before (counts_at s.world step.stands.reached.holds.sound.stands) (let z : (terms before).count < x.serial = grind (arith, nat_tests, e) in z)).news in
        absurd (omega (arith, none, known))
    old_by false e = let z : x.serial ≤ (terms before).count = grind (arith, nat_tests, e) in z

    old : x.serial ≤ (terms before).count
    old = old_by (nat_lt (terms before).count x.serial) refl

    sent_then : (terms before).sent x.serial ≡ Some x.packet
    sent_then = sym ((remains on.new before counts).sent x.serial old) ∙ (ap (λ ms. (terms ms).sent x.serial) on.is ∙ x.sent)

    pub was_pointed : WasPointed before i n
    was_pointed =
        let young : x.packet.generation ≤ (terms before).generation (suc i) = subst (λ node. x.packet.generation ≤ (terms before).generation node) x.from_is (young_at s.world step.stands.reached.holds.sound.stands x.serial x.packet sent_then) in
        let grows = generation_grows on.new before (suc i) rises in
        let same : (terms (on.new ++ before)).generation (suc i) ≡ (terms now).generation (suc i) = ap (λ ms. (terms ms).generation (suc i)) on.is in
        let is = x.current in
        record {
          serial = x.serial;
          packet = x.packet;
          sent = sent_then;
          from_is = x.from_is;
          pointed = sym (pointed_remains on.new before x.serial i counts old) ∙ (ap (λ ms. pointed_list ms x.serial i) on.is ∙ x.pointed);
          current = omega (arith, young, grows, same, is);
          taken = known;
        }

    pub its_serial : was_pointed.serial ≡ x.serial
    unfolding was_pointed
    its_serial = refl

  pub uncut_then : (i n : ℕ) → is_cut now i n ≡ false → is_cut before i n ≡ false
  uncut_then i n uncut = by (is_cut before i n) refl
    where
      by : (b : Bool) → is_cut before i n ≡ b → b ≡ false
      by false e = refl
      by true e = untrue (sym uncut ∙ subst (λ ms. is_cut ms i n ≡ true) on.is (cut_stays on.new before i n e))

  pub turn_had : AreHad asks wild before s.world → AreHad asks wild now t.world
  turn_had o i n within own x uncut also = by (nat_lt 0 ((terms before).news x.serial)) refl
    where
      inside : i < length s.world.initiators
      inside = subst (λ c. i < c) step.count within

      by : (known : Bool) → nat_lt 0 ((terms before).news x.serial) ≡ known → IsUpWith now t.world i n
      by false e = takes i n inside own x (let z : (terms before).news x.serial ≡ 0 = grind (arith, nat_tests, e) in z) uncut also
      by true e =
          let known : 0 < (terms before).news x.serial = grind (arith, nat_tests, e) in
          stays_with wild past s.world later t.world (turn_from wild units ready has start Grounds Kit past s later t step step.known.numbers)
          (walk_owns units ready has start s step.stands.reached.holds step.stands.reached.site.held later t step.turn) (up now t.world (step.so_far_then i own)) i n (step.reaches.calm i own) uncut
          (o i n inside own (was_pointed i n own x known) (uncut_then i n uncut) (asks.back on.new before i n (subst (λ ms. asks.of ms i n) (sym on.is) also)))

-- no packet was taken as a run begins
pub first_had : (asks : Asks) (wild : ℕ → Bool) (line : ℕ) (run : Run) → AreHad asks wild (moments_behind line run []) (beginning run).world
first_had asks wild line run i n b own x uncut also = let none = x.taken in absurd (omega (arith, none))
