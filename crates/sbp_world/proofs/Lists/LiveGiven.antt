-- What laws give of the operations of the initiators at each place of a run before which lists were open as they should be.
use Rattle.sbp_world.proofs.Words.Std.{arith, ◌≡◌, ◌∙◌, refl, subst, ℕ, ◌+◌, ◌^◌, ◌<◌, ◌≤◌, List, [], ◌∷◌, ◌++◌, map, length, Option, Some, None}
use Rattle.sbp_world.proofs.Words.Wire.{Note, Moment, asked, said}
use Rattle.sbp_world.proofs.Words.Target.{Disk}
use Rattle.sbp_world.proofs.Words.Initiator.{LoginResponse, carried}
use Rattle.sbp_world.proofs.Words.Laws.{host_at}
use Rattle.sbp_world.proofs.Words.World.{history_of, Run, after, beginning, after_all, WorldState, begun, initiator_at, NoneInjected, IsRun, more_deliveries, HoldingLaw, IsInPlace, IsManaged, ManagingLaw, IsCalm, AreShort, HasShortOrb, AreUnderway, OperationsLast, UnderwayLaw}
use Rattle.sbp_world.proofs.Hosts.Carrying.{carries_law}
use Rattle.sbp_world.proofs.Hosts.Runs.{count_after, count_between}
use Rattle.sbp_world.proofs.Sessions.HoldingRuns.{holding_law}
use Rattle.sbp_world.proofs.Lists.Courses.{EveryPlace}
use Rattle.sbp_world.proofs.Lists.ManageMoments.{Hands}
use Rattle.sbp_world.proofs.Lists.ManageRuns.{HandsLaw, managing_by}
use Rattle.sbp_world.proofs.Lists.OrbsInPlace.{in_place_law}
use Rattle.sbp_world.proofs.Lists.OrbsShort.{short_orb}
use Rattle.sbp_world.proofs.Lists.UnderwayRuns.{delivering, underway_law}

-- the lines of every run name units of 16 bits
pub record ShortLaw : Type 0 where
  pub lines : (line : ℕ) (run : Run) → IsRun run → AreShort (history_of line run)

-- and so it is as a line goes on that delivers packets
short_on : (ns : List Note) (next : ℕ) (most : Option ℕ) (past : List Moment) → AreShort past → AreShort (map said ns ++ asked next (more_deliveries most) ∷ past)
short_on [] next None past h = (tt, h)
short_on [] next (Some count) past h = (tt, h)
short_on (note ∷ ns) next most past h = short_on ns next most past h

pub shorts_everywhere : ShortLaw → EveryPlace (λ start past w. AreShort past)
shorts_everywhere short = record {
  after_lines = λ line run r has small size so_far. short.lines line run r;
  between = λ line run r has small size next most told m so_far.
      short_on (after_all told (begun (after (beginning run) run.entries))).world.fresh next most (history_of line run) (short.lines line run r);
}

-- of each initiator that injected no packets
abbrev pub AreInPlaceAt : List Disk → List Moment → WorldState → Type 0
AreInPlaceAt start past w = (i : ℕ) → i < length w.initiators → IsCalm past i → IsInPlace start past i

pub record LawsAt (start : List Disk) (past : List Moment) (w : WorldState) : Type 0 where
  pub few : length w.initiators ≤ 4
  pub hands : (i : ℕ) → i < length w.initiators → IsCalm past i → Hands start i past
  pub managed : (i : ℕ) → i < length w.initiators → IsCalm past i → IsManaged start past i
  pub lasts : (i : ℕ) → i < length w.initiators → OperationsLast past i
  pub underway : (i : ℕ) → i < length w.initiators → AreUnderway past i
  pub login : (i : ℕ) → i < length w.initiators → (response : LoginResponse) → carried (initiator_at w i).seat ≡ Some response → (host_at past i).login ≡ response
  pub none : (i : ℕ) → i < length w.initiators → NoneInjected past i
  pub in_place : AreInPlaceAt start past w
  pub short : (i : ℕ) → i < length w.initiators → HasShortOrb past i

small_number : (i n : ℕ) → i < n → n ≤ 4 → i + 1 < 2 ^ 16
small_number i n l few = omega (arith, l, few)

pub laws_everywhere : HandsLaw → UnderwayLaw → HoldingLaw → ShortLaw → EveryPlace AreInPlaceAt → EveryPlace LawsAt
laws_everywhere hands underway holding short in_place = record {
  after_lines = λ line run r has small size so_far.
      let size_is = count_after run run.entries in
      let inside : (i : ℕ) → i < length (after (beginning run) run.entries).world.initiators → i < run.initiators = (λ i l. subst (λ n. i < n) size_is l) in
      record {
        few = (let few = r.few in omega (arith, size_is, few));
        hands = λ i l calm. hands.after_lines line run r has small size so_far i (inside i l) calm;
        managed = λ i l calm. (managing_by hands).after_lines line run r has small size so_far i (inside i l) calm;
        lasts = λ i l. underway.after_lines line run r i (inside i l);
        underway = λ i l. (underway.after_lines line run r i (inside i l)).each [] (history_of line run) refl;
        login = λ i l response e. (holding.after_lines line run r i (inside i l)).login response e;
        none = λ i l. carries_law.none_injected line run r i (inside i l);
        in_place = in_place.after_lines line run r has small size so_far;
        short = λ i l. short_orb (history_of line run) i (small_number i run.initiators (inside i l) r.few) (short.lines line run r) ((underway.after_lines line run r i (inside i l)).each [] (history_of line run) refl);
      };
  between = λ line run r has small size next most told m so_far.
      let w = (after_all told (begun (after (beginning run) run.entries))).world in
      let now = map said w.fresh ++ asked next (more_deliveries most) ∷ history_of line run in
      let size_is = count_between told (after (beginning run) run.entries) ∙ count_after run run.entries in
      let inside : (i : ℕ) → i < length (after_all told (begun (after (beginning run) run.entries))).world.initiators → i < run.initiators = (λ i l. subst (λ n. i < n) size_is l) in
      record {
        few = (let few = r.few in omega (arith, size_is, few));
        hands = λ i l calm. hands.between line run r has small size next most told m so_far i (inside i l) calm;
        managed = λ i l calm. (managing_by hands).between line run r has small size next most told m so_far i (inside i l) calm;
        lasts = λ i l. underway.between line run r next most told m i (inside i l);
        underway = λ i l. (underway.between line run r next most told m i (inside i l)).each [] now refl;
        login = λ i l response e. (holding.between line run r next most told m i (inside i l)).login response e;
        none = λ i l. carries_law.none_injected_between line run r next (more_deliveries most) told (delivering told most) m i (inside i l);
        in_place = in_place.between line run r has small size next most told m so_far;
        short = λ i l.
            short_orb now i (small_number i run.initiators (inside i l) r.few) (short_on w.fresh next most (history_of line run) (short.lines line run r)) ((underway.between line run r next most told m i (inside i l)).each [] now refl);
      };
}

-- where one management operation of an initiator is in hand at a time
pub in_place_everywhere : ManagingLaw → EveryPlace AreInPlaceAt
in_place_everywhere managing =
    let law = in_place_law managing in
    record {
      after_lines = λ line run r has small size so_far i l calm. law.after_lines line run r has small size so_far i (subst (λ n. i < n) (count_after run run.entries) l) calm;
      between = λ line run r has small size next most told m so_far i l calm.
          law.between line run r has small size next most told m so_far i (subst (λ n. i < n) (count_between told (after (beginning run) run.entries) ∙ count_after run run.entries) l) calm;
    }

-- so laws give all of this
pub laws_of : HandsLaw → ShortLaw → EveryPlace LawsAt
laws_of hands short = laws_everywhere hands underway_law holding_law short (in_place_everywhere (managing_by hands))
