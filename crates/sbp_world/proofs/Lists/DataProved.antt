-- At each place of a run in which no initiator injected packets, or few logins were given, and before which lists were open as they should be, the target sent the data of answers as they are to be
-- sent; where this is known of the management.
use Rattle.sbp_world.proofs.Words.Std.{◌≡◌, ◌∙◌, ap, sym, subst, ◌<◌, ℕ, Bool, false, List, [], length, arith}
use Rattle.sbp_world.proofs.Words.Wire.{Moment, or_nobody}
use Rattle.sbp_world.proofs.Words.Target.{Disk}
use Rattle.sbp_world.proofs.Words.Laws.{EachMoment, slot_at}
use Rattle.sbp_world.proofs.Words.World.{moments_behind, Run, beginning, Scene, WorldState, without_notes, initiator_at, more_deliveries, Always, AreHere, UnderFrom, WhereTameOrFew, AreUntaken, AllDataSo, DataSo, IsCalm, initiator_in, machine_at, IsTameOrFew, AreWhole}
use Rattle.sbp_world.proofs.Agents.Management.Holding.{target_generation}
use Rattle.sbp_world.proofs.Agents.Management.Still.{hist}
use Rattle.sbp_world.proofs.Lists.DataWalk.{Facts, Given, turn_data}
use Rattle.sbp_world.proofs.Lists.Executes.{asked_of}
use Rattle.sbp_world.proofs.Lists.RunOutcomes.{AreAsked}
use Rattle.sbp_world.proofs.Lists.StatusPoints.{open_acting, open_up}
use Rattle.sbp_world.proofs.Lists.StatusProved.{AreNames, Ground}
use Rattle.sbp_world.proofs.Lists.TameWalks.{from_after, from_between}
use Rattle.sbp_world.proofs.Lists.Beside.{tame_or_few_before}
use Rattle.sbp_world.proofs.Lists.AnswersTold.{AreToldThere}
use Rattle.sbp_world.proofs.Lists.AnswerLengths.{AreFilled, commands_fill}
use Rattle.sbp_world.proofs.Agents.UnitsLines.{opened as units_opened}
use Rattle.sbp_world.proofs.Lists.Turns.{Ready}
use Rattle.sbp_world.proofs.Lists.Walks.{Step, Walks}
use Rattle.sbp_world.proofs.Lists.DataHears.{AreHeard, heard_there}
use Rattle.sbp_world.proofs.Lists.Sites.{named_prepared}
use Rattle.sbp_world.proofs.Lists.DataHeard.{HaveSlots}
use Rattle.sbp_world.proofs.Lists.StatusPlaced.{has_slot}
use Rattle.sbp_world.proofs.Lists.DataSteps.{answers_is}
use Rattle.sbp_world.proofs.Lists.Full.{IsFull}
use Rattle.sbp_world.proofs.Common.{delivers}

abbrev pub AllData : List Disk → (ℕ → Bool) → List Moment → WorldState → Type 0
AllData start wild ms w = (i : ℕ) → i < length w.initiators → wild i ≡ false → EachMoment (DataSo start i) ms

pub full_of : (wild : ℕ → Bool) (past : List Moment) (w : WorldState) → ((j : ℕ) → wild j ≡ false → IsCalm past j) → AreWhole past w → (q : ℕ) → q < 8 → wild (initiator_in w q) ≡ false → IsFull (machine_at w q)
full_of wild past w calm whole q b own e = let x = whole q b (calm (initiator_in w q) own) (answers_is (machine_at w q).phase e) in record { more = x.0; fills = x.1 }

module _ (Placed : ℕ → WorldState → Type 0) (placed_on : (i : ℕ) (w : WorldState) → Placed i w → Placed i (without_notes w)) (gives : (start : List Disk) (wild : ℕ → Bool) (i : ℕ) (own : wild i ≡ false) (past : List Moment) (w : WorldState) (r : Ready wild past w) → AreAsked wild (hist past w) w → Placed i w → EachMoment (DataSo start i) (hist past w) → HaveSlots (hist past w) i → Given start wild i own past w r) where
  -- what is known where lists were open as they should be before
  abbrev pub Over : List Disk → List Moment → WorldState → Type 0
  Over start ms w = AreHere ms w × (AreNames ms w × (AreUntaken ms w × (AreWhole ms w × (((i : ℕ) → i < length w.initiators → IsCalm ms i → Placed i w) × (AreToldThere start ms w × AreFilled ms)))))

  module _ (wild : ℕ → Bool) (units ready : ℕ) (has : 0 < units) (start : List Disk) (past : List Moment) (s : Scene) (later : List Moment) (t : Scene) (step : Step wild units ready start Ground (Over start) past s later t) (p : AllData start wild (hist past s.world) s.world) (i : ℕ) (b : i < length t.world.initiators) (own : wild i ≡ false) where
    abbrev w : WorldState
    w = s.world

    abbrev ms : List Moment
    ms = hist past w

    inside : i < length w.initiators
    inside = subst (λ n. i < n) step.count b

    calm : IsCalm ms i
    calm = step.stands.reached.calm i own

    facts : Facts start wild i own (Placed i) past w
    facts =
        let h = step.stands.reached.holds in
        let site = step.stands.reached.site in
        let lists = step.stands.lists i own in
        let k = step.known in
        let o = step.so_far i own in
        let here = o.0 i inside calm (o.1.0 i inside calm) in
        record {
          ready = step.stands.known_all;
          each = p i inside own;
          asked_orbs = asked_of wild start units ready has w h site step.stands.lists step.stands.reached.calm k.orbs;
          placed = o.1.1.1.1.0 i inside calm;
          full = λ q b own. full_of wild ms w step.stands.reached.calm o.1.1.1.0 q b own;
          same_gen = sym (target_generation w h.sound.stands);
          prepared = λ place n j there named.
              let x = named_prepared units ready has start w h site place n j there named in
              record { there = x.there; small = x.small; filled = λ cmd e. site.filled (initiator_in w place) there (slot_at ms (initiator_in w place) n j) n j cmd x.small x.there e };
          slots = λ n j e from below.
              let inner = step.stands.known_all.within i n inside in
              has_slot ms i n j (initiator_at w i).lists.slots (site.rows i inside) (omega (arith, inner, below)) (o.1.1.0 i inside calm n j from) e;
          answered = record {
            had = λ q b own e n list latest. o.1.1.1.1.1.0 q b (step.stands.reached.calm (initiator_in w q) own) e n list latest;
            fills = λ j n k cmd g. commands_fill ms o.1.1.1.1.1.1 j n k cmd g;
            unit_is = λ q login is.
                let held = site.held.held q login is in
                ap (λ o. (or_nobody o).unit) held.there ∙ held.unit_is;
          };
          up = λ q c l. open_up wild i own units ready has start w h site inside calm lists k.opened k.caught k.known.pointers k.known.first here q c l;
          lives = λ q c l. (open_acting wild i own units ready has start w h site inside calm lists k.opened k.caught k.known.pointers k.known.first here q c l).1;
        }

    heard_so : AreHeard wild ms w
    heard_so serial sent found zero_to packet label place e is_which c mild answering =
        heard_there wild units ready has start w step.stands.reached.holds step.stands.reached.site step.stands.lists step.stands.reached.calm step.known.orbs (λ p d. step.stands.reached.kept.on p d)
        serial sent found zero_to packet label place e is_which c mild answering

    data_now : EachMoment (DataSo start i) (hist later t.world)
    data_now =
        turn_data start wild i own (Placed i) (placed_on i) (gives start wild i own) past s later t step.turn facts heard_so (step.units_are).each
        (λ line event. (units_opened units ready has start past line event w s.media.disks step.units_are).each)

  data_walk : (wild : ℕ → Bool) (units ready : ℕ) → 0 < units → (start : List Disk) → Walks wild units ready start Ground (Over start) (AllData start wild)
  data_walk wild units ready has start past s later t step p = λ i b own. data_now wild units ready has start past s later t step p i b own

  first_data : (wild : ℕ → Bool) (line : ℕ) (run : Run) → AllData run.start.disks wild (moments_behind line run []) (beginning run).world
  first_data wild line run = λ i b own. (tt, (tt, tt))

  -- ---- over a run in which no initiator injected packets, or few logins were given
  pub data_law : Always Ground → UnderFrom (λ start. WhereTameOrFew (Over start)) → UnderFrom (λ start. WhereTameOrFew (AllDataSo start))
  data_law ground over = record {
    after_lines = λ line run r has small size so_far tame i b calm. from_after IsTameOrFew tame_or_few_before Ground Over AllData ground over data_walk first_data line run r has small size so_far tame i b calm;
    between = λ line run r has small size next most told m so_far tame i b calm.
        from_between IsTameOrFew tame_or_few_before Ground Over AllData ground over data_walk first_data line run r has small size next (more_deliveries most) (delivers most) told m so_far tame i b calm;
  }
