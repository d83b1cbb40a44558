-- So, where each turn in which a write of ORB_POINTER is taken as new opens its list: at rest a list that was begun since the latest reset was seen, that was not cut, and for which ORB_POINTER was written,
-- is the present one of its initiator, and a SUSPENDED agent has it, unless an agent of the initiator is DEAD.
use Rattle.sbp_world.proofs.Words.Std.{arith, ◌≡◌, ◌∙◌, sym, ◌<◌, ℕ, suc, Bool, List, ◌∷◌, ◌++◌, map, length}
use Rattle.sbp_world.proofs.Words.Wire.{Moment, asked, said, terms}
use Rattle.sbp_world.proofs.Words.Target.{Disk}
use Rattle.sbp_world.proofs.Words.Laws.{injectors}
use Rattle.sbp_world.proofs.Words.World.{Always, AreHere, IsCalm, IsTameOrFew, AreNamedFor, Scene, Under, WorldState, after, after_all, beginning, begun, history_of, more_deliveries}
use Rattle.sbp_laws.specs.Budget.{Lossless}
use Rattle.sbp_laws.specs.Completion.{in_the_air}
use Rattle.sbp_world.specs.Completing.Sights.{IsFresh, rung}
use Rattle.sbp_world.specs.Completing.Present.{IsPresent, WasPointed}
use Rattle.sbp_world.specs.Completing.Rest.{TargetRests}
use Rattle.sbp_world.specs.Completing.RestStatuses.{HasDead}
use Rattle.sbp_world.proofs.Agents.Management.Still.{hist}
use Rattle.sbp_world.proofs.Common.{delivers}
use Rattle.sbp_world.proofs.Completing.PresentProved.{rest_pointed_law}
use Rattle.sbp_world.proofs.Completing.PresentRest.{is_present}
use Rattle.sbp_world.proofs.Completing.PresentRuns.{AreHad, Asks, Takes, first_had, turn_had}
use Rattle.sbp_world.proofs.Completing.RestRuns.{rest_law}
use Rattle.sbp_world.proofs.Lists.Clauses.{open_lists_law}
use Rattle.sbp_world.proofs.Lists.Courses.{more_than_one}
use Rattle.sbp_world.proofs.Lists.DataLaws.{names_by}
use Rattle.sbp_world.proofs.Lists.ListsProved.{closing}
use Rattle.sbp_world.proofs.Lists.LiveShort.{here_beside}
use Rattle.sbp_world.proofs.Lists.OpenedKnown as opened_known
use Rattle.sbp_world.proofs.Lists.ShortLines.{short_law}
use Rattle.sbp_world.proofs.Lists.StatusProved.{ground_law}
use Rattle.sbp_world.proofs.Lists.StatusRested.{Grounds, grounds_law}
use Rattle.sbp_world.proofs.Lists.TameWalks.{still_after, still_between}
use Rattle.sbp_world.proofs.Lists.UpLatest.{AreUpLatest}
use Rattle.sbp_world.proofs.Lists.Walks.{Step, Walks}
use Rattle.sbp_world.proofs.Sessions.Runs.{joined_law}

-- ---- of every run
-- each turn of a run opens the lists whose writes it takes as new
abbrev pub AllTake : Asks → (Kit : List Moment → WorldState → Type 0) → Type 0
AllTake asks Kit = (wild : ℕ → Bool) (units ready : ℕ) → 0 < units → (start : List Disk) (past : List Moment) (s : Scene) (later : List Moment) (t : Scene) → Step wild units ready start Grounds Kit past s later t → Takes asks wild (hist past s.world) s.world (hist later t.world) t.world

-- where a condition holds that held before wherever it does
module _ (asks : Asks) (While : List Moment → Type 0) (back : (later past : List Moment) → While (later ++ past) → While past) (beside : (past : List Moment) → While past → IsTameOrFew past) (Kit : List Moment → WorldState → Type 0) (up : (past : List Moment) (w : WorldState) → Kit past w → AreUpLatest past w) (known : Under (λ past w. While past → Kit past w)) (takes : AllTake asks Kit) where
  walk : (wild : ℕ → Bool) (units ready : ℕ) → 0 < units → (start : List Disk) → Walks wild units ready start Grounds Kit (AreHad asks wild)
  walk wild units ready has start past s later t step o = turn_had asks wild units ready has start Kit up past s later t step (takes wild units ready has start past s later t step) o

  grounds : Always Grounds
  grounds = grounds_law (ground_law opened_known.laws.pointers opened_known.laws.begun) joined_law

  pub had_law : Always (λ past w. While past → AreHad asks (injectors past) past w)
  had_law = record {
    after_lines = λ line run r has small size so.
        let so_far = closing.before open_lists_law line run r has small size (beside (history_of line run) so) in
        still_after While back Grounds Kit (AreHad asks) grounds known walk (first_had asks) line run r has small size so_far so;
    between = λ line run r has small size next most told m so.
        let so_far = closing.between open_lists_law line run r has small size next (more_deliveries most) (delivers most) told m (beside _ so) in
        still_between While back Grounds Kit (AreHad asks) grounds known walk (first_had asks) line run r has small size next (more_deliveries most) (more_than_one most) told m so_far so;
  }

-- ---- at a place
abbrev pub AllPresent : Asks → List Moment → WorldState → ℕ → Type 0
AllPresent asks past w i = (n : ℕ) → IsFresh past i n → 0 < rung past i n → asks.of past i n → (HasDead w i → ⊥) → IsPresent past w i n

abbrev AllPointed : List Moment → ℕ → Type 0
AllPointed past i = (n : ℕ) → IsFresh past i n → 0 < rung past i n → WasPointed past i n

-- the list is the present one, and a SUSPENDED agent has it
all_present : (asks : Asks) (past : List Moment) (w : WorldState) (i : ℕ) → i < length w.initiators → IsCalm past i → Lossless past → AreHad asks (injectors past) past w → AreHere past w → TargetRests w.target → AreNamedFor past i → AllPointed past i → AllPresent asks past w i
all_present asks past w i inside calm lossless had here rest named pointed n fresh some also alive =
    let target : (terms past).generation 0 ≡ (terms past).bus = lossless.seen 0 (omega arith) in
    let own : (terms past).generation (suc i) ≡ (terms past).bus = lossless.seen (suc i) (let b = fresh.inside in omega (arith, b)) in
    is_present past w i n rest (here i inside calm named) (target ∙ sym own) alive (had i n inside calm (pointed n fresh some) fresh.uncut also)

-- ---- of every run
module _ (asks : Asks) (While : List Moment → Type 0) (back : (later past : List Moment) → While (later ++ past) → While past) (beside : (past : List Moment) → While past → IsTameOrFew past) (Kit : List Moment → WorldState → Type 0) (up : (past : List Moment) (w : WorldState) → Kit past w → AreUpLatest past w) (known : Under (λ past w. While past → Kit past w)) (takes : AllTake asks Kit) where
  abbrev pub ArePresent : List Moment → WorldState → Type 0
  ArePresent past w = While past → Lossless past → in_the_air past ≡ 0 → (i : ℕ) → i < length w.initiators → IsCalm past i → AllPresent asks past w i

  pub present_law : Always ArePresent
  present_law = record {
    after_lines = λ line run r has small size so lossless calm i b own.
        let tame : IsTameOrFew (history_of line run) = beside (history_of line run) so in
        let so_far = closing.before open_lists_law line run r has small size tame in
        all_present asks (history_of line run) (after (beginning run) run.entries).world i b own lossless ((had_law asks While back beside Kit up known takes).after_lines line run r has small size so) ((here_beside short_law).after_lines line run r has small size so_far tame)
        (rest_law.after_lines line run r has small size lossless calm).target ((names_by short_law).after_lines line run r has small size so_far tame i b own)
        (λ n fresh some. rest_pointed_law.after_lines line run r has small size lossless calm i n b own fresh some);
    between = λ line run r has small size next most told m so lossless calm i b own.
        let w = (after_all told (begun (after (beginning run) run.entries))).world in
        let now = map said w.fresh ++ asked next (more_deliveries most) ∷ history_of line run in
        let tame : IsTameOrFew now = beside now so in
        let so_far = closing.between open_lists_law line run r has small size next (more_deliveries most) (delivers most) told m tame in
        all_present asks now w i b own lossless ((had_law asks While back beside Kit up known takes).between line run r has small size next most told m so)
        ((here_beside short_law).between line run r has small size next most told m so_far tame) (rest_law.between line run r has small size next most told m lossless calm).target
        ((names_by short_law).between line run r has small size next most told m so_far tame i b own)
        (λ n fresh some. rest_pointed_law.between line run r has small size next most told m lossless calm i n b own fresh some);
  }
