-- What each place of a run needs so that lists are open there as they should be, where they were so before: from what is known of the writes of ORB_POINTER, of the
-- lists that are open, and of the statuses that are taken.
use Rattle.sbp_world.proofs.Words.Std.{◌≡◌, refl, subst, ℕ, ◌<◌, ◌≤◌, List, [], ◌∷◌, ◌++◌, map, length, Option}
use Rattle.sbp_world.proofs.Words.Wire.{Moment, asked, said}
use Rattle.sbp_world.proofs.Words.Target.{Told}
use Rattle.sbp_world.proofs.Words.World.{history_of, Run, after, beginning, MayAll, after_all, WorldState, begun, IsRun, more_deliveries, PointersLaw, BegunLaw, Always, AreBehind, AreFirsts, AreHere, AreUntaken, PlacesLaw, Under, WhereTameOrFew, IsLast, IsCalm, OpenBefore, OpenBetween, AreNamedFor, IsTameOrFew}
use Rattle.sbp_world.proofs.Hosts.Lasting.{lasting_law}
use Rattle.sbp_world.proofs.Hosts.Runs.{count_after, count_between}
use Rattle.sbp_world.proofs.Lists.Firsts.{first_law}
use Rattle.sbp_world.proofs.Lists.NamedWrites.{AllNamed, Known, first_names, names_walk}
use Rattle.sbp_world.proofs.Lists.Naming.{names_law}
use Rattle.sbp_world.proofs.Lists.OpenWires.{wire_after, wire_between}
use Rattle.sbp_world.proofs.Lists.Beside.{tame_or_few_before}
use Rattle.sbp_world.proofs.Lists.TameWalks.{still_after, still_between}
use Rattle.sbp_world.proofs.Common.{delivers}

-- ---- what open lists stand on at a place
pub record Closes (past : List Moment) (w : WorldState) : Type 0 where
  pub last : (i : ℕ) → i < length w.initiators → IsCalm past i → IsLast past w i
  pub first : AreFirsts past w
  pub behind : AreBehind past w

-- where no initiator injected packets, or few logins were given
pub record ClosesLaw : Type 0 where
  pub after_lines : (line : ℕ) (run : Run) → IsRun run → 0 < run.units → run.units ≤ 4 → length run.start.disks ≡ run.units → OpenBefore line run run.entries → IsTameOrFew (history_of line run) → Closes (history_of line run) (after (beginning run) run.entries).world
  pub between : (line : ℕ) (run : Run) → IsRun run → 0 < run.units → run.units ≤ 4 → length run.start.disks ≡ run.units → (next : ℕ) (most : Option ℕ) (told : List (Option Told)) → MayAll told (begun (after (beginning run) run.entries)) → OpenBetween line run next (more_deliveries most) told → (let w = (after_all told (begun (after (beginning run) run.entries))).world in let now = map said w.fresh ++ asked next (more_deliveries most) ∷ history_of line run in IsTameOrFew now → Closes now w)

-- the writes that were got were named for lists
abbrev AreNames : List Moment → WorldState → Type 0
AreNames ms w = (i : ℕ) → i < length w.initiators → IsCalm ms i → AreNamedFor ms i

-- ---- what is known of every run
module _ (pointers : PointersLaw) (begun_law : BegunLaw) where
  pub known : Always Known
  known = record {
    after_lines = λ line run r has small size.
        let inside : (i : ℕ) → i < length (after (beginning run) run.entries).world.initiators → i < run.initiators = λ i b. subst (λ n. i < n) (count_after run run.entries) b in
        record {
          pointers = λ i b. pointers.after_lines line run r i (inside i b);
          first = first_law.after_lines line run r has small size;
          begun = λ i b. begun_law.after_lines line run r has small size i (inside i b);
          names = names_law.after_lines line run r has small size;
          within = λ i n b. (lasting_law.lasts line run r i (inside i b) [] (history_of line run) refl).linked_in n;
          wire = wire_after line run r has small size;
        };
    between = λ line run r has small size next most told m.
        let s = after (beginning run) run.entries in
        let inside : (i : ℕ) → i < length (after_all told (begun s)).world.initiators → i < run.initiators = λ i b. subst (λ n. i < n) (count_after run run.entries) (subst (λ n. i < n) (count_between told s) b) in
        record {
          pointers = λ i b. pointers.between line run r next most told m i (inside i b);
          first = first_law.between line run r has small size next most told m;
          begun = λ i b. begun_law.between line run r has small size next most told m i (inside i b);
          names = names_law.between line run r has small size next (more_deliveries most) (delivers most) told m;
          within = λ i n b. (lasting_law.between line run r next most told m i (inside i b) [] (map said (after_all told (begun s)).world.fresh ++ asked next (more_deliveries most) ∷ history_of line run) refl).linked_in n;
          wire = wire_between line run r has small size next (more_deliveries most) (delivers most) told m;
        };
  }

-- ---- together
module _ (pointers : PointersLaw) (begun_law : BegunLaw) (places : PlacesLaw) where
  names : Under (WhereTameOrFew AreNames)
  names = record {
    after_lines = λ line run r has small size so_far beside. still_after IsTameOrFew tame_or_few_before Known AreUntaken AllNamed (known pointers begun_law) places.untaken names_walk first_names line run r has small size so_far beside;
    between = λ line run r has small size next most told m so_far beside. still_between IsTameOrFew tame_or_few_before Known AreUntaken AllNamed (known pointers begun_law) places.untaken names_walk first_names line run r has small size next (more_deliveries most) (delivers most) told m so_far beside;
  }

  closes_at : (ms : List Moment) (w : WorldState) → AreFirsts ms w → AreHere ms w → AreNames ms w → AreUntaken ms w → AreBehind ms w → Closes ms w
  closes_at ms w first here named taken behind = record {
    last = λ i b calm. let h = here i b calm (named i b calm) in record { named = named i b calm; present = h.present; ahead = h.ahead; taken = λ n k e. taken i b calm n k e };
    first = first;
    behind = behind;
  }

  pub closes_law : ClosesLaw
  closes_law = record {
    after_lines = λ line run r has small size so_far beside.
        closes_at (history_of line run) (after (beginning run) run.entries).world (first_law.after_lines line run r has small size) (places.here.after_lines line run r has small size so_far beside)
        (names.after_lines line run r has small size so_far beside) (places.untaken.after_lines line run r has small size so_far beside) (places.behind.after_lines line run r has small size so_far beside);
    between = λ line run r has small size next most told m so_far beside.
        let w = (after_all told (begun (after (beginning run) run.entries))).world in
        closes_at (map said w.fresh ++ asked next (more_deliveries most) ∷ history_of line run) w (first_law.between line run r has small size next most told m) (places.here.between line run r has small size next most told m so_far beside)
        (names.between line run r has small size next most told m so_far beside) (places.untaken.between line run r has small size next most told m so_far beside) (places.behind.between line run r has small size next most told m so_far beside);
  }
