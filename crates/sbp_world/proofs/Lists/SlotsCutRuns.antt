-- In every run in which no initiator injected packets, or few logins were given, of each that injected none: no ORB of an open list has the slot of an ORB whose list was cut before it ended, in the generation.
use Rattle.sbp_world.proofs.Words.Std.{◌≡◌, ◌∙◌, refl, sym, ap, subst, ◌<◌, ◌≤◌, ℕ, suc, Bool, true, false, List, [], length, None, false≢true}
use Rattle.sbp_world.proofs.Words.Wire.{Moment, terms}
use Rattle.sbp_world.proofs.Words.Target.{Disk}
use Rattle.sbp_world.proofs.Words.Laws.{IsOpen, is_cut, prepared_in, taken_at, ends}
use Rattle.sbp_world.proofs.Words.World.{moments_behind, Run, beginning, WorldState, more_deliveries, Always, AreUntaken, Under, WhereTameOrFew, AllCutApart, AreCutApart, IsTameOrFew}
use Rattle.sbp_world.proofs.Agents.Management.Still.{hist}
use Rattle.sbp_world.proofs.Lists.Joins.{Begins}
use Rattle.sbp_world.proofs.Lists.Beside.{tame_or_few_before}
use Rattle.sbp_world.proofs.Lists.Passing.{PassLaw}
use Rattle.sbp_world.proofs.Lists.Rises.{Rises}
use Rattle.sbp_world.proofs.Lists.SlotsCut.{open_apart, untaken_since}
use Rattle.sbp_world.proofs.Lists.StatusRested.{Grounds}
use Rattle.sbp_world.proofs.Lists.StatusRuns.{rises_of}
use Rattle.sbp_world.proofs.Lists.TameWalks.{still_after, still_between}
use Rattle.sbp_world.proofs.Lists.UnrunTerms.{cut_stays}
use Rattle.sbp_world.proofs.Lists.Walks.{Walks}
use Rattle.sbp_world.proofs.Common.{delivers}

apart_at : (wild : ℕ → Bool) (i : ℕ) → wild i ≡ false → (past : List Moment) → PassLaw wild past → Rises past → Begins i past → ((n k : ℕ) → ends past i n ≤ k → taken_at past i n k ≡ None) → AreCutApart past i
apart_at wild i own past passes rises begins untaken later before is n k slot cut unended held current list number opened there =
    let still = subst (PassLaw wild) (sym is) passes in
    open_apart wild i own later before still (subst Rises (sym is) rises) (subst (Begins i) (sym is) begins)
    (subst (λ ms. (terms ms).generation 0 ≤ (terms before).generation (suc i)) (sym is) current) n k slot
    (untaken_since wild i own later before still n k cut unended (subst (λ ms. (m l : ℕ) → ends ms i m ≤ l → taken_at ms i m l ≡ None) (sym is) untaken)) held (cut_stays later before i n cut) list number slot
    (subst (λ ms. IsOpen ms i list) (sym is) opened) (ap (λ ms. prepared_in ms i slot) is ∙ there) refl

abbrev AllApart : (ℕ → Bool) → List Moment → WorldState → Type 0
AllApart wild ms w = (i : ℕ) → i < length w.initiators → wild i ≡ false → AreCutApart ms i

apart_walk : (wild : ℕ → Bool) (units ready : ℕ) → 0 < units → (start : List Disk) → Walks wild units ready start Grounds AreUntaken (AllApart wild)
apart_walk wild units ready has start past s later t step p i b own =
    apart_at wild i own (hist later t.world) step.reaches.kept.passes (rises_of later t.world step.reaches.holds.sound.stands (hist later t.world) refl) (step.known_then.begins i b)
    ((step.so_far_then i own) i b (step.reaches.calm i own))

first_apart : (wild : ℕ → Bool) (line : ℕ) (run : Run) → AllApart wild (moments_behind line run []) (beginning run).world
first_apart wild line run i b own later before is n k slot cut unended held current list number opened there =
    false≢true (subst (λ ms. is_cut ms i n ≡ true) is (cut_stays later before i n cut))

pub cut_apart_law : Always Grounds → Under (WhereTameOrFew AreUntaken) → Under (WhereTameOrFew AllCutApart)
cut_apart_law grounds untaken = record {
  after_lines = λ line run r has small size so_far tame. still_after IsTameOrFew tame_or_few_before Grounds AreUntaken AllApart grounds untaken apart_walk first_apart line run r has small size so_far tame;
  between = λ line run r has small size next most told m so_far tame.
      still_between IsTameOrFew tame_or_few_before Grounds AreUntaken AllApart grounds untaken apart_walk first_apart line run r has small size next (more_deliveries most) (delivers most) told m so_far tame;
}
