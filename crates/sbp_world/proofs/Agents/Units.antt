-- In every run the units of the terms are the target's, with what their media hold.
use Rattle.sbp_world.proofs.Words.Std.{arith, ◌≡◌, ◌∙◌, refl, sym, ap, subst, ℕ, zero, suc, ◌+◌, ◌^◌, ◌<◌, ◌≤◌, List, [], ◌∷◌, ◌++◌, length, map, length-replicate}
use Rattle.sbp_world.proofs.Words.Wire.{Moment, asked, said}
use Rattle.sbp_world.proofs.Words.Target.{Disk, new_unit, plain_in}
use Rattle.sbp_world.proofs.Words.Laws.{first_units, unit_at, target_at}
use Rattle.sbp_world.proofs.Words.World.{moments_behind, happens, new_world, ready_logins, AreEntries, Entry, Run, after, beginning, after_all, AreLines, WorldState, begun, AreUnitsAt, UnitsBetweenLaw, UnitsLaw}
use Rattle.std.specs.Prelude.{replicate}
use Rattle.sbp_world.proofs.Wire.ToldBytes.{happened_fits}
use Rattle.sbp_world.proofs.Agents.Management.Lines.{opens}
use Rattle.sbp_world.proofs.Agents.Management.Runs.{holds_after, no_repeats, not_reset}
use Rattle.sbp_world.proofs.Agents.Management.Still.{hist}
use Rattle.sbp_world.proofs.Agents.Holders.{seats_after}
use Rattle.sbp_world.proofs.Agents.Seating.{opened as opened_seats}
use Rattle.sbp_world.proofs.Agents.UnitsLines.{all_units, line_units, opened}
use Rattle.sbp_world.proofs.Agents.UnitsRun.{Match}
use Rattle.sbp_world.proofs.Hosts.Runs.{are_told}

-- ---- a new world

first_each : (start : List Disk) (count unit : ℕ) → length start ≡ count → unit_at (first_units start) unit ≡ plain_in (replicate count new_unit) start unit
first_each [] zero unit e = refl
first_each [] (suc count) unit e = absurd (omega (arith, e))
first_each (disk ∷ start) zero unit e = absurd (omega (arith, e))
first_each (disk ∷ start) (suc count) zero e = refl
first_each (disk ∷ start) (suc count) (suc unit) e = first_each start count unit (omega (arith, e))

first_count : (start : List Disk) → length (first_units start) ≡ length start
first_count [] = refl
first_count (disk ∷ start) = ap suc (first_count start)

first_match : (start : List Disk) (count : ℕ) → length start ≡ count → Match (first_units start) (replicate count new_unit) start
first_match start count e =
    let size : length (replicate count new_unit) ≡ count = length-replicate count new_unit in
    record { count = first_count start ∙ e ∙ sym size; media = e ∙ sym size; each = λ unit. first_each start count unit e }

-- the units of the terms behind a history are the target's
abbrev pub AreThe : List Disk → List Moment → WorldState → List Disk → Type 0
AreThe start ms w disks = Match (target_at start ms).units w.target.units disks

first_are : (line : ℕ) (run : Run) → length run.start.disks ≡ run.units → AreThe run.start.disks (moments_behind line run []) (beginning run).world run.start.disks
unfolding new_world
first_are line run size = first_match run.start.disks run.units size

-- ---- runs
pub units_after : (line : ℕ) (run : Run) (entries : List Entry) → run.initiators ≤ 4 → 0 < run.units → run.units ≤ 4 → length run.start.disks ≡ run.units → length entries + 2 < 2 ^ 32 → AreEntries (beginning run) entries → AreLines run entries → (let s = after (beginning run) entries in AreThe run.start.disks (moments_behind line run entries) s.world s.media.disks)
units_after line run [] few has small size short all fit = first_are line run size
units_after line run (e ∷ before) few has small size short all fit =
    let b = holds_after line run before few has small size (omega arith) all.1 fit.1 in
    let start = run.start.disks in
    let s = after (beginning run) before in
    let x = happens e.line e.event e.told s in
    let m = subst (λ ms. AreThe start ms s.world s.media.disks) (sym b.is) (units_after line run before few has small size (omega arith) all.1 fit.1) in
    let now = line_units run.units (ready_logins run.initiators run.ready) has start e.line e.event e.told s fit.0 (happened_fits e.event e.told s all.0.may) b.holds
    (seats_after line run before few has small size (omega arith) all.1 fit.1) m in
    let past_is : hist (asked e.line e.event ∷ hist b.past s.world) x.world ≡ moments_behind line run (e ∷ before) =
    ap (λ ns. map said ns ++ asked e.line e.event ∷ hist b.past s.world) (sym all.0.notes_are)
    ∙ ap (λ ms. map said e.notes ++ asked e.line e.event ∷ ms) b.is in
    subst (λ ms. AreThe start ms x.world x.media.disks) past_is now

are_units : (start : List Disk) (ms : List Moment) (w : WorldState) (disks : List Disk) → AreThe start ms w disks → AreUnitsAt start ms w.target disks
are_units start ms w disks m = record { count = m.count; each = m.each }

pub units_law : UnitsLaw
units_law line run few has small size short all fit =
    let s = after (beginning run) run.entries in
    are_units run.start.disks (moments_behind line run run.entries) s.world s.media.disks (units_after line run run.entries few has small size short all fit)

pub units_between_law : UnitsBetweenLaw
units_between_law line run few has small size short all fit next event d told may =
    let r = holds_after line run run.entries few has small size short all fit in
    let start = run.start.disks in
    let s = after (beginning run) run.entries in
    let logins = ready_logins run.initiators run.ready in
    let begins = opens run.units logins has start next event s.world (not_reset event d) r.holds in
    let repeats = no_repeats event (hist r.past s.world) next d in
    let seats = opened_seats run.units logins has start s.world (seats_after line run run.entries few has small size short all fit) in
    let m = subst (λ ms. AreThe start ms s.world s.media.disks) (sym r.is) (units_after line run run.entries few has small size short all fit) in
    let now = all_units run.units logins has start told (are_told told s may) (begun s) begins seats (opened run.units logins has start r.past next event s.world s.media.disks m) repeats in
    let x = after_all told (begun s) in
    are_units start (map said x.world.fresh ++ asked next event ∷ moments_behind line run run.entries) x.world x.media.disks
    (subst (λ ms. AreThe start (map said x.world.fresh ++ asked next event ∷ ms) x.world x.media.disks) r.is now)
