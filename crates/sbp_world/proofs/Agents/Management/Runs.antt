-- In every run the terms of the target's management are its state.
use Rattle.sbp_world.proofs.Words.Std.{arith, ◌≡◌, ◌∙◌, sym, ap, subst, ℕ, suc, false, ◌+◌, ◌^◌, ◌<◌, ◌≤◌, List, [], ◌∷◌, ◌++◌, map, length, refl}
use Rattle.sbp_world.proofs.Words.Wire.{is_reset, Moment, asked, said, terms, Event}
use Rattle.sbp_world.proofs.Words.World.{moments_behind, happens, new_world, ready_logins, AreEntries, Entry, Run, after, beginning, after_all, WorldState, begun, AreLines, DeliversMore, IsManagementAt, TermsLaw}
use Rattle.sbp_journal.specs.declared.event.Event.TheVariants as events
use Rattle.sbp_world.proofs.Wire.ToldBytes.{happened_fits}
use Rattle.sbp_world.specs.Agents.Management.Terms.{BetweenLaw}
use Rattle.sbp_world.proofs.Agents.Management.Begins.{first_holds, first_past}
use Rattle.sbp_world.proofs.Agents.Management.Holding.{Holding}
use Rattle.sbp_world.proofs.Agents.Management.Lines.{all_heard, line_holds, opens}
use Rattle.sbp_world.proofs.Agents.Management.Still.{hist}
use Rattle.sbp_world.proofs.Hosts.Runs.{are_told}

pub record HoldsAfter (line : ℕ) (run : Run) (entries : List Entry) (w : WorldState) : Type 0 where
  pub past : List Moment
  pub holds : Holding run.units (ready_logins run.initiators run.ready) run.start.disks past (length entries) w
  pub is : hist past w ≡ moments_behind line run entries

holds_first : (line : ℕ) (run : Run) → run.initiators ≤ 4 → run.units ≤ 4 → length run.start.disks ≡ run.units → HoldsAfter line run [] (beginning run).world
unfolding new_world
holds_first line run few small size = record {
  past = first_past line run.initiators run.ready;
  holds = first_holds run.initiators run.ready run.units line run.start.disks few small size;
  is = refl;
}

pub holds_after : (line : ℕ) (run : Run) (entries : List Entry) → run.initiators ≤ 4 → 0 < run.units → run.units ≤ 4 → length run.start.disks ≡ run.units → length entries + 2 < 2 ^ 32 → AreEntries (beginning run) entries → AreLines run entries → HoldsAfter line run entries (after (beginning run) entries).world
holds_after line run [] few has small size short all fit = holds_first line run few small size
holds_after line run (e ∷ before) few has small size short all fit =
    let b = holds_after line run before few has small size (omega arith) all.1 fit.1 in
    let s = after (beginning run) before in
    record {
      past = asked e.line e.event ∷ (map said s.world.fresh ++ b.past);
      holds = subst (λ n. Holding run.units (ready_logins run.initiators run.ready) run.start.disks (asked e.line e.event ∷ (map said s.world.fresh ++ b.past)) n (happens e.line e.event e.told s).world) (let x : length before + 1 ≡ suc (length before) = omega arith in x)
          (line_holds run.units (ready_logins run.initiators run.ready) has run.start.disks e.line e.event e.told s fit.0 (happened_fits e.event e.told s all.0.may) (omega arith) b.holds);
      is = ap (λ ns. map said ns ++ asked e.line e.event ∷ (map said s.world.fresh ++ b.past)) (sym all.0.notes_are)
          ∙ ap (λ ms. map said e.notes ++ asked e.line e.event ∷ ms) b.is;
    }

pub terms_law : TermsLaw
terms_law line run few has small size short all fit =
    let r = holds_after line run run.entries few has small size short all fit in
    subst (λ ms. IsManagementAt run.start.disks ms (after (beginning run) run.entries).world.target) r.is r.holds.at

-- ---- between two deliveries of a line
pub not_reset : (event : Event) → DeliversMore event → is_reset event ≡ false
not_reset (events.Step count) d = refl
not_reset events.Settle d = refl
not_reset (events.Begin initiators ready) d = absurd d
not_reset (events.Act initiator action) d = absurd d
not_reset (events.Reset physical) d = absurd d
not_reset (events.See node) d = absurd d
not_reset (events.Deliver serial) d = absurd d
not_reset (events.Repeat serial) d = absurd d
not_reset (events.Lose serial) d = absurd d
not_reset (events.Timeout serial) d = absurd d
not_reset events.Tick d = absurd d
not_reset (events.Inject initiator bytes) d = absurd d
not_reset (events.Key unit key) d = absurd d

pub no_repeats : (event : Event) (ms : List Moment) (next : ℕ) → DeliversMore event → (terms (asked next event ∷ ms)).repeats ≡ false
no_repeats (events.Step count) ms next d = refl
no_repeats events.Settle ms next d = refl
no_repeats (events.Begin initiators ready) ms next d = absurd d
no_repeats (events.Act initiator action) ms next d = absurd d
no_repeats (events.Reset physical) ms next d = absurd d
no_repeats (events.See node) ms next d = absurd d
no_repeats (events.Deliver serial) ms next d = absurd d
no_repeats (events.Repeat serial) ms next d = absurd d
no_repeats (events.Lose serial) ms next d = absurd d
no_repeats (events.Timeout serial) ms next d = absurd d
no_repeats events.Tick ms next d = absurd d
no_repeats (events.Inject initiator bytes) ms next d = absurd d
no_repeats (events.Key unit key) ms next d = absurd d

pub between_law : BetweenLaw
between_law line run few has small size short all fit next event d told may =
    let r = holds_after line run run.entries few has small size short all fit in
    let s = after (beginning run) run.entries in
    let logins = ready_logins run.initiators run.ready in
    let opened = opens run.units logins has run.start.disks next event s.world (not_reset event d) r.holds in
    let h = all_heard run.units logins has run.start.disks told (are_told told s may) (begun s) opened (no_repeats event (hist r.past s.world) next d) in
    let w = (after_all told (begun s)).world in
    subst (λ ms. IsManagementAt run.start.disks (map said w.fresh ++ asked next event ∷ ms) w.target) r.is h.at
