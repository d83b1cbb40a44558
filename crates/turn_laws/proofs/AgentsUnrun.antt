-- At each place of a run in which lists were open as they should be, an agent that waits for more of its ORB has one that has not run: how the ORBs of its list ran is what it goes along.
use Rattle.std.proofs.Common.{◌≡◌, ◌∙◌, sym, ap, subst, ◌<◌, ◌≤◌, ℕ, Bool, true, false, List, ◌∷◌, ◌++◌, map, length, Option, Some, None}
use Rattle.agent_laws.specs.Along.Along.{Knows, Progress}
use Rattle.agent_laws.specs.Along.Lists.{OrbList}
use Rattle.command_agent.specs.Machine.{Machine, awaits_run}
use Rattle.command_agent.specs.declared.phase.Phase.{Phase}
use Rattle.command_agent.specs.declared.phase.Phase.TheVariants as phases
use Rattle.rbc_disk.specs.Runs.{Told}
use Rattle.sbp_journal.specs.Run.{Moment, asked, said}
use Rattle.sbp_journal.specs.declared.event.Event.{Event}
use Rattle.sbp_laws.specs.Lawful.{injectors}
use Rattle.sbp_laws.specs.Terms.{ends, ran_status, runs}
use Rattle.sbp_world.specs.Histories.{history_of}
use Rattle.sbp_world.specs.Hosts.Runs.{IsRun, more_deliveries}
use Rattle.sbp_world.specs.Lists.Needs.{IsCalm, OpenBefore, OpenBetween, OpenLists, initiator_in, machine_at}
use Rattle.sbp_world.specs.Lists.Opens.{OpensLaw}
use Rattle.sbp_world.specs.Runs.{Run, after, beginning}
use Rattle.sbp_world.specs.Settling.{MayAll, after_all}
use Rattle.sbp_world.specs.Telling.{holder}
use Rattle.sbp_world.specs.Worlds.{Scene, WorldState, begun}
use Rattle.sbp_world.proofs.Agents.Management.Still.{hist}
use Rattle.sbp_world.proofs.Common.{untrue}
use Rattle.sbp_world.proofs.Lists.Calm.{asked_calm, calm_before}
use Rattle.sbp_world.proofs.Lists.Courses.{EveryPlace, more_than_one}
use Rattle.sbp_world.proofs.Lists.Kept.{Kept}
use Rattle.sbp_world.proofs.Lists.OpenProved.{opens_law}
use Rattle.sbp_world.proofs.Lists.Passing.{HasRun}
use Rattle.sbp_world.proofs.Lists.Runs.{EarlyAfter, KeptAfter, early_after, kept_after, kept_told, lists_here}
use Rattle.sbp_world.proofs.Lists.Told.{AgentOn}
use Rattle.sbp_world.proofs.Lists.UnrunLaws.{unrun_law}
use Rattle.turn_laws.proofs.AbortNamed.{awaits_open}

-- each agent that has a list open goes along it, by how its ORBs ran
abbrev pub AreOn : List Moment → WorldState → Type 0
AreOn ms w = (p : ℕ) → p < 8 → AgentOn (injectors ms) ms (holder w p) (machine_at w p)

none_has : (phase : Phase) (l : OrbList) (p : Progress) (m : Machine) → Knows l p phase m → awaits_run phase ≡ true → p.outcome ≡ None
none_has phases.Fetching l p m k e = k.unrun
none_has phases.ReadingTable l p m k e = k.awaits.unrun
none_has (phases.ReadingData wanted) l p m k e = k.awaits.unrun
none_has phase l p m k e = untrue e

pub awaited_unrun : (ms : List Moment) (w : WorldState) → AreOn ms w → (p n : ℕ) → p < 8 → awaits_run (machine_at w p).phase ≡ true → (holder w p).list ≡ Some n → IsCalm ms (initiator_in w p)
    → (let i = initiator_in w p in runs ms i n (ends ms i n) ≡ 0)
awaited_unrun ms w on p n b waits list calm =
    let i = initiator_in w p in
    let m = machine_at w p in
    let g = on p b (awaits_open m.phase waits) n list calm in
    let none = none_has m.phase _ g.progress m g.along.main waits in
    let ran : runs ms i n g.progress.ended ≡ 0 = subst (λ o. HasRun o (runs ms i n g.progress.ended) (ran_status ms i n g.progress.ended)) none (g.ran unrun_law) in
    ap (runs ms i n) (sym g.is) ∙ ran

-- ---- at each place
on_of : (ms past : List Moment) (w : WorldState) → hist past w ≡ ms → Kept (injectors ms) past (machine_at w) w → AreOn ms w
on_of ms past w is k p b = subst (λ x. AgentOn (injectors ms) x (holder w p) (machine_at w p)) is (k.on p b)

abbrev opened : (wild : ℕ → Bool) → (i : ℕ) → wild i ≡ false → OpensLaw
opened wild i own = opens_law

module _ (line : ℕ) (run : Run) (r : IsRun run) (has : 0 < run.units) (small : run.units ≤ 4) (size : length run.start.disks ≡ run.units) where
  abbrev last : Scene
  last = after (beginning run) run.entries

  on_after : OpenBefore line run run.entries → AreOn (history_of line run) last.world
  on_after so_far =
      let wild = injectors (history_of line run) in
      let k : KeptAfter wild (opened wild) line run r.few has small size run.entries last.world =
      kept_after wild (opened wild) line run r.few has small size run.entries r.short r.entries r.lines (λ i own. so_far) (λ i own. own) in on_of (history_of line run) k.past last.world k.is k.kept

  module _ (next : ℕ) (most : Option ℕ) (told : List (Option Told)) (m : MayAll told (begun last)) (so_far : OpenBetween line run next (more_deliveries most) told) where
    abbrev event : Event
    event = more_deliveries most

    abbrev end : WorldState
    end = (after_all told (begun last)).world

    abbrev ms : List Moment
    ms = map said end.fresh ++ asked next event ∷ history_of line run

    abbrev wild : ℕ → Bool
    wild = injectors ms

    first_calm : (i : ℕ) → wild i ≡ false → IsCalm (history_of line run) i
    first_calm i own = asked_calm next event (history_of line run) i (calm_before (map said end.fresh) (asked next event ∷ history_of line run) i own)

    first : EarlyAfter wild (opened wild) line run r.few has small size run.entries last.world
    first = early_after wild (opened wild) line run r.few has small size run.entries r.short r.entries r.lines (λ i own. so_far.before) (λ i own. so_far.begins) first_calm

    abbrev before : KeptAfter wild (opened wild) line run r.few has small size run.entries last.world
    before = first.so_far

    lists : (i : ℕ) → wild i ≡ false → OpenLists (hist before.past last.world) last.world
    lists = lists_here wild (opened wild) line run r.few has small size run.entries r.short r.entries r.lines before.past (length run.entries) before.holds before.is (λ i own. so_far.begins)

    now_is : hist (asked next event ∷ hist before.past last.world) end ≡ ms
    now_is = ap (λ x. map said end.fresh ++ asked next event ∷ x) before.is

    kept_between : Kept wild (asked next event ∷ hist before.past last.world) (machine_at end) end
    kept_between =
        (kept_told wild (opened wild) line run r.few has small size run.entries r.short r.entries r.lines before.past (length run.entries) before.holds before.is next event (more_than_one most) (λ i own. so_far.before) lists
        (λ i own. subst (λ x. IsCalm x i) (sym before.is) (first_calm i own)) before.kept first.early told m (λ i own. so_far.goes) (λ i own. subst (λ x. IsCalm x i) (sym now_is) own)).kept_there

    on_between : AreOn ms end
    on_between = on_of ms (asked next event ∷ hist before.past last.world) end now_is kept_between

pub on_everywhere : EveryPlace (λ start. AreOn)
on_everywhere = record {
  after_lines = λ line run r has small size so_far. on_after line run r has small size so_far;
  between = λ line run r has small size next most told m so_far. on_between line run r has small size next most told m so_far;
}
