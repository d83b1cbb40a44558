-- The writes of answers that agents wait for are of the next chunks of the buffers of their ORBs, in every run in which lists were open as they should be before.
use Rattle.sbp_world.proofs.Words.Std.{◌≡◌, sym, ap, subst, ℕ, ◌+◌, ◌<◌, ◌≤◌, Bool, false, List, ◌∷◌, ◌++◌, map, length, Option, Some}
use Rattle.sbp_world.proofs.Words.Wire.{Event, Moment, asked, said}
use Rattle.sbp_world.proofs.Words.Target.{Disk, Told}
use Rattle.sbp_world.proofs.Words.Laws.{injectors, agent_at, over, target_at}
use Rattle.sbp_world.proofs.Words.World.{history_of, ready_logins, Run, after, beginning, MayAll, after_all, Scene, WorldState, begun, initiator_at, DeliversMore, HoldsOrbs, IsRun, AreNextChunks, DataWritesLaw, IsNextChunk, IsCalm, OpenAfter, OpenBefore, OpenBehind, OpenBetween, OpenLists, machine_at, OpensLaw}
use Rattle.sbp_world.proofs.Agents.Management.Holding.{Holding}
use Rattle.sbp_world.proofs.Agents.Management.Still.{hist}
use Rattle.sbp_world.proofs.Hosts.Orbs.{orbs_law}
use Rattle.sbp_world.proofs.Hosts.Runs.{count_after, count_between}
use Rattle.sbp_world.proofs.Lists.Calm.{asked_calm, calm_before}
use Rattle.sbp_world.proofs.Lists.DataPieces.{next_chunk}
use Rattle.sbp_world.proofs.Lists.Kept.{Kept}
use Rattle.sbp_world.proofs.Lists.OpenProved.{opens_law}
use Rattle.sbp_world.proofs.Lists.RunSites.{more_by}
use Rattle.sbp_world.proofs.Lists.Runs.{EarlyAfter, KeptAfter, early_after, holds_at, kept_after, kept_told, lists_at, lists_here, site, site_at}
use Rattle.sbp_world.proofs.Lists.Sites.{Site}

abbrev opened : (wild : ℕ → Bool) → (i : ℕ) → wild i ≡ false → OpensLaw
opened wild i own = opens_law

-- at a place, of the initiators that injected no packets so far
module _ (units ready : ℕ) (has : 0 < units) (ms past : List Moment) (lines : ℕ) (w : WorldState) where
  here : (start : List Disk) → (is : hist past w ≡ ms) → Holding units ready start past lines w → Site start past w → ((i : ℕ) → injectors ms i ≡ false → OpenLists (hist past w) w) → ((i : ℕ) → i < length w.initiators → HoldsOrbs ms i (initiator_at w i)) → Kept (injectors ms) past (machine_at w) w → AreNextChunks start ms w
  here start is h s lists orbs kept =
      λ place serial b calm answering waits.
      subst (λ x. IsNextChunk x w place serial) is
      (next_chunk (injectors ms) units ready has start w h s lists (λ i own. subst (λ x. IsCalm x i) (sym is) own) (λ i c. subst (λ x. HoldsOrbs x i (initiator_at w i)) (sym is) (orbs i c)) (λ p c. kept.on p c) place serial b calm answering
      (subst (λ x. (agent_at (over (target_at start x)) place).main ≡ Some serial) (sym is) waits))

module _ (line : ℕ) (run : Run) (r : IsRun run) (has : 0 < run.units) (small : run.units ≤ 4) (size : length run.start.disks ≡ run.units) where
  abbrev last : Scene
  last = after (beginning run) run.entries

  abbrev logins : ℕ
  logins = ready_logins run.initiators run.ready

  module _ (so_far : OpenBefore line run run.entries) (ends : OpenAfter line run run.entries) where
    abbrev wild_here : ℕ → Bool
    wild_here = injectors (history_of line run)

    chunks_after : AreNextChunks run.start.disks (history_of line run) last.world
    chunks_after =
        let k = kept_after wild_here (opened wild_here) line run r.few has small size run.entries r.short r.entries r.lines (λ i own. so_far) (λ i own. own) in
        here run.units logins has (history_of line run) k.past (length run.entries) last.world run.start.disks k.is k.holds
        (site wild_here (opened wild_here) line run r.few has small size run.entries r.short r.entries r.lines k.past (length run.entries) k.holds k.is)
        (lists_here wild_here (opened wild_here) line run r.few has small size run.entries r.short r.entries r.lines k.past (length run.entries) k.holds k.is (λ i own. ends))
        (λ i c. orbs_law.orbs line run r i (subst (λ n. i < n) (count_after run run.entries) c)) k.kept

  module _ (next : ℕ) (event : Event) (d : DeliversMore event) (told : List (Option Told)) (m : MayAll told (begun last)) (so_far : OpenBetween line run next event told) (now : OpenBehind (asked next event ∷ history_of line run) told (begun last)) where
    abbrev end : WorldState
    end = (after_all told (begun last)).world

    abbrev ms : List Moment
    ms = map said end.fresh ++ asked next event ∷ history_of line run

    abbrev wild : ℕ → Bool
    wild = injectors ms

    first_calm : (i : ℕ) → wild i ≡ false → IsCalm (history_of line run) i
    first_calm i own = asked_calm next event (history_of line run) i (calm_before (map said end.fresh) (asked next event ∷ history_of line run) i own)

    abbrev first : EarlyAfter wild (opened wild) line run r.few has small size run.entries last.world
    first = early_after wild (opened wild) line run r.few has small size run.entries r.short r.entries r.lines (λ i own. so_far.before) (λ i own. so_far.begins) first_calm

    abbrev before : KeptAfter wild (opened wild) line run r.few has small size run.entries last.world
    before = first.so_far

    ends_is : hist (asked next event ∷ hist before.past last.world) end ≡ ms
    ends_is = ap (λ x. map said end.fresh ++ asked next event ∷ x) before.is

    kept_there : Kept wild (asked next event ∷ hist before.past last.world) (machine_at end) end
    kept_there =
        (kept_told wild (opened wild) line run r.few has small size run.entries r.short r.entries r.lines before.past (length run.entries) before.holds before.is next event d (λ i own. so_far.before)
        (lists_here wild (opened wild) line run r.few has small size run.entries r.short r.entries r.lines before.past (length run.entries) before.holds before.is (λ i own. so_far.begins))
        (λ i own. subst (λ x. IsCalm x i) (sym before.is) (first_calm i own)) before.kept first.early told m (λ i own. so_far.goes) (λ i own. subst (λ x. IsCalm x i) (sym ends_is) own)).kept_there

    orbs_there : (i : ℕ) → i < length end.initiators → HoldsOrbs ms i (initiator_at end i)
    orbs_there i c =
        let inside : i < run.initiators = subst (λ n. i < n) (count_after run run.entries) (subst (λ n. i < n) (count_between told last) c) in
        more_by (λ e. HoldsOrbs (map said end.fresh ++ asked next e ∷ history_of line run) i (initiator_at end i)) (λ most. orbs_law.between line run r next most told m i inside) event d

    chunks_between : AreNextChunks run.start.disks ms end
    chunks_between =
        here run.units logins has ms (asked next event ∷ hist before.past last.world) (length run.entries + 1) end run.start.disks ends_is
        (holds_at wild (opened wild) line run r.few has small size run.entries r.short r.entries r.lines before.past (length run.entries) before.holds before.is next event d told m)
        (site_at wild (opened wild) line run r.few has small size run.entries r.short r.entries r.lines before.past (length run.entries) before.holds before.is next event d told m)
        (lists_at wild (opened wild) line run r.few has small size run.entries r.short r.entries r.lines before.past (length run.entries) before.holds before.is next event d told (λ i own. now))
        orbs_there kept_there

pub data_writes_law : DataWritesLaw
data_writes_law = record {
  after_lines = λ line run r has small size so_far ends. chunks_after line run r has small size so_far ends;
  between = λ line run r has small size next event d told m so_far now. chunks_between line run r has small size next event d told m so_far now;
}
