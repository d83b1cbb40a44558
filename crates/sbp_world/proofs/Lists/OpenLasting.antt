-- In every run with what open lists stand on, they are as the laws of lists need them.
use Rattle.sbp_world.proofs.Words.Std.{◌≡◌, ◌∙◌, refl, sym, ap, subst, ℕ, ◌<◌, ◌≤◌, List, [], ◌∷◌, ◌++◌, map, length, Option, Some}
use Rattle.sbp_world.proofs.Words.Wire.{SerialsCount, Event, Moment, asked, said, Sending, terms}
use Rattle.sbp_world.proofs.Words.Target.{Disk, Told}
use Rattle.sbp_world.proofs.Words.World.{history_of, ready_logins, Run, after, beginning, MayAll, after_all, Scene, WorldState, begun, IsRun, more_deliveries, MomentsLaw, PointersLaw, CaughtBetweenLaw, CaughtLaw, AreListed, ArePlaced, ListedLaw}
use Rattle.sbp_journal.specs.declared.note.Note.TheVariants as notes
use Rattle.sbp_world.proofs.Agents.Management.Holding.{was_sent}
use Rattle.sbp_world.proofs.Agents.Management.Still.{hist}
use Rattle.sbp_world.proofs.Agents.Holders.{holders_between_law, holders_law}
use Rattle.sbp_world.proofs.Hosts.Lasting.{lasting_law}
use Rattle.sbp_world.proofs.Hosts.Remaining.{remains}
use Rattle.sbp_world.proofs.Hosts.SentMoments.{sent_below, serials_from}
use Rattle.sbp_world.proofs.Hosts.Runs.{count_after, count_between, run_law}
use Rattle.sbp_world.proofs.Lists.OpenFresh.{never_new}
use Rattle.sbp_world.proofs.Lists.OpenOwners.{came_from}
use Rattle.sbp_world.proofs.Lists.OpenPointed.{AllCome, AllNew, are_listed}
use Rattle.sbp_world.proofs.Lists.OpenRuns.{Facts}
use Rattle.sbp_world.proofs.Lists.OpenWires.{wire_after, wire_between}
use Rattle.sbp_world.proofs.Lists.OpenProved.{After, facts, facts_at, had_after, had_between, opens_law, were_after}
use Rattle.sbp_world.proofs.Common.{delivers}

-- ---- a packet that was sent stays so
module _ (past : List Moment) (wire : SerialsCount past) where
  pub lasts : (later earlier : List Moment) (serial : ℕ) (sent : Sending) → later ++ said (notes.Got serial) ∷ earlier ≡ past → (terms earlier).sent serial ≡ Some sent → (terms past).sent serial ≡ Some sent
  lasts later earlier serial sent e f = by (subst SerialsCount (sym e) wire)
    where
      joined : (a : List Moment) → (a ++ said (notes.Got serial) ∷ []) ++ earlier ≡ a ++ said (notes.Got serial) ∷ earlier
      joined [] = refl
      joined (m ∷ a) = ap (λ ms. m ∷ ms) (joined a)

      by : SerialsCount (later ++ said (notes.Got serial) ∷ earlier) → (terms past).sent serial ≡ Some sent
      by s =
          let all = subst SerialsCount (sym (joined later)) s in
          let r = remains (later ++ said (notes.Got serial) ∷ []) earlier all in
          subst (λ ms. (terms ms).sent serial ≡ Some sent) (joined later ∙ e) (r.sent serial (sent_below earlier serial sent (serials_from (later ++ said (notes.Got serial) ∷ []) earlier all) f) ∙ f)

-- ---- a packet that comes
comes : (units logins : ℕ) (has : 0 < units) (start : List Disk) (past : List Moment) (w : WorldState) → Facts units logins has start past w → AllCome (hist past w) w
comes units logins has start past w f serial sent found packet place access judged bar demand =
    let c = came_from units logins start w f.holds f.held serial sent found packet place access judged bar demand in
    record { read = c.read; from_is = c.from_is; inside = c.inside; current = c.current; sent_is = was_sent w f.holds.sound.stands serial sent found }

-- a write that the target finds new
news : (units logins : ℕ) (has : 0 < units) (start : List Disk) (past : List Moment) (w : WorldState) → Facts units logins has start past w → AllNew (hist past w) w
news units logins has start past w f serial sent found to_is label part calm packet judged current =
    never_new w f.holds.sound.stands serial sent found to_is label part calm packet judged current

-- ---- runs

module _ (pointers_law : PointersLaw) (moments_law : MomentsLaw) (caught_law : CaughtLaw) (caught_between_law : CaughtBetweenLaw) (line : ℕ) (run : Run) (r : IsRun run) (has : 0 < run.units) (small : run.units ≤ 4) (size : length run.start.disks ≡ run.units) where
  abbrev last : Scene
  last = after (beginning run) run.entries

  abbrev past : List Moment
  past = history_of line run

  abbrev known : After line run r.few has small size run.entries last.world
  known = were_after line run r.few has small size run.entries r.short r.entries r.lines

  inside : (i : ℕ) → i < length last.world.initiators → i < run.initiators
  inside i b = subst (λ n. i < n) (count_after run run.entries) b

  pub listed_after : ArePlaced past last.world → AreListed past last.world
  listed_after placed =
      are_listed run.start.disks past last.world (opens_law.after_lines line run r has small size) placed
      (holders_law line run r.few has small size r.short r.entries r.lines)
      (caught_law line run r.few has small size r.short r.entries r.lines)
      (λ i b. moments_law.after_lines line run r i (inside i b))
      (λ i b. pointers_law.after_lines line run r i (inside i b))
      (λ i b. (run_law.rows line run r i (inside i b)).rows)
      (λ i n b. (lasting_law.lasts line run r i (inside i b) [] past refl).linked_in n)
      (lasts past (wire_after line run r has small size).serials)
      (wire_after line run r has small size)
      (had_after line run r has small size)
      (let k = known in subst (λ ms. AllCome ms last.world) k.is (comes run.units (ready_logins run.initiators run.ready) has run.start.disks k.past last.world (facts line run r.few has small size run.entries r.short r.entries r.lines k.past (length run.entries) k.holds k.is)))
      (let k = known in subst (λ ms. AllNew ms last.world) k.is (news run.units (ready_logins run.initiators run.ready) has run.start.disks k.past last.world (facts line run r.few has small size run.entries r.short r.entries r.lines k.past (length run.entries) k.holds k.is)))

  module _ (next : ℕ) (most : Option ℕ) (told : List (Option Told)) (m : MayAll told (begun last)) where
    abbrev end : WorldState
    end = (after_all told (begun last)).world

    abbrev event : Event
    event = more_deliveries most

    abbrev now : List Moment
    now = map said end.fresh ++ asked next event ∷ past

    inside_end : (i : ℕ) → i < length end.initiators → i < run.initiators
    inside_end i b = inside i (subst (λ n. i < n) (count_between told last) b)

    pub listed_between : ArePlaced now end → AreListed now end
    listed_between placed =
        are_listed run.start.disks now end (opens_law.between line run r has small size next event (delivers most) told m) placed
        (holders_between_law line run r.few has small size r.short r.entries r.lines next event (delivers most) told m)
        (caught_between_law line run r.few has small size r.short r.entries r.lines next event (delivers most) told m)
        (λ i b. moments_law.between line run r next most told m i (inside_end i b))
        (λ i b. pointers_law.between line run r next most told m i (inside_end i b))
        (λ i b. (run_law.between line run r next most told m i (inside_end i b)).rows)
        (λ i n b. (lasting_law.between line run r next most told m i (inside_end i b) [] now refl).linked_in n)
        (lasts now (wire_between line run r has small size next event (delivers most) told m).serials)
        (wire_between line run r has small size next event (delivers most) told m)
        (had_between line run r has small size next event (delivers most) told m)
        (let k = known in subst (λ ms. AllCome (map said end.fresh ++ asked next event ∷ ms) end) k.is (comes run.units (ready_logins run.initiators run.ready) has run.start.disks (asked next event ∷ hist k.past last.world) end (facts_at line run r.few has small size run.entries r.short r.entries r.lines k.past (length run.entries) k.holds k.is next event (delivers most) told m)))
        (let k = known in subst (λ ms. AllNew (map said end.fresh ++ asked next event ∷ ms) end) k.is (news run.units (ready_logins run.initiators run.ready) has run.start.disks (asked next event ∷ hist k.past last.world) end (facts_at line run r.few has small size run.entries r.short r.entries r.lines k.past (length run.entries) k.holds k.is next event (delivers most) told m)))

pub listed_law : PointersLaw → MomentsLaw → CaughtLaw → CaughtBetweenLaw → ListedLaw
listed_law pointers moments caught caught_between = record {
  after_lines = λ line run r has small size. listed_after pointers moments caught caught_between line run r has small size;
  between = λ line run r has small size next most told m. listed_between pointers moments caught caught_between line run r has small size next most told m;
}
