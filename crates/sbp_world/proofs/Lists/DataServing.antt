-- The writes of answers were served in turn, and are in sequence, in every run in which no initiator injected packets, or few logins were given, where lists were open as they should be before.
use Rattle.sbp_world.proofs.Words.Std.{◌≡◌, ◌∙◌, sym, ap, subst, ◌<◌, ◌≤◌, ℕ, List, ◌∷◌, ◌++◌, map, length, Option, same_Some}
use Rattle.sbp_world.proofs.Words.Wire.{Event, Moment, asked, said, SerialsCount, Sending, terms}
use Rattle.sbp_world.proofs.Words.Target.{Told}
use Rattle.sbp_world.proofs.Words.Laws.{injectors}
use Rattle.sbp_world.proofs.Words.World.{UnderFrom, history_of, Run, after, beginning, MayAll, after_all, IsOfWire, Scene, WorldState, begun, IsRun, more_deliveries, Under, WhereTameOrFew, AllEndSo, DataGotsLaw, ServedGotLaw, WasGot, DataSequenceLaw, DataServedLaw, AllDataSo, IsDataWrite, IsCalm, OpenBefore, OpenBetween, IsTameOrFew, AllStatuses, IsToHost}
use Rattle.sbp_world.proofs.Wire.Entries.{once_behind}
use Rattle.sbp_world.proofs.Wire.Starts.{laws_of}
use Rattle.sbp_world.proofs.Agents.Management.Still.{hist}
use Rattle.sbp_world.proofs.Hosts.Quadlets.{source_law}
use Rattle.sbp_world.proofs.Hosts.Runs.{count_after, count_between}
use Rattle.sbp_world.proofs.Hosts.Statuses.Runs.{taking_law}
use Rattle.sbp_world.proofs.Lists.DataClosed.{IsSound, are_served}
use Rattle.sbp_world.proofs.Lists.DataGots.{gots_so}
use Rattle.sbp_world.proofs.Lists.DataSequences.{in_sequence}
use Rattle.sbp_world.proofs.Lists.DataShut.{was_got}
use Rattle.sbp_world.proofs.Lists.SlotShut.{AllApart, apart_between, apart_of}
use Rattle.sbp_world.proofs.Lists.Histories.{after_lines, between}
use Rattle.sbp_world.proofs.Lists.OpenProved.{After, facts_at, were_after}
use Rattle.sbp_world.proofs.Lists.StatusRuns.{delivering, honest_of, rises_of}
use Rattle.sbp_world.proofs.Lists.StatusKnown.{IsKnown}
use Rattle.sbp_world.proofs.Common.{delivers}

module _ (data_so : UnderFrom (λ start. WhereTameOrFew (AllDataSo start))) (ends_so : Under AllEndSo) (statuses : Under (WhereTameOrFew AllStatuses)) (line : ℕ) (run : Run) (r : IsRun run) (has : 0 < run.units) (small : run.units ≤ 4) (size : length run.start.disks ≡ run.units) where
  abbrev last : Scene
  last = after (beginning run) run.entries

  abbrev stood : After line run r.few has small size run.entries last.world
  stood = were_after line run r.few has small size run.entries r.short r.entries r.lines

  abbrev past : List Moment
  past = history_of line run

  pub sound_after : OpenBefore line run run.entries → IsTameOrFew past → (i : ℕ) → i < length last.world.initiators → (calm : IsCalm past i) → IsSound run.start.disks (injectors past) i calm past
  sound_after so_far tame i b calm =
      let k = stood in
      record {
        passes = (after_lines (injectors past) line run r has small size (λ j own. so_far) (λ j own. own)).law;
        rises = rises_of k.past last.world k.holds.sound.stands past k.is;
        serials = (subst IsOfWire k.is (laws_of k.past last.world k.holds.sound.stands)).serials;
        each = data_so.after_lines line run r has small size so_far tame i b calm;
        ends_so = ends_so.after_lines line run r has small size so_far i b calm;
        once = once_behind last.world k.holds.sound.stands past k.is;
        taken = (statuses.after_lines line run r has small size so_far tame i b calm).taken;
        honest = honest_of k.past last.world k.holds.sound.stands past k.is;
      }

  pub known_after : OpenBefore line run run.entries → (i : ℕ) → i < length last.world.initiators → IsKnown (injectors past) past i
  known_after so_far i b =
      let k = stood in
      let wire = subst IsOfWire k.is (laws_of k.past last.world k.holds.sound.stands) in
      let inside : i < run.initiators = subst (λ n. i < n) (count_after run run.entries) b in
      record {
        passes = (after_lines (injectors past) line run r has small size (λ j own. so_far) (λ j own. own)).law;
        takings = (taking_law.takings line run r i inside).taken;
        sources = source_law.sources line run r i inside;
        rises = rises_of k.past last.world k.holds.sound.stands past k.is;
        judged = wire.judged;
        serials = wire.serials;
      }

  module _ (next : ℕ) (most : Option ℕ) (told : List (Option Told)) (m : MayAll told (begun last)) where
    abbrev event : Event
    event = more_deliveries most

    abbrev end : WorldState
    end = (after_all told (begun last)).world

    abbrev now : List Moment
    now = map said end.fresh ++ asked next event ∷ past

    pub sound_between : OpenBetween line run next event told → IsTameOrFew now → (i : ℕ) → i < length end.initiators → (calm : IsCalm now i) → IsSound run.start.disks (injectors now) i calm now
    sound_between so_far tame i b calm =
        let k = stood in
        let x = facts_at line run r.few has small size run.entries r.short r.entries r.lines k.past (length run.entries) k.holds k.is next event (delivers most) told m in
        let is : map said end.fresh ++ asked next event ∷ hist k.past last.world ≡ now = ap (λ ms. map said end.fresh ++ asked next event ∷ ms) k.is in
        let before = asked next event ∷ hist k.past last.world in
        record {
          passes = (between (injectors now) line run r has small size next event (delivers most) told m (λ j own. so_far) (λ j own. own)).law;
          rises = rises_of before end x.holds.sound.stands now is;
          serials = (subst IsOfWire is (laws_of before end x.holds.sound.stands)).serials;
          each = data_so.between line run r has small size next most told m so_far tame i b calm;
          ends_so = ends_so.between line run r has small size next most told m so_far i b calm;
          once = once_behind end x.holds.sound.stands now is;
          taken = (statuses.between line run r has small size next most told m so_far tame i b calm).taken;
          honest = honest_of before end x.holds.sound.stands now is;
        }

    pub known_between : OpenBetween line run next event told → (i : ℕ) → i < length end.initiators → IsKnown (injectors now) now i
    known_between so_far i b =
        let k = stood in
        let x = facts_at line run r.few has small size run.entries r.short r.entries r.lines k.past (length run.entries) k.holds k.is next event (delivers most) told m in
        let is : map said end.fresh ++ asked next event ∷ hist k.past last.world ≡ now = ap (λ ms. map said end.fresh ++ asked next event ∷ ms) k.is in
        let before = asked next event ∷ hist k.past last.world in
        let wire = subst IsOfWire is (laws_of before end x.holds.sound.stands) in
        let inside : i < run.initiators = subst (λ n. i < n) (count_between told last ∙ count_after run run.entries) b in
        record {
          passes = (between (injectors now) line run r has small size next event (delivers most) told m (λ j own. so_far) (λ j own. own)).law;
          takings = (taking_law.between line run r next most told m i inside).taken;
          sources = source_law.between line run r next event told (delivering event told (delivers most)) m i inside;
          rises = rises_of before end x.holds.sound.stands now is;
          judged = wire.judged;
          serials = wire.serials;
        }

pub data_served_law : UnderFrom (λ start. WhereTameOrFew (AllDataSo start)) → Under AllEndSo → Under (WhereTameOrFew AllStatuses) → DataServedLaw
data_served_law data_so ends_so statuses = record {
  after_lines = λ line run r has small size so_far tame i b calm.
      are_served run.start.disks (injectors (history_of line run)) i calm (history_of line run) (sound_after data_so ends_so statuses line run r has small size so_far tame i b calm);
  between = λ line run r has small size next most told m so_far tame i b calm.
      are_served run.start.disks (injectors (map said (after_all told (begun (after (beginning run) run.entries))).world.fresh ++ asked next (more_deliveries most) ∷ history_of line run)) i calm _
      (sound_between data_so ends_so statuses line run r has small size next most told m so_far tame i b calm);
}

pub data_sequence_law : UnderFrom (λ start. WhereTameOrFew (AllDataSo start)) → Under AllEndSo → Under (WhereTameOrFew AllStatuses) → DataSequenceLaw
data_sequence_law data_so ends_so statuses = record {
  after_lines = λ line run r has small size so_far tame i b calm.
      in_sequence run.start.disks (injectors (history_of line run)) i calm (history_of line run) (sound_after data_so ends_so statuses line run r has small size so_far tame i b calm);
  between = λ line run r has small size next most told m so_far tame i b calm.
      in_sequence run.start.disks (injectors (map said (after_all told (begun (after (beginning run) run.entries))).world.fresh ++ asked next (more_deliveries most) ∷ history_of line run)) i calm _
      (sound_between data_so ends_so statuses line run r has small size next most told m so_far tame i b calm);
}

pub data_gots_law : UnderFrom (λ start. WhereTameOrFew (AllDataSo start)) → Under AllEndSo → Under (WhereTameOrFew AllStatuses) → DataGotsLaw
data_gots_law data_so ends_so statuses = record {
  after_lines = λ line run r has small size so_far tame i b calm.
      gots_so run.start.disks (injectors (history_of line run)) i calm (history_of line run) (known_after data_so ends_so statuses line run r has small size so_far i b) (sound_after data_so ends_so statuses line run r has small size so_far tame i b calm);
  between = λ line run r has small size next most told m so_far tame i b calm.
      gots_so run.start.disks (injectors (map said (after_all told (begun (after (beginning run) run.entries))).world.fresh ++ asked next (more_deliveries most) ∷ history_of line run)) i calm _
      (known_between data_so ends_so statuses line run r has small size next most told m so_far i b) (sound_between data_so ends_so statuses line run r has small size next most told m so_far tame i b calm);
}

-- ---- what was served was got

got_by : (past : List Moment) (i : ℕ) → SerialsCount past → AllApart past i → (serial slot : ℕ) (packet : Sending) → IsToHost past i serial packet → IsDataWrite packet.bytes slot → 0 < (terms past).served serial → WasGot past serial
got_by past i c apart serial slot packet t x l = was_got i serial slot packet t.to_host x past c (λ q e. same_Some q packet (sym e ∙ t.is)) apart l

pub served_got_law : UnderFrom (λ start. WhereTameOrFew (AllDataSo start)) → Under AllEndSo → Under (WhereTameOrFew AllStatuses) → ServedGotLaw
served_got_law data_so ends_so statuses = record {
  after_lines = λ line run r has small size so_far tame i b calm serial slot packet t x l.
      got_by (history_of line run) i (known_after data_so ends_so statuses line run r has small size so_far i b).serials
      (apart_of line run r i (subst (λ n. i < n) (count_after run run.entries) b)) serial slot packet t x l;
  between = λ line run r has small size next most told m so_far tame i b calm serial slot packet t x l.
      let last = after (beginning run) run.entries in
      got_by _ i (known_between data_so ends_so statuses line run r has small size next most told m so_far i b).serials
      (apart_between line run r next (more_deliveries most) told (delivering (more_deliveries most) told (delivers most)) m i (subst (λ n. i < n) (count_between told last ∙ count_after run run.entries) b)) serial slot packet t x l;
}
