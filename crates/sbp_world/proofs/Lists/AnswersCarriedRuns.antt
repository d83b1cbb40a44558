-- In every run in which no initiator injected packets, or few logins were given, where lists were open as they should be before, the answers of good statuses are what the data writes of their ORBs brought.
use Rattle.sbp_world.proofs.Words.Std.{ℕ, List, length, ◌∙◌, subst, ◌<◌, ◌∷◌, ◌++◌, map}
use Rattle.sbp_world.proofs.Words.Wire.{Moment, asked, said}
use Rattle.sbp_world.proofs.Words.Target.{Disk}
use Rattle.sbp_world.proofs.Words.Laws.{EachMoment, injectors}
use Rattle.sbp_world.proofs.Words.World.{WorldState, IsCalm, UnderFrom, history_of, after, beginning, after_all, begun, more_deliveries, GoodEndsLaw, AnswersBroughtLaw, Under, WhereTameOrFew, AllEndSo, AllDataSo, AllStatuses}
use Rattle.sbp_world.proofs.Lists.AnswersCarriedTaken.{WholeAt, all_brought, each_whole}
use Rattle.sbp_world.proofs.Hosts.AnswerRuns.{taken_law}
use Rattle.sbp_world.proofs.Hosts.Gathered.{gathered_law}
use Rattle.sbp_world.proofs.Lists.Sights.{sights_after, sights_between}
use Rattle.sbp_world.proofs.Lists.StatusLaws.{status_of_run_law}
use Rattle.sbp_world.proofs.Hosts.Runs.{count_after, count_between}
use Rattle.sbp_world.proofs.Lists.AnswersCarriedLines.{fit_after, fit_said, more_fit}
use Rattle.sbp_world.proofs.Lists.DataServing.{known_after, known_between, sound_after, sound_between}
use Rattle.sbp_world.proofs.Lists.ManageLaws as manage
use Rattle.sbp_world.proofs.Lists.SlotShut.{apart_between, apart_of}
use Rattle.sbp_world.proofs.Lists.StatusRuns.{delivering}
use Rattle.sbp_world.proofs.Common.{delivers}

-- each answer of a good status that an initiator takes which injected no packets
abbrev pub AllWhole : List Disk → List Moment → WorldState → Type 0
AllWhole start past w = (i : ℕ) → i < length w.initiators → (calm : IsCalm past i) → EachMoment (WholeAt start (injectors past) i calm) past

module _ (data_so : UnderFrom (λ start. WhereTameOrFew (AllDataSo start))) (ends_so : Under AllEndSo) (statuses : Under (WhereTameOrFew AllStatuses)) (good_ends : GoodEndsLaw) where
  pub whole_law : UnderFrom (λ start. WhereTameOrFew (AllWhole start))
  whole_law = record {
    after_lines = λ line run r has small size so_far tame i b calm.
        let H = history_of line run in
        let inside = subst (λ n. i < n) (count_after run run.entries) b in
        each_whole run.start.disks (injectors H) i calm H
        (record {
          sound = sound_after data_so ends_so statuses line run r has small size so_far tame i b calm;
          known = known_after data_so ends_so statuses line run r has small size so_far i b;
          apart = apart_of line run r i inside;
          wires = (manage.known_after line run r).wire.moments;
          sights = sights_after line run r;
          good = good_ends.after_lines line run r has small size so_far i b calm;
          of_one = (status_of_run_law statuses).places.after_lines line run r has small size so_far tame i b calm;
          fit = fit_after line run r.lines;
        })
        (λ later before n k answer e. record { held = taken_law.answers line run r i inside later before n k answer e; gathered = gathered_law.answers line run r i inside later before n k answer e });
    between = λ line run r has small size next most told m so_far tame i b calm.
        let last = after (beginning run) run.entries in
        let w = (after_all told (begun last)).world in
        let H = map said w.fresh ++ asked next (more_deliveries most) ∷ history_of line run in
        let inside = subst (λ n. i < n) (count_between told last ∙ count_after run run.entries) b in
        each_whole run.start.disks (injectors H) i calm H
        (record {
          sound = sound_between data_so ends_so statuses line run r has small size next most told m so_far tame i b calm;
          known = known_between data_so ends_so statuses line run r has small size next most told m so_far i b;
          apart = apart_between line run r next (more_deliveries most) told (delivering (more_deliveries most) told (delivers most)) m i inside;
          wires = (manage.known_between line run r next most told m).wire.moments;
          sights = sights_between line run r next most told m;
          good = good_ends.between line run r has small size next most told m so_far i b calm;
          of_one = (status_of_run_law statuses).places.between line run r has small size next most told m so_far tame i b calm;
          fit = fit_said w.fresh _ (more_fit most, fit_after line run r.lines);
        })
        (λ later before n k answer e. record { held = taken_law.between line run r next most told m i inside later before n k answer e; gathered = gathered_law.between line run r next most told m i inside later before n k answer e });
  }

  pub answers_brought_law : AnswersBroughtLaw
  answers_brought_law = record {
    after_lines = λ line run r has small size so_far tame i b calm. all_brought run.start.disks (injectors (history_of line run)) i calm (history_of line run) (whole_law.after_lines line run r has small size so_far tame i b calm);
    between = λ line run r has small size next most told m so_far tame i b calm.
        let H = map said (after_all told (begun (after (beginning run) run.entries))).world.fresh ++ asked next (more_deliveries most) ∷ history_of line run in
        all_brought run.start.disks (injectors H) i calm H (whole_law.between line run r has small size next most told m so_far tame i b calm);
  }
