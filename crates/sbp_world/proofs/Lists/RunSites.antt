-- The places between two turns of a run: what is known of every run at each of them.
use Rattle.sbp_world.proofs.Words.Std.{◌≡◌, subst, ℕ, ◌<◌, ◌≤◌, List, ◌∷◌, ◌++◌, map, length, Option, Some, None}
use Rattle.sbp_world.proofs.Words.Wire.{Event, Cmd, Moment, asked, said}
use Rattle.sbp_world.proofs.Words.Target.{Told}
use Rattle.sbp_world.proofs.Words.Laws.{command_at, orb, prepared_in}
use Rattle.sbp_world.proofs.Words.World.{history_of, ready_logins, Run, after, beginning, MayAll, after_all, Scene, WorldState, begun, initiator_at, DeliversMore, AreAgentsAt, AreAskedAt, AreHeldAt, IsDelivering, AllBring, NoneInjected, AreRows, IsRun, more_deliveries}
use Rattle.sbp_journal.specs.declared.event.Event.TheVariants as events
use Rattle.sbp_world.proofs.Wire.Starts.{laws_of}
use Rattle.sbp_world.proofs.Agents.Management.Holding.{Holding}
use Rattle.sbp_world.proofs.Agents.Management.Still.{hist}
use Rattle.sbp_world.proofs.Agents.AskedRuns.{asked_between_law, asked_run_law}
use Rattle.sbp_world.proofs.Agents.CrewRuns.{agents_between_law, agents_run_law}
use Rattle.sbp_world.proofs.Agents.Holders.{holders_between_law, holders_law}
use Rattle.sbp_world.proofs.Hosts.ByteReads.{filled, places_length}
use Rattle.sbp_world.proofs.Hosts.ByteRuns.{bytes_between, bytes_of_runs}
use Rattle.sbp_world.proofs.Hosts.Carried.{between_runs, of_runs}
use Rattle.sbp_world.proofs.Hosts.Carrying.{carries_law}
use Rattle.sbp_world.proofs.Hosts.Lasting.{Lasting, first_lasting, lasting_carried}
use Rattle.sbp_world.proofs.Hosts.LastingTerms.{AllLast}
use Rattle.sbp_world.proofs.Hosts.OrbRuns.{rows_known}
use Rattle.sbp_world.proofs.Hosts.Runs.{count_after, count_between, run_law}
use Rattle.sbp_world.proofs.Lists.Sites.{Site}
use Rattle.sbp_world.proofs.Lists.Slots.{IsFilled}
use Rattle.sbp_world.proofs.Lists.UnderwayRuns.{delivering as delivering_by}

-- a line that delivers more than one packet
pub more_by : (P : Event → Type 0) → ((o : Option ℕ) → P (more_deliveries o)) → (event : Event) → DeliversMore event → P event
more_by P f (events.Step count) d = f (Some count)
more_by P f events.Settle d = f None
more_by P f (events.Begin initiators is_ready) d = absurd d
more_by P f (events.Act initiator action) d = absurd d
more_by P f (events.Reset physical) d = absurd d
more_by P f (events.See node) d = absurd d
more_by P f (events.Deliver serial) d = absurd d
more_by P f (events.Repeat serial) d = absurd d
more_by P f (events.Lose serial) d = absurd d
more_by P f (events.Timeout serial) d = absurd d
more_by P f events.Tick d = absurd d
more_by P f (events.Inject initiator bytes) d = absurd d
more_by P f (events.Key unit key) d = absurd d

delivering : (told : List (Option Told)) (event : Event) → DeliversMore event → IsDelivering event told
delivering told event d = more_by (λ x. IsDelivering x told) (delivering_by told) event d

abbrev AllFilled : List Moment → ℕ → Type 0
AllFilled ms i = (slot n k : ℕ) (cmd : Cmd) → slot < 32 → prepared_in ms i slot ≡ Some (orb n k) → command_at ms i n k ≡ Some cmd → IsFilled slot cmd

module _ (line : ℕ) (run : Run) (q : IsRun run) (has : 0 < run.units) (small : run.units ≤ 4) (size : length run.start.disks ≡ run.units) where
  abbrev logins : ℕ
  logins = ready_logins run.initiators run.ready

  abbrev here : Scene
  here = after (beginning run) run.entries

  inside : (i : ℕ) → i < length here.world.initiators → i < run.initiators
  inside i b = subst (λ n. i < n) (count_after run run.entries) b

  filled_after : (i : ℕ) → i < run.initiators → AllFilled (history_of line run) i
  filled_after i b slot n k cmd c prepared command =
      let bytes = bytes_of_runs line run q i b in
      record {
        fills = filled run.ready (history_of line run) i _ bytes slot (orb n k) cmd c prepared command;
        length_is = places_length run.ready (history_of line run) i _ bytes slot (orb n k) cmd c prepared command;
      }

  pub site_after : (past : List Moment) (lines : ℕ) → Holding run.units logins run.start.disks past lines here.world → history_of line run ≡ hist past here.world → Site run.start.disks past here.world
  site_after past lines h is = record {
    agents = subst (λ ms. AreAgentsAt run.start.disks ms here.world) is (agents_run_law line run q.few has small size q.short q.entries q.lines);
    held = subst (λ ms. AreHeldAt run.start.disks ms here.world) is (holders_law line run q.few has small size q.short q.entries q.lines);
    asked = subst (AreAskedAt run.start.disks) is (asked_run_law line run q.few has small size q.short q.entries q.lines);
    rows = λ i b. subst (λ ms. AreRows ms i (initiator_at here.world i).lists.slots) is (run_law.rows line run q i (inside i b)).rows;
    last = λ i b. subst (λ ms. AllLast ms i) is (of_runs (Lasting run.ready) (lasting_carried run.ready) line run (rows_known line run) (λ j c. first_lasting line j run.initiators run.ready) q i (inside i b)).all;
    bring = λ i b. subst (λ ms. AllBring ms i) is (carries_law.carries line run q i (inside i b));
    none = λ i b. subst (λ ms. NoneInjected ms i) is (carries_law.none_injected line run q i (inside i b));
    filled = λ i b. subst (λ ms. AllFilled ms i) is (filled_after i (inside i b));
    serials = (laws_of past here.world h.sound.stands).serials;
  }

  -- behind deliveries of a line that follows
  module _ (next : ℕ) (event : Event) (d : DeliversMore event) (told : List (Option Told)) (m : MayAll told (begun here)) where
    abbrev w : WorldState
    w = (after_all told (begun here)).world

    abbrev ms : Event → List Moment
    ms x = map said w.fresh ++ asked next x ∷ history_of line run

    inside_there : (i : ℕ) → i < length w.initiators → i < run.initiators
    inside_there i b = inside i (subst (λ n. i < n) (count_between told here) b)

    rows_there : (i : ℕ) → i < run.initiators → AreRows (ms event) i (initiator_at w i).lists.slots
    rows_there i b = more_by (λ x. AreRows (ms x) i (initiator_at w i).lists.slots) (λ o. (run_law.between line run q next o told m i b).rows) event d

    filled_by : (i : ℕ) → i < run.initiators → (o : Option ℕ) → AllFilled (ms (more_deliveries o)) i
    filled_by i b o slot n k cmd c prepared command =
        let bytes = bytes_between line run q next o told m i b in
        record {
          fills = filled run.ready (ms (more_deliveries o)) i _ bytes slot (orb n k) cmd c prepared command;
          length_is = places_length run.ready (ms (more_deliveries o)) i _ bytes slot (orb n k) cmd c prepared command;
        }

    filled_there : (i : ℕ) → i < run.initiators → AllFilled (ms event) i
    filled_there i b = more_by (λ x. AllFilled (ms x) i) (filled_by i b) event d

    last_there : (i : ℕ) → i < run.initiators → AllLast (ms event) i
    last_there i b = more_by (λ x. AllLast (ms x) i) (λ o. (between_runs (Lasting run.ready) (lasting_carried run.ready) line run (rows_known line run) (λ j c. first_lasting line j run.initiators run.ready) q next o told m i b).all) event d

    pub site_between : (past : List Moment) (lines : ℕ) → Holding run.units logins run.start.disks past lines w → ms event ≡ hist past w → Site run.start.disks past w
    site_between past lines h is = record {
      agents = subst (λ x. AreAgentsAt run.start.disks x w) is (agents_between_law line run q.few has small size q.short q.entries q.lines next event d told m);
      held = subst (λ x. AreHeldAt run.start.disks x w) is (holders_between_law line run q.few has small size q.short q.entries q.lines next event d told m);
      asked = subst (AreAskedAt run.start.disks) is (asked_between_law line run q.few has small size q.short q.entries q.lines next event d told m);
      rows = λ i b. subst (λ x. AreRows x i (initiator_at w i).lists.slots) is (rows_there i (inside_there i b));
      last = λ i b. subst (λ x. AllLast x i) is (last_there i (inside_there i b));
      bring = λ i b. subst (λ x. AllBring x i) is (carries_law.between line run q next event told (delivering told event d) m i (inside_there i b));
      none = λ i b. subst (λ x. NoneInjected x i) is (carries_law.none_injected_between line run q next event told (delivering told event d) m i (inside_there i b));
      filled = λ i b. subst (λ x. AllFilled x i) is (filled_there i (inside_there i b));
      serials = (laws_of past w h.sound.stands).serials;
    }
