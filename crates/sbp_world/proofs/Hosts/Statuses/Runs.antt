-- In every run the statuses that an initiator takes are those that are due.
use Rattle.sbp_world.proofs.Words.Std.{arith, ◌≡◌, refl, sym, subst, ℕ, ◌+◌, ◌^◌, ◌<◌, ◌≤◌, false, List, ◌∷◌, ◌++◌, length, map, Option, Some, None}
use Rattle.sbp_world.proofs.Words.Wire.{is_reset, Moment, asked, said, terms, Event}
use Rattle.sbp_world.proofs.Words.Target.{Told}
use Rattle.sbp_world.proofs.Words.Initiator.{InitiatorState}
use Rattle.sbp_world.proofs.Words.World.{history_of, Run, after, beginning, MayAll, after_all, Scene, begun, initiator_at, IsCalled, history, IsRun, more_deliveries, Takings, TakingLaw}
use Rattle.sbp_journal.specs.declared.event.Event.TheVariants as events
use Rattle.sbp_world.proofs.FitInitiator.Law.{fitting_law as own_fitting_law}
use Rattle.sbp_world.proofs.FitTarget.Law.{fitting_law}
use Rattle.sbp_world.proofs.Wire.Runs.{SoundAfter, sound_after}
use Rattle.sbp_world.proofs.Wire.Sound.{opens}
use Rattle.sbp_world.specs.Hosts.Refusing.{initiator_of}
use Rattle.sbp_world.proofs.Hosts.AnsweringLines.{all_sound}
use Rattle.sbp_world.proofs.Hosts.Carried.{between_runs, of_runs}
use Rattle.sbp_world.proofs.Hosts.LoginCounts.{logins_few}
use Rattle.sbp_world.proofs.Hosts.OrbRuns.{rows_known}
use Rattle.sbp_world.proofs.Hosts.Runs.{are_told, count_after, count_between}
use Rattle.sbp_world.proofs.Hosts.Statuses.Folds.{takings_of}
use Rattle.sbp_world.proofs.Hosts.Statuses.Held.{Held, first_held, held_carried}

module _ (line : ℕ) (run : Run) (q : IsRun run) (i : ℕ) (b : i < run.initiators) where
  abbrev start : Scene
  start = after (beginning run) run.entries

  before : SoundAfter line run run.entries start.world
  before = sound_after fitting_law own_fitting_law line run run.entries q.few q.short q.entries q.lines

  inside_start : i < length start.world.initiators
  inside_start = subst (λ n. i < n) (sym (count_after run run.entries)) b

  -- ---- the login numbers that it used

  few_of : (s : InitiatorState) → IsCalled run.ready i s → s.counts.acts ≤ length run.entries → s.counts.logins ≤ 2 ^ 32
  few_of s h acts =
      let short = q.short in
      let f : s.counts.logins ≤ s.counts.acts + 1 = subst (λ (x : InitiatorState). x.counts.logins ≤ x.counts.acts + 1) h.is (logins_few i run.ready h.calls) in
      omega arith

  -- ---- behind a line

  held : Held run.ready (history_of line run) i (initiator_of run i)
  held = of_runs (Held run.ready) (held_carried run.ready) line run (rows_known line run) (λ j c. first_held line j run.initiators run.ready c) q i b

  takings : Takings (history_of line run) i
  takings = takings_of (history_of line run) i (held.takes (few_of (initiator_of run i) held.cored.own.called (before.sound.nodes.own.counts i inside_start)))

  -- ---- and behind a delivery

  module _ (next : ℕ) (told : List (Option Told)) (m : MayAll told (begun start)) where
    counts : (event : Event) → is_reset event ≡ false → ((ms : List Moment) → (terms (asked next event ∷ ms)).repeats ≡ false) → (initiator_at (after_all told (begun start)).world i).counts.acts ≤ length run.entries
    counts event e repeats =
        let sound = all_sound told (are_told told start m) (begun start) (opens next event start.world e before.sound) (repeats (history start.world before.past)) in
        sound.nodes.own.counts i (subst (λ n. i < n) (sym (count_between told start)) inside_start)

    counts_more : (most : Option ℕ) → (initiator_at (after_all told (begun start)).world i).counts.acts ≤ length run.entries
    counts_more (Some count) = counts (events.Step count) refl (λ ms. refl)
    counts_more None = counts events.Settle refl (λ ms. refl)

    takings_between : (most : Option ℕ) → Takings (map said (after_all told (begun start)).world.fresh ++ asked next (more_deliveries most) ∷ history_of line run) i
    takings_between most =
        let h = between_runs (Held run.ready) (held_carried run.ready) line run (rows_known line run) (λ j c. first_held line j run.initiators run.ready c) q next most told m i b in
        takings_of _ i (h.takes (few_of (initiator_at (after_all told (begun start)).world i) h.cored.own.called (counts_more most)))

pub taking_law : TakingLaw
taking_law = record {
  takings = λ line run q i b. takings line run q i b;
  between = λ line run q next most told m i b. takings_between line run q i b next told m most;
}
