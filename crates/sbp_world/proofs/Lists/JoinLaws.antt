-- An initiator begins its lists in generations that the target has seen: after every line of every run, and behind each delivery of a line that follows.
use Rattle.sbp_world.proofs.Words.Std.{arith, ◌≡◌, ◌∙◌, refl, ap, subst, ℕ, suc, ◌+◌, ◌^◌, ◌<◌, ◌≤◌, true, List, [], ◌∷◌, ◌++◌, map, length, Option, false≢true}
use Rattle.sbp_world.proofs.Words.Wire.{Moment, asked, said, terms}
use Rattle.sbp_world.proofs.Words.Target.{Told}
use Rattle.sbp_world.proofs.Words.Initiator.{is_in_live, session_of, InitiatorState, Seat}
use Rattle.sbp_world.proofs.Words.Laws.{host_at}
use Rattle.sbp_world.proofs.Words.World.{history_of, moments_behind, AreEntries, Entry, Run, after, beginning, MayAll, after_all, AreLines, Stands, WorldState, begun, initiator_at, Core, session_in, IsRun, more_deliveries, JoinedLaw, is_joined}
use Rattle.sbp_session.specs.declared.seat.Seat.TheVariants as seats
use Rattle.sbp_world.proofs.FitInitiator.Law.{fitting_law as own_fitting_law}
use Rattle.sbp_world.proofs.FitTarget.Law.{fitting_law}
use Rattle.sbp_world.proofs.Wire.Runs.{sound_after}
use Rattle.sbp_world.proofs.Hosts.Carried.{Knows, between_runs, of_runs, stands_between}
use Rattle.sbp_world.proofs.Hosts.Hosted.{host_law}
use Rattle.sbp_world.proofs.Hosts.Runs.{are_after, count_after}
use Rattle.sbp_world.proofs.Lists.Joins.{Begins, Joins, Starts, first_joins, joins_carried}
use Rattle.sbp_world.proofs.Lists.Rises.{Rises, rises}

live_joined : (seat : Seat) → is_in_live (session_of seat) ≡ true → is_joined (session_in seat) ≡ true
live_joined (seats.Out out) e = absurd (false≢true e)
live_joined (seats.Entering entering) e = absurd (false≢true e)
live_joined (seats.Live x) e = refl
live_joined (seats.Held response) e = absurd (false≢true e)
live_joined (seats.Returning response) e = absurd (false≢true e)
live_joined (seats.Leaving response) e = absurd (false≢true e)
live_joined (seats.Stuck origin) e = absurd (false≢true e)

stand_rise : (past ms : List Moment) (w : WorldState) → Stands past w → map said w.fresh ++ past ≡ ms → Rises ms
stand_rise past ms w h e = subst Rises (h.is.past_is ∙ e) (rises h.wire h.reached)

pub moments_same : (line : ℕ) (run : Run) (every entries : List Entry) → moments_behind line (record run { entries = every }) entries ≡ moments_behind line run entries
moments_same line run every [] = refl
moments_same line run every (e ∷ before) = ap (λ ms. map said e.notes ++ asked e.line e.event ∷ ms) (moments_same line run every before)

pub lines_same : (run : Run) (every entries : List Entry) → AreLines run entries → AreLines (record run { entries = every }) entries
lines_same run every [] l = tt
lines_same run every (e ∷ before) l = (l.0, lines_same run every before l.1)

module _ (joined : JoinedLaw) (line : ℕ) (run : Run) (has : 0 < run.units) (small : run.units ≤ 4) (size : length run.start.disks ≡ run.units) where
  -- a run of some of its lines
  module _ (entries : List Entry) (few : run.initiators ≤ 4) (short : length entries + 2 < 2 ^ 32) (every : AreEntries (beginning run) entries) (fit : AreLines run entries) (i : ℕ) (b : i < length (after (beginning run) entries).world.initiators) where
    abbrev front : Run
    front = record run { entries = entries }

    is_run : IsRun front
    is_run = record { few = few; short = short; entries = every; lines = lines_same run entries entries fit }

    inside : i < run.initiators
    inside = subst (λ n. i < n) (count_after front entries) b

    abbrev s : InitiatorState
    s = initiator_at (after (beginning run) entries).world i

    session : (host_at (history_of line front) i).session ≡ session_in s.seat
    session = ap (λ (c : Core). c.session) (host_law.core line front is_run i inside)

    joined_now : is_in_live (session_of s.seat) ≡ true → (terms (moments_behind line run entries)).generation (suc i) ≤ (terms (moments_behind line run entries)).generation 0
    joined_now e =
        let j = (joined line front few has small size short every (lines_same run entries entries fit) i inside).session (ap is_joined session ∙ live_joined s.seat e) in
        subst (λ ms. (terms ms).generation (suc i) ≤ (terms ms).generation 0) (moments_same line run entries entries)
        (subst (λ k. (terms (history_of line front)).generation k ≤ (terms (history_of line front)).generation 0) (let x : i + 1 ≡ suc i = omega arith in x) j)

    starts : Starts (moments_behind line run entries) i s
    starts = record { rows = (are_after line run entries few short every fit i b).rows; joined = joined_now }

  known : Knows Starts line run
  known = starts

  module _ (r : IsRun run) where
    pub begins_after : (i : ℕ) → i < run.initiators → Begins i (history_of line run)
    begins_after i b = (of_runs (Joins run.ready) (joins_carried run.ready) line run known (λ j c. first_joins line j run.initiators run.ready) r i b).begins

    pub rises_after : Rises (history_of line run)
    rises_after =
        let k = sound_after fitting_law own_fitting_law line run run.entries r.few r.short r.entries r.lines in
        stand_rise k.past (history_of line run) (after (beginning run) run.entries).world k.sound.stands k.is

    module _ (next : ℕ) (most : Option ℕ) (told : List (Option Told)) (m : MayAll told (begun (after (beginning run) run.entries))) where
      abbrev end : WorldState
      end = (after_all told (begun (after (beginning run) run.entries))).world

      abbrev now : List Moment
      now = map said end.fresh ++ asked next (more_deliveries most) ∷ history_of line run

      pub begins_between : (i : ℕ) → i < run.initiators → Begins i now
      begins_between i b = (between_runs (Joins run.ready) (joins_carried run.ready) line run known (λ j c. first_joins line j run.initiators run.ready) r next most told m i b).begins

      pub rises_between : Rises now
      rises_between =
          let k = stands_between (Joins run.ready) (joins_carried run.ready) line run known (λ j c. first_joins line j run.initiators run.ready) r next most told m in
          stand_rise k.past now end k.sound.stands k.is
