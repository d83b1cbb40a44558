-- Each append of an initiator is told with the command block and the buffer of the command of its line, in every run.
use Rattle.sbp_world.proofs.Words.Std.{arith, ◌≡◌, refl, sym, ap, subst, ◌∙◌, ◌<◌, ℕ, zero, suc, nat_eq, ◌==◌, not, Bool, true, false, List, [], ◌∷◌, ◌++◌, map, Option, Some, None, nat_tests}
use Rattle.sbp_world.proofs.Words.Wire.{judged_note, buffer_of, empty_outbox, Moment, asked, said, Action, Cmd, Event, Note, NoteBuffer, Side}
use Rattle.sbp_world.proofs.Words.Target.{Told}
use Rattle.sbp_world.proofs.Words.Initiator.{InitiatorState, act_step, Turn, new_state, expire_step, receive_step, see_step, own}
use Rattle.sbp_world.proofs.Words.Laws.{action_notes, append_notes, new_list, new_number, cmd_of, EachMoment, event_of}
use Rattle.sbp_world.proofs.Words.World.{history_of, Run, after, beginning, MayAll, after_all, begun, behind, AreRows, IsRun, more_deliveries}
use Rattle.sbp_journal.specs.declared.event.Action.TheVariants as actions
use Rattle.sbp_journal.specs.declared.event.Event.TheVariants as events
use Rattle.sbp_journal.specs.declared.note.Note.TheVariants as notes
use Rattle.sbp_journal.specs.declared.side.Side.TheVariants as sides
use Rattle.sbp_world.specs.Hosts.Calls.{by_side}
use Rattle.sbp_world.proofs.Hosts.Carried.{between_runs, of_runs}
use Rattle.sbp_world.proofs.Hosts.Carries.{Carries, Does, Tells, is_apart}
use Rattle.sbp_world.proofs.Hosts.OrbRuns.{Orbs, Rowed, first_orbs, orbs_carried, rows_known}
use Rattle.sbp_world.proofs.Hosts.OrbTells as tell
use Rattle.sbp_world.proofs.Hosts.OrbTerms.{AreStill, IsStill, is_left}
use Rattle.sbp_world.proofs.Hosts.Passes.{judged_apart}
use Rattle.sbp_world.proofs.Hosts.Telling.{action_law}

-- an append is told with the command block and the buffer of the command of its line
pub record IsLined (event : Option Event) (cdb : List ℕ) (buffer : NoteBuffer) : Type 0 where
  pub cmd : Cmd
  pub line : cmd_of event ≡ Some cmd
  pub cdb_is : cdb ≡ cmd.cdb
  pub buffer_is : buffer ≡ buffer_of cmd

abbrev pub LinedAt : ℕ → Moment → List Moment → Type 0
LinedAt i (said (notes.Append j n k cdb buffer)) past = j ≡ i → IsLined (event_of past) cdb buffer
LinedAt i moment past = Unit {0}

-- ---- what is told of no append of the initiator
here : (i j : ℕ) → not (i == j) ≡ true → j ≡ i → ⊥
here i j e same = no (sym (ap not (let z : nat_eq i j ≡ true = grind (arith, nat_tests) in z)) ∙ e)
  where
    no : false ≡ true → ⊥
    no e = cc

left_lined : (note : Note) (past : List Moment) (i : ℕ) → is_left i note ≡ true → LinedAt i (said note) past
left_lined (notes.Append j n k cdb buffer) past i e = λ same. absurd (here i j e same)
left_lined _ past i e = tt

apart_lined : (note : Note) (past : List Moment) (i : ℕ) → is_apart i note ≡ true → LinedAt i (said note) past
apart_lined (notes.Append j n k cdb buffer) past i e = λ same. absurd (here i j e same)
apart_lined _ past i e = tt

abbrev pub AllLined : List Moment → ℕ → Type 0
AllLined past i = EachMoment (LinedAt i) past

still_lined : (told : List Side) (past : List Moment) (i : ℕ) → AreStill told → AllLined past i → AllLined (behind told past) i
still_lined [] past i q h = h
still_lined (side ∷ told) past i q h = still_lined told (by_side side past) i q.1 (one_side side past i q.0 h)
  where
    one_side : (side : Side) (past : List Moment) (i : ℕ) → IsStill side → AllLined past i → AllLined (by_side side past) i
    one_side (sides.Own note) past i q h = (left_lined note past i (q i), h)
    one_side _ past i q h = absurd q

-- ---- the notes of an action
module _ (past : List Moment) (i : ℕ) (j : ℕ) (h : AllLined past j) where
  append_on : (n k : ℕ) (cmd : Cmd) → cmd_of (event_of past) ≡ Some cmd → AllLined (said (notes.Append i n k cmd.cdb (buffer_of cmd)) ∷ past) j
  append_on n k cmd line = (λ same. record { cmd = cmd; line = line; cdb_is = refl; buffer_is = refl }, h)

  appended : (n k : ℕ) (cmd : Cmd) → cmd_of (event_of past) ≡ Some cmd → AllLined (behind (own (append_notes i n k cmd)) past) j
  appended n zero cmd line = (tt, append_on n 0 cmd line)
  appended n (suc k) cmd line = (tt, (tt, (tt, append_on n (suc k) cmd line)))

  action_lined : (action : Action) → event_of past ≡ Some (events.Act i action) → AllLined (behind (own (action_notes action past i)) past) j
  action_lined (actions.Put cmd) line = append_on (new_list past i) (new_number past i) cmd (ap cmd_of line)
  action_lined (actions.Append cmd) line = appended (new_list past i) (new_number past i) cmd (ap cmd_of line)
  action_lined actions.Low line = (tt, h)
  action_lined actions.Link line = (tt, h)
  action_lined actions.Ring line = (tt, h)
  action_lined (actions.Dummy k) line = (tt, h)
  action_lined (actions.Abort k) line = h
  action_lined actions.Rom line = h
  action_lined actions.AgentReset line = h
  action_lined actions.State line = h
  action_lined actions.Enable line = h
  action_lined (actions.Login unit reconnect exclusive password) line = h
  action_lined (actions.Query unit) line = h
  action_lined actions.Reconnect line = h
  action_lined actions.Logout line = h
  action_lined actions.AbortSet line = h
  action_lined actions.UnitReset line = h
  action_lined actions.TargetReset line = h

-- ---- a run
record Lined (ready : Bool) (past : List Moment) (i : ℕ) (s : InitiatorState) : Type 0 where
  orbs : Orbs ready past i s
  all : AllLined past i

module _ (ready : Bool) where
  tells_on : (past : List Moment) (i : ℕ) (t : Turn) → AreStill t.0.sides → Tells (Orbs ready) past i t → AllLined past i → Tells (Lined ready) past i t
  tells_on past i t q orbs h = record {
    own = record { orbs = orbs.own; all = still_lined t.0.sides past i q h };
    others = λ j x e k. record { orbs = orbs.others j x e k.orbs; all = still_lined t.0.sides past j q k.all };
  }

  module _ (action : Action) (past : List Moment) (i : ℕ) (s : InitiatorState) (line : event_of past ≡ Some (events.Act i action)) (no_refusal : (act_step action empty_outbox s).0 ≡ None) (known : Rowed past i s) (h : Lined ready past i s) where
    abbrev t : Turn
    t = (act_step action empty_outbox s).1

    sides_are : t.0.sides ≡ own (action_notes action past i)
    sides_are =
        action_law.notes past s action empty_outbox (subst (λ j. AreRows past j s.lists.slots) (sym h.orbs.number) known.rows) no_refusal
        ∙ ap (λ j. own (action_notes action past j)) h.orbs.number

    lined_on : (j : ℕ) → AllLined past j → AllLined (behind t.0.sides past) j
    lined_on j k = subst (λ told. AllLined (behind told past) j) (sym sides_are) (action_lined past i j k action line)

    does_on : Does (Orbs ready) past i t → Does (Lined ready) past i t
    does_on d = record {
      others = λ j x e k. record { orbs = d.others j x e k.orbs; all = lined_on j k.all };
      quiet = λ silent. record { orbs = d.quiet silent; all = lined_on i h.all };
      asking = λ packet one serial generation f q. record { orbs = d.asking packet one serial generation f q; all = (tt, lined_on i h.all) };
    }

  lined_carried : Carries Rowed (Lined ready)
  lined_carried =
      let c = orbs_carried ready in
      record {
        known = λ line event past i s r. c.known line event past i s r;
        number = λ past i s h. h.orbs.number;
        asked = λ line event past i s h. record { orbs = c.asked line event past i s h.orbs; all = (tt, h.all) };
        apart = λ note past i s e elsewhere h. record { orbs = c.apart note past i s e elsewhere h.orbs; all = (apart_lined note past i e, h.all) };
        sent = λ serial generation from to bytes past i s n h. record { orbs = c.sent serial generation from to bytes past i s n h.orbs; all = (tt, h.all) };
        hears = λ serial generation bytes past i s heard shown after h.
            let note = judged_note serial (receive_step generation bytes empty_outbox s).0 in
            tells_on (said note ∷ past) i (receive_step generation bytes empty_outbox s).1 (tell.receives generation bytes empty_outbox s tt) (c.hears serial generation bytes past i s heard shown after h.orbs)
            (apart_lined note past i (judged_apart serial (receive_step generation bytes empty_outbox s).0 i), h.all);
        expires = λ serial label past i s shown h.
            tells_on (said (notes.TimedOut serial) ∷ past) i (expire_step label empty_outbox s).1 (tell.expires label empty_outbox s tt) (c.expires serial label past i s shown h.orbs) (tt, h.all);
        stale = λ label past i s e h. record { orbs = c.stale label past i s e h.orbs; all = h.all };
        sees = λ generation id target past i s e h.
            tells_on (said (notes.Seen (suc i) generation) ∷ past) i (see_step generation id target empty_outbox s) (tell.sees generation id target empty_outbox s tt) (c.sees generation id target past i s e h.orbs) (tt, h.all);
        acts = λ action past i s line fit d shown known h. does_on action past i s line d known h (c.acts action past i s line fit d shown known h.orbs);
      }

first_lined : (line i initiators : ℕ) (ready : Bool) → Lined ready (said (notes.Begin initiators ready) ∷ asked line (events.Begin initiators ready) ∷ []) i (new_state i ready)
first_lined line i initiators ready = record { orbs = first_orbs line i initiators ready; all = (tt, (tt, tt)) }

pub lined_appends : (line : ℕ) (run : Run) → IsRun run → (i : ℕ) → i < run.initiators → AllLined (history_of line run) i
lined_appends line run r i b = (of_runs (Lined run.ready) (lined_carried run.ready) line run (rows_known line run) (λ j c. first_lined line j run.initiators run.ready) r i b).all

pub lined_between : (line : ℕ) (run : Run) → IsRun run → (next : ℕ) (most : Option ℕ) (told : List (Option Told)) → MayAll told (begun (after (beginning run) run.entries)) → (i : ℕ) → i < run.initiators → AllLined (map said (after_all told (begun (after (beginning run) run.entries))).world.fresh ++ asked next (more_deliveries most) ∷ history_of line run) i
lined_between line run r next most told m i b =
    (between_runs (Lined run.ready) (lined_carried run.ready) line run (rows_known line run) (λ j c. first_lined line j run.initiators run.ready) r next most told m i b).all
