-- What the commands of a line of `tasks` told is bytes, as the line's own condition on it says.
use Rattle.sbp_world.proofs.Common.{and_second}
use Rattle.sbp_world.proofs.Words.Std.{AllByRecursion, ◌≡◌, ◌∙◌, refl, sym, ap, subst, ℕ, ◌<◌, ◌==◌, nat_eq, nat_lt, Bool, true, false, cond, List, [], ◌∷◌, Option, Some, None, Result, Ok, Err, IfSome, slice_index}
use Rattle.sbp_world.proofs.Words.Wire.{LabelParts, header_in, Finding, of_generation, of_grammar, of_label, of_response, of_again, of_request, Sent, found_sent, Event}
use Rattle.command_agent.specs.declared.step.Which.TheVariants.{Main}
use Rattle.command_agent.specs.Machine.{is_under_way}
use Rattle.login_table.specs.declared.login.Login.{Login}
use Rattle.orb_layout.specs.declared.ask.FailCause.{FailCause}
use Rattle.orb_layout.specs.Replies.{Answer, payload_of}
use Rattle.rbc_disk.specs.Runs.{Told, told_in}
use Rattle.rbc_disk.specs.Units.{PlainDisk}
use Rattle.sbp_journal.specs.declared.event.Event.TheVariants as events
use Rattle.sbp_world.proofs.Words.World.{BytesTold, is_in_flight, lowest, may_repeat}
use Rattle.sbp_world.proofs.Wire.CommandBytes.{AreTold, none_fits, run_fits}
use Rattle.unordered_agent.specs.declared.fetcher.FetchPhase.{FetchPhase}
use Rattle.unordered_agent.specs.declared.fetcher.FetchPhase.TheVariants as phases
use Rattle.unordered_agent.specs.Machine.{TaskMachine, is_busy, is_reading, lowest_free, task_at}
use Rattle.unordered_agent.specs.Steps.{fetch_replied, next_read, or_none, orb_read, place_of, reply_step, task_replied}
use Rattle.task_target.specs.declared.purpose.TaskPurpose.{TaskPurpose}
use Rattle.task_target.specs.Following.{about}
use Rattle.task_target.specs.Receiving.{TellsAt, TellsIn, answer_in}
use Rattle.task_target.specs.Replies.{Stage, Tells, TellsBy, Whole, agent_step, awaits, plain_in, served_login, stage}
use Rattle.task_target.specs.Sending.{is_that}
use Rattle.task_target.specs.Nodes.{sent_at}
use Rattle.task_world.specs.Delivering.{MayAt, MayReceive, MayTell, MayTold, count_behind, judged_node}
use Rattle.task_world.specs.Lines.{MayHappen, MayTellIn}
use Rattle.task_world.specs.Packets.{MayIf}
use Rattle.task_world.specs.Settling.{MayAll, MayNext, after_all}
use Rattle.task_world.specs.Settling as settling
use Rattle.task_world.specs.Worlds.{TaskScene, begun}

-- ---- a step that is about no ORB runs no command
next_none : (m : TaskMachine) (read : Result (List ℕ) FailCause) → (next_read m read).0.ran ≡ None
next_none m (Err cause) = refl
next_none m (Ok bytes) = refl

fetch_none : (phase : FetchPhase) (m : TaskMachine) (plain : PlainDisk) (told : Option Told) (answer : Answer) → lowest_free m.tasks ≡ None → (fetch_replied phase m 0 plain told answer).0.ran ≡ None
fetch_none phases.Fetching m plain told answer e = ap (λ (o : Option ℕ). (orb_read m 0 plain told answer o).0.ran) e
fetch_none phases.ReadingNext m plain told answer e = next_none m (payload_of answer 8)
fetch_none phases.Reset m plain told answer e = refl
fetch_none phases.Waiting m plain told answer e = refl
fetch_none phases.AtEnd m plain told answer e = refl
fetch_none phases.Dead m plain told answer e = refl

module _ (m : TaskMachine) (place : ℕ) where
  none_ran : (plain : PlainDisk) (told : Option Told) (answer : Answer) → is_busy place m ≡ true → about m place ≡ None → (reply_step m 0 plain told place answer).0.ran ≡ None
  unfolding reply_step
  none_ran plain told answer busy e = by (place == 8) (nat_lt place 8) busy e
    where
      by : (b c : Bool) → cond b (is_reading m.fetcher.phase) (cond c (is_under_way Main (task_at m place)) false) ≡ true → cond b (lowest_free m.tasks) (cond c (Some place) None) ≡ None → (cond b (fetch_replied m.fetcher.phase m 0 plain told answer) (task_replied m 0 plain told place answer)).0.ran ≡ None
      by true c f g = fetch_none m.fetcher.phase m plain told answer g
      by false true f g = cc
      by false false f g = cc

  at_is : (at : ℕ) → about m place ≡ Some at → place_of m place ≡ at
  at_is at e = by (place == 8) (nat_lt place 8) e
    where
      by : (b c : Bool) → cond b (lowest_free m.tasks) (cond c (Some place) None) ≡ Some at → cond b (or_none (lowest_free m.tasks)) place ≡ at
      by true c g = ap or_none g
      by false true g = cc
      by false false g = cc

-- ---- what a step tells
module _ (told : Option Told) (place : ℕ) (answer : Answer) (s : Stage) (before now : ℕ) (busy : is_busy place s.node.agent ≡ true) (t : Tells told place answer s before now) where
  abbrev left : TaskMachine
  left = (agent_step told place answer s).1

  fits_at : (o : Option ℕ) → about s.node.agent place ≡ o → IfSome o (λ at. AllByRecursion (λ byte. byte < 256) (task_at left at).answer) → BytesTold told
  fits_at None e b =
      none_fits told (t.so ∙ ap (λ r. told_in r (task_at left (place_of s.node.agent place)).answer) (none_ran s.node.agent place (plain_in s) told answer busy e))
  fits_at (Some at) e b =
      subst BytesTold (sym t.so)
      (run_fits (agent_step told place answer s).0.ran (task_at left (place_of s.node.agent place)).answer
      (subst (λ (p : ℕ). AllByRecursion (λ byte. byte < 256) (task_at left p).answer) (sym (at_is s.node.agent place at e)) b))

  tells_fit : BytesTold told
  tells_fit = fits_at (about s.node.agent place) refl t.bytes

by_fits : (told : Option Told) (place : ℕ) (answer : Answer) (login : Option Login) (is_awaited : Bool) (s : Stage) (before now : ℕ) → (is_awaited ≡ true → is_busy place s.node.agent ≡ true) → TellsBy told place answer login is_awaited s before now → BytesTold told
by_fits told place answer (Some login) true s before now busy t = tells_fit told place answer s before now (busy refl) t
by_fits told place answer (Some login) false s before now busy t = none_fits told t.so
by_fits told place answer None is_awaited s before now busy t = none_fits told t.so

at_fits : (told : Option Told) (purpose : Option TaskPurpose) (peer : ℕ) (label : LabelParts) (answer : Answer) (w : Whole) (before now : ℕ) → TellsAt told purpose peer label answer w before now → BytesTold told
at_fits told None peer label answer w before now t = none_fits told t.so
at_fits told (Some purpose) peer label answer w before now t =
    by_fits told purpose.place answer (served_login w.node) (awaits w.node purpose.place peer label) (stage w.node w.disk) before now
    (and_second (is_that (sent_at w.node purpose.place) peer label) (is_busy purpose.place w.node.agent)) t

in_fits : (told : Option Told) (found : Finding TaskPurpose) (w : Whole) (before now : ℕ) → TellsIn told found w before now → BytesTold told
in_fits told (of_response p label purpose) w before now t = at_fits told purpose (header_in p).source label (answer_in p) w before now t
in_fits told of_generation w before now t = none_fits told t.so
in_fits told of_grammar w before now t = none_fits told t.so
in_fits told of_label w before now t = none_fits told t.so
in_fits told (of_again p rcode) w before now t = none_fits told t.so
in_fits told (of_request p) w before now t = none_fits told t.so

-- ---- a delivery
told_fits : (b : Bool) (told : Option Told) (sent : Sent) (s : TaskScene) → MayTold b told sent s → BytesTold told
unfolding MayTell
told_fits true told sent s m =
    let j = judged_node sent s.node s.scene.media in
    in_fits told j.0 j.1 (slice_index s.scene.media.faults 0) (count_behind told sent s.node s.scene.media) m
told_fits false told sent s m = none_fits told m

found_fits : (told : Option Told) (so : Option Sent) (s : TaskScene) → MayAt told so s → BytesTold told
found_fits told None s m = none_fits told m
found_fits told (Some sent) s m = told_fits (nat_eq sent.to 0) told sent s m

receipt_fits : (told : Option Told) (serial : ℕ) (s : TaskScene) → MayReceive told serial s → BytesTold told
unfolding MayReceive
receipt_fits told serial s m = found_fits told (found_sent serial s.scene.world.store.kept) s m

-- ---- lines
if_fits : (b : Bool) (serial : ℕ) (told : List (Option Told)) (s : TaskScene) → MayIf b serial told s → AreTold told
if_fits true serial [] s m = tt
if_fits true serial (told ∷ []) s m = (receipt_fits told serial s m, tt)
if_fits true serial (told ∷ next ∷ before) s m = absurd m
if_fits false serial told s m = subst AreTold (sym m) tt

next_fits : (o : Option ℕ) (told : Option Told) (s : TaskScene) → settling.MayAt o told s → BytesTold told
next_fits None told s m = absurd m
next_fits (Some serial) told s m = receipt_fits told serial s m

all_fits : (told : List (Option Told)) (s : TaskScene) → MayAll told s → AreTold told
unfolding MayNext
all_fits [] s m = tt
all_fits (told ∷ before) s m = (next_fits (lowest (after_all before s).scene.world) told (after_all before s) m.0, all_fits before s m.1)

no_told : (told : List (Option Told)) → told ≡ [] → AreTold told
no_told told e = subst AreTold (sym e) tt

line_fits : (event : Event) (told : List (Option Told)) (s : TaskScene) → MayTellIn event told s → AreTold told
line_fits (events.Begin initiators ready) told s m = no_told told m
line_fits (events.Act initiator action) told s m = no_told told m
line_fits (events.Reset physical) told s m = no_told told m
line_fits (events.See node) told s m = no_told told m
line_fits (events.Deliver serial) told s m = if_fits (is_in_flight serial s.scene.world) serial told s m
line_fits (events.Repeat serial) told s m = if_fits (may_repeat serial s.scene.world) serial told s m
line_fits (events.Lose serial) told s m = no_told told m
line_fits (events.Timeout serial) told s m = no_told told m
line_fits (events.Step count) told s m = all_fits told s m.may
line_fits events.Settle told s m = all_fits told s m.may
line_fits events.Tick told s m = no_told told m
line_fits (events.Inject initiator bytes) told s m = no_told told m
line_fits (events.Key unit key) told s m = no_told told m

pub happened_fits : (event : Event) (told : List (Option Told)) (s : TaskScene) → MayHappen event told s → AreTold told
unfolding MayHappen
happened_fits event told s m = line_fits event told (begun s) m
