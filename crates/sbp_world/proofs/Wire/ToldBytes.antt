-- What the target's commands of a line told is bytes, as the line's own condition on it says.
use Rattle.sbp_world.proofs.Words.Std.{sym, subst}
use Rattle.sbp_world.proofs.Words.Wire.{LabelParts, header_in, Finding, of_generation, of_grammar, of_label, of_response, of_again, of_request, Sent, found_sent, Event}
use Rattle.sbp_world.proofs.Words.Target.{Which, Login, Told, Purpose, which_in, desk_at, TellsAt, TellsIn, answer_in, Stage, TellsBy, Whole, agent_step, served_login, stage}
use Rattle.sbp_world.proofs.Words.Initiator.{Answer}
use Rattle.sbp_world.proofs.Words.World.{MayAt, MayReceive, MayTell, MayTold, faults_after, judged_target, MayHappen, MayTellIn, MayIf, is_in_flight, may_repeat, MayAll, MayNext, after_all, lowest, Scene, begun, BytesTold}
use Rattle.std.specs.Prelude.{◌≡◌, ℕ, nat_eq, Bool, true, false, List, [], ◌∷◌, Option, Some, None}
use Rattle.sbp_journal.specs.declared.event.Event.TheVariants as events
use Rattle.sbp_target.specs.declared.purpose.Purpose.TheVariants as purposes
use Rattle.sbp_world.specs.Settling as settling
use Rattle.sbp_world.proofs.Wire.CommandBytes.{AreTold, none_fits, run_fits}

by_fits : (told : Option Told) (place : ℕ) (answer : Answer) (login : Option Login) (which : Option Which) (s : Stage) (before now : List ℕ) → TellsBy told place answer login which s before now → BytesTold told
by_fits told place answer (Some login) (Some which) s before now t =
    subst BytesTold (sym t.so) (run_fits (agent_step told place login.unit which answer s).0.ran (agent_step told place login.unit which answer s).1.answer t.bytes)
by_fits told place answer None which s before now t = none_fits told t.0
by_fits told place answer (Some login) None s before now t = none_fits told t.0

at_fits : (told : Option Told) (purpose : Option Purpose) (peer : ℕ) (label : LabelParts) (answer : Answer) (w : Whole) (before now : List ℕ) → TellsAt told purpose peer label answer w before now → BytesTold told
at_fits told (Some (purposes.Agent place)) peer label answer w before now t =
    by_fits told place answer (served_login w.node place) (which_in (desk_at w.node place) peer label) (stage w.node w.disks) before now t
at_fits told (Some purposes.Management) peer label answer w before now t = none_fits told t.0
at_fits told (Some purposes.Unsolicited) peer label answer w before now t = none_fits told t.0
at_fits told None peer label answer w before now t = none_fits told t.0

in_fits : (told : Option Told) (found : Finding Purpose) (w : Whole) (before now : List ℕ) → TellsIn told found w before now → BytesTold told
in_fits told (of_response p label purpose) w before now t = at_fits told purpose (header_in p).source label (answer_in p) w before now t
in_fits told of_generation w before now t = none_fits told t.0
in_fits told of_grammar w before now t = none_fits told t.0
in_fits told of_label w before now t = none_fits told t.0
in_fits told (of_again p rcode) w before now t = none_fits told t.0
in_fits told (of_request p) w before now t = none_fits told t.0

-- ---- a delivery
pub told_fits : (b : Bool) (told : Option Told) (sent : Sent) (s : Scene) → MayTold b told sent s → BytesTold told
unfolding MayTell
told_fits true told sent s m =
    let j = judged_target sent s.world.target s.media in
    in_fits told j.0 j.1 s.media.faults (faults_after told sent s.world.target s.media) m
told_fits false told sent s m = none_fits told m

found_fits : (told : Option Told) (so : Option Sent) (s : Scene) → MayAt told so s → BytesTold told
found_fits told None s m = none_fits told m
found_fits told (Some sent) s m = told_fits (nat_eq sent.to 0) told sent s m

receipt_fits : (told : Option Told) (serial : ℕ) (s : Scene) → MayReceive told serial s → BytesTold told
unfolding MayReceive
receipt_fits told serial s m = found_fits told (found_sent serial s.world.store.kept) s m

-- ---- lines
if_fits : (b : Bool) (serial : ℕ) (told : List (Option Told)) (s : Scene) → MayIf b serial told s → AreTold told
if_fits true serial [] s m = tt
if_fits true serial (told ∷ []) s m = (receipt_fits told serial s m, tt)
if_fits true serial (told ∷ next ∷ before) s m = absurd m
if_fits false serial told s m = subst AreTold (sym m) tt

next_fits : (o : Option ℕ) (told : Option Told) (s : Scene) → settling.MayAt o told s → BytesTold told
next_fits None told s m = absurd m
next_fits (Some serial) told s m = receipt_fits told serial s m

all_fits : (told : List (Option Told)) (s : Scene) → MayAll told s → AreTold told
unfolding MayNext
all_fits [] s m = tt
all_fits (told ∷ before) s m = (next_fits (lowest (after_all before s).world) told (after_all before s) m.0, all_fits before s m.1)

no_told : (told : List (Option Told)) → told ≡ [] → AreTold told
no_told told e = subst AreTold (sym e) tt

line_fits : (event : Event) (told : List (Option Told)) (s : Scene) → MayTellIn event told s → AreTold told
line_fits (events.Begin initiators ready) told s m = no_told told m
line_fits (events.Act initiator action) told s m = no_told told m
line_fits (events.Reset physical) told s m = no_told told m
line_fits (events.See node) told s m = no_told told m
line_fits (events.Deliver serial) told s m = if_fits (is_in_flight serial s.world) serial told s m
line_fits (events.Repeat serial) told s m = if_fits (may_repeat serial s.world) serial told s m
line_fits (events.Lose serial) told s m = no_told told m
line_fits (events.Timeout serial) told s m = no_told told m
line_fits (events.Step count) told s m = all_fits told s m.may
line_fits events.Settle told s m = all_fits told s m.may
line_fits events.Tick told s m = no_told told m
line_fits (events.Inject initiator bytes) told s m = no_told told m
line_fits (events.Key unit key) told s m = no_told told m

pub happened_fits : (event : Event) (told : List (Option Told)) (s : Scene) → MayHappen event told s → AreTold told
unfolding MayHappen
happened_fits event told s m = line_fits event told (begun s) m
