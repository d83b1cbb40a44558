-- What each note makes of the terms of the management: notes on agents, runs and units leave it.
use Rattle.sbp_world.proofs.Words.Std.{◌≡◌, refl, ap, ℕ, List, Option, Some, None, is_none, position}
use Rattle.sbp_world.proofs.Words.Wire.{Moment, Terms, Note, FunctionWord}
use Rattle.sbp_world.proofs.Words.Target.{Told}
use Rattle.sbp_world.proofs.Words.Initiator.{FailCause}
use Rattle.sbp_world.proofs.Words.Laws.{Decided, Reply, Target, enters_in, entered_by, going_on, over, taken_on, target_by, is_own_run}
use Rattle.sbp_world.proofs.Words.World.{at_rest, by_managed, by_note, office_of, placed, placed_by}
use Rattle.orb_layout.specs.declared.ask.FailCause.TheVariants as causes
use Rattle.sbp_journal.specs.declared.note.Note.TheVariants as notes
use Rattle.sbp_journal.specs.declared.operation.FunctionWord.TheVariants as functions
use Rattle.sbp_laws.proofs.Going.{going_alone, run_alone, taken_alone}

-- ---- what agents do leaves it

pub taken_keeps : (told : Option Told) (reply : Option Reply) (t : Target) → office_of (taken_on told reply t) ≡ office_of t
taken_keeps told reply t = ap office_of (taken_alone told reply t)

pub going_keeps : (note : Note) (t : Target) → office_of (going_on note t) ≡ office_of t
going_keeps note t = ap office_of (going_alone note t)

pub over_keeps : (t : Target) → office_of (over t) ≡ at_rest (office_of t)
over_keeps t = ap at_rest (taken_keeps None t.reply t)

-- neither one that begins a turn, nor a packet, nor a key
abbrev pub IsBehind : Note → Type 0
IsBehind (notes.Begin initiators ready) = ⊥
IsBehind (notes.Sent serial generation from to bytes) = ⊥
IsBehind (notes.Got serial) = ⊥
IsBehind (notes.Ignored serial cause) = ⊥
IsBehind (notes.TimedOut serial) = ⊥
IsBehind (notes.Seen node generation) = ⊥
IsBehind notes.Tick = ⊥
IsBehind (notes.Key unit) = ⊥
IsBehind _ = Unit {0}

places_keep : (place : Option ℕ) (decided : Option Decided) (id : ℕ) (t : Target) → office_of (enters_in place decided id t) ≡ placed place decided id (office_of t)
places_keep None decided id t = refl
places_keep (Some place) None id t = refl
places_keep (Some place) (Some d) id t = refl

enters_keep : (login : Option ℕ) (t : Target) → office_of (entered_by login t) ≡ placed_by login (office_of t)
enters_keep None t = refl
enters_keep (Some id) t = places_keep (position is_none t.table.places) t.decided id t

managed_keeps : (i subject status : ℕ) (word : FunctionWord) (login : Option ℕ) (past : List Moment) (wire : Terms) (t : Target) → office_of (target_by (notes.Managed i word subject status login) past wire t) ≡ by_managed word login (office_of t)
managed_keeps i subject status functions.Login login past wire t = enters_keep login t
managed_keeps i subject status functions.Query login past wire t = going_keeps _ t
managed_keeps i subject status functions.Reconnect login past wire t = going_keeps _ t
managed_keeps i subject status functions.Logout login past wire t = going_keeps _ t
managed_keeps i subject status functions.Abort login past wire t = going_keeps _ t
managed_keeps i subject status functions.AbortSet login past wire t = going_keeps _ t
managed_keeps i subject status functions.UnitReset login past wire t = going_keeps _ t
managed_keeps i subject status functions.TargetReset login past wire t = going_keeps _ t
managed_keeps i subject status functions.Other login past wire t = going_keeps _ t

dead_keeps : (i : ℕ) (list : Option ℕ) (cause : FailCause) (past : List Moment) (wire : Terms) (t : Target) → office_of (target_by (notes.Dead i list cause) past wire t) ≡ office_of t
dead_keeps i list causes.Timeout past wire t = going_keeps _ t
dead_keeps i list causes.Label past wire t = taken_keeps None t.reply t
dead_keeps i list causes.Refused past wire t = going_keeps _ t
dead_keeps i list causes.Grammar past wire t = going_keeps _ t

pub note_changes : (note : Note) (past : List Moment) (wire : Terms) (t : Target) → IsBehind note → office_of (target_by note past wire t) ≡ by_note note (office_of t)
note_changes (notes.Begin initiators ready) past wire t h = absurd h
note_changes (notes.Append i list orb cdb buffer) past wire t h = going_keeps _ t
note_changes (notes.Low i list orb) past wire t h = going_keeps _ t
note_changes (notes.Linked i list orb) past wire t h = going_keeps _ t
note_changes (notes.Rung i list orb) past wire t h = going_keeps _ t
note_changes (notes.Dummied i list orb) past wire t h = going_keeps _ t
note_changes (notes.Sent serial generation from to bytes) past wire t h = absurd h
note_changes (notes.Injected serial) past wire t h = going_keeps _ t
note_changes (notes.Got serial) past wire t h = absurd h
note_changes (notes.Ignored serial cause) past wire t h = absurd h
note_changes (notes.Lost serial) past wire t h = going_keeps _ t
note_changes (notes.TimedOut serial) past wire t h = absurd h
note_changes (notes.Ran i n k unit cdb bytes check) past wire t h =
    ap office_of (run_alone (is_own_run t.reply i wire t) (notes.Ran i n k unit cdb bytes check) t)
note_changes (notes.Ended i n k status) past wire t h = going_keeps _ t
note_changes (notes.Taken i n k status answer) past wire t h = going_keeps _ t
note_changes (notes.Cut i n cause) past wire t h = going_keeps _ t
note_changes (notes.Dead i n cause) past wire t h = dead_keeps i n cause past wire t
note_changes (notes.Drop i list) past wire t h = going_keeps _ t
note_changes (notes.Managed i word subject status login) past wire t h = managed_keeps i subject status word login past wire t
note_changes (notes.ManageFailed i cause) past wire t h = refl
note_changes (notes.Held id) past wire t h = refl
note_changes (notes.Expired id) past wire t h = refl
note_changes (notes.Back id) past wire t h = refl
note_changes (notes.Left id) past wire t h = refl
note_changes (notes.Cleared unit) past wire t h = refl
note_changes (notes.Op i operation word) past wire t h = going_keeps _ t
note_changes (notes.Stuck i) past wire t h = going_keeps _ t
note_changes (notes.Reset generation) past wire t h = going_keeps _ t
note_changes (notes.Seen node generation) past wire t h = absurd h
note_changes notes.Tick past wire t h = absurd h
note_changes (notes.Refused line number) past wire t h = going_keeps _ t
note_changes notes.Settled past wire t h = going_keeps _ t
note_changes notes.Stopped past wire t h = going_keeps _ t
note_changes (notes.Key unit) past wire t h = absurd h
note_changes (notes.Unsolicited i) past wire t h = refl
note_changes (notes.Unsent i) past wire t h = going_keeps _ t
note_changes (notes.Told i) past wire t h = going_keeps _ t
