-- What a pump that appends has found: the next submission, and a list that is not marked dead.
use Rattle.std.proofs.Common.{◌≡◌, ℕ, zero, suc, ◌<◌, Bool, true, false, cond, nat_eq, List, [], ◌∷◌, Option, Some, None, refl, subst, arith}
use Rattle.std.specs.Prelude.{not, is_none, IsSomeAnd}
use Rattle.std.proofs.lemmas.Bool.Decides.{nat_tests}
use Rattle.sbp_journal.specs.Run.{asked}
use Rattle.sbp_journal.specs.declared.event.Action.TheVariants as actions
use Rattle.sbp_journal.specs.declared.event.Cmd.{Cmd}
use Rattle.sbp_journal.specs.declared.event.Event.TheVariants as events
use Rattle.sbp_journal.specs.declared.note.NoteBuffer.{NoteBuffer}
use Rattle.sbp_laws.specs.Hosts.{Host, Session, out, live, held, entering, returning, leaving, stuck, host_at}
use Rattle.retry_queue.specs.Steps.{Step, of_world, submitted, Submission, EachStep, command_for, submissions, world, write_at}
use Rattle.retry_queue.specs.Pump.{next, row, row_of}
use Rattle.retry_queue.specs.Journals.{IsOf, MadeAt, asked_append}

-- the CMD is that of the submission, and the list is not marked dead
pub record IsAppendOf (write : Option Submission) (cmd : Cmd) (dead : Bool) : Type 0 where
  pub of : Submission
  pub is : write ≡ Some of
  pub command : cmd ≡ command_for of
  pub alive : dead ≡ false

rows : (busy : Bool) (session : Session) (dead : Bool) (write : Option Submission) (cmd : Cmd) → row busy session dead write ≡ Some (actions.Append cmd) → IsAppendOf write cmd dead
rows true session dead write cmd e = absurd (cc e)
rows false live false (Some w) cmd e = record { of = w; is = refl; command = cc e; alive = refl }
rows false live false None cmd e = absurd (cc e)
rows false live true write cmd e = absurd (cc e)
rows false out dead write cmd e = absurd (cc e)
rows false held dead write cmd e = absurd (cc e)
rows false entering dead write cmd e = absurd (cc e)
rows false returning dead write cmd e = absurd (cc e)
rows false leaving dead write cmd e = absurd (cc e)
rows false (stuck had_login) dead write cmd e = absurd (cc e)

pub appends_next : (host : Host) (write : Option Submission) (cmd : Cmd) → row_of host write ≡ Some (actions.Append cmd) → IsAppendOf write cmd host.marked_dead
appends_next host write cmd e = rows (not (is_none host.operation)) host.session host.marked_dead write cmd e

-- behind the line of an append: the ORB is that of the next submission
pub record IsDue (past : List Step) (cdb : List ℕ) (buffer : NoteBuffer) : Type 0 where
  pub write : Submission
  pub is : write_at past (next past) ≡ Some write
  pub of : IsOf (command_for write) cdb buffer

pub is_due : (past : List Step) (cdb : List ℕ) (buffer : NoteBuffer) → IsSomeAnd (asked_append past) (λ cmd. IsOf cmd cdb buffer) → EachStep MadeAt past → IsDue past cdb buffer
is_due (of_world (asked line (events.Act zero (actions.Append cmd))) ∷ past) cdb buffer of made =
    let found = appends_next (host_at (world past) 0) (write_at past (next past)) cmd made.0.due in
    record { write = found.of; is = found.is; of = subst (λ c. IsOf c cdb buffer) found.command of }
is_due _ cdb buffer of made = absurd of

-- a submission has a number below their count
was_made : (q count : ℕ) (here w : Submission) (before : Option Submission) → (before ≡ Some w → q < count) → (b : Bool) → nat_eq q count ≡ b → cond b (Some here) before ≡ Some w → q < suc count
was_made q count here w before few true same e = grind (arith, nat_tests)
was_made q count here w before few false same e = let l = few e in omega arith

pub is_made : (past : List Step) (q : ℕ) (w : Submission) → write_at past q ≡ Some w → q < submissions past
is_made [] q w e = absurd (cc e)
is_made (submitted lba bytes ∷ past) q w e = was_made q (submissions past) (record { lba = lba; bytes = bytes }) w (write_at past q) (is_made past q w) (nat_eq q (submissions past)) refl e
is_made (_ ∷ past) q w e = is_made past q w e
