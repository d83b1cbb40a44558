-- What an initiator tells: notes of what it does itself, which say nothing of the target and of the wire.
use Rattle.sbp_world.proofs.Words.Std.{◌≡◌, refl}
use Rattle.sbp_world.proofs.Words.Wire.{Terms, noted, Note}
use Rattle.sbp_world.proofs.Words.World.{Office, by_note}
use Rattle.sbp_journal.specs.declared.note.Note.TheVariants as notes
use Rattle.sbp_world.proofs.Formed.{IsNoRun}
use Rattle.sbp_world.proofs.Agents.Management.Offices.{IsBehind}

-- it leaves the office, stands behind the first note of a turn, and the wire does not read it
pub record LeavesAll (note : Note) : Type 0 where
  pub behind : IsBehind note
  pub office : (o : Office) → by_note note o ≡ o
  pub wire : (t : Terms) → noted note t ≡ t

pub leaves_all : (note : Note) → IsNoRun note → LeavesAll note
leaves_all (notes.Append i list orb cdb buffer) h = record { behind = tt; office = λ o. refl; wire = λ t. refl }
leaves_all (notes.Low i list orb) h = record { behind = tt; office = λ o. refl; wire = λ t. refl }
leaves_all (notes.Linked i list orb) h = record { behind = tt; office = λ o. refl; wire = λ t. refl }
leaves_all (notes.Rung i list orb) h = record { behind = tt; office = λ o. refl; wire = λ t. refl }
leaves_all (notes.Dummied i list orb) h = record { behind = tt; office = λ o. refl; wire = λ t. refl }
leaves_all (notes.Taken i n k status answer) h = record { behind = tt; office = λ o. refl; wire = λ t. refl }
leaves_all (notes.Drop i list) h = record { behind = tt; office = λ o. refl; wire = λ t. refl }
leaves_all (notes.Op i operation word) h = record { behind = tt; office = λ o. refl; wire = λ t. refl }
leaves_all (notes.Stuck i) h = record { behind = tt; office = λ o. refl; wire = λ t. refl }
leaves_all (notes.Told i) h = record { behind = tt; office = λ o. refl; wire = λ t. refl }
leaves_all (notes.Begin initiators ready) h = absurd h
leaves_all (notes.Sent serial generation from to bytes) h = absurd h
leaves_all (notes.Injected serial) h = absurd h
leaves_all (notes.Got serial) h = absurd h
leaves_all (notes.Ignored serial cause) h = absurd h
leaves_all (notes.Lost serial) h = absurd h
leaves_all (notes.TimedOut serial) h = absurd h
leaves_all (notes.Ran i n k unit cdb bytes check) h = absurd h
leaves_all (notes.Ended i n k status) h = absurd h
leaves_all (notes.Cut i n cause) h = absurd h
leaves_all (notes.Dead i n cause) h = absurd h
leaves_all (notes.Managed i word subject status login) h = absurd h
leaves_all (notes.ManageFailed i cause) h = absurd h
leaves_all (notes.Held id) h = absurd h
leaves_all (notes.Expired id) h = absurd h
leaves_all (notes.Back id) h = absurd h
leaves_all (notes.Left id) h = absurd h
leaves_all (notes.Cleared unit) h = absurd h
leaves_all (notes.Reset generation) h = absurd h
leaves_all (notes.Seen node generation) h = absurd h
leaves_all notes.Tick h = absurd h
leaves_all (notes.Refused line number) h = absurd h
leaves_all notes.Settled h = absurd h
leaves_all notes.Stopped h = absurd h
leaves_all (notes.Key unit) h = absurd h
leaves_all (notes.Unsolicited i) h = absurd h
leaves_all (notes.Unsent i) h = absurd h
