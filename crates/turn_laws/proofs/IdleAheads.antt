-- By the terms of every history an agent keeps nothing that was read ahead but while its present ORB is read and has not ended, or its status is written.
use Rattle.std.proofs.Common.{◌≡◌, ℕ, false, List, [], ◌∷◌}
use Rattle.command_agent.specs.Machine.{Machine}
use Rattle.command_agent.specs.declared.phase.ReadAhead.TheVariants as aheads
use Rattle.orb_layout.specs.declared.command.CommandOrb.{CommandOrb}
use Rattle.rbc_disk.specs.Disk.{Disk}
use Rattle.sbp_journal.specs.Run.{Moment, asked, said}
use Rattle.sbp_journal.specs.Wire.{Terms}
use Rattle.sbp_journal.specs.declared.note.Note.{Note}
use Rattle.sbp_journal.specs.declared.note.Note.TheVariants as notes
use Rattle.sbp_laws.specs.Targets.{Reply, Target, agent_at, known_at, over, target_at}
use Rattle.sbp_world.proofs.Lists.FedFolds.{so}
use Rattle.sbp_world.proofs.Lists.OrbFolds.{AreReading, Brings, Has, over_reads}
use Rattle.sbp_world.proofs.Lists.OrbNotes.{IfGot, note_reads}
use Rattle.sbp_world.proofs.Lists.OrbReading.{nothing_read}
use Rattle.sbp_world.proofs.Lists.OrbSteps.{has_read}

-- whatever ORBs were brought
abbrev Any : ℕ → ℕ → CommandOrb → Type 0
Any q address orb = Unit {0}

any_brought : (m : Machine) (reply : Reply) → Brings Any m reply
any_brought m reply = record { main = λ w p bytes e. tt; ahead = λ w a offset n bytes e. tt }

if_any : (note : Note) (wire : Terms) (t : Target) → IfGot Any note wire t
if_any (notes.Got serial) wire t = λ e own closed place which purpose. any_brought (agent_at (over t) place).machine _
if_any note wire t = tt

any_reading : (start : List Disk) (past : List Moment) → AreReading Any (target_at start past)
any_reading start [] = nothing_read start Any
any_reading start (asked line event ∷ past) = so (Has Any) (over (target_at start past)) (over_reads Any (target_at start past) (any_reading start past))
any_reading start (said note ∷ past) =
    let known = known_at start past in note_reads Any note past known.wire known.target (any_reading start past) (if_any note known.wire known.target)

pub idle_ahead : (start : List Disk) (past : List Moment) (q : ℕ) → (let m = (agent_at (over (target_at start past)) q).machine in has_read m.phase ≡ false → m.ahead ≡ aheads.Idle)
idle_ahead start past q e = ((over_reads Any (target_at start past) (any_reading start past)).agents q).idle e
