-- What leaves the agents of the terms alone: the notes of initiators and of the bus, and what other nodes send, get, see and wait for in vain. Such a note
-- may end a turn of the target; over that turn's end the agents are the same.
use Rattle.std.specs.Prelude.{◌≡◌, ◌<◌, ℕ, false, List, length, Option, Some, None}
use Rattle.sbp_journal.specs.Run.{Moment}
use Rattle.sbp_journal.specs.Wire.{Terms}
use Rattle.sbp_journal.specs.declared.note.Note.{Note}
use Rattle.sbp_journal.specs.declared.note.Note.TheVariants as notes
use Rattle.sbp_laws.specs.Packets.{receiver_in, sender_in}
use Rattle.sbp_laws.specs.Targets.{Agent, Reply, Target, is_serial, over, target_by}

abbrev pub IsAside : Note → Type 0
IsAside (notes.Append i list orb cdb buffer) = Unit {0}
IsAside (notes.Low i list orb) = Unit {0}
IsAside (notes.Linked i list orb) = Unit {0}
IsAside (notes.Rung i list orb) = Unit {0}
IsAside (notes.Dummied i list orb) = Unit {0}
IsAside (notes.Injected serial) = Unit {0}
IsAside (notes.Ignored serial cause) = Unit {0}
IsAside (notes.Lost serial) = Unit {0}
IsAside (notes.Taken i list orb status answer) = Unit {0}
IsAside (notes.Drop i list) = Unit {0}
IsAside (notes.Op i operation word) = Unit {0}
IsAside (notes.Stuck i) = Unit {0}
IsAside (notes.Reset generation) = Unit {0}
IsAside notes.Tick = Unit {0}
IsAside (notes.Refused line number) = Unit {0}
IsAside notes.Settled = Unit {0}
IsAside notes.Stopped = Unit {0}
IsAside (notes.Key unit) = Unit {0}
IsAside (notes.Told i) = Unit {0}
IsAside _ = ⊥

-- a reply that waits is for one of eight agents
abbrev pub MayGoOn : Option Reply → List Agent → Type 0
MayGoOn None agents = Unit {0}
MayGoOn (Some reply) agents = (length agents ≡ 8) × (reply.place < 8)

pub record AsidesLaw : Type 0 where
  pub twice : (t : Target) → (over (over t)).agents ≡ (over t).agents
  pub asides : (note : Note) (past : List Moment) (wire : Terms) (t : Target) → IsAside note → MayGoOn t.reply t.agents → (over (target_by note past wire t)).agents ≡ (over t).agents
  pub sent : (serial generation from to : ℕ) (bytes : List ℕ) (past : List Moment) (wire : Terms) (t : Target) → 0 < from → (over (target_by (notes.Sent serial generation from to bytes) past wire t)).agents ≡ (over t).agents
  pub got : (serial : ℕ) (past : List Moment) (wire : Terms) (t : Target) → is_serial (receiver_in (wire.sent serial)) 0 ≡ false → (over (target_by (notes.Got serial) past wire t)).agents ≡ (over t).agents
  pub timed_out : (serial : ℕ) (past : List Moment) (wire : Terms) (t : Target) → is_serial (sender_in (wire.sent serial)) 0 ≡ false → (over (target_by (notes.TimedOut serial) past wire t)).agents ≡ (over t).agents
  pub seen : (node generation : ℕ) (past : List Moment) (wire : Terms) (t : Target) → 0 < node → (over (target_by (notes.Seen node generation) past wire t)).agents ≡ (over t).agents
