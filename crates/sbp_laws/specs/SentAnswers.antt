-- The sent law, of answers (IEEE 1394-1995, response codes). A request that a node got has exactly one response, the first packet of its
-- delivery: with the rcode of the address tables and of the agent's state, and, of a read, with the bytes that stand there.
use Rattle.std.specs.Prelude.{◌≡◌, ℕ, Bool, true, false, if◌then◌else◌, List, [], ◌∷◌, Option, Some, None}
use Rattle.rbc_disk.specs.Disk.{Disk}
use Rattle.sbp_journal.specs.Run.{Moment, said}
use Rattle.sbp_journal.specs.Addresses.{Access}
use Rattle.sbp_journal.specs.Transactions.{Part, request, part_of, Sending}
use Rattle.sbp_journal.specs.Wire.{Terms, terms}
use Rattle.sbp_journal.specs.declared.note.Note.{Note}
use Rattle.sbp_journal.specs.declared.note.Note.TheVariants as notes
use Rattle.sbp_laws.specs.Turns.{Turn, sends_of}
use Rattle.sbp_laws.specs.Packets.{packet_in, access_in}
use Rattle.sbp_laws.specs.Agents.{target_before}
use Rattle.sbp_laws.specs.JudgementLaw.{answer_packet}
use Rattle.sbp_laws.specs.Served.{Reply, reply_of}

-- ---- answers
abbrev pub is_answered : Part → Bool
is_answered (request label kind) = true
is_answered part = false

abbrev pub reply_packet : Terms → Sending → Option Reply → List Note
reply_packet wire sending None = []
reply_packet wire sending (Some reply) = answer_packet wire sending reply.rcode reply.given (packet_in (Some sending))

abbrev pub reply_in : List Disk → Turn → (node : ℕ) → Option Access → Option Reply
reply_in disks t node None = None
reply_in disks t node (Some access) = Some (reply_of disks t.past (target_before disks t) node access)

abbrev pub answers_to : List Disk → Turn → Option Sending → List Note
answers_to disks t None = []
answers_to disks t (Some sending) =
    if is_answered (part_of sending.bytes)
    then reply_packet (terms t.past) sending (reply_in disks t sending.to (access_in (packet_in (Some sending)))) else []

-- the response that a turn begins its packets with
abbrev pub answer_due : List Disk → Turn → Moment → List Note
answer_due disks t (said (notes.Got serial)) = answers_to disks t ((terms t.past).sent serial)
answer_due disks t moment = []

-- the packets of a turn begin with these
abbrev pub Begins : List Note → List Note → Type 0
Begins [] sent = Unit {0}
Begins (note ∷ due) [] = ⊥
Begins (note ∷ due) (first ∷ sent) = (first ≡ note) × Begins due sent

abbrev pub AnswersLaw : List Disk → Turn → Type 0
AnswersLaw disks t = Begins (answer_due disks t t.start) (sends_of t.rest)
