-- Where no quadlet was written into an initiator's memory, the bytes of its buffers are those of the laws of answers.
use Rattle.sbp_world.proofs.Words.Std.{◌≡◌, refl, ◌∙◌, ap, ℕ, ◌==◌, ◌&&◌, ◌||◌, Bool, true, false, cond, List, [], ◌∷◌, Option, Some, None}
use Rattle.sbp_world.proofs.Words.Wire.{Packet, lock, lock_response, read_block, read_block_response, read_quadlet, read_quadlet_response, write_block, write_quadlet, write_response, Moment, asked, said, terms}
use Rattle.sbp_world.proofs.Words.Laws.{command_at, slot_at, access_in, packet_at, byte_in, byte_of, byte_written, or_byte}
use Rattle.sbp_world.proofs.Words.World.{byte_brought, byte_held, is_got_by, took_quadlet, writes_quadlet}
use Rattle.sbp_journal.specs.declared.note.Note.TheVariants as notes

or_false : (a b : Bool) → a || b ≡ false → (a ≡ false) × (b ≡ false)
or_false true b e = absurd (cc e)
or_false false b e = (refl, e)

-- a write of a block
same_brought : (c : Bool) (found : Option Packet) (address : ℕ) → c && writes_quadlet found ≡ false → cond c (byte_brought address found) None ≡ cond c (byte_written address (access_in found)) None
same_brought false found address e = refl
same_brought true None address e = refl
same_brought true (Some (write_quadlet header offset value)) address e = absurd (cc e)
same_brought true (Some (write_block header offset payload)) address e = refl
same_brought true (Some (read_quadlet header offset)) address e = refl
same_brought true (Some (read_block header offset count)) address e = refl
same_brought true (Some (lock header offset extended payload)) address e = refl
same_brought true (Some (write_response header rcode)) address e = refl
same_brought true (Some (read_quadlet_response header rcode value)) address e = refl
same_brought true (Some (read_block_response header rcode payload)) address e = refl
same_brought true (Some (lock_response header rcode extended payload)) address e = refl

pub same_byte : (past : List Moment) (i slot address : ℕ) → took_quadlet past i ≡ false → byte_held past i slot address ≡ byte_in past i slot address
same_byte [] i slot address e = refl
same_byte (asked line event ∷ past) i slot address e = same_byte past i slot address e
same_byte (said (notes.Append j n k cdb buffer) ∷ past) i slot address e =
    let now = said (notes.Append j n k cdb buffer) ∷ past in
    ap (or_byte (cond ((j == i) && (slot_at now i n k == slot)) (byte_of slot address (command_at now i n k)) None)) (same_byte past i slot address e)
same_byte (said (notes.Got serial) ∷ past) i slot address e =
    let f = or_false (is_got_by past i serial && writes_quadlet (packet_at (terms past) serial)) (took_quadlet past i) e in
    ap (λ x. or_byte x (byte_held past i slot address)) (same_brought (is_got_by past i serial) (packet_at (terms past) serial) address f.0)
    ∙ ap (or_byte (cond (is_got_by past i serial) (byte_written address (access_in (packet_at (terms past) serial))) None)) (same_byte past i slot address f.1)
same_byte (said (notes.Low j n k) ∷ past) i slot address e = same_byte past i slot address e
same_byte (said (notes.Linked j n k) ∷ past) i slot address e = same_byte past i slot address e
same_byte (said (notes.Dummied j n k) ∷ past) i slot address e = same_byte past i slot address e
same_byte (said (notes.Taken j n k status answer) ∷ past) i slot address e = same_byte past i slot address e
same_byte (said (notes.Drop j n) ∷ past) i slot address e = same_byte past i slot address e
same_byte (said (notes.Op j operation word) ∷ past) i slot address e = same_byte past i slot address e
same_byte (said (notes.Sent serial generation from to bytes) ∷ past) i slot address e = same_byte past i slot address e
same_byte (said (notes.Seen node generation) ∷ past) i slot address e = same_byte past i slot address e
same_byte (said (notes.Begin initiators ready) ∷ past) i slot address e = same_byte past i slot address e
same_byte (said (notes.Rung j n k) ∷ past) i slot address e = same_byte past i slot address e
same_byte (said (notes.Injected serial) ∷ past) i slot address e = same_byte past i slot address e
same_byte (said (notes.Ignored serial cause) ∷ past) i slot address e = same_byte past i slot address e
same_byte (said (notes.Lost serial) ∷ past) i slot address e = same_byte past i slot address e
same_byte (said (notes.TimedOut serial) ∷ past) i slot address e = same_byte past i slot address e
same_byte (said (notes.Ran j n k at cdb bytes check) ∷ past) i slot address e = same_byte past i slot address e
same_byte (said (notes.Ended j n k status) ∷ past) i slot address e = same_byte past i slot address e
same_byte (said (notes.Cut j n cause) ∷ past) i slot address e = same_byte past i slot address e
same_byte (said (notes.Dead j n cause) ∷ past) i slot address e = same_byte past i slot address e
same_byte (said (notes.Managed j word subject status login) ∷ past) i slot address e = same_byte past i slot address e
same_byte (said (notes.ManageFailed j cause) ∷ past) i slot address e = same_byte past i slot address e
same_byte (said (notes.Held id) ∷ past) i slot address e = same_byte past i slot address e
same_byte (said (notes.Expired id) ∷ past) i slot address e = same_byte past i slot address e
same_byte (said (notes.Back id) ∷ past) i slot address e = same_byte past i slot address e
same_byte (said (notes.Left id) ∷ past) i slot address e = same_byte past i slot address e
same_byte (said (notes.Cleared at) ∷ past) i slot address e = same_byte past i slot address e
same_byte (said (notes.Stuck j) ∷ past) i slot address e = same_byte past i slot address e
same_byte (said (notes.Reset generation) ∷ past) i slot address e = same_byte past i slot address e
same_byte (said notes.Tick ∷ past) i slot address e = same_byte past i slot address e
same_byte (said (notes.Refused line number) ∷ past) i slot address e = same_byte past i slot address e
same_byte (said notes.Settled ∷ past) i slot address e = same_byte past i slot address e
same_byte (said notes.Stopped ∷ past) i slot address e = same_byte past i slot address e
same_byte (said (notes.Key at) ∷ past) i slot address e = same_byte past i slot address e
same_byte (said (notes.Unsolicited j) ∷ past) i slot address e = same_byte past i slot address e
same_byte (said (notes.Unsent j) ∷ past) i slot address e = same_byte past i slot address e
same_byte (said (notes.Told j) ∷ past) i slot address e = same_byte past i slot address e
