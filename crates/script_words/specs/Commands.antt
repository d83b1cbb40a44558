-- The commands that a script spells: their command blocks and buffers (RBC and SBC command descriptor blocks).
use Rattle.std.specs.Prelude.{ℕ, ◌*◌, ◌/◌, nat_lt, false, if◌then◌else◌, List, [], ◌∷◌, ◌++◌, length, bytes_eq, Option, Some, None, Result, Ok, Err}
use Rattle.byteorder.specs.Endian.{big_bytes}
use Rattle.sbp_journal.specs.declared.event.Cmd.{Cmd}
use Rattle.script_words.specs.declared.fault.LineFault.{LineFault}
use Rattle.script_words.specs.declared.fault.LineFault.TheVariants as faults
use Rattle.script_words.specs.declared.fixed.FixedWord.{FixedWord}
use Rattle.script_words.specs.declared.fixed.FixedWord.TheVariants.{Seg, Pay}
use Rattle.script_words.specs.declared.verb.Verb.{Verb}
use Rattle.script_words.specs.declared.verb.Verb.TheVariants as verbs
use Rattle.script_words.specs.declared.verb.Form.{Form}
use Rattle.script_words.specs.declared.verb.Form.TheVariants.{Ten, Twelve}
use Rattle.script_words.specs.Words.{◌>>=◌, number}
use Rattle.script_words.specs.Payload.{pieces, bytes_of, segments_of}
use Rattle.script_words.specs.Verbs.{fixed_word}

-- a command block without an address: the opcode, and byte 4
abbrev pub plain_block : ℕ → ℕ → List ℕ
plain_block opcode fourth = opcode ∷ 0 ∷ 0 ∷ 0 ∷ fourth ∷ 0 ∷ 0 ∷ 0 ∷ 0 ∷ 0 ∷ 0 ∷ 0 ∷ []

-- a command block with an address in bytes 2 to 5, and a count of blocks in bytes 7 and 8 or in bytes 6 to 9
abbrev pub addressed_block : Form → ℕ → ℕ → ℕ → List ℕ
addressed_block Ten opcode lba count = opcode ∷ 0 ∷ (big_bytes 4 lba ++ (0 ∷ (big_bytes 2 count ++ (0 ∷ 0 ∷ 0 ∷ []))))
addressed_block Twelve opcode lba count = opcode ∷ 0 ∷ (big_bytes 4 lba ++ (big_bytes 4 count ++ (0 ∷ 0 ∷ [])))

-- a command that brings so many bytes to the initiator
abbrev pub bringing : List ℕ → ℕ → Cmd
bringing cdb len = record { cdb = cdb; to_initiator = nat_lt 0 len; length = len; payload = []; segments = []; max_payload = 9 }

-- a command that sends bytes
abbrev pub sending : List ℕ → List ℕ → Cmd
sending cdb bytes = record { cdb = cdb; to_initiator = false; length = length bytes; payload = bytes; segments = []; max_payload = 9 }

-- `LBA COUNT` of a read
abbrev pub reading_blocks : Form → ℕ → List (List ℕ) → Result Cmd LineFault
reading_blocks form opcode (lba ∷ count ∷ tail) =
    number 0 4294967295 lba >>= λ lba. number 0 32 count >>= λ count. Ok (bringing (addressed_block form opcode lba count) (512 * count))
reading_blocks form opcode _ = Err faults.Shape

-- `LBA COUNT` of a verify
abbrev pub verifying_blocks : List (List ℕ) → Result Cmd LineFault
verifying_blocks (lba ∷ count ∷ tail) =
    number 0 4294967295 lba >>= λ lba. number 0 32 count >>= λ count. Ok (bringing (addressed_block Ten 0x2F lba count) 0)
verifying_blocks _ = Err faults.Shape

-- `LBA DATA` of a write
abbrev pub writing_blocks : Form → ℕ → List (List ℕ) → Result Cmd LineFault
writing_blocks form opcode (lba ∷ content ∷ tail) =
    number 0 4294967295 lba >>= λ lba. bytes_of (pieces content) >>= λ bytes. Ok (sending (addressed_block form opcode lba (length bytes / 512)) bytes)
writing_blocks form opcode _ = Err faults.Shape

-- the command of a verb and the words behind it, without `seg` and `pay`
abbrev pub command : Verb → List (List ℕ) → Result Cmd LineFault
command verbs.Ready ws = Ok (bringing (plain_block 0x00 0) 0)
command verbs.Inquiry ws = Ok (bringing (plain_block 0x12 36) 36)
command verbs.Start ws = Ok (bringing (plain_block 0x1B 1) 0)
command verbs.Stop ws = Ok (bringing (plain_block 0x1B 0) 0)
command verbs.Eject ws = Ok (bringing (plain_block 0x1B 2) 0)
command verbs.Load ws = Ok (bringing (plain_block 0x1B 3) 0)
command verbs.Prevent ws = Ok (bringing (plain_block 0x1E 1) 0)
command verbs.Allow ws = Ok (bringing (plain_block 0x1E 0) 0)
command verbs.Capacity ws = Ok (bringing (plain_block 0x25 0) 8)
command verbs.Sync ws = Ok (bringing (plain_block 0x35 0) 0)
command verbs.Read ws = reading_blocks Ten 0x28 ws
command verbs.Read12 ws = reading_blocks Twelve 0xA8 ws
command verbs.Verify ws = verifying_blocks ws
command verbs.Write ws = writing_blocks Ten 0x2A ws
command verbs.Write12 ws = writing_blocks Twelve 0xAA ws

-- the word behind the first one that is `fixed`
abbrev pub behind : FixedWord → List (List ℕ) → Option (List ℕ)
behind fixed [] = None
behind fixed (word ∷ []) = None
behind fixed (word ∷ next ∷ ws) = if bytes_eq word (fixed_word fixed) then Some next else behind fixed (next ∷ ws)

-- the segments of a buffer: none where it is in one piece
abbrev pub segments : ℕ → Option (List ℕ) → Result (List ℕ) LineFault
segments len None = Ok []
segments len (Some word) = segments_of len word

-- the field max_payload: 9 where nothing else is said
abbrev pub max_payload : Option (List ℕ) → Result ℕ LineFault
max_payload None = Ok 9
max_payload (Some word) = number 0 9 word

abbrev pub with_end : List (List ℕ) → Cmd → Result Cmd LineFault
with_end ws cmd =
    segments cmd.length (behind Seg ws) >>= λ segs. max_payload (behind Pay ws) >>= λ most. Ok (record cmd { segments = segs; max_payload = most })

-- a CMD: its verb, and the words behind it
abbrev pub cmd_of : Option Verb → List (List ℕ) → Result Cmd LineFault
cmd_of None ws = Err faults.Shape
cmd_of (Some verb) ws = command verb ws >>= with_end ws
