-- A good READ gives what the last good WRITE of each block put there.
use Rattle.std.proofs.Common.{◌≡◌, ℕ, ◌+◌, ◌-◌, ◌*◌, ◌<◌, ◌≤◌, Bool, true, false, List, [], ◌∷◌, ◌++◌, length, take, drop, refl, sym, ap, subst, ◌∙◌, arith, Option, Some, None, Result, Ok, Err, length-drop}
use Rattle.std.specs.Prelude.{◌==◌, ◌&&◌, ◌||◌, not, nat_lt, if◌then◌else◌, is_none, IfSome}
use Rattle.std.specs.Option.{option_map}
use Rattle.std.proofs.lemmas.List.{length-append, length-take-le}
use Rattle.rbc_command.specs.Commands.{operation_in, command_of}
use Rattle.rbc_command.specs.SenseData.{no_command, outside, no_medium, not_started, removal_prevented}
use Rattle.rbc_command.specs.declared.sense.Sense.{Sense}
use Rattle.rbc_command.specs.declared.command.Command.{Command}
use Rattle.rbc_command.specs.declared.command.Command.TheVariants as commands
use Rattle.rbc_disk.specs.Disk.{Disk, IsSound, blocks_at, overwrite, written}
use Rattle.rbc_disk.specs.Units.{UnitState, PlainDisk, plain_disk, has_place}
use Rattle.rbc_disk.specs.Requests.{request_of, plain_request, is_inquiry, is_eject, needs_medium, is_outside, is_past, data_length}
use Rattle.rbc_disk.specs.Checks.{check_if, check_of, first_of, mark_check, told_marks, tray_check, request_check, field_check}
use Rattle.rbc_disk.specs.Runs.{need_at, need_of, data_length_by, data_length_of, Feeds, MayEnd, failure_of, medium_ended, medium_after, answer_by, answer_of}
use Rattle.rbc_disk.specs.Calls.{Call, after_calls, Happened}
use Rattle.rbc_disk.specs.Calls.Call.{Ran, Cleared, Changed}
use Rattle.rbc_disk.specs.Blocks.{medium_then, OnOne, is_among, put, last_put, ReadLaw}
use Rattle.rbc_disk.specs.declared.request.Request.{Request}
use Rattle.rbc_disk.specs.declared.request.Request.TheVariants as requests
use Rattle.rbc_disk.specs.declared.command.BufferPlan.{BufferPlan}
use Rattle.rbc_disk.specs.declared.command.Need.TheVariants.{Payload, RunNow}
use Rattle.rbc_disk.proofs.BlockLemmas.{block_of_blocks, block_within, block_before, block_behind}

-- where no check holds, none of the chain does
behind_check : (b : Bool) (check : Sense) (others : Option Sense) → check_if b check others ≡ None → (b ≡ false) × (others ≡ None)
behind_check true check others e = cc e
behind_check false check others e = (refl, e)

behind_first : (check others : Option Sense) → first_of check others ≡ None → others ≡ None
behind_first None others e = e
behind_first (Some check) others e = cc e

pub unchecked : (check failure : Option Sense) → MayEnd check failure None → check ≡ None
unchecked None failure e = refl
unchecked (Some check) failure e = cc e

pub request_inside : (request : Request) (buffer : BufferPlan) (plain : PlainDisk) → request_check request buffer plain ≡ None → is_outside request plain.medium.blocks ≡ false
request_inside request buffer plain e =
    let allowed = (behind_check (is_eject request && plain.unit.is_prevented) removal_prevented _ e).1 in
    let loaded = behind_first (tray_check request plain.medium) _ allowed in
    let present = (behind_check (needs_medium request && not plain.medium.is_present) no_medium _ loaded).1 in
    let started = (behind_check (needs_medium request && not plain.unit.is_started) not_started _ present).1 in
    (behind_check (is_outside request plain.medium.blocks) outside _ started).0

pub fields_pass : (cdb : List ℕ) (buffer : BufferPlan) (plain : PlainDisk) (place : ℕ) → check_of cdb buffer plain place ≡ None → field_check (request_of plain.medium.is_bay cdb) buffer plain ≡ None
unfolding check_of
fields_pass cdb buffer plain place e =
    behind_first (told_marks (is_inquiry (operation_in cdb)) (mark_check (has_place plain.unit.reset place) (has_place plain.unit.changed place))) _
    (behind_check (is_none (operation_in cdb)) no_command _ e).1

plain_is : (cdb : List ℕ) → request_of false cdb ≡ plain_request (command_of cdb)
unfolding request_of
plain_is cdb = refl

-- over a medium that is no bay
request_is : (is_bay : Bool) (cdb : List ℕ) (command : Command) → is_bay ≡ false → command_of cdb ≡ Ok command → request_of is_bay cdb ≡ Ok (requests.Plain command)
request_is is_bay cdb command no_bay e = ap (λ b. request_of b cdb) no_bay ∙ plain_is cdb ∙ ap plain_request e

pub within_blocks : (lba count blocks : ℕ) → is_past lba count blocks ≡ false → lba + count ≤ blocks
within_blocks lba count blocks e = grind arith

-- the blocks of a command that ran well are inside the medium
module _ (cdb : List ℕ) (buffer : BufferPlan) (plain : PlainDisk) (place : ℕ) (no_bay : plain.medium.is_bay ≡ false) (e : check_of cdb buffer plain place ≡ None) where
  passes : (command : Command) → command_of cdb ≡ Ok command → is_outside (requests.Plain command) plain.medium.blocks ≡ false
  passes command k =
      request_inside (requests.Plain command) buffer plain
      (ap (λ r. field_check r buffer plain) (sym (request_is plain.medium.is_bay cdb command no_bay k)) ∙ fields_pass cdb buffer plain place e)

-- a WRITE of one block or more has all of its data
fed_all : (check : Option Sense) (len : ℕ) (payload : List ℕ) → check ≡ None → 0 < len → Feeds (need_at check len) payload → length payload ≡ len
fed_all (Some check) len payload e some h = cc e
fed_all None len payload e some h = by_test (len == 0) refl
  where
    by_test : (b : Bool) → (len == 0) ≡ b → length payload ≡ len
    by_test true t = absurd (let none : len ≡ 0 = grind arith in omega arith)
    by_test false t = subst (λ b. Feeds (if b then RunNow else Payload len) payload) t h

-- a medium that is no bay, and the bytes of its blocks
record Holds (held : ℕ → List ℕ) (medium : Disk) : Type 0 where
  bytes : List ℕ
  is : medium.bytes ≡ Some bytes
  size : length bytes ≡ 512 * medium.blocks
  no_bay : medium.is_bay ≡ false
  each : (block : ℕ) → block < medium.blocks → blocks_at block 1 bytes ≡ held block

pub overwrite_size : (at : ℕ) (bytes new : List ℕ) → at + length new ≤ length bytes → length (overwrite bytes at new) ≡ length bytes
overwrite_size at bytes new h =
    omega (arith, length-append (take at bytes) (new ++ drop (length new) (drop at bytes)), length-append new (drop (length new) (drop at bytes)), length-take-le at bytes (omega arith), length-drop (length new) (drop at bytes), length-drop at bytes)

-- what a WRITE leaves
module _ (held : ℕ → List ℕ) (medium : Disk) (h : Holds held medium) (payload : List ℕ) (lba count : ℕ) (inside : lba + count ≤ medium.blocks) where
  none_put : count ≡ 0 → (block : ℕ) → is_among lba count block ≡ false
  none_put e block = grind arith

  put_some : (b : Bool) (block : ℕ) → is_among lba count block ≡ b → length payload ≡ 512 * count → block < medium.blocks →
      blocks_at block 1 (overwrite h.bytes (512 * lba) payload) ≡ (if b then blocks_at (block - lba) 1 payload else held block)
  put_some true block e size below =
      let low : lba ≤ block = grind arith in
      let high : block < lba + count = grind arith in
      let whole = h.size in
      block_within lba count block h.bytes payload size (omega arith) low high
  put_some false block e size below = by_test (nat_lt block lba) refl
    where
      by_test : (b : Bool) → nat_lt block lba ≡ b → blocks_at block 1 (overwrite h.bytes (512 * lba) payload) ≡ held block
      by_test true t = let low : block < lba = grind arith in block_before lba count block h.bytes payload size (let w = h.size in omega arith) low ∙ h.each block below
      by_test false t = let high : lba + count ≤ block = grind arith in block_behind lba count block h.bytes payload size (let w = h.size in omega arith) high ∙ h.each block below

  write_holds : (b : Bool) → (count == 0) ≡ b → (0 < count → length payload ≡ 512 * count) →
      Holds (λ block. if is_among lba count block then blocks_at (block - lba) 1 payload else held block) (if b then medium else written medium lba payload)
  write_holds true e fed = record {
    bytes = h.bytes;
    is = h.is;
    size = h.size;
    no_bay = h.no_bay;
    each = λ block below. h.each block below ∙ sym (ap (λ b. if b then blocks_at (block - lba) 1 payload else held block) (none_put (let z : count ≡ 0 = grind arith in z) block));
  }
  write_holds false e fed =
      let some : 0 < count = grind arith in
      let size = fed some in
      record {
        bytes = overwrite h.bytes (512 * lba) payload;
        is = ap (option_map (λ bytes. overwrite bytes (512 * lba) payload)) h.is;
        size = overwrite_size (512 * lba) h.bytes payload (let w = h.size in omega (arith, size)) ∙ h.size;
        no_bay = h.no_bay;
        each = λ block below. put_some (is_among lba count block) block refl size below;
      }

-- what a run leaves
run_holds : (r : Result Command Sense) (held : ℕ → List ℕ) (medium : Disk) (payload : List ℕ) → Holds held medium →
    ((lba count : ℕ) → r ≡ Ok (commands.Write lba count) → lba + count ≤ medium.blocks) → ((lba count : ℕ) → r ≡ Ok (commands.Write lba count) → 0 < count → length payload ≡ 512 * count) →
    Holds (λ block. put r payload block (held block)) (medium_ended (plain_request r) payload None medium)
run_holds (Err refused) held medium payload h inside fed = h
run_holds (Ok commands.TestReady) held medium payload h inside fed = h
run_holds (Ok (commands.Inquiry allocation)) held medium payload h inside fed = h
run_holds (Ok (commands.StartStop start)) held medium payload h inside fed = h
run_holds (Ok (commands.Prevent on)) held medium payload h inside fed = h
run_holds (Ok commands.Capacity) held medium payload h inside fed = h
run_holds (Ok (commands.Read lba count)) held medium payload h inside fed = h
run_holds (Ok (commands.Write lba count)) held medium payload h inside fed = write_holds held medium h payload lba count (inside lba count refl) (count == 0) refl (fed lba count refl)
run_holds (Ok (commands.Verify lba count)) held medium payload h inside fed = h
run_holds (Ok commands.Sync) held medium payload h inside fed = h

pub checked_leaves : (request : Result Request Sense) (payload : List ℕ) (check : Sense) (medium : Disk) → medium_ended request payload (Some check) medium ≡ medium
checked_leaves (Ok request) payload check medium = refl
checked_leaves (Err refused) payload check medium = refl

-- after the calls each block holds what was last put there
holds_then : (start : Disk) (bytes : List ℕ) (calls : List Call) → start.bytes ≡ Some bytes → IsSound start → start.is_bay ≡ false → Happened calls → OnOne start calls → Holds (last_put bytes calls) (medium_then start calls)
holds_then start bytes [] e sound no_bay happened on_one = record { bytes = bytes; is = e; size = subst (λ b. IfSome b (λ bytes. length bytes ≡ 512 * start.blocks)) e sound.whole; no_bay = no_bay; each = λ block below. refl }
holds_then start bytes (Cleared logins ∷ calls) e sound no_bay happened on_one = holds_then start bytes calls e sound no_bay happened.0 on_one
holds_then start bytes (Changed logins ∷ calls) e sound no_bay happened on_one = holds_then start bytes calls e sound no_bay happened.0 on_one
holds_then start bytes (Ran cdb buffer place payload medium (Some check) ∷ calls) e sound no_bay happened on_one =
    subst (Holds (last_put bytes calls)) (sym (checked_leaves (request_of (medium_then start calls).is_bay cdb) payload check (medium_then start calls))) (holds_then start bytes calls e sound no_bay happened.0 on_one.0)
holds_then start bytes (Ran cdb buffer place payload medium None ∷ calls) e sound no_bay happened on_one =
    let h : Holds (last_put bytes calls) medium = subst (Holds (last_put bytes calls)) (sym on_one.1) (holds_then start bytes calls e sound no_bay happened.0 on_one.0) in
    let plain = plain_disk (after_calls calls) medium in
    let free : check_of cdb buffer plain place ≡ None = unchecked (check_of cdb buffer plain place) (failure_of medium.is_bay cdb) happened.1.1 in
    let is : request_of medium.is_bay cdb ≡ plain_request (command_of cdb) = ap (λ b. request_of b cdb) h.no_bay ∙ plain_is cdb in
    let ran = run_holds (command_of cdb) (last_put bytes calls) medium payload h
    (λ lba count k. within_blocks lba count medium.blocks (passes cdb buffer plain place h.no_bay free (commands.Write lba count) k))
    (λ lba count k some. fed_all (check_of cdb buffer plain place) (512 * count) payload free (omega arith)
    (subst (λ len. Feeds (need_at (check_of cdb buffer plain place) len) payload) (ap data_length_by (request_is medium.is_bay cdb (commands.Write lba count) h.no_bay k)) happened.1.2)) in
    subst (λ m. Holds (λ block. put (command_of cdb) payload block (last_put bytes calls block)) (medium_after cdb payload None m)) on_one.1
    (subst (λ r. Holds (λ block. put (command_of cdb) payload block (last_put bytes calls block)) (medium_ended r payload None medium)) (sym is) ran)

pub reads_what_was_put : ReadLaw
reads_what_was_put start bytes calls cdb buffer place payload medium lba count block e sound no_bay happened on_one read below =
    let h : Holds (last_put bytes calls) medium = subst (Holds (last_put bytes calls)) (sym on_one.1) (holds_then start bytes calls e sound no_bay happened.0 on_one.0) in
    let plain = plain_disk (after_calls calls) medium in
    let free : check_of cdb buffer plain place ≡ None = unchecked (check_of cdb buffer plain place) (failure_of medium.is_bay cdb) happened.1.1 in
    let inside : lba + count ≤ medium.blocks = within_blocks lba count medium.blocks (passes cdb buffer plain place h.no_bay free (commands.Read lba count) read) in
    let size = h.size in
    ap (λ r. option_map (blocks_at block 1) (answer_by r medium)) (request_is medium.is_bay cdb (commands.Read lba count) h.no_bay read)
    ∙ ap (λ b. option_map (blocks_at block 1) (option_map (blocks_at lba count) b)) h.is
    ∙ ap Some (block_of_blocks lba count block h.bytes below (omega arith) ∙ h.each (lba + block) (omega arith))
