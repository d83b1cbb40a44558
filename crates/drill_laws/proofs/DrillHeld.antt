-- What the blocks of a drill's first unit hold, run by run.
use Rattle.std.proofs.Common.{◌≡◌, ◌∙◌, refl, sym, ap, subst, ℕ, ◌+◌, ◌*◌, ◌-◌, ◌<◌, ◌≤◌, ◌==◌, Bool, true, false, nat_lt, List, [], ◌∷◌, length, replicate, take, slice_set, Option, Some, None, Ok, arith}
use Rattle.std.specs.Option.{option_map}
use Rattle.std.proofs.lemmas.Bool.Decides.{nat_tests}
use Rattle.std.proofs.lemmas.List.{take_all}
use Rattle.login_table.specs.declared.login.Login.{Login}
use Rattle.rbc_command.specs.declared.command.Command.TheVariants as commands
use Rattle.rbc_disk.specs.Disk.{Disk, blocks_at, overwrite, written}
use Rattle.rbc_disk.specs.Requests.{request_of}
use Rattle.rbc_disk.specs.Runs.{after_run, data_length_by, data_length_of, medium_ended}
use Rattle.rbc_disk.specs.Units.{PlainDisk}
use Rattle.rbc_disk.proofs.BlockLemmas.{block_before, block_behind, block_within}
use Rattle.rbc_disk.proofs.ReadLemmas.{overwrite_size}
use Rattle.script_text.specs.Draws.{block_of, block_read, block_write}
use Rattle.sbp_journal.specs.declared.event.Cmd.{Cmd}
use Rattle.sbp_laws.specs.Actions.{buffer_of, out_buffer}
use Rattle.sbp_laws.specs.DiskFold.{left_by_run, moves_disc, unit_at}
use Rattle.sbp_laws.specs.Terms.{data_of}
use Rattle.drill_laws.specs.DrillBlocks.{is_write_of, writes_to}
use Rattle.drill_laws.specs.DrillLines.{IsDrillCommand}
use Rattle.drill_laws.proofs.DrillDisk.{commands_pass, lba_back, read_block, read_cdb, read_is, write_block, write_cdb, write_is}
use Rattle.drill_laws.proofs.DrillRan.{HasFirst, moved_none}

-- ---- what a line's command writes
out_data : (bytes : List ℕ) → data_of (out_buffer bytes) ≡ bytes
out_data [] = refl
out_data (byte ∷ bytes) = refl

pub write_data : (lba byte : ℕ) → data_of (buffer_of (block_write lba byte)) ≡ replicate 512 byte
unfolding block_write block_of
write_data lba byte = out_data (take (length (replicate 512 byte)) (replicate 512 byte)) ∙ take_all (length (replicate 512 byte)) (replicate 512 byte) (omega arith)

write_named : (lba block : ℕ) → lba < 64 → writes_to block (write_block lba) ≡ (lba == block)
write_named lba block few = ap (λ n. is_write_of block (Ok (commands.Write n 1))) (lba_back 0x2A lba few)

read_named : (lba block : ℕ) → lba < 64 → writes_to block (read_block lba) ≡ false
read_named lba block few = refl

pub names_write : (cmd : Cmd) (lba byte block : ℕ) → lba < 64 → cmd ≡ block_write lba byte → writes_to block cmd.cdb ≡ (lba == block)
names_write cmd lba byte block few e = ap (λ (c : Cmd). writes_to block c.cdb) e ∙ ap (writes_to block) (write_cdb lba byte) ∙ write_named lba block few

pub names_read : (cmd : Cmd) (lba block : ℕ) → lba < 64 → cmd ≡ block_read lba → writes_to block cmd.cdb ≡ false
names_read cmd lba block few e = ap (λ (c : Cmd). writes_to block c.cdb) e ∙ ap (writes_to block) (read_cdb lba) ∙ read_named lba block few

-- ---- the blocks
pub data Holding (w : ℕ → Option (List ℕ)) (start now : List ℕ) : Type 0 where
  as_it_was : ((i : ℕ) → w i ≡ None) → now ≡ start → Holding w start now
  by_one : (i : ℕ) (bytes : List ℕ) → w i ≡ Some bytes → now ≡ bytes → Holding w start now

pub record Held (start : List ℕ) (w : ℕ → ℕ → Option (List ℕ)) (medium : Disk) : Type 0 where
  pub bytes : List ℕ
  pub is : medium.bytes ≡ Some bytes
  pub size : length bytes ≡ length start
  pub blocks : (block : ℕ) → Holding (λ i. w i block) (blocks_at block 1 start) (blocks_at block 1 bytes)

pub same_holding : (w v : ℕ → Option (List ℕ)) (start now then : List ℕ) → ((i : ℕ) → v i ≡ w i) → then ≡ now → Holding w start now → Holding v start then
same_holding w v start now then same e (as_it_was none is) = as_it_was (λ i. same i ∙ none i) (e ∙ is)
same_holding w v start now then same e (by_one i bytes some is) = by_one i bytes (same i ∙ some) (e ∙ is)

pub same_held : (start : List ℕ) (w v : ℕ → ℕ → Option (List ℕ)) (medium later : Disk) → ((i block : ℕ) → v i block ≡ w i block) → later.bytes ≡ medium.bytes → Held start w medium → Held start v later
same_held start w v medium later same e h = record {
  bytes = h.bytes;
  is = e ∙ h.is;
  size = h.size;
  blocks = λ block. same_holding (λ i. w i block) (λ i. v i block) (blocks_at block 1 start) (blocks_at block 1 h.bytes) (blocks_at block 1 h.bytes) (λ i. same i block) refl (h.blocks block);
}

-- one block is written
pub write_held : (start : List ℕ) (w v : ℕ → ℕ → Option (List ℕ)) (medium : Disk) (i lba : ℕ) (data_now : List ℕ) → v i lba ≡ Some data_now → ((j block : ℕ) → (lba == block) ≡ false → v j block ≡ w j block) → length data_now ≡ 512 → 512 * (lba + 1) ≤ length start
    → Held start w medium → Held start v (written medium lba data_now)
write_held start w v medium i lba data_now here others len inside h = record {
  bytes = overwrite h.bytes (512 * lba) data_now;
  is = ap (option_map (λ bytes. overwrite bytes (512 * lba) data_now)) h.is;
  size = (let s = h.size in overwrite_size (512 * lba) h.bytes data_now (omega (arith, s, len, inside))) ∙ h.size;
  blocks = λ block. by block (lba == block) refl;
}
  where
    room : 512 * (lba + 1) ≤ length h.bytes
    room = (let s = h.size in omega (arith, s, inside))

    large : length data_now ≡ 512 * 1
    large = len

    whole : take (512 * 1) data_now ≡ data_now
    whole = take_all (512 * 1) data_now (omega (arith, len))

    by : (block : ℕ) (b : Bool) → (lba == block) ≡ b → Holding (λ j. v j block) (blocks_at block 1 start) (blocks_at block 1 (overwrite h.bytes (512 * lba) data_now))
    by block true e =
        let same : lba ≡ block = grind (arith, nat_tests) in
        let own : blocks_at lba 1 (overwrite h.bytes (512 * lba) data_now) ≡ data_now
        = block_within lba 1 lba h.bytes data_now large room (omega arith) (omega arith) ∙ ap (λ n. blocks_at n 1 data_now) (let none : lba - lba ≡ 0 = omega arith in none) ∙ whole in
        subst (λ n. Holding (λ j. v j n) (blocks_at n 1 start) (blocks_at n 1 (overwrite h.bytes (512 * lba) data_now))) same (by_one i data_now here own)
    by block false e =
        same_holding (λ j. w j block) (λ j. v j block) (blocks_at block 1 start) (blocks_at block 1 h.bytes) _ (λ j. others j block e) (beside (nat_lt block lba) refl) (h.blocks block)
      where
        beside : (c : Bool) → nat_lt block lba ≡ c → blocks_at block 1 (overwrite h.bytes (512 * lba) data_now) ≡ blocks_at block 1 h.bytes
        beside true f = block_before lba 1 block h.bytes data_now large room (grind (arith, nat_tests))
        beside false f = block_behind lba 1 block h.bytes data_now large room (grind (arith, nat_tests))

-- ---- what a run leaves of the first unit
pub first_after : (units : List PlainDisk) → HasFirst units → (cmd : Cmd) → IsDrillCommand cmd → (cdb bytes : List ℕ) → cdb ≡ cmd.cdb → (place unit : ℕ) (places : List (Option Login)) → unit ≡ 0 → unit_at (slice_set units unit (left_by_run cdb bytes None place unit places (unit_at units unit))) 0 ≡ after_run cmd.cdb bytes None place (unit_at units 0)
first_after units h cmd is cdb bytes e place unit places z =
    subst (λ u. unit_at (slice_set units u (left_by_run cdb bytes None place u places (unit_at units u))) 0 ≡ after_run cmd.cdb bytes None place (unit_at units 0)) (sym z)
    (subst (λ us. unit_at (slice_set us 0 (left_by_run cdb bytes None place 0 places (unit_at us 0))) 0 ≡ after_run cmd.cdb bytes None place (unit_at us 0)) (sym h.is)
    (ap (λ c. left_by_run c bytes None place 0 places h.plain) e ∙ moved_none (moves_disc cmd.cdb None h.plain) _ _ (commands_pass.moves_none cmd h.plain is)))

pub write_leaves : (cmd : Cmd) (lba byte : ℕ) → lba < 64 → cmd ≡ block_write lba byte → (bytes : List ℕ) (place : ℕ) (plain : PlainDisk) → (after_run cmd.cdb bytes None place plain).medium ≡ written plain.medium lba bytes
write_leaves cmd lba byte few e bytes place plain =
    ap (λ r. medium_ended r bytes None plain.medium) (ap (λ (c : Cmd). request_of plain.medium.is_bay c.cdb) e ∙ ap (request_of plain.medium.is_bay) (write_cdb lba byte) ∙ write_is plain.medium.is_bay lba few)

pub read_leaves : (cmd : Cmd) (lba : ℕ) → lba < 64 → cmd ≡ block_read lba → (bytes : List ℕ) (place : ℕ) (plain : PlainDisk) → (after_run cmd.cdb bytes None place plain).medium ≡ plain.medium
read_leaves cmd lba few e bytes place plain =
    ap (λ r. medium_ended r bytes None plain.medium) (ap (λ (c : Cmd). request_of plain.medium.is_bay c.cdb) e ∙ ap (request_of plain.medium.is_bay) (read_cdb lba) ∙ read_is plain.medium.is_bay lba few)

pub write_needs : (cmd : Cmd) (lba byte : ℕ) → lba < 64 → cmd ≡ block_write lba byte → (is_bay : Bool) → data_length_of is_bay cmd.cdb ≡ 512
write_needs cmd lba byte few e is_bay = ap data_length_by (ap (λ (c : Cmd). request_of is_bay c.cdb) e ∙ ap (request_of is_bay) (write_cdb lba byte) ∙ write_is is_bay lba few)
