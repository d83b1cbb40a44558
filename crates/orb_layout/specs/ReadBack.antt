-- What ties reading to writing: reading what was written gives the value, whatever stands behind it; a
-- status block that was read is written as the bytes it was read from; and of bytes the front alone is read.
use Rattle.std.specs.Prelude.{◌≡◌, ℕ, Bool, ◌<◌, ◌≤◌, List, ◌++◌, length, take, slice_index_or, Some, Ok}
use Rattle.std.specs.List.{All, AllByRecursion}
use Rattle.orb_layout.specs.declared.command.CommandOrb.{CommandOrb}
use Rattle.orb_layout.specs.declared.management.ManagementOrb.{ManagementOrb}
use Rattle.orb_layout.specs.declared.login.LoginResponse.{LoginResponse}
use Rattle.orb_layout.specs.declared.query.QueryEntry.{QueryEntry}
use Rattle.orb_layout.specs.declared.status.StatusBlock.{StatusBlock}
use Rattle.orb_layout.specs.CommandOrbs.{IsCommandOrb, read_command, command_orb, command_bytes}
use Rattle.orb_layout.specs.Pointers.{pointer_at}
use Rattle.orb_layout.specs.ManagementOrbs.{IsManagementOrb, read_management, management_bytes}
use Rattle.orb_layout.specs.LoginResponses.{IsLoginResponse, read_login, login_bytes}
use Rattle.orb_layout.specs.QueryResponses.{IsQueryEntry, query_bytes, query_count, query_entry}
use Rattle.orb_layout.specs.StatusBlocks.{IsStatusBlock, is_management, read_block, status_bytes}

abbrev pub CommandReadsBack : Type 0
CommandReadsBack = (orb : CommandOrb) (rest : List ℕ) → IsCommandOrb orb → read_command (command_bytes orb ++ rest) ≡ Ok orb

abbrev pub ManagementReadsBack : Type 0
ManagementReadsBack = (orb : ManagementOrb) (rest : List ℕ) → IsManagementOrb orb → read_management (management_bytes orb ++ rest) ≡ Ok orb

abbrev pub LoginReadsBack : Type 0
LoginReadsBack = (response : LoginResponse) (rest : List ℕ) → IsLoginResponse response → read_login (login_bytes response ++ rest) ≡ Ok response

-- A status block has no bytes behind it, and is read by the word whether it is of the kind management.
abbrev pub StatusReadsBack : Type 0
StatusReadsBack = (block : StatusBlock) → IsStatusBlock block → read_block (is_management block.kind) (status_bytes block) ≡ Ok block

-- The other way: what is read is a block of a row, of the kind that was asked for, and it is written as
-- the bytes that it was read from. So each row has bytes of its own, and no bit of a block is free.
pub record IsSpelled (management : Bool) (bytes : List ℕ) (block : StatusBlock) : Type 0 where
  pub row : IsStatusBlock block
  pub asked : is_management block.kind ≡ management
  pub written : status_bytes block ≡ bytes

abbrev pub StatusWritesBack : Type 0
StatusWritesBack = (management : Bool) (bytes : List ℕ) (block : StatusBlock) → All (λ byte. byte < 256) bytes → read_block management bytes ≡ Ok block → IsSpelled management bytes block

-- Of a query response the number of logins is read also where it was cut short.
abbrev pub QueryCountsBack : Type 0
QueryCountsBack = (logins : List QueryEntry) (kept : ℕ) (rest : List ℕ) → length logins ≤ 8 → 4 ≤ kept → query_count (take kept (query_bytes logins ++ rest)) ≡ Some (length logins)

-- Each login stands at its place.
abbrev pub QueryEntriesReadBack : Type 0
QueryEntriesReadBack = (logins : List QueryEntry) (at : ℕ) (other : QueryEntry) (rest : List ℕ) → AllByRecursion IsQueryEntry logins → at < length logins → query_entry (query_bytes logins ++ rest) at ≡ slice_index_or logins at other

-- A command ORB is read of its 32 bytes alone, and a pointer at the front of its 8.
abbrev pub CommandStandsInFront : Type 0
CommandStandsInFront = (bytes : List ℕ) (kept : ℕ) → 32 ≤ kept → command_orb (take kept bytes) ≡ command_orb bytes

abbrev pub PointerStandsInFront : Type 0
PointerStandsInFront = (bytes : List ℕ) (kept : ℕ) → 8 ≤ kept → pointer_at (take kept bytes) 0 ≡ pointer_at bytes 0
