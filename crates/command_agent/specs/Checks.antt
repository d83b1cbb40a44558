-- The checks of a fetched ORB, in their order (NCITS 325-1998, command block ORB).
use Rattle.std.specs.Prelude.{◌≡◌, ℕ, ◌+◌, ◌^◌, ◌≤◌, ◌==◌, ◌&&◌, nat_lt, not, Bool, true, false, if◌then◌else◌, Option, Some, None}
use Rattle.orb_layout.specs.declared.command.CommandOrb.{CommandOrb}
use Rattle.orb_layout.specs.declared.status.StatusKind.{StatusKind}
use Rattle.orb_layout.specs.declared.status.StatusKind.TheVariants as kinds
use Rattle.orb_layout.specs.declared.ask.FailCause.{FailCause}
use Rattle.orb_layout.specs.declared.ask.FailCause.TheVariants as causes

-- the fields with which an ORB is illegal: its speed, its max_payload, the page size and the number of elements of its page table, and the end of its buffer without one
unfoldable pub refusal : CommandOrb → Option StatusKind
refusal orb =
    if nat_lt 2 orb.speed then Some (kinds.Illegal 0x02)
    else if nat_lt (7 + orb.speed) orb.max_payload then Some (kinds.Illegal 0xff)
    else if orb.has_table && not (orb.page_size == 0) then Some (kinds.Illegal 0x03)
    else if orb.has_table && nat_lt 64 orb.data_size then Some (kinds.Illegal 0xff)
    else if not orb.has_table && nat_lt (2 ^ 48) (orb.descriptor + orb.data_size) then Some (kinds.Illegal 0xff)
    else None

-- how an ORB ends without running: the first row that holds
unfoldable pub verdict : CommandOrb → Bool → Option StatusKind
verdict orb aborted =
    if orb.format == 3 then Some kinds.Dummy
    else if not (orb.format == 0) then Some (kinds.Illegal 0x01)
    else if aborted then Some kinds.Aborted
    else refusal orb

-- an illegal ORB makes the agent dead
abbrev pub death_by : StatusKind → Option FailCause
death_by (kinds.Illegal meaning) = Some causes.Grammar
death_by _ = None

-- what is known of an ORB that passed its checks
pub record IsPassed (orb : CommandOrb) : Type 0 where
  pub limit : orb.max_payload ≤ 9
  pub few : orb.has_table ≡ true → orb.data_size ≤ 64
  pub inside : orb.has_table ≡ false → orb.descriptor + orb.data_size ≤ 2 ^ 48

-- a page table is read where it has elements
abbrev pub reads_table : CommandOrb → Bool
reads_table orb = orb.has_table && not (orb.data_size == 0)

-- the bytes of a buffer whose page table is not read
abbrev pub plain_length : CommandOrb → ℕ
plain_length orb = if orb.has_table then 0 else orb.data_size
