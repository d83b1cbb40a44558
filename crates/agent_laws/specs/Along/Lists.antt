-- A list of ORBs of an initiator, as an agent is led along it (NCITS 325-1998, linked lists of ORBs).
use Rattle.std.specs.Prelude.{◌≡◌, ℕ, suc, ◌<◌, ◌≤◌, false, List, []}
use Rattle.orb_layout.specs.declared.command.CommandOrb.{CommandOrb}
use Rattle.orb_layout.specs.declared.pointer.OrbPointer.{OrbPointer}
use Rattle.orb_layout.specs.declared.pointer.OrbPointer.TheVariants.{Null, At}
use Rattle.page_table.specs.declared.segment.Segment.{Segment}
use Rattle.command_agent.specs.Machine.{aligned}
use Rattle.command_agent.specs.Checks.{reads_table}
use Rattle.command_agent.specs.Steps.{unread_buffer}

-- The ORBs of a list by their numbers: the address of each; how many are linked, the others are not yet named by a next pointer; and what may be
-- read of each: its bytes but for the next pointer; with these, its buffer; and with both, the first bytes of its data.
pub record OrbList : Type 1 where
  pub address : ℕ → ℕ
  pub linked : ℕ
  pub is_orb : ℕ → CommandOrb → Type 0
  pub is_buffer : ℕ → CommandOrb → List Segment → Type 0
  pub is_data : ℕ → CommandOrb → List Segment → List ℕ → Type 0

-- the next pointer of an ORB is null, or names the one behind it, which is linked
abbrev pub Leads : OrbList → ℕ → OrbPointer → Type 0
Leads l k Null = Unit {0}
Leads l k (At offset) = (aligned offset ≡ l.address (suc k)) × (suc k < l.linked)

-- the bytes that are read are those of the ORB of this number
pub record IsGood (l : OrbList) (k : ℕ) (orb : CommandOrb) : Type 0 where
  pub own : l.is_orb k orb
  pub leads : Leads l k orb.next

-- An ORB without elements of a page table names its buffer, and no bytes are the first of any data.
pub record IsLaid (l : OrbList) : Type 0 where
  pub buffer : (k : ℕ) (orb : CommandOrb) → l.is_orb k orb → reads_table orb ≡ false → l.is_buffer k orb (unread_buffer orb)
  pub empty : (k : ℕ) (orb : CommandOrb) (segments : List Segment) → l.is_orb k orb → l.is_buffer k orb segments → l.is_data k orb segments []

-- A list grows: more ORBs are linked, and those that were linked stay as they are.
pub record Grows (l more : OrbList) : Type 0 where
  pub linked : l.linked ≤ more.linked
  pub address : (k : ℕ) → k < l.linked → l.address k ≡ more.address k
  pub orb : (k : ℕ) → k < l.linked → (orb : CommandOrb) → l.is_orb k orb → more.is_orb k orb
  pub buffer : (k : ℕ) → k < l.linked → (orb : CommandOrb) (segments : List Segment) → l.is_buffer k orb segments → more.is_buffer k orb segments
  pub part : (k : ℕ) → k < l.linked → (orb : CommandOrb) (segments : List Segment) (bytes : List ℕ) → l.is_data k orb segments bytes → more.is_data k orb segments bytes
