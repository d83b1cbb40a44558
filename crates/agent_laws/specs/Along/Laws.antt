-- The laws of an agent along a list, of every list whose ORBs are known by tests.
use Rattle.std.specs.Prelude.{◌≡◌, ℕ, Bool, true, List}
use Rattle.orb_layout.specs.declared.command.CommandOrb.{CommandOrb}
use Rattle.page_table.specs.declared.segment.Segment.{Segment}
use Rattle.agent_laws.specs.Along.Lists.{OrbList}
use Rattle.agent_laws.specs.Along.Steps.{KeepsAlong, GrowsLaw}
use Rattle.agent_laws.specs.Along.Calls.{GoesAlongLaw}

-- The ORBs of a list by their numbers: their addresses, how many are linked, and whether bytes that are read are those of an ORB, a buffer is its
-- own, and bytes are the first of its data.
pub record TestedList : Type 0 where
  pub address : ℕ → ℕ
  pub linked : ℕ
  pub is_orb : ℕ → CommandOrb → Bool
  pub is_buffer : ℕ → CommandOrb → List Segment → Bool
  pub is_data : ℕ → CommandOrb → List Segment → List ℕ → Bool

abbrev pub list_by : TestedList → OrbList
list_by t = record {
  address = t.address;
  linked = t.linked;
  is_orb = λ k orb. t.is_orb k orb ≡ true;
  is_buffer = λ k orb segments. t.is_buffer k orb segments ≡ true;
  is_data = λ k orb segments bytes. t.is_data k orb segments bytes ≡ true;
}

-- Each call of an agent keeps it along a list, and tells of the ORB behind those that have ended.
abbrev pub CallsKeepAlong : Type 0
CallsKeepAlong = (t : TestedList) → KeepsAlong (list_by t)

-- It stays along a list that grows.
abbrev pub ListsMayGrow : Type 0
ListsMayGrow = (t more : TestedList) → GrowsLaw (list_by t) (list_by more)

-- Over every list of calls the ORBs of a list run and end in its order.
abbrev pub ListsGoInOrder : Type 0
ListsGoInOrder = (t : TestedList) → GoesAlongLaw (list_by t)
