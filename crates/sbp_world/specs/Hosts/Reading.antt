-- What the run terms say of an initiator's lists is what its slots say (NCITS 325-1998, ORBs in the memory of the initiator): whether the last
-- ORB is linked and which quadlet of its link comes next; which ORBs wait, and whether a slot is free; the name that the next ORB gets, the
-- last ORB that is linked, and the ORB that an address names.
use Rattle.std.specs.Prelude.{◌≡◌, ℕ, ◌-◌, ◌<◌, ◌==◌, ◌&&◌, not, is_none, is_some, if◌then◌else◌, List, Some}
use Rattle.orb_list.specs.declared.list.PresentList.{PresentList}
use Rattle.orb_list.specs.Table as table
use Rattle.orb_list.specs.Table.{SlotTable, find_in, list_number, lowest, orb_number, slot_in, waits_high, waits_low}
use Rattle.sbp_journal.specs.Run.{Moment}
use Rattle.sbp_laws.specs.Lists.{present_list, linked, slots, lowest_vacant, prepared_in}
use Rattle.sbp_laws.specs.Actions.{is_mid_link, is_lowered, new_list, new_number, waits_of}
use Rattle.sbp_world.specs.Hosts.Rows.{name_in}
use Rattle.sbp_world.specs.Hosts.Fits.{AreRows}

-- the last ORB of a list that is linked
abbrev pub last_linked : PresentList → ℕ
last_linked list = if table.is_done list.link then list.tail.number else list.tail.number - 1

pub record ReadAs (past : List Moment) (i : ℕ) (s : SlotTable) : Type 0 where
  pub none : is_none (present_list past i) ≡ not (is_some s.present)
  pub mid_link : is_mid_link past i (present_list past i) ≡ table.is_mid_link s.present
  pub low : (is_mid_link past i (present_list past i) && not (is_lowered past i (present_list past i))) ≡ is_some (waits_low s.present)
  pub high : (is_mid_link past i (present_list past i) && is_lowered past i (present_list past i)) ≡ is_some (waits_high s.present)
  pub waits : (k : ℕ) → waits_of past i k (present_list past i) ≡ is_some (find_in s.slots k)
  pub full : (lowest_vacant (slots past i) == 32) ≡ not (is_some (lowest s.slots))
  pub list : new_list past i ≡ list_number s.present s.lists
  pub number : new_number past i ≡ orb_number s.present
  pub rung : (list : PresentList) → s.present ≡ Some list → linked past i list.tail.list - 1 ≡ last_linked list
  pub named : (slot : ℕ) → slot < 32 → prepared_in past i slot ≡ name_in (slot_in s.slots slot).last

abbrev pub ReadLaw : Type 0
ReadLaw = (past : List Moment) (i : ℕ) (s : SlotTable) → AreRows past i s → ReadAs past i s
