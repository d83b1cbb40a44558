-- What each step of an initiator's slots and the note that tells it keep (NCITS 325-1998, ORBs in the memory of the initiator): the run terms
-- of the initiator are those of its slots before and behind it.
use Rattle.std.specs.Prelude.{◌≡◌, ℕ, suc, ◌==◌, not, Bool, true, false, List, [], ◌∷◌, Option, Some, None, Ok}
use Rattle.bus_memory.specs.Memory.{Memory}
use Rattle.orb_layout.specs.declared.status.StatusBlock.{StatusBlock}
use Rattle.orb_list.specs.declared.list.Linking.{Linking}
use Rattle.orb_list.specs.Tickets.{TicketParts}
use Rattle.orb_list.specs.Table as table
use Rattle.orb_list.specs.Table.{SlotTable, new_table, slot_in, waiting, added, may_prepare, next_ticket, waits_low, waits_high}
use Rattle.sbp_journal.specs.Run.{Moment, asked, said}
use Rattle.sbp_journal.specs.Wire.{terms as wire_terms}
use Rattle.sbp_journal.specs.declared.event.Event.{Event}
use Rattle.sbp_journal.specs.declared.event.Event.TheVariants as events
use Rattle.sbp_journal.specs.declared.event.Action.TheVariants as actions
use Rattle.sbp_journal.specs.declared.operation.Operation.TheVariants as operations
use Rattle.sbp_journal.specs.declared.operation.OpWord.{OpWord}
use Rattle.sbp_journal.specs.declared.note.Note.{Note}
use Rattle.sbp_journal.specs.declared.note.Note.TheVariants as notes
use Rattle.sbp_journal.specs.declared.note.NoteBuffer.{NoteBuffer}
use Rattle.sbp_laws.specs.Turns.{event_of}
use Rattle.sbp_laws.specs.Packets.{access_at}
use Rattle.sbp_laws.specs.Lists.{last_got, src_in}
use Rattle.sbp_world.specs.Hosts.Fits.{AreRows}

-- A note says nothing of the slots of an initiator: it is none of its lists and abort, of a packet that it sends, or of a generation that
-- it sees.
abbrev pub is_beside : ℕ → Note → Bool
is_beside i (notes.Append j n k cdb buffer) = not (i == j)
is_beside i (notes.Low j n k) = not (i == j)
is_beside i (notes.Linked j n k) = not (i == j)
is_beside i (notes.Taken j n k status answer) = not (i == j)
is_beside i (notes.Drop j n) = not (i == j)
is_beside i (notes.Op j operations.Abort word) = not (i == j)
is_beside i (notes.Sent serial generation from to bytes) = not (from == suc i)
is_beside i (notes.Seen node generation) = not (node == suc i)
is_beside i _ = true

-- a line is no abort of an initiator
abbrev pub IsNoAbort : ℕ → Option Event → Type 0
IsNoAbort i (Some (events.Act j (actions.Abort k))) = (i == j) ≡ false
IsNoAbort i _ = Unit {0}

-- What is asked of a status that is taken: its src is that in the packet that was got last.
abbrev pub MayTake : List Moment → StatusBlock → Type 0
MayTake past block = src_in (access_at (wire_terms past) (last_got past)) ≡ block.src

pub record StepLaw : Type 0 where
  pub begins : (line i initiators : ℕ) (ready : Bool) → AreRows (said (notes.Begin initiators ready) ∷ asked line (events.Begin initiators ready) ∷ []) i new_table
  pub asked : (line : ℕ) (event : Event) (past : List Moment) (i : ℕ) (s : SlotTable) → AreRows past i s → AreRows (asked line event ∷ past) i s
  pub beside : (past : List Moment) (i : ℕ) (s : SlotTable) (note : Note) → AreRows past i s → is_beside i note ≡ true → AreRows (said note ∷ past) i s
  pub append : (past : List Moment) (i : ℕ) (cdb : List ℕ) (buffer : NoteBuffer) (s : SlotTable) (slot login : ℕ) → AreRows past i s → may_prepare s ≡ Ok slot → AreRows (said (notes.Append i (next_ticket s slot login).list (next_ticket s slot login).number cdb buffer) ∷ past) i (added s (next_ticket s slot login))
  pub low : (past : List Moment) (i : ℕ) (s : SlotTable) → AreRows past i s → (linking : Linking) (m : Memory) → waits_low s.present ≡ Some linking → AreRows (said (notes.Low i linking.tail.list linking.tail.number) ∷ past) i (table.low_step s m).1.0
  pub high : (past : List Moment) (i : ℕ) (s : SlotTable) → AreRows past i s → (linking : Linking) (m : Memory) → waits_high s.present ≡ Some linking → AreRows (said (notes.Linked i linking.tail.list linking.tail.number) ∷ past) i (table.high_step s m).1.0
  pub taken : (past : List Moment) (i : ℕ) (s : SlotTable) → AreRows past i s → (u : TicketParts) (m : Memory) (block : StatusBlock) (answer : List ℕ) → (table.status_step s m block).0 ≡ Ok u → MayTake past block → AreRows (said (notes.Taken i u.list u.number block.kind answer) ∷ past) i (table.status_step s m block).1.0
  pub dropped : (past : List Moment) (i : ℕ) (s : SlotTable) → AreRows past i s → (n : ℕ) → (table.drop_step s).0 ≡ Some n → AreRows (said (notes.Drop i n) ∷ past) i (table.drop_step s).1
  pub sent : (past : List Moment) (i : ℕ) (s : SlotTable) → AreRows past i s → (serial generation from to : ℕ) (bytes : List ℕ) → IsNoAbort i (event_of past) → AreRows (said (notes.Sent serial generation from to bytes) ∷ past) i s
  pub pinned : (past : List Moment) (i : ℕ) (s : SlotTable) → AreRows past i s → (serial generation to : ℕ) (bytes : List ℕ) (u : TicketParts) → event_of past ≡ Some (events.Act i (actions.Abort u.number)) → s.pinned ≡ None → table.find_in s.slots u.number ≡ Some u → AreRows (said (notes.Sent serial generation (suc i) to bytes) ∷ past) i (table.pin_step s u).1
  pub unpinned : (past : List Moment) (i : ℕ) (s : SlotTable) → AreRows past i s → (word : OpWord) (m : Memory) → AreRows (said (notes.Op i operations.Abort word) ∷ past) i (table.unpin_step s m).0
