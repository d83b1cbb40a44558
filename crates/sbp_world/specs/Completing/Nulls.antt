-- Of which ORB a null pointer is (NCITS 325-1998, ORBs in the memory of the initiator): in every run in which no initiator injected packets, or few logins were given, where the target got a null pointer from an initiator that
-- injected none, in answer to a read of the ORB of a slot or of its next pointer, the read was got when the ORB that was prepared last in this slot was the last one of its list that was linked. So it was behind each moment before
-- which the read was not sent; and the ORB is no earlier one than the last one that was linked at that moment.
use Rattle.std.specs.Prelude.{◌≡◌, ◌<◌, ◌≤◌, ℕ, suc, true, List, ◌∷◌, ◌++◌, length, Some, Ok}
use Rattle.bus_memory.specs.declared.window.Window.TheVariants as windows
use Rattle.bus_memory.specs.Windows.{start}
use Rattle.orb_layout.specs.declared.pointer.OrbPointer.TheVariants.{Null}
use Rattle.orb_layout.specs.CommandOrbs.{command_orb}
use Rattle.orb_layout.specs.Pointers.{pointer_at}
use Rattle.orb_layout.specs.Replies.{Answer, payload_of}
use Rattle.sbp_journal.specs.Addresses.{Access}
use Rattle.sbp_journal.specs.Run.{Moment, said}
use Rattle.sbp_journal.specs.Wire.{terms}
use Rattle.sbp_journal.specs.declared.note.Note.TheVariants as notes
use Rattle.sbp_laws.specs.CarriedBytes.{IsRead}
use Rattle.sbp_laws.specs.Lists.{Orb, linked, prepared_in}
use Rattle.sbp_laws.specs.Packets.{access_at, answer_in, answered_at, packet_at, receiver_in, sender_in}
use Rattle.sbp_laws.specs.Targets.{is_serial}
use Rattle.sbp_world.specs.Lists.Closes.{Always, WhereTameOrFew}
use Rattle.sbp_world.specs.Lists.Needs.{IsCalm}

-- what answers a read of the ORB of a slot, or of its next pointer, brings a null pointer
pub data IsNull (access : Access) (slot : ℕ) (answer : Answer) (bytes : List ℕ) : Type 0 where
  of_orb : IsRead access (start (windows.Orb slot)) 32 → payload_of answer 32 ≡ Ok bytes → (command_orb bytes).next ≡ Null → IsNull access slot answer bytes
  of_pointer : IsRead access (start (windows.Orb slot)) 8 → payload_of answer 8 ≡ Ok bytes → pointer_at bytes 0 ≡ Null → IsNull access slot answer bytes

-- The target gets such an answer, of an initiator, to a request that it sent.
pub record IsNullGot (past : List Moment) (i slot serial request : ℕ) : Type 0 where
  pub by_target : is_serial (receiver_in ((terms past).sent serial)) 0 ≡ true
  pub closed : answered_at (terms past) serial ≡ Some request
  pub from : sender_in ((terms past).sent request) ≡ Some 0
  pub to : receiver_in ((terms past).sent request) ≡ Some (suc i)
  pub access : Access
  pub is : access_at (terms past) request ≡ Some access
  pub bytes : List ℕ
  pub brings : IsNull access slot (answer_in (packet_at (terms past) serial)) bytes

-- Between then and now the ORB that was prepared last in a slot was the last one of its list that was linked.
pub record WasLast (earlier now : List Moment) (i slot : ℕ) : Type 0 where
  pub later : List Moment
  pub since : List Moment
  pub is : later ++ (since ++ earlier) ≡ now
  pub one : Orb
  pub prepared : prepared_in (since ++ earlier) i slot ≡ Some one
  pub last : linked (since ++ earlier) i one.list ≤ suc one.number

abbrev pub AllNullsLast : List Moment → ℕ → Type 0
AllNullsLast now i =
    (later past : List Moment) (slot serial request : ℕ) → slot < 32 → later ++ said (notes.Got serial) ∷ past ≡ now → IsNullGot past i slot serial request
    → (front earlier : List Moment) → front ++ earlier ≡ now → (terms earlier).count < request → WasLast earlier now i slot

abbrev pub NullsLaw : Type 0
NullsLaw = Always (WhereTameOrFew (λ past w. (i : ℕ) → i < length w.initiators → IsCalm past i → AllNullsLast past i))
