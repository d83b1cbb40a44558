-- For which list an ORB_POINTER is answered (NCITS 325-1998, ORB_POINTER). Over every list of calls: a write of ORB_POINTER that a response
-- closes, or that times out, is that of a list that was begun; and where this list is the present one, its ORB_POINTER counts as written.
-- While no list is present, none counts as written.
use Rattle.std.specs.Prelude.{◌≡◌, ◌<◌, ℕ, Bool, true, false, List, Some, None, Ok}
use Rattle.async_packet.specs.Labels.{LabelParts}
use Rattle.async_packet.specs.Packet.{Packet}
use Rattle.label_table.specs.Layer.{of_response, expiring_step, judging_step}
use Rattle.sbp_initiator.specs.declared.purpose.Purpose.TheVariants as purposes
use Rattle.sbp_initiator.specs.declared.state.InitiatorState.{InitiatorState}
use Rattle.sbp_initiator.specs.States.{is_list, is_unwritten}
use Rattle.sbp_initiator.specs.Histories.Laws.{Call, AreCalls, after}

-- a list was begun, and its ORB_POINTER counts as written while it is the present one
pub record IsPointed (s : InitiatorState) (list : ℕ) : Type 0 where
  pub begun : list < s.lists.slots.lists
  pub written : is_list s.lists.slots.present list ≡ true → is_unwritten s.marks.pointing ≡ false

pub record PointersAfter (s : InitiatorState) : Type 0 where
  pub none : s.lists.slots.present ≡ None → is_unwritten s.marks.pointing ≡ true
  pub closes : (generation : ℕ) (bytes : List ℕ) (p : Packet) (label : LabelParts) (list : ℕ) → (judging_step s.layer generation bytes).0 ≡ of_response p label (Some (purposes.Pointer list)) → IsPointed s list
  pub expires : (label : LabelParts) (list : ℕ) → (expiring_step s.layer s.target label).0 ≡ Ok (Some (purposes.Pointer list)) → IsPointed s list

-- Over every list of calls.
abbrev pub PointerLaw : Type 0
PointerLaw = (number : ℕ) (ready : Bool) (calls : List Call) → AreCalls calls → PointersAfter (after number ready calls).1
