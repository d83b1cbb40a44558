-- What the calls of an initiator tell (NCITS 325-1998, tasks, task management and status blocks). Over every list of calls: an action
-- that is done tells of the steps of its list, and begins an operation only while none is under way. A delivery and a time-out tell at
-- most one block, then `drop`, `op` and `stuck`, at most once each and in this order: the block and the drop are where the rules of
-- statuses and of lists say so, no list is present after a drop, with the `op` of an operation this operation ends, a read of
-- AGENT_STATE has one `op`, with its word, exactly where its transaction ends, and `stuck` comes exactly where a write request of the
-- initiator's own fails, but for a conflict at MANAGEMENT_AGENT, while the session is not Stuck. A generation that is seen ends the
-- operation and the reads of AGENT_STATE, in the order of the actions that began them, and then drops the list.
use Rattle.std.specs.Prelude.{◌≡◌, ◌↔◌, ℕ, nat_lt, Bool, true, false, if◌then◌else◌, List, [], ◌∷◌, ◌++◌, Option, Some, None}
use Rattle.bus_memory.specs.declared.window.Window.TheVariants as windows
use Rattle.bus_memory.specs.Windows.{slot_of, start}
use Rattle.orb_layout.specs.declared.status.StatusBlock.{StatusBlock}
use Rattle.orb_list.specs.Tickets.{TicketParts}
use Rattle.orb_list.specs.Runs.{run, waits}
use Rattle.sbp_journal.specs.declared.event.Action.{Action}
use Rattle.sbp_journal.specs.declared.note.Note.{Note}
use Rattle.sbp_journal.specs.declared.note.Note.TheVariants as notes
use Rattle.sbp_journal.specs.declared.operation.Operation.TheVariants as operations
use Rattle.sbp_journal.specs.declared.operation.OpWord.TheVariants as words
use Rattle.sbp_initiator.specs.declared.purpose.Running.{Running}
use Rattle.sbp_initiator.specs.Effects.{Turn}
use Rattle.sbp_initiator.specs.Acting.{act_step}
use Rattle.sbp_initiator.specs.Initiators.{own_rom}
use Rattle.sbp_initiator.specs.Histories.Laws.{Call, acts, receives, lets_expire, sees, AreCalls, IsCall, after, done}
use Rattle.sbp_initiator.specs.Histories.Begins.{Begins}
use Rattle.sbp_initiator.specs.Histories.Drops.{IfGone, drop_if, present_list}
use Rattle.sbp_initiator.specs.Histories.Ends.{own, OpEnd, OpMove, drops, notes_of, sticks_by}
use Rattle.sbp_initiator.specs.Histories.Slots.{slot_calls_after}
use Rattle.sbp_initiator.specs.Histories.Taking.{block_notes, call_drops, call_fails, call_note, call_read, waiting_at}

-- a delivery or a time-out
abbrev pub is_heard : Call → Bool
is_heard (receives generation bytes) = true
is_heard (lets_expire label) = true
is_heard _ = false

-- What a delivery or a time-out tells.
pub record Tells (call : Call) (old new : Turn) : Type 0 where
  pub op : Option OpEnd
  pub sides : new.0.sides ≡ old.0.sides ++ own (block_notes (call_note call old.1) ++ notes_of old.1.number (drop_if (call_drops call old.1) old.1.lists.slots.present) op (call_read call old.1) (sticks_by (call_fails call old.1) old.1.seat))
  pub move : OpMove old.1.operation op new.1.operation
  pub gone : IfGone (drop_if (call_drops call old.1) old.1.lists.slots.present) new.1.lists.slots.present

-- ---- a generation is seen

abbrev pub state_resets : ℕ → List ℕ → List Note
state_resets number [] = []
state_resets number (act ∷ later) = notes.Op number operations.State words.Reset ∷ state_resets number later

-- the operation ends among the reads, in the order of the actions
abbrev pub resets_with : ℕ → Running → List ℕ → List Note
resets_with number running [] = notes.Op number running.operation words.Reset ∷ []
resets_with number running (act ∷ later) =
    if nat_lt running.act act
    then notes.Op number running.operation words.Reset ∷ state_resets number (act ∷ later)
    else notes.Op number operations.State words.Reset ∷ resets_with number running later

abbrev pub resets : ℕ → Option Running → List ℕ → List Note
resets number None later = state_resets number later
resets number (Some running) later = resets_with number running later

-- a generation that is not new tells nothing and changes nothing of the operation
abbrev pub Sees : Bool → Turn → Turn → Type 0
Sees false old new = (new.0.sides ≡ old.0.sides) × (new.1.operation ≡ old.1.operation)
Sees true old new =
    (new.0.sides ≡ old.0.sides ++ own (resets old.1.number old.1.operation old.1.states ++ drops old.1.number (present_list old.1.lists.slots.present))) × (new.1.operation ≡ None)
    × (new.1.lists.slots.present ≡ None)

-- ---- the law

-- After a list of calls.
pub record TellsAfter (number : ℕ) (ready : Bool) (calls : List Call) : Type 0 where
  pub action : (act : Action) → IsCall (acts act) → (act_step act (after number ready calls).0 (after number ready calls).1).0 ≡ None → Begins act (after number ready calls).0 (after number ready calls).1 (done (acts act) (after number ready calls))
  pub heard : (call : Call) → is_heard call ≡ true → Tells call (after number ready calls) (done call (after number ready calls))
  pub seen : (generation id target : ℕ) → Sees (nat_lt (after number ready calls).1.layer.generation generation) (after number ready calls) (done (sees generation id target) (after number ready calls))

pub record TellsLaw : Type 0 where
  pub first : (number : ℕ) (ready : Bool) → (after number ready []).1.operation ≡ None
  pub tells : (number : ℕ) (ready : Bool) (calls : List Call) → AreCalls calls → TellsAfter number ready calls

-- ---- whose status is taken

-- After a list of calls the ORB whose status is taken is the one that waits by what these calls did to the slots, and whose address the
-- block names.
abbrev pub TakesLaw : Type 0
TakesLaw =
    (number : ℕ) (ready : Bool) (calls : List Call) → AreCalls calls → (block : StatusBlock) (t : TicketParts) → waiting_at (after number ready calls).1.lists.slots.slots (slot_of block.orb) ≡ Some t ↔ ((waits (run (slot_calls_after number ready calls) (own_rom number)).notes t ≡ true) × (block.orb ≡ start (windows.Orb t.slot)))
