-- What an initiator tells behind a history, beside its slots.
use Rattle.sbp_world.proofs.Words.Std.{true, false, ◌==◌, ◌≡◌, refl, sym, subst, ℕ, List, [], ◌∷◌, ◌++◌, Option, None}
use Rattle.sbp_world.proofs.Words.Wire.{Moment, said, OutboxState, Note, Operation, Side}
use Rattle.sbp_world.proofs.Words.Initiator.{TicketParts, SlotTable, told}
use Rattle.sbp_world.proofs.Words.World.{AreRows, behind, Beside, PinOf, is_beside}
use Rattle.sbp_journal.specs.declared.operation.Operation.TheVariants as operations
use Rattle.sbp_journal.specs.declared.side.Side.TheVariants as sides
use Rattle.sbp_world.specs.Hosts.Calls.{by_side}
use Rattle.sbp_world.proofs.Hosts.Beside.{beside_rests}

pub behind_more : (told : List Side) (side : Side) (past : List Moment) → behind (told ++ side ∷ []) past ≡ by_side side (behind told past)
behind_more [] side past = refl
behind_more (first ∷ told) side past = behind_more told side (by_side first past)

pub pin_of_none : (operation : Operation) (pinned : Option TicketParts) → pinned ≡ None → PinOf operation pinned
pin_of_none operations.Abort pinned e = tt
pin_of_none operations.Rom pinned e = e
pin_of_none operations.Login pinned e = e
pin_of_none operations.Query pinned e = e
pin_of_none operations.Reconnect pinned e = e
pin_of_none operations.Logout pinned e = e
pin_of_none operations.AbortSet pinned e = e
pin_of_none operations.UnitReset pinned e = e
pin_of_none operations.TargetReset pinned e = e
pin_of_none operations.AgentReset pinned e = e
pin_of_none operations.State pinned e = e
pin_of_none operations.Enable pinned e = e

module _ (past : List Moment) (i : ℕ) (s : SlotTable) where
  pub tells : (o : OutboxState) (note : Note) → AreRows (said note ∷ behind o.sides past) i s → AreRows (behind (told o note).sides past) i s
  tells o note r = subst (λ ms. AreRows ms i s) (sym (behind_more o.sides (sides.Own note) past)) r

-- a note of an initiator says nothing of the lists of another one
pub tells_beside : (past : List Moment) (number : ℕ) (o : OutboxState) (note : Note) → ((j : ℕ) → (j == number) ≡ false → is_beside j note ≡ true) → Beside past number o.sides → Beside past number (told o note).sides
tells_beside past number o note n b j s e r = tells past j s o note (beside_rests (behind o.sides past) j s (b j s e r) note (n j e))

-- the number of calls is no part of it
pub counted_rows : (past : List Moment) (i : ℕ) (s : SlotTable) (calls : ℕ) → AreRows past i s → AreRows past i (record s { calls = calls })
counted_rows past i s calls r = record {
  fits = record {
    size = r.fits.size;
    present = r.fits.present;
    begun = r.fits.begun;
    pinned = r.fits.pinned;
    held = r.fits.held;
    prepared = r.fits.prepared;
    last = r.fits.last;
    states = r.fits.states;
    list = r.fits.list;
    to_come = r.fits.to_come;
  };
  rows_are = r.rows_are;
  swept = r.swept;
}
