-- What an initiator tells as it sees a generation, and what it leaves of the layer.
use Rattle.sbp_world.proofs.Words.Std.{◌≡◌, refl, ℕ, nat_lt, Bool, true, false, cond, List, [], ◌∷◌, Option, Some, None}
use Rattle.sbp_world.proofs.Words.Wire.{Layer, seeing_step, seen_in_generation, OutboxState, empty_outbox, Operation}
use Rattle.sbp_world.proofs.Words.Initiator.{ListState, drop_lists, Purpose, Running, InitiatorState, Turn, dropped_as, all_end, interrupted, reset_told, resets_told, see_step, seen_as, states_end}
use Rattle.sbp_journal.specs.declared.note.Note.TheVariants as notes
use Rattle.sbp_journal.specs.declared.operation.Operation.TheVariants as operations
use Rattle.sbp_journal.specs.declared.operation.OpWord.TheVariants as words
use Rattle.sbp_journal.specs.declared.side.Side.TheVariants as sides
use Rattle.sbp_initiator.specs.declared.purpose.Pointing.TheVariants as pointings
use Rattle.sbp_world.proofs.Hosts.Layered.{AreTame, tame_more}

ends_one : (number : ℕ) (operation : Operation) (o : OutboxState) → AreTame o.sides → AreTame (reset_told number operation o).sides
ends_one number operation o h = tame_more o.sides (sides.Own (notes.Op number operation words.Reset)) h refl

ends_states : (number : ℕ) (acts : List ℕ) (o : OutboxState) → AreTame o.sides → AreTame (states_end number acts o).sides
ends_states number [] o h = h
ends_states number (act ∷ acts) o h = ends_states number acts (reset_told number operations.State o) (ends_one number operations.State o h)

pick_tame : (b : Bool) (o p : OutboxState) → AreTame o.sides → AreTame p.sides → AreTame (cond b o p).sides
pick_tame true o p h i = h
pick_tame false o p h i = i

ends_all : (number : ℕ) (running : Running) (acts : List ℕ) (o : OutboxState) → AreTame o.sides → AreTame (all_end number running acts o).sides
ends_all number running [] o h = ends_one number running.operation o h
ends_all number running (act ∷ acts) o h =
    pick_tame (nat_lt running.act act) (states_end number (act ∷ acts) (reset_told number running.operation o)) (all_end number running acts (reset_told number operations.State o))
    (ends_states number (act ∷ acts) (reset_told number running.operation o) (ends_one number running.operation o h))
    (ends_all number running acts (reset_told number operations.State o) (ends_one number operations.State o h))

ends_told : (number : ℕ) (operation : Option Running) (acts : List ℕ) (o : OutboxState) → AreTame o.sides → AreTame (resets_told number operation acts o).sides
ends_told number None acts o h = ends_states number acts o h
ends_told number (Some running) acts o h = ends_all number running acts o h

drop_told : (r : Option ℕ × ListState) (o : OutboxState) (s : InitiatorState) → AreTame o.sides → AreTame (dropped_as r o s).0.sides
drop_told (None, lists) o s h = h
drop_told (Some n, lists) o s h = tame_more o.sides (sides.Own (notes.Drop s.number n)) h refl

-- nothing is written where a later generation is seen, and else nothing changes
pub data SeenAs (s : InitiatorState) (t : Turn) : Type 0 where
  anew : t.1.marks.pointing ≡ pointings.Unwritten → SeenAs s t
  as_before : t.1.layer ≡ s.layer → t.1.target ≡ s.target → t.0.sides ≡ [] → SeenAs s t

pub record SeenLeft (s : InitiatorState) (t : Turn) : Type 0 where
  pub told : AreTame t.0.sides
  pub seen : SeenAs s t

by_seen : (b : Bool) (new : Layer Purpose) (target : ℕ) (s : InitiatorState) → SeenLeft s (seen_as (cond b (true, new) (false, s.layer)) target empty_outbox s)
by_seen true new target s =
    let u = record s { layer = new } in
    record {
      told = drop_told (drop_lists (interrupted u target).lists) (resets_told u.number u.operation u.states empty_outbox) (interrupted u target) (ends_told u.number u.operation u.states empty_outbox tt);
      seen = anew refl;
    }
by_seen false new target s = record { told = tt; seen = as_before refl refl refl }

pub see_left : (generation id target : ℕ) (s : InitiatorState) → SeenLeft s (see_step generation id target empty_outbox s)
unfolding see_step seeing_step
see_left generation id target s = by_seen (nat_lt s.layer.generation generation) (seen_in_generation s.layer generation id) target s
