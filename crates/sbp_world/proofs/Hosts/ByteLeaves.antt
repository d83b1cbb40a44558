-- What a call of an initiator leaves of its page tables and its buffers, by the calls of its slots.
use Rattle.sbp_world.proofs.Words.Std.{◌≡◌, sym, ◌∙◌, ap, subst, append_assoc, ℕ, nat_lt, Bool, true, false, cond, List, [], ◌∷◌, ◌++◌}
use Rattle.sbp_world.proofs.Words.Wire.{LabelParts, empty_outbox}
use Rattle.sbp_world.proofs.Words.Initiator.{IsWhole, Memory, AreCalls, Call, IsCall, after, done, lets_expire, sees, AreSlotsOf, block_calls, drop_calls, has_ended, slot_calls, slot_calls_after, status_calls, unpin_calls, Brought, nothing, status, unsolicited, StatusBlock, StatusKind, AreProper, run, Turn, own_rom, InitiatorState}
use Rattle.sbp_initiator.proofs.Histories.Slotted.{slot_law}
use Rattle.orb_layout.specs.declared.status.StatusKind.TheVariants as kinds
use Rattle.orb_list.specs.Runs as slot_runs
use Rattle.orb_list.proofs.Steps.{held_law}
use Rattle.sbp_world.proofs.Hosts.Alone.{call_same}
use Rattle.sbp_world.proofs.Hosts.ByteCalls.{AreCalm, KeepsBytes, calm_keeps}

-- ---- calls of the slots that leave them

status_calm : (kind : StatusKind) (block : StatusBlock) → AreCalm (status_calls kind block)
status_calm (kinds.Management code) block = tt
status_calm kinds.Good block = (tt, tt)
status_calm (kinds.Check sense) block = (tt, tt)
status_calm kinds.Dummy block = (tt, tt)
status_calm kinds.Aborted block = (tt, tt)
status_calm (kinds.Illegal meaning) block = (tt, tt)
status_calm kinds.Failed block = (tt, tt)

pub block_calm : (b : Brought) → AreCalm (block_calls b)
block_calm nothing = tt
block_calm unsolicited = tt
block_calm (status block) = status_calm block.kind block

pub drop_calm : (c : Bool) → AreCalm (drop_calls c)
drop_calm true = (tt, tt)
drop_calm false = tt

pub unpin_calm : (c : Bool) → AreCalm (unpin_calls c)
unpin_calm true = (tt, tt)
unpin_calm false = tt

pub expires_calm : (label : LabelParts) (turn : Turn) → AreCalm (slot_calls (lets_expire label) turn)
expires_calm label turn = unpin_calm (has_ended turn.1.operation (done (lets_expire label) turn).1.operation)

pub sees_calm : (generation id target : ℕ) (turn : Turn) → AreCalm (slot_calls (sees generation id target) turn)
sees_calm generation id target turn = later (nat_lt turn.1.layer.generation generation)
  where
    later : (c : Bool) → AreCalm (cond c (slot_runs.FreeAll ∷ slot_runs.DropList ∷ []) [])
    later true = (tt, (tt, tt))
    later false = tt

-- calls behind others that are calm
behind_calm : (front later calls : List slot_runs.Call) (quads : List ℕ) → AreCalm front → AreProper ((front ++ later) ++ calls) → KeepsBytes (run (later ++ calls) quads).memory (run ((front ++ later) ++ calls) quads).memory
behind_calm front later calls quads q =
    subst (λ xs. AreProper xs → KeepsBytes (run (later ++ calls) quads).memory (run xs quads).memory) (sym (append_assoc front later calls)) (λ p. calm_keeps front (later ++ calls) quads p q)

-- ---- a call

module _ (ready : Bool) (i : ℕ) (calls : List Call) (called : AreCalls calls) where
  abbrev turn : Turn
  turn = after i ready calls

  abbrev pub state : InitiatorState
  state = (after i ready calls).1

  abbrev old : List slot_runs.Call
  old = slot_calls_after i ready calls

  abbrev m : Memory
  m = state.lists.memory

  pub before : AreSlotsOf (own_rom i) old state.lists
  before = slot_law i ready calls called

  pub whole_before : IsWhole m
  whole_before = subst IsWhole before.memory (held_law.run_held old (own_rom i) before.proper).whole

  module _ (call : Call) (fit : IsCall call) where
    leaves : AreSlotsOf (own_rom i) (slot_calls call turn ++ old) (done call turn).1.lists
    leaves = slot_law i ready (call ∷ calls) (fit, called)

    abbrev left : Memory
    left = (done call (empty_outbox, state)).1.lists.memory

    memory_is : (run (slot_calls call turn ++ old) (own_rom i)).memory ≡ left
    memory_is = leaves.memory ∙ ap (λ (x : InitiatorState). x.lists.memory) (call_same call turn.0 empty_outbox state)

    pub calm_call : AreCalm (slot_calls call turn) → KeepsBytes m left
    calm_call q =
        subst (λ x. KeepsBytes x left) before.memory
        (subst (KeepsBytes (run old (own_rom i)).memory) memory_is (calm_keeps (slot_calls call turn) old (own_rom i) leaves.proper q))

    pub last_calls : (front later : List slot_runs.Call) → slot_calls call turn ≡ front ++ later → AreCalm front → KeepsBytes (run (later ++ old) (own_rom i)).memory left
    last_calls front later e q =
        subst (KeepsBytes (run (later ++ old) (own_rom i)).memory) memory_is
        (subst (λ xs. AreProper (xs ++ old) → KeepsBytes (run (later ++ old) (own_rom i)).memory (run (xs ++ old) (own_rom i)).memory) (sym e) (λ p. behind_calm front later old (own_rom i) q p) leaves.proper)
