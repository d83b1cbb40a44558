-- What a call of an initiator tells beside a status that it takes: notes that take none, and say of no packet that it was got.
use Rattle.sbp_world.proofs.Words.Std.{◌≡◌, refl, sym, subst, ℕ, nat_lt, Bool, true, false, cond, List, [], ◌∷◌, ◌++◌, Option, Some, None, Result, Ok, Err, AllByRecursion}
use Rattle.sbp_world.proofs.Words.Wire.{LabelParts, Stale, Layer, expiring_step, seeing_step, OutboxState, empty_outbox, Action, Note, Operation, OpWord, Side}
use Rattle.sbp_world.proofs.Words.Initiator.{ListState, drop_lists, Ending, Purpose, Running, InitiatorState, act_step, Turn, dropped_as, ended_for, told, called, expire_step, expired_as, all_end, interrupted, reset_told, resets_told, see_step, seen_as, states_end, is_step, drop_if, ends_the_list, OpEnd, drops, fails_write, notes_of, ops, own, read_ends, state_ops, sticks, sticks_by}
use Rattle.sbp_world.proofs.Words.World.{IsCalled}
use Rattle.sbp_journal.specs.declared.note.Note.TheVariants as notes
use Rattle.sbp_journal.specs.declared.operation.Operation.TheVariants as operations
use Rattle.sbp_journal.specs.declared.side.Side.TheVariants as sides
use Rattle.sbp_initiator.specs.declared.purpose.Ending.TheVariants as endings
use Rattle.sbp_world.proofs.Wire.OwnActs.{AreStepSides, acts}
use Rattle.sbp_initiator.proofs.Histories.Effects.{Fits, ended_does}
use Rattle.sbp_world.proofs.Hosts.Hosted.{expires_fit}
use Rattle.sbp_world.proofs.Hosts.KnowEnds.{Points}
use Rattle.sbp_world.proofs.Hosts.KnowHears.{IfExpires}
use Rattle.sbp_initiator.proofs.Histories.Purposes.{IfFor}
use Rattle.sbp_world.proofs.Hosts.Statuses.Brings.{AreCalm}
use Rattle.sbp_world.proofs.Hosts.Statuses.Folds.{AreSilent, IsSilentSide, calm_silent, is_calm}
use Rattle.sbp_world.proofs.Common.{untrue}

abbrev pub IsCalmSide : Side → Type 0
IsCalmSide (sides.Own note) = is_calm note ≡ true
IsCalmSide _ = Unit {0}

abbrev pub AreCalmSides : List Side → Type 0
AreCalmSides told = AllByRecursion IsCalmSide told

calm_side : (i : ℕ) (side : Side) → IsCalmSide side → IsSilentSide i side
calm_side i (sides.Own note) e = calm_silent i note e
calm_side i side e = tt

pub all_silent : (i : ℕ) (told : List Side) → AreCalmSides told → AreSilent i told
all_silent i [] h = tt
all_silent i (side ∷ told) h = (calm_side i side h.0, all_silent i told h.1)

pub own_calm : (ns : List Note) → AreCalm ns → AreCalmSides (own ns)
own_calm [] h = tt
own_calm (note ∷ ns) h = (h.0, own_calm ns h.1)

-- ---- what a delivery and a time-out tell beside

pub both_calm : (xs ys : List Note) → AreCalm xs → AreCalm ys → AreCalm (xs ++ ys)
both_calm [] ys h k = k
both_calm (note ∷ xs) ys h k = (h.0, both_calm xs ys h.1 k)

drops_calm : (number : ℕ) (drop : Option ℕ) → AreCalm (drops number drop)
drops_calm number None = tt
drops_calm number (Some list) = (refl, tt)

ops_calm : (number : ℕ) (op : Option OpEnd) → AreCalm (ops number op)
ops_calm number None = tt
ops_calm number (Some end) = (refl, tt)

states_calm : (number : ℕ) (state : Option OpWord) → AreCalm (state_ops number state)
states_calm number None = tt
states_calm number (Some word) = (refl, tt)

sticks_calm : (number : ℕ) (stuck : Bool) → AreCalm (sticks number stuck)
sticks_calm number false = tt
sticks_calm number true = (refl, tt)

pub notes_calm : (number : ℕ) (drop : Option ℕ) (op : Option OpEnd) (state : Option OpWord) (stuck : Bool) → AreCalm (notes_of number drop op state stuck)
notes_calm number drop op state stuck =
    both_calm (drops number drop) (ops number op ++ (state_ops number state ++ sticks number stuck)) (drops_calm number drop)
    (both_calm (ops number op) (state_ops number state ++ sticks number stuck) (ops_calm number op)
    (both_calm (state_ops number state) (sticks number stuck) (states_calm number state) (sticks_calm number stuck)))

-- ---- the end of a transaction

abbrev pub CalmTurn : Turn → Type 0
CalmTurn t = AreCalmSides t.0.sides

pub ended_calm : (purpose : Option Purpose) (ending : Ending) (s : InitiatorState) → IfFor (λ p. Fits p s.operation × Points p s.lists.slots.present s.marks.pointing) purpose → CalmTurn (ended_for purpose ending empty_outbox s)
ended_calm None ending s f = tt
ended_calm (Some purpose) ending s f =
    let d = (ended_does purpose ending empty_outbox s f.0).does in
    let drop = drop_if (ends_the_list purpose ending s.lists.slots.present) s.lists.slots.present in
    let stuck = sticks_by (fails_write purpose ending) s.seat in
    subst AreCalmSides (sym d.sides) (own_calm (notes_of s.number drop d.op (read_ends purpose ending) stuck) (notes_calm s.number drop d.op (read_ends purpose ending) stuck))

expired_calm : (r : Result (Option Purpose) Stale) (layer : Layer Purpose) (s : InitiatorState) → IfExpires r s → CalmTurn (expired_as (r, layer) empty_outbox s).1
expired_calm (Err stale) layer s f = tt
expired_calm (Ok purpose) layer s f = ended_calm purpose endings.Expired (called (record s { layer = layer })) f

pub expire_calm : (ready : Bool) (i : ℕ) (s : InitiatorState) → IsCalled ready i s → (label : LabelParts) → CalmTurn (expire_step label empty_outbox s).1
unfolding expire_step
expire_calm ready i s h label = expired_calm (expiring_step s.layer s.target label).0 (expiring_step s.layer s.target label).1 s (expires_fit ready i s h label)

-- ---- a sight

calm_more : (told : List Side) (side : Side) → AreCalmSides told → IsCalmSide side → AreCalmSides (told ++ side ∷ [])
calm_more [] side h f = (f, tt)
calm_more (first ∷ told) side h f = (h.0, calm_more told side h.1 f)

pick_calm : (b : Bool) (x y : OutboxState) → AreCalmSides x.sides → AreCalmSides y.sides → AreCalmSides (cond b x y).sides
pick_calm true x y h k = h
pick_calm false x y h k = k

reset_calm : (number : ℕ) (operation : Operation) (o : OutboxState) → AreCalmSides o.sides → AreCalmSides (reset_told number operation o).sides
reset_calm number operation o h = calm_more o.sides _ h refl

states_end_calm : (number : ℕ) (acts : List ℕ) (o : OutboxState) → AreCalmSides o.sides → AreCalmSides (states_end number acts o).sides
states_end_calm number [] o h = h
states_end_calm number (act ∷ acts) o h = states_end_calm number acts (reset_told number operations.State o) (reset_calm number operations.State o h)

all_end_calm : (number : ℕ) (running : Running) (acts : List ℕ) (o : OutboxState) → AreCalmSides o.sides → AreCalmSides (all_end number running acts o).sides
all_end_calm number running [] o h = reset_calm number running.operation o h
all_end_calm number running (act ∷ acts) o h =
    pick_calm (nat_lt running.act act) _ _ (states_end_calm number (act ∷ acts) (reset_told number running.operation o) (reset_calm number running.operation o h))
    (all_end_calm number running acts (reset_told number operations.State o) (reset_calm number operations.State o h))

resets_calm : (number : ℕ) (operation : Option Running) (acts : List ℕ) (o : OutboxState) → AreCalmSides o.sides → AreCalmSides (resets_told number operation acts o).sides
resets_calm number None acts o h = states_end_calm number acts o h
resets_calm number (Some running) acts o h = all_end_calm number running acts o h

dropped_calm : (r : Option ℕ × ListState) (o : OutboxState) (s : InitiatorState) → AreCalmSides o.sides → CalmTurn (dropped_as r o s)
dropped_calm (None, lists) o s h = h
dropped_calm (Some n, lists) o s h = calm_more o.sides _ h refl

seen_calm : (r : Bool × Layer Purpose) (target : ℕ) (s : InitiatorState) → CalmTurn (seen_as r target empty_outbox s)
seen_calm (false, layer) target s = tt
seen_calm (true, layer) target s =
    let u = record s { layer = layer } in
    let o = resets_told u.number u.operation u.states empty_outbox in
    dropped_calm (drop_lists (interrupted u target).lists) o (interrupted u target) (resets_calm u.number u.operation u.states empty_outbox tt)

pub see_calm : (generation id target : ℕ) (s : InitiatorState) → CalmTurn (see_step generation id target empty_outbox s)
unfolding see_step
see_calm generation id target s = seen_calm (seeing_step s.layer generation id) target s

-- ---- an action

step_calm : (note : Note) → is_step note ≡ true → is_calm note ≡ true
step_calm (notes.Got serial) e = untrue e
step_calm (notes.Taken j n k status answer) e = untrue e
step_calm note e = refl

step_side : (side : Side) (rest : List Side) → AreStepSides (side ∷ rest) → IsCalmSide side
step_side (sides.Own note) rest h = step_calm note h.0
step_side side rest h = tt

steps_calm : (told : List Side) → AreStepSides told → AreCalmSides told
steps_calm [] h = tt
steps_calm (side ∷ told) h = (step_side side told h, steps_calm told h.1)

pub act_calm : (action : Action) (s : InitiatorState) → CalmTurn (act_step action empty_outbox s).1
act_calm action s = steps_calm (act_step action empty_outbox s).1.0.sides (acts action empty_outbox s tt)
