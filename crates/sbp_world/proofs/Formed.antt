-- What a node tells, where its note has the form of a journal; and what an initiator tells, which is notes of its own.
use Rattle.sbp_world.proofs.Words.Std.{Bool, true, false, cond, List, [], ◌∷◌, ◌++◌, AllByRecursion}
use Rattle.sbp_world.proofs.Words.Wire.{Note, Side, HasForm, IsCheck, IsStatus, OutboxState}
use Rattle.sbp_world.proofs.Words.Target.{check_in}
use Rattle.sbp_journal.specs.declared.note.Note.TheVariants as notes
use Rattle.sbp_journal.specs.declared.side.Side.TheVariants as sides

abbrev pub IsFormed : Side → Type 0
IsFormed (sides.Own note) = HasForm note
IsFormed (sides.Ran place orb cdb payload outcome) = IsCheck (check_in outcome)
IsFormed (sides.Ended place orb status) = IsStatus status
IsFormed _ = Unit {0}

abbrev pub AreFormed : List Side → Type 0
AreFormed told = AllByRecursion IsFormed told

pub more : (told : List Side) (side : Side) → AreFormed told → IsFormed side → AreFormed (told ++ side ∷ [])
more [] side h f = (f, tt)
more (first ∷ told) side h f = (h.0, more told side h.1 f)

-- ---- an initiator
-- the note is of an initiator's own doings
abbrev pub IsNoRun : Note → Type 0
IsNoRun (notes.Append i list orb cdb buffer) = Unit {0}
IsNoRun (notes.Low i list orb) = Unit {0}
IsNoRun (notes.Linked i list orb) = Unit {0}
IsNoRun (notes.Rung i list orb) = Unit {0}
IsNoRun (notes.Dummied i list orb) = Unit {0}
IsNoRun (notes.Taken i n k status answer) = Unit {0}
IsNoRun (notes.Drop i list) = Unit {0}
IsNoRun (notes.Op i operation word) = Unit {0}
IsNoRun (notes.Stuck i) = Unit {0}
IsNoRun (notes.Told i) = Unit {0}
IsNoRun _ = ⊥

abbrev pub IsOwn : Side → Type 0
IsOwn (sides.Own note) = HasForm note × IsNoRun note
IsOwn _ = ⊥

abbrev pub AreOwn : List Side → Type 0
AreOwn [] = Unit {0}
AreOwn (side ∷ later) = IsOwn side × AreOwn later

pub own_more : (told : List Side) (side : Side) → AreOwn told → IsOwn side → AreOwn (told ++ side ∷ [])
own_more [] side h f = (f, tt)
own_more (first ∷ told) side h f = (h.0, own_more told side h.1 f)

pub pick_outbox : (b : Bool) (x y : OutboxState) → AreOwn x.sides → AreOwn y.sides → AreOwn (cond b x y).sides
pick_outbox true x y h i = h
pick_outbox false x y h i = i

own_form : (side : Side) → IsOwn side → IsFormed side
own_form (sides.Own note) h = h.0
own_form (sides.Opened place orb) h = absurd h
own_form (sides.Ran place orb cdb payload outcome) h = absurd h
own_form (sides.Ended place orb status) h = absurd h
own_form (sides.Dead place cause) h = absurd h
own_form (sides.Cut place cause) h = absurd h
own_form (sides.Managed node function subject status login) h = absurd h
own_form (sides.ManageFailed node cause) h = absurd h
own_form (sides.Held login) h = absurd h
own_form (sides.Expired login) h = absurd h
own_form (sides.Back login) h = absurd h
own_form (sides.Left login) h = absurd h
own_form (sides.Cleared unit) h = absurd h
own_form (sides.Unsolicited place) h = absurd h
own_form (sides.Unsent place) h = absurd h

pub own_formed : (told : List Side) → AreOwn told → AreFormed told
own_formed [] h = tt
own_formed (side ∷ told) h = (own_form side h.0, own_formed told h.1)
