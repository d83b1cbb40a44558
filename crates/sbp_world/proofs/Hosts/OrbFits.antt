-- The ORBs of the slots, and what the history says of them; and the calls of the slots that leave that.
use Rattle.sbp_world.proofs.Words.Std.{◌≡◌, refl, sym, subst, ℕ, suc, ◌<◌, ◌≤◌, nat_le, nat_lt, false, cond, List, [], ◌∷◌, ◌++◌, Option, Some, None, Result, Ok, Err}
use Rattle.sbp_world.proofs.Words.Wire.{Cmd}
use Rattle.sbp_world.proofs.Words.Initiator.{Memory, start, OrbPointer, Null, At, pointer_low, ListFault, Kept, kept_in, Prepare, LinkLow, LinkHigh, MakeDummy, TakeStatus, DropList, FreeAll, Pin, Unpin, TryWrite, Fill, SetQuad, Note, Taken, Dropped, Pinned, Unpinned, if_ok, if_some, noted_by, run, SlotTable, IsCommand, asked_by}
use Rattle.sbp_world.proofs.Words.World.{FillsBuffer, request_of}
use Rattle.bus_memory.specs.declared.window.Window.TheVariants as windows
use Rattle.orb_list.specs.Runs.{Call}
use Rattle.orb_list.specs.Table as table
use Rattle.sbp_world.proofs.Hosts.OrbTerms.{OrbTerms}

-- the next pointer and the format that the history says
abbrev pub next_in : OrbTerms → (n k : ℕ) → OrbPointer
next_in t n k = cond (nat_lt (suc k) (t.linked n)) (At (start (windows.Orb (t.place n (suc k))))) Null

abbrev pub format_in : OrbTerms → (n k : ℕ) → ℕ
format_in t n k = cond (t.dummy n k) 3 0

-- the low quadlet of the ORB behind one, where that was written
abbrev pub low_to : ℕ → ℕ
low_to slot = pointer_low (At (start (windows.Orb slot)))

abbrev pub low_in : OrbTerms → (n k : ℕ) → ℕ
low_in t n k = cond (nat_le (suc k) (t.lowered n)) (low_to (t.place n (suc k))) 0

-- a command of a line, which fills its buffer
abbrev pub IsFull : Cmd → Type 0
IsFull cmd = IsCommand cmd × FillsBuffer cmd

pub record OrbFits (t : OrbTerms) (o : Kept) : Type 0 where
  pub cmd : Cmd
  pub node : ℕ
  pub login : ℕ
  pub at : node ≡ t.id o.ticket.list o.ticket.number
  pub fits : IsCommand cmd
  pub fills : FillsBuffer cmd
  pub asked : o.asked ≡ asked_by cmd node login
  pub command : t.command o.ticket.list o.ticket.number ≡ Some cmd
  pub request : t.request o.ticket.list o.ticket.number ≡ Some (request_of cmd)
  pub next : o.next ≡ next_in t o.ticket.list o.ticket.number
  pub low : o.low ≡ low_in t o.ticket.list o.ticket.number
  pub format : o.format ≡ format_in t o.ticket.list o.ticket.number

abbrev pub IfFits : OrbTerms → Option Kept → Type 0
IfFits t None = Unit {0}
IfFits t (Some o) = OrbFits t o

abbrev pub AllFit : OrbTerms → List Note → Type 0
AllFit t ns = (k : ℕ) → k < 32 → IfFits t (kept_in ns k)

-- no ORB that is not appended yet was made a dummy
abbrev pub NoneYet : OrbTerms → Type 0
NoneYet t = (n k : ℕ) → t.appended n ≤ k → t.dummy n k ≡ false

-- ---- calls of the slots that leave this

abbrev pub IsQuiet : Call → Type 0
IsQuiet (Prepare asked) = ⊥
IsQuiet LinkLow = ⊥
IsQuiet LinkHigh = ⊥
IsQuiet (MakeDummy t) = ⊥
IsQuiet _ = Unit {0}

abbrev pub AreQuiet : List Call → Type 0
AreQuiet [] = Unit {0}
AreQuiet (call ∷ calls) = IsQuiet call × AreQuiet calls

pub quiet_append : (xs ys : List Call) → AreQuiet xs → AreQuiet ys → AreQuiet (xs ++ ys)
quiet_append [] ys a b = b
quiet_append (x ∷ xs) ys a b = (a.0, quiet_append xs ys a.1 b)

module _ (t : OrbTerms) (ns : List Note) (h : AllFit t ns) where
  same_fit : (ms : List Note) → ((k : ℕ) → kept_in ms k ≡ kept_in ns k) → AllFit t ms
  same_fit ms e k b = subst (IfFits t) (sym (e k)) (h k b)

  quiet_ok : {A : Type 0} (note : A → Note) (r : Result A ListFault) → ((x : A) (k : ℕ) → kept_in (note x ∷ ns) k ≡ kept_in ns k) → AllFit t (if_ok note r ns)
  quiet_ok note (Ok x) e = same_fit (note x ∷ ns) (e x)
  quiet_ok note (Err fault) e = h

  quiet_some : {A : Type 0} (note : A → Note) (r : Option A) → ((x : A) (k : ℕ) → kept_in (note x ∷ ns) k ≡ kept_in ns k) → AllFit t (if_some note r ns)
  quiet_some note (Some x) e = same_fit (note x ∷ ns) (e x)
  quiet_some note None e = h

  quiet_call : (call : Call) (s : SlotTable) (m : Memory) → IsQuiet call → AllFit t (noted_by call s m ns)
  quiet_call (Prepare asked) s m q = absurd q
  quiet_call LinkLow s m q = absurd q
  quiet_call LinkHigh s m q = absurd q
  quiet_call (MakeDummy u) s m q = absurd q
  quiet_call (TakeStatus block) s m q = quiet_ok (λ u. Taken u block) (table.status_step s m block).0 (λ x k. refl)
  quiet_call DropList s m q = quiet_some (λ number. Dropped number) (table.drop_step s).0 (λ x k. refl)
  quiet_call FreeAll s m q = λ k b. h k b
  quiet_call (Pin u) s m q = quiet_ok (λ done. Pinned u) (table.pin_step s u).0 (λ x k. refl)
  quiet_call Unpin s m q = quiet_some (λ u. Unpinned u) s.pinned (λ x k. refl)
  quiet_call (TryWrite offset bytes) s m q = h
  quiet_call (Fill slot at bytes) s m q = h
  quiet_call (SetQuad offset value) s m q = h

pub quiet_calls : (t : OrbTerms) (later calls : List Call) (quads : List ℕ) → AreQuiet later → AllFit t (run calls quads).notes → AllFit t (run (later ++ calls) quads).notes
quiet_calls t [] calls quads q h = h
quiet_calls t (call ∷ later) calls quads q h =
    let r = run (later ++ calls) quads in quiet_call t r.notes (quiet_calls t later calls quads q.1 h) call r.table r.memory q.0
