-- What each note leaves of the ORB_POINTER write that an initiator's host names.
use Rattle.sbp_world.proofs.Words.Std.{arith, ◌≡◌, refl, sym, ◌∙◌, ap, subst, ℕ, zero, suc, ◌==◌, nat_eq, is_some, not, Bool, true, false, cond, List, [], ◌∷◌, Option, Some, None, nat_tests}
use Rattle.sbp_world.proofs.Words.Wire.{Moment, said, Note, Operation, OpWord, NoteBuffer}
use Rattle.sbp_world.proofs.Words.Laws.{Host, host_at, list_begins}
use Rattle.sbp_world.proofs.Words.World.{Core, host_core}
use Rattle.sbp_journal.specs.declared.note.Note.TheVariants as notes
use Rattle.sbp_journal.specs.declared.operation.Operation.TheVariants as operations
use Rattle.sbp_journal.specs.declared.side.Side.TheVariants as sides
use Rattle.sbp_world.proofs.Hosts.Cores.{apart_core, ended_in, expired_told, got_told, op_told, reset_in, seen_told, stuck_told, taken_told}
use Rattle.sbp_world.proofs.Hosts.PointerNotes.{got_fades_now, pointer, seen_fades_now, tame_told, timed_fades_now}
use Rattle.sbp_world.proofs.Common.{untrue}

-- a note may change what a host names
abbrev pub renames : Note → Bool
renames (notes.Begin initiators ready) = true
renames (notes.Append j n k cdb buffer) = true
renames (notes.Drop j n) = true
renames (notes.Sent serial generation from to bytes) = true
renames _ = false

-- what fades and is named as before is the same
pub same_name : (old new : Option ℕ) → ((s : ℕ) → new ≡ Some s → old ≡ Some s) → is_some new ≡ is_some old → new ≡ old
same_name old (Some s) fades e = sym (fades s refl)
same_name None None fades e = refl
same_name (Some s) None fades e = untrue e

ended_wrote : (operation : Operation) (word : OpWord) (c : Core) → (ended_in operation word c).wrote_pointer ≡ c.wrote_pointer
ended_wrote operations.State word c = refl
ended_wrote operations.Rom word c = refl
ended_wrote operations.Login word c = refl
ended_wrote operations.Query word c = refl
ended_wrote operations.Reconnect word c = refl
ended_wrote operations.Logout word c = refl
ended_wrote operations.Abort word c = refl
ended_wrote operations.AbortSet word c = refl
ended_wrote operations.UnitReset word c = refl
ended_wrote operations.TargetReset word c = refl
ended_wrote operations.AgentReset word c = refl
ended_wrote operations.Enable word c = refl

reset_wrote : (b : Bool) (c : Core) → (reset_in b c).wrote_pointer ≡ c.wrote_pointer
reset_wrote true c = refl
reset_wrote false c = refl

core_wrote : (past now : List Moment) (i : ℕ) → host_core (host_at now i) ≡ host_core (host_at past i) → is_some (pointer now i) ≡ is_some (pointer past i)
core_wrote past now i e = ap (λ (c : Core). c.wrote_pointer) e

away : (i j : ℕ) → (j == i) ≡ false → not (i == j) ≡ true
away i j e = let f : (i == j) ≡ false = grind (arith, nat_tests) in ap not f

pub here : (i j : ℕ) → (j == i) ≡ true → j ≡ i
here i j e = grind (arith, nat_tests)

op_same : (past : List Moment) (i j : ℕ) (operation : Operation) (word : OpWord) (b : Bool) → (j == i) ≡ b → is_some (pointer (said (notes.Op j operation word) ∷ past) i) ≡ is_some (pointer past i)
op_same past i j operation word true e =
    subst (λ k. is_some (pointer (said (notes.Op k operation word) ∷ past) i) ≡ is_some (pointer past i)) (sym (here i j e))
    (ap (λ (c : Core). c.wrote_pointer) (op_told operation word past i) ∙ ended_wrote operation word (host_core (host_at past i)))
op_same past i j operation word false e = core_wrote past (said (notes.Op j operation word) ∷ past) i (apart_core (notes.Op j operation word) past i (away i j e))

stuck_same : (past : List Moment) (i j : ℕ) (b : Bool) → (j == i) ≡ b → is_some (pointer (said (notes.Stuck j) ∷ past) i) ≡ is_some (pointer past i)
stuck_same past i j true e =
    subst (λ k. is_some (pointer (said (notes.Stuck k) ∷ past) i) ≡ is_some (pointer past i)) (sym (here i j e)) (ap (λ (c : Core). c.wrote_pointer) (stuck_told past i))
stuck_same past i j false e = core_wrote past (said (notes.Stuck j) ∷ past) i (apart_core (notes.Stuck j) past i (away i j e))

seen_same : (past : List Moment) (i node generation : ℕ) (b : Bool) → (node == suc i) ≡ b → pointer (said (notes.Seen node generation) ∷ past) i ≡ pointer past i
seen_same past i node generation true e =
    subst (λ k. pointer (said (notes.Seen k generation) ∷ past) i ≡ pointer past i) (sym (here (suc i) node e))
    (same_name (pointer past i) (pointer (said (notes.Seen (suc i) generation) ∷ past) i) (seen_fades_now generation past i)
    (ap (λ (c : Core). c.wrote_pointer) (seen_told generation past i) ∙ reset_wrote _ (host_core (host_at past i))))
seen_same past i node generation false e = ap (λ (h : Host). h.pointer) (none_if (nat_eq node (suc i)) _ (host_at past i) e)
  where
    none_if : (b : Bool) (x y : Host) → b ≡ false → cond b x y ≡ y
    none_if true x y f = untrue (sym f)
    none_if false x y f = refl

pub pointer_same : (note : Note) (past : List Moment) (i : ℕ) → renames note ≡ false → pointer (said note ∷ past) i ≡ pointer past i
pointer_same (notes.Begin initiators ready) past i e = untrue (sym e)
pointer_same (notes.Append j n k cdb buffer) past i e = untrue (sym e)
pointer_same (notes.Drop j n) past i e = untrue (sym e)
pointer_same (notes.Sent serial generation from to bytes) past i e = untrue (sym e)
pointer_same (notes.Got serial) past i e = same_name (pointer past i) _ (got_fades_now serial past i) (core_wrote past (said (notes.Got serial) ∷ past) i (got_told serial past i))
pointer_same (notes.TimedOut serial) past i e = same_name (pointer past i) _ (timed_fades_now serial past i) (core_wrote past (said (notes.TimedOut serial) ∷ past) i (expired_told serial past i))
pointer_same (notes.Taken j n k status answer) past i e =
    same_name (pointer past i) _ (tame_told (sides.Own (notes.Taken j n k status answer) ∷ []) past i (refl, tt)).fades (core_wrote past (said (notes.Taken j n k status answer) ∷ past) i (taken_told j n k status answer past i))
pointer_same (notes.Op j operation word) past i e =
    same_name (pointer past i) _ (tame_told (sides.Own (notes.Op j operation word) ∷ []) past i (refl, tt)).fades (op_same past i j operation word (j == i) refl)
pointer_same (notes.Stuck j) past i e = same_name (pointer past i) _ (tame_told (sides.Own (notes.Stuck j) ∷ []) past i (refl, tt)).fades (stuck_same past i j (j == i) refl)
pointer_same (notes.Seen node generation) past i e = seen_same past i node generation (node == suc i) refl
pointer_same (notes.Low j n k) past i e = refl
pointer_same (notes.Linked j n k) past i e = refl
pointer_same (notes.Rung j n k) past i e = refl
pointer_same (notes.Dummied j n k) past i e = refl
pointer_same (notes.Injected serial) past i e = refl
pointer_same (notes.Ignored serial cause) past i e = refl
pointer_same (notes.Lost serial) past i e = refl
pointer_same (notes.Ran j n k at cdb bytes check) past i e = refl
pointer_same (notes.Ended j n k status) past i e = refl
pointer_same (notes.Cut j n cause) past i e = refl
pointer_same (notes.Dead j n cause) past i e = refl
pointer_same (notes.Managed j word subject status login) past i e = refl
pointer_same (notes.ManageFailed j cause) past i e = refl
pointer_same (notes.Held id) past i e = refl
pointer_same (notes.Expired id) past i e = refl
pointer_same (notes.Back id) past i e = refl
pointer_same (notes.Left id) past i e = refl
pointer_same (notes.Cleared at) past i e = refl
pointer_same (notes.Reset generation) past i e = refl
pointer_same notes.Tick past i e = refl
pointer_same (notes.Refused line number) past i e = refl
pointer_same notes.Settled past i e = refl
pointer_same notes.Stopped past i e = refl
pointer_same (notes.Key at) past i e = refl
pointer_same (notes.Unsolicited j) past i e = refl
pointer_same (notes.Unsent j) past i e = refl
pointer_same (notes.Told j) past i e = refl

-- a list that ends names none
pub drop_none : (i n : ℕ) (past : List Moment) → pointer (said (notes.Drop i n) ∷ past) i ≡ None
drop_none i n past = ap (λ (h : Host). h.pointer) (so_if (nat_eq i i) (list_begins zero (host_at past i)) (host_at past i) (let e : nat_eq i i ≡ true = grind (arith, nat_tests) in e))
  where
    so_if : (b : Bool) (x y : Host) → b ≡ true → cond b x y ≡ x
    so_if true x y e = refl
    so_if false x y e = untrue e

-- nor does one that begins
pub append_none : (i n : ℕ) (cdb : List ℕ) (buffer : NoteBuffer) (past : List Moment) → pointer (said (notes.Append i n zero cdb buffer) ∷ past) i ≡ None
append_none i n cdb buffer past = ap (λ (h : Host). h.pointer) (so_if (nat_eq i i) (list_begins zero (host_at past i)) (host_at past i) (let e : nat_eq i i ≡ true = grind (arith, nat_tests) in e))
  where
    so_if : (b : Bool) (x y : Host) → b ≡ true → cond b x y ≡ x
    so_if true x y e = refl
    so_if false x y e = untrue e
