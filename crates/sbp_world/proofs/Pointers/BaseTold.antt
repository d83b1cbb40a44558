-- What is told that refuses a logout, and that ends an operation; and what notes leave of the lists for which ORB_POINTER was written and of those that reads
-- of AGENT_STATE tell of.
use Rattle.sbp_world.proofs.Words.Std.{arith, ◌≡◌, refl, sym, ◌∙◌, ap, subst, ℕ, zero, suc, ◌==◌, ◌&&◌, ◌||◌, nat_eq, Bool, true, false, cond, List, [], ◌∷◌, ◌++◌, Option, Some, None, nat_tests, not-true}
use Rattle.sbp_world.proofs.Words.Wire.{judged_note, Moment, said, Judged, Event, Note, Operation, OpWord, Side}
use Rattle.sbp_world.proofs.Words.Laws.{Host, Underway, host_at, op_ended, told_of, present_list, event_of}
use Rattle.sbp_world.proofs.Words.World.{behind, AreUnrefused, is_refusal, is_state, names_answered, own_action, state_list, list_if, pointed_list}
use Rattle.sbp_journal.specs.declared.cause.Judged.TheVariants as judgements
use Rattle.sbp_journal.specs.declared.event.Event.TheVariants as events
use Rattle.sbp_journal.specs.declared.note.Note.TheVariants as notes
use Rattle.sbp_journal.specs.declared.operation.Operation.TheVariants as operations
use Rattle.sbp_journal.specs.declared.side.Side.TheVariants as sides
use Rattle.sbp_laws.specs.Hosts.{is_serial}
use Rattle.sbp_world.proofs.Hosts.Carries.{IsNoAct, is_apart}
use Rattle.sbp_world.proofs.Hosts.Layered.{AreTame, is_tame}
use Rattle.sbp_world.proofs.Hosts.PointerNotes.{pointer}
use Rattle.sbp_world.proofs.Pointers.Resetting.{told_fades}
use Rattle.sbp_world.proofs.Pointers.Naming.{none_some}
use Rattle.sbp_world.proofs.Pointers.Showing.{neither}
use Rattle.sbp_world.proofs.Pointers.Waits.{other}
use Rattle.sbp_world.proofs.Common.{untrue, serial_is}

both : (a b : Bool) → a ≡ false → b ≡ false → (a || b) ≡ false
both true b e f = untrue (sym e)
both false b e f = f

-- ---- a logout is refused

abbrev pub refuses : ℕ → Side → Bool
refuses i (sides.Own note) = is_refusal i note
refuses i _ = false

abbrev pub refuses_of : ℕ → List Side → Bool
refuses_of i [] = false
refuses_of i (side ∷ later) = refuses i side || refuses_of i later

pub front_unrefused : (i : ℕ) (told : List Side) (side : Side) → refuses_of i (told ++ side ∷ []) ≡ false → refuses_of i told ≡ false
front_unrefused i [] side e = refl
front_unrefused i (first ∷ told) side e =
    let x = neither (refuses i first) (refuses_of i (told ++ side ∷ [])) e in both (refuses i first) (refuses_of i told) x.0 (front_unrefused i told side x.1)

pub last_unrefused : (i : ℕ) (told : List Side) (side : Side) → refuses_of i (told ++ side ∷ []) ≡ false → refuses i side ≡ false
last_unrefused i [] side e = (neither (refuses i side) false e).0
last_unrefused i (first ∷ told) side e = last_unrefused i told side (neither (refuses i first) (refuses_of i (told ++ side ∷ [])) e).1

pub unrefused_told : (told : List Side) (past : List Moment) (i : ℕ) → AreTame told → AreUnrefused (behind told past) i → (refuses_of i told ≡ false) × AreUnrefused past i
unrefused_told [] past i h u = (refl, u)
unrefused_told (sides.Own note ∷ later) past i h u =
    let x = unrefused_told later (said note ∷ past) i h.1 u in (both (is_refusal i note) (refuses_of i later) x.1.0 x.0, x.1.1)
unrefused_told (_ ∷ later) past i h u = absurd h.0

pub judged_unrefused : (serial : ℕ) (judged : Judged) (past : List Moment) (i : ℕ) → AreUnrefused (said (judged_note serial judged) ∷ past) i → AreUnrefused past i
judged_unrefused serial judged past i u = u.1

-- ---- an operation ends: a read of AGENT_STATE is none

abbrev pub is_end : ℕ → Note → Bool
is_end i (notes.Op j operations.State word) = false
is_end i (notes.Op j operation word) = j == i
is_end i _ = false

abbrev pub closes : ℕ → Side → Bool
closes i (sides.Own note) = is_end i note
closes i _ = false

abbrev pub closes_of : ℕ → List Side → Bool
closes_of i [] = false
closes_of i (side ∷ later) = closes i side || closes_of i later

pub front_unclosed : (i : ℕ) (told : List Side) (side : Side) → closes_of i (told ++ side ∷ []) ≡ false → closes_of i told ≡ false
front_unclosed i [] side e = refl
front_unclosed i (first ∷ told) side e =
    let x = neither (closes i first) (closes_of i (told ++ side ∷ [])) e in both (closes i first) (closes_of i told) x.0 (front_unclosed i told side x.1)

pub last_unclosed : (i : ℕ) (told : List Side) (side : Side) → closes_of i (told ++ side ∷ []) ≡ false → closes i side ≡ false
last_unclosed i [] side e = (neither (closes i side) false e).0
last_unclosed i (first ∷ told) side e = last_unclosed i told side (neither (closes i first) (closes_of i (told ++ side ∷ [])) e).1

pub so_none : (b : Bool) (x y : Host) → b ≡ true → x.operation ≡ None → (cond b x y).operation ≡ None
so_none true x y e f = f
so_none false x y e f = untrue e

op_none : (j : ℕ) (operation : Operation) (word : OpWord) (past : List Moment) (i : ℕ) → is_end i (notes.Op j operation word) ≡ true → (host_at (said (notes.Op j operation word) ∷ past) i).operation ≡ None
op_none j operations.State word past i e = untrue e
op_none j operations.Rom word past i e = so_none (nat_eq j i) (op_ended operations.Rom word (host_at past i)) (host_at past i) e refl
op_none j operations.Login word past i e = so_none (nat_eq j i) (op_ended operations.Login word (host_at past i)) (host_at past i) e refl
op_none j operations.Query word past i e = so_none (nat_eq j i) (op_ended operations.Query word (host_at past i)) (host_at past i) e refl
op_none j operations.Reconnect word past i e = so_none (nat_eq j i) (op_ended operations.Reconnect word (host_at past i)) (host_at past i) e refl
op_none j operations.Logout word past i e = so_none (nat_eq j i) (op_ended operations.Logout word (host_at past i)) (host_at past i) e refl
op_none j operations.Abort word past i e = so_none (nat_eq j i) (op_ended operations.Abort word (host_at past i)) (host_at past i) e refl
op_none j operations.AbortSet word past i e = so_none (nat_eq j i) (op_ended operations.AbortSet word (host_at past i)) (host_at past i) e refl
op_none j operations.UnitReset word past i e = so_none (nat_eq j i) (op_ended operations.UnitReset word (host_at past i)) (host_at past i) e refl
op_none j operations.TargetReset word past i e = so_none (nat_eq j i) (op_ended operations.TargetReset word (host_at past i)) (host_at past i) e refl
op_none j operations.AgentReset word past i e = so_none (nat_eq j i) (op_ended operations.AgentReset word (host_at past i)) (host_at past i) e refl
op_none j operations.Enable word past i e = so_none (nat_eq j i) (op_ended operations.Enable word (host_at past i)) (host_at past i) e refl

end_none : (note : Note) (past : List Moment) (i : ℕ) → is_end i note ≡ true → (host_at (said note ∷ past) i).operation ≡ None
end_none (notes.Op j operation word) past i e = op_none j operation word past i e
end_none _ past i e = untrue e

-- where an operation is under way behind it none was ended
pub unclosed_told : (told : List Side) (past : List Moment) (i : ℕ) → AreTame told → (underway : Underway) → (host_at (behind told past) i).operation ≡ Some underway → closes_of i told ≡ false
unclosed_told [] past i h underway e = refl
unclosed_told (sides.Own note ∷ later) past i h underway e =
    both (is_end i note) (closes_of i later) (by (is_end i note) refl) (unclosed_told later (said note ∷ past) i h.1 underway e)
  where
    by : (b : Bool) → is_end i note ≡ b → b ≡ false
    by false f = refl
    by true f = none_some (sym (end_none note past i f) ∙ told_fades later (said note ∷ past) i h.1 underway e)
unclosed_told (_ ∷ later) past i h underway e = absurd h.0

-- ---- the lists for which ORB_POINTER was written, and those that reads tell of

pointed_note : (note : Note) (past : List Moment) → is_tame note ≡ true → pointed_list (said note ∷ past) ≡ pointed_list past
pointed_note (notes.Append j n k cdb buffer) past e = refl
pointed_note (notes.Low j n k) past e = refl
pointed_note (notes.Linked j n k) past e = refl
pointed_note (notes.Rung j n k) past e = refl
pointed_note (notes.Dummied j n k) past e = refl
pointed_note (notes.Taken j n k status answer) past e = refl
pointed_note (notes.Drop j n) past e = refl
pointed_note (notes.Op j operation word) past e = refl
pointed_note (notes.Stuck j) past e = refl
pointed_note (notes.Told j) past e = refl
pointed_note _ past e = untrue e

pub pointed_told : (told : List Side) (past : List Moment) → AreTame told → pointed_list (behind told past) ≡ pointed_list past
pointed_told [] past t = refl
pointed_told (sides.Own note ∷ later) past t = pointed_told later (said note ∷ past) t.1 ∙ pointed_note note past t.0
pointed_told (_ ∷ later) past t = absurd t.0

pub judged_pointed : (serial : ℕ) (judged : Judged) (past : List Moment) → pointed_list (said (judged_note serial judged) ∷ past) ≡ pointed_list past
judged_pointed serial judgements.Got past = refl
judged_pointed serial (judgements.Ignored cause) past = refl

pub apart_pointed : (note : Note) (past : List Moment) (i : ℕ) → is_apart i note ≡ true → (n : ℕ) → pointed_list (said note ∷ past) n i ≡ pointed_list past n i
apart_pointed (notes.Sent s generation zero to bytes) past i e n = refl
apart_pointed (notes.Sent s generation (suc j) to bytes) past i e n =
    other (nat_eq n s) (nat_eq i j) _ (pointed_list past n i) (let f : (suc j == suc i) ≡ false = not-true (suc j == suc i) e in grind (arith, nat_tests))
apart_pointed note past i e n = refl

-- ---- a packet that leaves in a line that is no action of the initiator

none_acts : (i j : ℕ) (event : Option Event) → IsNoAct i event → i ≡ j → is_state (own_action j event) ≡ false
none_acts i j (Some (events.Act k action)) n e = ap (λ b. is_state (cond b (Some action) None)) (subst (λ m. nat_eq m k ≡ false) e n)
none_acts i j _ n e = refl

-- what it writes or reads is new, or was there
by_test : (b c : Bool) (new old : Option ℕ) (n : ℕ) → (b ≡ true → c ≡ true → new ≡ Some n → old ≡ Some n) → cond b (cond c new old) old ≡ Some n → old ≡ Some n
by_test true true new old n f e = f refl refl e
by_test true false new old n f e = e
by_test false c new old n f e = e

pub sent_state : (serial generation from to : ℕ) (bytes : List ℕ) (past : List Moment) (i : ℕ) → IsNoAct i (event_of past) → (x n : ℕ) → state_list (said (notes.Sent serial generation from to bytes) ∷ past) x i ≡ Some n → state_list past x i ≡ Some n
sent_state serial generation zero to bytes past i a x n e = e
sent_state serial generation (suc j) to bytes past i a x n e =
    by_test (nat_eq x serial) (nat_eq i j) (told_of (is_state (own_action j (event_of past)) && names_answered past (host_at past j).pointer) (present_list past j)) (state_list past x i) n
    (λ f g h. none_some (sym (ap (λ b. told_of (b && names_answered past (host_at past j).pointer) (present_list past j)) (none_acts i j (event_of past) a (let z : i ≡ j = grind (arith, nat_tests) in z))) ∙ h)) e

pub if_so : (b : Bool) (list : Option ℕ) (n : ℕ) → list_if b list ≡ Some n → b ≡ true
if_so true list n e = refl
if_so false list n e = none_some e

pub sent_pointed : (serial generation from to : ℕ) (bytes : List ℕ) (past : List Moment) (i : ℕ) → (pointer (said (notes.Sent serial generation (suc i) to bytes) ∷ past) i ≡ Some serial → ⊥) → (x n : ℕ) → pointed_list (said (notes.Sent serial generation from to bytes) ∷ past) x i ≡ Some n → pointed_list past x i ≡ Some n
sent_pointed serial generation zero to bytes past i a x n e = e
sent_pointed serial generation (suc j) to bytes past i a x n e =
    by_test (nat_eq x serial) (nat_eq i j) (list_if (is_serial (pointer (said (notes.Sent serial generation (suc j) to bytes) ∷ past) j) serial) (present_list past j)) (pointed_list past x i) n
    (λ f g h.
    let same : j ≡ i = grind (arith, nat_tests) in
    absurd (a (subst (λ k. pointer (said (notes.Sent serial generation (suc k) to bytes) ∷ past) k ≡ Some serial) same (serial_is (pointer (said (notes.Sent serial generation (suc j) to bytes) ∷ past) j) serial (if_so (is_serial (pointer (said (notes.Sent serial generation (suc j) to bytes) ∷ past) j) serial) (present_list past j) n h))))) e
