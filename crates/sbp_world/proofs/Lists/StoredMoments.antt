-- A response of a login is got, and stands in the buffer of its place; and by the notes behind that it stays there.
use Rattle.sbp_world.proofs.Words.Std.{arith, ◌≡◌, ◌∙◌, ◌⊎◌, inl, inr, refl, sym, ap, subst, ℕ, zero, suc, ◌+◌, ◌-◌, ◌<◌, ◌≤◌, ◌&&◌, nat_eq, nat_le, nat_lt, Bool, true, false, cond, List, [], ◌∷◌, length, drop, Option, Some, None, nat_tests}
use Rattle.sbp_world.proofs.Words.Wire.{Access, Moment, said, Sending, Terms, terms, Cause, Note}
use Rattle.sbp_world.proofs.Words.Initiator.{patch, start_of, window_at}
use Rattle.sbp_world.proofs.Words.Laws.{Host, Underway, host_at, known_host, ready_host, stored, stored_in, present_list, access_at, access_in, access_in_bytes, answered_as, answered_at, answered_in, receiver_in, spelled_by}
use Rattle.sbp_world.proofs.Words.World.{write_access, Begins}
use Rattle.std.proofs.Common.{slice_index_or, slice_set}
use Rattle.bus_memory.specs.declared.window.Window.TheVariants as windows
use Rattle.sbp_journal.specs.declared.cause.Cause.TheVariants as causes
use Rattle.sbp_journal.specs.declared.note.Note.TheVariants as notes
use Rattle.sbp_laws.specs.Hosts.{got_by, is_serial}
use Rattle.sbp_world.proofs.Hosts.Cores.{wire_is}
use Rattle.sbp_world.proofs.Lists.BufferGets.{IsRead, read_of}
use Rattle.sbp_world.proofs.Lists.BufferStores.{IsStoring, Stores, got_stores, note_same, nothing, stores}
use Rattle.sbp_world.proofs.Lists.ManageGot.{IsWriting, writing_in}
use Rattle.sbp_world.proofs.Lists.ManageTerms.{none_is}
use Rattle.sbp_world.proofs.Lists.OpenedAside as aside
use Rattle.sbp_world.proofs.Lists.Quiet.{IsQuiet}
use Rattle.sbp_world.proofs.Lists.ServedTerms.{ignored_served, quiet_served}
use Rattle.sbp_world.proofs.Lists.OrbFifos.{high_window}
use Rattle.sbp_world.proofs.Lists.SlotShut.{IsApartTo}
use Rattle.sbp_world.proofs.Common.{untrue}

-- ---- a buffer
set_there : {A : Type 0} (xs : List A) (k : ℕ) (x d : A) → k < length xs → slice_index_or (slice_set xs k x) k d ≡ x
set_there [] k x d l = absurd (omega (arith, l))
set_there (y ∷ ys) zero x d l = refl
set_there (y ∷ ys) (suc k) x d l = set_there ys k x d (omega (arith, l))

patched : (old out : List ℕ) (at : ℕ) → at ≡ 0 → Begins (patch old at out) out
patched old out at e = subst (λ n. Begins (patch old n out) out) (sym e) (record { rest = drop (0 + length out) old; is = refl })

second_or_first : (place : ℕ) → place < 2 → (place ≡ 0) ⊎ (place ≡ 1)
second_or_first zero l = inl refl
second_or_first (suc zero) l = inr refl
second_or_first (suc (suc n)) l = absurd (omega (arith, l))

window_first : window_at (start_of (windows.Response 0)) ≡ Some (windows.Response 0)
unfolding window_at
window_first = refl

window_second : window_at (start_of (windows.Response 1)) ≡ Some (windows.Response 1)
unfolding window_at
window_second = refl

pub window_there : (place : ℕ) → place < 2 → window_at (start_of (windows.Response place)) ≡ Some (windows.Response place)
window_there place l = by (second_or_first place l)
  where
    by : (place ≡ 0) ⊎ (place ≡ 1) → window_at (start_of (windows.Response place)) ≡ Some (windows.Response place)
    by (inl e) = subst (λ n. window_at (start_of (windows.Response n)) ≡ Some (windows.Response n)) (sym e) window_first
    by (inr e) = subst (λ n. window_at (start_of (windows.Response n)) ≡ Some (windows.Response n)) (sym e) window_second

-- an operation is under way
pub record HasOp (i : ℕ) (past : List Moment) : Type 0 where
  pub now : Underway
  pub is : (host_at past i).operation ≡ Some now

begun_same : (b : Bool) (i : ℕ) (host : Host) (now : Underway) → (cond b (ready_host i) host).operation ≡ Some now → (cond b (ready_host i) host).responses ≡ host.responses
begun_same true i host now e = none_is now e
begun_same false i host now e = refl

module _ (place : ℕ) (small : place < 2) (out : List ℕ) (few : length out ≤ 256) where
  abbrev wrote : Access
  wrote = write_access (start_of (windows.Response place)) out

  abbrev from_start : ℕ
  from_start = start_of (windows.Response place) - start_of (windows.Response place)

  stored_there : (responses : List (List ℕ)) → place < length responses → Begins (slice_index_or (stored (Some wrote) responses) place []) out
  stored_there responses l =
      subst (λ w. Begins (slice_index_or (stored_in w wrote responses) place []) out) (sym (window_there place small))
      (by (nat_le (from_start + length out) 256) (let z : from_start ≡ 0 = omega arith in grind (arith, nat_tests)))
    where
      by : (b : Bool) → b ≡ true → Begins (slice_index_or (cond b (slice_set responses place (patch (slice_index_or responses place []) from_start out)) responses) place []) out
      by true e = subst (λ xs. Begins xs out) (sym (set_there responses place (patch (slice_index_or responses place []) from_start out) [] l)) (patched (slice_index_or responses place []) out from_start (omega arith))
      by false e = untrue e

  -- ---- it stands there
  abbrev pub In : ℕ → List Moment → Type 0
  In i past = Begins (slice_index_or (host_at past i).responses place []) out

  pub stays_in : (i : ℕ) (past now : List Moment) → (host_at now i).responses ≡ (host_at past i).responses → In i past → In i now
  stays_in i past now e x = subst (λ (rs : List (List ℕ)). Begins (slice_index_or rs place []) out) (sym e) x

  begun_in : (i : ℕ) (past : List Moment) (initiators : ℕ) (ready : Bool) → HasOp i (said (notes.Begin initiators ready) ∷ past) → In i past → In i (said (notes.Begin initiators ready) ∷ past)
  begun_in i past initiators ready has x =
      stays_in i past (said (notes.Begin initiators ready) ∷ past) (begun_same (ready && nat_lt i initiators) i (host_at past i) has.now has.is) x

  -- by a note by which no packet is judged
  pub quiet_in : (i : ℕ) (note : Note) (past : List Moment) → IsQuiet note → HasOp i (said note ∷ past) → In i past → In i (said note ∷ past)
  quiet_in i (notes.Begin initiators ready) past q has x = begun_in i past initiators ready has x
  quiet_in i (notes.Got s) past q has x = absurd q
  quiet_in i (notes.Ignored s cause) past q has x = absurd q
  quiet_in i note past q has x = stays_in i past (said note ∷ past) (note_same note past (known_host past i).wire i (host_at past i) tt) x

  -- ---- it is got
  module _ (B : List Moment) (i r : ℕ) (there : place < length (host_at B i).responses) (to : receiver_in ((terms B).sent r) ≡ Some (suc i)) (asks : access_at (terms B) r ≡ Some wrote) where
    read : IsRead ((terms B).sent r) wrote
    read = read_of ((terms B).sent r) wrote asks

    spelled : access_in_bytes read.packet.bytes ≡ Some wrote
    spelled = ap (λ x. access_in (spelled_by x)) read.read ∙ read.asks

    writes : IsWriting read.packet.bytes
    writes = writing_in read.packet.bytes wrote spelled refl

    pub unanswered : answered_at (terms B) r ≡ None
    unanswered = ap (λ (so : Option Sending). answered_in (terms B) so) read.is ∙ ap (λ x. answered_as x (terms B) read.packet) writes.part

    mine : is_serial (receiver_in ((terms B).sent r)) (suc i) ≡ true
    mine = ap (λ o. is_serial o (suc i)) to ∙ (let z : nat_eq (suc i) (suc i) ≡ true = grind arith in z)

    abbrev after_it : Terms → Host
    after_it x = cond (is_serial (receiver_in (x.sent r)) (suc i)) (got_by (answered_at x r) x r (present_list B i) (host_at B i)) (host_at B i)

    got_left : Begins (slice_index_or (after_it (terms B)).responses place []) out
    got_left =
        subst (λ b. Begins (slice_index_or (cond b (got_by (answered_at (terms B) r) (terms B) r (present_list B i) (host_at B i)) (host_at B i)).responses place []) out) (sym mine)
        (subst (λ o. Begins (slice_index_or (got_by o (terms B) r (present_list B i) (host_at B i)).responses place []) out) (sym unanswered)
        (subst (λ a. Begins (slice_index_or (stored a (host_at B i).responses) place []) out) (sym asks)
        (stored_there (host_at B i).responses there)))

    pub got_in : Begins (slice_index_or (host_at (said (notes.Got r) ∷ B) i).responses place []) out
    got_in = subst (λ (x : Terms). Begins (slice_index_or (after_it x).responses place []) out) (sym (wire_is B i)) got_left

    -- ---- by another note it stays
    apart_slot : IsApartTo B i r → ⊥
    apart_slot x =
        high_window wrote.offset (x read.packet read.is (ap_to (read.packet) read.is to) read.p read.read wrote read.asks) place (window_there place small)
      where
        ap_to : (packet : Sending) → (terms B).sent r ≡ Some packet → receiver_in ((terms B).sent r) ≡ Some (suc i) → packet.to ≡ suc i
        ap_to packet e f = let both : Some packet.to ≡ Some (suc i) = sym (ap receiver_in e) ∙ f in cc

    -- none but a storing one changes it
    pub one_note : (note : Note) → HasOp i (said note ∷ B) → ((s : ℕ) → note ≡ notes.Got s → IsStoring B i s → s ≡ r) → (note ≡ notes.Ignored r causes.Slot → IsApartTo B i r) → (0 < (terms B).served r → In i B) → 0 < (terms (said note ∷ B)).served r → In i (said note ∷ B)
    one_note (notes.Begin initiators ready) none store apart was l = begun_in i B initiators ready none (was l)
    one_note (notes.Got s) none store apart was l = by (nat_eq r s) refl
      where
        by : (b : Bool) → nat_eq r s ≡ b → In i (said (notes.Got s) ∷ B)
        by true e = subst (λ n. In i (said (notes.Got n) ∷ B)) (let same : r ≡ s = grind (arith, nat_tests) in same) got_in
        by false e =
            let same = (aside.got r s e ((terms B).sent s) (terms B)).served in
            in_by (was (omega (arith, same, l))) (got_stores B i s)
          where
            in_by : In i B → Stores B i s → In i (said (notes.Got s) ∷ B)
            in_by x (nothing f) = stays_in i B (said (notes.Got s) ∷ B) f x
            in_by x (stores f) = let same : s ≡ r = store s refl f in let yes : nat_eq r s ≡ true = grind (arith, nat_tests) in untrue (sym e ∙ yes)
    one_note (notes.Ignored s cause) none store apart was l = by (nat_eq r s) refl
      where
        here : 0 < (terms B).served r → In i (said (notes.Ignored s cause) ∷ B)
        here x = stays_in i B (said (notes.Ignored s cause) ∷ B) refl (was x)

        by_cause : (b : Cause) → cause ≡ b → r ≡ s → In i (said (notes.Ignored s cause) ∷ B)
        by_cause causes.Slot e f = absurd (apart_slot (apart (ap (λ n. notes.Ignored n cause) (sym f) ∙ ap (λ x. notes.Ignored r x) e)))
        by_cause causes.Generation e f = here (let same = ap (λ (g : ℕ → ℕ). g r) (ignored_served ((terms B).sent s) cause s (terms B) (λ x. let no : causes.Generation ≡ causes.Slot = sym e ∙ x in cc)) in omega (arith, same, l))
        by_cause causes.Grammar e f = here (let same = ap (λ (g : ℕ → ℕ). g r) (ignored_served ((terms B).sent s) cause s (terms B) (λ x. let no : causes.Grammar ≡ causes.Slot = sym e ∙ x in cc)) in omega (arith, same, l))
        by_cause causes.Label e f = here (let same = ap (λ (g : ℕ → ℕ). g r) (ignored_served ((terms B).sent s) cause s (terms B) (λ x. let no : causes.Label ≡ causes.Slot = sym e ∙ x in cc)) in omega (arith, same, l))
        by_cause causes.Again e f = here (let same = ap (λ (g : ℕ → ℕ). g r) (ignored_served ((terms B).sent s) cause s (terms B) (λ x. let no : causes.Again ≡ causes.Slot = sym e ∙ x in cc)) in omega (arith, same, l))
        by_cause causes.Source e f = here (let same = ap (λ (g : ℕ → ℕ). g r) (ignored_served ((terms B).sent s) cause s (terms B) (λ x. let no : causes.Source ≡ causes.Slot = sym e ∙ x in cc)) in omega (arith, same, l))
        by_cause causes.Login e f = here (let same = ap (λ (g : ℕ → ℕ). g r) (ignored_served ((terms B).sent s) cause s (terms B) (λ x. let no : causes.Login ≡ causes.Slot = sym e ∙ x in cc)) in omega (arith, same, l))

        by : (b : Bool) → nat_eq r s ≡ b → In i (said (notes.Ignored s cause) ∷ B)
        by true e = by_cause cause refl (grind (arith, nat_tests))
        by false e = here (let same = (aside.ignored_that r s e ((terms B).sent s) cause (terms B)).served in omega (arith, same, l))
    one_note (notes.Sent s generation from node bytes) none store apart was l =
        let note = notes.Sent s generation from node bytes in
        let same = ap (λ (g : ℕ → ℕ). g r) (quiet_served note B tt) in
        stays_in i B (said note ∷ B) (note_same note B (known_host B i).wire i (host_at B i) tt) (was (omega (arith, same, l)))
    one_note (notes.TimedOut s) none store apart was l =
        let note = notes.TimedOut s in
        let same = ap (λ (g : ℕ → ℕ). g r) (quiet_served note B tt) in
        stays_in i B (said note ∷ B) (note_same note B (known_host B i).wire i (host_at B i) tt) (was (omega (arith, same, l)))
    one_note note none store apart was l =
        stays_in i B (said note ∷ B) (note_same note B (known_host B i).wire i (host_at B i) tt) (was l)
