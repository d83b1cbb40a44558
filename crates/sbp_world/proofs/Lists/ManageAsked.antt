-- A block write of an initiator that names a place of management is sent in the line of an action that begins an operation of management: of what else an initiator writes,
-- ORB_POINTER names the ORB of a slot, and the others are quadlets.
use Rattle.sbp_world.proofs.Words.Std.{arith, ◌≡◌, ◌∙◌, refl, sym, ap, subst, ℕ, suc, ◌+◌, ◌*◌, ◌<◌, ◌==◌, nat_eq, Bool, true, false, cond, List, [], ◌∷◌, Option, Some, nat_tests, big_bytes}
use Rattle.sbp_world.proofs.Words.Wire.{Access, Moment, said, Sending, terms, Action}
use Rattle.sbp_world.proofs.Words.Initiator.{start_of, offset_at}
use Rattle.sbp_world.proofs.Words.Laws.{host_at, operation_of, lowest_vacant, slot_at, slots, access_in_bytes, EachMoment}
use Rattle.sbp_world.proofs.Words.World.{MayAsk, MayPoint, MaySend, MayStand, MayWrite, manages, pointer_write, register_write, writes_bell, writes_enable, writes_management, writes_pointer, writes_reset, IsAsking}
use Rattle.bus_memory.specs.declared.window.Window.TheVariants as windows
use Rattle.sbp_journal.specs.declared.note.Note.TheVariants as notes
use Rattle.sbp_world.specs.Pointers.Moments.{IsWritten}
use Rattle.sbp_world.proofs.Lists.ManageLines.{IsManagingLine, eight_at}
use Rattle.sbp_world.proofs.Lists.ManageSends.{sent_is, sent_terms}
use Rattle.sbp_world.proofs.Lists.ManageTerms.{same_some}
use Rattle.sbp_world.proofs.Common.{untrue}

-- ---- each ORB of an initiator has a slot

slot_or : (x y z : Bool) (slot old : ℕ) → (x ≡ true → slot < 32) → old < 32 → cond x (cond y (cond z slot old) old) old < 32
slot_or true true true slot old a b = a refl
slot_or true true false slot old a b = b
slot_or true false z slot old a b = b
slot_or false y z slot old a b = b

lowest_small : (past : List Moment) (i j : ℕ) → ((j == i) ≡ true → lowest_vacant (slots past i) < 32) → nat_eq i j ≡ true → lowest_vacant (slots past j) < 32
lowest_small past i j h e =
    let same : i ≡ j = grind (arith, nat_tests) in
    let back : (j == i) ≡ true = grind (arith, nat_tests) in
    subst (λ x. lowest_vacant (slots past x) < 32) same (h back)

pub slots_small : (i : ℕ) (past : List Moment) → EachMoment (MayStand i) past → (n k : ℕ) → slot_at past i n k < 32
slots_small i [] h n k = omega arith
slots_small i (said (notes.Append j m l cdb buffer) ∷ past) h n k =
    slot_or (nat_eq i j) (nat_eq n m) (nat_eq k l) (lowest_vacant (slots past j)) (slot_at past i n k) (lowest_small past i j (λ e. (h.0 e).small)) (slots_small i past h.1 n k)
slots_small i (_ ∷ past) h n k = slots_small i past h.1 n k

-- ---- an ORB in a slot stands in no place of management

apart : {A : Type 0} (slot place : ℕ) → slot < 32 → offset_at (big_bytes 8 (start_of (windows.Orb slot))) 0 ≡ start_of (windows.Management place) → A
apart slot place small e =
    let at : start_of (windows.Orb slot) ≡ start_of (windows.Management place) = sym (eight_at (start_of (windows.Orb slot)) (omega (arith, small))) ∙ e in
    absurd (apart_by slot place small at)
  where
    apart_by : (slot place : ℕ) → slot < 32 → 0x1000_0000 + 0x40 * slot ≡ 0x1200_0000 + 0x20 * place → ⊥
    apart_by slot place small f = omega (arith, small, f)

not_pointer : {A : Type 0} (access : Access) (base slot place : ℕ) → access ≡ pointer_write base (start_of (windows.Orb slot)) → slot < 32 → offset_at access.payload 0 ≡ start_of (windows.Management place) → A
not_pointer access base slot place e small names = apart slot place small (ap (λ (a : Access). offset_at a.payload 0) (sym e) ∙ names)

not_register : {A : Type 0} (access : Access) (base distance : ℕ) → access ≡ register_write base distance → access.is_block ≡ true → A
not_register access base distance e block = untrue (ap (λ (a : Access). a.is_block) (sym e) ∙ block)

-- ---- what is written

module _ (past : List Moment) (i serial generation to : ℕ) (bytes : List ℕ) (stands : EachMoment (MayStand i) past) (sends : MaySend past i serial generation to bytes) (access : Access) (spelled : access_in_bytes bytes ≡ Some access) (block : access.is_block ≡ true) (place : ℕ) (names : offset_at access.payload 0 ≡ start_of (windows.Management place)) where
  abbrev named : Option ℕ
  named = (host_at (said (notes.Sent serial generation (suc i) to bytes) ∷ past) i).pointer

  by_pointer : {A : Type 0} → MayPoint past i to bytes → A
  by_pointer p =
      let slot = slot_at past i p.list 0 in
      let is : access ≡ pointer_write p.base (start_of (windows.Orb slot)) = same_some _ _ (sym spelled ∙ p.spelled) in
      not_pointer access p.base slot place is (slots_small i past stands p.list 0) names

  written_by : (action : Action) → MayWrite past i named serial action access → manages (operation_of action) ≡ true
  written_by action (writes_pointer rings e) = by_pointer (sends.points e)
  written_by action (writes_bell rings list other base present pointer e) = not_register access base 0x10 e block
  written_by action (writes_reset is base e) = not_register access base 0x04 e block
  written_by action (writes_enable is base e) = not_register access base 0x14 e block
  written_by action (writes_management m offset at e) = m

pub asking_line : (i serial generation from to : ℕ) (bytes : List ℕ) (past : List Moment) → EachMoment (MayStand i) (said (notes.Sent serial generation from to bytes) ∷ past) → MayAsk i (said (notes.Sent serial generation from to bytes)) past → (place : ℕ) → IsAsking (said (notes.Sent serial generation from to bytes) ∷ past) i serial place → IsManagingLine past i
asking_line i serial generation from to bytes past stands asks place a =
    let q : Sending = record { generation = generation; from = from; to = to; bytes = bytes; injected = (terms past).injected serial } in
    let same : q ≡ a.packet = sent_is serial q a.packet (terms past).sent (sym (ap (λ (g : ℕ → Option Sending). g serial) (sent_terms serial q (terms past)).sent) ∙ a.sent) in
    let from_is : from ≡ suc i = ap (λ (x : Sending). x.from) same ∙ a.from_is in
    let own : (from == suc i) ≡ true = grind (arith, nat_tests) in
    let honest : (terms past).injected serial ≡ false = ap (λ (x : Sending). x.injected) same ∙ a.honest in
    let spelled : access_in_bytes bytes ≡ Some a.access = ap (λ (x : Sending). access_in_bytes x.bytes) same ∙ a.spelled in
    let w : IsWritten past i (host_at (said (notes.Sent serial generation (suc i) to bytes) ∷ past) i).pointer serial a.access = asks own honest a.access spelled a.writes in
    record {
      action = w.action;
      line = w.line;
      manages_it = written_by past i serial generation to bytes stands.1 (stands.0 own honest) a.access spelled a.block place a.names w.action w.is;
    }
