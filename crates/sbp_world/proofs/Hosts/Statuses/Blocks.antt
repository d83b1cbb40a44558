-- What the bytes of a status block spell.
use Rattle.sbp_world.proofs.Words.Std.{arith, ◌≡◌, refl, sym, ◌∙◌, ap, subst, ℕ, ◌/◌, ◌^◌, ◌&&◌, ◌||◌, nat_eq, nat_le, nat_lt, Bool, true, false, cond, List, [], length, Option, Some, None, Result, Ok, Err, nat_tests, quad}
use Rattle.sbp_world.proofs.Words.Wire.{Moment}
use Rattle.sbp_world.proofs.Words.Target.{is_block, Sense}
use Rattle.sbp_world.proofs.Words.Initiator.{slot_of, start, window_at, is_managed_orb, names_place, OrbFault, StatusBlock, StatusKind, offset_at, command_kind, has, illegal_meanings, in_row, is_among, is_check_part, is_management, kind_of, read_block, sbp_status_of, sense_of, src_of, whole_length}
use Rattle.sbp_world.proofs.Words.Laws.{named_in, if_waits, taking_of}
use Rattle.bus_memory.specs.declared.window.Window.TheVariants as windows
use Rattle.orb_layout.specs.declared.status.StatusKind.TheVariants as kinds
use Rattle.sbp_world.proofs.Common.{and_second, untrue}
use Rattle.sbp_world.proofs.Hosts.Brings.{pick_read}

-- ---- a block that is read

pub record IsRead (management : Bool) (bytes : List ℕ) (block : StatusBlock) : Type 0 where
  pub src : src_of bytes ≡ block.src
  pub kind : kind_of management bytes ≡ Some block.kind
  pub orb : block.orb ≡ offset_at bytes 0

read_row : (management : Bool) (bytes : List ℕ) (kind : Option StatusKind) (block : StatusBlock) → kind_of management bytes ≡ kind → in_row bytes kind ≡ Ok block → IsRead management bytes block
read_row management bytes None block k e = cc
read_row management bytes (Some kind) block k e =
    let same : ◌≡◌ {A = StatusBlock} (record { src = src_of bytes; kind = kind; orb = offset_at bytes 0 }) block = cc in
    record { src = ap (λ (b : StatusBlock). b.src) same; kind = k ∙ ap (λ (b : StatusBlock). Some b.kind) same; orb = sym (ap (λ (b : StatusBlock). b.orb) same) }

pub is_read_by : (management : Bool) (bytes : List ℕ) (block : StatusBlock) → read_block management bytes ≡ Ok block → IsRead management bytes block
is_read_by management bytes block e =
    pick_read (nat_lt (length bytes) 8) _ _ block
    (pick_read (nat_lt (length bytes) (whole_length bytes)) _ _ block
    (pick_read (nat_lt (whole_length bytes) (length bytes)) _ _ block (read_row management bytes (kind_of management bytes) block refl))) e

-- ---- one that names a management ORB is of that kind, and no other is

pub record IsManaged (kind : StatusKind) : Type 0 where
  pub code : ℕ
  pub is : kind ≡ kinds.Management code

some_managed : (b : Bool) (code : ℕ) (kind : StatusKind) → cond b (Some (kinds.Management code)) None ≡ Some kind → IsManaged kind
some_managed true code kind e = record { code = code; is = cc }
some_managed false code kind e = cc

pub managed_kind : (bytes : List ℕ) (block : StatusBlock) → read_block true bytes ≡ Ok block → IsManaged block.kind
managed_kind bytes block e = some_managed _ _ block.kind (is_read_by true bytes block e).kind

record IsCommand (found : Option StatusKind) : Type 0 where
  is : (kind : StatusKind) → found ≡ Some kind → is_management kind ≡ false

no_command : IsCommand None
no_command = record { is = λ kind e. absurd (differ e) }
  where
    differ : {kind : StatusKind} → None ≡ Some kind → ⊥
    differ e = cc

some_command : (kind : StatusKind) → is_management kind ≡ false → IsCommand (Some kind)
some_command kind f = record { is = λ other e. subst (λ (k : StatusKind). is_management k ≡ false) (same kind other e) f }
  where
    same : (kind other : StatusKind) → Some kind ≡ Some other → kind ≡ other
    same kind other e = cc

pick_command : (b : Bool) (x y : Option StatusKind) → IsCommand x → IsCommand y → IsCommand (cond b x y)
pick_command true x y f g = f
pick_command false x y f g = g

by_rows : (a b c d e f : Bool) (told : Sense) (meaning : ℕ) → IsCommand (cond a (Some kinds.Good) (cond b (Some (kinds.Check told)) (cond c (Some kinds.Dummy) (cond d (Some kinds.Aborted) (cond e (Some (kinds.Illegal meaning)) (cond f (Some kinds.Failed) None))))))
by_rows true b c d e f told meaning = some_command kinds.Good refl
by_rows false true c d e f told meaning = some_command (kinds.Check told) refl
by_rows false false true d e f told meaning = some_command kinds.Dummy refl
by_rows false false false true e f told meaning = some_command kinds.Aborted refl
by_rows false false false false true f told meaning = some_command (kinds.Illegal meaning) refl
by_rows false false false false false true told meaning = some_command kinds.Failed refl
by_rows false false false false false false told meaning = no_command

commands : (bytes : List ℕ) → IsCommand (command_kind bytes)
unfolding command_kind
commands bytes =
    by_rows (has bytes 0 0 1 0x00) (has bytes 0 0 5 0x00 && is_check_part bytes) (has bytes 0 0 1 0x0b) (has bytes 0 0 1 0x0c)
    (has bytes 2 1 1 (sbp_status_of bytes) && is_among illegal_meanings (sbp_status_of bytes)) (has bytes 1 1 1 0xff) (sense_of bytes) (sbp_status_of bytes)

pub command_is : (bytes : List ℕ) (block : StatusBlock) → read_block false bytes ≡ Ok block → is_management block.kind ≡ false
command_is bytes block e =
    (pick_command (nat_lt (src_of bytes) 2) (command_kind bytes) None (commands bytes) no_command).is block.kind (is_read_by false bytes block e).kind

-- ---- a block that names no ORB, and one that is unsolicited

first_place : slot_of (start (windows.Management 0)) ≡ None
unfolding slot_of window_at
first_place = refl

second_place : slot_of (start (windows.Management 1)) ≡ None
unfolding slot_of window_at
second_place = refl

pub place_slot : (offset : ℕ) → is_managed_orb offset ≡ true → slot_of offset ≡ None
place_slot offset e = by_tests (nat_eq offset (start (windows.Management 0))) (nat_eq offset (start (windows.Management 1))) refl refl e
  where
    by_tests : (a b : Bool) → nat_eq offset (start (windows.Management 0)) ≡ a → nat_eq offset (start (windows.Management 1)) ≡ b → a || b ≡ true → slot_of offset ≡ None
    by_tests true b f g e = let same : offset ≡ start (windows.Management 0) = grind (arith, nat_tests) in ap slot_of same ∙ first_place
    by_tests false true f g e = let same : offset ≡ start (windows.Management 1) = grind (arith, nat_tests) in ap slot_of same ∙ second_place
    by_tests false false f g e = untrue e

pub placed_none : (past : List Moment) (i : ℕ) (bytes : List ℕ) → names_place bytes ≡ true → taking_of past i (read_block false bytes) ≡ []
placed_none past i bytes e = by_read (read_block false bytes) refl
  where
    by_read : (r : Result StatusBlock OrbFault) → read_block false bytes ≡ r → taking_of past i r ≡ []
    by_read (Err fault) r = refl
    by_read (Ok block) r =
        let at : slot_of block.orb ≡ None = ap slot_of (is_read_by false bytes block r).orb ∙ place_slot (offset_at bytes 0) (and_second (nat_le 8 (length bytes)) (is_managed_orb (offset_at bytes 0)) e) in
        ap (λ (found : Option ℕ). if_waits past i (named_in past i found) block.kind) at

pick_taking : (past : List Moment) (i : ℕ) (b : Bool) (fault : OrbFault) (rest : Result StatusBlock OrbFault) → taking_of past i rest ≡ [] → taking_of past i (cond b (Err fault) rest) ≡ []
pick_taking past i true fault rest e = refl
pick_taking past i false fault rest e = e

quad_is : (bytes : List ℕ) → is_block bytes ≡ true → quad bytes 0 ≡ 0x85000000
quad_is bytes e = by_tests (nat_eq (length bytes) 24) (nat_eq (quad bytes 0) 0x85000000) _ _ refl e
  where
    by_tests : (a b c d : Bool) → nat_eq (quad bytes 0) 0x85000000 ≡ b → a && b && c && d ≡ true → quad bytes 0 ≡ 0x85000000
    by_tests true true c d f e = grind (arith, nat_tests)
    by_tests true false c d f e = untrue e
    by_tests false b c d f e = untrue e

-- its src is 2
pub unsolicited_none : (past : List Moment) (i : ℕ) (bytes : List ℕ) → is_block bytes ≡ true → taking_of past i (read_block false bytes) ≡ []
unsolicited_none past i bytes e =
    let two : src_of bytes ≡ 2 = ap (λ (n : ℕ). n / 2 ^ 30) (quad_is bytes e) in
    let none : kind_of false bytes ≡ None = ap (λ (n : ℕ). cond (nat_lt n 2) (command_kind bytes) None) two in
    pick_taking past i (nat_lt (length bytes) 8) _ _
    (pick_taking past i (nat_lt (length bytes) (whole_length bytes)) _ _
    (pick_taking past i (nat_lt (whole_length bytes) (length bytes)) _ _ (ap (λ (k : Option StatusKind). taking_of past i (in_row bytes k)) none)))
