-- What a request of the target writes, by its bytes: those of its body, at its address; and what is read of a status block that was written: its ORB, its src, and
-- its kind where that has a row.
use Rattle.sbp_world.proofs.Words.Std.{arith, ◌≡◌, ◌∙◌, refl, sym, ap, subst, ◌<◌, ◌≤◌, ◌+◌, ◌*◌, ◌/◌, ◌%◌, ◌^◌, ◌==◌, ◌&&◌, nat_lt, ℕ, Bool, true, false, cond, List, [], ◌∷◌, ◌++◌, length, Option, Some, None, Result, Ok, Err, false≢true, none-some}
use Rattle.sbp_world.proofs.Words.Wire.{PacketFault, canon, four, with_pad, length_of, offset_of, tcode_of, fault_of, packet_in, payload_in, reading, unless_fault, block_write, header_to, request_with, with_label, Access}
use Rattle.sbp_world.proofs.Words.Initiator.{OrbFault, Form, Length, StatusBlock, StatusKind, offset_at, IsKind, command_kind, dead_of, has, illegal_meanings, in_row, is_among, is_check_part, is_management, kind_of, len_of, read_block, resp_of, sbp_status_of, src_of, status_bytes, whole_length}
use Rattle.sbp_world.proofs.Words.Laws.{access_in, access_in_bytes, spelled_by}
use Rattle.std.specs.Prelude.{drop, take}
use Rattle.orb_layout.specs.declared.status.StatusKind.TheVariants as kinds
use Rattle.orb_layout.proofs.StatusBack.{status_back}
use Rattle.sbp_world.specs.Lists.Statuses.{IsTold}
use Rattle.sbp_world.proofs.Lists.StatusSteps.{IsFair}

-- the address that is written to
abbrev pub written_at : ℕ → ℕ
written_at at = at / 2 ^ 32 % 2 ^ 16 * 2 ^ 32 + at % 2 ^ 32

pub same_address : (at : ℕ) → at < 2 ^ 48 → written_at at ≡ at
same_address at b = omega (arith, b)

pub record Wrote (access : Access) (at : ℕ) (payload : List ℕ) : Type 0 where
  pub payload_is : access.payload ≡ payload
  pub offset_is : access.offset ≡ written_at at

take_front : (xs ys : List ℕ) → take (length xs) (xs ++ ys) ≡ xs
take_front [] ys = refl
take_front (x ∷ xs) ys = ap (λ zs. x ∷ zs) (take_front xs ys)

module _ (number node peer at : ℕ) (payload : List ℕ) (fits : length payload ≤ 2048) where
  abbrev plain : List ℕ
  plain = canon (request_with (header_to node peer 0) (block_write at payload))

  abbrev bytes : List ℕ
  bytes = with_label number plain

  tcode_is : tcode_of bytes ≡ 1
  unfolding tcode_of with_label four
  tcode_is = omega arith

  length_is : length_of bytes ≡ length payload
  unfolding length_of with_label four
  length_is = omega (arith, fits)

  offset_is : offset_of bytes ≡ written_at at
  unfolding offset_of with_label four
  offset_is = omega arith

  rest_is : drop 16 bytes ≡ with_pad payload
  unfolding with_label four
  rest_is = refl

  payload_is : payload_in bytes ≡ payload
  payload_is = ap (λ n. take n (drop 16 bytes)) length_is ∙ ap (λ xs. take (length payload) xs) rest_is ∙ take_front payload _

  found : (access : Access) (tcode : ℕ) → tcode ≡ 1 → (fault : Option PacketFault) → access_in (spelled_by (unless_fault fault (packet_in bytes tcode))) ≡ Some access → Wrote access at payload
  found access tcode t (Some fault) e = absurd (none-some access e)
  found access tcode t None e =
      let is : access_in (spelled_by (Ok (packet_in bytes 1))) ≡ Some access = subst (λ n. access_in (spelled_by (Ok (packet_in bytes n))) ≡ Some access) t e in
      by_packet is
    where
      by_packet : Some (record { is_lock = false; is_write = true; is_block = true; offset = offset_of bytes; count = length (payload_in bytes); payload = payload_in bytes }) ≡ Some access → Wrote access at payload
      by_packet e =
          let same : record { is_lock = false; is_write = true; is_block = true; offset = offset_of bytes; count = length (payload_in bytes); payload = payload_in bytes } ≡ access = cc in
          record { payload_is = sym (ap (λ (a : Access). a.payload) same) ∙ payload_is; offset_is = sym (ap (λ (a : Access). a.offset) same) ∙ offset_is }

  pub wrote : (access : Access) → access_in_bytes bytes ≡ Some access → Wrote access at payload
  unfolding reading
  wrote access e = found access (tcode_of bytes) tcode_is (fault_of bytes) e

-- ---- a status block
pub record HasFields (bytes : List ℕ) (src orb : ℕ) : Type 0 where
  pub src_is : src_of bytes ≡ src
  pub orb_is : offset_at bytes 0 ≡ orb

pub fields : (src orb : ℕ) (kind : StatusKind) → IsFair kind → src < 2 → orb < 2 ^ 48 → HasFields (status_bytes (record { src = src; kind = kind; orb = orb })) src orb
fields src orb kinds.Good fair s o = record { src_is = omega (arith, s, o); orb_is = omega (arith, s, o) }
fields src orb (kinds.Check told) fair s o = record { src_is = omega (arith, s, o); orb_is = omega (arith, s, o) }
fields src orb kinds.Dummy fair s o = record { src_is = omega (arith, s, o); orb_is = omega (arith, s, o) }
fields src orb kinds.Aborted fair s o = record { src_is = omega (arith, s, o); orb_is = omega (arith, s, o) }
fields src orb (kinds.Illegal meaning) fair s o = record { src_is = omega (arith, s, o, fair); orb_is = omega (arith, s, o, fair) }
fields src orb kinds.Failed fair s o = record { src_is = omega (arith, s, o); orb_is = omega (arith, s, o) }
fields src orb (kinds.Management meaning) fair s o = absurd fair

-- what is read of it
pub record ReadsAs (bytes : List ℕ) (block : StatusBlock) : Type 0 where
  pub src_is : block.src ≡ src_of bytes
  pub orb_is : block.orb ≡ offset_at bytes 0

pub not_read : (fault : OrbFault) (block : StatusBlock) → Err fault ≡ Ok block → ⊥
not_read fault block e = cc

row_reads : (bytes : List ℕ) (kind : Option StatusKind) (block : StatusBlock) → in_row bytes kind ≡ Ok block → ReadsAs bytes block
row_reads bytes None block e = absurd (not_read _ block e)
row_reads bytes (Some kind) block e =
    let same : record { src = src_of bytes; kind = kind; orb = offset_at bytes 0 } ≡ block = cc in
    record { src_is = sym (ap (λ (b : StatusBlock). b.src) same); orb_is = sym (ap (λ (b : StatusBlock). b.orb) same) }

reads_by : (x y z : Bool) (a b c : OrbFault) (spelled : List ℕ) (kind : Option StatusKind) (block : StatusBlock) → cond x (Err a) (cond y (Err b) (cond z (Err c) (in_row spelled kind))) ≡ Ok block → ReadsAs spelled block
reads_by true y z a b c spelled kind block e = absurd (not_read a block e)
reads_by false true z a b c spelled kind block e = absurd (not_read b block e)
reads_by false false true a b c spelled kind block e = absurd (not_read c block e)
reads_by false false false a b c spelled kind block e = row_reads spelled kind block e

pub reads_as : (management : Bool) (bytes : List ℕ) (block : StatusBlock) → read_block management bytes ≡ Ok block → ReadsAs bytes block
reads_as management bytes block e = reads_by (nat_lt (length bytes) 8) (nat_lt (length bytes) (whole_length bytes)) (nat_lt (whole_length bytes) (length bytes)) (Length 8) (Length (whole_length bytes)) Form bytes (kind_of management bytes) block e

-- its kind, where that has a row
plain_kind : (kind : StatusKind) → IsFair kind → is_management kind ≡ false
plain_kind kinds.Good fair = refl
plain_kind (kinds.Check told) fair = refl
plain_kind kinds.Dummy fair = refl
plain_kind kinds.Aborted fair = refl
plain_kind (kinds.Illegal meaning) fair = refl
plain_kind kinds.Failed fair = refl
plain_kind (kinds.Management meaning) fair = absurd fair

pub same_block : (one other : StatusBlock) (r : Result StatusBlock OrbFault) → r ≡ Ok one → r ≡ Ok other → one ≡ other
same_block one other r e f = let g = sym e ∙ f in cc

row_as : (src orb : ℕ) (kind : StatusKind) (block : StatusBlock) → IsFair kind → src < 2 → orb < 2 ^ 48 → read_block false (status_bytes (record { src = src; kind = kind; orb = orb })) ≡ Ok block → IsKind kind → kind ≡ block.kind
row_as src orb kind block fair s o e k =
    let one : StatusBlock = record { src = src; kind = kind; orb = orb } in
    let mild = plain_kind kind fair in
    let read : read_block false (status_bytes one) ≡ Ok one = subst (λ b. read_block b (status_bytes one) ≡ Ok one) mild (status_back one (record { src = s; managed = λ m. absurd (false≢true (sym mild ∙ m)); kind = k; orb = o })) in
    ap (λ (b : StatusBlock). b.kind) (same_block one block (read_block false (status_bytes one)) read e)

-- a block that is read has a row
none_row : (x y z : Bool) (a b c : OrbFault) (spelled : List ℕ) (kind : Option StatusKind) (block : StatusBlock) → kind ≡ None → cond x (Err a) (cond y (Err b) (cond z (Err c) (in_row spelled kind))) ≡ Ok block → ⊥
none_row true y z a b c spelled kind block n e = not_read a block e
none_row false true z a b c spelled kind block n e = not_read b block e
none_row false false true a b c spelled kind block n e = not_read c block e
none_row false false false a b c spelled None block n e = not_read Form block e
none_row false false false a b c spelled (Some kind) block n e = absurd (let z : Some kind ≡ None = n in cc)

-- and so a refused request has one of the meanings of a row
record IsRefusal (bytes : List ℕ) (meaning : ℕ) : Type 0 where
  resp : resp_of bytes ≡ 2
  status : sbp_status_of bytes ≡ meaning

refusal : (src meaning orb : ℕ) → meaning < 256 → src < 2 → orb < 2 ^ 48 → IsRefusal (status_bytes (record { src = src; kind = kinds.Illegal meaning; orb = orb })) meaning
refusal src meaning orb small s o = record { resp = omega (arith, small, s, o); status = omega (arith, small, s, o) }

other_resp : (bytes : List ℕ) (resp dead len status : ℕ) → (resp_of bytes == resp) ≡ false → has bytes resp dead len status ≡ false
other_resp bytes resp dead len status e = ap (λ b. ((b && (dead_of bytes == dead)) && (len_of bytes == len)) && (sbp_status_of bytes == status)) e

last_none : (a b c d e f g h : Bool) (x1 x2 x3 x4 x5 x6 : StatusKind) → a ≡ false → b ≡ false → c ≡ false → d ≡ false → f ≡ false → g ≡ false → cond a (Some x1) (cond (b && h) (Some x2) (cond c (Some x3) (cond d (Some x4) (cond (e && f) (Some x5) (cond g (Some x6) None))))) ≡ None
last_none false false false false true false false h x1 x2 x3 x4 x5 x6 p q r s t u = refl
last_none false false false false false false false h x1 x2 x3 x4 x5 x6 p q r s t u = refl
last_none true b c d e f g h x1 x2 x3 x4 x5 x6 p q r s t u = absurd (false≢true (sym p))
last_none false true c d e f g h x1 x2 x3 x4 x5 x6 p q r s t u = absurd (false≢true (sym q))
last_none false false true d e f g h x1 x2 x3 x4 x5 x6 p q r s t u = absurd (false≢true (sym r))
last_none false false false true e f g h x1 x2 x3 x4 x5 x6 p q r s t u = absurd (false≢true (sym s))
last_none false false false false e true g h x1 x2 x3 x4 x5 x6 p q r s t u = absurd (false≢true (sym t))
last_none false false false false e false true h x1 x2 x3 x4 x5 x6 p q r s t u = absurd (false≢true (sym u))

module _ (bytes : List ℕ) (meaning : ℕ) (r : IsRefusal bytes meaning) (out : is_among illegal_meanings meaning ≡ false) where
  two : (n : ℕ) → (2 == n) ≡ false → (resp_of bytes == n) ≡ false
  two n e = ap (λ x. x == n) r.resp ∙ e

  no_command : command_kind bytes ≡ None
  unfolding command_kind
  no_command =
      last_none (has bytes 0 0 1 0x00) (has bytes 0 0 5 0x00) (has bytes 0 0 1 0x0b) (has bytes 0 0 1 0x0c) (has bytes 2 1 1 (sbp_status_of bytes)) (is_among illegal_meanings (sbp_status_of bytes)) (has bytes 1 1 1 0xff) (is_check_part bytes) _ _ _ _ _ _
      (other_resp bytes 0 0 1 0x00 (two 0 refl)) (other_resp bytes 0 0 5 0x00 (two 0 refl)) (other_resp bytes 0 0 1 0x0b (two 0 refl)) (other_resp bytes 0 0 1 0x0c (two 0 refl)) (ap (is_among illegal_meanings) r.status ∙ out) (other_resp bytes 1 1 1 0xff (two 1 refl))

  no_kind : kind_of false bytes ≡ None
  no_kind = by (nat_lt (src_of bytes) 2)
    where
      by : (b : Bool) → cond b (command_kind bytes) None ≡ None
      by true = no_command
      by false = refl

meaning_of : (src orb meaning : ℕ) (block : StatusBlock) → meaning < 256 → src < 2 → orb < 2 ^ 48 → read_block false (status_bytes (record { src = src; kind = kinds.Illegal meaning; orb = orb })) ≡ Ok block → is_among illegal_meanings meaning ≡ true
meaning_of src orb meaning block small s o e = by (is_among illegal_meanings meaning) refl
  where
    bytes : List ℕ
    bytes = status_bytes (record { src = src; kind = kinds.Illegal meaning; orb = orb })

    by : (b : Bool) → is_among illegal_meanings meaning ≡ b → b ≡ true
    by true f = refl
    by false f =
        absurd (none_row (nat_lt (length bytes) 8) (nat_lt (length bytes) (whole_length bytes)) (nat_lt (whole_length bytes) (length bytes)) (Length 8) (Length (whole_length bytes)) Form bytes (kind_of false bytes) block
        (no_kind bytes meaning (refusal src meaning orb small s o) f) e)

pub kind_as : (src orb : ℕ) (kind : StatusKind) (block : StatusBlock) → IsFair kind → src < 2 → orb < 2 ^ 48 → read_block false (status_bytes (record { src = src; kind = kind; orb = orb })) ≡ Ok block → IsTold kind → kind ≡ block.kind
kind_as src orb kinds.Good block fair s o e k = row_as src orb kinds.Good block fair s o e tt
kind_as src orb (kinds.Check told) block fair s o e k = row_as src orb (kinds.Check told) block fair s o e k
kind_as src orb kinds.Dummy block fair s o e k = row_as src orb kinds.Dummy block fair s o e tt
kind_as src orb kinds.Aborted block fair s o e k = row_as src orb kinds.Aborted block fair s o e tt
kind_as src orb (kinds.Illegal meaning) block fair s o e k = row_as src orb (kinds.Illegal meaning) block fair s o e (meaning_of src orb meaning block fair s o e)
kind_as src orb kinds.Failed block fair s o e k = row_as src orb kinds.Failed block fair s o e tt
kind_as src orb (kinds.Management meaning) block fair s o e k = absurd fair
