-- One place or one unit after the other.
use Rattle.std.specs.Prelude.{◌≡◌, ℕ, zero, suc, ◌+◌, List, slice_index_or, Option, refl}
use Rattle.std.proofs.Common.{arith}
use Rattle.sbp_journal.specs.declared.cause.CutCause.{CutCause}
use Rattle.sbp_journal.specs.declared.side.Side.TheVariants as sides
use Rattle.sbp_journal.specs.Outgoings.{OutboxState}
use Rattle.login_table.specs.declared.login.Login.{Login}
use Rattle.login_table.specs.Table.{place_at}
use Rattle.sbp_target.specs.Sending.{with_side}
use Rattle.sbp_target.specs.Receiving.{expired_from, held_from, tell_held}
use Rattle.sbp_target.specs.Nodes.{Scene}
use Rattle.sbp_target.specs.Units.{announce_from, announce_at, cut_from, cut_at, clear_from, clear_unit}

pub announcing : (left less place unit from : ℕ) (s : Scene) → left ≡ suc less → announce_from left place unit from s ≡ announce_from less (place + 1) unit from (announce_at unit from place s)
unfolding announce_from
announcing zero less place unit from s e = absurd (omega arith)
announcing (suc n) less place unit from s e = let same : n ≡ less = omega arith in rw same

pub announced : (left place unit from : ℕ) (s : Scene) → left ≡ zero → announce_from left place unit from s ≡ s
unfolding announce_from
announced zero place unit from s e = refl
announced (suc n) place unit from s e = absurd (omega arith)

pub cutting : (left less place : ℕ) (cause : CutCause) (unit : Option ℕ) (s : Scene) → left ≡ suc less → cut_from left place cause unit s ≡ cut_from less (place + 1) cause unit (cut_at cause unit place s)
unfolding cut_from
cutting zero less place cause unit s e = absurd (omega arith)
cutting (suc n) less place cause unit s e = let same : n ≡ less = omega arith in rw same

pub cut_off : (left place : ℕ) (cause : CutCause) (unit : Option ℕ) (s : Scene) → left ≡ zero → cut_from left place cause unit s ≡ s
unfolding cut_from
cut_off zero place cause unit s e = refl
cut_off (suc n) place cause unit s e = absurd (omega arith)

pub clearing : (left less unit : ℕ) (s : Scene) → left ≡ suc less → clear_from left unit s ≡ clear_from less (unit + 1) (clear_unit unit s)
unfolding clear_from
clearing zero less unit s e = absurd (omega arith)
clearing (suc n) less unit s e = let same : n ≡ less = omega arith in rw same

pub cleared_all : (left unit : ℕ) (s : Scene) → left ≡ zero → clear_from left unit s ≡ s
unfolding clear_from
cleared_all zero unit s e = refl
cleared_all (suc n) unit s e = absurd (omega arith)

pub holding : (left less place : ℕ) (places : List (Option Login)) (outbox : OutboxState) → left ≡ suc less → held_from left place places outbox ≡ held_from less (place + 1) places (tell_held (place_at places place) outbox)
unfolding held_from
holding zero less place places outbox e = absurd (omega arith)
holding (suc n) less place places outbox e = let same : n ≡ less = omega arith in rw same

pub held : (left place : ℕ) (places : List (Option Login)) (outbox : OutboxState) → left ≡ zero → held_from left place places outbox ≡ outbox
unfolding held_from
held zero place places outbox e = refl
held (suc n) place places outbox e = absurd (omega arith)

pub expiring : (left less at : ℕ) (logins : List ℕ) (outbox : OutboxState) → left ≡ suc less → expired_from left at logins outbox ≡ expired_from less (at + 1) logins (with_side outbox (sides.Expired (slice_index_or logins at 0)))
unfolding expired_from
expiring zero less at logins outbox e = absurd (omega arith)
expiring (suc n) less at logins outbox e = let same : n ≡ less = omega arith in rw same

pub expired : (left at : ℕ) (logins : List ℕ) (outbox : OutboxState) → left ≡ zero → expired_from left at logins outbox ≡ outbox
unfolding expired_from
expired zero at logins outbox e = refl
expired (suc n) at logins outbox e = absurd (omega arith)
