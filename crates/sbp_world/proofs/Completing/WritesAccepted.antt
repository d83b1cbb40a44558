-- No packet that an agent waits for is refused, where each status that it waits for goes to an open FIFO.
use Rattle.sbp_world.proofs.Words.Std.{arith, ◌≡◌, ◌∙◌, refl, sym, ap, ◌<◌, ◌-◌, ◌==◌, ◌&&◌, not, nat_lt, ℕ, Bool, true, false, cond, List, Some, None, nat_tests, false≢true}
use Rattle.sbp_world.proofs.Words.Wire.{Access, Moment}
use Rattle.sbp_world.proofs.Words.Laws.{host_at}
use Rattle.initiator_base.specs.Fifos.{fifo_at, is_login_fifo, is_open_login}
use Rattle.initiator_base.specs.Places.{login_fifo}
use Rattle.initiator_base.specs.declared.fifos.Fifo.TheVariants as fifos
use Rattle.sbp_initiator.specs.Histories.Judging.{is_closed, is_read}
use Rattle.sbp_laws.specs.JudgementLaw.{is_out}
use Rattle.sbp_world.specs.Completing.Writes.{IsAccepted}
use Rattle.sbp_world.proofs.Completing.WritesRefused.{IsBarred, at_closed, of_none}

-- ---- a status that is accepted is not barred
open_row : (placed opened closed : Bool) → opened ≡ true → is_closed (cond placed (Some fifos.Place) (cond opened (Some fifos.Login) (cond closed (Some fifos.Closed) None))) ≡ true → ⊥
open_row true opened closed e f = false≢true f
open_row false true closed e f = false≢true f
open_row false false closed e f = false≢true e

is_open_at : (logins offset : ℕ) (out : Bool) → 0 < logins → offset ≡ login_fifo (logins - 1) → out ≡ false → is_closed (fifo_at logins out offset) ≡ true → ⊥
unfolding fifo_at
is_open_at logins offset out some goes inside e =
    let opened : is_open_login logins out offset ≡ true = opens (nat_lt 0 logins) (offset == login_fifo (logins - 1)) out (let y : nat_lt 0 logins ≡ true = grind (arith, nat_tests, some) in y) (let y : (offset == login_fifo (logins - 1)) ≡ true = grind (arith, nat_tests, goes) in y) inside in
    open_row _ (is_open_login logins out offset) (is_login_fifo offset) opened e
  where
    opens : (a b c : Bool) → a ≡ true → b ≡ true → c ≡ false → (a && b && not c) ≡ true
    opens true true false f g h = refl
    opens false b c f g h = absurd (false≢true f)
    opens true false c f g h = absurd (false≢true g)
    opens true true true f g h = absurd (false≢true (sym h))

pub not_barred : (past : List Moment) (i : ℕ) (access : Access) → IsAccepted past i access → IsBarred past i access → ⊥
not_barred past i access a (at_closed e) = is_open_at (host_at past i).logins access.offset (is_out (host_at past i).session) a.some a.goes a.inside e
not_barred past i access a (of_none e) = false≢true (sym e ∙ ap is_read a.reads)
