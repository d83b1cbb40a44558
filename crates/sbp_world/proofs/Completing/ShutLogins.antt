-- The FIFO of the login number that an initiator used last is open while its session is not out; so what the management operation waits for is answered whole, where its status block goes to such a one.
use Rattle.sbp_world.proofs.Words.Std.{arith, ◌≡◌, ◌∙◌, refl, sym, ap, ◌<◌, ◌-◌, ◌||◌, ◌==◌, ℕ, Bool, true, false, cond, Option, Some, None, nat_tests}
use Rattle.initiator_base.specs.Fifos.{fifo_at, is_login_fifo, is_open_login}
use Rattle.initiator_base.specs.Places.{login_fifo, place_fifo}
use Rattle.initiator_base.specs.declared.fifos.Fifo.{Fifo}
use Rattle.initiator_base.specs.declared.fifos.Fifo.TheVariants as fifos
use Rattle.sbp_laws.specs.Hosts.{Host, host_at}
use Rattle.sbp_laws.specs.JudgementLaw.{is_out}
use Rattle.sbp_session.specs.Seats.{is_out_seat}
use Rattle.sbp_session.specs.declared.seat.Seat.{Seat}
use Rattle.sbp_session.specs.declared.seat.Seat.TheVariants as seats
use Rattle.sbp_world.specs.Completing.ManagedRefusals.{IsShut}
use Rattle.sbp_world.specs.Completing.Shut.{GivenWhereLatestLaw, IsLatest}
use Rattle.sbp_world.specs.Hosts.Core.{session_in}
use Rattle.sbp_world.proofs.Completing.ShutRuns.{given_where_logins_open_law}

-- a session is out as its seat is
seat_out : (seat : Seat) → is_out_seat seat ≡ is_out (session_in seat)
seat_out (seats.Out out) = refl
seat_out (seats.Entering entering) = refl
seat_out (seats.Live live) = refl
seat_out (seats.Held response) = refl
seat_out (seats.Returning response) = refl
seat_out (seats.Leaving response) = refl
seat_out (seats.Stuck origin) = refl

found : (a b : Bool) (rest : Option Fifo) → a ≡ false → b ≡ true → cond a (Some fifos.Place) (cond b (Some fifos.Login) rest) ≡ Some fifos.Login
found false true rest e f = refl
found true b rest e f = absurd (let no : true ≡ false = e in cc)
found false false rest e f = absurd (let no : false ≡ true = f in cc)

latest_open : (logins : ℕ) → 0 < logins → fifo_at logins false (login_fifo (logins - 1)) ≡ Some fifos.Login
unfolding fifo_at
latest_open logins some =
    let offset = login_fifo (logins - 1) in
    let place : (offset == place_fifo 0) || (offset == place_fifo 1) ≡ false = grind (arith, nat_tests) in
    let login : is_open_login logins false offset ≡ true = grind (arith, nat_tests) in
    found ((offset == place_fifo 0) || (offset == place_fifo 1)) (is_open_login logins false offset) (cond (is_login_fifo offset) (Some fifos.Closed) None) place login

pub latest_unshut : (host : Host) (offset : ℕ) → IsLatest host offset → IsShut host offset → ⊥
latest_unshut host offset latest shut =
    let out : is_out_seat shut.seat ≡ false = seat_out shut.seat ∙ (ap is_out shut.session ∙ latest.inside) in
    let open_there : fifo_at host.logins (is_out_seat shut.seat) offset ≡ Some fifos.Login = ap (λ b. fifo_at host.logins b offset) out ∙ (ap (fifo_at host.logins false) latest.is ∙ latest_open host.logins latest.some) in
    let both : Some fifos.Login ≡ Some fifos.Closed = sym open_there ∙ shut.closed in cc

-- ---- at each place of a run
pub given_where_latest_law : GivenWhereLatestLaw
given_where_latest_law = record {
  after_lines = λ line run r has small size tame latest.
      given_where_logins_open_law.after_lines line run r has small size tame
      (λ op i ask access operation phase inside source manages asks own later earlier cause e hard shut. latest_unshut (host_at earlier i) access.offset (latest op i ask access operation phase inside source manages asks own later earlier cause e hard) shut);
  between = λ line run r has small size next most told m tame latest.
      given_where_logins_open_law.between line run r has small size next most told m tame
      (λ op i ask access operation phase inside source manages asks own later earlier cause e hard shut. latest_unshut (host_at earlier i) access.offset (latest op i ask access operation phase inside source manages asks own later earlier cause e hard) shut);
}
