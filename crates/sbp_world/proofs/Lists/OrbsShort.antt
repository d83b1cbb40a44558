-- The unit or the login that the management ORB of an operation names has 16 bits.
use Rattle.sbp_world.proofs.Words.Std.{arith, ◌≡◌, subst, ℕ, ◌+◌, ◌%◌, ◌^◌, ◌<◌, nat_eq, Bool, true, false, cond, List, [], ◌∷◌, Some, None, quad}
use Rattle.sbp_world.proofs.Words.Wire.{Moment, asked, said, Action, Event}
use Rattle.sbp_world.proofs.Words.Initiator.{LoginResponse}
use Rattle.sbp_world.proofs.Words.Laws.{before_sent, Host, host_at, response_of, management_orb_of, EachMoment, event_of}
use Rattle.sbp_world.proofs.Words.World.{AreShort, HasShortOrb, IsShortAction, IsShortEvent, AreUnderway}
use Rattle.sbp_journal.specs.declared.event.Action.TheVariants as actions
use Rattle.sbp_journal.specs.declared.event.Event.TheVariants as events
use Rattle.sbp_journal.specs.declared.note.Note.TheVariants as notes
use Rattle.sbp_journal.specs.declared.operation.Operation.TheVariants as operations
use Rattle.sbp_journal.specs.declared.operation.OpWord.TheVariants as words
use Rattle.sbp_world.proofs.Lists.HostLogins.{GrantsAt, login_good}

-- ---- the login of a host has 16 bits
abbrev pub Few : LoginResponse → Type 0
Few response = response.login < 2 ^ 16

abbrev pub Small : Host → Type 0
Small host = Few host.login

read_small : (bytes : List ℕ) → quad bytes 0 % 2 ^ 16 < 2 ^ 16
read_small bytes = omega arith

moment_small : (m : Moment) (past : List Moment) (i : ℕ) → GrantsAt Few i m past
moment_small (asked line event) past i = tt
moment_small (said (notes.Op j operations.Login words.Done)) past i = λ e. read_small (response_of (host_at past i))
moment_small (said note) past i = tt

all_small : (past : List Moment) (i : ℕ) → EachMoment (GrantsAt Few i) past
all_small [] i = tt
all_small (m ∷ past) i = (moment_small m past i, all_small past i)

pub login_small : (past : List Moment) (i : ℕ) → i + 1 < 2 ^ 16 → Small (host_at past i)
login_small past i l = login_good Few past i l (omega arith) (all_small past i)

-- ---- the lines
short_if : (b : Bool) (x y : List Moment) → AreShort x → AreShort y → AreShort (cond b x y)
short_if true x y h k = h
short_if false x y h k = k

short_before : (past : List Moment) (serial : ℕ) → AreShort past → AreShort (before_sent past serial)
short_before [] serial s = tt
short_before (asked line event ∷ past) serial s = short_before past serial s.1
short_before (said (notes.Sent other generation from to bytes) ∷ past) serial s = short_if (nat_eq other serial) past (before_sent past serial) s (short_before past serial s)
short_before (said note ∷ past) serial s = short_before past serial s

pub event_short : (past : List Moment) (event : Event) → AreShort past → event_of past ≡ Some event → IsShortEvent event
event_short [] event s e = absurd (let no : None ≡ Some event = e in cc)
event_short (asked line own ∷ past) event s e = subst IsShortEvent (let same : own ≡ event = (let both : Some own ≡ Some event = e in cc) in same) s.0
event_short (said note ∷ past) event s e = event_short past event s e

-- ---- the ORB
pub orb_short : (action : Action) (past : List Moment) (i : ℕ) (host : Host) (place : ℕ) → IsShortAction action → Small host → (management_orb_of action past i host place).subject < 2 ^ 16
orb_short (actions.Login unit reconnect exclusive password) past i host place s h = s
orb_short (actions.Query unit) past i host place s h = s
orb_short actions.Reconnect past i host place s h = h
orb_short actions.Logout past i host place s h = h
orb_short (actions.Abort k) past i host place s h = h
orb_short actions.AbortSet past i host place s h = h
orb_short actions.UnitReset past i host place s h = h
orb_short actions.TargetReset past i host place s h = h
orb_short _ past i host place s h = omega arith

-- of every history whose lines are so
pub short_orb : (past : List Moment) (i : ℕ) → i + 1 < 2 ^ 16 → AreShort past → AreUnderway past i → HasShortOrb past i
short_orb past i l s are underway has =
    let u = are underway has in
    let before = before_sent past underway.first in
    orb_short underway.action before i (host_at before i) underway.place (event_short before (events.Act i underway.action) (short_before past underway.first s) u.line) (login_small before i l)
