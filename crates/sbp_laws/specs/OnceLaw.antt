-- The once law (IEEE 1394-1995, transaction layer). A write request of a node is delivered any number of times. Of its deliveries at which
-- the receiver has the packet's generation at most one is not told as a repeat. If its transaction was closed with rcode 0, exactly one is
-- not, and that one was got, or ignored with the cause slot. The law is of requests of nodes that did not inject packets, and its second
-- part of those between two such nodes.
use Rattle.std.specs.Prelude.{◌≡◌, ℕ, zero, suc, ◌&&◌, not, Bool, true, false, List, Option, Some, None}
use Rattle.sbp_journal.specs.Run.{Moment, said}
use Rattle.sbp_journal.specs.Addresses.{Access}
use Rattle.sbp_journal.specs.Transactions.{Sending}
use Rattle.sbp_journal.specs.Wire.{Terms, terms}
use Rattle.sbp_journal.specs.declared.cause.Cause.{Cause}
use Rattle.sbp_journal.specs.declared.cause.Cause.TheVariants as causes
use Rattle.sbp_journal.specs.declared.note.Note.TheVariants as notes
use Rattle.orb_layout.specs.Replies.{Answer, Done}
use Rattle.sbp_laws.specs.Turns.{EachMoment}
use Rattle.sbp_laws.specs.Packets.{access_at, answered_at, answer_in, packet_at}

-- a node is an initiator of a set; the target is none
abbrev pub is_wild : (ℕ → Bool) → ℕ → Bool
is_wild wild zero = false
is_wild wild (suc i) = wild i

abbrev pub is_write_in : Option Access → Bool
is_write_in None = false
is_write_in (Some access) = access.is_write

-- a packet that a node sent to another, where neither, or not the sender, is of the set
abbrev pub is_fair : (ℕ → Bool) → Option Sending → Bool
is_fair wild None = false
is_fair wild (Some packet) = not packet.injected && not (is_wild wild packet.from)

abbrev pub is_between : (ℕ → Bool) → Option Sending → Bool
is_between wild None = false
is_between wild (Some packet) = not packet.injected && not (is_wild wild packet.from) && not (is_wild wild packet.to)

abbrev pub is_fair_write : (ℕ → Bool) → Terms → ℕ → Bool
is_fair_write wild wire serial = is_fair wild (wire.sent serial) && is_write_in (access_at wire serial)

-- a delivery that is not told as a repeat is the first such one
abbrev pub IsNew : (ℕ → Bool) → Terms → ℕ → Type 0
IsNew wild wire serial = is_fair_write wild wire serial ≡ true → wire.news serial ≡ 0

-- a write that is closed with rcode 0 was delivered so once, and served
abbrev pub is_done : Answer → Bool
is_done Done = true
is_done _ = false

pub record WasServed (wire : Terms) (serial : ℕ) : Type 0 where
  pub once : wire.news serial ≡ 1
  pub served : wire.served serial ≡ 1

abbrev pub ClosesOne : (ℕ → Bool) → Terms → Option ℕ → Answer → Type 0
ClosesOne wild wire None answer = Unit {0}
ClosesOne wild wire (Some own) answer = is_between wild (wire.sent own) && is_write_in (access_at wire own) && is_done answer ≡ true → WasServed wire own

abbrev pub Judges : (ℕ → Bool) → Terms → Cause → ℕ → Type 0
Judges wild wire causes.Generation serial = Unit {0}
Judges wild wire causes.Again serial = Unit {0}
Judges wild wire cause serial = IsNew wild wire serial

abbrev pub OnceAt : (ℕ → Bool) → Moment → List Moment → Type 0
OnceAt wild (said (notes.Got serial)) past =
    IsNew wild (terms past) serial × ClosesOne wild (terms past) (answered_at (terms past) serial) (answer_in (packet_at (terms past) serial))
OnceAt wild (said (notes.Ignored serial cause)) past = Judges wild (terms past) cause serial
OnceAt wild moment past = Unit {0}

abbrev pub OnceLaw : (ℕ → Bool) → List Moment → Type 0
OnceLaw wild past = EachMoment (OnceAt wild) past
