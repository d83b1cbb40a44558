-- How a login of an initiator is done, and how a logout is refused, by the history (NCITS 325-1998, login, logout, status block): the initiator gets a status block of
-- the target for a management ORB, written to an open FIFO, while the operation is under way, with status 00 or with another; and it tells so at once.
use Rattle.std.specs.Prelude.{◌≡◌, ◌<◌, ◌==◌, ℕ, suc, Bool, true, List, ◌∷◌, Some, Ok}
use Rattle.async_packet.specs.declared.packet.Header.{Header}
use Rattle.async_packet.specs.Packet.{write_block}
use Rattle.async_packet.specs.Reading.{reading}
use Rattle.bus_memory.specs.declared.window.Window.TheVariants as windows
use Rattle.bus_memory.specs.Windows.{start as start_of}
use Rattle.initiator_base.specs.Fifos.{fifo_at}
use Rattle.orb_layout.specs.declared.status.StatusBlock.{StatusBlock}
use Rattle.orb_layout.specs.declared.status.StatusKind.TheVariants as kinds
use Rattle.orb_layout.specs.LoginResponses.{login_response}
use Rattle.sbp_initiator.specs.States.{status_in}
use Rattle.sbp_journal.specs.Run.{Moment, said}
use Rattle.sbp_journal.specs.Transactions.{Sending}
use Rattle.sbp_journal.specs.Wire.{terms}
use Rattle.sbp_journal.specs.declared.note.Note.TheVariants as notes
use Rattle.sbp_journal.specs.declared.operation.Operation.{Operation}
use Rattle.sbp_journal.specs.declared.operation.Operation.TheVariants as operations
use Rattle.sbp_journal.specs.declared.operation.OpWord.TheVariants as words
use Rattle.sbp_laws.specs.Hosts.{Underway, host_at, response_of}
use Rattle.sbp_world.specs.Sessions.Entering.{is_open}
use Rattle.sbp_world.specs.Lists.Placings.{HasBase}

-- the packet is such a status block, while that operation is under way
pub record IsAnswerTo (past : List Moment) (i serial : ℕ) (operation : Operation) (status : ℕ) : Type 0 where
  pub packet : Sending
  pub sent : (terms past).sent serial ≡ Some packet
  pub to_is : packet.to ≡ suc i
  pub from_is : packet.from ≡ 0
  pub header : Header
  pub offset : ℕ
  pub payload : List ℕ
  pub read : reading packet.bytes ≡ Ok (write_block header offset payload)
  pub logins : ℕ
  pub is_out : Bool
  pub opens : is_open (fifo_at logins is_out offset) ≡ true
  pub block : StatusBlock
  pub spelled : status_in payload ≡ Ok block
  pub kind : block.kind ≡ kinds.Management status
  pub place : ℕ
  pub small : place < 2
  pub orb : block.orb ≡ start_of (windows.Management place)
  pub underway : Underway
  pub is : (host_at past i).operation ≡ Some underway
  pub same : underway.operation ≡ operation

-- one was got last
abbrev pub IsGot : ℕ → Operation → ℕ → List Moment → Type 0
IsGot i operation status (said (notes.Got serial) ∷ past) = IsAnswerTo past i serial operation status
IsGot i operation status past = ⊥

-- so it was wherever a login of the initiator is done, or a logout refused
abbrev pub GrantedAt : ℕ → Moment → List Moment → Type 0
GrantedAt i (said (notes.Op j operations.Login words.Done)) past = (j == i) ≡ true → IsGot i operations.Login 0 past
GrantedAt i (said (notes.Op j operations.Logout (words.Refused status))) past = (j == i) ≡ true → IsGot i operations.Logout status past × (status ≡ 0 → ⊥)
GrantedAt i moment past = Unit {0}

-- where a status of 00 is got for a login, its buffer holds a response with the agent of a place of the target
abbrev pub GoodAt : ℕ → Moment → List Moment → Type 0
GoodAt i (said (notes.Got serial)) past = IsAnswerTo past i serial operations.Login 0 → HasBase (login_response (response_of (host_at past i)))
GoodAt i moment past = Unit {0}

-- and where one is got for a logout, it has status 00
abbrev pub NoBadAt : ℕ → Moment → List Moment → Type 0
NoBadAt i (said (notes.Got serial)) past = (status : ℕ) → IsAnswerTo past i serial operations.Logout status → status ≡ 0
NoBadAt i moment past = Unit {0}
