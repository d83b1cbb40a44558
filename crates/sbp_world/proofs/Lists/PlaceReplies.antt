-- A block read of a place of management that an initiator gets in a delivery is answered from its memory: with the ORB that stands there.
use Rattle.sbp_world.proofs.Words.Std.{Bool, arith, ◌≡◌, refl, sym, ◌∙◌, ap, ℕ, suc, ◌+◌, ◌-◌, ◌<◌, ◌≤◌, ◌^◌, List, [], ◌∷◌, ◌++◌, drop, map, length, replicate, take, Option, Some, None, Ok, length-replicate, take_all}
use Rattle.sbp_world.proofs.Words.Wire.{reading, Access, access_of, empty_outbox, Moment, said, of_request, Note, terms}
use Rattle.sbp_world.proofs.Words.Target.{Told}
use Rattle.sbp_world.proofs.Words.Initiator.{Window, judged, read_step, new_memory, start, window_at, Payload, ManagementOrb, InitiatorState, receive_step}
use Rattle.sbp_world.proofs.Words.Laws.{IsRead, answer_in, id_of, spelled_by, place_bytes, place_held, window_gives}
use Rattle.sbp_world.proofs.Words.World.{delivered, Scene, initiator_at, history, IsReadOf, ArePlaces}
use Rattle.bus_memory.specs.declared.window.Window.TheVariants as windows
use Rattle.bus_memory.specs.declared.access.Access.TheVariants.{Read}
use Rattle.bus_memory.proofs.Found.{window_here}
use Rattle.sbp_journal.specs.declared.note.Note.TheVariants as notes
use Rattle.sbp_laws.specs.CarriedBytes.{bytes_in}
use Rattle.sbp_laws.specs.Served.{Reply}
use Rattle.sbp_world.proofs.Wire.Holding.{Sound}
use Rattle.sbp_world.proofs.Hosts.Answering.{answer, asks_block}
use Rattle.sbp_world.proofs.Hosts.AnsweringBlocks.{block_answered}
use Rattle.sbp_world.proofs.Hosts.AnsweringSends as sends
use Rattle.sbp_world.proofs.Hosts.AnsweringSends.{Gets}
use Rattle.sbp_world.proofs.Hosts.ResponseBytes.{IsBlockRead, asked_most, completes, tells_given}
use Rattle.sbp_world.proofs.Hosts.Replies.{read_short, same_access}

-- the bytes of a place are those of one ORB
pub place_length : (held : Option ManagementOrb) → length (place_bytes held) ≡ 32
place_length None = refl
place_length (Some orb) = refl

-- What stands behind the note that a read was got: what the initiator tells, and the response, which brings the ORB of the place that is read.
pub record IsPlaceReplied (past : List Moment) (i serial : ℕ) (access : Access) (now : List Moment) : Type 0 where
  pub effects : List Note
  pub to : ℕ
  pub bytes : List ℕ
  pub is : now ≡ said (notes.Sent ((terms past).count + 1) ((terms past).generation (suc i)) (suc i) to bytes) ∷ (map said effects ++ said (notes.Got serial) ∷ past)
  pub brings : (payload : List ℕ) → answer_in (spelled_by (reading bytes)) ≡ Payload payload → (place : ℕ) → place < 2 → IsRead access (start (windows.Management place)) 32 → payload ≡ place_bytes (place_held past i place)

-- an rcode has four bits
abbrev pub FewCodes : InitiatorState → Type 0
FewCodes s = (access : Access) (out : List ℕ) → IsReadOf access out → (read_step s.lists.memory access.offset out).0 < 2 ^ 4

module _ {past : List Moment} {lines : ℕ} (s : Scene) (sound : Sound past lines s.world) (i : ℕ) (inside : i < length s.world.initiators) (codes : FewCodes (initiator_at s.world i)) (places : ArePlaces (history s.world past) i (initiator_at s.world i)) (serial : ℕ) (again : Bool) (told : Option Told) (g : Gets s.world i serial) (block : IsBlockRead g.packet g.access.offset g.access.count) where
  abbrev H : List Moment
  H = history s.world past

  abbrev old : InitiatorState
  old = initiator_at s.world i

  abbrev out : List ℕ
  out = replicate g.access.count 0

  -- what its memory gives
  abbrev reply : Reply
  reply = record { rcode = (read_step old.lists.memory g.access.offset out).0; given = (read_step old.lists.memory g.access.offset out).1 }

  packets_are : (receive_step g.sent.generation g.sent.bytes empty_outbox old).1.0.packets ≡ answer old.layer.node g.packet reply.rcode reply.given ∷ []
  packets_are =
      block_answered old block.header g.access.offset g.access.count g.sent.bytes g.sent.generation (g.request ∙ ap (λ p. of_request p) block.is) g.got
      ∙ ap (λ p. answer old.layer.node p reply.rcode reply.given ∷ []) (sym block.is)

  -- the access is that of a block read
  access_is : asks_block g.access.offset g.access.count ≡ g.access
  access_is = same_access (asks_block g.access.offset g.access.count) g.access (sym (ap access_of block.is) ∙ g.asks_for)

  is_read : IsReadOf g.access out
  is_read = record {
    lock = ap (λ (a : Access). a.is_lock) (sym access_is);
    write = ap (λ (a : Access). a.is_write) (sym access_is);
    size = length-replicate g.access.count 0;
  }

  few : reply.rcode < 2 ^ 4
  few = codes g.access out is_read

  abbrev own : ℕ
  own = id_of (terms H) (suc i)

  read : reading g.sent.bytes ≡ Ok g.packet
  read = (sends.request s sound i inside serial again told g reply packets_are).read

  short : length reply.given ≤ 2048
  short =
      let most = asked_most g.sent.bytes g.packet read g.access.offset g.access.count block in
      let room = read_short old.lists.memory out (judged old.lists.memory Read g.access.offset (length out)) in
      let size = is_read.size in
      omega arith

  abbrev leaving : List ℕ
  leaving = sends.leaving s sound i inside serial again told g reply packets_are

  tells_all : reply.rcode ≡ 0 → answer_in (spelled_by (reading leaving)) ≡ Payload reply.given
  tells_all zero =
      tells_given g.sent.bytes g.packet read (sends.are_bytes s sound i inside serial again told g reply packets_are) own (sends.small s sound i inside serial again told g reply packets_are) g.access.offset g.access.count block reply.given short reply.rcode zero

  -- a read of a place gives its ORB
  module _ (place : ℕ) (small : place < 2) (is : IsRead g.access (start (windows.Management place)) 32) where
    window_is : window_at g.access.offset ≡ Some (windows.Management place)
    window_is = let from = is.from in window_here (new_memory []) g.access.offset (windows.Management place) small (omega arith) (omega arith)

    given_is : reply.rcode ≡ 0 → reply.given ≡ place_bytes (place_held H i place)
    given_is zero =
        let held = place_bytes (place_held H i place) in
        let from = is.from in
        let size = is.size in
        let near : g.access.offset - start (windows.Management place) ≡ 0 = omega arith in
        let long = place_length (place_held H i place) in
        places.gives g.access out place is_read window_is zero
        ∙ (ap (λ (w : Option Window). window_gives H i g.access w) window_is
        ∙ (ap (λ n. take n (drop (g.access.offset - start (windows.Management place)) held)) size
        ∙ (ap (λ n. take 32 (drop n held)) near ∙ take_all 32 held (omega (arith, long)))))

  brings_place : (payload : List ℕ) → answer_in (spelled_by (reading leaving)) ≡ Payload payload → (place : ℕ) → place < 2 → IsRead g.access (start (windows.Management place)) 32 → payload ≡ place_bytes (place_held H i place)
  brings_place payload e place b is =
      let zero : reply.rcode ≡ 0 = completes g.sent.bytes g.packet read (sends.are_bytes s sound i inside serial again told g reply packets_are) own (sends.small s sound i inside serial again told g reply packets_are) g.access.offset g.access.count block reply.rcode reply.given payload few e in
      ap bytes_in (sym e ∙ tells_all zero) ∙ given_is place b is zero

  pub is_place_replied : IsPlaceReplied H i serial g.access (history (delivered serial again told s).world past)
  is_place_replied = record {
    effects = sends.effects s sound i inside serial again told g reply packets_are;
    to = g.sent.from;
    bytes = leaving;
    is = sends.shows s sound i inside serial again told g reply packets_are;
    brings = brings_place;
  }
