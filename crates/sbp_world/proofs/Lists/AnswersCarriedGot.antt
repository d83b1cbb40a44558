-- A write of data of an ORB that its initiator gets while the slot has this ORB: of the buffer of its command, behind the bytes of the answer that were written before; and where it has bytes, it is complete, and these are the bytes that
-- it brings.
use Rattle.sbp_world.proofs.Words.Std.{arith, ◌≡◌, ◌∙◌, refl, sym, ap, subst, ◌<◌, ◌≤◌, ◌+◌, ◌-◌, ◌^◌, ◌==◌, ◌&&◌, min, ℕ, suc, Bool, true, false, cond, List, [], ◌∷◌, ◌++◌, length, take, drop, Option, Some, None, filter, nat_tests, same_Some}
use Rattle.sbp_world.proofs.Words.Wire.{reading, Access, Moment, said, Sending, terms, Cmd}
use Rattle.sbp_world.proofs.Words.Target.{Disk, Machine, cut_to}
use Rattle.sbp_world.proofs.Words.Initiator.{window_at, Chunk, Segment, addresses, chunk, chunk_from}
use Rattle.sbp_world.proofs.Words.Laws.{Moved, begins_one, laid_out, written_by, written_in, command_at, orb, slot_at, access_at, access_in, packet_at, packet_in, receiver_in, sender_in, spelled_by, is_complete_at, is_serial, appends}
use Rattle.sbp_world.proofs.Words.World.{is_got_by, Follows, touches, touching, write_in, IsDataOf, IsPieceOf, HasSlot}
use Rattle.page_table.proofs.Places.{chunk_in_place}
use Rattle.sbp_journal.specs.declared.note.Note.TheVariants as notes
use Rattle.sbp_world.proofs.Lists.AnswersCarriedBefore.{stands_at}
use Rattle.sbp_world.proofs.Lists.AnswersCarriedChunks.{IsFront, front_begins}
use Rattle.sbp_world.proofs.Lists.AnswersCarriedWrites.{IsBlockWrite, block_write, complete, limit, pieces, places, positive, touched, writes_here, is_buffer, is_buffer_there}
use Rattle.sbp_world.proofs.Lists.Brought.{cut_follows}
use Rattle.sbp_world.proofs.Lists.DataClosed.{IsSound, are_served, sound_from}
use Rattle.sbp_world.proofs.Lists.DataGots.{current, fresh}
use Rattle.sbp_world.proofs.Lists.DataServed.{mid, moved, turn, whole}
use Rattle.sbp_world.proofs.Lists.DataSlots.{command_lasts, prepared_below, slot_lasts}
use Rattle.sbp_world.proofs.Lists.Passing.{PassLaw}
use Rattle.sbp_world.proofs.Lists.Slots.{IsFilled}
use Rattle.sbp_world.proofs.Lists.StatusKnown.{IsKnown, each_from, spelled}
use Rattle.sbp_world.proofs.Agents.Sized.{taken_size}

-- ---- the chunk of a piece that has bytes
pub record IsCut (segments : List Segment) (done limit offset size : ℕ) : Type 0 where
  pub taken : Chunk
  pub is : chunk_from segments done limit ≡ Some taken
  pub at : offset ≡ taken.offset

cut_by : (segments : List Segment) (done limit left offset size : ℕ) (found : Option Chunk) → chunk_from segments done limit ≡ found → chunk offset size ≡ cut_to left found → 0 < size → IsCut segments done limit offset size
cut_by segments done limit left offset size None e f some = let none : size ≡ 0 = ap (λ (c : Chunk). c.length) f in absurd (omega (arith, none, some))
cut_by segments done limit left offset size (Some c) e f some = record { taken = c; is = e; at = ap (λ (x : Chunk). x.offset) f }

cut_small : (left : ℕ) (found : Option Chunk) → (cut_to left found).length ≤ left
cut_small left None = omega arith
cut_small left (Some c) = let z : min left c.length ≤ left = grind (arith, nat_tests) in z

-- ---- of an ORB that its slot has
module _ (start : List Disk) (wild : ℕ → Bool) (i : ℕ) (own : wild i ≡ false) (past : List Moment) (serial : ℕ) (known : IsKnown wild (said (notes.Got serial) ∷ past) i) (sound : IsSound start wild i own (said (notes.Got serial) ∷ past)) (n k place : ℕ) (packet : Sending) (d : IsDataOf start past i n k serial packet place) where
  here : IsSound start wild i own past
  here = sound_from start wild i own (said (notes.Got serial) ∷ []) past sound

  pub now_current : packet.generation ≡ (terms past).generation (suc i)
  now_current = current start wild i own past serial known sound packet d.sent.is d.sent.to_host place d.writes

  pub now_fresh : (terms past).news serial ≡ 0
  now_fresh = fresh start wild i own past serial known sound packet d.sent.is d.sent.to_host place d.writes

  pub has : HasSlot past i place (orb n k)
  has = (are_served start wild i own past here).held n k serial place packet d now_current now_fresh

  pub place_is : slot_at past i n k ≡ place
  place_is = stands_at i n k wild past here.passes place has.there

  abbrev pub T : List Moment
  T = turn i past n k serial place packet d

  abbrev pub M : Machine
  M = d.was.machine

  -- its access
  pub access_is : access_at (terms past) serial ≡ Some d.writes.access
  access_is = ap (λ so. access_in (packet_in so)) d.sent.is ∙ d.writes.is

  abbrev pub to_it : Bool
  to_it = is_serial (receiver_in ((terms past).sent serial)) (suc i)

  pub to_it_is : to_it ≡ true
  to_it_is = ap (λ so. is_serial (receiver_in so) (suc i)) d.sent.is ∙ (let to = d.sent.to_host in let z : (packet.to == suc i) ≡ true = grind (arith, nat_tests, to) in z)

  pub from_target_is : is_serial (sender_in ((terms past).sent serial)) 0 ≡ true
  from_target_is = ap (λ so. is_serial (sender_in so) 0) d.sent.is ∙ (let from = d.sent.from_target in let z : (packet.from == 0) ≡ true = grind (arith, nat_tests, from) in z)

  pub here_is : to_it && writes_here place (access_at (terms past) serial) ≡ true
  here_is =
      ap (λ b. b && writes_here place (access_at (terms past) serial)) to_it_is
      ∙ (ap (λ o. writes_here place o) access_is
      ∙ (ap (λ b. b && is_buffer place (window_at d.writes.access.offset)) d.writes.writes ∙ is_buffer_there place (window_at d.writes.access.offset) d.writes.goes))

  -- the piece, of its slot
  piece : IsPieceOf T i n k M d.writes.access.offset d.was.size
  piece = moved i past n k serial place packet d (λ a b. IsPieceOf T i a b M d.writes.access.offset d.was.size) d.was.piece

  whole_is : mid i past n k serial place packet d ++ T ≡ past
  whole_is = whole i past n k serial place packet d

  passes : PassLaw wild (mid i past n k serial place packet d ++ T)
  passes = subst (PassLaw wild) (sym whole_is) here.passes

  early : k < appends T i n
  early = prepared_below i n k wild T (each_from _ (mid i past n k serial place packet d) T passes) (slot_at T i n k) piece.has

  slot_then : slot_at T i n k ≡ place
  slot_then = sym (slot_lasts i n k wild (mid i past n k serial place packet d) T passes early) ∙ (ap (λ h. slot_at h i n k) whole_is ∙ place_is)

  command_then : (cmd : Cmd) → command_at past i n k ≡ Some cmd → piece.cmd ≡ cmd
  command_then cmd e = same_Some piece.cmd cmd (sym piece.command ∙ (sym (command_lasts i n k wild (mid i past n k serial place packet d) T passes early) ∙ (ap (λ h. command_at h i n k) whole_is ∙ e)))

  abbrev pub left : ℕ
  left = length M.answer - M.written

  module _ (small : place < 32) (cmd : Cmd) (filled : IsFilled place cmd) (command : command_at past i n k ≡ Some cmd) where
    abbrev pub segments : List Segment
    segments = laid_out place cmd cmd.segments

    pub cut_is : chunk d.writes.access.offset d.was.size ≡ cut_to left (chunk_from segments M.written (limit place small cmd filled))
    cut_is =
        subst (λ (c : Cmd). chunk d.writes.access.offset d.was.size ≡ cut_to left (chunk_from (laid_out place c c.segments) M.written (2 ^ (c.max_payload + 2)))) (command_then cmd command)
        (subst (λ s. chunk d.writes.access.offset d.was.size ≡ cut_to left (chunk_from (laid_out s piece.cmd piece.cmd.segments) M.written (2 ^ (piece.cmd.max_payload + 2)))) slot_then piece.piece)

    small_size : d.was.size ≤ left
    small_size = let e : d.was.size ≡ (cut_to left (chunk_from segments M.written (limit place small cmd filled))).length = ap (λ (c : Chunk). c.length) cut_is in let b = cut_small left (chunk_from segments M.written (limit place small cmd filled)) in omega (arith, e, b)

    pub size_is : length d.writes.access.payload ≡ d.was.size
    size_is = ap length (d.was.bytes ∙ piece.bytes) ∙ taken_size d.was.size M.written M.answer small_size

    follows : (count : ℕ) → count ≡ d.was.size → addresses d.writes.access.offset count ≡ take count (drop M.written (places place small cmd filled))
    follows count e =
        let all = places place small cmd filled in
        let found = chunk_from segments M.written (limit place small cmd filled) in
        let own_place : addresses (cut_to left found).offset (cut_to left found).length ≡ take (cut_to left found).length (drop M.written all) = cut_follows left found all M.written (chunk_in_place segments M.written (limit place small cmd filled)) in
        subst (λ x. addresses d.writes.access.offset x ≡ take x (drop M.written all)) (sym e)
        (subst (λ (c : Chunk). addresses c.offset c.length ≡ take c.length (drop M.written all)) (sym cut_is) own_place)

    module _ (inward : cmd.to_initiator ≡ true) (some : 0 < length d.writes.access.payload) where
      abbrev pub access : Access
      access = d.writes.access

      abbrev pub one : Moved
      one = record { offset = access.offset; bytes = access.payload }

      pub cuts : IsCut segments M.written (limit place small cmd filled) access.offset d.was.size
      cuts = let e = size_is in cut_by segments M.written (limit place small cmd filled) left access.offset d.was.size (chunk_from segments M.written (limit place small cmd filled)) refl cut_is (omega (arith, e, some))

      -- the target's write to a piece
      pub of_target : (front : List Chunk) → IsFront segments (limit place small cmd filled) M.written front → filter (begins_one (pieces place small cmd filled)) (written_by (terms past) i serial) ≡ one ∷ []
      of_target front ready =
          let begins : begins_one (pieces place small cmd filled) one ≡ true = front_begins segments (limit place small cmd filled) (positive place small cmd filled) M.written front cuts.taken one ready cuts.is cuts.at in
          ap (λ b. filter (begins_one (pieces place small cmd filled)) (cond (b && to_it) (written_in (access_at (terms past) serial)) [])) from_target_is
          ∙ (ap (λ b. filter (begins_one (pieces place small cmd filled)) (cond b (written_in (access_at (terms past) serial)) [])) to_it_is
          ∙ (ap (λ o. filter (begins_one (pieces place small cmd filled)) (written_in o)) access_is
          ∙ (ap (λ b. filter (begins_one (pieces place small cmd filled)) (cond b (one ∷ []) [])) d.writes.writes
          ∙ ap (λ b. cond b (one ∷ []) []) begins)))

      -- it brings its bytes
      pub of_buffer : touching (places place small cmd filled) (cond (is_got_by past i serial) (write_in (packet_at (terms past) serial)) None) ≡ one ∷ []
      of_buffer =
          let p = spelled (reading packet.bytes) access d.writes.is in
          let w : IsBlockWrite p.packet access = block_write p.packet access p.asks some in
          let there : packet_at (terms past) serial ≡ Some p.packet = ap packet_in d.sent.is ∙ ap spelled_by p.is in
          let count = w.count in
          let size = size_is in
          let follow : Follows access place cmd M.written = follows access.count (count ∙ size) in
          let long : 0 < access.count = omega (arith, count, some) in
          let done = complete place small cmd filled past i n k has command inward access w.lock d.writes.writes long M.written follow in
          let touch : touches (places place small cmd filled) one ≡ true = touched place small cmd filled past i n k has command inward access w.lock d.writes.writes long M.written follow access.payload (sym count) in
          ap (λ b. touching (places place small cmd filled) (cond (b && is_complete_at past i (access_at (terms past) serial)) (write_in (packet_at (terms past) serial)) None)) to_it_is
          ∙ (ap (λ o. touching (places place small cmd filled) (cond (is_complete_at past i o) (write_in (packet_at (terms past) serial)) None)) access_is
          ∙ (ap (λ b. touching (places place small cmd filled) (cond b (write_in (packet_at (terms past) serial)) None)) done
          ∙ (ap (λ o. touching (places place small cmd filled) (write_in o)) there
          ∙ (ap (λ o. touching (places place small cmd filled) o) w.brings
          ∙ ap (λ b. cond b (one ∷ []) []) touch))))
