-- What brought bytes of the buffer of an ORB whose data go to its initiator, or of which the target wrote none, by the moments of a history: the writes of its data, each behind the bytes of the one before it. So these are the target's writes to its pieces since it ran.
use Rattle.sbp_world.proofs.Words.Std.{inl, inr, ◌⊎◌, arith, ◌≡◌, ◌∙◌, refl, sym, ap, subst, ◌<◌, ◌≤◌, ◌+◌, ◌^◌, ◌==◌, ◌&&◌, ℕ, zero, suc, nat_eq, nat_lt, Bool, true, false, cond, List, [], ◌∷◌, ◌++◌, length, map, Option, Some, None, filter, nat_tests, append-nil, map-append, filter-append, false≢true, same_Some}
use Rattle.sbp_world.proofs.Words.Wire.{SerialsCount, Access, Moment, said, Sending, terms, Cmd, NoteBuffer}
use Rattle.sbp_world.proofs.Words.Target.{Disk, Sense}
use Rattle.sbp_world.proofs.Words.Initiator.{window_at, Chunk, Segment, bytes_of, chunk, chunk_from}
use Rattle.sbp_world.proofs.Words.Laws.{Moved, begins_one, is_run_of, laid_out, was_got, writes_since, written_by, command_at, lowest_vacant, orb, prepared_in, slot_at, slots, access_at, access_in, access_in_bytes, packet_at, packet_in, receiver_in, sender_in, is_serial, appends}
use Rattle.sbp_world.proofs.Words.World.{is_got_by, piece_of, touching, write_in, written_at, IsLatestData, WasGot, IsReached, IsWrittenTo, begins, goes_on, IsDataOf, WasClosed, IsDataWrite}
use Rattle.sbp_world.proofs.Lists.FedPieces.{all_bytes, all_more}
use Rattle.std.specs.Prelude.{drop, take}
use Rattle.sbp_journal.specs.declared.note.Note.TheVariants as notes
use Rattle.sbp_world.proofs.Hosts.Deliveries.{GotsIn, find_got}
use Rattle.sbp_world.proofs.Hosts.Remaining.{remains}
use Rattle.sbp_world.proofs.Hosts.SentMoments.{sent_below, serials_from}
use Rattle.sbp_world.proofs.Lists.AnswersCarriedBefore.{WasSentThen, apart_from, got_low, got_moment, got_then, gots_from, has_run, into, known_from, next_run, out, run_appended, run_told, stands_at}
use Rattle.sbp_world.proofs.Lists.AnswersCarriedChunks.{IsFront, front_more, front_none}
use Rattle.sbp_world.proofs.Lists.AnswersCarriedGot as got
use Rattle.sbp_world.proofs.Lists.AnswersCarriedWrites.{buffer_by, buffer_is, is_buffer, pieces, places, target_by, writes_here}
use Rattle.sbp_world.proofs.Lists.DataClosed.{IsSound, sound_from}
use Rattle.sbp_world.proofs.Lists.DataGots.{got_so}
use Rattle.sbp_world.proofs.Lists.DataSequences.{in_sequence}
use Rattle.sbp_world.proofs.Lists.DataServed.{ran_so}
use Rattle.sbp_world.proofs.Lists.DataShut as shut
use Rattle.sbp_world.proofs.Lists.DataSlots.{command_lasts, prepared_below, same_orb}
use Rattle.sbp_world.proofs.Lists.OpenNews.{got_news}
use Rattle.sbp_world.proofs.Lists.Passing.{PassLaw}
use Rattle.sbp_world.proofs.Lists.SlotShut.{AllApart}
use Rattle.sbp_world.proofs.Lists.Slots.{IsFilled}
use Rattle.sbp_world.proofs.Lists.StatusKnown.{IsKnown}
use Rattle.sbp_world.proofs.Lists.UnrunLaws.{unrun_law}
use Rattle.sbp_world.proofs.Common.{moments_split, and_second, and_first}
use Rattle.sbp_world.proofs.Lists.Brought.{joined}
use Rattle.sbp_world.proofs.Lists.WasReads.{got_later as got_on}

abbrev pub moved_of : Access → Moved
moved_of access = record { offset = access.offset; bytes = access.payload }

-- as many bytes of a front as there are
take_its : (xs : List ℕ) (n : ℕ) → take n xs ≡ take (length (take n xs)) xs
take_its [] zero = refl
take_its [] (suc n) = refl
take_its (x ∷ xs) zero = refl
take_its (x ∷ xs) (suc n) = ap (λ ys. x ∷ ys) (take_its xs n)

module _ (start : List Disk) (wild : ℕ → Bool) (i : ℕ) (own : wild i ≡ false) (all : List Moment) (sound : IsSound start wild i own all) (known : IsKnown wild all i) (apart : AllApart all i) (gots : GotsIn WasSentThen all) (n k slot : ℕ) (small : slot < 32) (cmd : Cmd) (filled : IsFilled slot cmd) (way : (cmd.to_initiator ≡ true) ⊎ ((serial place : ℕ) (packet : Sending) → IsDataOf start all i n k serial packet place → ⊥)) (command : command_at all i n k ≡ Some cmd) where
  abbrev pub segments : List Segment
  segments = laid_out slot cmd cmd.segments

  abbrev pub bound : ℕ
  bound = 2 ^ (cmd.max_payload + 2)

  abbrev pub own_pieces : List Chunk
  own_pieces = pieces slot small cmd filled

  abbrev pub own_places : List ℕ
  own_places = places slot small cmd filled

  -- the target's writes to the pieces of the buffer since the ORB ran, and the writes that brought bytes of it since its append
  abbrev pub to_pieces : List Moment → List Moved
  to_pieces past = filter (begins_one own_pieces) (writes_since past i n k)

  abbrev pub brought : List Moment → List Moved
  brought past = written_at past i slot own_places

  -- each machine that wrote data of the ORB had this answer
  abbrev pub AreAnswers : List ℕ → Type 0
  AreAnswers xs = (serial at : ℕ) (one : Sending) (d : IsDataOf start all i n k serial one at) → d.was.machine.answer ≡ xs

  -- writes brought so many bytes of it
  abbrev pub AreTold : List Moved → ℕ → Type 0
  AreTold moved done = (xs : List ℕ) → AreAnswers xs → all_bytes moved ≡ take done xs

  -- both end with this write, and what stands before it is of the first chunks, up to so many bytes
  pub record IsBehind (targets buffers : List Moved) (done : ℕ) (access : Access) : Type 0 where
    pub front : List Moved
    pub ready : IsFront segments bound done (map piece_of front)
    pub told : AreTold front done
    pub of_target : targets ≡ front ++ moved_of access ∷ []
    pub of_buffer : buffers ≡ front ++ moved_of access ∷ []

  -- the latest write of data that was got
  pub record IsLatest (targets buffers : List Moved) (had : ℕ → Bool) : Type 0 where
    pub serial : ℕ
    pub place : ℕ
    pub packet : Sending
    pub of : IsDataOf start all i n k serial packet place
    pub got_it : had serial ≡ true
    pub latest : (other at : ℕ) (one : Sending) → IsDataOf start all i n k other one at → had other ≡ true → other ≤ serial
    pub so : (at : ℕ) (one : Sending) (d : IsDataOf start all i n k serial one at) → 0 < length d.writes.access.payload → IsBehind targets buffers d.was.machine.written d.writes.access

  pub data IsTracked (targets buffers : List Moved) (ran : Bool) (had : ℕ → Bool) : Type 0 where
    not_yet : (ran ≡ true → targets ≡ []) → buffers ≡ [] → ((serial at : ℕ) (one : Sending) → IsDataOf start all i n k serial one at → had serial ≡ true → ⊥) → IsTracked targets buffers ran had
    up_to : IsLatest targets buffers had → IsTracked targets buffers ran had

  abbrev pub Tracked : List Moment → Type 0
  Tracked past = IsTracked (to_pieces past) (brought past) (has_run past i n k) (was_got past)

  -- both are the same, and of the first chunks, up to so many bytes
  pub record IsReady (past : List Moment) (done : ℕ) : Type 0 where
    pub front : List Moved
    pub ready : IsFront segments bound done (map piece_of front)
    pub told : AreTold front done
    pub of_target : to_pieces past ≡ front
    pub of_buffer : brought past ≡ front

  -- a further write brings the bytes behind
  told_more : (front : List Moved) (serial at : ℕ) (one : Sending) (d : IsDataOf start all i n k serial one at) (xs : List ℕ) → d.was.machine.answer ≡ xs → all_bytes front ≡ take d.was.machine.written xs → all_bytes (front ++ moved_of d.writes.access ∷ []) ≡ take (d.was.machine.written + length d.writes.access.payload) xs
  told_more front serial at one d xs same had =
      let access = d.writes.access in
      let done = d.was.machine.written in
      let brings : access.payload ≡ take d.was.size (drop done xs) = d.was.bytes ∙ (d.was.piece.bytes ∙ ap (λ ys. take d.was.size (drop done ys)) same) in
      let cut : access.payload ≡ take (length access.payload) (drop done xs) = brings ∙ (take_its (drop done xs) d.was.size ∙ ap (λ ys. take (length ys) (drop done xs)) (sym brings)) in
      all_more front (moved_of access) ∙ (ap (λ ys. ys ++ access.payload) had ∙ (ap (λ ys. take done xs ++ ys) cut ∙ joined done (length access.payload) xs))

  -- ---- a history before, in which the slot has the ORB
  module _ (front past : List Moment) (at : front ++ past ≡ all) where
    pub sound_there : IsSound start wild i own past
    sound_there = sound_from start wild i own front past (subst (IsSound start wild i own) (sym at) sound)

    pub known_there : IsKnown wild past i
    known_there = known_from wild i front past (subst (λ ms. IsKnown wild ms i) (sym at) known)

    apart_there : AllApart past i
    apart_there = apart_from i front past (subst (λ ms. AllApart ms i) (sym at) apart)

    gots_there : GotsIn WasSentThen past
    gots_there = gots_from WasSentThen front past (subst (GotsIn WasSentThen) (sym at) gots)

    low : (serial : ℕ) → was_got past serial ≡ true → serial ≤ (terms past).count
    low serial e = got_low past serial sound_there.serials gots_there e

    below : prepared_in past i slot ≡ Some (orb n k) → k < appends past i n
    below prep = prepared_below i n k wild past sound_there.passes slot prep

    pub command_there : prepared_in past i slot ≡ Some (orb n k) → command_at past i n k ≡ Some cmd
    command_there prep = sym (command_lasts i n k wild front past (subst (PassLaw wild) (sym at) sound.passes) (below prep)) ∙ (ap (λ h. command_at h i n k) at ∙ command)

    pub slot_there : prepared_in past i slot ≡ Some (orb n k) → slot_at past i n k ≡ slot
    slot_there prep = stands_at i n k wild past sound_there.passes slot prep

    -- a write of data that was closed was got
    closed_got : (serial place : ℕ) (packet : Sending) → IsDataOf start past i n k serial packet place → WasClosed past serial → was_got past serial ≡ true
    closed_got serial place packet d w =
        let front_there = w.later ++ said (notes.Got w.got) ∷ [] in
        let whole : front_there ++ w.before ≡ past = sym (moments_split w.later (said (notes.Got w.got) ∷ []) w.before) ∙ w.is in
        let counted = subst SerialsCount (sym whole) sound_there.serials in
        let rest = remains front_there w.before counted in
        let it : shut.IsIt i serial place packet d.sent.to_host d.writes w.before = λ q e.
        same_Some q packet (sym e ∙ (sym (rest.sent serial (sent_below w.before serial q (serials_from front_there w.before counted) e)) ∙ (ap (λ ms. (terms ms).sent serial) whole ∙ d.sent.is))) in
        let one = w.served.served in
        let g : WasGot w.before serial = shut.was_got i serial place packet d.sent.to_host d.writes w.before (serials_from front_there w.before counted) it (apart_from i front_there w.before (subst (λ ms. AllApart ms i) (sym whole) apart_there)) (omega (arith, one)) in
        subst (λ ms. was_got ms serial ≡ true) whole (got_on front_there w.before serial (got_then w.before serial g))

    -- behind the latest write of data, which was served
    module _ (prep : prepared_in past i slot ≡ Some (orb n k)) (next done : ℕ) (w : IsWrittenTo start past i n k next done) where
      abbrev whole_then : IsDataOf start all i n k w.serial w.packet w.slot
      whole_then = out i all front past at sound.serials n k w.serial w.slot w.packet w.of

      behind : IsBehind (to_pieces past) (brought past) w.of.was.machine.written w.of.writes.access → IsReady past done
      behind b =
          let access = w.of.writes.access in
          let is : chunk_from segments w.of.was.machine.written bound ≡ Some (chunk access.offset (length access.payload)) =
          subst (λ s. chunk_from (laid_out s cmd cmd.segments) w.of.was.machine.written bound ≡ Some (chunk access.offset (length access.payload))) (slot_there prep) (w.whole cmd (command_there prep)) in
          let more = front_more segments bound w.of.was.machine.written (map piece_of b.front) (chunk access.offset (length access.payload)) is b.ready in
          record {
            front = b.front ++ moved_of access ∷ [];
            ready = subst (λ x. IsFront segments bound x (map piece_of (b.front ++ moved_of access ∷ []))) (sym w.done_is)
                (subst (λ xs. IsFront segments bound (w.of.was.machine.written + length access.payload) xs) (sym (map-append piece_of b.front (moved_of access ∷ []))) more);
            told = subst (AreTold (b.front ++ moved_of access ∷ [])) (sym w.done_is)
                (λ xs e. told_more b.front w.serial w.slot w.packet whole_then xs (e w.serial w.slot w.packet whole_then) (b.told xs e));
            of_target = b.of_target;
            of_buffer = b.of_buffer;
          }

      -- the latest one that was got is this one
      latest_is : (l : IsLatest (to_pieces past) (brought past) (was_got past)) → l.serial < next → l.serial ≡ w.serial
      latest_is l less =
          let closed : was_got past w.serial ≡ true = closed_got w.serial w.slot w.packet w.of w.closed in
          let a = l.latest w.serial w.slot w.packet whole_then closed in
          let there = into i all front past at sound.serials n k l.serial l.place l.packet l.of (low l.serial l.got_it) in
          let b = w.latest l.serial l.place l.packet there less in
          omega (arith, a, b)

      pub ready_by : Tracked past → ((l : IsLatest (to_pieces past) (brought past) (was_got past)) → l.serial < next) → IsReady past done
      ready_by (not_yet f g none) before = absurd (none w.serial w.slot w.packet whole_then (closed_got w.serial w.slot w.packet w.of w.closed))
      ready_by (up_to l) before =
          behind (subst (λ x. (place : ℕ) (one : Sending) (d : IsDataOf start all i n k x one place) → 0 < length d.writes.access.payload → IsBehind (to_pieces past) (brought past) d.was.machine.written d.writes.access) (latest_is l (before l)) l.so
          w.slot w.packet (out i all front past at sound.serials n k w.serial w.slot w.packet w.of) w.some)

  -- ---- a packet is got
  module _ (front past : List Moment) (serial : ℕ) (at : front ++ said (notes.Got serial) ∷ past ≡ all) (prep : prepared_in past i slot ≡ Some (orb n k)) (tracked : Tracked past) where
    abbrev pub now : List Moment
    now = said (notes.Got serial) ∷ past

    abbrev pub behind_it : List Moment
    behind_it = front ++ said (notes.Got serial) ∷ []

    whole : behind_it ++ past ≡ all
    whole = sym (moments_split front (said (notes.Got serial) ∷ []) past) ∙ at

    sound_now : IsSound start wild i own now
    sound_now = sound_there front now at

    known_now : IsKnown wild now i
    known_now = known_there front now at

    sound_past : IsSound start wild i own past
    sound_past = sound_there behind_it past whole

    low_past : (other : ℕ) → was_got past other ≡ true → other ≤ (terms past).count
    low_past = low behind_it past whole

    sent_it : WasSentThen serial past
    sent_it = find_got WasSentThen front past serial (subst (GotsIn WasSentThen) (sym at) gots)

    low_it : serial ≤ (terms past).count
    low_it = sent_below past serial sent_it.0 sound_past.serials sent_it.1

    abbrev pub to_it : Bool
    to_it = is_serial (receiver_in ((terms past).sent serial)) (suc i)

    abbrev pub from_target : Bool
    from_target = is_serial (sender_in ((terms past).sent serial)) 0

    abbrev pub here : Bool
    here = to_it && writes_here slot (access_at (terms past) serial)

    -- a write of data of this ORB
    module _ (place : ℕ) (packet : Sending) (d : IsDataOf start all i n k serial packet place) where
      abbrev inner : IsDataOf start past i n k serial packet place
      inner = into i all behind_it past whole sound.serials n k serial place packet d low_it

      slot_is : place ≡ slot
      slot_is = sym (got.place_is start wild i own past serial known_now sound_now n k place packet inner) ∙ slot_there behind_it past whole prep

      here_is : here ≡ true
      here_is = subst (λ s. to_it && writes_here s (access_at (terms past) serial) ≡ true) slot_is (got.here_is start wild i own past serial known_now sound_now n k place packet inner)

      -- it was not got before
      not_before : was_got past serial ≡ true → ⊥
      not_before e =
          let w = got_moment past serial e in
          let before_it = find_got WasSentThen w.later w.before serial (subst (GotsIn WasSentThen) (sym w.is) (gots_from WasSentThen behind_it past (subst (GotsIn WasSentThen) (sym whole) gots))) in
          let some = got_news serial w.later w.before past before_it.0 w.is before_it.1 in
          let none = got.now_fresh start wild i own past serial known_now sound_now n k place packet inner in
          omega (arith, some, none)

    -- what was got
    had_still : (other : ℕ) → was_got past other ≡ true → was_got now other ≡ true
    had_still other e = by (serial == other)
      where
        by : (b : Bool) → cond b true (was_got past other) ≡ true
        by true = refl
        by false = e

    had_before : (other : ℕ) → was_got now other ≡ true → (serial ≡ other → was_got past other ≡ true) → was_got past other ≡ true
    had_before other e same = by (serial == other) refl e
      where
        by : (b : Bool) → (serial == other) ≡ b → cond b true (was_got past other) ≡ true → was_got past other ≡ true
        by true f g = same (let z : serial ≡ other = grind (arith, nat_tests, f) in z)
        by false f g = g

    targets_now : to_pieces now ≡ to_pieces past ++ filter (begins_one own_pieces) (written_by (terms past) i serial)
    targets_now = filter-append (begins_one own_pieces) (writes_since past i n k) (written_by (terms past) i serial)

    -- ---- one that is none
    module _ (none : here ≡ false) where
      targets_same : to_pieces now ≡ to_pieces past
      targets_same = targets_now ∙ (ap (λ xs. to_pieces past ++ xs) (target_by slot small cmd filled from_target to_it (access_at (terms past) serial) none) ∙ append-nil (to_pieces past))

      buffers_same : brought now ≡ brought past
      buffers_same = ap (λ xs. brought past ++ xs) (buffer_by slot small cmd filled past i to_it (packet_at (terms past) serial) none) ∙ append-nil (brought past)

      old : (other at : ℕ) (one : Sending) → IsDataOf start all i n k other one at → was_got now other ≡ true → was_got past other ≡ true
      old other at one d e =
          had_before other e (λ same. absurd (let there = here_is at one (subst (λ x. IsDataOf start all i n k x one at) (sym same) d) in false≢true (sym none ∙ there)))

      elsewhere : Tracked past → Tracked now
      elsewhere (not_yet f g h) = not_yet (λ ran. targets_same ∙ f ran) (buffers_same ∙ g) (λ other at one d e. h other at one d (old other at one d e))
      elsewhere (up_to l) = up_to (record {
        serial = l.serial;
        place = l.place;
        packet = l.packet;
        of = l.of;
        got_it = had_still l.serial l.got_it;
        latest = λ other at one d e. l.latest other at one d (old other at one d e);
        so = λ at one d some.
            let b = l.so at one d some in
            record { front = b.front; ready = b.ready; told = b.told; of_target = targets_same ∙ b.of_target; of_buffer = buffers_same ∙ b.of_buffer };
      })

    -- ---- one that writes into the buffer
    module _ (into_it : here ≡ true) where
      abbrev q : Sending
      q = sent_it.0

      to_host : q.to ≡ suc i
      to_host =
          let e : is_serial (receiver_in (Some q)) (suc i) ≡ true = ap (λ so. is_serial (receiver_in so) (suc i)) (sym sent_it.1) ∙ and_first to_it (writes_here slot (access_at (terms past) serial)) into_it in
          grind (arith, nat_tests, e)

      write_by : (found : Option Access) → access_in_bytes q.bytes ≡ found → writes_here slot found ≡ true → IsDataWrite q.bytes slot
      write_by None e f = absurd (false≢true f)
      write_by (Some access) e f = record {
        access = access;
        is = e;
        writes = and_first access.is_write (is_buffer slot (window_at access.offset)) f;
        goes = buffer_is slot (window_at access.offset) (and_second access.is_write (is_buffer slot (window_at access.offset)) f);
      }

      write_is : IsDataWrite q.bytes slot
      write_is = write_by (access_in_bytes q.bytes) refl (ap (λ so. writes_here slot (access_in (packet_in so))) (sym sent_it.1) ∙ and_second to_it (writes_here slot (access_at (terms past) serial)) into_it)

      g : IsLatestData start past i serial slot q
      g = got_so start wild i own past serial known_now sound_now q sent_it.1 to_host slot write_is

      same : (g.list ≡ n) × (g.number ≡ k)
      same = same_orb g.list g.number n k (sym g.has.there ∙ prep)

      abbrev of_it : IsDataOf start past i n k serial q slot
      of_it = record {
        sent = g.of.sent;
        writes = g.of.writes;
        later = g.of.later;
        before = g.of.before;
        is = g.of.is;
        was = g.of.was;
        list_is = g.of.list_is ∙ same.0;
        number_is = g.of.number_is ∙ same.1;
      }

      of_all : IsDataOf start all i n k serial q slot
      of_all = out i all behind_it past whole sound.serials n k serial slot q of_it

      -- each of its data that was got before is an earlier one
      early : (other place : ℕ) (one : Sending) → IsDataOf start all i n k other one place → was_got past other ≡ true → other < serial
      early other place one d e =
          let there = into i all behind_it past whole sound.serials n k other place one d (low_past other e) in
          let least : other ≤ serial = g.latest other place one (subst (λ x. IsDataOf start past i x g.number other one place) (sym same.0) (subst (λ x. IsDataOf start past i n x other one place) (sym same.1) there)) in
          by (nat_lt other serial) refl least
        where
          by : (b : Bool) → nat_lt other serial ≡ b → other ≤ serial → other < serial
          by true f least = grind (arith, nat_tests, f)
          by false f least =
              let one_number : other ≡ serial = grind (arith, nat_tests, f, least) in
              absurd (not_before slot q of_all (subst (λ x. was_got past x ≡ true) one_number e))

      module _ (packet : Sending) (d : IsDataOf start all i n k serial packet slot) where
        abbrev it : IsDataOf start past i n k serial packet slot
        it = into i all behind_it past whole sound.serials n k serial slot packet d low_it

        ran : has_run past i n k ≡ true
        ran = run_told past i n k (ran_so i past n k serial slot packet it)

        begun : ((other at : ℕ) (one : Sending) → IsDataOf start past i n k other one at → other < serial → ⊥) → d.was.machine.written ≡ 0 → Tracked past → IsReady past d.was.machine.written
        begun first zero_there (not_yet f h none) = record {
          front = [];
          ready = subst (λ x. IsFront segments bound x []) (sym zero_there) (front_none segments bound);
          told = subst (AreTold []) (sym zero_there) (λ xs e. refl);
          of_target = f ran;
          of_buffer = h;
        }
        begun first zero_there (up_to l) = absurd (first l.serial l.place l.packet (into i all behind_it past whole sound.serials n k l.serial l.place l.packet l.of (low_past l.serial l.got_it)) (early l.serial l.place l.packet l.of l.got_it))

        by_reached : IsReached start past i n k serial d.was.machine.written → IsReady past d.was.machine.written
        by_reached (begins first zero_there) = begun first zero_there tracked
        by_reached (goes_on w) = ready_by behind_it past whole prep serial d.was.machine.written w tracked (λ l. early l.serial l.place l.packet l.of l.got_it)

        ready_now : IsReady past d.was.machine.written
        ready_now = by_reached ((in_sequence start wild i own past sound_past).each n k serial slot packet it (got.now_current start wild i own past serial known_now sound_now n k slot packet it))

        behind_slot : 0 < length d.writes.access.payload → IsBehind (to_pieces now) (brought now) d.was.machine.written d.writes.access
        behind_slot long = by_way way
          where
            by_way : (cmd.to_initiator ≡ true) ⊎ ((serial place : ℕ) (packet : Sending) → IsDataOf start all i n k serial packet place → ⊥) → IsBehind (to_pieces now) (brought now) d.was.machine.written d.writes.access
            by_way (inr none) = absurd (none serial slot packet d)
            by_way (inl inward) =
                let r = ready_now in
                let there = command_there behind_it past whole prep in
                let target = got.of_target start wild i own past serial known_now sound_now n k slot packet it small cmd filled there inward long (map piece_of r.front) r.ready in
                let buffer = got.of_buffer start wild i own past serial known_now sound_now n k slot packet it small cmd filled there inward long in
                record {
                  front = r.front;
                  ready = r.ready;
                  told = r.told;
                  of_target = targets_now ∙ (ap (λ xs. xs ++ filter (begins_one own_pieces) (written_by (terms past) i serial)) r.of_target ∙ ap (λ xs. r.front ++ xs) target);
                  of_buffer =
                      ap (λ xs. xs ++ touching own_places (cond (is_got_by past i serial) (write_in (packet_at (terms past) serial)) None)) r.of_buffer ∙ ap (λ xs. r.front ++ xs) buffer;
                }

      behind_now : (place : ℕ) (packet : Sending) (d : IsDataOf start all i n k serial packet place) → 0 < length d.writes.access.payload → IsBehind (to_pieces now) (brought now) d.was.machine.written d.writes.access
      behind_now place packet d =
          subst (λ p. (x : IsDataOf start all i n k serial packet p) → 0 < length x.writes.access.payload → IsBehind (to_pieces now) (brought now) x.was.machine.written x.writes.access) (sym (slot_is place packet d)) (λ x. behind_slot packet x) d

      tracked_on : Tracked now
      tracked_on = up_to (record {
        serial = serial;
        place = slot;
        packet = q;
        of = of_all;
        got_it = (let z : (serial == serial) ≡ true = grind (arith, nat_tests) in ap (λ b. cond b true (was_got past serial)) z);
        latest = λ other place one d e. latest_now other place one d e;
        so = λ place one d some. behind_now place one d some;
      })
        where
          latest_now : (other place : ℕ) (one : Sending) → IsDataOf start all i n k other one place → was_got now other ≡ true → other ≤ serial
          latest_now other place one d e = by (serial == other) refl e
            where
              by : (b : Bool) → (serial == other) ≡ b → cond b true (was_got past other) ≡ true → other ≤ serial
              by true f h = grind (arith, nat_tests, f)
              by false f h = let less = early other place one d h in omega (arith, less)

    got_on_it : Tracked now
    got_on_it = by here refl
      where
        by : (b : Bool) → here ≡ b → Tracked now
        by true e = tracked_on e
        by false e = elsewhere e tracked

  -- ---- an ORB is appended
  module _ (front past : List Moment) (j m l : ℕ) (cdb : List ℕ) (buffer : NoteBuffer) (at : front ++ said (notes.Append j m l cdb buffer) ∷ past ≡ all) where
    abbrev pub appended : List Moment
    appended = said (notes.Append j m l cdb buffer) ∷ past

    abbrev pub low_slot : ℕ
    low_slot = lowest_vacant (slots past j)

    law : PassLaw wild appended
    law = (sound_there front appended at).passes

    abbrev pub front_on : List Moment
    front_on = front ++ said (notes.Append j m l cdb buffer) ∷ []

    abbrev pub to_slot : Bool
    to_slot = (j == i) && (slot_at appended i m l == slot)

    -- to another slot, or of another initiator
    kept_by : to_slot ≡ false → Tracked past → Tracked appended
    kept_by e t = subst (λ xs. IsTracked (to_pieces past) xs (has_run past i n k) (was_got past)) (ap (λ b. cond b [] (brought past)) (sym e)) t

    stands_low : nat_eq i j ≡ true → slot_at appended i m l ≡ low_slot
    stands_low e =
        let b : nat_eq m m ≡ true = grind (arith, nat_tests) in
        let c : nat_eq l l ≡ true = grind (arith, nat_tests) in
        ap (λ x. cond x (cond (nat_eq m m) (cond (nat_eq l l) low_slot (slot_at past i m l)) (slot_at past i m l)) (slot_at past i m l)) e
        ∙ (ap (λ x. cond x (cond (nat_eq l l) low_slot (slot_at past i m l)) (slot_at past i m l)) b ∙ ap (λ x. cond x low_slot (slot_at past i m l)) c)

    elsewhere_if : nat_eq i j ≡ true → nat_eq slot low_slot ≡ false → to_slot ≡ false
    elsewhere_if e f =
        let stands = stands_low e in
        let other : (slot_at appended i m l == slot) ≡ false = grind (arith, nat_tests, f, stands) in
        by (j == i) (slot_at appended i m l == slot) other
      where
        by : (a b : Bool) → b ≡ false → a && b ≡ false
        by true b g = g
        by false b g = refl

    away_if : nat_eq i j ≡ false → to_slot ≡ false
    away_if e = let other : (j == i) ≡ false = grind (arith, nat_tests, e) in ap (λ b. b && (slot_at appended i m l == slot)) other

    -- it is this ORB
    new_if : nat_eq i j ≡ true → nat_eq slot low_slot ≡ true → to_slot ≡ true
    new_if e f =
        let stands = stands_low e in
        let a : (j == i) ≡ true = grind (arith, nat_tests, e) in
        let b : (slot_at appended i m l == slot) ≡ true = grind (arith, nat_tests, f, stands) in
        ap (λ x. x && (slot_at appended i m l == slot)) a ∙ b

    new_orb : nat_eq i j ≡ true → nat_eq slot low_slot ≡ true → (m ≡ n) × (l ≡ k) → Tracked appended
    new_orb e f s =
        let same_i : j ≡ i = grind (arith, nat_tests, e) in
        let number : l ≡ appends past j m = law.0.next.number in
        let number_here : k ≡ appends past i n = sym s.1 ∙ (number ∙ (ap (λ x. appends past x m) same_i ∙ ap (λ x. appends past i x) s.0)) in
        let whole : front_on ++ past ≡ all = sym (moments_split front (said (notes.Append j m l cdb buffer) ∷ []) past) ∙ at in
        let there = (sound_there front_on past whole).passes in
        not_yet
        (λ ran. absurd (let b = run_appended wild i own n k past there ran in omega (arith, b, number_here)))
        (ap (λ b. cond b [] (brought past)) (new_if e f))
        (λ serial place one d z.
        let inner = into i all front_on past whole sound.serials n k serial place one d (low front_on past whole serial z) in
        let b = run_appended wild i own n k past there (run_told past i n k (ran_so i past n k serial place one inner)) in
        absurd (omega (arith, b, number_here)))

    append_on : (prepared_in past i slot ≡ Some (orb n k) → Tracked past) → prepared_in appended i slot ≡ Some (orb n k) → Tracked appended
    append_on t prep = by (nat_eq i j) (nat_eq slot low_slot) refl refl prep
      where
        by : (x y : Bool) → nat_eq i j ≡ x → nat_eq slot low_slot ≡ y → cond x (cond y (Some (orb m l)) (prepared_in past i slot)) (prepared_in past i slot) ≡ Some (orb n k) → Tracked appended
        by true true e f h = new_orb e f (same_orb m l n k h)
        by true false e f h = kept_by (elsewhere_if e f) (t h)
        by false y e f h = kept_by (away_if e) (t h)

  -- ---- a command runs
  module _ (front past : List Moment) (j : ℕ) (list number : Option ℕ) (unit : ℕ) (cdb bytes : List ℕ) (check : Option Sense) (at : front ++ said (notes.Ran j list number unit cdb bytes check) ∷ past ≡ all) where
    abbrev pub runs_now : List Moment
    runs_now = said (notes.Ran j list number unit cdb bytes check) ∷ past

    ran_law : PassLaw wild runs_now
    ran_law = (sound_there front runs_now at).passes

    not_again : is_run_of i n k j list number ≡ true → (serial place : ℕ) (one : Sending) → IsDataOf start all i n k serial one place → was_got past serial ≡ true → ⊥
    not_again e serial place one d z =
        let x = said (notes.Ran j list number unit cdb bytes check) in
        let whole : (front ++ x ∷ []) ++ past ≡ all = sym (moments_split front (x ∷ []) past) ∙ at in
        let none = (next_run wild i own n k past j list number unit cdb bytes check ran_law.0 e).once unrun_law in
        let inner = into i all (front ++ x ∷ []) past whole sound.serials n k serial place one d (low (front ++ x ∷ []) past whole serial z) in
        let some = ran_so i past n k serial place one inner in
        omega (arith, none, some)

    run_on : Tracked past → Tracked runs_now
    run_on t = by (is_run_of i n k j list number) refl t
      where
        by : (b : Bool) → is_run_of i n k j list number ≡ b → Tracked past → IsTracked (filter (begins_one own_pieces) (cond b [] (writes_since past i n k))) (brought past) (cond b true (has_run past i n k)) (was_got past)
        by true e (not_yet f g h) = not_yet (λ ran. refl) g h
        by true e (up_to l) = absurd (not_again e l.serial l.place l.packet l.of l.got_it)
        by false e t = t

  -- ---- at each history before, in which the slot has the ORB
  pub tracks : (past front : List Moment) → front ++ past ≡ all → prepared_in past i slot ≡ Some (orb n k) → Tracked past
  tracks [] front at prep = absurd (let z : None ≡ Some (orb n k) = prep in cc)
  tracks (said (notes.Append j m l cdb buffer) ∷ past) front at prep =
      append_on front past j m l cdb buffer at (λ e. tracks past (front ++ said (notes.Append j m l cdb buffer) ∷ []) (sym (moments_split front (said (notes.Append j m l cdb buffer) ∷ []) past) ∙ at) e) prep
  tracks (said (notes.Ran j list number unit cdb bytes check) ∷ past) front at prep =
      run_on front past j list number unit cdb bytes check at
      (tracks past (front ++ said (notes.Ran j list number unit cdb bytes check) ∷ []) (sym (moments_split front (said (notes.Ran j list number unit cdb bytes check) ∷ []) past) ∙ at) prep)
  tracks (said (notes.Got serial) ∷ past) front at prep =
      got_on_it front past serial at prep (tracks past (front ++ said (notes.Got serial) ∷ []) (sym (moments_split front (said (notes.Got serial) ∷ []) past) ∙ at) prep)
  tracks (moment ∷ past) front at prep = tracks past (front ++ moment ∷ []) (sym (moments_split front (moment ∷ []) past) ∙ at) prep

  -- ---- where the slot has the ORB now
  module _ (there : prepared_in all i slot ≡ Some (orb n k)) where
    pub tracked_now : Tracked all
    tracked_now = tracks all [] refl there

    -- behind the write that ended with the buffer
    pub all_written : (next : ℕ) → ((serial place : ℕ) (one : Sending) → IsDataOf start all i n k serial one place → serial < next) → IsWrittenTo start all i n k next (bytes_of segments) → IsReady all (bytes_of segments)
    all_written next least w = ready_by [] all refl there next (bytes_of segments) w tracked_now (λ l. least l.serial l.place l.packet l.of)
