-- The statuses of an initiator are taken as the ORBs ended, of the packets that the ends sent, in every history in which each write of a status to it is such a packet
-- as it is sent. A status is taken right behind the note that its packet was got, and until then the slot of the ORB keeps it.
use Rattle.sbp_world.proofs.Words.Std.{arith, ◌≡◌, ◌∙◌, refl, sym, ap, subst, inl, inr, ◌⊎◌, ◌<◌, ◌≤◌, ℕ, suc, Bool, true, false, List, [], ◌∷◌, ◌++◌, Option, Some, None, same_Some}
use Rattle.sbp_world.proofs.Words.Wire.{reading, SerialsCount, Access, Moment, asked, said, Sending, terms}
use Rattle.sbp_world.proofs.Words.Initiator.{start, StatusBlock, StatusKind}
use Rattle.sbp_world.proofs.Words.Laws.{host_at, Orb, last_got, orb, prepared_in, slot_at, waits_in, access_at, access_in, access_in_bytes, packet_in, receiver_in, fifo_of, status_packet, ended_status, ends, EachMoment}
use Rattle.sbp_world.proofs.Words.World.{IsTakenBy, Spells, TakenOf, is_place_fifo, AreStatuses, IsFifo, IsSentSo, IsStatusOf, IsStatusWrite, IsTakenSo, IsToHost, SentSo, TakenSo}
use Rattle.std.specs.Prelude.{IsSomeAnd}
use Rattle.bus_memory.specs.declared.window.Window.TheVariants as windows
use Rattle.bus_memory.proofs.Found.{slot_of_law}
use Rattle.sbp_journal.specs.declared.note.Note.TheVariants as notes
use Rattle.sbp_world.proofs.Hosts.Remaining.{gets_same, remains}
use Rattle.sbp_world.proofs.Hosts.SentMoments.{sent_below, serials_from}
use Rattle.sbp_world.specs.Lists.Statuses.{of_login, of_place}
use Rattle.sbp_world.proofs.Lists.OpenNews.{got_more, got_news}
use Rattle.sbp_world.proofs.Lists.Passing.{PassLaw}
use Rattle.sbp_world.proofs.Lists.Stands.{Stands, standing}
use Rattle.sbp_world.proofs.Lists.StatusKnown.{IsKnown, WaitsSo, Where, generation_grows, got_by, is_before, is_here, known_less, old_seen, old_waits, sent_where, some_of, spelled, taken_judged, waits_so, writes_no_rom}
use Rattle.sbp_world.proofs.Lists.StatusMoments.{HasTaken, below, latest_of}
use Rattle.sbp_world.proofs.Common.{moments_split}

module _ (wild : ℕ → Bool) (i : ℕ) (own : wild i ≡ false) (all : List Moment) (counted : SerialsCount all) (once : (serial : ℕ) (packet : Sending) (access : Access) → (terms all).sent serial ≡ Some packet → packet.from ≡ 0 → access_in_bytes packet.bytes ≡ Some access → access.is_write ≡ true → (terms all).news serial ≤ 1) where
  -- ---- a status that is taken right behind the note that its packet was got
  module _ (s : ℕ) (q : List Moment) (b : AreStatuses q i) (known : IsKnown wild (said (notes.Got s) ∷ q) i) (later : List Moment) (is : later ++ said (notes.Got s) ∷ q ≡ all) (n k : ℕ) (status : StatusKind) where
    abbrev got : List Moment
    got = said (notes.Got s) ∷ q

    record IsTo : Type 0 where
      packet : Sending
      there : (terms q).sent s ≡ Some packet
      to : packet.to ≡ suc i

    sent_same : (terms got).sent ≡ (terms q).sent
    sent_same = (gets_same ((terms q).sent s) s (terms q)).sent

    to_by : (o : Option Sending) → (terms q).sent s ≡ o → receiver_in o ≡ Some (suc i) → IsTo
    to_by None e f = absurd (let z : None ≡ Some (suc i) = f in cc)
    to_by (Some packet) e f = record { packet = packet; there = e; to = same_Some packet.to (suc i) f }

    to_it : receiver_in ((terms got).sent s) ≡ Some (suc i) → IsTo
    to_it e = to_by ((terms q).sent s) refl (ap (λ (f : ℕ → Option Sending). receiver_in (f s)) (sym sent_same) ∙ e)

    module _ (to : IsTo) (waits : WaitsSo got i n k) (access : Access) (asks : access_in_bytes to.packet.bytes ≡ Some access) (so : Spells access (host_at got i) (start (windows.Orb (slot_at got i n k))) status) where
      abbrev slot : ℕ
      slot = slot_at got i n k

      abbrev block : StatusBlock
      block = record { src = so.src; kind = status; orb = start (windows.Orb slot) }

      stood : Stands (prepared_in got i) slot n k
      stood = standing wild got known.passes i n k (latest_of wild got known.passes i n waits.present) waits.appended waits.none

      fifo : (access.offset ≡ fifo_of (host_at got i)) ⊎ (is_place_fifo access.offset ≡ true) → IsFifo access.offset
      fifo (inl e) = of_login _ e
      fifo (inr e) = of_place e

      write : IsStatusWrite to.packet.bytes slot block
      write = record { access = access; is = asks; writes = so.is_write; goes = fifo so.goes; reads = so.spells; slot_is = slot_of_law.found slot stood.small }

      of_target : to.packet.from ≡ 0
      of_target = let p = spelled (reading to.packet.bytes) access asks in known.sources.0 to.packet p.packet access to.there to.to p.is p.asks (writes_no_rom p.packet access p.asks so.is_write)

      current : to.packet.generation ≡ (terms q).generation (suc i)
      current = got_by s q to.packet known.judged to.there ∙ ap (λ j. (terms q).generation j) to.to

      counted_here : SerialsCount (later ++ got)
      counted_here = subst SerialsCount (sym is) counted

      there_now : (terms all).sent s ≡ Some to.packet
      there_now =
          let c = serials_from later got counted_here in
          let e : (terms got).sent s ≡ Some to.packet = ap (λ (f : ℕ → Option Sending). f s) sent_same ∙ to.there in
          ap (λ ms. (terms ms).sent s) (sym is) ∙ ((remains later got counted_here).sent s (sent_below got s to.packet c e) ∙ e)

      fresh : (terms q).news s ≡ 0
      fresh =
          let most = once s to.packet access there_now of_target asks so.is_write in
          let more = got_more s later q all to.packet is to.there in
          omega (arith, most, more)

      waited : IsStatusOf q i s slot block
      waited = b.waiting s slot block to.packet (record { is = to.there; from_target = of_target; to_host = to.to }) write current fresh

      same_orb : orb waited.list waited.number ≡ orb n k
      same_orb = let e : Some (orb waited.list waited.number) ≡ Some (orb n k) = sym waited.has.there ∙ stood.last in cc

      same_list : waited.list ≡ n
      same_list = ap (λ (x : Orb). x.list) same_orb

      same_number : waited.number ≡ k
      same_number = ap (λ (x : Orb). x.number) same_orb

      taken_of : IsTakenSo got i n k status
      taken_of = record {
        ended = record { status = waited.ended.status; is = subst (λ a. ended_status q i a k ≡ Some waited.ended.status) same_list (subst (λ a. ended_status q i waited.list a ≡ Some waited.ended.status) same_number waited.ended.is); same = waited.ended.same };
        sent = subst (λ a. status_packet q i a k ≡ Some s) same_list (subst (λ a. status_packet q i waited.list a ≡ Some s) same_number waited.sent);
        judged = got_news s [] q got to.packet refl to.there;
        packet = to.packet;
        there = ap (λ (f : ℕ → Option Sending). f s) sent_same ∙ to.there;
        from_target = of_target;
        to_host = to.to;
        slot = slot;
        block = block;
        writes = write;
      }

    taken_here : receiver_in ((terms got).sent s) ≡ Some (suc i) → waits_in got i n k ≡ true → IsSomeAnd (access_at (terms got) s) (λ access. Spells access (host_at got i) (start (windows.Orb (slot_at got i n k))) status) → IsTakenSo got i n k status
    taken_here r waits written =
        let to = to_it r in
        let e : (terms got).sent s ≡ Some to.packet = ap (λ (f : ℕ → Option Sending). f s) sent_same ∙ to.there in
        let one = some_of (access_in_bytes to.packet.bytes) _ (subst (λ (o : Option Sending). IsSomeAnd (access_in (packet_in o)) (λ access. Spells access (host_at got i) (start (windows.Orb (slot_at got i n k))) status)) e written) in
        taken_of to (waits_so got i n k waits) one.one one.is one.so

  -- ---- a history, and the one before its last moment
  pub record Both (past : List Moment) : Type 0 where
    pub here : AreStatuses past i
    pub back : (m : Moment) (q : List Moment) → past ≡ m ∷ q → AreStatuses q i

  module _ (p : List Moment) (b : Both p) (known : IsKnown wild p i) (later : List Moment) (is : later ++ p ≡ all) (n k : ℕ) (status : StatusKind) where
    taken_by : (s : ℕ) (q : List Moment) → p ≡ said (notes.Got s) ∷ q → receiver_in ((terms p).sent s) ≡ Some (suc i) → waits_in p i n k ≡ true → IsSomeAnd (access_at (terms p) s) (λ access. Spells access (host_at p i) (start (windows.Orb (slot_at p i n k))) status) → IsTakenSo p i n k status
    taken_by s q is_p r waits written =
        subst (λ x. IsTakenSo x i n k status) (sym is_p)
        (taken_here s q (b.back (said (notes.Got s)) q is_p) (subst (λ x. IsKnown wild x i) is_p known) later (ap (λ x. later ++ x) (sym is_p) ∙ is) n k status
        (subst (λ x. receiver_in ((terms x).sent s) ≡ Some (suc i)) is_p r) (subst (λ x. waits_in x i n k ≡ true) is_p waits)
        (subst (λ x. IsSomeAnd (access_at (terms x) s) (λ access. Spells access (host_at x i) (start (windows.Orb (slot_at x i n k))) status)) is_p written))

    taken_so : IsTakenBy p i n k status → IsTakenSo p i n k status
    taken_so t = taken_by (last_got p) t.before t.behind t.to_it t.waits t.written

  at_moment : (x : Moment) (p : List Moment) → ((n k : ℕ) (status : StatusKind) → IsTakenBy p i n k status → IsTakenSo p i n k status) → TakenOf i x p → TakenSo i x p
  at_moment (said (notes.Taken j n k status answer)) p h t = λ e. h n k status (t e)
  at_moment (asked line event) p h t = tt
  at_moment (said note) p h t = tt

  -- ---- one more moment
  module _ (m : Moment) (past : List Moment) (b : Both past) (known : IsKnown wild (m ∷ past) i) (later : List Moment) (is : later ++ m ∷ past ≡ all) (so : SentSo i m past) where
    abbrev ms : List Moment
    ms = m ∷ past

    known_past : IsKnown wild past i
    known_past = known_less wild m past i known

    each : EachMoment (TakenSo i) ms
    each = (at_moment m past (λ n k status t. taken_so past b known_past (later ++ m ∷ []) (sym (moments_split later (m ∷ []) past) ∙ is) n k status t) known.takings.0, b.here.taken)

    sent_so : (serial slot : ℕ) (block : StatusBlock) (packet : Sending) → packet.from ≡ 0 → packet.to ≡ suc i → IsStatusWrite packet.bytes slot block → m ≡ said (notes.Sent serial packet.generation packet.from packet.to packet.bytes) → IsSentSo past i serial packet.generation packet.from packet.to packet.bytes slot block
    sent_so serial slot block packet of to write e = (subst (λ x. SentSo i x past) e so) of to slot block write

    grows : (terms past).generation (suc i) ≤ (terms ms).generation (suc i)
    grows = generation_grows (m ∷ []) past (suc i) known.rises

    seen_now : (serial slot : ℕ) (block : StatusBlock) (packet : Sending) → IsToHost ms i serial packet → IsStatusWrite packet.bytes slot block → Where m past serial packet → packet.generation ≤ (terms ms).generation (suc i)
    seen_now serial slot block packet t write (is_here e) = let x = (sent_so serial slot block packet t.from_target t.to_host write e).seen in let y = grows in omega (arith, x, y)
    seen_now serial slot block packet t write (is_before e) = old_seen wild i own past b.here (m ∷ []) known each serial slot block packet (record { is = e; from_target = t.from_target; to_host = t.to_host }) write

    waits_now : (serial slot : ℕ) (block : StatusBlock) (packet : Sending) → IsToHost ms i serial packet → IsStatusWrite packet.bytes slot block → packet.generation ≡ (terms ms).generation (suc i) → (terms ms).news serial ≡ 0 → Where m past serial packet → IsStatusOf ms i serial slot block
    waits_now serial slot block packet t write current fresh (is_here e) =
        let x = sent_so serial slot block packet t.from_target t.to_host write e in
        let low = x.seen in
        let y = grows in
        subst (λ z. IsStatusOf (z ∷ past) i serial slot block) (sym e) (x.of (omega (arith, low, y, current)))
    waits_now serial slot block packet t write current fresh (is_before e) =
        old_waits wild i own past b.here (m ∷ []) known each serial slot block packet (record { is = e; from_target = t.from_target; to_host = t.to_host }) write current fresh

    next_both : Both ms
    next_both = record {
      here = record {
        seen = λ serial slot block packet t write. seen_now serial slot block packet t write (sent_where m past known.serials serial packet t.is);
        waiting = λ serial slot block packet t write current fresh. waits_now serial slot block packet t write current fresh (sent_where m past known.serials serial packet t.is);
        taken = each;
      };
      back = λ x q e. subst (λ h. AreStatuses h i) (let z : m ∷ past ≡ x ∷ q = e in cc) b.here;
    }

  none_statuses : Both []
  none_statuses = record {
    here = record {
      seen = λ serial slot block packet t write. absurd (let z : None ≡ Some packet = t.is in cc);
      waiting = λ serial slot block packet t write current fresh. absurd (let z : None ≡ Some packet = t.is in cc);
      taken = tt;
    };
    back = λ x q e. absurd (let z : [] ≡ x ∷ q = e in cc);
  }

  both_of : (past : List Moment) → IsKnown wild past i → EachMoment (SentSo i) past → (later : List Moment) → later ++ past ≡ all → Both past
  both_of [] known so later is = none_statuses
  both_of (m ∷ past) known so later is =
      next_both m past (both_of past (known_less wild m past i known) so.1 (later ++ m ∷ []) (sym (moments_split later (m ∷ []) past) ∙ is)) known later is so.0

  pub statuses_of : IsKnown wild all i → EachMoment (SentSo i) all → AreStatuses all i
  statuses_of known each = (both_of all known each [] refl).here

-- ---- what it says
-- no status is taken of an ORB that has not ended
pub untaken_above : (wild : ℕ → Bool) (i : ℕ) → wild i ≡ false → (past : List Moment) → PassLaw wild past → AreStatuses past i → (n k : ℕ) → HasTaken past i n k → k < ends past i n
untaken_above wild i own past law s n k h = let j = taken_judged i past s.taken n k h in (below wild i own past law).packet n k j.serial j.sent
