-- The packets of the target that leave behind an end: of those to an initiator, one that writes a status block is the packet of the ORB that ended.
use Rattle.sbp_world.proofs.Words.Std.{arith, ◌≡◌, ◌∙◌, refl, sym, ap, subst, ◌≤◌, ◌==◌, ◌&&◌, ◌+◌, ℕ, suc, Bool, true, false, cond, List, [], ◌∷◌, Option, Some, None, false≢true}
use Rattle.sbp_world.proofs.Words.Wire.{LabelParts, GenerationsState, node_of, topology_at, Access, Moment, said, terms, Outgoing}
use Rattle.sbp_world.proofs.Words.Target.{Machine}
use Rattle.sbp_world.proofs.Words.Initiator.{is_fifo, slot_of, StatusBlock}
use Rattle.sbp_world.proofs.Words.Laws.{orb, is_write_in, access_in_bytes, EndedOrb, first_of, is_due, status_due, status_packet, EachMoment}
use Rattle.sbp_world.proofs.Words.World.{is_place_fifo, under_way, posted, sent, sent_all, sent_to, WorldState, HasSlot, IsEndedAs, IsSentSo, IsStatusWrite, SentSo}
use Rattle.sbp_journal.specs.declared.note.Note.TheVariants as notes
use Rattle.sbp_world.proofs.Agents.Management.Still.{hist}
use Rattle.sbp_world.proofs.Lists.Generations.{not_lower}
use Rattle.sbp_world.proofs.Lists.StatusMoments.{HasTaken}
use Rattle.sbp_world.proofs.Lists.StatusPackets.{AllPlain, EndSide, IsOfEnd, IsPlain, OfEnd, Spelled, read_plain, sends_none, sends_read, sends_write}
use Rattle.sbp_world.proofs.Lists.StatusReads.{IsRead}
use Rattle.sbp_world.proofs.Lists.StatusSlots.{slot_on}
use Rattle.sbp_world.proofs.Common.{itself}

abbrev next : List Moment → (s g to : ℕ) → List ℕ → List Moment
next ms s g to bytes = said (notes.Sent s g 0 to bytes) ∷ ms

four : (a b c d : Bool) → a ≡ true → b ≡ true → c ≡ true → d ≡ true → (a && b && c && d) ≡ true
four true true true true e f g h = refl
four false b c d e f g h = absurd (false≢true e)
four true false c d e f g h = absurd (false≢true f)
four true true false d e f g h = absurd (false≢true g)
four true true true false e f g h = absurd (false≢true h)

not_written : (x y : Bool) (found : Option ℕ) (s : ℕ) → y ≡ false → found ≡ None → cond (x && y) (first_of found s) found ≡ None
not_written true true found s e f = absurd (false≢true (sym e))
not_written true false found s e f = f
not_written false y found s e f = f

-- a status block goes to a FIFO, and to none of a place of management
abbrev pub IsOut : Type 0 → Outgoing → Type 0
IsOut Ours packet = Ours → (slot : ℕ) (block : StatusBlock) → IsStatusWrite packet.bytes slot block → (access : Access) → access_in_bytes packet.bytes ≡ Some access → (is_place_fifo access.offset ≡ false) × (is_fifo access.offset ≡ true)

abbrev pub AllOut : Type 0 → List Outgoing → Type 0
AllOut Ours [] = Unit {0}
AllOut Ours (packet ∷ later) = IsOut Ours packet × AllOut Ours later

module _ (i n k gen q peer : ℕ) (Ours Mine Told : Type 0) (told : Option EndSide) (m : Machine) (tells : Mine → (block : StatusBlock) → IsOfEnd q told m block → Told) where
  abbrev due_one : EndedOrb
  due_one = record { initiator = i; one = orb n k }

  abbrev pub Sends : List Moment → Type 0
  Sends ms = EachMoment (SentSo i) ms

  -- the status of the end that was told fits its ORB
  pub record Fits (ms : List Moment) (slot : ℕ) (block : StatusBlock) : Type 0 where
    pub ended : IsEndedAs ms i n k block.kind
    pub has : gen ≡ (terms ms).generation (suc i) → HasSlot ms i slot (orb n k)
    pub untaken : HasTaken ms i n k → ⊥
    pub seen : gen ≤ (terms ms).generation (suc i)

  -- and none has left
  pub record Free (ms : List Moment) : Type 0 where
    pub due : Told → status_due ms ≡ Some due_one
    pub none : Told → status_packet ms i n k ≡ None
    pub fits : Mine → (slot : ℕ) (block : StatusBlock) → IsOfEnd q told m block → slot_of block.orb ≡ Some slot → Fits ms slot block
    pub sends : Sends ms

  -- ---- one more packet
  plain_on : (ms : List Moment) (s g to : ℕ) (out : Outgoing) → IsPlain out → Sends ms → Sends (next ms s g to out.bytes)
  plain_on ms s g to out p h = (λ of there slot block w. absurd (p slot block w), h)

  fits_on : (ms : List Moment) (s g to : ℕ) (bytes : List ℕ) (slot : ℕ) (block : StatusBlock) → Fits ms slot block → Fits (next ms s g to bytes) slot block
  fits_on ms s g to bytes slot block f =
      let more = not_lower (suc i) (said (notes.Sent s g 0 to bytes)) ms tt in
      let low = f.seen in
      let none : HasTaken (next ms s g to bytes) i n k → ⊥ = λ t. f.untaken (record { taken = t.taken; is = t.is }) in
      record {
        ended = record { status = f.ended.status; is = f.ended.is; same = f.ended.same };
        has = λ e. slot_on (said (notes.Sent s g 0 to bytes)) ms i slot (orb n k) tt none (f.has (omega (arith, more, low, e)));
        untaken = none;
        seen = omega (arith, more, low);
      }

  read_on : (ms : List Moment) (s g to : ℕ) (out : Outgoing) → IsRead out.bytes → Free ms → Free (next ms s g to out.bytes)
  read_on ms s g to out r f = record {
    due = f.due;
    none = λ t. not_written (is_due (status_due ms) i n k to) (is_write_in (access_in_bytes out.bytes)) (status_packet ms i n k) s r (f.none t);
    fits = λ mine slot block of at. fits_on ms s g to out.bytes slot block (f.fits mine slot block of at);
    sends = plain_on ms s g to out (read_plain out r) f.sends;
  }

  due_now : (ms : List Moment) (to : ℕ) → status_due ms ≡ Some due_one → to ≡ suc i → is_due (status_due ms) i n k to ≡ true
  due_now ms to e f =
      ap (λ (d : Option EndedOrb). is_due d i n k to) e
      ∙ four (i == i) (n == n) (k == k) (to == suc i) (itself i) (itself n) (itself k) (ap (λ t. t == suc i) f ∙ itself (suc i))

  write_on : (ms : List Moment) (s g to : ℕ) (out : Outgoing) → g ≡ gen → OfEnd q peer Ours told m out → IsOut (Ours × Mine) out → (to ≡ suc i → out.to ≡ peer → Ours × Mine) → Free ms → Sends (next ms s g to out.bytes)
  write_on ms s g to out at o free ours f = (written, f.sends)
    where
      written : ◌≡◌ {A = ℕ} 0 0 → to ≡ suc i → (slot : ℕ) (block : StatusBlock) → IsStatusWrite out.bytes slot block → IsSentSo ms i s g 0 to out.bytes slot block
      written of here slot block w =
          let e = o slot block w in
          let known = ours here e.to_is in
          let end = e.of known.0 in
          let t = tells known.1 block end in
          let fit = f.fits known.1 slot block end w.slot_is in
          let low = fit.seen in
          let is_written : is_write_in (access_in_bytes out.bytes) ≡ true = ap is_write_in w.is ∙ w.writes in
          let both : (is_due (status_due ms) i n k to && is_write_in (access_in_bytes out.bytes)) ≡ true = ap (λ x. x && is_write_in (access_in_bytes out.bytes)) (due_now ms to (f.due t) here) ∙ is_written in
          let then = fits_on ms s g to out.bytes slot block fit in
          record {
            seen = omega (arith, low, at);
            login = λ access e. (free known slot block w access e).0;
            fifo = λ access e. (free known slot block w access e).1;
            of = λ same. record {
              list = n;
              number = k;
              sent = ap (λ x. cond x (first_of (status_packet ms i n k) s) (status_packet ms i n k)) both ∙ ap (λ (p : Option ℕ). first_of p s) (f.none t);
              ended = then.ended;
              has = slot_on (said (notes.Sent s g 0 to out.bytes)) ms i slot (orb n k) tt then.untaken (fit.has (sym at ∙ same));
            };
          }

  -- ---- packets of the target in a world
  module _ (past : List Moment) where
    asked_same : (serial to node peer : ℕ) (label : Option LabelParts) (w : WorldState) → hist past (under_way serial to node peer label w) ≡ hist past w
    asked_same serial to node peer None w = refl
    asked_same serial to node peer (Some label) w = refl

    asked_generations : (serial to node peer : ℕ) (label : Option LabelParts) (w : WorldState) → (under_way serial to node peer label w).generations ≡ w.generations
    asked_generations serial to node peer None w = refl
    asked_generations serial to node peer (Some label) w = refl

    posted_is : (to : ℕ) (bytes : List ℕ) (w : WorldState) → hist past (posted 0 to false bytes w) ≡ next (hist past w) (w.store.last + 1) (topology_at w.generations 0).generation to bytes
    unfolding posted
    posted_is to bytes w = refl

    posted_generations : (to : ℕ) (bytes : List ℕ) (w : WorldState) → (posted 0 to false bytes w).generations ≡ w.generations
    unfolding posted
    posted_generations to bytes w = refl

    -- each that leaves
    one_on : (R : List Moment → Type 0) (to : Option ℕ) (out : Outgoing) (w : WorldState) → R (hist past w) → ((s t : ℕ) → to ≡ Some t → R (next (hist past w) s (topology_at w.generations 0).generation t out.bytes)) → R (hist past (sent_to to 0 out w))
    one_on R None out w r h = r
    one_on R (Some t) out w r h =
        subst R (sym (asked_same (w.store.last + 1) t 0 out.to out.label (posted 0 t false out.bytes w) ∙ posted_is t out.bytes w)) (h (w.store.last + 1) t refl)

    pub sent_on : (R : List Moment → Type 0) (out : Outgoing) (w : WorldState) → R (hist past w) → ((s t : ℕ) → node_of w.generations 0 out.to ≡ Some t → R (next (hist past w) s (topology_at w.generations 0).generation t out.bytes)) → R (hist past (sent 0 out w))
    unfolding sent
    sent_on R out w r h = one_on R (node_of w.generations 0 out.to) out w r h

    to_generations : (to : Option ℕ) (out : Outgoing) (w : WorldState) → (sent_to to 0 out w).generations ≡ w.generations
    to_generations None out w = refl
    to_generations (Some t) out w = asked_generations (w.store.last + 1) t 0 out.to out.label (posted 0 t false out.bytes w) ∙ posted_generations t out.bytes w

    pub sent_generations : (out : Outgoing) (w : WorldState) → (sent 0 out w).generations ≡ w.generations
    unfolding sent
    sent_generations out w = to_generations (node_of w.generations 0 out.to) out w

    pub plain_sends : (packets : List Outgoing) (w : WorldState) → AllPlain packets → Sends (hist past w) → Sends (hist past (sent_all 0 packets w))
    unfolding sent_all
    plain_sends [] w p h = h
    plain_sends (out ∷ later) w p h =
        plain_sends later (sent 0 out w) p.1 (sent_on Sends out w h (λ s t e. plain_on (hist past w) s (topology_at w.generations 0).generation t out p.0 h))

    pub all_send : (packets : List Outgoing) (w : WorldState) → Spelled q peer Ours told m packets → AllOut (Ours × Mine) packets → (topology_at w.generations 0).generation ≡ gen → (node_of w.generations 0 peer ≡ Some (suc i) → Ours × Mine) → Free (hist past w) → Sends (hist past (sent_all 0 packets w))
    unfolding sent_all
    all_send _ w sends_none x at ours f = f.sends
    all_send _ w (sends_read out later r s) x at ours f =
        let same = sent_generations out w in
        all_send later (sent 0 out w) s x.1 (ap (λ (g : GenerationsState). (topology_at g 0).generation) same ∙ at) (λ e. ours (ap (λ (g : GenerationsState). node_of g 0 peer) (sym same) ∙ e))
        (sent_on Free out w f (λ s t e. read_on (hist past w) s (topology_at w.generations 0).generation t out r f))
    all_send _ w (sends_write out later o p) away at ours f =
        plain_sends later (sent 0 out w) p
        (sent_on Sends out w f.sends (λ s t e. write_on (hist past w) s (topology_at w.generations 0).generation t out at o away.0 (λ here is. ours (ap (λ a. node_of w.generations 0 a) (sym is) ∙ (e ∙ ap (λ x. Some x) here))) f))
