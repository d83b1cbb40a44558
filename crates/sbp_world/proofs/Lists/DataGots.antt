-- A write into a data buffer that an initiator gets is the latest one of the data of the ORB that the slot has: it was not judged before, and is of the generation that the initiator is in.
use Rattle.sbp_world.proofs.Words.Std.{arith, ◌≡◌, ◌∙◌, refl, sym, ap, subst, ◌<◌, ◌≤◌, ◌&&◌, not, ℕ, suc, nat_lt, Bool, true, false, List, [], ◌∷◌, ◌++◌, Some, nat_tests}
use Rattle.sbp_world.proofs.Words.Wire.{reading, Moment, said, Sending, terms}
use Rattle.sbp_world.proofs.Words.Target.{Disk}
use Rattle.sbp_world.proofs.Words.Laws.{is_fair, is_fair_write, is_wild, is_write_in, access_at, access_in, packet_in, EachMoment}
use Rattle.sbp_world.proofs.Words.World.{IsOfTarget, GotSo, IsLatestData, AreServed, IsDataOf, WasClosed, IsDataWrite}
use Rattle.sbp_journal.specs.declared.note.Note.TheVariants as notes
use Rattle.sbp_world.proofs.Lists.DataClosed.{IsSound, are_served, sound_from}
use Rattle.sbp_world.proofs.Lists.DataSequences.{in_sequence}
use Rattle.sbp_world.proofs.Lists.DataServed.{IsOwned, gen_low, into_turn, mid, owner, seen_low, turn, whole}
use Rattle.sbp_world.proofs.Lists.OpenNews.{all_grow}
use Rattle.sbp_world.proofs.Lists.Rises.{Rises}
use Rattle.sbp_world.proofs.Lists.StatusKnown.{IsKnown, each_from, got_by, known_less, spelled, writes_no_rom}
use Rattle.sbp_world.proofs.Common.{moments_split}

pub both_true : (a b : Bool) → a ≡ true → b ≡ true → (a && b) ≡ true
both_true true true e f = refl
both_true true false e f = f
both_true false b e f = e

both_not : (a b : Bool) → a ≡ false → b ≡ false → (not a && not b) ≡ true
both_not false false e f = refl
both_not false true e f = absurd (let z : true ≡ false = f in cc)
both_not true b e f = absurd (let z : true ≡ false = e in cc)

module _ (start : List Disk) (wild : ℕ → Bool) (i : ℕ) (own : wild i ≡ false) where
  module _ (past : List Moment) (serial : ℕ) (known : IsKnown wild (said (notes.Got serial) ∷ past) i) (sound : IsSound start wild i own (said (notes.Got serial) ∷ past)) (packet : Sending) (sent : (terms past).sent serial ≡ Some packet) (to : packet.to ≡ suc i) (slot : ℕ) (x : IsDataWrite packet.bytes slot) where
    here : IsSound start wild i own past
    here = sound_from start wild i own (said (notes.Got serial) ∷ []) past sound

    served : AreServed start past i
    served = are_served start wild i own past here

    from : packet.from ≡ 0
    from =
        let p = spelled (reading packet.bytes) x.access x.is in
        let of : IsOfTarget past i serial = known.sources.0 in
        of packet p.packet x.access sent to p.is p.asks (writes_no_rom p.packet x.access p.asks x.writes)

    pub current : packet.generation ≡ (terms past).generation (suc i)
    current = got_by serial past packet known.judged sent ∙ ap (λ y. (terms past).generation y) to

    fair : is_fair_write wild (terms past) serial ≡ true
    fair =
        both_true (is_fair wild ((terms past).sent serial)) (is_write_in (access_at (terms past) serial))
        (ap (λ so. is_fair wild so) sent ∙ both_not packet.injected (is_wild wild packet.from) (here.honest serial packet sent from) (ap (λ y. is_wild wild y) from))
        (ap (λ so. is_write_in (access_in (packet_in so))) sent ∙ (ap (λ o. is_write_in o) x.is ∙ x.writes))

    pub fresh : (terms past).news serial ≡ 0
    fresh = sound.once.0.0 fair

    owned : IsOwned start i past serial slot packet
    owned = owner start i past here.each serial slot packet (record { is = sent; from_target = from; to_host = to }) x

    not_closed : WasClosed past serial → ⊥
    not_closed w =
        let front = w.later ++ said (notes.Got w.got) ∷ [] in
        let at : front ++ w.before ≡ past = sym (moments_split w.later (said (notes.Got w.got) ∷ []) w.before) ∙ w.is in
        let more = all_grow serial front w.before in
        let same : (terms (front ++ w.before)).news serial ≡ (terms past).news serial = ap (λ h. (terms h).news serial) at in
        let one = w.served.once in
        let none = fresh in
        omega (arith, more, same, one, none)

    level : (other place : ℕ) (one : Sending) → IsDataOf start past i owned.list owned.number other one place → serial < other → one.generation ≡ (terms past).generation (suc i)
    level other place one d less =
        let early = into_turn i past owned.list owned.number other place one d here.serials owned.list owned.number serial slot packet owned.of less in
        let T = turn i past owned.list owned.number other place one d in
        let front = mid i past owned.list owned.number other place one d in
        let all = whole i past owned.list owned.number other place one d in
        let rises = each_from _ front T (subst Rises (sym all) here.rises) in
        let low = gen_low i T owned.list owned.number serial slot packet early rises in
        let of = d.was.own in
        let high = seen_low i past owned.list owned.number other place one d here.rises in
        let now = current in
        omega (arith, low, of, high, now)

    no_later : (other place : ℕ) (one : Sending) → IsDataOf start past i owned.list owned.number other one place → other ≤ serial
    no_later other place one d = by (nat_lt serial other) refl
      where
        by : (b : Bool) → nat_lt serial other ≡ b → other ≤ serial
        by true e =
            let less : serial < other = grind (arith, nat_tests) in
            absurd (not_closed (served.earlier owned.list owned.number serial other slot place packet one owned.of d less (level other place one d less)))
        by false e = grind (arith, nat_tests)

    pub got_so : IsLatestData start past i serial slot packet
    got_so = record {
      list = owned.list;
      number = owned.number;
      of = owned.of;
      has = served.held owned.list owned.number serial slot packet owned.of current fresh;
      reached = (in_sequence start wild i own past here).each owned.list owned.number serial slot packet owned.of current;
      latest = no_later;
      earlier = λ other place one d less. served.earlier owned.list owned.number other serial place slot one packet d owned.of less current;
    }

  pub gots_so : (ms : List Moment) → IsKnown wild ms i → IsSound start wild i own ms → EachMoment (GotSo start i) ms
  gots_so [] known sound = tt
  gots_so (said (notes.Got serial) ∷ past) known sound =
      ((λ packet sent to slot x. got_so past serial known sound packet sent to slot x), gots_so past (known_less wild (said (notes.Got serial)) past i known) (sound_from start wild i own (said (notes.Got serial) ∷ []) past sound))
  gots_so (m ∷ past) known sound = (tt, gots_so past (known_less wild m past i known) (sound_from start wild i own (m ∷ []) past sound))
