-- The fields of a shelf fit each other after each change of its packets.
use Rattle.std.proofs.Common.{◌≡◌, ◌∙◌, refl, sym, subst, ap, ℕ, ◌+◌, ◌-◌, ◌<◌, ◌≤◌, Bool, true, false, List, [], ◌∷◌, ◌++◌, length, None, Some, cond, arith, length-append}
use Rattle.std.specs.Prelude.{◌==◌, nat_lt, Option}
use Rattle.std.proofs.lemmas.Bool.Decides.{nat_tests}
use Rattle.packet_store.specs.declared.sent.Kept.{Kept}
use Rattle.packet_store.specs.declared.packets.Packets.{Packets}
use Rattle.packet_store.specs.declared.aloft.Flights.{Flights}
use Rattle.packet_store.specs.Kept.{without, with_delivered, flying, in_air, AreBelow, marked}
use Rattle.packet_store.specs.Flights.{AreFlights, Landed, Least, NoneAbove, lowest_with}
use Rattle.packet_store.specs.Packets.{holds}
use Rattle.packet_store.specs.Shelves.{listed, IsShelf}
use Rattle.packet_store.proofs.Airborne.{landed_count, put_count, put_least, least_same, still_count, still_least}
use Rattle.packet_store.proofs.Listed.{Puts, none_behind, listed_same, listed_pushed, named_put, first_put, ends_put, listed_without, named_less, none_less, listed_less, listed_few, listed_delivered, named_delivered, none_delivered, delivered_length}

-- ---- the same under each serial
pub same_shelf : (packets after : Packets) (last count : ℕ) → IsShelf packets last count → ((q : ℕ) → holds after q ≡ holds packets q) → IsShelf after last count
same_shelf packets after last count i e = record {
  named = λ q k h. i.named q k (sym (e q) ∙ h);
  first = e 0 ∙ i.first;
  ends = λ q l. e q ∙ i.ends q l;
  counted = i.counted ∙ ap length (sym (listed_same (holds packets) (holds after) last (λ q l. e q)));
}

pub same_list : (packets after : Packets) (last : ℕ) → ((q : ℕ) → holds after q ≡ holds packets q) → listed (holds after) last ≡ listed (holds packets) last
same_list packets after last e = listed_same (holds packets) (holds after) last (λ q l. e q)

-- ---- a packet more
pub pushed_list : (packets after : Packets) (k : Kept) (last count : ℕ) → IsShelf packets last count → ((q : ℕ) → holds after q ≡ cond (k.serial == q) (Some k) (holds packets q)) → 0 < k.serial → AreBelow k.serial (listed (holds packets) last) → listed (holds after) k.serial ≡ listed (holds packets) last ++ k ∷ []
pushed_list packets after k last count i e l b = listed_pushed (holds packets) (holds after) k last (record { put = e }) l i.named i.first i.ends b

pub pushed_count : (packets after : Packets) (k : Kept) (last count : ℕ) → IsShelf packets last count → ((q : ℕ) → holds after q ≡ cond (k.serial == q) (Some k) (holds packets q)) → 0 < k.serial → AreBelow k.serial (listed (holds packets) last) → count + 1 ≡ length (listed (holds after) k.serial)
pushed_count packets after k last count i e l b =
    let a : length (listed (holds packets) last ++ k ∷ []) ≡ length (listed (holds packets) last) + 1 = length-append (listed (holds packets) last) (k ∷ []) in
    ap (λ n. n + 1) i.counted ∙ sym a ∙ ap length (sym (pushed_list packets after k last count i e l b))

-- there is room to count one more
pub pushed_few : (packets after : Packets) (k : Kept) (last count : ℕ) → IsShelf packets last count → ((q : ℕ) → holds after q ≡ cond (k.serial == q) (Some k) (holds packets q)) → 0 < k.serial → AreBelow k.serial (listed (holds packets) last) → count + 1 ≤ k.serial
pushed_few packets after k last count i e l b =
    let few = listed_few (holds after) k.serial in
    let eq = pushed_count packets after k last count i e l b in
    omega (arith, few, eq)

pub pushed_shelf : (packets after : Packets) (k : Kept) (last count : ℕ) → IsShelf packets last count → ((q : ℕ) → holds after q ≡ cond (k.serial == q) (Some k) (holds packets q)) → 0 < k.serial → AreBelow k.serial (listed (holds packets) last) → IsShelf after k.serial (count + 1)
pushed_shelf packets after k last count i e l b =
    let puts : Puts (holds packets) (holds after) k = record { put = e } in
    record {
      named = named_put (holds packets) (holds after) k puts i.named;
      first = first_put (holds packets) (holds after) k puts l i.first;
      ends = ends_put (holds packets) (holds after) k last puts i.named i.first i.ends b;
      counted = pushed_count packets after k last count i e l b;
    }

-- ---- a packet less
pub removed_list : (packets after : Packets) (s last count : ℕ) → IsShelf packets last count → ((q : ℕ) → holds after q ≡ cond (s == q) None (holds packets q)) → listed (holds after) last ≡ without s (listed (holds packets) last)
removed_list packets after s last count i e = listed_without (holds packets) (holds after) s last i.named e

inside_by : (packets : Packets) (s last count : ℕ) (k : Kept) (b : Bool) → nat_lt last s ≡ b → IsShelf packets last count → holds packets s ≡ Some k → s ≤ last
inside_by packets s last count k true e i h =
    let l : last < s = grind (arith, nat_tests) in
    let x : None ≡ Some k = sym (i.ends s l) ∙ h in
    cc x
inside_by packets s last count k false e i h = grind (arith, nat_tests)

pub removed_count : (packets after : Packets) (s last count : ℕ) (k : Kept) → IsShelf packets last count → ((q : ℕ) → holds after q ≡ cond (s == q) None (holds packets q)) → holds packets s ≡ Some k → length (listed (holds after) last) + 1 ≡ count
removed_count packets after s last count k i e h =
    listed_less (holds packets) (holds after) s last k i.first e h (inside_by packets s last count k (nat_lt last s) refl i h) ∙ sym i.counted

pub removed_shelf : (packets after : Packets) (s last count : ℕ) (k : Kept) → IsShelf packets last count → ((q : ℕ) → holds after q ≡ cond (s == q) None (holds packets q)) → holds packets s ≡ Some k → IsShelf after last (count - 1)
removed_shelf packets after s last count k i e h =
    let n = removed_count packets after s last count k i e h in
    record {
      named = named_less (holds packets) (holds after) s i.named e;
      first = none_less (holds packets) (holds after) s 0 e i.first;
      ends = λ q l. none_less (holds packets) (holds after) s q e (i.ends q l);
      counted = omega (arith, n);
    }

-- ---- a packet delivered
pub delivered_list : (packets after : Packets) (s last count : ℕ) → IsShelf packets last count → ((q : ℕ) → holds after q ≡ cond (s == q) (marked (holds packets q)) (holds packets q)) → listed (holds after) last ≡ with_delivered s (listed (holds packets) last)
delivered_list packets after s last count i e = listed_delivered (holds packets) (holds after) s last i.named e

pub delivered_shelf : (packets after : Packets) (s last count : ℕ) → IsShelf packets last count → ((q : ℕ) → holds after q ≡ cond (s == q) (marked (holds packets q)) (holds packets q)) → IsShelf after last count
delivered_shelf packets after s last count i e = record {
  named = named_delivered (holds packets) (holds after) s i.named e;
  first = none_delivered (holds packets) (holds after) s 0 e i.first;
  ends = λ q l. none_delivered (holds packets) (holds after) s q e (i.ends q l);
  counted = i.counted ∙ sym (delivered_length s (listed (holds packets) last)) ∙ ap length (sym (delivered_list packets after s last count i e));
}

-- ---- what is in flight
pub none_above : (packets : Packets) (last count : ℕ) → IsShelf packets last count → NoneAbove last (holds packets)
none_above packets last count i = λ q l. ap in_air (i.ends q l)

-- where a serial is in flight, what is in flight is some
flying_inside : (packets : Packets) (s last count : ℕ) (o : Option Kept) → holds packets s ≡ o → IsShelf packets last count → in_air o ≡ true → s ≤ last
flying_inside packets s last count None h i a = cc a
flying_inside packets s last count (Some k) h i a = inside_by packets s last count k (nat_lt last s) refl i h

-- a serial that was in flight landed
pub landed_count_is : (packets after : Packets) (s last count : ℕ) (flights : Flights) → IsShelf packets last count → AreFlights packets last flights → Landed s (holds packets) (holds after) → in_air (holds packets s) ≡ true → length (flying (listed (holds after) last)) + 1 ≡ flights.count
landed_count_is packets after s last count flights i fl l a =
    landed_count s last (holds packets) (holds after) l i.first a (flying_inside packets s last count (holds packets s) refl i a) ∙ sym fl.counted

pub landed_flights : (packets after : Packets) (s last count : ℕ) (flights fewer : Flights) → IsShelf packets last count → AreFlights packets last flights → Landed s (holds packets) (holds after) → in_air (holds packets s) ≡ true → fewer.count + 1 ≡ flights.count → Least (holds after) fewer.lowest → AreFlights after last fewer
landed_flights packets after s last count flights fewer i fl l a e h =
    let n = landed_count_is packets after s last count flights i fl l a in
    record { lowest = h; counted = omega (arith, n, e) }

-- a serial that was not in flight changed
pub still_flights : (packets after : Packets) (s last : ℕ) (flights : Flights) → AreFlights packets last flights → Landed s (holds packets) (holds after) → in_air (holds packets s) ≡ false → AreFlights after last flights
still_flights packets after s last flights fl l a = record {
  lowest = still_least s flights.lowest (holds packets) (holds after) l a fl.lowest;
  counted = fl.counted ∙ sym (still_count s last (holds packets) (holds after) l a);
}

pub same_flights : (packets after : Packets) (last : ℕ) (flights : Flights) → AreFlights packets last flights → ((q : ℕ) → holds after q ≡ holds packets q) → AreFlights after last flights
same_flights packets after last flights fl e = record {
  lowest = least_same (holds packets) (holds after) flights.lowest e fl.lowest;
  counted = fl.counted ∙ ap (λ xs. length (flying xs)) (sym (same_list packets after last e));
}

-- a packet more is in flight
pub pushed_flights : (packets after : Packets) (k : Kept) (last count : ℕ) (flights more : Flights) → IsShelf packets last count → AreFlights packets last flights → ((q : ℕ) → holds after q ≡ cond (k.serial == q) (Some k) (holds packets q)) → 0 < k.serial → AreBelow k.serial (listed (holds packets) last) → k.in_flight ≡ true → more.lowest ≡ lowest_with k.serial flights.lowest → more.count ≡ flights.count + 1 → AreFlights after k.serial more
pushed_flights packets after k last count flights more i fl e l b t lo co = record {
  lowest = subst (Least (holds after)) (sym lo) (put_least k flights.lowest (holds packets) (holds after) e t (λ q u. none_behind (holds packets) k last q i.named i.first i.ends b u) fl.lowest);
  counted = co ∙ ap (λ n. n + 1) fl.counted ∙ sym (put_count k (listed (holds packets) last) t) ∙ ap (λ xs. length (flying xs)) (sym (pushed_list packets after k last count i e l b));
}

fewer_step : (k : Kept) (ks : List Kept) (b : Bool) → length (flying ks) ≤ length ks → length (cond b (k.serial ∷ flying ks) (flying ks)) ≤ length (k ∷ ks)
fewer_step k ks true n = omega (arith, n)
fewer_step k ks false n = omega (arith, n)

fewer_flights : (ks : List Kept) → length (flying ks) ≤ length ks
fewer_flights [] = omega arith
fewer_flights (k ∷ ks) = let n = fewer_flights ks in fewer_step k ks k.in_flight n

pub few_flights : (packets : Packets) (last count : ℕ) (flights : Flights) → IsShelf packets last count → AreFlights packets last flights → flights.count ≤ count
few_flights packets last count flights i fl =
    let n = fewer_flights (listed (holds packets) last) in
    omega (arith, n, i.counted, fl.counted)
