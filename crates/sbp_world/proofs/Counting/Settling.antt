-- Where deliveries are bounded a `settle` settles: it stops as it has made as many deliveries as its budget has, and then nothing is in flight.
use Rattle.sbp_world.proofs.Words.Std.{arith, ◌≡◌, ◌∙◌, refl, sym, ap, subst, ℕ, zero, suc, ◌+◌, ◌<◌, ◌≤◌, Bool, true, false, cond, List, [], ◌∷◌, ◌++◌, map, reverse, reverse-append, nat_eq, nat_tests, Some, None}
use Rattle.std.proofs.lemmas.List.{reverse-reverse}
use Rattle.sbp_world.proofs.Words.Wire.{Event, Note, Moment, asked, said, terms}
use Rattle.rbc_disk.specs.Disk.{Disk}
use Rattle.sbp_journal.specs.Run.{Entry, history}
use Rattle.sbp_journal.specs.Wire.{Flight}
use Rattle.sbp_journal.specs.declared.event.Event.TheVariants as events
use Rattle.sbp_journal.specs.declared.note.Note.TheVariants as notes
use Rattle.sbp_laws.specs.Budget.{Lossless, budget, count_flying, flies, lowest_flying, most_deliveries, settle_deliveries}
use Rattle.sbp_laws.specs.Completion.{AllDeliver, BoundedDeliveries, EndsSettled, SettleSettles, SettlesAt, arrivals, in_the_air}
use Rattle.sbp_laws.specs.Deliveries.{EndsSettle, NoneFlies, Settles, deliveries, once_told}
use Rattle.sbp_laws.specs.LineLaw.{BringsLine, LineLaw}
use Rattle.sbp_world.proofs.Wire.Lowest.{counts_append}

-- ---- how many of some notes are deliveries

turned : (told : List Note) → arrivals (map said (reverse told)) ≡ deliveries told
turned told = by (reverse told) ∙ back told
  where
    by : (ns : List Note) → arrivals (map said ns) ≡ deliveries ns
    by [] = refl
    by (notes.Got serial ∷ ns) = ap suc (by ns)
    by (notes.Ignored serial cause ∷ ns) = ap suc (by ns)
    by (note ∷ ns) = by ns

    back : (ns : List Note) → deliveries (reverse ns) ≡ deliveries ns
    back [] = refl
    back (note ∷ ns) =
        let parts = counts_append (reverse ns) (note ∷ []) in
        let rest = back ns in
        let here = counts_append (note ∷ []) ns in
        let is = ap deliveries (reverse-append (note ∷ []) ns) in
        omega (arith, parts, rest, here, is)

-- ---- nothing is in flight where the count is none
none_at : (flight : ℕ → Flight) (serials : ℕ) → count_flying flight serials ≡ 0 → (serial : ℕ) → 0 < serial → serial ≤ serials → flies (flight serial) ≡ false
unfolding count_flying
none_at flight zero e serial some within = absurd (omega (arith, some, within))
none_at flight (suc serials) e serial some within = by (flies (flight (suc serials))) refl (λ rest low. none_at flight serials rest serial some low)
  where
    Rest : Type 0
    Rest = count_flying flight serials ≡ 0 → serial ≤ serials → flies (flight serial) ≡ false

    sum_is : (x : Bool) → flies (flight (suc serials)) ≡ x → cond x 1 0 + count_flying flight serials ≡ 0
    sum_is x f = ap (λ b. cond b 1 0 + count_flying flight serials) (sym f) ∙ e

    last_or : (x : Bool) → nat_eq serial (suc serials) ≡ x → flies (flight (suc serials)) ≡ false → count_flying flight serials ≡ 0 → Rest → flies (flight serial) ≡ false
    last_or true g f none rest = let same : serial ≡ suc serials = grind (arith, nat_tests) in ap (λ n. flies (flight n)) same ∙ f
    last_or false g f none rest = rest none (grind (arith, nat_tests))

    by : (x : Bool) → flies (flight (suc serials)) ≡ x → Rest → flies (flight serial) ≡ false
    by true f rest = absurd (let sum = sum_is true f in omega (arith, sum))
    by false f rest = last_or (nat_eq serial (suc serials)) refl f (let sum = sum_is false f in omega (arith, sum)) rest

lowest_none : (flight : ℕ → Flight) (serials serial : ℕ) → ((s : ℕ) → serial ≤ s → s < serial + serials → flies (flight s) ≡ false) → lowest_flying flight serials serial ≡ None
unfolding lowest_flying
lowest_none flight zero serial f = refl
lowest_none flight (suc serials) serial f =
    ap (λ b. cond b (Some serial) (lowest_flying flight serials (serial + 1))) (f serial (omega arith) (omega arith))
    ∙ lowest_none flight serials (serial + 1) (λ s low high. f s (omega (arith, low)) (omega (arith, high)))

rests : (past : List Moment) → in_the_air past ≡ 0 → NoneFlies past
rests past e =
    let t = terms past in
    lowest_none t.flight t.count 1 (λ s low high. none_at t.flight t.count e s (omega (arith, low)) (omega (arith, high)))

-- ---- a settle
deliver_all : (told : List Note) → AllDeliver (map said told)
deliver_all [] = tt
deliver_all (note ∷ told) = deliver_all told

module _ (line : ℕ) (told : List Note) (past : List Moment) (bounded : BoundedDeliveries (map said told ++ asked line events.Settle ∷ past)) where
  abbrev begun : List Moment
  begun = asked line events.Settle ∷ past

  settles_at : Settles begun (reverse told) → Lossless past → budget past ≤ most_deliveries → EndsSettled told
  settles_at s lossless small = subst EndsSettled (sym notes_are) (by s.last s.ends notes_are)
    where
      notes_are : told ≡ s.last ∷ reverse s.before
      notes_are = sym (reverse-reverse told) ∙ ap reverse s.is ∙ reverse-append s.before (s.last ∷ [])

      by : (last : Note) → EndsSettle begun (settle_deliveries begun) s.before last → told ≡ last ∷ reverse s.before → EndsSettled (last ∷ reverse s.before)
      by notes.Settled ends is = tt
      by notes.Stopped ends is =
          let made : arrivals (map said told) ≡ deliveries s.before = ap (λ ns. arrivals (map said ns)) is ∙ turned s.before in
          let most = ends.0 in
          let all = bounded (map said told) past line events.Settle refl tt (deliver_all told) lossless in
          let air : in_the_air (map said told ++ begun) ≡ 0 = omega (arith, made, most, all, small) in
          absurd (ends.1 (rests (once_told begun s.before) (ap in_the_air (ap (λ ns. map said ns ++ begun) (sym is)) ∙ air)))
      by note ends is = absurd ends

-- ---- every settle of a run
abbrev pub AllBounded : List Entry → Type 0
AllBounded [] = Unit {0}
AllBounded (e ∷ before) = BoundedDeliveries (map said e.notes ++ asked e.line e.event ∷ history before) × AllBounded before

pub settle_settles : (disks : List Disk) (entries : List Entry) → LineLaw disks entries → AllBounded entries → SettleSettles entries
settle_settles disks [] lines bounded = tt
settle_settles disks (e ∷ before) lines bounded = (by e.event lines.0 bounded.0, settle_settles disks before lines.1 bounded.1)
  where
    by : (event : Event) → BringsLine disks (history before) e.line event (reverse e.notes) → BoundedDeliveries (map said e.notes ++ asked e.line event ∷ history before) → SettlesAt event e.notes (history before)
    by events.Settle l b = settles_at e.line e.notes (history before) b l
    by event l b = tt
