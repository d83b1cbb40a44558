-- Completion by a count: how soon a run comes to rest. From a line on before which the run is lossless, over lines that deliver alone, in any order, the deliveries and the
-- packets that are in flight still are no more together than the budget before that line. So a `settle` there ends with nothing in flight, where a line may deliver so many.
use Rattle.std.specs.Prelude.{◌≡◌, ◌≤◌, ℕ, suc, ◌+◌, List, [], ◌∷◌, ◌++◌}
use Rattle.sbp_journal.specs.Run.{Entry, Moment, asked, history, said}
use Rattle.sbp_journal.specs.Wire.{terms}
use Rattle.sbp_journal.specs.declared.event.Event.{Event}
use Rattle.sbp_journal.specs.declared.event.Event.TheVariants as events
use Rattle.sbp_journal.specs.declared.note.Note.{Note}
use Rattle.sbp_journal.specs.declared.note.Note.TheVariants as notes
use Rattle.sbp_laws.specs.Budget.{Lossless, budget, count_flying, most_deliveries}

-- the packets that arrived: each delivery is judged once
abbrev pub arrivals : List Moment → ℕ
arrivals [] = 0
arrivals (said (notes.Got serial) ∷ past) = suc (arrivals past)
arrivals (said (notes.Ignored serial cause) ∷ past) = suc (arrivals past)
arrivals (_ ∷ past) = arrivals past

-- a line that delivers packets in flight, and does nothing else
abbrev pub IsDelivering : Event → Type 0
IsDelivering (events.Deliver serial) = Unit {0}
IsDelivering (events.Step count) = Unit {0}
IsDelivering events.Settle = Unit {0}
IsDelivering _ = ⊥

-- all lines among these moments do so
abbrev pub AllDeliver : List Moment → Type 0
AllDeliver [] = Unit {0}
AllDeliver (asked line event ∷ past) = IsDelivering event × AllDeliver past
AllDeliver (said note ∷ past) = AllDeliver past

-- how many packets are in flight
abbrev pub in_the_air : List Moment → ℕ
in_the_air past = count_flying (terms past).flight (terms past).count

-- Bounded deliveries: from a line on, before which the run is lossless.
abbrev pub BoundedDeliveries : List Moment → Type 0
BoundedDeliveries past =
    (later earlier : List Moment) (line : ℕ) (event : Event) → later ++ asked line event ∷ earlier ≡ past → IsDelivering event → AllDeliver later → Lossless earlier → arrivals later + in_the_air past ≤ budget earlier

-- ---- settle settles
abbrev pub EndsSettled : List Note → Type 0
EndsSettled (notes.Settled ∷ told) = Unit {0}
EndsSettled _ = ⊥

-- a `settle` behind a lossless run, with a budget that a line may deliver
abbrev pub SettlesAt : Event → List Note → List Moment → Type 0
SettlesAt events.Settle told past = Lossless past → budget past ≤ most_deliveries → EndsSettled told
SettlesAt _ told past = Unit {0}

abbrev pub SettleSettles : List Entry → Type 0
SettleSettles [] = Unit {0}
SettleSettles (entry ∷ before) = SettlesAt entry.event entry.notes (history before) × SettleSettles before

-- ---- both
pub record CompletesByCount (entries : List Entry) : Type 0 where
  pub bounded : BoundedDeliveries (history entries)
  pub settles : SettleSettles entries
