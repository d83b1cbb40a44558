-- Deliveries are bounded where a number falls with each of them that is no more than the budget where the run is lossless: turn by turn, from the line on before which it is.
use Rattle.sbp_world.proofs.Words.Std.{arith, ◌≡◌, ◌∙◌, refl, sym, ap, subst, ℕ, ◌+◌, ◌≤◌, List, [], ◌∷◌, ◌++◌, map}
use Rattle.sbp_world.proofs.Words.Wire.{Event, Note, Moment, asked, said, end_note}
use Rattle.sbp_world.proofs.Words.World.{happens, delivered_next, Scene, WorldState}
use Rattle.sbp_laws.specs.Budget.{Lossless, budget}
use Rattle.sbp_journal.specs.declared.note.Note.TheVariants as notes
use Rattle.sbp_laws.specs.Completion.{AllDeliver, BoundedDeliveries, IsDelivering, arrivals, in_the_air}
use Rattle.sbp_world.proofs.Agents.Management.Still.{hist}
use Rattle.sbp_world.proofs.Lists.Walks.{Turn, by_delivery, by_end, by_line, by_start}

-- ---- a line is asked for behind some notes
-- the moments behind it, but for these notes
record AskedBefore (later : List Moment) (line : ℕ) (event : Event) (earlier : List Moment) (told : List Note) (past : List Moment) : Type 0 where
  between : List Moment
  is : between ++ asked line event ∷ earlier ≡ past
  behind : later ≡ map said told ++ between

told_before : (told : List Note) (later : List Moment) (line : ℕ) (event : Event) (earlier past : List Moment) → later ++ asked line event ∷ earlier ≡ map said told ++ past → AskedBefore later line event earlier told past
told_before [] later line event earlier past e = record { between = later; is = e; behind = refl }
told_before (note ∷ told) [] line event earlier past e = absurd (let no : asked line event ∷ earlier ≡ said note ∷ (map said told ++ past) = e in cc)
told_before (note ∷ told) (moment ∷ later) line event earlier past e =
    let both : moment ∷ (later ++ asked line event ∷ earlier) ≡ said note ∷ (map said told ++ past) = e in
    let rest = told_before told later line event earlier past (let x : later ++ asked line event ∷ earlier ≡ map said told ++ past = cc in x) in
    let same : moment ≡ said note = cc in
    record { between = rest.between; is = rest.is; behind = ap (λ ms. moment ∷ ms) rest.behind ∙ ap (λ m. m ∷ (map said told ++ rest.between)) same }

told_deliver : (told : List Note) (past : List Moment) → AllDeliver (map said told ++ past) → AllDeliver past
told_deliver [] past all = all
told_deliver (note ∷ told) past all = told_deliver told past all

deliver_told : (told : List Note) (past : List Moment) → AllDeliver past → AllDeliver (map said told ++ past)
deliver_told [] past all = all
deliver_told (note ∷ told) past all = deliver_told told past all

-- ---- bounded, with a number that is left
abbrev pub Bound : (past : List Moment) (left : ℕ) → Type 0
Bound past left = (later earlier : List Moment) (line : ℕ) (event : Event) → later ++ asked line event ∷ earlier ≡ past → IsDelivering event → AllDeliver later → Lossless earlier → arrivals past + left ≤ arrivals earlier + budget earlier

-- what arrived and what is left do not rise
pub record Falls (past : List Moment) (left : ℕ) (now : List Moment) (then : ℕ) : Type 0 where
  pub all : arrivals now + then ≤ arrivals past + left

-- behind more notes of a line
more_notes : (old new : List Note) (past : List Moment) (left then : ℕ) → Falls (map said old ++ past) left (map said new ++ past) then → Bound (map said old ++ past) left → Bound (map said new ++ past) then
more_notes old new past left then falls b later earlier line event e d all lossless =
    let at = told_before new later line event earlier past e in
    let here = b (map said old ++ at.between) earlier line event (append_at old at.between ∙ ap (λ ms. map said old ++ ms) at.is) d (deliver_told old at.between (told_deliver new at.between (subst AllDeliver at.behind all))) lossless in
    let f = falls.all in
    omega (arith, here, f)
  where
    append_at : (ns : List Note) (between : List Moment) → (map said ns ++ between) ++ asked line event ∷ earlier ≡ map said ns ++ (between ++ asked line event ∷ earlier)
    append_at [] between = refl
    append_at (n ∷ ns) between = ap (λ ms. said n ∷ ms) (append_at ns between)

-- behind a line that follows
module _ (next : ℕ) (what : Event) (told : List Note) (past : List Moment) (left then : ℕ) where
  abbrev now : List Moment
  now = map said told ++ asked next what ∷ past

  next_line : (IsDelivering what → Falls past left now then) → (Lossless past → left ≤ budget past) → Bound past left → Bound now then
  next_line falls starts b later earlier line event e d all lossless =
      let at = told_before told later line event earlier (asked next what ∷ past) e in
      by at.between at.is (told_deliver told at.between (subst AllDeliver at.behind all))
    where
      by : (between : List Moment) → between ++ asked line event ∷ earlier ≡ asked next what ∷ past → AllDeliver between → arrivals now + then ≤ arrivals earlier + budget earlier
      by [] g each =
          let same : what ≡ event = cc in
          let before : past ≡ earlier = cc in
          let most = starts (subst Lossless (sym before) lossless) in
          let f = (falls (subst IsDelivering (sym same) d)).all in
          let counts = ap arrivals before in
          let budgets = ap budget before in
          omega (arith, most, f, counts, budgets)
      by (moment ∷ between) g each =
          let both : moment ∷ (between ++ asked line event ∷ earlier) ≡ asked next what ∷ past = g in
          let first : moment ≡ asked next what = cc in
          let rest : between ++ asked line event ∷ earlier ≡ past = cc in
          let parts : IsDelivering what × AllDeliver between = subst (λ m. AllDeliver (m ∷ between)) first each in
          let here = b between earlier line event rest d parts.1 lossless in
          let f = (falls parts.0).all in
          omega (arith, here, f)

-- ---- a number that falls
-- the turn delivers a packet, or begins or ends a line that does
abbrev pub DeliversIn : {past later : List Moment} {s t : Scene} → Turn past s later t → Type 0
DeliversIn (by_line past s line event told one fit may) = IsDelivering event
DeliversIn (by_start past s line event more) = Unit {0}
DeliversIn (by_delivery past s one may) = Unit {0}
DeliversIn (by_end past s done) = Unit {0}

module _ (left : List Moment → WorldState → ℕ) where
  abbrev pub IsBound : List Moment → WorldState → Type 0
  IsBound past w = Bound past (left past w)

  pub turn_bound : (past : List Moment) (s : Scene) (later : List Moment) (t : Scene) (turn : Turn past s later t) → (DeliversIn turn → Falls (hist past s.world) (left (hist past s.world) s.world) (hist later t.world) (left (hist later t.world) t.world)) → (Lossless (hist past s.world) → left (hist past s.world) s.world ≤ budget (hist past s.world)) → IsBound (hist past s.world) s.world → IsBound (hist later t.world) t.world
  turn_bound _ _ _ _ (by_line past s line event told one fit may) falls starts b = next_line line event (happens line event told s).world.fresh (hist past s.world) _ _ falls starts b
  turn_bound _ _ _ _ (by_start past s line event more) falls starts b = next_line line event [] (hist past s.world) _ _ (λ d. falls tt) starts b
  turn_bound _ _ _ _ (by_delivery past s one may) falls starts b = more_notes s.world.fresh (delivered_next one s).world.fresh past _ _ (falls tt) b
  turn_bound _ _ _ _ (by_end past s done) falls starts b = more_notes s.world.fresh (end_note done ∷ s.world.fresh) past _ _ (falls tt) b

-- ---- as the law has it
counted : (later earlier : List Moment) → arrivals (later ++ earlier) ≡ arrivals later + arrivals earlier
counted [] earlier = omega arith
counted (said (notes.Got serial) ∷ later) earlier = let rest = counted later earlier in omega (arith, rest)
counted (said (notes.Ignored serial cause) ∷ later) earlier = let rest = counted later earlier in omega (arith, rest)
counted (asked line event ∷ later) earlier = counted later earlier
counted (said note ∷ later) earlier = counted later earlier

pub bounded : (past : List Moment) (left : ℕ) → in_the_air past ≤ left → Bound past left → BoundedDeliveries past
bounded past left flying b later earlier line event e d all lossless =
    let here = b later earlier line event e d all lossless in
    let parts = counted later (asked line event ∷ earlier) in
    let same = ap arrivals e in
    omega (arith, here, parts, same, flying)
