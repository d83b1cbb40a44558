-- Where a packet is got in a run: by the first note of a turn, behind the place before it, or behind the line that begins there.
use Rattle.sbp_world.proofs.Words.Std.{◌≡◌, ◌∙◌, refl, sym, ap, subst, ℕ, true, false, List, [], ◌∷◌, ◌++◌, map, Option, Some, None}
use Rattle.sbp_world.proofs.Words.Wire.{end_note, Moment, asked, said, Event, Note}
use Rattle.sbp_world.proofs.Words.Target.{Told}
use Rattle.sbp_world.proofs.Words.World.{MayHappen, happens, is_in_flight, may_repeat, MayNext, delivered_at, delivered_next, lowest, Scene, begun, without_notes}
use Rattle.sbp_journal.specs.declared.event.Event.TheVariants as events
use Rattle.sbp_journal.specs.declared.note.Note.TheVariants as notes
use Rattle.sbp_world.specs.Settling.{MayAt}
use Rattle.sbp_world.proofs.Agents.Management.Still.{hist}
use Rattle.sbp_world.proofs.Lists.Quiet.{AllQuiet, Comes, IsQuiet, Quietly, acts, comes, delivery_comes, injects, keys, late, loses, nothing, one_comes, quiet_none, resets, sights, ticks}
use Rattle.sbp_world.proofs.Lists.Turned.{IsOne}
use Rattle.sbp_world.proofs.Lists.Walks.{Turn, by_delivery, by_end, by_line, by_start}
use Rattle.sbp_world.proofs.Lists.TurnReads.{none_behind}
use Rattle.sbp_world.proofs.Common.{said_split}

-- ---- a history goes on over a turn
pub data Next (before now : List Moment) : Type 0 where
  same_still : now ≡ before → Next before now
  next : (front : List Note) → AllQuiet front → (moment : Moment) → map said front ++ moment ∷ before ≡ now → Next before now
  next_line : (front : List Note) → AllQuiet front → (note : Note) (line : ℕ) (event : Event) → map said front ++ said note ∷ asked line event ∷ before ≡ now → Next before now

of_comes : (past : List Moment) (old new : List Note) → Comes old new → Next (map said old ++ past) (map said new ++ past)
of_comes past old new (nothing e) = same_still (ap (λ ns. map said ns ++ past) e)
of_comes past old new (comes note q) = next q.more q.quiet (said note) (sym (said_split q.more (note ∷ old) past) ∙ ap (λ ns. map said ns ++ past) q.is)

-- a line with no packet, and one with a packet
module _ (line : ℕ) (event : Event) (past : List Moment) (new : List Note) where
  abbrev now : List Moment
  now = map said new ++ asked line event ∷ past

  line_quiet : Quietly [] new → Next past now
  line_quiet q = next q.more q.quiet (asked line event) (ap (λ ns. map said ns ++ asked line event ∷ past) (sym (none_behind q.more) ∙ q.is))

  line_comes : Comes [] new → Next past now
  line_comes (nothing e) = next [] tt (asked line event) (ap (λ ns. map said ns ++ asked line event ∷ past) (sym e))
  line_comes (comes note q) = next_line q.more q.quiet note line event (sym (said_split q.more (note ∷ []) (asked line event ∷ past)) ∙ ap (λ ns. map said ns ++ asked line event ∷ past) q.is)

one_next : (past : List Moment) (s : Scene) (line : ℕ) (event : Event) (told : List (Option Told)) → IsOne event → MayHappen event told s → Next (hist past s.world) (hist (asked line event ∷ hist past s.world) (happens line event told s).world)
unfolding happens MayHappen
one_next past s line (events.Begin initiators is_ready) told o m = line_quiet line (events.Begin initiators is_ready) (hist past s.world) [] (quiet_none [])
one_next past s line (events.Act i action) told o m = line_quiet line (events.Act i action) (hist past s.world) _ (acts (without_notes s.world) line i action)
one_next past s line (events.Reset physical) told o m = line_quiet line (events.Reset physical) (hist past s.world) _ (resets (without_notes s.world) physical)
one_next past s line (events.See node) told o m = line_quiet line (events.See node) (hist past s.world) _ (sights (without_notes s.world) node)
one_next past s line (events.Deliver serial) told o m = line_comes line (events.Deliver serial) (hist past s.world) _ (one_comes (begun s) line serial false (is_in_flight serial (begun s).world) told m)
one_next past s line (events.Repeat serial) told o m = line_comes line (events.Repeat serial) (hist past s.world) _ (one_comes (begun s) line serial true (may_repeat serial (begun s).world) told m)
one_next past s line (events.Lose serial) told o m = line_quiet line (events.Lose serial) (hist past s.world) _ (loses (without_notes s.world) line serial)
one_next past s line (events.Timeout serial) told o m = line_quiet line (events.Timeout serial) (hist past s.world) _ (late (without_notes s.world) line serial)
one_next past s line (events.Step count) told o m = absurd o
one_next past s line events.Settle told o m = absurd o
one_next past s line events.Tick told o m = line_quiet line events.Tick (hist past s.world) _ (ticks (without_notes s.world))
one_next past s line (events.Inject i bytes) told o m = line_quiet line (events.Inject i bytes) (hist past s.world) _ (injects (without_notes s.world) line i bytes)
one_next past s line (events.Key unit key) told o m = line_quiet line (events.Key unit key) (hist past s.world) _ (keys (without_notes s.world) line unit key)

lowest_next : (past : List Moment) (s : Scene) (one : Option Told) (o : Option ℕ) → MayAt o one s → Next (hist past s.world) (hist past (delivered_at o one s).world)
lowest_next past s one None m = absurd m
lowest_next past s one (Some serial) m = of_comes past s.world.fresh _ (delivery_comes s serial false one m)

delivery_next : (past : List Moment) (s : Scene) (one : Option Told) → MayNext one s → Next (hist past s.world) (hist past (delivered_next one s).world)
unfolding delivered_next MayNext
delivery_next past s one m = lowest_next past s one (lowest s.world) m

pub turn_next : (past : List Moment) (s : Scene) (later : List Moment) (t : Scene) → Turn past s later t → Next (hist past s.world) (hist later t.world)
turn_next _ _ _ _ (by_line past s line event told o q m) = one_next past s line event told o m
turn_next _ _ _ _ (by_start past s line event d) = next [] tt (asked line event) refl
turn_next _ _ _ _ (by_delivery past s one m) = delivery_next past s one m
turn_next _ _ _ _ (by_end past s done) = next [] tt (said (end_note done)) refl

-- ---- a packet was got in a history that went on so
pub data WhereGot (before : List Moment) (serial : ℕ) (earlier : List Moment) : Type 0 where
  got_before : (front : List Moment) → front ++ said (notes.Got serial) ∷ earlier ≡ before → WhereGot before serial earlier
  got_here : earlier ≡ before → WhereGot before serial earlier
  got_in_line : (line : ℕ) (event : Event) → earlier ≡ asked line event ∷ before → WhereGot before serial earlier

module _ (serial : ℕ) (earlier : List Moment) where
  abbrev got : List Moment
  got = said (notes.Got serial) ∷ earlier

  record Rest (behind : List Moment) : Type 0 where
    front : List Moment
    is : front ++ got ≡ behind

  rest : (more : List Note) → AllQuiet more → (behind front : List Moment) → front ++ got ≡ map said more ++ behind → Rest behind
  rest [] q behind front e = record { front = front; is = e }
  rest (n ∷ more) q behind [] e = absurd (let same : notes.Got serial ≡ n = (let z : said (notes.Got serial) ∷ earlier ≡ said n ∷ (map said more ++ behind) = e in cc) in subst IsQuiet (sym same) q.0)
  rest (n ∷ more) q behind (x ∷ front) e = rest more q.1 behind front (let z : x ∷ (front ++ got) ≡ said n ∷ (map said more ++ behind) = e in cc)

  asked_not : (line : ℕ) (event : Event) (before : List Moment) → said (notes.Got serial) ∷ earlier ≡ asked line event ∷ before → ⊥
  asked_not line event before e = cc

  by_one : (moment : Moment) (before front : List Moment) → front ++ got ≡ moment ∷ before → WhereGot before serial earlier
  by_one moment before [] e = got_here (let z : said (notes.Got serial) ∷ earlier ≡ moment ∷ before = e in cc)
  by_one moment before (x ∷ front) e = got_before front (let z : x ∷ (front ++ got) ≡ moment ∷ before = e in cc)

  by_two : (note : Note) (line : ℕ) (event : Event) (before front : List Moment) → front ++ got ≡ said note ∷ asked line event ∷ before → WhereGot before serial earlier
  by_two note line event before [] e = got_in_line line event (let z : said (notes.Got serial) ∷ earlier ≡ said note ∷ (asked line event ∷ before) = e in cc)
  by_two note line event before (x ∷ []) e = absurd (asked_not line event before (let z : x ∷ (said (notes.Got serial) ∷ earlier) ≡ said note ∷ (asked line event ∷ before) = e in cc))
  by_two note line event before (x ∷ y ∷ front) e = got_before front (let z : x ∷ (y ∷ (front ++ got)) ≡ said note ∷ (asked line event ∷ before) = e in cc)

  pub got_where : (before later : List Moment) → Next before later → (front : List Moment) → front ++ got ≡ later → WhereGot before serial earlier
  got_where before later (same_still e) front f = got_before front (f ∙ e)
  got_where before later (next more q moment is) front f = let r = rest more q (moment ∷ before) front (f ∙ sym is) in by_one moment before r.front r.is
  got_where before later (next_line more q note line event is) front f = let r = rest more q (said note ∷ asked line event ∷ before) front (f ∙ sym is) in by_two note line event before r.front r.is
