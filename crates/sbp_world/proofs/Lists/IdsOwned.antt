-- Whose an ID is stays so over the turns of a run, and no such ID is behind the one that was entered last, where few logins were given.
use Rattle.sbp_world.proofs.Words.Std.{arith, ◌≡◌, ◌∙◌, inl, inr, ◌⊎◌, refl, sym, ap, subst, ℕ, zero, suc, ◌+◌, ◌<◌, ◌≤◌, nat_eq, Bool, true, false, cond, List, [], ◌∷◌, ◌++◌, map, length, replicate, Option, Some, None, nat_tests}
use Rattle.sbp_world.proofs.Words.Wire.{end_note, judged_note, Moment, asked, said, Terms, ids_of, opened, terms, Judged, Event, Note}
use Rattle.sbp_world.proofs.Words.Target.{Login, Table, place_at, Disk, Told}
use Rattle.sbp_world.proofs.Words.Laws.{id_for, target_at}
use Rattle.sbp_world.proofs.Words.World.{Office, more_deliveries, moments_behind, new_world, ready_logins, Run, beginning, MayNext, delivered_at, delivered_next, lowest, Scene, WorldState, AreRising, FewLogins, BeginsTurn, HadBy, LivesWith, OwnBy}
use Rattle.sbp_world.proofs.Agents.Management.Begins.{first_holds}
use Rattle.sbp_world.proofs.Agents.Management.Holding.{Holding, past_terms}
use Rattle.sbp_world.proofs.Agents.Management.Offices.{going_keeps, over_keeps}
use Rattle.sbp_world.proofs.Agents.Management.Still.{hist}
use Rattle.sbp_journal.specs.declared.cause.Judged.TheVariants as judgements
use Rattle.sbp_journal.specs.declared.event.Event.TheVariants as events
use Rattle.sbp_journal.specs.declared.note.Note.TheVariants as notes
use Rattle.sbp_world.specs.Settling.{MayAt}
use Rattle.sbp_world.proofs.Wire.Bus.{holds}
use Rattle.sbp_world.proofs.Lists.Courses.{EveryPlace, Goes, Keeps, at_between, at_lines, by_delivery, by_end, by_line, by_start}
use Rattle.sbp_world.proofs.Lists.Gots.{Next, next, next_line, same_still}
use Rattle.sbp_world.proofs.Lists.IdsRuns.{AreFewIds, few_before, few_ids_everywhere, first_ids, rises}
use Rattle.sbp_world.proofs.Lists.Judging.{goes_next}
use Rattle.sbp_world.proofs.Lists.LiveRuns.{goes_size}
use Rattle.sbp_world.proofs.Lists.Quiet.{AllQuiet, Hears, IsQuiet, delivery_hears, hears, unheard}
use Rattle.sbp_world.proofs.Common.{said_split}

-- ---- moments
not_begins : (note : Note) → IsQuiet note → BeginsTurn (said note) → ⊥
not_begins (notes.Got serial) q b = q
not_begins (notes.Ignored serial cause) q b = q
not_begins note q b = b

judged_begins : (serial : ℕ) (judged : Judged) → BeginsTurn (said (judged_note serial judged))
judged_begins serial judgements.Got = tt
judged_begins serial (judgements.Ignored cause) = tt

pub ids_same : (event : Event) (t : Terms) → t.generation 0 ≤ t.bus → (k : ℕ) → id_for (opened event t) 0 k ≡ id_for t 0 k
ids_same (events.Reset physical) t aged k =
    let apart : nat_eq (t.generation 0) (t.bus + 1) ≡ false = grind (arith, nat_tests) in
    ap (λ b. cond b (ids_of physical) (t.ids (t.generation 0)) k) apart
ids_same event t aged k = refl

module _ (start : List Disk) (i id : ℕ) where
  abbrev Last : List Moment → Type 0
  Last past = LivesWith start past i id

  abbrev Had : List Moment → Type 0
  Had past = HadBy start past i id

  abbrev Own : List Moment → Type 0
  Own past = OwnBy start past i id

  pub had_later : (new past : List Moment) → Had past → Had (new ++ past)
  had_later [] past h = h
  had_later (m ∷ new) past h = inr (had_later new past h)

  -- as a turn begins
  pub begun_had : (m : Moment) (past : List Moment) → BeginsTurn m → Own past → Had (m ∷ past)
  begun_had m past b (inl x) = inl (b, x)
  begun_had m past b (inr y) = inr y

  quiet_had : (front : List Note) (past : List Moment) → AllQuiet front → Had (map said front ++ past) → Had past
  quiet_had [] past q h = h
  quiet_had (note ∷ front) past q (inl x) = absurd (not_begins note q.0 x.0)
  quiet_had (note ∷ front) past q (inr y) = quiet_had front past q.1 y

  -- a line begins
  asked_last : (line : ℕ) (event : Event) (past : List Moment) → (terms past).generation 0 ≤ (terms past).bus → Last (asked line event ∷ past) → Last past
  asked_last line event past aged x =
      let same : (target_at start (asked line event ∷ past)).table ≡ (target_at start past).table = ap (λ (o : Office). o.table) (over_keeps (target_at start past)) in
      record {
        place = x.place;
        login = x.login;
        there = sym (ap (λ (t : Table). place_at t.places x.place) same) ∙ x.there;
        live = x.live;
        node = x.node ∙ ids_same event (terms past) aged (suc i);
        own = x.own;
      }

  -- a line that settles ends
  end_last : (done : Bool) (past : List Moment) → Last past → Last (said (end_note done) ∷ past)
  end_last true past x =
      let same : (target_at start (said notes.Settled ∷ past)).table ≡ (target_at start past).table = ap (λ (o : Office). o.table) (going_keeps notes.Settled (target_at start past)) in
      record { place = x.place; login = x.login; there = ap (λ (t : Table). place_at t.places x.place) same ∙ x.there; live = x.live; node = x.node; own = x.own }
  end_last false past x =
      let same : (target_at start (said notes.Stopped ∷ past)).table ≡ (target_at start past).table = ap (λ (o : Office). o.table) (going_keeps notes.Stopped (target_at start past)) in
      record { place = x.place; login = x.login; there = ap (λ (t : Table). place_at t.places x.place) same ∙ x.there; live = x.live; node = x.node; own = x.own }

  -- ---- back over a turn
  one_back : (m : Moment) (before : List Moment) → Had (m ∷ before) → Own before
  one_back m before (inl x) = inl x.1
  one_back m before (inr y) = inr y

  two_back : (note : Note) (line : ℕ) (event : Event) (before : List Moment) → (terms before).generation 0 ≤ (terms before).bus → Had (said note ∷ asked line event ∷ before) → Own before
  two_back note line event before aged (inl x) = inl (asked_last line event before aged x.1)
  two_back note line event before aged (inr y) = one_back (asked line event) before y

  had_back : (before now : List Moment) → Next before now → (terms before).generation 0 ≤ (terms before).bus → Had now → Own before
  had_back before now (same_still e) aged h = inr (subst Had e h)
  had_back before now (next front q m is) aged h = one_back m before (quiet_had front (m ∷ before) q (subst Had (sym is) h))
  had_back before now (next_line front q note line event is) aged h = two_back note line event before aged (quiet_had front (said note ∷ asked line event ∷ before) q (subst Had (sym is) h))

  -- it was so before, or it is so now
  pub own_back : (before now : List Moment) → Next before now → (terms before).generation 0 ≤ (terms before).bus → Own now → Own before ⊎ Last now
  own_back before now n aged (inl x) = inr x
  own_back before now n aged (inr y) = inl (had_back before now n aged y)

  -- ---- on over a turn
  heard_on : (past : List Moment) (old new : List Note) → Hears old new → Own (map said old ++ past) → Own (map said new ++ past)
  heard_on past old new (unheard e) h = subst (λ ns. Own (map said ns ++ past)) (sym e) h
  heard_on past old new (hears serial judged q) h =
      let note = judged_note serial judged in
      let had : Had (map said q.more ++ (said note ∷ (map said old ++ past))) = had_later (map said q.more) (said note ∷ (map said old ++ past)) (begun_had (said note) (map said old ++ past) (judged_begins serial judged) h) in
      inr (subst (λ ns. Had (map said ns ++ past)) q.is (subst Had (sym (said_split q.more (note ∷ old) past)) had))

  lowest_on : (past : List Moment) (s : Scene) (one : Option Told) (o : Option ℕ) → MayAt o one s → Own (hist past s.world) → Own (hist past (delivered_at o one s).world)
  lowest_on past s one None m h = absurd m
  lowest_on past s one (Some serial) m h = heard_on past s.world.fresh _ (delivery_hears s serial false one m) h

  delivery_on : (past : List Moment) (s : Scene) (one : Option Told) → MayNext one s → Own (hist past s.world) → Own (hist past (delivered_next one s).world)
  unfolding delivered_next MayNext
  delivery_on past s one m h = lowest_on past s one (lowest s.world) m h

  end_on : (done : Bool) (past : List Moment) → Own past → Own (said (end_note done) ∷ past)
  end_on done past (inl x) = inl (end_last done past x)
  end_on done past (inr y) = inr (inr y)

  pub own_on : (past : List Moment) (s : Scene) (later : List Moment) (t : Scene) → Goes past s later t → Own (hist past s.world) → Own (hist later t.world)
  own_on _ _ _ _ (by_line past s line event told one fit may) h = inr (had_later (map said _) (asked line event ∷ hist past s.world) (begun_had (asked line event) (hist past s.world) tt h))
  own_on _ _ _ _ (by_start past s line most) h = inr (begun_had (asked line (more_deliveries most)) (hist past s.world) tt h)
  own_on _ _ _ _ (by_delivery past s one may no_act) h = delivery_on past s one may h
  own_on _ _ _ _ (by_end past s done) h = end_on done (hist past s.world) h

pub aged_at : (units ready : ℕ) (start : List Disk) {past : List Moment} {lines : ℕ} (w : WorldState) → Holding units ready start past lines w → (terms (hist past w)).generation 0 ≤ (terms (hist past w)).bus
aged_at units ready start w h =
    let facts = (holds h.sound.stands.wire h.sound.stands.reached).facts in
    subst (λ (t : Terms). t.generation 0 ≤ t.bus) (past_terms w h.sound.stands) (facts.aged 0)

-- ---- at each place of every run
abbrev pub AreBehind : List Disk → List Moment → WorldState → Type 0
AreBehind start past w = FewLogins past → 0 < length w.initiators → (i id : ℕ) → OwnBy start past i id → id ≤ w.target.logins.last

all_behind : (units ready : ℕ) → 0 < units → (start : List Disk) → Keeps units ready start AreFewIds (AreBehind start)
all_behind units ready has start past s later t lines more g h h_now q q_now had few some i id own =
    let some_old : 0 < length s.world.initiators = subst (λ n. 0 < n) (goes_size past s later t g) some in
    let few_old = few_before units ready has start past s later t g h h_now few in
    by (rises units ready has start past s later t g h h_now some_old few (q few_old some_old)).least (q_now few some).rising (had few_old some_old i id)
    (own_back start i id (hist past s.world) (hist later t.world) (goes_next past s later t g) (aged_at units ready start s.world h) own)
  where
    by : s.world.target.logins.last ≤ t.world.target.logins.last → AreRising t.world.target.logins → (OwnBy start (hist past s.world) i id → id ≤ s.world.target.logins.last) → OwnBy start (hist past s.world) i id ⊎ LivesWith start (hist later t.world) i id → id ≤ t.world.target.logins.last
    by l rising f (inl o) = let m = f o in omega (arith, l, m)
    by l rising f (inr x) =
        let a = rising x.place x.login (sym (ap (λ (u : Table). place_at u.places x.place) h_now.at.agrees.table) ∙ x.there) in
        let b = x.own in
        omega (arith, a, b)

-- ---- at the start
none_at : (k place : ℕ) (login : Login) → place_at (replicate k None) place ≡ Some login → ⊥
none_at zero place login e = (let no : None ≡ Some login = e in cc)
none_at (suc k) zero login e = (let no : None ≡ Some login = e in cc)
none_at (suc k) (suc place) login e = none_at k place login e

none_empty : (start : List Disk) (i id : ℕ) → LivesWith start [] i id → ⊥
none_empty start i id x = none_at 8 x.place x.login x.there

none_had : (start : List Disk) (line initiators i id : ℕ) (ready : Bool) → HadBy start (said (notes.Begin initiators ready) ∷ asked line (events.Begin initiators ready) ∷ []) i id → ⊥
none_had start line initiators i id ready (inl x) = x.0
none_had start line initiators i id ready (inr (inl x)) = none_empty start i id x.1
none_had start line initiators i id ready (inr (inr y)) = y

first_behind : (line : ℕ) (run : Run) → run.initiators ≤ 4 → run.units ≤ 4 → length run.start.disks ≡ run.units → AreBehind run.start.disks (moments_behind line run []) (beginning run).world
unfolding new_world
first_behind line run few small size few_logins some i id (inl x) =
    let h = first_holds run.initiators run.ready run.units line run.start.disks few small size in
    let first = first_ids line run few small size few_logins some in
    let a = first.rising x.place x.login (sym (ap (λ (u : Table). place_at u.places x.place) h.at.agrees.table) ∙ x.there) in
    let b = x.own in
    omega (arith, a, b)
first_behind line run few small size few_logins some i id (inr y) = absurd (none_had run.start.disks line run.initiators i id run.ready y)

few_known : EveryPlace (λ start past w. AreFewIds past w)
few_known = few_ids_everywhere

pub behind_everywhere : EveryPlace AreBehind
behind_everywhere = record {
  after_lines = λ line run r has small size so_far.
      at_lines (λ start past w. AreFewIds past w) (AreBehind run.start.disks) few_known line run r.few has small size (all_behind run.units (ready_logins run.initiators run.ready) has run.start.disks) (first_behind line run r.few small size) r so_far;
  between = λ line run r has small size next most told m so_far.
      at_between (λ start past w. AreFewIds past w) (AreBehind run.start.disks) few_known line run r.few has small size (all_behind run.units (ready_logins run.initiators run.ready) has run.start.disks) (first_behind line run r.few small size) r next most told m so_far;
}
