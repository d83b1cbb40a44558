-- How runs come in a turn of a world: none is told; or the agent of a place ran its command as the packet that is delivered in this turn was got, and this is the one run that is told.
use Rattle.sbp_world.proofs.Words.Std.{◌≡◌, ◌∙◌, refl, sym, ap, subst, ◌<◌, ℕ, Bool, true, false, List, [], ◌∷◌, length, Option, Some, None, map, ◌++◌, ◌⊎◌, inl, inr}
use Rattle.sbp_world.proofs.Words.Wire.{Sent, found_sent, end_note, judged_note, no_packet, Event, Moment, asked, check_of, said, Note, Judged}
use Rattle.sbp_world.proofs.Words.Target.{Disk, Told, Held, plain_in, Outcome}
use Rattle.sbp_world.proofs.Words.Laws.{known_at, plain_of, target_at, unit_at}
use Rattle.sbp_world.proofs.Words.World.{holder, delivered, MayTell, MayHappen, acted, happens, keyed, reset_line, see_line, tick_line, MayIf, delivered_if, inject_line, is_in_flight, lose_line, may_repeat, timeout_line, MayNext, delivered_at, delivered_next, lowest, IsLine, Scene, WorldState, begun, without_notes}
use Rattle.sbp_world.proofs.Agents.UnitsLines.{opened as units_opened}
use Rattle.sbp_journal.specs.declared.event.Event.TheVariants as events
use Rattle.sbp_journal.specs.declared.note.Note.TheVariants as notes
use Rattle.sbp_world.specs.Settling as settling
use Rattle.sbp_world.proofs.Agents.Management.Still.{hist}
use Rattle.sbp_world.proofs.Lists.Turned.{IsOne}
use Rattle.sbp_world.proofs.Lists.Walks.{Turn, by_delivery, by_end, by_line, by_start}
use Rattle.sbp_world.proofs.Lists.MachineTurns.{heard_in, line_heard}
use Rattle.sbp_world.proofs.Lists.Runless.{Delivers, IsRunBy, IsRunlessBy, Plainly, acts, delivery_comes, target_told, ToldHere, told_none, told_run, injects, keys, late, loses, none_judged, no_run, one_run, plain_one, resets, sights, ticks}
use Rattle.sbp_world.proofs.Lists.RunTells.{NoneRan, RanBy}
use Rattle.sbp_world.proofs.Lists.AnswerRuns.{AreUnrun, both_unrun, plain_unrun}
use Rattle.sbp_world.proofs.Agents.UnitsTold.{got_same}
use Rattle.sbp_world.proofs.Agents.UnitsLines.{Units}
use Rattle.sbp_target.proofs.Histories.Calling.{Good}
use Rattle.sbp_journal.specs.declared.cause.Judged.TheVariants as judgements
use Rattle.sbp_world.proofs.Common.{said_split, moments_joined as joined}

-- an agent ran its command as this packet was got
pub record RanHere (w : WorldState) (media : Held) (serial : ℕ) (run : Option Told) : Type 0 where
  pub sent : Sent
  pub found : found_sent serial w.store.kept ≡ Some sent
  pub place : ℕ
  pub orb : ℕ
  pub cdb : List ℕ
  pub payload : List ℕ
  pub outcome : Outcome
  pub by : RanBy w.target sent run media place orb cdb payload outcome
  pub list : Option ℕ
  pub number : Option ℕ

abbrev pub note_of : (w : WorldState) (media : Held) (serial : ℕ) (run : Option Told) → RanHere w media serial run → Note
note_of w media serial run r = notes.Ran (holder w r.place).initiator r.list r.number (holder w r.place).unit r.cdb r.payload (check_of r.outcome)

-- none is told, or this one is
pub record ComesOne (start : List Disk) (w : WorldState) (media : Held) (ms now : List Moment) (serial : ℕ) (run : Option Told) : Type 0 where
  pub r : RanHere w media serial run
  pub more : List Moment
  pub front : List Moment
  pub unrun : AreUnrun more
  pub unrun_front : AreUnrun front
  pub units : (unit : ℕ) → plain_of start (said (notes.Got serial) ∷ (front ++ ms)) unit ≡ plain_in w.target.units media.disks unit
  pub is : more ++ said (note_of w media serial run r) ∷ said (notes.Got serial) ∷ (front ++ ms) ≡ now

pub data Comes (start : List Disk) (w : WorldState) (media : Held) (ms now : List Moment) : Type 0 where
  quiet : (more : List Moment) → AreUnrun more → more ++ ms ≡ now → Comes start w media ms now
  one : (serial : ℕ) (run : Option Told) → ComesOne start w media ms now serial run → Comes start w media ms now

pub same_found : (x y : Sent) → Some x ≡ Some y → x ≡ y
same_found x y e = cc

judged_unrun : (serial : ℕ) (judged : Judged) → AreUnrun (said (judged_note serial judged) ∷ [])
judged_unrun serial judgements.Got = (tt, tt)
judged_unrun serial (judgements.Ignored cause) = (tt, tt)

-- ---- behind the beginning of a line, or of the turn
module _ (start : List Disk) (s : Scene) (front ms : List Moment) (unrun : AreUnrun front) (units : (unit : ℕ) → plain_of start (front ++ ms) unit ≡ plain_in s.world.target.units s.media.disks unit) where
  abbrev C : List Moment → Type 0
  C now = Comes start s.world s.media ms now

  plain_comes : (old new : List Note) (past : List Moment) → map said old ++ past ≡ front ++ ms → Plainly old new → C (map said new ++ past)
  plain_comes old new past is q =
      quiet (map said q.more ++ front) (both_unrun (map said q.more) front (plain_unrun q.more q.plain) unrun)
      (joined (map said q.more) front ms ∙ (ap (λ h. map said q.more ++ h) (sym is) ∙ (sym (said_split q.more old past) ∙ ap (λ ns. map said ns ++ past) q.is)))

  units_got : (serial : ℕ) (unit : ℕ) → plain_of start (said (notes.Got serial) ∷ (front ++ ms)) unit ≡ plain_in s.world.target.units s.media.disks unit
  units_got serial unit = ap (λ us. unit_at us unit) (got_same serial (front ++ ms) (known_at start (front ++ ms)).wire (target_at start (front ++ ms))).0 ∙ units unit

  one_here : (serial : ℕ) (run : Option Told) (new : List Note) (past : List Moment) → map said s.world.fresh ++ past ≡ front ++ ms → (ran : Note) → IsRunBy s run serial ran → Plainly (ran ∷ notes.Got serial ∷ s.world.fresh) new → ComesOne start s.world s.media ms (map said new ++ past) serial run
  one_here serial run new past is ran r q = record {
    r = record { sent = r.sent; found = r.found; place = r.place; orb = r.orb; cdb = r.cdb; payload = r.payload; outcome = r.outcome; by = r.by; list = r.list; number = r.number };
    more = map said q.more;
    front = front;
    unrun = plain_unrun q.more q.plain;
    unrun_front = unrun;
    units = units_got serial;
    is =
        ap (λ note. map said q.more ++ said note ∷ said (notes.Got serial) ∷ (front ++ ms)) (sym r.is)
        ∙ (ap (λ h. map said q.more ++ said ran ∷ said (notes.Got serial) ∷ h) (sym is) ∙ (sym (said_split q.more (ran ∷ notes.Got serial ∷ s.world.fresh) past) ∙ ap (λ ns. map said ns ++ past) q.is));
  }

  module _ (good : Good s.world.target) (serial : ℕ) (again : Bool) (run : Option Told) (new : List Note) (past : List Moment) (is : map said s.world.fresh ++ past ≡ front ++ ms) where
    comes : Delivers (IsRunlessBy s run) (IsRunBy s run) s.world.fresh new → C (map said new ++ past)
    comes (none_judged e) = quiet front unrun (sym is ∙ ap (λ ns. map said ns ++ past) (sym e))
    comes (no_run at judged none q) =
        quiet (map said q.more ++ (said (judged_note at judged) ∷ front)) (both_unrun (map said q.more) (said (judged_note at judged) ∷ front) (plain_unrun q.more q.plain) (both_unrun (said (judged_note at judged) ∷ []) front (judged_unrun at judged) unrun))
        (joined (map said q.more) (said (judged_note at judged) ∷ front) ms
        ∙ (ap (λ h. map said q.more ++ said (judged_note at judged) ∷ h) (sym is) ∙ (sym (said_split q.more (judged_note at judged ∷ s.world.fresh) past) ∙ ap (λ ns. map said ns ++ past) q.is)))
    comes (one_run at ran r q) = one at run (one_here at run new past is ran r q)

-- ---- a line that delivers one packet at most
module _ (start : List Disk) (past : List Moment) (s : Scene) (good : Good s.world.target) (units : (unit : ℕ) → plain_of start (hist past s.world) unit ≡ plain_in s.world.target.units s.media.disks unit) where
  abbrev Now : WorldState → Type 0
  Now v = Comes start s.world s.media (hist past s.world) (hist past v)

  one_line : (line serial : ℕ) (again b : Bool) (told : List (Option Told)) → MayIf b serial told s → Now (delivered_if b line serial again told s).world
  one_line line serial again true [] m = absurd m
  one_line line serial again true (run ∷ []) m = comes start s [] (hist past s.world) tt units good serial again run (delivered serial again run s).world.fresh past refl (delivery_comes s good serial again run m)
  one_line line serial again true (run ∷ other ∷ more) m = absurd m
  one_line line serial again false told m = plain_comes start s [] (hist past s.world) tt units s.world.fresh (notes.Refused line no_packet ∷ s.world.fresh) past refl (plain_one (notes.Refused line no_packet) s.world.fresh tt)

  next_line : (one_told : Option Told) (so : Option ℕ) → settling.MayAt so one_told s → Now (delivered_at so one_told s).world
  next_line run None m = absurd m
  next_line run (Some serial) m = comes start s [] (hist past s.world) tt units good serial false run (delivered serial false run s).world.fresh past refl (delivery_comes s good serial false run m)

  next_comes : (run : Option Told) → MayNext run s → Now (delivered_next run s).world
  unfolding delivered_next MayNext
  next_comes run m = next_line run (lowest s.world) m

  -- the packet that is delivered, where it is one to the target that runs a command
  module _ (serial : ℕ) (sent : Sent) (run : Option Told) (found : found_sent serial s.world.store.kept ≡ Some sent) (zero_to : sent.to ≡ 0) (may : MayTell run sent s.world.target s.media) where
    abbrev Or : WorldState → Type 0
    Or v = NoneRan s.world.target sent run s.media ⊎ ComesOne start s.world s.media (hist past s.world) (hist past v) serial run

    ran_here : (again : Bool) → Or (delivered serial again run s).world
    ran_here again = by (target_told s good serial again run sent found zero_to may)
      where
        by : ToldHere s good serial again run sent found (delivered serial again run s).world.fresh → Or (delivered serial again run s).world
        by (told_none n) = inl n
        by (told_run ran r same q) = inr (one_here start s [] (hist past s.world) tt units serial run (delivered serial again run s).world.fresh past refl ran r q)

    no_told : [] ≡ run ∷ [] → ⊥
    no_told e = cc

    same_told : (one_told : Option Told) → one_told ∷ [] ≡ run ∷ [] → one_told ≡ run
    same_told one_told e = cc

    ran_line : (line : ℕ) (again b : Bool) (told : List (Option Told)) → told ≡ run ∷ [] → MayIf b serial told s → Or (delivered_if b line serial again told s).world
    ran_line line again true [] e m = absurd m
    ran_line line again true (one_told ∷ []) e m = subst (λ x. Or (delivered serial again x s).world) (sym (same_told one_told e)) (ran_here again)
    ran_line line again true (one_told ∷ other ∷ more) e m = absurd m
    ran_line line again false told e m = absurd (no_told (sym m ∙ e))

    ran_at : (one_told : Option Told) (so : Option ℕ) → so ≡ Some serial → one_told ≡ run → Or (delivered_at so one_told s).world
    ran_at one_told None e f = absurd (let z : None ≡ Some serial = e in cc)
    ran_at one_told (Some at) e f =
        let same : at ≡ serial = (let z : Some at ≡ Some serial = e in cc) in
        subst (λ x. Or (delivered x false one_told s).world) (sym same) (subst (λ x. Or (delivered serial false x s).world) (sym f) (ran_here false))

    ran_next : (one_told : Option Told) → lowest s.world ≡ Some serial → one_told ≡ run → Or (delivered_next one_told s).world
    unfolding delivered_next
    ran_next one_told e f = ran_at one_told (lowest s.world) e f

-- ---- as the line began
module _ (start : List Disk) (w : WorldState) (media : Held) (first : Moment) (unrun : AreUnrun (first ∷ [])) (ms now : List Moment) where
  begun_one : (serial : ℕ) (run : Option Told) → ComesOne start (without_notes w) media (first ∷ ms) now serial run → ComesOne start w media ms now serial run
  begun_one serial run c = record {
    r = record { sent = c.r.sent; found = c.r.found; place = c.r.place; orb = c.r.orb; cdb = c.r.cdb; payload = c.r.payload; outcome = c.r.outcome; by = c.r.by; list = c.r.list; number = c.r.number };
    more = c.more;
    front = c.front ++ first ∷ [];
    unrun = c.unrun;
    unrun_front = both_unrun c.front (first ∷ []) c.unrun_front unrun;
    units = λ unit. subst (λ h. plain_of start (said (notes.Got serial) ∷ h) unit ≡ plain_in w.target.units media.disks unit) (sym (joined c.front (first ∷ []) ms)) (c.units unit);
    is = subst (λ h. c.more ++ said (note_of (without_notes w) media serial run c.r) ∷ said (notes.Got serial) ∷ h ≡ now) (sym (joined c.front (first ∷ []) ms)) c.is;
  }

  begun_comes : Comes start (without_notes w) media (first ∷ ms) now → Comes start w media ms now
  begun_comes (quiet more h is) = quiet (more ++ first ∷ []) (both_unrun more (first ∷ []) h unrun) (joined more (first ∷ []) ms ∙ is)
  begun_comes (one serial run c) = one serial run (begun_one serial run c)

-- ---- each turn
module _ (units ready : ℕ) (has : 0 < units) (start : List Disk) where
  module _ (past : List Moment) (s : Scene) (good : Good s.world.target) (u : Units start past s.world s.media.disks) where
    abbrev To : List Moment → Type 0
    To now = Comes start s.world s.media (hist past s.world) now

    module _ (line : ℕ) (event : Event) where
      abbrev now : List Moment
      now = asked line event ∷ hist past s.world

      then_units : (unit : ℕ) → plain_of start now unit ≡ plain_in s.world.target.units s.media.disks unit
      then_units = (units_opened units ready has start past line event s.world s.media.disks u).each

      from_line : (v : WorldState) → Comes start (begun s).world s.media now (hist now v) → To (hist now v)
      from_line v c = begun_comes start s.world s.media (asked line event) (tt, tt) (hist past s.world) (hist now v) c

      rests_line : (v : WorldState) → Plainly [] v.fresh → To (hist now v)
      rests_line v q = from_line v (plain_comes start (begun s) [] now tt then_units [] v.fresh now refl q)

    line_comes : (line : ℕ) (event : Event) (told : List (Option Told)) → IsOne event → IsLine event (length s.world.initiators) → MayHappen event told s → To (hist (asked line event ∷ hist past s.world) (happens line event told s).world)
    unfolding happens MayHappen
    line_comes line (events.Begin initiators is_ready) told o q m = absurd q
    line_comes line (events.Act i action) told o q m = rests_line line (events.Act i action) (acted line i action (without_notes s.world)) (acts (without_notes s.world) line i action)
    line_comes line (events.Reset physical) told o q m = rests_line line (events.Reset physical) (reset_line physical (without_notes s.world)) (resets (without_notes s.world) physical)
    line_comes line (events.See node) told o q m = rests_line line (events.See node) (see_line node (without_notes s.world)) (sights (without_notes s.world) node)
    line_comes line (events.Deliver serial) told o q m =
        from_line line (events.Deliver serial) (delivered_if (is_in_flight serial (begun s).world) line serial false told (begun s)).world (one_line start (asked line (events.Deliver serial) ∷ hist past s.world) (begun s) good (then_units line (events.Deliver serial)) line serial false (is_in_flight serial (begun s).world) told m)
    line_comes line (events.Repeat serial) told o q m =
        from_line line (events.Repeat serial) (delivered_if (may_repeat serial (begun s).world) line serial true told (begun s)).world (one_line start (asked line (events.Repeat serial) ∷ hist past s.world) (begun s) good (then_units line (events.Repeat serial)) line serial true (may_repeat serial (begun s).world) told m)
    line_comes line (events.Lose serial) told o q m = rests_line line (events.Lose serial) (lose_line line serial (without_notes s.world)) (loses (without_notes s.world) line serial)
    line_comes line (events.Timeout serial) told o q m = rests_line line (events.Timeout serial) (timeout_line line serial (without_notes s.world)) (late (without_notes s.world) line serial)
    line_comes line (events.Step count) told o q m = absurd o
    line_comes line events.Settle told o q m = absurd o
    line_comes line events.Tick told o q m = rests_line line events.Tick (tick_line (without_notes s.world)) (ticks (without_notes s.world))
    line_comes line (events.Inject i bytes) told o q m = rests_line line (events.Inject i bytes) (inject_line line i bytes (without_notes s.world)) (injects (without_notes s.world) line i bytes)
    line_comes line (events.Key unit key) told o q m = rests_line line (events.Key unit key) (keyed line unit key (without_notes s.world)) (keys (without_notes s.world) line unit key)

    -- the packet that is delivered in the turn
    module _ (serial : ℕ) (sent : Sent) (run : Option Told) (found : found_sent serial s.world.store.kept ≡ Some sent) (zero_to : sent.to ≡ 0) (may : MayTell run sent s.world.target s.media) where
      abbrev OneOr : List Moment → Type 0
      OneOr ns = NoneRan s.world.target sent run s.media ⊎ ComesOne start s.world s.media (hist past s.world) ns serial run

      begun_or : (line : ℕ) (event : Event) (v : WorldState) → NoneRan s.world.target sent run s.media ⊎ ComesOne start (begun s).world s.media (asked line event ∷ hist past s.world) (hist (asked line event ∷ hist past s.world) v) serial run → OneOr (hist (asked line event ∷ hist past s.world) v)
      begun_or line event v (inl n) = inl n
      begun_or line event v (inr c) = inr (begun_one start s.world s.media (asked line event) (tt, tt) (hist past s.world) (hist (asked line event ∷ hist past s.world) v) serial run c)

      line_ran : (line : ℕ) (event : Event) (told : List (Option Told)) → IsOne event → IsLine event (length s.world.initiators) → MayHappen event told s → line_heard event told serial run → OneOr (hist (asked line event ∷ hist past s.world) (happens line event told s).world)
      unfolding happens MayHappen
      line_ran line (events.Deliver at) told o q m h =
          subst (λ x. OneOr (hist (asked line (events.Deliver x) ∷ hist past s.world) (delivered_if (is_in_flight x (begun s).world) line x false told (begun s)).world)) h.0
          (begun_or line (events.Deliver serial) (delivered_if (is_in_flight serial (begun s).world) line serial false told (begun s)).world
          (ran_line start (asked line (events.Deliver serial) ∷ hist past s.world) (begun s) good (then_units line (events.Deliver serial)) serial sent run found zero_to may line false (is_in_flight serial (begun s).world) told h.1
          (subst (λ x. MayIf (is_in_flight x (begun s).world) x told (begun s)) (sym h.0) m)))
      line_ran line (events.Repeat at) told o q m h =
          subst (λ x. OneOr (hist (asked line (events.Repeat x) ∷ hist past s.world) (delivered_if (may_repeat x (begun s).world) line x true told (begun s)).world)) h.0
          (begun_or line (events.Repeat serial) (delivered_if (may_repeat serial (begun s).world) line serial true told (begun s)).world
          (ran_line start (asked line (events.Repeat serial) ∷ hist past s.world) (begun s) good (then_units line (events.Repeat serial)) serial sent run found zero_to may line true (may_repeat serial (begun s).world) told h.1
          (subst (λ x. MayIf (may_repeat x (begun s).world) x told (begun s)) (sym h.0) m)))
      line_ran line (events.Begin initiators is_ready) told o q m h = absurd h
      line_ran line (events.Act i action) told o q m h = absurd h
      line_ran line (events.Reset physical) told o q m h = absurd h
      line_ran line (events.See node) told o q m h = absurd h
      line_ran line (events.Lose at) told o q m h = absurd h
      line_ran line (events.Timeout at) told o q m h = absurd h
      line_ran line (events.Step count) told o q m h = absurd h
      line_ran line events.Settle told o q m h = absurd h
      line_ran line events.Tick told o q m h = absurd h
      line_ran line (events.Inject i bytes) told o q m h = absurd h
      line_ran line (events.Key unit key) told o q m h = absurd h

  end_unrun : (done : Bool) → AreUnrun (said (end_note done) ∷ [])
  end_unrun true = (tt, tt)
  end_unrun false = (tt, tt)

  pub turn_comes : (past : List Moment) (s : Scene) (later : List Moment) (t : Scene) → Turn past s later t → Good s.world.target → Units start past s.world s.media.disks → Comes start s.world s.media (hist past s.world) (hist later t.world)
  turn_comes _ _ _ _ (by_line past s line event told o q m) good u = line_comes past s good u line event told o q m
  turn_comes _ _ _ _ (by_start past s line event d) good u = quiet (asked line event ∷ []) (tt, tt) refl
  turn_comes _ _ _ _ (by_delivery past s run m) good u = next_comes start past s good u.each run m
  turn_comes _ _ _ _ (by_end past s done) good u = quiet (said (end_note done) ∷ []) (end_unrun done) refl

  pub turn_ran : (past : List Moment) (s : Scene) (later : List Moment) (t : Scene) (turn : Turn past s later t) → Good s.world.target → Units start past s.world s.media.disks → (serial : ℕ) (sent : Sent) (run : Option Told) → heard_in past s later t turn serial run → found_sent serial s.world.store.kept ≡ Some sent → sent.to ≡ 0 → MayTell run sent s.world.target s.media → NoneRan s.world.target sent run s.media ⊎ ComesOne start s.world s.media (hist past s.world) (hist later t.world) serial run
  turn_ran _ _ _ _ (by_line past s line event told o q m) good u serial sent run h found zero_to may = line_ran past s good u serial sent run found zero_to may line event told o q m h
  turn_ran _ _ _ _ (by_start past s line event d) good u serial sent run h found zero_to may = absurd h
  turn_ran _ _ _ _ (by_delivery past s one_told m) good u serial sent run h found zero_to may = ran_next start past s good u.each serial sent run found zero_to may one_told h.0 h.1
  turn_ran _ _ _ _ (by_end past s done) good u serial sent run h found zero_to may = absurd h
