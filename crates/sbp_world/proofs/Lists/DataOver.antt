-- At each place of a run in which no initiator injected packets, and before which lists were open as they should be, each end of an ORB, but as failed, was of one that had
-- not run before its turn, or of one whose last chunk of the answer was written then.
use Rattle.sbp_world.proofs.Words.Std.{arith, ◌≡◌, ◌∙◌, refl, sym, ap, subst, ◌<◌, ℕ, Bool, true, false, List, [], ◌∷◌, ◌++◌, map, length, Option, Some, None, false≢true, same_Some}
use Rattle.sbp_world.proofs.Words.Wire.{end_note, list_in, orb_in, Event, Note, Moment, asked, said}
use Rattle.sbp_world.proofs.Words.Target.{Disk, Told}
use Rattle.sbp_world.proofs.Words.Initiator.{StatusKind}
use Rattle.sbp_world.proofs.Words.Laws.{ends, runs, EachMoment}
use Rattle.sbp_world.proofs.Words.World.{moments_behind, MayHappen, happens, is_in_flight, may_repeat, Run, beginning, MayNext, delivered_at, delivered_next, lowest, holder, ticket_at, IsLine, Scene, WorldState, begun, without_notes, more_deliveries, Always, Under, AllEndSo, EndSo, WasWritten, is_behind, is_fresh, IsWritten, AreDry, IsAnswered, IsDry, IsFor, initiator_in, machine_at, AreWhole}
use Rattle.login_table.proofs.Searching.{within}
use Rattle.orb_layout.specs.declared.status.StatusKind.TheVariants as kinds
use Rattle.sbp_journal.specs.declared.event.Event.TheVariants as events
use Rattle.sbp_journal.specs.declared.note.Note.TheVariants as notes
use Rattle.sbp_world.specs.Settling.{MayAt}
use Rattle.sbp_world.proofs.Agents.Management.Still.{hist}
use Rattle.sbp_world.proofs.Lists.DataHears.{AreHeard, heard_asked, heard_there}
use Rattle.sbp_world.proofs.Lists.DataSteps.{IsEndNow, end_named, ends_behind, ends_fresh, reply_ends}
use Rattle.sbp_world.proofs.Lists.Endless.{AllLight, AllPlain, Delivers, IsEndBy, IsLightNote, IsPlain, OneEnd, Plainly, delivery_comes, light_death, light_plain, light_run, no_end, one_comes, one_end}
use Rattle.sbp_world.proofs.Lists.Endless as endless
use Rattle.sbp_world.proofs.Lists.Executes.{asked_of}
use Rattle.sbp_world.proofs.Lists.RunOutcomes.{AreAsked}
use Rattle.sbp_world.proofs.Lists.RunTells.{served_there}
use Rattle.sbp_world.proofs.Lists.StatusAnswers.{opened}
use Rattle.sbp_world.proofs.Lists.StatusProved.{Ground}
use Rattle.sbp_world.proofs.Lists.Stays.{ready_now}
use Rattle.sbp_world.proofs.Lists.Walks.{walked_after, walked_between}
use Rattle.sbp_world.proofs.Lists.Turned.{IsOne}
use Rattle.sbp_world.proofs.Lists.Turns.{Ready}
use Rattle.sbp_world.proofs.Lists.Walks.{Turn, Walks, by_delivery, by_end, by_line, by_start}
use Rattle.sbp_world.proofs.Lists.DataProved.{full_of}
use Rattle.sbp_world.proofs.Lists.DataWhole.{whole_law}
use Rattle.sbp_world.proofs.Lists.Full.{IsFull}
use Rattle.sbp_world.proofs.Common.{delivers, said_joined}

-- ---- an end
module _ (i : ℕ) where
  abbrev E : List Moment → Type 0
  E past = EachMoment (EndSo i) past

  plain_end : (note : Note) → IsPlain note → (past : List Moment) → EndSo i (said note) past
  plain_end (notes.Ended j (Some n) (Some k) kinds.Failed) p past = λ e proper. absurd (proper refl)
  plain_end (notes.Ended j (Some n) (Some k) kinds.Dummy) p past = absurd (false≢true (sym p))
  plain_end (notes.Ended j (Some n) (Some k) kinds.Good) p past = absurd (false≢true (sym p))
  plain_end (notes.Ended j (Some n) (Some k) (kinds.Check sense)) p past = absurd (false≢true (sym p))
  plain_end (notes.Ended j (Some n) (Some k) kinds.Aborted) p past = absurd (false≢true (sym p))
  plain_end (notes.Ended j (Some n) (Some k) (kinds.Illegal meaning)) p past = absurd (false≢true (sym p))
  plain_end (notes.Ended j (Some n) (Some k) (kinds.Management meaning)) p past = absurd (false≢true (sym p))
  plain_end (notes.Ended j (Some n) None status) p past = tt
  plain_end (notes.Ended j None k status) p past = tt
  plain_end _ p past = tt

  all_plain : (more : List Note) → AllPlain more → (past : List Moment) → E past → E (map said more ++ past)
  all_plain [] p past e = e
  all_plain (note ∷ more) p past e = (plain_end note p.0 (map said more ++ past), all_plain more p.1 past e)

  plainly_ends : (past : List Moment) (old new : List Note) → Plainly old new → E (map said old ++ past) → E (map said new ++ past)
  plainly_ends past old new q e = subst (λ ns. E (map said ns ++ past)) q.is (subst E (said_joined q.more old past) (all_plain q.more q.plain (map said old ++ past) e))

  early_ends : (early : List Note) → AllLight early → (past : List Moment) → E past → E (map said early ++ past)
  early_ends [] l past e = e
  early_ends (note ∷ early) l past e = (plain_end note (light_plain note l.0) (map said early ++ past), early_ends early l.1 past e)

  comes_ends : (past : List Moment) (End : ℕ → List Note → Note → Type 0) (old new : List Note) → ((serial : ℕ) (early : List Note) (ended : Note) → End serial early ended → EndSo i (said ended) (map said early ++ said (notes.Got serial) ∷ (map said old ++ past)) × AllLight early) → Delivers End old new → E (map said old ++ past) → E (map said new ++ past)
  comes_ends past End old new f (no_end q) e = plainly_ends past old new q e
  comes_ends past End old new f (one_end serial early ended x q) e =
      let got = said (notes.Got serial) ∷ (map said old ++ past) in
      let is = f serial early ended x in
      plainly_ends past (ended ∷ (early ++ notes.Got serial ∷ old)) new q (
        subst (λ ms. EndSo i (said ended) ms) (said_joined early (notes.Got serial ∷ old) past) is.0,
        subst E (said_joined early (notes.Got serial ∷ old) past) (early_ends early is.1 got (tt, e)),
      )

  by_names : (past : List Moment) (j : ℕ) (x y : Option ℕ) (status : StatusKind) → ((n k : ℕ) → x ≡ Some n → y ≡ Some k → j ≡ i → (status ≡ kinds.Failed → ⊥) → WasWritten past i n k) → EndSo i (said (notes.Ended j x y status)) past
  by_names past j None y status f = tt
  by_names past j (Some n) None status f = tt
  by_names past j (Some n) (Some k) status f = λ e proper. f n k refl refl e proper

-- ---- what is known as a turn begins
pub record Known (wild : ℕ → Bool) (past : List Moment) (w : WorldState) : Type 0 where
  pub ready : Ready wild past w
  pub asked_orbs : AreAsked wild (hist past w) w
  pub heard : AreHeard wild (hist past w) w
  pub full : (q : ℕ) → q < 8 → wild (initiator_in w q) ≡ false → IsFull (machine_at w q)

module _ (wild : ℕ → Bool) (i : ℕ) (own : wild i ≡ false) (past : List Moment) (s : Scene) (known : Known wild past s.world) (run : Option Told) (serial : ℕ) (early : List Note) (ended : Note) (r : IsEndBy s run serial early ended) where
  abbrev w : WorldState
  w = s.world

  abbrev ms : List Moment
  ms = hist past w

  abbrev now : List Moment
  now = map said early ++ said (notes.Got serial) ∷ ms

  abbrev is_for : IsFor w r.sent
  is_for = record { serial = serial; found = r.found; to = r.to }

  small : r.place < 8
  small = let l = within w.target.logins.places r.place r.by.login (served_there w.target r.place r.by.login r.by.served) in let c = known.ready.good.table.sound.size in omega arith

  module _ (mine : (holder w r.place).initiator ≡ i) (proper : r.status ≡ kinds.Failed → ⊥) where
    ours : wild (holder w r.place).initiator ≡ false
    ours = ap wild mine ∙ own

    abbrev n : ℕ
    n = (opened wild past w known.ready known.asked_orbs r.sent is_for run s.media.disks r.by.packet r.by.label r.place r.by.found small r.by.login r.by.which r.by.is_which ours).n

    it : IsEndNow ms (holder w r.place).initiator n (ends ms (holder w r.place).initiator n) serial
    it = reply_ends wild past w known.ready known.asked_orbs r.sent is_for run s.media.disks r.by.packet r.by.label r.place r.by.found small r.by.login r.by.which r.by.is_which ours r.status r.by.ended (known.full r.place small ours) known.heard proper

    names : (list_in (ticket_at w r.place r.orb) ≡ Some n) × (orb_in (ticket_at w r.place r.orb) ≡ Some (ends ms (holder w r.place).initiator n))
    names =
        let x = end_named wild past w known.ready known.asked_orbs r.sent is_for run s.media.disks r.by.packet r.by.label r.place r.by.found small r.by.login r.by.which r.by.is_which ours r.status r.by.ended in
        (ap (λ at. list_in (ticket_at w r.place at)) r.by.orb_is ∙ x.0, ap (λ at. orb_in (ticket_at w r.place at)) r.by.orb_is ∙ x.1)

    joined : (a : List Note) (m : Moment) (base : List Moment) → (map said a ++ m ∷ []) ++ base ≡ map said a ++ m ∷ base
    joined [] m base = refl
    joined (x ∷ a) m base = ap (λ ms. said x ∷ ms) (joined a m base)

    as_written : (j k : ℕ) → k ≡ ends ms j n → IsEndNow ms j n (ends ms j n) serial → IsWritten now ms j n k
    as_written j k number (ends_fresh none) = is_fresh (subst (λ y. runs ms j n y ≡ 0) (sym number) none)
    as_written j k number (ends_behind m whole a) = is_behind serial (map said early) refl m whole (subst (λ y. IsAnswered ms j n y m serial) (sym number) a)

    light_dry : (j : ℕ) (early : List Note) → AllLight early → AreDry j (map said early ++ said (notes.Got serial) ∷ [])
    light_dry j [] l = (tt, tt)
    light_dry j (note ∷ early) l = (by note l.0, light_dry j early l.1)
      where
        by : (note : Note) → IsLightNote note → IsDry j (said note)
        by _ (light_run a n k unit cdb bytes check) = tt
        by _ (light_death a n cause) = tt

    was_written : (j k : ℕ) → k ≡ ends ms j n → IsEndNow ms j n (ends ms j n) serial → WasWritten now j n k
    was_written j k number x = record { later = map said early ++ said (notes.Got serial) ∷ []; before = ms; is = joined early (said (notes.Got serial)) ms; number_is = number; alone = light_dry j early r.light; written = as_written j k number x }

    written_at : (j k : ℕ) → j ≡ i → k ≡ ends ms j n → IsEndNow ms j n (ends ms j n) serial → WasWritten now i n k
    written_at j k e number x = subst (λ y. WasWritten now y n k) e (was_written j k number x)

    so : (m k : ℕ) → list_in (ticket_at w r.place r.orb) ≡ Some m → orb_in (ticket_at w r.place r.orb) ≡ Some k → WasWritten now i m k
    so m k e f =
        let x = names in
        subst (λ y. WasWritten now i y k) (same_Some n m (sym x.0 ∙ e)) (written_at (holder w r.place).initiator k mine (same_Some k (ends ms (holder w r.place).initiator n) (sym f ∙ x.1)) it)

  pub end_told : EndSo i (said ended) now
  end_told =
      subst (λ note. EndSo i (said note) now) (sym r.is)
      (by_names i now (holder w r.place).initiator (list_in (ticket_at w r.place r.orb)) (orb_in (ticket_at w r.place r.orb)) r.status (λ m k e f mine proper. so mine proper m k e f))

-- ---- each turn
module _ (wild : ℕ → Bool) (i : ℕ) (own : wild i ≡ false) where
  known_asked : (line : ℕ) (event : Event) (past : List Moment) (w : WorldState) → AreHeard wild (asked line event ∷ hist past w) (without_notes w) → Known wild past w → Known wild (asked line event ∷ hist past w) (without_notes w)
  known_asked line event past w heard k = record {
    ready = ready_now wild line event past w k.ready;
    asked_orbs = λ place c is_open mine n list number from below. k.asked_orbs place c is_open mine n list number from below;
    heard = heard;
    full = λ q b own. k.full q b own;
  }

  told_so : (past : List Moment) (s : Scene) → Known wild past s.world → (run : Option Told) (serial : ℕ) (early : List Note) (ended : Note) → IsEndBy s run serial early ended → EndSo i (said ended) (map said early ++ said (notes.Got serial) ∷ hist past s.world) × AllLight early
  told_so past s k run serial early ended r = (end_told wild i own past s k run serial early ended r, r.light)

  one_so : (past : List Moment) (s : Scene) (k : Known wild past s.world) (line packet : ℕ) (again : Bool) (run : List (Option Told)) (serial : ℕ) (early : List Note) (ended : Note) → OneEnd s k.ready.good line packet again run serial early ended → EndSo i (said ended) (map said early ++ said (notes.Got serial) ∷ hist past s.world) × AllLight early
  one_so past s k line packet again [] serial early ended r = absurd r
  one_so past s k line packet again (one ∷ more) serial early ended r = told_so past s k one serial early ended r

  plain_line : (past : List Moment) (w : WorldState) (line : ℕ) (event : Event) (new : List Note) → Plainly [] new → E i (hist past w) → E i (map said new ++ asked line event ∷ hist past w)
  plain_line past w line event new q e = plainly_ends i (asked line event ∷ hist past w) [] new q (tt, e)

  line_ends : (past : List Moment) (line : ℕ) (s : Scene) (event : Event) (told : List (Option Told)) → IsOne event → IsLine event (length s.world.initiators) → MayHappen event told s → Known wild past s.world → E i (hist past s.world) → E i (hist (asked line event ∷ hist past s.world) (happens line event told s).world)
  unfolding happens MayHappen
  line_ends past line s (events.Begin initiators is_ready) told o q m k e = absurd q
  line_ends past line s (events.Act j action) told o q m k e = plain_line past s.world line (events.Act j action) _ (endless.acts (without_notes s.world) k.ready.good.mid.size line j action) e
  line_ends past line s (events.Reset physical) told o q m k e = plain_line past s.world line (events.Reset physical) _ (endless.resets (without_notes s.world) k.ready.good.mid.size physical) e
  line_ends past line s (events.See node) told o q m k e = plain_line past s.world line (events.See node) _ (endless.sights (without_notes s.world) k.ready.good.mid.size node) e
  line_ends past line s (events.Deliver serial) told o q m k e =
      let now = asked line (events.Deliver serial) ∷ hist past s.world in
      let there = known_asked line (events.Deliver serial) past s.world (heard_asked wild line (events.Deliver serial) false (λ t. refl) (hist past s.world) s.world k.heard) k in
      comes_ends i now (OneEnd (begun s) there.ready.good line serial false told) [] _ (one_so now (begun s) there line serial false told)
      (one_comes (begun s) there.ready.good line serial false (is_in_flight serial (begun s).world) told m) (tt, e)
  line_ends past line s (events.Repeat serial) told o q m k e =
      let now = asked line (events.Repeat serial) ∷ hist past s.world in
      let there = known_asked line (events.Repeat serial) past s.world (heard_asked wild line (events.Repeat serial) true (λ t. refl) (hist past s.world) s.world k.heard) k in
      comes_ends i now (OneEnd (begun s) there.ready.good line serial true told) [] _ (one_so now (begun s) there line serial true told)
      (one_comes (begun s) there.ready.good line serial true (may_repeat serial (begun s).world) told m) (tt, e)
  line_ends past line s (events.Lose serial) told o q m k e = plain_line past s.world line (events.Lose serial) _ (endless.loses (without_notes s.world) k.ready.good.mid.size line serial) e
  line_ends past line s (events.Timeout serial) told o q m k e = plain_line past s.world line (events.Timeout serial) _ (endless.late (without_notes s.world) k.ready.good.mid.size line serial) e
  line_ends past line s (events.Step count) told o q m k e = absurd o
  line_ends past line s events.Settle told o q m k e = absurd o
  line_ends past line s events.Tick told o q m k e = plain_line past s.world line events.Tick _ (endless.ticks (without_notes s.world) k.ready.good.mid.size) e
  line_ends past line s (events.Inject j bytes) told o q m k e = plain_line past s.world line (events.Inject j bytes) _ (endless.injects (without_notes s.world) k.ready.good.mid.size line j bytes) e
  line_ends past line s (events.Key unit key) told o q m k e = plain_line past s.world line (events.Key unit key) _ (endless.keys (without_notes s.world) k.ready.good.mid.size line unit key) e

  lowest_ends : (past : List Moment) (s : Scene) → Known wild past s.world → (one : Option Told) (o : Option ℕ) → MayAt o one s → E i (hist past s.world) → E i (hist past (delivered_at o one s).world)
  lowest_ends past s k one None m e = absurd m
  lowest_ends past s k one (Some serial) m e =
      comes_ends i past (IsEndBy s one) s.world.fresh (delivered_at (Some serial) one s).world.fresh (told_so past s k one) (delivery_comes s k.ready.good serial false one m) e

  next_ends : (past : List Moment) (s : Scene) → Known wild past s.world → (one : Option Told) → MayNext one s → E i (hist past s.world) → E i (hist past (delivered_next one s).world)
  unfolding delivered_next MayNext
  next_ends past s k one m e = lowest_ends past s k one (lowest s.world) m e

  done_ends : (past : List Moment) (w : WorldState) (done : Bool) → E i (hist past w) → E i (said (end_note done) ∷ hist past w)
  done_ends past w true e = (tt, e)
  done_ends past w false e = (tt, e)

  turn_ends : (past : List Moment) (s : Scene) (later : List Moment) (t : Scene) → Turn past s later t → Known wild past s.world → E i (hist past s.world) → E i (hist later t.world)
  turn_ends _ _ _ _ (by_line past s line event told o q m) k e = line_ends past line s event told o q m k e
  turn_ends _ _ _ _ (by_start past s line event d) k e = (tt, e)
  turn_ends _ _ _ _ (by_delivery past s one m) k e = next_ends past s k one m e
  turn_ends _ _ _ _ (by_end past s done) k e = done_ends past s.world done e

-- ---- over a run, of the initiators that injected no packets
abbrev AllEnds : (ℕ → Bool) → List Moment → WorldState → Type 0
AllEnds wild ms w = (i : ℕ) → i < length w.initiators → wild i ≡ false → EachMoment (EndSo i) ms

ends_walk : (wild : ℕ → Bool) (units ready : ℕ) → 0 < units → (start : List Disk) → Walks wild units ready start Ground AreWhole (AllEnds wild)
ends_walk wild units ready has start past s later t step p i b own =
    let w = s.world in
    let at = step.stands.reached in
    let known : Known wild past w = record {
      ready = step.stands.known_all;
      asked_orbs = asked_of wild start units ready has w at.holds at.site step.stands.lists at.calm step.known.orbs;
      heard = λ serial sent found zero_to packet label place e is_which c mild answering.
          heard_there wild units ready has start w at.holds at.site step.stands.lists at.calm step.known.orbs (λ p d. at.kept.on p d) serial sent found zero_to packet label place e is_which c mild answering;
      full = full_of wild (hist past w) w at.calm (step.so_far i own);
    } in
    turn_ends wild i own past s later t step.turn known (p i (subst (λ n. i < n) step.count b) own)

first_ends : (wild : ℕ → Bool) (line : ℕ) (run : Run) → AllEnds wild (moments_behind line run []) (beginning run).world
first_ends wild line run = λ i b own. (tt, (tt, tt))

pub ends_law : Always Ground → Under AllEndSo
ends_law ground = record {
  after_lines = λ line run r has small size so_far i b calm. walked_after Ground AreWhole AllEnds ground whole_law ends_walk first_ends line run r has small size so_far i b calm;
  between = λ line run r has small size next most told m so_far i b calm.
      walked_between Ground AreWhole AllEnds ground whole_law ends_walk first_ends line run r has small size next (more_deliveries most) (delivers most) told m so_far i b calm;
}
