-- In every run a command runs on the unit of a live login of its initiator; where lists were open as they should be before, the command of an ORB of an initiator that
-- injected no packets has the outcome that the plain disk allows for its request; and with the laws of lists this is the execution law.
use Rattle.sbp_world.proofs.Words.Std.{arith, ◌≡◌, ◌∙◌, inl, inr, ◌⊎◌, refl, sym, ap, subst, ℕ, ◌+◌, ◌^◌, ◌<◌, ◌≤◌, Bool, true, false, List, [], ◌∷◌, ◌++◌, map, length, Option, Some, None, same_Some}
use Rattle.sbp_world.proofs.Words.Wire.{AreJudged, is_reset, end_note, judged_note, or_nobody, Holder, Judged, Event, Note, Moment, asked, said, Terms, terms}
use Rattle.sbp_world.proofs.Words.Target.{Disk, Told}
use Rattle.sbp_world.proofs.Words.Laws.{ExecutionAt, ExecutionLaw, injectors, linked, orb, slot_at, ends, EachMoment}
use Rattle.sbp_world.proofs.Words.World.{history_of, moments_behind, MayHappen, happens, ready_logins, is_in_flight, may_repeat, AreEntries, Entry, Run, after, beginning, MayAll, MayNext, after_all, delivered_at, delivered_next, is_settled, lowest, holder, AreLines, IsLine, Scene, WorldState, begun, initiator_at, without_notes, DeliversMore, HoldsOrbs, IsRun, more_deliveries, ReadAt, RunsAreRead, RunsReadLaw, EndAt, EndsAreRead, EndsReadLaw, DueRunsLaw, FedAt, RunsAreFed, RunsFedLaw, ExecutionRunLaw, LoginAt, LoginsLaw, LoginsRunLaw, OutcomeAt, OutcomesLaw, OutcomesRunLaw, IsCalm, IsNamed, OpenAfter, OpenBefore, OpenBetween, OpenIn, OpenLists, OpenWhile, OpensLaw, AskedAsGot, ListsAt, RunsAt, RunsLaw, AreLed, IsTameOrFew, ClosingLaw, OpenListsLaw, AreAskedAt}
use Rattle.sbp_journal.specs.declared.cause.Judged.TheVariants as judgements
use Rattle.sbp_journal.specs.declared.event.Event.TheVariants as events
use Rattle.sbp_journal.specs.declared.note.Note.TheVariants as notes
use Rattle.sbp_journal.specs.Wire.{opened as opened_by}
use Rattle.sbp_world.specs.Settling.{MayAt}
use Rattle.sbp_world.proofs.Agents.Management.Holding.{Holding}
use Rattle.sbp_world.proofs.Agents.Management.Lines.{opens}
use Rattle.sbp_world.proofs.Agents.Management.Runs.{no_repeats, not_reset}
use Rattle.sbp_world.proofs.Agents.Management.Still.{hist}
use Rattle.sbp_world.proofs.Agents.Holders.{are_held, seats_after}
use Rattle.sbp_world.proofs.Agents.Seating.{all_seats, opened as seats_opened}
use Rattle.sbp_world.proofs.Agents.Seats.{Seats}
use Rattle.sbp_world.proofs.Agents.Units.{AreThe, units_after}
use Rattle.sbp_world.proofs.Agents.UnitsLines.{Units, all_units, opened as units_opened}
use Rattle.sbp_world.proofs.Agents.UnitsTold.{AreFound, IsFoundBy}
use Rattle.sbp_world.proofs.Hosts.Orbs.{orbs_law}
use Rattle.sbp_world.proofs.Hosts.Runs.{count_after, count_between, are_told}
use Rattle.sbp_world.specs.Lists.Running.{ListsLaw}
use Rattle.sbp_world.proofs.Lists.Beside.{tame_or_few_before}
use Rattle.sbp_world.proofs.Lists.Calm.{asked_calm, calm_before}
use Rattle.sbp_world.proofs.Lists.DueRuns.{AtDelivery}
use Rattle.sbp_world.proofs.Lists.DueWalk.{AreDue, where_due, end_due, line_due, next_due, one_due}
use Rattle.sbp_world.proofs.Wire.Starts.{laws_of}
use Rattle.sbp_world.proofs.Lists.Endless as endless
use Rattle.sbp_world.proofs.Lists.Endless.{IsEndBy, OneEnd, no_end, one_end}
use Rattle.sbp_world.proofs.Lists.EndReads.{ended_so, plain_at as end_plain}
use Rattle.sbp_world.proofs.Lists.FedPlaces.{HasHeard, has_heard, line_heard}
use Rattle.sbp_world.proofs.Lists.FedRuns.{fed_so}
use Rattle.sbp_world.proofs.Lists.EndNames.{EndNamedAt, ended_named, plain_named}
use Rattle.sbp_world.proofs.Lists.RunNames.{RunNamedAt, named_so, plain_named as run_plain}
use Rattle.sbp_world.proofs.Lists.NamedPlaces.{HasNames, has_names, line_names}
use Rattle.sbp_world.proofs.Lists.LedRuns.{led_everywhere}
use Rattle.sbp_world.proofs.Lists.FedStillPlaces.{line_fed}
use Rattle.sbp_world.proofs.Lists.FedStillReads.{AreFedStill}
use Rattle.sbp_world.proofs.Lists.FedStillRuns.{fed_everywhere}
use Rattle.sbp_world.proofs.Lists.StillRuns.{still_everywhere}
use Rattle.sbp_world.proofs.Lists.StillReads.{AreStill}
use Rattle.sbp_world.proofs.Lists.Courses.{EveryPlace, more_than_one}
use Rattle.sbp_world.proofs.Lists.OpenProved.{opens_law, nobody_needs}
use Rattle.sbp_world.proofs.Lists.OrbLines.{line_reads}
use Rattle.sbp_world.proofs.Lists.OrbPlaces.{HasReads, has_reads}
use Rattle.sbp_world.proofs.Lists.OrbWaits.{asked_everywhere, delivering_asks, repeating_asks}
use Rattle.sbp_world.proofs.Lists.Passes.{Facts, ready}
use Rattle.sbp_world.proofs.Lists.Passing.{PassLaw}
use Rattle.sbp_world.proofs.Lists.RunFits.{stands_asked}
use Rattle.sbp_world.proofs.Lists.Runless.{AllPlain, Delivers, IsPlain, IsRunBy, IsRunlessBy, NoneRun, OneRan, Plainly, acts, delivery_comes, injects, keys, late, loses, no_run, none_judged, one_comes, one_run, plain_none, resets, sights, ticks}
use Rattle.sbp_world.proofs.Lists.OnceLaws.{lists_run_law, runs_run_law}
use Rattle.sbp_world.proofs.Lists.RunOutcomes.{AreAsked, IsSet, run_so}
use Rattle.sbp_world.proofs.Lists.RunReads.{read_so}
use Rattle.sbp_world.proofs.Lists.RunSites.{more_by}
use Rattle.sbp_world.proofs.Lists.Runs.{At, EarlyAfter, KeptAfter, as_front, at_told, calm_at, calm_back, early_after, facts, facts_at, history_is, holds_at, hosts, is_run, kept_told, lists_at, lists_here, next_holds, next_is, next_kept, site, site_at}
use Rattle.sbp_world.proofs.Lists.Sites.{Site, named_prepared}
use Rattle.sbp_world.proofs.Lists.Stays.{ready_now}
use Rattle.sbp_world.proofs.Lists.Turns.{Ready}
use Rattle.sbp_world.proofs.Common.{said_split}
use Rattle.sbp_world.proofs.Lists.JoinLaws.{moments_same}

-- ---- the law at a moment
-- where no initiator injected packets, or few logins were given, so that lists are open as they should be, and were so before
abbrev pub OpensBeside : List Moment → Type 0
OpensBeside past = ClosingLaw × OpenListsLaw × IsTameOrFew past

-- an ORB that runs was read, by its name
abbrev pub NamedRun : (ℕ → Bool) → List Disk → Moment → List Moment → Type 0
NamedRun wild start moment past = RunNamedAt (OpensBeside past) wild start moment past

abbrev RunAt : (ℕ → Bool) → List Disk → Moment → List Moment → Type 0
RunAt wild start moment past = LoginAt start moment past × (OutcomeAt wild start moment past × (ReadAt wild start moment past × (FedAt wild start moment past × NamedRun wild start moment past)))

-- an ORB that ends was read, by its name
abbrev pub NamedEnd : (ℕ → Bool) → List Disk → Moment → List Moment → Type 0
NamedEnd wild start moment past = EndNamedAt (OpensBeside past) wild start moment past

abbrev pub EndSo : (ℕ → Bool) → List Disk → Moment → List Moment → Type 0
EndSo wild start moment past = EndAt wild start moment past × NamedEnd wild start moment past

pub opens_before : (later past : List Moment) → OpensBeside (later ++ past) → OpensBeside past
opens_before later past so = (so.0, so.1, tame_or_few_before later past so.2)

abbrev Law : (ℕ → Bool) → List Disk → List Moment → Type 0
Law wild start past = EachMoment (RunAt wild start) past

module _ (wild : ℕ → Bool) (start : List Disk) where
  plain_at : (note : Note) → IsPlain note → (past : List Moment) → RunAt wild start (said note) past
  plain_at (notes.Ran i n k unit cdb bytes check) h past = absurd h
  plain_at note h past = (tt, (tt, (tt, (tt, run_plain (OpensBeside past) wild start note h past))))

  plain_law : (more : List Note) → AllPlain more → (past : List Moment) → Law wild start past → Law wild start (map said more ++ past)
  plain_law [] h past l = l
  plain_law (note ∷ more) h past l = (plain_at note h.0 (map said more ++ past), plain_law more h.1 past l)

  -- notes of no run
  plainly_law : (past : List Moment) (old new : List Note) → Plainly old new → Law wild start (map said old ++ past) → Law wild start (map said new ++ past)
  plainly_law past old new q l =
      subst (λ ns. Law wild start (map said ns ++ past)) q.is (subst (Law wild start) (sym (said_split q.more old past)) (plain_law q.more q.plain (map said old ++ past) l))

  passed : (more : List Note) (past : List Moment) → PassLaw wild (map said more ++ past) → PassLaw wild past
  passed [] past p = p
  passed (note ∷ more) past p = passed more past p.1

  -- a packet is delivered
  judged_at : (serial : ℕ) (judged : Judged) (past : List Moment) → RunAt wild start (said (judged_note serial judged)) past
  judged_at serial judgements.Got past = (tt, (tt, (tt, (tt, tt))))
  judged_at serial (judgements.Ignored cause) past = (tt, (tt, (tt, (tt, tt))))

  delivers_law : (past : List Moment) (None_ran : ℕ → Judged → Type 0) (Ran : ℕ → Note → Type 0) (old new : List Note) → ((serial : ℕ) (ran : Note) → Ran serial ran → (let now = said (notes.Got serial) ∷ (map said old ++ past) in PassLaw wild (said ran ∷ now) → RunAt wild start (said ran) now)) → Delivers None_ran Ran old new → PassLaw wild (map said new ++ past) → Law wild start (map said old ++ past) → Law wild start (map said new ++ past)
  delivers_law past None_ran Ran old new f (none_judged e) passes l = subst (λ ns. Law wild start (map said ns ++ past)) (sym e) l
  delivers_law past None_ran Ran old new f (no_run serial judged none q) passes l = plainly_law past (judged_note serial judged ∷ old) new q (judged_at serial judged (map said old ++ past), l)
  delivers_law past None_ran Ran old new f (one_run serial ran r q) passes l =
      let front = ran ∷ notes.Got serial ∷ old in
      let before : PassLaw wild (map said front ++ past) = passed q.more (map said front ++ past) (subst (PassLaw wild) (said_split q.more front past) (subst (λ ns. PassLaw wild (map said ns ++ past)) (sym q.is) passes)) in
      plainly_law past front new q (f serial ran r before, ((tt, (tt, (tt, (tt, tt)))), l))

  one_law : (past : List Moment) (None_ran : ℕ → Judged → Type 0) (Ran : ℕ → Note → Type 0) (old new : List Note) → ((serial : ℕ) (ran : Note) → Ran serial ran → (let now = said (notes.Got serial) ∷ (map said old ++ past) in PassLaw wild (said ran ∷ now) → RunAt wild start (said ran) now)) → Plainly old new ⊎ Delivers None_ran Ran old new → PassLaw wild (map said new ++ past) → Law wild start (map said old ++ past) → Law wild start (map said new ++ past)
  one_law past None_ran Ran old new f (inl q) passes l = plainly_law past old new q l
  one_law past None_ran Ran old new f (inr d) passes l = delivers_law past None_ran Ran old new f d passes l

  run_told : (past : List Moment) (s : Scene) → IsSet wild start past s → (OpensBeside (hist past s.world) → HasNames start past s.world) → (run : Option Told) (serial : ℕ) (ran : Note) → IsRunBy s run serial ran → (let now = said (notes.Got serial) ∷ hist past s.world in PassLaw wild (said ran ∷ now) → RunAt wild start (said ran) now)
  run_told past s set names run serial ran r passes =
      let x = run_so wild start past s set run ran serial r passes.0 in
      (x.0, (x.1, (read_so wild start past s set run ran serial r passes.0, (fed_so wild start past s set run ran serial r passes.0, named_so (OpensBeside (said (notes.Got serial) ∷ hist past s.world)) wild start past s set (λ so. names (opens_before (said (notes.Got serial) ∷ []) (hist past s.world) so)) run ran serial r passes.0))))

  one_told : (past : List Moment) (s : Scene) (set : IsSet wild start past s) → (OpensBeside (hist past s.world) → HasNames start past s.world) → (line packet : ℕ) (again : Bool) (run : List (Option Told)) (serial : ℕ) (ran : Note) → OneRan s set.ready.good line packet again run serial ran → (let now = said (notes.Got serial) ∷ hist past s.world in PassLaw wild (said ran ∷ now) → RunAt wild start (said ran) now)
  one_told past s set names line packet again [] serial ran r passes = absurd r
  one_told past s set names line packet again (one ∷ more) serial ran r passes = run_told past s set names one serial ran r passes

  lowest_law : (past : List Moment) (s : Scene) → IsSet wild start past s → (OpensBeside (hist past s.world) → HasNames start past s.world) → (one : Option Told) (o : Option ℕ) → MayAt o one s → PassLaw wild (hist past (delivered_at o one s).world) → Law wild start (hist past s.world) → Law wild start (hist past (delivered_at o one s).world)
  lowest_law past s set names one None m passes l = absurd m
  lowest_law past s set names one (Some serial) m passes l =
      delivers_law past (IsRunlessBy s one) (IsRunBy s one) s.world.fresh (delivered_at (Some serial) one s).world.fresh (run_told past s set names one) (delivery_comes s set.ready.good serial false one m) passes l

  next_law : (past : List Moment) (s : Scene) → IsSet wild start past s → (OpensBeside (hist past s.world) → HasNames start past s.world) → (one : Option Told) → MayNext one s → PassLaw wild (hist past (delivered_next one s).world) → Law wild start (hist past s.world) → Law wild start (hist past (delivered_next one s).world)
  unfolding delivered_next MayNext
  next_law past s set names one m passes l = lowest_law past s set names one (lowest s.world) m passes l

  end_law : (past : List Moment) (done : Bool) → RunAt wild start (said (end_note done)) past × EndSo wild start (said (end_note done)) past
  end_law past true = ((tt, (tt, (tt, (tt, tt)))), (tt, tt))
  end_law past false = ((tt, (tt, (tt, (tt, tt)))), (tt, tt))

  -- ---- the ORBs that end were read
  abbrev E : List Moment → Type 0
  E past = EachMoment (EndSo wild start) past

  plain_end : (note : Note) → endless.IsPlain note → (past : List Moment) → EndSo wild start (said note) past
  plain_end note h past = (end_plain wild start note h past, plain_named (OpensBeside past) wild start note h past)

  mild_law : (more : List Note) → endless.AllPlain more → (past : List Moment) → E past → E (map said more ++ past)
  mild_law [] h past l = l
  mild_law (note ∷ more) h past l = (plain_end note h.0 (map said more ++ past), mild_law more h.1 past l)

  mildly_law : (past : List Moment) (old new : List Note) → endless.Plainly old new → E (map said old ++ past) → E (map said new ++ past)
  mildly_law past old new q l = subst (λ ns. E (map said ns ++ past)) q.is (subst E (sym (said_split q.more old past)) (mild_law q.more q.plain (map said old ++ past) l))

  early_law : (early : List Note) → endless.AllLight early → (past : List Moment) → E past → E (map said early ++ past)
  early_law [] h past l = l
  early_law (note ∷ early) h past l = (plain_end note (endless.light_plain note h.0) (map said early ++ past), early_law early h.1 past l)

  ends_law : (past : List Moment) (End : ℕ → List Note → Note → Type 0) (old new : List Note) → ((serial : ℕ) (early : List Note) (ended : Note) → End serial early ended → (let now = map said early ++ said (notes.Got serial) ∷ (map said old ++ past) in EndSo wild start (said ended) now × endless.AllLight early)) → endless.Delivers End old new → E (map said old ++ past) → E (map said new ++ past)
  ends_law past End old new f (no_end q) l = mildly_law past old new q l
  ends_law past End old new f (one_end serial early ended x q) l =
      let got = said (notes.Got serial) ∷ (map said old ++ past) in
      let is = f serial early ended x in
      mildly_law past (ended ∷ (early ++ notes.Got serial ∷ old)) new q (
        subst (λ ms. EndSo wild start (said ended) ms) (sym (said_split early (notes.Got serial ∷ old) past)) is.0,
        subst E (sym (said_split early (notes.Got serial ∷ old) past)) (early_law early is.1 got ((tt, tt), l)),
      )

  end_told : (past : List Moment) (s : Scene) → IsSet wild start past s → (OpensBeside (hist past s.world) → HasNames start past s.world) → (run : Option Told) (serial : ℕ) (early : List Note) (ended : Note) → IsEndBy s run serial early ended → (let now = map said early ++ said (notes.Got serial) ∷ hist past s.world in EndSo wild start (said ended) now × endless.AllLight early)
  end_told past s set names run serial early ended r =
      let got = said (notes.Got serial) ∷ hist past s.world in (
        (
          ended_so wild start past s set run serial early ended r,
          ended_named (OpensBeside (map said early ++ got)) wild start past s set (λ so. names (opens_before (said (notes.Got serial) ∷ []) (hist past s.world) (opens_before (map said early) got so))) run serial early ended r,
        ),
        r.light,
      )

  one_ended : (past : List Moment) (s : Scene) (set : IsSet wild start past s) → (OpensBeside (hist past s.world) → HasNames start past s.world) → (line packet : ℕ) (again : Bool) (run : List (Option Told)) (serial : ℕ) (early : List Note) (ended : Note) → OneEnd s set.ready.good line packet again run serial early ended → (let now = map said early ++ said (notes.Got serial) ∷ hist past s.world in EndSo wild start (said ended) now × endless.AllLight early)
  one_ended past s set names line packet again [] serial early ended r = absurd r
  one_ended past s set names line packet again (one ∷ more) serial early ended r = end_told past s set names one serial early ended r

  lowest_ends : (past : List Moment) (s : Scene) → IsSet wild start past s → (OpensBeside (hist past s.world) → HasNames start past s.world) → (one : Option Told) (o : Option ℕ) → MayAt o one s → E (hist past s.world) → E (hist past (delivered_at o one s).world)
  lowest_ends past s set names one None m l = absurd m
  lowest_ends past s set names one (Some serial) m l =
      ends_law past (IsEndBy s one) s.world.fresh (delivered_at (Some serial) one s).world.fresh (end_told past s set names one) (endless.delivery_comes s set.ready.good serial false one m) l

  next_ends : (past : List Moment) (s : Scene) → IsSet wild start past s → (OpensBeside (hist past s.world) → HasNames start past s.world) → (one : Option Told) → MayNext one s → E (hist past s.world) → E (hist past (delivered_next one s).world)
  unfolding delivered_next MayNext
  next_ends past s set names one m l = lowest_ends past s set names one (lowest s.world) m l

  -- ---- what is known as a turn begins
  module _ (units logins : ℕ) (has : 0 < units) {past : List Moment} {lines : ℕ} (w : WorldState) (h : Holding units logins start past lines w) where
    found_of : Seats w → AreFound start past w w.target.logins.places
    found_of q place login e live =
        let i = (are_held units logins has start w h q).held place login e in
        subst (λ (x : Holder). IsFoundBy start (hist past w) x place login) (sym (ap or_nobody i.there)) (record { unit_is = i.unit_is; found = (i.live live).place_is })

    pub asked_of : Site start past w → ((i : ℕ) → wild i ≡ false → OpenLists (hist past w) w) → ((i : ℕ) → wild i ≡ false → IsCalm (hist past w) i) → ((i : ℕ) → i < length w.initiators → HoldsOrbs (hist past w) i (initiator_at w i)) → AreAsked wild (hist past w) w
    asked_of s lists calm orbs place b is_open own n list number from below =
        let ms = hist past w in
        let i = (holder w place).initiator in
        let o = (lists i own).listed place b is_open (calm i own) in
        let same : o.n ≡ n = same_Some o.n n (sym o.list ∙ list) in
        let named : (j : ℕ) → ends ms i n ≤ j → j < linked ms i n → IsNamed ms w place n j = subst (λ x. (j : ℕ) → ends ms i x ≤ j → j < linked ms i x → IsNamed ms w place x j) same o.named in
        let slot = slot_at ms i n number in
        let prepared = named_prepared units logins has start w h s place n number o.inside (named number from below) in
        stands_asked ms i (initiator_at w i).lists.memory slot (orb n number) prepared.small (λ cmd command. s.filled i o.inside slot n number cmd prepared.small prepared.there command) ((orbs i o.inside).stands slot (orb n number) prepared.small prepared.there)

-- ---- over a run
-- what is known of a place by names
record KnowsNames (start : List Disk) (past : List Moment) (w : WorldState) : Type 0 where
  waits : EachMoment (AskedAsGot start) past
  led : AreLed start past
  still : AreStill start past w
  fed : AreFedStill start past w

abbrev opened : (wild : ℕ → Bool) → (i : ℕ) → wild i ≡ false → OpensLaw
opened wild i own = opens_law

module _ (wild : ℕ → Bool) (line : ℕ) (run : Run) (few : run.initiators ≤ 4) (has : 0 < run.units) (small : run.units ≤ 4) (size : length run.start.disks ≡ run.units) where
  abbrev start : List Disk
  start = run.start.disks

  abbrev logins : ℕ
  logins = ready_logins run.initiators run.ready

  abbrev Given : Type 0 → Type 0
  Given known = (i : ℕ) → wild i ≡ false → known

  abbrev AllCalm : List Moment → Type 0
  AllCalm ms = (i : ℕ) → wild i ≡ false → IsCalm ms i

  abbrev L : List Moment → Type 0
  L ms = Law wild start ms × (EachMoment (EndSo wild start) ms × AreDue start ms)

  -- behind some of its lines
  module _ (entries : List Entry) (short : length entries + 2 < 2 ^ 32) (all : AreEntries (beginning run) entries) (fit : AreLines run entries) (so_far : Given (OpenBefore line run entries)) (x : EarlyAfter wild (opened wild) line run few has small size entries (after (beginning run) entries).world) (ends : Given (OpenAfter line run entries)) (calm : AllCalm (moments_behind line run entries)) where
    abbrev here : Scene
    here = after (beginning run) entries

    abbrev b : KeptAfter wild (opened wild) line run few has small size entries here.world
    b = x.so_far

    abbrev front : Run
    front = record run { entries = entries }

    front_run : IsRun front
    front_run = is_run wild (opened wild) line run few has small size entries short all fit

    open_here : (i : ℕ) → wild i ≡ false → OpenLists (hist b.past here.world) here.world
    open_here = lists_here wild (opened wild) line run few has small size entries short all fit b.past (length entries) b.holds b.is ends

    past_calm : AllCalm (hist b.past here.world)
    past_calm i own = subst (λ ms. IsCalm ms i) (sym b.is) (calm i own)

    same_history : history_of line front ≡ hist b.past here.world
    same_history = history_is wild (opened wild) line run few has small size entries short all fit b.past (length entries) b.holds b.is

    facts_here : Facts wild b.past here.world
    facts_here = facts wild (opened wild) line run few has small size entries short all fit b.past (length entries) b.holds b.is so_far open_here past_calm x.early

    ready_here : Ready wild b.past here.world
    ready_here = ready wild b.past here.world facts_here b.kept

    seats_here : Seats here.world
    seats_here = seats_after line run entries few has small size short all fit

    units_here : Units start b.past here.world here.media.disks
    units_here = subst (λ ms. AreThe start ms here.world here.media.disks) (sym b.is) (units_after line run entries few has small size short all fit)

    inside : (i : ℕ) → i < length here.world.initiators → i < run.initiators
    inside i c = subst (λ n. i < n) (count_after front entries) c

    orbs_here : (i : ℕ) → i < length here.world.initiators → HoldsOrbs (hist b.past here.world) i (initiator_at here.world i)
    orbs_here i c = subst (λ ms. HoldsOrbs ms i (initiator_at here.world i)) same_history (orbs_law.orbs line front front_run i (inside i c))

    asked_here : AreAsked wild (hist b.past here.world) here.world
    asked_here =
        asked_of wild start run.units logins has here.world b.holds (site wild (opened wild) line run few has small size entries short all fit b.past (length entries) b.holds b.is)
        open_here past_calm orbs_here

    -- what agents have read
    reads_here : Given (HasReads start b.past here.world)
    reads_here i own =
        has_reads run.units logins has start here.world b.holds (site wild (opened wild) line run few has small size entries short all fit b.past (length entries) b.holds b.is)
        (subst (λ ms. EachMoment (AskedAsGot start) ms) same_history (asked_everywhere.after_lines line front front_run has small size (as_front line run entries entries (so_far i own))))

    site_here : Site start b.past here.world
    site_here = site wild (opened wild) line run few has small size entries short all fit b.past (length entries) b.holds b.is

    asked_so_far : (i : ℕ) → wild i ≡ false → EachMoment (AskedAsGot start) (hist b.past here.world)
    asked_so_far i own = subst (λ ms. EachMoment (AskedAsGot start) ms) same_history (asked_everywhere.after_lines line front front_run has small size (as_front line run entries entries (so_far i own)))

    line_heard_here : (next : ℕ) (event : Event) (r : Bool) → ((t : Terms) → opened_by event t ≡ record t { repeats = r }) → AreAskedAt start (asked next event ∷ hist b.past here.world) → Given (HasHeard start (asked next event ∷ hist b.past here.world) (without_notes here.world))
    line_heard_here next event r as_opened waits i own = line_heard run.units logins has start here.world b.holds site_here next event r as_opened waits (asked_so_far i own)

    -- and by which names
    known_here : OpensBeside (hist b.past here.world) → KnowsNames start (hist b.past here.world) here.world
    known_here so =
        let front_beside = subst IsTameOrFew (sym same_history) so.2 in
        let place = so.0.before so.1 line front front_run has small size front_beside in
        subst (λ ms. KnowsNames start ms here.world) same_history (record {
          waits = asked_everywhere.after_lines line front front_run has small size place;
          led = (led_everywhere so.1).after_lines line front front_run has small size place front_beside;
          still = (still_everywhere so.1).after_lines line front front_run has small size place front_beside;
          fed = (fed_everywhere so.1).after_lines line front front_run has small size place front_beside;
        })

    names_here : OpensBeside (hist b.past here.world) → HasNames start b.past here.world
    names_here so =
        let x = known_here so in
        has_names run.units logins has start here.world b.holds (site wild (opened wild) line run few has small size entries short all fit b.past (length entries) b.holds b.is) x.led x.still x.waits x.fed

    names_line : (next : ℕ) (event : Event) (r : Bool) → ((t : Terms) → opened_by event t ≡ record t { repeats = r }) → AreAskedAt start (asked next event ∷ hist b.past here.world) → OpensBeside (asked next event ∷ hist b.past here.world) → HasNames start (asked next event ∷ hist b.past here.world) (without_notes here.world)
    names_line next event r as_opened waits so =
        let before = opens_before (asked next event ∷ []) (hist b.past here.world) so in
        let x = known_here before in
        line_names start next event r as_opened b.past here.world (names_here before)
        (line_fed run.units logins has start here.world b.holds site_here x.waits x.led x.fed next event r as_opened waits)

    -- as a line begins
    module _ (next : ℕ) (event : Event) (e : is_reset event ≡ false) where
      begins : Holding run.units logins start (asked next event ∷ hist b.past here.world) (length entries + 1) (without_notes here.world)
      begins = opens run.units logins has start next event here.world e b.holds

      begin_seats : Seats (without_notes here.world)
      begin_seats = seats_opened run.units logins has start here.world seats_here

      begin_units : Units start (asked next event ∷ hist b.past here.world) (without_notes here.world) here.media.disks
      begin_units = units_opened run.units logins has start b.past next event here.world here.media.disks units_here

      at_begin : AtDelivery start (asked next event ∷ hist b.past here.world) (without_notes here.world)
      at_begin =
          let x = (site_at wild (opened wild) line run few has small size entries short all fit b.past (length entries) b.holds b.is next events.Settle tt [] tt).agents in
          record {
            agents = record { requests = x.requests; are = x.are; known = x.known };
            held = are_held run.units logins has start (without_notes here.world) begins begin_seats;
            rows = (hosts wild (opened wild) line run few has small size entries short all fit b.past (length entries) b.holds b.is next event).rows;
          }

      set_open : Given (HasReads start (asked next event ∷ hist b.past here.world) (without_notes here.world)) → Given (HasHeard start (asked next event ∷ hist b.past here.world) (without_notes here.world)) → IsSet wild start (asked next event ∷ hist b.past here.world) (begun here)
      set_open reads heard = record {
        ready = ready_now wild next event b.past here.world ready_here;
        units = begin_units.each;
        found = found_of wild start run.units logins has (without_notes here.world) begins begin_seats;
        appended = λ place c is_open own n list number from below. asked_here place c is_open own n list number from below;
        reads = reads;
        heard = heard;
      }

    -- between deliveries of a line that follows
    module _ (next : ℕ) (event : Event) (d : DeliversMore event) where
      abbrev now : List Moment
      now = asked next event ∷ hist b.past here.world

      abbrev at : List (Option Told) → WorldState
      at told = (after_all told (begun here)).world

      abbrev Before : List (Option Told) → Type 0
      Before told = Given (OpenWhile (asked next event ∷ moments_behind line run entries) told (begun here))

      -- where lists are open there as they should be
      module _ (told : List (Option Told)) (m : MayAll told (begun here)) (before : Before told) (lists : (i : ℕ) → wild i ≡ false → OpenLists (hist now (at told)) (at told)) (c : AllCalm (hist now (at told))) where
        holds_there : Holding run.units logins start now (length entries + 1) (at told)
        holds_there = holds_at wild (opened wild) line run few has small size entries short all fit b.past (length entries) b.holds b.is next event d told m

        repeats : (terms (asked next event ∷ hist b.past here.world)).repeats ≡ false
        repeats = no_repeats event (hist b.past here.world) next d

        seats_there : Seats (at told)
        seats_there = all_seats run.units logins has start told (are_told told here m) (begun here) (begins next event (not_reset event d)) (begin_seats next event (not_reset event d)) repeats

        units_there : Units start now (at told) (after_all told (begun here)).media.disks
        units_there = all_units run.units logins has start told (are_told told here m) (begun here) (begins next event (not_reset event d)) (begin_seats next event (not_reset event d)) (begin_units next event (not_reset event d)) repeats

        known_there : At wild (opened wild) line run few has small size entries short all fit b.past (length entries) b.holds b.is next event d so_far open_here past_calm b.kept x.early told
        known_there = at_told wild (opened wild) line run few has small size entries short all fit b.past (length entries) b.holds b.is next event d so_far open_here past_calm b.kept x.early told m before lists c

        ready_there : Ready wild now (at told)
        ready_there =
            ready wild now (at told)
            (facts_at wild (opened wild) line run few has small size entries short all fit b.past (length entries) b.holds b.is next event d so_far open_here told m before lists c known_there.early_there)
            known_there.kept_at.kept_there

        inside_there : (i : ℕ) → i < length (at told).initiators → i < run.initiators
        inside_there i a = inside i (subst (λ n. i < n) (count_between told here) a)

        orbs_there : (i : ℕ) → i < length (at told).initiators → HoldsOrbs (hist now (at told)) i (initiator_at (at told) i)
        orbs_there i a =
            more_by (λ y. HoldsOrbs (map said (at told).fresh ++ asked next y ∷ hist b.past here.world) i (initiator_at (at told) i))
            (λ o. subst (λ ms. HoldsOrbs (map said (at told).fresh ++ asked next (more_deliveries o) ∷ ms) i (initiator_at (at told) i)) same_history
            (orbs_law.between line front front_run next o told m i (inside_there i a))) event d

        asked_there : (i : ℕ) → wild i ≡ false → EachMoment (AskedAsGot start) (hist now (at told))
        asked_there i own =
            more_by (λ y. OpenWhile (asked next y ∷ moments_behind line run entries) told (begun here) → EachMoment (AskedAsGot start) (map said (at told).fresh ++ asked next y ∷ hist b.past here.world))
            (λ o goes.
            let same = sym (moments_same line run entries entries) in
            subst (λ ms. EachMoment (AskedAsGot start) (map said (at told).fresh ++ asked next (more_deliveries o) ∷ ms)) same_history
            (asked_everywhere.between line front front_run has small size next o told m (record {
              before = as_front line run entries entries (so_far i own);
              begins = subst (λ ms. OpenLists ms here.world) same (ends i own);
              goes = subst (λ ms. OpenWhile (asked next (more_deliveries o) ∷ ms) told (begun here)) same goes;
            })))
            event d (before i own)

        reads_there : (i : ℕ) → wild i ≡ false → HasReads start now (at told)
        reads_there i own =
            has_reads run.units logins has start (at told) holds_there (site_at wild (opened wild) line run few has small size entries short all fit b.past (length entries) b.holds b.is next event d told m) (asked_there i own)

        heard_there : (i : ℕ) → wild i ≡ false → HasHeard start (hist now (at told)) (at told)
        heard_there i own =
            has_heard run.units logins has start (at told) holds_there (site_at wild (opened wild) line run few has small size entries short all fit b.past (length entries) b.holds b.is next event d told m) (asked_there i own)

        names_by : ClosingLaw → OpenListsLaw → (o : Option ℕ) → IsTameOrFew (map said (at told).fresh ++ asked next (more_deliveries o) ∷ hist b.past here.world) → KnowsNames start (map said (at told).fresh ++ asked next (more_deliveries o) ∷ hist b.past here.world) (at told)
        names_by closing open_lists o beside =
            let front_beside = subst (λ ms. IsTameOrFew (map said (at told).fresh ++ asked next (more_deliveries o) ∷ ms)) (sym same_history) beside in
            let place = closing.between open_lists line front front_run has small size next (more_deliveries o) (more_than_one o) told m front_beside in
            subst (λ ms. KnowsNames start (map said (at told).fresh ++ asked next (more_deliveries o) ∷ ms) (at told)) same_history (record {
              waits = asked_everywhere.between line front front_run has small size next o told m place;
              led = (led_everywhere open_lists).between line front front_run has small size next o told m place front_beside;
              still = (still_everywhere open_lists).between line front front_run has small size next o told m place front_beside;
              fed = (fed_everywhere open_lists).between line front front_run has small size next o told m place front_beside;
            })

        names_there : OpensBeside (hist now (at told)) → HasNames start now (at told)
        names_there so =
            let x = more_by (λ y. IsTameOrFew (map said (at told).fresh ++ asked next y ∷ hist b.past here.world) → KnowsNames start (map said (at told).fresh ++ asked next y ∷ hist b.past here.world) (at told)) (λ o. names_by so.0 so.1 o) event d so.2 in
            has_names run.units logins has start (at told) holds_there (site_at wild (opened wild) line run few has small size entries short all fit b.past (length entries) b.holds b.is next event d told m) x.led x.still x.waits x.fed

        set_there : IsSet wild start now (after_all told (begun here))
        set_there = record {
          ready = ready_there;
          units = units_there.each;
          found = found_of wild start run.units logins has (at told) holds_there seats_there;
          appended =
              asked_of wild start run.units logins has (at told) holds_there
              (site_at wild (opened wild) line run few has small size entries short all fit b.past (length entries) b.holds b.is next event d told m)
              lists c orbs_there;
          reads = reads_there;
          heard = heard_there;
        }

      law_at : (told : List (Option Told)) → MayAll told (begun here) → Before told → AllCalm (hist now (at told)) → L (hist b.past here.world) → L (hist now (at told))
      law_at [] m before c l = (((tt, (tt, (tt, (tt, tt)))), l.0), (((tt, tt), l.1.0), line_due start next event (hist b.past here.world) [] (plain_none []) l.1.1))
      law_at (one ∷ told) m before c l =
          let back = calm_at wild (opened wild) line run few has small size entries short all fit b.past (length entries) b.holds b.is next event d one told c in
          let rest : Before told = λ i own. (before i own).1 in
          let lists = lists_at wild (opened wild) line run few has small size entries short all fit b.past (length entries) b.holds b.is next event d told (λ i own. (before i own).0) in
          let kept = (kept_told wild (opened wild) line run few has small size entries short all fit b.past (length entries) b.holds b.is next event d so_far open_here past_calm b.kept x.early (one ∷ told) m before c).kept_there in
          let set = set_there told m.1 rest lists back in
          let names = names_there told m.1 rest lists back in
          let so_far = law_at told m.1 rest back l in
          let site_now = site_at wild (opened wild) line run few has small size entries short all fit b.past (length entries) b.holds b.is next event d told m.1 in
          let holds_now = holds_at wild (opened wild) line run few has small size entries short all fit b.past (length entries) b.holds b.is next event d told m.1 in
          let holds_next = holds_at wild (opened wild) line run few has small size entries short all fit b.past (length entries) b.holds b.is next event d (one ∷ told) m in (
            next_law wild start now (after_all told (begun here)) set names one m.0 kept.passes so_far.0,
            (
              next_ends wild start now (after_all told (begun here)) set names one m.0 so_far.1.0,
              next_due start run.units logins has (after_all told (begun here)) holds_now (record { agents = site_now.agents; held = site_now.held; rows = site_now.rows }) set.units one m.0 (laws_of now (at (one ∷ told)) holds_next.sound.stands).judged so_far.1.1,
            ),
          )

    -- a line that follows
    abbrev Goes : ℕ → Event → List (Option Told) → Type 0
    Goes next event told =
        MayHappen event told here → Given (OpenIn event (asked next event ∷ moments_behind line run entries) told (begun here)) → AllCalm (hist (asked next event ∷ hist b.past here.world) (happens next event told here).world) → PassLaw wild (hist (asked next event ∷ hist b.past here.world) (happens next event told here).world) → AreJudged (hist (asked next event ∷ hist b.past here.world) (happens next event told here).world) → L (hist b.past here.world) → L (hist (asked next event ∷ hist b.past here.world) (happens next event told here).world)

    plain_line : (next : ℕ) (event : Event) (new : List Note) → Plainly [] new → endless.Plainly [] new → L (hist b.past here.world) → L (map said new ++ asked next event ∷ hist b.past here.world)
    plain_line next event new q e l =
        let past = asked next event ∷ hist b.past here.world in (plainly_law wild start past [] new q ((tt, (tt, (tt, (tt, tt)))), l.0), (mildly_law wild start past [] new e ((tt, tt), l.1.0), line_due start next event (hist b.past here.world) new q l.1.1))

    desks : length (without_notes here.world).target.desks ≡ 8
    desks = ready_here.good.mid.size

    law_line : (next : ℕ) (event : Event) (told : List (Option Told)) → IsLine event (length here.world.initiators) → Goes next event told
    unfolding happens MayHappen
    law_line next (events.Step count) told q m before c p j l = law_at next (events.Step count) tt told m.may before c l
    law_line next events.Settle told q m before c p j l =
        let now = asked next events.Settle ∷ hist b.past here.world in
        let t = after_all told (begun here) in
        let rest : Given (OpenWhile (asked next events.Settle ∷ moments_behind line run entries) told (begun here)) = λ i own. (before i own).1 in
        let back : AllCalm (hist now t.world) = λ i own. calm_before (said (end_note (is_settled t.world)) ∷ []) (hist now t.world) i (c i own) in
        let last = end_law wild start (hist now t.world) (is_settled t.world) in
        let so_far = law_at next events.Settle tt told m.may rest back l in
        ((last.0, so_far.0), ((last.1, so_far.1.0), end_due start (is_settled t.world) (hist now t.world) so_far.1.1))
    law_line next (events.Begin initiators is_ready) told q m before c p j l = absurd q
    law_line next (events.Act i action) told q m before c p j l = plain_line next (events.Act i action) _ (acts (without_notes here.world) next i action) (endless.acts (without_notes here.world) desks next i action) l
    law_line next (events.Reset physical) told q m before c p j l = plain_line next (events.Reset physical) _ (resets (without_notes here.world) physical) (endless.resets (without_notes here.world) desks physical) l
    law_line next (events.See node) told q m before c p j l = plain_line next (events.See node) _ (sights (without_notes here.world) node) (endless.sights (without_notes here.world) desks node) l
    law_line next (events.Deliver serial) told q m before c p j l =
        let e = events.Deliver serial in
        let past = asked next e ∷ hist b.past here.world in
        let set = set_open next e refl (λ i own. line_reads start next e false (λ t. refl) b.past here.world (reads_here i own)) (λ i own. line_heard_here next e false (λ t. refl) (delivering_asks start (hist b.past here.world) site_here.asked next serial) i own) in
        let names : OpensBeside past → HasNames start past (without_notes here.world) = names_line next e false (λ t. refl) (delivering_asks start (hist b.past here.world) site_here.asked next serial) in
        let comes = one_comes (begun here) set.ready.good next serial false (is_in_flight serial (begun here).world) told m in (
          one_law wild start past (NoneRun (begun here) set.ready.good next serial false told) (OneRan (begun here) set.ready.good next serial false told) [] _ (one_told wild start past (begun here) set names next serial false told) comes p ((tt, (tt, (tt, (tt, tt)))), l.0),
          (
            ends_law wild start past (OneEnd (begun here) set.ready.good next serial false told) [] _ (one_ended wild start past (begun here) set names next serial false told)
                (endless.one_comes (begun here) set.ready.good next serial false (is_in_flight serial (begun here).world) told m) ((tt, tt), l.1.0),
            one_due start run.units logins has next e (begun here) (begins next e refl) refl (at_begin next e refl) set.units set.ready.good serial false told _ comes j l.1.1,
          ),
        )
    law_line next (events.Repeat serial) told q m before c p j l =
        let e = events.Repeat serial in
        let past = asked next e ∷ hist b.past here.world in
        let set = set_open next e refl (λ i own. line_reads start next e true (λ t. refl) b.past here.world (reads_here i own)) (λ i own. line_heard_here next e true (λ t. refl) (repeating_asks start (hist b.past here.world) site_here.asked next serial) i own) in
        let names : OpensBeside past → HasNames start past (without_notes here.world) = names_line next e true (λ t. refl) (repeating_asks start (hist b.past here.world) site_here.asked next serial) in
        let comes = one_comes (begun here) set.ready.good next serial true (may_repeat serial (begun here).world) told m in (
          one_law wild start past (NoneRun (begun here) set.ready.good next serial true told) (OneRan (begun here) set.ready.good next serial true told) [] _ (one_told wild start past (begun here) set names next serial true told) comes p ((tt, (tt, (tt, (tt, tt)))), l.0),
          (
            ends_law wild start past (OneEnd (begun here) set.ready.good next serial true told) [] _ (one_ended wild start past (begun here) set names next serial true told)
                (endless.one_comes (begun here) set.ready.good next serial true (may_repeat serial (begun here).world) told m) ((tt, tt), l.1.0),
            one_due start run.units logins has next e (begun here) (begins next e refl) refl (at_begin next e refl) set.units set.ready.good serial true told _ comes j l.1.1,
          ),
        )
    law_line next (events.Lose serial) told q m before c p j l = plain_line next (events.Lose serial) _ (loses (without_notes here.world) next serial) (endless.loses (without_notes here.world) desks next serial) l
    law_line next (events.Timeout serial) told q m before c p j l = plain_line next (events.Timeout serial) _ (late (without_notes here.world) next serial) (endless.late (without_notes here.world) desks next serial) l
    law_line next events.Tick told q m before c p j l = plain_line next events.Tick _ (ticks (without_notes here.world)) (endless.ticks (without_notes here.world) desks) l
    law_line next (events.Inject i bytes) told q m before c p j l = plain_line next (events.Inject i bytes) _ (injects (without_notes here.world) next i bytes) (endless.injects (without_notes here.world) desks next i bytes) l
    law_line next (events.Key unit key) told q m before c p j l = plain_line next (events.Key unit key) _ (keys (without_notes here.world) next unit key) (endless.keys (without_notes here.world) desks next unit key) l

  law_after : (entries : List Entry) → length entries + 2 < 2 ^ 32 → AreEntries (beginning run) entries → AreLines run entries → Given (OpenBefore line run entries) → AllCalm (moments_behind line run entries) → L (moments_behind line run entries)
  law_after [] short all fit lists calm = (((tt, (tt, (tt, (tt, tt)))), ((tt, (tt, (tt, (tt, tt)))), tt)), (((tt, tt), ((tt, tt), tt)), line_due start line (events.Begin run.initiators run.ready) [] (notes.Begin run.initiators run.ready ∷ []) (record { more = notes.Begin run.initiators run.ready ∷ []; is = refl; plain = (tt, tt) }) tt))
  law_after (e ∷ before) short all fit lists calm =
      let s = after (beginning run) before in
      let few_lines : length before + 2 < 2 ^ 32 = omega arith in
      let begins : Given (OpenAfter line run before) = λ i own. (lists i own).0.begins in
      let goes : Given (OpenIn e.event (asked e.line e.event ∷ moments_behind line run before) e.told (begun s)) = λ i own. (lists i own).0.goes in
      let rest : Given (OpenBefore line run before) = λ i own. (lists i own).1 in
      let back : AllCalm (moments_behind line run before) = calm_back wild (opened wild) line run few has small size e before calm in
      let x = early_after wild (opened wild) line run few has small size before few_lines all.1 fit.1 rest begins back in
      let is = next_is wild (opened wild) line run few has small size e before few_lines short all fit rest x begins goes calm in
      let kept = next_kept wild (opened wild) line run few has small size e before few_lines short all fit rest x begins goes calm in
      let holds = next_holds wild (opened wild) line run few has small size e before few_lines short all fit rest x begins goes calm in
      let there = subst L (sym x.so_far.is) (law_after before few_lines all.1 fit.1 rest back) in
      subst L is
      (law_line before few_lines all.1 fit.1 rest x begins back e.line e.event e.told fit.0 all.0.may goes (λ i own. subst (λ ms. IsCalm ms i) (sym is) (calm i own)) kept.passes (laws_of (asked e.line e.event ∷ hist x.so_far.past s.world) (happens e.line e.event e.told s).world holds.sound.stands).judged there)

-- ---- so it is of every run
module _ (line : ℕ) (run : Run) (r : IsRun run) (has : 0 < run.units) (small : run.units ≤ 4) (size : length run.start.disks ≡ run.units) (wild : ℕ → Bool) where
  abbrev Known : Type 0 → Type 0
  Known known = (i : ℕ) → wild i ≡ false → known

  abbrev last : Scene
  last = after (beginning run) run.entries

  abbrev Both : List Moment → Type 0
  Both ms = Law wild run.start.disks ms × (EachMoment (EndSo wild run.start.disks) ms × AreDue run.start.disks ms)

  lines_law : Known (OpenBefore line run run.entries) → ((i : ℕ) → wild i ≡ false → IsCalm (history_of line run) i) → Both (history_of line run)
  lines_law so_far calm = law_after wild line run r.few has small size run.entries r.short r.entries r.lines so_far calm

  module _ (next : ℕ) (event : Event) (d : DeliversMore event) (told : List (Option Told)) (m : MayAll told (begun last)) where
    abbrev end : WorldState
    end = (after_all told (begun last)).world

    abbrev ms : List Moment
    ms = map said end.fresh ++ asked next event ∷ history_of line run

    between_law : Known (OpenBetween line run next event told) → ((i : ℕ) → wild i ≡ false → IsCalm ms i) → Both ms
    between_law so_far calm =
        let first_calm : (i : ℕ) → wild i ≡ false → IsCalm (history_of line run) i = λ i own. asked_calm next event (history_of line run) i (calm_before (map said end.fresh) (asked next event ∷ history_of line run) i (calm i own)) in
        let x = early_after wild (opened wild) line run r.few has small size run.entries r.short r.entries r.lines (λ i own. (so_far i own).before) (λ i own. (so_far i own).begins) first_calm in
        let l = subst Both (sym x.so_far.is) (lines_law (λ i own. (so_far i own).before) first_calm) in
        subst (λ h. Both (map said end.fresh ++ asked next event ∷ h)) x.so_far.is
        (law_at wild line run r.few has small size run.entries r.short r.entries r.lines (λ i own. (so_far i own).before) x (λ i own. (so_far i own).begins) first_calm next event d told m (λ i own. (so_far i own).goes)
        (λ i own. subst (λ h. IsCalm (map said end.fresh ++ asked next event ∷ h) i) (sym x.so_far.is) (calm i own)) l)

-- ---- its parts
module _ (wild : ℕ → Bool) (start : List Disk) where
  logins_part : (past : List Moment) → Law wild start past → LoginsLaw start past
  logins_part [] l = tt
  logins_part (m ∷ past) l = (l.0.0, logins_part past l.1)

  outcomes_part : (past : List Moment) → Law wild start past → OutcomesLaw wild start past
  outcomes_part [] l = tt
  outcomes_part (m ∷ past) l = (l.0.1.0, outcomes_part past l.1)

  reads_part : (past : List Moment) → Law wild start past → RunsAreRead wild start past
  reads_part [] l = tt
  reads_part (m ∷ past) l = (l.0.1.1.0, reads_part past l.1)

  fed_part : (past : List Moment) → Law wild start past → RunsAreFed wild start past
  fed_part [] l = tt
  fed_part (m ∷ past) l = (l.0.1.1.1.0, fed_part past l.1)

  pub run_names_part : (past : List Moment) → Law wild start past → EachMoment (NamedRun wild start) past
  run_names_part [] l = tt
  run_names_part (m ∷ past) l = (l.0.1.1.1.1, run_names_part past l.1)

  ends_part : (past : List Moment) → EachMoment (EndSo wild start) past → EndsAreRead wild start past
  ends_part [] l = tt
  ends_part (m ∷ past) l = (l.0.0, ends_part past l.1)

  pub names_part : (past : List Moment) → EachMoment (EndSo wild start) past → EachMoment (NamedEnd wild start) past
  names_part [] l = tt
  names_part (m ∷ past) l = (l.0.1, names_part past l.1)

  -- with the laws of lists
  execution_at : (m : Moment) (past : List Moment) → ListsAt wild m past → RunsAt wild m past → RunAt wild start m past → ExecutionAt wild start m past
  execution_at (said (notes.Ran i (Some n) (Some k) unit cdb bytes check)) past l r o = λ own. (record { once = r own; order = (l own).turn.number; login = o.0 }, o.1.0 own)
  execution_at (said (notes.Ended i (Some n) (Some k) status)) past l r o = r
  execution_at _ past l r o = tt

  execution_of : (past : List Moment) → ListsLaw wild past → RunsLaw wild past → Law wild start past → ExecutionLaw wild start past
  execution_of [] l r o = tt
  execution_of (m ∷ past) l r o = (execution_at m past l.0 r.0 o.0, execution_of past l.1 r.1 o.1)

pub logins_run_law : LoginsRunLaw
logins_run_law = record {
  after_lines = λ line run r has small size.
      let wild : ℕ → Bool = λ i. true in
      logins_part wild run.start.disks (history_of line run) (lines_law line run r has small size wild (λ i f. nobody_needs (OpenBefore line run run.entries) f) (λ i f. nobody_needs (IsCalm (history_of line run) i) f)).0;
  between = λ line run r has small size next event d told m.
      let wild : ℕ → Bool = λ i. true in
      let now = map said (after_all told (begun (after (beginning run) run.entries))).world.fresh ++ asked next event ∷ history_of line run in
      logins_part wild run.start.disks now (between_law line run r has small size wild next event d told m (λ i f. nobody_needs (OpenBetween line run next event told) f) (λ i f. nobody_needs (IsCalm now i) f)).0;
}

pub outcomes_run_law : OutcomesRunLaw
outcomes_run_law = record {
  after_lines = λ line run r has small size so_far.
      let wild = injectors (history_of line run) in
      outcomes_part wild run.start.disks (history_of line run) (lines_law line run r has small size wild (λ i own. so_far) (λ i own. own)).0;
  between = λ line run r has small size next event d told m so_far.
      let now = map said (after_all told (begun (after (beginning run) run.entries))).world.fresh ++ asked next event ∷ history_of line run in
      outcomes_part (injectors now) run.start.disks now (between_law line run r has small size (injectors now) next event d told m (λ i own. so_far) (λ i own. own)).0;
}

pub execution_run_law : ExecutionRunLaw
execution_run_law = record {
  after_lines = λ line run r has small size so_far.
      let wild = injectors (history_of line run) in
      execution_of wild run.start.disks (history_of line run) (lists_run_law.after_lines line run r has small size so_far) (runs_run_law.after_lines line run r has small size so_far)
      (lines_law line run r has small size wild (λ i own. so_far) (λ i own. own)).0;
  between = λ line run r has small size next event d told m so_far.
      let now = map said (after_all told (begun (after (beginning run) run.entries))).world.fresh ++ asked next event ∷ history_of line run in
      execution_of (injectors now) run.start.disks now (lists_run_law.between line run r has small size next event d told m so_far) (runs_run_law.between line run r has small size next event d told m so_far)
      (between_law line run r has small size (injectors now) next event d told m (λ i own. so_far) (λ i own. own)).0;
}

-- and the ORBs that run were read
pub runs_read_law : RunsReadLaw
runs_read_law = record {
  after_lines = λ line run r has small size so_far.
      let wild = injectors (history_of line run) in
      reads_part wild run.start.disks (history_of line run) (lines_law line run r has small size wild (λ i own. so_far) (λ i own. own)).0;
  between = λ line run r has small size next event d told m so_far.
      let now = map said (after_all told (begun (after (beginning run) run.entries))).world.fresh ++ asked next event ∷ history_of line run in
      reads_part (injectors now) run.start.disks now (between_law line run r has small size (injectors now) next event d told m (λ i own. so_far) (λ i own. own)).0;
}

-- and the ORBs that end
pub ends_read_law : EndsReadLaw
ends_read_law = record {
  after_lines = λ line run r has small size so_far.
      let wild = injectors (history_of line run) in ends_part wild run.start.disks (history_of line run) (lines_law line run r has small size wild (λ i own. so_far) (λ i own. own)).1.0;
  between = λ line run r has small size next event d told m so_far.
      let now = map said (after_all told (begun (after (beginning run) run.entries))).world.fresh ++ asked next event ∷ history_of line run in
      ends_part (injectors now) run.start.disks now (between_law line run r has small size (injectors now) next event d told m (λ i own. so_far) (λ i own. own)).1.0;
}

-- and each turn tells the runs that are due, whoever injected packets
pub due_runs_law : DueRunsLaw
due_runs_law = record {
  after_lines = λ line run r has small size others.
      let wild : ℕ → Bool = λ i. true in
      where_due others run.start.disks (history_of line run) (lines_law line run r has small size wild (λ i f. nobody_needs (OpenBefore line run run.entries) f) (λ i f. nobody_needs (IsCalm (history_of line run) i) f)).1.1;
  between = λ line run r has small size next event d told m others.
      let wild : ℕ → Bool = λ i. true in
      let now = map said (after_all told (begun (after (beginning run) run.entries))).world.fresh ++ asked next event ∷ history_of line run in
      where_due others run.start.disks now (between_law line run r has small size wild next event d told m (λ i f. nobody_needs (OpenBetween line run next event told) f) (λ i f. nobody_needs (IsCalm now i) f)).1.1;
}

pub runs_fed_law : RunsFedLaw
runs_fed_law = record {
  after_lines = λ line run r has small size so_far.
      let wild = injectors (history_of line run) in
      fed_part wild run.start.disks (history_of line run) (lines_law line run r has small size wild (λ i own. so_far) (λ i own. own)).0;
  between = λ line run r has small size next event d told m so_far.
      let now = map said (after_all told (begun (after (beginning run) run.entries))).world.fresh ++ asked next event ∷ history_of line run in
      fed_part (injectors now) run.start.disks now (between_law line run r has small size (injectors now) next event d told m (λ i own. so_far) (λ i own. own)).0;
}

-- by their names
abbrev pub NamedEnds : List Disk → List Moment → WorldState → Type 0
NamedEnds start past w = EachMoment (NamedEnd (injectors past) start) past

pub ends_named : EveryPlace NamedEnds
ends_named = record {
  after_lines = λ line run r has small size so_far.
      let wild = injectors (history_of line run) in names_part wild run.start.disks (history_of line run) (lines_law line run r has small size wild (λ i own. so_far) (λ i own. own)).1.0;
  between = λ line run r has small size next most told m so_far.
      let now = map said (after_all told (begun (after (beginning run) run.entries))).world.fresh ++ asked next (more_deliveries most) ∷ history_of line run in
      names_part (injectors now) run.start.disks now (between_law line run r has small size (injectors now) next (more_deliveries most) (more_than_one most) told m (λ i own. so_far) (λ i own. own)).1.0;
}

abbrev pub NamedRuns : List Disk → List Moment → WorldState → Type 0
NamedRuns start past w = EachMoment (NamedRun (injectors past) start) past

pub runs_named : EveryPlace NamedRuns
runs_named = record {
  after_lines = λ line run r has small size so_far.
      let wild = injectors (history_of line run) in run_names_part wild run.start.disks (history_of line run) (lines_law line run r has small size wild (λ i own. so_far) (λ i own. own)).0;
  between = λ line run r has small size next most told m so_far.
      let now = map said (after_all told (begun (after (beginning run) run.entries))).world.fresh ++ asked next (more_deliveries most) ∷ history_of line run in
      run_names_part (injectors now) run.start.disks now (between_law line run r has small size (injectors now) next (more_deliveries most) (more_than_one most) told m (λ i own. so_far) (λ i own. own)).0;
}
