-- A write of ORB_POINTER that the target got is one that its initiator named for a list, whose first ORB its slot held as the write was got: as no ORB of the list had
-- ended then, and no status of it was taken.
use Rattle.sbp_world.proofs.Words.Std.{arith, ◌≡◌, ◌∙◌, refl, sym, ap, subst, ℕ, ◌<◌, ◌≤◌, Bool, false, List, [], ◌∷◌, ◌++◌, length, Option, Some, None}
use Rattle.sbp_world.proofs.Words.Wire.{AreJudged, SerialsCount, Moment, asked, said, Sending, terms, Event}
use Rattle.sbp_world.proofs.Words.Target.{Disk}
use Rattle.sbp_world.proofs.Words.Initiator.{slot_of, start}
use Rattle.sbp_world.proofs.Words.Laws.{linked, named_in, prepared_in, slot_at, taken_at, appends, ends}
use Rattle.sbp_world.proofs.Words.World.{moments_behind, Run, beginning, IsOfWire, Scene, WorldState, PointersAt, pointed_list, AreBegun, AreFirsts, AreUntaken, AreNamed, IsCalm, IsPointedBy, AreNamedFor, IsNamedFor, IsFirst}
use Rattle.bus_memory.proofs.Found.{slot_of_law}
use Rattle.sbp_journal.specs.declared.event.Event.TheVariants as events
use Rattle.sbp_journal.specs.declared.note.Note.TheVariants as notes
use Rattle.sbp_world.proofs.Agents.Management.Still.{hist}
use Rattle.sbp_world.proofs.Hosts.SentMoments.{sent_below, serials_from}
use Rattle.sbp_world.proofs.Lists.EndedLists.{ended_had, none_ended}
use Rattle.sbp_world.proofs.Lists.Gots.{WhereGot, got_before, got_here, got_in_line, got_where, turn_next}
use Rattle.sbp_world.proofs.Lists.OpenFresh.{writes_of}
use Rattle.sbp_world.proofs.Lists.OpenLasting.{lasts}
use Rattle.sbp_world.proofs.Lists.OpenNews.{got_more}
use Rattle.sbp_world.proofs.Lists.Passing.{PassLaw}
use Rattle.sbp_world.proofs.Lists.Walks.{Turn, Walks}
use Rattle.sbp_world.proofs.Lists.BufferGets.{judged_from}
use Rattle.sbp_world.proofs.Lists.OpenedMoments.{pointed_remains}
use Rattle.sbp_world.proofs.Lists.StatusKnown.{got_by}

-- ---- a line that begins changes nothing of it
pub record Like (before earlier : List Moment) : Type 0 where
  pub sent : (terms earlier).sent ≡ (terms before).sent
  pub news : (terms earlier).news ≡ (terms before).news
  pub generation : (terms earlier).generation ≡ (terms before).generation
  pub pointed : (serial i : ℕ) → pointed_list earlier serial i ≡ pointed_list before serial i
  pub prepared : (i slot : ℕ) → prepared_in earlier i slot ≡ prepared_in before i slot

like_self : (ms : List Moment) → Like ms ms
like_self ms = record { sent = refl; news = refl; generation = refl; pointed = λ serial i. refl; prepared = λ i slot. refl }

pub like_asked : (line : ℕ) (event : Event) (ms : List Moment) → Like ms (asked line event ∷ ms)
like_asked line (events.Reset physical) ms = record { sent = refl; news = refl; generation = refl; pointed = λ serial i. refl; prepared = λ i slot. refl }
like_asked line (events.Repeat serial) ms = record { sent = refl; news = refl; generation = refl; pointed = λ serial i. refl; prepared = λ i slot. refl }
like_asked line _ ms = record { sent = refl; news = refl; generation = refl; pointed = λ serial i. refl; prepared = λ i slot. refl }

-- ---- what is known of every run at a place
pub record Known (ms : List Moment) (w : WorldState) : Type 0 where
  pub pointers : (i : ℕ) → i < length w.initiators → PointersAt ms i
  pub first : AreFirsts ms w
  pub begun : (i : ℕ) → i < length w.initiators → AreBegun ms i
  pub names : AreNamed ms w
  pub within : (i n : ℕ) → i < length w.initiators → linked ms i n ≤ appends ms i n
  pub wire : IsOfWire ms

abbrev pub AllNamed : (ℕ → Bool) → List Moment → WorldState → Type 0
AllNamed wild ms w = (i : ℕ) → i < length w.initiators → wild i ≡ false → AreNamedFor ms i

-- ---- over a turn
module _ (wild : ℕ → Bool) (i : ℕ) (own : wild i ≡ false) (before : List Moment) (w : WorldState) (inside : i < length w.initiators) (calm : IsCalm before i) (passes : PassLaw wild before) (known : Known before w) (taken : (n k : ℕ) → ends before i n ≤ k → taken_at before i n k ≡ None) (named : AreNamedFor before i) (now : List Moment) (wire : IsOfWire now) (pointers : PointersAt now i) (calm_now : IsCalm now i) where
  -- a packet that is got
  module _ (front earlier : List Moment) (serial : ℕ) (sent : Sending) (place address : ℕ) (is : front ++ said (notes.Got serial) ∷ earlier ≡ now) (sent_is : (terms earlier).sent serial ≡ Some sent) (pointed : IsPointedBy sent i place address) where
    abbrev one : List Moment
    one = said (notes.Got serial) ∷ []

    joined : (a : List Moment) → (a ++ one) ++ earlier ≡ a ++ said (notes.Got serial) ∷ earlier
    joined [] = refl
    joined (m ∷ a) = ap (λ ms. m ∷ ms) (joined a)

    -- the list that it was named for stays that
    list_stays : (later whole : List Moment) → SerialsCount whole → later ++ said (notes.Got serial) ∷ earlier ≡ whole → pointed_list whole serial i ≡ pointed_list earlier serial i
    list_stays later whole counted e =
        let same = joined later ∙ e in
        let c : SerialsCount ((later ++ one) ++ earlier) = subst SerialsCount (sym same) counted in
        subst (λ ms. pointed_list ms serial i ≡ pointed_list earlier serial i) same
        (pointed_remains (later ++ one) earlier serial i c (sent_below earlier serial sent (serials_from (later ++ one) earlier c) sent_is))

    list_now : pointed_list now serial i ≡ pointed_list earlier serial i
    list_now = list_stays front now wire.serials is

    -- it was got before
    old : (later : List Moment) → later ++ said (notes.Got serial) ∷ earlier ≡ before → IsNamedFor now earlier i serial address
    old later e =
        let n = named later earlier serial sent place address e sent_is pointed in
        record { list = n.list; pointed = list_now ∙ (sym (list_stays later before known.wire.serials e) ∙ n.pointed); there = n.there }

    -- it is got now
    module _ (like : Like before earlier) where
      sent_before : (terms before).sent serial ≡ Some sent
      sent_before = ap (λ (f : ℕ → Option Sending). f serial) (sym like.sent) ∙ sent_is

      first_is : IsFirst before i serial address
      first_is = known.first i inside calm serial sent place address sent_before pointed

      abbrev n : ℕ
      n = first_is.list

      is_now : pointed_list now serial i ≡ Some n
      is_now = list_now ∙ (like.pointed serial i ∙ first_is.pointed)

      fresh : (terms before).news serial ≡ 0
      fresh =
          let k = pointers.each n serial is_now in
          let x = writes_of k.packet.bytes _ k.spelled refl in
          let most = (wire.once serial x.label k.packet k.sent k.honest x.part).most (ap (λ j. (terms now).injects j) k.from_is ∙ calm_now) in
          let more = got_more serial front earlier now sent is sent_is in
          let same : (terms earlier).news serial ≡ (terms before).news serial = ap (λ (f : ℕ → ℕ). f serial) like.news in
          omega (arith, most, more, same)

      current : sent.generation ≡ (terms before).generation 0
      current =
          got_by serial earlier sent (judged_from front (said (notes.Got serial) ∷ earlier) (subst AreJudged (sym is) wire.judged)) sent_is
          ∙ (ap (λ k. (terms earlier).generation k) pointed.to_is ∙ ap (λ (f : ℕ → ℕ). f 0) like.generation)

      none : ends before i n ≡ 0
      none = none_ended before i named (known.pointers i inside) (lasts before known.wire.serials) n (λ b. ended_had wild i n own before passes b) serial first_is.pointed fresh

      new : IsNamedFor now earlier i serial address
      new =
          let latest = (known.begun i inside).waiting calm serial n sent sent_before first_is.pointed current fresh in
          let linked_one = ((known.pointers i inside).each n serial first_is.pointed).one in
          let within = known.within i n inside in
          let stands = known.names.stands i n 0 latest (omega (arith, linked_one, within)) (taken n 0 (let e = none in omega (arith, e))) in
          let slot = slot_at before i n 0 in
          record {
            list = n;
            pointed = is_now;
            there = ap (λ a. named_in earlier i (slot_of a)) first_is.address_is ∙ (ap (named_in earlier i) (slot_of_law.found slot stands.small) ∙ (like.prepared i slot ∙ stands.last));
          }

    got_so : WhereGot before serial earlier → IsNamedFor now earlier i serial address
    got_so (got_before later e) = old later e
    got_so (got_here e) = new (subst (Like before) (sym e) (like_self before))
    got_so (got_in_line line event e) = new (subst (Like before) (sym e) (like_asked line event before))

-- each turn keeps it
pub names_turn : (wild : ℕ → Bool) (i : ℕ) → wild i ≡ false → (past : List Moment) (s : Scene) (later : List Moment) (t : Scene) → Turn past s later t → i < length s.world.initiators → IsCalm (hist past s.world) i → PassLaw wild (hist past s.world) → Known (hist past s.world) s.world → ((n k : ℕ) → ends (hist past s.world) i n ≤ k → taken_at (hist past s.world) i n k ≡ None) → AreNamedFor (hist past s.world) i → IsOfWire (hist later t.world) → PointersAt (hist later t.world) i → IsCalm (hist later t.world) i → AreNamedFor (hist later t.world) i
names_turn wild i own past s later t turn inside calm passes known taken named wire pointers calm_now front earlier serial sent place address is sent_is pointed =
    let before = hist past s.world in
    let now = hist later t.world in
    got_so wild i own before s.world inside calm passes known taken named now wire pointers calm_now front earlier serial sent place address is sent_is pointed
    (got_where serial earlier before now (turn_next past s later t turn) front is)

pub names_walk : (wild : ℕ → Bool) (units ready : ℕ) → 0 < units → (start : List Disk) → Walks wild units ready start Known AreUntaken (AllNamed wild)
names_walk wild units ready has start past s later t step p i b own =
    let inside : i < length s.world.initiators = subst (λ n. i < n) step.count b in
    let calm = step.stands.reached.calm i own in
    names_turn wild i own past s later t step.turn inside calm step.stands.reached.kept.passes step.known (λ n k e. step.so_far i own i inside calm n k e) (p i inside own)
    step.known_then.wire (step.known_then.pointers i b) (step.reaches.calm i own)

-- as a run begins, no packet was got
pub first_names : (wild : ℕ → Bool) (line : ℕ) (run : Run) → AllNamed wild (moments_behind line run []) (beginning run).world
first_names wild line run i b own front earlier serial sent place address is sent_is pointed = absurd (by front is)
  where
    by : (front : List Moment) → front ++ said (notes.Got serial) ∷ earlier ≡ said (notes.Begin run.initiators run.ready) ∷ asked line (events.Begin run.initiators run.ready) ∷ [] → ⊥
    by [] e = first_no (let z : said (notes.Got serial) ∷ earlier ≡ said (notes.Begin run.initiators run.ready) ∷ (asked line (events.Begin run.initiators run.ready) ∷ []) = e in cc)
      where
        first_no : said (notes.Got serial) ≡ said (notes.Begin run.initiators run.ready) → ⊥
        first_no f = cc
    by (a ∷ []) e = then_no (let z : a ∷ (said (notes.Got serial) ∷ earlier) ≡ said (notes.Begin run.initiators run.ready) ∷ (asked line (events.Begin run.initiators run.ready) ∷ []) = e in cc)
      where
        then_no : said (notes.Got serial) ≡ asked line (events.Begin run.initiators run.ready) → ⊥
        then_no f = cc
    by (a ∷ c ∷ front) e = longer front (let z : a ∷ (c ∷ (front ++ said (notes.Got serial) ∷ earlier)) ≡ said (notes.Begin run.initiators run.ready) ∷ (asked line (events.Begin run.initiators run.ready) ∷ []) = e in cc)
      where
        longer : (front : List Moment) → front ++ said (notes.Got serial) ∷ earlier ≡ [] → ⊥
        longer [] e = cc
        longer (x ∷ front) e = cc
