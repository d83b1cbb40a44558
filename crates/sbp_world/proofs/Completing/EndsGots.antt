-- What the target gets in answer to its management operation is whole, and answers what was taken as new where it is a status block, as it is got: so it is of each packet that it got, turn by turn.
use Rattle.sbp_world.proofs.Words.Std.{arith, ◌≡◌, ◌∙◌, inl, inr, refl, sym, ap, subst, ◌<◌, ◌≤◌, ℕ, zero, suc, Bool, false, List, [], ◌∷◌, ◌++◌, length, Option, Some, same_Some}
use Rattle.sbp_world.proofs.Words.Wire.{Event, Judged, Moment, Sending, Sent, as_sending, asked, found_sent, judged_note, said, terms}
use Rattle.sbp_world.proofs.Words.Target.{Disk, NodeState, Operation, received}
use Rattle.sbp_world.proofs.Words.Laws.{EachMoment, answer_in, answered_at, packet_in, target_at}
use Rattle.sbp_world.proofs.Words.World.{Always, AreAsked, AtGot, IsTame, Office, Run, Scene, Stands, UnderFrom, WorldState, after, beginning, moments_behind, more_deliveries, whole_of}
use Rattle.mgmt_agent.specs.Machine.{Machine}
use Rattle.mgmt_agent.specs.declared.operation.Phase.TheVariants as phases
use Rattle.sbp_journal.specs.declared.cause.Judged.TheVariants as judgements
use Rattle.sbp_journal.specs.declared.note.Note.TheVariants as notes
use Rattle.sbp_world.specs.Completing.Deaths.{AreFewNow}
use Rattle.sbp_world.specs.Completing.EndsTaken.{IsAnsweredWell}
use Rattle.sbp_world.specs.Completing.EndsWell.{IsGotWell}
use Rattle.sbp_world.specs.Completing.Labels.{AlwaysFrom, LosesNothing}
use Rattle.sbp_world.specs.Completing.Managed.{AreManagedGiven, ManagedGivenThere}
use Rattle.sbp_world.specs.Completing.OperationsReplies.{IsWhole}
use Rattle.sbp_world.proofs.Agents.Management.Holding.{Holding, ours}
use Rattle.sbp_world.proofs.Agents.Management.Offices.{over_keeps}
use Rattle.sbp_world.proofs.Agents.Management.Still.{hist}
use Rattle.sbp_world.proofs.Common.{moment_joined}
use Rattle.sbp_world.proofs.Completing.DeathsHistory.{opens}
use Rattle.sbp_world.proofs.Completing.DeathsRuns.{cut_asked}
use Rattle.sbp_world.proofs.Completing.EndsAnswered as answers
use Rattle.sbp_world.proofs.Completing.EndsRefused.{Nested, inside, nested, news_grow, outside}
use Rattle.sbp_world.proofs.Completing.EndsTurns as turns
use Rattle.sbp_world.proofs.Completing.PresentGets.{GotFrom, TurnGets}
use Rattle.sbp_world.proofs.Hosts.Remaining.{remains}
use Rattle.sbp_world.proofs.Hosts.Runs.{count_after, count_between}
use Rattle.sbp_world.proofs.Hosts.SentMoments.{sent_below}
use Rattle.sbp_world.proofs.Lists.Clauses.{open_lists_law}
use Rattle.sbp_world.proofs.Lists.ContentAsked.{contents_law}
use Rattle.sbp_world.proofs.Lists.Courses.{more_than_one}
use Rattle.sbp_world.proofs.Lists.Generations.{moment_generation}
use Rattle.sbp_world.proofs.Lists.Gots.{WhereGot, got_before, got_here, got_in_line, got_where, turn_next}
use Rattle.sbp_world.proofs.Lists.Judging.{counts_at}
use Rattle.sbp_world.proofs.Lists.ListsProved.{closing}
use Rattle.sbp_world.proofs.Lists.ManageGot.{IsWriting}
use Rattle.sbp_world.proofs.Lists.ManageMoments.{Hands, MayHand, TakeFacts}
use Rattle.sbp_world.proofs.Lists.ManageProved.{one_in_hand_law}
use Rattle.sbp_world.proofs.Lists.ManageSends.{opened_terms}
use Rattle.sbp_world.proofs.Lists.ManageTerms.{got_more}
use Rattle.sbp_world.proofs.Lists.OpenNews.{opened_same}
use Rattle.sbp_world.proofs.Lists.OwnFifos.{tame_before}
use Rattle.sbp_world.proofs.Lists.OwnGots.{answered_same}
use Rattle.sbp_world.proofs.Lists.StatusLogins.{each_there}
use Rattle.sbp_world.proofs.Lists.TameWalks.{from_after, from_between}
use Rattle.sbp_world.proofs.Lists.Walks.{Step, Walks}

abbrev Nothing : List Moment → WorldState → Type 0
Nothing past w = Unit {0}

-- what is known of a place
record Kit (start : List Disk) (past : List Moment) (w : WorldState) : Type 0 where
  given : LosesNothing past → AreFewNow start (length w.initiators) past → AreManagedGiven w
  are : AreAsked start past
  hands : (i : ℕ) → i < length w.initiators → Hands start i past

-- ---- as a line begins
record IsSame (start : List Disk) (count : ℕ) (before now : List Moment) : Type 0 where
  sent : (terms now).sent ≡ (terms before).sent
  news : (r : ℕ) → (terms now).news r ≡ (terms before).news r
  answered : (r : ℕ) → answered_at (terms now) r ≡ answered_at (terms before) r
  manages : (target_at start now).manages ≡ (target_at start before).manages
  manager : (target_at start now).manager ≡ (target_at start before).manager
  loses : LosesNothing now → LosesNothing before
  few : AreFewNow start count now → AreFewNow start count before

same_still : (start : List Disk) (count : ℕ) (past : List Moment) → IsSame start count past past
same_still start count past = record { sent = refl; news = λ r. refl; answered = λ r. refl; manages = refl; manager = refl; loses = λ l. l; few = λ f. f }

same_line : (start : List Disk) (count line : ℕ) (event : Event) (past : List Moment) → IsSame start count past (asked line event ∷ past)
same_line start count line event past =
    let office = over_keeps (target_at start past) in
    record {
      sent = (opened_terms event (terms past)).sent;
      news = λ r. ap (λ (f : ℕ → ℕ). f r) (opened_same r event (terms past));
      answered = λ r. answered_same start line event past r;
      manages = ap (λ (o : Office). o.manages) office;
      manager = ap (λ (o : Office). o.manager) office;
      loses = λ l. record { kept = l.kept; seen = sym (moment_generation 0 (asked line event) past refl) ∙ (l.seen ∙ opens event (terms past)) };
      few = λ f i b. subst (λ n. n ≤ 40) (cut_asked start line event past i) (f i b);
    }

-- ---- a turn
module _ (wild : ℕ → Bool) (units ready : ℕ) (has : 0 < units) (start : List Disk) (past : List Moment) (s : Scene) (later : List Moment) (t : Scene) (step : Step wild units ready start Nothing (Kit start) past s later t) (kit : Kit start (hist past s.world) s.world) (kit_then : Kit start (hist later t.world) t.world) where
  abbrev w : WorldState
  w = s.world

  abbrev before : List Moment
  before = hist past w

  abbrev now : List Moment
  now = hist later t.world

  abbrev count : ℕ
  count = length w.initiators

  h : Holding units ready start past step.lines w
  h = step.stands.reached.holds

  stands : Stands past w
  stands = h.sound.stands

  -- a packet that is got in it
  module _ (front : List Moment) (serial : ℕ) (earlier : List Moment) (is : front ++ said (notes.Got serial) ∷ earlier ≡ now) (same : IsSame start count before earlier) (own : ℕ) (closed : answered_at (terms earlier) serial ≡ Some own) (manages : (target_at start earlier).manages ≡ Some own) (op : Operation) (operation : (target_at start earlier).manager.operation ≡ Some op) where
    closed_then : answered_at (terms before) serial ≡ Some own
    closed_then = sym (same.answered serial) ∙ closed

    manages_then : (target_at start before).manages ≡ Some own
    manages_then = sym same.manages ∙ manages

    operation_then : (target_at start before).manager.operation ≡ Some op
    operation_then = ap (λ (m : Machine). m.operation) (sym same.manager) ∙ operation

    abbrev q : Sending
    q = answers.q units ready has start w h kit.are serial own closed_then manages_then op operation_then

    sent_then : (terms before).sent serial ≡ Some q
    sent_then = (answers.reply units ready has start w h kit.are serial own closed_then manages_then op operation_then).sent

    sent_here : (terms earlier).sent serial ≡ Some q
    sent_here = ap (λ (f : ℕ → Option Sending). f serial) same.sent ∙ sent_then

    sent_now : (terms now).sent serial ≡ Some q
    sent_now =
        let on = turns.on wild units ready has start Nothing (Kit start) past s later t step in
        ap (λ ms. (terms ms).sent serial) (sym on.is)
        ∙ ((remains on.new before (turns.counts wild units ready has start Nothing (Kit start) past s later t step)).sent serial (sent_below before serial q (counts_at w stands) sent_then) ∙ sent_then)

    one_more : (terms earlier).news serial < (terms (said (notes.Got serial) ∷ earlier)).news serial
    one_more = got_more serial earlier q sent_here

    more : (terms before).news serial < (terms now).news serial
    more =
        let l = one_more in
        let grow = news_grow front (said (notes.Got serial) ∷ earlier) serial in
        let e = ap (λ ms. (terms ms).news serial) is in
        let n = same.news serial in
        omega (arith, l, grow, e, n)

    taken : 0 < (terms now).news serial
    taken = let m = more in omega (arith, m)

    to_target : q.to ≡ 0
    to_target = answers.to_target units ready has start w h kit.are serial own closed_then manages_then op operation_then

    gets : TurnGets past w later t.world serial
    gets = turns.gets wild units ready has start Nothing (Kit start) past s later t step serial q sent_now taken to_target

    module _ (g : GotFrom past w later t.world serial) where
      abbrev sent : Sent
      sent = g.got.sent

      abbrev judged : Judged
      judged = (received g.got.run sent.generation sent.bytes (whole_of g.w.target g.got.media)).0

      found : found_sent serial w.store.kept ≡ Some sent
      found = turns.found wild units ready has start Nothing (Kit start) past s later t step serial q sent_now taken to_target g

      sending : q ≡ as_sending sent
      sending = turns.sending wild units ready has start Nothing (Kit start) past s later t step serial q sent_now taken to_target g

      -- it is judged as that note says
      one_place : said (notes.Got serial) ∷ earlier ≡ said (judged_note serial judged) ∷ hist later g.w
      one_place = by (nested front g.got.more (said (notes.Got serial) ∷ earlier) (said (judged_note serial judged) ∷ hist later g.w) (is ∙ sym g.got.judged))
        where
          by : Nested (said (notes.Got serial) ∷ earlier) (said (judged_note serial judged) ∷ hist later g.w) → said (notes.Got serial) ∷ earlier ≡ said (judged_note serial judged) ∷ hist later g.w
          by (inside [] e) = e
          by (inside (m ∷ d) e) =
              let z : d ++ said (notes.Got serial) ∷ earlier ≡ hist later g.w = cc in
              let l = one_more in
              let grow = news_grow d (said (notes.Got serial) ∷ earlier) serial in
              let there = ap (λ ms. (terms ms).news serial) z in
              let still = g.news_are in
              let n = same.news serial in
              absurd (omega (arith, l, grow, there, still, n))
          by (outside [] e) = sym e
          by (outside (m ∷ d) e) =
              let z : d ++ said (judged_note serial judged) ∷ hist later g.w ≡ earlier = cc in
              let grow = news_grow d (said (judged_note serial judged) ∷ hist later g.w) serial in
              let there = ap (λ ms. (terms ms).news serial) z in
              let all = g.got.news in
              let m = more in
              let n = same.news serial in
              absurd (omega (arith, grow, there, all, m, n))

      got_by : (j : Judged) (ms : List Moment) → said (notes.Got serial) ∷ earlier ≡ said (judged_note serial j) ∷ ms → j ≡ judgements.Got
      got_by judgements.Got ms e = refl
      got_by (judgements.Ignored cause) ms e = absurd (let no : said (notes.Got serial) ∷ earlier ≡ said (notes.Ignored serial cause) ∷ ms = e in cc)

      is_got : (received g.got.run sent.generation sent.bytes (whole_of w.target g.got.media)).0 ≡ judgements.Got
      is_got =
          ap (λ (node : NodeState). (received g.got.run sent.generation sent.bytes (whole_of node g.got.media)).0) (sym g.target)
          ∙ got_by judged (hist later g.w) one_place

      -- it is whole
      is_whole : AreManagedGiven w → IsWhole op.phase (answer_in (packet_in ((terms earlier).sent serial)))
      is_whole given =
          subst (λ (f : ℕ → Option Sending). IsWhole op.phase (answer_in (packet_in (f serial)))) (sym same.sent)
          (answers.is_whole units ready has start w h kit.are serial own closed_then manages_then op operation_then sent found g.got.to_is sending given g.got.run g.got.media is_got)

      -- and answers a status block that was taken
      status_taken : op.phase ≡ phases.Status → 0 < (terms earlier).news own
      status_taken phase = by sent.from refl
        where
          k : IsWriting (answers.asking units ready has start w h kit.are serial own closed_then manages_then op operation_then).bytes
          k = answers.status_writes units ready has start w h kit.are serial own closed_then manages_then op operation_then phase

          by : (from : ℕ) → sent.from ≡ from → 0 < (terms earlier).news own
          by zero e = absurd (step.stands.reached.site.held.leaves serial sent found e g.got.to_is)
          by (suc j) e =
              let low = (ours w stands serial sent found).from in
              let inside : j < length w.initiators = omega (arith, low, e) in
              let f : TakeFacts start earlier j serial = each_there (MayHand start j) front (said (notes.Got serial)) earlier (subst (Hands start j) (sym is) (kit_then.hands j (subst (λ n. j < n) (sym step.count) inside))) in
              let packet : f.packet ≡ q = same_Some f.packet q (sym f.facts.sent ∙ sent_here) in
              f.replied (ap (λ (x : Sending). x.to) packet ∙ to_target) own closed (answers.asking units ready has start w h kit.are serial own closed_then manages_then op operation_then)
              (ap (λ (x : ℕ → Option Sending). x own) same.sent ∙ answers.asking_sent units ready has start w h kit.are serial own closed_then manages_then op operation_then)
              (answers.asked_to units ready has start w h kit.are serial own closed_then manages_then op operation_then ∙ (ap (λ (x : Sending). x.from) sending ∙ e)) k.label k.part

    well_by : AreManagedGiven w → TurnGets past w later t.world serial → IsAnsweredWell start earlier serial own op
    well_by given (inl e) = absurd (let m = more in omega (arith, e, m))
    well_by given (inr g) = record { whole = is_whole g given; taken = status_taken g }

  got_here_well : (front : List Moment) (serial : ℕ) (earlier : List Moment) → front ++ said (notes.Got serial) ∷ earlier ≡ now → IsSame start count before earlier → IsGotWell start count earlier serial
  got_here_well front serial earlier is same loses few own closed manages op operation =
      well_by front serial earlier is same own closed manages op operation (kit.given (same.loses loses) (same.few few)) (gets front serial earlier is same own closed manages op operation)

  -- so is each that was got
  module _ (all : EachMoment (AtGot (IsGotWell start count)) before) where
    got_well : (front : List Moment) (serial : ℕ) (earlier : List Moment) → front ++ said (notes.Got serial) ∷ earlier ≡ now → WhereGot before serial earlier → IsGotWell start count earlier serial
    got_well front serial earlier is (got_before older e) = each_there (AtGot (IsGotWell start count)) older (said (notes.Got serial)) earlier (subst (EachMoment (AtGot (IsGotWell start count))) (sym e) all)
    got_well front serial earlier is (got_here e) = got_here_well front serial earlier is (subst (λ ms. IsSame start count before ms) (sym e) (same_still start count before))
    got_well front serial earlier is (got_in_line line event e) = got_here_well front serial earlier is (subst (λ ms. IsSame start count before ms) (sym e) (same_line start count line event before))

    each_well : (front ms : List Moment) → front ++ ms ≡ now → EachMoment (AtGot (IsGotWell start count)) ms
    each_well front [] is = tt
    each_well front (said (notes.Got serial) ∷ ms) is =
        (got_well front serial ms is (got_where serial ms before now (turn_next past s later t step.turn) front is), each_well (front ++ said (notes.Got serial) ∷ []) ms (moment_joined front (said (notes.Got serial)) ms ∙ is))
    each_well front (said note ∷ ms) is = (tt, each_well (front ++ said note ∷ []) ms (moment_joined front (said note) ms ∙ is))
    each_well front (asked line event ∷ ms) is = (tt, each_well (front ++ asked line event ∷ []) ms (moment_joined front (asked line event) ms ∙ is))

-- ---- each run
abbrev Kept : List Disk → (ℕ → Bool) → List Moment → WorldState → Type 0
Kept start wild past w = wild 0 ≡ false → EachMoment (AtGot (IsGotWell start (length w.initiators))) past

well_walk : (wild : ℕ → Bool) (units ready : ℕ) → 0 < units → (start : List Disk) → Walks wild units ready start Nothing (Kit start) (Kept start wild)
well_walk wild units ready has start past s later t step p own =
    subst (λ n. EachMoment (AtGot (IsGotWell start n)) (hist later t.world)) (sym step.count)
    (each_well wild units ready has start past s later t step (step.so_far 0 own) (step.so_far_then 0 own) (p own) [] (hist later t.world) refl)

first_well : (wild : ℕ → Bool) (line : ℕ) (run : Run) → Kept run.start.disks wild (moments_behind line run []) (beginning run).world
first_well wild line run own = (tt, (tt, tt))

nothing : Always Nothing
nothing = record { after_lines = λ a b c d e f. tt; between = λ a b c d e f g h j k. tt }

module _ (given : AlwaysFrom ManagedGivenThere) where
  kits : UnderFrom (λ start past w. IsTame past → Kit start past w)
  kits = record {
    after_lines = λ line run r has small size so_far tame. record {
      given = given.after_lines line run r has small size tame;
      are = contents_law.after_lines line run r has small size;
      hands = λ i b. one_in_hand_law.after_lines line run r has small size so_far i (subst (λ n. i < n) (count_after run run.entries) b) (tame i);
    };
    between = λ line run r has small size next most told m so_far tame. record {
      given = given.between line run r has small size next most told m tame;
      are = contents_law.between line run r has small size next (more_deliveries most) (more_than_one most) told m;
      hands = λ i b. one_in_hand_law.between line run r has small size next most told m so_far i (subst (λ n. i < n) (count_between told (after (beginning run) run.entries) ∙ count_after run run.entries) b) (tame i);
    };
  }

  pub got_well_law : AlwaysFrom (λ start past w. IsTame past → EachMoment (AtGot (IsGotWell start (length w.initiators))) past)
  got_well_law = record {
    after_lines = λ line run r has small size tame.
        from_after IsTame tame_before Nothing Kit Kept nothing kits well_walk first_well line run r has small size (closing.before open_lists_law line run r has small size (inl tame)) tame (tame 0);
    between = λ line run r has small size next most told m tame.
        from_between IsTame tame_before Nothing Kit Kept nothing kits well_walk first_well line run r has small size next (more_deliveries most) (more_than_one most) told m
        (closing.between open_lists_law line run r has small size next (more_deliveries most) (more_than_one most) told m (inl tame)) tame (tame 0);
  }
