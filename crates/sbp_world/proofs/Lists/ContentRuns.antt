-- In every run the packets of the target's operations ask for what the operations asked for.
use Rattle.sbp_world.proofs.Words.Std.{arith, ◌≡◌, ◌∙◌, refl, sym, ap, subst, ℕ, zero, suc, ◌+◌, ◌^◌, ◌<◌, ◌≤◌, nat_eq, nat_lt, Bool, true, false, cond, List, [], ◌∷◌, ◌++◌, map, length, Option, Some, None, Ok, slice_index_or, slice_set}
use Rattle.sbp_world.proofs.Words.Wire.{Packet, header_in, reading, AreBytes, Node, Sent, found_sent, Request, topology_at, end_note, judged_note, no_packet, find, Judged, Event, OutboxState, empty_outbox, Moment, asked, said, terms}
use Rattle.sbp_world.proofs.Words.Target.{Disk, Told, after_calls, receives, NodeState, received, Whole, TransactionLaw}
use Rattle.sbp_world.proofs.Words.Initiator.{new_state, receive_step}
use Rattle.sbp_world.proofs.Words.World.{Arrival, arrived, at_target, delivered, delivered_by, initiator_received, initiators_received, marked, received_by, received_step, target_received, whole_of, with_initiators, handed_out, history_of, moments_behind, MayHappen, happens, new_world, ready_logins, see_line, MayIf, delivered_if, expires, initiator_expires, is_in_flight, may_repeat, target_expired, timed_out, timeout_line, timeout_of, AreEntries, Entry, Run, after, beginning, MayAll, after_all, delivered_at, delivered_next, is_settled, lowest, AreLines, IsLine, Stands, Scene, WorldState, begun, with_note, with_target, without_notes, DeliversMore, IsRun, AreContents}
use Rattle.bus_transactions.proofs.FitJudged.{source_fits}
use Rattle.sbp_journal.specs.declared.event.Event.TheVariants as events
use Rattle.sbp_world.specs.Packets as packets
use Rattle.sbp_world.proofs.Wire.Comes.{own_inside, own_outside, received_is, to_own, to_zero}
use Rattle.sbp_world.proofs.Wire.Holding.{KnownTo, Sound}
use Rattle.sbp_world.proofs.Wire.Nodes.{handed_alike, marked_alike}
use Rattle.sbp_world.proofs.Wire.Starts.{laws_of}
use Rattle.sbp_world.proofs.Wire.ToldBytes.{happened_fits}
use Rattle.sbp_target.proofs.Histories.Calling.{Good}
use Rattle.sbp_world.proofs.Agents.Management.Begins.{first_holds, first_past}
use Rattle.sbp_world.proofs.Agents.Management.Holding.{Holding, good_of, is_of, known_id, law_of, ours, ready_for, target_generation}
use Rattle.sbp_world.proofs.Agents.Management.Lines.{all_heard as all_hold, line_holds, opens}
use Rattle.sbp_world.proofs.Agents.Management.Managed.{IsReady}
use Rattle.sbp_world.proofs.Agents.Management.Runs.{no_repeats, not_reset}
use Rattle.sbp_world.proofs.Agents.Management.Still.{hist}
use Rattle.sbp_world.proofs.Lists.ContentDelivery.{delivery_contents}
use Rattle.sbp_world.proofs.Lists.ContentLanding.{handed_world}
use Rattle.sbp_world.proofs.Lists.ContentOwn.{acts, hears, injects, keys, lapses, loses, own_lapses, own_sight, refuses, resets, seconds, sights}
use Rattle.sbp_world.proofs.Hosts.Runs.{are_told}

module _ (units ready : ℕ) (has : 0 < units) (start : List Disk) where
  abbrev pub Are : List Moment → WorldState → Type 0
  Are past w = AreContents start (hist past w)

  abbrev pub H : List Moment → ℕ → WorldState → Type 0
  H past lines w = Holding units ready start past lines w

  -- ---- a packet is delivered to the target
  module _ {past : List Moment} {lines : ℕ} (s : Scene) (h : H past lines s.world) (o : Are past s.world) (serial : ℕ) (again : Bool) (told : Option Told) (later : Sound past lines (delivered serial again told s).world) where
    module _ (sent : Sent) (found : found_sent serial s.world.store.kept ≡ Some sent) where
      module _ (zero_to : sent.to ≡ 0) where
        abbrev w : WorldState
        w = s.world

        abbrev stands : Stands past w
        stands = h.sound.stands

        g : Good w.target
        g = good_of units ready h.calls w.target has h.made

        law : TransactionLaw w.target
        law = law_of units ready h.calls w.target has h.made

        abbrev r : Judged × Whole
        r = received told sent.generation sent.bytes (whole_of w.target s.media)

        -- the node that a packet of the target's generation came from
        source_ready : sent.generation ≡ w.target.layer.generation → (p : Packet) → reading sent.bytes ≡ Ok p → IsReady past w (header_in p).source
        source_ready current p read =
            let there : 0 ≤ length w.initiators = omega arith in
            let layer_is : w.target.layer.generation ≡ (topology_at w.generations 0).generation = sym (ap (λ (l : Node). l.generation) (stands.is.layers_are 0 there)) ∙ stands.is.sights 0 there in
            let own = ours w stands serial sent found in
            ready_for w stands (header_in p).source
            (record {
              node = sent.from;
              there = own.from;
              id_is = sym (known_id w stands sent.from own.from) ∙ ap (λ x. (terms (hist past w)).ids x sent.from) (target_generation w stands ∙ sym layer_is ∙ sym current) ∙ sym ((is_of w stands serial sent found).source p read);
            })
            (source_fits sent.bytes p read own.bytes)

        abbrev last : WorldState
        last = handed_world start w stands g law h.at serial again sent found zero_to o r.0 r.1

        last_is : (delivered serial again told s).world ≡ last
        unfolding delivered target_received arrived
        last_is =
            ap (λ (x : Option Arrival × (OutboxState × Scene)). (delivered_by serial again x).world)
            (received_is told serial s sent found ∙ ap (λ b. cond b (at_target sent.to (target_received told sent w.target s.media) s) (initiator_received sent s)) (to_zero sent.to zero_to))
            ∙ ap (λ n. handed_out n 0 r.1.outbox (with_note (judged_note serial r.0) (marked serial again (with_target r.1.node w)))) zero_to

        target_is : last.target ≡ r.1.node
        target_is =
            (handed_alike 0 0 r.1.outbox (with_note (judged_note serial r.0) (marked serial again (with_target r.1.node w)))).target
            ∙ (marked_alike (with_target r.1.node w) serial again).target

        made_now : after_calls units ready (receives told s.media.disks sent.generation sent.bytes ∷ h.calls) ≡ r.1.node
        made_now = ap (λ n. (received told sent.generation sent.bytes (whole_of n s.media)).1.node) h.made

        heard_target : Are past (delivered serial again told s).world
        heard_target =
            let own = ours w stands serial sent found in
            let holds = h.sound.nodes.target_holds in
            let last_sound : Sound past lines last = subst (Sound past lines) last_is later in
            let now_holds = last_sound.nodes.target_holds in
            let law_now = law_of units ready (receives told s.media.disks sent.generation sent.bytes ∷ h.calls) r.1.node has made_now in
            let ends = delivery_contents start w stands g law h.at serial again sent found zero_to own.bytes h.rom holds.layer.small {known = KnownTo w.generations.seen} holds.fits.manager source_ready o told s.media in
            subst (Are past) (sym last_is)
            (ends (record {
              wire = laws_of past last last_sound.stands;
              law_now = law_now;
              id_small = subst (λ (n : NodeState). n.layer.node < 2 ^ 16) target_is now_holds.layer.small;
              bytes = subst (λ (n : NodeState). AreBytes n.manager.outgoing) target_is now_holds.fits.manager.outgoing;
            }))

      heard_own : (i : ℕ) → sent.to ≡ suc i → i < length s.world.initiators → Are past (delivered serial again told s).world
      unfolding delivered initiators_received arrived
      heard_own i to_is inside =
          let w = s.world in
          let x = receive_step sent.generation sent.bytes empty_outbox (slice_index_or w.initiators i (new_state 0 false)) in
          let v = with_note (judged_note serial x.0) (marked serial again (with_initiators (slice_set w.initiators i x.1.1) w)) in
          let last_is : (delivered serial again told s).world ≡ handed_out sent.to 0 x.1.0 v =
          ap (λ (y : Option Arrival × (OutboxState × Scene)). (delivered_by serial again y).world) (to_own told serial i s sent found to_is ∙ own_inside sent i s inside) in
          let is = last_is ∙ ap (λ n. handed_out n 0 x.1.0 v) to_is in
          subst (Are past) (sym is) (hears start past serial i again sent w o)

      heard_none : (i : ℕ) → sent.to ≡ suc i → length s.world.initiators ≤ i → Are past (delivered serial again told s).world
      unfolding delivered
      heard_none i to_is outside =
          subst (Are past) (sym (ap (λ (y : Option Arrival × (OutboxState × Scene)). (delivered_by serial again y).world) (to_own told serial i s sent found to_is ∙ own_outside sent i s outside))) o

      heard_at : (to : ℕ) → sent.to ≡ to → Are past (delivered serial again told s).world
      heard_at zero e = heard_target e
      heard_at (suc i) e = by (nat_lt i (length s.world.initiators)) refl
        where
          by : (b : Bool) → nat_lt i (length s.world.initiators) ≡ b → Are past (delivered serial again told s).world
          by true f = heard_own i e (grind arith)
          by false f = heard_none i e (grind arith)

    heard_by : (so : Option Sent) → found_sent serial s.world.store.kept ≡ so → Are past (delivered serial again told s).world
    unfolding delivered received_step
    heard_by None e = subst (Are past) (sym (ap (λ x. (delivered_by serial again (received_by told x s)).world) e)) o
    heard_by (Some sent) e = heard_at sent e sent.to refl

    pub heard : Are past (delivered serial again told s).world
    heard = heard_by (found_sent serial s.world.store.kept) refl

  -- ---- one after the other
  abbrev pub All : List Moment → ℕ → List (Option Told) → Scene → Type 0
  All past lines [] s = H past lines s.world
  All past lines (one ∷ told) s = H past lines (after_all (one ∷ told) s).world × All past lines told s

  last_of : (past : List Moment) (lines : ℕ) (told : List (Option Told)) (s : Scene) → All past lines told s → H past lines (after_all told s).world
  last_of past lines [] s a = a
  last_of past lines (one ∷ told) s a = a.0

  next_heard : (past : List Moment) (lines : ℕ) (one : Option Told) (t : Scene) (so : Option ℕ) → H past lines t.world → Sound past lines (delivered_at so one t).world → Are past t.world → Are past (delivered_at so one t).world
  next_heard past lines one t None h later o = o
  next_heard past lines one t (Some serial) h later o = heard t h o serial false one later

  pub all_heard : (past : List Moment) (lines : ℕ) (told : List (Option Told)) (s : Scene) → All past lines told s → Are past s.world → Are past (after_all told s).world
  unfolding delivered_next
  all_heard past lines [] s a o = o
  all_heard past lines (one ∷ told) s a o =
      let t = after_all told s in next_heard past lines one t (lowest t.world) (last_of past lines told s a.1) a.0.sound (all_heard past lines told s a.1 o)

  -- ---- a transaction times out
  module _ (past : List Moment) (w : WorldState) (o : Are past w) (line serial : ℕ) where
    lapses_at : (request : Request) (node : ℕ) → request.node ≡ node → Are past (timed_out line serial request.node (expires request w))
    unfolding expires
    lapses_at request zero e =
        let is_zero : nat_eq request.node 0 ≡ true = grind arith in
        subst (λ b. Are past (timed_out line serial request.node (cond b (packets.at_target (target_expired request w.target) w) (initiator_expires request w)))) (sym is_zero)
        (lapses start past line serial request e w o)
    lapses_at request (suc i) e =
        let other : nat_eq request.node 0 ≡ false = grind arith in
        subst (λ b. Are past (timed_out line serial request.node (cond b (packets.at_target (target_expired request w.target) w) (initiator_expires request w)))) (sym other)
        (own_lapses start past line serial request i e w o)

    late_by : (so : Option Request) → Are past (timeout_of so line serial w)
    late_by None = refuses start past line no_packet w o
    late_by (Some request) = lapses_at request request.node refl

    pub late : Are past (timeout_line line serial w)
    unfolding timeout_line
    late = late_by (find w.requests serial)

  -- ---- a line
  one_heard : (past : List Moment) (lines line serial : ℕ) (again b : Bool) (told : List (Option Told)) (s : Scene) → H past lines s.world → MayIf b serial told s → Sound past lines (delivered_if b line serial again told s).world → Are past s.world → Are past (delivered_if b line serial again told s).world
  one_heard past lines line serial again true [] s h m later o = absurd m
  one_heard past lines line serial again true (one ∷ []) s h m later o = heard s h o serial again one later
  one_heard past lines line serial again true (one ∷ other ∷ more) s h m later o = absurd m
  one_heard past lines line serial again false told s h m later o = refuses start past line no_packet s.world o

  sees : (past : List Moment) (w : WorldState) (node : ℕ) → Are past w → Are past (see_line node w)
  sees past w zero o = sights start past w o
  sees past w (suc i) o = own_sight start past i w o

  abbrev pub More : Event → List Moment → ℕ → List (Option Told) → Scene → Type 0
  More (events.Step count) past lines told s = All past lines told s
  More events.Settle past lines told s = All past lines told s
  More (events.Deliver serial) past lines told s = H past lines s.world
  More (events.Repeat serial) past lines told s = H past lines s.world
  More event past lines told s = Unit {0}

  pub line_contents : (past : List Moment) (lines line : ℕ) (event : Event) (told : List (Option Told)) (s : Scene) → IsLine event (length s.world.initiators) → MayHappen event told s → (let now = asked line event ∷ hist past s.world in More event now lines told (begun s) → Sound now lines (happens line event told s).world → Are now (without_notes s.world) → Are now (happens line event told s).world)
  unfolding happens MayHappen
  line_contents past lines line (events.Begin initiators is_ready) told s q m more later o = absurd q
  line_contents past lines line (events.Act i action) told s q m more later o = acts start (asked line (events.Act i action) ∷ hist past s.world) line i action (without_notes s.world) o
  line_contents past lines line (events.Reset physical) told s q m more later o = resets start (asked line (events.Reset physical) ∷ hist past s.world) physical (without_notes s.world) o
  line_contents past lines line (events.See node) told s q m more later o = sees (asked line (events.See node) ∷ hist past s.world) (without_notes s.world) node o
  line_contents past lines line (events.Deliver serial) told s q m more later o =
      one_heard (asked line (events.Deliver serial) ∷ hist past s.world) lines line serial false (is_in_flight serial (begun s).world) told (begun s) more m later o
  line_contents past lines line (events.Repeat serial) told s q m more later o =
      one_heard (asked line (events.Repeat serial) ∷ hist past s.world) lines line serial true (may_repeat serial (begun s).world) told (begun s) more m later o
  line_contents past lines line (events.Lose serial) told s q m more later o = loses start (asked line (events.Lose serial) ∷ hist past s.world) line serial (without_notes s.world) o
  line_contents past lines line (events.Timeout serial) told s q m more later o = late (asked line (events.Timeout serial) ∷ hist past s.world) (without_notes s.world) o line serial
  line_contents past lines line (events.Step count) told s q m more later o = all_heard (asked line (events.Step count) ∷ hist past s.world) lines told (begun s) more o
  line_contents past lines line events.Settle told s q m more later o =
      let now = asked line events.Settle ∷ hist past s.world in
      let t = after_all told (begun s) in
      ends (is_settled t.world) now t.world (all_heard now lines told (begun s) more o)
    where
      ends : (b : Bool) (now : List Moment) (w : WorldState) → Are now w → Are now (with_note (end_note b) w)
      ends true now w x = (tt, x)
      ends false now w x = (tt, x)
  line_contents past lines line events.Tick told s q m more later o = seconds start (asked line events.Tick ∷ hist past s.world) (without_notes s.world) o
  line_contents past lines line (events.Inject i bytes) told s q m more later o = injects start (asked line (events.Inject i bytes) ∷ hist past s.world) line i bytes (without_notes s.world) o
  line_contents past lines line (events.Key unit key) told s q m more later o = keys start (asked line (events.Key unit key) ∷ hist past s.world) line unit key (without_notes s.world) o

-- ---- runs
module _ (line : ℕ) (run : Run) (few : run.initiators ≤ 4) (has : 0 < run.units) (small : run.units ≤ 4) (size : length run.start.disks ≡ run.units) where
  abbrev logins : ℕ
  logins = ready_logins run.initiators run.ready

  abbrev Held : List Moment → ℕ → WorldState → Type 0
  Held past lines w = Holding run.units logins run.start.disks past lines w

  abbrev moments : List Entry → List Moment
  moments entries = moments_behind line run entries

  -- between deliveries of a line that follows
  module _ (s : Scene) (past : List Moment) (lines : ℕ) (h : Held past lines s.world) (next : ℕ) (event : Event) (d : DeliversMore event) where
    abbrev now : List Moment
    now = asked next event ∷ hist past s.world

    opened : Held now (lines + 1) (without_notes s.world)
    opened = opens run.units logins has run.start.disks next event s.world (not_reset event d) h

    pub all_told : (told : List (Option Told)) → MayAll told (begun s) → All run.units logins has run.start.disks now (lines + 1) told (begun s)
    all_told [] m = opened
    all_told (one ∷ told) m = (
      all_hold run.units logins has run.start.disks (one ∷ told) (are_told (one ∷ told) s m) (begun s) opened (no_repeats event (hist past s.world) next d),
      all_told told m.1,
    )

  more_of : (s : Scene) (past : List Moment) (lines : ℕ) → Held past lines s.world → (next : ℕ) (event : Event) (told : List (Option Told)) → MayHappen event told s → More run.units logins has run.start.disks event (asked next event ∷ hist past s.world) (lines + 1) told (begun s)
  unfolding MayHappen
  more_of s past lines h next (events.Begin initiators is_ready) told m = tt
  more_of s past lines h next (events.Act initiator action) told m = tt
  more_of s past lines h next (events.Reset physical) told m = tt
  more_of s past lines h next (events.See node) told m = tt
  more_of s past lines h next (events.Deliver serial) told m = opens run.units logins has run.start.disks next (events.Deliver serial) s.world refl h
  more_of s past lines h next (events.Repeat serial) told m = opens run.units logins has run.start.disks next (events.Repeat serial) s.world refl h
  more_of s past lines h next (events.Lose serial) told m = tt
  more_of s past lines h next (events.Timeout serial) told m = tt
  more_of s past lines h next (events.Step count) told m = all_told s past lines h next (events.Step count) tt told m.may
  more_of s past lines h next events.Settle told m = all_told s past lines h next events.Settle tt told m.may
  more_of s past lines h next events.Tick told m = tt
  more_of s past lines h next (events.Inject initiator bytes) told m = tt
  more_of s past lines h next (events.Key unit key) told m = tt

  -- ---- behind the lines of a run
  pub record After (entries : List Entry) (w : WorldState) : Type 0 where
    pub past : List Moment
    pub holds : Held past (length entries) w
    pub is : hist past w ≡ moments entries
    pub contents : AreContents run.start.disks (hist past w)

  first_after : After [] (beginning run).world
  unfolding new_world
  first_after = record {
    past = first_past line run.initiators run.ready;
    holds = first_holds run.initiators run.ready run.units line run.start.disks few small size;
    is = refl;
    contents = (tt, (tt, tt));
  }

  next_after : (e : Entry) (before : List Entry) → length before + 2 < 2 ^ 32 → AreEntries (beginning run) (e ∷ before) → AreLines run (e ∷ before) → After before (after (beginning run) before).world → After (e ∷ before) (happens e.line e.event e.told (after (beginning run) before)).world
  next_after e before short every fit b =
      let s = after (beginning run) before in
      let now = asked e.line e.event ∷ hist b.past s.world in
      let x : length before + 1 ≡ suc (length before) = omega arith in
      let last = line_holds run.units logins has run.start.disks e.line e.event e.told s fit.0 (happened_fits e.event e.told s every.0.may) (omega arith) b.holds in
      record {
        past = now;
        holds = subst (λ n. Held now n (happens e.line e.event e.told s).world) x last;
        is = ap (λ ns. map said ns ++ now) (sym every.0.notes_are) ∙ ap (λ ms. map said e.notes ++ asked e.line e.event ∷ ms) b.is;
        contents =
            line_contents run.units logins has run.start.disks b.past (length before + 1) e.line e.event e.told s fit.0 every.0.may
            (more_of s b.past (length before) b.holds e.line e.event e.told every.0.may) last.sound (tt, b.contents);
      }

  pub contents_behind : (entries : List Entry) → length entries + 2 < 2 ^ 32 → AreEntries (beginning run) entries → AreLines run entries → After entries (after (beginning run) entries).world
  contents_behind [] short every fit = first_after
  contents_behind (e ∷ before) short every fit =
      let few_lines : length before + 2 < 2 ^ 32 = omega arith in next_after e before few_lines every fit (contents_behind before few_lines every.1 fit.1)

module _ (line : ℕ) (run : Run) (r : IsRun run) (has : 0 < run.units) (small : run.units ≤ 4) (size : length run.start.disks ≡ run.units) where
  abbrev scene_there : Scene
  scene_there = after (beginning run) run.entries

  abbrev known : After line run r.few has small size run.entries scene_there.world
  known = contents_behind line run r.few has small size run.entries r.short r.entries r.lines

  pub contents_after : AreContents run.start.disks (history_of line run)
  contents_after = let k = known in subst (AreContents run.start.disks) k.is k.contents

  pub contents_between : (next : ℕ) (event : Event) → DeliversMore event → (told : List (Option Told)) → MayAll told (begun scene_there) → AreContents run.start.disks (map said (after_all told (begun scene_there)).world.fresh ++ asked next event ∷ history_of line run)
  contents_between next event d told m =
      let k = known in
      let now = asked next event ∷ hist k.past scene_there.world in
      let end = (after_all told (begun scene_there)).world in
      let all = all_told line run r.few has small size scene_there k.past (length run.entries) k.holds next event d told m in
      let o = all_heard run.units (ready_logins run.initiators run.ready) has run.start.disks now (length run.entries + 1) told (begun scene_there) all (tt, k.contents) in
      subst (λ ms. AreContents run.start.disks (map said end.fresh ++ asked next event ∷ ms)) k.is o
