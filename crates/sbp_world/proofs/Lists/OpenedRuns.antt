-- Each line of a run keeps it, for which list an agent is out of RESET.
use Rattle.sbp_world.proofs.Words.Std.{arith, ◌≡◌, ◌∙◌, refl, sym, ap, subst, ℕ, zero, suc, ◌<◌, ◌≤◌, ◌==◌, nat_eq, nat_lt, Bool, true, false, cond, List, [], ◌∷◌, ◌++◌, map, length, Option, Some, None, slice_index_or, slice_set, nat_tests}
use Rattle.sbp_world.proofs.Words.Wire.{is_reset, Sent, found_sent, Request, end_note, judged_note, no_packet, find, Event, OutboxState, empty_outbox, Moment, asked, said}
use Rattle.sbp_world.proofs.Words.Target.{Disk, Told, received}
use Rattle.sbp_world.proofs.Words.Initiator.{new_state, receive_step}
use Rattle.sbp_world.proofs.Words.World.{Arrival, MayAt, MayReceive, MayTell, MayTold, arrived, at_target, delivered, delivered_by, initiator_received, initiators_received, marked, received_by, received_step, target_received, whole_of, with_initiators, handed_out, MayHappen, acted, happens, keyed, see_line, tick_line, MayIf, delivered_if, expires, initiator_expires, inject_line, is_in_flight, lose_line, may_repeat, refused, target_expired, timed_out, timeout_line, timeout_of, MayAll, NextMay, MayNext, after_all, delivered_at, delivered_next, is_settled, lowest, IsLine, Scene, WorldState, begun, initiator_at, with_note, with_target, without_notes, AreHeldAt, AreOthers, AreRows, IsCalm, AreOpenFor, View, view, AreOpened}
use Rattle.sbp_journal.specs.declared.event.Event.TheVariants as events
use Rattle.sbp_world.specs.Packets as packets
use Rattle.sbp_world.proofs.Wire.Comes.{own_inside, own_outside, received_is, to_own, to_zero}
use Rattle.sbp_world.proofs.Agents.Management.Holding.{Holding}
use Rattle.sbp_world.proofs.Agents.Management.Still.{hist}
use Rattle.sbp_world.proofs.Hosts.Hands.{target_tells}
use Rattle.sbp_world.proofs.Hosts.StepLaws.{step_law}
use Rattle.sbp_world.proofs.Lists.Calm.{asked_calm, calm_asked, calm_before}
use Rattle.sbp_world.proofs.Lists.Extends.{Extends, delivered_extends}
use Rattle.sbp_world.proofs.Lists.OpenedEndings.{Manages, delivery_cuts}
use Rattle.sbp_world.proofs.Lists.OpenedGrown.{asked_view, end_view}
use Rattle.sbp_world.proofs.Lists.OpenedOthers.{OthersDo, acts_does, alike_open, hears_keeps, injects_does, lapses_keep, line_keeps, loses_does, refused_does, resets_does, sight_keeps as own_sight_keeps}
use Rattle.sbp_world.proofs.Lists.OpenedSends.{Tells}
use Rattle.sbp_world.proofs.Lists.OpenedTargets.{Telling, delivery_keeps, key_keeps, lapse_keeps, sight_keeps, tick_keeps}
use Rattle.sbp_world.proofs.Lists.OpenedTurns.{Known}
use Rattle.sbp_world.proofs.Lists.OpenedWorlds.{Here, Then, Wired, alike_up}
use Rattle.sbp_world.proofs.Common.{said_split as split}

-- ---- a line begins
pub here_asked : (line : ℕ) (event : Event) (H : List Moment) (w : WorldState) (i : ℕ) → Here H w i → Here (asked line event ∷ H) (without_notes w) i
here_asked line event H w i here =
    let e = asked_view line event H i in
    let k = here.known in
    let rows : i < length w.initiators → AreRows (asked line event ∷ H) i (initiator_at w i).lists.slots = λ b. step_law.asked line event H i (initiator_at w i).lists.slots (here.rows b) in
    let known : Known (view H i) (without_notes w) i = record { first = k.first; waits = k.waits; begun = k.begun; caught = λ p b u. k.caught p b (record { up = u.up; own = u.own }); judged = k.judged } in
    record {
      known = subst (λ (x : View). Known x (without_notes w) i) (sym e) known;
      latest = subst (λ (x : View). (n : ℕ) → x.present ≡ Some n → suc n ≡ x.begun) (sym e) here.latest;
      written = λ serial packet place address sent. here.written serial packet place address (subst (λ (x : View). x.sent serial ≡ Some packet) e sent);
      rows = rows;
      resets = λ underway packet is resets sent. here.resets underway packet (subst (λ (x : View). x.operation ≡ Some underway) e is) resets (subst (λ (x : View). x.sent underway.first ≡ Some packet) e sent);
      agent = here.agent;
      pointer = λ n serial packet p q s. here.pointer n serial packet (subst (λ (x : View). x.present ≡ Some n) e p) (subst (λ (x : View). x.pointed serial ≡ Some n) e q) (subst (λ (x : View). x.sent serial ≡ Some packet) e s);
      reset = λ underway packet is resets sent. here.reset underway packet (subst (λ (x : View). x.operation ≡ Some underway) e is) resets (subst (λ (x : View). x.sent underway.first ≡ Some packet) e sent);
      states = λ n serial packet p q s. here.states n serial packet (subst (λ (x : View). x.present ≡ Some n) e p) (subst (λ (x : View). x.told serial ≡ Some n) e q) (subst (λ (x : View). x.sent serial ≡ Some packet) e s);
    }

pub mine_asked : (line : ℕ) (event : Event) (H : List Moment) (w : WorldState) (i : ℕ) → Manages (view H i) w i → Manages (view (asked line event ∷ H) i) (without_notes w) i
mine_asked line event H w i k = subst (λ (x : View). Manages x (without_notes w) i) (sym (asked_view line event H i)) (record { decides = k.decides; one = k.one; answers = k.answers })

module _ (n units logins : ℕ) (has : 0 < units) (start : List Disk) (telling : Telling units logins has start) where
  abbrev pub AllOpen : List Moment → WorldState → Type 0
  AllOpen past w = (i : ℕ) → i < n → IsCalm (hist past w) i → AreOpenFor (view (hist past w) i) w i

  -- what is known of a world
  pub record Facts (past : List Moment) (w : WorldState) : Type 0 where
    pub lines : ℕ
    pub holds : Holding units logins start past lines w
    pub held : AreHeldAt start (hist past w) w
    pub here : (i : ℕ) → i < n → IsCalm (hist past w) i → Here (hist past w) w i
    pub mine : (i : ℕ) → i < n → IsCalm (hist past w) i → Manages (view (hist past w) i) w i

  -- and behind a turn
  pub record HeldAt (past : List Moment) (w : WorldState) : Type 0 where
    pub lines : ℕ
    pub holds : Holding units logins start past lines w

  pub record Behind (past : List Moment) (w : WorldState) : Type 0 where
    pub behind : (i : ℕ) → i < n → IsCalm (hist past w) i → Then (hist past w) i
    pub tells : (i : ℕ) → i < n → IsCalm (hist past w) i → Tells start (hist past w) i
    pub held : HeldAt past w
    pub opened : AreOpened (hist past w) w

  -- who injected nothing behind a turn did not before
  calm_on : (past : List Moment) (w v : WorldState) (i : ℕ) → Extends w.fresh v.fresh → IsCalm (hist past v) i → IsCalm (hist past w) i
  calm_on past w v i e c =
      calm_before (map said e.more) (hist past w) i
      (subst (λ ms. IsCalm ms i) (ap (λ ns. map said ns ++ past) (sym e.is) ∙ split e.more w.fresh past) c)

  -- ---- a packet is delivered
  module _ (past : List Moment) (s : Scene) (f : Facts past s.world) (o : AllOpen past s.world) (serial : ℕ) (again : Bool) (run : Option Told) (may : MayReceive run serial s) (b : Behind past (delivered serial again run s).world) where
    abbrev D : WorldState
    D = (delivered serial again run s).world

    calm_back : (i : ℕ) → IsCalm (hist past D) i → IsCalm (hist past s.world) i
    calm_back i c = calm_on past s.world D i (delivered_extends serial again run s) c

    abbrev J : ℕ → WorldState → Type 0
    J i v = Then (hist past v) i → Tells start (hist past v) i → HeldAt past v → AreOpenFor (view (hist past v) i) v i

    module _ (sent : Sent) (found : found_sent serial s.world.store.kept ≡ Some sent) (i : ℕ) (inside : i < n) (calm : IsCalm (hist past s.world) i) where
      heard_target : sent.to ≡ 0 → MayTell run sent s.world.target s.media → J i D
      unfolding delivered target_received arrived
      heard_target zero_to tells =
          let w = s.world in
          let x = received run sent.generation sent.bytes (whole_of w.target s.media) in
          let last_is : (delivered serial again run s).world ≡ handed_out 0 0 x.1.outbox (with_note (judged_note serial x.0) (marked serial again (with_target x.1.node w))) =
          ap (λ (y : Option Arrival × (OutboxState × Scene)). (delivered_by serial again y).world)
          (received_is run serial s sent found ∙ ap (λ b. cond b (at_target sent.to (target_received run sent w.target s.media) s) (initiator_received sent s)) (to_zero sent.to zero_to))
          ∙ ap (λ n. handed_out n 0 x.1.outbox (with_note (judged_note serial x.0) (marked serial again (with_target x.1.node w)))) zero_to in
          let others : AreOthers x.1.outbox.sides = target_tells run sent w.target s.media tells in
          subst (J i) (sym last_is)
          (λ behind k now.
          delivery_keeps units logins has start w f.holds f.held i (f.here i inside calm) (o i inside calm) calm serial sent found zero_to run s again others
          (telling past f.lines w f.holds f.held i calm (f.here i inside calm) (o i inside calm) serial sent found zero_to run s again others)
          (λ r l. delivery_cuts units logins has start w f.holds f.held i calm (f.here i inside calm) (f.mine i inside calm) serial sent found zero_to run s again others now.holds k r l) behind)

      heard_own : (j : ℕ) → sent.to ≡ suc j → j < length s.world.initiators → J i D
      unfolding delivered initiators_received arrived
      heard_own j to_is in_world =
          let w = s.world in
          let x = receive_step sent.generation sent.bytes empty_outbox (slice_index_or w.initiators j (new_state 0 false)) in
          let v = with_note (judged_note serial x.0) (marked serial again (with_initiators (slice_set w.initiators j x.1.1) w)) in
          let last_is : (delivered serial again run s).world ≡ handed_out sent.to 0 x.1.0 v =
          ap (λ (y : Option Arrival × (OutboxState × Scene)). (delivered_by serial again y).world) (to_own run serial j s sent found to_is ∙ own_inside sent j s in_world) in
          let is = last_is ∙ ap (λ n. handed_out n 0 x.1.0 v) to_is in
          subst (J i) (sym is) (λ behind k now. hears_keeps i w f.holds.sound.stands (f.here i inside calm) (o i inside calm) calm serial j again sent found to_is behind)

      heard_none : (j : ℕ) → sent.to ≡ suc j → length s.world.initiators ≤ j → J i D
      unfolding delivered
      heard_none j to_is outside =
          subst (J i) (sym (ap (λ (y : Option Arrival × (OutboxState × Scene)). (delivered_by serial again y).world) (to_own run serial j s sent found to_is ∙ own_outside sent j s outside))) (λ behind k now. o i inside calm)

      heard_at : (to : ℕ) → sent.to ≡ to → MayTold (sent.to == 0) run sent s → J i D
      heard_at zero e m = heard_target e (subst (λ b. MayTold b run sent s) (let z : nat_eq sent.to 0 ≡ true = grind (arith, nat_tests) in z) m)
      heard_at (suc j) e m = by (nat_lt j (length s.world.initiators)) refl
        where
          by : (c : Bool) → nat_lt j (length s.world.initiators) ≡ c → J i D
          by true g = heard_own j e (grind arith)
          by false g = heard_none j e (grind arith)

    heard_by : (so : Option Sent) → found_sent serial s.world.store.kept ≡ so → MayAt run so s → (i : ℕ) → i < n → IsCalm (hist past s.world) i → J i D
    unfolding delivered received_step
    heard_by None e m i inside calm = subst (J i) (sym (ap (λ o. (delivered_by serial again (received_by run o s)).world) e)) (λ behind k now. o i inside calm)
    heard_by (Some sent) e m i inside calm = heard_at sent e i inside calm sent.to refl m

    heard_there : (i : ℕ) → i < n → IsCalm (hist past s.world) i → J i D
    unfolding MayReceive
    heard_there i inside calm = heard_by (found_sent serial s.world.store.kept) refl may i inside calm

    pub heard : AllOpen past D
    heard i inside calm = heard_there i inside (calm_back i calm) (b.behind i inside calm) (b.tells i inside calm) b.held

  -- ---- one after the other: what is known before each delivery, and behind it
  pub record Around (past : List Moment) (w v : WorldState) : Type 0 where
    pub facts : Facts past w
    pub behind : Behind past v

  abbrev pub AllFacts : List Moment → List (Option Told) → Scene → Type 0
  AllFacts past [] s = Unit {0}
  AllFacts past (one ∷ told) s = Around past (after_all told s).world (after_all (one ∷ told) s).world × AllFacts past told s

  next_heard : (past : List Moment) (one : Option Told) (t : Scene) → Facts past t.world → AllOpen past t.world → (so : Option ℕ) → NextMay so one t → Behind past (delivered_at so one t).world → AllOpen past (delivered_at so one t).world
  next_heard past one t f o None m b = absurd m
  next_heard past one t f o (Some serial) m b = heard past t f o serial false one m b

  pub all_heard : (past : List Moment) (told : List (Option Told)) (s : Scene) → AllFacts past told s → MayAll told s → AllOpen past s.world → AllOpen past (after_all told s).world
  unfolding delivered_next MayNext
  all_heard past [] s f m o = o
  all_heard past (one ∷ told) s f m o = let t = after_all told s in next_heard past one t f.0.facts (all_heard past told s f.1 m.1 o) (lowest t.world) m.0 f.0.behind

  -- ---- lines
  abbrev pub More : Event → List Moment → List (Option Told) → Scene → Type 0
  More (events.Step count) past told s = AllFacts past told s
  More events.Settle past told s = AllFacts past told s
  More event past told s = Unit {0}

  module _ (past : List Moment) (line : ℕ) (s : Scene) (k : Wired (hist past s.world)) (here : (i : ℕ) → i < n → IsCalm (hist past s.world) i → Here (hist past s.world) s.world i) (o : AllOpen past s.world) where
    abbrev H : List Moment
    H = hist past s.world

    abbrev w : WorldState
    w = without_notes s.world

    -- as the line begins
    calm_first : (event : Event) (v : WorldState) (i : ℕ) → IsCalm (hist (asked line event ∷ H) v) i → IsCalm H i
    calm_first event v i c = asked_calm line event H i (calm_before (map said v.fresh) (asked line event ∷ H) i c)

    here_first : (i : ℕ) → i < n → IsCalm H i → Here H w i
    here_first i b c =
        let x = here i b c in
        let y = x.known in
        record {
          known = record { first = y.first; waits = y.waits; begun = y.begun; caught = λ p d u. y.caught p d (record { up = u.up; own = u.own }); judged = y.judged };
          latest = x.latest;
          written = x.written;
          resets = x.resets;
          rows = x.rows;
          agent = x.agent;
          pointer = x.pointer;
          reset = x.reset;
          states = x.states;
        }

    open_first : (i : ℕ) → i < n → IsCalm H i → AreOpenFor (view H i) w i
    open_first i b c = alike_open (view H i) s.world w i (alike_up s.world w refl refl i) (o i b c)

    open_asked : (event : Event) → AllOpen (asked line event ∷ H) w
    open_asked event i b c = subst (λ (x : View). AreOpenFor x w i) (sym (asked_view line event H i)) (open_first i b (asked_calm line event H i c))

    -- one of others
    others_line : (event : Event) (v : WorldState) → OthersDo w v → Behind (asked line event ∷ H) v → AllOpen (asked line event ∷ H) v
    others_line event v d b i inside c =
        let first = calm_first event v i c in
        line_keeps s.world i line event H k v d (here_first i inside first) (b.behind i inside c) (open_first i inside first)

    -- a delivery
    one_heard : (event : Event) (serial : ℕ) (again b : Bool) (told : List (Option Told)) → Facts (asked line event ∷ H) w → MayIf b serial told (begun s) → Behind (asked line event ∷ H) (delivered_if b line serial again told (begun s)).world → AllOpen (asked line event ∷ H) (delivered_if b line serial again told (begun s)).world
    one_heard event serial again true [] f m b = absurd m
    one_heard event serial again true (one ∷ []) f m b = heard (asked line event ∷ H) (begun s) f (open_asked event) serial again one m b
    one_heard event serial again true (one ∷ other ∷ more) f m b = absurd m
    one_heard event serial again false told f m b = others_line event (refused line no_packet w) (refused_does s.world line no_packet) b

    -- a time-out
    module _ (event : Event) (f : Facts (asked line event ∷ H) w) (serial : ℕ) where
      abbrev now : List Moment
      now = asked line event ∷ H

      lapses_at : (request : Request) (node : ℕ) → request.node ≡ node → Behind now (timed_out line serial request.node (expires request w)) → AllOpen now (timed_out line serial request.node (expires request w))
      unfolding expires target_expired
      lapses_at request zero e =
          let is_zero : nat_eq request.node 0 ≡ true = grind arith in
          subst (λ b. Behind now (timed_out line serial request.node (cond b (packets.at_target (target_expired request w.target) w) (initiator_expires request w))) → AllOpen now (timed_out line serial request.node (cond b (packets.at_target (target_expired request w.target) w) (initiator_expires request w)))) (sym is_zero)
          (λ b i inside c.
          let first = calm_first event (timed_out line serial request.node (packets.at_target (target_expired request w.target) w)) i c in
          lapse_keeps units logins has start w f.holds f.held i (f.here i inside (calm_asked line event H i first)) (open_asked event i inside (calm_asked line event H i first)) line serial request e (b.tells i inside c) (b.behind i inside c))
      lapses_at request (suc j) e =
          let other : nat_eq request.node 0 ≡ false = grind arith in
          subst (λ b. Behind now (timed_out line serial request.node (cond b (packets.at_target (target_expired request w.target) w) (initiator_expires request w))) → AllOpen now (timed_out line serial request.node (cond b (packets.at_target (target_expired request w.target) w) (initiator_expires request w)))) (sym other)
          (λ b i inside c.
          let first = calm_first event (timed_out line serial request.node (initiator_expires request w)) i c in
          lapses_keep i w f.holds.sound.stands (f.here i inside (calm_asked line event H i first)) (open_asked event i inside (calm_asked line event H i first)) line serial j request e (b.behind i inside c))

      late_by : (so : Option Request) → Behind now (timeout_of so line serial w) → AllOpen now (timeout_of so line serial w)
      late_by None b = others_line event (refused line no_packet w) (refused_does s.world line no_packet) b
      late_by (Some request) b = lapses_at request request.node refl b

      pub late : Behind now (timeout_line line serial w) → AllOpen now (timeout_line line serial w)
      unfolding timeout_line
      late b = late_by (find w.requests serial) b

    sights : (event : Event) (node : ℕ) → Facts (asked line event ∷ H) w → Behind (asked line event ∷ H) (see_line node w) → AllOpen (asked line event ∷ H) (see_line node w)
    sights event zero f b i inside c =
        let first = calm_asked line event H i (calm_first event (see_line 0 w) i c) in
        sight_keeps units logins has start w f.holds f.held i (f.here i inside first) (open_asked event i inside first) b.opened (b.tells i inside c) (b.behind i inside c)
    sights event (suc j) f b i inside c =
        let first = calm_asked line event H i (calm_first event (see_line (suc j) w) i c) in
        own_sight_keeps i w f.holds.sound.stands (f.here i inside first) (open_asked event i inside first) j (b.behind i inside c)

    pub line_open : (event : Event) (told : List (Option Told)) → IsLine event (length s.world.initiators) → MayHappen event told s → (is_reset event ≡ false → Facts (asked line event ∷ H) w) → More event (asked line event ∷ H) told (begun s) → Behind (asked line event ∷ H) (happens line event told s).world → AllOpen (asked line event ∷ H) (happens line event told s).world
    unfolding happens MayHappen
    line_open (events.Begin initiators is_ready) told q m f more b = absurd q
    line_open (events.Act j action) told q m f more b = others_line (events.Act j action) (acted line j action w) (acts_does s.world line j action) b
    line_open (events.Reset physical) told q m f more b = others_line (events.Reset physical) _ (resets_does s.world physical) b
    line_open (events.See node) told q m f more b = sights (events.See node) node (f refl) b
    line_open (events.Deliver serial) told q m f more b = one_heard (events.Deliver serial) serial false (is_in_flight serial (begun s).world) told (f refl) m b
    line_open (events.Repeat serial) told q m f more b = one_heard (events.Repeat serial) serial true (may_repeat serial (begun s).world) told (f refl) m b
    line_open (events.Lose serial) told q m f more b = others_line (events.Lose serial) (lose_line line serial w) (loses_does s.world line serial) b
    line_open (events.Timeout serial) told q m f more b = late (events.Timeout serial) (f refl) serial b
    line_open (events.Step count) told q m f more b = all_heard (asked line (events.Step count) ∷ H) told (begun s) more m.may (open_asked (events.Step count))
    line_open events.Settle told q m f more b = λ i inside c.
        let t = after_all told (begun s) in
        let ms = hist (asked line events.Settle ∷ H) t.world in
        let before = calm_before (said (end_note (is_settled t.world)) ∷ []) ms i c in
        let o = all_heard (asked line events.Settle ∷ H) told (begun s) more m.may (open_asked events.Settle) i inside before in
        subst (λ (x : View). AreOpenFor x (with_note (end_note (is_settled t.world)) t.world) i) (sym (end_view (is_settled t.world) ms i))
        (alike_open (view ms i) t.world (with_note (end_note (is_settled t.world)) t.world) i (alike_up t.world (with_note (end_note (is_settled t.world)) t.world) refl refl i) o)
    line_open events.Tick told q m f more b = λ i inside c.
        let first = calm_asked line events.Tick H i (calm_first events.Tick (tick_line w) i c) in
        tick_keeps units logins has start w (f refl).holds (f refl).held i ((f refl).here i inside first) (open_asked events.Tick i inside first) (b.tells i inside c) (b.behind i inside c)
    line_open (events.Inject initiator bytes) told q m f more b = others_line (events.Inject initiator bytes) (inject_line line initiator bytes w) (injects_does s.world line initiator bytes) b
    line_open (events.Key unit key) told q m f more b = λ i inside c.
        let first = calm_asked line (events.Key unit key) H i (calm_first (events.Key unit key) (keyed line unit key w) i c) in
        key_keeps units logins has start w (f refl).holds (f refl).held i ((f refl).here i inside first) (open_asked (events.Key unit key) i inside first) line unit key
