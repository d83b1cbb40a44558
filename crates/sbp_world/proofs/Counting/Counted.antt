-- Turn by turn what is left of a run falls with each delivery: so deliveries are bounded, from each line on before which the run is lossless.
use Rattle.sbp_world.proofs.Words.Std.{arith, ◌≡◌, ◌∙◌, refl, sym, ap, subst, ℕ, zero, suc, ◌+◌, ◌<◌, ◌≤◌, nat_lt, nat_tests, Bool, true, false, List, [], ◌∷◌, length, Option, Some, None}
use Rattle.sbp_world.proofs.Words.Wire.{Event, Moment, Note, Sent, Stored, asked, found_sent, is_flying, no_packet, said, terms}
use Rattle.sbp_world.proofs.Words.Target.{Disk, Told}
use Rattle.sbp_world.proofs.Words.Laws.{ends, is_cut}
use Rattle.sbp_world.proofs.Words.World.{Arrival, MayAt, MayHappen, MayIf, MayNext, MayReceive, MayTell, MayTold, Scene, WorldState, begun, delivered, delivered_at, delivered_by, delivered_if, delivered_next, happens, initiator_at, is_in_flight, lowest, received_by, received_step, refused, settled_from, with_note}
use Rattle.sbp_journal.specs.Outgoings.{OutboxState}
use Rattle.sbp_journal.specs.declared.event.Event.TheVariants as events
use Rattle.sbp_journal.specs.declared.note.Note.TheVariants as notes
use Rattle.sbp_laws.specs.Completion.{arrivals}
use Rattle.sbp_target.specs.RequestsLeft.{DeliveriesAreCounted}
use Rattle.sbp_target.specs.SoundAgents.{AgentsAreSound, CallsKeepSound}
use Rattle.sbp_world.specs.Settling as settling
use Rattle.sbp_world.specs.Counting.Brings.{AreFew}
use Rattle.sbp_world.specs.Counting.Left.{left, quadlets_left}
use Rattle.sbp_world.specs.Counting.Wire.{is_unjudged, wire}
use Rattle.sbp_world.specs.Lists.OwnLogins.{IsTame}
use Rattle.sbp_world.proofs.Agents.Management.Lines.{opens}
use Rattle.sbp_world.proofs.Agents.Management.Still.{hist}
use Rattle.sbp_world.proofs.Agents.Peers.{AreNoLoops}
use Rattle.sbp_world.proofs.Counting.Asides.{nodes_aside, wire_less}
use Rattle.sbp_world.proofs.Counting.Bounded.{DeliversIn, Falls, IsBound, turn_bound}
use Rattle.sbp_world.proofs.Counting.Delivers.{IsBehind, IsReady, own_falls, target_falls}
use Rattle.sbp_world.proofs.Counting.Grown.{IsNoAppend, one_moment}
use Rattle.sbp_world.proofs.Counting.Others.{IsAside, line_aside}
use Rattle.sbp_world.proofs.Counting.Places.{IsPlace}
use Rattle.sbp_world.proofs.Counting.StartLeft.{AtStart, left_at_start}
use Rattle.sbp_world.proofs.Counting.TargetKeeps.{turn_keeps}
use Rattle.sbp_world.proofs.Counting.Worked.{AreWorking, are_working}
use Rattle.sbp_world.proofs.Lists.Calm.{calm_before}
use Rattle.sbp_world.proofs.Lists.OpenNews.{all_grow}
use Rattle.sbp_world.proofs.Lists.PlaceOwners.{Owns, walk_owns}
use Rattle.sbp_world.proofs.Lists.TameWalks.{turn_still}
use Rattle.sbp_world.proofs.Lists.TurnWalk.{begun_seated, seated_of}
use Rattle.sbp_world.proofs.Lists.Walks.{Step, Turn, Walks, by_delivery, by_end, by_line, by_start}
use Rattle.sbp_world.proofs.Wire.Comes.{own_outside, to_own, to_zero}
use Rattle.sbp_world.proofs.Wire.Sound.{first_flies}

-- ---- what is known of each place
pub record IsKnown (past : List Moment) (w : WorldState) : Type 0 where
  pub place : IsPlace past w
  pub few : AreFew past w
  pub quads : (i : ℕ) → i < length w.initiators → length (initiator_at w i).quads ≤ 256
  pub leaves : AreNoLoops w.store.kept

pub record Knows (past : List Moment) (w : WorldState) : Type 0 where
  pub known : IsTame past → IsKnown past w
  pub start : IsTame past → 0 < length w.initiators → AtStart past w

-- ---- what is carried from place to place
-- The target's agents are sound, and where nobody injected packets deliveries are bounded by what is left.
pub record IsCounted (past : List Moment) (w : WorldState) : Type 0 where
  pub agents : AgentsAreSound w.target
  pub bounds : IsTame past → 0 < length w.initiators → IsBound left past w

-- ---- falls one after the other
falls_then : (one two three : List Moment) (a b c : ℕ) → Falls one a two b → Falls two b three c → Falls one a three c
falls_then one two three a b c f g = let x = f.all in let y = g.all in record { all = omega (arith, x, y) }

falls_same : (past : List Moment) (w v : WorldState) → v ≡ w → Falls (hist past w) (left (hist past w) w) (hist past v) (left (hist past v) v)
falls_same past w v e = subst (λ (y : WorldState). Falls (hist past w) (left (hist past w) w) (hist past y) (left (hist past y) y)) (sym e) (record { all = omega arith })

-- what leaves the nodes and the packets
aside_falls : (before now : List Moment) (w v : WorldState) → IsAside before now w v → v.target ≡ w.target → v.initiators ≡ w.initiators → v.store ≡ w.store → (terms now).generation 0 ≡ (terms before).generation 0 → arrivals now ≡ arrivals before → Falls before (left before w) now (left now v)
aside_falls before now w v a target initiators store generation same =
    let nodes = nodes_aside before now w v a target in
    let quads = ap quadlets_left initiators in
    let kept = ap (λ (s : Stored). wire_of s) store in
    let less = wire_less (terms before) (terms now) v (λ r. subst (λ ms. (terms before).news r ≤ (terms ms).news r) a.goes.is (all_grow r a.goes.later before)) generation in
    record { all = omega (arith, nodes, quads, kept, less, same) }
  where
    wire_of : Stored → ℕ
    wire_of s = wire (is_unjudged (terms before)) (record w { store = s })

-- ---- a delivery
-- a packet that no node gets leaves the world
module _ (past : List Moment) (s : Scene) (serial : ℕ) (run : Option Told) where
  none_there : found_sent serial s.world.store.kept ≡ None → (delivered serial false run s).world ≡ s.world
  unfolding delivered received_step
  none_there e = ap (λ o. (delivered_by serial false (received_by run o s)).world) e

  none_hears : (sent : Sent) → found_sent serial s.world.store.kept ≡ Some sent → (i : ℕ) → sent.to ≡ suc i → length s.world.initiators ≤ i → (delivered serial false run s).world ≡ s.world
  unfolding delivered
  none_hears sent found i to_is outside = ap (λ (y : Option Arrival × (OutboxState × Scene)). (delivered_by serial false y).world) (to_own run serial i s sent found to_is ∙ own_outside sent i s outside)

  module _ (counted : DeliveriesAreCounted) (units ready : ℕ) (start : List Disk) (h : IsReady units ready start past s.world) (air : is_flying serial s.world.store.kept ≡ true) (behind : IsBehind units ready start past (delivered serial false run s).world) (owns : Owns s.world (delivered serial false run s).world) where
    abbrev Fallen : Type 0
    Fallen = Falls (hist past s.world) (left (hist past s.world) s.world) (hist past (delivered serial false run s).world) (left (hist past (delivered serial false run s).world) (delivered serial false run s).world)

    sent_falls : (sent : Sent) → found_sent serial s.world.store.kept ≡ Some sent → (to : ℕ) → sent.to ≡ to → (sent.to ≡ 0 → MayTell run sent s.world.target s.media) → MayReceive run serial s → Fallen
    sent_falls sent found zero e may m = target_falls counted units ready start past s serial run h sent found air e (may e) behind owns m
    sent_falls sent found (suc i) e may m = by (nat_lt i (length s.world.initiators)) refl
      where
        by : (b : Bool) → nat_lt i (length s.world.initiators) ≡ b → Fallen
        by true f = own_falls counted units ready start past s serial run h sent found air i e (grind (arith, nat_tests)) behind m
        by false f = falls_same past s.world (delivered serial false run s).world (none_hears sent found i e (grind (arith, nat_tests)))

    found_falls : (so : Option Sent) → found_sent serial s.world.store.kept ≡ so → MayAt run so s → MayReceive run serial s → Fallen
    found_falls None e m receives = falls_same past s.world (delivered serial false run s).world (none_there e)
    found_falls (Some sent) e m receives = sent_falls sent e sent.to refl (λ z. subst (λ b. MayTold b run sent s) (to_zero sent.to z) m) receives

    pub delivery_falls : MayReceive run serial s → Fallen
    unfolding MayReceive
    delivery_falls m = found_falls (found_sent serial s.world.store.kept) refl m m

-- ---- a turn
module _ (counted : DeliveriesAreCounted) (sound : CallsKeepSound) (wild : ℕ → Bool) (units ready : ℕ) (has : 0 < units) (start : List Disk) where
  abbrev Nothing : List Moment → WorldState → Type 0
  Nothing past w = Unit {0}

  abbrev At : (past : List Moment) (s : Scene) (later : List Moment) (t : Scene) → Type 0
  At past s later t = Step wild units ready start Knows Nothing past s later t

  module _ (past : List Moment) (s : Scene) (later : List Moment) (t : Scene) (step : At past s later t) (tame : IsTame (hist past s.world)) (tame_now : IsTame (hist later t.world)) (agents : AgentsAreSound s.world.target) where
    known : IsKnown (hist past s.world) s.world
    known = step.known.known tame

    working : AreWorking (hist past s.world) s.world
    working = are_working (hist past s.world) s.world known.place.lists known.place.along known.place.within

    ready_here : IsReady units ready start past s.world
    ready_here = record {
      lines = step.lines;
      holds = step.stands.reached.holds;
      seated = seated_of wild units ready has start past step.lines s.world step.stands;
      leaves = known.leaves;
      none = step.stands.reached.site.none;
      tame = tame;
      before = record {
        working = working;
        listed = λ place b e calm. let o = known.place.lists.listed place b e calm in record { n = o.n; list = o.list; latest = o.still.latest };
        few = known.few;
      };
      quads = known.quads;
      agents = λ place b. agents place;
    }

    behind_there : IsBehind units ready start later t.world
    behind_there = record { lines = step.more; holds = step.reaches.holds; tame = tame_now; place = (step.known_then.known tame_now).place }

    owns : Owns s.world t.world
    owns = walk_owns units ready has start s step.stands.reached.holds step.stands.reached.site.held later t step.turn

  -- ---- a line that begins, and the end of one that settles
  start_falls : (past : List Moment) (s : Scene) (line : ℕ) (event : Event) → (terms (asked line event ∷ hist past s.world)).generation 0 ≡ (terms (hist past s.world)).generation 0 → Falls (hist past s.world) (left (hist past s.world) s.world) (asked line event ∷ hist past s.world) (left (asked line event ∷ hist past s.world) (begun s).world)
  start_falls past s line event same = aside_falls (hist past s.world) (asked line event ∷ hist past s.world) s.world (begun s).world (line_aside (hist past s.world) line event s.world (begun s).world refl refl) refl refl refl same refl

  note_falls : (past : List Moment) (w : WorldState) (note : Note) → IsNoAppend (said note) → ((i n : ℕ) → ends (said note ∷ hist past w) i n ≡ ends (hist past w) i n) → ((i n : ℕ) → is_cut (said note ∷ hist past w) i n ≡ is_cut (hist past w) i n) → (terms (said note ∷ hist past w)).generation 0 ≡ (terms (hist past w)).generation 0 → arrivals (said note ∷ hist past w) ≡ arrivals (hist past w) → Falls (hist past w) (left (hist past w) w) (said note ∷ hist past w) (left (said note ∷ hist past w) (with_note note w))
  note_falls past w note plain ends_same cuts_same same none =
      aside_falls (hist past w) (said note ∷ hist past w) w (with_note note w)
      (record { goes = one_moment (said note) (hist past w) plain; ends_are = ends_same; cuts_are = cuts_same; machines = λ p. refl; places = refl }) refl refl refl same none

  end_falls : (past : List Moment) (s : Scene) (done : Bool) → Falls (hist past s.world) (left (hist past s.world) s.world) (hist past (settled_from done s).world) (left (hist past (settled_from done s).world) (settled_from done s).world)
  end_falls past s true = note_falls past s.world notes.Settled tt (λ i n. refl) (λ i n. refl) refl refl
  end_falls past s false = note_falls past s.world notes.Stopped tt (λ i n. refl) (λ i n. refl) refl refl

  -- ---- the next packet of a line
  next_falls : (past : List Moment) (s : Scene) (one : Option Told) (so : Option ℕ) → lowest s.world ≡ so → settling.MayAt so one s → IsReady units ready start past s.world → IsBehind units ready start past (delivered_at so one s).world → Owns s.world (delivered_at so one s).world → Falls (hist past s.world) (left (hist past s.world) s.world) (hist past (delivered_at so one s).world) (left (hist past (delivered_at so one s).world) (delivered_at so one s).world)
  next_falls past s one None e m h b o = absurd m
  next_falls past s one (Some serial) e m h b o = delivery_falls past s serial one counted units ready start h (first_flies _ serial e) b o m

  lowest_falls : (past : List Moment) (s : Scene) (one : Option Told) → MayNext one s → IsReady units ready start past s.world → IsBehind units ready start past (delivered_next one s).world → Owns s.world (delivered_next one s).world → Falls (hist past s.world) (left (hist past s.world) s.world) (hist past (delivered_next one s).world) (left (hist past (delivered_next one s).world) (delivered_next one s).world)
  unfolding delivered_next MayNext
  lowest_falls past s one m h b o = next_falls past s one (lowest s.world) refl m h b o

  -- ---- a line that delivers one packet, or refuses to
  module _ (past : List Moment) (s : Scene) (line serial : ℕ) where
    abbrev event : Event
    event = events.Deliver serial

    abbrev later : List Moment
    later = asked line event ∷ hist past s.world

    begun_ready : IsReady units ready start past s.world → IsReady units ready start later (begun s).world
    begun_ready h = record {
      lines = h.lines + 1;
      holds = opens units ready has start line event s.world refl h.holds;
      seated = begun_seated s.world h.seated;
      leaves = h.leaves;
      none = h.none;
      tame = h.tame;
      before = record {
        working = λ place b e calm. let k = h.before.working place b e calm in record { n = k.n; list = k.list; latest = k.latest; uncut = k.uncut; next = k.next };
        listed = λ place b e calm. let o = h.before.listed place b e calm in record { n = o.n; list = o.list; latest = o.latest };
        few = λ sent packet place m calm. h.before.few sent packet place (record { comes = record { serial = m.comes.serial; found = m.comes.found; to = m.comes.to }; label = m.label; found = m.found; main = m.main; small = m.small }) calm;
      };
      quads = h.quads;
      agents = h.agents;
    }

    abbrev FallsTo : WorldState → Type 0
    FallsTo v = Falls (hist past s.world) (left (hist past s.world) s.world) (hist later v) (left (hist later v) v)

    refused_falls : FallsTo (refused line no_packet (begun s).world)
    refused_falls = falls_then _ later _ _ (left later (begun s).world) _ (start_falls past s line event refl) (note_falls later (begun s).world (notes.Refused line no_packet) tt (λ i n. refl) (λ i n. refl) refl refl)

    one_falls : (b : Bool) → is_flying serial (begun s).world.store.kept ≡ b → (told : List (Option Told)) → MayIf b serial told (begun s) → IsReady units ready start past s.world → IsBehind units ready start later (delivered_if b line serial false told (begun s)).world → Owns s.world (delivered_if b line serial false told (begun s)).world → FallsTo (delivered_if b line serial false told (begun s)).world
    one_falls true air [] m h b o = absurd m
    one_falls true air (one ∷ []) m h b o =
        falls_then _ later _ _ (left later (begun s).world) _ (start_falls past s line event refl)
        (delivery_falls later (begun s) serial one counted units ready start (begun_ready h) air b o m)
    one_falls true air (one ∷ other ∷ more) m h b o = absurd m
    one_falls false air told m h b o = refused_falls

    line_falls : (told : List (Option Told)) → MayHappen event told s → IsReady units ready start past s.world → IsBehind units ready start later (happens line event told s).world → Owns s.world (happens line event told s).world → FallsTo (happens line event told s).world
    unfolding happens MayHappen
    line_falls told m h b o = one_falls (is_in_flight serial (begun s).world) refl told m h b o

  -- ---- each turn
  -- what is left by a turn that delivers
  falls_at : (past : List Moment) (s : Scene) (later : List Moment) (t : Scene) (turn : Turn past s later t) → DeliversIn turn → IsReady units ready start past s.world → IsBehind units ready start later t.world → Owns s.world t.world → Falls (hist past s.world) (left (hist past s.world) s.world) (hist later t.world) (left (hist later t.world) t.world)
  falls_at _ _ _ _ (by_line past s line (events.Deliver serial) told one fit may) d h b o = line_falls past s line serial told may h b o
  falls_at _ _ _ _ (by_line past s line (events.Step count) told one fit may) d h b o = absurd one
  falls_at _ _ _ _ (by_line past s line events.Settle told one fit may) d h b o = absurd one
  falls_at _ _ _ _ (by_line past s line (events.Begin initiators is_ready) told one fit may) d h b o = absurd d
  falls_at _ _ _ _ (by_line past s line (events.Act i action) told one fit may) d h b o = absurd d
  falls_at _ _ _ _ (by_line past s line (events.Reset physical) told one fit may) d h b o = absurd d
  falls_at _ _ _ _ (by_line past s line (events.See node) told one fit may) d h b o = absurd d
  falls_at _ _ _ _ (by_line past s line (events.Repeat serial) told one fit may) d h b o = absurd d
  falls_at _ _ _ _ (by_line past s line (events.Lose serial) told one fit may) d h b o = absurd d
  falls_at _ _ _ _ (by_line past s line (events.Timeout serial) told one fit may) d h b o = absurd d
  falls_at _ _ _ _ (by_line past s line events.Tick told one fit may) d h b o = absurd d
  falls_at _ _ _ _ (by_line past s line (events.Inject i bytes) told one fit may) d h b o = absurd d
  falls_at _ _ _ _ (by_line past s line (events.Key unit key) told one fit may) d h b o = absurd d
  falls_at _ _ _ _ (by_start past s line (events.Step count) more) d h b o = start_falls past s line (events.Step count) refl
  falls_at _ _ _ _ (by_start past s line events.Settle more) d h b o = start_falls past s line events.Settle refl
  falls_at _ _ _ _ (by_start past s line (events.Begin initiators is_ready) more) d h b o = absurd more
  falls_at _ _ _ _ (by_start past s line (events.Act i action) more) d h b o = absurd more
  falls_at _ _ _ _ (by_start past s line (events.Reset physical) more) d h b o = absurd more
  falls_at _ _ _ _ (by_start past s line (events.See node) more) d h b o = absurd more
  falls_at _ _ _ _ (by_start past s line (events.Deliver serial) more) d h b o = absurd more
  falls_at _ _ _ _ (by_start past s line (events.Repeat serial) more) d h b o = absurd more
  falls_at _ _ _ _ (by_start past s line (events.Lose serial) more) d h b o = absurd more
  falls_at _ _ _ _ (by_start past s line (events.Timeout serial) more) d h b o = absurd more
  falls_at _ _ _ _ (by_start past s line events.Tick more) d h b o = absurd more
  falls_at _ _ _ _ (by_start past s line (events.Inject i bytes) more) d h b o = absurd more
  falls_at _ _ _ _ (by_start past s line (events.Key unit key) more) d h b o = absurd more
  falls_at _ _ _ _ (by_delivery past s one may) d h b o = lowest_falls past s one may h b o
  falls_at _ _ _ _ (by_end past s done) d h b o = end_falls past s done

  pub counted_walks : Walks wild units ready start Knows Nothing IsCounted
  counted_walks past s later t step p = record {
    agents = turn_keeps AgentsAreSound sound.deliveries sound.others (λ unit key node a. a) past s later t step.turn p.agents;
    bounds = λ tame_now some.
        let tame : IsTame (hist past s.world) = turn_still IsTame (λ more ms calm i. calm_before more ms i (calm i)) past s later t step.turn tame_now in
        let count = step.count in
        let some_here : 0 < length s.world.initiators = omega (arith, count, some) in
        turn_bound left past s later t step.turn
        (λ d. falls_at past s later t step.turn d (ready_here past s later t step tame tame_now p.agents) (behind_there past s later t step tame tame_now p.agents) (owns past s later t step tame tame_now p.agents))
        (λ lossless. left_at_start (hist past s.world) s.world (step.known.start tame some_here) lossless)
        (p.bounds tame some_here);
  }
