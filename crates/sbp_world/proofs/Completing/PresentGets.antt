-- In a turn in which a packet for the target is taken as new that was not before, the target is called with that packet.
use Rattle.sbp_world.proofs.Words.Std.{arith, ◌≡◌, ◌∙◌, refl, sym, ap, subst, inl, inr, ◌⊎◌, ◌<◌, ◌≤◌, ℕ, zero, suc, nat_eq, nat_lt, nat_tests, Bool, true, false, cond, List, [], ◌∷◌, ◌++◌, map, length, Option, Some, None, slice_index_or, slice_set}
use Rattle.sbp_world.proofs.Words.Wire.{Event, Judged, Moment, Note, OutboxState, Sent, asked, empty_outbox, end_note, found_sent, judged_note, no_packet, said, terms}
use Rattle.sbp_world.proofs.Words.Target.{Held, Told, Whole, received}
use Rattle.sbp_world.proofs.Words.Initiator.{new_state, receive_step}
use Rattle.sbp_world.proofs.Words.Laws.{lists}
use Rattle.sbp_world.proofs.Words.World.{AreOthers, Arrival, MayAt, MayHappen, MayIf, MayNext, MayReceive, MayTold, Scene, WorldState, arrived, at_target, begun, delivered, delivered_at, delivered_by, delivered_if, delivered_next, handed_out, happens, initiator_received, initiators_received, is_in_flight, lowest, marked, may_repeat, received_by, received_step, target_received, whole_of, with_initiators, with_note, with_target, without_notes}
use Rattle.sbp_journal.specs.declared.cause.Judged.TheVariants as judgements
use Rattle.sbp_journal.specs.declared.event.Event.TheVariants as events
use Rattle.sbp_journal.specs.declared.note.Note.TheVariants as notes
use Rattle.sbp_world.specs.Settling as settling
use Rattle.sbp_world.proofs.InitiatorForms as own
use Rattle.sbp_world.proofs.Agents.Management.Still.{hist}
use Rattle.sbp_world.proofs.Hosts.Hands.{hand_law}
use Rattle.sbp_world.proofs.Lists.Extends.{marked_fresh}
use Rattle.sbp_world.proofs.Lists.Judging.{all_quiet}
use Rattle.sbp_world.proofs.Lists.OpenNews.{opened_same}
use Rattle.sbp_world.proofs.Lists.OrbsFresh.{gets_away, that_away}
use Rattle.sbp_world.proofs.Lists.PlaceOwners.{IsSeatedWell}
use Rattle.sbp_world.proofs.Lists.Quiet.{IsQuiet, Quietly, acts, handed_quiet, injects, keys, late, loses, others_quiet, own_quiet, resets, sights, ticks}
use Rattle.sbp_world.proofs.Lists.Turned.{IsOne}
use Rattle.sbp_world.proofs.Lists.TurnCalls.{IsCalled}
use Rattle.sbp_world.proofs.Lists.TurnWalk.{begun_seated, delivery_is_called}
use Rattle.sbp_world.proofs.Lists.Walks.{Turn, by_delivery, by_end, by_line, by_start}
use Rattle.sbp_world.proofs.Wire.Comes.{own_inside, own_outside, received_is, to_own, to_zero}
use Rattle.sbp_world.proofs.Wire.Nodes.{handed_alike}
use Rattle.sbp_world.proofs.Common.{said_split}

-- the target is called with a packet, as which it judges it first
pub record IsGot (past : List Moment) (w v : WorldState) (r : ℕ) : Type 0 where
  pub sent : Sent
  pub found : found_sent r w.store.kept ≡ Some sent
  pub to_is : sent.to ≡ 0
  pub run : Option Told
  pub media : Held
  pub called : IsCalled past w v
  pub target : v.target ≡ (received run sent.generation sent.bytes (whole_of w.target media)).1.node
  pub news : (terms (hist past v)).news r ≡ (terms (said (judged_note r (received run sent.generation sent.bytes (whole_of w.target media)).0) ∷ hist past w)).news r
  -- its judgement stands in the history
  pub more : List Moment
  pub judged : more ++ said (judged_note r (received run sent.generation sent.bytes (whole_of w.target media)).0) ∷ hist past w ≡ hist past v
  -- and what the target hands out stands behind that
  pub u : WorldState
  pub fresh : hist past u ≡ said (judged_note r (received run sent.generation sent.bytes (whole_of w.target media)).0) ∷ hist past w
  pub is : v ≡ handed_out 0 0 (received run sent.generation sent.bytes (whole_of w.target media)).1.outbox u

-- ---- notes that judge no packet, or another one
module _ (r : ℕ) where
  quiet_same : (past : List Moment) (old new : List Note) → Quietly old new → (terms (map said new ++ past)).news r ≡ (terms (map said old ++ past)).news r
  quiet_same past old new q = ap (λ ns. (terms (map said ns ++ past)).news r) (sym q.is) ∙ (ap (λ ms. (terms ms).news r) (said_split q.more old past) ∙ all_quiet r q.more (map said old ++ past) q.quiet)

  other : {A : Type 0} (serial : ℕ) → nat_eq r serial ≡ false → nat_eq r serial ≡ true → A
  other serial e f = absurd (let no : false ≡ true = sym e ∙ f in cc)

  judged_same : (serial : ℕ) → nat_eq r serial ≡ false → (judged : Judged) (past : List Moment) → (terms (said (judged_note serial judged) ∷ past)).news r ≡ (terms past).news r
  judged_same serial e judgements.Got past = gets_away r ((terms past).sent serial) serial (terms past) (λ f. other serial e f)
  judged_same serial e (judgements.Ignored cause) past = that_away r ((terms past).sent serial) cause serial (terms past) (λ f. other serial e f)

-- ---- a delivery
module _ (past : List Moment) (s : Scene) (f : IsSeatedWell s.world) (serial : ℕ) (again : Bool) (run : Option Told) (r : ℕ) (known : (sent : Sent) → found_sent r s.world.store.kept ≡ Some sent → sent.to ≡ 0) where
  abbrev w : WorldState
  w = s.world

  abbrev end : WorldState
  end = (delivered serial again run s).world

  abbrev Out : WorldState → Type 0
  Out v = ((terms (hist past v)).news r ≡ (terms (hist past w)).news r) ⊎ IsGot past w v r

  -- what stands behind the note of the judgement
  behind_judged : (node : ℕ) (judged : Judged) (outbox : OutboxState) (v : WorldState) → v.fresh ≡ w.fresh → Quietly (with_note (judged_note serial judged) (marked serial again v)).fresh (handed_out node 0 outbox (with_note (judged_note serial judged) (marked serial again v))).fresh → (terms (hist past (handed_out node 0 outbox (with_note (judged_note serial judged) (marked serial again v))))).news r ≡ (terms (said (judged_note serial judged) ∷ hist past w)).news r
  behind_judged node judged outbox v e q =
      let u = with_note (judged_note serial judged) (marked serial again v) in
      quiet_same r past u.fresh (handed_out node 0 outbox u).fresh q
      ∙ ap (λ ns. (terms (said (judged_note serial judged) ∷ (map said ns ++ past))).news r) (marked_fresh serial again v ∙ e)

  -- it stands in the history
  stands_judged : (node : ℕ) (judged : Judged) (outbox : OutboxState) (v : WorldState) → v.fresh ≡ w.fresh → (q : Quietly (with_note (judged_note serial judged) (marked serial again v)).fresh (handed_out node 0 outbox (with_note (judged_note serial judged) (marked serial again v))).fresh) → map said q.more ++ said (judged_note serial judged) ∷ hist past w ≡ hist past (handed_out node 0 outbox (with_note (judged_note serial judged) (marked serial again v)))
  stands_judged node judged outbox v e q =
      let u = with_note (judged_note serial judged) (marked serial again v) in
      ap (λ ns. map said q.more ++ said (judged_note serial judged) ∷ (map said ns ++ past)) (sym (marked_fresh serial again v ∙ e))
      ∙ (sym (said_split q.more u.fresh past) ∙ ap (λ ns. map said ns ++ past) q.is)

  module _ (sent : Sent) (found : found_sent serial w.store.kept ≡ Some sent) where
    -- at the target
    module _ (zero_to : sent.to ≡ 0) (others : AreOthers (received run sent.generation sent.bytes (whole_of w.target s.media)).1.outbox.sides) where
      abbrev x : Judged × Whole
      x = received run sent.generation sent.bytes (whole_of w.target s.media)

      abbrev u : WorldState
      u = with_note (judged_note serial x.0) (marked serial again (with_target x.1.node w))

      abbrev v : WorldState
      v = handed_out 0 0 x.1.outbox u

      c : IsCalled past w v
      c = delivery_is_called (λ i. false) past w f serial sent found zero_to run s again others

      target_is : v.target ≡ x.1.node
      unfolding c delivery_is_called
      target_is = (handed_alike 0 0 x.1.outbox u).target ∙ c.target

      news_is : (terms (hist past v)).news r ≡ (terms (said (judged_note serial x.0) ∷ hist past w)).news r
      news_is = behind_judged 0 x.0 x.1.outbox (with_target x.1.node w) refl (handed_quiet 0 0 x.1.outbox u (others_quiet x.1.outbox.sides others))

      judged_is : map said (handed_quiet 0 0 x.1.outbox u (others_quiet x.1.outbox.sides others)).more ++ said (judged_note serial x.0) ∷ hist past w ≡ hist past v
      judged_is = stands_judged 0 x.0 x.1.outbox (with_target x.1.node w) refl (handed_quiet 0 0 x.1.outbox u (others_quiet x.1.outbox.sides others))

      target_out : Out v
      target_out = by (nat_eq r serial) refl
        where
          by : (b : Bool) → nat_eq r serial ≡ b → Out v
          by true e =
              let same : r ≡ serial = grind (arith, nat_tests, e) in
              inr (record {
                sent = sent;
                found = ap (λ k. found_sent k w.store.kept) same ∙ found;
                to_is = zero_to;
                run = run;
                media = s.media;
                called = c;
                target = target_is;
                news = news_is ∙ ap (λ k. (terms (said (judged_note k x.0) ∷ hist past w)).news r) (sym same);
                more = map said (handed_quiet 0 0 x.1.outbox u (others_quiet x.1.outbox.sides others)).more;
                judged = ap (λ k. map said (handed_quiet 0 0 x.1.outbox u (others_quiet x.1.outbox.sides others)).more ++ said (judged_note k x.0) ∷ hist past w) same ∙ judged_is;
                u = u;
                fresh = ap (λ ns. said (judged_note serial x.0) ∷ (map said ns ++ past)) (marked_fresh serial again (with_target x.1.node w)) ∙ ap (λ k. said (judged_note k x.0) ∷ hist past w) (sym same);
                is = refl;
              })
          by false e = inl (news_is ∙ judged_same r serial e x.0 (hist past w))

    got_target : sent.to ≡ 0 → AreOthers (target_received run sent w.target s.media).1.0.sides → Out end
    unfolding delivered target_received arrived
    got_target zero_to others =
        let x = target_received run sent w.target s.media in
        let last_is : end ≡ handed_out 0 0 x.1.0 (with_note (judged_note serial x.0) (marked serial again (with_target x.1.1.0 w))) =
        ap (λ (y : Option Arrival × (OutboxState × Scene)). (delivered_by serial again y).world)
        (received_is run serial s sent found ∙ ap (λ b. cond b (at_target sent.to (target_received run sent w.target s.media) s) (initiator_received sent s)) (to_zero sent.to zero_to))
        ∙ ap (λ n. handed_out n 0 x.1.0 (with_note (judged_note serial x.0) (marked serial again (with_target x.1.1.0 w)))) zero_to in
        subst Out (sym last_is) (target_out zero_to others)

    -- at an initiator it is another packet
    elsewhere : (i : ℕ) → sent.to ≡ suc i → nat_eq r serial ≡ false
    elsewhere i to_is = by (nat_eq r serial) refl
      where
        by : (b : Bool) → nat_eq r serial ≡ b → b ≡ false
        by false e = refl
        by true e =
            let same : r ≡ serial = grind (arith, nat_tests, e) in
            let zero_to = known sent (ap (λ k. found_sent k w.store.kept) same ∙ found) in
            absurd (omega (arith, zero_to, to_is))

    got_own : (i : ℕ) → sent.to ≡ suc i → i < length w.initiators → Out end
    unfolding delivered initiators_received arrived
    got_own i to_is inside =
        let old = slice_index_or w.initiators i (new_state 0 false) in
        let x = receive_step sent.generation sent.bytes empty_outbox old in
        let v = with_initiators (slice_set w.initiators i x.1.1) w in
        let u = with_note (judged_note serial x.0) (marked serial again v) in
        let last_is : end ≡ handed_out sent.to 0 x.1.0 u =
        ap (λ (y : Option Arrival × (OutboxState × Scene)). (delivered_by serial again y).world) (to_own run serial i s sent found to_is ∙ own_inside sent i s inside) in
        inl (ap (λ (y : WorldState). (terms (hist past y)).news r) last_is
        ∙ (behind_judged sent.to x.0 x.1.0 v refl (handed_quiet sent.to 0 x.1.0 u (own_quiet x.1.0.sides (own.receives sent.generation sent.bytes empty_outbox old tt)))
        ∙ judged_same r serial (elsewhere i to_is) x.0 (hist past w)))

    got_none : (i : ℕ) → sent.to ≡ suc i → length w.initiators ≤ i → Out end
    unfolding delivered
    got_none i to_is outside =
        inl (ap (λ (y : Option Arrival × (OutboxState × Scene)). (terms (hist past (delivered_by serial again y).world)).news r) (to_own run serial i s sent found to_is ∙ own_outside sent i s outside))

    got_at : (to : ℕ) → sent.to ≡ to → (sent.to ≡ 0 → AreOthers (target_received run sent w.target s.media).1.0.sides) → Out end
    got_at zero e others = got_target e (others e)
    got_at (suc i) e others = by (nat_lt i (length w.initiators)) refl
      where
        by : (b : Bool) → nat_lt i (length w.initiators) ≡ b → Out end
        by true g = got_own i e (grind (arith, nat_tests, g))
        by false g = got_none i e (grind (arith, nat_tests, g))

  got_by : (found : Option Sent) → found_sent serial w.store.kept ≡ found → MayAt run found s → Out end
  unfolding delivered received_step
  got_by None e m = inl (ap (λ o. (terms (hist past (delivered_by serial again (received_by run o s)).world)).news r) e)
  got_by (Some sent) e m = got_at sent e sent.to refl (λ z. hand_law.received run sent w.target s.media (subst (λ b. MayTold b run sent s) (to_zero sent.to z) m))

  delivery_out : MayReceive run serial s → Out end
  unfolding MayReceive
  delivery_out m = got_by (found_sent serial w.store.kept) refl m

-- ---- a turn
-- the packet comes to the target in it
pub record GotFrom (past : List Moment) (before : WorldState) (later : List Moment) (v : WorldState) (r : ℕ) : Type 0 where
  pub w : WorldState
  pub target : w.target ≡ before.target
  pub places : w.places ≡ before.places
  pub store : w.store ≡ before.store
  pub lists_are : (i : ℕ) → lists (hist later w) i ≡ lists (hist past before) i
  pub news_are : (terms (hist later w)).news r ≡ (terms (hist past before)).news r
  pub begins : (hist later w ≡ hist past before) ⊎ ((line : ℕ) × ((event : Event) × (hist later w ≡ asked line event ∷ hist past before)))
  pub got : IsGot later w v r

abbrev pub TurnGets : List Moment → WorldState → List Moment → WorldState → ℕ → Type 0
TurnGets past before later v r = ((terms (hist later v)).news r ≡ (terms (hist past before)).news r) ⊎ GotFrom past before later v r

-- a line
module _ (past : List Moment) (s : Scene) (f : IsSeatedWell s.world) (line : ℕ) (event : Event) (r : ℕ) (known : (sent : Sent) → found_sent r s.world.store.kept ≡ Some sent → sent.to ≡ 0) where
  abbrev now : List Moment
  now = asked line event ∷ hist past s.world

  abbrev To : WorldState → Type 0
  To v = TurnGets past s.world now v r

  asked_news : (terms now).news r ≡ (terms (hist past s.world)).news r
  asked_news = ap (λ (g : ℕ → ℕ). g r) (opened_same r event (terms (hist past s.world)))

  quiet_line : (v : WorldState) → Quietly [] v.fresh → To v
  quiet_line v q = inl (quiet_same r now [] v.fresh q ∙ asked_news)

  line_out : (v : WorldState) → ((terms (hist now v)).news r ≡ (terms (hist now (without_notes s.world))).news r) ⊎ IsGot now (without_notes s.world) v r → To v
  line_out v (inl e) = inl (e ∙ asked_news)
  line_out v (inr g) = inr (record { w = without_notes s.world; target = refl; places = refl; store = refl; lists_are = λ i. refl; news_are = asked_news; begins = inr (line, (event, refl)); got = g })

  one_line : (serial : ℕ) (again b : Bool) (told : List (Option Told)) → MayIf b serial told (begun s) → To (delivered_if b line serial again told (begun s)).world
  one_line serial again true [] m = absurd m
  one_line serial again true (run ∷ []) m = line_out (delivered serial again run (begun s)).world (delivery_out now (begun s) (begun_seated s.world f) serial again run r known m)
  one_line serial again true (run ∷ other ∷ more) m = absurd m
  one_line serial again false told m = quiet_line (delivered_if false line serial again told (begun s)).world (record { more = notes.Refused line no_packet ∷ []; is = refl; quiet = (tt, tt) })

line_gets : (past : List Moment) (s : Scene) → IsSeatedWell s.world → (line : ℕ) (event : Event) (told : List (Option Told)) → IsOne event → MayHappen event told s → (r : ℕ) → ((sent : Sent) → found_sent r s.world.store.kept ≡ Some sent → sent.to ≡ 0) → TurnGets past s.world (asked line event ∷ hist past s.world) (happens line event told s).world r
unfolding happens MayHappen
line_gets past s f line (events.Begin initiators is_ready) told o m r known = quiet_line past s f line (events.Begin initiators is_ready) r known _ (record { more = []; is = refl; quiet = tt })
line_gets past s f line (events.Act i action) told o m r known = quiet_line past s f line (events.Act i action) r known _ (acts (without_notes s.world) line i action)
line_gets past s f line (events.Reset physical) told o m r known = quiet_line past s f line (events.Reset physical) r known _ (resets (without_notes s.world) physical)
line_gets past s f line (events.See node) told o m r known = quiet_line past s f line (events.See node) r known _ (sights (without_notes s.world) node)
line_gets past s f line (events.Deliver serial) told o m r known = one_line past s f line (events.Deliver serial) r known serial false (is_in_flight serial (begun s).world) told m
line_gets past s f line (events.Repeat serial) told o m r known = one_line past s f line (events.Repeat serial) r known serial true (may_repeat serial (begun s).world) told m
line_gets past s f line (events.Lose serial) told o m r known = quiet_line past s f line (events.Lose serial) r known _ (loses (without_notes s.world) line serial)
line_gets past s f line (events.Timeout serial) told o m r known = quiet_line past s f line (events.Timeout serial) r known _ (late (without_notes s.world) line serial)
line_gets past s f line (events.Step count) told o m r known = absurd o
line_gets past s f line events.Settle told o m r known = absurd o
line_gets past s f line events.Tick told o m r known = quiet_line past s f line events.Tick r known _ (ticks (without_notes s.world))
line_gets past s f line (events.Inject i bytes) told o m r known = quiet_line past s f line (events.Inject i bytes) r known _ (injects (without_notes s.world) line i bytes)
line_gets past s f line (events.Key unit key) told o m r known = quiet_line past s f line (events.Key unit key) r known _ (keys (without_notes s.world) line unit key)

-- a delivery of a line that delivers one packet after the other
module _ (past : List Moment) (s : Scene) (f : IsSeatedWell s.world) (r : ℕ) (known : (sent : Sent) → found_sent r s.world.store.kept ≡ Some sent → sent.to ≡ 0) where
  next_out : (v : WorldState) → ((terms (hist past v)).news r ≡ (terms (hist past s.world)).news r) ⊎ IsGot past s.world v r → TurnGets past s.world past v r
  next_out v (inl e) = inl e
  next_out v (inr g) = inr (record { w = s.world; target = refl; places = refl; store = refl; lists_are = λ i. refl; news_are = refl; begins = inl refl; got = g })

  next_by : (one : Option Told) (o : Option ℕ) → settling.MayAt o one s → TurnGets past s.world past (delivered_at o one s).world r
  next_by one None m = absurd m
  next_by one (Some serial) m = next_out (delivered serial false one s).world (delivery_out past s f serial false one r known m)

  next_gets : (one : Option Told) → MayNext one s → TurnGets past s.world past (delivered_next one s).world r
  unfolding delivered_next MayNext
  next_gets one m = next_by one (lowest s.world) m

pub turn_gets : (past : List Moment) (s : Scene) (later : List Moment) (t : Scene) → Turn past s later t → IsSeatedWell s.world → (r : ℕ) → ((sent : Sent) → found_sent r s.world.store.kept ≡ Some sent → sent.to ≡ 0) → TurnGets past s.world later t.world r
turn_gets _ _ _ _ (by_line past s line event told o q m) f r known = line_gets past s f line event told o m r known
turn_gets _ _ _ _ (by_start past s line event d) f r known = inl (ap (λ (g : ℕ → ℕ). g r) (opened_same r event (terms (hist past s.world))))
turn_gets _ _ _ _ (by_delivery past s one m) f r known = next_gets past s f r known one m
turn_gets _ _ _ _ (by_end past s done) f r known = inl (quiet_same r past s.world.fresh (end_note done ∷ s.world.fresh) (record { more = end_note done ∷ []; is = refl; quiet = (end_quiet done, tt) }))
  where
    end_quiet : (done : Bool) → IsQuiet (end_note done)
    end_quiet true = tt
    end_quiet false = tt
