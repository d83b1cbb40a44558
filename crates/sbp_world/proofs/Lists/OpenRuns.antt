-- In every run the list that is open at an agent is the one that its ORB_POINTER write named.
use Rattle.sbp_world.proofs.Words.Std.{arith, ◌≡◌, ◌∙◌, refl, sym, ap, subst, ℕ, zero, suc, ◌<◌, ◌≤◌, ◌==◌, nat_eq, nat_lt, Bool, true, false, cond, List, [], ◌∷◌, length, Option, Some, None, slice_index_or, slice_set, nat_tests}
use Rattle.sbp_world.proofs.Words.Wire.{is_reset, Sent, found_sent, Request, end_note, judged_note, no_packet, find, Event, OutboxState, empty_outbox, Moment, asked, said, terms, Judged}
use Rattle.sbp_world.proofs.Words.Target.{Disk, Told, NodeState, received}
use Rattle.sbp_world.proofs.Words.Initiator.{new_state, receive_step}
use Rattle.sbp_world.proofs.Words.Laws.{OrderLaw, list_taken, receiver_in, is_serial}
use Rattle.sbp_world.proofs.Words.World.{Arrival, MayAt, MayReceive, MayTell, MayTold, arrived, at_target, delivered, delivered_by, initiator_received, initiators_received, marked, received_by, received_step, target_received, whole_of, with_initiators, handed_out, MayHappen, acted, happens, reset_line, see_line, MayIf, delivered_if, expires, initiator_expires, inject_line, is_in_flight, lose_line, may_repeat, refused, target_expired, timed_out, timeout_line, timeout_of, MayAll, NextMay, MayNext, after_all, delivered_at, delivered_next, is_settled, lowest, IsLine, Scene, WorldState, begun, initiator_at, with_note, with_target, without_notes, AreHeldAt, AreRows, AreAgentsAt, AreOthers}
use Rattle.sbp_journal.specs.declared.event.Event.TheVariants as events
use Rattle.sbp_world.specs.Packets as packets
use Rattle.sbp_world.proofs.Wire.Comes.{own_inside, own_outside, received_is, to_own, to_zero}
use Rattle.sbp_world.proofs.Agents.Management.Holding.{Holding}
use Rattle.sbp_world.proofs.Agents.Management.Still.{hist}
use Rattle.sbp_world.proofs.Lists.Adds.{Stays}
use Rattle.sbp_world.proofs.Lists.Lines.{acts, hears, injects, loses, own_lapses, own_sight, refuses, resets}
use Rattle.sbp_world.proofs.Lists.OpenCuts.{Listing}
use Rattle.sbp_world.proofs.Lists.OpenHad.{same_were}
use Rattle.sbp_world.proofs.Lists.OpenWorlds.{AllTaken, AllWere, delivery_taken, delivery_were, key_taken, key_were, lapse_taken, lapse_were, same_taken, sight_taken, sight_were, tick_taken, tick_were}
use Rattle.sbp_world.proofs.Lists.SendsLast.{Led, acts as acts_led, injects as injects_led, loses as loses_led, own_hears, own_lapses as lapses_led, own_sight as sight_led, refuses as refuses_led, resets as resets_led}
use Rattle.sbp_world.proofs.Lists.TakenTerms.{elsewhere_taken, hands_taken, led_taken}
use Rattle.sbp_journal.specs.declared.cause.Judged.TheVariants as judgements
use Rattle.sbp_world.proofs.Agents.Management.Holding.{was_sent}
use Rattle.sbp_world.proofs.Hosts.Hands.{target_tells}
use Rattle.sbp_world.proofs.Lists.Stays.{stays_end}

-- no initiator is asked about
abbrev pub all : ℕ → Bool
all i = true

stays_were : (past : List Moment) (w v : WorldState) → Stays all past w v → AllWere past w → AllWere past v
stays_were past w v s o = same_were s.adds.later (hist past w) (hist past v) w v s.adds.is s.adds.cuts_are s.places (λ p l. subst (λ (n : NodeState). Listing n p) s.target l) o

-- the lists of the places, and how their pointers were taken
pub record AllSo (start : List Disk) (past : List Moment) (w : WorldState) : Type 0 where
  pub were : AllWere past w
  pub taken : AllTaken start past w

module _ (units logins : ℕ) (has : 0 < units) (start : List Disk) where
  -- where no pointer is taken
  pub by_stays : (past : List Moment) (w v : WorldState) → Stays all past w v → ((p : ℕ) → list_taken start (hist past v) p ≡ list_taken start (hist past w) p) → AllSo start past w → AllSo start past v
  by_stays past w v s same o = record {
    were = stays_were past w v s o.were;
    taken = same_taken start past w v s.places (λ p l. subst (λ (n : NodeState). Listing n p) s.target l) same o.taken;
  }

  by_led : (past : List Moment) (w v : WorldState) → Stays all past w v → Led w.fresh v.fresh → AllSo start past w → AllSo start past v
  by_led past w v s led o = by_stays past w v s (λ p. led_taken start p past led) o

  -- what is known of a world
  pub record Facts (past : List Moment) (w : WorldState) : Type 0 where
    pub lines : ℕ
    pub holds : Holding units logins start past lines w
    pub held : AreHeldAt start (hist past w) w
    pub agents : AreAgentsAt start (hist past w) w
    pub rows : (i : ℕ) → i < length w.initiators → AreRows (hist past w) i (initiator_at w i).lists.slots

  -- ---- a packet is delivered
  module _ (past : List Moment) (s : Scene) (f : Facts past s.world) (o : AllSo start past s.world) (serial : ℕ) (again : Bool) (run : Option Told) where
    module _ (sent : Sent) (found : found_sent serial s.world.store.kept ≡ Some sent) where
      heard_target : sent.to ≡ 0 → MayTell run sent s.world.target s.media → AllSo start past (delivered serial again run s).world
      unfolding delivered target_received arrived
      heard_target zero_to tells =
          let w = s.world in
          let x = received run sent.generation sent.bytes (whole_of w.target s.media) in
          let last_is : (delivered serial again run s).world ≡ handed_out 0 0 x.1.outbox (with_note (judged_note serial x.0) (marked serial again (with_target x.1.node w))) =
          ap (λ (y : Option Arrival × (OutboxState × Scene)). (delivered_by serial again y).world)
          (received_is run serial s sent found ∙ ap (λ b. cond b (at_target sent.to (target_received run sent w.target s.media) s) (initiator_received sent s)) (to_zero sent.to zero_to))
          ∙ ap (λ n. handed_out n 0 x.1.outbox (with_note (judged_note serial x.0) (marked serial again (with_target x.1.node w)))) zero_to in
          let others : AreOthers x.1.outbox.sides = target_tells run sent w.target s.media tells in
          subst (AllSo start past) (sym last_is) (record {
            were = delivery_were units logins has start w f.holds f.held f.rows o.were serial sent found zero_to run s again;
            taken = delivery_taken units logins has start w f.holds f.held f.rows o.were serial sent found zero_to run s again f.agents others o.taken;
          })

      -- an initiator takes no pointer
      judged_taken : (judged : Judged) → is_serial (receiver_in ((terms (hist past s.world)).sent serial)) 0 ≡ false → (p : ℕ) → list_taken start (said (judged_note serial judged) ∷ hist past s.world) p ≡ list_taken start (hist past s.world) p
      judged_taken judgements.Got away p = elsewhere_taken start p (hist past s.world) serial away
      judged_taken (judgements.Ignored cause) away p = refl

      own_taken : (i : ℕ) → sent.to ≡ suc i → i < length s.world.initiators → (p : ℕ) → list_taken start (hist past (delivered serial again run s).world) p ≡ list_taken start (hist past s.world) p
      own_taken i to_is inside p =
          let h = own_hears s serial again run sent found i to_is inside in
          let away : nat_eq sent.to 0 ≡ false = grind (arith, nat_tests) in
          let was = was_sent s.world f.holds.sound.stands serial sent found in
          hands_taken start p past h.hands ∙ judged_taken h.judged (ap (λ so. is_serial (receiver_in so) 0) was ∙ away) p

      heard_own : (i : ℕ) → sent.to ≡ suc i → i < length s.world.initiators → AllSo start past (delivered serial again run s).world
      unfolding delivered initiators_received arrived
      heard_own i to_is inside =
          let w = s.world in
          let x = receive_step sent.generation sent.bytes empty_outbox (slice_index_or w.initiators i (new_state 0 false)) in
          let v = with_note (judged_note serial x.0) (marked serial again (with_initiators (slice_set w.initiators i x.1.1) w)) in
          let last_is : (delivered serial again run s).world ≡ handed_out sent.to 0 x.1.0 v =
          ap (λ (y : Option Arrival × (OutboxState × Scene)). (delivered_by serial again y).world) (to_own run serial i s sent found to_is ∙ own_inside sent i s inside) in
          let is = last_is ∙ ap (λ n. handed_out n 0 x.1.0 v) to_is in
          by_stays past w (delivered serial again run s).world (subst (Stays all past w) (sym is) (hears all past serial i again sent w)) (own_taken i to_is inside) o

      heard_none : (i : ℕ) → sent.to ≡ suc i → length s.world.initiators ≤ i → AllSo start past (delivered serial again run s).world
      unfolding delivered
      heard_none i to_is outside =
          subst (AllSo start past) (sym (ap (λ (y : Option Arrival × (OutboxState × Scene)). (delivered_by serial again y).world) (to_own run serial i s sent found to_is ∙ own_outside sent i s outside))) o

      heard_at : (to : ℕ) → sent.to ≡ to → MayTold (sent.to == 0) run sent s → AllSo start past (delivered serial again run s).world
      heard_at zero e m = heard_target e (subst (λ b. MayTold b run sent s) (let z : nat_eq sent.to 0 ≡ true = grind (arith, nat_tests) in z) m)
      heard_at (suc i) e m = by (nat_lt i (length s.world.initiators)) refl
        where
          by : (b : Bool) → nat_lt i (length s.world.initiators) ≡ b → AllSo start past (delivered serial again run s).world
          by true f = heard_own i e (grind arith)
          by false f = heard_none i e (grind arith)

    heard_by : (so : Option Sent) → found_sent serial s.world.store.kept ≡ so → MayAt run so s → AllSo start past (delivered serial again run s).world
    unfolding delivered received_step
    heard_by None e m = subst (AllSo start past) (sym (ap (λ o. (delivered_by serial again (received_by run o s)).world) e)) o
    heard_by (Some sent) e m = heard_at sent e sent.to refl m

    pub heard : MayReceive run serial s → AllSo start past (delivered serial again run s).world
    unfolding MayReceive
    heard m = heard_by (found_sent serial s.world.store.kept) refl m

  -- ---- one after the other
  abbrev pub AllFacts : List Moment → List (Option Told) → Scene → Type 0
  AllFacts past [] s = Unit {0}
  AllFacts past (one ∷ told) s = Facts past (after_all told s).world × AllFacts past told s

  next_heard : (past : List Moment) (one : Option Told) (t : Scene) → Facts past t.world → AllSo start past t.world → (o : Option ℕ) → NextMay o one t → AllSo start past (delivered_at o one t).world
  next_heard past one t f o None m = absurd m
  next_heard past one t f o (Some serial) m = heard past t f o serial false one m

  pub all_heard : (past : List Moment) (told : List (Option Told)) (s : Scene) → AllFacts past told s → MayAll told s → AllSo start past s.world → AllSo start past (after_all told s).world
  unfolding delivered_next MayNext
  all_heard past [] s f m o = o
  all_heard past (one ∷ told) s f m o = let t = after_all told s in next_heard past one t f.0 (all_heard past told s f.1 m.1 o) (lowest t.world) m.0

  -- ---- a transaction times out
  module _ (past : List Moment) (w : WorldState) (f : Facts past w) (o : AllSo start past w) (line serial : ℕ) where
    lapses_at : (request : Request) (node : ℕ) → request.node ≡ node → AllSo start past (timed_out line serial request.node (expires request w))
    unfolding expires target_expired
    lapses_at request zero e =
        let is_zero : nat_eq request.node 0 ≡ true = grind arith in
        subst (λ b. AllSo start past (timed_out line serial request.node (cond b (packets.at_target (target_expired request w.target) w) (initiator_expires request w)))) (sym is_zero)
        (record { were = lapse_were units logins has start w f.holds f.held f.rows o.were line serial request e; taken = lapse_taken units logins has start w f.holds f.held f.rows o.were line serial request e o.taken })
    lapses_at request (suc i) e =
        let other : nat_eq request.node 0 ≡ false = grind arith in
        subst (λ b. AllSo start past (timed_out line serial request.node (cond b (packets.at_target (target_expired request w.target) w) (initiator_expires request w)))) (sym other)
        (by_led past w (timed_out line serial request.node (initiator_expires request w)) (own_lapses all past line serial request w) (lapses_led w line serial request) o)

    late_by : (so : Option Request) → AllSo start past (timeout_of so line serial w)
    late_by None = by_led past w (refused line no_packet w) (refuses all past line no_packet w) (refuses_led w line no_packet) o
    late_by (Some request) = lapses_at request request.node refl

    pub late : AllSo start past (timeout_line line serial w)
    unfolding timeout_line
    late = late_by (find w.requests serial)

  -- ---- a line
  end_taken : (past : List Moment) (done : Bool) (w : WorldState) (p : ℕ) → list_taken start (hist past (with_note (end_note done) w)) p ≡ list_taken start (hist past w) p
  end_taken past true w p = refl
  end_taken past false w p = refl

  one_heard : (past : List Moment) (line serial : ℕ) (again b : Bool) (told : List (Option Told)) (s : Scene) → Facts past s.world → AllSo start past s.world → MayIf b serial told s → AllSo start past (delivered_if b line serial again told s).world
  one_heard past line serial again true [] s f o m = absurd m
  one_heard past line serial again true (one ∷ []) s f o m = heard past s f o serial again one m
  one_heard past line serial again true (one ∷ other ∷ more) s f o m = absurd m
  one_heard past line serial again false told s f o m = by_led past s.world (refused line no_packet s.world) (refuses all past line no_packet s.world) (refuses_led s.world line no_packet) o

  sights : (past : List Moment) (w : WorldState) (node : ℕ) → Facts past w → AllSo start past w → AllSo start past (see_line node w)
  sights past w zero f o = record { were = sight_were units logins has start w f.holds f.held f.rows o.were; taken = sight_taken units logins has start w f.holds f.held f.rows o.were o.taken }
  sights past w (suc i) f o = by_led past w (see_line (suc i) w) (own_sight all past w i) (sight_led w i) o

  abbrev pub More : Event → List Moment → List (Option Told) → Scene → Type 0
  More (events.Step count) past told s = AllFacts past told s
  More events.Settle past told s = AllFacts past told s
  More event past told s = Unit {0}

  pub line_were : (past : List Moment) (line : ℕ) (event : Event) (told : List (Option Told)) (s : Scene) → IsLine event (length s.world.initiators) → MayHappen event told s → (is_reset event ≡ false → Facts (asked line event ∷ hist past s.world) (without_notes s.world)) → ((i : ℕ) → i < length s.world.initiators → (initiator_at s.world i).number ≡ i) → OrderLaw all (asked line event ∷ hist past s.world) → More event (asked line event ∷ hist past s.world) told (begun s) → AllSo start (asked line event ∷ hist past s.world) (without_notes s.world) → AllSo start (asked line event ∷ hist past s.world) (happens line event told s).world
  unfolding happens MayHappen
  line_were past line (events.Begin initiators is_ready) told s q m f n law more o = absurd q
  line_were past line (events.Act i action) told s q m f n law more o =
      let now = asked line (events.Act i action) ∷ hist past s.world in
      let w = without_notes s.world in
      by_led now w (acted line i action w) (acts all now line i action w (n i q.0) ((f refl).rows i q.0) law) (acts_led w line i action) o
  line_were past line (events.Reset physical) told s q m f n law more o =
      let now = asked line (events.Reset physical) ∷ hist past s.world in
      let w = without_notes s.world in
      by_led now w (reset_line physical w) (resets all now w physical) (resets_led w physical) o
  line_were past line (events.See node) told s q m f n law more o = sights (asked line (events.See node) ∷ hist past s.world) (without_notes s.world) node (f refl) o
  line_were past line (events.Deliver serial) told s q m f n law more o =
      one_heard (asked line (events.Deliver serial) ∷ hist past s.world) line serial false (is_in_flight serial (begun s).world) told (begun s) (f refl) o m
  line_were past line (events.Repeat serial) told s q m f n law more o =
      one_heard (asked line (events.Repeat serial) ∷ hist past s.world) line serial true (may_repeat serial (begun s).world) told (begun s) (f refl) o m
  line_were past line (events.Lose serial) told s q m f n law more o =
      let now = asked line (events.Lose serial) ∷ hist past s.world in
      let w = without_notes s.world in
      by_led now w (lose_line line serial w) (loses all now w line serial) (loses_led w line serial) o
  line_were past line (events.Timeout serial) told s q m f n law more o = late (asked line (events.Timeout serial) ∷ hist past s.world) (without_notes s.world) (f refl) o line serial
  line_were past line (events.Step count) told s q m f n law more o = all_heard (asked line (events.Step count) ∷ hist past s.world) told (begun s) more m.may o
  line_were past line events.Settle told s q m f n law more o =
      let now = asked line events.Settle ∷ hist past s.world in
      let t = after_all told (begun s) in
      by_stays now t.world (with_note (end_note (is_settled t.world)) t.world) (stays_end all now (is_settled t.world) t.world) (λ p. end_taken now (is_settled t.world) t.world p) (all_heard now told (begun s) more m.may o)
  line_were past line events.Tick told s q m f n law more o = record { were = tick_were units logins has start (without_notes s.world) (f refl).holds (f refl).held (f refl).rows o.were; taken = tick_taken units logins has start (without_notes s.world) (f refl).holds (f refl).held (f refl).rows o.were o.taken }
  line_were past line (events.Inject initiator bytes) told s q m f n law more o =
      let now = asked line (events.Inject initiator bytes) ∷ hist past s.world in
      let w = without_notes s.world in
      by_led now w (inject_line line initiator bytes w) (injects all now w line initiator bytes) (injects_led w line initiator bytes) o
  line_were past line (events.Key unit key) told s q m f n law more o = record { were = key_were units logins has start (without_notes s.world) (f refl).holds (f refl).held (f refl).rows o.were line unit key; taken = key_taken units logins has start (without_notes s.world) (f refl).holds (f refl).held (f refl).rows o.were line unit key o.taken }
