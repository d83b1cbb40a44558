-- What the target does keeps it, for which list an agent is out of RESET.
use Rattle.sbp_world.proofs.Words.Std.{arith, ◌≡◌, ◌⊎◌, inl, ◌∙◌, refl, sym, ap, subst, ◌<◌, ℕ, suc, nat_eq, nat_lt, Bool, true, false, cond, List, ◌∷◌, ◌++◌, map, length, Option, Some, None, Result, Ok, Err, nat_tests, get_or-map, false≢true}
use Rattle.sbp_world.proofs.Words.Wire.{Stale, Layer, expiring_step, seeing_step, Sent, found_sent, Request, id_of, judged_note, Node, OutboxState, empty_outbox, Moment, said, Transaction, Terms, terms, times_out, Judged, Note}
use Rattle.sbp_world.proofs.Words.Target.{Login, held_login, is_live, place_at, Disk, Told, alone, sees, ticks, Purpose, NodeState, TargetScene, login_at, scene, cleared_node, expired, expired_in, reset_by, seen, with_key, cut_all}
use Rattle.sbp_world.proofs.Words.Laws.{is_nothing, target_at}
use Rattle.sbp_world.proofs.Words.World.{handed_out, keyed, no_unit, see_line, target_sees, target_ticks, tick_line, told_seen, with_seen, refused, target_left, timed_out, holder, Scene, WorldState, with_note, with_target, AreHeldAt, AreOthers, IsCalm, managed_for, AllOf, AreOpenFor, IsToldDone, IsUp, of_rest, view, AreOpened}
use Rattle.orb_layout.specs.declared.ask.Ask.TheVariants as asks
use Rattle.sbp_journal.specs.declared.cause.CutCause.TheVariants as cuts
use Rattle.sbp_journal.specs.declared.cause.Judged.TheVariants as judgements
use Rattle.sbp_journal.specs.declared.note.Note.TheVariants as notes
use Rattle.sbp_world.specs.Nodes as nodes
use Rattle.sbp_world.specs.Packets as packets
use Rattle.sbp_world.proofs.Wire.Nodes.{handed_alike}
use Rattle.sbp_world.proofs.Wire.Bus.{holds}
use Rattle.sbp_world.proofs.Wire.Starts.{laws_of}
use Rattle.sbp_world.proofs.Agents.Management.Holding.{Holding, past_terms, was_sent}
use Rattle.sbp_world.proofs.Agents.Management.Still.{hist}
use Rattle.sbp_world.proofs.Hosts.Hands.{second_tells, sight_tells}
use Rattle.sbp_world.proofs.Hosts.Knows.{seen_flag}
use Rattle.sbp_world.proofs.Hosts.TargetGives as gives
use Rattle.sbp_world.proofs.Lists.Generations.{is_sight}
use Rattle.sbp_world.proofs.Lists.OpenDeliveries.{lapse_open}
use Rattle.sbp_world.proofs.Lists.OpenManages as manages
use Rattle.sbp_world.proofs.Lists.OpenTurns.{Before, begins, sound}
use Rattle.sbp_world.proofs.Lists.OpenedDelivers.{delivery_up, end, good, kept_up, marks, seats, told, turn}
use Rattle.sbp_world.proofs.Lists.OpenedFirst.{generation_same, is_first}
use Rattle.sbp_world.proofs.Lists.OpenedMoments.{all_same, all_weaker, of_target, target_rest}
use Rattle.sbp_world.proofs.Lists.OpenedNotes.{target_handed}
use Rattle.sbp_world.proofs.Lists.OpenedOffices.{sight_quiet, tick_quiet, timed_quiet}
use Rattle.sbp_world.proofs.Lists.OpenedOthers.{alike_open}
use Rattle.sbp_world.proofs.Lists.OpenedSends.{Tells, written}
use Rattle.sbp_world.proofs.Lists.OpenedTarget.{none_answered, target_turn}
use Rattle.sbp_world.proofs.Lists.OpenedTurns.{IsNews, IsTelling, NoneUp, Opens, WasUp}
use Rattle.sbp_world.proofs.Lists.OpenedWorlds.{Here, Then, alike_up, grown_turn, turn_is, wired}
use Rattle.sbp_world.proofs.Pointers.Ages.{seen_now}
use Rattle.sbp_world.proofs.Hosts.Cores.{not_so as up_state}

-- ---- the first moment of a turn of the target
-- at which no packet comes
record IsStill (t u : Terms) : Type 0 where
  owes : u.owes ≡ t.owes
  served : u.served ≡ t.served
  answers : u.answers ≡ t.answers

late_still : (u : Option Transaction) (t : Terms) → IsStill t (times_out u t)
late_still None t = record { owes = refl; served = refl; answers = refl }
late_still (Some u) t = record { owes = refl; served = refl; answers = refl }

-- what the target answers in a delivery leaves no agent out of RESET
abbrev pub Telling : (units logins : ℕ) → 0 < units → List Disk → Type 0
Telling units logins has start =
    (past : List Moment) (lines : ℕ) (w : WorldState) (h : Holding units logins start past lines w) (held : AreHeldAt start (hist past w) w) (i : ℕ) → IsCalm (hist past w) i → Here (hist past w) w i → AreOpenFor (view (hist past w) i) w i → (serial : ℕ) (sent : Sent) (found : found_sent serial w.store.kept ≡ Some sent) (zero_to : sent.to ≡ 0) (run : Option Told) (s : Scene) (again : Bool) → AreOthers (turn units logins has start w h held serial sent found zero_to run s again).1.outbox.sides → (let D = end units logins has start w h held serial sent found zero_to run s again in Then (hist past D) i → IsTelling (view (hist past w) i) (view (hist past D) i) D i)

module _ (units logins : ℕ) (has : 0 < units) (start : List Disk) {past : List Moment} {lines : ℕ} (w : WorldState) (h : Holding units logins start past lines w) (held : AreHeldAt start (hist past w) w) (i : ℕ) (here : Here (hist past w) w i) (o : AreOpenFor (view (hist past w) i) w i) where
  abbrev H : List Moment
  H = hist past w

  abbrev J : WorldState → Type 0
  J v = Then (hist past v) i → AreOpenFor (view (hist past v) i) v i

  -- a turn with these notes
  module _ (v : WorldState) (note : Note) (first : is_first (said note) ≡ true) (still : is_sight (suc i) (said note) ≡ false) (more : List Note) (all : AllOf of_target more) (is : more ++ note ∷ w.fresh ≡ v.fresh) (rises : (view H i).target < (view (hist past v) i).target → NoneUp v i) (opens : (p : ℕ) → p < 8 → IsUp v i p → WasUp w v i p ⊎ Opens (view H i) (view (hist past v) i) i p (holder v p).list) (news : IsNews (view H i) (view (hist past v) i) v i) where
    noted : J v
    noted behind =
        let same = turn_is more note w.fresh v.fresh past is in
        let now = map said more ++ said note ∷ H in
        let b = subst (λ ms. Then ms i) (sym same) behind in
        subst (λ ms. AreOpenFor (view ms i) v i) same
        (target_turn i H w v (said note) first still more all
        (grown_turn i more (said note) H (wired w h.sound.stands) b.serials b.rises) here.known o
        (subst (λ ms. (view H i).target < (view ms i).target → NoneUp v i) (sym same) rises)
        (subst (λ ms. (p : ℕ) → p < 8 → IsUp v i p → WasUp w v i p ⊎ Opens (view H i) (view ms i) i p (holder v p).list) (sym same) opens)
        (subst (λ ms. IsNews (view H i) (view ms i) v i) (sym same) news))

  target_same : (v : WorldState) (note : Note) → is_first (said note) ≡ true → is_sight 0 (said note) ≡ false → (more : List Note) → AllOf of_target more → more ++ note ∷ w.fresh ≡ v.fresh → (view H i).target < (view (hist past v) i).target → NoneUp v i
  target_same v note first still more all is l =
      let same = turn_is more note w.fresh v.fresh past is in
      let e = generation_same i more (said note) H all first 0 still in
      let f : (terms (hist past v)).generation 0 ≡ (terms H).generation 0 = ap (λ ms. (terms ms).generation 0) (sym same) ∙ e in
      absurd (omega (arith, f, l))

  -- ---- a packet that comes
  module _ (calm : IsCalm H i) (serial : ℕ) (sent : Sent) (found : found_sent serial w.store.kept ≡ Some sent) (zero_to : sent.to ≡ 0) (run : Option Told) (s : Scene) (again : Bool) where
    abbrev D : WorldState
    D = end units logins has start w h held serial sent found zero_to run s again

    abbrev x : Judged
    x = (turn units logins has start w h held serial sent found zero_to run s again).0

    judged_first : (j : Judged) → is_first (said (judged_note serial j)) ≡ true
    judged_first judgements.Got = refl
    judged_first (judgements.Ignored cause) = refl

    judged_still : (node : ℕ) (j : Judged) → is_sight node (said (judged_note serial j)) ≡ false
    judged_still node judgements.Got = refl
    judged_still node (judgements.Ignored cause) = refl

    pub delivery_keeps : AreOthers (turn units logins has start w h held serial sent found zero_to run s again).1.outbox.sides → (Then (hist past D) i → IsTelling (view H i) (view (hist past D) i) D i) → ((r : IsToldDone (view (hist past D) i) i) → (view H i).count < r.serial → NoneUp D i) → J D
    delivery_keeps tells telling cuts behind =
        let u = told units logins has start w h held serial sent found zero_to run s again in
        let b = target_handed 0 (turn units logins has start w h held serial sent found zero_to run s again).1.outbox u tells in
        let is : b.more ++ judged_note serial x ∷ w.fresh ≡ D.fresh = ap (λ ns. b.more ++ ns) (sym (marks units logins has start w h held serial sent found zero_to run s again).fresh) ∙ b.is in
        let same = turn_is b.more (judged_note serial x) w.fresh D.fresh past is in
        noted D (judged_note serial x) (judged_first x) (judged_still (suc i) x) b.more b.all is
        (target_same D (judged_note serial x) (judged_first x) (judged_still 0 x) b.more b.all is)
        (delivery_up units logins has start w h held serial sent found zero_to run s again i calm here.rows
        (λ place address p. here.written serial _ place address (was_sent w h.sound.stands serial sent found) p) b.more same)
        (record { resets = (telling behind).resets; states = (telling behind).states; cuts = cuts })
        behind

  -- ---- a turn in which no packet comes
  module _ (v : WorldState) (note : Note) (still_terms : IsStill (terms H) (terms (said note ∷ H))) (more : List Note) (all : AllOf of_target more) (is : more ++ note ∷ w.fresh ≡ v.fresh) (none : (r : IsToldDone (view (hist past v) i) i) → (view H i).count < r.serial → ⊥) where
    quiet_news : IsNews (view H i) (view (hist past v) i) v i
    quiet_news =
        let same = turn_is more note w.fresh v.fresh past is in
        let k = wired w h.sound.stands in
        let rest = all_weaker of_target of_rest target_rest more all in
        let t = all_same more (said note ∷ H) rest in
        let served : (s : ℕ) → (terms (hist past v)).served s ≡ (terms H).served s = λ s. ap (λ ms. (terms ms).served s) (sym same) ∙ ap (λ (g : ℕ → ℕ). g s) (t.served ∙ still_terms.served) in
        let answers : (s : ℕ) → (terms (hist past v)).answers s ≡ (terms H).answers s = λ s. ap (λ ms. (terms ms).answers s) (sym same) ∙ ap (λ (g : ℕ → Option ℕ). g s) (none_answered more (said note ∷ H) rest (still_terms.owes ∙ k.quiet) ∙ still_terms.answers) in
        record {
          resets = λ r z. absurd (let a = served r.underway.first in let b = r.served in omega (arith, a, b, z));
          states = λ n e r l. absurd (differ r.serial (sym (k.unanswered r.reply l) ∙ (sym (answers r.reply) ∙ r.answers)));
          cuts = λ r l p c up. none r l;
        }
      where
        differ : (s : ℕ) → None ≡ Some s → ⊥
        differ s e = cc

  -- the management has nothing to send then
  no_block : (u : WorldState) (outbox : OutboxState) (others : AreOthers outbox.sides) (note : Note) (first : u.fresh ≡ note ∷ w.fresh) → ((s : ℕ) → managed_for start (said note ∷ H) s ≡ managed_for start H s) → (target_at start (said note ∷ H)).manager_asks ≡ asks.Nothing → Tells start (hist past (handed_out 0 0 outbox u)) i → (r : IsToldDone (view (hist past (handed_out 0 0 outbox u)) i) i) → (view H i).count < r.serial → ⊥
  no_block u outbox others note first old_for quiet k r l =
      false≢true (sym (written start past w u outbox others note first (laws_of past w h.sound.stands).serials old_for i k r l).asked ∙ ap (λ a. is_nothing a) quiet)

  -- a time-out
  module _ (line serial : ℕ) (request : Request) (zero_node : request.node ≡ 0) where
    abbrev Left : Result (Unit {0}) Stale × TargetScene → WorldState
    Left y = timed_out line serial request.node (packets.at_target (target_left y w.target) w)

    lapse_by : (x : Result (Option Purpose) Stale × Layer Purpose) → (let y = expired_in x request.peer request.label (scene w.target empty_outbox) in AreOthers y.1.outbox.sides → Tells start (hist past (Left y)) i → J (Left y))
    lapse_by (Ok purpose, layer) tells done =
        let t = (expired_in (Ok purpose, layer) request.peer request.label (scene w.target empty_outbox)).1 in
        let u = with_note (notes.TimedOut serial) (with_target t.node w) in
        subst (λ n. Tells start (hist past (handed_out n 0 t.outbox u)) i → J (handed_out n 0 t.outbox u)) (sym zero_node)
        (λ d.
        let v = handed_out 0 0 t.outbox u in
        let b = target_handed 0 t.outbox u tells in
        noted v (notes.TimedOut serial) refl refl b.more b.all b.is
        (target_same v (notes.TimedOut serial) refl refl b.more b.all b.is)
        (λ p c up. inl (kept_up units logins has start w h held u t.node t.outbox refl (lapse_open w (good units logins has start w h held) (seats units logins has start w h held) u refl layer request.peer request.label purpose) i p c up))
        (quiet_news v (notes.TimedOut serial) (late_still _ (terms H)) b.more b.all b.is (no_block u t.outbox tells (notes.TimedOut serial) refl (λ s. refl) (timed_quiet start serial H) d))) done
    lapse_by (Err stale, layer) tells done = λ behind. alike_open (view H i) w _ i (alike_up w _ refl refl i) o

    pub lapse_keeps : (let y = expired request.peer request.label (scene w.target empty_outbox) in Tells start (hist past (Left y)) i → J (Left y))
    unfolding expired
    lapse_keeps = lapse_by (expiring_step w.target.layer request.peer request.label) (gives.expires request.peer request.label (scene w.target empty_outbox) (tt, tt)).0

  -- a second
  pub tick_keeps : Tells start (hist past (tick_line w)) i → J (tick_line w)
  unfolding tick_line target_ticks
  tick_keeps done =
      let t = alone ticks w.target in
      let u = with_target t.node (with_note notes.Tick w) in
      let v = handed_out 0 0 t.outbox u in
      let b = target_handed 0 t.outbox u (second_tells w.target) in
      noted v notes.Tick refl refl b.more b.all b.is
      (target_same v notes.Tick refl refl b.more b.all b.is)
      (λ p c up. inl (kept_up units logins has start w h held u t.node t.outbox refl
      (manages.ticks u (holder w) (Before w (good units logins has start w h held) (seats units logins has start w h held)) w.target.logins (sound w (good units logins has start w h held) (seats units logins has start w h held)) (scene w.target empty_outbox) refl (begins w (good units logins has start w h held) (seats units logins has start w h held) u refl w.target.layer)) i p c up))
      (quiet_news v notes.Tick (record { owes = refl; served = refl; answers = refl }) b.more b.all b.is (no_block u t.outbox (second_tells w.target) notes.Tick refl (λ s. refl) (tick_quiet start H) done))

  -- a key
  pub key_keeps : (line unit : ℕ) (key : List ℕ) → AreOpenFor (view (hist past (keyed line unit key w)) i) (keyed line unit key w) i
  unfolding keyed
  key_keeps line unit key = by (nat_lt unit (length w.target.units))
    where
      up_key : (p : ℕ) → IsUp (with_note (notes.Key unit) (with_target (with_key unit key w.target) w)) i p → WasUp w (with_note (notes.Key unit) (with_target (with_key unit key w.target) w)) i p
      up_key p u = record { was = record { up = u.up; own = u.own }; list = refl }

      by : (b : Bool) → (let v = cond b (with_note (notes.Key unit) (with_target (with_key unit key w.target) w)) (refused line no_unit w) in AreOpenFor (view (hist past v) i) v i)
      by true = alike_open (view H i) w (with_note (notes.Key unit) (with_target (with_key unit key w.target) w)) i up_key o
      by false = alike_open (view H i) w (refused line no_unit w) i (alike_up w (refused line no_unit w) refl refl i) o

  -- ---- a generation that it sees
  layer_is : w.target.layer.generation ≡ (terms H).generation 0
  layer_is =
      let st = h.sound.stands in
      sym (ap (λ (l : Node). l.generation) (st.is.layers_are 0 (omega arith))) ∙ (((holds st.wire st.reached).nodes 0).generation ∙ ap (λ (x : Terms). x.generation 0) (past_terms w st))

  module _ (opened : AreOpened (hist past (see_line 0 w)) (see_line 0 w)) where
    -- a login that is held is not live
    dead : (places : List (Option Login)) (p : ℕ) (login : Login) → place_at (map held_login places) p ≡ Some login → is_live login ≡ true → ⊥
    dead places p login e l = by (place_at places p) (sym (get_or-map held_login places p None) ∙ e)
      where
        by : (x : Option Login) → held_login x ≡ Some login → ⊥
        by None f = absurd (let z : None ≡ Some login = f in cc)
        by (Some old) f = false≢true (ap live_of f ∙ l)
          where
            live_of : Option Login → Bool
            live_of None = true
            live_of (Some x) = is_live x

    -- each login that it has behind a later one is held
    held_all_dead : (r : Bool × Layer Purpose) (s : TargetScene) (p : ℕ) (login : Login) → r.0 ≡ true → login_at (reset_by r s).1.node p ≡ Some login → is_live login ≡ true → ⊥
    held_all_dead (true, layer) s p login e f l = dead (cut_all cuts.Reset None (scene (cleared_node layer s.node) s.outbox)).node.logins.places p login f l
    held_all_dead (false, layer) s p login e f l = false≢true e

    sees_dead : (generation id : ℕ) (s : TargetScene) (p : ℕ) (login : Login) → s.node.layer.generation < generation → login_at (seen generation id s).1.node p ≡ Some login → is_live login ≡ true → ⊥
    unfolding seen
    sees_dead generation id s p login b f l =
        held_all_dead (seeing_step s.node.layer generation id) s p login (seen_flag s.node.layer generation id ∙ (let z : nat_lt s.node.layer.generation generation ≡ true = grind (arith, nat_tests) in z)) f l

    pub sight_keeps : Tells start (hist past (see_line 0 w)) i → J (see_line 0 w)
    unfolding see_line nodes.sees target_sees
    sight_keeps done =
        let g = w.generations.latest.generation in
        let id = id_of w.generations.latest 0 in
        let t = alone (sees g id) w.target in
        let u = with_target t.node (with_seen 0 (told_seen 0 w)) in
        let v = handed_out 0 0 t.outbox u in
        let b = target_handed 0 t.outbox u (sight_tells g id w.target) in
        let note = notes.Seen 0 g in
        let same = turn_is b.more note w.fresh v.fresh past b.is in
        let rest = all_weaker of_target of_rest target_rest b.more b.all in
        let now : (terms (hist past v)).generation 0 ≡ g = ap (λ ms. (terms ms).generation 0) (sym same) ∙ (ap (λ (f : ℕ → ℕ). f 0) (all_same b.more (said note ∷ H) rest).generation ∙ seen_now 0 g H) in
        noted v note refl (let z : nat_eq 0 (suc i) ≡ false = grind (arith, nat_tests) in z) b.more b.all b.is
        (λ l p c up.
        let q = opened p c (up_state _ up.up) in
        sees_dead g id (scene w.target empty_outbox) p q.login (let e = layer_is in omega (arith, e, now, l))
        (subst (λ (n : NodeState). login_at n p ≡ Some q.login) (handed_alike 0 0 t.outbox u).target q.is) q.live)
        (λ p c up. inl (kept_up units logins has start w h held u t.node t.outbox refl
        (manages.sees u (holder w) (Before w (good units logins has start w h held) (seats units logins has start w h held)) w.target.logins (sound w (good units logins has start w h held) (seats units logins has start w h held)) g id (scene w.target empty_outbox) (begins w (good units logins has start w h held) (seats units logins has start w h held) u refl w.target.layer)) i p c up))
        (quiet_news v note (record { owes = refl; served = refl; answers = refl }) b.more b.all b.is (no_block u t.outbox (sight_tells g id w.target) note refl (λ s. refl) (sight_quiet start g H) done))
