-- Each turn of a world but a delivery leaves the agents of the terms the target's.
use Rattle.sbp_world.proofs.Words.Std.{arith, ◌≡◌, ◌∙◌, refl, sym, ap, subst, ℕ, zero, suc, ◌+◌, ◌-◌, ◌<◌, nat_eq, nat_lt, Bool, true, false, cond, List, [], ◌∷◌, length, Option, Some, None, Result, Ok, Err, if◌then◌else◌}
use Rattle.sbp_world.proofs.Words.Wire.{Stale, Layer, expiring_step, id_of, no_node, no_packet, find, BusRequest, OutboxState, empty_outbox, Moment, Sending, terms, Action}
use Rattle.sbp_world.proofs.Words.Target.{Disk, Told, Purpose, alone, lets_expire, sees, ticks, TargetScene, scene, expired, expired_in, with_key}
use Rattle.sbp_world.proofs.Words.Initiator.{act_step, Turn, expire_step, see_step}
use Rattle.sbp_world.proofs.Words.Laws.{sender_in, Target, is_serial, key_by, known_at, over, event_of}
use Rattle.sbp_world.proofs.Words.World.{handed_out, acted, acted_by, keyed, no_unit, weight_in, handed_all, initiator_learns, reset_line, see_line, target_learns, target_sees, target_ticks, tick_line, told_seen, with_seen, at_initiator, expires, initiator_expires, inject_line, injected, injected_to, is_in_flight, lose_line, lost, refused, target_expired, target_left, timed_out, timeout_line, timeout_of, posted, after_all, Scene, WorldState, initiator_at, with_initiator, with_note, with_target, MayGoOn, AreOf, Request, with_requests, AreHeldAt, AreUnitsAt}
use Rattle.sbp_journal.specs.declared.note.Note.TheVariants as notes
use Rattle.sbp_laws.proofs.Going.{going_still}
use Rattle.sbp_world.specs.Nodes as nodes
use Rattle.sbp_world.specs.Packets as packets
use Rattle.sbp_world.proofs.Wire.Holding.{Sound}
use Rattle.sbp_world.proofs.Wire.Nodes.{handed_alike}
use Rattle.sbp_world.proofs.Agents.Management.Holding.{Holding}
use Rattle.sbp_world.proofs.Agents.Management.Idle.{over_idle}
use Rattle.sbp_world.proofs.InitiatorForms as own
use Rattle.sbp_world.proofs.Agents.Management.Lapse.{from_asked}
use Rattle.sbp_world.proofs.Formed.{AreOwn}
use Rattle.sbp_world.proofs.Agents.Management.Still.{hist}
use Rattle.sbp_world.proofs.Agents.Management.Told.{term_in}
use Rattle.sbp_world.proofs.Agents.Asides.{asides_law}
use Rattle.sbp_world.proofs.Agents.CrewLapse.{lapsed_crew}
use Rattle.sbp_world.proofs.Agents.CrewOthers as others
use Rattle.sbp_world.proofs.Agents.CrewOthers.{lapsed_out, posts_still, seen_out}
use Rattle.sbp_world.proofs.Agents.CrewSights.{key_crew, second_crew, sight_crew}
use Rattle.sbp_world.proofs.Agents.Known.{AreSent, known_over_key, known_over_lapse, known_over_own, known_over_second, known_over_sight}
use Rattle.sbp_world.proofs.Agents.Purposes.{g, law}
use Rattle.sbp_world.proofs.Wire.Comes.{to_suc}

-- what is known as a delivery begins: the units of the terms are those of the target, with its media, and who has a place is its login's initiator
pub record IsSite (start : List Disk) (past : List Moment) (s : Scene) : Type 0 where
  pub units : AreUnitsAt start (hist past s.world) s.world.target s.media.disks
  pub held : AreHeldAt start (hist past s.world) s.world

-- as each of these deliveries begins
abbrev pub AllSites : List Disk → List Moment → List (Option Told) → Scene → Type 0
AllSites start past [] s = Unit {0}
AllSites start past (told ∷ before) s = IsSite start past (after_all before s) × AllSites start past before s

-- ---- what is kept
pub record Crewed (start : List Disk) (past : List Moment) (w : WorldState) : Type 0 where
  pub requests : List Request
  pub are : AreOf requests (over (term_in start past w)).agents w.target
  pub sent : AreSent requests w.target w.requests

module _ (units ready : ℕ) (has : 0 < units) (start : List Disk) where
  abbrev C : List Moment → WorldState → Type 0
  C past w = Crewed start past w

  abbrev H : List Moment → ℕ → WorldState → Type 0
  H past lines w = Holding units ready start past lines w

  -- a world with the same target, whose requests and agents of the terms are the same
  pub same_crew : {past later : List Moment} (w v : WorldState) → (over (term_in start later v)).agents ≡ (over (term_in start past w)).agents → v.target ≡ w.target → v.requests ≡ w.requests → C past w → C later v
  same_crew {past} w v agents target requests c = record {
    requests = c.requests;
    are = subst (λ xs. AreOf c.requests xs v.target) (sym agents) (subst (λ n. AreOf c.requests (over (term_in start past w)).agents n) (sym target) c.are);
    sent = subst (λ n. AreSent c.requests n v.requests) (sym target) (subst (λ b. AreSent c.requests w.target b) (sym requests) c.sent);
  }

  -- ---- an initiator has a turn
  pub own_crew : {past later : List Moment} {lines more : ℕ} (w : WorldState) (h : H past lines w) (i weight : ℕ) (outbox : OutboxState) (v : WorldState) → AreOwn outbox.sides → (term_in start later v).reply ≡ None → (over (term_in start later v)).agents ≡ (over (term_in start past w)).agents → v.target ≡ w.target → v.requests ≡ w.requests → Sound later more (handed_out (suc i) weight outbox v) → C past w → C later (handed_out (suc i) weight outbox v)
  own_crew {past} {later} w h i weight outbox v own none agents target requests sound c =
      let now = handed_out (suc i) weight outbox v in
      record {
        requests = c.requests;
        are = subst (λ xs. AreOf c.requests xs now.target) (sym (ap (λ (t : Target). (over t).agents) (others.own_hands start later i weight outbox v own none) ∙ agents))
            (subst (λ n. AreOf c.requests (over (term_in start past w)).agents n) (sym ((handed_alike (suc i) weight outbox v).target ∙ target)) c.are);
        sent = known_over_own units ready has start w h c.requests c.sent i weight outbox v target requests later sound.stands;
      }

  -- ---- the bus is reset
  pub resets : {past : List Moment} (w : WorldState) → (term_in start past w).reply ≡ None → C past w → (physical : List ℕ) → C past (reset_line physical w)
  unfolding reset_line
  resets {past} w idle c physical =
      same_crew w (reset_line physical w) (ap (λ (x : Target). (over x).agents) (going_still (notes.Reset (w.generations.latest.generation + 1)) (term_in start past w) idle)) refl refl c

  -- ---- lines that change no node, or only an initiator
  module _ {past : List Moment} {lines : ℕ} (w : WorldState) (h : H past lines w) (idle : (term_in start past w).reply ≡ None) (c : C past w) where
    abbrev t : Target
    t = term_in start past w

    refuses_own : (i : ℕ) (turn : Turn) (line number : ℕ) → C past (refused line number (with_initiator i turn.1 w))
    refuses_own i turn line number =
        same_crew w (refused line number (with_initiator i turn.1 w)) (ap (λ (x : Target). (over x).agents) (going_still (notes.Refused line number) t idle)) refl refl c

    pub refuses : (line number : ℕ) → C past (refused line number w)
    refuses line number = same_crew w (refused line number w) (ap (λ (x : Target). (over x).agents) (going_still (notes.Refused line number) t idle)) refl refl c

    acts_by : {more : ℕ} (line i : ℕ) (action : Action) (r : Option ℕ × Turn) → own.At r.1 → Sound past more (acted_by r line i action w) → C past (acted_by r line i action w)
    acts_by line i action (Some number, turn) told sound = refuses_own i turn line number
    acts_by {more} line i action (None, turn) told sound =
        let v = with_initiator i turn.1 w in
        let next : suc i ≡ i + 1 = omega arith in
        subst (λ n. C past (handed_out n (weight_in action) turn.0 v)) next
        (own_crew w h i (weight_in action) turn.0 v told idle refl refl refl (subst (λ n. Sound past more (handed_out n (weight_in action) turn.0 v)) (sym next) sound) c)

    pub acts : {more : ℕ} (line i : ℕ) (action : Action) → Sound past more (acted line i action w) → C past (acted line i action w)
    unfolding acted
    acts line i action sound = acts_by line i action (act_step action empty_outbox (initiator_at w i)) (own.acts action empty_outbox (initiator_at w i) tt) sound

    -- a packet is lost, or injected
    pub loses : (line serial : ℕ) → C past (lose_line line serial w)
    unfolding lose_line
    loses line serial = by (is_in_flight serial w)
      where
        by : (b : Bool) → C past (cond b (lost serial w) (refused line no_packet w))
        by true = same_crew w (lost serial w) (ap (λ (x : Target). (over x).agents) (going_still (notes.Lost serial) t idle)) refl refl c
        by false = refuses line no_packet

    injects_to : (line from i : ℕ) (bytes : List ℕ) → from ≡ suc i → (to : Option ℕ) → C past (injected to line from bytes w)
    unfolding posted
    injects_to line from i bytes e None = refuses line no_node
    injects_to line from i bytes e (Some to) =
        let v = with_note (notes.Injected (w.store.last + 1)) w in
        let one : term_in start past v ≡ t = going_still (notes.Injected (w.store.last + 1)) t idle in
        let two : term_in start past (posted from to true bytes w) ≡ term_in start past v = posts_still start past from to bytes v (to_suc from i e) (ap (λ (x : Target). x.reply) one ∙ idle) in
        same_crew w (posted from to true bytes w) (ap (λ (x : Target). (over x).agents) (two ∙ one)) refl refl c

    pub injects : (line i : ℕ) (bytes : List ℕ) → C past (inject_line line i bytes w)
    unfolding inject_line
    injects line i bytes = injects_to line (i + 1) i bytes (omega arith) (injected_to (i + 1) bytes w)

    -- an initiator sees a generation
    sees_own : {more : ℕ} (i : ℕ) → Sound past more (see_line (suc i) w) → C past (see_line (suc i) w)
    unfolding see_line nodes.sees
    sees_own {more} i sound = by (nat_eq (suc i) 0) (to_suc (suc i) i refl) sound
      where
        told_world : WorldState
        told_world = with_seen (suc i) (told_seen (suc i) w)

        by : (b : Bool) → b ≡ false → (let v = handed_all (suc i) (if b then target_learns told_world else initiator_learns (suc i) told_world) in Sound past more v → C past v)
        by true e sound = absurd (let x : true ≡ false = e in cc)
        by false e sound =
            let turn : Turn = see_step told_world.generations.latest.generation (id_of told_world.generations.latest (suc i)) (id_of told_world.generations.latest 0) empty_outbox (initiator_at told_world (suc i - 1)) in
            let v = with_initiator (suc i - 1) turn.1 told_world in
            let is_over : term_in start past v ≡ over t = seen_out start (hist past w) (suc i) w.generations.latest.generation (to_suc (suc i) i refl) in
            own_crew w h i 0 turn.0 v
            (own.sees told_world.generations.latest.generation (id_of told_world.generations.latest (suc i)) (id_of told_world.generations.latest 0) empty_outbox (initiator_at told_world (suc i - 1)) tt)
            (ap (λ (x : Target). x.reply) is_over ∙ (over_idle t).reply) (ap (λ (x : Target). (over x).agents) is_over ∙ asides_law.twice t) refl refl sound c

    -- ---- a transaction times out
    module _ (line serial : ℕ) where
      module _ (request : BusRequest) (found : find w.requests serial ≡ Some request) where
        -- of an initiator
        sender_out : (i : ℕ) → request.node ≡ suc i → (so : Option Sending) → (terms (hist past w)).sent serial ≡ so → is_serial (sender_in so) 0 ≡ false
        sender_out i e None s = refl
        sender_out i e (Some q) s =
            to_suc q.from i (from_asked start w h.sound.stands (g units ready has start w h) (law units ready has start w h) h.at serial request found q s ∙ e)

        lapses_own : {more : ℕ} (i j : ℕ) → request.node ≡ suc i → (r : Bool × Turn) → own.At r.1 → Sound past more (timed_out line serial request.node (at_initiator j r w)) → C past (timed_out line serial request.node (at_initiator j r w))
        lapses_own {more} i j e (true, turn) told sound =
            let v = with_note (notes.TimedOut serial) (with_initiator j turn.1 w) in
            let is_over : term_in start past v ≡ over t = lapsed_out start (hist past w) serial (sender_out i e ((terms (hist past w)).sent serial) refl) in
            subst (λ n. C past (handed_out n 0 turn.0 v)) (sym e)
            (own_crew w h i 0 turn.0 v told (ap (λ (x : Target). x.reply) is_over ∙ (over_idle t).reply) (ap (λ (x : Target). (over x).agents) is_over ∙ asides_law.twice t) refl refl
            (subst (λ n. Sound past more (handed_out n 0 turn.0 v)) e sound) c)
        lapses_own i j e (false, turn) told sound = refuses_own j turn line no_packet

        own_if : {more : ℕ} (i j : ℕ) → request.node ≡ suc i → (b : Bool) → (let r = (if b then at_initiator j (expire_step request.label empty_outbox (initiator_at w j)) w else (false, (empty_outbox, w))) in Sound past more (timed_out line serial request.node r) → C past (timed_out line serial request.node r))
        own_if i j e true sound = lapses_own i j e (expire_step request.label empty_outbox (initiator_at w j)) (own.expires request.label empty_outbox (initiator_at w j) tt) sound
        own_if i j e false sound = refuses line no_packet

        -- of the target
        module _ (zero_is : request.node ≡ 0) where
          abbrev x : TargetScene
          x = alone (lets_expire request.peer request.label) w.target

          abbrev v : WorldState
          v = with_note (notes.TimedOut serial) (with_target x.node w)

          lapse_crew : {more : ℕ} (purpose : Option Purpose) (new : Layer Purpose) → expiring_step w.target.layer request.peer request.label ≡ (Ok purpose, new) → Sound past more (handed_out 0 0 x.outbox v) → C past (handed_out 0 0 x.outbox v)
          lapse_crew purpose new e sound = record {
            requests = with_requests v.store.last x.outbox.packets c.requests;
            are = subst (λ n. AreOf (with_requests v.store.last x.outbox.packets c.requests) (over (term_in start past (handed_out 0 0 x.outbox v))).agents n) (sym (handed_alike 0 0 x.outbox v).target)
                (lapsed_crew units ready has start w h serial request found zero_is purpose new e c.requests c.are (c.sent.known));
            sent = known_over_lapse units ready has start w h c.requests c.sent serial request found zero_is past sound.stands;
          }

          abbrev Found : Type 0
          Found = Result (Option Purpose) Stale × Layer Purpose

          abbrev left_by : Found → Result (Unit {0}) Stale × TargetScene
          left_by f = expired_in f request.peer request.label (scene w.target empty_outbox)

          abbrev world_of : Found → WorldState
          world_of f = timed_out line serial request.node (packets.at_target (target_left (left_by f) w.target) w)

          scene_is : (f : Found) → expiring_step w.target.layer request.peer request.label ≡ f → x ≡ (left_by f).1
          unfolding expired
          scene_is f e = ap (λ f. (left_by f).1) e

          target_by : {more : ℕ} (f : Found) → expiring_step w.target.layer request.peer request.label ≡ f → Sound past more (world_of f) → C past (world_of f)
          target_by (Err stale, new) e sound = refuses line no_packet
          target_by {more} (Ok purpose, new) e sound =
              let y = (left_by (Ok purpose, new)).1 in
              let is : handed_out 0 0 x.outbox v ≡ world_of (Ok purpose, new) =
              ap (λ (y : TargetScene). handed_out 0 0 y.outbox (with_note (notes.TimedOut serial) (with_target y.node w))) (scene_is (Ok purpose, new) e)
              ∙ ap (λ n. handed_out n 0 y.outbox (with_note (notes.TimedOut serial) (with_target y.node w))) (sym zero_is) in
              subst (C past) is (lapse_crew purpose new e (subst (Sound past more) (sym is) sound))

          lapses_target : {more : ℕ} → Sound past more (timed_out line serial request.node (packets.at_target (target_expired request w.target) w)) → C past (timed_out line serial request.node (packets.at_target (target_expired request w.target) w))
          unfolding target_expired expired
          lapses_target sound = target_by (expiring_step w.target.layer request.peer request.label) refl sound

        lapses_at : {more : ℕ} (node : ℕ) → request.node ≡ node → Sound past more (timed_out line serial request.node (expires request w)) → C past (timed_out line serial request.node (expires request w))
        unfolding expires
        lapses_at {more} zero e sound =
            let is_zero : nat_eq request.node 0 ≡ true = grind arith in
            subst (λ b. C past (timed_out line serial request.node (if b then packets.at_target (target_expired request w.target) w else initiator_expires request w))) (sym is_zero)
            (lapses_target e (subst (λ b. Sound past more (timed_out line serial request.node (if b then packets.at_target (target_expired request w.target) w else initiator_expires request w))) is_zero sound))
        lapses_at {more} (suc i) e sound =
            let other = to_suc request.node i e in
            subst (λ b. C past (timed_out line serial request.node (if b then packets.at_target (target_expired request w.target) w else initiator_expires request w))) (sym other)
            (own_if i (request.node - 1) e (nat_lt (request.node - 1) (length w.initiators)) (subst (λ b. Sound past more (timed_out line serial request.node (if b then packets.at_target (target_expired request w.target) w else initiator_expires request w))) other sound))

      times_out_by : {more : ℕ} (so : Option BusRequest) → find w.requests serial ≡ so → Sound past more (timeout_of so line serial w) → C past (timeout_of so line serial w)
      times_out_by None e sound = refuses line no_packet
      times_out_by (Some request) e sound = lapses_at request e request.node refl sound

      pub times_out : {more : ℕ} → Sound past more (timeout_line line serial w) → C past (timeout_line line serial w)
      unfolding timeout_line
      times_out sound = times_out_by (find w.requests serial) refl sound

    -- ---- a second, a sight of the target, a key
    pub ticks_line : C past (tick_line w)
    unfolding tick_line target_ticks
    ticks_line =
        let x = alone ticks w.target in
        let v = with_target x.node (with_note notes.Tick w) in
        record {
          requests = with_requests v.store.last x.outbox.packets c.requests;
          are = subst (λ n. AreOf (with_requests v.store.last x.outbox.packets c.requests) (over (term_in start past (handed_out 0 0 x.outbox v))).agents n) (sym (handed_alike 0 0 x.outbox v).target)
              (second_crew units ready has start w h c.requests c.are);
          sent = known_over_second units ready has start w h c.requests c.sent;
        }

    sees_target : C past (see_line 0 w)
    unfolding see_line nodes.sees target_sees
    sees_target =
        let x = alone (sees w.generations.latest.generation (id_of w.generations.latest 0)) w.target in
        let v = with_target x.node (with_seen 0 (told_seen 0 w)) in
        record {
          requests = with_requests v.store.last x.outbox.packets c.requests;
          are = subst (λ n. AreOf (with_requests v.store.last x.outbox.packets c.requests) (over (term_in start past (handed_out 0 0 x.outbox v))).agents n) (sym (handed_alike 0 0 x.outbox v).target)
              (sight_crew units ready has start w h c.requests c.are);
          sent = known_over_sight units ready has start w h c.requests c.sent;
        }

    pub sights : {more : ℕ} (node : ℕ) → Sound past more (see_line node w) → C past (see_line node w)
    sights zero sound = sees_target
    sights (suc i) sound = sees_own i sound

    pub keys_line : (line unit : ℕ) (key : List ℕ) → C past (keyed line unit key w)
    unfolding keyed
    keys_line line unit key = by (nat_lt unit (length w.target.units))
      where
        agents_are : (over (key_by (event_of (hist past w)) unit t)).agents ≡ (over t).agents
        agents_are = asides_law.asides (notes.Key unit) (hist past w) (known_at start (hist past w)).wire t tt (subst (λ r. MayGoOn r t.agents) (sym idle) tt)

        by : (b : Bool) → C past (cond b (with_note (notes.Key unit) (with_target (with_key unit key w.target) w)) (refused line no_unit w))
        by true = record {
          requests = c.requests;
          are = key_crew units ready has start w h c.requests unit key (over (key_by (event_of (hist past w)) unit t)).agents agents_are c.are;
          sent = known_over_key units ready has start w h c.requests c.sent unit key;
        }
        by false = refuses line no_unit
