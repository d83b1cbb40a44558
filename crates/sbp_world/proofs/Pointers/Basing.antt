-- At whose registers an initiator writes and reads, as is carried on: as others tell and send something, and as it hears a packet, lets a transaction time out,
-- and sees a generation.
use Rattle.sbp_world.proofs.Words.Std.{arith, ◌≡◌, refl, sym, ◌∙◌, ap, subst, ℕ, suc, ◌≤◌, ◌==◌, nat_eq, nat_lt, is_some, not, Bool, true, false, List, ◌∷◌, Option, Some, None, nat_tests}
use Rattle.sbp_world.proofs.Words.Wire.{LabelParts, expiring_step, judging_step, seeing_step, judged_note, Access, empty_outbox, Moment, asked, said, Sending, Terms, terms, Event, Note, Side}
use Rattle.sbp_world.proofs.Words.Initiator.{LoginResponse, PresentList, InitiatorState, Turn, expire_step, receive_step, see_step, is_list, carried}
use Rattle.sbp_world.proofs.Words.Laws.{Host, host_at, known_host, access_in_bytes, event_of}
use Rattle.sbp_world.proofs.Words.World.{behind, AreUnrefused, is_seated, register_read, IsResetting, pointer_write, register_write, state_list, pointed_list}
use Rattle.sbp_journal.specs.declared.note.Note.TheVariants as notes
use Rattle.sbp_laws.specs.Hosts.{reset_seen}
use Rattle.sbp_world.proofs.Hosts.Carries.{IsNoAct, Tells, is_apart}
use Rattle.sbp_world.proofs.Hosts.Cores.{wire_is}
use Rattle.sbp_world.proofs.Hosts.Held.{sent_count, sent_old}
use Rattle.sbp_world.proofs.Hosts.Layered.{AreTame, expire_left, receive_left}
use Rattle.sbp_world.proofs.Hosts.PointSees.{see_left}
use Rattle.sbp_world.proofs.Hosts.PointerNotes.{Fit, apart_passes, opens, sent_fades, tame_told, older}
use Rattle.sbp_world.proofs.Hosts.Shown.{IsElsewhere, IsHeard, IsShown}
use Rattle.sbp_world.proofs.Pointers.BaseTold.{apart_pointed, closes_of, judged_pointed, judged_unrefused, pointed_told, refuses_of, sent_pointed, sent_state, unclosed_told, unrefused_told, so_none}
use Rattle.sbp_world.proofs.Pointers.BaseWalks.{Keeps, expire_sits, expire_steady, receive_sits, receive_steady}
use Rattle.sbp_world.proofs.Pointers.Guarded.{Guarded}
use Rattle.sbp_world.proofs.Pointers.Guarding.{guarded_carried}
use Rattle.sbp_world.proofs.Pointers.Passing.{judged_goes, timed_goes}
use Rattle.sbp_world.proofs.Pointers.Resetting.{Fades, apart_fades, judged_fades, note_fades, resetting_back, sent_back, told_fades}
use Rattle.sbp_world.proofs.Pointers.Showing.{expire_lasts, receive_lasts, see_none}
use Rattle.sbp_world.proofs.Pointers.WaitActs.{see_old}
use Rattle.sbp_world.proofs.Pointers.Waits.{judged_count, judged_state, state_apart, state_told, timed_count}
use Rattle.sbp_world.proofs.Pointers.Sending.{not_new}
use Rattle.sbp_world.proofs.Hosts.Pointed.{judged_fit}
use Rattle.sbp_world.proofs.Hosts.Knows.{seen_flag as flag_is}
use Rattle.sbp_world.proofs.Common.{untrue, least}

-- ---- what is carried on

-- a request that was sent to the target, and what it asks for
pub record Requested (past : List Moment) (i serial : ℕ) (access : Access) : Type 0 where
  pub packet : Sending
  pub sent : (terms past).sent serial ≡ Some packet
  pub from_is : packet.from ≡ suc i
  pub to_is : packet.to ≡ 0
  pub honest : packet.injected ≡ false
  pub spelled : access_in_bytes packet.bytes ≡ Some access
  pub below : serial ≤ (terms past).count

-- a write of ORB_POINTER at the agent of this base
pub record PointsAt (past : List Moment) (i serial base : ℕ) : Type 0 where
  pub address : ℕ
  pub is : Requested past i serial (pointer_write base address)

pub record AtAgent (past : List Moment) (i : ℕ) (s : InitiatorState) : Type 0 where
  pub pointer : AreUnrefused past i → (n serial : ℕ) → is_list s.lists.slots.present n ≡ true → pointed_list past serial i ≡ Some n → (response : LoginResponse) → carried s.seat ≡ Some response → PointsAt past i serial response.agent
  pub reset : (serial : ℕ) → IsResetting past i serial → (response : LoginResponse) → carried s.seat ≡ Some response → Requested past i serial (register_write response.agent 0x04)
  pub states : AreUnrefused past i → (n serial : ℕ) → is_list s.lists.slots.present n ≡ true → state_list past serial i ≡ Some n → (response : LoginResponse) → carried s.seat ≡ Some response → Requested past i serial (register_read response.agent 0x00)

pub record Based (ready : Bool) (past : List Moment) (i : ℕ) (s : InitiatorState) : Type 0 where
  pub guarded : Guarded ready past i s
  pub seated : AreUnrefused past i → is_some s.lists.slots.present ≡ true → is_seated s.seat ≡ true
  pub armed : (serial : ℕ) → IsResetting past i serial → is_some (carried s.seat) ≡ true
  pub agent : Fit past → AtAgent past i s

list_some : (present : Option PresentList) (n : ℕ) → is_list present n ≡ true → is_some present ≡ true
list_some None n e = untrue e
list_some (Some list) n e = refl

-- ---- from one history to a later one

module _ (past now : List Moment) (i : ℕ) (sent_same : (n : ℕ) → n ≤ (terms past).count → (terms now).sent n ≡ (terms past).sent n) (more : (terms past).count ≤ (terms now).count) where
  pub requested_on : (serial : ℕ) (access : Access) → Requested past i serial access → Requested now i serial access
  requested_on serial access r = record {
    packet = r.packet;
    sent = sent_same serial r.below ∙ r.sent;
    from_is = r.from_is;
    to_is = r.to_is;
    honest = r.honest;
    spelled = r.spelled;
    below = (let b = r.below in omega arith);
  }

  module _ (s x : InitiatorState) (unrefused : AreUnrefused now i → AreUnrefused past i) (lists : (n : ℕ) → is_list x.lists.slots.present n ≡ true → is_list s.lists.slots.present n ≡ true) (pointed : (serial n : ℕ) → pointed_list now serial i ≡ Some n → pointed_list past serial i ≡ Some n) (stated : (serial n : ℕ) → state_list now serial i ≡ Some n → state_list past serial i ≡ Some n) (back : (serial : ℕ) → IsResetting now i serial → IsResetting past i serial) (same : AreUnrefused now i → is_some x.lists.slots.present ≡ true → carried x.seat ≡ carried s.seat) (steady : (serial : ℕ) → IsResetting now i serial → carried x.seat ≡ carried s.seat) where
    pub agent_on : AtAgent past i s → AtAgent now i x
    agent_on h = record {
      pointer = λ u n serial l p response c.
          let k = h.pointer (unrefused u) n serial (lists n l) (pointed serial n p) response (sym (same u (list_some x.lists.slots.present n l)) ∙ c) in
          record { address = k.address; is = requested_on serial (pointer_write response.agent k.address) k.is };
      reset = λ serial r response c. requested_on serial (register_write response.agent 0x04) (h.reset serial (back serial r) response (sym (steady serial r) ∙ c));
      states = λ u n serial l p response c. requested_on serial (register_read response.agent 0x00) (h.states (unrefused u) n serial (lists n l) (stated serial n p) response (sym (same u (list_some x.lists.slots.present n l)) ∙ c));
    }

at_most : (a b c : ℕ) → a ≤ b → c ≡ b → a ≤ c
at_most a b c l e = omega arith

module _ (ready : Bool) where
  -- ---- what others tell and send

  pub asked_based : (line : ℕ) (event : Event) (past : List Moment) (i : ℕ) (s : InitiatorState) → Based ready past i s → Based ready (asked line event ∷ past) i s
  asked_based line event past i s h =
      let o = opens event (terms past) in
      record {
        guarded = (guarded_carried ready).asked line event past i s h.guarded;
        seated = λ u. h.seated u.1;
        armed = λ serial r. h.armed serial (record { underway = r.underway; is = r.is; resets = r.resets; first = r.first });
        agent = λ f.
            agent_on past (asked line event ∷ past) i (λ n l. ap (λ (x : ℕ → Option Sending). x n) o.sent) (least _ _ o.count) s s (λ u. u.1) (λ n l. l) (λ serial n p. p) (λ serial n p. p)
            (λ serial r. record { underway = r.underway; is = r.is; resets = r.resets; first = r.first }) (λ u p. refl) (λ serial r. refl)
            (h.agent (record { serials = f.serials; sent = f.sent }));
      }

  pub apart_based : (note : Note) (past : List Moment) (i : ℕ) (s : InitiatorState) → is_apart i note ≡ true → IsElsewhere past i note → Based ready past i s → Based ready (said note ∷ past) i s
  apart_based note past i s e w h =
      let passes = apart_passes note past i e w in
      let back = resetting_back past (said note ∷ past) i (apart_fades note past i e) in
      record {
        guarded = (guarded_carried ready).apart note past i s e w h.guarded;
        seated = λ u. h.seated u.1;
        armed = λ serial r. h.armed serial (back serial r);
        agent = λ f.
            agent_on past (said note ∷ past) i (passes.sent f) passes.count s s (λ u. u.1) (λ n l. l) (λ serial n p. sym (apart_pointed note past i e serial) ∙ p) (λ serial n p. sym (state_apart note past i e serial) ∙ p)
            back (λ u p. refl) (λ serial r. refl) (h.agent (passes.fit f));
      }

  pub sent_based : (serial generation from to : ℕ) (bytes : List ℕ) (past : List Moment) (i : ℕ) (s : InitiatorState) → IsNoAct i (event_of past) → Based ready past i s → Based ready (said (notes.Sent serial generation from to bytes) ∷ past) i s
  sent_based serial generation from to bytes past i s n h =
      let now = said (notes.Sent serial generation from to bytes) ∷ past in
      let packet : Sending = record { generation = generation; from = from; to = to; bytes = bytes; injected = (terms past).injected serial } in
      record {
        guarded = (guarded_carried ready).sent serial generation from to bytes past i s n h.guarded;
        seated = λ u. h.seated u.1;
        armed = λ first r. h.armed first (sent_back serial generation from to bytes past i first n r);
        agent = λ f.
            let g : Fit past = record { serials = f.serials.1; sent = f.sent.1 } in
            let below = (h.guarded.pointed.points g).below in
            agent_on past now i (λ m l. sent_old serial m packet (terms past) (older m serial (terms past).count l f.serials.0)) (let c = sent_count serial packet (terms past) in let z : (terms past).count ≤ (terms now).count = omega arith in z) s s (λ u. u.1) (λ m l. l)
            (λ x m p. sent_pointed serial generation from to bytes past i (λ q. not_new serial (terms past).count (below serial (sent_fades serial generation (suc i) to bytes past i n serial q)) f.serials.0) x m p)
            (λ x m p. sent_state serial generation from to bytes past i n x m p)
            (λ first r. sent_back serial generation from to bytes past i first n r) (λ u p. refl) (λ first r. refl) (h.agent g);
      }

  -- what another initiator tells
  pub others_based : (told : List Side) (past : List Moment) (j : ℕ) (x : InitiatorState) → AreTame told → Guarded ready (behind told past) j x → Based ready past j x → Based ready (behind told past) j x
  others_based told past j x tame g h =
      let k = tame_told told past j tame in
      let now = behind told past in
      let back = resetting_back past now j (told_fades told past j tame) in
      record {
        guarded = g;
        seated = λ u. h.seated (unrefused_told told past j tame u).1;
        armed = λ serial r. h.armed serial (back serial r);
        agent = λ f.
            agent_on past now j (λ n l. ap (λ (t : Terms). t.sent n) k.wire) (least _ _ (ap (λ (t : Terms). t.count) k.wire)) x x (λ u. (unrefused_told told past j tame u).1) (λ n l. l)
            (λ serial n p. sym (ap (λ (v : ℕ → ℕ → Option ℕ). v serial j) (pointed_told told past tame)) ∙ p) (λ serial n p. sym (ap (λ (v : ℕ → ℕ → Option ℕ). v serial j) (state_told told past tame)) ∙ p)
            back (λ u p. refl) (λ serial r. refl) (h.agent (k.fit f));
      }

  -- ---- a delivery, and a time-out

  -- what is told behind a note, with what it leaves of the session and the lists
  module _ (past now : List Moment) (i : ℕ) (s : InitiatorState) (t : Turn) (h : Based ready past i s) (g : Guarded ready (behind t.0.sides now) i t.1) (tame : AreTame t.0.sides) (fit : Fit now → Fit past) (unrefused : AreUnrefused now i → AreUnrefused past i) (sent_same : (n : ℕ) → (terms now).sent n ≡ (terms past).sent n) (more : (terms past).count ≤ (terms now).count) (lists : (n : ℕ) → is_list t.1.lists.slots.present n ≡ true → is_list s.lists.slots.present n ≡ true) (pointed : pointed_list now ≡ pointed_list past) (stated : state_list now ≡ state_list past) (fades : Fades (host_at now i) (host_at past i)) (keeps : (is_some s.lists.slots.present ≡ true → is_seated s.seat ≡ true) → refuses_of i t.0.sides ≡ false → is_some t.1.lists.slots.present ≡ true → Keeps s.seat t.1.seat) (steady : closes_of i t.0.sides ≡ false → carried t.1.seat ≡ carried s.seat) where
    abbrev later : List Moment
    later = behind t.0.sides now

    before : AreUnrefused later i → AreUnrefused past i
    before u = unrefused (unrefused_told t.0.sides now i tame u).1

    stays : AreUnrefused later i → is_some t.1.lists.slots.present ≡ true → Keeps s.seat t.1.seat
    stays u p = keeps (h.seated (before u)) (unrefused_told t.0.sides now i tame u).0 p

    back : (serial : ℕ) → IsResetting later i serial → IsResetting past i serial
    back = resetting_back past later i (λ u e. fades u (told_fades t.0.sides now i tame u e))

    carries : (serial : ℕ) → IsResetting later i serial → carried t.1.seat ≡ carried s.seat
    carries serial r = steady (unclosed_told t.0.sides now i tame r.underway r.is)

    pub called_based : Based ready later i t.1
    called_based = record {
      guarded = g;
      seated = λ u p. (stays u p).seated;
      armed = λ serial r. ap is_some (carries serial r) ∙ h.armed serial (back serial r);
      agent = λ f.
          let k = tame_told t.0.sides now i tame in
          agent_on past later i (λ n l. ap (λ (x : Terms). x.sent n) k.wire ∙ sent_same n) (at_most _ _ _ more (ap (λ (x : Terms). x.count) k.wire)) s t.1 before lists
          (λ serial n p. sym (ap (λ (v : ℕ → ℕ → Option ℕ). v serial i) (pointed_told t.0.sides now tame ∙ pointed)) ∙ p) (λ serial n p. sym (ap (λ (v : ℕ → ℕ → Option ℕ). v serial i) (state_told t.0.sides now tame ∙ stated)) ∙ p)
          back (λ u p. (stays u p).same) carries (h.agent (fit (k.fit f)));
    }

  pub hears_based : (serial generation : ℕ) (bytes : List ℕ) (past : List Moment) (i : ℕ) (s : InitiatorState) → IsHeard past i serial generation bytes → IsShown past i s.target s.layer → IsShown (said (judged_note serial (receive_step generation bytes empty_outbox s).0) ∷ past) i s.target (judging_step s.layer generation bytes).1 → Based ready past i s → Tells (Based ready) (said (judged_note serial (receive_step generation bytes empty_outbox s).0) ∷ past) i (receive_step generation bytes empty_outbox s).1
  hears_based serial generation bytes past i s heard shown after_it h =
      let judged = (receive_step generation bytes empty_outbox s).0 in
      let now = said (judged_note serial judged) ∷ past in
      let t = (receive_step generation bytes empty_outbox s).1 in
      let left = receive_left generation bytes s in
      let tells = (guarded_carried ready).hears serial generation bytes past i s heard shown after_it h.guarded in
      let c = h.guarded.pointed.cored in
      record {
        own = called_based past now i s t h tells.own left.told (judged_fit serial judged past) (λ u. judged_unrefused serial judged past i u) (judged_goes serial judged past i).sent (judged_count serial judged past) (receive_lasts i generation bytes s).had (judged_pointed serial judged past) (judged_state serial judged past) (judged_fades serial judged past i)
            (λ start. receive_sits i s c.own.number c.sits start generation bytes) (receive_steady i s c.own.number c.sits generation bytes);
        others = λ j x e k. others_based t.0.sides now j x left.told (tells.others j x e k.guarded) k;
      }

  pub expires_based : (serial : ℕ) (label : LabelParts) (past : List Moment) (i : ℕ) (s : InitiatorState) → IsShown (said (notes.TimedOut serial) ∷ past) i s.target (expiring_step s.layer s.target label).1 → Based ready past i s → Tells (Based ready) (said (notes.TimedOut serial) ∷ past) i (expire_step label empty_outbox s).1
  expires_based serial label past i s after_it h =
      let now = said (notes.TimedOut serial) ∷ past in
      let t = (expire_step label empty_outbox s).1 in
      let left = expire_left label s in
      let tells = (guarded_carried ready).expires serial label past i s after_it h.guarded in
      let c = h.guarded.pointed.cored in
      record {
        own = called_based past now i s t h tells.own left.told (λ f. record { serials = f.serials; sent = f.sent }) (λ u. u.1) (timed_goes serial past i).sent (timed_count serial past) (expire_lasts i label s).had refl refl (note_fades (notes.TimedOut serial) past i refl)
            (λ start. expire_sits i s c.own.number c.sits start label) (expire_steady i s c.own.number c.sits label);
        others = λ j x e k. others_based t.0.sides now j x left.told (tells.others j x e k.guarded) k;
      }

  -- ---- a generation is seen

  reset_none : (b : Bool) (host : Host) → b ≡ false → (reset_seen (not b) host).operation ≡ None
  reset_none true host e = untrue (sym e)
  reset_none false host e = refl

  seen_none : (generation : ℕ) (past : List Moment) (i : ℕ) → nat_eq generation ((terms past).generation (suc i)) ≡ false → (host_at (said (notes.Seen (suc i) generation) ∷ past) i).operation ≡ None
  seen_none generation past i e =
      let w = (known_host past i).wire in
      let f : nat_eq generation (w.generation (suc i)) ≡ false = ap (λ (t : Terms). nat_eq generation (t.generation (suc i))) (wire_is past i) ∙ e in
      so_none (nat_eq (suc i) (suc i)) (reset_seen (not (nat_eq generation (w.generation (suc i)))) (host_at past i)) (host_at past i) (let z : nat_eq (suc i) (suc i) ≡ true = grind (arith, nat_tests) in z) (reset_none (nat_eq generation (w.generation (suc i))) (host_at past i) f)

  none_resets : {A : Type 0} (now : List Moment) (i serial : ℕ) → (host_at now i).operation ≡ None → IsResetting now i serial → A
  none_resets now i serial e r = absurd (differ (sym e ∙ r.is))
    where
      differ : None ≡ Some r.underway → ⊥
      differ f = cc

  pub sees_based : (generation id target : ℕ) (past : List Moment) (i : ℕ) (s : InitiatorState) → (seeing_step s.layer generation id).0 ≡ not (generation == (terms past).generation (suc i)) → Based ready past i s → Tells (Based ready) (said (notes.Seen (suc i) generation) ∷ past) i (see_step generation id target empty_outbox s)
  sees_based generation id target past i s e h =
      let now = said (notes.Seen (suc i) generation) ∷ past in
      let t = see_step generation id target empty_outbox s in
      let left = see_left generation id target s in
      let tells = (guarded_carried ready).sees generation id target past i s e h.guarded in
      record {
        own = by (nat_lt s.layer.generation generation) refl tells.own;
        others = λ j x f k. others_based t.0.sides now j x left.told (tells.others j x f k.guarded) k;
      }
    where
      now : List Moment
      now = said (notes.Seen (suc i) generation) ∷ past

      t : Turn
      t = see_step generation id target empty_outbox s

      flag : nat_lt s.layer.generation generation ≡ not (generation == (terms past).generation (suc i))
      flag = sym (flag_is s.layer generation id) ∙ e

      not_not : (b : Bool) → not b ≡ true → b ≡ false
      not_not true f = untrue f
      not_not false f = refl

      empty : (present : Option PresentList) → ((n : ℕ) → is_list present n ≡ false) → is_some present ≡ true → false ≡ true
      empty None f p = p
      empty (Some list) f p = sym (f list.tail.list) ∙ (let z : nat_eq list.tail.list list.tail.list ≡ true = grind (arith, nat_tests) in z)

      by : (b : Bool) → nat_lt s.layer.generation generation ≡ b → Guarded ready (behind t.0.sides now) i t.1 → Based ready (behind t.0.sides now) i t.1
      by true f g =
          let left = see_left generation id target s in
          let none : (host_at now i).operation ≡ None = seen_none generation past i (not_not (generation == (terms past).generation (suc i)) (sym flag ∙ f)) in
          let no_reset : (serial : ℕ) → IsResetting (behind t.0.sides now) i serial → ⊥ = λ serial r. none_resets now i serial none (resetting_back now (behind t.0.sides now) i (told_fades t.0.sides now i left.told) serial r) in
          record {
            guarded = g;
            seated = λ u p. untrue (empty t.1.lists.slots.present (λ n. see_none generation id target n s f) p);
            armed = λ serial r. absurd (no_reset serial r);
            agent = λ k. record {
              pointer = λ u n serial l p response c. untrue (sym (see_none generation id target n s f) ∙ l);
              reset = λ serial r response c. absurd (no_reset serial r);
              states = λ u n serial l p response c. untrue (sym (see_none generation id target n s f) ∙ l);
            };
          }
      by false f g =
          subst (λ (x : Turn). Guarded ready (behind x.0.sides now) i x.1 → Based ready (behind x.0.sides now) i x.1) (sym (see_old generation id target s f))
          (λ k.
          let back = resetting_back past now i (note_fades (notes.Seen (suc i) generation) past i refl) in
          record {
            guarded = k;
            seated = λ u. h.seated u.1;
            armed = λ serial r. h.armed serial (back serial r);
            agent = λ z.
                agent_on past now i (λ n l. refl) (least _ _ refl) s s (λ u. u.1) (λ n l. l) (λ serial n p. p) (λ serial n p. p) back (λ u p. refl) (λ serial r. refl) (h.agent (record { serials = z.serials; sent = z.sent }));
          }) g
