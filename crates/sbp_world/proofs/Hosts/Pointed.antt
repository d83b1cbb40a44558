-- In every run the ORB_POINTER write that an initiator's host names is the one under way in its layer, where one is.
use Rattle.sbp_world.proofs.Words.Std.{arith, ◌≡◌, refl, sym, ◌∙◌, ap, subst, ℕ, suc, ◌<◌, ◌==◌, is_some, not, Bool, true, false, List, [], ◌∷◌, Option, Some, None, Result, Ok, Err}
use Rattle.sbp_world.proofs.Words.Wire.{LabelParts, transaction, Stale, Layer, expired_at, expiring_in, expiring_step, judging_step, peer_at, peer_place, seeing_step, PeerPlace, expire_place, judged_note, empty_outbox, Moment, asked, said, Kind, Sending, Transaction, Held, Terms, free, terms, waits, Judged, Action, Event, Note, Side}
use Rattle.sbp_world.proofs.Words.Initiator.{Purpose, InitiatorState, act_step, Turn, new_state, expire_step, expired_as, receive_step, see_step, is_unwritten}
use Rattle.sbp_world.proofs.Words.Laws.{event_of}
use Rattle.sbp_world.proofs.Words.World.{behind}
use Rattle.label_table.specs.History as wire
use Rattle.sbp_initiator.specs.declared.purpose.Pointing.TheVariants as pointings
use Rattle.sbp_initiator.specs.declared.purpose.Purpose.TheVariants as purposes
use Rattle.sbp_journal.specs.declared.cause.Judged.TheVariants as judgements
use Rattle.sbp_journal.specs.declared.event.Event.TheVariants as events
use Rattle.sbp_journal.specs.declared.note.Note.TheVariants as notes
use Rattle.sbp_world.proofs.Wire.Agrees.{got_agrees, ignored_agrees, timed_agrees}
use Rattle.sbp_world.proofs.Wire.Deliver.{judging_stays}
use Rattle.sbp_world.proofs.Wire.Expires.{stale_same}
use Rattle.sbp_world.proofs.Hosts.ActLeft.{act_left}
use Rattle.sbp_world.proofs.Hosts.Carries.{Carries, Does, IsLineOf, IsNoAct, Nothing, Tells, is_apart}
use Rattle.sbp_world.proofs.Hosts.Held.{got_waits, ignored_quiet, timed_waits}
use Rattle.sbp_world.proofs.Hosts.Hosted.{Cored, cored_carried, first_cored}
use Rattle.sbp_world.proofs.Hosts.Layered.{AreTame, expire_left, receive_left}
use Rattle.sbp_world.proofs.Hosts.Lives.{At, Called, expire_at, judge_at}
use Rattle.sbp_world.proofs.Hosts.PointActs.{asking_points}
use Rattle.sbp_world.proofs.Hosts.PointHears.{Ends, ended_points, none_points, sent_points, still_points}
use Rattle.sbp_world.proofs.Hosts.PointSees.{SeenAs, anew, as_before, see_left}
use Rattle.sbp_world.proofs.Hosts.PointerNotes.{Fit, apart_passes, got_fades_now, opens, pointer, seen_fades_now, tame_told, timed_fades_now}
use Rattle.sbp_world.proofs.Hosts.Pointing.{Points, called_of, written_at, wrote_at, wrote_is}
use Rattle.sbp_world.proofs.Hosts.Shown.{IsElsewhere, IsHeard, IsShown}
use Rattle.sbp_world.proofs.Pointers.Pends.{unwritten_not}
use Rattle.sbp_world.proofs.Common.{least}

pub record Pointed (ready : Bool) (past : List Moment) (i : ℕ) (s : InitiatorState) : Type 0 where
  pub cored : Cored ready past i s
  pub points : Fit past → Points past i s.target s.layer

-- a time-out leaves a layer in its generation
pub expired_stays : (k : ℕ) (layer : Layer Purpose) (r : Result (Option Purpose) Stale × PeerPlace Purpose) → (expired_at k layer r).1.generation ≡ layer.generation
expired_stays k layer (Ok purpose, place) = refl
expired_stays k layer (Err stale, place) = refl

pub expires_in : (k : Option ℕ) (layer : Layer Purpose) (label : LabelParts) → (expiring_in k layer label).1.generation ≡ layer.generation
expires_in None layer label = refl
expires_in (Some k) layer label = expired_stays k layer (expire_place (peer_at layer k) label)

pub expiring_stays : (layer : Layer Purpose) (peer : ℕ) (label : LabelParts) → (expiring_step layer peer label).1.generation ≡ layer.generation
unfolding expiring_step
expiring_stays layer peer label = expires_in (peer_place peer layer) layer label

-- a generation is seen
abbrev sighted : ℕ → ℕ → List Moment → List Moment
sighted generation i past = said (notes.Seen (suc i) generation) ∷ past

-- the notes that end transactions
judged_ends : (serial : ℕ) (judged : Judged) (past : List Moment) (i : ℕ) → Ends past (judged_note serial judged) i
judged_ends serial judgements.Got past i =
    let t : Terms = terms past in
    record { fades = got_fades_now serial past i; held = λ v kind e. got_waits (t.sent serial) serial t v kind e; count = least _ _ (got_agrees (t.sent serial) serial t).count; sent = λ n. ap (λ (f : ℕ → Option Sending). f n) (got_agrees (t.sent serial) serial t).sent }
judged_ends serial (judgements.Ignored cause) past i =
    let t : Terms = terms past in
    record { fades = λ s f. f; held = λ v kind e. ap (λ (h : Transaction → Held). h v) (ignored_quiet (t.sent serial) cause serial t).held; count = least _ _ (ignored_agrees (t.sent serial) cause serial t).count; sent = λ n. ap (λ (f : ℕ → Option Sending). f n) (ignored_agrees (t.sent serial) cause serial t).sent }

pub judged_fit : (serial : ℕ) (judged : Judged) (past : List Moment) → Fit (said (judged_note serial judged) ∷ past) → Fit past
judged_fit serial judgements.Got past f = record { serials = f.serials; sent = f.sent }
judged_fit serial (judgements.Ignored cause) past f = record { serials = f.serials; sent = f.sent }

timed_ends : (serial : ℕ) (past : List Moment) (i : ℕ) → Ends past (notes.TimedOut serial) i
timed_ends serial past i =
    let t : Terms = terms past in
    record { fades = timed_fades_now serial past i; held = λ v kind e. timed_waits (t.sent serial) t v kind e; count = least _ _ (timed_agrees (t.sent serial) t).count; sent = λ n. ap (λ (f : ℕ → Option Sending). f n) (timed_agrees (t.sent serial) t).sent }

module _ (ready : Bool) where
  -- a write under way there counts as written
  wrote : {past : List Moment} {i : ℕ} {s : InitiatorState} → Cored ready past i s → (number list : ℕ) → At s.layer s.target number (Some (purposes.Pointer list)) → is_some (pointer past i) ≡ true
  wrote c number list a = wrote_at c number list a

  wrote_to : {past : List Moment} {i : ℕ} {s : InitiatorState} → Cored ready past i s → (target : ℕ) → s.target ≡ target → (number list : ℕ) → At s.layer target number (Some (purposes.Pointer list)) → is_some (pointer past i) ≡ true
  wrote_to {s = s} c target e number list a = wrote_at c number list (subst (λ x. At s.layer x number (Some (purposes.Pointer list))) (sym e) a)

  -- ---- what others tell and do

  others_pointed : (past : List Moment) (told : List Side) → AreTame told → (j : ℕ) (x : InitiatorState) → Cored ready (behind told past) j x → Pointed ready past j x → Pointed ready (behind told past) j x
  others_pointed past told tame j x c h =
      let k = tame_told told past j tame in
      record {
        cored = c;
        points = λ f. still_points past (behind told past) j x.target x.layer k.fades (λ g m. ap (λ (t : Terms). t.held (transaction g (suc j) 0 m)) k.wire) (least _ _ (ap (λ (t : Terms). t.count) k.wire)) (λ n l. ap (λ (t : Terms). t.sent n) k.wire) (wrote c) (h.points (k.fit f));
      }

  asked_pointed : (line : ℕ) (event : Event) (past : List Moment) (i : ℕ) (s : InitiatorState) → Pointed ready past i s → Pointed ready (asked line event ∷ past) i s
  asked_pointed line event past i s h =
      let c = (cored_carried ready).asked line event past i s h.cored in
      let o = opens event (terms past) in
      record {
        cored = c;
        points = λ f. still_points past (asked line event ∷ past) i s.target s.layer (λ n e. e) (λ g m. ap (λ (x : Transaction → Held). x (transaction g (suc i) 0 m)) o.held) (least _ _ o.count) (λ n l. ap (λ (f : ℕ → Option Sending). f n) o.sent) (wrote c) (h.points (record { serials = f.serials; sent = f.sent }));
      }

  apart_pointed : (note : Note) (past : List Moment) (i : ℕ) (s : InitiatorState) → is_apart i note ≡ true → IsElsewhere past i note → Pointed ready past i s → Pointed ready (said note ∷ past) i s
  apart_pointed note past i s e w h =
      let c = (cored_carried ready).apart note past i s e w h.cored in
      let x = apart_passes note past i e w in
      record { cored = c; points = λ f. still_points past (said note ∷ past) i s.target s.layer x.fades x.held x.count (x.sent f) (wrote c) (h.points (x.fit f)) }

  sent_pointed : (serial generation from to : ℕ) (bytes : List ℕ) (past : List Moment) (i : ℕ) (s : InitiatorState) → IsNoAct i (event_of past) → Pointed ready past i s → Pointed ready (said (notes.Sent serial generation from to bytes) ∷ past) i s
  sent_pointed serial generation from to bytes past i s n h =
      let c = (cored_carried ready).sent serial generation from to bytes past i s n h.cored in
      record { cored = c; points = λ f. sent_points serial generation from to bytes past i s.target s.layer n f (wrote c) (h.points (record { serials = f.serials.1; sent = f.sent.1 })) }

  -- ---- what it hears

  pub judged_called : (layer : Layer Purpose) (generation : ℕ) (bytes : List ℕ) → Called layer → Called (judging_step layer generation bytes).1
  judged_called layer generation bytes c = record { node = c.node; calls = wire.judges generation bytes ∷ c.calls; is = ap (λ (l : Layer Purpose). (judging_step l generation bytes).1) c.is }

  pub expired_called : (layer : Layer Purpose) (peer : ℕ) (label : LabelParts) → Called layer → Called (expiring_step layer peer label).1
  expired_called layer peer label c = record { node = c.node; calls = wire.lets_expire peer label ∷ c.calls; is = ap (λ (l : Layer Purpose). (expiring_step l peer label).1) c.is }

  hears_pointed : (serial generation : ℕ) (bytes : List ℕ) (past : List Moment) (i : ℕ) (s : InitiatorState) → IsHeard past i serial generation bytes → IsShown past i s.target s.layer → IsShown (said (judged_note serial (receive_step generation bytes empty_outbox s).0) ∷ past) i s.target (judging_step s.layer generation bytes).1 → Pointed ready past i s → Tells (Pointed ready) (said (judged_note serial (receive_step generation bytes empty_outbox s).0) ∷ past) i (receive_step generation bytes empty_outbox s).1
  hears_pointed serial generation bytes past i s heard shown after h =
      let judged = (receive_step generation bytes empty_outbox s).0 in
      let note = judged_note serial judged in
      let t = (receive_step generation bytes empty_outbox s).1 in
      let l = (judging_step s.layer generation bytes).1 in
      let left = receive_left generation bytes s in
      let tells = (cored_carried ready).hears serial generation bytes past i s heard shown after h.cored in
      let c = called_of h.cored in
      record {
        own = record {
          cored = tells.own;
          points = λ f.
              let told = tame_told t.0.sides (said note ∷ past) i left.told in
              subst (λ x. Points (behind t.0.sides (said note ∷ past)) i x t.1.layer) (sym left.target_is)
              (ended_points past note i s.target s.layer l (judged_ends serial judged past i) (h.points (judged_fit serial judged past (told.fit f))) (judged_called s.layer generation bytes c) (judging_stays s.layer generation bytes)
              (λ m q a. judge_at s.layer generation bytes s.target m q c a) after t left (wrote_to tells.own s.target left.target_is));
        };
        others = λ j x e g. others_pointed (said note ∷ past) t.0.sides left.told j x (tells.others j x e g.cored) g;
      }

  expires_pointed : (serial : ℕ) (label : LabelParts) (past : List Moment) (i : ℕ) (s : InitiatorState) → IsShown (said (notes.TimedOut serial) ∷ past) i s.target (expiring_step s.layer s.target label).1 → Pointed ready past i s → Tells (Pointed ready) (said (notes.TimedOut serial) ∷ past) i (expire_step label empty_outbox s).1
  expires_pointed serial label past i s after h =
      let note = notes.TimedOut serial in
      let t = (expire_step label empty_outbox s).1 in
      let l = (expiring_step s.layer s.target label).1 in
      let left = expire_left label s in
      let tells = (cored_carried ready).expires serial label past i s after h.cored in
      let c = called_of h.cored in
      record {
        own = record {
          cored = tells.own;
          points = λ f.
              let told = tame_told t.0.sides (said note ∷ past) i left.told in
              let g = told.fit f in
              subst (λ x. Points (behind t.0.sides (said note ∷ past)) i x t.1.layer) (sym left.target_is)
              (ended_points past note i s.target s.layer l (timed_ends serial past i) (h.points (record { serials = g.serials; sent = g.sent })) (expired_called s.layer s.target label c) (expiring_stays s.layer s.target label)
              (λ m q a. expire_at s.layer s.target label s.target m q c a) after t left (wrote_to tells.own s.target left.target_is));
        };
        others = λ j x e g. others_pointed (said note ∷ past) t.0.sides left.told j x (tells.others j x e g.cored) g;
      }

  pub stale_is : (label : LabelParts) (s : InitiatorState) → (expire_step label empty_outbox s).0 ≡ false → (expire_step label empty_outbox s).1.1 ≡ s
  unfolding expire_step
  stale_is label s e = by_result (expiring_step s.layer s.target label) refl e
    where
      untrue : {A : Type 0} → true ≡ false → A
      untrue e = absurd (differ e)
        where
          differ : true ≡ false → ⊥
          differ e = cc

      by_result : (r : Result (Option Purpose) Stale × Layer Purpose) → expiring_step s.layer s.target label ≡ r → (expired_as r empty_outbox s).0 ≡ false → (expired_as r empty_outbox s).1.1 ≡ s
      by_result (Ok purpose, layer) r e = untrue e
      by_result (Err stale, layer) r e = ap (λ (l : Layer Purpose). record s { layer = l }) (stale_same s.layer s.target label stale layer r)

  -- ---- it sees a generation

  sees_pointed : (generation id target : ℕ) (past : List Moment) (i : ℕ) (s : InitiatorState) → (seeing_step s.layer generation id).0 ≡ not (generation == (terms past).generation (suc i)) → Pointed ready past i s → Tells (Pointed ready) (said (notes.Seen (suc i) generation) ∷ past) i (see_step generation id target empty_outbox s)
  sees_pointed generation id target past i s e h =
      let note = notes.Seen (suc i) generation in
      let t = see_step generation id target empty_outbox s in
      let left = see_left generation id target s in
      let tells = (cored_carried ready).sees generation id target past i s e h.cored in
      record {
        own = record { cored = tells.own; points = λ f. own_by t tells.own left.told left.seen f };
        others = λ j x d g. others_pointed (said note ∷ past) t.0.sides left.told j x (tells.others j x d g.cored) g;
      }
    where
      own_by : (t : Turn) → Cored ready (behind t.0.sides (sighted generation i past)) i t.1 → AreTame t.0.sides → SeenAs s t → Fit (behind t.0.sides (sighted generation i past)) → Points (behind t.0.sides (sighted generation i past)) i t.1.target t.1.layer
      own_by t c tame (anew u) f =
          let told = tame_told t.0.sides (sighted generation i past) i tame in
          let g = told.fit f in
          let k = h.points (record { serials = g.serials; sent = g.sent }) in
          none_points (behind t.0.sides (sighted generation i past)) i t.1.target t.1.layer (λ m list a. unwritten_not (sym u ∙ written_at c m list a)) (wrote_is c ∙ ap (λ p. not (is_unwritten p)) u)
          (λ x m kind n w.
          let b = k.older x m kind n (sym (ap (λ (y : Terms). y.held (transaction x (suc i) 0 m)) told.wire) ∙ w) in
          let d = ap (λ (y : Terms). y.count) told.wire in omega arith)
      own_by t c tame (as_before layer target none) f =
          let told = tame_told t.0.sides (sighted generation i past) i tame in
          let g = told.fit f in
          let k = h.points (record { serials = g.serials; sent = g.sent }) in
          let k1 = subst (λ (l : Layer Purpose). Points past i t.1.target l) (sym layer) (subst (λ x. Points past i x s.layer) (sym target) k) in
          still_points past (behind t.0.sides (sighted generation i past)) i t.1.target t.1.layer (λ n p. seen_fades_now generation past i n (told.fades n p)) (λ x m. ap (λ (y : Terms). y.held (transaction x (suc i) 0 m)) told.wire) (least _ _ (ap (λ (y : Terms). y.count) told.wire)) (λ n l. ap (λ (y : Terms). y.sent n) told.wire) (wrote c) k1

  -- ---- it acts

  acts_pointed : (action : Action) (past : List Moment) (i : ℕ) (s : InitiatorState) → event_of past ≡ Some (events.Act i action) → IsLineOf action → (act_step action empty_outbox s).0 ≡ None → IsShown past i s.target s.layer → Pointed ready past i s → Does (Pointed ready) past i (act_step action empty_outbox s).1
  acts_pointed action past i s under fit done shown h =
      let t = (act_step action empty_outbox s).1 in
      let left = act_left action s done in
      let does = (cored_carried ready).acts action past i s under fit done shown tt h.cored in
      let told = tame_told t.0.sides past i left.told in
      record {
        others = λ j x e g. others_pointed past t.0.sides left.told j x (does.others j x e g.cored) g;
        quiet = λ none. record {
          cored = does.quiet none;
          points = λ f.
              let k = subst (λ (l : Layer Purpose). Points past i t.1.target l) (sym (left.quiet none)) (subst (λ x. Points past i x s.layer) (sym left.target_is) (h.points (told.fit f))) in
              still_points past (behind t.0.sides past) i t.1.target t.1.layer told.fades (λ g m. ap (λ (y : Terms). y.held (transaction g (suc i) 0 m)) told.wire) (least _ _ (ap (λ (y : Terms). y.count) told.wire)) (λ n l. ap (λ (y : Terms). y.sent n) told.wire) (wrote (does.quiet none)) k;
        };
        asking = λ packet one serial generation injected q. record {
          cored = does.asking packet one serial generation injected q;
          points = λ f.
              let now = said (notes.Sent serial generation (suc i) 0 packet.bytes) ∷ behind t.0.sides past in
              subst (λ x. Points now i x t.1.layer) (sym left.target_is)
              (asking_points ready action past i s t under shown h.cored (h.points (told.fit (record { serials = f.serials.1; sent = f.sent.1 }))) left packet one serial generation injected q f
              (wrote_to (does.asking packet one serial generation injected q) s.target left.target_is));
        };
      }

  pub pointed_carried : Carries Nothing (Pointed ready)
  pointed_carried = record {
    known = λ line event past i s h. tt;
    number = λ past i s h. h.cored.own.number;
    asked = asked_pointed;
    apart = apart_pointed;
    sent = sent_pointed;
    hears = hears_pointed;
    expires = expires_pointed;
    stale = λ label past i s e h. subst (λ (x : InitiatorState). Pointed ready past i x) (sym (stale_is label s e)) h;
    sees = sees_pointed;
    acts = λ action past i s under fit done shown known h. acts_pointed action past i s under fit done shown h;
  }

-- ---- the beginning

pub free_not : {A : Type 0} (kind : Kind) (serial : ℕ) → free ≡ waits kind serial → A
free_not kind serial e = absurd (differ kind serial e)
  where
    differ : (kind : Kind) (serial : ℕ) → free ≡ waits kind serial → ⊥
    differ kind serial e = cc

pub first_marks : (i : ℕ) (ready : Bool) → (new_state i ready).marks.pointing ≡ pointings.Unwritten
unfolding new_state
first_marks i ready = refl

pub first_pointed : (line i initiators : ℕ) (ready : Bool) → i < initiators → Pointed ready (said (notes.Begin initiators ready) ∷ asked line (events.Begin initiators ready) ∷ []) i (new_state i ready)
first_pointed line i initiators ready b =
    let c = first_cored line i initiators ready b in
    record {
      cored = c;
      points = λ f. none_points _ i (new_state i ready).target (new_state i ready).layer (λ m list a. unwritten_not (sym (first_marks i ready) ∙ written_at c m list a)) (wrote_is c ∙ ap (λ p. not (is_unwritten p)) (first_marks i ready)) (λ g m kind serial e. free_not kind serial e);
    }
