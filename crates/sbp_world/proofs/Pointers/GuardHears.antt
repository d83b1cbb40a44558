-- What is carried on of an initiator, as it hears a packet, lets a transaction time out, and sees a generation.
use Rattle.sbp_world.proofs.Words.Std.{◌≡◌, refl, sym, ◌∙◌, ap, subst, ℕ, nat_lt, is_some, Bool, true, false, cond, List, [], ◌∷◌}
use Rattle.sbp_world.proofs.Words.Wire.{LabelParts, Layer, expiring_step, judging_step, seeing_step, seen_in_generation, judged_note, empty_outbox, Moment, said}
use Rattle.sbp_world.proofs.Words.Initiator.{Purpose, InitiatorState, Turn, expire_step, receive_step, interrupted, resets_told, see_step, seen_as, is_answered, is_unwritten, Call, IsCall, after, done, lets_expire, receives, answered_after, call_answers, known_if, loses_list}
use Rattle.sbp_world.proofs.Words.World.{IsCalled, behind, MayDrop, MayEnd, NonePoints, turn_of}
use Rattle.sbp_journal.specs.declared.note.Note.TheVariants as notes
use Rattle.sbp_initiator.proofs.Histories.Effects.{list_drops}
use Rattle.sbp_initiator.proofs.Histories.Known.{mark_law}
use Rattle.sbp_world.proofs.Hosts.Aimed.{aimed_carried}
use Rattle.sbp_world.proofs.Hosts.Alone.{call_same}
use Rattle.sbp_world.proofs.Hosts.Carries.{Tells}
use Rattle.sbp_world.proofs.Hosts.Layered.{AreTame, expire_left, receive_left}
use Rattle.sbp_world.proofs.Hosts.OrbTells as tell
use Rattle.sbp_world.proofs.Hosts.OrbTerms.{AreStill, orbs_apart, orbs_left, still_left}
use Rattle.sbp_world.proofs.Hosts.Passes.{judged_apart}
use Rattle.sbp_world.proofs.Wire.Deliver.{judging_stays}
use Rattle.sbp_world.proofs.Hosts.Lives.{expire_at, judge_at}
use Rattle.sbp_world.proofs.Hosts.Pointed.{Pointed, expired_called, judged_called, pointed_carried, judged_fit}
use Rattle.sbp_world.proofs.Hosts.PointerNotes.{Fit, pointer, tame_told}
use Rattle.sbp_world.proofs.Hosts.Pointing.{called_of, pointing_of, wrote_is}
use Rattle.sbp_world.proofs.Hosts.Shown.{IsHeard, IsShown}
use Rattle.sbp_world.proofs.Pointers.Dropping.{drops_of, expire_drops, receive_drops}
use Rattle.sbp_world.proofs.Pointers.Ending.{heard_ends, other_number}
use Rattle.sbp_world.proofs.Pointers.Finds.{alone, if_closed, if_expired, is_pended, loosened, stayed}
use Rattle.sbp_world.proofs.Pointers.Guarded.{Guarded, Kept, answer_of, answered_now, firsts, firsts_same, left_generation, not_false, not_true, others_guarded, then_answered}
use Rattle.sbp_world.proofs.Pointers.Passing.{Goes, Stand, current_goes, judged_goes, judged_stands, none_goes, timed_goes, told_goes, told_stands}
use Rattle.sbp_world.proofs.Pointers.Pends.{Pend}
use Rattle.sbp_world.proofs.Pointers.Waits.{Asks, ended_asks, ended_held, judged_asked, judged_count, judged_ends, judged_state, timed_count, timed_ends}
use Rattle.sbp_world.proofs.Pointers.PendHears.{expire_pends, receive_pends}
use Rattle.sbp_world.proofs.Pointers.Resetting.{ended_resets, judged_fades, note_fades, told_fades}
use Rattle.sbp_world.proofs.Pointers.Showing.{expire_lasts, judged_present, lasts_showing, receive_lasts}
use Rattle.sbp_world.proofs.Common.{untrue}

-- ---- what counts as answered behind a call

known_split : {A : Type 0} (lost marks old : Bool) → known_if lost marks old ≡ true → (marks ≡ true → A) → (old ≡ true → A) → A
known_split true marks old e f g = untrue e
known_split false true old e f g = f refl
known_split false false old e f g = g e

-- it did so before, or the call answers ORB_POINTER
pub answered_split : {A : Type 0} (ready : Bool) (i : ℕ) (s : InitiatorState) (call : Call) → (fit : IsCall call) → (own : IsCalled ready i s) → is_answered (done call (empty_outbox, s)).1.marks.pointing ≡ true → (call_answers call s ≡ true → A) → (is_answered s.marks.pointing ≡ true → A) → A
answered_split ready i s call fit own e f g =
    let calls = own.calls in
    let turn = after i ready calls in
    let now : is_answered (done call (empty_outbox, s)).1.marks.pointing ≡ answered_after i ready (call ∷ calls) =
    ap (λ (x : InitiatorState). is_answered x.marks.pointing) (sym (call_same call turn.0 empty_outbox turn.1 ∙ ap (λ (x : InitiatorState). (done call (empty_outbox, x)).1) own.is)) ∙ (mark_law i ready (call ∷ calls) (fit, own.fit)).answered in
    let before : answered_after i ready calls ≡ is_answered s.marks.pointing = sym (mark_law i ready calls own.fit).answered ∙ ap (λ (x : InitiatorState). is_answered x.marks.pointing) own.is in
    known_split (loses_list call turn) (call_answers call turn.1) (answered_after i ready calls) (sym now ∙ e)
    (λ h. f (ap (call_answers call) (sym own.is) ∙ h))
    (λ h. g (sym before ∙ h))

-- ---- behind a note that ends a transaction, and what is told

pended_split : {A : Type 0} (b : Bool) → (b ≡ true → A) → (b ≡ false → A) → A
pended_split true f g = f refl
pended_split false f g = g refl

module _ (ready : Bool) (past now : List Moment) (i : ℕ) (s : InitiatorState) (h : Guarded ready past i s) (goes : Goes past now i) (stands : Stand i past → Stand i now) (fit : Fit now → Fit past) (t : Turn) (tame : AreTame t.0.sides) (still : AreStill t.0.sides) (pointed : Pointed ready (behind t.0.sides now) i t.1) (pend : Pend (is_pended s.marks.pointing) (firsts past i) t.1) (cause : Fit past → drops_of i t.0.sides ≡ true → MayEnd (turn_of now) i) where
  abbrev later : List Moment
  later = behind t.0.sides now

  -- a list that is dropped has its ORB_POINTER answered
  drops : Fit past → drops_of i t.0.sides ≡ true → is_some (pointer later i) ≡ false → MayDrop now i
  drops f d e =
      let unwritten : is_unwritten t.1.marks.pointing ≡ true = not_false (is_unwritten t.1.marks.pointing) (sym e ∙ wrote_is pointed.cored) in
      record {
        cause = cause f d;
        answered = λ n packet p q g.
            let old = goes.fades n p in
            let written : is_unwritten s.marks.pointing ≡ false = not_true (is_unwritten s.marks.pointing) (sym (ap is_some old) ∙ wrote_is h.pointed.cored) in
            pended_split (is_pended s.marks.pointing) (λ x. untrue (sym (pend.stays x) ∙ unwritten))
            (λ x. goes.closed n (((h.kept f).answered (then_answered s.marks.pointing written x)).answered n old));
      }

  ends_kept : (is_answered t.1.marks.pointing ≡ true → Fit past → NonePoints now i) → Fit later → Kept later i t.1
  ends_kept answers f =
      let told = told_goes t.0.sides now i tame in
      let g = fit ((tame_told t.0.sides now i tame).fit f) in
      let k = h.kept g in
      record {
        answered = λ e. none_goes told (answers e g);
        current = current_goes told (current_goes goes k.current);
        told = told_stands t.0.sides now i tame still (drops g) (stands k.told);
      }

module _ (ready : Bool) where
  pub hears_guarded : (serial generation : ℕ) (bytes : List ℕ) (past : List Moment) (i : ℕ) (s : InitiatorState) → IsHeard past i serial generation bytes → IsShown past i s.target s.layer → IsShown (said (judged_note serial (receive_step generation bytes empty_outbox s).0) ∷ past) i s.target (judging_step s.layer generation bytes).1 → Guarded ready past i s → Tells (Guarded ready) (said (judged_note serial (receive_step generation bytes empty_outbox s).0) ∷ past) i (receive_step generation bytes empty_outbox s).1
  hears_guarded serial generation bytes past i s heard shown after_it h =
      let judged = (receive_step generation bytes empty_outbox s).0 in
      let now = said (judged_note serial judged) ∷ past in
      let t = (receive_step generation bytes empty_outbox s).1 in
      let l = (judging_step s.layer generation bytes).1 in
      let left = receive_left generation bytes s in
      let still = tell.receives generation bytes empty_outbox s tt in
      let tells = (pointed_carried ready).hears serial generation bytes past i s heard shown after_it h.pointed in
      let aimed = (aimed_carried ready).hears serial generation bytes past i s heard shown after_it h.aimed in
      let c = h.pointed.cored in
      let goes = judged_goes serial judged past i in
      let pend = receive_pends (is_pended s.marks.pointing) (firsts past i) s (alone s h.pend) (stayed s h.pend) generation bytes (if_closed s (pointing_of c) (alone s h.pend) (called_of c) generation bytes) in
      let own = c.own.called in
      let answers : is_answered t.1.marks.pointing ≡ true → Fit past → NonePoints now i = λ e f.
      answered_split ready i s (receives generation bytes) tt own e
      (λ g. answered_now ready serial generation bytes past i s after_it c h.aimed.aims (h.pointed.points f) (answer_of (judging_step s.layer generation bytes).0 s g))
      (λ g. none_goes goes ((h.kept f).answered g)) in
      record {
        own = record {
          pointed = tells.own;
          aimed = aimed.own;
          pend = firsts_same past (behind t.0.sides now) i t.1 (still_left t.0.sides now i still ∙ orbs_apart (judged_note serial judged) past i (judged_apart serial judged i)) (loosened t.1 pend);
          generation = left_generation l s.target t.1.layer left.layer ∙ after_it.generation ∙ sym (told_goes t.0.sides now i left.told).generation;
          kept = ends_kept ready past now i s h goes (judged_stands serial judged past i) (judged_fit serial judged past) t left.told still tells.own pend (λ f. heard_ends ready serial generation bytes past i s heard after_it c h.aimed.aims (h.asks f) (h.resets f) h.shown h.generation) answers;
          asks = λ f.
              subst (λ x. Asks (behind t.0.sides now) i x t.1.layer) (sym left.target_is)
              (ended_asks past (judged_note serial judged) i s.target s.layer l (judged_ends serial judged past) (judged_count serial judged past) (judged_asked serial judged past) (judged_state serial judged past)
              (h.asks (judged_fit serial judged past ((tame_told t.0.sides now i left.told).fit f))) (judged_called ready s.layer generation bytes (called_of c)) (judging_stays s.layer generation bytes)
              (λ m q a. judge_at s.layer generation bytes s.target m q (called_of c) a) after_it t.0.sides left.told t.1.layer left.layer);
          resets = λ f.
              let g = judged_fit serial judged past ((tame_told t.0.sides now i left.told).fit f) in
              ended_resets past (behind t.0.sides now) i s t (λ u e. judged_fades serial judged past i u (told_fades t.0.sides now i left.told u e)) tells.own.cored left.target_is (h.resets g)
              (ended_held past (judged_note serial judged) i s.target s.layer l (judged_ends serial judged past) (judged_count serial judged past) (judged_asked serial judged past) (judged_state serial judged past)
              (h.asks g) (judged_called ready s.layer generation bytes (called_of c)) (judging_stays s.layer generation bytes)
              (λ m q a. judge_at s.layer generation bytes s.target m q (called_of c) a) after_it t.0.sides left.told t.1.layer left.layer);
          shown = lasts_showing past now i s t (judged_present serial judged past i) left.told still (receive_lasts i generation bytes s) h.shown;
        };
        others = λ j x e g. others_guarded ready now t.0.sides left.told still j x (tells.others j x e g.pointed) g (receive_drops j generation bytes s (λ d. other_number i j s.number c.own.number e));
      }

  pub expires_guarded : (serial : ℕ) (label : LabelParts) (past : List Moment) (i : ℕ) (s : InitiatorState) → IsShown (said (notes.TimedOut serial) ∷ past) i s.target (expiring_step s.layer s.target label).1 → Guarded ready past i s → Tells (Guarded ready) (said (notes.TimedOut serial) ∷ past) i (expire_step label empty_outbox s).1
  expires_guarded serial label past i s after_it h =
      let now = said (notes.TimedOut serial) ∷ past in
      let t = (expire_step label empty_outbox s).1 in
      let l = (expiring_step s.layer s.target label).1 in
      let left = expire_left label s in
      let still = tell.expires label empty_outbox s tt in
      let tells = (pointed_carried ready).expires serial label past i s after_it h.pointed in
      let aimed = (aimed_carried ready).expires serial label past i s after_it h.aimed in
      let c = h.pointed.cored in
      let goes = timed_goes serial past i in
      let pend = expire_pends (is_pended s.marks.pointing) (firsts past i) s (alone s h.pend) (stayed s h.pend) label (if_expired s (pointing_of c) (alone s h.pend) (called_of c) label) in
      let own = c.own.called in
      let answers : is_answered t.1.marks.pointing ≡ true → Fit past → NonePoints now i = λ e f.
      answered_split ready i s (lets_expire label) tt own e (λ g. untrue g) (λ g. none_goes goes ((h.kept f).answered g)) in
      record {
        own = record {
          pointed = tells.own;
          aimed = aimed.own;
          pend = firsts_same past (behind t.0.sides now) i t.1 (still_left t.0.sides now i still ∙ orbs_left (notes.TimedOut serial) past i refl) (loosened t.1 pend);
          generation = left_generation l s.target t.1.layer left.layer ∙ after_it.generation ∙ sym (told_goes t.0.sides now i left.told).generation;
          kept = ends_kept ready past now i s h goes (λ k. (tt, k)) (λ f. record { serials = f.serials; sent = f.sent }) t left.told still tells.own pend (λ f d. untrue (sym (expire_drops i label s) ∙ d)) answers;
          asks = λ f.
              let g = (tame_told t.0.sides now i left.told).fit f in
              subst (λ x. Asks (behind t.0.sides now) i x t.1.layer) (sym left.target_is)
              (ended_asks past (notes.TimedOut serial) i s.target s.layer l (timed_ends serial past) (timed_count serial past) refl refl
              (h.asks (record { serials = g.serials; sent = g.sent })) (expired_called ready s.layer s.target label (called_of c)) (after_it.generation ∙ goes.generation ∙ sym h.generation)
              (λ m q a. expire_at s.layer s.target label s.target m q (called_of c) a) after_it t.0.sides left.told t.1.layer left.layer);
          resets = λ f.
              let x = (tame_told t.0.sides now i left.told).fit f in
              let g : Fit past = record { serials = x.serials; sent = x.sent } in
              ended_resets past (behind t.0.sides now) i s t (λ u e. note_fades (notes.TimedOut serial) past i refl u (told_fades t.0.sides now i left.told u e)) tells.own.cored left.target_is (h.resets g)
              (ended_held past (notes.TimedOut serial) i s.target s.layer l (timed_ends serial past) (timed_count serial past) refl refl
              (h.asks g) (expired_called ready s.layer s.target label (called_of c)) (after_it.generation ∙ goes.generation ∙ sym h.generation)
              (λ m q a. expire_at s.layer s.target label s.target m q (called_of c) a) after_it t.0.sides left.told t.1.layer left.layer);
          shown = lasts_showing past now i s t refl left.told still (expire_lasts i label s) h.shown;
        };
        others = λ j x e g. others_guarded ready now t.0.sides left.told still j x (tells.others j x e g.pointed) g (expire_drops j label s);
      }

-- ---- a generation is seen

-- what is left: nothing, or what was
pub data SawAs (s : InitiatorState) (generation : ℕ) (t : Turn) : Type 0 where
  anew : nat_lt s.layer.generation generation ≡ true → is_unwritten t.1.marks.pointing ≡ true → t.1.layer.generation ≡ generation → SawAs s generation t
  as_before : nat_lt s.layer.generation generation ≡ false → t.0.sides ≡ [] → t.1.marks.pointing ≡ s.marks.pointing → t.1.layer.generation ≡ s.layer.generation → SawAs s generation t

saw_by : (c : Bool) (generation id target : ℕ) (s : InitiatorState) → nat_lt s.layer.generation generation ≡ c → SawAs s generation (seen_as (cond c (true, seen_in_generation s.layer generation id) (false, s.layer)) target empty_outbox s)
saw_by true generation id target s e =
    let u = record s { layer = seen_in_generation s.layer generation id } in
    let d = list_drops (resets_told u.number u.operation u.states empty_outbox) (interrupted u target) in
    anew e refl (ap (λ (l : Layer Purpose). l.generation) d.layer)
saw_by false generation id target s e = as_before e refl refl refl

pub saw : (generation id target : ℕ) (s : InitiatorState) → SawAs s generation (see_step generation id target empty_outbox s)
unfolding see_step seeing_step
saw generation id target s = saw_by (nat_lt s.layer.generation generation) generation id target s refl
