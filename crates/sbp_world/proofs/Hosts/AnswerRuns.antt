-- In every run the answer of each good status that an initiator took is what its buffer held.
use Rattle.sbp_world.proofs.Words.Std.{nat_tests, arith, ◌≡◌, refl, sym, ◌∙◌, ap, subst, ℕ, zero, suc, ◌==◌, Bool, true, false, List, [], ◌∷◌, length, replicate, Some, None, Ok}
use Rattle.sbp_world.proofs.Words.Wire.{judged_note, buffer_of, empty_outbox, Moment, asked, said, Judged, Action, Cmd, Note}
use Rattle.sbp_world.proofs.Words.Initiator.{own, AreCalls, Call, laws_after, no_answer, may_prepare, AnswerPlan, act_step, plan_of, Turn, new_state, expire_step, receive_step, see_step, InitiatorState}
use Rattle.sbp_world.proofs.Words.Laws.{action_notes, append_notes, new_list, new_number, cmd_of, event_of}
use Rattle.sbp_world.proofs.Words.World.{TakenLaw, behind, AreRows}
use Rattle.std.proofs.Common.{slice_set}
use Rattle.sbp_journal.specs.declared.cause.Judged.TheVariants as judgements
use Rattle.sbp_journal.specs.declared.event.Action.TheVariants as actions
use Rattle.sbp_journal.specs.declared.event.Event.TheVariants as events
use Rattle.sbp_journal.specs.declared.note.Note.TheVariants as notes
use Rattle.sbp_world.proofs.Hosts.Acts.{Goes}
use Rattle.sbp_world.proofs.Hosts.AnswerPlans.{PlansHold, names, names_of, plans_appended}
use Rattle.sbp_world.proofs.Hosts.AnswerTakes.{taken_answer}
use Rattle.sbp_world.proofs.Hosts.AnswerTold.{AllTaken, Answers, AreUntaken, apart_untaken, taken_on, taken_there, taken_told, untaken_told}
use Rattle.sbp_world.proofs.Hosts.ByteActs.{AreKept, fresh, low, others_kept, rest_kept, small, told_kept}
use Rattle.sbp_world.proofs.Hosts.ByteRuns.{Bytes, bytes_carried, first, kept_told}
use Rattle.sbp_world.proofs.Hosts.ByteTerms.{byte_terms, bytes_kept}
use Rattle.sbp_world.proofs.Hosts.Carried.{between_runs, of_runs}
use Rattle.sbp_world.proofs.Hosts.Carries.{Carries, Does, IsLineOf, Tells, is_apart}
use Rattle.sbp_world.proofs.Hosts.Layered.{AreTame, expire_left, receive_left}
use Rattle.sbp_world.proofs.Hosts.OrbFits.{IsFull}
use Rattle.sbp_world.proofs.Hosts.OrbRuns.{Rowed, goes, rows_known}
use Rattle.sbp_world.proofs.Hosts.OrbTells as tell
use Rattle.sbp_world.proofs.Hosts.OrbTerms.{AreStill}
use Rattle.sbp_world.proofs.Hosts.Passes.{judged_apart}
use Rattle.sbp_world.proofs.Hosts.PlanActs.{append_plans, plain_plans, put_plans}
use Rattle.sbp_world.proofs.Hosts.PlanWalks.{expire_plans, receive_plans, see_plans}
use Rattle.sbp_world.proofs.Hosts.PointSees.{see_left}
use Rattle.sbp_world.proofs.Hosts.Shown.{IsHeard}
use Rattle.sbp_world.proofs.Hosts.TakenWalks.{AllSay, expire_says, receive_says, see_says}
use Rattle.sbp_world.proofs.Hosts.Telling.{action_law}
use Rattle.sbp_world.proofs.Pointers.GuardActs.{ok_of as is_ok_slot}

pub record Answered (ready : Bool) (past : List Moment) (i : ℕ) (s : InitiatorState) : Type 0 where
  pub bytes : Bytes ready past i s
  pub plans : PlansHold (names past i) s.lists.answers
  pub taken : AllTaken past i

-- ---- what is told

plans_same : (past now : List Moment) (i : ℕ) (old new : List AnswerPlan) → names now i ≡ names past i → new ≡ old → PlansHold (names past i) old → PlansHold (names now i) new
plans_same past now i old new e f h = subst (λ t. PlansHold t new) (sym e) (subst (PlansHold (names past i)) (sym f) h)

judged_names : (serial : ℕ) (judged : Judged) (past : List Moment) (i : ℕ) → names (said (judged_note serial judged) ∷ past) i ≡ names past i
judged_names serial judgements.Got past i = refl
judged_names serial (judgements.Ignored cause) past i = refl

apart_names : (note : Note) (past : List Moment) (i : ℕ) → is_apart i note ≡ true → names (said note ∷ past) i ≡ names past i
apart_names (notes.Got serial) past i e = refl
apart_names (notes.Append j n k cdb buffer) past i e = ap names_of (bytes_kept (notes.Append j n k cdb buffer) past i e)
apart_names note past i e = ap names_of (bytes_kept note past i refl)

module _ (ready : Bool) where
  -- what is told and left in a call
  tells_on : (past : List Moment) (i : ℕ) (t : Turn) → AreTame t.0.sides → AreStill t.0.sides → ((j : ℕ) → AllSay (Answers past j) t.0.sides) → Tells (Bytes ready) past i t → PlansHold (names past i) t.1.lists.answers → AllTaken past i → Tells (Answered ready) past i t
  tells_on past i t tame still says bytes plans taken = record {
    own = record {
      bytes = bytes.own;
      plans = plans_same past (behind t.0.sides past) i t.1.lists.answers t.1.lists.answers (ap names_of (kept_told t.0.sides past i tame still)) refl plans;
      taken = taken_told past i t.0.sides past refl refl (says i) tame still taken;
    };
    others = λ j x d k. record {
      bytes = bytes.others j x d k.bytes;
      plans = plans_same past (behind t.0.sides past) j x.lists.answers x.lists.answers (ap names_of (kept_told t.0.sides past j tame still)) refl k.plans;
      taken = taken_told past j t.0.sides past refl refl (says j) tame still k.taken;
    };
  }

  -- an initiator tells of no other one
  none_other : (past : List Moment) (i j : ℕ) (number : ℕ) → number ≡ i → (j == i) ≡ false → (n k : ℕ) (answer : List ℕ) → Answers past j number n k answer
  none_other past i j number e f n k answer same = absurd (grind (arith, nat_tests))

  says_state : (i : ℕ) (calls : List Call) (called : AreCalls calls) (serial generation : ℕ) (bytes : List ℕ) (past : List Moment) → IsHeard past i serial generation bytes → (let x = (laws_after i ready calls).1 in Answered ready past i x → (j : ℕ) (b : Bool) → (j == i) ≡ b → AllSay (Answers (said (judged_note serial (receive_step generation bytes empty_outbox x).0) ∷ past) j) (receive_step generation bytes empty_outbox x).1.0.sides)
  says_state i calls called serial generation bytes past heard k j true e =
      let x = (laws_after i ready calls).1 in
      let judged = (receive_step generation bytes empty_outbox x).0 in
      let now = said (judged_note serial judged) ∷ past in
      let plans = plans_same past now i x.lists.answers x.lists.answers (judged_names serial judged past i) refl k.plans in
      let same : i ≡ j = grind (arith, nat_tests) in
      subst (λ y. AllSay (Answers now y) (receive_step generation bytes empty_outbox x).1.0.sides) same
      (receive_says (Answers now i) generation bytes x (λ p f fifo block t lists e same. taken_answer ready i calls called past serial generation bytes heard k.bytes plans p f fifo block t lists e))
  says_state i calls called serial generation bytes past heard k j false e =
      let x = (laws_after i ready calls).1 in
      let now = said (judged_note serial (receive_step generation bytes empty_outbox x).0) ∷ past in
      receive_says (Answers now j) generation bytes x (λ p f fifo block t lists g. none_other now i j x.number k.bytes.orbs.number e t.list t.number _)

  says_on : (serial generation : ℕ) (bytes : List ℕ) (past : List Moment) (i : ℕ) (s : InitiatorState) → IsHeard past i serial generation bytes → Answered ready past i s → (j : ℕ) → AllSay (Answers (said (judged_note serial (receive_step generation bytes empty_outbox s).0) ∷ past) j) (receive_step generation bytes empty_outbox s).1.0.sides
  says_on serial generation bytes past i s heard h =
      let o = h.bytes.orbs in
      subst (λ (x : InitiatorState). Answered ready past i x → (j : ℕ) → AllSay (Answers (said (judged_note serial (receive_step generation bytes empty_outbox x).0) ∷ past) j) (receive_step generation bytes empty_outbox x).1.0.sides) o.is
      (λ k j. says_state i o.calls o.called serial generation bytes past heard k j (j == i) refl) h

  -- ---- an action

  append_untaken : (i j n k : ℕ) (cmd : Cmd) → AreUntaken j (append_notes i n k cmd)
  append_untaken i j n zero cmd = (refl, (refl, tt))
  append_untaken i j n (suc k) cmd = (refl, (refl, (refl, (refl, tt))))

  action_untaken : (action : Action) (past : List Moment) (i j : ℕ) → AreUntaken j (action_notes action past i)
  action_untaken (actions.Put cmd) past i j = (refl, tt)
  action_untaken (actions.Append cmd) past i j = append_untaken i j (new_list past i) (new_number past i) cmd
  action_untaken actions.Low past i j = (refl, tt)
  action_untaken actions.Link past i j = (refl, tt)
  action_untaken actions.Ring past i j = (refl, tt)
  action_untaken (actions.Dummy k) past i j = (refl, tt)
  action_untaken actions.Rom past i j = tt
  action_untaken actions.AgentReset past i j = tt
  action_untaken actions.State past i j = tt
  action_untaken actions.Enable past i j = tt
  action_untaken (actions.Login unit reconnect exclusive password) past i j = tt
  action_untaken (actions.Query unit) past i j = tt
  action_untaken actions.Reconnect past i j = tt
  action_untaken actions.Logout past i j = tt
  action_untaken actions.AbortSet past i j = tt
  action_untaken actions.UnitReset past i j = tt
  action_untaken actions.TargetReset past i j = tt
  action_untaken (actions.Abort orb) past i j = tt

  -- the plans, by what is told
  module _ (i : ℕ) (calls : List Call) (called : AreCalls calls) (past : List Moment) where
    abbrev state : InitiatorState
    state = (laws_after i ready calls).1

    module _ (k : Answered ready past i state) (rows : AreRows past i state.lists.slots) where
      abbrev Now : Action → Type 0
      Now action = PlansHold (names (behind (own (action_notes action past i)) past) i) (act_step action empty_outbox state).1.1.lists.answers

      plain : (action : Action) → AreKept i (action_notes action past i) → (act_step action empty_outbox state).1.1.lists.answers ≡ state.lists.answers → Now action
      plain action q e = plans_same past (behind (own (action_notes action past i)) past) i state.lists.answers (act_step action empty_outbox state).1.1.lists.answers (ap names_of (told_kept (action_notes action past i) past i q)) e k.plans

      prepared : (action : Action) (fit : IsLineOf action) (n : (act_step action empty_outbox state).0 ≡ None) (cmd : Cmd) (full : IsFull cmd) (line : cmd_of (event_of past) ≡ Some cmd) (slot : ℕ) (e : may_prepare state.lists.slots ≡ Ok slot) → byte_terms (behind (own (action_notes action past i)) past) i ≡ byte_terms (said (notes.Append i (new_list past i) (new_number past i) cmd.cdb (buffer_of cmd)) ∷ past) i → (act_step action empty_outbox state).1.1.lists.answers ≡ slice_set state.lists.answers slot (plan_of cmd) → Now action
      prepared action fit n cmd full line slot e told set =
          plans_same (said (notes.Append i (new_list past i) (new_number past i) cmd.cdb (buffer_of cmd)) ∷ past) (behind (own (action_notes action past i)) past) i (slice_set state.lists.answers slot (plan_of cmd)) (act_step action empty_outbox state).1.1.lists.answers (ap names_of told) set
          (plans_appended past i (new_list past i) (new_number past i) slot cmd.cdb (buffer_of cmd) cmd line
          (low ready i calls called past rows k.bytes.slots action fit.0 n cmd full line slot e) (fresh ready i calls called past rows k.bytes.slots)
          (small ready i calls called past rows k.bytes.slots action fit.0 n cmd full line slot e) state.lists.answers k.plans)

      planned : (action : Action) → Goes action state → IsLineOf action → event_of past ≡ Some (events.Act i action) → (act_step action empty_outbox state).0 ≡ None → Now action
      planned (actions.Put cmd) g fit line n =
          let f = is_ok_slot (may_prepare state.lists.slots) (g.allowed.prepares refl) in
          prepared (actions.Put cmd) fit n cmd fit (ap cmd_of line) f.0 f.1 refl (put_plans cmd f.0 empty_outbox state f.1 n)
      planned (actions.Append cmd) g fit line n =
          let f = is_ok_slot (may_prepare state.lists.slots) (g.allowed.prepares refl) in
          prepared (actions.Append cmd) fit n cmd fit (ap cmd_of line) f.0 f.1 (rest_kept past i (new_list past i) (new_number past i) cmd) (append_plans cmd f.0 empty_outbox state f.1 n)
      planned actions.Low g fit line n = plain actions.Low (refl, tt) (plain_plans actions.Low empty_outbox state tt n)
      planned actions.Link g fit line n = plain actions.Link (refl, tt) (plain_plans actions.Link empty_outbox state tt n)
      planned actions.Ring g fit line n = plain actions.Ring (refl, tt) (plain_plans actions.Ring empty_outbox state tt n)
      planned (actions.Dummy orb) g fit line n = plain (actions.Dummy orb) (refl, tt) (plain_plans (actions.Dummy orb) empty_outbox state tt n)
      planned actions.Rom g fit line n = plain actions.Rom tt (plain_plans actions.Rom empty_outbox state tt n)
      planned actions.AgentReset g fit line n = plain actions.AgentReset tt (plain_plans actions.AgentReset empty_outbox state tt n)
      planned actions.State g fit line n = plain actions.State tt (plain_plans actions.State empty_outbox state tt n)
      planned actions.Enable g fit line n = plain actions.Enable tt (plain_plans actions.Enable empty_outbox state tt n)
      planned (actions.Login unit reconnect exclusive password) g fit line n = plain (actions.Login unit reconnect exclusive password) tt (plain_plans (actions.Login unit reconnect exclusive password) empty_outbox state tt n)
      planned (actions.Query unit) g fit line n = plain (actions.Query unit) tt (plain_plans (actions.Query unit) empty_outbox state tt n)
      planned actions.Reconnect g fit line n = plain actions.Reconnect tt (plain_plans actions.Reconnect empty_outbox state tt n)
      planned actions.Logout g fit line n = plain actions.Logout tt (plain_plans actions.Logout empty_outbox state tt n)
      planned actions.AbortSet g fit line n = plain actions.AbortSet tt (plain_plans actions.AbortSet empty_outbox state tt n)
      planned actions.UnitReset g fit line n = plain actions.UnitReset tt (plain_plans actions.UnitReset empty_outbox state tt n)
      planned actions.TargetReset g fit line n = plain actions.TargetReset tt (plain_plans actions.TargetReset empty_outbox state tt n)
      planned (actions.Abort orb) g fit line n = plain (actions.Abort orb) tt (plain_plans (actions.Abort orb) empty_outbox state tt n)

  module _ (action : Action) (past : List Moment) (i : ℕ) (s : InitiatorState) (line : event_of past ≡ Some (events.Act i action)) (fit : IsLineOf action) (no_refusal : (act_step action empty_outbox s).0 ≡ None) (known : Rowed past i s) (h : Answered ready past i s) where
    abbrev t : Turn
    t = (act_step action empty_outbox s).1

    sides_are : t.0.sides ≡ own (action_notes action past i)
    sides_are =
        action_law.notes past s action empty_outbox (subst (λ j. AreRows past j s.lists.slots) (sym h.bytes.orbs.number) known.rows) no_refusal
        ∙ ap (λ j. own (action_notes action past j)) h.bytes.orbs.number

    own_plans : PlansHold (names (behind t.0.sides past) i) t.1.lists.answers
    own_plans =
        let o = h.bytes.orbs in
        subst (λ told. PlansHold (names (behind told past) i) t.1.lists.answers) (sym sides_are)
        (subst (λ (x : InitiatorState). Answered ready past i x → AreRows past i x.lists.slots → (act_step action empty_outbox x).0 ≡ None → PlansHold (names (behind (own (action_notes action past i)) past) i) (act_step action empty_outbox x).1.1.lists.answers) o.is
        (λ k rows n. planned i o.calls o.called past k rows action (goes action empty_outbox _ n) fit line n) h known.rows no_refusal)

    other_plans : (j : ℕ) (answers : List AnswerPlan) → (j == i) ≡ false → PlansHold (names past j) answers → PlansHold (names (behind t.0.sides past) j) answers
    other_plans j answers e k =
        subst (λ told. PlansHold (names (behind told past) j) answers) (sym sides_are)
        (plans_same past (behind (own (action_notes action past i)) past) j answers answers (ap names_of (told_kept (action_notes action past i) past j (others_kept action past i j e))) refl k)

    all_taken : (j : ℕ) → AllTaken past j → AllTaken (behind t.0.sides past) j
    all_taken j k = subst (λ told. AllTaken (behind told past) j) (sym sides_are) (untaken_told (action_notes action past i) past j (action_untaken action past i j) k)

    does_on : Does (Bytes ready) past i t → Does (Answered ready) past i t
    does_on bytes = record {
      others = λ j x e k. record { bytes = bytes.others j x e k.bytes; plans = other_plans j x.lists.answers e k.plans; taken = all_taken j k.taken };
      quiet = λ none. record { bytes = bytes.quiet none; plans = own_plans; taken = all_taken i h.taken };
      asking = λ packet one serial generation f q.
          let leaves = notes.Sent serial generation (suc i) 0 packet.bytes in
          record {
            bytes = bytes.asking packet one serial generation f q;
            plans = plans_same (behind t.0.sides past) (said leaves ∷ behind t.0.sides past) i t.1.lists.answers t.1.lists.answers (ap names_of (bytes_kept leaves (behind t.0.sides past) i refl)) refl own_plans;
            taken = taken_on leaves (behind t.0.sides past) i refl (all_taken i h.taken);
          };
    }

  pub answers_carried : Carries Rowed (Answered ready)
  answers_carried =
      let c = bytes_carried ready in
      record {
        known = λ line event past i s r. c.known line event past i s r;
        number = λ past i s h. c.number past i s h.bytes;
        asked = λ line event past i s h. record { bytes = c.asked line event past i s h.bytes; plans = plans_same past (asked line event ∷ past) i s.lists.answers s.lists.answers refl refl h.plans; taken = h.taken };
        apart = λ note past i s e elsewhere h. record {
          bytes = c.apart note past i s e elsewhere h.bytes;
          plans = plans_same past (said note ∷ past) i s.lists.answers s.lists.answers (apart_names note past i e) refl h.plans;
          taken = taken_on note past i (apart_untaken note i e) h.taken;
        };
        sent = λ serial generation from to bytes past i s n h. record {
          bytes = c.sent serial generation from to bytes past i s n h.bytes;
          plans = plans_same past (said (notes.Sent serial generation from to bytes) ∷ past) i s.lists.answers s.lists.answers (ap names_of (bytes_kept (notes.Sent serial generation from to bytes) past i refl)) refl h.plans;
          taken = taken_on (notes.Sent serial generation from to bytes) past i refl h.taken;
        };
        hears = λ serial generation bytes past i s heard shown after h.
            let judged = (receive_step generation bytes empty_outbox s).0 in
            let note = judged_note serial judged in
            let t = (receive_step generation bytes empty_outbox s).1 in
            tells_on (said note ∷ past) i t (receive_left generation bytes s).told (tell.receives generation bytes empty_outbox s tt) (says_on serial generation bytes past i s heard h)
            (c.hears serial generation bytes past i s heard shown after h.bytes)
            (plans_same past (said note ∷ past) i s.lists.answers t.1.lists.answers (judged_names serial judged past i) (receive_plans generation bytes empty_outbox s) h.plans)
            (taken_on note past i (apart_untaken note i (judged_apart serial judged i)) h.taken);
        expires = λ serial label past i s shown h.
            let now = said (notes.TimedOut serial) ∷ past in
            let t = (expire_step label empty_outbox s).1 in
            tells_on now i t (expire_left label s).told (tell.expires label empty_outbox s tt) (λ j. expire_says (Answers now j) label s)
            (c.expires serial label past i s shown h.bytes)
            (plans_same past now i s.lists.answers t.1.lists.answers (ap names_of (bytes_kept (notes.TimedOut serial) past i refl)) (expire_plans label empty_outbox s) h.plans)
            (taken_on (notes.TimedOut serial) past i refl h.taken);
        stale = λ label past i s e h. record {
          bytes = c.stale label past i s e h.bytes;
          plans = plans_same past past i s.lists.answers (expire_step label empty_outbox s).1.1.lists.answers refl (expire_plans label empty_outbox s) h.plans;
          taken = h.taken;
        };
        sees = λ generation id target past i s e h.
            let now = said (notes.Seen (suc i) generation) ∷ past in
            let t = see_step generation id target empty_outbox s in
            tells_on now i t (see_left generation id target s).told (tell.sees generation id target empty_outbox s tt) (λ j. see_says (Answers now j) generation id target s)
            (c.sees generation id target past i s e h.bytes)
            (plans_same past now i s.lists.answers t.1.lists.answers (ap names_of (bytes_kept (notes.Seen (suc i) generation) past i refl)) (see_plans generation id target empty_outbox s) h.plans)
            (taken_on (notes.Seen (suc i) generation) past i refl h.taken);
        acts = λ action past i s line fit d shown known h. does_on action past i s line fit d known h (c.acts action past i s line fit d shown known h.bytes);
      }

-- ---- a run

first_plans : (i : ℕ) (ready : Bool) → (new_state i ready).lists.answers ≡ replicate 32 no_answer
unfolding new_state
first_plans i ready = refl

first_answered : (line i initiators : ℕ) (ready : Bool) → Answered ready (said (notes.Begin initiators ready) ∷ asked line (events.Begin initiators ready) ∷ []) i (new_state i ready)
first_answered line i initiators ready = record {
  bytes = first line i initiators ready;
  plans = record { size = ap length (first_plans i ready); plans = λ k one cmd b e c. absurd (cc e) };
  taken = tt;
}

pub taken_law : TakenLaw
taken_law = record {
  answers = λ line r q i b later past n k answer e.
      taken_there later past i n k answer (subst (λ ms. AllTaken ms i) (sym e) (of_runs (Answered r.ready) (answers_carried r.ready) line r (rows_known line r) (λ j c. first_answered line j r.initiators r.ready) q i b).taken);
  between = λ line r q next most told m i b later past n k answer e.
      taken_there later past i n k answer (subst (λ ms. AllTaken ms i) (sym e) (between_runs (Answered r.ready) (answers_carried r.ready) line r (rows_known line r) (λ j c. first_answered line j r.initiators r.ready) q next most told m i b).taken);
}
