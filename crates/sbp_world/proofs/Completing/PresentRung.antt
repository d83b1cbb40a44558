-- A list with a rung ORB had ORB_POINTER written: a ring writes it, where it was not written for the list, and nothing else that an initiator does rings an ORB.
use Rattle.sbp_world.proofs.Words.Std.{arith, ◌≡◌, ◌∙◌, refl, sym, ap, subst, ◌<◌, ◌==◌, ◌-◌, max, not, nat_eq, nat_tests, ℕ, zero, suc, Bool, true, false, cond, List, [], ◌∷◌, ◌++◌, Option, Some, None}
use Rattle.sbp_world.proofs.Words.Wire.{Action, Asked, Judged, Layer, Moment, Note, Terms, Outgoing, Side, asked, empty_outbox, judged_note, said, terms}
use Rattle.sbp_world.proofs.Words.Initiator.{Demand, InitiatorState, PresentList, is_list, Purpose, Turn, act_step, asked_as, asked_for, demand_of, demanded_as, done_step, expire_step, facts_with, judged_as, new_state, own, receive_step, refusal, ring_demand, ring_for, rings, see_step}
use Rattle.sbp_world.proofs.Words.Laws.{event_of, present_list}
use Rattle.sbp_world.proofs.Words.World.{AreRows, behind}
use Rattle.sbp_initiator.specs.Steps.{is_step}
use Rattle.sbp_journal.specs.declared.event.Action.TheVariants as actions
use Rattle.sbp_journal.specs.declared.event.Event.TheVariants as events
use Rattle.sbp_journal.specs.declared.note.Note.TheVariants as notes
use Rattle.sbp_journal.specs.declared.side.Side.TheVariants as sides
use Rattle.sbp_journal.specs.declared.cause.Judged.TheVariants as judgements
use Rattle.sbp_laws.specs.Actions.{action_notes, buffer_of, link_notes, list_for, new_list, new_number}
use Rattle.sbp_laws.specs.Lists.{linked}
use Rattle.sbp_world.specs.Completing.Sights.{rung}
use Rattle.sbp_world.proofs.Common.{itself, some_none, untrue}
use Rattle.sbp_world.proofs.Hosts.ActLeft.{act_left}
use Rattle.sbp_world.proofs.Hosts.Asked.{IsRequest, number_in}
use Rattle.sbp_world.proofs.Hosts.Carries.{Carries, is_apart}
use Rattle.sbp_world.proofs.Hosts.KnowActs.{no_packets}
use Rattle.sbp_world.proofs.Hosts.OrbTells as tell
use Rattle.sbp_world.proofs.Hosts.OrbTells.{AreUnstepped}
use Rattle.sbp_world.proofs.Hosts.PointerNotes.{Told, asked_pointer, pointer, pointer_after, tame_told}
use Rattle.sbp_world.proofs.Hosts.Requested.{done_sends}
use Rattle.sbp_world.proofs.Hosts.Telling.{action_law}
use Rattle.sbp_world.proofs.Pointers.GuardDoes.{Ready}
use Rattle.sbp_world.proofs.Pointers.Guarded.{Guarded}
use Rattle.sbp_world.proofs.Pointers.Showing.{IsShowing}
use Rattle.sbp_world.proofs.Pointers.Guarding.{first_guarded, guarded_carried}

-- ---- ORB_POINTER was written for a list
-- behind a moment the host of the initiator named a write of it while the list was present
pub record WasWritten (past : List Moment) (i n : ℕ) : Type 0 where
  pub front : List Moment
  pub back : List Moment
  pub serial : ℕ
  pub is : front ++ back ≡ past
  pub present : present_list back i ≡ Some n
  pub named : pointer back i ≡ Some serial

abbrev pub AreWritten : List Moment → ℕ → Type 0
AreWritten past i = (n : ℕ) → 0 < rung past i n → WasWritten past i n

written_on : (m : Moment) (past : List Moment) (i n : ℕ) → WasWritten past i n → WasWritten (m ∷ past) i n
written_on m past i n x = record { front = m ∷ x.front; back = x.back; serial = x.serial; is = ap (λ ms. m ∷ ms) x.is; present = x.present; named = x.named }

all_on : (m : Moment) (past : List Moment) (i : ℕ) → ((n : ℕ) → rung (m ∷ past) i n ≡ rung past i n) → AreWritten past i → AreWritten (m ∷ past) i
all_on m past i same a n l = written_on m past i n (a n (subst (λ k. 0 < k) (same n) l))

-- ---- what leaves how many are rung
pub other_rung : (j m k i n : ℕ) (past : List Moment) (b : Bool) → nat_eq i j ≡ b → b ≡ false → cond b (cond (nat_eq n m) (max (rung past j m) (suc k)) (rung past i n)) (rung past i n) ≡ rung past i n
other_rung j m k i n past false e f = refl
other_rung j m k i n past true e f = untrue (sym f)

pub apart_rung : (note : Note) (past : List Moment) (i : ℕ) → is_apart i note ≡ true → (n : ℕ) → rung (said note ∷ past) i n ≡ rung past i n
apart_rung (notes.Rung j m k) past i e n = other_rung j m k i n past (nat_eq i j) refl (not_so (nat_eq i j) e)
  where
    not_so : (b : Bool) → not b ≡ true → b ≡ false
    not_so false f = refl
    not_so true f = untrue f
apart_rung note past i e n = refl

pub note_rung : (note : Note) (past : List Moment) (i n : ℕ) → is_step note ≡ false → rung (said note ∷ past) i n ≡ rung past i n
note_rung (notes.Rung j m k) past i n e = untrue (sym e)
note_rung note past i n e = refl

all_told : (told : List Side) (past : List Moment) (i : ℕ) → AreUnstepped told → AreWritten past i → AreWritten (behind told past) i
all_told [] past i u a = a
all_told (sides.Own note ∷ told) past i u a = all_told told (said note ∷ past) i u.1 (all_on (said note) past i (λ n. note_rung note past i n u.0) a)
all_told (sides.Opened place orb ∷ told) past i u a = absurd u.0
all_told (sides.Ran place orb cdb payload outcome ∷ told) past i u a = absurd u.0
all_told (sides.Ended place orb status ∷ told) past i u a = absurd u.0
all_told (sides.Dead place cause ∷ told) past i u a = absurd u.0
all_told (sides.Cut place cause ∷ told) past i u a = absurd u.0
all_told (sides.Managed node function subject status login ∷ told) past i u a = absurd u.0
all_told (sides.ManageFailed node cause ∷ told) past i u a = absurd u.0
all_told (sides.Held login ∷ told) past i u a = absurd u.0
all_told (sides.Expired login ∷ told) past i u a = absurd u.0
all_told (sides.Back login ∷ told) past i u a = absurd u.0
all_told (sides.Left login ∷ told) past i u a = absurd u.0
all_told (sides.Cleared unit ∷ told) past i u a = absurd u.0
all_told (sides.Unsolicited place ∷ told) past i u a = absurd u.0
all_told (sides.Unsent place ∷ told) past i u a = absurd u.0

pub judged_rung : (serial : ℕ) (judged : Judged) (past : List Moment) (i n : ℕ) → rung (said (judged_note serial judged) ∷ past) i n ≡ rung past i n
judged_rung serial judgements.Got past i n = refl
judged_rung serial (judgements.Ignored cause) past i n = refl

-- ---- an action
-- the notes of an action, which are of its initiator
abbrev pub AllOfOther : ℕ → List Note → Type 0
AllOfOther j [] = Unit {0}
AllOfOther j (note ∷ ns) = (is_apart j note ≡ true) × AllOfOther j ns

pub of_other : (j i : ℕ) → (j == i) ≡ false → not (j == i) ≡ true
of_other j i e = ap not e

links_of_other : (j i n k m : ℕ) → not (j == i) ≡ true → AllOfOther j (link_notes i n k ++ notes.Rung i n m ∷ [])
links_of_other j i n zero m e = (e, tt)
links_of_other j i n (suc k) m e = (e, (e, (e, tt)))

pub acts_of_other : (action : Action) (past : List Moment) (j i : ℕ) → not (j == i) ≡ true → AllOfOther j (action_notes action past i)
acts_of_other (actions.Put cmd) past j i e = (e, tt)
acts_of_other (actions.Append cmd) past j i e = (e, links_of_other j i (new_list past i) (new_number past i) (new_number past i) e)
acts_of_other actions.Low past j i e = (e, tt)
acts_of_other actions.Link past j i e = (e, tt)
acts_of_other actions.Ring past j i e = (e, tt)
acts_of_other (actions.Dummy k) past j i e = (e, tt)
acts_of_other actions.Rom past j i e = tt
acts_of_other (actions.Login unit reconnect exclusive password) past j i e = tt
acts_of_other (actions.Query unit) past j i e = tt
acts_of_other actions.Reconnect past j i e = tt
acts_of_other actions.Logout past j i e = tt
acts_of_other (actions.Abort k) past j i e = tt
acts_of_other actions.AbortSet past j i e = tt
acts_of_other actions.UnitReset past j i e = tt
acts_of_other actions.TargetReset past j i e = tt
acts_of_other actions.AgentReset past j i e = tt
acts_of_other actions.State past j i e = tt
acts_of_other actions.Enable past j i e = tt

others_told : (ns : List Note) (past : List Moment) (j : ℕ) → AllOfOther j ns → AreWritten past j → AreWritten (behind (own ns) past) j
others_told [] past j h a = a
others_told (note ∷ ns) past j h a = others_told ns (said note ∷ past) j h.1 (all_on (said note) past j (apart_rung note past j h.0) a)

-- one that does not ring rings no ORB
quiet_told : (action : Action) (past : List Moment) (i : ℕ) → rings action ≡ false → AreWritten past i → AreWritten (behind (own (action_notes action past i)) past) i
quiet_told (actions.Put cmd) past i r a = all_on (said (notes.Append i (new_list past i) (new_number past i) cmd.cdb (buffer_of cmd))) past i (λ n. refl) a
quiet_told (actions.Append cmd) past i r a = untrue (sym r)
quiet_told actions.Low past i r a = all_on (said (notes.Low i (new_list past i) (new_number past i - 1))) past i (λ n. refl) a
quiet_told actions.Link past i r a = all_on (said (notes.Linked i (new_list past i) (new_number past i - 1))) past i (λ n. refl) a
quiet_told actions.Ring past i r a = untrue (sym r)
quiet_told (actions.Dummy k) past i r a = all_on (said (notes.Dummied i (new_list past i) k)) past i (λ n. refl) a
quiet_told actions.Rom past i r a = a
quiet_told (actions.Login unit reconnect exclusive password) past i r a = a
quiet_told (actions.Query unit) past i r a = a
quiet_told actions.Reconnect past i r a = a
quiet_told actions.Logout past i r a = a
quiet_told (actions.Abort k) past i r a = a
quiet_told actions.AbortSet past i r a = a
quiet_told actions.UnitReset past i r a = a
quiet_told actions.TargetReset past i r a = a
quiet_told actions.AgentReset past i r a = a
quiet_told actions.State past i r a = a
quiet_told actions.Enable past i r a = a

-- ---- a ring
module _ (i serial generation to : ℕ) (bytes : List ℕ) where
  abbrev Sends : List Moment → List Moment
  Sends ms = said (notes.Sent serial generation (suc i) to bytes) ∷ ms

  -- where the host names a write then, ORB_POINTER was written for each list with a rung ORB
  abbrev Rings : List Moment → Type 0
  Rings ms = (x : ℕ) → pointer (Sends ms) i ≡ Some x → AreWritten (Sends ms) i

  -- behind the ring the write is named, of the list that is present
  rung_now : (n k : ℕ) (base : List Moment) → AreWritten base i → present_list base i ≡ Some n → Rings (said (notes.Rung i n k) ∷ base)
  rung_now n k base a present x named m l = by (nat_eq m n) refl
    where
      ms : List Moment
      ms = said (notes.Rung i n k) ∷ base

      by : (b : Bool) → nat_eq m n ≡ b → WasWritten (Sends ms) i m
      by true e =
          let same : n ≡ m = grind (arith, nat_tests, e) in
          record { front = []; back = Sends ms; serial = x; is = refl; present = present ∙ ap (λ y. Some y) same; named = named }
      by false e =
          let old : rung ms i m ≡ rung base i m = ap (λ b. cond b (cond (nat_eq m n) (max (rung base i n) (suc k)) (rung base i m)) (rung base i m)) (itself i) ∙ ap (λ b. cond b (max (rung base i n) (suc k)) (rung base i m)) e in
          written_on (said (notes.Sent serial generation (suc i) to bytes)) ms i m (written_on (said (notes.Rung i n k)) base i m (a m (subst (λ y. 0 < y) old l)))

  linked_now : (n k m : ℕ) (base : List Moment) → AreWritten base i → present_list base i ≡ Some n → Rings (behind (own (link_notes i n k ++ notes.Rung i n m ∷ [])) base)
  linked_now n zero m base a present x named = rung_now n m base a present x named
  linked_now n (suc k) m base a present x named =
      let low = said (notes.Low i n (suc k)) ∷ base in
      let linked_one = said (notes.Linked i n (suc k)) ∷ low in
      rung_now n m linked_one (all_on (said (notes.Linked i n (suc k))) low i (λ y. refl) (all_on (said (notes.Low i n (suc k))) base i (λ y. refl) a)) present x named

  rings_now : (action : Action) (past : List Moment) → rings action ≡ true → (action ≡ actions.Ring → present_list past i ≡ Some (new_list past i)) → AreWritten past i → Rings (behind (own (action_notes action past i)) past)
  rings_now (actions.Append cmd) past r p a x named =
      let first = said (notes.Append i (new_list past i) (new_number past i) cmd.cdb (buffer_of cmd)) ∷ past in
      linked_now (new_list past i) (new_number past i) (new_number past i) first (all_on (said (notes.Append i (new_list past i) (new_number past i) cmd.cdb (buffer_of cmd))) past i (λ y. refl) a)
      (ap (λ b. cond b (Some (new_list past i)) (present_list past i)) (itself i)) x named
  rings_now actions.Ring past r p a x named = rung_now (new_list past i) (linked past i (new_list past i) - 1) past a (p refl) x named
  rings_now (actions.Put cmd) past r p a x named = untrue r
  rings_now actions.Low past r p a x named = untrue r
  rings_now actions.Link past r p a x named = untrue r
  rings_now (actions.Dummy k) past r p a x named = untrue r
  rings_now actions.Rom past r p a x named = untrue r
  rings_now (actions.Login unit reconnect exclusive password) past r p a x named = untrue r
  rings_now (actions.Query unit) past r p a x named = untrue r
  rings_now actions.Reconnect past r p a x named = untrue r
  rings_now actions.Logout past r p a x named = untrue r
  rings_now (actions.Abort k) past r p a x named = untrue r
  rings_now actions.AbortSet past r p a x named = untrue r
  rings_now actions.UnitReset past r p a x named = untrue r
  rings_now actions.TargetReset past r p a x named = untrue r
  rings_now actions.AgentReset past r p a x named = untrue r
  rings_now actions.State past r p a x named = untrue r
  rings_now actions.Enable past r p a x named = untrue r

-- a ring that is done sends a packet
ring_asks : (action : Action) (s : InitiatorState) → rings action ≡ true → demand_of action s ≡ None → ⊥
ring_asks (actions.Append cmd) s r e = some_none (ring_demand s) e
ring_asks actions.Ring s r e = some_none (ring_demand s) e
ring_asks _ s r e = untrue r

module _ (action : Action) (s : InitiatorState) (m : rings action ≡ true) where
  asked_sends : (r : Option Asked × Layer Purpose) → (asked_as r action empty_outbox s).0 ≡ None → (asked_as r action empty_outbox s).1.0.packets ≡ [] → ⊥
  asked_sends (None, layer) e n = some_none 10 e
  asked_sends (Some request, layer) e n =
      let u = record s { layer = layer } in
      let packet : Outgoing = record { to = s.target; label = Some request.label; bytes = request.bytes } in
      no_packets packet (sym (ap (λ ps. ps ++ packet ∷ []) (done_sends action empty_outbox u)) ∙ n)

  demanded_sends : (demand : Option Demand) → demand_of action s ≡ demand → (demanded_as demand action empty_outbox s).0 ≡ None → (demanded_as demand action empty_outbox s).1.0.packets ≡ [] → ⊥
  demanded_sends None d e n = ring_asks action s m d
  demanded_sends (Some demand) d e n = asked_sends (asked_for demand s) e n

  judged_sends : (r : Option ℕ) → (judged_as r action empty_outbox s).0 ≡ None → (judged_as r action empty_outbox s).1.0.packets ≡ [] → ⊥
  judged_sends (Some number) e n = some_none number e
  judged_sends None e n = demanded_sends (demand_of action s) refl e n

  pub ring_sends : (act_step action empty_outbox s).0 ≡ None → (act_step action empty_outbox s).1.0.packets ≡ [] → ⊥
  unfolding act_step
  ring_sends e n = judged_sends (refusal action (facts_with true s action)) e n

-- and rings an ORB of the list that is present
module _ (s : InitiatorState) (none : s.lists.slots.present ≡ None) where
  asked_none : (r : Option Asked × Layer Purpose) → (asked_as r actions.Ring empty_outbox s).1.0.sides ≡ []
  unfolding done_step
  asked_none (None, layer) = refl
  asked_none (Some request, layer) = ap (λ (p : Option PresentList). (ring_for p empty_outbox (record s { layer = layer })).0.sides) none

  demanded_none : (demand : Option Demand) → demand_of actions.Ring s ≡ demand → (demanded_as demand actions.Ring empty_outbox s).1.0.sides ≡ []
  demanded_none None d = absurd (ring_asks actions.Ring s refl d)
  demanded_none (Some demand) d = asked_none (asked_for demand s)

  judged_none : (r : Option ℕ) → (judged_as r actions.Ring empty_outbox s).1.0.sides ≡ []
  judged_none (Some number) = refl
  judged_none None = demanded_none (demand_of actions.Ring s) refl

  pub ring_none : (act_step actions.Ring empty_outbox s).1.0.sides ≡ []
  unfolding act_step
  ring_none = judged_none (refusal actions.Ring (facts_with true s actions.Ring))

-- what rings has a list
pub ring_present : (action : Action) (past : List Moment) (i : ℕ) (s : InitiatorState) → (act_step action empty_outbox s).1.0.sides ≡ own (action_notes action past i) → IsShowing past i s → action ≡ actions.Ring → present_list past i ≡ Some (new_list past i)
ring_present action past i s sides_are shown e = by s.lists.slots.present refl
  where
    by : (p : Option PresentList) → s.lists.slots.present ≡ p → present_list past i ≡ Some (new_list past i)
    by None n =
        let sides_none : (act_step action empty_outbox s).1.0.sides ≡ [] = ap (λ a. (act_step a empty_outbox s).1.0.sides) e ∙ ring_none s n in
        let told : own (action_notes actions.Ring past i) ≡ [] = ap (λ a. own (action_notes a past i)) (sym e) ∙ (sym sides_are ∙ sides_none) in
        absurd (let z : sides.Own (notes.Rung i (new_list past i) (linked past i (new_list past i) - 1)) ∷ [] ≡ [] = told in cc)
    by (Some list) n =
        let is = shown list.tail.list (ap (λ p. is_list p list.tail.list) n ∙ itself list.tail.list) in
        is ∙ ap (λ x. Some x) (sym (ap (list_for past i) is))

-- ---- what is carried on
pub record Written (ready : Bool) (past : List Moment) (i : ℕ) (s : InitiatorState) : Type 0 where
  pub guarded : Guarded ready past i s
  pub written : AreWritten past i

module _ (ready : Bool) (action : Action) (past : List Moment) (i : ℕ) (s : InitiatorState) (line : event_of past ≡ Some (events.Act i action)) (done : (act_step action empty_outbox s).0 ≡ None) (known : Ready past i s) (h : Written ready past i s) where
  abbrev t : Turn
  t = (act_step action empty_outbox s).1

  number : s.number ≡ i
  number = h.guarded.pointed.cored.own.number

  sides_are : t.0.sides ≡ own (action_notes action past i)
  sides_are = action_law.notes past s action empty_outbox (subst (λ j. AreRows past j s.lists.slots) (sym number) known.rows) done ∙ ap (λ j. own (action_notes action past j)) number

  other_written : (j : ℕ) → (j == i) ≡ false → AreWritten past j → AreWritten (behind t.0.sides past) j
  other_written j e a = subst (λ xs. AreWritten (behind xs past) j) (sym sides_are) (others_told (action_notes action past i) past j (acts_of_other action past j i (of_other j i e)) a)

  own_quiet : rings action ≡ false → AreWritten (behind t.0.sides past) i
  own_quiet r = subst (λ xs. AreWritten (behind xs past) i) (sym sides_are) (quiet_told action past i r h.written)

  quiet_written : t.0.packets ≡ [] → AreWritten (behind t.0.sides past) i
  quiet_written none = by (rings action) refl
    where
      by : (b : Bool) → rings action ≡ b → AreWritten (behind t.0.sides past) i
      by true r = absurd (ring_sends action s r done none)
      by false r = own_quiet r

  present_then : action ≡ actions.Ring → present_list past i ≡ Some (new_list past i)
  present_then e = ring_present action past i s sides_are h.guarded.shown e

  asking_written : (packet : Outgoing) (serial generation : ℕ) → (terms past).injected serial ≡ false → IsRequest (number_in packet.label) packet.bytes → AreWritten (said (notes.Sent serial generation (suc i) 0 packet.bytes) ∷ behind t.0.sides past) i
  asking_written packet serial generation honest q = by (rings action) refl
    where
      ms : List Moment
      ms = behind t.0.sides past

      told : Told past t.0.sides i
      told = tame_told t.0.sides past i (act_left action s done).told

      named : rings action ≡ true → pointer (said (notes.Sent serial generation (suc i) 0 packet.bytes) ∷ ms) i ≡ pointer_after true serial (pointer ms i)
      named r = asked_pointer action serial generation 0 packet.bytes ms i (told.line ∙ line) q (ap (λ (y : Terms). y.injected serial) told.wire ∙ honest) ∙ ap (λ b. pointer_after b serial (pointer ms i)) r

      some_by : (p : Option ℕ) → (x : ℕ) × (pointer_after true serial p ≡ Some x)
      some_by None = (serial, refl)
      some_by (Some first) = (first, refl)

      by : (b : Bool) → rings action ≡ b → AreWritten (said (notes.Sent serial generation (suc i) 0 packet.bytes) ∷ ms) i
      by false r = all_on (said (notes.Sent serial generation (suc i) 0 packet.bytes)) ms i (λ n. refl) (own_quiet r)
      by true r =
          let x = some_by (pointer ms i) in
          let there : pointer (said (notes.Sent serial generation (suc i) 0 packet.bytes) ∷ ms) i ≡ Some x.0 = named r ∙ x.1 in
          subst (λ xs. AreWritten (said (notes.Sent serial generation (suc i) 0 packet.bytes) ∷ behind xs past) i) (sym sides_are)
          (rings_now i serial generation 0 packet.bytes action past r present_then h.written x.0
          (subst (λ xs. pointer (said (notes.Sent serial generation (suc i) 0 packet.bytes) ∷ behind xs past) i ≡ Some x.0) sides_are there))

pub written_carried : (ready : Bool) → Carries Ready (Written ready)
written_carried ready = record {
  known = (guarded_carried ready).known;
  number = λ past i s h. h.guarded.pointed.cored.own.number;
  asked = λ line event past i s h. record { guarded = (guarded_carried ready).asked line event past i s h.guarded; written = all_on (asked line event) past i (λ n. refl) h.written };
  apart = λ note past i s e w h. record { guarded = (guarded_carried ready).apart note past i s e w h.guarded; written = all_on (said note) past i (apart_rung note past i e) h.written };
  sent = λ serial generation from to bytes past i s n h. record {
    guarded = (guarded_carried ready).sent serial generation from to bytes past i s n h.guarded;
    written = all_on (said (notes.Sent serial generation from to bytes)) past i (λ m. refl) h.written;
  };
  hears = λ serial generation bytes past i s heard shown later h.
      let tells = (guarded_carried ready).hears serial generation bytes past i s heard shown later h.guarded in
      let r = receive_step generation bytes empty_outbox s in
      let none = tell.receives_unstepped generation bytes empty_outbox s tt in
      let now = said (judged_note serial r.0) ∷ past in
      record {
        own = record { guarded = tells.own; written = all_told r.1.0.sides now i none (all_on (said (judged_note serial r.0)) past i (judged_rung serial r.0 past i) h.written) };
        others = λ j x e g. record { guarded = tells.others j x e g.guarded; written = all_told r.1.0.sides now j none g.written };
      };
  expires = λ serial label past i s shown h.
      let tells = (guarded_carried ready).expires serial label past i s shown h.guarded in
      let t : Turn = (expire_step label empty_outbox s).1 in
      let none = tell.expires_unstepped label empty_outbox s tt in
      let now = said (notes.TimedOut serial) ∷ past in
      record {
        own = record { guarded = tells.own; written = all_told t.0.sides now i none (all_on (said (notes.TimedOut serial)) past i (λ n. refl) h.written) };
        others = λ j x e g. record { guarded = tells.others j x e g.guarded; written = all_told t.0.sides now j none g.written };
      };
  stale = λ label past i s e h. record { guarded = (guarded_carried ready).stale label past i s e h.guarded; written = h.written };
  sees = λ generation id target past i s flag h.
      let tells = (guarded_carried ready).sees generation id target past i s flag h.guarded in
      let t : Turn = see_step generation id target empty_outbox s in
      let none = tell.sees_unstepped generation id target empty_outbox s tt in
      let now = said (notes.Seen (suc i) generation) ∷ past in
      record {
        own = record { guarded = tells.own; written = all_told t.0.sides now i none (all_on (said (notes.Seen (suc i) generation)) past i (λ n. refl) h.written) };
        others = λ j x e g. record { guarded = tells.others j x e g.guarded; written = all_told t.0.sides now j none g.written };
      };
  acts = λ action past i s line fit done shown known h.
      let does = (guarded_carried ready).acts action past i s line fit done shown known h.guarded in
      record {
        others = λ j x e g. record { guarded = does.others j x e g.guarded; written = other_written ready action past i s line done known h j e g.written };
        quiet = λ none. record { guarded = does.quiet none; written = quiet_written ready action past i s line done known h none };
        asking = λ packet one serial generation honest q. record { guarded = does.asking packet one serial generation honest q; written = asking_written ready action past i s line done known h packet serial generation honest q };
      };
}

pub first_written : (line i initiators : ℕ) (ready : Bool) → i < initiators → Written ready (said (notes.Begin initiators ready) ∷ asked line (events.Begin initiators ready) ∷ []) i (new_state i ready)
first_written line i initiators ready b = record { guarded = first_guarded line i initiators ready b; written = λ n l. absurd (omega (arith, l)) }
