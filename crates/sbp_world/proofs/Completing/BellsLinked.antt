-- No ORB is rung that is not linked: a ring rings the last ORB of the present list that is linked, and the present list has one that is.
use Rattle.sbp_world.proofs.Words.Std.{arith, ◌≡◌, ◌∙◌, refl, sym, ap, subst, ◌<◌, ◌≤◌, ◌-◌, max, not, nat_eq, nat_tests, ℕ, zero, suc, Bool, true, false, cond, List, [], ◌∷◌, ◌++◌, Option, Some, None, false≢true, same_Some}
use Rattle.sbp_world.proofs.Words.Wire.{Action, Judged, Moment, Note, Side, asked, empty_outbox, judged_note, said}
use Rattle.sbp_world.proofs.Words.Initiator.{InitiatorState, Turn, act_step, expire_step, new_state, own, receive_step, see_step}
use Rattle.sbp_world.proofs.Words.Laws.{EachMoment, event_of, present_list}
use Rattle.sbp_world.proofs.Words.World.{AreRows, MayStand, behind}
use Rattle.sbp_initiator.specs.Steps.{is_step}
use Rattle.sbp_journal.specs.declared.event.Action.TheVariants as actions
use Rattle.sbp_journal.specs.declared.event.Event.TheVariants as events
use Rattle.sbp_journal.specs.declared.note.Note.TheVariants as notes
use Rattle.sbp_journal.specs.declared.side.Side.TheVariants as sides
use Rattle.sbp_journal.specs.declared.cause.Judged.TheVariants as judgements
use Rattle.sbp_laws.specs.Actions.{action_notes, buffer_of, link_notes, new_list, new_number}
use Rattle.sbp_laws.specs.Lists.{linked}
use Rattle.sbp_world.specs.Completing.Bells.{AreRungLinked}
use Rattle.sbp_world.specs.Completing.Sights.{rung}
use Rattle.sbp_world.proofs.Common.{itself, untrue}
use Rattle.sbp_world.proofs.Completing.PresentRung.{AllOfOther, acts_of_other, of_other, ring_present}
use Rattle.sbp_world.proofs.Hosts.Carries.{Carries, is_apart}
use Rattle.sbp_world.proofs.Hosts.Carrying.{last_from}
use Rattle.sbp_world.proofs.Hosts.Lasting.{from_moment}
use Rattle.sbp_world.proofs.Hosts.LastingTerms.{AllLast}
use Rattle.sbp_world.proofs.Hosts.OrbTells as tell
use Rattle.sbp_world.proofs.Hosts.OrbTells.{AreUnstepped}
use Rattle.sbp_world.proofs.Hosts.Telling.{action_law}
use Rattle.sbp_world.proofs.Lists.StatusKnown.{each_from}
use Rattle.sbp_world.proofs.Pointers.GuardDoes.{Ready}
use Rattle.sbp_world.proofs.Pointers.Guarded.{Guarded}
use Rattle.sbp_world.proofs.Pointers.Guarding.{first_guarded, guarded_carried}

-- ---- as an ORB is rung
-- its list is present, and it is linked where any ORB of the list is
pub record IsRungSo (past : List Moment) (i n k : ℕ) : Type 0 where
  pub present : present_list past i ≡ Some n
  pub linked_then : 0 < linked past i n → k < linked past i n

abbrev pub RungAt : ℕ → Moment → List Moment → Type 0
RungAt i (said (notes.Rung j n k)) past = nat_eq i j ≡ true → IsRungSo past i n k
RungAt i moment past = Unit {0}

abbrev pub Rings : ℕ → List Moment → Type 0
Rings i past = EachMoment (RungAt i) past

apart_at : (i : ℕ) (note : Note) (past : List Moment) → is_apart i note ≡ true → RungAt i (said note) past
apart_at i (notes.Rung j n k) past e = λ same. absurd (false≢true (sym (ap not same) ∙ e))
apart_at i note past e = tt

step_at : (i : ℕ) (note : Note) (past : List Moment) → is_step note ≡ false → RungAt i (said note) past
step_at i (notes.Rung j n k) past e = untrue (sym e)
step_at i note past e = tt

judged_at : (i serial : ℕ) (judged : Judged) (past : List Moment) → RungAt i (said (judged_note serial judged)) past
judged_at i serial judgements.Got past = tt
judged_at i serial (judgements.Ignored cause) past = tt

told_rings : (told : List Side) (past : List Moment) (i : ℕ) → AreUnstepped told → Rings i past → Rings i (behind told past)
told_rings [] past i u a = a
told_rings (sides.Own note ∷ told) past i u a = told_rings told (said note ∷ past) i u.1 (step_at i note past u.0, a)
told_rings (sides.Opened place orb ∷ told) past i u a = absurd u.0
told_rings (sides.Ran place orb cdb payload outcome ∷ told) past i u a = absurd u.0
told_rings (sides.Ended place orb status ∷ told) past i u a = absurd u.0
told_rings (sides.Dead place cause ∷ told) past i u a = absurd u.0
told_rings (sides.Cut place cause ∷ told) past i u a = absurd u.0
told_rings (sides.Managed node function subject status login ∷ told) past i u a = absurd u.0
told_rings (sides.ManageFailed node cause ∷ told) past i u a = absurd u.0
told_rings (sides.Held login ∷ told) past i u a = absurd u.0
told_rings (sides.Expired login ∷ told) past i u a = absurd u.0
told_rings (sides.Back login ∷ told) past i u a = absurd u.0
told_rings (sides.Left login ∷ told) past i u a = absurd u.0
told_rings (sides.Cleared unit ∷ told) past i u a = absurd u.0
told_rings (sides.Unsolicited place ∷ told) past i u a = absurd u.0
told_rings (sides.Unsent place ∷ told) past i u a = absurd u.0

others_ring : (ns : List Note) (past : List Moment) (j : ℕ) → AllOfOther j ns → Rings j past → Rings j (behind (own ns) past)
others_ring [] past j h a = a
others_ring (note ∷ ns) past j h a = others_ring ns (said note ∷ past) j h.1 (apart_at j note past h.0, a)

-- ---- an action
last_linked : (count : ℕ) → 0 < count → count - 1 < count
last_linked count some = omega (arith, some)

-- an ORB that is linked now
link_ring : (i n k : ℕ) (base : List Moment) → present_list base i ≡ Some n → (k ≡ 0 → linked base i n ≡ 1) → Rings i base → Rings i (behind (own (link_notes i n k ++ notes.Rung i n k ∷ [])) base)
link_ring i n zero base present one a = ((λ same. record { present = present; linked_then = λ some. omega (arith, some) }), a)
link_ring i n (suc k) base present one a =
    let here : suc k < linked (said (notes.Linked i n (suc k)) ∷ said (notes.Low i n (suc k)) ∷ base) i n = subst (λ x. suc k < x) (sym (ap (λ b. cond b (cond (nat_eq n n) (suc (suc k)) (linked base i n)) (linked base i n)) (itself i) ∙ ap (λ b. cond b (suc (suc k)) (linked base i n)) (itself n))) (omega arith) in
    ((λ same. record { present = present; linked_then = λ some. here }), (tt, (tt, a)))

action_rings : (action : Action) (past : List Moment) (i : ℕ) → (action ≡ actions.Ring → present_list past i ≡ Some (new_list past i)) → Rings i past → Rings i (behind (own (action_notes action past i)) past)
action_rings (actions.Put cmd) past i p a = (tt, a)
action_rings (actions.Append cmd) past i p a =
    let first = said (notes.Append i (new_list past i) (new_number past i) cmd.cdb (buffer_of cmd)) ∷ past in
    link_ring i (new_list past i) (new_number past i) first (ap (λ b. cond b (Some (new_list past i)) (present_list past i)) (itself i)) (first_one (new_number past i)) (tt, a)
  where
    first_one : (k : ℕ) → k ≡ 0 → linked (said (notes.Append i (new_list past i) k cmd.cdb (buffer_of cmd)) ∷ past) i (new_list past i) ≡ 1
    first_one zero e = ap (λ b. cond b (cond (nat_eq (new_list past i) (new_list past i)) 1 (linked past i (new_list past i))) (linked past i (new_list past i))) (itself i) ∙ ap (λ b. cond b 1 (linked past i (new_list past i))) (itself (new_list past i))
    first_one (suc k) e = absurd (omega (arith, e))
action_rings actions.Low past i p a = (tt, a)
action_rings actions.Link past i p a = (tt, a)
action_rings actions.Ring past i p a = ((λ same. record { present = p refl; linked_then = λ some. last_linked (linked past i (new_list past i)) some }), a)
action_rings (actions.Dummy k) past i p a = (tt, a)
action_rings actions.Rom past i p a = a
action_rings (actions.Login unit reconnect exclusive password) past i p a = a
action_rings (actions.Query unit) past i p a = a
action_rings actions.Reconnect past i p a = a
action_rings actions.Logout past i p a = a
action_rings (actions.Abort k) past i p a = a
action_rings actions.AbortSet past i p a = a
action_rings actions.UnitReset past i p a = a
action_rings actions.TargetReset past i p a = a
action_rings actions.AgentReset past i p a = a
action_rings actions.State past i p a = a
action_rings actions.Enable past i p a = a

-- ---- what is carried on
pub record Rung (ready : Bool) (past : List Moment) (i : ℕ) (s : InitiatorState) : Type 0 where
  pub guarded : Guarded ready past i s
  pub rings : EachMoment (RungAt i) past

module _ (ready : Bool) (action : Action) (past : List Moment) (i : ℕ) (s : InitiatorState) (line : event_of past ≡ Some (events.Act i action)) (done : (act_step action empty_outbox s).0 ≡ None) (known : Ready past i s) (h : Rung ready past i s) where
  abbrev t : Turn
  t = (act_step action empty_outbox s).1

  number : s.number ≡ i
  number = h.guarded.pointed.cored.own.number

  sides_are : t.0.sides ≡ own (action_notes action past i)
  sides_are = action_law.notes past s action empty_outbox (subst (λ j. AreRows past j s.lists.slots) (sym number) known.rows) done ∙ ap (λ j. own (action_notes action past j)) number

  present_then : action ≡ actions.Ring → present_list past i ≡ Some (new_list past i)
  present_then e = ring_present action past i s sides_are h.guarded.shown e

  own_rings : Rings i (behind t.0.sides past)
  own_rings = subst (λ xs. Rings i (behind xs past)) (sym sides_are) (action_rings action past i present_then h.rings)

  other_rings : (j : ℕ) → nat_eq j i ≡ false → Rings j past → Rings j (behind t.0.sides past)
  other_rings j e a = subst (λ xs. Rings j (behind xs past)) (sym sides_are) (others_ring (action_notes action past i) past j (acts_of_other action past j i (of_other j i e)) a)

pub rung_carried : (ready : Bool) → Carries Ready (Rung ready)
rung_carried ready = record {
  known = (guarded_carried ready).known;
  number = λ past i s h. h.guarded.pointed.cored.own.number;
  asked = λ line event past i s h. record { guarded = (guarded_carried ready).asked line event past i s h.guarded; rings = (tt, h.rings) };
  apart = λ note past i s e w h. record { guarded = (guarded_carried ready).apart note past i s e w h.guarded; rings = (apart_at i note past e, h.rings) };
  sent = λ serial generation from to bytes past i s n h. record { guarded = (guarded_carried ready).sent serial generation from to bytes past i s n h.guarded; rings = (tt, h.rings) };
  hears = λ serial generation bytes past i s heard shown later h.
      let tells = (guarded_carried ready).hears serial generation bytes past i s heard shown later h.guarded in
      let r = receive_step generation bytes empty_outbox s in
      let none = tell.receives_unstepped generation bytes empty_outbox s tt in
      let now = said (judged_note serial r.0) ∷ past in
      record {
        own = record { guarded = tells.own; rings = told_rings r.1.0.sides now i none (judged_at i serial r.0 past, h.rings) };
        others = λ j x e g. record { guarded = tells.others j x e g.guarded; rings = told_rings r.1.0.sides now j none g.rings };
      };
  expires = λ serial label past i s shown h.
      let tells = (guarded_carried ready).expires serial label past i s shown h.guarded in
      let t : Turn = (expire_step label empty_outbox s).1 in
      let none = tell.expires_unstepped label empty_outbox s tt in
      let now = said (notes.TimedOut serial) ∷ past in
      record {
        own = record { guarded = tells.own; rings = told_rings t.0.sides now i none (tt, h.rings) };
        others = λ j x e g. record { guarded = tells.others j x e g.guarded; rings = told_rings t.0.sides now j none g.rings };
      };
  stale = λ label past i s e h. record { guarded = (guarded_carried ready).stale label past i s e h.guarded; rings = h.rings };
  sees = λ generation id target past i s flag h.
      let tells = (guarded_carried ready).sees generation id target past i s flag h.guarded in
      let t : Turn = see_step generation id target empty_outbox s in
      let none = tell.sees_unstepped generation id target empty_outbox s tt in
      let now = said (notes.Seen (suc i) generation) ∷ past in
      record {
        own = record { guarded = tells.own; rings = told_rings t.0.sides now i none (tt, h.rings) };
        others = λ j x e g. record { guarded = tells.others j x e g.guarded; rings = told_rings t.0.sides now j none g.rings };
      };
  acts = λ action past i s line fit done shown known h.
      let does = (guarded_carried ready).acts action past i s line fit done shown known h.guarded in
      record {
        others = λ j x e g. record { guarded = does.others j x e g.guarded; rings = other_rings ready action past i s line done known h j e g.rings };
        quiet = λ none. record { guarded = does.quiet none; rings = own_rings ready action past i s line done known h };
        asking = λ packet one serial generation honest q. record { guarded = does.asking packet one serial generation honest q; rings = (tt, own_rings ready action past i s line done known h) };
      };
}

pub first_rung : (line i initiators : ℕ) (ready : Bool) → i < initiators → Rung ready (said (notes.Begin initiators ready) ∷ asked line (events.Begin initiators ready) ∷ []) i (new_state i ready)
first_rung line i initiators ready b = record { guarded = first_guarded line i initiators ready b; rings = (tt, (tt, tt)) }

-- ---- a present list has a linked ORB
module _ (i n : ℕ) where
  begins_linked : (j m : ℕ) (old : Option ℕ) (count : ℕ) → (x : Bool) → (y : Bool) → nat_eq n m ≡ y → cond x (Some m) old ≡ Some n → (old ≡ Some n → 0 < count) → 0 < cond x (cond y 1 count) count
  begins_linked j m old count true true e f g = omega arith
  begins_linked j m old count true false e f g = let same : m ≡ n = same_Some m n f in absurd (false≢true (sym e ∙ (let z : nat_eq n m ≡ true = grind (arith, nat_tests, same) in z)))
  begins_linked j m old count false y e f g = g f

  goes_linked : (j m k : ℕ) (count : ℕ) → (x y : Bool) → 0 < count → 0 < cond x (cond y (suc k) count) count
  goes_linked j m k count true true l = omega arith
  goes_linked j m k count true false l = l
  goes_linked j m k count false y l = l

  dropped : (x : Bool) (old : Option ℕ) → cond x None old ≡ Some n → old ≡ Some n
  dropped true old e = absurd (let z : None ≡ Some n = e in cc)
  dropped false old e = e

  later_same : (x : Bool) (m : ℕ) (old : Option ℕ) → (x ≡ true → old ≡ Some m) → cond x (Some m) old ≡ Some n → old ≡ Some n
  later_same true m old f e = f refl ∙ e
  later_same false m old f e = e

  pub present_linked : (past : List Moment) → EachMoment (MayStand i) past → present_list past i ≡ Some n → 0 < linked past i n
  present_linked [] s e = absurd (let z : None ≡ Some n = e in cc)
  present_linked (said (notes.Append j m zero cdb buffer) ∷ past) s e = begins_linked j m (present_list past i) (linked past i n) (nat_eq i j) (nat_eq n m) refl e (λ f. present_linked past s.1 f)
  present_linked (said (notes.Append j m (suc k) cdb buffer) ∷ past) s e =
      present_linked past s.1 (later_same (nat_eq i j) m (present_list past i) (λ f. (s.0 (let z : nat_eq j i ≡ true = (let same : i ≡ j = grind (arith, nat_tests, f) in grind (arith, nat_tests, same)) in z)).later (omega arith)) e)
  present_linked (said (notes.Linked j m k) ∷ past) s e = goes_linked j m k (linked past i n) (nat_eq i j) (nat_eq n m) (present_linked past s.1 e)
  present_linked (said (notes.Drop j m) ∷ past) s e = present_linked past s.1 (dropped (nat_eq i j) (present_list past i) e)
  present_linked (_ ∷ past) s e = present_linked past s.1 e

  -- so no more are rung than are linked
  grown : (m : Moment) (past : List Moment) → AllLast (m ∷ past) i → linked past i n ≤ linked (m ∷ past) i n
  grown m past all = (from_moment (m ∷ []) past (m ∷ past) i refl all).linked_on n

  most : (a b c : ℕ) → a ≤ c → b ≤ c → max a b ≤ c
  most a b c l g = omega (arith, l, g)

  -- how many are rung behind it, by whether it is of the initiator
  abbrev with_one : Bool → (j m k : ℕ) → List Moment → ℕ
  with_one b j m k past = cond b (cond (nat_eq n m) (max (rung past j m) (suc k)) (rung past i n)) (rung past i n)

  not_more : (j : ℕ) (b : Bool) → nat_eq i j ≡ b → (m k : ℕ) (past : List Moment) → rung past i n ≤ linked past i n → EachMoment (MayStand i) past → (nat_eq i j ≡ true → IsRungSo past i m k) → with_one b j m k past ≤ linked past i n
  not_more j false e m k past l s a = l
  not_more j true e m k past l s a = by (nat_eq n m) refl
    where
      same_i : i ≡ j
      same_i = grind (arith, nat_tests, e)

      by : (y : Bool) → nat_eq n m ≡ y → cond y (max (rung past j m) (suc k)) (rung past i n) ≤ linked past i n
      by false f = l
      by true f =
          let same : n ≡ m = grind (arith, nat_tests, f) in
          let so = a e in
          let some : 0 < linked past i n = present_linked past s (so.present ∙ ap (λ x. Some x) (sym same)) in
          let below : k < linked past i n = subst (λ x. k < linked past i x) (sym same) (so.linked_then (subst (λ x. 0 < linked past i x) same some)) in
          let there : rung past j m ≡ rung past i n = ap (λ x. rung past x m) (sym same_i) ∙ ap (λ x. rung past i x) (sym same) in
          most (rung past j m) (suc k) (linked past i n) (omega (arith, there, l)) below

  pub rung_below : (past : List Moment) → AllLast past i → EachMoment (MayStand i) past → Rings i past → rung past i n ≤ linked past i n
  rung_below [] all s a = omega arith
  rung_below (said (notes.Rung j m k) ∷ past) all s a = not_more j (nat_eq i j) refl m k past (rung_below past (last_from (said (notes.Rung j m k) ∷ []) past i all) s.1 a.1) s.1 a.0
  rung_below (moment ∷ past) all s a =
      let g = grown moment past all in
      let l = rung_below past (last_from (moment ∷ []) past i all) s.1 a.1 in
      omega (arith, g, l)

-- at each moment of a history
pub rung_linked : (past : List Moment) (i : ℕ) → AllLast past i → EachMoment (MayStand i) past → Rings i past → AreRungLinked past i
rung_linked past i all s a later earlier is n =
    rung_below i n earlier (last_from later earlier i (subst (λ ms. AllLast ms i) (sym is) all)) (each_from (MayStand i) later earlier (subst (EachMoment (MayStand i)) (sym is) s)) (each_from (RungAt i) later earlier (subst (Rings i) (sym is) a))
