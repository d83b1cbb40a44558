-- An operation of the target for an initiator, over a moment: it was there before, with the ORB in the same place, and where that was at rest it is so; or it begins, with the write that waited; or nothing is in hand.
use Rattle.sbp_world.proofs.Words.Std.{arith, ◌≡◌, ◌∙◌, ◌⊎◌, inl, inr, refl, sym, ap, subst, ℕ, suc, ◌&&◌, nat_eq, Bool, true, false, List, ◌∷◌, Option, Some, None, nat_tests, same_Some}
use Rattle.sbp_world.proofs.Words.Wire.{Action, Event, Moment, asked, said, terms}
use Rattle.sbp_world.proofs.Words.Target.{Disk, Operation}
use Rattle.sbp_world.proofs.Words.Laws.{event_of, operation_of, target_at}
use Rattle.sbp_world.proofs.Words.World.{IsAsking, IsFree, IsHandling, IsRest, manages}
use Rattle.mgmt_agent.specs.declared.operation.Phase.TheVariants as phases
use Rattle.sbp_journal.specs.declared.event.Event.TheVariants as events
use Rattle.sbp_journal.specs.declared.note.Note.TheVariants as notes
use Rattle.sbp_world.proofs.Common.{itself, none_is, untrue}
use Rattle.sbp_world.proofs.Completing.LoginsFree.{FreeAt}
use Rattle.sbp_world.proofs.Completing.LoginsHosts.{AsBefore, IsMild, line_before, note_before, sent_before}
use Rattle.sbp_world.proofs.Lists.ManageGot.{asked_for, calm_by, gets_other}
use Rattle.sbp_world.proofs.Lists.ManageMoments.{MayHand, TakeFacts, line_calm, quiet_calm}
use Rattle.sbp_world.proofs.Lists.ManageOffices.{GotAs, got_as, got_replies, got_settles, got_starts}
use Rattle.sbp_world.proofs.Lists.ManageSent.{sent_handling, sent_rest}
use Rattle.sbp_world.proofs.Lists.ManageSights.{again_calm, sight_calm}
use Rattle.sbp_world.proofs.Lists.ManageStays.{Calms, calm_rest, replies_handling, rests_handling}
use Rattle.sbp_world.proofs.Lists.ManageTerms.{got_rests}

-- ---- the operation
pub data Back (start : List Disk) (past now : List Moment) (i place : ℕ) (op : Operation) : Type 0 where
  had : (was : Operation) → IsHandling start past i place was → (IsRest start past i → IsRest start now i) → Back start past now i place op
  freed : IsFree start now i → Back start past now i place op
  begun : (serial : ℕ) → IsAsking past i serial place → op.phase ≡ phases.Orb → (target_at start past).manager.operation ≡ None → Back start past now i place op

calm_back : (start : List Disk) (past now : List Moment) (i place : ℕ) (op : Operation) → Calms start past now i → IsHandling start now i place op → Back start past now i place op
calm_back start past now i place op c h = let x = c.handling place op h in had x.was x.before (λ r. calm_rest c r)

module _ (start : List Disk) (past : List Moment) (i serial : ℕ) (f : TakeFacts start past i serial) (place : ℕ) (op : Operation) (h : IsHandling start (said (notes.Got serial) ∷ past) i place op) where
  abbrev now : List Moment
  now = said (notes.Got serial) ∷ past

  by_got : f.packet.to ≡ 0 → GotAs start past serial f.packet → Back start past now i place op
  by_got to (got_settles k) = calm_back start past now i place op (calm_by start past i serial f.packet f.facts (rests_handling start past now i serial (got_rests serial past) (λ s. refl) k)) h
  by_got to (got_replies k) = calm_back start past now i place op (calm_by start past i serial f.packet f.facts (replies_handling start past now i serial (got_rests serial past) (λ s. refl) k)) h
  by_got to (got_starts s) =
      begun serial (asked_for start past i serial f.packet f.facts s to place op h) (ap (λ (x : Operation). x.phase) (sym (same_Some _ op (sym s.now ∙ h.is)))) s.none_before

  got_back : Back start past now i place op
  got_back = by (nat_eq f.packet.to 0) refl
    where
      by : (b : Bool) → nat_eq f.packet.to 0 ≡ b → Back start past now i place op
      by true e = by_got (grind (arith, nat_tests)) (got_as start past serial f.packet f.facts.sent)
      by false e = calm_back start past now i place op (gets_other start past i serial f.packet f.facts e) h

pub back : (start : List Disk) (i : ℕ) (m : Moment) (past : List Moment) (place : ℕ) (op : Operation) → MayHand start i m past → FreeAt start i m past → IsHandling start (m ∷ past) i place op → Back start past (m ∷ past) i place op
back start i (asked line event) past place op f free h = calm_back start past (asked line event ∷ past) i place op (line_calm start line event past i f) h
back start i (said (notes.Begin initiators ready)) past place op f free h = none_is op (sym free.0 ∙ h.is)
back start i (said (notes.Sent serial generation from to bytes)) past place op f free h =
    had op (sent_handling start past i serial generation from to bytes f.facts place op h) (λ r. sent_rest start past i serial generation from to bytes f.facts r)
back start i (said (notes.Got serial)) past place op f free h = got_back start past i serial f place op h
back start i (said (notes.Seen node generation)) past place op f free h = by (nat_eq node (suc i)) (nat_eq generation ((terms past).generation (suc i))) refl refl
  where
    now : List Moment
    now = said (notes.Seen node generation) ∷ past

    by : (b c : Bool) → nat_eq node (suc i) ≡ b → nat_eq generation ((terms past).generation (suc i)) ≡ c → Back start past now i place op
    by false c e g = calm_back start past now i place op (sight_calm start node generation past i e f.none) h
    by true false e g = freed (f.new (grind (arith, nat_tests)) g)
    by true true e g =
        let is : suc i ≡ node = grind (arith, nat_tests) in
        calm_back start past now i place op (subst (λ n. Calms start past (said (notes.Seen n generation) ∷ past) i) is (again_calm start generation past i g f.none)) h
back start i (said note) past place op f free h = calm_back start past (said note ∷ past) i place op (quiet_calm start i note past refl f) h

-- ---- what the initiator has: it stays, or nothing was in hand
-- the action of a line begins an operation of management
abbrev is_managing : ℕ → Option Event → Bool
is_managing i (Some (events.Act j action)) = nat_eq j i && manages (operation_of action)
is_managing i event = false

record IsManaging (i : ℕ) (event : Option Event) : Type 0 where
  action : Action
  is : event ≡ Some (events.Act i action)
  manages_it : manages (operation_of action) ≡ true

both : (a b : Bool) → (a && b) ≡ true → (a ≡ true) × (b ≡ true)
both true b e = (refl, e)
both false b e = untrue e

managing_is : (i : ℕ) (event : Option Event) → is_managing i event ≡ true → IsManaging i event
managing_is i (Some (events.Act j action)) e =
    let x = both (nat_eq j i) (manages (operation_of action)) e in
    let first = x.0 in
    record { action = action; is = ap (λ n. Some (events.Act n action)) (let is : j ≡ i = grind (arith, nat_tests, first) in is); manages_it = x.1 }
managing_is i event e = untrue e

mild_of : (i : ℕ) (event : Option Event) → is_managing i event ≡ false → IsMild i event
mild_of i event e action is =
    let m = manages (operation_of action) in
    let here : (nat_eq i i && m) ≡ m = ap (λ b. b && m) (itself i) in
    sym here ∙ (sym (ap (is_managing i) is) ∙ e)

pub before_or_free : (start : List Disk) (i : ℕ) (m : Moment) (past : List Moment) → FreeAt start i m past → AsBefore past (m ∷ past) i ⊎ IsFree start past i
before_or_free start i (asked line event) past f = inl (line_before line event past i)
before_or_free start i (said (notes.Begin initiators ready)) past f = inr f.1
before_or_free start i (said (notes.Sent serial generation from to bytes)) past f = by (nat_eq from (suc i)) (is_managing i (event_of past)) refl refl
  where
    now : List Moment
    now = said (notes.Sent serial generation from to bytes) ∷ past

    away : nat_eq from (suc i) ≡ false → from ≡ suc i → IsMild i (event_of past)
    away e own = untrue (sym e ∙ (let x : nat_eq from (suc i) ≡ true = grind (arith, nat_tests) in x))

    by : (b c : Bool) → nat_eq from (suc i) ≡ b → is_managing i (event_of past) ≡ c → AsBefore past now i ⊎ IsFree start past i
    by false c e g = inl (sent_before serial generation from to bytes past i (away e))
    by true false e g = inl (sent_before serial generation from to bytes past i (λ own. mild_of i (event_of past) g))
    by true true e g = let x = managing_is i (event_of past) g in inr (f (grind (arith, nat_tests)) x.action x.is x.manages_it)
before_or_free start i (said note) past f = inl (note_before note past i refl)
