-- What is known of the rings stays so as a packet arrives, or is ignored.
use Rattle.std.proofs.Common.{◌≡◌, ◌∙◌, refl, sym, ap, subst, ℕ, zero, suc, ◌<◌, ◌==◌, Bool, true, false, cond, nat_eq, List, [], ◌∷◌, Some, None, arith}
use Rattle.std.proofs.lemmas.Bool.Decides.{nat_tests}
use Rattle.rbc_disk.specs.Disk.{Disk}
use Rattle.sbp_base.specs.Update.{upd}
use Rattle.sbp_journal.specs.Addresses.{Access, doorbell, orb_pointer, register, start_at}
use Rattle.sbp_journal.specs.Run.{Moment, said}
use Rattle.sbp_journal.specs.Transactions.{Sending, part_of}
use Rattle.sbp_journal.specs.Wire.{Terms, arrives, delivered, gets, ignores_that, is_news, is_served, terms}
use Rattle.sbp_journal.specs.declared.cause.Cause.{Cause}
use Rattle.sbp_journal.specs.declared.note.Note.TheVariants as notes
use Rattle.sbp_laws.specs.Budget.{flies}
use Rattle.sbp_laws.specs.Hosts.{host_at, known_host}
use Rattle.sbp_laws.specs.Packets.{access_at, access_in, access_in_bytes, answered_at, packet_in, receiver_in}
use Rattle.sbp_laws.specs.Targets.{Target, first_table, is_serial, over, target_at, target_by}
use Rattle.sbp_laws.specs.Targets.{got_by as target_got}
use Rattle.sbp_laws.specs.Turns.{EachMoment}
use Rattle.sbp_world.proofs.Lists.AgentFolds.{AreSo, AreStill, over_still, so}
use Rattle.drill_laws.proofs.DrillCalm.{got_calm}
use Rattle.drill_laws.proofs.DrillAgentsFresh.{IsFreshAt, fresh_kept, got_fresh}
use Rattle.drill_laws.proofs.DrillHosts.{RestsIdle, over_idle, target_wire}
use Rattle.drill_laws.proofs.DrillMoments.{DrillAt}
use Rattle.drill_laws.proofs.DrillPackets.{gets_wired, ignores_wired}
use Rattle.drill_laws.proofs.DrillRingReplies.{IsRingOf, bells, points}
use Rattle.drill_laws.proofs.DrillTable.{got_table, over_table}
use Rattle.drill_laws.proofs.DrillTurns.{IsCalm, no_start_here}
use Rattle.drill_laws.proofs.DrillWire.{Parts, gets_keeps, ignores_keeps, note_sent, parts}
use Rattle.drill_laws.proofs.DrillServes.{Awaits, IsSentBy, KeepsPointers, Serves, asks_none, note_fresh, note_pointer, note_table_at, rung, same_pointed, sent_map}

-- ---- a packet arrives
arrived : (t : Terms) (s p : ℕ) → t.repeats ≡ false → flies ((arrives s t).flight p) ≡ true → (p ≡ s → ⊥) × (flies (t.flight p) ≡ true)
arrived t s p once e = by (nat_eq p s) refl (sym (ap (λ b. flies ((cond b t.flight (upd t.flight s delivered)) p)) once) ∙ e)
  where
    by : (b : Bool) → nat_eq p s ≡ b → flies (cond b delivered (t.flight p)) ≡ true → (p ≡ s → ⊥) × (flies (t.flight p) ≡ true)
    by true f g = absurd (cc g)
    by false f g = ((λ same. grind (arith, nat_tests)), g)

got_parts : (s : ℕ) (q : Sending) (t : Terms) → parts (gets (Some q) s t) ≡ parts (arrives s t)
got_parts s q t = gets_keeps (part_of q.bytes) s q (is_served s (is_news s (arrives s t)))

-- a ring's register
pub ring_start : {Where : Type 0} (j place : ℕ) (access : Access) → j < 2 → IsRingOf j access Where → start_at access.offset ≡ register place orb_pointer → (j ≡ place) × Where
unfolding start_at
ring_start zero place access small (points payload is at known) e = (let no : register 0 orb_pointer ≡ register place orb_pointer = sym (ap (λ (a : Access). start_at a.offset) is) ∙ e in cc no, known)
ring_start (suc zero) place access small (points payload is at known) e = (let no : register 1 orb_pointer ≡ register place orb_pointer = sym (ap (λ (a : Access). start_at a.offset) is) ∙ e in cc no, known)
ring_start zero place access small (bells is) e = absurd (let no : register 0 doorbell ≡ register place orb_pointer = sym (ap (λ (a : Access). start_at a.offset) is) ∙ e in cc no)
ring_start (suc zero) place access small (bells is) e = absurd (let no : register 1 doorbell ≡ register place orb_pointer = sym (ap (λ (a : Access). start_at a.offset) is) ∙ e in cc no)
ring_start (suc (suc j)) place access small ring e = absurd (omega (arith, small))

module _ (start : List Disk) (s : ℕ) (past : List Moment) (q : Sending) (is : (terms past).sent s ≡ Some q) (h : Serves start past) where
  abbrev wire : Terms
  wire = terms past

  abbrev target : Target
  target = over (target_at start past)

  rests : RestsIdle target
  rests = over_idle (target_at start past) h.calm.target

  got_terms : parts (terms (said (notes.Got s) ∷ past)) ≡ parts (arrives s wire)
  got_terms = ap (λ found. parts (gets found s wire)) is ∙ got_parts s q wire

  -- the sender of what comes to the target
  is_zero : is_serial (receiver_in (wire.sent s)) 0 ≡ true → q.to ≡ 0
  is_zero here = let there : (q.to == 0) ≡ true = ap (λ found. is_serial (receiver_in found) 0) (sym is) ∙ here in grind (arith, nat_tests)

  pub sender_of : q.to ≡ 0 → (P : Type 0) → ((i : ℕ) → q.from ≡ suc i → IsSentBy past i s q → P) → P
  sender_of to P f = by q.from refl
    where
      by : (from : ℕ) → q.from ≡ from → P
      by zero e = absurd ((h.calm.sent s q is to).0 e)
      by (suc i) e = f i e (h.rings s i q is e)

  pub access_is : access_at wire s ≡ access_in_bytes q.bytes
  access_is = ap (λ found. access_in (packet_in found)) is

  pointed_else : (i : ℕ) → Awaits (said (notes.Got s) ∷ past) i → KeepsPointers past (said (notes.Got s) ∷ past) → is_serial (receiver_in (wire.sent s)) 0 ≡ true → (access : Access) → access_at wire s ≡ Some access → access.is_write ≡ true → start_at access.offset ≡ register i orb_pointer → ⊥
  pointed_else i a keeps here access found w at = sender_of (is_zero here) ⊥ by
    where
      by : (j : ℕ) → q.from ≡ suc j → IsSentBy past j s q → ⊥
      by j e (asks_none none) = let no : None ≡ Some access = sym none ∙ sym access_is ∙ found in absurd (cc no)
      by j e (rung small to other there ring) =
          let one : Some other ≡ Some access = sym there ∙ sym access_is ∙ found in
          let same : other ≡ access = cc one in
          let known = ring_start j i other small ring (ap (λ (x : Access). start_at x.offset) same ∙ at) in
          let pointer : (host_at past i).pointer ≡ Some s = subst (λ k. (host_at past k).pointer ≡ Some s) known.0 known.1 in
          let flown : flies ((arrives s wire).flight s) ≡ true = sym (ap (λ (x : Parts). flies (x.flight s)) got_terms) ∙ a s (keeps i s pointer) in
          (arrived wire s s h.wired.repeats flown).0 refl

  abbrev got : List Moment
  got = said (notes.Got s) ∷ past

  got_kept : (i : ℕ) → (host_at got i).pointer ≡ (host_at past i).pointer
  got_kept i = note_pointer (notes.Got s) past (known_host past i).wire i (host_at past i) tt tt tt

  got_table_at : (target_at start got).table ≡ first_table true 2
  got_table_at = subst (λ w. (target_by (notes.Got s) past w (target_at start past)).table ≡ first_table true 2) (sym (target_wire start past)) (by (is_serial (receiver_in (wire.sent s)) 0) refl)
    where
      by : (b : Bool) → is_serial (receiver_in (wire.sent s)) 0 ≡ b → (cond b (target_got (answered_at wire s) wire s target) target).table ≡ first_table true 2
      by true here = got_table (answered_at wire s) wire s target rests (λ access none found. no_start_here start past s [] h.calm access here found) ∙ over_table (target_at start past) ∙ h.table
      by false here = over_table (target_at start past) ∙ h.table

  keeps_got : KeepsPointers past got
  keeps_got i p e = got_kept i ∙ e

  got_fresh_at : (i : ℕ) → i < 2 → Awaits got i → AreSo (IsFreshAt i) (target_at start got)
  got_fresh_at i small a = subst (λ w. AreSo (IsFreshAt i) (target_by (notes.Got s) past w (target_at start past))) (sym (target_wire start past)) (by (is_serial (receiver_in (wire.sent s)) 0) refl)
    where
      old : AreStill (IsFreshAt i) target
      old =
          over_still (IsFreshAt i) (fresh_kept i).lasting (target_at start past)
          (h.fresh i small (λ p e. (arrived wire s p h.wired.repeats (sym (ap (λ (x : Parts). flies (x.flight p)) got_terms) ∙ a p (keeps_got i p e))).1))

      by : (b : Bool) → is_serial (receiver_in (wire.sent s)) 0 ≡ b → AreSo (IsFreshAt i) (cond b (target_got (answered_at wire s) wire s target) target)
      by true here = got_fresh i (answered_at wire s) wire s target rests (λ access none found. no_start_here start past s [] h.calm access here found) (λ access none found w at. pointed_else i a keeps_got here access found w at) old
      by false here = so (IsFreshAt i) target old

  pub got_serves : EachMoment DrillAt got → Serves start got
  got_serves d = record {
    calm = got_calm start s past d h.calm;
    wired = gets_wired (wire.sent s) s wire h.wired;
    rings = λ o i p e f. sent_map past got i o p keeps_got (h.rings o i p (ap (λ f. f o) (sym (note_sent (notes.Got s) past d.0 refl)) ∙ e) f);
    answers = λ o p e. h.answers o p (ap (λ f. f o) (sym (note_sent (notes.Got s) past d.0 refl)) ∙ e);
    table = got_table_at;
    hosts = λ i p small e. same_pointed past got i p (record { present = refl; appended = refl }) (let many = ap (λ (x : Parts). x.count) got_terms in omega (arith, many)) (h.hosts i p small (sym (got_kept i) ∙ e));
    fresh = got_fresh_at;
  }

  -- or is ignored
  module _ (cause : Cause) where
    abbrev ignored : List Moment
    ignored = said (notes.Ignored s cause) ∷ past

    ignored_terms : parts (terms ignored) ≡ parts (arrives s wire)
    ignored_terms = ap (λ found. parts (ignores_that found cause s wire)) is ∙ ignores_keeps cause s q (arrives s wire)

    pub ignored_serves : DrillAt (said (notes.Ignored s cause)) past → IsCalm start ignored → Serves start ignored
    ignored_serves d calm = record {
      calm = calm;
      wired = ignores_wired (wire.sent s) cause s wire h.wired;
      rings = λ o i p e f. sent_map past ignored i o p (λ j x g. g) (h.rings o i p (ap (λ f. f o) (sym (note_sent (notes.Ignored s cause) past d refl)) ∙ e) f);
      answers = λ o p e. h.answers o p (ap (λ f. f o) (sym (note_sent (notes.Ignored s cause) past d refl)) ∙ e);
      table = note_table_at start (notes.Ignored s cause) past tt tt h.table;
      hosts = λ i p small e. same_pointed past ignored i p (record { present = refl; appended = refl }) (let many = ap (λ (x : Parts). x.count) ignored_terms in omega (arith, many)) (h.hosts i p small e);
      fresh = λ i small a. note_fresh start i (notes.Ignored s cause) past tt tt (h.fresh i small (λ p e. (arrived wire s p h.wired.repeats (sym (ap (λ (x : Parts). flies (x.flight p)) ignored_terms) ∙ a p e)).1));
    }
