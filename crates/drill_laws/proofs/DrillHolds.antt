-- What the labels of a drill hold (IEEE 1394-1995, transaction layer): none rests, and one that waits does so for the request that began its transaction. So where no request is under way, none is held.
use Rattle.std.proofs.Common.{◌≡◌, ◌∙◌, ◌⊎◌, inl, inr, refl, sym, ap, subst, ℕ, ◌+◌, ◌≤◌, ◌==◌, ◌&&◌, nat_eq, Bool, true, false, cond, List, [], ◌∷◌, Option, Some, None, arith}
use Rattle.std.proofs.lemmas.Bool.Decides.{nat_tests}
use Rattle.bus_transactions.proofs.Facts.{nat_same}
use Rattle.bus_transactions.proofs.PacketParts.{same_is}
use Rattle.rbc_disk.specs.Disk.{Disk}
use Rattle.sbp_journal.specs.Run.{Entry, Moment, asked, history, said}
use Rattle.sbp_journal.specs.Transactions.{Kind, Sending, Transaction, begun_by, is_same, part_of}
use Rattle.sbp_journal.specs.Wire.{Terms, arrives, begins, free, gets, ignores_that, is_news, is_served, kind_in, noted, opened, rests, sends, terms, waits}
use Rattle.sbp_journal.specs.declared.cause.Cause.{Cause}
use Rattle.sbp_journal.specs.declared.event.Event.{Event}
use Rattle.sbp_journal.specs.declared.event.Event.TheVariants as events
use Rattle.sbp_journal.specs.declared.event.Action.TheVariants as actions
use Rattle.sbp_journal.specs.declared.note.Note.{Note}
use Rattle.sbp_journal.specs.declared.note.Note.TheVariants as notes
use Rattle.sbp_laws.specs.Packets.{begun_in, is_under_way, is_waiting_for, waits_for}
use Rattle.sbp_laws.specs.SentPackets.{SentAt}
use Rattle.sbp_laws.specs.Turns.{EachMoment}
use Rattle.drill_laws.specs.DrillLines.{IsDrillLine}
use Rattle.drill_laws.specs.DrillRoom.{RestsWhereStill}
use Rattle.drill_laws.specs.DrillSettles.{IsDrillRun}
use Rattle.drill_laws.proofs.DrillLabels.{NoneIsHeld, RestsAtSettles, Tables, sent_tables}
use Rattle.drill_laws.proofs.DrillLast.{gets_held, ignores_tables}
use Rattle.drill_laws.proofs.DrillMoments.{DrillAt, MayAsk, drill_moments}
use Rattle.drill_laws.proofs.DrillSettles.{before_last, drills_settle}
use Rattle.drill_laws.proofs.DrillWire.{Parts, Young, gets_keeps, ignores_keeps, sends_keeps, young}

record Holds (t : Terms) : Type 0 where
  begun : (u : Transaction) (kind : Kind) (s : ℕ) → t.held u ≡ waits kind s → (s ≤ t.count) × (begun_in (t.sent s) ≡ Some u)
  none_rests : (u : Transaction) → t.held u ≡ rests → ⊥

-- ---- a packet is sent
module _ (s : ℕ) (q : Sending) (t : Terms) (next : s ≡ t.count + 1) (h : Holds t) where
  count_is : (sends s q t).count ≡ t.count + 1
  count_is = ap (λ (p : Parts). p.count) (sends_keeps s q t)

  held_is : (u : Transaction) → (sends s q t).held u ≡ (begins (begun_by q) s q t).held u
  held_is u = ap (λ (x : Tables). x.held u) (sent_tables s q t)

  sent_is : (r : ℕ) → (sends s q t).sent r ≡ cond (nat_eq r s) (Some q) (t.sent r)
  sent_is r = ap (λ (p : Parts). p.sent r) (sends_keeps s q t)

  old_so : (u : Transaction) (kind : Kind) (r : ℕ) → t.held u ≡ waits kind r → (r ≤ (sends s q t).count) × (begun_in ((sends s q t).sent r) ≡ Some u)
  old_so u kind r e =
      let was = h.begun u kind r e in
      let low = was.0 in
      let count = count_is in
      (omega (arith, low, count), ap begun_in (sent_is r ∙ by (nat_eq r s) refl low) ∙ was.1)
    where
      by : (b : Bool) → nat_eq r s ≡ b → r ≤ t.count → cond b (Some q) (t.sent r) ≡ t.sent r
      by true f low = absurd (let at : r ≡ s = grind (arith, nat_tests) in omega (arith, at, low, next))
      by false f low = refl

  new_so : (u : Transaction) (kind : Kind) (r : ℕ) → begun_by q ≡ Some u → s ≡ r → (r ≤ (sends s q t).count) × (begun_in ((sends s q t).sent r) ≡ Some u)
  new_so u kind r begun at =
      let count = count_is in
      (omega (arith, at, next, count), ap begun_in (sent_is r ∙ (ap (λ x. cond (nat_eq x s) (Some q) (t.sent x)) (sym at) ∙ ap (λ b. cond b (Some q) (t.sent s)) (nat_same s))) ∙ begun)

  sent_holds : Holds (sends s q t)
  sent_holds = record {
    begun = λ u kind r e. by (begun_by q) refl u kind r (sym (held_is u) ∙ e);
    none_rests = λ u e. by_rests (begun_by q) u (sym (held_is u) ∙ e);
  }
    where
      by_same : (v u : Transaction) (kind : Kind) (r : ℕ) → begun_by q ≡ Some v → (b : Bool) → is_same u v ≡ b → cond b (waits (kind_in (part_of q.bytes)) s) (t.held u) ≡ waits kind r → (r ≤ (sends s q t).count) × (begun_in ((sends s q t).sent r) ≡ Some u)
      by_same v u kind r begun true same e = new_so u kind r (begun ∙ ap Some (sym (same_is u v same))) (cc e)
      by_same v u kind r begun false same e = old_so u kind r e

      by : (o : Option Transaction) → begun_by q ≡ o → (u : Transaction) (kind : Kind) (r : ℕ) → (begins o s q t).held u ≡ waits kind r → (r ≤ (sends s q t).count) × (begun_in ((sends s q t).sent r) ≡ Some u)
      by None begun u kind r e = old_so u kind r e
      by (Some v) begun u kind r e = by_same v u kind r begun (is_same u v) refl e

      rests_same : (u : Transaction) (b : Bool) → cond b (waits (kind_in (part_of q.bytes)) s) (t.held u) ≡ rests → ⊥
      rests_same u true e = cc e
      rests_same u false e = h.none_rests u e

      by_rests : (o : Option Transaction) (u : Transaction) → (begins o s q t).held u ≡ rests → ⊥
      by_rests None u e = h.none_rests u e
      by_rests (Some v) u e = rests_same u (is_same u v) e

-- ---- a packet arrives
less_holds : (t now : Terms) → now.count ≡ t.count → now.sent ≡ t.sent → ((u : Transaction) → (now.held u ≡ t.held u) ⊎ (now.held u ≡ free)) → Holds t → Holds now
less_holds t now counts sents less h = record { begun = λ u kind s e. by u kind s (less u) e; none_rests = λ u e. by_rests u (less u) e }
  where
    by : (u : Transaction) (kind : Kind) (s : ℕ) → (now.held u ≡ t.held u) ⊎ (now.held u ≡ free) → now.held u ≡ waits kind s → (s ≤ now.count) × (begun_in (now.sent s) ≡ Some u)
    by u kind s (inl same) e = let was = h.begun u kind s (sym same ∙ e) in let low = was.0 in (omega (arith, low, counts), ap (λ f. begun_in (f s)) sents ∙ was.1)
    by u kind s (inr none) e = absurd (let no : free ≡ waits kind s = sym none ∙ e in cc no)

    by_rests : (u : Transaction) → (now.held u ≡ t.held u) ⊎ (now.held u ≡ free) → now.held u ≡ rests → ⊥
    by_rests u (inl same) e = h.none_rests u (sym same ∙ e)
    by_rests u (inr none) e = let no : free ≡ rests = sym none ∙ e in cc no

got_parts : (found : Option Sending) (s : ℕ) (t : Terms) → ((gets found s t).count ≡ t.count) × ((gets found s t).sent ≡ t.sent)
got_parts None s t = (refl, refl)
got_parts (Some q) s t = let kept = gets_keeps (part_of q.bytes) s q (is_served s (is_news s (arrives s t))) in (ap (λ (p : Parts). p.count) kept, ap (λ (p : Parts). p.sent) kept)

ignored_parts : (found : Option Sending) (cause : Cause) (s : ℕ) (t : Terms) → ((ignores_that found cause s t).count ≡ t.count) × ((ignores_that found cause s t).sent ≡ t.sent)
ignored_parts None cause s t = (refl, refl)
ignored_parts (Some q) cause s t = let kept = ignores_keeps cause s q (arrives s t) in (ap (λ (p : Parts). p.count) kept, ap (λ (p : Parts). p.sent) kept)

-- ---- each moment
note_holds : (note : Note) (past : List Moment) → DrillAt (said note) past → SentAt (said note) past → Holds (terms past) → Holds (noted note (terms past))
note_holds (notes.Sent s generation from to bytes) past d sent h = sent_holds s (record { generation = generation; from = from; to = to; bytes = bytes; injected = (terms past).injected s }) (terms past) sent.0 h
note_holds (notes.Got s) past d sent h = let kept = got_parts ((terms past).sent s) s (terms past) in less_holds (terms past) (gets ((terms past).sent s) s (terms past)) kept.0 kept.1 (gets_held ((terms past).sent s) s (terms past)) h
note_holds (notes.Ignored s cause) past d sent h =
    let kept = ignored_parts ((terms past).sent s) cause s (terms past) in
    less_holds (terms past) (ignores_that ((terms past).sent s) cause s (terms past)) kept.0 kept.1 (λ u. inl (ap (λ (x : Tables). x.held u) (ignores_tables ((terms past).sent s) cause s (terms past)))) h
note_holds (notes.Lost s) past d sent h = absurd (let no : false ≡ true = d in cc no)
note_holds (notes.TimedOut s) past d sent h = absurd (let no : false ≡ true = d in cc no)
note_holds (notes.Injected s) past d sent h = absurd (let no : false ≡ true = d in cc no)
note_holds (notes.Reset generation) past d sent h = absurd (let no : false ≡ true = d in cc no)
note_holds (notes.Seen node generation) past d sent h = absurd (let no : false ≡ true = d in cc no)
note_holds _ past d sent h = h

line_holds : (event : Event) (t : Terms) → IsDrillLine event → Holds t → Holds (opened event t)
line_holds (events.Act i (actions.Append cmd)) t is h = record { begun = h.begun; none_rests = h.none_rests }
line_holds events.Settle t is h = record { begun = h.begun; none_rests = h.none_rests }
line_holds _ t is h = absurd is

asked_holds : (past : List Moment) (event : Event) (t : Terms) → MayAsk past event → Holds t → Holds (opened event t)
asked_holds [] event t is h = subst (λ e. Holds (opened e t)) (sym is) (record { begun = h.begun; none_rests = h.none_rests })
asked_holds (moment ∷ past) event t is h = line_holds event t is h

all_hold : (past : List Moment) → EachMoment DrillAt past → EachMoment SentAt past → Holds (terms past)
all_hold [] d sent = record { begun = λ u kind s e. absurd (let no : free ≡ waits kind s = e in cc no); none_rests = λ u e. (let no : free ≡ rests = e in cc no) }
all_hold (asked line event ∷ past) d sent = asked_holds past event (terms past) d.0 (all_hold past d.1 sent.1)
all_hold (said note ∷ past) d sent = note_holds note past d.0 sent.0 (all_hold past d.1 sent.1)

-- ---- where no request is under way
none_held : (t : Terms) → Young t → Holds t → ((serial : ℕ) → is_under_way t serial ≡ false) → NoneIsHeld t
none_held t y h none = record { waits = λ u kind s old e. by u kind s old e; rests = λ u old e. h.none_rests u e }
  where
    by : (u : Transaction) (kind : Kind) (s : ℕ) → u.generation ≡ t.bus → t.held u ≡ waits kind s → ⊥
    by u kind s old e =
        let first : is_under_way t s ≡ ((t.generation u.requester == u.generation) && is_waiting_for (t.held u) s) = ap (λ o. waits_for t o s) (h.begun u kind s e).1 in
        let now : t.generation u.requester ≡ u.generation = y.generations u.requester ∙ sym (old ∙ y.bus) in
        let second : ((t.generation u.requester == u.generation) && is_waiting_for (t.held u) s) ≡ true
        = ap (λ g. (g == u.generation) && is_waiting_for (t.held u) s) now ∙ (ap (λ b. b && is_waiting_for (t.held u) s) (nat_same u.generation) ∙ (ap (λ x. is_waiting_for x s) e ∙ nat_same s)) in
        let no : false ≡ true = sym (none s) ∙ (first ∙ second) in
        cc no

settle_holds : (disks : List Disk) (entry : Entry) (before : List Entry) → IsDrillRun disks (entry ∷ before) → RestsWhereStill (entry ∷ before) → entry.event ≡ events.Settle → NoneIsHeld (terms (history (entry ∷ before)))
settle_holds disks entry before r still e =
    let past : List Moment = history (entry ∷ before) in
    let d = drill_moments disks (entry ∷ before) r.brings r.lines in
    let settles = drills_settle disks (entry ∷ before) r in
    none_held (terms past) (young past d r.packets) (all_hold past d r.packets) (still.0 settles.quiet.lossless (settles.at_rest e))

pub rest_at_settles : (disks : List Disk) (entries : List Entry) → IsDrillRun disks entries → RestsWhereStill entries → RestsAtSettles entries
rest_at_settles disks [] r still = tt
rest_at_settles disks (entry ∷ []) r still = (settle_holds disks entry [] r still, tt)
rest_at_settles disks (entry ∷ next ∷ before) r still = (settle_holds disks entry (next ∷ before) r still, rest_at_settles disks (next ∷ before) (before_last disks entry next before r) still.1)
