-- What was taken is of a generation that its receiver had seen: move by move nodes see the latest generation, and a reset begins a later one; and a packet is judged by the generation of its receiver.
use Rattle.sbp_world.proofs.Words.Std.{arith, ◌≡◌, ◌∙◌, refl, sym, ap, subst, ℕ, ◌<◌, ◌≤◌, ◌++◌, nat_eq, not, Bool, true, false, cond, List, [], ◌∷◌, map, Option, Some, None, Result, Ok, Err, nat_tests, same_Some}
use Rattle.sbp_world.proofs.Words.Wire.{AreJudged, Asked, Event, Finding, Moment, Node, Note, Row, RowFacts, Sending, SerialsCount, Stale, Terms, Transaction, arrives, asked, begun_in, by_generation, gets, ignores, ignores_that, of_again, of_generation, of_grammar, of_label, of_request, of_response, opened, row_of, said, terms, times_out}
use Rattle.sbp_world.proofs.Words.Laws.{EachMoment}
use Rattle.sbp_world.proofs.Words.Target.{Disk}
use Rattle.sbp_world.proofs.Words.World.{WorldState, after, after_all, beginning, begun, history_of, more_deliveries}
use Rattle.bus_transactions.specs.Judging.{facts_of, may_ignore_by}
use Rattle.bus_transactions.specs.May.{Always, May, is_plain}
use Rattle.bus_transactions.specs.Moves.{Move, answer, answering, ask, asking, deliver, disown, expire, expiring, inject, lose, moved, reset, see, start, tell, after as after_moves}
use Rattle.bus_transactions.specs.Wire.{Due, Wire, decided, first_note, id_for}
use Rattle.bus_transactions.proofs.All.{all_stand}
use Rattle.bus_transactions.proofs.Reaches.{law_of as wire_law}
use Rattle.bus_transactions.proofs.Stands.{Stands}
use Rattle.label_table.specs.Layer.{asking_step, expiring_step, judging_step}
use Rattle.sbp_journal.specs.declared.cause.Cause.{Cause}
use Rattle.sbp_journal.specs.declared.cause.Cause.TheVariants as causes
use Rattle.sbp_journal.specs.declared.event.Event.TheVariants as events
use Rattle.sbp_journal.specs.declared.note.Note.TheVariants as notes
use Rattle.sbp_world.specs.Completing.EndsLevels.{AreLevel, AreRisen, IsLevel, LevelAt, LevelLaw, RisesAt, WasSeen}
use Rattle.sbp_world.proofs.Common.{untrue}
use Rattle.sbp_world.proofs.Completing.DeathsHistory.{note_bus}
use Rattle.sbp_world.proofs.Completing.LabelsPlaces.{IsHolding, holding_everywhere}
use Rattle.sbp_world.proofs.Hosts.Remaining.{remains, serials_behind}
use Rattle.sbp_world.proofs.Hosts.SentMoments.{sent_below}
use Rattle.sbp_world.proofs.Lists.BufferGets.{judged_from}
use Rattle.sbp_world.proofs.Lists.ManageKnown.{current_of}
use Rattle.sbp_world.proofs.Lists.ManageSends.{opened_terms, sent_terms}
use Rattle.sbp_world.proofs.Lists.ManageStays.{zero_or}
use Rattle.sbp_world.proofs.Lists.ManageTerms.{got_rests, ignored_rests, timed_rests}
use Rattle.sbp_world.proofs.Wire.Starts.{laws_of}

-- ---- move by move
abbrev pub RisenLaw : Wire → Type 0
RisenLaw w = AreRisen w.past

decided_rises : (cause : Option Cause) (s : ℕ) (past : List Moment) → AreRisen past → AreRisen (said (decided cause s) ∷ past)
decided_rises None s past c = (tt, c)
decided_rises (Some cause) s past c = (tt, c)

first_rises : (finding : Finding (Unit {0})) (cause : Option Cause) (s : ℕ) (past : List Moment) → AreRisen past → AreRisen (said (first_note finding cause s) ∷ past)
first_rises of_generation cause s past c = (tt, c)
first_rises of_grammar cause s past c = (tt, c)
first_rises of_label cause s past c = (tt, c)
first_rises (of_response p label purpose) cause s past c = (tt, c)
first_rises (of_again p rcode) cause s past c = (tt, c)
first_rises (of_request p) cause s past c = decided_rises cause s past c

asked_rises : (w : Wire) (node peer : ℕ) (r : Option Asked × Node) → AreRisen w.past → AreRisen (asking r node peer w).past
asked_rises w node peer (Some found, layer) c = (tt, c)
asked_rises w node peer (None, layer) c = c

answered_rises : (w : Wire) (due : Option Due) (rcode : ℕ) (given : List ℕ) → AreRisen w.past → AreRisen (answering due rcode given w).past
answered_rises w None rcode given c = c
answered_rises w (Some due) rcode given c = (tt, c)

expired_rises : (w : Wire) (node peer label : ℕ) (r : Result (Option (Unit {0})) Stale × Node) → AreRisen w.past → AreRisen (expiring r node peer label w).past
expired_rises w node peer label (Ok purpose, layer) c = (tt, c)
expired_rises w node peer label (Err stale, layer) c = c

told_rises : (note : Note) (past : List Moment) → is_plain note ≡ true → AreRisen past → AreRisen (said note ∷ past)
unfolding is_plain
told_rises (notes.Reset generation) past e c = cc
told_rises (notes.Seen node generation) past e c = cc
told_rises _ past e c = (tt, c)

move_rises : (w : Wire) → Stands w → (move : Move) → May move w → AreRisen w.past → AreRisen (moved move w).past
move_rises w h (ask node peer body) may c = asked_rises w node peer (asking_step (w.layer node) (id_for w node peer) body tt) c
move_rises w h (answer rcode given) may c = answered_rises w w.due rcode given c
move_rises w h (inject node peer bytes) may c = (tt, (tt, c))
move_rises w h (deliver kept cause) may c = first_rises (judging_step (w.layer kept.sent.to) kept.sent.generation kept.sent.bytes).0 cause kept.serial w.past c
move_rises w h (lose s) may c = (tt, c)
move_rises w h (expire node peer label) may c = expired_rises w node peer label.number (expiring_step (w.layer node) (id_for w node peer) label) c
move_rises w h (disown node peer label) may c = c
move_rises w h (reset line physical) may c = (let b = h.bus_is in omega (arith, b), (tt, c))
move_rises w h (see node) may c = (h.bus_is, c)
move_rises w h (start line event) may c = (tt, c)
move_rises w h (tell note) may c = told_rises note w.past may c

pub risen_always : Always RisenLaw
risen_always [] may = tt
risen_always (move ∷ moves) may = move_rises (after_moves moves) (all_stand moves may.1) move may.0 (risen_always moves may.1)

-- ---- the latest generation does not fall, and no node is in a later one
pub opened_bus : (event : Event) (t : Terms) → (opened event t).bus ≡ t.bus
opened_bus (events.Reset physical) t = refl
opened_bus (events.Repeat serial) t = refl
opened_bus _ t = refl

pub late_bus : (u : Option Transaction) (t : Terms) → (times_out u t).bus ≡ t.bus
late_bus None t = refl
late_bus (Some u) t = refl

pub bus_grows : (m : Moment) (past : List Moment) → RisesAt m past → (terms past).bus ≤ (terms (m ∷ past)).bus
bus_grows (asked line event) past r = let e = opened_bus event (terms past) in omega (arith, e)
bus_grows (said (notes.Reset generation)) past r = omega (arith, r)
bus_grows (said (notes.Sent serial generation from to bytes)) past r = let e = note_bus (notes.Sent serial generation from to bytes) past tt in omega (arith, e)
bus_grows (said (notes.Got serial)) past r = let e = note_bus (notes.Got serial) past tt in omega (arith, e)
bus_grows (said (notes.Ignored serial cause)) past r = let e = note_bus (notes.Ignored serial cause) past tt in omega (arith, e)
bus_grows (said (notes.TimedOut serial)) past r = let e = late_bus (begun_in ((terms past).sent serial)) (terms past) in omega (arith, e)
bus_grows (said note) past r = omega arith

-- which generation a node is in changes as it sees one alone
abbrev is_sight : Moment → Bool
is_sight (said (notes.Seen node generation)) = true
is_sight moment = false

same_generation : (m : Moment) (past : List Moment) → is_sight m ≡ false → (node : ℕ) → (terms (m ∷ past)).generation node ≡ (terms past).generation node
same_generation (asked line event) past e node = ap (λ (f : ℕ → ℕ). f node) (opened_terms event (terms past)).generation
same_generation (said (notes.Seen other generation)) past e node = untrue (sym e)
same_generation (said (notes.Sent serial generation from to bytes)) past e node = ap (λ (f : ℕ → ℕ). f node) (sent_terms serial (record { generation = generation; from = from; to = to; bytes = bytes; injected = (terms past).injected serial }) (terms past)).generation
same_generation (said (notes.Got serial)) past e node = ap (λ (f : ℕ → ℕ). f node) (got_rests serial past).generation
same_generation (said (notes.Ignored serial cause)) past e node = ap (λ (f : ℕ → ℕ). f node) (ignored_rests serial cause past).generation
same_generation (said (notes.TimedOut serial)) past e node = ap (λ (f : ℕ → ℕ). f node) (timed_rests serial past).generation
same_generation (said note) past e node = refl

module _ (other generation : ℕ) (past : List Moment) (r : generation ≡ (terms past).bus) (old : (node : ℕ) → (terms past).generation node ≤ (terms past).bus) (node : ℕ) where
  abbrev now : List Moment
  now = said (notes.Seen other generation) ∷ past

  sight_both : ((terms past).generation node ≤ (terms now).generation node) × ((terms now).generation node ≤ (terms now).bus)
  sight_both = by (nat_eq node other) refl
    where
      by : (b : Bool) → nat_eq node other ≡ b → ((terms past).generation node ≤ (terms now).generation node) × ((terms now).generation node ≤ (terms now).bus)
      by true e =
          let is : (terms now).generation node ≡ generation = ap (λ b. cond b generation ((terms past).generation node)) e in
          let o = old node in
          (omega (arith, is, r, o), omega (arith, is, r))
      by false e =
          let is : (terms now).generation node ≡ (terms past).generation node = ap (λ b. cond b generation ((terms past).generation node)) e in
          let o = old node in
          (omega (arith, is), omega (arith, is, o))

module _ (m : Moment) (past : List Moment) (r : RisesAt m past) (old : (node : ℕ) → (terms past).generation node ≤ (terms past).bus) (node : ℕ) where
  abbrev Both : Type 0
  Both = ((terms past).generation node ≤ (terms (m ∷ past)).generation node) × ((terms (m ∷ past)).generation node ≤ (terms (m ∷ past)).bus)

  apart_both : is_sight m ≡ false → Both
  apart_both e =
      let same = same_generation m past e node in
      let grow = bus_grows m past r in
      let o = old node in
      (omega (arith, same), omega (arith, same, grow, o))

both : (m : Moment) (past : List Moment) (r : RisesAt m past) (old : (node : ℕ) → (terms past).generation node ≤ (terms past).bus) (node : ℕ) → Both m past r old node
both (said (notes.Seen other generation)) past r old node = sight_both other generation past r old node
both (said note) past r old node = apart_both (said note) past r old node refl
both (asked line event) past r old node = apart_both (asked line event) past r old node refl

-- no node is in a later one
pub aged : (past : List Moment) → AreRisen past → (node : ℕ) → (terms past).generation node ≤ (terms past).bus
aged [] r node = omega arith
aged (m ∷ past) r node = (both m past r.0 (aged past r.1) node).1

-- ---- a packet that is judged is of the generation of its receiver
by_row : (b : Bool) (x : Row) (cause : Cause) → may_ignore_by (cond (not b) by_generation x) cause ≡ true → (cause ≡ causes.Generation → ⊥) → b ≡ true
by_row true x cause e other = refl
by_row false x causes.Generation e other = absurd (other refl)
by_row false x causes.Grammar e other = untrue e
by_row false x causes.Label e other = untrue e
by_row false x causes.Again e other = untrue e
by_row false x causes.Source e other = untrue e
by_row false x causes.Login e other = untrue e
by_row false x causes.Slot e other = untrue e

pub current_row : (f : RowFacts) (cause : Cause) → may_ignore_by (row_of f) cause ≡ true → (cause ≡ causes.Generation → ⊥) → f.is_current ≡ true
current_row f cause e other = by_row f.is_current _ cause e other

-- ---- where a packet is taken as new
data Takes (m : Moment) (serial : ℕ) : Type 0 where
  takes_got : m ≡ said (notes.Got serial) → Takes m serial
  takes_ignored : (cause : Cause) → m ≡ said (notes.Ignored serial cause) → Takes m serial

late_news : (u : Option Transaction) (t : Terms) → (times_out u t).news ≡ t.news
late_news None t = refl
late_news (Some u) t = refl

taken_now : (m : Moment) (past : List Moment) (r : ℕ) → (terms past).news r ≡ 0 → 0 < (terms (m ∷ past)).news r → Takes m r
taken_now (asked line event) past r new taken = let same = ap (λ (x : ℕ → ℕ). x r) (opened_terms event (terms past)).news in absurd (omega (arith, same, new, taken))
taken_now (said (notes.Sent serial g from to bytes)) past r new taken =
    let same = ap (λ (x : ℕ → ℕ). x r) (sent_terms serial (record { generation = g; from = from; to = to; bytes = bytes; injected = (terms past).injected serial }) (terms past)).news in
    absurd (omega (arith, same, new, taken))
taken_now (said (notes.Got serial)) past r new taken = by (nat_eq r serial) refl
  where
    by : (b : Bool) → nat_eq r serial ≡ b → Takes (said (notes.Got serial)) r
    by true e = let same : serial ≡ r = grind (arith, nat_tests) in takes_got (ap (λ n. said (notes.Got n)) same)
    by false e = let other = (got_rests serial past).others r e in absurd (omega (arith, other, new, taken))
taken_now (said (notes.Ignored serial cause)) past r new taken = by (nat_eq r serial) refl
  where
    by : (b : Bool) → nat_eq r serial ≡ b → Takes (said (notes.Ignored serial cause)) r
    by true e = let same : serial ≡ r = grind (arith, nat_tests) in takes_ignored cause (ap (λ n. said (notes.Ignored n cause)) same)
    by false e = let other = (ignored_rests serial cause past).others r e in absurd (omega (arith, other, new, taken))
taken_now (said (notes.TimedOut serial)) past r new taken = let same = ap (λ (x : ℕ → ℕ). x r) (late_news (begun_in ((terms past).sent serial)) (terms past)) in absurd (omega (arith, same, new, taken))
taken_now (said note) past r new taken = absurd (omega (arith, new, taken))

-- then it is of the generation of its receiver
record IsCurrent (past : List Moment) (serial : ℕ) : Type 0 where
  packet : Sending
  sent : (terms past).sent serial ≡ Some packet
  current : packet.generation ≡ (terms past).generation packet.to

module _ (past : List Moment) (r : ℕ) (new : (terms past).news r ≡ 0) where
  abbrev t : Terms
  t = terms past

  got_current : (found : Option Sending) → t.sent r ≡ found → AreJudged (said (notes.Got r) ∷ past) → 0 < (terms (said (notes.Got r) ∷ past)).news r → IsCurrent past r
  got_current None e j taken = let same : (terms (said (notes.Got r) ∷ past)).news r ≡ t.news r = ap (λ found. (gets found r t).news r) e in absurd (omega (arith, same, new, taken))
  got_current (Some q) e j taken = record { packet = q; sent = e; current = current_of past q (j.0 q e) }

  ignored_current : (cause : Cause) (found : Option Sending) → t.sent r ≡ found → AreJudged (said (notes.Ignored r cause) ∷ past) → 0 < (terms (said (notes.Ignored r cause) ∷ past)).news r → IsCurrent past r
  ignored_current cause None e j taken = let same : (terms (said (notes.Ignored r cause) ∷ past)).news r ≡ t.news r = ap (λ found. (ignores_that found cause r t).news r) e in absurd (omega (arith, same, new, taken))
  ignored_current cause (Some q) e j taken =
      let row = current_row (facts_of t q) cause (j.0 q e) (λ c.
      let same : (terms (said (notes.Ignored r cause) ∷ past)).news r ≡ t.news r = ap (λ found. (ignores_that found cause r t).news r) e ∙ ap (λ x. (ignores x r q (arrives r t)).news r) c in
      absurd (omega (arith, same, new, taken))) in
      record { packet = q; sent = e; current = grind (arith, nat_tests, row) }

  current_by : (m : Moment) → AreJudged (m ∷ past) → 0 < (terms (m ∷ past)).news r → Takes m r → IsCurrent past r
  current_by m j taken (takes_got e) = got_current (t.sent r) refl (subst (λ x. AreJudged (x ∷ past)) e j) (subst (λ x. 0 < (terms (x ∷ past)).news r) e taken)
  current_by m j taken (takes_ignored cause e) = ignored_current cause (t.sent r) refl (subst (λ x. AreJudged (x ∷ past)) e j) (subst (λ x. 0 < (terms (x ∷ past)).news r) e taken)

pub sent_kept : (m : Moment) (past : List Moment) → SerialsCount (m ∷ past) → (r : ℕ) (q : Sending) → (terms past).sent r ≡ Some q → (terms (m ∷ past)).sent r ≡ Some q
sent_kept m past c r q e = (remains (m ∷ []) past c).sent r (sent_below past r q (serials_behind m past c) e) ∙ e

pub judged_behind : (m : Moment) (past : List Moment) → AreJudged (m ∷ past) → AreJudged past
judged_behind m past j = judged_from (m ∷ []) past j

pub seen_of : (past : List Moment) → AreRisen past → AreJudged past → SerialsCount past → (r : ℕ) → 0 < (terms past).news r → WasSeen past r
seen_of [] k j c r taken = absurd (omega (arith, taken))
seen_of (m ∷ past) k j c r taken =
    let back = serials_behind m past c in
    let behind = judged_behind m past j in
    let old = aged past k.1 in
    zero_or ((terms past).news r)
    (λ new.
    let x = current_by past r new m j taken (taken_now m past r new taken) in
    let current = x.current in
    let grow = (both m past k.0 old x.packet.to).0 in
    record { packet = x.packet; sent = sent_kept m past c r x.packet x.sent; seen = omega (arith, current, grow) })
    (λ l.
    let x = seen_of past k.1 behind back r l in
    let seen = x.seen in
    let grow = (both m past k.0 old x.packet.to).0 in
    record { packet = x.packet; sent = sent_kept m past c r x.packet x.sent; seen = omega (arith, seen, grow) })

-- ---- one of the latest generation
module _ (r : ℕ) (q : Sending) where
  level_at : (past : List Moment) → AreRisen past → WasSeen past r → ((p : Sending) → (terms past).sent r ≡ Some p → p ≡ q) → (terms past).bus ≤ q.generation → IsLevel past q
  level_at past k w is low =
      let seen : q.generation ≤ (terms past).generation q.to = subst (λ (p : Sending). p.generation ≤ (terms past).generation p.to) (is w.packet w.sent) w.seen in
      let high = aged past k q.to in
      record { here = omega (arith, seen, high, low); latest = omega (arith, seen, high, low) }

  levels : (past : List Moment) → AreRisen past → AreJudged past → SerialsCount past → ((p : Sending) → (terms past).sent r ≡ Some p → p ≡ q) → (terms past).bus ≤ q.generation → EachMoment (LevelAt r q) past
  levels [] k j c is low = tt
  levels (m ∷ past) k j c is low =
      let back = serials_behind m past c in
      let behind = judged_behind m past j in
      let before : (p : Sending) → (terms past).sent r ≡ Some p → p ≡ q = λ p e. is p (sent_kept m past c r p e) in
      let grow = bus_grows m past k.0 in
      let lower : (terms past).bus ≤ q.generation = omega (arith, low, grow) in
      ((λ taken. level_at past k.1 (seen_of past k.1 behind back r taken) before lower), levels past k.1 behind back before lower)

-- ---- each run
level_here : (disks : List Disk) (now : List Moment) (w : WorldState) → IsHolding disks now w → AreLevel now
level_here disks now w h serial q sent latest =
    let stands = h.holds.sound.stands in
    let laws = laws_of h.past w stands in
    levels serial q now (subst AreRisen (stands.is.past_is ∙ h.is) (wire_law RisenLaw risen_always stands.wire stands.reached)) (subst AreJudged h.is laws.judged) (subst SerialsCount h.is laws.serials)
    (λ p e. same_Some p q (sym e ∙ sent)) (omega (arith, latest))

pub level_law : LevelLaw
level_law = record {
  after_lines = λ line run r has small size. level_here run.start.disks (history_of line run) (after (beginning run) run.entries).world (holding_everywhere.after_lines line run r has small size);
  between = λ line run r has small size next most told m.
      let w = (after_all told (begun (after (beginning run) run.entries))).world in
      level_here run.start.disks (map said w.fresh ++ asked next (more_deliveries most) ∷ history_of line run) w (holding_everywhere.between line run r has small size next most told m);
}
