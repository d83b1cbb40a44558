-- A packet that is not sent yet was not judged, and an action of an initiator judges none.
use Rattle.sbp_world.proofs.Words.Std.{arith, ◌≡◌, ◌∙◌, refl, ap, ℕ, ◌+◌, ◌<◌, nat_eq, Bool, true, false, cond, List, [], ◌∷◌, Option, Some, None, nat_tests}
use Rattle.sbp_world.proofs.Words.Wire.{SerialsCount, node_of, Cause, Action, Outgoing, Side, empty_outbox, Moment, asked, said, Sending, asked_by, is_to, part_of, Terms, arrives, begun_in, gets, ignores, ignores_that, is_news, is_served, terms, LabelParts}
use Rattle.sbp_world.proofs.Words.Initiator.{act_step, Turn}
use Rattle.sbp_world.proofs.Words.World.{acted, acted_by, weight_in, under_way, posted, sent, sent_all, sent_to, told, told_all, WorldState, initiator_at, with_initiator}
use Rattle.sbp_journal.specs.declared.cause.Cause.TheVariants as causes
use Rattle.sbp_journal.specs.declared.note.Note.TheVariants as notes
use Rattle.sbp_journal.specs.declared.side.Side.TheVariants as sides
use Rattle.sbp_world.proofs.InitiatorForms as own
use Rattle.sbp_world.proofs.Formed.{AreOwn}
use Rattle.sbp_world.proofs.Agents.Management.Owned.{leaves_all}
use Rattle.sbp_world.proofs.Agents.Management.Still.{hist}
use Rattle.sbp_world.proofs.Hosts.Remaining.{gets_same as got_same, ignores_that_same, opened_same as opens_same, times_out_same as late_same}
use Rattle.sbp_world.proofs.Hosts.SentMoments.{count_now, sent_now}
use Rattle.sbp_world.proofs.Lists.OpenNews.{judges_if_same, opened_same, sends_same, times_out_same}
use Rattle.sbp_world.proofs.Lists.ManageTerms.{judges_news, part_news}

module _ (r : ℕ) where
  some_none : (packet : Sending) → Some packet ≡ None → ⊥
  some_none packet e = cc

  away : (s : ℕ) (t : Terms) → nat_eq r s ≡ false → (is_news s t).news r ≡ t.news r
  away s t e = ap (λ b. cond b (t.news s + 1) (t.news r)) e

  pub gets_away : (found : Option Sending) (s : ℕ) (t : Terms) → (nat_eq r s ≡ true → found ≡ None) → (gets found s t).news r ≡ t.news r
  gets_away None s t h = refl
  gets_away (Some packet) s t h = by (nat_eq r s) refl
    where
      by : (b : Bool) → nat_eq r s ≡ b → (gets (Some packet) s t).news r ≡ t.news r
      by true e = absurd (some_none packet (h e))
      by false e = ap (λ (f : ℕ → ℕ). f r) (part_news (part_of packet.bytes) s packet (is_served s (is_news s (arrives s t)))) ∙ away s (arrives s t) e

  ignores_away : (cause : Cause) (s : ℕ) (packet : Sending) (t : Terms) → nat_eq r s ≡ false → (ignores cause s packet t).news r ≡ t.news r
  ignores_away causes.Generation s packet t e = refl
  ignores_away causes.Grammar s packet t e = ap (λ (f : ℕ → ℕ). f r) (judges_if_same r (is_to packet.bytes (t.ids packet.generation packet.to)) (asked_by packet) s packet (is_news s t)) ∙ away s t e
  ignores_away causes.Label s packet t e = away s t e
  ignores_away causes.Again s packet t e = ap (λ (f : ℕ → ℕ). f r) (judges_news (asked_by packet) (Some causes.Again) s packet t)
  ignores_away causes.Source s packet t e = ap (λ (f : ℕ → ℕ). f r) (judges_news (asked_by packet) (Some causes.Source) s packet (is_news s t)) ∙ away s t e
  ignores_away causes.Login s packet t e = ap (λ (f : ℕ → ℕ). f r) (judges_news (asked_by packet) (Some causes.Login) s packet (is_news s t)) ∙ away s t e
  ignores_away causes.Slot s packet t e = ap (λ (f : ℕ → ℕ). f r) (judges_news (asked_by packet) (Some causes.Slot) s packet (is_served s (is_news s t))) ∙ away s t e

  pub that_away : (found : Option Sending) (cause : Cause) (s : ℕ) (t : Terms) → (nat_eq r s ≡ true → found ≡ None) → (ignores_that found cause s t).news r ≡ t.news r
  that_away None cause s t h = refl
  that_away (Some packet) cause s t h = by (nat_eq r s) refl
    where
      by : (b : Bool) → nat_eq r s ≡ b → (ignores_that (Some packet) cause s t).news r ≡ t.news r
      by true e = absurd (some_none packet (h e))
      by false e = ignores_away cause s packet (arrives s t) e

  pub record Unsent (ms : List Moment) : Type 0 where
    pub sent : (terms ms).sent r ≡ None
    pub news : (terms ms).news r ≡ 0

  pub at_it : (s : ℕ) (t : Terms) → t.sent r ≡ None → nat_eq r s ≡ true → t.sent s ≡ None
  at_it s t e f = let same : s ≡ r = grind (arith, nat_tests) in ap t.sent same ∙ e

  pub unsent : (ms : List Moment) → SerialsCount ms → (terms ms).count < r → Unsent ms
  unsent [] c l = record { sent = refl; news = refl }
  unsent (asked line event ∷ past) c l =
      let t = terms past in
      let k = opens_same event t in
      let n = k.count in
      let u = unsent past c (omega (arith, l, n)) in
      record { sent = ap (λ (f : ℕ → Option Sending). f r) k.sent ∙ u.sent; news = ap (λ (f : ℕ → ℕ). f r) (opened_same r event t) ∙ u.news }
  unsent (said (notes.Sent s generation from to bytes) ∷ past) c l =
      let t = terms past in
      let n = count_now past s generation from to bytes in
      let is = c.0 in
      let u = unsent past c.1 (omega (arith, l, n)) in
      let packet : Sending = record { generation = generation; from = from; to = to; bytes = bytes; injected = t.injected s } in
      let other : nat_eq r s ≡ false = sent_other s t.count (terms (said (notes.Sent s generation from to bytes) ∷ past)).count l n is in
      record {
        sent = ap (λ (f : ℕ → Option Sending). f r) (sent_now past s generation from to bytes) ∙ (ap (λ b. cond b (Some packet) (t.sent r)) other ∙ u.sent);
        news = ap (λ (f : ℕ → ℕ). f r) (sends_same r s packet t) ∙ u.news;
      }
    where
      sent_other : (s count now : ℕ) → now < r → now ≡ count + 1 → s ≡ count + 1 → nat_eq r s ≡ false
      sent_other s count now l n is = grind (arith, nat_tests)
  unsent (said (notes.Got s) ∷ past) c l =
      let t = terms past in
      let k = got_same (t.sent s) s t in
      let n = k.count in
      let u = unsent past c (omega (arith, l, n)) in
      record { sent = ap (λ (f : ℕ → Option Sending). f r) k.sent ∙ u.sent; news = gets_away (t.sent s) s t (at_it s t u.sent) ∙ u.news }
  unsent (said (notes.Ignored s cause) ∷ past) c l =
      let t = terms past in
      let k = ignores_that_same (t.sent s) cause s t in
      let n = k.count in
      let u = unsent past c (omega (arith, l, n)) in
      record { sent = ap (λ (f : ℕ → Option Sending). f r) k.sent ∙ u.sent; news = that_away (t.sent s) cause s t (at_it s t u.sent) ∙ u.news }
  unsent (said (notes.TimedOut s) ∷ past) c l =
      let t = terms past in
      let k = late_same (begun_in (t.sent s)) t in
      let n = k.count in
      let u = unsent past c (omega (arith, l, n)) in
      record { sent = ap (λ (f : ℕ → Option Sending). f r) k.sent ∙ u.sent; news = ap (λ (f : ℕ → ℕ). f r) (times_out_same r (begun_in (t.sent s)) t) ∙ u.news }
  unsent (said note ∷ past) c l = let u = unsent past c l in record { sent = u.sent; news = u.news }

  -- ---- an action
  module _ (past : List Moment) (n : ℕ) where
    abbrev pub N : WorldState → Type 0
    N w = (terms (hist past w)).news r ≡ n

    own_told : (weight : ℕ) (side : List Side) (w : WorldState) → AreOwn side → N w → N (told_all weight side w)
    unfolding told_all told
    own_told weight [] w h o = o
    own_told weight (sides.Own note ∷ later) w h o = own_told weight later (told weight (sides.Own note) w) h.1 (ap (λ (t : Terms). t.news r) ((leaves_all note h.0.1).wire (terms (hist past w))) ∙ o)
    own_told weight (sides.Opened a b ∷ later) w h o = absurd h.0
    own_told weight (sides.Ran a b c d e ∷ later) w h o = absurd h.0
    own_told weight (sides.Ended a b c ∷ later) w h o = absurd h.0
    own_told weight (sides.Dead a b ∷ later) w h o = absurd h.0
    own_told weight (sides.Cut a b ∷ later) w h o = absurd h.0
    own_told weight (sides.Managed a b c d e ∷ later) w h o = absurd h.0
    own_told weight (sides.ManageFailed a b ∷ later) w h o = absurd h.0
    own_told weight (sides.Held a ∷ later) w h o = absurd h.0
    own_told weight (sides.Expired a ∷ later) w h o = absurd h.0
    own_told weight (sides.Back a ∷ later) w h o = absurd h.0
    own_told weight (sides.Left a ∷ later) w h o = absurd h.0
    own_told weight (sides.Cleared a ∷ later) w h o = absurd h.0
    own_told weight (sides.Unsolicited a ∷ later) w h o = absurd h.0
    own_told weight (sides.Unsent a ∷ later) w h o = absurd h.0

    own_posted : (from to : ℕ) (bytes : List ℕ) (w : WorldState) → N w → N (posted from to false bytes w)
    unfolding posted
    own_posted from to bytes w o = ap (λ (f : ℕ → ℕ). f r) (sends_same r (w.store.last + 1) (record { generation = _; from = from; to = to; bytes = bytes; injected = (terms (hist past w)).injected (w.store.last + 1) }) (terms (hist past w))) ∙ o

    own_asked : (serial to node peer : ℕ) (label : Option LabelParts) (w : WorldState) → N w → N (under_way serial to node peer label w)
    own_asked serial to node peer None w o = o
    own_asked serial to node peer (Some label) w o = o

    own_to : (to : Option ℕ) (from : ℕ) (packet : Outgoing) (w : WorldState) → N w → N (sent_to to from packet w)
    own_to None from packet w o = o
    own_to (Some to) from packet w o = own_asked (w.store.last + 1) to from packet.to packet.label (posted from to false packet.bytes w) (own_posted from to packet.bytes w o)

    own_sent : (from : ℕ) (packets : List Outgoing) (w : WorldState) → N w → N (sent_all from packets w)
    unfolding sent_all sent
    own_sent from [] w o = o
    own_sent from (packet ∷ later) w o = own_sent from later (sent from packet w) (own_to (node_of w.generations from packet.to) from packet w o)

    acts_by : (line i : ℕ) (action : Action) (w : WorldState) (x : Option ℕ × Turn) → own.At x.1 → N w → N (acted_by x line i action w)
    acts_by line i action w (Some number, turn) h o = o
    acts_by line i action w (None, turn) h o =
        let v = with_initiator i turn.1 w in
        own_sent (i + 1) turn.0.packets (told_all (weight_in action) turn.0.sides v) (own_told (weight_in action) turn.0.sides v h o)

    pub acts : (line i : ℕ) (action : Action) (w : WorldState) → N w → N (acted line i action w)
    unfolding acted
    acts line i action w o = acts_by line i action w (act_step action empty_outbox (initiator_at w i)) (own.acts action empty_outbox (initiator_at w i) tt) o
