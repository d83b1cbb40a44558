-- Where a transaction of the wire ends: one that times out leaves all unsolicited statuses pending as they are, and a reset that their sender sees takes all away.
use Rattle.std.proofs.Common.{◌≡◌, ◌∙◌, refl, sym, ap, subst, ℕ, ◌==◌, ◌&&◌, ◌||◌, Bool, true, false, Option, Some, None}
use Rattle.sbp_journal.specs.Transactions.{Kind, Transaction, at, is_same}
use Rattle.sbp_journal.specs.Wire.{Held, Terms, rests, waits}
use Rattle.sbp_laws.specs.MediaLaw.{is_pending}
use Rattle.sbp_laws.specs.Packets.{begun_in, is_resting, is_waiting_for, receiver_in, rests_for, waits_for}
use Rattle.sbp_laws.specs.Targets.{is_serial}
use Rattle.turn_laws.proofs.PendingTerms.{at_it, beside, pending_alike, pending_late, same_is}
use Rattle.sbp_world.proofs.Wire.Kept.{and_false}

-- the terms differ in one transaction's label
pub record Moved (v : Transaction) (held : Held) (t now : Terms) : Type 0 where
  pub sent : now.sent ≡ t.sent
  pub generation : now.generation ≡ t.generation
  pub current : now.current ≡ t.current
  pub held_is : now.held ≡ at t.held v held

module _ (v : Transaction) (held : Held) (t now : Terms) (m : Moved v held t now) (node s : ℕ) where
  same_sent : now.sent s ≡ t.sent s
  same_sent = ap (λ f. f s) m.sent

  held_there : (u : Transaction) → is_same u v ≡ true → now.held u ≡ held
  held_there u e = ap (λ f. f u) m.held_is ∙ at_it t.held u v held e

  held_beside : (u : Transaction) → is_same u v ≡ false → now.held u ≡ t.held u
  held_beside u e = ap (λ f. f u) m.held_is ∙ beside t.held u v held e

  moved_alike : ((u : Transaction) → begun_in (t.sent s) ≡ Some u → is_same u v ≡ false) → is_pending now node s ≡ is_pending t node s
  moved_alike h = pending_alike node s t now (record {
    sent = same_sent;
    generation = λ u b. ap (λ f. f u.requester) m.generation;
    held = λ u b. held_beside u (h u b);
    current = λ u b. ap (λ f. f u) m.current;
  })

  -- by the transaction that it began
  by_begun : ((u : Transaction) → begun_in (t.sent s) ≡ Some u → is_same u v ≡ true → is_pending now node s ≡ is_pending t node s) → is_pending now node s ≡ is_pending t node s
  by_begun h = by (begun_in (t.sent s)) refl
    where
      none_there : {A : Type 0} (u : Transaction) → None ≡ Some u → A
      none_there u e = absurd (let x : None ≡ Some u = e in cc)

      same_there : (a b : Transaction) → Some a ≡ Some b → a ≡ b
      same_there a b e = cc

      by : (b : Option Transaction) → begun_in (t.sent s) ≡ b → is_pending now node s ≡ is_pending t node s
      by None e = moved_alike (λ u f. none_there u (sym e ∙ f))
      by (Some u) e = label (is_same u v) refl
        where
          label : (b : Bool) → is_same u v ≡ b → is_pending now node s ≡ is_pending t node s
          label true f = h u e f
          label false f = moved_alike (λ w g. subst (λ (x : Transaction). is_same x v ≡ false) (same_there u w (sym e ∙ g)) f)

module _ (v : Transaction) (t now : Terms) (kind : Kind) (own : ℕ) (was : t.held v ≡ waits kind own) (node s : ℕ) where
  was_there : (u : Transaction) → is_same u v ≡ true → t.held u ≡ waits kind own
  was_there u e = ap t.held (sym (same_is v u e)) ∙ was

  -- one times out
  pub lapses : Moved v rests t now → t.current v ≡ own → is_pending now node s ≡ is_pending t node s
  lapses m c =
      by_begun v rests t now m node s (λ u b e.
      pending_late node s t now u (same_sent v rests t now m node s) b kind own (ap (λ f. f u.requester) m.generation) (was_there u e) (held_there v rests t now m node s u e)
      (ap (λ f. f u) m.current ∙ (ap t.current (sym (same_is v u e)) ∙ c)))

-- its sender is in a later generation
pub forgets : (t now : Terms) (node s : ℕ) (u : Transaction) → now.sent s ≡ t.sent s → begun_in (t.sent s) ≡ Some u → (now.generation u.requester == u.generation) ≡ false → is_pending now node s ≡ false
forgets t now node s u sent begun e =
    ap (λ q. is_serial (receiver_in q) node && (waits_for now (begun_in q) s || rests_for now (begun_in q) s)) sent
    ∙ (ap (λ b. is_serial (receiver_in (t.sent s)) node && (waits_for now b s || rests_for now b s)) begun
    ∙ (ap (λ g. is_serial (receiver_in (t.sent s)) node && ((g && is_waiting_for (now.held u) s) || ((g && is_resting (now.held u)) && (now.current u == s)))) e ∙ and_false (is_serial (receiver_in (t.sent s)) node)))
