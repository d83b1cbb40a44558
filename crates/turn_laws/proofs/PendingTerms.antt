-- Whether an unsolicited status is pending to a node, by the terms of the wire: it is so from its sending on, while it is under way and where its label rests, until its response is got or a
-- reset is seen. What else is said of the wire leaves it so.
use Rattle.std.proofs.Common.{arith, ◌≡◌, ◌∙◌, refl, sym, ap, subst, inl, inr, ◌⊎◌, ℕ, ◌==◌, ◌&&◌, ◌||◌, nat_eq, Bool, true, false, cond, Option, Some, None}
use Rattle.std.proofs.lemmas.Bool.Decides.{nat_tests}
use Rattle.sbp_base.specs.Update.{upd}
use Rattle.sbp_journal.specs.Transactions.{Kind, Sending, Transaction, at, begun_by, is_same, part_of}
use Rattle.sbp_journal.specs.Wire.{Held, Owed, Terms, arrives, begins, free, gives, ignores, ignores_that, is_news, is_served, judges, judges_if, kind_in, pays, puts, rests, sends, waits}
use Rattle.sbp_journal.specs.declared.cause.Cause.{Cause}
use Rattle.sbp_journal.specs.declared.cause.Cause.TheVariants as causes
use Rattle.sbp_laws.specs.MediaLaw.{is_pending}
use Rattle.sbp_laws.specs.Packets.{begun_in, is_resting, is_waiting_for, receiver_in, rests_for, waits_for}
use Rattle.sbp_laws.specs.Targets.{is_serial}
use Rattle.sbp_world.proofs.Common.{equal, untrue}
use Rattle.sbp_world.proofs.Wire.Kept.{and_false}

-- ---- one transaction
abbrev pub Lasts : (now : ℕ) → Held → (current : ℕ) → Transaction → ℕ → Bool
Lasts now held current u s = ((now == u.generation) && is_waiting_for held s) || (((now == u.generation) && is_resting held) && (current == s))

-- two terms say the same of the packet with a serial
pub record Alike (s : ℕ) (t now : Terms) : Type 0 where
  pub sent : now.sent s ≡ t.sent s
  pub generation : (u : Transaction) → begun_in (t.sent s) ≡ Some u → now.generation u.requester ≡ t.generation u.requester
  pub held : (u : Transaction) → begun_in (t.sent s) ≡ Some u → now.held u ≡ t.held u
  pub current : (u : Transaction) → begun_in (t.sent s) ≡ Some u → now.current u ≡ t.current u

by_parts : (node s : ℕ) (t now : Terms) → now.sent s ≡ t.sent s → (waits_for now (begun_in (t.sent s)) s || rests_for now (begun_in (t.sent s)) s) ≡ (waits_for t (begun_in (t.sent s)) s || rests_for t (begun_in (t.sent s)) s) → is_pending now node s ≡ is_pending t node s
by_parts node s t now e f =
    ap (λ q. is_serial (receiver_in q) node && (waits_for now (begun_in q) s || rests_for now (begun_in q) s)) e ∙ ap (λ b. is_serial (receiver_in (t.sent s)) node && b) f

pub pending_alike : (node s : ℕ) (t now : Terms) → Alike s t now → is_pending now node s ≡ is_pending t node s
pending_alike node s t now a = by_parts node s t now a.sent (by (begun_in (t.sent s)) refl)
  where
    by : (b : Option Transaction) → begun_in (t.sent s) ≡ b → (waits_for now b s || rests_for now b s) ≡ (waits_for t b s || rests_for t b s)
    by None e = refl
    by (Some u) e =
        ap (λ g. Lasts g (now.held u) (now.current u) u s) (a.generation u e)
        ∙ (ap (λ h. Lasts (t.generation u.requester) h (now.current u) u s) (a.held u e) ∙ ap (λ c. Lasts (t.generation u.requester) (t.held u) c u s) (a.current u e))

-- a label that is free is in no transaction
pub none_lasts : (now current : ℕ) (u : Transaction) (s : ℕ) → Lasts now free current u s ≡ false
none_lasts now current u s = by (now == u.generation) (current == s)
  where
    by : (g c : Bool) → ((g && false) || ((g && false) && c)) ≡ false
    by true c = refl
    by false c = refl

-- another request has it
pub other_lasts : (now current : ℕ) (kind : Kind) (own : ℕ) (u : Transaction) (s : ℕ) → (own == s) ≡ false → Lasts now (waits kind own) current u s ≡ false
other_lasts now current kind own u s e = ap (λ x. ((now == u.generation) && x) || (((now == u.generation) && false) && (current == s))) e ∙ none_lasts now current u s

-- a request that is under way, and its label that rests behind it
late_lasts : (now : ℕ) (kind : Kind) (own : ℕ) (u : Transaction) (before s : ℕ) → Lasts now rests own u s ≡ Lasts now (waits kind own) before u s
late_lasts now kind own u before s = by (now == u.generation) (own == s) (before == s)
  where
    by : (g x c : Bool) → ((g && false) || ((g && true) && x)) ≡ ((g && x) || ((g && false) && c))
    by true true c = refl
    by true false c = refl
    by false x c = refl

-- what is pending is of now, and its label waits for it or rests
by_rests : (g x : Bool) → ((g && false) || ((g && true) && x)) ≡ true → g ≡ true
by_rests true x e = refl
by_rests false x e = untrue e

by_waits : (g y x : Bool) → ((g && y) || ((g && false) && x)) ≡ true → (g ≡ true) × (y ≡ true)
by_waits true true x e = (refl, refl)
by_waits true false x e = untrue e
by_waits false y x e = untrue e

pub lasts_so : (now : ℕ) (h : Held) (current : ℕ) (u : Transaction) (s : ℕ) → Lasts now h current u s ≡ true → (now ≡ u.generation) × ((h ≡ rests) ⊎ ((kind : Kind) × (h ≡ waits kind s)))
lasts_so now free current u s e = untrue (sym (none_lasts now current u s) ∙ e)
lasts_so now rests current u s e = (equal now u.generation (by_rests (now == u.generation) (current == s) e), inl refl)
lasts_so now (waits kind own) current u s e =
    let b = by_waits (now == u.generation) (own == s) (current == s) e in
    (equal now u.generation b.0, inr (kind, ap (waits kind) (equal own s b.1)))

-- ---- its own label
module _ (node s : ℕ) (t now : Terms) (u : Transaction) (sent : now.sent s ≡ t.sent s) (begun : begun_in (t.sent s) ≡ Some u) where
  lasts_by : (was : Bool) → Lasts (now.generation u.requester) (now.held u) (now.current u) u s ≡ Lasts (t.generation u.requester) (t.held u) (t.current u) u s → is_pending now node s ≡ is_pending t node s
  lasts_by was e = by_parts node s t now sent (ap (λ b. waits_for now b s || rests_for now b s) begun ∙ (e ∙ sym (ap (λ b. waits_for t b s || rests_for t b s) begun)))

  -- the label is free
  pub pending_not : now.held u ≡ free → is_pending now node s ≡ false
  pending_not e =
      ap (λ q. is_serial (receiver_in q) node && (waits_for now (begun_in q) s || rests_for now (begun_in q) s)) sent
      ∙ (ap (λ b. is_serial (receiver_in (t.sent s)) node && (waits_for now b s || rests_for now b s)) begun
      ∙ (ap (λ h. is_serial (receiver_in (t.sent s)) node && Lasts (now.generation u.requester) h (now.current u) u s) e
      ∙ (ap (λ b. is_serial (receiver_in (t.sent s)) node && b) (none_lasts (now.generation u.requester) (now.current u) u s) ∙ and_false (is_serial (receiver_in (t.sent s)) node))))

  -- it times out
  pub pending_late : (kind : Kind) (own : ℕ) → now.generation u.requester ≡ t.generation u.requester → t.held u ≡ waits kind own → now.held u ≡ rests → now.current u ≡ own → is_pending now node s ≡ is_pending t node s
  pending_late kind own g was is c =
      lasts_by true
      (ap (λ x. Lasts x (now.held u) (now.current u) u s) g
      ∙ (ap (λ h. Lasts (t.generation u.requester) h (now.current u) u s) is
      ∙ (ap (λ x. Lasts (t.generation u.requester) rests x u s) c
      ∙ (late_lasts (t.generation u.requester) kind own u (t.current u) s ∙ sym (ap (λ h. Lasts (t.generation u.requester) h (t.current u) u s) was)))))

  -- a label that is free, or of another request, is taken by another one, or freed of it
  pub pending_other : Lasts (now.generation u.requester) (now.held u) (now.current u) u s ≡ false → Lasts (t.generation u.requester) (t.held u) (t.current u) u s ≡ false → is_pending now node s ≡ is_pending t node s
  pending_other e f = lasts_by true (e ∙ sym f)

-- ---- at one transaction the terms have another value
pub at_it : {A : Type 0} (term : Transaction → A) (u v : Transaction) (x : A) → is_same u v ≡ true → at term v x u ≡ x
at_it term u v x e = ap (λ b. cond b x (term u)) e

pub beside : {A : Type 0} (term : Transaction → A) (u v : Transaction) (x : A) → is_same u v ≡ false → at term v x u ≡ term u
beside term u v x e = ap (λ b. cond b x (term u)) e

pub same_is : (v u : Transaction) → is_same u v ≡ true → v ≡ u
unfolding is_same
same_is v u e = parts v.generation v.requester v.responder v.label u.generation u.requester u.responder u.label (grind (arith, nat_tests)) (grind (arith, nat_tests)) (grind (arith, nat_tests)) (grind (arith, nat_tests))
  where
    parts : (a b c d e f g h : ℕ) → a ≡ e → b ≡ f → c ≡ g → d ≡ h → record { generation = a; requester = b; responder = c; label = d } ≡ (let x : Transaction = record { generation = e; requester = f; responder = g; label = h } in x)
    parts a b c d e f g h i j k l = cc

-- ---- notes that say nothing of it
abbrev pub Same : Terms → Terms → Type 0
Same t now = (now.sent ≡ t.sent) × ((now.generation ≡ t.generation) × ((now.held ≡ t.held) × ((now.current ≡ t.current) × ((now.injected ≡ t.injected) × (now.ids ≡ t.ids)))))

pub same_alike : (s : ℕ) (t now : Terms) → Same t now → Alike s t now
same_alike s t now e = record {
  sent = ap (λ f. f s) e.0;
  generation = λ u b. ap (λ f. f u.requester) e.1.0;
  held = λ u b. ap (λ f. f u) e.1.1.0;
  current = λ u b. ap (λ f. f u) e.1.1.1.0;
}

all_same : (t : Terms) → Same t t
all_same t = (refl, (refl, (refl, (refl, (refl, refl)))))

pub judges_same : (u : Option Transaction) (cause : Option Cause) (s : ℕ) (q : Sending) (t : Terms) → Same t (judges u cause s q t)
judges_same None cause s q t = all_same t
judges_same (Some u) cause s q t = (refl, (refl, (refl, (refl, (refl, refl)))))

judges_if_same : (b : Bool) (u : Option Transaction) (s : ℕ) (q : Sending) (t : Terms) → Same t (judges_if b u s q t)
judges_if_same true u s q t = judges_same u (Some causes.Grammar) s q t
judges_if_same false u s q t = all_same t

ignores_same : (cause : Cause) (s : ℕ) (q : Sending) (t : Terms) → Same t (ignores cause s q t)
ignores_same causes.Generation s q t = all_same t
ignores_same causes.Grammar s q t = judges_if_same _ _ s q (is_news s t)
ignores_same causes.Label s q t = (refl, (refl, (refl, (refl, (refl, refl)))))
ignores_same causes.Again s q t = judges_same _ (Some causes.Again) s q t
ignores_same causes.Source s q t = judges_same _ (Some causes.Source) s q (is_news s t)
ignores_same causes.Login s q t = judges_same _ (Some causes.Login) s q (is_news s t)
ignores_same causes.Slot s q t = judges_same _ (Some causes.Slot) s q (is_served s (is_news s t))

pub ignored_same : (q : Option Sending) (cause : Cause) (s : ℕ) (t : Terms) → Same t (ignores_that q cause s t)
ignored_same None cause s t = all_same t
ignored_same (Some q) cause s t = ignores_same cause s q (arrives s t)

-- ---- a packet is sent: an answer says nothing of it, and a request takes a label that is free
gives_same : (u : Option Transaction) (rcode : ℕ) (t : Terms) → Same t (gives u rcode t)
gives_same None rcode t = all_same t
gives_same (Some u) rcode t = (refl, (refl, (refl, (refl, (refl, refl)))))

pays_same : (o : Option Owed) (sent : ℕ → Option Sending) (s : ℕ) (q : Sending) (t : Terms) → Same t (pays o sent s q t)
pays_same None sent s q t = all_same t
pays_same (Some owed) sent s q t = gives_same _ _ t

-- what a packet that is sent makes of them, but for an answer that it gives
pub sends_terms : (serial : ℕ) (q : Sending) (t : Terms) → Same (begins (begun_by q) serial q (puts (begun_by q) serial q t)) (sends serial q t)
sends_terms serial q t = pays_same t.owes t.sent serial q (begins (begun_by q) serial q (puts (begun_by q) serial q t))

-- a serial that is not the new one
pub upd_other : {A : Type 0} (f : ℕ → A) (k s : ℕ) (x : A) → nat_eq k s ≡ false → upd f k x s ≡ f s
upd_other f k s x e = let turned : nat_eq s k ≡ false = grind (arith, nat_tests) in ap (λ b. cond b x (f s)) turned

module _ (node serial s : ℕ) (q : Sending) (t : Terms) (other : (serial == s) ≡ false) where
  -- behind the note of a packet that is sent
  abbrev now : Terms
  now = sends serial q t

  abbrev put : Terms
  put = puts (begun_by q) serial q t

  sends_same : Same (begins (begun_by q) serial q put) now
  sends_same = sends_terms serial q t

  put_sent : put.sent s ≡ t.sent s
  put_sent = upd_other t.sent serial s (Some q) other

  pub pending_sent : ((v : Transaction) → begun_by q ≡ Some v → t.held v ≡ free) → is_pending now node s ≡ is_pending t node s
  pending_sent is_free =
      pending_alike node s (begins (begun_by q) serial q put) now (same_alike s (begins (begun_by q) serial q put) now sends_same) ∙ by (begun_by q) refl
    where
      by : (b : Option Transaction) → begun_by q ≡ b → is_pending (begins b serial q put) node s ≡ is_pending t node s
      by None e = pending_alike node s t put (record { sent = put_sent; generation = λ n b. refl; held = λ u b. refl; current = λ u b. refl })
      by (Some v) e = mine (begun_in (t.sent s)) refl
        where
          then : Terms
          then = begins (Some v) serial q put

          mine : (b : Option Transaction) → begun_in (t.sent s) ≡ b → is_pending then node s ≡ is_pending t node s
          mine None f = pending_alike node s t then (record { sent = put_sent; generation = λ n b. refl; held = λ u g. none u (sym f ∙ g); current = λ u g. none_current u (sym f ∙ g) })
            where
              none : (u : Transaction) → None ≡ Some u → then.held u ≡ t.held u
              none u g = absurd (let x : None ≡ Some u = g in cc)

              none_current : (u : Transaction) → None ≡ Some u → then.current u ≡ t.current u
              none_current u g = absurd (let x : None ≡ Some u = g in cc)
          mine (Some u) f = at_label (is_same u v) refl
            where
              at_label : (b : Bool) → is_same u v ≡ b → is_pending then node s ≡ is_pending t node s
              at_label true g =
                  pending_other node s t then u put_sent f
                  (ap (λ h. Lasts (then.generation u.requester) h (then.current u) u s) (at_it t.held u v (waits (kind_in (part_of q.bytes)) serial) g) ∙ other_lasts (then.generation u.requester) (then.current u) (kind_in (part_of q.bytes)) serial u s other)
                  (ap (λ h. Lasts (t.generation u.requester) h (t.current u) u s) (ap t.held (sym (same_is v u g)) ∙ is_free v e) ∙ none_lasts (t.generation u.requester) (t.current u) u s)
              at_label false g =
                  pending_alike node s t then (record { sent = put_sent; generation = λ n b. refl; held = λ w k. at_held w (same_u w (sym f ∙ k)); current = λ w k. at_current w (same_u w (sym f ∙ k)) })
                where
                  same_u : (w : Transaction) → Some u ≡ Some w → u ≡ w
                  same_u w k = cc

                  at_held : (w : Transaction) → u ≡ w → then.held w ≡ t.held w
                  at_held w k = subst (λ (x : Transaction). then.held x ≡ t.held x) k (beside t.held u v (waits (kind_in (part_of q.bytes)) serial) g)

                  at_current : (w : Transaction) → u ≡ w → then.current w ≡ t.current w
                  at_current w k = subst (λ (x : Transaction). then.current x ≡ t.current x) k (beside t.current u v serial g)
