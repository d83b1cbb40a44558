-- What a packet that is sent, a line that begins and a generation that is seen leave of the terms of the wire.
use Rattle.sbp_world.proofs.Words.Std.{arith, ◌≡◌, ◌∙◌, ◌⊎◌, inl, inr, refl, sym, ap, ℕ, ◌+◌, ◌≤◌, nat_eq, Bool, true, false, cond, Option, Some, None, nat_tests, upd}
use Rattle.sbp_world.proofs.Words.Wire.{rcode_of, Sending, Transaction, begun_by, is_same, Owed, Terms, asked_in, begins, gives, opened, pays, puts, sends, Event}
use Rattle.bus_transactions.proofs.PacketParts.{same_is}
use Rattle.sbp_journal.specs.declared.event.Event.TheVariants as events
use Rattle.sbp_world.proofs.Lists.ManageTerms.{same_some}

-- ---- a packet is sent

pub record Sends (s : ℕ) (q : Sending) (t : Terms) : Type 0 where
  pub sent : (sends s q t).sent ≡ upd t.sent s (Some q)
  pub generation : (sends s q t).generation ≡ t.generation
  pub ids : (sends s q t).ids ≡ t.ids
  pub news : (sends s q t).news ≡ t.news
  pub owes : (sends s q t).owes ≡ None
  pub current : (v : Transaction) → ((sends s q t).current v ≡ t.current v) ⊎ ((begun_by q ≡ Some v) × ((sends s q t).current v ≡ s))

-- the terms but for the rcode
record Keeps (t u : Terms) : Type 0 where
  sent : u.sent ≡ t.sent
  generation : u.generation ≡ t.generation
  ids : u.ids ≡ t.ids
  news : u.news ≡ t.news
  current : u.current ≡ t.current

gives_keeps : (v : Option Transaction) (rcode : ℕ) (t : Terms) → Keeps t (gives v rcode t)
gives_keeps None rcode t = record { sent = refl; generation = refl; ids = refl; news = refl; current = refl }
gives_keeps (Some v) rcode t = record { sent = refl; generation = refl; ids = refl; news = refl; current = refl }

pays_keeps : (owed : Option Owed) (found : ℕ → Option Sending) (s : ℕ) (q : Sending) (t : Terms) → Keeps t (pays owed found s q t)
pays_keeps None found s q t = record { sent = refl; generation = refl; ids = refl; news = refl; current = refl }
pays_keeps (Some owed) found s q t = let k = gives_keeps (asked_in (found owed.serial)) (rcode_of q.bytes) t in record { sent = k.sent; generation = k.generation; ids = k.ids; news = k.news; current = k.current }

pub pays_owes : (owed : Option Owed) (found : ℕ → Option Sending) (s : ℕ) (q : Sending) (t : Terms) → t.owes ≡ owed → (pays owed found s q t).owes ≡ None
pays_owes None found s q t e = e
pays_owes (Some owed) found s q t e = refl

-- the rcode of a transaction behind an answer to one
abbrev pub by_given : Option Transaction → (rcode old : ℕ) → Transaction → ℕ
by_given None rcode old v = old
by_given (Some u) rcode old v = cond (is_same v u) rcode old

abbrev pub given_behind : Option Owed → (ℕ → Option Sending) → (rcode old : ℕ) → Transaction → ℕ
given_behind None found rcode old v = old
given_behind (Some owed) found rcode old v = by_given (asked_in (found owed.serial)) rcode old v

gives_given : (found : Option Transaction) (rcode : ℕ) (t : Terms) (v : Transaction) → (gives found rcode t).given v ≡ by_given found rcode (t.given v) v
gives_given None rcode t v = refl
gives_given (Some u) rcode t v = refl

begins_keeps_given : (u : Option Transaction) (s : ℕ) (q : Sending) (t : Terms) → ((begins u s q t).given ≡ t.given) × ((begins u s q t).owes ≡ t.owes)
begins_keeps_given None s q t = (refl, refl)
begins_keeps_given (Some u) s q t = (refl, refl)

begins_current : (u : Option Transaction) (s : ℕ) (q : Sending) (t : Terms) (v : Transaction) → ((begins u s q t).current v ≡ t.current v) ⊎ ((u ≡ Some v) × ((begins u s q t).current v ≡ s))
begins_current None s q t v = inl refl
begins_current (Some u) s q t v = by (is_same v u) refl
  where
    by : (b : Bool) → is_same v u ≡ b → ((begins (Some u) s q t).current v ≡ t.current v) ⊎ ((Some u ≡ Some v) × ((begins (Some u) s q t).current v ≡ s))
    by true e = inr (ap (λ (x : Transaction). Some x) (sym (same_is v u e)), ap (λ b. cond b s (t.current v)) e)
    by false e = inl (ap (λ b. cond b s (t.current v)) e)

begins_others : (u : Option Transaction) (s : ℕ) (q : Sending) (t : Terms) → ((begins u s q t).sent ≡ t.sent) × (((begins u s q t).generation ≡ t.generation) × (((begins u s q t).ids ≡ t.ids) × ((begins u s q t).news ≡ t.news)))
begins_others None s q t = (refl, (refl, (refl, refl)))
begins_others (Some u) s q t = (refl, (refl, (refl, refl)))

module _ (s : ℕ) (q : Sending) (t : Terms) where
  abbrev put : Terms
  put = puts (begun_by q) s q t

  abbrev begun : Terms
  begun = begins (begun_by q) s q put

  -- the rcode of a transaction: that of the packet, where this answers the request that was to be answered, and else as it was
  paid_given : (owed : Option Owed) → (v : Transaction) → (pays owed t.sent s q begun).given v ≡ given_behind owed t.sent (rcode_of q.bytes) (t.given v) v
  paid_given None v = ap (λ (f : Transaction → ℕ). f v) (begins_keeps_given (begun_by q) s q put).0
  paid_given (Some o) v = gives_given (asked_in (t.sent o.serial)) (rcode_of q.bytes) begun v ∙ ap (λ (f : Transaction → ℕ). by_given (asked_in (t.sent o.serial)) (rcode_of q.bytes) (f v) v) (begins_keeps_given (begun_by q) s q put).0

  pub sent_given : (v : Transaction) → (sends s q t).given v ≡ given_behind t.owes t.sent (rcode_of q.bytes) (t.given v) v
  sent_given v = paid_given t.owes v

  pub sent_terms : Sends s q t
  sent_terms =
      let k = pays_keeps t.owes t.sent s q begun in
      let o = begins_others (begun_by q) s q put in
      record {
        sent = k.sent ∙ o.0;
        generation = k.generation ∙ o.1.0;
        ids = k.ids ∙ o.1.1.0;
        news = k.news ∙ o.1.1.1;
        owes = pays_owes t.owes t.sent s q begun (begins_keeps_given (begun_by q) s q put).1;
        current = λ v. now v (begins_current (begun_by q) s q put v);
      }
    where
      now : (v : Transaction) → (begun.current v ≡ put.current v) ⊎ ((begun_by q ≡ Some v) × (begun.current v ≡ s)) → ((sends s q t).current v ≡ t.current v) ⊎ ((begun_by q ≡ Some v) × ((sends s q t).current v ≡ s))
      now v (inl e) = inl (ap (λ (f : Transaction → ℕ). f v) (pays_keeps t.owes t.sent s q begun).current ∙ e)
      now v (inr e) = inr (e.0, ap (λ (f : Transaction → ℕ). f v) (pays_keeps t.owes t.sent s q begun).current ∙ e.1)

-- the packet behind it
pub sent_is : (s : ℕ) (q p : Sending) (found : ℕ → Option Sending) → upd found s (Some q) s ≡ Some p → q ≡ p
sent_is s q p found e = by (nat_eq s s) (grind (arith, nat_tests)) e
  where
    by : (b : Bool) → b ≡ true → cond b (Some q) (found s) ≡ Some p → q ≡ p
    by true f e = same_some q p e
    by false f e = absurd (let no : false ≡ true = f in cc)

pub sent_other : (s r : ℕ) (q : Sending) (found : ℕ → Option Sending) → nat_eq r s ≡ false → upd found s (Some q) r ≡ found r
sent_other s r q found e = ap (λ b. cond b (Some q) (found r)) e

-- ---- a line begins

pub record Opens (t u : Terms) : Type 0 where
  pub sent : u.sent ≡ t.sent
  pub generation : u.generation ≡ t.generation
  pub ids : (g node : ℕ) → g ≤ t.bus → u.ids g node ≡ t.ids g node
  pub given : u.given ≡ t.given
  pub current : u.current ≡ t.current
  pub news : u.news ≡ t.news
  pub owes : u.owes ≡ t.owes

pub later_ids : (ids : ℕ → ℕ → ℕ) (bus g : ℕ) (new : ℕ → ℕ) (node : ℕ) → g ≤ bus → upd ids (bus + 1) new g node ≡ ids g node
later_ids ids bus g new node l = ap (λ b. (cond b new (ids g)) node) (let x : nat_eq g (bus + 1) ≡ false = grind (arith, nat_tests) in x)

pub opened_terms : (event : Event) (t : Terms) → Opens t (opened event t)
opened_terms (events.Reset physical) t = record { sent = refl; generation = refl; ids = λ g node l. later_ids t.ids t.bus g _ node l; given = refl; current = refl; news = refl; owes = refl }
opened_terms (events.Repeat serial) t = record { sent = refl; generation = refl; ids = λ g node l. refl; given = refl; current = refl; news = refl; owes = refl }
opened_terms _ t = record { sent = refl; generation = refl; ids = λ g node l. refl; given = refl; current = refl; news = refl; owes = refl }
