-- The transactions of the target that are under way stay so while packets leave, and while other nodes hear what is theirs.
use Rattle.sbp_world.proofs.Words.Std.{◌≡◌, ◌∙◌, refl, sym, ap, subst, ℕ, ◌+◌, ◌≤◌, ◌||◌, not, nat_eq, Bool, true, false, cond, List, [], ◌∷◌, ◌++◌, map, Option, Some, None, arith}
use Rattle.sbp_world.proofs.Words.Wire.{rcode_of, LabelParts, AreSent, transaction, is_last, is_write, Moment, said, Kind, Part, Sending, Transaction, asked_by, begun_by, between, is_same, is_same_kind, part_of, request, response, Held, Owed, Terms, arrives, asked_in, begins, closes, closes_if, free, gets, gets_as, gives, ignores, ignores_that, is_news, is_served, judges, judges_if, kind_in, pays, puts, rests, sends, terms, times_out, waits, Cause, Outgoing, node_of, topology_at}
use Rattle.sbp_world.proofs.Words.World.{asked, posted, sent, sent_all, sent_to, WorldState}
use Rattle.bus_transactions.specs.Sent as sent_law
use Rattle.bus_transactions.proofs.Facts.{asked_is, begun_asked}
use Rattle.bus_transactions.proofs.PacketParts.{other_requester, same_is}
use Rattle.sbp_journal.specs.Transactions.{no_packet}
use Rattle.sbp_journal.specs.declared.cause.Cause.TheVariants as causes
use Rattle.sbp_world.proofs.Common.{and_first}
use Rattle.sbp_world.proofs.Hosts.Held.{pays_held}
use Rattle.sbp_world.proofs.Wire.Bus.{pays_ids, begins_ids}

pub record Still (t u : Terms) : Type 0 where
  pub injected : (s : ℕ) → u.injected s ≡ t.injected s
  pub count : t.count ≤ u.count
  pub generation : u.generation 0 ≡ t.generation 0
  pub ids : (peer : ℕ) → u.ids (t.generation 0) peer ≡ t.ids (t.generation 0) peer
  pub held : (x : Transaction) (kind : Kind) (s : ℕ) → x.requester ≡ 0 → t.held x ≡ waits kind s → u.held x ≡ waits kind s

pub still_self : (t : Terms) → Still t t
still_self t = record { injected = λ s. refl; count = omega arith; generation = refl; ids = λ peer. refl; held = λ x kind s r e. e }

pub still_then : (t u v : Terms) → Still t u → Still u v → Still t v
still_then t u v a b = record {
  injected = λ s. b.injected s ∙ a.injected s;
  count = let c = a.count in let d = b.count in omega arith;
  generation = b.generation ∙ a.generation;
  ids = λ peer. ap (λ g. v.ids g peer) (sym a.generation) ∙ b.ids peer ∙ ap (λ g. u.ids g peer) a.generation ∙ a.ids peer;
  held = λ x kind s r e. b.held x kind s r (a.held x kind s r e);
}

-- ---- a packet is sent

gives_generation : (begun : Option Transaction) (rcode : ℕ) (t : Terms) → (gives begun rcode t).generation ≡ t.generation
gives_generation None rcode t = refl
gives_generation (Some u) rcode t = refl

pays_generation : (owed : Option Owed) (given : ℕ → Option Sending) (s : ℕ) (q : Sending) (t : Terms) → (pays owed given s q t).generation ≡ t.generation
pays_generation None given s q t = refl
pays_generation (Some owed) given s q t = gives_generation (asked_in (given owed.serial)) _ t

gives_injected : (begun : Option Transaction) (rcode : ℕ) (t : Terms) → ((gives begun rcode t).injected ≡ t.injected) × ((gives begun rcode t).count ≡ t.count)
gives_injected None rcode t = (refl, refl)
gives_injected (Some u) rcode t = (refl, refl)

pub pays_injected : (owed : Option Owed) (given : ℕ → Option Sending) (s : ℕ) (q : Sending) (t : Terms) → ((pays owed given s q t).injected ≡ t.injected) × ((pays owed given s q t).count ≡ t.count)
pays_injected None given s q t = (refl, refl)
pays_injected (Some owed) given s q t = gives_injected (asked_in (given owed.serial)) _ t

begins_injected : (begun : Option Transaction) (s : ℕ) (q : Sending) (t : Terms) → ((begins begun s q t).injected ≡ t.injected) × ((begins begun s q t).count ≡ t.count)
begins_injected None s q t = (refl, refl)
begins_injected (Some u) s q t = (refl, refl)

begins_generation : (begun : Option Transaction) (s : ℕ) (q : Sending) (t : Terms) → (begins begun s q t).generation ≡ t.generation
begins_generation None s q t = refl
begins_generation (Some u) s q t = refl

free_not : (h : Held) (kind : Kind) (s : ℕ) → sent_law.is_free h ≡ true → h ≡ waits kind s → ⊥
free_not free kind s e f = absurd (let no : free ≡ waits kind s = f in cc)
free_not (waits k r) kind s e f = absurd (let no : false ≡ true = e in cc)
free_not rests kind s e f = absurd (let no : rests ≡ waits kind s = f in cc)

-- what is sent begins no transaction that is under way
abbrev pub IsFree : Terms → Sending → Type 0
IsFree t q = (v : Transaction) → begun_by q ≡ Some v → sent_law.is_free (t.held v) ≡ true

begins_held : (begun : Option Transaction) (s : ℕ) (q : Sending) (t : Terms) → ((v : Transaction) → begun ≡ Some v → sent_law.is_free (t.held v) ≡ true) → (x : Transaction) (kind : Kind) (r : ℕ) → t.held x ≡ waits kind r → (begins begun s q t).held x ≡ waits kind r
begins_held None s q t f x kind r e = e
begins_held (Some v) s q t f x kind r e = by_test (is_same x v) refl
  where
    by_test : (b : Bool) → is_same x v ≡ b → cond b (waits (kind_in (part_of q.bytes)) s) (t.held x) ≡ waits kind r
    by_test true same = absurd (free_not (t.held v) kind r (f v refl) (ap t.held (sym (same_is x v same)) ∙ e))
    by_test false same = e

pub sends_still : (s : ℕ) (q : Sending) (t : Terms) → IsFree t q → Still t (sends s q t)
sends_still s q t f =
    let p = puts (begun_by q) s q t in
    let b = begins (begun_by q) s q p in
    let i = pays_injected t.owes t.sent s q b in
    let j = begins_injected (begun_by q) s q p in
    record {
      injected = λ r. ap (λ f. f r) (i.0 ∙ j.0);
      count = let c = i.1 ∙ j.1 in omega arith;
      generation = ap (λ g. g 0) (pays_generation t.owes t.sent s q b ∙ begins_generation (begun_by q) s q p);
      ids = λ peer. ap (λ ids. ids (t.generation 0) peer) (pays_ids t.owes t.sent s q b ∙ begins_ids (begun_by q) s q p);
      held = λ x kind r req e. ap (λ h. h x) (pays_held t.owes t.sent s q b) ∙ begins_held (begun_by q) s q p f x kind r e;
    }

-- by the sent law
pub own_free : (t : Terms) (s generation from to : ℕ) (bytes : List ℕ) → (t.injected s ≡ false → sent_law.IsOwn t generation from to bytes) → IsFree t (record { generation = generation; from = from; to = to; bytes = bytes; injected = t.injected s })
own_free t s generation from to bytes law v e =
    let q : Sending = record { generation = generation; from = from; to = to; bytes = bytes; injected = t.injected s } in
    let a = begun_asked q v e in
    let b = asked_is q v a.1 in
    let own = law a.0 in
    let takes = (own.lowest b.label b.kind b.part).takes in
    let u = transaction (t.generation from) from to b.label in
    let same : v ≡ u = b.is ∙ ap (λ g. transaction g from to b.label) own.now in
    ap (λ w. sent_law.is_free (t.held w)) same ∙ and_first (sent_law.is_free (t.held u)) (not (is_write bytes) || not (is_last (t.last u) bytes)) takes

-- ---- the packets of a turn

abbrev pub hist : List Moment → WorldState → List Moment
hist past w = map said w.fresh ++ past

module _ (past : List Moment) where
  asked_same : (serial to node peer : ℕ) (label : Option LabelParts) (w : WorldState) → hist past (asked serial to node peer label w) ≡ hist past w
  asked_same serial to node peer None w = refl
  asked_same serial to node peer (Some label) w = refl

  posted_before : (from to : ℕ) (bytes : List ℕ) (w : WorldState) → AreSent (hist past (posted from to false bytes w)) → AreSent (hist past w) × Still (terms (hist past w)) (terms (hist past (posted from to false bytes w)))
  unfolding posted
  posted_before from to bytes w a =
      let t : Terms = terms (hist past w) in
      let g = (topology_at w.generations from).generation in
      (a.1, sends_still (w.store.last + 1) (record { generation = g; from = from; to = to; bytes = bytes; injected = t.injected (w.store.last + 1) }) t (own_free t (w.store.last + 1) g from to bytes a.0))

  sent_to_before : (to : Option ℕ) (from : ℕ) (packet : Outgoing) (w : WorldState) → AreSent (hist past (sent_to to from packet w)) → AreSent (hist past w) × Still (terms (hist past w)) (terms (hist past (sent_to to from packet w)))
  sent_to_before None from packet w a = (a, still_self (terms (hist past w)))
  sent_to_before (Some to) from packet w a =
      let v = posted from to false packet.bytes w in
      let same = asked_same (w.store.last + 1) to from packet.to packet.label v in
      let b = posted_before from to packet.bytes w (subst AreSent same a) in
      (b.0, subst (λ ms. Still (terms (hist past w)) (terms ms)) (sym same) b.1)

  pub all_before : (from : ℕ) (packets : List Outgoing) (w : WorldState) → AreSent (hist past (sent_all from packets w)) → AreSent (hist past w) × Still (terms (hist past w)) (terms (hist past (sent_all from packets w)))
  unfolding sent_all sent
  all_before from [] w a = (a, still_self (terms (hist past w)))
  all_before from (packet ∷ later) w a =
      let v = sent from packet w in
      let rest = all_before from later v a in
      let one = sent_to_before (node_of w.generations from packet.to) from packet w rest.0 in
      (one.0, still_then (terms (hist past w)) (terms (hist past v)) (terms (hist past (sent_all from later v))) one.1 rest.1)

-- ---- a packet is heard

pub judges_held : (u : Option Transaction) (cause : Option Cause) (s : ℕ) (q : Sending) (t : Terms) → (judges u cause s q t).held ≡ t.held
judges_held None cause s q t = refl
judges_held (Some u) cause s q t = refl

judges_ids : (u : Option Transaction) (cause : Option Cause) (s : ℕ) (q : Sending) (t : Terms) → (judges u cause s q t).ids ≡ t.ids
judges_ids None cause s q t = refl
judges_ids (Some u) cause s q t = refl

judges_generation : (u : Option Transaction) (cause : Option Cause) (s : ℕ) (q : Sending) (t : Terms) → (judges u cause s q t).generation ≡ t.generation
judges_generation None cause s q t = refl
judges_generation (Some u) cause s q t = refl

judges_injected : (u : Option Transaction) (cause : Option Cause) (s : ℕ) (q : Sending) (t : Terms) → ((judges u cause s q t).injected ≡ t.injected) × ((judges u cause s q t).count ≡ t.count)
judges_injected None cause s q t = (refl, refl)
judges_injected (Some u) cause s q t = (refl, refl)

judges_still : (u : Option Transaction) (cause : Option Cause) (s : ℕ) (q : Sending) (t : Terms) → Still t (judges u cause s q t)
judges_still u cause s q t = record {
  injected = λ r. ap (λ f. f r) (judges_injected u cause s q t).0;
  count = let c = (judges_injected u cause s q t).1 in omega arith;
  generation = ap (λ g. g 0) (judges_generation u cause s q t);
  ids = λ peer. ap (λ ids. ids (t.generation 0) peer) (judges_ids u cause s q t);
  held = λ x kind r req e. ap (λ h. h x) (judges_held u cause s q t) ∙ e;
}

-- all but one transaction
pub record StillBut (v : Transaction) (t u : Terms) : Type 0 where
  pub injected : (s : ℕ) → u.injected s ≡ t.injected s
  pub count : t.count ≤ u.count
  pub generation : u.generation 0 ≡ t.generation 0
  pub ids : (peer : ℕ) → u.ids (t.generation 0) peer ≡ t.ids (t.generation 0) peer
  pub held : (x : Transaction) (kind : Kind) (s : ℕ) → is_same x v ≡ false → t.held x ≡ waits kind s → u.held x ≡ waits kind s

closes_one : (b : Bool) (s : ℕ) (v : Transaction) (rcode : ℕ) (t : Terms) → StillBut v t (closes_if b s v rcode t)
closes_one true s v rcode t = record {
  injected = λ s. refl;
  count = omega arith;
  generation = refl;
  ids = λ peer. refl;
  held = λ x kind r other e. ap (λ b. cond b free (t.held x)) other ∙ e;
}
closes_one false s v rcode t = record { injected = λ s. refl; count = omega arith; generation = refl; ids = λ peer. refl; held = λ x kind r other e. e }

closes_but : (h : Held) (v : Transaction) (kind : Kind) (rcode : ℕ) (t : Terms) → StillBut v t (closes h v kind rcode t)
closes_but (waits k s) v kind rcode t = closes_one (is_same_kind k kind) s v rcode t
closes_but free v kind rcode t = record { injected = λ s. refl; count = omega arith; generation = refl; ids = λ peer. refl; held = λ x kind r other e. e }
closes_but rests v kind rcode t = record { injected = λ s. refl; count = omega arith; generation = refl; ids = λ peer. refl; held = λ x kind r other e. e }

-- what a packet that is got may close
abbrev pub ClosesOnly : Transaction → Part → Sending → Type 0
ClosesOnly v (response label kind) q = v ≡ between q q.to q.from label
ClosesOnly v part q = Unit {0}

gets_part : (part : Part) (s : ℕ) (q : Sending) (t : Terms) (v : Transaction) → ClosesOnly v part q → StillBut v t (gets_as part s q (is_served s (is_news s (arrives s t))))
gets_part (request label kind) s q t v c =
    let j = judges_still (asked_by q) None s q (is_served s (is_news s (arrives s t))) in
    record { injected = j.injected; count = j.count; generation = j.generation; ids = j.ids; held = λ x kind r other e. ap (λ h. h x) (judges_held (asked_by q) None s q (is_served s (is_news s (arrives s t)))) ∙ e }
gets_part (response label kind) s q t v c =
    let n = closes_but (t.held (between q q.to q.from label)) (between q q.to q.from label) kind (rcode_of q.bytes) (is_served s (is_news s (arrives s t))) in
    subst (λ w. StillBut w t (gets_as (response label kind) s q (is_served s (is_news s (arrives s t))))) (sym c)
    (record { injected = n.injected; count = n.count; generation = n.generation; ids = n.ids; held = n.held })
gets_part no_packet s q t v c = record { injected = λ s. refl; count = omega arith; generation = refl; ids = λ peer. refl; held = λ x kind r other e. e }

pub gets_but : (s : ℕ) (q : Sending) (t : Terms) (v : Transaction) → t.sent s ≡ Some q → ClosesOnly v (part_of q.bytes) q → StillBut v t (gets (t.sent s) s t)
gets_but s q t v e c = subst (λ so. StillBut v t (gets so s t)) (sym e) (gets_part (part_of q.bytes) s q t v c)

-- another node's
pub others_still : (v : Transaction) (t u : Terms) → nat_eq 0 v.requester ≡ false → StillBut v t u → Still t u
others_still v t u other b = record {
  injected = b.injected;
  count = b.count;
  generation = b.generation;
  ids = b.ids;
  held = λ x kind s r e. b.held x kind s (other_requester x v (ap (λ n. nat_eq n v.requester) r ∙ other)) e;
}

-- a request, and what is ignored
requests_part : (part : Part) (label : ℕ) (kind : Kind) (s : ℕ) (q : Sending) (t : Terms) → part ≡ request label kind → Still t (gets_as part s q (is_served s (is_news s (arrives s t))))
requests_part part label kind s q t e =
    subst (λ p. Still t (gets_as p s q (is_served s (is_news s (arrives s t))))) (sym e)
    (let j = judges_still (asked_by q) None s q (is_served s (is_news s (arrives s t))) in record { injected = j.injected; count = j.count; generation = j.generation; ids = j.ids; held = j.held })

pub requests_still : (s label : ℕ) (kind : Kind) (q : Sending) (t : Terms) → t.sent s ≡ Some q → part_of q.bytes ≡ request label kind → Still t (gets (t.sent s) s t)
requests_still s label kind q t e p = subst (λ so. Still t (gets so s t)) (sym e) (requests_part (part_of q.bytes) label kind s q t p)

judges_if_still : (b : Bool) (began : Option Transaction) (s : ℕ) (q : Sending) (t : Terms) → Still t (judges_if b began s q t)
judges_if_still true began s q t = judges_still began (Some causes.Grammar) s q t
judges_if_still false began s q t = still_self t

news_still : (s : ℕ) (t u : Terms) → Still (is_news s t) u → Still t u
news_still s t u h = record { injected = h.injected; count = h.count; generation = h.generation; ids = h.ids; held = h.held }

served_still : (s : ℕ) (t u : Terms) → Still (is_served s t) u → Still t u
served_still s t u h = record { injected = h.injected; count = h.count; generation = h.generation; ids = h.ids; held = h.held }

arrives_still : (s : ℕ) (t u : Terms) → Still (arrives s t) u → Still t u
arrives_still s t u h = record { injected = h.injected; count = h.count; generation = h.generation; ids = h.ids; held = h.held }

ignored_as : (cause : Cause) (s : ℕ) (q : Sending) (t : Terms) → Still t (ignores cause s q t)
ignored_as causes.Generation s q t = still_self t
ignored_as causes.Grammar s q t = news_still s t _ (judges_if_still _ (asked_by q) s q (is_news s t))
ignored_as causes.Label s q t = news_still s t (is_news s t) (still_self (is_news s t))
ignored_as causes.Again s q t = judges_still (asked_by q) (Some causes.Again) s q t
ignored_as causes.Source s q t = news_still s t _ (judges_still (asked_by q) (Some causes.Source) s q (is_news s t))
ignored_as causes.Login s q t = news_still s t _ (judges_still (asked_by q) (Some causes.Login) s q (is_news s t))
ignored_as causes.Slot s q t = news_still s t _ (served_still s (is_news s t) _ (judges_still (asked_by q) (Some causes.Slot) s q (is_served s (is_news s t))))

pub ignores_still : (so : Option Sending) (cause : Cause) (s : ℕ) (t : Terms) → Still t (ignores_that so cause s t)
ignores_still None cause s t = still_self t
ignores_still (Some q) cause s t = arrives_still s t (ignores cause s q (arrives s t)) (ignored_as cause s q (arrives s t))

-- ---- a time-out
pub lapses_but : (begun : Option Transaction) (v : Transaction) (t : Terms) → ((u : Transaction) → begun ≡ Some u → u ≡ v) → StillBut v t (times_out begun t)
lapses_but None v t same = record { injected = λ s. refl; count = omega arith; generation = refl; ids = λ peer. refl; held = λ x kind r other e. e }
lapses_but (Some u) v t same = record {
  injected = λ s. refl;
  count = omega arith;
  generation = refl;
  ids = λ peer. refl;
  held = λ x kind r other e. ap (λ b. cond b rests (t.held x)) (ap (λ w. is_same x w) (same u refl) ∙ other) ∙ e;
}

-- ---- generation, IDs and serials alone

pub record Clock (t u : Terms) : Type 0 where
  pub injected : (s : ℕ) → u.injected s ≡ t.injected s
  pub count : t.count ≤ u.count
  pub generation : u.generation 0 ≡ t.generation 0
  pub ids : (peer : ℕ) → u.ids (t.generation 0) peer ≡ t.ids (t.generation 0) peer

pub clock_still : (t u : Terms) → Still t u → Clock t u
clock_still t u s = record { injected = s.injected; count = s.count; generation = s.generation; ids = s.ids }

clock_but : (v : Transaction) (t u : Terms) → StillBut v t u → Clock t u
clock_but v t u s = record { injected = s.injected; count = s.count; generation = s.generation; ids = s.ids }

clock_part : (part : Part) (s : ℕ) (q : Sending) (t : Terms) → Clock t (gets_as part s q (is_served s (is_news s (arrives s t))))
clock_part (request label kind) s q t = clock_but (between q q.to q.from 0) t _ (gets_part (request label kind) s q t (between q q.to q.from 0) tt)
clock_part (response label kind) s q t = clock_but (between q q.to q.from label) t _ (gets_part (response label kind) s q t (between q q.to q.from label) refl)
clock_part no_packet s q t = clock_but (between q q.to q.from 0) t _ (gets_part no_packet s q t (between q q.to q.from 0) tt)

pub gets_clock : (so : Option Sending) (s : ℕ) (t : Terms) → Clock t (gets so s t)
gets_clock None s t = clock_still t t (still_self t)
gets_clock (Some q) s t = clock_part (part_of q.bytes) s q t

pub lapses_clock : (begun : Option Transaction) (t : Terms) → Clock t (times_out begun t)
lapses_clock None t = clock_still t t (still_self t)
lapses_clock (Some u) t = clock_but u t _ (lapses_but (Some u) u t (λ v e. some_is v e))
  where
    some_is : (v : Transaction) → Some u ≡ Some v → v ≡ u
    some_is v e = cc
