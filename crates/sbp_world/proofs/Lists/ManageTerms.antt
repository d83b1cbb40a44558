-- What a note leaves of the terms of the wire that management in hand is read off: which packets were sent, how often each was taken as new, generations and IDs,
-- the present request of a transaction and the rcode that was given to it.
use Rattle.sbp_world.proofs.Words.Std.{arith, ◌≡◌, ◌∙◌, ◌⊎◌, inl, inr, refl, sym, ap, subst, ℕ, ◌+◌, ◌≤◌, ◌<◌, nat_eq, Bool, true, false, cond, List, ◌∷◌, Option, Some, None, nat_tests, upd}
use Rattle.sbp_world.proofs.Words.Wire.{rcode_of, Moment, said, Kind, Part, Sending, Transaction, asked_by, between, is_same_kind, part_of, request, response, Held, Owed, Terms, arrives, begun_in, closes, closes_if, free, gets, gets_as, ignores, ignores_that, is_news, is_served, judges, judges_if, rests, terms, times_out, waits, Cause}
use Rattle.sbp_journal.specs.Transactions.{no_packet}
use Rattle.sbp_journal.specs.declared.cause.Cause.TheVariants as causes
use Rattle.sbp_journal.specs.declared.note.Note.TheVariants as notes
use Rattle.sbp_world.proofs.Common.{untrue}

pub none_is : {A B : Type 0} (x : A) → None ≡ Some x → B
none_is x e = absurd (let no : None ≡ Some x = e in cc)

pub same_some : {A : Type 0} (x y : A) → Some x ≡ Some y → x ≡ y
same_some x y e = cc

-- ---- a note by which nothing is sent and no generation seen; it is of the packet with a serial, if of any

pub record Rests (s : ℕ) (t u : Terms) : Type 0 where
  pub sent : u.sent ≡ t.sent
  pub generation : u.generation ≡ t.generation
  pub ids : u.ids ≡ t.ids
  pub given : u.given ≡ t.given
  pub current : u.current ≡ t.current
  pub news : (r : ℕ) → t.news r ≤ u.news r
  pub others : (r : ℕ) → nat_eq r s ≡ false → u.news r ≡ t.news r

pub rests_self : (s : ℕ) (t : Terms) → Rests s t t
rests_self s t = record { sent = refl; generation = refl; ids = refl; given = refl; current = refl; news = λ r. omega arith; others = λ r e. refl }

rests_then : (s : ℕ) (t u v : Terms) → Rests s t u → Rests s u v → Rests s t v
rests_then s t u v a b = record {
  sent = b.sent ∙ a.sent;
  generation = b.generation ∙ a.generation;
  ids = b.ids ∙ a.ids;
  given = b.given ∙ a.given;
  current = b.current ∙ a.current;
  news = λ r. (let x = a.news r in let y = b.news r in omega (arith, x, y));
  others = λ r e. b.others r e ∙ a.others r e;
}

-- the same news
pub rests_on : (s : ℕ) (t u : Terms) → u.sent ≡ t.sent → u.generation ≡ t.generation → u.ids ≡ t.ids → u.given ≡ t.given → u.current ≡ t.current → u.news ≡ t.news → Rests s t u
rests_on s t u a b c d e f = record { sent = a; generation = b; ids = c; given = d; current = e; news = λ r. (let x = ap (λ (g : ℕ → ℕ). g r) f in omega (arith, x)); others = λ r g. ap (λ (h : ℕ → ℕ). h r) f }

judges_rests : (v : Option Transaction) (cause : Option Cause) (s : ℕ) (q : Sending) (t : Terms) → Rests s t (judges v cause s q t)
judges_rests None cause s q t = rests_self s t
judges_rests (Some v) cause s q t = rests_on s t (judges (Some v) cause s q t) refl refl refl refl refl refl

judges_if_rests : (b : Bool) (v : Option Transaction) (s : ℕ) (q : Sending) (t : Terms) → Rests s t (judges_if b v s q t)
judges_if_rests true v s q t = judges_rests v (Some causes.Grammar) s q t
judges_if_rests false v s q t = rests_self s t

closes_if_rests : (b : Bool) (s own : ℕ) (v : Transaction) (rcode : ℕ) (t : Terms) → Rests s t (closes_if b own v rcode t)
closes_if_rests true s own v rcode t = rests_on s t (closes_if true own v rcode t) refl refl refl refl refl refl
closes_if_rests false s own v rcode t = rests_self s t

closes_rests : (held : Held) (s : ℕ) (v : Transaction) (kind : Kind) (rcode : ℕ) (t : Terms) → Rests s t (closes held v kind rcode t)
closes_rests (waits k own) s v kind rcode t = closes_if_rests (is_same_kind k kind) s own v rcode t
closes_rests free s v kind rcode t = rests_self s t
closes_rests rests s v kind rcode t = rests_self s t

part_rests : (part : Part) (s : ℕ) (q : Sending) (t : Terms) → Rests s t (gets_as part s q t)
part_rests (request label kind) s q t = judges_rests (asked_by q) None s q t
part_rests (response label kind) s q t = closes_rests (t.held (between q q.to q.from label)) s (between q q.to q.from label) kind (rcode_of q.bytes) t
part_rests no_packet s q t = rests_self s t

more_by : (s r : ℕ) (f : ℕ → ℕ) → f r ≤ upd f s (f s + 1) r
more_by s r f = by (nat_eq r s) refl
  where
    by : (b : Bool) → nat_eq r s ≡ b → f r ≤ cond b (f s + 1) (f r)
    by true e = let x : r ≡ s = grind (arith, nat_tests) in let y = ap f x in omega (arith, y)
    by false e = omega arith

news_rests : (s : ℕ) (t : Terms) → Rests s t (is_news s t)
news_rests s t = record { sent = refl; generation = refl; ids = refl; given = refl; current = refl; news = λ r. more_by s r t.news; others = λ r e. ap (λ b. cond b (t.news s + 1) (t.news r)) e }

arrives_rests : (s : ℕ) (t : Terms) → Rests s t (arrives s t)
arrives_rests s t = rests_on s t (arrives s t) refl refl refl refl refl refl

served_rests : (s : ℕ) (t : Terms) → Rests s t (is_served s t)
served_rests s t = rests_on s t (is_served s t) refl refl refl refl refl refl

comes_rests : (s : ℕ) (t : Terms) → Rests s t (is_served s (is_news s (arrives s t)))
comes_rests s t =
    let a = arrives s t in
    let n = is_news s a in
    rests_then s t n (is_served s n) (rests_then s t a n (arrives_rests s t) (news_rests s a)) (served_rests s n)

gets_rests : (found : Option Sending) (s : ℕ) (t : Terms) → Rests s t (gets found s t)
gets_rests None s t = rests_self s t
gets_rests (Some q) s t =
    let c = is_served s (is_news s (arrives s t)) in rests_then s t c (gets_as (part_of q.bytes) s q c) (comes_rests s t) (part_rests (part_of q.bytes) s q c)

ignores_rests : (cause : Cause) (s : ℕ) (q : Sending) (t : Terms) → Rests s t (ignores cause s q t)
ignores_rests causes.Generation s q t = rests_self s t
ignores_rests causes.Grammar s q t = rests_then s t (is_news s t) (ignores causes.Grammar s q t) (news_rests s t) (judges_if_rests _ (asked_by q) s q (is_news s t))
ignores_rests causes.Label s q t = news_rests s t
ignores_rests causes.Again s q t = judges_rests (asked_by q) (Some causes.Again) s q t
ignores_rests causes.Source s q t = rests_then s t (is_news s t) (ignores causes.Source s q t) (news_rests s t) (judges_rests (asked_by q) (Some causes.Source) s q (is_news s t))
ignores_rests causes.Login s q t = rests_then s t (is_news s t) (ignores causes.Login s q t) (news_rests s t) (judges_rests (asked_by q) (Some causes.Login) s q (is_news s t))
ignores_rests causes.Slot s q t =
    let n = is_news s t in
    rests_then s t n (ignores causes.Slot s q t) (news_rests s t) (rests_then s n (is_served s n) (ignores causes.Slot s q t) (served_rests s n) (judges_rests (asked_by q) (Some causes.Slot) s q (is_served s n)))

that_rests : (found : Option Sending) (cause : Cause) (s : ℕ) (t : Terms) → Rests s t (ignores_that found cause s t)
that_rests None cause s t = rests_self s t
that_rests (Some q) cause s t = rests_then s t (arrives s t) (ignores cause s q (arrives s t)) (arrives_rests s t) (ignores_rests cause s q (arrives s t))

late_rests : (begun : Option Transaction) (s : ℕ) (t : Terms) → Rests s t (times_out begun t)
late_rests None s t = rests_self s t
late_rests (Some v) s t = rests_on s t (times_out (Some v) t) refl refl refl refl refl refl

pub got_rests : (serial : ℕ) (past : List Moment) → Rests serial (terms past) (terms (said (notes.Got serial) ∷ past))
got_rests serial past = gets_rests ((terms past).sent serial) serial (terms past)

pub ignored_rests : (serial : ℕ) (cause : Cause) (past : List Moment) → Rests serial (terms past) (terms (said (notes.Ignored serial cause) ∷ past))
ignored_rests serial cause past = that_rests ((terms past).sent serial) cause serial (terms past)

pub timed_rests : (serial : ℕ) (past : List Moment) → Rests serial (terms past) (terms (said (notes.TimedOut serial) ∷ past))
timed_rests serial past = late_rests (begun_in ((terms past).sent serial)) serial (terms past)

-- ---- a packet that is got is taken as new once more

pub judges_news : (v : Option Transaction) (cause : Option Cause) (s : ℕ) (q : Sending) (t : Terms) → (judges v cause s q t).news ≡ t.news
judges_news None cause s q t = refl
judges_news (Some v) cause s q t = refl

pub closes_if_news : (b : Bool) (s : ℕ) (v : Transaction) (rcode : ℕ) (t : Terms) → (closes_if b s v rcode t).news ≡ t.news
closes_if_news true s v rcode t = refl
closes_if_news false s v rcode t = refl

pub closes_news : (held : Held) (v : Transaction) (kind : Kind) (rcode : ℕ) (t : Terms) → (closes held v kind rcode t).news ≡ t.news
closes_news (waits k own) v kind rcode t = closes_if_news (is_same_kind k kind) own v rcode t
closes_news free v kind rcode t = refl
closes_news rests v kind rcode t = refl

pub part_news : (part : Part) (s : ℕ) (q : Sending) (t : Terms) → (gets_as part s q t).news ≡ t.news
part_news (request label kind) s q t = judges_news (asked_by q) None s q t
part_news (response label kind) s q t = closes_news (t.held (between q q.to q.from label)) (between q q.to q.from label) kind (rcode_of q.bytes) t
part_news no_packet s q t = refl

pub one_more : (s : ℕ) (f : ℕ → ℕ) → f s < upd f s (f s + 1) s
one_more s f = by (nat_eq s s) (grind (arith, nat_tests))
  where
    by : (b : Bool) → b ≡ true → f s < cond b (f s + 1) (f s)
    by true e = omega arith
    by false e = untrue e

pub got_more : (serial : ℕ) (past : List Moment) (q : Sending) → (terms past).sent serial ≡ Some q → (terms past).news serial < (terms (said (notes.Got serial) ∷ past)).news serial
got_more serial past q e =
    let t = terms past in
    let c = is_served serial (is_news serial (arrives serial t)) in
    let n = ap (λ (f : ℕ → ℕ). f serial) (part_news (part_of q.bytes) serial q c) in
    let m = one_more serial t.news in
    subst (λ (found : Option Sending). t.news serial < (gets found serial t).news serial) (sym e) (omega (arith, n, m))

-- ---- the request that is to be answered then

judges_owes : (v : Option Transaction) (cause : Option Cause) (s : ℕ) (q : Sending) (t : Terms) (owed : Owed) → (judges v cause s q t).owes ≡ Some owed → (t.owes ≡ Some owed) ⊎ ((owed.serial ≡ s) × (owed.cause ≡ cause))
judges_owes None cause s q t owed e = inl e
judges_owes (Some v) cause s q t owed e =
    let same : record { serial = s; cause = cause } ≡ owed = same_some (record { serial = s; cause = cause }) owed e in
    inr (ap (λ (o : Owed). o.serial) (sym same), ap (λ (o : Owed). o.cause) (sym same))

pub closes_if_owes : (b : Bool) (s : ℕ) (v : Transaction) (rcode : ℕ) (t : Terms) → (closes_if b s v rcode t).owes ≡ t.owes
closes_if_owes true s v rcode t = refl
closes_if_owes false s v rcode t = refl

pub closes_owes : (held : Held) (v : Transaction) (kind : Kind) (rcode : ℕ) (t : Terms) → (closes held v kind rcode t).owes ≡ t.owes
closes_owes (waits k own) v kind rcode t = closes_if_owes (is_same_kind k kind) own v rcode t
closes_owes free v kind rcode t = refl
closes_owes rests v kind rcode t = refl

part_owes : (part : Part) (s : ℕ) (q : Sending) (t : Terms) (owed : Owed) → (gets_as part s q t).owes ≡ Some owed → (t.owes ≡ Some owed) ⊎ ((owed.serial ≡ s) × (owed.cause ≡ None))
part_owes (request label kind) s q t owed e = judges_owes (asked_by q) None s q t owed e
part_owes (response label kind) s q t owed e = inl (sym (closes_owes (t.held (between q q.to q.from label)) (between q q.to q.from label) kind (rcode_of q.bytes) t) ∙ e)
part_owes no_packet s q t owed e = inl e

gets_owes : (found : Option Sending) (s : ℕ) (t : Terms) (owed : Owed) → (gets found s t).owes ≡ Some owed → (t.owes ≡ Some owed) ⊎ ((owed.serial ≡ s) × (owed.cause ≡ None))
gets_owes None s t owed e = inl e
gets_owes (Some q) s t owed e = part_owes (part_of q.bytes) s q (is_served s (is_news s (arrives s t))) owed e

pub got_owes : (serial : ℕ) (past : List Moment) (owed : Owed) → (terms (said (notes.Got serial) ∷ past)).owes ≡ Some owed → ((terms past).owes ≡ Some owed) ⊎ ((owed.serial ≡ serial) × (owed.cause ≡ None))
got_owes serial past owed e = gets_owes ((terms past).sent serial) serial (terms past) owed e

-- what is ignored for a cause is answered by that
abbrev pub HasCause : Owed → Type 0
HasCause owed = owed.cause ≡ None → ⊥

caused : (cause : Cause) (owed : Owed) → owed.cause ≡ Some cause → HasCause owed
caused cause owed e f = let no : None ≡ Some cause = sym f ∙ e in none_is cause no

with_cause : (v : Option Transaction) (cause : Cause) (s : ℕ) (q : Sending) (t : Terms) (owed : Owed) → (judges v (Some cause) s q t).owes ≡ Some owed → (t.owes ≡ Some owed) ⊎ HasCause owed
with_cause v cause s q t owed e = by (judges_owes v (Some cause) s q t owed e)
  where
    by : (t.owes ≡ Some owed) ⊎ ((owed.serial ≡ s) × (owed.cause ≡ Some cause)) → (t.owes ≡ Some owed) ⊎ HasCause owed
    by (inl f) = inl f
    by (inr f) = inr (caused cause owed f.1)

judges_if_owes : (b : Bool) (v : Option Transaction) (s : ℕ) (q : Sending) (t : Terms) (owed : Owed) → (judges_if b v s q t).owes ≡ Some owed → (t.owes ≡ Some owed) ⊎ HasCause owed
judges_if_owes true v s q t owed e = with_cause v causes.Grammar s q t owed e
judges_if_owes false v s q t owed e = inl e

ignores_owes : (cause : Cause) (s : ℕ) (q : Sending) (t : Terms) (owed : Owed) → (ignores cause s q t).owes ≡ Some owed → (t.owes ≡ Some owed) ⊎ HasCause owed
ignores_owes causes.Generation s q t owed e = inl e
ignores_owes causes.Grammar s q t owed e = judges_if_owes _ (asked_by q) s q (is_news s t) owed e
ignores_owes causes.Label s q t owed e = inl e
ignores_owes causes.Again s q t owed e = with_cause (asked_by q) causes.Again s q t owed e
ignores_owes causes.Source s q t owed e = with_cause (asked_by q) causes.Source s q (is_news s t) owed e
ignores_owes causes.Login s q t owed e = with_cause (asked_by q) causes.Login s q (is_news s t) owed e
ignores_owes causes.Slot s q t owed e = with_cause (asked_by q) causes.Slot s q (is_served s (is_news s t)) owed e

that_owes : (found : Option Sending) (cause : Cause) (s : ℕ) (t : Terms) (owed : Owed) → (ignores_that found cause s t).owes ≡ Some owed → (t.owes ≡ Some owed) ⊎ HasCause owed
that_owes None cause s t owed e = inl e
that_owes (Some q) cause s t owed e = ignores_owes cause s q (arrives s t) owed e

pub ignored_owes : (serial : ℕ) (cause : Cause) (past : List Moment) (owed : Owed) → (terms (said (notes.Ignored serial cause) ∷ past)).owes ≡ Some owed → ((terms past).owes ≡ Some owed) ⊎ HasCause owed
ignored_owes serial cause past owed e = that_owes ((terms past).sent serial) cause serial (terms past) owed e

pub late_owes : (begun : Option Transaction) (t : Terms) → (times_out begun t).owes ≡ t.owes
late_owes None t = refl
late_owes (Some v) t = refl

pub timed_owes : (serial : ℕ) (past : List Moment) → (terms (said (notes.TimedOut serial) ∷ past)).owes ≡ (terms past).owes
timed_owes serial past = late_owes (begun_in ((terms past).sent serial)) (terms past)

-- a request that is got is the one that is to be answered
pub got_request : (serial : ℕ) (past : List Moment) (q : Sending) (label : ℕ) (kind : Kind) (v : Transaction) → (terms past).sent serial ≡ Some q → part_of q.bytes ≡ request label kind → asked_by q ≡ Some v → (terms (said (notes.Got serial) ∷ past)).owes ≡ Some (record { serial = serial; cause = None })
got_request serial past q label kind v e f g =
    let t = terms past in
    let c = is_served serial (is_news serial (arrives serial t)) in
    ap (λ (found : Option Sending). (gets found serial t).owes) e ∙ ap (λ part. (gets_as part serial q c).owes) f ∙ ap (λ (o : Option Transaction). (judges o None serial q c).owes) g
