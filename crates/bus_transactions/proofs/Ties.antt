-- What holds of one transaction at every moment: between its requester's label, its last requests, and how often its present request was
-- judged. `fair` says that the requester has not injected packets, `both` that the responder has not either.
use Rattle.std.specs.Prelude.{◌≡◌, ◌⊎◌, ℕ, zero, suc, ◌+◌, ◌<◌, ◌≤◌, ◌&&◌, Bool, true, false, cond, List, Option, Some, None, refl}
use Rattle.std.proofs.Common.{arith, sym, ◌∙◌, subst, inl, inr, ⊎_elim}
use Rattle.label_table.specs.Requests.{is_write, is_last}
use Rattle.label_table.proofs.Tied.{bytes_same}
use Rattle.sbp_journal.specs.Transactions.{Kind}
use Rattle.sbp_journal.specs.Wire.{Held, free, waits, rests}

pub record Tie (fair both : Bool) (count current : ℕ) (last seen : Option (List ℕ)) (held : Held) (judged news : ℕ) : Type 0 where
  pub fairer : both ≡ true → fair ≡ true
  pub low : current ≤ count
  pub idle : current ≡ 0 → held ≡ free
  pub none : current ≡ 0 → last ≡ None
  pub waiting : (kind : Kind) (s : ℕ) → held ≡ waits kind s → (s ≡ current) × (0 < s)
  pub unseen : fair ≡ true → current ≡ 0 → seen ≡ None
  pub is_seen : fair ≡ true → 0 < judged → seen ≡ last
  pub is_new : both ≡ true → judged ≡ 0 → (b : List ℕ) → last ≡ Some b → is_write b ≡ true → is_last seen b ≡ false
  pub freed : both ≡ true → held ≡ free → 0 < current → 0 < judged
  pub unjudged : judged ≡ 0 → news ≡ 0
  pub most : fair ≡ true → (b : List ℕ) → last ≡ Some b → is_write b ≡ true → news ≤ 1
  pub once : both ≡ true → 0 < judged → (b : List ℕ) → last ≡ Some b → is_write b ≡ true → news ≡ 1

-- nothing was sent yet
pub tie_none : (fair both : Bool) → (both ≡ true → fair ≡ true) → Tie fair both 0 0 None None free 0 0
tie_none fair both f = record {
  fairer = f;
  low = omega arith;
  idle = λ e. refl;
  none = λ e. refl;
  waiting = λ kind s e. cc;
  unseen = λ f e. refl;
  is_seen = λ f e. refl;
  is_new = λ f e b l. cc;
  freed = λ f e h. absurd (omega arith);
  unjudged = λ e. refl;
  most = λ f b l. cc;
  once = λ f h b l. cc;
}

-- another packet is sent
pub tie_counts : {fair both : Bool} {count current judged news : ℕ} {last seen : Option (List ℕ)} {held : Held} → Tie fair both count current last seen held judged news → Tie fair both (count + 1) current last seen held judged news
tie_counts t = record {
  fairer = t.fairer;
  low = let l = t.low in omega arith;
  idle = t.idle;
  none = t.none;
  waiting = t.waiting;
  unseen = t.unseen;
  is_seen = t.is_seen;
  is_new = t.is_new;
  freed = t.freed;
  unjudged = t.unjudged;
  most = t.most;
  once = t.once;
}

-- a node injects
pub tie_weaker : {fair both fair' both' : Bool} {count current judged news : ℕ} {last seen : Option (List ℕ)} {held : Held} → Tie fair both count current last seen held judged news → (fair' ≡ true → fair ≡ true) → (both' ≡ true → both ≡ true) → (both' ≡ true → fair' ≡ true) → Tie fair' both' count current last seen held judged news
tie_weaker t f b g = record {
  fairer = g;
  low = t.low;
  idle = t.idle;
  none = t.none;
  waiting = t.waiting;
  unseen = λ e. t.unseen (f e);
  is_seen = λ e. t.is_seen (f e);
  is_new = λ e. t.is_new (b e);
  freed = λ e. t.freed (b e);
  unjudged = t.unjudged;
  most = λ e. t.most (f e);
  once = λ e. t.once (b e);
}

pub one_of : (n : ℕ) → (n ≡ 0) ⊎ (0 < n)
one_of zero = inl refl
one_of (suc n) = inr (omega arith)

none_last : (seen : Option (List ℕ)) (b : List ℕ) → seen ≡ None → is_last seen b ≡ false
none_last seen b e = rw e refl

-- a request takes the label
pub tie_begins : {fair both : Bool} {count current judged news : ℕ} {last seen : Option (List ℕ)} {held : Held} → Tie fair both count current last seen held judged news → (kind : Kind) (bytes : List ℕ) → held ≡ free → (is_write bytes ≡ true → is_last last bytes ≡ false) → Tie fair both (count + 1) (count + 1) (Some bytes) seen (waits kind (count + 1)) 0 0
tie_begins {fair} {both} {count} {current} {judged} {news} {last} {seen} {held} t kind bytes is_free differs = record {
  fairer = t.fairer;
  low = omega arith;
  idle = λ e. absurd (omega arith);
  none = λ e. absurd (omega arith);
  waiting = λ kind' s e. let i : s ≡ count + 1 = cc in (i, omega arith);
  unseen = λ f e. absurd (omega arith);
  is_seen = λ f h. absurd (omega arith);
  is_new = λ f e b l w.
      let i : bytes ≡ b = cc in
      let d : is_last last b ≡ false = subst (λ x. is_last last x ≡ false) i (differs (subst (λ x. is_write x ≡ true) (sym i) w)) in
      ⊎_elim (λ z. none_last seen b (t.unseen (t.fairer f) z)) (λ h. subst (λ x. is_last x b ≡ false) (sym (t.is_seen (t.fairer f) (t.freed f is_free h))) d) (one_of current);
  freed = λ f e h. cc;
  unjudged = λ e. refl;
  most = λ f b l w. omega arith;
  once = λ f h b l w. absurd (omega arith);
}

-- whether a delivery of its request counts as new
abbrev pub counts_new : Option (List ℕ) → List ℕ → ℕ
counts_new seen b = cond (is_write b && is_last seen b) 0 1

pub is_counted : (seen : Option (List ℕ)) (b : List ℕ) → is_write b ≡ true → is_last seen b ≡ true → counts_new seen b ≡ 0
is_counted seen b w e = rw (w, e) refl

pub is_first : (seen : Option (List ℕ)) (b : List ℕ) → is_write b ≡ true → is_last seen b ≡ false → counts_new seen b ≡ 1
is_first seen b w e = rw (w, e) refl

at_most : (seen : Option (List ℕ)) (b : List ℕ) (x : Bool) → (is_write b && is_last seen b) ≡ x → counts_new seen b ≤ 1
at_most seen b true e = rw e (omega arith)
at_most seen b false e = rw e (omega arith)

pub same_last : (seen last : Option (List ℕ)) (b : List ℕ) → seen ≡ last → last ≡ Some b → is_last seen b ≡ true
same_last seen last b e f = rw (e ∙ f) (bytes_same b)

-- its present request is judged
pub tie_judged : {fair both : Bool} {count current judged news : ℕ} {last seen : Option (List ℕ)} {held : Held} → Tie fair both count current last seen held judged news → (b : List ℕ) → last ≡ Some b → Tie fair both count current last (Some b) held (judged + 1) (news + counts_new seen b)
tie_judged {fair} {both} {count} {current} {judged} {news} {last} {seen} {held} t b is = record {
  fairer = t.fairer;
  low = t.low;
  idle = t.idle;
  none = t.none;
  waiting = t.waiting;
  unseen = λ f e. let n = t.none e in cc;
  is_seen = λ f h. sym is;
  is_new = λ f e. absurd (omega arith);
  freed = λ f e h. omega arith;
  unjudged = λ e. absurd (omega arith);
  most = λ f c l w.
      let i : b ≡ c = cc in
      let v : is_write b ≡ true = subst (λ x. is_write x ≡ true) (sym i) w in
      ⊎_elim (λ z. let n = t.unjudged z in let m = at_most seen b _ refl in omega (arith, n, m))
      (λ h. let n = t.most f b is v in let z = is_counted seen b v (same_last seen last b (t.is_seen f h) is) in omega (arith, n, z)) (one_of judged);
  once = λ f h c l w.
      let i : b ≡ c = cc in
      let v : is_write b ≡ true = subst (λ x. is_write x ≡ true) (sym i) w in
      ⊎_elim (λ z. let n = t.unjudged z in let m = is_first seen b v (t.is_new f z b is v) in omega (arith, n, m))
      (λ h. let n = t.once f h b is v in let z = is_counted seen b v (same_last seen last b (t.is_seen (t.fairer f) h) is) in omega (arith, n, z)) (one_of judged);
}

not_true : {b : Bool} → b ≡ false → b ≡ true → ⊥
not_true e f = cc

-- an injected request of its requester is judged
pub tie_heard : {fair both : Bool} {count current judged news : ℕ} {last seen : Option (List ℕ)} {held : Held} → Tie fair both count current last seen held judged news → fair ≡ false → (seen' : Option (List ℕ)) → Tie fair both count current last seen' held judged news
tie_heard t wild seen' = record {
  fairer = t.fairer;
  low = t.low;
  idle = t.idle;
  none = t.none;
  waiting = t.waiting;
  unseen = λ f. absurd (not_true wild f);
  is_seen = λ f. absurd (not_true wild f);
  is_new = λ f. absurd (not_true wild (t.fairer f));
  freed = t.freed;
  unjudged = t.unjudged;
  most = t.most;
  once = t.once;
}

-- a response closes it
pub tie_freed : {fair both : Bool} {count current judged news : ℕ} {last seen : Option (List ℕ)} {held : Held} → Tie fair both count current last seen held judged news → (both ≡ true → 0 < judged) → Tie fair both count current last seen free judged news
tie_freed t came = record {
  fairer = t.fairer;
  low = t.low;
  idle = λ e. refl;
  none = t.none;
  waiting = λ kind s e. cc;
  unseen = t.unseen;
  is_seen = t.is_seen;
  is_new = t.is_new;
  freed = λ f e h. came f;
  unjudged = t.unjudged;
  most = t.most;
  once = t.once;
}

-- it times out
pub tie_rests : {fair both : Bool} {count current judged news : ℕ} {last seen : Option (List ℕ)} {held : Held} {kind : Kind} {s : ℕ} → Tie fair both count current last seen held judged news → held ≡ waits kind s → Tie fair both count current last seen rests judged news
tie_rests {current = current} {held = held} t was = record {
  fairer = t.fairer;
  low = t.low;
  idle = λ e. let i = t.idle e in cc;
  none = t.none;
  waiting = λ kind s e. cc;
  unseen = t.unseen;
  is_seen = t.is_seen;
  is_new = t.is_new;
  freed = λ f e h. cc;
  unjudged = t.unjudged;
  most = t.most;
  once = t.once;
}
