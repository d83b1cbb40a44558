-- The labels of a transaction layer agree with what was told of its transactions.
use Rattle.std.specs.Prelude.{◌≡◌, ◌≢◌, ℕ, ◌+◌, ◌<◌, ◌≤◌, ◌&&◌, nat_eq, Bool, true, false, cond, Option, Some, None, refl}
use Rattle.std.proofs.Common.{arith, sym, ◌∙◌, ap}
use Rattle.async_packet.specs.Labels.{LabelParts}
use Rattle.label_table.specs.declared.reply.ReplyKind.{ReplyKind}
use Rattle.label_table.specs.declared.place.LabelState.{LabelState}
use Rattle.label_table.specs.declared.place.LabelState.TheVariants as states
use Rattle.label_table.specs.History.{began, Life, not_begun, under_way, over, is_same, for_nobody, ended, lived}

-- the same transaction
pub record Same (p : ℕ) (l : LabelParts) (q : ℕ) (m : LabelParts) : Type 0 where
  pub peer : p ≡ q
  pub number : l.number ≡ m.number
  pub generation : l.generation ≡ m.generation
  pub serial : l.serial ≡ m.serial

same_is : (p : ℕ) (l : LabelParts) (q : ℕ) (m : LabelParts) → is_same p l q m ≡ true → Same p l q m
unfolding is_same
same_is p l q m e = record { peer = grind arith; number = grind arith; generation = grind arith; serial = grind arith }

same_self : (p : ℕ) (l m : LabelParts) → l.number ≡ m.number → l.generation ≡ m.generation → l.serial ≡ m.serial → is_same p l p m ≡ true
unfolding is_same
same_self p l m a b c = grind arith

-- By peer and label: its state, and what its transaction is for. By peer: the count that its next
-- transaction will have at least.
pub record Agree {P : Type 0} (generation : ℕ) (state : ℕ → ℕ → LabelState) (purpose : ℕ → ℕ → Option P) (count : ℕ → ℕ) (life : ℕ → LabelParts → Life P) : Type 0 where
  pub now : (s : ℕ) (h : LabelParts) (kind : ReplyKind) (q : Option P) → life s h ≡ under_way kind q → h.generation ≡ generation
  pub stands : (s : ℕ) (h : LabelParts) (kind : ReplyKind) (q : Option P) → life s h ≡ under_way kind q → state s h.number ≡ states.UnderWay kind h.serial
  pub is_for : (s : ℕ) (h : LabelParts) (kind : ReplyKind) (q : Option P) → life s h ≡ under_way kind q → purpose s h.number ≡ q
  pub waits : (s : ℕ) (h : LabelParts) (kind : ReplyKind) → h.generation ≡ generation → state s h.number ≡ states.UnderWay kind h.serial → life s h ≡ under_way kind (purpose s h.number)
  pub fresh : (s : ℕ) (h : LabelParts) → h.generation ≡ generation → count s ≤ h.serial → life s h ≡ not_begun
  pub later : (s : ℕ) (h : LabelParts) → generation < h.generation → life s h ≡ not_begun

-- a transaction begins, with the count as its serial
pub began_agree : {P : Type 0} {g : ℕ} {state : ℕ → ℕ → LabelState} {purpose : ℕ → ℕ → Option P} {count : ℕ → ℕ} {life : ℕ → LabelParts → Life P} → Agree g state purpose count life → (t : ℕ) (l : LabelParts) (kind : ReplyKind) (for : P) → l.generation ≡ g → count t ≤ l.serial → ((k : ReplyKind) (r : ℕ) → state t l.number ≢ states.UnderWay k r) → (state' : ℕ → ℕ → LabelState) (purpose' : ℕ → ℕ → Option P) (count' : ℕ → ℕ) → ((s m : ℕ) → state' s m ≡ cond (nat_eq s t && nat_eq m l.number) (states.UnderWay kind l.serial) (state s m)) → ((s m : ℕ) → purpose' s m ≡ cond (nat_eq s t && nat_eq m l.number) (Some for) (purpose s m)) → ((s : ℕ) → count' s ≡ cond (nat_eq s t) (l.serial + 1) (count s)) → Agree g state' purpose' count' (λ s h. lived (began t l kind for) s h (life s h))
began_agree {life = life} a t l kind for gen low free state' purpose' count' state_is purpose_is count_is = record {
  now = λ s h k q e. let i = same_is t l s h in let o = a.now s h k q in grind arith;
  stands = λ s h k q e. let i = same_is t l s h in let o = a.stands s h k q in let f = free k h.serial in let w = state_is s h.number in grind arith;
  is_for = λ s h k q e. let i = same_is t l s h in let o = a.is_for s h k q in let p = a.stands s h k q in let f = free k h.serial in let w = purpose_is s h.number in grind arith;
  waits = λ s h k e f. let i = same_is t l s h in let j = same_self t l h in let o = a.waits s h k in let w = state_is s h.number in let p = purpose_is s h.number in grind arith;
  fresh = λ s h e f. let i = same_is t l s h in let o = a.fresh s h in let c = count_is s in grind arith;
  later = λ s h e. let i = same_is t l s h in let o = a.later s h in grind arith;
}

ended_not : {P : Type 0} (x : Life P) (k : ReplyKind) (q : Option P) → ended x ≢ under_way k q
ended_not not_begun k q e = cc
ended_not (under_way kind purpose) k q e = cc
ended_not over k q e = cc

kept_by : {P : Type 0} (b : Bool) (x : Life P) (k : ReplyKind) (q : Option P) → cond b (ended x) x ≡ under_way k q → (b ≡ false) × (x ≡ under_way k q)
kept_by true x k q e = absurd (ended_not x k q e)
kept_by false x k q e = (refl, e)

-- two transactions under way have different peers or labels
apart : (state : ℕ → ℕ → LabelState) (t s : ℕ) (l h : LabelParts) (kind k : ReplyKind) → is_same t l s h ≡ false → l.generation ≡ h.generation → state t l.number ≡ states.UnderWay kind l.serial → state s h.number ≡ states.UnderWay k h.serial → (nat_eq s t && nat_eq h.number l.number) ≡ false
apart state t s l h kind k d g e f = let j = same_self t l h in grind arith

-- a transaction ends, and its label is no more under way
pub ended_agree : {P : Type 0} {g : ℕ} {state : ℕ → ℕ → LabelState} {purpose : ℕ → ℕ → Option P} {count : ℕ → ℕ} {life : ℕ → LabelParts → Life P} → Agree g state purpose count life → (t : ℕ) (l : LabelParts) (kind : ReplyKind) (new : LabelState) → l.generation ≡ g → state t l.number ≡ states.UnderWay kind l.serial → ((k : ReplyKind) (r : ℕ) → new ≢ states.UnderWay k r) → (state' : ℕ → ℕ → LabelState) (purpose' : ℕ → ℕ → Option P) (count' : ℕ → ℕ) → ((s m : ℕ) → state' s m ≡ cond (nat_eq s t && nat_eq m l.number) new (state s m)) → ((s m : ℕ) → purpose' s m ≡ cond (nat_eq s t && nat_eq m l.number) None (purpose s m)) → ((s : ℕ) → count s ≤ count' s) → Agree g state' purpose' count' (λ s h. cond (is_same t l s h) (ended (life s h)) (life s h))
ended_agree {state = state} {life = life} a t l kind new gen was not state' purpose' count' state_is purpose_is count_is = record {
  now = λ s h k q e. a.now s h k q (kept_by (is_same t l s h) (life s h) k q e).1;
  stands = λ s h k q e.
      let y = kept_by (is_same t l s h) (life s h) k q e in
      let o = a.stands s h k q y.1 in
      let z = apart state t s l h kind k y.0 (gen ∙ sym (a.now s h k q y.1)) was o in
      state_is s h.number ∙ rw z o;
  is_for = λ s h k q e.
      let y = kept_by (is_same t l s h) (life s h) k q e in
      let z = apart state t s l h kind k y.0 (gen ∙ sym (a.now s h k q y.1)) was (a.stands s h k q y.1) in
      purpose_is s h.number ∙ rw z (a.is_for s h k q y.1);
  waits = λ s h k e f. let i = same_is t l s h in let o = a.waits s h k in let w = state_is s h.number in let p = purpose_is s h.number in let n = not k h.serial in grind arith;
  fresh = λ s h e f. let o = a.fresh s h in let c = count_is s in grind arith;
  later = λ s h e. let o = a.later s h in grind arith;
}

nobody_is : {P : Type 0} (x : Life P) (k : ReplyKind) (q : Option P) → for_nobody x ≡ under_way k q → (r : Option P) × (x ≡ under_way k r) × (q ≡ None)
nobody_is not_begun k q e = cc
nobody_is (under_way kind purpose) k q e = (purpose, cc, cc)
nobody_is over k q e = cc

-- the transaction of a handle is left to nobody, where it is under way
pub disowned_agree : {P : Type 0} {g : ℕ} {state : ℕ → ℕ → LabelState} {purpose : ℕ → ℕ → Option P} {count : ℕ → ℕ} {life : ℕ → LabelParts → Life P} → Agree g state purpose count life → (t : ℕ) (l : LabelParts) (kind : ReplyKind) → l.generation ≡ g → state t l.number ≡ states.UnderWay kind l.serial → (state' : ℕ → ℕ → LabelState) (purpose' : ℕ → ℕ → Option P) (count' : ℕ → ℕ) → ((s m : ℕ) → state' s m ≡ state s m) → ((s m : ℕ) → purpose' s m ≡ cond (nat_eq s t && nat_eq m l.number) None (purpose s m)) → ((s : ℕ) → count s ≤ count' s) → Agree g state' purpose' count' (λ s h. cond (is_same t l s h) (for_nobody (life s h)) (life s h))
disowned_agree {life = life} a t l kind gen was state' purpose' count' state_is purpose_is count_is = record {
  now = λ s h k q e. let i = nobody_is (life s h) k q in let o = a.now s h k in grind arith;
  stands = λ s h k q e. let i = nobody_is (life s h) k q in let o = a.stands s h k in let w = state_is s h.number in grind arith;
  is_for = λ s h k q e. let i = nobody_is (life s h) k q in let v = same_is t l s h in let j = same_self t l h in let o = a.is_for s h k q in let p = a.stands s h k q in let n = a.now s h k q in let w = purpose_is s h.number in grind arith;
  waits = λ s h k e f. let i = same_is t l s h in let j = same_self t l h in let o = a.waits s h k in let w = state_is s h.number in let p = purpose_is s h.number in grind arith;
  fresh = λ s h e f. let o = a.fresh s h in let c = count_is s in grind arith;
  later = λ s h e. let o = a.later s h in grind arith;
}

-- or is not under way, and nothing changes
pub stale_agree : {P : Type 0} {g : ℕ} {state : ℕ → ℕ → LabelState} {purpose : ℕ → ℕ → Option P} {count : ℕ → ℕ} {life : ℕ → LabelParts → Life P} → Agree g state purpose count life → (t : ℕ) (l : LabelParts) → ((k : ReplyKind) → l.generation ≡ g → state t l.number ≢ states.UnderWay k l.serial) → Agree g state purpose count (λ s h. cond (is_same t l s h) (for_nobody (life s h)) (life s h))
stale_agree {life = life} a t l not = record {
  now = λ s h k q e. let i = nobody_is (life s h) k q in let o = a.now s h k in grind arith;
  stands = λ s h k q e. let i = nobody_is (life s h) k q in let o = a.stands s h k in grind arith;
  is_for = λ s h k q e. let i = nobody_is (life s h) k q in let v = same_is t l s h in let o = a.is_for s h k q in let p = a.stands s h k in let n = a.now s h k in let m = not k in grind arith;
  waits = λ s h k e f. let v = same_is t l s h in let o = a.waits s h k in let m = not k in grind arith;
  fresh = λ s h e f. let o = a.fresh s h in grind arith;
  later = λ s h e. let o = a.later s h in grind arith;
}

-- a later generation is seen
pub forgotten_agree : {P : Type 0} {g : ℕ} {state : ℕ → ℕ → LabelState} {purpose : ℕ → ℕ → Option P} {count : ℕ → ℕ} {life : ℕ → LabelParts → Life P} → Agree g state purpose count life → (g' : ℕ) → g < g' → (state' : ℕ → ℕ → LabelState) (purpose' : ℕ → ℕ → Option P) (count' : ℕ → ℕ) → ((s m : ℕ) (k : ReplyKind) (r : ℕ) → state' s m ≢ states.UnderWay k r) → Agree g' state' purpose' count' (λ s h. ended (life s h))
forgotten_agree {life = life} a g' after state' purpose' count' none = record {
  now = λ s h k q e. absurd (ended_not (life s h) k q e);
  stands = λ s h k q e. absurd (ended_not (life s h) k q e);
  is_for = λ s h k q e. absurd (ended_not (life s h) k q e);
  waits = λ s h k e f. absurd (none s h.number k h.serial f);
  fresh = λ s h e f. ap ended (a.later s h (omega arith));
  later = λ s h e. ap ended (a.later s h (omega arith));
}
