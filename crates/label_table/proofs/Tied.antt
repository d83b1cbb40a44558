-- What holds between the labels of a requester, the last requests of its responder, and the counts
-- of judgements, at every moment.
use Rattle.std.specs.Prelude.{◌≡◌, ◌≢◌, ℕ, ◌+◌, ◌<◌, ◌≤◌, Bool, true, false, cond, List, [], ◌∷◌, Option, Some, None, refl}
use Rattle.std.proofs.Common.{arith, sym, ◌∙◌}
use Rattle.std.specs.Str.{bytes_eq}
use Rattle.label_table.specs.declared.reply.ReplyKind.{ReplyKind}
use Rattle.label_table.specs.declared.place.LabelState.{LabelState}
use Rattle.label_table.specs.declared.place.LabelState.TheVariants as states
use Rattle.label_table.specs.Requests.{label_of, is_write, is_last}
use Rattle.label_table.specs.Table.{is_free}
use Rattle.label_table.specs.Once.{upd}

-- By label: its state, its sender's and its receiver's last request, and its latest serial. By
-- serial: what was sent, how often it was judged and judged fresh, and whether it was closed.
pub record Tied (calls : ℕ) (state : ℕ → LabelState) (last seen : ℕ → Option (List ℕ)) (sent : ℕ → Option (List ℕ)) (latest : ℕ → Option ℕ) (judgements fresh : ℕ → ℕ) (closed : ℕ → Bool) : Type 0 where
  pub unsent : (s : ℕ) → calls ≤ s → sent s ≡ None
  pub unjudged : (s : ℕ) → calls ≤ s → judgements s ≡ 0
  pub unfresh : (s : ℕ) → calls ≤ s → fresh s ≡ 0
  pub unclosed : (s : ℕ) → calls ≤ s → closed s ≡ false
  pub begun : (l s : ℕ) → latest l ≡ Some s → s < calls
  pub labelled : (l s : ℕ) (b : List ℕ) → latest l ≡ Some s → sent s ≡ Some b → label_of b ≡ l
  pub sent_last : (l s : ℕ) → latest l ≡ Some s → sent s ≡ last l
  pub unseen : (l : ℕ) → latest l ≡ None → seen l ≡ None
  pub is_seen : (l s : ℕ) → latest l ≡ Some s → 0 < judgements s → sent s ≡ seen l
  pub is_new : (l s : ℕ) (b : List ℕ) → latest l ≡ Some s → judgements s ≡ 0 → sent s ≡ Some b → is_write b ≡ true → is_last (seen l) b ≡ false
  pub freed : (l s : ℕ) → latest l ≡ Some s → is_free (state l) ≡ true → closed s ≡ true
  pub waits : (l s : ℕ) (kind : ReplyKind) → state l ≡ states.UnderWay kind s → latest l ≡ Some s
  pub holds : (s : ℕ) (b : List ℕ) → sent s ≡ Some b → closed s ≡ false → latest (label_of b) ≡ Some s
  pub came : (s : ℕ) → closed s ≡ true → 0 < judgements s
  pub none : (s : ℕ) (b : List ℕ) → sent s ≡ Some b → is_write b ≡ true → judgements s ≡ 0 → fresh s ≡ 0
  pub once : (s : ℕ) (b : List ℕ) → sent s ≡ Some b → is_write b ≡ true → 0 < judgements s → fresh s ≡ 1

-- what a label may take: its last request as the receiver knows it is none, or that of its sender
taken_new : (latest : Option ℕ) (seen last : Option (List ℕ)) (b : List ℕ) → (latest ≡ None → seen ≡ None) → ((s : ℕ) → latest ≡ Some s → last ≡ seen) → is_last last b ≡ false → is_last seen b ≡ false
taken_new None seen last b none some d = let e = none refl in rw e refl
taken_new (Some s) seen last b none some d = let e = some s refl in rw (← e) d

pub begin_tied : {calls : ℕ} {state : ℕ → LabelState} {last seen sent : ℕ → Option (List ℕ)} {latest : ℕ → Option ℕ} {judgements fresh : ℕ → ℕ} {closed : ℕ → Bool} → Tied calls state last seen sent latest judgements fresh closed → (k : ℕ) (bytes : List ℕ) (kind : ReplyKind) → is_free (state k) ≡ true → label_of bytes ≡ k → (is_write bytes ≡ true → is_last (last k) bytes ≡ false) → (state' : ℕ → LabelState) (last' : ℕ → Option (List ℕ)) → ((l : ℕ) → state' l ≡ upd state k (states.UnderWay kind calls) l) → ((l : ℕ) → last' l ≡ upd last k (Some bytes) l) → Tied (calls + 1) state' last' seen (upd sent calls (Some bytes)) (upd latest k (Some calls)) judgements fresh closed
begin_tied {calls} {state} {last} {seen} {sent} {latest} {judgements} {fresh} {closed} t k bytes kind free is_label differs state' last' state_is last_is = record {
  unsent = λ s h. let e = t.unsent s in grind arith;
  unjudged = λ s h. t.unjudged s (omega arith);
  unfresh = λ s h. t.unfresh s (omega arith);
  unclosed = λ s h. t.unclosed s (omega arith);
  begun = λ l s e. let b = t.begun l s in grind arith;
  labelled = λ l s b e f. let g = t.labelled l s b in let h = t.begun l s in grind arith;
  sent_last = λ l s e. let g = t.sent_last l s in let h = t.begun l s in let i = last_is l in grind arith;
  unseen = λ l e. let g = t.unseen l in grind arith;
  is_seen = λ l s e j. let g = t.is_seen l s in let h = t.begun l s in let i = t.unjudged s in grind arith;
  is_new = λ l s b e j f w.
      let g = t.is_new l s b in
      let h = t.begun l s in
      let old : is_write bytes ≡ true → is_last (seen k) bytes ≡ false = λ w.
      taken_new (latest k) (seen k) (last k) bytes (t.unseen k) (λ s e. sym (t.sent_last k s e) ∙ t.is_seen k s e (t.came s (t.freed k s e free))) (differs w) in
      grind arith;
  freed = λ l s e f. let g = t.freed l s in let i = state_is l in grind arith;
  waits = λ l s kind' e. let g = t.waits l s kind' in let i = state_is l in grind arith;
  holds = λ s b e f. let g = t.holds s b in let i = t.freed k s in grind arith;
  came = t.came;
  none = λ s b e w j. let g = t.none s b in let i = t.unfresh s in grind arith;
  once = λ s b e w j. let g = t.once s b in let i = t.unjudged s in grind arith;
}

-- a label's state changes, where its transaction is closed or rests
pub state_tied : {calls : ℕ} {state : ℕ → LabelState} {last seen sent : ℕ → Option (List ℕ)} {latest : ℕ → Option ℕ} {judgements fresh : ℕ → ℕ} {closed : ℕ → Bool} → Tied calls state last seen sent latest judgements fresh closed → (k s : ℕ) → latest k ≡ Some s → (new : LabelState) (done : Bool) → is_free new ≡ done → ((kind : ReplyKind) (s : ℕ) → new ≢ states.UnderWay kind s) → (done ≡ true → 0 < judgements s) → (state' : ℕ → LabelState) (last' : ℕ → Option (List ℕ)) → ((l : ℕ) → state' l ≡ upd state k new l) → ((l : ℕ) → last' l ≡ last l) → (closed' : ℕ → Bool) → ((r : ℕ) → closed' r ≡ cond done (upd closed s true r) (closed r)) → Tied (calls + 1) state' last' seen sent latest judgements fresh closed'
state_tied {calls} {state} {last} {seen} {sent} {latest} {judgements} {fresh} {closed} t k s current new done is_done not_under came state' last' state_is last_is closed' closed_is = record {
  unsent = λ r h. t.unsent r (omega arith);
  unjudged = λ r h. t.unjudged r (omega arith);
  unfresh = λ r h. t.unfresh r (omega arith);
  unclosed = λ r h. let g = t.unclosed r in let i = t.begun k s current in let c = closed_is r in grind arith;
  begun = λ l r e. let b = t.begun l r e in omega arith;
  labelled = t.labelled;
  sent_last = λ l r e. let g = t.sent_last l r e in let i = last_is l in cc;
  unseen = t.unseen;
  is_seen = t.is_seen;
  is_new = t.is_new;
  freed = λ l r e f. let g = t.freed l r e in let i = state_is l in let c = closed_is r in grind arith;
  waits = λ l r kind e. let g = t.waits l r kind in let i = state_is l in let n = not_under kind r in grind arith;
  holds = λ r b e f. let g = t.holds r b e in let c = closed_is r in grind arith;
  came = λ r e. let g = t.came r in let c = closed_is r in grind arith;
  none = t.none;
  once = t.once;
}

pub bytes_same : (b : List ℕ) → bytes_eq b b ≡ true
bytes_same [] = refl
bytes_same (x ∷ b) = let e = bytes_same b in grind arith

-- a delivery of the latest request of its label
pub deliver_tied : {calls : ℕ} {state : ℕ → LabelState} {last seen sent : ℕ → Option (List ℕ)} {latest : ℕ → Option ℕ} {judgements fresh : ℕ → ℕ} {closed : ℕ → Bool} → Tied calls state last seen sent latest judgements fresh closed → (s : ℕ) (bytes : List ℕ) → sent s ≡ Some bytes → latest (label_of bytes) ≡ Some s → (new : ℕ) → (is_write bytes ≡ true → is_last (seen (label_of bytes)) bytes ≡ true → new ≡ 0) → (is_write bytes ≡ true → is_last (seen (label_of bytes)) bytes ≡ false → new ≡ 1) → (seen' : ℕ → Option (List ℕ)) → ((l : ℕ) → seen' l ≡ upd seen (label_of bytes) (Some bytes) l) → Tied calls state last seen' sent latest (upd judgements s (judgements s + 1)) (upd fresh s (fresh s + new)) closed
deliver_tied {calls} {state} {last} {seen} {sent} {latest} {judgements} {fresh} {closed} t s bytes is_sent current new again first seen' seen_is = record {
  unsent = t.unsent;
  unjudged = λ r h. let g = t.unjudged r h in let i = t.begun (label_of bytes) s current in grind arith;
  unfresh = λ r h. let g = t.unfresh r h in let i = t.begun (label_of bytes) s current in grind arith;
  unclosed = t.unclosed;
  begun = t.begun;
  labelled = t.labelled;
  sent_last = t.sent_last;
  unseen = λ l e. let g = t.unseen l e in let i = seen_is l in grind arith;
  is_seen = λ l r e j. let g = t.is_seen l r e in let i = seen_is l in let n = t.labelled l r bytes e in grind arith;
  is_new = λ l r b e j f w. let g = t.is_new l r b e in let i = seen_is l in let n = t.labelled l r bytes e in grind arith;
  freed = t.freed;
  waits = t.waits;
  holds = t.holds;
  came = λ r e. let g = t.came r e in grind arith;
  none = λ r b e w j. let g = t.none r b e w in grind arith;
  once = λ r b e w j.
      let g = t.once r b e w in
      let n = t.none r b e w in
      let a = t.is_seen (label_of bytes) s current in
      let f = t.is_new (label_of bytes) s bytes current in
      let same = bytes_same bytes in
      grind arith;
}

-- the receiver's last requests, said by another function
pub seen_tied : {calls : ℕ} {state : ℕ → LabelState} {last seen sent : ℕ → Option (List ℕ)} {latest : ℕ → Option ℕ} {judgements fresh : ℕ → ℕ} {closed : ℕ → Bool} → Tied calls state last seen sent latest judgements fresh closed → (seen' : ℕ → Option (List ℕ)) → ((l : ℕ) → seen' l ≡ seen l) → Tied calls state last seen' sent latest judgements fresh closed
seen_tied t seen' same = record {
  unsent = t.unsent;
  unjudged = t.unjudged;
  unfresh = t.unfresh;
  unclosed = t.unclosed;
  begun = t.begun;
  labelled = t.labelled;
  sent_last = t.sent_last;
  unseen = λ l e. same l ∙ t.unseen l e;
  is_seen = λ l s e j. t.is_seen l s e j ∙ sym (same l);
  is_new = λ l s b e j f w. rw (same l) (t.is_new l s b e j f w);
  freed = t.freed;
  waits = t.waits;
  holds = t.holds;
  came = t.came;
  none = t.none;
  once = t.once;
}
