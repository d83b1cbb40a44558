-- What holds from place to place of the target's unsolicited statuses: to whom one of the terms is under way, or its label rests, he is among the nodes to which the target has one
-- pending. It is kept by the first note of a turn, and by what stands behind it.
use Rattle.std.proofs.Common.{arith, ◌≡◌, ◌∙◌, refl, sym, ap, subst, inl, inr, ◌⊎◌, ℕ, ◌<◌, ◌≤◌, ◌||◌, true, false, List}
use Rattle.bus_transactions.specs.Rows.{shape, shape_of}
use Rattle.label_table.specs.declared.place.LabelState.{LabelState}
use Rattle.label_table.specs.declared.place.LabelState.TheVariants as states
use Rattle.label_table.specs.declared.reply.ReplyKind.{ReplyKind}
use Rattle.label_table.specs.declared.reply.ReplyKind.TheVariants as kinds
use Rattle.label_table.specs.Layer.{Layer}
use Rattle.label_table.specs.Peers.{state_for}
use Rattle.rbc_disk.specs.Disk.{Disk}
use Rattle.sbp_journal.specs.Run.{Moment}
use Rattle.sbp_journal.specs.Transactions.{Kind, Transaction}
use Rattle.sbp_journal.specs.Wire.{Held, Terms, free, rests, terms, waits}
use Rattle.sbp_laws.specs.MediaLaw.{is_pending}
use Rattle.sbp_laws.specs.Packets.{has_resting_label, is_under_way, receiver_in}
use Rattle.sbp_laws.specs.Targets.{is_serial}
use Rattle.sbp_target.specs.Units.{is_pending as is_listed}
use Rattle.sbp_target.specs.declared.purpose.Purpose.{Purpose}
use Rattle.sbp_world.proofs.Agents.Purposes.{Waits, held_waits}
use Rattle.sbp_world.proofs.Common.{and_first, equal, untrue}
use Rattle.turn_laws.proofs.LaterTerms.{Later, New, Own, Pushes, rests_waits, same_waits}
use Rattle.turn_laws.proofs.PushSerials.{Has}
use Rattle.turn_laws.proofs.StatusOnce.{Distinct}
use Rattle.turn_laws.proofs.StatusRows.{IsFresh, Row}

-- the ID of a node as the target knows it
abbrev pub Id : Terms → ℕ → ℕ
Id t n = t.ids (t.generation 0) n

-- a label waits for the response to the packet with this serial
pub record WaitsFor (held : Held) (s : ℕ) : Type 0 where
  pub kind : Kind
  pub is : held ≡ waits kind s

-- the labels of the target to its nodes are those of the terms
abbrev pub AreTied : ℕ → Terms → Layer Purpose → Type 0
AreTied nodes t layer = (n number : ℕ) → n ≤ nodes → shape (state_for layer.peers (Id t n) number) ≡ shape_of (t.held (Own t n number))

-- an unsolicited status of the terms is pending to a node
abbrev pub Pends : Terms → List ℕ → ℕ → Type 0
Pends t pushes n = (s : ℕ) × (Has pushes s × (is_pending t n s ≡ true))

-- what waits is under way
pub record UnderState (state : LabelState) : Type 0 where
  pub kind : ReplyKind
  pub call : ℕ
  pub is : state ≡ states.UnderWay kind call

pub under_state : (state : LabelState) (kind : Kind) (s : ℕ) → shape state ≡ shape_of (waits kind s) → UnderState state
under_state states.Free kind s e = cc
under_state states.Resting kind s e = cc
under_state (states.UnderWay own call) kind s e = record { kind = own; call = call; is = refl }

pub record Pending (nodes : ℕ) (t : Terms) (pushes : List ℕ) (layer : Layer Purpose) (pending : List ℕ) : Type 0 where
  pub pends : (n s : ℕ) → n ≤ nodes → Has pushes s → is_pending t n s ≡ true → is_listed (Id t n) pending ≡ true
  -- an unsolicited status of the terms that is under way is one at the target
  pub push : (n number : ℕ) (kind : Kind) (s : ℕ) → n ≤ nodes → t.held (Own t n number) ≡ waits kind s → Has pushes s → Row layer (Id t n) number
  -- a node has one at most, and then no other one that is pending
  pub full : (n number : ℕ) → n ≤ nodes → Row layer (Id t n) number → is_listed (Id t n) pending ≡ true
  pub one : (n a b : ℕ) → n ≤ nodes → Row layer (Id t n) a → Row layer (Id t n) b → a ≡ b
  pub calm : (n number s : ℕ) → n ≤ nodes → Row layer (Id t n) number → Has pushes s → is_pending t n s ≡ true → WaitsFor (t.held (Own t n number)) s
  -- one at the target is one of the terms; and who stands among the nodes has one that is pending, and stands there once
  pub row : (n number : ℕ) (kind : Kind) (s : ℕ) → n ≤ nodes → Row layer (Id t n) number → t.held (Own t n number) ≡ waits kind s → Has pushes s
  pub same : (n : ℕ) → n ≤ nodes → is_listed (Id t n) pending ≡ true → Pends t pushes n
  pub once : Distinct pending

-- a row waits
pub row_waits : (nodes : ℕ) (t : Terms) (layer : Layer Purpose) → AreTied nodes t layer → (n number : ℕ) → n ≤ nodes → Row layer (Id t n) number → Waits (t.held (Own t n number))
row_waits nodes t layer tied n number l r = held_waits (t.held (Own t n number)) r.kind (sym (ap shape r.waits) ∙ tied n number l)

-- a row waits, and what waits is under way
pub record Ties (nodes : ℕ) (t : Terms) (layer : Layer Purpose) : Type 0 where
  pub waiting : (n number : ℕ) → n ≤ nodes → Row layer (Id t n) number → Waits (t.held (Own t n number))
  pub under : (n number : ℕ) (kind : Kind) (s : ℕ) → n ≤ nodes → t.held (Own t n number) ≡ waits kind s → UnderState (state_for layer.peers (Id t n) number)

pub ties_of : (nodes : ℕ) (t : Terms) (layer : Layer Purpose) → AreTied nodes t layer → Ties nodes t layer
ties_of nodes t layer tied = record {
  waiting = λ n number l r. row_waits nodes t layer tied n number l r;
  under = λ n number kind s l e. under_state (state_for layer.peers (Id t n) number) kind s (tied n number l ∙ ap shape_of e);
}

-- ---- the first note of a turn
-- what it leaves of the terms: a transaction of the target goes on, or is over
pub record Less (t now : Terms) (pushes : List ℕ) : Type 0 where
  pub generation : now.generation 0 ≡ t.generation 0
  pub ids : (n : ℕ) → now.ids (t.generation 0) n ≡ t.ids (t.generation 0) n
  pub held : (n number : ℕ) → (now.held (Own t n number) ≡ t.held (Own t n number)) ⊎ ((kind : Kind) (s : ℕ) → now.held (Own t n number) ≡ waits kind s → ⊥)
  pub pends : (n s : ℕ) → Has pushes s → is_pending now n s ≡ true → is_pending t n s ≡ true

-- the rows behind the note are those from before that are under way still
abbrev pub Backs : Terms → (layer left : Layer Purpose) → Type 0
Backs t layer left = (n number : ℕ) → Row left (Id t n) number → Row layer (Id t n) number

abbrev pub Keeps : Terms → (layer left : Layer Purpose) → Type 0
Keeps t layer left = (n number : ℕ) (kind : ReplyKind) (call : ℕ) → Row layer (Id t n) number → state_for left.peers (Id t n) number ≡ states.UnderWay kind call → Row left (Id t n) number

-- and who has one, or one pending by the terms, stands among the nodes still
abbrev pub Needs : (t now : Terms) → (pushes : List ℕ) → Layer Purpose → ℕ → Type 0
Needs t now pushes left n = Pends now pushes n ⊎ ((number : ℕ) × Row left (Id t n) number)

abbrev pub Lists : ℕ → (t now : Terms) → (pushes : List ℕ) → Layer Purpose → (pending later : List ℕ) → Type 0
Lists nodes t now pushes left pending later = (n : ℕ) → n ≤ nodes → Needs t now pushes left n → is_listed (Id t n) pending ≡ true → is_listed (Id t n) later ≡ true

-- who stands among them still has one pending still
abbrev pub Remain : ℕ → (t now : Terms) → (pushes later : List ℕ) → Type 0
Remain nodes t now pushes later = (n : ℕ) → n ≤ nodes → is_listed (Id t n) later ≡ true → Pends now pushes n

module _ (nodes : ℕ) (t now : Terms) (pushes : List ℕ) (layer left : Layer Purpose) (pending later : List ℕ) (k : Pending nodes t pushes layer pending) (l : Less t now pushes) (tied : AreTied nodes now left) where
  id_same : (n : ℕ) → Id now n ≡ Id t n
  id_same n = ap (λ g. now.ids g n) l.generation ∙ l.ids n

  own_same : (n number : ℕ) → Own now n number ≡ Own t n number
  own_same n number = ap (λ g. record { generation = g; requester = 0; responder = n; label = number }) l.generation

  module _ (back : Backs t layer left) (kept : Keeps t layer left) (lists : Lists nodes t now pushes left pending later) (remain : Remain nodes t now pushes later) (once_later : Distinct later) where
    was : (n number : ℕ) → Row left (Id now n) number → Row layer (Id t n) number
    was n number r = back n number (subst (λ p. Row left p number) (id_same n) r)

    listed : (n : ℕ) → is_listed (Id t n) later ≡ true → is_listed (Id now n) later ≡ true
    listed n e = ap (λ p. is_listed p later) (id_same n) ∙ e

    goes_on : (n number : ℕ) (kind : Kind) (s : ℕ) → now.held (Own now n number) ≡ waits kind s → t.held (Own t n number) ≡ waits kind s
    goes_on n number kind s e = by (l.held n number)
      where
        there : now.held (Own t n number) ≡ waits kind s
        there = ap now.held (sym (own_same n number)) ∙ e

        by : (now.held (Own t n number) ≡ t.held (Own t n number)) ⊎ ((k : Kind) (r : ℕ) → now.held (Own t n number) ≡ waits k r → ⊥) → t.held (Own t n number) ≡ waits kind s
        by (inl f) = sym f ∙ there
        by (inr f) = absurd (f kind s there)

    -- a label that waits is under way at the target
    state_waits : (n number : ℕ) → n ≤ nodes → (kind : Kind) (s : ℕ) → now.held (Own now n number) ≡ waits kind s → UnderState (state_for left.peers (Id now n) number)
    state_waits n number b kind s e = under_state (state_for left.peers (Id now n) number) kind s (tied n number b ∙ ap shape_of e)

    pub first_kept : Pending nodes now pushes left later
    first_kept = record {
      pends = λ n s b h e. listed n (lists n b (inl (s, (h, e))) (k.pends n s b h (l.pends n s h e)));
      push = λ n number kind s b e h.
          let r = k.push n number kind s b (goes_on n number kind s e) h in
          let x = state_waits n number b kind s e in
          subst (λ p. Row left p number) (sym (id_same n)) (kept n number x.kind x.call r (ap (λ p. state_for left.peers p number) (sym (id_same n)) ∙ x.is));
      full = λ n number b r. listed n (lists n b (inr (number, subst (λ p. Row left p number) (id_same n) r)) (k.full n number b (was n number r)));
      one = λ n x y b r q. k.one n x y b (was n x r) (was n y q);
      calm = λ n number s b r h e.
          let c = k.calm n number s b (was n number r) h (l.pends n s h e) in
          let w = row_waits nodes now left tied n number b r in
          let same : w.serial ≡ s = same_waits (t.held (Own t n number)) w.kind c.kind w.serial s (goes_on n number w.kind w.serial w.is) c.is in
          record { kind = w.kind; is = w.is ∙ ap (waits w.kind) same };
      row = λ n number kind s b r e. k.row n number kind s b (was n number r) (goes_on n number kind s e);
      same = λ n b e. remain n b (ap (λ p. is_listed p later) (sym (id_same n)) ∙ e);
      once = once_later;
    }

-- ---- behind it
-- what a call makes of the rows and of the nodes: each new row is to a node that had none pending
pub record Rows (layer left : Layer Purpose) (pending later : List ℕ) : Type 0 where
  pub stay : (p number : ℕ) → Row layer p number → Row left p number
  pub new : (p number : ℕ) → Row left p number → Row layer p number ⊎ ((is_listed p pending ≡ false) × (is_listed p later ≡ true))
  pub one : (p a b : ℕ) → Row left p a → Row left p b → Row layer p a ⊎ (Row layer p b ⊎ (a ≡ b))
  pub grows : (p : ℕ) → is_listed p pending ≡ true → is_listed p later ≡ true
  pub fresh : (p number : ℕ) (r : Row left p number) → Row layer p number ⊎ (IsFresh layer p number × (r.kind ≡ kinds.Write))
  pub from : (p : ℕ) → is_listed p later ≡ true → (is_listed p pending ≡ true) ⊎ ((number : ℕ) × Row left p number)
  pub once : Distinct pending → Distinct later

-- of a call of another node
pub rows_same : (layer : Layer Purpose) (pending : List ℕ) → Rows layer layer pending pending
rows_same layer pending = record { stay = λ p number r. r; new = λ p number r. inl r; one = λ p a b r q. inl r; grows = λ p e. e; fresh = λ p number r. inl r; from = λ p e. inl e; once = λ d. d }

-- each new unsolicited status of the terms has its row
abbrev pub HaveRows : (nodes : ℕ) → List Disk → (from : ℕ) → (ℕ → List ℕ → Type 0) → (ms now : List Moment) → Layer Purpose → Type 0
HaveRows nodes start from Q ms now left =
    from ≡ 0 → (s : ℕ) → Has (Pushes start now) s → (x : New Q (terms ms) (terms now) s) → (x.packet.to ≤ nodes) × Row left (Id (terms now) x.packet.to) x.label

-- what waits under a label of a row that is new is an unsolicited status of the terms
abbrev pub AreSent : (nodes : ℕ) → List Disk → (ms now : List Moment) → (layer left : Layer Purpose) → Type 0
AreSent nodes start ms now layer left =
    (n number : ℕ) (kind : Kind) (s : ℕ) → n ≤ nodes → (r : Row left (Id (terms ms) n) number) → IsFresh layer (Id (terms ms) n) number → r.kind ≡ kinds.Write → (terms ms).count < s → (terms now).held (Own (terms ms) n number) ≡ waits kind s → Has (Pushes start now) s

-- a request that waits is pending
abbrev pub ArePending : ℕ → Terms → Type 0
ArePending nodes u = (n number : ℕ) (kind : Kind) (s : ℕ) → n ≤ nodes → u.held (Own u n number) ≡ waits kind s → is_pending u n s ≡ true

-- and a serial that is waited for is of one transaction
abbrev pub IsOnce : Terms → Type 0
IsOnce t = (s : ℕ) (v w : Transaction) (kind other : Kind) → t.held v ≡ waits kind s → t.held w ≡ waits other s → v ≡ w

-- what is so of the terms before and behind
pub record Steps (nodes : ℕ) (start : List Disk) (ms now : List Moment) (layer left : Layer Purpose) : Type 0 where
  pub once : IsOnce (terms now)
  pub ties : Ties nodes (terms ms) layer
  pub tied : AreTied nodes (terms now) left
  pub sent : AreSent nodes start ms now layer left
  pub waiting : ArePending nodes (terms now)

module _ (nodes : ℕ) (start : List Disk) (from : ℕ) (Q : ℕ → List ℕ → Type 0) (ms now : List Moment) (m : Later start from Q ms now) (layer left : Layer Purpose) (pending later : List ℕ) (k : Pending nodes (terms ms) (Pushes start ms) layer pending) (small : (s : ℕ) → Has (Pushes start ms) s → s ≤ (terms ms).count) (rows : Rows layer left pending later) (there : HaveRows nodes start from Q ms now left) (steps : Steps nodes start ms now layer left) where
  abbrev t : Terms
  t = terms ms

  abbrev u : Terms
  u = terms now

  abbrev old : List ℕ
  old = Pushes start ms

  same_id : (n : ℕ) → Id u n ≡ Id t n
  same_id n = ap (λ g. u.ids g n) (m.generation 0) ∙ m.ids (t.generation 0) n

  same_own : (n number : ℕ) → Own u n number ≡ Own t n number
  same_own n number = ap (λ g. record { generation = g; requester = 0; responder = n; label = number }) (m.generation 0)

  at_old : (n number : ℕ) → Row left (Id u n) number → Row left (Id t n) number
  at_old n number r = subst (λ p. Row left p number) (same_id n) r

  at_new : (n number : ℕ) → Row left (Id t n) number → Row left (Id u n) number
  at_new n number r = subst (λ p. Row left p number) (sym (same_id n)) r

  lists : (n : ℕ) → is_listed (Id t n) later ≡ true → is_listed (Id u n) later ≡ true
  lists n e = ap (λ p. is_listed p later) (same_id n) ∙ e

  -- the node that a new one goes to
  to_it : (n s : ℕ) (x : New Q t u s) → is_pending u n s ≡ true → x.packet.to ≡ n
  to_it n s x e =
      equal x.packet.to n (sym (ap (λ so. is_serial (receiver_in so) n) x.sent) ∙ and_first (is_serial (receiver_in (u.sent s)) n) (is_under_way u s || has_resting_label u s) e)

  push_there : (n number : ℕ) (kind : Kind) (s : ℕ) → n ≤ nodes → u.held (Own u n number) ≡ waits kind s → Has (Pushes start now) s → Row left (Id u n) number
  push_there n number kind s b e h = by (m.more s h)
    where
      own : u.held (Own t n number) ≡ waits kind s
      own = ap u.held (sym (same_own n number)) ∙ e

      by_held : Has old s → (x : Held) → t.held (Own t n number) ≡ x → Row left (Id u n) number
      by_held o free f = absurd (let a = m.taken (Own t n number) kind s f own in let c = small s o in omega (arith, a, c))
      by_held o rests f = rests_waits (u.held (Own t n number)) kind s (m.resting (Own t n number) f) own
      by_held o (waits other r) f =
          let same : r ≡ s = same_waits (u.held (Own t n number)) other kind r s (m.waiting (Own t n number) other r f) own in
          at_new n number (rows.stay (Id t n) number (k.push n number other s b (f ∙ ap (waits other) same) o))

      by : Has old s ⊎ ((from ≡ 0) × New Q t u s) → Row left (Id u n) number
      by (inl o) = by_held o (t.held (Own t n number)) refl
      by (inr x) = here x.1 (there x.0 s h x.1)
        where
          -- a serial is of one transaction
          here : (x : New Q t u s) → (x.packet.to ≤ nodes) × Row left (Id u x.packet.to) x.label → Row left (Id u n) number
          here x r =
              let one = steps.once s (Own t x.packet.to x.label) (Own t n number) x.kind kind x.held own in
              subst (λ a. Row left (Id u n) a) (ap (λ (v : Transaction). v.label) one) (subst (λ a. Row left (Id u a) x.label) (ap (λ (v : Transaction). v.responder) one) r.1)

  full_there : (n number : ℕ) → n ≤ nodes → Row left (Id u n) number → is_listed (Id u n) later ≡ true
  full_there n number b r = lists n (by (rows.new (Id t n) number (at_old n number r)))
    where
      by : Row layer (Id t n) number ⊎ ((is_listed (Id t n) pending ≡ false) × (is_listed (Id t n) later ≡ true)) → is_listed (Id t n) later ≡ true
      by (inl o) = rows.grows (Id t n) (k.full n number b o)
      by (inr j) = j.1

  -- a node that has one is among them, so it gets no new one
  none_new : (n a number : ℕ) → n ≤ nodes → Row layer (Id t n) a → Row left (Id u n) number → Row layer (Id t n) number
  none_new n a number b o r = by (rows.new (Id t n) number (at_old n number r))
    where
      by : Row layer (Id t n) number ⊎ ((is_listed (Id t n) pending ≡ false) × (is_listed (Id t n) later ≡ true)) → Row layer (Id t n) number
      by (inl q) = q
      by (inr j) = untrue (sym j.0 ∙ k.full n a b o)

  one_there : (n a c : ℕ) → n ≤ nodes → Row left (Id u n) a → Row left (Id u n) c → a ≡ c
  one_there n a c b r q = by (rows.one (Id t n) a c (at_old n a r) (at_old n c q))
    where
      by : Row layer (Id t n) a ⊎ (Row layer (Id t n) c ⊎ (a ≡ c)) → a ≡ c
      by (inl o) = k.one n a c b o (none_new n a c b o q)
      by (inr (inl o)) = k.one n a c b (none_new n c a b o r) o
      by (inr (inr e)) = e

  -- a new one, by its node
  new_row : (n s : ℕ) (z : from ≡ 0) → Has (Pushes start now) s → (x : New Q t u s) → is_pending u n s ≡ true → Row left (Id u n) x.label
  new_row n s z h x e = subst (λ a. Row left (Id u a) x.label) (to_it n s x e) (there z s h x).1

  calm_there : (n number s : ℕ) → n ≤ nodes → Row left (Id u n) number → Has (Pushes start now) s → is_pending u n s ≡ true → WaitsFor (u.held (Own u n number)) s
  calm_there n number s b r h e = by (m.more s h)
    where
      old_one : Has old s → Row layer (Id t n) number ⊎ ((is_listed (Id t n) pending ≡ false) × (is_listed (Id t n) later ≡ true)) → WaitsFor (u.held (Own u n number)) s
      old_one o (inl q) =
          let c = k.calm n number s b q o (sym (m.pends n s o) ∙ e) in
          record { kind = c.kind; is = ap u.held (same_own n number) ∙ m.waiting (Own t n number) c.kind s c.is }
      old_one o (inr j) = untrue (sym j.0 ∙ k.pends n s b o (sym (m.pends n s o) ∙ e))

      by : Has old s ⊎ ((from ≡ 0) × New Q t u s) → WaitsFor (u.held (Own u n number)) s
      by (inl o) = old_one o (rows.new (Id t n) number (at_old n number r))
      by (inr x) =
          let label_is : x.1.label ≡ number = one_there n x.1.label number b (new_row n s x.0 h x.1 e) r in
          let own_is : Own t x.1.packet.to x.1.label ≡ Own u n number =
          ap (λ a. Own t a x.1.label) (to_it n s x.1 e) ∙ (ap (λ a. Own t n a) label_is ∙ sym (same_own n number)) in
          record { kind = x.1.kind; is = ap u.held (sym own_is) ∙ x.1.held }

  pends_there : (n s : ℕ) → n ≤ nodes → Has (Pushes start now) s → is_pending u n s ≡ true → is_listed (Id u n) later ≡ true
  pends_there n s b h e = by (m.more s h)
    where
      by : Has old s ⊎ ((from ≡ 0) × New Q t u s) → is_listed (Id u n) later ≡ true
      by (inl o) = lists n (rows.grows (Id t n) (k.pends n s b o (sym (m.pends n s o) ∙ e)))
      by (inr x) = full_there n x.1.label b (new_row n s x.0 h x.1 e)

  row_there : (n number : ℕ) (kind : Kind) (s : ℕ) → n ≤ nodes → Row left (Id u n) number → u.held (Own u n number) ≡ waits kind s → Has (Pushes start now) s
  row_there n number kind s b r e = by (rows.fresh (Id t n) number (at_old n number r))
    where
      own : u.held (Own t n number) ≡ waits kind s
      own = ap u.held (sym (same_own n number)) ∙ e

      by_held : IsFresh layer (Id t n) number × ((at_old n number r).kind ≡ kinds.Write) → (x : Held) → t.held (Own t n number) ≡ x → Has (Pushes start now) s
      by_held f free g = steps.sent n number kind s b (at_old n number r) f.0 f.1 (m.taken (Own t n number) kind s g own) own
      by_held f rests g = rests_waits (u.held (Own t n number)) kind s (m.resting (Own t n number) g) own
      by_held f (waits other q) g =
          let x = steps.ties.under n number other q b g in
          absurd (f.0 x.kind x.call x.is)

      by : Row layer (Id t n) number ⊎ (IsFresh layer (Id t n) number × ((at_old n number r).kind ≡ kinds.Write)) → Has (Pushes start now) s
      by (inl o) =
          let w = steps.ties.waiting n number b o in
          let same : w.serial ≡ s = same_waits (u.held (Own t n number)) w.kind kind w.serial s (m.waiting (Own t n number) w.kind w.serial w.is) own in
          m.less s (subst (Has old) same (k.row n number w.kind w.serial b o w.is))
      by (inr f) = by_held f (t.held (Own t n number)) refl

  same_there : (n : ℕ) → n ≤ nodes → is_listed (Id u n) later ≡ true → Pends u (Pushes start now) n
  same_there n b e = by (rows.from (Id t n) (ap (λ p. is_listed p later) (sym (same_id n)) ∙ e))
    where
      by : (is_listed (Id t n) pending ≡ true) ⊎ ((number : ℕ) × Row left (Id t n) number) → Pends u (Pushes start now) n
      by (inl f) = let x = k.same n b f in (x.0, (m.less x.0 x.1.0, m.pends n x.0 x.1.0 ∙ x.1.1))
      by (inr x) =
          let r = at_new n x.0 x.1 in
          let w = row_waits nodes u left steps.tied n x.0 b r in
          (w.serial, (row_there n x.0 w.kind w.serial b r w.is, steps.waiting n x.0 w.kind w.serial b w.is))

  pub step_kept : Pending nodes u (Pushes start now) left later
  step_kept = record { pends = pends_there; push = push_there; full = full_there; one = one_there; calm = calm_there; row = row_there; same = same_there; once = rows.once k.once }
