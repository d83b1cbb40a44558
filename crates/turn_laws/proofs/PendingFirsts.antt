-- The first note of a turn: one of another node leaves the transactions of the target as they are; a packet that the target got may close one, and a time-out ends one, whose label rests.
use Rattle.std.proofs.Common.{arith, ◌≡◌, ◌∙◌, refl, sym, ap, subst, inl, inr, ◌⊎◌, ℕ, suc, ◌&&◌, ◌||◌, Bool, true, false, List, Option, Some, None}
use Rattle.std.proofs.lemmas.Option.{same_Some}
use Rattle.bus_transactions.specs.Bare.{bare}
use Rattle.bus_transactions.specs.Rows.{shape, shape_of}
use Rattle.bus_transactions.specs.Wire.{Due, Node, transaction}
use Rattle.bus_transactions.proofs.Facts.{asked_is, begun_asked}
use Rattle.label_table.specs.Layer.{Layer}
use Rattle.label_table.specs.Peers.{state_for}
use Rattle.async_packet.specs.Fields.{rcode_of}
use Rattle.sbp_journal.specs.Run.{Moment}
use Rattle.sbp_journal.specs.Transactions.{Kind, Part, Sending, Transaction, asked_by, at, begun_by, between, is_same, is_same_kind, no_packet, part_of, request, response}
use Rattle.sbp_journal.specs.Wire.{Held, Terms, arrives, closes, closes_if, free, gets, gets_as, is_news, is_served, judges, noted, rests, terms, times_out, waits}
use Rattle.sbp_journal.specs.declared.note.Note.TheVariants as notes
use Rattle.sbp_laws.specs.MediaLaw.{is_pending}
use Rattle.sbp_laws.specs.Packets.{begun_in, receiver_in, rests_for, waits_for}
use Rattle.sbp_laws.specs.Targets.{is_serial}
use Rattle.sbp_target.specs.declared.purpose.Purpose.{Purpose}
use Rattle.sbp_world.specs.Wire.Wires.{StandsAt}
use Rattle.sbp_world.specs.Worlds.{WorldState}
use Rattle.sbp_world.proofs.Agents.Management.Still.{hist}
use Rattle.sbp_world.proofs.Agents.Purposes.{state_bare}
use Rattle.sbp_world.proofs.Common.{and_first, and_second, equal, none_is, untrue}
use Rattle.sbp_world.proofs.Wire.Bus.{holds}
use Rattle.sbp_world.proofs.Wire.Kept.{and_false}
use Rattle.turn_laws.proofs.LaterNotes.{FromTarget}
use Rattle.turn_laws.proofs.LaterTerms.{Own, free_waits, rests_waits}
use Rattle.turn_laws.proofs.PendingEnds.{lapses}
use Rattle.turn_laws.proofs.PendingKept.{AreTied, Id, Less}
use Rattle.turn_laws.proofs.PendingTerms.{Lasts, Same, at_it, beside, judges_same, lasts_so, pending_alike, pending_not, same_is}
use Rattle.turn_laws.proofs.PushSerials.{Has}
use Rattle.sbp_world.proofs.Hosts.Held.{begun_from}

-- ---- a note that is beside the target's transactions
pub record Beside (t now : Terms) (pushes : List ℕ) : Type 0 where
  pub generation : now.generation 0 ≡ t.generation 0
  pub ids : (n : ℕ) → now.ids (t.generation 0) n ≡ t.ids (t.generation 0) n
  pub held : (n number : ℕ) → now.held (Own t n number) ≡ t.held (Own t n number)
  pub pends : (n s : ℕ) → Has pushes s → is_pending now n s ≡ is_pending t n s

pub less_beside : (t now : Terms) (pushes : List ℕ) → Beside t now pushes → Less t now pushes
less_beside t now pushes b = record {
  generation = b.generation;
  ids = b.ids;
  held = λ n number. inl (b.held n number);
  pends = λ n s h e. sym (b.pends n s h) ∙ e;
}

pub tied_beside : (nodes : ℕ) (t now : Terms) (pushes : List ℕ) (layer : Layer Purpose) → Beside t now pushes → AreTied nodes t layer → AreTied nodes now layer
tied_beside nodes t now pushes layer b tied n number l =
    let id : Id now n ≡ Id t n = ap (λ g. now.ids g n) b.generation ∙ b.ids n in
    ap (λ p. shape (state_for layer.peers p number)) id
    ∙ (tied n number l
    ∙ ap shape_of (sym (b.held n number) ∙ ap (λ g. now.held (record { generation = g; requester = 0; responder = n; label = number })) (sym b.generation)))

-- by its parts: what it leaves of the target's
pub record LeavesOwn (t now : Terms) : Type 0 where
  pub generation : now.generation 0 ≡ t.generation 0
  pub ids : (n : ℕ) → now.ids (t.generation 0) n ≡ t.ids (t.generation 0) n
  pub sent : now.sent ≡ t.sent
  pub held : (v : Transaction) → v.requester ≡ 0 → now.held v ≡ t.held v
  pub current : (v : Transaction) → v.requester ≡ 0 → now.current v ≡ t.current v

pub beside_of : (t now : Terms) (pushes : List ℕ) → ((s : ℕ) → Has pushes s → FromTarget (t.sent s)) → LeavesOwn t now → Beside t now pushes
beside_of t now pushes from l = record {
  generation = l.generation;
  ids = l.ids;
  held = λ n number. l.held (Own t n number) refl;
  pends = λ n s h. pending_alike n s t now (record {
    sent = ap (λ f. f s) l.sent;
    generation = λ u b. let z = own s h u b in ap now.generation z ∙ (l.generation ∙ sym (ap t.generation z));
    held = λ u b. l.held u (own s h u b);
    current = λ u b. l.current u (own s h u b);
  });
}
  where
    own : (s : ℕ) → Has pushes s → (u : Transaction) → begun_in (t.sent s) ≡ Some u → u.requester ≡ 0
    own s h u b = let f = from s h in begun_from f.packet u (sym (ap begun_in f.is) ∙ b) ∙ f.from

pub leaves_same : (t now : Terms) → Same t now → LeavesOwn t now
leaves_same t now e = record {
  generation = ap (λ f. f 0) e.1.0;
  ids = λ n. ap (λ f. f (t.generation 0) n) e.1.1.1.1.1;
  sent = e.0;
  held = λ v z. ap (λ f. f v) e.1.1.0;
  current = λ v z. ap (λ f. f v) e.1.1.1.0;
}

-- ---- a packet that is got
differ : (i : ℕ) (w v : Transaction) → w.requester ≡ 0 → v.requester ≡ suc i → is_same w v ≡ false
differ i w v e f = by (is_same w v) refl
  where
    by : (b : Bool) → is_same w v ≡ b → b ≡ false
    by true g = absurd (let same : v.requester ≡ w.requester = ap (λ (x : Transaction). x.requester) (same_is v w g) in omega (arith, same, e, f))
    by false g = refl

module _ (s : ℕ) (q : Sending) (t : Terms) where
  abbrev base : Terms
  base = is_served s (is_news s (arrives s t))

  abbrev its : ℕ → Transaction
  its label = between q q.to q.from label

  -- by an initiator
  module _ (i : ℕ) (to_is : q.to ≡ suc i) where
    own_if : (b : Bool) (label own rcode : ℕ) → LeavesOwn t (closes_if b own (its label) rcode base)
    own_if true label own rcode = record { generation = refl; ids = λ n. refl; sent = refl; held = λ w z. beside t.held w (its label) free (differ i w (its label) z to_is); current = λ w z. refl }
    own_if false label own rcode = record { generation = refl; ids = λ n. refl; sent = refl; held = λ w z. refl; current = λ w z. refl }

    own_closes : (h : Held) (label : ℕ) (kind : Kind) (rcode : ℕ) → LeavesOwn t (closes h (its label) kind rcode base)
    own_closes free label kind rcode = own_if false label 0 rcode
    own_closes rests label kind rcode = own_if false label 0 rcode
    own_closes (waits other own) label kind rcode = own_if (is_same_kind other kind) label own rcode

    own_part : (part : Part) → LeavesOwn t (gets_as part s q base)
    own_part (request label kind) = let l = leaves_same base (judges (asked_by q) None s q base) (judges_same (asked_by q) None s q base) in record { generation = l.generation; ids = l.ids; sent = l.sent; held = l.held; current = l.current }
    own_part (response label kind) = own_closes (base.held (its label)) label kind (rcode_of q.bytes)
    own_part no_packet = own_if false 0 0 0

    pub own_gets : t.sent s ≡ Some q → LeavesOwn t (noted (notes.Got s) t)
    own_gets e = subst (λ o. LeavesOwn t (gets o s t)) (sym e) (own_part (part_of q.bytes))

  -- by the target: each transaction goes on, or is over
  record Frees (now : Terms) : Type 0 where
    generation : now.generation ≡ t.generation
    ids : now.ids ≡ t.ids
    sent : now.sent ≡ t.sent
    current : now.current ≡ t.current
    injected : now.injected ≡ t.injected
    held : (w : Transaction) → (now.held w ≡ t.held w) ⊎ ((now.held w ≡ free) × (t.held w ≡ rests → ⊥))

  frees_if : (b : Bool) (v : Transaction) (own rcode : ℕ) → (b ≡ true → t.held v ≡ rests → ⊥) → Frees (closes_if b own v rcode base)
  frees_if false v own rcode n = record { generation = refl; ids = refl; sent = refl; current = refl; injected = refl; held = λ w. inl refl }
  frees_if true v own rcode n = record { generation = refl; ids = refl; sent = refl; current = refl; injected = refl; held = λ w. by w (is_same w v) refl }
    where
      by : (w : Transaction) (b : Bool) → is_same w v ≡ b → (at t.held v free w ≡ t.held w) ⊎ ((at t.held v free w ≡ free) × (t.held w ≡ rests → ⊥))
      by w true e = inr (at_it t.held w v free e, λ f. n refl (ap t.held (same_is v w e) ∙ f))
      by w false e = inl (beside t.held w v free e)

  frees_closes : (h : Held) (v : Transaction) (kind : Kind) (rcode : ℕ) → t.held v ≡ h → Frees (closes h v kind rcode base)
  frees_closes free v kind rcode e = frees_if false v 0 rcode (λ b f. untrue b)
  frees_closes rests v kind rcode e = frees_if false v 0 rcode (λ b f. untrue b)
  frees_closes (waits other own) v kind rcode e = frees_if (is_same_kind other kind) v own rcode (λ b f. rests_waits (t.held v) other own f e)

  frees_request : (o : Option Transaction) → Frees (judges o None s q base)
  frees_request None = record { generation = refl; ids = refl; sent = refl; current = refl; injected = refl; held = λ w. inl refl }
  frees_request (Some v) = record { generation = refl; ids = refl; sent = refl; current = refl; injected = refl; held = λ w. inl refl }

  frees_part : (part : Part) → Frees (gets_as part s q base)
  frees_part (request label kind) = frees_request (asked_by q)
  frees_part (response label kind) = frees_closes (base.held (its label)) (its label) kind (rcode_of q.bytes) refl
  frees_part no_packet = frees_if false (its 0) 0 0 (λ b f. untrue b)

  pub got_injected : t.sent s ≡ Some q → (noted (notes.Got s) t).injected ≡ t.injected
  got_injected e = ap (λ o. (gets o s t).injected) e ∙ (frees_part (part_of q.bytes)).injected

  pub got_frees : t.sent s ≡ Some q → (w : Transaction) → ((noted (notes.Got s) t).held w ≡ t.held w) ⊎ (((noted (notes.Got s) t).held w ≡ free) × (t.held w ≡ rests → ⊥))
  got_frees e w = subst (λ o. ((gets o s t).held w ≡ t.held w) ⊎ (((gets o s t).held w ≡ free) × (t.held w ≡ rests → ⊥))) (sym e) ((frees_part (part_of q.bytes)).held w)

  -- whose label stays is pending as it was
  frees_alike : (now : Terms) → Frees now → (n r : ℕ) → ((u : Transaction) → begun_in (t.sent r) ≡ Some u → now.held u ≡ t.held u) → is_pending now n r ≡ is_pending t n r
  frees_alike now f n r h =
      pending_alike n r t now (record {
        sent = ap (λ g. g r) f.sent;
        generation = λ u b. ap (λ g. g u.requester) f.generation;
        held = h;
        current = λ u b. ap (λ g. g u) f.current;
      })

  pub got_alike : t.sent s ≡ Some q → (n r : ℕ) → ((u : Transaction) → begun_in (t.sent r) ≡ Some u → (noted (notes.Got s) t).held u ≡ t.held u) → is_pending (noted (notes.Got s) t) n r ≡ is_pending t n r
  got_alike e n r =
      subst (λ o. ((u : Transaction) → begun_in (t.sent r) ≡ Some u → (gets o s t).held u ≡ t.held u) → is_pending (gets o s t) n r ≡ is_pending t n r) (sym e)
      (frees_alike (gets_as (part_of q.bytes) s q base) (frees_part (part_of q.bytes)) n r)

  pub got_sent : t.sent s ≡ Some q → (noted (notes.Got s) t).sent ≡ t.sent
  got_sent e = ap (λ o. (gets o s t).sent) e ∙ (frees_part (part_of q.bytes)).sent

  pub less_got : (pushes : List ℕ) → t.sent s ≡ Some q → Less t (noted (notes.Got s) t) pushes
  less_got pushes e = subst (λ o. Less t (gets o s t) pushes) (sym e) (less_frees (gets_as (part_of q.bytes) s q base) (frees_part (part_of q.bytes)))
    where
      less_frees : (now : Terms) → Frees now → Less t now pushes
      less_frees now f = record {
        generation = ap (λ g. g 0) f.generation;
        ids = λ n. ap (λ g. g (t.generation 0) n) f.ids;
        held = λ n number. away (f.held (Own t n number));
        pends = λ n r h k. pends n r (begun_in (t.sent r)) refl k;
      }
        where
          away : {h : Held} {old : Held} → (h ≡ old) ⊎ ((h ≡ free) × (old ≡ rests → ⊥)) → (h ≡ old) ⊎ ((kind : Kind) (r : ℕ) → h ≡ waits kind r → ⊥)
          away (inl g) = inl g
          away {h} (inr g) = inr (λ kind r k. free_waits h kind r g.0 k)

          sent_same : (r : ℕ) → now.sent r ≡ t.sent r
          sent_same r = ap (λ g. g r) f.sent

          alike : (n r : ℕ) → ((u : Transaction) → begun_in (t.sent r) ≡ Some u → now.held u ≡ t.held u) → is_pending now n r ≡ true → is_pending t n r ≡ true
          alike n r h k = sym (frees_alike now f n r h) ∙ k

          pends : (n r : ℕ) (o : Option Transaction) → begun_in (t.sent r) ≡ o → is_pending now n r ≡ true → is_pending t n r ≡ true
          pends n r None b k = alike n r (λ u c. none_is u (sym b ∙ c)) k
          pends n r (Some v) b k = by (f.held v)
            where
              by : (now.held v ≡ t.held v) ⊎ ((now.held v ≡ free) × (t.held v ≡ rests → ⊥)) → is_pending t n r ≡ true
              by (inl g) = alike n r (λ u c. subst (λ (x : Transaction). now.held x ≡ t.held x) (same_Some v u (sym b ∙ c)) g) k
              by (inr g) = untrue (sym (pending_not n r t now v (sent_same r) b g.0) ∙ k)

-- ---- a time-out
pub late_injected : (o : Option Transaction) (t : Terms) → (times_out o t).injected ≡ t.injected
late_injected None t = refl
late_injected (Some v) t = refl

module _ (s : ℕ) (t : Terms) (v : Transaction) (begun : begun_in (t.sent s) ≡ Some v) where
  abbrev late : Terms
  late = record t { held = at t.held v rests }

  -- of an initiator
  pub own_lapses : (i : ℕ) → v.requester ≡ suc i → LeavesOwn t (noted (notes.TimedOut s) t)
  own_lapses i e = subst (λ o. LeavesOwn t (times_out o t)) (sym begun) (record {
    generation = refl;
    ids = λ n. refl;
    sent = refl;
    held = λ w z. beside t.held w v rests (differ i w v z e);
    current = λ w z. refl;
  })

  -- of the target
  pub less_late : (pushes : List ℕ) (kind : Kind) → t.held v ≡ waits kind s → t.current v ≡ s → Less t (noted (notes.TimedOut s) t) pushes
  less_late pushes kind was current = subst (λ o. Less t (times_out o t) pushes) (sym begun) (record {
    generation = refl;
    ids = λ n. refl;
    held = λ n number. by (Own t n number) (is_same (Own t n number) v) refl;
    pends = λ n r h k. sym (lapses v t late kind s was n r (record { sent = refl; generation = refl; current = refl; held_is = refl }) current) ∙ k;
  })
    where
      by : (w : Transaction) (b : Bool) → is_same w v ≡ b → (late.held w ≡ t.held w) ⊎ ((k : Kind) (r : ℕ) → late.held w ≡ waits k r → ⊥)
      by w true e = inr (λ k r f. rests_waits (late.held w) k r (at_it t.held w v rests e) f)
      by w false e = inl (beside t.held w v rests e)

  pub late_alike : (kind : Kind) → t.held v ≡ waits kind s → t.current v ≡ s → (n r : ℕ) → is_pending (noted (notes.TimedOut s) t) n r ≡ is_pending t n r
  late_alike kind was current n r =
      subst (λ o. is_pending (times_out o t) n r ≡ is_pending t n r) (sym begun) (lapses v t late kind s was n r (record { sent = refl; generation = refl; current = refl; held_is = refl }) current)

-- ---- what is pending to a node is under a label of the target's to it
pub record IsUnder (t : Terms) (n r : ℕ) : Type 0 where
  pub number : ℕ
  pub begun : begun_in (t.sent r) ≡ Some (Own t n number)
  pub held : (t.held (Own t n number) ≡ rests) ⊎ ((kind : Kind) × (t.held (Own t n number) ≡ waits kind r))

pub none_pending : (n r : ℕ) (t : Terms) → begun_in (t.sent r) ≡ None → is_pending t n r ≡ false
none_pending n r t e = ap (λ o. is_serial (receiver_in (t.sent r)) n && (waits_for t o r || rests_for t o r)) e ∙ and_false (is_serial (receiver_in (t.sent r)) n)

pub is_under : (t : Terms) (n r : ℕ) → FromTarget (t.sent r) → is_pending t n r ≡ true → IsUnder t n r
is_under t n r f e = by (begun_by f.packet) refl
  where
    q : Sending
    q = f.packet

    by : (o : Option Transaction) → begun_by q ≡ o → IsUnder t n r
    by None b = untrue (sym (none_pending n r t (ap begun_in f.is ∙ b)) ∙ e)
    by (Some u) b =
        let begun : begun_in (t.sent r) ≡ Some u = ap begun_in f.is ∙ b in
        let asks = asked_is q u (begun_asked q u b).1 in
        let to_is : q.to ≡ n = equal q.to n (ap (λ so. is_serial (receiver_in so) n) (sym f.is) ∙ and_first (is_serial (receiver_in (t.sent r)) n) (waits_for t (begun_in (t.sent r)) r || rests_for t (begun_in (t.sent r)) r) e) in
        let lasts : Lasts (t.generation u.requester) (t.held u) (t.current u) u r ≡ true =
        ap (λ o. waits_for t o r || rests_for t o r) (sym begun) ∙ and_second (is_serial (receiver_in (t.sent r)) n) (waits_for t (begun_in (t.sent r)) r || rests_for t (begun_in (t.sent r)) r) e in
        let now = lasts_so (t.generation u.requester) (t.held u) (t.current u) u r lasts in
        let requester : u.requester ≡ 0 = begun_from q u b ∙ f.from in
        let generation : q.generation ≡ t.generation 0 = ap (λ (x : Transaction). x.generation) (sym asks.is) ∙ (sym now.0 ∙ ap t.generation requester) in
        let own : u ≡ Own t n asks.label =
        asks.is
        ∙ (ap (λ g. transaction g q.from q.to asks.label) generation
        ∙ (ap (λ i. transaction (t.generation 0) i q.to asks.label) f.from ∙ ap (λ i. transaction (t.generation 0) 0 i asks.label) to_is)) in
        record {
          number = asks.label;
          begun = begun ∙ ap (λ x. Some x) own;
          held = subst (λ (x : Transaction). (t.held x ≡ rests) ⊎ ((kind : Kind) × (t.held x ≡ waits kind r))) own now.1;
        }

-- ---- a world that stands for a wire
pub tied_at : {past : List Moment} {layers : ℕ → Node} {due : Option Due} (w : WorldState) (stands : StandsAt past layers due w) (layer : Layer Purpose) → layers 0 ≡ bare layer → (nodes : ℕ) → AreTied nodes (terms (hist past w)) layer
tied_at w stands layer own nodes n number l =
    subst (λ (x : Terms). shape (state_for layer.peers (Id x n) number) ≡ shape_of (x.held (Own x n number))) (ap terms stands.is.past_is)
    (let x : Terms = terms stands.wire.past in
    let node = (holds stands.wire stands.reached).nodes 0 in
    let layer_is : stands.wire.layer 0 ≡ bare layer = stands.is.layers_are 0 (omega arith) ∙ own in
    sym (ap shape (ap (λ (y : Node). state_for y.peers (Id x n) number) layer_is ∙ state_bare layer (Id x n) number)) ∙ node.states_are n number)
