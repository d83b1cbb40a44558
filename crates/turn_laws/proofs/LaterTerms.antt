-- What the notes behind the first one of a turn make of the terms, as far as unsolicited statuses hang on them: a transaction that is under way stays so, a label that rests
-- goes on to rest, and each new unsolicited status is a packet of the target under a label that was free.
use Rattle.std.proofs.Common.{arith, ◌≡◌, ◌∙◌, refl, sym, ap, subst, inl, inr, ◌⊎◌, ℕ, ◌+◌, ◌<◌, ◌≤◌, ◌==◌, nat_eq, Bool, true, false, cond, List, ◌∷◌, not, ◌||◌, Option, Some, None}
use Rattle.std.proofs.lemmas.Option.{same_Some}
use Rattle.std.specs.Prelude.{position}
use Rattle.std.proofs.lemmas.Bool.Decides.{nat_tests}
use Rattle.bus_transactions.specs.Packets.{SerialsCount}
use Rattle.bus_transactions.specs.Sent.{AreSent}
use Rattle.bus_transactions.specs.Sent as bus
use Rattle.bus_transactions.specs.Wire.{transaction}
use Rattle.bus_transactions.proofs.Facts.{asked_begun, request_asked}
use Rattle.label_table.specs.Requests.{is_last, is_write}
use Rattle.orb_layout.specs.declared.ask.Ask.TheVariants.{Nothing}
use Rattle.rbc_disk.specs.Disk.{Disk}
use Rattle.sbp_journal.specs.Run.{Moment, said}
use Rattle.sbp_journal.specs.Transactions.{Kind, Part, Sending, Transaction, asked_as, asked_by, begun_by, begun_if, between, is_same, no_packet, part_of, request, response}
use Rattle.sbp_journal.specs.Wire.{Held, Owed, Terms, begins, free, gives, kind_in, noted, pays, puts, rests, terms, waits}
use Rattle.sbp_journal.specs.declared.note.Note.{Note}
use Rattle.sbp_journal.specs.declared.note.Note.TheVariants as notes
use Rattle.sbp_laws.specs.MediaLaw.{is_pending}
use Rattle.sbp_laws.specs.Packets.{access_in_bytes}
use Rattle.sbp_laws.specs.Targets.{Reply, Target, is_write_access, known_at, sent_as, sent_for, taken_on, target_at, wants, wants_it}
use Rattle.sbp_world.proofs.Common.{itself, and_first}
use Rattle.sbp_world.proofs.Hosts.SentMoments.{count_now, sent_now, sent_there}
use Rattle.sbp_world.proofs.Wire.Bus.{sent_ids}
use Rattle.turn_laws.proofs.PendingTerms.{Same, at_it, beside, pending_sent, same_is, sends_terms, upd_other}
use Rattle.turn_laws.proofs.PushSerials.{Apart, Has, counted}
use Rattle.turn_laws.proofs.SerialsStay.{IsNoSent, note_goes}

-- ---- the label of a request that a node sends itself is free
free_held : (h : Held) → bus.is_free h ≡ true → h ≡ free
free_held free e = refl
free_held (waits kind serial) e = absurd (let x : false ≡ true = e in cc)
free_held rests e = absurd (let x : false ≡ true = e in cc)

none_there : {A : Type 0} (u : Transaction) → None ≡ Some u → A
none_there u e = absurd (let x : None ≡ Some u = e in cc)

module _ (t : Terms) (q : Sending) (own : q.injected ≡ false → bus.IsOwn t q.generation q.from q.to q.bytes) where
  asked_free : (part : Part) → part_of q.bytes ≡ part → q.injected ≡ false → (v : Transaction) → asked_as part q ≡ Some v → t.held v ≡ free
  asked_free (request label kind) e honest v f =
      let o = own honest in
      let low = o.lowest label kind e in
      let u : Transaction = transaction (t.generation q.from) q.from q.to label in
      let same : u ≡ v = ap (λ g. transaction g q.from q.to label) (sym o.now) ∙ same_Some (between q q.from q.to label) v f in
      subst (λ (x : Transaction). t.held x ≡ free) same (free_held (t.held u) (and_first (bus.is_free (t.held u)) (not (is_write q.bytes) || not (is_last (t.last u) q.bytes)) low.takes))
  asked_free (response label kind) e honest v f = none_there v f
  asked_free no_packet e honest v f = none_there v f

  begun_as : (b : Bool) → q.injected ≡ b → (v : Transaction) → begun_if b (asked_by q) ≡ Some v → t.held v ≡ free
  unfolding asked_by
  begun_as true e v f = none_there v f
  begun_as false e v f = asked_free (part_of q.bytes) refl e v f

  pub begun_free : (v : Transaction) → begun_by q ≡ Some v → t.held v ≡ free
  unfolding begun_by
  begun_free v f = begun_as q.injected refl v f

same_self : (a b c d : ℕ) → is_same (transaction a b c d) (transaction a b c d) ≡ true
unfolding is_same
same_self a b c d = let e = itself a in let f = itself b in let g = itself c in let h = itself d in rw (e, f, g, h) refl

-- a label is in one thing
pub free_waits : {A : Type 0} (h : Held) (kind : Kind) (s : ℕ) → h ≡ free → h ≡ waits kind s → A
free_waits h kind s e f = absurd (let x : free ≡ waits kind s = sym e ∙ f in cc)

pub rests_waits : {A : Type 0} (h : Held) (kind : Kind) (s : ℕ) → h ≡ rests → h ≡ waits kind s → A
rests_waits h kind s e f = absurd (let x : rests ≡ waits kind s = sym e ∙ f in cc)

pub free_rests : {A : Type 0} (h : Held) → h ≡ free → h ≡ rests → A
free_rests h e f = absurd (let x : free ≡ rests = sym e ∙ f in cc)

pub same_waits : (h : Held) (kind other : Kind) (s r : ℕ) → h ≡ waits kind s → h ≡ waits other r → s ≡ r
same_waits h kind other s r e f = let x : waits kind s ≡ waits other r = sym e ∙ f in cc

-- the transaction of a request of the target
abbrev pub Own : Terms → (to label : ℕ) → Transaction
Own t to label = transaction (t.generation 0) 0 to label

-- Q is what is so of each packet that leaves, by its node and its bytes
pub record New (Q : ℕ → List ℕ → Type 0) (t u : Terms) (s : ℕ) : Type 0 where
  pub packet : Sending
  pub one : Q packet.to packet.bytes
  pub label : ℕ
  pub kind : Kind
  pub sent : u.sent s ≡ Some packet
  pub begun : begun_by packet ≡ Some (Own t packet.to label)
  pub none : t.held (Own t packet.to label) ≡ free
  pub held : u.held (Own t packet.to label) ≡ waits kind s
  pub small : s ≤ u.count
  pub young : t.count < s

-- no serial that was not sent is of an injected packet
abbrev pub Clean : Terms → Type 0
Clean t = (s : ℕ) → t.count < s → t.injected s ≡ false

module _ (start : List Disk) where
  abbrev pub Pushes : List Moment → List ℕ
  Pushes ms = (target_at start ms).pushes

  module _ (from : ℕ) (Q : ℕ → List ℕ → Type 0) where
    pub record Later (ms now : List Moment) : Type 0 where
      pub generation : (n : ℕ) → (terms now).generation n ≡ (terms ms).generation n
      pub ids : (g n : ℕ) → (terms now).ids g n ≡ (terms ms).ids g n
      pub sent : (s : ℕ) → s ≤ (terms ms).count → (terms now).sent s ≡ (terms ms).sent s
      pub count : (terms ms).count ≤ (terms now).count
      pub waiting : (v : Transaction) (kind : Kind) (s : ℕ) → (terms ms).held v ≡ waits kind s → (terms now).held v ≡ waits kind s
      pub resting : (v : Transaction) → (terms ms).held v ≡ rests → (terms now).held v ≡ rests
      pub taken : (v : Transaction) (kind : Kind) (s : ℕ) → (terms ms).held v ≡ free → (terms now).held v ≡ waits kind s → (terms ms).count < s
      pub pends : (n s : ℕ) → Has (Pushes ms) s → is_pending (terms now) n s ≡ is_pending (terms ms) n s
      pub less : (s : ℕ) → Has (Pushes ms) s → Has (Pushes now) s
      pub more : (s : ℕ) → Has (Pushes now) s → Has (Pushes ms) s ⊎ ((from ≡ 0) × New Q (terms ms) (terms now) s)
      pub clean : Clean (terms ms) → Clean (terms now)

    pub self : (ms : List Moment) → Later ms ms
    self ms = record {
      generation = λ n. refl;
      ids = λ g n. refl;
      sent = λ s l. refl;
      count = omega arith;
      waiting = λ v kind s e. e;
      resting = λ v e. e;
      taken = λ v kind s e f. free_waits ((terms ms).held v) kind s e f;
      pends = λ n s h. refl;
      less = λ s h. h;
      more = λ s h. inl h;
      clean = λ c. c;
    }

    -- a note that says nothing of the wire
    pub still : (note : Note) (ms : List Moment) → IsNoSent note → noted note (terms ms) ≡ terms ms → Later ms (said note ∷ ms)
    still note ms i e =
        let same : (target_at start (said note ∷ ms)).pushes ≡ Pushes ms = (note_goes (Apart 0) refl note ms (known_at start ms).wire (target_at start ms) i).pushes in
        record {
          generation = λ n. ap (λ (x : Terms). x.generation n) e;
          ids = λ g n. ap (λ (x : Terms). x.ids g n) e;
          sent = λ s l. ap (λ (x : Terms). x.sent s) e;
          count = (let c : (noted note (terms ms)).count ≡ (terms ms).count = ap (λ (x : Terms). x.count) e in omega (arith, c));
          waiting = λ v kind s h. ap (λ (x : Terms). x.held v) e ∙ h;
          resting = λ v h. ap (λ (x : Terms). x.held v) e ∙ h;
          taken = λ v kind s h f. free_waits ((terms ms).held v) kind s h (sym (ap (λ (x : Terms). x.held v) e) ∙ f);
          pends = λ n s h. ap (λ (x : Terms). is_pending x n s) e;
          less = λ s h. subst (λ xs. Has xs s) (sym same) h;
          more = λ s h. inl (subst (λ xs. Has xs s) same h);
          clean = λ c s l. ap (λ (x : Terms). x.injected s) e ∙ c s (subst (λ (x : Terms). x.count < s) e l);
        }

    -- ---- one behind the other
    module _ (a b c : List Moment) (l : Later a b) (m : Later b c) where
      abbrev A : Terms
      A = terms a

      abbrev B : Terms
      B = terms b

      abbrev C : Terms
      C = terms c

      by_held : {G : Type 0} (h : Held) → (h ≡ free → G) → (h ≡ rests → G) → ((kind : Kind) (s : ℕ) → h ≡ waits kind s → G) → G
      by_held free f r w = f refl
      by_held rests f r w = r refl
      by_held (waits kind s) f r w = w kind s refl

      was_free : (v : Transaction) → B.held v ≡ free → A.held v ≡ free
      was_free v e =
          by_held (A.held v) (λ f. f) (λ f. free_rests (B.held v) e (l.resting v f)) (λ kind s f. free_waits (B.held v) kind s e (l.waiting v kind s f))

      own_same : (to label : ℕ) → Own B to label ≡ Own A to label
      own_same to label = ap (λ g. transaction g 0 to label) (l.generation 0)

      taken_later : (v : Transaction) (kind : Kind) (s : ℕ) → A.held v ≡ free → C.held v ≡ waits kind s → A.count < s
      taken_later v kind s e f =
          by_held (B.held v) (λ g. let x = m.taken v kind s g f in let y = l.count in omega (arith, x, y)) (λ g. rests_waits (C.held v) kind s (m.resting v g) f)
          (λ other r g. let same : r ≡ s = same_waits (C.held v) other kind r s (m.waiting v other r g) f in subst (λ n. A.count < n) same (l.taken v other r e g))

      new_first : (s : ℕ) → New Q A B s → New Q A C s
      new_first s n =
          let small = n.small in
          let more = m.count in
          record {
            packet = n.packet;
            one = n.one;
            label = n.label;
            kind = n.kind;
            sent = m.sent s small ∙ n.sent;
            begun = n.begun;
            none = n.none;
            held = m.waiting (Own A n.packet.to n.label) n.kind s n.held;
            small = omega (arith, small, more);
            young = n.young;
          }

      new_last : (s : ℕ) → New Q B C s → New Q A C s
      new_last s n =
          let e = own_same n.packet.to n.label in
          let young = n.young in
          let more = l.count in
          record {
            packet = n.packet;
            one = n.one;
            label = n.label;
            kind = n.kind;
            sent = n.sent;
            begun = n.begun ∙ ap (λ v. Some v) e;
            none = ap A.held (sym e) ∙ was_free (Own B n.packet.to n.label) n.none;
            held = ap C.held (sym e) ∙ n.held;
            small = n.small;
            young = omega (arith, young, more);
          }

      more_later : (s : ℕ) → Has (Pushes c) s → Has (Pushes a) s ⊎ ((from ≡ 0) × New Q A C s)
      more_later s h = last (m.more s h)
        where
          first : Has (Pushes a) s ⊎ ((from ≡ 0) × New Q A B s) → Has (Pushes a) s ⊎ ((from ≡ 0) × New Q A C s)
          first (inl k) = inl k
          first (inr k) = inr (k.0, new_first s k.1)

          last : Has (Pushes b) s ⊎ ((from ≡ 0) × New Q B C s) → Has (Pushes a) s ⊎ ((from ≡ 0) × New Q A C s)
          last (inl k) = first (l.more s k)
          last (inr k) = inr (k.0, new_last s k.1)

      pub then_later : Later a c
      then_later =
          let x = l.count in
          let y = m.count in
          record {
            generation = λ n. m.generation n ∙ l.generation n;
            ids = λ g n. m.ids g n ∙ l.ids g n;
            sent = λ s k. m.sent s (omega (arith, k, x)) ∙ l.sent s k;
            count = omega (arith, x, y);
            waiting = λ v kind s e. m.waiting v kind s (l.waiting v kind s e);
            resting = λ v e. m.resting v (l.resting v e);
            taken = taken_later;
            pends = λ n s h. m.pends n s (l.less s h) ∙ l.pends n s h;
            less = λ s h. m.less s (l.less s h);
            more = more_later;
            clean = λ k. m.clean (l.clean k);
          }

    -- ---- a packet is sent
    injected_begun : (o : Option Transaction) (s : ℕ) (q : Sending) (t : Terms) → (begins o s q t).injected ≡ t.injected
    injected_begun None s q t = refl
    injected_begun (Some v) s q t = refl

    injected_given : (o : Option Transaction) (rcode : ℕ) (t : Terms) → (gives o rcode t).injected ≡ t.injected
    injected_given None rcode t = refl
    injected_given (Some v) rcode t = refl

    injected_paid : (o : Option Owed) (sent : ℕ → Option Sending) (s : ℕ) (q : Sending) (t : Terms) → (pays o sent s q t).injected ≡ t.injected
    injected_paid None sent s q t = refl
    injected_paid (Some owed) sent s q t = injected_given _ _ t

    taken_pushes : (reply : Option Reply) (t : Target) → (taken_on None reply t).pushes ≡ t.pushes
    taken_pushes None t = refl
    taken_pushes (Some reply) t = refl

    module _ (serial generation to : ℕ) (bytes : List ℕ) (past : List Moment) where
      abbrev now : List Moment
      now = said (notes.Sent serial generation from to bytes) ∷ past

      abbrev t : Terms
      t = terms past

      abbrev u : Terms
      u = terms now

      abbrev q : Sending
      q = record { generation = generation; from = from; to = to; bytes = bytes; injected = t.injected serial }

      -- whether it is an unsolicited status
      pub record Grows : Type 0 where
        pub zero : from ≡ 0
        pub label : ℕ
        pub kind : Kind
        pub part : part_of bytes ≡ request label kind
        pub is : Pushes now ≡ serial ∷ Pushes past

      abbrev settled : Target
      settled = taken_on None (target_at start past).reply (target_at start past)

      settled_pushes : settled.pushes ≡ Pushes past
      settled_pushes = taken_pushes (target_at start past).reply (target_at start past)

      abbrev managed_or : Bool → Target → Target
      managed_or b x = cond b (record x { manages = Some serial; manager_asks = Nothing }) (record x { pushes = serial ∷ x.pushes })

      grown_for : (place : Option ℕ) (w : Bool) (x : Target) → ((sent_for place w serial x).pushes ≡ x.pushes) ⊎ ((sent_for place w serial x).pushes ≡ serial ∷ x.pushes)
      grown_for (Some place) w x = inl refl
      grown_for None w x = by (wants x.manager_asks w)
        where
          by : (b : Bool) → ((managed_or b x).pushes ≡ x.pushes) ⊎ ((managed_or b x).pushes ≡ serial ∷ x.pushes)
          by true = inl refl
          by false = inr refl

      abbrev w : Bool
      w = is_write_access (access_in_bytes bytes)

      abbrev After : Bool → Part → List ℕ
      After b part = (cond b (sent_as part w serial settled) settled).pushes

      pub grown : (Pushes now ≡ Pushes past) ⊎ Grows
      grown = by_node (from == 0) refl
        where
          by_part : from ≡ 0 → (part : Part) → part_of bytes ≡ part → (After true part ≡ Pushes now) → (Pushes now ≡ Pushes past) ⊎ Grows
          by_part zero (request label kind) e f = by_for (grown_for (position (wants_it w) settled.agents) w settled)
            where
              by_for : (After true (request label kind) ≡ settled.pushes) ⊎ (After true (request label kind) ≡ serial ∷ settled.pushes) → (Pushes now ≡ Pushes past) ⊎ Grows
              by_for (inl g) = inl (sym f ∙ (g ∙ settled_pushes))
              by_for (inr g) = inr (record { zero = zero; label = label; kind = kind; part = e; is = sym f ∙ (g ∙ ap (λ xs. serial ∷ xs) settled_pushes) })
          by_part zero (response label kind) e f = inl (sym f ∙ settled_pushes)
          by_part zero no_packet e f = inl (sym f ∙ settled_pushes)

          by_node : (b : Bool) → (from == 0) ≡ b → (Pushes now ≡ Pushes past) ⊎ Grows
          by_node true e = by_part (grind (arith, nat_tests)) (part_of bytes) refl (sym (ap (λ b. After b (part_of bytes)) e))
          by_node false e = inl (ap (λ b. After b (part_of bytes)) e ∙ settled_pushes)

      module _ (count : SerialsCount now) (sent : AreSent now) (honest : t.injected serial ≡ false) (one : Q to bytes) where
        next : serial ≡ t.count + 1
        next = count.0

        count_is : u.count ≡ t.count + 1
        count_is = count_now past serial generation from to bytes

        abbrev begun_then : Option Transaction → Terms
        begun_then o = begins o serial q (puts (begun_by q) serial q t)

        same : Same (begun_then (begun_by q)) u
        same = sends_terms serial q t

        free_before : (v : Transaction) → begun_by q ≡ Some v → t.held v ≡ free
        free_before = begun_free t q sent.0

        held_by : (w : Transaction) (h : Held) → ((v : Transaction) → begun_by q ≡ Some v → is_same w v ≡ true → u.held w ≡ h) → (u.held w ≡ t.held w → u.held w ≡ h) → u.held w ≡ h
        held_by w h own other = by (begun_by q) refl
          where
            back : (o : Option Transaction) → begun_by q ≡ o → u.held w ≡ (begun_then o).held w
            back o e = ap (λ f. f w) same.1.1.0 ∙ ap (λ x. (begun_then x).held w) e

            by : (o : Option Transaction) → begun_by q ≡ o → u.held w ≡ h
            by None e = other (back None e)
            by (Some v) e = at_label (is_same w v) refl
              where
                at_label : (b : Bool) → is_same w v ≡ b → u.held w ≡ h
                at_label true f = own v e f
                at_label false f = other (back (Some v) e ∙ beside t.held w v (waits (kind_in (part_of q.bytes)) serial) f)

        new_held : (w v : Transaction) → begun_by q ≡ Some v → is_same w v ≡ true → u.held w ≡ waits (kind_in (part_of q.bytes)) serial
        new_held w v e f =
            ap (λ g. g w) same.1.1.0 ∙ (ap (λ x. (begun_then x).held w) e ∙ at_it t.held w v (waits (kind_in (part_of q.bytes)) serial) f)

        free_there : (w v : Transaction) → begun_by q ≡ Some v → is_same w v ≡ true → t.held w ≡ free
        free_there w v e f = ap t.held (sym (same_is v w f)) ∙ free_before v e

        taken_now : (w : Transaction) (kind : Kind) (s : ℕ) → t.held w ≡ free → u.held w ≡ waits kind s → t.count < s
        taken_now w kind s e f = by (begun_by q) refl
          where
            back : (o : Option Transaction) → begun_by q ≡ o → u.held w ≡ (begun_then o).held w
            back o g = ap (λ f. f w) same.1.1.0 ∙ ap (λ x. (begun_then x).held w) g

            by : (o : Option Transaction) → begun_by q ≡ o → t.count < s
            by None g = free_waits (t.held w) kind s e (sym (back None g) ∙ f)
            by (Some v) g = at_label (is_same w v) refl
              where
                at_label : (b : Bool) → is_same w v ≡ b → t.count < s
                at_label true h =
                    let r : serial ≡ s = same_waits (u.held w) (kind_in (part_of q.bytes)) kind serial s (new_held w v g h) f in
                    let n = next in omega (arith, r, n)
                at_label false h = free_waits (t.held w) kind s e (sym (back (Some v) g ∙ beside t.held w v (waits (kind_in (part_of q.bytes)) serial) h) ∙ f)

        apart : (s : ℕ) → s ≤ t.count → nat_eq serial s ≡ false
        apart s l = let n = next in grind (arith, nat_tests)

        below : (s : ℕ) → Has (Pushes past) s → s ≤ t.count
        below s h = (counted start past count.1).pushes s h

        is_new : Grows → New Q t u serial
        is_new g =
            let now_is : generation ≡ t.generation 0 = (sent.0 honest).now ∙ ap t.generation g.zero in
            let own : between q q.from q.to g.label ≡ Own t to g.label = ap (λ n. transaction n from to g.label) now_is ∙ ap (λ n. transaction (t.generation 0) n to g.label) g.zero in
            let begun : begun_by q ≡ Some (Own t to g.label) = asked_begun q (between q q.from q.to g.label) honest (request_asked q g.label g.kind g.part) ∙ ap (λ v. Some v) own in
            let n = next in
            let c = count_is in
            record {
              packet = q;
              one = one;
              label = g.label;
              kind = kind_in (part_of q.bytes);
              sent = sent_there past serial generation from to bytes;
              begun = begun;
              none = free_before (Own t to g.label) begun;
              held = new_held (Own t to g.label) (Own t to g.label) begun (same_self (t.generation 0) 0 to g.label);
              small = omega (arith, n, c);
              young = omega (arith, n);
            }

        more_now : (s : ℕ) → Has (Pushes now) s → Has (Pushes past) s ⊎ ((from ≡ 0) × New Q t u s)
        more_now s h = by grown
          where
            by : (Pushes now ≡ Pushes past) ⊎ Grows → Has (Pushes past) s ⊎ ((from ≡ 0) × New Q t u s)
            by (inl e) = inl (subst (λ xs. Has xs s) e h)
            by (inr g) = among (subst (λ xs. Has xs s) g.is h)
              where
                among : (serial ≡ s) ⊎ Has (Pushes past) s → Has (Pushes past) s ⊎ ((from ≡ 0) × New Q t u s)
                among (inl e) = inr (g.zero, subst (New Q t u) e (is_new g))
                among (inr k) = inl k

        less_now : (s : ℕ) → Has (Pushes past) s → Has (Pushes now) s
        less_now s h = by grown
          where
            by : (Pushes now ≡ Pushes past) ⊎ Grows → Has (Pushes now) s
            by (inl e) = subst (λ xs. Has xs s) (sym e) h
            by (inr g) = subst (λ xs. Has xs s) (sym g.is) (inr h)

        injected_is : u.injected ≡ t.injected
        injected_is = injected_paid t.owes t.sent serial q (begun_then (begun_by q)) ∙ injected_begun (begun_by q) serial q (puts (begun_by q) serial q t)

        pub sends_later : Later past now
        sends_later = record {
          generation = λ n. ap (λ f. f n) same.1.0 ∙ begun_generation (begun_by q) n;
          ids = λ g n. ap (λ f. f g n) (sent_ids serial generation from to bytes t);
          sent = λ s l. ap (λ f. f s) (sent_now past serial generation from to bytes) ∙ upd_other t.sent serial s (Some q) (apart s l);
          count = (let c = count_is in omega (arith, c));
          waiting = λ w kind s e. held_by w (waits kind s) (λ v g f. free_waits (t.held w) kind s (free_there w v g f) e) (λ f. f ∙ e);
          resting = λ w e. held_by w rests (λ v g f. free_rests (t.held w) (free_there w v g f) e) (λ f. f ∙ e);
          taken = taken_now;
          pends = λ n s h. pending_sent n serial s q t (apart s (below s h)) free_before;
          less = less_now;
          more = more_now;
          clean = λ c s l. ap (λ f. f s) injected_is ∙ c s (let k = count_is in omega (arith, k, l));
        }
          where
            begun_generation : (o : Option Transaction) (n : ℕ) → (begun_then o).generation n ≡ t.generation n
            begun_generation None n = refl
            begun_generation (Some v) n = refl
