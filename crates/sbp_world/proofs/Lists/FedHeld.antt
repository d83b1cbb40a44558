-- What a label waits for, by the history (IEEE 1394-1995, split transactions): a request that it waited for before, or one that was sent since. A response that closes its transaction leaves
-- the label free.
use Rattle.sbp_world.proofs.Words.Std.{arith, ◌≡◌, ◌∙◌, refl, sym, ap, inl, inr, ◌⊎◌, ◌<◌, ◌+◌, ◌==◌, nat_eq, ℕ, Bool, true, false, cond, List, [], ◌∷◌, ◌++◌, Option, Some, None, nat_tests}
use Rattle.sbp_world.proofs.Words.Wire.{SerialsCount, rcode_of, Moment, asked, said, Kind, Part, Sending, Transaction, asked_by, at, begun_by, between, is_same, is_same_kind, is_to, part_of, request, response, Held, Terms, arrives, begins, begun_in, closes, closes_if, free, gets, gets_as, ignores, ignores_that, is_news, is_served, judges_if, kind_in, noted, puts, rests, sends, terms, times_out, waits, Cause, Note}
use Rattle.sbp_world.proofs.Words.Laws.{closed_by}
use Rattle.sbp_journal.specs.Transactions.{no_packet}
use Rattle.sbp_journal.specs.declared.cause.Cause.TheVariants as causes
use Rattle.sbp_journal.specs.declared.note.Note.TheVariants as notes
use Rattle.sbp_world.proofs.Hosts.Remaining.{remains}
use Rattle.sbp_world.proofs.Hosts.SentMoments.{sent_below, serials_from}
use Rattle.sbp_world.proofs.Hosts.Held.{sends_sent, pays_held}
use Rattle.sbp_world.proofs.Pointers.Ages.{serial_is}
use Rattle.sbp_world.proofs.Agents.Management.Still.{judges_held}
use Rattle.sbp_world.proofs.Lists.LastReads.{opened_held}

pub same_self : (u : Transaction) → is_same u u ≡ true
unfolding is_same
same_self u =
    let a : (u.generation == u.generation) ≡ true = grind (arith, nat_tests) in
    let b : (u.requester == u.requester) ≡ true = grind (arith, nat_tests) in
    let c : (u.responder == u.responder) ≡ true = grind (arith, nat_tests) in
    let d : (u.label == u.label) ≡ true = grind (arith, nat_tests) in
    cc

module _ (v : Transaction) (k : Kind) (s : ℕ) where
  -- a term with another value somewhere
  set_waits : (held : Transaction → Held) (u : Transaction) (x : Held) → (x ≡ waits k s → ⊥) → at held u x v ≡ waits k s → held v ≡ waits k s
  set_waits held u x none e = by (is_same v u) e
    where
      by : (b : Bool) → cond b x (held v) ≡ waits k s → held v ≡ waits k s
      by true f = absurd (none f)
      by false f = f

  free_not : free ≡ waits k s → ⊥
  free_not e = cc

  rests_not : rests ≡ waits k s → ⊥
  rests_not e = cc

  -- ---- a packet is sent

  begins_waits : (u : Option Transaction) (serial : ℕ) (q : Sending) (t : Terms) → (begins u serial q t).held v ≡ waits k s → (t.held v ≡ waits k s) ⊎ (s ≡ serial)
  begins_waits None serial q t e = inl e
  begins_waits (Some u) serial q t e = by (is_same v u) e
    where
      by : (b : Bool) → cond b (waits (kind_in (part_of q.bytes)) serial) (t.held v) ≡ waits k s → (t.held v ≡ waits k s) ⊎ (s ≡ serial)
      by true f = inr (serial_is (kind_in (part_of q.bytes)) k serial s f)
      by false f = inl f

  sends_waits : (serial : ℕ) (q : Sending) (t : Terms) → (sends serial q t).held v ≡ waits k s → (t.held v ≡ waits k s) ⊎ (s ≡ serial)
  sends_waits serial q t e =
      begins_waits (begun_by q) serial q (puts (begun_by q) serial q t) (sym (ap (λ (f : Transaction → Held). f v) (pays_held t.owes t.sent serial q (begins (begun_by q) serial q (puts (begun_by q) serial q t)))) ∙ e)

  -- ---- a packet is got

  closes_waits : (h : Held) (u : Transaction) (kind : Kind) (rcode : ℕ) (t : Terms) → (closes h u kind rcode t).held v ≡ waits k s → t.held v ≡ waits k s
  closes_waits free u kind rcode t e = e
  closes_waits rests u kind rcode t e = e
  closes_waits (waits own x) u kind rcode t e = by (is_same_kind own kind) e
    where
      by : (b : Bool) → (closes_if b x u rcode t).held v ≡ waits k s → t.held v ≡ waits k s
      by true f = set_waits t.held u free free_not f
      by false f = f

  gets_waits : (part : Part) (serial : ℕ) (q : Sending) (t : Terms) → (gets_as part serial q t).held v ≡ waits k s → t.held v ≡ waits k s
  gets_waits (request label kind) serial q t e = sym (ap (λ (f : Transaction → Held). f v) (judges_held (asked_by q) None serial q t)) ∙ e
  gets_waits (response label kind) serial q t e = let u = between q q.to q.from label in closes_waits (t.held u) u kind (rcode_of q.bytes) t e
  gets_waits no_packet serial q t e = e

  got_waits : (so : Option Sending) (serial : ℕ) (t : Terms) → (gets so serial t).held v ≡ waits k s → t.held v ≡ waits k s
  got_waits None serial t e = e
  got_waits (Some q) serial t e = gets_waits (part_of q.bytes) serial q (is_served serial (is_news serial (arrives serial t))) e

  judged_if : (b : Bool) (u : Option Transaction) (serial : ℕ) (q : Sending) (t : Terms) → (judges_if b u serial q t).held ≡ t.held
  judged_if true u serial q t = judges_held u (Some causes.Grammar) serial q t
  judged_if false u serial q t = refl

  ignores_held : (cause : Cause) (serial : ℕ) (q : Sending) (t : Terms) → (ignores cause serial q t).held ≡ t.held
  ignores_held causes.Generation serial q t = refl
  ignores_held causes.Grammar serial q t = judged_if (is_to q.bytes (t.ids q.generation q.to)) (asked_by q) serial q (is_news serial t)
  ignores_held causes.Label serial q t = refl
  ignores_held causes.Again serial q t = judges_held (asked_by q) (Some causes.Again) serial q t
  ignores_held causes.Source serial q t = judges_held (asked_by q) (Some causes.Source) serial q (is_news serial t)
  ignores_held causes.Login serial q t = judges_held (asked_by q) (Some causes.Login) serial q (is_news serial t)
  ignores_held causes.Slot serial q t = judges_held (asked_by q) (Some causes.Slot) serial q (is_served serial (is_news serial t))

  ignored_held : (so : Option Sending) (cause : Cause) (serial : ℕ) (t : Terms) → (ignores_that so cause serial t).held ≡ t.held
  ignored_held None cause serial t = refl
  ignored_held (Some q) cause serial t = ignores_held cause serial q (arrives serial t)

  late_waits : (u : Option Transaction) (t : Terms) → (times_out u t).held v ≡ waits k s → t.held v ≡ waits k s
  late_waits None t e = e
  late_waits (Some u) t e = set_waits t.held u rests rests_not e

  -- ---- each moment
  abbrev pub IsSent : Moment → ℕ → Type 0
  IsSent (said (notes.Sent serial generation from to bytes)) own = own ≡ serial
  IsSent moment own = ⊥

  note_waits : (note : Note) (t : Terms) → (noted note t).held v ≡ waits k s → (t.held v ≡ waits k s) ⊎ IsSent (said note) s
  note_waits (notes.Sent serial generation from to bytes) t e = sends_waits serial _ t e
  note_waits (notes.Got serial) t e = inl (got_waits (t.sent serial) serial t e)
  note_waits (notes.Ignored serial cause) t e = inl (sym (ap (λ (f : Transaction → Held). f v) (ignored_held (t.sent serial) cause serial t)) ∙ e)
  note_waits (notes.TimedOut serial) t e = inl (late_waits (begun_in (t.sent serial)) t e)
  note_waits note t e = inl e

  moment_waits : (m : Moment) (past : List Moment) → (terms (m ∷ past)).held v ≡ waits k s → ((terms past).held v ≡ waits k s) ⊎ IsSent m s
  moment_waits (asked line event) past e = inl (sym (ap (λ (f : Transaction → Held). f v) (opened_held event (terms past))) ∙ e)
  moment_waits (said note) past e = note_waits note (terms past) e

-- ---- since a moment
pub record IsNewer (before past : List Moment) (s : ℕ) : Type 0 where
  pub above : (terms before).count < s
  pub packet : Sending
  pub sent : (terms past).sent s ≡ Some packet

-- one that was sent now
sent_now : (m : Moment) (past : List Moment) (s : ℕ) (v : Transaction) (k : Kind) → SerialsCount (m ∷ past) → IsSent v k s m s → (s ≡ (terms past).count + 1) × ((packet : Sending) × ((terms (m ∷ past)).sent s ≡ Some packet))
sent_now (asked line event) past s v k c e = absurd e
sent_now (said note) past s v k c e = by note c e
  where
    by : (note : Note) → SerialsCount (said note ∷ past) → IsSent v k s (said note) s → (s ≡ (terms past).count + 1) × ((packet : Sending) × ((terms (said note ∷ past)).sent s ≡ Some packet))
    by (notes.Sent serial generation from to bytes) c e =
        let q : Sending = record { generation = generation; from = from; to = to; bytes = bytes; injected = (terms past).injected serial } in
        let here : nat_eq s serial ≡ true = grind (arith, nat_tests, e) in
        (e ∙ c.0, (q, ap (λ (f : ℕ → Option Sending). f s) (sends_sent serial q (terms past)) ∙ ap (λ b. cond b (Some q) ((terms past).sent s)) here))
    by note c e = absurd e

pub waits_since : (later before : List Moment) → SerialsCount (later ++ before) → (v : Transaction) (k : Kind) (s : ℕ) → (terms (later ++ before)).held v ≡ waits k s → ((terms before).held v ≡ waits k s) ⊎ IsNewer before (later ++ before) s
waits_since [] before c v k s e = inl e
waits_since (m ∷ later) before c v k s e =
    by (moment_waits v k s m (later ++ before) e) (λ f. waits_since later before (serials_from (m ∷ []) (later ++ before) c) v k s f)
  where
    past : List Moment
    past = later ++ before

    goes : ((terms before).held v ≡ waits k s) ⊎ IsNewer before (later ++ before) s → ((terms before).held v ≡ waits k s) ⊎ IsNewer before (m ∷ (later ++ before)) s
    goes (inl f) = inl f
    goes (inr x) =
        let within = sent_below (later ++ before) s x.packet (serials_from (m ∷ []) (later ++ before) c) x.sent in
        inr (record { above = x.above; packet = x.packet; sent = (remains (m ∷ []) (later ++ before) c).sent s within ∙ x.sent })

    by : ((terms (later ++ before)).held v ≡ waits k s) ⊎ IsSent v k s m s → ((terms (later ++ before)).held v ≡ waits k s → ((terms before).held v ≡ waits k s) ⊎ IsNewer before (later ++ before) s) → ((terms before).held v ≡ waits k s) ⊎ IsNewer before (m ∷ (later ++ before)) s
    by (inl f) again = goes (again f)
    by (inr f) again =
        let x = sent_now m (later ++ before) s v k c f in
        let more = (remains later before (serials_from (m ∷ []) (later ++ before) c)).count in
        let above : (terms before).count < s = (let z = x.0 in omega (arith, z, more)) in
        inr (record { above = above; packet = x.1.0; sent = x.1.1 })

-- ---- a response leaves its label free
module _ (u : Transaction) (kind : Kind) (own rcode : ℕ) where
  no_own : {A : Type 0} → None ≡ Some own → A
  no_own e = absurd (let x : None ≡ Some own = e in cc)

  closes_frees : (h : Held) (t : Terms) → closed_by h kind ≡ Some own → (closes h u kind rcode t).held u ≡ free
  closes_frees free t e = no_own e
  closes_frees rests t e = no_own e
  closes_frees (waits k s) t e = by (is_same_kind k kind) e
    where
      by : (b : Bool) → cond b (Some s) None ≡ Some own → (closes_if b s u rcode t).held u ≡ free
      by true f = ap (λ b. cond b free (t.held u)) (same_self u)
      by false f = no_own f

pub got_frees : (t : Terms) (response_serial own : ℕ) (q : Sending) (label : ℕ) (kind : Kind) → t.sent response_serial ≡ Some q → part_of q.bytes ≡ response label kind → closed_by (t.held (between q q.to q.from label)) kind ≡ Some own → (noted (notes.Got response_serial) t).held (between q q.to q.from label) ≡ free
got_frees t r own q label kind e part c =
    let u = between q q.to q.from label in
    ap (λ (so : Option Sending). (gets so r t).held u) e
    ∙ ap (λ (p : Part). (gets_as p r q (is_served r (is_news r (arrives r t)))).held u) part
    ∙ closes_frees u kind own (rcode_of q.bytes) (t.held u) (is_served r (is_news r (arrives r t))) c
