-- For which list each ORB_POINTER was written, as packets are sent; and over every history whose moments stand as they may.
use Rattle.sbp_world.proofs.Words.Std.{arith, ◌≡◌, ◌⊎◌, inl, inr, refl, sym, ◌∙◌, ap, subst, ℕ, zero, suc, ◌+◌, ◌<◌, ◌≤◌, ◌==◌, ◌&&◌, nat_eq, nat_lt, not, Bool, true, false, cond, List, [], ◌∷◌, Option, Some, None, nat_tests}
use Rattle.sbp_world.proofs.Words.Wire.{SerialsCount, AreSent, Moment, asked, said, Sending, part_of, Terms, terms, NoteBuffer}
use Rattle.sbp_world.proofs.Words.Initiator.{start}
use Rattle.sbp_world.proofs.Words.Laws.{Host, host_at, known_host, list_begins, ready_host, present_list, slot_at, lists, EachMoment, event_of}
use Rattle.sbp_world.proofs.Words.World.{MayPoint, MayStand, pointer_write, list_if, pointed_list}
use Rattle.bus_memory.specs.declared.window.Window.TheVariants as windows
use Rattle.sbp_journal.specs.declared.note.Note.TheVariants as notes
use Rattle.sbp_laws.specs.Hosts.{is_serial, sent_as}
use Rattle.sbp_world.proofs.Hosts.Cores.{wire_is}
use Rattle.sbp_world.proofs.Hosts.Held.{sent_count, sent_new}
use Rattle.sbp_world.proofs.Hosts.PointerNotes.{pointer}
use Rattle.sbp_world.proofs.Hosts.Remaining.{serials_behind, step as one_later}
use Rattle.sbp_world.specs.Pointers.Pointers.{IsNamed}
use Rattle.sbp_world.proofs.Pointers.Ages.{moment_closes}
use Rattle.sbp_world.proofs.Pointers.Names.{pointer_same}
use Rattle.sbp_world.proofs.Pointers.Naming.{Follows, Naming, Plain, Points, asked_plain, link_plain, none_some, not_anew, other_append, other_drop, plain, points_on}
use Rattle.sbp_world.proofs.Pointers.Writing.{append_here, ends, plain_step, rises_by, some_is, stays_in}
use Rattle.sbp_world.proofs.Common.{untrue, cond_off as apart, itself, least as same_or_less, serial_is}

-- ---- what a packet leaves of the name

-- of a packet of another node, or one that was injected
other_host : (past : List Moment) (i serial generation from to : ℕ) (bytes : List ℕ) → ((from == suc i) && not ((terms past).injected serial)) ≡ false → pointer (said (notes.Sent serial generation from to bytes) ∷ past) i ≡ pointer past i
other_host past i serial generation from to bytes e =
    ap (λ (h : Host). h.pointer)
    (apart ((nat_eq from (suc i)) && not ((known_host past i).wire.injected serial)) (sent_as (part_of bytes) (event_of past) i (present_list past i) serial (host_at past i)) (host_at past i)
    (ap (λ (t : Terms). (nat_eq from (suc i)) && not (t.injected serial)) (wire_is past i) ∙ e))

-- what it names then, and for which list, if that is this packet
pub record Sends (past : List Moment) (i serial generation to : ℕ) (bytes : List ℕ) : Type 0 where
  pub stays : (n : ℕ) → pointer past i ≡ Some n → pointer (said (notes.Sent serial generation (suc i) to bytes) ∷ past) i ≡ Some n
  pub names : (n : ℕ) → pointer (said (notes.Sent serial generation (suc i) to bytes) ∷ past) i ≡ Some n → (pointer past i ≡ Some n) ⊎ (n ≡ serial)
  pub points : pointer (said (notes.Sent serial generation (suc i) to bytes) ∷ past) i ≡ Some serial → MayPoint past i to bytes × ((terms past).injected serial ≡ false)

is_it : (found : Option ℕ) (serial : ℕ) → found ≡ Some serial → is_serial found serial ≡ true
is_it found serial e = ap (λ x. is_serial x serial) e ∙ (let f : nat_eq serial serial ≡ true = grind (arith, nat_tests) in f)

list_of : (b : Bool) (list : Option ℕ) (n : ℕ) → list_if b list ≡ Some n → (b ≡ true) × (list ≡ Some n)
list_of true list n e = (refl, e)
list_of false list n e = none_some e

-- the list of a packet that is named now
pub written_now : (past : List Moment) (i serial generation to : ℕ) (bytes : List ℕ) (n : ℕ) → (let now = said (notes.Sent serial generation (suc i) to bytes) ∷ past in pointer now i ≡ Some serial → present_list past i ≡ Some n → pointed_list now serial i ≡ Some n)
written_now past i serial generation to bytes n e p =
    let name = pointer (said (notes.Sent serial generation (suc i) to bytes) ∷ past) i in
    ap (λ b. cond b (cond (nat_eq i i) (list_if (is_serial name serial) (present_list past i)) (pointed_list past serial i)) (pointed_list past serial i)) (itself serial)
    ∙ ap (λ b. cond b (list_if (is_serial name serial) (present_list past i)) (pointed_list past serial i)) (itself i)
    ∙ ap (λ b. list_if b (present_list past i)) (is_it name serial e)
    ∙ p

module _ (past : List Moment) (i serial generation to : ℕ) (bytes : List ℕ) (c : SerialsCount (said (notes.Sent serial generation (suc i) to bytes) ∷ past)) (own : AreSent (said (notes.Sent serial generation (suc i) to bytes) ∷ past)) (s : Sends past i serial generation to bytes) (k : Naming past i) where
  abbrev now : List Moment
  now = said (notes.Sent serial generation (suc i) to bytes) ∷ past

  abbrev packet : Sending
  packet = record { generation = generation; from = suc i; to = to; bytes = bytes; injected = (terms past).injected serial }

  follows : Follows past now i
  follows = record {
    remains = one_later (said (notes.Sent serial generation (suc i) to bytes)) past c;
    rises = stays_in (said (notes.Sent serial generation (suc i) to bytes)) past i refl;
    closed = moment_closes (said (notes.Sent serial generation (suc i) to bytes)) past;
    more = same_or_less _ _ refl;
    slot = λ n l. refl;
    ages = λ n l. refl;
    anew = λ n a b. absurd (not_anew n a b refl);
    own = λ n x l e h. s.stays x (h e);
    stays = λ n x p a g h d e f. f;
  }

  -- an older one
  older : (n x : ℕ) → pointed_list past x i ≡ Some n → nat_eq x serial ≡ false
  older n x e = let b = (k.each n x e).below in let f = c.0 in grind (arith, nat_tests)

  older_written : (n x : ℕ) → pointed_list past x i ≡ Some n → pointed_list now x i ≡ Some n
  older_written n x e = apart (nat_eq x serial) _ (pointed_list past x i) (older n x e) ∙ e

  -- by this packet, or by an older one
  data By (x n : ℕ) : Type 0 where
    by_older : pointed_list past x i ≡ Some n → By x n
    by_this : x ≡ serial → pointer now i ≡ Some serial → present_list past i ≡ Some n → By x n

  by_test : (x n : ℕ) (b : Bool) → nat_eq x serial ≡ b → pointed_list now x i ≡ Some n → By x n
  by_test x n false e w = by_older (sym (apart (nat_eq x serial) _ (pointed_list past x i) e) ∙ w)
  by_test x n true e w =
      let is : x ≡ serial = grind (arith, nat_tests) in
      let v : list_if (is_serial (pointer now i) serial) (present_list past i) ≡ Some n =
      sym (ap (λ b. cond b (list_if (is_serial (pointer now i) serial) (present_list past i)) (pointed_list past x i)) (itself i))
      ∙ sym (ap (λ b. cond b (cond (nat_eq i i) (list_if (is_serial (pointer now i) serial) (present_list past i)) (pointed_list past x i)) (pointed_list past x i)) e)
      ∙ w in
      let f = list_of (is_serial (pointer now i) serial) (present_list past i) n v in
      by_this is (serial_is (pointer now i) serial f.0) f.1

  by : (x n : ℕ) → pointed_list now x i ≡ Some n → By x n
  by x n w = by_test x n (nat_eq x serial) refl w

  -- this one
  this_written : (n : ℕ) → pointer now i ≡ Some serial → present_list past i ≡ Some n → pointed_list now serial i ≡ Some n
  this_written n e p = written_now past i serial generation to bytes n e p

  new_points : (n : ℕ) → pointer now i ≡ Some serial → present_list past i ≡ Some n → Points now i n serial
  new_points n e p =
      let m = (s.points e).0 in
      let honest = (s.points e).1 in
      let list_is : m.list ≡ n = some_is m.list n (sym m.present ∙ p) in
      let new = (own.0 honest).now in
      let stays = stays_in (said (notes.Sent serial generation (suc i) to bytes)) past i refl in
      let latest = k.latest n p in
      record {
        packet = packet;
        sent = sent_new serial packet (terms past);
        from_is = refl;
        to_is = m.to_target;
        honest = honest;
        base = m.base;
        spelled = m.spelled ∙ ap (λ l. Some (pointer_write m.base (start (windows.Orb (slot_at past i l 0))))) list_is;
        below = (let f = c.0 in let g = (one_later (said (notes.Sent serial generation (suc i) to bytes)) past c).count in let h = sent_count serial packet (terms past) in omega arith);
        aged = (let g : generation ≡ (terms past).generation (suc i) = new in omega arith);
        begun = (let f = latest in omega arith);
        own = λ f. e;
        present = λ g h. p;
        later = λ g m a b. (let f = latest in absurd (let x : ⊥ = omega arith in x));
      }

  each_now : (n x : ℕ) → By x n → Points now i n x
  each_now n x (by_older e) = points_on follows n x (k.each n x e)
  each_now n x (by_this e f p) = subst (Points now i n) (sym e) (new_points n f p)

  order_now : (n m x y : ℕ) → By x n → By y m → x < y → n < m
  order_now n m x y (by_older e) (by_older f) l = k.order n m x y e f l
  order_now n m x y (by_older e) (by_this f g p) l =
      let old = k.each n x e in
      let latest = k.latest m p in
      let b = old.begun in
      older_below n m (suc m) latest b (λ same. none_some (sym (s.points g).0.unwritten ∙ old.own (p ∙ ap Some (sym same))))
    where
      older_below : (n m count : ℕ) → suc m ≡ lists past i → n < lists past i → (n ≡ m → ⊥) → n < m
      older_below n m count latest b f = by_less (nat_lt n m) refl
        where
          by_less : (d : Bool) → nat_lt n m ≡ d → n < m
          by_less true e = grind (arith, nat_tests)
          by_less false e = absurd (f (grind (arith, nat_tests)))
  order_now n m x y (by_this e f p) (by_older g) l = let b = (k.each m y g).below in let h = c.0 in absurd (let z : ⊥ = omega arith in z)
  order_now n m x y (by_this e f p) (by_this g h q) l = absurd (let z : ⊥ = omega arith in z)

  named_now : (x : ℕ) → (pointer past i ≡ Some x) ⊎ (x ≡ serial) → pointer now i ≡ Some x → IsNamed now i x
  named_now x (inl e) f =
      let a = k.named x e in record { list = a.list; present = a.present; is = older_written a.list x a.is }
  named_now x (inr e) f =
      let g : pointer now i ≡ Some serial = f ∙ ap Some e in
      let m = (s.points g).0 in
      record { list = m.list; present = m.present; is = ap (λ y. pointed_list now y i) e ∙ this_written m.list g m.present }

  pub sends : Naming now i
  sends = record {
    each = λ n x w. each_now n x (by x n w);
    order = λ n m x y w v l. order_now n m x y (by x n w) (by y m v) l;
    named = λ x w. named_now x (s.names x w) w;
    latest = λ n w. k.latest n w;
    one = λ n l. k.one n l;
    small = λ n l. k.small n l;
  }

-- ---- of other nodes, and injected ones

pub not_new : {A : Type 0} (serial count : ℕ) → serial ≤ count → serial ≡ count + 1 → A
not_new serial count l e = absurd (let x : ⊥ = omega arith in x)

-- no older packet names this one
fresh : {A : Type 0} (past : List Moment) (i serial : ℕ) → Naming past i → serial ≡ (terms past).count + 1 → pointer past i ≡ Some serial → A
fresh past i serial k e f = let a = k.named serial f in not_new serial (terms past).count (k.each a.list serial a.is).below e

injected_sends : (past : List Moment) (i serial generation to : ℕ) (bytes : List ℕ) → SerialsCount (said (notes.Sent serial generation (suc i) to bytes) ∷ past) → (terms past).injected serial ≡ true → Naming past i → Sends past i serial generation to bytes
injected_sends past i serial generation to bytes c e k =
    let same = other_host past i serial generation (suc i) to bytes (ap (λ b. (nat_eq (suc i) (suc i)) && not b) e ∙ never (nat_eq (suc i) (suc i))) in
    record { stays = λ n f. same ∙ f; names = λ n f. inl (sym same ∙ f); points = λ f. fresh past i serial k c.0 (sym same ∙ f) }
  where
    never : (b : Bool) → (b && false) ≡ false
    never true = refl
    never false = refl

sent_here : (past : List Moment) (i serial generation to : ℕ) (bytes : List ℕ) → SerialsCount (said (notes.Sent serial generation (suc i) to bytes) ∷ past) → AreSent (said (notes.Sent serial generation (suc i) to bytes) ∷ past) → MayStand i (said (notes.Sent serial generation (suc i) to bytes)) past → (b : Bool) → (terms past).injected serial ≡ b → Naming past i → Naming (said (notes.Sent serial generation (suc i) to bytes) ∷ past) i
sent_here past i serial generation to bytes c own m true e k = sends past i serial generation to bytes c own (injected_sends past i serial generation to bytes c e k) k
sent_here past i serial generation to bytes c own m false e k =
    let a = m (itself (suc i)) e in
    sends past i serial generation to bytes c own (record { stays = a.stays; names = a.names; points = λ f. (a.points f, e) }) k

-- a packet of another node leaves what was written
other_plain : (past : List Moment) (i j serial generation to : ℕ) (bytes : List ℕ) → (j == i) ≡ false → Plain past (said (notes.Sent serial generation (suc j) to bytes) ∷ past) i
other_plain past i j serial generation to bytes e = record {
  writes = λ s. other_written (nat_eq s serial) (nat_eq i j) _ (pointed_list past s i) (let f : nat_eq i j ≡ false = grind (arith, nat_tests) in f);
  begun = refl;
  slot = λ n. refl;
  ages = λ n. refl;
  present = refl;
  links = λ n b. b;
}
  where
    other_written : (b d : Bool) (x y : Option ℕ) → d ≡ false → cond b (cond d x y) y ≡ y
    other_written true true x y f = untrue (sym f)
    other_written true false x y f = refl
    other_written false d x y f = refl

target_plain : (past : List Moment) (i serial generation to : ℕ) (bytes : List ℕ) → Plain past (said (notes.Sent serial generation zero to bytes) ∷ past) i
target_plain past i serial generation to bytes = record { writes = λ s. refl; begun = refl; slot = λ n. refl; ages = λ n. refl; present = refl; links = λ n b. b }

pub off : (b c : Bool) → b ≡ false → (b && c) ≡ false
off true c e = untrue (sym e)
off false c e = refl

sent_by : (past : List Moment) (i j serial generation to : ℕ) (bytes : List ℕ) → SerialsCount (said (notes.Sent serial generation (suc j) to bytes) ∷ past) → AreSent (said (notes.Sent serial generation (suc j) to bytes) ∷ past) → MayStand i (said (notes.Sent serial generation (suc j) to bytes)) past → (b : Bool) → (j == i) ≡ b → Naming past i → Naming (said (notes.Sent serial generation (suc j) to bytes) ∷ past) i
sent_by past i j serial generation to bytes c own m false e k =
    plain_step (said (notes.Sent serial generation (suc j) to bytes)) past i c (other_plain past i j serial generation to bytes e)
    (other_host past i serial generation (suc j) to bytes (off (nat_eq (suc j) (suc i)) _ (let f : nat_eq (suc j) (suc i) ≡ false = grind (arith, nat_tests) in f)))
    (stays_in (said (notes.Sent serial generation (suc j) to bytes)) past i refl) k
sent_by past i j serial generation to bytes c own m true e k =
    let is : j ≡ i = grind (arith, nat_tests) in
    subst (λ x. Naming (said (notes.Sent serial generation (suc x) to bytes) ∷ past) i) (sym is)
    (sent_here past i serial generation to bytes (subst (λ x. SerialsCount (said (notes.Sent serial generation (suc x) to bytes) ∷ past)) is c) (subst (λ x. AreSent (said (notes.Sent serial generation (suc x) to bytes) ∷ past)) is own) (subst (λ x. MayStand i (said (notes.Sent serial generation (suc x) to bytes)) past) is m) ((terms past).injected serial) refl k)

-- ---- every moment

append_by : (past : List Moment) (i j n k : ℕ) (cdb : List ℕ) (buffer : NoteBuffer) → SerialsCount past → MayStand i (said (notes.Append j n k cdb buffer)) past → (b : Bool) → (j == i) ≡ b → Naming past i → Naming (said (notes.Append j n k cdb buffer) ∷ past) i
append_by past i j n k cdb buffer c m false e h =
    plain_step (said (notes.Append j n k cdb buffer)) past i c (other_append i j n k cdb buffer past e) (ap (λ (x : Host). x.pointer) (apart (nat_eq j i) (list_begins k (host_at past i)) (host_at past i) e)) (same_or_less _ _ refl) h
append_by past i j n k cdb buffer c m true e h =
    let is : j ≡ i = grind (arith, nat_tests) in
    subst (λ x. Naming (said (notes.Append x n k cdb buffer) ∷ past) i) (sym is) (append_here i n k cdb buffer past c (m e) h)

drop_by : (past : List Moment) (i j n : ℕ) → SerialsCount past → MayStand i (said (notes.Drop j n)) past → (b : Bool) → (j == i) ≡ b → Naming past i → Naming (said (notes.Drop j n) ∷ past) i
drop_by past i j n c m false e h =
    plain_step (said (notes.Drop j n)) past i c (other_drop i j n past e) (ap (λ (x : Host). x.pointer) (apart (nat_eq j i) (list_begins zero (host_at past i)) (host_at past i) e)) (same_or_less _ _ refl) h
drop_by past i j n c m true e h =
    let is : j ≡ i = grind (arith, nat_tests) in subst (λ x. Naming (said (notes.Drop x n) ∷ past) i) (sym is) (ends i n past c (m e) h)

begun_name : (b : Bool) (i : ℕ) (host : Host) → host.pointer ≡ None → (cond b (ready_host i) host).pointer ≡ host.pointer
begun_name true i host e = sym e
begun_name false i host e = refl

moment_names : (m : Moment) (past : List Moment) (i : ℕ) → SerialsCount (m ∷ past) → AreSent (m ∷ past) → MayStand i m past → Naming past i → Naming (m ∷ past) i
moment_names (asked line event) past i c own s k = plain_step (asked line event) past i c (asked_plain line event past i) refl (stays_in (asked line event) past i refl) k
moment_names (said (notes.Begin initiators ready)) past i c own s k =
    plain_step (said (notes.Begin initiators ready)) past i c (plain (notes.Begin initiators ready) past i refl) (begun_name (ready && nat_lt i initiators) i (host_at past i) s) (same_or_less _ _ refl) k
moment_names (said (notes.Append j n l cdb buffer)) past i c own s k = append_by past i j n l cdb buffer c s (j == i) refl k
moment_names (said (notes.Drop j n)) past i c own s k = drop_by past i j n c s (j == i) refl k
moment_names (said (notes.Linked j n l)) past i c own s k = plain_step (said (notes.Linked j n l)) past i c (link_plain j n l past i) refl (same_or_less _ _ refl) k
moment_names (said (notes.Sent serial generation zero to bytes)) past i c own s k =
    plain_step (said (notes.Sent serial generation zero to bytes)) past i c (target_plain past i serial generation to bytes)
    (other_host past i serial generation zero to bytes (off (nat_eq zero (suc i)) _ (let f : nat_eq zero (suc i) ≡ false = grind (arith, nat_tests) in f)))
    (stays_in (said (notes.Sent serial generation zero to bytes)) past i refl) k
moment_names (said (notes.Sent serial generation (suc j) to bytes)) past i c own s k = sent_by past i j serial generation to bytes c own s (j == i) refl k
moment_names (said (notes.Seen node generation)) past i c own s k =
    plain_step (said (notes.Seen node generation)) past i c (plain (notes.Seen node generation) past i refl) (pointer_same (notes.Seen node generation) past i refl) (rises_by past i node generation s (node == suc i) refl) k
moment_names (said note) past i c own s k =
    plain_step (said note) past i c (plain note past i refl) (pointer_same note past i refl) (stays_in (said note) past i refl) k

pub sent_behind : (m : Moment) (past : List Moment) → AreSent (m ∷ past) → AreSent past
sent_behind (said (notes.Sent s generation from to bytes)) past c = c.1
sent_behind (said note) past c = c
sent_behind (asked line event) past c = c

first_names : (i : ℕ) → Naming [] i
first_names i = record {
  each = λ n serial e. none_some e;
  order = λ n m serial other e f l. none_some e;
  named = λ serial e. none_some e;
  latest = λ n e. none_some e;
  one = λ n l. (let x : n < 0 = l in absurd (let y : ⊥ = omega arith in y));
  small = λ n l. (let x : n < 0 = l in absurd (let y : ⊥ = omega arith in y));
}

pub names : (past : List Moment) (i : ℕ) → SerialsCount past → AreSent past → EachMoment (MayStand i) past → Naming past i
names [] i c own s = first_names i
names (m ∷ past) i c own s = moment_names m past i c own s.0 (names past i (serials_behind m past c) (sent_behind m past own) s.1)
