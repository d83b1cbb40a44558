-- For which list each ORB_POINTER was written, by the moments of a history alone.
use Rattle.sbp_world.proofs.Words.Std.{arith, ◌≡◌, refl, sym, ◌∙◌, ap, subst, ℕ, zero, suc, ◌<◌, ◌≤◌, ◌==◌, nat_eq, nat_lt, is_some, Bool, true, false, cond, List, ◌∷◌, Option, Some, None, nat_tests, upd2}
use Rattle.sbp_world.proofs.Words.Wire.{Moment, asked, said, Sending, terms, Event, Note, NoteBuffer}
use Rattle.sbp_world.proofs.Words.Initiator.{start}
use Rattle.sbp_world.proofs.Words.Laws.{linked, lowest_vacant, present_list, slot_at, slots, access_in_bytes, lists}
use Rattle.sbp_world.proofs.Words.World.{Remains, pointer_write, begun_in, pointed_list}
use Rattle.bus_memory.specs.declared.window.Window.TheVariants as windows
use Rattle.sbp_journal.specs.declared.note.Note.TheVariants as notes
use Rattle.sbp_world.proofs.Hosts.PointerNotes.{pointer}
use Rattle.sbp_world.specs.Pointers.Pointers.{IsNamed}
use Rattle.sbp_world.proofs.Pointers.Ages.{Closes}
use Rattle.sbp_world.proofs.Common.{least, untrue, cond_off}

pub none_some : {A : Type 0} {B : Type 0} {x : B} → None ≡ Some x → A
none_some e = absurd (differ e)
  where
    differ : {B : Type 0} {x : B} → None ≡ Some x → ⊥
    differ e = cc

-- ---- what holds of each write

pub record Points (past : List Moment) (i n serial : ℕ) : Type 0 where
  pub packet : Sending
  pub sent : (terms past).sent serial ≡ Some packet
  pub from_is : packet.from ≡ suc i
  pub to_is : packet.to ≡ 0
  pub honest : packet.injected ≡ false
  pub base : ℕ
  pub spelled : access_in_bytes packet.bytes ≡ Some (pointer_write base (start (windows.Orb (slot_at past i n 0))))
  pub below : serial ≤ (terms past).count
  pub aged : packet.generation ≤ (terms past).generation (suc i)
  pub begun : n < lists past i
  pub own : present_list past i ≡ Some n → pointer past i ≡ Some serial
  pub present : packet.generation ≡ (terms past).generation (suc i) → (terms past).closed serial ≡ None → present_list past i ≡ Some n
  pub later : (terms past).closed serial ≡ None → (m : ℕ) → n < m → m < lists past i → packet.generation < begun_in past i m

pub record Naming (past : List Moment) (i : ℕ) : Type 0 where
  pub each : (n serial : ℕ) → pointed_list past serial i ≡ Some n → Points past i n serial
  pub order : (n m serial cond_off : ℕ) → pointed_list past serial i ≡ Some n → pointed_list past cond_off i ≡ Some m → serial < cond_off → n < m
  pub named : (serial : ℕ) → pointer past i ≡ Some serial → IsNamed past i serial
  pub latest : (n : ℕ) → present_list past i ≡ Some n → suc n ≡ lists past i
  pub one : (n : ℕ) → n < lists past i → 0 < linked past i n
  pub small : (n : ℕ) → n < lists past i → slot_at past i n 0 < 32

-- ---- from one moment to the next

-- What was written, and not answered in the generation of its initiator, is so still; and its list is the present one still.
pub record Follows (past now : List Moment) (i : ℕ) : Type 0 where
  pub remains : Remains past now
  pub rises : (terms past).generation (suc i) ≤ (terms now).generation (suc i)
  pub closed : Closes (terms past) (terms now)
  pub more : lists past i ≤ lists now i
  pub slot : (n : ℕ) → n < lists past i → slot_at now i n 0 ≡ slot_at past i n 0
  pub ages : (n : ℕ) → n < lists past i → begun_in now i n ≡ begun_in past i n
  pub anew : (n : ℕ) → lists past i ≤ n → n < lists now i → (present_list past i ≡ None) × (begun_in now i n ≡ (terms past).generation (suc i))
  pub own : (n serial : ℕ) → n < lists past i → present_list now i ≡ Some n → (present_list past i ≡ Some n → pointer past i ≡ Some serial) → pointer now i ≡ Some serial
  pub stays : (n serial : ℕ) (packet : Sending) → (terms past).sent serial ≡ Some packet → packet.generation ≡ (terms past).generation (suc i) → (terms past).generation (suc i) ≡ (terms now).generation (suc i) → (terms now).closed serial ≡ None → pointer past i ≡ Some serial → present_list past i ≡ Some n → present_list now i ≡ Some n

not_closed : (old new : Option ℕ) → (is_some old ≡ true → is_some new ≡ true) → new ≡ None → old ≡ None
not_closed None new f e = refl
not_closed (Some rcode) new f e = untrue (sym (ap is_some e) ∙ f refl)

between : (packet old new : ℕ) → packet ≡ new → packet ≤ old → old ≤ new → packet ≡ old
between packet old new e l h = omega arith

pub at_most : (a b c : ℕ) → a ≤ b → b ≤ c → a ≤ c
at_most a b c h g = omega arith

pub still_below : (k a b : ℕ) → k < a → a ≤ b → k < b
still_below k a b h g = omega arith

not_less : (a b : ℕ) → nat_lt a b ≡ false → a ≤ b → a ≡ b
not_less a b e l = grind (arith, nat_tests)

-- a list that begins later does so in a later generation
later_on : {past now : List Moment} {i : ℕ} → Follows past now i → (n serial : ℕ) → (p : Points past i n serial) → (terms now).closed serial ≡ None → (m : ℕ) → n < m → m < lists now i → p.packet.generation < begun_in now i m
later_on {past} {now} {i} f n serial p c m l b = by (nat_lt m (lists past i)) refl
  where
    old : (terms past).closed serial ≡ None
    old = not_closed ((terms past).closed serial) ((terms now).closed serial) (f.closed serial) c

    younger : (b : Bool) → nat_lt p.packet.generation ((terms past).generation (suc i)) ≡ b → present_list past i ≡ None → p.packet.generation < (terms past).generation (suc i)
    younger true e none = grind (arith, nat_tests)
    younger false e none = none_some (sym none ∙ p.present (not_less p.packet.generation ((terms past).generation (suc i)) e p.aged) old)

    by : (b : Bool) → nat_lt m (lists past i) ≡ b → p.packet.generation < begun_in now i m
    by true e =
        let before : m < lists past i = grind (arith, nat_tests) in
        subst (λ g. p.packet.generation < g) (sym (f.ages m before)) (p.later old m l before)
    by false e =
        let x = f.anew m (let k : lists past i ≤ m = grind (arith, nat_tests) in k) b in
        subst (λ g. p.packet.generation < g) (sym x.1) (younger (nat_lt p.packet.generation ((terms past).generation (suc i))) refl x.0)

pub points_on : {past now : List Moment} {i : ℕ} → Follows past now i → (n serial : ℕ) → Points past i n serial → Points now i n serial
points_on {past} {now} {i} f n serial p = record {
  packet = p.packet;
  sent = f.remains.sent serial p.below ∙ p.sent;
  from_is = p.from_is;
  to_is = p.to_is;
  honest = p.honest;
  base = p.base;
  spelled = p.spelled ∙ ap (λ slot. Some (pointer_write p.base (start (windows.Orb slot)))) (sym (f.slot n p.begun));
  below = at_most serial (terms past).count (terms now).count p.below f.remains.count;
  aged = at_most p.packet.generation ((terms past).generation (suc i)) ((terms now).generation (suc i)) p.aged f.rises;
  begun = still_below n (lists past i) (lists now i) p.begun f.more;
  own = λ e. f.own n serial p.begun e p.own;
  present = λ g c.
      let old = between p.packet.generation ((terms past).generation (suc i)) ((terms now).generation (suc i)) g p.aged f.rises in
      let there = p.present old (not_closed ((terms past).closed serial) ((terms now).closed serial) (f.closed serial) c) in
      f.stays n serial p.packet p.sent old (sym old ∙ g) c (p.own there) there;
  later = later_on f n serial p;
}

-- what most moments leave
pub record Plain (past now : List Moment) (i : ℕ) : Type 0 where
  pub writes : (serial : ℕ) → pointed_list now serial i ≡ pointed_list past serial i
  pub begun : lists now i ≡ lists past i
  pub slot : (n : ℕ) → slot_at now i n 0 ≡ slot_at past i n 0
  pub ages : (n : ℕ) → begun_in now i n ≡ begun_in past i n
  pub present : present_list now i ≡ present_list past i
  pub links : (n : ℕ) → 0 < linked past i n → 0 < linked now i n

pub not_anew : {past now : ℕ} (n : ℕ) → past ≤ n → n < now → now ≡ past → ⊥
not_anew n a b e = omega arith

pub plain_follows : {past now : List Moment} {i : ℕ} → Plain past now i → pointer now i ≡ pointer past i → Remains past now → (terms past).generation (suc i) ≤ (terms now).generation (suc i) → Closes (terms past) (terms now) → Follows past now i
plain_follows p e r g c = record {
  remains = r;
  rises = g;
  closed = c;
  more = least _ _ p.begun;
  slot = λ n b. p.slot n;
  ages = λ n b. p.ages n;
  anew = λ n a b. absurd (not_anew n a b p.begun);
  own = λ n serial b f h. e ∙ h (sym p.present ∙ f);
  stays = λ n serial packet s a b d f h. p.present ∙ h;
}

pub plain_names : {past now : List Moment} {i : ℕ} → Plain past now i → pointer now i ≡ pointer past i → Follows past now i → Naming past i → Naming now i
plain_names {past} {now} {i} p e f k = record {
  each = λ n serial w. points_on f n serial (k.each n serial (sym (p.writes serial) ∙ w));
  order = λ n m serial cond_off w v l. k.order n m serial cond_off (sym (p.writes serial) ∙ w) (sym (p.writes cond_off) ∙ v) l;
  named = λ serial w.
      let a = k.named serial (sym e ∙ w) in
      record { list = a.list; present = p.present ∙ a.present; is = p.writes serial ∙ a.is };
  latest = λ n w. k.latest n (sym p.present ∙ w) ∙ sym p.begun;
  one = λ n b. p.links n (k.one n (subst (λ m. n < m) p.begun b));
  small = λ n b. subst (λ m. m < 32) (sym (p.slot n)) (k.small n (subst (λ m. n < m) p.begun b));
}

-- ---- notes that are plain

-- a note may change what is written, the lists or their slots
abbrev pub relists : Note → Bool
relists (notes.Append j n k cdb buffer) = true
relists (notes.Drop j n) = true
relists (notes.Linked j n k) = true
relists (notes.Sent serial generation from to bytes) = true
relists _ = false

pub plain : (note : Note) (past : List Moment) (i : ℕ) → relists note ≡ false → Plain past (said note ∷ past) i
plain (notes.Append j n k cdb buffer) past i e = untrue (sym e)
plain (notes.Drop j n) past i e = untrue (sym e)
plain (notes.Linked j n k) past i e = untrue (sym e)
plain (notes.Sent serial generation from to bytes) past i e = untrue (sym e)
plain _ past i e = record { writes = λ s. refl; begun = refl; slot = λ n. refl; ages = λ n. refl; present = refl; links = λ n b. b }

-- a link leaves linked what was
above : (a b : Bool) (k old : ℕ) → 0 < old → 0 < cond a (cond b (suc k) old) old
above true true k old h = omega arith
above true false k old h = h
above false b k old h = h

pub link_plain : (j n k : ℕ) (past : List Moment) (i : ℕ) → Plain past (said (notes.Linked j n k) ∷ past) i
link_plain j n k past i = record {
  writes = λ s. refl;
  begun = refl;
  slot = λ m. refl;
  ages = λ m. refl;
  present = refl;
  links = λ m h. above (nat_eq i j) (nat_eq m n) k (linked past i m) h;
}

pub asked_plain : (line : ℕ) (event : Event) (past : List Moment) (i : ℕ) → Plain past (asked line event ∷ past) i
asked_plain line event past i = record { writes = λ s. refl; begun = refl; slot = λ n. refl; ages = λ n. refl; present = refl; links = λ n b. b }

-- ---- a list that begins or ends, of another initiator

pub turned : (i j : ℕ) → (j == i) ≡ false → nat_eq i j ≡ false
turned i j e = grind (arith, nat_tests)

pub other_drop : (i j n : ℕ) (past : List Moment) → (j == i) ≡ false → Plain past (said (notes.Drop j n) ∷ past) i
other_drop i j n past e = record { writes = λ s. refl; begun = refl; slot = λ m. refl; ages = λ m. refl; present = cond_off (nat_eq i j) None (present_list past i) (turned i j e); links = λ m b. b }

other_linked : (b c : Bool) (x y : ℕ) → b ≡ false → 0 < y → 0 < cond b (cond c x y) y
other_linked true c x y e h = untrue (sym e)
other_linked false c x y e h = h

pub other_append : (i j n k : ℕ) (cdb : List ℕ) (buffer : NoteBuffer) (past : List Moment) → (j == i) ≡ false → Plain past (said (notes.Append j n k cdb buffer) ∷ past) i
other_append i j n zero cdb buffer past e =
    let f = turned i j e in
    record {
      writes = λ s. refl;
      begun = cond_off (nat_eq i j) (suc (lists past j)) (lists past i) f;
      slot = λ m. cond_off (nat_eq i j) (cond (nat_eq m n) (lowest_vacant (slots past j)) (slot_at past i m 0)) (slot_at past i m 0) f;
      ages = λ m. cond_off (nat_eq i j) (cond (nat_eq m n) ((terms past).generation (suc j)) (begun_in past i m)) (begun_in past i m) f;
      present = cond_off (nat_eq i j) (Some n) (present_list past i) f;
      links = λ m b. other_linked (nat_eq i j) (nat_eq m n) 1 (linked past i m) f b;
    }
other_append i j n (suc k) cdb buffer past e =
    let f = turned i j e in
    record {
      writes = λ s. refl;
      begun = cond_off (nat_eq i j) (cond (nat_eq (suc k) 0) (suc (lists past j)) (lists past j)) (lists past i) f;
      slot = λ m. cond_off (nat_eq i j) (cond (nat_eq m n) (cond (nat_eq 0 (suc k)) (lowest_vacant (slots past j)) (slot_at past i m 0)) (slot_at past i m 0)) (slot_at past i m 0) f;
      ages = λ m. ap (λ (g : ℕ → ℕ → ℕ). g i m) (cond_off (nat_eq (suc k) 0) (upd2 (begun_in past) j n ((terms past).generation (suc j))) (begun_in past) (let z : nat_eq (suc k) 0 ≡ false = grind (arith, nat_tests) in z));
      present = cond_off (nat_eq i j) (Some n) (present_list past i) f;
      links = λ m b. b;
    }
