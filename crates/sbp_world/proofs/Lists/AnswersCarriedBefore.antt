-- The histories before a history: what is known of it is known of them; an ORB that its slot has was prepared there; and a write of its data that was sent by then is one of theirs.
use Rattle.sbp_world.proofs.Words.Std.{arith, ◌≡◌, ◌∙◌, refl, sym, ap, subst, ◌<◌, ◌≤◌, ◌+◌, ◌==◌, ◌&&◌, ℕ, suc, nat_eq, Bool, true, false, cond, List, [], ◌∷◌, ◌++◌, Option, Some, None, nat_tests, false≢true}
use Rattle.sbp_world.proofs.Words.Wire.{SerialsCount, Moment, said, Sending, terms}
use Rattle.sbp_world.proofs.Words.Target.{Disk, Sense}
use Rattle.sbp_world.proofs.Words.Initiator.{StatusKind}
use Rattle.sbp_world.proofs.Words.Laws.{is_run_of, was_got, lowest_vacant, orb, prepared_in, slot_at, slots, is_serial, appends, ran_status, runs, status_of}
use Rattle.sbp_world.proofs.Words.World.{WasGot, IsDataOf}
use Rattle.sbp_journal.specs.declared.note.Note.TheVariants as notes
use Rattle.sbp_world.proofs.Hosts.Deliveries.{GotsIn, find_got}
use Rattle.sbp_world.proofs.Hosts.Remaining.{remains}
use Rattle.sbp_world.proofs.Hosts.SentMoments.{sent_below, serials_from}
use Rattle.sbp_world.proofs.Lists.DataSlots.{appends_grow, prepared_below, same_orb, slot_lasts}
use Rattle.sbp_world.proofs.Lists.Passing.{PassAt, PassLaw, RunsNext}
use Rattle.sbp_world.proofs.Lists.SlotShut.{AllApart}
use Rattle.sbp_world.proofs.Lists.StatusKnown.{IsKnown, known_less, all_three}
use Rattle.sbp_world.proofs.Lists.WasReads.{got_now, got_later}
use Rattle.sbp_world.proofs.Common.{moments_split, serial_is}

pub tail_is : (m x : Moment) (a b : List Moment) → m ∷ a ≡ x ∷ b → a ≡ b
tail_is m x a b e = cc

pub known_from : (wild : ℕ → Bool) (i : ℕ) (later before : List Moment) → IsKnown wild (later ++ before) i → IsKnown wild before i
known_from wild i [] before k = k
known_from wild i (m ∷ later) before k = known_from wild i later before (known_less wild m (later ++ before) i k)

pub apart_from : (i : ℕ) (later before : List Moment) → AllApart (later ++ before) i → AllApart before i
apart_from i [] before a = a
apart_from i (said (notes.Ignored serial cause) ∷ later) before a = apart_from i later before a.1
apart_from i (m ∷ later) before a = apart_from i later before a

-- ---- packets that were got
-- each was sent
abbrev pub WasSentThen : ℕ → List Moment → Type 0
WasSentThen serial past = (packet : Sending) × ((terms past).sent serial ≡ Some packet)

pub got_moment : (past : List Moment) (serial : ℕ) → was_got past serial ≡ true → WasGot past serial
got_moment [] serial e = absurd (false≢true e)
got_moment (said (notes.Got other) ∷ past) serial e = by (λ f. got_moment past serial f) (other == serial) refl e
  where
    by : (was_got past serial ≡ true → WasGot past serial) → (b : Bool) → (other == serial) ≡ b → cond b true (was_got past serial) ≡ true → WasGot (said (notes.Got other) ∷ past) serial
    by again true f g = record { later = []; before = past; is = ap (λ n. said (notes.Got n) ∷ past) (let same : serial ≡ other = grind (arith, nat_tests, f) in same) }
    by again false f g = let w = again g in record { later = said (notes.Got other) ∷ w.later; before = w.before; is = ap (λ ms. said (notes.Got other) ∷ ms) w.is }
got_moment (m ∷ past) serial e = let w = got_moment past serial e in record { later = m ∷ w.later; before = w.before; is = ap (λ ms. m ∷ ms) w.is }

pub got_then : (past : List Moment) (serial : ℕ) → WasGot past serial → was_got past serial ≡ true
got_then past serial w = subst (λ ms. was_got ms serial ≡ true) w.is (got_later w.later (said (notes.Got serial) ∷ w.before) serial (got_now w.before serial))

pub gots_from : (G : ℕ → List Moment → Type 0) (later before : List Moment) → GotsIn G (later ++ before) → GotsIn G before
gots_from G [] before h = h
gots_from G (said (notes.Got other) ∷ later) before h = gots_from G later before h.1
gots_from G (m ∷ later) before h = gots_from G later before h

pub got_low : (past : List Moment) (serial : ℕ) → SerialsCount past → GotsIn WasSentThen past → was_got past serial ≡ true → serial ≤ (terms past).count
got_low past serial c gots e =
    let w = got_moment past serial e in
    let here = said (notes.Got serial) ∷ w.before in
    let front = w.later ++ said (notes.Got serial) ∷ [] in
    let whole : front ++ w.before ≡ past = sym (moments_split w.later (said (notes.Got serial) ∷ []) w.before) ∙ w.is in
    let counted : SerialsCount (front ++ w.before) = subst SerialsCount (sym whole) c in
    let sent : WasSentThen serial w.before = find_got WasSentThen w.later w.before serial (subst (GotsIn WasSentThen) (sym w.is) gots) in
    let low = sent_below w.before serial sent.0 (serials_from front w.before counted) sent.1 in
    let more = (remains front w.before counted).count in
    let same : (terms (front ++ w.before)).count ≡ (terms past).count = ap (λ ms. (terms ms).count) whole in
    omega (arith, low, more, same)

-- ---- an ORB whose data were written
-- the target wrote data of it in the generation that its initiator is in
pub record WereDataWritten (start : List Disk) (past : List Moment) (i n k : ℕ) : Type 0 where
  pub serial : ℕ
  pub slot : ℕ
  pub packet : Sending
  pub of : IsDataOf start past i n k serial packet slot
  pub current : packet.generation ≡ (terms past).generation (suc i)

-- ---- an ORB that ran
-- its run was told
abbrev pub has_run : List Moment → (i n k : ℕ) → Bool
has_run [] i n k = false
has_run (said (notes.Ran j list number unit cdb bytes check) ∷ past) i n k = cond (is_run_of i n k j list number) true (has_run past i n k)
has_run (_ ∷ past) i n k = has_run past i n k

pub run_told : (past : List Moment) (i n k : ℕ) → 0 < runs past i n k → has_run past i n k ≡ true
run_told [] i n k some = absurd (omega (arith, some))
run_told (said (notes.Ran j (Some m) (Some l) unit cdb bytes check) ∷ past) i n k some = by (nat_eq i j) (nat_eq n m) (nat_eq k l) refl refl refl (λ more. run_told past i n k more) some
  where
    kept : (b : Bool) → has_run past i n k ≡ true → cond b true (has_run past i n k) ≡ true
    kept true e = refl
    kept false e = e

    by : (x y z : Bool) → nat_eq i j ≡ x → nat_eq n m ≡ y → nat_eq k l ≡ z → (0 < runs past i n k → has_run past i n k ≡ true) → 0 < cond x (cond y (cond z (suc (runs past j m l)) (runs past i n k)) (runs past i n k)) (runs past i n k) → cond ((i == j) && (m == n) && (l == k)) true (has_run past i n k) ≡ true
    by true true true e f g again more =
        let a : (i == j) ≡ true = grind (arith, nat_tests, e) in
        let b : (m == n) ≡ true = grind (arith, nat_tests, f) in
        let c : (l == k) ≡ true = grind (arith, nat_tests, g) in
        ap (λ x. cond (x && (m == n) && (l == k)) true (has_run past i n k)) a ∙ (ap (λ x. cond (x && (l == k)) true (has_run past i n k)) b ∙ ap (λ x. cond x true (has_run past i n k)) c)
    by true true false e f g again more = kept ((i == j) && (m == n) && (l == k)) (again more)
    by true false z e f g again more = kept ((i == j) && (m == n) && (l == k)) (again more)
    by false y z e f g again more = kept ((i == j) && (m == n) && (l == k)) (again more)
run_told (said (notes.Ran j list number unit cdb bytes check) ∷ past) i n k some = by (is_run_of i n k j list number) (run_told past i n k some)
  where
    by : (b : Bool) → has_run past i n k ≡ true → cond b true (has_run past i n k) ≡ true
    by true e = refl
    by false e = e
run_told (m ∷ past) i n k some = run_told past i n k some

-- and so it did where it ran with a status
pub ran_told : (past : List Moment) (i n k : ℕ) (status : StatusKind) → ran_status past i n k ≡ Some status → has_run past i n k ≡ true
ran_told [] i n k status e = absurd (let z : None ≡ Some status = e in cc)
ran_told (said (notes.Ran j (Some m) (Some l) unit cdb bytes check) ∷ past) i n k status e = by (nat_eq i j) (nat_eq n m) (nat_eq k l) refl refl refl (λ f. ran_told past i n k status f) e
  where
    kept : (b : Bool) → has_run past i n k ≡ true → cond b true (has_run past i n k) ≡ true
    kept true e = refl
    kept false e = e

    by : (x y z : Bool) → nat_eq i j ≡ x → nat_eq n m ≡ y → nat_eq k l ≡ z → (ran_status past i n k ≡ Some status → has_run past i n k ≡ true) → cond x (cond y (cond z (Some (status_of check)) (ran_status past i n k)) (ran_status past i n k)) (ran_status past i n k) ≡ Some status → cond ((i == j) && (m == n) && (l == k)) true (has_run past i n k) ≡ true
    by true true true e f g again more =
        let a : (i == j) ≡ true = grind (arith, nat_tests, e) in
        let b : (m == n) ≡ true = grind (arith, nat_tests, f) in
        let c : (l == k) ≡ true = grind (arith, nat_tests, g) in
        ap (λ x. cond (x && (m == n) && (l == k)) true (has_run past i n k)) a ∙ (ap (λ x. cond (x && (l == k)) true (has_run past i n k)) b ∙ ap (λ x. cond x true (has_run past i n k)) c)
    by true true false e f g again more = kept ((i == j) && (m == n) && (l == k)) (again more)
    by true false z e f g again more = kept ((i == j) && (m == n) && (l == k)) (again more)
    by false y z e f g again more = kept ((i == j) && (m == n) && (l == k)) (again more)
ran_told (said (notes.Ran j list number unit cdb bytes check) ∷ past) i n k status e = by (is_run_of i n k j list number) (ran_told past i n k status e)
  where
    by : (b : Bool) → has_run past i n k ≡ true → cond b true (has_run past i n k) ≡ true
    by true e = refl
    by false e = e
ran_told (m ∷ past) i n k status e = ran_told past i n k status e

run_still : (m : Moment) (past : List Moment) (i n k : ℕ) → has_run past i n k ≡ true → has_run (m ∷ past) i n k ≡ true
run_still (said (notes.Ran j list number unit cdb bytes check)) past i n k e = by (is_run_of i n k j list number)
  where
    by : (b : Bool) → cond b true (has_run past i n k) ≡ true
    by true = refl
    by false = e
run_still m past i n k e = e

pub run_on : (later past : List Moment) (i n k : ℕ) → has_run past i n k ≡ true → has_run (later ++ past) i n k ≡ true
run_on [] past i n k e = e
run_on (m ∷ later) past i n k e = run_still m (later ++ past) i n k (run_on later past i n k e)

-- the note of its run
pub record IsItsRun (i n k j : ℕ) (list number : Option ℕ) : Type 0 where
  pub of : j ≡ i
  pub list_is : list ≡ Some n
  pub number_is : number ≡ Some k

pub its_run : (i n k j : ℕ) (list number : Option ℕ) → is_run_of i n k j list number ≡ true → IsItsRun i n k j list number
its_run i n k j list number e =
    let x = all_three (i == j) (is_serial list n) (is_serial number k) e in
    let same = x.0 in
    record { of = (let z : j ≡ i = grind (arith, nat_tests, same) in z); list_is = serial_is list n x.1; number_is = serial_is number k x.2 }

module _ (wild : ℕ → Bool) (i : ℕ) (own : wild i ≡ false) (n k : ℕ) where
  -- it ran for the first time, and was appended
  pub next_run : (past : List Moment) (j : ℕ) (list number : Option ℕ) (unit : ℕ) (cdb bytes : List ℕ) (check : Option Sense) → PassAt wild (said (notes.Ran j list number unit cdb bytes check)) past → is_run_of i n k j list number ≡ true → RunsNext past i n k cdb bytes
  next_run past j list number unit cdb bytes check law e =
      let r = its_run i n k j list number e in
      let one : PassAt wild (said (notes.Ran i list number unit cdb bytes check)) past = subst (λ x. PassAt wild (said (notes.Ran x list number unit cdb bytes check)) past) r.of law in
      let two : PassAt wild (said (notes.Ran i (Some n) number unit cdb bytes check)) past = subst (λ x. PassAt wild (said (notes.Ran i x number unit cdb bytes check)) past) r.list_is one in
      let three : PassAt wild (said (notes.Ran i (Some n) (Some k) unit cdb bytes check)) past = subst (λ x. PassAt wild (said (notes.Ran i (Some n) x unit cdb bytes check)) past) r.number_is two in
      three own

  pub run_appended : (past : List Moment) → PassLaw wild past → has_run past i n k ≡ true → k < appends past i n
  run_appended [] law e = absurd (false≢true e)
  run_appended (said (notes.Ran j list number unit cdb bytes check) ∷ past) law e = by (is_run_of i n k j list number) refl (λ f. run_appended past law.1 f) e
    where
      by : (b : Bool) → is_run_of i n k j list number ≡ b → (has_run past i n k ≡ true → k < appends past i n) → cond b true (has_run past i n k) ≡ true → k < appends past i n
      by true f again g = (next_run past j list number unit cdb bytes check law.0 f).next.turn.appended
      by false f again g = again g
  run_appended (said (notes.Append j m l cdb buffer) ∷ past) law e =
      let more = appends_grow i n k (said (notes.Append j m l cdb buffer) ∷ []) past in let b = run_appended past law.1 e in omega (arith, more, b)
  run_appended (_ ∷ past) law e = run_appended past law.1 e

-- ---- where an ORB stands that its slot has
module _ (i n k : ℕ) (wild : ℕ → Bool) where
  pub stands_at : (past : List Moment) → PassLaw wild past → (slot : ℕ) → prepared_in past i slot ≡ Some (orb n k) → slot_at past i n k ≡ slot
  stands_at [] law slot e = absurd (let z : None ≡ Some (orb n k) = e in cc)
  stands_at (said (notes.Append j m l cdb buffer) ∷ past) law slot e = by (λ f. stands_at past law.1 slot f) (nat_eq i j) (nat_eq slot (lowest_vacant (slots past j))) refl refl e
    where
      old : (prepared_in past i slot ≡ Some (orb n k) → slot_at past i n k ≡ slot) → prepared_in past i slot ≡ Some (orb n k) → slot_at (said (notes.Append j m l cdb buffer) ∷ past) i n k ≡ slot
      old again f = slot_lasts i n k wild (said (notes.Append j m l cdb buffer) ∷ []) past law (prepared_below i n k wild past law.1 slot f) ∙ again f

      new : nat_eq i j ≡ true → slot ≡ lowest_vacant (slots past j) → (m ≡ n) × (l ≡ k) → cond (nat_eq i j) (cond (nat_eq n m) (cond (nat_eq k l) (lowest_vacant (slots past j)) (slot_at past i n k)) (slot_at past i n k)) (slot_at past i n k) ≡ slot
      new f g s =
          let same_n = s.0 in
          let same_k = s.1 in
          let b : nat_eq n m ≡ true = grind (arith, nat_tests, same_n) in
          let c : nat_eq k l ≡ true = grind (arith, nat_tests, same_k) in
          ap (λ x. cond x (cond (nat_eq n m) (cond (nat_eq k l) (lowest_vacant (slots past j)) (slot_at past i n k)) (slot_at past i n k)) (slot_at past i n k)) f
          ∙ (ap (λ x. cond x (cond (nat_eq k l) (lowest_vacant (slots past j)) (slot_at past i n k)) (slot_at past i n k)) b
          ∙ (ap (λ x. cond x (lowest_vacant (slots past j)) (slot_at past i n k)) c ∙ sym g))

      by : (prepared_in past i slot ≡ Some (orb n k) → slot_at past i n k ≡ slot) → (x y : Bool) → nat_eq i j ≡ x → nat_eq slot (lowest_vacant (slots past j)) ≡ y → cond x (cond y (Some (orb m l)) (prepared_in past i slot)) (prepared_in past i slot) ≡ Some (orb n k) → slot_at (said (notes.Append j m l cdb buffer) ∷ past) i n k ≡ slot
      by again true true f g h = new f (let z : slot ≡ lowest_vacant (slots past j) = grind (arith, nat_tests, g) in z) (same_orb m l n k h)
      by again true false f g h = old again h
      by again false y f g h = old again h
  stands_at (_ ∷ past) law slot e = stands_at past law.1 slot e

-- ---- a write of data, in a history before
cut : (later B front : List Moment) (serial generation from to : ℕ) (bytes : List ℕ) (before : List Moment) → front ++ said (notes.Sent serial generation from to bytes) ∷ before ≡ later ++ B → SerialsCount (later ++ B) → serial ≤ (terms B).count → (mid : List Moment) × (mid ++ said (notes.Sent serial generation from to bytes) ∷ before ≡ B)
cut [] B front serial generation from to bytes before e c low = (front, e)
cut (m ∷ later) B [] serial generation from to bytes before e c low =
    let leaves = said (notes.Sent serial generation from to bytes) in
    let same : before ≡ later ++ B = tail_is leaves m before (later ++ B) e in
    let counted : SerialsCount (leaves ∷ before) = subst SerialsCount (sym e) c in
    let number : serial ≡ (terms before).count + 1 = counted.0 in
    let count : (terms before).count ≡ (terms (later ++ B)).count = ap (λ ms. (terms ms).count) same in
    let more = (remains later B (serials_from (m ∷ []) (later ++ B) c)).count in
    absurd (omega (arith, number, count, more, low))
cut (m ∷ later) B (x ∷ front) serial generation from to bytes before e c low =
    cut later B front serial generation from to bytes before (tail_is x m (front ++ said (notes.Sent serial generation from to bytes) ∷ before) (later ++ B) e) (serials_from (m ∷ []) (later ++ B) c) low

module _ (i : ℕ) (all later B : List Moment) (at : later ++ B ≡ all) (c : SerialsCount all) (n k serial slot : ℕ) (packet : Sending) where
  pub counted : SerialsCount (later ++ B)
  counted = subst SerialsCount (sym at) c

  module _ {start : List Disk} (d : IsDataOf start all i n k serial packet slot) (low : serial ≤ (terms B).count) where
    pub found : (mid : List Moment) × (mid ++ said (notes.Sent serial packet.generation packet.from packet.to packet.bytes) ∷ d.before ≡ B)
    found = cut later B d.later serial packet.generation packet.from packet.to packet.bytes d.before (d.is ∙ sym at) counted low

    abbrev pub into : IsDataOf start B i n k serial packet slot
    into = record {
      sent = record { is = sym ((remains later B counted).sent serial low) ∙ (ap (λ ms. (terms ms).sent serial) at ∙ d.sent.is); from_target = d.sent.from_target; to_host = d.sent.to_host };
      writes = d.writes;
      later = found.0;
      before = d.before;
      is = found.1;
      was = d.was;
      list_is = d.list_is;
      number_is = d.number_is;
    }

  module _ {start : List Disk} (d : IsDataOf start B i n k serial packet slot) where
    abbrev pub out : IsDataOf start all i n k serial packet slot
    out = record {
      sent = record { is = ap (λ ms. (terms ms).sent serial) (sym at) ∙ ((remains later B counted).sent serial (sent_below B serial packet (serials_from later B counted) d.sent.is) ∙ d.sent.is); from_target = d.sent.from_target; to_host = d.sent.to_host };
      writes = d.writes;
      later = later ++ d.later;
      before = d.before;
      is = sym (moments_split later d.later (said (notes.Sent serial packet.generation packet.from packet.to packet.bytes) ∷ d.before)) ∙ (ap (λ ms. later ++ ms) d.is ∙ at);
      was = d.was;
      list_is = d.list_is;
      number_is = d.number_is;
    }
