-- The last ORB of a list whose status blocks have src 1, as they tell that its next pointer was null: while no other ORB of its list has ended it is not over, whether its
-- status was taken or not. Its status was sent behind its end alone.
use Rattle.sbp_world.proofs.Words.Std.{arith, ◌≡◌, ◌∙◌, refl, sym, ap, subst, ◌<◌, ◌≤◌, ◌==◌, ◌&&◌, ◌||◌, ◌+◌, not, ℕ, zero, suc, nat_eq, nat_lt, Bool, true, false, cond, List, [], ◌∷◌, ◌++◌, Option, Some, None, nat_tests, false≢true, same_Some, none-some}
use Rattle.sbp_world.proofs.Words.Wire.{SerialsCount, Access, Moment, asked, said, Sending, terms}
use Rattle.sbp_world.proofs.Words.Initiator.{StatusBlock, StatusKind, row_of}
use Rattle.sbp_world.proofs.Words.Laws.{TakenStatus, is_over, is_over_by, is_pinned, last_got, linked, orb, passed, pinned_orb, src_in, taken_at, is_write_in, access_at, access_in, access_in_bytes, packet_in, first_of, is_due, status_due, status_packet, ends, EachMoment}
use Rattle.sbp_world.proofs.Words.World.{IsStatusWrite, IsTakenSo, TakenSo}
use Rattle.std.specs.Prelude.{max}
use Rattle.sbp_journal.specs.declared.note.Note.TheVariants as notes
use Rattle.sbp_world.proofs.Hosts.Remaining.{remains}
use Rattle.sbp_world.proofs.Hosts.SentMoments.{count_now, now, sent_below, sent_there, serials_from}
use Rattle.sbp_world.proofs.Lists.Passing.{PassLaw}
use Rattle.sbp_world.proofs.Lists.StatusBytes.{reads_as}
use Rattle.sbp_world.proofs.Lists.StatusKnown.{each_from}
use Rattle.sbp_world.proofs.Lists.StatusMoments.{below, due_is, ends_grow, packet_stays}
use Rattle.sbp_world.proofs.Lists.RomKeys.{third}

none_status : (t : TakenStatus) → None ≡ Some t → ⊥
none_status t e = cc

module _ (i n k : ℕ) where
  -- each status block that is sent behind the end of the ORB has src 1
  abbrev pub NullAt : Moment → List Moment → Type 0
  NullAt (said (notes.Sent serial generation zero to bytes)) past = is_due (status_due past) i n k to ≡ true → (slot : ℕ) (block : StatusBlock) → IsStatusWrite bytes slot block → block.src ≡ 1
  NullAt moment past = Unit {0}

  abbrev pub AreNull : List Moment → Type 0
  AreNull past = EachMoment NullAt past

  -- no status of it is to be sent
  abbrev pub NotDue : List Moment → Type 0
  NotDue past = (to : ℕ) → is_due (status_due past) i n k to ≡ false

  module _ (wild : ℕ → Bool) (own : wild i ≡ false) where
    -- ---- moments behind its end
    other_due : (j m l to : ℕ) (x y z : Bool) → nat_eq j i ≡ x → nat_eq m n ≡ y → nat_eq l k ≡ z → (j ≡ i → m ≡ n → l ≡ k → ⊥) → (x && y && z && (to == suc i)) ≡ false
    other_due j m l to false y z e f g h = refl
    other_due j m l to true false z e f g h = refl
    other_due j m l to true true false e f g h = refl
    other_due j m l to true true true e f g h =
        absurd (h (let a : j ≡ i = grind (arith, nat_tests) in a) (let a : m ≡ n = grind (arith, nat_tests) in a) (let a : l ≡ k = grind (arith, nat_tests) in a))

    null_step : (m : Moment) (past : List Moment) → PassLaw wild (m ∷ past) → suc k ≤ ends past i n → NotDue past → NullAt m past × NotDue (m ∷ past)
    null_step (said (notes.Sent serial generation zero to bytes)) past law l none = ((λ due slot block w. absurd (false≢true (sym (none to) ∙ due))), none)
    null_step (said (notes.Sent serial generation (suc from) to bytes)) past law l none = (tt, none)
    null_step (said (notes.Got serial)) past law l none = (tt, λ to. refl)
    null_step (said (notes.Ignored serial cause)) past law l none = (tt, λ to. refl)
    null_step (said (notes.TimedOut serial)) past law l none = (tt, λ to. refl)
    null_step (said (notes.Ended j (Some m) (Some number) status)) past law l none = (
      tt,
      λ to. other_due j m number to (nat_eq j i) (nat_eq m n) (nat_eq number k) refl refl refl (λ same_i same_n same_k.
          let at : number ≡ ends past j m = (law.0 (ap wild same_i ∙ own)).turn.number in
          let here : ends past j m ≡ ends past i n = ap (λ a. ends past a m) same_i ∙ ap (λ a. ends past i a) same_n in
          omega (arith, at, here, same_k, l)),
    )
    null_step (said (notes.Ended j (Some m) None status)) past law l none = (tt, none)
    null_step (said (notes.Ended j None number status)) past law l none = (tt, none)
    null_step (asked line event) past law l none = (tt, λ to. refl)
    null_step (said note) past law l none = (tt, none)

    pub null_on : (later past : List Moment) → PassLaw wild (later ++ past) → suc k ≤ ends past i n → NotDue past → AreNull past → AreNull (later ++ past) × NotDue (later ++ past)
    null_on [] past law l none h = (h, none)
    null_on (m ∷ later) past law l none h =
        let r = null_on later past law.1 l none h in
        let more = ends_grow later past i n in
        let s = null_step m (later ++ past) law (omega (arith, more, l)) r.1 in
        ((s.0, r.0), s.1)

    -- ---- before its end
    none_at : (m : Moment) (past : List Moment) → PassLaw wild past → ends past i n ≤ k → NullAt m past
    none_at (said (notes.Sent serial generation zero to bytes)) past law l =
        λ due slot block w.
        let d = due_is (status_due past) i n k to due in
        let b = (below wild i own past law).due d.one d.is d.initiator in
        let list = d.list in
        let number = d.number in
        let same = ap (λ a. ends past i a) list in
        absurd (omega (arith, b, number, same, l))
    none_at (said (notes.Sent serial generation (suc from) to bytes)) past law l = tt
    none_at (asked line event) past law l = tt
    none_at (said note) past law l = tt

    pub null_none : (past : List Moment) → PassLaw wild past → ends past i n ≤ k → AreNull past
    null_none [] law l = tt
    null_none (m ∷ past) law l =
        let more = ends_grow (m ∷ []) past i n in
        let rest : ends past i n ≤ k = omega (arith, more, l) in
        (none_at m past law.1 rest, null_none past law.1 rest)

  -- ---- the moment in which its status was sent
  pub record WasDue (past : List Moment) (serial : ℕ) : Type 0 where
    pub later : List Moment
    pub before : List Moment
    pub generation : ℕ
    pub to : ℕ
    pub bytes : List ℕ
    pub is : later ++ said (notes.Sent serial generation 0 to bytes) ∷ before ≡ past
    pub due : is_due (status_due before) i n k to ≡ true

  further : (m : Moment) (past : List Moment) (serial : ℕ) → WasDue past serial → WasDue (m ∷ past) serial
  further m past serial r = record { later = m ∷ r.later; before = r.before; generation = r.generation; to = r.to; bytes = r.bytes; is = ap (λ ms. m ∷ ms) r.is; due = r.due }

  first_due : (past : List Moment) (other generation to : ℕ) (bytes : List ℕ) (serial : ℕ) → is_due (status_due past) i n k to ≡ true → (status_packet past i n k ≡ Some serial → WasDue past serial) → (o : Option ℕ) → status_packet past i n k ≡ o → first_of o other ≡ Some serial → WasDue (said (notes.Sent other generation 0 to bytes) ∷ past) serial
  first_due past other generation to bytes serial d ih None f e =
      record { later = []; before = past; generation = generation; to = to; bytes = bytes; is = ap (λ s. said (notes.Sent s generation 0 to bytes) ∷ past) (sym (same_Some other serial e)); due = d }
  first_due past other generation to bytes serial d ih (Some one) f e = further (said (notes.Sent other generation 0 to bytes)) past serial (ih (f ∙ e))

  sent_due : (past : List Moment) (other generation to : ℕ) (bytes : List ℕ) (serial : ℕ) → (status_packet past i n k ≡ Some serial → WasDue past serial) → (x y : Bool) → is_due (status_due past) i n k to ≡ x → cond (x && y) (first_of (status_packet past i n k) other) (status_packet past i n k) ≡ Some serial → WasDue (said (notes.Sent other generation 0 to bytes) ∷ past) serial
  sent_due past other generation to bytes serial ih true true d e = first_due past other generation to bytes serial d ih (status_packet past i n k) refl e
  sent_due past other generation to bytes serial ih true false d e = further (said (notes.Sent other generation 0 to bytes)) past serial (ih e)
  sent_due past other generation to bytes serial ih false y d e = further (said (notes.Sent other generation 0 to bytes)) past serial (ih e)

  pub was_due : (past : List Moment) (serial : ℕ) → status_packet past i n k ≡ Some serial → WasDue past serial
  was_due [] serial e = absurd (none-some serial e)
  was_due (said (notes.Sent other generation zero to bytes) ∷ past) serial e =
      sent_due past other generation to bytes serial (was_due past serial) (is_due (status_due past) i n k to) (is_write_in (access_in_bytes bytes)) refl e
  was_due (said (notes.Sent other generation (suc from) to bytes) ∷ past) serial e = further (said (notes.Sent other generation (suc from) to bytes)) past serial (was_due past serial e)
  was_due (asked line event ∷ past) serial e = further (asked line event) past serial (was_due past serial e)
  was_due (said note ∷ past) serial e = further (said note) past serial (was_due past serial e)

  -- so the packet that it sent has src 1
  pub sent_null : (past : List Moment) → SerialsCount past → AreNull past → (serial : ℕ) → status_packet past i n k ≡ Some serial → (packet : Sending) → (terms past).sent serial ≡ Some packet → (slot : ℕ) (block : StatusBlock) → IsStatusWrite packet.bytes slot block → block.src ≡ 1
  sent_null past counted null serial e packet there slot block w =
      let d = was_due past serial e in
      let here = now d.before serial d.generation 0 d.to d.bytes in
      let whole : SerialsCount (d.later ++ here) = subst SerialsCount (sym d.is) counted in
      let one : SerialsCount here = serials_from d.later here whole in
      let number : serial ≡ (terms d.before).count + 1 = one.0 in
      let count : (terms here).count ≡ (terms d.before).count + 1 = count_now d.before serial d.generation 0 d.to d.bytes in
      let was : Sending = record { generation = d.generation; from = 0; to = d.to; bytes = d.bytes; injected = (terms d.before).injected serial } in
      let sent_here : (terms here).sent serial ≡ Some was = sent_there d.before serial d.generation 0 d.to d.bytes in
      let sent_past : (terms past).sent serial ≡ Some was = ap (λ ms. (terms ms).sent serial) (sym d.is) ∙ ((remains d.later here whole).sent serial (omega (arith, number, count)) ∙ sent_here) in
      let same : d.bytes ≡ packet.bytes = ap (λ (s : Sending). s.bytes) (same_Some was packet (sym sent_past ∙ there)) in
      let at : AreNull here = each_from NullAt d.later here (subst AreNull (sym d.is) null) in
      at.0 d.due slot block (subst (λ bytes. IsStatusWrite bytes slot block) (sym same) w)

-- ---- where a status that was taken comes from
pub record IsFrom (past : List Moment) (i n k : ℕ) (t : TakenStatus) : Type 0 where
  pub serial : ℕ
  pub sent : status_packet past i n k ≡ Some serial
  pub packet : Sending
  pub there : (terms past).sent serial ≡ Some packet
  pub slot : ℕ
  pub block : StatusBlock
  pub writes : IsStatusWrite packet.bytes slot block
  pub src : t.src ≡ block.src

from_on : (m : Moment) (past : List Moment) (i n k : ℕ) (t : TakenStatus) → SerialsCount (m ∷ past) → IsFrom past i n k t → IsFrom (m ∷ past) i n k t
from_on m past i n k t counted f =
    let before = serials_from (m ∷ []) past counted in
    record {
      serial = f.serial;
      sent = packet_stays i n k f.serial (m ∷ []) past f.sent;
      packet = f.packet;
      there = (remains (m ∷ []) past counted).sent f.serial (sent_below past f.serial f.packet before f.there) ∙ f.there;
      slot = f.slot;
      block = f.block;
      writes = f.writes;
      src = f.src;
    }

abbrev new_taken : List Moment → StatusKind → TakenStatus
new_taken past status = record { status = status; src = src_in (access_at (terms past) (last_got past)) }

from_here : (past : List Moment) (i n k : ℕ) (status : StatusKind) → IsTakenSo past i n k status → IsFrom past i n k (new_taken past status)
from_here past i n k status t =
    let w = t.writes in
    let found : access_at (terms past) (last_got past) ≡ Some w.access = ap (λ (o : Option Sending). access_in (packet_in o)) t.there ∙ w.is in
    record {
      serial = last_got past;
      sent = t.sent;
      packet = t.packet;
      there = t.there;
      slot = t.slot;
      block = t.block;
      writes = w;
      src = ap (λ (a : Option Access). src_in a) found ∙ sym (reads_as false w.access.payload t.block w.reads).src_is;
    }

note_from : (i : ℕ) (past : List Moment) (j m l : ℕ) (status : StatusKind) (answer : List ℕ) (n k : ℕ) (t : TakenStatus) → SerialsCount (said (notes.Taken j m l status answer) ∷ past) → (taken_at past i n k ≡ Some t → IsFrom past i n k t) → ((i == j) ≡ true → IsTakenSo past i m l status) → (x y z : Bool) → nat_eq i j ≡ x → nat_eq n m ≡ y → nat_eq k l ≡ z → cond x (cond y (cond z (Some (new_taken past status)) (taken_at past i n k)) (taken_at past i n k)) (taken_at past i n k) ≡ Some t → IsFrom (said (notes.Taken j m l status answer) ∷ past) i n k t
note_from i past j m l status answer n k t counted old so true true true e f g is =
    let same_n : m ≡ n = grind (arith, nat_tests) in
    let same_k : l ≡ k = grind (arith, nat_tests) in
    let here : IsFrom past i n k (new_taken past status) = subst (λ a. IsFrom past i a k (new_taken past status)) same_n (subst (λ a. IsFrom past i m a (new_taken past status)) same_k (from_here past i m l status (so e))) in
    from_on (said (notes.Taken j m l status answer)) past i n k t counted (subst (IsFrom past i n k) (same_Some (new_taken past status) t is) here)
note_from i past j m l status answer n k t counted old so true true false e f g is = from_on (said (notes.Taken j m l status answer)) past i n k t counted (old is)
note_from i past j m l status answer n k t counted old so true false z e f g is = from_on (said (notes.Taken j m l status answer)) past i n k t counted (old is)
note_from i past j m l status answer n k t counted old so false y z e f g is = from_on (said (notes.Taken j m l status answer)) past i n k t counted (old is)

pub taken_from : (i : ℕ) (past : List Moment) → SerialsCount past → EachMoment (TakenSo i) past → (n k : ℕ) (t : TakenStatus) → taken_at past i n k ≡ Some t → IsFrom past i n k t
taken_from i [] counted each n k t e = absurd (none_status t e)
taken_from i (said (notes.Taken j m l status answer) ∷ past) counted each n k t e =
    note_from i past j m l status answer n k t counted (taken_from i past (serials_from (said (notes.Taken j m l status answer) ∷ []) past counted) each.1 n k t) each.0 (nat_eq i j) (nat_eq n m) (nat_eq k l) refl refl refl e
taken_from i (m ∷ past) counted each n k t e = from_on m past i n k t counted (taken_from i past (serials_from (m ∷ []) past counted) each.1 n k t e)

-- ---- no status is taken beyond the ends
module _ (wild : ℕ → Bool) (i : ℕ) (own : wild i ≡ false) (n : ℕ) where
  more_passed : (past : List Moment) (j m l : ℕ) → passed past i n ≤ ends past i n → ((i == j) ≡ true → l < ends past i m) → (x y : Bool) → nat_eq i j ≡ x → nat_eq n m ≡ y → cond x (cond y (max (passed past j m) (suc l)) (passed past i n)) (passed past i n) ≤ ends past i n
  more_passed past j m l low so true true e f =
      let same_i : i ≡ j = grind (arith, nat_tests) in
      let same_n : n ≡ m = grind (arith, nat_tests) in
      let here : passed past j m ≡ passed past i n = ap (λ a. passed past a m) (sym same_i) ∙ ap (λ a. passed past i a) (sym same_n) in
      let inside = so e in
      let at : ends past i m ≡ ends past i n = ap (λ a. ends past i a) (sym same_n) in
      omega (arith, low, here, inside, at)
  more_passed past j m l low so true false e f = low
  more_passed past j m l low so false y e f = low

  pub passed_low : (past : List Moment) → PassLaw wild past → EachMoment (TakenSo i) past → passed past i n ≤ ends past i n
  passed_low [] law each = omega arith
  passed_low (said (notes.Taken j m l status answer) ∷ past) law each =
      more_passed past j m l (passed_low past law.1 each.1) (λ e. let t = each.0 e in (below wild i own past law.1).packet m l (last_got past) t.sent) (nat_eq i j) (nat_eq n m) refl refl
  passed_low (said note ∷ past) law each = let b = ends_grow (said note ∷ []) past i n in let c = passed_low past law.1 each.1 in omega (arith, b, c)
  passed_low (asked line event ∷ past) law each = passed_low past law.1 each.1

-- ---- it is not over

module _ (wild : ℕ → Bool) (i : ℕ) (own : wild i ≡ false) (n k : ℕ) (all : List Moment) (passes : PassLaw wild all) (counted : SerialsCount all) (each : EachMoment (TakenSo i) all) (null : AreNull i n k all) (ended : ends all i n ≡ suc k) where
  module _ (later before : List Moment) (is : later ++ before ≡ all) where
    law : PassLaw wild before
    law = each_from _ later before (subst (PassLaw wild) (sym is) passes)

    takes : EachMoment (TakenSo i) before
    takes = each_from _ later before (subst (EachMoment (TakenSo i)) (sym is) each)

    serials : SerialsCount before
    serials = serials_from later before (subst SerialsCount (sym is) counted)

    null_before : AreNull i n k before
    null_before = each_from _ later before (subst (AreNull i n k) (sym is) null)

    low : passed before i n ≤ suc k
    low =
        let a = passed_low wild i own n before law takes in
        let b = ends_grow later before i n in
        let c = ap (λ ms. ends ms i n) is in
        omega (arith, a, b, c, ended)

    src_or : (x y : Bool) (src : ℕ) → (src == 0) ≡ x → nat_lt (suc k) (passed before i n) ≡ y → src ≡ 1 → (x || y) ≡ true → ⊥
    src_or true y src e f g h = (let z : src ≡ 0 = grind (arith, nat_tests) in omega (arith, z, g))
    src_or false true src e f g h = (let z : suc k < passed before i n = grind (arith, nat_tests) in let l = low in omega (arith, z, l))
    src_or false false src e f g h = false≢true h

    by_taken : (o : Option TakenStatus) → taken_at before i n k ≡ o → is_over_by o (linked before i n) (passed before i n) k (is_pinned (pinned_orb before i) n k) ≡ true → ⊥
    by_taken None e h = false≢true h
    by_taken (Some t) e h =
        let f = taken_from i before serials takes n k t e in
        let one : t.src ≡ 1 = f.src ∙ sent_null i n k before serials null_before f.serial f.sent f.packet f.there f.slot f.block f.writes in
        src_or (t.src == 0) (nat_lt (suc k) (passed before i n)) t.src refl refl one
        (third ((row_of t.status).resp == 0) (nat_lt (suc k) (linked before i n)) ((t.src == 0) || nat_lt (suc k) (passed before i n)) (not (is_pinned (pinned_orb before i) n k)) h)

    pub never_over : is_over before i (orb n k) ≡ true → ⊥
    never_over h = by_taken (taken_at before i n k) refl h
