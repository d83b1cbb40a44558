-- In a history each write of the data of an ORB but the latest one was closed and served, and behind an end, but as failed, the latest one was, too: a write follows as the one before it is answered, and so
-- does such an end; and the write that is answered is of this ORB, as its slot has no other one while it is under way.
use Rattle.sbp_world.proofs.Words.Std.{arith, ◌≡◌, ◌∙◌, refl, sym, ap, subst, ◌<◌, ◌≤◌, ◌+◌, ◌==◌, ◌&&◌, not, ℕ, suc, nat_eq, nat_lt, Bool, true, false, cond, List, [], ◌∷◌, ◌++◌, Option, Some, None, nat_tests, false≢true, same_Some}
use Rattle.sbp_world.proofs.Words.Wire.{SerialsCount, Moment, said, Sending, terms}
use Rattle.sbp_world.proofs.Words.Target.{Disk}
use Rattle.sbp_world.proofs.Words.Initiator.{StatusKind, row_of}
use Rattle.sbp_world.proofs.Words.Laws.{Orb, TakenStatus, is_over, is_over_by, taken_at, ended_status, ends, runs, EachMoment}
use Rattle.sbp_world.proofs.Words.World.{IsDataOf, WasClosed, AreDry, DataSo, IsDataWrite, IsDry, WasPiece, IsTakenSo, IsToHost, TakenSo}
use Rattle.orb_layout.specs.declared.status.StatusKind.TheVariants as kinds
use Rattle.sbp_journal.specs.declared.note.Note.TheVariants as notes
use Rattle.sbp_world.proofs.Hosts.Remaining.{remains}
use Rattle.sbp_world.proofs.Hosts.SentMoments.{count_now, sent_below, sent_moment, serials_from, WasSent}
use Rattle.sbp_world.specs.Lists.Statuses.{IsTold}
use Rattle.sbp_world.proofs.Lists.DataTurns.{ran_on}
use Rattle.sbp_world.proofs.Lists.Passing.{PassLaw}
use Rattle.sbp_world.proofs.Lists.Rises.{Rises}
use Rattle.sbp_world.proofs.Lists.StatusKnown.{Where, each_from, generation_grows, is_before, is_here, sent_where}
use Rattle.sbp_world.proofs.Lists.StatusMoments.{below, ended_stays, ends_grow}
use Rattle.sbp_world.proofs.Common.{moments_split}
use Rattle.sbp_world.proofs.Lists.AnswersCarriedBefore.{tail_is}

-- ---- where packets stand
-- what was sent behind the last moments: these are before it
module _ (serial generation from to : ℕ) (bytes : List ℕ) (before : List Moment) where
  abbrev E : List Moment
  E = said (notes.Sent serial generation from to bytes) ∷ before

  too_late : (front all : List Moment) → front ++ E ≡ all → SerialsCount all → (terms all).count < serial → ⊥
  too_late front all e c high =
      let d : SerialsCount (front ++ E) = subst SerialsCount (sym e) c in
      let number : serial ≡ (terms before).count + 1 = (serials_from front E d).0 in
      let count : (terms E).count ≡ (terms before).count + 1 = count_now before serial generation from to bytes in
      let more = (remains front E d).count in
      let same : (terms (front ++ E)).count ≡ (terms all).count = ap (λ ms. (terms ms).count) e in
      omega (arith, high, number, count, more, same)

  pub inside : (later last front : List Moment) → front ++ E ≡ later ++ last → SerialsCount (later ++ last) → (terms last).count < serial → (mid : List Moment) × (mid ++ last ≡ before)
  inside [] last front e c high = absurd (too_late front last e c high)
  inside (m ∷ later) last [] e c high = (later, sym (tail_is (said (notes.Sent serial generation from to bytes)) m before (later ++ last) e))
  inside (m ∷ later) last (x ∷ front) e c high = inside later last front (tail_is x m (front ++ E) (later ++ last) e) (serials_from (m ∷ []) (later ++ last) c) high

module _ {start : List Disk} (i : ℕ) where
  -- what was sent before some moments
  pub shrink : (later B : List Moment) (n k serial slot : ℕ) (packet : Sending) → SerialsCount (later ++ B) → serial ≤ (terms B).count → IsDataOf start (later ++ B) i n k serial packet slot → IsDataOf start B i n k serial packet slot
  shrink [] B n k serial slot packet c low d = d
  shrink (m ∷ later) B n k serial slot packet c low d = by d.later d.is (λ x. shrink later B n k serial slot packet (serials_from (m ∷ []) (later ++ B) c) low x)
    where
      grown : (terms B).count ≤ (terms (later ++ B)).count
      grown = (remains later B (serials_from (m ∷ []) (later ++ B) c)).count

      by : (front : List Moment) → front ++ said (notes.Sent serial packet.generation packet.from packet.to packet.bytes) ∷ d.before ≡ m ∷ (later ++ B) → (IsDataOf start (later ++ B) i n k serial packet slot → IsDataOf start B i n k serial packet slot) → IsDataOf start B i n k serial packet slot
      by [] e again =
          let leaves = said (notes.Sent serial packet.generation packet.from packet.to packet.bytes) in
          let same : d.before ≡ later ++ B = tail_is leaves m d.before (later ++ B) e in
          let counted : SerialsCount (leaves ∷ d.before) = subst SerialsCount (sym e) c in
          let number : serial ≡ (terms d.before).count + 1 = counted.0 in
          let count : (terms d.before).count ≡ (terms (later ++ B)).count = ap (λ ms. (terms ms).count) same in
          let more = grown in
          absurd (omega (arith, number, count, more, low))
      by (x ∷ front) e again =
          let more = grown in
          again (record {
            sent = record { is = sym ((remains (m ∷ []) (later ++ B) c).sent serial (omega (arith, more, low))) ∙ d.sent.is; from_target = d.sent.from_target; to_host = d.sent.to_host };
            writes = d.writes;
            later = front;
            before = d.before;
            is = tail_is x m (front ++ said (notes.Sent serial packet.generation packet.from packet.to packet.bytes) ∷ d.before) (later ++ B) e;
            was = d.was;
            list_is = d.list_is;
            number_is = d.number_is;
          })

module _ (i : ℕ) where
  -- none was sent in moments without data
  pub dry_before : (later B : List Moment) → AreDry i later → SerialsCount (later ++ B) → (serial slot : ℕ) (packet : Sending) → IsToHost (later ++ B) i serial packet → IsDataWrite packet.bytes slot → serial ≤ (terms B).count
  dry_before [] B dry c serial slot packet t x = sent_below B serial packet c t.is
  dry_before (m ∷ later) B dry c serial slot packet t x = by (sent_where m (later ++ B) c serial packet t.is) (λ y. dry_before later B dry.1 (serials_from (m ∷ []) (later ++ B) c) serial slot packet y x)
    where
      by : Where m (later ++ B) serial packet → (IsToHost (later ++ B) i serial packet → serial ≤ (terms B).count) → serial ≤ (terms B).count
      by (is_here e) again = absurd ((subst (λ y. IsDry i y) e dry.0) t.from_target t.to_host slot x)
      by (is_before e) again = again (record { is = e; from_target = t.from_target; to_host = t.to_host })

module _ (start : List Disk) (i : ℕ) where
  -- each write of data is of an ORB
  pub record IsOwned (ms : List Moment) (serial slot : ℕ) (packet : Sending) : Type 0 where
    pub list : ℕ
    pub number : ℕ
    pub of : IsDataOf start ms i list number serial packet slot

  pub owner : (ms : List Moment) → EachMoment (DataSo start i) ms → (serial slot : ℕ) (packet : Sending) → IsToHost ms i serial packet → IsDataWrite packet.bytes slot → IsOwned ms serial slot packet
  owner ms each serial slot packet t x =
      let s : WasSent ms serial packet = sent_moment ms serial packet t.is in
      let leaves = said (notes.Sent serial packet.generation packet.from packet.to packet.bytes) in
      let so : DataSo start i leaves s.before = (each_from (DataSo start i) s.later (leaves ∷ s.before) (subst (EachMoment (DataSo start i)) (sym s.is) each)).0 in
      let was : WasPiece start s.before i packet.generation slot x.access = so t.from_target t.to_host slot x in
      record { list = was.list; number = ends was.before i was.list; of = record { sent = t; writes = x; later = s.later; before = s.before; is = s.is; was = was; list_is = refl; number_is = refl } }

module _ {start : List Disk} (i : ℕ) where
  -- what is known of one
  module _ (ms : List Moment) (n k serial slot : ℕ) (packet : Sending) (d : IsDataOf start ms i n k serial packet slot) where
    abbrev pub leaving : Moment
    leaving = said (notes.Sent serial packet.generation packet.from packet.to packet.bytes)

    abbrev pub turn : List Moment
    turn = d.was.before

    abbrev pub mid : List Moment
    mid = d.later ++ leaving ∷ d.was.later

    pub whole : mid ++ turn ≡ ms
    whole = sym (moments_split d.later (leaving ∷ d.was.later) turn) ∙ (ap (λ h. d.later ++ leaving ∷ h) d.was.is ∙ d.is)

    pub moved : (P : ℕ → ℕ → Type 0) → P d.was.list (ends turn i d.was.list) → P n k
    moved P x = subst (λ a. P a k) d.list_is (subst (λ b. P d.was.list b) d.number_is x)

    pub ran_so : 0 < runs ms i n k
    ran_so =
        subst (λ h. 0 < runs h i n k) (sym (moments_split d.later (leaving ∷ []) d.before) ∙ d.is)
        (ran_on (d.later ++ leaving ∷ []) d.before i n k (moved (λ a b. 0 < runs d.before i a b) d.was.ran))

    module _ (rises : Rises ms) where
      up : Rises (mid ++ turn)
      up = subst Rises (sym whole) rises

      pub grows : (node : ℕ) → (terms turn).generation node ≤ (terms ms).generation node
      grows node = subst (λ h. (terms turn).generation node ≤ (terms h).generation node) whole (generation_grows mid turn node up)

      pub gen_low : packet.generation ≤ (terms ms).generation 0
      gen_low = let a = d.was.own in let b = grows 0 in omega (arith, a, b)

      pub seen_low : packet.generation ≤ (terms ms).generation (suc i)
      seen_low = let a = d.was.seen in let b = grows (suc i) in omega (arith, a, b)

    -- another one that was sent before it, was so before its turn
    pub into_turn : SerialsCount ms → (m l first place : ℕ) (early : Sending) → IsDataOf start ms i m l first early place → first < serial → IsDataOf start turn i m l first early place
    into_turn c m l first place early e less =
        let there : SerialsCount (d.later ++ leaving ∷ d.before) = subst SerialsCount (sym d.is) c in
        let number : serial ≡ (terms d.before).count + 1 = (serials_from d.later (leaving ∷ d.before) there).0 in
        let front = d.later ++ leaving ∷ [] in
        let at : front ++ d.before ≡ ms = sym (moments_split d.later (leaving ∷ []) d.before) ∙ d.is in
        let counted : SerialsCount (front ++ d.before) = subst SerialsCount (sym at) c in
        let one : IsDataOf start d.before i m l first early place = shrink i front d.before m l first place early counted (omega (arith, number, less)) (subst (λ h. IsDataOf start h i m l first early place) (sym at) e) in
        let inner : SerialsCount (d.was.later ++ turn) = subst SerialsCount (sym d.was.is) (serials_from front d.before counted) in
        let two : IsDataOf start (d.was.later ++ turn) i m l first early place = subst (λ h. IsDataOf start h i m l first early place) (sym d.was.is) one in
        shrink i d.was.later turn m l first place early inner (dry_before i d.was.later turn d.was.alone inner first place early two.sent two.writes) two

-- ---- a status that was taken
pub closed_on : (later before : List Moment) (serial : ℕ) → WasClosed before serial → WasClosed (later ++ before) serial
closed_on later before serial w = record {
  later = later ++ w.later;
  before = w.before;
  got = w.got;
  is = sym (moments_split later w.later (said (notes.Got w.got) ∷ w.before)) ∙ ap (λ h. later ++ h) w.is;
  closed = w.closed;
  served = w.served;
}

module _ (i : ℕ) where
  pub record WasTaken (past : List Moment) (n k : ℕ) (status : StatusKind) : Type 0 where
    pub later : List Moment
    pub before : List Moment
    pub is : later ++ before ≡ past
    pub so : IsTakenSo before i n k status

  further : (m : Moment) (past : List Moment) (n k : ℕ) (status : StatusKind) → WasTaken past n k status → WasTaken (m ∷ past) n k status
  further m past n k status w = record { later = m ∷ w.later; before = w.before; is = ap (λ h. m ∷ h) w.is; so = w.so }

  pub taken_then : (past : List Moment) → EachMoment (TakenSo i) past → (n k : ℕ) (t : TakenStatus) → taken_at past i n k ≡ Some t → WasTaken past n k t.status
  taken_then [] each n k t e = absurd (let z : None ≡ Some t = e in cc)
  taken_then (said (notes.Taken j m l status answer) ∷ past) each n k t e = by (λ f. further (said (notes.Taken j m l status answer)) past n k t.status (taken_then past each.1 n k t f)) _ (nat_eq i j) (nat_eq n m) (nat_eq k l) refl refl refl refl e
    where
      by : (taken_at past i n k ≡ Some t → WasTaken (said (notes.Taken j m l status answer) ∷ past) n k t.status) → (new : TakenStatus) → (x y z : Bool) → nat_eq i j ≡ x → nat_eq n m ≡ y → nat_eq k l ≡ z → new.status ≡ status → cond x (cond y (cond z (Some new) (taken_at past i n k)) (taken_at past i n k)) (taken_at past i n k) ≡ Some t → WasTaken (said (notes.Taken j m l status answer) ∷ past) n k t.status
      by again new true true true f g h same is =
          let kind : status ≡ t.status = sym same ∙ ap (λ (x : TakenStatus). x.status) (same_Some new t is) in
          let same_n : m ≡ n = grind (arith, nat_tests) in
          let same_k : l ≡ k = grind (arith, nat_tests) in
          let so : IsTakenSo past i m l status = each.0 f in
          record { later = said (notes.Taken j m l status answer) ∷ []; before = past; is = refl; so = subst (λ x. IsTakenSo past i n k x) kind (subst (λ a. IsTakenSo past i a k status) same_n (subst (λ b. IsTakenSo past i m b status) same_k so)) }
      by again new true true false f g h same is = again is
      by again new true false z f g h same is = again is
      by again new false y z f g h same is = again is
  taken_then (m ∷ past) each n k t e = further m past n k t.status (taken_then past each.1 n k t e)

  -- an ORB that is over has ended, but not as failed
  pub record HasEnded (past : List Moment) (n k : ℕ) : Type 0 where
    pub status : StatusKind
    pub is : ended_status past i n k ≡ Some status
    pub proper : status ≡ kinds.Failed → ⊥
    pub below : k < ends past i n

  first_of : (a b c d : Bool) → (a && b && c && d) ≡ true → a ≡ true
  first_of true b c d e = refl
  first_of false b c d e = absurd (false≢true e)

  not_failed : (status : StatusKind) → ((row_of status).resp == 0) ≡ true → status ≡ kinds.Failed → ⊥
  not_failed status e f = false≢true (subst (λ (x : StatusKind). ((row_of x).resp == 0) ≡ true) f e)

  module _ (wild : ℕ → Bool) (own : wild i ≡ false) where
    over_by : (past : List Moment) → PassLaw wild past → EachMoment (TakenSo i) past → (n k : ℕ) (found : Option TakenStatus) (linked passed : ℕ) (pinned : Bool) → taken_at past i n k ≡ found → is_over_by found linked passed k pinned ≡ true → HasEnded past n k
    over_by past law each n k None linked passed pinned e o = absurd (false≢true o)
    over_by past law each n k (Some t) linked passed pinned e o =
        let w = taken_then past each n k t e in
        let kind : t.status ≡ kinds.Failed → ⊥ = not_failed t.status (first_of ((row_of t.status).resp == 0) (nat_lt (suc k) linked) _ (not pinned) o) in
        let there : PassLaw wild (w.later ++ w.before) = subst (PassLaw wild) (sym w.is) law in
        let low : k < ends w.before i n = (below wild i own w.before (each_from _ w.later w.before there)).packet n k _ w.so.sent in
        let more = ends_grow w.later w.before i n in
        record {
          status = w.so.ended.status;
          is = ap (λ h. ended_status h i n k) (sym w.is) ∙ (ended_stays wild i own w.later w.before n k there low ∙ w.so.ended.is);
          proper = λ f. kind (sym (w.so.ended.same (subst IsTold (sym f) tt)) ∙ f);
          below = subst (λ h. k < ends h i n) w.is (omega (arith, low, more));
        }

    pub over_ended : (past : List Moment) → PassLaw wild past → EachMoment (TakenSo i) past → (one : Orb) → is_over past i one ≡ true → HasEnded past one.list one.number
    over_ended past law each one o = over_by past law each one.list one.number (taken_at past i one.list one.number) _ _ _ refl o
