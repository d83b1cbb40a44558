-- The packet of a status block, in a history: where it was sent since the turn began in which its ORB ended, it is the packet that this end sent; and a status that was answered is so behind more moments.
use Rattle.sbp_world.proofs.Words.Std.{arith, ◌≡◌, ◌∙◌, refl, sym, ap, subst, ◌<◌, ◌≤◌, ◌+◌, ◌&&◌, ℕ, zero, suc, Bool, true, false, cond, List, [], ◌∷◌, ◌++◌, Option, Some, None, same_Some, none-some}
use Rattle.sbp_world.proofs.Words.Wire.{SerialsCount, Moment, asked, said, Sending, terms}
use Rattle.sbp_world.proofs.Words.Initiator.{StatusBlock, StatusKind}
use Rattle.sbp_world.proofs.Words.Laws.{EndedOrb, access_in_bytes, first_of, is_due, is_write_in, orb, status_due, status_packet, ends, lists, EachMoment}
use Rattle.sbp_world.proofs.Words.World.{IsStatusOf, IsStatusWrite, IsToHost, SentSo}
use Rattle.sbp_journal.specs.declared.note.Note.TheVariants as notes
use Rattle.sbp_world.proofs.Hosts.Remaining.{remains}
use Rattle.sbp_world.proofs.Hosts.SentMoments.{WasSent, count_now, sent_below, sent_moment, serials_from}
use Rattle.sbp_world.specs.Lists.Statuses.{IsSentSo}
use Rattle.sbp_world.specs.Lists.TakenTurns.{WasAnswered}
use Rattle.sbp_world.proofs.Lists.DataServed.{closed_on, inside}
use Rattle.sbp_world.proofs.Lists.Passing.{PassLaw}
use Rattle.sbp_world.proofs.Lists.Rises.{Rises}
use Rattle.sbp_world.proofs.Lists.StatusKnown.{each_from, generation_grows}
use Rattle.sbp_world.proofs.Lists.StatusMoments.{DueIs, due_is, ended_below, ends_grow, packet_stays}
use Rattle.sbp_world.proofs.Lists.UnrunTerms.{lists_grow}
use Rattle.sbp_world.proofs.Common.{moments_split}

-- ---- behind more moments
pub answered_on : (later ms : List Moment) (i n k : ℕ) → SerialsCount (later ++ ms) → WasAnswered ms i n k → WasAnswered (later ++ ms) i n k
answered_on later ms i n k c a = record {
  serial = a.serial;
  packet = a.packet;
  slot = a.slot;
  block = a.block;
  sent = record { is = (remains later ms c).sent a.serial (sent_below ms a.serial a.packet (serials_from later ms c) a.sent.is) ∙ a.sent.is; from_target = a.sent.from_target; to_host = a.sent.to_host };
  writes = a.writes;
  of = packet_stays i n k a.serial later ms a.of;
  closed = closed_on later ms a.serial a.closed;
}

-- ---- an ORB whose status is due ended in the turn
pub record EndsIn (mid base : List Moment) (one : EndedOrb) : Type 0 where
  pub later : List Moment
  pub before : List Moment
  pub status : StatusKind
  pub is : later ++ said (notes.Ended one.initiator (Some one.one.list) (Some one.one.number) status) ∷ (before ++ base) ≡ mid ++ base

further : (m : Moment) (mid base : List Moment) (one : EndedOrb) → EndsIn mid base one → EndsIn (m ∷ mid) base one
further m mid base one e = record { later = m ∷ e.later; before = e.before; status = e.status; is = ap (λ h. m ∷ h) e.is }

none_due : {A : Type 0} (one : EndedOrb) → None ≡ Some one → A
none_due one e = absurd (none-some one e)

pub due_in : (mid base : List Moment) (one : EndedOrb) → status_due base ≡ None → status_due (mid ++ base) ≡ Some one → EndsIn mid base one
due_in [] base one none e = none_due one (sym none ∙ e)
due_in (asked line event ∷ mid) base one none e = none_due one e
due_in (said (notes.Got serial) ∷ mid) base one none e = none_due one e
due_in (said (notes.Ignored serial cause) ∷ mid) base one none e = none_due one e
due_in (said (notes.TimedOut serial) ∷ mid) base one none e = none_due one e
due_in (said (notes.Ended j (Some m) (Some l) status) ∷ mid) base one none e =
    let is : record { initiator = j; one = orb m l } ≡ one = same_Some _ one e in
    subst (λ (x : EndedOrb). EndsIn (said (notes.Ended j (Some m) (Some l) status) ∷ mid) base x) is (record { later = []; before = mid; status = status; is = refl })
due_in (said (notes.Ended j (Some m) None status) ∷ mid) base one none e = further _ mid base one (due_in mid base one none e)
due_in (said (notes.Ended j None l status) ∷ mid) base one none e = further _ mid base one (due_in mid base one none e)
due_in (said note ∷ mid) base one none e = further (said note) mid base one (due_in mid base one none e)

-- ---- the packet that is sent now
packet_by : (x y : Bool) (found : Option ℕ) (serial : ℕ) → cond (x && y) (first_of found serial) found ≡ Some serial → (found ≡ Some serial → ⊥) → x ≡ true
packet_by true y found serial e f = refl
packet_by false y found serial e f = absurd (f e)

pub packet_below : (ms : List Moment) (i n k serial : ℕ) → SerialsCount ms → status_packet ms i n k ≡ Some serial → serial ≤ (terms ms).count
packet_below [] i n k serial c e = absurd (none-some serial e)
packet_below (said (notes.Sent other generation zero to bytes) ∷ ms) i n k serial c e =
    by (λ f. packet_below ms i n k serial (serials_from (m ∷ []) ms c) f) (is_due (status_due ms) i n k to && is_write_in (access_in_bytes bytes)) (status_packet ms i n k) refl e
  where
    m : Moment
    m = said (notes.Sent other generation 0 to bytes)

    now : other ≡ serial → serial ≤ (terms (m ∷ ms)).count
    now e = let number : other ≡ (terms ms).count + 1 = c.0 in let all : (terms (m ∷ ms)).count ≡ (terms ms).count + 1 = count_now ms other generation 0 to bytes in omega (arith, number, all, e)

    old : serial ≤ (terms ms).count → serial ≤ (terms (m ∷ ms)).count
    old a = let b = (remains (m ∷ []) ms c).count in omega (arith, a, b)

    by : (status_packet ms i n k ≡ Some serial → serial ≤ (terms ms).count) → (b : Bool) (found : Option ℕ) → status_packet ms i n k ≡ found → cond b (first_of found other) found ≡ Some serial → serial ≤ (terms (m ∷ ms)).count
    by again true None f g = now (same_Some other serial g)
    by again true (Some first) f g = old (again (f ∙ g))
    by again false found f g = old (again (f ∙ g))
packet_below (said (notes.Sent other generation (suc from) to bytes) ∷ ms) i n k serial c e =
    let m = said (notes.Sent other generation (suc from) to bytes) in
    let a = packet_below ms i n k serial (serials_from (m ∷ []) ms c) e in
    let b = (remains (m ∷ []) ms c).count in
    omega (arith, a, b)
packet_below (m ∷ ms) i n k serial c e =
    let a = packet_below ms i n k serial (serials_from (m ∷ []) ms c) e in
    let b = (remains (m ∷ []) ms c).count in
    omega (arith, a, b)

due_now : (past : List Moment) (serial generation from to : ℕ) (bytes : List ℕ) (i n k : ℕ) → from ≡ 0 → SerialsCount (said (notes.Sent serial generation from to bytes) ∷ past) → status_packet (said (notes.Sent serial generation from to bytes) ∷ past) i n k ≡ Some serial → is_due (status_due past) i n k to ≡ true
due_now past serial generation zero to bytes i n k z c e =
    packet_by (is_due (status_due past) i n k to) (is_write_in (access_in_bytes bytes)) (status_packet past i n k) serial e
    (λ f. let a = packet_below past i n k serial c.1 f in let number : serial ≡ (terms past).count + 1 = c.0 in omega (arith, a, number))
due_now past serial generation (suc from) to bytes i n k z c e = absurd (omega (arith, z))

-- ---- an ORB that ended since a moment, at which none was due
pub record IsBehind (ms : List Moment) (i n k : ℕ) (base : List Moment) : Type 0 where
  pub later : List Moment
  pub is : later ++ base ≡ ms
  pub due : status_due base ≡ None
  pub number : k ≡ ends base i n
  pub ended : suc k ≡ ends ms i n
  pub latest_then : suc n ≡ lists base i
  pub latest : suc n ≡ lists ms i

-- a packet that was sent since then is that of its end
module _ (wild : ℕ → Bool) (i : ℕ) (own : wild i ≡ false) (ms : List Moment) (passes : PassLaw wild ms) (rises : Rises ms) (counts : SerialsCount ms) (each : EachMoment (SentSo i) ms) (n k serial slot : ℕ) (packet : Sending) (block : StatusBlock) (to : IsToHost ms i serial packet) (writes : IsStatusWrite packet.bytes slot block) (current : packet.generation ≡ (terms ms).generation (suc i)) (base : List Moment) (b : IsBehind ms i n k base) (young : (terms base).count < serial) where
  s : WasSent ms serial packet
  s = sent_moment ms serial packet to.is

  abbrev sends : Moment
  sends = said (notes.Sent serial packet.generation packet.from packet.to packet.bytes)

  abbrev at : List Moment
  at = sends ∷ s.before

  so : IsSentSo s.before i serial packet.generation packet.from packet.to packet.bytes slot block
  so = (each_from (SentSo i) s.later at (subst (EachMoment (SentSo i)) (sym s.is) each)).0 to.from_target to.to_host slot block writes

  abbrev front : List Moment
  front = s.later ++ sends ∷ []

  whole : front ++ s.before ≡ ms
  whole = sym (moments_split s.later (sends ∷ []) s.before) ∙ s.is

  level : packet.generation ≡ (terms s.before).generation (suc i)
  level =
      let seen = so.seen in
      let more = generation_grows front s.before (suc i) (subst Rises (sym whole) rises) in
      let same : (terms (front ++ s.before)).generation (suc i) ≡ (terms ms).generation (suc i) = ap (λ h. (terms h).generation (suc i)) whole in
      omega (arith, seen, more, same, current)

  of : IsStatusOf at i serial slot block
  of = so.of level

  counted : SerialsCount at
  counted = serials_from s.later at (subst SerialsCount (sym s.is) counts)

  due : DueIs (status_due s.before) i of.list of.number
  due = due_is (status_due s.before) i of.list of.number packet.to (due_now s.before serial packet.generation packet.from packet.to packet.bytes i of.list of.number to.from_target counted of.sent)

  since : (mid : List Moment) × (mid ++ base ≡ s.before)
  since = inside serial packet.generation packet.from packet.to packet.bytes s.before b.later base s.later (s.is ∙ sym b.is) (subst SerialsCount (sym b.is) counts) young

  ended : EndsIn since.0 base due.one
  ended = due_in since.0 base due.one b.due (ap status_due since.1 ∙ due.is)

  abbrev then : List Moment
  then = ended.before ++ base

  abbrev ends_at : ℕ → ℕ → ℕ → Moment
  ends_at j m l = said (notes.Ended j (Some m) (Some l) ended.status)

  here : (j m l : ℕ) → j ≡ i → ended.later ++ ends_at j m l ∷ then ≡ since.0 ++ base → (m ≡ n) × (l ≡ k)
  here j m l e is = (same_list, same_number)
    where
      whole_then : (front ++ ended.later) ++ (ends_at j m l ∷ then) ≡ ms
      whole_then = sym (moments_split front ended.later (ends_at j m l ∷ then)) ∙ (ap (λ h. front ++ h) (is ∙ since.1) ∙ whole)

      law : PassLaw wild (ends_at j m l ∷ then)
      law = each_from _ (front ++ ended.later) (ends_at j m l ∷ then) (subst (PassLaw wild) (sym whole_then) passes)

      own_then : wild j ≡ false
      own_then = ap wild e ∙ own

      same_list : m ≡ n
      same_list =
          let last : suc m ≡ lists then i = (law.0 own_then).turn.still.latest ∙ ap (lists then) e in
          let low = lists_grow i ended.before base in
          let more = lists_grow i (front ++ ended.later) (ends_at j m l ∷ then) in
          let all : lists ((front ++ ended.later) ++ (ends_at j m l ∷ then)) i ≡ lists ms i = ap (λ h. lists h i) whole_then in
          let now : lists (ends_at j m l ∷ then) i ≡ lists then i = refl in
          let x = b.latest in
          let y = b.latest_then in
          omega (arith, last, low, more, all, now, x, y)

      same_number : l ≡ k
      same_number =
          let number : l ≡ ends then j m = (law.0 own_then).turn.number in
          let at_n : ends then j m ≡ ends then i n = ap (λ a. ends then a m) e ∙ ap (λ c. ends then i c) same_list in
          let low = ends_grow ended.before base i n in
          let above = ended_below then j m l ended.status number in
          let above_n : ends (ends_at j m l ∷ then) j m ≡ ends (ends_at j m l ∷ then) i n = ap (λ a. ends (ends_at j m l ∷ then) a m) e ∙ ap (λ c. ends (ends_at j m l ∷ then) i c) same_list in
          let more = ends_grow (front ++ ended.later) (ends_at j m l ∷ then) i n in
          let all : ends ((front ++ ended.later) ++ (ends_at j m l ∷ then)) i n ≡ ends ms i n = ap (λ h. ends h i n) whole_then in
          let x = b.number in
          let y = b.ended in
          omega (arith, number, at_n, low, above, above_n, more, all, x, y)

  its : (of.list ≡ n) × (of.number ≡ k)
  its =
      let x = here due.one.initiator due.one.one.list due.one.one.number due.initiator ended.is in
      (sym due.list ∙ x.0, sym due.number ∙ x.1)

  pub status_is : status_packet ms i n k ≡ Some serial
  status_is =
      let there : status_packet at i n k ≡ Some serial = subst (λ m. status_packet at i m k ≡ Some serial) its.0 (subst (λ l. status_packet at i of.list l ≡ Some serial) its.1 of.sent) in
      subst (λ h. status_packet h i n k ≡ Some serial) s.is (packet_stays i n k serial s.later at there)
