-- A turn that is none of the target, and in which the response buffers of an initiator change: it got a response of the target that waited for it.
use Rattle.sbp_world.proofs.Words.Std.{arith, ◌≡◌, ◌∙◌, refl, sym, ap, subst, ℕ, zero, suc, ◌+◌, ◌≤◌, nat_eq, Bool, true, false, cond, List, [], ◌∷◌, ◌++◌, Option, Some, None, Result, Ok, Err, append_assoc, nat_tests}
use Rattle.sbp_world.proofs.Words.Wire.{PacketFault, Packet, reading, AreJudged, SerialsCount, Access, access_of, Moment, asked, said, Sending, terms}
use Rattle.sbp_world.proofs.Words.Target.{Disk}
use Rattle.sbp_world.proofs.Words.Laws.{access_in, access_in_bytes, packet_in, receiver_in, spelled_by, target_at, EachMoment}
use Rattle.sbp_world.proofs.Words.World.{AllOfTarget, IsOfWire, is_its_packet, managed_for, operation_if, BufferSo, IsReplying, IsResponseOf}
use Rattle.sbp_world.proofs.Hosts.Remaining.{remains, serials_behind}
use Rattle.sbp_world.proofs.Hosts.SentMoments.{WasSent, count_now, sent_below, sent_moment, serials_from}
use Rattle.sbp_journal.specs.declared.note.Note.TheVariants as notes
use Rattle.sbp_laws.specs.Hosts.{is_serial}
use Rattle.sbp_world.proofs.Lists.BufferStores.{IsStoring}
use Rattle.sbp_world.proofs.Lists.Calm.{injects_before}
use Rattle.sbp_world.proofs.Lists.ManageGot.{IsWriting, writing_in}
use Rattle.sbp_world.proofs.Lists.ManageKnown.{current_of}
use Rattle.sbp_world.proofs.Lists.ManageSends.{opened_terms, sent_terms}
use Rattle.sbp_world.proofs.Lists.ManageTerms.{got_rests, ignored_rests, none_is, same_some, timed_rests}
use Rattle.sbp_world.proofs.Lists.ManageWire.{WireMoments}
use Rattle.sbp_world.proofs.Lists.OpenNews.{all_grow, got_more}
use Rattle.sbp_world.proofs.Lists.Rises.{Rises}
use Rattle.sbp_world.proofs.Lists.OpenedGrown.{not_fallen}
use Rattle.sbp_world.proofs.Lists.StatusKnown.{writes_no_rom, each_from}
use Rattle.sbp_world.proofs.Common.{untrue, itself}

-- ---- what stays of a packet that was sent

managed_stays : (start : List Disk) (later past : List Moment) (serial : ℕ) → SerialsCount (later ++ past) → serial ≤ (terms past).count → managed_for start (later ++ past) serial ≡ managed_for start past serial
managed_stays start [] past serial c l = refl
managed_stays start (asked line event ∷ later) past serial c l = managed_stays start later past serial c l
managed_stays start (said (notes.Sent other generation zero to bytes) ∷ later) past serial c l =
    let whole = later ++ past in
    let op = operation_if (is_its_packet (target_at start whole) (target_at start (said (notes.Sent other generation zero to bytes) ∷ whole)) other) (target_at start whole).manager.operation in
    let more = (remains later past c.1).count in
    let number = c.0 in
    let apart : nat_eq serial other ≡ false = apart_from serial other (terms past).count (terms whole).count l more number in
    ap (λ b. cond b op (managed_for start whole serial)) apart ∙ managed_stays start later past serial c.1 l
  where
    apart_from : (serial other old now : ℕ) → serial ≤ old → old ≤ now → other ≡ now + 1 → nat_eq serial other ≡ false
    apart_from serial other old now l m n = grind (arith, nat_tests)
managed_stays start (said (notes.Sent other generation (suc from) to bytes) ∷ later) past serial c l = managed_stays start later past serial c.1 l
managed_stays start (said note ∷ later) past serial c l = managed_stays start later past serial (serials_behind (said note) (later ++ past) c) l

-- the IDs of its generation
ids_moment : (m : Moment) (past : List Moment) → WireMoments (m ∷ past) → (serial : ℕ) (q : Sending) → (terms past).sent serial ≡ Some q → (node : ℕ) → (terms (m ∷ past)).ids q.generation node ≡ (terms past).ids q.generation node
ids_moment (asked line event) past w serial q e node =
    let f = w.0 in
    let a = (f.honest serial q e).past in
    let b = f.aged q.from in
    (opened_terms event (terms past)).ids q.generation node (omega (arith, a, b))
ids_moment (said (notes.Sent s generation from to bytes)) past w serial q e node = ap (λ (f : ℕ → ℕ → ℕ). f q.generation node) (sent_terms s _ (terms past)).ids
ids_moment (said (notes.Got s)) past w serial q e node = ap (λ (f : ℕ → ℕ → ℕ). f q.generation node) (got_rests s past).ids
ids_moment (said (notes.Ignored s cause)) past w serial q e node = ap (λ (f : ℕ → ℕ → ℕ). f q.generation node) (ignored_rests s cause past).ids
ids_moment (said (notes.TimedOut s)) past w serial q e node = ap (λ (f : ℕ → ℕ → ℕ). f q.generation node) (timed_rests s past).ids
ids_moment (said note) past w serial q e node = refl

ids_stay : (later past : List Moment) → SerialsCount (later ++ past) → WireMoments (later ++ past) → (serial : ℕ) (q : Sending) → (terms past).sent serial ≡ Some q → serial ≤ (terms past).count → (node : ℕ) → (terms (later ++ past)).ids q.generation node ≡ (terms past).ids q.generation node
ids_stay [] past c w serial q e l node = refl
ids_stay (m ∷ later) past c w serial q e l node =
    let c_before = serials_behind m (later ++ past) c in
    ids_moment m (later ++ past) w serial q ((remains later past c_before).sent serial l ∙ e) node
    ∙ ids_stay later past c_before w.1 serial q e l node

-- ---- a packet that was got
pub record IsRead (sent : Option Sending) (access : Access) : Type 0 where
  pub packet : Sending
  pub is : sent ≡ Some packet
  pub p : Packet
  pub read : reading packet.bytes ≡ Ok p
  pub asks : access_of p ≡ Some access

read_by : (packet : Sending) (access : Access) (r : Result Packet PacketFault) → reading packet.bytes ≡ r → access_in (spelled_by r) ≡ Some access → IsRead (Some packet) access
read_by packet access (Ok p) e f = record { packet = packet; is = refl; p = p; read = e; asks = f }
read_by packet access (Err fault) e f = none_is access f

pub read_of : (sent : Option Sending) (access : Access) → access_in (packet_in sent) ≡ Some access → IsRead sent access
read_of None access e = none_is access e
read_of (Some packet) access e = read_by packet access (reading packet.bytes) refl e

got_source : (past : List Moment) (i : ℕ) (front earlier : List Moment) (serial : ℕ) → front ++ said (notes.Got serial) ∷ earlier ≡ past → AllOfTarget past i → AllOfTarget (said (notes.Got serial) ∷ earlier) i
got_source past i front earlier serial e a = peel front (subst (λ ms. AllOfTarget ms i) (sym e) a)
  where
    peel : (front : List Moment) → AllOfTarget (front ++ said (notes.Got serial) ∷ earlier) i → AllOfTarget (said (notes.Got serial) ∷ earlier) i
    peel [] a = a
    peel (said (notes.Got other) ∷ front) a = peel front a.1
    peel (said note ∷ front) a = peel front a
    peel (asked line event ∷ front) a = peel front a

pub to_there : (so : Option Sending) (n : ℕ) (q : Sending) → so ≡ Some q → is_serial (receiver_in so) n ≡ true → q.to ≡ n
to_there None n q e f = none_is q e
to_there (Some packet) n q e f = ap (λ (x : Sending). x.to) (sym (same_some packet q e)) ∙ (let same : packet.to ≡ n = grind (arith, nat_tests) in same)

pub judged_from : (front past : List Moment) → AreJudged (front ++ past) → AreJudged past
judged_from [] past a = a
judged_from (said (notes.Got other) ∷ front) past a = judged_from front past a.1
judged_from (said (notes.Ignored other cause) ∷ front) past a = judged_from front past a.1
judged_from (said note ∷ front) past a = judged_from front past a
judged_from (asked line event ∷ front) past a = judged_from front past a

pub fair_back : (front past : List Moment) (n : ℕ) → (terms (front ++ past)).injects n ≡ false → (terms past).injects n ≡ false
fair_back [] past n e = e
fair_back (m ∷ front) past n e = fair_back front past n (injects_before m (front ++ past) n e)

-- ---- by the history: where a write was got into a response buffer, in a history that goes on
module _ (start : List Disk) (i : ℕ) (before now : List Moment) (later : List Moment) (joined : later ++ before ≡ now) (laws : IsOfWire now) (fair : (terms now).injects 0 ≡ false) (moments : WireMoments now) (rise : Rises now) (sources : AllOfTarget now i) (same : (terms now).generation (suc i) ≡ (terms before).generation (suc i)) (so : EachMoment (BufferSo start i) before) (front mid back : List Moment) (serial : ℕ) (is : front ++ said (notes.Got serial) ∷ mid ≡ now) (mid_is : back ++ before ≡ mid) (storing : IsStoring mid i serial) (q : Sending) (sent : (terms before).sent serial ≡ Some q) where
  counts : SerialsCount now
  counts = laws.serials

  counts_before : SerialsCount before
  counts_before = serials_from later before (subst SerialsCount (sym joined) counts)

  counts_got : SerialsCount (said (notes.Got serial) ∷ mid)
  counts_got = serials_from front (said (notes.Got serial) ∷ mid) (subst SerialsCount (sym is) counts)

  counts_mid : SerialsCount (back ++ before)
  counts_mid = subst SerialsCount (sym mid_is) counts_got

  below : serial ≤ (terms before).count
  below = sent_below before serial q counts_before sent

  sent_mid : (terms mid).sent serial ≡ Some q
  sent_mid = subst (λ ms. (terms ms).sent serial ≡ Some q) mid_is ((remains back before counts_mid).sent serial below ∙ sent)

  to_is : q.to ≡ suc i
  to_is = to_there ((terms mid).sent serial) (suc i) q sent_mid storing.to_is

  whole : (At : Moment → List Moment → Type 0) → EachMoment At now → EachMoment At (said (notes.Got serial) ∷ mid)
  whole At h = each_from At front (said (notes.Got serial) ∷ mid) (subst (EachMoment At) (sym is) h)

  -- it is of the initiator's generation
  rise_mid : Rises (back ++ before)
  rise_mid = subst Rises (sym mid_is) (whole _ rise).1

  current_mid : q.generation ≡ (terms mid).generation (suc i)
  current_mid = current_of mid q ((judged_from front (said (notes.Got serial) ∷ mid) (subst AreJudged (sym is) laws.judged)).0 q sent_mid) ∙ ap (terms mid).generation to_is

  generation_mid : (terms mid).generation (suc i) ≡ (terms before).generation (suc i)
  generation_mid =
      let a = not_fallen (suc i) back before rise_mid in
      let a_is = ap (λ ms. (terms ms).generation (suc i)) mid_is in
      let b = not_fallen (suc i) (front ++ said (notes.Got serial) ∷ []) mid (subst Rises (sym (append_assoc front (said (notes.Got serial) ∷ []) mid ∙ is)) rise) in
      let b_is = ap (λ ms. (terms ms).generation (suc i)) (append_assoc front (said (notes.Got serial) ∷ []) mid ∙ is) in
      omega (arith, a, a_is, b, b_is, same)

  current : q.generation ≡ (terms before).generation (suc i)
  current = current_mid ∙ generation_mid

  -- the target sent it
  read : IsRead ((terms mid).sent serial) storing.access
  read = read_of ((terms mid).sent serial) storing.access storing.is

  packet_is : read.packet ≡ q
  packet_is = same_some read.packet q (sym read.is ∙ sent_mid)

  from_is : q.from ≡ 0
  from_is =
      (got_source now i front mid serial is sources).0 q read.p storing.access sent_mid to_is (ap (λ (x : Sending). reading x.bytes) (sym packet_is) ∙ read.read) read.asks (writes_no_rom read.p storing.access read.asks storing.writes)

  spelled : access_in_bytes q.bytes ≡ Some storing.access
  spelled = ap (λ (x : Sending). access_in_bytes x.bytes) (sym packet_is) ∙ (ap (λ r. access_in (spelled_by r)) read.read ∙ read.asks)

  writing_is : IsWriting q.bytes
  writing_is = writing_in q.bytes storing.access spelled storing.writes

  -- it was sent as the response of an operation
  was : WasSent before serial q
  was = sent_moment before serial q sent

  abbrev sending : Moment
  sending = said (notes.Sent serial q.generation q.from q.to q.bytes)

  so_there : EachMoment (BufferSo start i) (sending ∷ was.before)
  so_there = each_from (BufferSo start i) was.later (sending ∷ was.before) (subst (EachMoment (BufferSo start i)) (sym was.is) so)

  counts_sent : SerialsCount (was.later ++ sending ∷ was.before)
  counts_sent = subst SerialsCount (sym was.is) counts_before

  below_sent : serial ≤ (terms (sending ∷ was.before)).count
  below_sent =
      let c = (serials_from was.later (sending ∷ was.before) counts_sent).0 in
      let n = count_now was.before serial q.generation q.from q.to q.bytes in
      omega (arith, c, n)

  rise_before : Rises before
  rise_before = each_from _ back before rise_mid

  generation_there : (terms was.before).generation (suc i) ≤ q.generation
  generation_there =
      let a = not_fallen (suc i) (was.later ++ sending ∷ []) was.before (subst Rises (sym (append_assoc was.later (sending ∷ []) was.before ∙ was.is)) rise_before) in
      let a_is = ap (λ ms. (terms ms).generation (suc i)) (append_assoc was.later (sending ∷ []) was.before ∙ was.is) in
      let c = current in
      omega (arith, a, a_is, c)

  responds : IsResponseOf start was.before i serial q.generation q.to q.bytes
  responds =
      subst (λ from. BufferSo start i (said (notes.Sent serial q.generation from q.to q.bytes)) was.before) from_is so_there.0 to_is generation_there
      (record { access = storing.access; is = spelled; writes = storing.writes; place = storing.place; goes = storing.goes })

  is_for : managed_for start before serial ≡ Some responds.op
  is_for =
      ap (λ ms. managed_for start ms serial) (sym was.is)
      ∙ (managed_stays start was.later (sending ∷ was.before) serial counts_sent below_sent
      ∙ (ap (λ from. managed_for start (said (notes.Sent serial q.generation from q.to q.bytes) ∷ was.before) serial) from_is
      ∙ (ap (λ b. cond b (operation_if (is_its_packet (target_at start was.before) (target_at start (said (notes.Sent serial q.generation 0 q.to q.bytes) ∷ was.before)) serial) (target_at start was.before).manager.operation) (managed_for start was.before serial)) (itself serial)
      ∙ (ap (λ b. operation_if b (target_at start was.before).manager.operation) responds.its ∙ responds.operation))))

  moments_before : WireMoments before
  moments_before = each_from _ later before (subst WireMoments (sym joined) moments)

  sent_here : (terms (sending ∷ was.before)).sent serial ≡ Some q
  sent_here = sym ((remains was.later (sending ∷ was.before) counts_sent).sent serial below_sent) ∙ (ap (λ ms. (terms ms).sent serial) was.is ∙ sent)

  source : responds.op.source ≡ (terms before).ids q.generation (suc i)
  source =
      responds.source
      ∙ (sym (ap (λ (f : ℕ → ℕ → ℕ). f q.generation (suc i)) (sent_terms serial _ (terms was.before)).ids)
      ∙ (sym (ids_stay was.later (sending ∷ was.before) counts_sent (subst WireMoments (sym was.is) moments_before) serial q sent_here below_sent (suc i))
      ∙ ap (λ ms. (terms ms).ids q.generation (suc i)) was.is))

  -- and was not judged
  sent_now : (terms now).sent serial ≡ Some q
  sent_now = ap (λ ms. (terms ms).sent serial) (sym joined) ∙ ((remains later before (subst SerialsCount (sym joined) counts)).sent serial below ∙ sent)

  fair_mid : (terms mid).injects 0 ≡ false
  fair_mid = fair_back (front ++ said (notes.Got serial) ∷ []) mid 0 (subst (λ ms. (terms ms).injects 0 ≡ false) (sym (append_assoc front (said (notes.Got serial) ∷ []) mid ∙ is)) fair)

  honest : q.injected ≡ false
  honest = by q.injected refl
    where
      by : (b : Bool) → q.injected ≡ b → b ≡ false
      by false e = refl
      by true e = untrue (sym fair_mid ∙ (ap (terms mid).injects (sym from_is) ∙ ((whole _ moments).0.facts.honest serial q sent_mid).bold e))

  unjudged : (terms before).news serial ≡ 0
  unjudged =
      let most = (laws.once serial writing_is.label q sent_now honest writing_is.part).most (ap (terms now).injects from_is ∙ fair) in
      let more = got_more serial front mid now q is sent_mid in
      let grows = all_grow serial back before in
      let grows_is = ap (λ ms. (terms ms).news serial) mid_is in
      omega (arith, most, more, grows, grows_is)

  pub replying : IsReplying start before i serial
  replying = record {
    packet = q;
    sent = sent;
    current = current;
    op = responds.op;
    is_for = is_for;
    responds = responds.responds;
    source = source;
    label = writing_is.label;
    part = writing_is.part;
    unjudged = unjudged;
  }
