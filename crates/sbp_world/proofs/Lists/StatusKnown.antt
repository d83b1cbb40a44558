-- What is known of the status blocks of an initiator in a history, behind more moments: a slot keeps its ORB while the packet of that ORB was not judged.
use Rattle.sbp_world.proofs.Words.Std.{arith, ◌≡◌, ◌∙◌, refl, sym, ap, subst, inl, inr, ◌⊎◌, ◌<◌, ◌≤◌, ◌==◌, ◌+◌, ◌&&◌, ℕ, suc, nat_eq, nat_lt, Bool, true, false, cond, List, [], ◌∷◌, ◌++◌, Option, Some, None, Result, Ok, Err, nat_tests, false≢true, same_Some, none-some}
use Rattle.sbp_world.proofs.Words.Wire.{PacketFault, Packet, lock, lock_response, read_block, read_block_response, read_quadlet, read_quadlet_response, write_block, write_quadlet, write_response, AreJudged, may_get, SerialsCount, Facts, row_of, Access, access_of, Moment, asked, said, Sending, terms}
use Rattle.sbp_world.proofs.Words.Initiator.{reads_rom, StatusBlock, StatusKind}
use Rattle.sbp_world.proofs.Words.Laws.{Orb, TakenStatus, last_got, src_in, orb, present_list, is_list, is_none_taken, taken_at, waits_in, access_at, access_in, spelled_by, status_packet, appends, EachMoment}
use Rattle.sbp_world.proofs.Words.World.{AllOfTarget, TakenOf, HasSlot, IsGone, saw, was_over, AreStatuses, IsStatusOf, IsStatusWrite, IsTakenSo, IsToHost, TakenSo}
use Rattle.std.specs.Prelude.{IsSomeAnd}
use Rattle.bus_transactions.specs.Judging.{facts_of}
use Rattle.sbp_journal.specs.declared.note.Note.TheVariants as notes
use Rattle.sbp_world.proofs.Hosts.Remaining.{remains}
use Rattle.sbp_world.proofs.Hosts.SentMoments.{WasSent, count_now, now, sent_moment, sent_there, serials_from}
use Rattle.sbp_world.proofs.Lists.Generations.{not_lower}
use Rattle.sbp_world.proofs.Lists.OpenNews.{all_grow}
use Rattle.sbp_world.proofs.Lists.Passing.{PassLaw}
use Rattle.sbp_world.proofs.Lists.Rises.{Rises}
use Rattle.sbp_world.proofs.Lists.SlotsHeld.{slots_stay_law}
use Rattle.sbp_world.proofs.Lists.StatusMoments.{HasTaken, below, ended_stays, over_taken, packet_stays, taken_stays}
use Rattle.sbp_world.proofs.Common.{itself, moments_split}
use Rattle.sbp_world.proofs.Agents.CrewFirsts.{current_by}

-- ---- what each history of a run is

pub record IsKnown (wild : ℕ → Bool) (ms : List Moment) (i : ℕ) : Type 0 where
  pub passes : PassLaw wild ms
  pub takings : EachMoment (TakenOf i) ms
  pub sources : AllOfTarget ms i
  pub rises : Rises ms
  pub judged : AreJudged ms
  pub serials : SerialsCount ms

pub judged_less : (m : Moment) (ms : List Moment) → AreJudged (m ∷ ms) → AreJudged ms
judged_less (said (notes.Got serial)) ms h = h.1
judged_less (said (notes.Ignored serial cause)) ms h = h.1
judged_less (asked line event) ms h = h
judged_less (said note) ms h = h

sources_less : (m : Moment) (ms : List Moment) (i : ℕ) → AllOfTarget (m ∷ ms) i → AllOfTarget ms i
sources_less (said (notes.Got serial)) ms i h = h.1
sources_less (asked line event) ms i h = h
sources_less (said note) ms i h = h

pub known_less : (wild : ℕ → Bool) (m : Moment) (ms : List Moment) (i : ℕ) → IsKnown wild (m ∷ ms) i → IsKnown wild ms i
known_less wild m ms i k = record {
  passes = k.passes.1;
  takings = k.takings.1;
  sources = sources_less m ms i k.sources;
  rises = k.rises.1;
  judged = judged_less m ms k.judged;
  serials = serials_from (m ∷ []) ms k.serials;
}

-- a packet was sent before a moment, or leaves in it
pub data Where (m : Moment) (past : List Moment) (serial : ℕ) (packet : Sending) : Type 0 where
  is_here : m ≡ said (notes.Sent serial packet.generation packet.from packet.to packet.bytes) → Where m past serial packet
  is_before : (terms past).sent serial ≡ Some packet → Where m past serial packet

module _ (m : Moment) (past : List Moment) (serials : SerialsCount (m ∷ past)) (serial : ℕ) (packet : Sending) where
  sent_by : (w : WasSent (m ∷ past) serial packet) (later : List Moment) → later ++ now w.before serial packet.generation packet.from packet.to packet.bytes ≡ m ∷ past → Where m past serial packet
  sent_by w [] e = is_here (sym (let z : said (notes.Sent serial packet.generation packet.from packet.to packet.bytes) ∷ w.before ≡ m ∷ past = e in cc))
  sent_by w (x ∷ later) e =
      let here = now w.before serial packet.generation packet.from packet.to packet.bytes in
      let is : later ++ here ≡ past = (let z : x ∷ (later ++ here) ≡ m ∷ past = e in cc) in
      let counted : SerialsCount (later ++ here) = subst SerialsCount (sym is) (serials_from (m ∷ []) past serials) in
      let number : serial ≡ (terms w.before).count + 1 = (serials_from later here counted).0 in
      let count : (terms here).count ≡ (terms w.before).count + 1 = count_now w.before serial packet.generation packet.from packet.to packet.bytes in
      let there : (terms here).sent serial ≡ Some (record { generation = packet.generation; from = packet.from; to = packet.to; bytes = packet.bytes; injected = (terms w.before).injected serial }) = sent_there w.before serial packet.generation packet.from packet.to packet.bytes in
      let same : record { generation = packet.generation; from = packet.from; to = packet.to; bytes = packet.bytes; injected = (terms w.before).injected serial } ≡ packet = ap (λ (b : Bool). record { generation = packet.generation; from = packet.from; to = packet.to; bytes = packet.bytes; injected = b }) w.injected in
      is_before (ap (λ ms. (terms ms).sent serial) (sym is) ∙ ((remains later here counted).sent serial (omega (arith, number, count)) ∙ (there ∙ ap (λ (q : Sending). Some q) same)))

  pub sent_where : (terms (m ∷ past)).sent serial ≡ Some packet → Where m past serial packet
  sent_where e = let w = sent_moment (m ∷ past) serial packet e in sent_by w w.later w.is

-- ---- what is read off a status that is taken

pub record IsOne (found : Option Access) (P : Access → Type 0) : Type 0 where
  pub one : Access
  pub is : found ≡ Some one
  pub so : P one

pub some_of : (found : Option Access) (P : Access → Type 0) → IsSomeAnd found P → IsOne found P
some_of None P h = absurd h
some_of (Some x) P h = record { one = x; is = refl; so = h }

pub record IsSpelled (read : Result Packet PacketFault) (access : Access) : Type 0 where
  pub packet : Packet
  pub is : read ≡ Ok packet
  pub asks : access_of packet ≡ Some access

pub spelled : (read : Result Packet PacketFault) (access : Access) → access_in (spelled_by read) ≡ Some access → IsSpelled read access
spelled (Err fault) access e = absurd (none-some access e)
spelled (Ok p) access e = record { packet = p; is = refl; asks = e }

not_read : (found access : Access) → Some found ≡ Some access → found.is_write ≡ false → access.is_write ≡ true → ⊥
not_read found access e none w = let same : found ≡ access = cc in false≢true (sym none ∙ (ap (λ (a : Access). a.is_write) same ∙ w))

pub writes_no_rom : (p : Packet) (access : Access) → access_of p ≡ Some access → access.is_write ≡ true → reads_rom p ≡ false
writes_no_rom (write_quadlet header offset value) access e w = refl
writes_no_rom (write_block header offset payload) access e w = refl
writes_no_rom (read_quadlet header offset) access e w = absurd (not_read _ access e refl w)
writes_no_rom (read_block header offset count) access e w = absurd (not_read _ access e refl w)
writes_no_rom (lock header offset extended payload) access e w = refl
writes_no_rom (write_response header rcode) access e w = refl
writes_no_rom (read_quadlet_response header rcode value) access e w = refl
writes_no_rom (read_block_response header rcode payload) access e w = refl
writes_no_rom (lock_response header rcode extended payload) access e w = refl

pub current_of : (f : Facts) → may_get (row_of f) ≡ true → f.is_current ≡ true
current_of f e = current_by f.is_current f.is_for_node f.is_response f.is_awaited f.is_repeated e

pub got_by : (serial : ℕ) (past : List Moment) (packet : Sending) → AreJudged (said (notes.Got serial) ∷ past) → (terms past).sent serial ≡ Some packet → packet.generation ≡ (terms past).generation packet.to
got_by serial past packet h e =
    let same : (packet.generation == (terms past).generation packet.to) ≡ true = current_of (facts_of (terms past) packet) (h.0 packet e) in
    grind (arith, nat_tests)

-- a waiting ORB
pub record WaitsSo (past : List Moment) (i n k : ℕ) : Type 0 where
  pub present : present_list past i ≡ Some n
  pub appended : k < appends past i n
  pub none : taken_at past i n k ≡ None

pub all_three : (a b c : Bool) → (a && b && c) ≡ true → (a ≡ true) × (b ≡ true) × (c ≡ true)
all_three false b c e = absurd (false≢true e)
all_three true false c e = absurd (false≢true e)
all_three true true false e = absurd (false≢true e)
all_three true true true e = (refl, refl, refl)

pub waits_so : (past : List Moment) (i n k : ℕ) → waits_in past i n k ≡ true → WaitsSo past i n k
waits_so past i n k e =
    let all = all_three (is_list (present_list past i) n) (nat_lt k (appends past i n)) (is_none_taken (taken_at past i n k)) e in
    let b = all.1 in
    record {
      present = listed (present_list past i) refl all.0;
      appended = (let z : k < appends past i n = grind (arith, nat_tests) in z);
      none = untaken (taken_at past i n k) all.2;
    }
  where
    listed : (o : Option ℕ) → present_list past i ≡ o → is_list o n ≡ true → present_list past i ≡ Some n
    listed None f g = absurd (false≢true g)
    listed (Some m) f g = f ∙ ap Some (let z : m ≡ n = grind (arith, nat_tests) in z)

    untaken : (o : Option TakenStatus) → is_none_taken o ≡ true → o ≡ None
    untaken None f = refl
    untaken (Some t) f = absurd (false≢true f)

-- ---- what was taken before was judged
pub record IsJudged (past : List Moment) (i n k : ℕ) : Type 0 where
  pub serial : ℕ
  pub sent : status_packet past i n k ≡ Some serial
  pub judged : 0 < (terms past).news serial

judged_on : (m : Moment) (past : List Moment) (i n k : ℕ) → IsJudged past i n k → IsJudged (m ∷ past) i n k
judged_on m past i n k j =
    let more = all_grow j.serial (m ∷ []) past in
    let some = j.judged in
    record { serial = j.serial; sent = packet_stays i n k j.serial (m ∷ []) past j.sent; judged = omega (arith, more, some) }

abbrev new_taken : List Moment → StatusKind → TakenStatus
new_taken past status = record { status = status; src = src_in (access_at (terms past) (last_got past)) }

note_judged : (i : ℕ) (past : List Moment) (j m l : ℕ) (status : StatusKind) (answer : List ℕ) (n k : ℕ) (t : TakenStatus) → (taken_at past i n k ≡ Some t → IsJudged past i n k) → ((i == j) ≡ true → IsTakenSo past i m l status) → (x y z : Bool) → nat_eq i j ≡ x → nat_eq n m ≡ y → nat_eq k l ≡ z → cond x (cond y (cond z (Some (new_taken past status)) (taken_at past i n k)) (taken_at past i n k)) (taken_at past i n k) ≡ Some t → IsJudged (said (notes.Taken j m l status answer) ∷ past) i n k
note_judged i past j m l status answer n k t old so true true true e f g is =
    let was = so e in
    let same_n : m ≡ n = grind (arith, nat_tests) in
    let same_k : l ≡ k = grind (arith, nat_tests) in
    record { serial = last_got past; sent = subst (λ a. status_packet past i a k ≡ Some (last_got past)) same_n (subst (λ a. status_packet past i m a ≡ Some (last_got past)) same_k was.sent); judged = was.judged }
note_judged i past j m l status answer n k t old so true true false e f g is = judged_on (said (notes.Taken j m l status answer)) past i n k (old is)
note_judged i past j m l status answer n k t old so true false z e f g is = judged_on (said (notes.Taken j m l status answer)) past i n k (old is)
note_judged i past j m l status answer n k t old so false y z e f g is = judged_on (said (notes.Taken j m l status answer)) past i n k (old is)

pub taken_judged : (i : ℕ) (past : List Moment) → EachMoment (TakenSo i) past → (n k : ℕ) → HasTaken past i n k → IsJudged past i n k
taken_judged i [] each n k h = absurd (let z : None ≡ Some h.taken = h.is in cc)
taken_judged i (said (notes.Taken j m l status answer) ∷ past) each n k h =
    note_judged i past j m l status answer n k h.taken (λ e. taken_judged i past each.1 n k (record { taken = h.taken; is = e })) each.0 (nat_eq i j) (nat_eq n m) (nat_eq k l) refl refl refl h.is
taken_judged i (m ∷ past) each n k h = judged_on m past i n k (taken_judged i past each.1 n k (record { taken = h.taken; is = h.is }))

-- ---- generations do not fall
pub generation_grows : (later before : List Moment) (node : ℕ) → Rises (later ++ before) → (terms before).generation node ≤ (terms (later ++ before)).generation node
generation_grows [] before node r = omega arith
generation_grows (m ∷ later) before node r =
    let a = generation_grows later before node r.1 in let b = not_lower node m (later ++ before) r.0 in omega (arith, a, b)

-- ---- lists of moments

pub each_from : (At : Moment → List Moment → Type 0) (later before : List Moment) → EachMoment At (later ++ before) → EachMoment At before
each_from At [] before h = h
each_from At (m ∷ later) before h = each_from At later before h.1

pub own_sight : (node generation : ℕ) (old : ℕ → ℕ) → cond (nat_eq node node) generation (old node) ≡ generation
own_sight node generation old = ap (λ b. cond b generation (old node)) (itself node)

pub unlike : (x y : ℕ) → (x == y) ≡ false → x ≡ y → ⊥
unlike x y e f = false≢true (sym e ∙ (let z : (x == y) ≡ true = grind (arith, nat_tests) in z))

-- ---- over some moments of a turn
module _ (wild : ℕ → Bool) (i : ℕ) (own : wild i ≡ false) (before : List Moment) where
  -- a slot keeps its ORB while the packet of that ORB was not judged
  module _ (mid : List Moment) (known : IsKnown wild (mid ++ before) i) (each : EachMoment (TakenSo i) (mid ++ before)) (serial slot : ℕ) (one : Orb) (packet : Sending) (seen : packet.generation ≤ (terms before).generation (suc i)) (current : packet.generation ≡ (terms (mid ++ before)).generation (suc i)) (fresh : (terms (mid ++ before)).news serial ≡ 0) (sent : status_packet (mid ++ before) i one.list one.number ≡ Some serial) where
    none_over : (front back : List Moment) → front ++ back ≡ mid → HasTaken (back ++ before) i one.list one.number → ⊥
    none_over front back is taken =
        let later : HasTaken (front ++ (back ++ before)) i one.list one.number = taken_stays front (back ++ before) i one.list one.number taken in
        let same : front ++ (back ++ before) ≡ mid ++ before = moments_split front back before ∙ ap (λ ms. ms ++ before) is in
        let j = taken_judged i (mid ++ before) each one.list one.number (subst (λ ms. HasTaken ms i one.list one.number) same later) in
        let number : j.serial ≡ serial = same_Some j.serial serial (sym j.sent ∙ sent) in
        let some = subst (λ s. 0 < (terms (mid ++ before)).news s) number j.judged in
        omega (arith, some, fresh)

    none_saw : (front back : List Moment) (generation : ℕ) → front ++ said (notes.Seen (suc i) generation) ∷ back ≡ mid → (generation == (terms (back ++ before)).generation (suc i)) ≡ false → ⊥
    none_saw front back generation is differs =
        let x = said (notes.Seen (suc i) generation) in
        let there = x ∷ (back ++ before) in
        let whole : front ++ there ≡ mid ++ before = moments_split front (x ∷ back) before ∙ ap (λ ms. ms ++ before) is in
        let rises : Rises (front ++ there) = subst Rises (sym whole) known.rises in
        let here : Rises there = each_from _ front there rises in
        let a = generation_grows back before (suc i) here.1 in
        let b : (terms (back ++ before)).generation (suc i) ≤ generation = here.0 in
        let c : (terms there).generation (suc i) ≡ generation = own_sight (suc i) generation (terms (back ++ before)).generation in
        let d = generation_grows front there (suc i) rises in
        let e : (terms (front ++ there)).generation (suc i) ≡ (terms (mid ++ before)).generation (suc i) = ap (λ ms. (terms ms).generation (suc i)) whole in
        let f : generation ≡ (terms (back ++ before)).generation (suc i) → ⊥ = unlike generation ((terms (back ++ before)).generation (suc i)) differs in
        f (omega (arith, a, b, c, d, e, seen, current))

    pub keeps : HasSlot before i slot one → HasSlot (mid ++ before) i slot one
    keeps h = by (slots_stay_law.stays mid before i slot one h)
      where
        by : HasSlot (mid ++ before) i slot one ⊎ IsGone mid before i one → HasSlot (mid ++ before) i slot one
        by (inl g) = g
        by (inr (was_over front back is o)) = absurd (none_over front back is (over_taken (back ++ before) i one o))
        by (inr (saw front back generation is d)) = absurd (none_saw front back generation is d)

  -- a packet of the target that was sent before
  module _ (b : AreStatuses before i) (mid : List Moment) (known : IsKnown wild (mid ++ before) i) (each : EachMoment (TakenSo i) (mid ++ before)) where
    passes : PassLaw wild before
    passes = each_from _ mid before known.passes

    pub old_seen : (serial slot : ℕ) (block : StatusBlock) (packet : Sending) → IsToHost before i serial packet → IsStatusWrite packet.bytes slot block → packet.generation ≤ (terms (mid ++ before)).generation (suc i)
    old_seen serial slot block packet to write =
        let x = b.seen serial slot block packet to write in let y = generation_grows mid before (suc i) known.rises in omega (arith, x, y)

    pub old_waits : (serial slot : ℕ) (block : StatusBlock) (packet : Sending) → IsToHost before i serial packet → IsStatusWrite packet.bytes slot block → packet.generation ≡ (terms (mid ++ before)).generation (suc i) → (terms (mid ++ before)).news serial ≡ 0 → IsStatusOf (mid ++ before) i serial slot block
    old_waits serial slot block packet to write current fresh =
        let seen = b.seen serial slot block packet to write in
        let grows = generation_grows mid before (suc i) known.rises in
        let news = all_grow serial mid before in
        let was = b.waiting serial slot block packet to write (omega (arith, seen, grows, current)) (omega (arith, news, fresh)) in
        let sent = packet_stays i was.list was.number serial mid before was.sent in
        let small = (below wild i own before passes).packet was.list was.number serial was.sent in
        record {
          list = was.list;
          number = was.number;
          sent = sent;
          ended = record { status = was.ended.status; is = ended_stays wild i own mid before was.list was.number known.passes small ∙ was.ended.is; same = was.ended.same };
          has = keeps mid known each serial slot (orb was.list was.number) packet seen current fresh sent was.has;
        }
