-- A status block that was served while its ORB waits was got, and not ignored for its slot; and in the turn of that packet the status was taken.
use Rattle.sbp_world.proofs.Words.Std.{arith, ◌≡◌, ◌∙◌, refl, sym, ap, subst, inl, inr, ◌⊎◌, ◌<◌, ◌==◌, ◌&&◌, ◌+◌, ℕ, suc, nat_eq, nat_lt, Bool, true, false, cond, List, [], ◌∷◌, ◌++◌, Option, Some, None, Result, Ok, nat_tests, false≢true, same_Some, none-some}
use Rattle.sbp_world.proofs.Words.Wire.{Packet, lock, lock_response, read_block_response, read_quadlet, read_quadlet_response, reads_block, write_block, write_quadlet, write_response, reading, SerialsCount, AreJudged, Access, access_of, may_ignore_by, row_of, Moment, asked, said, Sending, Terms, arrives, asked_by, ignores_that, is_news, is_served, judges, terms, Note}
use Rattle.sbp_world.proofs.Words.Initiator.{is_fifo, OrbFault, StatusBlock, StatusKind, read_block}
use Rattle.sbp_world.proofs.Words.Laws.{Orb, TakenStatus, is_list, is_none_taken, last_got, named_in, orb, prepared_in, present_list, src_in, status_packet, taken_at, waits_in, access_at, access_in, access_in_bytes, packet_in, receiver_in, Taking, if_waits, taking_at, taking_by, taking_of, takings_in, Turn, turn, appends, ends, lists, EachMoment, EachTurn, EachTurnBefore}
use Rattle.sbp_world.proofs.Words.World.{AreStatuses, IsStatusWrite, IsStatusOf, IsToHost, MayStand, SentSo, TakesDue, WasClosed, of_one}
use Rattle.bus_transactions.specs.Judging.{facts_of}
use Rattle.sbp_journal.specs.declared.cause.Cause.TheVariants as causes
use Rattle.sbp_journal.specs.declared.note.Note.TheVariants as notes
use Rattle.sbp_world.specs.Lists.TakenTurns.{IgnoredSo}
use Rattle.sbp_world.proofs.Hosts.Remaining.{remains}
use Rattle.sbp_world.proofs.Hosts.SentMoments.{sent_below, serials_from}
use Rattle.sbp_world.proofs.Lists.AnswersCarriedBefore.{known_from}
use Rattle.sbp_world.proofs.Lists.ManageTerms.{judges_news}
use Rattle.sbp_world.proofs.Lists.OpenNews.{all_grow, got_more}
use Rattle.sbp_world.proofs.Lists.ServedGots.{NotShut, WasGotThen, served_got}
use Rattle.sbp_world.proofs.Lists.StatusKept.{statuses_of}
use Rattle.sbp_world.proofs.Lists.StatusKnown.{IsKnown, each_from, got_by, spelled}
use Rattle.sbp_world.proofs.Lists.StatusLogins.{each_there}
use Rattle.sbp_world.proofs.Lists.StatusMoments.{HasTaken, below, packet_stays, taken_stays}
use Rattle.sbp_world.proofs.Lists.StatusRuns.{Once}
use Rattle.sbp_world.proofs.Lists.TakenHistory.{are_appended, one_orb, present_before}
use Rattle.sbp_world.proofs.Common.{is_inside, itself, moments_split, untrue, all_three}

-- ---- a packet that is ignored for its slot is of its receiver's generation, and was not taken as new before
slot_by : (c n r a e : Bool) → may_ignore_by (row_of (record { is_current = c; is_for_node = n; is_response = r; is_awaited = a; is_repeated = e })) causes.Slot ≡ true → c ≡ true
slot_by true n r a e m = refl
slot_by false n r a e m = absurd (let no : false ≡ true = m in cc)

slot_current : (serial : ℕ) (past : List Moment) (packet : Sending) → AreJudged (said (notes.Ignored serial causes.Slot) ∷ past) → (terms past).sent serial ≡ Some packet → packet.generation ≡ (terms past).generation packet.to
slot_current serial past packet h e =
    let f = facts_of (terms past) packet in
    let same : (packet.generation == (terms past).generation packet.to) ≡ true = slot_by f.is_current f.is_for_node f.is_response f.is_awaited f.is_repeated (h.0 packet e) in
    grind (arith, nat_tests)

module _ (r : ℕ) where
  slot_one : (past : List Moment) (packet : Sending) → (terms past).sent r ≡ Some packet → (terms past).news r < (terms (said (notes.Ignored r causes.Slot) ∷ past)).news r
  slot_one past packet e =
      let t = terms past in
      let u = is_served r (is_news r (arrives r t)) in
      let x : (judges (asked_by packet) (Some causes.Slot) r packet u).news r ≡ u.news r = ap (λ (f : ℕ → ℕ). f r) (judges_news (asked_by packet) (Some causes.Slot) r packet u) in
      let y : t.news r < u.news r = by (nat_eq r r) (itself r) t in
      subst (λ found. t.news r < (ignores_that found causes.Slot r t).news r) (sym e) (omega (arith, x, y))
    where
      by : (b : Bool) → b ≡ true → (t : Terms) → t.news r < cond b (t.news r + 1) (t.news r)
      by true f t = omega arith
      by false f t = untrue f

  slot_more : (later earlier past : List Moment) (packet : Sending) → later ++ said (notes.Ignored r causes.Slot) ∷ earlier ≡ past → (terms earlier).sent r ≡ Some packet → (terms earlier).news r < (terms past).news r
  slot_more later earlier past packet e f =
      let a = all_grow r later (said (notes.Ignored r causes.Slot) ∷ earlier) in
      let b = slot_one earlier packet f in
      subst (λ ms. (terms earlier).news r < (terms ms).news r) e (omega (arith, a, b))

-- ---- a turn takes what is due in it
-- among notes stands that the status of an ORB is taken
abbrev pub Takes : (i n k : ℕ) → List Note → Type 0
Takes i n k [] = ⊥
Takes i n k (notes.Taken j m l status answer ∷ ns) = ((i ≡ j) × ((n ≡ m) × (k ≡ l))) ⊎ Takes i n k ns
Takes i n k (note ∷ ns) = Takes i n k ns

one_taking : (i : ℕ) (x : Taking) (ns : List Note) → of_one i (takings_in ns) ≡ x ∷ [] → Takes i x.one.list x.one.number ns
one_taking i x [] e = absurd (let z : [] ≡ x ∷ [] = e in cc)
one_taking i x (notes.Taken j m l status answer ∷ ns) e = by (nat_eq i j) refl e (λ f. one_taking i x ns f)
  where
    by : (b : Bool) → nat_eq i j ≡ b → cond b (record { initiator = j; one = orb m l; status = status } ∷ of_one i (takings_in ns)) (of_one i (takings_in ns)) ≡ x ∷ [] → (of_one i (takings_in ns) ≡ x ∷ [] → Takes i x.one.list x.one.number ns) → ((i ≡ j) × ((x.one.list ≡ m) × (x.one.number ≡ l))) ⊎ Takes i x.one.list x.one.number ns
    by true f g again =
        let same : ◌≡◌ {A = Taking} (record { initiator = j; one = orb m l; status = status }) x = cc in
        let own : i ≡ j = grind (arith, nat_tests) in
        inl ((own, (sym (ap (λ (y : Taking). y.one.list) same), sym (ap (λ (y : Taking). y.one.number) same))))
    by false f g again = inr (again g)
one_taking i x (note ∷ ns) e = one_taking i x ns e

three : {A : Type 0} (x y z : Bool) (new old : A) → x ≡ true → y ≡ true → z ≡ true → cond x (cond y (cond z new old) old) old ≡ new
three true true true new old e f g = refl
three true true false new old e f g = untrue g
three true false z new old e f g = untrue f
three false y z new old e f g = untrue e

taken_now : (past : List Moment) (i n k j m l : ℕ) (status : StatusKind) (answer : List ℕ) → i ≡ j → n ≡ m → k ≡ l → HasTaken (said (notes.Taken j m l status answer) ∷ past) i n k
taken_now past i n k j m l status answer e f g =
    record { taken = record { status = status; src = src_in (access_at (terms past) (last_got past)) }; is = three (nat_eq i j) (nat_eq n m) (nat_eq k l) _ _ (grind (arith, nat_tests)) (grind (arith, nat_tests)) (grind (arith, nat_tests)) }

module _ (Law : Turn → Type 0) (i n k s : ℕ) (before : List Moment) where
  abbrev got : Moment
  got = said (notes.Got s)

  -- the turn of a packet that was got, by a history that goes on, with the notes behind that
  pub record IsTurnOf (later : List Moment) (rest : List Note) : Type 0 where
    pub told : List Note
    pub law : Law (turn before got told)
    pub found : Takes i n k told → HasTaken (later ++ got ∷ before) i n k ⊎ Takes i n k rest

  -- another turn begins
  closed : (m : Moment) (later : List Moment) (rest : List Note) → IsTurnOf later [] → IsTurnOf (m ∷ later) rest
  closed m later rest t = record { told = t.told; law = t.law; found = λ x. by (t.found x) }
    where
      by : HasTaken (later ++ got ∷ before) i n k ⊎ ⊥ → HasTaken (m ∷ (later ++ got ∷ before)) i n k ⊎ Takes i n k rest
      by (inl h) = inl (taken_stays (m ∷ []) (later ++ got ∷ before) i n k h)
      by (inr x) = absurd x

  -- one more note of it
  more : (note : Note) (later : List Moment) (rest : List Note) → (Takes i n k (note ∷ rest) → HasTaken (said note ∷ (later ++ got ∷ before)) i n k ⊎ Takes i n k rest) → IsTurnOf later (note ∷ rest) → IsTurnOf (said note ∷ later) rest
  more note later rest splits t = record { told = t.told; law = t.law; found = λ x. by (t.found x) }
    where
      by : HasTaken (later ++ got ∷ before) i n k ⊎ Takes i n k (note ∷ rest) → HasTaken (said note ∷ (later ++ got ∷ before)) i n k ⊎ Takes i n k rest
      by (inl h) = inl (taken_stays (said note ∷ []) (later ++ got ∷ before) i n k h)
      by (inr x) = splits x

  taken_or : (later : List Moment) (rest : List Note) (j m l : ℕ) (status : StatusKind) (answer : List ℕ) → ((i ≡ j) × ((n ≡ m) × (k ≡ l))) ⊎ Takes i n k rest → HasTaken (said (notes.Taken j m l status answer) ∷ (later ++ got ∷ before)) i n k ⊎ Takes i n k rest
  taken_or later rest j m l status answer (inl h) = inl (taken_now (later ++ got ∷ before) i n k j m l status answer h.0 h.1.0 h.1.1)
  taken_or later rest j m l status answer (inr x) = inr x

  pub turn_of : (later : List Moment) (rest : List Note) → EachTurnBefore Law (later ++ got ∷ before) rest → IsTurnOf later rest
  turn_of [] rest h = record { told = rest; law = h.0; found = λ x. inr x }
  turn_of (asked line event ∷ later) rest h = closed (asked line event) later rest (turn_of later [] h.1)
  turn_of (said (notes.Got serial) ∷ later) rest h = closed (said (notes.Got serial)) later rest (turn_of later [] h.1)
  turn_of (said (notes.Ignored serial cause) ∷ later) rest h = closed (said (notes.Ignored serial cause)) later rest (turn_of later [] h.1)
  turn_of (said (notes.TimedOut serial) ∷ later) rest h = closed (said (notes.TimedOut serial)) later rest (turn_of later [] h.1)
  turn_of (said (notes.Seen node generation) ∷ later) rest h = closed (said (notes.Seen node generation)) later rest (turn_of later [] h.1)
  turn_of (said notes.Tick ∷ later) rest h = closed (said notes.Tick) later rest (turn_of later [] h.1)
  turn_of (said notes.Settled ∷ later) rest h = closed (said notes.Settled) later rest (turn_of later [] h.1)
  turn_of (said notes.Stopped ∷ later) rest h = closed (said notes.Stopped) later rest (turn_of later [] h.1)
  turn_of (said (notes.Taken j m l status answer) ∷ later) rest h =
      more (notes.Taken j m l status answer) later rest (λ x. taken_or later rest j m l status answer x) (turn_of later (notes.Taken j m l status answer ∷ rest) h)
  turn_of (said note ∷ later) rest h = more note later rest (λ x. inr x) (turn_of later (note ∷ rest) h)

-- the turns before a packet that was got
pub turns_before : (Law : Turn → Type 0) (later : List Moment) (s : ℕ) (before : List Moment) (rest : List Note) → EachTurnBefore Law (later ++ said (notes.Got s) ∷ before) rest → EachTurn Law before
turns_before Law [] s before rest h = h.1
turns_before Law (asked line event ∷ later) s before rest h = turns_before Law later s before [] h.1
turns_before Law (said (notes.Got serial) ∷ later) s before rest h = turns_before Law later s before [] h.1
turns_before Law (said (notes.Ignored serial cause) ∷ later) s before rest h = turns_before Law later s before [] h.1
turns_before Law (said (notes.TimedOut serial) ∷ later) s before rest h = turns_before Law later s before [] h.1
turns_before Law (said (notes.Seen node generation) ∷ later) s before rest h = turns_before Law later s before [] h.1
turns_before Law (said notes.Tick ∷ later) s before rest h = turns_before Law later s before [] h.1
turns_before Law (said notes.Settled ∷ later) s before rest h = turns_before Law later s before [] h.1
turns_before Law (said notes.Stopped ∷ later) s before rest h = turns_before Law later s before [] h.1
turns_before Law (said note ∷ later) s before rest h = turns_before Law later s before (note ∷ rest) h

-- ---- what is due as the status block of an ORB that waits is got
not_read : {A : Type 0} (x access : Access) (block : StatusBlock) → Some x ≡ Some access → read_block false access.payload ≡ Ok block → x.payload ≡ [] → A
not_read x access block e r none =
    let payload : access.payload ≡ [] = ap (λ (a : Access). a.payload) (sym (same_Some x access e)) ∙ none in
    absurd (let z : Ok block ≡ read_block false [] = sym r ∙ ap (λ bytes. read_block false bytes) payload in cc)

block_of : (p : Packet) (access : Access) (block : StatusBlock) → access_of p ≡ Some access → read_block false access.payload ≡ Ok block → access.is_write ≡ true → access.is_block ≡ true
block_of (write_block header offset payload) access block e r w = ap (λ (a : Access). a.is_block) (sym (same_Some _ access e))
block_of (write_quadlet header offset value) access block e r w = not_read _ access block e r refl
block_of (read_quadlet header offset) access block e r w = not_read _ access block e r refl
block_of (reads_block header offset count) access block e r w = not_read _ access block e r refl
block_of (lock header offset extended payload) access block e r w = not_read _ access block e r refl
block_of (write_response header rcode) access block e r w = absurd (none-some access e)
block_of (read_quadlet_response header rcode value) access block e r w = absurd (none-some access e)
block_of (read_block_response header rcode payload) access block e r w = absurd (none-some access e)
block_of (lock_response header rcode extended payload) access block e r w = absurd (none-some access e)

due_for : (i : ℕ) (past : List Moment) (serial slot : ℕ) (packet : Sending) (block : StatusBlock) → (terms past).sent serial ≡ Some packet → packet.to ≡ suc i → (x : IsStatusWrite packet.bytes slot block) → is_fifo x.access.offset ≡ true → (n k : ℕ) → prepared_in past i slot ≡ Some (orb n k) → waits_in past i n k ≡ true
    → of_one i (taking_at past (receiver_in ((terms past).sent serial)) (access_at (terms past) serial)) ≡ record { initiator = i; one = orb n k; status = block.kind } ∷ []
due_for i past serial slot packet block sent to x fifo n k prepared waits =
    let p = spelled (reading packet.bytes) x.access x.is in
    let wide : x.access.is_block ≡ true = block_of p.packet x.access block p.asks x.reads x.writes in
    let opens : (x.access.is_write && x.access.is_block && is_fifo x.access.offset) ≡ true = all_three x.access.is_write x.access.is_block (is_fifo x.access.offset) x.writes wide fifo in
    ap (λ (so : Option Sending). of_one i (taking_at past (receiver_in so) (access_in (packet_in so)))) sent
    ∙ (ap (λ (a : ℕ). of_one i (taking_at past (Some a) (access_in_bytes packet.bytes))) to
    ∙ (ap (λ (o : Option Access). of_one i (taking_by past i o)) x.is
    ∙ (ap (λ (b : Bool). of_one i (cond b (taking_of past i (read_block false x.access.payload)) [])) opens
    ∙ (ap (λ (r : Result StatusBlock OrbFault). of_one i (taking_of past i r)) x.reads
    ∙ (ap (λ (o : Option ℕ). of_one i (if_waits past i (named_in past i o) block.kind)) x.slot_is
    ∙ (ap (λ (o : Option Orb). of_one i (if_waits past i o block.kind)) prepared
    ∙ (ap (λ (b : Bool). of_one i (cond b (record { initiator = i; one = orb n k; status = block.kind } ∷ []) [])) waits
    ∙ ap (λ (b : Bool). cond b (record { initiator = i; one = orb n k; status = block.kind } ∷ []) []) (itself i))))))))

-- ---- what is known of a history
pub record IsTold (wild : ℕ → Bool) (ms : List Moment) (i : ℕ) : Type 0 where
  pub known : IsKnown wild ms i
  pub once : Once ms
  pub sent : EachMoment (SentSo i) ms
  pub moments : EachMoment (MayStand i) ms
  pub ignored : EachMoment (IgnoredSo i) ms

once_from : (later before : List Moment) → SerialsCount (later ++ before) → Once (later ++ before) → Once before
once_from later before c h serial packet access there of asks write =
    let at : (terms (later ++ before)).sent serial ≡ Some packet = (remains later before c).sent serial (sent_below before serial packet (serials_from later before c) there) ∙ there in
    let most = h serial packet access at of asks write in
    let more = all_grow serial later before in
    omega (arith, most, more)

pub told_from : (wild : ℕ → Bool) (i : ℕ) (later before : List Moment) → IsTold wild (later ++ before) i → IsTold wild before i
told_from wild i later before t = record {
  known = known_from wild i later before t.known;
  once = once_from later before t.known.serials t.once;
  sent = each_from (SentSo i) later before t.sent;
  moments = each_from (MayStand i) later before t.moments;
  ignored = each_from (IgnoredSo i) later before t.ignored;
}

-- ---- the status block of an ORB of the present list, whose status was not taken
module _ (wild : ℕ → Bool) (i : ℕ) (own : wild i ≡ false) (ms : List Moment) (told : IsTold wild ms i) (n k serial slot : ℕ) (packet : Sending) (block : StatusBlock) (to : IsToHost ms i serial packet) (x : IsStatusWrite packet.bytes slot block) (of : status_packet ms i n k ≡ Some serial) (present : present_list ms i ≡ Some n) (untaken : taken_at ms i n k ≡ None) where
  -- its ORB waits, and has the slot, wherever it is judged
  record Waits (past : List Moment) : Type 0 where
    prepared : prepared_in past i slot ≡ Some (orb n k)
    waits : waits_in past i n k ≡ true

  module _ (later past : List Moment) (is : later ++ past ≡ ms) where
    then : IsTold wild past i
    then = told_from wild i later past (subst (λ h. IsTold wild h i) (sym is) told)

    counts : SerialsCount (later ++ past)
    counts = subst SerialsCount (sym is) told.known.serials

    -- it is the packet of this serial
    it_is : (q : Sending) → (terms past).sent serial ≡ Some q → q ≡ packet
    it_is q e =
        let c = counts in
        let now : (terms (later ++ past)).sent serial ≡ Some q = (remains later past c).sent serial (sent_below past serial q (serials_from later past c) e) ∙ e in
        same_Some q packet (sym now ∙ (ap (λ h. (terms h).sent serial) is ∙ to.is))

    module _ (there : (terms past).sent serial ≡ Some packet) (current : packet.generation ≡ (terms past).generation (suc i)) (fresh : (terms past).news serial ≡ 0) where
      statuses : AreStatuses past i
      statuses = statuses_of wild i own past then.known.serials then.once then.known then.sent

      it : IsStatusOf past i serial slot block
      it = statuses.waiting serial slot block packet (record { is = there; from_target = to.from_target; to_host = to.to_host }) x current fresh

      same : (it.list ≡ n) × (it.number ≡ k)
      same = one_orb i ms told.known.serials it.list it.number n k serial (subst (λ h. status_packet h i it.list it.number ≡ Some serial) is (packet_stays i it.list it.number serial later past it.sent)) of

      sent_then : status_packet past i n k ≡ Some serial
      sent_then = subst (λ a. status_packet past i a k ≡ Some serial) same.0 (subst (λ a. status_packet past i it.list a ≡ Some serial) same.1 it.sent)

      low : k < ends past i n
      low = (below wild i own past then.known.passes).packet n k serial sent_then

      begun : n < lists past i
      begun = let l = low in (are_appended wild i n own past then.known.passes).begun (omega (arith, l))

      appended : k < appends past i n
      appended = let l = low in let a = (are_appended wild i n own past then.known.passes).appended in omega (arith, l, a)

      present_then : present_list past i ≡ Some n
      present_then = present_before i n later past (subst (λ h. EachMoment (MayStand i) h) (sym is) told.moments) begun (ap (λ h. present_list h i) is ∙ present)

      none_then : taken_at past i n k ≡ None
      none_then = by (taken_at past i n k) refl
        where
          by : (o : Option TakenStatus) → taken_at past i n k ≡ o → o ≡ None
          by None e = refl
          by (Some t) e =
              let h : HasTaken ms i n k = subst (λ a. HasTaken a i n k) is (taken_stays later past i n k (record { taken = t; is = e })) in
              absurd (none-some h.taken (sym untaken ∙ h.is))

      waits_then : Waits past
      waits_then = record {
        prepared = it.has.there ∙ (ap (λ a. Some (orb a it.number)) same.0 ∙ ap (λ a. Some (orb n a)) same.1);
        waits =
            all_three (is_list (present_list past i) n) (nat_lt k (appends past i n)) (is_none_taken (taken_at past i n k))
            (ap (λ o. is_list o n) present_then ∙ itself n) (is_inside k (appends past i n) appended) (ap is_none_taken none_then);
      }

  -- a packet that was judged as new was so once
  fresh_then : (later past : List Moment) (is : later ++ past ≡ ms) → (terms past).news serial < (terms ms).news serial → (terms past).news serial ≡ 0
  fresh_then later past is more =
      let most = told.once serial packet x.access to.is to.from_target x.is x.writes in
      omega (arith, most, more)

  -- it was not ignored for its slot
  not_shut : NotShut serial ms
  not_shut later past is q e =
      let m = said (notes.Ignored serial causes.Slot) in
      let at : (later ++ m ∷ []) ++ past ≡ ms = sym (moments_split later (m ∷ []) past) ∙ is in
      let same : q ≡ packet = it_is (later ++ m ∷ []) past at q e in
      let there : (terms past).sent serial ≡ Some packet = e ∙ ap (λ y. Some y) same in
      let judged : AreJudged (m ∷ past) = (told_from wild i later (m ∷ past) (subst (λ h. IsTold wild h i) (sym is) told)).known.judged in
      let current : packet.generation ≡ (terms past).generation (suc i) = slot_current serial past packet judged there ∙ ap (λ a. (terms past).generation a) to.to_host in
      let fresh = fresh_then (later ++ m ∷ []) past at (slot_more serial later past ms packet is there) in
      let w = waits_then (later ++ m ∷ []) past at there current fresh in
      let so = each_there (IgnoredSo i) later m past (subst (λ h. EachMoment (IgnoredSo i) h) (sym is) told.ignored) in
      false≢true (sym (so packet there to.to_host slot block x (orb n k) w.prepared) ∙ w.waits)

  -- so it was got, as its transaction was closed, and its status was taken
  module _ (fifo : is_fifo x.access.offset ≡ true) (turns : EachTurn (TakesDue i) ms) (c : WasClosed ms serial) where
    abbrev front : List Moment
    front = c.later ++ said (notes.Got c.got) ∷ []

    whole : front ++ c.before ≡ ms
    whole = sym (moments_split c.later (said (notes.Got c.got) ∷ []) c.before) ∙ c.is

    first : WasGotThen c.before serial
    first =
        let served = c.served.served in
        served_got serial c.before (λ later past is q e. not_shut (front ++ later) past (sym (moments_split front later (said (notes.Ignored serial causes.Slot) ∷ past)) ∙ (ap (λ h. front ++ h) is ∙ whole)) q e) (omega (arith, served))

    g : WasGotThen ms serial
    g = record { later = front ++ first.later; before = first.before; is = sym (moments_split front first.later (said (notes.Got serial) ∷ first.before)) ∙ (ap (λ h. front ++ h) first.is ∙ whole); packet = first.packet; sent = first.sent }

    abbrev m : Moment
    m = said (notes.Got serial)

    at : (g.later ++ m ∷ []) ++ g.before ≡ ms
    at = sym (moments_split g.later (m ∷ []) g.before) ∙ g.is

    there : (terms g.before).sent serial ≡ Some packet
    there = g.sent ∙ ap (λ y. Some y) (it_is (g.later ++ m ∷ []) g.before at g.packet g.sent)

    judged : AreJudged (m ∷ g.before)
    judged = (told_from wild i g.later (m ∷ g.before) (subst (λ h. IsTold wild h i) (sym g.is) told)).known.judged

    current : packet.generation ≡ (terms g.before).generation (suc i)
    current = got_by serial g.before packet judged there ∙ ap (λ a. (terms g.before).generation a) to.to_host

    w : Waits g.before
    w = waits_then (g.later ++ m ∷ []) g.before at there current (fresh_then (g.later ++ m ∷ []) g.before at (got_more serial g.later g.before ms packet g.is there))

    due : of_one i (taking_at g.before (receiver_in ((terms g.before).sent serial)) (access_at (terms g.before) serial)) ≡ record { initiator = i; one = orb n k; status = block.kind } ∷ []
    due = due_for i g.before serial slot packet block there to.to_host x fifo n k w.prepared w.waits

    t : IsTurnOf (TakesDue i) i n k serial g.before g.later []
    t = turn_of (TakesDue i) i n k serial g.before g.later [] (subst (λ h. EachTurn (TakesDue i) h) (sym g.is) turns)

    by_taken : HasTaken (g.later ++ m ∷ g.before) i n k ⊎ ⊥ → ⊥
    by_taken (inl h) = let now : HasTaken ms i n k = subst (λ a. HasTaken a i n k) g.is h in none-some now.taken (sym untaken ∙ now.is)
    by_taken (inr y) = y

    pub not_served : ⊥
    not_served = by_taken (t.found (one_taking i (record { initiator = i; one = orb n k; status = block.kind }) t.told (t.law ∙ due)))
