-- Each write of the data of an ORB but the latest one was closed and served, and behind an end, but as failed, each one; and until a write is judged its slot has the ORB: by induction on the history.
use Rattle.sbp_world.proofs.Words.Std.{arith, ◌≡◌, ◌∙◌, refl, sym, ap, subst, ◌<◌, ◌≤◌, ◌-◌, ◌+◌, ◌^◌, ◌&&◌, not, ℕ, suc, nat_eq, nat_lt, Bool, true, false, cond, List, [], ◌∷◌, ◌++◌, length, Option, Some, None, nat_tests, false≢true, same_Some}
use Rattle.sbp_world.proofs.Words.Wire.{SerialsCount, Cmd, Access, Moment, said, Sending, Terms, terms}
use Rattle.sbp_world.proofs.Words.Target.{Disk, Machine, cut_to}
use Rattle.sbp_world.proofs.Words.Initiator.{chunk, chunk_from, StatusKind}
use Rattle.sbp_world.proofs.Words.Laws.{laid_out, command_at, is_over, orb, prepared_in, slot_at, ClosesOne, OnceAt, OnceLaw, WasServed, is_between, is_done, is_wild, is_write_in, access_at, access_in, access_in_bytes, answer_in, is_under_way, packet_at, packet_in, receiver_in, sender_in, appends, ended_status, ends, EachMoment}
use Rattle.sbp_world.proofs.Words.World.{EndSo, IsWritten, WasWritten, is_behind, is_fresh, AreServed, IsDataOf, WasClosed, DataSo, IsPieceOf, IsAnswered, IsDataWrite, IsInTurn, follows, is_first, HasSlot, TakenSo}
use Rattle.orb_layout.specs.declared.status.StatusKind.TheVariants as kinds
use Rattle.sbp_journal.specs.declared.note.Note.TheVariants as notes
use Rattle.sbp_world.proofs.Hosts.Remaining.{remains}
use Rattle.sbp_world.proofs.Hosts.SentMoments.{sent_below, serials_from}
use Rattle.sbp_world.proofs.Lists.DataHolds.{slot_stays_unless}
use Rattle.sbp_world.proofs.Lists.DataOpen.{none_ended}
use Rattle.sbp_world.proofs.Lists.DataServed.{HasEnded, IsOwned, closed_on, dry_before, gen_low, grows, inside, into_turn, mid, moved, over_ended, owner, ran_so, seen_low, shrink, turn, whole}
use Rattle.sbp_world.proofs.Lists.DataLaid.{IsWholeFrom, whole_from}
use Rattle.sbp_world.proofs.Lists.DataSlots.{command_lasts, prepared_below, same_orb, slot_lasts}
use Rattle.sbp_world.proofs.Lists.DataWaits.{never_again, under_way_now}
use Rattle.sbp_world.proofs.Lists.OpenNews.{all_grow}
use Rattle.sbp_world.proofs.Lists.Passing.{PassLaw}
use Rattle.sbp_world.proofs.Lists.Rises.{Rises}
use Rattle.sbp_world.proofs.Lists.StatusKnown.{each_from, generation_grows}
use Rattle.sbp_world.proofs.Lists.StatusMoments.{ended_below, ended_stays}
use Rattle.sbp_world.proofs.Lists.TakenHistory.{WasEnded, ended_moment}
use Rattle.sbp_world.proofs.Common.{itself, moments_split}
use Rattle.sbp_world.proofs.Lists.AnswersCarriedBefore.{tail_is}

all_true : (a b c : Bool) → a ≡ true → b ≡ true → c ≡ true → a && b && c ≡ true
all_true true true true e f g = refl
all_true true true false e f g = absurd (false≢true g)
all_true true false c e f g = absurd (false≢true f)
all_true false b c e f g = absurd (false≢true e)

all_false : (a b c : Bool) → a ≡ false → b ≡ false → c ≡ false → not a && not b && not c ≡ true
all_false false false false e f g = refl
all_false false false true e f g = absurd (false≢true (sym g))
all_false false true c e f g = absurd (false≢true (sym f))
all_false true b c e f g = absurd (false≢true (sym e))

-- a packet from the target to an initiator
pub record IsSent (t : Terms) (i serial : ℕ) : Type 0 where
  pub packet : Sending
  pub sent : t.sent serial ≡ Some packet
  pub from : packet.from ≡ 0
  pub to : packet.to ≡ suc i

sent_by : (t : Terms) (i serial : ℕ) (so : Option Sending) → t.sent serial ≡ so → sender_in so ≡ Some 0 → receiver_in so ≡ Some (suc i) → IsSent t i serial
sent_by t i serial None e f g = absurd (let z : None ≡ Some 0 = f in cc)
sent_by t i serial (Some q) e f g = record { packet = q; sent = e; from = same_Some q.from 0 f; to = same_Some q.to (suc i) g }

module _ (start : List Disk) (wild : ℕ → Bool) (i : ℕ) (own : wild i ≡ false) where
  -- ---- what each history of a run is
  pub record IsSound (ms : List Moment) : Type 0 where
    pub passes : PassLaw wild ms
    pub rises : Rises ms
    pub serials : SerialsCount ms
    pub each : EachMoment (DataSo start i) ms
    pub ends_so : EachMoment (EndSo i) ms
    pub once : OnceLaw wild ms
    pub taken : EachMoment (TakenSo i) ms
    pub honest : (serial : ℕ) (packet : Sending) → (terms ms).sent serial ≡ Some packet → packet.from ≡ 0 → packet.injected ≡ false

  pub sound_from : (later before : List Moment) → IsSound (later ++ before) → IsSound before
  sound_from later before f =
      let c = serials_from later before f.serials in
      record {
        passes = each_from _ later before f.passes;
        rises = each_from _ later before f.rises;
        serials = c;
        each = each_from (DataSo start i) later before f.each;
        ends_so = each_from (EndSo i) later before f.ends_so;
        once = each_from (OnceAt wild) later before f.once;
        taken = each_from (TakenSo i) later before f.taken;
        honest = λ serial packet e of. f.honest serial packet ((remains later before f.serials).sent serial (sent_below before serial packet c e) ∙ e) of;
      }

  -- ---- a slot has the ORB while that has not ended, but as failed
  module _ (ms : List Moment) (f : IsSound ms) (n k serial slot : ℕ) (packet : Sending) (d : IsDataOf start ms i n k serial packet slot) (current : packet.generation ≡ (terms ms).generation (suc i)) (still : (status : StatusKind) → ended_status ms i n k ≡ Some status → (status ≡ kinds.Failed → ⊥) → ⊥) where
    abbrev T : List Moment
    T = turn i ms n k serial slot packet d

    abbrev M : List Moment
    M = mid i ms n k serial slot packet d

    at : M ++ T ≡ ms
    at = whole i ms n k serial slot packet d

    none_over : (front back : List Moment) → front ++ back ≡ M → is_over (back ++ T) i (orb n k) ≡ true → ⊥
    none_over front back is o =
        let all : front ++ (back ++ T) ≡ ms = moments_split front back T ∙ (ap (λ h. h ++ T) is ∙ at) in
        let there = sound_from front (back ++ T) (subst IsSound (sym all) f) in
        let x : HasEnded i (back ++ T) n k = over_ended i wild own (back ++ T) there.passes there.taken (orb n k) o in
        still x.status (ap (λ h. ended_status h i n k) (sym all) ∙ (ended_stays wild i own front (back ++ T) n k (subst (PassLaw wild) (sym all) f.passes) x.below ∙ x.is)) x.proper

    pub holds : HasSlot ms i slot (orb n k)
    holds =
        let seen = d.was.seen in
        let more = grows i ms n k serial slot packet d f.rises (suc i) in
        let here : packet.generation ≡ (terms T).generation (suc i) = omega (arith, seen, more, current) in
        let then : (terms T).generation (suc i) ≡ (terms (M ++ T)).generation (suc i) = sym here ∙ (current ∙ ap (λ h. (terms h).generation (suc i)) (sym at)) in
        let held : HasSlot T i slot (orb n k) = moved i ms n k serial slot packet d (λ a b. HasSlot T i slot (orb a b)) (d.was.held here) in
        subst (λ h. HasSlot h i slot (orb n k)) at (slot_stays_unless i slot (orb n k) M T (subst Rises (sym at) f.rises) then none_over held)

  -- ---- the write that is answered in a turn
  module _ (B : List Moment) (f : IsSound B) (g : AreServed start B i) (n k : ℕ) (m : Machine) (got : ℕ) (a : IsAnswered B i n k m got) where
    pub sent : IsSent (terms B) i a.serial
    sent = sent_by (terms B) i a.serial ((terms B).sent a.serial) refl a.from a.to

    abbrev pub q : Sending
    q = sent.packet

    abbrev pub s : ℕ
    s = slot_at B i n k

    access_is : access_in_bytes q.bytes ≡ Some a.access
    access_is = ap (λ so. access_in (packet_in so)) (sym sent.sent) ∙ a.is

    writes : IsDataWrite q.bytes s
    writes = record { access = a.access; is = access_is; writes = a.writes; goes = a.stands }

    owned : IsOwned start i B a.serial s q
    owned = owner start i B f.each a.serial s q (record { is = sent.sent; from_target = sent.from; to_host = sent.to }) writes

    gen_is : q.generation ≡ (terms B).generation 0
    gen_is = under_way_now (terms B) a.serial q sent.sent a.under_way ∙ ap (λ x. (terms B).generation x) sent.from

    pub answered_low : (terms B).generation 0 ≤ (terms B).generation (suc i)
    answered_low = let x = seen_low i B owned.list owned.number a.serial s q owned.of f.rises in let y = gen_is in omega (arith, x, y)

    not_closed : WasClosed B a.serial → ⊥
    not_closed w = never_again w.later w.before w.got a.serial (subst SerialsCount (sym w.is) f.serials) w.closed (subst (λ h. is_under_way (terms h) a.serial ≡ true) (sym w.is) a.under_way)

    -- it was served
    module _ (now : OnceLaw wild (said (notes.Got got) ∷ B)) where
      closes : ClosesOne wild (terms B) (Some a.serial) (answer_in (packet_at (terms B) got))
      closes = subst (λ o. ClosesOne wild (terms B) o (answer_in (packet_at (terms B) got))) a.closed now.0.1

      between : is_between wild ((terms B).sent a.serial) ≡ true
      between =
          ap (λ so. is_between wild so) sent.sent
          ∙ all_false q.injected (is_wild wild q.from) (is_wild wild q.to) (f.honest a.serial q sent.sent sent.from) (ap (λ x. is_wild wild x) sent.from) (ap (λ x. is_wild wild x) sent.to ∙ own)

      served : WasServed (terms B) a.serial
      served =
          closes
          (all_true (is_between wild ((terms B).sent a.serial)) (is_write_in (access_at (terms B) a.serial)) (is_done (answer_in (packet_at (terms B) got))) between
          (ap (λ o. is_write_in o) a.is ∙ a.writes) (ap (λ x. is_done x) a.done))

    module _ (current : (terms B).generation 0 ≡ (terms B).generation (suc i)) (there : prepared_in B i s ≡ Some (orb n k)) where
      gen_now : q.generation ≡ (terms B).generation (suc i)
      gen_now = gen_is ∙ current

      has : HasSlot B i s (orb owned.list owned.number)
      has = holds B f owned.list owned.number a.serial s q owned.of gen_now (λ status e proper. not_closed (g.ended owned.list owned.number a.serial s q status owned.of e proper gen_now))

      same : (owned.list ≡ n) × (owned.number ≡ k)
      same = same_orb owned.list owned.number n k (sym has.there ∙ there)

      -- so it is of this ORB
      pub its : IsDataOf start B i n k a.serial q s
      its = record {
        sent = owned.of.sent;
        writes = owned.of.writes;
        later = owned.of.later;
        before = owned.of.before;
        is = owned.of.is;
        was = owned.of.was;
        list_is = owned.of.list_is ∙ same.0;
        number_is = owned.of.number_is ∙ same.1;
      }

      abbrev pub A : List Moment
      A = turn i B n k a.serial s q its

      abbrev pub mc : Machine
      mc = its.was.machine

      pub access_same : a.access ≡ its.writes.access
      access_same = same_Some a.access its.writes.access (sym access_is ∙ its.writes.is)

      pieced : IsPieceOf A i n k mc its.writes.access.offset its.was.size
      pieced = moved i B n k a.serial s q its (λ x y. IsPieceOf A i x y mc its.writes.access.offset its.was.size) its.was.piece

      passes_there : PassLaw wild (mid i B n k a.serial s q its ++ A)
      passes_there = subst (PassLaw wild) (sym (whole i B n k a.serial s q its)) f.passes

      appended : k < appends A i n
      appended = prepared_below i n k wild A (each_from _ (mid i B n k a.serial s q its) A passes_there) (slot_at A i n k) pieced.has

      slot_there : slot_at A i n k ≡ s
      slot_there = sym (slot_lasts i n k wild (mid i B n k a.serial s q its) A passes_there appended) ∙ ap (λ h. slot_at h i n k) (whole i B n k a.serial s q its)

      cmd_same : pieced.cmd ≡ a.cmd
      cmd_same = same_Some pieced.cmd a.cmd (sym pieced.command ∙ (sym (command_lasts i n k wild (mid i B n k a.serial s q its) A passes_there appended) ∙ (ap (λ h. command_at h i n k) (whole i B n k a.serial s q its) ∙ a.command)))

      abbrev pub limit : ℕ
      limit = 2 ^ (a.cmd.max_payload + 2)

      piece_here : chunk its.writes.access.offset its.was.size ≡ cut_to (length mc.answer - mc.written) (chunk_from (laid_out s a.cmd a.cmd.segments) mc.written limit)
      piece_here =
          subst (λ (x : Cmd). chunk its.writes.access.offset its.was.size ≡ cut_to (length mc.answer - mc.written) (chunk_from (laid_out s x x.segments) mc.written (2 ^ (x.max_payload + 2)))) cmd_same
          (subst (λ y. chunk its.writes.access.offset its.was.size ≡ cut_to (length mc.answer - mc.written) (chunk_from (laid_out y pieced.cmd pieced.cmd.segments) mc.written (2 ^ (pieced.cmd.max_payload + 2)))) slot_there pieced.piece)

      -- and it wrote a whole chunk, behind as many bytes as were written by then
      pub its_whole : IsWholeFrom s a.cmd limit mc.written a.done_before (length mc.answer - mc.written) (length m.answer) its.writes.access.offset its.was.size (length its.writes.access.payload)
      its_whole =
          whole_from s a.cmd limit mc.written a.done_before (length mc.answer - mc.written) (length m.answer) its.writes.access.offset its.was.size (length its.writes.access.payload) piece_here
          (subst (λ (x : Access). chunk x.offset (length x.payload) ≡ cut_to (length m.answer - a.done_before) (chunk_from (laid_out s a.cmd a.cmd.segments) a.done_before limit)) access_same a.piece)
          (subst (λ (x : Access). 0 < length x.payload) access_same a.some) a.whole

      module _ (serial slot : ℕ) (packet : Sending) (d : IsDataOf start B i n k serial packet slot) where
        -- none was sent behind it
        pub none_behind : a.serial < serial → ⊥
        none_behind less =
            let early = into_turn i B n k serial slot packet d f.serials n k a.serial s q its less in
            let T = turn i B n k serial slot packet d in
            let all = whole i B n k serial slot packet d in
            let there_rises = each_from _ (mid i B n k serial slot packet d) T (subst Rises (sym all) f.rises) in
            let low = gen_low i T n k a.serial s q early there_rises in
            let of = d.was.own in
            let high = gen_low i B n k serial slot packet d f.rises in
            let x = gen_is in
            let level : packet.generation ≡ (terms B).generation 0 = omega (arith, low, of, high, x) in
            not_closed (g.earlier n k a.serial serial s slot q packet its d less (level ∙ current))

      module _ (later : List Moment) (once : OnceLaw wild (later ++ said (notes.Got got) ∷ B)) (serial slot : ℕ) (packet : Sending) (d : IsDataOf start B i n k serial packet slot) where
        now_closed : serial ≡ a.serial → WasClosed (later ++ said (notes.Got got) ∷ B) serial
        now_closed e = record { later = later; before = B; got = got; is = refl; closed = a.closed ∙ ap (λ x. Some x) (sym e); served = subst (λ x. WasServed (terms B) x) (sym e) (served (each_from (OnceAt wild) later (said (notes.Got got) ∷ B) once)) }

        was_closed : WasClosed B serial → WasClosed (later ++ said (notes.Got got) ∷ B) serial
        was_closed w = closed_on later (said (notes.Got got) ∷ B) serial (closed_on (said (notes.Got got) ∷ []) B serial w)

        pub closed_by_now : WasClosed (later ++ said (notes.Got got) ∷ B) serial
        closed_by_now = by (nat_lt serial a.serial) (nat_eq serial a.serial) refl refl
          where
            by : (x y : Bool) → nat_lt serial a.serial ≡ x → nat_eq serial a.serial ≡ y → WasClosed (later ++ said (notes.Got got) ∷ B) serial
            by true y e h =
                let less : serial < a.serial = grind (arith, nat_tests) in
                was_closed (g.earlier n k serial a.serial slot s packet q d its less gen_now)
            by false true e h = now_closed (let z : serial ≡ a.serial = grind (arith, nat_tests) in z)
            by false false e h = absurd (none_behind serial slot packet d (let z : a.serial < serial = grind (arith, nat_tests) in z))

  ends_there : (past : List Moment) (n k : ℕ) (status : StatusKind) → ended_status (said (notes.Ended i (Some n) (Some k) status) ∷ past) i n k ≡ Some status
  ends_there past n k status =
      ap (λ b. cond b (cond (nat_eq n n) (cond (nat_eq k k) (Some status) (ended_status past i n k)) (ended_status past i n k)) (ended_status past i n k)) (itself i)
      ∙ ap (λ b. cond b (cond (nat_eq k k) (Some status) (ended_status past i n k)) (ended_status past i n k)) (itself n)
      ∙ ap (λ b. cond b (Some status) (ended_status past i n k)) (itself k)

  -- ---- at a history, behind those before it
  abbrev pub Before : List Moment → Type 0
  Before ms = (front B : List Moment) (z : Moment) (back : List Moment) → front ++ z ∷ (back ++ B) ≡ ms → AreServed start B i

  module _ (ms : List Moment) (f : IsSound ms) (below : Before ms) where
    -- one before another
    module _ (n k serial next slot other : ℕ) (packet following : Sending) (d : IsDataOf start ms i n k serial packet slot) (e : IsDataOf start ms i n k next following other) (less : serial < next) (current : following.generation ≡ (terms ms).generation (suc i)) where
      abbrev pub B : List Moment
      B = turn i ms n k next other following e

      abbrev sends : Moment
      sends = said (notes.Sent next following.generation following.from following.to following.bytes)

      whole_is : mid i ms n k next other following e ++ B ≡ ms
      whole_is = whole i ms n k next other following e

      sound : IsSound B
      sound = sound_from (mid i ms n k next other following e) B (subst IsSound (sym whole_is) f)

      served_before : AreServed start B i
      served_before = below e.later B sends e.was.later (moments_split e.later (sends ∷ e.was.later) B ∙ whole_is)

      early : IsDataOf start B i n k serial packet slot
      early = into_turn i ms n k next other following e f.serials n k serial slot packet d less

      level : (terms B).generation 0 ≡ (terms B).generation (suc i)
      level =
          let a = e.was.own in
          let b = e.was.seen in
          let c = grows i ms n k next other following e f.rises (suc i) in
          omega (arith, a, b, c, current)

      there : prepared_in B i (slot_at B i n k) ≡ Some (orb n k)
      there = moved i ms n k next other following e (λ x y. prepared_in B i (slot_at B i x y) ≡ Some (orb x y)) e.was.piece.has

      extends : WasClosed e.before serial → WasClosed ms serial
      extends w = subst (λ h. WasClosed h serial) (sym (moments_split e.later (sends ∷ []) e.before) ∙ e.is) (closed_on (e.later ++ sends ∷ []) e.before serial w)

      sound_then : IsSound e.before
      sound_then = sound_from (e.later ++ sends ∷ []) e.before (subst IsSound (sym (sym (moments_split e.later (sends ∷ []) e.before) ∙ e.is)) f)

      by_turn : (m : Machine) → IsInTurn e.before B i n k m → WasClosed e.before serial
      by_turn m (is_first none start) = let some = ran_so i B n k serial slot packet early in absurd (omega (arith, none, some))
      by_turn m (follows got later is a) =
          subst (λ h. WasClosed h serial) is
          (closed_by_now B sound served_before n k m got a level there later (subst (OnceLaw wild) (sym is) sound_then.once) serial slot packet early)

      earlier_closed : WasClosed ms serial
      earlier_closed = extends (by_turn e.was.machine (moved i ms n k next other following e (λ x y. IsInTurn e.before B i x y e.was.machine) e.was.turn))

    -- each of an ORB that ended
    module _ (n k : ℕ) (status : StatusKind) (e : ended_status ms i n k ≡ Some status) (proper : status ≡ kinds.Failed → ⊥) where
      pub moment : WasEnded i ms n k status
      moment = ended_moment i ms n k status e

      abbrev pub ended_note : Moment
      ended_note = said (notes.Ended i (Some n) (Some k) status)

      abbrev pub past : List Moment
      past = moment.before

      abbrev X : List Moment
      X = ended_note ∷ past

      sound_end : IsSound X
      sound_end = sound_from moment.later X (subst IsSound (sym moment.is) f)

      pub sound_past : IsSound past
      sound_past = sound_from (ended_note ∷ []) past sound_end

      pub at_past : (moment.later ++ ended_note ∷ []) ++ past ≡ ms
      at_past = sym (moments_split moment.later (ended_note ∷ []) past) ∙ moment.is

      so : EndSo i ended_note past
      so = sound_end.ends_so.0

      pub w : WasWritten past i n k
      w = so refl proper

      abbrev pub C : List Moment
      C = w.before

      then_sound : IsSound (w.later ++ C)
      then_sound = subst IsSound (sym w.is) sound_past

      pub at_turn : ((moment.later ++ ended_note ∷ []) ++ w.later) ++ C ≡ ms
      at_turn = sym (moments_split (moment.later ++ ended_note ∷ []) w.later C) ∙ (ap (λ h. (moment.later ++ ended_note ∷ []) ++ h) w.is ∙ at_past)

      pub sound_turn : IsSound C
      sound_turn = sound_from w.later C then_sound

      pub served_turn : AreServed start C i
      served_turn = below moment.later C ended_note w.later (ap (λ h. moment.later ++ ended_note ∷ h) w.is ∙ moment.is)

      sees_more : (terms C).generation (suc i) ≤ (terms ms).generation (suc i)
      sees_more =
          let a = generation_grows w.later C (suc i) then_sound.rises in
          let b : (terms (w.later ++ C)).generation (suc i) ≡ (terms past).generation (suc i) = ap (λ h. (terms h).generation (suc i)) w.is in
          let c = generation_grows (moment.later ++ ended_note ∷ []) past (suc i) (subst Rises (sym at_past) f.rises) in
          let g : (terms ((moment.later ++ ended_note ∷ []) ++ past)).generation (suc i) ≡ (terms ms).generation (suc i) = ap (λ h. (terms h).generation (suc i)) at_past in
          omega (arith, a, b, c, g)

      module _ (serial slot : ℕ) (packet : Sending) (d : IsDataOf start ms i n k serial packet slot) where
        abbrev leaving_note : Moment
        leaving_note = said (notes.Sent serial packet.generation packet.from packet.to packet.bytes)

        -- it was sent before the end
        not_behind : (terms past).count < serial → ⊥
        not_behind high =
            let x = inside serial packet.generation packet.from packet.to packet.bytes d.before moment.later X d.later (d.is ∙ sym moment.is) (subst SerialsCount (sym moment.is) f.serials) high in
            let front = d.later ++ leaving_note ∷ [] in
            let at_it : front ++ d.before ≡ ms = sym (moments_split d.later (leaving_note ∷ []) d.before) ∙ d.is in
            let there : IsSound d.before = sound_from front d.before (subst IsSound (sym at_it) f) in
            let passes : PassLaw wild (x.0 ++ X) = subst (PassLaw wild) (sym x.1) there.passes in
            let low : k < ends X i n = ended_below past i n k status (sound_end.passes.0 own).turn.number in
            let ended_there : ended_status d.before i n k ≡ Some status = ap (λ h. ended_status h i n k) (sym x.1) ∙ (ended_stays wild i own x.0 X n k passes low ∙ ends_there past n k status) in
            proper (moved i ms n k serial slot packet d (λ a b. (st : StatusKind) → ended_status d.before i a b ≡ Some st → st ≡ kinds.Failed) d.was.still status ended_there)

        within : serial ≤ (terms past).count
        within = by_test (nat_lt (terms past).count serial) refl
          where
            by_test : (b : Bool) → nat_lt (terms past).count serial ≡ b → serial ≤ (terms past).count
            by_test true g = absurd (not_behind (let z : (terms past).count < serial = grind (arith, nat_tests) in z))
            by_test false g = grind (arith, nat_tests)

        inner : IsDataOf start past i n k serial packet slot
        inner = shrink i (moment.later ++ ended_note ∷ []) past n k serial slot packet (subst SerialsCount (sym at_past) f.serials) within (subst (λ h. IsDataOf start h i n k serial packet slot) (sym at_past) d)

        then_inner : IsDataOf start (w.later ++ C) i n k serial packet slot
        then_inner = subst (λ h. IsDataOf start h i n k serial packet slot) (sym w.is) inner

        pub first_data : IsDataOf start C i n k serial packet slot
        first_data = shrink i w.later C n k serial slot packet then_sound.serials (dry_before i w.later C w.alone then_sound.serials serial slot packet then_inner.sent then_inner.writes) then_inner

        abbrev D : List Moment
        D = turn i C n k serial slot packet first_data

        abbrev N : List Moment
        N = mid i C n k serial slot packet first_data

        pub slot_same : slot_at C i n k ≡ slot
        slot_same =
            let all : N ++ D ≡ C = whole i C n k serial slot packet first_data in
            let there : PassLaw wild (N ++ D) = subst (PassLaw wild) (sym all) sound_turn.passes in
            let prepared : prepared_in D i (slot_at D i n k) ≡ Some (orb n k) = moved i C n k serial slot packet first_data (λ x y. prepared_in D i (slot_at D i x y) ≡ Some (orb x y)) first_data.was.piece.has in
            let low = prepared_below i n k wild D (each_from _ N D there) (slot_at D i n k) prepared in
            ap (λ h. slot_at h i n k) (sym all) ∙ (slot_lasts i n k wild N D there low ∙ moved i C n k serial slot packet first_data (λ x y. slot_at D i x y ≡ slot) first_data.was.slot_is)

        module _ (current : packet.generation ≡ (terms ms).generation (suc i)) where
          pub end_level : (m : Machine) (got : ℕ) → IsAnswered C i n k m got → (terms C).generation 0 ≡ (terms C).generation (suc i)
          end_level m got a =
              let x = answered_low C sound_turn served_turn n k m got a in
              let y = gen_low i C n k serial slot packet first_data sound_turn.rises in
              let z = sees_more in
              omega (arith, x, y, z, current)

          pub end_there : (m : Machine) (got : ℕ) → IsAnswered C i n k m got → prepared_in C i (slot_at C i n k) ≡ Some (orb n k)
          end_there m got a =
              let x = answered_low C sound_turn served_turn n k m got a in
              let y = gen_low i C n k serial slot packet first_data sound_turn.rises in
              let z = sees_more in
              let here : packet.generation ≡ (terms C).generation (suc i) = omega (arith, x, y, z, current) in
              let number : k ≡ ends C i n = w.number_is in
              let h = holds C sound_turn n k serial slot packet first_data here (λ st g fails. fails (none_ended wild i own C sound_turn.passes n st (subst (λ b. ended_status C i n b ≡ Some st) number g))) in
              ap (λ b. prepared_in C i b) slot_same ∙ h.there

          by_written : IsWritten past C i n k → WasClosed past serial
          by_written (is_fresh none) = let some = ran_so i C n k serial slot packet first_data in absurd (omega (arith, none, some))
          by_written (is_behind got later is m filled a) =
              subst (λ h. WasClosed h serial) is
              (closed_by_now C sound_turn served_turn n k m got a (end_level m got a) (end_there m got a) later (subst (OnceLaw wild) (sym is) sound_past.once) serial slot packet first_data)

          ended_closed : WasClosed ms serial
          ended_closed = subst (λ h. WasClosed h serial) at_past (closed_on (moment.later ++ ended_note ∷ []) past serial (by_written w.written))

    -- one that was not judged
    still_held : (n k serial slot : ℕ) (packet : Sending) (d : IsDataOf start ms i n k serial packet slot) → packet.generation ≡ (terms ms).generation (suc i) → (terms ms).news serial ≡ 0 → HasSlot ms i slot (orb n k)
    still_held n k serial slot packet d current fresh =
        holds ms f n k serial slot packet d current
        (λ status e proper.
        let w = ended_closed n k status e proper serial slot packet d current in
        let front = w.later ++ said (notes.Got w.got) ∷ [] in
        let at_it : front ++ w.before ≡ ms = sym (moments_split w.later (said (notes.Got w.got) ∷ []) w.before) ∙ w.is in
        let more = all_grow serial front w.before in
        let same : (terms (front ++ w.before)).news serial ≡ (terms ms).news serial = ap (λ h. (terms h).news serial) at_it in
        let one = w.served.once in
        omega (arith, more, same, one, fresh))

    pub served_at : AreServed start ms i
    served_at = record {
      earlier = λ n k serial next slot other packet following d e less current. earlier_closed n k serial next slot other packet following d e less current;
      ended = λ n k serial slot packet status d e proper current. ended_closed n k status e proper serial slot packet d current;
      held = still_held;
    }

  -- ---- by induction
  pub before_all : (ms : List Moment) → IsSound ms → Before ms
  before_all [] f [] B z back e = absurd (let y : z ∷ (back ++ B) ≡ [] = e in cc)
  before_all [] f (x ∷ front) B z back e = absurd (let y : x ∷ (front ++ z ∷ (back ++ B)) ≡ [] = e in cc)
  before_all (m ∷ past) f [] B z [] e = subst (λ h. AreServed start h i) (sym (tail_is z m B past e)) (served_at past (sound_from (m ∷ []) past f) (before_all past (sound_from (m ∷ []) past f)))
  before_all (m ∷ past) f [] B z (y ∷ back) e = before_all past (sound_from (m ∷ []) past f) [] B y back (tail_is z m (y ∷ (back ++ B)) past e)
  before_all (m ∷ past) f (x ∷ front) B z back e = before_all past (sound_from (m ∷ []) past f) front B z back (tail_is x m (front ++ z ∷ (back ++ B)) past e)

  pub are_served : (ms : List Moment) → IsSound ms → AreServed start ms i
  are_served ms f = served_at ms f (before_all ms f)
