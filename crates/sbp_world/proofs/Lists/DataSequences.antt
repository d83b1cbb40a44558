-- The data of an answer are written in sequence: the first write begins with the first byte, each later one behind the bytes of the one before it, and the last one ends with the buffer.
use Rattle.sbp_world.proofs.Words.Std.{arith, ◌≡◌, ◌∙◌, refl, sym, ap, subst, ◌<◌, ◌≤◌, ◌+◌, ◌^◌, ℕ, suc, nat_lt, Bool, true, false, List, [], ◌∷◌, ◌++◌, length, Some, nat_tests, same_Some}
use Rattle.sbp_world.proofs.Words.Wire.{SerialsCount, Access, Cmd, Moment, said, Sending, terms}
use Rattle.sbp_world.proofs.Words.Target.{Disk, Machine}
use Rattle.sbp_world.proofs.Words.Initiator.{StatusKind, bytes_of, chunk, chunk_from}
use Rattle.sbp_world.proofs.Words.Laws.{laid_out, command_at, orb, prepared_in, slot_at, OnceLaw, appends, ended_status}
use Rattle.sbp_world.proofs.Words.World.{IsWritten, is_behind, is_fresh, AreInSequence, IsReached, IsWrittenTo, begins, goes_on, AreServed, IsDataOf, WasClosed, IsAnswered, IsInTurn, follows, is_first}
use Rattle.orb_layout.specs.declared.status.StatusKind.TheVariants as kinds
use Rattle.sbp_journal.specs.declared.note.Note.TheVariants as notes
use Rattle.sbp_world.proofs.Hosts.Remaining.{remains}
use Rattle.sbp_world.proofs.Hosts.SentMoments.{sent_below, serials_from}
use Rattle.sbp_world.proofs.Lists.DataClosed.{Before, C, at_past, at_turn, before_all, end_level, end_there, ended_note, first_data, moment, past, sound_past, sound_turn, w, IsSound, are_served, closed_by_now, its, its_whole, access_same, none_behind, sent, sound_from}
use Rattle.sbp_world.proofs.Lists.DataServed.{closed_on, grows, into_turn, mid, moved, ran_so, turn, whole}
use Rattle.sbp_world.proofs.Lists.DataSlots.{command_lasts, prepared_below, slot_lasts}
use Rattle.sbp_world.proofs.Lists.Passing.{PassLaw}
use Rattle.sbp_world.proofs.Common.{moments_split}

module _ (start : List Disk) (wild : ℕ → Bool) (i : ℕ) (own : wild i ≡ false) where
  -- ---- behind the turn in which a write is answered
  module _ (B : List Moment) (f : IsSound start wild i own B) (n k : ℕ) (m : Machine) (got : ℕ) (a : IsAnswered B i n k m got) (current : (terms B).generation 0 ≡ (terms B).generation (suc i)) (there : prepared_in B i (slot_at B i n k) ≡ Some (orb n k)) where
    abbrev g : AreServed start B i
    g = are_served start wild i own B f

    abbrev c : IsDataOf start B i n k a.serial (sent start wild i own B f g n k m got a).packet (slot_at B i n k)
    c = its start wild i own B f g n k m got a current there

    abbrev q : Sending
    q = (sent start wild i own B f g n k m got a).packet

    same_access : a.access ≡ c.writes.access
    same_access = access_same start wild i own B f g n k m got a current there

    last_less : (serial slot : ℕ) (packet : Sending) → IsDataOf start B i n k serial packet slot → serial ≤ a.serial
    last_less serial slot packet d = by (nat_lt a.serial serial) refl
      where
        by : (b : Bool) → nat_lt a.serial serial ≡ b → serial ≤ a.serial
        by true e = absurd (none_behind start wild i own B f g n k m got a current there serial slot packet d (let z : a.serial < serial = grind (arith, nat_tests) in z))
        by false e = grind (arith, nat_tests)

    module _ (later front ms : List Moment) (once : OnceLaw wild (later ++ said (notes.Got got) ∷ B)) (at : front ++ (later ++ said (notes.Got got) ∷ B) ≡ ms) (fm : IsSound start wild i own ms) (next : ℕ) (less : a.serial < next) (inside : (other place : ℕ) (one : Sending) → IsDataOf start ms i n k other one place → other < next → IsDataOf start B i n k other one place) where
      abbrev all : List Moment
      all = front ++ (later ++ said (notes.Got got) ∷ [])

      whole_is : all ++ B ≡ ms
      whole_is = sym (moments_split front (later ++ said (notes.Got got) ∷ []) B) ∙ (ap (λ h. front ++ h) (sym (moments_split later (said (notes.Got got) ∷ []) B)) ∙ at)

      serials : SerialsCount (all ++ B)
      serials = subst SerialsCount (sym whole_is) fm.serials

      passes : PassLaw wild (all ++ B)
      passes = subst (PassLaw wild) (sym whole_is) fm.passes

      appended : k < appends B i n
      appended = prepared_below i n k wild B f.passes (slot_at B i n k) there

      slot_is : slot_at B i n k ≡ slot_at ms i n k
      slot_is = sym (slot_lasts i n k wild all B passes appended) ∙ ap (λ h. slot_at h i n k) whole_is

      command_is : command_at ms i n k ≡ Some a.cmd
      command_is = ap (λ h. command_at h i n k) (sym whole_is) ∙ (command_lasts i n k wild all B passes appended ∙ a.command)

      whole_in : (cmd : Cmd) → command_at ms i n k ≡ Some cmd → chunk_from (laid_out (slot_at ms i n k) cmd cmd.segments) c.was.machine.written (2 ^ (cmd.max_payload + 2)) ≡ Some (chunk c.writes.access.offset (length c.writes.access.payload))
      whole_in cmd e =
          let same : a.cmd ≡ cmd = same_Some a.cmd cmd (sym command_is ∙ e) in
          subst (λ (x : Cmd). chunk_from (laid_out (slot_at ms i n k) x x.segments) c.was.machine.written (2 ^ (x.max_payload + 2)) ≡ Some (chunk c.writes.access.offset (length c.writes.access.payload))) same
          (subst (λ y. chunk_from (laid_out y a.cmd a.cmd.segments) c.was.machine.written (2 ^ (a.cmd.max_payload + 2)) ≡ Some (chunk c.writes.access.offset (length c.writes.access.payload))) slot_is (its_whole start wild i own B f g n k m got a current there).whole)

      pub written_to : IsWrittenTo start ms i n k next m.written
      written_to = record {
        serial = a.serial;
        slot = slot_at B i n k;
        packet = q;
        of = record {
          sent = record { is = ap (λ h. (terms h).sent a.serial) (sym whole_is) ∙ ((remains all B serials).sent a.serial (sent_below B a.serial q f.serials c.sent.is) ∙ c.sent.is); from_target = c.sent.from_target; to_host = c.sent.to_host };
          writes = c.writes;
          later = all ++ c.later;
          before = c.before;
          is = sym (moments_split all c.later (said (notes.Sent a.serial q.generation q.from q.to q.bytes) ∷ c.before)) ∙ (ap (λ h. all ++ h) c.is ∙ whole_is);
          was = c.was;
          list_is = c.list_is;
          number_is = c.number_is;
        };
        less = less;
        latest = λ other place one o l. last_less other place one (inside other place one o l);
        closed =
            subst (λ h. WasClosed h a.serial) at
            (closed_on front (later ++ said (notes.Got got) ∷ B) a.serial (closed_by_now start wild i own B f g n k m got a current there later once a.serial (slot_at B i n k) q c));
        some = subst (λ (x : Access). 0 < length x.payload) same_access a.some;
        whole = whole_in;
        done_is = (let x = its_whole start wild i own B f g n k m got a current there in a.behind ∙ (ap (λ y. y + length a.access.payload) x.same ∙ ap (λ (y : Access). c.was.machine.written + length y.payload) same_access));
      }

  -- ---- of a history
  module _ (ms : List Moment) (f : IsSound start wild i own ms) where
    module _ (n k serial slot : ℕ) (packet : Sending) (d : IsDataOf start ms i n k serial packet slot) (current : packet.generation ≡ (terms ms).generation (suc i)) where
      abbrev T : List Moment
      T = turn i ms n k serial slot packet d

      abbrev leaves : Moment
      leaves = said (notes.Sent serial packet.generation packet.from packet.to packet.bytes)

      abbrev M : Machine
      M = d.was.machine

      sound_there : IsSound start wild i own T
      sound_there = sound_from start wild i own (mid i ms n k serial slot packet d) T (subst (IsSound start wild i own) (sym (whole i ms n k serial slot packet d)) f)

      at_before : (d.later ++ leaves ∷ []) ++ d.before ≡ ms
      at_before = sym (moments_split d.later (leaves ∷ []) d.before) ∙ d.is

      sound_before : IsSound start wild i own d.before
      sound_before = sound_from start wild i own (d.later ++ leaves ∷ []) d.before (subst (IsSound start wild i own) (sym at_before) f)

      level : (terms T).generation 0 ≡ (terms T).generation (suc i)
      level =
          let a = d.was.own in
          let b = d.was.seen in
          let c = grows i ms n k serial slot packet d f.rises (suc i) in
          omega (arith, a, b, c, current)

      prepared : prepared_in T i (slot_at T i n k) ≡ Some (orb n k)
      prepared = moved i ms n k serial slot packet d (λ x y. prepared_in T i (slot_at T i x y) ≡ Some (orb x y)) d.was.piece.has

      in_turn : (other place : ℕ) (one : Sending) → IsDataOf start ms i n k other one place → other < serial → IsDataOf start T i n k other one place
      in_turn other place one o less = into_turn i ms n k serial slot packet d f.serials n k other place one o less

      below_it : (other : ℕ) → other ≤ (terms T).count → other < serial
      below_it other low =
          let there : SerialsCount (d.later ++ leaves ∷ d.before) = subst SerialsCount (sym d.is) f.serials in
          let number : serial ≡ (terms d.before).count + 1 = (serials_from d.later (leaves ∷ d.before) there).0 in
          let more = (remains d.was.later T (subst SerialsCount (sym d.was.is) sound_before.serials)).count in
          let same : (terms (d.was.later ++ T)).count ≡ (terms d.before).count = ap (λ h. (terms h).count) d.was.is in
          omega (arith, number, more, same, low)

      by_turn : IsInTurn d.before T i n k M → IsReached start ms i n k serial M.written
      by_turn (is_first none start) = begins (λ other place one o less. let some = ran_so i T n k other place one (in_turn other place one o less) in absurd (omega (arith, none, some))) start
      by_turn (follows got later is a) =
          let c = its start wild i own T sound_there (are_served start wild i own T sound_there) n k M got a level prepared in
          goes_on (written_to T sound_there n k M got a level prepared later (d.later ++ leaves ∷ []) ms (subst (OnceLaw wild) (sym is) sound_before.once) (ap (λ h. (d.later ++ leaves ∷ []) ++ h) is ∙ at_before) f serial (below_it a.serial (sent_below T a.serial _ sound_there.serials c.sent.is)) in_turn)

      pub each_reached : IsReached start ms i n k serial M.written
      each_reached = by_turn (moved i ms n k serial slot packet d (λ x y. IsInTurn d.before T i x y M) d.was.turn)

    module _ (n k serial slot : ℕ) (packet : Sending) (status : StatusKind) (d : IsDataOf start ms i n k serial packet slot) (e : ended_status ms i n k ≡ Some status) (proper : status ≡ kinds.Failed → ⊥) (current : packet.generation ≡ (terms ms).generation (suc i)) (cmd : Cmd) (command : command_at ms i n k ≡ Some cmd) where
      abbrev before_it : Before start wild i own ms
      before_it = before_all start wild i own ms f

      abbrev W : List Moment
      W = C start wild i own ms f before_it n k status e proper

      abbrev end_past : List Moment
      end_past = past start wild i own ms f before_it n k status e proper

      abbrev P : List Moment
      P = (moment start wild i own ms f before_it n k status e proper).later ++ ended_note start wild i own ms f before_it n k status e proper ∷ []

      sound_here : IsSound start wild i own W
      sound_here = sound_turn start wild i own ms f before_it n k status e proper

      in_end : (other place : ℕ) (one : Sending) → IsDataOf start ms i n k other one place → other < (terms ms).count + 1 → IsDataOf start W i n k other one place
      in_end other place one o less = first_data start wild i own ms f before_it n k status e proper other place one o

      least : (other : ℕ) → other ≤ (terms W).count → other < (terms ms).count + 1
      least other low =
          let at = at_turn start wild i own ms f before_it n k status e proper in
          let front = P ++ (w start wild i own ms f before_it n k status e proper).later in
          let more = (remains front W (subst SerialsCount (sym at) f.serials)).count in
          let same : (terms (front ++ W)).count ≡ (terms ms).count = ap (λ h. (terms h).count) at in
          omega (arith, more, same, low)

      by_written : IsWritten end_past W i n k → IsWrittenTo start ms i n k ((terms ms).count + 1) (bytes_of (laid_out (slot_at ms i n k) cmd cmd.segments))
      by_written (is_fresh none) = let some = ran_so i W n k serial slot packet (in_end serial slot packet d (let x = sent_below ms serial packet f.serials d.sent.is in omega (arith, x))) in absurd (omega (arith, none, some))
      by_written (is_behind got later is m filled a) =
          let level = end_level start wild i own ms f before_it n k status e proper serial slot packet d current m got a in
          let there = end_there start wild i own ms f before_it n k status e proper serial slot packet d current m got a in
          let c = its start wild i own W sound_here (are_served start wild i own W sound_here) n k m got a level there in
          let once : OnceLaw wild (later ++ said (notes.Got got) ∷ W) = subst (OnceLaw wild) (sym is) (sound_past start wild i own ms f before_it n k status e proper).once in
          let at : P ++ (later ++ said (notes.Got got) ∷ W) ≡ ms = ap (λ h. P ++ h) is ∙ at_past start wild i own ms f before_it n k status e proper in
          let less : a.serial < (terms ms).count + 1 = least a.serial (sent_below W a.serial _ sound_here.serials c.sent.is) in
          let slot_here : slot_at W i n k ≡ slot_at ms i n k = slot_is W sound_here n k m got a level there later P ms once at f ((terms ms).count + 1) less in_end in
          let same : a.cmd ≡ cmd = same_Some a.cmd cmd (sym (command_is W sound_here n k m got a level there later P ms once at f ((terms ms).count + 1) less in_end) ∙ command) in
          let long : m.written ≡ bytes_of (laid_out (slot_at ms i n k) cmd cmd.segments) =
          filled ∙ (a.whole ∙ (ap (λ y. bytes_of (laid_out y a.cmd a.cmd.segments)) slot_here ∙ ap (λ (x : Cmd). bytes_of (laid_out (slot_at ms i n k) x x.segments)) same)) in
          subst (λ x. IsWrittenTo start ms i n k ((terms ms).count + 1) x) long
          (written_to W sound_here n k m got a level there later P ms once at f ((terms ms).count + 1) less in_end)

      pub ended_reached : IsWrittenTo start ms i n k ((terms ms).count + 1) (bytes_of (laid_out (slot_at ms i n k) cmd cmd.segments))
      ended_reached = by_written (w start wild i own ms f before_it n k status e proper).written

    pub in_sequence : AreInSequence start ms i
    in_sequence = record {
      each = λ n k serial slot packet d current. each_reached n k serial slot packet d current;
      ended = λ n k serial slot packet status d e proper current cmd command. ended_reached n k serial slot packet status d e proper current cmd command;
    }
