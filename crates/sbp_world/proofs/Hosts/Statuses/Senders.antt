-- A status is taken of a packet that the target sent.
use Rattle.sbp_world.proofs.Words.Std.{arith, ◌≡◌, refl, sym, ◌∙◌, ap, subst, ◌⊎◌, inl, inr, ℕ, suc, ◌<◌, ◌≤◌, ◌&&◌, not, nat_eq, Bool, true, false, cond, List, [], ◌∷◌, ◌++◌, length, map, Option, Some, None, Result, Ok, Err, append_assoc, nat_tests, not-false}
use Rattle.sbp_world.proofs.Words.Wire.{Packet, header_in, reading, PacketFault, is_reset, Node, as_sending, Access, access_of, empty_outbox, Moment, asked, said, Sending, Terms, terms, Judged, Event, topology_at}
use Rattle.sbp_world.proofs.Words.Target.{Told}
use Rattle.sbp_world.proofs.Words.Initiator.{start, reads_rom, StatusKind, InitiatorState, Turn, addressed, is_foreign, receive_step, request_step}
use Rattle.sbp_world.proofs.Words.Laws.{Host, host_at, last_got, slot_at, access_at, access_in, packet_in, receiver_in, spelled_by, SpellsStatus, fifo_of, EachMoment}
use Rattle.sbp_world.proofs.Words.World.{history_of, Entry, Run, after, beginning, MayAll, after_all, Scene, WorldState, begun, initiator_at, Stands, IsDelivering, IsDelivered, front_of, history, IsRun, IsTakenHere, RestLaw, SendersLaw, IsTakenBy, Spells, is_place_fifo}
use Rattle.std.specs.Prelude.{IsSomeAnd}
use Rattle.bus_memory.specs.declared.window.Window.TheVariants as windows
use Rattle.bus_transactions.proofs.Facts.{Facts}
use Rattle.sbp_journal.specs.declared.cause.Cause.TheVariants as causes
use Rattle.sbp_journal.specs.declared.cause.Judged.TheVariants as judgements
use Rattle.sbp_journal.specs.declared.event.Event.TheVariants as events
use Rattle.sbp_journal.specs.declared.note.Note.TheVariants as notes
use Rattle.sbp_world.proofs.FitInitiator.Law.{fitting_law as own_fitting_law}
use Rattle.sbp_world.proofs.FitTarget.Law.{fitting_law}
use Rattle.sbp_world.proofs.Wire.Bus.{holds}
use Rattle.sbp_world.proofs.Wire.Holding.{Sound, to_target}
use Rattle.sbp_world.proofs.Wire.Runs.{SoundAfter, sound_after}
use Rattle.sbp_world.proofs.Wire.Sound.{opens}
use Rattle.sbp_world.proofs.Hosts.Answering.{request_of}
use Rattle.sbp_world.proofs.Hosts.AnsweringLines.{all_sound}
use Rattle.sbp_world.proofs.Hosts.Deliveries.{deliveries_law, some_same}
use Rattle.sbp_world.proofs.Hosts.GotRequests.{request_got}
use Rattle.sbp_world.proofs.Hosts.Runs.{are_told}
use Rattle.sbp_world.specs.Hosts.Statuses.Senders.{IsOfTarget}
use Rattle.sbp_world.proofs.Hosts.Statuses.Brings.{ignored_got}
use Rattle.sbp_world.proofs.Hosts.Statuses.Finished.{finished_law}
use Rattle.sbp_world.proofs.Hosts.Statuses.Hearing.{served}
use Rattle.sbp_world.proofs.Common.{none_is, untrue}
use Rattle.sbp_world.proofs.Lists.StatusKnown.{writes_no_rom}
use Rattle.sbp_world.proofs.Sessions.BlockNotes.{gets_sent as sent_stays}

-- ---- a write that an initiator gets is of its target

other_first : (b : Bool) (x y : Judged × Turn) → (x.0 ≡ judgements.Got → ⊥) → (cond b x y).0 ≡ judgements.Got → b ≡ false
other_first true x y n e = absurd (n e)
other_first false x y n e = refl

of_target : (p : Packet) (s : InitiatorState) → reads_rom p ≡ false → is_foreign p s ≡ false → (header_in p).source ≡ s.target
of_target p s none e =
    let same : nat_eq (header_in p).source s.target ≡ true = not-false (nat_eq (header_in p).source s.target) (ap (λ (b : Bool). not b && not (nat_eq (header_in p).source s.target)) (sym none) ∙ e) in
    grind (arith, nat_tests)

got_own : (p : Packet) (access : Access) (bytes : List ℕ) (s : InitiatorState) → access_of p ≡ Some access → access.is_write ≡ true → (request_step p bytes empty_outbox s).0 ≡ judgements.Got → (header_in p).source ≡ s.target
got_own p access bytes s a w got =
    of_target p s (writes_no_rom p access a w) (other_first (is_foreign p s) _ (addressed p bytes empty_outbox s) (λ e. ignored_got causes.Source e) got)

-- ---- of a world

module _ {past : List Moment} {lines : ℕ} (w : WorldState) (sound : Sound past lines w) (i : ℕ) (inside : i < length w.initiators) (serial : ℕ) (q : Sending) (was : (terms (history w past)).sent serial ≡ Some q) (p : Packet) (read : reading q.bytes ≡ Ok p) (current : q.generation ≡ (initiator_at w i).layer.generation) (source : (header_in p).source ≡ (initiator_at w i).target) where
  stands : Stands past w
  stands = sound.stands

  abbrev t : Terms
  t = terms stands.wire.past

  facts : Facts t
  facts = (holds stands.wire stands.reached).facts

  was_there : t.sent serial ≡ Some q
  was_there = ap (λ (x : Terms). x.sent serial) (ap terms stands.is.past_is) ∙ was

  there : suc i ≤ length w.initiators
  there = omega arith

  none_below : 0 ≤ length w.initiators
  none_below = omega arith

  generation_is : q.generation ≡ (topology_at w.generations (suc i)).generation
  generation_is = current ∙ (sym (ap (λ (n : Node). n.generation) (stands.is.layers_are (suc i) there)) ∙ stands.is.sights (suc i) there)

  target_is : (initiator_at w i).target ≡ t.ids q.generation 0
  target_is =
      sym (to_target w.generations.seen i (initiator_at w i).target (sound.nodes.own.holds i inside).fits.target_known)
      ∙ (sym (stands.is.known_ids (suc i) 0 there none_below) ∙ ap (λ (g : ℕ). t.ids g 0) (sym generation_is))

  pub from_target : q.from ≡ 0
  from_target = facts.apart q.generation q.from 0 (sym ((facts.honest serial q was_there).source p read) ∙ (source ∙ target_is))

  pub not_injected : q.injected ≡ false
  not_injected = by_test q.injected refl
    where
      by_test : (b : Bool) → q.injected ≡ b → b ≡ false
      by_test true e = untrue (sym stands.is.fair ∙ (ap t.injects (sym from_target) ∙ (facts.honest serial q was_there).bold e))
      by_test false e = refl

-- ---- of a run

-- what is spelled
record IsSpelled (read : Result Packet PacketFault) (access : Access) : Type 0 where
  packet : Packet
  is : read ≡ Ok packet
  asks : access_of packet ≡ Some access

spelled : (read : Result Packet PacketFault) (access : Access) → access_in (spelled_by read) ≡ Some access → IsSpelled read access
spelled (Err fault) access e = none_is access e
spelled (Ok p) access e = record { packet = p; is = refl; asks = e }

record IsOne (found : Option Access) (P : Access → Type 0) : Type 0 where
  one : Access
  is : found ≡ Some one
  so : P one

some_of : (found : Option Access) (P : Access → Type 0) → IsSomeAnd found P → IsOne found P
some_of None P h = absurd h
some_of (Some x) P h = record { one = x; is = refl; so = h }

at_moment : (At : Moment → List Moment → Type 0) (later : List Moment) (moment : Moment) (past : List Moment) → EachMoment At (later ++ moment ∷ past) → At moment past
at_moment At [] moment past h = h.0
at_moment At (other ∷ later) moment past h = at_moment At later moment past h.1

-- how the world stands before a delivery
module _ (line : ℕ) (run : Run) (earlier : List Entry) (q : IsRun (front_of run earlier)) (n : ℕ) where
  abbrev s : Scene
  s = after (beginning run) earlier

  before_it : SoundAfter line (front_of run earlier) earlier s.world
  before_it = sound_after fitting_law own_fitting_law line (front_of run earlier) earlier q.few q.short q.entries q.lines

  abbrev Stood : Event → List (Option Told) → Type 0
  Stood event told = Sound (asked n event ∷ history s.world before_it.past) (length earlier) (after_all told (begun s)).world

  all_stood : (event : Event) (told : List (Option Told)) → is_reset event ≡ false → ((ms : List Moment) → (terms (asked n event ∷ ms)).repeats ≡ false) → MayAll told (begun s) → Stood event told
  all_stood event told r repeats m = all_sound told (are_told told s m) (begun s) (opens n event s.world r before_it.sound) (repeats (history s.world before_it.past))

  stood : (event : Event) (told : List (Option Told)) → IsDelivering event told → MayAll told (begun s) → Stood event told
  stood (events.Step count) told d m = all_stood (events.Step count) told refl (λ ms. refl) m
  stood events.Settle told d m = all_stood events.Settle told refl (λ ms. refl) m
  stood (events.Deliver k) told d m = subst (Stood (events.Deliver k)) (sym d) (opens n (events.Deliver k) s.world refl before_it.sound)
  stood (events.Repeat k) told d m = subst (Stood (events.Repeat k)) (sym d) (opens n (events.Repeat k) s.world refl before_it.sound)
  stood (events.Begin initiators ready) told d m = absurd d
  stood (events.Act j action) told d m = absurd d
  stood (events.Reset physical) told d m = absurd d
  stood (events.See node) told d m = absurd d
  stood (events.Lose k) told d m = absurd d
  stood (events.Timeout k) told d m = absurd d
  stood events.Tick told d m = absurd d
  stood (events.Inject initiator bytes) told d m = absurd d
  stood (events.Key unit key) told d m = absurd d

-- ---- a status that is taken

module _ (line : ℕ) (run : Run) (q : IsRun run) (later past : List Moment) (i n k : ℕ) (status : StatusKind) (answer : List ℕ) (e : later ++ said (notes.Taken i n k status answer) ∷ past ≡ history_of line run) where
  abbrev moment : Moment
  moment = said (notes.Taken i n k status answer)

  abbrev serial : ℕ
  serial = last_got past

  taken : IsTakenBy past i n k status
  taken = at_moment IsTakenHere later moment past (subst (EachMoment IsTakenHere) (sym e) (finished_law.taken line run q))

  d : IsDelivered line run serial taken.before
  d =
      deliveries_law.deliveries line run q (later ++ moment ∷ []) taken.before serial
      (append_assoc later (moment ∷ []) (said (notes.Got serial) ∷ taken.before) ∙ (ap (λ ms. later ++ moment ∷ ms) (sym taken.behind) ∙ e))

  abbrev packet : Sending
  packet = as_sending d.was_got.sent

  now_sent : (terms past).sent serial ≡ Some packet
  now_sent =
      ap (λ ms. (terms ms).sent serial) taken.behind
      ∙ (ap (λ (x : ℕ → Option Sending). x serial) (sent_stays ((terms taken.before).sent serial) serial (terms taken.before)) ∙ d.was)

  to_is : d.was_got.sent.to ≡ suc i
  to_is = some_same (sym (ap receiver_in now_sent) ∙ taken.to_it)

  abbrev w : WorldState
  w = (after_all d.told (begun (after (beginning run) d.earlier))).world

  abbrev own : InitiatorState
  own = initiator_at w i

  asks : IsOne (access_at (terms past) serial) (λ access. Spells access (host_at past i) (start (windows.Orb (slot_at past i n k))) status)
  asks = some_of (access_at (terms past) serial) _ taken.written

  read : IsSpelled (reading packet.bytes) asks.one
  read = spelled (reading packet.bytes) asks.one (sym (ap (λ (x : Option Sending). access_in (packet_in x)) now_sent) ∙ asks.is)

  got : (receive_step packet.generation packet.bytes empty_outbox own).0 ≡ judgements.Got
  got = d.was_got.got i to_is

  is_of_target : IsOfTarget past i
  is_of_target =
      let before = before_it line run d.earlier d.front d.entry.line in
      let sound = stood line run d.earlier d.front d.entry.line d.entry.event d.told d.delivers d.may in
      let was = ap (λ ms. (terms (map said w.fresh ++ asked d.entry.line d.entry.event ∷ ms)).sent serial) before.is ∙ (ap (λ ms. (terms ms).sent serial) (sym d.is) ∙ d.was) in
      let request = request_got own packet.generation packet.bytes read.packet asks.one read.asks read.is got in
      let current = (request_of own.layer packet.generation packet.bytes read.packet request).current in
      let source = got_own read.packet asks.one packet.bytes own read.asks asks.so.is_write (sym (ap (λ (x : Judged × Turn). x.0) (served own packet.generation packet.bytes read.packet request)) ∙ got) in
      record {
        packet = packet;
        is = now_sent;
        from = from_target w sound i (d.was_got.inside i to_is) serial packet was read.packet read.is current source;
        to = to_is;
        honest = not_injected w sound i (d.was_got.inside i to_is) serial packet was read.packet read.is current source;
      }

-- ---- what is left to the target

rest_of : (found : Option Access) (host : Host) (address : ℕ) (status : StatusKind) → IsSomeAnd found (λ access. Spells access host address status) → IsSomeAnd found (λ access. is_place_fifo access.offset ≡ false) → IsSomeAnd found (λ access. SpellsStatus access (fifo_of host) address status)
rest_of None host address status s f = absurd s
rest_of (Some access) host address status s f = record { is_write = s.is_write; goes = to_login s.goes; src = s.src; spells = s.spells }
  where
    to_login : (access.offset ≡ fifo_of host) ⊎ (is_place_fifo access.offset ≡ true) → access.offset ≡ fifo_of host
    to_login (inl g) = g
    to_login (inr g) = untrue (sym f ∙ g)

pub senders_law : SendersLaw
senders_law = record {
  senders = λ line run q later past i n k status answer e. is_of_target line run q later past i n k status answer e;
}

pub rest_law : RestLaw
rest_law = record {
  rest = λ past i n k status t ended sent away. record {
    once = t.once;
    ended = ended;
    sent = sent;
    written = rest_of (access_at (terms past) (last_got past)) (host_at past i) (start (windows.Orb (slot_at past i n k))) status t.written away;
  };
}
