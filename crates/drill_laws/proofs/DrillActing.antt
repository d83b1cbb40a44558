-- What is known of the rings of a drill, over a line that appends.
use Rattle.std.proofs.Common.{◌≡◌, ◌∙◌, refl, sym, ap, subst, ℕ, zero, suc, ◌<◌, ◌==◌, Bool, true, false, cond, nat_eq, List, [], ◌∷◌, ◌++◌, append-nil, append_assoc, map, reverse, Option, Some, None, arith}
use Rattle.std.specs.List.{AllByRecursion}
use Rattle.std.proofs.lemmas.Bool.Decides.{nat_tests}
use Rattle.std.proofs.lemmas.List.{reverse-append, reverse-reverse}
use Rattle.bus_transactions.specs.Answers.{AreAnswered}
use Rattle.bus_transactions.specs.Sent.{AreSent}
use Rattle.rbc_disk.specs.Disk.{Disk}
use Rattle.sbp_journal.specs.Run.{Moment, asked, said}
use Rattle.sbp_journal.specs.Wire.{terms}
use Rattle.sbp_journal.specs.declared.event.Event.{Event}
use Rattle.sbp_journal.specs.declared.event.Event.TheVariants as events
use Rattle.sbp_journal.specs.declared.event.Action.TheVariants as actions
use Rattle.sbp_journal.specs.declared.note.Note.{Note}
use Rattle.sbp_journal.specs.declared.note.Note.TheVariants as notes
use Rattle.sbp_journal.specs.declared.event.Cmd.{Cmd}
use Rattle.sbp_laws.specs.ActionLaw.{ActsOr, Brings}
use Rattle.sbp_laws.specs.Actions.{append_notes, buffer_of, list_for, new_list, new_number, pointer_for, refusal_at}
use Rattle.sbp_laws.specs.SentRequests.{RequestsLaw}
use Rattle.sbp_laws.specs.Terms.{appends}
use Rattle.drill_laws.proofs.DrillActs.{IsRingPacket, rings_here}
use Rattle.drill_laws.proofs.DrillAir.{AreActing, onto}
use Rattle.sbp_laws.specs.Hosts.{host_at, list_begins}
use Rattle.sbp_laws.specs.Lists.{present_list}
use Rattle.sbp_laws.specs.SentPackets.{SentAt}
use Rattle.sbp_laws.specs.Turns.{EachMoment, sends_of, turn}
use Rattle.drill_laws.proofs.DrillCalm.{acting_onto, note_calm}
use Rattle.drill_laws.proofs.DrillMoments.{DrillAt}
use Rattle.drill_laws.proofs.DrillRinging.{RingAsks, RingHere, ring_asks, ring_serves}
use Rattle.drill_laws.proofs.DrillServes.{Serves, still_serves}
use Rattle.drill_laws.proofs.DrillSends.{append_serves}
use Rattle.drill_laws.proofs.DrillServed.{IsFree}
use Rattle.drill_laws.proofs.DrillTurns.{AreFine}
use Rattle.drill_laws.proofs.DrillWire.{Young, young}

-- ---- a line that appends
pub record RingAt (past : List Moment) (from to : ℕ) (bytes : List ℕ) : Type 0 where
  pub i : ℕ
  pub here : RingHere past i from to bytes

abbrev pub ActAt : Note → List Moment → Type 0
ActAt (notes.Append j n k cdb buffer) past = (p : ℕ) → (host_at past j).pointer ≡ Some p → k ≡ 0 → ⊥
ActAt (notes.Sent s generation from to bytes) past = RingAt past from to bytes
ActAt note past = Unit {0}

abbrev pub ActsThere : List Note → List Moment → Type 0
ActsThere [] past = Unit {0}
ActsThere (note ∷ told) past = ActAt note (map said told ++ past) × ActsThere told past

pub acting_free : (told : List Note) → AreActing told → AllByRecursion IsFree told
acting_free [] acting = tt
acting_free (notes.Append j n k cdb buffer ∷ told) acting = (tt, acting_free told acting.1)
acting_free (notes.Low j n k ∷ told) acting = (tt, acting_free told acting.1)
acting_free (notes.Linked j n k ∷ told) acting = (tt, acting_free told acting.1)
acting_free (notes.Rung j n k ∷ told) acting = (tt, acting_free told acting.1)
acting_free (notes.Refused line number ∷ told) acting = (tt, acting_free told acting.1)
acting_free (notes.Sent s generation from to bytes ∷ told) acting = (tt, acting_free told acting.1)
acting_free (_ ∷ told) acting = absurd (let bad : false ≡ true = acting.0 in cc bad)

-- what is known stays so over these notes
abbrev pub ServesBehind : List Disk → List Note → List Moment → Type 0
ServesBehind start told past = EachMoment DrillAt (map said told ++ past) → EachMoment SentAt (map said told ++ past) → AreSent (map said told ++ past) → AreAnswered (map said told ++ past) → Serves start past → Serves start (map said told ++ past)

pub acting_walk : (start : List Disk) (told : List Note) (past : List Moment) → AreActing told → AreFine told → ActsThere told past → ServesBehind start told past
acting_walk start [] past acting fine acts d own sent answered h = h
acting_walk start (notes.Append j n k cdb buffer ∷ told) past acting fine acts d own sent answered h =
    let c = acting_walk start told past acting.1 fine.1 acts.1 d.1 own.1 sent answered h in
    append_serves start (map said told ++ past) j n k cdb buffer acts.0 c (note_calm start (notes.Append j n k cdb buffer) (map said told ++ past) refl fine.0 d own sent c.calm)
acting_walk start (notes.Sent s generation from to bytes ∷ told) past acting fine acts d own sent answered h =
    let c = acting_walk start told past acting.1 fine.1 acts.1 d.1 own.1 sent.1 answered.1 h in
    ring_serves start (map said told ++ past) acts.0.i s generation from to bytes c acts.0.here ((young (map said told ++ past) d.1 own.1).injected s) (note_calm start (notes.Sent s generation from to bytes) (map said told ++ past) refl fine.0 d own sent c.calm) own.0.0 answered.0
acting_walk start (notes.Low j n k ∷ told) past acting fine acts d own sent answered h =
    let c = acting_walk start told past acting.1 fine.1 acts.1 d.1 own.1 sent answered h in
    still_serves start (notes.Low j n k) (map said told ++ past) d.0 tt tt tt tt (note_calm start (notes.Low j n k) (map said told ++ past) refl fine.0 d own sent c.calm) c
acting_walk start (notes.Linked j n k ∷ told) past acting fine acts d own sent answered h =
    let c = acting_walk start told past acting.1 fine.1 acts.1 d.1 own.1 sent answered h in
    still_serves start (notes.Linked j n k) (map said told ++ past) d.0 tt tt tt tt (note_calm start (notes.Linked j n k) (map said told ++ past) refl fine.0 d own sent c.calm) c
acting_walk start (notes.Rung j n k ∷ told) past acting fine acts d own sent answered h =
    let c = acting_walk start told past acting.1 fine.1 acts.1 d.1 own.1 sent answered h in
    still_serves start (notes.Rung j n k) (map said told ++ past) d.0 tt tt tt tt (note_calm start (notes.Rung j n k) (map said told ++ past) refl fine.0 d own sent c.calm) c
acting_walk start (notes.Refused number other ∷ told) past acting fine acts d own sent answered h =
    let c = acting_walk start told past acting.1 fine.1 acts.1 d.1 own.1 sent answered h in
    still_serves start (notes.Refused number other) (map said told ++ past) d.0 tt tt tt tt (note_calm start (notes.Refused number other) (map said told ++ past) refl fine.0 d own sent c.calm) c
acting_walk start (_ ∷ told) past acting fine acts d own sent answered h = absurd (let bad : false ≡ true = acting.0 in cc bad)

onto_reverse : (told rest : List Note) → onto told rest ≡ reverse told ++ rest
onto_reverse [] rest = refl
onto_reverse (note ∷ told) rest = onto_reverse told (note ∷ rest) ∙ sym (append_assoc (reverse told) (note ∷ []) rest) ∙ ap (λ ns. ns ++ rest) (sym (reverse-append (note ∷ []) told))

module _ (start : List Disk) (past : List Moment) (line i : ℕ) (cmd : Cmd) (small : i < 2) (h : Serves start past) where
  abbrev event : Event
  event = events.Act i (actions.Append cmd)

  abbrev place : List Moment
  place = asked line event ∷ past

  behind : (p : ℕ) → (host_at past i).pointer ≡ Some p → new_number past i ≡ 0 → ⊥
  behind p e none =
      let x = h.hosts i p small e in
      x.some (ap (appends past i) (sym (ap (list_for past i) x.present)) ∙ none)

  begun_pointer : (k : ℕ) → k ≡ new_number past i → (cond (i == i) (list_begins k (host_at past i)) (host_at past i)).pointer ≡ (host_at past i).pointer
  begun_pointer (suc k) e = by (i == i)
    where
      by : (b : Bool) → (cond b (host_at past i) (host_at past i)).pointer ≡ (host_at past i).pointer
      by true = refl
      by false = refl
  begun_pointer zero e = by (i == i) (host_at past i).pointer refl
    where
      by : (b : Bool) (o : Option ℕ) → (host_at past i).pointer ≡ o → (cond b (list_begins zero (host_at past i)) (host_at past i)).pointer ≡ (host_at past i).pointer
      by false o f = refl
      by true None f = sym f
      by true (Some p) f = absurd (behind p f (sym e))

  -- the ring, behind what the line tells before it
  module _ (from to : ℕ) (bytes : List ℕ) (r : IsRingPacket past i from to bytes) where
    asks_there : RingAsks (host_at past i).pointer i bytes
    asks_there = ring_asks past i from to bytes (h.calm.agents i small) (λ p e. ap (λ o. pointer_for o (host_at past i)) ((h.hosts i p small e).present) ∙ e) (λ e. none (present_list past i) e) r
      where
        none : (present : Option ℕ) → (host_at past i).pointer ≡ None → pointer_for present (host_at past i) ≡ None
        none None e = refl
        none (Some n) e = e

    one_there : (n k : ℕ) → k ≡ new_number past i → RingHere (said (notes.Append i n k cmd.cdb (buffer_of cmd)) ∷ place) i from to bytes
    one_there n k e =
        let same : nat_eq i i ≡ true = grind (arith, nat_tests) in
        let list : nat_eq n n ≡ true = grind (arith, nat_tests) in
        record {
          small = small;
          sender = r.sender;
          receiver = r.receiver;
          cmd = cmd;
          line = refl;
          asks = subst (λ o. RingAsks o i bytes) (sym (begun_pointer k e)) asks_there;
          list = n;
          present = ap (λ b. cond b (Some n) (present_list past i)) same;
          some = λ f. (let there : appends (said (notes.Append i n k cmd.cdb (buffer_of cmd)) ∷ place) i n ≡ suc (appends past i n) = ap (λ b. cond b (cond (nat_eq n n) (suc (appends past i n)) (appends past i n)) (appends past i n)) same ∙ ap (λ b. cond b (suc (appends past i n)) (appends past i n)) list in omega (arith, there, f));
        }

    acts_there : (n k s generation : ℕ) → k ≡ new_number past i → ActsThere (reverse (append_notes i n k cmd ++ notes.Sent s generation from to bytes ∷ [])) place
    acts_there n zero s generation e =
        let x = one_there n zero e in
        (record { i = i; here = record { small = x.small; sender = x.sender; receiver = x.receiver; cmd = cmd; line = refl; asks = x.asks; list = x.list; present = x.present; some = x.some } }, (tt, ((λ p f g. behind p f (sym e)), tt)))
    acts_there n (suc k) s generation e =
        let x = one_there n (suc k) e in
        (record { i = i; here = record { small = x.small; sender = x.sender; receiver = x.receiver; cmd = cmd; line = refl; asks = x.asks; list = x.list; present = x.present; some = x.some } }, (tt, (tt, (tt, ((λ p f g. absurd (cc g)), tt)))))

  pub line_acts : (told : List Note) (y : Young (terms past)) (acting : AreActing told) → Brings start past line event (reverse told) → RequestsLaw start (turn past (asked line event) (onto told [])) → ActsThere told place
  line_acts told y acting brings requests = by (refusal_at past i (actions.Append cmd)) refl brings
    where
      by : (refusal : Option ℕ) → refusal_at past i (actions.Append cmd) ≡ refusal → ActsOr refusal past line i (actions.Append cmd) (reverse told) → ActsThere told place
      by (Some number) e is = subst (λ ns. ActsThere ns place) (sym (sym (reverse-reverse told) ∙ ap reverse is)) (tt, tt)
      by None e acts =
          let one = rings_here start past line i cmd small h.calm y (onto told []) (acting_onto told [] acting tt) requests e in
          let fwd : onto told [] ≡ reverse told = onto_reverse told [] ∙ append-nil (reverse told) in
          let sends : sends_of (reverse told) ≡ notes.Sent one.serial one.generation one.from one.to one.bytes ∷ [] = sym (ap sends_of fwd) ∙ one.is in
          let whole : reverse told ≡ append_notes i (new_list past i) (new_number past i) cmd ++ notes.Sent one.serial one.generation one.from one.to one.bytes ∷ []
          = acts.first ∙ ap (λ ns. ns ++ sends_of (reverse told)) acts.effects ∙ ap (λ ns. append_notes i (new_list past i) (new_number past i) cmd ++ ns) sends in
          subst (λ ns. ActsThere ns place) (sym (sym (reverse-reverse told) ∙ ap reverse whole)) (acts_there one.from one.to one.bytes one.ring (new_list past i) (new_number past i) one.serial one.generation refl)
