-- The laws of the writes of ORB_POINTER, of every run.
use Rattle.sbp_world.proofs.Words.Std.{arith, ◌≡◌, refl, sym, ◌∙◌, ap, subst, ℕ, suc, ◌<◌, nat_lt, is_some, Bool, true, false, List, ◌∷◌, ◌++◌, map, Option, Some, None, Result, Ok, Err, nat_tests, same_Some}
use Rattle.sbp_world.proofs.Words.Wire.{PacketFault, Packet, lock, lock_response, read_block, read_block_response, read_quadlet, read_quadlet_response, write_block, write_quadlet, write_response, reading, Access, access_of, Moment, asked, said, Sending, part_by, part_of, request, writing, terms}
use Rattle.sbp_world.proofs.Words.Target.{Told}
use Rattle.sbp_world.proofs.Words.Initiator.{start, Pointing, InitiatorState, is_answered, is_unwritten}
use Rattle.sbp_world.proofs.Words.Laws.{slot_at, lists, injectors, access_in, access_in_bytes, spelled_by, EachMoment}
use Rattle.sbp_world.proofs.Words.World.{history_of, Run, after, beginning, MayAll, after_all, WorldState, begun, initiator_at, IsOfWire, Stands, history, IsRun, more_deliveries, MayAsk, MayStand, WritesLaw, begun_in, IsPointer, IsPointing, MomentsLaw, PointersAt, PointersLaw, pointed_list}
use Rattle.bus_memory.specs.declared.window.Window.TheVariants as windows
use Rattle.sbp_initiator.specs.declared.purpose.Pointing.TheVariants as pointings
use Rattle.sbp_world.proofs.FitInitiator.Law.{fitting_law as own_fitting_law}
use Rattle.sbp_world.proofs.FitTarget.Law.{fitting_law}
use Rattle.sbp_world.proofs.Wire.Runs.{SoundAfter, sound_after}
use Rattle.sbp_world.proofs.Wire.Starts.{laws_of}
use Rattle.sbp_world.specs.Hosts.Refusing.{initiator_of}
use Rattle.sbp_world.proofs.Hosts.Carried.{stands_between}
use Rattle.sbp_world.proofs.Hosts.Pointing.{wrote_is}
use Rattle.sbp_world.proofs.Pointers.GuardActs.{cutting_is}
use Rattle.sbp_world.proofs.Pointers.Written.{all_asked, all_writes}
use Rattle.sbp_world.proofs.Pointers.CalmRuns.{calm_between, calm_of_runs}
use Rattle.sbp_world.proofs.Pointers.Calms.{AllCalm}
use Rattle.sbp_world.proofs.Pointers.Eight.{eight_pointer}
use Rattle.sbp_world.proofs.Pointers.Guarded.{Guarded, Kept, not_true}
use Rattle.sbp_world.proofs.Pointers.Guarding.{first_guarded, guarded_between, guarded_carried, guarded_of_runs, ready_known}
use Rattle.sbp_world.proofs.Pointers.Naming.{Naming, none_some}
use Rattle.sbp_world.proofs.Pointers.Sending.{names}
use Rattle.sbp_world.proofs.Pointers.GuardDoes.{none_named}
use Rattle.sbp_world.proofs.Common.{untrue}

-- ---- what writes is a request to write

record Writes (bytes : List ℕ) : Type 0 where
  label : ℕ
  part : part_of bytes ≡ request label writing

abbrev is_writing : Option Access → Bool
is_writing None = false
is_writing (Some a) = a.is_write

writes_in : (p : Packet) (access : Access) → access_of p ≡ Some access → access.is_write ≡ true → (label : ℕ) × (part_by (Ok p) ≡ request label writing)
writes_in (write_quadlet header offset value) access e w = (header.label, refl)
writes_in (write_block header offset payload) access e w = (header.label, refl)
writes_in (read_quadlet header offset) access e w = untrue (ap is_writing e ∙ w)
writes_in (read_block header offset size) access e w = untrue (ap is_writing e ∙ w)
writes_in (lock header offset extended payload) access e w = untrue (ap is_writing e ∙ w)
writes_in (lock_response header rcode extended payload) access e w = none_some e
writes_in (write_response header rcode) access e w = none_some e
writes_in (read_quadlet_response header rcode value) access e w = none_some e
writes_in (read_block_response header rcode payload) access e w = none_some e

writes_by : (r : Result Packet PacketFault) (access : Access) → access_in (spelled_by r) ≡ Some access → access.is_write ≡ true → (label : ℕ) × (part_by r ≡ request label writing)
writes_by (Ok p) access e w = writes_in p access e w
writes_by (Err fault) access e w = none_some e

writes_of : (bytes : List ℕ) (access : Access) → access_in_bytes bytes ≡ Some access → access.is_write ≡ true → Writes bytes
unfolding part_of
writes_of bytes access e w = let x = writes_by (reading bytes) access e w in record { label = x.0; part = x.1 }

-- ---- at a moment of a run

-- ORB_POINTER that was written and not answered
pended : (mark : Pointing) → is_unwritten mark ≡ false → (is_answered mark ≡ true → ⊥) → mark ≡ pointings.Written
pended pointings.Unwritten e f = untrue (sym e)
pended pointings.Written e f = refl
pended pointings.Answered e f = absurd (f refl)

module _ (ready : Bool) (past : List Moment) (i : ℕ) (s : InitiatorState) (g : Guarded ready past i s) (wire : IsOfWire past) (fair : (terms past).injects 0 ≡ false) (calm : AllCalm past) where
  kept : Kept past i s
  kept = g.kept (record { serials = wire.serials; sent = wire.sent })

  asks : EachMoment (MayAsk i) past
  asks = all_asked i past kept.told calm

  naming : Naming past i
  naming = names past i wire.serials wire.sent kept.told

  is_pointer : (n serial : ℕ) → pointed_list past serial i ≡ Some n → IsPointer past i n serial
  is_pointer n serial e =
      let p = naming.each n serial e in
      record { packet = p.packet; sent = p.sent; from_is = p.from_is; to_is = p.to_is; honest = p.honest; base = p.base; spelled = p.spelled; slot = naming.small n p.begun; points = eight_pointer (start (windows.Orb (slot_at past i n 0))) (let l = naming.small n p.begun in omega arith); begun = p.begun; one = naming.one n p.begun }

  once_by : (n serial other : ℕ) → pointed_list past serial i ≡ Some n → pointed_list past other i ≡ Some n → (b c : Bool) → nat_lt serial other ≡ b → nat_lt other serial ≡ c → serial ≡ other
  once_by n serial other e f true c x y = let l : n < n = naming.order n n serial other e f (grind (arith, nat_tests)) in absurd (let z : ⊥ = omega arith in z)
  once_by n serial other e f false true x y = let l : n < n = naming.order n n other serial f e (grind (arith, nat_tests)) in absurd (let z : ⊥ = omega arith in z)
  once_by n serial other e f false false x y = grind (arith, nat_tests)

  -- one that was not judged was not answered
  pub not_closed : (n serial : ℕ) → pointed_list past serial i ≡ Some n → injectors past i ≡ false → (terms past).news serial ≡ 0 → (terms past).closed serial ≡ None
  not_closed n serial e h none =
      let p = naming.each n serial e in
      let w = writes_of p.packet.bytes _ p.spelled refl in
      let once = (wire.once serial w.label p.packet p.sent p.honest w.part).once in
      none_named ((terms past).closed serial)
      (λ rcode c.
      let one = once rcode (ap (λ x. (terms past).injects x) p.from_is ∙ h) (ap (λ x. (terms past).injects x) p.to_is ∙ fair) c in
      let z : ⊥ = omega arith in z)

  waits : injectors past i ≡ false → (n serial : ℕ) (packet : Sending) → pointed_list past serial i ≡ Some n → (terms past).sent serial ≡ Some packet → packet.generation ≡ (terms past).generation (suc i) → (terms past).news serial ≡ 0 → IsPointing past i n serial
  waits h n serial packet e sent now none =
      let p = naming.each n serial e in
      let closed = not_closed n serial e h none in
      let same = same_Some p.packet packet (sym p.sent ∙ sent) in
      let present = p.present (ap (λ (x : Sending). x.generation) same ∙ now) closed in
      let name = p.own present in
      let written : is_unwritten s.marks.pointing ≡ false = not_true (is_unwritten s.marks.pointing) (sym (ap is_some name) ∙ wrote_is g.pointed.cored) in
      let mark = pended s.marks.pointing written (λ x. let y = (kept.answered x).answered serial name in (let z : false ≡ true = sym (ap is_some closed) ∙ y in cc)) in
      record { present = present; named = name; uncut = cutting_is past i s g.pointed.cored.core ∙ g.pend.beside mark }

  later : injectors past i ≡ false → (n serial : ℕ) (packet : Sending) → pointed_list past serial i ≡ Some n → (terms past).sent serial ≡ Some packet → (terms past).news serial ≡ 0 → (m : ℕ) → n < m → m < lists past i → packet.generation < begun_in past i m
  later h n serial packet e sent none m l b =
      let p = naming.each n serial e in
      subst (λ (x : Sending). x.generation < begun_in past i m) (same_Some p.packet packet (sym p.sent ∙ sent)) (p.later (not_closed n serial e h none) m l b)

  pub pointers_at : PointersAt past i
  pointers_at = record {
    each = is_pointer;
    once = λ n serial other e f. once_by n serial other e f (nat_lt serial other) (nat_lt other serial) refl refl;
    order = naming.order;
    named = naming.named;
    latest = naming.latest;
    writes = all_writes i past kept.told asks;
    waits = waits;
    later = later;
  }

-- ---- behind a line

fair_at : {before : List Moment} (past : List Moment) (w : WorldState) (h : Stands before w) → history w before ≡ past → (terms past).injects 0 ≡ false
fair_at past w h e = subst (λ ms. (terms ms).injects 0 ≡ false) (h.is.past_is ∙ e) h.is.fair

module _ (line : ℕ) (run : Run) (r : IsRun run) (i : ℕ) (b : i < run.initiators) where
  abbrev past : List Moment
  past = history_of line run

  abbrev last : WorldState
  last = (after (beginning run) run.entries).world

  sound : SoundAfter line run run.entries last
  sound = sound_after fitting_law own_fitting_law line run run.entries r.few r.short r.entries r.lines

  pub wire_of : IsOfWire past
  wire_of = subst IsOfWire sound.is (laws_of sound.past last sound.sound.stands)

  pub fair_of : (terms past).injects 0 ≡ false
  fair_of = fair_at past last sound.sound.stands sound.is

  guard : Guarded run.ready past i (initiator_of run i)
  guard = guarded_of_runs line run r i b

  run_pointers : PointersAt past i
  run_pointers = pointers_at run.ready past i (initiator_of run i) guard wire_of fair_of (calm_of_runs line run r)

  run_moments : EachMoment (MayStand i) past
  run_moments = (kept run.ready past i (initiator_of run i) guard wire_of fair_of (calm_of_runs line run r)).told

  run_asks : EachMoment (MayAsk i) past
  run_asks = asks run.ready past i (initiator_of run i) guard wire_of fair_of (calm_of_runs line run r)

-- ---- between two deliveries of a line

module _ (line : ℕ) (run : Run) (r : IsRun run) (next : ℕ) (most : Option ℕ) (told : List (Option Told)) (m : MayAll told (begun (after (beginning run) run.entries))) (i : ℕ) (b : i < run.initiators) where
  abbrev w : WorldState
  w = (after_all told (begun (after (beginning run) run.entries))).world

  abbrev now : List Moment
  now = map said w.fresh ++ asked next (more_deliveries most) ∷ history_of line run

  between_guard : Guarded run.ready now i (initiator_at w i)
  between_guard = guarded_between line run r next most told m i b

  pub between_wire : IsOfWire now × ((terms now).injects 0 ≡ false)
  between_wire =
      let k = stands_between (Guarded run.ready) (guarded_carried run.ready) line run (ready_known line run) (λ j c. first_guarded line j run.initiators run.ready c) r next most told m in
      (subst IsOfWire k.is (laws_of k.past w k.sound.stands), fair_at now w k.sound.stands k.is)

  between_pointers : PointersAt now i
  between_pointers = pointers_at run.ready now i (initiator_at w i) between_guard between_wire.0 between_wire.1 (calm_between line run r next most told m)

  between_moments : EachMoment (MayStand i) now
  between_moments = (kept run.ready now i (initiator_at w i) between_guard between_wire.0 between_wire.1 (calm_between line run r next most told m)).told

  between_asks : EachMoment (MayAsk i) now
  between_asks = asks run.ready now i (initiator_at w i) between_guard between_wire.0 between_wire.1 (calm_between line run r next most told m)

pub pointers_law : PointersLaw
pointers_law = record { after_lines = run_pointers; between = between_pointers }

pub moments_law : MomentsLaw
moments_law = record { after_lines = run_moments; between = between_moments }

pub writes_law : WritesLaw
writes_law = record { after_lines = run_asks; between = between_asks }
