-- At a place: what a ring wrote once the ORB_POINTER of its list was got is a quadlet, for ORB_POINTER is written once for a list; and where it was got at the DOORBELL of a place, that was got.
use Rattle.sbp_world.proofs.Words.Std.{arith, ◌≡◌, ◌∙◌, sym, ap, subst, ◌<◌, ◌≤◌, ◌+◌, ◌-◌, ◌/◌, ◌%◌, ◌&&◌, nat_eq, nat_le, nat_lt, nat_tests, ℕ, suc, true, false, cond, List, [], ◌∷◌, ◌++◌, Some, length}
use Rattle.sbp_world.proofs.Words.Wire.{Access, Action, Moment, Note, Sending, SerialsCount, doorbell, management_agent, register, rom_start, said, start_at, terms}
use Rattle.sbp_world.proofs.Words.Initiator.{rings}
use Rattle.sbp_world.proofs.Words.Target.{Disk, agent_base}
use Rattle.sbp_world.proofs.Words.Laws.{EachMoment, access_in, answered_as, host_at, packet_in, present_list, receiver_in}
use Rattle.sbp_world.proofs.Words.World.{PointersAt, Stands, WorldState, list_if, pointed_list, register_write}
use Rattle.sbp_journal.specs.Addresses.{Start, base_of, management_address, no_start, register_at, registers_base, rom_base, start_serves}
use Rattle.sbp_journal.specs.declared.event.Action.TheVariants as actions
use Rattle.sbp_journal.specs.declared.note.Note.TheVariants as notes
use Rattle.sbp_laws.specs.Hosts.{is_serial, operation_of}
use Rattle.sbp_laws.specs.Packets.{answered_in}
use Rattle.sbp_world.specs.Completing.Bells.{WasBelled}
use Rattle.sbp_world.specs.Completing.BellsFound.{AreBellsFound, IsBellFound}
use Rattle.sbp_world.specs.Completing.BellsGot.{IsBehind, IsBellTaken, AreBellsTaken}
use Rattle.sbp_world.specs.Completing.Rung.{IsRung}
use Rattle.sbp_world.specs.Pointers.Moments.{IsWritten, MayAsk, MayWrite, manages, writes_bell, writes_enable, writes_management, writes_pointer, writes_reset}
use Rattle.sbp_world.proofs.Agents.Management.Still.{hist}
use Rattle.sbp_world.proofs.Common.{itself, moment_joined, untrue}
use Rattle.sbp_world.proofs.Completing.BellsGot.{Behind, behind, first_in, other_in}
use Rattle.sbp_world.proofs.Hosts.Remaining.{remains}
use Rattle.sbp_world.proofs.Hosts.SentMoments.{count_now, sent_below, sent_there, serials_from}
use Rattle.sbp_world.proofs.Lists.Judging.{counts_at}
use Rattle.sbp_world.proofs.Lists.ManageWire.{WireAt, WireMoments, wire_moments}
use Rattle.sbp_world.proofs.Lists.ManageWrites.{same_action}
use Rattle.sbp_world.proofs.Lists.OpenFresh.{writes_of}
use Rattle.sbp_world.proofs.Lists.OpenedMoments.{pointed_remains}
use Rattle.sbp_world.proofs.Lists.StatusKnown.{each_from}

-- ---- the address of a DOORBELL
module _ (place : ℕ) (b : place < 8) where
  abbrev offset : ℕ
  offset = agent_base place + 0x10

  abbrev distance : ℕ
  distance = offset - registers_base

  abbrev register_there : Start
  register_there = register_at (distance / 0x20) (distance % 0x20)

  abbrev behind_rom : Start
  behind_rom = cond (nat_le registers_base offset && nat_lt offset (base_of 8)) register_there no_start

  rom : nat_eq offset rom_base ≡ false
  rom = grind (arith, nat_tests, b)

  management : nat_eq offset management_address ≡ false
  management = grind (arith, nat_tests, b)

  low : nat_le registers_base offset ≡ true
  low = grind (arith, nat_tests, b)

  high : nat_lt offset (base_of 8) ≡ true
  high = grind (arith, nat_tests, b)

  place_is : distance / 0x20 ≡ place
  place_is = omega (arith, b)

  register_is : distance % 0x20 ≡ 0x10
  register_is = omega (arith, b)

  bell_start : start_at offset ≡ register place doorbell
  unfolding start_at
  bell_start =
      ap (λ x. cond x rom_start (cond (nat_eq offset management_address) management_agent behind_rom)) rom
      ∙ (ap (λ x. cond x management_agent behind_rom) management
      ∙ (ap (λ x. cond (x && nat_lt offset (base_of 8)) register_there no_start) low
      ∙ (ap (λ x. cond x register_there no_start) high ∙ (ap (λ p. register_at p (distance % 0x20)) place_is ∙ ap (λ d. register_at place d) register_is))))

-- ---- a ring does not manage
no_manager : (action : Action) → rings action ≡ true → manages (operation_of action) ≡ true → {A : Type 0} → A
no_manager (actions.Append cmd) r m = untrue m
no_manager actions.Ring r m = untrue m
no_manager _ r m = untrue r

module _ {past : List Moment} (w : WorldState) (h : Stands past w) (start : List Disk) (i n k : ℕ) (pointers : PointersAt (hist past w) i) (asks : EachMoment (MayAsk i) (hist past w)) (written : WasBelled (hist past w) i n k) (x : IsBehind start (hist past w) w i n k written) where
  abbrev now : List Moment
  now = hist past w

  abbrev back : List Moment
  back = written.back

  abbrev r : ℕ
  r = written.serial

  abbrev s : ℕ
  s = x.pointed.serial

  abbrev sent : Note
  sent = notes.Sent r written.generation (suc i) written.to written.bytes

  abbrev there : List Moment
  there = said sent ∷ back

  abbrev packet : Sending
  packet = record { generation = written.generation; from = suc i; to = written.to; bytes = written.bytes; injected = (terms back).injected r }

  from_there : (F : List Moment → Type 0) → F now → F (written.front ++ there)
  from_there F y = subst F (sym written.is) y

  counts : SerialsCount (written.front ++ there)
  counts = from_there SerialsCount (counts_at w h)

  pub counts_there : SerialsCount there
  counts_there = serials_from written.front there counts

  pub serial_is : r ≡ (terms back).count + 1
  serial_is = counts_there.0

  least : r ≤ (terms there).count
  least = let c = serial_is in let d = count_now back r written.generation (suc i) written.to written.bytes in omega (arith, c, d)

  pub sent_now : (terms now).sent r ≡ Some packet
  sent_now = ap (λ ms. (terms ms).sent r) (sym written.is) ∙ ((remains written.front there counts).sent r least ∙ sent_there back r written.generation (suc i) written.to written.bytes)

  wires : WireMoments now
  wires = subst WireMoments h.is.past_is (wire_moments h.wire h.reached)

  -- ---- it was sent behind that of ORB_POINTER
  abbrev early : List Moment
  early = x.opening.before

  pub got_wire : EachMoment WireAt (said (notes.Got s) ∷ early)
  got_wire = each_from WireAt x.opening.later (said (notes.Got s) ∷ early) (subst WireMoments (sym x.opening.is) wires)

  back_is : (x.since ++ said (notes.Got s) ∷ []) ++ early ≡ back
  back_is = moment_joined x.since (said (notes.Got s)) early ∙ x.is

  early_counts : SerialsCount ((x.since ++ said (notes.Got s) ∷ []) ++ early)
  early_counts = subst SerialsCount (sym back_is) counts_there.1

  pub early_less : (terms early).count < r
  early_less =
      let grown : (terms early).count ≤ (terms back).count = subst (λ ms. (terms early).count ≤ (terms ms).count) back_is (remains (x.since ++ said (notes.Got s) ∷ []) early early_counts).count in
      let c = serial_is in
      omega (arith, grown, c)

  pub later_than : s < r
  later_than =
      let at = sent_below early s got_wire.0.packet (serials_from (x.since ++ said (notes.Got s) ∷ []) early early_counts) got_wire.0.sent in
      let l = early_less in
      omega (arith, at, l)

  -- ---- so it is a quadlet
  not_pointer : (host_at there i).pointer ≡ Some r → {A : Type 0} → A
  not_pointer named =
      let value = list_if (is_serial (host_at there i).pointer r) (present_list back i) in
      let list : pointed_list there r i ≡ Some n =
      ap (λ b. cond b (cond (nat_eq i i) value (pointed_list back r i)) (pointed_list back r i)) (itself r)
      ∙ (ap (λ b. cond b value (pointed_list back r i)) (itself i)
      ∙ (ap (λ o. list_if (is_serial o r) (present_list back i)) named ∙ (ap (λ b. list_if b (present_list back i)) (itself r) ∙ written.present)))
      in
      let pointed : pointed_list now r i ≡ Some n = ap (λ ms. pointed_list ms r i) (sym written.is) ∙ (pointed_remains written.front there r i counts least ∙ list) in
      let same = pointers.once n r s pointed x.pointed.pointed in
      let l = later_than in
      absurd (omega (arith, same, l))

  asks_there : EachMoment (MayAsk i) there
  asks_there = each_from (MayAsk i) written.front there (from_there (EachMoment (MayAsk i)) asks)

  by_action : IsWritten back i (host_at there i).pointer r written.access → written.access.is_block ≡ false
  by_action y = by y.is
    where
      same : y.action ≡ written.action
      same = same_action i y.action written.action (sym y.line ∙ written.line)

      by : MayWrite back i (host_at there i).pointer r y.action written.access → written.access.is_block ≡ false
      by (writes_pointer rung named) = not_pointer named
      by (writes_bell rung list other base present pointer is) = ap (λ (a : Access). a.is_block) is
      by (writes_reset action base is) = ap (λ (a : Access). a.is_block) is
      by (writes_enable action base is) = ap (λ (a : Access). a.is_block) is
      by (writes_management m offset place is) = no_manager y.action (ap rings same ∙ written.rings_it) m

  pub is_quadlet : written.access.is_block ≡ false
  is_quadlet = by_action (asks_there.0 (itself (suc i)) written.honest written.access written.spelled written.write)

  -- ---- that was got
  module _ (place : ℕ) (small : place < 8) (f : IsBellFound now place i n k written) where
    got_there : EachMoment WireAt (said (notes.Got r) ∷ f.past)
    got_there = each_from WireAt f.later (said (notes.Got r) ∷ f.past) (subst WireMoments (sym f.is) wires)

    past_is : (f.later ++ said (notes.Got r) ∷ []) ++ f.past ≡ now
    past_is = moment_joined f.later (said (notes.Got r)) f.past ∙ f.is

    past_counts : SerialsCount ((f.later ++ said (notes.Got r) ∷ []) ++ f.past)
    past_counts = subst SerialsCount (sym past_is) (counts_at w h)

    below : r ≤ (terms f.past).count
    below = sent_below f.past r got_there.0.packet (serials_from (f.later ++ said (notes.Got r) ∷ []) f.past past_counts) got_there.0.sent

    sent_then : (terms f.past).sent r ≡ Some packet
    sent_then = sym ((remains (f.later ++ said (notes.Got r) ∷ []) f.past past_counts).sent r below) ∙ (ap (λ ms. (terms ms).sent r) past_is ∙ sent_now)

    access_is : written.access ≡ register_write (host_at back i).login.agent 0x10
    access_is = written.at_login is_quadlet

    rung : IsRung (terms f.past) r place
    rung =
        let part = writes_of written.bytes written.access written.spelled written.write in
        record {
          by_target = ap (λ o. is_serial (receiver_in o) 0) sent_then ∙ ap (λ to. nat_eq to 0) written.to_target;
          asks = ap (λ o. answered_in (terms f.past) o) sent_then ∙ ap (λ p. answered_as p (terms f.past) packet) part.part;
          access = written.access;
          is = ap (λ o. access_in (packet_in o)) sent_then ∙ written.spelled;
          names = ap start_at f.at ∙ bell_start place small;
          serves = ap (λ a. start_serves (register place doorbell) a) access_is;
        }

    apart : said sent ≡ said (notes.Got r) → ⊥
    apart e = cc

    -- and was sent before
    pub is_taken : IsBellTaken now place i n k written
    is_taken = by (behind written.front f.later (said sent) back (said (notes.Got r)) f.past apart (written.is ∙ sym f.is))
      where
        by : Behind (said sent) back (said (notes.Got r)) f.past → IsBellTaken now place i n k written
        by (first_in c e) = record { later = f.later; past = f.past; is = f.is; rung = rung; front = c ++ said sent ∷ []; behind = moment_joined c (said sent) back ∙ e }
        by (other_in c e) =
            let split : (c ++ said (notes.Got r) ∷ []) ++ f.past ≡ back = moment_joined c (said (notes.Got r)) f.past ∙ e in
            let l : (terms f.past).count ≤ (terms back).count = subst (λ ms. (terms f.past).count ≤ (terms ms).count) split (remains (c ++ said (notes.Got r) ∷ []) f.past (subst SerialsCount (sym split) counts_there.1)).count in
            let b = below in
            let is = serial_is in
            absurd (omega (arith, l, b, is))

-- ---- at a place
pub taken_at : (past : List Moment) (w : WorldState) (now : List Moment) → Stands past w → hist past w ≡ now → (start : List Disk) → ((i : ℕ) → i < length w.initiators → PointersAt now i) → ((i : ℕ) → i < length w.initiators → EachMoment (MayAsk i) now) → AreBellsFound start now w → AreBellsTaken start now w
taken_at past w now h is start =
    subst (λ ms. ((i : ℕ) → i < length w.initiators → PointersAt ms i) → ((i : ℕ) → i < length w.initiators → EachMoment (MayAsk i) ms) → AreBellsFound start ms w → AreBellsTaken start ms w) is
    (λ pointers asks found i n k inside fresh written x.
    is_taken w h start i n k (pointers i inside) (asks i inside) written x x.opening.place x.opening.small
    (found i n k inside fresh written x (is_quadlet w h start i n k (pointers i inside) (asks i inside) written x)))
