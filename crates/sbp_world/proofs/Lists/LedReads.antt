-- At each place of a run an agent that reads an ORB of an initiator that injected no packets reads the one that was prepared last in its slot, of the latest list of this initiator.
use Rattle.sbp_world.proofs.Words.Std.{arith, ◌≡◌, ◌∙◌, inl, inr, refl, sym, ap, subst, ◌<◌, ◌≤◌, ℕ, suc, true, false, List, Some, same_Some}
use Rattle.sbp_world.proofs.Words.Wire.{Access, Moment, terms}
use Rattle.sbp_world.proofs.Words.Target.{IsOfList, number_behind, ahead_under, main_ask, main_under, Phase, Which, Ahead, Main, Machine, aligned, is_ahead, Disk}
use Rattle.sbp_world.proofs.Words.Initiator.{Read, At, CommandOrb}
use Rattle.sbp_world.proofs.Words.Laws.{fifo_in, address_of, linked, slot_at, ends, receiver_in, Target, agent_at, term_login, over, target_at}
use Rattle.sbp_world.proofs.Words.World.{Alike, IsAccessFor, serial_of, WorldState, AreAlong, GoesAlong, orbs, IsCalm, IsOpenAt, OpenLists, initiator_in, machine_at, AreLed, IsLedTo}
use Rattle.agent_laws.proofs.Along.Writes.{keeps_along}
use Rattle.sbp_world.proofs.Agents.Management.Holding.{Holding}
use Rattle.sbp_world.proofs.Agents.Management.Still.{hist}
use Rattle.command_agent.specs.declared.phase.Phase.TheVariants as phases
use Rattle.sbp_world.proofs.Lists.Bringing.{read_prepared}
use Rattle.sbp_world.proofs.Lists.Brought.{main_number, number_of}
use Rattle.sbp_world.proofs.Lists.OrbReading.{under_way}
use Rattle.sbp_world.proofs.Lists.ReadSlots.{IsIn, is_in, under_as}
use Rattle.sbp_world.proofs.Lists.Sites.{IsPrepared, Site, Waiting, waiting as agent_waiting}

same_read : (a b : ℕ) → Read a 32 ≡ Read b 32 → a ≡ b
same_read a b e = cc

least_behind : (phase : Phase) (ended : ℕ) → ended ≤ number_behind phase ended
least_behind phases.WritingStatus ended = omega arith
least_behind phases.Reset ended = omega arith
least_behind phases.Fetching ended = omega arith
least_behind phases.ReadingTable ended = omega arith
least_behind (phases.ReadingData wanted) ended = omega arith
least_behind phases.Answering ended = omega arith
least_behind phases.WritingLastStatus ended = omega arith
least_behind phases.ReadingNext ended = omega arith
least_behind phases.Suspended ended = omega arith
least_behind phases.Dead ended = omega arith

module _ (units ready : ℕ) (has : 0 < units) (start : List Disk) {past : List Moment} {lines : ℕ} (w : WorldState) (h : Holding units ready start past lines w) (s : Site start past w) (open_lists : OpenLists (hist past w) w) (along : AreAlong (hist past w) w) where
  abbrev ms : List Moment
  ms = hist past w

  abbrev T : Target
  T = over (target_at start ms)

  module _ (place : ℕ) (b : place < 8) (which : Which) (serial : ℕ) (waits : serial_of which (agent_at T place) ≡ Some serial) (j : ℕ) (to : receiver_in ((terms ms).sent serial) ≡ Some (suc j)) (quiet : IsCalm ms j) where
    abbrev i : ℕ
    i = initiator_in w place

    abbrev m : Machine
    m = machine_at w place

    abbrev a : Machine
    a = (agent_at T place).machine

    abbrev asked : Waiting units ready has start w h s place b which serial
    asked = agent_waiting units ready has start w h s place b which serial waits

    abbrev fifo : ℕ
    fifo = fifo_in (term_login T place)

    initiator_is : j ≡ i
    initiator_is = let e = same_Some (suc j) (suc i) (sym to ∙ asked.to) in omega (arith, e)

    calm : IsCalm ms i
    calm = subst (IsCalm ms) initiator_is quiet

    abbrev o : IsOpenAt ms w place
    o = open_lists.listed place b asked.is_open calm

    abbrev goes : GoesAlong ms i o.n m
    goes = along.all place b asked.is_open calm o.n o.list

    alike : Alike (agent_at T place).untold a m
    alike = (s.agents.are.each place b).machine

    list_is : IsOfList (orbs ms i o.n) goes.progress m
    list_is = (keeps_along (orbs ms i o.n)).asks goes.progress m goes.along

    not_last : (k : ℕ) → goes.progress.ended ≤ k → IsIn ms i o.n m.phase goes.progress.ended k → (goes.progress.ended ≤ k) × (k < linked ms i o.n)
    not_last k le (inl x) = x
    not_last k le (inr x) = absurd (let e = x.1 in omega (arith, e, le))

    led_at : (address k : ℕ) → under_as which m ≡ Read address 32 → number_of which m.phase goes.progress.ended ≡ k → goes.progress.ended ≤ k → address ≡ address_of ms i o.n k → IsLedTo ms j address
    led_at address k asks number least stands =
        let reads : asked.access.is_write ≡ false = ap (λ (x : Access). x.is_write) (subst (λ ask. IsAccessFor ask asked.status fifo asked.access) asks asked.asks) in
        let is = is_in ms i o.n which goes.progress m asked.status fifo asked.access goes.along asked.asks reads in
        let within = not_last k least (subst (IsIn ms i o.n m.phase goes.progress.ended) number is) in
        let from : ends ms i o.n ≤ k = (let e = goes.is in let l = within.0 in omega (arith, e, l)) in
        let p : IsPrepared ms i (slot_at ms i o.n (number_of which m.phase goes.progress.ended)) o.n (number_of which m.phase goes.progress.ended) =
        read_prepared units ready has start w h s open_lists place b asked.is_open asked.inside calm o.n o.list goes.progress.ended (number_of which m.phase goes.progress.ended) goes.is is in
        let q : IsPrepared ms i (slot_at ms i o.n k) o.n k = subst (λ x. IsPrepared ms i (slot_at ms i o.n x) o.n x) number p in
        subst (λ x. IsLedTo ms x address) (sym initiator_is)
        (record { n = o.n; k = k; slot = slot_at ms i o.n k; small = q.small; stands = stands; there = q.there; latest = o.still.latest; at = stands; after = from; before = within.1 })

  main_led : (place : ℕ) → place < 8 → (serial j : ℕ) → receiver_in ((terms ms).sent serial) ≡ Some (suc j) → IsCalm ms j → (agent_at T place).main ≡ Some serial → (agent_at T place).machine.phase ≡ phases.Fetching → IsLedTo ms j (agent_at T place).machine.present
  main_led place b serial j to quiet e p =
      let same = alike place b Main serial e j to quiet in
      let phase_is : (machine_at w place).phase ≡ phases.Fetching = sym same.phase ∙ p in
      let k = (goes place b Main serial e j to quiet).progress.ended in
      let asks : main_under (machine_at w place) ≡ Read (machine_at w place).present 32 = ap (λ phase. main_ask phase (machine_at w place)) phase_is in
      let stands = same_read _ _ (sym asks ∙ (list_is place b Main serial e j to quiet).fetched phase_is) in
      subst (IsLedTo ms j) (sym (same.present (asked place b Main serial e j to quiet).is_open))
      (led_at place b Main serial e j to quiet (machine_at w place).present k asks (ap (λ phase. main_number phase k) phase_is) (omega arith) stands)

  ahead_led : (place : ℕ) → place < 8 → (serial j offset : ℕ) → receiver_in ((terms ms).sent serial) ≡ Some (suc j) → IsCalm ms j → (agent_at T place).ahead ≡ Some serial → is_ahead (agent_at T place).machine.ahead ≡ true → (agent_at T place).machine.orb.next ≡ At offset → IsLedTo ms j (aligned offset)
  ahead_led place b serial j offset to quiet e f g =
      let same = alike place b Ahead serial e j to quiet in
      let is_open = (asked place b Ahead serial e j to quiet).is_open in
      let flag : is_ahead (machine_at w place).ahead ≡ true = sym same.flag ∙ f in
      let next_is : (machine_at w place).orb.next ≡ At offset = ap (λ (x : CommandOrb). x.next) (sym (same.orb is_open)) ∙ g in
      let ended = (goes place b Ahead serial e j to quiet).progress.ended in
      let k = number_behind (machine_at w place).phase ended in
      let asks : ahead_under (machine_at w place) ≡ Read (aligned offset) 32 = under_way (machine_at w place).ahead (machine_at w place).orb.next offset flag next_is in
      let stands = same_read _ _ (sym asks ∙ (list_is place b Ahead serial e j to quiet).behind flag) in
      led_at place b Ahead serial e j to quiet (aligned offset) k asks refl (least_behind (machine_at w place).phase ended) stands

  pub are_led : AreLed start ms
  are_led = record { main = λ place b serial j to quiet e p. main_led place b serial j to quiet e p; ahead = λ place b serial j offset to quiet e f g. ahead_led place b serial j offset to quiet e f g }
