-- Where one management operation of an initiator is in hand at a time, the target reads the ORB of the one that is under way.
use Rattle.sbp_world.proofs.Words.Std.{arith, ◌≡◌, ◌∙◌, refl, sym, ap, subst, ℕ, suc, ◌<◌, ◌≤◌, nat_le, Bool, true, false, List, [], ◌∷◌, ◌++◌, map, length, Option, Some, None, append_assoc, nat_tests, same_Some}
use Rattle.sbp_world.proofs.Words.Wire.{SerialsCount, transaction, Event, Moment, asked, said, Part, Sending, Transaction, asked_as, asked_by, begun_by, begun_if, between, part_of, request, Terms, terms}
use Rattle.sbp_world.proofs.Words.Target.{Operation, source_in, Disk, Told}
use Rattle.sbp_world.proofs.Words.Initiator.{start_of}
use Rattle.sbp_world.proofs.Words.Laws.{Underway, host_at, is_management, id_for, receiver_in, target_at}
use Rattle.sbp_world.proofs.Words.World.{history_of, moments_behind, ready_logins, Run, after, beginning, MayAll, after_all, WorldState, begun, Awaits, HasRequest, IsRun, more_deliveries, InPlaceLaw, IsInPlace, IsHandling, IsManaged, ManagingLaw, IsCalm, OpenBefore, OpenBetween, BringOrbs, IsReading, OperationsLast}
use Rattle.bus_memory.specs.declared.window.Window.TheVariants as windows
use Rattle.bus_transactions.proofs.Reaches.{goes_on}
use Rattle.mgmt_agent.specs.Machine.{Machine}
use Rattle.sbp_world.proofs.Agents.Management.Holding.{Holding, past_terms}
use Rattle.sbp_world.proofs.Agents.Management.Lines.{all_heard as all_hold, opens}
use Rattle.sbp_world.proofs.Agents.Management.Runs.{holds_after, no_repeats, not_reset}
use Rattle.sbp_world.proofs.Agents.Management.Still.{hist}
use Rattle.sbp_world.proofs.Hosts.Between.{of_wire_there}
use Rattle.sbp_world.proofs.Hosts.Remaining.{remains, serials}
use Rattle.sbp_world.proofs.Lists.Calm.{calm_before}
use Rattle.sbp_world.proofs.Lists.ContentManages.{so_before}
use Rattle.sbp_world.proofs.Lists.Heard.{awaited_to}
use Rattle.sbp_world.proofs.Lists.OrbsBegan.{BeganBy, began, line_kept, not_before}
use Rattle.sbp_world.proofs.Lists.OrbsRead.{read_orbs_law}
use Rattle.sbp_world.proofs.Lists.Runs.{as_front}
use Rattle.sbp_world.proofs.Lists.UnderwayRuns.{delivering, underway_law}
use Rattle.sbp_world.proofs.Lists.Courses.{more_no_act}
use Rattle.sbp_world.proofs.Lists.FifoManages.{orb_status}
use Rattle.sbp_world.proofs.Lists.JoinLaws.{moments_same, lines_same}
use Rattle.sbp_world.proofs.Hosts.Runs.{are_told}
use Rattle.sbp_world.proofs.Common.{delivers}

-- ---- the request of the operation, by the wire

generation_if : (b : Bool) (packet : Sending) (label : ℕ) (u : Transaction) → begun_if b (Some (between packet packet.from packet.to label)) ≡ Some u → packet.generation ≡ u.generation
generation_if true packet label u e = absurd (let no : None ≡ Some u = e in cc)
generation_if false packet label u e = let same : between packet packet.from packet.to label ≡ u = cc in ap (λ (x : Transaction). x.generation) same

generation_part : (packet : Sending) (label : ℕ) (u : Transaction) (part : Part) (kind : _) → part ≡ request label kind → begun_if packet.injected (asked_as part packet) ≡ Some u → packet.generation ≡ u.generation
generation_part packet label u part kind e f = generation_if packet.injected packet label u (sym (ap (λ (x : Part). begun_if packet.injected (asked_as x packet)) e) ∙ f)

pub record IsRequest (ms : List Moment) (read : ℕ) (op : Operation) : Type 0 where
  pub peer : ℕ
  pub packet : Sending
  pub sent : (terms ms).sent read ≡ Some packet
  pub to : receiver_in ((terms ms).sent read) ≡ Some peer
  pub source : op.source ≡ id_for (terms ms) 0 peer
  pub generation : packet.generation ≡ (terms ms).generation 0

module _ (units ready : ℕ) (start : List Disk) {past : List Moment} {lines : ℕ} (w : WorldState) (h : Holding units ready start past lines w) (op : Operation) (read : ℕ) (operation : (target_at start (hist past w)).manager.operation ≡ Some op) (manages : (target_at start (hist past w)).manages ≡ Some read) where
  abbrev t : Terms
  t = terms (hist past w)

  has_request : HasRequest t w.target.layer op.source (target_at start (hist past w)).manages
  has_request =
      let is : source_in w.target.manager.operation ≡ Some op.source = ap source_in (ap (λ (m : Machine). m.operation) (sym h.at.agrees.manager) ∙ operation) in
      subst (λ s. Awaits t w.target.layer s (target_at start (hist past w)).manages) is h.at.awaits

  pub of_request : IsRequest (hist past w) read op
  unfolding begun_by asked_by
  of_request =
      let r = has_request in
      let same : r.serial ≡ read = same_Some r.serial read (sym r.manages_is ∙ manages) in
      let u : Transaction = transaction (t.generation 0) 0 r.peer r.number in
      let stands = h.sound.stands in
      let terms_are : terms stands.wire.past ≡ t = past_terms w stands in
      let a = goes_on.awaited stands.wire u r.kind r.serial stands.reached (ap (λ (x : Terms). x.held u) terms_are ∙ r.waits_for) in
      let to : receiver_in ((terms stands.wire.past).sent r.serial) ≡ Some r.peer = awaited_to (terms stands.wire.past) u r.kind r.serial a in
      record {
        peer = r.peer;
        packet = a.packet;
        sent = ap t.sent (sym same) ∙ (ap (λ (x : Terms). x.sent r.serial) (sym terms_are) ∙ a.sent);
        to = ap (λ s. receiver_in (t.sent s)) (sym same) ∙ (ap (λ (x : Terms). receiver_in (x.sent r.serial)) (sym terms_are) ∙ to);
        source = sym r.peer_is;
        generation = generation_part a.packet u.label u (part_of a.packet.bytes) r.kind a.part a.begun;
      }

-- ---- runs

module _ (managing : ManagingLaw) (line : ℕ) (run : Run) (few : run.initiators ≤ 4) (has : 0 < run.units) (small : run.units ≤ 4) (size : length run.start.disks ≡ run.units) (i : ℕ) (inside : i < run.initiators) (past : List Moment) (counts : SerialsCount past) (lasts : OperationsLast past i) (calm : IsCalm past i) (managed : IsManaged run.start.disks past i) (brings : BringOrbs run.start.disks past i) (requested : (op : Operation) (read : ℕ) → (target_at run.start.disks past).manager.operation ≡ Some op → (target_at run.start.disks past).manages ≡ Some read → IsRequest past read op) (finds : (underway : Underway) (there : (host_at past i).operation ≡ Some underway) → underway.first ≤ (terms past).count → BeganBy line run i past counts lasts underway there) where
  abbrev start : List Disk
  start = run.start.disks

  module _ (read : ℕ) (underway : Underway) (r : IsReading start past i read underway) (is_own : is_management underway.operation ≡ true) (same : (terms past).generation 0 ≡ (terms past).generation (suc i)) (to : receiver_in ((terms past).sent read) ≡ Some (suc i)) where
    b : BeganBy line run i past counts lasts underway r.has
    b = finds underway r.has (lasts.each [] past refl underway r.has).sent

    abbrev E : List Moment
    E = moments_behind line run b.entries

    module _ (before : read < underway.first) where
      read_there : read ≤ (terms E).count
      read_there = let s = b.sent in omega (arith, before, s)

      counts_later : SerialsCount (b.later ++ E)
      counts_later = subst SerialsCount (sym b.is) counts

      sent_same : (serial : ℕ) → serial ≤ (terms E).count → (terms past).sent serial ≡ (terms E).sent serial
      sent_same serial l = ap (λ ms. (terms ms).sent serial) (sym b.is) ∙ (remains b.later E counts_later).sent serial l

      manages_there : (target_at start E).manages ≡ Some read
      manages_there = (so_before start b.later E read counts_later read_there (ap (λ ms. (target_at start ms).manages) b.is ∙ r.manages)).manages

      operation_there : (target_at start E).manager.operation ≡ Some r.op
      operation_there =
          (so_before start b.later E read counts_later read_there (ap (λ ms. (target_at start ms).manages) b.is ∙ r.manages)).operation
          ∙ (ap (λ ms. (target_at start ms).manager.operation) b.is ∙ r.operation)

      request_there : IsRequest E read r.op
      request_there =
          let k = holds_after line run b.entries few has small size b.short b.every b.fit in
          let w = (after (beginning run) b.entries).world in
          subst (λ ms. IsRequest ms read r.op) k.is
          (of_request run.units (ready_logins run.initiators run.ready) start w k.holds r.op read
          (ap (λ ms. (target_at start ms).manager.operation) k.is ∙ operation_there) (ap (λ ms. (target_at start ms).manages) k.is ∙ manages_there))

      history_is : history_of line (record run { entries = b.entries }) ≡ E
      history_is = moments_same line run b.entries b.entries

      managed_there : IsManaged start E i
      managed_there =
          subst (λ ms. IsManaged start ms i) history_is
          (managing.after_lines line (record run { entries = b.entries }) (record { few = few; short = b.short; entries = b.every; lines = lines_same run b.entries b.entries b.fit }) has small size (as_front line run b.entries b.entries b.open_before) i inside
          (subst (λ ms. IsCalm ms i) (sym history_is) (calm_before b.later E i (subst (λ ms. IsCalm ms i) (sym b.is) calm))))

      none : ⊥
      none =
          let w = lasts.was b.later E b.is underway r.has b.sent in
          let own : is_management w.was.operation ≡ true = ap is_management (sym w.same.operation) ∙ is_own in
          let first : underway.first ≡ w.was.first = w.same.first in
          let place : underway.place ≡ w.was.place = w.same.place in
          let busy = managed_there.busy w.was w.is own in
          let now = managed.busy underway r.has is_own in
          let q = request_there in
          let p = requested r.op read r.operation r.manages in
          let peer_is : q.peer ≡ suc i = same_Some q.peer (suc i) (sym q.to ∙ (ap receiver_in (sym (sent_same read read_there)) ∙ to)) in
          let packets : q.packet ≡ p.packet = same_Some q.packet p.packet (sym q.sent ∙ (sym (sent_same read read_there) ∙ p.sent)) in
          let of_target : (terms E).generation 0 ≡ (terms past).generation 0 = sym q.generation ∙ (ap (λ (x : Sending). x.generation) packets ∙ p.generation) in
          let writes : busy.own.packet ≡ now.own.packet = same_Some busy.own.packet now.own.packet (sym busy.own.sent ∙ (ap (λ s. (terms E).sent s) (sym first) ∙ (sym (sent_same underway.first b.sent) ∙ now.own.sent))) in
          let of_own : (terms E).generation (suc i) ≡ (terms past).generation (suc i) = sym busy.own.current ∙ (ap (λ (x : Sending). x.generation) writes ∙ now.own.current) in
          let handles : IsHandling start E i w.was.place r.op = record {
            same = of_target ∙ (same ∙ sym of_own);
            is = operation_there;
            source = q.source ∙ ap (λ x. id_for (terms E) 0 x) peer_is;
            small = subst (λ x. x < 2) place (lasts.each [] past refl underway r.has).small;
            orb = r.orb ∙ ap (λ x. start_of (windows.Management x)) place;
          } in
          let fresh : (terms E).news w.was.first ≡ 0 = ap (λ x. (terms E).news x) (sym first) ∙ b.fresh in
          orb_status (sym r.phase ∙ ((busy.waiting fresh).over w.was.place r.op handles).0)

    is_behind : underway.first ≤ read
    is_behind = by (nat_le underway.first read) refl
      where
        by : (x : Bool) → nat_le underway.first read ≡ x → underway.first ≤ read
        by true e = grind (arith, nat_tests)
        by false e = absurd (none (grind (arith, nat_tests)))

  pub in_place : IsInPlace start past i
  in_place = record {
    behind = λ read underway r own same to. is_behind read underway r own same to;
    brings = λ read response underway bytes r own same answered. brings read response underway bytes r (is_behind read underway r own same answered.of_initiator) answered;
  }

module _ (managing : ManagingLaw) (line : ℕ) (run : Run) (q : IsRun run) (has : 0 < run.units) (small : run.units ≤ 4) (size : length run.start.disks ≡ run.units) (i : ℕ) (inside : i < run.initiators) where
  abbrev logins : ℕ
  logins = ready_logins run.initiators run.ready

  after_them : OpenBefore line run run.entries → IsCalm (history_of line run) i → IsInPlace run.start.disks (history_of line run) i
  after_them so_far calm =
      let past = history_of line run in
      let counts = serials line run q in
      let lasts = underway_law.after_lines line run q i inside in
      let k = holds_after line run run.entries q.few has small size q.short q.entries q.lines in
      let w = (after (beginning run) run.entries).world in
      in_place managing line run q.few has small size i inside past counts lasts calm (managing.after_lines line run q has small size so_far i inside calm) (read_orbs_law.after_lines line run q has small size i inside)
      (λ op read operation manages. subst (λ ms. IsRequest ms read op) k.is
      (of_request run.units logins run.start.disks w k.holds op read (ap (λ ms. (target_at run.start.disks ms).manager.operation) k.is ∙ operation) (ap (λ ms. (target_at run.start.disks ms).manages) k.is ∙ manages)))
      (λ underway there l. began line run i past counts lasts underway there run.entries q.short q.entries q.lines so_far [] refl l)

  module _ (next : ℕ) (most : Option ℕ) (told : List (Option Told)) (m : MayAll told (begun (after (beginning run) run.entries))) (so_far : OpenBetween line run next (more_deliveries most) told) where
    abbrev w : WorldState
    w = (after_all told (begun (after (beginning run) run.entries))).world

    abbrev event : Event
    event = more_deliveries most

    abbrev past : List Moment
    past = map said w.fresh ++ asked next event ∷ history_of line run

    counts : SerialsCount past
    counts = (of_wire_there line run q next event told (delivering told most) m).laws.serials

    lasts : OperationsLast past i
    lasts = underway_law.between line run q next most told m i inside

    abbrev segment : List Moment
    segment = map said w.fresh ++ asked next event ∷ []

    joined : segment ++ history_of line run ≡ past
    joined = append_assoc (map said w.fresh) (asked next event ∷ []) (history_of line run)

    finds : (underway : Underway) (there : (host_at past i).operation ≡ Some underway) → BeganBy line run i past counts lasts underway there
    finds underway there = by (nat_le underway.first (terms (history_of line run)).count) refl
      where
        by : (b : Bool) → nat_le underway.first (terms (history_of line run)).count ≡ b → BeganBy line run i past counts lasts underway there
        by true e = began line run i past counts lasts underway there run.entries q.short q.entries q.lines so_far.before segment joined (grind (arith, nat_tests))
        by false e = absurd (not_before line run i past counts lasts underway there segment (history_of line run) joined (grind (arith, nat_tests)) underway refl (line_kept w.fresh next event (history_of line run) i (more_no_act most i) underway there))

    between_them : IsCalm past i → IsInPlace run.start.disks past i
    between_them calm =
        let k = holds_after line run run.entries q.few has small size q.short q.entries q.lines in
        let s = after (beginning run) run.entries in
        let d = delivers most in
        let opened = opens run.units logins has run.start.disks next event s.world (not_reset event d) k.holds in
        let h = all_hold run.units logins has run.start.disks told (are_told told s m) (begun s) opened (no_repeats event (hist k.past s.world) next d) in
        let is : hist (asked next event ∷ hist k.past s.world) w ≡ past = ap (λ ms. map said w.fresh ++ asked next event ∷ ms) k.is in
        in_place managing line run q.few has small size i inside past counts lasts calm (managing.between line run q has small size next most told m so_far i inside calm) (read_orbs_law.between line run q has small size next most told m i inside)
        (λ op read operation manages. subst (λ ms. IsRequest ms read op) is
        (of_request run.units logins run.start.disks w h op read (ap (λ ms. (target_at run.start.disks ms).manager.operation) is ∙ operation) (ap (λ ms. (target_at run.start.disks ms).manages) is ∙ manages)))
        (λ underway there l. finds underway there)

pub in_place_law : InPlaceLaw
in_place_law = λ managing. record {
  after_lines = λ line run q has small size so_far i inside calm. after_them managing line run q has small size i inside so_far calm;
  between = λ line run q has small size next most told m so_far i inside calm. between_them managing line run q has small size i inside next most told m so_far calm;
}
