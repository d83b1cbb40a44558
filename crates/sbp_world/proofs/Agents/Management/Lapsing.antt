-- A transaction times out in a world: the terms of the target's management stay its state.
use Rattle.sbp_world.proofs.Words.Std.{arith, ◌≡◌, ◌≢◌, ◌∙◌, refl, sym, ap, subst, ℕ, zero, suc, ◌-◌, ◌^◌, ◌<◌, ◌≤◌, nat_eq, nat_lt, Bool, true, false, List, ◌∷◌, length, Option, Some, None, Result, Ok, Err, if◌then◌else◌}
use Rattle.sbp_world.proofs.Words.Wire.{AreBytes, Stale, Layer, expiring_step, empty_outbox, Moment, said, Sending, Transaction, Terms, begun_in, terms, times_out, Request, topology_at, no_packet, find}
use Rattle.sbp_world.proofs.Words.Target.{Operation, source_in, Disk, Purpose, NodeState, Scene, scene, expired, expired_in, after, lets_expire, TransactionLaw}
use Rattle.sbp_world.proofs.Words.Initiator.{Expired, Turn, expire_step}
use Rattle.sbp_world.proofs.Words.Laws.{target_at}
use Rattle.sbp_world.proofs.Words.World.{handed_out, at_initiator, expires, initiator_expires, refused, target_expired, target_left, timed_out, timeout_line, timeout_of, WorldState, initiator_at, with_initiator, with_note, FitsOperation, Stands, lapsed, Agrees, Office, at_rest, office_of, replied, IsManagementAt}
use Rattle.sbp_journal.specs.declared.note.Note.TheVariants as notes
use Rattle.sbp_target.specs.declared.purpose.Purpose.TheVariants as purposes
use Rattle.sbp_world.specs.Packets.{at_target}
use Rattle.sbp_target.proofs.Histories.Calling.{Good}
use Rattle.sbp_world.proofs.Wire.Found.{has_known}
use Rattle.sbp_world.proofs.Wire.Holding.{KnownTo, Sound, known_small}
use Rattle.sbp_world.proofs.Wire.Nodes.{handed_alike}
use Rattle.sbp_world.proofs.Wire.Starts.{laws_of}
use Rattle.sbp_world.proofs.Agents.Management.Asking.{Turned}
use Rattle.sbp_world.proofs.Agents.Management.Calls.{Doing, ForLapse, ForReply, QuietLapse, calmly, lapse_does, managing}
use Rattle.sbp_world.proofs.Agents.Management.Firsts.{lapsed_there, rests}
use Rattle.sbp_world.proofs.Agents.Management.Hands.{carried, own_turn}
use Rattle.sbp_world.proofs.Agents.Management.Holding.{Holding, good_of, law_of, ready_for}
use Rattle.sbp_world.proofs.InitiatorForms as own
use Rattle.sbp_world.proofs.Agents.Management.Lapse.{asked_as, begun_only, calm_lapse, from_asked, none_office, noted, own_lapse, under}
use Rattle.sbp_world.proofs.Agents.Management.Managed.{IsReady}
use Rattle.sbp_world.proofs.Agents.Management.Passing.{keeping, keeping_self, same_office}
use Rattle.sbp_world.proofs.Agents.Management.Still.{Still, hist, lapses_but, others_still}
use Rattle.sbp_world.proofs.Agents.Management.Told.{office_in, one_note}

pub agent_no : (place : ℕ) → Some (purposes.Agent place) ≢ Some purposes.Management
agent_no place e = cc

pub unsolicited_no : Some purposes.Unsolicited ≢ Some purposes.Management
unsolicited_no e = cc

pub none_no : None ≢ Some purposes.Management
none_no e = cc

module _ (units ready : ℕ) (has : 0 < units) (start : List Disk) where
  -- a line is refused
  pub refuses : {past : List Moment} {lines more : ℕ} (w : WorldState) (line number : ℕ) → Holding units ready start past lines w → Sound past more (refused line number w) → Holding units ready start past more (refused line number w)
  refuses {past} w line number h later =
      carried units ready start w (refused line number w) h later refl
      (same_office (office_in start past w) (office_in start past (refused line number w)) (one_note start past (notes.Refused line number) w tt))
      (keeping_self (terms (hist past w)))

  module _ {past : List Moment} {lines : ℕ} (w : WorldState) (h : Holding units ready start past lines w) (line serial : ℕ) (request : Request) (found : find w.requests serial ≡ Some request) where
    abbrev stands : Stands past w
    stands = h.sound.stands

    g : Good w.target
    g = good_of units ready h.calls w.target has h.made

    law : TransactionLaw w.target
    law = law_of units ready h.calls w.target has h.made

    abbrev t : Terms
    t = terms (hist past w)

    abbrev o : Office
    o = at_rest (office_in start past w)

    agrees : Agrees o w.target
    agrees = record { table = h.at.agrees.table; keys = h.at.agrees.keys; manager = h.at.agrees.manager }

    -- ---- one of the target's own
    module _ (zero_is : request.node ≡ 0) where
      abbrev Found : Type 0
      Found = Result (Option Purpose) Stale × Layer Purpose

      abbrev left_by : Found → Result (Unit {0}) Stale × Scene
      left_by f = expired_in f request.peer request.label (scene w.target empty_outbox)

      abbrev world_of : Found → WorldState
      world_of f = timed_out line serial request.node (at_target (target_left (left_by f) w.target) w)

      abbrev noted_in : NodeState → WorldState
      noted_in now = noted start w stands g law h.at serial request found now

      -- the state after it
      ends : (purpose : Option Purpose) (new : Layer Purpose) → expiring_step w.target.layer request.peer request.label ≡ (Ok purpose, new) → (let x = (left_by (Ok purpose, new)).1 in x.node.rom ≡ w.target.rom → (Sound past lines (handed_out 0 0 x.outbox (noted_in x.node)) → IsManagementAt start (hist past (handed_out 0 0 x.outbox (noted_in x.node))) x.node) → Sound past lines (world_of (Ok purpose, new)) → Holding units ready start past lines (world_of (Ok purpose, new)))
      unfolding expired
      ends purpose new e rom at later =
          let x = (left_by (Ok purpose, new)).1 in
          let last = handed_out 0 0 x.outbox (noted_in x.node) in
          let last_is : world_of (Ok purpose, new) ≡ last = ap (λ n. handed_out n 0 x.outbox (noted_in x.node)) zero_is in
          let last_sound : Sound past lines last = subst (Sound past lines) last_is later in
          let target_is : last.target ≡ x.node = (handed_alike 0 0 x.outbox (noted_in x.node)).target in
          let made : after units ready (lets_expire request.peer request.label ∷ h.calls) ≡ x.node =
          ap (λ n. (expired_in (expiring_step n.layer request.peer request.label) request.peer request.label (scene n empty_outbox)).1.node) h.made ∙ ap (λ f. (left_by f).1.node) e in
          subst (Holding units ready start past lines) (sym last_is) (record {
            sound = last_sound;
            calls = lets_expire request.peer request.label ∷ h.calls;
            made = made ∙ sym target_is;
            at = subst (IsManagementAt start (hist past last)) (sym target_is) (at last_sound);
            rom = subst (λ (n : NodeState). length n.rom ≤ 1024) (sym target_is) (subst (λ r. length r ≤ 1024) (sym rom) h.rom);
          })

      made_now : (purpose : Option Purpose) (new : Layer Purpose) → expiring_step w.target.layer request.peer request.label ≡ (Ok purpose, new) → after units ready (lets_expire request.peer request.label ∷ h.calls) ≡ (left_by (Ok purpose, new)).1.node
      unfolding expired
      made_now purpose new e =
          ap (λ n. (expired_in (expiring_step n.layer request.peer request.label) request.peer request.label (scene n empty_outbox)).1.node) h.made ∙ ap (λ f. (left_by f).1.node) e

      law_now : (purpose : Option Purpose) (new : Layer Purpose) → expiring_step w.target.layer request.peer request.label ≡ (Ok purpose, new) → TransactionLaw (left_by (Ok purpose, new)).1.node
      law_now purpose new e = law_of units ready (lets_expire request.peer request.label ∷ h.calls) (left_by (Ok purpose, new)).1.node has (made_now purpose new e)

      calm_ok : (purpose : Option Purpose) (new : Layer Purpose) → expiring_step w.target.layer request.peer request.label ≡ (Ok purpose, new) → purpose ≢ Some purposes.Management → (first : Office) → Doing (Unit {0}) (λ source before. ⊥) w.target g.lives o first (left_by (Ok purpose, new)).1 → Sound past lines (world_of (Ok purpose, new)) → Holding units ready start past lines (world_of (Ok purpose, new))
      calm_ok purpose new e n first (calmly q same c) later =
          let x = (left_by (Ok purpose, new)).1 in
          ends purpose new e c.rom
          (λ sound. calm_lapse start w stands g law h.at serial request found zero_is purpose new e n x.node x.outbox c (law_now purpose new e) (laws_of past (handed_out 0 0 x.outbox (noted_in x.node)) sound.stands)) later
      calm_ok purpose new e n first (managing source before old may none turned r) later = absurd may

      -- the operation's node is known
      ready_by : (new : Layer Purpose) → expiring_step w.target.layer request.peer request.label ≡ (Ok (Some purposes.Management), new) → (operation : Option Operation) → w.target.manager.operation ≡ operation → IsReady past w request.peer
      ready_by new e None f =
          absurd (law.none_has (ap source_in f) request.peer request.label.number (under start w stands g law h.at serial request found zero_is (Some purposes.Management) new e))
      ready_by new e (Some operation) f =
          let fits = h.sound.nodes.target_holds.fits.manager in
          let known : KnownTo w.generations.seen operation.source = (subst (FitsOperation (KnownTo w.generations.seen)) f fits.operation).0 in
          let same = ((law.operation_has operation.source (ap source_in f)).only request.peer request.label.number (under start w stands g law h.at serial request found zero_is (Some purposes.Management) new e)).0 in
          subst (IsReady past w) (sym same)
          (ready_for w stands operation.source (has_known (topology_at w.generations 0) (length w.initiators) operation.source (stands.is.sizes 0 (omega arith)) known) (known_small w.generations.seen operation.source known))

      own_ok : (new : Layer Purpose) → expiring_step w.target.layer request.peer request.label ≡ (Ok (Some purposes.Management), new) → Doing ⊥ (ForReply (Some purposes.Management) request.peer) w.target g.lives o (replied Expired o) (left_by (Ok (Some purposes.Management), new)).1 → Sound past lines (world_of (Ok (Some purposes.Management), new)) → Holding units ready start past lines (world_of (Ok (Some purposes.Management), new))
      own_ok new e (calmly q same c) later = absurd q
      own_ok new e (managing source before old may none turned r) later =
          let x = (left_by (Ok (Some purposes.Management), new)).1 in
          let at_node : (sound : Sound past lines (handed_out 0 0 x.outbox (noted_in x.node))) → IsManagementAt start (hist past (handed_out 0 0 x.outbox (noted_in x.node))) x.node =
          λ sound.
          let target_is : (handed_out 0 0 x.outbox (noted_in x.node)).target ≡ x.node = (handed_alike 0 0 x.outbox (noted_in x.node)).target in
          let holds = sound.nodes.target_holds in
          own_lapse start w stands g law h.at serial request found zero_is (Some purposes.Management) new e {known = KnownTo w.generations.seen} refl h.sound.nodes.target_holds.fits.manager x.node x.outbox source old none
          (subst (IsReady past w) (sym may.0) (ready_by new e w.target.manager.operation refl))
          (subst (λ b. Turned (replied Expired o) old source b (scene x.node x.outbox)) may.1 turned)
          (law_now (Some purposes.Management) new e)
          (subst (λ (n : NodeState). n.layer.node < 2 ^ 16) target_is holds.layer.small)
          (subst (λ (n : NodeState). AreBytes n.manager.outgoing) target_is holds.fits.manager.outgoing)
          (laws_of past (handed_out 0 0 x.outbox (noted_in x.node)) sound.stands) in
          ends (Some purposes.Management) new e r at_node later

      target_by : (f : Found) → expiring_step w.target.layer request.peer request.label ≡ f → Doing (QuietLapse f.0) (ForLapse f.0 request.peer) w.target g.lives o (lapsed f.0 o) (left_by f).1 → Sound past lines (world_of f) → Holding units ready start past lines (world_of f)
      target_by (Err stale, new) e d later = refuses w line no_packet h later
      target_by (Ok None, new) e d later = calm_ok None new e none_no o d later
      target_by (Ok (Some (purposes.Agent place)), new) e d later = calm_ok (Some (purposes.Agent place)) new e (agent_no place) o d later
      target_by (Ok (Some purposes.Management), new) e d later = own_ok new e d later
      target_by (Ok (Some purposes.Unsolicited), new) e d later = calm_ok (Some purposes.Unsolicited) new e unsolicited_no o d later

      lapses_target : Sound past lines (timed_out line serial request.node (at_target (target_expired request w.target) w)) → Holding units ready start past lines (timed_out line serial request.node (at_target (target_expired request w.target) w))
      unfolding target_expired expired
      lapses_target later = target_by (expiring_step w.target.layer request.peer request.label) refl (lapse_does w.target g o agrees request.peer request.label) later

    -- ---- one of an initiator
    abbrev first_of : ℕ → Turn → WorldState
    first_of j turn = with_note (notes.TimedOut serial) (with_initiator j turn.1 w)

    own_office : (i : ℕ) → request.node ≡ suc i → (so : Option Sending) → t.sent serial ≡ so → office_of (target_at start (said (notes.TimedOut serial) ∷ hist past w)) ≡ o
    own_office i e None s = none_office start w stands g law h.at serial request found s
    own_office i e (Some q) s =
        let from = from_asked start w stands g law h.at serial request found q s in
        rests start (hist past w) (target_at start (said (notes.TimedOut serial) ∷ hist past w)) (lapsed_there start (hist past w) serial q s (let z : nat_eq q.from 0 ≡ false = grind arith in z))

    own_keeps : (i : ℕ) → request.node ≡ suc i → Still t (times_out (begun_in (t.sent serial)) t)
    own_keeps i e =
        let v : Transaction = asked_as start w stands g law h.at serial request found in
        others_still v t (times_out (begun_in (t.sent serial)) t) (let z : nat_eq 0 request.node ≡ false = grind arith in z)
        (lapses_but (begun_in (t.sent serial)) v t (begun_only start w stands g law h.at serial request found (t.sent serial) refl))

    own_by : (i j : ℕ) → request.node ≡ suc i → (r : Bool × Turn) → own.At r.1 → Sound past lines (timed_out line serial request.node (at_initiator j r w)) → Holding units ready start past lines (timed_out line serial request.node (at_initiator j r w))
    own_by i j e (true, turn) tells later =
        own_turn units ready start w (first_of j turn) request.node 0 turn.0 h tells (own_office i e (t.sent serial) refl) (keeping t (terms (hist past (first_of j turn))) (own_keeps i e)) refl later
    own_by i j e (false, turn) tells later =
        carried units ready start w (refused line no_packet (with_initiator j turn.1 w)) h later refl
        (same_office (office_in start past w) (office_in start past (refused line no_packet (with_initiator j turn.1 w))) (one_note start past (notes.Refused line no_packet) (with_initiator j turn.1 w) tt))
        (keeping_self t)

    own_if : (i j : ℕ) → request.node ≡ suc i → (b : Bool) → (let r = (if b then at_initiator j (expire_step request.label empty_outbox (initiator_at w j)) w else (false, (empty_outbox, w))) in Sound past lines (timed_out line serial request.node r) → Holding units ready start past lines (timed_out line serial request.node r))
    own_if i j e true later = own_by i j e (expire_step request.label empty_outbox (initiator_at w j)) (own.expires request.label empty_outbox (initiator_at w j) tt) later
    own_if i j e false later = refuses w line no_packet h later

    lapses_at : (node : ℕ) → request.node ≡ node → Sound past lines (timed_out line serial request.node (expires request w)) → Holding units ready start past lines (timed_out line serial request.node (expires request w))
    unfolding expires
    lapses_at zero e later =
        let is_zero : nat_eq request.node 0 ≡ true = grind arith in
        subst (λ b. Holding units ready start past lines (timed_out line serial request.node (if b then at_target (target_expired request w.target) w else initiator_expires request w))) (sym is_zero)
        (lapses_target e (subst (λ b. Sound past lines (timed_out line serial request.node (if b then at_target (target_expired request w.target) w else initiator_expires request w))) is_zero later))
    lapses_at (suc i) e later =
        let not_zero : nat_eq request.node 0 ≡ false = grind arith in
        subst (λ b. Holding units ready start past lines (timed_out line serial request.node (if b then at_target (target_expired request w.target) w else initiator_expires request w))) (sym not_zero)
        (own_if i (request.node - 1) e (nat_lt (request.node - 1) (length w.initiators)) (subst (λ b. Sound past lines (timed_out line serial request.node (if b then at_target (target_expired request w.target) w else initiator_expires request w))) not_zero later))

    lapses : Sound past lines (timed_out line serial request.node (expires request w)) → Holding units ready start past lines (timed_out line serial request.node (expires request w))
    lapses later = lapses_at request.node refl later

  lapses_by : {past : List Moment} {lines : ℕ} (w : WorldState) (h : Holding units ready start past lines w) (line serial : ℕ) (so : Option Request) → find w.requests serial ≡ so → Sound past lines (timeout_of so line serial w) → Holding units ready start past lines (timeout_of so line serial w)
  lapses_by w h line serial None e later = refuses w line no_packet h later
  lapses_by w h line serial (Some request) e later = lapses w h line serial request e later

  pub times_out_line : {past : List Moment} {lines : ℕ} (w : WorldState) (h : Holding units ready start past lines w) (line serial : ℕ) → Sound past lines (timeout_line line serial w) → Holding units ready start past lines (timeout_line line serial w)
  unfolding timeout_line
  times_out_line w h line serial later = lapses_by w h line serial (find w.requests serial) refl later
