-- A transaction of the target times out: behind the turn its terms are again its state.
use Rattle.sbp_world.proofs.Words.Std.{arith, ◌≡◌, ◌≢◌, ◌∙◌, refl, sym, ap, subst, ℕ, zero, suc, ◌^◌, ◌<◌, nat_eq, Bool, true, false, cond, List, [], ◌∷◌, Option, Some, None, Result, Ok, nat_tests}
use Rattle.sbp_world.proofs.Words.Wire.{LabelParts, bare, bare_after, bare_purpose, bare_result, AreBytes, Node, transaction, ReplyKind, Stale, Layer, expiring_step, Moment, said, Kind, Sending, Transaction, begun_by, is_same, Terms, begun_in, terms, times_out, waits, OutboxState, Request, find}
use Rattle.sbp_world.proofs.Words.Target.{Table, ManagerStep, source_in, Disk, Purpose, NodeState, scene, IsUnderWay, TransactionLaw}
use Rattle.sbp_world.proofs.Words.Initiator.{Expired}
use Rattle.sbp_world.proofs.Words.Laws.{sender_in, Target, is_serial, over, laws_replied, target_at, target_by}
use Rattle.sbp_world.proofs.Words.World.{handed_out, WorldState, with_note, with_target, FitsManager, IsOfWire, IsLatest, Stands, Office, at_rest, office_of, replied, Awaits, IsManagementAt}
use Rattle.bus_transactions.proofs.Bares.{takes_steps}
use Rattle.bus_transactions.proofs.Facts.{asked_is, begun_asked}
use Rattle.bus_transactions.proofs.PacketParts.{same_is}
use Rattle.bus_transactions.proofs.Reaches.{goes_on}
use Rattle.mgmt_agent.specs.Machine as management
use Rattle.sbp_journal.specs.declared.note.Note.TheVariants as notes
use Rattle.sbp_target.specs.declared.purpose.Purpose.TheVariants as purposes
use Rattle.sbp_target.proofs.Histories.Calling.{Good}
use Rattle.sbp_world.proofs.FitTarget.Agents.{FitsAsk}
use Rattle.sbp_world.proofs.FitTarget.Manager.{managed_fits}
use Rattle.sbp_target.proofs.Histories.Primitives.{Expiring, expiring_known}
use Rattle.sbp_target.proofs.Histories.Seats.{Lives}
use Rattle.sbp_world.proofs.Wire.Bus.{holds}
use Rattle.sbp_world.proofs.Wire.Handles.{expired_generation}
use Rattle.sbp_world.proofs.Agents.Management.Asking.{Turned}
use Rattle.sbp_world.proofs.Agents.Management.Awaiting.{under_for}
use Rattle.sbp_world.proofs.Agents.Management.Calm.{Calm, ForManager}
use Rattle.sbp_world.proofs.Agents.Management.Delivery.{ready_on}
use Rattle.sbp_world.proofs.Agents.Management.Firsts.{lapsed_here, other_reply, own_idle, own_reply, rests, wire_is}
use Rattle.sbp_world.proofs.Agents.Management.Holding.{past_terms, same_id}
use Rattle.sbp_world.proofs.Agents.Management.Idle.{IsIdle, over_idle}
use Rattle.sbp_world.proofs.Agents.Management.Managed.{IsReady, managing_turn, none_passed}
use Rattle.sbp_world.proofs.Agents.Management.Offices.{over_keeps}
use Rattle.sbp_world.proofs.Agents.Management.Still.{hist, lapses_but, lapses_clock}
use Rattle.sbp_world.proofs.Agents.Management.Told.{office_in, term_in}
use Rattle.sbp_world.proofs.Agents.Management.Turning.{IfSource, KeepsWire, calm_turn}

positive_by : (n : ℕ) (so : ℕ → Option Sending) → so 0 ≡ None → (q : Sending) → so n ≡ Some q → 0 < n
positive_by zero so z q e = absurd (let no : None ≡ Some q = sym z ∙ e in cc)
positive_by (suc n) so z q e = omega arith

module _ {past : List Moment} (start : List Disk) (w : WorldState) (h : Stands past w) (g : Good w.target) (law : TransactionLaw w.target) (at : IsManagementAt start (hist past w) w.target) (serial : ℕ) (request : Request) (found : find w.requests serial ≡ Some request) where
  abbrev t : Terms
  t = terms (hist past w)

  abbrev gen : ℕ
  gen = t.generation 0

  abbrev T : Target
  T = target_at start (hist past w)

  abbrev pub rested : Office
  rested = at_rest (office_in start past w)

  abbrev manages_of : Option ℕ
  manages_of = (office_in start past w).manages

  over_manages : (over T).manages ≡ manages_of
  over_manages = ap (λ (o : Office). o.manages) (over_keeps T)

  pub entry : IsLatest w.requests (terms h.wire.past).ids (terms h.wire.past).current (terms h.wire.past).bus serial request
  entry = h.is.knows.latest serial request found

  abbrev pub asked_as : Transaction
  asked_as = transaction request.label.generation request.node entry.to request.label.number

  -- its packet is the request of that transaction
  asked_of : (q : Sending) → t.sent serial ≡ Some q → begun_by q ≡ Some asked_as
  asked_of q e =
      let f = (holds h.wire h.reached).facts in
      let there : (terms h.wire.past).sent serial ≡ Some q = ap (λ (x : Terms). x.sent serial) (past_terms w h) ∙ e in
      let positive = positive_by serial (terms h.wire.past).sent f.zero q there in
      let a = f.asked asked_as (subst (λ n. 0 < n) (sym entry.current_is) positive) in
      let same : Some q ≡ Some a.packet = sym there ∙ ap (λ n. (terms h.wire.past).sent n) (sym entry.current_is) ∙ a.sent_is in
      ap begun_by (let x : q ≡ a.packet = cc in x) ∙ a.begun

  pub from_asked : (q : Sending) → t.sent serial ≡ Some q → q.from ≡ request.node
  from_asked q e =
      let i = asked_is q asked_as (begun_asked q asked_as (asked_of q e)).1 in
      sym (ap (λ (x : Transaction). x.requester) i.is)

  pub begun_only : (so : Option Sending) → t.sent serial ≡ so → (v : Transaction) → begun_in so ≡ Some v → v ≡ asked_as
  begun_only None e v f = absurd (let no : None ≡ Some v = f in cc)
  begun_only (Some q) e v f = let both : Some v ≡ Some asked_as = sym f ∙ asked_of q e in cc

  abbrev pub noted : NodeState → WorldState
  noted now = with_note (notes.TimedOut serial) (with_target now w)

  pub noted_ready : (now : NodeState) (source : ℕ) → IsReady past w source → IsReady past (noted now) source
  noted_ready now source r = ready_on past w (noted now) source refl (lapses_clock (begun_in (t.sent serial)) t) r

  pub none_office : t.sent serial ≡ None → office_of (target_at start (said (notes.TimedOut serial) ∷ hist past w)) ≡ rested
  none_office s =
      rests start (hist past w) (target_at start (said (notes.TimedOut serial) ∷ hist past w))
      (ap (λ x. target_by (notes.TimedOut serial) (hist past w) x T) (wire_is start (hist past w))
      ∙ ap (λ b. cond b (laws_replied serial Expired (over T)) (over T)) (ap (λ so. is_serial (sender_in so) 0) s))

  -- ---- one of the target's own
  module _ (zero_is : request.node ≡ 0) where
    from_zero : (q : Sending) → t.sent serial ≡ Some q → q.from ≡ 0
    from_zero q e = from_asked q e ∙ zero_is

    module _ (purpose : Option Purpose) (new : Layer Purpose) (e : expiring_step w.target.layer request.peer request.label ≡ (Ok purpose, new)) where
      in_generation : request.label.generation ≡ gen
      in_generation =
          let wire = h.wire in
          let all = holds wire h.reached in
          let own : wire.layer 0 ≡ bare w.target.layer = h.is.layers_are 0 (omega arith) in
          let first : expiring_step (wire.layer 0) request.peer request.label ≡ (Ok (bare_purpose purpose), bare new) =
          ap (λ (l : Node). expiring_step l request.peer request.label) own
          ∙ (takes_steps Purpose).expires w.target.layer request.peer request.label
          ∙ ap (λ (r : Result (Option Purpose) Stale × Layer Purpose). bare_after bare_result r) e in
          expired_generation (wire.layer 0) request.peer request.label (bare_purpose purpose) (bare new) (all.nodes 0).places first
          ∙ (all.nodes 0).generation ∙ ap (λ (x : Terms). x.generation 0) (past_terms w h)

      abbrev mine : Transaction
      mine = transaction gen 0 entry.to request.label.number

      asked_is_mine : asked_as ≡ mine
      asked_is_mine =
          ap (λ x. transaction x request.node entry.to request.label.number) in_generation
          ∙ ap (λ x. transaction gen x entry.to request.label.number) zero_is

      expiring : Expiring new request.peer request.label purpose g.lives
      expiring = expiring_known w.target.layer new g.lives request.peer request.label purpose g.mid.known e

      pub under : IsUnderWay w.target.layer purpose request.peer request.label.number
      under = under_for w.target.layer g.lives purpose request.peer request.label expiring.kind g.mid.known expiring.life

      peer_is : request.peer ≡ t.ids gen entry.to
      peer_is =
          entry.peer_is ∙ ap (λ (x : Terms). x.ids request.label.generation entry.to) (past_terms w h)
          ∙ ap (λ y. t.ids y entry.to) in_generation

      -- a transaction of the operation is not this one, if this one is for something else
      mine_is : (peer other : ℕ) → IsUnderWay w.target.layer (Some purposes.Management) (t.ids gen peer) other → transaction gen 0 peer other ≡ mine → purpose ≡ Some purposes.Management
      mine_is peer other u f =
          let peer_same : peer ≡ entry.to = ap (λ (x : Transaction). x.responder) f in
          let number_is : other ≡ request.label.number = ap (λ (x : Transaction). x.label) f in
          let there : IsUnderWay w.target.layer (Some purposes.Management) request.peer request.label.number =
          subst (λ n. IsUnderWay w.target.layer (Some purposes.Management) request.peer n) number_is
          (subst (λ i. IsUnderWay w.target.layer (Some purposes.Management) i other) (ap (λ x. t.ids gen x) peer_same ∙ sym peer_is) u) in
          sym under.is_for ∙ there.is_for

      not_own_by : (q : Sending) → t.sent serial ≡ Some q → (source : Option ℕ) → source_in w.target.manager.operation ≡ source → Awaits t w.target.layer source manages_of → purpose ≢ Some purposes.Management → is_serial manages_of serial ≡ false
      not_own_by q s None f awaits n = ap (λ m. is_serial m serial) awaits
      not_own_by q s (Some source) f awaits n = ap (λ m. is_serial m serial) awaits.manages_is ∙ by_test (nat_eq awaits.serial serial) refl
        where
          by_test : (b : Bool) → nat_eq awaits.serial serial ≡ b → b ≡ false
          by_test false f = refl
          by_test true f =
              let same : awaits.serial ≡ serial = grind (arith, nat_tests) in
              let one = goes_on.awaited h.wire (transaction gen 0 awaits.peer awaits.number) awaits.kind awaits.serial h.reached (ap (λ (x : Terms). x.held (transaction gen 0 awaits.peer awaits.number)) (past_terms w h) ∙ awaits.waits_for) in
              let packets : Some one.packet ≡ Some q = sym one.sent ∙ ap (λ n. (terms h.wire.past).sent n) same ∙ ap (λ (x : Terms). x.sent serial) (past_terms w h) ∙ s in
              let packet_is : one.packet ≡ q = cc in
              let begun : Some (transaction gen 0 awaits.peer awaits.number) ≡ Some asked_as = sym one.begun ∙ ap begun_by packet_is ∙ asked_of q s in
              let transactions : transaction gen 0 awaits.peer awaits.number ≡ asked_as = cc in
              absurd (n (mine_is awaits.peer awaits.number (subst (λ i. IsUnderWay w.target.layer (Some purposes.Management) i awaits.number) (sym awaits.peer_is) awaits.under_way) (transactions ∙ asked_is_mine)))

      keeps_others : purpose ≢ Some purposes.Management → KeepsWire t (times_out (begun_in (t.sent serial)) t) w.target.layer (source_in w.target.manager.operation) manages_of
      keeps_others n =
          let s = lapses_but (begun_in (t.sent serial)) asked_as t (begun_only (t.sent serial) refl) in
          record {
            generation = s.generation;
            ids = s.ids;
            held = λ number peer kind r i m e. kept (source_in w.target.manager.operation) number peer kind r i at.awaits m e (is_same (transaction gen 0 peer number) asked_as) refl;
          }
        where
          kept : (source : Option ℕ) (number peer : ℕ) (kind : Kind) (r : ℕ) → IfSource source (λ own. IsUnderWay w.target.layer (Some purposes.Management) own number × (t.ids gen peer ≡ own)) → Awaits t w.target.layer source manages_of → manages_of ≡ Some r → t.held (transaction gen 0 peer number) ≡ waits kind r → (b : Bool) → is_same (transaction gen 0 peer number) asked_as ≡ b → (times_out (begun_in (t.sent serial)) t).held (transaction gen 0 peer number) ≡ waits kind r
          kept source number peer kind r i awaits m e false f = (lapses_but (begun_in (t.sent serial)) asked_as t (begun_only (t.sent serial) refl)).held (transaction gen 0 peer number) kind r f e
          kept None number peer kind r i awaits m e true f = absurd (let no : None ≡ Some r = sym awaits ∙ m in cc)
          kept (Some own) number peer kind r i awaits m e true f =
              absurd (n (mine_is peer number (subst (λ x. IsUnderWay w.target.layer (Some purposes.Management) x number) (sym i.1) i.0) (same_is (transaction gen 0 peer number) asked_as f ∙ asked_is_mine)))

      rested_office : purpose ≢ Some purposes.Management → (so : Option Sending) → t.sent serial ≡ so → office_of (target_at start (said (notes.TimedOut serial) ∷ hist past w)) ≡ rested
      rested_office n None s = none_office s
      rested_office n (Some q) s =
          ap office_of (lapsed_here start (hist past w) serial q s (from_zero q s))
          ∙ other_reply serial Expired (over T) (ap (λ m. is_serial m serial) over_manages ∙ not_own_by q s (source_in w.target.manager.operation) refl at.awaits n) ∙ over_keeps T

      pub calm_lapse : purpose ≢ Some purposes.Management → (now : NodeState) (outbox : OutboxState) → Calm g.lives w.target (scene now outbox) → TransactionLaw now → IsOfWire (hist past (handed_out 0 0 outbox (noted now))) → IsManagementAt start (hist past (handed_out 0 0 outbox (noted now))) now
      calm_lapse n now outbox c law_now wire =
          calm_turn start past w.target now g law law_now w (noted now) outbox at c (rested_office n (t.sent serial) refl) (keeps_others n) wire.sent

      record OwnLapse : Type 0 where
        own : is_serial manages_of serial ≡ true
        packet : Sending
        there : t.sent serial ≡ Some packet

      own_by : purpose ≡ Some purposes.Management → (source : Option ℕ) → source_in w.target.manager.operation ≡ source → Awaits t w.target.layer source manages_of → OwnLapse
      own_by m None f awaits = absurd (law.none_has f request.peer request.label.number (subst (λ x. IsUnderWay w.target.layer x request.peer request.label.number) m under))
      own_by m (Some source) f awaits =
          let one = law.operation_has source f in
          let here = one.only request.peer request.label.number (subst (λ x. IsUnderWay w.target.layer x request.peer request.label.number) m under) in
          let there = one.only source awaits.number awaits.under_way in
          let number_is : awaits.number ≡ request.label.number = there.1 ∙ sym here.1 in
          let peer_same : awaits.peer ≡ entry.to = same_id w h awaits.peer entry.to (awaits.peer_is ∙ sym here.0 ∙ peer_is) in
          let same : transaction gen 0 awaits.peer awaits.number ≡ asked_as =
          ap (λ x. transaction gen 0 x awaits.number) peer_same ∙ ap (λ x. transaction gen 0 entry.to x) number_is ∙ sym asked_is_mine in
          let two = goes_on.awaited h.wire (transaction gen 0 awaits.peer awaits.number) awaits.kind awaits.serial h.reached (ap (λ (x : Terms). x.held (transaction gen 0 awaits.peer awaits.number)) (past_terms w h) ∙ awaits.waits_for) in
          let serial_is : awaits.serial ≡ serial = two.current ∙ ap (λ x. (terms h.wire.past).current x) same ∙ entry.current_is in
          record {
            own = ap (λ x. is_serial x serial) awaits.manages_is ∙ (let z : nat_eq awaits.serial serial ≡ true = grind (arith, nat_tests) in z);
            packet = two.packet;
            there = ap (λ (x : Terms). x.sent serial) (sym (past_terms w h)) ∙ ap (λ n. (terms h.wire.past).sent n) (sym serial_is) ∙ two.sent;
          }

      pub own_lapse : {known : ℕ → Type 0} → purpose ≡ Some purposes.Management → FitsManager known w.target.manager → (now : NodeState) (outbox : OutboxState) (source : ℕ) (old : Lives) → ((n : ℕ) (m : LabelParts) (kind : ReplyKind) → ForManager old n m kind → ⊥) → IsReady past w source → Turned (replied Expired rested) old source [] (scene now outbox) → TransactionLaw now → now.layer.node < 2 ^ 16 → AreBytes now.manager.outgoing → IsOfWire (hist past (handed_out 0 0 outbox (noted now))) → IsManagementAt start (hist past (handed_out 0 0 outbox (noted now))) now
      own_lapse {known} m fits now outbox source old none ready turned law_now id_small bytes wire =
          let v = noted now in
          let own = own_by m (source_in w.target.manager.operation) refl at.awaits in
          let is_own : is_serial (over T).manages serial ≡ true = ap (λ n. is_serial n serial) over_manages ∙ own.own in
          let here : term_in start past v ≡ laws_replied serial Expired (over T) = lapsed_here start (hist past w) serial own.packet own.there (from_zero own.packet own.there) in
          let office : office_in start past v ≡ replied Expired rested =
          ap office_of here ∙ own_reply serial Expired (over T) is_own ∙ ap (λ y. replied Expired y) (over_keeps T) in
          let idle : IsIdle (term_in start past v) = subst IsIdle (sym here) (own_idle serial Expired (over T) is_own (over_idle T)) in
          let same : management.reply_step w.target.manager w.target.logins w.target.keys Expired ≡ management.reply_step rested.manager rested.table rested.keys Expired =
          ap (λ y. management.reply_step y w.target.logins w.target.keys Expired) (sym at.agrees.manager)
          ∙ ap (λ y. management.reply_step rested.manager y w.target.keys Expired) (sym at.agrees.table)
          ∙ ap (λ y. management.reply_step rested.manager rested.table y Expired) (sym at.agrees.keys) in
          let ask : FitsAsk (replied Expired rested).asks = subst (λ (r : ManagerStep × (management.Machine × Table)). FitsAsk r.0.ask) same (managed_fits known w.target.manager w.target.logins w.target.keys Expired tt fits).ask in
          managing_turn start past now law_now v outbox (replied Expired rested) old none source [] turned idle office refl (none_passed start past) (noted_ready now source ready) id_small ask bytes wire.sent wire.serials
