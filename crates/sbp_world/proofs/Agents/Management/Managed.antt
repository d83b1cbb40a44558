-- The end of a turn of the management operation: its terms are again its state.
use Rattle.sbp_world.proofs.Words.Std.{arith, ◌≡◌, ◌∙◌, refl, sym, ap, subst, ℕ, ◌+◌, ◌^◌, ◌<◌, true, false, List, [], ◌∷◌, Option, Some, None}
use Rattle.sbp_world.proofs.Words.Wire.{LabelParts, AreBytes, FitsRequest, SerialsCount, AreSent, Asked, ReplyKind, Layer, Moment, terms, Outgoing, OutboxState, GenerationsState, node_of}
use Rattle.sbp_world.proofs.Words.Target.{Disk, Purpose, NodeState, scene, request_packet, TransactionLaw}
use Rattle.sbp_world.proofs.Words.Laws.{wants}
use Rattle.sbp_world.proofs.Words.World.{handed_out, sent, sent_all, told_all, WorldState, Agrees, Office, by_sides, office_of, IsManagementAt}
use Rattle.mgmt_agent.specs.Machine as management
use Rattle.sbp_target.specs.declared.purpose.Purpose.TheVariants as purposes
use Rattle.sbp_world.proofs.FitTarget.Agents.{FitsAsk}
use Rattle.sbp_world.proofs.FitTarget.Nodes.{IfBody, manager_body_fits}
use Rattle.sbp_target.proofs.Histories.Seats.{Lives}
use Rattle.sbp_world.proofs.Wire.Alike.{IsAlike, alike_then, all_alike, sent_more, told_alike}
use Rattle.sbp_world.proofs.Agents.Management.Asking.{Leaves, MayLeave, Turned, leaves, silent}
use Rattle.sbp_world.proofs.Agents.Management.Awaiting.{left_awaits, silent_awaits}
use Rattle.sbp_world.proofs.Agents.Management.Calm.{ForManager, From}
use Rattle.sbp_world.proofs.Agents.Management.Idle.{IsIdle}
use Rattle.sbp_world.proofs.Agents.Management.Outs.{request_office, requested, sides_idle, told_terms}
use Rattle.sbp_world.proofs.Agents.Management.Requests.{IsRequestFor, asked_labelled, asks_as, body_wants, writes_body}
use Rattle.sbp_world.proofs.Agents.Management.Still.{Still, all_before, hist}
use Rattle.sbp_world.proofs.Agents.Management.Told.{all_sides, office_in, term_in}
use Rattle.sbp_world.proofs.Agents.Management.Turning.{asks_id, has_left}

-- what is known of the operation's node, and of the packets, as a turn begins
pub record IsReady (past : List Moment) (w : WorldState) (source : ℕ) : Type 0 where
  pub to : ℕ
  pub there : node_of w.generations 0 source ≡ Some to
  pub id_is : (terms (hist past w)).ids ((terms (hist past w)).generation 0) to ≡ source
  pub small : source < 2 ^ 16
  pub clean : (s : ℕ) → (terms (hist past w)).count < s → (terms (hist past w)).injected s ≡ false

-- packets that the terms of the target pass over, where its agents are idle
abbrev pub PassedOver : List Disk → List Moment → List Outgoing → Type 0
PassedOver start past packets = (v : WorldState) → IsIdle (term_in start past v) → term_in start past (sent_all 0 packets v) ≡ term_in start past v

pub none_passed : (start : List Disk) (past : List Moment) → PassedOver start past []
unfolding sent_all
none_passed start past v i = refl

pub one_sent : (packet : Outgoing) (v : WorldState) → sent_all 0 (packet ∷ []) v ≡ sent 0 packet v
unfolding sent_all
one_sent packet v = refl

module _ (start : List Disk) (past : List Moment) (now : NodeState) (law : TransactionLaw now) (w : WorldState) (outbox : OutboxState) (first : Office) (old : Lives) (none : (p : ℕ) (l : LabelParts) (kind : ReplyKind) → ForManager old p l kind → ⊥) (source : ℕ) (before : List Outgoing) (turned : Turned first old source before (scene now outbox)) (idle : IsIdle (term_in start past w)) (office : office_in start past w ≡ first) (empty : first.manages ≡ None) (passes : PassedOver start past before) (ready : IsReady past w source) (id_small : now.layer.node < 2 ^ 16) (ask_fits : FitsAsk first.asks) (bytes : AreBytes now.manager.outgoing) where
  abbrev told_world : WorldState
  told_world = told_all 0 outbox.sides w

  abbrev led : WorldState
  led = sent_all 0 before told_world

  told_idle : IsIdle (term_in start past told_world)
  told_idle = sides_idle start past 0 outbox.sides w turned.says.behind idle

  led_term : term_in start past led ≡ term_in start past told_world
  led_term = passes told_world told_idle

  led_idle : IsIdle (term_in start past led)
  led_idle = subst IsIdle (sym led_term) told_idle

  led_office : office_in start past led ≡ turned.now
  led_office = ap office_of led_term ∙ all_sides start past 0 outbox.sides w turned.says.behind ∙ ap (λ o. by_sides outbox.sides o) office ∙ turned.says.is

  led_alike : IsAlike w led
  led_alike = alike_then w told_world led (told_alike 0 outbox.sides w) (all_alike 0 before told_world)

  led_still : AreSent (hist past led) → Still (terms (hist past w)) (terms (hist past led))
  led_still a =
      let b = all_before past 0 before told_world a in
      subst (λ t. Still t (terms (hist past led))) (told_terms past 0 outbox.sides w turned.says.behind) b.1

  silent_turn : From old now.layer → outbox.packets ≡ before → IsManagementAt start (hist past (handed_out 0 0 outbox w)) now
  silent_turn f p =
      subst (λ ps. IsManagementAt start (hist past (sent_all 0 ps told_world)) now) (sym p) (record {
        agrees = subst (λ o. Agrees o now) (sym led_office) turned.agrees;
        awaits = silent_awaits now law old f none (terms (hist past led)) (office_in start past led).manages (ap (λ (o : Office). o.manages) led_office ∙ turned.idle empty);
      })

  module _ (l : Leaves first old source turned.now now before outbox.packets) where
    last_is : handed_out 0 0 outbox w ≡ sent 0 (request_packet source l.asked) led
    last_is =
        ap (λ ps. sent_all 0 ps told_world) l.packets_are
        ∙ sent_more 0 before (request_packet source l.asked ∷ []) told_world
        ∙ one_sent (request_packet source l.asked) led

    body_fits : FitsRequest l.body
    body_fits =
        subst IfBody l.body_is
        (manager_body_fits turned.now.asks turned.now.manager.outgoing (subst FitsAsk (sym l.asks_are) ask_fits) (subst (λ (m : management.Machine). AreBytes m.outgoing) (sym turned.agrees.manager) bytes))

    is_request : IsRequestFor l.asked.label.number l.body l.asked.bytes
    is_request =
        let same : now.layer.node ≡ l.layer.node = sym (ap (λ (r : Option Asked × Layer Purpose). r.1.node) l.step) ∙ asks_id l.layer source l.body purposes.Management in
        asks_as l.layer.node source l.body l.asked (subst (λ n. n < 2 ^ 16) same id_small) ready.small body_fits
        (asked_labelled l.layer now.layer l.from.lives source l.body purposes.Management l.asked l.from.known l.step)

    led_there : node_of led.generations 0 source ≡ Some ready.to
    led_there = ap (λ (g : GenerationsState). node_of g 0 source) led_alike.generations ∙ ready.there

    abbrev sent_world : WorldState
    sent_world = sent 0 (request_packet source l.asked) led

    sent_turn : AreSent (hist past sent_world) → SerialsCount (hist past sent_world) → IsManagementAt start (hist past sent_world) now
    sent_turn a c =
        let wanted : wants (office_in start past led).asks (writes_body l.body) ≡ true =
        ap (λ (o : Office). wants o.asks (writes_body l.body)) led_office ∙ body_wants turned.now.asks turned.now.manager.outgoing l.body l.body_is in
        let o : office_in start past sent_world ≡ requested (led.store.last + 1) turned.now = request_office start past led led_idle source ready.to l.body l.asked led_there is_request wanted ∙ ap (requested (led.store.last + 1)) led_office in
        let b = all_before past 0 (request_packet source l.asked ∷ []) led (subst (λ v. AreSent (hist past v)) (sym (one_sent (request_packet source l.asked) led)) a) in
        let still = subst (λ v. Still (terms (hist past led)) (terms (hist past v))) (one_sent (request_packet source l.asked) led) b.1 in
        let s = led_still b.0 in
        let clean : (n : ℕ) → (terms (hist past led)).count < n → (terms (hist past led)).injected n ≡ false = λ n h. s.injected n ∙ ready.clean n (let x = s.count in omega arith) in
        let id_is : (terms (hist past led)).ids ((terms (hist past led)).generation 0) ready.to ≡ source = ap (λ g. (terms (hist past led)).ids g ready.to) s.generation ∙ s.ids ready.to ∙ ready.id_is in
        record {
          agrees = subst (λ x. Agrees x now) (sym o) (record { table = turned.agrees.table; keys = turned.agrees.keys; manager = turned.agrees.manager });
          awaits = left_awaits now law l.layer old l.from source l.body l.asked l.step (terms (hist past sent_world)) (office_in start past sent_world).manages
              (has_left past led source ready.to l.body l.asked is_request led_there a c clean id_is still (office_in start past sent_world).manages (ap (λ (x : Office). x.manages) o));
        }

    leaving_turn : AreSent (hist past (handed_out 0 0 outbox w)) → SerialsCount (hist past (handed_out 0 0 outbox w)) → IsManagementAt start (hist past (handed_out 0 0 outbox w)) now
    leaving_turn a c =
        subst (λ v. IsManagementAt start (hist past v) now) (sym last_is)
        (sent_turn (subst (λ v. AreSent (hist past v)) last_is a) (subst (λ v. SerialsCount (hist past v)) last_is c))

  turn_by : MayLeave first old source turned.now now before outbox.packets → AreSent (hist past (handed_out 0 0 outbox w)) → SerialsCount (hist past (handed_out 0 0 outbox w)) → IsManagementAt start (hist past (handed_out 0 0 outbox w)) now
  turn_by (silent f p) a c = silent_turn f p
  turn_by (leaves l) a c = leaving_turn l a c

  pub managing_turn : AreSent (hist past (handed_out 0 0 outbox w)) → SerialsCount (hist past (handed_out 0 0 outbox w)) → IsManagementAt start (hist past (handed_out 0 0 outbox w)) now
  managing_turn a c = turn_by turned.sends a c
