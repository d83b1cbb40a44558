-- In every run in which nobody injected packets no operation of the management failed since the target first saw the latest reset, where nothing was lost since that reset and few requests of lists that were cut are under
-- way: what the operation waits for is whole, and what it asks for finds a label.
use Rattle.sbp_world.proofs.Words.Std.{arith, ◌≡◌, ◌∙◌, refl, sym, ap, subst, ◌<◌, ◌+◌, ℕ, zero, suc, List, ◌∷◌, ◌++◌, length, map, Option, Some}
use Rattle.sbp_world.proofs.Words.Wire.{Moment, Node, Packet, Sent, Terms, asked, header_in, judging_step, of_request, said, terms}
use Rattle.sbp_world.proofs.Words.Target.{Disk, Held, NodeState, Operation, Told, answer_in, received, source_in}
use Rattle.sbp_world.proofs.Words.Laws.{id_for}
use Rattle.sbp_world.proofs.Words.World.{AreHeldAt, IsFor, IsTame, MayTell, WorldState, after, after_all, beginning, begun, history_of, more_deliveries, target_received, target_sees, target_ticks, whole_of}
use Rattle.bus_transactions.proofs.FitJudged.{IsFoundAs, found_as}
use Rattle.sbp_world.specs.Completing.Ends.{ManagementGoesOn, NoneFailsLaw}
use Rattle.sbp_world.specs.Completing.Labels.{AlwaysFrom}
use Rattle.sbp_world.specs.Completing.LabelsFound.{FindsLabels}
use Rattle.sbp_world.specs.Completing.Managed.{AreManagedGiven, IsManagedReply, ManagedFinds, ManagedFindsThere, ManagedGivenThere}
use Rattle.sbp_world.proofs.Agents.Holders.{holders_between_law, holders_law}
use Rattle.sbp_world.proofs.Agents.Management.Holding.{Holding, is_of, ours, target_generation}
use Rattle.sbp_world.proofs.Agents.Management.Still.{hist}
use Rattle.sbp_world.proofs.Completing.DeathsHistory.{none_fails}
use Rattle.sbp_world.proofs.Completing.DeathsRuns.{Going, IsSteady, TellNow, tells_law}
use Rattle.sbp_world.proofs.Completing.DeathsTurns.{AreSaid, OthersTell, fails_said, unfailing}
use Rattle.sbp_world.proofs.Completing.EndsTold.{deliveries_manage, others_manage}
use Rattle.sbp_world.proofs.Completing.LabelsFound.{found_law}
use Rattle.sbp_world.proofs.Completing.LabelsPlaces.{IsHolding, holding_everywhere}
use Rattle.sbp_world.proofs.Completing.OperationsReplies.{whole_replies_law}
use Rattle.sbp_world.proofs.Hosts.Hands.{hand_law}
use Rattle.sbp_world.proofs.Lists.Courses.{more_than_one}
use Rattle.sbp_world.proofs.Lists.OwnFifos.{tame_before}

-- ---- a place
-- requests to each initiator find labels
abbrev pub AllFind : List Moment → WorldState → Type 0
AllFind ms w = (i : ℕ) → i < length w.initiators → FindsLabels w.target.layer (id_for (terms ms) 0 (suc i))

module _ (units ready : ℕ) (start : List Disk) {past : List Moment} {lines : ℕ} (w : WorldState) (h : Holding units ready start past lines w) (held : AreHeldAt start (hist past w) w) (finds : AllFind (hist past w) w) (given : AreManagedGiven w) (asked_so : ManagedFinds w) where
  abbrev t : Terms
  t = terms (hist past w)

  -- the node of the operation is an initiator's
  operation_finds : (op : Operation) → w.target.manager.operation ≡ Some op → FindsLabels w.target.layer op.source
  operation_finds op e =
      let of = held.operation op.source (ap source_in e) in
      subst (FindsLabels w.target.layer) (ap (λ n. id_for t 0 n) (let z : suc of.0 ≡ of.0 + 1 = omega arith in z) ∙ of.1.node_is) (finds of.0 of.1.small)

  -- so is the sender of a request
  layer_is : w.target.layer.generation ≡ t.generation 0
  layer_is = let stands = h.sound.stands in sym (ap (λ (l : Node). l.generation) (stands.is.layers_are 0 (omega arith))) ∙ stands.is.sights 0 (omega arith) ∙ sym (target_generation w stands)

  sender_finds : (sent : Sent) → IsFor w sent → (p : Packet) → (judging_step w.target.layer sent.generation sent.bytes).0 ≡ of_request p → FindsLabels w.target.layer (header_in p).source
  sender_finds sent f p e =
      let r = subst (IsFoundAs w.target.layer sent.generation sent.bytes) e (found_as w.target.layer sent.generation sent.bytes h.sound.nodes.target_holds.layer.filter) in
      let source : (header_in p).source ≡ id_for t 0 sent.from = (is_of w h.sound.stands f.serial sent f.found).source p r.read ∙ ap (λ n. t.ids n sent.from) (r.current ∙ layer_is) in
      subst (FindsLabels w.target.layer) (sym source) (by sent.from refl)
    where
      by : (from : ℕ) → sent.from ≡ from → FindsLabels w.target.layer (id_for t 0 from)
      by zero z = absurd (held.leaves f.serial sent f.found z f.to)
      by (suc i) z = finds i (let own = (ours w h.sound.stands f.serial sent f.found).from in omega (arith, own, z))

  goes_on : (sent : Sent) → IsFor w sent → ManagementGoesOn sent.generation sent.bytes w.target
  goes_on sent f = record {
    replies = λ p label found op e.
        let reply : IsManagedReply w sent p = record { comes = f; label = label; found = found } in
        record {
          finds = operation_finds op e;
          failed = (whole_replies_law w.target.manager w.target.logins w.target.keys op (answer_in p) e (given sent p reply op e)).failed;
          asks = λ body is now gave. asked_so sent p reply op e body is now gave;
        };
    starts = λ p orb found d. sender_finds sent f p found;
  }

-- ---- each place of a run
others_tell : OthersTell unfailing
unfolding target_sees target_ticks
others_tell = record {
  sights = λ generation id node. fails_said _ (hand_law.sees generation id node) (others_manage.sights generation id node);
  ticks = λ node. fails_said _ (hand_law.ticks node) (others_manage.ticks node);
}

delivery_tells : (run : Option Told) (sent : Sent) (node : NodeState) (media : Held) → MayTell run sent node media → ManagementGoesOn sent.generation sent.bytes node → AreSaid unfailing (received run sent.generation sent.bytes (whole_of node media)).1.outbox.sides
unfolding target_received
delivery_tells run sent node media may goes = fails_said _ (hand_law.received run sent node media may) (deliveries_manage run sent.generation sent.bytes node media.disks goes)

pub goes_on_at : (start : List Disk) (now : List Moment) (w : WorldState) → IsHolding start now w → AreHeldAt start now w → AllFind now w → AreManagedGiven w → ManagedFinds w → (sent : Sent) → IsFor w sent → ManagementGoesOn sent.generation sent.bytes w.target
goes_on_at start now w h held finds given asked_so sent f =
    let back = sym h.is in goes_on h.units h.ready start w h.holds (subst (λ ms. AreHeldAt start ms w) back held) (subst (λ ms. AllFind ms w) back finds) given asked_so sent f

place_tells : (start : List Disk) (now : List Moment) (w : WorldState) → IsHolding start now w → AreHeldAt start now w → AllFind now w → AreManagedGiven w → ManagedFinds w → TellNow unfailing w
place_tells start now w h held finds given asked_so sent f run media may = delivery_tells run sent w.target media may (goes_on_at start now w h held finds given asked_so sent f)

tame_steady : IsSteady IsTame
tame_steady = record { before = tame_before; tame = λ past tame. tame }

module _ (all_given : AlwaysFrom ManagedGivenThere) (all_find : AlwaysFrom ManagedFindsThere) where
  deliveries_tell : AlwaysFrom (λ start past w. IsTame past → Going unfailing others_tell start past w)
  deliveries_tell = record {
    after_lines = λ line run r has small size tame l few.
        place_tells run.start.disks (history_of line run) (after (beginning run) run.entries).world (holding_everywhere.after_lines line run r has small size)
        (holders_law line run r.few has small size r.short r.entries r.lines) (λ i b. found_law.after_lines line run r has small size tame l i b (few i b))
        (all_given.after_lines line run r has small size tame l few) (all_find.after_lines line run r has small size tame l few);
    between = λ line run r has small size next most told m tame l few.
        let w = (after_all told (begun (after (beginning run) run.entries))).world in
        place_tells run.start.disks (map said w.fresh ++ asked next (more_deliveries most) ∷ history_of line run) w (holding_everywhere.between line run r has small size next most told m)
        (holders_between_law line run r.few has small size r.short r.entries r.lines next (more_deliveries most) (more_than_one most) told m) (λ i b. found_law.between line run r has small size next most told m tame l i b (few i b))
        (all_given.between line run r has small size next most told m tame l few) (all_find.between line run r has small size next most told m tame l few);
  }

pub none_fails_law : NoneFailsLaw
none_fails_law all_given all_find =
    let told_so = tells_law unfailing others_tell IsTame tame_steady (deliveries_tell all_given all_find) in
    record {
      after_lines = λ line run r has small size tame kept few. none_fails _ (told_so.after_lines line run r has small size tame kept few);
      between = λ line run r has small size next most told m tame kept few. none_fails _ (told_so.between line run r has small size next most told m tame kept few);
    }
