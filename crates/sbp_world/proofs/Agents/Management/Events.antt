-- Each thing that happens in a world leaves the terms of the target's management its state.
use Rattle.sbp_world.proofs.Words.Std.{arith, ◌≡◌, ◌∙◌, sym, ap, subst, ℕ, ◌^◌, ◌<◌, ◌≤◌, Bool, cond, List, ◌∷◌, length, Option, Some, Ok}
use Rattle.sbp_world.proofs.Words.Wire.{Packet, header_in, reading, AreBytes, Node, Sent, found_sent, Moment, terms, Judged, OutboxState, judged_note, topology_at}
use Rattle.sbp_world.proofs.Words.Target.{Disk, Told, NodeState, received, Whole, after, receives, TransactionLaw}
use Rattle.sbp_world.proofs.Words.World.{Arrival, arrived, at_target, delivered, delivered_by, initiator_received, marked, target_received, whole_of, handed_out, Scene, WorldState, with_note, with_target, Stands, IsManagementAt}
use Rattle.bus_transactions.proofs.FitJudged.{source_fits}
use Rattle.sbp_target.proofs.Histories.Calling.{Good}
use Rattle.sbp_world.proofs.Wire.Comes.{received_is, to_zero}
use Rattle.sbp_world.proofs.Wire.Holding.{KnownTo, Sound}
use Rattle.sbp_world.proofs.Wire.Nodes.{handed_alike, marked_alike}
use Rattle.sbp_world.proofs.Wire.Starts.{laws_of}
use Rattle.sbp_world.proofs.Agents.Management.Delivery.{delivery_ends}
use Rattle.sbp_world.proofs.Agents.Management.Holding.{Holding, good_of, is_of, known_id, law_of, ours, ready_for, target_generation}
use Rattle.sbp_world.proofs.Agents.Management.Landing.{handed_world}
use Rattle.sbp_world.proofs.Agents.Management.Managed.{IsReady}
use Rattle.sbp_world.proofs.Agents.Management.Still.{hist}

module _ (units ready : ℕ) (has : 0 < units) (start : List Disk) where
  -- ---- a packet is delivered to the target
  module _ {past : List Moment} {lines : ℕ} (s : Scene) (h : Holding units ready start past lines s.world) (serial : ℕ) (again : Bool) (told : Option Told) (sent : Sent) (found : found_sent serial s.world.store.kept ≡ Some sent) (zero_to : sent.to ≡ 0) (later : Sound past lines (delivered serial again told s).world) where
    abbrev w : WorldState
    w = s.world

    abbrev stands : Stands past w
    stands = h.sound.stands

    g : Good w.target
    g = good_of units ready h.calls w.target has h.made

    law : TransactionLaw w.target
    law = law_of units ready h.calls w.target has h.made

    abbrev r : Judged × Whole
    r = received told sent.generation sent.bytes (whole_of w.target s.media)

    -- the node that a packet of the target's generation came from
    source_ready : sent.generation ≡ w.target.layer.generation → (p : Packet) → reading sent.bytes ≡ Ok p → IsReady past w (header_in p).source
    source_ready current p read =
        let there : 0 ≤ length w.initiators = omega arith in
        let layer_is : w.target.layer.generation ≡ (topology_at w.generations 0).generation = sym (ap (λ (l : Node). l.generation) (stands.is.layers_are 0 there)) ∙ stands.is.sights 0 there in
        let own = ours w stands serial sent found in
        ready_for w stands (header_in p).source
        (record {
          node = sent.from;
          there = own.from;
          id_is = sym (known_id w stands sent.from own.from) ∙ ap (λ x. (terms (hist past w)).ids x sent.from) (target_generation w stands ∙ sym layer_is ∙ sym current) ∙ sym ((is_of w stands serial sent found).source p read);
        })
        (source_fits sent.bytes p read own.bytes)

    abbrev last : WorldState
    last = handed_world start w stands g law h.at serial again sent found zero_to r.0 r.1

    last_is : (delivered serial again told s).world ≡ last
    unfolding delivered target_received arrived
    last_is =
        ap (λ (x : Option Arrival × (OutboxState × Scene)). (delivered_by serial again x).world)
        (received_is told serial s sent found ∙ ap (λ b. cond b (at_target sent.to (target_received told sent w.target s.media) s) (initiator_received sent s)) (to_zero sent.to zero_to))
        ∙ ap (λ n. handed_out n 0 r.1.outbox (with_note (judged_note serial r.0) (marked serial again (with_target r.1.node w)))) zero_to

    target_is : last.target ≡ r.1.node
    target_is =
        (handed_alike 0 0 r.1.outbox (with_note (judged_note serial r.0) (marked serial again (with_target r.1.node w)))).target
        ∙ (marked_alike (with_target r.1.node w) serial again).target

    made_now : after units ready (receives told s.media.disks sent.generation sent.bytes ∷ h.calls) ≡ r.1.node
    made_now = ap (λ n. (received told sent.generation sent.bytes (whole_of n s.media)).1.node) h.made

    pub heard_target : Holding units ready start past lines (delivered serial again told s).world
    heard_target =
        let own = ours w stands serial sent found in
        let holds = h.sound.nodes.target_holds in
        let last_sound : Sound past lines last = subst (Sound past lines) last_is later in
        let now_holds = last_sound.nodes.target_holds in
        let law_now = law_of units ready (receives told s.media.disks sent.generation sent.bytes ∷ h.calls) r.1.node has made_now in
        let ends = delivery_ends start w stands g law h.at serial again sent found zero_to own.bytes h.rom holds.layer.small {known = KnownTo w.generations.seen} holds.fits.manager source_ready told s.media in
        subst (Holding units ready start past lines) (sym last_is) (record {
          sound = last_sound;
          calls = receives told s.media.disks sent.generation sent.bytes ∷ h.calls;
          made = made_now ∙ sym target_is;
          at = subst (IsManagementAt start (hist past last)) (sym target_is)
              (ends.1 (record {
                wire = laws_of past last last_sound.stands;
                law_now = law_now;
                id_small = subst (λ (n : NodeState). n.layer.node < 2 ^ 16) target_is now_holds.layer.small;
                bytes = subst (λ (n : NodeState). AreBytes n.manager.outgoing) target_is now_holds.fits.manager.outgoing;
              }));
          rom = subst (λ (n : NodeState). length n.rom ≤ 1024) (sym target_is) (subst (λ x. length x ≤ 1024) (sym ends.0) h.rom);
        })
