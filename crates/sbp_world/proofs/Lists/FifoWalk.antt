-- Each turn of a run keeps it that what the target writes to the FIFOs of an initiator, in the name of a place of management, is of its operation: a delivery to the target, where it
-- is an answer to its management or not, and a time-out of its own; every other line writes none.
use Rattle.sbp_world.proofs.Words.Std.{arith, ◌≡◌, ◌∙◌, refl, sym, ap, subst, ◌<◌, ◌≤◌, ◌+◌, ◌^◌, ℕ, suc, nat_eq, Bool, true, false, cond, List, [], ◌∷◌, length, Option, Some, None, Result, Ok, Err}
use Rattle.sbp_world.proofs.Words.Wire.{LabelParts, Packet, header_in, reading, AreBytes, is_reset, Node, Stale, Finding, Layer, expiring_step, judging_step, of_again, of_generation, of_grammar, of_label, of_request, of_response, Sent, found_sent, Request, GenerationsState, node_of, topology_at, end_note, judged_note, no_packet, find, Judged, Event, empty_outbox, Moment, asked, terms}
use Rattle.sbp_world.proofs.Words.Target.{Operation, Disk, Told, Purpose, NodeState, TargetScene, scene, answer_in, expired, expired_in, received, received_as, with_layer, Whole, is_barred, Access, demand_of, TransactionLaw}
use Rattle.sbp_world.proofs.Words.World.{MayAt, MayReceive, MayTold, delivered, marked, target_received, whole_of, handed_out, MayHappen, happens, MayIf, delivered_if, expires, initiator_expires, is_in_flight, may_repeat, target_expired, target_left, timed_out, timeout_line, timeout_of, MayNext, delivered_at, delivered_next, lowest, told_all, IsLine, Stands, Scene, WorldState, begun, with_note, with_target, without_notes, has_list, delivered_office, Agrees, Office, at_rest, AreOthers, AreFifosClear, IsClearFifo, IsFor, machine_at}
use Rattle.bus_transactions.proofs.FitJudged.{bytes_of, source_fits, spelled}
use Rattle.sbp_journal.specs.declared.event.Event.TheVariants as events
use Rattle.sbp_journal.specs.declared.note.Note.TheVariants as notes
use Rattle.sbp_target.specs.declared.purpose.Purpose.TheVariants as purposes
use Rattle.sbp_world.specs.Packets as packets
use Rattle.sbp_world.specs.Settling as settling
use Rattle.sbp_world.proofs.FitTarget.Demands.{answer_small}
use Rattle.sbp_world.proofs.Wire.Alike.{IsAlike}
use Rattle.sbp_world.proofs.Wire.Comes.{to_zero}
use Rattle.sbp_world.proofs.Wire.Holding.{KnownTo, Sound}
use Rattle.sbp_world.proofs.Wire.Nodes.{handed_alike, marked_alike}
use Rattle.sbp_world.proofs.Wire.Starts.{laws_of}
use Rattle.target_base.specs.declared.address.Access.TheVariants as accesses
use Rattle.target_base.specs.declared.address.Demand.TheVariants as demands
use Rattle.sbp_target.proofs.Histories.Calling.{Good}
use Rattle.sbp_target.proofs.Histories.Found.{IsFound, found as found_as}
use Rattle.sbp_world.proofs.Agents.Management.Asking.{Turned}
use Rattle.sbp_world.proofs.Agents.Management.Calls.{DoesAs, ForFinding, QuietFinding, calmly, delivery_does, managing}
use Rattle.sbp_world.proofs.Agents.Management.Hearing.{response_current}
use Rattle.sbp_world.proofs.Agents.Management.Holding.{Holding, good_of, is_of, known_id, law_of, ours, ready_for, target_generation}
use Rattle.sbp_world.proofs.Agents.Management.Lines.{opens}
use Rattle.sbp_world.proofs.Agents.Management.Managed.{IsReady}
use Rattle.sbp_world.proofs.Agents.Management.Still.{hist}
use Rattle.sbp_world.proofs.Agents.Management.Told.{office_in}
use Rattle.sbp_world.proofs.Hosts.Hands.{hand_law}
use Rattle.sbp_world.proofs.Lists.Deliveries.{waits_has}
use Rattle.sbp_world.proofs.Lists.FifoLines.{acts, heard, injects, keys, loses, notes_on, refuses, resets, seconds, sights, target_is, times_out}
use Rattle.sbp_world.proofs.Lists.FifoManages.{F}
use Rattle.sbp_world.proofs.Lists.FifoOwn.{own_so}
use Rattle.sbp_world.proofs.Lists.FifoReplies.{IsFifoFrom, of_low, of_read, of_written}
use Rattle.sbp_world.proofs.Lists.FifoTurns.{IsClear, delivery_so, delivery_told, lapse_so}
use Rattle.sbp_world.proofs.Lists.FifoUps.{IsMine, IsShort, turn_short}
use Rattle.sbp_world.proofs.Lists.Generations.{moment_generation}
use Rattle.sbp_world.proofs.Lists.LiveLines.{line_turn, next_turn}
use Rattle.sbp_world.proofs.Lists.Passing.{PassLaw}
use Rattle.sbp_world.proofs.Lists.RunOutcomes.{AreAsked}
use Rattle.sbp_world.proofs.Lists.StatusAnswers.{answer_free}
use Rattle.sbp_world.proofs.Lists.StatusTurn.{Behind}
use Rattle.sbp_world.proofs.Lists.StatusWalk.{behind_marks}
use Rattle.sbp_world.proofs.Lists.Stays.{ready_now}
use Rattle.sbp_world.proofs.Lists.Turned.{IsOne}
use Rattle.sbp_world.proofs.Lists.Turns.{Ready}
use Rattle.sbp_world.proofs.Lists.Walks.{Turn, by_delivery, by_end, by_line, by_start}

-- ---- an answer to the management, or another packet
data OwnOr (f : Finding Purpose) : Type 0 where
  is_own : (p : Packet) (label : LabelParts) → f ≡ of_response p label (Some purposes.Management) → OwnOr f
  is_other : ((p : Packet) (label : LabelParts) → f ≡ of_response p label (Some purposes.Management) → ⊥) → OwnOr f

generation_not : (p : Packet) (label : LabelParts) → of_generation ≡ of_response p label (Some purposes.Management) → ⊥
generation_not p label e = cc

grammar_not : (p : Packet) (label : LabelParts) → of_grammar ≡ of_response p label (Some purposes.Management) → ⊥
grammar_not p label e = cc

label_not : (p : Packet) (label : LabelParts) → of_label ≡ of_response p label (Some purposes.Management) → ⊥
label_not p label e = cc

again_not : (q : Packet) (rcode : ℕ) (p : Packet) (label : LabelParts) → of_again q rcode ≡ of_response p label (Some purposes.Management) → ⊥
again_not q rcode p label e = cc

request_not : (q : Packet) (p : Packet) (label : LabelParts) → of_request q ≡ of_response p label (Some purposes.Management) → ⊥
request_not q p label e = cc

nobody_not : (q : Packet) (own : LabelParts) (p : Packet) (label : LabelParts) → of_response q own None ≡ of_response p label (Some purposes.Management) → ⊥
nobody_not q own p label e = cc

agent_not : (q : Packet) (own : LabelParts) (place : ℕ) (p : Packet) (label : LabelParts) → of_response q own (Some (purposes.Agent place)) ≡ of_response p label (Some purposes.Management) → ⊥
agent_not q own place p label e = cc

unsolicited_not : (q : Packet) (own : LabelParts) (p : Packet) (label : LabelParts) → of_response q own (Some purposes.Unsolicited) ≡ of_response p label (Some purposes.Management) → ⊥
unsolicited_not q own p label e = cc

own_or : (f : Finding Purpose) → OwnOr f
own_or of_generation = is_other generation_not
own_or of_grammar = is_other grammar_not
own_or of_label = is_other label_not
own_or (of_again q rcode) = is_other (again_not q rcode)
own_or (of_request q) = is_other (request_not q)
own_or (of_response q own None) = is_other (nobody_not q own)
own_or (of_response q own (Some (purposes.Agent place))) = is_other (agent_not q own place)
own_or (of_response q own (Some purposes.Unsolicited)) = is_other (unsolicited_not q own)
own_or (of_response q own (Some purposes.Management)) = is_own q own refl

module _ (given : Type 0) (wild : ℕ → Bool) (i : ℕ) (own : wild i ≡ false) (units ready : ℕ) (has : 0 < units) (start : List Disk) where
  -- what is known of a place
  pub record Facts (past : List Moment) (lines : ℕ) (w : WorldState) : Type 0 where
    pub holds : Holding units ready start past lines w
    pub known_all : Ready wild past w
    pub each : F given start past i w
    pub asked_orbs : AreAsked wild (hist past w) w
    pub short : IsShort w.target
    pub clear : given → IsClear w.generations i w.target.logins
    pub fifos : given → AreFifosClear i w
    pub gen_is : (topology_at w.generations 0).generation ≡ (terms (hist past w)).generation 0
    pub up : (q : ℕ) → q < 8 → has_list (machine_at w q).phase ≡ true → IsMine i w q
    pub access_up : (p : Packet) → is_barred w.target p ≡ false → (q : ℕ) (access : Access) → demand_of (length w.target.rom) p ≡ demands.Agent q access → IsMine i w q

  -- and behind a turn
  pub record Later (past : List Moment) (v : WorldState) : Type 0 where
    pub passes : PassLaw wild (hist past v)
    pub lines : ℕ
    pub holds : Holding units ready start past lines v
    pub clear : given → IsClear v.generations i v.target.logins

  fifos_asked : (w : WorldState) → AreFifosClear i w → AreFifosClear i (without_notes w)
  fifos_asked w f = record {
    kept = f.kept;
    low = f.low;
    read = λ sent is_for p label judged op is of e bytes reads. f.read sent (record { serial = is_for.serial; found = is_for.found; to = is_for.to }) p label judged op is of e bytes reads;
  }

  facts_asked : (line : ℕ) (event : Event) → is_reset event ≡ false → (past : List Moment) (lines : ℕ) (w : WorldState) → Facts past lines w → Facts (asked line event ∷ hist past w) (lines + 1) (without_notes w)
  facts_asked line event calm past lines w f = record {
    holds = opens units ready has start line event w calm f.holds;
    known_all = ready_now wild line event past w f.known_all;
    each = (tt, f.each);
    asked_orbs = λ place c is_open mine n list number from below. f.asked_orbs place c is_open mine n list number from below;
    short = f.short;
    clear = f.clear;
    fifos = λ g. fifos_asked w (f.fifos g);
    gen_is = f.gen_is ∙ sym (moment_generation 0 (asked line event) (hist past w) refl);
    up = λ q b l. f.up q b l;
    access_up = λ p bar q access d. f.access_up p bar q access d;
  }

  -- ---- an answer to the management is delivered
  module _ {past : List Moment} {lines : ℕ} (s : Scene) (f : Facts past lines s.world) (serial : ℕ) (again : Bool) (run : Option Told) (later : Later past (delivered serial again run s).world) (sent : Sent) (found : found_sent serial s.world.store.kept ≡ Some sent) (z : sent.to ≡ 0) where
    abbrev w : WorldState
    w = s.world

    abbrev stands : Stands past w
    stands = f.holds.sound.stands

    g : Good w.target
    g = good_of units ready f.holds.calls w.target has f.holds.made

    law : TransactionLaw w.target
    law = law_of units ready f.holds.calls w.target has f.holds.made

    abbrev lay : Layer Purpose
    lay = (judging_step w.target.layer sent.generation sent.bytes).1

    abbrev Noted : Judged × Whole → WorldState
    Noted r = with_note (judged_note serial r.0) (marked serial again (with_target r.1.node w))

    abbrev Last : Judged × Whole → WorldState
    Last r = handed_out 0 0 r.1.outbox (Noted r)

    abbrev x : Judged × Whole
    x = received run sent.generation sent.bytes (whole_of w.target s.media)

    abbrev o : Office
    o = at_rest (office_in start past w)

    agrees_o : Agrees o w.target
    agrees_o = record { table = f.holds.at.agrees.table; keys = f.holds.at.agrees.keys; manager = f.holds.at.agrees.manager }

    -- the node that a packet of the target's generation came from
    source_ready : sent.generation ≡ w.target.layer.generation → (p : Packet) → reading sent.bytes ≡ Ok p → IsReady past w (header_in p).source
    source_ready current p read =
        let there : 0 ≤ length w.initiators = omega arith in
        let layer_is : w.target.layer.generation ≡ (topology_at w.generations 0).generation = sym (ap (λ (l : Node). l.generation) (stands.is.layers_are 0 there)) ∙ stands.is.sights 0 there in
        let from = ours w stands serial sent found in
        ready_for w stands (header_in p).source
        (record {
          node = sent.from;
          there = from.from;
          id_is = sym (known_id w stands sent.from from.from) ∙ ap (λ y. (terms (hist past w)).ids y sent.from) (target_generation w stands ∙ sym layer_is ∙ sym current) ∙ sym ((is_of w stands serial sent found).source p read);
        })
        (source_fits sent.bytes p read from.bytes)

    module _ (p : Packet) (label : LabelParts) (e : (judging_step w.target.layer sent.generation sent.bytes).0 ≡ of_response p label (Some purposes.Management)) (told_so : F given start past i (told_all 0 x.1.outbox.sides (Noted x))) where
      abbrev y : Judged × Whole
      y = received_as run sent.bytes (of_response p label (Some purposes.Management)) (with_layer lay (whole_of w.target s.media))

      is : x ≡ y
      unfolding received
      is = ap (λ (d : Finding Purpose). received_as run sent.bytes d (with_layer lay (whole_of w.target s.media))) e

      judges : judging_step w.target.layer sent.generation sent.bytes ≡ (of_response p label (Some purposes.Management), lay)
      judges = ap (λ (d : Finding Purpose). (d, lay)) e

      finds : IsFound (of_response p label (Some purposes.Management)) w.target.layer lay sent.bytes
      finds = subst (λ (d : Finding Purpose). IsFound d w.target.layer lay sent.bytes) e (found_as w.target.layer sent.generation sent.bytes)

      abbrev Does : Finding Purpose → Judged × Whole → Type 0
      Does d r = DoesAs w.target g o agrees_o (QuietFinding d) (ForFinding d w.target sent.bytes lay) (delivered_office d w.target o) r

      does : Does (of_response p label (Some purposes.Management)) y
      unfolding received
      does =
          subst (λ (d : Finding Purpose). Does d (received_as run sent.bytes d (with_layer lay (whole_of w.target s.media)))) e
          (delivery_does w.target g o agrees_o run s.media.disks sent.generation sent.bytes)

      last_is : (delivered serial again run s).world ≡ Last y
      last_is = target_is given start i past s serial again run f.each sent found z ∙ ap Last is

      sound : Sound past later.lines (Last y)
      sound = subst (Sound past later.lines) last_is later.holds.sound

      target_now : (Last y).target ≡ y.1.node
      target_now = (handed_alike 0 0 y.1.outbox (Noted y)).target ∙ (marked_alike (with_target y.1.node w) serial again).target

      -- the FIFO of the ORB of an operation of the initiator's node is clear
      aside : (source : ℕ) → source ≡ (header_in p).source → given × (node_of w.generations 0 source ≡ Some (suc i)) → (was : Operation) → w.target.manager.operation ≡ Some was → was.source ≡ (header_in p).source → (fifo : ℕ) → IsFifoFrom was (answer_in p) fifo → IsClearFifo fifo
      aside source same y was now from fifo own = by_case own
        where
          fifos : AreFifosClear i w
          fifos = f.fifos y.0

          of : node_of w.generations 0 was.source ≡ Some (suc i)
          of = ap (λ n. node_of w.generations 0 n) (from ∙ sym same) ∙ y.1

          by_case : IsFifoFrom was (answer_in p) fifo → IsClearFifo fifo
          by_case (of_written phase) = fifos.kept was fifo now of phase
          by_case (of_low orb high phase fifo_is) = subst IsClearFifo fifo_is (fifos.low was orb high now of phase)
          by_case (of_read phase bytes reads fifo_is) =
              subst IsClearFifo fifo_is (fifos.read sent (record { serial = serial; found = found; to = z }) p label e was now of phase bytes reads)

      by : Does (of_response p label (Some purposes.Management)) y → F given start past i (Last y)
      by (calmly q same c) = absurd q
      by (managing source before old may none turned rom) =
          let from = ours w stands serial sent found in
          let here = subst (IsReady past w) (sym may.0) (source_ready (response_current w.target.layer lay sent.generation sent.bytes p label (Some purposes.Management) judges) p finds.read) in
          let now_holds = sound.nodes.target_holds in
          own_so given start w stands g law f.holds.at serial again sent found z p finds.read finds.kind label lay judges {known = KnownTo w.generations.seen}
          (answer_small p (bytes_of p sent.bytes (spelled sent.bytes p finds.read) from.bytes)) f.holds.sound.nodes.target_holds.fits.manager f.short f.gen_is i y.1 source old may.0
          here
          (aside source may.0)
          (subst (λ bs. Turned (delivered_office (of_response p label (Some purposes.Management)) w.target o) old source bs (scene y.1.node y.1.outbox)) may.1 turned)
          (laws_of past (Last y) sound.stands)
          (subst (λ (n : NodeState). n.layer.node < 2 ^ 16) target_now now_holds.layer.small)
          (subst (λ (n : NodeState). AreBytes n.manager.outgoing) target_now now_holds.fits.manager.outgoing)
          (subst (λ (r : Judged × Whole). F given start past i (told_all 0 r.1.outbox.sides (Noted r))) is told_so)

      pub answer_so : F given start past i (Last x)
      answer_so = subst (λ (r : Judged × Whole). F given start past i (Last r)) (sym is) (by does)

  -- ---- a packet is delivered
  module _ {past : List Moment} {lines : ℕ} (s : Scene) (f : Facts past lines s.world) (serial : ℕ) (again : Bool) (run : Option Told) where
    abbrev at : WorldState
    at = s.world

    abbrev end : WorldState
    end = (delivered serial again run s).world

    module _ (later : Later past end) (sent : Sent) (found : found_sent serial at.store.kept ≡ Some sent) (z : sent.to ≡ 0) (others : AreOthers (received run sent.generation sent.bytes (whole_of at.target s.media)).1.outbox.sides) where
      abbrev got : Judged × Whole
      got = received run sent.generation sent.bytes (whole_of at.target s.media)

      abbrev u : WorldState
      u = with_note (judged_note serial got.0) (marked serial again (with_target got.1.node at))

      abbrev is_for : IsFor at sent
      is_for = record { serial = serial; found = found; to = z }

      behind : Behind (judged_note serial got.0) at u
      behind = behind_marks at got.1.node serial again (judged_note serial got.0)

      clear_then : given → IsClear at.generations i got.1.node.logins
      clear_then g =
          let same = target_is given start i past s serial again run f.each sent found z in
          let left = handed_alike 0 0 got.1.outbox u in
          let marks = marked_alike (with_target got.1.node at) serial again in
          subst (λ (generations : GenerationsState). IsClear generations i got.1.node.logins) (ap (λ (v : WorldState). v.generations) same ∙ (left.generations ∙ marks.generations))
          (subst (λ (node : NodeState). IsClear end.generations i node.logins) (ap (λ (v : WorldState). v.target) same ∙ (left.target ∙ marks.target)) (later.clear g))

      handed : OwnOr (judging_step at.target.layer sent.generation sent.bytes).0 → F given start past i (handed_out 0 0 got.1.outbox u)
      handed (is_own p label e) =
          answer_so s f serial again run later sent found z p label e
          (delivery_told given wild i own start past at f.known_all f.each f.clear sent is_for run s.media serial u behind others)
      handed (is_other n) =
          delivery_so given wild i own start past at f.known_all f.each f.clear sent is_for run s.media serial u behind others
          (subst (λ v. PassLaw wild (hist past v)) (target_is given start i past s serial again run f.each sent found z) later.passes)
          clear_then
          (λ p label place g c login which e ours none offset size wrote fifo. answer_free wild past at f.known_all f.asked_orbs sent is_for run s.media.disks p label place g c login which e ours none offset size wrote fifo)
          (λ peer label place c which e. f.up place c (waits_has wild past at f.known_all place c peer label which e))
          (λ p g bar q c d l. f.up q c l)
          (λ p g bar q c pointer d ask e. f.access_up p bar q (accesses.Point pointer) d)
          n

    hands : MayReceive run serial s → Later past end → (sent : Sent) (found : found_sent serial at.store.kept ≡ Some sent) → sent.to ≡ 0 → (let x = received run sent.generation sent.bytes (whole_of at.target s.media) in F given start past i (handed_out 0 0 x.1.outbox (with_note (judged_note serial x.0) (marked serial again (with_target x.1.node at)))))
    unfolding MayReceive target_received
    hands m later sent found z =
        handed later sent found z (hand_law.received run sent at.target s.media (subst (λ b. MayTold b run sent s) (to_zero sent.to z) (subst (λ so. MayAt run so s) found m)))
        (own_or (judging_step at.target.layer sent.generation sent.bytes).0)

    pub hears : MayReceive run serial s → Later past end → F given start past i end
    hears m later = heard given start i past s serial again run f.each (hands m later)

  next_heard : {past : List Moment} {lines : ℕ} (s : Scene) → Facts past lines s.world → (one : Option Told) (so : Option ℕ) → settling.MayAt so one s → Later past (delivered_at so one s).world → F given start past i (delivered_at so one s).world
  next_heard s f one None m later = absurd m
  next_heard s f one (Some serial) m later = hears s f serial false one m later

  -- ---- a transaction of the target times out
  module _ (past : List Moment) (w : WorldState) (ready_there : Ready wild past w) (each : F given start past i w) (clear : given → IsClear w.generations i w.target.logins) (up : (q : ℕ) → q < 8 → has_list (machine_at w q).phase ≡ true → IsMine i w q) (line serial : ℕ) where
    abbrev Then : WorldState → Type 0
    Then v = PassLaw wild (hist past v) × (given → IsClear v.generations i v.target.logins)

    abbrev Left : Request → Result (Unit {0}) Stale × TargetScene → WorldState
    Left request y = timed_out line serial request.node (packets.at_target (target_left y w.target) w)

    clear_after : (u v : WorldState) → IsAlike u v → IsClear v.generations i v.target.logins → IsClear u.generations i u.target.logins
    clear_after u v a h =
        subst (λ (generations : GenerationsState). IsClear generations i u.target.logins) a.generations
        (subst (λ (node : NodeState). IsClear v.generations i node.logins) a.target h)

    lapse_by : (request : Request) → request.node ≡ 0 → (y : Result (Option Purpose) Stale × Layer Purpose) → AreOthers (expired_in y request.peer request.label (scene w.target empty_outbox)).1.outbox.sides → Then (Left request (expired_in y request.peer request.label (scene w.target empty_outbox))) → F given start past i (Left request (expired_in y request.peer request.label (scene w.target empty_outbox)))
    lapse_by request z (Ok purpose, layer) others passes =
        let t = (expired_in (Ok purpose, layer) request.peer request.label (scene w.target empty_outbox)).1 in
        let u = with_note (notes.TimedOut serial) (with_target t.node w) in
        let b : Behind (notes.TimedOut serial) w u = record { places = refl; initiators = refl; fresh = refl; generations = refl } in
        subst (λ n. F given start past i (handed_out n 0 t.outbox u)) (sym z)
        (lapse_so given wild i own start past w ready_there each clear layer request.peer request.label serial purpose u b others (subst (λ n. Then (handed_out n 0 t.outbox u)) z passes).0
        (λ g. clear_after u (handed_out request.node 0 t.outbox u) (handed_alike request.node 0 t.outbox u) (passes.1 g))
        (λ place c which e. up place c (waits_has wild past w ready_there place c request.peer request.label which e)))
    lapse_by request z (Err stale, layer) others passes = refuses given start i past w line no_packet each

    lapse : (request : Request) → find w.requests serial ≡ Some request → request.node ≡ 0 → Then (timeout_line line serial w) → F given start past i (timed_out line serial request.node (packets.at_target (target_expired request w.target) w))
    unfolding timeout_line expires target_expired expired
    lapse request found z passes =
        let is_zero : nat_eq request.node 0 ≡ true = grind arith in
        lapse_by request z (expiring_step w.target.layer request.peer request.label) (hand_law.expires request.peer request.label w.target)
        (subst (λ b. Then (timed_out line serial request.node (cond b (packets.at_target (target_expired request w.target) w) (initiator_expires request w)))) is_zero
        (subst (λ so. Then (timeout_of so line serial w)) found passes))

    pub lapses : Then (timeout_line line serial w) → F given start past i (timeout_line line serial w)
    lapses passes = times_out given start i past w line serial (λ request found z. lapse request found z passes) each

  -- ---- a line that delivers one packet at most
  one_heard : {past : List Moment} {lines : ℕ} (s : Scene) → Facts past lines s.world → (line serial : ℕ) (again b : Bool) (told : List (Option Told)) → MayIf b serial told s → Later past (delivered_if b line serial again told s).world → F given start past i (delivered_if b line serial again told s).world
  one_heard s f line serial again true [] m later = absurd m
  one_heard s f line serial again true (one ∷ []) m later = hears s f serial again one m later
  one_heard s f line serial again true (one ∷ other ∷ more) m later = absurd m
  one_heard {past} s f line serial again false told m later = refuses given start i past s.world line no_packet f.each

  line_so : {past : List Moment} {lines : ℕ} (line : ℕ) (s : Scene) (event : Event) (told : List (Option Told)) → IsOne event → IsLine event (length s.world.initiators) → MayHappen event told s → Facts past lines s.world → Later (asked line event ∷ hist past s.world) (happens line event told s).world → F given start (asked line event ∷ hist past s.world) i (happens line event told s).world
  unfolding happens MayHappen
  line_so line s (events.Begin initiators is_ready) told o q m f later = absurd q
  line_so {past} line s (events.Act j action) told o q m f later = acts given start i (asked line (events.Act j action) ∷ hist past s.world) (without_notes s.world) line j action (tt, f.each)
  line_so {past} line s (events.Reset physical) told o q m f later = resets given start i (asked line (events.Reset physical) ∷ hist past s.world) (without_notes s.world) physical (tt, f.each)
  line_so {past} line s (events.See node) told o q m f later = sights given start i (asked line (events.See node) ∷ hist past s.world) (without_notes s.world) node (tt, f.each)
  line_so {past} {lines} line s (events.Deliver serial) told o q m f later =
      one_heard (begun s) (facts_asked line (events.Deliver serial) refl past lines s.world f) line serial false (is_in_flight serial (begun s).world) told m later
  line_so {past} {lines} line s (events.Repeat serial) told o q m f later =
      one_heard (begun s) (facts_asked line (events.Repeat serial) refl past lines s.world f) line serial true (may_repeat serial (begun s).world) told m later
  line_so {past} line s (events.Lose serial) told o q m f later = loses given start i (asked line (events.Lose serial) ∷ hist past s.world) (without_notes s.world) line serial (tt, f.each)
  line_so {past} {lines} line s (events.Timeout serial) told o q m f later =
      let g = facts_asked line (events.Timeout serial) refl past lines s.world f in
      lapses (asked line (events.Timeout serial) ∷ hist past s.world) (without_notes s.world) g.known_all g.each g.clear (λ q c l. f.up q c l) line serial (later.passes, later.clear)
  line_so line s (events.Step count) told o q m f later = absurd o
  line_so line s events.Settle told o q m f later = absurd o
  line_so {past} line s events.Tick told o q m f later = seconds given start i (asked line events.Tick ∷ hist past s.world) (without_notes s.world) (tt, f.each)
  line_so {past} line s (events.Inject j bytes) told o q m f later = injects given start i (asked line (events.Inject j bytes) ∷ hist past s.world) (without_notes s.world) line j bytes (tt, f.each)
  line_so {past} line s (events.Key unit key) told o q m f later = keys given start i (asked line (events.Key unit key) ∷ hist past s.world) (without_notes s.world) line unit key (tt, f.each)

  delivery_turn : {past : List Moment} {lines : ℕ} (s : Scene) (one : Option Told) → MayNext one s → Facts past lines s.world → Later past (delivered_next one s).world → F given start past i (delivered_next one s).world
  unfolding delivered_next MayNext
  delivery_turn s one m f later = next_heard s f one (lowest s.world) m later

  ends_on : (past : List Moment) (done : Bool) (w : WorldState) → F given start past i w → F given start past i (with_note (end_note done) w)
  ends_on past true w h = notes_on given start i past notes.Settled w refl h
  ends_on past false w h = notes_on given start i past notes.Stopped w refl h

  -- ---- each turn
  pub turn_so : (past : List Moment) (s : Scene) (behind : List Moment) (t : Scene) → Turn past s behind t → {lines : ℕ} → Facts past lines s.world → Later behind t.world → F given start behind i t.world
  turn_so _ _ _ _ (by_line past s line event told o q m) f later = line_so line s event told o q m f later
  turn_so _ _ _ _ (by_start past s line event d) f later = (tt, f.each)
  turn_so _ _ _ _ (by_delivery past s one m) f later = delivery_turn s one m f later
  turn_so _ _ _ _ (by_end past s done) f later = ends_on past done s.world f.each

-- ---- the address of the operation's ORB, over each turn
module _ (units ready : ℕ) (has : 0 < units) (start : List Disk) (i : ℕ) where
  pub turn_shorts : (past : List Moment) (s : Scene) (behind : List Moment) (t : Scene) → Turn past s behind t → {lines : ℕ} → Holding units ready start past lines s.world → i < length s.world.initiators → IsShort s.world.target → IsShort t.world.target
  turn_shorts _ _ _ _ (by_line past s line event told o q m) {lines} h b short =
      turn_short units ready has start s.world h short [] i [] (happens line event told s).world (line_turn units ready has start s line event told o q m (λ calm. opens units ready has start line event s.world calm h) i b)
  turn_shorts _ _ _ _ (by_start past s line event d) h b short = short
  turn_shorts _ _ _ _ (by_delivery past s one m) h b short =
      turn_short units ready has start s.world h short s.world.fresh i s.world.fresh (delivered_next one s).world ((next_turn one s m).0 i b)
  turn_shorts _ _ _ _ (by_end past s done) h b short = short
