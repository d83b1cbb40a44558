-- The turns of the target: where its management asks for nothing, no packet is one that it asked for; and where an operation has a turn, the request that leaves
-- behind what was told asks for what the operation asked for.
use Rattle.sbp_world.proofs.Words.Std.{◌≡◌, ◌∙◌, refl, sym, ap, subst, ℕ, ◌+◌, ◌&&◌, not, Bool, true, false, List, [], ◌∷◌, Option, Some, None, is_none, position}
use Rattle.sbp_world.proofs.Words.Wire.{LabelParts, AreBytes, FitsRequest, Body, block_read, block_write, quadlet_read, quadlet_write, relabelled, GenerationsState, node_of, function_word, login_if, access_of, Moment, Kind, part_of, response, Note, FunctionWord, Outgoing, Side, OutboxState}
use Rattle.sbp_world.proofs.Words.Target.{Disk, manager_body, NodeState, scene, request_packet}
use Rattle.sbp_world.proofs.Words.Initiator.{Ask, Nothing}
use Rattle.sbp_world.proofs.Words.Laws.{access_in_bytes, Decided, Target, is_nothing, is_serial, is_write_access, sent_as, taken_on}
use Rattle.sbp_world.proofs.Words.World.{handed_out, asked, posted, sent, sent_all, sent_to, told, told_all, WorldState, Office, by_managed, by_note, by_side, by_sides, office_of, placed, placed_by, AreContents, access_for, is_its_packet}
use Rattle.mgmt_agent.specs.Machine as management
use Rattle.sbp_journal.specs.declared.note.Note.TheVariants as notes
use Rattle.sbp_journal.specs.declared.operation.FunctionWord.TheVariants as functions
use Rattle.sbp_journal.specs.declared.side.Side.TheVariants as sides
use Rattle.sbp_target.specs.declared.purpose.Purpose.TheVariants as purposes
use Rattle.sbp_world.proofs.FitTarget.Agents.{FitsAsk}
use Rattle.sbp_world.proofs.FitTarget.Nodes.{IfBody, manager_body_fits}
use Rattle.sbp_world.proofs.Wire.Alike.{IsAlike, all_alike, alike_then, sent_more, told_alike}
use Rattle.sbp_target.proofs.Histories.Seats.{Lives}
use Rattle.sbp_world.proofs.Agents.AskedBytes.{plain, reads_back}
use Rattle.sbp_world.proofs.Agents.Management.Asking.{Leaves, MayLeave, Turned, leaves, silent}
use Rattle.sbp_world.proofs.Agents.Management.Idle.{IsIdle}
use Rattle.sbp_world.proofs.Agents.Management.Managed.{IsReady, PassedOver, one_sent}
use Rattle.sbp_world.proofs.Agents.Management.Outs.{sides_idle}
use Rattle.sbp_world.proofs.Agents.Management.Requests.{asked_labelled}
use Rattle.sbp_world.proofs.Agents.Management.Sides.{AllBehind, TellsBehind}
use Rattle.sbp_world.proofs.Agents.Management.Still.{hist}
use Rattle.sbp_world.proofs.Agents.Management.Told.{all_sides, office_in, posts, term_in}
use Rattle.sbp_world.specs.Lists.Contents.{IsAsked}
use Rattle.sbp_world.proofs.Common.{untrue}

-- ---- a packet that is none of the operation

-- where nothing is asked for
idle_packet : (before now : Target) (serial : ℕ) → before.manager_asks ≡ Nothing → is_its_packet before now serial ≡ true → false ≡ true
idle_packet before now serial e f = sym (ap (λ (a : Ask). not (is_nothing a) && (is_nothing now.manager_asks && is_serial now.manages serial)) e) ∙ f

-- where the same is asked for behind it
kept_packet : (before now : Target) (serial : ℕ) → now.manager_asks ≡ before.manager_asks → is_its_packet before now serial ≡ true → false ≡ true
kept_packet before now serial e f = by (is_nothing before.manager_asks) (is_serial now.manages serial) (sym (ap (λ (a : Ask). not (is_nothing before.manager_asks) && (is_nothing a && is_serial now.manages serial)) e) ∙ f)
  where
    by : (b c : Bool) → (not b && (b && c)) ≡ true → false ≡ true
    by true c g = g
    by false c g = g

-- ---- what is told leaves nothing asked for

placed_rests : (place : Option ℕ) (decided : Option Decided) (id : ℕ) (o : Office) → o.asks ≡ Nothing → (placed place decided id o).asks ≡ Nothing
placed_rests None decided id o e = e
placed_rests (Some place) None id o e = e
placed_rests (Some place) (Some decided) id o e = e

entered_rests : (login : Option ℕ) (o : Office) → o.asks ≡ Nothing → (placed_by login o).asks ≡ Nothing
entered_rests None o e = e
entered_rests (Some id) o e = placed_rests (position is_none o.table.places) o.decided id o e

managed_rests : (word : FunctionWord) (login : Option ℕ) (o : Office) → o.asks ≡ Nothing → (by_managed word login o).asks ≡ Nothing
managed_rests functions.Login login o e = entered_rests login o e
managed_rests _ login o e = e

note_rests : (note : Note) (o : Office) → o.asks ≡ Nothing → (by_note note o).asks ≡ Nothing
note_rests (notes.ManageFailed i cause) o e = refl
note_rests (notes.Managed i word subject status login) o e = managed_rests word login o e
note_rests (notes.Held id) o e = e
note_rests (notes.Back id) o e = e
note_rests (notes.Left id) o e = e
note_rests (notes.Expired id) o e = e
note_rests _ o e = e

-- ---- what is told

module _ (start : List Disk) (past : List Moment) where
  abbrev pub Are : WorldState → Type 0
  Are w = AreContents start (hist past w)

  pub side_contents : (weight : ℕ) (side : Side) (w : WorldState) → TellsBehind side → Are w → Are (told weight side w)
  unfolding told
  side_contents weight (sides.Own note) w t h = absurd t
  side_contents weight (sides.Opened place orb) w t h = h
  side_contents weight _ w t h = (tt, h)

  pub sides_contents : (weight : ℕ) (later : List Side) (w : WorldState) → AllBehind later → Are w → Are (told_all weight later w)
  unfolding told_all
  sides_contents weight [] w t h = h
  sides_contents weight (side ∷ later) w t h = sides_contents weight later (told weight side w) t.1 (side_contents weight side w t.0 h)

  pub asked_contents : (serial to node peer : ℕ) (label : Option LabelParts) (w : WorldState) → Are w → Are (asked serial to node peer label w)
  asked_contents serial to node peer None w h = h
  asked_contents serial to node peer (Some label) w h = h

  -- what is asked for stays nothing
  side_rests : (side : Side) (o : Office) → o.asks ≡ Nothing → (by_side side o).asks ≡ Nothing
  side_rests (sides.Own note) o e = note_rests note o e
  side_rests (sides.Managed node function subject status login) o e = managed_rests (function_word function) (login_if (function_word function) status login) o e
  side_rests (sides.ManageFailed node cause) o e = refl
  side_rests (sides.Held login) o e = e
  side_rests (sides.Expired login) o e = e
  side_rests (sides.Back login) o e = e
  side_rests (sides.Left login) o e = e
  side_rests _ o e = e

  pub sides_rest : (later : List Side) (o : Office) → o.asks ≡ Nothing → (by_sides later o).asks ≡ Nothing
  sides_rest [] o e = e
  sides_rest (side ∷ later) o e = sides_rest later (by_side side o) (side_rests side o e)

  -- ---- packets of a turn in which nothing is asked for

  asked_office : (serial to node peer : ℕ) (label : Option LabelParts) (w : WorldState) → office_in start past (asked serial to node peer label w) ≡ office_in start past w
  asked_office serial to node peer None w = refl
  asked_office serial to node peer (Some label) w = refl

  -- the contents, and that nothing is asked for
  record Rests (w : WorldState) : Type 0 where
    contents : Are w
    asks : (office_in start past w).asks ≡ Nothing

  posted_contents : (to : ℕ) (bytes : List ℕ) (w : WorldState) → Rests w → Are (posted 0 to false bytes w)
  unfolding posted
  posted_contents to bytes w r = ((λ e. untrue (idle_packet (term_in start past w) (term_in start past (posted 0 to false bytes w)) (w.store.last + 1) r.asks e)), r.contents)

  posted_rests : (to : ℕ) (bytes : List ℕ) (w : WorldState) → Rests w → Rests (posted 0 to false bytes w)
  posted_rests to bytes w r = record { contents = posted_contents to bytes w r; asks = ap (λ (o : Office). o.asks) (posts start past 0 to bytes w r.asks) ∙ r.asks }

  to_rests : (to : Option ℕ) (packet : Outgoing) (w : WorldState) → Rests w → Rests (sent_to to 0 packet w)
  to_rests None packet w r = r
  to_rests (Some to) packet w r =
      let p = posted_rests to packet.bytes w r in
      let v = posted 0 to false packet.bytes w in
      record {
        contents = asked_contents (w.store.last + 1) to 0 packet.to packet.label v p.contents;
        asks = ap (λ (o : Office). o.asks) (asked_office (w.store.last + 1) to 0 packet.to packet.label v) ∙ p.asks;
      }

  all_rest : (packets : List Outgoing) (w : WorldState) → Rests w → Rests (sent_all 0 packets w)
  unfolding sent_all sent
  all_rest [] w r = r
  all_rest (packet ∷ later) w r = all_rest later (sent 0 packet w) (to_rests (node_of w.generations 0 packet.to) packet w r)

  pub calm_contents : (weight : ℕ) (outbox : OutboxState) (w : WorldState) → AllBehind outbox.sides → (office_in start past w).asks ≡ Nothing → Are w → Are (handed_out 0 weight outbox w)
  calm_contents weight outbox w b e h =
      let v = told_all weight outbox.sides w in
      (all_rest outbox.packets v (record {
        contents = sides_contents weight outbox.sides w b h;
        asks = ap (λ (o : Office). o.asks) (all_sides start past weight outbox.sides w b) ∙ sides_rest outbox.sides (office_in start past w) e;
      })).contents

-- ---- a turn of the operation

-- what a body asks for, as its packet is read
pub body_access : (n node peer : ℕ) (body : Body) → access_of (relabelled n (plain node peer body)) ≡ Some (access_for body)
body_access n node peer (quadlet_write offset value) = refl
body_access n node peer (block_write offset payload) = refl
body_access n node peer (quadlet_read offset) = refl
body_access n node peer (block_read offset count) = refl

-- packets that are none of the operation's, where agents are idle
abbrev pub Passes : List Disk → List Moment → List Outgoing → Type 0
Passes start past packets = (v : WorldState) → IsIdle (term_in start past v) → Are start past v → Are start past (sent_all 0 packets v)

pub none_passes : (start : List Disk) (past : List Moment) → Passes start past []
unfolding sent_all
none_passes start past v i h = h

module _ (start : List Disk) (past : List Moment) (w : WorldState) (idle : IsIdle (term_in start past w)) where
  settled_same : taken_on None (term_in start past w).reply (term_in start past w) ≡ term_in start past w
  settled_same = ap (λ r. taken_on None r (term_in start past w)) idle.reply

  posted_term : (to : ℕ) (bytes : List ℕ) (number : ℕ) (kind : Kind) → part_of bytes ≡ response number kind → term_in start past (posted 0 to false bytes w) ≡ term_in start past w
  unfolding posted
  posted_term to bytes number kind e =
      ap (λ t. sent_as (part_of bytes) (is_write_access (access_in_bytes bytes)) (w.store.last + 1) t) settled_same
      ∙ ap (λ p. sent_as p (is_write_access (access_in_bytes bytes)) (w.store.last + 1) (term_in start past w)) e

  posted_passes : (to : ℕ) (bytes : List ℕ) (number : ℕ) (kind : Kind) → part_of bytes ≡ response number kind → Are start past w → Are start past (posted 0 to false bytes w)
  unfolding posted
  posted_passes to bytes number kind e h =
      ((λ f. untrue (kept_packet (term_in start past w) (term_in start past (posted 0 to false bytes w)) (w.store.last + 1) (ap (λ (t : Target). t.manager_asks) (posted_term to bytes number kind e)) f)), h)

  to_passes : (to : Option ℕ) (packet : Outgoing) (number : ℕ) (kind : Kind) → part_of packet.bytes ≡ response number kind → Are start past w → Are start past (sent_to to 0 packet w)
  to_passes None packet number kind e h = h
  to_passes (Some to) packet number kind e h = asked_contents start past (w.store.last + 1) to 0 packet.to packet.label (posted 0 to false packet.bytes w) (posted_passes to packet.bytes number kind e h)

pub one_passes : (start : List Disk) (past : List Moment) (packet : Outgoing) (number : ℕ) (kind : Kind) → part_of packet.bytes ≡ response number kind → Passes start past (packet ∷ [])
unfolding sent_all sent
one_passes start past packet number kind e v i h = to_passes start past v i (node_of v.generations 0 packet.to) packet number kind e h

module _ (start : List Disk) (past : List Moment) (now : NodeState) (w : WorldState) (outbox : OutboxState) (first : Office) (old : Lives) (source : ℕ) (before : List Outgoing) (turned : Turned first old source before (scene now outbox)) (idle : IsIdle (term_in start past w)) (office : office_in start past w ≡ first) (passed : PassedOver start past before) (passes : Passes start past before) (ready : IsReady past w source) (ask_fits : FitsAsk first.asks) (bytes : AreBytes now.manager.outgoing) (h : Are start past w) where
  abbrev told_world : WorldState
  told_world = told_all 0 outbox.sides w

  abbrev led : WorldState
  led = sent_all 0 before told_world

  told_idle : IsIdle (term_in start past told_world)
  told_idle = sides_idle start past 0 outbox.sides w turned.says.behind idle

  led_contents : Are start past led
  led_contents = passes told_world told_idle (sides_contents start past 0 outbox.sides w turned.says.behind h)

  led_office : office_in start past led ≡ turned.now
  led_office = ap office_of (passed told_world told_idle) ∙ all_sides start past 0 outbox.sides w turned.says.behind ∙ ap (λ o. by_sides outbox.sides o) office ∙ turned.says.is

  led_alike : IsAlike w led
  led_alike = alike_then w told_world led (told_alike 0 outbox.sides w) (all_alike 0 before told_world)

  module _ (l : Leaves first old source turned.now now before outbox.packets) where
    last_is : handed_out 0 0 outbox w ≡ sent 0 (request_packet source l.asked) led
    last_is =
        ap (λ ps. sent_all 0 ps told_world) l.packets_are
        ∙ sent_more 0 before (request_packet source l.asked ∷ []) told_world
        ∙ one_sent (request_packet source l.asked) led

    body_fits : FitsRequest l.body
    body_fits =
        subst IfBody l.body_is
        (manager_body_fits turned.now.asks turned.now.manager.outgoing (subst FitsAsk (sym l.asks_are) ask_fits) (subst (λ (m : management.Machine). AreBytes m.outgoing) (sym turned.agrees.manager) bytes))

    reads : access_in_bytes l.asked.bytes ≡ Some (access_for l.body)
    reads =
        let labelled = asked_labelled l.layer now.layer l.from.lives source l.body purposes.Management l.asked l.from.known l.step in
        reads_back l.layer.node source l.asked.label.number l.body l.asked.bytes ready.small labelled.small body_fits labelled.bytes_are ∙ body_access l.asked.label.number l.layer.node source l.body

    is_asked : IsAsked start (hist past led) l.asked.bytes
    is_asked = record {
      body = l.body;
      asks =
          ap (λ (o : Office). manager_body o.asks o.manager.outgoing) led_office
          ∙ l.body_is;
      access = reads;
    }

    led_there : node_of led.generations 0 source ≡ Some ready.to
    led_there = ap (λ (g : GenerationsState). node_of g 0 source) led_alike.generations ∙ ready.there

    posted_here : Are start past (posted 0 ready.to false l.asked.bytes led)
    unfolding posted
    posted_here = ((λ e. is_asked), led_contents)

    sent_here : Are start past (sent 0 (request_packet source l.asked) led)
    unfolding sent
    sent_here =
        subst (λ o. Are start past (sent_to o 0 (request_packet source l.asked) led)) (sym led_there)
        (asked_contents start past (led.store.last + 1) ready.to 0 source (Some l.asked.label) (posted 0 ready.to false l.asked.bytes led) posted_here)

  turn_by : MayLeave first old source turned.now now before outbox.packets → Are start past (handed_out 0 0 outbox w)
  turn_by (silent f p) = subst (λ ps. Are start past (sent_all 0 ps told_world)) (sym p) led_contents
  turn_by (leaves l) = subst (Are start past) (sym (last_is l)) (sent_here l)

  pub managing_contents : Are start past (handed_out 0 0 outbox w)
  managing_contents = turn_by turned.sends
