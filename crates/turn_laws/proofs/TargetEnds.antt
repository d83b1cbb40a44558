-- The deaths and ends of a packet that comes to the target, whatever it is found to be.
use Rattle.std.proofs.Common.{◌≡◌, refl, sym, subst, ℕ, ◌<◌, ◌||◌, not, is_some, Bool, true, false, cond, List, [], ◌∷◌, Option, Some, None, Ok}
use Rattle.async_packet.specs.Labels.{LabelParts}
use Rattle.async_packet.specs.Packet.{Packet}
use Rattle.async_packet.specs.Reading.{reading}
use Rattle.bus_transactions.specs.Judging.{AreJudged}
use Rattle.label_table.specs.Layer.{Finding, Layer, judging_step, of_again, of_generation, of_grammar, of_label, of_request, of_response}
use Rattle.label_table.specs.Requests.{reply_kind}
use Rattle.packet_store.specs.declared.sent.Sent.{Sent}
use Rattle.packet_store.specs.Kept.{found_sent, is_flying}
use Rattle.packet_store.specs.Stored.{deliver_step}
use Rattle.rbc_disk.specs.Disk.{Disk}
use Rattle.rbc_disk.specs.Runs.{Told}
use Rattle.sbp_bus.specs.Packets.{judged_note}
use Rattle.sbp_journal.specs.Outgoings.{OutboxState, empty_outbox}
use Rattle.sbp_journal.specs.Run.{Moment, said}
use Rattle.sbp_journal.specs.declared.cause.Cause.{Cause}
use Rattle.sbp_journal.specs.declared.cause.Cause.TheVariants as causes
use Rattle.sbp_journal.specs.declared.cause.Judged.{Judged}
use Rattle.sbp_journal.specs.declared.cause.Judged.TheVariants as judgements
use Rattle.sbp_journal.specs.declared.note.Note.TheVariants as notes
use Rattle.sbp_laws.specs.Turns.{turn}
use Rattle.sbp_target.specs.declared.purpose.Purpose.{Purpose}
use Rattle.sbp_target.specs.declared.purpose.Purpose.TheVariants as purposes
use Rattle.sbp_target.specs.Nodes.{NodeState, Scene as TargetScene, scene}
use Rattle.sbp_target.specs.Receiving.{judged_scene, received, received_as, with_layer}
use Rattle.sbp_target.specs.Replies.{Whole}
use Rattle.sbp_target.specs.Serving.{answered, is_barred, request_step, serve}
use Rattle.sbp_target.proofs.Histories.Found.{IsFound, found as found_as}
use Rattle.sbp_world.specs.Delivering.{MayTell, marked, whole_of}
use Rattle.sbp_world.specs.Hosts.Handing.{AreOthers}
use Rattle.sbp_world.specs.Worlds.{Scene, WorldState, with_note, with_target}
use Rattle.sbp_world.proofs.Agents.Management.Still.{hist}
use Rattle.sbp_world.proofs.Lists.RunTells.{NoneRan, RanBy, TellsRun, delivery_tells as runs_tell, of_none, of_run}
use Rattle.turn_laws.proofs.AgentDue.{TellsEnds}
use Rattle.turn_laws.proofs.AgentHere.{good}
use Rattle.turn_laws.proofs.EndNotes.{NoEnds, none_handed}
use Rattle.turn_laws.proofs.Gots.{no_kind}
use Rattle.turn_laws.proofs.GotEnds.{manager_ends, no_run, nobody_ends, some_run, unsolicited_ends}
use Rattle.turn_laws.proofs.Handed.{handed}
use Rattle.turn_laws.proofs.Places.{Place}
use Rattle.turn_laws.proofs.ReplyEnds.{still_bus, still_holder, still_ticket}
use Rattle.turn_laws.proofs.RequestEnds.{answered_sides, request_ends}

none_told : NoEnds []
none_told = tt

module _ (units ready : ℕ) (has : 0 < units) (start : List Disk) (past : List Moment) (s : Scene) (here : Place units ready start past s) (serial : ℕ) (again : Bool) (run : Option Told) (one : Sent) (found : found_sent serial s.world.store.kept ≡ Some one) (zero_to : one.to ≡ 0) (may : MayTell run one s.world.target s.media) where
  abbrev w : WorldState
  w = s.world

  abbrev node : NodeState
  node = w.target

  abbrev ms : List Moment
  ms = hist past w

  -- the turn of a call, by its judgement and what it leaves
  abbrev behind : Judged → NodeState → WorldState
  behind judged x = with_note (judged_note serial judged) (marked serial again (with_target x w))

  abbrev Ends : Judged → NodeState → OutboxState → Type 0
  Ends judged x o = TellsEnds start (turn ms (said (judged_note serial judged)) (handed 0 0 o (behind judged x)))

  abbrev IfCalled : Judged × Whole → Type 0
  IfCalled (judged, x) = AreOthers x.outbox.sides → AreJudged (said (judged_note serial judged) ∷ ms) → TellsRun (NoneRan node one run s.media) (RanBy node one run s.media) x.outbox.sides → Ends judged x.node x.outbox

  -- what is ignored is for no agent
  ignored_ends : (cause : Cause) (x : NodeState) (o : OutboxState) → AreOthers o.sides → NoEnds o.sides → Ends (judgements.Ignored cause) x o
  ignored_ends cause x o others none = none_handed o (behind (judgements.Ignored cause) x) others none

  still_places : (v : WorldState) → (marked serial again v).places ≡ v.places
  still_places v = by (again || not (is_flying serial v.store.kept))
    where
      by : (b : Bool) → (cond b v (record v { store = deliver_step v.store serial })).places ≡ v.places
      by true = refl
      by false = refl

  -- ---- a request
  module _ (p : Packet) (read : reading one.bytes ≡ Ok p) (kind : reply_kind p ≡ None) (new : Layer Purpose) (same : new ≡ node.layer) where
    abbrev left : TargetScene
    left = scene (record node { layer = new }) empty_outbox

    got_ends : is_barred node p ≡ false → (x : NodeState) (o : OutboxState) → o ≡ (serve p one.bytes left).outbox → AreOthers o.sides → AreJudged (said (notes.Got serial) ∷ ms) → Ends judgements.Got x o
    got_ends bar x o is others judged =
        request_ends units ready has start past s here serial one found zero_to judged p read kind new same bar (behind judgements.Got x)
        (still_holder units ready has start past s here serial again one found zero_to judged (with_target x w))
        (still_ticket units ready has start past s here serial again one found zero_to judged (with_target x w))
        (still_places (with_target x w)) (still_bus units ready has start past s here serial again one found zero_to judged (with_target x w)) o others is

    bar_by : (b : Bool) → is_barred node p ≡ b → IfCalled (judged_scene (cond {A = Judged × TargetScene} b (judgements.Ignored causes.Login, answered p one.bytes 7 [] left) (judgements.Got, serve p one.bytes left)) (with_layer new (whole_of node s.media)))
    bar_by true e = λ others judged runs. ignored_ends causes.Login _ _ others (subst NoEnds (sym (answered_sides p one.bytes 7 [] left)) tt)
    bar_by false e = λ others judged runs. got_ends e _ _ refl others judged

  -- ---- a response to an agent
  module _ (p : Packet) (read : reading one.bytes ≡ Ok p) (some : is_some (reply_kind p) ≡ true) (label : LabelParts) (new : Layer Purpose) (q : ℕ) (e : judging_step node.layer one.generation one.bytes ≡ (of_response p label (Some (purposes.Agent q)), new)) where
    abbrev given : Whole
    given = (received_as run one.bytes (of_response p label (Some (purposes.Agent q))) (with_layer new (whole_of node s.media))).1

    agent_ends : IfCalled (judgements.Got, given)
    agent_ends others judged (of_none n runless) =
        no_run units ready has start past s here serial again one found zero_to judged run may p read some label new q e given.node given.outbox refl n.untold runless
    agent_ends others judged (of_run place orb cdb payload outcome more ran runless is) =
        some_run units ready has start past s here serial again one found zero_to judged run may p read some label new q e given.node given.outbox refl place orb cdb payload outcome more ran runless is

  -- ---- whatever it is found to be
  abbrev Given : Finding Purpose → Layer Purpose → Judged × Whole
  Given f layer = received_as run one.bytes f (with_layer layer (whole_of node s.media))

  by_finding : (f : Finding Purpose) (layer : Layer Purpose) → judging_step node.layer one.generation one.bytes ≡ (f, layer) → IsFound f node.layer layer one.bytes → IfCalled (Given f layer)
  unfolding request_step is_barred
  by_finding of_generation layer e f = λ others judged runs. let x = (Given of_generation layer).1 in ignored_ends causes.Generation x.node x.outbox others none_told
  by_finding of_grammar layer e f = λ others judged runs. let x = (Given of_grammar layer).1 in ignored_ends causes.Grammar x.node x.outbox others none_told
  by_finding of_label layer e f = λ others judged runs. let x = (Given of_label layer).1 in ignored_ends causes.Label x.node x.outbox others none_told
  by_finding (of_again p rcode) layer e f = λ others judged runs.
      let x = (Given (of_again p rcode) layer).1 in
      ignored_ends causes.Again x.node x.outbox others (subst NoEnds (sym (answered_sides p one.bytes rcode [] (scene (record node { layer = layer }) empty_outbox))) tt)
  by_finding (of_response p label None) layer e f = λ others judged runs.
      let x = (Given (of_response p label None) layer).1 in
      nobody_ends units ready has start past s here serial again one found zero_to judged run may p f.read f.kind label layer e x.node x.outbox refl others
  by_finding (of_response p label (Some purposes.Unsolicited)) layer e f = λ others judged runs.
      let x = (Given (of_response p label (Some purposes.Unsolicited)) layer).1 in
      unsolicited_ends units ready has start past s here serial again one found zero_to judged run may p f.read f.kind label layer e x.node x.outbox refl others
  by_finding (of_response p label (Some purposes.Management)) layer e f = λ others judged runs.
      let x = (Given (of_response p label (Some purposes.Management)) layer).1 in
      manager_ends units ready has start past s here serial again one found zero_to judged run may p f.read f.kind label layer e x.node x.outbox refl others
  by_finding (of_response p label (Some (purposes.Agent q))) layer e f = agent_ends p f.read f.kind label layer q e
  by_finding (of_request p) layer e f = bar_by p f.1.read (no_kind (reply_kind p) f.1.kind) layer f.0 (is_barred node p) refl

  pub target_ends : IfCalled (received run one.generation one.bytes (whole_of node s.media))
  unfolding received
  target_ends =
      let f = judging_step node.layer one.generation one.bytes in by_finding f.0 f.1 refl (found_as node.layer one.generation one.bytes)

  pub called_ends : (let x = received run one.generation one.bytes (whole_of node s.media) in AreOthers x.1.outbox.sides → AreJudged (said (judged_note serial x.0) ∷ ms) → Ends x.0 x.1.node x.1.outbox)
  called_ends = by_pair (received run one.generation one.bytes (whole_of node s.media)) target_ends (runs_tell node (good units ready has start past s here).mid.size (good units ready has start past s here).table.sound one run s.media may)
    where
      by_pair : (x : Judged × Whole) → IfCalled x → TellsRun (NoneRan node one run s.media) (RanBy node one run s.media) x.1.outbox.sides → AreOthers x.1.outbox.sides → AreJudged (said (judged_note serial x.0) ∷ ms) → Ends x.0 x.1.node x.1.outbox
      by_pair (judged, x) h runs others j = h others j runs
