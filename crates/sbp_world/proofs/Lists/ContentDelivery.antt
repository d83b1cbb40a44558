-- A packet is delivered to the target, whatever it is found to be: each packet of an operation asks for what the operation asked for.
use Rattle.sbp_world.proofs.Words.Std.{◌≡◌, ◌≢◌, refl, sym, ap, subst, ℕ, ◌^◌, ◌<◌, ◌≤◌, is_some, Bool, true, false, cond, List, [], ◌∷◌, length, Option, Some, None, Ok}
use Rattle.sbp_world.proofs.Words.Wire.{LabelParts, Packet, header_in, reading, AreBytes, ReplyKind, Finding, Layer, judging_step, of_again, of_generation, of_grammar, of_label, of_request, of_response, reply_kind, Sent, found_sent, Moment, said, Terms, terms, Cause, Judged, Outgoing, empty_outbox}
use Rattle.sbp_world.proofs.Words.Target.{Disk, Held, Told, Purpose, demand_of, NodeState, Scene, scene, judged_scene, received, received_as, with_layer, Whole, whole, answered, is_barred, serve, TransactionLaw}
use Rattle.sbp_world.proofs.Words.World.{whole_of, WorldState, with_target, FitsManager, Stands, demanded, requested, Agrees, Office, IsManagementAt, AreContents}
use Rattle.bus_transactions.proofs.FitJudged.{bytes_of, spelled}
use Rattle.sbp_journal.specs.declared.cause.Cause.TheVariants as causes
use Rattle.sbp_journal.specs.declared.cause.Judged.TheVariants as judgements
use Rattle.sbp_journal.specs.declared.note.Note.TheVariants as notes
use Rattle.sbp_target.specs.declared.purpose.Purpose.TheVariants as purposes
use Rattle.sbp_target.specs.Serving.{request_step}
use Rattle.sbp_target.proofs.Histories.Calling.{Good}
use Rattle.sbp_world.proofs.FitTarget.Demands.{answer_small}
use Rattle.sbp_target.proofs.Histories.Found.{IsFound, found as found_as}
use Rattle.sbp_world.specs.Agents.Management.Calls.{delivered}
use Rattle.sbp_world.proofs.Agents.Management.Asking.{Turned}
use Rattle.sbp_world.proofs.Agents.Management.Calls.{DoesAs, Doing, ForDemand, ForFinding, ForReply, ForRequest, QuietFinding, barred_same, calmly, delivery_does, managing}
use Rattle.sbp_world.proofs.Agents.Management.Hearing.{request_current, response_current}
use Rattle.sbp_world.proofs.Agents.Management.Holding.{marked_hist}
use Rattle.sbp_world.proofs.Lists.ContentLanding.{Ends, calm_request, ignored_ends, noted_world, other_ends, own_ends, rested, starting_request}
use Rattle.sbp_world.proofs.Agents.Management.Landing.{manage_of}
use Rattle.sbp_world.proofs.Agents.Management.Managed.{IsReady}
use Rattle.sbp_world.proofs.Agents.Management.Still.{Clock, clock_still, gets_clock, hist, ignores_still}
use Rattle.sbp_world.proofs.Agents.Management.Lapsing.{agent_no, unsolicited_no, none_no}
use Rattle.sbp_world.proofs.Agents.Management.Delivery.{ready_on, marked_generations}

module _ {past : List Moment} (start : List Disk) (w : WorldState) (h : Stands past w) (g : Good w.target) (law : TransactionLaw w.target) (at : IsManagementAt start (hist past w) w.target) (serial : ℕ) (again : Bool) (sent : Sent) (found : found_sent serial w.store.kept ≡ Some sent) (zero_to : sent.to ≡ 0) (small : AreBytes sent.bytes) (rom : length w.target.rom ≤ 1024) (id_small : w.target.layer.node < 2 ^ 16) {known : ℕ → Type 0} (fits : FitsManager known w.target.manager) (known_source : sent.generation ≡ w.target.layer.generation → (p : Packet) → reading sent.bytes ≡ Ok p → IsReady past w (header_in p).source) (were : AreContents start (hist past w)) where
  abbrev noted : Judged → NodeState → WorldState
  noted judged now = noted_world start w h g law at serial again sent found zero_to were judged now

  abbrev t : Terms
  t = terms (hist past w)

  -- behind the first note the operation's node is known too
  noted_clock : (judged : Judged) (now : NodeState) → Clock t (terms (hist past (noted judged now)))
  noted_clock judgements.Got now =
      subst (λ ms. Clock t (terms ms)) (sym (ap (λ ms. said (notes.Got serial) ∷ ms) (marked_hist past serial again (with_target now w)))) (gets_clock (t.sent serial) serial t)
  noted_clock (judgements.Ignored cause) now =
      subst (λ ms. Clock t (terms ms)) (sym (ap (λ ms. said (notes.Ignored serial cause) ∷ ms) (marked_hist past serial again (with_target now w)))) (clock_still t _ (ignores_still (t.sent serial) cause serial t))

  noted_ready : (judged : Judged) (now : NodeState) (source : ℕ) → IsReady past w source → IsReady past (noted judged now) source
  noted_ready judged now source r = ready_on past w (noted judged now) source (marked_generations serial again (with_target now w)) (noted_clock judged now) r

  abbrev pub EndsAs : Judged × Whole → Type 0
  EndsAs (judged, x) = Ends start w h g law at serial again sent found zero_to were judged x

  abbrev o : Office
  o = rested start w h g law at serial again sent found zero_to were

  agrees_o : Agrees o w.target
  agrees_o = record { table = at.agrees.table; keys = at.agrees.keys; manager = at.agrees.manager }

  abbrev DoneAs : Type 0 → (ℕ → List Outgoing → Type 0) → Office → Judged × Whole → Type 0
  DoneAs Quiet May first r = DoesAs w.target g o agrees_o Quiet May first r

  -- ---- what is ignored
  ignored_as : (cause : Cause) (first : Office) (x : Whole) → Doing (Unit {0}) (λ source before. ⊥) w.target g.lives o first (scene x.node x.outbox) → EndsAs (judgements.Ignored cause, x)
  ignored_as cause first x (calmly q e c) = ignored_ends start w h g law at serial again sent found zero_to were cause x c
  ignored_as cause first x (managing source before old may none turned r) = absurd may

  -- ---- a response
  module _ (told : Option Told) (media : Held) (p : Packet) (label : LabelParts) (layer : Layer Purpose) (read : reading sent.bytes ≡ Ok p) (some : is_some (reply_kind p) ≡ true) where
    abbrev response_whole : Option Purpose → Whole
    response_whole purpose = (received_as told sent.bytes (of_response p label purpose) (with_layer layer (whole_of w.target media))).1

    other_as : (purpose : Option Purpose) (e : judging_step w.target.layer sent.generation sent.bytes ≡ (of_response p label purpose, layer)) (n : purpose ≢ Some purposes.Management) (first : Office) → Doing (Unit {0}) (λ source before. ⊥) w.target g.lives o first (scene (response_whole purpose).node (response_whole purpose).outbox) → EndsAs (judgements.Got, response_whole purpose)
    other_as purpose e n first (calmly q same c) =
        other_ends start w h g law at serial again sent found zero_to were p read some label purpose layer e n (response_whole purpose) c
    other_as purpose e n first (managing source before old may none turned r) = absurd may

    now_response : {purpose : Option Purpose} → judging_step w.target.layer sent.generation sent.bytes ≡ (of_response p label purpose, layer) → sent.generation ≡ w.target.layer.generation
    now_response {purpose} e = response_current w.target.layer layer sent.generation sent.bytes p label purpose e

    own_as : (e : judging_step w.target.layer sent.generation sent.bytes ≡ (of_response p label (Some purposes.Management), layer)) → DoneAs ⊥ (ForReply (Some purposes.Management) (header_in p).source) (delivered (of_response p label (Some purposes.Management)) w.target o) (judgements.Got, response_whole (Some purposes.Management)) → EndsAs (judgements.Got, response_whole (Some purposes.Management))
    own_as e (calmly q same c) = absurd q
    own_as e (managing source before old may none turned r) =
        let x = response_whole (Some purposes.Management) in
        own_ends start w h g law at serial again sent found zero_to were p read some label (Some purposes.Management) layer e {known = known} refl (answer_small p (bytes_of p sent.bytes (spelled sent.bytes p read) small)) fits x source old none
        (noted_ready judgements.Got x.node source (subst (IsReady past w) (sym may.0) (known_source (now_response e) p read)))
        (subst (λ b. Turned (delivered (of_response p label (Some purposes.Management)) w.target o) old source b (scene x.node x.outbox)) may.1 turned)

  -- ---- a request
  module _ (told : Option Told) (media : Held) (p : Packet) (layer : Layer Purpose) (same : layer ≡ w.target.layer) (read : reading sent.bytes ≡ Ok p) (none : reply_kind p ≡ None) (current : sent.generation ≡ w.target.layer.generation) where
    abbrev asked_node : NodeState
    asked_node = record w.target { layer = layer }

    abbrev before_whole : Whole
    before_whole = with_layer layer (whole_of w.target media)

    got_as : (x : Whole) → Doing (Unit {0}) (ForDemand (demand_of (length w.target.rom) p) w.target p sent.bytes layer) w.target g.lives o (demanded (demand_of (length w.target.rom) p) (header_in p).source o) (scene x.node x.outbox) → EndsAs (judgements.Got, x)
    got_as x (calmly q e c) = calm_request start w h g law at serial again sent found zero_to were p read none rom x e c
    got_as x (managing source before old may nothing turned r) =
        let m = manage_of (demand_of (length w.target.rom) p) w.target p sent.bytes layer source before may in
        starting_request start w h g law at serial again sent found zero_to were p read none rom small id_small layer same x source before old m nothing
        (noted_ready judgements.Got x.node source (subst (IsReady past w) (sym m.start.source_is) (known_source current p read))) turned

    request_by : (b : Bool) → is_barred w.target p ≡ b → Doing (Unit {0}) (ForRequest b w.target p sent.bytes layer) w.target g.lives o (requested b p w.target o) (cond {A = Judged × Scene} b (judgements.Ignored causes.Login, answered p sent.bytes 7 [] (scene asked_node empty_outbox)) (judgements.Got, serve p sent.bytes (scene asked_node empty_outbox))).1 → EndsAs (judged_scene (cond {A = Judged × Scene} b (judgements.Ignored causes.Login, answered p sent.bytes 7 [] (scene asked_node empty_outbox)) (judgements.Got, serve p sent.bytes (scene asked_node empty_outbox))) before_whole)
    request_by true e d = ignored_as causes.Login (requested true p w.target o) (whole (answered p sent.bytes 7 [] (scene asked_node empty_outbox)) media.disks) d
    request_by false e d = got_as (whole (serve p sent.bytes (scene asked_node empty_outbox)) media.disks) d

    request_as : Doing (Unit {0}) (ForRequest (is_barred w.target p) w.target p sent.bytes layer) w.target g.lives o (requested (is_barred w.target p) p w.target o) (request_step p sent.bytes (scene asked_node empty_outbox)).1 → EndsAs (judged_scene (request_step p sent.bytes (scene asked_node empty_outbox)) before_whole)
    unfolding request_step
    request_as d =
        let barred = barred_same w.target g o agrees_o p sent.bytes layer same in
        subst (λ b. EndsAs (judged_scene (cond {A = Judged × Scene} b (judgements.Ignored causes.Login, answered p sent.bytes 7 [] (scene asked_node empty_outbox)) (judgements.Got, serve p sent.bytes (scene asked_node empty_outbox))) before_whole)) (sym barred)
        (request_by (is_barred w.target p) refl
        (subst (λ b. Doing (Unit {0}) (ForRequest (is_barred w.target p) w.target p sent.bytes layer) w.target g.lives o (requested (is_barred w.target p) p w.target o) (cond {A = Judged × Scene} b (judgements.Ignored causes.Login, answered p sent.bytes 7 [] (scene asked_node empty_outbox)) (judgements.Got, serve p sent.bytes (scene asked_node empty_outbox))).1) barred d))

  -- ---- whatever it is found to be

  found_ends : (told : Option Told) (media : Held) (f : Finding Purpose) (layer : Layer Purpose) → judging_step w.target.layer sent.generation sent.bytes ≡ (f, layer) → IsFound f w.target.layer layer sent.bytes → DoneAs (QuietFinding f) (ForFinding f w.target sent.bytes layer) (delivered f w.target o) (received_as told sent.bytes f (with_layer layer (whole_of w.target media))) → EndsAs (received_as told sent.bytes f (with_layer layer (whole_of w.target media)))
  found_ends told media of_generation layer e f d = ignored_as causes.Generation o (with_layer layer (whole_of w.target media)) d
  found_ends told media of_grammar layer e f d = ignored_as causes.Grammar o (with_layer layer (whole_of w.target media)) d
  found_ends told media of_label layer e f d = ignored_as causes.Label o (with_layer layer (whole_of w.target media)) d
  found_ends told media (of_response p label None) layer e f d = other_as told media p label layer f.read f.kind None e none_no o d
  found_ends told media (of_response p label (Some (purposes.Agent place))) layer e f d = other_as told media p label layer f.read f.kind (Some (purposes.Agent place)) e (agent_no place) o d
  found_ends told media (of_response p label (Some purposes.Management)) layer e f d = own_as told media p label layer f.read f.kind e d
  found_ends told media (of_response p label (Some purposes.Unsolicited)) layer e f d = other_as told media p label layer f.read f.kind (Some purposes.Unsolicited) e unsolicited_no o d
  found_ends told media (of_again p rcode) layer e f d = ignored_as causes.Again o (received_as told sent.bytes (of_again p rcode) (with_layer layer (whole_of w.target media))).1 d
  found_ends told media (of_request p) layer e f d =
      request_as told media p layer f.0 f.1.read (no_reply (reply_kind p) f.1.kind) (request_current w.target.layer layer sent.generation sent.bytes p e) (as_scene (request_step p sent.bytes (scene (record w.target { layer = layer }) empty_outbox)) (with_layer layer (whole_of w.target media)) d)
    where
      no_reply : (kind : Option ReplyKind) → is_some kind ≡ false → kind ≡ None
      no_reply None k = refl
      no_reply (Some kind) k = absurd (let no : true ≡ false = k in cc)

      as_scene : (r : Judged × Scene) (x : Whole) → DoneAs (Unit {0}) (ForRequest (is_barred w.target p) w.target p sent.bytes layer) (requested (is_barred w.target p) p w.target o) (judged_scene r x) → Doing (Unit {0}) (ForRequest (is_barred w.target p) w.target p sent.bytes layer) w.target g.lives o (requested (is_barred w.target p) p w.target o) r.1
      as_scene (judged, s) x y = y

  pub delivery_contents : (told : Option Told) (media : Held) → EndsAs (received told sent.generation sent.bytes (whole_of w.target media))
  unfolding received
  delivery_contents told media =
      found_ends told media (judging_step w.target.layer sent.generation sent.bytes).0 (judging_step w.target.layer sent.generation sent.bytes).1 refl (found_as w.target.layer sent.generation sent.bytes)
      (delivery_does w.target g o agrees_o told media.disks sent.generation sent.bytes)
