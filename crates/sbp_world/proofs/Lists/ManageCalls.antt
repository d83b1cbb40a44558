-- What a target hands out in a call answers no write with conflict_error; but for the first packet behind one that comes, which does so as it ignores that one, where the one that came does
-- not start an operation, or as it finds one under way.
use Rattle.sbp_world.proofs.Words.Std.{arith, ◌≡◌, ◌∙◌, refl, sym, ap, subst, ℕ, ◌≤◌, ◌%◌, ◌^◌, ◌&&◌, ◌||◌, not, is_some, Bool, true, false, cond, List, [], ◌∷◌, ◌++◌, length, Option, Some, None, Ok}
use Rattle.sbp_world.proofs.Words.Wire.{LabelParts, Packet, header_in, reading, Asked, Finding, Layer, answering_step, asking_step, disowning_in, disowning_step, expiring_step, peer_place, judging_step, of_again, of_generation, of_grammar, of_label, of_request, of_response, seeing_step, Access, Start, access_of, management_agent, no_start, register, rom_start, start_at, start_serves, Cause, Judged, Outgoing, OutboxState, empty_outbox, RequestFacts, TargetFacts, first_or, ignored_as, judging_of, serving, target_rcode, telling}
use Rattle.sbp_world.proofs.Words.Target.{tick_step, Operation, Disk, Told, Purpose, NodeState, Scene, scene, answer_in, expired, judged_scene, received, received_as, seen, ticked, Whole, whole, answer_step, answered_by, answered, is_barred, serve, served_as, start, started_by, address_error, conflict_error, demand_of, response_of, BeginsWith, asked_at, facts_at, gives_at, judged_by, row_gives, row_rcode, state_rcode, request, with_asked}
use Rattle.sbp_world.proofs.Words.Initiator.{offset_at}
use Rattle.mgmt_agent.specs.Machine as management
use Rattle.sbp_journal.specs.declared.cause.Cause.TheVariants as causes
use Rattle.sbp_journal.specs.declared.cause.Judged.TheVariants as judgements
use Rattle.sbp_target.specs.Serving.{request_step}
use Rattle.target_base.specs.declared.address.Demand.TheVariants as demands
use Rattle.sbp_target.proofs.Histories.Found.{IsFound, found as found_as}
use Rattle.sbp_target.proofs.Histories.Pass.{Keeps, Said, concludes, expires_in, sees_by, ticks_by}
use Rattle.sbp_target.proofs.Histories.Rowing.{row_law}
use Rattle.sbp_target.proofs.Histories.Served.{judges}
use Rattle.sbp_world.proofs.Lists.ManageCodes.{IfAsked, NoConflict, asked_free, response_free}
use Rattle.sbp_world.proofs.Lists.ManageTerms.{none_is, same_some}
use Rattle.sbp_world.proofs.Common.{untrue}

abbrev pub NoConflicts : List Outgoing → Type 0
NoConflicts [] = Unit {0}
NoConflicts (packet ∷ later) = NoConflict packet.bytes × NoConflicts later

one_more : (packets : List Outgoing) (packet : Outgoing) → NoConflicts packets → NoConflict packet.bytes → NoConflicts (packets ++ packet ∷ [])
one_more [] packet h f = (f, tt)
one_more (first ∷ packets) packet h f = (h.0, one_more packets packet h.1 f)

asked_more : (peer : ℕ) (asked : Option Asked) (packets : List Outgoing) → IfAsked asked → NoConflicts packets → NoConflicts (with_asked peer asked packets)
asked_more peer None packets f h = h
asked_more peer (Some asked) packets f h = one_more packets (request peer asked) h f

abbrev Free : Said
Free = λ layer packets. NoConflicts packets

keeps : Keeps Free
keeps = record {
  leaves = record { disowns = λ layer packets peer label h. h };
  asks = λ layer packets peer body purpose h. asked_more peer (asking_step layer peer body purpose).0 packets (asked_free layer peer body purpose) h;
}

-- ---- a request: its response, and what is asked for behind that

-- the first packet, and others
pub record First (packets : List Outgoing) : Type 0 where
  pub first : Outgoing
  pub more : List Outgoing
  pub packets_are : packets ≡ first ∷ more
  pub others : NoConflicts more

record Behind (node : ℕ) (p : Packet) (packets : List Outgoing) : Type 0 where
  rcode : ℕ
  given : List ℕ
  more : List Outgoing
  packets_are : packets ≡ response_of node p rcode given ∷ more
  others : NoConflicts more

first_of : (node : ℕ) (p : Packet) (packets : List Outgoing) → Behind node p packets → First packets
first_of node p packets b = record { first = response_of node p b.rcode b.given; more = b.more; packets_are = b.packets_are; others = b.others }

abbrev Begins : ℕ → Packet → Said
Begins node p = λ layer packets. Behind node p packets

behind_asks : (node : ℕ) (p : Packet) (peer : ℕ) (asked : Option Asked) (packets : List Outgoing) → IfAsked asked → Behind node p packets → Behind node p (with_asked peer asked packets)
behind_asks node p peer None packets f b = b
behind_asks node p peer (Some asked) packets f b = record {
  rcode = b.rcode;
  given = b.given;
  more = b.more ++ request peer asked ∷ [];
  packets_are = ap (λ (ps : List Outgoing). ps ++ request peer asked ∷ []) b.packets_are;
  others = one_more b.more (request peer asked) b.others f;
}

keeps_behind : (node : ℕ) (p : Packet) → Keeps (Begins node p)
keeps_behind node p = record {
  leaves = record { disowns = λ layer packets peer label b. b };
  asks = λ layer packets peer body purpose b. behind_asks node p peer (asking_step layer peer body purpose).0 packets (asked_free layer peer body purpose) b;
}

pub disown_node : (found : Option ℕ) (layer : Layer Purpose) (label : LabelParts) → (disowning_in found layer label).node ≡ layer.node
disown_node None layer label = refl
disown_node (Some k) layer label = refl

pub disowns_node : (layer : Layer Purpose) (peer : ℕ) (label : LabelParts) → (disowning_step layer peer label).node ≡ layer.node
unfolding disowning_step
disowns_node layer peer label = disown_node (peer_place peer layer) layer label

abbrev Nothing : ℕ → Said
Nothing node = λ layer packets. (layer.node ≡ node) × (packets ≡ [])

answers_first : (node : ℕ) (p : Packet) (bytes : List ℕ) (layer : Layer Purpose) (packets : List Outgoing) (rcode : ℕ) (given : List ℕ) → (layer.node ≡ node) × (packets ≡ []) → Behind node p (packets ++ record { to = (header_in p).source; label = None; bytes = (answering_step layer p bytes rcode given).0 } ∷ [])
unfolding answering_step
answers_first node p bytes layer packets rcode given h = record {
  rcode = rcode;
  given = given;
  more = [];
  packets_are = ap (λ (ps : List Outgoing). ps ++ response_of layer.node p rcode given ∷ []) h.1 ∙ ap (λ (n : ℕ). response_of n p rcode given ∷ []) h.0;
  others = tt;
}

pub same_bytes : (a b : Outgoing) (more others packets : List Outgoing) → packets ≡ a ∷ more → packets ≡ b ∷ others → a.bytes ≡ b.bytes
same_bytes a b more others packets e f =
    let g : a ∷ more ≡ b ∷ others = sym e ∙ f in
    let same : a ≡ b = cc in
    ap (λ (x : Outgoing). x.bytes) same

-- ---- the rcode of a write that starts an operation

abbrev IsLow : ℕ → Type 0
IsLow rcode = rcode % 2 ^ 4 ≡ 4 → ⊥

zero_low : IsLow 0
zero_low e = omega (arith, e)

five_low : IsLow 5
five_low e = omega (arith, e)

six_low : IsLow 6
six_low e = omega (arith, e)

seven_low : IsLow 7
seven_low e = omega (arith, e)

either_low : (b : Bool) (x y : ℕ) → IsLow x → IsLow y → IsLow (cond b x y)
either_low true x y h k = h
either_low false x y h k = k

target_low : (facts : TargetFacts) → IsLow facts.by_state → IsLow (target_rcode facts)
target_low facts h =
    either_low facts.is_lock _ _ six_low
    (either_low facts.is_empty _ _ six_low
    (either_low facts.writes_rom _ _ six_low
    (either_low facts.reads_rom _ _ zero_low
    (either_low facts.is_served _ _ h
    (either_low facts.is_start _ _ six_low seven_low)))))

rows_low : (a b c d f : Bool) (n : ℕ) → IsLow n → IsLow (row_rcode (first_or serving ((a, ignored_as causes.Source 7) ∷ (b, ignored_as causes.Login 7) ∷ (c, telling) ∷ (d, ignored_as causes.Grammar 5) ∷ (f, ignored_as causes.Slot 0) ∷ [])) n)
rows_low true b c d f n h = seven_low
rows_low false true c d f n h = seven_low
rows_low false false true d f n h = h
rows_low false false false true f n h = five_low
rows_low false false false false true n h = zero_low
rows_low false false false false false n h = h

row_low : (facts : RequestFacts) (n : ℕ) → IsLow n → IsLow (row_rcode (judging_of facts) n)
row_low facts n h =
    rows_low (facts.to_initiator && not facts.reads_rom && not facts.of_target) (facts.of_other_login || facts.to_closed_fifo) (facts.is_status && facts.is_unsolicited) (facts.is_status && not facts.is_read) (facts.is_status && not facts.is_awaited) n h

state_low : (node : NodeState) (access : Access) → start_at access.offset ≡ management_agent → node.manager.operation ≡ None → IsLow (state_rcode node (start_at access.offset) access)
state_low node access at none =
    let is : state_rcode node (start_at access.offset) access ≡ 0 = ap (λ s. state_rcode node s access) at ∙ ap (λ (o : Option Operation). cond (is_some o) 4 0) none in
    subst IsLow (sym is) zero_low

module _ (node : NodeState) (p : Packet) (bytes : List ℕ) where
  abbrev left : Scene
  left = (request_step p bytes (scene node empty_outbox)).1

  begins : Behind node.layer.node p left.outbox.packets
  begins =
      let n = node.layer.node in
      judges (Nothing n) (Begins n p) p bytes (record { answers = λ layer packets rcode given h. answers_first n p bytes layer packets rcode given h })
      (record { disowns = λ layer packets peer label h. (disowns_node layer peer label ∙ h.0, h.1) }) (keeps_behind n p) (scene node empty_outbox) (refl, refl)

  starts_free : (access : Access) → access_of p ≡ Some access → start_at access.offset ≡ management_agent → node.manager.operation ≡ None → NoConflicts left.outbox.packets
  starts_free access e at none =
      let row = judging_of (judged_by node (header_in p).source access) in
      let b = begins in
      let rcode = row_rcode row (target_rcode (facts_at node access)) in
      let given = row_gives row (gives_at node access) in
      let first : BeginsWith node.layer.node p rcode given left.outbox.packets = (row_law p access e).answers bytes (scene node empty_outbox) refl in
      let low : IsLow rcode = row_low (judged_by node (header_in p).source access) (target_rcode (facts_at node access)) (target_low (facts_at node access) (state_low node access at none)) in
      let bytes_are = same_bytes (response_of node.layer.node p rcode given) (response_of node.layer.node p b.rcode b.given) first.more b.more left.outbox.packets first.packets_are b.packets_are in
      subst NoConflicts (sym b.packets_are) (subst NoConflict bytes_are (response_free node.layer.node rcode p given low), b.others)

-- ---- one that finds an operation under way

module _ (node : NodeState) (p : Packet) (bytes : List ℕ) where
  sides_by : (r : List ℕ × Layer Purpose) (o : OutboxState) (source : ℕ) → (answered_by r o source).1.sides ≡ o.sides
  sides_by (given, layer) o source = refl

  answered_sides : (rcode : ℕ) (given : List ℕ) (s : Scene) → (answered p bytes rcode given s).outbox.sides ≡ s.outbox.sides
  unfolding answer_step
  answered_sides rcode given s = sides_by (answering_step s.node.layer p bytes rcode given) s.outbox (header_in p).source

  start_sides : (orb : ℕ) (operation : Option Operation) (op : Operation) → operation ≡ Some op → (started_by (header_in p).source p bytes (management.start_with operation node.manager (header_in p).source orb) (scene node empty_outbox)).outbox.sides ≡ []
  start_sides orb None op e = none_is op e
  start_sides orb (Some other) op e = answered_sides conflict_error [] (scene (record node { manager = node.manager }) empty_outbox)

  refused_sides : (orb : ℕ) (op : Operation) → demand_of (length node.rom) p ≡ demands.Manage orb → node.manager.operation ≡ Some op → (serve p bytes (scene node empty_outbox)).outbox.sides ≡ []
  unfolding serve start management.start_step
  refused_sides orb op d e = ap (λ x. (served_as x p bytes (scene node empty_outbox)).outbox.sides) d ∙ start_sides orb node.manager.operation op e

  abbrev pick : Bool → Judged × Scene
  pick b = cond {A = Judged × Scene} b (judgements.Ignored causes.Login, answered p bytes address_error [] (scene node empty_outbox)) (judgements.Got, serve p bytes (scene node empty_outbox))

  step_is : (b : Bool) → is_barred node p ≡ b → request_step p bytes (scene node empty_outbox) ≡ pick b
  unfolding request_step
  step_is b e = ap pick e

  pub demand_is : (access : Access) → access_of p ≡ Some access → length node.rom ≤ 1024 → start_at access.offset ≡ management_agent → start_serves (start_at access.offset) access ≡ true → demand_of (length node.rom) p ≡ demands.Manage (offset_at access.payload 0)
  demand_is access e rom at serves = same_some _ _ ((row_law p access e).serves (length node.rom) rom serves ∙ ap (λ s. asked_at s access) at)

-- ---- a packet that comes

abbrev pub IsElsewhere : Packet → Type 0
IsElsewhere p = (access : Access) → access_of p ≡ Some access → start_at access.offset ≡ management_agent → start_serves (start_at access.offset) access ≡ true → ⊥

-- What is handed out: no answer with conflict_error to a write; or the packet was ignored; or it is no write that MANAGEMENT_AGENT serves; or it found an operation under way, and nothing is told.
pub data Handed (operation : Option Operation) (bytes : List ℕ) (r : Judged × Whole) : Type 0 where
  others : NoConflicts r.1.outbox.packets → Handed operation bytes r
  ignored : (cause : Cause) → r.0 ≡ judgements.Ignored cause → First r.1.outbox.packets → Handed operation bytes r
  elsewhere : (p : Packet) → reading bytes ≡ Ok p → IsElsewhere p → First r.1.outbox.packets → Handed operation bytes r
  refuses : (op : Operation) (p : Packet) (access : Access) → operation ≡ Some op → reading bytes ≡ Ok p → access_of p ≡ Some access → start_at access.offset ≡ management_agent → start_serves (start_at access.offset) access ≡ true → r.0 ≡ judgements.Got → r.1.outbox.sides ≡ [] → First r.1.outbox.packets → Handed operation bytes r

module _ (node : NodeState) (p : Packet) (bytes : List ℕ) (disks : List Disk) (rom : length node.rom ≤ 1024) (read : reading bytes ≡ Ok p) where
  abbrev step : Judged × Scene
  step = request_step p bytes (scene node empty_outbox)

  abbrev r : Judged × Whole
  r = judged_scene step (whole (scene node empty_outbox) disks)

  abbrev Result : Type 0
  Result = Handed node.manager.operation bytes r

  begun : First step.1.outbox.packets
  begun = first_of node.layer.node p step.1.outbox.packets (begins node p bytes)

  other_access : (access other : Access) → access_of p ≡ Some access → access_of p ≡ Some other → access ≡ other
  other_access access other e f = same_some access other (sym e ∙ f)

  none_there : access_of p ≡ None → Result
  none_there e = elsewhere p read (λ access f at serves. none_is access (sym e ∙ f)) begun

  not_there : (access : Access) → access_of p ≡ Some access → (start_at access.offset ≡ management_agent → ⊥) → Result
  not_there access e n = elsewhere p read (λ other f at serves. n (ap (λ (a : Access). start_at a.offset) (other_access access other e f) ∙ at)) begun

  not_served : (access : Access) → access_of p ≡ Some access → start_serves (start_at access.offset) access ≡ false → Result
  not_served access e n = elsewhere p read (λ other f at serves. untrue (sym n ∙ (ap (λ (a : Access). start_serves (start_at a.offset) a) (other_access access other e f) ∙ serves))) begun

  module _ (access : Access) (e : access_of p ≡ Some access) (at : start_at access.offset ≡ management_agent) (serves : start_serves (start_at access.offset) access ≡ true) where
    by_barred : (op : Operation) → node.manager.operation ≡ Some op → (b : Bool) → is_barred node p ≡ b → Result
    by_barred op f true g = ignored causes.Login (ap (λ (x : Judged × Scene). x.0) (step_is node p bytes true g)) begun
    by_barred op f false g =
        let is = step_is node p bytes false g in
        refuses op p access f read e at serves (ap (λ (x : Judged × Scene). x.0) is)
        (ap (λ (x : Judged × Scene). x.1.outbox.sides) is ∙ refused_sides node p bytes (offset_at access.payload 0) op (demand_is node p bytes access e rom at serves) f)
        begun

    by_operation : (operation : Option Operation) → node.manager.operation ≡ operation → Result
    by_operation None f = others (starts_free node p bytes access e at f)
    by_operation (Some op) f = by_barred op f (is_barred node p) refl

  by_served : (access : Access) → access_of p ≡ Some access → start_at access.offset ≡ management_agent → (b : Bool) → start_serves (start_at access.offset) access ≡ b → Result
  by_served access e at true serves = by_operation access e at serves node.manager.operation refl
  by_served access e at false serves = not_served access e serves

  by_start : (access : Access) → access_of p ≡ Some access → (s : Start) → start_at access.offset ≡ s → Result
  by_start access e management_agent at = by_served access e at (start_serves (start_at access.offset) access) refl
  by_start access e (register place name) at = not_there access e (λ f. (let no : register place name ≡ management_agent = sym at ∙ f in cc))
  by_start access e rom_start at = not_there access e (λ f. (let no : rom_start ≡ management_agent = sym at ∙ f in cc))
  by_start access e no_start at = not_there access e (λ f. (let no : no_start ≡ management_agent = sym at ∙ f in cc))

  by_access : (found : Option Access) → access_of p ≡ found → Result
  by_access None e = none_there e
  by_access (Some access) e = by_start access e (start_at access.offset) refl

  request_handed : Result
  request_handed = by_access (access_of p) refl

answered_one : (r : List ℕ × Layer Purpose) (source : ℕ) → First (answered_by r empty_outbox source).1.packets
answered_one (given, layer) source = record { first = record { to = source; label = None; bytes = given }; more = []; packets_are = refl; others = tt }

again_first : (node : NodeState) (p : Packet) (bytes : List ℕ) (rcode : ℕ) → First (answered p bytes rcode [] (scene node empty_outbox)).outbox.packets
unfolding answer_step
again_first node p bytes rcode = answered_one (answering_step node.layer p bytes rcode []) (header_in p).source

-- ---- each call

receives_as : (told : Option Told) (bytes : List ℕ) (f : Finding Purpose) (before : Layer Purpose) (node : NodeState) (disks : List Disk) → length node.rom ≤ 1024 → IsFound f before node.layer bytes → Handed node.manager.operation bytes (received_as told bytes f (whole (scene node empty_outbox) disks))
receives_as told bytes of_generation before node disks rom f = others tt
receives_as told bytes of_grammar before node disks rom f = others tt
receives_as told bytes of_label before node disks rom f = others tt
receives_as told bytes (of_response p label purpose) before node disks rom f = others (concludes Free keeps told purpose (header_in p).source label (answer_in p) (whole (scene node empty_outbox) disks) tt)
receives_as told bytes (of_again p rcode) before node disks rom f = ignored causes.Again refl (again_first node p bytes rcode)
receives_as told bytes (of_request p) before node disks rom f = request_handed node p bytes disks rom f.1.read

pub delivery_handed : (told : Option Told) (generation : ℕ) (bytes : List ℕ) (node : NodeState) (disks : List Disk) → length node.rom ≤ 1024 → Handed node.manager.operation bytes (received told generation bytes (whole (scene node empty_outbox) disks))
unfolding received
delivery_handed told generation bytes node disks rom =
    let found = judging_step node.layer generation bytes in
    receives_as told bytes found.0 node.layer (record node { layer = found.1 }) disks rom (found_as node.layer generation bytes)

pub lapse_free : (peer : ℕ) (label : LabelParts) (node : NodeState) → NoConflicts (expired peer label (scene node empty_outbox)).1.outbox.packets
unfolding expired
lapse_free peer label node = expires_in Free keeps (expiring_step node.layer peer label) peer label (scene node empty_outbox) tt

pub sight_free : (generation id : ℕ) (node : NodeState) → NoConflicts (seen generation id (scene node empty_outbox)).1.outbox.packets
unfolding seen
sight_free generation id node = sees_by Free keeps.leaves (seeing_step node.layer generation id) (scene node empty_outbox) tt

pub second_free : (node : NodeState) → NoConflicts (ticked (scene node empty_outbox)).outbox.packets
unfolding ticked
second_free node = ticks_by Free (tick_step node.logins) (scene node empty_outbox) tt
