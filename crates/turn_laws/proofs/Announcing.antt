-- Each turn of every run tells of a disc that came whom the media law has told of it: behind a run that was a load each other live login of the unit whose register is enabled, by rising
-- place; and in no other turn anybody.
use Rattle.std.proofs.Common.{arith, ◌≡◌, ◌∙◌, refl, sym, ap, subst, ℕ, zero, suc, ◌+◌, ◌<◌, ◌≤◌, ◌==◌, ◌&&◌, not, nat_lt, is_some, Bool, true, false, cond, List, [], ◌∷◌, ◌++◌, length, map, Option, Some, None, Result}
use Rattle.std.specs.Prelude.{slice_index_or, slice_set, unwrap_or}
use Rattle.std.proofs.lemmas.Bool.Decides.{nat_tests}
use Rattle.std.proofs.lemmas.List.{get_or-set_same, set_past}
use Rattle.async_packet.specs.Labels.{LabelParts}
use Rattle.async_packet.specs.Packet.{Packet, header_in}
use Rattle.command_agent.specs.Machine.{Machine}
use Rattle.command_agent.specs.Steps.{reply_step}
use Rattle.command_agent.specs.declared.step.AgentStep.{AgentStep}
use Rattle.command_agent.specs.declared.step.Which.{Which}
use Rattle.label_table.specs.Bodies.{block_write}
use Rattle.label_table.specs.History as wire_calls
use Rattle.label_table.specs.Layer.{Finding, Layer, asking_step, judging_step, of_again, of_generation, of_grammar, of_label, of_request, of_response}
use Rattle.label_table.specs.Requests.{reply_kind}
use Rattle.label_table.specs.declared.judgement.Asked.{Asked}
use Rattle.label_table.specs.declared.reply.Stale.{Stale}
use Rattle.login_table.specs.Table.{Table, expired_ids, find, is_live, is_of_node, place_at}
use Rattle.login_table.specs.declared.login.Login.{Login}
use Rattle.media_bay.specs.Unsolicited.{block}
use Rattle.mgmt_agent.specs.Machine.{reply_step as manager_reply, source_in}
use Rattle.orb_layout.specs.Replies.{Answer}
use Rattle.packet_store.specs.Kept.{found_sent}
use Rattle.packet_store.specs.declared.sent.Sent.{Sent}
use Rattle.rbc_command.specs.declared.sense.Sense.{Sense}
use Rattle.rbc_disk.specs.Disk.{Disk, disk_at, no_disk}
use Rattle.rbc_disk.specs.Runs.{Told, after_run, check_in, left_by}
use Rattle.rbc_disk.specs.Units.{PlainDisk, new_unit, plain_disk}
use Rattle.rbc_disk.specs.Requests.{request_of}
use Rattle.rbc_disk.specs.declared.command.Outcome.{Outcome}
use Rattle.sbp_bus.specs.Generations.{id_of}
use Rattle.sbp_bus.specs.Packets.{end_note, judged_note}
use Rattle.sbp_bus.specs.Places.{or_nobody}
use Rattle.sbp_bus.specs.declared.places.Holder.{Holder}
use Rattle.sbp_journal.specs.Outgoings.{OutboxState, empty_outbox}
use Rattle.sbp_journal.specs.Run.{Moment, asked, said}
use Rattle.sbp_journal.specs.Transactions.{Kind, Part, Sending, Transaction, asked_by, between, is_same_kind, no_packet, part_of, request, response}
use Rattle.sbp_journal.specs.Wire.{Held, Terms, arrives, closes, closes_if, free, gets, gets_as, is_news, is_served, judges, rests, terms, waits}
use Rattle.async_packet.specs.Fields.{rcode_of}
use Rattle.sbp_journal.specs.declared.cause.Cause.{Cause}
use Rattle.sbp_journal.specs.declared.cause.Cause.TheVariants as causes
use Rattle.sbp_journal.specs.declared.cause.Judged.{Judged}
use Rattle.sbp_journal.specs.declared.cause.Judged.TheVariants as judgements
use Rattle.sbp_journal.specs.declared.event.Event.{Event}
use Rattle.sbp_journal.specs.declared.event.Event.TheVariants as events
use Rattle.sbp_journal.specs.declared.note.Note.{Note}
use Rattle.sbp_journal.specs.declared.note.Note.TheVariants as notes
use Rattle.sbp_journal.specs.declared.side.Side.{Side}
use Rattle.sbp_journal.specs.declared.side.Side.TheVariants as sides
use Rattle.sbp_laws.specs.DiskFold.{asks_load, is_good, moves_disc, unit_at}
use Rattle.sbp_laws.specs.MediaLaw.{Load, is_push_note, is_told, load_if, load_in, logins_for, told_logins}
use Rattle.sbp_laws.specs.NoteKinds.{of_kind}
use Rattle.sbp_laws.specs.Packets.{id_for}
use Rattle.sbp_laws.specs.Targets.{Reply, Target, initiator_with, node_in, over, place_on, taken_on, target_at}
use Rattle.sbp_laws.specs.Turns.{turn}
use Rattle.sbp_initiator.specs.Receiving.{receive_step}
use Rattle.sbp_target.specs.Calls.{receives}
use Rattle.sbp_target.specs.Desks.{which_in}
use Rattle.sbp_target.specs.Histories.Layers.{first_of, layer_after}
use Rattle.sbp_target.specs.Histories.Sides.{Announced, Announces, agent_tells, announced_as, announced_at, announced_from, announced_if, announced_to, decision_changes, delivery_tells, operation_tells, request_changes, unsent_then}
use Rattle.sbp_target.specs.Management.{with_manager}
use Rattle.sbp_target.specs.Nodes.{NodeState, desk_at, login_at}
use Rattle.sbp_target.specs.Nodes as target
use Rattle.sbp_target.specs.Receiving.{answer_in, concluded, received, received_as, with_layer}
use Rattle.sbp_target.specs.Replies.{Whole, advance, advanced_with, came, plain_in, replied as step_replied, replied_by, replied_to, replied_with, served_login, stage}
use Rattle.sbp_target.specs.Serving.{is_barred}
use Rattle.sbp_target.specs.Units.{hears, is_pending}
use Rattle.sbp_target.specs.declared.purpose.Purpose.{Purpose}
use Rattle.sbp_target.specs.declared.purpose.Purpose.TheVariants as purposes
use Rattle.sbp_world.specs.Agents.Management.Offices.{Agrees, office_of}
use Rattle.sbp_world.specs.Delivering.{MayTell, marked, whole_of}
use Rattle.sbp_world.specs.Hosts.Handing.{AreOthers}
use Rattle.sbp_world.specs.Lines.{weight_in}
use Rattle.sbp_world.specs.Telling.{holder}
use Rattle.sbp_world.specs.Worlds.{Scene, WorldState, initiator_at, with_note, with_target}
use Rattle.login_table.proofs.Searching.{within}
use Rattle.sbp_target.proofs.Histories.Calling.{Good}
use Rattle.sbp_target.proofs.Histories.Found.{IsFound, found as found_as}
use Rattle.sbp_target.proofs.Histories.Primitives.{closing_known, live_on}
use Rattle.sbp_target.proofs.Histories.Seats.{Lives}
use Rattle.sbp_target.proofs.Histories.Told.{side_law}
use Rattle.sbp_world.proofs.Agents.CrewFirsts.{agrees}
use Rattle.sbp_world.proofs.Agents.Management.Calm as calm
use Rattle.sbp_world.proofs.Agents.Management.Calm.{AreQuiet, From}
use Rattle.sbp_world.proofs.Agents.Management.Holding.{good_of}
use Rattle.sbp_world.proofs.Formed.{AreOwn, IsNoRun}
use Rattle.sbp_world.proofs.Agents.Management.Still.{hist}
use Rattle.sbp_world.proofs.Agents.UnitsMarked.{came_not, run_came}
use Rattle.sbp_world.proofs.Agents.UnitsRun.{live_login}
use Rattle.sbp_world.proofs.Lists.RunTells.{AreRunless, NoneRan, RanBy, TellsRun, delivery_tells as runs_tell, lapse_runless, of_none, of_run, ran_as, ran_for, served_there}
use Rattle.turn_laws.specs.Announced.{AnnouncedLaw, AnnouncesWhereDue, hearer}
use Rattle.turn_laws.proofs.Calls.{Brings, Cases, calls, injects, loses, refuses, refuses_action, resets, sets_key}
use Rattle.turn_laws.proofs.Handed.{handed, notes_told}
use Rattle.turn_laws.proofs.KindNotes.{IsToldKind, kind_handed, own_handed}
use Rattle.turn_laws.proofs.ManagedSides.{begins, from_self}
use Rattle.turn_laws.proofs.Pass.{of_every_run}
use Rattle.turn_laws.proofs.Places.{Place}
use Rattle.turn_laws.proofs.PushSides.{AreSilent, NoPushes, if_pushes, decision_silent, expired_silent, first_none, is_ran_note, last_noted, plain_none, pushes_in, pushes_none, quiet_before, request_silent, run_noted, runs_none, sight_silent, silent_none, silent_runless}
use Rattle.sbp_world.proofs.Wire.Kept.{and_false}
use Rattle.sbp_laws.proofs.Going.{from_same}
use Rattle.turn_laws.proofs.Cuts.{marked_holder}
use Rattle.sbp_world.proofs.Common.{and_first, and_second, untrue}

-- ---- kinds of notes that the target tells
pub push_kind : IsToldKind is_push_note
push_kind = record { no_packet = λ serial generation from to bytes. refl }

pub ran_kind : IsToldKind is_ran_note
ran_kind = record { no_packet = λ serial generation from to bytes. refl }

pub own_push : (note : Note) → IsNoRun note → is_push_note note ≡ false
own_push (notes.Unsolicited i) h = absurd h
own_push (notes.Unsent i) h = absurd h
own_push note h = refl

pub own_ran : (note : Note) → IsNoRun note → is_ran_note note ≡ false
own_ran (notes.Ran i list number unit cdb bytes check) h = absurd h
own_ran note h = refl

-- ---- what stays of the target as its turn is over
taken_same : (reply : Option Reply) (x : Target) → ((taken_on None reply x).table ≡ x.table) × (((taken_on None reply x).units ≡ x.units) × ((taken_on None reply x).enabled ≡ x.enabled))
taken_same None x = (refl, (refl, refl))
taken_same (Some reply) x = (refl, (refl, refl))

-- ---- the IDs that the target knows stay as a packet is got
abbrev SameIds : Terms → Terms → Type 0
SameIds t u = (u.ids ≡ t.ids) × (u.generation ≡ t.generation)

judged_ids : (o : Option Transaction) (cause : Option Cause) (serial : ℕ) (packet : Sending) (t : Terms) → SameIds t (judges o cause serial packet t)
judged_ids None cause serial packet t = (refl, refl)
judged_ids (Some v) cause serial packet t = (refl, refl)

closed_if_ids : (b : Bool) (serial : ℕ) (v : Transaction) (rcode : ℕ) (t : Terms) → SameIds t (closes_if b serial v rcode t)
closed_if_ids true serial v rcode t = (refl, refl)
closed_if_ids false serial v rcode t = (refl, refl)

closed_ids : (held : Held) (v : Transaction) (kind : Kind) (rcode : ℕ) (t : Terms) → SameIds t (closes held v kind rcode t)
closed_ids free v kind rcode t = (refl, refl)
closed_ids rests v kind rcode t = (refl, refl)
closed_ids (waits other serial) v kind rcode t = closed_if_ids (is_same_kind other kind) serial v rcode t

got_as_ids : (part : Part) (serial : ℕ) (packet : Sending) (t : Terms) → SameIds t (gets_as part serial packet t)
got_as_ids (request label kind) serial packet t = judged_ids (asked_by packet) None serial packet t
got_as_ids (response label kind) serial packet t = let v = between packet packet.to packet.from label in closed_ids (t.held v) v kind (rcode_of packet.bytes) t
got_as_ids no_packet serial packet t = (refl, refl)

pub got_ids : (so : Option Sending) (serial : ℕ) (t : Terms) → SameIds t (gets so serial t)
got_ids None serial t = (refl, refl)
got_ids (Some packet) serial t = got_as_ids (part_of packet.bytes) serial packet (is_served serial (is_news serial (arrives serial t)))

pub got_initiator : (serial : ℕ) (ms : List Moment) (id : ℕ) → initiator_with (terms (said (notes.Got serial) ∷ ms)) id ≡ initiator_with (terms ms) id
got_initiator serial ms id =
    let t = terms ms in
    let g = got_ids (t.sent serial) serial t in
    from_same 4 0 t (terms (said (notes.Got serial) ∷ ms)) id (λ m. ap (λ (ids : ℕ → ℕ → ℕ). ids ((terms (said (notes.Got serial) ∷ ms)).generation 0) m) g.0 ∙ ap (λ (generation : ℕ → ℕ). t.ids (generation 0) m) g.1)

-- ---- a disc that came
beyond_none : (disks : List Disk) (unit : ℕ) → length disks ≤ unit → disk_at disks unit ≡ no_disk
beyond_none [] unit l = refl
beyond_none (disk ∷ disks) zero l = absurd (omega (arith, l))
beyond_none (disk ∷ disks) (suc unit) l = beyond_none disks unit (let m : suc (length disks) ≤ suc unit = l in omega (arith, m))

came_set : (disks : List Disk) (unit : ℕ) (disk : Disk) (b : Bool) → came (disk_at disks unit) disk ≡ b → (length disks ≤ unit → b ≡ false) → came (disk_at disks unit) (disk_at (slice_set disks unit disk) unit) ≡ b
came_set disks unit disk b e out = by (nat_lt unit (length disks)) refl
  where
    by : (c : Bool) → nat_lt unit (length disks) ≡ c → came (disk_at disks unit) (disk_at (slice_set disks unit disk) unit) ≡ b
    by true f = let inside : unit < length disks = grind (arith, nat_tests) in ap (came (disk_at disks unit)) (get_or-set_same disks unit disk no_disk inside) ∙ e
    by false f =
        let beyond : length disks ≤ unit = grind (arith, nat_tests) in
        ap (λ ds. came (disk_at disks unit) (disk_at ds unit)) (set_past disks unit disk beyond) ∙ (came_not (disk_at disks unit) ∙ sym (out beyond))

moves_out : (disks : List Disk) (node : NodeState) (unit : ℕ) (cdb : List ℕ) (check : Option Sense) → length disks ≤ unit → moves_disc cdb check (plain_in node.units disks unit) ≡ false
moves_out disks node unit cdb check l =
    ap (λ (d : Disk). moves_disc cdb check (plain_disk (slice_index_or node.units unit new_unit) d)) (beyond_none disks unit l) ∙ and_false (is_good check && asks_load (request_of no_disk.is_bay cdb))

-- ---- the load of a turn
load_same : (T : Target) (wire : Terms) (rest : List Note) → load_in T wire rest ≡ load_in T wire (of_kind is_ran_note rest)
load_same T wire [] = refl
load_same T wire (notes.Ran i list number unit cdb bytes check ∷ rest) = refl
load_same T wire (note ∷ rest) = load_same T wire rest

-- where nothing is told of a disc, and nothing ran
pub nothing : (start : List Disk) (past : List Moment) (first : Moment) (rest : List Note) → of_kind is_push_note rest ≡ [] → of_kind is_ran_note rest ≡ [] → AnnouncesWhereDue start (turn past first rest)
nothing start past first rest p r =
    let T = over (target_at start past) in
    let after = terms (first ∷ past) in
    ap (map hearer) p ∙ sym (ap (λ load. map (λ login. initiator_with after login.node) (logins_for T load)) (load_same T (terms past) rest ∙ ap (load_in T (terms past)) r))

shuffled : (a b c d : Bool) → (((a && b) && c) && d) ≡ (b && (a && (c && d)))
shuffled true true c d = refl
shuffled true false c d = refl
shuffled false true c d = refl
shuffled false false c d = refl

pub second_of : (a b c : Bool) → (a && (b && c)) ≡ true → b ≡ true
second_of a b c e = and_first b c (and_second a (b && c) e)

-- ---- at a place
module _ (units ready : ℕ) (has : 0 < units) (start : List Disk) (past : List Moment) (s : Scene) (here : Place units ready start past s) where
  abbrev w : WorldState
  w = s.world

  abbrev node : NodeState
  node = w.target

  abbrev disks : List Disk
  disks = s.media.disks

  abbrev ms : List Moment
  ms = hist past w

  abbrev wire : Terms
  wire = terms ms

  abbrev T : Target
  T = over (target_at start ms)

  abbrev H : ℕ → Holder
  H p = holder w p

  good : Good node
  good = good_of units ready here.holds.calls node has here.holds.made

  agreed : Agrees (office_of T) node
  agreed = agrees units ready has start w here.holds

  abbrev Same : Target → Type 0
  Same x = (x.table ≡ (target_at start ms).table) × ((x.units ≡ (target_at start ms).units) × (x.enabled ≡ (target_at start ms).enabled))

  pub over_same : Same T
  over_same = taken_same (target_at start ms).reply (target_at start ms)

  table_is : (target_at start ms).table ≡ node.logins
  table_is = sym over_same.0 ∙ agreed.table

  -- who has a place with a live login
  pub hearer_is : (p : ℕ) (login : Login) → login_at node p ≡ Some login → is_live login ≡ true → (H p).initiator ≡ initiator_with wire login.node
  hearer_is p login e live =
      let k = here.held.held p login e in
      ap (λ o. (or_nobody o).initiator) k.there
      ∙ (sym (k.live live).terms_are
      ∙ (ap (λ (x : Table). initiator_with wire (node_in (place_at x.places p))) table_is ∙ ap (λ l. initiator_with wire (node_in l)) e))

  -- the load of a run
  abbrev LoadBy : List ℕ → Option Sense → Holder → Option Load
  LoadBy cdb check h = load_if (moves_disc cdb check (unit_at T.units h.unit)) h.unit (place_on T h.unit (id_for wire 0 (suc h.initiator)))

  load_is : (p : ℕ) (login : Login) → login_at node p ≡ Some login → is_live login ≡ true → (cdb : List ℕ) (check : Option Sense) (h : Holder) → h ≡ H p → LoadBy cdb check h ≡ load_if (moves_disc cdb check (plain_in node.units disks login.unit)) login.unit p
  load_is p login e live cdb check h same =
      let k = here.held.held p login e in
      let next : suc k.holder.initiator ≡ k.holder.initiator + 1 = omega arith in
      let place_is : place_on T login.unit (id_for wire 0 (suc k.holder.initiator)) ≡ p =
      ap (λ (x : Table). unwrap_or (find (is_of_node login.unit (id_for wire 0 (suc k.holder.initiator))) x.places) 8) over_same.0
      ∙ (ap (λ n. place_on (target_at start ms) login.unit (id_for wire 0 n)) next ∙ (k.live live).place_is) in
      ap (LoadBy cdb check) (same ∙ ap or_nobody k.there)
      ∙ (ap (λ unit. load_if (moves_disc cdb check (unit_at T.units unit)) unit (place_on T unit (id_for wire 0 (suc k.holder.initiator)))) k.unit_is
      ∙ (ap (λ (x : PlainDisk). load_if (moves_disc cdb check x) login.unit (place_on T login.unit (id_for wire 0 (suc k.holder.initiator)))) (ap (λ us. unit_at us login.unit) over_same.1.0 ∙ here.units_are.each login.unit)
      ∙ ap (λ n. load_if (moves_disc cdb check (plain_in node.units disks login.unit)) login.unit n) place_is))

  -- ---- the logins that are told
  module _ (serial unit from : ℕ) where
    abbrev after : Terms
    after = terms (said (notes.Got serial) ∷ ms)

    abbrev load : Load
    load = record { unit = unit; place = from }

    abbrev names : List Login → List ℕ
    names logins = map (λ login. initiator_with after login.node) logins

    abbrev Told_names : Announced → List ℕ
    Told_names a = map hearer (pushes_in H a.0)

    pub told_same : (at : ℕ) → at < 8 → (login : Login) → login_at node at ≡ Some login → is_told load T.enabled login ≡ hears unit from at (desk_at node at) login
    told_same at below login e =
        let own : login.place ≡ at = (good.table.sound.numbered at login e).own in
        ap (λ p. is_live login && (login.unit == unit) && not (p == from) && slice_index_or T.enabled p false) own
        ∙ (ap (λ b. is_live login && (login.unit == unit) && not (at == from) && b) (ap (λ bs. slice_index_or bs at false) over_same.1.1 ∙ here.enabled.each at below)
        ∙ shuffled (is_live login) (login.unit == unit) (not (at == from)) (desk_at node at).is_enabled)

    abbrev told_beside : List Login → Option Login → List Login
    told_beside rest None = rest
    told_beside rest (Some login) = cond (is_told load T.enabled login) (login ∷ rest) rest

    module _ (at : ℕ) (below : at < 8) (more : Layer Purpose → List ℕ → Announced) (rest : List Login) (rest_is : (l : Layer Purpose) (p : List ℕ) → Told_names (more l p) ≡ names rest) where
      module _ (login : Login) (layer : Layer Purpose) (pending : List ℕ) (first : (H at).initiator ≡ initiator_with after login.node) where
        joined : (l : Layer Purpose) (p : List ℕ) → (H at).initiator ∷ Told_names (more l p) ≡ names (login ∷ rest)
        joined l p = ap (λ i. i ∷ Told_names (more l p)) first ∙ ap (λ is. initiator_with after login.node ∷ is) (rest_is l p)

        asked_names : (a : Option Asked × Layer Purpose) → Told_names (announced_as at login.node pending more a) ≡ names (login ∷ rest)
        asked_names (Some given, l) = joined l (pending ++ login.node ∷ [])
        asked_names (None, l) = joined l pending

        by_pending : (b : Bool) (a : Option Asked × Layer Purpose) → Told_names (cond b (unsent_then at (more layer pending)) (announced_as at login.node pending more a)) ≡ names (login ∷ rest)
        by_pending true a = joined layer pending
        by_pending false a = asked_names a

        to_names : Told_names (announced_to at login layer pending more) ≡ names (login ∷ rest)
        to_names = by_pending (is_pending login.node pending) (asking_step layer login.node (block_write login.fifo block) purposes.Unsolicited)

      one_place : (login : Option Login) (layer : Layer Purpose) (pending : List ℕ) → login_at node at ≡ login → Told_names (announced_at unit from at (desk_at node at) login layer pending more) ≡ names (told_beside rest login)
      one_place None layer pending e = rest_is layer pending
      one_place (Some login) layer pending e = by (hears unit from at (desk_at node at) login) refl ∙ sym (ap (λ b. names (cond b (login ∷ rest) rest)) (told_same at below login e))
        where
          by : (b : Bool) → hears unit from at (desk_at node at) login ≡ b → Told_names (cond b (announced_to at login layer pending more) (more layer pending)) ≡ names (cond b (login ∷ rest) rest)
          by true f =
              let live = second_of (login.unit == unit) (is_live login) (not (at == from) && (desk_at node at).is_enabled) f in
              to_names login layer pending (hearer_is at login e live ∙ sym (got_initiator serial ms login.node))
          by false f = rest_is layer pending

    -- of all places
    told_first : (login : Option Login) (places : List (Option Login)) → names (told_beside (told_logins load T.enabled places) login) ≡ names (told_logins load T.enabled (login ∷ places))
    told_first None places = refl
    told_first (Some login) places = refl

    told_from_places : (layer : Layer Purpose) (pending : List ℕ) (places : List (Option Login)) (left at : ℕ) → length places ≡ left → at + left ≡ 8 → ((n : ℕ) → place_at places n ≡ login_at node (at + n)) → Told_names (announced_from left at unit from node layer pending) ≡ names (told_logins load T.enabled places)
    told_from_places layer pending [] zero at e b f = refl
    told_from_places layer pending [] (suc left) at e b f = absurd (omega (arith, e))
    told_from_places layer pending (login ∷ places) zero at e b f = absurd (omega (arith, e))
    told_from_places layer pending (login ∷ places) (suc left) at e b f =
        let below : at < 8 = omega (arith, b) in
        let first : login ≡ login_at node at = f 0 ∙ ap (λ n. login_at node n) (let z : at + 0 ≡ at = omega arith in z) in
        let behind : length places ≡ left = (let g : suc (length places) ≡ suc left = e in omega (arith, g)) in
        let rest = told_logins load T.enabled places in
        let rest_is : (l : Layer Purpose) (p : List ℕ) → Told_names (announced_from left (at + 1) unit from node l p) ≡ names rest =
        λ l p. told_from_places l p places left (at + 1) behind (omega (arith, b)) (λ n. f (suc n) ∙ ap (λ m. login_at node m) (let z : at + suc n ≡ at + 1 + n = omega arith in z)) in
        subst (λ x. Told_names (announced_at unit from at (desk_at node at) x layer pending (announced_from left (at + 1) unit from node)) ≡ names (told_beside rest login)) first
        (one_place at below (announced_from left (at + 1) unit from node) rest rest_is login layer pending (sym first)) ∙ told_first login places

    told_if : (b : Bool) (layer : Layer Purpose) → Told_names (announced_if b unit from node layer) ≡ names (logins_for T (load_if b unit from))
    told_if false layer = refl
    told_if true layer =
        let size : length T.table.places ≡ 8 = ap (λ (x : Table). length x.places) agreed.table ∙ good.table.sound.size in
        told_from_places layer node.pending T.table.places 8 0 size refl (λ n. ap (λ (x : Table). place_at x.places n) agreed.table ∙ ap (λ m. login_at node m) (let z : n ≡ 0 + n = omega arith in z))

  -- ---- a packet comes to the target
  module _ (serial : ℕ) (one : Sent) (found : found_sent serial w.store.kept ≡ Some one) (run : Option Told) where
    abbrev all : Whole
    all = whole_of node s.media

    abbrev Given : Finding Purpose → Layer Purpose → Judged × Whole
    Given f layer = received_as run one.bytes f (with_layer layer all)

    abbrev X : Judged × Whole
    X = received run one.generation one.bytes all

    abbrev Runs : List Side → Type 0
    Runs told = TellsRun (NoneRan node one run s.media) (RanBy node one run s.media) told

    abbrev Finds : Finding Purpose → Layer Purpose → Type 0
    Finds f layer = judging_step node.layer one.generation one.bytes ≡ (f, layer)

    -- ---- what a run leaves of the media
    left_as : (f : Finding Purpose) (layer : Layer Purpose) → Finds f layer → X.1.disks ≡ (Given f layer).1.disks
    unfolding received
    left_as f layer e = ap (λ (g : Finding Purpose × Layer Purpose). (received_as run one.bytes g.0 (with_layer g.1 all)).1.disks) e

    module _ (p : Packet) (label : LabelParts) (place : ℕ) (layer : Layer Purpose) where
      abbrev its : Whole
      its = with_layer layer all

      replied_left : (there : Option Login) (which : Option Which) → served_login node place ≡ there → which_in (desk_at node place) (header_in p).source label ≡ which → (Given (of_response p label (Some (purposes.Agent place))) layer).1.disks ≡ (replied_by run place (answer_in p) there which its).disks
      unfolding concluded replied_to
      replied_left there which e f =
          ap (λ (x : Option Login). (replied_by run place (answer_in p) x (which_in (desk_at node place) (header_in p).source label) its).disks) e
          ∙ ap (λ (y : Option Which). (replied_by run place (answer_in p) there y its).disks) f

      module _ (login : Login) (which : Which) where
        abbrev plain : PlainDisk
        plain = plain_in node.units disks login.unit

        abbrev stepped : AgentStep × Machine
        stepped = reply_step (desk_at node place).agent place plain run which (answer_in p)

        pair_left : (x : AgentStep × Machine) → (advanced_with place login (replied_with place login.unit which x (stage its.node disks)) its).disks ≡ slice_set disks login.unit (left_by x.0.ran x.1.orb.cdb x.1.payload place plain).medium
        pair_left (step, m) = refl

        step_left : (replied_by run place (answer_in p) (Some login) (Some which) its).disks ≡ slice_set disks login.unit (left_by stepped.0.ran stepped.1.orb.cdb stepped.1.payload place plain).medium
        unfolding advance step_replied
        step_left = pair_left stepped

        abbrev Came : List Disk → Bool
        Came left = came (disk_at disks login.unit) (disk_at left login.unit)

        -- of no run nothing, and of a run what moved a disc
        none_came : stepped.0.ran ≡ None → Came (replied_by run place (answer_in p) (Some login) (Some which) its).disks ≡ false
        none_came e =
            ap Came (step_left ∙ ap (λ ran. slice_set disks login.unit (left_by ran stepped.1.orb.cdb stepped.1.payload place plain).medium) e)
            ∙ came_set disks login.unit (disk_at disks login.unit) false (came_not (disk_at disks login.unit)) (λ l. refl)

        ran_came : (outcome : Outcome) → stepped.0.ran ≡ Some outcome → Came (replied_by run place (answer_in p) (Some login) (Some which) its).disks ≡ moves_disc stepped.1.orb.cdb (check_in outcome) plain
        ran_came outcome e =
            ap Came (step_left ∙ ap (λ ran. slice_set disks login.unit (left_by ran stepped.1.orb.cdb stepped.1.payload place plain).medium) e)
            ∙ came_set disks login.unit (after_run stepped.1.orb.cdb stepped.1.payload (check_in outcome) place plain).medium (moves_disc stepped.1.orb.cdb (check_in outcome) plain)
            (run_came stepped.1.orb.cdb stepped.1.payload (check_in outcome) (slice_index_or node.units login.unit new_unit) (disk_at disks login.unit))
            (moves_out disks node login.unit stepped.1.orb.cdb (check_in outcome))

      abbrev Comes : Login → Option Which → Bool
      Comes login which = came (disk_at disks login.unit) (disk_at (replied_by run place (answer_in p) (Some login) which its).disks login.unit)

      still_came : (login : Login) (which : Option Which) → served_login node place ≡ Some login → which_in (desk_at node place) (header_in p).source label ≡ which
          → ran_for node run disks place p (Some login) which ≡ None → Comes login which ≡ false
      still_came login None e f n = came_not (disk_at disks login.unit)
      still_came login (Some which) e f n = none_came login which n

    -- ---- the turn
    module _ (v : WorldState) (same : (p : ℕ) → holder v p ≡ H p) where
      abbrev rest : OutboxState → List Note
      rest outbox = handed 0 0 outbox v

      abbrev Due : Judged → OutboxState → Type 0
      Due judged outbox = AnnouncesWhereDue start (turn ms (said (judged_note serial judged)) (rest outbox))

      silent_due : (judged : Judged) (outbox : OutboxState) → AreOthers outbox.sides → NoPushes outbox.sides → AreRunless outbox.sides → Due judged outbox
      silent_due judged outbox o n r =
          nothing start ms (said (judged_note serial judged)) (rest outbox) (kind_handed is_push_note push_kind 0 0 outbox v ∙ pushes_none 0 outbox.sides v o n)
          (kind_handed is_ran_note ran_kind 0 0 outbox v ∙ runs_none 0 outbox.sides v r)

      no_sides : (judged : Judged) (outbox : OutboxState) → AreOthers outbox.sides → outbox.sides ≡ [] → Due judged outbox
      no_sides judged outbox o e = silent_due judged outbox o (subst NoPushes (sym e) tt) (subst AreRunless (sym e) tt)

      -- of an agent
      module _ (p : Packet) (label : LabelParts) (place : ℕ) (layer : Layer Purpose) (e : Finds (of_response p label (Some (purposes.Agent place))) layer) where
        abbrev answered : Finding Purpose
        answered = of_response p label (Some (purposes.Agent place))

        abbrev outbox : OutboxState
        outbox = (Given answered layer).1.outbox

        module _ (login : Login) (served : served_login node place ≡ Some login) (quiet : AreQuiet outbox.sides) (first : List (wire_calls.Call Purpose)) where
          abbrev is_new : Bool
          is_new = came (disk_at disks login.unit) (disk_at (Given answered layer).1.disks login.unit)

          -- the load of the turn, by its runs
          abbrev loaded : Option Load
          loaded = load_in T wire (rest outbox)

          runs_are : loaded ≡ load_in T wire (of_kind is_ran_note (notes_told 0 outbox.sides v))
          runs_are = load_same T wire (rest outbox) ∙ ap (load_in T wire) (kind_handed is_ran_note ran_kind 0 0 outbox v)

          -- none came where nothing ran
          still_none : NoneRan node one run s.media → is_new ≡ false
          still_none n =
              let which = which_in (desk_at node place) (header_in p).source label in
              let none : ran_for node run disks place p (Some login) which ≡ None =
              sym (ap (λ (x : Option Login). ran_for node run disks place p x which) served) ∙ (sym (ap (λ (g : Finding Purpose × Layer Purpose). ran_as node run disks g.0) e) ∙ n.ran) in
              ap (λ left. came (disk_at disks login.unit) (disk_at left login.unit)) (replied_left p label place layer (Some login) which served refl)
              ∙ still_came p label place layer login which served refl none

          load_none : NoneRan node one run s.media → AreRunless outbox.sides → loaded ≡ load_if is_new login.unit place
          load_none n r =
              runs_are ∙ (ap (load_in T wire) (runs_none 0 outbox.sides v r) ∙ sym (ap (λ b. load_if b login.unit place) (still_none n)))

          abbrev place_of : Finding Purpose → ℕ
          place_of (of_response q own (Some (purposes.Agent k))) = k
          place_of finding = place

          load_ran : (k orb : ℕ) (cdb payload : List ℕ) (outcome : Outcome) (more : List Side) → RanBy node one run s.media k orb cdb payload outcome → AreRunless more → outbox.sides ≡ sides.Ran k orb cdb payload outcome ∷ more → loaded ≡ load_if is_new login.unit place
          load_ran k orb cdb payload outcome more ran r is =
              let here_place : k ≡ place = ap place_of (sym ran.found ∙ ap (λ (g : Finding Purpose × Layer Purpose). g.0) e) in
              let there = served_there node k ran.login ran.served in
              let small : k < 8 = (let l = within node.logins.places k ran.login there in let c = good.table.sound.size in omega (arith, l, c)) in
              let seat = live_login node good k small (plain_in node.units disks ran.login.unit) run ran.which (answer_in ran.packet) outcome ran.ran in
              let same_seat : seat.login ≡ ran.login = same_some seat.login ran.login (sym seat.is ∙ there) in
              let live = subst (λ (l : Login). is_live l ≡ true) same_seat seat.live in
              let same_login : ran.login ≡ login = same_some ran.login login (sym ran.served ∙ (ap (served_login node) here_place ∙ served)) in
              let left : (Given answered layer).1.disks ≡ (replied_by run k (answer_in ran.packet) (Some ran.login) (Some ran.which) (its ran.packet ran.label k (judging_step node.layer one.generation one.bytes).1)).disks =
              sym (left_as answered layer e) ∙ (left_as (of_response ran.packet ran.label (Some (purposes.Agent k))) (judging_step node.layer one.generation one.bytes).1 (pair_is (judging_step node.layer one.generation one.bytes) (of_response ran.packet ran.label (Some (purposes.Agent k))) ran.found)
              ∙ replied_left ran.packet ran.label k (judging_step node.layer one.generation one.bytes).1 (Some ran.login) (Some ran.which) ran.served ran.is_which) in
              let new : came (disk_at disks ran.login.unit) (disk_at (Given answered layer).1.disks ran.login.unit) ≡ moves_disc cdb (check_in outcome) (plain_in node.units disks ran.login.unit) =
              ap (λ ds. came (disk_at disks ran.login.unit) (disk_at ds ran.login.unit)) left
              ∙ (ran_came ran.packet ran.label k (judging_step node.layer one.generation one.bytes).1 ran.login ran.which outcome ran.ran
              ∙ ap (λ c. moves_disc c (check_in outcome) (plain_in node.units disks ran.login.unit)) (sym ran.cdb_is)) in
              runs_are
              ∙ (ap (λ told. load_in T wire (of_kind is_ran_note (notes_told 0 told v))) is
              ∙ (ap (load_in T wire) (run_noted 0 k orb cdb payload outcome more v r)
              ∙ (load_is k ran.login there live cdb (check_in outcome) (holder v k) (same k)
              ∙ (ap (λ b. load_if b ran.login.unit k) (sym new)
              ∙ (ap (λ (l : Login). load_if (came (disk_at disks l.unit) (disk_at (Given answered layer).1.disks l.unit)) l.unit k) same_login ∙ ap (λ n. load_if is_new login.unit n) here_place)))))
            where
              same_some : (a b : Login) → Some a ≡ Some b → a ≡ b
              same_some a b e = cc

              pair_is : (x : Finding Purpose × Layer Purpose) (g : Finding Purpose) → x.0 ≡ g → x ≡ (g, x.1)
              pair_is (h, layer) g e = ap (λ y. (y, layer)) e

          -- who brought a disc is live
          live_ran : (k orb : ℕ) (cdb payload : List ℕ) (outcome : Outcome) → RanBy node one run s.media k orb cdb payload outcome → is_live login ≡ true
          live_ran k orb cdb payload outcome ran =
              let here_place : k ≡ place = ap place_of (sym ran.found ∙ ap (λ (g : Finding Purpose × Layer Purpose). g.0) e) in
              let there = served_there node k ran.login ran.served in
              let small : k < 8 = (let l = within node.logins.places k ran.login there in let c = good.table.sound.size in omega (arith, l, c)) in
              let seat = live_login node good k small (plain_in node.units disks ran.login.unit) run ran.which (answer_in ran.packet) outcome ran.ran in
              let mine : Some seat.login ≡ Some login = sym seat.is ∙ (there ∙ (sym ran.served ∙ (ap (served_login node) here_place ∙ served))) in
              let same : seat.login ≡ login = cc in
              subst (λ (l : Login). is_live l ≡ true) same seat.live

          pub loader_live : Runs outbox.sides → is_new ≡ true → is_live login ≡ true
          loader_live (of_none n r) f = untrue (sym (still_none n) ∙ f)
          loader_live (of_run k orb cdb payload outcome more ran r is) f = live_ran k orb cdb payload outcome ran

          pub load_of : Runs outbox.sides → loaded ≡ load_if is_new login.unit place
          load_of (of_none n r) = load_none n r
          load_of (of_run k orb cdb payload outcome more ran r is) = load_ran k orb cdb payload outcome more ran r is

          announced_due : Announces is_new login.unit place node first outbox → Runs outbox.sides → Due judgements.Got outbox
          announced_due tells runs =
              let behind = layer_after node.layer (tells.steps ++ first) in
              let pushes = (announced_if is_new login.unit place node behind).0 in
              let front = tells.told.before in
              ap (map hearer)
              (kind_handed is_push_note push_kind 0 0 outbox v
              ∙ (ap (λ told. of_kind is_push_note (notes_told 0 told v)) tells.told.told_is
              ∙ last_noted H 0 front pushes v same (quiet_before front pushes (subst AreQuiet tells.told.told_is quiet)) tells.told.plain (if_pushes is_new login.unit place node behind)))
              ∙ (told_if serial login.unit place is_new behind
              ∙ sym (ap (λ load. names serial login.unit place (logins_for T load)) (load_of runs)))

        agent_due : (there : Option Login) → served_login node place ≡ there → AreOthers outbox.sides → AreQuiet outbox.sides → (first : List (wire_calls.Call Purpose)) → agent_tells there place node first disks (Given answered layer).1.disks outbox → Runs outbox.sides → Due judgements.Got outbox
        agent_due None served o q first tells runs = no_sides judgements.Got outbox o tells
        agent_due (Some login) served o q first tells runs = announced_due login served q first tells runs

      -- whatever it is found to be
      abbrev is_agent : Finding Purpose → Bool
      is_agent (of_response p label (Some (purposes.Agent place))) = true
      is_agent finding = false

      runless_for : (f : Finding Purpose) (layer : Layer Purpose) → Finds f layer → is_agent f ≡ false → (told : List Side) → Runs told → AreRunless told
      runless_for f layer e not_agent told (of_none n r) = r
      runless_for f layer e not_agent told (of_run k orb cdb payload outcome more ran r is) =
          absurd (let no : true ≡ false = sym (ap is_agent ran.found) ∙ (ap (λ (g : Finding Purpose × Layer Purpose). is_agent g.0) e ∙ not_agent) in cc)

      operation_due : (layer : Layer Purpose) (source : Option ℕ) (answer : Answer) (outbox : OutboxState) → AreOthers outbox.sides → operation_tells source answer node outbox.sides → AreRunless outbox.sides → Due judgements.Got outbox
      operation_due layer None answer outbox o tells r = no_sides judgements.Got outbox o tells
      operation_due layer (Some source) answer outbox o tells r =
          let x = manager_reply node.manager node.logins node.keys answer in
          let changed = with_manager node (x.1.0, x.1.1) in
          silent_due judgements.Got outbox o (first_none (decision_changes x.0.decided x.0.effect changed) outbox.sides (decision_silent x.0.decided x.0.effect changed) tells) r

      pub agent_quiet : (p : Packet) (label : LabelParts) (place : ℕ) (layer : Layer Purpose) (lives : Lives) → From lives layer → AreQuiet (Given (of_response p label (Some (purposes.Agent place))) layer).1.outbox.sides
      unfolding concluded
      agent_quiet p label place layer lives from =
          (calm.replies lives (record node { layer = layer }) run place (header_in p).source label (answer_in p) (with_layer layer all) (begins node good layer lives from)).quiet

      -- what is handed out tells what it may, and is due
      abbrev IsDue : Finding Purpose → Judged → Whole → Type 0
      IsDue f judged left =
          AreOthers left.outbox.sides → (first : List (wire_calls.Call Purpose)) → delivery_tells f node first disks left.disks left.outbox → Runs left.outbox.sides → Due judged left.outbox

      response_due : (p : Packet) (label : LabelParts) (purpose : Option Purpose) (layer : Layer Purpose) → Finds (of_response p label purpose) layer → is_some (reply_kind p) ≡ true
          → IsDue (of_response p label purpose) judgements.Got (Given (of_response p label purpose) layer).1
      response_due p label None layer e kind o first tells runs = no_sides judgements.Got (Given (of_response p label None) layer).1.outbox o tells
      response_due p label (Some purposes.Unsolicited) layer e kind o first tells runs = no_sides judgements.Got (Given (of_response p label (Some purposes.Unsolicited)) layer).1.outbox o tells
      response_due p label (Some purposes.Management) layer e kind o first tells runs =
          operation_due layer (source_in node.manager.operation) (answer_in p) (Given (of_response p label (Some purposes.Management)) layer).1.outbox o tells (runless_for (of_response p label (Some purposes.Management)) layer e refl _ runs)
      response_due p label (Some (purposes.Agent place)) layer e kind o first tells runs =
          let c = closing_known node.layer layer good.lives one.generation one.bytes p label (Some (purposes.Agent place)) good.mid.known e kind in
          let lives = live_on (wire_calls.closed (header_in p).source label c.kind (Some (purposes.Agent place))) good.lives in
          agent_due p label place layer e (served_login node place) refl o (agent_quiet p label place layer lives (from_self node good layer lives c.known)) first tells runs

      by_finding : (f : Finding Purpose) (layer : Layer Purpose) → Finds f layer → IsFound f node.layer layer one.bytes → IsDue f (Given f layer).0 (Given f layer).1
      by_finding of_generation layer e f o first tells runs = no_sides (judgements.Ignored causes.Generation) (Given of_generation layer).1.outbox o tells
      by_finding of_grammar layer e f o first tells runs = no_sides (judgements.Ignored causes.Grammar) (Given of_grammar layer).1.outbox o tells
      by_finding of_label layer e f o first tells runs = no_sides (judgements.Ignored causes.Label) (Given of_label layer).1.outbox o tells
      by_finding (of_again p rcode) layer e f o first tells runs = no_sides (judgements.Ignored causes.Again) (Given (of_again p rcode) layer).1.outbox o tells
      by_finding (of_response p label purpose) layer e f o first tells runs = response_due p label purpose layer e f.kind o first tells runs
      by_finding (of_request p) layer e f o first tells runs =
          let b = is_barred node p in
          let x = Given (of_request p) layer in
          silent_due x.0 x.1.outbox o (first_none (request_changes b p node) x.1.outbox.sides (request_silent b p node) tells) (runless_for (of_request p) layer e refl x.1.outbox.sides runs)

      pub heard_due : MayTell run one node s.media → AreOthers X.1.outbox.sides → Due X.0 X.1.outbox
      unfolding received
      heard_due may o =
          let f = judging_step node.layer one.generation one.bytes in
          by_finding f.0 f.1 refl (found_as node.layer one.generation one.bytes) o (first_of (receives run disks one.generation one.bytes)) (side_law.deliveries run disks one.generation one.bytes node)
          (runs_tell node good.mid.size good.table.sound one run s.media may)

-- ---- the turns of the calls
line_due : (start : List Disk) (line : ℕ) (s : Scene) (past : List Moment) (event : Event) (rest : List Note) → Brings line s event rest → AnnouncesWhereDue start (turn past (asked line event) rest)
line_due start line s past event rest (calls is_event c) = refl
line_due start line s past event rest (refuses is_event number) = refl
line_due start line s past event rest (refuses_action i action number e) = refl
line_due start line s past event rest (resets physical generation e) = refl
line_due start line s past event rest (loses serial) = refl
line_due start line s past event rest (sets_key unit key) = refl
line_due start line s past event rest (injects i bytes serial generation from to) = refl

module _ (units ready : ℕ) (has : 0 < units) (start : List Disk) where
  own_due : (past : List Moment) (first : Moment) (node weight : ℕ) (outbox : OutboxState) (w : WorldState) → AreOwn outbox.sides → AnnouncesWhereDue start (turn past first (handed node weight outbox w))
  own_due past first node weight outbox w own =
      nothing start past first (handed node weight outbox w) (own_handed is_push_note push_kind own_push node weight outbox w own) (own_handed is_ran_note ran_kind own_ran node weight outbox w own)

  still_due : (past : List Moment) (first : Moment) (outbox : OutboxState) (w : WorldState) → AreOthers outbox.sides → NoPushes outbox.sides → AreRunless outbox.sides → AnnouncesWhereDue start (turn past first (handed 0 0 outbox w))
  still_due past first outbox w o n r =
      nothing start past first (handed 0 0 outbox w) (kind_handed is_push_note push_kind 0 0 outbox w ∙ pushes_none 0 outbox.sides w o n) (kind_handed is_ran_note ran_kind 0 0 outbox w ∙ runs_none 0 outbox.sides w r)

  silent_call : (past : List Moment) (first : Moment) (outbox : OutboxState) (w : WorldState) → AreOthers outbox.sides → AreSilent outbox.sides → AnnouncesWhereDue start (turn past first (handed 0 0 outbox w))
  silent_call past first outbox w o h = still_due past first outbox w o (silent_none outbox.sides h) (silent_runless outbox.sides h)

  pub announced_cases : Cases units ready start (AnnouncesWhereDue start)
  announced_cases = record {
    heard = λ past s serial again run one found zero_to may others here behind judged.
        let x = received run one.generation one.bytes (whole_of s.world.target s.media) in
        heard_due units ready has start past s here serial one found run (with_note (judged_note serial x.0) (marked serial again (with_target x.1.node s.world))) (λ p. marked_holder serial again (with_target x.1.node s.world) p) may others;
    heard_own = λ past s serial again one i found to_is inside own here behind judged.
        own_due (hist past s.world) (said (judged_note serial (receive_step one.generation one.bytes empty_outbox (initiator_at s.world i)).0)) (suc i) 0 _ _ own;
    late = λ past s serial request done t found node_is e others here behind judged.
        still_due (hist past s.world) (said (notes.TimedOut serial)) t.outbox _ others
        (subst (λ (x : Result (Unit {0}) Stale × target.Scene). NoPushes x.1.outbox.sides) e (plain_none _ (side_law.expiries request.peer request.label s.world.target)))
        (subst (λ (x : Result (Unit {0}) Stale × target.Scene). AreRunless x.1.outbox.sides) e (lapse_runless request.peer request.label s.world.target));
    late_own = λ past s serial request i outbox state found node_is inside e own here behind judged. own_due (hist past s.world) (said (notes.TimedOut serial)) (suc i) 0 outbox _ own;
    sees = λ past s others here behind judged.
        let g = s.world.generations.latest in
        silent_call (hist past s.world) (said (notes.Seen 0 g.generation)) _ _ others (subst AreSilent (sym (side_law.sights g.generation (id_of g 0) s.world.target)) (sight_silent g.generation s.world.target));
    sees_own = λ past s i inside own here behind judged. own_due (hist past s.world) (said (notes.Seen (suc i) s.world.generations.latest.generation)) (suc i) 0 _ _ own;
    ticks = λ past s others here behind judged.
        silent_call (hist past s.world) (said notes.Tick) _ _ others (subst AreSilent (sym (side_law.seconds s.world.target)) (expired_silent (expired_ids s.world.target.logins.places)));
    ends = λ past s done here behind. nothing start (hist past s.world) (said (end_note done)) [] refl refl;
    acts = λ past s line i action outbox state inside e own here behind. own_due (hist past s.world) (asked line (events.Act i action)) (i + 1) (weight_in action) outbox _ own;
    lines = λ past s line event rest behind brings fresh here there. line_due start line s (hist past s.world) event rest brings;
    begins = λ line initiators is_ready. refl;
  }

pub announced_law : AnnouncedLaw
announced_law = of_every_run AnnouncesWhereDue (λ units ready start has. announced_cases units ready has start)
