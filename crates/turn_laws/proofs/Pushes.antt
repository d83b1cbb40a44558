-- Each turn of every run has the notes of unsolicited statuses that the media law has: a login that hears of a disc is sent one where its write finds a label and none is pending to its
-- node, and both are so at its place, behind the requests of the agent that loaded the disc and the statuses to other nodes, as they are by the terms behind the turn's first note.
use Rattle.std.proofs.Common.{arith, ◌≡◌, ◌∙◌, refl, sym, ap, subst, inl, inr, ℕ, suc, ◌+◌, ◌<◌, ◌≤◌, ◌^◌, ◌==◌, ◌&&◌, ◌||◌, not, nat_eq, is_some, Bool, true, false, List, [], ◌∷◌, ◌++◌, length, map, Option, Some, None, Result, Ok}
use Rattle.std.specs.List.{list_any}
use Rattle.std.proofs.lemmas.Bool.Decides.{nat_tests}
use Rattle.async_packet.specs.Labels.{LabelParts}
use Rattle.async_packet.specs.Packet.{Packet, header_in}
use Rattle.async_packet.specs.Reading.{reading}
use Rattle.bus_transactions.specs.Bare.{bare}
use Rattle.bus_transactions.specs.Judging.{AreJudged}
use Rattle.bus_transactions.specs.Wire.{as_sending}
use Rattle.bus_transactions.proofs.FitSteps.{judges_same}
use Rattle.bus_transactions.proofs.Fits.{request_fits}
use Rattle.bus_transactions.specs.Fitting.{FitsRequest}
use Rattle.bus_transactions.proofs.Rooms.{HasRoom}
use Rattle.label_table.specs.Bodies.{Body}
use Rattle.label_table.specs.History as wire_calls
use Rattle.label_table.specs.Layer.{Finding, Layer, asking_step, disowning_step, judging_step, of_again, of_generation, of_grammar, of_label, of_request, of_response}
use Rattle.label_table.specs.Peers.{peer_of}
use Rattle.label_table.specs.declared.judgement.Asked.{Asked}
use Rattle.login_table.specs.Table.{Table, expired_ids, is_live, place_at}
use Rattle.login_table.specs.declared.login.Login.{Login}
use Rattle.packet_store.specs.Kept.{found_sent}
use Rattle.packet_store.specs.declared.sent.Sent.{Sent}
use Rattle.rbc_disk.specs.Disk.{Disk, disk_at}
use Rattle.rbc_disk.specs.Runs.{Told}
use Rattle.sbp_bus.specs.Generations.{id_of, topology_at}
use Rattle.sbp_bus.specs.Packets.{end_note, judged_note}
use Rattle.sbp_bus.specs.Places.{or_nobody}
use Rattle.sbp_bus.specs.declared.places.Holder.{Holder}
use Rattle.sbp_base.specs.Update.{upd}
use Rattle.sbp_initiator.specs.Receiving.{receive_step}
use Rattle.sbp_initiator.specs.Seeing.{see_step}
use Rattle.orb_layout.specs.Replies.{Answer}
use Rattle.mgmt_agent.specs.Machine.{reply_step as manager_reply, source_in}
use Rattle.label_table.specs.Requests.{reply_kind}
use Rattle.label_table.specs.declared.reply.Stale.{Stale}
use Rattle.rbc_disk.specs.Held.{Held as Media}
use Rattle.sbp_journal.specs.Outgoings.{OutboxState, empty_outbox}
use Rattle.sbp_journal.specs.Run.{Moment, asked, said}
use Rattle.sbp_journal.specs.Wire.{Terms, terms}
use Rattle.sbp_journal.specs.declared.cause.Cause.TheVariants as causes
use Rattle.sbp_journal.specs.declared.cause.Judged.{Judged}
use Rattle.sbp_journal.specs.declared.cause.Judged.TheVariants as judgements
use Rattle.sbp_journal.specs.declared.event.Event.{Event}
use Rattle.sbp_journal.specs.declared.event.Event.TheVariants as events
use Rattle.sbp_journal.specs.declared.note.Note.{Note}
use Rattle.sbp_journal.specs.declared.note.Note.TheVariants as notes
use Rattle.sbp_journal.specs.declared.outbox.Outgoing.{Outgoing}
use Rattle.sbp_journal.specs.declared.side.Side.{Side}
use Rattle.sbp_laws.specs.Agents.{target_before, wire_after}
use Rattle.sbp_laws.specs.Agents as laws
use Rattle.sbp_laws.specs.Management.{call_of, no_call}
use Rattle.sbp_laws.specs.SentRequests.{behind_answer}
use Rattle.sbp_laws.specs.MediaLaw.{Load, is_pending, is_push_note, load_if, load_in, logins_for, logins_told, may_push, push_body, push_notes, push_requests}
use Rattle.sbp_laws.specs.NoteKinds.{of_kind}
use Rattle.sbp_laws.specs.Packets.{finds_label}
use Rattle.sbp_laws.specs.Targets.{Target, initiator_with, over, place_on, target_at}
use Rattle.sbp_laws.specs.Turns.{EachTurn, Turn, turn}
use Rattle.sbp_target.specs.Calls.{receives}
use Rattle.sbp_target.specs.Histories.Layers.{first_of, layer_after}
use Rattle.sbp_target.specs.Histories.Sides.{Announces, AreLast, agent_tells, announced_from, announced_if, decision_changes, delivery_tells, operation_tells, request_changes}
use Rattle.sbp_target.specs.Management.{with_manager}
use Rattle.sbp_target.specs.Nodes.{NodeState, desk_at, login_at}
use Rattle.sbp_target.specs.Nodes as target
use Rattle.sbp_target.specs.Receiving.{answer_in, concluded, received, received_as, seen, ticked, with_layer}
use Rattle.sbp_target.specs.Replies.{Whole, came, served_login}
use Rattle.sbp_target.specs.Serving.{is_barred}
use Rattle.sbp_target.specs.Units.{hears, is_pending as is_listed}
use Rattle.sbp_target.specs.declared.purpose.Purpose.{Purpose}
use Rattle.sbp_target.specs.declared.purpose.Purpose.TheVariants as purposes
use Rattle.sbp_target.proofs.Histories.Calling.{Good}
use Rattle.sbp_target.proofs.Histories.Found.{IsFound, found as found_as}
use Rattle.sbp_target.proofs.Histories.Primitives.{closing_known, live_on}
use Rattle.sbp_target.proofs.Histories.Told.{side_law}
use Rattle.sbp_world.specs.Agents.Holders.{IsLiveOf}
use Rattle.sbp_world.specs.Agents.Management.Offices.{Agrees, office_of}
use Rattle.sbp_world.specs.Delivering.{MayTell, faults_after, marked, whole_of}
use Rattle.sbp_world.specs.FitTarget.{FitsLogin}
use Rattle.sbp_world.specs.Handing.{handed_out}
use Rattle.sbp_world.specs.Hosts.Handing.{AreOthers}
use Rattle.sbp_world.specs.Sending.{sent_all}
use Rattle.sbp_world.specs.Telling.{holder}
use Rattle.sbp_world.specs.Lines.{weight_in}
use Rattle.sbp_world.specs.Wire.Wires.{layers_of}
use Rattle.sbp_world.specs.Worlds.{Scene, WorldState, initiator_at, with_note, with_target}
use Rattle.sbp_world.proofs.Agents.CrewFirsts.{agrees}
use Rattle.sbp_world.proofs.Agents.Management.Calm.{AreQuiet}
use Rattle.sbp_world.proofs.Agents.Management.Delivery.{marked_generations}
use Rattle.sbp_world.proofs.Agents.Management.Holding.{good_of, known_id, was_sent}
use Rattle.sbp_world.proofs.Agents.Management.Still.{hist}
use Rattle.sbp_world.proofs.Common.{and_first, and_second, equal, untrue}
use Rattle.sbp_world.proofs.Formed.{AreOwn}
use Rattle.sbp_world.proofs.Lists.RunTells.{NoneRan, RanBy, TellsRun, delivery_tells as runs_tell, served_there}
use Rattle.sbp_world.proofs.Wire.Alike.{all_alike}
use Rattle.sbp_world.proofs.Wire.Asks.{upd_own}
use Rattle.sbp_world.proofs.Wire.Bus.{holds}
use Rattle.sbp_world.proofs.Wire.Holding.{latest_small}
use Rattle.turn_laws.specs.Alone.{PushesAlone}
use Rattle.turn_laws.specs.Announced.{AnnouncesWhereDue, hearer}
use Rattle.turn_laws.specs.Pushes.{PushesLaw, PushesWhereDue}
use Rattle.turn_laws.specs.Runs.{OfEveryRun}
use Rattle.turn_laws.proofs.Alone.{alone_cases, any_none, first_kept_here}
use Rattle.turn_laws.proofs.AnnouncedLayers.{AnnouncesOn, reply_tells}
use Rattle.turn_laws.proofs.Announcing.{agent_quiet, announced_cases, got_ids, got_initiator, hearer_is, load_of, loader_live, own_push, push_kind, second_of, told_same}
use Rattle.turn_laws.proofs.Calls.{Brings, CarriedCases, Cases, calls, injects, loses, refuses, refuses_action, resets, sets_key}
use Rattle.turn_laws.proofs.Cuts.{marked_holder}
use Rattle.turn_laws.proofs.EachTurns.{brought_law}
use Rattle.turn_laws.proofs.FoundLabels.{peer_is, response_finds}
use Rattle.turn_laws.proofs.Gots.{agent_calls}
use Rattle.turn_laws.proofs.Handed.{handed, notes_sent, notes_told}
use Rattle.turn_laws.proofs.KindNotes.{kind_handed, own_handed}
use Rattle.turn_laws.proofs.LaterTerms.{Pushes}
use Rattle.turn_laws.proofs.ManagedSides.{from_self}
use Rattle.sbp_world.proofs.Agents.OtherLabels.{AlikeAt, Goes, Roomy, alike_self, goes_asked, goes_disowned, goes_finds, room_asked, room_disowned}
use Rattle.turn_laws.proofs.Pass.{of_every_carried}
use Rattle.turn_laws.proofs.PendingHeard.{agent_not, base, good as heard_good}
use Rattle.turn_laws.proofs.PendingKept.{Id, Pending}
use Rattle.turn_laws.proofs.PendingTurns.{Kept, note_pushes}
use Rattle.turn_laws.proofs.Places.{Place}
use Rattle.turn_laws.proofs.PushNotes.{AreDue, Holds, notes_from}
use Rattle.turn_laws.proofs.PushSerials.{Apart, Has}
use Rattle.turn_laws.proofs.PushSides.{AreSilent, NoPushes, if_pushes, decision_silent, expired_silent, first_none, last_noted, plain_none, pushes_in, pushes_none, quiet_before, request_silent, sight_silent, silent_none}
use Rattle.turn_laws.proofs.RequestLabels.{AreOf, layer_spells}
use Rattle.turn_laws.proofs.SentAnswers.{none_due}
use Rattle.turn_laws.proofs.SentOwn.{AreFor}
use Rattle.turn_laws.proofs.SerialsStay.{ends_turn}
use Rattle.turn_laws.proofs.StatusCalls.{Got, Hears, hears as hears_all}
use Rattle.turn_laws.proofs.TurnSends.{AreSentFor, all_alone, notes_both, response_is, sent_for}
use Rattle.turn_laws.proofs.TurnWires.{Judges, alone, judged_stands, repeated}
use Rattle.sbp_world.proofs.FitTarget.Pass.{block_few, block_bytes}

-- ---- the notes of a turn are due, and the last of its packets are theirs: none, or those of a turn that is not for the operation
abbrev pub requests_due : List Disk → Turn → List laws.Request
requests_due start t = let T = target_before start t in push_requests T (wire_after t) (logins_told T t)

-- these are the last ones
pub record AreLastFor (packets : List Note) (wants : List laws.Request) : Type 0 where
  pub first : List Note
  pub last : List Note
  pub is : packets ≡ first ++ last
  pub are : AreFor 0 last wants

pub data SendsLast (start : List Disk) (t : Turn) : Type 0 where
  sends_none : requests_due start t ≡ [] → SendsLast start t
  sends_some : (serial : ℕ) → t.start ≡ said (notes.Got serial) → call_of (target_before start t) t ≡ no_call → AreLastFor (behind_answer start t) (requests_due start t) → SendsLast start t

abbrev pub PushesAreSent : List Disk → Turn → Type 0
PushesAreSent start t = PushesWhereDue start t × SendsLast start t

-- ---- where nothing is told of a disc
names_none : (after : Terms) (logins : List Login) → [] ≡ map (λ login. initiator_with after login.node) logins → logins ≡ []
names_none after [] e = refl
names_none after (login ∷ logins) e = absurd (let no : [] ≡ initiator_with after login.node ∷ map (λ (other : Login). initiator_with after other.node) logins = e in cc)

pub nothing_due : (start : List Disk) (t : Turn) → of_kind is_push_note t.rest ≡ [] → AnnouncesWhereDue start t → PushesAreSent start t
nothing_due start t e h =
    let T = target_before start t in
    let none = names_none (wire_after t) (logins_told T t) (sym (ap (map hearer) e) ∙ h) in (e ∙ ap (push_notes T (wire_after t)) (sym none), sends_none (ap (push_requests T (wire_after t)) none))

-- ---- one node more among those that have one pending
other_listed : (p y : ℕ) (xs : List ℕ) → nat_eq p y ≡ false → is_listed p (xs ++ y ∷ []) ≡ is_listed p xs
other_listed p y [] e = ap (λ b. b || false) e
other_listed p y (x ∷ xs) e = ap (λ b. (p == x) || b) (other_listed p y xs e)

any_true : (f : ℕ → Bool) (xs : List ℕ) (r : ℕ) → Has xs r → f r ≡ true → list_any f xs ≡ true
any_true f [] r h e = absurd h
any_true f (x ∷ xs) r (inl same) e = ap (λ b. b || list_any f xs) (ap f same ∙ e)
any_true f (x ∷ xs) r (inr h) e = by (f x) (any_true f xs r h e)
  where
    by : (b : Bool) → list_any f xs ≡ true → (b || list_any f xs) ≡ true
    by true g = refl
    by false g = g

-- the IDs of the nodes stay as a packet is got
got_id : (serial : ℕ) (ms : List Moment) (n : ℕ) → Id (terms (said (notes.Got serial) ∷ ms)) n ≡ Id (terms ms) n
got_id serial ms n =
    let t = terms ms in
    let g = got_ids (t.sent serial) serial t in
    ap (λ (ids : ℕ → ℕ → ℕ). ids ((terms (said (notes.Got serial) ∷ ms)).generation 0) n) g.0 ∙ ap (λ (generation : ℕ → ℕ). t.ids (generation 0) n) g.1

-- ---- at a place
module _ (units ready : ℕ) (has : 0 < units) (start : List Disk) (past : List Moment) (s : Scene) (here : Place units ready start past s) (serial : ℕ) where
  abbrev w : WorldState
  w = s.world

  abbrev ms : List Moment
  ms = hist past w

  abbrev node : NodeState
  node = w.target

  abbrev nodes : ℕ
  nodes = length w.initiators

  abbrev t : Terms
  t = terms ms

  abbrev after : Terms
  after = terms (said (notes.Got serial) ∷ ms)

  abbrev T : Target
  T = over (target_at start ms)

  abbrev H : ℕ → Holder
  H p = holder w p

  abbrev row : ℕ → ℕ
  row = t.ids (t.generation 0)

  -- a live login is of an initiator
  module _ (p : ℕ) (login : Login) (e : login_at node p ≡ Some login) (live : is_live login ≡ true) where
    abbrev i : ℕ
    i = (here.held.held p login e).holder.initiator

    of : IsLiveOf t nodes (target_at start ms) p login i
    of = (here.held.held p login e).live live

    inside : suc i ≤ nodes
    inside = let f : i < nodes = of.of.small in omega (arith, f)

    few : suc i < 5
    few = let f = here.holds.sound.stands.is.few in let g = inside in omega (arith, f, g)

    id_is : row (suc i) ≡ login.node
    id_is = ap row (let z : suc i ≡ i + 1 = omega arith in z) ∙ of.of.node_is

    holder_is : (H p).initiator ≡ i
    holder_is = ap (λ o. (or_nobody o).initiator) (here.held.held p login e).there

    named : (H p).initiator ≡ initiator_with after login.node
    named = hearer_is units ready has start past s here p login e live ∙ sym (got_initiator serial ms login.node)

    after_is : initiator_with after login.node ≡ i
    after_is = sym named ∙ holder_is

    on_place : place_on (target_at start ms) login.unit login.node ≡ p
    on_place = ap (place_on (target_at start ms) login.unit) (sym of.of.node_is) ∙ of.place_is

  -- two of a unit are of two nodes
  apart : (p q : ℕ) (a b : Login) → login_at node p ≡ Some a → is_live a ≡ true → login_at node q ≡ Some b → is_live b ≡ true → a.unit ≡ b.unit → (p ≡ q → ⊥) → nat_eq a.node b.node ≡ false
  apart p q a b ea la eb lb unit other = by (nat_eq a.node b.node) refl
    where
      by : (c : Bool) → nat_eq a.node b.node ≡ c → c ≡ false
      by false f = refl
      by true f =
          let same : a.node ≡ b.node = grind (arith, nat_tests) in
          absurd (other (sym (on_place p a ea la) ∙ (ap (λ u. place_on (target_at start ms) u a.node) unit ∙ (ap (place_on (target_at start ms) b.unit) same ∙ on_place q b eb lb))))

  -- ---- behind the response to an agent
  abbrev Responds : Sent → Packet → LabelParts → (place : ℕ) → Layer Purpose → Type 0
  Responds one pkt label place layer = judging_step node.layer one.generation one.bytes ≡ (of_response pkt label (Some (purposes.Agent place)), layer)

  abbrev HeldThere : Layer Purpose → Type 0
  HeldThere layer = Pending nodes after (Pushes start (said (notes.Got serial) ∷ ms)) layer node.pending

  module _ (run : Option Told) (one : Sent) (found : found_sent serial w.store.kept ≡ Some one) (zero_to : one.to ≡ 0) (pkt : Packet) (label : LabelParts) (place : ℕ) (layer : Layer Purpose) (e : Responds one pkt label place layer) (base : HeldThere layer) where
    -- whom one is pending to has it by the terms too
    listed_same : (p : ℕ) (login : Login) (there : login_at node p ≡ Some login) (live : is_live login ≡ true) → is_listed login.node node.pending ≡ list_any (is_pending after (suc (initiator_with after login.node))) T.pushes
    listed_same p login there live =
        by (is_listed login.node node.pending) refl
        ∙ (ap (λ xs. list_any (is_pending after (suc (i p login there live))) xs) (sym pushes_are)
        ∙ ap (λ j. list_any (is_pending after (suc j)) T.pushes) (sym (after_is p login there live)))
      where
        n : ℕ
        n = suc (i p login there live)

        l : n ≤ nodes
        l = inside p login there live

        pushes_are : T.pushes ≡ Pushes start (said (notes.Got serial) ∷ ms)
        pushes_are = (ends_turn (Apart 0) refl (target_at start ms)).pushes ∙ sym (note_pushes start (notes.Got serial) ms tt)

        ids_are : Id after n ≡ login.node
        ids_are = got_id serial ms n ∙ id_is p login there live

        by : (b : Bool) → is_listed login.node node.pending ≡ b → b ≡ list_any (is_pending after n) (Pushes start (said (notes.Got serial) ∷ ms))
        by true f = let x = base.same n l (ap (λ j. is_listed j node.pending) ids_are ∙ f) in sym (any_true (is_pending after n) (Pushes start (said (notes.Got serial) ∷ ms)) x.0 x.1.0 x.1.1)
        by false f = sym (any_none (is_pending after n) (Pushes start (said (notes.Got serial) ∷ ms)) (λ r h g. untrue (sym f ∙ (ap (λ j. is_listed j node.pending) (sym ids_are) ∙ base.pends n r l h g))))

    -- the layer has room, by the nodes' IDs
    roomy : Roomy row (bare layer)
    roomy =
        let stands = subst (Judges units ready start past s here serial one found zero_to) e (judged_stands units ready start past s here serial one found zero_to) in
        let x : Terms = terms stands.wire.past in
        let v = alone units ready start past s here serial one found zero_to in
        let own : upd (layers_of v) one.to (bare layer) 0 ≡ bare layer = ap (λ n. upd (layers_of v) n (bare layer) 0) zero_to ∙ upd_own (layers_of v) 0 (bare layer) in
        let layer_is : stands.wire.layer 0 ≡ bare layer = stands.is.layers_are 0 (omega arith) ∙ own in
        let in_it = (holds stands.wire stands.reached).nodes 0 in
        let past_is : x ≡ terms (said (notes.Got serial) ∷ repeated units ready start past s here serial one found zero_to) = ap terms stands.is.past_is in
        let same = got_ids (t.sent serial) serial (record t { repeats = true }) in
        let ids_are : x.ids ≡ t.ids = ap (λ (y : Terms). y.ids) past_is ∙ same.0 in
        let generations_are : x.generation ≡ t.generation = ap (λ (y : Terms). y.generation) past_is ∙ same.1 in
        let room = subst (λ (g : ℕ → ℕ). HasRoom peer_of (t.ids (g 0)) (stands.wire.layer 0).peers) generations_are (subst (λ (ids : ℕ → ℕ → ℕ). HasRoom peer_of (ids (x.generation 0)) (stands.wire.layer 0).peers) ids_are in_it.peer_room) in
        subst (Roomy row) layer_is (record { places = in_it.places; room = room })

    -- ---- those that hear of it
    module _ (unit from : ℕ) where
      abbrev load : Load
      load = record { unit = unit; place = from }

      abbrev Heard : ℕ → Login → Type 0
      Heard p login = hears unit from p (desk_at node p) login ≡ true

      live_of : (p : ℕ) (login : Login) → Heard p login → is_live login ≡ true
      live_of p login f = second_of (login.unit == unit) (is_live login) (not (p == from) && (desk_at node p).is_enabled) f

      unit_of : (p : ℕ) (login : Login) → Heard p login → login.unit ≡ unit
      unit_of p login f = equal login.unit unit (and_first (login.unit == unit) (is_live login && (not (p == from) && (desk_at node p).is_enabled)) f)

      -- from a place on a login finds what it would behind the response
      record Rests (l : Layer Purpose) (pending : List ℕ) (at : ℕ) : Type 0 where
        roomy : Roomy row (bare l)
        alike : (p : ℕ) (login : Login) → at ≤ p → login_at node p ≡ Some login → Heard p login → AlikeAt login.node (bare layer) (bare l)
        listed : (p : ℕ) (login : Login) → at ≤ p → login_at node p ≡ Some login → Heard p login → is_listed login.node pending ≡ is_listed login.node node.pending

      abbrev Search : Layer Purpose → Login → Option Asked × Layer Purpose
      Search l login = asking_step l login.node (push_body login) purposes.Unsolicited

      module _ (l : Layer Purpose) (pending : List ℕ) (at : ℕ) (r : Rests l pending at) (login : Login) (there : login_at node at ≡ Some login) (f : Heard at login) where
        live : is_live login ≡ true
        live = live_of at login f

        -- another one that hears of it is of another node
        other : (p : ℕ) (q : Login) → at + 1 ≤ p → login_at node p ≡ Some q → Heard p q → nat_eq q.node login.node ≡ false
        other p q b g h = apart p at q login g (live_of p q h) there live (unit_of p q h ∙ sym (unit_of at login f)) (λ same. absurd (omega (arith, b, same)))

        room_then : Roomy row (bare (Search l login).1)
        room_then =
            subst (λ n. Roomy row (bare (asking_step l n (push_body login) purposes.Unsolicited).1)) (id_is at login there live)
            (room_asked row (suc (i at login there live)) (few at login there live) l (push_body login) purposes.Unsolicited r.roomy)

        alike_then_at : (p : ℕ) (q : Login) → at + 1 ≤ p → login_at node p ≡ Some q → Heard p q → AlikeAt q.node (bare layer) (bare (Search l login).1)
        alike_then_at p q b g h =
            let id = id_is at login there live in
            let not_it : nat_eq q.node (row (suc (i at login there live))) ≡ false = ap (λ n. nat_eq q.node n) id ∙ other p q b g h in
            let low : at ≤ p = omega (arith, b) in
            (subst (λ n. Goes row q.node layer (asking_step l n (push_body login) purposes.Unsolicited).1) id
            (goes_asked row q.node (suc (i at login there live)) (few at login there live) layer l (push_body login) purposes.Unsolicited not_it (record { roomy = r.roomy; alike = r.alike p q low g h }))).alike

        sends_on : (given : Asked) (next : Layer Purpose) → Search l login ≡ (Some given, next) → Rests next (pending ++ login.node ∷ []) (at + 1)
        sends_on given next g =
            let is : (Search l login).1 ≡ next = ap (λ (x : Option Asked × Layer Purpose). x.1) g in
            record {
              roomy = subst (λ (x : Layer Purpose). Roomy row (bare x)) is room_then;
              alike = λ p q b h j. subst (λ (x : Layer Purpose). AlikeAt q.node (bare layer) (bare x)) is (alike_then_at p q b h j);
              listed = λ p q b h j. let low : at ≤ p = omega (arith, b) in other_listed q.node login.node pending (other p q b h j) ∙ r.listed p q low h j;
            }

        fails_on : (next : Layer Purpose) → Search l login ≡ (None, next) → Rests next pending (at + 1)
        fails_on next g =
            let is : (Search l login).1 ≡ next = ap (λ (x : Option Asked × Layer Purpose). x.1) g in
            record {
              roomy = subst (λ (x : Layer Purpose). Roomy row (bare x)) is room_then;
              alike = λ p q b h j. subst (λ (x : Layer Purpose). AlikeAt q.node (bare layer) (bare x)) is (alike_then_at p q b h j);
              listed = λ p q b h j. let low : at ≤ p = omega (arith, b) in r.listed p q low h j;
            }

        -- its write finds a label exactly where the terms have it so, and is spelled so
        fits : FitsRequest (push_body login)
        fits = let g = subst (FitsLogin _) there (here.holds.sound.nodes.target_holds.fits.logins at) in (g.0, block_few, block_bytes)

        finds : is_some (Search l login).0 ≡ finds_label after 0 (suc (initiator_with after login.node)) (push_body login)
        finds =
            let id = id_is at login there live in
            let low : at ≤ at = omega arith in
            let goes : Goes row (row (suc (i at login there live))) layer l = subst (λ n. Goes row n layer l) (sym id) (record { roomy = r.roomy; alike = r.alike at login low there f }) in
            subst (λ n. is_some (asking_step l n (push_body login) purposes.Unsolicited).0 ≡ is_some (asking_step layer n (push_body login) (purposes.Agent at)).0) id
            (goes_finds row (suc (i at login there live)) (few at login there live) layer l roomy goes (push_body login) purposes.Unsolicited (purposes.Agent at))
            ∙ (response_finds units ready start past s here at login there live serial one found zero_to pkt label (Some (purposes.Agent place)) layer e (push_body login) fits
            ∙ ap (λ j. finds_label after 0 (suc j) (push_body login)) (sym (after_is at login there live)))

        spells : (asked : Asked) → (Search l login).0 ≡ Some asked → AreOf (push_body login) asked.bytes
        spells =
            let small = latest_small (topology_at w.generations 0) in
            let low : at ≤ at = omega arith in
            let node_is : l.node ≡ layer.node = (r.alike at login low there f).node in
            let own_small : layer.node < 2 ^ 16 =
            subst (λ n. n < 2 ^ 16) (sym (judges_same node.layer one.generation one.bytes).node ∙ ap (λ (x : Finding Purpose × Layer Purpose). x.1.node) e) here.holds.sound.nodes.target_holds.layer.small in
            let peer_small : login.node < 2 ^ 16 = subst (λ n. n < 2 ^ 16) (sym (known_id w here.holds.sound.stands (suc (i at login there live)) (inside at login there live)) ∙ id_is at login there live) (small (suc (i at login there live))) in
            layer_spells l login.node (push_body login) r.roomy.places (request_fits l.node login.node (push_body login) (subst (λ n. n < 2 ^ 16) (sym node_is) own_small) peer_small fits) purposes.Unsolicited

        answers : (is_some (Search l login).0 && not (is_listed login.node pending)) ≡ may_push T after login
        answers =
            let low : at ≤ at = omega arith in
            ap (λ b. b && not (is_listed login.node pending)) finds
            ∙ ap (λ b. finds_label after 0 (suc (initiator_with after login.node)) (push_body login) && not b) (r.listed at login low there f ∙ listed_same at login there live)

      rests_next : (l : Layer Purpose) (pending : List ℕ) (at : ℕ) → Rests l pending at → Rests l pending (at + 1)
      rests_next l pending at r = record {
        roomy = r.roomy;
        alike = λ p q b h j. let low : at ≤ p = omega (arith, b) in r.alike p q low h j;
        listed = λ p q b h j. let low : at ≤ p = omega (arith, b) in r.listed p q low h j;
      }

      all_hold : Holds node T after H w.generations unit from Rests
      all_hold = record {
        answers = λ l pending at r login there f. answers l pending at r login there f;
        named = λ at login there f. named at login there (live_of at login f);
        there = λ at login there f. peer_is units ready start past s here at login there (live_of at login f) ∙ ap (λ j. Some (suc j)) (sym (after_is at login there (live_of at login f)));
        spells = λ l pending at r login there f. spells l pending at r login there f;
        told = λ at login b there. told_same units ready has start past s here serial unit from at b login there;
        skips = λ l pending at r. rests_next l pending at r;
        sends = λ l pending at r login there f given next g. sends_on l pending at r login there f given next g;
        fails = λ l pending at r login there f next g. fails_on l pending at r login there f next g;
      }

      good : Good node
      good = good_of units ready here.holds.calls node has here.holds.made

      agreed : Agrees (office_of T) node
      agreed = agrees units ready has start w here.holds

      all_notes : (l : Layer Purpose) → Rests l node.pending 0 → AreDue node T after H w.generations unit from Rests all_hold (announced_from 8 0 unit from node l node.pending) (logins_for T (Some load))
      all_notes l r =
          let size : length T.table.places ≡ 8 = ap (λ (x : Table). length x.places) agreed.table ∙ good.table.sound.size in
          notes_from node T after H w.generations unit from Rests all_hold T.table.places 8 0 l node.pending r size refl
          (λ n. ap (λ (x : Table). place_at x.places n) agreed.table ∙ ap (λ m. login_at node m) (let z : n ≡ 0 + n = omega arith in z))

    -- ---- the agent's own requests before
    module _ (login : Login) (there : login_at node place ≡ Some login) (live : is_live login ≡ true) where
      abbrev Z : Layer Purpose → Type 0
      Z l = Roomy row (bare l) × ((x : ℕ) → nat_eq x login.node ≡ false → AlikeAt x (bare layer) (bare l))

      first_so : Z layer
      first_so = (roomy, λ x other. alike_self x (bare layer))

      asks_so : (l : Layer Purpose) (body : Body) → Z l → Z (asking_step l login.node body (purposes.Agent place)).1
      asks_so l body z =
          let m = suc (i place login there live) in
          let id = id_is place login there live in
          subst (λ n. Z (asking_step l n body (purposes.Agent place)).1) id (
            room_asked row m (few place login there live) l body (purposes.Agent place) z.0,
            λ x other. (goes_asked row x m (few place login there live) layer l body (purposes.Agent place) (ap (λ n. nat_eq x n) id ∙ other) (record { roomy = z.0; alike = z.1 x other })).alike,
          )

      disowns_so : (l : Layer Purpose) (peer : ℕ) (own : LabelParts) → Z l → Z (disowning_step l peer own)
      disowns_so l peer own z = (room_disowned row l peer own z.0, λ x other. (goes_disowned row x layer l peer own (record { roomy = z.0; alike = z.1 x other })).alike)

      rests_so : (l : Layer Purpose) → Z l → Rests login.unit place l node.pending 0
      rests_so l z = record {
        roomy = z.0;
        alike = λ p q b g h. z.1 q.node (apart p place q login g (live_of login.unit place p q h) there live (unit_of login.unit place p q h) (λ same. other_place p q h same));
        listed = λ p q b g h. refl;
      }
        where
          other_place : (p : ℕ) (q : Login) → Heard login.unit place p q → p ≡ place → ⊥
          other_place p q h same =
              let two = and_second (q.unit == login.unit) (is_live q && (not (p == place) && (desk_at node p).is_enabled)) h in
              let three = and_second (is_live q) (not (p == place) && (desk_at node p).is_enabled) two in
              let apart_from : not (p == place) ≡ true = and_first (not (p == place)) (desk_at node p).is_enabled three in
              let z : nat_eq p place ≡ true = grind (arith, nat_tests) in
              untrue (sym (ap (λ b. not b) z) ∙ apart_from)

    -- ---- the notes of the turn
    module _ (v : WorldState) (same : (p : ℕ) → holder v p ≡ H p) (bus : v.generations ≡ w.generations) (read : reading one.bytes ≡ Ok pkt) (kind : is_some (reply_kind pkt) ≡ true) (judged : AreJudged (said (notes.Got serial) ∷ ms)) where
      abbrev answered : Finding Purpose
      answered = of_response pkt label (Some (purposes.Agent place))

      abbrev Left : Whole
      Left = (received_as run one.bytes answered (with_layer layer (whole_of node s.media))).1

      abbrev Noted : List Note
      Noted = handed 0 0 Left.outbox v

      abbrev Its : Turn
      Its = turn ms (said (notes.Got serial)) Noted

      module _ (login : Login) (served : served_login node place ≡ Some login) (others : AreOthers Left.outbox.sides) (quiet : AreQuiet Left.outbox.sides) (first : List (wire_calls.Call Purpose)) where
        abbrev is_new : Bool
        is_new = came (disk_at s.media.disks login.unit) (disk_at Left.disks login.unit)

        notes_are : (l : Layer Purpose) → AreLast (announced_if is_new login.unit place node l).0 Left.outbox.sides → of_kind is_push_note Noted ≡ pushes_in H (announced_if is_new login.unit place node l).0
        notes_are l told =
            let pushes = (announced_if is_new login.unit place node l).0 in
            kind_handed is_push_note push_kind 0 0 Left.outbox v
            ∙ (ap (λ sides. of_kind is_push_note (notes_told 0 sides v)) told.told_is
            ∙ last_noted H 0 told.before pushes v same (quiet_before told.before pushes (subst AreQuiet told.told_is quiet)) told.plain (if_pushes is_new login.unit place node l))

        announced_there : (live : is_live login ≡ true) → AnnouncesOn (Z login (served_there node place login served) live) node is_new login.unit place Left.outbox
        unfolding concluded
        announced_there live =
            let there = served_there node place login served in
            reply_tells (Z login there live) node place login (asks_so login there live) (disowns_so login there live) run (header_in pkt).source label (answer_in pkt) layer s.media.disks served (first_so login there live)

        module _ (tells : Announces is_new login.unit place node first Left.outbox) (runs : TellsRun (NoneRan node one run s.media) (RanBy node one run s.media) Left.outbox.sides) (names : AnnouncesWhereDue start Its) where
          -- its packets behind those of the agent
          last_are : (l : Layer Purpose) (pushed : List Outgoing) (own : List Outgoing) → Left.outbox.packets ≡ own ++ pushed → (wants : List laws.Request) → AreSentFor w.generations pushed wants → AreLastFor (behind_answer start Its) wants
          last_are l pushed own packets wants for =
              let all = all_alone start Its w.generations Left.outbox v bus others refl (none_due start ms serial (as_sending one) (was_sent w here.holds.sound.stands serial one found) Noted (response_is one.bytes pkt read kind)) in
              record {
                first = notes_sent 0 own all.world;
                last = notes_sent 0 pushed (sent_all 0 own all.world);
                is = all.is ∙ (ap (λ ps. notes_sent 0 ps all.world) packets ∙ notes_both own pushed all.world);
                are = sent_for w.generations pushed wants (sent_all 0 own all.world) ((all_alike 0 own all.world).generations ∙ all.bus) for;
              }

          by_new : (b : Bool) → is_new ≡ b → PushesAreSent start Its
          by_new false g =
              let behind = layer_after node.layer (tells.steps ++ first) in
              nothing_due start Its (notes_are behind tells.told ∙ ap (λ b. pushes_in H (announced_if b login.unit place node behind).0) g) names
          by_new true g =
              let there = served_there node place login served in
              let live = loader_live units ready has start past s here serial one found run v same pkt label place layer e login served quiet first runs g in
              let a = announced_there live in
              let load_is : load_in T t Noted ≡ load_if is_new login.unit place = load_of units ready has start past s here serial one found run v same pkt label place layer e login served quiet first runs in
              let due = all_notes login.unit place a.layer (rests_so login there live a.layer a.on) in
              let logins : logins_for T (Some (load login.unit place)) ≡ logins_for T (load_in T t Noted) = sym (ap (logins_for T) (load_is ∙ ap (λ b. load_if b login.unit place) g)) in (
                notes_are a.layer a.told ∙ (ap (λ b. pushes_in H (announced_if b login.unit place node a.layer).0) g ∙ (due.0 ∙ ap (push_notes T after) logins)),
                sends_some serial refl (agent_calls units ready has start past s here serial one found zero_to judged pkt read kind label layer (Some (purposes.Agent place)) e place refl)
                    (subst (λ ls. AreLastFor (behind_answer start Its) (push_requests T after ls)) logins
                    (last_are a.layer (announced_from 8 0 login.unit place node a.layer node.pending).1 a.first (a.packets_are ∙ ap (λ b. a.first ++ (announced_if b login.unit place node a.layer).1) g) (push_requests T after (logins_for T (Some (load login.unit place)))) due.1)),
              )

          pub agent_pushes : PushesAreSent start Its
          agent_pushes = by_new is_new refl

-- ---- a packet comes to the target
module _ (units ready : ℕ) (has : 0 < units) (start : List Disk) (past : List Moment) (s : Scene) (here : Place units ready start past s) (k : Kept start (hist past s.world) s) (serial : ℕ) (again : Bool) (run : Option Told) (one : Sent) (found : found_sent serial s.world.store.kept ≡ Some one) (zero_to : one.to ≡ 0) where
  abbrev its_node : NodeState
  its_node = s.world.target

  abbrev moments : List Moment
  moments = hist past s.world

  abbrev good_here : Good its_node
  good_here = heard_good units ready has start past s here k

  abbrev Given : Finding Purpose → Layer Purpose → Judged × Whole
  Given f layer = received_as run one.bytes f (with_layer layer (whole_of its_node s.media))

  abbrev X : Judged × Whole
  X = received run one.generation one.bytes (whole_of its_node s.media)

  abbrev V : Judged → WorldState
  V judged = with_note (judged_note serial judged) (marked serial again (with_target X.1.node s.world))

  abbrev Runs : List Side → Type 0
  Runs told = TellsRun (NoneRan its_node one run s.media) (RanBy its_node one run s.media) told

  module _ (media : Media) (behind : Place units ready start past (record { world = handed_out 0 0 X.1.outbox (V X.0); media = media })) (others : AreOthers X.1.outbox.sides) (v : WorldState) (same : (p : ℕ) → holder v p ≡ holder s.world p) (bus : v.generations ≡ s.world.generations) where
    abbrev Turned : Judged → OutboxState → Turn
    Turned judged outbox = turn moments (said (judged_note serial judged)) (handed 0 0 outbox v)

    silent : (judged : Judged) (outbox : OutboxState) → AreOthers outbox.sides → NoPushes outbox.sides → AnnouncesWhereDue start (Turned judged outbox) → PushesAreSent start (Turned judged outbox)
    silent judged outbox o n names = nothing_due start (Turned judged outbox) (kind_handed is_push_note push_kind 0 0 outbox v ∙ pushes_none 0 outbox.sides v o n) names

    no_sides : (judged : Judged) (outbox : OutboxState) → AreOthers outbox.sides → outbox.sides ≡ [] → AnnouncesWhereDue start (Turned judged outbox) → PushesAreSent start (Turned judged outbox)
    no_sides judged outbox o e names = silent judged outbox o (subst NoPushes (sym e) tt) names

    operation_due : (source : Option ℕ) (answer : Answer) (outbox : OutboxState) → AreOthers outbox.sides → operation_tells source answer its_node outbox.sides → AnnouncesWhereDue start (Turned judgements.Got outbox) → PushesAreSent start (Turned judgements.Got outbox)
    operation_due None answer outbox o tells names = no_sides judgements.Got outbox o tells names
    operation_due (Some source) answer outbox o tells names =
        let x = manager_reply its_node.manager its_node.logins its_node.keys answer in
        let changed = with_manager its_node (x.1.0, x.1.1) in
        silent judgements.Got outbox o (first_none (decision_changes x.0.decided x.0.effect changed) outbox.sides (decision_silent x.0.decided x.0.effect changed) tells) names

    abbrev Finds : Finding Purpose → Layer Purpose → Type 0
    Finds f layer = judging_step its_node.layer one.generation one.bytes ≡ (f, layer)

    module _ (p : Packet) (read : reading one.bytes ≡ Ok p) (kind : is_some (reply_kind p) ≡ true) (judged : AreJudged (said (notes.Got serial) ∷ moments)) (label : LabelParts) (place : ℕ) (layer : Layer Purpose) (e : Finds (of_response p label (Some (purposes.Agent place))) layer) (g : Got its_node good_here p label (Some (purposes.Agent place)) layer X.1.node) where
      abbrev agents : Finding Purpose
      agents = of_response p label (Some (purposes.Agent place))

      abbrev handed_over : OutboxState
      handed_over = (Given agents layer).1.outbox

      abbrev Tells : Option Login → List (wire_calls.Call Purpose) → Type 0
      Tells there first = agent_tells there place its_node first s.media.disks (Given agents layer).1.disks handed_over

      abbrev DueWhereNamed : Type 0
      DueWhereNamed = AnnouncesWhereDue start (Turned judgements.Got handed_over) → PushesAreSent start (Turned judgements.Got handed_over)

      by_login : (there : Option Login) → served_login its_node place ≡ there → AreOthers handed_over.sides → AreQuiet handed_over.sides → (first : List (wire_calls.Call Purpose)) → Tells there first → Runs handed_over.sides → DueWhereNamed
      by_login None served o q first tells runs names = no_sides judgements.Got (Given agents layer).1.outbox o tells names
      by_login (Some login) served o q first tells runs names =
          agent_pushes units ready has start past s here serial run one found zero_to p label place layer e
          (base units ready has start past s here k serial again run one found zero_to media behind others p label (Some (purposes.Agent place)) layer e g (agent_not place)) v same bus read kind judged login served o q first tells runs names

    abbrev Dues : Finding Purpose → Layer Purpose → Type 0
    Dues f layer =
        (let outbox = (Given f layer).1.outbox in
        AreOthers outbox.sides → AreJudged (said (judged_note serial (Given f layer).0) ∷ moments) → (first : List (wire_calls.Call Purpose)) → delivery_tells f its_node first s.media.disks (Given f layer).1.disks outbox → Runs outbox.sides → AnnouncesWhereDue start (Turned (Given f layer).0 outbox) → PushesAreSent start (Turned (Given f layer).0 outbox))

    by_response : (p : Packet) (label : LabelParts) (purpose : Option Purpose) (layer : Layer Purpose) → Finds (of_response p label purpose) layer → reading one.bytes ≡ Ok p → is_some (reply_kind p) ≡ true → Got its_node good_here p label purpose layer X.1.node → Dues (of_response p label purpose) layer
    by_response p label None layer e read kind g o judged first tells runs names = no_sides judgements.Got (Given (of_response p label None) layer).1.outbox o tells names
    by_response p label (Some purposes.Unsolicited) layer e read kind g o judged first tells runs names = no_sides judgements.Got (Given (of_response p label (Some purposes.Unsolicited)) layer).1.outbox o tells names
    by_response p label (Some purposes.Management) layer e read kind g o judged first tells runs names =
        operation_due (source_in its_node.manager.operation) (answer_in p) (Given (of_response p label (Some purposes.Management)) layer).1.outbox o tells names
    by_response p label (Some (purposes.Agent place)) layer e read kind g o judged first tells runs names =
        let c = closing_known its_node.layer layer good_here.lives one.generation one.bytes p label (Some (purposes.Agent place)) good_here.mid.known e kind in
        let lives = live_on (wire_calls.closed (header_in p).source label c.kind (Some (purposes.Agent place))) good_here.lives in
        by_login p read kind judged label place layer e g (served_login its_node place) refl o
        (agent_quiet units ready has start past s here serial one found run v same p label place layer lives (from_self its_node good_here layer lives c.known)) first tells runs names

    by_finding : (f : Finding Purpose) (layer : Layer Purpose) → Finds f layer → IsFound f its_node.layer layer one.bytes → Hears its_node good_here f layer X.1.node → Dues f layer
    by_finding of_generation layer e f h o judged first tells runs names = no_sides (judgements.Ignored causes.Generation) (Given of_generation layer).1.outbox o tells names
    by_finding of_grammar layer e f h o judged first tells runs names = no_sides (judgements.Ignored causes.Grammar) (Given of_grammar layer).1.outbox o tells names
    by_finding of_label layer e f h o judged first tells runs names = no_sides (judgements.Ignored causes.Label) (Given of_label layer).1.outbox o tells names
    by_finding (of_again p rcode) layer e f h o judged first tells runs names = no_sides (judgements.Ignored causes.Again) (Given (of_again p rcode) layer).1.outbox o tells names
    by_finding (of_response p label purpose) layer e f h o judged first tells runs names = by_response p label purpose layer e f.read f.kind h o judged first tells runs names
    by_finding (of_request p) layer e f h o judged first tells runs names =
        let b = is_barred its_node p in
        let x = Given (of_request p) layer in
        silent x.0 x.1.outbox o (first_none (request_changes b p its_node) x.1.outbox.sides (request_silent b p its_node) tells) names

    pub heard_pushes : MayTell run one its_node s.media → AreJudged (said (judged_note serial X.0) ∷ moments) → AnnouncesWhereDue start (Turned X.0 X.1.outbox) → PushesAreSent start (Turned X.0 X.1.outbox)
    unfolding received
    heard_pushes may judged names =
        let f = judging_step its_node.layer one.generation one.bytes in
        by_finding f.0 f.1 refl (found_as its_node.layer one.generation one.bytes) (hears_all its_node good_here run s.media.disks one.generation one.bytes) others judged (first_of (receives run s.media.disks one.generation one.bytes))
        (side_law.deliveries run s.media.disks one.generation one.bytes its_node) (runs_tell its_node good_here.mid.size good_here.table.sound one run s.media may) names

-- ---- the turns of the calls
line_none : (line : ℕ) (s : Scene) (event : Event) (rest : List Note) → Brings line s event rest → of_kind is_push_note rest ≡ []
line_none line s event rest (calls is_event c) = refl
line_none line s event rest (refuses is_event number) = refl
line_none line s event rest (refuses_action i action number e) = refl
line_none line s event rest (resets physical generation e) = refl
line_none line s event rest (loses serial) = refl
line_none line s event rest (sets_key unit key) = refl
line_none line s event rest (injects i bytes serial generation from to) = refl

module _ (units ready : ℕ) (has : 0 < units) (start : List Disk) where
  abbrev Names : Cases units ready start (AnnouncesWhereDue start)
  Names = announced_cases units ready has start

  abbrev Carries : CarriedCases units ready start (Kept start) (PushesAlone start)
  Carries = alone_cases units ready has start

  own_pushes : (past : List Moment) (first : Moment) (node weight : ℕ) (outbox : OutboxState) (w : WorldState) → AreOwn outbox.sides → AnnouncesWhereDue start (turn past first (handed node weight outbox w)) → PushesAreSent start (turn past first (handed node weight outbox w))
  own_pushes past first node weight outbox w own names = nothing_due start (turn past first (handed node weight outbox w)) (own_handed is_push_note push_kind own_push node weight outbox w own) names

  still_pushes : (past : List Moment) (first : Moment) (outbox : OutboxState) (w : WorldState) → AreOthers outbox.sides → NoPushes outbox.sides → AnnouncesWhereDue start (turn past first (handed 0 0 outbox w)) → PushesAreSent start (turn past first (handed 0 0 outbox w))
  still_pushes past first outbox w o n names = nothing_due start (turn past first (handed 0 0 outbox w)) (kind_handed is_push_note push_kind 0 0 outbox w ∙ pushes_none 0 outbox.sides w o n) names

  pushes_cases : CarriedCases units ready start (Kept start) (PushesAreSent start)
  pushes_cases = record {
    heard = λ past s serial again run one found zero_to may others here behind noted k.
        let x = received run one.generation one.bytes (whole_of s.world.target s.media) in
        let v = with_note (judged_note serial x.0) (marked serial again (with_target x.1.node s.world)) in (
          heard_pushes units ready has start past s here k serial again run one found zero_to (record { disks = x.1.disks; faults = faults_after run one s.world.target s.media }) behind others v
              (λ p. marked_holder serial again (with_target x.1.node s.world) p) (marked_generations serial again (with_target x.1.node s.world)) may noted.judged (Names.heard past s serial again run one found zero_to may others here behind noted),
          (Carries.heard past s serial again run one found zero_to may others here behind noted k).1,
        );
    heard_own = λ past s serial again one i found to_is inside own here behind noted k.
        let x = receive_step one.generation one.bytes empty_outbox (initiator_at s.world i) in (
          own_pushes (hist past s.world) (said (judged_note serial x.0)) (suc i) 0 x.1.0 _ own (Names.heard_own past s serial again one i found to_is inside own here behind noted),
          (Carries.heard_own past s serial again one i found to_is inside own here behind noted k).1,
        );
    late = λ past s serial request done t found node_is e others here behind noted k. (
      still_pushes (hist past s.world) (said (notes.TimedOut serial)) t.outbox _ others
          (subst (λ (x : Result (Unit {0}) Stale × target.Scene). NoPushes x.1.outbox.sides) e (plain_none _ (side_law.expiries request.peer request.label s.world.target)))
          (Names.late past s serial request done t found node_is e others here behind noted),
      (Carries.late past s serial request done t found node_is e others here behind noted k).1,
    );
    late_own = λ past s serial request i outbox state found node_is inside e own here behind noted k. (
      own_pushes (hist past s.world) (said (notes.TimedOut serial)) (suc i) 0 outbox _ own (Names.late_own past s serial request i outbox state found node_is inside e own here behind noted),
      (Carries.late_own past s serial request i outbox state found node_is inside e own here behind noted k).1,
    );
    sees = λ past s others here behind noted k.
        let g = s.world.generations.latest in
        let x = (seen g.generation (id_of g 0) (target.scene s.world.target empty_outbox)).1 in (
          still_pushes (hist past s.world) (said (notes.Seen 0 g.generation)) x.outbox _ others
              (silent_none x.outbox.sides (subst AreSilent (sym (side_law.sights g.generation (id_of g 0) s.world.target)) (sight_silent g.generation s.world.target)))
              (Names.sees past s others here behind noted),
          (Carries.sees past s others here behind noted k).1,
        );
    sees_own = λ past s i inside own here behind noted k.
        let g = s.world.generations.latest in
        let x = see_step g.generation (id_of g (suc i)) (id_of g 0) empty_outbox (initiator_at s.world i) in (
          own_pushes (hist past s.world) (said (notes.Seen (suc i) g.generation)) (suc i) 0 x.0 _ own (Names.sees_own past s i inside own here behind noted),
          (Carries.sees_own past s i inside own here behind noted k).1,
        );
    ticks = λ past s others here behind noted k.
        let x = ticked (target.scene s.world.target empty_outbox) in (
          still_pushes (hist past s.world) (said notes.Tick) x.outbox _ others
              (silent_none x.outbox.sides (subst AreSilent (sym (side_law.seconds s.world.target)) (expired_silent (expired_ids s.world.target.logins.places))))
              (Names.ticks past s others here behind noted),
          (Carries.ticks past s others here behind noted k).1,
        );
    ends = λ past s done here behind k. (
      nothing_due start (turn (hist past s.world) (said (end_note done)) []) refl (Names.ends past s done here behind),
      (Carries.ends past s done here behind k).1,
    );
    acts = λ past s line i action outbox state inside e own here behind k. (
      own_pushes (hist past s.world) (asked line (events.Act i action)) (i + 1) (weight_in action) outbox _ own (Names.acts past s line i action outbox state inside e own here behind),
      (Carries.acts past s line i action outbox state inside e own here behind k).1,
    );
    lines = λ past s line event rest behind brings fresh here there stays k. (
      nothing_due start (turn (hist past s.world) (asked line event) rest) (line_none line s event rest brings) (Names.lines past s line event rest behind brings fresh here there),
      (Carries.lines past s line event rest behind brings fresh here there stays k).1,
    );
    begins = λ line initiators is_ready. (refl, sends_none refl);
  }

pub pushes_sent_law : OfEveryRun (λ start past. EachTurn (PushesAreSent start) past)
pushes_sent_law = of_every_carried Kept PushesAreSent first_kept_here (λ units ready start has. pushes_cases units ready has start)

pub pushes_law : PushesLaw
pushes_law = brought_law PushesAreSent PushesWhereDue (λ start t h. h.0) pushes_sent_law
