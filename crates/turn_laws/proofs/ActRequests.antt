-- The requests of the actions of every run.
use Rattle.std.proofs.Common.{arith, ◌≡◌, ◌∙◌, refl, sym, ap, subst, ℕ, zero, suc, ◌+◌, ◌<◌, ◌≤◌, false, List, [], ◌∷◌, ◌++◌, length, Option, Some, None}
use Rattle.async_packet.specs.Canon.{IsValid, canon}
use Rattle.bus_transactions.specs.Wire.{id_for}
use Rattle.bus_transactions.proofs.Fits.{request_fits}
use Rattle.bus_transactions.proofs.Follows.{last_is}
use Rattle.label_table.specs.Bodies.{Body, header_to, request_with}
use Rattle.label_table.specs.declared.judgement.Asked.{Asked}
use Rattle.packet_store.specs.Stored.{Stored}
use Rattle.rbc_disk.specs.Disk.{Disk}
use Rattle.sbp_bus.specs.Generations.{GenerationsState, node_of, topology_at}
use Rattle.sbp_initiator.specs.Acting.{act_step, asked_for, demand_of}
use Rattle.sbp_initiator.specs.Effects.{Turn as Called}
use Rattle.sbp_initiator.specs.States.{wanted_body}
use Rattle.sbp_initiator.specs.declared.purpose.Demand.{Demand}
use Rattle.sbp_initiator.specs.declared.state.InitiatorState.{InitiatorState}
use Rattle.sbp_journal.specs.Outgoings.{OutboxState, empty_outbox}
use Rattle.sbp_journal.specs.Run.{Moment, asked}
use Rattle.sbp_journal.specs.Wire.{Terms, terms}
use Rattle.sbp_journal.specs.declared.event.Action.{Action}
use Rattle.sbp_journal.specs.declared.event.Action.TheVariants as actions
use Rattle.sbp_journal.specs.declared.event.Cmd.{Cmd}
use Rattle.sbp_journal.specs.declared.event.Event.{Event}
use Rattle.sbp_journal.specs.declared.event.Event.TheVariants as events
use Rattle.sbp_journal.specs.declared.note.Note.{Note}
use Rattle.sbp_journal.specs.declared.outbox.Outgoing.{Outgoing}
use Rattle.sbp_laws.specs.Actions.{action_body, action_notes, append_notes, new_list, new_number, refusal_at}
use Rattle.sbp_laws.specs.Agents.{Request, requests_to}
use Rattle.sbp_laws.specs.Deliveries.{once_told}
use Rattle.sbp_laws.specs.Hosts.{host_at}
use Rattle.sbp_laws.specs.LineLaw.{refused}
use Rattle.sbp_laws.specs.Packets.{label_for}
use Rattle.sbp_laws.specs.SentRequests.{ArePackets, IsRequest, RequestsLaw, before_requests, behind_answer, unless_refused}
use Rattle.sbp_laws.specs.Turns.{Turn, effects_of, sends_of, turn}
use Rattle.sbp_world.specs.Lines.{weight_in}
use Rattle.sbp_world.specs.Telling.{told_all}
use Rattle.sbp_world.specs.Worlds.{Scene, WorldState, initiator_at, with_initiator, without_notes}
use Rattle.sbp_world.proofs.Agents.Management.Holding.{past_terms}
use Rattle.sbp_world.proofs.Agents.Management.Still.{hist}
use Rattle.sbp_world.proofs.Common.{untrue}
use Rattle.sbp_world.proofs.Hosts.Knows.{target_there}
use Rattle.sbp_world.proofs.Hosts.Requested.{all_told_bus}
use Rattle.sbp_world.proofs.Wire.Bus.{holds}
use Rattle.sbp_world.proofs.Wire.Holding.{target_small, to_target}
use Rattle.turn_laws.specs.ActRequests.{ActRequestsLaw, ActsByRequests}
use Rattle.turn_laws.proofs.ActBodies.{body_in}
use Rattle.turn_laws.proofs.ActNotes.{effects_are, sends_are}
use Rattle.turn_laws.proofs.ActPackets.{Made, act_made, goes_through}
use Rattle.turn_laws.proofs.ActTies.{asked_bodies, fits}
use Rattle.turn_laws.proofs.Actions.{number_is, sides_are}
use Rattle.turn_laws.proofs.Calls.{Brings, calls, injects, is_act, loses, refuses, refuses_action, resets, sets_key}
use Rattle.turn_laws.proofs.Handed.{handed, notes_sent, packet_note}
use Rattle.turn_laws.proofs.KnownRuns.{Known, KnowingCases, of_every_known}
use Rattle.turn_laws.proofs.Pass.{call_no_act}
use Rattle.turn_laws.proofs.Places.{Place}
use Rattle.turn_laws.proofs.ReadsUnderWay.{AreTimely}
use Rattle.turn_laws.proofs.RequestLabels.{IsSpelled, spelled_at}
use Rattle.turn_laws.proofs.Timely.{Timely, untimed}

-- what an action tells leaves the wire
append_wire : (i n k : ℕ) (cmd : Cmd) (past : List Moment) → terms (once_told past (append_notes i n k cmd ++ [])) ≡ terms past
append_wire i n zero cmd past = refl
append_wire i n (suc k) cmd past = refl

told_wire : (action : Action) (ms : List Moment) (i : ℕ) (past : List Moment) → terms (once_told past (action_notes action ms i ++ [])) ≡ terms past
told_wire (actions.Put cmd) ms i past = refl
told_wire (actions.Append cmd) ms i past = append_wire i (new_list ms i) (new_number ms i) cmd past
told_wire actions.Low ms i past = refl
told_wire actions.Link ms i past = refl
told_wire actions.Ring ms i past = refl
told_wire (actions.Dummy k) ms i past = refl
told_wire _ ms i past = refl

module _ (units ready : ℕ) (start : List Disk) where
  module _ (past : List Moment) (s : Scene) (here : Place units ready start past s) (k : Known start (hist past s.world) s) (timely : AreTimely (hist past s.world)) (i : ℕ) (inside : i < length s.world.initiators) (action : Action) (line : ℕ) where
    abbrev w : WorldState
    w = s.world

    abbrev ms : List Moment
    ms = hist past w

    abbrev old : InitiatorState
    old = initiator_at w i

    abbrev asks : List Moment
    asks = asked line (events.Act i action) ∷ ms

    known : suc i ≤ length w.initiators
    known = omega (arith, inside)

    low : 0 ≤ length w.initiators
    low = omega arith

    target_is : id_for here.holds.sound.stands.wire (suc i) 0 ≡ old.target
    target_is =
        let stands = here.holds.sound.stands in
        ap (λ g. (terms stands.wire.past).ids g 0) (stands.is.sights (suc i) known) ∙ stands.is.known_ids (suc i) 0 known low
        ∙ to_target w.generations.seen i old.target (here.holds.sound.nodes.own.holds i inside).fits.target_known

    count_is : w.store.last ≡ (terms ms).count
    count_is =
        let stands = here.holds.sound.stands in
        ap (λ (st : Stored). st.last) (sym stands.is.store_is) ∙ last_is (holds stands.wire stands.reached).follows ∙ ap (λ (t : Terms). t.count) (past_terms w stands)

    generation_is : (topology_at w.generations (suc i)).generation ≡ (terms ms).generation (suc i)
    generation_is =
        let stands = here.holds.sound.stands in
        sym (stands.is.sights (suc i) known) ∙ ((holds stands.wire stands.reached).nodes (suc i)).generation ∙ ap (λ (t : Terms). t.generation (suc i)) (past_terms w stands)

    -- the request of a demand
    module _ (demand : Demand) (is : demand_of action old ≡ Some demand) where
      abbrev body : Body
      body = wanted_body demand.wanted

      valid : IsValid (request_with (header_to old.layer.node old.target 0) body)
      valid =
          let h = here.holds.sound.nodes.own.holds i inside in
          request_fits old.layer.node old.target body h.layer.small (target_small w.generations.seen i old.target h.fits.target_known) (fits units ready start past s here i inside action demand is)

      spelled : (one : Asked) → (asked_for demand old).0 ≡ Some one → IsSpelled (terms ms) (suc i) 0 body one
      spelled one e = spelled_at w here.holds.sound.stands (suc i) 0 known low old.layer refl old.target target_is body valid demand.purpose one e

      is_request : (one : Asked) → (asked_for demand old).0 ≡ Some one → (serial generation from : ℕ) → serial ≡ (terms ms).count + 1 → generation ≡ (terms ms).generation (suc i) → from ≡ suc i
          → IsRequest (terms asks) (suc i) (record { to = 0; body = body; is_untold = false }) body serial generation from 0 one.bytes
      unfolding label_for
      is_request one e serial generation from number now sender =
          let x = spelled one e in
          record {
            number = number;
            in_generation = now;
            sender = sender;
            receiver = refl;
            label = x.label ∙ ap Some (sym x.number);
            spelled = x.spelled ∙ ap (λ n. canon (request_with (header_to ((terms ms).ids ((terms ms).generation (suc i)) (suc i)) ((terms ms).ids ((terms ms).generation (suc i)) 0) n) body)) (sym x.number);
          }

    -- all that is sent
    module _ (weight : ℕ) (outbox : OutboxState) (state : InitiatorState) (e : act_step action empty_outbox old ≡ (None, (outbox, state))) where
      abbrev v : WorldState
      v = with_initiator i state (without_notes w)

      abbrev after_told : WorldState
      after_told = told_all weight outbox.sides v

      done : (act_step action empty_outbox old).0 ≡ None
      done = ap (λ (x : Option ℕ × Called). x.0) e

      made : Made action old (demand_of action old) outbox.packets
      made = subst (λ (x : Option ℕ × Called). Made action old (demand_of action old) x.1.0.packets) e (act_made action old done)

      module _ (now : List Moment) (before : terms now ≡ terms asks) where
        abbrev Sent : List Note → Option Body → Type 0
        Sent ns found = ArePackets now (suc i) ns (requests_to 0 found)

        sent_by : (d : Option Demand) → demand_of action old ≡ d → Made action old d outbox.packets → Sent (notes_sent (i + 1) outbox.packets after_told) (body_in d)
        sent_by None f m = subst (λ ps. Sent (notes_sent (i + 1) ps after_told) None) (sym m) tt
        sent_by (Some demand) f m =
            let same = all_told_bus weight outbox.sides v in
            let packet : Outgoing = record { to = old.target; label = Some m.asked.label; bytes = m.asked.bytes } in
            let there : node_of after_told.generations (i + 1) old.target ≡ Some 0 =
            ap (λ (g : GenerationsState). node_of g (i + 1) old.target) same.generations
            ∙ ap (λ n. node_of w.generations n old.target) (let z : i + 1 ≡ suc i = omega arith in z) ∙ target_there w here.holds.sound.stands i inside here.holds.sound.nodes in
            let serial : after_told.store.last + 1 ≡ (terms ms).count + 1 = ap (λ (st : Stored). st.last + 1) same.store ∙ ap (λ n. n + 1) count_is in
            let generation : (topology_at after_told.generations (i + 1)).generation ≡ (terms ms).generation (suc i) =
            ap (λ (g : GenerationsState). (topology_at g (i + 1)).generation) same.generations
            ∙ ap (λ n. (topology_at w.generations n).generation) (let z : i + 1 ≡ suc i = omega arith in z) ∙ generation_is in
            let from : i + 1 ≡ suc i = omega arith in
            let want : Request = record { to = 0; body = wanted_body demand.wanted; is_untold = false } in
            let number = after_told.store.last + 1 in
            let gen = (topology_at after_told.generations (i + 1)).generation in
            subst (λ ps. Sent (notes_sent (i + 1) ps after_told) (body_in (Some demand))) (sym m.are)
            (subst (λ to. Sent (packet_note to (i + 1) packet after_told ++ []) (body_in (Some demand))) (sym there) (
              subst (λ (t : Terms). IsRequest t (suc i) want (wanted_body demand.wanted) number gen (i + 1) 0 m.asked.bytes) (sym before)
                  (is_request demand f m.asked m.found number gen (i + 1) serial generation from),
              tt,
            ))

      abbrev pub asking : Turn
      asking = turn ms (asked line (events.Act i action)) (handed (i + 1) weight outbox v)

      packets_for : (found : Option Body) → found ≡ body_in (demand_of action old) → ArePackets (before_requests start asking) (suc i) (behind_answer start asking) (requests_to 0 found)
      packets_for found bodies =
          let sides = sides_are units ready start past s here i inside action outbox state e in
          let rest = handed (i + 1) weight outbox v in
          let now = once_told asks (effects_of rest ++ []) in
          let before : terms now ≡ terms asks =
          ap (λ ns. terms (once_told asks (ns ++ []))) (effects_are ms i (i + 1) weight action outbox v sides) ∙ told_wire action ms i asks in
          subst (λ x. ArePackets now (suc i) (sends_of rest) (requests_to 0 x)) (sym bodies)
          (subst (λ ns. ArePackets now (suc i) ns (requests_to 0 (body_in (demand_of action old)))) (sym (sends_are ms i (i + 1) weight action outbox v sides))
          (sent_by now before (demand_of action old) refl made))

      packets_are : ArePackets (before_requests start asking) (suc i) (behind_answer start asking) (requests_to 0 (action_body action ms i (host_at ms i)))
      packets_are = packets_for (action_body action ms i (host_at ms i)) (asked_bodies units ready start past s here i inside (k.1.each i inside) action (goes_through action old done))

      pub requests_are : RequestsLaw start asking
      requests_are not_silent =
          let none : refusal_at ms i action ≡ None = number_is units ready start past s here k timely i inside action ∙ done in
          subst (λ number. ArePackets (before_requests start asking) (suc i) (behind_answer start asking) (unless_refused number (requests_to 0 (action_body action ms i (host_at ms i))))) (sym none) packets_are

    -- a refused action sends nothing
    pub refused_requests : (number : ℕ) → (act_step action empty_outbox old).0 ≡ Some number → RequestsLaw start (turn ms (asked line (events.Act i action)) (refused line number))
    refused_requests number e not_silent =
        let is : refusal_at ms i action ≡ Some number = number_is units ready start past s here k timely i inside action ∙ e in
        subst (λ x. ArePackets (once_told asks (refused line number ++ [])) (suc i) [] (unless_refused x (requests_to 0 (action_body action ms i (host_at ms i))))) (sym is) tt

  no_action : (past : List Moment) (line : ℕ) (event : Event) (rest : List Note) → is_act event ≡ false → ActsByRequests start (turn past (asked line event) rest)
  no_action past line (events.Act i action) rest e = untrue (sym e)
  no_action past line _ rest e = tt

  line_asks : (past : List Moment) (s : Scene) (line : ℕ) (event : Event) (rest : List Note) → Place units ready start past s → Known start (hist past s.world) s → AreTimely (hist past s.world) → Brings line s event rest → ActsByRequests start (turn (hist past s.world) (asked line event) rest)
  line_asks past s line event rest here k timely (calls is_event c) = no_action (hist past s.world) line event rest (call_no_act event c)
  line_asks past s line event rest here k timely (refuses is_event r) = no_action (hist past s.world) line event rest r.no_act
  line_asks past s line event rest here k timely (refuses_action i action number e) = refused_requests past s here k timely i e.inside action line number e.is
  line_asks past s line event rest here k timely (resets physical generation e) = tt
  line_asks past s line event rest here k timely (loses serial) = tt
  line_asks past s line event rest here k timely (sets_key unit key) = tt
  line_asks past s line event rest here k timely (injects i bytes serial generation from to) = tt

  request_cases : KnowingCases units ready start (Timely (ActsByRequests start))
  request_cases = record {
    heard = λ past s serial again run one found zero_to may others here behind judged k timely. tt;
    heard_own = λ past s serial again one i found to_is inside own here behind judged k timely. tt;
    late = λ past s serial request done t found node_is e others here behind judged k timely. tt;
    late_own = λ past s serial request i outbox state found node_is inside e own here behind judged k timely. tt;
    sees = λ past s others here behind judged k timely. tt;
    sees_own = λ past s i inside own here behind judged k timely. tt;
    ticks = λ past s others here behind judged k timely. tt;
    ends = λ past s done here behind k timely. tt;
    acts = λ past s line i action outbox state inside e own here behind k timely. requests_are past s here k timely i inside action line (weight_in action) outbox state e;
    lines = λ past s line event rest behind brings fresh here there k timely. line_asks past s line event rest here k timely brings;
    begins = λ line initiators is_ready timely. tt;
  }

pub act_requests_law : ActRequestsLaw
act_requests_law = untimed (λ start. ActsByRequests start) (of_every_known (λ start. Timely (ActsByRequests start)) (λ units ready start has. request_cases units ready start))
