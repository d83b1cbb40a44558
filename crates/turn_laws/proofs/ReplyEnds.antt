-- The deaths and ends of a response that the target got: those of the agent whose transaction it closes, over what a run told, and none else.
use Rattle.std.proofs.Common.{arith, ◌+◌, length, ◌≡◌, ◌∙◌, refl, sym, ap, subst, ℕ, suc, ◌<◌, ◌||◌, not, is_some, Bool, true, false, cond, List, [], ◌∷◌, Option, Some, Ok}
use Rattle.async_packet.specs.Labels.{LabelParts}
use Rattle.async_packet.specs.Packet.{Packet, header_in}
use Rattle.async_packet.specs.Reading.{reading}
use Rattle.bus_transactions.specs.Judging.{AreJudged}
use Rattle.bus_transactions.specs.Wire.{as_sending}
use Rattle.sbp_world.proofs.Agents.Management.Holding.{was_sent}
use Rattle.bus_transactions.proofs.FitJudged.{bytes_of, spelled}
use Rattle.label_table.specs.Layer.{Layer, judging_step, of_response}
use Rattle.label_table.specs.Requests.{reply_kind}
use Rattle.login_table.specs.Table.{is_live}
use Rattle.login_table.specs.declared.login.Login.{Login}
use Rattle.orb_layout.specs.Replies.{Answer}
use Rattle.packet_store.specs.declared.sent.Sent.{Sent}
use Rattle.packet_store.specs.Kept.{found_sent, is_flying}
use Rattle.packet_store.specs.Stored.{deliver_step}
use Rattle.rbc_disk.specs.Disk.{Disk}
use Rattle.rbc_disk.specs.Runs.{Told}
use Rattle.rbc_disk.specs.Units.{PlainDisk}
use Rattle.command_agent.specs.Machine.{Machine}
use Rattle.command_agent.specs.Steps.{reply_step, told_or}
use Rattle.command_agent.specs.declared.step.AgentStep.{AgentStep}
use Rattle.command_agent.specs.declared.step.Which.{Which}
use Rattle.sbp_journal.specs.Outgoings.{OutboxState, empty_outbox}
use Rattle.sbp_journal.specs.Run.{Moment, said}
use Rattle.sbp_journal.specs.Wire.{Terms, terms}
use Rattle.sbp_journal.specs.declared.note.Note.{Note}
use Rattle.sbp_journal.specs.declared.note.Note.TheVariants as notes
use Rattle.sbp_laws.specs.Agents.{AgentTurn, agent_turn, list_taken, listed_at, told_among, untold_among}
use Rattle.sbp_laws.specs.NoteKinds.{is_end_note, of_kind}
use Rattle.sbp_laws.specs.Packets.{finds_label}
use Rattle.sbp_laws.specs.SentRequests.{behind_answer}
use Rattle.sbp_laws.specs.SentWrites.{writes_to}
use Rattle.sbp_laws.specs.Targets.{Agent, Target, agent_at, initiator_at, over, target_at}
use Rattle.sbp_laws.specs.Turns.{Turn, turn}
use Rattle.sbp_target.specs.declared.desk.Desk.{Desk}
use Rattle.sbp_target.specs.declared.purpose.Purpose.{Purpose}
use Rattle.sbp_target.specs.declared.purpose.Purpose.TheVariants as purposes
use Rattle.sbp_target.specs.declared.purpose.Sent.{Sent as Asked}
use Rattle.sbp_target.specs.Desks.{which_in}
use Rattle.sbp_target.specs.Nodes.{NodeState, desk_at, login_at}
use Rattle.sbp_target.specs.Receiving.{answer_in, concluded, with_layer}
use Rattle.sbp_target.specs.Replies.{plain_in, replied_by, replied_to, served_login}
use Rattle.sbp_world.specs.Agents.Alike.{Alike, StepsAlike, TellsAlike}
use Rattle.sbp_world.specs.Agents.Serials.{kept_as}
use Rattle.sbp_world.specs.Delivering.{marked, whole_of}
use Rattle.sbp_world.specs.FitTarget.{BytesTold}
use Rattle.sbp_world.specs.Telling.{holder, ticket_at}
use Rattle.sbp_world.specs.Worlds.{Scene, WorldState, with_note, with_target}
use Rattle.sbp_world.proofs.Agents.Management.Holding.{ours}
use Rattle.sbp_world.proofs.Agents.Management.Still.{hist}
use Rattle.sbp_world.proofs.FitTarget.Agents.{reply_fits}
use Rattle.sbp_world.proofs.FitTarget.Demands.{answer_small}
use Rattle.sbp_world.proofs.Lists.StatusSteps.{replied_leaves}
use Rattle.sbp_world.proofs.Lists.DueRuns.{AtDelivery, alike, event_is, plain_is}
use Rattle.turn_laws.proofs.AgentDue.{IsTurnOf, TellsEnds, has_steps, turn_in, turn_tells}
use Rattle.turn_laws.proofs.AgentEnds.{Tells, advance_tells, found_at}
use Rattle.turn_laws.proofs.AgentHere.{again_body, desk_fits, fifo_is, good, holder_is, initiator_is, names_are, reply_ahead, reply_ahead_body, reply_body, reply_carries, stands_are, up_by}
use Rattle.turn_laws.proofs.EndNotes.{beside_handed, ends_noted}
use Rattle.turn_laws.proofs.EndShapes.{reply_shaped}
use Rattle.turn_laws.proofs.EndSizes.{reply_sized}
use Rattle.turn_laws.proofs.EndTries.{brought, brought_sides}
use Rattle.turn_laws.proofs.FollowEnds.{ends_in}
use Rattle.turn_laws.proofs.FollowSends.{requests, requests_to_peer}
use Rattle.turn_laws.proofs.FollowSides.{AreBeside, beside_others}
use Rattle.turn_laws.proofs.PushSends.{Pushes, pushes_told}
use Rattle.turn_laws.proofs.SentAnswers.{none_due}
use Rattle.turn_laws.proofs.TurnCounts.{pushed_in, turn_counts}
use Rattle.turn_laws.proofs.TurnSends.{SendsOwn, all_alone, response_is, sends_alone}
use Rattle.turn_laws.proofs.TurnWrites.{all_writes, turn_writes}
use Rattle.turn_laws.proofs.FoundLabels.{peer_is, response_finds, response_labels, response_spells, i as held_i}
use Rattle.sbp_world.proofs.Agents.FreeLabels.{KnowsLabels}
use Rattle.turn_laws.proofs.Handed.{handed}
use Rattle.turn_laws.proofs.Places.{Place}

module _ (units ready : ℕ) (has : 0 < units) (start : List Disk) (past : List Moment) (s : Scene) (here : Place units ready start past s) (serial : ℕ) (again : Bool) (one : Sent) (found : found_sent serial s.world.store.kept ≡ Some one) (zero_to : one.to ≡ 0) (judged : AreJudged (said (notes.Got serial) ∷ hist past s.world)) where
  abbrev w : WorldState
  w = s.world

  abbrev node : NodeState
  node = w.target

  abbrev ms : List Moment
  ms = hist past w

  abbrev wire : Terms
  wire = terms ms

  abbrev T : Target
  T = over (target_at start ms)

  abbrev t : List Note → Turn
  t rest = turn ms (said (notes.Got serial)) rest

  pub site : AtDelivery start past w
  site = record { agents = here.agents; held = here.held; rows = λ i b. (here.hosts i b).rows }

  -- the places and tickets are as before
  pub still_holder : (v : WorldState) (p : ℕ) → holder (marked serial again v) p ≡ holder v p
  still_holder v p = by (again || not (is_flying serial v.store.kept))
    where
      by : (b : Bool) → holder (cond b v (record v { store = deliver_step v.store serial })) p ≡ holder v p
      by true = refl
      by false = refl

  pub still_bus : (v : WorldState) → (marked serial again v).generations ≡ v.generations
  still_bus v = by (again || not (is_flying serial v.store.kept))
    where
      by : (b : Bool) → (cond b v (record v { store = deliver_step v.store serial })).generations ≡ v.generations
      by true = refl
      by false = refl

  pub still_ticket : (v : WorldState) (p orb : ℕ) → ticket_at (marked serial again v) p orb ≡ ticket_at v p orb
  still_ticket v p orb = by (again || not (is_flying serial v.store.kept))
    where
      by : (b : Bool) → ticket_at (cond b v (record v { store = deliver_step v.store serial })) p orb ≡ ticket_at v p orb
      by true = refl
      by false = refl

  module _ (run : Option Told) (told_bytes : BytesTold run) (p : Packet) (read : reading one.bytes ≡ Ok p) (some : is_some (reply_kind p) ≡ true) (label : LabelParts) (new : Layer Purpose) (q : ℕ) (e : judging_step node.layer one.generation one.bytes ≡ (of_response p label (Some (purposes.Agent q)), new)) (login : Login) (there : login_at node q ≡ Some login) (served : served_login node q ≡ Some login) (live : is_live login ≡ true) (which : Which) (is_which : which_in (desk_at node q) (header_in p).source label ≡ Some which) (kept : Asked) (kept_is : kept_as which (desk_at node q) ≡ Some kept) (b : q < 8) where
    abbrev d : Desk
    d = desk_at node q

    abbrev left : NodeState
    left = record node { layer = new }

    abbrev answer : Answer
    answer = answer_in p

    abbrev plain : PlainDisk
    plain = plain_in node.units s.media.disks login.unit

    abbrev own : AgentStep × Machine
    own = reply_step d.agent q plain run which answer

    -- what is told
    abbrev given : OutboxState
    given = (concluded run (Some (purposes.Agent q)) (header_in p).source label answer (with_layer new (whole_of node s.media))).outbox

    abbrev By : Option Login → Option Which → OutboxState
    By login which = (replied_by run q answer login which (with_layer new (whole_of node s.media))).outbox

    tells : Tells q new login own.0 own.1 node.logins.places empty_outbox given
    unfolding concluded replied_to
    tells =
        subst (λ x. Tells q new login own.0 own.1 node.logins.places empty_outbox (By x (which_in d (header_in p).source label))) (sym served)
        (subst (λ k. Tells q new login own.0 own.1 node.logins.places empty_outbox (By (Some login) k)) (sym is_which)
        (advance_tells q b left (good units ready has start past s here).mid.size run login which answer empty_outbox s.media.disks))

    abbrev A : Agent
    A = agent_at T q

    abbrev i : ℕ
    i = initiator_at T wire q

    abbrev law_step : PlainDisk → List Note → AgentStep × Machine
    law_step x rest = reply_step A.machine q x (told_among i rest x) which answer

    abbrev law_turn : PlainDisk → List Note → AgentTurn
    law_turn x rest = record { place = q; untold = untold_among i rest x A.untold; which = which; step = (law_step x rest).0; machine = (law_step x rest).1 }

    turn_is : (rest : List Note) → turn_in start (t rest) ≡ Some (law_turn plain rest)
    turn_is rest =
        ap (λ x. agent_turn x T wire rest) (event_is units ready has start s here.holds site here.units_are.each serial judged rest one found zero_to p read some label new (Some (purposes.Agent q)) e q refl login there which is_which)
        ∙ ap (λ x. Some (law_turn x rest)) (plain_is units ready has start s here.holds site here.units_are.each serial judged rest one found zero_to p read some label new (Some (purposes.Agent q)) e q refl login there which is_which)

    list_same : (rest : List Note) → list_taken start ms q ≡ list_taken start (said (notes.Got serial) ∷ ms) q
    list_same rest =
        sym (ap (λ x. listed_at x ms T wire q (list_taken start ms q)) (event_is units ready has start s here.holds site here.units_are.each serial judged rest one found zero_to p read some label new (Some (purposes.Agent q)) e q refl login there which is_which))

    -- over what a run told
    module _ (rest : List Note) (told : Option Told) (v : Bool) (told_is : told_among i rest plain ≡ told) (untold_is : untold_among i rest plain A.untold ≡ cond (is_some own.0.ran) v A.untold) (tells_alike : TellsAlike v (told_or told) (told_or run)) where
      steps : StepsAlike A.untold v (law_step plain rest) own
      steps =
          subst (λ x. StepsAlike A.untold v (reply_step A.machine q plain x which answer) own) (sym told_is)
          (alike units ready has start s here.holds site here.units_are.each serial judged rest one found zero_to p read some label new (Some (purposes.Agent q)) e q refl login there which is_which v told run tells_alike)

      machine_alike : Alike (law_turn plain rest).untold (law_step plain rest).1 own.1
      machine_alike = subst (λ u. Alike u (law_step plain rest).1 own.1) (sym untold_is) steps.alike

      module _ (o : OutboxState) (x : NodeState) (o_is : o ≡ given) (rest_is : rest ≡ handed 0 0 o (with_note (notes.Got serial) (marked serial again (with_target x w)))) where
        abbrev now : WorldState
        now = with_note (notes.Got serial) (marked serial again (with_target x w))

        beside : AreBeside o.sides
        beside = let g = tells.goes in subst AreBeside (sym (ap (λ (y : OutboxState). y.sides) o_is ∙ g.is)) g.beside

        ends : of_kind is_end_note rest ≡ ends_noted (holder w) (ticket_at w) (brought_sides q own.1 (brought (found_at q new login own.0 own.1) own.0 own.1.phase))
        ends =
            ap (of_kind is_end_note) rest_is
            ∙ (beside_handed (holder w) (ticket_at w) 0 o now (still_holder (with_target x w), still_ticket (with_target x w)) beside
            ∙ ap (ends_noted (holder w) (ticket_at w)) (ap (λ (y : OutboxState). ends_in y.sides) o_is ∙ tells.ends))

        writes : writes_to (suc i) rest ≡ all_writes (suc i) (requests q login (found_at q new login own.0 own.1) new tells.behind own.0 own.1)
        writes =
            let out = requests q login (found_at q new login own.0 own.1) new tells.behind own.0 own.1 in
            let mine = initiator_is units ready has start past s here q login there live ∙ holder_is units ready has start past s here q login there live in
            ap (writes_to (suc i)) rest_is
            ∙ turn_writes (suc i) w.generations node.logins.places (good units ready has start past s here).table.sound q login there live (peer_is units ready start past s here q login there live ∙ ap (λ n. Some (suc n)) (sym mine)) o now [] out
            (still_bus (with_target x w)) (beside_others o.sides beside) tt (requests_to_peer q login (found_at q new login own.0 own.1) new tells.behind own.0 own.1)
            (subst (λ (y : OutboxState). Pushes node.logins.places login.unit q out y.packets) (sym o_is) tells.sends)

        sends : SendsOwn start (t rest) login.node (suc i) (requests q login (found_at q new login own.0 own.1) new tells.behind own.0 own.1)
        sends =
            let out = requests q login (found_at q new login own.0 own.1) new tells.behind own.0 own.1 in
            let mine = initiator_is units ready has start past s here q login there live ∙ holder_is units ready has start past s here q login there live in
            sends_alone start (t rest) login.node (suc i) w.generations (peer_is units ready start past s here q login there live ∙ ap (λ n. Some (suc n)) (sym mine)) o now
            (still_bus (with_target x w)) (beside_others o.sides beside) rest_is node.logins.places login.unit q out
            (none_due start ms serial (as_sending one) (was_sent w here.holds.sound.stands serial one found) rest (response_is one.bytes p read some))
            (subst (λ (y : OutboxState). Pushes node.logins.places login.unit q out y.packets) (sym o_is) tells.sends)

        counted : length (behind_answer start (t rest)) ≡ length (requests q login (found_at q new login own.0 own.1) new tells.behind own.0 own.1) + pushed_in rest
        counted =
            let out = requests q login (found_at q new login own.0 own.1) new tells.behind own.0 own.1 in
            let pushes : Pushes node.logins.places login.unit q out o.packets = subst (λ (y : OutboxState). Pushes node.logins.places login.unit q out y.packets) (sym o_is) tells.sends in
            let c : length o.packets + 0 ≡ 0 + length out + pushes_told o.sides = subst (λ (y : OutboxState). length y.packets + 0 ≡ 0 + length out + pushes_told y.sides) (sym o_is) tells.counted in
            turn_counts start (t rest) w.generations node.logins.places (λ k other f up. ap (λ x. is_some x) (peer_is units ready start past s here k other f up)) login.node (suc (held_i units ready start past s here q login there live)) (peer_is units ready start past s here q login there live) out
            (requests_to_peer q login (found_at q new login own.0 own.1) new tells.behind own.0 own.1) login.unit q o now (beside_others o.sides beside) rest_is
            o.packets pushes.more
            (all_alone start (t rest) w.generations o now (still_bus (with_target x w)) (beside_others o.sides beside) rest_is
            (none_due start ms serial (as_sending one) (was_sent w here.holds.sound.stands serial one found) rest (response_is one.bytes p read some)))
            pushes.is pushes.pushes (omega (arith, c))

        is_turn : IsTurnOf start T (t rest) (law_turn plain rest) own.0 own.1 login new
        is_turn = record {
          step_is = steps.step;
          alike = machine_alike;
          shaped = reply_shaped d.agent q plain run which answer;
          carried = reply_carries d (desk_fits units ready has start past s here q b) which kept kept_is q plain run answer;
          fits = reply_body units ready has start past s here q login there live q plain run which answer told_bytes
              (answer_small p (bytes_of p one.bytes (spelled one.bytes p read) (ours w here.holds.sound.stands serial one found).bytes));
          fifo = fifo_is units ready has start past s here q login there live;
          law_sized = reply_sized A.machine q plain (told_among i rest plain) which answer;
          sized = reply_sized d.agent q plain run which answer;
          finds = λ body fit.
              response_finds units ready start past s here q login there live serial one found zero_to p label (Some (purposes.Agent q)) new e body fit
              ∙ ap (λ n. finds_label (terms (said (notes.Got serial) ∷ ms)) 0 (suc n) body) (sym (initiator_is units ready has start past s here q login there live ∙ holder_is units ready has start past s here q login there live));
          spells = response_spells units ready start past s here q login there live serial one found zero_to p label (Some (purposes.Agent q)) new e;
          fits_lost = again_body units ready has start past s here q login there live own.1
              (reply_fits d.agent q plain run which answer told_bytes (answer_small p (bytes_of p one.bytes (spelled one.bytes p read) (ours w here.holds.sound.stands serial one found).bytes)) (here.holds.sound.nodes.target_holds.fits.agents q)).agent;
          tame = (replied_leaves d.agent q plain run which answer).tame;
          ahead = reply_ahead d (desk_fits units ready has start past s here q b) which kept kept_is q plain run answer;
          fits_ahead = reply_ahead_body units ready has start past s here q login there live q plain run which answer told_bytes
              (answer_small p (bytes_of p one.bytes (spelled one.bytes p read) (ours w here.holds.sound.stands serial one found).bytes));
          labels = subst (λ n. KnowsLabels (terms (said (notes.Got serial) ∷ ms)) 0 (suc n) login.node new)
              (sym (initiator_is units ready has start past s here q login there live ∙ holder_is units ready has start past s here q login there live))
              (response_labels units ready start past s here q login there live serial one found zero_to p label (Some (purposes.Agent q)) new e);
          behind = tells.behind;
          behind_is = tells.behind_is;
          writes = writes;
          sends = sends;
          counted = counted;
          holders = holder w;
          tickets = ticket_at w;
          told = ends;
          initiator = sym (initiator_is units ready has start past s here q login there live);
          list = sym (here.taken q b (up_by units ready has start past s here q b which kept kept_is)) ∙ list_same rest;
          names = names_are units ready has start past s here q login there live;
          stands = stands_are units ready has start past s here q login there live;
        }

        pub agent_ends : TellsEnds start (t rest)
        agent_ends = turn_tells start (t rest) (Some (law_turn plain rest)) (turn_is rest) (has_steps own.0 own.1 login new is_turn)
