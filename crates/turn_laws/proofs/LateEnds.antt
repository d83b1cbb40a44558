-- The deaths and ends of a time-out at the target: those of the agent whose transaction it was, and none else.
use Rattle.std.proofs.Common.{arith, ◌+◌, length, ◌≡◌, ◌∙◌, refl, sym, ap, subst, ℕ, suc, ◌<◌, is_some, Bool, true, false, cond, List, [], ◌∷◌, Option, Some, None, Result, Ok, Err}
use Rattle.label_table.specs.Layer.{Layer, expiring_step}
use Rattle.label_table.specs.declared.reply.Stale.{Stale}
use Rattle.login_table.specs.declared.login.Login.{Login}
use Rattle.orb_layout.specs.declared.ask.FailCause.TheVariants as causes
use Rattle.orb_layout.specs.Replies.{Expired}
use Rattle.rbc_disk.specs.Disk.{Disk}
use Rattle.rbc_disk.specs.Units.{PlainDisk}
use Rattle.command_agent.specs.Machine.{Machine}
use Rattle.command_agent.specs.Steps.{lost_step, told_or}
use Rattle.command_agent.specs.declared.step.AgentStep.{AgentStep}
use Rattle.command_agent.specs.declared.step.Which.{Which}
use Rattle.command_agent.proofs.Losing.{reply_lost}
use Rattle.sbp_bus.specs.declared.requests.Request.{Request}
use Rattle.sbp_bus.specs.Requests.{find}
use Rattle.sbp_journal.specs.Outgoings.{OutboxState, empty_outbox}
use Rattle.sbp_journal.specs.Run.{Moment, said}
use Rattle.sbp_journal.specs.Wire.{Terms, terms}
use Rattle.sbp_journal.specs.declared.note.Note.{Note}
use Rattle.sbp_journal.specs.declared.note.Note.TheVariants as notes
use Rattle.sbp_laws.specs.Agents.{AgentTurn, Event, agent_event, agent_turn, nothing, replies, reply_to, told_among, untold_among}
use Rattle.sbp_laws.specs.NoteKinds.{is_end_note, of_kind}
use Rattle.sbp_laws.specs.Packets.{finds_label, sender_in}
use Rattle.sbp_laws.specs.Targets.{Agent, Purpose as TermPurpose, Reply, Target, agent_at, for_agent, for_manager, for_nobody, initiator_at, is_serial, over, plain_for, purpose_of, reply_of, target_at}
use Rattle.sbp_laws.specs.Turns.{Turn, turn}
use Rattle.sbp_target.specs.declared.desk.Desk.{Desk}
use Rattle.sbp_target.specs.declared.purpose.Sent.{Sent}
use Rattle.sbp_target.specs.declared.purpose.Purpose.{Purpose}
use Rattle.sbp_target.specs.declared.purpose.Purpose.TheVariants as purposes
use Rattle.sbp_target.specs.Agents.{sent_to}
use Rattle.sbp_target.specs.Desks.{which_in}
use Rattle.sbp_target.specs.Nodes.{NodeState, desk_at, scene}
use Rattle.sbp_target.specs.Nodes as target
use Rattle.sbp_target.specs.Receiving.{expire_agent, expired, expired_by, expired_in, timed_out}
use Rattle.sbp_world.specs.Agents.Alike.{Alike, StepsAlike, TellsAlike}
use Rattle.sbp_world.specs.Agents.Serials.{kept_as}
use Rattle.sbp_world.specs.Hosts.Handing.{AreOthers}
use Rattle.sbp_world.specs.Telling.{holder, ticket_at}
use Rattle.sbp_world.specs.Worlds.{Scene, WorldState, with_note, with_target}
use Rattle.sbp_world.proofs.Agents.CrewLapse.{Asked, asked, for_it, handed as handed_for, serving_it, small}
use Rattle.sbp_world.proofs.Agents.CrewSeats.{IsServing}
use Rattle.sbp_world.proofs.Agents.Management.Still.{hist}
use Rattle.sbp_world.proofs.Agents.Steps.{reply_alike}
use Rattle.sbp_world.proofs.Common.{some_none}
use Rattle.sbp_world.proofs.Lists.DueTurns.{plain_told}
use Rattle.sbp_world.proofs.Lists.RunTells.{AreRunless, lapse_runless}
use Rattle.sbp_world.proofs.Lists.Runless.{AllPlain}
use Rattle.turn_laws.proofs.AgentDue.{IsTurnOf, TellsEnds, has_steps, none_tells, turn_in, turn_tells}
use Rattle.turn_laws.proofs.AgentEnds.{Tells, expired_tells, found_at}
use Rattle.turn_laws.proofs.AgentHere.{again_body, desk_fits, fifo_is, good, holder_is, initiator_is, lost_ahead, lost_ahead_body, lost_body, lost_carries, names_are, stands_are, up_by}
use Rattle.turn_laws.proofs.EndNotes.{NoEnds, beside_handed, ends_noted, low_ranks, none_handed}
use Rattle.turn_laws.proofs.FollowEnds.{ends_in}
use Rattle.turn_laws.proofs.EndShapes.{lost_shaped}
use Rattle.turn_laws.proofs.EndSizes.{lost_sized, reply_sized}
use Rattle.turn_laws.proofs.EndTries.{brought, brought_sides}
use Rattle.turn_laws.proofs.FollowSends.{requests, requests_to_peer}
use Rattle.turn_laws.proofs.FollowSides.{AreBeside}
use Rattle.turn_laws.proofs.PushSends.{Pushes, pushes_told}
use Rattle.turn_laws.proofs.TurnCounts.{pushed_in, turn_counts}
use Rattle.turn_laws.proofs.TurnSends.{SendsOwn, all_alone, sends_alone}
use Rattle.turn_laws.proofs.TurnWrites.{all_writes, turn_writes}
use Rattle.sbp_laws.specs.SentRequests.{behind_answer}
use Rattle.sbp_laws.specs.SentWrites.{writes_to}
use Rattle.sbp_world.proofs.FitTarget.Agents.{lost_fits}
use Rattle.sbp_world.proofs.Lists.StatusSteps.{lost_leaves}
use Rattle.turn_laws.proofs.FoundLabels.{late_finds, late_labels, late_spells, peer_is, i as held_i}
use Rattle.sbp_world.proofs.Agents.FreeLabels.{KnowsLabels}
use Rattle.turn_laws.proofs.Handed.{handed}
use Rattle.turn_laws.proofs.OrderManaged.{manages}
use Rattle.turn_laws.proofs.Places.{Place}
use Rattle.turn_laws.proofs.RestRuns.{plain_handed, plain_untold}

-- one of two that are the same
pub if_same : (b x : Bool) → cond b x x ≡ x
if_same true x = refl
if_same false x = refl

module _ (units ready : ℕ) (has : 0 < units) (start : List Disk) (past : List Moment) (s : Scene) (here : Place units ready start past s) (serial : ℕ) (request : Request) (found : find s.world.requests serial ≡ Some request) (zero_is : request.node ≡ 0) where
  abbrev w : WorldState
  w = s.world

  abbrev node : NodeState
  node = w.target

  abbrev ms : List Moment
  ms = hist past w

  abbrev wire : Terms
  wire = terms ms

  abbrev T : Target
  T = over (target_at start ms)

  abbrev t : List Note → Turn
  t rest = turn ms (said (notes.TimedOut serial)) rest

  turn_for : (rest : List Note) (event : Event) → agent_event start (t rest) ≡ event → turn_in start (t rest) ≡ agent_turn event T wire rest
  turn_for rest event e = ap (λ x. agent_turn x T wire rest) e

  module _ (purpose : Option Purpose) (new : Layer Purpose) (e : expiring_step node.layer request.peer request.label ≡ (Ok purpose, new)) where
    a : Asked units ready has start w here.holds serial request found zero_is purpose new e
    a = asked units ready has start w here.holds serial request found zero_is purpose new e

    pub sender : is_serial (sender_in (wire.sent serial)) 0 ≡ true
    sender = ap (λ so. is_serial (sender_in so) 0) a.sent ∙ ap (λ n. is_serial (Some n) 0) a.from

    event_for : (rest : List Note) (for : TermPurpose) → purpose_of T serial ≡ for → agent_event start (t rest) ≡ reply_to for Expired
    event_for rest for f = ap (λ b. cond b (reply_to (purpose_of T serial) Expired) nothing) sender ∙ ap (λ x. reply_to x Expired) f

    -- of the management, and of nobody
    none_for : (rest : List Note) (for : TermPurpose) → purpose_of T serial ≡ for → reply_to for Expired ≡ nothing → agent_event start (t rest) ≡ nothing
    none_for rest for f n = event_for rest for f ∙ n

    -- ---- of an agent
    record LateAgent (q : ℕ) : Type 0 where
      which : Which
      purpose_is : purpose_of T serial ≡ for_agent q which
      sent : Sent
      kept : kept_as which (desk_at node q) ≡ Some sent
      serve : IsServing node q (sent_to request.peer request.label) which

    module _ (q : ℕ) (own : purpose ≡ Some (purposes.Agent q)) where
      b : q < 8
      b = small units ready has start w here.holds serial request found zero_is purpose new e here.agents.requests here.agents.are here.agents.known q own

      its : LateAgent q
      its =
          let k = for_it units ready has start w here.holds serial request found zero_is purpose new e here.agents.requests here.agents.are here.agents.known q own in
          record {
            which = k.which;
            purpose_is = k.is;
            sent = k.kept.sent;
            kept = k.kept.is;
            serve = serving_it units ready has start w here.holds serial request found zero_is purpose new e here.agents.requests here.agents.are here.agents.known q own;
          }

      abbrev login : Login
      login = its.serve.login

      abbrev d : Desk
      d = desk_at node q

      abbrev left : NodeState
      left = record node { layer = new }

      abbrev l : AgentStep × Machine
      l = lost_step d.agent its.which causes.Timeout

      -- what is told
      abbrev given : OutboxState
      given = (timed_out (Some (purposes.Agent q)) request.peer request.label (scene left empty_outbox)).outbox

      abbrev By : Option Login → Option Which → OutboxState
      By login which = (expired_by q login which (scene left empty_outbox)).outbox

      tells : Tells q new login l.0 l.1 node.logins.places empty_outbox given
      unfolding expire_agent
      tells =
          subst (λ x. Tells q new login l.0 l.1 node.logins.places empty_outbox (By x (which_in d request.peer request.label))) (sym its.serve.login_is)
          (subst (λ k. Tells q new login l.0 l.1 node.logins.places empty_outbox (By (Some login) k)) (sym its.serve.which_is)
          (expired_tells q b left (good units ready has start past s here).mid.size login its.which empty_outbox))

      -- by the terms
      abbrev reply : Reply
      reply = record { place = q; which = its.which; answer = Expired }

      abbrev A : Agent
      A = agent_at T q

      abbrev i : ℕ
      i = initiator_at T wire q

      abbrev plain : PlainDisk
      plain = plain_for T reply

      abbrev law_step : List Note → AgentStep × Machine
      law_step rest = reply_of T reply (told_among i rest plain)

      abbrev law_turn : List Note → AgentTurn
      law_turn rest = record { place = q; untold = untold_among i rest plain A.untold; which = its.which; step = (law_step rest).0; machine = (law_step rest).1 }

      turn_is : (rest : List Note) → turn_in start (t rest) ≡ Some (law_turn rest)
      turn_is rest = turn_for rest (replies reply) (event_for rest (for_agent q its.which) its.purpose_is)

      -- so it is for an agent
      pub has_turn : (rest : List Note) → turn_in start (t rest) ≡ None → ⊥
      has_turn rest e = some_none (law_turn rest) (sym (turn_is rest) ∙ e)

      module _ (rest : List Note) (plainly : AllPlain rest) where
        alike : StepsAlike A.untold A.untold (law_step rest) l
        alike =
            let told = told_among i rest plain in
            let tells_none : TellsAlike A.untold (told_or told) (told_or None) =
            subst (λ x. TellsAlike A.untold (told_or x) (told_or None)) (sym (plain_told i rest plain plainly)) (record { outcome = refl; size = refl; answer = λ f. refl }) in
            subst (StepsAlike A.untold A.untold (law_step rest)) (reply_lost d.agent q plain None its.which Expired causes.Timeout refl)
            (reply_alike A.untold A.untold A.machine d.agent q plain told None its.which Expired (here.agents.are.each q b).machine tells_none)

        machine_alike : Alike (law_turn rest).untold (law_step rest).1 l.1
        machine_alike =
            subst (λ u. Alike u (law_step rest).1 l.1) (if_same (is_some l.0.ran) A.untold ∙ sym (plain_untold i rest plain A.untold plainly)) alike.alike

      module _ (o : OutboxState) (v : WorldState) (o_is : o ≡ given) (others : AreOthers o.sides) (runless : AreRunless o.sides) where
        abbrev now : WorldState
        now = with_note (notes.TimedOut serial) (with_target v.target w)

        abbrev rest : List Note
        rest = handed 0 0 o now

        beside : AreBeside o.sides
        beside = let g = tells.goes in subst AreBeside (sym (ap (λ (x : OutboxState). x.sides) o_is ∙ g.is)) g.beside

        ends : of_kind is_end_note rest ≡ ends_noted (holder now) (ticket_at now) (brought_sides q l.1 (brought (found_at q new login l.0 l.1) l.0 l.1.phase))
        ends =
            beside_handed (holder now) (ticket_at now) 0 o now (λ p. refl, λ p orb. refl) beside
            ∙ ap (ends_noted (holder now) (ticket_at now)) (ap (λ (x : OutboxState). ends_in x.sides) o_is ∙ tells.ends)

        writes : writes_to (suc i) rest ≡ all_writes (suc i) (requests q login (found_at q new login l.0 l.1) new tells.behind l.0 l.1)
        writes =
            let there = its.serve.login_is in
            let live = its.serve.live in
            let out = requests q login (found_at q new login l.0 l.1) new tells.behind l.0 l.1 in
            let mine = initiator_is units ready has start past s here q login there live ∙ holder_is units ready has start past s here q login there live in
            turn_writes (suc i) w.generations node.logins.places (good units ready has start past s here).table.sound q login there live (peer_is units ready start past s here q login there live ∙ ap (λ n. Some (suc n)) (sym mine)) o now [] out
            refl others tt (requests_to_peer q login (found_at q new login l.0 l.1) new tells.behind l.0 l.1)
            (subst (λ (y : OutboxState). Pushes node.logins.places login.unit q out y.packets) (sym o_is) tells.sends)

        sends : SendsOwn start (t rest) login.node (suc i) (requests q login (found_at q new login l.0 l.1) new tells.behind l.0 l.1)
        sends =
            let there = its.serve.login_is in
            let live = its.serve.live in
            let out = requests q login (found_at q new login l.0 l.1) new tells.behind l.0 l.1 in
            let mine = initiator_is units ready has start past s here q login there live ∙ holder_is units ready has start past s here q login there live in
            sends_alone start (t rest) login.node (suc i) w.generations (peer_is units ready start past s here q login there live ∙ ap (λ n. Some (suc n)) (sym mine)) o now refl others refl node.logins.places login.unit q out refl
            (subst (λ (y : OutboxState). Pushes node.logins.places login.unit q out y.packets) (sym o_is) tells.sends)

        counted : length (behind_answer start (t rest)) ≡ length (requests q login (found_at q new login l.0 l.1) new tells.behind l.0 l.1) + pushed_in rest
        counted =
            let there = its.serve.login_is in
            let live = its.serve.live in
            let out = requests q login (found_at q new login l.0 l.1) new tells.behind l.0 l.1 in
            let p : Pushes node.logins.places login.unit q out o.packets = subst (λ (y : OutboxState). Pushes node.logins.places login.unit q out y.packets) (sym o_is) tells.sends in
            let c : length o.packets + 0 ≡ 0 + length out + pushes_told o.sides = subst (λ (y : OutboxState). length y.packets + 0 ≡ 0 + length out + pushes_told y.sides) (sym o_is) tells.counted in
            turn_counts start (t rest) w.generations node.logins.places (λ k other e up. ap (λ x. is_some x) (peer_is units ready start past s here k other e up)) login.node (suc (held_i units ready start past s here q login there live)) (peer_is units ready start past s here q login there live) out
            (requests_to_peer q login (found_at q new login l.0 l.1) new tells.behind l.0 l.1) login.unit q o now others refl
            o.packets p.more (all_alone start (t rest) w.generations o now refl others refl refl) p.is p.pushes (omega (arith, c))

        is_turn : IsTurnOf start T (t rest) (law_turn rest) l.0 l.1 login new
        is_turn =
            let plainly = plain_handed o now runless in
            let there = its.serve.login_is in
            let live = its.serve.live in
            record {
              step_is = (alike rest plainly).step;
              alike = machine_alike rest plainly;
              shaped = lost_shaped d.agent its.which causes.Timeout;
              carried = lost_carries d (desk_fits units ready has start past s here q b) its.which its.sent its.kept causes.Timeout;
              fits = lost_body units ready has start past s here q login there live its.which causes.Timeout;
              fifo = fifo_is units ready has start past s here q login there live;
              law_sized = reply_sized A.machine q plain (told_among i rest plain) its.which Expired;
              sized = lost_sized d.agent its.which causes.Timeout;
              finds = λ body fit.
                  late_finds units ready start past s here q login there live serial request found zero_is purpose new e body fit
                  ∙ ap (λ n. finds_label (terms (said (notes.TimedOut serial) ∷ ms)) 0 (suc n) body) (sym (initiator_is units ready has start past s here q login there live ∙ holder_is units ready has start past s here q login there live));
              spells = late_spells units ready start past s here q login there live serial request found zero_is purpose new e;
              fits_lost = again_body units ready has start past s here q login there live l.1 (lost_fits d.agent its.which causes.Timeout (here.holds.sound.nodes.target_holds.fits.agents q)).agent;
              tame = (lost_leaves d.agent its.which causes.Timeout).tame;
              ahead = lost_ahead d (desk_fits units ready has start past s here q b) its.which its.sent its.kept causes.Timeout;
              fits_ahead = lost_ahead_body units ready has start past s here q login there live its.which causes.Timeout;
              labels = subst (λ n. KnowsLabels (terms (said (notes.TimedOut serial) ∷ ms)) 0 (suc n) login.node new)
                  (sym (initiator_is units ready has start past s here q login there live ∙ holder_is units ready has start past s here q login there live))
                  (late_labels units ready start past s here q login there live serial request found zero_is purpose new e);
              behind = tells.behind;
              behind_is = tells.behind_is;
              writes = writes;
              sends = sends;
              counted = counted;
              holders = holder now;
              tickets = ticket_at now;
              told = ends;
              initiator = sym (initiator_is units ready has start past s here q login there live);
              list = sym (here.taken q b (up_by units ready has start past s here q b its.which its.sent its.kept));
              names = names_are units ready has start past s here q login there live;
              stands = stands_are units ready has start past s here q login there live;
            }

        agent_ends : TellsEnds start (t rest)
        agent_ends = turn_tells start (t rest) (Some (law_turn rest)) (turn_is rest) (has_steps l.0 l.1 login new is_turn)

    -- ---- whatever it was for
    module _ (o : OutboxState) (v : WorldState) (others : AreOthers o.sides) (runless : AreRunless o.sides) where
      abbrev after : WorldState
      after = with_note (notes.TimedOut serial) (with_target v.target w)

      abbrev Due : Type 0
      Due = TellsEnds start (t (handed 0 0 o after))

      none_ends : (for : TermPurpose) → purpose_of T serial ≡ for → reply_to for Expired ≡ nothing → NoEnds o.sides → Due
      none_ends for f n h = let rest = handed 0 0 o after in none_tells start (t rest) (none_for rest for f n) (none_handed o after others h)

      by_purpose : (p : Option Purpose) → purpose ≡ p → o ≡ (timed_out p request.peer request.label (scene (record node { layer = new }) empty_outbox)).outbox → Due
      by_purpose None own o_is = none_ends for_nobody ((handed_for units ready has start w here.holds serial request found zero_is purpose new e here.agents.requests here.agents.are here.agents.known).nobody own) refl (subst (λ (x : OutboxState). NoEnds x.sides) (sym o_is) tt)
      by_purpose (Some (purposes.Agent q)) own o_is = agent_ends q own o v o_is others runless
      by_purpose (Some purposes.Management) own o_is =
          none_ends for_manager ((handed_for units ready has start w here.holds serial request found zero_is purpose new e here.agents.requests here.agents.are here.agents.known).operation own) refl
          (subst (λ (x : OutboxState). NoEnds x.sides) (sym o_is) (low_ranks _ 0 (manages (record node { layer = new }) Expired)))
      by_purpose (Some purposes.Unsolicited) own o_is = none_ends for_nobody ((handed_for units ready has start w here.holds serial request found zero_is purpose new e here.agents.requests here.agents.are here.agents.known).unsolicited own) refl (subst (λ (x : OutboxState). NoEnds x.sides) (sym o_is) tt)

  -- ---- a time-out
  abbrev pub Expires : Result (Unit {0}) Stale × target.Scene → Type 0
  Expires (Ok done, x) = AreOthers x.outbox.sides → TellsEnds start (t (handed 0 0 x.outbox (with_note (notes.TimedOut serial) (with_target x.node w))))
  Expires (Err stale, x) = Unit {0}

  by_layer : (r : Result (Option Purpose) Stale × Layer Purpose) → expiring_step node.layer request.peer request.label ≡ r → AreRunless (expired_in r request.peer request.label (scene node empty_outbox)).1.outbox.sides → Expires (expired_in r request.peer request.label (scene node empty_outbox))
  by_layer (Err stale, layer) e runless = tt
  by_layer (Ok purpose, layer) e runless =
      let x = timed_out purpose request.peer request.label (scene (record node { layer = layer }) empty_outbox) in
      λ others. by_purpose purpose layer e x.outbox (with_target x.node w) others runless purpose refl refl

  pub late_ends : Expires (expired request.peer request.label (scene node empty_outbox))
  unfolding expired
  late_ends = by_layer (expiring_step node.layer request.peer request.label) refl (lapse_runless request.peer request.label node)
