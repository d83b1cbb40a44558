-- Each delivery to the target goes on where the response to the main transaction of an agent is complete, and a write that it asks for behind that finds a label: what agents read is what their lists hold, and requests find labels.
use Rattle.sbp_world.proofs.Words.Std.{arith, ◌≡◌, ◌∙◌, refl, sym, ap, subst, inl, ◌<◌, ◌≤◌, ◌+◌, ◌==◌, ℕ, suc, nat_eq, is_some, Bool, true, false, cond, List, [], ◌∷◌, ◌++◌, length, map, Option, Some, None, Result, Ok, Err, same_Some, true≢false}
use Rattle.sbp_world.proofs.Words.Wire.{Cmd, Event, LabelParts, Layer, Moment, Packet, Sent, asked, header_in, judging_step, lock, lock_response, of_response, read_block, read_block_response, read_quadlet, read_quadlet_response, said, terms, write_block, write_quadlet, write_response}
use Rattle.sbp_world.proofs.Words.Target.{Access, AgentStep, Ahead, Disk, Held, Login, Machine, Main, Phase, PlainDisk, Purpose, Told, Which, agent_body, ahead_read, ahead_step, answer_in, demand_of, desk_at, is_ahead, is_barred, is_live, is_reset, login_at, plain_in, quiet, reply_step, served_login, state_in, which_in}
use Rattle.sbp_world.proofs.Words.Initiator.{Answer, Ask, Done, FailCause, Refused, payload_of}
use Rattle.sbp_world.proofs.Words.Laws.{command_at, id_for, linked, slot_at, wants}
use Rattle.sbp_world.proofs.Words.World.{AllBrought, AreAlong, IsCalm, IsFor, IsTame, MayTell, OpenLists, WorldState, after, after_all, beginning, begun, has_list, history_of, initiator_in, machine_at, more_deliveries}
use Rattle.command_agent.specs.declared.phase.Phase.TheVariants as phases
use Rattle.orb_layout.specs.declared.ask.Ask.TheVariants as asks
use Rattle.sbp_journal.specs.declared.event.Action.TheVariants as actions
use Rattle.sbp_journal.specs.declared.event.Event.TheVariants as events
use Rattle.sbp_journal.specs.declared.note.Note.TheVariants as notes
use Rattle.sbp_laws.specs.Lists.{cmd_of}
use Rattle.sbp_laws.specs.Turns.{event_of}
use Rattle.sbp_target.specs.declared.purpose.Purpose.TheVariants as purposes
use Rattle.sbp_target.proofs.Histories.Calling.{Good, not_eight}
use Rattle.sbp_target.proofs.Histories.Following.{IsServed}
use Rattle.sbp_target.proofs.Histories.Settled.{reaches}
use Rattle.target_base.specs.declared.address.Demand.TheVariants as demands
use Rattle.sbp_world.specs.Completing.Deaths.{AreGiven, AreLegal, DeliveriesGoOn, GoesOn, GoesOnThere, IsLegal, IsLegalAt, NoneDied, WhereKept, WritesFind}
use Rattle.sbp_world.specs.Completing.Labels.{AlwaysFrom, AlwaysWhere}
use Rattle.sbp_world.specs.Completing.LabelsAsked.{IsNoWrite, MayAsk}
use Rattle.sbp_world.specs.Completing.LabelsFound.{FindsLabels}
use Rattle.sbp_world.proofs.Agents.Management.Holding.{Holding}
use Rattle.sbp_world.proofs.Agents.Management.Still.{hist}
use Rattle.sbp_world.proofs.Agents.Mild.{reply_mild}
use Rattle.sbp_world.proofs.Agents.Mild as milds
use Rattle.sbp_world.proofs.Agents.Purposes.{g}
use Rattle.sbp_world.proofs.Common.{none_is}
use Rattle.sbp_world.proofs.Completing.DeathsReplies.{replies_live}
use Rattle.sbp_world.proofs.Completing.DeathsRuns.{none_dies_where}
use Rattle.sbp_world.proofs.Completing.DeathsTold.{read_asks}
use Rattle.sbp_world.proofs.Completing.LabelsFound.{found_law}
use Rattle.sbp_world.proofs.Completing.LabelsPlaces.{IsHolding, holding_everywhere}
use Rattle.sbp_world.proofs.Lists.Bringing.{read_prepared}
use Rattle.sbp_world.proofs.Lists.Clauses.{open_lists_law}
use Rattle.sbp_world.proofs.Lists.Courses.{more_than_one}
use Rattle.sbp_world.proofs.Lists.Heard as heard
use Rattle.sbp_world.proofs.Lists.ListsProved.{closing}
use Rattle.sbp_world.proofs.Lists.MainSlots as main_slots
use Rattle.sbp_world.proofs.Lists.MainSlotsRuns.{kit_everywhere}
use Rattle.sbp_world.proofs.Lists.RunLaws.{along_law, brings_law}
use Rattle.sbp_world.proofs.Lists.RunTells.{served_there}
use Rattle.sbp_world.proofs.Lists.ShortLines.{short_law}
use Rattle.sbp_world.proofs.Lists.Sites.{Site, Waiting}
use Rattle.sbp_world.proofs.Lists.Sites as sites
use Rattle.sbp_world.proofs.Lists.StillTurns.{site_at}

-- ---- the command of an ORB is one of a line
legal_asked : (line : ℕ) (event : Event) (past : List Moment) → IsLegalAt (asked line event) past → (cmd : Cmd) → cmd_of (Some event) ≡ Some cmd → IsLegal cmd
legal_asked line (events.Act i (actions.Put c)) past l cmd e = subst IsLegal (same_Some c cmd e) l
legal_asked line (events.Act i (actions.Append c)) past l cmd e = subst IsLegal (same_Some c cmd e) l
legal_asked line event past l cmd e = none_is cmd e

legal_event : (past : List Moment) → AreLegal past → (cmd : Cmd) → cmd_of (event_of past) ≡ Some cmd → IsLegal cmd
legal_event [] l cmd e = none_is cmd e
legal_event (asked line event ∷ past) l cmd e = legal_asked line event past l.0 cmd e
legal_event (said note ∷ past) l cmd e = legal_event past l.1 cmd e

legal_by : (x y z : Bool) (new old : Option Cmd) (cmd : Cmd) → (new ≡ Some cmd → IsLegal cmd) → (old ≡ Some cmd → IsLegal cmd) → cond x (cond y (cond z new old) old) old ≡ Some cmd → IsLegal cmd
legal_by true true true new old cmd f g e = f e
legal_by true true false new old cmd f g e = g e
legal_by true false z new old cmd f g e = g e
legal_by false y z new old cmd f g e = g e

legal_command : (past : List Moment) → AreLegal past → (i n k : ℕ) (cmd : Cmd) → command_at past i n k ≡ Some cmd → IsLegal cmd
legal_command [] l i n k cmd e = none_is cmd e
legal_command (said (notes.Append j m q cdb buffer) ∷ past) l i n k cmd e =
    legal_by (nat_eq i j) (nat_eq n m) (nat_eq k q) (cmd_of (event_of past)) (command_at past i n k) cmd (λ f. legal_event past l.1 cmd f) (λ f. legal_command past l.1 i n k cmd f) e
legal_command (moment ∷ past) l i n k cmd e = legal_command past l.1 i n k cmd e

-- ---- a step
no_write : (ask : Ask) → wants ask true ≡ false → IsNoWrite ask
no_write asks.Nothing e = tt
no_write (asks.Read offset size) e = tt
no_write (asks.Write offset size) e = absurd (true≢false e)

given_if : (b : Bool) (rcode : ℕ) (x : Answer) → milds.IsGiven x → milds.IsGiven (cond b x (Refused rcode))
given_if true rcode x h = h
given_if false rcode x h = tt

given_answer : (p : Packet) → milds.IsGiven (answer_in p)
given_answer (read_quadlet_response header rcode value) = given_if (rcode == 0) rcode _ tt
given_answer (read_block_response header rcode payload) = given_if (rcode == 0) rcode _ tt
given_answer (write_response header rcode) = given_if (rcode == 0) rcode Done tt
given_answer (lock_response header rcode extended payload) = given_if (rcode == 0) rcode Done tt
given_answer (write_quadlet header offset value) = tt
given_answer (write_block header offset payload) = tt
given_answer (read_quadlet header offset) = tt
given_answer (read_block header offset count) = tt
given_answer (lock header offset extended payload) = tt

ahead_asks : (m : Machine) (place : ℕ) (plain : PlainDisk) (told : Option Told) (answer : Answer) → (reply_step m place plain told Ahead answer).0.ask ≡ asks.Nothing
unfolding reply_step
ahead_asks m place plain told answer = by (is_ahead m.ahead)
  where
    read_by : (r : Result (List ℕ) FailCause) → (ahead_read m r).0.ask ≡ asks.Nothing
    read_by (Ok bytes) = refl
    read_by (Err cause) = refl

    by : (b : Bool) → (cond b (ahead_step m answer) (quiet, m)).0.ask ≡ asks.Nothing
    by true = read_by (payload_of answer 32)
    by false = refl

-- an agent that has a list open is out of RESET
list_up : (phase : Phase) → has_list phase ≡ true → is_reset (state_in phase) ≡ false
list_up phases.Reset e = absurd (true≢false (sym e))
list_up phases.Fetching e = refl
list_up phases.ReadingTable e = refl
list_up (phases.ReadingData wanted) e = refl
list_up phases.Answering e = refl
list_up phases.WritingStatus e = refl
list_up phases.WritingLastStatus e = refl
list_up phases.ReadingNext e = refl
list_up phases.Suspended e = refl
list_up phases.Dead e = refl

-- ---- a place
module _ (units ready : ℕ) (has : 0 < units) (start : List Disk) {past : List Moment} {lines : ℕ} (w : WorldState) (h : Holding units ready start past lines w) (s : Site start past w) (lists : OpenLists (hist past w) w) (along : AreAlong (hist past w) w) (brought : (i : ℕ) → IsCalm (hist past w) i → AllBrought (hist past w) w i) (tame : IsTame (hist past w)) (legal : AreLegal (hist past w)) (finds : (i : ℕ) → i < length w.initiators → FindsLabels w.target.layer (id_for (terms (hist past w)) 0 (suc i))) (given : AreGiven w) (writes : WritesFind w) where
  abbrev ms : List Moment
  ms = hist past w

  G : Good w.target
  G = g units ready has start w h

  -- requests to a live login find labels
  login_finds : (place : ℕ) (login : Login) → login_at w.target place ≡ Some login → is_live login ≡ true → FindsLabels w.target.layer login.node
  login_finds place login there live =
      let hold = s.held.held place login there in
      let of = (hold.live live).of in
      let i = hold.holder.initiator in
      subst (FindsLabels w.target.layer) (ap (λ n. id_for (terms ms) 0 n) (let e : suc i ≡ i + 1 = omega arith in e) ∙ of.node_is) (finds i of.small)

  served_finds : (place : ℕ) (served : IsServed w.target place) (login : Login) → login_at w.target place ≡ Some login → FindsLabels w.target.layer login.node
  served_finds place served login there =
      let same : served.login ≡ login = same_Some served.login login (sym served.is ∙ there) in
      login_finds place login there (ap is_live (sym same) ∙ served.live)

  module _ (sent : Sent) (f : IsFor w sent) (run : Option Told) (media : Held) (may : MayTell run sent w.target media) where
    abbrev layer : Layer Purpose
    layer = (judging_step w.target.layer sent.generation sent.bytes).1

    -- ---- a response to an agent
    module _ (packet : Packet) (label : LabelParts) (place : ℕ) (found : (judging_step w.target.layer sent.generation sent.bytes).0 ≡ of_response packet label (Some (purposes.Agent place))) (login : Login) (served : served_login w.target place ≡ Some login) where
      abbrev m : Machine
      m = machine_at w place

      abbrev plain : PlainDisk
      plain = plain_in w.target.units media.disks login.unit

      small : place < 8
      small = heard.small units ready has start w h s.agents.requests s.agents.are s.agents.known s.asked f.serial sent f.found f.to packet label place found

      there : login_at w.target place ≡ Some login
      there = served_there w.target place login served

      module _ (which : Which) (is_which : which_in (desk_at w.target place) (header_in packet).source label ≡ Some which) where
        abbrev step : AgentStep × Machine
        step = reply_step m place plain run which (answer_in packet)

        abbrev request : ℕ
        request = (heard.waiting units ready has start w h s.agents.requests s.agents.are s.agents.known s.asked f.serial sent f.found f.to packet label place found).serial

        wait : Waiting units ready has start w h s place small which request
        wait = sites.waiting units ready has start w h s place small which request
            (heard.waits_so units ready has start w h s.agents.requests s.agents.are s.agents.known s.asked f.serial sent f.found f.to packet label place found which is_which)

        goes_on : step.0.dead ≡ None → MayAsk layer login.node (agent_body step.0.ask (is_some step.0.ended) login.fifo step.1.outgoing) → GoesOn w.target layer place login step
        goes_on alive asks_so = record {
          there = (let size = G.mid.size in let b = small in omega (arith, size, b));
          alive = alive;
          finds = served_finds place (G.mid.served place small (not_eight place small) (list_up m.phase wait.is_open)) login there;
          asks = asks_so;
          ahead = no_write step.0.ahead (reply_mild m place plain run which (answer_in packet) (given_answer packet)).reads;
        }

      main_goes : (is_which : which_in (desk_at w.target place) (header_in packet).source label ≡ Some Main) → GoesOn w.target layer place login (reply_step m place plain run Main (answer_in packet))
      main_goes is_which = goes_on Main is_which alive (asks_by step_now.0.ask refl)
        where
          q : Waiting units ready has start w h s place small Main (request Main is_which)
          q = wait Main is_which

          step_now : AgentStep × Machine
          step_now = reply_step m place plain run Main (answer_in packet)

          i : ℕ
          i = initiator_in w place

          alive : (reply_step m place plain run Main (answer_in packet)).0.dead ≡ None
          alive =
              let o = lists.listed place small q.is_open (tame i) in
              let goes = along.all place small q.is_open (tame i) o.n o.list in
              let p = goes.progress in
              replies_live.main (linked ms i o.n) (slot_at ms i o.n) (command_at ms i o.n) p m place plain run (answer_in packet)
              (λ below cmd command.
              let prepared = read_prepared units ready has start w h s lists place small q.is_open q.inside (tame i) o.n o.list p.ended p.ended goes.is (inl ((let z : p.ended ≤ p.ended = omega arith in z), below)) in
              let filled = s.filled i q.inside (slot_at ms i o.n p.ended) o.n p.ended cmd prepared.small prepared.there command in
              record { small = prepared.small; legal = legal_command ms legal i o.n p.ended cmd command; whole = filled.fills.whole; short = filled.fills.short; few = filled.fills.few })
              goes.along (brought i (tame i) sent f packet label place Main found is_which small refl o.n o.list p goes.is goes.along)
              (given sent packet place (record { comes = f; label = label; found = found; main = is_which; small = small }))

          asks_by : (ask : Ask) → step_now.0.ask ≡ ask → MayAsk layer login.node (agent_body step_now.0.ask (is_some step_now.0.ended) login.fifo step_now.1.outgoing)
          asks_by (asks.Write offset size) e = writes sent packet place login (record { comes = f; label = label; found = found; main = is_which; small = small }) there run media may offset size e
          asks_by asks.Nothing e = read_asks layer login.node (is_some step_now.0.ended) login.fifo step_now.1.outgoing step_now.0.ask (subst IsNoWrite (sym e) tt)
          asks_by (asks.Read offset size) e = read_asks layer login.node (is_some step_now.0.ended) login.fifo step_now.1.outgoing step_now.0.ask (subst IsNoWrite (sym e) tt)

      goes_by : (which : Which) (is_which : which_in (desk_at w.target place) (header_in packet).source label ≡ Some which) → GoesOn w.target layer place login (reply_step m place plain run which (answer_in packet))
      goes_by Main is_which = main_goes is_which
      goes_by Ahead is_which =
          let x = reply_step m place plain run Ahead (answer_in packet) in
          goes_on Ahead is_which (replies_live.ahead m place plain run (answer_in packet))
          (read_asks layer login.node (is_some x.0.ended) login.fifo x.1.outgoing x.0.ask (subst IsNoWrite (sym (ahead_asks m place plain run (answer_in packet))) tt))

    -- ---- a request for a register
    registers_go : (p : Packet) (place : ℕ) (access : Access) → is_barred w.target p ≡ false → demand_of (length w.target.rom) p ≡ demands.Agent place access → (place < length w.target.desks) × ((login : Login) → login_at w.target place ≡ Some login → FindsLabels w.target.layer login.node)
    registers_go p place access b d =
        let r = reaches w.target G p place access b d in
        let small = r.small in
        let size = G.mid.size in
        (omega (arith, small, size), λ login there. served_finds place r.served login there)

  deliveries_go : DeliveriesGoOn w
  deliveries_go sent f run media may = record {
    replies = λ packet label place found login served which is_which. goes_by sent f run media may packet label place found login served which is_which;
    registers = λ p place access found b d. registers_go sent f run media may p place access b d;
  }

-- ---- each place of a run
place_goes : (start : List Disk) (now : List Moment) (w : WorldState) → IsHolding start now w → main_slots.Kit start now w → OpenLists now w → AreAlong now w → ((i : ℕ) → IsCalm now i → AllBrought now w i) → IsTame now → AreLegal now → ((i : ℕ) → i < length w.initiators → FindsLabels w.target.layer (id_for (terms now) 0 (suc i))) → AreGiven w → WritesFind w → DeliveriesGoOn w
place_goes start now w h kit lists along brought tame legal finds given writes =
    let back = sym h.is in
    deliveries_go h.units h.ready h.has start w h.holds (site_at start h.past w (subst (λ ms. main_slots.Kit start ms w) back kit).ground) (subst (λ ms. OpenLists ms w) back lists) (subst (λ ms. AreAlong ms w) back along)
    (subst (λ ms. (i : ℕ) → IsCalm ms i → AllBrought ms w i) back brought) (subst IsTame back tame) (subst AreLegal back legal)
    (subst (λ ms. (i : ℕ) → i < length w.initiators → FindsLabels w.target.layer (id_for (terms ms) 0 (suc i))) back finds) given writes

module _ (While : List Moment → Type 0) (all_given : AlwaysWhere While (WhereKept AreGiven)) (all_find : AlwaysFrom (WhereKept WritesFind)) where
  going : AlwaysWhere While GoesOnThere
  going = record {
    after_lines = λ line run r has small size so tame legal l few.
        let before = closing.before open_lists_law line run r has small size (inl tame) in
        let lists = open_lists_law.after_lines line run r has small size (inl tame) in
        place_goes run.start.disks (history_of line run) (after (beginning run) run.entries).world (holding_everywhere.after_lines line run r has small size)
        ((kit_everywhere short_law open_lists_law).after_lines line run r has small size before) lists (along_law.after_lines line run r has small size before) (brings_law.after_lines line run r has small size before lists) tame legal
        (λ i b. found_law.after_lines line run r has small size tame l i b (few i b))
        (all_given.after_lines line run r has small size so tame legal l few) (all_find.after_lines line run r has small size tame legal l few);
    between = λ line run r has small size next most told m so tame legal l few.
        let event = more_deliveries most in
        let d = more_than_one most in
        let before = closing.between open_lists_law line run r has small size next event d told m (inl tame) in
        let lists = open_lists_law.between line run r has small size next event d told m (inl tame) in
        let w = (after_all told (begun (after (beginning run) run.entries))).world in
        place_goes run.start.disks (map said w.fresh ++ asked next event ∷ history_of line run) w (holding_everywhere.between line run r has small size next most told m)
        ((kit_everywhere short_law open_lists_law).between line run r has small size next most told m before) lists (along_law.between line run r has small size next event d told m before) (brings_law.between line run r has small size next event d told m before lists) tame legal
        (λ i b. found_law.between line run r has small size next most told m tame l i b (few i b))
        (all_given.between line run r has small size next most told m so tame legal l few) (all_find.between line run r has small size next most told m tame legal l few);
  }

pub living_where : (While : List Moment → Type 0) → ((later past : List Moment) → While (later ++ past) → While past) → AlwaysWhere While (WhereKept AreGiven) → AlwaysFrom (WhereKept WritesFind) → AlwaysWhere While NoneDied
living_where While back all_given all_find = none_dies_where While back (going While all_given all_find)
