-- At each place of a run in which nobody injected packets, what the management operation asks for behind the response to its request finds a label: a read does; a write behind a read does; and the status
-- block behind the response that was written is another write than that.
use Rattle.sbp_world.proofs.Words.Std.{arith, ◌≡◌, ◌∙◌, refl, sym, ap, subst, inl, ◌<◌, ◌≤◌, ◌==◌, ℕ, suc, nat_le, Bool, true, false, cond, List, length, Option, Some, None, same_Some}
use Rattle.sbp_world.proofs.Words.Wire.{Access, Body, Finding, FitsRequest, Layer, Moment, Node, Packet, RowFacts, Sent, Terms, bare, bare_after, bare_finding, block_read, block_write, disowning_step, header_in, is_last, judging_step, last_for, layer_facts, largest, of_response, quadlet_read, read_block_response, read_quadlet_response, write_response, lock_response, read_quadlet, read_block, write_quadlet, write_block, lock, reply_kind, terms, transaction, unlabelled, with_label}
use Rattle.sbp_world.proofs.Words.Target.{Disk, ManagerStep, Operation, Purpose, Table, answer_in, manager_body}
use Rattle.sbp_world.proofs.Words.Initiator.{Answer, Ask, FailCause, Payload, start_of, write_failure}
use Rattle.sbp_world.proofs.Words.Laws.{id_for}
use Rattle.sbp_world.proofs.Words.World.{GoodIn, IsItsFifo, IsTame, Stands, WorldState, more_deliveries, of_login, of_place, write_access}
use Rattle.bus_memory.specs.declared.window.Window.TheVariants as windows
use Rattle.bus_transactions.proofs.Bares.{takes_steps}
use Rattle.bus_transactions.proofs.FitJudged.{bytes_of, spelled}
use Rattle.bus_transactions.proofs.JudgedStep.{JudgedAs, Responds, judged_step}
use Rattle.bus_transactions.proofs.Places.{Places}
use Rattle.bus_transactions.proofs.Steps.{Same, disowns, same_layer}
use Rattle.label_table.specs.declared.reply.ReplyKind.TheVariants as kinds
use Rattle.mgmt_agent.specs.Machine.{reply_step}
use Rattle.mgmt_agent.specs.Machine as management
use Rattle.mgmt_agent.specs.declared.operation.Phase.{Phase}
use Rattle.mgmt_agent.specs.declared.operation.Phase.TheVariants as phases
use Rattle.orb_layout.specs.declared.ask.Ask.TheVariants as asks
use Rattle.sbp_target.specs.declared.purpose.Purpose.TheVariants as purposes
use Rattle.sbp_world.specs.Completing.LabelsAsked.{MayAsk, other, quadlet, read}
use Rattle.sbp_world.specs.Completing.LabelsFollowing.{AreServed, IsAnswering, ReadsServe}
use Rattle.sbp_world.specs.Completing.LabelsFound.{IsResponse, Serves}
use Rattle.sbp_world.specs.Completing.Managed.{FindsLaw, GaveUp, IsManagedReply, ManagedFinds, none_yet, one_more}
use Rattle.sbp_world.specs.Completing.OperationsReplies.{IsWhole}
use Rattle.sbp_world.proofs.Agents.Management.Holding.{Holding, is_of, ours}
use Rattle.sbp_world.proofs.Agents.Management.Still.{hist}
use Rattle.sbp_world.proofs.Agents.Purposes.{last_bare, state_bare}
use Rattle.sbp_world.proofs.Completing.AnswersRuns.{by_places}
use Rattle.sbp_world.proofs.Completing.LabelsFollowing.{reads_law, served_law}
use Rattle.sbp_world.proofs.Completing.ManagedBuffers.{last_reach}
use Rattle.sbp_world.proofs.Completing.ManagedPlaces as place
use Rattle.sbp_world.proofs.Completing.ManagedRuns.{RunKit, before_here, kits}
use Rattle.sbp_world.proofs.Completing.ManagedWrites.{buffer_write}
use Rattle.sbp_world.proofs.FitTarget.Demands.{answer_small}
use Rattle.sbp_world.proofs.FitTarget.Manager.{FitsReply, managed_fits}
use Rattle.sbp_world.proofs.FitTarget.Nodes.{IfBody, manager_body_fits}
use Rattle.sbp_world.proofs.Lists.BufferClears.{own_at}
use Rattle.sbp_world.proofs.Lists.Clauses.{open_lists_law}
use Rattle.sbp_world.proofs.Lists.Courses.{EveryPlace, more_than_one}
use Rattle.sbp_world.proofs.Lists.ListsProved.{closing}
use Rattle.sbp_world.proofs.Wire.Bus.{holds}
use Rattle.sbp_world.proofs.Wire.Holding.{KnownTo}
use Rattle.sbp_world.proofs.Lists.StatusSteps.{none_wrote}
use Rattle.sbp_world.proofs.Hosts.Owing.{done_or}

-- what is known of the response, but of one to the status block
abbrev IsWholeBut : Phase → Answer → Type 0
IsWholeBut phases.Status answer = Unit {0}
IsWholeBut phase answer = IsWhole phase answer

-- ---- a layer that gave transactions up
then_same : (one two three : Node) → Same one two → Same two three → Same one three
then_same one two three s d = record {
  stays = record { generation = d.stays.generation ∙ s.stays.generation; node = d.stays.node ∙ s.stays.node; filter = d.stays.filter ∙ s.stays.filter };
  places = d.places;
  states_are = λ t m. d.states_are t m ∙ s.states_are t m;
  lasts_are = λ t m. d.lasts_are t m ∙ s.lasts_are t m;
  owners_are = d.owners_are ∙ s.owners_are;
}

gave_up : (first layer : Layer Purpose) → Places (bare first).generation (bare first).peers → GaveUp first layer → Same (bare first) (bare layer)
gave_up first _ p none_yet = same_layer (bare first) p
gave_up first _ p (one_more layer peer label g) =
    let s = gave_up first layer p g in
    subst (λ l. Same (bare first) l) ((takes_steps Purpose).disowns layer peer label) (then_same (bare first) (bare layer) (disowning_step (bare layer) peer label) s (disowns (bare layer) peer label s.places))

serves_then : (first layer : Layer Purpose) (peer : ℕ) (body : Body) → Same (bare first) (bare layer) → Serves first peer body → Serves layer peer body
serves_then first layer peer body s x =
    let last : last_for layer.peers peer x.number ≡ last_for first.peers peer x.number = sym (last_bare layer peer x.number) ∙ (s.lasts_are peer x.number ∙ last_bare first peer x.number) in
    let node : layer.node ≡ first.node = s.stays.node in
    record {
      number = x.number;
      small = x.small;
      free = sym (state_bare layer peer x.number) ∙ (s.states_are peer x.number ∙ (state_bare first peer x.number ∙ x.free));
      other = ap (λ o. is_last o (with_label x.number (unlabelled layer peer body))) last ∙ (ap (λ n. is_last (last_for first.peers peer x.number) (with_label x.number (unlabelled (record first { node = n }) peer body))) node ∙ x.other);
    }

-- ---- what may be asked for
may_read : (layer : Layer Purpose) (peer : ℕ) (b c : Bool) (offset len : ℕ) (body : Body) → cond b (Some (quadlet_read offset)) (cond c (Some (block_read offset len)) None) ≡ Some body → MayAsk layer peer (Some body)
may_read layer peer true c offset len body e = subst (λ x. MayAsk layer peer (Some x)) (same_Some (quadlet_read offset) body e) (quadlet offset)
may_read layer peer false true offset len body e = subst (λ x. MayAsk layer peer (Some x)) (same_Some (block_read offset len) body e) (read offset len)
may_read layer peer false false offset len body e = absurd (let no : None ≡ Some body = e in cc)

may_write : (layer : Layer Purpose) (peer : ℕ) (b : Bool) (offset : ℕ) (out : List ℕ) (body : Body) → cond b (Some (block_write offset out)) None ≡ Some body → IfBody (cond b (Some (block_write offset out)) None) → (FitsRequest (block_write offset out) → Serves layer peer (block_write offset out)) → MayAsk layer peer (Some body)
may_write layer peer true offset out body e fits f = subst (λ x. MayAsk layer peer (Some x)) (same_Some (block_write offset out) body e) (other (block_write offset out) (f fits))
may_write layer peer false offset out body e fits f = absurd (let no : None ≡ Some body = e in cc)

may_body : (layer : Layer Purpose) (peer : ℕ) (ask : Ask) (out : List ℕ) (body : Body) → manager_body ask out ≡ Some body → IfBody (manager_body ask out) → ((offset size : ℕ) → ask ≡ asks.Write offset size → FitsRequest (block_write offset out) → Serves layer peer (block_write offset out)) → MayAsk layer peer (Some body)
may_body layer peer (asks.Read offset len) out body e fits f = may_read layer peer (len == 4) (nat_le len largest) offset len body e
may_body layer peer (asks.Write offset size) out body e fits f = may_write layer peer (nat_le (length out) largest) offset out body e fits (f offset size refl)
may_body layer peer asks.Nothing out body e fits f = absurd (let no : None ≡ Some body = e in cc)

-- ---- by the phase
same_offset : (a b c d : ℕ) → asks.Write a b ≡ asks.Write c d → c ≡ a
same_offset a b c d e = cc

module _ (m : management.Machine) (table : Table) (keys : List (List ℕ)) (answer : Answer) (op : Operation) (is : m.operation ≡ Some op) where
  ask_in : (phase : Phase) → op.phase ≡ phase → (reply_step m table keys answer).0.ask ≡ (management.reply_in phase m op table keys answer).0.ask
  unfolding reply_step
  ask_in phase e = ap (λ o. (management.reply_to o m table keys answer).0.ask) is ∙ ap (λ x. (management.reply_in x m op table keys answer).0.ask) e

  written : (failure : Option FailCause) (fifo offset size : ℕ) → (management.response_written failure m op fifo).0.ask ≡ asks.Write offset size → offset ≡ fifo
  written None fifo offset size e = same_offset fifo 8 offset size e
  written (Some cause) fifo offset size e = absurd (none_wrote offset size e)

  response_ask : (fifo : ℕ) → op.phase ≡ phases.Response fifo → (offset size : ℕ) → (reply_step m table keys answer).0.ask ≡ asks.Write offset size → offset ≡ fifo
  response_ask fifo e offset size f = written (write_failure answer) fifo offset size (sym (ask_in (phases.Response fifo) e) ∙ f)

  over : (failure : Option FailCause) (offset size : ℕ) → (management.status_written failure m).0.ask ≡ asks.Write offset size → ⊥
  over None offset size e = none_wrote offset size e
  over (Some cause) offset size e = none_wrote offset size e

  status_ask : op.phase ≡ phases.Status → (offset size : ℕ) → (reply_step m table keys answer).0.ask ≡ asks.Write offset size → ⊥
  status_ask e offset size f = over (write_failure answer) offset size (sym (ask_in phases.Status e) ∙ f)

read_answer : (p : Packet) (bytes : List ℕ) → answer_in p ≡ Payload bytes → reply_kind p ≡ Some kinds.Write → ⊥
read_answer (write_response header rcode) bytes e k = done_or (rcode == 0) rcode bytes e
read_answer (read_quadlet_response header rcode value) bytes e k = cc
read_answer (read_block_response header rcode payload) bytes e k = cc
read_answer (lock_response header rcode extended payload) bytes e k = cc
read_answer (write_quadlet header offset value) bytes e k = cc
read_answer (write_block header offset payload) bytes e k = cc
read_answer (read_quadlet header offset) bytes e k = cc
read_answer (read_block header offset count) bytes e k = cc
read_answer (lock header offset extended payload) bytes e k = cc

-- a FIFO of an initiator is in no response buffer
apart_fifo : (fifo place : ℕ) → place < 2 → IsItsFifo fifo → fifo ≡ start_of (windows.Response place) → ⊥
apart_fifo fifo place small (of_login own) e = let is = own.is in omega (arith, small, is, e)
apart_fifo fifo place small (of_place at b is) e = omega (arith, small, is, e)

-- ---- at a place
module _ (units ready : ℕ) (has : 0 < units) (start : List Disk) {past : List Moment} {lines : ℕ} (w : WorldState) (h : Holding units ready start past lines w) (k : RunKit start (hist past w) w) (tame : IsTame (hist past w)) (reads_serve : ReadsServe (hist past w) w) (serves : AreServed (hist past w) w) where
  abbrev ms : List Moment
  ms = hist past w

  abbrev t : Terms
  t = terms ms

  abbrev stands : Stands past w
  stands = h.sound.stands

  module _ (sent : Sent) (packet : Packet) (m : IsManagedReply w sent packet) (op : Operation) (is : w.target.manager.operation ≡ Some op) where
    abbrev layer : Layer Purpose
    layer = w.target.layer

    abbrev left : Layer Purpose
    left = (judging_step layer sent.generation sent.bytes).1

    abbrev j : ℕ
    j = place.j units ready has start w h k.kit tame sent packet m op is

    within : j < length w.initiators
    within = place.within units ready has start w h k.kit tame sent packet m op is

    abbrev F : RowFacts
    F = layer_facts (bare layer) sent.generation sent.bytes

    places : Places layer.generation (bare layer).peers
    places = subst (λ (l : Node). Places l.generation l.peers) (stands.is.layers_are 0 (omega arith)) ((holds stands.wire stands.reached).nodes 0).places

    responds_by : (r : Finding Purpose × Layer Purpose) → r.0 ≡ of_response packet m.label (Some purposes.Management) → JudgedAs (bare layer) sent.bytes F (bare_after bare_finding r) → Responds (bare layer) (bare r.1) sent.bytes F packet
    responds_by (finding, new) f x = subst (λ (g : Finding Purpose). JudgedAs (bare layer) sent.bytes F (bare_finding g, bare new)) f x

    responds : Responds (bare layer) (bare left) sent.bytes F packet
    responds =
        responds_by (judging_step layer sent.generation sent.bytes) m.found
        (subst (JudgedAs (bare layer) sent.bytes F) ((takes_steps Purpose).judges layer sent.generation sent.bytes) (judged_step (bare layer) sent.generation sent.bytes places))

    places_left : Places (bare left).generation (bare left).peers
    places_left = responds.frees.shows.places

    -- the response, and the request that it answers
    from_it : sent.from ≡ suc j
    from_it = place.from_it units ready has start w h k.kit tame sent packet m op is

    source_is : (header_in packet).source ≡ id_for t 0 (suc j)
    source_is =
        (is_of w stands m.comes.serial sent m.comes.found).source packet (place.read_is units ready has start w h k.kit tame sent packet m op is).read
        ∙ (ap (λ g. t.ids g sent.from) (place.in_generation units ready has start w h k.kit tame sent packet m op is) ∙ ap (λ n. id_for t 0 n) from_it)

    response_is : IsResponse w sent.generation sent.bytes packet (id_for t 0 (suc j))
    response_is = record { label = m.label; purpose = Some purposes.Management; found = m.found; source = source_is }

    inside : suc j ≤ length w.initiators
    inside = let b = within in omega (arith, b)

    abbrev ask : ℕ
    ask = place.ask units ready has start w h k.kit tame sent packet m op is

    answering : IsAnswering ms w sent.generation sent.bytes packet (suc j) ask
    answering =
        let waits = place.waits_for_it units ready has start w h k.kit tame sent packet m op is in
        record {
          inside = inside;
          response_is = response_is;
          kind = waits.kind;
          waited = ap (λ n. t.held (transaction (t.generation 0) 0 n (header_in packet).label)) (sym from_it) ∙ waits.is;
        }

    op_source : op.source ≡ id_for t 0 (suc j)
    op_source = place.source_is units ready has start w h k.kit tame sent packet m op is

    abbrev s : ManagerStep × (management.Machine × Table)
    s = reply_step w.target.manager w.target.logins w.target.keys (answer_in packet)

    behind_read : (bytes : List ℕ) → answer_in packet ≡ Payload bytes → (offset : ℕ) → FitsRequest (block_write offset s.1.0.outgoing) → Serves left op.source (block_write offset s.1.0.outgoing)
    behind_read bytes e offset fits =
        subst (λ n. Serves left n (block_write offset s.1.0.outgoing)) (sym op_source)
        (reads_serve sent.generation sent.bytes packet (suc j) inside response_is (read_answer packet bytes e) offset s.1.0.outgoing fits)

    behind_response : (fifo : ℕ) → op.phase ≡ phases.Response fifo → (offset size : ℕ) → s.0.ask ≡ asks.Write offset size → FitsRequest (block_write offset s.1.0.outgoing) → Serves left op.source (block_write offset s.1.0.outgoing)
    behind_response fifo phase offset size e fits =
        let g = k.kit.managed.ground in
        let operation = place.operation units ready has start w h k.kit tame sent packet m op is in
        let manages = place.manages units ready has start w h k.kit tame sent packet m op is in
        let access_is = place.access_is units ready has start w h k.kit tame sent packet m op is in
        let reach = last_reach start ms k.kit.told.answers (k.reach tame) in
        let b = buffer_write start ms g.known.counts g.known.are op fifo ask operation phase manages reach _ access_is in
        let good : IsItsFifo fifo = subst GoodIn phase (own_at units ready has start w h g j within (tame j) k.kit.managed.shorts (k.kit.managed.based (inl tame) j within (tame j)) op is (place.source_there units ready has start w h k.kit tame sent packet m op is)).good in
        let at : offset ≡ fifo = response_ask w.target.manager w.target.logins w.target.keys (answer_in packet) op is fifo phase offset size e in
        subst (λ n. Serves left n (block_write offset s.1.0.outgoing)) (sym op_source)
        (serves sent.generation sent.bytes packet (suc j) ask answering offset s.1.0.outgoing fits
        (λ same.
        apart_fifo fifo b.place b.small good (sym at ∙ (ap (λ (x : Access). x.offset) (same_Some (write_access offset s.1.0.outgoing) _ (sym same ∙ access_is)) ∙ ap (λ (x : Access). x.offset) b.is))))

    serves_in : (phase : Phase) → op.phase ≡ phase → IsWholeBut phase (answer_in packet) → (offset size : ℕ) → s.0.ask ≡ asks.Write offset size → FitsRequest (block_write offset s.1.0.outgoing) → Serves left op.source (block_write offset s.1.0.outgoing)
    serves_in phases.Orb e whole offset size f fits = behind_read whole.bytes whole.is offset fits
    serves_in (phases.HighEui orb) e whole offset size f fits = behind_read whole.bytes whole.is offset fits
    serves_in (phases.LowEui orb high) e whole offset size f fits = behind_read whole.bytes whole.is offset fits
    serves_in (phases.Response fifo) e whole offset size f fits = behind_response fifo e offset size f fits
    serves_in phases.Status e whole offset size f fits = absurd (status_ask w.target.manager w.target.logins w.target.keys (answer_in packet) op is e offset size f)

    whole_in : (phase : Phase) → op.phase ≡ phase → IsWholeBut phase (answer_in packet)
    whole_in phases.Status e = tt
    whole_in phases.Orb e = subst (λ x. IsWhole x (answer_in packet)) e (before_here units ready has start w h k tame sent packet m op is (λ x. let no : phases.Orb ≡ phases.Status = sym e ∙ x in cc))
    whole_in (phases.HighEui orb) e = subst (λ x. IsWhole x (answer_in packet)) e (before_here units ready has start w h k tame sent packet m op is (λ x. let no : phases.HighEui orb ≡ phases.Status = sym e ∙ x in cc))
    whole_in (phases.LowEui orb high) e = subst (λ x. IsWhole x (answer_in packet)) e (before_here units ready has start w h k tame sent packet m op is (λ x. let no : phases.LowEui orb high ≡ phases.Status = sym e ∙ x in cc))
    whole_in (phases.Response fifo) e = subst (λ x. IsWhole x (answer_in packet)) e (before_here units ready has start w h k tame sent packet m op is (λ x. let no : phases.Response fifo ≡ phases.Status = sym e ∙ x in cc))

    fits_body : IfBody (manager_body s.0.ask s.1.0.outgoing)
    fits_body =
        let read = (place.read_is units ready has start w h k.kit tame sent packet m op is).read in
        let small = (ours w stands m.comes.serial sent m.comes.found).bytes in
        let fits : FitsReply (KnownTo w.generations.seen) w.target.logins s =
        managed_fits (KnownTo w.generations.seen) w.target.manager w.target.logins w.target.keys (answer_in packet) (answer_small packet (bytes_of packet sent.bytes (spelled sent.bytes packet read) small)) h.sound.nodes.target_holds.fits.manager in
        manager_body_fits s.0.ask s.1.0.outgoing fits.ask fits.manager.outgoing

    finds : (body : Body) → manager_body s.0.ask s.1.0.outgoing ≡ Some body → (later : Layer Purpose) → GaveUp left later → MayAsk later op.source (Some body)
    finds body e later g =
        may_body later op.source s.0.ask s.1.0.outgoing body e fits_body
        (λ offset size f fits. serves_then left later op.source (block_write offset s.1.0.outgoing) (gave_up left later places_left g) (serves_in op.phase refl (whole_in op.phase refl) offset size f fits))

  pub finds_here : ManagedFinds w
  finds_here sent packet m op is body e later g = finds sent packet m op is body e later g

-- ---- each place of a run
record FindKit (start : List Disk) (past : List Moment) (w : WorldState) : Type 0 where
  kit : RunKit start past w
  reads : ReadsServe past w
  serves : AreServed past w

find_kits : EveryPlace FindKit
find_kits = record {
  after_lines = λ line run r has small size so_far. record { kit = kits.after_lines line run r has small size so_far; reads = reads_law.after_lines line run r has small size; serves = served_law.after_lines line run r has small size };
  between = λ line run r has small size next most told m so_far. record {
    kit = kits.between line run r has small size next most told m so_far;
    reads = reads_law.between line run r has small size next most told m;
    serves = served_law.between line run r has small size next most told m;
  };
}

find_places : EveryPlace (λ start past w. IsTame past → ManagedFinds w)
find_places = by_places FindKit (λ start past w. IsTame past → ManagedFinds w) (λ units ready has start past lines w h k tame. finds_here units ready has start w h k.kit tame k.reads k.serves) find_kits

pub managed_finds_law : FindsLaw
managed_finds_law = record {
  after_lines = λ line run r has small size tame. find_places.after_lines line run r has small size (closing.before open_lists_law line run r has small size (inl tame)) tame;
  between = λ line run r has small size next most told m tame.
      find_places.between line run r has small size next most told m (closing.between open_lists_law line run r has small size next (more_deliveries most) (more_than_one most) told m (inl tame)) tame;
}
