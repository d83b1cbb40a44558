-- Behind a response a write finds the label of the request that was answered, unless this was the same write; so does a write that an agent asks for behind a reply to its main transaction.
use Rattle.sbp_world.proofs.Words.Std.{◌≡◌, ◌∙◌, refl, sym, ap, subst, ℕ, ◌+◌, ◌^◌, ◌<◌, Bool, true, false, List, ◌∷◌, ◌++◌, map, length, Err, Ok, Result, Some, none-some, same_Some, ◌≤◌}
use Rattle.sbp_world.proofs.Words.Wire.{Access, FitsRequest, Kind, Layer, Moment, Packet, PacketFault, Sent, asked, block_write, header_in, is_last, judging_step, kind_as, lock, part_by, part_of, read_block, read_quadlet, reading, request, said, terms, unlabelled, waits, with_label, write_block, write_quadlet, writing}
use Rattle.sbp_world.proofs.Words.Target.{Disk, Login, Purpose, login_at, main_under, writes_status}
use Rattle.sbp_world.proofs.Words.Initiator.{Ask, Nothing, Read, Write}
use Rattle.sbp_world.proofs.Words.Laws.{access_at, access_in, access_in_bytes, agent_at, id_for, initiator_at, over, packet_in, spelled_by, target_at}
use Rattle.sbp_world.proofs.Words.World.{AreAgentsAt, AreAskedAt, AreHeldAt, IsAccessFor, Stands, WorldState, after, after_all, beginning, begun, history_of, machine_at, more_deliveries, write_access}
use Rattle.command_agent.specs.declared.step.Which.TheVariants.{Main}
use Rattle.sbp_target.specs.declared.purpose.Purpose.TheVariants as purposes
use Rattle.std.specs.Str.{bytes_eq}
use Rattle.std.proofs.lemmas.Slice.Eq.{bytes_eq-Decides}
use Rattle.sbp_target.proofs.Histories.Following.{IsServed}
use Rattle.sbp_world.specs.Completing.LabelsFollowing.{AllFollow, AreServed, FollowingLaw, FollowsReply, IsAnswering, IsNext, IsOther, IsOtherThan, IsReadAnswer, ReadsLaw, ReadsServe, ServedLaw}
use Rattle.sbp_world.specs.Completing.LabelsFound.{IsResponse, Serves}
use Rattle.sbp_world.specs.Counting.Brings.{IsMainReply}
use Rattle.sbp_world.proofs.Agents.AskedAgents.{main_asked, main_served}
use Rattle.sbp_world.proofs.Agents.AskedBytes.{reads_back}
use Rattle.sbp_world.proofs.Agents.AskedPackets.{Asked}
use Rattle.sbp_world.proofs.Agents.AskedRuns.{asked_between_law, asked_run_law}
use Rattle.sbp_world.proofs.Agents.CrewRuns.{agents_between_law, agents_run_law}
use Rattle.sbp_world.proofs.Agents.Holders.{holders_between_law, holders_law}
use Rattle.sbp_world.proofs.Agents.Management.Holding.{ours}
use Rattle.sbp_world.proofs.Agents.Management.Still.{hist}
use Rattle.sbp_world.proofs.Agents.Purposes.{law}
use Rattle.sbp_world.proofs.Common.{untrue}
use Rattle.sbp_world.proofs.Completing.LabelsClosed.{are_closed}
use Rattle.sbp_world.proofs.Completing.LabelsKnown.{id_small}
use Rattle.sbp_world.proofs.Completing.LabelsOwned.{waits_to}
use Rattle.sbp_world.proofs.Completing.LabelsPlaces.{IsHolding, holding_everywhere}
use Rattle.sbp_world.proofs.Lists.Courses.{more_than_one}
use Rattle.sbp_world.proofs.Lists.Heard.{asked_by_it, source_is, under, waiting, waits_so}

-- ---- a response
other_bytes : (last bytes : List ℕ) → (last ≡ bytes → ⊥) → bytes_eq last bytes ≡ false
other_bytes last bytes n = by (bytes_eq last bytes) refl
  where
    by : (b : Bool) → bytes_eq last bytes ≡ b → b ≡ false
    by true e = absurd (n ((bytes_eq-Decides last bytes).0 e))
    by false e = refl

same_serial : (a b : Kind) (one two : ℕ) → waits a one ≡ waits b two → one ≡ two
same_serial a b one two e = cc

-- a request that writes waits for the answer to a write
write_kind : (r : Result Packet PacketFault) (label : ℕ) (kind : Kind) (access : Access) → part_by r ≡ request label kind → access_in (spelled_by r) ≡ Some access → access.is_write ≡ true → kind ≡ writing
write_kind (Err fault) label kind access e f w = absurd (none-some access f)
write_kind (Ok (write_quadlet header offset value)) label kind access e f w = cc
write_kind (Ok (write_block header offset payload)) label kind access e f w = cc
write_kind (Ok (read_quadlet header offset)) label kind access e f w = untrue (ap (λ (x : Access). x.is_write) (same_Some _ access f) ∙ w)
write_kind (Ok (read_block header offset count)) label kind access e f w = untrue (ap (λ (x : Access). x.is_write) (same_Some _ access f) ∙ w)
write_kind (Ok (lock header offset extended payload)) label kind access e f w = untrue (ap (λ (x : Access). x.is_write) (same_Some _ access f) ∙ w)
write_kind (Ok _) label kind access e f w = absurd (none-some access f)

module _ {start : List Disk} {now : List Moment} (w : WorldState) (h : IsHolding start now w) where
  -- a response to a read
  module _ (generation : ℕ) (bytes : List ℕ) (p : Packet) (node : ℕ) (inside : node ≤ length w.initiators) (response_is : IsResponse w generation bytes p (id_for (terms now) 0 node)) (reads : IsReadAnswer p) (offset : ℕ) (payload : List ℕ) (fits : FitsRequest (block_write offset payload)) where
    abbrev behind : Layer Purpose
    behind = (judging_step w.target.layer generation bytes).1

    abbrev to : ℕ
    to = id_for (terms now) 0 node

    abbrev Label : ℕ
    Label = (header_in p).label

    read_served : Serves behind to (block_write offset payload)
    unfolding part_of
    read_served =
        let c = are_closed w h generation bytes p node response_is in
        let labelled = with_label Label (unlabelled behind to (block_write offset payload)) in
        let low = subst (λ ms. id_for (terms ms) 0 node < 2 ^ 16) h.is (id_small w h node inside) in
        let back = reads_back behind.node to Label (block_write offset payload) labelled low c.closed.small fits refl in
        let different : (c.packet.bytes ≡ labelled) → ⊥ = λ e.
        reads (c.answered ∙ ap (λ (k : Kind). Some (kind_as k)) (write_kind (reading c.packet.bytes) Label c.kind (write_access offset payload) c.part (ap access_in_bytes e ∙ back) refl)) in
        record {
          number = Label;
          small = c.closed.small;
          free = c.closed.free;
          other = ap (λ o. is_last o labelled) c.closed.last ∙ other_bytes c.packet.bytes labelled different;
        }

  pub reads_serve : ReadsServe now w
  reads_serve generation bytes p node inside response_is reads offset payload fits = read_served generation bytes p node inside response_is reads offset payload fits

  -- a response
  module _ (generation : ℕ) (bytes : List ℕ) (p : Packet) (node serial : ℕ) (a : IsAnswering now w generation bytes p node serial) (offset : ℕ) (payload : List ℕ) (fits : FitsRequest (block_write offset payload)) (other : IsOther now serial offset payload) where
    abbrev left : Layer Purpose
    left = (judging_step w.target.layer generation bytes).1

    abbrev id : ℕ
    id = id_for (terms now) 0 node

    abbrev number : ℕ
    number = (header_in p).label

    small : id < 2 ^ 16
    small = subst (λ ms. id_for (terms ms) 0 node < 2 ^ 16) h.is (id_small w h node a.inside)

    served : Serves left id (block_write offset payload)
    served =
        let c = are_closed w h generation bytes p node a.response_is in
        let serial_is = same_serial c.kind a.kind c.serial serial (sym c.waited ∙ a.waited) in
        let labelled = with_label number (unlabelled left id (block_write offset payload)) in
        let back = reads_back left.node id number (block_write offset payload) labelled small c.closed.small fits refl in
        let different : (c.packet.bytes ≡ labelled) → ⊥ = λ e. other (ap (λ s. access_at (terms now) s) (sym serial_is) ∙ (ap (λ o. access_in (packet_in o)) c.sent ∙ (ap access_in_bytes e ∙ back))) in
        record {
          number = number;
          small = c.closed.small;
          free = c.closed.free;
          other = ap (λ o. is_last o labelled) c.closed.last ∙ other_bytes c.packet.bytes labelled different;
        }

  pub are_served : AreServed now w
  are_served generation bytes p node serial a offset payload fits other = served generation bytes p node serial a offset payload fits other

pub reads_law : ReadsLaw
reads_law = record {
  after_lines = λ line run r has small size. reads_serve (after (beginning run) run.entries).world (holding_everywhere.after_lines line run r has small size);
  between = λ line run r has small size next most told m. reads_serve (after_all told (begun (after (beginning run) run.entries))).world (holding_everywhere.between line run r has small size next most told m);
}

pub served_law : ServedLaw
served_law = record {
  after_lines = λ line run r has small size. are_served (after (beginning run) run.entries).world (holding_everywhere.after_lines line run r has small size);
  between = λ line run r has small size next most told m. are_served (after_all told (begun (after (beginning run) run.entries))).world (holding_everywhere.between line run r has small size next most told m);
}

-- ---- a reply to an agent
other_by : (ask : Ask) (is_status : Bool) (fifo : ℕ) (outgoing : List ℕ) (access : Access) → IsAccessFor ask is_status fifo access → (access.is_write ≡ true → access.payload ≡ outgoing) → (offset : ℕ) (payload : List ℕ) → IsOtherThan ask is_status fifo outgoing offset payload → access ≡ write_access offset payload → ⊥
other_by (Write at size) is_status fifo outgoing access asks has offset payload n same =
    n (ap (λ (x : Access). x.offset) (sym asks.0 ∙ same)) (sym (has (ap (λ (x : Access). x.is_write) same)) ∙ ap (λ (x : Access). x.payload) same)
other_by (Read at size) is_status fifo outgoing access asks has offset payload n same = untrue (sym (ap (λ (x : Access). x.is_write) asks) ∙ ap (λ (x : Access). x.is_write) same)
other_by Nothing is_status fifo outgoing access asks has offset payload n same = absurd asks

module _ {start : List Disk} {now : List Moment} (w : WorldState) (h : IsHolding start now w) (crew : AreAgentsAt start now w) (asks : AreAskedAt start now) (held : AreHeldAt start now w) where
  abbrev pub there : List Moment
  there = hist h.past w

  here : IsHolding start there w
  here = record { units = h.units; ready = h.ready; has = h.has; past = h.past; lines = h.lines; holds = h.holds; is = refl }

  pub crew_there : AreAgentsAt start there w
  crew_there = subst (λ ms. AreAgentsAt start ms w) (sym h.is) crew

  pub asks_there : AreAskedAt start there
  asks_there = subst (AreAskedAt start) (sym h.is) asks

  pub held_there : AreHeldAt start there w
  held_there = subst (λ ms. AreHeldAt start ms w) (sym h.is) held

  module _ (one : Sent) (packet : Packet) (place : ℕ) (login : Login) (m : IsMainReply w one packet place) (at : login_at w.target place ≡ Some login) where
    abbrev stands : Stands h.past w
    stands = h.holds.sound.stands

    abbrev pub serial : ℕ
    serial = asked_by_it h.units h.ready h.has start w h.holds crew_there.requests crew_there.are crew_there.known asks_there m.comes.serial one m.comes.found m.comes.to packet m.label place m.found

    pub is_main : (agent_at (over (target_at start there)) place).main ≡ Some serial
    is_main = waits_so h.units h.ready h.has start w h.holds crew_there.requests crew_there.are crew_there.known asks_there m.comes.serial one m.comes.found m.comes.to packet m.label place m.found Main m.main

    abbrev pub served_there : IsServed w.target place
    served_there = main_served h.units h.ready h.has start w h.holds crew_there.requests crew_there.are crew_there.known held_there place m.small serial is_main

    pub login_is : served_there.login ≡ login
    login_is = same_Some served_there.login login (sym served_there.is ∙ at)

    pub asked_there : Asked (terms there) serial (initiator_at (over (target_at start there)) (terms there) place + 1) (main_under (machine_at w place)) (writes_status (machine_at w place).phase) served_there.login.fifo (machine_at w place).outgoing
    asked_there = main_asked h.units h.ready h.has start w h.holds crew_there.requests crew_there.are crew_there.known held_there place m.small serial is_main

    abbrev source_id : ℕ
    source_id = id_for (terms there) 0 one.from

    from_is : (header_in packet).source ≡ source_id
    from_is = source_is h.units h.ready h.has start w h.holds crew_there.requests crew_there.are crew_there.known asks_there m.comes.serial one m.comes.found m.comes.to packet m.label place m.found

    answering : IsAnswering there w one.generation one.bytes packet one.from serial
    answering =
        let wait = waiting h.units h.ready h.has start w h.holds crew_there.requests crew_there.are crew_there.known asks_there m.comes.serial one m.comes.found m.comes.to packet m.label place m.found in
        record {
          inside = (ours w stands m.comes.serial one m.comes.found).from;
          response_is = record { label = m.label; purpose = Some (purposes.Agent place); found = m.found; source = from_is };
          kind = wait.kind;
          waited = wait.is;
        }

    to_login : source_id ≡ login.node
    to_login =
        let A = (law h.units h.ready h.has start w h.holds).agents_have place m.small in
        let own = under h.units h.ready h.has start w h.holds crew_there.requests crew_there.are crew_there.known asks_there m.comes.serial one m.comes.found m.comes.to packet m.label place m.found in
        let to = waits_to w.target place A source_id (header_in packet).label (A.no_more source_id (header_in packet).label own) in
        to.to ∙ ap (λ (l : Login). l.node) (same_Some to.login login (sym to.stands ∙ at))

    other_there : (offset : ℕ) (payload : List ℕ) → IsNext (machine_at w place) login offset payload → IsOther there serial offset payload
    other_there offset payload n e =
        other_by (main_under (machine_at w place)) (writes_status (machine_at w place).phase) login.fifo (machine_at w place).outgoing asked_there.access
        (subst (λ (l : Login). IsAccessFor (main_under (machine_at w place)) (writes_status (machine_at w place).phase) l.fifo asked_there.access) login_is asked_there.asks) asked_there.payload offset payload n
        (same_Some asked_there.access (write_access offset payload) (sym asked_there.is ∙ e))

    follows_reply : FollowsReply w one packet place login
    follows_reply = record {
      source = from_is ∙ to_login;
      serves = λ offset payload fits n.
          subst (λ i. Serves (judging_step w.target.layer one.generation one.bytes).1 i (block_write offset payload)) to_login
          (are_served w here one.generation one.bytes packet one.from serial answering offset payload fits (other_there offset payload n));
    }

  pub all_follow : AllFollow now w
  all_follow one packet place login m at = follows_reply one packet place login m at

pub following_law : FollowingLaw
following_law = record {
  after_lines = λ line run r has small size.
      let w = (after (beginning run) run.entries).world in
      all_follow {start = run.start.disks} {now = history_of line run} w (holding_everywhere.after_lines line run r has small size) (agents_run_law line run r.few has small size r.short r.entries r.lines) (asked_run_law line run r.few has small size r.short r.entries r.lines)
      (holders_law line run r.few has small size r.short r.entries r.lines);
  between = λ line run r has small size next most told m.
      let w = (after_all told (begun (after (beginning run) run.entries))).world in
      let event = more_deliveries most in
      let d = more_than_one most in
      all_follow {start = run.start.disks} {now = map said w.fresh ++ asked next event ∷ history_of line run} w (holding_everywhere.between line run r has small size next most told m)
      (agents_between_law line run r.few has small size r.short r.entries r.lines next event d told m) (asked_between_law line run r.few has small size r.short r.entries r.lines next event d told m)
      (holders_between_law line run r.few has small size r.short r.entries r.lines next event d told m);
}
