-- In a turn in which a reply to the main transaction of an agent comes, of an initiator that injected no packets: the request of it was closed by this packet; so its transactions are new from then on, or reads; and where it was
-- the write of a status block, and was answered with rcode 0, this was answered so.
use Rattle.sbp_world.proofs.Words.Std.{arith, ◌≡◌, ◌∙◌, refl, sym, ap, subst, inl, inr, ◌⊎◌, ◌<◌, ◌≤◌, ◌+◌, ◌&&◌, not, ℕ, suc, Bool, true, false, List, [], ◌∷◌, ◌++◌, length, is_some, Option, Some, None, false≢true, same_Some, none-some}
use Rattle.sbp_world.proofs.Words.Wire.{SerialsCount, as_sending, Access, Event, Moment, asked, said, header_in, judging_step, of_response, found_sent, Part, part_of, request, response, Sending, Terms, opened, terms, Holder, holder_at, or_nobody, Stored}
use Rattle.sbp_world.proofs.Words.Target.{Main, Machine, Disk, NodeState, ReadAhead, which_in, desk_at, answer_in, ahead_ask, Knows, Phase}
use Rattle.sbp_world.proofs.Words.Initiator.{Answer, Done, Expired, NoLabel, Payload, Refused, OrbPointer, At, Null, StatusKind, start, write_failure}
use Rattle.sbp_world.proofs.Words.Laws.{is_cut, IsOpen, ClosesOne, OnceAt, WasServed, is_between, is_done, is_wild, is_write_in, access_at, access_in, answered_as, answered_at, answered_in, closed_by, packet_in, for_agent, got_by, purpose_of, replied_to, Target, agent_at, over, slot_at, target_at, present_list, status_packet, ended_status, ends, lists, EachMoment}
use Rattle.sbp_world.proofs.Words.World.{AreHeldAt, AreOpened, IsAccessFor, IsCalm, IsOpened, IsToHost, SentSo, WorldState, initiator_in, is_open_at, machine_at, orbs, IsOpenAt, has_list}
use Rattle.bus_memory.specs.declared.window.Window.TheVariants as windows
use Rattle.command_agent.specs.declared.phase.Phase.TheVariants as phases
use Rattle.command_agent.specs.declared.phase.ReadAhead.TheVariants as aheads
use Rattle.orb_layout.specs.declared.ask.FailCause.TheVariants as causes
use Rattle.sbp_journal.specs.Transactions.{between, no_packet}
use Rattle.sbp_journal.specs.declared.event.Event.TheVariants as events
use Rattle.sbp_journal.specs.declared.note.Note.TheVariants as notes
use Rattle.sbp_laws.specs.Packets as laws
use Rattle.sbp_target.specs.declared.purpose.Purpose.TheVariants as purposes
use Rattle.sbp_world.specs.Lists.Statuses.{IsTold}
use Rattle.sbp_world.specs.Lists.TakenTurns.{WasAnswered}
use Rattle.sbp_world.specs.Sessions.Joined.{IsJoined}
use Rattle.sbp_world.proofs.Agents.Asides.{over_none}
use Rattle.sbp_world.proofs.Agents.Management.Firsts.{got_here}
use Rattle.sbp_world.proofs.Agents.Management.Holding.{Holding, was_sent}
use Rattle.sbp_world.proofs.Agents.Management.Still.{hist}
use Rattle.sbp_world.proofs.Hosts.Cores.{not_so as up_state}
use Rattle.sbp_world.proofs.Hosts.Remaining.{gets_same, opened_same, remains}
use Rattle.sbp_world.proofs.Hosts.SentMoments.{sent_below, serials_from}
use Rattle.sbp_world.proofs.Lists.DataWaits.{under_way_now}
use Rattle.sbp_world.proofs.Lists.Generations.{moment_generation}
use Rattle.sbp_world.proofs.Lists.Heard.{closed, purpose_so, request_to, tells, waiting, waits_so}
use Rattle.sbp_world.proofs.Lists.ManageSends.{opened_terms}
use Rattle.sbp_world.proofs.Lists.OpenTurns.{listing_up}
use Rattle.sbp_world.proofs.Lists.OrbWaits.{over_twice}
use Rattle.sbp_world.proofs.Lists.OverCalls.{ComesMain, GoesOn}
use Rattle.sbp_world.proofs.Lists.OverTies.{IsBehind, status_is}
use Rattle.sbp_world.proofs.Lists.OverTurned.{IsFresh, IsOverFor, IsReadThen, WritesSince}
use Rattle.sbp_world.proofs.Lists.OverWrites.{HasWrite, has_write, is_written}
use Rattle.sbp_world.proofs.Lists.Passing.{PassLaw}
use Rattle.sbp_world.proofs.Lists.Rises.{Rises}
use Rattle.sbp_world.proofs.Lists.Sites.{Site, Waiting, waiting as agent_waiting}
use Rattle.sbp_world.proofs.Lists.StatusDue.{slot_small}
use Rattle.sbp_world.proofs.Lists.StatusUps.{AllCaught}
use Rattle.sbp_world.proofs.Lists.StatusPlaces.{AllPlacedFor}
use Rattle.sbp_world.proofs.Lists.StatusSteps.{EndsSo}
use Rattle.sbp_world.proofs.Lists.TurnCalls.{Comes, IsCalled, TurnFrom}
use Rattle.sbp_world.proofs.Lists.Turns.{Ready}
use Rattle.sbp_world.proofs.Lists.YoungAgents.{young_over, young_since}

-- ---- as a turn begins
answered_by : (t u : Terms) → u.held ≡ t.held → (part : Part) (sending : Sending) → answered_as part u sending ≡ answered_as part t sending
answered_by t u e (request label kind) sending = refl
answered_by t u e (response label kind) sending = ap (λ h. closed_by (h (between sending sending.to sending.from label)) kind) e
answered_by t u e no_packet sending = refl

answered_so : (t u : Terms) → u.held ≡ t.held → (so : Option Sending) → answered_in u so ≡ answered_in t so
answered_so t u e None = refl
answered_so t u e (Some sending) = answered_by t u e (part_of sending.bytes) sending

held_opened : (event : Event) (t : Terms) → (opened event t).held ≡ t.held
held_opened (events.Reset physical) t = refl
held_opened (events.Repeat serial) t = refl
held_opened _ t = refl

-- the moments at which it begins, by those of the place
pub record BeginsSo (start : List Disk) (place begun : List Moment) : Type 0 where
  pub target : over (target_at start begun) ≡ over (target_at start place)
  pub sent : (terms begun).sent ≡ (terms place).sent
  pub answered : (serial : ℕ) → answered_at (terms begun) serial ≡ answered_at (terms place) serial
  pub generation : (node : ℕ) → (terms begun).generation node ≡ (terms place).generation node
  pub count : (terms begun).count ≡ (terms place).count
  pub present : (i : ℕ) → present_list begun i ≡ present_list place i
  pub statuses : (i n k : ℕ) → ended_status begun i n k ≡ ended_status place i n k
  pub lists_are : (i : ℕ) → lists begun i ≡ lists place i
  pub ends_are : (i n : ℕ) → ends begun i n ≡ ends place i n
  pub cuts_are : (i n : ℕ) → is_cut begun i n ≡ is_cut place i n

pub begins_so : (start : List Disk) (place begun : List Moment) → (begun ≡ place) ⊎ ((line : ℕ) × ((event : Event) × (begun ≡ asked line event ∷ place))) → BeginsSo start place begun
begins_so start place begun (inl e) = subst (BeginsSo start place) (sym e) (record { target = refl; sent = refl; answered = λ serial. refl; generation = λ node. refl; count = refl; present = λ i. refl; statuses = λ i n k. refl; lists_are = λ i. refl; ends_are = λ i n. refl; cuts_are = λ i n. refl })
begins_so start place begun (inr (line, (event, e))) =
    let t = terms place in
    let same = (opened_terms event t).sent in
    subst (BeginsSo start place) (sym e) (record {
      target = over_twice (target_at start place);
      sent = same;
      answered = λ serial. answered_so t (opened event t) (held_opened event t) ((opened event t).sent serial) ∙ ap (λ (f : ℕ → Option Sending). answered_in t (f serial)) same;
      generation = λ node. moment_generation node (asked line event) place refl;
      count = (opened_same event t).count;
      present = λ i. refl;
      statuses = λ i n k. refl;
      lists_are = λ i. refl;
      ends_are = λ i n. refl;
      cuts_are = λ i n. refl;
    })

-- ---- a reply that is done
done_of : (answer : Answer) → write_failure answer ≡ None → is_done answer ≡ true
done_of Done e = refl
done_of (Payload bytes) e = absurd (none-some causes.Grammar (sym e))
done_of (Refused rcode) e = absurd (none-some causes.Refused (sym e))
done_of Expired e = absurd (none-some causes.Timeout (sym e))
done_of NoLabel e = absurd (none-some causes.Label (sym e))

-- a read ahead is a read
reads_ahead : (ahead : ReadAhead) (next : OrbPointer) (fifo : ℕ) (access : Access) → IsAccessFor (ahead_ask ahead next) false fifo access → access.is_write ≡ false
reads_ahead (aheads.UnderWay rung) (At next) fifo access h = ap (λ (x : Access). x.is_write) h
reads_ahead (aheads.UnderWay rung) Null fifo access h = absurd h
reads_ahead aheads.Idle next fifo access h = absurd h
reads_ahead (aheads.Kept orb) next fifo access h = absurd h

both : (a b c : Bool) → a ≡ true → b ≡ true → c ≡ true → a && b && c ≡ true
both true true true e f g = refl
both true true false e f g = absurd (false≢true g)
both true false c e f g = absurd (false≢true f)
both false b c e f g = absurd (false≢true e)

none_of : (a b c : Bool) → a ≡ false → b ≡ false → c ≡ false → not a && not b && not c ≡ true
none_of false false false e f g = refl
none_of false false true e f g = absurd (false≢true (sym g))
none_of false true c e f g = absurd (false≢true (sym f))
none_of true b c e f g = absurd (false≢true (sym e))

-- a packet that spells an access was sent
record IsSome (so : Option Sending) : Type 0 where
  packet : Sending
  is : so ≡ Some packet

some_sent : (so : Option Sending) (access : Access) → access_in (packet_in so) ≡ Some access → IsSome so
some_sent None access e = absurd (none-some access e)
some_sent (Some q) access e = record { packet = q; is = refl }

-- ---- in a turn
module _ (wild : ℕ → Bool) (units ready : ℕ) (has : 0 < units) (start_disks : List Disk) (past : List Moment) (before : WorldState) (later : List Moment) (v : WorldState) {lines : ℕ} (h : Holding units ready start_disks past lines before) (site : Site start_disks past before) (x : TurnFrom wild past before later v) (calm : (i : ℕ) → wild i ≡ false → IsCalm (hist past before) i) where
  abbrev w : WorldState
  w = x.w

  abbrev place : List Moment
  place = hist past before

  abbrev begun : List Moment
  begun = hist later w

  abbrev t : Terms
  t = terms place

  abbrev T : Target
  T = over (target_at start_disks place)

  so : BeginsSo start_disks place begun
  so = begins_so start_disks place begun x.begins

  machine_same : (p : ℕ) → machine_at w p ≡ machine_at before p
  machine_same p = ap (λ (n : NodeState). (desk_at n p).agent) x.target

  initiator_same : (p : ℕ) → initiator_in w p ≡ initiator_in before p
  initiator_same p = ap (λ ps. (holder_at ps p).initiator) x.places

  -- a reply comes
  module _ (c : IsCalled later w v) (q : ℕ) (own : wild (initiator_in w q) ≡ false) (m : ComesMain w c.call q) where
    came : Comes w c.first m.generation m.bytes
    came = c.comes m.run m.disks m.generation m.bytes m.is

    found0 : found_sent came.serial before.store.kept ≡ Some came.sent
    found0 = ap (λ (s : Stored). found_sent came.serial s.kept) (sym x.store) ∙ came.found

    found_as : (judging_step before.target.layer came.sent.generation came.sent.bytes).0 ≡ of_response m.packet m.label (Some (purposes.Agent q))
    found_as =
        ap (λ (n : NodeState). (judging_step n.layer came.sent.generation came.sent.bytes).0) (sym x.target)
        ∙ (ap (λ g. (judging_step w.target.layer g came.sent.bytes).0) came.generation_is ∙ (ap (λ bs. (judging_step w.target.layer m.generation bs).0) came.bytes_is ∙ m.found))

    which_is : which_in (desk_at before.target q) (header_in m.packet).source m.label ≡ Some Main
    which_is = ap (λ (n : NodeState). which_in (desk_at n q) (header_in m.packet).source m.label) (sym x.target) ∙ m.main

    abbrev own_request : ℕ
    own_request = (waiting units ready has start_disks before h site.agents.requests site.agents.are site.agents.known site.asked came.serial came.sent found0 came.to m.packet m.label q found_as).serial

    waits : (agent_at T q).main ≡ Some own_request
    waits = waits_so units ready has start_disks before h site.agents.requests site.agents.are site.agents.known site.asked came.serial came.sent found0 came.to m.packet m.label q found_as Main which_is

    purpose : purpose_of T own_request ≡ for_agent q Main
    purpose = purpose_so units ready has start_disks before h site.agents.requests site.agents.are site.agents.known site.asked came.serial came.sent found0 came.to m.packet m.label q found_as Main which_is

    small : q < 8
    small = (site.asked.handed own_request q Main purpose).0

    asked_for : Waiting units ready has start_disks before h site q small Main own_request
    asked_for = agent_waiting units ready has start_disks before h site q small Main own_request waits

    calm_from : t.injects came.sent.from ≡ false
    calm_from =
        let from_is : came.sent.from ≡ suc (initiator_in before q) = same_Some came.sent.from (suc (initiator_in before q)) (sym (request_to units ready has start_disks before h site.agents.requests site.agents.are site.agents.known site.asked came.serial came.sent found0 came.to m.packet m.label q found_as) ∙ asked_for.to) in
        ap t.injects from_is ∙ calm (initiator_in before q) (ap wild (sym (initiator_same q)) ∙ own)

    closed_there : answered_at (terms begun) came.serial ≡ Some own_request
    closed_there = so.answered came.serial ∙ closed units ready has start_disks before h site.agents.requests site.agents.are site.agents.known site.asked came.serial came.sent found0 came.to m.packet m.label q found_as calm_from

    told_there : laws.answer_in (laws.packet_at (terms begun) came.serial) ≡ answer_in m.packet
    told_there =
        ap (λ (f : ℕ → Option Sending). laws.answer_in (packet_in (f came.serial))) so.sent
        ∙ tells units ready has start_disks before h site.agents.requests site.agents.are site.agents.known site.asked came.serial came.sent found0 came.to m.packet m.label q found_as calm_from

    first_is : c.first ≡ notes.Got came.serial
    first_is = came.got m.packet m.label (Some (purposes.Agent q)) m.found

    abbrev got : List Moment
    got = said (notes.Got came.serial) ∷ begun

    sent_got : (terms got).sent ≡ t.sent
    sent_got = (gets_same ((terms begun).sent came.serial) came.serial (terms begun)).sent ∙ so.sent

    -- its transactions are new, or reads
    abbrev TB : Target
    TB = over (target_at start_disks begun)

    reply_waits : target_at start_disks got ≡ replied_to (for_agent q Main) (laws.answer_in (laws.packet_at (terms begun) came.serial)) TB
    reply_waits =
        got_here start_disks begun came.serial (as_sending came.sent) (ap (λ (f : ℕ → Option Sending). f came.serial) so.sent ∙ was_sent before h.sound.stands came.serial came.sent found0) came.to
        ∙ (ap (λ o. got_by o (terms begun) came.serial TB) closed_there
        ∙ ap (λ y. replied_to y (laws.answer_in (laws.packet_at (terms begun) came.serial)) TB) (ap (λ (y : Target). purpose_of y own_request) so.target ∙ purpose))

    ahead_read : (s : ℕ) → (agent_at TB q).ahead ≡ Some s → IsReadThen got s
    ahead_read s e =
        let r = (site.asked.all q small).ahead s (ap (λ (y : Target). (agent_at y q).ahead) (sym so.target) ∙ e) in
        record {
          access = r.access;
          is = ap (λ (f : ℕ → Option Sending). access_in (packet_in (f s))) sent_got ∙ r.is;
          reads = reads_ahead _ _ _ r.access r.asks;
        }

    pub fresh_then : IsFresh start_disks (said c.first ∷ begun) q
    fresh_then = subst (λ note. IsFresh start_disks (said note ∷ begun) q) (sym first_is) (record {
      due = refl;
      young = young_since (terms got).count (IsReadThen got) start_disks got q TB (laws.answer_in (laws.packet_at (terms begun) came.serial)) (over_none (target_at start_disks begun)) ahead_read reply_waits;
    })

  -- ---- the write of a status block is answered
  module _ (r : Ready wild past before) (opens : AreOpened place before) (held : AreHeldAt start_disks place before) (caught : AllCaught place before) (placed : AllPlacedFor place before) (told : (i : ℕ) → i < length before.initiators → IsCalm place i → (n k : ℕ) (status : StatusKind) → ended_status place i n k ≡ Some status → IsTold status) (joined : (i : ℕ) → i < length before.initiators → IsJoined place i) (passes : PassLaw wild begun) (rises : Rises begun) (counts : SerialsCount begun) (bad : ℕ → Bool) (honest : (serial : ℕ) (packet : Sending) → (terms begun).sent serial ≡ Some packet → packet.from ≡ 0 → packet.injected ≡ false) (c : IsCalled later w v) (once : OnceAt bad (said c.first) begun) (i n k : ℕ) (own : wild i ≡ false) (each : EachMoment (SentSo i) begun) (fair : bad i ≡ false) (opened : IsOpen begun i n) (present : present_list begun i ≡ Some n) (e : suc k ≡ ends begun i n) (b : IsOverFor start_disks begun w i n k) (goes : GoesOn w c.call b.place) where
    abbrev p : ℕ
    p = b.place

    abbrev m : ComesMain w c.call p
    m = goes.comes

    own_there : wild (initiator_in w p) ≡ false
    own_there = ap wild b.initiator_is ∙ own

    abbrev arrival : Comes w c.first m.generation m.bytes
    arrival = came c p own_there m

    abbrev s0 : ℕ
    s0 = own_request c p own_there m

    abbrev M : Machine
    M = machine_at before p

    abbrev j : ℕ
    j = initiator_in before p

    j_is : j ≡ i
    j_is = sym (initiator_same p) ∙ b.initiator_is

    own_j : wild j ≡ false
    own_j = ap wild j_is ∙ own

    phase_is : M.phase ≡ phases.WritingStatus
    phase_is = ap (λ (y : Machine). y.phase) (sym (machine_same p)) ∙ goes.phase_is

    ws : WritesSince start_disks begun w p i n k
    ws = b.since goes.phase_is

    is_open : is_open_at before p ≡ true
    is_open = ap has_list phase_is

    seated : IsOpened place before p
    seated = opens p b.small (up_state _ (listing_up M.phase is_open))

    inside : i < length before.initiators
    inside = subst (λ y. y < length before.initiators) j_is seated.inside

    listed : IsOpenAt place before p
    listed = (r.needs j own_j).lists.listed p b.small is_open (r.calm j own_j)

    record HasLast : Type 0 where
      last : ℕ
      at : M.present ≡ start (windows.Orb (slot_at place j listed.n last))

    at_there : HasLast
    at_there =
        let g = r.kept.on p b.small is_open listed.n listed.list own_j in
        let k : Knows (orbs place j listed.n) g.progress phases.WritingStatus M = subst (λ (ph : Phase). Knows (orbs place j listed.n) g.progress ph M) phase_is g.along.main in
        record { last = k.over.last; at = k.over.place }

    kind_told : IsTold ws.kind
    kind_told = told i inside (calm i own) n k ws.kind (sym (so.statuses i n k) ∙ ws.status)

    block : EndsSo ws.kind M
    block = subst (λ (y : Machine). EndsSo ws.kind y) (machine_same p) ws.block

    slot_low : slot_at place j listed.n at_there.last < 32
    slot_low = slot_small wild place r.kept.passes j listed.n at_there.last

    written : HasWrite place i s0
    written =
        subst (λ y. HasWrite place y s0) j_is
        (has_write units ready has start_disks before h site p b.small seated (placed j seated.inside (calm j own_j)).1 listed.n at_there.last phase_is at_there.at slot_low ws.kind block ws.plain kind_told s0 (waits c p own_there m))

    abbrev packet : Sending
    packet = written.packet

    to : IsToHost begun i s0 packet
    to = record { is = ap (λ (f : ℕ → Option Sending). f s0) so.sent ∙ written.sent.is; from_target = written.sent.from_target; to_host = written.sent.to_host }

    -- it is in the generation of the initiator
    behind_not : t.generation 0 ≤ t.generation (suc i)
    behind_not =
        let k = held.held p seated.login seated.is in
        let is : k.holder.initiator ≡ i = ap (λ (y : Holder). y.initiator) (sym (ap or_nobody k.there)) ∙ j_is in
        let next : k.holder.initiator + 1 ≡ suc i = omega (arith, is) in
        let least = caught p seated.login seated.is seated.live k.holder.initiator (k.live seated.live).of in
        subst (λ y. t.generation 0 ≤ t.generation y) next least

    ahead_not : t.generation (suc i) ≤ t.generation 0
    ahead_not =
        let next : i + 1 ≡ suc i = omega arith in
        let some : present_list place i ≡ Some n = sym (so.present i) ∙ present in
        subst (λ y. t.generation y ≤ t.generation 0) next ((joined i inside).list (ap (λ o. is_some o) some))

    current : packet.generation ≡ (terms begun).generation (suc i)
    current =
        let a : packet.generation ≡ t.generation packet.from = under_way_now t s0 packet written.sent.is ((site.asked.all p b.small).main s0 (waits c p own_there m)).under_way in
        let from : t.generation packet.from ≡ t.generation 0 = ap t.generation written.sent.from_target in
        let low = behind_not in
        let high = ahead_not in
        let same = so.generation (suc i) in
        omega (arith, a, from, low, high, same)

    -- and was sent since the ORB ended
    is_new : (terms ws.since.base).count < s0
    is_new = by (young_over (terms ws.since.base).count (IsReadThen ws.since.base) start_disks p begun ws.since.young s0 (ap (λ (y : Target). (agent_at y p).main) so.target ∙ waits c p own_there m))
      where
        counted : SerialsCount (ws.since.later ++ ws.since.base)
        counted = subst SerialsCount (sym ws.since.is) counts

        by : ((terms ws.since.base).count < s0) ⊎ IsReadThen ws.since.base s0 → (terms ws.since.base).count < s0
        by (inl less) = less
        by (inr y) =
            let z = some_sent ((terms ws.since.base).sent s0) y.access y.is in
            let low = sent_below ws.since.base s0 z.packet (serials_from ws.since.later ws.since.base counted) z.is in
            let stays : (terms begun).sent s0 ≡ (terms ws.since.base).sent s0 = ap (λ ms. (terms ms).sent s0) (sym ws.since.is) ∙ (remains ws.since.later ws.since.base counted).sent s0 low in
            let there : access_at t s0 ≡ Some y.access = ap (λ (f : ℕ → Option Sending). access_in (packet_in (f s0))) (sym so.sent) ∙ (ap (λ o. access_in (packet_in o)) stays ∙ y.is) in
            absurd (false≢true (sym y.reads ∙ is_written units ready has start_disks before h site p b.small seated (placed j seated.inside (calm j own_j)).1 listed.n at_there.last phase_is at_there.at slot_low ws.kind block ws.plain kind_told s0 (waits c p own_there m) y.access there))

    since : IsBehind begun i n k ws.since.base
    since = record { later = ws.since.later; is = ws.since.is; due = ws.since.due; number = ws.since.number; ended = e; latest_then = ws.since.latest; latest = opened.latest }

    its : status_packet begun i n k ≡ Some s0
    its = status_is wild i own begun passes rises counts each n k s0 written.slot packet written.block to written.writes current ws.since.base since is_new

    -- it was served
    once_then : OnceAt bad (said (notes.Got arrival.serial)) begun
    once_then = subst (λ note. OnceAt bad (said note) begun) (first_is c p own_there m) once

    served : WasServed (terms begun) s0
    served =
        let closes = subst (λ o. ClosesOne bad (terms begun) o (laws.answer_in (laws.packet_at (terms begun) arrival.serial))) (closed_there c p own_there m) once_then.1 in
        closes
        (both (is_between bad ((terms begun).sent s0)) (is_write_in (access_at (terms begun) s0)) (is_done (laws.answer_in (laws.packet_at (terms begun) arrival.serial)))
        (ap (λ o. is_between bad o) to.is ∙ none_of packet.injected (is_wild bad packet.from) (is_wild bad packet.to) (honest s0 packet to.is to.from_target) (ap (λ y. is_wild bad y) to.from_target) (ap (λ y. is_wild bad y) to.to_host ∙ fair))
        (ap (λ o. is_write_in (access_in (packet_in o))) to.is ∙ (ap (λ o. is_write_in o) written.writes.is ∙ written.writes.writes))
        (ap (λ y. is_done y) (told_there c p own_there m) ∙ done_of (answer_in m.packet) goes.done))

    pub was_answered : WasAnswered (said c.first ∷ begun) i n k
    was_answered = subst (λ note. WasAnswered (said note ∷ begun) i n k) (sym (first_is c p own_there m)) (record {
      serial = s0;
      packet = packet;
      slot = written.slot;
      block = written.block;
      sent = record { is = ap (λ (f : ℕ → Option Sending). f s0) (sent_got c p own_there m) ∙ written.sent.is; from_target = written.sent.from_target; to_host = written.sent.to_host };
      writes = written.writes;
      of = its;
      closed = record { later = []; before = begun; got = arrival.serial; is = refl; closed = closed_there c p own_there m; served = served };
    })
