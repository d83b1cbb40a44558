-- In each turn of every run that answers the main transaction of an agent the answer is one to what the agent asked for.
use Rattle.std.proofs.Common.{◌≡◌, ◌∙◌, refl, sym, ap, subst, ℕ, ◌<◌, ◌&&◌, Bool, true, false, cond, List, Option, Some, None}
use Rattle.bus_transactions.proofs.Reaches.{goes_on}
use Rattle.command_agent.specs.declared.step.Which.TheVariants.{Main}
use Rattle.agent_laws.specs.Along.Requests.{main_under}
use Rattle.orb_layout.specs.declared.ask.Ask.{Ask}
use Rattle.orb_layout.specs.declared.ask.Ask.TheVariants.{Nothing, Read, Write}
use Rattle.orb_layout.specs.Replies.{Answer, Expired}
use Rattle.rbc_disk.specs.Disk.{Disk}
use Rattle.sbp_bus.specs.Packets.{judged_note}
use Rattle.sbp_journal.specs.Addresses.{Access, Register, Start, management_agent, no_start, register, rom_start, start_at, start_serves}
use Rattle.sbp_journal.specs.Run.{Moment, said}
use Rattle.sbp_journal.specs.Transactions.{Kind, between, is_same_kind}
use Rattle.sbp_journal.specs.Wire.{Terms, terms}
use Rattle.sbp_journal.specs.declared.cause.Judged.{Judged}
use Rattle.sbp_journal.specs.declared.cause.Judged.TheVariants as judgements
use Rattle.sbp_journal.specs.declared.note.Note.TheVariants as notes
use Rattle.sbp_laws.specs.Agents.{Event, event_by, got_in, nothing, replies, reply_to, write_in, write_of, writes}
use Rattle.sbp_laws.specs.Deaths.{access_by}
use Rattle.sbp_laws.specs.Packets.{access_in, access_in_bytes, answer_in, answered_at, packet_at, packet_in, receiver_in, sender_in}
use Rattle.sbp_laws.specs.Targets.{Agent, Purpose, Reply, Target, agent_at, for_agent, for_manager, for_nobody, is_serial, over, purpose_of, target_at}
use Rattle.sbp_world.specs.Agents.AskedRuns.{AreAskedAt, IsAccessFor}
use Rattle.sbp_world.specs.Worlds.{Scene}
use Rattle.sbp_world.proofs.Agents.AskedAgents.{are_asked}
use Rattle.sbp_world.proofs.Agents.Management.Holding.{past_terms}
use Rattle.sbp_world.proofs.Agents.Management.Still.{hist}
use Rattle.turn_laws.proofs.DeathRows.{AnswersAt}
use Rattle.turn_laws.proofs.DeathSteps.{FairFor}
use Rattle.turn_laws.proofs.FailingCalls.{closes_at}
use Rattle.turn_laws.proofs.FailingKinds.{AnswerOf, AsksFor, KindOf, answer_by, bytes_kind, may}
use Rattle.turn_laws.proofs.Places.{Place}

-- ---- what was asked for, and an answer to it
read_asked : (offset size : ℕ) (is_status : Bool) (fifo : ℕ) (a : Access) → IsAccessFor (Read offset size) is_status fifo a → AsksFor (Some size) a
read_asked offset size is_status fifo a h = (ap (λ (x : Access). x.is_write) h, (ap (λ (x : Access). x.is_lock) h, ap (λ (x : Access). x.count) h))

fair_for : (ask : Ask) (is_status : Bool) (fifo : ℕ) (waited kind : Kind) (a : Access) (answer : Answer) → IsAccessFor ask is_status fifo a → KindOf waited a → is_same_kind waited kind ≡ true → AnswerOf kind answer → FairFor ask answer (Some a)
fair_for Nothing is_status fifo waited kind a answer asks of same h = tt
fair_for (Read offset size) is_status fifo waited kind a answer asks of same h = may (Some size) waited kind a answer (read_asked offset size is_status fifo a asks) of same h
fair_for (Write offset size) is_status fifo waited kind a answer asks of same h = may None waited kind a answer (ap (λ (x : Access). x.is_write) asks.0) of same h

expired_fair : (ask : Ask) (access : Option Access) → FairFor ask Expired access
expired_fair Nothing access = tt
expired_fair (Read offset size) access = tt
expired_fair (Write offset size) access = tt

-- ---- which turns reply
abbrev pub NoReply : Event → Type 0
NoReply event = (reply : Reply) → event ≡ replies reply → ⊥

pub nothing_no : NoReply nothing
nothing_no reply e = cc

write_if : (b : Bool) (event : Event) → NoReply event → NoReply (cond b event nothing)
write_if true event h = h
write_if false event h = nothing_no

writes_no : (name : Register) (place : ℕ) (access : Access) → NoReply (writes name place access)
writes_no name place access reply e = cc

at_start : (start : Start) (access : Access) → NoReply (write_of start access)
at_start (register place name) access = write_if (access.is_write && start_serves (register place name) access) (writes name place access) (writes_no name place access)
at_start management_agent access = nothing_no
at_start rom_start access = nothing_no
at_start no_start access = nothing_no

pub write_no : (access : Option Access) → NoReply (write_in access)
write_no None = nothing_no
write_no (Some access) = at_start (start_at access.offset) access

pub record Replies (T : Target) (serial : ℕ) (told : Answer) (reply : Reply) : Type 0 where
  pub purpose : purpose_of T serial ≡ for_agent reply.place reply.which
  pub is : told ≡ reply.answer

pub same_reply : (a b : Reply) → replies a ≡ replies b → a ≡ b
same_reply a b e = cc

purpose_replies : (T : Target) (serial : ℕ) (for : Purpose) → purpose_of T serial ≡ for → (told : Answer) (reply : Reply) → reply_to for told ≡ replies reply → Replies T serial told reply
purpose_replies T serial (for_agent place which) f told reply e =
    let same = same_reply (record { place = place; which = which; answer = told }) reply e in
    record { purpose = f ∙ ap (λ (r : Reply). for_agent r.place r.which) same; is = ap (λ (r : Reply). r.answer) same }
purpose_replies T serial for_manager f told reply e = absurd (nothing_no reply e)
purpose_replies T serial for_nobody f told reply e = absurd (nothing_no reply e)

pub record GotReply (T : Target) (wire : Terms) (serial : ℕ) (reply : Reply) : Type 0 where
  pub own : ℕ
  pub answered : answered_at wire serial ≡ Some own
  pub of : Replies T own (answer_in (packet_at wire serial)) reply

pub got_reply : (T : Target) (wire : Terms) (serial : ℕ) (reply : Reply) → event_by (said (notes.Got serial)) T wire ≡ replies reply → GotReply T wire serial reply
got_reply T wire serial reply e = by_receiver (is_serial (receiver_in (wire.sent serial)) 0) e
  where
    by_own : (x : Option ℕ) → answered_at wire serial ≡ x → got_in x T wire serial ≡ replies reply → GotReply T wire serial reply
    by_own None f g = absurd (write_no _ reply g)
    by_own (Some own) f g = record { own = own; answered = f; of = purpose_replies T own (purpose_of T own) refl (answer_in (packet_at wire serial)) reply g }

    by_receiver : (b : Bool) → cond b (got_in (answered_at wire serial) T wire serial) nothing ≡ replies reply → GotReply T wire serial reply
    by_receiver true f = by_own (answered_at wire serial) refl f
    by_receiver false f = absurd (nothing_no reply f)

pub late_reply : (T : Target) (wire : Terms) (serial : ℕ) (reply : Reply) → event_by (said (notes.TimedOut serial)) T wire ≡ replies reply → Expired ≡ reply.answer
late_reply T wire serial reply e = by (is_serial (sender_in (wire.sent serial)) 0) e
  where
    by : (b : Bool) → cond b (reply_to (purpose_of T serial) Expired) nothing ≡ replies reply → Expired ≡ reply.answer
    by true f = (purpose_replies T serial (purpose_of T serial) refl Expired reply f).is
    by false f = absurd (nothing_no reply f)

-- ---- at a place
module _ (units ready : ℕ) (has : 0 < units) (start : List Disk) (past : List Moment) (s : Scene) (here : Place units ready start past s) where
  abbrev ms : List Moment
  ms = hist past s.world

  abbrev T : Target
  T = over (target_at start ms)

  abbrev wire : Terms
  wire = terms ms

  pub asked_here : AreAskedAt start ms
  asked_here = are_asked units ready has start s.world here.holds here.agents.requests here.agents.are here.agents.known here.held

  -- a response that is got, of an agent's main transaction
  module _ (serial own q : ℕ) (answered : answered_at wire serial ≡ Some own) (purpose : purpose_of T own ≡ for_agent q Main) where
    abbrev a : Agent
    a = agent_at T q

    waits : (q < 8) × (a.main ≡ Some own)
    waits = asked_here.handed own q Main purpose

    got_fair : FairFor (main_under a.machine) (answer_in (packet_at wire serial)) (access_by wire a.main)
    got_fair =
        let stands = here.holds.sound.stands in
        let was = (asked_here.all q waits.0).main own waits.1 in
        let c = closes_at wire serial own answered in
        let u = between c.packet c.packet.to c.packet.from c.label in
        let two = goes_on.awaited stands.wire u c.waited own stands.reached (ap (λ (x : Terms). x.held u) (past_terms s.world stands) ∙ c.held) in
        let sent : wire.sent own ≡ Some two.packet = ap (λ (x : Terms). x.sent own) (sym (past_terms s.world stands)) ∙ two.sent in
        let bytes : access_in_bytes two.packet.bytes ≡ Some was.access = ap (λ so. access_in (packet_in so)) (sym sent) ∙ was.is in
        let told : answer_in (packet_at wire serial) ≡ answer_in (packet_in (Some c.packet)) = ap (λ so. answer_in (packet_in so)) c.sent in
        let fair = fair_for (main_under a.machine) _ _ c.waited c.kind was.access (answer_in (packet_in (Some c.packet))) was.asks (bytes_kind two.packet.bytes u.label c.waited was.access two.part bytes) c.alike (answer_by c.packet.bytes c.label c.kind c.part) in
        subst (λ x. FairFor (main_under a.machine) (answer_in (packet_at wire serial)) x) (sym (ap (access_by wire) waits.1 ∙ was.is)) (subst (λ x. FairFor (main_under a.machine) x (Some was.access)) (sym told) fair)

  got_answers : (serial : ℕ) → AnswersAt start ms (said (notes.Got serial))
  got_answers serial reply e main =
      let g = got_reply T wire serial reply e in
      subst (λ x. FairFor (main_under (agent_at T reply.place).machine) x (access_by wire (agent_at T reply.place).main)) g.of.is
      (got_fair serial g.own reply.place g.answered (g.of.purpose ∙ ap (λ w. for_agent reply.place w) main))

  pub judged_answers : (serial : ℕ) (judged : Judged) → AnswersAt start ms (said (judged_note serial judged))
  judged_answers serial judgements.Got = got_answers serial
  judged_answers serial (judgements.Ignored cause) = λ reply e main. absurd (nothing_no reply e)

  -- a time-out
  pub late_answers : (serial : ℕ) → AnswersAt start ms (said (notes.TimedOut serial))
  late_answers serial reply e main =
      subst (λ x. FairFor (main_under (agent_at T reply.place).machine) x (access_by wire (agent_at T reply.place).main)) (late_reply T wire serial reply e) (expired_fair (main_under (agent_at T reply.place).machine) (access_by wire (agent_at T reply.place).main))
