-- In every run in which no initiator injected packets, or few logins were given, an agent whose DOORBELL was written, or that was in RESET, rests only at an ORB of which a read that was sent since brought a null pointer.
use Rattle.sbp_world.proofs.Words.Std.{arith, ◌≡◌, ◌∙◌, refl, sym, ap, subst, ◌<◌, ◌+◌, ℕ, Bool, true, false, cond, List, [], ◌∷◌, ◌++◌, map, Some, None, nat_tests, slice_set, unwrap_or, ◌==◌}
use Rattle.sbp_world.proofs.Words.Wire.{SerialsCount, Access, Moment, asked, said, Terms, terms, Note, start_serves, register, doorbell}
use Rattle.sbp_world.proofs.Words.Target.{Ahead, Main, Which, ReadAhead, Disk, aligned, is_ahead, is_sent}
use Rattle.sbp_world.proofs.Words.Initiator.{Answer, At, CommandOrb, Null, OrbPointer, command_orb, pointer_at}
use Rattle.sbp_world.proofs.Words.Laws.{Agent, EachMoment, Target, agent_at, agent_over, answer_in, answered_at, got_by, id_for, request_got, start_got, taken_on, is_nothing, is_serial, known_at, main_lost, over, packet_at, receiver_in, rings, sender_in, target_at, with_agent}
use Rattle.sbp_world.proofs.Words.World.{AreAgentsAt, AreAskedAt, AskedAsGot, HasOneMain, IsAccessFor, WorldState, after, after_all, beginning, begun, history_of, more_deliveries, serial_of}
use Rattle.agent_laws.specs.Along.Requests.{ahead_ask}
use Rattle.command_agent.specs.declared.phase.Phase.TheVariants as phases
use Rattle.command_agent.specs.declared.phase.ReadAhead.TheVariants as aheads
use Rattle.sbp_journal.specs.declared.note.Note.TheVariants as notes
use Rattle.sbp_world.specs.Completing.Bells.{AllRestLast, BringsNullOf, BroughtNullOf, RestsLast, RestsLastLaw, agent_then, of_orb, of_orb_ahead, of_pointer}
use Rattle.sbp_world.specs.Completing.Rung.{AllGoOn, BringsNull, IsRung, RungLaw, in_orb, in_orb_ahead, in_pointer}
use Rattle.sbp_world.proofs.Common.{delivers, none_is, untrue}
use Rattle.sbp_world.proofs.Agents.CrewRuns.{agents_between_law, agents_run_law}
use Rattle.sbp_world.proofs.Agents.Management.Firsts.{wire_is}
use Rattle.sbp_world.proofs.Agents.Management.Runs.{holds_after}
use Rattle.sbp_world.proofs.Completing.RungAgents.{AllMay, Brings, Follows, GotBrings, Such, Young, either_such, got_such, new_follows, rings_by, rung_agents_rest_last}
use Rattle.sbp_world.proofs.Completing.RungSteps.{GoesIn, Leads, LeadsOn}
use Rattle.sbp_world.proofs.Hosts.Between.{stands_there}
use Rattle.sbp_world.proofs.Hosts.Remaining.{remains}
use Rattle.sbp_world.proofs.Hosts.SentMoments.{serials_from}
use Rattle.sbp_world.proofs.Lists.AgentFolds as agents
use Rattle.sbp_world.proofs.Lists.AgentFolds.{SetAgent, at_place, is_it, is_other, map_at, set_agent}
use Rattle.sbp_world.proofs.Lists.Clauses.{open_lists_law}
use Rattle.sbp_world.proofs.Lists.Courses.{more_than_one}
use Rattle.sbp_world.proofs.Lists.FedFolds.{so}
use Rattle.sbp_world.proofs.Lists.ListsProved.{closing}
use Rattle.sbp_world.proofs.Lists.MainStays.{ends_turn, has_one}
use Rattle.sbp_world.proofs.Lists.OrbFolds.{AreReading, Has, over_reads}
use Rattle.sbp_world.proofs.Lists.OrbNotes.{IfGot, note_reads}
use Rattle.sbp_world.proofs.Lists.OrbReading.{nothing_read}
use Rattle.sbp_world.proofs.Lists.OrbSteps.{ReadAheadOf, Reads, has_read}
use Rattle.sbp_world.proofs.Lists.OrbWaits.{asked_everywhere}
use Rattle.sbp_world.proofs.Lists.StatusLogins.{each_there}
use Rattle.sbp_world.proofs.Lists.UnderwayRuns.{delivering}
use Rattle.sbp_world.proofs.Wire.Starts.{laws_of}

-- ---- what each agent has read, of any ORB
abbrev Any : ℕ → ℕ → CommandOrb → Type 0
Any place address orb = Unit {0}

any_got : (note : Note) (wire : Terms) (t : Target) → IfGot Any note wire t
any_got (notes.Got serial) wire t = λ here own closed place which purpose. record { main = λ w p bytes e. tt; ahead = λ w a offset n bytes e. tt }
any_got note wire t = tt

any_read : (start : List Disk) (past : List Moment) → AreReading Any (target_at start past)
any_read start [] = nothing_read start Any
any_read start (asked line event ∷ past) = so (Has Any) (over (target_at start past)) (over_reads Any (target_at start past) (any_read start past))
any_read start (said note ∷ past) = note_reads Any note past (known_at start past).wire (target_at start past) (any_read start past) (any_got note (known_at start past).wire (target_at start past))

-- nothing is read ahead behind the last ORB
last_idle : (next : OrbPointer) (ahead : ReadAhead) → ReadAheadOf (λ address orb. Unit {0}) next ahead → next ≡ Null → ahead ≡ aheads.Idle
last_idle next aheads.Idle h e = refl
last_idle next (aheads.UnderWay rung) h e = absurd (let z : Null ≡ At h.offset = sym e ∙ h.is in cc)
last_idle next (aheads.Kept orb) h e = absurd (let z : Null ≡ At h.offset = sym e ∙ h.is in cc)

-- ---- what it waits for ahead
none_asked : (x : ReadAhead) (next : OrbPointer) (fifo : ℕ) (access : Access) → is_ahead x ≡ false → IsAccessFor (ahead_ask x next) false fifo access → ⊥
none_asked aheads.Idle next fifo access e z = z
none_asked (aheads.UnderWay rung) next fifo access e z = untrue (sym e)
none_asked (aheads.Kept orb) next fifo access e z = z

-- what it asked for in a turn that is over
either_asks : (x y : Agent) (b : Bool) → is_nothing x.asks_ahead ≡ b → is_nothing y.asks_ahead ≡ true → is_nothing (cond b x y).asks_ahead ≡ true
either_asks x y true e f = e
either_asks x y false e f = f

over_asks : (a : Agent) → is_nothing (agent_over a).asks_ahead ≡ true
over_asks a = either_asks (main_lost a) _ (is_nothing (main_lost a).asks_ahead) refl refl

-- ---- a next pointer
leads : (Last : ℕ → Type 0) (address : ℕ) (next : OrbPointer) → (next ≡ Null → Last address) → Leads Last address next
leads Last address Null f = f refl
leads Last address (At offset) f = tt

leads_on : (Last : ℕ → Type 0) (next after : OrbPointer) → ((offset : ℕ) → next ≡ At offset → after ≡ Null → Last (aligned offset)) → LeadsOn Last next after
leads_on Last Null after f = tt
leads_on Last (At offset) after f = leads Last (aligned offset) after (f offset refl)

-- ---- as a packet is got
module _ (Last : ℕ → Type 0) (start : List Disk) (past : List Moment) (asked_so : AreAskedAt start past) (bound place : ℕ) (small : place < 8) where
  abbrev T : Target
  T = over (target_at start past)

  abbrev a : Agent
  a = agent_at T place

  read : Reads (Any place) a.machine
  read = (over_reads Any (target_at start past) (any_read start past)).agents place

  one : HasOneMain a
  one = (ends_turn (target_at start past) place).one (has_one start past place)

  rests : is_sent a.machine.phase ≡ false → Young Last bound a.main
  rests e s f = none_is s (sym (one.none e) ∙ f)

  free : is_ahead a.machine.ahead ≡ false → Young Last bound a.ahead
  free e s f =
      let x = (asked_so.all place small).ahead s f in
      absurd (none_asked a.machine.ahead a.machine.orb.next _ x.access e x.asks)

  abbrev settled_agents : List Agent
  settled_agents = (taken_on None (target_at start past).reply (target_at start past)).agents

  quiet_ahead : is_nothing a.asks_ahead ≡ true
  quiet_ahead = ap (λ (x : Agent). is_nothing x.asks_ahead) (map_at agent_over refl settled_agents place) ∙ over_asks (at_place settled_agents place)

  looks : is_nothing a.asks_ahead ≡ false → Young Last bound a.ahead
  looks e = untrue (sym e ∙ quiet_ahead)

  -- no reply waits
  no_reply : T.reply ≡ None
  no_reply = (over_reads Any (target_at start past) (any_read start past)).none

  -- ---- DOORBELL
  follows : Follows Last bound (rings a)
  follows = rings_by Last bound a read.idle (last_idle a.machine.orb.next a.machine.ahead read.ahead) rests free looks

  rung_agent : (q : ℕ) → SetAgent T.agents place (rings a) q → q ≡ place → Follows Last bound (at_place (slice_set T.agents place (rings a)) q)
  rung_agent q (is_it e f) g = subst (Follows Last bound) (sym f) follows
  rung_agent q (is_other e f) g = absurd (let z : (place == q) ≡ true = grind (arith, nat_tests) in untrue (sym e ∙ z))
  rung_agent q (agents.is_none f none) g = subst (Follows Last bound) (sym f) (new_follows Last bound)

  rung_still : agents.AreStill (Such Last bound place) (with_agent T place (rings a))
  rung_still = record { agents = λ q g. rung_agent q (set_agent T.agents place (rings a) q) g; none = no_reply }

  rung_so : agents.AreSo (Such Last bound place) (with_agent T place (rings a))
  rung_so = agents.so (Such Last bound place) (with_agent T place (rings a)) rung_still

  -- the request is served
  module _ (serial : ℕ) (wire : Terms) (x : IsRung wire serial place) where
    got_is : cond (is_serial (receiver_in (wire.sent serial)) 0) (got_by (answered_at wire serial) wire serial T) T ≡ with_agent T place (rings a)
    got_is =
        let source = id_for wire 0 (unwrap_or (sender_in (wire.sent serial)) 0) in
        ap (λ b. cond b (got_by (answered_at wire serial) wire serial T) T) x.by_target ∙
        (ap (λ o. got_by o wire serial T) x.asks ∙
        (ap (λ o. request_got o source T) x.is ∙
        (ap (λ k. cond (start_serves k x.access) (start_got k source x.access T) T) x.names ∙
        ap (λ b. cond b (start_got (register place doorbell) source x.access T) T) x.serves)))

  rung_there : (serial : ℕ) → IsRung (terms past) serial place → agents.AreSo (Such Last bound place) (target_at start (said (notes.Got serial) ∷ past))
  rung_there serial x = subst (agents.AreSo (Such Last bound place)) (sym (got_is serial (known_at start past).wire (subst (λ (wire : Terms). IsRung wire serial place) (sym (wire_is start past)) x))) rung_so

  -- ---- of one that is in RESET
  module _ (e : a.machine.phase ≡ phases.Reset) where
    reset_follows : Follows Last bound a
    reset_follows = record {
      goes = record { by_phase = subst (λ phase. GoesIn Last phase (Young Last bound a.main) (Young Last bound a.ahead) a.machine) (sym e) tt; idle = read.idle; last = last_idle a.machine.orb.next a.machine.ahead read.ahead };
      free = free;
      looks = looks;
      rests = rests;
      asks = λ f. rests (ap is_sent e);
    }

    reset_still : agents.AreStill (Such Last bound place) T
    reset_still = record { agents = λ q g. subst (λ n. Follows Last bound (agent_at T n)) (sym g) reset_follows; none = no_reply }

    idle_ahead : a.machine.ahead ≡ aheads.Idle
    idle_ahead = read.idle (ap has_read e)

    -- it reads nothing
    nothing_brought : (which : Which) (answer : Answer) → Brings Last bound a which answer
    nothing_brought which answer = record {
      orbs = λ w own f. absurd (let no : phases.Reset ≡ phases.Fetching = sym e ∙ f in cc);
      pointers = λ w own f. absurd (let no : phases.Reset ≡ phases.ReadingNext = sym e ∙ f in cc);
      aheads = λ w f. untrue (sym (ap is_ahead idle_ahead) ∙ f);
    }

    reset_there : (serial : ℕ) → agents.AreSo (Such Last bound place) (target_at start (said (notes.Got serial) ∷ past))
    reset_there serial =
        let wire = (known_at start past).wire in
        either_such Last bound place T reset_still (is_serial (receiver_in (wire.sent serial)) 0) (got_by (answered_at wire serial) wire serial T)
        (λ here. got_such Last bound place T reset_still wire serial (answered_at wire serial) refl (λ own closed which purpose. nothing_brought which (answer_in (packet_at wire serial))))

-- ---- behind it
module _ (start : List Disk) (past : List Moment) (place : ℕ) where
  abbrev bound : ℕ
  bound = (terms past).count

  abbrev Brought : List Moment → ℕ → Type 0
  Brought later address = BroughtNullOf start past later place address

  longer : (moment : Moment) (later : List Moment) (address : ℕ) → Brought later address → Brought (moment ∷ later) address
  longer moment later address x = record { behind = moment ∷ x.behind; serial = x.serial; before = x.before; is = ap (λ ms. moment ∷ ms) x.is; by_target = x.by_target; request = x.request; closed = x.closed; since = x.since; brings = x.brings }

  module _ (Last : ℕ → Type 0) where
    -- each ORB of which a null pointer was brought is one of these
    abbrev AllLast : List Moment → Type 0
    AllLast later = (address : ℕ) → Brought later address → Last address

    shorter : (moment : Moment) (later : List Moment) → AllLast (moment ∷ later) → AllLast later
    shorter moment later last address x = last address (longer moment later address x)

    module _ (serial : ℕ) (later : List Moment) (last : AllLast (said (notes.Got serial) ∷ later)) (asked_so : AreAskedAt start (later ++ past)) where
      abbrev here : List Moment
      here = later ++ past

      abbrev b : Agent
      b = agent_at (over (target_at start here)) place

      abbrev answer : Answer
      answer = answer_in (packet_at (terms here) serial)

      null_of : is_serial (receiver_in ((terms here).sent serial)) 0 ≡ true → (own : ℕ) → answered_at (terms here) serial ≡ Some own → bound < own → (address : ℕ) → BringsNullOf address b own answer → Last address
      null_of by_target own closed young address x = last address (record { behind = []; serial = serial; before = later; is = refl; by_target = by_target; request = own; closed = closed; since = young; brings = x })

      got_brings : is_serial (receiver_in ((terms here).sent serial)) 0 ≡ true → GotBrings Last bound place (terms here) serial (over (target_at start here))
      got_brings by_target own closed which purpose =
          let waits = (asked_so.handed own place which purpose).1 in
          let at : (side : Which) → which ≡ side → serial_of side b ≡ Some own = λ side w. subst (λ (x : Which). serial_of x b ≡ Some own) w waits in
          let null = null_of by_target own closed in
          record {
            orbs = λ w young e bytes f. leads Last b.machine.present (command_orb bytes).next (λ n. null (young own (at Main w)) b.machine.present (of_orb bytes (at Main w) e f n refl));
            pointers = λ w young e bytes f. leads Last b.machine.present (pointer_at bytes 0) (λ n. null (young own (at Main w)) b.machine.present (of_pointer bytes (at Main w) e f n refl));
            aheads = λ w e young bytes f. leads_on Last b.machine.orb.next (command_orb bytes).next (λ offset next n. null (young own (at Ahead w)) (aligned offset) (of_orb_ahead bytes offset (at Ahead w) e f n next refl));
          }

      may_get : is_serial (receiver_in ((known_at start here).wire.sent serial)) 0 ≡ true → GotBrings Last bound place (known_at start here).wire serial (over (target_at start here))
      may_get =
          subst (λ (wire : Terms). is_serial (receiver_in (wire.sent serial)) 0 ≡ true → GotBrings Last bound place wire serial (over (target_at start here))) (sym (wire_is start here)) got_brings

    all_may : (later : List Moment) → SerialsCount (later ++ past) → EachMoment (AskedAsGot start) (later ++ past) → AllLast later → AllMay Last bound place start later past
    all_may [] c e last = tt
    all_may (asked line event ∷ later) c e last = (tt, all_may later (serials_from (asked line event ∷ []) (later ++ past) c) e.1 (shorter (asked line event) later last))
    all_may (said (notes.Got serial) ∷ later) c e last =
        (may_get serial later last e.0, all_may later (serials_from (said (notes.Got serial) ∷ []) (later ++ past) c) e.1 (shorter (said (notes.Got serial)) later last))
    all_may (said (notes.Sent serial generation from to bytes) ∷ later) c e last =
        let m = said (notes.Sent serial generation from to bytes) in
        let rest : SerialsCount (later ++ past) = serials_from (m ∷ []) (later ++ past) c in
        let more = (remains later past rest).count in
        let number : serial ≡ (terms (later ++ past)).count + 1 = c.0 in
        (omega (arith, more, number), all_may later rest e.1 (shorter m later last))
    all_may (said note ∷ later) c e last = (tt, all_may later (serials_from (said note ∷ []) (later ++ past) c) e.1 (shorter (said note) later last))

-- ---- in a history
module _ (start : List Disk) (now : List Moment) (c : SerialsCount now) (e : EachMoment (AskedAsGot start) now) (later past : List Moment) (serial place : ℕ) (small : place < 8) (is : later ++ said (notes.Got serial) ∷ past ≡ now) where
  abbrev behind : List Moment
  behind = said (notes.Got serial) ∷ past

  abbrev IsLast : ℕ → Type 0
  IsLast address = BroughtNullOf start behind later place address

  all : EachMoment (AskedAsGot start) (later ++ behind)
  all = subst (EachMoment (AskedAsGot start)) (sym is) e

  asked_there : AreAskedAt start past
  asked_there = each_there (AskedAsGot start) later (said (notes.Got serial)) past all

  rests_by : agents.AreSo (Such IsLast (terms behind).count place) (target_at start behind) → RestsLast start now behind later place
  rests_by so =
      subst (λ ms. RestsLast start ms behind later place) is
      (rung_agents_rest_last IsLast (terms behind).count place start behind later
      (all_may start behind place IsLast later (subst SerialsCount (sym is) c) all (λ address x. x)) so)

  rung_rests : IsRung (terms past) serial place → RestsLast start now behind later place
  rung_rests x = rests_by (rung_there IsLast start past asked_there (terms behind).count place small serial x)

  reset_rests : (agent_then start past place).machine.phase ≡ phases.Reset → RestsLast start now behind later place
  reset_rests f = rests_by (reset_there IsLast start past asked_there (terms behind).count place small f serial)

all_rest_last : (start : List Disk) (now : List Moment) → SerialsCount now → EachMoment (AskedAsGot start) now → AllRestLast start now
all_rest_last start now c e = record {
  rung = λ later past serial place small is x. rung_rests start now c e later past serial place small is x;
  reset = λ later past serial place small is f. reset_rests start now c e later past serial place small is f;
}

-- where none was brought, it goes on
brings_of : (address request : ℕ) (answer : Answer) (a : Agent) → BringsNullOf address a request answer → BringsNull a request answer
brings_of address request answer a (of_orb bytes main phase pays null at) = in_orb bytes main phase pays null
brings_of address request answer a (of_pointer bytes main phase pays null at) = in_pointer bytes main phase pays null
brings_of address request answer a (of_orb_ahead bytes offset ahead under pays null next at) = in_orb_ahead bytes ahead under pays null

all_go_on : (start : List Disk) (now : List Moment) (w : WorldState) → AllRestLast start now → AreAgentsAt start now w → AllGoOn start now w
all_go_on start now w rests agents later past serial place small is rung none = (by_terms, λ f. by_terms ((agents.are.each place small).machine.phase ∙ f))
  where
    by_terms : (agent_at (over (target_at start now)) place).machine.phase ≡ phases.Suspended → ⊥
    by_terms f =
        let x = rests.rung later past serial place small is rung f in
        none (record {
          behind = x.behind;
          serial = x.serial;
          before = x.before;
          is = x.is;
          by_target = x.by_target;
          request = x.request;
          closed = x.closed;
          since = x.since;
          brings = brings_of _ x.request _ _ x.brings;
        })

-- ---- in every run
pub rests_last_law : RestsLastLaw
rests_last_law = record {
  after_lines = λ line run r has small size tame.
      let h = holds_after line run run.entries r.few has small size r.short r.entries r.lines in
      let here = (after (beginning run) run.entries).world in
      all_rest_last run.start.disks (history_of line run) (subst SerialsCount h.is (laws_of h.past here h.holds.sound.stands).serials)
      (asked_everywhere.after_lines line run r has small size (closing.before open_lists_law line run r has small size tame));
  between = λ line run r has small size next most told m tame.
      let x = stands_there line run r next (more_deliveries most) told (delivering told most) m in
      let w = (after_all told (begun (after (beginning run) run.entries))).world in
      all_rest_last run.start.disks (map said w.fresh ++ asked next (more_deliveries most) ∷ history_of line run) (subst SerialsCount x.is (laws_of x.past w x.sound.stands).serials)
      (asked_everywhere.between line run r has small size next most told m (closing.between open_lists_law line run r has small size next (more_deliveries most) (delivers most) told m tame));
}

pub rung_law : RungLaw
rung_law = record {
  after_lines = λ line run r has small size tame.
      all_go_on run.start.disks (history_of line run) (after (beginning run) run.entries).world (rests_last_law.after_lines line run r has small size tame)
      (agents_run_law line run r.few has small size r.short r.entries r.lines);
  between = λ line run r has small size next most told m tame.
      let w = (after_all told (begun (after (beginning run) run.entries))).world in
      all_go_on run.start.disks (map said w.fresh ++ asked next (more_deliveries most) ∷ history_of line run) w (rests_last_law.between line run r has small size next most told m tame)
      (agents_between_law line run r.few has small size r.short r.entries r.lines next (more_deliveries most) (more_than_one most) told m);
}
