-- What is known of the buffer and the data that each agent of the target has goes on over the moments of a history: where what is known of an ORB that a response brought, and of the reads since
-- the agent turned to it, goes on, and where it is known of the ORB that a packet brings which is got.
use Rattle.sbp_world.proofs.Words.Std.{arith, map, ◌≡◌, ◌∙◌, refl, sym, ap, subst, ◌<◌, ◌==◌, ℕ, ◌+◌, ◌*◌, Bool, true, false, cond, length, append_assoc, List, [], ◌∷◌, ◌++◌, Option, Some, None, Ok, nat_tests, unwrap_or}
use Rattle.sbp_world.proofs.Words.Wire.{Access, Moment, asked, said, Terms, terms, Note, judged_note, Judged, Event}
use Rattle.sbp_world.proofs.Words.Target.{main_ask, ReadAhead, Which, Ahead, Main, Machine, aligned, chunk_of, limit_of, Disk, writes_status}
use Rattle.sbp_world.proofs.Words.Initiator.{Ask, CommandOrb, At, Answer, payload_of}
use Rattle.sbp_world.proofs.Words.Laws.{Moved, moved_by, payload_at, fifo_in, access_at, answer_in, answered_at, id_for, packet_at, receiver_in, sender_in, Purpose, Reply, Target, agent_at, for_agent, for_manager, for_nobody, is_serial, got_by, known_at, login_at, manager_step, over, purpose_of, replied_to, target_at, target_by, EachMoment}
use Rattle.sbp_world.proofs.Words.World.{AreAskedAt, IsAccessFor, read_access, serial_of, is_main_of, main_moved, main_read, own_reads, AskedAsGot}
use Rattle.std.proofs.Common.{append-nil}
use Rattle.sbp_world.proofs.Agents.Management.Firsts.{wire_is}
use Rattle.command_agent.specs.declared.phase.Phase.TheVariants as phases
use Rattle.command_agent.specs.declared.phase.ReadAhead.TheVariants as aheads
use Rattle.orb_layout.specs.declared.ask.Ask.TheVariants as requests
use Rattle.sbp_journal.specs.declared.note.Note.TheVariants as notes
use Rattle.sbp_laws.specs.CarriedBytes.{bytes_in}
use Rattle.sbp_world.proofs.Lists.Brought.{paid}
use Rattle.sbp_world.proofs.Lists.FedFolds.{AreSo, AreStill, IsKept, Pends, over_still, so}
use Rattle.sbp_world.proofs.Lists.FedNotes.{managed_kept, note_kept, request_kept}
use Rattle.sbp_world.proofs.Lists.FedPieces.{IsPiece, all_bytes, all_more, turn_more}
use Rattle.sbp_world.proofs.Lists.FedSteps.{Feeding, Hears, IsFed, abort_feeds, ahead_steps, bell_feeds, late_feeds, lost_feeds, main_steps, new_feeds, point_feeds, reset_feeds, unheard_feeds}
use Rattle.sbp_journal.specs.declared.cause.Judged.TheVariants as judgements
use Rattle.sbp_world.proofs.Lists.OrbNotes.{GotBrings}
use Rattle.sbp_world.proofs.Lists.OrbSteps.{ReadAheadOf, holds_read}
use Rattle.sbp_world.proofs.Lists.Quiet.{AllQuiet, IsQuiet}
use Rattle.sbp_world.proofs.Lists.TurnReads.{Course, as_it_was, by_asked, by_judged, by_noted}
use Rattle.sbp_world.proofs.Lists.StatusLogins.{each_there as each_at}

-- ---- what is known of an agent, otherwise
module _ (R S : ℕ → CommandOrb → Type 0) (m : Machine) (ahead : (orb : CommandOrb) → m.ahead ≡ aheads.Kept orb → (offset : ℕ) → m.orb.next ≡ At offset → R (aligned offset) orb → S (aligned offset) orb) where
  ahead_so : (a : ReadAhead) → m.ahead ≡ a → ReadAheadOf R m.orb.next a → ReadAheadOf S m.orb.next a
  ahead_so aheads.Idle e r = tt
  ahead_so (aheads.UnderWay rung) e r = record { offset = r.offset; is = r.is }
  ahead_so (aheads.Kept orb) e r = record { offset = r.offset; is = r.is; read = ahead orb e r.offset r.is r.read }

module _ (R S : ℕ → CommandOrb → Type 0) (T U : ℕ → CommandOrb → List Moved → Type 0) (m : Machine) (main : holds_read m.phase ≡ true → (reads : List Moved) → T m.present m.orb reads → U m.present m.orb reads) (ahead : (orb : CommandOrb) → m.ahead ≡ aheads.Kept orb → (offset : ℕ) → m.orb.next ≡ At offset → R (aligned offset) orb → S (aligned offset) orb) where
  pub fed_so : IsFed R T m → IsFed S U m
  fed_so h = record {
    main = record {
      fetching = h.main.fetching;
      tabling = λ e. let d = h.main.tabling e in record { turned = main (ap holds_read e) [] d.turned; empty = d.empty; reads = d.reads };
      filling = λ wanted e. let d = h.main.filling wanted e in record { tables = d.tables; pieces = d.pieces; turned = main (ap holds_read e) (d.tables ++ d.pieces) d.turned; table = d.table; bytes = d.bytes; turn = d.turn };
    };
    ahead = ahead_so R S m ahead m.ahead refl h.ahead;
    idle = h.idle;
  }

-- ---- the history goes on
abbrev pub IsNoGot : Moment → Type 0
IsNoGot (said (notes.Got serial)) = ⊥
IsNoGot moment = Unit {0}

pub same_reads : (start : List Disk) (m : Moment) → IsNoGot m → (q : ℕ) (later before : List Moment) → own_reads start q (m ∷ later) before ≡ own_reads start q later before
same_reads start (asked line event) n q later before = refl
same_reads start (said note) n q later before = by note n
  where
    by : (note : Note) → IsNoGot (said note) → own_reads start q (said note ∷ later) before ≡ own_reads start q later before
    by (notes.Got serial) n = absurd n
    by note n = refl

module _ (start : List Disk) (Read : List Moment → ℕ → ℕ → CommandOrb → Type 0) (Turned : List Moment → ℕ → ℕ → CommandOrb → List Moved → Type 0) (Ready : List Moment → ℕ → Type 0) (Spare : List Moment → ℕ → ℕ → Type 0) (turns : (past : List Moment) (q at : ℕ) (orb : CommandOrb) → Read past q at orb → Turned past q at orb []) (read_more : (m : Moment) → IsNoGot m → (past : List Moment) (q at : ℕ) (orb : CommandOrb) → Read past q at orb → Read (m ∷ past) q at orb) (read_got : (serial : ℕ) (past : List Moment) (q at : ℕ) (orb : CommandOrb) → Spare past q at → Read past q at orb → Read (said (notes.Got serial) ∷ past) q at orb) (turned_more : (m : Moment) → IsNoGot m → (past : List Moment) (q at : ℕ) (orb : CommandOrb) (reads : List Moved) → Turned past q at orb reads → Turned (m ∷ past) q at orb reads) (turned_got : (serial : ℕ) (past : List Moment) (q at : ℕ) (orb : CommandOrb) (reads more : List Moved) → Ready past q → main_read start past q serial ≡ more → Turned past q at orb reads → Turned (said (notes.Got serial) ∷ past) q at orb (reads ++ more)) where
  abbrev pub Fed : List Moment → ℕ → Machine → Type 0
  Fed past q m = IsFed (Read past q) (Turned past q) m

  pub kept : (past : List Moment) → IsKept (Fed past)
  kept past = record {
    new = λ q. new_feeds (Read past q) (Turned past q) (turns past q);
    cut = λ q m. reset_feeds (Read past q) (Turned past q) (turns past q) m;
    aborted = λ q m orb h. abort_feeds (Read past q) (Turned past q) (turns past q) m orb h;
    pointed = λ q m pointer h. point_feeds (Read past q) (Turned past q) (turns past q) m pointer h;
    rung = λ q m h. bell_feeds (Read past q) (Turned past q) (turns past q) m h;
    lost = λ q m which h. (lost_feeds (Read past q) (Turned past q) (turns past q) m which _ h).fed;
    late = λ q m plain told which h. (late_feeds (Read past q) (Turned past q) (turns past q) m q plain told which h).fed;
    unheard = λ q plain told which answer. (unheard_feeds (Read past q) (Turned past q) (turns past q) q plain told which answer).fed;
  }

  turned_same : (serial : ℕ) (past : List Moment) (q : ℕ) → Ready past q → main_read start past q serial ≡ [] → (at : ℕ) (orb : CommandOrb) (reads : List Moved) → Turned past q at orb reads → Turned (said (notes.Got serial) ∷ past) q at orb reads
  turned_same serial past q ready e at orb reads t = subst (Turned (said (notes.Got serial) ∷ past) q at orb) (append-nil reads) (turned_got serial past q at orb reads [] ready e t)

  -- what is known of an agent is so later
  fed_more : (m : Moment) → IsNoGot m → (past : List Moment) (q : ℕ) (machine : Machine) → Fed past q machine → Fed (m ∷ past) q machine
  fed_more m n past q machine h =
      fed_so (Read past q) (Read (m ∷ past) q) (Turned past q) (Turned (m ∷ past) q) machine (λ holds reads. turned_more m n past q machine.present machine.orb reads)
      (λ orb kept offset next. read_more m n past q (aligned offset) orb) h

  abbrev pub IsReady : List Moment → ℕ → Machine → Type 0
  IsReady past q machine = (holds_read machine.phase ≡ true → Ready past q) × ((orb : CommandOrb) → machine.ahead ≡ aheads.Kept orb → (offset : ℕ) → machine.orb.next ≡ At offset → Spare past q (aligned offset))

  fed_same : (serial : ℕ) (past : List Moment) (q : ℕ) → main_read start past q serial ≡ [] → (machine : Machine) → IsReady past q machine → Fed past q machine → Fed (said (notes.Got serial) ∷ past) q machine
  fed_same serial past q e machine ready h =
      let now = said (notes.Got serial) ∷ past in
      fed_so (Read past q) (Read now q) (Turned past q) (Turned now q) machine (λ holds reads. turned_same serial past q (ready.0 holds) e machine.present machine.orb reads)
      (λ orb kept offset next. read_got serial past q (aligned offset) orb (ready.1 orb kept offset next)) h

  -- each agent that has its ORB and has not ended it is ready for an answer, and so is one that has an ORB read ahead
  abbrev pub AreReady : List Moment → Type 0
  AreReady past = (q : ℕ) → IsReady past q (agent_at (over (target_at start past)) q).machine

  -- ---- a packet is got
  module _ (past : List Moment) (serial : ℕ) (waits : AreAskedAt start past) (brings : is_serial (receiver_in ((terms past).sent serial)) 0 ≡ true → GotBrings (Read (said (notes.Got serial) ∷ past)) (terms past) serial (over (target_at start past))) (ready : AreReady past) where
    abbrev wire : Terms
    wire = terms past

    abbrev T : Target
    T = over (target_at start past)

    abbrev now : List Moment
    now = said (notes.Got serial) ∷ past

    abbrev answer : Answer
    answer = answer_in (packet_at wire serial)

    all_same : ((q : ℕ) → main_read start past q serial ≡ []) → AreStill (Fed past) T → AreStill (Fed now) T
    all_same e h = record { agents = λ q. fed_same serial past q (e q) (agent_at T q).machine (ready q) (h.agents q); none = h.none }

    module _ (by_target : is_serial (receiver_in (wire.sent serial)) 0 ≡ true) (own : ℕ) (closed : answered_at wire serial ≡ Some own) where
      read_is : (p : Purpose) → purpose_of T own ≡ p → (q : ℕ) → main_read start past q serial ≡ cond (is_main_of p q) (moved_by (access_at wire own) (payload_at wire serial)) []
      read_is p e q =
          ap (λ b. cond b (main_moved wire T q serial (answered_at wire serial)) []) by_target
          ∙ ap (λ o. main_moved wire T q serial o) closed
          ∙ ap (λ (x : Purpose). cond (is_main_of x q) (moved_by (access_at wire own) (payload_at wire serial)) []) e

      module _ (place : ℕ) (h : AreStill (Fed past) T) where
        abbrev m : Machine
        m = (agent_at T place).machine

        -- the answer to its main request
        module _ (purpose : purpose_of T own ≡ for_agent place Main) where
          abbrev handed : (place < 8) × (serial_of Main (agent_at T place) ≡ Some own)
          handed = waits.handed own place Main purpose

          moved_is : (offset size : ℕ) → main_ask m.phase m ≡ requests.Read offset size → (bytes : List ℕ) → payload_of answer size ≡ Ok bytes → main_read start past place serial ≡ record { offset = offset; bytes = bytes } ∷ []
          moved_is offset size f bytes whole =
              let x = (waits.all place handed.0).main own handed.1 in
              let is : x.access ≡ read_access offset size = subst (λ (y : Ask). IsAccessFor y (writes_status m.phase) (fifo_in (login_at T place)) x.access) f x.asks in
              let p = paid answer size bytes whole in
              read_is (for_agent place Main) purpose place
              ∙ ap (λ b. cond b (moved_by (access_at wire own) (payload_at wire serial)) []) (let z : (place == place) ≡ true = grind (arith, nat_tests) in z)
              ∙ ap (λ (a : Option Access). moved_by a (payload_at wire serial)) (x.is ∙ ap (λ (a : Access). Some a) is)
              ∙ ap (λ (y : Answer). record { offset = offset; bytes = bytes_in y } ∷ []) p.is

          tabled : (e : m.phase ≡ phases.ReadingTable) (bytes : List ℕ) → payload_of answer (8 * m.orb.data_size) ≡ Ok bytes → Turned now place m.present m.orb (record { offset = m.orb.descriptor; bytes = bytes } ∷ [])
          tabled e bytes f =
              turned_got serial past place m.present m.orb [] (record { offset = m.orb.descriptor; bytes = bytes } ∷ []) ((ready place).0 (ap holds_read e)) (moved_is m.orb.descriptor (8 * m.orb.data_size) (ap (λ phase. main_ask phase m) e) bytes f)
              ((h.agents place).main.tabling e).turned

          filled : (wanted : ℕ) (e : m.phase ≡ phases.ReadingData wanted) (bytes : List ℕ) → payload_of answer (chunk_of m (length m.payload) wanted).length ≡ Ok bytes → Feeding (Turned now place) m.present m.orb m.segments (m.payload ++ bytes) wanted
          filled wanted e bytes f =
              let d = (h.agents place).main.filling wanted e in
              let taken = chunk_of m (length m.payload) wanted in
              let one : Moved = record { offset = taken.offset; bytes = bytes } in
              let got = turned_got serial past place m.present m.orb (d.tables ++ d.pieces) (one ∷ []) ((ready place).0 (ap holds_read e)) (moved_is taken.offset taken.length (ap (λ phase. main_ask phase m) e) bytes f) d.turned in
              let piece : IsPiece m.segments (limit_of m.orb) wanted (length m.payload) one = record { offset = refl; size = (paid answer taken.length bytes f).size_is } in
              let at : length m.payload ≡ 0 + length (all_bytes d.pieces) = (let z = ap (λ (xs : List ℕ). length xs) d.bytes in omega (arith, z)) in
              record {
                tables = d.tables;
                pieces = d.pieces ++ one ∷ [];
                turned = subst (Turned now place m.present m.orb) (append_assoc d.tables d.pieces (one ∷ [])) got;
                table = d.table;
                bytes = ap (λ xs. xs ++ bytes) d.bytes ∙ sym (all_more d.pieces one);
                turn = turn_more m.segments (limit_of m.orb) wanted 0 d.pieces one d.turn (subst (λ n. IsPiece m.segments (limit_of m.orb) wanted n one) at piece);
              }

          pub hears : Hears (Read now place) (Turned now place) (turns now place) m answer
          hears =
              let x = h.agents place in
              record {
                fetched = λ e. (x.main.fetching e, λ bytes f. (brings by_target own closed place Main purpose).main refl e bytes f);
                tabled = λ e. let t = x.main.tabling e in (t.empty, (t.reads, tabled e));
                filled = filled;
                ahead = ahead_so (Read past place) (Read now place) m (λ orb kept offset next. read_got serial past place (aligned offset) orb ((ready place).1 orb kept offset next)) m.ahead refl x.ahead;
                idle = x.idle;
              }

          main_pends : Pends (Fed now) m (record { place = place; which = Main; answer = answer })
          main_pends plain told = (main_steps (Read now place) (Turned now place) (turns now place) m place plain told answer hears).fed

        -- the answer to its read ahead
        module _ (purpose : purpose_of T own ≡ for_agent place Ahead) where
          ahead_pends : Pends (Fed now) m (record { place = place; which = Ahead; answer = answer })
          ahead_pends plain told =
              let handed = waits.handed own place Ahead purpose in
              let x = fed_same serial past place (read_is (for_agent place Ahead) purpose place) m (ready place) (h.agents place) in
              (ahead_steps (Read now place) (Turned now place) (turns now place) m place plain told answer x
              (λ e offset f bytes g. (brings by_target own closed place Ahead purpose).ahead refl e offset f bytes g)).fed

        pends : (which : Which) → purpose_of T own ≡ for_agent place which → Pends (Fed now) m (record { place = place; which = which; answer = answer })
        pends Main purpose = main_pends purpose
        pends Ahead purpose = ahead_pends purpose

        none_read : (which : Which) (q : ℕ) → purpose_of T own ≡ for_agent place which → (place == q) ≡ false → main_read start past q serial ≡ []
        none_read Main q purpose e = read_is (for_agent place Main) purpose q ∙ ap (λ b. cond b (moved_by (access_at wire own) (payload_at wire serial)) []) e
        none_read Ahead q purpose e = read_is (for_agent place Ahead) purpose q

      abbrev Then : Target → Type 0
      Then t = AreSo (Fed now) t

      to_purpose : (p : Purpose) → purpose_of T own ≡ p → AreStill (Fed past) T → Then (replied_to p answer T)
      to_purpose (for_agent place which) e h = record {
        agents = λ q f. fed_same serial past q (none_read place h which q e f) (agent_at T q).machine (ready q) (h.agents q);
        pending = λ reply f plain told is_told.
            let mine : Reply = record { place = place; which = which; answer = answer } in
            let same : mine ≡ reply = (let both : Some mine ≡ Some reply = f in cc) in
            subst (λ (r : Reply). Pends (Fed now) (agent_at T r.place).machine r) same (pends place h which e) plain told;
      }
      to_purpose for_manager e h = so (Fed now) _ (managed_kept (Fed now) (kept now) (manager_step T answer) answer T (all_same (λ q. read_is for_manager e q) h))
      to_purpose for_nobody e h = so (Fed now) T (all_same (λ q. read_is for_nobody e q) h)

    got_own : (by_target : is_serial (receiver_in (wire.sent serial)) 0 ≡ true) (own : Option ℕ) → answered_at wire serial ≡ own → AreStill (Fed past) T → AreSo (Fed now) (got_by own wire serial T)
    got_own by_target (Some own) e h = to_purpose by_target own e (purpose_of T own) refl h
    got_own by_target None e h =
        let none : (q : ℕ) → main_read start past q serial ≡ [] = λ q. ap (λ b. cond b (main_moved wire T q serial (answered_at wire serial)) []) by_target ∙ ap (λ o. main_moved wire T q serial o) e in
        so (Fed now) _ (request_kept (Fed now) (kept now) (access_at wire serial) (id_for wire 0 (unwrap_or (sender_in (wire.sent serial)) 0)) T (all_same none h))

    pub got_by_receiver : (b : Bool) → is_serial (receiver_in (wire.sent serial)) 0 ≡ b → AreStill (Fed past) T → AreSo (Fed now) (cond b (got_by (answered_at wire serial) wire serial T) T)
    got_by_receiver true e h = got_own e (answered_at wire serial) refl h
    got_by_receiver false e h = so (Fed now) T (all_same (λ q. ap (λ b. cond b (main_moved wire T q serial (answered_at wire serial)) []) e) h)

    got_so : AreSo (Fed past) (target_at start past) → AreSo (Fed now) (target_by (notes.Got serial) past wire (target_at start past))
    got_so h = got_by_receiver (is_serial (receiver_in (wire.sent serial)) 0) refl (over_still (Fed past) (kept past) (target_at start past) h)

  -- ---- at each moment
  all_more_so : (m : Moment) → IsNoGot m → (past : List Moment) (t : Target) → AreSo (Fed past) t → AreSo (Fed (m ∷ past)) t
  all_more_so m n past t h = record {
    agents = λ q e. fed_more m n past q (agent_at t q).machine (h.agents q e);
    pending = λ reply e plain told is_told. fed_more m n past reply.place _ (h.pending reply e plain told is_told);
  }

  -- what a note's packet brings
  abbrev pub IfBrings : Note → List Moment → Type 0
  IfBrings (notes.Got serial) past = is_serial (receiver_in ((terms past).sent serial)) 0 ≡ true → GotBrings (Read (said (notes.Got serial) ∷ past)) (terms past) serial (over (target_at start past))
  IfBrings note past = Unit {0}

  -- and its agents are ready for it
  abbrev pub IfReady : Note → List Moment → Type 0
  IfReady (notes.Got serial) past = AreReady past
  IfReady note past = Unit {0}

  pub on_note : (note : Note) (past : List Moment) → AskedAsGot start (said note) past → IfBrings note past → IfReady note past → AreSo (Fed past) (target_at start past) → AreSo (Fed (said note ∷ past)) (target_by note past (known_at start past).wire (target_at start past))
  on_note (notes.Got serial) past waits brings ready h =
      subst (λ (w : Terms). AreSo (Fed (said (notes.Got serial) ∷ past)) (target_by (notes.Got serial) past w (target_at start past))) (sym (wire_is start past)) (got_so past serial waits brings ready h)
  on_note note past waits brings ready h =
      note_kept (Fed (said note ∷ past)) (kept (said note ∷ past)) note past (known_at start past).wire (target_at start past) (all_more_so (said note) tt past (target_at start past) h) tt

  still_more : (m : Moment) → IsNoGot m → (past : List Moment) (t : Target) → AreStill (Fed past) t → AreStill (Fed (m ∷ past)) t
  still_more m n past t h = record { agents = λ q. fed_more m n past q (agent_at t q).machine (h.agents q); none = h.none }

  pub on_asked : (line : ℕ) (event : Event) (past : List Moment) → AreStill (Fed past) (over (target_at start past)) → AreSo (Fed (asked line event ∷ past)) (target_at start (asked line event ∷ past))
  on_asked line event past h = so (Fed (asked line event ∷ past)) (over (target_at start past)) (still_more (asked line event) tt past (over (target_at start past)) h)

  pub over_now : (past : List Moment) → AreSo (Fed past) (target_at start past) → AreStill (Fed past) (over (target_at start past))
  over_now past h = over_still (Fed past) (kept past) (target_at start past) h

  -- ---- over a turn
  module _ (now : List Moment) where
    -- what a packet brings that is got in this turn
    abbrev pub Gets : List Moment → Type 0
    Gets past =
        (serial : ℕ) (later : List Moment) → later ++ said (notes.Got serial) ∷ past ≡ now → AreAskedAt start past → is_serial (receiver_in ((terms past).sent serial)) 0 ≡ true → GotBrings (Read (said (notes.Got serial) ∷ past)) (terms past) serial (over (target_at start past))

    quiet_asked : (note : Note) (past : List Moment) → IsQuiet note → AskedAsGot start (said note) past
    quiet_asked (notes.Got serial) past q = absurd q
    quiet_asked note past q = tt

    quiet_brings : (note : Note) (past : List Moment) → IsQuiet note → IfBrings note past
    quiet_brings (notes.Got serial) past q = absurd q
    quiet_brings note past q = tt

    quiet_ready : (note : Note) (past : List Moment) → IsQuiet note → IfReady note past
    quiet_ready (notes.Got serial) past q = absurd q
    quiet_ready note past q = tt

    quiet_on : (front : List Note) (past : List Moment) → AllQuiet front → AreSo (Fed past) (target_at start past) → AreSo (Fed (map said front ++ past)) (target_at start (map said front ++ past))
    quiet_on [] past q h = h
    quiet_on (note ∷ front) past q h =
        on_note note (map said front ++ past) (quiet_asked note (map said front ++ past) q.0) (quiet_brings note (map said front ++ past) q.0) (quiet_ready note (map said front ++ past) q.0) (quiet_on front past q.1 h)

    if_brings : (note : Note) (past later : List Moment) → later ++ said note ∷ past ≡ now → AskedAsGot start (said note) past → Gets past → IfBrings note past
    if_brings (notes.Got serial) past later e a g = g serial later e a
    if_brings note past later e a g = tt

    if_ready : (note : Note) (past : List Moment) → AreReady past → IfReady note past
    if_ready (notes.Got serial) past r = r
    if_ready note past r = tt

    judged_on : (serial : ℕ) (judged : Judged) (past later : List Moment) → later ++ said (judged_note serial judged) ∷ past ≡ now → AskedAsGot start (said (judged_note serial judged)) past → Gets past → AreReady past → AreStill (Fed past) (over (target_at start past)) → AreSo (Fed (said (judged_note serial judged) ∷ past)) (target_at start (said (judged_note serial judged) ∷ past))
    judged_on serial (judgements.Ignored cause) past later e a g ready h = so (Fed (said (notes.Ignored serial cause) ∷ past)) (over (target_at start past)) (still_more (said (notes.Ignored serial cause)) tt past (over (target_at start past)) h)
    judged_on serial judgements.Got past later e a g ready h =
        subst (λ (w : Terms). AreSo (Fed (said (notes.Got serial) ∷ past)) (target_by (notes.Got serial) past w (target_at start past))) (sym (wire_is start past))
        (got_by_receiver past serial a (g serial later e a) ready (is_serial (receiver_in ((terms past).sent serial)) 0) refl h)

    pub fed_over : (before : List Moment) → Course before now → EachMoment (AskedAsGot start) now → Gets before → ((line : ℕ) (event : Event) → Gets (asked line event ∷ before)) → AreReady before → ((line : ℕ) (event : Event) → AreReady (asked line event ∷ before)) → AreStill (Fed before) (over (target_at start before)) → AreStill (Fed now) (over (target_at start now))
    fed_over before (as_it_was e) a g g_line ready ready_line h = subst (λ ms. AreStill (Fed ms) (over (target_at start ms))) (sym e) h
    fed_over before (by_asked front q line event is) a g g_line ready ready_line h =
        subst (λ ms. AreStill (Fed ms) (over (target_at start ms))) is (over_now (map said front ++ asked line event ∷ before) (quiet_on front (asked line event ∷ before) q (on_asked line event before h)))
    fed_over before (by_noted front q note line event is) a g g_line ready ready_line h =
        let past = asked line event ∷ before in
        let a_then = each_at (AskedAsGot start) (map said front) (said note) past (subst (EachMoment (AskedAsGot start)) (sym is) a) in
        subst (λ ms. AreStill (Fed ms) (over (target_at start ms))) is
        (over_now (map said front ++ said note ∷ past) (quiet_on front (said note ∷ past) q (on_note note past a_then (if_brings note past (map said front) is a_then (g_line line event)) (if_ready note past (ready_line line event)) (on_asked line event before h))))
    fed_over before (by_judged front q serial judged is) a g g_line ready ready_line h =
        let note = judged_note serial judged in
        let a_then = each_at (AskedAsGot start) (map said front) (said note) before (subst (EachMoment (AskedAsGot start)) (sym is) a) in
        subst (λ ms. AreStill (Fed ms) (over (target_at start ms))) is
        (over_now (map said front ++ said note ∷ before) (quiet_on front (said note ∷ before) q (judged_on serial judged before (map said front) is a_then g ready h)))
