-- The laws over every list of calls: one lemma for each step.
use Rattle.std.proofs.Common.{◌≡◌, refl, ap, sym, subst, inl, inr, nat_lt, ◌∙◌, ℕ, suc, ◌+◌, ◌-◌, ◌*◌, ◌==◌, ◌≤◌, Bool, true, false, cond, List, [], ◌∷◌, ◌++◌, length, take, drop, Option, Some, None, Result, Ok, Err, arith, is_none, IfSome, ◌||◌, ◌&&◌, not, ◌^◌}
use Rattle.std.proofs.lemmas.Bool.Decides.{nat_tests}
use Rattle.std.proofs.lemmas.List.{length-take-le}
use Rattle.std.proofs.Math.Seq.{take-add, take-length}
use Rattle.std.specs.Option.{option_map}
use Rattle.orb_layout.specs.declared.ask.FailCause.{FailCause}
use Rattle.orb_layout.specs.declared.ask.FailCause.TheVariants as causes
use Rattle.orb_layout.specs.declared.command.CommandOrb.{CommandOrb}
use Rattle.orb_layout.specs.declared.pointer.OrbPointer.{OrbPointer}
use Rattle.orb_layout.specs.declared.pointer.OrbPointer.TheVariants.{Null, At}
use Rattle.orb_layout.specs.declared.status.StatusKind.{StatusKind}
use Rattle.orb_layout.specs.declared.status.StatusKind.TheVariants as kinds
use Rattle.orb_layout.specs.declared.ask.Ask.{Ask}
use Rattle.orb_layout.specs.declared.ask.Ask.TheVariants.{Read}
use Rattle.orb_layout.specs.StatusBlocks.{status_bytes}
use Rattle.orb_layout.specs.CommandOrbs.{command_orb}
use Rattle.orb_layout.specs.Pointers.{pointer_at}
use Rattle.orb_layout.specs.Replies.{Answer, payload_of, write_failure}
use Rattle.page_table.specs.declared.fault.PageFault.{PageFault}
use Rattle.page_table.specs.declared.segment.Segment.{Segment}
use Rattle.page_table.specs.declared.segment.Chunk.{Chunk}
use Rattle.page_table.specs.Elements.{elements_of, first_fault}
use Rattle.rbc_disk.specs.declared.command.Need.{Need}
use Rattle.rbc_disk.specs.declared.command.Need.TheVariants as needs
use Rattle.rbc_disk.specs.declared.command.Outcome.{Outcome}
use Rattle.rbc_disk.specs.declared.command.Outcome.TheVariants as outcomes
use Rattle.rbc_disk.specs.Units.{PlainDisk}
use Rattle.rbc_disk.specs.Runs.{need_of, data_length_of, Told}
use Rattle.command_agent.specs.declared.phase.Phase.{Phase}
use Rattle.command_agent.specs.declared.phase.Phase.TheVariants as phases
use Rattle.command_agent.specs.declared.phase.ReadAhead.{ReadAhead}
use Rattle.command_agent.specs.declared.phase.ReadAhead.TheVariants as aheads
use Rattle.command_agent.specs.declared.step.AgentStep.{AgentStep}
use Rattle.command_agent.specs.declared.step.Move.{Move}
use Rattle.command_agent.specs.declared.step.Move.TheVariants as moves
use Rattle.command_agent.specs.declared.step.Which.{Which}
use Rattle.command_agent.specs.declared.step.Which.TheVariants.{Main, Ahead}
use Rattle.command_agent.specs.Machine.{Machine, aligned, is_sent, is_ahead, plan_of, chunk_of, cut_to}
use Rattle.command_agent.specs.Checks.{verdict, refusal, death_by, reads_table}
use Rattle.command_agent.specs.Steps.{quiet, asks, sent, told_or, ahead_read, ahead_step, dead_step, reread_step, end_step, answer_step, with_outcome, ran_as, run_step, judged, judge_step, checked, check_step, ahead_of, advanced, orb_read, table_read, elements_read, data_read, data_grown, chunk_written, status_written, next_read, follow_step, turn_step, pointed, point_step, doorbell_step, data_step, src_of, reset_step, abort_step, reply_step, unread_buffer, answer_chunk, turned}
use Rattle.command_agent.proofs.Fits.{data_needed, feeds_all, feeds_none}
use Rattle.agent_laws.specs.Calls.{Call, Point, Doorbell, Reset, Abort, Reply, after_call, after_calls, Note, Pointed, Rung, Came, Turn, Fetched, Table, Data, Reread, AheadUsed, Ran, named, asked, death_notes, ask_notes, run_notes, promotion_notes, turn_notes, fetch_notes, table_notes, data_notes, reread_notes, status_notes, ahead_notes, main_notes, heard, point_notes, step_notes, noted, notes, is_open, present_in, fetched_in, next_in, CallsAreLawful}
use Rattle.agent_laws.specs.Buffers.{table_in, buffer_in, wanted_by, piece, plan_for, CallsFeed}
use Rattle.agent_laws.specs.Answers.{outcome_in, answer_in, written_in, to_write, EndsWhole, CallsAnswer}
use Rattle.agent_laws.specs.Transactions.{main_in, UnderWayLaw}
use Rattle.agent_laws.specs.Wire.{is_dead, src_by, EndsBy, TakesPointer, CallsAreWired}
use Rattle.agent_laws.specs.Deaths.{asked_in, cause_of, failure_by, failure_in, is_illegal, illegal_in, due_by, due_in, EndsFailed, CallsDieDuly, DeathLaw}
use Rattle.agent_laws.specs.Bells.{reads_pointer, rung_since, IsAtEnd, SuspendedLaw, MarkLaw}
use Rattle.agent_laws.proofs.Known.{Laws, Heard, Clear, AsksBy, Parts, parts, Seen, seen, WaitsBy, TablingBy, FillingBy, AnswersBy, OverBy, BegunBy, KeepsBy, Keeps, Steadily, Tied, After, AfterMove, Ready, Fresh, Judgeable, Runnable}
use Rattle.agent_laws.proofs.Places.{own_known, table_known, piece_is, fetch_reads, again_reads, table_reads, data_reads, ends_whole}
use Rattle.agent_laws.proofs.Ahead.{is_fetching, Calm, calm}

by_test : (place : ℕ) (plain : PlainDisk) (ns : List Note) (b : Bool) (x y : AgentStep × Machine) → (b ≡ true → After place plain ns x) → (b ≡ false → After place plain ns y) → After place plain ns (cond b x y)
by_test place plain ns true x y p q = p refl
by_test place plain ns false x y p q = q refl

move_test : (place : ℕ) (plain : PlainDisk) (told : Told) (ns : List Note) (b : Bool) (x y : Move × Machine) → (b ≡ true → AfterMove place plain told ns x) → AfterMove place plain told ns y → AfterMove place plain told ns (cond b x y)
move_test place plain told ns true x y p q = p refl
move_test place plain told ns false x y p q = q

moved : (place : ℕ) (plain : PlainDisk) (told : Told) (ns : List Note) (s : AgentStep × Machine) → After place plain ns s → AfterMove place plain told ns (sent s)
moved place plain told ns s a = record { tied = a.tied }

-- why an agent is to be dead
unfailing : (failure : Option FailCause) (illegal : Bool) → due_by failure illegal ≡ None → failure ≡ None
unfailing (Some cause) illegal e = cc e
unfailing None illegal e = refl

not_illegal : (failure : Option FailCause) (illegal : Bool) → due_by failure illegal ≡ None → illegal ≡ false
not_illegal (Some cause) illegal e = cc e
not_illegal None true e = cc e
not_illegal None false e = refl

due_kind : (kind : StatusKind) → due_by None (is_illegal kind) ≡ death_by kind
due_kind (kinds.Illegal meaning) = refl
due_kind _ = refl

unfailed : (ns : List Note) → Clear ns → failure_in ns ≡ None
unfailed ns l = unfailing (failure_in ns) (illegal_in ns) l.6

-- what came of the main transaction
came : (ns : List Note) (answer : Answer) (size : Option ℕ) → main_in ns ≡ true → asked_in ns ≡ size → failure_in (Came Main answer ∷ ns) ≡ failure_by size answer
came ns answer size main asks = ap (λ (b : Bool). cond b (failure_by (asked_in ns) answer) (failure_in ns)) main ∙ ap (λ (s : Option ℕ). failure_by s answer) asks

still_due : (ns : List Note) (answer : Answer) → main_in ns ≡ false → (is_dead ns ≡ false → due_in ns ≡ None) → is_dead ns ≡ false → due_in (Came Main answer ∷ ns) ≡ None
still_due ns answer idle due alive = ap (λ (b : Bool). due_by (cond b (failure_by (asked_in ns) answer) (failure_in ns)) (illegal_in ns)) idle ∙ due alive

heard_laws : (ns : List Note) (answer : Answer) → Laws ns → (is_dead ns ≡ false → due_in ns ≡ None) → is_dead ns ≡ false → Heard (Came Main answer ∷ ns)
heard_laws ns answer l due alive = (l.0, l.1, l.2, l.3, l.4, refl, not_illegal (failure_in ns) (illegal_in ns) (due alive))

clear : (ns : List Note) → Heard ns → failure_in ns ≡ None → Clear ns
clear ns l f = (l.0, l.1, l.2, l.3, l.4, l.5, ap (λ (g : Option FailCause). due_by g (illegal_in ns)) f ∙ ap (λ (b : Bool). due_by None b) l.6)

lawful : (ns : List Note) → Clear ns → Laws ns
lawful ns l = (l.0, l.1, l.2, l.3, l.4)

-- the doorbell mark at a main read
rung_less : (b rung : Bool) → cond b false rung ≡ true → rung ≡ true
rung_less true rung h = cc h
rung_less false rung h = h

reread_clears : (present : Option ℕ) (bytes : Option CommandOrb) (rung : Bool) → present ≡ None → cond (is_none present || is_none bytes) false rung ≡ true → false ≡ true
reread_clears None bytes rung gone h = h
reread_clears (Some at) bytes rung gone h = cc gone

unrung : (rung mark : Bool) → (rung ≡ true → mark ≡ true) → mark ≡ false → rung ≡ false
unrung true mark bell quiet = let rings : mark ≡ true = bell refl in cc
unrung false mark bell quiet = refl

still_rung : (mark more : Bool) → mark ≡ true → (mark || more) ≡ true
still_rung true more h = refl
still_rung false more h = cc h

-- a read ahead is asked for, and is over
quieter : (phase : Phase) (p : Parts) (s : Seen) → is_fetching phase ≡ false → KeepsBy phase p s → KeepsBy phase p (record s { behind = true; rung = false })
quieter phases.Suspended p s past k = record { over = k.over; null = k.null; unrung = refl }
quieter phases.Fetching p s past k = cc past
quieter _ p s past k = k

hushed : (phase : Phase) (p : Parts) (s : Seen) → KeepsBy phase p s → KeepsBy phase p (record s { behind = false })
hushed phases.Fetching p s k = record { still = k.still; alive = k.alive; here = k.here; none = k.none; unrun = k.unrun; joined = k.joined; empty = k.empty; untabled = k.untabled; unwritten = k.unwritten; alone = refl }
hushed _ p s k = k

-- its status block
src_is : (next : OrbPointer) → src_of next ≡ src_by next
src_is Null = refl
src_is (At offset) = refl

block_is : (kind : StatusKind) (orb : ℕ) (next now : OrbPointer) → now ≡ next → status_bytes (record { src = src_of next; kind = kind; orb = orb }) ≡ status_bytes (record { src = src_by now; kind = kind; orb = orb })
block_is kind orb next now e = ap (λ (src : ℕ). status_bytes (record { src = src; kind = kind; orb = orb })) (src_is next ∙ sym (ap src_by e))

-- the present ORB ends
end_after : (m : Machine) (kind : StatusKind) (dead : Option FailCause) (place : ℕ) (plain : PlainDisk) (ns : List Note) → Laws ns → main_in ns ≡ false → Steadily m m.ahead ns → is_open ns ≡ true → is_dead ns ≡ false → present_in ns ≡ Some m.present
    → EndsBy kind (outcome_in ns) → EndsWhole kind (written_in ns) (outcome_in ns) (answer_in ns) → EndsFailed kind (failure_in ns) → due_by (failure_in ns) (is_illegal kind) ≡ dead → After place plain ns (end_step m kind dead)
end_after m kind None place plain ns l free s o a h e w f d = record {
  tied = record {
    laws = ((h, l.0), (free, e, refl, refl, block_is kind m.present m.orb.next (next_in ns) s.next_is, l.1), l.2, (w, l.3), (f, l.4));
    steady = s;
    main = refl;
    phase = record { still = o; alive = a; gone = refl };
    asks = refl;
    due = λ _. d;
  };
  unasked = refl;
}
end_after m kind (Some cause) place plain ns l free s o a h e w f d = record {
  tied = record {
    laws = ((h, l.0), (free, e, refl, refl, block_is kind m.present m.orb.next (next_in ns) s.next_is, l.1), l.2, (w, l.3), (d, (f, l.4)));
    steady = record { next_is = s.next_is; last_is = s.last_is; kept = tt; behind_is = refl; bell = λ _ live _. cc };
    main = refl;
    phase = refl;
    asks = tt;
    due = λ live. cc;
  };
  unasked = refl;
}

-- where no transaction failed
done_after : (m : Machine) (kind : StatusKind) (dead : Option FailCause) (place : ℕ) (plain : PlainDisk) (ns : List Note) → Clear ns → Steadily m m.ahead ns → is_open ns ≡ true → is_dead ns ≡ false → present_in ns ≡ Some m.present
    → EndsBy kind (outcome_in ns) → EndsWhole kind (written_in ns) (outcome_in ns) (answer_in ns) → EndsFailed kind None → due_by None (is_illegal kind) ≡ dead → After place plain ns (end_step m kind dead)
done_after m kind dead place plain ns l s o a h e w f d =
    end_after m kind dead place plain ns (lawful ns l) l.5 s o a h e w
    (subst (λ (g : Option FailCause). EndsFailed kind g) (sym (unfailed ns l)) f)
    (ap (λ (g : Option FailCause). due_by g (is_illegal kind)) (unfailed ns l) ∙ d)

-- without a run
unrun_after : (m : Machine) (kind : StatusKind) (dead : Option FailCause) (place : ℕ) (plain : PlainDisk) (ns : List Note) → EndsBy kind None → EndsFailed kind None → due_by None (is_illegal kind) ≡ dead → Ready m ns → After place plain ns (end_step m kind dead)
unrun_after m kind dead place plain ns e f d r =
    done_after m kind dead place plain ns r.laws r.steady r.waits.still r.waits.alive r.waits.here
    (subst (λ (o : Option Outcome). EndsBy kind o) (sym r.waits.unrun) e)
    (ends_whole kind (written_in ns) (outcome_in ns) (answer_in ns) r.waits.unwritten r.waits.unrun) f d

-- a chunk of its answer is written
answer_after : (m : Machine) (place : ℕ) (plain : PlainDisk) (ns : List Note) → Clear ns → Steadily m m.ahead ns → AnswersBy (parts m) m.written (seen ns) → After place plain ns (answer_step m)
answer_after m place plain ns l s k =
    let far : length (written_in ns) ≡ m.written = ap length k.joined ∙ length-take-le m.written m.answer k.within in
    let bytes : List ℕ = take (answer_chunk m) (drop m.written m.answer) in
    record {
      tied = record {
        laws = (
          (k.once, l.0),
          (l.5, l.1),
          l.2,
          (
            record {
              good = k.good;
              place = piece_is (fetched_in ns) (buffer_in ns) m.orb m.segments (length (written_in ns)) m.written (length (answer_in ns)) (length m.answer) k.got k.over far (ap length k.same);
              same = sym (ap (λ (n : ℕ). take (answer_chunk m) (drop n (answer_in ns))) far ∙ ap (λ (xs : List ℕ). take (answer_chunk m) (drop m.written xs)) k.same);
            },
            l.3,
          ),
          l.4,
        );
        steady = s;
        main = refl;
        phase = record {
          still = k.still;
          alive = k.alive;
          here = k.here;
          once = k.once;
          good = k.good;
          got = k.got;
          over = k.over;
          same = k.same;
          whole = k.whole;
          within = k.within;
          joined = ap (λ (xs : List ℕ). xs ++ bytes) k.joined ∙ sym (take-add m.written (answer_chunk m) m.answer);
        };
        asks = refl;
        due = λ _. l.6;
      };
      unasked = refl;
    }

-- its command runs
abbrev run_note : Machine → ℕ → PlainDisk → Outcome → Note
run_note m place plain outcome = Ran m.present m.orb (plan_of m) place plain m.payload outcome m.answer

run_laws : (m : Machine) (place : ℕ) (plain : PlainDisk) (outcome : Outcome) (ns : List Note) → Runnable m place plain ns → Clear (run_note m place plain outcome ∷ ns)
run_laws m place plain outcome ns r =
    let w : WaitsBy (parts m) (seen ns) = r.ready.waits in
    let l : Clear ns = r.ready.laws in
    ((w.here, w.none, w.got, r.fed, l.0), l.1, (record { over = ap (λ (b : Option (List Segment)). option_map (plan_for m.orb) b) r.over; joined = sym w.joined; whole = r.whole }, l.2), l.3, l.4, l.5, l.6)

good_after : (b : Bool) (len : ℕ) (m : Machine) (place : ℕ) (plain : PlainDisk) (ns : List Note) → (len == 0) ≡ b → m.written ≡ 0 → Runnable m place plain ns → After place plain ns (with_outcome (outcomes.Good len) (cond b (end_step m kinds.Good None) (answer_step m)))
good_after true len m place plain ns e z r =
    let w : WaitsBy (parts m) (seen ns) = r.ready.waits in
    record { tied = (done_after m kinds.Good None place plain (run_note m place plain (outcomes.Good len) ∷ ns) (run_laws m place plain (outcomes.Good len) ns r) r.ready.steady w.still w.alive w.here refl (sym (ap (λ (b : Bool). cond b [] m.answer) e)) refl refl).tied; unasked = refl }
good_after false len m place plain ns e z r =
    let w : WaitsBy (parts m) (seen ns) = r.ready.waits in
    record {
      tied = (answer_after m place plain (run_note m place plain (outcomes.Good len) ∷ ns) (run_laws m place plain (outcomes.Good len) ns r) r.ready.steady (record {
        still = w.still;
        alive = w.alive;
        here = w.here;
        once = ap suc w.none;
        good = refl;
        got = w.got;
        over = r.over;
        same = refl;
        whole = ap (λ (b : Bool). cond b [] m.answer) e;
        within = omega arith;
        joined = sym (ap (λ (n : ℕ). take n m.answer) z);
      })).tied;
      unasked = refl;
    }

ran_after : (outcome : Outcome) (m : Machine) (place : ℕ) (plain : PlainDisk) (ns : List Note) → m.written ≡ 0 → Runnable m place plain ns → After place plain ns (with_outcome outcome (ran_as m outcome))
ran_after (outcomes.Good len) m place plain ns z r = good_after (len == 0) len m place plain ns refl z r
ran_after (outcomes.Check sense) m place plain ns z r =
    let w : WaitsBy (parts m) (seen ns) = r.ready.waits in
    record { tied = (done_after m (kinds.Check sense) None place plain (run_note m place plain (outcomes.Check sense) ∷ ns) (run_laws m place plain (outcomes.Check sense) ns r) r.ready.steady w.still w.alive w.here refl refl refl refl).tied; unasked = refl }

run_after : (m : Machine) (told : Told) (place : ℕ) (plain : PlainDisk) (ns : List Note) → Runnable m place plain ns → After place plain ns (run_step m told)
run_after m told place plain ns r =
    ran_after told.outcome (record m { answer = told.answer; written = 0 }) place plain ns refl
    (record { ready = record { laws = r.ready.laws; steady = r.ready.steady; waits = r.ready.waits }; over = r.over; whole = r.whole; fed = r.fed })

-- its data are read
data_step_after : (m : Machine) (wanted : ℕ) (place : ℕ) (plain : PlainDisk) (ns : List Note) → Clear ns → Steadily m m.ahead ns → FillingBy (parts m) wanted (seen ns) → After place plain ns (data_step m wanted)
data_step_after m wanted place plain ns l s k = record {
  tied = record {
    laws = (
      l.0,
      (data_reads ns m.present m.orb m.segments (length m.payload) wanted l.5 k.waits.here k.waits.got k.over (ap length k.waits.joined) (ap wanted_by k.waits.got ∙ sym k.whole), l.1),
      l.2,
      l.3,
      l.4,
    );
    steady = record { next_is = s.next_is; last_is = s.last_is; kept = s.kept; behind_is = s.behind_is; bell = λ o d h. s.bell o d (rung_less (reads_pointer ns) (rung_since ns) h) };
    main = refl;
    phase = k;
    asks = refl;
    due = λ _. l.6;
  };
  unasked = refl;
}

-- its command is judged
judged_after : (need : Need) (m : Machine) (told : Told) (place : ℕ) (plain : PlainDisk) (ns : List Note) → need ≡ need_of m.orb.cdb (plan_of m) plain place → Judgeable m ns → After place plain ns (judged m told need)
judged_after needs.RunNow m told place plain ns e j =
    run_after m told place plain ns (record { ready = j.ready; over = j.over; whole = inl j.empty; fed = feeds_none (need_of m.orb.cdb (plan_of m) plain place) m.payload (sym e) })
judged_after (needs.Payload len) m told place plain ns e j =
    data_step_after m len place plain ns j.ready.laws j.ready.steady (record { waits = j.ready.waits; over = j.over; whole = data_needed m.orb.cdb (plan_of m) plain place len (sym e) })

judge_after : (m : Machine) (told : Told) (place : ℕ) (plain : PlainDisk) (ns : List Note) → Judgeable m ns → After place plain ns (judge_step m place plain told)
judge_after m told place plain ns j = judged_after (need_of m.orb.cdb (plan_of m) plain place) m told place plain ns refl j

-- its page table is read
table_step_after : (m : Machine) (place : ℕ) (plain : PlainDisk) (ns : List Note) → reads_table m.orb ≡ true → Fresh m ns → After place plain ns (asks (Read m.orb.descriptor (8 * m.orb.data_size)), record m { phase = phases.ReadingTable })
table_step_after m place plain ns reads f =
    let r : Ready m ns = f.ready in
    record {
      tied = record {
        laws = (r.laws.0, (table_reads ns m.present m.orb r.laws.5 r.waits.here r.waits.got reads f.untabled, r.laws.1), r.laws.2, r.laws.3, r.laws.4);
        steady = record { next_is = r.steady.next_is; last_is = r.steady.last_is; kept = r.steady.kept; behind_is = r.steady.behind_is; bell = λ o d h. r.steady.bell o d (rung_less (reads_pointer ns) (rung_since ns) h) };
        main = refl;
        phase = record { waits = r.waits; reads = reads; empty = f.empty };
        asks = refl;
        due = λ _. r.laws.6;
      };
      unasked = refl;
    }

-- Without a run an ORB ends as dummy, aborted or illegal by its checks.
abbrev EndsUnrun : StatusKind → Type 0
EndsUnrun kind = EndsBy kind None × EndsFailed kind None

pick : (b : Bool) (x y : Option StatusKind) → IfSome x EndsUnrun → IfSome y EndsUnrun → IfSome (cond b x y) EndsUnrun
pick true x y p q = p
pick false x y p q = q

refusal_ends : (orb : CommandOrb) → IfSome (refusal orb) EndsUnrun
unfolding refusal
refusal_ends orb =
    pick (nat_lt 2 orb.speed) (Some (kinds.Illegal 0x02)) _ (refl, refl)
    (pick (nat_lt (7 + orb.speed) orb.max_payload) (Some (kinds.Illegal 0xff)) _ (refl, refl)
    (pick (orb.has_table && not (orb.page_size == 0)) (Some (kinds.Illegal 0x03)) _ (refl, refl)
    (pick (orb.has_table && nat_lt 64 orb.data_size) (Some (kinds.Illegal 0xff)) _ (refl, refl)
    (pick (not orb.has_table && nat_lt (2 ^ 48) (orb.descriptor + orb.data_size)) (Some (kinds.Illegal 0xff)) None (refl, refl) tt))))

verdict_ends : (orb : CommandOrb) (aborted : Bool) → IfSome (verdict orb aborted) EndsUnrun
unfolding verdict
verdict_ends orb aborted =
    pick (orb.format == 3) (Some kinds.Dummy) _ (refl, refl)
    (pick (not (orb.format == 0)) (Some (kinds.Illegal 0x01)) _ (refl, refl)
    (pick aborted (Some kinds.Aborted) _ (refl, refl) (refusal_ends orb)))

-- it is checked
checked_after : (verdict : Option StatusKind) (m : Machine) (told : Told) (place : ℕ) (plain : PlainDisk) (ns : List Note) → IfSome verdict EndsUnrun → Fresh m ns → After place plain ns (checked m place plain told verdict)
checked_after (Some kind) m told place plain ns e f = unrun_after m kind (death_by kind) place plain ns e.0 e.1 (due_kind kind) f.ready
checked_after None m told place plain ns e f =
    by_test place plain ns (reads_table m.orb) _ _
    (λ reads. table_step_after m place plain ns reads f)
    (λ unread. judge_after (record m { segments = unread_buffer m.orb }) told place plain ns
    (record {
      ready = record { laws = f.ready.laws; steady = f.ready.steady; waits = f.ready.waits };
      over = own_known (fetched_in ns) (table_in ns) m.orb f.ready.waits.got unread;
      empty = f.empty;
    }))

-- behind it the next ORB is read ahead
abbrev without_ahead : ℕ → PlainDisk → AgentStep → Machine → List Note → List Note
without_ahead place plain step m ns = death_notes step.dead (ask_notes step.ended step.ask m.present m.outgoing (run_notes step.ran (λ outcome. run_note m place plain outcome) (promotion_notes step.promoted ns)))

unasked_tied : (place : ℕ) (plain : PlainDisk) (ns : List Note) (s : AgentStep × Machine) → After place plain ns s → Tied s.1 (without_ahead place plain s.0 s.1 ns)
unasked_tied place plain ns s r = subst (λ (ask : Ask). Tied s.1 (asked Ahead ask [] (without_ahead place plain s.0 s.1 ns))) r.unasked r.tied

ahead_after : (dead : Option FailCause) (next : OrbPointer) (place : ℕ) (plain : PlainDisk) (ns : List Note) (s : AgentStep × Machine) → s.1.orb.next ≡ next → Calm s.1 → After place plain ns s
    → Tied (ahead_of dead next s).1 (step_notes place plain (ahead_of dead next s).0 (ahead_of dead next s).1 ns)
ahead_after None (At next) place plain ns s e c r =
    let t : Tied s.1 (without_ahead place plain s.0 s.1 ns) = unasked_tied place plain ns s r in
    record {
      laws = (t.laws.0, ((t.steady.behind_is ∙ c.idle, ap named (t.steady.next_is ∙ e), refl), t.laws.1), t.laws.2, t.laws.3, t.laws.4);
      steady = record { next_is = t.steady.next_is; last_is = t.steady.last_is; kept = tt; behind_is = refl; bell = λ _ _ h. cc };
      main = t.main;
      phase = quieter s.1.phase (parts s.1) (seen (without_ahead place plain s.0 s.1 ns)) c.past t.phase;
      asks = t.asks;
      due = t.due;
    }
ahead_after None Null place plain ns s e c r = r.tied
ahead_after (Some cause) next place plain ns s e c r = r.tied

check_after : (m : Machine) (told : Told) (place : ℕ) (plain : PlainDisk) (ns : List Note) → is_ahead m.ahead ≡ false → Fresh m ns → AfterMove place plain told ns (moves.Check, m)
check_after m told place plain ns idle f =
    let s : AgentStep × Machine = check_step m place plain told in
    record { tied = ahead_after s.0.dead s.1.orb.next place plain ns s refl (calm m place plain told idle) (checked_after (verdict m.orb m.aborted) m told place plain ns (verdict_ends m.orb m.aborted) f) }

-- the reply to a read of the present ORB
failed_after : (m : Machine) (cause : FailCause) (told : Told) (place : ℕ) (plain : PlainDisk) (ns : List Note) → Heard ns → failure_in ns ≡ Some cause → Steadily m m.ahead ns → is_open ns ≡ true → is_dead ns ≡ false → present_in ns ≡ Some m.present → AfterMove place plain told ns (sent (end_step m kinds.Failed (Some cause)))
failed_after m cause told place plain ns l f s o a h =
    moved place plain told ns _
    (end_after m kinds.Failed (Some cause) place plain ns (l.0, l.1, l.2, l.3, l.4) l.5 s o a h tt tt (ap (λ (g : Option FailCause). is_none g) f) (ap (λ (g : Option FailCause). due_by g false) f))

orb_after : (r : Result (List ℕ) FailCause) (m : Machine) (told : Told) (place : ℕ) (plain : PlainDisk) (ns : List Note) → Heard ns → failure_in ns ≡ cause_of r → Steadily m m.ahead ns → BegunBy (parts m) (seen ns) → AfterMove place plain told (fetch_notes r ns) (orb_read m r)
orb_after (Err cause) m told place plain ns l f s b = failed_after m cause told place plain ns l f s b.still b.alive b.here
orb_after (Ok bytes) m told place plain ns l f s b =
    check_after (record m { orb = command_orb bytes }) told place plain (Fetched (command_orb bytes) ∷ ns) (sym s.behind_is ∙ b.alone)
    (record {
      ready = record {
        laws = clear ns l f;
        steady = record { next_is = refl; last_is = s.last_is; kept = s.kept; behind_is = s.behind_is; bell = s.bell };
        waits = record { still = b.still; alive = b.alive; here = b.here; none = b.none; unrun = b.unrun; joined = b.joined; got = refl; unwritten = b.unwritten };
      };
      untabled = b.untabled;
      empty = b.empty;
    })

-- of its page table
elements_after : (fault : Option PageFault) (bytes : List ℕ) (m : Machine) (told : Told) (place : ℕ) (plain : PlainDisk) (ns : List Note) → table_in ns ≡ Some bytes → reads_table m.orb ≡ true → m.payload ≡ [] → Ready m ns → AfterMove place plain told ns (elements_read m bytes fault)
elements_after (Some fault) bytes m told place plain ns t reads empty r = moved place plain told ns _ (unrun_after m (kinds.Illegal 0xff) (Some causes.Grammar) place plain ns refl refl refl r)
elements_after None bytes m told place plain ns t reads empty r = record {
  tied = (judge_after (record m { segments = elements_of bytes }) told place plain ns
      (record {
        ready = record { laws = r.laws; steady = r.steady; waits = r.waits };
        over = table_known (fetched_in ns) (table_in ns) m.orb bytes r.waits.got reads t;
        empty = empty;
      })).tied;
}

aborted_after : (m : Machine) (told : Told) (place : ℕ) (plain : PlainDisk) (ns : List Note) → Ready m ns → AfterMove place plain told ns (sent (end_step m kinds.Aborted None))
aborted_after m told place plain ns r = moved place plain told ns _ (unrun_after m kinds.Aborted None place plain ns refl refl refl r)

table_after : (r : Result (List ℕ) FailCause) (m : Machine) (told : Told) (place : ℕ) (plain : PlainDisk) (ns : List Note) → Heard ns → failure_in ns ≡ cause_of r → Steadily m m.ahead ns → TablingBy (parts m) (seen ns) → AfterMove place plain told (table_notes r ns) (table_read m r)
table_after (Err cause) m told place plain ns l f s k = failed_after m cause told place plain ns l f s k.waits.still k.waits.alive k.waits.here
table_after (Ok bytes) m told place plain ns l f s k =
    move_test place plain told (Table bytes ∷ ns) m.aborted _ _
    (λ _. aborted_after m told place plain (Table bytes ∷ ns) (record { laws = clear ns l f; steady = s; waits = k.waits }))
    (elements_after (first_fault 0 (elements_of bytes)) bytes m told place plain (Table bytes ∷ ns) refl k.reads k.empty (record { laws = clear ns l f; steady = s; waits = k.waits }))

-- of its data
is_whole : (n wanted : ℕ) → (n == wanted) ≡ true → n ≡ wanted
is_whole n wanted e = grind (arith, nat_tests)

grown_after : (m : Machine) (wanted : ℕ) (told : Told) (place : ℕ) (plain : PlainDisk) (ns : List Note) → Clear ns → Steadily m m.ahead ns → FillingBy (parts m) wanted (seen ns) → AfterMove place plain told ns (data_grown m wanted)
grown_after m wanted told place plain ns l s k =
    move_test place plain told ns (length m.payload == wanted) _ _
    (λ t.
    let all : length m.payload ≡ data_length_of false m.orb.cdb = is_whole (length m.payload) wanted t ∙ k.whole in
    record {
      tied = (run_after m told place plain ns (record {
        ready = record { laws = l; steady = s; waits = k.waits };
        over = k.over;
        whole = inr (all ∙ sym (ap wanted_by k.waits.got));
        fed = feeds_all m.orb.cdb (plan_of m) plain place m.payload all;
      })).tied;
    })
    (moved place plain told ns _ (data_step_after m wanted place plain ns l s k))

data_after : (r : Result (List ℕ) FailCause) (m : Machine) (wanted : ℕ) (told : Told) (place : ℕ) (plain : PlainDisk) (ns : List Note) → Heard ns → failure_in ns ≡ cause_of r → Steadily m m.ahead ns → FillingBy (parts m) wanted (seen ns) → AfterMove place plain told (data_notes r ns) (data_read m wanted r)
data_after (Err cause) m wanted told place plain ns l f s k = failed_after m cause told place plain ns l f s k.waits.still k.waits.alive k.waits.here
data_after (Ok bytes) m wanted told place plain ns l f s k =
    move_test place plain told (Data bytes ∷ ns) m.aborted _ _
    (λ _. moved place plain told (Data bytes ∷ ns) _ (done_after m kinds.Aborted None place plain (Data bytes ∷ ns) (clear ns l f) s k.waits.still k.waits.alive k.waits.here k.waits.unrun
    (ends_whole kinds.Aborted (written_in ns) (outcome_in ns) (answer_in ns) k.waits.unwritten k.waits.unrun) refl refl))
    (grown_after (record m { payload = m.payload ++ bytes }) wanted told place plain (Data bytes ∷ ns) (clear ns l f) s
    (record {
      waits = record { still = k.waits.still; alive = k.waits.alive; here = k.waits.here; none = k.waits.none; unrun = k.waits.unrun; joined = ap (λ (xs : List ℕ). xs ++ bytes) k.waits.joined; got = k.waits.got; unwritten = k.waits.unwritten };
      over = k.over;
      whole = k.whole;
    }))

-- to a write of its answer
cut_small : (left : ℕ) (o : Option Chunk) → (cut_to left o).length ≤ left
cut_small left None = omega arith
cut_small left (Some piece) = omega arith

chunk_after : (failure : Option FailCause) (m : Machine) (told : Told) (place : ℕ) (plain : PlainDisk) (ns : List Note) → Heard ns → failure_in ns ≡ failure → Steadily m m.ahead ns → AnswersBy (parts m) (m.written + answer_chunk m) (seen ns) → AfterMove place plain told ns (chunk_written m failure)
chunk_after (Some cause) m told place plain ns l f s k = failed_after m cause told place plain ns l f s k.still k.alive k.here
chunk_after None m told place plain ns l f s k =
    let n : Machine = record m { written = m.written + answer_chunk m } in
    let far : answer_chunk m ≤ length m.answer - m.written = cut_small (length m.answer - m.written) _ in
    let had : m.written ≤ length m.answer = k.within in
    let within : m.written + answer_chunk m ≤ length m.answer = omega arith in
    moved place plain told ns _
    (by_test place plain ns (n.written == length n.answer) (end_step n kinds.Good None) (answer_step n)
    (λ e.
    let last : m.written + answer_chunk m ≡ length m.answer = is_whole (m.written + answer_chunk m) (length m.answer) e in
    done_after n kinds.Good None place plain ns (clear ns l f) s k.still k.alive k.here k.good
    (k.joined ∙ ap (λ (count : ℕ). take count m.answer) last ∙ take-length m.answer ∙ sym k.whole ∙ sym (ap (λ (xs : List ℕ). to_write (outcome_in ns) xs) k.same)) refl refl)
    (λ _. answer_after n place plain ns (clear ns l f) s
    (record { still = k.still; alive = k.alive; here = k.here; once = k.once; good = k.good; got = k.got; over = k.over; same = k.same; whole = k.whole; within = within; joined = k.joined })))

-- to the write of its status block, and to a read of its next pointer
turn_after : (ahead : ReadAhead) (next : ℕ) (m : Machine) (told : Told) (place : ℕ) (plain : PlainDisk) (ns : List Note) → Clear ns → Steadily m ahead ns → OverBy (seen ns) → next_in ns ≡ At next → AfterMove place plain told (turn_notes (At next) ahead ns) (turn_step m next ahead)
turn_after aheads.Idle next m told place plain ns l s o n =
    record {
      tied = record {
        laws = ((o.gone, o.still, ap named n, l.0), (fetch_reads (Turn (aligned next) ∷ ns) (aligned next) l.5 refl refl, l.1), l.2, l.3, l.4);
        steady = record { next_is = refl; last_is = refl; kept = tt; behind_is = s.behind_is; bell = λ _ _ h. cc };
        main = refl;
        phase = record { still = o.still; alive = o.alive; here = refl; none = refl; unrun = refl; joined = refl; empty = refl; untabled = refl; unwritten = refl; alone = s.behind_is };
        asks = refl;
        due = λ _. ap (λ (g : Option FailCause). due_by g false) (unfailed ns l);
      };
    }
turn_after (aheads.UnderWay rung) next m told place plain ns l s o n =
    record {
      tied = record {
        laws = ((o.gone, o.still, ap named n, l.0), (l.5, l.1), l.2, l.3, l.4);
        steady = record { next_is = refl; last_is = refl; kept = tt; behind_is = refl; bell = s.bell };
        main = refl;
        phase = record { still = o.still; alive = o.alive; here = refl; none = refl; unrun = refl; joined = refl; empty = refl; untabled = refl; unwritten = refl; alone = refl };
        asks = refl;
        due = λ _. ap (λ (g : Option FailCause). due_by g false) (unfailed ns l);
      };
    }
turn_after (aheads.Kept orb) next m told place plain ns l s o n =
    let fresh : due_by (failure_in ns) false ≡ None = ap (λ (g : Option FailCause). due_by g false) (unfailed ns l) in
    check_after (record (turned m next) { orb = orb }) told place plain (Fetched orb ∷ Turn (aligned next) ∷ AheadUsed orb ∷ ns) refl
    (record {
      ready = record {
        laws = ((o.gone, o.still, ap named n, (s.kept, l.0)), l.1, l.2, l.3, l.4, l.5, fresh);
        steady = record { next_is = refl; last_is = refl; kept = tt; behind_is = s.behind_is; bell = s.bell };
        waits = record { still = o.still; alive = o.alive; here = refl; none = refl; unrun = refl; joined = refl; got = refl; unwritten = refl };
      };
      untabled = refl;
      empty = refl;
    })

reread_after_step : (m : Machine) (place : ℕ) (plain : PlainDisk) (ns : List Note) → Clear ns → Steadily m m.ahead ns → OverBy (seen ns) → After place plain ns (reread_step m)
reread_after_step m place plain ns l s o = record {
  tied = record {
    laws = (l.0, (again_reads ns m.present l.5 o.gone s.last_is, l.1), l.2, l.3, l.4);
    steady = record { next_is = s.next_is; last_is = s.last_is; kept = s.kept; behind_is = s.behind_is; bell = λ _ _ h. reread_clears (present_in ns) (fetched_in ns) (rung_since ns) o.gone h };
    main = refl;
    phase = o;
    asks = refl;
    due = λ _. l.6;
  };
  unasked = refl;
}

follow_after : (next : OrbPointer) (m : Machine) (told : Told) (place : ℕ) (plain : PlainDisk) (ns : List Note) → Clear ns → Steadily m m.ahead ns → OverBy (seen ns) → next_in ns ≡ next → AfterMove place plain told (turn_notes next m.ahead ns) (follow_step m next)
follow_after (At next) m told place plain ns l s o n = turn_after m.ahead next m told place plain ns l s o n
follow_after Null m told place plain ns l s o n =
    moved place plain told ns _
    (by_test place plain ns m.doorbell (reread_step m) (quiet, record m { phase = phases.Suspended })
    (λ _. reread_after_step m place plain ns l s o)
    (λ silent. record {
      tied = record { laws = lawful ns l; steady = s; main = l.5; phase = record { over = o; null = n; unrung = unrung (rung_since ns) m.doorbell (s.bell o.still o.alive) silent }; asks = tt; due = λ _. l.6 };
      unasked = refl;
    }))

dead_after : (m : Machine) (cause : FailCause) (told : Told) (place : ℕ) (plain : PlainDisk) (ns : List Note) → Heard ns → failure_in ns ≡ Some cause → Steadily m m.ahead ns → AfterMove place plain told ns (sent (dead_step m cause))
dead_after m cause told place plain ns l f s = record {
  tied = record {
    laws = (l.0, l.1, l.2, l.3, (ap (λ (g : Option FailCause). due_by g (illegal_in ns)) f, l.4));
    steady = record { next_is = s.next_is; last_is = s.last_is; kept = tt; behind_is = refl; bell = λ _ live _. cc };
    main = l.5;
    phase = refl;
    asks = tt;
    due = λ live. cc;
  };
}

status_after : (failure : Option FailCause) (m : Machine) (told : Told) (place : ℕ) (plain : PlainDisk) (ns : List Note) → Heard ns → failure_in ns ≡ failure → Steadily m m.ahead ns → OverBy (seen ns) → AfterMove place plain told (status_notes failure m.orb.next m.ahead ns) (status_written m failure)
status_after (Some cause) m told place plain ns l f s o = dead_after m cause told place plain ns l f s
status_after None m told place plain ns l f s o = follow_after m.orb.next m told place plain ns (clear ns l f) s o s.next_is

reread_after : (r : Result (List ℕ) FailCause) (m : Machine) (told : Told) (place : ℕ) (plain : PlainDisk) (ns : List Note) → Heard ns → failure_in ns ≡ cause_of r → Steadily m m.ahead ns → OverBy (seen ns) → AfterMove place plain told (reread_notes r m.ahead ns) (next_read m r)
reread_after (Err cause) m told place plain ns l f s o = dead_after m cause told place plain ns l f s
reread_after (Ok bytes) m told place plain ns l f s o =
    follow_after (pointer_at bytes 0) (record m { orb = record m.orb { next = pointer_at bytes 0 } }) told place plain (Reread (pointer_at bytes 0) ∷ ns) (clear ns l f)
    (record { next_is = refl; last_is = s.last_is; kept = s.kept; behind_is = s.behind_is; bell = s.bell }) o refl

-- to the main transaction, by phase
main_after : (phase : Phase) (m : Machine) (told : Told) (place : ℕ) (plain : PlainDisk) (answer : Answer) (ns : List Note) → Laws ns → Steadily m m.ahead ns → main_in ns ≡ is_sent phase → Keeps phase m ns → AsksBy phase (parts m) (asked_in ns) → (is_dead ns ≡ false → due_in ns ≡ None)
    → AfterMove place plain told (main_notes phase (record m { phase = phase }) answer (Came Main answer ∷ ns)) (advanced phase (record m { phase = phase }) answer)
main_after phases.Fetching m told place plain answer ns l s i k a d =
    orb_after (payload_of answer 32) (record m { phase = phases.Fetching }) told place plain (Came Main answer ∷ ns) (heard_laws ns answer l d k.alive) (came ns answer (Some 32) i a) s k
main_after phases.ReadingTable m told place plain answer ns l s i k a d =
    table_after (payload_of answer (8 * m.orb.data_size)) (record m { phase = phases.ReadingTable }) told place plain (Came Main answer ∷ ns) (heard_laws ns answer l d k.waits.alive) (came ns answer (Some (8 * m.orb.data_size)) i a) s k
main_after (phases.ReadingData wanted) m told place plain answer ns l s i k a d =
    data_after (payload_of answer (chunk_of m (length m.payload) wanted).length) (record m { phase = phases.ReadingData wanted }) wanted told place plain (Came Main answer ∷ ns) (heard_laws ns answer l d k.waits.alive) (came ns answer (Some (chunk_of m (length m.payload) wanted).length) i a) s k
main_after phases.Answering m told place plain answer ns l s i k a d =
    chunk_after (write_failure answer) (record m { phase = phases.Answering }) told place plain (Came Main answer ∷ ns) (heard_laws ns answer l d k.alive) (came ns answer None i a) s k
main_after phases.WritingStatus m told place plain answer ns l s i k a d =
    status_after (write_failure answer) (record m { phase = phases.WritingStatus }) told place plain (Came Main answer ∷ ns) (heard_laws ns answer l d k.alive) (came ns answer None i a) s k
main_after phases.ReadingNext m told place plain answer ns l s i k a d =
    reread_after (payload_of answer 8) (record m { phase = phases.ReadingNext }) told place plain (Came Main answer ∷ ns) (heard_laws ns answer l d k.alive) (came ns answer (Some 8) i a) s k
main_after phases.WritingLastStatus m told place plain answer ns l s i k a d = record { tied = record { laws = l; steady = s; main = refl; phase = k; asks = tt; due = λ live. let dead : is_dead ns ≡ true = k in cc } }
main_after phases.Reset m told place plain answer ns l s i k a d = record { tied = record { laws = l; steady = s; main = refl; phase = k; asks = tt; due = still_due ns answer i d } }
main_after phases.Suspended m told place plain answer ns l s i k a d = record { tied = record { laws = l; steady = s; main = refl; phase = k; asks = tt; due = still_due ns answer i d } }
main_after phases.Dead m told place plain answer ns l s i k a d = record { tied = record { laws = l; steady = s; main = refl; phase = k; asks = tt; due = still_due ns answer i d } }

-- to the read ahead
kept_after : (r : Result (List ℕ) FailCause) (m : Machine) (place : ℕ) (plain : PlainDisk) (answer : Answer) (ns : List Note) → Tied m ns → After place plain (ahead_notes r (Came Ahead answer ∷ ns)) (ahead_read m r)
kept_after (Ok bytes) m place plain answer ns t = record {
  tied = record {
    laws = t.laws;
    steady = record { next_is = t.steady.next_is; last_is = t.steady.last_is; kept = refl; behind_is = refl; bell = t.steady.bell };
    main = t.main;
    phase = hushed m.phase (parts m) (seen ns) t.phase;
    asks = t.asks;
    due = t.due;
  };
  unasked = refl;
}
kept_after (Err cause) m place plain answer ns t = record {
  tied = record {
    laws = t.laws;
    steady = record { next_is = t.steady.next_is; last_is = t.steady.last_is; kept = tt; behind_is = refl; bell = λ o d h. still_rung m.doorbell _ (t.steady.bell o d h) };
    main = t.main;
    phase = hushed m.phase (parts m) (seen ns) t.phase;
    asks = t.asks;
    due = t.due;
  };
  unasked = refl;
}

heard_after : (b : Bool) (m : Machine) (place : ℕ) (plain : PlainDisk) (answer : Answer) (ns : List Note) → is_ahead m.ahead ≡ b → Tied m ns → After place plain (cond b (ahead_notes (payload_of answer 32) (Came Ahead answer ∷ ns)) (Came Ahead answer ∷ ns)) (cond b (ahead_step m answer) (quiet, m))
heard_after true m place plain answer ns e t = kept_after (payload_of answer 32) m place plain answer ns t
heard_after false m place plain answer ns e t = record {
  tied = record {
    laws = t.laws;
    steady = record { next_is = t.steady.next_is; last_is = t.steady.last_is; kept = t.steady.kept; behind_is = sym e; bell = t.steady.bell };
    main = t.main;
    phase = hushed m.phase (parts m) (seen ns) t.phase;
    asks = t.asks;
    due = t.due;
  };
  unasked = refl;
}

reply_after : (which : Which) (m : Machine) (told : Option Told) (place : ℕ) (plain : PlainDisk) (answer : Answer) (ns : List Note) → Tied m ns
    → Tied (reply_step m place plain told which answer).1 (step_notes place plain (reply_step m place plain told which answer).0 (reply_step m place plain told which answer).1 (heard m which answer ns))
unfolding reply_step
reply_after Main m told place plain answer ns t = (main_after m.phase m (told_or told) place plain answer ns t.laws t.steady t.main t.phase t.asks t.due).tied
reply_after Ahead m told place plain answer ns t = (heard_after (is_ahead m.ahead) m place plain answer ns refl t).tied

-- the other calls, by phase
pointed_after : (pointer : OrbPointer) (m : Machine) (ns : List Note) → TakesPointer ns → main_in ns ≡ false → Tied m ns → Tied (pointed m pointer).1 (point_notes pointer (pointed m pointer).0 ns)
pointed_after Null m ns p free t = t
pointed_after (At next) m ns p free t = record {
  laws = (t.laws.0, (fetch_reads (Pointed (aligned next) ∷ ns) (aligned next) free refl refl, (p, t.laws.1)), t.laws.2, t.laws.3, t.laws.4);
  steady = record { next_is = refl; last_is = refl; kept = tt; behind_is = refl; bell = λ _ _ h. cc };
  main = refl;
  phase = record { still = refl; alive = refl; here = refl; none = refl; unrun = refl; joined = refl; empty = refl; untabled = refl; unwritten = refl; alone = refl };
  asks = refl;
  due = λ _. refl;
}

point_after : (phase : Phase) (m : Machine) (pointer : OrbPointer) (ns : List Note) → Tied (record m { phase = phase }) ns → Tied (point_step (record m { phase = phase }) pointer).1 (point_notes pointer (point_step (record m { phase = phase }) pointer).0 ns)
unfolding point_step
point_after phases.Reset m pointer ns t = pointed_after pointer (record m { phase = phases.Reset }) ns (inl t.phase) t.main t
point_after phases.Suspended m pointer ns t = pointed_after pointer (record m { phase = phases.Suspended }) ns (inr ((t.phase.over.alive, t.phase.over.gone), t.main)) t.main t
point_after _ m pointer ns t = t

doorbell_after : (phase : Phase) (m : Machine) (ns : List Note) → Tied (record m { phase = phase }) ns → Tied (doorbell_step (record m { phase = phase })).1 (asked Main (doorbell_step (record m { phase = phase })).0 [] (Rung ∷ ns))
unfolding doorbell_step
doorbell_after phases.Reset m ns t = record { laws = t.laws; steady = record { next_is = t.steady.next_is; last_is = t.steady.last_is; kept = t.steady.kept; behind_is = t.steady.behind_is; bell = λ o _ _. let shut : is_open ns ≡ false = t.phase in cc }; main = t.main; phase = t.phase; asks = t.asks; due = t.due }
doorbell_after phases.Dead m ns t = record { laws = t.laws; steady = record { next_is = t.steady.next_is; last_is = t.steady.last_is; kept = t.steady.kept; behind_is = t.steady.behind_is; bell = λ _ d _. let dead : is_dead ns ≡ true = t.phase in cc }; main = t.main; phase = t.phase; asks = t.asks; due = t.due }
doorbell_after phases.WritingLastStatus m ns t = record { laws = t.laws; steady = record { next_is = t.steady.next_is; last_is = t.steady.last_is; kept = t.steady.kept; behind_is = t.steady.behind_is; bell = λ _ d _. let dead : is_dead ns ≡ true = t.phase in cc }; main = t.main; phase = t.phase; asks = t.asks; due = t.due }
doorbell_after phases.Suspended m ns t = record {
  laws = (t.laws.0, (again_reads (Rung ∷ ns) m.present t.main t.phase.over.gone t.steady.last_is, t.laws.1), t.laws.2, t.laws.3, t.laws.4);
  steady = record { next_is = t.steady.next_is; last_is = t.steady.last_is; kept = t.steady.kept; behind_is = t.steady.behind_is; bell = λ _ _ h. reread_clears (present_in ns) (fetched_in ns) true t.phase.over.gone h };
  main = refl;
  phase = t.phase.over;
  asks = refl;
  due = t.due;
}
doorbell_after _ m ns t = record { laws = t.laws; steady = record { next_is = t.steady.next_is; last_is = t.steady.last_is; kept = t.steady.kept; behind_is = t.steady.behind_is; bell = λ _ _ _. refl }; main = t.main; phase = t.phase; asks = t.asks; due = t.due }

call_after : (call : Call) (m : Machine) (ns : List Note) → Tied m ns → Tied (after_call call m) (noted call m ns)
unfolding reset_step abort_step
call_after (Point pointer) m ns t = point_after m.phase m pointer ns t
call_after Doorbell m ns t = doorbell_after m.phase m ns t
call_after Reset m ns t = record {
  laws = t.laws;
  steady = record { next_is = t.steady.next_is; last_is = t.steady.last_is; kept = tt; behind_is = refl; bell = λ o _ _. cc };
  main = refl;
  phase = refl;
  asks = tt;
  due = λ _. refl;
}
call_after (Abort orb) m ns t = record { laws = t.laws; steady = t.steady; main = t.main; phase = t.phase; asks = t.asks; due = t.due }
call_after (Reply place plain told which answer) m ns t = reply_after which m told place plain answer ns t

calls_tied : (calls : List Call) → Tied (after_calls calls) (notes calls)
calls_tied [] = record {
  laws = (tt, tt, tt, tt, tt);
  steady = record { next_is = refl; last_is = refl; kept = tt; behind_is = refl; bell = λ o _ _. cc };
  main = refl;
  phase = refl;
  asks = tt;
  due = λ _. refl;
}
calls_tied (call ∷ calls) = call_after call (after_calls calls) (notes calls) (calls_tied calls)

pub calls_lawful : CallsAreLawful
calls_lawful calls = (calls_tied calls).laws.0

pub calls_wired : CallsAreWired
calls_wired calls = (calls_tied calls).laws.1

pub calls_fed : CallsFeed
calls_fed calls = (calls_tied calls).laws.2

pub calls_answered : CallsAnswer
calls_answered calls = (calls_tied calls).laws.3

pub calls_mortal : CallsDieDuly
calls_mortal calls = (calls_tied calls).laws.4

pub deaths_due : DeathLaw
deaths_due calls alive = (calls_tied calls).due alive

pub under_way : UnderWayLaw
under_way calls = (sym (calls_tied calls).main, sym (calls_tied calls).steady.behind_is)

at_end : (m : Machine) (ns : List Note) → m.phase ≡ phases.Suspended → Tied m ns → IsAtEnd ns
at_end m ns e t =
    let k : Keeps phases.Suspended m ns = subst (λ (p : Phase). Keeps p m ns) e t.phase in
    record { ended = k.over.gone; answered = t.main ∙ ap is_sent e; last = k.null; unrung = k.unrung }

pub suspended_at_end : SuspendedLaw
suspended_at_end calls e = at_end (after_calls calls) (notes calls) e (calls_tied calls)

pub mark_kept : MarkLaw
mark_kept calls open_now live rung = (calls_tied calls).steady.bell open_now live rung
