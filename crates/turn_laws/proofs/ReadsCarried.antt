-- Of each initiator of every run the reads of AGENT_STATE that the terms have under way and those that it has are of the same transactions, in the order of their lines.
use Rattle.std.proofs.Common.{arith, ◌≡◌, inl, inr, ◌⊎◌, refl, sym, ◌∙◌, ap, subst, ℕ, suc, ◌+◌, ◌<◌, ◌≤◌, ◌==◌, ◌&&◌, nat_eq, nat_lt, is_some, not, Bool, true, false, cond, List, [], ◌∷◌, ◌++◌, map, Option, Some, None, Result, Ok, Err}
use Rattle.std.specs.List.{filter}
use Rattle.std.proofs.lemmas.Bool.Decides.{nat_tests}
use Rattle.std.proofs.lemmas.Option.{same_Some}
use Rattle.async_packet.specs.Labels.{LabelParts}
use Rattle.bus_transactions.specs.Wire.{transaction}
use Rattle.bus_transactions.proofs.Facts.{asked_begun, request_asked}
use Rattle.label_table.specs.Bodies.{header_to, request_with}
use Rattle.label_table.specs.Layer.{Finding, Layer, expiring_step, judging_step, of_again, of_generation, of_grammar, of_label, of_request, of_response, seeing_step}
use Rattle.label_table.specs.declared.judgement.Asked.{Asked}
use Rattle.label_table.specs.declared.reply.Stale.{Stale}
use Rattle.sbp_bus.specs.Packets.{judged_note}
use Rattle.sbp_initiator.specs.Acting.{act_step, asked_as, asked_for, counted_list, demand_of, done_step, facts_with, judged_as, register_of}
use Rattle.sbp_initiator.specs.Effects.{Turn}
use Rattle.sbp_initiator.specs.Initiators.{new_state}
use Rattle.sbp_initiator.specs.Receiving.{expire_step, receive_step}
use Rattle.sbp_initiator.specs.Refusals.{refusal}
use Rattle.sbp_initiator.specs.Refusals as refusals
use Rattle.sbp_initiator.specs.Seeing.{see_step}
use Rattle.sbp_initiator.specs.States.{is_answered, is_unwritten, wanted_body}
use Rattle.sbp_initiator.specs.Histories.Begins.{IsFree, after_by, begun_as}
use Rattle.sbp_initiator.specs.Histories.Laws.{acts as act_call, after, lets_expire, receives, sees as sees_call}
use Rattle.sbp_initiator.specs.Histories.Ends.{is_managed, own}
use Rattle.sbp_initiator.specs.Histories.Marks.{expired_reads, finding_reads, is_read, read_begun}
use Rattle.sbp_initiator.specs.declared.purpose.Demand.{Demand}
use Rattle.sbp_initiator.specs.declared.purpose.Purpose.{Purpose}
use Rattle.sbp_initiator.specs.declared.purpose.Purpose.TheVariants as purposes
use Rattle.sbp_initiator.specs.declared.purpose.Running.{Running}
use Rattle.sbp_initiator.specs.declared.purpose.Wanted.TheVariants as wants
use Rattle.sbp_initiator.specs.declared.state.InitiatorState.{InitiatorState}
use Rattle.sbp_initiator.proofs.FirstRow.{refusal_law}
use Rattle.sbp_journal.specs.Outgoings.{empty_outbox}
use Rattle.sbp_journal.specs.Run.{Moment, asked, said}
use Rattle.sbp_journal.specs.Transactions.{Kind, Sending, Transaction, between, part_of}
use Rattle.sbp_journal.specs.Wire.{Held, Terms, kind_in, terms}
use Rattle.sbp_journal.specs.declared.cause.Judged.{Judged}
use Rattle.sbp_journal.specs.declared.cause.Judged.TheVariants as judgements
use Rattle.sbp_journal.specs.declared.event.Action.{Action}
use Rattle.sbp_journal.specs.declared.event.Action.TheVariants as actions
use Rattle.sbp_journal.specs.declared.event.Event.{Event}
use Rattle.sbp_journal.specs.declared.event.Event.TheVariants as events
use Rattle.sbp_journal.specs.declared.note.Note.{Note}
use Rattle.sbp_journal.specs.declared.note.Note.TheVariants as notes
use Rattle.sbp_journal.specs.declared.operation.Operation.{Operation}
use Rattle.sbp_journal.specs.declared.outbox.Outgoing.{Outgoing}
use Rattle.sbp_journal.specs.declared.side.Side.{Side}
use Rattle.sbp_journal.specs.declared.side.Side.TheVariants as sides
use Rattle.sbp_laws.specs.Hosts.{Host, StateRead, Underway, acted, host_at, is_serial, new_host, operation_of, ready_host, reset_seen, told_of}
use Rattle.sbp_laws.specs.Lists.{present_list}
use Rattle.sbp_laws.specs.Packets.{access_in_bytes, sender_in}
use Rattle.sbp_journal.specs.Addresses.{Access, access_of}
use Rattle.sbp_laws.specs.Turns.{event_of}
use Rattle.sbp_world.proofs.Common.{least, none_is, some_none, untrue}
use Rattle.sbp_world.proofs.Hosts.ActLeft.{ActLeft, HasAsked, act_left}
use Rattle.sbp_world.proofs.Hosts.Asked.{IsRequest, number_in}
use Rattle.sbp_world.proofs.Hosts.Calling.{called_on}
use Rattle.sbp_world.proofs.Hosts.Carried.{between_runs, of_runs}
use Rattle.sbp_world.proofs.Hosts.Carries.{Carries, Does, IsLineOf, IsNoAct, Tells, is_apart}
use Rattle.sbp_world.proofs.Hosts.Cores.{not_so}
use Rattle.sbp_world.proofs.Hosts.Held.{ignored_quiet, sent_begun, sent_count, sent_new}
use Rattle.sbp_world.proofs.Hosts.Knows.{seen_flag}
use Rattle.sbp_world.proofs.Hosts.Remaining.{step}
use Rattle.sbp_world.specs.Pointers.Moments.{asked_in, own_action}
use Rattle.sbp_world.proofs.Hosts.Hosted.{Cored, expires_fit, hears_fit, marks_of}
use Rattle.sbp_world.proofs.Hosts.KnowActs.{no_packets}
use Rattle.sbp_world.proofs.Hosts.Layered.{AreTame, Left, expire_left, receive_left}
use Rattle.sbp_world.proofs.Hosts.Lives.{At, AskedAt, Called, ask_at, ask_begins, ask_keeps, asked_now, at_life, expire_at, judge_at, was_asked}
use Rattle.sbp_world.proofs.Hosts.Pointed.{expired_called, expiring_stays, judged_called, judged_fit, stale_is}
use Rattle.sbp_world.proofs.Hosts.PointerNotes.{Fit, Told, apart_passes, opens, tame_told}
use Rattle.sbp_world.proofs.Hosts.Pointing.{asked_generation, called_of, sent_waits, wrote_is}
use Rattle.sbp_world.proofs.Hosts.Shown.{IsElsewhere, IsHeard, IsShown}
use Rattle.sbp_world.proofs.Lists.ManageActs.{act_operation, new_by, same_operation}
use Rattle.sbp_world.proofs.Lists.ManageFirsts.{Goes, begun_first, goes_then, kept_first, line_first, note_first, other_first, sent_first, told_first}
use Rattle.sbp_world.proofs.Lists.ManageHears.{hears_left, lapses_left}
use Rattle.sbp_world.proofs.Lists.ManageLeaves as leaves
use Rattle.sbp_world.proofs.Pointers.Asks.{act_allowed, act_bytes}
use Rattle.sbp_world.proofs.Pointers.GuardActs.{none_underway}
use Rattle.sbp_world.proofs.Pointers.GuardDoes.{Ready}
use Rattle.sbp_world.proofs.Pointers.Guarded.{Guarded}
use Rattle.sbp_world.proofs.Pointers.Guarding.{first_guarded, guarded_carried, ready_known}
use Rattle.sbp_world.proofs.Pointers.Resetting.{asked_host}
use Rattle.sbp_world.proofs.Hosts.PointSees.{see_left}
use Rattle.sbp_world.proofs.Pointers.WaitActs.{none_seen, see_old}
use Rattle.sbp_world.proofs.Pointers.Waits.{asked_sent, asked_told, judged_count, judged_ends, timed_count, timed_ends}
use Rattle.sbp_world.proofs.Wire.Deliver.{judging_stays}
use Rattle.sbp_world.specs.Histories.{history_of}
use Rattle.sbp_world.specs.Hosts.Calling.{IsCalled}
use Rattle.sbp_world.specs.Hosts.Core.{work_in, work_of}
use Rattle.sbp_world.specs.Hosts.Refusing.{initiator_of}
use Rattle.sbp_world.specs.Hosts.Runs.{IsRun, more_deliveries}
use Rattle.sbp_world.specs.Runs.{Run, after as world_after, beginning}
use Rattle.sbp_world.specs.Settling.{MayAll, after_all}
use Rattle.sbp_world.specs.Worlds.{begun, initiator_at}
use Rattle.rbc_disk.specs.Runs.{Told as ToldRun}
use Rattle.sbp_world.specs.Hosts.Calls.{behind}
use Rattle.sbp_world.proofs.Hosts.HostReads.{Reads, acted_reads, all_kept, apart_reads, gone_by, got_reads, is_gone, late_reads, over_if, seen_reads, sent_reads, told_reads}
use Rattle.sbp_world.proofs.Pointers.Leaving.{ClosedFor, LapsedFor, expire_goes, judge_goes}
use Rattle.turn_laws.proofs.ReadPairs.{AreZipped, zipped_map, zipped_more}
use Rattle.turn_laws.proofs.ReadsUnderWay.{AreTimely, IsPair, ReadsThen, StateAt, WaitsAt, ended_by, ended_for, ended_late, finding_left, got_off, got_on, lapsed_left, late_off, late_on, reads_then}
use Rattle.turn_laws.proofs.OwnCalls.{earlier_of, learned, lives_of, running_before, seen_own_marks, states_step}
use Rattle.turn_laws.proofs.OwnFacts.{operation_same}
use Rattle.turn_laws.proofs.OwnStates.{AreAsMany, AreInOrder, AreReset, both as both_reset, none as none_reset}
use Rattle.bus_transactions.specs.Fitting.{AreBytes}
use Rattle.label_table.specs.History.{not_begun, under_way}
use Rattle.label_table.specs.declared.reply.ReplyKind.{ReplyKind}
use Rattle.orb_list.specs.declared.list.PresentList.{PresentList}
use Rattle.sbp_initiator.proofs.Histories.Effects.{HasMarks}
use Rattle.sbp_initiator.specs.declared.purpose.Pointing.{Pointing}
use Rattle.sbp_initiator.specs.declared.purpose.Pointing.TheVariants as pointings
use Rattle.sbp_laws.specs.Actions.{action_notes}
use Rattle.sbp_world.proofs.Hosts.HostRows.{host_acts, host_apart, host_expires, host_hears, host_sees, host_sent, no_abort}
use Rattle.sbp_world.proofs.Hosts.Runs.{first_host}
use Rattle.sbp_world.specs.Hosts.Rows.{present_in}
use Rattle.sbp_world.specs.Hosts.Worlds.{IsHost}
use Rattle.turn_laws.proofs.HostMarks.{Marks, acted_marks, apart_marks, marks, marks_at, marks_in, own_marks, seen_marks, sent_marks}
use Rattle.turn_laws.proofs.MarksKept.{IsLive, acted_live, acted_marked, acted_others, acted_sides, acted_unanswered, heard_live, heard_marked, heard_others, late_live, late_marked, late_others, seen_marked, seen_others}
use Rattle.turn_laws.proofs.ManagerKnown.{Knows, acted_knows, heard_knows, late_knows}
use Rattle.turn_laws.proofs.RequestFirsts.{AreTied, IsNull, Tied, asks_known, asks_makes, asks_none, asks_own, earlier_not, ended_tied, is_managing, is_of, knows_on, moment_on, reads_now, tied_on, told_on}
use Rattle.turn_laws.proofs.RequestKinds.{Kinds, asking_kinds, ended_kinds, generation_is, still_kinds}
use Rattle.turn_laws.proofs.RomEnds.{is_plain}

-- ---- what is carried on
pub record Paired (ready : Bool) (past : List Moment) (i : ℕ) (s : InitiatorState) : Type 0 where
  pub guarded : Guarded ready past i s
  pub pairs : Fit past → AreTimely past → AreZipped (IsPair past i s) (Reads past i) s.states
  pub first : Fit past → (u : Underway) → (host_at past i).operation ≡ Some u → u.first ≤ (terms past).count
  -- its lists and slots by the terms, and the kind of what each request awaits
  pub host : IsHost past i s
  pub kinds : Fit past → Kinds past i s.target s.layer
  -- which requests are those of its operation
  pub tied : Fit past → AreTied past i s
  -- and what it knows of its present list: where that is marked dead there is one
  pub live : IsLive s
  pub marked : Fit past → AreTimely past → marks_at past i ≡ own_marks s

-- as others tell and send something
module _ (past now : List Moment) (i : ℕ) (s : InitiatorState) (goes : Goes (host_at past i) (host_at now i)) (count : (terms past).count ≤ (terms now).count) where
  first_on : ((u : Underway) → (host_at past i).operation ≡ Some u → u.first ≤ (terms past).count) → (u : Underway) → (host_at now i).operation ≡ Some u → u.first ≤ (terms now).count
  first_on h u e = (let w = goes.on u e in let b = h w.was w.is in let f = w.first in omega (arith, b, f, count))

  module _ (held : (m : ℕ) (k : Kind) (n : ℕ) → WaitsAt past i s.layer m k n → WaitsAt now i s.layer m k n) (reads : Reads now i ≡ Reads past i) where
    pair_on : (read : StateRead) (act : ℕ) → IsPair past i s read act → IsPair now i s read act
    pair_on read act p = record {
      number = p.number;
      list = p.list;
      kind = p.kind;
      at = p.at;
      named = p.named;
      held = held p.number p.kind read.serial p.held;
      order = λ u e r f. (let w = goes.on u e in ap (λ n. nat_lt n read.serial) (sym w.first) ∙ p.order w.was w.is r f);
      below = (let b = p.below in omega (arith, b, count));
    }

    pairs_on : AreZipped (IsPair past i s) (Reads past i) s.states → AreZipped (IsPair now i s) (Reads now i) s.states
    pairs_on z = subst (λ rs. AreZipped (IsPair now i s) rs s.states) (sym reads) (zipped_map (IsPair past i s) (IsPair now i s) pair_on (Reads past i) s.states z)

told_timely : (told : List Side) (past : List Moment) → AreTame told → AreTimely (behind told past) → AreTimely past
told_timely [] past h t = t
told_timely (sides.Own note ∷ later) past h t = (told_timely later (said note ∷ past) h.1 t).1
told_timely (_ ∷ later) past h t = absurd h.0

told_paired : (ready : Bool) (told : List Side) (past : List Moment) (j : ℕ) (x : InitiatorState) → AreTame told → Guarded ready (behind told past) j x → IsHost (behind told past) j x
    → marks_at (behind told past) j ≡ marks_at past j → Paired ready past j x → Paired ready (behind told past) j x
told_paired ready told past j x tame g host same h =
    let k = tame_told told past j tame in
    let goes = told_first told past j tame in
    let count = least _ _ (ap (λ (t : Terms). t.count) k.wire) in
    record {
      guarded = g;
      pairs = λ f m.
          pairs_on past (behind told past) j x goes count (λ n k' o e. ap (λ (t : Terms). t.held (transaction x.layer.generation (suc j) 0 n)) k.wire ∙ e) (told_reads told past j tame)
          (h.pairs (k.fit f) (told_timely told past tame m));
      first = λ f. first_on past (behind told past) j x goes count (h.first (k.fit f));
      host = host;
      kinds = λ f. still_kinds past (behind told past) j x.target x.layer (λ n k' o e. ap (λ (t : Terms). t.held (transaction x.layer.generation (suc j) 0 n)) k.wire ∙ e) (h.kinds (k.fit f));
      tied = λ f. tied_on past (behind told past) j x (told_on told past j tame) (λ n k' o e. ap (λ (t : Terms). t.held (transaction x.layer.generation (suc j) 0 n)) k.wire ∙ e) (h.tied (k.fit f));
      live = h.live;
      marked = λ f m. same ∙ h.marked (k.fit f) (told_timely told past tame m);
    }

pub asked_paired : (ready : Bool) (line : ℕ) (event : Event) (past : List Moment) (i : ℕ) (s : InitiatorState) → Paired ready past i s → Paired ready (asked line event ∷ past) i s
asked_paired ready line event past i s h =
    let o = opens event (terms past) in
    let goes = line_first line event past i in
    let count = least _ _ o.count in
    record {
      guarded = (guarded_carried ready).asked line event past i s h.guarded;
      pairs = λ f m.
          pairs_on past (asked line event ∷ past) i s goes count (λ n k o' e. ap (λ (x : Transaction → Held). x (transaction s.layer.generation (suc i) 0 n)) o.held ∙ e) refl
          (h.pairs (record { serials = f.serials; sent = f.sent }) m.1);
      first = λ f. first_on past (asked line event ∷ past) i s goes count (h.first (record { serials = f.serials; sent = f.sent }));
      host = record { number = h.host.number; rows = h.host.rows; pin = h.host.pin };
      kinds = λ f.
          still_kinds past (asked line event ∷ past) i s.target s.layer (λ n k o' e. ap (λ (x : Transaction → Held). x (transaction s.layer.generation (suc i) 0 n)) o.held ∙ e)
          (h.kinds (record { serials = f.serials; sent = f.sent }));
      tied = λ f.
          tied_on past (asked line event ∷ past) i s (moment_on (asked line event) past i f.serials goes) (λ n k o' e. ap (λ (x : Transaction → Held). x (transaction s.layer.generation (suc i) 0 n)) o.held ∙ e)
          (h.tied (record { serials = f.serials; sent = f.sent }));
      live = h.live;
      marked = λ f m. h.marked (record { serials = f.serials; sent = f.sent }) m.1;
    }

apart_goes : (note : Note) (past : List Moment) (i : ℕ) → is_apart i note ≡ true → Goes (host_at past i) (host_at (said note ∷ past) i)
apart_goes (notes.Begin initiators ready) past i e = untrue e
apart_goes (notes.Sent serial generation from to bytes) past i e = other_first serial generation from to bytes past i (not_so (nat_eq from (suc i)) e)
apart_goes note past i e = note_first note past i refl

apart_paired : (ready : Bool) (note : Note) (past : List Moment) (i : ℕ) (s : InitiatorState) → is_apart i note ≡ true → IsElsewhere past i note → Paired ready past i s
    → Paired ready (said note ∷ past) i s
apart_paired ready note past i s e w h =
    let passes = apart_passes note past i e w in
    let goes = apart_goes note past i e in
    record {
      guarded = (guarded_carried ready).apart note past i s e w h.guarded;
      pairs = λ f m. pairs_on past (said note ∷ past) i s goes passes.count (λ n k o x. passes.held s.layer.generation n ∙ x) (apart_reads note past i e w) (h.pairs (passes.fit f) m.1);
      first = λ f. first_on past (said note ∷ past) i s goes passes.count (h.first (passes.fit f));
      host = host_apart note past i s e h.host;
      kinds = λ f. still_kinds past (said note ∷ past) i s.target s.layer (λ n k o x. passes.held s.layer.generation n ∙ x) (h.kinds (passes.fit f));
      tied = λ f. tied_on past (said note ∷ past) i s (moment_on (said note) past i f.serials goes) (λ n k o x. passes.held s.layer.generation n ∙ x) (h.tied (passes.fit f));
      live = h.live;
      marked = λ f m. apart_marks note past i e w ∙ h.marked (passes.fit f) m.1;
    }

sent_paired : (ready : Bool) (serial generation from to : ℕ) (bytes : List ℕ) (past : List Moment) (i : ℕ) (s : InitiatorState) → IsNoAct i (event_of past) → Paired ready past i s
    → Paired ready (said (notes.Sent serial generation from to bytes) ∷ past) i s
sent_paired ready serial generation from to bytes past i s n h =
    let t = terms past in
    let packet : Sending = record { generation = generation; from = from; to = to; bytes = bytes; injected = t.injected serial } in
    let now = said (notes.Sent serial generation from to bytes) ∷ past in
    let goes = sent_first serial generation from to bytes past i n in
    let count : t.count ≤ (terms now).count = (let d = sent_count serial packet t in omega (arith, d)) in
    record {
      guarded = (guarded_carried ready).sent serial generation from to bytes past i s n h.guarded;
      pairs = λ f m.
          pairs_on past now i s goes count (λ x k o e. sent_waits t serial packet f.sent.0 (transaction s.layer.generation (suc i) 0 x) k o e) (sent_reads serial generation from to bytes past i n)
          (h.pairs (record { serials = f.serials.1; sent = f.sent.1 }) m.1);
      first = λ f. first_on past now i s goes count (h.first (record { serials = f.serials.1; sent = f.sent.1 }));
      host = host_sent serial generation from to bytes past i s (no_abort (event_of past) i n) h.host;
      kinds = λ f.
          still_kinds past now i s.target s.layer (λ x k o e. sent_waits t serial packet f.sent.0 (transaction s.layer.generation (suc i) 0 x) k o e)
          (h.kinds (record { serials = f.serials.1; sent = f.sent.1 }));
      tied = λ f.
          tied_on past now i s (moment_on (said (notes.Sent serial generation from to bytes)) past i f.serials goes) (λ x k o e. sent_waits t serial packet f.sent.0 (transaction s.layer.generation (suc i) 0 x) k o e)
          (h.tied (record { serials = f.serials.1; sent = f.sent.1 }));
      live = h.live;
      marked = λ f m. sent_marks serial generation from to bytes past i n ∙ h.marked (record { serials = f.serials.1; sent = f.sent.1 }) m.1;
    }

-- ---- the operation under way ends, or stays
stays_or_ends : (s : InitiatorState) (Why : Running → Type 0) (u : InitiatorState) → leaves.Left s Why u → (u.operation ≡ s.operation) ⊎ (u.operation ≡ None)
stays_or_ends s Why u left = by left.operation
  where
    by : (u.operation ≡ s.operation) ⊎ leaves.IsEnded s Why u → (u.operation ≡ s.operation) ⊎ (u.operation ≡ None)
    by (inl e) = inl e
    by (inr e) = inr e.none

closed_ended : (finding : Finding Purpose) (act : ℕ) (list : Option ℕ) → ClosedFor finding (Some (purposes.State act list)) → ended_by finding ≡ Some act
closed_ended (of_response p label other) act list e = ap ended_for e
closed_ended of_generation act list e = absurd e
closed_ended of_grammar act list e = absurd e
closed_ended of_label act list e = absurd e
closed_ended (of_again p rcode) act list e = absurd e
closed_ended (of_request p) act list e = absurd e

lapsed_ended : (r : Result (Option Purpose) Stale) (act : ℕ) (list : Option ℕ) → LapsedFor r (Some (purposes.State act list)) → ended_late r ≡ Some act
lapsed_ended (Ok other) act list e = ap ended_for e
lapsed_ended (Err stale) act list e = absurd e

-- ---- a packet is heard
module _ (ready : Bool) (serial generation : ℕ) (bytes : List ℕ) (past : List Moment) (i : ℕ) (s : InitiatorState) (heard : IsHeard past i serial generation bytes) (shown : IsShown past i s.target s.layer) (after_it : IsShown (said (judged_note serial (receive_step generation bytes empty_outbox s).0) ∷ past) i s.target (judging_step s.layer generation bytes).1) (h : Paired ready past i s) where
  abbrev judged : Judged
  judged = (receive_step generation bytes empty_outbox s).0

  abbrev heard_now : List Moment
  heard_now = said (judged_note serial judged) ∷ past

  abbrev t : Turn
  t = (receive_step generation bytes empty_outbox s).1

  abbrev finding : Finding Purpose
  finding = (judging_step s.layer generation bytes).0

  abbrev own_heard : IsCalled ready i s
  own_heard = h.guarded.pointed.cored.own.called

  called : Called s.layer
  called = called_of h.guarded.pointed.cored

  goes_by : (j : Judged) → Goes (host_at past i) (host_at (said (judged_note serial j) ∷ past) i)
  goes_by judgements.Got = note_first (notes.Got serial) past i refl
  goes_by (judgements.Ignored cause) = note_first (notes.Ignored serial cause) past i refl

  reads_by_judged : (j : Judged) → Reads (said (judged_note serial j) ∷ past) i ≡ filter (λ (r : StateRead). not (is_gone (gone_by j past serial) r.serial)) (Reads past i)
  reads_by_judged judgements.Got = got_reads serial heard.packet past i heard.sent heard.to_is
  reads_by_judged (judgements.Ignored cause) = sym (all_kept (Reads past i))

  stays_by : (f : Fit past) (j : Judged) (m : ℕ) (k : Kind) (n : ℕ) → WaitsAt past i s.layer m k n → is_gone (gone_by j past serial) n ≡ false → WaitsAt (said (judged_note serial j) ∷ past) i s.layer m k n
  stays_by f judgements.Got m k n e g = got_on past f.serials serial heard.packet heard.sent (transaction s.layer.generation (suc i) 0 m) k n e g
  stays_by f (judgements.Ignored cause) m k n e g =
      ap (λ (x : Transaction → Held). x (transaction s.layer.generation (suc i) 0 m)) (ignored_quiet ((terms past).sent serial) cause serial (terms past)).held ∙ e

  ends_by_judged : (f : Fit past) (j : Judged) (m : ℕ) (k : Kind) (n : ℕ) → WaitsAt past i s.layer m k n → is_gone (gone_by j past serial) n ≡ true → (k' : Kind) (n' : ℕ)
      → WaitsAt (said (judged_note serial j) ∷ past) i s.layer m k' n' → ⊥
  ends_by_judged f judgements.Got m k n e g k' n' w = got_off past f.serials serial heard.packet heard.sent (transaction s.layer.generation (suc i) 0 m) k n e g k' n' w
  ends_by_judged f (judgements.Ignored cause) m k n e g k' n' w = untrue g

  on_by : (m act : ℕ) (list : Option ℕ) → StateAt s.layer s.target m act list → StateAt (judging_step s.layer generation bytes).1 s.target m act list ⊎ (ended_by finding ≡ Some act)
  on_by m act list a = by (judge_goes s.layer s.target m (Some (purposes.State act list)) called a generation bytes)
    where
      by : StateAt (judging_step s.layer generation bytes).1 s.target m act list ⊎ ClosedFor finding (Some (purposes.State act list))
          → StateAt (judging_step s.layer generation bytes).1 s.target m act list ⊎ (ended_by finding ≡ Some act)
      by (inl x) = inl x
      by (inr x) = inr (closed_ended finding act list x)

  heard_left : Left (judging_step s.layer generation bytes).1 s.target t
  heard_left = receive_left generation bytes s

  fit_before : Fit (behind t.0.sides heard_now) → Fit past
  fit_before f = judged_fit serial judged past ((tame_told t.0.sides heard_now i heard_left.told).fit f)

  -- what it got has bytes
  has_bytes : (j : Judged) → AreTimely (said (judged_note serial j) ∷ past) → j ≡ judgements.Got → AreBytes heard.packet.bytes
  has_bytes judgements.Got m e = m.0 heard.packet heard.sent
  has_bytes (judgements.Ignored cause) m e = absurd (let no : judgements.Ignored cause ≡ judgements.Got = e in cc)

  heard_reads : Fit past → ReadsThen (IsPair past i s) (IsPair (behind t.0.sides heard_now) i t.1) (gone_by judged past serial) (ended_by finding) (Reads past i) (Reads (behind t.0.sides heard_now) i) s.states t.1.states
  heard_reads f =
      reads_then past heard_now i s (judging_step s.layer generation bytes).1 t (gone_by judged past serial) (ended_by finding)
      after_it (judging_stays s.layer generation bytes) (judged_called ready s.layer generation bytes called) heard_left
      (stays_by f judged) (ends_by_judged f judged) (λ n q a. judge_at s.layer generation bytes s.target n q called a) on_by
      (goes_by judged) (judged_count serial judged past) (stays_or_ends s _ t.1 (hears_left s generation bytes (hears_fit ready i s own_heard generation bytes)))
      (λ n act list a. lives_of ready i t.1 (called_on ready i s (receives generation bytes) tt own_heard) t.1.target n (Some (purposes.State act list)) a act list refl)
      (states_step ready i s own_heard (receives generation bytes) tt ∙ ap (λ (x : InitiatorState). finding_reads (judging_step x.layer generation bytes).0 s.states) own_heard.is
      ∙ finding_left finding s.states)
      (reads_by_judged judged)

  hears_paired : Tells (Paired ready) heard_now i t
  hears_paired =
      let left = heard_left in
      let tells = (guarded_carried ready).hears serial generation bytes past i s heard shown after_it h.guarded in
      let hosts = host_hears past i serial generation bytes s heard h.host in
      let goes = goes_by judged in
      let count = judged_count serial judged past in
      record {
        own = record {
          guarded = tells.own;
          pairs = λ f m. (heard_reads (fit_before f)).zipped (h.pairs (fit_before f) (told_timely t.0.sides heard_now left.told m).1);
          host = hosts.own;
          kinds = λ f.
              subst (λ n. Kinds (behind t.0.sides heard_now) i n t.1.layer) (sym left.target_is)
              (ended_kinds past (judged_note serial judged) i s.target s.layer (judging_step s.layer generation bytes).1 (judged_ends serial judged past) (h.kinds (fit_before f))
              (judged_called ready s.layer generation bytes called) (judging_stays s.layer generation bytes) (λ n q a. judge_at s.layer generation bytes s.target n q called a) after_it t.0.sides left.told
              t.1.layer left.layer);
          tied = λ f.
              ended_tied past (judged_note serial judged) i s (judging_step s.layer generation bytes).1 t
              (record {
                ends = judged_ends serial judged past;
                called = judged_called ready s.layer generation bytes called;
                generation = judging_stays s.layer generation bytes;
                back = λ n q a. judge_at s.layer generation bytes s.target n q called a;
                shown = after_it;
                left = left;
                operation = stays_or_ends s _ t.1 (hears_left s generation bytes (hears_fit ready i s own_heard generation bytes));
                knows = heard_knows generation bytes s;
                first = moment_on (said (judged_note serial judged)) past i ((tame_told t.0.sides heard_now i left.told).fit f).serials goes;
              })
              (h.tied (fit_before f));
          live = heard_live past i s h.host ready own_heard h.live serial generation bytes hosts.own;
          marked = λ f m.
              let before = told_timely t.0.sides heard_now left.told m in
              heard_marked ready serial generation bytes past i s heard shown after_it h.guarded h.host (fit_before f) (h.kinds (fit_before f)) (has_bytes judged before)
              (heard_reads (fit_before f)).gone_too (h.pairs (fit_before f) before.1) (h.marked (fit_before f) before.1);
          first = λ f. first_on past (behind t.0.sides heard_now) i s
              (goes_then (host_at past i) (host_at heard_now i) (host_at (behind t.0.sides heard_now) i) goes (told_first t.0.sides heard_now i left.told))
              (let w = ap (λ (x : Terms). x.count) (tame_told t.0.sides heard_now i left.told).wire in omega (arith, w, count))
              (h.first (fit_before f));
        };
        others = λ j x e g.
            told_paired ready t.0.sides heard_now j x left.told (tells.others j x e g.guarded) (hosts.others j x e g.host)
            (heard_others ready serial generation bytes past i s heard shown after_it h.guarded h.host j e) g;
      }

-- ---- a transaction times out
module _ (ready : Bool) (serial : ℕ) (label : LabelParts) (past : List Moment) (i : ℕ) (s : InitiatorState) (after_it : IsShown (said (notes.TimedOut serial) ∷ past) i s.target (expiring_step s.layer s.target label).1) (h : Paired ready past i s) where
  abbrev late : List Moment
  late = said (notes.TimedOut serial) ∷ past

  abbrev late_turn : Turn
  late_turn = (expire_step label empty_outbox s).1

  abbrev lapsed : Result (Option Purpose) Stale
  lapsed = (expiring_step s.layer s.target label).0

  abbrev own_calls : IsCalled ready i s
  own_calls = h.guarded.pointed.cored.own.called

  layer_called : Called s.layer
  layer_called = called_of h.guarded.pointed.cored

  abbrev over : Option ℕ
  over = over_if (is_serial (sender_in ((terms past).sent serial)) (suc i)) serial

  on_late : (m act : ℕ) (list : Option ℕ) → StateAt s.layer s.target m act list → StateAt (expiring_step s.layer s.target label).1 s.target m act list ⊎ (ended_late lapsed ≡ Some act)
  on_late m act list a = by (expire_goes s.layer s.target m (Some (purposes.State act list)) layer_called a s.target label)
    where
      by : StateAt (expiring_step s.layer s.target label).1 s.target m act list ⊎ LapsedFor lapsed (Some (purposes.State act list))
          → StateAt (expiring_step s.layer s.target label).1 s.target m act list ⊎ (ended_late lapsed ≡ Some act)
      by (inl x) = inl x
      by (inr x) = inr (lapsed_ended lapsed act list x)

  expires_paired : Tells (Paired ready) late i late_turn
  expires_paired =
      let left = expire_left label s in
      let tells = (guarded_carried ready).expires serial label past i s after_it h.guarded in
      let hosts = host_expires serial label past i s h.host in
      let then_called = called_on ready i s (lets_expire label) tt own_calls in
      let goes = note_first (notes.TimedOut serial) past i refl in
      let count = timed_count serial past in
      record {
        own = record {
          guarded = tells.own;
          pairs = λ f m.
              let f_now = (tame_told late_turn.0.sides late i left.told).fit f in
              let timely = told_timely late_turn.0.sides late left.told m in
              (reads_then past late i s (expiring_step s.layer s.target label).1 late_turn over (ended_late lapsed)
              after_it (expiring_stays s.layer s.target label) (expired_called ready s.layer s.target label layer_called) left
              (λ n k o e g. late_on past f_now.serials serial timely.0 s.layer.generation i n k o e g)
              (λ n k o e g k' o' w. late_off past f_now.serials serial timely.0 s.layer.generation i n k o e g k' o' w)
              (λ n q a. expire_at s.layer s.target label s.target n q layer_called a) on_late
              goes count (stays_or_ends s _ late_turn.1 (lapses_left s label (expires_fit ready i s own_calls label)))
              (λ n act list a. lives_of ready i late_turn.1 then_called late_turn.1.target n (Some (purposes.State act list)) a act list refl)
              (states_step ready i s own_calls (lets_expire label) tt ∙ ap (λ (x : InitiatorState). expired_reads (expiring_step x.layer x.target label).0 s.states) own_calls.is
              ∙ lapsed_left lapsed s.states)
              (late_reads serial past i)).zipped
              (h.pairs (record { serials = f_now.serials; sent = f_now.sent }) timely.1);
          host = hosts.own;
          kinds = λ f.
              let f_now = (tame_told late_turn.0.sides late i left.told).fit f in
              subst (λ n. Kinds (behind late_turn.0.sides late) i n late_turn.1.layer) (sym left.target_is)
              (ended_kinds past (notes.TimedOut serial) i s.target s.layer (expiring_step s.layer s.target label).1 (timed_ends serial past) (h.kinds (record { serials = f_now.serials; sent = f_now.sent }))
              (expired_called ready s.layer s.target label layer_called) (expiring_stays s.layer s.target label) (λ n q a. expire_at s.layer s.target label s.target n q layer_called a) after_it late_turn.0.sides left.told
              late_turn.1.layer left.layer);
          tied = λ f.
              let f_now = (tame_told late_turn.0.sides late i left.told).fit f in
              ended_tied past (notes.TimedOut serial) i s (expiring_step s.layer s.target label).1 late_turn
              (record {
                ends = timed_ends serial past;
                called = expired_called ready s.layer s.target label layer_called;
                generation = expiring_stays s.layer s.target label;
                back = λ n q a. expire_at s.layer s.target label s.target n q layer_called a;
                shown = after_it;
                left = left;
                operation = stays_or_ends s _ late_turn.1 (lapses_left s label (expires_fit ready i s own_calls label));
                knows = late_knows label s;
                first = moment_on (said (notes.TimedOut serial)) past i f_now.serials goes;
              })
              (h.tied (record { serials = f_now.serials; sent = f_now.sent }));
          live = late_live past i s h.host ready own_calls h.live serial label hosts.own;
          marked = λ f m.
              let f_now = (tame_told late_turn.0.sides late i left.told).fit f in
              late_marked ready serial label past i s own_calls h.host.number (h.marked (record { serials = f_now.serials; sent = f_now.sent }) (told_timely late_turn.0.sides late left.told m).1);
          first = λ f. first_on past (behind late_turn.0.sides late) i s
              (goes_then (host_at past i) (host_at late i) (host_at (behind late_turn.0.sides late) i) goes (told_first late_turn.0.sides late i left.told))
              (let w = ap (λ (x : Terms). x.count) (tame_told late_turn.0.sides late i left.told).wire in omega (arith, w, count))
              (let g = (tame_told late_turn.0.sides late i left.told).fit f in h.first (record { serials = g.serials; sent = g.sent }));
        };
        others = λ j x e g.
            told_paired ready late_turn.0.sides late j x left.told (tells.others j x e g.guarded) (hosts.others j x e g.host) (late_others ready serial label past i s own_calls h.host.number j e) g;
      }

-- ---- a generation is seen
module _ (ready : Bool) (generation id target : ℕ) (past : List Moment) (i : ℕ) (s : InitiatorState) (flag : (seeing_step s.layer generation id).0 ≡ not (generation == (terms past).generation (suc i))) (h : Paired ready past i s) where
  abbrev sight : List Moment
  sight = said (notes.Seen (suc i) generation) ∷ past

  abbrev seen_turn : Turn
  seen_turn = see_step generation id target empty_outbox s

  abbrev Zipped : Turn → Type 0
  Zipped u = AreZipped (IsPair (behind u.0.sides sight) i u.1) (Reads (behind u.0.sides sight) i) u.1.states

  told_tame : AreTame seen_turn.0.sides
  told_tame = (see_left generation id target s).told

  is_new : not (nat_eq generation ((terms past).generation (suc i))) ≡ nat_lt s.layer.generation generation
  is_new = sym flag ∙ seen_flag s.layer generation id

  seen_pairs : Fit past → AreTimely past → (b : Bool) → nat_lt s.layer.generation generation ≡ b → Zipped seen_turn
  seen_pairs f m true e =
      let calls = h.guarded.pointed.cored.own.called in
      let none : seen_turn.1.states ≡ [] =
      states_step ready i s calls (sees_call generation id target) tt ∙ ap (λ (x : InitiatorState). cond (nat_lt x.layer.generation generation) [] s.states) calls.is
      ∙ ap (λ b. cond b [] s.states) e in
      let nothing : Reads (behind seen_turn.0.sides sight) i ≡ [] =
      told_reads seen_turn.0.sides sight i told_tame ∙ seen_reads generation past i ∙ ap (λ b. (reset_seen b (host_at past i)).reads) (is_new ∙ e) in
      subst (λ acts. AreZipped (IsPair (behind seen_turn.0.sides sight) i seen_turn.1) (Reads (behind seen_turn.0.sides sight) i) acts) (sym none)
      (subst (λ rs. AreZipped (IsPair (behind seen_turn.0.sides sight) i seen_turn.1) rs []) (sym nothing) tt)
  seen_pairs f m false e =
      let count : (terms past).count ≤ (terms sight).count = omega arith in
      subst Zipped (sym (see_old generation id target s e))
      (pairs_on past sight i s (note_first (notes.Seen (suc i) generation) past i refl) count (λ n k o x. x)
      (seen_reads generation past i ∙ ap (λ b. (reset_seen b (host_at past i)).reads) (is_new ∙ e)) (h.pairs f m))

  abbrev own_sees : IsCalled ready i s
  own_sees = h.guarded.pointed.cored.own.called

  seen_kinds : Fit past → (b : Bool) → nat_lt s.layer.generation generation ≡ b → Kinds (behind seen_turn.0.sides sight) i seen_turn.1.target seen_turn.1.layer
  seen_kinds f true e = λ m p c a. absurd (none_seen ready generation id target past i s flag h.guarded.aimed e seen_turn.1.target m (Some p) a)
  seen_kinds f false e =
      subst (λ (u : Turn). Kinds (behind u.0.sides sight) i u.1.target u.1.layer) (sym (see_old generation id target s e)) (still_kinds past sight i s.target s.layer (λ m k n x. x) (h.kinds f))

  seen_tied : Fit past → (b : Bool) → nat_lt s.layer.generation generation ≡ b → AreTied (behind seen_turn.0.sides sight) i seen_turn.1
  seen_tied f true e = record {
    tied = λ m p c a. absurd (none_seen ready generation id target past i s flag h.guarded.aimed e seen_turn.1.target m (Some p) a);
    owned = λ m a. none_seen ready generation id target past i s flag h.guarded.aimed e seen_turn.1.target m None a;
    one = λ m n act x y a b. absurd (none_seen ready generation id target past i s flag h.guarded.aimed e seen_turn.1.target m (Some (purposes.State act x)) a);
  }
  seen_tied f false e =
      subst (λ (u : Turn). AreTied (behind u.0.sides sight) i u.1) (sym (see_old generation id target s e))
      (tied_on past sight i s (moment_on (said (notes.Seen (suc i) generation)) past i f.serials (note_first (notes.Seen (suc i) generation) past i refl)) (λ m k n x. x) (h.tied f))

  seen_live : (b : Bool) → nat_lt s.layer.generation generation ≡ b → IsLive seen_turn.1
  seen_live true e = λ d. untrue (sym (ap (λ (m : Marks). m.dead) (seen_own_marks ready i s own_sees generation id target ∙ ap (λ b. learned ready i s own_sees b false false) e)) ∙ d)
  seen_live false e = subst (λ (u : Turn). IsLive u.1) (sym (see_old generation id target s e)) h.live

  seen_has : (b : Bool) → nat_lt s.layer.generation generation ≡ b → marks_at past i ≡ own_marks s → marks_at (behind seen_turn.0.sides sight) i ≡ own_marks seen_turn.1
  seen_has true e marked = seen_marked generation id target s ready past i own_sees h.host.number (marks_of ready i s own_sees) h.live e marked
  seen_has false e marked =
      subst (λ (u : Turn). marks_at (behind u.0.sides sight) i ≡ own_marks u.1) (sym (see_old generation id target s e)) (seen_marks (suc i) generation past i ∙ marked)

  seen_else : (b : Bool) → nat_lt s.layer.generation generation ≡ b → (j : ℕ) → (j == i) ≡ false → marks_at (behind seen_turn.0.sides sight) j ≡ marks_at sight j
  seen_else true e j f = seen_others generation id target s ready past i own_sees h.host.number (marks_of ready i s own_sees) h.live e j f
  seen_else false e j f = subst (λ (u : Turn). marks_at (behind u.0.sides sight) j ≡ marks_at sight j) (sym (see_old generation id target s e)) refl

  sees_paired : Tells (Paired ready) sight i seen_turn
  sees_paired =
      let tells = (guarded_carried ready).sees generation id target past i s flag h.guarded in
      let hosts = host_sees generation id target past i s flag h.host in
      let count : (terms past).count ≤ (terms sight).count = omega arith in
      record {
        own = record {
          guarded = tells.own;
          pairs = λ f m.
              let g = (tame_told seen_turn.0.sides sight i told_tame).fit f in
              seen_pairs (record { serials = g.serials; sent = g.sent }) (told_timely seen_turn.0.sides sight told_tame m).1 (nat_lt s.layer.generation generation) refl;
          first = λ f. first_on past (behind seen_turn.0.sides sight) i s
              (goes_then (host_at past i) (host_at sight i) (host_at (behind seen_turn.0.sides sight) i) (note_first (notes.Seen (suc i) generation) past i refl)
              (told_first seen_turn.0.sides sight i told_tame))
              (let w = ap (λ (x : Terms). x.count) (tame_told seen_turn.0.sides sight i told_tame).wire in omega (arith, w, count))
              (let g = (tame_told seen_turn.0.sides sight i told_tame).fit f in h.first (record { serials = g.serials; sent = g.sent }));
          host = hosts.own;
          kinds = λ f. (let g = (tame_told seen_turn.0.sides sight i told_tame).fit f in seen_kinds (record { serials = g.serials; sent = g.sent }) (nat_lt s.layer.generation generation) refl);
          tied = λ f. (let g = (tame_told seen_turn.0.sides sight i told_tame).fit f in seen_tied (record { serials = g.serials; sent = g.sent }) (nat_lt s.layer.generation generation) refl);
          live = seen_live (nat_lt s.layer.generation generation) refl;
          marked = λ f m.
              let g = (tame_told seen_turn.0.sides sight i told_tame).fit f in
              seen_has (nat_lt s.layer.generation generation) refl (h.marked (record { serials = g.serials; sent = g.sent }) (told_timely seen_turn.0.sides sight told_tame m).1);
        };
        others = λ j x e g.
            told_paired ready seen_turn.0.sides sight j x told_tame (tells.others j x e g.guarded) (hosts.others j x e g.host) (seen_else (nat_lt s.layer.generation generation) refl j e) g;
      }

-- ---- an action
cond_same : {A : Type 0} (n : ℕ) (x y : A) → cond (nat_eq n n) x y ≡ x
cond_same n x y = let e : nat_eq n n ≡ true = grind (arith, nat_tests) in ap (λ b. cond b x y) e

-- of the line of a packet
pub asked_here : (serial generation to : ℕ) (bytes : List ℕ) (past : List Moment) (i : ℕ) → asked_in (said (notes.Sent serial generation (suc i) to bytes) ∷ past) serial i ≡ own_action i (event_of past)
asked_here serial generation to bytes past i =
    cond_same serial (cond (nat_eq i i) (own_action i (event_of past)) (asked_in past serial i)) (asked_in past serial i) ∙ cond_same i (own_action i (event_of past)) (asked_in past serial i)

own_here : (i : ℕ) (action : Action) → own_action i (Some (events.Act i action)) ≡ Some action
own_here i action = cond_same i (Some action) None

is_state : (action : Action) → is_read action ≡ true → action ≡ actions.State
is_state actions.State e = refl
is_state _ e = untrue e

asked_sends : (s : InitiatorState) (r : Option Asked × Layer Purpose) → (asked_as r actions.State empty_outbox s).0 ≡ None → (asked_as r actions.State empty_outbox s).1.0.packets ≡ [] → ⊥
unfolding done_step
asked_sends s (None, layer) e n = some_none 10 e
asked_sends s (Some one, layer) e n = no_packets _ n

state_sends : (s : InitiatorState) → (act_step actions.State empty_outbox s).0 ≡ None → (act_step actions.State empty_outbox s).1.0.packets ≡ [] → ⊥
unfolding act_step
state_sends s e n = by (refusal actions.State (facts_with true s actions.State)) e n
  where
    by : (r : Option ℕ) → (judged_as r actions.State empty_outbox s).0 ≡ None → (judged_as r actions.State empty_outbox s).1.0.packets ≡ [] → ⊥
    by (Some number) e n = some_none number e
    by None e n = asked_sends s (asked_for (record { wanted = wants.Read (register_of s 0x00); purpose = purposes.State s.counts.acts (counted_list s.lists.slots.present s) }) s) e n

module _ (ready : Bool) (action : Action) (past : List Moment) (i : ℕ) (s : InitiatorState) (under : event_of past ≡ Some (events.Act i action)) (fit : IsLineOf action) (done_is : (act_step action empty_outbox s).0 ≡ None) (shown : IsShown past i s.target s.layer) (known : Ready past i s) (h : Paired ready past i s) where
  abbrev act_turn : Turn
  act_turn = (act_step action empty_outbox s).1

  abbrev ms : List Moment
  ms = behind act_turn.0.sides past

  left : ActLeft action s act_turn
  left = act_left action s done_is

  abbrev cored : Cored ready past i s
  cored = h.guarded.pointed.cored

  told : Told past act_turn.0.sides i
  told = tame_told act_turn.0.sides past i left.told

  goes_told : Goes (host_at past i) (host_at ms i)
  goes_told = told_first act_turn.0.sides past i left.told

  abbrev begins : Option Operation
  begins = refusals.operation_of action

  operation_now : act_turn.1.operation ≡ after_by begins s
  operation_now = act_operation action s (act_allowed action s done_is) (marks_of ready i s cored.own.called) done_is

  free : IsFree begins s
  free = (act_allowed action s done_is).free

  states_now : act_turn.1.states ≡ cond (is_read action) (s.states ++ s.counts.acts ∷ []) s.states
  states_now =
      let calls = cored.own.called in
      let turn = after i ready calls.calls in
      let none : (act_step action turn.0 turn.1).0 ≡ None = refusal_law.first action turn.0 turn.1 ∙ sym (refusal_law.first action empty_outbox turn.1)
      ∙ ap (λ (x : InitiatorState). (act_step action empty_outbox x).0) calls.is ∙ done_is in
      states_step ready i s calls (act_call action) fit.0
      ∙ ap (λ r. read_begun r action turn.1.counts.acts s.states) none
      ∙ ap (λ (x : InitiatorState). cond (is_read action) (s.states ++ x.counts.acts ∷ []) s.states) calls.is

  -- where an operation begins none was under way
  no_underway : (operation : Operation) → begins ≡ Some operation → (u : Underway) → (host_at past i).operation ≡ Some u → ⊥
  no_underway operation e u f = none_is u (sym (none_underway past i s cored.core (subst (λ x. IsFree x s) e free)) ∙ f)

  was_running : (o : Option Operation) → begins ≡ o → (r : Running) → act_turn.1.operation ≡ Some r → o ≡ None → s.operation ≡ Some r
  was_running None e r f n = sym (operation_now ∙ ap (λ x. after_by x s) e) ∙ f
  was_running (Some operation) e r f n = some_none operation n

  -- one that sends nothing
  module _ (none : act_turn.0.packets ≡ []) where
    not_read : (b : Bool) → is_read action ≡ b → is_read action ≡ false
    not_read false e = e
    not_read true e =
        let is = is_state action e in
        absurd (state_sends s (ap (λ a. (act_step a empty_outbox s).0) (sym is) ∙ done_is) (ap (λ a. (act_step a empty_outbox s).1.0.packets) (sym is) ∙ none))

    quiet_pair : (read : StateRead) (act : ℕ) → IsPair past i s read act → IsPair ms i act_turn.1 read act
    quiet_pair read act p = record {
      number = p.number;
      list = p.list;
      kind = p.kind;
      at = subst (λ (l : Layer Purpose). At l act_turn.1.target p.number (Some (purposes.State act p.list))) (sym (left.quiet none))
          (subst (λ n. At s.layer n p.number (Some (purposes.State act p.list))) (sym left.target_is) p.at);
      named = p.named;
      held =
          ap (λ (l : Layer Purpose). (terms ms).held (transaction l.generation (suc i) 0 p.number)) (left.quiet none)
          ∙ ap (λ (x : Terms). x.held (transaction s.layer.generation (suc i) 0 p.number)) told.wire ∙ p.held;
      order = λ u e r f. (let w = goes_told.on u e in ap (λ n. nat_lt n read.serial) (sym w.first) ∙ p.order w.was w.is r (by begins refl r f (no_underway_at w.was w.is)));
      below = (let b = p.below in let w = ap (λ (x : Terms). x.count) told.wire in omega (arith, b, w));
    }
      where
        no_underway_at : (u : Underway) → (host_at past i).operation ≡ Some u → (operation : Operation) → begins ≡ Some operation → ⊥
        no_underway_at u e operation f = no_underway operation f u e

        by : (o : Option Operation) → begins ≡ o → (r : Running) → act_turn.1.operation ≡ Some r → ((operation : Operation) → begins ≡ Some operation → ⊥) → s.operation ≡ Some r
        by None e r f n = was_running None e r f refl
        by (Some operation) e r f n = absurd (n operation e)

    quiet_pairs : AreZipped (IsPair past i s) (Reads past i) s.states → AreZipped (IsPair ms i act_turn.1) (Reads ms i) act_turn.1.states
    quiet_pairs z =
        subst (λ acts. AreZipped (IsPair ms i act_turn.1) (Reads ms i) acts) (sym (states_now ∙ ap (λ b. cond b (s.states ++ s.counts.acts ∷ []) s.states) (not_read (is_read action) refl)))
        (subst (λ rs. AreZipped (IsPair ms i act_turn.1) rs s.states) (sym (told_reads act_turn.0.sides past i left.told))
        (zipped_map (IsPair past i s) (IsPair ms i act_turn.1) quiet_pair (Reads past i) s.states z))

    quiet_tied : AreTied past i s → AreTied ms i act_turn.1
    quiet_tied k =
        let under = tied_on past ms i s (told_on act_turn.0.sides past i left.told) (λ m kind n e. ap (λ (y : Terms). y.held (transaction s.layer.generation (suc i) 0 m)) told.wire ∙ e) k in
        record {
          tied = λ m p d a.
              let x = under.tied m p d (earlier_at m (Some p) a) in
              record {
                kind = x.kind;
                serial = x.serial;
                held = ap (λ (l : Layer Purpose). (terms ms).held (transaction l.generation (suc i) 0 m)) (left.quiet none) ∙ x.held;
                first = λ u e r f. x.first u e r (running_on u e r f);
                below = x.below;
                action = x.action;
                asked = x.asked;
                makes = x.makes;
                knows = λ e. knows_goes (x.knows e);
              };
          owned = λ m a. under.owned m (earlier_at m None a);
          one = λ m n act y z a b. under.one m n act y z (earlier_at m (Some (purposes.State act y)) a) (earlier_at n (Some (purposes.State act z)) b);
        }
      where
        knows_goes : {X : Type 0} → Knows s ⊎ X → Knows act_turn.1 ⊎ X
        knows_goes (inl h) = inl (acted_knows action s done_is h)
        knows_goes (inr x) = inr x

        earlier_at : (m : ℕ) (p : Option Purpose) → At act_turn.1.layer act_turn.1.target m p → At s.layer s.target m p
        earlier_at m p a = subst (λ (l : Layer Purpose). At l s.target m p) (left.quiet none) (subst (λ n. At act_turn.1.layer n m p) left.target_is a)

        by : (o : Option Operation) → begins ≡ o → (u : Underway) → (host_at past i).operation ≡ Some u → (r : Running) → act_turn.1.operation ≡ Some r → s.operation ≡ Some r
        by None e u f r g = was_running None e r g refl
        by (Some operation) e u f r g = absurd (no_underway operation e u f)

        running_on : (u : Underway) → (host_at ms i).operation ≡ Some u → (r : Running) → act_turn.1.operation ≡ Some r → s.operation ≡ Some r
        running_on u e r f = (let w = goes_told.on u e in by begins refl w.was w.is r f)

  -- and one that sends a request
  module _ (packet : Outgoing) (one : act_turn.0.packets ≡ packet ∷ []) (serial generation : ℕ) (injected : (terms past).injected serial ≡ false) (q : IsRequest (number_in packet.label) packet.bytes) where
    abbrev now : List Moment
    now = said (notes.Sent serial generation (suc i) 0 packet.bytes) ∷ ms

    abbrev sending : Sending
    sending = record { generation = generation; from = suc i; to = 0; bytes = packet.bytes; injected = (terms ms).injected serial }

    honest : (terms ms).injected serial ≡ false
    honest = ap (λ (y : Terms). y.injected serial) told.wire ∙ injected

    x : HasAsked action s packet act_turn.1.layer
    x = left.asking packet one

    called_now : Called s.layer
    called_now = called_of cored

    count_is : (terms ms).count ≡ (terms past).count
    count_is = ap (λ (y : Terms). y.count) told.wire

    count_now : (terms now).count ≡ (terms ms).count + 1
    count_now = sent_count serial sending (terms ms)

    kept : operation_of action ≡ None → Goes (host_at ms i) (host_at now i)
    kept o = kept_first action (number_in packet.label) q.kind serial generation 0 packet.bytes ms i (told.line ∙ under) q.part honest o

    goes_now : operation_of action ≡ None → Goes (host_at past i) (host_at now i)
    goes_now o = goes_then (host_at past i) (host_at ms i) (host_at now i) goes_told (kept o)

    first_is : (operation : Operation) → operation_of action ≡ Some operation → (u : Underway) → (host_at now i).operation ≡ Some u → u.first ≡ serial
    first_is operation o u e = (begun_first action (number_in packet.label) q.kind serial generation 0 packet.bytes ms i (told.line ∙ under) q.part honest operation u o e).0

    act_is : (operation : Operation) → begins ≡ Some operation → (r : Running) → act_turn.1.operation ≡ Some r → r.act ≡ s.counts.acts
    act_is operation o r f =
        ap (λ (y : Running). y.act) (sym (same_Some (begun_as (is_managed operation) operation s) r (sym (operation_now ∙ ap (λ y. after_by y s) o) ∙ f)))
        ∙ (new_by (is_managed operation) operation s).act

    stays : act_turn.1.layer.generation ≡ s.layer.generation
    stays = asked_generation s.layer s.target (wanted_body x.demand.wanted) x.demand.purpose x.asked act_turn.1.layer x.step

    module _ (f : Fit now) where
      fit_past : Fit past
      fit_past = told.fit (record { serials = f.serials.1; sent = f.sent.1 })

      serial_is : serial ≡ (terms past).count + 1
      serial_is = f.serials.0 ∙ ap (λ n. n + 1) count_is

      old_pair : (read : StateRead) (act : ℕ) → IsPair past i s read act → IsPair now i act_turn.1 read act
      old_pair read act p = record {
        number = p.number;
        list = p.list;
        kind = p.kind;
        at = subst (λ n. At act_turn.1.layer n p.number (Some (purposes.State act p.list))) (sym left.target_is)
            (ask_keeps s.layer s.target (wanted_body x.demand.wanted) x.demand.purpose x.asked act_turn.1.layer called_now x.step s.target p.number (Some (purposes.State act p.list)) p.at);
        named = p.named;
        held =
            ap (λ g. (terms now).held (transaction g (suc i) 0 p.number)) stays
            ∙ sent_waits (terms ms) serial sending f.sent.0 (transaction s.layer.generation (suc i) 0 p.number) p.kind read.serial
            (ap (λ (y : Terms). y.held (transaction s.layer.generation (suc i) 0 p.number)) told.wire ∙ p.held);
        order = λ u e r g. by begins refl u e r g;
        below = (let b = p.below in let c = count_is in let d = count_now in omega (arith, b, c, d));
      }
        where
          by : (o : Option Operation) → begins ≡ o → (u : Underway) → (host_at now i).operation ≡ Some u → (r : Running) → act_turn.1.operation ≡ Some r
              → nat_lt u.first read.serial ≡ nat_lt r.act act
          by None o u e r g =
              let w = (goes_now (same_operation action ∙ o)).on u e in
              ap (λ n. nat_lt n read.serial) (sym w.first) ∙ p.order w.was w.is r (was_running None o r g refl)
          by (Some operation) o u e r g =
              let b = p.below in
              let first = first_is operation (same_operation action ∙ o) u e in
              let new = serial_is in
              let of_act = act_is operation o r g in
              let old = earlier_of ready i s cored.own.called s.target p.number (Some (purposes.State act p.list)) p.at (purposes.State act p.list) refl in
              let no : nat_lt u.first read.serial ≡ false = grind (arith, nat_tests, b, first, new) in
              let nor : nat_lt r.act act ≡ false = grind (arith, nat_tests, of_act, old) in
              no ∙ sym nor

      -- the other requests that are under way
      module _ (m : ℕ) (p : Purpose) (k : Tied past i s m p) (a : At s.layer s.target m (Some p)) where
        old_first : (o : Option Operation) → begins ≡ o → (u : Underway) → (host_at now i).operation ≡ Some u → (r : Running) → act_turn.1.operation ≡ Some r → (u.first == k.serial) ≡ is_of p r.act
        old_first None o u e r g = (let w = (goes_now (same_operation action ∙ o)).on u e in ap (λ n. n == k.serial) (sym w.first) ∙ k.first w.was w.is r (was_running None o r g refl))
        old_first (Some operation) o u e r g =
            let b = k.below in
            let first = first_is operation (same_operation action ∙ o) u e in
            let new = serial_is in
            let no : (u.first == k.serial) ≡ false = grind (arith, nat_tests, b, first, new) in
            no ∙ sym (ap (is_of p) (act_is operation o r g) ∙ earlier_not p s.counts.acts (earlier_of ready i s cored.own.called s.target m (Some p) a p refl))

        old_tied : Tied now i act_turn.1 m p
        old_tied = record {
          kind = k.kind;
          serial = k.serial;
          held =
              ap (λ g. (terms now).held (transaction g (suc i) 0 m)) stays
              ∙ sent_waits (terms ms) serial sending f.sent.0 (transaction s.layer.generation (suc i) 0 m) k.kind k.serial (ap (λ (y : Terms). y.held (transaction s.layer.generation (suc i) 0 m)) told.wire ∙ k.held);
          first = λ u e r g. old_first begins refl u e r g;
          below = (let b = k.below in let c = count_is in let d = count_now in omega (arith, b, c, d));
          action = k.action;
          asked = asked_sent serial generation (suc i) 0 packet.bytes ms i k.serial (let b = k.below in let c = count_is in omega (arith, b, c)) f.serials.0 ∙ (ap (λ g. g k.serial i) (asked_told act_turn.0.sides past left.told) ∙ k.asked);
          makes = k.makes;
          knows = λ e. old_knows (k.knows e);
        }
          where
            sent_knows : Knows act_turn.1 ⊎ IsNull ms k.serial → k.serial ≤ (terms ms).count → Knows act_turn.1 ⊎ IsNull now k.serial
            sent_knows (inl h) l = inl h
            sent_knows (inr h) l = inr (λ other access e spelled. h other access (sym ((step (said (notes.Sent serial generation (suc i) 0 packet.bytes)) ms f.serials).sent k.serial l) ∙ e) spelled)

            old_knows : Knows s ⊎ IsNull past k.serial → Knows act_turn.1 ⊎ IsNull now k.serial
            old_knows h =
                let a = told_on act_turn.0.sides past i left.told in
                let b = k.below in
                let c = a.count in
                sent_knows (knows_on past ms i s act_turn.1 a (acted_knows action s done_is) k.serial k.below h) (omega (arith, b, c))

      -- and this one
      module _ (m : ℕ) (p : Purpose) (plain : is_plain p ≡ true) (its : m ≡ x.asked.label.number) (purpose_is : x.demand.purpose ≡ p) where
        new_first : (o : Option Operation) → begins ≡ o → (u : Underway) → (host_at now i).operation ≡ Some u → (r : Running) → act_turn.1.operation ≡ Some r → (u.first == serial) ≡ is_of p r.act
        new_first None o u e r g =
            let w = (goes_now (same_operation action ∙ o)).on u e in
            let b = h.first fit_past w.was w.is in
            let same = w.first in
            let new = serial_is in
            let no : (u.first == serial) ≡ false = grind (arith, nat_tests, b, same, new) in
            no ∙ sym (ap (λ q. is_of q r.act) (sym purpose_is) ∙ asks_none action s x.demand x.is o r.act)
        new_first (Some operation) o u e r g =
            let first = first_is operation (same_operation action ∙ o) u e in
            let yes : (u.first == serial) ≡ true = grind (arith, nat_tests, first) in
            yes ∙ sym (ap (λ q. is_of q r.act) (sym purpose_is) ∙ ap (is_of x.demand.purpose) (act_is operation o r g) ∙ asks_own action s x.demand operation x.is o (ap is_plain purpose_is ∙ plain))

        new_tied : Tied now i act_turn.1 m p
        new_tied = record {
          kind = kind_in (part_of packet.bytes);
          serial = serial;
          held =
              ap (λ g. (terms now).held (transaction g (suc i) 0 m)) stays
              ∙ sent_begun serial sending (terms ms) (transaction s.layer.generation (suc i) 0 m)
              (asked_begun sending (between sending sending.from sending.to (number_in packet.label)) honest (request_asked sending (number_in packet.label) q.kind q.part)
              ∙ ap (λ g. Some (transaction g (suc i) 0 (number_in packet.label)))
              (generation_is action past i s done_is known shown called_now (h.kinds fit_past) left packet one serial generation injected q f)
              ∙ ap (λ n. Some (transaction s.layer.generation (suc i) 0 n)) (ap number_in x.label ∙ sym its));
          first = λ u e r g. new_first begins refl u e r g;
          below = (let a = f.serials.0 in let d = count_now in omega (arith, a, d));
          action = action;
          asked = asked_here serial generation 0 packet.bytes ms i ∙ ap (own_action i) (told.line ∙ under) ∙ own_here i action;
          makes = asks_makes action s x.demand x.is (ap is_plain purpose_is ∙ plain) ∙ ap is_managing purpose_is;
          knows = λ e. new_knows (asks_known action s x.demand x.is (ap is_managing purpose_is ∙ e));
        }
          where
            bytes_spelled : access_in_bytes packet.bytes ≡ access_of (request_with (header_to 0 0 0) (wanted_body x.demand.wanted))
            bytes_spelled =
                let has = act_bytes action s packet done_is one in
                let same : has.demand ≡ x.demand = same_Some has.demand x.demand (sym has.is ∙ x.is) in
                ap access_in_bytes has.bytes ∙ known.spelled action has.demand has.asked has.is has.found ∙ ap (λ (d : Demand). access_of (request_with (header_to 0 0 0) (wanted_body d.wanted))) same

            new_knows : Knows s ⊎ ((access : Access) → access_of (request_with (header_to 0 0 0) (wanted_body x.demand.wanted)) ≡ Some access → access.offset ≡ 0) → Knows act_turn.1 ⊎ IsNull now serial
            new_knows (inl h) = inl (acted_knows action s done_is h)
            new_knows (inr h) = inr (λ other access e spelled. (let same : sending ≡ other = same_Some sending other (sym (sent_new serial sending (terms ms)) ∙ e) in h access (sym bytes_spelled ∙ ap (λ (y : Sending). access_in_bytes y.bytes) same ∙ spelled)))

      asking_tied : AreTied past i s → AreTied now i act_turn.1
      asking_tied k = record {
        tied = λ m p d a. by_asked m p d (asked_at m (Some p) a);
        owned = λ m a. none_asked m (asked_at m None a);
        one = λ m n act y z a b. one_asked m n act y z (asked_at m (Some (purposes.State act y)) a) (asked_at n (Some (purposes.State act z)) b);
      }
        where
          asked_at : (m : ℕ) (p : Option Purpose) → At act_turn.1.layer act_turn.1.target m p → AskedAt s.layer s.target x.asked x.demand.purpose s.target m p
          asked_at m p a = ask_at s.layer s.target (wanted_body x.demand.wanted) x.demand.purpose x.asked act_turn.1.layer s.target m p called_now x.step (subst (λ n. At act_turn.1.layer n m p) left.target_is a)

          by_asked : (m : ℕ) (p : Purpose) → is_plain p ≡ true → AskedAt s.layer s.target x.asked x.demand.purpose s.target m (Some p) → Tied now i act_turn.1 m p
          by_asked m p d (asked_now peer n e) = new_tied m p d n (same_Some x.demand.purpose p (sym e))
          by_asked m p d (was_asked b) = old_tied m p (k.tied m p d b) b

          not_earlier : {A : Type 0} (m act : ℕ) (y z : Option ℕ) → Some (purposes.State act y) ≡ Some x.demand.purpose → At s.layer s.target m (Some (purposes.State act z)) → A
          not_earlier m act y z e b =
              let now_is = reads_now action s x.demand x.is act y (same_Some x.demand.purpose (purposes.State act y) (sym e)) in
              let then = earlier_of ready i s cored.own.called s.target m (Some (purposes.State act z)) b (purposes.State act z) refl in
              absurd (omega (arith, now_is, then))

          one_asked : (m n act : ℕ) (y z : Option ℕ) → AskedAt s.layer s.target x.asked x.demand.purpose s.target m (Some (purposes.State act y)) → AskedAt s.layer s.target x.asked x.demand.purpose s.target n (Some (purposes.State act z)) → m ≡ n
          one_asked m n act y z (asked_now p a e) (asked_now q b g) = a ∙ sym b
          one_asked m n act y z (asked_now p a e) (was_asked b) = not_earlier n act y z e b
          one_asked m n act y z (was_asked a) (asked_now q b g) = not_earlier m act z y g a
          one_asked m n act y z (was_asked a) (was_asked b) = k.one m n act y z a b

          none_asked : (m : ℕ) → AskedAt s.layer s.target x.asked x.demand.purpose s.target m None → ⊥
          none_asked m (asked_now peer n e) = none_is x.demand.purpose e
          none_asked m (was_asked b) = k.owned m b

      -- the one that the action begins
      module _ (is : action ≡ actions.State) where
        abbrev list : Option ℕ
        list = counted_list s.lists.slots.present s

        abbrev number : ℕ
        number = x.asked.label.number

        abbrev begun_at : ℕ → Transaction
        begun_at m = transaction s.layer.generation (suc i) 0 m

        purpose_is : x.demand.purpose ≡ purposes.State s.counts.acts list
        purpose_is = ap (λ (d : Demand). d.purpose) (sym (same_Some _ x.demand (ap (λ a. demand_of a s) (sym is) ∙ x.is)))

        abbrev new_read : StateRead
        new_read = record { serial = serial; list = told_of (host_at ms i).pointed (present_list ms i) }

        none_begins : begins ≡ None
        none_begins = ap refusals.operation_of is

        -- it says something of the list that it is asked for
        silent_told : act_turn.0.sides ≡ []
        silent_told = acted_sides ready action past i s fit.0 done_is h.host cored.own.called ∙ ap (λ a. own (action_notes a past i)) is

        counts : (b : Bool) → is_answered s.marks.pointing ≡ b → (present : Option PresentList) → told_of b (present_in present) ≡ counted_list present s
        counts b e None = none b
          where
            none : (b : Bool) → told_of b None ≡ None
            none true = refl
            none false = refl
        counts true e (Some l) = ap (λ b. cond b (Some l.tail.list) None) (sym e)
        counts false e (Some l) = ap (λ b. cond b (Some l.tail.list) None) (sym e)

        named_now : marks_at past i ≡ own_marks s → told_of (host_at ms i).pointed (present_list ms i) ≡ list
        named_now marked =
            ap (λ told. told_of (host_at (behind told past) i).pointed (present_list (behind told past) i)) silent_told
            ∙ ap (λ b. told_of b (present_list past i)) (ap (λ (m : Marks). m.pointed) marked)
            ∙ ap (told_of (is_answered s.marks.pointing)) h.host.rows.fits.present ∙ counts (is_answered s.marks.pointing) refl s.lists.slots.present

        new_pair : marks_at past i ≡ own_marks s → IsPair now i act_turn.1 new_read s.counts.acts
        new_pair marked = record {
          named = named_now marked;
          number = number;
          list = list;
          kind = kind_in (part_of packet.bytes);
          at = subst (λ n. At act_turn.1.layer n number (Some (purposes.State s.counts.acts list))) (sym left.target_is)
              (subst (λ (p : Purpose). At act_turn.1.layer s.target number (Some p)) purpose_is
              (ask_begins s.layer s.target (wanted_body x.demand.wanted) x.demand.purpose x.asked act_turn.1.layer called_now x.step));
          held =
              ap (λ g. (terms now).held (transaction g (suc i) 0 number)) stays
              ∙ sent_begun serial sending (terms ms) (begun_at number)
              (asked_begun sending (between sending sending.from sending.to (number_in packet.label)) honest (request_asked sending (number_in packet.label) q.kind q.part)
              ∙ ap (λ g. Some (transaction g (suc i) 0 (number_in packet.label)))
              (generation_is action past i s done_is known shown called_now (h.kinds fit_past) left packet one serial generation injected q f)
              ∙ ap (λ m. Some (begun_at m)) (ap number_in x.label));
          order = λ u e r g.
              let w = (goes_now (same_operation action ∙ none_begins)).on u e in
              let b = h.first fit_past w.was w.is in
              let same = w.first in
              let new = serial_is in
              let old = running_before ready i s cored.own.called r (was_running None none_begins r g refl) in
              let yes : nat_lt u.first serial ≡ true = grind (arith, nat_tests, b, same, new) in
              let too : nat_lt r.act s.counts.acts ≡ true = grind (arith, nat_tests, old) in
              yes ∙ sym too;
          below = (let a = f.serials.0 in let d = count_now in omega (arith, a, d));
        }

      host_is : host_at now i ≡ acted action (operation_of action) (present_list ms i) serial (host_at ms i)
      host_is = asked_host action serial generation 0 packet.bytes ms i (told.line ∙ under) q honest

      asking_pairs : (b : Bool) → is_read action ≡ b → marks_at past i ≡ own_marks s → AreZipped (IsPair past i s) (Reads past i) s.states → AreZipped (IsPair now i act_turn.1) (Reads now i) act_turn.1.states
      asking_pairs false e marked z =
          subst (λ acts. AreZipped (IsPair now i act_turn.1) (Reads now i) acts) (sym (states_now ∙ ap (λ b. cond b (s.states ++ s.counts.acts ∷ []) s.states) e))
          (subst (λ rs. AreZipped (IsPair now i act_turn.1) rs s.states)
          (sym (ap (λ (y : Host). y.reads) host_is ∙ acted_reads action (present_list ms i) serial (host_at ms i) (λ is. untrue (sym e ∙ ap is_read is))
          ∙ told_reads act_turn.0.sides past i left.told))
          (zipped_map (IsPair past i s) (IsPair now i act_turn.1) old_pair (Reads past i) s.states z))
      asking_pairs true e marked z =
          let is = is_state action e in
          subst (λ acts. AreZipped (IsPair now i act_turn.1) (Reads now i) acts) (sym (states_now ∙ ap (λ b. cond b (s.states ++ s.counts.acts ∷ []) s.states) e))
          (subst (λ rs. AreZipped (IsPair now i act_turn.1) rs (s.states ++ s.counts.acts ∷ []))
          (sym (ap (λ (y : Host). y.reads) host_is ∙ ap (λ a. (acted a (operation_of a) (present_list ms i) serial (host_at ms i)).reads) is
          ∙ ap (λ rs. rs ++ new_read is ∷ []) (told_reads act_turn.0.sides past i left.told)))
          (zipped_more (IsPair past i s) (IsPair now i act_turn.1) old_pair (Reads past i) s.states (new_read is) s.counts.acts (new_pair is marked) z))

      first_now : (o : Option Operation) → begins ≡ o → (u : Underway) → (host_at now i).operation ≡ Some u → u.first ≤ (terms now).count
      first_now None o u e =
          (let w = (goes_now (same_operation action ∙ o)).on u e in let b = h.first fit_past w.was w.is in let same = w.first in let c = count_is in let d =
          count_now in omega (arith, b, same, c, d))
      first_now (Some operation) o u e = (let a = first_is operation (same_operation action ∙ o) u e in let n = f.serials.0 in let d = count_now in omega (arith, a, n, d))

      asking_marked : marks_at past i ≡ own_marks s → marks_at now i ≡ own_marks act_turn.1
      asking_marked marked =
          ap marks_in host_is ∙ acted_marks action (present_list ms i) serial (host_at ms i) (λ r e. acted_unanswered ready action past i s fit.0 done_is h.host cored.own.called marked (unanswered r e))
          ∙ acted_marked ready action past i s fit.0 done_is h.host cored.own.called marked
        where
          not_written : (mark : Pointing) → false ≡ not (is_unwritten mark) → is_answered mark ≡ false
          not_written pointings.Unwritten e = refl
          not_written pointings.Written e = untrue e
          not_written pointings.Answered e = untrue e

          unlisted : (mark : Pointing) → is_unwritten mark ≡ true → is_answered mark ≡ false
          unlisted mark e = not_written mark (ap not (sym e))

          by : (present : Option PresentList) → s.lists.slots.present ≡ present → refusals.rings action ≡ true → (host_at ms i).pointer ≡ None → is_answered s.marks.pointing ≡ false
          by None p r e = unlisted s.marks.pointing (subst (λ x. HasMarks x s.marks.pointing) p (marks_of ready i s cored.own.called))
          by (Some l) p r e = not_written s.marks.pointing (ap is_some (sym e ∙ left.names r (ap is_some p) past i) ∙ wrote_is cored)

          unanswered : refusals.rings action ≡ true → (host_at ms i).pointer ≡ None → is_answered s.marks.pointing ≡ false
          unanswered = by s.lists.slots.present refl

  quiet_kinds : act_turn.0.packets ≡ [] → Fit past → Kinds ms i act_turn.1.target act_turn.1.layer
  quiet_kinds none f =
      subst (λ n. Kinds ms i n act_turn.1.layer) (sym left.target_is)
      (subst (λ (l : Layer Purpose). Kinds ms i s.target l) (sym (left.quiet none))
      (still_kinds past ms i s.target s.layer (λ m k n e. ap (λ (y : Terms). y.held (transaction s.layer.generation (suc i) 0 m)) told.wire ∙ e) (h.kinds f)))

  does_paired : Does (Paired ready) past i act_turn
  does_paired =
      let g = (guarded_carried ready).acts action past i s under fit done_is shown known h.guarded in
      let hosts = host_acts past i s h.host action under fit done_is in
      record {
        others = λ j y e k.
            told_paired ready act_turn.0.sides past j y left.told (g.others j y e k.guarded) (hosts.others j y e k.host)
            (acted_others ready action past i s fit.0 done_is h.host cored.own.called j e) k;
        quiet = λ none. record {
          guarded = g.quiet none;
          pairs = λ f m. quiet_pairs none (h.pairs (told.fit f) (told_timely act_turn.0.sides past left.told m));
          first = λ f. first_on past ms i s goes_told (least _ _ (ap (λ (y : Terms). y.count) told.wire)) (h.first (told.fit f));
          host = hosts.quiet none;
          kinds = λ f. quiet_kinds none (told.fit f);
          tied = λ f. quiet_tied none (h.tied (told.fit f));
          live = acted_live ready action past i s fit.0 done_is h.host cored.own.called h.live (hosts.quiet none).rows.fits.present;
          marked = λ f m. acted_marked ready action past i s fit.0 done_is h.host cored.own.called (h.marked (told.fit f) (told_timely act_turn.0.sides past left.told m));
        };
        asking = λ packet one serial generation injected q. record {
          guarded = g.asking packet one serial generation injected q;
          pairs = λ f m.
              let f_past = fit_past packet one serial generation injected q f in
              let m_past = told_timely act_turn.0.sides past left.told m.1 in
              asking_pairs packet one serial generation injected q f (is_read action) refl (h.marked f_past m_past) (h.pairs f_past m_past);
          first = λ f. first_now packet one serial generation injected q f begins refl;
          host = hosts.asking packet one serial generation injected q;
          kinds = λ f.
              subst (λ n. Kinds (said (notes.Sent serial generation (suc i) 0 packet.bytes) ∷ ms) i n act_turn.1.layer) (sym left.target_is)
              (asking_kinds action past i s done_is known shown (called_of cored) (h.kinds (fit_past packet one serial generation injected q f)) left packet one serial generation injected q f);
          tied = λ f. asking_tied packet one serial generation injected q f (h.tied (fit_past packet one serial generation injected q f));
          live = acted_live ready action past i s fit.0 done_is h.host cored.own.called h.live (hosts.asking packet one serial generation injected q).rows.fits.present;
          marked = λ f m. asking_marked packet one serial generation injected q f
              (h.marked (fit_past packet one serial generation injected q f) (told_timely act_turn.0.sides past left.told m.1));
        };
      }

-- ---- of every initiator of every run
paired_carried : (ready : Bool) → Carries Ready (Paired ready)
paired_carried ready = record {
  known = (guarded_carried ready).known;
  number = λ past i s h. h.guarded.pointed.cored.own.number;
  asked = asked_paired ready;
  apart = apart_paired ready;
  sent = sent_paired ready;
  hears = hears_paired ready;
  expires = expires_paired ready;
  stale = λ label past i s e h. subst (λ (x : InitiatorState). Paired ready past i x) (sym (stale_is ready label s e)) h;
  sees = sees_paired ready;
  acts = does_paired ready;
}

begun_reads : (b : Bool) (i : ℕ) → (cond b (ready_host i) new_host).reads ≡ []
begun_reads true i = refl
begun_reads false i = refl

begun_marks : (b : Bool) (i : ℕ) → marks_in (cond b (ready_host i) new_host) ≡ marks false false
begun_marks true i = refl
begun_marks false i = refl

begun_none : (b : Bool) (i : ℕ) → (cond b (ready_host i) new_host).operation ≡ None
begun_none true i = refl
begun_none false i = refl

first_paired : (line i initiators : ℕ) (ready : Bool) → i < initiators → Paired ready (said (notes.Begin initiators ready) ∷ asked line (events.Begin initiators ready) ∷ []) i (new_state i ready)
unfolding new_state
first_paired line i initiators ready b =
    let past = said (notes.Begin initiators ready) ∷ asked line (events.Begin initiators ready) ∷ [] in
    record {
      guarded = first_guarded line i initiators ready b;
      pairs = λ f m. subst (λ rs. AreZipped (IsPair past i (new_state i ready)) rs []) (sym (begun_reads (ready && nat_lt i initiators) i)) tt;
      first = λ f u e. none_is u (sym (begun_none (ready && nat_lt i initiators) i) ∙ e);
      host = first_host line i initiators ready;
      kinds = λ f m p c a. absurd (not_yet (at_life (0xffc1 + i) [] (new_state i ready).target m (Some p) a));
      tied = λ f. record {
        tied = λ m p c a. absurd (not_yet (at_life (0xffc1 + i) [] (new_state i ready).target m (Some p) a));
        owned = λ m a. not_yet (at_life (0xffc1 + i) [] (new_state i ready).target m None a);
        one = λ m n act x y a b. absurd (not_yet (at_life (0xffc1 + i) [] (new_state i ready).target m (Some (purposes.State act x)) a));
      };
      live = λ e. untrue e;
      marked = λ f m. begun_marks (ready && nat_lt i initiators) i;
    }
  where
    not_yet : {kind : ReplyKind} {purpose : Option Purpose} → not_begun ≡ under_way kind purpose → ⊥
    not_yet e = cc

pub paired_of_runs : (line : ℕ) (run : Run) → IsRun run → (i : ℕ) → i < run.initiators → Paired run.ready (history_of line run) i (initiator_of run i)
paired_of_runs line run r i b = of_runs (Paired run.ready) (paired_carried run.ready) line run (ready_known line run) (λ j c. first_paired line j run.initiators run.ready c) r i b

abbrev pub PairedBetween : Run → (line next : ℕ) → Option ℕ → List (Option ToldRun) → ℕ → Type 0
PairedBetween run line next most told i =
    let w = (after_all told (begun (world_after (beginning run) run.entries))).world in
    Paired run.ready (map said w.fresh ++ asked next (more_deliveries most) ∷ history_of line run) i (initiator_at w i)

pub paired_between : (line : ℕ) (run : Run) → IsRun run → (next : ℕ) (most : Option ℕ) (told : List (Option ToldRun))
    → MayAll told (begun (world_after (beginning run) run.entries)) → (i : ℕ) → i < run.initiators → PairedBetween run line next most told i
paired_between line run r next most told m i b =
    between_runs (Paired run.ready) (paired_carried run.ready) line run (ready_known line run) (λ j c. first_paired line j run.initiators run.ready c) r next most told m i b

-- ---- so the operation and the reads under way are the same
module _ (past : List Moment) (i : ℕ) (s : InitiatorState) where
  many : (reads : List StateRead) (acts : List ℕ) → AreZipped (IsPair past i s) reads acts → AreAsMany reads acts
  many [] [] z = tt
  many (read ∷ reads) (act ∷ acts) z = many reads acts z.1
  many [] (act ∷ acts) z = absurd z
  many (read ∷ reads) [] z = absurd z

  module _ (u : Underway) (r : Running) (e : (host_at past i).operation ≡ Some u) (f : s.operation ≡ Some r) where
    in_order : (reads : List StateRead) (acts : List ℕ) → AreZipped (IsPair past i s) reads acts → AreInOrder u.first r.act reads acts
    in_order [] [] z = tt
    in_order (read ∷ reads) (act ∷ acts) z = (z.0.order u e r f, in_order reads acts z.1)
    in_order [] (act ∷ acts) z = absurd z
    in_order (read ∷ reads) [] z = absurd z

  pub resets_of : work_of (host_at past i).operation ≡ work_in s.operation → AreZipped (IsPair past i s) (Reads past i) s.states
      → AreReset (host_at past i).operation s.operation (Reads past i) s.states
  resets_of work z = by (host_at past i).operation s.operation refl refl work
    where
      by : (u : Option Underway) (r : Option Running) → (host_at past i).operation ≡ u → s.operation ≡ r → work_of u ≡ work_in r → AreReset u r (Reads past i) s.states
      by None None e f w = none_reset (Reads past i) s.states (many (Reads past i) s.states z)
      by (Some u) (Some r) e f w = both_reset u r (Reads past i) s.states (operation_same u r w) (in_order u r e f (Reads past i) s.states z)
      by None (Some r) e f w = absurd (let no : work_of None ≡ work_in (Some r) = w in cc)
      by (Some u) None e f w = absurd (let no : work_of (Some u) ≡ work_in None = w in cc)
