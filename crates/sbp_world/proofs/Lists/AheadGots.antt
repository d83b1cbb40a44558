-- As each packet is got in a run in which no initiator injected packets, or few logins were given: while an agent of an initiator that injected none has an ORB that it read ahead, what it waits for begins not in the slot of that ORB, and so what is got of its initiator does
-- not, where what answers no agent does not.
use Rattle.sbp_world.proofs.Common.{same_node}
use Rattle.sbp_world.proofs.Words.Std.{◌+◌, arith, inl, inr, ◌≡◌, ◌∙◌, refl, sym, ap, subst, ◌<◌, ◌≤◌, ◌-◌, ◌==◌, nat_lt, ℕ, suc, Bool, true, false, cond, List, [], ◌∷◌, length, Option, Some, None, nat_tests, pow_pos}
use Rattle.sbp_world.proofs.Words.Wire.{Access, Cmd, Event, Moment, asked, said, Sending, Terms, terms, Note}
use Rattle.sbp_world.proofs.Words.Target.{Phase, Which, Ahead, Main, Machine, chunk_of, cut_to, limit_of, Knows, KnowsAhead, Progress, main_ask, number_behind, Table, place_at, Disk}
use Rattle.sbp_world.proofs.Words.Initiator.{window_at, CommandOrb, At, Chunk, Segment, chunk_from}
use Rattle.sbp_world.proofs.Words.Laws.{fifo_in, Moved, laid_out, moved_by, payload_at, read_by, Orb, command_at, slot_at, named_orb, prepared_in, access_at, answered_at, receiver_in, Purpose, Target, agent_at, for_agent, for_manager, for_nobody, is_serial, term_login, over, purpose_of, target_at, ends, EachMoment, injectors}
use Rattle.sbp_world.proofs.Words.World.{ready_logins, WorldState, Alike, IsAccessFor, serial_of, Office, more_deliveries, AheadAsGot, AheadAsGotLaw, HasAhead, IsAheadElsewhere, GoesAlong, OpenListsLaw, AllElsewhere, IsOwnOrOther, is_main_of, main_moved, main_read, IsBufferOf, IsCalm, IsOpenAt, initiator_in, is_open_at, machine_at, IsTameOrFew, AreOpened, IsOpened, IsLoginFifo, data_slot, IsAwaited, IsElsewhereBut, by_purpose}
use Rattle.command_agent.specs.declared.phase.Phase.TheVariants as phases
use Rattle.command_agent.specs.declared.phase.ReadAhead.TheVariants as aheads
use Rattle.sbp_world.proofs.Agents.Management.Holding.{Holding}
use Rattle.sbp_world.proofs.Agents.Management.Offices.{over_keeps}
use Rattle.sbp_world.proofs.Agents.Management.Still.{hist}
use Rattle.sbp_world.proofs.Lists.Brought.{has_a_table, list}
use Rattle.sbp_world.proofs.Lists.Courses.{EveryPlace, Keeps, at_between, at_lines, more_than_one}
use Rattle.sbp_world.proofs.Lists.DataSteps.{chunk_window}
use Rattle.sbp_world.proofs.Lists.FedGots.{are_own_gots}
use Rattle.sbp_world.proofs.Lists.FedOwners.{one_slot}
use Rattle.sbp_world.proofs.Lists.GotTurns.{got_turn}
use Rattle.sbp_world.proofs.Lists.Judging.{goes_next, grown as grown_by}
use Rattle.sbp_world.proofs.Lists.ListsProved.{closing}
use Rattle.sbp_world.proofs.Lists.LiveGiven.{ShortLaw}
use Rattle.sbp_world.proofs.Lists.LiveShort.{placed_beside}
use Rattle.sbp_world.proofs.Lists.StatusPlaces.{AllPlacedFor}
use Rattle.sbp_world.proofs.Lists.Calm.{calm_before}
use Rattle.sbp_journal.specs.declared.note.Note.TheVariants as notes
use Rattle.sbp_world.proofs.Lists.LiveRuns.{goes_tame_or_few}
use Rattle.sbp_world.proofs.Lists.ManageSends.{opened_terms}
use Rattle.sbp_world.proofs.Lists.ManageTerms.{none_is, same_some}
use Rattle.sbp_world.proofs.Lists.ManagedGots.{NoData}
use Rattle.sbp_world.proofs.Lists.OrbWaits.{over_twice}
use Rattle.sbp_world.proofs.Lists.OwnFifos.{fifo_no_window}
use Rattle.sbp_world.proofs.Lists.OwnGots.{answered_same, read_same, read_so}
use Rattle.sbp_world.proofs.Lists.OpenProved.{opens_law}
use Rattle.sbp_world.proofs.Lists.OpenTurns.{listing_up}
use Rattle.sbp_world.proofs.Lists.Sites.{IsPrepared, Site, Waiting, named_prepared, waiting as agent_waiting}
use Rattle.sbp_world.proofs.Lists.Slots.{IsFilled, table_slot}
use Rattle.sbp_world.proofs.Lists.StillReads.{ahead_name}
use Rattle.sbp_world.proofs.Lists.StillRuns.{ground_everywhere}
use Rattle.sbp_world.proofs.Lists.StillTurns.{Ground, site_at}
use Rattle.sbp_world.proofs.Lists.KeptPhases.{kept_idle}
use Rattle.sbp_world.proofs.Hosts.Cores.{not_so as up_state}

-- ---- where a chunk of a buffer begins
nowhere : window_at 0 ≡ None
unfolding window_at
nowhere = refl

pub no_start : NoData 0
no_start slot d = none_is slot (sym (ap data_slot nowhere) ∙ d)

module _ (slot : ℕ) (small : slot < 32) (cmd : Cmd) (f : IsFilled slot cmd) (left done limit : ℕ) (l : 0 < limit) where
  abbrev taken : Chunk
  taken = cut_to left (chunk_from (laid_out slot cmd cmd.segments) done limit)

  chunk_data : (s : ℕ) → data_slot (window_at taken.offset) ≡ Some s → s ≡ slot
  chunk_data s d = by (nat_lt 0 taken.offset) refl
    where
      by : (b : Bool) → nat_lt 0 taken.offset ≡ b → s ≡ slot
      by true e =
          let some : 0 < taken.offset = grind (arith, nat_tests) in
          let there = chunk_window slot small cmd f left done limit taken.offset taken.length l some refl in
          same_some s slot (sym d ∙ ap data_slot there)
      by false e =
          let zero_there : taken.offset ≡ 0 = grind (arith, nat_tests) in
          absurd (no_start s (subst (λ n. data_slot (window_at n) ≡ Some s) zero_there d))

-- ---- what an agent waits for that has an ORB read ahead
module _ (past : List Moment) (i n : ℕ) where
  abbrev Filled : ℕ → Type 0
  Filled k = (cmd : Cmd) → command_at past i n k ≡ Some cmd → IsFilled (slot_at past i n k) cmd

  -- it is in the slot of the present ORB, behind which is the one that was read ahead
  record IsPresent (phase : Phase) (ended s : ℕ) : Type 0 where
    pub slot_is : s ≡ slot_at past i n ended
    pub behind : number_behind phase ended ≡ suc ended
    pub linked_is : ended < (list past i n).linked

  -- a buffer that is laid out
  pub buffer_data : (k : ℕ) (cmd : Cmd) → command_at past i n k ≡ Some cmd → slot_at past i n k < 32 → Filled k → (segments : List Segment) → IsBufferOf (command_at past i n k) (slot_at past i n k) segments → (left done limit : ℕ) → 0 < limit → (s : ℕ) → data_slot (window_at (cut_to left (chunk_from segments done limit)).offset) ≡ Some s → s ≡ slot_at past i n k
  buffer_data k cmd command small filled segments buffer left done limit l s d =
      let laid : segments ≡ laid_out (slot_at past i n k) cmd cmd.segments = subst (λ x. IsBufferOf x (slot_at past i n k) segments) command buffer in
      chunk_data (slot_at past i n k) small cmd (filled cmd command) left done limit l s (subst (λ (ss : List Segment). data_slot (window_at (cut_to left (chunk_from ss done limit)).offset) ≡ Some s) laid d)

  -- a write goes to the FIFO, or where it is asked for
  pub write_data : (is_status : Bool) (fifo at s : ℕ) → NoData fifo → data_slot (window_at (cond is_status fifo at)) ≡ Some s → data_slot (window_at at) ≡ Some s
  write_data true fifo at s none d = absurd (none s d)
  write_data false fifo at s none d = d

  main_data : (phase : Phase) (p : Progress) (m : Machine) (is_status : Bool) (fifo : ℕ) (access : Access) (orb : CommandOrb) → Knows (list past i n) p phase m → KnowsAhead (list past i n) p phase m.orb.next (aheads.Kept orb) → IsAccessFor (main_ask phase m) is_status fifo access → NoData fifo → (p.ended < (list past i n).linked → slot_at past i n p.ended < 32) → (p.ended < (list past i n).linked → Filled p.ended) → (s : ℕ) → data_slot (window_at access.offset) ≡ Some s → IsPresent phase p.ended s
  main_data phases.ReadingTable p m is_status fifo access orb k a r none small filled s d =
      let linked = k.awaits.turn.linked in
      let t = has_a_table (command_at past i n p.ended) (slot_at past i n p.ended) m.orb k.awaits.good.own k.reads in
      let here = table_slot access (slot_at past i n p.ended) (small linked) (ap (λ (x : Access). x.offset) r ∙ t.descriptor) in
      record { slot_is = one_slot (window_at access.offset) s (slot_at past i n p.ended) d here; behind = refl; linked_is = linked }
  main_data (phases.ReadingData wanted) p m is_status fifo access orb k a r none small filled s d =
      let linked = k.awaits.turn.linked in
      let own = k.awaits.good.own in
      record {
        slot_is = buffer_data p.ended own.cmd own.command (small linked) (filled linked) m.segments k.buffer (wanted - length m.payload) (length m.payload) (limit_of m.orb) (pow_pos (m.orb.max_payload + 2)) s (ap (λ (x : Access). data_slot (window_at x.offset)) (sym r) ∙ d);
        behind = refl;
        linked_is = linked;
      }
  main_data phases.Answering p m is_status fifo access orb k a r none small filled s d =
      let linked = k.told.turn.linked in
      let own = k.told.good.own in
      record {
        slot_is =
            buffer_data p.ended own.cmd own.command (small linked) (filled linked) m.segments k.told.buffer (length m.answer - m.written) m.written (limit_of m.orb) (pow_pos (m.orb.max_payload + 2)) s
            (write_data is_status fifo (chunk_of m m.written (length m.answer)).offset s none (ap (λ (x : Access). data_slot (window_at x.offset)) (sym r.0) ∙ d));
        behind = refl;
        linked_is = linked;
      }
  main_data phases.WritingStatus p m is_status fifo access orb k a r none small filled s d =
      absurd (no_start s (write_data is_status fifo 0 s none (ap (λ (x : Access). data_slot (window_at x.offset)) (sym r.0) ∙ d)))
  main_data phases.Fetching p m is_status fifo access orb k a r none small filled s d = kept_idle orb a
  main_data phases.ReadingNext p m is_status fifo access orb k a r none small filled s d = kept_idle orb a
  main_data phases.WritingLastStatus p m is_status fifo access orb k a r none small filled s d = kept_idle orb a
  main_data phases.Reset p m is_status fifo access orb k a r none small filled s d = kept_idle orb a
  main_data phases.Suspended p m is_status fifo access orb k a r none small filled s d = kept_idle orb a
  main_data phases.Dead p m is_status fifo access orb k a r none small filled s d = kept_idle orb a

-- ---- at a place
module _ (units ready : ℕ) (has : 0 < units) (start : List Disk) {past : List Moment} {lines : ℕ} (w : WorldState) (h : Holding units ready start past lines w) (q : Ground start (hist past w) w) (beside : IsTameOrFew (hist past w)) (placed : AllPlacedFor (hist past w) w) (opens : AreOpened (hist past w) w) where
  abbrev ms : List Moment
  ms = hist past w

  abbrev t : Terms
  t = terms ms

  abbrev T : Target
  T = over (target_at start ms)

  site : Site start past w
  site = site_at start past w q

  -- the FIFO of a live login of an initiator that injected none is in no slot
  pub fifo_data : (place : ℕ) → place < 8 → is_open_at w place ≡ true → IsCalm ms (initiator_in w place) → NoData (fifo_in (term_login T place))
  fifo_data place b is_open calm slot d =
      let x : IsOpened ms w place = opens place b (up_state _ (listing_up (machine_at w place).phase is_open)) in
      let tables : T.table ≡ w.target.logins = ap (λ (o : Office). o.table) (over_keeps (target_at start ms)) ∙ h.at.agrees.table in
      let there : term_login T place ≡ Some x.login = ap (λ (y : Table). place_at y.places place) tables ∙ x.is in
      let named : fifo_in (term_login T place) ≡ x.login.fifo = ap fifo_in there in
      let own : IsLoginFifo x.login.fifo = (placed (initiator_in w place) x.inside calm).1 place x.login x.is x.live refl in
      none_is slot (sym (ap data_slot (fifo_no_window x.login.fifo own)) ∙ (ap (λ at. data_slot (window_at at)) (sym named) ∙ d))

  module _ (serial place : ℕ) (b : place < 8) (calm : IsCalm ms (initiator_in w place)) (side : Which) (mine : ℕ) (waits : serial_of side (agent_at T place) ≡ Some mine) (slot : ℕ) (x : HasAhead start ms place slot) where
    wait : Waiting units ready has start w h site place b side mine
    wait = agent_waiting units ready has start w h site place b side mine waits

    abbrev j : ℕ
    j = initiator_in w place

    abbrev m : Machine
    m = machine_at w place

    abbrev o : IsOpenAt ms w place
    o = (q.lists beside).listed place b wait.is_open calm

    abbrev goes : GoesAlong ms j o.n m
    goes = q.along.all place b wait.is_open calm o.n o.list

    abbrev ended : ℕ
    ended = ends ms j o.n

    alike : Alike (agent_at T place).untold (agent_at T place).machine m
    alike = (site.agents.are.each place b).machine

    kept : m.ahead ≡ aheads.Kept x.orb
    kept = sym (alike.ahead wait.is_open) ∙ x.kept

    next_is : m.orb.next ≡ At x.offset
    next_is = ap (λ (y : CommandOrb). y.next) (sym (alike.orb wait.is_open)) ∙ x.next

    ahead_there : prepared_in ms j slot ≡ Some (named_orb o.n (number_behind m.phase ended))
    ahead_there = ahead_name units ready has start w h site (q.lists beside) q.along place b wait.is_open calm x.orb kept x.offset next_is slot x.stands

    stored : (k : ℕ) → ended ≤ k → k < (list ms j o.n).linked → IsPrepared ms j (slot_at ms j o.n k) o.n k
    stored k from linked = named_prepared units ready has start w h site place o.n k o.inside (o.named k from linked)

    -- what its main transaction asks for is not in that slot
    module _ (own : ℕ) (main : serial_of Main (agent_at T place) ≡ Some own) where
      asks : Waiting units ready has start w h site place b Main own
      asks = agent_waiting units ready has start w h site place b Main own main

      same_ended : goes.progress.ended ≡ ended
      same_ended = goes.is

      from_ended : ended ≤ goes.progress.ended
      from_ended = let e = same_ended in omega (arith, e)

      main_is : (s : ℕ) → data_slot (window_at asks.access.offset) ≡ Some s → IsPresent ms j o.n m.phase goes.progress.ended s
      main_is s d =
          main_data ms j o.n m.phase goes.progress m asks.status (fifo_in (term_login T place)) asks.access x.orb goes.along.main (subst (KnowsAhead (list ms j o.n) goes.progress m.phase m.orb.next) kept goes.along.ahead) asks.asks
          (fifo_data place b wait.is_open calm)
          (λ linked. (stored goes.progress.ended from_ended linked).small)
          (λ linked cmd command. let p = stored goes.progress.ended from_ended linked in site.filled j o.inside (slot_at ms j o.n goes.progress.ended) o.n goes.progress.ended cmd p.small p.there command) s d

      apart : data_slot (window_at asks.access.offset) ≡ Some slot → ⊥
      apart d =
          let y = main_is slot d in
          let here = (stored goes.progress.ended from_ended y.linked_is).there in
          let at : prepared_in ms j slot ≡ Some (named_orb o.n goes.progress.ended) = subst (λ s. prepared_in ms j s ≡ Some (named_orb o.n goes.progress.ended)) (sym y.slot_is) here in
          let behind : number_behind m.phase ended ≡ suc goes.progress.ended = ap (number_behind m.phase) (sym same_ended) ∙ y.behind in
          let both : named_orb o.n goes.progress.ended ≡ named_orb o.n (number_behind m.phase ended) = same_some (named_orb o.n goes.progress.ended) (named_orb o.n (number_behind m.phase ended)) (sym at ∙ ahead_there) in
          let number : goes.progress.ended ≡ number_behind m.phase ended = ap (λ (y : Orb). y.number) both in
          omega (arith, number, behind)

      main_elsewhere : AllElsewhere slot (moved_by (access_at t own) (payload_at t serial))
      main_elsewhere =
          subst (λ (a : Option Access). AllElsewhere slot (moved_by a (payload_at t serial))) (sym asks.is)
          (record { table = λ e. apart (ap data_slot e); buffer = λ e. absurd (apart (ap data_slot e)) }, tt)

    -- nor what is got in answer to an agent
    pick : (c : Bool) (xs : List Moved) → AllElsewhere slot xs → AllElsewhere slot (cond c xs [])
    pick true xs e = e
    pick false xs e = tt

    module _ (own other : ℕ) (closed : answered_at t serial ≡ Some own) where
      of_main : (which : Which) → purpose_of T own ≡ for_agent other which → AllElsewhere slot (cond (is_main_of (for_agent other which) place) (moved_by (access_at t own) (payload_at t serial)) [])
      of_main Ahead f = tt
      of_main Main f = by (other == place) refl
        where
          by : (c : Bool) → (other == place) ≡ c → AllElsewhere slot (cond c (moved_by (access_at t own) (payload_at t serial)) [])
          by false e = tt
          by true e =
              let at : other ≡ place = grind (arith, nat_tests, e) in
              main_elsewhere own (subst (λ p. serial_of Main (agent_at T p) ≡ Some own) at (site.asked.handed own other Main f).1)

      of_agent : (which : Which) → purpose_of T own ≡ for_agent other which → AllElsewhere slot (main_read start ms place serial)
      of_agent which f =
          pick (is_serial (receiver_in (t.sent serial)) 0) (main_moved t T place serial (answered_at t serial))
          (subst (λ (so : Option ℕ). AllElsewhere slot (main_moved t T place serial so)) (sym closed)
          (subst (λ (p : Purpose). AllElsewhere slot (cond (is_main_of p place) (moved_by (access_at t own) (payload_at t serial)) [])) (sym f) (of_main which f)))

      agent_elsewhere : (which : Which) → purpose_of T own ≡ for_agent other which → AllElsewhere slot (read_by t j serial (Some own))
      agent_elsewhere which f = subst (λ so. AllElsewhere slot (read_by t j serial so)) closed (by (are_own_gots units ready has start w h site (q.lists beside) q.along place b wait.is_open calm serial own other slot which closed f))
        where
          by : IsOwnOrOther start ms j place slot serial → AllElsewhere slot (read_by t j serial (answered_at t serial))
          by (inl e) = subst (AllElsewhere slot) (sym e) (of_agent which f)
          by (inr e) = e.1

    by_answer : (so : Option ℕ) → answered_at t serial ≡ so → IsElsewhereBut start ms j slot serial so → AllElsewhere slot (read_by t j serial so)
    by_answer None e but = tt
    by_answer (Some own) e but = by (purpose_of T own) refl but
      where
        by : (p : Purpose) → purpose_of T own ≡ p → by_purpose p (AllElsewhere slot (read_by t j serial (Some own))) → AllElsewhere slot (read_by t j serial (Some own))
        by (for_agent other which) f c = agent_elsewhere own other e which f
        by for_manager f c = c
        by for_nobody f c = c

    of_initiator : IsElsewhereBut start ms j slot serial (answered_at t serial) → AllElsewhere slot (read_by t j serial (answered_at t serial))
    of_initiator but = by_answer (answered_at t serial) refl but

  pub ahead_here : (serial : ℕ) → IsAheadElsewhere (injectors ms) start ms serial
  ahead_here serial place b i slot own a x but =
      let wait = agent_waiting units ready has start w h site place b a.side a.mine a.waits in
      let same : initiator_in w place ≡ i = same_node (initiator_in w place) i (sym wait.to ∙ a.to) in
      subst (λ k. AllElsewhere slot (read_by t k serial (answered_at t serial))) same
      (of_initiator serial place b (subst (IsCalm ms) (sym same) own) a.side a.mine a.waits slot x (subst (λ k. IsElsewhereBut start ms k slot serial (answered_at t serial)) (sym same) but))

-- ---- as a line begins
module _ (start : List Disk) (line : ℕ) (event : Event) (past : List Moment) where
  abbrev here : List Moment
  here = asked line event ∷ past

  twice : over (target_at start here) ≡ over (target_at start past)
  twice = over_twice (target_at start past)

  awaited_before : (i place : ℕ) → IsAwaited start here i place → IsAwaited start past i place
  awaited_before i place a = record {
    side = a.side;
    mine = a.mine;
    waits = subst (λ (x : Target). serial_of a.side (agent_at x place) ≡ Some a.mine) twice a.waits;
    to = ap (λ (f : ℕ → Option Sending). receiver_in (f a.mine)) (sym (opened_terms event (terms past)).sent) ∙ a.to;
  }

  pub ahead_before : (place slot : ℕ) → HasAhead start here place slot → HasAhead start past place slot
  ahead_before place slot x = record {
    orb = x.orb;
    kept = subst (λ (y : Target). (agent_at y place).machine.ahead ≡ aheads.Kept x.orb) twice x.kept;
    offset = x.offset;
    next = subst (λ (y : Target). (agent_at y place).machine.orb.next ≡ At x.offset) twice x.next;
    stands = x.stands;
  }

  but_before : (i slot serial : ℕ) (so : Option ℕ) → IsElsewhereBut start here i slot serial so → IsElsewhereBut start past i slot serial so
  but_before i slot serial None c = tt
  but_before i slot serial (Some own) c =
      subst (λ (y : Target). by_purpose (purpose_of y own) (AllElsewhere slot (read_by (terms past) i serial (Some own)))) twice
      (subst (λ (xs : List Moved). by_purpose (purpose_of (over (target_at start here)) own) (AllElsewhere slot xs)) (read_so start line event past i serial (Some own)) c)

  ahead_asked : (wild : ℕ → Bool) → ((serial : ℕ) → IsAheadElsewhere wild start past serial) → (serial : ℕ) → IsAheadElsewhere wild start here serial
  ahead_asked wild e serial place b i slot own a x but =
      subst (AllElsewhere slot) (sym (read_same start line event past i serial))
      (e serial place b i slot own (awaited_before i place a) (ahead_before place slot x)
      (but_before i slot serial (answered_at (terms past) serial) (subst (IsElsewhereBut start here i slot serial) (answered_same start line event past serial) but)))

-- of more initiators that injected packets
module _ (wild more : ℕ → Bool) (calm : (i : ℕ) → more i ≡ false → wild i ≡ false) (start : List Disk) where
  ahead_but : (past : List Moment) (serial : ℕ) → IsAheadElsewhere wild start past serial → IsAheadElsewhere more start past serial
  ahead_but past serial e place b i slot quiet = e place b i slot (calm i quiet)

  note_but : (note : Note) (past : List Moment) → AheadAsGot wild start (said note) past → AheadAsGot more start (said note) past
  note_but (notes.Got serial) past e = ahead_but past serial e
  note_but note past e = tt

  all_but : (past : List Moment) → EachMoment (AheadAsGot wild start) past → EachMoment (AheadAsGot more start) past
  all_but [] e = tt
  all_but (asked line event ∷ past) e = (tt, all_but past e.1)
  all_but (said note ∷ past) e = (note_but note past e.0, all_but past e.1)

-- ---- at each place of a run
record Kit (start : List Disk) (past : List Moment) (w : WorldState) : Type 0 where
  ground : Ground start past w
  placed : IsTameOrFew past → AllPlacedFor past w
  opens : AreOpened past w

abbrev AheadSo : List Disk → List Moment → WorldState → Type 0
AheadSo start past w = IsTameOrFew past → EachMoment (AheadAsGot (injectors past) start) past

module _ (short : ShortLaw) (lists : OpenListsLaw) where
  kit_everywhere : EveryPlace Kit
  kit_everywhere =
      let grounds = ground_everywhere lists in
      let placed = placed_beside short in
      record {
        after_lines = λ line run r has small size so_far. record {
          ground = grounds.after_lines line run r has small size so_far;
          placed = placed.after_lines line run r has small size so_far;
          opens = opens_law.after_lines line run r has small size;
        };
        between = λ line run r has small size next most told m so_far. record {
          ground = grounds.between line run r has small size next most told m so_far;
          placed = placed.between line run r has small size next most told m so_far;
          opens = opens_law.between line run r has small size next (more_deliveries most) (more_than_one most) told m;
        };
      }

  all_ahead : (units ready : ℕ) → 0 < units → (start : List Disk) → Keeps units ready start (Kit start) (AheadSo start)
  all_ahead units ready has start past s later t lines more g h h_now q q_now e beside =
      let before = hist past s.world in
      let now = hist later t.world in
      let then = goes_tame_or_few past s later t g beside in
      let grown = grown_by before now (goes_next past s later t g) in
      let calm : (i : ℕ) → injectors now i ≡ false → injectors before i ≡ false = λ i quiet. calm_before grown.new before i (subst (λ ms. IsCalm ms i) (sym grown.is) quiet) in
      got_turn (IsAheadElsewhere (injectors now) start) (λ line event past. ahead_asked start line event past (injectors now)) before now (goes_next past s later t g)
      (λ serial. ahead_but (injectors before) (injectors now) calm start before serial (ahead_here units ready has start s.world h q.ground then (q.placed then) q.opens serial)) (all_but (injectors before) (injectors now) calm start before (e then))

  ahead_as_got : EveryPlace AheadSo
  ahead_as_got = record {
    after_lines = λ line run r has small size so_far.
        at_lines Kit (AheadSo run.start.disks) kit_everywhere line run r.few has small size (all_ahead run.units (ready_logins run.initiators run.ready) has run.start.disks) (λ beside. (tt, (tt, tt))) r so_far;
    between = λ line run r has small size next most told m so_far.
        at_between Kit (AheadSo run.start.disks) kit_everywhere line run r.few has small size (all_ahead run.units (ready_logins run.initiators run.ready) has run.start.disks) (λ beside. (tt, (tt, tt))) r next most told m so_far;
  }

  pub ahead_as_got_law : AheadAsGotLaw
  ahead_as_got_law = record {
    after_lines = λ line run r has small size beside. ahead_as_got.after_lines line run r has small size (closing.before lists line run r has small size beside) beside;
    between = λ line run r has small size next most told m beside.
        ahead_as_got.between line run r has small size next most told m (closing.between lists line run r has small size next (more_deliveries most) (more_than_one most) told m beside) beside;
  }
