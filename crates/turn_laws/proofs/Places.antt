-- The places of a run between two turns, and what is known at each: as some of its lines ended, as a line begins, and between two deliveries of a line. At each the terms of
-- the history are the states of both ends.
use Rattle.std.proofs.Common.{arith, ◌≡◌, ◌∙◌, ap, refl, sym, subst, ℕ, ◌+◌, ◌^◌, ◌<◌, ◌≤◌, Bool, false, List, [], ◌∷◌, ◌++◌, map, length, Option, None}
use Rattle.bus_transactions.specs.May.{is_reset}
use Rattle.rbc_disk.specs.Disk.{Disk}
use Rattle.rbc_disk.specs.Runs.{Told}
use Rattle.sbp_initiator.specs.declared.state.InitiatorState.{InitiatorState}
use Rattle.sbp_journal.specs.Run.{Moment, asked, said}
use Rattle.sbp_journal.specs.declared.event.Event.{Event}
use Rattle.sbp_laws.specs.Hosts.{host_at}
use Rattle.sbp_laws.specs.Targets.{target_at}
use Rattle.sbp_world.specs.Agents.Agents.{AreAgentsAt}
use Rattle.sbp_world.specs.Agents.Enabled.{AreLive, AreTermsOf}
use Rattle.sbp_world.specs.Agents.Holders.{AreHeldAt}
use Rattle.sbp_world.specs.Agents.Units.{AreUnitsAt}
use Rattle.sbp_world.specs.Histories.{history_of, moments_behind}
use Rattle.sbp_world.specs.Hosts.Calling.{IsCalled}
use Rattle.sbp_world.specs.Hosts.Core.{host_core, own_core}
use Rattle.sbp_world.specs.Hosts.Reads.{IsReadBy}
use Rattle.sbp_world.specs.Hosts.Runs.{IsRun, more_deliveries}
use Rattle.sbp_world.specs.Hosts.Worlds.{IsHost}
use Rattle.sbp_world.specs.Lists.Contents.{AreAsked}
use Rattle.sbp_world.specs.Lists.FewLogins.{IsCalmBeside}
use Rattle.sbp_world.specs.Lists.Taken.{AreTaken}
use Rattle.sbp_world.specs.Making.{ready_logins}
use Rattle.sbp_world.specs.Runs.{AreEntries, Entry, Run, after, beginning}
use Rattle.sbp_world.specs.Sessions.Holding.{HoldsLogin}
use Rattle.sbp_world.specs.Sessions.Placed.{ArePlaces}
use Rattle.sbp_world.specs.Settling.{MayAll, after_all}
use Rattle.sbp_world.specs.Wire.Lines.{AreLines}
use Rattle.sbp_world.specs.Worlds.{Scene, WorldState, begun, initiator_at, without_notes}
use Rattle.sbp_world.proofs.Agents.CrewRuns.{agents_between_law, agents_run_law}
use Rattle.sbp_world.proofs.Agents.Enabling.{enabled_between_law, enabled_law}
use Rattle.sbp_world.proofs.Agents.Holders.{are_held, holders_between_law, holders_law, seats_after}
use Rattle.sbp_world.proofs.Agents.Management.Holding.{Holding}
use Rattle.sbp_world.proofs.Agents.Management.Lines.{all_heard, opens}
use Rattle.sbp_world.proofs.Agents.Management.Runs.{no_repeats, not_reset}
use Rattle.sbp_world.proofs.Agents.Management.Still.{hist}
use Rattle.sbp_world.proofs.Agents.Registering.{enabled_terms_between_law, enabled_terms_law}
use Rattle.sbp_world.proofs.Agents.Seating.{opened as seats_opened}
use Rattle.sbp_world.proofs.Agents.Units.{units_between_law, units_law}
use Rattle.sbp_world.proofs.Hosts.ByteRuns.{bytes_carried, bytes_of_runs}
use Rattle.sbp_world.proofs.Hosts.Calling.{IsOwn, own_carried, own_first}
use Rattle.sbp_world.proofs.Hosts.Carried.{between_runs, of_runs}
use Rattle.sbp_world.proofs.Hosts.Fair.{fair_of_runs}
use Rattle.sbp_world.proofs.Hosts.Hosted.{host_law}
use Rattle.sbp_world.proofs.Hosts.LoginCounts.{logins_few}
use Rattle.sbp_world.proofs.Hosts.MemoryReads.{memory_law, memory_read}
use Rattle.sbp_world.proofs.Hosts.OrbRuns.{Orbs, orbs_between, orbs_of_runs}
use Rattle.sbp_world.proofs.Hosts.Runs.{count_after, count_between, run_law, are_told}
use Rattle.sbp_world.proofs.Hosts.StepLaws.{step_law}
use Rattle.sbp_laws.specs.Turns.{EachMoment}
use Rattle.sbp_world.proofs.Lists.Beside.{beside_before, done_based}
use Rattle.sbp_world.proofs.Lists.Clauses.{open_lists_law}
use Rattle.sbp_world.proofs.Lists.ContentAsked.{contents_law}
use Rattle.sbp_world.proofs.Lists.Courses.{more_than_one}
use Rattle.sbp_world.proofs.Lists.DataHeard.{AreOwnFor}
use Rattle.sbp_world.proofs.Lists.DataLaws.{dry_by}
use Rattle.sbp_world.proofs.Lists.LiveLogins.{logins_known}
use Rattle.sbp_world.proofs.Lists.RomHeld.{rom_law}
use Rattle.sbp_world.proofs.Pointers.Ages.{moment_sent}
use Rattle.sbp_world.specs.Lists.Placings.{BasedAt}
use Rattle.sbp_world.specs.Lists.Roms.{AreManaged}
use Rattle.turn_laws.proofs.RegisterWrites.{RegistersAt, registers_after, registers_between}
use Rattle.sbp_world.proofs.Lists.ListsProved.{closing}
use Rattle.sbp_world.proofs.Lists.OpenProved.{taken_lists_law}
use Rattle.sbp_world.proofs.Lists.JoinLaws.{moments_same, lines_same}
use Rattle.sbp_world.proofs.Lists.ShortLines.{short_law}
use Rattle.turn_laws.proofs.AnswerPlaces.{AreToBuffers, buffers_after, buffers_begun, buffers_between}
use Rattle.turn_laws.proofs.OperationAsked.{asked_opens}
use Rattle.turn_laws.proofs.ReadsCarried.{Paired, asked_paired, paired_between, paired_of_runs}
use Rattle.sbp_world.proofs.Sessions.HoldingRuns.{holding_law}
use Rattle.sbp_world.proofs.Sessions.PlaceRuns.{are_places, placed_law}

-- an initiator is what a list of its calls makes of a new one
pub record HasCalls (i : ℕ) (s : InitiatorState) : Type 0 where
  pub ready : Bool
  pub called : IsCalled ready i s

-- and its reads of AGENT_STATE are those that the terms have
pub record HasPairs (past : List Moment) (i : ℕ) (s : InitiatorState) : Type 0 where
  pub ready : Bool
  pub paired : Paired ready past i s

-- What is known at a place: its history goes on from `past` by the notes of the world.
pub record Place (units ready : ℕ) (start : List Disk) (past : List Moment) (s : Scene) : Type 0 where
  pub lines : ℕ
  -- that are few
  pub short : lines + 1 < 2 ^ 32
  -- a medium for each unit
  pub size : length start ≡ units
  -- the wire, the nodes, and the management of the target
  pub holds : Holding units ready start past lines s.world
  -- each initiator is what its calls made of it
  pub calls : (i : ℕ) → i < length s.world.initiators → HasCalls i (initiator_at s.world i)
  -- the reads of AGENT_STATE that each initiator has under way
  pub reads : (i : ℕ) → i < length s.world.initiators → HasPairs (hist past s.world) i (initiator_at s.world i)
  -- the target's agents, who has its logins, its units and its registers
  pub agents : AreAgentsAt start (hist past s.world) s.world
  pub held : AreHeldAt start (hist past s.world) s.world
  -- the list that each agent has, if not in RESET
  pub taken : AreTaken start (hist past s.world) s.world
  -- what each packet of the management operation asks for
  pub contents : AreAsked start (hist past s.world)
  pub units_are : AreUnitsAt start (hist past s.world) s.world.target s.media.disks
  pub enabled : AreTermsOf (target_at start (hist past s.world)).enabled s.world.target
  pub live : AreLive s.world.target
  -- each initiator's lists and slots, its session, and how many login numbers it used
  pub hosts : (i : ℕ) → i < length s.world.initiators → IsHost (hist past s.world) i (initiator_at s.world i)
  pub cores : (i : ℕ) → i < length s.world.initiators → host_core (host_at (hist past s.world) i) ≡ own_core (initiator_at s.world i)
  pub logins : (i : ℕ) → i < length s.world.initiators → (initiator_at s.world i).counts.logins ≤ 2 ^ 32
  -- its login and its response buffers
  pub holding : (i : ℕ) → i < length s.world.initiators → HoldsLogin (hist past s.world) i (initiator_at s.world i)
  -- what its memory gives and refuses, and the ORBs in its places of management
  pub memory : (i : ℕ) → i < length s.world.initiators → IsReadBy (hist past s.world) i (initiator_at s.world i)
  pub placed : (i : ℕ) → i < length s.world.initiators → ArePlaces (hist past s.world) i (initiator_at s.world i)
  -- the FIFOs of its live logins, where it injected no packets
  pub owned : (i : ℕ) → i < length s.world.initiators → IsCalmBeside (hist past s.world) i → AreOwnFor s.world i
  -- where it wrote, and, where it injected no packets, that each login that it was done with was granted an agent of a place
  pub managed : (i : ℕ) → i < length s.world.initiators → AreManaged (hist past s.world) s.world i
  pub registers : (i : ℕ) → i < length s.world.initiators → EachMoment (RegistersAt i) (hist past s.world)
  pub based : (i : ℕ) → i < length s.world.initiators → IsCalmBeside (hist past s.world) i → EachMoment (BasedAt i) (hist past s.world)
  -- where its answers are written, where it injected none
  pub answers : AreToBuffers start (hist past s.world) s.world

-- an initiator uses one login number at most for each of its actions, and so one for each line
few_logins : (ready : Bool) (past : List Moment) (i lines : ℕ) (s : InitiatorState) → Orbs ready past i s → s.counts.acts ≤ lines → lines + 1 ≤ 2 ^ 32 → s.counts.logins ≤ 2 ^ 32
few_logins ready past i lines s h acts short =
    let few : s.counts.logins ≤ s.counts.acts + 1 = subst (λ (x : InitiatorState). x.counts.logins ≤ x.counts.acts + 1) h.is (logins_few i ready h.calls) in omega (arith, few, acts, short)

module _ (line : ℕ) (run : Run) (few : run.initiators ≤ 4) (has : 0 < run.units) (small : run.units ≤ 4) (size : length run.start.disks ≡ run.units) where
  abbrev logins : ℕ
  logins = ready_logins run.initiators run.ready

  abbrev start : List Disk
  start = run.start.disks

  abbrev pub PlaceOf : List Moment → Scene → Type 0
  PlaceOf past s = Place run.units logins start past s

  abbrev pub Held : List Moment → ℕ → WorldState → Type 0
  Held past lines w = Holding run.units logins start past lines w

  -- behind some of its lines
  module _ (entries : List Entry) (short : length entries + 2 < 2 ^ 32) (every : AreEntries (beginning run) entries) (fit : AreLines run entries) (past : List Moment) (h : Held past (length entries) (after (beginning run) entries).world) (is : hist past (after (beginning run) entries).world ≡ moments_behind line run entries) where
    abbrev here : Scene
    here = after (beginning run) entries

    abbrev front : Run
    front = record run { entries = entries }

    is_run : IsRun front
    is_run = record { few = few; short = short; entries = every; lines = lines_same run entries entries fit }

    same : history_of line front ≡ hist past here.world
    same = moments_same line run entries entries ∙ sym is

    -- an initiator, by its calls
    abbrev Owned : List Moment → ℕ → InitiatorState → Type 0
    Owned ms i state = IsOwn run.ready i state

    calls_of : (i : ℕ) (state : InitiatorState) → IsOwn run.ready i state → HasCalls i state
    calls_of i state own = record { ready = run.ready; called = own.called }

    inside : (i : ℕ) → i < length here.world.initiators → i < run.initiators
    inside i b = subst (λ n. i < n) (count_after front entries) b

    -- as they ended
    pub ended_place : PlaceOf past here
    ended_place = record {
      lines = length entries;
      short = omega (arith, short);
      size = size;
      holds = h;
      calls = λ i b. calls_of i (initiator_at here.world i) (of_runs Owned (own_carried run.ready) line front (λ before few short every fit j c. tt) (λ j c. own_first run.ready j) is_run i (inside i b));
      reads = λ i b. subst (λ ms. HasPairs ms i (initiator_at here.world i)) same (record { ready = run.ready; paired = paired_of_runs line front is_run i (inside i b) });
      agents = subst (λ ms. AreAgentsAt start ms here.world) same (agents_run_law line front few has small size short every (lines_same run entries entries fit));
      held = subst (λ ms. AreHeldAt start ms here.world) same (holders_law line front few has small size short every (lines_same run entries entries fit));
      taken = subst (λ ms. AreTaken start ms here.world) same (taken_lists_law.after_lines line front is_run has small size);
      contents = subst (AreAsked start) same (contents_law.after_lines line front is_run has small size);
      units_are = subst (λ ms. AreUnitsAt start ms here.world.target here.media.disks) same (units_law line front few has small size short every (lines_same run entries entries fit));
      enabled = subst (λ ms. AreTermsOf (target_at start ms).enabled here.world.target) same (enabled_terms_law line front few has small size short every (lines_same run entries entries fit));
      live = enabled_law front few has small size short every (lines_same run entries entries fit);
      hosts = λ i b. subst (λ ms. IsHost ms i (initiator_at here.world i)) same (run_law.rows line front is_run i (inside i b));
      cores = λ i b. subst (λ ms. host_core (host_at ms i) ≡ own_core (initiator_at here.world i)) same (host_law.core line front is_run i (inside i b));
      logins = λ i b. few_logins run.ready (history_of line front) i (length entries) (initiator_at here.world i) (orbs_of_runs line front is_run i (inside i b)) (h.sound.nodes.own.counts i b) (omega (arith, short));
      holding = λ i b. subst (λ ms. HoldsLogin ms i (initiator_at here.world i)) same (holding_law.after_lines line front is_run i (inside i b));
      memory = λ i b. subst (λ ms. IsReadBy ms i (initiator_at here.world i)) same (memory_law.reads line front is_run i (inside i b));
      placed = λ i b. subst (λ ms. ArePlaces ms i (initiator_at here.world i)) same (placed_law.after_lines line front is_run i (inside i b));
      owned = λ i b c.
          let d = subst (λ ms. IsCalmBeside ms i) (sym same) c in
          ((dry_by short_law).after_lines line front is_run has small size (closing.before open_lists_law line front is_run has small size d.1) d.1 i b d.0).0;
      managed = λ i b. subst (λ ms. AreManaged ms here.world i) same (rom_law.after_lines line front is_run has small size i (inside i b));
      registers = λ i b. subst (EachMoment (RegistersAt i)) same (registers_after line front is_run i (inside i b));
      based = λ i b c.
          let d = subst (λ ms. IsCalmBeside ms i) (sym same) c in
          subst (EachMoment (BasedAt i)) same
          (done_based start (length here.world.initiators) (history_of line front) i b ((logins_known short_law).after_lines line front is_run has small size (closing.before open_lists_law line front is_run has small size d.1) i b d));
      answers = subst (λ ms. AreToBuffers start ms here.world) same (buffers_after line front is_run has small size);
    }

    -- between deliveries of a line that follows
    module _ (next : ℕ) (most : Option ℕ) where
      abbrev now : List Moment
      now = asked next (more_deliveries most) ∷ hist past here.world

      abbrev at : List (Option Told) → Scene
      at told = after_all told (begun here)

      opened_holds : Held now (length entries + 1) (begun here).world
      opened_holds = opens run.units logins has start next (more_deliveries most) here.world (not_reset (more_deliveries most) (more_than_one most)) h

      pub between_holds : (told : List (Option Told)) → MayAll told (begun here) → Held now (length entries + 1) (at told).world
      between_holds told m =
          all_heard run.units logins has start told (are_told told here m) (begun here) opened_holds (no_repeats (more_deliveries most) (hist past here.world) next (more_than_one most))

      module _ (told : List (Option Told)) (m : MayAll told (begun here)) where
        abbrev w : WorldState
        w = (at told).world

        abbrev Behind : (List Moment → Type 0) → Type 0
        Behind P = P (map said w.fresh ++ asked next (more_deliveries most) ∷ history_of line front) → P (hist now w)

        moved : (P : List Moment → Type 0) → Behind P
        moved P x = subst (λ ms. P (map said w.fresh ++ asked next (more_deliveries most) ∷ ms)) same x

        inside_there : (i : ℕ) → i < length w.initiators → i < run.initiators
        inside_there i b = inside i (subst (λ n. i < n) (count_between told here) b)

        pub between_place : PlaceOf now (at told)
        between_place =
            let d = more_than_one most in
            let f = lines_same run entries entries fit in
            record {
              lines = length entries + 1;
              short = omega (arith, short);
              size = size;
              holds = between_holds told m;
              calls = λ i b. calls_of i (initiator_at w i) (between_runs Owned (own_carried run.ready) line front (λ before few short every fit j c. tt) (λ j c. own_first run.ready j) is_run next most told m i (inside_there i b));
              reads = λ i b. moved (λ ms. HasPairs ms i (initiator_at w i)) (record { ready = run.ready; paired = paired_between line front is_run next most told m i (inside_there i b) });
              agents = moved (λ ms. AreAgentsAt start ms w) (agents_between_law line front few has small size short every f next (more_deliveries most) d told m);
              held = moved (λ ms. AreHeldAt start ms w) (holders_between_law line front few has small size short every f next (more_deliveries most) d told m);
              taken = moved (λ ms. AreTaken start ms w) (taken_lists_law.between line front is_run has small size next (more_deliveries most) d told m);
              contents = moved (AreAsked start) (contents_law.between line front is_run has small size next (more_deliveries most) d told m);
              units_are = moved (λ ms. AreUnitsAt start ms w.target (at told).media.disks) (units_between_law line front few has small size short every f next (more_deliveries most) d told m);
              enabled = moved (λ ms. AreTermsOf (target_at start ms).enabled w.target) (enabled_terms_between_law line front few has small size short every f next (more_deliveries most) d told m);
              live = enabled_between_law front few has small size short every f next (more_deliveries most) d told m;
              hosts = λ i b. moved (λ ms. IsHost ms i (initiator_at w i)) (run_law.between line front is_run next most told m i (inside_there i b));
              cores = λ i b. moved (λ ms. host_core (host_at ms i) ≡ own_core (initiator_at w i)) (host_law.between line front is_run next most told m i (inside_there i b));
              logins = λ i b. few_logins run.ready _ i (length entries + 1) (initiator_at w i) (orbs_between line front is_run next most told m i (inside_there i b)) ((between_holds told m).sound.nodes.own.counts i b) (omega (arith, short));
              holding = λ i b. moved (λ ms. HoldsLogin ms i (initiator_at w i)) (holding_law.between line front is_run next most told m i (inside_there i b));
              memory = λ i b. moved (λ ms. IsReadBy ms i (initiator_at w i)) (memory_law.between line front is_run next most told m i (inside_there i b));
              placed = λ i b. moved (λ ms. ArePlaces ms i (initiator_at w i)) (placed_law.between line front is_run next most told m i (inside_there i b));
              owned = λ i b. moved (λ ms. IsCalmBeside ms i → AreOwnFor w i) (λ c.
                  ((dry_by short_law).between line front is_run has small size next most told m (closing.between open_lists_law line front is_run has small size next (more_deliveries most) d told m c.1) c.1 i b c.0).0);
              managed = λ i b. moved (λ ms. AreManaged ms w i) (rom_law.between line front is_run has small size next most told m i (inside_there i b));
              registers = λ i b. moved (EachMoment (RegistersAt i)) (registers_between line front is_run next most told m i (inside_there i b));
              based = λ i b. moved (λ ms. IsCalmBeside ms i → EachMoment (BasedAt i) ms) (λ c.
                  done_based start (length w.initiators) _ i b ((logins_known short_law).between line front is_run has small size next most told m (closing.between open_lists_law line front is_run has small size next (more_deliveries most) d told m c.1) i b c));
              answers = moved (λ ms. AreToBuffers start ms w) (buffers_between line front is_run has small size next most told m);
            }

    -- as a line begins in which a node is called
    module _ (next : ℕ) (event : Event) (e : is_reset event ≡ false) where
      begun_memory : (i : ℕ) → i < run.initiators → IsReadBy (asked next event ∷ history_of line front) i (initiator_at here.world i)
      begun_memory i b =
          memory_read run.ready (asked next event ∷ history_of line front) i (initiator_at here.world i)
          ((bytes_carried run.ready).asked next event (history_of line front) i (initiator_at here.world i) (bytes_of_runs line front is_run i b))
          (fair_of_runs line front is_run i b).none

      pub begun_place : PlaceOf (asked next event ∷ hist past here.world) (begun here)
      begun_place =
          let settling = between_place next None [] tt in
          let begins = opens run.units logins has start next event here.world e h in
          let p = ended_place in
          record {
            lines = length entries + 1;
            short = omega (arith, short);
            size = size;
            holds = begins;
            calls = λ i b. p.calls i b;
            reads = λ i b. (let k = p.reads i b in record { ready = k.ready; paired = asked_paired k.ready next event (hist past here.world) i (initiator_at here.world i) k.paired });
            agents = record { requests = settling.agents.requests; are = settling.agents.are; known = settling.agents.known };
            held = are_held run.units logins has start (without_notes here.world) begins (seats_opened run.units logins has start here.world (seats_after line run entries few has small size short every fit));
            taken = λ place b e. p.taken place b e;
            contents = asked_opens start next event (hist past here.world) p.contents;
            units_are = record { count = settling.units_are.count; each = settling.units_are.each };
            enabled = settling.enabled;
            live = settling.live;
            hosts = λ i b. record { number = (p.hosts i b).number; rows = step_law.asked next event (hist past here.world) i (initiator_at here.world i).lists.slots (p.hosts i b).rows; pin = (p.hosts i b).pin };
            cores = λ i b. p.cores i b;
            logins = λ i b. p.logins i b;
            holding = λ i b. (let k = p.holding i b in record { login = k.login; responses = k.responses });
            memory = λ i b. subst (λ ms. IsReadBy (asked next event ∷ ms) i (initiator_at here.world i)) same (begun_memory i (inside i b));
            placed = λ i b. are_places (asked next event ∷ hist past here.world) i (initiator_at here.world i) (λ place c. (p.placed i b).holds place c);
            owned = λ i b c. (let own = p.owned i b (beside_before (asked next event ∷ []) (hist past here.world) i c) in λ place login e live to. own place login e live to);
            managed = λ i b.
                let m = p.managed i b in
                record { known = m.known; writes = λ serial packet action access sent. m.writes serial packet action access (sym (ap (λ f. f serial) (moment_sent (asked next event) (hist past here.world) refl)) ∙ sent) };
            registers = λ i b. (tt, p.registers i b);
            based = λ i b c. (tt, p.based i b (beside_before (asked next event ∷ []) (hist past here.world) i c));
            answers = buffers_begun start (hist past here.world) next event here.world p.answers;
          }
