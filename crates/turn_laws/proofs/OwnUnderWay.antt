-- A request of an initiator that is under way, at each place: whether it is of the operation under way, what it reads or writes, and what is told as it ends.
use Rattle.std.proofs.Common.{[], arith, ◌<◌, ◌∙◌, ◌∷◌, ◌≡◌, ◌==◌, ◌&&◌, ◌||◌, Bool, List, None, Option, Some, ap, cond, false, length, refl, subst, suc, sym, true, ℕ}
use Rattle.std.proofs.lemmas.Bool.Decides.{nat_tests}
use Rattle.std.proofs.lemmas.Option.{same_Some}
use Rattle.bus_transactions.specs.Reached.{IsAwaited}
use Rattle.bus_transactions.specs.Wire.{transaction}
use Rattle.label_table.specs.Layer.{Layer}
use Rattle.label_table.specs.Peers.{purpose_for}
use Rattle.orb_layout.specs.Replies.{Answer, Refused}
use Rattle.rbc_disk.specs.Disk.{Disk}
use Rattle.sbp_initiator.specs.Effects.{ended_for, ended_step}
use Rattle.sbp_initiator.specs.Histories.Ends.{is_managed}
use Rattle.sbp_initiator.specs.Histories.Marks.{has_read}
use Rattle.sbp_initiator.specs.Receiving.{called}
use Rattle.sbp_initiator.specs.States.{is_own}
use Rattle.sbp_initiator.specs.declared.purpose.Ending.{Ending}
use Rattle.sbp_initiator.specs.declared.purpose.Purpose.{Purpose}
use Rattle.sbp_initiator.specs.declared.purpose.Purpose.TheVariants as purposes
use Rattle.sbp_initiator.specs.declared.purpose.Running.{Running}
use Rattle.sbp_initiator.specs.declared.state.InitiatorState.{InitiatorState}
use Rattle.sbp_initiator.proofs.Histories.Effects.{Fits}
use Rattle.sbp_journal.specs.Addresses.{Access}
use Rattle.sbp_journal.specs.Outgoings.{empty_outbox}
use Rattle.sbp_journal.specs.Run.{Moment}
use Rattle.sbp_journal.specs.Transactions.{Kind, Transaction, locking, reading_block, reading_quadlet, writing}
use Rattle.sbp_journal.specs.Wire.{Terms, terms, waits}
use Rattle.sbp_journal.specs.declared.operation.Operation.{Operation}
use Rattle.sbp_journal.specs.declared.operation.Operation.TheVariants as operations
use Rattle.sbp_laws.specs.Hosts.{Host, StateRead, Underway, host_at, is_latest, is_management, is_present, is_rom, is_stuck}
use Rattle.sbp_laws.specs.Lists.{present_list}
use Rattle.sbp_laws.specs.OnceLaw.{is_write_in}
use Rattle.sbp_laws.specs.Operations.{is_management_write, management_offset, reply_notes}
use Rattle.sbp_laws.specs.Packets.{access_at, access_in, packet_in}
use Rattle.sbp_session.specs.Seats.{is_stuck_seat}
use Rattle.sbp_session.specs.declared.seat.Seat.{Seat}
use Rattle.sbp_session.specs.declared.seat.Seat.TheVariants as seats
use Rattle.sbp_world.proofs.Agents.Management.Still.{hist}
use Rattle.sbp_world.proofs.Common.{equal, itself, untrue}
use Rattle.sbp_world.proofs.Hosts.Lives.{At}
use Rattle.sbp_world.proofs.Hosts.PointerNotes.{Fit}
use Rattle.sbp_world.proofs.Pointers.Ages.{serial_is}
use Rattle.sbp_world.proofs.Wire.Starts.{laws_of}
use Rattle.sbp_world.specs.Hosts.Core.{Core, session_in, work_in, work_of}
use Rattle.sbp_world.specs.Pointers.Moments.{IsResetting, asked_in}
use Rattle.sbp_world.specs.Worlds.{Scene, initiator_at}
use Rattle.sbp_world.specs.Lists.FewLogins.{IsCalmBeside}
use Rattle.turn_laws.proofs.AimedWrites.{aims}
use Rattle.turn_laws.proofs.HostRoms.{Rom}
use Rattle.turn_laws.proofs.KnownRuns.{Known}
use Rattle.turn_laws.proofs.MarkAnswers.{counts_same}
use Rattle.turn_laws.proofs.OwnAgentReads.{IsListed, here as here_listed, later, state_due}
use Rattle.turn_laws.proofs.OwnAnswers.{IsRead, write_answer}
use Rattle.turn_laws.proofs.OwnCalls.{fits_of, lives_of}
use Rattle.turn_laws.proofs.OwnEnds.{Says}
use Rattle.turn_laws.proofs.OwnFacts.{operation_same}
use Rattle.turn_laws.proofs.OwnRoms.{AreApart}
use Rattle.turn_laws.proofs.OwnTurns as turns
use Rattle.turn_laws.proofs.OwnWrites.{IsWrite, Mine, Under, doorbell_due, enable_due, management_due, mine, others, pointer_due, reset_due}
use Rattle.turn_laws.proofs.Places.{HasCalls, Place}
use Rattle.turn_laws.proofs.ReadPairs.{AreZipped}
use Rattle.turn_laws.proofs.ReadsUnderWay.{AreTimely, IsPair, one_transaction}
use Rattle.turn_laws.proofs.RequestFirsts.{AreTied, Tied, is_managing, is_of}
use Rattle.turn_laws.proofs.RequestKinds.{bytes_kind, kind_for, kind_if, kind_of}
use Rattle.turn_laws.proofs.RomEnds.{is_plain}
use Rattle.turn_laws.proofs.RomKnown as known
use Rattle.turn_laws.proofs.RomKnown.{KnownOf, rom_operation, word_is}
use Rattle.turn_laws.proofs.RomTies.{IsFirst, RomOf}
use Rattle.turn_laws.specs.Operations.{is_managed as is_managed_action}

-- ---- what a request reads or writes, by its kind
kind_reads : (access : Option Access) → kind_of access ≡ Some reading_quadlet → is_write_in access ≡ false
kind_reads None e = refl
kind_reads (Some access) e = by access.is_lock access.is_write access.is_block e
  where
    by : (l w b : Bool) → Some (kind_if l w b) ≡ Some reading_quadlet → w ≡ false
    by l false b e = refl
    by true true b e = absurd (let no : Some locking ≡ Some reading_quadlet = e in cc)
    by false true b e = absurd (let no : Some writing ≡ Some reading_quadlet = e in cc)

kind_writes : (access : Option Access) → kind_of access ≡ Some writing → is_write_in access ≡ true
kind_writes None e = absurd (let no : None ≡ Some writing = e in cc)
kind_writes (Some access) e = by access.is_lock access.is_write access.is_block e
  where
    by : (l w b : Bool) → Some (kind_if l w b) ≡ Some writing → w ≡ true
    by l true b e = refl
    by true false b e = absurd (let no : Some locking ≡ Some writing = e in cc)
    by false false true e = absurd (let no : Some reading_block ≡ Some writing = e in cc)
    by false false false e = absurd (let no : Some reading_quadlet ≡ Some writing = e in cc)

pub rom_apart : (purpose : Option Purpose) (act : ℕ) → purpose ≡ Some (purposes.Rom act) → (other : ℕ) (list : Option ℕ) → purpose ≡ Some (purposes.State other list) → ⊥
rom_apart purpose act rom_is other list g = (let no : Some (purposes.Rom act) ≡ Some (purposes.State other list) = sym rom_is ∙ g in cc)

-- the operation of an action that fits a request is no ROM
fits_no_rom : (its : Purpose) (operation : Option Running) → Fits its operation → (r : Running) → operation ≡ Some r → r.operation ≡ operations.Rom → is_of its r.act ≡ false
fits_no_rom (purposes.AgentReset act) operation fits r f g = by (r.act == act) refl
  where
    by : (b : Bool) → (r.act == act) ≡ b → (r.act == act) ≡ false
    by false e = e
    by true e = absurd (let no : operations.Rom ≡ operations.AgentReset = sym g ∙ fits.same r f (equal r.act act e) in cc)
fits_no_rom (purposes.Enable act) operation fits r f g = by (r.act == act) refl
  where
    by : (b : Bool) → (r.act == act) ≡ b → (r.act == act) ≡ false
    by false e = e
    by true e = absurd (let no : operations.Rom ≡ operations.Enable = sym g ∙ fits.same r f (equal r.act act e) in cc)
fits_no_rom (purposes.Management act) operation fits r f g = by (r.act == act) refl
  where
    by : (b : Bool) → (r.act == act) ≡ b → (r.act == act) ≡ false
    by false e = e
    by true e = untrue (sym (ap is_managed g) ∙ fits.managed r f (equal r.act act e))
fits_no_rom (purposes.Rom act) operation fits r f g = refl
fits_no_rom (purposes.State act list) operation fits r f g = refl
fits_no_rom (purposes.Pointer list) operation fits r f g = refl
fits_no_rom purposes.Doorbell operation fits r f g = refl

managed_same : (operation : Operation) → is_managed operation ≡ is_management operation
managed_same operations.Rom = refl
managed_same operations.Login = refl
managed_same operations.Query = refl
managed_same operations.Reconnect = refl
managed_same operations.Logout = refl
managed_same operations.Abort = refl
managed_same operations.AbortSet = refl
managed_same operations.UnitReset = refl
managed_same operations.TargetReset = refl
managed_same operations.AgentReset = refl
managed_same operations.State = refl
managed_same operations.Enable = refl

seat_sticks : (seat : Seat) → is_stuck (session_in seat) ≡ is_stuck_seat seat
seat_sticks (seats.Out out) = refl
seat_sticks (seats.Entering entering) = refl
seat_sticks (seats.Live live) = refl
seat_sticks (seats.Held response) = refl
seat_sticks (seats.Returning response) = refl
seat_sticks (seats.Leaving response) = refl
seat_sticks (seats.Stuck origin) = refl

works_none : {A : Type 0} (u : Underway) → work_of (Some u) ≡ work_in None → A
works_none u w = absurd (let no : work_of (Some u) ≡ None = w in cc)

none_works : {A : Type 0} (r : Running) → work_of None ≡ work_in (Some r) → A
none_works r w = absurd (let no : None ≡ work_in (Some r) = w in cc)

module _ (units ready : ℕ) (start : List Disk) (past : List Moment) (s : Scene) (here : Place units ready start past s) (k : Known start (hist past s.world) s) (i : ℕ) (inside : i < length s.world.initiators) where
  abbrev old : InitiatorState
  old = initiator_at s.world i

  abbrev ms : List Moment
  ms = hist past s.world

  abbrev wire : Terms
  wire = terms ms

  abbrev host : Host
  host = host_at ms i

  abbrev rom : RomOf ms i old
  rom = k.0.each i inside

  abbrev known_here : KnownOf ms i old
  known_here = k.1.each i inside

  pub quads_here : old.quads ≡ host.quads
  quads_here = sym (ap (λ (r : Rom). r.quads) known_here.is)

  fit : Fit ms
  fit = (let laws = laws_of past s.world here.holds.sound.stands in record { serials = laws.serials; sent = laws.sent })

  work_is : work_of host.operation ≡ work_in old.operation
  work_is = ap (λ (c : Core). c.work) (here.cores i inside)

  session_sticks : is_stuck host.session ≡ is_stuck_seat old.seat
  session_sticks = ap (λ (c : Core). is_stuck c.session) (here.cores i inside) ∙ seat_sticks old.seat

  calls : HasCalls i old
  calls = here.calls i inside

  requests : AreTied ms i old
  requests = (here.reads i inside).paired.tied fit

  -- none is for nobody
  pub never_nobodys : (number : ℕ) → At old.layer old.target number None → ⊥
  never_nobodys = requests.owned

  -- ---- a request under way
  module _ (number : ℕ) (purpose : Option Purpose) (there : At old.layer old.target number purpose) (kind : Kind) (own : ℕ) (held : wire.held (transaction old.layer.generation (suc i) 0 number) ≡ waits kind own) where
    awaits : IsAwaited wire (transaction old.layer.generation (suc i) 0 number) kind own
    awaits = known.waits_here units ready start past s here i inside rom number purpose there kind own held

    access_kind : kind_of (access_at wire own) ≡ Some kind
    access_kind = ap (λ x. kind_of (access_in (packet_in x))) awaits.sent ∙ bytes_kind awaits.packet.bytes number kind awaits.part

    -- the read of a quadlet is no write
    pub reads_it : kind ≡ reading_quadlet → is_write_in (access_at wire own) ≡ false
    reads_it quad = kind_reads (access_at wire own) (access_kind ∙ ap Some quad)

    -- and a write is one
    pub writes_it : kind ≡ writing → is_write_in (access_at wire own) ≡ true
    writes_it is = kind_writes (access_at wire own) (access_kind ∙ ap Some is)

    pub rom_quad : (act : ℕ) → purpose ≡ Some (purposes.Rom act) → kind ≡ reading_quadlet
    rom_quad act rom_is = known.awaits_quad units ready start past s here i inside rom number purpose there kind own held act rom_is

    -- for this, and no ROM
    module _ (its : Purpose) (plain : is_plain its ≡ true) (is : purpose ≡ Some its) where
      at_its : At old.layer old.target number (Some its)
      at_its = subst (λ x. At old.layer old.target number x) is there

      pub kind_is : kind ≡ kind_for its
      kind_is =
          let w = (here.reads i inside).paired.kinds fit number its plain at_its in
          let same : waits kind own ≡ waits (kind_for its) w.serial = sym held ∙ w.held in
          cc

      tied : Tied ms i old number its
      tied = requests.tied number its plain at_its

      own_is : tied.serial ≡ own
      own_is = serial_is kind tied.kind own tied.serial (sym held ∙ tied.held)

      fits : Fits its old.operation
      fits = fits_of calls.ready i old calls.called old.target number purpose there its is

      not_rom : (act : ℕ) → purpose ≡ Some (purposes.Rom act) → ⊥
      not_rom act g = untrue (sym (ap is_plain (same_Some its (purposes.Rom act) (sym is ∙ g))) ∙ plain)

      -- it is the latest request of the operation exactly where it is for that one's action
      module _ (u : Underway) (r : Running) (e : host.operation ≡ Some u) (f : old.operation ≡ Some r) where
        same_work : work_of (Some u) ≡ work_in (Some r)
        same_work = ap work_of (sym e) ∙ work_is ∙ ap work_in f

        latest_by : (b : Bool) → is_rom (Some u) ≡ b → (u.latest == own) ≡ is_of its r.act
        latest_by true g =
            ap (λ c. c && (u.latest == own)) (sym g) ∙ ap (λ o. is_rom o && is_latest o own) (sym e)
            ∙ known.awaits_other units ready start past s here i inside rom number purpose there kind own held not_rom host.operation refl
            ∙ sym (fits_no_rom its old.operation fits r f (rom_operation u r (operation_same u r same_work) g))
        latest_by false g =
            ap (λ n. n == own) (subst IsFirst e (rom.still r f (λ q. untrue (sym g ∙ word_is u r same_work q))))
            ∙ ap (λ n. u.first == n) (sym own_is) ∙ tied.first u e r f

        latest : (u.latest == own) ≡ is_of its r.act
        latest = latest_by (is_rom (Some u)) refl

      pub not_latest : ((act : ℕ) → is_of its act ≡ false) → is_latest host.operation own ≡ false
      not_latest none = by host.operation old.operation refl refl work_is
        where
          by : (u : Option Underway) (r : Option Running) → host.operation ≡ u → old.operation ≡ r → work_of u ≡ work_in r → is_latest u own ≡ false
          by None r e f w = refl
          by (Some u) (Some r) e f w = latest u r e f ∙ none r.act
          by (Some u) None e f w = works_none u w

      -- the operation under way is that of its action, or it is not its latest request
      under : (act : ℕ) → ((n : ℕ) → is_of its n ≡ (n == act)) → Under act own old.operation host
      under act acts = by host.operation old.operation refl refl work_is
        where
          by_act : (u : Underway) (r : Running) (e : host.operation ≡ Some u) (f : old.operation ≡ Some r) (b : Bool) → (r.act == act) ≡ b → Under act own old.operation host
          by_act u r e f true g =
              mine (record { running = r; underway = u; is = f; begun = g; at = e; latest = latest u r e f ∙ acts r.act ∙ g; same = operation_same u r (same_work u r e f) })
          by_act u r e f false g = others (ap (is_own act) f ∙ g) (ap (λ o. is_latest o own) e ∙ latest u r e f ∙ acts r.act ∙ g)

          by : (u : Option Underway) (r : Option Running) → host.operation ≡ u → old.operation ≡ r → work_of u ≡ work_in r → Under act own old.operation host
          by None None e f w = others (ap (is_own act) f) (ap (λ o. is_latest o own) e)
          by (Some u) (Some r) e f w = by_act u r e f (r.act == act) refl
          by (Some u) None e f w = works_none u w
          by None (Some r) e f w = none_works r w

    -- the AGENT_RESET under way
    module _ (act : ℕ) (is : purpose ≡ Some (purposes.AgentReset act)) where
      resetting : IsResetting ms i own
      resetting = ((here.reads i inside).paired.guarded.resets fit).first number act kind own (at_its (purposes.AgentReset act) refl is) held

      same_first : (x y : Underway) → Some x ≡ Some y → x.first ≡ y.first
      same_first x y e = cc

      reset_mine : Under act own old.operation host → Mine act own old.operation host
      reset_mine (mine m) = m
      reset_mine (others away l) = absurd (by host.operation old.operation refl refl work_is)
        where
          by : (u : Option Underway) (r : Option Running) → host.operation ≡ u → old.operation ≡ r → work_of u ≡ work_in r → ⊥
          by (Some u) (Some r) e f w =
              let t = tied (purposes.AgentReset act) refl is in
              let same : u.first ≡ t.serial = same_first u resetting.underway (sym e ∙ resetting.is) ∙ resetting.first ∙ sym (own_is (purposes.AgentReset act) refl is) in
              untrue (sym (ap (is_own act) (sym f) ∙ away) ∙ sym (t.first u e r f) ∙ ap (λ n. n == t.serial) same ∙ itself t.serial)
          by None r e f w = (let no : None ≡ Some resetting.underway = sym e ∙ resetting.is in cc)
          by (Some u) None e f w = works_none u w

      reset_is : (m : Mine act own old.operation host) → m.underway.operation ≡ operations.AgentReset
      reset_is m = m.same ∙ (fits (purposes.AgentReset act) refl is).same m.running m.is (equal m.running.act act m.begun)

    -- ---- and the reads of AGENT_STATE under way
    module _ (timely : AreTimely ms) where
      pairs : AreZipped (IsPair ms i old) host.reads old.states
      pairs = (here.reads i inside).paired.pairs fit timely

      -- of the same serial, it is this one
      purpose_is : (read : StateRead) (act : ℕ) (p : IsPair ms i old read act) → (read.serial == own) ≡ true → purpose ≡ Some (purposes.State act p.list)
      purpose_is read act p e =
          let u = transaction old.layer.generation (suc i) 0 p.number in
          let v = transaction old.layer.generation (suc i) 0 number in
          let same : u ≡ v = one_transaction ms fit.serials u v p.kind kind own (p.held ∙ ap (waits p.kind) (equal read.serial own e)) held in
          let label : p.number ≡ number = ap (λ (x : Transaction). x.label) same in
          sym there.is_for ∙ ap (purpose_for old.layer.peers old.target) (sym label) ∙ p.at.is_for

      module _ (other : (act : ℕ) (list : Option ℕ) → purpose ≡ Some (purposes.State act list) → ⊥) where
        pair_apart : (read : StateRead) (act : ℕ) → IsPair ms i old read act → (b : Bool) → (read.serial == own) ≡ b → (read.serial == own) ≡ false
        pair_apart read act p false e = e
        pair_apart read act p true e = absurd (other act p.list (purpose_is read act p e))

        all_apart : (reads : List StateRead) (acts : List ℕ) → AreZipped (IsPair ms i old) reads acts → AreApart own reads
        all_apart [] [] z = tt
        all_apart (read ∷ reads) (act ∷ acts) z = (pair_apart read act z.0 (read.serial == own) refl, all_apart reads acts z.1)
        all_apart [] (act ∷ acts) z = absurd z
        all_apart (read ∷ reads) [] z = absurd z

        pub apart : AreApart own host.reads
        apart = all_apart host.reads old.states pairs

      -- a read is one of them
      module _ (act : ℕ) (list : Option ℕ) (is : purpose ≡ Some (purposes.State act list)) where
        list_is : (read : StateRead) (other : ℕ) (p : IsPair ms i old read other) → (read.serial == own) ≡ true → read.list ≡ list
        list_is read other p e =
            let same : Some (purposes.State other p.list) ≡ Some (purposes.State act list) = sym (purpose_is read other p e) ∙ is in
            let lists : p.list ≡ list = cc in
            p.named ∙ lists

        -- that of its action
        act_serial : (read : StateRead) (other : ℕ) (p : IsPair ms i old read other) → other ≡ act → (read.serial == own) ≡ true
        act_serial read other p e =
            let label : p.number ≡ number = requests.one p.number number act p.list list (subst (λ n. At old.layer old.target p.number (Some (purposes.State n p.list))) e p.at) (at_its (purposes.State act list) refl is) in
            let same : waits p.kind read.serial ≡ waits kind own = sym p.held ∙ ap (λ n. wire.held (transaction old.layer.generation (suc i) 0 n)) label ∙ held in
            ap (λ n. n == own) (sym (serial_is p.kind kind read.serial own same)) ∙ itself own

        listed_by : (read : StateRead) (other : ℕ) (reads : List StateRead) (acts : List ℕ) → IsPair ms i old read other → (b : Bool) → (read.serial == own) ≡ b → (has_read act acts ≡ true → IsListed own list reads) → (c : Bool) → (other == act) ≡ c → (c || has_read act acts) ≡ true
            → IsListed own list (read ∷ reads)
        listed_by read other reads acts p true e more c f h = here_listed read reads e (list_is read other p e)
        listed_by read other reads acts p false e more true f h = untrue (sym e ∙ act_serial read other p (equal other act f))
        listed_by read other reads acts p false e more false f h = later read reads e (more h)

        all_listed : (reads : List StateRead) (acts : List ℕ) → AreZipped (IsPair ms i old) reads acts → has_read act acts ≡ true → IsListed own list reads
        all_listed [] [] z h = untrue h
        all_listed (read ∷ reads) (other ∷ acts) z h = listed_by read other reads acts z.0 (read.serial == own) refl (all_listed reads acts z.1) (other == act) refl h
        all_listed [] (act ∷ acts) z h = absurd z
        all_listed (read ∷ reads) [] z h = absurd z

        listed : IsListed own list host.reads
        listed = all_listed host.reads old.states pairs (lives_of calls.ready i old calls.called old.target number purpose there act list is)

        -- what is told as it ends is due
        abbrev ReadDue : Layer Purpose → Ending → Answer → Type 0
        ReadDue l ending answer = Says empty_outbox (ended_for (Some (purposes.State act list)) ending empty_outbox (called (record old { layer = l }))) (reply_notes old.number host (present_list ms i) (access_at wire own) own answer)

        pub state_says : (l : Layer Purpose) (ending : Ending) (answer : Answer) → IsRead ending answer → ReadDue l ending answer
        unfolding ended_step
        state_says l ending answer read =
            state_due own (called (record old { layer = l })) host (present_list ms i) (access_at wire own) empty_outbox act list listed (not_latest (purposes.State act list) refl is (λ n. refl)) (reads_it (kind_is (purposes.State act list) refl is))
            (turns.drops units ready start past s here i inside)
            (sym (counts_same list old.lists.slots.present) ∙ ap (is_present list) (sym (here.hosts i inside).rows.fits.present)) ending answer read

      -- where it goes that is for this
      pub its_aims : (its : Purpose) → is_plain its ≡ true → purpose ≡ Some its → is_write_in (access_at wire own) ≡ true
          → (is_managing its ≡ false → is_management_write host (access_at wire own) ≡ true → IsCalmBeside ms i) → is_management_write host (access_at wire own) ≡ is_managing its
      its_aims its plain is write calm = aims units ready start past s here k i inside number its kind own (tied its plain is) (own_is its plain is) awaits fit.serials write calm

      -- and of what action it is
      pub its_action : (its : Purpose) → is_plain its ≡ true → purpose ≡ Some its → is_managed_action (asked_in ms own i) ≡ is_managing its
      its_action its plain is = (let t = tied its plain is in ap (λ n. is_managed_action (asked_in ms n i)) (sym (own_is its plain is)) ∙ ap is_managed_action t.asked ∙ t.makes)

      -- ---- a write
      module _ (l : Layer Purpose) (ending : Ending) where
        abbrev then : InitiatorState
        then = called (record old { layer = l })

        -- for a write of this
        abbrev pub WriteDue : Option Access → Purpose → Type 0
        WriteDue access its = Says empty_outbox (ended_for (Some its) ending empty_outbox then) (reply_notes old.number host (present_list ms i) access own (write_answer ending))

        -- or of one that goes elsewhere
        pub record Tells (its : Purpose) : Type 0 where
          pub access : Option Access
          pub says : WriteDue access its

        -- where conflict_error answers it, it goes to MANAGEMENT_AGENT or elsewhere
        abbrev pub Aims : Option Access → Purpose → Type 0
        Aims access its = write_answer ending ≡ Refused 4 → is_management_write host access ≡ is_managing its

        module _ (its : Purpose) (plain : is_plain its ≡ true) (is : purpose ≡ Some its) (writes : kind_for its ≡ writing) (access : Option Access) (write : is_write_in access ≡ true) (aimed : Aims access its) where
          write_here : IsWrite (is_managing its) host access then (write_answer ending)
          write_here = record {
            write = write;
            to_manager = aimed;
            sticks = session_sticks;
          }

          apart_here : AreApart own host.reads
          apart_here = apart (λ act list g. (let no : kind_for (purposes.State act list) ≡ writing = ap kind_for (same_Some (purposes.State act list) its (sym g ∙ is)) ∙ writes in absurd (let z : reading_quadlet ≡ writing = no in cc)))

        pub write_says : (its : Purpose) → kind_for its ≡ writing → purpose ≡ Some its → (access : Option Access) → is_write_in access ≡ true → Aims access its → WriteDue access its
        unfolding ended_step
        write_says (purposes.Pointer list) e is access write aimed =
            pointer_due own then host (present_list ms i) access (apart_here (purposes.Pointer list) refl is e access write aimed) empty_outbox (not_latest (purposes.Pointer list) refl is (λ n. refl)) list ending (write_here (purposes.Pointer list) refl is e access write aimed)
        write_says purposes.Doorbell e is access write aimed =
            doorbell_due own then host (present_list ms i) access (apart_here purposes.Doorbell refl is e access write aimed) empty_outbox (not_latest purposes.Doorbell refl is (λ n. refl)) ending (write_here purposes.Doorbell refl is e access write aimed)
        write_says (purposes.AgentReset act) e is access write aimed =
            let its = purposes.AgentReset act in
            let m = reset_mine act is (under its refl is act (λ n. refl)) in
            reset_due own then host (present_list ms i) access (apart_here its refl is e access write aimed) empty_outbox act m (reset_is act is m) (turns.drops units ready start past s here i inside) ending (write_here its refl is e access write aimed)
        write_says (purposes.Enable act) e is access write aimed =
            let its = purposes.Enable act in
            enable_due own then host (present_list ms i) access (apart_here its refl is e access write aimed) empty_outbox act (under its refl is act (λ n. refl))
            (λ m. m.same ∙ (fits its refl is).same m.running m.is (equal m.running.act act m.begun)) ending (write_here its refl is e access write aimed)
        write_says (purposes.Management act) e is access write aimed =
            let its = purposes.Management act in
            management_due own then host (present_list ms i) access (apart_here its refl is e access write aimed) empty_outbox act (under its refl is act (λ n. refl))
            (λ m. ap is_management m.same ∙ sym (managed_same m.running.operation) ∙ (fits its refl is).managed m.running m.is (equal m.running.act act m.begun)) ending (write_here its refl is e access write aimed)
        write_says (purposes.State act list) e is access write aimed = absurd (let no : reading_quadlet ≡ writing = e in cc)
        write_says (purposes.Rom act) e is access write aimed = absurd (let no : reading_quadlet ≡ writing = e in cc)

        -- one that goes where this does
        abbrev aimed_access : Purpose → Access
        aimed_access its = record { is_lock = false; is_write = true; is_block = false; offset = cond (is_managing its) (management_offset host.management) (suc (management_offset host.management)); count = 0; payload = [] }

        aimed_there : (its : Purpose) → is_management_write host (Some (aimed_access its)) ≡ is_managing its
        aimed_there its = by (is_managing its)
          where
            by : (b : Bool) → (cond b (management_offset host.management) (suc (management_offset host.management)) == management_offset host.management) ≡ b
            by true = itself (management_offset host.management)
            by false = grind (arith, nat_tests)

        -- so, wherever it goes, the ends of operations and lists are due
        pub write_ends : (its : Purpose) → kind_for its ≡ writing → purpose ≡ Some its → Tells its
        write_ends its e is = record { access = Some (aimed_access its); says = write_says its e is (Some (aimed_access its)) refl (λ f. aimed_there its) }
