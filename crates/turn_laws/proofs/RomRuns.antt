-- Behind each turn of every run a `rom` operation of the terms has its latest read under way; and with that what the sent law asks behind each turn.
use Rattle.std.proofs.Common.{arith, ◌≡◌, ◌∙◌, refl, sym, ap, subst, ℕ, zero, suc, ◌+◌, ◌<◌, ◌≤◌, ◌==◌, ◌&&◌, nat_lt, Bool, true, false, cond, List, [], ◌∷◌, ◌++◌, map, length, Option, Some, None}
use Rattle.bus_transactions.specs.Reached.{IsAwaited}
use Rattle.bus_transactions.specs.Rows.{awaits, idle, resting, shape, shape_of}
use Rattle.bus_transactions.specs.Wire.{as_sending, transaction}
use Rattle.bus_transactions.proofs.Reaches.{goes_on}
use Rattle.label_table.specs.History.{not_begun, under_way}
use Rattle.label_table.specs.declared.reply.ReplyKind.{ReplyKind}
use Rattle.packet_store.specs.declared.sent.Sent.{Sent}
use Rattle.rbc_disk.specs.Disk.{Disk}
use Rattle.sbp_bus.specs.Generations.{id_of}
use Rattle.sbp_bus.specs.Packets.{judged_note}
use Rattle.sbp_initiator.specs.Effects.{Turn as Called}
use Rattle.sbp_initiator.specs.Initiators.{new_state}
use Rattle.sbp_initiator.specs.Receiving.{receive_step}
use Rattle.sbp_initiator.specs.Seeing.{see_step}
use Rattle.sbp_initiator.specs.declared.purpose.Purpose.{Purpose}
use Rattle.sbp_initiator.specs.declared.purpose.Purpose.TheVariants as purposes
use Rattle.sbp_initiator.specs.declared.purpose.Running.{Running}
use Rattle.sbp_initiator.specs.declared.state.InitiatorState.{InitiatorState}
use Rattle.sbp_journal.specs.Outgoings.{empty_outbox}
use Rattle.sbp_journal.specs.Run.{Moment, asked, said}
use Rattle.sbp_journal.specs.Transactions.{Kind, Transaction}
use Rattle.sbp_journal.specs.Wire.{Held, Terms, free, noted, rests, terms, waits}
use Rattle.sbp_journal.specs.declared.event.Event.TheVariants as events
use Rattle.sbp_journal.specs.declared.cause.Judged.{Judged}
use Rattle.sbp_journal.specs.declared.cause.Judged.TheVariants as judgements
use Rattle.sbp_journal.specs.declared.note.Note.TheVariants as notes
use Rattle.sbp_journal.specs.declared.operation.Operation.{Operation}
use Rattle.sbp_journal.specs.declared.operation.Operation.TheVariants as operations
use Rattle.sbp_laws.specs.Budget.{initiators}
use Rattle.sbp_laws.specs.Hosts.{Underway, host_at, is_rom, ready_host}
use Rattle.sbp_laws.specs.Packets.{begun_in, is_of_now, is_under_way, is_waiting_for, waits_for}
use Rattle.sbp_laws.specs.SentLaw.{AfterTurn, RomRuns, RomsRun, end_of}
use Rattle.sbp_laws.specs.Turns.{Where}
use Rattle.sbp_target.specs.Nodes as target
use Rattle.sbp_target.specs.Receiving.{received, seen, ticked}
use Rattle.sbp_world.specs.Delivering.{marked, whole_of}
use Rattle.sbp_world.specs.Handing.{handed_out}
use Rattle.sbp_world.specs.Hosts.Core.{Core, operation_by, work_in, work_of}
use Rattle.sbp_world.specs.Lines.{weight_in}
use Rattle.sbp_world.specs.Making.{new_world, notes_begin}
use Rattle.sbp_world.specs.Nodes.{told_seen, with_seen}
use Rattle.sbp_world.specs.Runs.{beginning}
use Rattle.sbp_world.specs.Settling.{settled_from}
use Rattle.sbp_world.specs.Worlds.{Scene, initiator_at, with_initiator, with_note, with_target, without_notes}
use Rattle.sbp_world.proofs.Agents.Management.Begins.{first_past}
use Rattle.sbp_world.proofs.Agents.Management.Holding.{past_terms, was_sent}
use Rattle.sbp_world.proofs.Agents.Management.Still.{hist}
use Rattle.sbp_world.proofs.Common.{itself, none_is, untrue}
use Rattle.sbp_world.proofs.Hosts.Lives.{at_life}
use Rattle.sbp_world.proofs.Hosts.Shows.{shown_now}
use Rattle.sbp_world.proofs.Lists.Extends.{marked_fresh}
use Rattle.sbp_world.proofs.Making.{initiators_size}
use Rattle.sbp_world.proofs.Wire.Nodes.{marked_alike}
use Rattle.sbp_world.proofs.Wire.Starts.{states_at}
use Rattle.turn_laws.specs.UnderWay.{AfterLaw, RomsWait, RomsWaitLaw, TargetWaits}
use Rattle.turn_laws.proofs.AnswerNotes.{judged_bus}
use Rattle.turn_laws.proofs.BehindTurns.{lined, noted as noted_behind}
use Rattle.turn_laws.proofs.Calls.{CarriedCases}
use Rattle.turn_laws.proofs.EachTurns.{joined_law}
use Rattle.turn_laws.proofs.Handed.{handed, handed_fresh}
use Rattle.turn_laws.proofs.Pass.{Begins, of_every_carried}
use Rattle.turn_laws.proofs.PendingFirsts.{got_injected, late_injected}
use Rattle.turn_laws.proofs.PendingTerms.{ignored_same}
use Rattle.turn_laws.proofs.Places.{Place}
use Rattle.turn_laws.proofs.RomCarried.{RomsOf, line_turn, note_turn, noted_count, noted_keeps, own_turn, target_turn}
use Rattle.turn_laws.proofs.RomLabels.{CallRom, RomAt, RomLabel}
use Rattle.turn_laws.proofs.RomPlaces.{act_roms, call_roms, heard_roms, late_roms, seen_roms}
use Rattle.turn_laws.proofs.RomTerms.{Keeps, is_mine, keeps_line}
use Rattle.turn_laws.proofs.RomTies.{RomOf}
use Rattle.turn_laws.proofs.TargetWaits.{target_waits_law}
use Rattle.sbp_world.proofs.Lists.ManageRuns.{first_none}

-- ---- at a place
where_so : (b : Bool) (X : Type 0) → (b ≡ true → X) → Where b X
where_so true X f = f refl
where_so false X f = tt

is_rom_operation : (u : Underway) (operation : Operation) → u.operation ≡ operation → is_rom (Some u) ≡ true → u.operation ≡ operations.Rom
is_rom_operation u operations.Rom e f = e
is_rom_operation u operation e f = untrue (sym (ap (λ o. is_rom (Some (record u { operation = o }))) e) ∙ f)

-- the machine runs it too
record IsRunning (operation : Option Running) (u : Underway) : Type 0 where
  running : Running
  is : operation ≡ Some running
  same : running.operation ≡ u.operation

same_work : (operation : Option Running) (u : Underway) → work_of (Some u) ≡ work_in operation → IsRunning operation u
same_work None u e = none_is _ (sym e)
same_work (Some r) u e = record { running = r; is = refl; same = same_some (sym (ap operation_by e)) }
  where
    same_some : {x y : Operation} → Some x ≡ Some y → x ≡ y
    same_some e = cc

-- its label waits by the terms
record WaitsFor (held : Held) : Type 0 where
  kind : Kind
  serial : ℕ
  is : held ≡ waits kind serial

waits_by : (held : Held) (kind : ReplyKind) → awaits kind ≡ shape_of held → WaitsFor held
waits_by free kind e = absurd (let no : awaits kind ≡ idle = e in cc)
waits_by rests kind e = absurd (let no : awaits kind ≡ resting = e in cc)
waits_by (waits kind serial) k e = record { kind = kind; serial = serial; is = refl }

module _ (units ready : ℕ) (start : List Disk) (past : List Moment) (s : Scene) (here : Place units ready start past s) (k : RomsOf (hist past s.world) s.world) where
  abbrev ms : List Moment
  ms = hist past s.world

  abbrev t : Terms
  t = terms ms

  module _ (i : ℕ) (inside : i < length s.world.initiators) where
    abbrev old : InitiatorState
    old = initiator_at s.world i

    rom : RomOf ms i old
    rom = k.each i inside

    module _ (u : Underway) (e : (host_at ms i).operation ≡ Some u) where
      runs : IsRunning old.operation u
      runs = same_work old.operation u (ap work_of (sym e) ∙ ap (λ (x : Core). x.work) (here.cores i inside))

      latest_waits : (a : ℕ) → RomLabel old.layer old.target a → is_under_way t u.latest ≡ true
      latest_waits a l =
          let stands = here.holds.sound.stands in
          let shown = shown_now s.world stands here.holds.sound.nodes i inside in
          let its : Transaction = transaction old.layer.generation (suc i) 0 l.number in
          let held = waits_by (t.held its) l.at.kind (sym (ap shape l.at.state) ∙ shown.states l.number) in
          let same = past_terms s.world stands in
          let w : IsAwaited t its held.kind held.serial = subst (λ (x : Terms). IsAwaited x its held.kind held.serial) same (goes_on.awaited stands.wire its held.kind held.serial stands.reached (ap (λ (x : Terms). x.held its) same ∙ held.is)) in
          let latest : held.serial ≡ u.latest = w.current ∙ rom.tie l.number a l.at u e in
          subst (λ n. is_under_way t n ≡ true) latest
          (ap (λ o. waits_for t (begun_in o) held.serial) w.sent
          ∙ (ap (λ o. waits_for t o held.serial) w.begun
          ∙ (ap (λ (h : Held). is_of_now t its && is_waiting_for h held.serial) held.is
          ∙ (ap (λ n. (n == old.layer.generation) && (held.serial == held.serial)) (sym shown.generation)
          ∙ (ap (λ b. b && (held.serial == held.serial)) (itself old.layer.generation) ∙ itself held.serial)))))

      rom_waits : is_rom (Some u) ≡ true → is_under_way t u.latest ≡ true
      rom_waits f = latest_waits runs.running.act (rom.one.has runs.running runs.is (runs.same ∙ is_rom_operation u u.operation refl f))

    rom_runs : (o : Option Underway) → (host_at ms i).operation ≡ o → RomRuns o t
    rom_runs None e = tt
    rom_runs (Some u) e = where_so (is_rom (Some u)) (is_under_way t u.latest ≡ true) (rom_waits u e)

  roms_run : (n : ℕ) → n ≤ length s.world.initiators → RomsRun ms n
  roms_run zero b = tt
  roms_run (suc i) b = (rom_runs i (omega (arith, b)) (host_at ms i).operation refl, roms_run i (omega (arith, b)))

  pub roms_here : RomsWait ms
  roms_here = subst (RomsRun ms) (sym k.count) (roms_run (length s.world.initiators) (omega arith))

-- ---- each call
judged_mine : (serial : ℕ) (judged : Judged) (j : ℕ) → is_mine j (judged_note serial judged) ≡ false
judged_mine serial judgements.Got j = refl
judged_mine serial (judgements.Ignored cause) j = refl

abbrev Law : List Disk → List Moment → Type 0
Law start ms = RomsWait ms

abbrev pub Carried : List Disk → List Moment → Scene → Type 0
Carried start ms s = RomsOf ms s.world

module _ (units ready : ℕ) (start : List Disk) where
  abbrev knows : (past : List Moment) (s : Scene) → Place units ready start past s → RomsOf (hist past s.world) s.world → RomsWait (hist past s.world)
  knows past s here k = roms_here units ready start past s here k

  -- which packets were injected stays, behind what was judged
  module _ (past : List Moment) (s : Scene) (serial : ℕ) (one : Sent) where
    abbrev old_terms : Terms
    old_terms = terms (hist past s.world)

    heard_injected : old_terms.sent serial ≡ Some (as_sending one) → (judged : Judged) → (noted (judged_note serial judged) old_terms).injected ≡ old_terms.injected
    heard_injected was judgements.Got = got_injected serial (as_sending one) old_terms was
    heard_injected was (judgements.Ignored cause) = (ignored_same (old_terms.sent serial) cause serial old_terms).1.1.1.1.0

  settled_roms : (past : List Moment) (s : Scene) (done : Bool) → RomsOf (hist past s.world) s.world → RomsOf (hist past (settled_from done s).world) (settled_from done s).world
  settled_roms past s true k = note_turn (hist past s.world) s.world k notes.Settled (with_note notes.Settled s.world) refl (λ j. refl)
  settled_roms past s false k = note_turn (hist past s.world) s.world k notes.Stopped (with_note notes.Stopped s.world) refl (λ j. refl)

  pub rom_cases : CarriedCases units ready start (Carried start) (λ t. RomsWait (end_of t))
  rom_cases = record {
    heard = λ past s serial again run one found zero_to may others here behind told k.
        let x = received run one.generation one.bytes (whole_of s.world.target s.media) in
        let u = with_target x.1.node s.world in
        let note = judged_note serial x.0 in
        let v = with_note note (marked serial again u) in
        let fresh = ap (λ ns. note ∷ ns) (marked_fresh serial again u) in
        let mine = judged_mine serial x.0 in
        let later = target_turn (hist past s.world) s.world k past v (noted_keeps past s.world note v fresh mine) (noted_count past s.world note v fresh mine) 0 x.1.outbox (marked_alike u serial again).initiators others in
        (noted_behind Law start note 0 x.1.outbox s.world v past fresh (knows past _ behind later), later);
    heard_own = λ past s serial again one i found to_is inside own here behind told k.
        let x = receive_step one.generation one.bytes empty_outbox (initiator_at s.world i) in
        let u = with_initiator i x.1.1 s.world in
        let note = judged_note serial x.0 in
        let v = with_note note (marked serial again u) in
        let fresh = ap (λ ns. note ∷ ns) (marked_fresh serial again u) in
        let mine = judged_mine serial x.0 in
        let keeps = noted_keeps past s.world note v fresh mine in
        let same = (marked_alike u serial again).initiators in
        let bus = judged_bus note serial again s.world u (record { last = refl; generations = refl }) in
        let injected = ap (λ ns. (terms (map said ns ++ past)).injected) fresh ∙ heard_injected past s serial one (was_sent s.world here.holds.sound.stands serial one found) x.0 in
        let rom = call_roms units ready start past s here i inside (k.each i inside) past x.1 0 v own bus same (keeps i) injected _ behind refl told.line (heard_roms units ready start past s here i inside (k.each i inside) one.generation one.bytes) in
        let later = own_turn (hist past s.world) s.world k past v keeps (noted_count past s.world note v fresh mine) i 0 x.1.0 x.1.1 inside same own rom in
        (noted_behind Law start note (suc i) x.1.0 s.world v past fresh (knows past _ behind later), later);
    late = λ past s serial request done t found node_is e others here behind told k.
        let note = notes.TimedOut serial in
        let v = with_note note (with_target t.node s.world) in
        let later = target_turn (hist past s.world) s.world k past v (noted_keeps past s.world note v refl (λ j. refl)) (noted_count past s.world note v refl (λ j. refl)) 0 t.outbox refl others in
        (noted_behind Law start note 0 t.outbox s.world v past refl (knows past _ behind later), later);
    late_own = λ past s serial request i outbox state found node_is inside e own here behind told k.
        let note = notes.TimedOut serial in
        let v = with_note note (with_initiator i state s.world) in
        let keeps = noted_keeps past s.world note v refl (λ j. refl) in
        let call = subst (λ (z : Bool × Called). CallRom (initiator_at s.world i) z.1) e (late_roms units ready start past s here i inside (k.each i inside) request.label) in
        let injected = late_injected (begun_in ((terms (hist past s.world)).sent serial)) (terms (hist past s.world)) in
        let rom = call_roms units ready start past s here i inside (k.each i inside) past (outbox, state) 0 v own (record { last = refl; generations = refl }) refl (keeps i) injected _ behind refl told.line call in
        let later = own_turn (hist past s.world) s.world k past v keeps (noted_count past s.world note v refl (λ j. refl)) i 0 outbox state inside refl own rom in
        (noted_behind Law start note (suc i) outbox s.world v past refl (knows past _ behind later), later);
    sees = λ past s others here behind told k.
        let g = s.world.generations.latest in
        let x = (seen g.generation (id_of g 0) (target.scene s.world.target empty_outbox)).1 in
        let note = notes.Seen 0 g.generation in
        let v = with_target x.node (with_seen 0 (told_seen 0 s.world)) in
        let later = target_turn (hist past s.world) s.world k past v (noted_keeps past s.world note v refl (λ j. refl)) (noted_count past s.world note v refl (λ j. refl)) 0 x.outbox refl others in
        (noted_behind Law start note 0 x.outbox s.world v past refl (knows past _ behind later), later);
    sees_own = λ past s i inside own here behind told k.
        let g = s.world.generations.latest in
        let x = see_step g.generation (id_of g (suc i)) (id_of g 0) empty_outbox (initiator_at s.world i) in
        let note = notes.Seen (suc i) g.generation in
        let v = with_initiator i x.1 (with_seen (suc i) (told_seen (suc i) s.world)) in
        let later = own_turn (hist past s.world) s.world k past v (noted_keeps past s.world note v refl (λ j. refl)) (noted_count past s.world note v refl (λ j. refl)) i 0 x.0 x.1 inside refl own (seen_roms units ready start past s here i inside (k.each i inside)) in
        (noted_behind Law start note (suc i) x.0 s.world v past refl (knows past _ behind later), later);
    ticks = λ past s others here behind told k.
        let x = ticked (target.scene s.world.target empty_outbox) in
        let v = with_target x.node (with_note notes.Tick s.world) in
        let later = target_turn (hist past s.world) s.world k past v (noted_keeps past s.world notes.Tick v refl (λ j. refl)) (noted_count past s.world notes.Tick v refl (λ j. refl)) 0 x.outbox refl others in
        (noted_behind Law start notes.Tick 0 x.outbox s.world v past refl (knows past _ behind later), later);
    ends = λ past s done here behind k. (let later = settled_roms past s done k in (knows past _ behind later, later));
    acts = λ past s line i action outbox state inside e own here behind k.
        let v = with_initiator i state (without_notes s.world) in
        let event = events.Act i action in
        let then = asked line event ∷ hist past s.world in
        let weight = weight_in action in
        let one_more : suc i ≡ i + 1 = omega arith in
        let keeps : (j : ℕ) → Keeps j (hist past s.world) then = λ j. keeps_line j line event (hist past s.world) in
        let rom = act_roms units ready start past s here i inside (k.each i inside) then (outbox, state) weight v own (record { last = refl; generations = refl }) refl (keeps i) refl _ behind (ap (λ n. handed_out n weight outbox v) (sym one_more)) action refl e in
        let at_own = own_turn (hist past s.world) s.world k then v keeps refl i weight outbox state inside refl own rom in
        let later = subst (λ n. RomsOf (hist then (handed_out n weight outbox v)) (handed_out n weight outbox v)) one_more at_own in
        (lined Law start line event (handed (i + 1) weight outbox v) (handed_out (i + 1) weight outbox v).fresh (hist past s.world) (handed_fresh (i + 1) weight outbox v) (knows then _ behind later), later);
    lines = λ past s line event rest behind brings fresh here there stays k.
        let now = asked line event ∷ hist past s.world in
        let later = subst (λ ns. RomsOf (map said ns ++ now) behind.world) (sym fresh) (line_turn (hist past s.world) s.world k line s event rest behind brings stays.1.1) in
        (lined Law start line event rest behind.world.fresh (hist past s.world) fresh (knows now behind there later), later);
    begins = λ line initiators is_ready. first_runs line initiators is_ready initiators;
  }
    where
      first_runs : (line count : ℕ) (is_ready : Bool) (n : ℕ) → RomsRun (said (notes_begin count is_ready) ∷ asked line (events.Begin count is_ready) ∷ []) n
      first_runs line count is_ready zero = tt
      first_runs line count is_ready (suc i) = (by (is_ready && nat_lt i count), first_runs line count is_ready i)
        where
          by : (b : Bool) → RomRuns (cond b (ready_host i) (host_at [] i)).operation (terms (said (notes_begin count is_ready) ∷ asked line (events.Begin count is_ready) ∷ []))
          by true = tt
          by false = tt

-- ---- where a run begins no initiator has anything under way
first_unread : (i n a : ℕ) (ready : Bool) → RomAt (new_state i ready).layer (new_state i ready).target n a → ⊥
unfolding new_state
first_unread i n a ready x = not_yet x.kind (Some (purposes.Rom a)) (at_life (0xffc1 + i) [] (new_state i ready).target n (Some (purposes.Rom a)) x)
  where
    not_yet : (kind : ReplyKind) (purpose : Option Purpose) → not_begun ≡ under_way kind purpose → ⊥
    not_yet kind purpose e = cc

first_rom : (past : List Moment) (i : ℕ) (ready : Bool) → RomOf past i (new_state i ready)
first_rom past i ready = record {
  one = record {
    runs = λ n a x. absurd (first_unread i n a ready x);
    one = λ n a m b x y. absurd (first_unread i n a ready x);
    has = λ r e f. none_is r (sym (first_none i ready) ∙ e);
  };
  tie = λ n a x u e. absurd (first_unread i n a ready x);
  kind = λ n a x. absurd (first_unread i n a ready x);
  still = λ r e other. none_is r (sym (first_none i ready) ∙ e);
}

pub first_roms : Begins Carried
unfolding new_world
first_roms line run has there = record {
  count = sym (initiators_size run.initiators run.ready);
  each = λ i b.
      let few : i < run.initiators = subst (λ n. i < n) (initiators_size run.initiators run.ready) b in
      subst (RomOf (hist (first_past line run.initiators run.ready) (beginning run).world) i) (sym (states_at run.initiators i run.ready (new_state 0 false) few)) (first_rom _ i run.ready);
}

pub roms_wait_law : RomsWaitLaw
roms_wait_law = of_every_carried Carried (λ start t. RomsWait (end_of t)) first_roms (λ units ready start has. rom_cases units ready start)

-- with what the target has under way
pub after_law : AfterLaw
after_law =
    joined_law (λ start t. TargetWaits start (end_of t)) (λ start t. RomsWait (end_of t)) AfterTurn (λ start t waits roms. record { agents = waits.agents; management = waits.management; roms = roms })
    target_waits_law roms_wait_law
