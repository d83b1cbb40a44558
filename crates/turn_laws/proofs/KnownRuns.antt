-- At each place of a run what each initiator has of a ROM is what the terms have. A law of turns may use it, and what is known of the reads of a ROM, of the place before the turn.
use Rattle.std.proofs.Common.{arith, ◌≡◌, ◌∙◌, inl, refl, sym, ap, subst, ℕ, suc, ◌+◌, ◌^◌, ◌<◌, ◌≤◌, ◌==◌, ◌&&◌, nat_lt, Bool, true, false, cond, List, [], ◌∷◌, ◌++◌, map, length, Option, Some, None, Result, Ok, Err}
use Rattle.std.proofs.lemmas.Bool.Decides.{nat_tests}
use Rattle.async_packet.specs.Labels.{LabelParts}
use Rattle.bus_transactions.specs.Wire.{as_sending}
use Rattle.label_table.specs.Layer.{expiring_step, judging_step}
use Rattle.label_table.specs.declared.reply.Stale.{Stale}
use Rattle.packet_store.specs.Stored.{Stored}
use Rattle.rbc_disk.specs.Disk.{Disk}
use Rattle.sbp_bus.specs.Generations.{id_of, node_of, topology_at}
use Rattle.sbp_bus.specs.Packets.{judged_note}
use Rattle.sbp_initiator.specs.Acting.{act_step, demand_of}
use Rattle.sbp_initiator.specs.Effects.{Turn as Called}
use Rattle.sbp_initiator.specs.Initiators.{new_state}
use Rattle.sbp_initiator.specs.Receiving.{expire_step, receive_step}
use Rattle.sbp_initiator.specs.Seeing.{see_step}
use Rattle.sbp_initiator.specs.declared.purpose.Demand.{Demand}
use Rattle.sbp_initiator.specs.declared.purpose.Purpose.{Purpose}
use Rattle.sbp_initiator.specs.declared.purpose.Purpose.TheVariants as purposes
use Rattle.sbp_initiator.specs.declared.purpose.Running.{Running}
use Rattle.sbp_initiator.specs.declared.state.InitiatorState.{InitiatorState}
use Rattle.sbp_journal.specs.Outgoings.{empty_outbox}
use Rattle.sbp_journal.specs.Run.{Moment, asked, said}
use Rattle.sbp_journal.specs.Transactions.{Sending}
use Rattle.sbp_journal.specs.Wire.{terms}
use Rattle.sbp_journal.specs.declared.cause.Judged.{Judged}
use Rattle.sbp_journal.specs.declared.cause.Judged.TheVariants as judgements
use Rattle.sbp_journal.specs.declared.event.Action.{Action}
use Rattle.sbp_journal.specs.declared.event.Action.TheVariants as actions
use Rattle.sbp_journal.specs.declared.event.Event.TheVariants as events
use Rattle.sbp_journal.specs.declared.note.Note.{Note}
use Rattle.sbp_journal.specs.declared.note.Note.TheVariants as notes
use Rattle.sbp_journal.specs.declared.operation.Operation.TheVariants as operations
use Rattle.sbp_journal.specs.declared.outbox.Outgoing.{Outgoing}
use Rattle.sbp_journal.specs.declared.side.Side.{Side}
use Rattle.sbp_journal.specs.declared.side.Side.TheVariants as sides
use Rattle.sbp_laws.specs.Hosts.{new_host, ready_host}
use Rattle.sbp_laws.specs.NoteKinds.{is_operation_note}
use Rattle.sbp_laws.specs.Turns.{EachTurn, Turn, event_of, turn}
use Rattle.sbp_target.specs.Nodes as target
use Rattle.sbp_target.specs.Receiving.{received, seen, ticked}
use Rattle.sbp_world.specs.Delivering.{marked, whole_of}
use Rattle.sbp_world.specs.Handing.{handed_out}
use Rattle.sbp_world.specs.Histories.{moments_behind}
use Rattle.sbp_world.specs.Lines.{weight_in}
use Rattle.sbp_world.specs.Making.{new_world, notes_begin}
use Rattle.sbp_world.specs.Nodes.{told_seen, with_seen}
use Rattle.sbp_world.specs.Runs.{AreEntries, Entry, Run, after, beginning}
use Rattle.sbp_world.specs.Settling.{settled_from}
use Rattle.sbp_world.specs.Telling.{told as told_one, told_all}
use Rattle.sbp_world.specs.Wire.Lines.{AreLines}
use Rattle.sbp_world.specs.Wire.Wires.{layers_of}
use Rattle.sbp_world.specs.Worlds.{Scene, WorldState, initiator_at, with_initiator, with_note, with_target, without_notes}
use Rattle.sbp_world.proofs.Agents.Management.Begins.{first_past}
use Rattle.sbp_world.proofs.Agents.Management.Holding.{was_sent}
use Rattle.sbp_world.proofs.Agents.Management.Still.{hist}
use Rattle.sbp_world.proofs.Common.{none_is, untrue}
use Rattle.sbp_world.proofs.Formed.{AreOwn, IsNoRun}
use Rattle.sbp_world.proofs.Hosts.Asked.{number_in}
use Rattle.sbp_world.proofs.Hosts.Carried.{fresh, own_request}
use Rattle.sbp_world.proofs.Hosts.Carries.{IsNoAct}
use Rattle.sbp_world.proofs.Hosts.Outboxes.{line_stays}
use Rattle.sbp_world.proofs.Hosts.Hosted.{expires_fit, hears_fit}
use Rattle.sbp_world.proofs.Hosts.Knows.{target_there}
use Rattle.sbp_world.proofs.Hosts.Requested.{AreRequests, act_sends, all_told_bus}
use Rattle.sbp_world.proofs.Lists.Extends.{marked_fresh}
use Rattle.sbp_world.proofs.Lists.ManageLeaves.{was_by}
use Rattle.sbp_world.proofs.Lists.ManageHears.{hears_left, lapses_left}
use Rattle.sbp_world.proofs.Lists.ManageRuns.{first_none}
use Rattle.sbp_world.proofs.Lists.ManageSees.{none_later}
use Rattle.sbp_world.proofs.Making.{initiators_size}
use Rattle.sbp_world.proofs.Pointers.Finds.{expires_at}
use Rattle.sbp_world.proofs.Pointers.WaitActs.{see_old}
use Rattle.sbp_world.proofs.Wire.Nodes.{marked_alike}
use Rattle.sbp_world.proofs.Wire.Starts.{states_at}
use Rattle.turn_laws.specs.Runs.{OfEveryRun}
use Rattle.turn_laws.proofs.ActPackets.{Made, act_made}
use Rattle.turn_laws.proofs.Calls.{CarriedCases, CasesOf, IsCalling}
use Rattle.turn_laws.proofs.Handed.{handed, notes_sent, notes_told, onto, onto_both, packet_note}
use Rattle.turn_laws.proofs.HostRoms.{AllBeside, AllOwn, Rom, all_told, asked_rom, begun_rom, beside_rom, got_other, is_own, note_rom, others_told, rom, rom_at, rom_in, told_rom}
use Rattle.turn_laws.proofs.Judgements.{row_there}
use Rattle.turn_laws.proofs.KnownCarried.{KnownsOf, line_turn, moved, own_turn, target_turn, told_beside}
use Rattle.turn_laws.proofs.OwnActs.{AreQuiet, act_quiet}
use Rattle.turn_laws.proofs.Pass.{Begins, kept_after, of_every_carried}
use Rattle.turn_laws.proofs.Places.{Place}
use Rattle.turn_laws.proofs.RomEnds.{own_rom}
use Rattle.turn_laws.proofs.RomKnown.{KnownOf, heard_first, heard_learns, heard_small, known_rom, layer_called, now_known, now_small}
use Rattle.turn_laws.proofs.RomLabels.{IfRom}
use Rattle.turn_laws.proofs.RomPlaces.{act_was, action_is, call_acts_not, is_rom_action, told_injected}
use Rattle.turn_laws.proofs.RomReads.{LateOfRom, Learns, act_rom, expire_learns, few_behind, heard_quads, sees_learns}
use Rattle.turn_laws.proofs.RomRuns.{Carried as Roms, first_roms, rom_cases}
use Rattle.turn_laws.proofs.RomSmall.{IsSmallDistance}
use Rattle.turn_laws.proofs.RomTies.{RomOf}
use Rattle.turn_laws.proofs.RomCarried.{apart}

-- ---- an action tells notes of its list alone
record LeavesRom (i : ℕ) (ns : List Note) : Type 0 where
  owned : AllOwn i ns
  leave : (r : Rom) → told_rom ns r ≡ r

one_left : (i : ℕ) (note : Note) → IsNoRun note → is_operation_note note ≡ false → (is_own i note ≡ true) × ((r : Rom) → note_rom note r ≡ r)
one_left i (notes.Begin initiators is_ready) h e = absurd h
one_left i (notes.Got serial) h e = absurd h
one_left i (notes.Sent serial generation from to bytes) h e = absurd h
one_left i (notes.Op j operation word) h e = untrue (sym e)
one_left i note h e = (refl, λ r. refl)

quiet_left : (i weight : ℕ) (later : List Side) (w : WorldState) → AreOwn later → AreQuiet later → LeavesRom i (notes_told weight later w)
quiet_left i weight [] w h q = record { owned = tt; leave = λ r. refl }
quiet_left i weight (sides.Own note ∷ later) w h q =
    let x = one_left i note h.0.1 q.0 in
    let y = quiet_left i weight later (told_one weight (sides.Own note) w) h.1 q.1 in
    record { owned = (x.0, y.owned); leave = λ r. ap (told_rom (notes_told weight later (told_one weight (sides.Own note) w))) (x.1 r) ∙ y.leave r }
quiet_left i weight (side ∷ later) w h q = absurd h.0

some_demand : {d : Demand} → Some d ≡ None → ⊥
some_demand e = cc

no_packet : {p : Outgoing} → p ∷ [] ≡ [] → ⊥
no_packet e = cc

sucs : (i j : ℕ) → (i == j) ≡ false → (suc i == suc j) ≡ false
sucs i j e = grind (arith, nat_tests)

-- a sight leaves no operation, or all
seen_was : (generation id target : ℕ) (s : InitiatorState) (r : Running) → (see_step generation id target empty_outbox s).1.operation ≡ Some r → s.operation ≡ Some r
seen_was generation id target s r f = by (nat_lt s.layer.generation generation) refl
  where
    by : (b : Bool) → nat_lt s.layer.generation generation ≡ b → s.operation ≡ Some r
    by true e = none_is r (sym (none_later generation id target s e) ∙ f)
    by false e = sym (ap (λ (x : Called). x.1.operation) (see_old generation id target s e)) ∙ f

-- ---- what is carried
abbrev pub Known : List Disk → List Moment → Scene → Type 0
Known start ms s = Roms start ms s × KnownsOf ms s.world

judged_beside : (serial : ℕ) (past : List Moment) (i : ℕ) (packet : Sending) → (terms past).sent serial ≡ Some packet → (packet.to == suc i) ≡ false → (judged : Judged) → rom_at (said (judged_note serial judged) ∷ past) i ≡ rom_at past i
judged_beside serial past i packet sent away judgements.Got = got_other serial packet past i sent away
judged_beside serial past i packet sent away (judgements.Ignored cause) = beside_rom (notes.Ignored serial cause) past i refl

module _ (units ready : ℕ) (start : List Disk) where
  module _ (past : List Moment) (s : Scene) (here : Place units ready start past s) (k : Known start (hist past s.world) s) where
    abbrev ms : List Moment
    ms = hist past s.world

    module _ (i : ℕ) (inside : i < length s.world.initiators) where
      abbrev old : InitiatorState
      old = initiator_at s.world i

      number : old.number ≡ i
      number = (here.hosts i inside).number

      known : KnownOf ms i old
      known = k.1.each i inside

      roms : RomOf ms i old
      roms = k.0.each i inside

      -- a call in a line that calls nodes: `v` is the world behind its first note
      call_known : (q : List ℕ) (then : List Moment) (t : Called) (v : WorldState) → Learns old q t → IsCalling then → IfRom t.1 (λ r. length t.1.quads < 256) → known_rom (rom_at (hist then v) i) ≡ rom q old.management → IsSmallDistance (rom_at (hist then v) i).management
          → KnownOf (map said (onto (handed (suc i) 0 t.0 v) v.fresh) ++ then) i t.1
      call_known q then t v L line few e h =
          let none : IsNoAct i (event_of then) = subst (IsNoAct i) (sym line.is) (call_acts_not i line.event line.calls) in
          record { is = now_known i old number q then t 0 v L none e; small = now_small i old number q then t 0 v L none h; few = few }

      hands : (q : List ℕ) (then : List Moment) (t : Called) (v : WorldState) → Learns old q t → v.initiators ≡ (with_initiator i t.1 s.world).initiators → ((j : ℕ) → (i == j) ≡ false → rom_at (hist then v) j ≡ rom_at ms j)
          → KnownOf (map said (onto (handed (suc i) 0 t.0 v) v.fresh) ++ then) i t.1 → (let b = handed_out (suc i) 0 t.0 v in KnownsOf (hist then b) b)
      hands q then t v L same first kn =
          own_turn ms s.world k.1 then v i 0 t.0 t.1 inside first (λ j away. told_beside i j 0 L.told t.0 v L.sides (subst (λ n. AllOwn n L.told) number L.owned) away) same kn

      -- ---- an action that is done
      module _ (line weight : ℕ) (action : Action) (t : Called) (own : AreOwn t.0.sides) (turn_is : act_step action empty_outbox old ≡ (None, t)) where
        abbrev asks : List Moment
        asks = asked line (events.Act i action) ∷ ms

        abbrev v : WorldState
        v = with_initiator i t.1 (without_notes s.world)

        abbrev V : WorldState
        V = told_all weight t.0.sides v

        abbrev told_notes : List Note
        told_notes = onto (notes_told weight t.0.sides v) []

        abbrev mid : List Moment
        mid = map said told_notes ++ asks

        done : (act_step action empty_outbox old).0 ≡ None
        done = ap (λ (x : Option ℕ × Called). x.0) turn_is

        its : (act_step action empty_outbox old).1 ≡ t
        its = ap (λ (x : Option ℕ × Called). x.1) turn_is

        left : LeavesRom i (notes_told weight t.0.sides v)
        left = quiet_left i weight t.0.sides v own (subst (λ (x : Called). AreQuiet x.0.sides) its (act_quiet action old))

        mid_rom : rom_at mid i ≡ rom_at ms i
        mid_rom = all_told (notes_told weight t.0.sides v) [] asks i left.owned ∙ left.leave (rom_at ms i)

        behind_rom : own_rom t.1 ≡ begun_rom action (own_rom old)
        behind_rom = ap (λ (x : Called). own_rom x.1) (sym its) ∙ act_rom action old done

        begun_known : (r : Rom) → known_rom (begun_rom action r) ≡ begun_rom action (known_rom r)
        begun_known r = by action
          where
            by : (a : Action) → known_rom (begun_rom a r) ≡ begun_rom a (known_rom r)
            by actions.Rom = refl
            by a = refl

        there : node_of V.generations (suc i) old.target ≡ Some 0
        there = ap (λ g. node_of g (suc i) old.target) (all_told_bus weight t.0.sides v).generations ∙ target_there s.world here.holds.sound.stands i inside here.holds.sound.nodes

        sends : AreRequests old.target t.0.packets
        sends = subst (λ (x : Called). AreRequests old.target x.0.packets) its (act_sends action old (λ d e. own_request s.world i inside here.short here.holds.sound action d e))

        made : Made action old (demand_of action old) t.0.packets
        made = subst (λ (x : Called). Made action old (demand_of action old) x.0.packets) its (act_made action old done)

        sent_none : (d : Option Demand) → demand_of action old ≡ d → Made action old d t.0.packets → t.0.packets ≡ [] → begun_rom action (rom_at ms i) ≡ rom_at ms i
        sent_none None e m none = by action e
          where
            by : (a : Action) → demand_of a old ≡ None → begun_rom a (rom_at ms i) ≡ rom_at ms i
            by actions.Rom f = absurd (some_demand f)
            by a f = refl
        sent_none (Some demand) e m none = absurd (no_packet (sym m.are ∙ none))

        abbrev Behind : List Outgoing → Type 0
        Behind ps = rom_at (map said (onto (notes_sent (suc i) ps V) told_notes) ++ asks) i ≡ begun_rom action (rom_at mid i)

        honest : (terms mid).injected (V.store.last + 1) ≡ false
        honest =
            ap (λ (f : ℕ → Bool). f (V.store.last + 1)) (told_injected weight t.0.sides [] v asks own)
            ∙ ap (λ n. (terms ms).injected (n + 1)) (ap (λ (x : Stored). x.last) (all_told_bus weight t.0.sides v).store)
            ∙ fresh s.world here.holds.sound.stands

        packets_rom : (ps : List Outgoing) → t.0.packets ≡ ps → AreRequests old.target ps → Behind ps
        packets_rom [] e r = mid_rom ∙ sym (sent_none (demand_of action old) refl made e) ∙ ap (begun_rom action) (sym mid_rom)
        packets_rom (p ∷ []) e r =
            let to : node_of V.generations (suc i) p.to ≡ Some 0 = ap (node_of V.generations (suc i)) r.0 ∙ there in
            subst (λ n. rom_at (map said (onto (packet_note n (suc i) p V ++ []) told_notes) ++ asks) i ≡ begun_rom action (rom_at mid i)) (sym to)
            (asked_rom action (number_in p.label) r.1.kind (V.store.last + 1) (topology_at V.generations (suc i)).generation 0 p.bytes mid i (line_stays told_notes asks) r.1.part honest)
        packets_rom (p ∷ other ∷ more) e r = absurd r

        abbrev now : List Moment
        now = map said (onto (handed (suc i) weight t.0 v) []) ++ asks

        now_is : rom_at now i ≡ begun_rom action (rom_at ms i)
        now_is =
            ap (λ ns. rom_at (map said ns ++ asks) i) (onto_both (notes_told weight t.0.sides v) (notes_sent (suc i) t.0.packets V) [])
            ∙ packets_rom t.0.packets refl sends ∙ ap (begun_rom action) mid_rom

        begun_management : (a : Action) (r : Rom) → (begun_rom a r).management ≡ r.management
        begun_management actions.Rom r = refl
        begun_management a r = refl

        few_by : (b : Bool) → is_rom_action action ≡ b → IfRom t.1 (λ r. length t.1.quads < 256)
        few_by true e r f g =
            subst (λ xs. length xs < 256) (sym (ap (λ (x : Rom). x.quads) (behind_rom ∙ ap (λ a. begun_rom a (own_rom old)) (action_is action e)))) (omega arith)
        few_by false e r f g =
            subst (λ xs. length xs < 256) (sym (ap (λ (x : Rom). x.quads) (behind_rom ∙ other_begun action e (own_rom old))))
            (known.few r (was e r f g) g)
          where
            other_begun : (a : Action) → is_rom_action a ≡ false → (x : Rom) → begun_rom a x ≡ x
            other_begun actions.Rom z x = untrue (sym z)
            other_begun a z x = refl

            was : is_rom_action action ≡ false → (r : Running) → t.1.operation ≡ Some r → r.operation ≡ operations.Rom → old.operation ≡ Some r
            was z r f g = act_was units ready start past s here i inside roms action t turn_is z r f g

        pub act_known : KnownOf now i t.1
        act_known = record {
          is = ap known_rom now_is ∙ begun_known (rom_at ms i) ∙ ap (begun_rom action) known.is ∙ sym behind_rom;
          small = subst IsSmallDistance (sym (ap (λ (r : Rom). r.management) now_is ∙ begun_management action (rom_at ms i))) known.small;
          few = few_by (is_rom_action action) refl;
        }

        pub act_beside : (j : ℕ) → (i == j) ≡ false → AllBeside j (notes_told weight t.0.sides v)
        act_beside j away = others_told (notes_told weight t.0.sides v) i j away left.owned

  -- a read of a ROM that times out is of the operation
  late_rom : (past : List Moment) (s : Scene) (here : Place units ready start past s) (k : Known start (hist past s.world) s) (i : ℕ) (inside : i < length s.world.initiators) (label : LabelParts) → (let old = initiator_at s.world i in LateOfRom (expiring_step old.layer old.target label).0 old)
  late_rom past s here k i inside label = by (expiring_step old_state.layer old_state.target label).0 refl
    where
      old_state : InitiatorState
      old_state = initiator_at s.world i

      by : (r : Result (Option Purpose) Stale) → (expiring_step old_state.layer old_state.target label).0 ≡ r → LateOfRom r old_state
      by (Ok (Some (purposes.Rom act))) e =
          (k.0.each i inside).one.runs label.number act (expires_at old_state.layer old_state.target label (Some (purposes.Rom act)) (layer_called units ready start past s here i inside (k.0.each i inside)) e)
      by (Ok (Some purpose)) e = tt
      by (Ok None) e = tt
      by (Err stale) e = tt

  known_settled : (past : List Moment) (s : Scene) (done : Bool) → KnownsOf (hist past s.world) s.world → KnownsOf (hist past (settled_from done s).world) (settled_from done s).world
  known_settled past s true k = moved (hist past s.world) s.world k (said notes.Settled ∷ hist past s.world) (with_note notes.Settled s.world) refl (λ j. beside_rom notes.Settled (hist past s.world) j refl)
  known_settled past s false k = moved (hist past s.world) s.world k (said notes.Stopped ∷ hist past s.world) (with_note notes.Stopped s.world) refl (λ j. beside_rom notes.Stopped (hist past s.world) j refl)

  -- ---- what is known behind each call
  pub known_cases : CarriedCases units ready start (Known start) (λ t. Unit {0})
  known_cases = record {
    heard = λ past s serial again run one found zero_to may others here behind told k.
        let x = received run one.generation one.bytes (whole_of s.world.target s.media) in
        let u = with_target x.1.node s.world in
        let note = judged_note serial x.0 in
        let v = with_note note (marked serial again u) in
        let was = was_sent s.world here.holds.sound.stands serial one found in
        let first : (j : ℕ) → rom_at (hist past v) j ≡ rom_at (hist past s.world) j = λ j.
        ap (λ ns. rom_at (map said ns ++ past) j) (ap (λ ns. note ∷ ns) (marked_fresh serial again u)) ∙ judged_beside serial (hist past s.world) j (as_sending one) was (ap (λ n. n == suc j) zero_to ∙ apart j) x.0 in (
          tt,
          (
            ((rom_cases units ready start).heard past s serial again run one found zero_to may others here behind told k.0).1,
            target_turn (hist past s.world) s.world k.1 past v 0 x.1.outbox first (marked_alike u serial again).initiators others,
          ),
        );
    heard_own = λ past s serial again one i found to_is inside own here behind told k.
        let old = initiator_at s.world i in
        let x = receive_step one.generation one.bytes empty_outbox old in
        let u = with_initiator i x.1.1 s.world in
        let note = judged_note serial x.0 in
        let v = with_note note (marked serial again u) in
        let was = was_sent s.world here.holds.sound.stands serial one found in
        let fresh_is = ap (λ ns. note ∷ ns) (marked_fresh serial again u) in
        let there : one.to ≤ length s.world.initiators = omega (arith, to_is, inside) in
        let row = row_there s.world here.holds.sound.stands serial one found there old.layer (ap (layers_of s.world) to_is) in
        let kn = known past s here k i inside in
        let L = heard_learns units ready start past s here i inside (k.0.each i inside) serial one found to_is kn row told.judged in
        let q = heard_quads (judging_step old.layer one.generation one.bytes).0 old.quads in
        let first : known_rom (rom_at (hist past v) i) ≡ rom q old.management =
        ap (λ ns. known_rom (rom_at (map said ns ++ past) i)) fresh_is ∙ heard_first units ready start past s here i inside (k.0.each i inside) serial one found to_is kn row told.judged in
        let small : IsSmallDistance (rom_at (hist past v) i).management =
        subst (λ ns. IsSmallDistance (rom_at (map said ns ++ past) i).management) (sym fresh_is) (heard_small units ready start past s here i inside (k.0.each i inside) serial one found to_is kn x.0) in
        let c = here.calls i inside in
        let few = few_behind old q x.1 L.0 L.1 kn.few (λ r e. was_by old x.1.1 _ (hears_left old one.generation one.bytes (hears_fit c.ready i old c.called one.generation one.bytes)) r e) in
        let others : (j : ℕ) → (i == j) ≡ false → rom_at (hist past v) j ≡ rom_at (hist past s.world) j = λ j away.
        ap (λ ns. rom_at (map said ns ++ past) j) fresh_is ∙ judged_beside serial (hist past s.world) j (as_sending one) was (ap (λ n. n == suc j) to_is ∙ sucs i j away) x.0 in (
          tt,
          (
            ((rom_cases units ready start).heard_own past s serial again one i found to_is inside own here behind told k.0).1,
            hands past s here k i inside q past x.1 v L.0 (marked_alike u serial again).initiators others (call_known past s here k i inside q past x.1 v L.0 told.line few first small),
          ),
        );
    late = λ past s serial request done t found node_is e others here behind told k.
        let note = notes.TimedOut serial in
        let v = with_note note (with_target t.node s.world) in (
          tt,
          (
            ((rom_cases units ready start).late past s serial request done t found node_is e others here behind told k.0).1,
            target_turn (hist past s.world) s.world k.1 past v 0 t.outbox (λ j. beside_rom note (hist past s.world) j refl) refl others,
          ),
        );
    late_own = λ past s serial request i outbox state found node_is inside e own here behind told k.
        let old = initiator_at s.world i in
        let note = notes.TimedOut serial in
        let v = with_note note (with_initiator i state s.world) in
        let t : Called = (outbox, state) in
        let kn = known past s here k i inside in
        let c = here.calls i inside in
        let turn_is : (expire_step request.label empty_outbox old).1 ≡ t = ap (λ (z : Bool × Called). z.1) e in
        let L : Learns old old.quads t = subst (Learns old old.quads) turn_is (expire_learns c.ready i old c.called request.label (late_rom past s here k i inside request.label)) in
        let few = few_behind old old.quads t L (inl refl) kn.few
        (λ r f. was_by old (expire_step request.label empty_outbox old).1.1 _ (lapses_left old request.label (expires_fit c.ready i old c.called request.label)) r (ap (λ (x : Called). x.1.operation) turn_is ∙ f)) in
        let first : known_rom (rom_at (hist past v) i) ≡ rom old.quads old.management = ap known_rom (beside_rom note (hist past s.world) i refl) ∙ kn.is in
        let small : IsSmallDistance (rom_at (hist past v) i).management = subst (λ (r : Rom). IsSmallDistance r.management) (sym (beside_rom note (hist past s.world) i refl)) kn.small in (
          tt,
          (
            ((rom_cases units ready start).late_own past s serial request i outbox state found node_is inside e own here behind told k.0).1,
            hands past s here k i inside old.quads past t v L refl (λ j away. beside_rom note (hist past s.world) j refl) (call_known past s here k i inside old.quads past t v L told.line few first small),
          ),
        );
    sees = λ past s others here behind told k.
        let g = s.world.generations.latest in
        let x = (seen g.generation (id_of g 0) (target.scene s.world.target empty_outbox)).1 in
        let note = notes.Seen 0 g.generation in
        let v = with_target x.node (with_seen 0 (told_seen 0 s.world)) in (
          tt,
          (
            ((rom_cases units ready start).sees past s others here behind told k.0).1,
            target_turn (hist past s.world) s.world k.1 past v 0 x.outbox (λ j. beside_rom note (hist past s.world) j refl) refl others,
          ),
        );
    sees_own = λ past s i inside own here behind told k.
        let old = initiator_at s.world i in
        let g = s.world.generations.latest in
        let x = see_step g.generation (id_of g (suc i)) (id_of g 0) empty_outbox old in
        let note = notes.Seen (suc i) g.generation in
        let v = with_initiator i x.1 (with_seen (suc i) (told_seen (suc i) s.world)) in
        let kn = known past s here k i inside in
        let L = sees_learns g.generation (id_of g (suc i)) (id_of g 0) old in
        let few = few_behind old old.quads x L (inl refl) kn.few (λ r f. seen_was g.generation (id_of g (suc i)) (id_of g 0) old r f) in
        let first : known_rom (rom_at (hist past v) i) ≡ rom old.quads old.management = ap known_rom (beside_rom note (hist past s.world) i refl) ∙ kn.is in
        let small : IsSmallDistance (rom_at (hist past v) i).management = subst (λ (r : Rom). IsSmallDistance r.management) (sym (beside_rom note (hist past s.world) i refl)) kn.small in (
          tt,
          (
            ((rom_cases units ready start).sees_own past s i inside own here behind told k.0).1,
            hands past s here k i inside old.quads past x v L refl (λ j away. beside_rom note (hist past s.world) j refl) (call_known past s here k i inside old.quads past x v L told.line few first small),
          ),
        );
    ticks = λ past s others here behind told k.
        let x = ticked (target.scene s.world.target empty_outbox) in
        let v = with_target x.node (with_note notes.Tick s.world) in (
          tt,
          (
            ((rom_cases units ready start).ticks past s others here behind told k.0).1,
            target_turn (hist past s.world) s.world k.1 past v 0 x.outbox (λ j. beside_rom notes.Tick (hist past s.world) j refl) refl others,
          ),
        );
    ends = λ past s done here behind k. (tt, (((rom_cases units ready start).ends past s done here behind k.0).1, known_settled past s done k.1));
    acts = λ past s line i action outbox state inside e own here behind k.
        let v = with_initiator i state (without_notes s.world) in
        let then = asked line (events.Act i action) ∷ hist past s.world in
        let weight = weight_in action in
        let one_more : suc i ≡ i + 1 = omega arith in
        let kn = act_known past s here k i inside line weight action (outbox, state) own e in
        let at_own = own_turn (hist past s.world) s.world k.1 then v i weight outbox state inside (λ j away. refl) (λ j away. act_beside past s here k i inside line weight action (outbox, state) own e j away) refl kn in (
          tt,
          (
            ((rom_cases units ready start).acts past s line i action outbox state inside e own here behind k.0).1,
            subst (λ n. KnownsOf (hist then (handed_out n weight outbox v)) (handed_out n weight outbox v)) one_more at_own,
          ),
        );
    lines = λ past s line event rest behind brings fresh here there stays k.
        let now = asked line event ∷ hist past s.world in (
          tt,
          (
            ((rom_cases units ready start).lines past s line event rest behind brings fresh here there stays k.0).1,
            subst (λ ns. KnownsOf (map said ns ++ now) behind.world) (sym fresh) (line_turn (hist past s.world) s.world k.1 line s event rest behind brings stays.1.1),
          ),
        );
    begins = λ line initiators is_ready. tt;
  }

-- ---- where a run begins
first_rom : (line i initiators : ℕ) (is_ready : Bool) → i < initiators → known_rom (rom_at (said (notes.Begin initiators is_ready) ∷ asked line (events.Begin initiators is_ready) ∷ []) i) ≡ own_rom (new_state i is_ready)
unfolding new_state
first_rom line i initiators true b = let e : nat_lt i initiators ≡ true = grind (arith, nat_tests) in ap (λ c. known_rom (rom_in (cond c (ready_host i) new_host))) e
first_rom line i initiators false b = refl

first_small : (line i initiators : ℕ) (is_ready : Bool) → IsSmallDistance (rom_at (said (notes.Begin initiators is_ready) ∷ asked line (events.Begin initiators is_ready) ∷ []) i).management
first_small line i initiators is_ready = by (is_ready && nat_lt i initiators)
  where
    by : (b : Bool) → IsSmallDistance (rom_in (cond b (ready_host i) new_host)).management
    by true = omega arith
    by false = tt

first_known : (line i initiators : ℕ) (is_ready : Bool) → i < initiators → KnownOf (said (notes.Begin initiators is_ready) ∷ asked line (events.Begin initiators is_ready) ∷ []) i (new_state i is_ready)
first_known line i initiators is_ready b = record { is = first_rom line i initiators is_ready b; small = first_small line i initiators is_ready; few = λ r e k. none_is r (sym (first_none i is_ready) ∙ e) }

first_knowns : Begins Known
unfolding new_world
first_knowns line run has there = (
  first_roms line run has there,
  record {
    each = λ i b.
        let few : i < run.initiators = subst (λ n. i < n) (initiators_size run.initiators run.ready) b in
        subst (KnownOf (hist (first_past line run.initiators run.ready) (beginning run).world) i) (sym (states_at run.initiators i run.ready (new_state 0 false) few)) (first_known line i run.initiators run.ready few);
  },
)

-- ---- a law of turns that knows this of the place before each
abbrev pub KnowingCases : (units ready : ℕ) (start : List Disk) → (Turn → Type 0) → Type 0
KnowingCases units ready start L = CasesOf units ready start (λ s t now behind. Known start t.past s → L t) (λ s t now behind. Known start t.past s → L t) (λ line initiators is_ready. L (turn [] (asked line (events.Begin initiators is_ready)) (notes_begin initiators is_ready ∷ [])))

beside_known : (units ready : ℕ) (start : List Disk) (L : Turn → Type 0) → KnowingCases units ready start L → CarriedCases units ready start (Known start) L
beside_known units ready start L cases =
    let kept = known_cases units ready start in
    record {
      heard = λ past s serial again run one found zero_to may others here behind noted k. (cases.heard past s serial again run one found zero_to may others here behind noted k, (kept.heard past s serial again run one found zero_to may others here behind noted k).1);
      heard_own = λ past s serial again one i found to_is inside own here behind noted k. (cases.heard_own past s serial again one i found to_is inside own here behind noted k, (kept.heard_own past s serial again one i found to_is inside own here behind noted k).1);
      late = λ past s serial request done t found node_is e others here behind noted k. (cases.late past s serial request done t found node_is e others here behind noted k, (kept.late past s serial request done t found node_is e others here behind noted k).1);
      late_own = λ past s serial request i outbox state found node_is inside e own here behind noted k. (cases.late_own past s serial request i outbox state found node_is inside e own here behind noted k, (kept.late_own past s serial request i outbox state found node_is inside e own here behind noted k).1);
      sees = λ past s others here behind noted k. (cases.sees past s others here behind noted k, (kept.sees past s others here behind noted k).1);
      sees_own = λ past s i inside own here behind noted k. (cases.sees_own past s i inside own here behind noted k, (kept.sees_own past s i inside own here behind noted k).1);
      ticks = λ past s others here behind noted k. (cases.ticks past s others here behind noted k, (kept.ticks past s others here behind noted k).1);
      ends = λ past s done here behind k. (cases.ends past s done here behind k, (kept.ends past s done here behind k).1);
      acts = λ past s line i action outbox state inside e own here behind k. (cases.acts past s line i action outbox state inside e own here behind k, (kept.acts past s line i action outbox state inside e own here behind k).1);
      lines = λ past s line event rest behind brings fresh here there stays k. (cases.lines past s line event rest behind brings fresh here there k, (kept.lines past s line event rest behind brings fresh here there stays k).1);
      begins = cases.begins;
    }

pub of_every_known : (L : List Disk → Turn → Type 0) → ((units ready : ℕ) (start : List Disk) → 0 < units → KnowingCases units ready start (L start)) → OfEveryRun (λ start past. EachTurn (L start) past)
of_every_known L cases = of_every_carried Known L first_knowns (λ units ready start has. beside_known units ready start (L start) (cases units ready start has))

-- and so it is behind each line of a run
module _ (line : ℕ) (run : Run) (few : run.initiators ≤ 4) (has : 0 < run.units) (small : run.units ≤ 4) (size : length run.start.disks ≡ run.units) where
  pub known_after : (entries : List Entry) → length entries + 2 < 2 ^ 32 → AreEntries (beginning run) entries → AreLines run entries → Known run.start.disks (moments_behind line run entries) (after (beginning run) entries)
  known_after entries short every fit = kept_after Known (λ start t. Unit {0}) first_knowns (λ units ready start has. known_cases units ready start) line run few has small size entries short every fit
