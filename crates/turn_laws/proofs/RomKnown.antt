-- What an initiator has of a ROM is what the terms have, behind each of its own calls: the quadlets that it read, and where MANAGEMENT_AGENT stands.
use Rattle.std.proofs.Common.{arith, ◌≡◌, ◌∙◌, inl, inr, refl, sym, ap, subst, ℕ, suc, ◌+◌, ◌<◌, ◌≤◌, ◌==◌, ◌&&◌, nat_lt, Bool, true, false, cond, List, [], ◌∷◌, ◌++◌, map, length, Option, Some, None, Result, Ok}
use Rattle.std.proofs.lemmas.Bool.Decides.{nat_tests}
use Rattle.std.proofs.lemmas.Option.{same_Some}
use Rattle.async_packet.specs.Labels.{LabelParts}
use Rattle.async_packet.specs.Packet.{Packet, header_in}
use Rattle.async_packet.specs.Reading.{reading}
use Rattle.async_packet.specs.declared.fault.PacketFault.{PacketFault}
use Rattle.bus_transactions.specs.Fitting.{AreBytes}
use Rattle.bus_transactions.specs.Judging.{AreJudged}
use Rattle.bus_transactions.specs.Reached.{IsAwaited}
use Rattle.bus_transactions.specs.Rows.{shape}
use Rattle.bus_transactions.specs.Wire.{as_sending, transaction}
use Rattle.bus_transactions.proofs.PacketParts.{PartOf, asks, part_case, part_read, replies}
use Rattle.bus_transactions.proofs.Reaches.{goes_on}
use Rattle.initiator_base.specs.Quads.{with_quad as with_own}
use Rattle.label_table.specs.Judging.{by_request}
use Rattle.label_table.specs.Peers.{purpose_for}
use Rattle.label_table.specs.Layer.{Finding, Layer, judging_step, of_again, of_generation, of_grammar, of_label, of_request, of_response}
use Rattle.orb_layout.specs.Replies.{Answer, Payload}
use Rattle.packet_store.specs.Kept.{found_sent}
use Rattle.packet_store.specs.declared.sent.Sent.{Sent}
use Rattle.rbc_disk.specs.Disk.{Disk}
use Rattle.sbp_base.specs.Quadlets.{quad}
use Rattle.sbp_bus.specs.Generations.{node_of, topology_at}
use Rattle.sbp_bus.specs.Packets.{judged_note}
use Rattle.sbp_initiator.proofs.Histories.Over.{sound}
use Rattle.sbp_initiator.proofs.Histories.Purposes.{kind_in}
use Rattle.sbp_initiator.specs.Effects.{Turn}
use Rattle.sbp_initiator.specs.Histories.Ends.{own}
use Rattle.sbp_initiator.specs.Receiving.{receive_step, received}
use Rattle.sbp_initiator.specs.States.{ending_of}
use Rattle.sbp_initiator.specs.declared.purpose.Ending.{Ending}
use Rattle.sbp_initiator.specs.declared.purpose.Ending.TheVariants as endings
use Rattle.sbp_initiator.specs.declared.purpose.Purpose.{Purpose}
use Rattle.sbp_initiator.specs.declared.purpose.Purpose.TheVariants as purposes
use Rattle.sbp_initiator.specs.declared.purpose.Running.{Running}
use Rattle.sbp_initiator.specs.declared.state.InitiatorState.{InitiatorState}
use Rattle.sbp_journal.specs.Outgoings.{empty_outbox}
use Rattle.sbp_journal.specs.Run.{Moment, said}
use Rattle.sbp_journal.specs.Transactions.{Kind, Sending, Transaction, begun_by, reading_quadlet}
use Rattle.sbp_journal.specs.Wire.{Terms, terms, waits}
use Rattle.sbp_journal.specs.declared.cause.Cause.{Cause}
use Rattle.sbp_journal.specs.declared.cause.Cause.TheVariants as causes
use Rattle.sbp_journal.specs.declared.cause.Judged.{Judged}
use Rattle.sbp_journal.specs.declared.cause.Judged.TheVariants as judgements
use Rattle.sbp_journal.specs.declared.note.Note.{Note}
use Rattle.sbp_journal.specs.declared.note.Note.TheVariants as notes
use Rattle.sbp_journal.specs.declared.operation.Operation.{Operation}
use Rattle.sbp_journal.specs.declared.operation.Operation.TheVariants as operations
use Rattle.sbp_journal.specs.declared.operation.OpWord.{OpWord}
use Rattle.sbp_journal.specs.declared.operation.OpWord.TheVariants as words
use Rattle.sbp_journal.specs.declared.outbox.Outgoing.{Outgoing}
use Rattle.sbp_laws.specs.Hosts.{Host, Underway, host_at, is_latest, is_rom, with_quad}
use Rattle.sbp_laws.specs.Packets.{answer_in, answer_of, answered_at, packet_at, packet_in, spelled_by}
use Rattle.sbp_laws.specs.Turns.{event_of}
use Rattle.sbp_world.proofs.Agents.Management.Hearing.{IsAnswer, answers, answers_none}
use Rattle.sbp_world.proofs.Agents.Management.Holding.{is_of, past_terms, was_sent}
use Rattle.sbp_world.proofs.Agents.Management.Still.{hist}
use Rattle.sbp_world.proofs.Common.{equal, same_number, untrue}
use Rattle.sbp_world.proofs.Hosts.Aimed.{IsAimed}
use Rattle.sbp_world.proofs.Hosts.Carries.{IsNoAct}
use Rattle.sbp_world.proofs.Hosts.Outboxes.{line_stays}
use Rattle.sbp_world.proofs.Hosts.Lives.{At, Called}
use Rattle.sbp_world.proofs.Hosts.Shown.{IsShown}
use Rattle.sbp_world.proofs.Hosts.Shows.{shown_now}
use Rattle.sbp_world.proofs.Lists.LiveRefusing.{label_number}
use Rattle.sbp_world.proofs.Pointers.Ending.{read_in}
use Rattle.sbp_world.proofs.Pointers.Finds.{closes_at}
use Rattle.sbp_world.specs.Hosts.Core.{Core, operation_by, work_in, work_of}
use Rattle.sbp_world.specs.Sending.{sent}
use Rattle.sbp_world.specs.Telling.{told_all}
use Rattle.sbp_world.specs.Wire.Wires.{Stands}
use Rattle.sbp_world.specs.Worlds.{Scene, WorldState, initiator_at}
use Rattle.turn_laws.proofs.FoundRows.{Asks, RowFor}
use Rattle.turn_laws.proofs.Handed.{handed, notes_sent, notes_told, onto, onto_both, packet_note}
use Rattle.turn_laws.proofs.HostRoms.{AllOwn, Rom, all_told, beside_rom, got_quads, got_rom, left_rom, note_rom, rom, rom_at, sent_rom, told_rom}
use Rattle.turn_laws.proofs.OwnAnswers.{IsEndOf, IsRead, gives, lapses, packet_ends, quad_read, read_small, refuses}
use Rattle.turn_laws.proofs.OwnFacts.{operation_same}
use Rattle.turn_laws.proofs.Places.{HasCalls, HasPairs, Place}
use Rattle.turn_laws.proofs.RomEnds.{known_at, left_own, own_rom, read_on}
use Rattle.turn_laws.proofs.RomLabels.{IfRom, IsRom, RomAt, RomLabel}
use Rattle.turn_laws.proofs.RomReads.{HeardOfRom, IsShort, Learns, heard_quads, hears_learns, note_own, told_own}
use Rattle.turn_laws.proofs.ReadsUnderWay.{Waiting, waits_now}
use Rattle.turn_laws.proofs.RomSmall.{IsSmallDistance, read_small as small_read}
use Rattle.turn_laws.proofs.RomTies.{RomOf}
use Rattle.turn_laws.proofs.OwnNotes.{own_told}

-- what it has by what the terms have
abbrev pub known_rom : Rom → Rom
known_rom r = rom r.quads (known_at r.management)

pub record KnownOf (past : List Moment) (i : ℕ) (s : InitiatorState) : Type 0 where
  pub is : known_rom (rom_at past i) ≡ own_rom s
  pub small : IsSmallDistance (rom_at past i).management
  pub few : IfRom s (λ r. length s.quads < 256)

-- ---- its notes
left_known : (operation : Operation) (word : OpWord) (r : Rom) → known_rom (left_rom operation word r) ≡ left_own operation word (known_rom r)
left_known operations.Rom words.Done r = refl
left_known operations.Rom word r = refl
left_known operation word r = refl

note_known : (note : Note) (r : Rom) → known_rom (note_rom note r) ≡ note_own note (known_rom r)
note_known (notes.Op j operation word) r = left_known operation word r
note_known note r = refl

-- which leave a distance of 24 bits
left_small : (operation : Operation) (word : OpWord) (r : Rom) → IsSmallDistance r.management → IsSmallDistance (left_rom operation word r).management
left_small operations.Rom words.Done r h = small_read r.quads
left_small operations.Rom word r h = h
left_small operation word r h = h

note_small : (note : Note) (r : Rom) → IsSmallDistance r.management → IsSmallDistance (note_rom note r).management
note_small (notes.Op j operation word) r h = left_small operation word r h
note_small note r h = h

told_small : (ns : List Note) (r : Rom) → IsSmallDistance r.management → IsSmallDistance (told_rom ns r).management
told_small [] r h = h
told_small (note ∷ later) r h = told_small later (note_rom note r) (note_small note r h)

told_known : (ns : List Note) (r : Rom) → known_rom (told_rom ns r) ≡ told_own ns (known_rom r)
told_known [] r = refl
told_known (note ∷ later) r = told_known later (note_rom note r) ∙ ap (told_own later) (note_known note r)

-- its packets, in a line that is no action of it
module _ (i from : ℕ) (past : List Moment) where
  one_sent : (to : Option ℕ) (packet : Outgoing) (w : WorldState) (old : List Note) → IsNoAct i (event_of past) → rom_at (map said (onto (packet_note to from packet w) old) ++ past) i ≡ rom_at (map said old ++ past) i
  one_sent None packet w old n = refl
  one_sent (Some to) packet w old n = sent_rom (w.store.last + 1) (topology_at w.generations from).generation from to packet.bytes (map said old ++ past) i (subst (IsNoAct i) (sym (line_stays old past)) n)

  pub all_sent : (packets : List Outgoing) (w : WorldState) (old : List Note) → IsNoAct i (event_of past) → rom_at (map said (onto (notes_sent from packets w) old) ++ past) i ≡ rom_at (map said old ++ past) i
  all_sent [] w old n = refl
  all_sent (packet ∷ later) w old n =
      let to = node_of w.generations from packet.to in
      let first = packet_note to from packet w in
      let rest = notes_sent from later (sent from packet w) in
      ap (λ ns. rom_at (map said ns ++ past) i) (onto_both first rest old) ∙ all_sent later (sent from packet w) (onto first old) n ∙ one_sent to packet w old n

-- ---- behind a call in such a line, whose first note leaves these quadlets
module _ (i : ℕ) (s : InitiatorState) (number : s.number ≡ i) (q : List ℕ) (then : List Moment) (t : Turn) (weight : ℕ) (v : WorldState) where
  abbrev told_notes : (L : Learns s q t) → List Note
  told_notes L = onto L.told v.fresh

  told_are : (L : Learns s q t) → notes_told weight t.0.sides v ≡ L.told
  told_are L = ap (λ xs. notes_told weight xs v) L.sides ∙ own_told weight L.told v

  now_is : (L : Learns s q t) → IsNoAct i (event_of then) → rom_at (map said (onto (handed (suc i) weight t.0 v) v.fresh) ++ then) i ≡ told_rom L.told (rom_at (map said v.fresh ++ then) i)
  now_is L n =
      let V = told_all weight t.0.sides v in
      ap (λ ns. rom_at (map said ns ++ then) i) (onto_both (notes_told weight t.0.sides v) (notes_sent (suc i) t.0.packets V) v.fresh)
      ∙ ap (λ ns. rom_at (map said (onto (notes_sent (suc i) t.0.packets V) (onto ns v.fresh)) ++ then) i) (told_are L)
      ∙ all_sent i (suc i) then t.0.packets V (told_notes L) n
      ∙ all_told L.told v.fresh then i (subst (λ n. AllOwn n L.told) number L.owned)

  pub now_known : (L : Learns s q t) → IsNoAct i (event_of then) → known_rom (rom_at (map said v.fresh ++ then) i) ≡ rom q s.management → known_rom (rom_at (map said (onto (handed (suc i) weight t.0 v) v.fresh) ++ then) i) ≡ own_rom t.1
  now_known L n e = ap known_rom (now_is L n) ∙ told_known L.told (rom_at (map said v.fresh ++ then) i) ∙ ap (told_own L.told) e ∙ sym L.is

  pub now_small : (L : Learns s q t) → IsNoAct i (event_of then) → IsSmallDistance (rom_at (map said v.fresh ++ then) i).management → IsSmallDistance (rom_at (map said (onto (handed (suc i) weight t.0 v) v.fresh) ++ then) i).management
  now_small L n h = subst (λ (r : Rom). IsSmallDistance r.management) (sym (now_is L n)) (told_small L.told (rom_at (map said v.fresh ++ then) i) h)

-- ---- a quadlet more
pub one_longer : (quads : List ℕ) (value : ℕ) → length (quads ++ (value ∷ [])) ≡ suc (length quads)
one_longer [] value = refl
one_longer (quad ∷ quads) value = ap suc (one_longer quads value)

pub more_quads : (quads : List ℕ) (value : ℕ) → length quads < 256 → with_own quads value ≡ quads ++ (value ∷ [])
more_quads quads value few = (let e : nat_lt (length quads) 256 ≡ true = grind (arith, nat_tests) in ap (λ b. cond b (quads ++ (value ∷ [])) quads) e)

pub read_more : (quads : List ℕ) → length quads < 256 → (ending : Ending) → length (read_on ending quads) ≤ 256
read_more quads few (endings.Complete value) = (let n : length (with_own quads value) ≡ suc (length quads) = ap (λ (xs : List ℕ). length xs) (more_quads quads value few) ∙ one_longer quads value in omega (arith, n, few))
read_more quads few (endings.Refused rcode) = omega (arith, few)
read_more quads few endings.Expired = omega (arith, few)

read_same : (quads : List ℕ) → length quads < 256 → (ending : Ending) (answer : Answer) → IsRead ending answer → with_quad answer true quads ≡ read_on ending quads
read_same quads few _ _ (gives value bytes e) = ap (λ x. quads ++ (x ∷ [])) e ∙ sym (more_quads quads value few)
read_same quads few _ _ (refuses rcode) = refl
read_same quads few _ _ lapses = refl

no_quad : (answer : Answer) (quads : List ℕ) → with_quad answer false quads ≡ quads
no_quad (Payload bytes) quads = refl
no_quad answer quads = refl

-- ---- the operation of the terms, by that of the initiator
pub rom_operation : (u : Underway) (r : Running) → u.operation ≡ r.operation → is_rom (Some u) ≡ true → r.operation ≡ operations.Rom
rom_operation u r e f = sym e ∙ by u.operation refl f
  where
    by : (operation : Operation) → u.operation ≡ operation → is_rom (Some (record u { operation = operation })) ≡ true → operation ≡ operations.Rom
    by operations.Rom g k = refl
    by operation g k = untrue k

pub word_is : (u : Underway) (r : Running) → work_of (Some u) ≡ work_in (Some r) → r.operation ≡ operations.Rom → is_rom (Some u) ≡ true
word_is u r w k = ap (λ o. is_rom (Some (record u { operation = o }))) (operation_same u r w ∙ k)

no_work : (u : Underway) → work_of (Some u) ≡ work_in None → ⊥
no_work u w = (let no : Some u.operation ≡ None = ap operation_by w in cc)

none_works : (r : Running) → work_of None ≡ work_in (Some r) → ⊥
none_works r w = (let no : None ≡ Some r.operation = ap operation_by w in cc)

-- ---- at a place
module _ (units ready : ℕ) (start : List Disk) (past : List Moment) (s : Scene) (here : Place units ready start past s) (i : ℕ) (inside : i < length s.world.initiators) (h : RomOf (hist past s.world) i (initiator_at s.world i)) where
  abbrev old : InitiatorState
  old = initiator_at s.world i

  abbrev ms : List Moment
  ms = hist past s.world

  abbrev wire : Terms
  wire = terms ms

  abbrev host : Host
  host = host_at ms i

  stands : Stands past s.world
  stands = here.holds.sound.stands

  pairs : HasPairs ms i old
  pairs = here.reads i inside

  aimed : IsAimed pairs.ready i old
  aimed = pairs.paired.guarded.aimed

  pub layer_called : Called old.layer
  layer_called = by (here.calls i inside)
    where
      by : HasCalls i old → Called old.layer
      by c =
          let k = (sound i c.ready c.called.calls).wires in record { node = 0xffc1 + i; calls = k.calls; is = k.layer_is ∙ ap (λ (x : InitiatorState). x.layer) c.called.is }

  shown : IsShown ms i old.target old.layer
  shown = shown_now s.world stands here.holds.sound.nodes i inside

  work_is : work_of host.operation ≡ work_in old.operation
  work_is = ap (λ (c : Core). c.work) (here.cores i inside)

  awaited : (u : Transaction) (kind : Kind) (serial : ℕ) → wire.held u ≡ waits kind serial → IsAwaited wire u kind serial
  awaited u kind serial held =
      subst (λ (t : Terms). IsAwaited t u kind serial) (past_terms s.world stands)
      (goes_on.awaited stands.wire u kind serial stands.reached (ap (λ (t : Terms). t.held u) (past_terms s.world stands) ∙ held))

  abbrev own_of : ℕ → Transaction
  own_of n = transaction old.layer.generation (suc i) 0 n

  -- the operation of the terms is a ROM exactly where its own is
  record Reading (u : Underway) : Type 0 where
    running : Running
    is : old.operation ≡ Some running
    kind : running.operation ≡ operations.Rom

  reads_own : (u : Underway) → host.operation ≡ Some u → is_rom (Some u) ≡ true → Reading u
  reads_own u e f = by old.operation refl (ap work_of (sym e) ∙ work_is)
    where
      by : (o : Option Running) → old.operation ≡ o → work_of (Some u) ≡ work_in o → Reading u
      by (Some r) g w = record { running = r; is = g; kind = rom_operation u r (operation_same u r w) f }
      by None g w = absurd (no_work u w)

  -- ---- a request to its target that awaits an answer under a label
  module _ (number : ℕ) (purpose : Option Purpose) (there : At old.layer old.target number purpose) (kind : Kind) (own : ℕ) (held_is : wire.held (own_of number) ≡ waits kind own) where
    pub waits_here : IsAwaited wire (own_of number) kind own
    waits_here = awaited (own_of number) kind own held_is

    -- the latest read of a ROM
    module _ (act : ℕ) (rom_is : purpose ≡ Some (purposes.Rom act)) where
      at_rom : RomAt old.layer old.target number act
      at_rom = subst (λ x. At old.layer old.target number x) rom_is there

      pub under_rom : IsRom act old.operation
      under_rom = h.one.runs number act at_rom

      abbrev pub RunsRom : Option Underway → Type 0
      RunsRom u = (is_rom u && is_latest u own) ≡ true

      latest_by : (u : Option Underway) → host.operation ≡ u → work_of u ≡ work_in (Some under_rom.running) → RunsRom u
      latest_by None f w = absurd (none_works under_rom.running w)
      latest_by (Some u) f w =
          ap (λ b. b && (u.latest == own)) (word_is u under_rom.running w under_rom.kind)
          ∙ ap (λ n. n == own) (sym (h.tie number act at_rom u f) ∙ sym waits_here.current) ∙ same_number own

      pub awaits_latest : RunsRom host.operation
      awaits_latest = latest_by host.operation refl (work_is ∙ ap work_in under_rom.is)

      pub awaits_quad : kind ≡ reading_quadlet
      awaits_quad = h.kind number act at_rom kind own held_is

    -- another request
    module _ (other : (act : ℕ) → purpose ≡ Some (purposes.Rom act) → ⊥) where
      other_by : (u : Underway) → host.operation ≡ Some u → (b c : Bool) → is_rom (Some u) ≡ b → (u.latest == own) ≡ c → (b && c) ≡ false
      other_by u f false c g k = refl
      other_by u f true false g k = refl
      other_by u f true true g k = absurd (other r.running.act (sym there.is_for ∙ ap (purpose_for old.layer.peers old.target) (sym label_is) ∙ l.at.is_for))
        where
          r : Reading u
          r = reads_own u f g

          l : RomLabel old.layer old.target r.running.act
          l = h.one.has r.running r.is r.kind

          waiting : Waiting (wire.held (own_of l.number))
          waiting = waits_now (wire.held (own_of l.number)) l.at.kind (sym (shown.states l.number) ∙ ap shape l.at.state)

          waits_there : IsAwaited wire (own_of l.number) waiting.kind waiting.serial
          waits_there = awaited (own_of l.number) waiting.kind waiting.serial waiting.is

          serial_is : waiting.serial ≡ own
          serial_is = waits_there.current ∙ h.tie l.number r.running.act l.at u f ∙ equal u.latest own k

          packet_same : waits_there.packet ≡ waits_here.packet
          packet_same = same_Some waits_there.packet waits_here.packet (sym waits_there.sent ∙ ap (λ n. wire.sent n) serial_is ∙ waits_here.sent)

          label_is : l.number ≡ number
          label_is =
              ap (λ (x : Transaction). x.label)
              (same_Some (own_of l.number) (own_of number) (sym waits_there.begun ∙ ap (λ x. begun_by x) packet_same ∙ waits_here.begun))

      pub awaits_other : (u : Option Underway) → host.operation ≡ u → (is_rom u && is_latest u own) ≡ false
      awaits_other None f = refl
      awaits_other (Some u) f = other_by u f (is_rom (Some u)) (u.latest == own) refl refl

  -- ---- a packet that it hears
  module _ (serial : ℕ) (one : Sent) (found : found_sent serial s.world.store.kept ≡ Some one) (to_is : one.to ≡ suc i) where
    abbrev q : Sending
    q = as_sending one

    pub was_it : wire.sent serial ≡ Some q
    was_it = was_sent s.world stands serial one found

    pub packet_is : (p : Packet) → reading one.bytes ≡ Ok p → packet_at wire serial ≡ Some p
    packet_is p read = ap packet_in was_it ∙ ap (λ (r : Result Packet PacketFault). spelled_by r) read

    -- a response
    module _ (p : Packet) (label : LabelParts) (purpose : Option Purpose) (e : (judging_step old.layer one.generation one.bytes).0 ≡ of_response p label purpose) (judged : AreJudged (said (notes.Got serial) ∷ ms)) where
      pub read : reading one.bytes ≡ Ok p
      read = read_in old.layer one.generation one.bytes p label purpose e

      pub a : IsAnswer wire serial q p
      a = answers wire serial q p was_it read (kind_in old.layer one.generation one.bytes p label purpose e) (judged.0 q was_it)

      closes : At old.layer (header_in p).source label.number purpose
      closes = closes_at old.layer one.generation one.bytes p label purpose layer_called e

      source_is : (header_in p).source ≡ old.target
      source_is = aimed.aims (header_in p).source label.number purpose closes

      pub generation_now : one.generation ≡ old.layer.generation
      generation_now = a.current ∙ ap (λ n. wire.generation n) to_is ∙ sym shown.generation

      pub from_is : one.from ≡ 0
      from_is =
          ids_apart one.generation one.from 0 (sym ((is_of s.world stands serial one found).source p read) ∙ source_is ∙ sym shown.named ∙ ap (λ g. wire.ids g 0) (sym generation_now))
        where
          ids_apart : (generation one other : ℕ) → wire.ids generation one ≡ wire.ids generation other → one ≡ other
          ids_apart generation one other e =
              goes_on.apart stands.wire generation one other stands.reached
              (ap (λ (t : Terms). t.ids generation one) (past_terms s.world stands) ∙ e ∙ sym (ap (λ (t : Terms). t.ids generation other) (past_terms s.world stands)))

      pub there : At old.layer old.target label.number purpose
      there = subst (λ n. At old.layer n label.number purpose) source_is closes

      pub held_is : wire.held (own_of label.number) ≡ waits a.waited a.own
      held_is =
          ap (λ n. wire.held (own_of n)) (label_number old.layer one.generation one.bytes p label purpose e)
          ∙ ap (λ g. wire.held (transaction g (suc i) 0 (header_in p).label)) (sym generation_now)
          ∙ ap (λ n. wire.held (transaction one.generation n 0 (header_in p).label)) (sym to_is)
          ∙ ap (λ n. wire.held (transaction one.generation one.to n (header_in p).label)) (sym from_is)
          ∙ a.held

      answered : (u : Option Underway) → got_quads (answered_at wire serial) wire serial u host.quads ≡ with_quad (answer_of p) (is_rom u && is_latest u a.own) host.quads
      answered u =
          ap (λ x. got_quads x wire serial u host.quads) a.answered ∙ ap (λ x. with_quad (answer_in x) (is_rom u && is_latest u a.own) host.quads) (packet_is p read)

      -- how it ends its request
      pub packet_answers : IsEndOf a.waited (ending_of p) (answer_of p)
      packet_answers = packet_ends p (read_small one.bytes bytes_are p read) (header_in p).label a.kind a.waited (sym (part_read one.bytes p read) ∙ a.part) a.alike
        where
          bytes_are : AreBytes one.bytes
          bytes_are = (stands.is.knows.ours serial q (ap (λ (t : Terms). t.sent serial) (past_terms s.world stands) ∙ was_it)).bytes

      -- of a read of a quadlet
      pub quad_answers : a.waited ≡ reading_quadlet → IsRead (ending_of p) (answer_of p)
      quad_answers quad = quad_read (ending_of p) (answer_of p) (subst (λ k. IsEndOf k (ending_of p) (answer_of p)) quad packet_answers)

      -- of the latest read of a ROM
      module _ (act : ℕ) (rom_is : purpose ≡ Some (purposes.Rom act)) where
        pub is_of_rom : IsRom act old.operation
        is_of_rom = under_rom label.number purpose there a.waited a.own held_is act rom_is

        pub latest : (is_rom host.operation && is_latest host.operation a.own) ≡ true
        latest = awaits_latest label.number purpose there a.waited a.own held_is act rom_is

        pub reads : IsRead (ending_of p) (answer_of p)
        reads = quad_answers (awaits_quad label.number purpose there a.waited a.own held_is act rom_is)

      -- of another request
      pub not_latest : ((act : ℕ) → purpose ≡ Some (purposes.Rom act) → ⊥) → (u : Option Underway) → host.operation ≡ u → (is_rom u && is_latest u a.own) ≡ false
      not_latest other u f = awaits_other label.number purpose there a.waited a.own held_is other u f

    -- ---- the first note of its turn
    module _ (k : KnownOf ms i old) where
      ignored : (cause : Cause) → known_rom (rom_at (said (notes.Ignored serial cause) ∷ ms) i) ≡ own_rom old
      ignored cause = ap known_rom (beside_rom (notes.Ignored serial cause) ms i refl) ∙ k.is

      got : (quads : List ℕ) → got_quads (answered_at wire serial) wire serial host.operation host.quads ≡ quads → known_rom (rom_at (said (notes.Got serial) ∷ ms) i) ≡ rom quads old.management
      got quads e =
          ap known_rom (got_rom serial q ms i was_it to_is) ∙ ap (λ xs. rom xs (known_at host.management)) e ∙ ap (λ m. rom quads m) (ap (λ (r : Rom). r.management) k.is)

      pub quads_are : host.quads ≡ old.quads
      quads_are = ap (λ (r : Rom). r.quads) k.is

      module _ (p : Packet) (label : LabelParts) (purpose : Option Purpose) (e : (judging_step old.layer one.generation one.bytes).0 ≡ of_response p label purpose) (judged : AreJudged (said (notes.Got serial) ∷ ms)) where
        plain_response : ((act : ℕ) → purpose ≡ Some (purposes.Rom act) → ⊥) → got_quads (answered_at wire serial) wire serial host.operation host.quads ≡ old.quads
        plain_response other =
            answered p label purpose e judged host.operation ∙ ap (λ b. with_quad (answer_of p) b host.quads) (not_latest p label purpose e judged other host.operation refl)
            ∙ no_quad (answer_of p) host.quads ∙ quads_are

        rom_response : (act : ℕ) → purpose ≡ Some (purposes.Rom act) → got_quads (answered_at wire serial) wire serial host.operation host.quads ≡ read_on (ending_of p) old.quads
        rom_response act f =
            let r = is_of_rom p label purpose e judged act f in
            answered p label purpose e judged host.operation ∙ ap (λ b. with_quad (answer_of p) b host.quads) (latest p label purpose e judged act f)
            ∙ ap (with_quad (answer_of p) true) quads_are
            ∙ read_same old.quads (k.few r.running r.is r.kind) (ending_of p) (answer_of p) (reads p label purpose e judged act f)

        response_quads : (other : Option Purpose) → purpose ≡ other → got_quads (answered_at wire serial) wire serial host.operation host.quads ≡ heard_quads (of_response p label other) old.quads
        response_quads None f = plain_response (λ act g. (let no : None ≡ Some (purposes.Rom act) = sym f ∙ g in cc))
        response_quads (Some (purposes.Rom act)) f = rom_response act f
        response_quads (Some (purposes.Pointer list)) f = plain_response (λ act g. (let no : Some (purposes.Pointer list) ≡ Some (purposes.Rom act) = sym f ∙ g in cc))
        response_quads (Some purposes.Doorbell) f = plain_response (λ act g. (let no : Some purposes.Doorbell ≡ Some (purposes.Rom act) = sym f ∙ g in cc))
        response_quads (Some (purposes.AgentReset other)) f = plain_response (λ act g. (let no : Some (purposes.AgentReset other) ≡ Some (purposes.Rom act) = sym f ∙ g in cc))
        response_quads (Some (purposes.Enable other)) f = plain_response (λ act g. (let no : Some (purposes.Enable other) ≡ Some (purposes.Rom act) = sym f ∙ g in cc))
        response_quads (Some (purposes.Management other)) f = plain_response (λ act g. (let no : Some (purposes.Management other) ≡ Some (purposes.Rom act) = sym f ∙ g in cc))
        response_quads (Some (purposes.State other list)) f = plain_response (λ act g. (let no : Some (purposes.State other list) ≡ Some (purposes.Rom act) = sym f ∙ g in cc))

        response_rom : (other : Option Purpose) → purpose ≡ other → HeardOfRom (of_response p label other) old
        response_rom (Some (purposes.Rom act)) f = is_of_rom p label purpose e judged act f
        response_rom other f = tt

        response_few : (other : Option Purpose) → purpose ≡ other → IsShort old.quads (heard_quads (of_response p label other) old.quads)
        response_few (Some (purposes.Rom act)) f = (let r = is_of_rom p label purpose e judged act f in inr (read_more old.quads (k.few r.running r.is r.kind) (ending_of p)))
        response_few (Some (purposes.Pointer list)) f = inl refl
        response_few (Some purposes.Doorbell) f = inl refl
        response_few (Some (purposes.AgentReset other)) f = inl refl
        response_few (Some (purposes.Enable other)) f = inl refl
        response_few (Some (purposes.Management other)) f = inl refl
        response_few (Some (purposes.State other list)) f = inl refl
        response_few None f = inl refl

      pub unanswered : (p : Packet) → Asks wire q p by_request → PartOf p → answered_at wire serial ≡ None
      unanswered p a (asks l kind part none) = answers_none wire serial q l kind was_it (part_read one.bytes p a.read ∙ part)
      unanswered p a (replies l kind part some) = absurd (let no : Some _ ≡ None = sym some ∙ a.none in cc)

      request_quads : (p : Packet) → Asks wire q p by_request → (j : Judged) → known_rom (rom_at (said (judged_note serial j) ∷ ms) i) ≡ own_rom old
      request_quads p a judgements.Got = got old.quads (ap (λ x. got_quads x wire serial host.operation host.quads) (unanswered p a (part_case p)) ∙ quads_are)
      request_quads p a (judgements.Ignored cause) = ignored cause

      first_management : (j : Judged) → (rom_at (said (judged_note serial j) ∷ ms) i).management ≡ host.management
      first_management judgements.Got = ap (λ (r : Rom). r.management) (got_rom serial q ms i was_it to_is)
      first_management (judgements.Ignored cause) = ap (λ (r : Rom). r.management) (beside_rom (notes.Ignored serial cause) ms i refl)

      pub heard_small : (j : Judged) → IsSmallDistance (rom_at (said (judged_note serial j) ∷ ms) i).management
      heard_small j = subst IsSmallDistance (sym (first_management j)) k.small

      -- what is known of what it finds
      record Found (x : Finding Purpose × Layer Purpose) : Type 0 where
        pub first : known_rom (rom_at (said (judged_note serial (received x one.bytes empty_outbox old).0) ∷ ms) i) ≡ rom (heard_quads x.0 old.quads) old.management
        pub of_rom : HeardOfRom x.0 old
        pub short : IsShort old.quads (heard_quads x.0 old.quads)

      found_by : (x : Finding Purpose × Layer Purpose) → judging_step old.layer one.generation one.bytes ≡ x → RowFor wire q old.layer.node x → AreJudged (said (judged_note serial (received x one.bytes empty_outbox old).0) ∷ ms) → Found x
      found_by (of_generation, l) e row judged = record { first = ignored causes.Generation; of_rom = tt; short = inl refl }
      found_by (of_grammar, l) e row judged = record { first = ignored causes.Grammar; of_rom = tt; short = inl refl }
      found_by (of_label, l) e row judged = record { first = ignored causes.Label; of_rom = tt; short = inl refl }
      found_by (of_response p label purpose, l) e row judged =
          let f = ap (λ (y : Finding Purpose × Layer Purpose). y.0) e in
          record { first = got _ (response_quads p label purpose f judged purpose refl); of_rom = response_rom p label purpose f judged purpose refl; short = response_few p label purpose f judged purpose refl }
      found_by (of_again p rcode, l) e row judged = record { first = ignored causes.Again; of_rom = tt; short = inl refl }
      found_by (of_request p, l) e row judged = record { first = request_quads p row (received (of_request p, l) one.bytes empty_outbox old).0; of_rom = tt; short = inl refl }

      pub heard_first : RowFor wire q old.layer.node (judging_step old.layer one.generation one.bytes) → AreJudged (said (judged_note serial (receive_step one.generation one.bytes empty_outbox old).0) ∷ ms)
          → known_rom (rom_at (said (judged_note serial (receive_step one.generation one.bytes empty_outbox old).0) ∷ ms) i) ≡ rom (heard_quads (judging_step old.layer one.generation one.bytes).0 old.quads) old.management
      unfolding receive_step
      heard_first row judged = (found_by (judging_step old.layer one.generation one.bytes) refl row judged).first

      pub heard_learns : RowFor wire q old.layer.node (judging_step old.layer one.generation one.bytes) → AreJudged (said (judged_note serial (receive_step one.generation one.bytes empty_outbox old).0) ∷ ms)
          → Learns old (heard_quads (judging_step old.layer one.generation one.bytes).0 old.quads) (receive_step one.generation one.bytes empty_outbox old).1 × IsShort old.quads (heard_quads (judging_step old.layer one.generation one.bytes).0 old.quads)
      unfolding receive_step
      heard_learns row judged =
          let f = found_by (judging_step old.layer one.generation one.bytes) refl row judged in
          (hears_learns pairs.ready i old aimed.own.called one.generation one.bytes f.of_rom, f.short)
