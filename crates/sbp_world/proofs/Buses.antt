-- What the bus of a world does is what the world does by it. The fields of the world are seen one by one (`view`).
use Rattle.sbp_world.proofs.Words.Std.{if◌then◌else◌, ◌∙◌, ap}
use Rattle.sbp_world.proofs.Words.Wire.{LabelParts, is_flying, deliver_step, BusState, judged_as, judged_note, no_packet, node_of, Judged, Note, Outgoing, OutboxState, Side}
use Rattle.sbp_world.proofs.Words.Initiator.{TicketParts}
use Rattle.sbp_world.proofs.Words.World.{marked, handed_out, reset_line, inject_line, injected, injected_to, lose_line, lost, refused, asked, posted, sent, sent_all, sent_to, ticket_in, told, told_all, WorldState, bus_of, with_bus, with_note}
use Rattle.std.specs.Prelude.{◌≡◌, ℕ, ◌+◌, ◌||◌, not, Bool, true, false, List, [], ◌∷◌, Option, Some, None, refl}
use Rattle.sbp_bus.specs.Buses as buses
use Rattle.sbp_bus.specs.Packets as packets
use Rattle.sbp_bus.specs.Sending as sending
use Rattle.sbp_bus.specs.Telling as telling
use Rattle.sbp_journal.specs.declared.side.Side.TheVariants as sides

pub noted_on : (note : Note) (view old : WorldState) (new : BusState) → view ≡ old → new ≡ buses.with_note note (bus_of view) → with_bus new view ≡ with_note note old
noted_on note view old new v e = ap (λ b. with_bus b view) e ∙ ap (λ w. with_note note w) v

-- ---- what nodes tell

told_by : (weight : ℕ) (side : Side) (w : WorldState) → with_bus (telling.told weight (ticket_in side w) side (bus_of w)) w ≡ told weight side w
unfolding told
told_by weight (sides.Own note) w = refl
told_by weight (sides.Opened place orb) w = refl
told_by weight (sides.Ran place orb cdb payload outcome) w = refl
told_by weight (sides.Ended place orb status) w = refl
told_by weight (sides.Dead place cause) w = refl
told_by weight (sides.Cut place cause) w = refl
told_by weight (sides.Managed node function subject status login) w = refl
told_by weight (sides.ManageFailed node cause) w = refl
told_by weight (sides.Held login) w = refl
told_by weight (sides.Expired login) w = refl
told_by weight (sides.Back login) w = refl
told_by weight (sides.Left login) w = refl
told_by weight (sides.Cleared unit) w = refl
told_by weight (sides.Unsolicited place) w = refl
told_by weight (sides.Unsent place) w = refl

pub told_on : (weight : ℕ) (ticket : Option TicketParts) (side : Side) (old : WorldState) (new : BusState) → ticket ≡ ticket_in side old → new ≡ telling.told weight ticket side (bus_of old) → with_bus new old ≡ told weight side old
told_on weight ticket side old new t e =
    ap (λ b. with_bus b old) e ∙ (ap (λ x. with_bus (telling.told weight x side (bus_of old)) old) t ∙ told_by weight side old)

-- ---- packets that leave

asked_by : (serial to node peer : ℕ) (label : Option LabelParts) (w : WorldState) → with_bus (sending.asked serial to node peer label (bus_of w)) w ≡ asked serial to node peer label w
asked_by serial to node peer None w = refl
asked_by serial to node peer (Some label) w = refl

posted_by : (from to : ℕ) (injected : Bool) (bytes : List ℕ) (w : WorldState) → with_bus (sending.posted from to injected bytes (bus_of w)) w ≡ posted from to injected bytes w
unfolding posted
posted_by from to injected bytes w = refl

sent_to_by : (to : Option ℕ) (from : ℕ) (packet : Outgoing) (w : WorldState) → with_bus (sending.sent_to to from packet (bus_of w)) w ≡ sent_to to from packet w
unfolding posted
sent_to_by None from packet w = refl
sent_to_by (Some to) from packet w =
    asked_by (w.store.last + 1) to from packet.to packet.label (posted from to false packet.bytes w)

sent_by : (from : ℕ) (packet : Outgoing) (w : WorldState) → with_bus (sending.sent from packet (bus_of w)) w ≡ sent from packet w
unfolding sent sending.sent
sent_by from packet w = sent_to_by (node_of w.generations from packet.to) from packet w

all_sent_by : (from : ℕ) (all : List Outgoing) (w : WorldState) → with_bus (sending.sent_all from all (bus_of w)) w ≡ sent_all from all w
unfolding sent_all sending.sent_all
all_sent_by from [] w = refl
all_sent_by from (packet ∷ later) w =
    ap (λ v. with_bus (sending.sent_all from later (bus_of v)) v) (sent_by from packet w) ∙ all_sent_by from later (sent from packet w)

-- after what the node told
pub handed_on : (node weight : ℕ) (outbox : OutboxState) (all : List Outgoing) (view mid old : WorldState) (new : BusState) → view ≡ mid → mid ≡ told_all weight outbox.sides old → all ≡ outbox.packets → new ≡ sending.sent_all node all (bus_of view) → with_bus new view ≡ handed_out node weight outbox old
handed_on node weight outbox all view mid old new v t p e =
    ap (λ b. with_bus b view) e ∙ (all_sent_by node all view ∙ (ap (λ w. sent_all node all w) (v ∙ t) ∙ ap (λ x. sent_all node x (told_all weight outbox.sides old)) p))

-- ---- a delivery

mark_by : (stays : Bool) (serial : ℕ) (judged : Judged) (w : WorldState) → with_bus (buses.with_note (judged_note serial judged) (if stays then bus_of w else record (bus_of w) { store = deliver_step w.store serial })) w ≡ with_note (judged_note serial judged) (if stays then w else record w { store = deliver_step w.store serial })
mark_by true serial judged w = refl
mark_by false serial judged w = refl

judged_by : (serial : ℕ) (again : Bool) (judged : Judged) (w : WorldState) → with_bus (judged_as serial again judged (bus_of w)) w ≡ with_note (judged_note serial judged) (marked serial again w)
unfolding judged_as
judged_by serial again judged w = mark_by (again || not (is_flying serial w.store.kept)) serial judged w

pub judged_on : (serial : ℕ) (again : Bool) (judged : Judged) (old : WorldState) (new : BusState) → new ≡ judged_as serial again judged (bus_of old) → with_bus new old ≡ with_note (judged_note serial judged) (marked serial again old)
judged_on serial again judged old new e = ap (λ b. with_bus b old) e ∙ judged_by serial again judged old

-- ---- lines

lose_by : (b : Bool) (line serial : ℕ) (w : WorldState) → with_bus (if b then packets.lost serial (bus_of w) else packets.refused line no_packet (bus_of w)) w ≡ (if b then lost serial w else refused line no_packet w)
lose_by true line serial w = refl
lose_by false line serial w = refl

lost_by : (line serial : ℕ) (w : WorldState) → with_bus (packets.lose_line line serial (bus_of w)) w ≡ lose_line line serial w
unfolding lose_line packets.lose_line
lost_by line serial w = lose_by (is_flying serial w.store.kept) line serial w

pub lost_on : (line serial : ℕ) (view old : WorldState) (new : BusState) → view ≡ old → new ≡ packets.lose_line line serial (bus_of view) → with_bus new view ≡ lose_line line serial old
lost_on line serial view old new v e =
    ap (λ b. with_bus b view) e ∙ (lost_by line serial view ∙ ap (λ w. lose_line line serial w) v)

inject_by : (to : Option ℕ) (line from : ℕ) (bytes : List ℕ) (w : WorldState) → with_bus (packets.injected to line from bytes (bus_of w)) w ≡ injected to line from bytes w
inject_by None line from bytes w = refl
inject_by (Some to) line from bytes w = posted_by from to true bytes w

injected_by : (line initiator : ℕ) (bytes : List ℕ) (w : WorldState) → with_bus (packets.inject_line line (initiator + 1) bytes (bus_of w)) w ≡ inject_line line initiator bytes w
unfolding inject_line packets.inject_line injected_to packets.injected_to
injected_by line initiator bytes w = inject_by (packets.injected_to (initiator + 1) bytes w.generations) line (initiator + 1) bytes w

pub injected_on : (line initiator : ℕ) (lent bytes : List ℕ) (view old : WorldState) (new : BusState) → view ≡ old → lent ≡ bytes → new ≡ packets.inject_line line (initiator + 1) lent (bus_of view) → with_bus new view ≡ inject_line line initiator bytes old
injected_on line initiator lent bytes view old new v l e =
    ap (λ b. with_bus b view) e ∙ (injected_by line initiator lent view ∙ (ap (λ bs. inject_line line initiator bs view) l ∙ ap (λ w. inject_line line initiator bytes w) v))

reset_by : (ids : List ℕ) (w : WorldState) → with_bus (packets.reset_line ids (bus_of w)) w ≡ reset_line ids w
unfolding reset_line
reset_by ids w = refl

pub reset_on : (lent ids : List ℕ) (view old : WorldState) (new : BusState) → view ≡ old → lent ≡ ids → new ≡ packets.reset_line lent (bus_of view) → with_bus new view ≡ reset_line ids old
reset_on lent ids view old new v l e =
    ap (λ b. with_bus b view) e ∙ (reset_by lent view ∙ (ap (λ is. reset_line is view) l ∙ ap (λ w. reset_line ids w) v))
