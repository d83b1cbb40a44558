-- An initiator hears a status block for the operation that it has under way: that is the one which waited for it, with the bytes that the target had to write.
use Rattle.sbp_world.proofs.Words.Std.{◌≡◌, ◌∙◌, refl, sym, ap, subst, ℕ, suc, ◌<◌, List, ◌∷◌, ◌++◌, map, length, Option, Some, Ok}
use Rattle.sbp_world.proofs.Words.Wire.{Packet, header_in, write_block, reading, SerialsCount, as_sending, Sent, found_sent, judged_note, empty_outbox, Moment, asked, said, Sending, terms, Judged, Event, Note}
use Rattle.sbp_world.proofs.Words.Target.{status_block, Disk}
use Rattle.sbp_world.proofs.Words.Initiator.{start_of, Running, InitiatorState, receive_step, status_in}
use Rattle.sbp_world.proofs.Words.World.{more_deliveries, Stands, Scene, WorldState, initiator_at, AreAsked, IsTelling, IsTold, outgoing_for}
use Rattle.bus_memory.specs.declared.window.Window.TheVariants as windows
use Rattle.bus_transactions.proofs.Reaches.{goes_on}
use Rattle.sbp_world.proofs.Hosts.Shows.{shown_now}
use Rattle.sbp_world.proofs.Hosts.Shown.{IsShown}
use Rattle.mgmt_agent.specs.declared.status.Status.TheVariants as statuses
use Rattle.sbp_journal.specs.declared.cause.Judged.TheVariants as judgements
use Rattle.sbp_journal.specs.declared.note.Note.TheVariants as notes
use Rattle.sbp_world.proofs.Agents.Management.Holding.{Holding, is_of, was_sent}
use Rattle.sbp_world.proofs.Agents.Management.Still.{hist}
use Rattle.sbp_world.proofs.Lists.Courses.{Goes, by_delivery, by_end, by_line, by_start}
use Rattle.sbp_world.proofs.Lists.LiveBlocks.{SentBlock, TellsBlock, good_status, same_status, sent_block, tells_block}
use Rattle.sbp_world.proofs.Lists.LiveCalled.{Begins}
use Rattle.sbp_world.proofs.Lists.LiveHears.{IsAnswered}
use Rattle.sbp_world.proofs.Lists.LiveLeads.{hands_before}
use Rattle.sbp_world.proofs.Lists.LiveRuns.{base_of}
use Rattle.sbp_world.proofs.Lists.LiveStandings.{good_block}
use Rattle.sbp_world.proofs.Lists.LiveTogether.{turn_begins}
use Rattle.sbp_world.proofs.Lists.LiveTold.{HeardFirst}
use Rattle.sbp_world.proofs.Lists.ManageFinds.{block_is_got, read_request}
use Rattle.sbp_world.proofs.Lists.ManageMoments.{Hands, TakeFacts}
use Rattle.sbp_world.proofs.Lists.ManageSends.{opened_terms}
use Rattle.sbp_world.proofs.Lists.ManageTerms.{same_some}
use Rattle.sbp_world.proofs.Lists.ManageOwn.{is_orb}
use Rattle.sbp_world.proofs.Common.{said_split as split}

-- as a turn begins the wire is what it was
pub record SameWire (before base : List Moment) : Type 0 where
  pub sent : (terms base).sent ≡ (terms before).sent
  pub generation : (terms base).generation ≡ (terms before).generation

line_wire : (line : ℕ) (event : Event) (past : List Moment) → SameWire past (asked line event ∷ past)
line_wire line event past = let o = opened_terms event (terms past) in record { sent = o.sent; generation = o.generation }

pub turn_wire : (past : List Moment) (s : Scene) (later : List Moment) (t : Scene) (g : Goes past s later t) → SameWire (hist past s.world) (map said (base_of g) ++ later)
turn_wire past s later t (by_line past0 s0 line event told one fit may) = line_wire line event (hist past s.world)
turn_wire past s later t (by_start past0 s0 line most) = line_wire line (more_deliveries most) (hist past s.world)
turn_wire past s later t (by_delivery past0 s0 one may no_acts) = record { sent = refl; generation = refl }
turn_wire past s later t (by_end past0 s0 done) = record { sent = refl; generation = refl }

-- the status block that waited, with what it says
pub record HasPending (start : List Disk) (before : List Moment) (i status : ℕ) : Type 0 where
  pub orb : ℕ
  pub bytes : List ℕ
  pub tells : IsTold start before i orb bytes
  pub good : bytes ≡ good_block orb → status ≡ 0
  pub only : status ≡ 0 → bytes ≡ good_block orb

module _ (units ready : ℕ) (start : List Disk) {past : List Moment} {lines : ℕ} (w : WorldState) (h : Holding units ready start past lines w) (i : ℕ) (inside : i < length w.initiators) (base : List Moment) (begins : Begins start (hist past w) base i) (wire : SameWire (hist past w) base) (serial : ℕ) (sent : Sent) (found : found_sent serial w.store.kept ≡ Some sent) (to_is : sent.to ≡ suc i) (f : TakeFacts start base i serial) where
  abbrev before : List Moment
  before = hist past w

  abbrev s : InitiatorState
  s = initiator_at w i

  abbrev stands : Stands past w
  stands = h.sound.stands

  packet_is : f.packet ≡ as_sending sent
  packet_is = same_some f.packet (as_sending sent) (sym f.facts.sent ∙ ap (λ (g : ℕ → Option Sending). g serial) wire.sent ∙ was_sent w stands serial sent found)

  to_it : f.packet.to ≡ suc i
  to_it = ap (λ (q : Sending). q.to) packet_is ∙ to_is

  bytes_are : f.packet.bytes ≡ sent.bytes
  bytes_are = ap (λ (q : Sending). q.bytes) packet_is

  shown : IsShown before i s.target s.layer
  shown = shown_now w stands h.sound.nodes i inside

  generation_is : sent.generation ≡ s.layer.generation
  generation_is =
      sym (ap (λ (q : Sending). q.generation) packet_is) ∙ f.facts.current ∙ ap (terms base).generation to_it ∙ ap (λ (g : ℕ → ℕ). g (suc i)) wire.generation ∙ sym shown.generation

  apart : (generation one other : ℕ) → (terms before).ids generation one ≡ (terms before).ids generation other → one ≡ other
  apart generation one other e =
      goes_on.apart stands.wire generation one other stands.reached (ap (λ ms. (terms ms).ids generation one) stands.is.past_is ∙ e ∙ sym (ap (λ ms. (terms ms).ids generation other) stands.is.past_is))

  -- it comes from the target, where it names it
  of_target : (p : Packet) → reading sent.bytes ≡ Ok p → (header_in p).source ≡ s.target → f.packet.from ≡ 0
  of_target p r e =
      let source = (is_of w stands serial sent found).source p r in
      ap (λ (q : Sending). q.from) packet_is
      ∙ apart s.layer.generation sent.from 0 (ap (λ g. (terms before).ids g sent.from) (sym generation_is) ∙ sym source ∙ e ∙ sym shown.named)

  module _ (counts : SerialsCount before) (contents : AreAsked start before) (running : Running) (status : ℕ) (a : IsAnswered s sent.generation sent.bytes running status) where
    abbrev at : (place : ℕ) × ((place < 2) × (a.block.orb ≡ start_of (windows.Management place)))
    at = is_orb running.managed a.block.orb a.names

    read : reading sent.bytes ≡ Ok (write_block a.header a.offset a.payload)
    read = read_request s.layer sent.generation sent.bytes (write_block a.header a.offset a.payload) a.found

    telling : IsTelling start before i serial at.0
    telling =
        begins.calm.telling serial at.0
        (f.tells to_it (of_target (write_block a.header a.offset a.payload) read a.source) a.header a.offset a.payload (ap reading bytes_are ∙ read) s.counts.logins _ a.opens a.block a.read status a.kind at.0 at.1.0 at.1.1)

    abbrev orb : ℕ
    orb = start_of (windows.Management at.0)

    blocked : SentBlock start before serial telling.op a.payload
    blocked =
        let same : as_sending sent ≡ telling.packet = same_some (as_sending sent) telling.packet (sym (was_sent w stands serial sent found) ∙ telling.sent) in
        sent_block start before counts serial telling.op (contents.each serial telling.op telling.is_for) telling.status telling.packet telling.sent a.header a.offset a.payload (ap (λ (q : Sending). reading q.bytes) (sym same) ∙ read)

    payload_is : a.payload ≡ status_block orb blocked.status
    payload_is = blocked.payload_is ∙ ap (λ n. status_block n blocked.status) telling.orb

    told : TellsBlock at.0 blocked.status a.block status
    told = tells_block at.0 at.1.0 blocked.status a.block status (subst (λ (p : List ℕ). status_in p ≡ Ok a.block) payload_is a.read) a.kind

    pub pends : HasPending start before i status
    pends = record {
      orb = orb;
      bytes = outgoing_for start before serial;
      tells = record { serial = serial; place = at.0; telling = telling; orb_is = refl; bytes_are = refl };
      good = λ e. told.number_is ∙ same_status at.0 at.1.0 blocked.status statuses.NoFault (sym payload_is ∙ sym blocked.outgoing_is ∙ e);
      only = λ e. blocked.outgoing_is ∙ payload_is ∙ good_status blocked.status (sym told.number_is ∙ e) orb;
    }

-- ---- in a turn of a run

module _ (units ready : ℕ) (start : List Disk) (past : List Moment) (s : Scene) (later : List Moment) (t : Scene) {lines : ℕ} (g : Goes past s later t) (h : Holding units ready start past lines s.world) (i : ℕ) (inside : i < length s.world.initiators) (hands : Hands start i (hist later t.world)) (counts : SerialsCount (hist past s.world)) (contents : AreAsked start (hist past s.world)) (serial : ℕ) (sent : Sent) (found : found_sent serial s.world.store.kept ≡ Some sent) (to_is : sent.to ≡ suc i) where
  abbrev own : InitiatorState
  own = initiator_at s.world i

  abbrev behind : List Moment
  behind = map said (base_of g) ++ later

  module _ (judged : Judged) (is_got : judged ≡ judgements.Got) (first : HeardFirst serial judged (base_of g) t.world.fresh) where
    now_is : hist later t.world ≡ map said first.more ++ (said (notes.Got serial) ∷ behind)
    now_is =
        ap (λ (ns : List Note). map said ns ++ later) first.is
        ∙ split first.more (judged_note serial judged ∷ base_of g) later
        ∙ ap (λ (j : Judged). map said first.more ++ (said (judged_note serial j) ∷ behind)) is_got

    hands_got : Hands start i (said (notes.Got serial) ∷ behind)
    hands_got = hands_before start i first.more (said (notes.Got serial) ∷ behind) (subst (λ ms. Hands start i ms) now_is hands)

    pub pends_by : (running : Running) (status : ℕ) → IsAnswered own sent.generation sent.bytes running status → HasPending start (hist past s.world) i status
    pends_by running status a = pends units ready start s.world h i inside behind (turn_begins start i past s later t g hands_got.1) (turn_wire past s later t g) serial sent found to_is hands_got.0 counts contents running status a

  -- a status block for the operation is got
  pub pends_now : (running : Running) (status : ℕ) → own.operation ≡ Some running → HeardFirst serial (receive_step sent.generation sent.bytes empty_outbox own).0 (base_of g) t.world.fresh → IsAnswered own sent.generation sent.bytes running status → HasPending start (hist past s.world) i status
  pends_now running status is first a =
      pends_by (receive_step sent.generation sent.bytes empty_outbox own).0
      (block_is_got own sent.generation sent.bytes running (record { header = a.header; offset = a.offset; payload = a.payload; found = a.found; source = a.source; is_open_fifo = a.opens; block = a.block; read = a.read; status = status; kind = a.kind; names = a.names }) is)
      first running status a
