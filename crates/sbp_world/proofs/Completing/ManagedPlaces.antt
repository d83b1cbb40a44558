-- At each place of a run in which nobody injected packets, the response to the request that the management operation waits for is whole, where the write that it waits for is taken.
use Rattle.sbp_world.proofs.Words.Std.{arith, ◌≡◌, ◌∙◌, refl, sym, ap, subst, ◌<◌, ◌+◌, ◌++◌, inl, ℕ, suc, not, Bool, true, false, cond, List, [], ◌∷◌, length, Some, same_Some, true≢false}
use Rattle.sbp_world.proofs.Words.Wire.{Access, Finding, Kind, Layer, Moment, Node, Packet, Sending, Sent, SerialsCount, Stored, Terms, as_sending, between, found_kept, header_in, judging_step, part_of, response, said, terms, transaction, writing}
use Rattle.sbp_world.proofs.Words.Target.{Disk, Operation, Purpose, answer_in, high_eui_at, low_eui_at, source_in}
use Rattle.sbp_world.proofs.Words.Initiator.{Done, new_memory, start_of, window_at}
use Rattle.sbp_world.proofs.Words.Laws.{access_at, access_in, host_reply, id_for, packet_in, place_held, receiver_in, EachMoment, sender_in, target_at}
use Rattle.sbp_world.proofs.Words.World.{AccessOf, AreShort, BasedAt, IsCalm, IsInAPlace, IsSaid, IsTame, NoneInjected, Stands, WasAsked, WorldState, read_access}
use Rattle.bus_memory.proofs.Found.{window_here}
use Rattle.bus_memory.specs.declared.window.Window.TheVariants as windows
use Rattle.bus_transactions.proofs.Facts.{Facts, IsReply}
use Rattle.bus_transactions.proofs.FitJudged.{spelled}
use Rattle.bus_transactions.proofs.Follows.{IsKept, found_kept as flying, is_live}
use Rattle.bus_transactions.proofs.PacketParts.{part_read}
use Rattle.mgmt_agent.specs.declared.operation.Phase.{Phase}
use Rattle.mgmt_agent.specs.declared.operation.Phase.TheVariants as phases
use Rattle.sbp_journal.specs.declared.cause.Cause.{Cause}
use Rattle.sbp_journal.specs.declared.cause.Cause.TheVariants as causes
use Rattle.sbp_journal.specs.declared.note.Note.TheVariants as notes
use Rattle.sbp_target.proofs.Histories.Found.{IsFound, IsRead, found as found_as}
use Rattle.sbp_target.specs.declared.purpose.Purpose.TheVariants as purposes
use Rattle.sbp_world.specs.Agents.Holders.{IsOf}
use Rattle.sbp_world.specs.Completing.Managed.{IsManagedReply}
use Rattle.sbp_world.specs.Completing.ManagedRefusals.{is_hard}
use Rattle.sbp_world.specs.Completing.OperationsReplies.{Brings, IsWhole}
use Rattle.sbp_world.specs.Hosts.Remaining.{Remains}
use Rattle.sbp_world.proofs.Agents.Management.Hearing.{response_current}
use Rattle.sbp_world.proofs.Agents.Management.Holding.{Holding, past_terms, was_sent}
use Rattle.sbp_world.proofs.Agents.Management.Still.{hist}
use Rattle.sbp_world.proofs.Agents.Purposes.{Waits}
use Rattle.sbp_world.proofs.Common.{moment_joined, untrue}
use Rattle.sbp_world.proofs.Completing.AnswersMemory.{IsInside, inside_complete}
use Rattle.sbp_world.proofs.Completing.ManagedAnswers.{any_zero, block_zero}
use Rattle.sbp_world.proofs.Completing.ManagedGots.{IsGot, IsSaidFor}
use Rattle.sbp_world.proofs.Completing.ManagedReplies.{AnswersZero, IsTakenAt, answered_zero}
use Rattle.sbp_world.proofs.Completing.ManagedShapes.{Tells, kind_for, kind_is, read_kind, tells}
use Rattle.sbp_world.proofs.Completing.ManagedWire.{IsIgnoring, KnownAt, KnownMoments, known_moments}
use Rattle.sbp_world.proofs.Hosts.Carrying.{Stood}
use Rattle.sbp_world.proofs.Hosts.Deliveries.{GotsIn}
use Rattle.sbp_world.proofs.Hosts.Owing.{IsAsking, asking as asking_of}
use Rattle.sbp_world.proofs.Hosts.Remaining.{remains}
use Rattle.sbp_world.proofs.Hosts.SentMoments.{sent_below, serials_from}
use Rattle.sbp_world.proofs.Hosts.SlotIgnored.{AllWrites, is_refusal, refuses_there}
use Rattle.sbp_world.proofs.Lists.AnswersCarriedWrites.{low_fifo}
use Rattle.sbp_world.proofs.Lists.BufferClears.{few_of, own_at}
use Rattle.sbp_world.proofs.Lists.ContentManages.{bound}
use Rattle.sbp_world.proofs.Lists.Fair.{Told}
use Rattle.sbp_world.proofs.Lists.Heard.{Owned, Spells, spells, stored_by}
use Rattle.sbp_world.proofs.Lists.KeptTurns.{id_is, operation_is}
use Rattle.sbp_world.proofs.Lists.LiveSteps.{id_in}
use Rattle.sbp_world.proofs.Lists.ManagedGots as managed_gots
use Rattle.sbp_world.proofs.Lists.ManageTerms.{same_some}
use Rattle.sbp_world.proofs.Lists.OfficeWrites.{goes_of, op_placed}
use Rattle.sbp_world.proofs.Lists.OrbsHeard.{asked_by_it, from_is, manages_is, waiting}
use Rattle.sbp_world.proofs.Lists.OrbsRead.{access_there, sender_there}
use Rattle.sbp_world.proofs.Lists.OwnOps.{StoodThere, brings_held}
use Rattle.sbp_world.proofs.Lists.PlaceReplies.{place_length}
use Rattle.sbp_world.proofs.Lists.StatusLogins.{each_there}
use Rattle.sbp_world.proofs.Wire.Bus.{holds}
use Rattle.sbp_world.proofs.Lists.ManagedGots.{rom_high, rom_low}
use Rattle.sbp_world.proofs.Completing.AnswersOperation.{high_no_fifo, low_no_fifo}
use Rattle.sbp_world.proofs.Completing.AnswersGots.{IsPacket, packet_from}

-- ---- reads
abbrev eui_access : ℕ → Access
eui_access at = record { is_lock = false; is_write = false; is_block = false; offset = at; count = 4; payload = [] }

module _ (i : ℕ) (past : List Moment) where
  place_inside : (place : ℕ) → place < 2 → IsInside past i (read_access (start_of (windows.Management place)) 32) (windows.Management place)
  place_inside place small = record {
    found = window_here (new_memory []) (start_of (windows.Management place)) (windows.Management place) small (omega arith) (omega arith);
    lock = refl;
    some = omega arith;
    fifo = low_fifo (start_of (windows.Management place)) (omega (arith, small));
    opened = refl;
    room = omega arith;
    way = refl;
  }

  place_zero : (place : ℕ) → place < 2 → (host_reply past i (read_access (start_of (windows.Management place)) 32)).rcode ≡ 0
  place_zero place small = inside_complete past i (read_access (start_of (windows.Management place)) 32) (windows.Management place) (place_inside place small)

  high_zero : (host_reply past i (eui_access high_eui_at)).rcode ≡ 0
  high_zero = inside_complete past i (eui_access high_eui_at) windows.Rom (record { found = rom_high; lock = refl; some = omega arith; fifo = high_no_fifo; opened = refl; room = omega arith; way = refl })

  low_zero : (host_reply past i (eui_access low_eui_at)).rcode ≡ 0
  low_zero = inside_complete past i (eui_access low_eui_at) windows.Rom (record { found = rom_low; lock = refl; some = omega arith; fifo = low_no_fifo; opened = refl; room = omega arith; way = refl })

-- ---- a write that is taken
-- complete whenever it is got, and refused never
pub record IsTakenWrite (past : List Moment) (i ask : ℕ) (access : Access) : Type 0 where
  pub lock : access.is_lock ≡ false
  pub complete : (before : List Moment) → (host_reply before i access).rcode ≡ 0
  pub taken : IsTakenAt past ask

-- each one that such an operation of an initiator waits for
abbrev pub AreTakenWrites : (Operation → Type 0) → List Disk → List Moment → WorldState → Type 0
AreTakenWrites Which start past w = (op : Operation) → Which op → (i ask : ℕ) (access : Access) → (target_at start past).manager.operation ≡ Some op → i < length w.initiators → op.source ≡ id_for (terms past) 0 (suc i) → (target_at start past).manages ≡ Some ask → access_at (terms past) ask ≡ Some access → access.is_write ≡ true → IsTakenWrite past i ask access

pub record Kit (start : List Disk) (past : List Moment) (w : WorldState) : Type 0 where
  pub managed : managed_gots.Kit start past w
  pub told : Told past
  pub stood : (i : ℕ) → i < length w.initiators → Stood past i
  pub none : (i : ℕ) → i < length w.initiators → NoneInjected past i
  pub gots : GotsIn (IsGot past) past

-- what is ignored was sent before
pub ignored_sent : (all : List Moment) → KnownMoments all → SerialsCount all → (later earlier : List Moment) (ask : ℕ) (cause : Cause) → later ++ said (notes.Ignored ask cause) ∷ earlier ≡ all → (a : Sending) → (terms all).sent ask ≡ Some a → (terms earlier).sent ask ≡ Some a
ignored_sent all known counts later earlier ask cause is a sent =
    let there : IsIgnoring earlier ask = each_there KnownAt later (said (notes.Ignored ask cause)) earlier (subst KnownMoments (sym is) known) in
    let joined : (later ++ said (notes.Ignored ask cause) ∷ []) ++ earlier ≡ all = moment_joined later (said (notes.Ignored ask cause)) earlier ∙ is in
    let counts_there : SerialsCount ((later ++ said (notes.Ignored ask cause) ∷ []) ++ earlier) = subst SerialsCount (sym joined) counts in
    let remain : Remains earlier all = subst (Remains earlier) joined (remains (later ++ said (notes.Ignored ask cause) ∷ []) earlier counts_there) in
    let low = sent_below earlier ask there.packet (serials_from (later ++ said (notes.Ignored ask cause) ∷ []) earlier counts_there) there.sent in
    sym (remain.sent ask low) ∙ sent

module _ (units ready : ℕ) (has : 0 < units) (start : List Disk) {past : List Moment} {lines : ℕ} (w : WorldState) (h : Holding units ready start past lines w) (k : Kit start (hist past w) w) (tame : IsTame (hist past w)) where
  abbrev ms : List Moment
  ms = hist past w

  abbrev t : Terms
  t = terms ms

  abbrev stands : Stands past w
  stands = h.sound.stands

  known : KnownMoments ms
  known = subst KnownMoments stands.is.past_is (known_moments stands.wire stands.reached)

  module _ (sent : Sent) (packet : Packet) (m : IsManagedReply w sent packet) (op : Operation) (is : w.target.manager.operation ≡ Some op) where
    abbrev serial : ℕ
    serial = m.comes.serial

    pub of : (initiator : ℕ) × IsOf t (length w.initiators) initiator op.source
    of = k.managed.ground.known.held.operation op.source (ap source_in is)

    abbrev pub j : ℕ
    j = of.0

    pub within : j < length w.initiators
    within = of.1.small

    pub source_there : op.source ≡ id_in w j
    source_there = sym of.1.node_is ∙ (ap (λ n. id_for t 0 n) (let z : j + 1 ≡ suc j = omega arith in z) ∙ id_is units ready has start w h j within)

    pub source_is : op.source ≡ id_for t 0 (suc j)
    source_is = source_there ∙ sym (id_is units ready has start w h j within)

    pub calm : IsCalm ms j
    calm = tame j

    pub none : NoneInjected ms j
    none = k.none j within

    st : Stood ms j
    st = k.stood j within

    pub operation : (target_at start ms).manager.operation ≡ Some op
    operation = operation_is units ready has start w h j within ∙ is

    abbrev pub ask : ℕ
    ask = asked_by_it units ready has start w h serial sent m.comes.found m.comes.to packet m.label m.found

    pub manages : (target_at start ms).manages ≡ Some ask
    manages = manages_is units ready has start w h serial sent m.comes.found m.comes.to packet m.label m.found op is j source_is none calm

    abbrev q : Sending
    q = as_sending sent

    pub was : t.sent serial ≡ Some q
    was = was_sent w stands serial sent m.comes.found

    pub from_it : sent.from ≡ suc j
    from_it = from_is units ready has start w h serial sent m.comes.found m.comes.to packet m.label m.found op is j source_is

    -- ---- the request
    pub was_asked : WasAsked start ms ask op
    was_asked = k.managed.ground.known.are.each ask op (((bound start ms k.managed.ground.known.counts).own ask manages).0 ∙ operation)

    abbrev pub access : Access
    access = was_asked.access

    pub access_is : access_at t ask ≡ Some access
    access_is = access_there start ms k.managed.ground.known.counts ask op was_asked

    asking : IsPacket (t.sent ask)
    asking = packet_from (t.sent ask) 0 (sender_there start ms k.managed.ground.known.counts ask op was_asked)

    abbrev a : Sending
    a = asking.packet

    asked_from : a.from ≡ 0
    asked_from = same_Some a.from 0 (sym (ap sender_in asking.is) ∙ sender_there start ms k.managed.ground.known.counts ask op was_asked)

    asked_to : a.to ≡ suc j
    asked_to = same_Some a.to (suc j) (sym (ap receiver_in asking.is) ∙ goes_of units ready has start w h k.managed.ground j within op operation source_there ask manages)

    -- ---- the response answers it
    facts : Facts t
    facts = st.wire.facts

    pub read_is : IsRead sent.bytes packet true
    read_is = subst (λ (x : Finding Purpose). IsFound x w.target.layer (judging_step w.target.layer sent.generation sent.bytes).1 sent.bytes) m.found (found_as w.target.layer sent.generation sent.bytes)

    spelling : Spells packet
    spelling = spells packet read_is.kind

    part : part_of q.bytes ≡ response (header_in packet).label spelling.kind
    part = part_read sent.bytes packet read_is.read ∙ spelling.part

    generation_is : w.target.layer.generation ≡ t.generation 0
    generation_is =
        sym (ap (λ (l : Node). l.generation) (stands.is.layers_are 0 (omega arith)))
        ∙ (((holds stands.wire stands.reached).nodes 0).generation ∙ ap (λ (x : Terms). x.generation 0) (past_terms w stands))

    abbrev layer_now : Layer Purpose
    layer_now = (judging_step w.target.layer sent.generation sent.bytes).1

    pub in_generation : sent.generation ≡ t.generation 0
    in_generation = response_current w.target.layer layer_now sent.generation sent.bytes packet m.label (Some purposes.Management) (ap (λ (x : Finding Purpose). (x, layer_now)) m.found) ∙ generation_is

    honest : q.injected ≡ false
    honest = none calm serial q was from_it

    own : Owned serial w.store.kept sent
    own = stored_by serial w.store.kept sent (found_kept serial w.store.kept) refl m.comes.found

    abbrev pub waits_for_it : Waits (t.held (transaction (t.generation 0) 0 sent.from (header_in packet).label))
    waits_for_it = waiting units ready has start w h serial sent m.comes.found m.comes.to packet m.label m.found

    between_is : between q q.to q.from (header_in packet).label ≡ transaction (t.generation 0) 0 sent.from (header_in packet).label
    between_is = ap (λ x. transaction x q.to q.from (header_in packet).label) in_generation ∙ ap (λ x. transaction (t.generation 0) x q.from (header_in packet).label) m.comes.to

    fair : t.injects q.to ≡ false
    fair = ap t.injects m.comes.to ∙ k.told.fair

    live : is_live (t.flight serial) ≡ true
    live =
        let kept : IsKept ((terms stands.wire.past).sent serial) ((terms stands.wire.past).flight serial) own.one serial = flying (holds stands.wire stands.reached).follows serial own.one (ap (λ (x : Stored). found_kept serial x.kept) stands.is.store_is ∙ own.found) in
        ap (λ (x : Terms). is_live (x.flight serial)) (sym (past_terms w stands)) ∙ kept.live

    answers : t.answers serial ≡ Some ask
    answers =
        let f = (facts.flies serial q was).replies (header_in packet).label spelling.kind part honest live (ap not fair) in
        f.0 ∙ (ap (λ x. Some (t.current x)) between_is ∙ ap (λ n. Some n) (sym ((facts.tie (transaction (t.generation 0) 0 sent.from (header_in packet).label)).waiting waits_for_it.kind ask waits_for_it.is).0))

    replied : IsReply (t.sent serial) (t.sent ask)
    replied = facts.replied serial ask answers

    reply_is : replied.reply ≡ q
    reply_is = same_some replied.reply q (sym replied.reply_is ∙ was)

    asking_is : replied.asking ≡ a
    asking_is = same_some replied.asking a (sym replied.asking_is ∙ asking.is)

    abbrev kind : Kind
    kind = replied.kind

    kind_so : access.is_lock ≡ false → kind ≡ kind_for access
    kind_so lock = kind_is a.bytes replied.label kind access (ap (λ (x : Sending). part_of x.bytes) (sym asking_is) ∙ replied.asking_part) (ap (λ x. access_in (packet_in x)) (sym asking.is) ∙ access_is) lock

    told_by : AnswersZero ms ask a → IsTakenAt ms ask → Tells kind (answer_in packet)
    told_by got taken =
        let zero = answered_zero ms j st known k.told none calm ask a asking.is asked_from asked_to got taken serial answers q was in
        tells sent.bytes packet replied.label kind (spelled sent.bytes packet read_is.read) (sym (part_read sent.bytes packet read_is.read) ∙ (ap (λ (x : Sending). part_of x.bytes) (sym reply_is) ∙ replied.reply_part)) zero

    -- no read is refused
    unforged : a.injected ≡ false
    unforged = by a.injected refl
      where
        by : (b : Bool) → a.injected ≡ b → b ≡ false
        by true e = absurd (true≢false (sym ((facts.honest ask a asking.is).bold e) ∙ (ap t.injects asked_from ∙ k.told.fair)))
        by false e = refl

    reads_taken : access.is_write ≡ false → IsTakenAt ms ask
    reads_taken reads later earlier cause e hard =
        let spells : IsAsking a access = asking_of a access (ap (λ x. access_in (packet_in x)) (sym asking.is) ∙ access_is) in
        let refused = refuses_there later earlier j ask cause (subst (λ x. AllWrites x j) (sym e) st.writes) in
        let was_there : (terms earlier).sent ask ≡ Some a = sent_earlier later earlier cause e in
        true≢false (sym (refused.1 (refusal cause hard) a was_there asked_to asked_from unforged spells.spells spells.read access spells.asks).write ∙ reads)
      where
        refusal : (cause : Cause) → is_hard cause ≡ true → is_refusal cause ≡ true
        refusal causes.Grammar e = refl
        refusal causes.Source e = refl
        refusal causes.Login e = refl
        refusal causes.Slot e = refl
        refusal causes.Generation e = untrue e
        refusal causes.Label e = untrue e
        refusal causes.Again e = untrue e

        sent_earlier : (later earlier : List Moment) (cause : Cause) → later ++ said (notes.Ignored ask cause) ∷ earlier ≡ ms → (terms earlier).sent ask ≡ Some a
        sent_earlier later earlier cause e = ignored_sent ms known st.wire.laws.serials later earlier ask cause e a asking.is

    -- ---- by what the operation waits for
    told_as : AnswersZero ms ask a → IsTakenAt ms ask → (other : Access) → access ≡ other → other.is_lock ≡ false → Tells (kind_for other) (answer_in packet)
    told_as got taken other e lock = subst (λ x. Tells x (answer_in packet)) (kind_so (ap (λ (x : Access). x.is_lock) e ∙ lock) ∙ ap kind_for e) (told_by got taken)

    pub shorts : AreShort ms
    shorts = k.managed.shorts

    pub based : EachMoment (BasedAt j) ms
    based = k.managed.based (inl tame) j within calm

    placed : IsInAPlace op
    placed = op_placed units ready has start w h k.managed.ground j within op operation source_there calm shorts based

    orb_whole : op.phase ≡ phases.Orb → access ≡ read_access op.orb 32 → Brings 32 (answer_in packet)
    orb_whole phase e =
        let there : access ≡ read_access (start_of (windows.Management placed.place)) 32 = e ∙ ap (λ x. read_access x 32) placed.orb in
        let reads : access.is_write ≡ false = ap (λ (x : Access). x.is_write) e in
        let zero : (before : List Moment) → (host_reply before j access).rcode ≡ 0 = λ before. ap (λ x. (host_reply before j x).rcode) there ∙ place_zero j before placed.place placed.small in
        let got = block_zero ms j st ask a asking.is asked_to access access_is zero reads (ap (λ (x : Access). x.is_block) e) (ap (λ (x : Access). x.is_lock) e) in
        let x = told_as got (reads_taken reads) (read_access op.orb 32) e refl in
        let g = k.managed.ground in
        let stood : StoodThere ms j _ x.bytes =
        brings_held units ready has start w h j within (few_of units ready has start w h g j within calm shorts based) calm none g.known.counts g.known.are (g.known.places j within) shorts (g.known.logins j within) serial sent m.comes.found m.comes.to packet m.label m.found op is source_there
        (own_at units ready has start w h g j within calm shorts based op is source_there) phase x.bytes x.is in
        record { bytes = x.bytes; is = x.is; size_is = ap length stood.bytes_are ∙ place_length (place_held stood.earlier j _) }

    eui_whole : (at : ℕ) → access ≡ eui_access at → window_at at ≡ Some windows.Rom → ((before : List Moment) → (host_reply before j (eui_access at)).rcode ≡ 0) → Brings 4 (answer_in packet)
    eui_whole at e rom zero =
        let reads : access.is_write ≡ false = ap (λ (x : Access). x.is_write) e in
        let there : window_at access.offset ≡ Some windows.Rom = ap (λ (x : Access). window_at x.offset) e ∙ rom in
        let complete : (before : List Moment) → (host_reply before j access).rcode ≡ 0 = λ before. ap (λ x. (host_reply before j x).rcode) e ∙ zero before in
        let is_said : (before : List Moment) → IsSaidFor before j access = λ before r c. subst (IsSaid before j access) (sym there) tt in
        told_as (any_zero ms j st ask a asking.is asked_to access access_is complete k.gots is_said) (reads_taken reads) (eui_access at) e refl

    write_whole : (access.is_write ≡ true → IsTakenWrite ms j ask access) → access.is_write ≡ true → answer_in packet ≡ Done
    write_whole writes w_is =
        let x : IsTakenWrite ms j ask access = writes w_is in
        let is_said : (before : List Moment) → IsSaidFor before j access = λ before r c. absurd (true≢false (sym w_is ∙ r)) in
        let tell : Tells (kind_for access) (answer_in packet) = told_as (any_zero ms j st ask a asking.is asked_to access access_is x.complete k.gots is_said) x.taken access refl x.lock in
        subst (λ b. Tells (cond b writing (read_kind access.is_block)) (answer_in packet)) w_is tell

    by_phase : (access.is_write ≡ true → IsTakenWrite ms j ask access) → (phase : Phase) → op.phase ≡ phase → AccessOf phase op access → IsWhole phase (answer_in packet)
    by_phase writes phases.Orb e content = orb_whole e content
    by_phase writes (phases.HighEui orb) e content = eui_whole high_eui_at content rom_high (λ before. high_zero j before)
    by_phase writes (phases.LowEui orb high) e content = eui_whole low_eui_at content rom_low (λ before. low_zero j before)
    by_phase writes (phases.Response fifo) e content = write_whole writes content
    by_phase writes phases.Status e (status, (fifo, content)) = write_whole writes (ap (λ (x : Access). x.is_write) content)

    pub managed_whole : (Which : Operation → Type 0) → AreTakenWrites Which start ms w → Which op → IsWhole op.phase (answer_in packet)
    managed_whole Which writes which = by_phase (λ w_is. writes op which j ask access operation within source_is manages access_is w_is) op.phase refl was_asked.content
