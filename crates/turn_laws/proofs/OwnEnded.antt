-- A turn in which a transaction of an initiator ends brings what is due, at each place: it is answered by the target, or lapses.
use Rattle.std.proofs.Common.{◌<◌, ◌∙◌, ◌∷◌, ◌≡◌, ◌&&◌, arith, Bool, List, None, Ok, Option, Some, ap, false, length, not, refl, subst, suc, sym, true, ℕ}
use Rattle.bus_transactions.specs.Wire.{as_sending, transaction}
use Rattle.orb_layout.specs.Replies.{Answer, Expired, Refused}
use Rattle.sbp_journal.specs.Transactions.{Kind, reading_quadlet, writing}
use Rattle.sbp_laws.specs.Hosts.{Host, host_at, is_serial}
use Rattle.sbp_laws.specs.OnceLaw.{is_write_in}
use Rattle.sbp_laws.specs.Operations.{host_notes, is_management_write, reply_notes}
use Rattle.sbp_laws.specs.Packets.{access_at, answer_in, answer_of, answered_at, packet_at, receiver_in}
use Rattle.sbp_world.proofs.Common.{itself}
use Rattle.sbp_world.specs.Lists.FewLogins.{IsCalmBeside}
use Rattle.turn_laws.proofs.OwnAnswers.{IsEndOf, lapses, write_answer, write_end}
use Rattle.turn_laws.proofs.OwnRoms.{AreApart}
use Rattle.turn_laws.proofs.OwnUnderWay as ways
use Rattle.turn_laws.proofs.OwnUnderWay.{rom_apart}
use Rattle.turn_laws.proofs.ReadsUnderWay.{AreTimely}
use Rattle.turn_laws.proofs.RequestKinds.{kind_for}
use Rattle.turn_laws.proofs.RomEnds.{is_plain}
use Rattle.sbp_world.specs.Pointers.Moments.{asked_in}
use Rattle.turn_laws.specs.Operations.{conflicts_at, is_conflict, is_managed}
use Rattle.async_packet.specs.Labels.{LabelParts}
use Rattle.async_packet.specs.Packet.{Packet}
use Rattle.bus_transactions.specs.Judging.{AreJudged}
use Rattle.label_table.specs.Layer.{Finding, Layer, expiring_step, judging_step, of_response}
use Rattle.packet_store.specs.Kept.{found_sent}
use Rattle.packet_store.specs.declared.sent.Sent.{Sent}
use Rattle.rbc_disk.specs.Disk.{Disk}
use Rattle.sbp_bus.specs.Requests.{find}
use Rattle.sbp_bus.specs.declared.requests.Request.{Request}
use Rattle.sbp_initiator.specs.Effects.{Turn as Call, ended_for, ended_step}
use Rattle.sbp_initiator.specs.Receiving.{called, received}
use Rattle.sbp_initiator.specs.States.{ending_of}
use Rattle.sbp_initiator.specs.declared.purpose.Ending.TheVariants as endings
use Rattle.sbp_initiator.specs.declared.purpose.Purpose.{Purpose}
use Rattle.sbp_initiator.specs.declared.purpose.Purpose.TheVariants as purposes
use Rattle.sbp_initiator.specs.declared.state.InitiatorState.{InitiatorState}
use Rattle.sbp_journal.specs.Outgoings.{empty_outbox}
use Rattle.sbp_journal.specs.Run.{Moment, said}
use Rattle.sbp_journal.specs.Wire.{Terms, terms, waits}
use Rattle.sbp_journal.specs.Addresses.{Access}
use Rattle.sbp_journal.specs.declared.cause.Judged.{Judged}
use Rattle.sbp_journal.specs.declared.cause.Judged.TheVariants as judgements
use Rattle.sbp_journal.specs.declared.note.Note.TheVariants as notes
use Rattle.sbp_laws.specs.Lists.{present_list}
use Rattle.sbp_world.proofs.Agents.Management.Hearing.{IsAnswer}
use Rattle.sbp_world.proofs.Agents.Management.Still.{hist}
use Rattle.sbp_world.proofs.Hosts.Lives.{At}
use Rattle.sbp_world.specs.Worlds.{Scene, WorldState, initiator_at}
use Rattle.turn_laws.proofs.Handed.{handed}
use Rattle.turn_laws.proofs.HostRequests.{finds_next}
use Rattle.turn_laws.proofs.KnownRuns.{Known}
use Rattle.turn_laws.proofs.OwnNotes.{Ops}
use Rattle.turn_laws.proofs.OwnEnds.{Says}
use Rattle.turn_laws.proofs.OwnRoms as roms
use Rattle.turn_laws.proofs.OwnTurns as turns
use Rattle.turn_laws.proofs.OwnTurns.{Lapses, RespondsSo}
use Rattle.turn_laws.proofs.Places.{Place}
use Rattle.turn_laws.proofs.RomKnown as known
use Rattle.turn_laws.proofs.RomKnown.{KnownOf}
use Rattle.turn_laws.proofs.RomLabels.{IsRom}
use Rattle.turn_laws.proofs.RomTies.{RomOf}

module _ (units ready : ℕ) (start : List Disk) (past : List Moment) (s : Scene) (here : Place units ready start past s) (k : Known start (hist past s.world) s) (i : ℕ) (inside : i < length s.world.initiators) where
  abbrev old : InitiatorState
  old = initiator_at s.world i

  abbrev ms : List Moment
  ms = hist past s.world

  abbrev wire : Terms
  wire = terms ms

  abbrev host : Host
  host = host_at ms i

  abbrev rom : RomOf ms i old
  rom = k.0.each i inside

  abbrev known_here : KnownOf ms i old
  known_here = k.1.each i inside

  quads : old.quads ≡ host.quads
  quads = ways.quads_here units ready start past s here k i inside

  -- ---- a packet that it hears
  module _ (serial : ℕ) (again : Bool) (one : Sent) (found : found_sent serial s.world.store.kept ≡ Some one) (to_is : one.to ≡ suc i) (w : WorldState) (timely : AreTimely ms) where
    module _ (p : Packet) (label : LabelParts) (purpose : Option Purpose) (new : Layer Purpose) (e : judging_step old.layer one.generation one.bytes ≡ (of_response p label purpose, new)) (judged : AreJudged (said (notes.Got serial) ∷ ms)) where
      abbrev finding : (judging_step old.layer one.generation one.bytes).0 ≡ of_response p label purpose
      finding = ap (λ (r : Finding Purpose × Layer Purpose). r.0) e

      abbrev a : IsAnswer wire serial (as_sending one) p
      a = known.a units ready start past s here i inside rom serial one found to_is p label purpose finding judged

      abbrev closed : InitiatorState
      closed = called (record old { layer = new })

      abbrev response : Judged × Call
      response = received (of_response p label purpose, new) one.bytes empty_outbox old

      abbrev IsDue : Type 0
      IsDue = turns.IsDue units ready start past s here i inside serial one found to_is w response

      abbrev AreEnds : Type 0
      AreEnds = turns.AreEnds units ready start past s here i inside serial one found to_is w response

      there : At old.layer old.target label.number purpose
      there = known.there units ready start past s here i inside rom serial one found to_is p label purpose finding judged

      held : wire.held (transaction old.layer.generation (suc i) 0 label.number) ≡ waits a.waited a.own
      held = known.held_is units ready start past s here i inside rom serial one found to_is p label purpose finding judged

      abbrev CalmWhere : Type 0
      CalmWhere = turns.IsCalmWhere units ready start past s here i inside serial one found to_is w judgements.Got

      abbrev conflicts_here : Option ℕ → Answer → Bool
      conflicts_here own answer = conflicts_at ms i own answer

      -- where conflict_error answers a write to MANAGEMENT_AGENT that is of no operation of management, it injected no packets
      calm_here : CalmWhere → is_conflict (answer_of p) ≡ true → is_management_write host (access_at wire a.own) ≡ true → is_managed (asked_in ms a.own i) ≡ false → IsCalmBeside ms i
      calm_here calm conflict there other =
          calm i
          (ap (λ so. is_serial (receiver_in so) (suc i) && conflicts_here (answered_at wire serial) (answer_in (packet_at wire serial))) (turns.was_it units ready start past s here i inside serial one found to_is w)
          ∙ ap (λ n. is_serial (Some n) (suc i) && conflicts_here (answered_at wire serial) (answer_in (packet_at wire serial))) to_is
          ∙ ap (λ b. b && conflicts_here (answered_at wire serial) (answer_in (packet_at wire serial))) (itself (suc i))
          ∙ ap (λ x. conflicts_here x (answer_in (packet_at wire serial))) a.answered
          ∙ ap (λ x. conflicts_here (Some a.own) (answer_in x)) (known.packet_is units ready start past s here i inside rom serial one found to_is p (known.read units ready start past s here i inside rom serial one found to_is p label purpose finding judged))
          ∙ ap (λ b. b && is_management_write host (access_at wire a.own) && not (is_managed (asked_in ms a.own i))) conflict
          ∙ ap (λ b. b && not (is_managed (asked_in ms a.own i))) there ∙ ap not other)

      -- of a read of a ROM
      module _ (act : ℕ) (rom_is : purpose ≡ Some (purposes.Rom act)) where
        runs : IsRom act old.operation
        runs = known.is_of_rom units ready start past s here i inside rom serial one found to_is p label purpose finding judged act rom_is

        latest : roms.ReadsRom a.own host host.operation
        latest = known.latest units ready start past s here i inside rom serial one found to_is p label purpose finding judged act rom_is

        apart_here : AreApart a.own host.reads
        apart_here = ways.apart units ready start past s here k i inside label.number purpose there a.waited a.own held timely (rom_apart purpose act rom_is)

        reads_here : is_write_in (access_at wire a.own) ≡ false
        reads_here = ways.reads_it units ready start past s here k i inside label.number purpose there a.waited a.own held (ways.rom_quad units ready start past s here k i inside label.number purpose there a.waited a.own held act rom_is)

        goes_on : roms.GoesOn a.own closed host (present_list ms i) (access_at wire a.own) empty_outbox act runs latest apart_here reads_here quads
        goes_on value = finds_next units ready start past s here k i inside serial again one found to_is p label purpose new e judged s.world (record { last = refl; generations = refl }) _ (omega arith) act

        rom_due : IsDue
        unfolding ended_step
        rom_due =
            turns.answer_tells units ready start past s here i inside serial one found to_is w p label purpose finding a.own a.answered (ended_for purpose (ending_of p) empty_outbox closed)
            (subst (λ x. roms.Due a.own closed host (present_list ms i) (access_at wire a.own) empty_outbox act runs latest apart_here reads_here quads (answer_of p) (ended_for x (ending_of p) empty_outbox closed)) (sym rom_is)
            (roms.answer_due a.own closed host (present_list ms i) (access_at wire a.own) empty_outbox act runs latest apart_here reads_here quads
            (known_here.few runs.running runs.is runs.kind) goes_on (ending_of p) (answer_of p) (known.reads units ready start past s here i inside rom serial one found to_is p label purpose finding judged act rom_is)))

      -- of a read of AGENT_STATE
      state_answered : (act : ℕ) (list : Option ℕ) → purpose ≡ Some (purposes.State act list) → IsDue
      unfolding ended_step
      state_answered act list is =
          let quad : a.waited ≡ reading_quadlet = ways.kind_is units ready start past s here k i inside label.number purpose there a.waited a.own held (purposes.State act list) refl is in
          turns.answer_tells units ready start past s here i inside serial one found to_is w p label purpose finding a.own a.answered (ended_for purpose (ending_of p) empty_outbox closed)
          (ap (λ x. (ended_for x (ending_of p) empty_outbox closed).0.sides) is
          ∙ ways.state_says units ready start past s here k i inside label.number purpose there a.waited a.own held timely act list is new (ending_of p) (answer_of p)
          (known.quad_answers units ready start past s here i inside rom serial one found to_is p label purpose finding judged quad))

      -- of a write
      module _ (its : Purpose) (plain : is_plain its ≡ true) (writes : kind_for its ≡ writing) (is : purpose ≡ Some its) where
        abbrev ended : Call
        ended = ended_for purpose (ending_of p) empty_outbox closed

        waited : a.waited ≡ writing
        waited = ways.kind_is units ready start past s here k i inside label.number purpose there a.waited a.own held its plain is ∙ writes

        answer : answer_of p ≡ write_answer (ending_of p)
        answer = write_end (ending_of p) (answer_of p) (subst (λ x. IsEndOf x (ending_of p) (answer_of p)) waited (known.packet_answers units ready start past s here i inside rom serial one found to_is p label purpose finding judged))

        -- what it tells
        abbrev SaysFor : Option Access → Type 0
        SaysFor access = Says empty_outbox ended (reply_notes old.number host (present_list ms i) access a.own (answer_of p))

        says_for : (access : Option Access) → ways.WriteDue units ready start past s here k i inside label.number purpose there a.waited a.own held timely new (ending_of p) access its → SaysFor access
        says_for access says =
            subst (λ x. Says empty_outbox ended (reply_notes old.number host (present_list ms i) access a.own x)) (sym answer) (ap (λ x. (ended_for x (ending_of p) empty_outbox closed).0.sides) is ∙ says)

        write_due : CalmWhere → IsDue
        write_due calm =
            let write = ways.writes_it units ready start past s here k i inside label.number purpose there a.waited a.own held waited in
            turns.answer_tells units ready start past s here i inside serial one found to_is w p label purpose finding a.own a.answered ended
            (says_for (access_at wire a.own)
            (ways.write_says units ready start past s here k i inside label.number purpose there a.waited a.own held timely new (ending_of p) its writes is (access_at wire a.own) write
            (λ e. ways.its_aims units ready start past s here k i inside label.number purpose there a.waited a.own held timely its plain is write
            (λ other at. calm_here calm (ap is_conflict (answer ∙ e)) at (ways.its_action units ready start past s here k i inside label.number purpose there a.waited a.own held timely its plain is ∙ other)))))

        write_ends : AreEnds
        write_ends =
            let t = ways.write_ends units ready start past s here k i inside label.number purpose there a.waited a.own held timely new (ending_of p) its writes is in
            turns.answer_ends units ready start past s here i inside serial one found to_is w p label purpose finding a.own a.answered ended t.access (says_for t.access t.says)

      response_due : CalmWhere → (x : Option Purpose) → purpose ≡ x → IsDue
      response_due calm (Some (purposes.Rom act)) f = rom_due act f
      response_due calm (Some (purposes.State act list)) f = state_answered act list f
      response_due calm (Some (purposes.Pointer list)) f = write_due (purposes.Pointer list) refl refl f calm
      response_due calm (Some purposes.Doorbell) f = write_due purposes.Doorbell refl refl f calm
      response_due calm (Some (purposes.AgentReset act)) f = write_due (purposes.AgentReset act) refl refl f calm
      response_due calm (Some (purposes.Enable act)) f = write_due (purposes.Enable act) refl refl f calm
      response_due calm (Some (purposes.Management act)) f = write_due (purposes.Management act) refl refl f calm
      response_due calm None f = absurd (ways.never_nobodys units ready start past s here k i inside label.number (subst (λ x. At old.layer old.target label.number x) f there))

      response_ends : (x : Option Purpose) → purpose ≡ x → AreEnds
      response_ends (Some (purposes.Rom act)) f = turns.due_ends units ready start past s here i inside serial one found to_is w response (rom_due act f)
      response_ends (Some (purposes.State act list)) f = turns.due_ends units ready start past s here i inside serial one found to_is w response (state_answered act list f)
      response_ends (Some (purposes.Pointer list)) f = write_ends (purposes.Pointer list) refl refl f
      response_ends (Some purposes.Doorbell) f = write_ends purposes.Doorbell refl refl f
      response_ends (Some (purposes.AgentReset act)) f = write_ends (purposes.AgentReset act) refl refl f
      response_ends (Some (purposes.Enable act)) f = write_ends (purposes.Enable act) refl refl f
      response_ends (Some (purposes.Management act)) f = write_ends (purposes.Management act) refl refl f
      response_ends None f = absurd (ways.never_nobodys units ready start past s here k i inside label.number (subst (λ x. At old.layer old.target label.number x) f there))

    pub responses_due : turns.IsCalmWhere units ready start past s here i inside serial one found to_is w judgements.Got → RespondsSo units ready start past s here i inside serial one found to_is w (turns.IsDue units ready start past s here i inside serial one found to_is w) (λ r e. e)
    responses_due calm p label purpose l e judged = response_due p label purpose l e judged calm purpose refl

    pub responses_end : RespondsSo units ready start past s here i inside serial one found to_is w (turns.AreEnds units ready start past s here i inside serial one found to_is w) (turns.due_ends units ready start past s here i inside serial one found to_is w)
    responses_end p label purpose l e judged = response_ends p label purpose l e judged purpose refl

  -- ---- a request that lapses
  module _ (serial : ℕ) (asked : Request) (found : find s.world.requests serial ≡ Some asked) (node_is : asked.node ≡ suc i) (w : WorldState) (timely : AreTimely ms) where
    abbrev number : ℕ
    number = asked.label.number

    module _ (purpose : Option Purpose) (l : Layer Purpose) (e : expiring_step old.layer old.target asked.label ≡ (Ok purpose, l)) where
      late_there : At old.layer old.target number purpose
      late_there = turns.there units ready start past s here i inside serial asked found node_is w purpose l e

      abbrev kind : Kind
      kind = (turns.waiting units ready start past s here i inside serial asked found node_is w purpose l e).kind

      late_held : wire.held (transaction old.layer.generation (suc i) 0 number) ≡ waits kind serial
      late_held = turns.held_is units ready start past s here i inside serial asked found node_is w purpose l e

      abbrev lapsed : Option Purpose → Call
      lapsed x = ended_for x endings.Expired empty_outbox (called (record old { layer = l }))

      abbrev IsLate : Type 0
      IsLate = Ops (handed (suc i) 0 (lapsed purpose).0 w) ≡ host_notes (said (notes.TimedOut serial)) ms

      rom_lapses : (act : ℕ) → purpose ≡ Some (purposes.Rom act) → IsLate
      unfolding ended_step
      rom_lapses act rom_is =
          turns.lapse_tells units ready start past s here i inside serial asked found node_is w purpose l e (lapsed purpose)
          (ap (λ x. (lapsed x).0.sides) rom_is
          ∙ roms.late_due serial (called (record old { layer = l })) host (present_list ms i) (access_at wire serial) empty_outbox act
          (known.under_rom units ready start past s here i inside rom number purpose late_there kind serial late_held act rom_is)
          (known.awaits_latest units ready start past s here i inside rom number purpose late_there kind serial late_held act rom_is)
          (ways.apart units ready start past s here k i inside number purpose late_there kind serial late_held timely (rom_apart purpose act rom_is))
          (ways.reads_it units ready start past s here k i inside number purpose late_there kind serial late_held (ways.rom_quad units ready start past s here k i inside number purpose late_there kind serial late_held act rom_is)) quads)

      state_lapses : (act : ℕ) (list : Option ℕ) → purpose ≡ Some (purposes.State act list) → IsLate
      unfolding ended_step
      state_lapses act list is =
          turns.lapse_tells units ready start past s here i inside serial asked found node_is w purpose l e (lapsed purpose)
          (ap (λ x. (lapsed x).0.sides) is
          ∙ ways.state_says units ready start past s here k i inside number purpose late_there kind serial late_held timely act list is l endings.Expired Expired lapses)

      write_lapses : (its : Purpose) → is_plain its ≡ true → kind_for its ≡ writing → purpose ≡ Some its → IsLate
      write_lapses its plain writes is =
          turns.lapse_tells units ready start past s here i inside serial asked found node_is w purpose l e (lapsed purpose)
          (ap (λ x. (lapsed x).0.sides) is
          ∙ ways.write_says units ready start past s here k i inside number purpose late_there kind serial late_held timely l endings.Expired its writes is (access_at wire serial)
          (ways.writes_it units ready start past s here k i inside number purpose late_there kind serial late_held (ways.kind_is units ready start past s here k i inside number purpose late_there kind serial late_held its plain is ∙ writes))
          (λ f. absurd (let no : Expired ≡ Refused 4 = f in cc)))

      lapse_due : (x : Option Purpose) → purpose ≡ x → IsLate
      lapse_due (Some (purposes.Rom act)) f = rom_lapses act f
      lapse_due (Some (purposes.State act list)) f = state_lapses act list f
      lapse_due (Some (purposes.Pointer list)) f = write_lapses (purposes.Pointer list) refl refl f
      lapse_due (Some purposes.Doorbell) f = write_lapses purposes.Doorbell refl refl f
      lapse_due (Some (purposes.AgentReset act)) f = write_lapses (purposes.AgentReset act) refl refl f
      lapse_due (Some (purposes.Enable act)) f = write_lapses (purposes.Enable act) refl refl f
      lapse_due (Some (purposes.Management act)) f = write_lapses (purposes.Management act) refl refl f
      lapse_due None f = absurd (ways.never_nobodys units ready start past s here k i inside number (subst (λ x. At old.layer old.target number x) f late_there))

    pub lapses_due : Lapses units ready start past s here i inside serial asked found node_is w
    lapses_due purpose l e = lapse_due purpose l e purpose refl
