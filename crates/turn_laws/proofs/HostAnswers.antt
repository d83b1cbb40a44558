-- What an initiator answers to a request that it gets is what the law of answers says, of each window of its memory and of its FIFOs.
use Rattle.std.proofs.Common.{arith, ◌≡◌, ◌∙◌, refl, sym, ap, subst, ℕ, suc, ◌<◌, ◌≤◌, ◌==◌, true, List, [], ◌++◌, length, Option, Some, None}
use Rattle.async_packet.specs.Packet.{Packet}
use Rattle.bus_memory.specs.Access.{read_step}
use Rattle.bus_memory.specs.Windows.{is_fifo, window_at}
use Rattle.bus_memory.specs.declared.window.Window.{Window}
use Rattle.bus_memory.specs.declared.window.Window.TheVariants as windows
use Rattle.bus_transactions.specs.Wire.{as_sending}
use Rattle.label_table.specs.Judging.{by_request}
use Rattle.label_table.specs.Layer.{Finding, judging_step, of_request}
use Rattle.packet_store.specs.declared.sent.Sent.{Sent}
use Rattle.packet_store.specs.Kept.{found_sent}
use Rattle.rbc_disk.specs.Disk.{Disk}
use Rattle.sbp_bus.specs.Packets.{judged_note}
use Rattle.sbp_initiator.specs.Effects.{Turn}
use Rattle.sbp_initiator.specs.Receiving.{receive_step}
use Rattle.sbp_initiator.specs.declared.purpose.Purpose.{Purpose}
use Rattle.sbp_initiator.specs.declared.state.InitiatorState.{InitiatorState}
use Rattle.sbp_journal.specs.Addresses.{Access}
use Rattle.sbp_journal.specs.Outgoings.{empty_outbox}
use Rattle.sbp_journal.specs.Run.{Moment, said}
use Rattle.sbp_journal.specs.Transactions.{Sending}
use Rattle.sbp_journal.specs.Wire.{Terms, terms}
use Rattle.sbp_journal.specs.declared.cause.Judged.{Judged}
use Rattle.sbp_journal.specs.declared.cause.Judged.TheVariants as judgements
use Rattle.sbp_journal.specs.declared.note.Note.{Note}
use Rattle.sbp_laws.specs.JudgementLaw.{answer_packet, rom_size}
use Rattle.sbp_laws.specs.SentAnswers.{AnswersLaw}
use Rattle.sbp_laws.specs.Served.{Reply, host_reply, lies_inside, reply_of, window_gives}
use Rattle.sbp_laws.specs.Targets.{Target, over, target_at}
use Rattle.sbp_laws.specs.Turns.{sends_of, turn}
use Rattle.sbp_world.specs.Hosts.Reads.{IsReadBy, IsReadOf, IsSaid}
use Rattle.sbp_world.specs.Wire.Wires.{Stands, layers_of}
use Rattle.sbp_world.specs.Worlds.{Scene, WorldState, initiator_at}
use Rattle.sbp_world.proofs.Agents.CrewFirsts.{access_there}
use Rattle.sbp_world.proofs.Agents.Management.Holding.{was_sent}
use Rattle.sbp_world.proofs.Agents.Management.Still.{hist}
use Rattle.sbp_world.proofs.Common.{untrue}
use Rattle.sbp_world.proofs.Formed.{AreOwn}
use Rattle.sbp_world.proofs.Hosts.Answering.{Answered, IsTold}
use Rattle.sbp_world.proofs.Hosts.AnsweringBlocks.{answers}
use Rattle.sbp_world.proofs.Hosts.ResponseTells.{inside_by}
use Rattle.turn_laws.proofs.AnswerNotes.{SameBus}
use Rattle.turn_laws.proofs.FoundRows.{Asks, RowFor}
use Rattle.turn_laws.proofs.Handed.{handed}
use Rattle.turn_laws.proofs.HostJudges.{host_acts}
use Rattle.turn_laws.proofs.Places.{Place}
use Rattle.turn_laws.proofs.SentAnswers.{IfRequest, all_own_unsent, answers_by, first_handed, request_answers, sends_more}

module _ (units ready : ℕ) (start : List Disk) (past : List Moment) (s : Scene) (here : Place units ready start past s) (i : ℕ) (inside : i < length s.world.initiators) where
  abbrev pub old : InitiatorState
  old = initiator_at s.world i

  abbrev pub ms : List Moment
  ms = hist past s.world

  memory : IsReadBy ms i old
  memory = here.memory i inside

  -- a read that is complete is of a window, and gives the bytes that the terms have there
  module _ (access : Access) (out : List ℕ) (r : IsReadOf access out) (complete : (read_step old.lists.memory access.offset out).0 ≡ 0) where
    abbrev given : List ℕ
    given = (read_step old.lists.memory access.offset out).1

    abbrev said_there : List ℕ
    said_there = window_gives ms i access (window_at access.offset)

    in_window : lies_inside ms i (rom_size (suc i) 0) access (window_at access.offset) ≡ true
    in_window = inside_by access.is_lock (access.count == 0) (is_fifo access.offset) _ _ (sym (memory.read_rcode access out r) ∙ complete)

    of_said : (o : Option Window) → window_at access.offset ≡ o → IsSaid ms i access o → given ≡ said_there
    of_said o e said_so = memory.gives access out r (subst (IsSaid ms i access) (sym e) said_so) complete

    by_window : (o : Option Window) → window_at access.offset ≡ o → given ≡ said_there
    by_window None e = untrue (ap (lies_inside ms i (rom_size (suc i) 0) access) (sym e) ∙ in_window)
    by_window (Some windows.Rom) e = of_said (Some windows.Rom) e tt
    by_window (Some (windows.Orb slot)) e = of_said (Some (windows.Orb slot)) e tt
    by_window (Some (windows.Table slot)) e = of_said (Some (windows.Table slot)) e tt
    by_window (Some (windows.Buffer slot)) e = of_said (Some (windows.Buffer slot)) e tt
    by_window (Some (windows.Response place)) e = of_said (Some (windows.Response place)) e tt
    by_window (Some (windows.Management place)) e = (here.placed i inside).gives access out place r e complete

  told_here : (access : Access) → IsTold ms i old memory access
  told_here access out r complete = by_window access out r complete (window_at access.offset) refl

  -- ---- a delivery
  module _ (serial : ℕ) (one : Sent) (found : found_sent serial s.world.store.kept ≡ Some one) (to_is : one.to ≡ suc i) (v : WorldState) (bus : SameBus s.world v) where
    abbrev t : Terms
    t = terms ms

    abbrev target : Target
    target = over (target_at start ms)

    abbrev q : Sending
    q = as_sending one

    abbrev heard : Judged × Turn
    heard = receive_step one.generation one.bytes empty_outbox old

    abbrev rest : List Note
    rest = handed (suc i) 0 heard.1.0 v

    abbrev Law : Judged → Type 0
    Law judged = AnswersLaw start (turn ms (said (judged_note serial judged)) rest)

    abbrev Finds : Finding Purpose → Type 0
    Finds f = (judging_step old.layer one.generation one.bytes).0 ≡ f

    stands : Stands past s.world
    stands = here.holds.sound.stands

    there : one.to ≤ length s.world.initiators
    there = omega (arith, to_is, inside)

    module _ (own : AreOwn heard.1.0.sides) where
      request_got : (p : Packet) → Asks t q p by_request → Finds (of_request p) → heard.0 ≡ judgements.Got → Law judgements.Got
      request_got p a e got =
          let asks = access_there p a.none in
          let r : Reply = host_reply ms i asks.access in
          let own_is : old.layer.node ≡ (layers_of s.world one.to).node = ap (λ n. (layers_of s.world n).node) (sym to_is) in
          -- its packets are the one answer
          let packets : Answered ms i old memory p asks.access heard.1.0.packets =
          answers ms i old memory one.generation one.bytes p asks.access e asks.is (told_here asks.access) (λ w. here.logins i inside) got in
          let more = sends_more s.world stands serial one found there p a.read v bus r.rcode old.layer.node r.given own_is a.current heard.1.0 [] in
          let first =
          first_handed s.world stands serial one found there p a.read v bus r.rcode old.layer.node r.given own_is a.current heard.1.0
          (all_own_unsent heard.1.0.sides own) [] packets in
          let At : ℕ → List Note = λ n. (let x = reply_of start ms target n asks.access in answer_packet t q x.rcode x.given (Some p) ++ more) in
          request_answers start ms serial q (was_sent s.world stands serial one found) p asks.access a.read asks.is rest more
          (ap (λ n. sends_of (handed n 0 heard.1.0 v)) (sym to_is) ∙ (first ∙ ap At (sym to_is)))

      requests : (f : Finding Purpose) → Finds f → IfRequest start ms serial q (was_sent s.world stands serial one found) old.layer.node rest f heard.0
      requests (of_request p) e = λ a got. request_got p a e got
      requests f e = tt

      pub host_answers : RowFor t q old.layer.node (judging_step old.layer one.generation one.bytes) → Law heard.0
      host_answers row =
          let x = judging_step old.layer one.generation one.bytes in
          answers_by start ms serial q (was_sent s.world stands serial one found) old.layer.node rest x heard.0 row
          (host_acts units ready start past s here serial one found i to_is inside v bus row) (requests x.0 refl)
