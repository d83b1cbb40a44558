-- What proofs cite of packets, labels, notes and lines, under one name each.
pub use Rattle.sbp_journal.specs.Addresses.{Access, Register, Start, access_of, agent_reset, agent_state, begins_in_rom, doorbell, is_start, lies_in_rom, management_address, management_agent, no_start, orb_pointer, register, rom_base, rom_start, start_serves, unsolicited_enable}
unfoldable pub use Rattle.sbp_journal.specs.Addresses.{start_at}
pub use Rattle.sbp_journal.specs.Buffers.{buffer_of, in_buffer, out_buffer}
pub use Rattle.sbp_journal.specs.Form.{HasForm, IsAnswer, IsBuffer, IsCheck, IsDecision, IsSense, IsStatus}
pub use Rattle.sbp_journal.specs.Outgoings.{OutboxState, empty_outbox}
pub use Rattle.sbp_journal.specs.Rows.{Judging, Refusals, RequestFacts, TargetFacts, first_or, first_row, ignored_as, judging_of, refusal_of, serving, target_rcode, telling, window_rcode}
pub use Rattle.sbp_journal.specs.Run.{Moment, asked, asked as asks, history, said}
pub use Rattle.sbp_journal.specs.Transactions.{Kind, Part, Sending, Transaction, asked_as, at, begun_if, between, is_same_kind, is_to, locking, part_by, part_in, reading_block, reading_quadlet, request, response, writing}
unfoldable pub use Rattle.sbp_journal.specs.Transactions.{asked_by, begun_by, is_same, part_of}
pub use Rattle.sbp_journal.specs.Wire.{Flight, Held, Owed, Terms, arrives, asked_in, begins, begun_in, closes, closes_if, delivered, free, gets, gets_as, gives, ids_of, ignores, ignores_that, in_flight, is_news, is_served, judges, judges_if, kind_in, local_id, lost, noted, opened, passed, pays, puts, rests, sends, terms, times_out, unsent, waits, terms as wire_terms, withdrawn}
pub use Rattle.sbp_journal.specs.Written.{IsTyped}
pub use Rattle.sbp_journal.specs.declared.cause.Cause.{Cause}
pub use Rattle.sbp_journal.specs.declared.cause.CutCause.{CutCause}
pub use Rattle.sbp_journal.specs.declared.cause.Judged.{Judged}
pub use Rattle.sbp_journal.specs.declared.event.Action.{Action}
pub use Rattle.sbp_journal.specs.declared.event.Cmd.{Cmd}
pub use Rattle.sbp_journal.specs.declared.event.Event.{Event, Event as LineEvent}
pub use Rattle.sbp_journal.specs.declared.note.Note.{Note}
pub use Rattle.sbp_journal.specs.declared.note.Note.TheVariants.{Append, Ended, Ran}
pub use Rattle.sbp_journal.specs.declared.note.NoteBuffer.{NoteBuffer}
pub use Rattle.sbp_journal.specs.declared.note.NoteBuffer.TheVariants.{In, Nothing}
pub use Rattle.sbp_journal.specs.declared.operation.FunctionWord.{FunctionWord}
pub use Rattle.sbp_journal.specs.declared.operation.OpWord.{OpWord}
pub use Rattle.sbp_journal.specs.declared.operation.Operation.{Operation as HostOperation, Operation as Named, Operation, Operation as Word}
pub use Rattle.sbp_journal.specs.declared.outbox.Outgoing.{Outgoing}
pub use Rattle.sbp_journal.specs.declared.side.Side.{Side}
pub use Rattle.async_packet.specs.Canon.{FitsHeader, IsValid, canon, first_quad, response_quad, with_pad}
unfoldable pub use Rattle.async_packet.specs.Canon.{four, three}
pub use Rattle.async_packet.specs.Faults.{fault_of}
pub use Rattle.async_packet.specs.Fields.{extended_of, largest}
unfoldable pub use Rattle.async_packet.specs.Fields.{header_of, length_of, offset_of, rcode_of, tcode_of, value_of}
pub use Rattle.async_packet.specs.Labels.{LabelParts}
pub use Rattle.async_packet.specs.Packet.{Packet, header_in, lock, lock_response, read_block, read_block_response, read_quadlet, read_quadlet_response, read_block as reads_block, write_block, write_quadlet, write_response}
pub use Rattle.async_packet.specs.Reading.{packet_in, packet_in as packet_of, payload_in, unless_fault}
unfoldable pub use Rattle.async_packet.specs.Reading.{reading}
pub use Rattle.async_packet.specs.Spells.{Spells}
pub use Rattle.async_packet.specs.declared.fault.PacketFault.{PacketFault}
pub use Rattle.async_packet.specs.declared.packet.Header.{Header}
pub use Rattle.label_table.specs.Bodies.{Body, Gives, block_read, block_write, header_to, quadlet_read, quadlet_write, request_with, response_to}
pub use Rattle.label_table.specs.Filter.{judge_step, place_for, seen_at}
pub use Rattle.label_table.specs.History.{AreTold, IsFor, IsTold, Life, Told, and_before, began, closed, disowned, ended, expired, for_nobody, forgotten, lets_expire, life, lived, not_begun, not_begun as not_begun_life, over, told_by_asking, told_by_expiring, told_by_finding, told_by_reading, told_closed, told_unknown, under_way, unknown, was_stale}
pub use Rattle.label_table.specs.Judging.{Facts, Row, Facts as RowFacts, by_again, by_generation, by_grammar, by_label, by_request, by_response, row_of}
pub use Rattle.label_table.specs.Laws.{relabelled}
pub use Rattle.label_table.specs.Layer.{Finding, Layer, asked_at, asking_in, closed_at, closed_by, closing_in, disowning_in, expired_at, expiring_in, facts_in, facts_of, free_labels, judged_by, facts_of as layer_facts, new_layer, of_again, of_generation, of_grammar, of_label, of_request, of_response, peer_at, peer_place, rcode_in, responded, seen_in_generation, unlabelled}
unfoldable pub use Rattle.label_table.specs.Layer.{answering_step, asking_step, closing_step, disowning_step, expiring_step, judging_step, seeing_step}
pub use Rattle.label_table.specs.Owned.{is_owned_by, or_else, shown_in}
unfoldable pub use Rattle.label_table.specs.Owned.{owned_place}
pub use Rattle.label_table.specs.Peers.{PeerPlace, ask_place, begun_for, clear_place, close_place, closed_for, disown_place, expire_place, expired_for, last_for, no_peer, peer_of, purpose_for, state_for, with_purpose}
pub use Rattle.label_table.specs.Requests.{IsRequestOf, is_last, kind_by_tcode, label_of, reply_kind}
unfoldable pub use Rattle.label_table.specs.Requests.{is_write, kind_of, with_label}
pub use Rattle.label_table.specs.Table.{Table, begin_at, close_in, expire_in, handle, has_serial, place_at, serves, unused}
unfoldable pub use Rattle.label_table.specs.Table.{begin_step, close_step, expire_step, is_current, lowest_from}
pub use Rattle.label_table.specs.declared.judgement.Asked.{Asked, Asked as Label}
pub use Rattle.label_table.specs.declared.place.LabelState.{LabelState}
pub use Rattle.label_table.specs.declared.place.Place.{Place}
pub use Rattle.label_table.specs.declared.reply.NoLabel.{NoLabel}
pub use Rattle.label_table.specs.declared.reply.ReplyKind.{ReplyKind}
pub use Rattle.label_table.specs.declared.reply.Stale.{Stale}
pub use Rattle.label_table.specs.declared.source.Remembered.{Remembered}
pub use Rattle.packet_store.specs.Calls.{Call, Delivered, InFlight, Lost, Flight as StoreFlight, Unsent, Withdrawn, is_of, send, sent_at, state_at}
pub use Rattle.packet_store.specs.Kept.{IsLowest, NoneFlies, Rise, found as find_kept, first, flying, found, found as found_kept, found_sent, in_air, is_flying, sent_of, with_delivered, without}
pub use Rattle.packet_store.specs.Laws.{shown}
pub use Rattle.packet_store.specs.Stored.{Stored, by_bus_rule, deliver_step, lose_step, newest, send_step, stays, with_sent}
pub use Rattle.packet_store.specs.declared.sent.Kept.{Kept}
pub use Rattle.packet_store.specs.declared.sent.Sent.{Sent, Sent as StoredSent}
pub use Rattle.sbp_bus.specs.Buses.{BusState}
pub use Rattle.sbp_bus.specs.Generations.{GenerationsState, first_topology, id_of, is_at, local_node, no_topology, node_in, node_of, one_of_five, reset_step, see_step as sees_latest, topology_at, id_of as world_id}
unfoldable pub use Rattle.sbp_bus.specs.Generations.{first_ids}
pub use Rattle.sbp_bus.specs.Loads.{appended_to, begun_step, capped, chunks_in, chunks_of, cut_left, load_weight, new_load, of_initiator, orb_load, transfers_by, weights, with_left, without_orb}
unfoldable pub use Rattle.sbp_bus.specs.Loads.{append_step, cut_step, drop_step, lists_weight, take_step, weight_of}
pub use Rattle.sbp_bus.specs.Packets.{destination_in, end_note, judged_note, no_node, no_packet, other_node, source_in}
unfoldable pub use Rattle.sbp_bus.specs.Packets.{judged_as}
pub use Rattle.sbp_bus.specs.Places.{back_at, first_holder, has_login, holder_at, holder_of, is_free, new_places, opened_by, or_nobody, place_in, put_at, taken_by}
unfoldable pub use Rattle.sbp_bus.specs.Places.{back_step, enter_step, left_step, opened_step}
pub use Rattle.sbp_bus.specs.Requests.{RequestsState, find, find as find_request, new_requests, place_of, request_at, serial_at}
unfoldable pub use Rattle.sbp_bus.specs.Requests.{add_step}
pub use Rattle.sbp_bus.specs.Sending.{request_of}
pub use Rattle.sbp_bus.specs.Telling.{counted, cut_loads, dead_note, decided_places, ended_note, initiator_by, list_in, managed_places, orb_in, ran_note}
pub use Rattle.sbp_bus.specs.Words.{check_of, function_word, login_if}
pub use Rattle.sbp_bus.specs.declared.generations.Topology.{Topology}
pub use Rattle.sbp_bus.specs.declared.loads.ListLoad.{ListLoad}
pub use Rattle.sbp_bus.specs.declared.loads.OrbLoad.{OrbLoad}
pub use Rattle.sbp_bus.specs.declared.places.Holder.{Holder}
pub use Rattle.sbp_bus.specs.declared.requests.Request.{Request as BusRequest, Request}
pub use Rattle.bus_transactions.specs.Answers.{AnswerLaw, AnswersWaiting, AreAnswered, IsOwed, IsSentFor}
pub use Rattle.bus_transactions.specs.Bare.{bare, bare_after, bare_finding, bare_place, bare_purpose, bare_result, same}
pub use Rattle.bus_transactions.specs.Fitting.{AreBytes, AreSmall, FitsAnswer, FitsRequest, IsLayer}
pub use Rattle.bus_transactions.specs.Judging.{AreJudged, JudgementLaw, is_awaited, is_repeated, is_response, may_get, may_ignore_by, waits_for}
pub use Rattle.bus_transactions.specs.May.{May, MayAll, MayAsk, is_reset, may_ignore}
unfoldable pub use Rattle.bus_transactions.specs.May.{is_plain}
pub use Rattle.bus_transactions.specs.Moves.{Move, after, answer, answered, answering, arrived, ask, asking, deliver, disown, expire, expiring, inject, judging, lose, moved, reset, see, start, tell}
pub use Rattle.bus_transactions.specs.Once.{IsOnce, OnceLaw}
pub use Rattle.bus_transactions.specs.Packets.{PacketLaw, SerialsCount, flight_as, sent_as}
pub use Rattle.bus_transactions.specs.Reached.{IsAwaited, IsOf, Reached}
pub use Rattle.bus_transactions.specs.Rows.{awaits, kind_as, shape, shape_of}
pub use Rattle.bus_transactions.specs.Sent.{AreSent, IsOwn, LabelsLaw, SentLaw, bare_request}
pub use Rattle.bus_transactions.specs.Steps.{AreAsks, AreGivenUp, ArePlainSides, GivesUp, IsAnswering, IsAsking, IsDelivery, IsExpiry, IsPlainSide, answer_to, answered_by, judged_for, layer_after, of_known, of_none, request_to, requests_of, with_asked}
pub use Rattle.bus_transactions.specs.Wire.{Due, Node, Reply, Wire, as_before, as_decided, as_sending, as_sent, decided, due_for, first_note, id_for, is_reply, is_stated, next_serial, beginning as no_wire, outgoing, transaction}
