-- What proofs cite of an initiator and its parts, under one name each.
pub use Rattle.sbp_initiator.specs.Acting.{IsAction, address_of, append_step, asked_as, asked_for, begun, counted, counted_list, demand_of, demanded_as, dummy_for, facts_with, first_in, judged_as, link_as, link_step, login_id, login_orb, low_as, low_step, manage_demand, manage_start, managed_by, orb_by, orb_for, pinned_for, put_as, put_step, register_of, register_start, ring_demand, ring_for, ring_step, with_first, with_pin, with_ring, with_running}
unfoldable pub use Rattle.sbp_initiator.specs.Acting.{act_step, done_step}
pub use Rattle.sbp_initiator.specs.Commands.{IsCommand, asked_by, plan_of, prepared_as}
unfoldable pub use Rattle.sbp_initiator.specs.Commands.{put_lists}
pub use Rattle.sbp_initiator.specs.Effects.{Turn as OwnTurn, Turn, ask_quad, asked_quad, conflict_for, conflict_step, doorbell_ended, drop_list_step, drop_where, dropped_as, enable_ended, end_own_for, end_own_step, end_step, ended_for, fail_step, fault_number, finish_rom, good_end, good_event, good_word, is_address, is_conflict, known_step, known_where, managed_step, management_ended, moved, moves_session, next_quad, pointed_step, pointer_ended, quad_got, reset_ended, response_of, rom_ended, state_ended, state_told, stick_step, then_step, told, with_answered, with_dead, with_request, with_rom, with_unit}
unfoldable pub use Rattle.sbp_initiator.specs.Effects.{ended_step}
pub use Rattle.sbp_initiator.specs.Histories.Begins.{IsFree as FreeFor, IsFree, after_by, begun_as}
pub use Rattle.sbp_initiator.specs.Histories.Drops.{drop_if, ends_the_list, state_drops}
pub use Rattle.sbp_initiator.specs.Histories.Ends.{OpEnd, own as as_sides, drops, fails_write, is_managed, notes_of, ops, own, read_ends, state_ops, sticks, sticks_by}
pub use Rattle.sbp_initiator.specs.Histories.Judging.{LeftBy, facts_at, fifo_for, is_awaited, is_awaited_by, is_open, is_read, judging_by, judging_for, note_by, note_of, waits_in as waits_there}
pub use Rattle.sbp_initiator.specs.Histories.Laws.{AreCalls, Call, IsCall, acts, after, after as after_calls, done, after as laws_after, sees as laws_sees, lets_expire, receives, receives as receives_call, sees}
pub use Rattle.sbp_initiator.specs.Histories.Marks.{answered_after, answers_pointer, call_answers, finding_answers, known_if, loses_list}
pub use Rattle.sbp_initiator.specs.Histories.Moves.{Moves, Stage, answers, asks, counts_up, expires, fails, go_on, holds, judges, learns, marks_as, reads_on, relists, resets, sits, staged, stay, tells, turns_to, works_at}
pub use Rattle.sbp_initiator.specs.Histories.Pointing.{IsReset, Pointed as PointedNow, PointingAfter, UnderWay}
pub use Rattle.sbp_initiator.specs.Histories.Served.{ReadsAfter, held_after, held_by, held_if, with_orb}
pub use Rattle.sbp_initiator.specs.Histories.Slots.{AreSlotsOf, action_calls, block_calls, block_writes, calls_if, drop_calls, dummy_calls, has_ended, heard_calls, orb_calls, orb_in, pin_calls, quadlet_writes, request_calls, slot_calls, slot_calls_after, status_calls, unpin_calls, write_calls, written_by}
unfoldable pub use Rattle.sbp_initiator.specs.Histories.Slots.{quad_calls}
pub use Rattle.sbp_initiator.specs.Histories.Taking.{Brought, block_drops, block_note, block_notes, brought, brought_by, finding_drops, nothing, status, taken_of, unsolicited, waiting_at}
pub use Rattle.sbp_initiator.specs.Initiators.{first_management, own_rom, ready_response}
unfoldable pub use Rattle.sbp_initiator.specs.Initiators.{new_state}
pub use Rattle.sbp_initiator.specs.Receiving.{address_error, addressed, answer_of, block_at, block_by, block_step, called, data_error, expired_as, fifo_of, got_step, ignored_step, is_foreign, managed_for, received as own_received, present_for, quadlet_at, read_as, received, request_step, respond_step, responded_as, serve_step, status_step, taken_as, taken_by, type_error, written_as}
unfoldable pub use Rattle.sbp_initiator.specs.Receiving.{expire_step, receive_step}
pub use Rattle.sbp_initiator.specs.Refusals.{SessionState, ends_list, fits_session, is_in_held, is_in_live, is_in_out, is_in_stuck, is_leaving, is_list_step, is_live, is_stuck, needs_rom, operation_of, operation_of as own_operation, prepares, rings, rows_of, sends}
unfoldable pub use Rattle.sbp_initiator.specs.Refusals.{refusal}
pub use Rattle.sbp_initiator.specs.Refusing.{finds_label}
pub use Rattle.sbp_initiator.specs.Seeing.{all_end, freed_step, interrupted, reset_step, reset_told, resets_told, seen_as, states_end}
unfoldable pub use Rattle.sbp_initiator.specs.Seeing.{see_step}
pub use Rattle.sbp_initiator.specs.States.{counts_for, ending_by, ending_of, is_answered, is_list, is_orb_of, is_present_orb, is_unwritten, last_linked, no_marks, operation_in, place_in, place_of, session_of, status_in, wanted_body}
pub use Rattle.sbp_initiator.specs.Steps.{is_step}
pub use Rattle.sbp_initiator.specs.declared.purpose.Demand.{Demand}
pub use Rattle.sbp_initiator.specs.declared.purpose.Ending.{Ending}
pub use Rattle.sbp_initiator.specs.declared.purpose.Pointing.{Pointing}
pub use Rattle.sbp_initiator.specs.declared.purpose.Purpose.{Purpose as OwnPurpose, Purpose}
pub use Rattle.sbp_initiator.specs.declared.purpose.Running.{Running}
pub use Rattle.sbp_initiator.specs.declared.purpose.Wanted.{Wanted}
pub use Rattle.sbp_initiator.specs.declared.state.InitiatorState.{InitiatorState}
pub use Rattle.initiator_base.specs.Fifos.{is_dead_kind, is_login_fifo, is_open_login}
unfoldable pub use Rattle.initiator_base.specs.Fifos.{fifo_at}
pub use Rattle.initiator_base.specs.Places.{behind_by, is_managed_orb, login_fifo, management_at, names_place, place_fifo, reads_rom}
pub use Rattle.initiator_base.specs.Quads.{with_quad}
pub use Rattle.initiator_base.specs.declared.fifos.Fifo.{Fifo}
pub use Rattle.sbp_session.specs.Laws.{carried, carried_on}
pub use Rattle.sbp_session.specs.Moves.{Event, Event as Move, Event as SessionEvent, bad, conflict, entered, failed, from_entering, from_held, from_live, from_out, from_returning, from_stuck, good, pointed, pointing, reset, sent}
unfoldable pub use Rattle.sbp_session.specs.Moves.{goes}
pub use Rattle.sbp_session.specs.Seats.{is_out_seat, is_stuck_seat, points, points as points_in, response_in, stick}
pub use Rattle.sbp_session.specs.declared.seat.Origin.{Origin}
pub use Rattle.sbp_session.specs.declared.seat.Seat.{Seat}
pub use Rattle.orb_list.specs.Frees.{PinsAlone, dropped_at, free_by, is_linked, is_over_by, is_passed, over_by, pinned_by, status_of}
pub use Rattle.orb_list.specs.Holds.{HoldsLink, HoldsList, HoldsPresent, HoldsSlots, IsBefore}
pub use Rattle.orb_list.specs.Keeps.{was_prepared}
pub use Rattle.orb_list.specs.Kept.{AreProper, HoldsOrb, IfHoldsOrb, IsManaged, IsProper, Kept, in_slot, is_dummy, kept_in, low_is, new_kept, next_is, orb_now}
pub use Rattle.orb_list.specs.Layout.{behind, data_in_segments, data_size, data_start, data_written, has_table, orb_of, table_bytes, written}
pub use Rattle.orb_list.specs.Lists.{ListState, answer_by, answer_in, in_segments, last_at, last_in, no_answer, plan_at, planned_as, stepped, with_parts, with_slots}
unfoldable pub use Rattle.orb_list.specs.Lists.{answer_at, drop_lists, dummy_lists, free_lists, high_lists, low_lists, manage_lists, pin_lists, take_lists, unpin_lists, write_lists}
pub use Rattle.orb_list.specs.Requests.{Asked, IsRequest}
pub use Rattle.orb_list.specs.Runs.{DropList, Dropped, Dummied, Fill, FreeAll, Freed, LinkHigh, LinkLow, Linked, LowWritten, MakeDummy, Note, Pin, Pinned, Prepare, Prepared, SetQuad, TakeStatus, Taken, TryWrite, Unpin, Unpinned, if_ok, if_some, left_by, noted_by, run}
pub use Rattle.orb_list.specs.Table.{SlotTable, added, checked, closed_slots, drop_for, dummy_at, extended, free_slot, free_state, freed, high_for, high_in, high_step as high_slots, is_done, is_free, is_mid_link, is_over, is_pinned, link_set, list_number, lists_begun, low_for, low_in, low_step as low_slots, lowest, may_prepare, new_table, next_is_linked, next_ticket, orb_number, over_for, over_in, passed_for, pin_at, prepare_at, rested, slot_in, slot_in as slot_of_table, state_after, status_at, status_for, swept, unpin_for, unused, waiting, waits_in as waits_by, waits_high, waits_in, waits_low, with_link, with_orb_quad, with_status}
unfoldable pub use Rattle.orb_list.specs.Table.{closed, drop_step, dummy_step, find_in, free_all_step, high_step, pin_step, prepare_step, released, low_step as slot_low, status_step as slot_step, unpin_step}
pub use Rattle.orb_list.specs.Tables.{segments_of}
pub use Rattle.orb_list.specs.Tickets.{TicketParts, is_ticket, ticket}
pub use Rattle.orb_list.specs.declared.answer.AnswerPlan.{AnswerPlan}
pub use Rattle.orb_list.specs.declared.fault.ListFault.{ListFault}
pub use Rattle.orb_list.specs.declared.list.Link.{Link}
pub use Rattle.orb_list.specs.declared.list.Linking.{Linking}
pub use Rattle.orb_list.specs.declared.list.PresentList.{PresentList}
pub use Rattle.orb_list.specs.declared.slot.Slot.{Slot}
pub use Rattle.orb_list.specs.declared.slot.SlotState.{SlotState}
pub use Rattle.bus_memory.specs.Access.{judged_at, is_open as memory_open, takes_writes as memory_takes, rcode_number, read_at, read_step, serves, set_step, spot_in, takes_writes, write_at, write_step}
unfoldable pub use Rattle.bus_memory.specs.Access.{judged, spot_of}
pub use Rattle.bus_memory.specs.Laws.{IsFound, IsInside, IsWhole, is_same}
pub use Rattle.bus_memory.specs.Memory.{Memory, bytes_in, is_written, slot_at as memory_at, patch, place_at, slot_at, with_armed, with_bytes, with_place, with_slot}
unfoldable pub use Rattle.bus_memory.specs.Memory.{empty_place, empty_slot, new_memory}
pub use Rattle.bus_memory.specs.Windows.{IfShare, IsWindow, start, start as start_of, within}
unfoldable pub use Rattle.bus_memory.specs.Windows.{is_fifo, slot_of, window_at}
pub use Rattle.bus_memory.specs.declared.access.Access.{Access}
pub use Rattle.bus_memory.specs.declared.access.Rcode.{Rcode}
pub use Rattle.bus_memory.specs.declared.access.Rcode.TheVariants.{AddressError, TypeError}
pub use Rattle.bus_memory.specs.declared.access.Spot.{Spot}
pub use Rattle.bus_memory.specs.declared.slot.PlaceMemory.{PlaceMemory}
pub use Rattle.bus_memory.specs.declared.slot.SlotMemory.{SlotMemory}
pub use Rattle.bus_memory.specs.declared.window.Window.{Window}
pub use Rattle.page_table.specs.Buffer.{AreSegments, addresses, before, buffer_addresses, bytes_of, chunk, chunk_addresses, chunk_from, chunks, pieces, segment_chunks, single, taken_from}
pub use Rattle.page_table.specs.Elements.{elements_of, first_fault}
pub use Rattle.page_table.specs.declared.fault.PageFault.{PageFault}
pub use Rattle.page_table.specs.declared.fault.PageFault.TheVariants.{PastEnd, ZeroSegment}
pub use Rattle.page_table.specs.declared.segment.Chunk.{Chunk}
pub use Rattle.page_table.specs.declared.segment.Segment.{Segment}
pub use Rattle.orb_layout.specs.CommandOrbs.{CommandFits, command_bytes, command_options, command_orb, command_quads}
pub use Rattle.orb_layout.specs.LoginResponses.{login_bytes, login_quads, login_response}
pub use Rattle.orb_layout.specs.ManagementOrbs.{management_bytes, management_options, management_orb, management_quads}
pub use Rattle.orb_layout.specs.Pointers.{IsPointer, bit, flag, node_at, offset_at, pointer_at, pointer_high, pointer_low, quad_bytes}
pub use Rattle.orb_layout.specs.QueryResponses.{entries_bytes, entry_quads, query_bytes, query_count, query_head}
pub use Rattle.orb_layout.specs.Replies.{Answer, Done, Expired, NoLabel, Payload, Refused, payload_of, write_failure}
pub use Rattle.orb_layout.specs.StatusBlocks.{IsKind, check_quads, dead_of, has, illegal_meanings, in_row, is_among, is_check_part, is_management, kind_of, len_of, management_meanings, read_block, read_block as read_status_block, resp_of, row_of, sbp_status_of, sense_of, src_of, status_bytes, status_head, whole_length}
unfoldable pub use Rattle.orb_layout.specs.StatusBlocks.{command_kind}
pub use Rattle.orb_layout.specs.declared.ask.Ask.{Ask}
pub use Rattle.orb_layout.specs.declared.ask.Ask.TheVariants.{Nothing, Read, Write}
pub use Rattle.orb_layout.specs.declared.ask.FailCause.{FailCause}
pub use Rattle.orb_layout.specs.declared.command.CommandOrb.{CommandOrb}
pub use Rattle.orb_layout.specs.declared.fault.OrbFault.{OrbFault}
pub use Rattle.orb_layout.specs.declared.fault.OrbFault.TheVariants.{Form, Length}
pub use Rattle.orb_layout.specs.declared.login.LoginResponse.{LoginResponse}
pub use Rattle.orb_layout.specs.declared.management.ManagementOrb.{ManagementOrb}
pub use Rattle.orb_layout.specs.declared.pointer.OrbPointer.{OrbPointer}
pub use Rattle.orb_layout.specs.declared.pointer.OrbPointer.TheVariants.{At, Null}
pub use Rattle.orb_layout.specs.declared.query.QueryEntry.{QueryEntry}
pub use Rattle.orb_layout.specs.declared.status.StatusBlock.{StatusBlock}
pub use Rattle.orb_layout.specs.declared.status.StatusKind.{StatusKind}
