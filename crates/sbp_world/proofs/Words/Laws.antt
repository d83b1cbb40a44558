-- What proofs cite of the terms and the laws of a history, under one name each.
pub use Rattle.sbp_laws.specs.Actions.{action_notes, append_notes, buffer_of, cuts_list, is_lowered, is_mid_link, is_pointing, is_right_state, is_waiting, link_notes, list_for, new_list, new_number, refusal_at, refusals, running_operation, waits_of}
pub use Rattle.sbp_laws.specs.Agents.{Event, agent_event, agent_turn, by_doorbell, by_pointer, fifo_in, got_in, list_taken, listed_at, listed_by, nothing, replies, reply_to, target_before, told_among, wire_before, write_in, write_of, writes}
pub use Rattle.sbp_laws.specs.AnswerLaw.{AnswerAt, Answers, before_run}
pub use Rattle.sbp_laws.specs.Budget.{flies, initiators, lowest_in_flight, most_deliveries, settle_deliveries, share_of, shares}
unfoldable pub use Rattle.sbp_laws.specs.Budget.{count_flying, lowest_flying}
pub use Rattle.sbp_laws.specs.CarriedBytes.{IsRead, Moved, WasRead, address_of, before_sent, begins_one, buffer_in, is_run_of, joined, laid_out, moved_by, open_among, open_list, orb_read, payload_at, pieces_of, placed, read_at, read_by, reads_since, was_got, writes_since, written_by, written_in}
pub use Rattle.sbp_laws.specs.CarriedLaw.{CarriedAt, EndIsCarried, IsAsAppended, MatchesStatus, Run, RunIsCarried, RunsWhereDue, of_others, run_by, run_of, runs_due, runs_in}
pub use Rattle.sbp_laws.specs.Deliveries.{AreDeliveries, AreEffects, AreLowest, BeginsDelivery, EndsSettle, IsDelivery, IsTurnOf, NoneFlies, SettlesWithin, delivered_by as begins_delivery, delivered_by, deliveries, is_effect, once_told}
pub use Rattle.sbp_laws.specs.DiskFold.{all_but, asks_load, first_units, is_good, left_by_reset, left_by_run, marked, moves_disc, places_of, unit_at}
pub use Rattle.sbp_laws.specs.ExecutionLaw.{ExecutionAt, ExecutionLaw, MayCarry, MayEndWith, RunsOn, asked_data, login_place}
pub use Rattle.sbp_laws.specs.Hosts.{Host, Session, Underway, acted, answered, begin_operation, begun, goes_on, host_at, host_by, goes_on as host_goes_on, is_management, is_stuck, known_host, leaving, list_begins, live, new_host, op_ended, op_left, operation_of, pointer_answered, ready_host, response_of, ring, sent_in, session_ended, session_reset, session_sent, session_stuck, stored, stored_in, told_of, without_read}
pub use Rattle.sbp_laws.specs.JudgementLaw.{answer_packet, rom_size}
pub use Rattle.sbp_laws.specs.Lawful.{injectors, nobody}
pub use Rattle.sbp_laws.specs.LineLaw.{BringsLine, Either, LineLaw, is_known, injected as law_injected, refused as law_refused, may_repeat as law_repeats, may_inject, names_node, node_from}
pub use Rattle.sbp_laws.specs.Lists.{Orb, SlotState as Row, SlotState, TakenStatus, cmd_of, command_at, freed, is_dummy, is_list, is_none_taken, is_orb, is_over, is_over_by, is_pinned, is_vacant, last_got, linked, list_in, lowered, lowest_vacant, named, named_in, list_in as named_list, number_in as named_number, orb as named_orb, new_slots, number_in, orb, passed, pinned_orb, pins, slot_at as place_at, prepared_in, present_list, put_to_rest, resting, rests_at, slot_at, slots, src_in, taken_at, used, vacant, waits_in}
pub use Rattle.sbp_laws.specs.OnLists.{LawfulOnLists}
pub use Rattle.sbp_laws.specs.OnTheBus.{FormedOnTheBus, HasFormAt, IsTypedAt, LawfulOnTheBus}
pub use Rattle.sbp_laws.specs.OnceLaw.{ClosesOne, IsNew, OnceAt, OnceLaw, WasServed, is_between, is_done, is_fair, is_fair_write, is_wild, is_write_in}
pub use Rattle.sbp_laws.specs.OrderLaw.{IsNextAppend, IsNextEnd, IsOpen, OrderAt, OrderLaw, is_cut, is_cut as was_cut}
pub use Rattle.sbp_laws.specs.Packets.{access_at, access_in, access_in_bytes, answer_in, answer_of, answered_as, answered_at, answered_in, begun_in, closed_by, finds_label, id_for, id_of, is_of_now, is_under_way, is_waiting_for, packet_at, packet_in, receiver_in, request_bytes, sender_in, serves, spelled_by, answer_in as term_answer, to_peer, waits_for, closed_by as wire_closed}
unfoldable pub use Rattle.sbp_laws.specs.Packets.{label_for, lowest_from}
pub use Rattle.sbp_laws.specs.SentAnswers.{Begins, answers_to, is_answered, reply_in, reply_packet}
pub use Rattle.sbp_laws.specs.Served.{asked_for, byte_in, byte_of, byte_written, bytes_from, cut, data_at, direction_of, goes_in, has_direction, host_reply, id_as_prepared, in_front, is_complete_at, is_fifo_write, is_open, is_own, is_used, lies_inside, management_orb_of, next_high, next_low, or_byte, orb_address, orb_held, orb_in_slot, place_bytes, place_held, place_written, plain_orb, rom_bytes, size_of, slot_is_open, table_held, table_in_slot, tables_before, tables_in_slot, takes_writes, window_facts, window_gives, with_format}
pub use Rattle.sbp_laws.specs.StatusLaw.{EndedOrb, IsTaken, SpellsStatus, StatusLaw, TakenAt, TakesEach, Taking, fifo_of, first_of, if_waits, is_due, status_due, status_packet, taking_at, taking_by, taking_of, takings_in}
pub use Rattle.sbp_laws.specs.Targets.{Agent, Decided, Purpose, Reply, Target, Purpose as TermPurpose, agent_at, agent_over, ahead_lost, at_id, bytes_in, closed, cut_agent, cut_where, decided_by, decided_in, disabled_at, disk_of, effect_on, entered_by, enters_in, first_login, first_table, for_agent, for_manager, for_nobody, going_on, got_by, has_id, initiator_at, initiator_from, initiator_at as initiator_in, initiator_with, is_nothing, is_own_run, is_serial, is_write_access, keep_decided, key_by, known_at, last_unit, decided_by as laws_decided, replied as laws_replied, login_at, login_fifo, logins_from, main_lost, managed_by, manager_step, moved, new_agent, new_target, node_in, on_unit, over, place_on, plain_for, plain_of, pointed_by, points, purpose_among, purpose_of, ran_on, register_got, replied, replied_to, reply_of, request_got, reset_seen, rings, second_gone, sends_of, sent_as, sent_for, source_in, start_got, started_by, taken_on, target_at, target_by, initiator_at as term_initiator, login_at as term_login, pointed_by as term_pointed, told_by, told_in, unit_in, unit_of, untold_by, wants, wants_it, with_agent, with_untold}
pub use Rattle.sbp_laws.specs.Terms.{Request as Asked, Request, appends, data_of, ended_status, ends, lists, plan_of, ran_status, request_at, runs, status_of, takes}
pub use Rattle.sbp_laws.specs.Turns.{EachMoment, EachTurn, EachTurnBefore, Turn, effects_of, event_of, is_sent, turn}
