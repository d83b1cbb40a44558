-- What proofs cite of the target and its parts, under one name each.
pub use Rattle.sbp_target.specs.Agents.{after_ahead, after_loss, after_main, agent_body, ahead_asked, ahead_sent, ask_ahead, cut_node, disowned, dropped_by, lost_by, main_asked, main_sent, promoted_by, sent_to, told_cut}
unfoldable pub use Rattle.sbp_target.specs.Agents.{ask_main, cut, follow, lose, lose_main, noted, send_ahead, without_ahead}
pub use Rattle.sbp_target.specs.Calls.{Call, after, after as after_calls, alone, done, lets_expire, packets_after, receives, sees, sees as sees_call, sets_key, ticks}
pub use Rattle.sbp_target.specs.Desks.{disabled, expired_desk, is_that, new_desk, point_desk, pointed_desk, promoted_desk, reset_desk, taken, which_in}
pub use Rattle.sbp_target.specs.Faults.{NoneFell}
pub use Rattle.sbp_target.specs.Histories.Answers.{response_of}
pub use Rattle.sbp_target.specs.Histories.Judgements.{BeginsWith, asked_at, asked_of, facts_at, gives_at, judged_by, rom_gives, row_gives, row_rcode, state_gives, state_rcode}
pub use Rattle.sbp_target.specs.Histories.Layers.{layer_after, packets_of, request, request as request_packet, response, with_asked}
pub use Rattle.sbp_target.specs.Histories.Moves.{Announced, Asks, Behind, FitsAt, FitsBy, FitsIn, Kind, MayAct, Moves, Tells, announced, asks_ahead, asks_main, back, by_agent, by_disc, by_manager, cleared, departed, died, ended, failed, fitting, free, go_on, lapsed, loses, lost_at, managed, opened, plain, pushes, ran, serving, stay, still, unsent, was_cut, withholds}
pub use Rattle.sbp_target.specs.Histories.Transactions.{IsThat, IsUnderWay, TransactionLaw}
pub use Rattle.sbp_target.specs.Management.{clear_one, clear_units, cut_place, cut_placed, effect_by, failed_by, fresh_desk, left_desk, logged_out, lost_in, managed_in, managed_with, manager_asked, manager_body, manager_lost, manager_sent, place_in, tell_failed, tell_left, told_of, with_manager}
unfoldable pub use Rattle.sbp_target.specs.Management.{ask_manager, decided_by, lose_operation, manage, decided_by as node_decided}
pub use Rattle.sbp_target.specs.Nodes.{NodeState, Scene, Scene as TargetScene, desk_at, login_at, scene, with_agent, with_desk}
pub use Rattle.sbp_target.specs.Receiving.{Receives as TargetStep, TellsAt, TellsIn, after_reset, answer_in, cleared_node, expired_by, expired_in, expired_with, held_all, judged_scene, new_node, received_as, reset_by, settled, tell_held, ticked_by, timed_out, with_key, with_layer}
unfoldable pub use Rattle.sbp_target.specs.Receiving.{concluded, expire_agent, expired, expired_from, held_from, received, seen, seen as target_seen, ticked as target_ticked, ticked}
pub use Rattle.sbp_target.specs.Replies.{Stage, TellsBy, Whole, advanced_with, agent_step, announced_by, came, changed_by, plain_at, plain_in, replied_by, replied_with, scene_of, served_login, stage, whole}
unfoldable pub use Rattle.sbp_target.specs.Replies.{advance, follow_all, replied, replied_to, replied as step_replied}
pub use Rattle.sbp_target.specs.Sending.{answered_by, is_sent_as, sent_by, with_packet, with_side}
unfoldable pub use Rattle.sbp_target.specs.Sending.{answer_step, request_step as asks_step, request_step}
pub use Rattle.sbp_target.specs.Serving.{accessed_by, answered, asked_in, enabled, last_pointer, pointed_by, pointer_bytes, rcode_of, rung_by, served_as, start as start_operation, started_by, state_number, started_by as target_started}
unfoldable pub use Rattle.sbp_target.specs.Serving.{is_barred, point, ring, serve, request_step as served_step, request_step as serving_step, start}
pub use Rattle.sbp_target.specs.Targets.{Expires, ExpiresBy, TargetState}
pub use Rattle.sbp_target.specs.Telling.{or_zero, orb_of, tell_dead, tell_ended, tell_ran}
unfoldable pub use Rattle.sbp_target.specs.Telling.{tell_step}
pub use Rattle.sbp_target.specs.Units.{announce_in, cut_all, hears, is_cut, is_pending, unsolicited_by, unsolicited_from}
unfoldable pub use Rattle.sbp_target.specs.Units.{announce_at, announce_from, announce_to, clear_from, clear_unit, cut_at, cut_from}
pub use Rattle.sbp_target.specs.declared.desk.Desk.{Desk}
pub use Rattle.sbp_target.specs.declared.purpose.Purpose.{Purpose}
pub use Rattle.sbp_target.specs.declared.purpose.Sent.{Sent, Sent as Under}
pub use Rattle.target_base.specs.Addresses.{Reached, Row, accessed, accessed_at, address_error, agent_register, agents_start, by_address, by_register, by_rom, by_type, complete, conflict_error, demand_by, is_lock, is_read, is_start, length_in, management_start, offset_in, or_nowhere, reached, reads_rom, register_by, rom_start, row_of, served_by, writes_rom}
unfoldable pub use Rattle.target_base.specs.Addresses.{demand_of, register_at}
pub use Rattle.target_base.specs.Beginning.{ready_login, target_eui}
unfoldable pub use Rattle.target_base.specs.Beginning.{ready_from}
pub use Rattle.target_base.specs.Logins.{if_served, is_barred_at}
pub use Rattle.target_base.specs.Places.{is_of_unit, is_place}
unfoldable pub use Rattle.target_base.specs.Places.{mask_of}
pub use Rattle.target_base.specs.declared.address.Access.{Access, Access as AgentAccess, Access as Asked}
pub use Rattle.target_base.specs.declared.address.AgentRegister.{AgentRegister}
pub use Rattle.target_base.specs.declared.address.Demand.{Demand}
pub use Rattle.target_base.specs.declared.address.Register.{Register}
pub use Rattle.command_agent.specs.Checks.{death_by, plain_length, reads_table}
unfoldable pub use Rattle.command_agent.specs.Checks.{refusal, verdict}
pub use Rattle.command_agent.specs.Machine.{Machine as AgentMachine, Machine, aligned, awaits_run, chunk_of, cut_to, has_present, is_ahead, is_sent, is_under_way, limit_of, named, new_machine, plan_of, present_of, rung_in, state_in}
pub use Rattle.command_agent.specs.Runs.{MayRun, MayTell}
pub use Rattle.command_agent.specs.Steps.{advanced, reply_step as agent_reply, ahead_lost, ahead_of, ahead_read, ahead_step, answer_chunk, answer_grown, asks, block_of, check_step, checked, chunk_written, data_grown, data_read, data_step, dead_step, doorbell_in, elements_read, end_step, fail_step, fetch_step, follow_step, is_label, is_reset, judge_step, judged, kept_ahead, lost, main_lost as main_loss, main_lost, next_read, orb_read, passed_step, point_in, pointed, quiet, ran_as, reread_step, run_step, sent, served, src_of, status_phase, table_read, told_or, turn_step, turned, unread_buffer, wait_step, with_ahead, with_outcome}
unfoldable pub use Rattle.command_agent.specs.Steps.{abort_step, doorbell_step, lost_step, point_step, reply_step, reset_step}
pub use Rattle.command_agent.specs.Tasks.{writes_status}
pub use Rattle.command_agent.specs.declared.phase.Phase.{Phase}
pub use Rattle.command_agent.specs.declared.phase.ReadAhead.{ReadAhead}
pub use Rattle.command_agent.specs.declared.step.AgentState.{AgentState}
pub use Rattle.command_agent.specs.declared.step.AgentStep.{AgentStep}
pub use Rattle.command_agent.specs.declared.step.Move.{Move}
pub use Rattle.command_agent.specs.declared.step.PointRefusal.{PointRefusal}
pub use Rattle.command_agent.specs.declared.step.Which.{Which}
pub use Rattle.command_agent.specs.declared.step.Which.TheVariants.{Ahead, Main}
pub use Rattle.agent_laws.specs.Along.Along.{Along, Answers, AtEnd, Filling, HasTold, Knows, KnowsAhead, Progress, ReadsAhead, Tabling, at_start}
pub use Rattle.agent_laws.specs.Along.Lists.{Grows, IsGood, IsLaid, Leads, OrbList}
pub use Rattle.agent_laws.specs.Along.Requests.{ahead_ask, ahead_beside, ahead_under, main_ask, main_beside, main_by, main_under}
pub use Rattle.agent_laws.specs.Along.Steps.{AheadBrings, Brings, BringsOrb, IsEnd, IsOfList, IsRun, Keeps, MainBrings, PointerBrings, WasRead, chunk_by, end_by, heard_by, main_heard, number_behind, progress_by, run_by, status_by}
pub use Rattle.agent_laws.specs.Along.Tried.{disk}
pub use Rattle.agent_laws.specs.Answers.{is_good, to_write}
pub use Rattle.agent_laws.specs.Wire.{EndsBy}
pub use Rattle.mgmt_agent.specs.Decisions.{agent_base, asked_by, back_decided, decide_function, decide_login, decide_query, effect_of, entries_of, entry_of, granted_hold, key_at, lacks_key, left_decided, live_login, login_decided, on_login, reads_eui, told, unit_exists, with_status}
unfoldable pub use Rattle.mgmt_agent.specs.Decisions.{decide, response_bytes}
pub use Rattle.mgmt_agent.specs.Effects.{Does, Enters, PlaceBelow, Returns}
pub use Rattle.mgmt_agent.specs.Machine.{beside, cut_response, decided_as, eui_step, high_eui_at, high_got, in_phase, low_eui_at, low_got, orb_got, reply_in, reply_to, respond_step, response_written, source_in, start_with, status_block, status_step, status_written, telling}
unfoldable pub use Rattle.mgmt_agent.specs.Machine.{decide_step, start_step}
pub use Rattle.mgmt_agent.specs.Statuses.{function_of, number_of, status_of}
pub use Rattle.mgmt_agent.specs.declared.decision.Decision.{Decision}
pub use Rattle.mgmt_agent.specs.declared.decision.Effect.{Effect}
pub use Rattle.mgmt_agent.specs.declared.decision.ManagerStep.{ManagerStep}
pub use Rattle.mgmt_agent.specs.declared.decision.Response.{Response}
pub use Rattle.mgmt_agent.specs.declared.function.Function.{Function}
pub use Rattle.mgmt_agent.specs.declared.operation.Busy.{Busy}
pub use Rattle.mgmt_agent.specs.declared.operation.Operation.{Operation as Managed, Operation}
pub use Rattle.mgmt_agent.specs.declared.status.Status.{Status}
pub use Rattle.login_table.specs.Requests.{LoginRequest}
pub use Rattle.login_table.specs.Sound.{IsSound, IsTable}
pub use Rattle.login_table.specs.Table.{Table, back_at, back_to, enter_at, entered, expired_id, expired_ids, find, held, held_for, held as held_login, id_at, id_of, if_of_node, is_denied, is_held, is_last, is_live, is_live_of, is_of_node, is_old, is_used, leave_at, place_at as login_in, ticked as login_ticked, new_table, next_id, one_less, place_at, revived, tick_step, units_places, without}
unfoldable pub use Rattle.login_table.specs.Table.{back_step, enter_step, fresh_id, leave_step, left_for}
pub use Rattle.login_table.specs.declared.login.Entered.{Entered}
pub use Rattle.login_table.specs.declared.login.Login.{Login}
pub use Rattle.login_table.specs.declared.login.LoginRefusal.{LoginRefusal}
pub use Rattle.login_table.specs.declared.login.LoginRefusal.TheVariants.{OtherNode}
pub use Rattle.rbc_disk.specs.Checks.{check_of as check_by, check_if, field_check, first_of, mark_check, request_check, told_marks, tray_check}
unfoldable pub use Rattle.rbc_disk.specs.Checks.{check_of}
pub use Rattle.rbc_disk.specs.Disk.{Disc, Disk, blocks_at, disk_at, ejected, loaded, loads, no_disk}
pub use Rattle.rbc_disk.specs.Held.{Held}
pub use Rattle.rbc_disk.specs.Requests.{answer_length, data_length, is_eject, is_inquiry, is_load, is_outside, is_start_stop, is_unfit, is_write, needs_medium, plain_request}
unfoldable pub use Rattle.rbc_disk.specs.Requests.{request_of as disk_request, request_of}
pub use Rattle.rbc_disk.specs.Runs.{Feeds, MayEnd, Told, after_run, answer_by, answer_length_by, answer_length_of, answer_of, answered_length, check_in, data_length_by, data_length_of, failure_by, failure_in, failure_of, inquiry_bytes, left_by, medium_after, medium_after_good, medium_ended, need_of, told_in}
pub use Rattle.rbc_disk.specs.Units.{PlainDisk, UnitState, changed_for, has_place, new_unit, plain_disk}
pub use Rattle.rbc_disk.specs.declared.command.BufferPlan.{BufferPlan}
pub use Rattle.rbc_disk.specs.declared.command.Need.{Need}
pub use Rattle.rbc_disk.specs.declared.command.Need.TheVariants.{Payload}
pub use Rattle.rbc_disk.specs.declared.command.Outcome.{Outcome}
pub use Rattle.rbc_disk.specs.declared.request.Request.{Request}
pub use Rattle.rbc_command.specs.Commands.{command_by, command_in, command_of, count_of_ten, count_of_twelve, flag, lba_of, moves_disc, operation_in, starts, unless_bad}
pub use Rattle.rbc_command.specs.SenseData.{bad_field, is_protected, medium_changed, no_command, no_medium, not_started, outside, read_failed, removal_prevented, was_reset, write_failed}
pub use Rattle.rbc_command.specs.declared.command.Command.{Command}
pub use Rattle.rbc_command.specs.declared.sense.Sense.{Sense}
pub use Rattle.media_bay.specs.Unsolicited.{block, is_block, block as unsolicited_block}
unfoldable pub use Rattle.media_bay.specs.Unsolicited.{block_head}
unfoldable pub use Rattle.config_rom.specs.Make.{made}
pub use Rattle.config_rom.specs.Reading.{Tree, reading as rom_reading}
unfoldable pub use Rattle.config_rom.specs.Reading.{reading}
unfoldable pub use Rattle.config_rom.specs.Sum.{low_bits, sum_of}
pub use Rattle.config_rom.specs.Tree.{entries_from}
unfoldable pub use Rattle.config_rom.specs.Tree.{entry_at}
pub use Rattle.config_rom.specs.Unit.{Directory, directories, first_unit, first_value, has_key, has_value, is_sbp, is_unit, names_unit, root_entries, type_bits, unit_of}
unfoldable pub use Rattle.config_rom.specs.Unit.{sbp_unit_of}
pub use Rattle.config_rom.specs.declared.block.Block.{Block}
pub use Rattle.config_rom.specs.declared.block.Entry.{Entry}
pub use Rattle.config_rom.specs.declared.fault.RomFault.{RomFault}
pub use Rattle.config_rom.specs.declared.unit.SbpUnit.{SbpUnit}
