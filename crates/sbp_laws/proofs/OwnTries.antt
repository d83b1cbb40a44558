-- The journals that the sentences in the subject's own words were tried on, each by itself.
use Rattle.std.proofs.Common.{◌≡◌, ℕ, List, [], ◌∷◌, refl, ap, arith}
use Rattle.std.specs.Prelude.{true, false, Some, None, slice_index}
use Rattle.orb_layout.specs.declared.ask.FailCause.TheVariants as causes
use Rattle.orb_layout.specs.declared.status.StatusKind.TheVariants as kinds
use Rattle.sbp_journal.specs.Run.{history, said}
use Rattle.sbp_journal.specs.declared.cause.CutCause.TheVariants as cuts
use Rattle.sbp_journal.specs.declared.operation.FunctionWord.TheVariants as functions
use Rattle.sbp_journal.specs.declared.note.Note.TheVariants as notes
use Rattle.sbp_laws.specs.Turns.{EachMoment, EachTurn, turn}
use Rattle.sbp_laws.specs.Targets.{Agent, agent_at, over, target_at}
use Rattle.sbp_laws.specs.Aborts.{AbortsStand}
use Rattle.sbp_laws.specs.Decided.{DecisionStands}
use Rattle.sbp_laws.specs.SentLaw.{IsAtRest}
use Rattle.sbp_laws.specs.SentWrites.{DecisionsAreSent, NodeWrite, StatusesAreSent, ends_silently}
use Rattle.sbp_laws.specs.Unasked.{NoneUnasked}
use Rattle.sbp_laws.specs.Journals as journals
use Rattle.sbp_laws.specs.RareRuns as rare
use Rattle.sbp_laws.specs.Refused as refused
use Rattle.sbp_laws.specs.Tried.{OwnTried}
use Rattle.async_packet.specs.Reading.{reading}
use Rattle.async_packet.specs.Faults.{fault_of}
use Rattle.async_packet.specs.Fields.{tcode_of, header_of, offset_of, rcode_of, value_of, length_of, extended_of}
use Rattle.async_packet.specs.Canon.{three, four}
use Rattle.sbp_journal.specs.Transactions.{part_of, is_to, is_same, asked_by, begun_by, belongs}
use Rattle.sbp_journal.specs.Addresses.{start_at}
use Rattle.sbp_laws.specs.Packets.{lowest_from, label_for, free_from}
use Rattle.sbp_laws.specs.Budget.{count_flying, lowest_flying}
use Rattle.label_table.specs.Requests.{label_of, with_label, is_write, kind_of}
use Rattle.bus_memory.specs.Windows.{slot_of, window_at, is_fifo}
use Rattle.command_agent.specs.Steps.{point_step, doorbell_step, reset_step, abort_step, reply_step, lost_step}
use Rattle.command_agent.specs.Checks.{refusal, verdict}
use Rattle.rbc_disk.specs.Requests.{request_of}
use Rattle.rbc_disk.specs.Checks.{check_of}
use Rattle.rbc_disk.specs.Disk.{blank_bytes}
use Rattle.orb_layout.specs.StatusBlocks.{command_kind}
use Rattle.page_table.specs.Elements.{elements_from}
use Rattle.config_rom.specs.Make.{made}
use Rattle.media_bay.specs.Unsolicited.{block_head}
use Rattle.mgmt_agent.specs.Decisions.{decide, reads_eui, live_login, response_bytes}
use Rattle.mgmt_agent.specs.Machine.{start_step, reply_step as reply_step_of_manager, decide_step}
use Rattle.login_table.specs.Table.{fresh_id, left_for, enter_step, back_step, leave_step}

-- a byte of the first of these writes, and its address
abbrev byte_at : (at : ℕ) → List NodeWrite → ℕ
byte_at at [] = 0
byte_at at (write ∷ writes) = slice_index write.payload at

abbrev first_offset : List NodeWrite → ℕ
first_offset [] = 0
first_offset (write ∷ writes) = write.offset

abort_out_of_nothing : EachTurn (AbortsStand journals.one_disk) journals.aborted_unasked → ⊥
unfolding reading fault_of tcode_of header_of offset_of rcode_of value_of length_of extended_of three four part_of is_to is_same asked_by begun_by belongs start_at lowest_from label_for free_from count_flying lowest_flying label_of with_label is_write kind_of slot_of window_at is_fifo point_step doorbell_step reset_step abort_step reply_step lost_step refusal verdict request_of check_of blank_bytes command_kind elements_from made block_head decide reads_eui live_login response_bytes start_step reply_step_of_manager decide_step fresh_id left_for enter_step back_step leave_step
abort_out_of_nothing = λ law. let bad : true ≡ false = law.0 in cc bad

abort_passed_over : EachTurn (AbortsStand journals.one_disk) refused.aborted_left_out → ⊥
unfolding reading fault_of tcode_of header_of offset_of rcode_of value_of length_of extended_of three four part_of is_to is_same asked_by begun_by belongs start_at lowest_from label_for free_from count_flying lowest_flying label_of with_label is_write kind_of slot_of window_at is_fifo point_step doorbell_step reset_step abort_step reply_step lost_step refusal verdict request_of check_of blank_bytes command_kind elements_from made block_head decide reads_eui live_login response_bytes start_step reply_step_of_manager decide_step fresh_id left_for enter_step back_step leave_step
abort_passed_over = λ law. let bad : false ≡ true = law.0 in cc bad

cut_left_out : EachTurn (DecisionStands journals.one_disk) (rare.abort_set []) → ⊥
unfolding reading fault_of tcode_of header_of offset_of rcode_of value_of length_of extended_of three four part_of is_to is_same asked_by begun_by belongs start_at lowest_from label_for free_from count_flying lowest_flying label_of with_label is_write kind_of slot_of window_at is_fifo point_step doorbell_step reset_step abort_step reply_step lost_step refusal verdict request_of check_of blank_bytes command_kind elements_from made block_head decide reads_eui live_login response_bytes start_step reply_step_of_manager decide_step fresh_id left_for enter_step back_step leave_step
cut_left_out = λ law. let bad = (law.0).cut in cc bad

cleared_left_out : EachTurn (DecisionStands journals.one_disk) (rare.unit_reset (notes.Cut 1 (Some 0) cuts.UnitReset ∷ notes.Managed 0 functions.UnitReset 1 0 None ∷ [])) → ⊥
unfolding reading fault_of tcode_of header_of offset_of rcode_of value_of length_of extended_of three four part_of is_to is_same asked_by begun_by belongs start_at lowest_from label_for free_from count_flying lowest_flying label_of with_label is_write kind_of slot_of window_at is_fifo point_step doorbell_step reset_step abort_step reply_step lost_step refusal verdict request_of check_of blank_bytes command_kind elements_from made block_head decide reads_eui live_login response_bytes start_step reply_step_of_manager decide_step fresh_id left_for enter_step back_step leave_step
cleared_left_out = λ law. let bad = (law.0).cleared in cc bad

left_left_out : EachTurn (DecisionStands journals.one_disk) refused.left_left_out → ⊥
unfolding reading fault_of tcode_of header_of offset_of rcode_of value_of length_of extended_of three four part_of is_to is_same asked_by begun_by belongs start_at lowest_from label_for free_from count_flying lowest_flying label_of with_label is_write kind_of slot_of window_at is_fifo point_step doorbell_step reset_step abort_step reply_step lost_step refusal verdict request_of check_of blank_bytes command_kind elements_from made block_head decide reads_eui live_login response_bytes start_step reply_step_of_manager decide_step fresh_id left_for enter_step back_step leave_step
left_left_out = λ law. let bad = (law.0).moved in cc bad

end_without_status : EachTurn (StatusesAreSent journals.one_disk) journals.status_unsent → ⊥
unfolding reading fault_of tcode_of header_of offset_of rcode_of value_of length_of extended_of three four part_of is_to is_same asked_by begun_by belongs start_at lowest_from label_for free_from count_flying lowest_flying label_of with_label is_write kind_of slot_of window_at is_fifo point_step doorbell_step reset_step abort_step reply_step lost_step refusal verdict request_of check_of blank_bytes command_kind elements_from made block_head decide reads_eui live_login response_bytes start_step reply_step_of_manager decide_step fresh_id left_for enter_step back_step leave_step
end_without_status = λ law. let bad = law.0 in cc bad

failure_told : StatusesAreSent journals.one_disk (turn refused.fetch_expires (said (notes.TimedOut 3)) (refused.fails_with (refused.failed_status 1 ∷ [])))
unfolding reading fault_of tcode_of header_of offset_of rcode_of value_of length_of extended_of three four part_of is_to is_same asked_by begun_by belongs start_at lowest_from label_for free_from count_flying lowest_flying label_of with_label is_write kind_of slot_of window_at is_fifo point_step doorbell_step reset_step abort_step reply_step lost_step refusal verdict request_of check_of blank_bytes command_kind elements_from made block_head decide reads_eui live_login response_bytes start_step reply_step_of_manager decide_step fresh_id left_for enter_step back_step leave_step
failure_told = refl

failure_untold : StatusesAreSent journals.one_disk (turn refused.fetch_expires (said (notes.TimedOut 3)) (refused.fails_with [])) → ⊥
unfolding reading fault_of tcode_of header_of offset_of rcode_of value_of length_of extended_of three four part_of is_to is_same asked_by begun_by belongs start_at lowest_from label_for free_from count_flying lowest_flying label_of with_label is_write kind_of slot_of window_at is_fifo point_step doorbell_step reset_step abort_step reply_step lost_step refusal verdict request_of check_of blank_bytes command_kind elements_from made block_head decide reads_eui live_login response_bytes start_step reply_step_of_manager decide_step fresh_id left_for enter_step back_step leave_step
failure_untold = λ law. let bad = law in cc bad

failure_told_as_linked : StatusesAreSent journals.one_disk (turn refused.fetch_expires (said (notes.TimedOut 3)) (refused.fails_with (refused.failed_status 0 ∷ []))) → ⊥
unfolding reading fault_of tcode_of header_of offset_of rcode_of value_of length_of extended_of three four part_of is_to is_same asked_by begun_by belongs start_at lowest_from label_for free_from count_flying lowest_flying label_of with_label is_write kind_of slot_of window_at is_fifo point_step doorbell_step reset_step abort_step reply_step lost_step refusal verdict request_of check_of blank_bytes command_kind elements_from made block_head decide reads_eui live_login response_bytes start_step reply_step_of_manager decide_step fresh_id left_for enter_step back_step leave_step
failure_told_as_linked = λ law. let bad : 0x19 ≡ 0x59 = ap (byte_at 0) law in omega (arith, bad)

status_finds_no_label : StatusesAreSent journals.one_disk (turn rare.last_label_gone (said (notes.TimedOut 66)) (rare.dies_of causes.Timeout kinds.Failed))
unfolding reading fault_of tcode_of header_of offset_of rcode_of value_of length_of extended_of three four part_of is_to is_same asked_by begun_by belongs start_at lowest_from label_for free_from count_flying lowest_flying label_of with_label is_write kind_of slot_of window_at is_fifo point_step doorbell_step reset_step abort_step reply_step lost_step refusal verdict request_of check_of blank_bytes command_kind elements_from made block_head decide reads_eui live_login response_bytes start_step reply_step_of_manager decide_step fresh_id left_for enter_step back_step leave_step
status_finds_no_label = refl

last_told_as_linked : EachTurn (StatusesAreSent journals.one_disk) journals.status_src_0 → ⊥
unfolding reading fault_of tcode_of header_of offset_of rcode_of value_of length_of extended_of three four part_of is_to is_same asked_by begun_by belongs start_at lowest_from label_for free_from count_flying lowest_flying label_of with_label is_write kind_of slot_of window_at is_fifo point_step doorbell_step reset_step abort_step reply_step lost_step refusal verdict request_of check_of blank_bytes command_kind elements_from made block_head decide reads_eui live_login response_bytes start_step reply_step_of_manager decide_step fresh_id left_for enter_step back_step leave_step
last_told_as_linked = λ law. let bad : 0x01 ≡ 0x41 = ap (byte_at 0) law.0 in omega (arith, bad)

linked_told : StatusesAreSent journals.one_disk (turn refused.linked_comes (said (notes.Got 5)) (refused.ends_linked 0x01000000))
unfolding reading fault_of tcode_of header_of offset_of rcode_of value_of length_of extended_of three four part_of is_to is_same asked_by begun_by belongs start_at lowest_from label_for free_from count_flying lowest_flying label_of with_label is_write kind_of slot_of window_at is_fifo point_step doorbell_step reset_step abort_step reply_step lost_step refusal verdict request_of check_of blank_bytes command_kind elements_from made block_head decide reads_eui live_login response_bytes start_step reply_step_of_manager decide_step fresh_id left_for enter_step back_step leave_step
linked_told = refl

linked_told_as_last : StatusesAreSent journals.one_disk (turn refused.linked_comes (said (notes.Got 5)) (refused.ends_linked 0x41000000)) → ⊥
unfolding reading fault_of tcode_of header_of offset_of rcode_of value_of length_of extended_of three four part_of is_to is_same asked_by begun_by belongs start_at lowest_from label_for free_from count_flying lowest_flying label_of with_label is_write kind_of slot_of window_at is_fifo point_step doorbell_step reset_step abort_step reply_step lost_step refusal verdict request_of check_of blank_bytes command_kind elements_from made block_head decide reads_eui live_login response_bytes start_step reply_step_of_manager decide_step fresh_id left_for enter_step back_step leave_step
linked_told_as_last = λ law. let bad : 0x41 ≡ 0x01 = ap (byte_at 0) law in omega (arith, bad)

status_to_other_fifo : StatusesAreSent journals.one_disk (turn (journals.told journals.till_orb) (said (notes.Got 4)) (refused.ends_by (refused.block_packet 0x13000020 0x41000000 0x10000000))) → ⊥
unfolding reading fault_of tcode_of header_of offset_of rcode_of value_of length_of extended_of three four part_of is_to is_same asked_by begun_by belongs start_at lowest_from label_for free_from count_flying lowest_flying label_of with_label is_write kind_of slot_of window_at is_fifo point_step doorbell_step reset_step abort_step reply_step lost_step refusal verdict request_of check_of blank_bytes command_kind elements_from made block_head decide reads_eui live_login response_bytes start_step reply_step_of_manager decide_step fresh_id left_for enter_step back_step leave_step
status_to_other_fifo = λ law. let bad : 0x13000020 ≡ 0x13000000 = ap first_offset law in omega (arith, bad)

status_of_other_slot : StatusesAreSent journals.one_disk (turn (journals.told journals.till_orb) (said (notes.Got 4)) (refused.ends_by (refused.block_packet 0x13000000 0x41000000 0x10000040))) → ⊥
unfolding reading fault_of tcode_of header_of offset_of rcode_of value_of length_of extended_of three four part_of is_to is_same asked_by begun_by belongs start_at lowest_from label_for free_from count_flying lowest_flying label_of with_label is_write kind_of slot_of window_at is_fifo point_step doorbell_step reset_step abort_step reply_step lost_step refusal verdict request_of check_of blank_bytes command_kind elements_from made block_head decide reads_eui live_login response_bytes start_step reply_step_of_manager decide_step fresh_id left_for enter_step back_step leave_step
status_of_other_slot = λ law. let bad : 0x40 ≡ 0 = ap (byte_at 7) law in omega (arith, bad)

response_left_out : EachTurn (DecisionsAreSent journals.one_disk) refused.response_left_out → ⊥
unfolding reading fault_of tcode_of header_of offset_of rcode_of value_of length_of extended_of three four part_of is_to is_same asked_by begun_by belongs start_at lowest_from label_for free_from count_flying lowest_flying label_of with_label is_write kind_of slot_of window_at is_fifo point_step doorbell_step reset_step abort_step reply_step lost_step refusal verdict request_of check_of blank_bytes command_kind elements_from made block_head decide reads_eui live_login response_bytes start_step reply_step_of_manager decide_step fresh_id left_for enter_step back_step leave_step
response_left_out = λ law. let bad = law.0 in cc bad

response_otherwise : EachTurn (DecisionsAreSent journals.one_disk) (journals.responds 0xfffff0040020) → ⊥
unfolding reading fault_of tcode_of header_of offset_of rcode_of value_of length_of extended_of three four part_of is_to is_same asked_by begun_by belongs start_at lowest_from label_for free_from count_flying lowest_flying label_of with_label is_write kind_of slot_of window_at is_fifo point_step doorbell_step reset_step abort_step reply_step lost_step refusal verdict request_of check_of blank_bytes command_kind elements_from made block_head decide reads_eui live_login response_bytes start_step reply_step_of_manager decide_step fresh_id left_for enter_step back_step leave_step
response_otherwise = λ law. let bad : 0x20 ≡ 0 = ap (byte_at 11) law.0 in omega (arith, bad)

query_answered : DecisionsAreSent journals.one_disk (turn refused.query_comes (said (notes.Got 4)) (refused.answers_query 1))
unfolding reading fault_of tcode_of header_of offset_of rcode_of value_of length_of extended_of three four part_of is_to is_same asked_by begun_by belongs start_at lowest_from label_for free_from count_flying lowest_flying label_of with_label is_write kind_of slot_of window_at is_fifo point_step doorbell_step reset_step abort_step reply_step lost_step refusal verdict request_of check_of blank_bytes command_kind elements_from made block_head decide reads_eui live_login response_bytes start_step reply_step_of_manager decide_step fresh_id left_for enter_step back_step leave_step
query_answered = refl

query_answered_otherwise : DecisionsAreSent journals.one_disk (turn refused.query_comes (said (notes.Got 4)) (refused.answers_query 2)) → ⊥
unfolding reading fault_of tcode_of header_of offset_of rcode_of value_of length_of extended_of three four part_of is_to is_same asked_by begun_by belongs start_at lowest_from label_for free_from count_flying lowest_flying label_of with_label is_write kind_of slot_of window_at is_fifo point_step doorbell_step reset_step abort_step reply_step lost_step refusal verdict request_of check_of blank_bytes command_kind elements_from made block_head decide reads_eui live_login response_bytes start_step reply_step_of_manager decide_step fresh_id left_for enter_step back_step leave_step
query_answered_otherwise = λ law. let bad : 2 ≡ 1 = ap (byte_at 7) law in omega (arith, bad)

block_of_other_orb : EachTurn (DecisionsAreSent journals.one_disk) refused.management_status_elsewhere → ⊥
unfolding reading fault_of tcode_of header_of offset_of rcode_of value_of length_of extended_of three four part_of is_to is_same asked_by begun_by belongs start_at lowest_from label_for free_from count_flying lowest_flying label_of with_label is_write kind_of slot_of window_at is_fifo point_step doorbell_step reset_step abort_step reply_step lost_step refusal verdict request_of check_of blank_bytes command_kind elements_from made block_head decide reads_eui live_login response_bytes start_step reply_step_of_manager decide_step fresh_id left_for enter_step back_step leave_step
block_of_other_orb = λ law. let bad : 0x20 ≡ 0 = ap (byte_at 7) law.0 in omega (arith, bad)

block_left_out : EachTurn (DecisionsAreSent journals.one_disk) refused.block_left_out → ⊥
unfolding reading fault_of tcode_of header_of offset_of rcode_of value_of length_of extended_of three four part_of is_to is_same asked_by begun_by belongs start_at lowest_from label_for free_from count_flying lowest_flying label_of with_label is_write kind_of slot_of window_at is_fifo point_step doorbell_step reset_step abort_step reply_step lost_step refusal verdict request_of check_of blank_bytes command_kind elements_from made block_head decide reads_eui live_login response_bytes start_step reply_step_of_manager decide_step fresh_id left_for enter_step back_step leave_step
block_left_out = λ law. let bad = law.0 in cc bad

rests : IsAtRest journals.one_disk (refused.rereads []) 0 (agent_at (over (target_at journals.one_disk (refused.rereads []))) 0)
unfolding reading fault_of tcode_of header_of offset_of rcode_of value_of length_of extended_of three four part_of is_to is_same asked_by begun_by belongs start_at lowest_from label_for free_from count_flying lowest_flying label_of with_label is_write kind_of slot_of window_at is_fifo point_step doorbell_step reset_step abort_step reply_step lost_step refusal verdict request_of check_of blank_bytes command_kind elements_from made block_head decide reads_eui live_login response_bytes start_step reply_step_of_manager decide_step fresh_id left_for enter_step back_step leave_step
rests = record { ended = refl; answered = refl; ends = refl; unrung = refl }

rests_rung : (a : Agent) → IsAtRest journals.one_disk (refused.rereads refused.rings_again) 0 a → ⊥
unfolding reading fault_of tcode_of header_of offset_of rcode_of value_of length_of extended_of three four part_of is_to is_same asked_by begun_by belongs start_at lowest_from label_for free_from count_flying lowest_flying label_of with_label is_write kind_of slot_of window_at is_fifo point_step doorbell_step reset_step abort_step reply_step lost_step refusal verdict request_of check_of blank_bytes command_kind elements_from made block_head decide reads_eui live_login response_bytes start_step reply_step_of_manager decide_step fresh_id left_for enter_step back_step leave_step
rests_rung = λ a law. let bad : true ≡ false = law.unrung in cc bad

rests_unanswered : (a : Agent) → IsAtRest journals.one_disk (journals.told journals.till_status) 0 a → ⊥
unfolding reading fault_of tcode_of header_of offset_of rcode_of value_of length_of extended_of three four part_of is_to is_same asked_by begun_by belongs start_at lowest_from label_for free_from count_flying lowest_flying label_of with_label is_write kind_of slot_of window_at is_fifo point_step doorbell_step reset_step abort_step reply_step lost_step refusal verdict request_of check_of blank_bytes command_kind elements_from made block_head decide reads_eui live_login response_bytes start_step reply_step_of_manager decide_step fresh_id left_for enter_step back_step leave_step
rests_unanswered = λ a law. let bad : false ≡ true = law.answered in cc bad

rests_linked : (a : Agent) → IsAtRest journals.one_disk (journals.told journals.second_linked) 0 a → ⊥
unfolding reading fault_of tcode_of header_of offset_of rcode_of value_of length_of extended_of three four part_of is_to is_same asked_by begun_by belongs start_at lowest_from label_for free_from count_flying lowest_flying label_of with_label is_write kind_of slot_of window_at is_fifo point_step doorbell_step reset_step abort_step reply_step lost_step refusal verdict request_of check_of blank_bytes command_kind elements_from made block_head decide reads_eui live_login response_bytes start_step reply_step_of_manager decide_step fresh_id left_for enter_step back_step leave_step
rests_linked = λ a law. let bad = law.ends in cc bad

reads_unasked : EachMoment (NoneUnasked rare.untold_disk) (history (refused.target_sends (refused.reads_the_other ∷ [])).entries) → ⊥
unfolding reading fault_of tcode_of header_of offset_of rcode_of value_of length_of extended_of three four part_of is_to is_same asked_by begun_by belongs start_at lowest_from label_for free_from count_flying lowest_flying label_of with_label is_write kind_of slot_of window_at is_fifo point_step doorbell_step reset_step abort_step reply_step lost_step refusal verdict request_of check_of blank_bytes command_kind elements_from made block_head decide reads_eui live_login response_bytes start_step reply_step_of_manager decide_step fresh_id left_for enter_step back_step leave_step
reads_unasked = λ law. let bad : false ≡ true = law.0 in cc bad

status_unannounced : EachMoment (NoneUnasked journals.empty_bay) refused.tells_unannounced → ⊥
unfolding reading fault_of tcode_of header_of offset_of rcode_of value_of length_of extended_of three four part_of is_to is_same asked_by begun_by belongs start_at lowest_from label_for free_from count_flying lowest_flying label_of with_label is_write kind_of slot_of window_at is_fifo point_step doorbell_step reset_step abort_step reply_step lost_step refusal verdict request_of check_of blank_bytes command_kind elements_from made block_head decide reads_eui live_login response_bytes start_step reply_step_of_manager decide_step fresh_id left_for enter_step back_step leave_step
status_unannounced = λ law. let bad : false ≡ true = law.0 in cc bad

ends_without_death : ends_silently journals.one_disk (turn rare.last_label_gone (said (notes.TimedOut 66)) refused.fails_alone) ≡ false → ⊥
unfolding reading fault_of tcode_of header_of offset_of rcode_of value_of length_of extended_of three four part_of is_to is_same asked_by begun_by belongs start_at lowest_from label_for free_from count_flying lowest_flying label_of with_label is_write kind_of slot_of window_at is_fifo point_step doorbell_step reset_step abort_step reply_step lost_step refusal verdict request_of check_of blank_bytes command_kind elements_from made block_head decide reads_eui live_login response_bytes start_step reply_step_of_manager decide_step fresh_id left_for enter_step back_step leave_step
ends_without_death = λ law. let bad : true ≡ false = law in cc bad

ends_behind_death : ends_silently journals.one_disk (turn rare.last_label_gone (said (notes.TimedOut 66)) (rare.dies_of causes.Timeout kinds.Failed)) ≡ false
unfolding reading fault_of tcode_of header_of offset_of rcode_of value_of length_of extended_of three four part_of is_to is_same asked_by begun_by belongs start_at lowest_from label_for free_from count_flying lowest_flying label_of with_label is_write kind_of slot_of window_at is_fifo point_step doorbell_step reset_step abort_step reply_step lost_step refusal verdict request_of check_of blank_bytes command_kind elements_from made block_head decide reads_eui live_login response_bytes start_step reply_step_of_manager decide_step fresh_id left_for enter_step back_step leave_step
ends_behind_death = refl

pub tried : OwnTried
tried = record { ends_without_death = ends_without_death; ends_behind_death = ends_behind_death; abort_out_of_nothing = abort_out_of_nothing; abort_passed_over = abort_passed_over; cut_left_out = cut_left_out; cleared_left_out = cleared_left_out; left_left_out = left_left_out; end_without_status = end_without_status; failure_told = failure_told; failure_untold = failure_untold; failure_told_as_linked = failure_told_as_linked; status_finds_no_label = status_finds_no_label; last_told_as_linked = last_told_as_linked; linked_told = linked_told; linked_told_as_last = linked_told_as_last; status_to_other_fifo = status_to_other_fifo; status_of_other_slot = status_of_other_slot; response_left_out = response_left_out; response_otherwise = response_otherwise; query_answered = query_answered; query_answered_otherwise = query_answered_otherwise; block_of_other_orb = block_of_other_orb; block_left_out = block_left_out; rests = rests; rests_rung = rests_rung; rests_unanswered = rests_unanswered; rests_linked = rests_linked; reads_unasked = reads_unasked; status_unannounced = status_unannounced }
