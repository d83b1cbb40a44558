-- The journals that the execution law was tried on.
use Rattle.std.proofs.Common.{◌≡◌, ℕ, ◌<◌, [], refl, ap, subst, inl, inr, arith}
use Rattle.std.specs.Prelude.{None, slice_index, take, Some, Option}
use Rattle.rbc_disk.specs.declared.command.Need.TheVariants.{Payload}
use Rattle.sbp_laws.specs.Lawful.{nobody}
use Rattle.sbp_laws.specs.Journals as journals
use Rattle.sbp_laws.specs.Tried.{ExecutionTried}
use Rattle.sbp_laws.specs.ExecutionLaw.{ExecutionLaw}
use Rattle.async_packet.specs.Reading.{reading}
use Rattle.async_packet.specs.Faults.{fault_of}
use Rattle.async_packet.specs.Fields.{tcode_of, header_of, offset_of, rcode_of, value_of, length_of, extended_of}
use Rattle.async_packet.specs.Canon.{three, four}
use Rattle.sbp_journal.specs.Transactions.{part_of, is_to, is_same, asked_by, begun_by, belongs}
use Rattle.sbp_journal.specs.Addresses.{start_at}
use Rattle.sbp_laws.specs.Packets.{lowest_from, label_for, free_from}
use Rattle.sbp_laws.specs.Budget.{count_flying, lowest_flying}
use Rattle.label_table.specs.Requests.{label_of, with_label, is_write, kind_of}
use Rattle.bus_memory.specs.Windows.{slot_of, window_at, is_fifo}
use Rattle.command_agent.specs.Steps.{point_step, doorbell_step, reset_step, abort_step, reply_step, lost_step}
use Rattle.command_agent.specs.Checks.{refusal, verdict}
use Rattle.rbc_disk.specs.Requests.{request_of}
use Rattle.rbc_disk.specs.Checks.{check_of}
use Rattle.rbc_disk.specs.Disk.{blank_bytes}
use Rattle.orb_layout.specs.StatusBlocks.{command_kind}
use Rattle.page_table.specs.Elements.{elements_from}
use Rattle.config_rom.specs.Make.{made}
use Rattle.media_bay.specs.Unsolicited.{block_head}
use Rattle.mgmt_agent.specs.Decisions.{decide, reads_eui, live_login, response_bytes}
use Rattle.mgmt_agent.specs.Machine.{start_step, reply_step as reply_step_of_manager, decide_step}
use Rattle.login_table.specs.Table.{fresh_id, left_for, enter_step, back_step, leave_step}
use Rattle.sbp_laws.specs.Refused as refused
use Rattle.orb_layout.specs.declared.status.StatusKind.TheVariants as kinds
use Rattle.rbc_command.specs.declared.sense.Sense.{Sense}
use Rattle.rbc_command.specs.SenseData.{no_medium, was_reset, write_failed, read_failed, no_command}

some_bytes : 0 < 512
some_bytes = omega arith

whole_data : (len : ℕ) → Payload 512 ≡ Payload len → journals.block_of 0xaa ≡ take len (journals.block_of 0xaa)
whole_data len need = let same : 512 ≡ len = cc need in subst (λ l. journals.block_of 0xaa ≡ take l (journals.block_of 0xaa)) same refl

accepts : ExecutionLaw nobody journals.one_disk journals.whole
unfolding reading fault_of tcode_of header_of offset_of rcode_of value_of length_of extended_of three four part_of is_to is_same asked_by begun_by belongs start_at lowest_from label_for free_from count_flying lowest_flying label_of with_label is_write kind_of slot_of window_at is_fifo point_step doorbell_step reset_step abort_step reply_step lost_step refusal verdict request_of check_of blank_bytes command_kind elements_from made block_head decide reads_eui live_login response_bytes start_step reply_step_of_manager decide_step fresh_id left_for enter_step back_step leave_step
accepts = (tt, (tt, (tt, (tt, (tt, (tt, (λ e. refl, (λ e. (record { once = refl; order = refl; login = refl }, record { command = refl; carried = inl refl; needed = λ len need. absurd (cc need); ended = tt }), (tt, (tt, (tt, (tt, (tt, (tt, (tt, (tt, (tt, (tt, (tt, (tt, (tt, (tt, tt))))))))))))))))))))))

write_accepted : ExecutionLaw nobody journals.one_disk (journals.write_runs (journals.block_of 0xaa) None)
unfolding reading fault_of tcode_of header_of offset_of rcode_of value_of length_of extended_of three four part_of is_to is_same asked_by begun_by belongs start_at lowest_from label_for free_from count_flying lowest_flying label_of with_label is_write kind_of slot_of window_at is_fifo point_step doorbell_step reset_step abort_step reply_step lost_step refusal verdict request_of check_of blank_bytes command_kind elements_from made block_head decide reads_eui live_login response_bytes start_step reply_step_of_manager decide_step fresh_id left_for enter_step back_step leave_step
write_accepted = (λ e. (record { once = refl; order = refl; login = refl }, record { command = refl; carried = inr (some_bytes, refl); needed = λ len need. whole_data len need; ended = tt }), (tt, (tt, (tt, tt))))

other_data : ExecutionLaw nobody journals.one_disk (journals.write_runs (journals.block_of 0xbb) None) → ⊥
unfolding reading fault_of tcode_of header_of offset_of rcode_of value_of length_of extended_of three four part_of is_to is_same asked_by begun_by belongs start_at lowest_from label_for free_from count_flying lowest_flying label_of with_label is_write kind_of slot_of window_at is_fifo point_step doorbell_step reset_step abort_step reply_step lost_step refusal verdict request_of check_of blank_bytes command_kind elements_from made block_head decide reads_eui live_login response_bytes start_step reply_step_of_manager decide_step fresh_id left_for enter_step back_step leave_step
other_data = λ law. let bad : 0xbb ≡ 0xaa = ap (λ xs. slice_index xs 0) ((law.0 refl).1.needed 512 refl) in omega (arith, bad)

no_data : ExecutionLaw nobody journals.one_disk (journals.write_runs [] None) → ⊥
unfolding reading fault_of tcode_of header_of offset_of rcode_of value_of length_of extended_of three four part_of is_to is_same asked_by begun_by belongs start_at lowest_from label_for free_from count_flying lowest_flying label_of with_label is_write kind_of slot_of window_at is_fifo point_step doorbell_step reset_step abort_step reply_step lost_step refusal verdict request_of check_of blank_bytes command_kind elements_from made block_head decide reads_eui live_login response_bytes start_step reply_step_of_manager decide_step fresh_id left_for enter_step back_step leave_step
no_data = λ law. let bad = (law.0 refl).1.needed 512 refl in cc bad

runs_twice : ExecutionLaw nobody journals.one_disk journals.runs_twice → ⊥
unfolding reading fault_of tcode_of header_of offset_of rcode_of value_of length_of extended_of three four part_of is_to is_same asked_by begun_by belongs start_at lowest_from label_for free_from count_flying lowest_flying label_of with_label is_write kind_of slot_of window_at is_fifo point_step doorbell_step reset_step abort_step reply_step lost_step refusal verdict request_of check_of blank_bytes command_kind elements_from made block_head decide reads_eui live_login response_bytes start_step reply_step_of_manager decide_step fresh_id left_for enter_step back_step leave_step
runs_twice = λ law. let bad : 1 ≡ 0 = (law.0 refl).0.once in omega (arith, bad)

runs_another : ExecutionLaw nobody journals.one_disk journals.runs_another → ⊥
unfolding reading fault_of tcode_of header_of offset_of rcode_of value_of length_of extended_of three four part_of is_to is_same asked_by begun_by belongs start_at lowest_from label_for free_from count_flying lowest_flying label_of with_label is_write kind_of slot_of window_at is_fifo point_step doorbell_step reset_step abort_step reply_step lost_step refusal verdict request_of check_of blank_bytes command_kind elements_from made block_head decide reads_eui live_login response_bytes start_step reply_step_of_manager decide_step fresh_id left_for enter_step back_step leave_step
runs_another = λ law. let bad : 0x25 ≡ 0 = ap (λ xs. slice_index xs 0) ((law.0 refl).1.command) in omega (arith, bad)

runs_elsewhere : ExecutionLaw nobody journals.one_disk journals.runs_elsewhere → ⊥
unfolding reading fault_of tcode_of header_of offset_of rcode_of value_of length_of extended_of three four part_of is_to is_same asked_by begun_by belongs start_at lowest_from label_for free_from count_flying lowest_flying label_of with_label is_write kind_of slot_of window_at is_fifo point_step doorbell_step reset_step abort_step reply_step lost_step refusal verdict request_of check_of blank_bytes command_kind elements_from made block_head decide reads_eui live_login response_bytes start_step reply_step_of_manager decide_step fresh_id left_for enter_step back_step leave_step
runs_elsewhere = λ law. let bad = (law.0 refl).0.login in cc bad

checked_unasked : ExecutionLaw nobody journals.one_disk journals.checked_unasked → ⊥
unfolding reading fault_of tcode_of header_of offset_of rcode_of value_of length_of extended_of three four part_of is_to is_same asked_by begun_by belongs start_at lowest_from label_for free_from count_flying lowest_flying label_of with_label is_write kind_of slot_of window_at is_fifo point_step doorbell_step reset_step abort_step reply_step lost_step refusal verdict request_of check_of blank_bytes command_kind elements_from made block_head decide reads_eui live_login response_bytes start_step reply_step_of_manager decide_step fresh_id left_for enter_step back_step leave_step
checked_unasked = λ law. let bad = (law.0 refl).1.ended in cc bad

ends_unrun : ExecutionLaw nobody journals.one_disk journals.ends_unrun → ⊥
unfolding reading fault_of tcode_of header_of offset_of rcode_of value_of length_of extended_of three four part_of is_to is_same asked_by begun_by belongs start_at lowest_from label_for free_from count_flying lowest_flying label_of with_label is_write kind_of slot_of window_at is_fifo point_step doorbell_step reset_step abort_step reply_step lost_step refusal verdict request_of check_of blank_bytes command_kind elements_from made block_head decide reads_eui live_login response_bytes start_step reply_step_of_manager decide_step fresh_id left_for enter_step back_step leave_step
ends_unrun = λ law. let bad = law.0 refl in cc bad

aborted_after_run : ExecutionLaw nobody journals.one_disk journals.aborted_after_run → ⊥
unfolding reading fault_of tcode_of header_of offset_of rcode_of value_of length_of extended_of three four part_of is_to is_same asked_by begun_by belongs start_at lowest_from label_for free_from count_flying lowest_flying label_of with_label is_write kind_of slot_of window_at is_fifo point_step doorbell_step reset_step abort_step reply_step lost_step refusal verdict request_of check_of blank_bytes command_kind elements_from made block_head decide reads_eui live_login response_bytes start_step reply_step_of_manager decide_step fresh_id left_for enter_step back_step leave_step
aborted_after_run = λ law. let bad = law.0 refl in cc bad

-- the additional sense code of a check
abbrev code_in : Option Sense → ℕ
code_in None = 0
code_in (Some check) = check.code

runs_behind_end : ExecutionLaw nobody journals.one_disk refused.runs_behind_end → ⊥
unfolding reading fault_of tcode_of header_of offset_of rcode_of value_of length_of extended_of three four part_of is_to is_same asked_by begun_by belongs start_at lowest_from label_for free_from count_flying lowest_flying label_of with_label is_write kind_of slot_of window_at is_fifo point_step doorbell_step reset_step abort_step reply_step lost_step refusal verdict request_of check_of blank_bytes command_kind elements_from made block_head decide reads_eui live_login response_bytes start_step reply_step_of_manager decide_step fresh_id left_for enter_step back_step leave_step
runs_behind_end = λ law. let bad : 0 ≡ 1 = (law.0 refl).0.order in omega (arith, bad)

runs_out_of_turn : ExecutionLaw nobody journals.one_disk refused.runs_out_of_turn → ⊥
unfolding reading fault_of tcode_of header_of offset_of rcode_of value_of length_of extended_of three four part_of is_to is_same asked_by begun_by belongs start_at lowest_from label_for free_from count_flying lowest_flying label_of with_label is_write kind_of slot_of window_at is_fifo point_step doorbell_step reset_step abort_step reply_step lost_step refusal verdict request_of check_of blank_bytes command_kind elements_from made block_head decide reads_eui live_login response_bytes start_step reply_step_of_manager decide_step fresh_id left_for enter_step back_step leave_step
runs_out_of_turn = λ law. let bad : 1 ≡ 0 = (law.0 refl).0.order in omega (arith, bad)

check_told : ExecutionLaw nobody journals.empty_bay (refused.runs_with (Some no_medium))
unfolding reading fault_of tcode_of header_of offset_of rcode_of value_of length_of extended_of three four part_of is_to is_same asked_by begun_by belongs start_at lowest_from label_for free_from count_flying lowest_flying label_of with_label is_write kind_of slot_of window_at is_fifo point_step doorbell_step reset_step abort_step reply_step lost_step refusal verdict request_of check_of blank_bytes command_kind elements_from made block_head decide reads_eui live_login response_bytes start_step reply_step_of_manager decide_step fresh_id left_for enter_step back_step leave_step
check_told = (λ e. (record { once = refl; order = refl; login = refl }, record { command = refl; carried = inl refl; needed = λ len need. absurd (cc need); ended = refl }), (tt, (tt, (tt, (tt, (tt, (tt, (tt, (tt, (tt, (tt, (tt, (tt, (tt, (tt, tt)))))))))))))))

check_left_out : ExecutionLaw nobody journals.empty_bay (refused.runs_with None) → ⊥
unfolding reading fault_of tcode_of header_of offset_of rcode_of value_of length_of extended_of three four part_of is_to is_same asked_by begun_by belongs start_at lowest_from label_for free_from count_flying lowest_flying label_of with_label is_write kind_of slot_of window_at is_fifo point_step doorbell_step reset_step abort_step reply_step lost_step refusal verdict request_of check_of blank_bytes command_kind elements_from made block_head decide reads_eui live_login response_bytes start_step reply_step_of_manager decide_step fresh_id left_for enter_step back_step leave_step
check_left_out = λ law. let bad = (law.0 refl).1.ended in cc bad

attention_told : ExecutionLaw nobody journals.one_disk (refused.runs_behind_reset (Some was_reset))
unfolding reading fault_of tcode_of header_of offset_of rcode_of value_of length_of extended_of three four part_of is_to is_same asked_by begun_by belongs start_at lowest_from label_for free_from count_flying lowest_flying label_of with_label is_write kind_of slot_of window_at is_fifo point_step doorbell_step reset_step abort_step reply_step lost_step refusal verdict request_of check_of blank_bytes command_kind elements_from made block_head decide reads_eui live_login response_bytes start_step reply_step_of_manager decide_step fresh_id left_for enter_step back_step leave_step
attention_told = (λ e. (record { once = refl; order = refl; login = refl }, record { command = refl; carried = inl refl; needed = λ len need. absurd (cc need); ended = refl }), (tt, (tt, (tt, (tt, tt)))))

attention_left_out : ExecutionLaw nobody journals.one_disk (refused.runs_behind_reset None) → ⊥
unfolding reading fault_of tcode_of header_of offset_of rcode_of value_of length_of extended_of three four part_of is_to is_same asked_by begun_by belongs start_at lowest_from label_for free_from count_flying lowest_flying label_of with_label is_write kind_of slot_of window_at is_fifo point_step doorbell_step reset_step abort_step reply_step lost_step refusal verdict request_of check_of blank_bytes command_kind elements_from made block_head decide reads_eui live_login response_bytes start_step reply_step_of_manager decide_step fresh_id left_for enter_step back_step leave_step
attention_left_out = λ law. let bad = (law.0 refl).1.ended in cc bad

write_fails : ExecutionLaw nobody journals.one_disk (journals.write_runs (journals.block_of 0xaa) (Some write_failed))
unfolding reading fault_of tcode_of header_of offset_of rcode_of value_of length_of extended_of three four part_of is_to is_same asked_by begun_by belongs start_at lowest_from label_for free_from count_flying lowest_flying label_of with_label is_write kind_of slot_of window_at is_fifo point_step doorbell_step reset_step abort_step reply_step lost_step refusal verdict request_of check_of blank_bytes command_kind elements_from made block_head decide reads_eui live_login response_bytes start_step reply_step_of_manager decide_step fresh_id left_for enter_step back_step leave_step
write_fails = (λ e. (record { once = refl; order = refl; login = refl }, record { command = refl; carried = inr (some_bytes, refl); needed = λ len need. whole_data len need; ended = refl }), (tt, (tt, (tt, tt))))

write_fails_as_read : ExecutionLaw nobody journals.one_disk (journals.write_runs (journals.block_of 0xaa) (Some read_failed)) → ⊥
unfolding reading fault_of tcode_of header_of offset_of rcode_of value_of length_of extended_of three four part_of is_to is_same asked_by begun_by belongs start_at lowest_from label_for free_from count_flying lowest_flying label_of with_label is_write kind_of slot_of window_at is_fifo point_step doorbell_step reset_step abort_step reply_step lost_step refusal verdict request_of check_of blank_bytes command_kind elements_from made block_head decide reads_eui live_login response_bytes start_step reply_step_of_manager decide_step fresh_id left_for enter_step back_step leave_step
write_fails_as_read = λ law. let bad : 0x0c ≡ 0x11 = ap code_in ((law.0 refl).1.ended) in omega (arith, bad)

ready_fails : ExecutionLaw nobody journals.one_disk (refused.runs_with (Some read_failed)) → ⊥
unfolding reading fault_of tcode_of header_of offset_of rcode_of value_of length_of extended_of three four part_of is_to is_same asked_by begun_by belongs start_at lowest_from label_for free_from count_flying lowest_flying label_of with_label is_write kind_of slot_of window_at is_fifo point_step doorbell_step reset_step abort_step reply_step lost_step refusal verdict request_of check_of blank_bytes command_kind elements_from made block_head decide reads_eui live_login response_bytes start_step reply_step_of_manager decide_step fresh_id left_for enter_step back_step leave_step
ready_fails = λ law. let bad = (law.0 refl).1.ended in cc bad

ends_otherwise : ExecutionLaw nobody journals.one_disk (refused.ends_behind_run (kinds.Check no_command)) → ⊥
unfolding reading fault_of tcode_of header_of offset_of rcode_of value_of length_of extended_of three four part_of is_to is_same asked_by begun_by belongs start_at lowest_from label_for free_from count_flying lowest_flying label_of with_label is_write kind_of slot_of window_at is_fifo point_step doorbell_step reset_step abort_step reply_step lost_step refusal verdict request_of check_of blank_bytes command_kind elements_from made block_head decide reads_eui live_login response_bytes start_step reply_step_of_manager decide_step fresh_id left_for enter_step back_step leave_step
ends_otherwise = λ law. let bad = law.0 refl in cc bad

dummy_after_run : ExecutionLaw nobody journals.one_disk (refused.ends_behind_run kinds.Dummy) → ⊥
unfolding reading fault_of tcode_of header_of offset_of rcode_of value_of length_of extended_of three four part_of is_to is_same asked_by begun_by belongs start_at lowest_from label_for free_from count_flying lowest_flying label_of with_label is_write kind_of slot_of window_at is_fifo point_step doorbell_step reset_step abort_step reply_step lost_step refusal verdict request_of check_of blank_bytes command_kind elements_from made block_head decide reads_eui live_login response_bytes start_step reply_step_of_manager decide_step fresh_id left_for enter_step back_step leave_step
dummy_after_run = λ law. let bad = law.0 refl in cc bad

illegal_after_run : ExecutionLaw nobody journals.one_disk (refused.ends_behind_run (kinds.Illegal 1)) → ⊥
unfolding reading fault_of tcode_of header_of offset_of rcode_of value_of length_of extended_of three four part_of is_to is_same asked_by begun_by belongs start_at lowest_from label_for free_from count_flying lowest_flying label_of with_label is_write kind_of slot_of window_at is_fifo point_step doorbell_step reset_step abort_step reply_step lost_step refusal verdict request_of check_of blank_bytes command_kind elements_from made block_head decide reads_eui live_login response_bytes start_step reply_step_of_manager decide_step fresh_id left_for enter_step back_step leave_step
illegal_after_run = λ law. let bad = law.0 refl in cc bad

pub tried : ExecutionTried
tried = record { accepts = accepts; write_accepted = write_accepted; other_data = other_data; no_data = no_data; runs_twice = runs_twice; runs_another = runs_another; runs_elsewhere = runs_elsewhere; checked_unasked = checked_unasked; ends_unrun = ends_unrun; aborted_after_run = aborted_after_run; runs_behind_end = runs_behind_end; runs_out_of_turn = runs_out_of_turn; check_told = check_told; check_left_out = check_left_out; attention_told = attention_told; attention_left_out = attention_left_out; write_fails = write_fails; write_fails_as_read = write_fails_as_read; ready_fails = ready_fails; ends_otherwise = ends_otherwise; dummy_after_run = dummy_after_run; illegal_after_run = illegal_after_run }
