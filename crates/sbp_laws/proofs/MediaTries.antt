-- The journals that the media law was tried on.
use Rattle.std.proofs.Common.{[], ◌∷◌, refl, ap, arith, ◌++◌, ◌≡◌}
use Rattle.sbp_journal.specs.Run.{said}
use Rattle.sbp_journal.specs.declared.note.Note.TheVariants as notes
use Rattle.sbp_laws.specs.Journals as journals
use Rattle.sbp_laws.specs.Tried.{MediaTried}
use Rattle.sbp_laws.specs.MediaLaw.{MediaLaw}
use Rattle.async_packet.specs.Reading.{reading}
use Rattle.async_packet.specs.Faults.{fault_of}
use Rattle.async_packet.specs.Fields.{tcode_of, header_of, offset_of, rcode_of, value_of, length_of, extended_of}
use Rattle.async_packet.specs.Canon.{three, four}
use Rattle.sbp_journal.specs.Transactions.{part_of, is_to, is_same, asked_by, begun_by, belongs}
use Rattle.sbp_journal.specs.Addresses.{start_at}
use Rattle.sbp_laws.specs.Packets.{lowest_from, label_for, free_from}
use Rattle.sbp_laws.specs.Budget.{count_flying, lowest_flying}
use Rattle.label_table.specs.Requests.{label_of, with_label, is_write, kind_of}
use Rattle.bus_memory.specs.Windows.{slot_of, window_at, is_fifo}
use Rattle.command_agent.specs.Steps.{point_step, doorbell_step, reset_step, abort_step, reply_step, lost_step}
use Rattle.command_agent.specs.Checks.{refusal, verdict}
use Rattle.rbc_disk.specs.Requests.{request_of}
use Rattle.rbc_disk.specs.Checks.{check_of}
use Rattle.rbc_disk.specs.Disk.{blank_bytes}
use Rattle.orb_layout.specs.StatusBlocks.{command_kind}
use Rattle.page_table.specs.Elements.{elements_from}
use Rattle.config_rom.specs.Make.{made}
use Rattle.media_bay.specs.Unsolicited.{block_head}
use Rattle.mgmt_agent.specs.Decisions.{decide, reads_eui, live_login, response_bytes}
use Rattle.mgmt_agent.specs.Machine.{start_step, reply_step as reply_step_of_manager, decide_step}
use Rattle.login_table.specs.Table.{fresh_id, left_for, enter_step, back_step, leave_step}
use Rattle.sbp_laws.specs.Refused as refused
use Rattle.sbp_laws.specs.RareRuns as rare
use Rattle.std.specs.Prelude.{List, ℕ}
use Rattle.sbp_journal.specs.declared.note.Note.{Note}

unsolicited : MediaLaw journals.empty_bay (journals.loads_enabled (notes.Unsolicited 1))
unfolding reading fault_of tcode_of header_of offset_of rcode_of value_of length_of extended_of three four part_of is_to is_same asked_by begun_by belongs start_at lowest_from label_for free_from count_flying lowest_flying label_of with_label is_write kind_of slot_of window_at is_fifo point_step doorbell_step reset_step abort_step reply_step lost_step refusal verdict request_of check_of blank_bytes command_kind elements_from made block_head decide reads_eui live_login response_bytes start_step reply_step_of_manager decide_step fresh_id left_for enter_step back_step leave_step
unsolicited = (record { pushes = refl; told = refl }, (record { pushes = refl; told = refl }, (record { pushes = refl; told = refl }, (record { pushes = refl; told = refl }, (record { pushes = refl; told = refl }, tt)))))

none_enabled : MediaLaw journals.empty_bay (journals.loads_disabled [])
unfolding reading fault_of tcode_of header_of offset_of rcode_of value_of length_of extended_of three four part_of is_to is_same asked_by begun_by belongs start_at lowest_from label_for free_from count_flying lowest_flying label_of with_label is_write kind_of slot_of window_at is_fifo point_step doorbell_step reset_step abort_step reply_step lost_step refusal verdict request_of check_of blank_bytes command_kind elements_from made block_head decide reads_eui live_login response_bytes start_step reply_step_of_manager decide_step fresh_id left_for enter_step back_step leave_step
none_enabled = (record { pushes = refl; told = refl }, (record { pushes = refl; told = refl }, tt))

unsent : MediaLaw journals.empty_bay (journals.loads_enabled (notes.Unsent 1)) → ⊥
unfolding reading fault_of tcode_of header_of offset_of rcode_of value_of length_of extended_of three four part_of is_to is_same asked_by begun_by belongs start_at lowest_from label_for free_from count_flying lowest_flying label_of with_label is_write kind_of slot_of window_at is_fifo point_step doorbell_step reset_step abort_step reply_step lost_step refusal verdict request_of check_of blank_bytes command_kind elements_from made block_head decide reads_eui live_login response_bytes start_step reply_step_of_manager decide_step fresh_id left_for enter_step back_step leave_step
unsent = λ law. let bad = law.0.pushes in cc bad

unasked : MediaLaw journals.empty_bay (journals.loads_disabled (said (notes.Unsolicited 1) ∷ [])) → ⊥
unfolding reading fault_of tcode_of header_of offset_of rcode_of value_of length_of extended_of three four part_of is_to is_same asked_by begun_by belongs start_at lowest_from label_for free_from count_flying lowest_flying label_of with_label is_write kind_of slot_of window_at is_fifo point_step doorbell_step reset_step abort_step reply_step lost_step refusal verdict request_of check_of blank_bytes command_kind elements_from made block_head decide reads_eui live_login response_bytes start_step reply_step_of_manager decide_step fresh_id left_for enter_step back_step leave_step
unasked = λ law. let bad = law.0.pushes in cc bad

-- the initiator of the first note
abbrev first_told : List Note → ℕ
first_told (notes.Unsolicited i ∷ rest) = i
first_told rest = 0

push_left_out : MediaLaw journals.empty_bay (journals.told (journals.two_begin ++ (journals.enables ++ journals.loads))) → ⊥
unfolding reading fault_of tcode_of header_of offset_of rcode_of value_of length_of extended_of three four part_of is_to is_same asked_by begun_by belongs start_at lowest_from label_for free_from count_flying lowest_flying label_of with_label is_write kind_of slot_of window_at is_fifo point_step doorbell_step reset_step abort_step reply_step lost_step refusal verdict request_of check_of blank_bytes command_kind elements_from made block_head decide reads_eui live_login response_bytes start_step reply_step_of_manager decide_step fresh_id left_for enter_step back_step leave_step
push_left_out = λ law. let bad = law.0.pushes in cc bad

told_once : MediaLaw rare.two_discs (refused.loads_again [])
unfolding reading fault_of tcode_of header_of offset_of rcode_of value_of length_of extended_of three four part_of is_to is_same asked_by begun_by belongs start_at lowest_from label_for free_from count_flying lowest_flying label_of with_label is_write kind_of slot_of window_at is_fifo point_step doorbell_step reset_step abort_step reply_step lost_step refusal verdict request_of check_of blank_bytes command_kind elements_from made block_head decide reads_eui live_login response_bytes start_step reply_step_of_manager decide_step fresh_id left_for enter_step back_step leave_step
told_once = (record { pushes = refl; told = refl }, (record { pushes = refl; told = refl }, (record { pushes = refl; told = refl }, (record { pushes = refl; told = refl }, (record { pushes = refl; told = refl }, (record { pushes = refl; told = refl }, (record { pushes = refl; told = refl }, tt)))))))

told_once_more : MediaLaw rare.two_discs (refused.loads_again (notes.Unsolicited 1 ∷ [])) → ⊥
unfolding reading fault_of tcode_of header_of offset_of rcode_of value_of length_of extended_of three four part_of is_to is_same asked_by begun_by belongs start_at lowest_from label_for free_from count_flying lowest_flying label_of with_label is_write kind_of slot_of window_at is_fifo point_step doorbell_step reset_step abort_step reply_step lost_step refusal verdict request_of check_of blank_bytes command_kind elements_from made block_head decide reads_eui live_login response_bytes start_step reply_step_of_manager decide_step fresh_id left_for enter_step back_step leave_step
told_once_more = λ law. let bad = law.0.pushes in cc bad

one_under_way : MediaLaw rare.two_discs (refused.loads_under_way (notes.Unsent 1 ∷ []))
unfolding reading fault_of tcode_of header_of offset_of rcode_of value_of length_of extended_of three four part_of is_to is_same asked_by begun_by belongs start_at lowest_from label_for free_from count_flying lowest_flying label_of with_label is_write kind_of slot_of window_at is_fifo point_step doorbell_step reset_step abort_step reply_step lost_step refusal verdict request_of check_of blank_bytes command_kind elements_from made block_head decide reads_eui live_login response_bytes start_step reply_step_of_manager decide_step fresh_id left_for enter_step back_step leave_step
one_under_way = (record { pushes = refl; told = refl }, (record { pushes = refl; told = refl }, (record { pushes = refl; told = refl }, (record { pushes = refl; told = refl }, (record { pushes = refl; told = refl }, (record { pushes = refl; told = refl }, (record { pushes = refl; told = refl }, (record { pushes = refl; told = refl }, tt))))))))

two_under_way : MediaLaw rare.two_discs (refused.loads_under_way (notes.Unsolicited 1 ∷ [])) → ⊥
unfolding reading fault_of tcode_of header_of offset_of rcode_of value_of length_of extended_of three four part_of is_to is_same asked_by begun_by belongs start_at lowest_from label_for free_from count_flying lowest_flying label_of with_label is_write kind_of slot_of window_at is_fifo point_step doorbell_step reset_step abort_step reply_step lost_step refusal verdict request_of check_of blank_bytes command_kind elements_from made block_head decide reads_eui live_login response_bytes start_step reply_step_of_manager decide_step fresh_id left_for enter_step back_step leave_step
two_under_way = λ law. let bad = law.0.pushes in cc bad

both_told : MediaLaw journals.empty_bay (refused.tells_both (notes.Unsolicited 1 ∷ notes.Unsolicited 2 ∷ []))
unfolding reading fault_of tcode_of header_of offset_of rcode_of value_of length_of extended_of three four part_of is_to is_same asked_by begun_by belongs start_at lowest_from label_for free_from count_flying lowest_flying label_of with_label is_write kind_of slot_of window_at is_fifo point_step doorbell_step reset_step abort_step reply_step lost_step refusal verdict request_of check_of blank_bytes command_kind elements_from made block_head decide reads_eui live_login response_bytes start_step reply_step_of_manager decide_step fresh_id left_for enter_step back_step leave_step
both_told = (record { pushes = refl; told = refl }, (record { pushes = refl; told = refl }, (record { pushes = refl; told = refl }, (record { pushes = refl; told = refl }, tt))))

told_out_of_order : MediaLaw journals.empty_bay (refused.tells_both (notes.Unsolicited 2 ∷ notes.Unsolicited 1 ∷ [])) → ⊥
unfolding reading fault_of tcode_of header_of offset_of rcode_of value_of length_of extended_of three four part_of is_to is_same asked_by begun_by belongs start_at lowest_from label_for free_from count_flying lowest_flying label_of with_label is_write kind_of slot_of window_at is_fifo point_step doorbell_step reset_step abort_step reply_step lost_step refusal verdict request_of check_of blank_bytes command_kind elements_from made block_head decide reads_eui live_login response_bytes start_step reply_step_of_manager decide_step fresh_id left_for enter_step back_step leave_step
told_out_of_order = λ law. let bad : 2 ≡ 1 = ap first_told law.0.pushes in omega (arith, bad)

told_left_out : MediaLaw journals.empty_bay refused.told_left_out → ⊥
unfolding reading fault_of tcode_of header_of offset_of rcode_of value_of length_of extended_of three four part_of is_to is_same asked_by begun_by belongs start_at lowest_from label_for free_from count_flying lowest_flying label_of with_label is_write kind_of slot_of window_at is_fifo point_step doorbell_step reset_step abort_step reply_step lost_step refusal verdict request_of check_of blank_bytes command_kind elements_from made block_head decide reads_eui live_login response_bytes start_step reply_step_of_manager decide_step fresh_id left_for enter_step back_step leave_step
told_left_out = λ law. let bad = law.0.told in cc bad

told_of_a_status : MediaLaw journals.one_disk (rare.behind journals.till_status (notes.Got 5 ∷ notes.Told 0 ∷ [])) → ⊥
unfolding reading fault_of tcode_of header_of offset_of rcode_of value_of length_of extended_of three four part_of is_to is_same asked_by begun_by belongs start_at lowest_from label_for free_from count_flying lowest_flying label_of with_label is_write kind_of slot_of window_at is_fifo point_step doorbell_step reset_step abort_step reply_step lost_step refusal verdict request_of check_of blank_bytes command_kind elements_from made block_head decide reads_eui live_login response_bytes start_step reply_step_of_manager decide_step fresh_id left_for enter_step back_step leave_step
told_of_a_status = λ law. let bad = law.0.told in cc bad

pub tried : MediaTried
tried = record { unsolicited = unsolicited; none_enabled = none_enabled; unsent = unsent; unasked = unasked; push_left_out = push_left_out; told_once = told_once; told_once_more = told_once_more; one_under_way = one_under_way; two_under_way = two_under_way; both_told = both_told; told_out_of_order = told_out_of_order; told_left_out = told_left_out; told_of_a_status = told_of_a_status }
