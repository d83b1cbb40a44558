-- The journals that the answer law was tried on.
use Rattle.std.proofs.Common.{◌≡◌, [], ◌∷◌, refl, ap, arith}
use Rattle.std.specs.Prelude.{slice_index}
use Rattle.orb_layout.specs.Pointers.{quad_bytes}
use Rattle.sbp_laws.specs.Lawful.{nobody}
use Rattle.sbp_laws.specs.Journals as journals
use Rattle.sbp_laws.specs.Tried.{AnswerTried}
use Rattle.sbp_laws.specs.AnswerLaw.{AnswerLaw}
use Rattle.async_packet.specs.Reading.{reading}
use Rattle.async_packet.specs.Faults.{fault_of}
use Rattle.async_packet.specs.Fields.{tcode_of, header_of, offset_of, rcode_of, value_of, length_of, extended_of}
use Rattle.async_packet.specs.Canon.{three, four}
use Rattle.sbp_journal.specs.Transactions.{part_of, is_to, is_same, asked_by, begun_by, belongs}
use Rattle.sbp_journal.specs.Addresses.{start_at}
use Rattle.sbp_laws.specs.Packets.{lowest_from, label_for, free_from}
use Rattle.sbp_laws.specs.Budget.{count_flying, lowest_flying}
use Rattle.label_table.specs.Requests.{label_of, with_label, is_write, kind_of}
use Rattle.bus_memory.specs.Windows.{slot_of, window_at, is_fifo}
use Rattle.command_agent.specs.Steps.{point_step, doorbell_step, reset_step, abort_step, reply_step, lost_step}
use Rattle.command_agent.specs.Checks.{refusal, verdict}
use Rattle.rbc_disk.specs.Requests.{request_of}
use Rattle.rbc_disk.specs.Checks.{check_of}
use Rattle.rbc_disk.specs.Disk.{blank_bytes}
use Rattle.orb_layout.specs.StatusBlocks.{command_kind}
use Rattle.page_table.specs.Elements.{elements_from}
use Rattle.config_rom.specs.Make.{made}
use Rattle.media_bay.specs.Unsolicited.{block_head}
use Rattle.mgmt_agent.specs.Decisions.{decide, reads_eui, live_login, response_bytes}
use Rattle.mgmt_agent.specs.Machine.{start_step, reply_step as reply_step_of_manager, decide_step}
use Rattle.login_table.specs.Table.{fresh_id, left_for, enter_step, back_step, leave_step}
use Rattle.sbp_laws.specs.Refused as refused

accepts : AnswerLaw nobody journals.one_disk (journals.capacity_taken (quad_bytes (0 ∷ 512 ∷ [])))
unfolding reading fault_of tcode_of header_of offset_of rcode_of value_of length_of extended_of three four part_of is_to is_same asked_by begun_by belongs start_at lowest_from label_for free_from count_flying lowest_flying label_of with_label is_write kind_of slot_of window_at is_fifo point_step doorbell_step reset_step abort_step reply_step lost_step refusal verdict request_of check_of blank_bytes command_kind elements_from made block_head decide reads_eui live_login response_bytes start_step reply_step_of_manager decide_step fresh_id left_for enter_step back_step leave_step
accepts = (λ e. record { len = refl; told = refl }, (tt, (tt, (tt, (tt, (tt, (tt, tt)))))))

other_answer : AnswerLaw nobody journals.one_disk (journals.capacity_taken (quad_bytes (1 ∷ 512 ∷ []))) → ⊥
unfolding reading fault_of tcode_of header_of offset_of rcode_of value_of length_of extended_of three four part_of is_to is_same asked_by begun_by belongs start_at lowest_from label_for free_from count_flying lowest_flying label_of with_label is_write kind_of slot_of window_at is_fifo point_step doorbell_step reset_step abort_step reply_step lost_step refusal verdict request_of check_of blank_bytes command_kind elements_from made block_head decide reads_eui live_login response_bytes start_step reply_step_of_manager decide_step fresh_id left_for enter_step back_step leave_step
other_answer = λ law. let bad : 1 ≡ 0 = ap (λ xs. slice_index xs 3) ((law.0 refl).told) in omega (arith, bad)

no_answer : AnswerLaw nobody journals.one_disk (journals.capacity_taken []) → ⊥
unfolding reading fault_of tcode_of header_of offset_of rcode_of value_of length_of extended_of three four part_of is_to is_same asked_by begun_by belongs start_at lowest_from label_for free_from count_flying lowest_flying label_of with_label is_write kind_of slot_of window_at is_fifo point_step doorbell_step reset_step abort_step reply_step lost_step refusal verdict request_of check_of blank_bytes command_kind elements_from made block_head decide reads_eui live_login response_bytes start_step reply_step_of_manager decide_step fresh_id left_for enter_step back_step leave_step
no_answer = λ law. let bad : 0 ≡ 8 = (law.0 refl).len in omega (arith, bad)

answers_unasked : AnswerLaw nobody journals.one_disk refused.answers_unasked → ⊥
unfolding reading fault_of tcode_of header_of offset_of rcode_of value_of length_of extended_of three four part_of is_to is_same asked_by begun_by belongs start_at lowest_from label_for free_from count_flying lowest_flying label_of with_label is_write kind_of slot_of window_at is_fifo point_step doorbell_step reset_step abort_step reply_step lost_step refusal verdict request_of check_of blank_bytes command_kind elements_from made block_head decide reads_eui live_login response_bytes start_step reply_step_of_manager decide_step fresh_id left_for enter_step back_step leave_step
answers_unasked = λ law. let bad : 1 ≡ 0 = (law.0 refl).len in omega (arith, bad)

reads_back : AnswerLaw nobody journals.one_disk (refused.reads_back (journals.block_of 0xaa))
unfolding reading fault_of tcode_of header_of offset_of rcode_of value_of length_of extended_of three four part_of is_to is_same asked_by begun_by belongs start_at lowest_from label_for free_from count_flying lowest_flying label_of with_label is_write kind_of slot_of window_at is_fifo point_step doorbell_step reset_step abort_step reply_step lost_step refusal verdict request_of check_of blank_bytes command_kind elements_from made block_head decide reads_eui live_login response_bytes start_step reply_step_of_manager decide_step fresh_id left_for enter_step back_step leave_step
reads_back = (λ e. record { len = refl; told = refl }, (tt, (tt, (tt, (tt, (tt, (tt, (tt, (tt, tt)))))))))

reads_what_was : AnswerLaw nobody journals.one_disk (refused.reads_back (journals.block_of 0)) → ⊥
unfolding reading fault_of tcode_of header_of offset_of rcode_of value_of length_of extended_of three four part_of is_to is_same asked_by begun_by belongs start_at lowest_from label_for free_from count_flying lowest_flying label_of with_label is_write kind_of slot_of window_at is_fifo point_step doorbell_step reset_step abort_step reply_step lost_step refusal verdict request_of check_of blank_bytes command_kind elements_from made block_head decide reads_eui live_login response_bytes start_step reply_step_of_manager decide_step fresh_id left_for enter_step back_step leave_step
reads_what_was = λ law. let bad : 0 ≡ 0xaa = ap (λ xs. slice_index xs 0) ((law.0 refl).told) in omega (arith, bad)

pub tried : AnswerTried
tried = record { accepts = accepts; other_answer = other_answer; no_answer = no_answer; answers_unasked = answers_unasked; reads_back = reads_back; reads_what_was = reads_what_was }
