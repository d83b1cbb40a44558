-- The journals that the once law was tried on.
use Rattle.std.proofs.Common.{◌≡◌, refl, arith}
use Rattle.sbp_laws.specs.Lawful.{nobody}
use Rattle.sbp_laws.specs.Journals as journals
use Rattle.sbp_laws.specs.Tried.{OnceTried}
use Rattle.sbp_laws.specs.OnceLaw.{OnceLaw}
use Rattle.async_packet.specs.Reading.{reading}
use Rattle.async_packet.specs.Faults.{fault_of}
use Rattle.async_packet.specs.Fields.{tcode_of, header_of, offset_of, rcode_of, value_of, length_of, extended_of}
use Rattle.async_packet.specs.Canon.{three, four}
use Rattle.sbp_journal.specs.Transactions.{part_of, is_to, is_same, asked_by, begun_by, belongs}
use Rattle.sbp_journal.specs.Addresses.{start_at}
use Rattle.sbp_laws.specs.Packets.{lowest_from, label_for, free_from}
use Rattle.sbp_laws.specs.Budget.{count_flying, lowest_flying}
use Rattle.label_table.specs.Requests.{label_of, with_label, is_write, kind_of}
use Rattle.bus_memory.specs.Windows.{slot_of, window_at, is_fifo}
use Rattle.command_agent.specs.Steps.{point_step, doorbell_step, reset_step, abort_step, reply_step, lost_step}
use Rattle.command_agent.specs.Checks.{refusal, verdict}
use Rattle.rbc_disk.specs.Requests.{request_of}
use Rattle.rbc_disk.specs.Checks.{check_of}
use Rattle.rbc_disk.specs.Disk.{blank_bytes}
use Rattle.orb_layout.specs.StatusBlocks.{command_kind}
use Rattle.page_table.specs.Elements.{elements_from}
use Rattle.config_rom.specs.Make.{made}
use Rattle.media_bay.specs.Unsolicited.{block_head}
use Rattle.mgmt_agent.specs.Decisions.{decide, reads_eui, live_login, response_bytes}
use Rattle.mgmt_agent.specs.Machine.{start_step, reply_step as reply_step_of_manager, decide_step}
use Rattle.login_table.specs.Table.{fresh_id, left_for, enter_step, back_step, leave_step}
use Rattle.sbp_laws.specs.Refused as refused

accepts : OnceLaw nobody journals.whole
unfolding reading fault_of tcode_of header_of offset_of rcode_of value_of length_of extended_of three four part_of is_to is_same asked_by begun_by belongs start_at lowest_from label_for free_from count_flying lowest_flying label_of with_label is_write kind_of slot_of window_at is_fifo point_step doorbell_step reset_step abort_step reply_step lost_step refusal verdict request_of check_of blank_bytes command_kind elements_from made block_head decide reads_eui live_login response_bytes start_step reply_step_of_manager decide_step fresh_id left_for enter_step back_step leave_step
accepts = (tt, ((λ e. refl, λ e. record { once = refl; served = refl }), (tt, (tt, ((λ e. refl, tt), (tt, (tt, (tt, ((λ e. refl, λ e. record { once = refl; served = refl }), (tt, ((λ e. refl, tt), ((λ e. refl, λ e. record { once = refl; served = refl }), (tt, (tt, ((λ e. refl, tt), (tt, (tt, (tt, (tt, (tt, (tt, (tt, tt))))))))))))))))))))))

repeat_told : OnceLaw nobody journals.repeated
unfolding reading fault_of tcode_of header_of offset_of rcode_of value_of length_of extended_of three four part_of is_to is_same asked_by begun_by belongs start_at lowest_from label_for free_from count_flying lowest_flying label_of with_label is_write kind_of slot_of window_at is_fifo point_step doorbell_step reset_step abort_step reply_step lost_step refusal verdict request_of check_of blank_bytes command_kind elements_from made block_head decide reads_eui live_login response_bytes start_step reply_step_of_manager decide_step fresh_id left_for enter_step back_step leave_step
repeat_told = (tt, (tt, (tt, (tt, (tt, ((λ e. refl, tt), (tt, (tt, (tt, (tt, (tt, (tt, (tt, tt)))))))))))))

judged_twice : OnceLaw nobody journals.judged_twice → ⊥
unfolding reading fault_of tcode_of header_of offset_of rcode_of value_of length_of extended_of three four part_of is_to is_same asked_by begun_by belongs start_at lowest_from label_for free_from count_flying lowest_flying label_of with_label is_write kind_of slot_of window_at is_fifo point_step doorbell_step reset_step abort_step reply_step lost_step refusal verdict request_of check_of blank_bytes command_kind elements_from made block_head decide reads_eui live_login response_bytes start_step reply_step_of_manager decide_step fresh_id left_for enter_step back_step leave_step
judged_twice = λ law. let bad : 1 ≡ 0 = law.0.0 refl in omega (arith, bad)

closed_unserved : OnceLaw nobody journals.closed_unserved → ⊥
unfolding reading fault_of tcode_of header_of offset_of rcode_of value_of length_of extended_of three four part_of is_to is_same asked_by begun_by belongs start_at lowest_from label_for free_from count_flying lowest_flying label_of with_label is_write kind_of slot_of window_at is_fifo point_step doorbell_step reset_step abort_step reply_step lost_step refusal verdict request_of check_of blank_bytes command_kind elements_from made block_head decide reads_eui live_login response_bytes start_step reply_step_of_manager decide_step fresh_id left_for enter_step back_step leave_step
closed_unserved = λ law. let bad : 0 ≡ 1 = (law.0.1 refl).once in omega (arith, bad)

closes_in_vain : OnceLaw nobody refused.slot_and_closed
unfolding reading fault_of tcode_of header_of offset_of rcode_of value_of length_of extended_of three four part_of is_to is_same asked_by begun_by belongs start_at lowest_from label_for free_from count_flying lowest_flying label_of with_label is_write kind_of slot_of window_at is_fifo point_step doorbell_step reset_step abort_step reply_step lost_step refusal verdict request_of check_of blank_bytes command_kind elements_from made block_head decide reads_eui live_login response_bytes start_step reply_step_of_manager decide_step fresh_id left_for enter_step back_step leave_step
closes_in_vain = ((λ e. refl, λ e. record { once = refl; served = refl }), (tt, (λ e. refl, (tt, (tt, (tt, ((λ e. refl, λ e. record { once = refl; served = refl }), (tt, ((λ e. refl, tt), ((λ e. refl, λ e. record { once = refl; served = refl }), (tt, (tt, ((λ e. refl, tt), (tt, (tt, (tt, (tt, (tt, (tt, (tt, tt))))))))))))))))))))

ignored_and_closed : OnceLaw nobody refused.ignored_and_closed → ⊥
unfolding reading fault_of tcode_of header_of offset_of rcode_of value_of length_of extended_of three four part_of is_to is_same asked_by begun_by belongs start_at lowest_from label_for free_from count_flying lowest_flying label_of with_label is_write kind_of slot_of window_at is_fifo point_step doorbell_step reset_step abort_step reply_step lost_step refusal verdict request_of check_of blank_bytes command_kind elements_from made block_head decide reads_eui live_login response_bytes start_step reply_step_of_manager decide_step fresh_id left_for enter_step back_step leave_step
ignored_and_closed = λ law. let bad : 0 ≡ 1 = (law.0.1 refl).served in omega (arith, bad)

ignored_twice : OnceLaw nobody refused.ignored_twice → ⊥
unfolding reading fault_of tcode_of header_of offset_of rcode_of value_of length_of extended_of three four part_of is_to is_same asked_by begun_by belongs start_at lowest_from label_for free_from count_flying lowest_flying label_of with_label is_write kind_of slot_of window_at is_fifo point_step doorbell_step reset_step abort_step reply_step lost_step refusal verdict request_of check_of blank_bytes command_kind elements_from made block_head decide reads_eui live_login response_bytes start_step reply_step_of_manager decide_step fresh_id left_for enter_step back_step leave_step
ignored_twice = λ law. let bad : 1 ≡ 0 = law.0 refl in omega (arith, bad)

pub tried : OnceTried
tried = record { accepts = accepts; repeat_told = repeat_told; judged_twice = judged_twice; closed_unserved = closed_unserved; closes_in_vain = closes_in_vain; ignored_and_closed = ignored_and_closed; ignored_twice = ignored_twice }
