-- N of `dead` and `cut`, of an initiator that injected its pointer before the ORB was prepared.
use Rattle.std.proofs.Common.{refl}
use Rattle.std.specs.Prelude.{None, Some}
use Rattle.sbp_laws.specs.CauseLaw.{CauseLaw}
use Rattle.sbp_laws.specs.Journals as journals
use Rattle.sbp_laws.specs.RareRuns as rare
use Rattle.sbp_laws.specs.Tried.{NamedTried}
use Rattle.async_packet.specs.Reading.{reading}
use Rattle.async_packet.specs.Faults.{fault_of}
use Rattle.async_packet.specs.Fields.{tcode_of, header_of, offset_of, rcode_of, value_of, length_of, extended_of}
use Rattle.async_packet.specs.Canon.{three, four}
use Rattle.sbp_journal.specs.Transactions.{part_of, is_to, is_same, asked_by, begun_by, belongs}
use Rattle.sbp_journal.specs.Addresses.{start_at}
use Rattle.sbp_laws.specs.Packets.{lowest_from, label_for, free_from}
use Rattle.sbp_laws.specs.Budget.{count_flying, lowest_flying}
use Rattle.label_table.specs.Requests.{label_of, with_label, is_write, kind_of}
use Rattle.bus_memory.specs.Windows.{slot_of, window_at, is_fifo}
use Rattle.command_agent.specs.Steps.{point_step, doorbell_step, reset_step, abort_step, reply_step, lost_step}
use Rattle.command_agent.specs.Checks.{refusal, verdict}
use Rattle.rbc_disk.specs.Requests.{request_of}
use Rattle.rbc_disk.specs.Checks.{check_of}
use Rattle.rbc_disk.specs.Disk.{blank_bytes}
use Rattle.orb_layout.specs.StatusBlocks.{command_kind}
use Rattle.page_table.specs.Elements.{elements_from}
use Rattle.config_rom.specs.Make.{made}
use Rattle.media_bay.specs.Unsolicited.{block_head}
use Rattle.mgmt_agent.specs.Decisions.{decide, reads_eui, live_login, response_bytes}
use Rattle.mgmt_agent.specs.Machine.{start_step, reply_step as reply_step_of_manager, decide_step}
use Rattle.login_table.specs.Table.{fresh_id, left_for, enter_step, back_step, leave_step}

dies_unnamed : CauseLaw journals.one_disk (rare.dies_unnamed None)
unfolding reading fault_of tcode_of header_of offset_of rcode_of value_of length_of extended_of three four part_of is_to is_same asked_by begun_by belongs start_at lowest_from label_for free_from count_flying lowest_flying label_of with_label is_write kind_of slot_of window_at is_fifo point_step doorbell_step reset_step abort_step reply_step lost_step refusal verdict request_of check_of blank_bytes command_kind elements_from made block_head decide reads_eui live_login response_bytes start_step reply_step_of_manager decide_step fresh_id left_for enter_step back_step leave_step
dies_unnamed = record { causes = (record { cuts = refl; cleared = refl; ends = refl; deaths = (refl, tt); faults = (refl, tt); failures = refl; operations = refl; unserved = tt; codes = tt; failing = tt; once = refl; aborts = refl; decided = record { cut = refl; cleared = refl; moved = refl }; silent = refl }, (record { cuts = refl; cleared = refl; ends = refl; deaths = tt; faults = tt; failures = refl; operations = refl; unserved = tt; codes = tt; failing = tt; once = refl; aborts = refl; decided = record { cut = refl; cleared = refl; moved = refl }; silent = refl }, (record { cuts = refl; cleared = refl; ends = refl; deaths = tt; faults = tt; failures = refl; operations = refl; unserved = tt; codes = tt; failing = tt; once = refl; aborts = refl; decided = record { cut = refl; cleared = refl; moved = refl }; silent = refl }, (record { cuts = refl; cleared = refl; ends = refl; deaths = tt; faults = tt; failures = refl; operations = refl; unserved = tt; codes = tt; failing = tt; once = refl; aborts = refl; decided = record { cut = refl; cleared = refl; moved = refl }; silent = refl }, (record { cuts = refl; cleared = refl; ends = refl; deaths = tt; faults = tt; failures = refl; operations = refl; unserved = tt; codes = tt; failing = tt; once = refl; aborts = refl; decided = record { cut = refl; cleared = refl; moved = refl }; silent = refl }, (record { cuts = refl; cleared = refl; ends = refl; deaths = tt; faults = tt; failures = refl; operations = refl; unserved = tt; codes = tt; failing = tt; once = refl; aborts = refl; decided = record { cut = refl; cleared = refl; moved = refl }; silent = refl }, (record { cuts = refl; cleared = refl; ends = refl; deaths = tt; faults = tt; failures = refl; operations = refl; unserved = tt; codes = tt; failing = tt; once = refl; aborts = refl; decided = record { cut = refl; cleared = refl; moved = refl }; silent = refl }, tt))))))); aborted = (tt, (tt, (tt, (tt, (tt, (tt, (tt, (tt, (tt, (tt, (tt, (tt, (tt, (tt, (tt, tt))))))))))))))) }

cut_unnamed : CauseLaw journals.one_disk (rare.cut_unnamed None)
unfolding reading fault_of tcode_of header_of offset_of rcode_of value_of length_of extended_of three four part_of is_to is_same asked_by begun_by belongs start_at lowest_from label_for free_from count_flying lowest_flying label_of with_label is_write kind_of slot_of window_at is_fifo point_step doorbell_step reset_step abort_step reply_step lost_step refusal verdict request_of check_of blank_bytes command_kind elements_from made block_head decide reads_eui live_login response_bytes start_step reply_step_of_manager decide_step fresh_id left_for enter_step back_step leave_step
cut_unnamed = record { causes = (record { cuts = refl; cleared = refl; ends = refl; deaths = tt; faults = tt; failures = refl; operations = refl; unserved = tt; codes = tt; failing = tt; once = refl; aborts = refl; decided = record { cut = refl; cleared = refl; moved = refl }; silent = refl }, (record { cuts = refl; cleared = refl; ends = refl; deaths = tt; faults = tt; failures = refl; operations = refl; unserved = tt; codes = tt; failing = tt; once = refl; aborts = refl; decided = record { cut = refl; cleared = refl; moved = refl }; silent = refl }, (record { cuts = refl; cleared = refl; ends = refl; deaths = tt; faults = tt; failures = refl; operations = refl; unserved = tt; codes = tt; failing = tt; once = refl; aborts = refl; decided = record { cut = refl; cleared = refl; moved = refl }; silent = refl }, (record { cuts = refl; cleared = refl; ends = refl; deaths = tt; faults = tt; failures = refl; operations = refl; unserved = tt; codes = tt; failing = tt; once = refl; aborts = refl; decided = record { cut = refl; cleared = refl; moved = refl }; silent = refl }, (record { cuts = refl; cleared = refl; ends = refl; deaths = tt; faults = tt; failures = refl; operations = refl; unserved = tt; codes = tt; failing = tt; once = refl; aborts = refl; decided = record { cut = refl; cleared = refl; moved = refl }; silent = refl }, (record { cuts = refl; cleared = refl; ends = refl; deaths = tt; faults = tt; failures = refl; operations = refl; unserved = tt; codes = tt; failing = tt; once = refl; aborts = refl; decided = record { cut = refl; cleared = refl; moved = refl }; silent = refl }, (record { cuts = refl; cleared = refl; ends = refl; deaths = tt; faults = tt; failures = refl; operations = refl; unserved = tt; codes = tt; failing = tt; once = refl; aborts = refl; decided = record { cut = refl; cleared = refl; moved = refl }; silent = refl }, (record { cuts = refl; cleared = refl; ends = refl; deaths = tt; faults = tt; failures = refl; operations = refl; unserved = tt; codes = tt; failing = tt; once = refl; aborts = refl; decided = record { cut = refl; cleared = refl; moved = refl }; silent = refl }, tt)))))))); aborted = (tt, (tt, (tt, (tt, (tt, (tt, (tt, (tt, (tt, (tt, (tt, (tt, (tt, (tt, (tt, (tt, tt)))))))))))))))) }

dies_named_since : CauseLaw journals.one_disk (rare.dies_unnamed (Some 0)) → ⊥
unfolding reading fault_of tcode_of header_of offset_of rcode_of value_of length_of extended_of three four part_of is_to is_same asked_by begun_by belongs start_at lowest_from label_for free_from count_flying lowest_flying label_of with_label is_write kind_of slot_of window_at is_fifo point_step doorbell_step reset_step abort_step reply_step lost_step refusal verdict request_of check_of blank_bytes command_kind elements_from made block_head decide reads_eui live_login response_bytes start_step reply_step_of_manager decide_step fresh_id left_for enter_step back_step leave_step
dies_named_since = λ law. let bad = law.causes.0.ends in cc bad

cut_named_since : CauseLaw journals.one_disk (rare.cut_unnamed (Some 0)) → ⊥
unfolding reading fault_of tcode_of header_of offset_of rcode_of value_of length_of extended_of three four part_of is_to is_same asked_by begun_by belongs start_at lowest_from label_for free_from count_flying lowest_flying label_of with_label is_write kind_of slot_of window_at is_fifo point_step doorbell_step reset_step abort_step reply_step lost_step refusal verdict request_of check_of blank_bytes command_kind elements_from made block_head decide reads_eui live_login response_bytes start_step reply_step_of_manager decide_step fresh_id left_for enter_step back_step leave_step
cut_named_since = λ law. let bad = law.causes.0.cuts in cc bad

pub tried : NamedTried
tried = record { dies_unnamed = dies_unnamed; cut_unnamed = cut_unnamed; dies_named_since = dies_named_since; cut_named_since = cut_named_since }
