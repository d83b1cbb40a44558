-- The journals that the cause law was tried on.
use Rattle.std.proofs.Common.{refl, ap, arith, ◌∷◌, ◌++◌, ◌≡◌, []}
use Rattle.sbp_laws.specs.Journals as journals
use Rattle.sbp_laws.specs.Tried.{CauseTried}
use Rattle.sbp_laws.specs.CauseLaw.{CauseLaw}
use Rattle.sbp_journal.specs.Run.{said}
use Rattle.sbp_laws.specs.Turns.{turn}
use Rattle.sbp_laws.specs.Targets.{target_at}
use Rattle.sbp_laws.specs.Deaths.{illegal_in, DeathsHaveRows, FailuresHaveRows, IllegalsHaveCodes}
use Rattle.async_packet.specs.Reading.{reading}
use Rattle.async_packet.specs.Faults.{fault_of}
use Rattle.async_packet.specs.Fields.{tcode_of, header_of, offset_of, rcode_of, value_of, length_of, extended_of}
use Rattle.async_packet.specs.Canon.{three, four}
use Rattle.sbp_journal.specs.Transactions.{part_of, is_to, is_same, asked_by, begun_by, belongs}
use Rattle.sbp_journal.specs.Addresses.{start_at}
use Rattle.sbp_laws.specs.Packets.{lowest_from, label_for, free_from}
use Rattle.sbp_laws.specs.Budget.{count_flying, lowest_flying}
use Rattle.label_table.specs.Requests.{label_of, with_label, is_write, kind_of}
use Rattle.bus_memory.specs.Windows.{slot_of, window_at, is_fifo}
use Rattle.command_agent.specs.Steps.{point_step, doorbell_step, reset_step, abort_step, reply_step, lost_step}
use Rattle.command_agent.specs.Checks.{refusal, verdict}
use Rattle.rbc_disk.specs.Requests.{request_of}
use Rattle.rbc_disk.specs.Checks.{check_of}
use Rattle.rbc_disk.specs.Disk.{blank_bytes}
use Rattle.orb_layout.specs.StatusBlocks.{command_kind}
use Rattle.page_table.specs.Elements.{elements_from}
use Rattle.config_rom.specs.Make.{made}
use Rattle.media_bay.specs.Unsolicited.{block_head}
use Rattle.mgmt_agent.specs.Decisions.{decide, reads_eui, live_login, response_bytes}
use Rattle.mgmt_agent.specs.Machine.{start_step, reply_step as reply_step_of_manager, decide_step}
use Rattle.login_table.specs.Table.{fresh_id, left_for, enter_step, back_step, leave_step}
use Rattle.sbp_laws.specs.Refused as refused
use Rattle.sbp_laws.specs.WorkedRuns as runs
use Rattle.sbp_laws.specs.RareRuns as rare
use Rattle.orb_layout.specs.declared.status.StatusKind.TheVariants as kinds
use Rattle.orb_layout.specs.declared.ask.FailCause.TheVariants as causes
use Rattle.sbp_journal.specs.declared.cause.CutCause.TheVariants as cuts
use Rattle.sbp_journal.specs.declared.operation.FunctionWord.TheVariants as functions
use Rattle.sbp_journal.specs.declared.note.Note.TheVariants as notes
use Rattle.std.specs.Prelude.{Some, None, List, ℕ}
use Rattle.orb_layout.specs.Pointers.{quad_bytes}
use Rattle.sbp_journal.specs.declared.note.Note.{Note}
use Rattle.orb_layout.specs.declared.status.StatusKind.{StatusKind}

accepts : CauseLaw journals.one_disk journals.whole
unfolding reading fault_of tcode_of header_of offset_of rcode_of value_of length_of extended_of three four part_of is_to is_same asked_by begun_by belongs start_at lowest_from label_for free_from count_flying lowest_flying label_of with_label is_write kind_of slot_of window_at is_fifo point_step doorbell_step reset_step abort_step reply_step lost_step refusal verdict request_of check_of blank_bytes command_kind elements_from made block_head decide reads_eui live_login response_bytes start_step reply_step_of_manager decide_step fresh_id left_for enter_step back_step leave_step
accepts = record { causes = (record { cuts = refl; cleared = refl; ends = refl; deaths = tt; faults = tt; failures = refl; operations = refl; unserved = tt; codes = tt; failing = tt; once = refl; aborts = refl; decided = record { cut = refl; cleared = refl; moved = refl }; silent = refl }, (record { cuts = refl; cleared = refl; ends = refl; deaths = tt; faults = tt; failures = refl; operations = refl; unserved = tt; codes = tt; failing = tt; once = refl; aborts = refl; decided = record { cut = refl; cleared = refl; moved = refl }; silent = refl }, (record { cuts = refl; cleared = refl; ends = refl; deaths = tt; faults = tt; failures = refl; operations = refl; unserved = tt; codes = tt; failing = tt; once = refl; aborts = refl; decided = record { cut = refl; cleared = refl; moved = refl }; silent = refl }, (record { cuts = refl; cleared = refl; ends = refl; deaths = tt; faults = tt; failures = refl; operations = refl; unserved = tt; codes = tt; failing = tt; once = refl; aborts = refl; decided = record { cut = refl; cleared = refl; moved = refl }; silent = refl }, (record { cuts = refl; cleared = refl; ends = refl; deaths = tt; faults = tt; failures = refl; operations = refl; unserved = tt; codes = tt; failing = tt; once = refl; aborts = refl; decided = record { cut = refl; cleared = refl; moved = refl }; silent = refl }, (record { cuts = refl; cleared = refl; ends = refl; deaths = tt; faults = tt; failures = refl; operations = refl; unserved = tt; codes = tt; failing = tt; once = refl; aborts = refl; decided = record { cut = refl; cleared = refl; moved = refl }; silent = refl }, (record { cuts = refl; cleared = refl; ends = refl; deaths = tt; faults = tt; failures = refl; operations = refl; unserved = tt; codes = tt; failing = tt; once = refl; aborts = refl; decided = record { cut = refl; cleared = refl; moved = refl }; silent = refl }, (record { cuts = refl; cleared = refl; ends = refl; deaths = tt; faults = tt; failures = refl; operations = refl; unserved = tt; codes = tt; failing = tt; once = refl; aborts = refl; decided = record { cut = refl; cleared = refl; moved = refl }; silent = refl }, (record { cuts = refl; cleared = refl; ends = refl; deaths = tt; faults = tt; failures = refl; operations = refl; unserved = tt; codes = tt; failing = tt; once = refl; aborts = refl; decided = record { cut = refl; cleared = refl; moved = refl }; silent = refl }, (record { cuts = refl; cleared = refl; ends = refl; deaths = tt; faults = tt; failures = refl; operations = refl; unserved = tt; codes = tt; failing = tt; once = refl; aborts = refl; decided = record { cut = refl; cleared = refl; moved = refl }; silent = refl }, tt)))))))))); aborted = (tt, (tt, (tt, (tt, (tt, (tt, (tt, (tt, (tt, (tt, (tt, (tt, (tt, (tt, (tt, (tt, (tt, (tt, (tt, (tt, (tt, (tt, tt)))))))))))))))))))))) }

dead_at_time_out : CauseLaw journals.one_disk journals.dead_at_time_out
unfolding reading fault_of tcode_of header_of offset_of rcode_of value_of length_of extended_of three four part_of is_to is_same asked_by begun_by belongs start_at lowest_from label_for free_from count_flying lowest_flying label_of with_label is_write kind_of slot_of window_at is_fifo point_step doorbell_step reset_step abort_step reply_step lost_step refusal verdict request_of check_of blank_bytes command_kind elements_from made block_head decide reads_eui live_login response_bytes start_step reply_step_of_manager decide_step fresh_id left_for enter_step back_step leave_step
dead_at_time_out = record { causes = (record { cuts = refl; cleared = refl; ends = refl; deaths = (refl, tt); faults = tt; failures = refl; operations = refl; unserved = tt; codes = tt; failing = tt; once = refl; aborts = refl; decided = record { cut = refl; cleared = refl; moved = refl }; silent = refl }, (record { cuts = refl; cleared = refl; ends = refl; deaths = tt; faults = tt; failures = refl; operations = refl; unserved = tt; codes = tt; failing = tt; once = refl; aborts = refl; decided = record { cut = refl; cleared = refl; moved = refl }; silent = refl }, (record { cuts = refl; cleared = refl; ends = refl; deaths = tt; faults = tt; failures = refl; operations = refl; unserved = tt; codes = tt; failing = tt; once = refl; aborts = refl; decided = record { cut = refl; cleared = refl; moved = refl }; silent = refl }, (record { cuts = refl; cleared = refl; ends = refl; deaths = tt; faults = tt; failures = refl; operations = refl; unserved = tt; codes = tt; failing = tt; once = refl; aborts = refl; decided = record { cut = refl; cleared = refl; moved = refl }; silent = refl }, (record { cuts = refl; cleared = refl; ends = refl; deaths = tt; faults = tt; failures = refl; operations = refl; unserved = tt; codes = tt; failing = tt; once = refl; aborts = refl; decided = record { cut = refl; cleared = refl; moved = refl }; silent = refl }, (record { cuts = refl; cleared = refl; ends = refl; deaths = tt; faults = tt; failures = refl; operations = refl; unserved = tt; codes = tt; failing = tt; once = refl; aborts = refl; decided = record { cut = refl; cleared = refl; moved = refl }; silent = refl }, (record { cuts = refl; cleared = refl; ends = refl; deaths = tt; faults = tt; failures = refl; operations = refl; unserved = tt; codes = tt; failing = tt; once = refl; aborts = refl; decided = record { cut = refl; cleared = refl; moved = refl }; silent = refl }, (record { cuts = refl; cleared = refl; ends = refl; deaths = tt; faults = tt; failures = refl; operations = refl; unserved = tt; codes = tt; failing = tt; once = refl; aborts = refl; decided = record { cut = refl; cleared = refl; moved = refl }; silent = refl }, (record { cuts = refl; cleared = refl; ends = refl; deaths = tt; faults = tt; failures = refl; operations = refl; unserved = tt; codes = tt; failing = tt; once = refl; aborts = refl; decided = record { cut = refl; cleared = refl; moved = refl }; silent = refl }, tt))))))))); aborted = (tt, (tt, (tt, (tt, (tt, (tt, (tt, (tt, (tt, (tt, (tt, (tt, (tt, (tt, (tt, (tt, (tt, (tt, (tt, (tt, tt)))))))))))))))))))) }

death_left_out : CauseLaw journals.one_disk journals.death_left_out → ⊥
unfolding reading fault_of tcode_of header_of offset_of rcode_of value_of length_of extended_of three four part_of is_to is_same asked_by begun_by belongs start_at lowest_from label_for free_from count_flying lowest_flying label_of with_label is_write kind_of slot_of window_at is_fifo point_step doorbell_step reset_step abort_step reply_step lost_step refusal verdict request_of check_of blank_bytes command_kind elements_from made block_head decide reads_eui live_login response_bytes start_step reply_step_of_manager decide_step fresh_id left_for enter_step back_step leave_step
death_left_out = λ law. let bad = law.causes.0.ends in cc bad

dead_twice : CauseLaw journals.one_disk journals.dead_twice → ⊥
unfolding reading fault_of tcode_of header_of offset_of rcode_of value_of length_of extended_of three four part_of is_to is_same asked_by begun_by belongs start_at lowest_from label_for free_from count_flying lowest_flying label_of with_label is_write kind_of slot_of window_at is_fifo point_step doorbell_step reset_step abort_step reply_step lost_step refusal verdict request_of check_of blank_bytes command_kind elements_from made block_head decide reads_eui live_login response_bytes start_step reply_step_of_manager decide_step fresh_id left_for enter_step back_step leave_step
dead_twice = λ law. let bad = law.causes.0.once in cc bad

dead_at_an_orb : CauseLaw journals.one_disk journals.dead_at_an_orb → ⊥
unfolding reading fault_of tcode_of header_of offset_of rcode_of value_of length_of extended_of three four part_of is_to is_same asked_by begun_by belongs start_at lowest_from label_for free_from count_flying lowest_flying label_of with_label is_write kind_of slot_of window_at is_fifo point_step doorbell_step reset_step abort_step reply_step lost_step refusal verdict request_of check_of blank_bytes command_kind elements_from made block_head decide reads_eui live_login response_bytes start_step reply_step_of_manager decide_step fresh_id left_for enter_step back_step leave_step
dead_at_an_orb = λ law. let bad = law.causes.0.ends in cc bad

aborted_unasked : CauseLaw journals.one_disk journals.aborted_unasked → ⊥
unfolding reading fault_of tcode_of header_of offset_of rcode_of value_of length_of extended_of three four part_of is_to is_same asked_by begun_by belongs start_at lowest_from label_for free_from count_flying lowest_flying label_of with_label is_write kind_of slot_of window_at is_fifo point_step doorbell_step reset_step abort_step reply_step lost_step refusal verdict request_of check_of blank_bytes command_kind elements_from made block_head decide reads_eui live_login response_bytes start_step reply_step_of_manager decide_step fresh_id left_for enter_step back_step leave_step
aborted_unasked = λ law. let bad = law.aborted.1.0 in cc bad

stuck_at_time_out : CauseLaw journals.one_disk journals.stuck_at_time_out
unfolding reading fault_of tcode_of header_of offset_of rcode_of value_of length_of extended_of three four part_of is_to is_same asked_by begun_by belongs start_at lowest_from label_for free_from count_flying lowest_flying label_of with_label is_write kind_of slot_of window_at is_fifo point_step doorbell_step reset_step abort_step reply_step lost_step refusal verdict request_of check_of blank_bytes command_kind elements_from made block_head decide reads_eui live_login response_bytes start_step reply_step_of_manager decide_step fresh_id left_for enter_step back_step leave_step
stuck_at_time_out = record { causes = (record { cuts = refl; cleared = refl; ends = refl; deaths = tt; faults = tt; failures = refl; operations = refl; unserved = tt; codes = tt; failing = tt; once = refl; aborts = refl; decided = record { cut = refl; cleared = refl; moved = refl }; silent = refl }, (record { cuts = refl; cleared = refl; ends = refl; deaths = tt; faults = tt; failures = refl; operations = refl; unserved = tt; codes = tt; failing = tt; once = refl; aborts = refl; decided = record { cut = refl; cleared = refl; moved = refl }; silent = refl }, (record { cuts = refl; cleared = refl; ends = refl; deaths = tt; faults = tt; failures = refl; operations = refl; unserved = tt; codes = tt; failing = tt; once = refl; aborts = refl; decided = record { cut = refl; cleared = refl; moved = refl }; silent = refl }, (record { cuts = refl; cleared = refl; ends = refl; deaths = tt; faults = tt; failures = refl; operations = refl; unserved = tt; codes = tt; failing = tt; once = refl; aborts = refl; decided = record { cut = refl; cleared = refl; moved = refl }; silent = refl }, tt)))); aborted = (tt, (tt, (tt, (tt, (tt, (tt, (tt, (tt, (tt, tt))))))))) }

stuck_left_out : CauseLaw journals.one_disk journals.stuck_left_out → ⊥
unfolding reading fault_of tcode_of header_of offset_of rcode_of value_of length_of extended_of three four part_of is_to is_same asked_by begun_by belongs start_at lowest_from label_for free_from count_flying lowest_flying label_of with_label is_write kind_of slot_of window_at is_fifo point_step doorbell_step reset_step abort_step reply_step lost_step refusal verdict request_of check_of blank_bytes command_kind elements_from made block_head decide reads_eui live_login response_bytes start_step reply_step_of_manager decide_step fresh_id left_for enter_step back_step leave_step
stuck_left_out = λ law. let bad = law.causes.0.operations in cc bad

state_ends : CauseLaw journals.one_disk journals.state_ends_in_error
unfolding reading fault_of tcode_of header_of offset_of rcode_of value_of length_of extended_of three four part_of is_to is_same asked_by begun_by belongs start_at lowest_from label_for free_from count_flying lowest_flying label_of with_label is_write kind_of slot_of window_at is_fifo point_step doorbell_step reset_step abort_step reply_step lost_step refusal verdict request_of check_of blank_bytes command_kind elements_from made block_head decide reads_eui live_login response_bytes start_step reply_step_of_manager decide_step fresh_id left_for enter_step back_step leave_step
state_ends = record { causes = (record { cuts = refl; cleared = refl; ends = refl; deaths = tt; faults = tt; failures = refl; operations = refl; unserved = tt; codes = tt; failing = tt; once = refl; aborts = refl; decided = record { cut = refl; cleared = refl; moved = refl }; silent = refl }, (record { cuts = refl; cleared = refl; ends = refl; deaths = tt; faults = tt; failures = refl; operations = refl; unserved = tt; codes = tt; failing = tt; once = refl; aborts = refl; decided = record { cut = refl; cleared = refl; moved = refl }; silent = refl }, (record { cuts = refl; cleared = refl; ends = refl; deaths = tt; faults = tt; failures = refl; operations = refl; unserved = tt; codes = tt; failing = tt; once = refl; aborts = refl; decided = record { cut = refl; cleared = refl; moved = refl }; silent = refl }, (record { cuts = refl; cleared = refl; ends = refl; deaths = tt; faults = tt; failures = refl; operations = refl; unserved = tt; codes = tt; failing = tt; once = refl; aborts = refl; decided = record { cut = refl; cleared = refl; moved = refl }; silent = refl }, tt)))); aborted = (tt, (tt, (tt, (tt, (tt, (tt, (tt, tt))))))) }

state_ends_well : CauseLaw journals.one_disk journals.state_ends_well → ⊥
unfolding reading fault_of tcode_of header_of offset_of rcode_of value_of length_of extended_of three four part_of is_to is_same asked_by begun_by belongs start_at lowest_from label_for free_from count_flying lowest_flying label_of with_label is_write kind_of slot_of window_at is_fifo point_step doorbell_step reset_step abort_step reply_step lost_step refusal verdict request_of check_of blank_bytes command_kind elements_from made block_head decide reads_eui live_login response_bytes start_step reply_step_of_manager decide_step fresh_id left_for enter_step back_step leave_step
state_ends_well = λ law. let bad = law.causes.0.operations in cc bad

state_ends_never : CauseLaw journals.one_disk journals.state_ends_never → ⊥
unfolding reading fault_of tcode_of header_of offset_of rcode_of value_of length_of extended_of three four part_of is_to is_same asked_by begun_by belongs start_at lowest_from label_for free_from count_flying lowest_flying label_of with_label is_write kind_of slot_of window_at is_fifo point_step doorbell_step reset_step abort_step reply_step lost_step refusal verdict request_of check_of blank_bytes command_kind elements_from made block_head decide reads_eui live_login response_bytes start_step reply_step_of_manager decide_step fresh_id left_for enter_step back_step leave_step
state_ends_never = λ law. let bad = law.causes.0.operations in cc bad

drops_at_reset : CauseLaw journals.one_disk journals.drops_at_reset
unfolding reading fault_of tcode_of header_of offset_of rcode_of value_of length_of extended_of three four part_of is_to is_same asked_by begun_by belongs start_at lowest_from label_for free_from count_flying lowest_flying label_of with_label is_write kind_of slot_of window_at is_fifo point_step doorbell_step reset_step abort_step reply_step lost_step refusal verdict request_of check_of blank_bytes command_kind elements_from made block_head decide reads_eui live_login response_bytes start_step reply_step_of_manager decide_step fresh_id left_for enter_step back_step leave_step
drops_at_reset = record { causes = (record { cuts = refl; cleared = refl; ends = refl; deaths = tt; faults = tt; failures = refl; operations = refl; unserved = tt; codes = tt; failing = tt; once = refl; aborts = refl; decided = record { cut = refl; cleared = refl; moved = refl }; silent = refl }, (record { cuts = refl; cleared = refl; ends = refl; deaths = tt; faults = tt; failures = refl; operations = refl; unserved = tt; codes = tt; failing = tt; once = refl; aborts = refl; decided = record { cut = refl; cleared = refl; moved = refl }; silent = refl }, (record { cuts = refl; cleared = refl; ends = refl; deaths = tt; faults = tt; failures = refl; operations = refl; unserved = tt; codes = tt; failing = tt; once = refl; aborts = refl; decided = record { cut = refl; cleared = refl; moved = refl }; silent = refl }, (record { cuts = refl; cleared = refl; ends = refl; deaths = tt; faults = tt; failures = refl; operations = refl; unserved = tt; codes = tt; failing = tt; once = refl; aborts = refl; decided = record { cut = refl; cleared = refl; moved = refl }; silent = refl }, (record { cuts = refl; cleared = refl; ends = refl; deaths = tt; faults = tt; failures = refl; operations = refl; unserved = tt; codes = tt; failing = tt; once = refl; aborts = refl; decided = record { cut = refl; cleared = refl; moved = refl }; silent = refl }, tt))))); aborted = (tt, (tt, (tt, (tt, (tt, (tt, (tt, (tt, (tt, (tt, (tt, tt))))))))))) }

drop_left_out : CauseLaw journals.one_disk journals.drop_left_out → ⊥
unfolding reading fault_of tcode_of header_of offset_of rcode_of value_of length_of extended_of three four part_of is_to is_same asked_by begun_by belongs start_at lowest_from label_for free_from count_flying lowest_flying label_of with_label is_write kind_of slot_of window_at is_fifo point_step doorbell_step reset_step abort_step reply_step lost_step refusal verdict request_of check_of blank_bytes command_kind elements_from made block_head decide reads_eui live_login response_bytes start_step reply_step_of_manager decide_step fresh_id left_for enter_step back_step leave_step
drop_left_out = λ law. let bad = law.causes.0.operations in cc bad

-- the initiator of the first note, and the meaning with which an ORB ended
abbrev first_initiator : List Note → ℕ
first_initiator (notes.Cut i list cause ∷ rest) = i
first_initiator rest = 0

abbrev meaning_of : StatusKind → ℕ
meaning_of (kinds.Illegal meaning) = meaning
meaning_of status = 0

abbrev last_meaning : List Note → ℕ
last_meaning (first ∷ notes.Ended i list number status ∷ rest) = meaning_of status
last_meaning rest = 0

pub unit_is_reset : CauseLaw journals.one_disk (rare.unit_reset rare.unit_reset_notes)
unfolding reading fault_of tcode_of header_of offset_of rcode_of value_of length_of extended_of three four part_of is_to is_same asked_by begun_by belongs start_at lowest_from label_for free_from count_flying lowest_flying label_of with_label is_write kind_of slot_of window_at is_fifo point_step doorbell_step reset_step abort_step reply_step lost_step refusal verdict request_of check_of blank_bytes command_kind elements_from made block_head decide reads_eui live_login response_bytes start_step reply_step_of_manager decide_step fresh_id left_for enter_step back_step leave_step
unit_is_reset = record { causes = (record { cuts = refl; cleared = refl; ends = refl; deaths = tt; faults = tt; failures = refl; operations = refl; unserved = tt; codes = tt; failing = tt; once = refl; aborts = refl; decided = record { cut = refl; cleared = refl; moved = refl }; silent = refl }, (record { cuts = refl; cleared = refl; ends = refl; deaths = tt; faults = tt; failures = refl; operations = refl; unserved = tt; codes = tt; failing = tt; once = refl; aborts = refl; decided = record { cut = refl; cleared = refl; moved = refl }; silent = refl }, (record { cuts = refl; cleared = refl; ends = refl; deaths = tt; faults = tt; failures = refl; operations = refl; unserved = tt; codes = tt; failing = tt; once = refl; aborts = refl; decided = record { cut = refl; cleared = refl; moved = refl }; silent = refl }, (record { cuts = refl; cleared = refl; ends = refl; deaths = tt; faults = tt; failures = refl; operations = refl; unserved = tt; codes = tt; failing = tt; once = refl; aborts = refl; decided = record { cut = refl; cleared = refl; moved = refl }; silent = refl }, (record { cuts = refl; cleared = refl; ends = refl; deaths = tt; faults = tt; failures = refl; operations = refl; unserved = tt; codes = tt; failing = tt; once = refl; aborts = refl; decided = record { cut = refl; cleared = refl; moved = refl }; silent = refl }, (record { cuts = refl; cleared = refl; ends = refl; deaths = tt; faults = tt; failures = refl; operations = refl; unserved = tt; codes = tt; failing = tt; once = refl; aborts = refl; decided = record { cut = refl; cleared = refl; moved = refl }; silent = refl }, (record { cuts = refl; cleared = refl; ends = refl; deaths = tt; faults = tt; failures = refl; operations = refl; unserved = tt; codes = tt; failing = tt; once = refl; aborts = refl; decided = record { cut = refl; cleared = refl; moved = refl }; silent = refl }, (record { cuts = refl; cleared = refl; ends = refl; deaths = tt; faults = tt; failures = refl; operations = refl; unserved = tt; codes = tt; failing = tt; once = refl; aborts = refl; decided = record { cut = refl; cleared = refl; moved = refl }; silent = refl }, (record { cuts = refl; cleared = refl; ends = refl; deaths = tt; faults = tt; failures = refl; operations = refl; unserved = tt; codes = tt; failing = tt; once = refl; aborts = refl; decided = record { cut = refl; cleared = refl; moved = refl }; silent = refl }, (record { cuts = refl; cleared = refl; ends = refl; deaths = tt; faults = tt; failures = refl; operations = refl; unserved = tt; codes = tt; failing = tt; once = refl; aborts = refl; decided = record { cut = refl; cleared = refl; moved = refl }; silent = refl }, (record { cuts = refl; cleared = refl; ends = refl; deaths = tt; faults = tt; failures = refl; operations = refl; unserved = tt; codes = tt; failing = tt; once = refl; aborts = refl; decided = record { cut = refl; cleared = refl; moved = refl }; silent = refl }, tt))))))))))); aborted = (tt, (tt, (tt, (tt, (tt, (tt, (tt, (tt, (tt, (tt, (tt, (tt, (tt, (tt, (tt, (tt, (tt, (tt, (tt, (tt, (tt, (tt, (tt, (tt, (tt, tt))))))))))))))))))))))))) }

cut_of_other_left_out : CauseLaw journals.one_disk (rare.unit_reset (notes.Cleared 0 ∷ notes.Managed 0 functions.UnitReset 1 0 None ∷ [])) → ⊥
unfolding reading fault_of tcode_of header_of offset_of rcode_of value_of length_of extended_of three four part_of is_to is_same asked_by begun_by belongs start_at lowest_from label_for free_from count_flying lowest_flying label_of with_label is_write kind_of slot_of window_at is_fifo point_step doorbell_step reset_step abort_step reply_step lost_step refusal verdict request_of check_of blank_bytes command_kind elements_from made block_head decide reads_eui live_login response_bytes start_step reply_step_of_manager decide_step fresh_id left_for enter_step back_step leave_step
cut_of_other_left_out = λ law. let bad = law.causes.0.cuts in cc bad

own_list_cut : CauseLaw journals.one_disk (rare.unit_reset (notes.Cut 0 (Some 0) cuts.UnitReset ∷ notes.Cleared 0 ∷ notes.Managed 0 functions.UnitReset 1 0 None ∷ [])) → ⊥
unfolding reading fault_of tcode_of header_of offset_of rcode_of value_of length_of extended_of three four part_of is_to is_same asked_by begun_by belongs start_at lowest_from label_for free_from count_flying lowest_flying label_of with_label is_write kind_of slot_of window_at is_fifo point_step doorbell_step reset_step abort_step reply_step lost_step refusal verdict request_of check_of blank_bytes command_kind elements_from made block_head decide reads_eui live_login response_bytes start_step reply_step_of_manager decide_step fresh_id left_for enter_step back_step leave_step
own_list_cut = λ law. let bad : 0 ≡ 1 = ap first_initiator law.causes.0.cuts in omega (arith, bad)

cleared_left_out : CauseLaw journals.one_disk (rare.unit_reset (notes.Cut 1 (Some 0) cuts.UnitReset ∷ notes.Managed 0 functions.UnitReset 1 0 None ∷ [])) → ⊥
unfolding reading fault_of tcode_of header_of offset_of rcode_of value_of length_of extended_of three four part_of is_to is_same asked_by begun_by belongs start_at lowest_from label_for free_from count_flying lowest_flying label_of with_label is_write kind_of slot_of window_at is_fifo point_step doorbell_step reset_step abort_step reply_step lost_step refusal verdict request_of check_of blank_bytes command_kind elements_from made block_head decide reads_eui live_login response_bytes start_step reply_step_of_manager decide_step fresh_id left_for enter_step back_step leave_step
cleared_left_out = λ law. let bad = law.causes.0.cleared in cc bad

abort_set_cuts : CauseLaw journals.one_disk (rare.abort_set (notes.Cut 0 (Some 0) cuts.AbortSet ∷ []))
unfolding reading fault_of tcode_of header_of offset_of rcode_of value_of length_of extended_of three four part_of is_to is_same asked_by begun_by belongs start_at lowest_from label_for free_from count_flying lowest_flying label_of with_label is_write kind_of slot_of window_at is_fifo point_step doorbell_step reset_step abort_step reply_step lost_step refusal verdict request_of check_of blank_bytes command_kind elements_from made block_head decide reads_eui live_login response_bytes start_step reply_step_of_manager decide_step fresh_id left_for enter_step back_step leave_step
abort_set_cuts = record { causes = (record { cuts = refl; cleared = refl; ends = refl; deaths = tt; faults = tt; failures = refl; operations = refl; unserved = tt; codes = tt; failing = tt; once = refl; aborts = refl; decided = record { cut = refl; cleared = refl; moved = refl }; silent = refl }, (record { cuts = refl; cleared = refl; ends = refl; deaths = tt; faults = tt; failures = refl; operations = refl; unserved = tt; codes = tt; failing = tt; once = refl; aborts = refl; decided = record { cut = refl; cleared = refl; moved = refl }; silent = refl }, (record { cuts = refl; cleared = refl; ends = refl; deaths = tt; faults = tt; failures = refl; operations = refl; unserved = tt; codes = tt; failing = tt; once = refl; aborts = refl; decided = record { cut = refl; cleared = refl; moved = refl }; silent = refl }, (record { cuts = refl; cleared = refl; ends = refl; deaths = tt; faults = tt; failures = refl; operations = refl; unserved = tt; codes = tt; failing = tt; once = refl; aborts = refl; decided = record { cut = refl; cleared = refl; moved = refl }; silent = refl }, (record { cuts = refl; cleared = refl; ends = refl; deaths = tt; faults = tt; failures = refl; operations = refl; unserved = tt; codes = tt; failing = tt; once = refl; aborts = refl; decided = record { cut = refl; cleared = refl; moved = refl }; silent = refl }, (record { cuts = refl; cleared = refl; ends = refl; deaths = tt; faults = tt; failures = refl; operations = refl; unserved = tt; codes = tt; failing = tt; once = refl; aborts = refl; decided = record { cut = refl; cleared = refl; moved = refl }; silent = refl }, (record { cuts = refl; cleared = refl; ends = refl; deaths = tt; faults = tt; failures = refl; operations = refl; unserved = tt; codes = tt; failing = tt; once = refl; aborts = refl; decided = record { cut = refl; cleared = refl; moved = refl }; silent = refl }, (record { cuts = refl; cleared = refl; ends = refl; deaths = tt; faults = tt; failures = refl; operations = refl; unserved = tt; codes = tt; failing = tt; once = refl; aborts = refl; decided = record { cut = refl; cleared = refl; moved = refl }; silent = refl }, (record { cuts = refl; cleared = refl; ends = refl; deaths = tt; faults = tt; failures = refl; operations = refl; unserved = tt; codes = tt; failing = tt; once = refl; aborts = refl; decided = record { cut = refl; cleared = refl; moved = refl }; silent = refl }, (record { cuts = refl; cleared = refl; ends = refl; deaths = tt; faults = tt; failures = refl; operations = refl; unserved = tt; codes = tt; failing = tt; once = refl; aborts = refl; decided = record { cut = refl; cleared = refl; moved = refl }; silent = refl }, (record { cuts = refl; cleared = refl; ends = refl; deaths = tt; faults = tt; failures = refl; operations = refl; unserved = tt; codes = tt; failing = tt; once = refl; aborts = refl; decided = record { cut = refl; cleared = refl; moved = refl }; silent = refl }, (record { cuts = refl; cleared = refl; ends = refl; deaths = tt; faults = tt; failures = refl; operations = refl; unserved = tt; codes = tt; failing = tt; once = refl; aborts = refl; decided = record { cut = refl; cleared = refl; moved = refl }; silent = refl }, tt)))))))))))); aborted = (tt, (tt, (tt, (tt, (tt, (tt, (tt, (tt, (tt, (tt, (tt, (tt, (tt, (tt, (tt, (tt, (tt, (tt, (tt, (tt, (tt, (tt, (tt, (tt, tt)))))))))))))))))))))))) }

abort_set_cuts_not : CauseLaw journals.one_disk (rare.abort_set []) → ⊥
unfolding reading fault_of tcode_of header_of offset_of rcode_of value_of length_of extended_of three four part_of is_to is_same asked_by begun_by belongs start_at lowest_from label_for free_from count_flying lowest_flying label_of with_label is_write kind_of slot_of window_at is_fifo point_step doorbell_step reset_step abort_step reply_step lost_step refusal verdict request_of check_of blank_bytes command_kind elements_from made block_head decide reads_eui live_login response_bytes start_step reply_step_of_manager decide_step fresh_id left_for enter_step back_step leave_step
abort_set_cuts_not = λ law. let bad = law.causes.0.cuts in cc bad

logout_cuts : CauseLaw journals.one_disk (rare.log_out (notes.Cut 0 (Some 0) cuts.Logout ∷ []))
unfolding reading fault_of tcode_of header_of offset_of rcode_of value_of length_of extended_of three four part_of is_to is_same asked_by begun_by belongs start_at lowest_from label_for free_from count_flying lowest_flying label_of with_label is_write kind_of slot_of window_at is_fifo point_step doorbell_step reset_step abort_step reply_step lost_step refusal verdict request_of check_of blank_bytes command_kind elements_from made block_head decide reads_eui live_login response_bytes start_step reply_step_of_manager decide_step fresh_id left_for enter_step back_step leave_step
logout_cuts = record { causes = (record { cuts = refl; cleared = refl; ends = refl; deaths = tt; faults = tt; failures = refl; operations = refl; unserved = tt; codes = tt; failing = tt; once = refl; aborts = refl; decided = record { cut = refl; cleared = refl; moved = refl }; silent = refl }, (record { cuts = refl; cleared = refl; ends = refl; deaths = tt; faults = tt; failures = refl; operations = refl; unserved = tt; codes = tt; failing = tt; once = refl; aborts = refl; decided = record { cut = refl; cleared = refl; moved = refl }; silent = refl }, (record { cuts = refl; cleared = refl; ends = refl; deaths = tt; faults = tt; failures = refl; operations = refl; unserved = tt; codes = tt; failing = tt; once = refl; aborts = refl; decided = record { cut = refl; cleared = refl; moved = refl }; silent = refl }, (record { cuts = refl; cleared = refl; ends = refl; deaths = tt; faults = tt; failures = refl; operations = refl; unserved = tt; codes = tt; failing = tt; once = refl; aborts = refl; decided = record { cut = refl; cleared = refl; moved = refl }; silent = refl }, (record { cuts = refl; cleared = refl; ends = refl; deaths = tt; faults = tt; failures = refl; operations = refl; unserved = tt; codes = tt; failing = tt; once = refl; aborts = refl; decided = record { cut = refl; cleared = refl; moved = refl }; silent = refl }, (record { cuts = refl; cleared = refl; ends = refl; deaths = tt; faults = tt; failures = refl; operations = refl; unserved = tt; codes = tt; failing = tt; once = refl; aborts = refl; decided = record { cut = refl; cleared = refl; moved = refl }; silent = refl }, (record { cuts = refl; cleared = refl; ends = refl; deaths = tt; faults = tt; failures = refl; operations = refl; unserved = tt; codes = tt; failing = tt; once = refl; aborts = refl; decided = record { cut = refl; cleared = refl; moved = refl }; silent = refl }, (record { cuts = refl; cleared = refl; ends = refl; deaths = tt; faults = tt; failures = refl; operations = refl; unserved = tt; codes = tt; failing = tt; once = refl; aborts = refl; decided = record { cut = refl; cleared = refl; moved = refl }; silent = refl }, (record { cuts = refl; cleared = refl; ends = refl; deaths = tt; faults = tt; failures = refl; operations = refl; unserved = tt; codes = tt; failing = tt; once = refl; aborts = refl; decided = record { cut = refl; cleared = refl; moved = refl }; silent = refl }, (record { cuts = refl; cleared = refl; ends = refl; deaths = tt; faults = tt; failures = refl; operations = refl; unserved = tt; codes = tt; failing = tt; once = refl; aborts = refl; decided = record { cut = refl; cleared = refl; moved = refl }; silent = refl }, (record { cuts = refl; cleared = refl; ends = refl; deaths = tt; faults = tt; failures = refl; operations = refl; unserved = tt; codes = tt; failing = tt; once = refl; aborts = refl; decided = record { cut = refl; cleared = refl; moved = refl }; silent = refl }, (record { cuts = refl; cleared = refl; ends = refl; deaths = tt; faults = tt; failures = refl; operations = refl; unserved = tt; codes = tt; failing = tt; once = refl; aborts = refl; decided = record { cut = refl; cleared = refl; moved = refl }; silent = refl }, tt)))))))))))); aborted = (tt, (tt, (tt, (tt, (tt, (tt, (tt, (tt, (tt, (tt, (tt, (tt, (tt, (tt, (tt, (tt, (tt, (tt, (tt, (tt, (tt, (tt, (tt, (tt, (tt, tt))))))))))))))))))))))))) }

logout_cuts_otherwise : CauseLaw journals.one_disk (rare.log_out (notes.Cut 0 (Some 0) cuts.AbortSet ∷ [])) → ⊥
unfolding reading fault_of tcode_of header_of offset_of rcode_of value_of length_of extended_of three four part_of is_to is_same asked_by begun_by belongs start_at lowest_from label_for free_from count_flying lowest_flying label_of with_label is_write kind_of slot_of window_at is_fifo point_step doorbell_step reset_step abort_step reply_step lost_step refusal verdict request_of check_of blank_bytes command_kind elements_from made block_head decide reads_eui live_login response_bytes start_step reply_step_of_manager decide_step fresh_id left_for enter_step back_step leave_step
logout_cuts_otherwise = λ law. let bad = law.causes.0.cuts in cc bad

target_is_reset : CauseLaw journals.one_disk (rare.target_reset (notes.Cut 0 (Some 0) cuts.TargetReset ∷ notes.Cleared 0 ∷ []))
unfolding reading fault_of tcode_of header_of offset_of rcode_of value_of length_of extended_of three four part_of is_to is_same asked_by begun_by belongs start_at lowest_from label_for free_from count_flying lowest_flying label_of with_label is_write kind_of slot_of window_at is_fifo point_step doorbell_step reset_step abort_step reply_step lost_step refusal verdict request_of check_of blank_bytes command_kind elements_from made block_head decide reads_eui live_login response_bytes start_step reply_step_of_manager decide_step fresh_id left_for enter_step back_step leave_step
target_is_reset = record { causes = (record { cuts = refl; cleared = refl; ends = refl; deaths = tt; faults = tt; failures = refl; operations = refl; unserved = tt; codes = tt; failing = tt; once = refl; aborts = refl; decided = record { cut = refl; cleared = refl; moved = refl }; silent = refl }, (record { cuts = refl; cleared = refl; ends = refl; deaths = tt; faults = tt; failures = refl; operations = refl; unserved = tt; codes = tt; failing = tt; once = refl; aborts = refl; decided = record { cut = refl; cleared = refl; moved = refl }; silent = refl }, (record { cuts = refl; cleared = refl; ends = refl; deaths = tt; faults = tt; failures = refl; operations = refl; unserved = tt; codes = tt; failing = tt; once = refl; aborts = refl; decided = record { cut = refl; cleared = refl; moved = refl }; silent = refl }, (record { cuts = refl; cleared = refl; ends = refl; deaths = tt; faults = tt; failures = refl; operations = refl; unserved = tt; codes = tt; failing = tt; once = refl; aborts = refl; decided = record { cut = refl; cleared = refl; moved = refl }; silent = refl }, (record { cuts = refl; cleared = refl; ends = refl; deaths = tt; faults = tt; failures = refl; operations = refl; unserved = tt; codes = tt; failing = tt; once = refl; aborts = refl; decided = record { cut = refl; cleared = refl; moved = refl }; silent = refl }, (record { cuts = refl; cleared = refl; ends = refl; deaths = tt; faults = tt; failures = refl; operations = refl; unserved = tt; codes = tt; failing = tt; once = refl; aborts = refl; decided = record { cut = refl; cleared = refl; moved = refl }; silent = refl }, (record { cuts = refl; cleared = refl; ends = refl; deaths = tt; faults = tt; failures = refl; operations = refl; unserved = tt; codes = tt; failing = tt; once = refl; aborts = refl; decided = record { cut = refl; cleared = refl; moved = refl }; silent = refl }, (record { cuts = refl; cleared = refl; ends = refl; deaths = tt; faults = tt; failures = refl; operations = refl; unserved = tt; codes = tt; failing = tt; once = refl; aborts = refl; decided = record { cut = refl; cleared = refl; moved = refl }; silent = refl }, (record { cuts = refl; cleared = refl; ends = refl; deaths = tt; faults = tt; failures = refl; operations = refl; unserved = tt; codes = tt; failing = tt; once = refl; aborts = refl; decided = record { cut = refl; cleared = refl; moved = refl }; silent = refl }, (record { cuts = refl; cleared = refl; ends = refl; deaths = tt; faults = tt; failures = refl; operations = refl; unserved = tt; codes = tt; failing = tt; once = refl; aborts = refl; decided = record { cut = refl; cleared = refl; moved = refl }; silent = refl }, (record { cuts = refl; cleared = refl; ends = refl; deaths = tt; faults = tt; failures = refl; operations = refl; unserved = tt; codes = tt; failing = tt; once = refl; aborts = refl; decided = record { cut = refl; cleared = refl; moved = refl }; silent = refl }, (record { cuts = refl; cleared = refl; ends = refl; deaths = tt; faults = tt; failures = refl; operations = refl; unserved = tt; codes = tt; failing = tt; once = refl; aborts = refl; decided = record { cut = refl; cleared = refl; moved = refl }; silent = refl }, tt)))))))))))); aborted = (tt, (tt, (tt, (tt, (tt, (tt, (tt, (tt, (tt, (tt, (tt, (tt, (tt, (tt, (tt, (tt, (tt, (tt, (tt, (tt, (tt, (tt, (tt, (tt, (tt, tt))))))))))))))))))))))))) }

target_reset_clears_not : CauseLaw journals.one_disk (rare.target_reset (notes.Cut 0 (Some 0) cuts.TargetReset ∷ [])) → ⊥
unfolding reading fault_of tcode_of header_of offset_of rcode_of value_of length_of extended_of three four part_of is_to is_same asked_by begun_by belongs start_at lowest_from label_for free_from count_flying lowest_flying label_of with_label is_write kind_of slot_of window_at is_fifo point_step doorbell_step reset_step abort_step reply_step lost_step refusal verdict request_of check_of blank_bytes command_kind elements_from made block_head decide reads_eui live_login response_bytes start_step reply_step_of_manager decide_step fresh_id left_for enter_step back_step leave_step
target_reset_clears_not = λ law. let bad = law.causes.0.cleared in cc bad

agent_reset_cuts_not : CauseLaw journals.one_disk refused.agent_reset_cuts_not → ⊥
unfolding reading fault_of tcode_of header_of offset_of rcode_of value_of length_of extended_of three four part_of is_to is_same asked_by begun_by belongs start_at lowest_from label_for free_from count_flying lowest_flying label_of with_label is_write kind_of slot_of window_at is_fifo point_step doorbell_step reset_step abort_step reply_step lost_step refusal verdict request_of check_of blank_bytes command_kind elements_from made block_head decide reads_eui live_login response_bytes start_step reply_step_of_manager decide_step fresh_id left_for enter_step back_step leave_step
agent_reset_cuts_not = λ law. let bad = law.causes.0.cuts in cc bad

agent_reset_drops_not : CauseLaw journals.one_disk refused.agent_reset_drops_not → ⊥
unfolding reading fault_of tcode_of header_of offset_of rcode_of value_of length_of extended_of three four part_of is_to is_same asked_by begun_by belongs start_at lowest_from label_for free_from count_flying lowest_flying label_of with_label is_write kind_of slot_of window_at is_fifo point_step doorbell_step reset_step abort_step reply_step lost_step refusal verdict request_of check_of blank_bytes command_kind elements_from made block_head decide reads_eui live_login response_bytes start_step reply_step_of_manager decide_step fresh_id left_for enter_step back_step leave_step
agent_reset_drops_not = λ law. let bad = law.causes.0.operations in cc bad

operation_ends_otherwise : CauseLaw journals.one_disk refused.operation_ends_otherwise → ⊥
unfolding reading fault_of tcode_of header_of offset_of rcode_of value_of length_of extended_of three four part_of is_to is_same asked_by begun_by belongs start_at lowest_from label_for free_from count_flying lowest_flying label_of with_label is_write kind_of slot_of window_at is_fifo point_step doorbell_step reset_step abort_step reply_step lost_step refusal verdict request_of check_of blank_bytes command_kind elements_from made block_head decide reads_eui live_login response_bytes start_step reply_step_of_manager decide_step fresh_id left_for enter_step back_step leave_step
operation_ends_otherwise = λ law. let bad = law.causes.0.operations in cc bad

reset_cuts_both : CauseLaw journals.one_disk (rare.sees_reset (rare.cut_by_reset 0 ∷ rare.cut_by_reset 1 ∷ []))
unfolding reading fault_of tcode_of header_of offset_of rcode_of value_of length_of extended_of three four part_of is_to is_same asked_by begun_by belongs start_at lowest_from label_for free_from count_flying lowest_flying label_of with_label is_write kind_of slot_of window_at is_fifo point_step doorbell_step reset_step abort_step reply_step lost_step refusal verdict request_of check_of blank_bytes command_kind elements_from made block_head decide reads_eui live_login response_bytes start_step reply_step_of_manager decide_step fresh_id left_for enter_step back_step leave_step
reset_cuts_both = record { causes = (record { cuts = refl; cleared = refl; ends = refl; deaths = tt; faults = tt; failures = refl; operations = refl; unserved = tt; codes = tt; failing = tt; once = refl; aborts = refl; decided = record { cut = refl; cleared = refl; moved = refl }; silent = refl }, (record { cuts = refl; cleared = refl; ends = refl; deaths = tt; faults = tt; failures = refl; operations = refl; unserved = tt; codes = tt; failing = tt; once = refl; aborts = refl; decided = record { cut = refl; cleared = refl; moved = refl }; silent = refl }, (record { cuts = refl; cleared = refl; ends = refl; deaths = tt; faults = tt; failures = refl; operations = refl; unserved = tt; codes = tt; failing = tt; once = refl; aborts = refl; decided = record { cut = refl; cleared = refl; moved = refl }; silent = refl }, (record { cuts = refl; cleared = refl; ends = refl; deaths = tt; faults = tt; failures = refl; operations = refl; unserved = tt; codes = tt; failing = tt; once = refl; aborts = refl; decided = record { cut = refl; cleared = refl; moved = refl }; silent = refl }, (record { cuts = refl; cleared = refl; ends = refl; deaths = tt; faults = tt; failures = refl; operations = refl; unserved = tt; codes = tt; failing = tt; once = refl; aborts = refl; decided = record { cut = refl; cleared = refl; moved = refl }; silent = refl }, (record { cuts = refl; cleared = refl; ends = refl; deaths = tt; faults = tt; failures = refl; operations = refl; unserved = tt; codes = tt; failing = tt; once = refl; aborts = refl; decided = record { cut = refl; cleared = refl; moved = refl }; silent = refl }, (record { cuts = refl; cleared = refl; ends = refl; deaths = tt; faults = tt; failures = refl; operations = refl; unserved = tt; codes = tt; failing = tt; once = refl; aborts = refl; decided = record { cut = refl; cleared = refl; moved = refl }; silent = refl }, (record { cuts = refl; cleared = refl; ends = refl; deaths = tt; faults = tt; failures = refl; operations = refl; unserved = tt; codes = tt; failing = tt; once = refl; aborts = refl; decided = record { cut = refl; cleared = refl; moved = refl }; silent = refl }, (record { cuts = refl; cleared = refl; ends = refl; deaths = tt; faults = tt; failures = refl; operations = refl; unserved = tt; codes = tt; failing = tt; once = refl; aborts = refl; decided = record { cut = refl; cleared = refl; moved = refl }; silent = refl }, (record { cuts = refl; cleared = refl; ends = refl; deaths = tt; faults = tt; failures = refl; operations = refl; unserved = tt; codes = tt; failing = tt; once = refl; aborts = refl; decided = record { cut = refl; cleared = refl; moved = refl }; silent = refl }, tt)))))))))); aborted = (tt, (tt, (tt, (tt, (tt, (tt, (tt, (tt, (tt, (tt, (tt, (tt, (tt, (tt, (tt, (tt, (tt, (tt, (tt, (tt, (tt, (tt, (tt, (tt, tt)))))))))))))))))))))))) }

reset_cuts_one : CauseLaw journals.one_disk (rare.sees_reset (rare.cut_by_reset 0 ∷ [])) → ⊥
unfolding reading fault_of tcode_of header_of offset_of rcode_of value_of length_of extended_of three four part_of is_to is_same asked_by begun_by belongs start_at lowest_from label_for free_from count_flying lowest_flying label_of with_label is_write kind_of slot_of window_at is_fifo point_step doorbell_step reset_step abort_step reply_step lost_step refusal verdict request_of check_of blank_bytes command_kind elements_from made block_head decide reads_eui live_login response_bytes start_step reply_step_of_manager decide_step fresh_id left_for enter_step back_step leave_step
reset_cuts_one = λ law. let bad = law.causes.0.cuts in cc bad

cuts_out_of_order : CauseLaw journals.one_disk (rare.sees_reset (rare.cut_by_reset 1 ∷ rare.cut_by_reset 0 ∷ [])) → ⊥
unfolding reading fault_of tcode_of header_of offset_of rcode_of value_of length_of extended_of three four part_of is_to is_same asked_by begun_by belongs start_at lowest_from label_for free_from count_flying lowest_flying label_of with_label is_write kind_of slot_of window_at is_fifo point_step doorbell_step reset_step abort_step reply_step lost_step refusal verdict request_of check_of blank_bytes command_kind elements_from made block_head decide reads_eui live_login response_bytes start_step reply_step_of_manager decide_step fresh_id left_for enter_step back_step leave_step
cuts_out_of_order = λ law. let bad : 1 ≡ 0 = ap first_initiator law.causes.0.cuts in omega (arith, bad)

dead_refused : CauseLaw journals.one_disk (rare.orb_answered 7 [] (rare.dies_of causes.Refused kinds.Failed))
unfolding reading fault_of tcode_of header_of offset_of rcode_of value_of length_of extended_of three four part_of is_to is_same asked_by begun_by belongs start_at lowest_from label_for free_from count_flying lowest_flying label_of with_label is_write kind_of slot_of window_at is_fifo point_step doorbell_step reset_step abort_step reply_step lost_step refusal verdict request_of check_of blank_bytes command_kind elements_from made block_head decide reads_eui live_login response_bytes start_step reply_step_of_manager decide_step fresh_id left_for enter_step back_step leave_step
dead_refused = record { causes = (record { cuts = refl; cleared = refl; ends = refl; deaths = (refl, tt); faults = (refl, tt); failures = refl; operations = refl; unserved = tt; codes = tt; failing = tt; once = refl; aborts = refl; decided = record { cut = refl; cleared = refl; moved = refl }; silent = refl }, (record { cuts = refl; cleared = refl; ends = refl; deaths = tt; faults = tt; failures = refl; operations = refl; unserved = tt; codes = tt; failing = tt; once = refl; aborts = refl; decided = record { cut = refl; cleared = refl; moved = refl }; silent = refl }, (record { cuts = refl; cleared = refl; ends = refl; deaths = tt; faults = tt; failures = refl; operations = refl; unserved = tt; codes = tt; failing = tt; once = refl; aborts = refl; decided = record { cut = refl; cleared = refl; moved = refl }; silent = refl }, (record { cuts = refl; cleared = refl; ends = refl; deaths = tt; faults = tt; failures = refl; operations = refl; unserved = tt; codes = tt; failing = tt; once = refl; aborts = refl; decided = record { cut = refl; cleared = refl; moved = refl }; silent = refl }, (record { cuts = refl; cleared = refl; ends = refl; deaths = tt; faults = tt; failures = refl; operations = refl; unserved = tt; codes = tt; failing = tt; once = refl; aborts = refl; decided = record { cut = refl; cleared = refl; moved = refl }; silent = refl }, (record { cuts = refl; cleared = refl; ends = refl; deaths = tt; faults = tt; failures = refl; operations = refl; unserved = tt; codes = tt; failing = tt; once = refl; aborts = refl; decided = record { cut = refl; cleared = refl; moved = refl }; silent = refl }, (record { cuts = refl; cleared = refl; ends = refl; deaths = tt; faults = tt; failures = refl; operations = refl; unserved = tt; codes = tt; failing = tt; once = refl; aborts = refl; decided = record { cut = refl; cleared = refl; moved = refl }; silent = refl }, tt))))))); aborted = (tt, (tt, (tt, (tt, (tt, (tt, (tt, (tt, (tt, (tt, (tt, (tt, (tt, (tt, (tt, (tt, tt)))))))))))))))) }

refusal_passes : CauseLaw journals.one_disk (rare.orb_answered 7 [] []) → ⊥
unfolding reading fault_of tcode_of header_of offset_of rcode_of value_of length_of extended_of three four part_of is_to is_same asked_by begun_by belongs start_at lowest_from label_for free_from count_flying lowest_flying label_of with_label is_write kind_of slot_of window_at is_fifo point_step doorbell_step reset_step abort_step reply_step lost_step refusal verdict request_of check_of blank_bytes command_kind elements_from made block_head decide reads_eui live_login response_bytes start_step reply_step_of_manager decide_step fresh_id left_for enter_step back_step leave_step
refusal_passes = λ law. let bad = law.causes.0.ends in cc bad

refused_otherwise : CauseLaw journals.one_disk (rare.orb_answered 7 [] (rare.dies_of causes.Grammar kinds.Failed)) → ⊥
unfolding reading fault_of tcode_of header_of offset_of rcode_of value_of length_of extended_of three four part_of is_to is_same asked_by begun_by belongs start_at lowest_from label_for free_from count_flying lowest_flying label_of with_label is_write kind_of slot_of window_at is_fifo point_step doorbell_step reset_step abort_step reply_step lost_step refusal verdict request_of check_of blank_bytes command_kind elements_from made block_head decide reads_eui live_login response_bytes start_step reply_step_of_manager decide_step fresh_id left_for enter_step back_step leave_step
refused_otherwise = λ law. let bad = law.causes.0.ends in cc bad

dead_short : CauseLaw journals.one_disk (rare.orb_answered 0 (quad_bytes (0 ∷ 0 ∷ 0 ∷ 0 ∷ 0 ∷ 0 ∷ [])) (rare.dies_of causes.Grammar kinds.Failed))
unfolding reading fault_of tcode_of header_of offset_of rcode_of value_of length_of extended_of three four part_of is_to is_same asked_by begun_by belongs start_at lowest_from label_for free_from count_flying lowest_flying label_of with_label is_write kind_of slot_of window_at is_fifo point_step doorbell_step reset_step abort_step reply_step lost_step refusal verdict request_of check_of blank_bytes command_kind elements_from made block_head decide reads_eui live_login response_bytes start_step reply_step_of_manager decide_step fresh_id left_for enter_step back_step leave_step
dead_short = record { causes = (record { cuts = refl; cleared = refl; ends = refl; deaths = (refl, tt); faults = (refl, tt); failures = refl; operations = refl; unserved = tt; codes = tt; failing = tt; once = refl; aborts = refl; decided = record { cut = refl; cleared = refl; moved = refl }; silent = refl }, (record { cuts = refl; cleared = refl; ends = refl; deaths = tt; faults = tt; failures = refl; operations = refl; unserved = tt; codes = tt; failing = tt; once = refl; aborts = refl; decided = record { cut = refl; cleared = refl; moved = refl }; silent = refl }, (record { cuts = refl; cleared = refl; ends = refl; deaths = tt; faults = tt; failures = refl; operations = refl; unserved = tt; codes = tt; failing = tt; once = refl; aborts = refl; decided = record { cut = refl; cleared = refl; moved = refl }; silent = refl }, (record { cuts = refl; cleared = refl; ends = refl; deaths = tt; faults = tt; failures = refl; operations = refl; unserved = tt; codes = tt; failing = tt; once = refl; aborts = refl; decided = record { cut = refl; cleared = refl; moved = refl }; silent = refl }, (record { cuts = refl; cleared = refl; ends = refl; deaths = tt; faults = tt; failures = refl; operations = refl; unserved = tt; codes = tt; failing = tt; once = refl; aborts = refl; decided = record { cut = refl; cleared = refl; moved = refl }; silent = refl }, (record { cuts = refl; cleared = refl; ends = refl; deaths = tt; faults = tt; failures = refl; operations = refl; unserved = tt; codes = tt; failing = tt; once = refl; aborts = refl; decided = record { cut = refl; cleared = refl; moved = refl }; silent = refl }, (record { cuts = refl; cleared = refl; ends = refl; deaths = tt; faults = tt; failures = refl; operations = refl; unserved = tt; codes = tt; failing = tt; once = refl; aborts = refl; decided = record { cut = refl; cleared = refl; moved = refl }; silent = refl }, tt))))))); aborted = (tt, (tt, (tt, (tt, (tt, (tt, (tt, (tt, (tt, (tt, (tt, (tt, (tt, (tt, (tt, (tt, tt)))))))))))))))) }

dead_short_otherwise : CauseLaw journals.one_disk (rare.orb_answered 0 (quad_bytes (0 ∷ 0 ∷ 0 ∷ 0 ∷ 0 ∷ 0 ∷ [])) (rare.dies_of causes.Refused kinds.Failed)) → ⊥
unfolding reading fault_of tcode_of header_of offset_of rcode_of value_of length_of extended_of three four part_of is_to is_same asked_by begun_by belongs start_at lowest_from label_for free_from count_flying lowest_flying label_of with_label is_write kind_of slot_of window_at is_fifo point_step doorbell_step reset_step abort_step reply_step lost_step refusal verdict request_of check_of blank_bytes command_kind elements_from made block_head decide reads_eui live_login response_bytes start_step reply_step_of_manager decide_step fresh_id left_for enter_step back_step leave_step
dead_short_otherwise = λ law. let bad = law.causes.0.ends in cc bad

dead_illegal : CauseLaw journals.one_disk (rare.orb_answered 0 rare.format_1 (rare.dies_of causes.Grammar (kinds.Illegal 1)))
unfolding reading fault_of tcode_of header_of offset_of rcode_of value_of length_of extended_of three four part_of is_to is_same asked_by begun_by belongs start_at lowest_from label_for free_from count_flying lowest_flying label_of with_label is_write kind_of slot_of window_at is_fifo point_step doorbell_step reset_step abort_step reply_step lost_step refusal verdict request_of check_of blank_bytes command_kind elements_from made block_head decide reads_eui live_login response_bytes start_step reply_step_of_manager decide_step fresh_id left_for enter_step back_step leave_step
dead_illegal = record { causes = (record { cuts = refl; cleared = refl; ends = refl; deaths = (refl, tt); faults = (refl, tt); failures = refl; operations = refl; unserved = tt; codes = (refl, tt); failing = tt; once = refl; aborts = refl; decided = record { cut = refl; cleared = refl; moved = refl }; silent = refl }, (record { cuts = refl; cleared = refl; ends = refl; deaths = tt; faults = tt; failures = refl; operations = refl; unserved = tt; codes = tt; failing = tt; once = refl; aborts = refl; decided = record { cut = refl; cleared = refl; moved = refl }; silent = refl }, (record { cuts = refl; cleared = refl; ends = refl; deaths = tt; faults = tt; failures = refl; operations = refl; unserved = tt; codes = tt; failing = tt; once = refl; aborts = refl; decided = record { cut = refl; cleared = refl; moved = refl }; silent = refl }, (record { cuts = refl; cleared = refl; ends = refl; deaths = tt; faults = tt; failures = refl; operations = refl; unserved = tt; codes = tt; failing = tt; once = refl; aborts = refl; decided = record { cut = refl; cleared = refl; moved = refl }; silent = refl }, (record { cuts = refl; cleared = refl; ends = refl; deaths = tt; faults = tt; failures = refl; operations = refl; unserved = tt; codes = tt; failing = tt; once = refl; aborts = refl; decided = record { cut = refl; cleared = refl; moved = refl }; silent = refl }, (record { cuts = refl; cleared = refl; ends = refl; deaths = tt; faults = tt; failures = refl; operations = refl; unserved = tt; codes = tt; failing = tt; once = refl; aborts = refl; decided = record { cut = refl; cleared = refl; moved = refl }; silent = refl }, (record { cuts = refl; cleared = refl; ends = refl; deaths = tt; faults = tt; failures = refl; operations = refl; unserved = tt; codes = tt; failing = tt; once = refl; aborts = refl; decided = record { cut = refl; cleared = refl; moved = refl }; silent = refl }, tt))))))); aborted = (tt, (tt, (tt, (tt, (tt, (tt, (tt, (tt, (tt, (tt, (tt, (tt, (tt, (tt, (tt, (tt, tt)))))))))))))))) }

illegal_fails : CauseLaw journals.one_disk (rare.orb_answered 0 rare.format_1 (rare.dies_of causes.Grammar kinds.Failed)) → ⊥
unfolding reading fault_of tcode_of header_of offset_of rcode_of value_of length_of extended_of three four part_of is_to is_same asked_by begun_by belongs start_at lowest_from label_for free_from count_flying lowest_flying label_of with_label is_write kind_of slot_of window_at is_fifo point_step doorbell_step reset_step abort_step reply_step lost_step refusal verdict request_of check_of blank_bytes command_kind elements_from made block_head decide reads_eui live_login response_bytes start_step reply_step_of_manager decide_step fresh_id left_for enter_step back_step leave_step
illegal_fails = λ law. let bad = law.causes.0.ends in cc bad

illegal_otherwise : CauseLaw journals.one_disk (rare.orb_answered 0 rare.format_1 (rare.dies_of causes.Grammar (kinds.Illegal 3))) → ⊥
unfolding reading fault_of tcode_of header_of offset_of rcode_of value_of length_of extended_of three four part_of is_to is_same asked_by begun_by belongs start_at lowest_from label_for free_from count_flying lowest_flying label_of with_label is_write kind_of slot_of window_at is_fifo point_step doorbell_step reset_step abort_step reply_step lost_step refusal verdict request_of check_of blank_bytes command_kind elements_from made block_head decide reads_eui live_login response_bytes start_step reply_step_of_manager decide_step fresh_id left_for enter_step back_step leave_step
illegal_otherwise = λ law. let bad : 3 ≡ 1 = ap last_meaning law.causes.0.ends in omega (arith, bad)

illegal_lives : CauseLaw journals.one_disk (rare.orb_answered 0 rare.format_1 (notes.Ended 0 (Some 0) (Some 0) (kinds.Illegal 1) ∷ [])) → ⊥
unfolding reading fault_of tcode_of header_of offset_of rcode_of value_of length_of extended_of three four part_of is_to is_same asked_by begun_by belongs start_at lowest_from label_for free_from count_flying lowest_flying label_of with_label is_write kind_of slot_of window_at is_fifo point_step doorbell_step reset_step abort_step reply_step lost_step refusal verdict request_of check_of blank_bytes command_kind elements_from made block_head decide reads_eui live_login response_bytes start_step reply_step_of_manager decide_step fresh_id left_for enter_step back_step leave_step
illegal_lives = λ law. let bad = law.causes.0.ends in cc bad

dummy_lives : CauseLaw journals.one_disk (rare.orb_answered 0 rare.dummy_bytes (notes.Ended 0 (Some 0) (Some 0) kinds.Dummy ∷ []))
unfolding reading fault_of tcode_of header_of offset_of rcode_of value_of length_of extended_of three four part_of is_to is_same asked_by begun_by belongs start_at lowest_from label_for free_from count_flying lowest_flying label_of with_label is_write kind_of slot_of window_at is_fifo point_step doorbell_step reset_step abort_step reply_step lost_step refusal verdict request_of check_of blank_bytes command_kind elements_from made block_head decide reads_eui live_login response_bytes start_step reply_step_of_manager decide_step fresh_id left_for enter_step back_step leave_step
dummy_lives = record { causes = (record { cuts = refl; cleared = refl; ends = refl; deaths = tt; faults = tt; failures = refl; operations = refl; unserved = tt; codes = tt; failing = tt; once = refl; aborts = refl; decided = record { cut = refl; cleared = refl; moved = refl }; silent = refl }, (record { cuts = refl; cleared = refl; ends = refl; deaths = tt; faults = tt; failures = refl; operations = refl; unserved = tt; codes = tt; failing = tt; once = refl; aborts = refl; decided = record { cut = refl; cleared = refl; moved = refl }; silent = refl }, (record { cuts = refl; cleared = refl; ends = refl; deaths = tt; faults = tt; failures = refl; operations = refl; unserved = tt; codes = tt; failing = tt; once = refl; aborts = refl; decided = record { cut = refl; cleared = refl; moved = refl }; silent = refl }, (record { cuts = refl; cleared = refl; ends = refl; deaths = tt; faults = tt; failures = refl; operations = refl; unserved = tt; codes = tt; failing = tt; once = refl; aborts = refl; decided = record { cut = refl; cleared = refl; moved = refl }; silent = refl }, (record { cuts = refl; cleared = refl; ends = refl; deaths = tt; faults = tt; failures = refl; operations = refl; unserved = tt; codes = tt; failing = tt; once = refl; aborts = refl; decided = record { cut = refl; cleared = refl; moved = refl }; silent = refl }, (record { cuts = refl; cleared = refl; ends = refl; deaths = tt; faults = tt; failures = refl; operations = refl; unserved = tt; codes = tt; failing = tt; once = refl; aborts = refl; decided = record { cut = refl; cleared = refl; moved = refl }; silent = refl }, (record { cuts = refl; cleared = refl; ends = refl; deaths = tt; faults = tt; failures = refl; operations = refl; unserved = tt; codes = tt; failing = tt; once = refl; aborts = refl; decided = record { cut = refl; cleared = refl; moved = refl }; silent = refl }, tt))))))); aborted = (tt, (tt, (tt, (tt, (tt, (tt, (tt, (tt, (tt, (tt, (tt, (tt, (tt, (tt, (tt, tt))))))))))))))) }

dummy_dies : CauseLaw journals.one_disk (rare.orb_answered 0 rare.dummy_bytes (rare.dies_of causes.Grammar kinds.Dummy)) → ⊥
unfolding reading fault_of tcode_of header_of offset_of rcode_of value_of length_of extended_of three four part_of is_to is_same asked_by begun_by belongs start_at lowest_from label_for free_from count_flying lowest_flying label_of with_label is_write kind_of slot_of window_at is_fifo point_step doorbell_step reset_step abort_step reply_step lost_step refusal verdict request_of check_of blank_bytes command_kind elements_from made block_head decide reads_eui live_login response_bytes start_step reply_step_of_manager decide_step fresh_id left_for enter_step back_step leave_step
dummy_dies = λ law. let bad = law.causes.0.ends in cc bad

management_times_out : CauseLaw journals.one_disk (rare.management_times_out (rare.management_fails causes.Timeout))
unfolding reading fault_of tcode_of header_of offset_of rcode_of value_of length_of extended_of three four part_of is_to is_same asked_by begun_by belongs start_at lowest_from label_for free_from count_flying lowest_flying label_of with_label is_write kind_of slot_of window_at is_fifo point_step doorbell_step reset_step abort_step reply_step lost_step refusal verdict request_of check_of blank_bytes command_kind elements_from made block_head decide reads_eui live_login response_bytes start_step reply_step_of_manager decide_step fresh_id left_for enter_step back_step leave_step
management_times_out = record { causes = (record { cuts = refl; cleared = refl; ends = refl; deaths = tt; faults = tt; failures = refl; operations = refl; unserved = tt; codes = tt; failing = (refl, tt); once = refl; aborts = refl; decided = record { cut = refl; cleared = refl; moved = refl }; silent = refl }, (record { cuts = refl; cleared = refl; ends = refl; deaths = tt; faults = tt; failures = refl; operations = refl; unserved = tt; codes = tt; failing = tt; once = refl; aborts = refl; decided = record { cut = refl; cleared = refl; moved = refl }; silent = refl }, (record { cuts = refl; cleared = refl; ends = refl; deaths = tt; faults = tt; failures = refl; operations = refl; unserved = tt; codes = tt; failing = tt; once = refl; aborts = refl; decided = record { cut = refl; cleared = refl; moved = refl }; silent = refl }, (record { cuts = refl; cleared = refl; ends = refl; deaths = tt; faults = tt; failures = refl; operations = refl; unserved = tt; codes = tt; failing = tt; once = refl; aborts = refl; decided = record { cut = refl; cleared = refl; moved = refl }; silent = refl }, (record { cuts = refl; cleared = refl; ends = refl; deaths = tt; faults = tt; failures = refl; operations = refl; unserved = tt; codes = tt; failing = tt; once = refl; aborts = refl; decided = record { cut = refl; cleared = refl; moved = refl }; silent = refl }, (record { cuts = refl; cleared = refl; ends = refl; deaths = tt; faults = tt; failures = refl; operations = refl; unserved = tt; codes = tt; failing = tt; once = refl; aborts = refl; decided = record { cut = refl; cleared = refl; moved = refl }; silent = refl }, tt)))))); aborted = (tt, (tt, (tt, (tt, (tt, (tt, (tt, (tt, (tt, (tt, (tt, tt))))))))))) }

management_goes_on : CauseLaw journals.one_disk (rare.management_times_out []) → ⊥
unfolding reading fault_of tcode_of header_of offset_of rcode_of value_of length_of extended_of three four part_of is_to is_same asked_by begun_by belongs start_at lowest_from label_for free_from count_flying lowest_flying label_of with_label is_write kind_of slot_of window_at is_fifo point_step doorbell_step reset_step abort_step reply_step lost_step refusal verdict request_of check_of blank_bytes command_kind elements_from made block_head decide reads_eui live_login response_bytes start_step reply_step_of_manager decide_step fresh_id left_for enter_step back_step leave_step
management_goes_on = λ law. let bad = law.causes.0.failures in cc bad

management_fails_otherwise : CauseLaw journals.one_disk (rare.management_times_out (rare.management_fails causes.Label)) → ⊥
unfolding reading fault_of tcode_of header_of offset_of rcode_of value_of length_of extended_of three four part_of is_to is_same asked_by begun_by belongs start_at lowest_from label_for free_from count_flying lowest_flying label_of with_label is_write kind_of slot_of window_at is_fifo point_step doorbell_step reset_step abort_step reply_step lost_step refusal verdict request_of check_of blank_bytes command_kind elements_from made block_head decide reads_eui live_login response_bytes start_step reply_step_of_manager decide_step fresh_id left_for enter_step back_step leave_step
management_fails_otherwise = λ law. let bad = law.causes.0.failures in cc bad

management_refused : CauseLaw journals.one_disk (rare.management_answered 7 [] (rare.management_fails causes.Refused))
unfolding reading fault_of tcode_of header_of offset_of rcode_of value_of length_of extended_of three four part_of is_to is_same asked_by begun_by belongs start_at lowest_from label_for free_from count_flying lowest_flying label_of with_label is_write kind_of slot_of window_at is_fifo point_step doorbell_step reset_step abort_step reply_step lost_step refusal verdict request_of check_of blank_bytes command_kind elements_from made block_head decide reads_eui live_login response_bytes start_step reply_step_of_manager decide_step fresh_id left_for enter_step back_step leave_step
management_refused = record { causes = (record { cuts = refl; cleared = refl; ends = refl; deaths = tt; faults = tt; failures = refl; operations = refl; unserved = tt; codes = tt; failing = (refl, tt); once = refl; aborts = refl; decided = record { cut = refl; cleared = refl; moved = refl }; silent = refl }, (record { cuts = refl; cleared = refl; ends = refl; deaths = tt; faults = tt; failures = refl; operations = refl; unserved = tt; codes = tt; failing = tt; once = refl; aborts = refl; decided = record { cut = refl; cleared = refl; moved = refl }; silent = refl }, (record { cuts = refl; cleared = refl; ends = refl; deaths = tt; faults = tt; failures = refl; operations = refl; unserved = tt; codes = tt; failing = tt; once = refl; aborts = refl; decided = record { cut = refl; cleared = refl; moved = refl }; silent = refl }, (record { cuts = refl; cleared = refl; ends = refl; deaths = tt; faults = tt; failures = refl; operations = refl; unserved = tt; codes = tt; failing = tt; once = refl; aborts = refl; decided = record { cut = refl; cleared = refl; moved = refl }; silent = refl }, (record { cuts = refl; cleared = refl; ends = refl; deaths = tt; faults = tt; failures = refl; operations = refl; unserved = tt; codes = tt; failing = tt; once = refl; aborts = refl; decided = record { cut = refl; cleared = refl; moved = refl }; silent = refl }, (record { cuts = refl; cleared = refl; ends = refl; deaths = tt; faults = tt; failures = refl; operations = refl; unserved = tt; codes = tt; failing = tt; once = refl; aborts = refl; decided = record { cut = refl; cleared = refl; moved = refl }; silent = refl }, (record { cuts = refl; cleared = refl; ends = refl; deaths = tt; faults = tt; failures = refl; operations = refl; unserved = tt; codes = tt; failing = tt; once = refl; aborts = refl; decided = record { cut = refl; cleared = refl; moved = refl }; silent = refl }, (record { cuts = refl; cleared = refl; ends = refl; deaths = tt; faults = tt; failures = refl; operations = refl; unserved = tt; codes = tt; failing = tt; once = refl; aborts = refl; decided = record { cut = refl; cleared = refl; moved = refl }; silent = refl }, tt)))))))); aborted = (tt, (tt, (tt, (tt, (tt, (tt, (tt, (tt, (tt, (tt, (tt, (tt, (tt, (tt, tt)))))))))))))) }

management_refused_otherwise : CauseLaw journals.one_disk (rare.management_answered 7 [] (rare.management_fails causes.Grammar)) → ⊥
unfolding reading fault_of tcode_of header_of offset_of rcode_of value_of length_of extended_of three four part_of is_to is_same asked_by begun_by belongs start_at lowest_from label_for free_from count_flying lowest_flying label_of with_label is_write kind_of slot_of window_at is_fifo point_step doorbell_step reset_step abort_step reply_step lost_step refusal verdict request_of check_of blank_bytes command_kind elements_from made block_head decide reads_eui live_login response_bytes start_step reply_step_of_manager decide_step fresh_id left_for enter_step back_step leave_step
management_refused_otherwise = λ law. let bad = law.causes.0.failures in cc bad

management_short : CauseLaw journals.one_disk (rare.management_answered 0 (quad_bytes (0 ∷ 0 ∷ 0 ∷ 0 ∷ 0 ∷ 0 ∷ [])) (rare.management_fails causes.Grammar))
unfolding reading fault_of tcode_of header_of offset_of rcode_of value_of length_of extended_of three four part_of is_to is_same asked_by begun_by belongs start_at lowest_from label_for free_from count_flying lowest_flying label_of with_label is_write kind_of slot_of window_at is_fifo point_step doorbell_step reset_step abort_step reply_step lost_step refusal verdict request_of check_of blank_bytes command_kind elements_from made block_head decide reads_eui live_login response_bytes start_step reply_step_of_manager decide_step fresh_id left_for enter_step back_step leave_step
management_short = record { causes = (record { cuts = refl; cleared = refl; ends = refl; deaths = tt; faults = tt; failures = refl; operations = refl; unserved = tt; codes = tt; failing = (refl, tt); once = refl; aborts = refl; decided = record { cut = refl; cleared = refl; moved = refl }; silent = refl }, (record { cuts = refl; cleared = refl; ends = refl; deaths = tt; faults = tt; failures = refl; operations = refl; unserved = tt; codes = tt; failing = tt; once = refl; aborts = refl; decided = record { cut = refl; cleared = refl; moved = refl }; silent = refl }, (record { cuts = refl; cleared = refl; ends = refl; deaths = tt; faults = tt; failures = refl; operations = refl; unserved = tt; codes = tt; failing = tt; once = refl; aborts = refl; decided = record { cut = refl; cleared = refl; moved = refl }; silent = refl }, (record { cuts = refl; cleared = refl; ends = refl; deaths = tt; faults = tt; failures = refl; operations = refl; unserved = tt; codes = tt; failing = tt; once = refl; aborts = refl; decided = record { cut = refl; cleared = refl; moved = refl }; silent = refl }, (record { cuts = refl; cleared = refl; ends = refl; deaths = tt; faults = tt; failures = refl; operations = refl; unserved = tt; codes = tt; failing = tt; once = refl; aborts = refl; decided = record { cut = refl; cleared = refl; moved = refl }; silent = refl }, (record { cuts = refl; cleared = refl; ends = refl; deaths = tt; faults = tt; failures = refl; operations = refl; unserved = tt; codes = tt; failing = tt; once = refl; aborts = refl; decided = record { cut = refl; cleared = refl; moved = refl }; silent = refl }, (record { cuts = refl; cleared = refl; ends = refl; deaths = tt; faults = tt; failures = refl; operations = refl; unserved = tt; codes = tt; failing = tt; once = refl; aborts = refl; decided = record { cut = refl; cleared = refl; moved = refl }; silent = refl }, (record { cuts = refl; cleared = refl; ends = refl; deaths = tt; faults = tt; failures = refl; operations = refl; unserved = tt; codes = tt; failing = tt; once = refl; aborts = refl; decided = record { cut = refl; cleared = refl; moved = refl }; silent = refl }, tt)))))))); aborted = (tt, (tt, (tt, (tt, (tt, (tt, (tt, (tt, (tt, (tt, (tt, (tt, (tt, (tt, tt)))))))))))))) }

management_short_otherwise : CauseLaw journals.one_disk (rare.management_answered 0 (quad_bytes (0 ∷ 0 ∷ 0 ∷ 0 ∷ 0 ∷ 0 ∷ [])) (rare.management_fails causes.Refused)) → ⊥
unfolding reading fault_of tcode_of header_of offset_of rcode_of value_of length_of extended_of three four part_of is_to is_same asked_by begun_by belongs start_at lowest_from label_for free_from count_flying lowest_flying label_of with_label is_write kind_of slot_of window_at is_fifo point_step doorbell_step reset_step abort_step reply_step lost_step refusal verdict request_of check_of blank_bytes command_kind elements_from made block_head decide reads_eui live_login response_bytes start_step reply_step_of_manager decide_step fresh_id left_for enter_step back_step leave_step
management_short_otherwise = λ law. let bad = law.causes.0.failures in cc bad

aborted_left_out : CauseLaw journals.one_disk refused.aborted_left_out → ⊥
unfolding reading fault_of tcode_of header_of offset_of rcode_of value_of length_of extended_of three four part_of is_to is_same asked_by begun_by belongs start_at lowest_from label_for free_from count_flying lowest_flying label_of with_label is_write kind_of slot_of window_at is_fifo point_step doorbell_step reset_step abort_step reply_step lost_step refusal verdict request_of check_of blank_bytes command_kind elements_from made block_head decide reads_eui live_login response_bytes start_step reply_step_of_manager decide_step fresh_id left_for enter_step back_step leave_step
aborted_left_out = λ law. let bad = law.causes.0.ends in cc bad

aborts_behind_sight : CauseLaw journals.one_disk runs.abort_behind_sight
unfolding reading fault_of tcode_of header_of offset_of rcode_of value_of length_of extended_of three four part_of is_to is_same asked_by begun_by belongs start_at lowest_from label_for free_from count_flying lowest_flying label_of with_label is_write kind_of slot_of window_at is_fifo point_step doorbell_step reset_step abort_step reply_step lost_step refusal verdict request_of check_of blank_bytes command_kind elements_from made block_head decide reads_eui live_login response_bytes start_step reply_step_of_manager decide_step fresh_id left_for enter_step back_step leave_step
aborts_behind_sight = record { causes = (record { cuts = refl; cleared = refl; ends = refl; deaths = tt; faults = tt; failures = refl; operations = refl; unserved = tt; codes = tt; failing = tt; once = refl; aborts = refl; decided = record { cut = refl; cleared = refl; moved = refl }; silent = refl }, (record { cuts = refl; cleared = refl; ends = refl; deaths = tt; faults = tt; failures = refl; operations = refl; unserved = tt; codes = tt; failing = tt; once = refl; aborts = refl; decided = record { cut = refl; cleared = refl; moved = refl }; silent = refl }, (record { cuts = refl; cleared = refl; ends = refl; deaths = tt; faults = tt; failures = refl; operations = refl; unserved = tt; codes = tt; failing = tt; once = refl; aborts = refl; decided = record { cut = refl; cleared = refl; moved = refl }; silent = refl }, (record { cuts = refl; cleared = refl; ends = refl; deaths = tt; faults = tt; failures = refl; operations = refl; unserved = tt; codes = tt; failing = tt; once = refl; aborts = refl; decided = record { cut = refl; cleared = refl; moved = refl }; silent = refl }, (record { cuts = refl; cleared = refl; ends = refl; deaths = tt; faults = tt; failures = refl; operations = refl; unserved = tt; codes = tt; failing = tt; once = refl; aborts = refl; decided = record { cut = refl; cleared = refl; moved = refl }; silent = refl }, (record { cuts = refl; cleared = refl; ends = refl; deaths = tt; faults = tt; failures = refl; operations = refl; unserved = tt; codes = tt; failing = tt; once = refl; aborts = refl; decided = record { cut = refl; cleared = refl; moved = refl }; silent = refl }, (record { cuts = refl; cleared = refl; ends = refl; deaths = tt; faults = tt; failures = refl; operations = refl; unserved = tt; codes = tt; failing = tt; once = refl; aborts = refl; decided = record { cut = refl; cleared = refl; moved = refl }; silent = refl }, (record { cuts = refl; cleared = refl; ends = refl; deaths = tt; faults = tt; failures = refl; operations = refl; unserved = tt; codes = tt; failing = tt; once = refl; aborts = refl; decided = record { cut = refl; cleared = refl; moved = refl }; silent = refl }, (record { cuts = refl; cleared = refl; ends = refl; deaths = tt; faults = tt; failures = refl; operations = refl; unserved = tt; codes = tt; failing = tt; once = refl; aborts = refl; decided = record { cut = refl; cleared = refl; moved = refl }; silent = refl }, (record { cuts = refl; cleared = refl; ends = refl; deaths = tt; faults = tt; failures = refl; operations = refl; unserved = tt; codes = tt; failing = tt; once = refl; aborts = refl; decided = record { cut = refl; cleared = refl; moved = refl }; silent = refl }, (record { cuts = refl; cleared = refl; ends = refl; deaths = tt; faults = tt; failures = refl; operations = refl; unserved = tt; codes = tt; failing = tt; once = refl; aborts = refl; decided = record { cut = refl; cleared = refl; moved = refl }; silent = refl }, (record { cuts = refl; cleared = refl; ends = refl; deaths = tt; faults = tt; failures = refl; operations = refl; unserved = tt; codes = tt; failing = tt; once = refl; aborts = refl; decided = record { cut = refl; cleared = refl; moved = refl }; silent = refl }, (record { cuts = refl; cleared = refl; ends = refl; deaths = tt; faults = tt; failures = refl; operations = refl; unserved = tt; codes = tt; failing = tt; once = refl; aborts = refl; decided = record { cut = refl; cleared = refl; moved = refl }; silent = refl }, (record { cuts = refl; cleared = refl; ends = refl; deaths = tt; faults = tt; failures = refl; operations = refl; unserved = tt; codes = tt; failing = tt; once = refl; aborts = refl; decided = record { cut = refl; cleared = refl; moved = refl }; silent = refl }, (record { cuts = refl; cleared = refl; ends = refl; deaths = tt; faults = tt; failures = refl; operations = refl; unserved = tt; codes = tt; failing = tt; once = refl; aborts = refl; decided = record { cut = refl; cleared = refl; moved = refl }; silent = refl }, (record { cuts = refl; cleared = refl; ends = refl; deaths = tt; faults = tt; failures = refl; operations = refl; unserved = tt; codes = tt; failing = tt; once = refl; aborts = refl; decided = record { cut = refl; cleared = refl; moved = refl }; silent = refl }, (record { cuts = refl; cleared = refl; ends = refl; deaths = tt; faults = tt; failures = refl; operations = refl; unserved = tt; codes = tt; failing = tt; once = refl; aborts = refl; decided = record { cut = refl; cleared = refl; moved = refl }; silent = refl }, (record { cuts = refl; cleared = refl; ends = refl; deaths = tt; faults = tt; failures = refl; operations = refl; unserved = tt; codes = tt; failing = tt; once = refl; aborts = refl; decided = record { cut = refl; cleared = refl; moved = refl }; silent = refl }, (record { cuts = refl; cleared = refl; ends = refl; deaths = tt; faults = tt; failures = refl; operations = refl; unserved = tt; codes = tt; failing = tt; once = refl; aborts = refl; decided = record { cut = refl; cleared = refl; moved = refl }; silent = refl }, (record { cuts = refl; cleared = refl; ends = refl; deaths = tt; faults = tt; failures = refl; operations = refl; unserved = tt; codes = tt; failing = tt; once = refl; aborts = refl; decided = record { cut = refl; cleared = refl; moved = refl }; silent = refl }, (record { cuts = refl; cleared = refl; ends = refl; deaths = tt; faults = tt; failures = refl; operations = refl; unserved = tt; codes = tt; failing = tt; once = refl; aborts = refl; decided = record { cut = refl; cleared = refl; moved = refl }; silent = refl }, (record { cuts = refl; cleared = refl; ends = refl; deaths = tt; faults = tt; failures = refl; operations = refl; unserved = tt; codes = tt; failing = tt; once = refl; aborts = refl; decided = record { cut = refl; cleared = refl; moved = refl }; silent = refl }, (record { cuts = refl; cleared = refl; ends = refl; deaths = tt; faults = tt; failures = refl; operations = refl; unserved = tt; codes = tt; failing = tt; once = refl; aborts = refl; decided = record { cut = refl; cleared = refl; moved = refl }; silent = refl }, (record { cuts = refl; cleared = refl; ends = refl; deaths = tt; faults = tt; failures = refl; operations = refl; unserved = tt; codes = tt; failing = tt; once = refl; aborts = refl; decided = record { cut = refl; cleared = refl; moved = refl }; silent = refl }, (record { cuts = refl; cleared = refl; ends = refl; deaths = tt; faults = tt; failures = refl; operations = refl; unserved = tt; codes = tt; failing = tt; once = refl; aborts = refl; decided = record { cut = refl; cleared = refl; moved = refl }; silent = refl }, tt))))))))))))))))))))))))); aborted = (tt, (tt, (tt, (tt, (tt, (tt, (tt, (refl, (tt, (tt, (tt, (tt, (tt, (tt, (tt, (tt, (tt, (tt, (tt, (tt, (tt, (tt, (tt, (tt, (tt, (tt, (tt, (tt, (tt, (tt, (tt, (tt, (tt, (tt, (tt, (tt, (tt, (tt, (tt, (tt, (tt, (tt, (tt, (tt, (tt, (tt, tt)))))))))))))))))))))))))))))))))))))))))))))) }

aborted_left_out_behind_sight : CauseLaw journals.one_disk refused.aborted_left_out_behind_sight → ⊥
unfolding reading fault_of tcode_of header_of offset_of rcode_of value_of length_of extended_of three four part_of is_to is_same asked_by begun_by belongs start_at lowest_from label_for free_from count_flying lowest_flying label_of with_label is_write kind_of slot_of window_at is_fifo point_step doorbell_step reset_step abort_step reply_step lost_step refusal verdict request_of check_of blank_bytes command_kind elements_from made block_head decide reads_eui live_login response_bytes start_step reply_step_of_manager decide_step fresh_id left_for enter_step back_step leave_step
aborted_left_out_behind_sight = λ law. let bad = law.causes.0.ends in cc bad

aborts_behind_time_out : CauseLaw journals.one_disk (runs.abort_behind_time_out 0)
unfolding reading fault_of tcode_of header_of offset_of rcode_of value_of length_of extended_of three four part_of is_to is_same asked_by begun_by belongs start_at lowest_from label_for free_from count_flying lowest_flying label_of with_label is_write kind_of slot_of window_at is_fifo point_step doorbell_step reset_step abort_step reply_step lost_step refusal verdict request_of check_of blank_bytes command_kind elements_from made block_head decide reads_eui live_login response_bytes start_step reply_step_of_manager decide_step fresh_id left_for enter_step back_step leave_step
aborts_behind_time_out = record { causes = (record { cuts = refl; cleared = refl; ends = refl; deaths = tt; faults = tt; failures = refl; operations = refl; unserved = tt; codes = tt; failing = tt; once = refl; aborts = refl; decided = record { cut = refl; cleared = refl; moved = refl }; silent = refl }, (record { cuts = refl; cleared = refl; ends = refl; deaths = tt; faults = tt; failures = refl; operations = refl; unserved = tt; codes = tt; failing = tt; once = refl; aborts = refl; decided = record { cut = refl; cleared = refl; moved = refl }; silent = refl }, (record { cuts = refl; cleared = refl; ends = refl; deaths = tt; faults = tt; failures = refl; operations = refl; unserved = tt; codes = tt; failing = tt; once = refl; aborts = refl; decided = record { cut = refl; cleared = refl; moved = refl }; silent = refl }, (record { cuts = refl; cleared = refl; ends = refl; deaths = tt; faults = tt; failures = refl; operations = refl; unserved = tt; codes = tt; failing = tt; once = refl; aborts = refl; decided = record { cut = refl; cleared = refl; moved = refl }; silent = refl }, (record { cuts = refl; cleared = refl; ends = refl; deaths = tt; faults = tt; failures = refl; operations = refl; unserved = tt; codes = tt; failing = tt; once = refl; aborts = refl; decided = record { cut = refl; cleared = refl; moved = refl }; silent = refl }, (record { cuts = refl; cleared = refl; ends = refl; deaths = tt; faults = tt; failures = refl; operations = refl; unserved = tt; codes = tt; failing = tt; once = refl; aborts = refl; decided = record { cut = refl; cleared = refl; moved = refl }; silent = refl }, (record { cuts = refl; cleared = refl; ends = refl; deaths = tt; faults = tt; failures = refl; operations = refl; unserved = tt; codes = tt; failing = tt; once = refl; aborts = refl; decided = record { cut = refl; cleared = refl; moved = refl }; silent = refl }, (record { cuts = refl; cleared = refl; ends = refl; deaths = tt; faults = tt; failures = refl; operations = refl; unserved = tt; codes = tt; failing = tt; once = refl; aborts = refl; decided = record { cut = refl; cleared = refl; moved = refl }; silent = refl }, (record { cuts = refl; cleared = refl; ends = refl; deaths = tt; faults = tt; failures = refl; operations = refl; unserved = tt; codes = tt; failing = tt; once = refl; aborts = refl; decided = record { cut = refl; cleared = refl; moved = refl }; silent = refl }, (record { cuts = refl; cleared = refl; ends = refl; deaths = tt; faults = tt; failures = refl; operations = refl; unserved = tt; codes = tt; failing = tt; once = refl; aborts = refl; decided = record { cut = refl; cleared = refl; moved = refl }; silent = refl }, (record { cuts = refl; cleared = refl; ends = refl; deaths = tt; faults = tt; failures = refl; operations = refl; unserved = tt; codes = tt; failing = tt; once = refl; aborts = refl; decided = record { cut = refl; cleared = refl; moved = refl }; silent = refl }, (record { cuts = refl; cleared = refl; ends = refl; deaths = tt; faults = tt; failures = refl; operations = refl; unserved = tt; codes = tt; failing = tt; once = refl; aborts = refl; decided = record { cut = refl; cleared = refl; moved = refl }; silent = refl }, (record { cuts = refl; cleared = refl; ends = refl; deaths = tt; faults = tt; failures = refl; operations = refl; unserved = tt; codes = tt; failing = tt; once = refl; aborts = refl; decided = record { cut = refl; cleared = refl; moved = refl }; silent = refl }, (record { cuts = refl; cleared = refl; ends = refl; deaths = tt; faults = tt; failures = refl; operations = refl; unserved = tt; codes = tt; failing = tt; once = refl; aborts = refl; decided = record { cut = refl; cleared = refl; moved = refl }; silent = refl }, (record { cuts = refl; cleared = refl; ends = refl; deaths = tt; faults = tt; failures = refl; operations = refl; unserved = tt; codes = tt; failing = tt; once = refl; aborts = refl; decided = record { cut = refl; cleared = refl; moved = refl }; silent = refl }, (record { cuts = refl; cleared = refl; ends = refl; deaths = tt; faults = tt; failures = refl; operations = refl; unserved = tt; codes = tt; failing = tt; once = refl; aborts = refl; decided = record { cut = refl; cleared = refl; moved = refl }; silent = refl }, (record { cuts = refl; cleared = refl; ends = refl; deaths = tt; faults = tt; failures = refl; operations = refl; unserved = tt; codes = tt; failing = tt; once = refl; aborts = refl; decided = record { cut = refl; cleared = refl; moved = refl }; silent = refl }, (record { cuts = refl; cleared = refl; ends = refl; deaths = tt; faults = tt; failures = refl; operations = refl; unserved = tt; codes = tt; failing = tt; once = refl; aborts = refl; decided = record { cut = refl; cleared = refl; moved = refl }; silent = refl }, (record { cuts = refl; cleared = refl; ends = refl; deaths = tt; faults = tt; failures = refl; operations = refl; unserved = tt; codes = tt; failing = tt; once = refl; aborts = refl; decided = record { cut = refl; cleared = refl; moved = refl }; silent = refl }, (record { cuts = refl; cleared = refl; ends = refl; deaths = tt; faults = tt; failures = refl; operations = refl; unserved = tt; codes = tt; failing = tt; once = refl; aborts = refl; decided = record { cut = refl; cleared = refl; moved = refl }; silent = refl }, (record { cuts = refl; cleared = refl; ends = refl; deaths = tt; faults = tt; failures = refl; operations = refl; unserved = tt; codes = tt; failing = tt; once = refl; aborts = refl; decided = record { cut = refl; cleared = refl; moved = refl }; silent = refl }, (record { cuts = refl; cleared = refl; ends = refl; deaths = tt; faults = tt; failures = refl; operations = refl; unserved = tt; codes = tt; failing = tt; once = refl; aborts = refl; decided = record { cut = refl; cleared = refl; moved = refl }; silent = refl }, (record { cuts = refl; cleared = refl; ends = refl; deaths = tt; faults = tt; failures = refl; operations = refl; unserved = tt; codes = tt; failing = tt; once = refl; aborts = refl; decided = record { cut = refl; cleared = refl; moved = refl }; silent = refl }, (record { cuts = refl; cleared = refl; ends = refl; deaths = tt; faults = tt; failures = refl; operations = refl; unserved = tt; codes = tt; failing = tt; once = refl; aborts = refl; decided = record { cut = refl; cleared = refl; moved = refl }; silent = refl }, (record { cuts = refl; cleared = refl; ends = refl; deaths = tt; faults = tt; failures = refl; operations = refl; unserved = tt; codes = tt; failing = tt; once = refl; aborts = refl; decided = record { cut = refl; cleared = refl; moved = refl }; silent = refl }, tt))))))))))))))))))))))))); aborted = (tt, (tt, (tt, (tt, (tt, (tt, (tt, (refl, (tt, (tt, (tt, (tt, (tt, (tt, (tt, (tt, (tt, (tt, (tt, (tt, (tt, (tt, (tt, (tt, (tt, (tt, (tt, (tt, (tt, (tt, (tt, (tt, (tt, (tt, (tt, (tt, (tt, (tt, (tt, (tt, (tt, (tt, (tt, (tt, (tt, (tt, (tt, tt))))))))))))))))))))))))))))))))))))))))))))))) }

dead_at_pointer : CauseLaw journals.one_disk (refused.reread_times_out refused.dies_by)
unfolding reading fault_of tcode_of header_of offset_of rcode_of value_of length_of extended_of three four part_of is_to is_same asked_by begun_by belongs start_at lowest_from label_for free_from count_flying lowest_flying label_of with_label is_write kind_of slot_of window_at is_fifo point_step doorbell_step reset_step abort_step reply_step lost_step refusal verdict request_of check_of blank_bytes command_kind elements_from made block_head decide reads_eui live_login response_bytes start_step reply_step_of_manager decide_step fresh_id left_for enter_step back_step leave_step
dead_at_pointer = record { causes = (record { cuts = refl; cleared = refl; ends = refl; deaths = (refl, tt); faults = tt; failures = refl; operations = refl; unserved = tt; codes = tt; failing = tt; once = refl; aborts = refl; decided = record { cut = refl; cleared = refl; moved = refl }; silent = refl }, (record { cuts = refl; cleared = refl; ends = refl; deaths = tt; faults = tt; failures = refl; operations = refl; unserved = tt; codes = tt; failing = tt; once = refl; aborts = refl; decided = record { cut = refl; cleared = refl; moved = refl }; silent = refl }, (record { cuts = refl; cleared = refl; ends = refl; deaths = tt; faults = tt; failures = refl; operations = refl; unserved = tt; codes = tt; failing = tt; once = refl; aborts = refl; decided = record { cut = refl; cleared = refl; moved = refl }; silent = refl }, (record { cuts = refl; cleared = refl; ends = refl; deaths = tt; faults = tt; failures = refl; operations = refl; unserved = tt; codes = tt; failing = tt; once = refl; aborts = refl; decided = record { cut = refl; cleared = refl; moved = refl }; silent = refl }, (record { cuts = refl; cleared = refl; ends = refl; deaths = tt; faults = tt; failures = refl; operations = refl; unserved = tt; codes = tt; failing = tt; once = refl; aborts = refl; decided = record { cut = refl; cleared = refl; moved = refl }; silent = refl }, (record { cuts = refl; cleared = refl; ends = refl; deaths = tt; faults = tt; failures = refl; operations = refl; unserved = tt; codes = tt; failing = tt; once = refl; aborts = refl; decided = record { cut = refl; cleared = refl; moved = refl }; silent = refl }, (record { cuts = refl; cleared = refl; ends = refl; deaths = tt; faults = tt; failures = refl; operations = refl; unserved = tt; codes = tt; failing = tt; once = refl; aborts = refl; decided = record { cut = refl; cleared = refl; moved = refl }; silent = refl }, (record { cuts = refl; cleared = refl; ends = refl; deaths = tt; faults = tt; failures = refl; operations = refl; unserved = tt; codes = tt; failing = tt; once = refl; aborts = refl; decided = record { cut = refl; cleared = refl; moved = refl }; silent = refl }, (record { cuts = refl; cleared = refl; ends = refl; deaths = tt; faults = tt; failures = refl; operations = refl; unserved = tt; codes = tt; failing = tt; once = refl; aborts = refl; decided = record { cut = refl; cleared = refl; moved = refl }; silent = refl }, (record { cuts = refl; cleared = refl; ends = refl; deaths = tt; faults = tt; failures = refl; operations = refl; unserved = tt; codes = tt; failing = tt; once = refl; aborts = refl; decided = record { cut = refl; cleared = refl; moved = refl }; silent = refl }, (record { cuts = refl; cleared = refl; ends = refl; deaths = tt; faults = tt; failures = refl; operations = refl; unserved = tt; codes = tt; failing = tt; once = refl; aborts = refl; decided = record { cut = refl; cleared = refl; moved = refl }; silent = refl }, (record { cuts = refl; cleared = refl; ends = refl; deaths = tt; faults = tt; failures = refl; operations = refl; unserved = tt; codes = tt; failing = tt; once = refl; aborts = refl; decided = record { cut = refl; cleared = refl; moved = refl }; silent = refl }, (record { cuts = refl; cleared = refl; ends = refl; deaths = tt; faults = tt; failures = refl; operations = refl; unserved = tt; codes = tt; failing = tt; once = refl; aborts = refl; decided = record { cut = refl; cleared = refl; moved = refl }; silent = refl }, (record { cuts = refl; cleared = refl; ends = refl; deaths = tt; faults = tt; failures = refl; operations = refl; unserved = tt; codes = tt; failing = tt; once = refl; aborts = refl; decided = record { cut = refl; cleared = refl; moved = refl }; silent = refl }, (record { cuts = refl; cleared = refl; ends = refl; deaths = tt; faults = tt; failures = refl; operations = refl; unserved = tt; codes = tt; failing = tt; once = refl; aborts = refl; decided = record { cut = refl; cleared = refl; moved = refl }; silent = refl }, tt))))))))))))))); aborted = (tt, (tt, (tt, (tt, (tt, (tt, (tt, (tt, (tt, (tt, (tt, (tt, (tt, (tt, (tt, (tt, (tt, (tt, (tt, (tt, (tt, (tt, (tt, (tt, (tt, (tt, (tt, (tt, (tt, (tt, (tt, (tt, tt)))))))))))))))))))))))))))))))) }

pointer_ends_an_orb : CauseLaw journals.one_disk (refused.reread_times_out (refused.dies_by ++ notes.Ended 0 (Some 0) (Some 0) kinds.Failed ∷ [])) → ⊥
unfolding reading fault_of tcode_of header_of offset_of rcode_of value_of length_of extended_of three four part_of is_to is_same asked_by begun_by belongs start_at lowest_from label_for free_from count_flying lowest_flying label_of with_label is_write kind_of slot_of window_at is_fifo point_step doorbell_step reset_step abort_step reply_step lost_step refusal verdict request_of check_of blank_bytes command_kind elements_from made block_head decide reads_eui live_login response_bytes start_step reply_step_of_manager decide_step fresh_id left_for enter_step back_step leave_step
pointer_ends_an_orb = λ law. let bad = law.causes.0.ends in cc bad

status_ends_again : CauseLaw journals.one_disk (refused.status_times_out (refused.dies_by ++ notes.Ended 0 (Some 0) (Some 0) kinds.Failed ∷ [])) → ⊥
unfolding reading fault_of tcode_of header_of offset_of rcode_of value_of length_of extended_of three four part_of is_to is_same asked_by begun_by belongs start_at lowest_from label_for free_from count_flying lowest_flying label_of with_label is_write kind_of slot_of window_at is_fifo point_step doorbell_step reset_step abort_step reply_step lost_step refusal verdict request_of check_of blank_bytes command_kind elements_from made block_head decide reads_eui live_login response_bytes start_step reply_step_of_manager decide_step fresh_id left_for enter_step back_step leave_step
status_ends_again = λ law. let bad = law.causes.0.ends in cc bad

untold_finds_no_label : CauseLaw rare.untold_disk (rare.untold (rare.dies_of causes.Label kinds.Failed)) → ⊥
unfolding reading fault_of tcode_of header_of offset_of rcode_of value_of length_of extended_of three four part_of is_to is_same asked_by begun_by belongs start_at lowest_from label_for free_from count_flying lowest_flying label_of with_label is_write kind_of slot_of window_at is_fifo point_step doorbell_step reset_step abort_step reply_step lost_step refusal verdict request_of check_of blank_bytes command_kind elements_from made block_head decide reads_eui live_login response_bytes start_step reply_step_of_manager decide_step fresh_id left_for enter_step back_step leave_step
untold_finds_no_label = λ law. let bad = law.causes.0.unserved.finds in cc bad

dead_label : CauseLaw journals.one_disk (rare.labels_gone (rare.dies_of causes.Label kinds.Failed))
unfolding reading fault_of tcode_of header_of offset_of rcode_of value_of length_of extended_of three four part_of is_to is_same asked_by begun_by belongs start_at lowest_from label_for free_from count_flying lowest_flying label_of with_label is_write kind_of slot_of window_at is_fifo point_step doorbell_step reset_step abort_step reply_step lost_step refusal verdict request_of check_of blank_bytes command_kind elements_from made block_head decide reads_eui live_login response_bytes start_step reply_step_of_manager decide_step fresh_id left_for enter_step back_step leave_step
dead_label = record { causes = (record { cuts = refl; cleared = refl; ends = refl; deaths = (refl, tt); faults = (refl, tt); failures = refl; operations = refl; unserved = tt; codes = tt; failing = tt; once = refl; aborts = refl; decided = record { cut = refl; cleared = refl; moved = refl }; silent = refl }, (record { cuts = refl; cleared = refl; ends = refl; deaths = tt; faults = tt; failures = refl; operations = refl; unserved = tt; codes = tt; failing = tt; once = refl; aborts = refl; decided = record { cut = refl; cleared = refl; moved = refl }; silent = refl }, (record { cuts = refl; cleared = refl; ends = refl; deaths = tt; faults = tt; failures = refl; operations = refl; unserved = tt; codes = tt; failing = tt; once = refl; aborts = refl; decided = record { cut = refl; cleared = refl; moved = refl }; silent = refl }, (record { cuts = refl; cleared = refl; ends = refl; deaths = tt; faults = tt; failures = refl; operations = refl; unserved = tt; codes = tt; failing = tt; once = refl; aborts = refl; decided = record { cut = refl; cleared = refl; moved = refl }; silent = refl }, tt)))); aborted = (tt, (tt, (tt, (tt, (tt, (tt, (tt, (tt, (tt, (tt, (tt, (tt, (tt, (tt, (tt, (tt, (tt, (tt, (tt, (tt, (tt, (tt, (tt, (tt, (tt, (tt, (tt, (tt, (tt, (tt, (tt, (tt, (tt, (tt, (tt, (tt, (tt, (tt, (tt, (tt, (tt, (tt, (tt, (tt, (tt, (tt, (tt, (tt, (tt, (tt, (tt, (tt, (tt, (tt, (tt, (tt, (tt, (tt, (tt, (tt, (tt, (tt, (tt, (tt, (tt, (tt, (tt, (tt, (tt, (tt, (tt, (tt, (tt, (tt, tt)))))))))))))))))))))))))))))))))))))))))))))))))))))))))))))))))))))))))) }

no_label_lives : CauseLaw journals.one_disk (rare.labels_gone []) → ⊥
unfolding reading fault_of tcode_of header_of offset_of rcode_of value_of length_of extended_of three four part_of is_to is_same asked_by begun_by belongs start_at lowest_from label_for free_from count_flying lowest_flying label_of with_label is_write kind_of slot_of window_at is_fifo point_step doorbell_step reset_step abort_step reply_step lost_step refusal verdict request_of check_of blank_bytes command_kind elements_from made block_head decide reads_eui live_login response_bytes start_step reply_step_of_manager decide_step fresh_id left_for enter_step back_step leave_step
no_label_lives = λ law. let bad = law.causes.0.ends in cc bad

management_without_label : CauseLaw journals.one_disk (rare.labels_gone_to_manager (rare.management_fails causes.Label))
unfolding reading fault_of tcode_of header_of offset_of rcode_of value_of length_of extended_of three four part_of is_to is_same asked_by begun_by belongs start_at lowest_from label_for free_from count_flying lowest_flying label_of with_label is_write kind_of slot_of window_at is_fifo point_step doorbell_step reset_step abort_step reply_step lost_step refusal verdict request_of check_of blank_bytes command_kind elements_from made block_head decide reads_eui live_login response_bytes start_step reply_step_of_manager decide_step fresh_id left_for enter_step back_step leave_step
management_without_label = record { causes = (record { cuts = refl; cleared = refl; ends = refl; deaths = tt; faults = tt; failures = refl; operations = refl; unserved = tt; codes = tt; failing = (refl, tt); once = refl; aborts = refl; decided = record { cut = refl; cleared = refl; moved = refl }; silent = refl }, (record { cuts = refl; cleared = refl; ends = refl; deaths = tt; faults = tt; failures = refl; operations = refl; unserved = tt; codes = tt; failing = tt; once = refl; aborts = refl; decided = record { cut = refl; cleared = refl; moved = refl }; silent = refl }, (record { cuts = refl; cleared = refl; ends = refl; deaths = tt; faults = tt; failures = refl; operations = refl; unserved = tt; codes = tt; failing = tt; once = refl; aborts = refl; decided = record { cut = refl; cleared = refl; moved = refl }; silent = refl }, (record { cuts = refl; cleared = refl; ends = refl; deaths = tt; faults = tt; failures = refl; operations = refl; unserved = tt; codes = tt; failing = tt; once = refl; aborts = refl; decided = record { cut = refl; cleared = refl; moved = refl }; silent = refl }, tt)))); aborted = (tt, (tt, (tt, (tt, (tt, (tt, (tt, (tt, (tt, (tt, (tt, (tt, (tt, (tt, (tt, (tt, (tt, (tt, (tt, (tt, (tt, (tt, (tt, (tt, (tt, (tt, (tt, (tt, (tt, (tt, (tt, (tt, (tt, (tt, (tt, (tt, (tt, (tt, (tt, (tt, (tt, (tt, (tt, (tt, (tt, (tt, (tt, (tt, (tt, (tt, (tt, (tt, (tt, (tt, (tt, (tt, (tt, (tt, (tt, (tt, (tt, (tt, (tt, (tt, (tt, (tt, (tt, (tt, (tt, (tt, (tt, tt))))))))))))))))))))))))))))))))))))))))))))))))))))))))))))))))))))))) }

management_waits_for_label : CauseLaw journals.one_disk (rare.labels_gone_to_manager []) → ⊥
unfolding reading fault_of tcode_of header_of offset_of rcode_of value_of length_of extended_of three four part_of is_to is_same asked_by begun_by belongs start_at lowest_from label_for free_from count_flying lowest_flying label_of with_label is_write kind_of slot_of window_at is_fifo point_step doorbell_step reset_step abort_step reply_step lost_step refusal verdict request_of check_of blank_bytes command_kind elements_from made block_head decide reads_eui live_login response_bytes start_step reply_step_of_manager decide_step fresh_id left_for enter_step back_step leave_step
management_waits_for_label = λ law. let bad = law.causes.0.failures in cc bad

good_orb_dies : DeathsHaveRows journals.one_disk (turn (journals.told journals.till_orb) (said (notes.Got 4)) refused.good_orb_dies) refused.good_orb_dies → ⊥
unfolding reading fault_of tcode_of header_of offset_of rcode_of value_of length_of extended_of three four part_of is_to is_same asked_by begun_by belongs start_at lowest_from label_for free_from count_flying lowest_flying label_of with_label is_write kind_of slot_of window_at is_fifo point_step doorbell_step reset_step abort_step reply_step lost_step refusal verdict request_of check_of blank_bytes command_kind elements_from made block_head decide reads_eui live_login response_bytes start_step reply_step_of_manager decide_step fresh_id left_for enter_step back_step leave_step
good_orb_dies = λ law. let bad = law.0 in cc bad

good_orb_illegal : IllegalsHaveCodes (illegal_in journals.one_disk (turn (journals.told journals.till_orb) (said (notes.Got 4)) refused.good_orb_dies)) refused.good_orb_dies → ⊥
unfolding reading fault_of tcode_of header_of offset_of rcode_of value_of length_of extended_of three four part_of is_to is_same asked_by begun_by belongs start_at lowest_from label_for free_from count_flying lowest_flying label_of with_label is_write kind_of slot_of window_at is_fifo point_step doorbell_step reset_step abort_step reply_step lost_step refusal verdict request_of check_of blank_bytes command_kind elements_from made block_head decide reads_eui live_login response_bytes start_step reply_step_of_manager decide_step fresh_id left_for enter_step back_step leave_step
good_orb_illegal = λ law. let bad = law.0 in cc bad

good_login_fails : FailuresHaveRows (target_at journals.one_disk (journals.told refused.login_read)) (turn (journals.told refused.login_read) (said (notes.Got 4)) refused.good_login_fails) refused.good_login_fails → ⊥
unfolding reading fault_of tcode_of header_of offset_of rcode_of value_of length_of extended_of three four part_of is_to is_same asked_by begun_by belongs start_at lowest_from label_for free_from count_flying lowest_flying label_of with_label is_write kind_of slot_of window_at is_fifo point_step doorbell_step reset_step abort_step reply_step lost_step refusal verdict request_of check_of blank_bytes command_kind elements_from made block_head decide reads_eui live_login response_bytes start_step reply_step_of_manager decide_step fresh_id left_for enter_step back_step leave_step
good_login_fails = λ law. let bad = law.0 in cc bad

pub tried : CauseTried
tried = record { good_orb_dies = good_orb_dies; good_orb_illegal = good_orb_illegal; good_login_fails = good_login_fails; accepts = accepts; dead_at_time_out = dead_at_time_out; death_left_out = death_left_out; dead_twice = dead_twice; dead_at_an_orb = dead_at_an_orb; aborted_unasked = aborted_unasked; stuck_at_time_out = stuck_at_time_out; stuck_left_out = stuck_left_out; state_ends = state_ends; state_ends_well = state_ends_well; state_ends_never = state_ends_never; drops_at_reset = drops_at_reset; drop_left_out = drop_left_out; unit_is_reset = unit_is_reset; cut_of_other_left_out = cut_of_other_left_out; own_list_cut = own_list_cut; cleared_left_out = cleared_left_out; abort_set_cuts = abort_set_cuts; abort_set_cuts_not = abort_set_cuts_not; logout_cuts = logout_cuts; logout_cuts_otherwise = logout_cuts_otherwise; target_is_reset = target_is_reset; target_reset_clears_not = target_reset_clears_not; agent_reset_cuts_not = agent_reset_cuts_not; agent_reset_drops_not = agent_reset_drops_not; operation_ends_otherwise = operation_ends_otherwise; reset_cuts_both = reset_cuts_both; reset_cuts_one = reset_cuts_one; cuts_out_of_order = cuts_out_of_order; dead_refused = dead_refused; refusal_passes = refusal_passes; refused_otherwise = refused_otherwise; dead_short = dead_short; dead_short_otherwise = dead_short_otherwise; dead_illegal = dead_illegal; illegal_fails = illegal_fails; illegal_otherwise = illegal_otherwise; illegal_lives = illegal_lives; dummy_lives = dummy_lives; dummy_dies = dummy_dies; management_times_out = management_times_out; management_goes_on = management_goes_on; management_fails_otherwise = management_fails_otherwise; management_refused = management_refused; management_refused_otherwise = management_refused_otherwise; management_short = management_short; management_short_otherwise = management_short_otherwise; aborted_left_out = aborted_left_out; aborts_behind_sight = aborts_behind_sight; aborted_left_out_behind_sight = aborted_left_out_behind_sight; aborts_behind_time_out = aborts_behind_time_out; dead_at_pointer = dead_at_pointer; pointer_ends_an_orb = pointer_ends_an_orb; status_ends_again = status_ends_again; untold_finds_no_label = untold_finds_no_label; dead_label = dead_label; no_label_lives = no_label_lives; management_without_label = management_without_label; management_waits_for_label = management_waits_for_label }
