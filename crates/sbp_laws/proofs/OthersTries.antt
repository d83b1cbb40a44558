-- The runs of a wild initiator that the laws for the others were tried on.
use Rattle.std.proofs.Common.{◌≤◌, [], ◌∷◌, ◌++◌, refl, inr, arith}
use Rattle.std.specs.Prelude.{None, Some, true, slice_index_or}
use Rattle.rbc_command.specs.SenseData.{no_command}
use Rattle.sbp_journal.specs.Run.{history}
use Rattle.orb_layout.specs.StatusBlocks.{status_bytes}
use Rattle.async_packet.specs.Packet.{write_block, write_response, read_block, read_block_response, read_quadlet_response}
use Rattle.async_packet.specs.Canon.{canon}
use Rattle.sbp_laws.specs.Turns.{EachMoment, EachTurn}
use Rattle.sbp_laws.specs.Lawful.{FormAt, Lawful, LawfulForOthers, injectors, nobody}
use Rattle.sbp_laws.specs.Journals as journals
use Rattle.sbp_laws.specs.RareRuns as rare
use Rattle.sbp_laws.specs.Refused as refused
use Rattle.sbp_laws.specs.Tried.{OthersTried}
use Rattle.sbp_laws.specs.OnceLaw.{OnceLaw}
use Rattle.sbp_laws.specs.OrderLaw.{OrderLaw}
use Rattle.sbp_laws.specs.ExecutionLaw.{ExecutionLaw}
use Rattle.sbp_laws.specs.StatusLaw.{StatusLaw, TakesEach}
use Rattle.sbp_laws.specs.AnswerLaw.{AnswerLaw}
use Rattle.sbp_laws.specs.CarriedLaw.{CarriedLaw, EndsAsRead}
use Rattle.sbp_laws.specs.CauseLaw.{CauseLaw}
use Rattle.sbp_laws.specs.JudgementLaw.{JudgementLaw}
use Rattle.sbp_laws.specs.LoginLaw.{LoginLaw}
use Rattle.sbp_laws.specs.MediaLaw.{MediaLaw}
use Rattle.sbp_laws.specs.ActionLaw.{ActionLaw}
use Rattle.sbp_laws.specs.SentPackets.{SentAt}
use Rattle.sbp_laws.specs.SentAnswers.{AnswersLaw}
use Rattle.sbp_laws.specs.SentRequests.{RequestsLaw}
use Rattle.sbp_laws.specs.SentWrites.{DecisionsAreSent, StatusesAreSent}
use Rattle.sbp_laws.specs.Unasked.{NoneUnasked}
use Rattle.sbp_laws.specs.SentLaw.{AfterTurn, SentLaw}
use Rattle.sbp_laws.proofs.Forms.{typed}
use Rattle.async_packet.specs.Reading.{reading}
use Rattle.async_packet.specs.Faults.{fault_of}
use Rattle.async_packet.specs.Fields.{tcode_of, header_of, offset_of, rcode_of, value_of, length_of, extended_of}
use Rattle.async_packet.specs.Canon.{three, four}
use Rattle.sbp_journal.specs.Transactions.{part_of, is_to, is_same, asked_by, begun_by, belongs}
use Rattle.sbp_journal.specs.Addresses.{start_at}
use Rattle.sbp_laws.specs.Packets.{lowest_from, label_for, free_from}
use Rattle.sbp_laws.specs.Budget.{count_flying, lowest_flying}
use Rattle.label_table.specs.Requests.{label_of, with_label, is_write, kind_of}
use Rattle.bus_memory.specs.Windows.{slot_of, window_at, is_fifo}
use Rattle.command_agent.specs.Steps.{point_step, doorbell_step, reset_step, abort_step, reply_step, lost_step}
use Rattle.command_agent.specs.Checks.{refusal, verdict}
use Rattle.rbc_disk.specs.Requests.{request_of}
use Rattle.rbc_disk.specs.Checks.{check_of}
use Rattle.rbc_disk.specs.Disk.{blank_bytes}
use Rattle.orb_layout.specs.StatusBlocks.{command_kind}
use Rattle.page_table.specs.Elements.{elements_from}
use Rattle.config_rom.specs.Make.{made}
use Rattle.config_rom.specs.Sum.{sum_of, low_bits}
use Rattle.media_bay.specs.Unsolicited.{block_head}
use Rattle.mgmt_agent.specs.Decisions.{decide, reads_eui, live_login, response_bytes}
use Rattle.mgmt_agent.specs.Machine.{start_step, reply_step as reply_step_of_manager, decide_step}
use Rattle.login_table.specs.Table.{fresh_id, left_for, enter_step, back_step, leave_step}
use Rattle.orb_layout.specs.declared.status.StatusKind.TheVariants as kinds
use Rattle.orb_layout.specs.declared.ask.FailCause.TheVariants as causes
use Rattle.sbp_journal.specs.declared.cause.Cause.TheVariants as ignored
use Rattle.sbp_journal.specs.declared.note.Note.TheVariants as notes

six_of_many : 6 ≤ 1204
six_of_many = omega arith

dies_form : EachMoment FormAt (history (rare.wild_run rare.wild_dies).entries)
unfolding reading fault_of tcode_of header_of offset_of rcode_of value_of length_of extended_of three four part_of is_to is_same asked_by begun_by belongs start_at lowest_from label_for free_from count_flying lowest_flying label_of with_label is_write kind_of slot_of window_at is_fifo point_step doorbell_step reset_step abort_step reply_step lost_step refusal verdict request_of check_of blank_bytes command_kind elements_from made block_head decide reads_eui live_login response_bytes start_step reply_step_of_manager decide_step fresh_id left_for enter_step back_step leave_step
dies_form = ((tt, typed (notes.Settled) refl), ((tt, typed (notes.Got 6) refl), ((tt, typed (notes.Sent 6 0 1 0 (journals.done_by_first 0)) refl), ((tt, typed (notes.Ignored 5 ignored.Slot) refl), ((tt, typed (notes.Sent 5 0 0 1 rare.wild_status) refl), ((tt, typed (notes.Ended 0 None None kinds.Failed) refl), ((tt, typed (notes.Dead 0 None causes.Refused) refl), ((tt, typed (notes.Got 4) refl), ((tt, typed (notes.Sent 4 0 1 0 (canon (read_block_response (journals.to_target 0) 7 []))) refl), ((tt, typed (notes.Got 3) refl), ((tt, typed (notes.Ignored 2 ignored.Label) refl), ((tt, typed (notes.Sent 3 0 0 1 (journals.fetch_packet 0 0x00001000)) refl), ((tt, typed (notes.Sent 2 0 0 1 (journals.done_by_target 0 0)) refl), ((tt, typed (notes.Got 1) refl), (tt, ((tt, typed (notes.Sent 1 0 1 0 rare.wild_pointer) refl), ((tt, typed (notes.Injected 1) refl), (tt, ((tt, typed (notes.Begin 2 true) refl), (tt, tt))))))))))))))))))))

dies_once : OnceLaw (injectors (history (rare.wild_run rare.wild_dies).entries)) (history (rare.wild_run rare.wild_dies).entries)
unfolding reading fault_of tcode_of header_of offset_of rcode_of value_of length_of extended_of three four part_of is_to is_same asked_by begun_by belongs start_at lowest_from label_for free_from count_flying lowest_flying label_of with_label is_write kind_of slot_of window_at is_fifo point_step doorbell_step reset_step abort_step reply_step lost_step refusal verdict request_of check_of blank_bytes command_kind elements_from made block_head decide reads_eui live_login response_bytes start_step reply_step_of_manager decide_step fresh_id left_for enter_step back_step leave_step
dies_once = (tt, ((λ e. refl, λ e. record { once = refl; served = refl }), (tt, (λ e. refl, (tt, (tt, (tt, ((λ e. refl, λ e. record { once = refl; served = refl }), (tt, ((λ e. refl, tt), (λ e. refl, (tt, (tt, ((λ e. refl, tt), (tt, (tt, (tt, (tt, (tt, (tt, tt))))))))))))))))))))

dies_order : OrderLaw (injectors (history (rare.wild_run rare.wild_dies).entries)) (history (rare.wild_run rare.wild_dies).entries)
unfolding reading fault_of tcode_of header_of offset_of rcode_of value_of length_of extended_of three four part_of is_to is_same asked_by begun_by belongs start_at lowest_from label_for free_from count_flying lowest_flying label_of with_label is_write kind_of slot_of window_at is_fifo point_step doorbell_step reset_step abort_step reply_step lost_step refusal verdict request_of check_of blank_bytes command_kind elements_from made block_head decide reads_eui live_login response_bytes start_step reply_step_of_manager decide_step fresh_id left_for enter_step back_step leave_step
dies_order = (tt, (tt, (tt, (tt, (tt, (refl, (tt, (tt, (tt, (tt, (tt, (tt, (tt, (tt, (tt, (tt, (tt, (tt, (tt, (tt, tt))))))))))))))))))))

dies_execution : ExecutionLaw (injectors (history (rare.wild_run rare.wild_dies).entries)) (rare.wild_run rare.wild_dies).start (history (rare.wild_run rare.wild_dies).entries)
unfolding reading fault_of tcode_of header_of offset_of rcode_of value_of length_of extended_of three four part_of is_to is_same asked_by begun_by belongs start_at lowest_from label_for free_from count_flying lowest_flying label_of with_label is_write kind_of slot_of window_at is_fifo point_step doorbell_step reset_step abort_step reply_step lost_step refusal verdict request_of check_of blank_bytes command_kind elements_from made block_head decide reads_eui live_login response_bytes start_step reply_step_of_manager decide_step fresh_id left_for enter_step back_step leave_step
dies_execution = (tt, (tt, (tt, (tt, (tt, (tt, (tt, (tt, (tt, (tt, (tt, (tt, (tt, (tt, (tt, (tt, (tt, (tt, (tt, (tt, tt))))))))))))))))))))

dies_status : StatusLaw (injectors (history (rare.wild_run rare.wild_dies).entries)) (history (rare.wild_run rare.wild_dies).entries)
unfolding reading fault_of tcode_of header_of offset_of rcode_of value_of length_of extended_of three four part_of is_to is_same asked_by begun_by belongs start_at lowest_from label_for free_from count_flying lowest_flying label_of with_label is_write kind_of slot_of window_at is_fifo point_step doorbell_step reset_step abort_step reply_step lost_step refusal verdict request_of check_of blank_bytes command_kind elements_from made block_head decide reads_eui live_login response_bytes start_step reply_step_of_manager decide_step fresh_id left_for enter_step back_step leave_step
dies_status = record { taken = (tt, (tt, (tt, (tt, (tt, (tt, (tt, (tt, (tt, (tt, (tt, (tt, (tt, (tt, (tt, (tt, (tt, (tt, (tt, (tt, tt)))))))))))))))))))); each = (refl, (refl, (refl, (refl, (refl, (refl, (refl, (refl, (refl, (refl, tt)))))))))) }

dies_answer : AnswerLaw (injectors (history (rare.wild_run rare.wild_dies).entries)) (rare.wild_run rare.wild_dies).start (history (rare.wild_run rare.wild_dies).entries)
unfolding reading fault_of tcode_of header_of offset_of rcode_of value_of length_of extended_of three four part_of is_to is_same asked_by begun_by belongs start_at lowest_from label_for free_from count_flying lowest_flying label_of with_label is_write kind_of slot_of window_at is_fifo point_step doorbell_step reset_step abort_step reply_step lost_step refusal verdict request_of check_of blank_bytes command_kind elements_from made block_head decide reads_eui live_login response_bytes start_step reply_step_of_manager decide_step fresh_id left_for enter_step back_step leave_step
dies_answer = (tt, (tt, (tt, (tt, (tt, (tt, (tt, (tt, (tt, (tt, (tt, (tt, (tt, (tt, (tt, (tt, (tt, (tt, (tt, (tt, tt))))))))))))))))))))

dies_carried : CarriedLaw (injectors (history (rare.wild_run rare.wild_dies).entries)) (rare.wild_run rare.wild_dies).start (history (rare.wild_run rare.wild_dies).entries)
unfolding reading fault_of tcode_of header_of offset_of rcode_of value_of length_of extended_of three four part_of is_to is_same asked_by begun_by belongs start_at lowest_from label_for free_from count_flying lowest_flying label_of with_label is_write kind_of slot_of window_at is_fifo point_step doorbell_step reset_step abort_step reply_step lost_step refusal verdict request_of check_of blank_bytes command_kind elements_from made block_head decide reads_eui live_login response_bytes start_step reply_step_of_manager decide_step fresh_id left_for enter_step back_step leave_step
dies_carried = record { carried = (tt, (tt, (tt, (tt, (tt, (tt, (tt, (tt, (tt, (tt, (tt, (tt, (tt, (tt, (tt, (tt, (tt, (tt, (tt, (tt, tt)))))))))))))))))))); due = (refl, (refl, (refl, (refl, (refl, (refl, (refl, (refl, (refl, (refl, tt)))))))))) }

dies_cause : CauseLaw (rare.wild_run rare.wild_dies).start (history (rare.wild_run rare.wild_dies).entries)
unfolding reading fault_of tcode_of header_of offset_of rcode_of value_of length_of extended_of three four part_of is_to is_same asked_by begun_by belongs start_at lowest_from label_for free_from count_flying lowest_flying label_of with_label is_write kind_of slot_of window_at is_fifo point_step doorbell_step reset_step abort_step reply_step lost_step refusal verdict request_of check_of blank_bytes command_kind elements_from made block_head decide reads_eui live_login response_bytes start_step reply_step_of_manager decide_step fresh_id left_for enter_step back_step leave_step
dies_cause = record { causes = (record { cuts = refl; cleared = refl; ends = refl; deaths = tt; faults = tt; failures = refl; operations = refl; unserved = tt; codes = tt; failing = tt; once = refl; aborts = refl; decided = record { cut = refl; cleared = refl; moved = refl }; silent = refl }, (record { cuts = refl; cleared = refl; ends = refl; deaths = tt; faults = tt; failures = refl; operations = refl; unserved = tt; codes = tt; failing = tt; once = refl; aborts = refl; decided = record { cut = refl; cleared = refl; moved = refl }; silent = refl }, (record { cuts = refl; cleared = refl; ends = refl; deaths = tt; faults = tt; failures = refl; operations = refl; unserved = tt; codes = tt; failing = tt; once = refl; aborts = refl; decided = record { cut = refl; cleared = refl; moved = refl }; silent = refl }, (record { cuts = refl; cleared = refl; ends = refl; deaths = (refl, tt); faults = (refl, tt); failures = refl; operations = refl; unserved = tt; codes = tt; failing = tt; once = refl; aborts = refl; decided = record { cut = refl; cleared = refl; moved = refl }; silent = refl }, (record { cuts = refl; cleared = refl; ends = refl; deaths = tt; faults = tt; failures = refl; operations = refl; unserved = tt; codes = tt; failing = tt; once = refl; aborts = refl; decided = record { cut = refl; cleared = refl; moved = refl }; silent = refl }, (record { cuts = refl; cleared = refl; ends = refl; deaths = tt; faults = tt; failures = refl; operations = refl; unserved = tt; codes = tt; failing = tt; once = refl; aborts = refl; decided = record { cut = refl; cleared = refl; moved = refl }; silent = refl }, (record { cuts = refl; cleared = refl; ends = refl; deaths = tt; faults = tt; failures = refl; operations = refl; unserved = tt; codes = tt; failing = tt; once = refl; aborts = refl; decided = record { cut = refl; cleared = refl; moved = refl }; silent = refl }, (record { cuts = refl; cleared = refl; ends = refl; deaths = tt; faults = tt; failures = refl; operations = refl; unserved = tt; codes = tt; failing = tt; once = refl; aborts = refl; decided = record { cut = refl; cleared = refl; moved = refl }; silent = refl }, (record { cuts = refl; cleared = refl; ends = refl; deaths = tt; faults = tt; failures = refl; operations = refl; unserved = tt; codes = tt; failing = tt; once = refl; aborts = refl; decided = record { cut = refl; cleared = refl; moved = refl }; silent = refl }, (record { cuts = refl; cleared = refl; ends = refl; deaths = tt; faults = tt; failures = refl; operations = refl; unserved = tt; codes = tt; failing = tt; once = refl; aborts = refl; decided = record { cut = refl; cleared = refl; moved = refl }; silent = refl }, tt)))))))))); aborted = (tt, (tt, (tt, (tt, (tt, (tt, (tt, (tt, (tt, (tt, (tt, (tt, (tt, (tt, (tt, (tt, (tt, (tt, (tt, (tt, tt)))))))))))))))))))) }

dies_judged : JudgementLaw (rare.wild_run rare.wild_dies).start (history (rare.wild_run rare.wild_dies).entries)
unfolding reading fault_of tcode_of header_of offset_of rcode_of value_of length_of extended_of three four part_of is_to is_same asked_by begun_by belongs start_at lowest_from label_for free_from count_flying lowest_flying label_of with_label is_write kind_of slot_of window_at is_fifo point_step doorbell_step reset_step abort_step reply_step lost_step refusal verdict request_of check_of blank_bytes command_kind elements_from made block_head decide reads_eui live_login response_bytes start_step reply_step_of_manager decide_step fresh_id left_for enter_step back_step leave_step
dies_judged = (tt, (refl, ((refl, refl), (refl, (refl, ((refl, refl), (refl, (tt, (tt, (tt, tt))))))))))

dies_login : LoginLaw (rare.wild_run rare.wild_dies).start (history (rare.wild_run rare.wild_dies).entries)
unfolding reading fault_of tcode_of header_of offset_of rcode_of value_of length_of extended_of three four part_of is_to is_same asked_by begun_by belongs start_at lowest_from label_for free_from count_flying lowest_flying label_of with_label is_write kind_of slot_of window_at is_fifo point_step doorbell_step reset_step abort_step reply_step lost_step refusal verdict request_of check_of blank_bytes command_kind elements_from made block_head decide reads_eui live_login response_bytes start_step reply_step_of_manager decide_step fresh_id left_for enter_step back_step leave_step
dies_login = (record { rows = tt; decisions = refl; logins = refl }, (record { rows = tt; decisions = refl; logins = refl }, (record { rows = tt; decisions = refl; logins = refl }, (record { rows = tt; decisions = refl; logins = refl }, (record { rows = tt; decisions = refl; logins = refl }, (record { rows = tt; decisions = refl; logins = refl }, (record { rows = tt; decisions = refl; logins = refl }, (record { rows = tt; decisions = refl; logins = refl }, (record { rows = tt; decisions = refl; logins = refl }, (record { rows = tt; decisions = refl; logins = refl }, tt))))))))))

dies_media : MediaLaw (rare.wild_run rare.wild_dies).start (history (rare.wild_run rare.wild_dies).entries)
unfolding reading fault_of tcode_of header_of offset_of rcode_of value_of length_of extended_of three four part_of is_to is_same asked_by begun_by belongs start_at lowest_from label_for free_from count_flying lowest_flying label_of with_label is_write kind_of slot_of window_at is_fifo point_step doorbell_step reset_step abort_step reply_step lost_step refusal verdict request_of check_of blank_bytes command_kind elements_from made block_head decide reads_eui live_login response_bytes start_step reply_step_of_manager decide_step fresh_id left_for enter_step back_step leave_step
dies_media = (record { pushes = refl; told = refl }, (record { pushes = refl; told = refl }, (record { pushes = refl; told = refl }, (record { pushes = refl; told = refl }, (record { pushes = refl; told = refl }, (record { pushes = refl; told = refl }, (record { pushes = refl; told = refl }, (record { pushes = refl; told = refl }, (record { pushes = refl; told = refl }, (record { pushes = refl; told = refl }, tt))))))))))

dies_packets : EachMoment SentAt (history (rare.wild_run rare.wild_dies).entries)
unfolding reading fault_of tcode_of header_of offset_of rcode_of value_of length_of extended_of three four part_of is_to is_same asked_by begun_by belongs start_at lowest_from label_for free_from count_flying lowest_flying label_of with_label is_write kind_of slot_of window_at is_fifo point_step doorbell_step reset_step abort_step reply_step lost_step refusal verdict request_of check_of blank_bytes command_kind elements_from made block_head decide reads_eui live_login response_bytes start_step reply_step_of_manager decide_step fresh_id left_for enter_step back_step leave_step
dies_packets = (tt, (tt, ((refl, λ e. record { in_generation = refl; spelled = record { packet = write_response (journals.to_target 0) 0; canonical = refl; retry = refl; priority = refl; source = refl; destination = refl }; label = tt }), (tt, ((refl, λ e. record { in_generation = refl; spelled = record { packet = write_block (journals.to_first 0) 0x13000000 (status_bytes (record { src = 1; kind = kinds.Failed; orb = 0x00001000 })); canonical = refl; retry = refl; priority = refl; source = refl; destination = refl }; label = refl }), (tt, (tt, (tt, ((refl, λ e. record { in_generation = refl; spelled = record { packet = read_block_response (journals.to_target 0) 7 []; canonical = refl; retry = refl; priority = refl; source = refl; destination = refl }; label = tt }), (tt, (tt, ((refl, λ e. record { in_generation = refl; spelled = record { packet = read_block (journals.to_first 0) 0x00001000 32; canonical = refl; retry = refl; priority = refl; source = refl; destination = refl }; label = refl }), ((refl, λ e. record { in_generation = refl; spelled = record { packet = write_response (journals.to_first 0) 0; canonical = refl; retry = refl; priority = refl; source = refl; destination = refl }; label = tt }), (tt, (tt, ((refl, λ e. absurd (cc e)), (tt, (tt, (tt, (tt, tt))))))))))))))))))))

dies_answers : EachTurn (AnswersLaw (rare.wild_run rare.wild_dies).start) (history (rare.wild_run rare.wild_dies).entries)
unfolding reading fault_of tcode_of header_of offset_of rcode_of value_of length_of extended_of three four part_of is_to is_same asked_by begun_by belongs start_at lowest_from label_for free_from count_flying lowest_flying label_of with_label is_write kind_of slot_of window_at is_fifo point_step doorbell_step reset_step abort_step reply_step lost_step refusal verdict request_of check_of blank_bytes command_kind elements_from made block_head decide reads_eui live_login response_bytes start_step reply_step_of_manager decide_step fresh_id left_for enter_step back_step leave_step
dies_answers = (tt, (tt, (tt, (tt, ((refl, tt), (tt, ((refl, tt), (tt, (tt, (tt, tt))))))))))

dies_requests : EachTurn (RequestsLaw (rare.wild_run rare.wild_dies).start) (history (rare.wild_run rare.wild_dies).entries)
unfolding reading fault_of tcode_of header_of offset_of rcode_of value_of length_of extended_of three four part_of is_to is_same asked_by begun_by belongs start_at lowest_from label_for free_from count_flying lowest_flying label_of with_label is_write kind_of slot_of window_at is_fifo point_step doorbell_step reset_step abort_step reply_step lost_step refusal verdict request_of check_of blank_bytes command_kind elements_from made block_head decide reads_eui live_login response_bytes start_step reply_step_of_manager decide_step fresh_id left_for enter_step back_step leave_step
dies_requests = (λ e. tt, (λ e. tt, (λ e. cc e, (λ e. (record { number = refl; in_generation = refl; sender = refl; receiver = refl; label = refl; spelled = refl }, tt), (λ e. tt, (λ e. tt, (λ e. (record { number = refl; in_generation = refl; sender = refl; receiver = refl; label = refl; spelled = refl }, tt), (λ e. tt, (λ e. cc e, (λ e. tt, tt))))))))))

dies_statuses : EachTurn (StatusesAreSent (rare.wild_run rare.wild_dies).start) (history (rare.wild_run rare.wild_dies).entries)
unfolding reading fault_of tcode_of header_of offset_of rcode_of value_of length_of extended_of three four part_of is_to is_same asked_by begun_by belongs start_at lowest_from label_for free_from count_flying lowest_flying label_of with_label is_write kind_of slot_of window_at is_fifo point_step doorbell_step reset_step abort_step reply_step lost_step refusal verdict request_of check_of blank_bytes command_kind elements_from made block_head decide reads_eui live_login response_bytes start_step reply_step_of_manager decide_step fresh_id left_for enter_step back_step leave_step
dies_statuses = (refl, (refl, (refl, (refl, (refl, (refl, (refl, (refl, (refl, (refl, tt))))))))))

dies_decisions : EachTurn (DecisionsAreSent (rare.wild_run rare.wild_dies).start) (history (rare.wild_run rare.wild_dies).entries)
unfolding reading fault_of tcode_of header_of offset_of rcode_of value_of length_of extended_of three four part_of is_to is_same asked_by begun_by belongs start_at lowest_from label_for free_from count_flying lowest_flying label_of with_label is_write kind_of slot_of window_at is_fifo point_step doorbell_step reset_step abort_step reply_step lost_step refusal verdict request_of check_of blank_bytes command_kind elements_from made block_head decide reads_eui live_login response_bytes start_step reply_step_of_manager decide_step fresh_id left_for enter_step back_step leave_step
dies_decisions = (refl, (refl, (refl, (refl, (refl, (refl, (refl, (refl, (refl, (refl, tt))))))))))

dies_asked : EachMoment (NoneUnasked (rare.wild_run rare.wild_dies).start) (history (rare.wild_run rare.wild_dies).entries)
unfolding reading fault_of tcode_of header_of offset_of rcode_of value_of length_of extended_of three four part_of is_to is_same asked_by begun_by belongs start_at lowest_from label_for free_from count_flying lowest_flying label_of with_label is_write kind_of slot_of window_at is_fifo point_step doorbell_step reset_step abort_step reply_step lost_step refusal verdict request_of check_of blank_bytes command_kind elements_from made block_head decide reads_eui live_login response_bytes start_step reply_step_of_manager decide_step fresh_id left_for enter_step back_step leave_step
dies_asked = (tt, (tt, (tt, (tt, (tt, (tt, (tt, (tt, (tt, (tt, (tt, (tt, (tt, (tt, (tt, (tt, (tt, (tt, (tt, (tt, tt))))))))))))))))))))

dies_after : EachTurn (AfterTurn (rare.wild_run rare.wild_dies).start) (history (rare.wild_run rare.wild_dies).entries)
unfolding reading fault_of tcode_of header_of offset_of rcode_of value_of length_of extended_of three four part_of is_to is_same asked_by begun_by belongs start_at lowest_from label_for free_from count_flying lowest_flying label_of with_label is_write kind_of slot_of window_at is_fifo point_step doorbell_step reset_step abort_step reply_step lost_step refusal verdict request_of check_of blank_bytes command_kind elements_from made block_head decide reads_eui live_login response_bytes start_step reply_step_of_manager decide_step fresh_id left_for enter_step back_step leave_step
dies_after = (record { agents = (tt, (tt, (tt, (tt, (tt, (tt, (tt, (tt, tt)))))))); management = tt; roms = (tt, (tt, tt)) }, (record { agents = (tt, (tt, (tt, (tt, (tt, (tt, (tt, (tt, tt)))))))); management = tt; roms = (tt, (tt, tt)) }, (record { agents = (tt, (tt, (tt, (tt, (tt, (tt, (tt, (tt, tt)))))))); management = tt; roms = (tt, (tt, tt)) }, (record { agents = (tt, (tt, (tt, (tt, (tt, (tt, (tt, (tt, tt)))))))); management = tt; roms = (tt, (tt, tt)) }, (record { agents = (refl, (tt, (tt, (tt, (tt, (tt, (tt, (tt, tt)))))))); management = tt; roms = (tt, (tt, tt)) }, (record { agents = (refl, (tt, (tt, (tt, (tt, (tt, (tt, (tt, tt)))))))); management = tt; roms = (tt, (tt, tt)) }, (record { agents = (refl, (tt, (tt, (tt, (tt, (tt, (tt, (tt, tt)))))))); management = tt; roms = (tt, (tt, tt)) }, (record { agents = (tt, (tt, (tt, (tt, (tt, (tt, (tt, (tt, tt)))))))); management = tt; roms = (tt, (tt, tt)) }, (record { agents = (tt, (tt, (tt, (tt, (tt, (tt, (tt, (tt, tt)))))))); management = tt; roms = (tt, (tt, tt)) }, (record { agents = (tt, (tt, (tt, (tt, (tt, (tt, (tt, (tt, tt)))))))); management = tt; roms = (tt, (tt, tt)) }, tt))))))))))

dies_action : ActionLaw (rare.wild_run rare.wild_dies).start (rare.wild_run rare.wild_dies).entries
unfolding reading fault_of tcode_of header_of offset_of rcode_of value_of length_of extended_of three four part_of is_to is_same asked_by begun_by belongs start_at lowest_from label_for free_from count_flying lowest_flying label_of with_label is_write kind_of slot_of window_at is_fifo point_step doorbell_step reset_step abort_step reply_step lost_step refusal verdict request_of check_of blank_bytes command_kind elements_from made block_head decide reads_eui live_login response_bytes start_step reply_step_of_manager decide_step fresh_id left_for enter_step back_step leave_step
dies_action = record { brings = (record { before = rare.wild_notes rare.wild_dies ++ notes.Ignored 5 ignored.Slot ∷ notes.Sent 6 0 1 0 (journals.done_by_first 0) ∷ notes.Got 6 ∷ []; last = notes.Settled; is = refl; delivers = record { begins = tt; lowest = (refl, (refl, (refl, (refl, (refl, (refl, (refl, (refl, (refl, (refl, (refl, (refl, (refl, tt))))))))))))); few = six_of_many; all = inr refl }; ends = refl }, (refl, (refl, tt))); ordered = (record { effects = refl; first = refl }, (record { effects = refl; first = refl }, (record { effects = refl; first = refl }, (record { effects = refl; first = refl }, (record { effects = refl; first = refl }, (record { effects = refl; first = refl }, (record { effects = refl; first = refl }, (tt, (tt, (tt, tt)))))))))) }

dies_runs_end : EachTurn (EndsAsRead (rare.wild_run rare.wild_dies).start) (history (rare.wild_run rare.wild_dies).entries)
unfolding reading fault_of tcode_of header_of offset_of rcode_of value_of length_of extended_of three four part_of is_to is_same asked_by begun_by belongs start_at lowest_from label_for free_from count_flying lowest_flying label_of with_label is_write kind_of slot_of window_at is_fifo point_step doorbell_step reset_step abort_step reply_step lost_step refusal verdict request_of check_of blank_bytes command_kind elements_from made block_head decide reads_eui live_login response_bytes start_step reply_step_of_manager decide_step fresh_id left_for enter_step back_step leave_step
dies_runs_end = (tt, (tt, (tt, (tt, (tt, (tt, (tt, (tt, (tt, (tt, tt))))))))))

dies_takes : EachTurn (TakesEach nobody) (history (rare.wild_run rare.wild_dies).entries)
unfolding reading fault_of tcode_of header_of offset_of rcode_of value_of length_of extended_of three four part_of is_to is_same asked_by begun_by belongs start_at lowest_from label_for free_from count_flying lowest_flying label_of with_label is_write kind_of slot_of window_at is_fifo point_step doorbell_step reset_step abort_step reply_step lost_step refusal verdict request_of check_of blank_bytes command_kind elements_from made block_head decide reads_eui live_login response_bytes start_step reply_step_of_manager decide_step fresh_id left_for enter_step back_step leave_step
dies_takes = (refl, (refl, (refl, (refl, (refl, (refl, (refl, (refl, (refl, (refl, tt))))))))))

reset_ignored_runs_end : EachTurn (EndsAsRead (rare.wild_write (notes.Ignored 1 ignored.Login) (notes.Sent 2 0 0 1 (journals.done_by_target 0 7) ∷ [])).start) (history (rare.wild_write (notes.Ignored 1 ignored.Login) (notes.Sent 2 0 0 1 (journals.done_by_target 0 7) ∷ [])).entries)
unfolding reading fault_of tcode_of header_of offset_of rcode_of value_of length_of extended_of three four part_of is_to is_same asked_by begun_by belongs start_at lowest_from label_for free_from count_flying lowest_flying label_of with_label is_write kind_of slot_of window_at is_fifo point_step doorbell_step reset_step abort_step reply_step lost_step refusal verdict request_of check_of blank_bytes command_kind elements_from made block_head decide reads_eui live_login response_bytes start_step reply_step_of_manager decide_step fresh_id left_for enter_step back_step leave_step
reset_ignored_runs_end = (tt, (tt, (tt, (tt, tt))))

reset_ignored_takes : EachTurn (TakesEach nobody) (history (rare.wild_write (notes.Ignored 1 ignored.Login) (notes.Sent 2 0 0 1 (journals.done_by_target 0 7) ∷ [])).entries)
unfolding reading fault_of tcode_of header_of offset_of rcode_of value_of length_of extended_of three four part_of is_to is_same asked_by begun_by belongs start_at lowest_from label_for free_from count_flying lowest_flying label_of with_label is_write kind_of slot_of window_at is_fifo point_step doorbell_step reset_step abort_step reply_step lost_step refusal verdict request_of check_of blank_bytes command_kind elements_from made block_head decide reads_eui live_login response_bytes start_step reply_step_of_manager decide_step fresh_id left_for enter_step back_step leave_step
reset_ignored_takes = (refl, (refl, (refl, (refl, tt))))

dies : LawfulForOthers (rare.wild_run rare.wild_dies)
dies = record { moments = record { form = dies_form; once = dies_once; order = dies_order; execution = dies_execution; status = dies_status; answer = dies_answer; carried = dies_carried; runs_end = dies_runs_end; takes = dies_takes; cause = dies_cause; judgement = dies_judged; login = dies_login; media = dies_media; sent = record { packets = dies_packets; answers = dies_answers; requests = dies_requests; after = dies_after; statuses = dies_statuses; decisions = dies_decisions; asked = dies_asked } }; action = dies_action }

reset_ignored_form : EachMoment FormAt (history (rare.wild_write (notes.Ignored 1 ignored.Login) (notes.Sent 2 0 0 1 (journals.done_by_target 0 7) ∷ [])).entries)
unfolding reading fault_of tcode_of header_of offset_of rcode_of value_of length_of extended_of three four part_of is_to is_same asked_by begun_by belongs start_at lowest_from label_for free_from count_flying lowest_flying label_of with_label is_write kind_of slot_of window_at is_fifo point_step doorbell_step reset_step abort_step reply_step lost_step refusal verdict request_of check_of blank_bytes command_kind elements_from made block_head decide reads_eui live_login response_bytes start_step reply_step_of_manager decide_step fresh_id left_for enter_step back_step leave_step
reset_ignored_form = ((tt, typed (notes.Sent 2 0 0 1 (journals.done_by_target 0 7)) refl), ((tt, typed (notes.Ignored 1 ignored.Login) refl), (tt, ((tt, typed (notes.Sent 1 0 1 0 rare.wild_reset) refl), ((tt, typed (notes.Injected 1) refl), (tt, ((tt, typed (notes.Begin 2 true) refl), (tt, tt))))))))

reset_ignored_once : OnceLaw (injectors (history (rare.wild_write (notes.Ignored 1 ignored.Login) (notes.Sent 2 0 0 1 (journals.done_by_target 0 7) ∷ [])).entries)) (history (rare.wild_write (notes.Ignored 1 ignored.Login) (notes.Sent 2 0 0 1 (journals.done_by_target 0 7) ∷ [])).entries)
unfolding reading fault_of tcode_of header_of offset_of rcode_of value_of length_of extended_of three four part_of is_to is_same asked_by begun_by belongs start_at lowest_from label_for free_from count_flying lowest_flying label_of with_label is_write kind_of slot_of window_at is_fifo point_step doorbell_step reset_step abort_step reply_step lost_step refusal verdict request_of check_of blank_bytes command_kind elements_from made block_head decide reads_eui live_login response_bytes start_step reply_step_of_manager decide_step fresh_id left_for enter_step back_step leave_step
reset_ignored_once = (tt, (λ e. refl, (tt, (tt, (tt, (tt, (tt, (tt, tt))))))))

reset_ignored_order : OrderLaw (injectors (history (rare.wild_write (notes.Ignored 1 ignored.Login) (notes.Sent 2 0 0 1 (journals.done_by_target 0 7) ∷ [])).entries)) (history (rare.wild_write (notes.Ignored 1 ignored.Login) (notes.Sent 2 0 0 1 (journals.done_by_target 0 7) ∷ [])).entries)
unfolding reading fault_of tcode_of header_of offset_of rcode_of value_of length_of extended_of three four part_of is_to is_same asked_by begun_by belongs start_at lowest_from label_for free_from count_flying lowest_flying label_of with_label is_write kind_of slot_of window_at is_fifo point_step doorbell_step reset_step abort_step reply_step lost_step refusal verdict request_of check_of blank_bytes command_kind elements_from made block_head decide reads_eui live_login response_bytes start_step reply_step_of_manager decide_step fresh_id left_for enter_step back_step leave_step
reset_ignored_order = (tt, (tt, (tt, (tt, (tt, (tt, (tt, (tt, tt))))))))

reset_ignored_execution : ExecutionLaw (injectors (history (rare.wild_write (notes.Ignored 1 ignored.Login) (notes.Sent 2 0 0 1 (journals.done_by_target 0 7) ∷ [])).entries)) (rare.wild_write (notes.Ignored 1 ignored.Login) (notes.Sent 2 0 0 1 (journals.done_by_target 0 7) ∷ [])).start (history (rare.wild_write (notes.Ignored 1 ignored.Login) (notes.Sent 2 0 0 1 (journals.done_by_target 0 7) ∷ [])).entries)
unfolding reading fault_of tcode_of header_of offset_of rcode_of value_of length_of extended_of three four part_of is_to is_same asked_by begun_by belongs start_at lowest_from label_for free_from count_flying lowest_flying label_of with_label is_write kind_of slot_of window_at is_fifo point_step doorbell_step reset_step abort_step reply_step lost_step refusal verdict request_of check_of blank_bytes command_kind elements_from made block_head decide reads_eui live_login response_bytes start_step reply_step_of_manager decide_step fresh_id left_for enter_step back_step leave_step
reset_ignored_execution = (tt, (tt, (tt, (tt, (tt, (tt, (tt, (tt, tt))))))))

reset_ignored_status : StatusLaw (injectors (history (rare.wild_write (notes.Ignored 1 ignored.Login) (notes.Sent 2 0 0 1 (journals.done_by_target 0 7) ∷ [])).entries)) (history (rare.wild_write (notes.Ignored 1 ignored.Login) (notes.Sent 2 0 0 1 (journals.done_by_target 0 7) ∷ [])).entries)
unfolding reading fault_of tcode_of header_of offset_of rcode_of value_of length_of extended_of three four part_of is_to is_same asked_by begun_by belongs start_at lowest_from label_for free_from count_flying lowest_flying label_of with_label is_write kind_of slot_of window_at is_fifo point_step doorbell_step reset_step abort_step reply_step lost_step refusal verdict request_of check_of blank_bytes command_kind elements_from made block_head decide reads_eui live_login response_bytes start_step reply_step_of_manager decide_step fresh_id left_for enter_step back_step leave_step
reset_ignored_status = record { taken = (tt, (tt, (tt, (tt, (tt, (tt, (tt, (tt, tt)))))))); each = (refl, (refl, (refl, (refl, tt)))) }

reset_ignored_answer : AnswerLaw (injectors (history (rare.wild_write (notes.Ignored 1 ignored.Login) (notes.Sent 2 0 0 1 (journals.done_by_target 0 7) ∷ [])).entries)) (rare.wild_write (notes.Ignored 1 ignored.Login) (notes.Sent 2 0 0 1 (journals.done_by_target 0 7) ∷ [])).start (history (rare.wild_write (notes.Ignored 1 ignored.Login) (notes.Sent 2 0 0 1 (journals.done_by_target 0 7) ∷ [])).entries)
unfolding reading fault_of tcode_of header_of offset_of rcode_of value_of length_of extended_of three four part_of is_to is_same asked_by begun_by belongs start_at lowest_from label_for free_from count_flying lowest_flying label_of with_label is_write kind_of slot_of window_at is_fifo point_step doorbell_step reset_step abort_step reply_step lost_step refusal verdict request_of check_of blank_bytes command_kind elements_from made block_head decide reads_eui live_login response_bytes start_step reply_step_of_manager decide_step fresh_id left_for enter_step back_step leave_step
reset_ignored_answer = (tt, (tt, (tt, (tt, (tt, (tt, (tt, (tt, tt))))))))

reset_ignored_carried : CarriedLaw (injectors (history (rare.wild_write (notes.Ignored 1 ignored.Login) (notes.Sent 2 0 0 1 (journals.done_by_target 0 7) ∷ [])).entries)) (rare.wild_write (notes.Ignored 1 ignored.Login) (notes.Sent 2 0 0 1 (journals.done_by_target 0 7) ∷ [])).start (history (rare.wild_write (notes.Ignored 1 ignored.Login) (notes.Sent 2 0 0 1 (journals.done_by_target 0 7) ∷ [])).entries)
unfolding reading fault_of tcode_of header_of offset_of rcode_of value_of length_of extended_of three four part_of is_to is_same asked_by begun_by belongs start_at lowest_from label_for free_from count_flying lowest_flying label_of with_label is_write kind_of slot_of window_at is_fifo point_step doorbell_step reset_step abort_step reply_step lost_step refusal verdict request_of check_of blank_bytes command_kind elements_from made block_head decide reads_eui live_login response_bytes start_step reply_step_of_manager decide_step fresh_id left_for enter_step back_step leave_step
reset_ignored_carried = record { carried = (tt, (tt, (tt, (tt, (tt, (tt, (tt, (tt, tt)))))))); due = (refl, (refl, (refl, (refl, tt)))) }

reset_ignored_cause : CauseLaw (rare.wild_write (notes.Ignored 1 ignored.Login) (notes.Sent 2 0 0 1 (journals.done_by_target 0 7) ∷ [])).start (history (rare.wild_write (notes.Ignored 1 ignored.Login) (notes.Sent 2 0 0 1 (journals.done_by_target 0 7) ∷ [])).entries)
unfolding reading fault_of tcode_of header_of offset_of rcode_of value_of length_of extended_of three four part_of is_to is_same asked_by begun_by belongs start_at lowest_from label_for free_from count_flying lowest_flying label_of with_label is_write kind_of slot_of window_at is_fifo point_step doorbell_step reset_step abort_step reply_step lost_step refusal verdict request_of check_of blank_bytes command_kind elements_from made block_head decide reads_eui live_login response_bytes start_step reply_step_of_manager decide_step fresh_id left_for enter_step back_step leave_step
reset_ignored_cause = record { causes = (record { cuts = refl; cleared = refl; ends = refl; deaths = tt; faults = tt; failures = refl; operations = refl; unserved = tt; codes = tt; failing = tt; once = refl; aborts = refl; decided = record { cut = refl; cleared = refl; moved = refl }; silent = refl }, (record { cuts = refl; cleared = refl; ends = refl; deaths = tt; faults = tt; failures = refl; operations = refl; unserved = tt; codes = tt; failing = tt; once = refl; aborts = refl; decided = record { cut = refl; cleared = refl; moved = refl }; silent = refl }, (record { cuts = refl; cleared = refl; ends = refl; deaths = tt; faults = tt; failures = refl; operations = refl; unserved = tt; codes = tt; failing = tt; once = refl; aborts = refl; decided = record { cut = refl; cleared = refl; moved = refl }; silent = refl }, (record { cuts = refl; cleared = refl; ends = refl; deaths = tt; faults = tt; failures = refl; operations = refl; unserved = tt; codes = tt; failing = tt; once = refl; aborts = refl; decided = record { cut = refl; cleared = refl; moved = refl }; silent = refl }, tt)))); aborted = (tt, (tt, (tt, (tt, (tt, (tt, (tt, (tt, tt)))))))) }

reset_ignored_judged : JudgementLaw (rare.wild_write (notes.Ignored 1 ignored.Login) (notes.Sent 2 0 0 1 (journals.done_by_target 0 7) ∷ [])).start (history (rare.wild_write (notes.Ignored 1 ignored.Login) (notes.Sent 2 0 0 1 (journals.done_by_target 0 7) ∷ [])).entries)
unfolding reading fault_of tcode_of header_of offset_of rcode_of value_of length_of extended_of three four part_of is_to is_same asked_by begun_by belongs start_at lowest_from label_for free_from count_flying lowest_flying label_of with_label is_write kind_of slot_of window_at is_fifo point_step doorbell_step reset_step abort_step reply_step lost_step refusal verdict request_of check_of blank_bytes command_kind elements_from made block_head decide reads_eui live_login response_bytes start_step reply_step_of_manager decide_step fresh_id left_for enter_step back_step leave_step
reset_ignored_judged = ((refl, refl), (tt, (tt, (tt, tt))))

reset_ignored_login : LoginLaw (rare.wild_write (notes.Ignored 1 ignored.Login) (notes.Sent 2 0 0 1 (journals.done_by_target 0 7) ∷ [])).start (history (rare.wild_write (notes.Ignored 1 ignored.Login) (notes.Sent 2 0 0 1 (journals.done_by_target 0 7) ∷ [])).entries)
unfolding reading fault_of tcode_of header_of offset_of rcode_of value_of length_of extended_of three four part_of is_to is_same asked_by begun_by belongs start_at lowest_from label_for free_from count_flying lowest_flying label_of with_label is_write kind_of slot_of window_at is_fifo point_step doorbell_step reset_step abort_step reply_step lost_step refusal verdict request_of check_of blank_bytes command_kind elements_from made block_head decide reads_eui live_login response_bytes start_step reply_step_of_manager decide_step fresh_id left_for enter_step back_step leave_step
reset_ignored_login = (record { rows = tt; decisions = refl; logins = refl }, (record { rows = tt; decisions = refl; logins = refl }, (record { rows = tt; decisions = refl; logins = refl }, (record { rows = tt; decisions = refl; logins = refl }, tt))))

reset_ignored_media : MediaLaw (rare.wild_write (notes.Ignored 1 ignored.Login) (notes.Sent 2 0 0 1 (journals.done_by_target 0 7) ∷ [])).start (history (rare.wild_write (notes.Ignored 1 ignored.Login) (notes.Sent 2 0 0 1 (journals.done_by_target 0 7) ∷ [])).entries)
unfolding reading fault_of tcode_of header_of offset_of rcode_of value_of length_of extended_of three four part_of is_to is_same asked_by begun_by belongs start_at lowest_from label_for free_from count_flying lowest_flying label_of with_label is_write kind_of slot_of window_at is_fifo point_step doorbell_step reset_step abort_step reply_step lost_step refusal verdict request_of check_of blank_bytes command_kind elements_from made block_head decide reads_eui live_login response_bytes start_step reply_step_of_manager decide_step fresh_id left_for enter_step back_step leave_step
reset_ignored_media = (record { pushes = refl; told = refl }, (record { pushes = refl; told = refl }, (record { pushes = refl; told = refl }, (record { pushes = refl; told = refl }, tt))))

reset_ignored_packets : EachMoment SentAt (history (rare.wild_write (notes.Ignored 1 ignored.Login) (notes.Sent 2 0 0 1 (journals.done_by_target 0 7) ∷ [])).entries)
unfolding reading fault_of tcode_of header_of offset_of rcode_of value_of length_of extended_of three four part_of is_to is_same asked_by begun_by belongs start_at lowest_from label_for free_from count_flying lowest_flying label_of with_label is_write kind_of slot_of window_at is_fifo point_step doorbell_step reset_step abort_step reply_step lost_step refusal verdict request_of check_of blank_bytes command_kind elements_from made block_head decide reads_eui live_login response_bytes start_step reply_step_of_manager decide_step fresh_id left_for enter_step back_step leave_step
reset_ignored_packets = ((refl, λ e. record { in_generation = refl; spelled = record { packet = write_response (journals.to_first 0) 7; canonical = refl; retry = refl; priority = refl; source = refl; destination = refl }; label = tt }), (tt, (tt, ((refl, λ e. absurd (cc e)), (tt, (tt, (tt, (tt, tt))))))))

reset_ignored_answers : EachTurn (AnswersLaw (rare.wild_write (notes.Ignored 1 ignored.Login) (notes.Sent 2 0 0 1 (journals.done_by_target 0 7) ∷ [])).start) (history (rare.wild_write (notes.Ignored 1 ignored.Login) (notes.Sent 2 0 0 1 (journals.done_by_target 0 7) ∷ [])).entries)
unfolding reading fault_of tcode_of header_of offset_of rcode_of value_of length_of extended_of three four part_of is_to is_same asked_by begun_by belongs start_at lowest_from label_for free_from count_flying lowest_flying label_of with_label is_write kind_of slot_of window_at is_fifo point_step doorbell_step reset_step abort_step reply_step lost_step refusal verdict request_of check_of blank_bytes command_kind elements_from made block_head decide reads_eui live_login response_bytes start_step reply_step_of_manager decide_step fresh_id left_for enter_step back_step leave_step
reset_ignored_answers = (tt, (tt, (tt, (tt, tt))))

reset_ignored_requests : EachTurn (RequestsLaw (rare.wild_write (notes.Ignored 1 ignored.Login) (notes.Sent 2 0 0 1 (journals.done_by_target 0 7) ∷ [])).start) (history (rare.wild_write (notes.Ignored 1 ignored.Login) (notes.Sent 2 0 0 1 (journals.done_by_target 0 7) ∷ [])).entries)
unfolding reading fault_of tcode_of header_of offset_of rcode_of value_of length_of extended_of three four part_of is_to is_same asked_by begun_by belongs start_at lowest_from label_for free_from count_flying lowest_flying label_of with_label is_write kind_of slot_of window_at is_fifo point_step doorbell_step reset_step abort_step reply_step lost_step refusal verdict request_of check_of blank_bytes command_kind elements_from made block_head decide reads_eui live_login response_bytes start_step reply_step_of_manager decide_step fresh_id left_for enter_step back_step leave_step
reset_ignored_requests = (λ e. cc e, (λ e. tt, (λ e. cc e, (λ e. tt, tt))))

reset_ignored_statuses : EachTurn (StatusesAreSent (rare.wild_write (notes.Ignored 1 ignored.Login) (notes.Sent 2 0 0 1 (journals.done_by_target 0 7) ∷ [])).start) (history (rare.wild_write (notes.Ignored 1 ignored.Login) (notes.Sent 2 0 0 1 (journals.done_by_target 0 7) ∷ [])).entries)
unfolding reading fault_of tcode_of header_of offset_of rcode_of value_of length_of extended_of three four part_of is_to is_same asked_by begun_by belongs start_at lowest_from label_for free_from count_flying lowest_flying label_of with_label is_write kind_of slot_of window_at is_fifo point_step doorbell_step reset_step abort_step reply_step lost_step refusal verdict request_of check_of blank_bytes command_kind elements_from made block_head decide reads_eui live_login response_bytes start_step reply_step_of_manager decide_step fresh_id left_for enter_step back_step leave_step
reset_ignored_statuses = (refl, (refl, (refl, (refl, tt))))

reset_ignored_decisions : EachTurn (DecisionsAreSent (rare.wild_write (notes.Ignored 1 ignored.Login) (notes.Sent 2 0 0 1 (journals.done_by_target 0 7) ∷ [])).start) (history (rare.wild_write (notes.Ignored 1 ignored.Login) (notes.Sent 2 0 0 1 (journals.done_by_target 0 7) ∷ [])).entries)
unfolding reading fault_of tcode_of header_of offset_of rcode_of value_of length_of extended_of three four part_of is_to is_same asked_by begun_by belongs start_at lowest_from label_for free_from count_flying lowest_flying label_of with_label is_write kind_of slot_of window_at is_fifo point_step doorbell_step reset_step abort_step reply_step lost_step refusal verdict request_of check_of blank_bytes command_kind elements_from made block_head decide reads_eui live_login response_bytes start_step reply_step_of_manager decide_step fresh_id left_for enter_step back_step leave_step
reset_ignored_decisions = (refl, (refl, (refl, (refl, tt))))

reset_ignored_asked : EachMoment (NoneUnasked (rare.wild_write (notes.Ignored 1 ignored.Login) (notes.Sent 2 0 0 1 (journals.done_by_target 0 7) ∷ [])).start) (history (rare.wild_write (notes.Ignored 1 ignored.Login) (notes.Sent 2 0 0 1 (journals.done_by_target 0 7) ∷ [])).entries)
unfolding reading fault_of tcode_of header_of offset_of rcode_of value_of length_of extended_of three four part_of is_to is_same asked_by begun_by belongs start_at lowest_from label_for free_from count_flying lowest_flying label_of with_label is_write kind_of slot_of window_at is_fifo point_step doorbell_step reset_step abort_step reply_step lost_step refusal verdict request_of check_of blank_bytes command_kind elements_from made block_head decide reads_eui live_login response_bytes start_step reply_step_of_manager decide_step fresh_id left_for enter_step back_step leave_step
reset_ignored_asked = (tt, (tt, (tt, (tt, (tt, (tt, (tt, (tt, tt))))))))

reset_ignored_after : EachTurn (AfterTurn (rare.wild_write (notes.Ignored 1 ignored.Login) (notes.Sent 2 0 0 1 (journals.done_by_target 0 7) ∷ [])).start) (history (rare.wild_write (notes.Ignored 1 ignored.Login) (notes.Sent 2 0 0 1 (journals.done_by_target 0 7) ∷ [])).entries)
unfolding reading fault_of tcode_of header_of offset_of rcode_of value_of length_of extended_of three four part_of is_to is_same asked_by begun_by belongs start_at lowest_from label_for free_from count_flying lowest_flying label_of with_label is_write kind_of slot_of window_at is_fifo point_step doorbell_step reset_step abort_step reply_step lost_step refusal verdict request_of check_of blank_bytes command_kind elements_from made block_head decide reads_eui live_login response_bytes start_step reply_step_of_manager decide_step fresh_id left_for enter_step back_step leave_step
reset_ignored_after = (record { agents = (tt, (tt, (tt, (tt, (tt, (tt, (tt, (tt, tt)))))))); management = tt; roms = (tt, (tt, tt)) }, (record { agents = (tt, (tt, (tt, (tt, (tt, (tt, (tt, (tt, tt)))))))); management = tt; roms = (tt, (tt, tt)) }, (record { agents = (tt, (tt, (tt, (tt, (tt, (tt, (tt, (tt, tt)))))))); management = tt; roms = (tt, (tt, tt)) }, (record { agents = (tt, (tt, (tt, (tt, (tt, (tt, (tt, (tt, tt)))))))); management = tt; roms = (tt, (tt, tt)) }, tt))))

reset_ignored_action : ActionLaw (rare.wild_write (notes.Ignored 1 ignored.Login) (notes.Sent 2 0 0 1 (journals.done_by_target 0 7) ∷ [])).start (rare.wild_write (notes.Ignored 1 ignored.Login) (notes.Sent 2 0 0 1 (journals.done_by_target 0 7) ∷ [])).entries
unfolding reading fault_of tcode_of header_of offset_of rcode_of value_of length_of extended_of three four part_of is_to is_same asked_by begun_by belongs start_at lowest_from label_for free_from count_flying lowest_flying label_of with_label is_write kind_of slot_of window_at is_fifo point_step doorbell_step reset_step abort_step reply_step lost_step refusal verdict request_of check_of blank_bytes command_kind elements_from made block_head decide reads_eui live_login response_bytes start_step reply_step_of_manager decide_step fresh_id left_for enter_step back_step leave_step
reset_ignored_action = record { brings = ((refl, (refl, tt)), (refl, (refl, tt))); ordered = (record { effects = refl; first = refl }, (tt, (tt, (tt, tt)))) }

reset_ignored : LawfulForOthers (rare.wild_write (notes.Ignored 1 ignored.Login) (notes.Sent 2 0 0 1 (journals.done_by_target 0 7) ∷ []))
reset_ignored = record { moments = record { form = reset_ignored_form; once = reset_ignored_once; order = reset_ignored_order; execution = reset_ignored_execution; status = reset_ignored_status; answer = reset_ignored_answer; carried = reset_ignored_carried; runs_end = reset_ignored_runs_end; takes = reset_ignored_takes; cause = reset_ignored_cause; judgement = reset_ignored_judged; login = reset_ignored_login; media = reset_ignored_media; sent = record { packets = reset_ignored_packets; answers = reset_ignored_answers; requests = reset_ignored_requests; after = reset_ignored_after; statuses = reset_ignored_statuses; decisions = reset_ignored_decisions; asked = reset_ignored_asked } }; action = reset_ignored_action }

not_of_all : Lawful (rare.wild_run rare.wild_dies) → ⊥
unfolding reading fault_of tcode_of header_of offset_of rcode_of value_of length_of extended_of three four part_of is_to is_same asked_by begun_by belongs start_at lowest_from label_for free_from count_flying lowest_flying label_of with_label is_write kind_of slot_of window_at is_fifo point_step doorbell_step reset_step abort_step reply_step lost_step refusal verdict request_of check_of blank_bytes command_kind elements_from made block_head decide reads_eui live_login response_bytes start_step reply_step_of_manager decide_step fresh_id left_for enter_step back_step leave_step
not_of_all = λ law. let bad = law.moments.order.1.1.1.1.1.0 in cc bad

death_left_out : LawfulForOthers (rare.wild_run []) → ⊥
unfolding reading fault_of tcode_of header_of offset_of rcode_of value_of length_of extended_of three four part_of is_to is_same asked_by begun_by belongs start_at lowest_from label_for free_from count_flying lowest_flying label_of with_label is_write kind_of slot_of window_at is_fifo point_step doorbell_step reset_step abort_step reply_step lost_step refusal verdict request_of check_of blank_bytes command_kind elements_from made block_head decide reads_eui live_login response_bytes start_step reply_step_of_manager decide_step fresh_id left_for enter_step back_step leave_step
death_left_out = λ law. let bad = law.moments.cause.causes.1.1.1.0.ends in cc bad

reset_is_got : LawfulForOthers (rare.wild_write (notes.Got 1) (notes.Sent 2 0 0 1 (journals.done_by_target 0 0) ∷ [])) → ⊥
unfolding reading fault_of tcode_of header_of offset_of rcode_of value_of length_of extended_of three four part_of is_to is_same asked_by begun_by belongs start_at lowest_from label_for free_from count_flying lowest_flying label_of with_label is_write kind_of slot_of window_at is_fifo point_step doorbell_step reset_step abort_step reply_step lost_step refusal verdict request_of check_of blank_bytes command_kind elements_from made block_head decide reads_eui live_login response_bytes start_step reply_step_of_manager decide_step fresh_id left_for enter_step back_step leave_step
reset_is_got = λ law. let bad = law.moments.judgement.0 in cc bad

other_unanswered : LawfulForOthers rare.other_unanswered → ⊥
unfolding reading fault_of tcode_of header_of offset_of rcode_of value_of length_of extended_of three four part_of is_to is_same asked_by begun_by belongs start_at lowest_from label_for free_from count_flying lowest_flying label_of with_label is_write kind_of slot_of window_at is_fifo point_step doorbell_step reset_step abort_step reply_step lost_step refusal verdict request_of check_of blank_bytes command_kind elements_from made block_head decide reads_eui live_login response_bytes start_step reply_step_of_manager decide_step fresh_id left_for enter_step back_step leave_step
other_unanswered = λ law. law.moments.sent.answers.0

other_sends_more : LawfulForOthers rare.other_sends_more → ⊥
unfolding reading fault_of tcode_of header_of offset_of rcode_of value_of length_of extended_of three four part_of is_to is_same asked_by begun_by belongs start_at lowest_from label_for free_from count_flying lowest_flying label_of with_label is_write kind_of slot_of window_at is_fifo point_step doorbell_step reset_step abort_step reply_step lost_step refusal verdict request_of check_of blank_bytes command_kind elements_from made block_head decide reads_eui live_login response_bytes start_step reply_step_of_manager decide_step fresh_id left_for enter_step back_step leave_step
other_sends_more = λ law. law.moments.sent.requests.0 refl

target_answers : SentLaw rare.untold_disk (history (refused.target_sends []).entries)
unfolding reading fault_of tcode_of header_of offset_of rcode_of value_of length_of extended_of three four part_of is_to is_same asked_by begun_by belongs start_at lowest_from label_for free_from count_flying lowest_flying label_of with_label is_write kind_of slot_of window_at is_fifo point_step doorbell_step reset_step abort_step reply_step lost_step refusal verdict request_of check_of blank_bytes command_kind elements_from made block_head decide reads_eui live_login response_bytes start_step reply_step_of_manager decide_step fresh_id left_for enter_step back_step leave_step sum_of low_bits
target_answers = record { packets = ((refl, λ e. record { in_generation = refl; spelled = record { packet = read_quadlet_response (journals.to_first 0) 0 (slice_index_or (made 0x0200000000000010 1) 0 0); canonical = refl; retry = refl; priority = refl; source = refl; destination = refl }; label = tt }), (tt, (tt, ((refl, λ e. absurd (cc e)), (tt, (tt, (tt, (tt, tt)))))))); answers = ((refl, tt), (tt, (tt, (tt, tt)))); requests = (λ e. tt, (λ e. tt, (λ e. cc e, (λ e. tt, tt)))); after = (record { agents = (tt, (tt, (tt, (tt, (tt, (tt, (tt, (tt, tt)))))))); management = tt; roms = (tt, (tt, tt)) }, (record { agents = (tt, (tt, (tt, (tt, (tt, (tt, (tt, (tt, tt)))))))); management = tt; roms = (tt, (tt, tt)) }, (record { agents = (tt, (tt, (tt, (tt, (tt, (tt, (tt, (tt, tt)))))))); management = tt; roms = (tt, (tt, tt)) }, (record { agents = (tt, (tt, (tt, (tt, (tt, (tt, (tt, (tt, tt)))))))); management = tt; roms = (tt, (tt, tt)) }, tt)))); statuses = (refl, (refl, (refl, (refl, tt)))); decisions = (refl, (refl, (refl, (refl, tt)))); asked = (tt, (tt, (tt, (tt, (tt, (tt, (tt, (tt, tt)))))))) }

target_reads_the_other : LawfulForOthers (refused.target_sends (refused.reads_the_other ∷ [])) → ⊥
unfolding reading fault_of tcode_of header_of offset_of rcode_of value_of length_of extended_of three four part_of is_to is_same asked_by begun_by belongs start_at lowest_from label_for free_from count_flying lowest_flying label_of with_label is_write kind_of slot_of window_at is_fifo point_step doorbell_step reset_step abort_step reply_step lost_step refusal verdict request_of check_of blank_bytes command_kind elements_from made block_head decide reads_eui live_login response_bytes start_step reply_step_of_manager decide_step fresh_id left_for enter_step back_step leave_step
target_reads_the_other = λ law. law.moments.sent.requests.0 refl

target_tells_the_other : LawfulForOthers (refused.target_sends (refused.tells_the_other ∷ [])) → ⊥
unfolding reading fault_of tcode_of header_of offset_of rcode_of value_of length_of extended_of three four part_of is_to is_same asked_by begun_by belongs start_at lowest_from label_for free_from count_flying lowest_flying label_of with_label is_write kind_of slot_of window_at is_fifo point_step doorbell_step reset_step abort_step reply_step lost_step refusal verdict request_of check_of blank_bytes command_kind elements_from made block_head decide reads_eui live_login response_bytes start_step reply_step_of_manager decide_step fresh_id left_for enter_step back_step leave_step
target_tells_the_other = λ law. law.moments.sent.requests.0 refl

target_answers_twice : LawfulForOthers (refused.target_sends (refused.target_answers ∷ [])) → ⊥
unfolding reading fault_of tcode_of header_of offset_of rcode_of value_of length_of extended_of three four part_of is_to is_same asked_by begun_by belongs start_at lowest_from label_for free_from count_flying lowest_flying label_of with_label is_write kind_of slot_of window_at is_fifo point_step doorbell_step reset_step abort_step reply_step lost_step refusal verdict request_of check_of blank_bytes command_kind elements_from made block_head decide reads_eui live_login response_bytes start_step reply_step_of_manager decide_step fresh_id left_for enter_step back_step leave_step
target_answers_twice = λ law. law.moments.sent.requests.0 refl

wild_request_left_out : LawfulForOthers (refused.wild_appends []) → ⊥
unfolding reading fault_of tcode_of header_of offset_of rcode_of value_of length_of extended_of three four part_of is_to is_same asked_by begun_by belongs start_at lowest_from label_for free_from count_flying lowest_flying label_of with_label is_write kind_of slot_of window_at is_fifo point_step doorbell_step reset_step abort_step reply_step lost_step refusal verdict request_of check_of blank_bytes command_kind elements_from made block_head decide reads_eui live_login response_bytes start_step reply_step_of_manager decide_step fresh_id left_for enter_step back_step leave_step
wild_request_left_out = λ law. law.moments.sent.requests.0 refl

wild_request_twice : LawfulForOthers (refused.wild_appends (refused.first_request ∷ refused.first_request ∷ [])) → ⊥
unfolding reading fault_of tcode_of header_of offset_of rcode_of value_of length_of extended_of three four part_of is_to is_same asked_by begun_by belongs start_at lowest_from label_for free_from count_flying lowest_flying label_of with_label is_write kind_of slot_of window_at is_fifo point_step doorbell_step reset_step abort_step reply_step lost_step refusal verdict request_of check_of blank_bytes command_kind elements_from made block_head decide reads_eui live_login response_bytes start_step reply_step_of_manager decide_step fresh_id left_for enter_step back_step leave_step
wild_request_twice = λ law. (law.moments.sent.requests.0 refl).1

wild_run_forged : LawfulForOthers refused.wild_runs → ⊥
unfolding reading fault_of tcode_of header_of offset_of rcode_of value_of length_of extended_of three four part_of is_to is_same asked_by begun_by belongs start_at lowest_from label_for free_from count_flying lowest_flying label_of with_label is_write kind_of slot_of window_at is_fifo point_step doorbell_step reset_step abort_step reply_step lost_step refusal verdict request_of check_of blank_bytes command_kind elements_from made block_head decide reads_eui live_login response_bytes start_step reply_step_of_manager decide_step fresh_id left_for enter_step back_step leave_step
wild_run_forged = λ law. let bad = law.moments.carried.due.0 in cc bad

wild_ends_as_read : EachTurn (EndsAsRead journals.one_disk) (refused.wild_ends None)
unfolding reading fault_of tcode_of header_of offset_of rcode_of value_of length_of extended_of three four part_of is_to is_same asked_by begun_by belongs start_at lowest_from label_for free_from count_flying lowest_flying label_of with_label is_write kind_of slot_of window_at is_fifo point_step doorbell_step reset_step abort_step reply_step lost_step refusal verdict request_of check_of blank_bytes command_kind elements_from made block_head decide reads_eui live_login response_bytes start_step reply_step_of_manager decide_step fresh_id left_for enter_step back_step leave_step
wild_ends_as_read = ((tt, tt), (tt, (tt, (tt, (tt, (tt, (tt, (tt, (tt, tt)))))))))

wild_ends_otherwise : EachTurn (EndsAsRead journals.one_disk) (refused.wild_ends (Some no_command)) → ⊥
unfolding reading fault_of tcode_of header_of offset_of rcode_of value_of length_of extended_of three four part_of is_to is_same asked_by begun_by belongs start_at lowest_from label_for free_from count_flying lowest_flying label_of with_label is_write kind_of slot_of window_at is_fifo point_step doorbell_step reset_step abort_step reply_step lost_step refusal verdict request_of check_of blank_bytes command_kind elements_from made block_head decide reads_eui live_login response_bytes start_step reply_step_of_manager decide_step fresh_id left_for enter_step back_step leave_step
wild_ends_otherwise = λ law. let bad = (law.0).0 in cc bad

pub tried : OthersTried
tried = record { target_answers = target_answers; target_reads_the_other = target_reads_the_other; target_tells_the_other = target_tells_the_other; target_answers_twice = target_answers_twice; wild_request_left_out = wild_request_left_out; wild_request_twice = wild_request_twice; wild_run_forged = wild_run_forged; wild_ends_as_read = wild_ends_as_read; wild_ends_otherwise = wild_ends_otherwise; dies = dies; reset_is_ignored = reset_ignored; not_of_all = not_of_all; death_left_out = death_left_out; reset_is_got = reset_is_got; other_unanswered = other_unanswered; other_sends_more = other_sends_more }
