use Rattle.std.proofs.Common.{◌≡◌, ℕ, ◌<◌, [], ◌∷◌, refl, subst, inl, inr, arith}
use Rattle.std.specs.Prelude.{replicate, take}
use Rattle.rbc_disk.specs.declared.command.Need.TheVariants.{Payload}
use Rattle.media_bay.specs.Unsolicited.{block}
use Rattle.async_packet.specs.Packet.{write_quadlet, write_block, write_response, read_quadlet, read_block, read_quadlet_response, read_block_response}
use Rattle.orb_layout.specs.Pointers.{quad_bytes}
use Rattle.orb_layout.specs.ManagementOrbs.{management_bytes}
use Rattle.sbp_laws.specs.Turns.{EachMoment, EachTurn}
use Rattle.sbp_laws.specs.Lawful.{nobody}
use Rattle.sbp_laws.specs.Journals as journals
use Rattle.sbp_laws.specs.WorkedRuns as more
use Rattle.sbp_laws.specs.RareRuns as rare
use Rattle.sbp_laws.specs.Tried.{RunsTried}
use Rattle.sbp_laws.specs.OnceLaw.{OnceLaw}
use Rattle.sbp_laws.specs.OrderLaw.{OrderLaw}
use Rattle.sbp_laws.specs.ExecutionLaw.{ExecutionLaw}
use Rattle.sbp_laws.specs.StatusLaw.{StatusLaw}
use Rattle.sbp_laws.specs.AnswerLaw.{AnswerLaw}
use Rattle.sbp_laws.specs.CarriedLaw.{CarriedLaw, EndsAsRead}
use Rattle.sbp_laws.specs.CauseLaw.{CauseLaw}
use Rattle.sbp_laws.proofs.CauseTries.{unit_is_reset}
use Rattle.sbp_laws.specs.JudgementLaw.{JudgementLaw}
use Rattle.sbp_laws.specs.LoginLaw.{LoginLaw}
use Rattle.sbp_laws.specs.MediaLaw.{MediaLaw}
use Rattle.sbp_laws.specs.SentPackets.{SentAt}
use Rattle.sbp_laws.specs.SentAnswers.{AnswersLaw}
use Rattle.sbp_laws.specs.SentRequests.{RequestsLaw}
use Rattle.sbp_laws.specs.SentWrites.{DecisionsAreSent, StatusesAreSent}
use Rattle.sbp_laws.specs.Unasked.{NoneUnasked}
use Rattle.sbp_laws.specs.SentLaw.{AfterTurn}
use Rattle.async_packet.specs.Reading.{reading}
use Rattle.async_packet.specs.Faults.{fault_of}
use Rattle.async_packet.specs.Fields.{tcode_of, header_of, offset_of, rcode_of, value_of, length_of, extended_of}
use Rattle.async_packet.specs.Canon.{three, four}
use Rattle.sbp_journal.specs.Transactions.{part_of, is_to, is_same, asked_by, begun_by, belongs}
use Rattle.sbp_journal.specs.Addresses.{start_at}
use Rattle.sbp_laws.specs.Packets.{lowest_from, label_for, free_from}
use Rattle.sbp_laws.specs.Budget.{count_flying, lowest_flying}
use Rattle.label_table.specs.Requests.{label_of, with_label, is_write, kind_of}
use Rattle.bus_memory.specs.Windows.{slot_of, window_at, is_fifo}
use Rattle.command_agent.specs.Steps.{point_step, doorbell_step, reset_step, abort_step, reply_step, lost_step}
use Rattle.command_agent.specs.Checks.{refusal, verdict}
use Rattle.rbc_disk.specs.Requests.{request_of}
use Rattle.rbc_disk.specs.Checks.{check_of}
use Rattle.rbc_disk.specs.Disk.{blank_bytes}
use Rattle.orb_layout.specs.StatusBlocks.{command_kind}
use Rattle.page_table.specs.Elements.{elements_from}
use Rattle.config_rom.specs.Make.{made}
use Rattle.media_bay.specs.Unsolicited.{block_head}
use Rattle.mgmt_agent.specs.Decisions.{decide, reads_eui, live_login, response_bytes}
use Rattle.mgmt_agent.specs.Machine.{start_step, reply_step as reply_step_of_manager, decide_step}
use Rattle.login_table.specs.Table.{fresh_id, left_for, enter_step, back_step, leave_step}

first_of_one : 0 < 1
first_of_one = omega arith

first_of_two : 0 < 2
first_of_two = omega arith

second_of_two : 1 < 2
second_of_two = omega arith

some_bytes : 0 < 512
some_bytes = omega arith

whole_data : (len : ℕ) → Payload 512 ≡ Payload len → journals.block_of 0xaa ≡ take len (journals.block_of 0xaa)
whole_data len need = let same : 512 ≡ len = cc need in subst (λ l. journals.block_of 0xaa ≡ take l (journals.block_of 0xaa)) same refl

capacity_cause : CauseLaw journals.one_disk more.capacity_told
unfolding reading fault_of tcode_of header_of offset_of rcode_of value_of length_of extended_of three four part_of is_to is_same asked_by begun_by belongs start_at lowest_from label_for free_from count_flying lowest_flying label_of with_label is_write kind_of slot_of window_at is_fifo point_step doorbell_step reset_step abort_step reply_step lost_step refusal verdict request_of check_of blank_bytes command_kind elements_from made block_head decide reads_eui live_login response_bytes start_step reply_step_of_manager decide_step fresh_id left_for enter_step back_step leave_step
capacity_cause = record { causes = (record { cuts = refl; cleared = refl; ends = refl; deaths = tt; faults = tt; failures = refl; operations = refl; unserved = tt; codes = tt; failing = tt; once = refl; aborts = refl; decided = record { cut = refl; cleared = refl; moved = refl }; silent = refl }, (record { cuts = refl; cleared = refl; ends = refl; deaths = tt; faults = tt; failures = refl; operations = refl; unserved = tt; codes = tt; failing = tt; once = refl; aborts = refl; decided = record { cut = refl; cleared = refl; moved = refl }; silent = refl }, (record { cuts = refl; cleared = refl; ends = refl; deaths = tt; faults = tt; failures = refl; operations = refl; unserved = tt; codes = tt; failing = tt; once = refl; aborts = refl; decided = record { cut = refl; cleared = refl; moved = refl }; silent = refl }, (record { cuts = refl; cleared = refl; ends = refl; deaths = tt; faults = tt; failures = refl; operations = refl; unserved = tt; codes = tt; failing = tt; once = refl; aborts = refl; decided = record { cut = refl; cleared = refl; moved = refl }; silent = refl }, (record { cuts = refl; cleared = refl; ends = refl; deaths = tt; faults = tt; failures = refl; operations = refl; unserved = tt; codes = tt; failing = tt; once = refl; aborts = refl; decided = record { cut = refl; cleared = refl; moved = refl }; silent = refl }, (record { cuts = refl; cleared = refl; ends = refl; deaths = tt; faults = tt; failures = refl; operations = refl; unserved = tt; codes = tt; failing = tt; once = refl; aborts = refl; decided = record { cut = refl; cleared = refl; moved = refl }; silent = refl }, (record { cuts = refl; cleared = refl; ends = refl; deaths = tt; faults = tt; failures = refl; operations = refl; unserved = tt; codes = tt; failing = tt; once = refl; aborts = refl; decided = record { cut = refl; cleared = refl; moved = refl }; silent = refl }, (record { cuts = refl; cleared = refl; ends = refl; deaths = tt; faults = tt; failures = refl; operations = refl; unserved = tt; codes = tt; failing = tt; once = refl; aborts = refl; decided = record { cut = refl; cleared = refl; moved = refl }; silent = refl }, (record { cuts = refl; cleared = refl; ends = refl; deaths = tt; faults = tt; failures = refl; operations = refl; unserved = tt; codes = tt; failing = tt; once = refl; aborts = refl; decided = record { cut = refl; cleared = refl; moved = refl }; silent = refl }, (record { cuts = refl; cleared = refl; ends = refl; deaths = tt; faults = tt; failures = refl; operations = refl; unserved = tt; codes = tt; failing = tt; once = refl; aborts = refl; decided = record { cut = refl; cleared = refl; moved = refl }; silent = refl }, (record { cuts = refl; cleared = refl; ends = refl; deaths = tt; faults = tt; failures = refl; operations = refl; unserved = tt; codes = tt; failing = tt; once = refl; aborts = refl; decided = record { cut = refl; cleared = refl; moved = refl }; silent = refl }, (record { cuts = refl; cleared = refl; ends = refl; deaths = tt; faults = tt; failures = refl; operations = refl; unserved = tt; codes = tt; failing = tt; once = refl; aborts = refl; decided = record { cut = refl; cleared = refl; moved = refl }; silent = refl }, tt)))))))))))); aborted = (tt, (tt, (tt, (tt, (tt, (tt, (tt, (tt, (tt, (tt, (tt, (tt, (tt, (tt, (tt, (tt, (tt, (tt, (tt, (tt, (tt, (tt, (tt, (tt, (tt, (tt, tt)))))))))))))))))))))))))) }

capacity_judged : JudgementLaw journals.one_disk more.capacity_told
unfolding reading fault_of tcode_of header_of offset_of rcode_of value_of length_of extended_of three four part_of is_to is_same asked_by begun_by belongs start_at lowest_from label_for free_from count_flying lowest_flying label_of with_label is_write kind_of slot_of window_at is_fifo point_step doorbell_step reset_step abort_step reply_step lost_step refusal verdict request_of check_of blank_bytes command_kind elements_from made block_head decide reads_eui live_login response_bytes start_step reply_step_of_manager decide_step fresh_id left_for enter_step back_step leave_step
capacity_judged = (tt, (refl, (refl, (refl, (refl, (refl, (refl, (refl, (refl, (tt, (tt, (tt, tt))))))))))))

capacity_login : LoginLaw journals.one_disk more.capacity_told
unfolding reading fault_of tcode_of header_of offset_of rcode_of value_of length_of extended_of three four part_of is_to is_same asked_by begun_by belongs start_at lowest_from label_for free_from count_flying lowest_flying label_of with_label is_write kind_of slot_of window_at is_fifo point_step doorbell_step reset_step abort_step reply_step lost_step refusal verdict request_of check_of blank_bytes command_kind elements_from made block_head decide reads_eui live_login response_bytes start_step reply_step_of_manager decide_step fresh_id left_for enter_step back_step leave_step
capacity_login = (record { rows = tt; decisions = refl; logins = refl }, (record { rows = tt; decisions = refl; logins = refl }, (record { rows = tt; decisions = refl; logins = refl }, (record { rows = tt; decisions = refl; logins = refl }, (record { rows = tt; decisions = refl; logins = refl }, (record { rows = tt; decisions = refl; logins = refl }, (record { rows = tt; decisions = refl; logins = refl }, (record { rows = tt; decisions = refl; logins = refl }, (record { rows = tt; decisions = refl; logins = refl }, (record { rows = tt; decisions = refl; logins = refl }, (record { rows = tt; decisions = refl; logins = refl }, (record { rows = tt; decisions = refl; logins = refl }, tt))))))))))))

capacity_media : MediaLaw journals.one_disk more.capacity_told
unfolding reading fault_of tcode_of header_of offset_of rcode_of value_of length_of extended_of three four part_of is_to is_same asked_by begun_by belongs start_at lowest_from label_for free_from count_flying lowest_flying label_of with_label is_write kind_of slot_of window_at is_fifo point_step doorbell_step reset_step abort_step reply_step lost_step refusal verdict request_of check_of blank_bytes command_kind elements_from made block_head decide reads_eui live_login response_bytes start_step reply_step_of_manager decide_step fresh_id left_for enter_step back_step leave_step
capacity_media = (record { pushes = refl; told = refl }, (record { pushes = refl; told = refl }, (record { pushes = refl; told = refl }, (record { pushes = refl; told = refl }, (record { pushes = refl; told = refl }, (record { pushes = refl; told = refl }, (record { pushes = refl; told = refl }, (record { pushes = refl; told = refl }, (record { pushes = refl; told = refl }, (record { pushes = refl; told = refl }, (record { pushes = refl; told = refl }, (record { pushes = refl; told = refl }, tt))))))))))))

capacity_packets : EachMoment SentAt more.capacity_told
unfolding reading fault_of tcode_of header_of offset_of rcode_of value_of length_of extended_of three four part_of is_to is_same asked_by begun_by belongs start_at lowest_from label_for free_from count_flying lowest_flying label_of with_label is_write kind_of slot_of window_at is_fifo point_step doorbell_step reset_step abort_step reply_step lost_step refusal verdict request_of check_of blank_bytes command_kind elements_from made block_head decide reads_eui live_login response_bytes start_step reply_step_of_manager decide_step fresh_id left_for enter_step back_step leave_step
capacity_packets = (tt, (tt, ((refl, λ e. record { in_generation = refl; spelled = record { packet = write_response (journals.to_target 0) 0; canonical = refl; retry = refl; priority = refl; source = refl; destination = refl }; label = tt }), (tt, (tt, ((refl, λ e. record { in_generation = refl; spelled = record { packet = write_block (journals.to_first 0) 0x13000000 (quad_bytes (0x41000000 ∷ 0x10000000 ∷ [])); canonical = refl; retry = refl; priority = refl; source = refl; destination = refl }; label = refl }), (tt, (tt, ((refl, λ e. record { in_generation = refl; spelled = record { packet = write_response (journals.to_target 0) 0; canonical = refl; retry = refl; priority = refl; source = refl; destination = refl }; label = tt }), (tt, ((refl, λ e. record { in_generation = refl; spelled = record { packet = write_block (journals.to_first 0) 0x11000000 (more.capacity); canonical = refl; retry = refl; priority = refl; source = refl; destination = refl }; label = refl }), (tt, (tt, ((refl, λ e. record { in_generation = refl; spelled = record { packet = read_block_response (journals.to_target 0) 0 (more.capacity_orb); canonical = refl; retry = refl; priority = refl; source = refl; destination = refl }; label = tt }), (tt, (tt, ((refl, λ e. record { in_generation = refl; spelled = record { packet = read_block (journals.to_first 0) 0x10000000 32; canonical = refl; retry = refl; priority = refl; source = refl; destination = refl }; label = refl }), ((refl, λ e. record { in_generation = refl; spelled = record { packet = write_response (journals.to_first 0) 0; canonical = refl; retry = refl; priority = refl; source = refl; destination = refl }; label = tt }), (tt, (tt, ((refl, λ e. record { in_generation = refl; spelled = record { packet = write_block (journals.to_target 0) 0xfffff0040008 (quad_bytes (0 ∷ 0x10000000 ∷ [])); canonical = refl; retry = refl; priority = refl; source = refl; destination = refl }; label = refl }), (tt, (tt, (tt, (tt, (tt, tt))))))))))))))))))))))))))

capacity_answers : EachTurn (AnswersLaw journals.one_disk) more.capacity_told
unfolding reading fault_of tcode_of header_of offset_of rcode_of value_of length_of extended_of three four part_of is_to is_same asked_by begun_by belongs start_at lowest_from label_for free_from count_flying lowest_flying label_of with_label is_write kind_of slot_of window_at is_fifo point_step doorbell_step reset_step abort_step reply_step lost_step refusal verdict request_of check_of blank_bytes command_kind elements_from made block_head decide reads_eui live_login response_bytes start_step reply_step_of_manager decide_step fresh_id left_for enter_step back_step leave_step
capacity_answers = (tt, (tt, ((refl, tt), (tt, ((refl, tt), (tt, ((refl, tt), (tt, ((refl, tt), (tt, (tt, (tt, tt))))))))))))

capacity_requests : EachTurn (RequestsLaw journals.one_disk) more.capacity_told
unfolding reading fault_of tcode_of header_of offset_of rcode_of value_of length_of extended_of three four part_of is_to is_same asked_by begun_by belongs start_at lowest_from label_for free_from count_flying lowest_flying label_of with_label is_write kind_of slot_of window_at is_fifo point_step doorbell_step reset_step abort_step reply_step lost_step refusal verdict request_of check_of blank_bytes command_kind elements_from made block_head decide reads_eui live_login response_bytes start_step reply_step_of_manager decide_step fresh_id left_for enter_step back_step leave_step
capacity_requests = (λ e. tt, (λ e. tt, (λ e. tt, (λ e. (record { number = refl; in_generation = refl; sender = refl; receiver = refl; label = refl; spelled = refl }, tt), (λ e. tt, (λ e. (record { number = refl; in_generation = refl; sender = refl; receiver = refl; label = refl; spelled = refl }, tt), (λ e. tt, (λ e. tt, (λ e. (record { number = refl; in_generation = refl; sender = refl; receiver = refl; label = refl; spelled = refl }, tt), (λ e. tt, (λ e. (record { number = refl; in_generation = refl; sender = refl; receiver = refl; label = refl; spelled = refl }, tt), (λ e. tt, tt))))))))))))

capacity_statuses : EachTurn (StatusesAreSent journals.one_disk) more.capacity_told
unfolding reading fault_of tcode_of header_of offset_of rcode_of value_of length_of extended_of three four part_of is_to is_same asked_by begun_by belongs start_at lowest_from label_for free_from count_flying lowest_flying label_of with_label is_write kind_of slot_of window_at is_fifo point_step doorbell_step reset_step abort_step reply_step lost_step refusal verdict request_of check_of blank_bytes command_kind elements_from made block_head decide reads_eui live_login response_bytes start_step reply_step_of_manager decide_step fresh_id left_for enter_step back_step leave_step
capacity_statuses = (refl, (refl, (refl, (refl, (refl, (refl, (refl, (refl, (refl, (refl, (refl, (refl, tt))))))))))))

capacity_decisions : EachTurn (DecisionsAreSent journals.one_disk) more.capacity_told
unfolding reading fault_of tcode_of header_of offset_of rcode_of value_of length_of extended_of three four part_of is_to is_same asked_by begun_by belongs start_at lowest_from label_for free_from count_flying lowest_flying label_of with_label is_write kind_of slot_of window_at is_fifo point_step doorbell_step reset_step abort_step reply_step lost_step refusal verdict request_of check_of blank_bytes command_kind elements_from made block_head decide reads_eui live_login response_bytes start_step reply_step_of_manager decide_step fresh_id left_for enter_step back_step leave_step
capacity_decisions = (refl, (refl, (refl, (refl, (refl, (refl, (refl, (refl, (refl, (refl, (refl, (refl, tt))))))))))))

capacity_asked : EachMoment (NoneUnasked journals.one_disk) more.capacity_told
unfolding reading fault_of tcode_of header_of offset_of rcode_of value_of length_of extended_of three four part_of is_to is_same asked_by begun_by belongs start_at lowest_from label_for free_from count_flying lowest_flying label_of with_label is_write kind_of slot_of window_at is_fifo point_step doorbell_step reset_step abort_step reply_step lost_step refusal verdict request_of check_of blank_bytes command_kind elements_from made block_head decide reads_eui live_login response_bytes start_step reply_step_of_manager decide_step fresh_id left_for enter_step back_step leave_step
capacity_asked = (tt, (tt, (tt, (tt, (tt, (tt, (tt, (tt, (tt, (tt, (tt, (tt, (tt, (tt, (tt, (tt, (tt, (tt, (tt, (tt, (tt, (tt, (tt, (tt, (tt, (tt, tt))))))))))))))))))))))))))

capacity_after : EachTurn (AfterTurn journals.one_disk) more.capacity_told
unfolding reading fault_of tcode_of header_of offset_of rcode_of value_of length_of extended_of three four part_of is_to is_same asked_by begun_by belongs start_at lowest_from label_for free_from count_flying lowest_flying label_of with_label is_write kind_of slot_of window_at is_fifo point_step doorbell_step reset_step abort_step reply_step lost_step refusal verdict request_of check_of blank_bytes command_kind elements_from made block_head decide reads_eui live_login response_bytes start_step reply_step_of_manager decide_step fresh_id left_for enter_step back_step leave_step
capacity_after = (record { agents = (record { ended = refl; answered = refl; ends = refl; unrung = refl }, (tt, (tt, (tt, (tt, (tt, (tt, (tt, tt)))))))); management = tt; roms = (tt, tt) }, (record { agents = (record { ended = refl; answered = refl; ends = refl; unrung = refl }, (tt, (tt, (tt, (tt, (tt, (tt, (tt, tt)))))))); management = tt; roms = (tt, tt) }, (record { agents = (refl, (tt, (tt, (tt, (tt, (tt, (tt, (tt, tt)))))))); management = tt; roms = (tt, tt) }, (record { agents = (refl, (tt, (tt, (tt, (tt, (tt, (tt, (tt, tt)))))))); management = tt; roms = (tt, tt) }, (record { agents = (refl, (tt, (tt, (tt, (tt, (tt, (tt, (tt, tt)))))))); management = tt; roms = (tt, tt) }, (record { agents = (refl, (tt, (tt, (tt, (tt, (tt, (tt, (tt, tt)))))))); management = tt; roms = (tt, tt) }, (record { agents = (refl, (tt, (tt, (tt, (tt, (tt, (tt, (tt, tt)))))))); management = tt; roms = (tt, tt) }, (record { agents = (refl, (tt, (tt, (tt, (tt, (tt, (tt, (tt, tt)))))))); management = tt; roms = (tt, tt) }, (record { agents = (refl, (tt, (tt, (tt, (tt, (tt, (tt, (tt, tt)))))))); management = tt; roms = (tt, tt) }, (record { agents = (tt, (tt, (tt, (tt, (tt, (tt, (tt, (tt, tt)))))))); management = tt; roms = (tt, tt) }, (record { agents = (tt, (tt, (tt, (tt, (tt, (tt, (tt, (tt, tt)))))))); management = tt; roms = (tt, tt) }, (record { agents = (tt, (tt, (tt, (tt, (tt, (tt, (tt, (tt, tt)))))))); management = tt; roms = (tt, tt) }, tt))))))))))))

capacity_once : OnceLaw nobody more.capacity_told
unfolding reading fault_of tcode_of header_of offset_of rcode_of value_of length_of extended_of three four part_of is_to is_same asked_by begun_by belongs start_at lowest_from label_for free_from count_flying lowest_flying label_of with_label is_write kind_of slot_of window_at is_fifo point_step doorbell_step reset_step abort_step reply_step lost_step refusal verdict request_of check_of blank_bytes command_kind elements_from made block_head decide reads_eui live_login response_bytes start_step reply_step_of_manager decide_step fresh_id left_for enter_step back_step leave_step
capacity_once = (tt, ((λ e. refl, λ e. record { once = refl; served = refl }), (tt, (tt, ((λ e. refl, tt), (tt, (tt, ((λ e. refl, λ e. record { once = refl; served = refl }), (tt, ((λ e. refl, tt), (tt, (tt, ((λ e. refl, λ e. record { once = refl; served = refl }), (tt, ((λ e. refl, tt), ((λ e. refl, λ e. record { once = refl; served = refl }), (tt, (tt, ((λ e. refl, tt), (tt, (tt, (tt, (tt, (tt, (tt, (tt, tt))))))))))))))))))))))))))

capacity_order : OrderLaw nobody more.capacity_told
unfolding reading fault_of tcode_of header_of offset_of rcode_of value_of length_of extended_of three four part_of is_to is_same asked_by begun_by belongs start_at lowest_from label_for free_from count_flying lowest_flying label_of with_label is_write kind_of slot_of window_at is_fifo point_step doorbell_step reset_step abort_step reply_step lost_step refusal verdict request_of check_of blank_bytes command_kind elements_from made block_head decide reads_eui live_login response_bytes start_step reply_step_of_manager decide_step fresh_id left_for enter_step back_step leave_step
capacity_order = (tt, (tt, (tt, (tt, (tt, (tt, (λ e. record { number = refl; appended = first_of_one; still = record { latest = refl; uncut = refl } }, (tt, (tt, (tt, (tt, (λ e. record { latest = refl; uncut = refl }, (tt, (tt, (tt, (tt, (tt, (tt, (tt, (tt, (tt, (tt, (record { number = refl; list = refl }, (tt, (tt, (tt, tt))))))))))))))))))))))))))

capacity_execution : ExecutionLaw nobody journals.one_disk more.capacity_told
unfolding reading fault_of tcode_of header_of offset_of rcode_of value_of length_of extended_of three four part_of is_to is_same asked_by begun_by belongs start_at lowest_from label_for free_from count_flying lowest_flying label_of with_label is_write kind_of slot_of window_at is_fifo point_step doorbell_step reset_step abort_step reply_step lost_step refusal verdict request_of check_of blank_bytes command_kind elements_from made block_head decide reads_eui live_login response_bytes start_step reply_step_of_manager decide_step fresh_id left_for enter_step back_step leave_step
capacity_execution = (tt, (tt, (tt, (tt, (tt, (tt, (λ e. refl, (tt, (tt, (tt, (tt, (λ e. (record { once = refl; order = refl; login = refl }, record { command = refl; carried = inl refl; needed = λ len need. absurd (cc need); ended = tt }), (tt, (tt, (tt, (tt, (tt, (tt, (tt, (tt, (tt, (tt, (tt, (tt, (tt, (tt, tt))))))))))))))))))))))))))

capacity_carried : CarriedLaw nobody journals.one_disk more.capacity_told
unfolding reading fault_of tcode_of header_of offset_of rcode_of value_of length_of extended_of three four part_of is_to is_same asked_by begun_by belongs start_at lowest_from label_for free_from count_flying lowest_flying label_of with_label is_write kind_of slot_of window_at is_fifo point_step doorbell_step reset_step abort_step reply_step lost_step refusal verdict request_of check_of blank_bytes command_kind elements_from made block_head decide reads_eui live_login response_bytes start_step reply_step_of_manager decide_step fresh_id left_for enter_step back_step leave_step
capacity_carried = record { carried = (tt, (tt, (tt, (λ e. refl, (tt, (tt, (λ e. record { read = record { response = 4; request = 3; got = refl; whole = refl; answers = refl; of_target = refl; of_initiator = refl; asks = record { read = refl; block = refl; from = refl; size = refl }; appended = first_of_one; opened = refl }; matches = (λ e. let bad : 0 ≡ 3 = e in omega (arith, bad), record { command = refl; direction = refl }) }, (tt, (tt, (tt, (tt, (λ e. record { read = record { response = 4; request = 3; got = refl; whole = refl; answers = refl; of_target = refl; of_initiator = refl; asks = record { read = refl; block = refl; from = refl; size = refl }; appended = first_of_one; opened = refl }; not_dummy = λ e. let bad : 0 ≡ 3 = e in omega (arith, bad); as_appended = record { command = refl; direction = refl }; size = refl; payloads = refl }, (tt, (tt, (tt, (tt, (tt, (tt, (tt, (tt, (tt, (tt, (tt, (tt, (tt, (tt, tt)))))))))))))))))))))))))); due = (refl, (refl, (refl, (refl, (refl, (refl, (refl, (refl, (refl, (refl, (refl, (refl, tt)))))))))))) }

capacity_status : StatusLaw nobody more.capacity_told
unfolding reading fault_of tcode_of header_of offset_of rcode_of value_of length_of extended_of three four part_of is_to is_same asked_by begun_by belongs start_at lowest_from label_for free_from count_flying lowest_flying label_of with_label is_write kind_of slot_of window_at is_fifo point_step doorbell_step reset_step abort_step reply_step lost_step refusal verdict request_of check_of blank_bytes command_kind elements_from made block_head decide reads_eui live_login response_bytes start_step reply_step_of_manager decide_step fresh_id left_for enter_step back_step leave_step
capacity_status = record { taken = (tt, (tt, (tt, (λ e. record { once = refl; ended = refl; sent = refl; written = record { is_write = refl; goes = refl; src = 1; spells = refl } }, (tt, (tt, (tt, (tt, (tt, (tt, (tt, (tt, (tt, (tt, (tt, (tt, (tt, (tt, (tt, (tt, (tt, (tt, (tt, (tt, (tt, (tt, tt)))))))))))))))))))))))))); each = (refl, (refl, (refl, (refl, (refl, (refl, (refl, (refl, (refl, (refl, (refl, (refl, tt)))))))))))) }

capacity_answer : AnswerLaw nobody journals.one_disk more.capacity_told
unfolding reading fault_of tcode_of header_of offset_of rcode_of value_of length_of extended_of three four part_of is_to is_same asked_by begun_by belongs start_at lowest_from label_for free_from count_flying lowest_flying label_of with_label is_write kind_of slot_of window_at is_fifo point_step doorbell_step reset_step abort_step reply_step lost_step refusal verdict request_of check_of blank_bytes command_kind elements_from made block_head decide reads_eui live_login response_bytes start_step reply_step_of_manager decide_step fresh_id left_for enter_step back_step leave_step
capacity_answer = (tt, (tt, (tt, (λ e. record { len = refl; told = refl }, (tt, (tt, (tt, (tt, (tt, (tt, (tt, (tt, (tt, (tt, (tt, (tt, (tt, (tt, (tt, (tt, (tt, (tt, (tt, (tt, (tt, (tt, tt))))))))))))))))))))))))))

agent_reset_cause : CauseLaw journals.one_disk more.agent_reset_told
unfolding reading fault_of tcode_of header_of offset_of rcode_of value_of length_of extended_of three four part_of is_to is_same asked_by begun_by belongs start_at lowest_from label_for free_from count_flying lowest_flying label_of with_label is_write kind_of slot_of window_at is_fifo point_step doorbell_step reset_step abort_step reply_step lost_step refusal verdict request_of check_of blank_bytes command_kind elements_from made block_head decide reads_eui live_login response_bytes start_step reply_step_of_manager decide_step fresh_id left_for enter_step back_step leave_step
agent_reset_cause = record { causes = (record { cuts = refl; cleared = refl; ends = refl; deaths = tt; faults = tt; failures = refl; operations = refl; unserved = tt; codes = tt; failing = tt; once = refl; aborts = refl; decided = record { cut = refl; cleared = refl; moved = refl }; silent = refl }, (record { cuts = refl; cleared = refl; ends = refl; deaths = tt; faults = tt; failures = refl; operations = refl; unserved = tt; codes = tt; failing = tt; once = refl; aborts = refl; decided = record { cut = refl; cleared = refl; moved = refl }; silent = refl }, (record { cuts = refl; cleared = refl; ends = refl; deaths = tt; faults = tt; failures = refl; operations = refl; unserved = tt; codes = tt; failing = tt; once = refl; aborts = refl; decided = record { cut = refl; cleared = refl; moved = refl }; silent = refl }, (record { cuts = refl; cleared = refl; ends = refl; deaths = tt; faults = tt; failures = refl; operations = refl; unserved = tt; codes = tt; failing = tt; once = refl; aborts = refl; decided = record { cut = refl; cleared = refl; moved = refl }; silent = refl }, (record { cuts = refl; cleared = refl; ends = refl; deaths = tt; faults = tt; failures = refl; operations = refl; unserved = tt; codes = tt; failing = tt; once = refl; aborts = refl; decided = record { cut = refl; cleared = refl; moved = refl }; silent = refl }, (record { cuts = refl; cleared = refl; ends = refl; deaths = tt; faults = tt; failures = refl; operations = refl; unserved = tt; codes = tt; failing = tt; once = refl; aborts = refl; decided = record { cut = refl; cleared = refl; moved = refl }; silent = refl }, (record { cuts = refl; cleared = refl; ends = refl; deaths = tt; faults = tt; failures = refl; operations = refl; unserved = tt; codes = tt; failing = tt; once = refl; aborts = refl; decided = record { cut = refl; cleared = refl; moved = refl }; silent = refl }, (record { cuts = refl; cleared = refl; ends = refl; deaths = tt; faults = tt; failures = refl; operations = refl; unserved = tt; codes = tt; failing = tt; once = refl; aborts = refl; decided = record { cut = refl; cleared = refl; moved = refl }; silent = refl }, (record { cuts = refl; cleared = refl; ends = refl; deaths = tt; faults = tt; failures = refl; operations = refl; unserved = tt; codes = tt; failing = tt; once = refl; aborts = refl; decided = record { cut = refl; cleared = refl; moved = refl }; silent = refl }, (record { cuts = refl; cleared = refl; ends = refl; deaths = tt; faults = tt; failures = refl; operations = refl; unserved = tt; codes = tt; failing = tt; once = refl; aborts = refl; decided = record { cut = refl; cleared = refl; moved = refl }; silent = refl }, (record { cuts = refl; cleared = refl; ends = refl; deaths = tt; faults = tt; failures = refl; operations = refl; unserved = tt; codes = tt; failing = tt; once = refl; aborts = refl; decided = record { cut = refl; cleared = refl; moved = refl }; silent = refl }, (record { cuts = refl; cleared = refl; ends = refl; deaths = tt; faults = tt; failures = refl; operations = refl; unserved = tt; codes = tt; failing = tt; once = refl; aborts = refl; decided = record { cut = refl; cleared = refl; moved = refl }; silent = refl }, (record { cuts = refl; cleared = refl; ends = refl; deaths = tt; faults = tt; failures = refl; operations = refl; unserved = tt; codes = tt; failing = tt; once = refl; aborts = refl; decided = record { cut = refl; cleared = refl; moved = refl }; silent = refl }, (record { cuts = refl; cleared = refl; ends = refl; deaths = tt; faults = tt; failures = refl; operations = refl; unserved = tt; codes = tt; failing = tt; once = refl; aborts = refl; decided = record { cut = refl; cleared = refl; moved = refl }; silent = refl }, (record { cuts = refl; cleared = refl; ends = refl; deaths = tt; faults = tt; failures = refl; operations = refl; unserved = tt; codes = tt; failing = tt; once = refl; aborts = refl; decided = record { cut = refl; cleared = refl; moved = refl }; silent = refl }, tt))))))))))))))); aborted = (tt, (tt, (tt, (tt, (tt, (tt, (tt, (tt, (tt, (tt, (tt, (tt, (tt, (tt, (tt, (tt, (tt, (tt, (tt, (tt, (tt, (tt, (tt, (tt, (tt, (tt, (tt, (tt, (tt, (tt, (tt, (tt, tt)))))))))))))))))))))))))))))))) }

agent_reset_judged : JudgementLaw journals.one_disk more.agent_reset_told
unfolding reading fault_of tcode_of header_of offset_of rcode_of value_of length_of extended_of three four part_of is_to is_same asked_by begun_by belongs start_at lowest_from label_for free_from count_flying lowest_flying label_of with_label is_write kind_of slot_of window_at is_fifo point_step doorbell_step reset_step abort_step reply_step lost_step refusal verdict request_of check_of blank_bytes command_kind elements_from made block_head decide reads_eui live_login response_bytes start_step reply_step_of_manager decide_step fresh_id left_for enter_step back_step leave_step
agent_reset_judged = (tt, (refl, (refl, (tt, (tt, (tt, (refl, (refl, (refl, (refl, (refl, (refl, (tt, (tt, (tt, tt)))))))))))))))

agent_reset_login : LoginLaw journals.one_disk more.agent_reset_told
unfolding reading fault_of tcode_of header_of offset_of rcode_of value_of length_of extended_of three four part_of is_to is_same asked_by begun_by belongs start_at lowest_from label_for free_from count_flying lowest_flying label_of with_label is_write kind_of slot_of window_at is_fifo point_step doorbell_step reset_step abort_step reply_step lost_step refusal verdict request_of check_of blank_bytes command_kind elements_from made block_head decide reads_eui live_login response_bytes start_step reply_step_of_manager decide_step fresh_id left_for enter_step back_step leave_step
agent_reset_login = (record { rows = tt; decisions = refl; logins = refl }, (record { rows = tt; decisions = refl; logins = refl }, (record { rows = tt; decisions = refl; logins = refl }, (record { rows = tt; decisions = refl; logins = refl }, (record { rows = tt; decisions = refl; logins = refl }, (record { rows = tt; decisions = refl; logins = refl }, (record { rows = tt; decisions = refl; logins = refl }, (record { rows = tt; decisions = refl; logins = refl }, (record { rows = tt; decisions = refl; logins = refl }, (record { rows = tt; decisions = refl; logins = refl }, (record { rows = tt; decisions = refl; logins = refl }, (record { rows = tt; decisions = refl; logins = refl }, (record { rows = tt; decisions = refl; logins = refl }, (record { rows = tt; decisions = refl; logins = refl }, (record { rows = tt; decisions = refl; logins = refl }, tt)))))))))))))))

agent_reset_media : MediaLaw journals.one_disk more.agent_reset_told
unfolding reading fault_of tcode_of header_of offset_of rcode_of value_of length_of extended_of three four part_of is_to is_same asked_by begun_by belongs start_at lowest_from label_for free_from count_flying lowest_flying label_of with_label is_write kind_of slot_of window_at is_fifo point_step doorbell_step reset_step abort_step reply_step lost_step refusal verdict request_of check_of blank_bytes command_kind elements_from made block_head decide reads_eui live_login response_bytes start_step reply_step_of_manager decide_step fresh_id left_for enter_step back_step leave_step
agent_reset_media = (record { pushes = refl; told = refl }, (record { pushes = refl; told = refl }, (record { pushes = refl; told = refl }, (record { pushes = refl; told = refl }, (record { pushes = refl; told = refl }, (record { pushes = refl; told = refl }, (record { pushes = refl; told = refl }, (record { pushes = refl; told = refl }, (record { pushes = refl; told = refl }, (record { pushes = refl; told = refl }, (record { pushes = refl; told = refl }, (record { pushes = refl; told = refl }, (record { pushes = refl; told = refl }, (record { pushes = refl; told = refl }, (record { pushes = refl; told = refl }, tt)))))))))))))))

agent_reset_packets : EachMoment SentAt more.agent_reset_told
unfolding reading fault_of tcode_of header_of offset_of rcode_of value_of length_of extended_of three four part_of is_to is_same asked_by begun_by belongs start_at lowest_from label_for free_from count_flying lowest_flying label_of with_label is_write kind_of slot_of window_at is_fifo point_step doorbell_step reset_step abort_step reply_step lost_step refusal verdict request_of check_of blank_bytes command_kind elements_from made block_head decide reads_eui live_login response_bytes start_step reply_step_of_manager decide_step fresh_id left_for enter_step back_step leave_step
agent_reset_packets = (tt, (tt, (tt, (tt, ((refl, λ e. record { in_generation = refl; spelled = record { packet = write_response (journals.to_first 0) 0; canonical = refl; retry = refl; priority = refl; source = refl; destination = refl }; label = tt }), (tt, (tt, (tt, ((refl, λ e. record { in_generation = refl; spelled = record { packet = write_quadlet (journals.to_target 0) 0xfffff0040004 1; canonical = refl; retry = refl; priority = refl; source = refl; destination = refl }; label = refl }), (tt, (tt, (tt, ((refl, λ e. record { in_generation = refl; spelled = record { packet = write_response (journals.to_target 0) 0; canonical = refl; retry = refl; priority = refl; source = refl; destination = refl }; label = tt }), (tt, (tt, ((refl, λ e. record { in_generation = refl; spelled = record { packet = write_block (journals.to_first 0) 0x13000000 (quad_bytes (0x41000000 ∷ 0x10000000 ∷ [])); canonical = refl; retry = refl; priority = refl; source = refl; destination = refl }; label = refl }), (tt, (tt, (tt, ((refl, λ e. record { in_generation = refl; spelled = record { packet = read_block_response (journals.to_target 0) 0 (journals.orb_bytes 0x80000000 0); canonical = refl; retry = refl; priority = refl; source = refl; destination = refl }; label = tt }), (tt, (tt, ((refl, λ e. record { in_generation = refl; spelled = record { packet = read_block (journals.to_first 0) 0x10000000 32; canonical = refl; retry = refl; priority = refl; source = refl; destination = refl }; label = refl }), ((refl, λ e. record { in_generation = refl; spelled = record { packet = write_response (journals.to_first 0) 0; canonical = refl; retry = refl; priority = refl; source = refl; destination = refl }; label = tt }), (tt, (tt, ((refl, λ e. record { in_generation = refl; spelled = record { packet = write_block (journals.to_target 0) 0xfffff0040008 (quad_bytes (0 ∷ 0x10000000 ∷ [])); canonical = refl; retry = refl; priority = refl; source = refl; destination = refl }; label = refl }), (tt, (tt, (tt, (tt, (tt, tt))))))))))))))))))))))))))))))))

agent_reset_answers : EachTurn (AnswersLaw journals.one_disk) more.agent_reset_told
unfolding reading fault_of tcode_of header_of offset_of rcode_of value_of length_of extended_of three four part_of is_to is_same asked_by begun_by belongs start_at lowest_from label_for free_from count_flying lowest_flying label_of with_label is_write kind_of slot_of window_at is_fifo point_step doorbell_step reset_step abort_step reply_step lost_step refusal verdict request_of check_of blank_bytes command_kind elements_from made block_head decide reads_eui live_login response_bytes start_step reply_step_of_manager decide_step fresh_id left_for enter_step back_step leave_step
agent_reset_answers = (tt, (tt, ((refl, tt), (tt, (tt, (tt, (tt, ((refl, tt), (tt, ((refl, tt), (tt, ((refl, tt), (tt, (tt, (tt, tt)))))))))))))))

agent_reset_requests : EachTurn (RequestsLaw journals.one_disk) more.agent_reset_told
unfolding reading fault_of tcode_of header_of offset_of rcode_of value_of length_of extended_of three four part_of is_to is_same asked_by begun_by belongs start_at lowest_from label_for free_from count_flying lowest_flying label_of with_label is_write kind_of slot_of window_at is_fifo point_step doorbell_step reset_step abort_step reply_step lost_step refusal verdict request_of check_of blank_bytes command_kind elements_from made block_head decide reads_eui live_login response_bytes start_step reply_step_of_manager decide_step fresh_id left_for enter_step back_step leave_step
agent_reset_requests = (λ e. tt, (λ e. tt, (λ e. tt, (λ e. tt, (λ e. (record { number = refl; in_generation = refl; sender = refl; receiver = refl; label = refl; spelled = refl }, tt), (λ e. tt, (λ e. tt, (λ e. tt, (λ e. (record { number = refl; in_generation = refl; sender = refl; receiver = refl; label = refl; spelled = refl }, tt), (λ e. tt, (λ e. tt, (λ e. (record { number = refl; in_generation = refl; sender = refl; receiver = refl; label = refl; spelled = refl }, tt), (λ e. tt, (λ e. (record { number = refl; in_generation = refl; sender = refl; receiver = refl; label = refl; spelled = refl }, tt), (λ e. tt, tt)))))))))))))))

agent_reset_statuses : EachTurn (StatusesAreSent journals.one_disk) more.agent_reset_told
unfolding reading fault_of tcode_of header_of offset_of rcode_of value_of length_of extended_of three four part_of is_to is_same asked_by begun_by belongs start_at lowest_from label_for free_from count_flying lowest_flying label_of with_label is_write kind_of slot_of window_at is_fifo point_step doorbell_step reset_step abort_step reply_step lost_step refusal verdict request_of check_of blank_bytes command_kind elements_from made block_head decide reads_eui live_login response_bytes start_step reply_step_of_manager decide_step fresh_id left_for enter_step back_step leave_step
agent_reset_statuses = (refl, (refl, (refl, (refl, (refl, (refl, (refl, (refl, (refl, (refl, (refl, (refl, (refl, (refl, (refl, tt)))))))))))))))

agent_reset_decisions : EachTurn (DecisionsAreSent journals.one_disk) more.agent_reset_told
unfolding reading fault_of tcode_of header_of offset_of rcode_of value_of length_of extended_of three four part_of is_to is_same asked_by begun_by belongs start_at lowest_from label_for free_from count_flying lowest_flying label_of with_label is_write kind_of slot_of window_at is_fifo point_step doorbell_step reset_step abort_step reply_step lost_step refusal verdict request_of check_of blank_bytes command_kind elements_from made block_head decide reads_eui live_login response_bytes start_step reply_step_of_manager decide_step fresh_id left_for enter_step back_step leave_step
agent_reset_decisions = (refl, (refl, (refl, (refl, (refl, (refl, (refl, (refl, (refl, (refl, (refl, (refl, (refl, (refl, (refl, tt)))))))))))))))

agent_reset_asked : EachMoment (NoneUnasked journals.one_disk) more.agent_reset_told
unfolding reading fault_of tcode_of header_of offset_of rcode_of value_of length_of extended_of three four part_of is_to is_same asked_by begun_by belongs start_at lowest_from label_for free_from count_flying lowest_flying label_of with_label is_write kind_of slot_of window_at is_fifo point_step doorbell_step reset_step abort_step reply_step lost_step refusal verdict request_of check_of blank_bytes command_kind elements_from made block_head decide reads_eui live_login response_bytes start_step reply_step_of_manager decide_step fresh_id left_for enter_step back_step leave_step
agent_reset_asked = (tt, (tt, (tt, (tt, (tt, (tt, (tt, (tt, (tt, (tt, (tt, (tt, (tt, (tt, (tt, (tt, (tt, (tt, (tt, (tt, (tt, (tt, (tt, (tt, (tt, (tt, (tt, (tt, (tt, (tt, (tt, (tt, tt))))))))))))))))))))))))))))))))

agent_reset_after : EachTurn (AfterTurn journals.one_disk) more.agent_reset_told
unfolding reading fault_of tcode_of header_of offset_of rcode_of value_of length_of extended_of three four part_of is_to is_same asked_by begun_by belongs start_at lowest_from label_for free_from count_flying lowest_flying label_of with_label is_write kind_of slot_of window_at is_fifo point_step doorbell_step reset_step abort_step reply_step lost_step refusal verdict request_of check_of blank_bytes command_kind elements_from made block_head decide reads_eui live_login response_bytes start_step reply_step_of_manager decide_step fresh_id left_for enter_step back_step leave_step
agent_reset_after = (record { agents = (tt, (tt, (tt, (tt, (tt, (tt, (tt, (tt, tt)))))))); management = tt; roms = (tt, tt) }, (record { agents = (tt, (tt, (tt, (tt, (tt, (tt, (tt, (tt, tt)))))))); management = tt; roms = (tt, tt) }, (record { agents = (tt, (tt, (tt, (tt, (tt, (tt, (tt, (tt, tt)))))))); management = tt; roms = (tt, tt) }, (record { agents = (record { ended = refl; answered = refl; ends = refl; unrung = refl }, (tt, (tt, (tt, (tt, (tt, (tt, (tt, tt)))))))); management = tt; roms = (tt, tt) }, (record { agents = (record { ended = refl; answered = refl; ends = refl; unrung = refl }, (tt, (tt, (tt, (tt, (tt, (tt, (tt, tt)))))))); management = tt; roms = (tt, tt) }, (record { agents = (record { ended = refl; answered = refl; ends = refl; unrung = refl }, (tt, (tt, (tt, (tt, (tt, (tt, (tt, tt)))))))); management = tt; roms = (tt, tt) }, (record { agents = (record { ended = refl; answered = refl; ends = refl; unrung = refl }, (tt, (tt, (tt, (tt, (tt, (tt, (tt, tt)))))))); management = tt; roms = (tt, tt) }, (record { agents = (refl, (tt, (tt, (tt, (tt, (tt, (tt, (tt, tt)))))))); management = tt; roms = (tt, tt) }, (record { agents = (refl, (tt, (tt, (tt, (tt, (tt, (tt, (tt, tt)))))))); management = tt; roms = (tt, tt) }, (record { agents = (refl, (tt, (tt, (tt, (tt, (tt, (tt, (tt, tt)))))))); management = tt; roms = (tt, tt) }, (record { agents = (refl, (tt, (tt, (tt, (tt, (tt, (tt, (tt, tt)))))))); management = tt; roms = (tt, tt) }, (record { agents = (refl, (tt, (tt, (tt, (tt, (tt, (tt, (tt, tt)))))))); management = tt; roms = (tt, tt) }, (record { agents = (tt, (tt, (tt, (tt, (tt, (tt, (tt, (tt, tt)))))))); management = tt; roms = (tt, tt) }, (record { agents = (tt, (tt, (tt, (tt, (tt, (tt, (tt, (tt, tt)))))))); management = tt; roms = (tt, tt) }, (record { agents = (tt, (tt, (tt, (tt, (tt, (tt, (tt, (tt, tt)))))))); management = tt; roms = (tt, tt) }, tt)))))))))))))))

agent_reset_once : OnceLaw nobody more.agent_reset_told
unfolding reading fault_of tcode_of header_of offset_of rcode_of value_of length_of extended_of three four part_of is_to is_same asked_by begun_by belongs start_at lowest_from label_for free_from count_flying lowest_flying label_of with_label is_write kind_of slot_of window_at is_fifo point_step doorbell_step reset_step abort_step reply_step lost_step refusal verdict request_of check_of blank_bytes command_kind elements_from made block_head decide reads_eui live_login response_bytes start_step reply_step_of_manager decide_step fresh_id left_for enter_step back_step leave_step
agent_reset_once = (tt, (tt, (tt, ((λ e. refl, λ e. record { once = refl; served = refl }), (tt, (tt, ((λ e. refl, tt), (tt, (tt, (tt, (tt, ((λ e. refl, λ e. record { once = refl; served = refl }), (tt, (tt, ((λ e. refl, tt), (tt, (tt, (tt, ((λ e. refl, λ e. record { once = refl; served = refl }), (tt, ((λ e. refl, tt), ((λ e. refl, λ e. record { once = refl; served = refl }), (tt, (tt, ((λ e. refl, tt), (tt, (tt, (tt, (tt, (tt, (tt, (tt, tt))))))))))))))))))))))))))))))))

agent_reset_order : OrderLaw nobody more.agent_reset_told
unfolding reading fault_of tcode_of header_of offset_of rcode_of value_of length_of extended_of three four part_of is_to is_same asked_by begun_by belongs start_at lowest_from label_for free_from count_flying lowest_flying label_of with_label is_write kind_of slot_of window_at is_fifo point_step doorbell_step reset_step abort_step reply_step lost_step refusal verdict request_of check_of blank_bytes command_kind elements_from made block_head decide reads_eui live_login response_bytes start_step reply_step_of_manager decide_step fresh_id left_for enter_step back_step leave_step
agent_reset_order = (tt, (tt, (tt, (tt, (tt, (tt, (tt, (tt, (tt, (tt, (tt, (tt, (tt, (tt, (tt, (tt, (λ e. record { number = refl; appended = first_of_one; still = record { latest = refl; uncut = refl } }, (λ e. record { latest = refl; uncut = refl }, (tt, (tt, (tt, (tt, (tt, (tt, (tt, (tt, (tt, (tt, (record { number = refl; list = refl }, (tt, (tt, (tt, tt))))))))))))))))))))))))))))))))

agent_reset_execution : ExecutionLaw nobody journals.one_disk more.agent_reset_told
unfolding reading fault_of tcode_of header_of offset_of rcode_of value_of length_of extended_of three four part_of is_to is_same asked_by begun_by belongs start_at lowest_from label_for free_from count_flying lowest_flying label_of with_label is_write kind_of slot_of window_at is_fifo point_step doorbell_step reset_step abort_step reply_step lost_step refusal verdict request_of check_of blank_bytes command_kind elements_from made block_head decide reads_eui live_login response_bytes start_step reply_step_of_manager decide_step fresh_id left_for enter_step back_step leave_step
agent_reset_execution = (tt, (tt, (tt, (tt, (tt, (tt, (tt, (tt, (tt, (tt, (tt, (tt, (tt, (tt, (tt, (tt, (λ e. refl, (λ e. (record { once = refl; order = refl; login = refl }, record { command = refl; carried = inl refl; needed = λ len need. absurd (cc need); ended = tt }), (tt, (tt, (tt, (tt, (tt, (tt, (tt, (tt, (tt, (tt, (tt, (tt, (tt, (tt, tt))))))))))))))))))))))))))))))))

agent_reset_carried : CarriedLaw nobody journals.one_disk more.agent_reset_told
unfolding reading fault_of tcode_of header_of offset_of rcode_of value_of length_of extended_of three four part_of is_to is_same asked_by begun_by belongs start_at lowest_from label_for free_from count_flying lowest_flying label_of with_label is_write kind_of slot_of window_at is_fifo point_step doorbell_step reset_step abort_step reply_step lost_step refusal verdict request_of check_of blank_bytes command_kind elements_from made block_head decide reads_eui live_login response_bytes start_step reply_step_of_manager decide_step fresh_id left_for enter_step back_step leave_step
agent_reset_carried = record { carried = (tt, (tt, (tt, (tt, (tt, (tt, (tt, (tt, (tt, (tt, (tt, (tt, (tt, (λ e. refl, (tt, (tt, (λ e. record { read = record { response = 4; request = 3; got = refl; whole = refl; answers = refl; of_target = refl; of_initiator = refl; asks = record { read = refl; block = refl; from = refl; size = refl }; appended = first_of_one; opened = refl }; matches = (λ e. let bad : 0 ≡ 3 = e in omega (arith, bad), record { command = refl; direction = refl }) }, (λ e. record { read = record { response = 4; request = 3; got = refl; whole = refl; answers = refl; of_target = refl; of_initiator = refl; asks = record { read = refl; block = refl; from = refl; size = refl }; appended = first_of_one; opened = refl }; not_dummy = λ e. let bad : 0 ≡ 3 = e in omega (arith, bad); as_appended = record { command = refl; direction = refl }; size = refl; payloads = refl }, (tt, (tt, (tt, (tt, (tt, (tt, (tt, (tt, (tt, (tt, (tt, (tt, (tt, (tt, tt)))))))))))))))))))))))))))))))); due = (refl, (refl, (refl, (refl, (refl, (refl, (refl, (refl, (refl, (refl, (refl, (refl, (refl, (refl, (refl, tt))))))))))))))) }

agent_reset_status : StatusLaw nobody more.agent_reset_told
unfolding reading fault_of tcode_of header_of offset_of rcode_of value_of length_of extended_of three four part_of is_to is_same asked_by begun_by belongs start_at lowest_from label_for free_from count_flying lowest_flying label_of with_label is_write kind_of slot_of window_at is_fifo point_step doorbell_step reset_step abort_step reply_step lost_step refusal verdict request_of check_of blank_bytes command_kind elements_from made block_head decide reads_eui live_login response_bytes start_step reply_step_of_manager decide_step fresh_id left_for enter_step back_step leave_step
agent_reset_status = record { taken = (tt, (tt, (tt, (tt, (tt, (tt, (tt, (tt, (tt, (tt, (tt, (tt, (tt, (λ e. record { once = refl; ended = refl; sent = refl; written = record { is_write = refl; goes = refl; src = 1; spells = refl } }, (tt, (tt, (tt, (tt, (tt, (tt, (tt, (tt, (tt, (tt, (tt, (tt, (tt, (tt, (tt, (tt, (tt, (tt, tt)))))))))))))))))))))))))))))))); each = (refl, (refl, (refl, (refl, (refl, (refl, (refl, (refl, (refl, (refl, (refl, (refl, (refl, (refl, (refl, tt))))))))))))))) }

agent_reset_answer : AnswerLaw nobody journals.one_disk more.agent_reset_told
unfolding reading fault_of tcode_of header_of offset_of rcode_of value_of length_of extended_of three four part_of is_to is_same asked_by begun_by belongs start_at lowest_from label_for free_from count_flying lowest_flying label_of with_label is_write kind_of slot_of window_at is_fifo point_step doorbell_step reset_step abort_step reply_step lost_step refusal verdict request_of check_of blank_bytes command_kind elements_from made block_head decide reads_eui live_login response_bytes start_step reply_step_of_manager decide_step fresh_id left_for enter_step back_step leave_step
agent_reset_answer = (tt, (tt, (tt, (tt, (tt, (tt, (tt, (tt, (tt, (tt, (tt, (tt, (tt, (λ e. record { len = refl; told = refl }, (tt, (tt, (tt, (tt, (tt, (tt, (tt, (tt, (tt, (tt, (tt, (tt, (tt, (tt, (tt, (tt, (tt, (tt, tt))))))))))))))))))))))))))))))))

logout_cause : CauseLaw journals.one_disk more.logout_told
unfolding reading fault_of tcode_of header_of offset_of rcode_of value_of length_of extended_of three four part_of is_to is_same asked_by begun_by belongs start_at lowest_from label_for free_from count_flying lowest_flying label_of with_label is_write kind_of slot_of window_at is_fifo point_step doorbell_step reset_step abort_step reply_step lost_step refusal verdict request_of check_of blank_bytes command_kind elements_from made block_head decide reads_eui live_login response_bytes start_step reply_step_of_manager decide_step fresh_id left_for enter_step back_step leave_step
logout_cause = record { causes = (record { cuts = refl; cleared = refl; ends = refl; deaths = tt; faults = tt; failures = refl; operations = refl; unserved = tt; codes = tt; failing = tt; once = refl; aborts = refl; decided = record { cut = refl; cleared = refl; moved = refl }; silent = refl }, (record { cuts = refl; cleared = refl; ends = refl; deaths = tt; faults = tt; failures = refl; operations = refl; unserved = tt; codes = tt; failing = tt; once = refl; aborts = refl; decided = record { cut = refl; cleared = refl; moved = refl }; silent = refl }, (record { cuts = refl; cleared = refl; ends = refl; deaths = tt; faults = tt; failures = refl; operations = refl; unserved = tt; codes = tt; failing = tt; once = refl; aborts = refl; decided = record { cut = refl; cleared = refl; moved = refl }; silent = refl }, (record { cuts = refl; cleared = refl; ends = refl; deaths = tt; faults = tt; failures = refl; operations = refl; unserved = tt; codes = tt; failing = tt; once = refl; aborts = refl; decided = record { cut = refl; cleared = refl; moved = refl }; silent = refl }, (record { cuts = refl; cleared = refl; ends = refl; deaths = tt; faults = tt; failures = refl; operations = refl; unserved = tt; codes = tt; failing = tt; once = refl; aborts = refl; decided = record { cut = refl; cleared = refl; moved = refl }; silent = refl }, (record { cuts = refl; cleared = refl; ends = refl; deaths = tt; faults = tt; failures = refl; operations = refl; unserved = tt; codes = tt; failing = tt; once = refl; aborts = refl; decided = record { cut = refl; cleared = refl; moved = refl }; silent = refl }, (record { cuts = refl; cleared = refl; ends = refl; deaths = tt; faults = tt; failures = refl; operations = refl; unserved = tt; codes = tt; failing = tt; once = refl; aborts = refl; decided = record { cut = refl; cleared = refl; moved = refl }; silent = refl }, (record { cuts = refl; cleared = refl; ends = refl; deaths = tt; faults = tt; failures = refl; operations = refl; unserved = tt; codes = tt; failing = tt; once = refl; aborts = refl; decided = record { cut = refl; cleared = refl; moved = refl }; silent = refl }, (record { cuts = refl; cleared = refl; ends = refl; deaths = tt; faults = tt; failures = refl; operations = refl; unserved = tt; codes = tt; failing = tt; once = refl; aborts = refl; decided = record { cut = refl; cleared = refl; moved = refl }; silent = refl }, (record { cuts = refl; cleared = refl; ends = refl; deaths = tt; faults = tt; failures = refl; operations = refl; unserved = tt; codes = tt; failing = tt; once = refl; aborts = refl; decided = record { cut = refl; cleared = refl; moved = refl }; silent = refl }, tt)))))))))); aborted = (tt, (tt, (tt, (tt, (tt, (tt, (tt, (tt, (tt, (tt, (tt, (tt, (tt, (tt, (tt, (tt, (tt, (tt, (tt, (tt, tt)))))))))))))))))))) }

logout_judged : JudgementLaw journals.one_disk more.logout_told
unfolding reading fault_of tcode_of header_of offset_of rcode_of value_of length_of extended_of three four part_of is_to is_same asked_by begun_by belongs start_at lowest_from label_for free_from count_flying lowest_flying label_of with_label is_write kind_of slot_of window_at is_fifo point_step doorbell_step reset_step abort_step reply_step lost_step refusal verdict request_of check_of blank_bytes command_kind elements_from made block_head decide reads_eui live_login response_bytes start_step reply_step_of_manager decide_step fresh_id left_for enter_step back_step leave_step
logout_judged = (tt, (refl, (refl, (refl, (refl, (refl, (refl, (tt, (tt, (tt, tt))))))))))

logout_login : LoginLaw journals.one_disk more.logout_told
unfolding reading fault_of tcode_of header_of offset_of rcode_of value_of length_of extended_of three four part_of is_to is_same asked_by begun_by belongs start_at lowest_from label_for free_from count_flying lowest_flying label_of with_label is_write kind_of slot_of window_at is_fifo point_step doorbell_step reset_step abort_step reply_step lost_step refusal verdict request_of check_of blank_bytes command_kind elements_from made block_head decide reads_eui live_login response_bytes start_step reply_step_of_manager decide_step fresh_id left_for enter_step back_step leave_step
logout_login = (record { rows = tt; decisions = refl; logins = refl }, (record { rows = tt; decisions = refl; logins = refl }, (record { rows = tt; decisions = refl; logins = refl }, (record { rows = (refl, tt); decisions = refl; logins = refl }, (record { rows = tt; decisions = refl; logins = refl }, (record { rows = tt; decisions = refl; logins = refl }, (record { rows = tt; decisions = refl; logins = refl }, (record { rows = tt; decisions = refl; logins = refl }, (record { rows = tt; decisions = refl; logins = refl }, (record { rows = tt; decisions = refl; logins = refl }, tt))))))))))

logout_media : MediaLaw journals.one_disk more.logout_told
unfolding reading fault_of tcode_of header_of offset_of rcode_of value_of length_of extended_of three four part_of is_to is_same asked_by begun_by belongs start_at lowest_from label_for free_from count_flying lowest_flying label_of with_label is_write kind_of slot_of window_at is_fifo point_step doorbell_step reset_step abort_step reply_step lost_step refusal verdict request_of check_of blank_bytes command_kind elements_from made block_head decide reads_eui live_login response_bytes start_step reply_step_of_manager decide_step fresh_id left_for enter_step back_step leave_step
logout_media = (record { pushes = refl; told = refl }, (record { pushes = refl; told = refl }, (record { pushes = refl; told = refl }, (record { pushes = refl; told = refl }, (record { pushes = refl; told = refl }, (record { pushes = refl; told = refl }, (record { pushes = refl; told = refl }, (record { pushes = refl; told = refl }, (record { pushes = refl; told = refl }, (record { pushes = refl; told = refl }, tt))))))))))

logout_packets : EachMoment SentAt more.logout_told
unfolding reading fault_of tcode_of header_of offset_of rcode_of value_of length_of extended_of three four part_of is_to is_same asked_by begun_by belongs start_at lowest_from label_for free_from count_flying lowest_flying label_of with_label is_write kind_of slot_of window_at is_fifo point_step doorbell_step reset_step abort_step reply_step lost_step refusal verdict request_of check_of blank_bytes command_kind elements_from made block_head decide reads_eui live_login response_bytes start_step reply_step_of_manager decide_step fresh_id left_for enter_step back_step leave_step
logout_packets = (tt, (tt, ((refl, λ e. record { in_generation = refl; spelled = record { packet = write_response (journals.to_target 0) 0; canonical = refl; retry = refl; priority = refl; source = refl; destination = refl }; label = tt }), (tt, (tt, ((refl, λ e. record { in_generation = refl; spelled = record { packet = write_block (journals.to_first 0) 0x12002000 (quad_bytes (0x01000000 ∷ 0x12000000 ∷ [])); canonical = refl; retry = refl; priority = refl; source = refl; destination = refl }; label = refl }), (tt, (tt, (tt, ((refl, λ e. record { in_generation = refl; spelled = record { packet = read_block_response (journals.to_target 0) 0 (management_bytes more.logout_orb); canonical = refl; retry = refl; priority = refl; source = refl; destination = refl }; label = tt }), (tt, (tt, ((refl, λ e. record { in_generation = refl; spelled = record { packet = read_block (journals.to_first 0) 0x12000000 32; canonical = refl; retry = refl; priority = refl; source = refl; destination = refl }; label = refl }), ((refl, λ e. record { in_generation = refl; spelled = record { packet = write_response (journals.to_first 0) 0; canonical = refl; retry = refl; priority = refl; source = refl; destination = refl }; label = tt }), (tt, (tt, ((refl, λ e. record { in_generation = refl; spelled = record { packet = write_block (journals.to_target 0) 0xfffff0010000 (quad_bytes (0 ∷ 0x12000000 ∷ [])); canonical = refl; retry = refl; priority = refl; source = refl; destination = refl }; label = refl }), (tt, (tt, (tt, tt))))))))))))))))))))

logout_answers : EachTurn (AnswersLaw journals.one_disk) more.logout_told
unfolding reading fault_of tcode_of header_of offset_of rcode_of value_of length_of extended_of three four part_of is_to is_same asked_by begun_by belongs start_at lowest_from label_for free_from count_flying lowest_flying label_of with_label is_write kind_of slot_of window_at is_fifo point_step doorbell_step reset_step abort_step reply_step lost_step refusal verdict request_of check_of blank_bytes command_kind elements_from made block_head decide reads_eui live_login response_bytes start_step reply_step_of_manager decide_step fresh_id left_for enter_step back_step leave_step
logout_answers = (tt, (tt, ((refl, tt), (tt, ((refl, tt), (tt, ((refl, tt), (tt, (tt, (tt, tt))))))))))

logout_requests : EachTurn (RequestsLaw journals.one_disk) more.logout_told
unfolding reading fault_of tcode_of header_of offset_of rcode_of value_of length_of extended_of three four part_of is_to is_same asked_by begun_by belongs start_at lowest_from label_for free_from count_flying lowest_flying label_of with_label is_write kind_of slot_of window_at is_fifo point_step doorbell_step reset_step abort_step reply_step lost_step refusal verdict request_of check_of blank_bytes command_kind elements_from made block_head decide reads_eui live_login response_bytes start_step reply_step_of_manager decide_step fresh_id left_for enter_step back_step leave_step
logout_requests = (λ e. tt, (λ e. tt, (λ e. tt, (λ e. (record { number = refl; in_generation = refl; sender = refl; receiver = refl; label = refl; spelled = refl }, tt), (λ e. tt, (λ e. tt, (λ e. (record { number = refl; in_generation = refl; sender = refl; receiver = refl; label = refl; spelled = refl }, tt), (λ e. tt, (λ e. (record { number = refl; in_generation = refl; sender = refl; receiver = refl; label = refl; spelled = refl }, tt), (λ e. tt, tt))))))))))

logout_statuses : EachTurn (StatusesAreSent journals.one_disk) more.logout_told
unfolding reading fault_of tcode_of header_of offset_of rcode_of value_of length_of extended_of three four part_of is_to is_same asked_by begun_by belongs start_at lowest_from label_for free_from count_flying lowest_flying label_of with_label is_write kind_of slot_of window_at is_fifo point_step doorbell_step reset_step abort_step reply_step lost_step refusal verdict request_of check_of blank_bytes command_kind elements_from made block_head decide reads_eui live_login response_bytes start_step reply_step_of_manager decide_step fresh_id left_for enter_step back_step leave_step
logout_statuses = (refl, (refl, (refl, (refl, (refl, (refl, (refl, (refl, (refl, (refl, tt))))))))))

logout_decisions : EachTurn (DecisionsAreSent journals.one_disk) more.logout_told
unfolding reading fault_of tcode_of header_of offset_of rcode_of value_of length_of extended_of three four part_of is_to is_same asked_by begun_by belongs start_at lowest_from label_for free_from count_flying lowest_flying label_of with_label is_write kind_of slot_of window_at is_fifo point_step doorbell_step reset_step abort_step reply_step lost_step refusal verdict request_of check_of blank_bytes command_kind elements_from made block_head decide reads_eui live_login response_bytes start_step reply_step_of_manager decide_step fresh_id left_for enter_step back_step leave_step
logout_decisions = (refl, (refl, (refl, (refl, (refl, (refl, (refl, (refl, (refl, (refl, tt))))))))))

logout_asked : EachMoment (NoneUnasked journals.one_disk) more.logout_told
unfolding reading fault_of tcode_of header_of offset_of rcode_of value_of length_of extended_of three four part_of is_to is_same asked_by begun_by belongs start_at lowest_from label_for free_from count_flying lowest_flying label_of with_label is_write kind_of slot_of window_at is_fifo point_step doorbell_step reset_step abort_step reply_step lost_step refusal verdict request_of check_of blank_bytes command_kind elements_from made block_head decide reads_eui live_login response_bytes start_step reply_step_of_manager decide_step fresh_id left_for enter_step back_step leave_step
logout_asked = (tt, (tt, (tt, (tt, (tt, (tt, (tt, (tt, (tt, (tt, (tt, (tt, (tt, (tt, (tt, (tt, (tt, (tt, (tt, (tt, tt))))))))))))))))))))

logout_after : EachTurn (AfterTurn journals.one_disk) more.logout_told
unfolding reading fault_of tcode_of header_of offset_of rcode_of value_of length_of extended_of three four part_of is_to is_same asked_by begun_by belongs start_at lowest_from label_for free_from count_flying lowest_flying label_of with_label is_write kind_of slot_of window_at is_fifo point_step doorbell_step reset_step abort_step reply_step lost_step refusal verdict request_of check_of blank_bytes command_kind elements_from made block_head decide reads_eui live_login response_bytes start_step reply_step_of_manager decide_step fresh_id left_for enter_step back_step leave_step
logout_after = (record { agents = (tt, (tt, (tt, (tt, (tt, (tt, (tt, (tt, tt)))))))); management = tt; roms = (tt, tt) }, (record { agents = (tt, (tt, (tt, (tt, (tt, (tt, (tt, (tt, tt)))))))); management = tt; roms = (tt, tt) }, (record { agents = (tt, (tt, (tt, (tt, (tt, (tt, (tt, (tt, tt)))))))); management = refl; roms = (tt, tt) }, (record { agents = (tt, (tt, (tt, (tt, (tt, (tt, (tt, (tt, tt)))))))); management = refl; roms = (tt, tt) }, (record { agents = (tt, (tt, (tt, (tt, (tt, (tt, (tt, (tt, tt)))))))); management = refl; roms = (tt, tt) }, (record { agents = (tt, (tt, (tt, (tt, (tt, (tt, (tt, (tt, tt)))))))); management = refl; roms = (tt, tt) }, (record { agents = (tt, (tt, (tt, (tt, (tt, (tt, (tt, (tt, tt)))))))); management = refl; roms = (tt, tt) }, (record { agents = (tt, (tt, (tt, (tt, (tt, (tt, (tt, (tt, tt)))))))); management = tt; roms = (tt, tt) }, (record { agents = (tt, (tt, (tt, (tt, (tt, (tt, (tt, (tt, tt)))))))); management = tt; roms = (tt, tt) }, (record { agents = (tt, (tt, (tt, (tt, (tt, (tt, (tt, (tt, tt)))))))); management = tt; roms = (tt, tt) }, tt))))))))))

logout_once : OnceLaw nobody more.logout_told
unfolding reading fault_of tcode_of header_of offset_of rcode_of value_of length_of extended_of three four part_of is_to is_same asked_by begun_by belongs start_at lowest_from label_for free_from count_flying lowest_flying label_of with_label is_write kind_of slot_of window_at is_fifo point_step doorbell_step reset_step abort_step reply_step lost_step refusal verdict request_of check_of blank_bytes command_kind elements_from made block_head decide reads_eui live_login response_bytes start_step reply_step_of_manager decide_step fresh_id left_for enter_step back_step leave_step
logout_once = (tt, ((λ e. refl, λ e. record { once = refl; served = refl }), (tt, (tt, ((λ e. refl, tt), (tt, (tt, (tt, ((λ e. refl, λ e. record { once = refl; served = refl }), (tt, ((λ e. refl, tt), ((λ e. refl, λ e. record { once = refl; served = refl }), (tt, (tt, ((λ e. refl, tt), (tt, (tt, (tt, (tt, (tt, tt))))))))))))))))))))

logout_order : OrderLaw nobody more.logout_told
unfolding reading fault_of tcode_of header_of offset_of rcode_of value_of length_of extended_of three four part_of is_to is_same asked_by begun_by belongs start_at lowest_from label_for free_from count_flying lowest_flying label_of with_label is_write kind_of slot_of window_at is_fifo point_step doorbell_step reset_step abort_step reply_step lost_step refusal verdict request_of check_of blank_bytes command_kind elements_from made block_head decide reads_eui live_login response_bytes start_step reply_step_of_manager decide_step fresh_id left_for enter_step back_step leave_step
logout_order = (tt, (tt, (tt, (tt, (tt, (tt, (tt, (tt, (tt, (tt, (tt, (tt, (tt, (tt, (tt, (tt, (tt, (tt, (tt, (tt, tt))))))))))))))))))))

logout_execution : ExecutionLaw nobody journals.one_disk more.logout_told
unfolding reading fault_of tcode_of header_of offset_of rcode_of value_of length_of extended_of three four part_of is_to is_same asked_by begun_by belongs start_at lowest_from label_for free_from count_flying lowest_flying label_of with_label is_write kind_of slot_of window_at is_fifo point_step doorbell_step reset_step abort_step reply_step lost_step refusal verdict request_of check_of blank_bytes command_kind elements_from made block_head decide reads_eui live_login response_bytes start_step reply_step_of_manager decide_step fresh_id left_for enter_step back_step leave_step
logout_execution = (tt, (tt, (tt, (tt, (tt, (tt, (tt, (tt, (tt, (tt, (tt, (tt, (tt, (tt, (tt, (tt, (tt, (tt, (tt, (tt, tt))))))))))))))))))))

logout_carried : CarriedLaw nobody journals.one_disk more.logout_told
unfolding reading fault_of tcode_of header_of offset_of rcode_of value_of length_of extended_of three four part_of is_to is_same asked_by begun_by belongs start_at lowest_from label_for free_from count_flying lowest_flying label_of with_label is_write kind_of slot_of window_at is_fifo point_step doorbell_step reset_step abort_step reply_step lost_step refusal verdict request_of check_of blank_bytes command_kind elements_from made block_head decide reads_eui live_login response_bytes start_step reply_step_of_manager decide_step fresh_id left_for enter_step back_step leave_step
logout_carried = record { carried = (tt, (tt, (tt, (tt, (tt, (tt, (tt, (tt, (tt, (tt, (tt, (tt, (tt, (tt, (tt, (tt, (tt, (tt, (tt, (tt, tt)))))))))))))))))))); due = (refl, (refl, (refl, (refl, (refl, (refl, (refl, (refl, (refl, (refl, tt)))))))))) }

logout_status : StatusLaw nobody more.logout_told
unfolding reading fault_of tcode_of header_of offset_of rcode_of value_of length_of extended_of three four part_of is_to is_same asked_by begun_by belongs start_at lowest_from label_for free_from count_flying lowest_flying label_of with_label is_write kind_of slot_of window_at is_fifo point_step doorbell_step reset_step abort_step reply_step lost_step refusal verdict request_of check_of blank_bytes command_kind elements_from made block_head decide reads_eui live_login response_bytes start_step reply_step_of_manager decide_step fresh_id left_for enter_step back_step leave_step
logout_status = record { taken = (tt, (tt, (tt, (tt, (tt, (tt, (tt, (tt, (tt, (tt, (tt, (tt, (tt, (tt, (tt, (tt, (tt, (tt, (tt, (tt, tt)))))))))))))))))))); each = (refl, (refl, (refl, (refl, (refl, (refl, (refl, (refl, (refl, (refl, tt)))))))))) }

logout_answer : AnswerLaw nobody journals.one_disk more.logout_told
unfolding reading fault_of tcode_of header_of offset_of rcode_of value_of length_of extended_of three four part_of is_to is_same asked_by begun_by belongs start_at lowest_from label_for free_from count_flying lowest_flying label_of with_label is_write kind_of slot_of window_at is_fifo point_step doorbell_step reset_step abort_step reply_step lost_step refusal verdict request_of check_of blank_bytes command_kind elements_from made block_head decide reads_eui live_login response_bytes start_step reply_step_of_manager decide_step fresh_id left_for enter_step back_step leave_step
logout_answer = (tt, (tt, (tt, (tt, (tt, (tt, (tt, (tt, (tt, (tt, (tt, (tt, (tt, (tt, (tt, (tt, (tt, (tt, (tt, (tt, tt))))))))))))))))))))

read_ahead_cause : CauseLaw journals.one_disk more.read_ahead_told
unfolding reading fault_of tcode_of header_of offset_of rcode_of value_of length_of extended_of three four part_of is_to is_same asked_by begun_by belongs start_at lowest_from label_for free_from count_flying lowest_flying label_of with_label is_write kind_of slot_of window_at is_fifo point_step doorbell_step reset_step abort_step reply_step lost_step refusal verdict request_of check_of blank_bytes command_kind elements_from made block_head decide reads_eui live_login response_bytes start_step reply_step_of_manager decide_step fresh_id left_for enter_step back_step leave_step
read_ahead_cause = record { causes = (record { cuts = refl; cleared = refl; ends = refl; deaths = tt; faults = tt; failures = refl; operations = refl; unserved = tt; codes = tt; failing = tt; once = refl; aborts = refl; decided = record { cut = refl; cleared = refl; moved = refl }; silent = refl }, (record { cuts = refl; cleared = refl; ends = refl; deaths = tt; faults = tt; failures = refl; operations = refl; unserved = tt; codes = tt; failing = tt; once = refl; aborts = refl; decided = record { cut = refl; cleared = refl; moved = refl }; silent = refl }, (record { cuts = refl; cleared = refl; ends = refl; deaths = tt; faults = tt; failures = refl; operations = refl; unserved = tt; codes = tt; failing = tt; once = refl; aborts = refl; decided = record { cut = refl; cleared = refl; moved = refl }; silent = refl }, (record { cuts = refl; cleared = refl; ends = refl; deaths = tt; faults = tt; failures = refl; operations = refl; unserved = tt; codes = tt; failing = tt; once = refl; aborts = refl; decided = record { cut = refl; cleared = refl; moved = refl }; silent = refl }, (record { cuts = refl; cleared = refl; ends = refl; deaths = tt; faults = tt; failures = refl; operations = refl; unserved = tt; codes = tt; failing = tt; once = refl; aborts = refl; decided = record { cut = refl; cleared = refl; moved = refl }; silent = refl }, (record { cuts = refl; cleared = refl; ends = refl; deaths = tt; faults = tt; failures = refl; operations = refl; unserved = tt; codes = tt; failing = tt; once = refl; aborts = refl; decided = record { cut = refl; cleared = refl; moved = refl }; silent = refl }, (record { cuts = refl; cleared = refl; ends = refl; deaths = tt; faults = tt; failures = refl; operations = refl; unserved = tt; codes = tt; failing = tt; once = refl; aborts = refl; decided = record { cut = refl; cleared = refl; moved = refl }; silent = refl }, (record { cuts = refl; cleared = refl; ends = refl; deaths = tt; faults = tt; failures = refl; operations = refl; unserved = tt; codes = tt; failing = tt; once = refl; aborts = refl; decided = record { cut = refl; cleared = refl; moved = refl }; silent = refl }, (record { cuts = refl; cleared = refl; ends = refl; deaths = tt; faults = tt; failures = refl; operations = refl; unserved = tt; codes = tt; failing = tt; once = refl; aborts = refl; decided = record { cut = refl; cleared = refl; moved = refl }; silent = refl }, (record { cuts = refl; cleared = refl; ends = refl; deaths = tt; faults = tt; failures = refl; operations = refl; unserved = tt; codes = tt; failing = tt; once = refl; aborts = refl; decided = record { cut = refl; cleared = refl; moved = refl }; silent = refl }, (record { cuts = refl; cleared = refl; ends = refl; deaths = tt; faults = tt; failures = refl; operations = refl; unserved = tt; codes = tt; failing = tt; once = refl; aborts = refl; decided = record { cut = refl; cleared = refl; moved = refl }; silent = refl }, (record { cuts = refl; cleared = refl; ends = refl; deaths = tt; faults = tt; failures = refl; operations = refl; unserved = tt; codes = tt; failing = tt; once = refl; aborts = refl; decided = record { cut = refl; cleared = refl; moved = refl }; silent = refl }, (record { cuts = refl; cleared = refl; ends = refl; deaths = tt; faults = tt; failures = refl; operations = refl; unserved = tt; codes = tt; failing = tt; once = refl; aborts = refl; decided = record { cut = refl; cleared = refl; moved = refl }; silent = refl }, (record { cuts = refl; cleared = refl; ends = refl; deaths = tt; faults = tt; failures = refl; operations = refl; unserved = tt; codes = tt; failing = tt; once = refl; aborts = refl; decided = record { cut = refl; cleared = refl; moved = refl }; silent = refl }, (record { cuts = refl; cleared = refl; ends = refl; deaths = tt; faults = tt; failures = refl; operations = refl; unserved = tt; codes = tt; failing = tt; once = refl; aborts = refl; decided = record { cut = refl; cleared = refl; moved = refl }; silent = refl }, (record { cuts = refl; cleared = refl; ends = refl; deaths = tt; faults = tt; failures = refl; operations = refl; unserved = tt; codes = tt; failing = tt; once = refl; aborts = refl; decided = record { cut = refl; cleared = refl; moved = refl }; silent = refl }, (record { cuts = refl; cleared = refl; ends = refl; deaths = tt; faults = tt; failures = refl; operations = refl; unserved = tt; codes = tt; failing = tt; once = refl; aborts = refl; decided = record { cut = refl; cleared = refl; moved = refl }; silent = refl }, tt))))))))))))))))); aborted = (tt, (tt, (tt, (tt, (tt, (tt, (tt, (tt, (tt, (tt, (tt, (tt, (tt, (tt, (tt, (tt, (tt, (tt, (tt, (tt, (tt, (tt, (tt, (tt, (tt, (tt, (tt, (tt, (tt, (tt, (tt, (tt, (tt, (tt, (tt, (tt, (tt, (tt, (tt, (tt, (tt, (tt, tt)))))))))))))))))))))))))))))))))))))))))) }

read_ahead_judged : JudgementLaw journals.one_disk more.read_ahead_told
unfolding reading fault_of tcode_of header_of offset_of rcode_of value_of length_of extended_of three four part_of is_to is_same asked_by begun_by belongs start_at lowest_from label_for free_from count_flying lowest_flying label_of with_label is_write kind_of slot_of window_at is_fifo point_step doorbell_step reset_step abort_step reply_step lost_step refusal verdict request_of check_of blank_bytes command_kind elements_from made block_head decide reads_eui live_login response_bytes start_step reply_step_of_manager decide_step fresh_id left_for enter_step back_step leave_step
read_ahead_judged = (tt, (refl, (refl, (refl, (refl, (refl, (refl, (refl, (refl, (refl, (refl, (refl, (refl, (tt, (tt, (tt, (tt, tt)))))))))))))))))

read_ahead_login : LoginLaw journals.one_disk more.read_ahead_told
unfolding reading fault_of tcode_of header_of offset_of rcode_of value_of length_of extended_of three four part_of is_to is_same asked_by begun_by belongs start_at lowest_from label_for free_from count_flying lowest_flying label_of with_label is_write kind_of slot_of window_at is_fifo point_step doorbell_step reset_step abort_step reply_step lost_step refusal verdict request_of check_of blank_bytes command_kind elements_from made block_head decide reads_eui live_login response_bytes start_step reply_step_of_manager decide_step fresh_id left_for enter_step back_step leave_step
read_ahead_login = (record { rows = tt; decisions = refl; logins = refl }, (record { rows = tt; decisions = refl; logins = refl }, (record { rows = tt; decisions = refl; logins = refl }, (record { rows = tt; decisions = refl; logins = refl }, (record { rows = tt; decisions = refl; logins = refl }, (record { rows = tt; decisions = refl; logins = refl }, (record { rows = tt; decisions = refl; logins = refl }, (record { rows = tt; decisions = refl; logins = refl }, (record { rows = tt; decisions = refl; logins = refl }, (record { rows = tt; decisions = refl; logins = refl }, (record { rows = tt; decisions = refl; logins = refl }, (record { rows = tt; decisions = refl; logins = refl }, (record { rows = tt; decisions = refl; logins = refl }, (record { rows = tt; decisions = refl; logins = refl }, (record { rows = tt; decisions = refl; logins = refl }, (record { rows = tt; decisions = refl; logins = refl }, (record { rows = tt; decisions = refl; logins = refl }, tt)))))))))))))))))

read_ahead_media : MediaLaw journals.one_disk more.read_ahead_told
unfolding reading fault_of tcode_of header_of offset_of rcode_of value_of length_of extended_of three four part_of is_to is_same asked_by begun_by belongs start_at lowest_from label_for free_from count_flying lowest_flying label_of with_label is_write kind_of slot_of window_at is_fifo point_step doorbell_step reset_step abort_step reply_step lost_step refusal verdict request_of check_of blank_bytes command_kind elements_from made block_head decide reads_eui live_login response_bytes start_step reply_step_of_manager decide_step fresh_id left_for enter_step back_step leave_step
read_ahead_media = (record { pushes = refl; told = refl }, (record { pushes = refl; told = refl }, (record { pushes = refl; told = refl }, (record { pushes = refl; told = refl }, (record { pushes = refl; told = refl }, (record { pushes = refl; told = refl }, (record { pushes = refl; told = refl }, (record { pushes = refl; told = refl }, (record { pushes = refl; told = refl }, (record { pushes = refl; told = refl }, (record { pushes = refl; told = refl }, (record { pushes = refl; told = refl }, (record { pushes = refl; told = refl }, (record { pushes = refl; told = refl }, (record { pushes = refl; told = refl }, (record { pushes = refl; told = refl }, (record { pushes = refl; told = refl }, tt)))))))))))))))))

read_ahead_packets : EachMoment SentAt more.read_ahead_told
unfolding reading fault_of tcode_of header_of offset_of rcode_of value_of length_of extended_of three four part_of is_to is_same asked_by begun_by belongs start_at lowest_from label_for free_from count_flying lowest_flying label_of with_label is_write kind_of slot_of window_at is_fifo point_step doorbell_step reset_step abort_step reply_step lost_step refusal verdict request_of check_of blank_bytes command_kind elements_from made block_head decide reads_eui live_login response_bytes start_step reply_step_of_manager decide_step fresh_id left_for enter_step back_step leave_step
read_ahead_packets = (tt, (tt, ((refl, λ e. record { in_generation = refl; spelled = record { packet = write_response (journals.to_target 0) 0; canonical = refl; retry = refl; priority = refl; source = refl; destination = refl }; label = tt }), (tt, (tt, ((refl, λ e. record { in_generation = refl; spelled = record { packet = write_block (journals.to_first 0) 0x13000000 (quad_bytes (0x41000000 ∷ 0x10000040 ∷ [])); canonical = refl; retry = refl; priority = refl; source = refl; destination = refl }; label = refl }), (tt, (tt, (tt, (tt, ((refl, λ e. record { in_generation = refl; spelled = record { packet = read_block_response (journals.to_target 1) 0 (journals.orb_bytes 0x80000000 0); canonical = refl; retry = refl; priority = refl; source = refl; destination = refl }; label = tt }), (tt, ((refl, λ e. record { in_generation = refl; spelled = record { packet = write_response (journals.to_target 0) 0; canonical = refl; retry = refl; priority = refl; source = refl; destination = refl }; label = tt }), (tt, (tt, ((refl, λ e. record { in_generation = refl; spelled = record { packet = read_block (journals.to_first 1) 0x10000040 32; canonical = refl; retry = refl; priority = refl; source = refl; destination = refl }; label = refl }), ((refl, λ e. record { in_generation = refl; spelled = record { packet = write_block (journals.to_first 0) 0x13000000 (quad_bytes (0x01000000 ∷ 0x10000000 ∷ [])); canonical = refl; retry = refl; priority = refl; source = refl; destination = refl }; label = refl }), (tt, (tt, (tt, (tt, ((refl, λ e. record { in_generation = refl; spelled = record { packet = read_block_response (journals.to_target 0) 0 (journals.orb_bytes 0 0x10000040); canonical = refl; retry = refl; priority = refl; source = refl; destination = refl }; label = tt }), (tt, (tt, ((refl, λ e. record { in_generation = refl; spelled = record { packet = write_response (journals.to_first 1) 0; canonical = refl; retry = refl; priority = refl; source = refl; destination = refl }; label = tt }), (tt, ((refl, λ e. record { in_generation = refl; spelled = record { packet = read_block (journals.to_first 0) 0x10000000 32; canonical = refl; retry = refl; priority = refl; source = refl; destination = refl }; label = refl }), ((refl, λ e. record { in_generation = refl; spelled = record { packet = write_response (journals.to_first 0) 0; canonical = refl; retry = refl; priority = refl; source = refl; destination = refl }; label = tt }), (tt, (tt, ((refl, λ e. record { in_generation = refl; spelled = record { packet = write_quadlet (journals.to_target 1) 0xfffff0040010 1; canonical = refl; retry = refl; priority = refl; source = refl; destination = refl }; label = refl }), (tt, (tt, (tt, (tt, (tt, ((refl, λ e. record { in_generation = refl; spelled = record { packet = write_block (journals.to_target 0) 0xfffff0040008 (quad_bytes (0 ∷ 0x10000000 ∷ [])); canonical = refl; retry = refl; priority = refl; source = refl; destination = refl }; label = refl }), (tt, (tt, (tt, (tt, (tt, tt))))))))))))))))))))))))))))))))))))))))))

read_ahead_answers : EachTurn (AnswersLaw journals.one_disk) more.read_ahead_told
unfolding reading fault_of tcode_of header_of offset_of rcode_of value_of length_of extended_of three four part_of is_to is_same asked_by begun_by belongs start_at lowest_from label_for free_from count_flying lowest_flying label_of with_label is_write kind_of slot_of window_at is_fifo point_step doorbell_step reset_step abort_step reply_step lost_step refusal verdict request_of check_of blank_bytes command_kind elements_from made block_head decide reads_eui live_login response_bytes start_step reply_step_of_manager decide_step fresh_id left_for enter_step back_step leave_step
read_ahead_answers = (tt, (tt, ((refl, tt), (tt, (tt, ((refl, tt), ((refl, tt), (tt, (tt, ((refl, tt), (tt, ((refl, tt), ((refl, tt), (tt, (tt, (tt, (tt, tt)))))))))))))))))

read_ahead_requests : EachTurn (RequestsLaw journals.one_disk) more.read_ahead_told
unfolding reading fault_of tcode_of header_of offset_of rcode_of value_of length_of extended_of three four part_of is_to is_same asked_by begun_by belongs start_at lowest_from label_for free_from count_flying lowest_flying label_of with_label is_write kind_of slot_of window_at is_fifo point_step doorbell_step reset_step abort_step reply_step lost_step refusal verdict request_of check_of blank_bytes command_kind elements_from made block_head decide reads_eui live_login response_bytes start_step reply_step_of_manager decide_step fresh_id left_for enter_step back_step leave_step
read_ahead_requests = (λ e. tt, (λ e. tt, (λ e. tt, (λ e. (record { number = refl; in_generation = refl; sender = refl; receiver = refl; label = refl; spelled = refl }, tt), (λ e. tt, (λ e. tt, (λ e. tt, (λ e. (record { number = refl; in_generation = refl; sender = refl; receiver = refl; label = refl; spelled = refl }, (record { number = refl; in_generation = refl; sender = refl; receiver = refl; label = refl; spelled = refl }, tt)), (λ e. tt, (λ e. tt, (λ e. tt, (λ e. tt, (λ e. (record { number = refl; in_generation = refl; sender = refl; receiver = refl; label = refl; spelled = refl }, tt), (λ e. tt, (λ e. (record { number = refl; in_generation = refl; sender = refl; receiver = refl; label = refl; spelled = refl }, tt), (λ e. (record { number = refl; in_generation = refl; sender = refl; receiver = refl; label = refl; spelled = refl }, tt), (λ e. tt, tt)))))))))))))))))

read_ahead_statuses : EachTurn (StatusesAreSent journals.one_disk) more.read_ahead_told
unfolding reading fault_of tcode_of header_of offset_of rcode_of value_of length_of extended_of three four part_of is_to is_same asked_by begun_by belongs start_at lowest_from label_for free_from count_flying lowest_flying label_of with_label is_write kind_of slot_of window_at is_fifo point_step doorbell_step reset_step abort_step reply_step lost_step refusal verdict request_of check_of blank_bytes command_kind elements_from made block_head decide reads_eui live_login response_bytes start_step reply_step_of_manager decide_step fresh_id left_for enter_step back_step leave_step
read_ahead_statuses = (refl, (refl, (refl, (refl, (refl, (refl, (refl, (refl, (refl, (refl, (refl, (refl, (refl, (refl, (refl, (refl, (refl, tt)))))))))))))))))

read_ahead_decisions : EachTurn (DecisionsAreSent journals.one_disk) more.read_ahead_told
unfolding reading fault_of tcode_of header_of offset_of rcode_of value_of length_of extended_of three four part_of is_to is_same asked_by begun_by belongs start_at lowest_from label_for free_from count_flying lowest_flying label_of with_label is_write kind_of slot_of window_at is_fifo point_step doorbell_step reset_step abort_step reply_step lost_step refusal verdict request_of check_of blank_bytes command_kind elements_from made block_head decide reads_eui live_login response_bytes start_step reply_step_of_manager decide_step fresh_id left_for enter_step back_step leave_step
read_ahead_decisions = (refl, (refl, (refl, (refl, (refl, (refl, (refl, (refl, (refl, (refl, (refl, (refl, (refl, (refl, (refl, (refl, (refl, tt)))))))))))))))))

read_ahead_asked : EachMoment (NoneUnasked journals.one_disk) more.read_ahead_told
unfolding reading fault_of tcode_of header_of offset_of rcode_of value_of length_of extended_of three four part_of is_to is_same asked_by begun_by belongs start_at lowest_from label_for free_from count_flying lowest_flying label_of with_label is_write kind_of slot_of window_at is_fifo point_step doorbell_step reset_step abort_step reply_step lost_step refusal verdict request_of check_of blank_bytes command_kind elements_from made block_head decide reads_eui live_login response_bytes start_step reply_step_of_manager decide_step fresh_id left_for enter_step back_step leave_step
read_ahead_asked = (tt, (tt, (tt, (tt, (tt, (tt, (tt, (tt, (tt, (tt, (tt, (tt, (tt, (tt, (tt, (tt, (tt, (tt, (tt, (tt, (tt, (tt, (tt, (tt, (tt, (tt, (tt, (tt, (tt, (tt, (tt, (tt, (tt, (tt, (tt, (tt, (tt, (tt, (tt, (tt, (tt, (tt, tt))))))))))))))))))))))))))))))))))))))))))

read_ahead_after : EachTurn (AfterTurn journals.one_disk) more.read_ahead_told
unfolding reading fault_of tcode_of header_of offset_of rcode_of value_of length_of extended_of three four part_of is_to is_same asked_by begun_by belongs start_at lowest_from label_for free_from count_flying lowest_flying label_of with_label is_write kind_of slot_of window_at is_fifo point_step doorbell_step reset_step abort_step reply_step lost_step refusal verdict request_of check_of blank_bytes command_kind elements_from made block_head decide reads_eui live_login response_bytes start_step reply_step_of_manager decide_step fresh_id left_for enter_step back_step leave_step
read_ahead_after = (record { agents = (record { ended = refl; answered = refl; ends = refl; unrung = refl }, (tt, (tt, (tt, (tt, (tt, (tt, (tt, tt)))))))); management = tt; roms = (tt, tt) }, (record { agents = (record { ended = refl; answered = refl; ends = refl; unrung = refl }, (tt, (tt, (tt, (tt, (tt, (tt, (tt, tt)))))))); management = tt; roms = (tt, tt) }, (record { agents = (refl, (tt, (tt, (tt, (tt, (tt, (tt, (tt, tt)))))))); management = tt; roms = (tt, tt) }, (record { agents = (refl, (tt, (tt, (tt, (tt, (tt, (tt, (tt, tt)))))))); management = tt; roms = (tt, tt) }, (record { agents = (refl, (tt, (tt, (tt, (tt, (tt, (tt, (tt, tt)))))))); management = tt; roms = (tt, tt) }, (record { agents = (refl, (tt, (tt, (tt, (tt, (tt, (tt, (tt, tt)))))))); management = tt; roms = (tt, tt) }, (record { agents = (refl, (tt, (tt, (tt, (tt, (tt, (tt, (tt, tt)))))))); management = tt; roms = (tt, tt) }, (record { agents = (refl, (tt, (tt, (tt, (tt, (tt, (tt, (tt, tt)))))))); management = tt; roms = (tt, tt) }, (record { agents = (refl, (tt, (tt, (tt, (tt, (tt, (tt, (tt, tt)))))))); management = tt; roms = (tt, tt) }, (record { agents = (refl, (tt, (tt, (tt, (tt, (tt, (tt, (tt, tt)))))))); management = tt; roms = (tt, tt) }, (record { agents = (refl, (tt, (tt, (tt, (tt, (tt, (tt, (tt, tt)))))))); management = tt; roms = (tt, tt) }, (record { agents = (refl, (tt, (tt, (tt, (tt, (tt, (tt, (tt, tt)))))))); management = tt; roms = (tt, tt) }, (record { agents = (refl, (tt, (tt, (tt, (tt, (tt, (tt, (tt, tt)))))))); management = tt; roms = (tt, tt) }, (record { agents = (tt, (tt, (tt, (tt, (tt, (tt, (tt, (tt, tt)))))))); management = tt; roms = (tt, tt) }, (record { agents = (tt, (tt, (tt, (tt, (tt, (tt, (tt, (tt, tt)))))))); management = tt; roms = (tt, tt) }, (record { agents = (tt, (tt, (tt, (tt, (tt, (tt, (tt, (tt, tt)))))))); management = tt; roms = (tt, tt) }, (record { agents = (tt, (tt, (tt, (tt, (tt, (tt, (tt, (tt, tt)))))))); management = tt; roms = (tt, tt) }, tt)))))))))))))))))

read_ahead_once : OnceLaw nobody more.read_ahead_told
unfolding reading fault_of tcode_of header_of offset_of rcode_of value_of length_of extended_of three four part_of is_to is_same asked_by begun_by belongs start_at lowest_from label_for free_from count_flying lowest_flying label_of with_label is_write kind_of slot_of window_at is_fifo point_step doorbell_step reset_step abort_step reply_step lost_step refusal verdict request_of check_of blank_bytes command_kind elements_from made block_head decide reads_eui live_login response_bytes start_step reply_step_of_manager decide_step fresh_id left_for enter_step back_step leave_step
read_ahead_once = (tt, ((λ e. refl, λ e. record { once = refl; served = refl }), (tt, (tt, ((λ e. refl, tt), (tt, (tt, (tt, ((λ e. refl, λ e. record { once = refl; served = refl }), ((λ e. refl, λ e. record { once = refl; served = refl }), (tt, ((λ e. refl, tt), (tt, (tt, ((λ e. refl, tt), (tt, (tt, (tt, (tt, ((λ e. refl, λ e. record { once = refl; served = refl }), ((λ e. refl, λ e. record { once = refl; served = refl }), (tt, ((λ e. refl, tt), ((λ e. refl, λ e. record { once = refl; served = refl }), (tt, ((λ e. refl, tt), (tt, (tt, ((λ e. refl, tt), (tt, (tt, (tt, (tt, (tt, (tt, (tt, (tt, (tt, (tt, (tt, (tt, (tt, tt))))))))))))))))))))))))))))))))))))))))))

read_ahead_order : OrderLaw nobody more.read_ahead_told
unfolding reading fault_of tcode_of header_of offset_of rcode_of value_of length_of extended_of three four part_of is_to is_same asked_by begun_by belongs start_at lowest_from label_for free_from count_flying lowest_flying label_of with_label is_write kind_of slot_of window_at is_fifo point_step doorbell_step reset_step abort_step reply_step lost_step refusal verdict request_of check_of blank_bytes command_kind elements_from made block_head decide reads_eui live_login response_bytes start_step reply_step_of_manager decide_step fresh_id left_for enter_step back_step leave_step
read_ahead_order = (tt, (tt, (tt, (tt, (tt, (tt, (λ e. record { number = refl; appended = second_of_two; still = record { latest = refl; uncut = refl } }, (λ e. record { latest = refl; uncut = refl }, (tt, (tt, (tt, (tt, (tt, (tt, (tt, (tt, (tt, (λ e. record { number = refl; appended = first_of_two; still = record { latest = refl; uncut = refl } }, (λ e. record { latest = refl; uncut = refl }, (tt, (tt, (tt, (tt, (tt, (tt, (tt, (tt, (tt, (tt, (tt, (tt, (tt, (tt, (tt, (record { number = refl; list = refl }, (tt, (tt, (tt, (record { number = refl; list = refl }, (tt, (tt, (tt, tt))))))))))))))))))))))))))))))))))))))))))

read_ahead_execution : ExecutionLaw nobody journals.one_disk more.read_ahead_told
unfolding reading fault_of tcode_of header_of offset_of rcode_of value_of length_of extended_of three four part_of is_to is_same asked_by begun_by belongs start_at lowest_from label_for free_from count_flying lowest_flying label_of with_label is_write kind_of slot_of window_at is_fifo point_step doorbell_step reset_step abort_step reply_step lost_step refusal verdict request_of check_of blank_bytes command_kind elements_from made block_head decide reads_eui live_login response_bytes start_step reply_step_of_manager decide_step fresh_id left_for enter_step back_step leave_step
read_ahead_execution = (tt, (tt, (tt, (tt, (tt, (tt, (λ e. refl, (λ e. (record { once = refl; order = refl; login = refl }, record { command = refl; carried = inl refl; needed = λ len need. absurd (cc need); ended = tt }), (tt, (tt, (tt, (tt, (tt, (tt, (tt, (tt, (tt, (λ e. refl, (λ e. (record { once = refl; order = refl; login = refl }, record { command = refl; carried = inl refl; needed = λ len need. absurd (cc need); ended = tt }), (tt, (tt, (tt, (tt, (tt, (tt, (tt, (tt, (tt, (tt, (tt, (tt, (tt, (tt, (tt, (tt, (tt, (tt, (tt, (tt, (tt, (tt, (tt, tt))))))))))))))))))))))))))))))))))))))))))

read_ahead_carried : CarriedLaw nobody journals.one_disk more.read_ahead_told
unfolding reading fault_of tcode_of header_of offset_of rcode_of value_of length_of extended_of three four part_of is_to is_same asked_by begun_by belongs start_at lowest_from label_for free_from count_flying lowest_flying label_of with_label is_write kind_of slot_of window_at is_fifo point_step doorbell_step reset_step abort_step reply_step lost_step refusal verdict request_of check_of blank_bytes command_kind elements_from made block_head decide reads_eui live_login response_bytes start_step reply_step_of_manager decide_step fresh_id left_for enter_step back_step leave_step
read_ahead_carried = record { carried = (tt, (tt, (tt, (λ e. refl, (tt, (tt, (λ e. record { read = record { response = 10; request = 8; got = refl; whole = refl; answers = refl; of_target = refl; of_initiator = refl; asks = record { read = refl; block = refl; from = refl; size = refl }; appended = second_of_two; opened = refl }; matches = (λ e. let bad : 0 ≡ 3 = e in omega (arith, bad), record { command = refl; direction = refl }) }, (λ e. record { read = record { response = 10; request = 8; got = refl; whole = refl; answers = refl; of_target = refl; of_initiator = refl; asks = record { read = refl; block = refl; from = refl; size = refl }; appended = second_of_two; opened = refl }; not_dummy = λ e. let bad : 0 ≡ 3 = e in omega (arith, bad); as_appended = record { command = refl; direction = refl }; size = refl; payloads = refl }, (tt, (tt, (tt, (tt, (tt, (λ e. refl, (tt, (tt, (tt, (λ e. record { read = record { response = 6; request = 4; got = refl; whole = refl; answers = refl; of_target = refl; of_initiator = refl; asks = record { read = refl; block = refl; from = refl; size = refl }; appended = first_of_two; opened = refl }; matches = (λ e. let bad : 0 ≡ 3 = e in omega (arith, bad), record { command = refl; direction = refl }) }, (λ e. record { read = record { response = 6; request = 4; got = refl; whole = refl; answers = refl; of_target = refl; of_initiator = refl; asks = record { read = refl; block = refl; from = refl; size = refl }; appended = first_of_two; opened = refl }; not_dummy = λ e. let bad : 0 ≡ 3 = e in omega (arith, bad); as_appended = record { command = refl; direction = refl }; size = refl; payloads = refl }, (tt, (tt, (tt, (tt, (tt, (tt, (tt, (tt, (tt, (tt, (tt, (tt, (tt, (tt, (tt, (tt, (tt, (tt, (tt, (tt, (tt, (tt, (tt, tt)))))))))))))))))))))))))))))))))))))))))); due = (refl, (refl, (refl, (refl, (refl, (refl, (refl, (refl, (refl, (refl, (refl, (refl, (refl, (refl, (refl, (refl, (refl, tt))))))))))))))))) }

read_ahead_status : StatusLaw nobody more.read_ahead_told
unfolding reading fault_of tcode_of header_of offset_of rcode_of value_of length_of extended_of three four part_of is_to is_same asked_by begun_by belongs start_at lowest_from label_for free_from count_flying lowest_flying label_of with_label is_write kind_of slot_of window_at is_fifo point_step doorbell_step reset_step abort_step reply_step lost_step refusal verdict request_of check_of blank_bytes command_kind elements_from made block_head decide reads_eui live_login response_bytes start_step reply_step_of_manager decide_step fresh_id left_for enter_step back_step leave_step
read_ahead_status = record { taken = (tt, (tt, (tt, (λ e. record { once = refl; ended = refl; sent = refl; written = record { is_write = refl; goes = refl; src = 1; spells = refl } }, (tt, (tt, (tt, (tt, (tt, (tt, (tt, (tt, (tt, (λ e. record { once = refl; ended = refl; sent = refl; written = record { is_write = refl; goes = refl; src = 0; spells = refl } }, (tt, (tt, (tt, (tt, (tt, (tt, (tt, (tt, (tt, (tt, (tt, (tt, (tt, (tt, (tt, (tt, (tt, (tt, (tt, (tt, (tt, (tt, (tt, (tt, (tt, (tt, (tt, (tt, tt)))))))))))))))))))))))))))))))))))))))))); each = (refl, (refl, (refl, (refl, (refl, (refl, (refl, (refl, (refl, (refl, (refl, (refl, (refl, (refl, (refl, (refl, (refl, tt))))))))))))))))) }

read_ahead_answer : AnswerLaw nobody journals.one_disk more.read_ahead_told
unfolding reading fault_of tcode_of header_of offset_of rcode_of value_of length_of extended_of three four part_of is_to is_same asked_by begun_by belongs start_at lowest_from label_for free_from count_flying lowest_flying label_of with_label is_write kind_of slot_of window_at is_fifo point_step doorbell_step reset_step abort_step reply_step lost_step refusal verdict request_of check_of blank_bytes command_kind elements_from made block_head decide reads_eui live_login response_bytes start_step reply_step_of_manager decide_step fresh_id left_for enter_step back_step leave_step
read_ahead_answer = (tt, (tt, (tt, (λ e. record { len = refl; told = refl }, (tt, (tt, (tt, (tt, (tt, (tt, (tt, (tt, (tt, (λ e. record { len = refl; told = refl }, (tt, (tt, (tt, (tt, (tt, (tt, (tt, (tt, (tt, (tt, (tt, (tt, (tt, (tt, (tt, (tt, (tt, (tt, (tt, (tt, (tt, (tt, (tt, (tt, (tt, (tt, (tt, (tt, tt))))))))))))))))))))))))))))))))))))))))))

login_cause : CauseLaw journals.one_disk more.login_told
unfolding reading fault_of tcode_of header_of offset_of rcode_of value_of length_of extended_of three four part_of is_to is_same asked_by begun_by belongs start_at lowest_from label_for free_from count_flying lowest_flying label_of with_label is_write kind_of slot_of window_at is_fifo point_step doorbell_step reset_step abort_step reply_step lost_step refusal verdict request_of check_of blank_bytes command_kind elements_from made block_head decide reads_eui live_login response_bytes start_step reply_step_of_manager decide_step fresh_id left_for enter_step back_step leave_step
login_cause = record { causes = (record { cuts = refl; cleared = refl; ends = refl; deaths = tt; faults = tt; failures = refl; operations = refl; unserved = tt; codes = tt; failing = tt; once = refl; aborts = refl; decided = record { cut = refl; cleared = refl; moved = refl }; silent = refl }, (record { cuts = refl; cleared = refl; ends = refl; deaths = tt; faults = tt; failures = refl; operations = refl; unserved = tt; codes = tt; failing = tt; once = refl; aborts = refl; decided = record { cut = refl; cleared = refl; moved = refl }; silent = refl }, (record { cuts = refl; cleared = refl; ends = refl; deaths = tt; faults = tt; failures = refl; operations = refl; unserved = tt; codes = tt; failing = tt; once = refl; aborts = refl; decided = record { cut = refl; cleared = refl; moved = refl }; silent = refl }, (record { cuts = refl; cleared = refl; ends = refl; deaths = tt; faults = tt; failures = refl; operations = refl; unserved = tt; codes = tt; failing = tt; once = refl; aborts = refl; decided = record { cut = refl; cleared = refl; moved = refl }; silent = refl }, (record { cuts = refl; cleared = refl; ends = refl; deaths = tt; faults = tt; failures = refl; operations = refl; unserved = tt; codes = tt; failing = tt; once = refl; aborts = refl; decided = record { cut = refl; cleared = refl; moved = refl }; silent = refl }, (record { cuts = refl; cleared = refl; ends = refl; deaths = tt; faults = tt; failures = refl; operations = refl; unserved = tt; codes = tt; failing = tt; once = refl; aborts = refl; decided = record { cut = refl; cleared = refl; moved = refl }; silent = refl }, (record { cuts = refl; cleared = refl; ends = refl; deaths = tt; faults = tt; failures = refl; operations = refl; unserved = tt; codes = tt; failing = tt; once = refl; aborts = refl; decided = record { cut = refl; cleared = refl; moved = refl }; silent = refl }, (record { cuts = refl; cleared = refl; ends = refl; deaths = tt; faults = tt; failures = refl; operations = refl; unserved = tt; codes = tt; failing = tt; once = refl; aborts = refl; decided = record { cut = refl; cleared = refl; moved = refl }; silent = refl }, (record { cuts = refl; cleared = refl; ends = refl; deaths = tt; faults = tt; failures = refl; operations = refl; unserved = tt; codes = tt; failing = tt; once = refl; aborts = refl; decided = record { cut = refl; cleared = refl; moved = refl }; silent = refl }, (record { cuts = refl; cleared = refl; ends = refl; deaths = tt; faults = tt; failures = refl; operations = refl; unserved = tt; codes = tt; failing = tt; once = refl; aborts = refl; decided = record { cut = refl; cleared = refl; moved = refl }; silent = refl }, (record { cuts = refl; cleared = refl; ends = refl; deaths = tt; faults = tt; failures = refl; operations = refl; unserved = tt; codes = tt; failing = tt; once = refl; aborts = refl; decided = record { cut = refl; cleared = refl; moved = refl }; silent = refl }, (record { cuts = refl; cleared = refl; ends = refl; deaths = tt; faults = tt; failures = refl; operations = refl; unserved = tt; codes = tt; failing = tt; once = refl; aborts = refl; decided = record { cut = refl; cleared = refl; moved = refl }; silent = refl }, (record { cuts = refl; cleared = refl; ends = refl; deaths = tt; faults = tt; failures = refl; operations = refl; unserved = tt; codes = tt; failing = tt; once = refl; aborts = refl; decided = record { cut = refl; cleared = refl; moved = refl }; silent = refl }, (record { cuts = refl; cleared = refl; ends = refl; deaths = tt; faults = tt; failures = refl; operations = refl; unserved = tt; codes = tt; failing = tt; once = refl; aborts = refl; decided = record { cut = refl; cleared = refl; moved = refl }; silent = refl }, (record { cuts = refl; cleared = refl; ends = refl; deaths = tt; faults = tt; failures = refl; operations = refl; unserved = tt; codes = tt; failing = tt; once = refl; aborts = refl; decided = record { cut = refl; cleared = refl; moved = refl }; silent = refl }, (record { cuts = refl; cleared = refl; ends = refl; deaths = tt; faults = tt; failures = refl; operations = refl; unserved = tt; codes = tt; failing = tt; once = refl; aborts = refl; decided = record { cut = refl; cleared = refl; moved = refl }; silent = refl }, (record { cuts = refl; cleared = refl; ends = refl; deaths = tt; faults = tt; failures = refl; operations = refl; unserved = tt; codes = tt; failing = tt; once = refl; aborts = refl; decided = record { cut = refl; cleared = refl; moved = refl }; silent = refl }, (record { cuts = refl; cleared = refl; ends = refl; deaths = tt; faults = tt; failures = refl; operations = refl; unserved = tt; codes = tt; failing = tt; once = refl; aborts = refl; decided = record { cut = refl; cleared = refl; moved = refl }; silent = refl }, (record { cuts = refl; cleared = refl; ends = refl; deaths = tt; faults = tt; failures = refl; operations = refl; unserved = tt; codes = tt; failing = tt; once = refl; aborts = refl; decided = record { cut = refl; cleared = refl; moved = refl }; silent = refl }, (record { cuts = refl; cleared = refl; ends = refl; deaths = tt; faults = tt; failures = refl; operations = refl; unserved = tt; codes = tt; failing = tt; once = refl; aborts = refl; decided = record { cut = refl; cleared = refl; moved = refl }; silent = refl }, (record { cuts = refl; cleared = refl; ends = refl; deaths = tt; faults = tt; failures = refl; operations = refl; unserved = tt; codes = tt; failing = tt; once = refl; aborts = refl; decided = record { cut = refl; cleared = refl; moved = refl }; silent = refl }, (record { cuts = refl; cleared = refl; ends = refl; deaths = tt; faults = tt; failures = refl; operations = refl; unserved = tt; codes = tt; failing = tt; once = refl; aborts = refl; decided = record { cut = refl; cleared = refl; moved = refl }; silent = refl }, (record { cuts = refl; cleared = refl; ends = refl; deaths = tt; faults = tt; failures = refl; operations = refl; unserved = tt; codes = tt; failing = tt; once = refl; aborts = refl; decided = record { cut = refl; cleared = refl; moved = refl }; silent = refl }, (record { cuts = refl; cleared = refl; ends = refl; deaths = tt; faults = tt; failures = refl; operations = refl; unserved = tt; codes = tt; failing = tt; once = refl; aborts = refl; decided = record { cut = refl; cleared = refl; moved = refl }; silent = refl }, (record { cuts = refl; cleared = refl; ends = refl; deaths = tt; faults = tt; failures = refl; operations = refl; unserved = tt; codes = tt; failing = tt; once = refl; aborts = refl; decided = record { cut = refl; cleared = refl; moved = refl }; silent = refl }, tt))))))))))))))))))))))))); aborted = (tt, (tt, (tt, (tt, (tt, (tt, (tt, (tt, (tt, (tt, (tt, (tt, (tt, (tt, (tt, (tt, (tt, (tt, (tt, (tt, (tt, (tt, (tt, (tt, (tt, (tt, (tt, (tt, (tt, (tt, (tt, (tt, (tt, (tt, (tt, (tt, (tt, (tt, (tt, (tt, (tt, (tt, (tt, (tt, (tt, (tt, (tt, (tt, (tt, tt))))))))))))))))))))))))))))))))))))))))))))))))) }

login_judged : JudgementLaw journals.one_disk more.login_told
unfolding reading fault_of tcode_of header_of offset_of rcode_of value_of length_of extended_of three four part_of is_to is_same asked_by begun_by belongs start_at lowest_from label_for free_from count_flying lowest_flying label_of with_label is_write kind_of slot_of window_at is_fifo point_step doorbell_step reset_step abort_step reply_step lost_step refusal verdict request_of check_of blank_bytes command_kind elements_from made block_head decide reads_eui live_login response_bytes start_step reply_step_of_manager decide_step fresh_id left_for enter_step back_step leave_step
login_judged = (tt, (refl, (refl, (refl, (refl, (refl, (refl, (refl, (refl, (refl, (refl, (refl, (refl, (tt, (tt, (tt, (refl, (refl, (refl, (refl, (refl, (refl, (tt, (tt, (tt, tt)))))))))))))))))))))))))

login_login : LoginLaw journals.one_disk more.login_told
unfolding reading fault_of tcode_of header_of offset_of rcode_of value_of length_of extended_of three four part_of is_to is_same asked_by begun_by belongs start_at lowest_from label_for free_from count_flying lowest_flying label_of with_label is_write kind_of slot_of window_at is_fifo point_step doorbell_step reset_step abort_step reply_step lost_step refusal verdict request_of check_of blank_bytes command_kind elements_from made block_head decide reads_eui live_login response_bytes start_step reply_step_of_manager decide_step fresh_id left_for enter_step back_step leave_step
login_login = (record { rows = tt; decisions = refl; logins = refl }, (record { rows = tt; decisions = refl; logins = refl }, (record { rows = tt; decisions = refl; logins = refl }, (record { rows = tt; decisions = refl; logins = refl }, (record { rows = tt; decisions = refl; logins = refl }, (record { rows = (refl, tt); decisions = refl; logins = refl }, (record { rows = tt; decisions = refl; logins = refl }, (record { rows = tt; decisions = refl; logins = refl }, (record { rows = tt; decisions = refl; logins = refl }, (record { rows = tt; decisions = refl; logins = refl }, (record { rows = tt; decisions = refl; logins = refl }, (record { rows = tt; decisions = refl; logins = refl }, (record { rows = tt; decisions = refl; logins = refl }, (record { rows = tt; decisions = refl; logins = refl }, (record { rows = tt; decisions = refl; logins = refl }, (record { rows = tt; decisions = refl; logins = refl }, (record { rows = tt; decisions = refl; logins = refl }, (record { rows = tt; decisions = refl; logins = refl }, (record { rows = (refl, tt); decisions = refl; logins = refl }, (record { rows = tt; decisions = refl; logins = refl }, (record { rows = tt; decisions = refl; logins = refl }, (record { rows = tt; decisions = refl; logins = refl }, (record { rows = tt; decisions = refl; logins = refl }, (record { rows = tt; decisions = refl; logins = refl }, (record { rows = tt; decisions = refl; logins = refl }, tt)))))))))))))))))))))))))

login_media : MediaLaw journals.one_disk more.login_told
unfolding reading fault_of tcode_of header_of offset_of rcode_of value_of length_of extended_of three four part_of is_to is_same asked_by begun_by belongs start_at lowest_from label_for free_from count_flying lowest_flying label_of with_label is_write kind_of slot_of window_at is_fifo point_step doorbell_step reset_step abort_step reply_step lost_step refusal verdict request_of check_of blank_bytes command_kind elements_from made block_head decide reads_eui live_login response_bytes start_step reply_step_of_manager decide_step fresh_id left_for enter_step back_step leave_step
login_media = (record { pushes = refl; told = refl }, (record { pushes = refl; told = refl }, (record { pushes = refl; told = refl }, (record { pushes = refl; told = refl }, (record { pushes = refl; told = refl }, (record { pushes = refl; told = refl }, (record { pushes = refl; told = refl }, (record { pushes = refl; told = refl }, (record { pushes = refl; told = refl }, (record { pushes = refl; told = refl }, (record { pushes = refl; told = refl }, (record { pushes = refl; told = refl }, (record { pushes = refl; told = refl }, (record { pushes = refl; told = refl }, (record { pushes = refl; told = refl }, (record { pushes = refl; told = refl }, (record { pushes = refl; told = refl }, (record { pushes = refl; told = refl }, (record { pushes = refl; told = refl }, (record { pushes = refl; told = refl }, (record { pushes = refl; told = refl }, (record { pushes = refl; told = refl }, (record { pushes = refl; told = refl }, (record { pushes = refl; told = refl }, (record { pushes = refl; told = refl }, tt)))))))))))))))))))))))))

login_packets : EachMoment SentAt more.login_told
unfolding reading fault_of tcode_of header_of offset_of rcode_of value_of length_of extended_of three four part_of is_to is_same asked_by begun_by belongs start_at lowest_from label_for free_from count_flying lowest_flying label_of with_label is_write kind_of slot_of window_at is_fifo point_step doorbell_step reset_step abort_step reply_step lost_step refusal verdict request_of check_of blank_bytes command_kind elements_from made block_head decide reads_eui live_login response_bytes start_step reply_step_of_manager decide_step fresh_id left_for enter_step back_step leave_step
login_packets = (tt, (tt, ((refl, λ e. record { in_generation = refl; spelled = record { packet = write_response (journals.to_target 0) 0; canonical = refl; retry = refl; priority = refl; source = refl; destination = refl }; label = tt }), (tt, (tt, ((refl, λ e. record { in_generation = refl; spelled = record { packet = write_block (journals.to_first 0) 0x13000020 (quad_bytes (0x01000000 ∷ 0x12000020 ∷ [])); canonical = refl; retry = refl; priority = refl; source = refl; destination = refl }; label = refl }), (tt, ((refl, λ e. record { in_generation = refl; spelled = record { packet = write_response (journals.to_target 0) 0; canonical = refl; retry = refl; priority = refl; source = refl; destination = refl }; label = tt }), (tt, ((refl, λ e. record { in_generation = refl; spelled = record { packet = write_block (journals.to_first 0) 0x12001100 (more.next_response); canonical = refl; retry = refl; priority = refl; source = refl; destination = refl }; label = refl }), (tt, (tt, ((refl, λ e. record { in_generation = refl; spelled = record { packet = read_quadlet_response (journals.to_target 0) 0 1; canonical = refl; retry = refl; priority = refl; source = refl; destination = refl }; label = tt }), (tt, ((refl, λ e. record { in_generation = refl; spelled = record { packet = read_quadlet (journals.to_first 0) 0xfffff0000410; canonical = refl; retry = refl; priority = refl; source = refl; destination = refl }; label = refl }), (tt, ((refl, λ e. record { in_generation = refl; spelled = record { packet = read_quadlet_response (journals.to_target 0) 0 0x02000000; canonical = refl; retry = refl; priority = refl; source = refl; destination = refl }; label = tt }), (tt, ((refl, λ e. record { in_generation = refl; spelled = record { packet = read_quadlet (journals.to_first 0) 0xfffff000040c; canonical = refl; retry = refl; priority = refl; source = refl; destination = refl }; label = refl }), (tt, ((refl, λ e. record { in_generation = refl; spelled = record { packet = read_block_response (journals.to_target 0) 0 (management_bytes more.next_login_orb); canonical = refl; retry = refl; priority = refl; source = refl; destination = refl }; label = tt }), (tt, (tt, ((refl, λ e. record { in_generation = refl; spelled = record { packet = read_block (journals.to_first 0) 0x12000020 32; canonical = refl; retry = refl; priority = refl; source = refl; destination = refl }; label = refl }), ((refl, λ e. record { in_generation = refl; spelled = record { packet = write_response (journals.to_first 0) 0; canonical = refl; retry = refl; priority = refl; source = refl; destination = refl }; label = tt }), (tt, (tt, ((refl, λ e. record { in_generation = refl; spelled = record { packet = write_block (journals.to_target 0) 0xfffff0010000 (quad_bytes (0 ∷ 0x12000020 ∷ [])); canonical = refl; retry = refl; priority = refl; source = refl; destination = refl }; label = refl }), (tt, (tt, (tt, ((refl, λ e. record { in_generation = refl; spelled = record { packet = write_response (journals.to_target 0) 0; canonical = refl; retry = refl; priority = refl; source = refl; destination = refl }; label = tt }), (tt, (tt, ((refl, λ e. record { in_generation = refl; spelled = record { packet = write_block (journals.to_first 0) 0x12002000 (quad_bytes (0x01000000 ∷ 0x12000000 ∷ [])); canonical = refl; retry = refl; priority = refl; source = refl; destination = refl }; label = refl }), (tt, (tt, (tt, ((refl, λ e. record { in_generation = refl; spelled = record { packet = read_block_response (journals.to_target 0) 0 (management_bytes more.logout_orb); canonical = refl; retry = refl; priority = refl; source = refl; destination = refl }; label = tt }), (tt, (tt, ((refl, λ e. record { in_generation = refl; spelled = record { packet = read_block (journals.to_first 0) 0x12000000 32; canonical = refl; retry = refl; priority = refl; source = refl; destination = refl }; label = refl }), ((refl, λ e. record { in_generation = refl; spelled = record { packet = write_response (journals.to_first 0) 0; canonical = refl; retry = refl; priority = refl; source = refl; destination = refl }; label = tt }), (tt, (tt, ((refl, λ e. record { in_generation = refl; spelled = record { packet = write_block (journals.to_target 0) 0xfffff0010000 (quad_bytes (0 ∷ 0x12000000 ∷ [])); canonical = refl; retry = refl; priority = refl; source = refl; destination = refl }; label = refl }), (tt, (tt, (tt, tt)))))))))))))))))))))))))))))))))))))))))))))))))

login_answers : EachTurn (AnswersLaw journals.one_disk) more.login_told
unfolding reading fault_of tcode_of header_of offset_of rcode_of value_of length_of extended_of three four part_of is_to is_same asked_by begun_by belongs start_at lowest_from label_for free_from count_flying lowest_flying label_of with_label is_write kind_of slot_of window_at is_fifo point_step doorbell_step reset_step abort_step reply_step lost_step refusal verdict request_of check_of blank_bytes command_kind elements_from made block_head decide reads_eui live_login response_bytes start_step reply_step_of_manager decide_step fresh_id left_for enter_step back_step leave_step
login_answers = (tt, (tt, ((refl, tt), (tt, ((refl, tt), (tt, ((refl, tt), (tt, ((refl, tt), (tt, ((refl, tt), (tt, ((refl, tt), (tt, (tt, (tt, (tt, ((refl, tt), (tt, ((refl, tt), (tt, ((refl, tt), (tt, (tt, (tt, tt)))))))))))))))))))))))))

login_requests : EachTurn (RequestsLaw journals.one_disk) more.login_told
unfolding reading fault_of tcode_of header_of offset_of rcode_of value_of length_of extended_of three four part_of is_to is_same asked_by begun_by belongs start_at lowest_from label_for free_from count_flying lowest_flying label_of with_label is_write kind_of slot_of window_at is_fifo point_step doorbell_step reset_step abort_step reply_step lost_step refusal verdict request_of check_of blank_bytes command_kind elements_from made block_head decide reads_eui live_login response_bytes start_step reply_step_of_manager decide_step fresh_id left_for enter_step back_step leave_step
login_requests = (λ e. tt, (λ e. tt, (λ e. tt, (λ e. (record { number = refl; in_generation = refl; sender = refl; receiver = refl; label = refl; spelled = refl }, tt), (λ e. tt, (λ e. (record { number = refl; in_generation = refl; sender = refl; receiver = refl; label = refl; spelled = refl }, tt), (λ e. tt, (λ e. (record { number = refl; in_generation = refl; sender = refl; receiver = refl; label = refl; spelled = refl }, tt), (λ e. tt, (λ e. (record { number = refl; in_generation = refl; sender = refl; receiver = refl; label = refl; spelled = refl }, tt), (λ e. tt, (λ e. tt, (λ e. (record { number = refl; in_generation = refl; sender = refl; receiver = refl; label = refl; spelled = refl }, tt), (λ e. tt, (λ e. (record { number = refl; in_generation = refl; sender = refl; receiver = refl; label = refl; spelled = refl }, tt), (λ e. tt, (λ e. tt, (λ e. tt, (λ e. (record { number = refl; in_generation = refl; sender = refl; receiver = refl; label = refl; spelled = refl }, tt), (λ e. tt, (λ e. tt, (λ e. (record { number = refl; in_generation = refl; sender = refl; receiver = refl; label = refl; spelled = refl }, tt), (λ e. tt, (λ e. (record { number = refl; in_generation = refl; sender = refl; receiver = refl; label = refl; spelled = refl }, tt), (λ e. tt, tt)))))))))))))))))))))))))

login_statuses : EachTurn (StatusesAreSent journals.one_disk) more.login_told
unfolding reading fault_of tcode_of header_of offset_of rcode_of value_of length_of extended_of three four part_of is_to is_same asked_by begun_by belongs start_at lowest_from label_for free_from count_flying lowest_flying label_of with_label is_write kind_of slot_of window_at is_fifo point_step doorbell_step reset_step abort_step reply_step lost_step refusal verdict request_of check_of blank_bytes command_kind elements_from made block_head decide reads_eui live_login response_bytes start_step reply_step_of_manager decide_step fresh_id left_for enter_step back_step leave_step
login_statuses = (refl, (refl, (refl, (refl, (refl, (refl, (refl, (refl, (refl, (refl, (refl, (refl, (refl, (refl, (refl, (refl, (refl, (refl, (refl, (refl, (refl, (refl, (refl, (refl, (refl, tt)))))))))))))))))))))))))

login_decisions : EachTurn (DecisionsAreSent journals.one_disk) more.login_told
unfolding reading fault_of tcode_of header_of offset_of rcode_of value_of length_of extended_of three four part_of is_to is_same asked_by begun_by belongs start_at lowest_from label_for free_from count_flying lowest_flying label_of with_label is_write kind_of slot_of window_at is_fifo point_step doorbell_step reset_step abort_step reply_step lost_step refusal verdict request_of check_of blank_bytes command_kind elements_from made block_head decide reads_eui live_login response_bytes start_step reply_step_of_manager decide_step fresh_id left_for enter_step back_step leave_step
login_decisions = (refl, (refl, (refl, (refl, (refl, (refl, (refl, (refl, (refl, (refl, (refl, (refl, (refl, (refl, (refl, (refl, (refl, (refl, (refl, (refl, (refl, (refl, (refl, (refl, (refl, tt)))))))))))))))))))))))))

login_asked : EachMoment (NoneUnasked journals.one_disk) more.login_told
unfolding reading fault_of tcode_of header_of offset_of rcode_of value_of length_of extended_of three four part_of is_to is_same asked_by begun_by belongs start_at lowest_from label_for free_from count_flying lowest_flying label_of with_label is_write kind_of slot_of window_at is_fifo point_step doorbell_step reset_step abort_step reply_step lost_step refusal verdict request_of check_of blank_bytes command_kind elements_from made block_head decide reads_eui live_login response_bytes start_step reply_step_of_manager decide_step fresh_id left_for enter_step back_step leave_step
login_asked = (tt, (tt, (tt, (tt, (tt, (tt, (tt, (tt, (tt, (tt, (tt, (tt, (tt, (tt, (tt, (tt, (tt, (tt, (tt, (tt, (tt, (tt, (tt, (tt, (tt, (tt, (tt, (tt, (tt, (tt, (tt, (tt, (tt, (tt, (tt, (tt, (tt, (tt, (tt, (tt, (tt, (tt, (tt, (tt, (tt, (tt, (tt, (tt, (tt, tt)))))))))))))))))))))))))))))))))))))))))))))))))

login_after : EachTurn (AfterTurn journals.one_disk) more.login_told
unfolding reading fault_of tcode_of header_of offset_of rcode_of value_of length_of extended_of three four part_of is_to is_same asked_by begun_by belongs start_at lowest_from label_for free_from count_flying lowest_flying label_of with_label is_write kind_of slot_of window_at is_fifo point_step doorbell_step reset_step abort_step reply_step lost_step refusal verdict request_of check_of blank_bytes command_kind elements_from made block_head decide reads_eui live_login response_bytes start_step reply_step_of_manager decide_step fresh_id left_for enter_step back_step leave_step
login_after = (record { agents = (tt, (tt, (tt, (tt, (tt, (tt, (tt, (tt, tt)))))))); management = tt; roms = (tt, tt) }, (record { agents = (tt, (tt, (tt, (tt, (tt, (tt, (tt, (tt, tt)))))))); management = tt; roms = (tt, tt) }, (record { agents = (tt, (tt, (tt, (tt, (tt, (tt, (tt, (tt, tt)))))))); management = refl; roms = (tt, tt) }, (record { agents = (tt, (tt, (tt, (tt, (tt, (tt, (tt, (tt, tt)))))))); management = refl; roms = (tt, tt) }, (record { agents = (tt, (tt, (tt, (tt, (tt, (tt, (tt, (tt, tt)))))))); management = refl; roms = (tt, tt) }, (record { agents = (tt, (tt, (tt, (tt, (tt, (tt, (tt, (tt, tt)))))))); management = refl; roms = (tt, tt) }, (record { agents = (tt, (tt, (tt, (tt, (tt, (tt, (tt, (tt, tt)))))))); management = refl; roms = (tt, tt) }, (record { agents = (tt, (tt, (tt, (tt, (tt, (tt, (tt, (tt, tt)))))))); management = refl; roms = (tt, tt) }, (record { agents = (tt, (tt, (tt, (tt, (tt, (tt, (tt, (tt, tt)))))))); management = refl; roms = (tt, tt) }, (record { agents = (tt, (tt, (tt, (tt, (tt, (tt, (tt, (tt, tt)))))))); management = refl; roms = (tt, tt) }, (record { agents = (tt, (tt, (tt, (tt, (tt, (tt, (tt, (tt, tt)))))))); management = refl; roms = (tt, tt) }, (record { agents = (tt, (tt, (tt, (tt, (tt, (tt, (tt, (tt, tt)))))))); management = refl; roms = (tt, tt) }, (record { agents = (tt, (tt, (tt, (tt, (tt, (tt, (tt, (tt, tt)))))))); management = refl; roms = (tt, tt) }, (record { agents = (tt, (tt, (tt, (tt, (tt, (tt, (tt, (tt, tt)))))))); management = tt; roms = (tt, tt) }, (record { agents = (tt, (tt, (tt, (tt, (tt, (tt, (tt, (tt, tt)))))))); management = tt; roms = (tt, tt) }, (record { agents = (tt, (tt, (tt, (tt, (tt, (tt, (tt, (tt, tt)))))))); management = tt; roms = (tt, tt) }, (record { agents = (tt, (tt, (tt, (tt, (tt, (tt, (tt, (tt, tt)))))))); management = tt; roms = (tt, tt) }, (record { agents = (tt, (tt, (tt, (tt, (tt, (tt, (tt, (tt, tt)))))))); management = refl; roms = (tt, tt) }, (record { agents = (tt, (tt, (tt, (tt, (tt, (tt, (tt, (tt, tt)))))))); management = refl; roms = (tt, tt) }, (record { agents = (tt, (tt, (tt, (tt, (tt, (tt, (tt, (tt, tt)))))))); management = refl; roms = (tt, tt) }, (record { agents = (tt, (tt, (tt, (tt, (tt, (tt, (tt, (tt, tt)))))))); management = refl; roms = (tt, tt) }, (record { agents = (tt, (tt, (tt, (tt, (tt, (tt, (tt, (tt, tt)))))))); management = refl; roms = (tt, tt) }, (record { agents = (tt, (tt, (tt, (tt, (tt, (tt, (tt, (tt, tt)))))))); management = tt; roms = (tt, tt) }, (record { agents = (tt, (tt, (tt, (tt, (tt, (tt, (tt, (tt, tt)))))))); management = tt; roms = (tt, tt) }, (record { agents = (tt, (tt, (tt, (tt, (tt, (tt, (tt, (tt, tt)))))))); management = tt; roms = (tt, tt) }, tt)))))))))))))))))))))))))

login_once : OnceLaw nobody more.login_told
unfolding reading fault_of tcode_of header_of offset_of rcode_of value_of length_of extended_of three four part_of is_to is_same asked_by begun_by belongs start_at lowest_from label_for free_from count_flying lowest_flying label_of with_label is_write kind_of slot_of window_at is_fifo point_step doorbell_step reset_step abort_step reply_step lost_step refusal verdict request_of check_of blank_bytes command_kind elements_from made block_head decide reads_eui live_login response_bytes start_step reply_step_of_manager decide_step fresh_id left_for enter_step back_step leave_step
login_once = (tt, ((λ e. refl, λ e. record { once = refl; served = refl }), (tt, (tt, ((λ e. refl, tt), (tt, ((λ e. refl, λ e. record { once = refl; served = refl }), (tt, ((λ e. refl, tt), (tt, (tt, ((λ e. refl, λ e. record { once = refl; served = refl }), (tt, ((λ e. refl, tt), (tt, ((λ e. refl, λ e. record { once = refl; served = refl }), (tt, ((λ e. refl, tt), (tt, ((λ e. refl, λ e. record { once = refl; served = refl }), (tt, ((λ e. refl, tt), ((λ e. refl, λ e. record { once = refl; served = refl }), (tt, (tt, ((λ e. refl, tt), (tt, (tt, (tt, (tt, ((λ e. refl, λ e. record { once = refl; served = refl }), (tt, (tt, ((λ e. refl, tt), (tt, (tt, (tt, ((λ e. refl, λ e. record { once = refl; served = refl }), (tt, ((λ e. refl, tt), ((λ e. refl, λ e. record { once = refl; served = refl }), (tt, (tt, ((λ e. refl, tt), (tt, (tt, (tt, (tt, (tt, tt)))))))))))))))))))))))))))))))))))))))))))))))))

login_order : OrderLaw nobody more.login_told
unfolding reading fault_of tcode_of header_of offset_of rcode_of value_of length_of extended_of three four part_of is_to is_same asked_by begun_by belongs start_at lowest_from label_for free_from count_flying lowest_flying label_of with_label is_write kind_of slot_of window_at is_fifo point_step doorbell_step reset_step abort_step reply_step lost_step refusal verdict request_of check_of blank_bytes command_kind elements_from made block_head decide reads_eui live_login response_bytes start_step reply_step_of_manager decide_step fresh_id left_for enter_step back_step leave_step
login_order = (tt, (tt, (tt, (tt, (tt, (tt, (tt, (tt, (tt, (tt, (tt, (tt, (tt, (tt, (tt, (tt, (tt, (tt, (tt, (tt, (tt, (tt, (tt, (tt, (tt, (tt, (tt, (tt, (tt, (tt, (tt, (tt, (tt, (tt, (tt, (tt, (tt, (tt, (tt, (tt, (tt, (tt, (tt, (tt, (tt, (tt, (tt, (tt, (tt, tt)))))))))))))))))))))))))))))))))))))))))))))))))

login_execution : ExecutionLaw nobody journals.one_disk more.login_told
unfolding reading fault_of tcode_of header_of offset_of rcode_of value_of length_of extended_of three four part_of is_to is_same asked_by begun_by belongs start_at lowest_from label_for free_from count_flying lowest_flying label_of with_label is_write kind_of slot_of window_at is_fifo point_step doorbell_step reset_step abort_step reply_step lost_step refusal verdict request_of check_of blank_bytes command_kind elements_from made block_head decide reads_eui live_login response_bytes start_step reply_step_of_manager decide_step fresh_id left_for enter_step back_step leave_step
login_execution = (tt, (tt, (tt, (tt, (tt, (tt, (tt, (tt, (tt, (tt, (tt, (tt, (tt, (tt, (tt, (tt, (tt, (tt, (tt, (tt, (tt, (tt, (tt, (tt, (tt, (tt, (tt, (tt, (tt, (tt, (tt, (tt, (tt, (tt, (tt, (tt, (tt, (tt, (tt, (tt, (tt, (tt, (tt, (tt, (tt, (tt, (tt, (tt, (tt, tt)))))))))))))))))))))))))))))))))))))))))))))))))

login_carried : CarriedLaw nobody journals.one_disk more.login_told
unfolding reading fault_of tcode_of header_of offset_of rcode_of value_of length_of extended_of three four part_of is_to is_same asked_by begun_by belongs start_at lowest_from label_for free_from count_flying lowest_flying label_of with_label is_write kind_of slot_of window_at is_fifo point_step doorbell_step reset_step abort_step reply_step lost_step refusal verdict request_of check_of blank_bytes command_kind elements_from made block_head decide reads_eui live_login response_bytes start_step reply_step_of_manager decide_step fresh_id left_for enter_step back_step leave_step
login_carried = record { carried = (tt, (tt, (tt, (tt, (tt, (tt, (tt, (tt, (tt, (tt, (tt, (tt, (tt, (tt, (tt, (tt, (tt, (tt, (tt, (tt, (tt, (tt, (tt, (tt, (tt, (tt, (tt, (tt, (tt, (tt, (tt, (tt, (tt, (tt, (tt, (tt, (tt, (tt, (tt, (tt, (tt, (tt, (tt, (tt, (tt, (tt, (tt, (tt, (tt, tt))))))))))))))))))))))))))))))))))))))))))))))))); due = (refl, (refl, (refl, (refl, (refl, (refl, (refl, (refl, (refl, (refl, (refl, (refl, (refl, (refl, (refl, (refl, (refl, (refl, (refl, (refl, (refl, (refl, (refl, (refl, (refl, tt))))))))))))))))))))))))) }

login_status : StatusLaw nobody more.login_told
unfolding reading fault_of tcode_of header_of offset_of rcode_of value_of length_of extended_of three four part_of is_to is_same asked_by begun_by belongs start_at lowest_from label_for free_from count_flying lowest_flying label_of with_label is_write kind_of slot_of window_at is_fifo point_step doorbell_step reset_step abort_step reply_step lost_step refusal verdict request_of check_of blank_bytes command_kind elements_from made block_head decide reads_eui live_login response_bytes start_step reply_step_of_manager decide_step fresh_id left_for enter_step back_step leave_step
login_status = record { taken = (tt, (tt, (tt, (tt, (tt, (tt, (tt, (tt, (tt, (tt, (tt, (tt, (tt, (tt, (tt, (tt, (tt, (tt, (tt, (tt, (tt, (tt, (tt, (tt, (tt, (tt, (tt, (tt, (tt, (tt, (tt, (tt, (tt, (tt, (tt, (tt, (tt, (tt, (tt, (tt, (tt, (tt, (tt, (tt, (tt, (tt, (tt, (tt, (tt, tt))))))))))))))))))))))))))))))))))))))))))))))))); each = (refl, (refl, (refl, (refl, (refl, (refl, (refl, (refl, (refl, (refl, (refl, (refl, (refl, (refl, (refl, (refl, (refl, (refl, (refl, (refl, (refl, (refl, (refl, (refl, (refl, tt))))))))))))))))))))))))) }

login_answer : AnswerLaw nobody journals.one_disk more.login_told
unfolding reading fault_of tcode_of header_of offset_of rcode_of value_of length_of extended_of three four part_of is_to is_same asked_by begun_by belongs start_at lowest_from label_for free_from count_flying lowest_flying label_of with_label is_write kind_of slot_of window_at is_fifo point_step doorbell_step reset_step abort_step reply_step lost_step refusal verdict request_of check_of blank_bytes command_kind elements_from made block_head decide reads_eui live_login response_bytes start_step reply_step_of_manager decide_step fresh_id left_for enter_step back_step leave_step
login_answer = (tt, (tt, (tt, (tt, (tt, (tt, (tt, (tt, (tt, (tt, (tt, (tt, (tt, (tt, (tt, (tt, (tt, (tt, (tt, (tt, (tt, (tt, (tt, (tt, (tt, (tt, (tt, (tt, (tt, (tt, (tt, (tt, (tt, (tt, (tt, (tt, (tt, (tt, (tt, (tt, (tt, (tt, (tt, (tt, (tt, (tt, (tt, (tt, (tt, tt)))))))))))))))))))))))))))))))))))))))))))))))))

reconnect_cause : CauseLaw journals.one_disk more.reconnect_told
unfolding reading fault_of tcode_of header_of offset_of rcode_of value_of length_of extended_of three four part_of is_to is_same asked_by begun_by belongs start_at lowest_from label_for free_from count_flying lowest_flying label_of with_label is_write kind_of slot_of window_at is_fifo point_step doorbell_step reset_step abort_step reply_step lost_step refusal verdict request_of check_of blank_bytes command_kind elements_from made block_head decide reads_eui live_login response_bytes start_step reply_step_of_manager decide_step fresh_id left_for enter_step back_step leave_step
reconnect_cause = record { causes = (record { cuts = refl; cleared = refl; ends = refl; deaths = tt; faults = tt; failures = refl; operations = refl; unserved = tt; codes = tt; failing = tt; once = refl; aborts = refl; decided = record { cut = refl; cleared = refl; moved = refl }; silent = refl }, (record { cuts = refl; cleared = refl; ends = refl; deaths = tt; faults = tt; failures = refl; operations = refl; unserved = tt; codes = tt; failing = tt; once = refl; aborts = refl; decided = record { cut = refl; cleared = refl; moved = refl }; silent = refl }, (record { cuts = refl; cleared = refl; ends = refl; deaths = tt; faults = tt; failures = refl; operations = refl; unserved = tt; codes = tt; failing = tt; once = refl; aborts = refl; decided = record { cut = refl; cleared = refl; moved = refl }; silent = refl }, (record { cuts = refl; cleared = refl; ends = refl; deaths = tt; faults = tt; failures = refl; operations = refl; unserved = tt; codes = tt; failing = tt; once = refl; aborts = refl; decided = record { cut = refl; cleared = refl; moved = refl }; silent = refl }, (record { cuts = refl; cleared = refl; ends = refl; deaths = tt; faults = tt; failures = refl; operations = refl; unserved = tt; codes = tt; failing = tt; once = refl; aborts = refl; decided = record { cut = refl; cleared = refl; moved = refl }; silent = refl }, (record { cuts = refl; cleared = refl; ends = refl; deaths = tt; faults = tt; failures = refl; operations = refl; unserved = tt; codes = tt; failing = tt; once = refl; aborts = refl; decided = record { cut = refl; cleared = refl; moved = refl }; silent = refl }, (record { cuts = refl; cleared = refl; ends = refl; deaths = tt; faults = tt; failures = refl; operations = refl; unserved = tt; codes = tt; failing = tt; once = refl; aborts = refl; decided = record { cut = refl; cleared = refl; moved = refl }; silent = refl }, (record { cuts = refl; cleared = refl; ends = refl; deaths = tt; faults = tt; failures = refl; operations = refl; unserved = tt; codes = tt; failing = tt; once = refl; aborts = refl; decided = record { cut = refl; cleared = refl; moved = refl }; silent = refl }, (record { cuts = refl; cleared = refl; ends = refl; deaths = tt; faults = tt; failures = refl; operations = refl; unserved = tt; codes = tt; failing = tt; once = refl; aborts = refl; decided = record { cut = refl; cleared = refl; moved = refl }; silent = refl }, (record { cuts = refl; cleared = refl; ends = refl; deaths = tt; faults = tt; failures = refl; operations = refl; unserved = tt; codes = tt; failing = tt; once = refl; aborts = refl; decided = record { cut = refl; cleared = refl; moved = refl }; silent = refl }, (record { cuts = refl; cleared = refl; ends = refl; deaths = tt; faults = tt; failures = refl; operations = refl; unserved = tt; codes = tt; failing = tt; once = refl; aborts = refl; decided = record { cut = refl; cleared = refl; moved = refl }; silent = refl }, (record { cuts = refl; cleared = refl; ends = refl; deaths = tt; faults = tt; failures = refl; operations = refl; unserved = tt; codes = tt; failing = tt; once = refl; aborts = refl; decided = record { cut = refl; cleared = refl; moved = refl }; silent = refl }, (record { cuts = refl; cleared = refl; ends = refl; deaths = tt; faults = tt; failures = refl; operations = refl; unserved = tt; codes = tt; failing = tt; once = refl; aborts = refl; decided = record { cut = refl; cleared = refl; moved = refl }; silent = refl }, (record { cuts = refl; cleared = refl; ends = refl; deaths = tt; faults = tt; failures = refl; operations = refl; unserved = tt; codes = tt; failing = tt; once = refl; aborts = refl; decided = record { cut = refl; cleared = refl; moved = refl }; silent = refl }, (record { cuts = refl; cleared = refl; ends = refl; deaths = tt; faults = tt; failures = refl; operations = refl; unserved = tt; codes = tt; failing = tt; once = refl; aborts = refl; decided = record { cut = refl; cleared = refl; moved = refl }; silent = refl }, (record { cuts = refl; cleared = refl; ends = refl; deaths = tt; faults = tt; failures = refl; operations = refl; unserved = tt; codes = tt; failing = tt; once = refl; aborts = refl; decided = record { cut = refl; cleared = refl; moved = refl }; silent = refl }, (record { cuts = refl; cleared = refl; ends = refl; deaths = tt; faults = tt; failures = refl; operations = refl; unserved = tt; codes = tt; failing = tt; once = refl; aborts = refl; decided = record { cut = refl; cleared = refl; moved = refl }; silent = refl }, (record { cuts = refl; cleared = refl; ends = refl; deaths = tt; faults = tt; failures = refl; operations = refl; unserved = tt; codes = tt; failing = tt; once = refl; aborts = refl; decided = record { cut = refl; cleared = refl; moved = refl }; silent = refl }, (record { cuts = refl; cleared = refl; ends = refl; deaths = tt; faults = tt; failures = refl; operations = refl; unserved = tt; codes = tt; failing = tt; once = refl; aborts = refl; decided = record { cut = refl; cleared = refl; moved = refl }; silent = refl }, tt))))))))))))))))))); aborted = (tt, (tt, (tt, (tt, (tt, (tt, (tt, (tt, (tt, (tt, (tt, (tt, (tt, (tt, (tt, (tt, (tt, (tt, (tt, (tt, (tt, (tt, (tt, (tt, (tt, (tt, (tt, (tt, (tt, (tt, (tt, (tt, (tt, (tt, (tt, tt))))))))))))))))))))))))))))))))))) }

reconnect_judged : JudgementLaw journals.one_disk more.reconnect_told
unfolding reading fault_of tcode_of header_of offset_of rcode_of value_of length_of extended_of three four part_of is_to is_same asked_by begun_by belongs start_at lowest_from label_for free_from count_flying lowest_flying label_of with_label is_write kind_of slot_of window_at is_fifo point_step doorbell_step reset_step abort_step reply_step lost_step refusal verdict request_of check_of blank_bytes command_kind elements_from made block_head decide reads_eui live_login response_bytes start_step reply_step_of_manager decide_step fresh_id left_for enter_step back_step leave_step
reconnect_judged = (tt, (refl, (refl, (refl, (refl, (refl, (refl, (refl, (refl, (refl, (refl, (tt, (tt, (tt, (tt, (tt, (tt, (tt, (tt, tt)))))))))))))))))))

reconnect_login : LoginLaw journals.one_disk more.reconnect_told
unfolding reading fault_of tcode_of header_of offset_of rcode_of value_of length_of extended_of three four part_of is_to is_same asked_by begun_by belongs start_at lowest_from label_for free_from count_flying lowest_flying label_of with_label is_write kind_of slot_of window_at is_fifo point_step doorbell_step reset_step abort_step reply_step lost_step refusal verdict request_of check_of blank_bytes command_kind elements_from made block_head decide reads_eui live_login response_bytes start_step reply_step_of_manager decide_step fresh_id left_for enter_step back_step leave_step
reconnect_login = (record { rows = tt; decisions = refl; logins = refl }, (record { rows = tt; decisions = refl; logins = refl }, (record { rows = tt; decisions = refl; logins = refl }, (record { rows = (refl, tt); decisions = refl; logins = refl }, (record { rows = tt; decisions = refl; logins = refl }, (record { rows = tt; decisions = refl; logins = refl }, (record { rows = tt; decisions = refl; logins = refl }, (record { rows = tt; decisions = refl; logins = refl }, (record { rows = tt; decisions = refl; logins = refl }, (record { rows = tt; decisions = refl; logins = refl }, (record { rows = tt; decisions = refl; logins = refl }, (record { rows = tt; decisions = refl; logins = refl }, (record { rows = tt; decisions = refl; logins = refl }, (record { rows = tt; decisions = refl; logins = refl }, (record { rows = tt; decisions = refl; logins = refl }, (record { rows = tt; decisions = refl; logins = refl }, (record { rows = tt; decisions = refl; logins = refl }, (record { rows = tt; decisions = refl; logins = refl }, (record { rows = tt; decisions = refl; logins = refl }, tt)))))))))))))))))))

reconnect_media : MediaLaw journals.one_disk more.reconnect_told
unfolding reading fault_of tcode_of header_of offset_of rcode_of value_of length_of extended_of three four part_of is_to is_same asked_by begun_by belongs start_at lowest_from label_for free_from count_flying lowest_flying label_of with_label is_write kind_of slot_of window_at is_fifo point_step doorbell_step reset_step abort_step reply_step lost_step refusal verdict request_of check_of blank_bytes command_kind elements_from made block_head decide reads_eui live_login response_bytes start_step reply_step_of_manager decide_step fresh_id left_for enter_step back_step leave_step
reconnect_media = (record { pushes = refl; told = refl }, (record { pushes = refl; told = refl }, (record { pushes = refl; told = refl }, (record { pushes = refl; told = refl }, (record { pushes = refl; told = refl }, (record { pushes = refl; told = refl }, (record { pushes = refl; told = refl }, (record { pushes = refl; told = refl }, (record { pushes = refl; told = refl }, (record { pushes = refl; told = refl }, (record { pushes = refl; told = refl }, (record { pushes = refl; told = refl }, (record { pushes = refl; told = refl }, (record { pushes = refl; told = refl }, (record { pushes = refl; told = refl }, (record { pushes = refl; told = refl }, (record { pushes = refl; told = refl }, (record { pushes = refl; told = refl }, (record { pushes = refl; told = refl }, tt)))))))))))))))))))

reconnect_packets : EachMoment SentAt more.reconnect_told
unfolding reading fault_of tcode_of header_of offset_of rcode_of value_of length_of extended_of three four part_of is_to is_same asked_by begun_by belongs start_at lowest_from label_for free_from count_flying lowest_flying label_of with_label is_write kind_of slot_of window_at is_fifo point_step doorbell_step reset_step abort_step reply_step lost_step refusal verdict request_of check_of blank_bytes command_kind elements_from made block_head decide reads_eui live_login response_bytes start_step reply_step_of_manager decide_step fresh_id left_for enter_step back_step leave_step
reconnect_packets = (tt, (tt, ((refl, λ e. record { in_generation = refl; spelled = record { packet = write_response (more.to_new_target) 0; canonical = refl; retry = refl; priority = refl; source = refl; destination = refl }; label = tt }), (tt, (tt, ((refl, λ e. record { in_generation = refl; spelled = record { packet = write_block (more.to_new_first) 0x12002000 (quad_bytes (0x01000000 ∷ 0x12000000 ∷ [])); canonical = refl; retry = refl; priority = refl; source = refl; destination = refl }; label = refl }), (tt, (tt, (tt, ((refl, λ e. record { in_generation = refl; spelled = record { packet = read_quadlet_response (more.to_new_target) 0 1; canonical = refl; retry = refl; priority = refl; source = refl; destination = refl }; label = tt }), (tt, ((refl, λ e. record { in_generation = refl; spelled = record { packet = read_quadlet (more.to_new_first) 0xfffff0000410; canonical = refl; retry = refl; priority = refl; source = refl; destination = refl }; label = refl }), (tt, ((refl, λ e. record { in_generation = refl; spelled = record { packet = read_quadlet_response (more.to_new_target) 0 0x02000000; canonical = refl; retry = refl; priority = refl; source = refl; destination = refl }; label = tt }), (tt, ((refl, λ e. record { in_generation = refl; spelled = record { packet = read_quadlet (more.to_new_first) 0xfffff000040c; canonical = refl; retry = refl; priority = refl; source = refl; destination = refl }; label = refl }), (tt, ((refl, λ e. record { in_generation = refl; spelled = record { packet = read_block_response more.to_new_target 0 (management_bytes more.reconnect_orb); canonical = refl; retry = refl; priority = refl; source = refl; destination = refl }; label = tt }), (tt, (tt, ((refl, λ e. record { in_generation = refl; spelled = record { packet = read_block more.to_new_first 0x12000000 32; canonical = refl; retry = refl; priority = refl; source = refl; destination = refl }; label = refl }), ((refl, λ e. record { in_generation = refl; spelled = record { packet = write_response (more.to_new_first) 0; canonical = refl; retry = refl; priority = refl; source = refl; destination = refl }; label = tt }), (tt, (tt, ((refl, λ e. record { in_generation = refl; spelled = record { packet = write_block (more.to_new_target) 0xfffff0010000 (quad_bytes (0 ∷ 0x12000000 ∷ [])); canonical = refl; retry = refl; priority = refl; source = refl; destination = refl }; label = refl }), (tt, (tt, (tt, (tt, (tt, (tt, (tt, (tt, (tt, (tt, tt)))))))))))))))))))))))))))))))))))

reconnect_answers : EachTurn (AnswersLaw journals.one_disk) more.reconnect_told
unfolding reading fault_of tcode_of header_of offset_of rcode_of value_of length_of extended_of three four part_of is_to is_same asked_by begun_by belongs start_at lowest_from label_for free_from count_flying lowest_flying label_of with_label is_write kind_of slot_of window_at is_fifo point_step doorbell_step reset_step abort_step reply_step lost_step refusal verdict request_of check_of blank_bytes command_kind elements_from made block_head decide reads_eui live_login response_bytes start_step reply_step_of_manager decide_step fresh_id left_for enter_step back_step leave_step
reconnect_answers = (tt, (tt, ((refl, tt), (tt, ((refl, tt), (tt, ((refl, tt), (tt, ((refl, tt), (tt, ((refl, tt), (tt, (tt, (tt, (tt, (tt, (tt, (tt, (tt, tt)))))))))))))))))))

reconnect_requests : EachTurn (RequestsLaw journals.one_disk) more.reconnect_told
unfolding reading fault_of tcode_of header_of offset_of rcode_of value_of length_of extended_of three four part_of is_to is_same asked_by begun_by belongs start_at lowest_from label_for free_from count_flying lowest_flying label_of with_label is_write kind_of slot_of window_at is_fifo point_step doorbell_step reset_step abort_step reply_step lost_step refusal verdict request_of check_of blank_bytes command_kind elements_from made block_head decide reads_eui live_login response_bytes start_step reply_step_of_manager decide_step fresh_id left_for enter_step back_step leave_step
reconnect_requests = (λ e. tt, (λ e. tt, (λ e. tt, (λ e. (record { number = refl; in_generation = refl; sender = refl; receiver = refl; label = refl; spelled = refl }, tt), (λ e. tt, (λ e. (record { number = refl; in_generation = refl; sender = refl; receiver = refl; label = refl; spelled = refl }, tt), (λ e. tt, (λ e. (record { number = refl; in_generation = refl; sender = refl; receiver = refl; label = refl; spelled = refl }, tt), (λ e. tt, (λ e. tt, (λ e. (record { number = refl; in_generation = refl; sender = refl; receiver = refl; label = refl; spelled = refl }, tt), (λ e. tt, (λ e. (record { number = refl; in_generation = refl; sender = refl; receiver = refl; label = refl; spelled = refl }, tt), (λ e. tt, (λ e. tt, (λ e. tt, (λ e. tt, (λ e. tt, (λ e. tt, tt)))))))))))))))))))

reconnect_statuses : EachTurn (StatusesAreSent journals.one_disk) more.reconnect_told
unfolding reading fault_of tcode_of header_of offset_of rcode_of value_of length_of extended_of three four part_of is_to is_same asked_by begun_by belongs start_at lowest_from label_for free_from count_flying lowest_flying label_of with_label is_write kind_of slot_of window_at is_fifo point_step doorbell_step reset_step abort_step reply_step lost_step refusal verdict request_of check_of blank_bytes command_kind elements_from made block_head decide reads_eui live_login response_bytes start_step reply_step_of_manager decide_step fresh_id left_for enter_step back_step leave_step
reconnect_statuses = (refl, (refl, (refl, (refl, (refl, (refl, (refl, (refl, (refl, (refl, (refl, (refl, (refl, (refl, (refl, (refl, (refl, (refl, (refl, tt)))))))))))))))))))

reconnect_decisions : EachTurn (DecisionsAreSent journals.one_disk) more.reconnect_told
unfolding reading fault_of tcode_of header_of offset_of rcode_of value_of length_of extended_of three four part_of is_to is_same asked_by begun_by belongs start_at lowest_from label_for free_from count_flying lowest_flying label_of with_label is_write kind_of slot_of window_at is_fifo point_step doorbell_step reset_step abort_step reply_step lost_step refusal verdict request_of check_of blank_bytes command_kind elements_from made block_head decide reads_eui live_login response_bytes start_step reply_step_of_manager decide_step fresh_id left_for enter_step back_step leave_step
reconnect_decisions = (refl, (refl, (refl, (refl, (refl, (refl, (refl, (refl, (refl, (refl, (refl, (refl, (refl, (refl, (refl, (refl, (refl, (refl, (refl, tt)))))))))))))))))))

reconnect_asked : EachMoment (NoneUnasked journals.one_disk) more.reconnect_told
unfolding reading fault_of tcode_of header_of offset_of rcode_of value_of length_of extended_of three four part_of is_to is_same asked_by begun_by belongs start_at lowest_from label_for free_from count_flying lowest_flying label_of with_label is_write kind_of slot_of window_at is_fifo point_step doorbell_step reset_step abort_step reply_step lost_step refusal verdict request_of check_of blank_bytes command_kind elements_from made block_head decide reads_eui live_login response_bytes start_step reply_step_of_manager decide_step fresh_id left_for enter_step back_step leave_step
reconnect_asked = (tt, (tt, (tt, (tt, (tt, (tt, (tt, (tt, (tt, (tt, (tt, (tt, (tt, (tt, (tt, (tt, (tt, (tt, (tt, (tt, (tt, (tt, (tt, (tt, (tt, (tt, (tt, (tt, (tt, (tt, (tt, (tt, (tt, (tt, (tt, tt)))))))))))))))))))))))))))))))))))

reconnect_after : EachTurn (AfterTurn journals.one_disk) more.reconnect_told
unfolding reading fault_of tcode_of header_of offset_of rcode_of value_of length_of extended_of three four part_of is_to is_same asked_by begun_by belongs start_at lowest_from label_for free_from count_flying lowest_flying label_of with_label is_write kind_of slot_of window_at is_fifo point_step doorbell_step reset_step abort_step reply_step lost_step refusal verdict request_of check_of blank_bytes command_kind elements_from made block_head decide reads_eui live_login response_bytes start_step reply_step_of_manager decide_step fresh_id left_for enter_step back_step leave_step
reconnect_after = (record { agents = (tt, (tt, (tt, (tt, (tt, (tt, (tt, (tt, tt)))))))); management = tt; roms = (tt, tt) }, (record { agents = (tt, (tt, (tt, (tt, (tt, (tt, (tt, (tt, tt)))))))); management = tt; roms = (tt, tt) }, (record { agents = (tt, (tt, (tt, (tt, (tt, (tt, (tt, (tt, tt)))))))); management = refl; roms = (tt, tt) }, (record { agents = (tt, (tt, (tt, (tt, (tt, (tt, (tt, (tt, tt)))))))); management = refl; roms = (tt, tt) }, (record { agents = (tt, (tt, (tt, (tt, (tt, (tt, (tt, (tt, tt)))))))); management = refl; roms = (tt, tt) }, (record { agents = (tt, (tt, (tt, (tt, (tt, (tt, (tt, (tt, tt)))))))); management = refl; roms = (tt, tt) }, (record { agents = (tt, (tt, (tt, (tt, (tt, (tt, (tt, (tt, tt)))))))); management = refl; roms = (tt, tt) }, (record { agents = (tt, (tt, (tt, (tt, (tt, (tt, (tt, (tt, tt)))))))); management = refl; roms = (tt, tt) }, (record { agents = (tt, (tt, (tt, (tt, (tt, (tt, (tt, (tt, tt)))))))); management = refl; roms = (tt, tt) }, (record { agents = (tt, (tt, (tt, (tt, (tt, (tt, (tt, (tt, tt)))))))); management = refl; roms = (tt, tt) }, (record { agents = (tt, (tt, (tt, (tt, (tt, (tt, (tt, (tt, tt)))))))); management = refl; roms = (tt, tt) }, (record { agents = (tt, (tt, (tt, (tt, (tt, (tt, (tt, (tt, tt)))))))); management = tt; roms = (tt, tt) }, (record { agents = (tt, (tt, (tt, (tt, (tt, (tt, (tt, (tt, tt)))))))); management = tt; roms = (tt, tt) }, (record { agents = (tt, (tt, (tt, (tt, (tt, (tt, (tt, (tt, tt)))))))); management = tt; roms = (tt, tt) }, (record { agents = (tt, (tt, (tt, (tt, (tt, (tt, (tt, (tt, tt)))))))); management = tt; roms = (tt, tt) }, (record { agents = (tt, (tt, (tt, (tt, (tt, (tt, (tt, (tt, tt)))))))); management = tt; roms = (tt, tt) }, (record { agents = (tt, (tt, (tt, (tt, (tt, (tt, (tt, (tt, tt)))))))); management = tt; roms = (tt, tt) }, (record { agents = (tt, (tt, (tt, (tt, (tt, (tt, (tt, (tt, tt)))))))); management = tt; roms = (tt, tt) }, (record { agents = (tt, (tt, (tt, (tt, (tt, (tt, (tt, (tt, tt)))))))); management = tt; roms = (tt, tt) }, tt)))))))))))))))))))

reconnect_once : OnceLaw nobody more.reconnect_told
unfolding reading fault_of tcode_of header_of offset_of rcode_of value_of length_of extended_of three four part_of is_to is_same asked_by begun_by belongs start_at lowest_from label_for free_from count_flying lowest_flying label_of with_label is_write kind_of slot_of window_at is_fifo point_step doorbell_step reset_step abort_step reply_step lost_step refusal verdict request_of check_of blank_bytes command_kind elements_from made block_head decide reads_eui live_login response_bytes start_step reply_step_of_manager decide_step fresh_id left_for enter_step back_step leave_step
reconnect_once = (tt, ((λ e. refl, λ e. record { once = refl; served = refl }), (tt, (tt, ((λ e. refl, tt), (tt, (tt, (tt, ((λ e. refl, λ e. record { once = refl; served = refl }), (tt, ((λ e. refl, tt), (tt, ((λ e. refl, λ e. record { once = refl; served = refl }), (tt, ((λ e. refl, tt), (tt, ((λ e. refl, λ e. record { once = refl; served = refl }), (tt, ((λ e. refl, tt), ((λ e. refl, λ e. record { once = refl; served = refl }), (tt, (tt, ((λ e. refl, tt), (tt, (tt, (tt, (tt, (tt, (tt, (tt, (tt, (tt, (tt, (tt, (tt, tt)))))))))))))))))))))))))))))))))))

reconnect_order : OrderLaw nobody more.reconnect_told
unfolding reading fault_of tcode_of header_of offset_of rcode_of value_of length_of extended_of three four part_of is_to is_same asked_by begun_by belongs start_at lowest_from label_for free_from count_flying lowest_flying label_of with_label is_write kind_of slot_of window_at is_fifo point_step doorbell_step reset_step abort_step reply_step lost_step refusal verdict request_of check_of blank_bytes command_kind elements_from made block_head decide reads_eui live_login response_bytes start_step reply_step_of_manager decide_step fresh_id left_for enter_step back_step leave_step
reconnect_order = (tt, (tt, (tt, (tt, (tt, (tt, (tt, (tt, (tt, (tt, (tt, (tt, (tt, (tt, (tt, (tt, (tt, (tt, (tt, (tt, (tt, (tt, (tt, (tt, (tt, (tt, (tt, (tt, (tt, (tt, (tt, (tt, (tt, (tt, (tt, tt)))))))))))))))))))))))))))))))))))

reconnect_execution : ExecutionLaw nobody journals.one_disk more.reconnect_told
unfolding reading fault_of tcode_of header_of offset_of rcode_of value_of length_of extended_of three four part_of is_to is_same asked_by begun_by belongs start_at lowest_from label_for free_from count_flying lowest_flying label_of with_label is_write kind_of slot_of window_at is_fifo point_step doorbell_step reset_step abort_step reply_step lost_step refusal verdict request_of check_of blank_bytes command_kind elements_from made block_head decide reads_eui live_login response_bytes start_step reply_step_of_manager decide_step fresh_id left_for enter_step back_step leave_step
reconnect_execution = (tt, (tt, (tt, (tt, (tt, (tt, (tt, (tt, (tt, (tt, (tt, (tt, (tt, (tt, (tt, (tt, (tt, (tt, (tt, (tt, (tt, (tt, (tt, (tt, (tt, (tt, (tt, (tt, (tt, (tt, (tt, (tt, (tt, (tt, (tt, tt)))))))))))))))))))))))))))))))))))

reconnect_carried : CarriedLaw nobody journals.one_disk more.reconnect_told
unfolding reading fault_of tcode_of header_of offset_of rcode_of value_of length_of extended_of three four part_of is_to is_same asked_by begun_by belongs start_at lowest_from label_for free_from count_flying lowest_flying label_of with_label is_write kind_of slot_of window_at is_fifo point_step doorbell_step reset_step abort_step reply_step lost_step refusal verdict request_of check_of blank_bytes command_kind elements_from made block_head decide reads_eui live_login response_bytes start_step reply_step_of_manager decide_step fresh_id left_for enter_step back_step leave_step
reconnect_carried = record { carried = (tt, (tt, (tt, (tt, (tt, (tt, (tt, (tt, (tt, (tt, (tt, (tt, (tt, (tt, (tt, (tt, (tt, (tt, (tt, (tt, (tt, (tt, (tt, (tt, (tt, (tt, (tt, (tt, (tt, (tt, (tt, (tt, (tt, (tt, (tt, tt))))))))))))))))))))))))))))))))))); due = (refl, (refl, (refl, (refl, (refl, (refl, (refl, (refl, (refl, (refl, (refl, (refl, (refl, (refl, (refl, (refl, (refl, (refl, (refl, tt))))))))))))))))))) }

reconnect_status : StatusLaw nobody more.reconnect_told
unfolding reading fault_of tcode_of header_of offset_of rcode_of value_of length_of extended_of three four part_of is_to is_same asked_by begun_by belongs start_at lowest_from label_for free_from count_flying lowest_flying label_of with_label is_write kind_of slot_of window_at is_fifo point_step doorbell_step reset_step abort_step reply_step lost_step refusal verdict request_of check_of blank_bytes command_kind elements_from made block_head decide reads_eui live_login response_bytes start_step reply_step_of_manager decide_step fresh_id left_for enter_step back_step leave_step
reconnect_status = record { taken = (tt, (tt, (tt, (tt, (tt, (tt, (tt, (tt, (tt, (tt, (tt, (tt, (tt, (tt, (tt, (tt, (tt, (tt, (tt, (tt, (tt, (tt, (tt, (tt, (tt, (tt, (tt, (tt, (tt, (tt, (tt, (tt, (tt, (tt, (tt, tt))))))))))))))))))))))))))))))))))); each = (refl, (refl, (refl, (refl, (refl, (refl, (refl, (refl, (refl, (refl, (refl, (refl, (refl, (refl, (refl, (refl, (refl, (refl, (refl, tt))))))))))))))))))) }

reconnect_answer : AnswerLaw nobody journals.one_disk more.reconnect_told
unfolding reading fault_of tcode_of header_of offset_of rcode_of value_of length_of extended_of three four part_of is_to is_same asked_by begun_by belongs start_at lowest_from label_for free_from count_flying lowest_flying label_of with_label is_write kind_of slot_of window_at is_fifo point_step doorbell_step reset_step abort_step reply_step lost_step refusal verdict request_of check_of blank_bytes command_kind elements_from made block_head decide reads_eui live_login response_bytes start_step reply_step_of_manager decide_step fresh_id left_for enter_step back_step leave_step
reconnect_answer = (tt, (tt, (tt, (tt, (tt, (tt, (tt, (tt, (tt, (tt, (tt, (tt, (tt, (tt, (tt, (tt, (tt, (tt, (tt, (tt, (tt, (tt, (tt, (tt, (tt, (tt, (tt, (tt, (tt, (tt, (tt, (tt, (tt, (tt, (tt, tt)))))))))))))))))))))))))))))))))))

table_cause : CauseLaw journals.one_disk more.table_told
unfolding reading fault_of tcode_of header_of offset_of rcode_of value_of length_of extended_of three four part_of is_to is_same asked_by begun_by belongs start_at lowest_from label_for free_from count_flying lowest_flying label_of with_label is_write kind_of slot_of window_at is_fifo point_step doorbell_step reset_step abort_step reply_step lost_step refusal verdict request_of check_of blank_bytes command_kind elements_from made block_head decide reads_eui live_login response_bytes start_step reply_step_of_manager decide_step fresh_id left_for enter_step back_step leave_step
table_cause = record { causes = (record { cuts = refl; cleared = refl; ends = refl; deaths = tt; faults = tt; failures = refl; operations = refl; unserved = tt; codes = tt; failing = tt; once = refl; aborts = refl; decided = record { cut = refl; cleared = refl; moved = refl }; silent = refl }, (record { cuts = refl; cleared = refl; ends = refl; deaths = tt; faults = tt; failures = refl; operations = refl; unserved = tt; codes = tt; failing = tt; once = refl; aborts = refl; decided = record { cut = refl; cleared = refl; moved = refl }; silent = refl }, (record { cuts = refl; cleared = refl; ends = refl; deaths = tt; faults = tt; failures = refl; operations = refl; unserved = tt; codes = tt; failing = tt; once = refl; aborts = refl; decided = record { cut = refl; cleared = refl; moved = refl }; silent = refl }, (record { cuts = refl; cleared = refl; ends = refl; deaths = tt; faults = tt; failures = refl; operations = refl; unserved = tt; codes = tt; failing = tt; once = refl; aborts = refl; decided = record { cut = refl; cleared = refl; moved = refl }; silent = refl }, (record { cuts = refl; cleared = refl; ends = refl; deaths = tt; faults = tt; failures = refl; operations = refl; unserved = tt; codes = tt; failing = tt; once = refl; aborts = refl; decided = record { cut = refl; cleared = refl; moved = refl }; silent = refl }, (record { cuts = refl; cleared = refl; ends = refl; deaths = tt; faults = tt; failures = refl; operations = refl; unserved = tt; codes = tt; failing = tt; once = refl; aborts = refl; decided = record { cut = refl; cleared = refl; moved = refl }; silent = refl }, (record { cuts = refl; cleared = refl; ends = refl; deaths = tt; faults = tt; failures = refl; operations = refl; unserved = tt; codes = tt; failing = tt; once = refl; aborts = refl; decided = record { cut = refl; cleared = refl; moved = refl }; silent = refl }, (record { cuts = refl; cleared = refl; ends = refl; deaths = tt; faults = tt; failures = refl; operations = refl; unserved = tt; codes = tt; failing = tt; once = refl; aborts = refl; decided = record { cut = refl; cleared = refl; moved = refl }; silent = refl }, (record { cuts = refl; cleared = refl; ends = refl; deaths = tt; faults = tt; failures = refl; operations = refl; unserved = tt; codes = tt; failing = tt; once = refl; aborts = refl; decided = record { cut = refl; cleared = refl; moved = refl }; silent = refl }, (record { cuts = refl; cleared = refl; ends = refl; deaths = tt; faults = tt; failures = refl; operations = refl; unserved = tt; codes = tt; failing = tt; once = refl; aborts = refl; decided = record { cut = refl; cleared = refl; moved = refl }; silent = refl }, (record { cuts = refl; cleared = refl; ends = refl; deaths = tt; faults = tt; failures = refl; operations = refl; unserved = tt; codes = tt; failing = tt; once = refl; aborts = refl; decided = record { cut = refl; cleared = refl; moved = refl }; silent = refl }, (record { cuts = refl; cleared = refl; ends = refl; deaths = tt; faults = tt; failures = refl; operations = refl; unserved = tt; codes = tt; failing = tt; once = refl; aborts = refl; decided = record { cut = refl; cleared = refl; moved = refl }; silent = refl }, (record { cuts = refl; cleared = refl; ends = refl; deaths = tt; faults = tt; failures = refl; operations = refl; unserved = tt; codes = tt; failing = tt; once = refl; aborts = refl; decided = record { cut = refl; cleared = refl; moved = refl }; silent = refl }, (record { cuts = refl; cleared = refl; ends = refl; deaths = tt; faults = tt; failures = refl; operations = refl; unserved = tt; codes = tt; failing = tt; once = refl; aborts = refl; decided = record { cut = refl; cleared = refl; moved = refl }; silent = refl }, (record { cuts = refl; cleared = refl; ends = refl; deaths = tt; faults = tt; failures = refl; operations = refl; unserved = tt; codes = tt; failing = tt; once = refl; aborts = refl; decided = record { cut = refl; cleared = refl; moved = refl }; silent = refl }, (record { cuts = refl; cleared = refl; ends = refl; deaths = tt; faults = tt; failures = refl; operations = refl; unserved = tt; codes = tt; failing = tt; once = refl; aborts = refl; decided = record { cut = refl; cleared = refl; moved = refl }; silent = refl }, tt)))))))))))))))); aborted = (tt, (tt, (tt, (tt, (tt, (tt, (tt, (tt, (tt, (tt, (tt, (tt, (tt, (tt, (tt, (tt, (tt, (tt, (tt, (tt, (tt, (tt, (tt, (tt, (tt, (tt, (tt, (tt, (tt, (tt, (tt, (tt, (tt, (tt, tt)))))))))))))))))))))))))))))))))) }

table_judged : JudgementLaw journals.one_disk more.table_told
unfolding reading fault_of tcode_of header_of offset_of rcode_of value_of length_of extended_of three four part_of is_to is_same asked_by begun_by belongs start_at lowest_from label_for free_from count_flying lowest_flying label_of with_label is_write kind_of slot_of window_at is_fifo point_step doorbell_step reset_step abort_step reply_step lost_step refusal verdict request_of check_of blank_bytes command_kind elements_from made block_head decide reads_eui live_login response_bytes start_step reply_step_of_manager decide_step fresh_id left_for enter_step back_step leave_step
table_judged = (tt, (refl, (refl, (refl, (refl, (refl, (refl, (refl, (refl, (refl, (refl, (refl, (refl, (tt, (tt, (tt, tt))))))))))))))))

table_login : LoginLaw journals.one_disk more.table_told
unfolding reading fault_of tcode_of header_of offset_of rcode_of value_of length_of extended_of three four part_of is_to is_same asked_by begun_by belongs start_at lowest_from label_for free_from count_flying lowest_flying label_of with_label is_write kind_of slot_of window_at is_fifo point_step doorbell_step reset_step abort_step reply_step lost_step refusal verdict request_of check_of blank_bytes command_kind elements_from made block_head decide reads_eui live_login response_bytes start_step reply_step_of_manager decide_step fresh_id left_for enter_step back_step leave_step
table_login = (record { rows = tt; decisions = refl; logins = refl }, (record { rows = tt; decisions = refl; logins = refl }, (record { rows = tt; decisions = refl; logins = refl }, (record { rows = tt; decisions = refl; logins = refl }, (record { rows = tt; decisions = refl; logins = refl }, (record { rows = tt; decisions = refl; logins = refl }, (record { rows = tt; decisions = refl; logins = refl }, (record { rows = tt; decisions = refl; logins = refl }, (record { rows = tt; decisions = refl; logins = refl }, (record { rows = tt; decisions = refl; logins = refl }, (record { rows = tt; decisions = refl; logins = refl }, (record { rows = tt; decisions = refl; logins = refl }, (record { rows = tt; decisions = refl; logins = refl }, (record { rows = tt; decisions = refl; logins = refl }, (record { rows = tt; decisions = refl; logins = refl }, (record { rows = tt; decisions = refl; logins = refl }, tt))))))))))))))))

table_media : MediaLaw journals.one_disk more.table_told
unfolding reading fault_of tcode_of header_of offset_of rcode_of value_of length_of extended_of three four part_of is_to is_same asked_by begun_by belongs start_at lowest_from label_for free_from count_flying lowest_flying label_of with_label is_write kind_of slot_of window_at is_fifo point_step doorbell_step reset_step abort_step reply_step lost_step refusal verdict request_of check_of blank_bytes command_kind elements_from made block_head decide reads_eui live_login response_bytes start_step reply_step_of_manager decide_step fresh_id left_for enter_step back_step leave_step
table_media = (record { pushes = refl; told = refl }, (record { pushes = refl; told = refl }, (record { pushes = refl; told = refl }, (record { pushes = refl; told = refl }, (record { pushes = refl; told = refl }, (record { pushes = refl; told = refl }, (record { pushes = refl; told = refl }, (record { pushes = refl; told = refl }, (record { pushes = refl; told = refl }, (record { pushes = refl; told = refl }, (record { pushes = refl; told = refl }, (record { pushes = refl; told = refl }, (record { pushes = refl; told = refl }, (record { pushes = refl; told = refl }, (record { pushes = refl; told = refl }, (record { pushes = refl; told = refl }, tt))))))))))))))))

table_packets : EachMoment SentAt more.table_told
unfolding reading fault_of tcode_of header_of offset_of rcode_of value_of length_of extended_of three four part_of is_to is_same asked_by begun_by belongs start_at lowest_from label_for free_from count_flying lowest_flying label_of with_label is_write kind_of slot_of window_at is_fifo point_step doorbell_step reset_step abort_step reply_step lost_step refusal verdict request_of check_of blank_bytes command_kind elements_from made block_head decide reads_eui live_login response_bytes start_step reply_step_of_manager decide_step fresh_id left_for enter_step back_step leave_step
table_packets = (tt, (tt, ((refl, λ e. record { in_generation = refl; spelled = record { packet = write_response (journals.to_target 0) 0; canonical = refl; retry = refl; priority = refl; source = refl; destination = refl }; label = tt }), (tt, (tt, ((refl, λ e. record { in_generation = refl; spelled = record { packet = write_block (journals.to_first 0) 0x13000000 (quad_bytes (0x41000000 ∷ 0x10000000 ∷ [])); canonical = refl; retry = refl; priority = refl; source = refl; destination = refl }; label = refl }), (tt, (tt, (tt, ((refl, λ e. record { in_generation = refl; spelled = record { packet = read_block_response (journals.to_target 0) 0 (replicate 256 0xaa); canonical = refl; retry = refl; priority = refl; source = refl; destination = refl }; label = tt }), (tt, ((refl, λ e. record { in_generation = refl; spelled = record { packet = read_block (journals.to_first 0) 0x11000110 256; canonical = refl; retry = refl; priority = refl; source = refl; destination = refl }; label = refl }), (tt, ((refl, λ e. record { in_generation = refl; spelled = record { packet = read_block_response (journals.to_target 0) 0 (replicate 256 0xaa); canonical = refl; retry = refl; priority = refl; source = refl; destination = refl }; label = tt }), (tt, ((refl, λ e. record { in_generation = refl; spelled = record { packet = read_block (journals.to_first 0) 0x11000000 256; canonical = refl; retry = refl; priority = refl; source = refl; destination = refl }; label = refl }), (tt, ((refl, λ e. record { in_generation = refl; spelled = record { packet = read_block_response (journals.to_target 0) 0 (more.page_table); canonical = refl; retry = refl; priority = refl; source = refl; destination = refl }; label = tt }), (tt, ((refl, λ e. record { in_generation = refl; spelled = record { packet = read_block (journals.to_first 0) 0x10100000 16; canonical = refl; retry = refl; priority = refl; source = refl; destination = refl }; label = refl }), (tt, ((refl, λ e. record { in_generation = refl; spelled = record { packet = read_block_response (journals.to_target 0) 0 (more.table_orb); canonical = refl; retry = refl; priority = refl; source = refl; destination = refl }; label = tt }), (tt, (tt, ((refl, λ e. record { in_generation = refl; spelled = record { packet = read_block (journals.to_first 0) 0x10000000 32; canonical = refl; retry = refl; priority = refl; source = refl; destination = refl }; label = refl }), ((refl, λ e. record { in_generation = refl; spelled = record { packet = write_response (journals.to_first 0) 0; canonical = refl; retry = refl; priority = refl; source = refl; destination = refl }; label = tt }), (tt, (tt, ((refl, λ e. record { in_generation = refl; spelled = record { packet = write_block (journals.to_target 0) 0xfffff0040008 (quad_bytes (0 ∷ 0x10000000 ∷ [])); canonical = refl; retry = refl; priority = refl; source = refl; destination = refl }; label = refl }), (tt, (tt, (tt, (tt, (tt, tt))))))))))))))))))))))))))))))))))

table_answers : EachTurn (AnswersLaw journals.one_disk) more.table_told
unfolding reading fault_of tcode_of header_of offset_of rcode_of value_of length_of extended_of three four part_of is_to is_same asked_by begun_by belongs start_at lowest_from label_for free_from count_flying lowest_flying label_of with_label is_write kind_of slot_of window_at is_fifo point_step doorbell_step reset_step abort_step reply_step lost_step refusal verdict request_of check_of blank_bytes command_kind elements_from made block_head decide reads_eui live_login response_bytes start_step reply_step_of_manager decide_step fresh_id left_for enter_step back_step leave_step
table_answers = (tt, (tt, ((refl, tt), (tt, ((refl, tt), (tt, ((refl, tt), (tt, ((refl, tt), (tt, ((refl, tt), (tt, ((refl, tt), (tt, (tt, (tt, tt))))))))))))))))

table_requests : EachTurn (RequestsLaw journals.one_disk) more.table_told
unfolding reading fault_of tcode_of header_of offset_of rcode_of value_of length_of extended_of three four part_of is_to is_same asked_by begun_by belongs start_at lowest_from label_for free_from count_flying lowest_flying label_of with_label is_write kind_of slot_of window_at is_fifo point_step doorbell_step reset_step abort_step reply_step lost_step refusal verdict request_of check_of blank_bytes command_kind elements_from made block_head decide reads_eui live_login response_bytes start_step reply_step_of_manager decide_step fresh_id left_for enter_step back_step leave_step
table_requests = (λ e. tt, (λ e. tt, (λ e. tt, (λ e. (record { number = refl; in_generation = refl; sender = refl; receiver = refl; label = refl; spelled = refl }, tt), (λ e. tt, (λ e. (record { number = refl; in_generation = refl; sender = refl; receiver = refl; label = refl; spelled = refl }, tt), (λ e. tt, (λ e. (record { number = refl; in_generation = refl; sender = refl; receiver = refl; label = refl; spelled = refl }, tt), (λ e. tt, (λ e. (record { number = refl; in_generation = refl; sender = refl; receiver = refl; label = refl; spelled = refl }, tt), (λ e. tt, (λ e. tt, (λ e. (record { number = refl; in_generation = refl; sender = refl; receiver = refl; label = refl; spelled = refl }, tt), (λ e. tt, (λ e. (record { number = refl; in_generation = refl; sender = refl; receiver = refl; label = refl; spelled = refl }, tt), (λ e. tt, tt))))))))))))))))

table_statuses : EachTurn (StatusesAreSent journals.one_disk) more.table_told
unfolding reading fault_of tcode_of header_of offset_of rcode_of value_of length_of extended_of three four part_of is_to is_same asked_by begun_by belongs start_at lowest_from label_for free_from count_flying lowest_flying label_of with_label is_write kind_of slot_of window_at is_fifo point_step doorbell_step reset_step abort_step reply_step lost_step refusal verdict request_of check_of blank_bytes command_kind elements_from made block_head decide reads_eui live_login response_bytes start_step reply_step_of_manager decide_step fresh_id left_for enter_step back_step leave_step
table_statuses = (refl, (refl, (refl, (refl, (refl, (refl, (refl, (refl, (refl, (refl, (refl, (refl, (refl, (refl, (refl, (refl, tt))))))))))))))))

table_decisions : EachTurn (DecisionsAreSent journals.one_disk) more.table_told
unfolding reading fault_of tcode_of header_of offset_of rcode_of value_of length_of extended_of three four part_of is_to is_same asked_by begun_by belongs start_at lowest_from label_for free_from count_flying lowest_flying label_of with_label is_write kind_of slot_of window_at is_fifo point_step doorbell_step reset_step abort_step reply_step lost_step refusal verdict request_of check_of blank_bytes command_kind elements_from made block_head decide reads_eui live_login response_bytes start_step reply_step_of_manager decide_step fresh_id left_for enter_step back_step leave_step
table_decisions = (refl, (refl, (refl, (refl, (refl, (refl, (refl, (refl, (refl, (refl, (refl, (refl, (refl, (refl, (refl, (refl, tt))))))))))))))))

table_asked : EachMoment (NoneUnasked journals.one_disk) more.table_told
unfolding reading fault_of tcode_of header_of offset_of rcode_of value_of length_of extended_of three four part_of is_to is_same asked_by begun_by belongs start_at lowest_from label_for free_from count_flying lowest_flying label_of with_label is_write kind_of slot_of window_at is_fifo point_step doorbell_step reset_step abort_step reply_step lost_step refusal verdict request_of check_of blank_bytes command_kind elements_from made block_head decide reads_eui live_login response_bytes start_step reply_step_of_manager decide_step fresh_id left_for enter_step back_step leave_step
table_asked = (tt, (tt, (tt, (tt, (tt, (tt, (tt, (tt, (tt, (tt, (tt, (tt, (tt, (tt, (tt, (tt, (tt, (tt, (tt, (tt, (tt, (tt, (tt, (tt, (tt, (tt, (tt, (tt, (tt, (tt, (tt, (tt, (tt, (tt, tt))))))))))))))))))))))))))))))))))

table_after : EachTurn (AfterTurn journals.one_disk) more.table_told
unfolding reading fault_of tcode_of header_of offset_of rcode_of value_of length_of extended_of three four part_of is_to is_same asked_by begun_by belongs start_at lowest_from label_for free_from count_flying lowest_flying label_of with_label is_write kind_of slot_of window_at is_fifo point_step doorbell_step reset_step abort_step reply_step lost_step refusal verdict request_of check_of blank_bytes command_kind elements_from made block_head decide reads_eui live_login response_bytes start_step reply_step_of_manager decide_step fresh_id left_for enter_step back_step leave_step
table_after = (record { agents = (record { ended = refl; answered = refl; ends = refl; unrung = refl }, (tt, (tt, (tt, (tt, (tt, (tt, (tt, tt)))))))); management = tt; roms = (tt, tt) }, (record { agents = (record { ended = refl; answered = refl; ends = refl; unrung = refl }, (tt, (tt, (tt, (tt, (tt, (tt, (tt, tt)))))))); management = tt; roms = (tt, tt) }, (record { agents = (refl, (tt, (tt, (tt, (tt, (tt, (tt, (tt, tt)))))))); management = tt; roms = (tt, tt) }, (record { agents = (refl, (tt, (tt, (tt, (tt, (tt, (tt, (tt, tt)))))))); management = tt; roms = (tt, tt) }, (record { agents = (refl, (tt, (tt, (tt, (tt, (tt, (tt, (tt, tt)))))))); management = tt; roms = (tt, tt) }, (record { agents = (refl, (tt, (tt, (tt, (tt, (tt, (tt, (tt, tt)))))))); management = tt; roms = (tt, tt) }, (record { agents = (refl, (tt, (tt, (tt, (tt, (tt, (tt, (tt, tt)))))))); management = tt; roms = (tt, tt) }, (record { agents = (refl, (tt, (tt, (tt, (tt, (tt, (tt, (tt, tt)))))))); management = tt; roms = (tt, tt) }, (record { agents = (refl, (tt, (tt, (tt, (tt, (tt, (tt, (tt, tt)))))))); management = tt; roms = (tt, tt) }, (record { agents = (refl, (tt, (tt, (tt, (tt, (tt, (tt, (tt, tt)))))))); management = tt; roms = (tt, tt) }, (record { agents = (refl, (tt, (tt, (tt, (tt, (tt, (tt, (tt, tt)))))))); management = tt; roms = (tt, tt) }, (record { agents = (refl, (tt, (tt, (tt, (tt, (tt, (tt, (tt, tt)))))))); management = tt; roms = (tt, tt) }, (record { agents = (refl, (tt, (tt, (tt, (tt, (tt, (tt, (tt, tt)))))))); management = tt; roms = (tt, tt) }, (record { agents = (tt, (tt, (tt, (tt, (tt, (tt, (tt, (tt, tt)))))))); management = tt; roms = (tt, tt) }, (record { agents = (tt, (tt, (tt, (tt, (tt, (tt, (tt, (tt, tt)))))))); management = tt; roms = (tt, tt) }, (record { agents = (tt, (tt, (tt, (tt, (tt, (tt, (tt, (tt, tt)))))))); management = tt; roms = (tt, tt) }, tt))))))))))))))))

table_once : OnceLaw nobody more.table_told
unfolding reading fault_of tcode_of header_of offset_of rcode_of value_of length_of extended_of three four part_of is_to is_same asked_by begun_by belongs start_at lowest_from label_for free_from count_flying lowest_flying label_of with_label is_write kind_of slot_of window_at is_fifo point_step doorbell_step reset_step abort_step reply_step lost_step refusal verdict request_of check_of blank_bytes command_kind elements_from made block_head decide reads_eui live_login response_bytes start_step reply_step_of_manager decide_step fresh_id left_for enter_step back_step leave_step
table_once = (tt, ((λ e. refl, λ e. record { once = refl; served = refl }), (tt, (tt, ((λ e. refl, tt), (tt, (tt, (tt, ((λ e. refl, λ e. record { once = refl; served = refl }), (tt, ((λ e. refl, tt), (tt, ((λ e. refl, λ e. record { once = refl; served = refl }), (tt, ((λ e. refl, tt), (tt, ((λ e. refl, λ e. record { once = refl; served = refl }), (tt, ((λ e. refl, tt), (tt, ((λ e. refl, λ e. record { once = refl; served = refl }), (tt, ((λ e. refl, tt), ((λ e. refl, λ e. record { once = refl; served = refl }), (tt, (tt, ((λ e. refl, tt), (tt, (tt, (tt, (tt, (tt, (tt, (tt, tt))))))))))))))))))))))))))))))))))

table_order : OrderLaw nobody more.table_told
unfolding reading fault_of tcode_of header_of offset_of rcode_of value_of length_of extended_of three four part_of is_to is_same asked_by begun_by belongs start_at lowest_from label_for free_from count_flying lowest_flying label_of with_label is_write kind_of slot_of window_at is_fifo point_step doorbell_step reset_step abort_step reply_step lost_step refusal verdict request_of check_of blank_bytes command_kind elements_from made block_head decide reads_eui live_login response_bytes start_step reply_step_of_manager decide_step fresh_id left_for enter_step back_step leave_step
table_order = (tt, (tt, (tt, (tt, (tt, (tt, (λ e. record { number = refl; appended = first_of_one; still = record { latest = refl; uncut = refl } }, (λ e. record { latest = refl; uncut = refl }, (tt, (tt, (tt, (tt, (tt, (tt, (tt, (tt, (tt, (tt, (tt, (tt, (tt, (tt, (tt, (tt, (tt, (tt, (tt, (tt, (tt, (tt, (record { number = refl; list = refl }, (tt, (tt, (tt, tt))))))))))))))))))))))))))))))))))

table_execution : ExecutionLaw nobody journals.one_disk more.table_told
unfolding reading fault_of tcode_of header_of offset_of rcode_of value_of length_of extended_of three four part_of is_to is_same asked_by begun_by belongs start_at lowest_from label_for free_from count_flying lowest_flying label_of with_label is_write kind_of slot_of window_at is_fifo point_step doorbell_step reset_step abort_step reply_step lost_step refusal verdict request_of check_of blank_bytes command_kind elements_from made block_head decide reads_eui live_login response_bytes start_step reply_step_of_manager decide_step fresh_id left_for enter_step back_step leave_step
table_execution = (tt, (tt, (tt, (tt, (tt, (tt, (λ e. refl, (λ e. (record { once = refl; order = refl; login = refl }, record { command = refl; carried = inr (some_bytes, refl); needed = λ len need. whole_data len need; ended = tt }), (tt, (tt, (tt, (tt, (tt, (tt, (tt, (tt, (tt, (tt, (tt, (tt, (tt, (tt, (tt, (tt, (tt, (tt, (tt, (tt, (tt, (tt, (tt, (tt, (tt, (tt, tt))))))))))))))))))))))))))))))))))

table_carried : CarriedLaw nobody journals.one_disk more.table_told
unfolding reading fault_of tcode_of header_of offset_of rcode_of value_of length_of extended_of three four part_of is_to is_same asked_by begun_by belongs start_at lowest_from label_for free_from count_flying lowest_flying label_of with_label is_write kind_of slot_of window_at is_fifo point_step doorbell_step reset_step abort_step reply_step lost_step refusal verdict request_of check_of blank_bytes command_kind elements_from made block_head decide reads_eui live_login response_bytes start_step reply_step_of_manager decide_step fresh_id left_for enter_step back_step leave_step
table_carried = record { carried = (tt, (tt, (tt, (λ e. refl, (tt, (tt, (λ e. record { read = record { response = 4; request = 3; got = refl; whole = refl; answers = refl; of_target = refl; of_initiator = refl; asks = record { read = refl; block = refl; from = refl; size = refl }; appended = first_of_one; opened = refl }; matches = (λ e. let bad : 0 ≡ 3 = e in omega (arith, bad), record { command = refl; direction = refl }) }, (λ e. record { read = record { response = 4; request = 3; got = refl; whole = refl; answers = refl; of_target = refl; of_initiator = refl; asks = record { read = refl; block = refl; from = refl; size = refl }; appended = first_of_one; opened = refl }; not_dummy = λ e. let bad : 0 ≡ 3 = e in omega (arith, bad); as_appended = record { command = refl; direction = refl }; size = refl; payloads = refl }, (tt, (tt, (tt, (tt, (tt, (tt, (tt, (tt, (tt, (tt, (tt, (tt, (tt, (tt, (tt, (tt, (tt, (tt, (tt, (tt, (tt, (tt, (tt, (tt, (tt, (tt, tt)))))))))))))))))))))))))))))))))); due = (refl, (refl, (refl, (refl, (refl, (refl, (refl, (refl, (refl, (refl, (refl, (refl, (refl, (refl, (refl, (refl, tt)))))))))))))))) }

table_status : StatusLaw nobody more.table_told
unfolding reading fault_of tcode_of header_of offset_of rcode_of value_of length_of extended_of three four part_of is_to is_same asked_by begun_by belongs start_at lowest_from label_for free_from count_flying lowest_flying label_of with_label is_write kind_of slot_of window_at is_fifo point_step doorbell_step reset_step abort_step reply_step lost_step refusal verdict request_of check_of blank_bytes command_kind elements_from made block_head decide reads_eui live_login response_bytes start_step reply_step_of_manager decide_step fresh_id left_for enter_step back_step leave_step
table_status = record { taken = (tt, (tt, (tt, (λ e. record { once = refl; ended = refl; sent = refl; written = record { is_write = refl; goes = refl; src = 1; spells = refl } }, (tt, (tt, (tt, (tt, (tt, (tt, (tt, (tt, (tt, (tt, (tt, (tt, (tt, (tt, (tt, (tt, (tt, (tt, (tt, (tt, (tt, (tt, (tt, (tt, (tt, (tt, (tt, (tt, (tt, (tt, tt)))))))))))))))))))))))))))))))))); each = (refl, (refl, (refl, (refl, (refl, (refl, (refl, (refl, (refl, (refl, (refl, (refl, (refl, (refl, (refl, (refl, tt)))))))))))))))) }

table_answer : AnswerLaw nobody journals.one_disk more.table_told
unfolding reading fault_of tcode_of header_of offset_of rcode_of value_of length_of extended_of three four part_of is_to is_same asked_by begun_by belongs start_at lowest_from label_for free_from count_flying lowest_flying label_of with_label is_write kind_of slot_of window_at is_fifo point_step doorbell_step reset_step abort_step reply_step lost_step refusal verdict request_of check_of blank_bytes command_kind elements_from made block_head decide reads_eui live_login response_bytes start_step reply_step_of_manager decide_step fresh_id left_for enter_step back_step leave_step
table_answer = (tt, (tt, (tt, (λ e. record { len = refl; told = refl }, (tt, (tt, (tt, (tt, (tt, (tt, (tt, (tt, (tt, (tt, (tt, (tt, (tt, (tt, (tt, (tt, (tt, (tt, (tt, (tt, (tt, (tt, (tt, (tt, (tt, (tt, (tt, (tt, (tt, (tt, tt))))))))))))))))))))))))))))))))))

load_cause : CauseLaw journals.empty_bay more.load_told
unfolding reading fault_of tcode_of header_of offset_of rcode_of value_of length_of extended_of three four part_of is_to is_same asked_by begun_by belongs start_at lowest_from label_for free_from count_flying lowest_flying label_of with_label is_write kind_of slot_of window_at is_fifo point_step doorbell_step reset_step abort_step reply_step lost_step refusal verdict request_of check_of blank_bytes command_kind elements_from made block_head decide reads_eui live_login response_bytes start_step reply_step_of_manager decide_step fresh_id left_for enter_step back_step leave_step
load_cause = record { causes = (record { cuts = refl; cleared = refl; ends = refl; deaths = tt; faults = tt; failures = refl; operations = refl; unserved = tt; codes = tt; failing = tt; once = refl; aborts = refl; decided = record { cut = refl; cleared = refl; moved = refl }; silent = refl }, (record { cuts = refl; cleared = refl; ends = refl; deaths = tt; faults = tt; failures = refl; operations = refl; unserved = tt; codes = tt; failing = tt; once = refl; aborts = refl; decided = record { cut = refl; cleared = refl; moved = refl }; silent = refl }, (record { cuts = refl; cleared = refl; ends = refl; deaths = tt; faults = tt; failures = refl; operations = refl; unserved = tt; codes = tt; failing = tt; once = refl; aborts = refl; decided = record { cut = refl; cleared = refl; moved = refl }; silent = refl }, (record { cuts = refl; cleared = refl; ends = refl; deaths = tt; faults = tt; failures = refl; operations = refl; unserved = tt; codes = tt; failing = tt; once = refl; aborts = refl; decided = record { cut = refl; cleared = refl; moved = refl }; silent = refl }, (record { cuts = refl; cleared = refl; ends = refl; deaths = tt; faults = tt; failures = refl; operations = refl; unserved = tt; codes = tt; failing = tt; once = refl; aborts = refl; decided = record { cut = refl; cleared = refl; moved = refl }; silent = refl }, (record { cuts = refl; cleared = refl; ends = refl; deaths = tt; faults = tt; failures = refl; operations = refl; unserved = tt; codes = tt; failing = tt; once = refl; aborts = refl; decided = record { cut = refl; cleared = refl; moved = refl }; silent = refl }, (record { cuts = refl; cleared = refl; ends = refl; deaths = tt; faults = tt; failures = refl; operations = refl; unserved = tt; codes = tt; failing = tt; once = refl; aborts = refl; decided = record { cut = refl; cleared = refl; moved = refl }; silent = refl }, (record { cuts = refl; cleared = refl; ends = refl; deaths = tt; faults = tt; failures = refl; operations = refl; unserved = tt; codes = tt; failing = tt; once = refl; aborts = refl; decided = record { cut = refl; cleared = refl; moved = refl }; silent = refl }, (record { cuts = refl; cleared = refl; ends = refl; deaths = tt; faults = tt; failures = refl; operations = refl; unserved = tt; codes = tt; failing = tt; once = refl; aborts = refl; decided = record { cut = refl; cleared = refl; moved = refl }; silent = refl }, (record { cuts = refl; cleared = refl; ends = refl; deaths = tt; faults = tt; failures = refl; operations = refl; unserved = tt; codes = tt; failing = tt; once = refl; aborts = refl; decided = record { cut = refl; cleared = refl; moved = refl }; silent = refl }, (record { cuts = refl; cleared = refl; ends = refl; deaths = tt; faults = tt; failures = refl; operations = refl; unserved = tt; codes = tt; failing = tt; once = refl; aborts = refl; decided = record { cut = refl; cleared = refl; moved = refl }; silent = refl }, (record { cuts = refl; cleared = refl; ends = refl; deaths = tt; faults = tt; failures = refl; operations = refl; unserved = tt; codes = tt; failing = tt; once = refl; aborts = refl; decided = record { cut = refl; cleared = refl; moved = refl }; silent = refl }, (record { cuts = refl; cleared = refl; ends = refl; deaths = tt; faults = tt; failures = refl; operations = refl; unserved = tt; codes = tt; failing = tt; once = refl; aborts = refl; decided = record { cut = refl; cleared = refl; moved = refl }; silent = refl }, (record { cuts = refl; cleared = refl; ends = refl; deaths = tt; faults = tt; failures = refl; operations = refl; unserved = tt; codes = tt; failing = tt; once = refl; aborts = refl; decided = record { cut = refl; cleared = refl; moved = refl }; silent = refl }, (record { cuts = refl; cleared = refl; ends = refl; deaths = tt; faults = tt; failures = refl; operations = refl; unserved = tt; codes = tt; failing = tt; once = refl; aborts = refl; decided = record { cut = refl; cleared = refl; moved = refl }; silent = refl }, (record { cuts = refl; cleared = refl; ends = refl; deaths = tt; faults = tt; failures = refl; operations = refl; unserved = tt; codes = tt; failing = tt; once = refl; aborts = refl; decided = record { cut = refl; cleared = refl; moved = refl }; silent = refl }, (record { cuts = refl; cleared = refl; ends = refl; deaths = tt; faults = tt; failures = refl; operations = refl; unserved = tt; codes = tt; failing = tt; once = refl; aborts = refl; decided = record { cut = refl; cleared = refl; moved = refl }; silent = refl }, tt))))))))))))))))); aborted = (tt, (tt, (tt, (tt, (tt, (tt, (tt, (tt, (tt, (tt, (tt, (tt, (tt, (tt, (tt, (tt, (tt, (tt, (tt, (tt, (tt, (tt, (tt, (tt, (tt, (tt, (tt, (tt, (tt, (tt, (tt, (tt, (tt, (tt, (tt, (tt, tt)))))))))))))))))))))))))))))))))))) }

load_judged : JudgementLaw journals.empty_bay more.load_told
unfolding reading fault_of tcode_of header_of offset_of rcode_of value_of length_of extended_of three four part_of is_to is_same asked_by begun_by belongs start_at lowest_from label_for free_from count_flying lowest_flying label_of with_label is_write kind_of slot_of window_at is_fifo point_step doorbell_step reset_step abort_step reply_step lost_step refusal verdict request_of check_of blank_bytes command_kind elements_from made block_head decide reads_eui live_login response_bytes start_step reply_step_of_manager decide_step fresh_id left_for enter_step back_step leave_step
load_judged = (tt, (refl, (refl, (refl, (refl, (refl, (refl, (refl, (refl, (tt, (tt, (tt, (refl, (refl, (tt, (tt, (tt, tt)))))))))))))))))

load_login : LoginLaw journals.empty_bay more.load_told
unfolding reading fault_of tcode_of header_of offset_of rcode_of value_of length_of extended_of three four part_of is_to is_same asked_by begun_by belongs start_at lowest_from label_for free_from count_flying lowest_flying label_of with_label is_write kind_of slot_of window_at is_fifo point_step doorbell_step reset_step abort_step reply_step lost_step refusal verdict request_of check_of blank_bytes command_kind elements_from made block_head decide reads_eui live_login response_bytes start_step reply_step_of_manager decide_step fresh_id left_for enter_step back_step leave_step
load_login = (record { rows = tt; decisions = refl; logins = refl }, (record { rows = tt; decisions = refl; logins = refl }, (record { rows = tt; decisions = refl; logins = refl }, (record { rows = tt; decisions = refl; logins = refl }, (record { rows = tt; decisions = refl; logins = refl }, (record { rows = tt; decisions = refl; logins = refl }, (record { rows = tt; decisions = refl; logins = refl }, (record { rows = tt; decisions = refl; logins = refl }, (record { rows = tt; decisions = refl; logins = refl }, (record { rows = tt; decisions = refl; logins = refl }, (record { rows = tt; decisions = refl; logins = refl }, (record { rows = tt; decisions = refl; logins = refl }, (record { rows = tt; decisions = refl; logins = refl }, (record { rows = tt; decisions = refl; logins = refl }, (record { rows = tt; decisions = refl; logins = refl }, (record { rows = tt; decisions = refl; logins = refl }, (record { rows = tt; decisions = refl; logins = refl }, tt)))))))))))))))))

load_media : MediaLaw journals.empty_bay more.load_told
unfolding reading fault_of tcode_of header_of offset_of rcode_of value_of length_of extended_of three four part_of is_to is_same asked_by begun_by belongs start_at lowest_from label_for free_from count_flying lowest_flying label_of with_label is_write kind_of slot_of window_at is_fifo point_step doorbell_step reset_step abort_step reply_step lost_step refusal verdict request_of check_of blank_bytes command_kind elements_from made block_head decide reads_eui live_login response_bytes start_step reply_step_of_manager decide_step fresh_id left_for enter_step back_step leave_step
load_media = (record { pushes = refl; told = refl }, (record { pushes = refl; told = refl }, (record { pushes = refl; told = refl }, (record { pushes = refl; told = refl }, (record { pushes = refl; told = refl }, (record { pushes = refl; told = refl }, (record { pushes = refl; told = refl }, (record { pushes = refl; told = refl }, (record { pushes = refl; told = refl }, (record { pushes = refl; told = refl }, (record { pushes = refl; told = refl }, (record { pushes = refl; told = refl }, (record { pushes = refl; told = refl }, (record { pushes = refl; told = refl }, (record { pushes = refl; told = refl }, (record { pushes = refl; told = refl }, (record { pushes = refl; told = refl }, tt)))))))))))))))))

load_packets : EachMoment SentAt more.load_told
unfolding reading fault_of tcode_of header_of offset_of rcode_of value_of length_of extended_of three four part_of is_to is_same asked_by begun_by belongs start_at lowest_from label_for free_from count_flying lowest_flying label_of with_label is_write kind_of slot_of window_at is_fifo point_step doorbell_step reset_step abort_step reply_step lost_step refusal verdict request_of check_of blank_bytes command_kind elements_from made block_head decide reads_eui live_login response_bytes start_step reply_step_of_manager decide_step fresh_id left_for enter_step back_step leave_step
load_packets = (tt, (tt, (tt, ((refl, λ e. record { in_generation = refl; spelled = record { packet = write_response (journals.header journals.target_id journals.second_id 0) 0; canonical = refl; retry = refl; priority = refl; source = refl; destination = refl }; label = tt }), (tt, (tt, ((refl, λ e. record { in_generation = refl; spelled = record { packet = write_response (journals.to_target 0) 0; canonical = refl; retry = refl; priority = refl; source = refl; destination = refl }; label = tt }), (tt, (tt, ((refl, λ e. record { in_generation = refl; spelled = record { packet = write_block (journals.header journals.second_id journals.target_id 0) 0x13000000 (block); canonical = refl; retry = refl; priority = refl; source = refl; destination = refl }; label = refl }), ((refl, λ e. record { in_generation = refl; spelled = record { packet = write_block (journals.to_first 0) 0x13000000 (quad_bytes (0x41000000 ∷ 0x10000000 ∷ [])); canonical = refl; retry = refl; priority = refl; source = refl; destination = refl }; label = refl }), (tt, (tt, (tt, (tt, ((refl, λ e. record { in_generation = refl; spelled = record { packet = read_block_response (journals.to_target 0) 0 (more.load_orb); canonical = refl; retry = refl; priority = refl; source = refl; destination = refl }; label = tt }), (tt, (tt, ((refl, λ e. record { in_generation = refl; spelled = record { packet = read_block (journals.to_first 0) 0x10000000 32; canonical = refl; retry = refl; priority = refl; source = refl; destination = refl }; label = refl }), ((refl, λ e. record { in_generation = refl; spelled = record { packet = write_response (journals.to_first 0) 0; canonical = refl; retry = refl; priority = refl; source = refl; destination = refl }; label = tt }), (tt, (tt, ((refl, λ e. record { in_generation = refl; spelled = record { packet = write_block (journals.to_target 0) 0xfffff0040008 (quad_bytes (0 ∷ 0x10000000 ∷ [])); canonical = refl; retry = refl; priority = refl; source = refl; destination = refl }; label = refl }), (tt, (tt, (tt, (tt, (tt, (tt, ((refl, λ e. record { in_generation = refl; spelled = record { packet = write_response (journals.header journals.second_id journals.target_id 0) 0; canonical = refl; retry = refl; priority = refl; source = refl; destination = refl }; label = tt }), (tt, (tt, ((refl, λ e. record { in_generation = refl; spelled = record { packet = write_quadlet (journals.header journals.target_id journals.second_id 0) 0xfffff0040034 1; canonical = refl; retry = refl; priority = refl; source = refl; destination = refl }; label = refl }), (tt, (tt, (tt, tt))))))))))))))))))))))))))))))))))))

load_answers : EachTurn (AnswersLaw journals.empty_bay) more.load_told
unfolding reading fault_of tcode_of header_of offset_of rcode_of value_of length_of extended_of three four part_of is_to is_same asked_by begun_by belongs start_at lowest_from label_for free_from count_flying lowest_flying label_of with_label is_write kind_of slot_of window_at is_fifo point_step doorbell_step reset_step abort_step reply_step lost_step refusal verdict request_of check_of blank_bytes command_kind elements_from made block_head decide reads_eui live_login response_bytes start_step reply_step_of_manager decide_step fresh_id left_for enter_step back_step leave_step
load_answers = (tt, (tt, (tt, ((refl, tt), ((refl, tt), (tt, ((refl, tt), (tt, ((refl, tt), (tt, (tt, (tt, (tt, ((refl, tt), (tt, (tt, (tt, tt)))))))))))))))))

load_requests : EachTurn (RequestsLaw journals.empty_bay) more.load_told
unfolding reading fault_of tcode_of header_of offset_of rcode_of value_of length_of extended_of three four part_of is_to is_same asked_by begun_by belongs start_at lowest_from label_for free_from count_flying lowest_flying label_of with_label is_write kind_of slot_of window_at is_fifo point_step doorbell_step reset_step abort_step reply_step lost_step refusal verdict request_of check_of blank_bytes command_kind elements_from made block_head decide reads_eui live_login response_bytes start_step reply_step_of_manager decide_step fresh_id left_for enter_step back_step leave_step
load_requests = (λ e. tt, (λ e. tt, (λ e. tt, (λ e. tt, (λ e. tt, (λ e. (record { number = refl; in_generation = refl; sender = refl; receiver = refl; label = refl; spelled = refl }, (record { number = refl; in_generation = refl; sender = refl; receiver = refl; label = refl; spelled = refl }, tt)), (λ e. tt, (λ e. tt, (λ e. (record { number = refl; in_generation = refl; sender = refl; receiver = refl; label = refl; spelled = refl }, tt), (λ e. tt, (λ e. (record { number = refl; in_generation = refl; sender = refl; receiver = refl; label = refl; spelled = refl }, tt), (λ e. tt, (λ e. tt, (λ e. tt, (λ e. tt, (λ e. (record { number = refl; in_generation = refl; sender = refl; receiver = refl; label = refl; spelled = refl }, tt), (λ e. tt, tt)))))))))))))))))

load_statuses : EachTurn (StatusesAreSent journals.empty_bay) more.load_told
unfolding reading fault_of tcode_of header_of offset_of rcode_of value_of length_of extended_of three four part_of is_to is_same asked_by begun_by belongs start_at lowest_from label_for free_from count_flying lowest_flying label_of with_label is_write kind_of slot_of window_at is_fifo point_step doorbell_step reset_step abort_step reply_step lost_step refusal verdict request_of check_of blank_bytes command_kind elements_from made block_head decide reads_eui live_login response_bytes start_step reply_step_of_manager decide_step fresh_id left_for enter_step back_step leave_step
load_statuses = (refl, (refl, (refl, (refl, (refl, (refl, (refl, (refl, (refl, (refl, (refl, (refl, (refl, (refl, (refl, (refl, (refl, tt)))))))))))))))))

load_decisions : EachTurn (DecisionsAreSent journals.empty_bay) more.load_told
unfolding reading fault_of tcode_of header_of offset_of rcode_of value_of length_of extended_of three four part_of is_to is_same asked_by begun_by belongs start_at lowest_from label_for free_from count_flying lowest_flying label_of with_label is_write kind_of slot_of window_at is_fifo point_step doorbell_step reset_step abort_step reply_step lost_step refusal verdict request_of check_of blank_bytes command_kind elements_from made block_head decide reads_eui live_login response_bytes start_step reply_step_of_manager decide_step fresh_id left_for enter_step back_step leave_step
load_decisions = (refl, (refl, (refl, (refl, (refl, (refl, (refl, (refl, (refl, (refl, (refl, (refl, (refl, (refl, (refl, (refl, (refl, tt)))))))))))))))))

load_asked : EachMoment (NoneUnasked journals.empty_bay) more.load_told
unfolding reading fault_of tcode_of header_of offset_of rcode_of value_of length_of extended_of three four part_of is_to is_same asked_by begun_by belongs start_at lowest_from label_for free_from count_flying lowest_flying label_of with_label is_write kind_of slot_of window_at is_fifo point_step doorbell_step reset_step abort_step reply_step lost_step refusal verdict request_of check_of blank_bytes command_kind elements_from made block_head decide reads_eui live_login response_bytes start_step reply_step_of_manager decide_step fresh_id left_for enter_step back_step leave_step
load_asked = (tt, (tt, (tt, (tt, (tt, (tt, (tt, (tt, (tt, (refl, (tt, (tt, (tt, (tt, (tt, (tt, (tt, (tt, (tt, (tt, (tt, (tt, (tt, (tt, (tt, (tt, (tt, (tt, (tt, (tt, (tt, (tt, (tt, (tt, (tt, (tt, tt))))))))))))))))))))))))))))))))))))

load_after : EachTurn (AfterTurn journals.empty_bay) more.load_told
unfolding reading fault_of tcode_of header_of offset_of rcode_of value_of length_of extended_of three four part_of is_to is_same asked_by begun_by belongs start_at lowest_from label_for free_from count_flying lowest_flying label_of with_label is_write kind_of slot_of window_at is_fifo point_step doorbell_step reset_step abort_step reply_step lost_step refusal verdict request_of check_of blank_bytes command_kind elements_from made block_head decide reads_eui live_login response_bytes start_step reply_step_of_manager decide_step fresh_id left_for enter_step back_step leave_step
load_after = (record { agents = (record { ended = refl; answered = refl; ends = refl; unrung = refl }, (tt, (tt, (tt, (tt, (tt, (tt, (tt, tt)))))))); management = tt; roms = (tt, (tt, tt)) }, (record { agents = (record { ended = refl; answered = refl; ends = refl; unrung = refl }, (tt, (tt, (tt, (tt, (tt, (tt, (tt, tt)))))))); management = tt; roms = (tt, (tt, tt)) }, (record { agents = (record { ended = refl; answered = refl; ends = refl; unrung = refl }, (tt, (tt, (tt, (tt, (tt, (tt, (tt, tt)))))))); management = tt; roms = (tt, (tt, tt)) }, (record { agents = (refl, (tt, (tt, (tt, (tt, (tt, (tt, (tt, tt)))))))); management = tt; roms = (tt, (tt, tt)) }, (record { agents = (refl, (tt, (tt, (tt, (tt, (tt, (tt, (tt, tt)))))))); management = tt; roms = (tt, (tt, tt)) }, (record { agents = (refl, (tt, (tt, (tt, (tt, (tt, (tt, (tt, tt)))))))); management = tt; roms = (tt, (tt, tt)) }, (record { agents = (refl, (tt, (tt, (tt, (tt, (tt, (tt, (tt, tt)))))))); management = tt; roms = (tt, (tt, tt)) }, (record { agents = (refl, (tt, (tt, (tt, (tt, (tt, (tt, (tt, tt)))))))); management = tt; roms = (tt, (tt, tt)) }, (record { agents = (refl, (tt, (tt, (tt, (tt, (tt, (tt, (tt, tt)))))))); management = tt; roms = (tt, (tt, tt)) }, (record { agents = (tt, (tt, (tt, (tt, (tt, (tt, (tt, (tt, tt)))))))); management = tt; roms = (tt, (tt, tt)) }, (record { agents = (tt, (tt, (tt, (tt, (tt, (tt, (tt, (tt, tt)))))))); management = tt; roms = (tt, (tt, tt)) }, (record { agents = (tt, (tt, (tt, (tt, (tt, (tt, (tt, (tt, tt)))))))); management = tt; roms = (tt, (tt, tt)) }, (record { agents = (tt, (tt, (tt, (tt, (tt, (tt, (tt, (tt, tt)))))))); management = tt; roms = (tt, (tt, tt)) }, (record { agents = (tt, (tt, (tt, (tt, (tt, (tt, (tt, (tt, tt)))))))); management = tt; roms = (tt, (tt, tt)) }, (record { agents = (tt, (tt, (tt, (tt, (tt, (tt, (tt, (tt, tt)))))))); management = tt; roms = (tt, (tt, tt)) }, (record { agents = (tt, (tt, (tt, (tt, (tt, (tt, (tt, (tt, tt)))))))); management = tt; roms = (tt, (tt, tt)) }, (record { agents = (tt, (tt, (tt, (tt, (tt, (tt, (tt, (tt, tt)))))))); management = tt; roms = (tt, (tt, tt)) }, tt)))))))))))))))))

load_once : OnceLaw nobody more.load_told
unfolding reading fault_of tcode_of header_of offset_of rcode_of value_of length_of extended_of three four part_of is_to is_same asked_by begun_by belongs start_at lowest_from label_for free_from count_flying lowest_flying label_of with_label is_write kind_of slot_of window_at is_fifo point_step doorbell_step reset_step abort_step reply_step lost_step refusal verdict request_of check_of blank_bytes command_kind elements_from made block_head decide reads_eui live_login response_bytes start_step reply_step_of_manager decide_step fresh_id left_for enter_step back_step leave_step
load_once = (tt, ((λ e. refl, λ e. record { once = refl; served = refl }), ((λ e. refl, λ e. record { once = refl; served = refl }), (tt, (tt, ((λ e. refl, tt), (tt, (tt, ((λ e. refl, tt), (tt, (tt, (tt, (tt, (tt, ((λ e. refl, λ e. record { once = refl; served = refl }), (tt, ((λ e. refl, tt), ((λ e. refl, λ e. record { once = refl; served = refl }), (tt, (tt, ((λ e. refl, tt), (tt, (tt, (tt, (tt, (tt, (tt, (tt, ((λ e. refl, λ e. record { once = refl; served = refl }), (tt, ((λ e. refl, tt), (tt, (tt, (tt, (tt, (tt, tt))))))))))))))))))))))))))))))))))))

load_order : OrderLaw nobody more.load_told
unfolding reading fault_of tcode_of header_of offset_of rcode_of value_of length_of extended_of three four part_of is_to is_same asked_by begun_by belongs start_at lowest_from label_for free_from count_flying lowest_flying label_of with_label is_write kind_of slot_of window_at is_fifo point_step doorbell_step reset_step abort_step reply_step lost_step refusal verdict request_of check_of blank_bytes command_kind elements_from made block_head decide reads_eui live_login response_bytes start_step reply_step_of_manager decide_step fresh_id left_for enter_step back_step leave_step
load_order = (tt, (tt, (tt, (tt, (tt, (tt, (tt, (tt, (tt, (tt, (tt, (tt, (λ e. record { number = refl; appended = first_of_one; still = record { latest = refl; uncut = refl } }, (λ e. record { latest = refl; uncut = refl }, (tt, (tt, (tt, (tt, (tt, (tt, (tt, (tt, (tt, (tt, (record { number = refl; list = refl }, (tt, (tt, (tt, (tt, (tt, (tt, (tt, (tt, (tt, (tt, (tt, tt))))))))))))))))))))))))))))))))))))

load_execution : ExecutionLaw nobody journals.empty_bay more.load_told
unfolding reading fault_of tcode_of header_of offset_of rcode_of value_of length_of extended_of three four part_of is_to is_same asked_by begun_by belongs start_at lowest_from label_for free_from count_flying lowest_flying label_of with_label is_write kind_of slot_of window_at is_fifo point_step doorbell_step reset_step abort_step reply_step lost_step refusal verdict request_of check_of blank_bytes command_kind elements_from made block_head decide reads_eui live_login response_bytes start_step reply_step_of_manager decide_step fresh_id left_for enter_step back_step leave_step
load_execution = (tt, (tt, (tt, (tt, (tt, (tt, (tt, (tt, (tt, (tt, (tt, (tt, (λ e. refl, (λ e. (record { once = refl; order = refl; login = refl }, record { command = refl; carried = inl refl; needed = λ len need. absurd (cc need); ended = tt }), (tt, (tt, (tt, (tt, (tt, (tt, (tt, (tt, (tt, (tt, (tt, (tt, (tt, (tt, (tt, (tt, (tt, (tt, (tt, (tt, (tt, (tt, tt))))))))))))))))))))))))))))))))))))

load_carried : CarriedLaw nobody journals.empty_bay more.load_told
unfolding reading fault_of tcode_of header_of offset_of rcode_of value_of length_of extended_of three four part_of is_to is_same asked_by begun_by belongs start_at lowest_from label_for free_from count_flying lowest_flying label_of with_label is_write kind_of slot_of window_at is_fifo point_step doorbell_step reset_step abort_step reply_step lost_step refusal verdict request_of check_of blank_bytes command_kind elements_from made block_head decide reads_eui live_login response_bytes start_step reply_step_of_manager decide_step fresh_id left_for enter_step back_step leave_step
load_carried = record { carried = (tt, (tt, (tt, (tt, (tt, (tt, (tt, (λ e. refl, (tt, (tt, (tt, (tt, (λ e. record { read = record { response = 6; request = 5; got = refl; whole = refl; answers = refl; of_target = refl; of_initiator = refl; asks = record { read = refl; block = refl; from = refl; size = refl }; appended = first_of_one; opened = refl }; matches = (λ e. let bad : 0 ≡ 3 = e in omega (arith, bad), record { command = refl; direction = refl }) }, (λ e. record { read = record { response = 6; request = 5; got = refl; whole = refl; answers = refl; of_target = refl; of_initiator = refl; asks = record { read = refl; block = refl; from = refl; size = refl }; appended = first_of_one; opened = refl }; not_dummy = λ e. let bad : 0 ≡ 3 = e in omega (arith, bad); as_appended = record { command = refl; direction = refl }; size = refl; payloads = refl }, (tt, (tt, (tt, (tt, (tt, (tt, (tt, (tt, (tt, (tt, (tt, (tt, (tt, (tt, (tt, (tt, (tt, (tt, (tt, (tt, (tt, (tt, tt)))))))))))))))))))))))))))))))))))); due = (refl, (refl, (refl, (refl, (refl, (refl, (refl, (refl, (refl, (refl, (refl, (refl, (refl, (refl, (refl, (refl, (refl, tt))))))))))))))))) }

load_status : StatusLaw nobody more.load_told
unfolding reading fault_of tcode_of header_of offset_of rcode_of value_of length_of extended_of three four part_of is_to is_same asked_by begun_by belongs start_at lowest_from label_for free_from count_flying lowest_flying label_of with_label is_write kind_of slot_of window_at is_fifo point_step doorbell_step reset_step abort_step reply_step lost_step refusal verdict request_of check_of blank_bytes command_kind elements_from made block_head decide reads_eui live_login response_bytes start_step reply_step_of_manager decide_step fresh_id left_for enter_step back_step leave_step
load_status = record { taken = (tt, (tt, (tt, (tt, (tt, (tt, (tt, (λ e. record { once = refl; ended = refl; sent = refl; written = record { is_write = refl; goes = refl; src = 1; spells = refl } }, (tt, (tt, (tt, (tt, (tt, (tt, (tt, (tt, (tt, (tt, (tt, (tt, (tt, (tt, (tt, (tt, (tt, (tt, (tt, (tt, (tt, (tt, (tt, (tt, (tt, (tt, (tt, (tt, tt)))))))))))))))))))))))))))))))))))); each = (refl, (refl, (refl, (refl, (refl, (refl, (refl, (refl, (refl, (refl, (refl, (refl, (refl, (refl, (refl, (refl, (refl, tt))))))))))))))))) }

load_answer : AnswerLaw nobody journals.empty_bay more.load_told
unfolding reading fault_of tcode_of header_of offset_of rcode_of value_of length_of extended_of three four part_of is_to is_same asked_by begun_by belongs start_at lowest_from label_for free_from count_flying lowest_flying label_of with_label is_write kind_of slot_of window_at is_fifo point_step doorbell_step reset_step abort_step reply_step lost_step refusal verdict request_of check_of blank_bytes command_kind elements_from made block_head decide reads_eui live_login response_bytes start_step reply_step_of_manager decide_step fresh_id left_for enter_step back_step leave_step
load_answer = (tt, (tt, (tt, (tt, (tt, (tt, (tt, (λ e. record { len = refl; told = refl }, (tt, (tt, (tt, (tt, (tt, (tt, (tt, (tt, (tt, (tt, (tt, (tt, (tt, (tt, (tt, (tt, (tt, (tt, (tt, (tt, (tt, (tt, (tt, (tt, (tt, (tt, (tt, (tt, tt))))))))))))))))))))))))))))))))))))

aborts_cause : CauseLaw journals.one_disk more.abort_told
unfolding reading fault_of tcode_of header_of offset_of rcode_of value_of length_of extended_of three four part_of is_to is_same asked_by begun_by belongs start_at lowest_from label_for free_from count_flying lowest_flying label_of with_label is_write kind_of slot_of window_at is_fifo point_step doorbell_step reset_step abort_step reply_step lost_step refusal verdict request_of check_of blank_bytes command_kind elements_from made block_head decide reads_eui live_login response_bytes start_step reply_step_of_manager decide_step fresh_id left_for enter_step back_step leave_step
aborts_cause = record { causes = (record { cuts = refl; cleared = refl; ends = refl; deaths = tt; faults = tt; failures = refl; operations = refl; unserved = tt; codes = tt; failing = tt; once = refl; aborts = refl; decided = record { cut = refl; cleared = refl; moved = refl }; silent = refl }, (record { cuts = refl; cleared = refl; ends = refl; deaths = tt; faults = tt; failures = refl; operations = refl; unserved = tt; codes = tt; failing = tt; once = refl; aborts = refl; decided = record { cut = refl; cleared = refl; moved = refl }; silent = refl }, (record { cuts = refl; cleared = refl; ends = refl; deaths = tt; faults = tt; failures = refl; operations = refl; unserved = tt; codes = tt; failing = tt; once = refl; aborts = refl; decided = record { cut = refl; cleared = refl; moved = refl }; silent = refl }, (record { cuts = refl; cleared = refl; ends = refl; deaths = tt; faults = tt; failures = refl; operations = refl; unserved = tt; codes = tt; failing = tt; once = refl; aborts = refl; decided = record { cut = refl; cleared = refl; moved = refl }; silent = refl }, (record { cuts = refl; cleared = refl; ends = refl; deaths = tt; faults = tt; failures = refl; operations = refl; unserved = tt; codes = tt; failing = tt; once = refl; aborts = refl; decided = record { cut = refl; cleared = refl; moved = refl }; silent = refl }, (record { cuts = refl; cleared = refl; ends = refl; deaths = tt; faults = tt; failures = refl; operations = refl; unserved = tt; codes = tt; failing = tt; once = refl; aborts = refl; decided = record { cut = refl; cleared = refl; moved = refl }; silent = refl }, (record { cuts = refl; cleared = refl; ends = refl; deaths = tt; faults = tt; failures = refl; operations = refl; unserved = tt; codes = tt; failing = tt; once = refl; aborts = refl; decided = record { cut = refl; cleared = refl; moved = refl }; silent = refl }, (record { cuts = refl; cleared = refl; ends = refl; deaths = tt; faults = tt; failures = refl; operations = refl; unserved = tt; codes = tt; failing = tt; once = refl; aborts = refl; decided = record { cut = refl; cleared = refl; moved = refl }; silent = refl }, (record { cuts = refl; cleared = refl; ends = refl; deaths = tt; faults = tt; failures = refl; operations = refl; unserved = tt; codes = tt; failing = tt; once = refl; aborts = refl; decided = record { cut = refl; cleared = refl; moved = refl }; silent = refl }, (record { cuts = refl; cleared = refl; ends = refl; deaths = tt; faults = tt; failures = refl; operations = refl; unserved = tt; codes = tt; failing = tt; once = refl; aborts = refl; decided = record { cut = refl; cleared = refl; moved = refl }; silent = refl }, (record { cuts = refl; cleared = refl; ends = refl; deaths = tt; faults = tt; failures = refl; operations = refl; unserved = tt; codes = tt; failing = tt; once = refl; aborts = refl; decided = record { cut = refl; cleared = refl; moved = refl }; silent = refl }, (record { cuts = refl; cleared = refl; ends = refl; deaths = tt; faults = tt; failures = refl; operations = refl; unserved = tt; codes = tt; failing = tt; once = refl; aborts = refl; decided = record { cut = refl; cleared = refl; moved = refl }; silent = refl }, (record { cuts = refl; cleared = refl; ends = refl; deaths = tt; faults = tt; failures = refl; operations = refl; unserved = tt; codes = tt; failing = tt; once = refl; aborts = refl; decided = record { cut = refl; cleared = refl; moved = refl }; silent = refl }, (record { cuts = refl; cleared = refl; ends = refl; deaths = tt; faults = tt; failures = refl; operations = refl; unserved = tt; codes = tt; failing = tt; once = refl; aborts = refl; decided = record { cut = refl; cleared = refl; moved = refl }; silent = refl }, (record { cuts = refl; cleared = refl; ends = refl; deaths = tt; faults = tt; failures = refl; operations = refl; unserved = tt; codes = tt; failing = tt; once = refl; aborts = refl; decided = record { cut = refl; cleared = refl; moved = refl }; silent = refl }, (record { cuts = refl; cleared = refl; ends = refl; deaths = tt; faults = tt; failures = refl; operations = refl; unserved = tt; codes = tt; failing = tt; once = refl; aborts = refl; decided = record { cut = refl; cleared = refl; moved = refl }; silent = refl }, (record { cuts = refl; cleared = refl; ends = refl; deaths = tt; faults = tt; failures = refl; operations = refl; unserved = tt; codes = tt; failing = tt; once = refl; aborts = refl; decided = record { cut = refl; cleared = refl; moved = refl }; silent = refl }, (record { cuts = refl; cleared = refl; ends = refl; deaths = tt; faults = tt; failures = refl; operations = refl; unserved = tt; codes = tt; failing = tt; once = refl; aborts = refl; decided = record { cut = refl; cleared = refl; moved = refl }; silent = refl }, (record { cuts = refl; cleared = refl; ends = refl; deaths = tt; faults = tt; failures = refl; operations = refl; unserved = tt; codes = tt; failing = tt; once = refl; aborts = refl; decided = record { cut = refl; cleared = refl; moved = refl }; silent = refl }, (record { cuts = refl; cleared = refl; ends = refl; deaths = tt; faults = tt; failures = refl; operations = refl; unserved = tt; codes = tt; failing = tt; once = refl; aborts = refl; decided = record { cut = refl; cleared = refl; moved = refl }; silent = refl }, (record { cuts = refl; cleared = refl; ends = refl; deaths = tt; faults = tt; failures = refl; operations = refl; unserved = tt; codes = tt; failing = tt; once = refl; aborts = refl; decided = record { cut = refl; cleared = refl; moved = refl }; silent = refl }, (record { cuts = refl; cleared = refl; ends = refl; deaths = tt; faults = tt; failures = refl; operations = refl; unserved = tt; codes = tt; failing = tt; once = refl; aborts = refl; decided = record { cut = refl; cleared = refl; moved = refl }; silent = refl }, (record { cuts = refl; cleared = refl; ends = refl; deaths = tt; faults = tt; failures = refl; operations = refl; unserved = tt; codes = tt; failing = tt; once = refl; aborts = refl; decided = record { cut = refl; cleared = refl; moved = refl }; silent = refl }, tt))))))))))))))))))))))); aborted = (tt, (tt, (tt, (tt, (tt, (tt, (tt, (refl, (tt, (tt, (tt, (tt, (tt, (tt, (tt, (tt, (tt, (tt, (tt, (tt, (tt, (tt, (tt, (tt, (tt, (tt, (tt, (tt, (tt, (tt, (tt, (tt, (tt, (tt, (tt, (tt, (tt, (tt, (tt, (tt, (tt, (tt, (tt, (tt, tt)))))))))))))))))))))))))))))))))))))))))))) }

aborts_judged : JudgementLaw journals.one_disk more.abort_told
unfolding reading fault_of tcode_of header_of offset_of rcode_of value_of length_of extended_of three four part_of is_to is_same asked_by begun_by belongs start_at lowest_from label_for free_from count_flying lowest_flying label_of with_label is_write kind_of slot_of window_at is_fifo point_step doorbell_step reset_step abort_step reply_step lost_step refusal verdict request_of check_of blank_bytes command_kind elements_from made block_head decide reads_eui live_login response_bytes start_step reply_step_of_manager decide_step fresh_id left_for enter_step back_step leave_step
aborts_judged = (tt, (refl, (refl, (refl, (refl, (refl, (refl, (refl, (tt, (refl, (tt, (refl, (tt, (refl, (tt, (tt, (refl, (refl, (refl, (refl, (tt, (tt, (tt, tt)))))))))))))))))))))))

aborts_login : LoginLaw journals.one_disk more.abort_told
unfolding reading fault_of tcode_of header_of offset_of rcode_of value_of length_of extended_of three four part_of is_to is_same asked_by begun_by belongs start_at lowest_from label_for free_from count_flying lowest_flying label_of with_label is_write kind_of slot_of window_at is_fifo point_step doorbell_step reset_step abort_step reply_step lost_step refusal verdict request_of check_of blank_bytes command_kind elements_from made block_head decide reads_eui live_login response_bytes start_step reply_step_of_manager decide_step fresh_id left_for enter_step back_step leave_step
aborts_login = (record { rows = tt; decisions = refl; logins = refl }, (record { rows = tt; decisions = refl; logins = refl }, (record { rows = tt; decisions = refl; logins = refl }, (record { rows = tt; decisions = refl; logins = refl }, (record { rows = tt; decisions = refl; logins = refl }, (record { rows = tt; decisions = refl; logins = refl }, (record { rows = tt; decisions = refl; logins = refl }, (record { rows = tt; decisions = refl; logins = refl }, (record { rows = tt; decisions = refl; logins = refl }, (record { rows = (refl, tt); decisions = refl; logins = refl }, (record { rows = tt; decisions = refl; logins = refl }, (record { rows = tt; decisions = refl; logins = refl }, (record { rows = tt; decisions = refl; logins = refl }, (record { rows = tt; decisions = refl; logins = refl }, (record { rows = tt; decisions = refl; logins = refl }, (record { rows = tt; decisions = refl; logins = refl }, (record { rows = tt; decisions = refl; logins = refl }, (record { rows = tt; decisions = refl; logins = refl }, (record { rows = tt; decisions = refl; logins = refl }, (record { rows = tt; decisions = refl; logins = refl }, (record { rows = tt; decisions = refl; logins = refl }, (record { rows = tt; decisions = refl; logins = refl }, (record { rows = tt; decisions = refl; logins = refl }, tt)))))))))))))))))))))))

aborts_media : MediaLaw journals.one_disk more.abort_told
unfolding reading fault_of tcode_of header_of offset_of rcode_of value_of length_of extended_of three four part_of is_to is_same asked_by begun_by belongs start_at lowest_from label_for free_from count_flying lowest_flying label_of with_label is_write kind_of slot_of window_at is_fifo point_step doorbell_step reset_step abort_step reply_step lost_step refusal verdict request_of check_of blank_bytes command_kind elements_from made block_head decide reads_eui live_login response_bytes start_step reply_step_of_manager decide_step fresh_id left_for enter_step back_step leave_step
aborts_media = (record { pushes = refl; told = refl }, (record { pushes = refl; told = refl }, (record { pushes = refl; told = refl }, (record { pushes = refl; told = refl }, (record { pushes = refl; told = refl }, (record { pushes = refl; told = refl }, (record { pushes = refl; told = refl }, (record { pushes = refl; told = refl }, (record { pushes = refl; told = refl }, (record { pushes = refl; told = refl }, (record { pushes = refl; told = refl }, (record { pushes = refl; told = refl }, (record { pushes = refl; told = refl }, (record { pushes = refl; told = refl }, (record { pushes = refl; told = refl }, (record { pushes = refl; told = refl }, (record { pushes = refl; told = refl }, (record { pushes = refl; told = refl }, (record { pushes = refl; told = refl }, (record { pushes = refl; told = refl }, (record { pushes = refl; told = refl }, (record { pushes = refl; told = refl }, (record { pushes = refl; told = refl }, tt)))))))))))))))))))))))

aborts_packets : EachMoment SentAt more.abort_told
unfolding reading fault_of tcode_of header_of offset_of rcode_of value_of length_of extended_of three four part_of is_to is_same asked_by begun_by belongs start_at lowest_from label_for free_from count_flying lowest_flying label_of with_label is_write kind_of slot_of window_at is_fifo point_step doorbell_step reset_step abort_step reply_step lost_step refusal verdict request_of check_of blank_bytes command_kind elements_from made block_head decide reads_eui live_login response_bytes start_step reply_step_of_manager decide_step fresh_id left_for enter_step back_step leave_step
aborts_packets = (tt, (tt, ((refl, λ e. record { in_generation = refl; spelled = record { packet = write_response (journals.to_target 0) 0; canonical = refl; retry = refl; priority = refl; source = refl; destination = refl }; label = tt }), (tt, (tt, (tt, ((refl, λ e. record { in_generation = refl; spelled = record { packet = write_block (journals.to_first 0) 0x13000000 (quad_bytes (0x410c0000 ∷ 0x10000000 ∷ [])); canonical = refl; retry = refl; priority = refl; source = refl; destination = refl }; label = refl }), (tt, (tt, ((refl, λ e. record { in_generation = refl; spelled = record { packet = write_response (journals.to_target 1) 0; canonical = refl; retry = refl; priority = refl; source = refl; destination = refl }; label = tt }), (tt, (tt, (tt, ((refl, λ e. record { in_generation = refl; spelled = record { packet = read_block_response (journals.to_target 0) 0 (replicate 512 0xaa); canonical = refl; retry = refl; priority = refl; source = refl; destination = refl }; label = tt }), (tt, (tt, ((refl, λ e. record { in_generation = refl; spelled = record { packet = write_block (journals.to_first 1) 0x12002000 (quad_bytes (0x01000000 ∷ 0x12000000 ∷ [])); canonical = refl; retry = refl; priority = refl; source = refl; destination = refl }; label = refl }), (tt, (tt, (tt, ((refl, λ e. record { in_generation = refl; spelled = record { packet = read_block_response (journals.to_target 1) 0 (management_bytes more.abort_orb); canonical = refl; retry = refl; priority = refl; source = refl; destination = refl }; label = tt }), (tt, (tt, ((refl, λ e. record { in_generation = refl; spelled = record { packet = read_block (journals.to_first 1) 0x12000000 32; canonical = refl; retry = refl; priority = refl; source = refl; destination = refl }; label = refl }), ((refl, λ e. record { in_generation = refl; spelled = record { packet = write_response (journals.to_first 0) 0; canonical = refl; retry = refl; priority = refl; source = refl; destination = refl }; label = tt }), (tt, (tt, ((refl, λ e. record { in_generation = refl; spelled = record { packet = write_block (journals.to_target 0) 0xfffff0010000 (quad_bytes (0 ∷ 0x12000000 ∷ [])); canonical = refl; retry = refl; priority = refl; source = refl; destination = refl }; label = refl }), (tt, ((refl, λ e. record { in_generation = refl; spelled = record { packet = read_block (journals.to_first 0) 0x11000000 512; canonical = refl; retry = refl; priority = refl; source = refl; destination = refl }; label = refl }), (tt, ((refl, λ e. record { in_generation = refl; spelled = record { packet = read_block_response (journals.to_target 0) 0 (more.write_orb); canonical = refl; retry = refl; priority = refl; source = refl; destination = refl }; label = tt }), (tt, (tt, ((refl, λ e. record { in_generation = refl; spelled = record { packet = read_block (journals.to_first 0) 0x10000000 32; canonical = refl; retry = refl; priority = refl; source = refl; destination = refl }; label = refl }), ((refl, λ e. record { in_generation = refl; spelled = record { packet = write_response (journals.to_first 0) 0; canonical = refl; retry = refl; priority = refl; source = refl; destination = refl }; label = tt }), (tt, (tt, ((refl, λ e. record { in_generation = refl; spelled = record { packet = write_block (journals.to_target 0) 0xfffff0040008 (quad_bytes (0 ∷ 0x10000000 ∷ [])); canonical = refl; retry = refl; priority = refl; source = refl; destination = refl }; label = refl }), (tt, (tt, (tt, (tt, (tt, tt))))))))))))))))))))))))))))))))))))))))))))

aborts_answers : EachTurn (AnswersLaw journals.one_disk) more.abort_told
unfolding reading fault_of tcode_of header_of offset_of rcode_of value_of length_of extended_of three four part_of is_to is_same asked_by begun_by belongs start_at lowest_from label_for free_from count_flying lowest_flying label_of with_label is_write kind_of slot_of window_at is_fifo point_step doorbell_step reset_step abort_step reply_step lost_step refusal verdict request_of check_of blank_bytes command_kind elements_from made block_head decide reads_eui live_login response_bytes start_step reply_step_of_manager decide_step fresh_id left_for enter_step back_step leave_step
aborts_answers = (tt, (tt, ((refl, tt), (tt, (tt, ((refl, tt), (tt, ((refl, tt), (tt, (tt, (tt, ((refl, tt), (tt, ((refl, tt), (tt, (tt, (tt, ((refl, tt), (tt, ((refl, tt), (tt, (tt, (tt, tt)))))))))))))))))))))))

aborts_requests : EachTurn (RequestsLaw journals.one_disk) more.abort_told
unfolding reading fault_of tcode_of header_of offset_of rcode_of value_of length_of extended_of three four part_of is_to is_same asked_by begun_by belongs start_at lowest_from label_for free_from count_flying lowest_flying label_of with_label is_write kind_of slot_of window_at is_fifo point_step doorbell_step reset_step abort_step reply_step lost_step refusal verdict request_of check_of blank_bytes command_kind elements_from made block_head decide reads_eui live_login response_bytes start_step reply_step_of_manager decide_step fresh_id left_for enter_step back_step leave_step
aborts_requests = (λ e. tt, (λ e. tt, (λ e. tt, (λ e. tt, (λ e. (record { number = refl; in_generation = refl; sender = refl; receiver = refl; label = refl; spelled = refl }, tt), (λ e. tt, (λ e. tt, (λ e. tt, (λ e. tt, (λ e. (record { number = refl; in_generation = refl; sender = refl; receiver = refl; label = refl; spelled = refl }, tt), (λ e. tt, (λ e. tt, (λ e. tt, (λ e. (record { number = refl; in_generation = refl; sender = refl; receiver = refl; label = refl; spelled = refl }, tt), (λ e. tt, (λ e. (record { number = refl; in_generation = refl; sender = refl; receiver = refl; label = refl; spelled = refl }, tt), (λ e. (record { number = refl; in_generation = refl; sender = refl; receiver = refl; label = refl; spelled = refl }, tt), (λ e. tt, (λ e. tt, (λ e. (record { number = refl; in_generation = refl; sender = refl; receiver = refl; label = refl; spelled = refl }, tt), (λ e. tt, (λ e. (record { number = refl; in_generation = refl; sender = refl; receiver = refl; label = refl; spelled = refl }, tt), (λ e. tt, tt)))))))))))))))))))))))

aborts_statuses : EachTurn (StatusesAreSent journals.one_disk) more.abort_told
unfolding reading fault_of tcode_of header_of offset_of rcode_of value_of length_of extended_of three four part_of is_to is_same asked_by begun_by belongs start_at lowest_from label_for free_from count_flying lowest_flying label_of with_label is_write kind_of slot_of window_at is_fifo point_step doorbell_step reset_step abort_step reply_step lost_step refusal verdict request_of check_of blank_bytes command_kind elements_from made block_head decide reads_eui live_login response_bytes start_step reply_step_of_manager decide_step fresh_id left_for enter_step back_step leave_step
aborts_statuses = (refl, (refl, (refl, (refl, (refl, (refl, (refl, (refl, (refl, (refl, (refl, (refl, (refl, (refl, (refl, (refl, (refl, (refl, (refl, (refl, (refl, (refl, (refl, tt)))))))))))))))))))))))

aborts_decisions : EachTurn (DecisionsAreSent journals.one_disk) more.abort_told
unfolding reading fault_of tcode_of header_of offset_of rcode_of value_of length_of extended_of three four part_of is_to is_same asked_by begun_by belongs start_at lowest_from label_for free_from count_flying lowest_flying label_of with_label is_write kind_of slot_of window_at is_fifo point_step doorbell_step reset_step abort_step reply_step lost_step refusal verdict request_of check_of blank_bytes command_kind elements_from made block_head decide reads_eui live_login response_bytes start_step reply_step_of_manager decide_step fresh_id left_for enter_step back_step leave_step
aborts_decisions = (refl, (refl, (refl, (refl, (refl, (refl, (refl, (refl, (refl, (refl, (refl, (refl, (refl, (refl, (refl, (refl, (refl, (refl, (refl, (refl, (refl, (refl, (refl, tt)))))))))))))))))))))))

aborts_asked : EachMoment (NoneUnasked journals.one_disk) more.abort_told
unfolding reading fault_of tcode_of header_of offset_of rcode_of value_of length_of extended_of three four part_of is_to is_same asked_by begun_by belongs start_at lowest_from label_for free_from count_flying lowest_flying label_of with_label is_write kind_of slot_of window_at is_fifo point_step doorbell_step reset_step abort_step reply_step lost_step refusal verdict request_of check_of blank_bytes command_kind elements_from made block_head decide reads_eui live_login response_bytes start_step reply_step_of_manager decide_step fresh_id left_for enter_step back_step leave_step
aborts_asked = (tt, (tt, (tt, (tt, (tt, (tt, (tt, (tt, (tt, (tt, (tt, (tt, (tt, (tt, (tt, (tt, (tt, (tt, (tt, (tt, (tt, (tt, (tt, (tt, (tt, (tt, (tt, (tt, (tt, (tt, (tt, (tt, (tt, (tt, (tt, (tt, (tt, (tt, (tt, (tt, (tt, (tt, (tt, (tt, tt))))))))))))))))))))))))))))))))))))))))))))

aborts_after : EachTurn (AfterTurn journals.one_disk) more.abort_told
unfolding reading fault_of tcode_of header_of offset_of rcode_of value_of length_of extended_of three four part_of is_to is_same asked_by begun_by belongs start_at lowest_from label_for free_from count_flying lowest_flying label_of with_label is_write kind_of slot_of window_at is_fifo point_step doorbell_step reset_step abort_step reply_step lost_step refusal verdict request_of check_of blank_bytes command_kind elements_from made block_head decide reads_eui live_login response_bytes start_step reply_step_of_manager decide_step fresh_id left_for enter_step back_step leave_step
aborts_after = (record { agents = (record { ended = refl; answered = refl; ends = refl; unrung = refl }, (tt, (tt, (tt, (tt, (tt, (tt, (tt, tt)))))))); management = tt; roms = (tt, tt) }, (record { agents = (record { ended = refl; answered = refl; ends = refl; unrung = refl }, (tt, (tt, (tt, (tt, (tt, (tt, (tt, tt)))))))); management = tt; roms = (tt, tt) }, (record { agents = (refl, (tt, (tt, (tt, (tt, (tt, (tt, (tt, tt)))))))); management = tt; roms = (tt, tt) }, (record { agents = (refl, (tt, (tt, (tt, (tt, (tt, (tt, (tt, tt)))))))); management = tt; roms = (tt, tt) }, (record { agents = (refl, (tt, (tt, (tt, (tt, (tt, (tt, (tt, tt)))))))); management = refl; roms = (tt, tt) }, (record { agents = (refl, (tt, (tt, (tt, (tt, (tt, (tt, (tt, tt)))))))); management = refl; roms = (tt, tt) }, (record { agents = (refl, (tt, (tt, (tt, (tt, (tt, (tt, (tt, tt)))))))); management = refl; roms = (tt, tt) }, (record { agents = (refl, (tt, (tt, (tt, (tt, (tt, (tt, (tt, tt)))))))); management = refl; roms = (tt, tt) }, (record { agents = (refl, (tt, (tt, (tt, (tt, (tt, (tt, (tt, tt)))))))); management = refl; roms = (tt, tt) }, (record { agents = (refl, (tt, (tt, (tt, (tt, (tt, (tt, (tt, tt)))))))); management = refl; roms = (tt, tt) }, (record { agents = (refl, (tt, (tt, (tt, (tt, (tt, (tt, (tt, tt)))))))); management = refl; roms = (tt, tt) }, (record { agents = (refl, (tt, (tt, (tt, (tt, (tt, (tt, (tt, tt)))))))); management = refl; roms = (tt, tt) }, (record { agents = (refl, (tt, (tt, (tt, (tt, (tt, (tt, (tt, tt)))))))); management = refl; roms = (tt, tt) }, (record { agents = (refl, (tt, (tt, (tt, (tt, (tt, (tt, (tt, tt)))))))); management = refl; roms = (tt, tt) }, (record { agents = (refl, (tt, (tt, (tt, (tt, (tt, (tt, (tt, tt)))))))); management = tt; roms = (tt, tt) }, (record { agents = (refl, (tt, (tt, (tt, (tt, (tt, (tt, (tt, tt)))))))); management = tt; roms = (tt, tt) }, (record { agents = (refl, (tt, (tt, (tt, (tt, (tt, (tt, (tt, tt)))))))); management = tt; roms = (tt, tt) }, (record { agents = (refl, (tt, (tt, (tt, (tt, (tt, (tt, (tt, tt)))))))); management = tt; roms = (tt, tt) }, (record { agents = (refl, (tt, (tt, (tt, (tt, (tt, (tt, (tt, tt)))))))); management = tt; roms = (tt, tt) }, (record { agents = (refl, (tt, (tt, (tt, (tt, (tt, (tt, (tt, tt)))))))); management = tt; roms = (tt, tt) }, (record { agents = (tt, (tt, (tt, (tt, (tt, (tt, (tt, (tt, tt)))))))); management = tt; roms = (tt, tt) }, (record { agents = (tt, (tt, (tt, (tt, (tt, (tt, (tt, (tt, tt)))))))); management = tt; roms = (tt, tt) }, (record { agents = (tt, (tt, (tt, (tt, (tt, (tt, (tt, (tt, tt)))))))); management = tt; roms = (tt, tt) }, tt)))))))))))))))))))))))

aborts_once : OnceLaw nobody more.abort_told
unfolding reading fault_of tcode_of header_of offset_of rcode_of value_of length_of extended_of three four part_of is_to is_same asked_by begun_by belongs start_at lowest_from label_for free_from count_flying lowest_flying label_of with_label is_write kind_of slot_of window_at is_fifo point_step doorbell_step reset_step abort_step reply_step lost_step refusal verdict request_of check_of blank_bytes command_kind elements_from made block_head decide reads_eui live_login response_bytes start_step reply_step_of_manager decide_step fresh_id left_for enter_step back_step leave_step
aborts_once = (tt, ((λ e. refl, λ e. record { once = refl; served = refl }), (tt, (tt, ((λ e. refl, tt), ((λ e. refl, λ e. record { once = refl; served = refl }), (tt, (tt, ((λ e. refl, λ e. record { once = refl; served = refl }), (tt, (tt, ((λ e. refl, tt), ((λ e. refl, λ e. record { once = refl; served = refl }), (tt, ((λ e. refl, tt), (tt, (tt, (tt, ((λ e. refl, λ e. record { once = refl; served = refl }), (tt, (tt, ((λ e. refl, tt), (tt, (tt, (tt, ((λ e. refl, tt), (tt, (tt, (tt, (tt, ((λ e. refl, λ e. record { once = refl; served = refl }), (tt, ((λ e. refl, tt), ((λ e. refl, λ e. record { once = refl; served = refl }), (tt, (tt, ((λ e. refl, tt), (tt, (tt, (tt, (tt, (tt, (tt, (tt, tt))))))))))))))))))))))))))))))))))))))))))))

aborts_order : OrderLaw nobody more.abort_told
unfolding reading fault_of tcode_of header_of offset_of rcode_of value_of length_of extended_of three four part_of is_to is_same asked_by begun_by belongs start_at lowest_from label_for free_from count_flying lowest_flying label_of with_label is_write kind_of slot_of window_at is_fifo point_step doorbell_step reset_step abort_step reply_step lost_step refusal verdict request_of check_of blank_bytes command_kind elements_from made block_head decide reads_eui live_login response_bytes start_step reply_step_of_manager decide_step fresh_id left_for enter_step back_step leave_step
aborts_order = (tt, (tt, (tt, (tt, (tt, (tt, (tt, (λ e. record { number = refl; appended = first_of_one; still = record { latest = refl; uncut = refl } }, (tt, (tt, (tt, (tt, (tt, (tt, (tt, (tt, (tt, (tt, (tt, (tt, (tt, (tt, (tt, (tt, (tt, (tt, (tt, (tt, (tt, (tt, (tt, (tt, (tt, (tt, (tt, (tt, (tt, (tt, (tt, (tt, (record { number = refl; list = refl }, (tt, (tt, (tt, tt))))))))))))))))))))))))))))))))))))))))))))

aborts_execution : ExecutionLaw nobody journals.one_disk more.abort_told
unfolding reading fault_of tcode_of header_of offset_of rcode_of value_of length_of extended_of three four part_of is_to is_same asked_by begun_by belongs start_at lowest_from label_for free_from count_flying lowest_flying label_of with_label is_write kind_of slot_of window_at is_fifo point_step doorbell_step reset_step abort_step reply_step lost_step refusal verdict request_of check_of blank_bytes command_kind elements_from made block_head decide reads_eui live_login response_bytes start_step reply_step_of_manager decide_step fresh_id left_for enter_step back_step leave_step
aborts_execution = (tt, (tt, (tt, (tt, (tt, (tt, (tt, (λ e. refl, (tt, (tt, (tt, (tt, (tt, (tt, (tt, (tt, (tt, (tt, (tt, (tt, (tt, (tt, (tt, (tt, (tt, (tt, (tt, (tt, (tt, (tt, (tt, (tt, (tt, (tt, (tt, (tt, (tt, (tt, (tt, (tt, (tt, (tt, (tt, (tt, tt))))))))))))))))))))))))))))))))))))))))))))

aborts_carried : CarriedLaw nobody journals.one_disk more.abort_told
unfolding reading fault_of tcode_of header_of offset_of rcode_of value_of length_of extended_of three four part_of is_to is_same asked_by begun_by belongs start_at lowest_from label_for free_from count_flying lowest_flying label_of with_label is_write kind_of slot_of window_at is_fifo point_step doorbell_step reset_step abort_step reply_step lost_step refusal verdict request_of check_of blank_bytes command_kind elements_from made block_head decide reads_eui live_login response_bytes start_step reply_step_of_manager decide_step fresh_id left_for enter_step back_step leave_step
aborts_carried = record { carried = (tt, (tt, (tt, (tt, (tt, (tt, (tt, (λ e. record { read = record { response = 4; request = 3; got = refl; whole = refl; answers = refl; of_target = refl; of_initiator = refl; asks = record { read = refl; block = refl; from = refl; size = refl }; appended = first_of_one; opened = refl }; matches = (λ e. let bad : 0 ≡ 3 = e in omega (arith, bad), record { command = refl; direction = refl }) }, (tt, (tt, (tt, (tt, (tt, (tt, (tt, (tt, (tt, (tt, (tt, (tt, (tt, (tt, (tt, (tt, (tt, (tt, (tt, (tt, (tt, (tt, (tt, (tt, (tt, (tt, (tt, (tt, (tt, (tt, (tt, (tt, (tt, (tt, (tt, (tt, tt)))))))))))))))))))))))))))))))))))))))))))); due = (refl, (refl, (refl, (refl, (refl, (refl, (refl, (refl, (refl, (refl, (refl, (refl, (refl, (refl, (refl, (refl, (refl, (refl, (refl, (refl, (refl, (refl, (refl, tt))))))))))))))))))))))) }

aborts_status : StatusLaw nobody more.abort_told
unfolding reading fault_of tcode_of header_of offset_of rcode_of value_of length_of extended_of three four part_of is_to is_same asked_by begun_by belongs start_at lowest_from label_for free_from count_flying lowest_flying label_of with_label is_write kind_of slot_of window_at is_fifo point_step doorbell_step reset_step abort_step reply_step lost_step refusal verdict request_of check_of blank_bytes command_kind elements_from made block_head decide reads_eui live_login response_bytes start_step reply_step_of_manager decide_step fresh_id left_for enter_step back_step leave_step
aborts_status = record { taken = (tt, (tt, (tt, (λ e. record { once = refl; ended = refl; sent = refl; written = record { is_write = refl; goes = refl; src = 1; spells = refl } }, (tt, (tt, (tt, (tt, (tt, (tt, (tt, (tt, (tt, (tt, (tt, (tt, (tt, (tt, (tt, (tt, (tt, (tt, (tt, (tt, (tt, (tt, (tt, (tt, (tt, (tt, (tt, (tt, (tt, (tt, (tt, (tt, (tt, (tt, (tt, (tt, (tt, (tt, (tt, (tt, tt)))))))))))))))))))))))))))))))))))))))))))); each = (refl, (refl, (refl, (refl, (refl, (refl, (refl, (refl, (refl, (refl, (refl, (refl, (refl, (refl, (refl, (refl, (refl, (refl, (refl, (refl, (refl, (refl, (refl, tt))))))))))))))))))))))) }

aborts_answer : AnswerLaw nobody journals.one_disk more.abort_told
unfolding reading fault_of tcode_of header_of offset_of rcode_of value_of length_of extended_of three four part_of is_to is_same asked_by begun_by belongs start_at lowest_from label_for free_from count_flying lowest_flying label_of with_label is_write kind_of slot_of window_at is_fifo point_step doorbell_step reset_step abort_step reply_step lost_step refusal verdict request_of check_of blank_bytes command_kind elements_from made block_head decide reads_eui live_login response_bytes start_step reply_step_of_manager decide_step fresh_id left_for enter_step back_step leave_step
aborts_answer = (tt, (tt, (tt, (tt, (tt, (tt, (tt, (tt, (tt, (tt, (tt, (tt, (tt, (tt, (tt, (tt, (tt, (tt, (tt, (tt, (tt, (tt, (tt, (tt, (tt, (tt, (tt, (tt, (tt, (tt, (tt, (tt, (tt, (tt, (tt, (tt, (tt, (tt, (tt, (tt, (tt, (tt, (tt, (tt, tt))))))))))))))))))))))))))))))))))))))))))))

unit_reset_judged : JudgementLaw journals.one_disk (rare.unit_reset rare.unit_reset_notes)
unfolding reading fault_of tcode_of header_of offset_of rcode_of value_of length_of extended_of three four part_of is_to is_same asked_by begun_by belongs start_at lowest_from label_for free_from count_flying lowest_flying label_of with_label is_write kind_of slot_of window_at is_fifo point_step doorbell_step reset_step abort_step reply_step lost_step refusal verdict request_of check_of blank_bytes command_kind elements_from made block_head decide reads_eui live_login response_bytes start_step reply_step_of_manager decide_step fresh_id left_for enter_step back_step leave_step
unit_reset_judged = (refl, (tt, (refl, (tt, (refl, (tt, (tt, (refl, (tt, (tt, (tt, tt)))))))))))

unit_reset_login : LoginLaw journals.one_disk (rare.unit_reset rare.unit_reset_notes)
unfolding reading fault_of tcode_of header_of offset_of rcode_of value_of length_of extended_of three four part_of is_to is_same asked_by begun_by belongs start_at lowest_from label_for free_from count_flying lowest_flying label_of with_label is_write kind_of slot_of window_at is_fifo point_step doorbell_step reset_step abort_step reply_step lost_step refusal verdict request_of check_of blank_bytes command_kind elements_from made block_head decide reads_eui live_login response_bytes start_step reply_step_of_manager decide_step fresh_id left_for enter_step back_step leave_step
unit_reset_login = (record { rows = (refl, tt); decisions = refl; logins = refl }, (record { rows = tt; decisions = refl; logins = refl }, (record { rows = tt; decisions = refl; logins = refl }, (record { rows = tt; decisions = refl; logins = refl }, (record { rows = tt; decisions = refl; logins = refl }, (record { rows = tt; decisions = refl; logins = refl }, (record { rows = tt; decisions = refl; logins = refl }, (record { rows = tt; decisions = refl; logins = refl }, (record { rows = tt; decisions = refl; logins = refl }, (record { rows = tt; decisions = refl; logins = refl }, (record { rows = tt; decisions = refl; logins = refl }, tt)))))))))))

unit_reset_media : MediaLaw journals.one_disk (rare.unit_reset rare.unit_reset_notes)
unfolding reading fault_of tcode_of header_of offset_of rcode_of value_of length_of extended_of three four part_of is_to is_same asked_by begun_by belongs start_at lowest_from label_for free_from count_flying lowest_flying label_of with_label is_write kind_of slot_of window_at is_fifo point_step doorbell_step reset_step abort_step reply_step lost_step refusal verdict request_of check_of blank_bytes command_kind elements_from made block_head decide reads_eui live_login response_bytes start_step reply_step_of_manager decide_step fresh_id left_for enter_step back_step leave_step
unit_reset_media = (record { pushes = refl; told = refl }, (record { pushes = refl; told = refl }, (record { pushes = refl; told = refl }, (record { pushes = refl; told = refl }, (record { pushes = refl; told = refl }, (record { pushes = refl; told = refl }, (record { pushes = refl; told = refl }, (record { pushes = refl; told = refl }, (record { pushes = refl; told = refl }, (record { pushes = refl; told = refl }, (record { pushes = refl; told = refl }, tt)))))))))))

unit_reset_packets : EachMoment SentAt (rare.unit_reset rare.unit_reset_notes)
unfolding reading fault_of tcode_of header_of offset_of rcode_of value_of length_of extended_of three four part_of is_to is_same asked_by begun_by belongs start_at lowest_from label_for free_from count_flying lowest_flying label_of with_label is_write kind_of slot_of window_at is_fifo point_step doorbell_step reset_step abort_step reply_step lost_step refusal verdict request_of check_of blank_bytes command_kind elements_from made block_head decide reads_eui live_login response_bytes start_step reply_step_of_manager decide_step fresh_id left_for enter_step back_step leave_step
unit_reset_packets = ((refl, λ e. record { in_generation = refl; spelled = record { packet = write_block (journals.to_first 0) 0x12002000 (quad_bytes (0x01000000 ∷ 0x12000000 ∷ [])); canonical = refl; retry = refl; priority = refl; source = refl; destination = refl }; label = refl }), (tt, (tt, (tt, (tt, (tt, ((refl, λ e. record { in_generation = refl; spelled = record { packet = read_block_response (journals.to_target 0) 0 (management_bytes (rare.orb_of 0xe)); canonical = refl; retry = refl; priority = refl; source = refl; destination = refl }; label = tt }), (tt, (tt, ((refl, λ e. record { in_generation = refl; spelled = record { packet = read_block (journals.to_first 0) 0x12000000 32; canonical = refl; retry = refl; priority = refl; source = refl; destination = refl }; label = refl }), ((refl, λ e. record { in_generation = refl; spelled = record { packet = write_response (journals.to_first 0) 0; canonical = refl; retry = refl; priority = refl; source = refl; destination = refl }; label = tt }), (tt, (tt, ((refl, λ e. record { in_generation = refl; spelled = record { packet = write_block (journals.to_target 0) 0xfffff0010000 (quad_bytes (0 ∷ 0x12000000 ∷ [])); canonical = refl; retry = refl; priority = refl; source = refl; destination = refl }; label = refl }), (tt, ((refl, λ e. record { in_generation = refl; spelled = record { packet = read_block (rare.to_second 0) 0x10000000 32; canonical = refl; retry = refl; priority = refl; source = refl; destination = refl }; label = refl }), ((refl, λ e. record { in_generation = refl; spelled = record { packet = write_response (rare.to_second 0) 0; canonical = refl; retry = refl; priority = refl; source = refl; destination = refl }; label = tt }), (tt, (tt, ((refl, λ e. record { in_generation = refl; spelled = record { packet = write_block (rare.from_second 0) 0xfffff0040028 (quad_bytes (0 ∷ 0x10000000 ∷ [])); canonical = refl; retry = refl; priority = refl; source = refl; destination = refl }; label = refl }), (tt, (tt, (tt, (tt, (tt, tt)))))))))))))))))))))))))

unit_reset_answers : EachTurn (AnswersLaw journals.one_disk) (rare.unit_reset rare.unit_reset_notes)
unfolding reading fault_of tcode_of header_of offset_of rcode_of value_of length_of extended_of three four part_of is_to is_same asked_by begun_by belongs start_at lowest_from label_for free_from count_flying lowest_flying label_of with_label is_write kind_of slot_of window_at is_fifo point_step doorbell_step reset_step abort_step reply_step lost_step refusal verdict request_of check_of blank_bytes command_kind elements_from made block_head decide reads_eui live_login response_bytes start_step reply_step_of_manager decide_step fresh_id left_for enter_step back_step leave_step
unit_reset_answers = (tt, (tt, ((refl, tt), (tt, ((refl, tt), (tt, (tt, ((refl, tt), (tt, (tt, (tt, tt)))))))))))

unit_reset_requests : EachTurn (RequestsLaw journals.one_disk) (rare.unit_reset rare.unit_reset_notes)
unfolding reading fault_of tcode_of header_of offset_of rcode_of value_of length_of extended_of three four part_of is_to is_same asked_by begun_by belongs start_at lowest_from label_for free_from count_flying lowest_flying label_of with_label is_write kind_of slot_of window_at is_fifo point_step doorbell_step reset_step abort_step reply_step lost_step refusal verdict request_of check_of blank_bytes command_kind elements_from made block_head decide reads_eui live_login response_bytes start_step reply_step_of_manager decide_step fresh_id left_for enter_step back_step leave_step
unit_reset_requests = (λ e. (record { number = refl; in_generation = refl; sender = refl; receiver = refl; label = refl; spelled = refl }, tt), (λ e. tt, (λ e. tt, (λ e. tt, (λ e. (record { number = refl; in_generation = refl; sender = refl; receiver = refl; label = refl; spelled = refl }, tt), (λ e. tt, (λ e. (record { number = refl; in_generation = refl; sender = refl; receiver = refl; label = refl; spelled = refl }, tt), (λ e. (record { number = refl; in_generation = refl; sender = refl; receiver = refl; label = refl; spelled = refl }, tt), (λ e. tt, (λ e. (record { number = refl; in_generation = refl; sender = refl; receiver = refl; label = refl; spelled = refl }, tt), (λ e. tt, tt)))))))))))

unit_reset_statuses : EachTurn (StatusesAreSent journals.one_disk) (rare.unit_reset rare.unit_reset_notes)
unfolding reading fault_of tcode_of header_of offset_of rcode_of value_of length_of extended_of three four part_of is_to is_same asked_by begun_by belongs start_at lowest_from label_for free_from count_flying lowest_flying label_of with_label is_write kind_of slot_of window_at is_fifo point_step doorbell_step reset_step abort_step reply_step lost_step refusal verdict request_of check_of blank_bytes command_kind elements_from made block_head decide reads_eui live_login response_bytes start_step reply_step_of_manager decide_step fresh_id left_for enter_step back_step leave_step
unit_reset_statuses = (refl, (refl, (refl, (refl, (refl, (refl, (refl, (refl, (refl, (refl, (refl, tt)))))))))))

unit_reset_decisions : EachTurn (DecisionsAreSent journals.one_disk) (rare.unit_reset rare.unit_reset_notes)
unfolding reading fault_of tcode_of header_of offset_of rcode_of value_of length_of extended_of three four part_of is_to is_same asked_by begun_by belongs start_at lowest_from label_for free_from count_flying lowest_flying label_of with_label is_write kind_of slot_of window_at is_fifo point_step doorbell_step reset_step abort_step reply_step lost_step refusal verdict request_of check_of blank_bytes command_kind elements_from made block_head decide reads_eui live_login response_bytes start_step reply_step_of_manager decide_step fresh_id left_for enter_step back_step leave_step
unit_reset_decisions = (refl, (refl, (refl, (refl, (refl, (refl, (refl, (refl, (refl, (refl, (refl, tt)))))))))))

unit_reset_asked : EachMoment (NoneUnasked journals.one_disk) (rare.unit_reset rare.unit_reset_notes)
unfolding reading fault_of tcode_of header_of offset_of rcode_of value_of length_of extended_of three four part_of is_to is_same asked_by begun_by belongs start_at lowest_from label_for free_from count_flying lowest_flying label_of with_label is_write kind_of slot_of window_at is_fifo point_step doorbell_step reset_step abort_step reply_step lost_step refusal verdict request_of check_of blank_bytes command_kind elements_from made block_head decide reads_eui live_login response_bytes start_step reply_step_of_manager decide_step fresh_id left_for enter_step back_step leave_step
unit_reset_asked = (tt, (tt, (tt, (tt, (tt, (tt, (tt, (tt, (tt, (tt, (tt, (tt, (tt, (tt, (tt, (tt, (tt, (tt, (tt, (tt, (tt, (tt, (tt, (tt, (tt, tt)))))))))))))))))))))))))

unit_reset_after : EachTurn (AfterTurn journals.one_disk) (rare.unit_reset rare.unit_reset_notes)
unfolding reading fault_of tcode_of header_of offset_of rcode_of value_of length_of extended_of three four part_of is_to is_same asked_by begun_by belongs start_at lowest_from label_for free_from count_flying lowest_flying label_of with_label is_write kind_of slot_of window_at is_fifo point_step doorbell_step reset_step abort_step reply_step lost_step refusal verdict request_of check_of blank_bytes command_kind elements_from made block_head decide reads_eui live_login response_bytes start_step reply_step_of_manager decide_step fresh_id left_for enter_step back_step leave_step
unit_reset_after = (record { agents = (tt, (tt, (tt, (tt, (tt, (tt, (tt, (tt, tt)))))))); management = refl; roms = (tt, (tt, tt)) }, (record { agents = (tt, (refl, (tt, (tt, (tt, (tt, (tt, (tt, tt)))))))); management = refl; roms = (tt, (tt, tt)) }, (record { agents = (tt, (refl, (tt, (tt, (tt, (tt, (tt, (tt, tt)))))))); management = refl; roms = (tt, (tt, tt)) }, (record { agents = (tt, (refl, (tt, (tt, (tt, (tt, (tt, (tt, tt)))))))); management = refl; roms = (tt, (tt, tt)) }, (record { agents = (tt, (refl, (tt, (tt, (tt, (tt, (tt, (tt, tt)))))))); management = refl; roms = (tt, (tt, tt)) }, (record { agents = (tt, (refl, (tt, (tt, (tt, (tt, (tt, (tt, tt)))))))); management = tt; roms = (tt, (tt, tt)) }, (record { agents = (tt, (refl, (tt, (tt, (tt, (tt, (tt, (tt, tt)))))))); management = tt; roms = (tt, (tt, tt)) }, (record { agents = (tt, (refl, (tt, (tt, (tt, (tt, (tt, (tt, tt)))))))); management = tt; roms = (tt, (tt, tt)) }, (record { agents = (tt, (tt, (tt, (tt, (tt, (tt, (tt, (tt, tt)))))))); management = tt; roms = (tt, (tt, tt)) }, (record { agents = (tt, (tt, (tt, (tt, (tt, (tt, (tt, (tt, tt)))))))); management = tt; roms = (tt, (tt, tt)) }, (record { agents = (tt, (tt, (tt, (tt, (tt, (tt, (tt, (tt, tt)))))))); management = tt; roms = (tt, (tt, tt)) }, tt)))))))))))

unit_reset_once : OnceLaw nobody (rare.unit_reset rare.unit_reset_notes)
unfolding reading fault_of tcode_of header_of offset_of rcode_of value_of length_of extended_of three four part_of is_to is_same asked_by begun_by belongs start_at lowest_from label_for free_from count_flying lowest_flying label_of with_label is_write kind_of slot_of window_at is_fifo point_step doorbell_step reset_step abort_step reply_step lost_step refusal verdict request_of check_of blank_bytes command_kind elements_from made block_head decide reads_eui live_login response_bytes start_step reply_step_of_manager decide_step fresh_id left_for enter_step back_step leave_step
unit_reset_once = (tt, (tt, (tt, (tt, ((λ e. refl, λ e. record { once = refl; served = refl }), (tt, (tt, ((λ e. refl, tt), (tt, (tt, (tt, ((λ e. refl, tt), (tt, (tt, (tt, (tt, (tt, ((λ e. refl, tt), (tt, (tt, (tt, (tt, (tt, (tt, (tt, tt)))))))))))))))))))))))))

unit_reset_order : OrderLaw nobody (rare.unit_reset rare.unit_reset_notes)
unfolding reading fault_of tcode_of header_of offset_of rcode_of value_of length_of extended_of three four part_of is_to is_same asked_by begun_by belongs start_at lowest_from label_for free_from count_flying lowest_flying label_of with_label is_write kind_of slot_of window_at is_fifo point_step doorbell_step reset_step abort_step reply_step lost_step refusal verdict request_of check_of blank_bytes command_kind elements_from made block_head decide reads_eui live_login response_bytes start_step reply_step_of_manager decide_step fresh_id left_for enter_step back_step leave_step
unit_reset_order = (tt, (tt, (tt, (tt, (tt, (tt, (tt, (tt, (tt, (tt, (tt, (tt, (tt, (tt, (tt, (tt, (tt, (tt, (tt, (tt, (tt, (record { number = refl; list = refl }, (tt, (tt, (tt, tt)))))))))))))))))))))))))

unit_reset_execution : ExecutionLaw nobody journals.one_disk (rare.unit_reset rare.unit_reset_notes)
unfolding reading fault_of tcode_of header_of offset_of rcode_of value_of length_of extended_of three four part_of is_to is_same asked_by begun_by belongs start_at lowest_from label_for free_from count_flying lowest_flying label_of with_label is_write kind_of slot_of window_at is_fifo point_step doorbell_step reset_step abort_step reply_step lost_step refusal verdict request_of check_of blank_bytes command_kind elements_from made block_head decide reads_eui live_login response_bytes start_step reply_step_of_manager decide_step fresh_id left_for enter_step back_step leave_step
unit_reset_execution = (tt, (tt, (tt, (tt, (tt, (tt, (tt, (tt, (tt, (tt, (tt, (tt, (tt, (tt, (tt, (tt, (tt, (tt, (tt, (tt, (tt, (tt, (tt, (tt, (tt, tt)))))))))))))))))))))))))

unit_reset_carried : CarriedLaw nobody journals.one_disk (rare.unit_reset rare.unit_reset_notes)
unfolding reading fault_of tcode_of header_of offset_of rcode_of value_of length_of extended_of three four part_of is_to is_same asked_by begun_by belongs start_at lowest_from label_for free_from count_flying lowest_flying label_of with_label is_write kind_of slot_of window_at is_fifo point_step doorbell_step reset_step abort_step reply_step lost_step refusal verdict request_of check_of blank_bytes command_kind elements_from made block_head decide reads_eui live_login response_bytes start_step reply_step_of_manager decide_step fresh_id left_for enter_step back_step leave_step
unit_reset_carried = record { carried = (tt, (tt, (tt, (tt, (tt, (tt, (tt, (tt, (tt, (tt, (tt, (tt, (tt, (tt, (tt, (tt, (tt, (tt, (tt, (tt, (tt, (tt, (tt, (tt, (tt, tt))))))))))))))))))))))))); due = (refl, (refl, (refl, (refl, (refl, (refl, (refl, (refl, (refl, (refl, (refl, tt))))))))))) }

unit_reset_status : StatusLaw nobody (rare.unit_reset rare.unit_reset_notes)
unfolding reading fault_of tcode_of header_of offset_of rcode_of value_of length_of extended_of three four part_of is_to is_same asked_by begun_by belongs start_at lowest_from label_for free_from count_flying lowest_flying label_of with_label is_write kind_of slot_of window_at is_fifo point_step doorbell_step reset_step abort_step reply_step lost_step refusal verdict request_of check_of blank_bytes command_kind elements_from made block_head decide reads_eui live_login response_bytes start_step reply_step_of_manager decide_step fresh_id left_for enter_step back_step leave_step
unit_reset_status = record { taken = (tt, (tt, (tt, (tt, (tt, (tt, (tt, (tt, (tt, (tt, (tt, (tt, (tt, (tt, (tt, (tt, (tt, (tt, (tt, (tt, (tt, (tt, (tt, (tt, (tt, tt))))))))))))))))))))))))); each = (refl, (refl, (refl, (refl, (refl, (refl, (refl, (refl, (refl, (refl, (refl, tt))))))))))) }

unit_reset_answer : AnswerLaw nobody journals.one_disk (rare.unit_reset rare.unit_reset_notes)
unfolding reading fault_of tcode_of header_of offset_of rcode_of value_of length_of extended_of three four part_of is_to is_same asked_by begun_by belongs start_at lowest_from label_for free_from count_flying lowest_flying label_of with_label is_write kind_of slot_of window_at is_fifo point_step doorbell_step reset_step abort_step reply_step lost_step refusal verdict request_of check_of blank_bytes command_kind elements_from made block_head decide reads_eui live_login response_bytes start_step reply_step_of_manager decide_step fresh_id left_for enter_step back_step leave_step
unit_reset_answer = (tt, (tt, (tt, (tt, (tt, (tt, (tt, (tt, (tt, (tt, (tt, (tt, (tt, (tt, (tt, (tt, (tt, (tt, (tt, (tt, (tt, (tt, (tt, (tt, (tt, tt)))))))))))))))))))))))))

untold_cause : CauseLaw rare.untold_disk rare.untold_told
unfolding reading fault_of tcode_of header_of offset_of rcode_of value_of length_of extended_of three four part_of is_to is_same asked_by begun_by belongs start_at lowest_from label_for free_from count_flying lowest_flying label_of with_label is_write kind_of slot_of window_at is_fifo point_step doorbell_step reset_step abort_step reply_step lost_step refusal verdict request_of check_of blank_bytes command_kind elements_from made block_head decide reads_eui live_login response_bytes start_step reply_step_of_manager decide_step fresh_id left_for enter_step back_step leave_step
untold_cause = record { causes = (record { cuts = refl; cleared = refl; ends = refl; deaths = tt; faults = tt; failures = refl; operations = refl; unserved = tt; codes = tt; failing = tt; once = refl; aborts = refl; decided = record { cut = refl; cleared = refl; moved = refl }; silent = refl }, (record { cuts = refl; cleared = refl; ends = refl; deaths = tt; faults = tt; failures = refl; operations = refl; unserved = tt; codes = tt; failing = tt; once = refl; aborts = refl; decided = record { cut = refl; cleared = refl; moved = refl }; silent = refl }, (record { cuts = refl; cleared = refl; ends = refl; deaths = tt; faults = tt; failures = refl; operations = refl; unserved = tt; codes = tt; failing = tt; once = refl; aborts = refl; decided = record { cut = refl; cleared = refl; moved = refl }; silent = refl }, (record { cuts = refl; cleared = refl; ends = refl; deaths = tt; faults = tt; failures = refl; operations = refl; unserved = tt; codes = tt; failing = tt; once = refl; aborts = refl; decided = record { cut = refl; cleared = refl; moved = refl }; silent = refl }, (record { cuts = refl; cleared = refl; ends = refl; deaths = tt; faults = tt; failures = refl; operations = refl; unserved = tt; codes = tt; failing = tt; once = refl; aborts = refl; decided = record { cut = refl; cleared = refl; moved = refl }; silent = refl }, (record { cuts = refl; cleared = refl; ends = refl; deaths = tt; faults = tt; failures = refl; operations = refl; unserved = tt; codes = tt; failing = tt; once = refl; aborts = refl; decided = record { cut = refl; cleared = refl; moved = refl }; silent = refl }, (record { cuts = refl; cleared = refl; ends = refl; deaths = tt; faults = tt; failures = refl; operations = refl; unserved = tt; codes = tt; failing = tt; once = refl; aborts = refl; decided = record { cut = refl; cleared = refl; moved = refl }; silent = refl }, (record { cuts = refl; cleared = refl; ends = refl; deaths = tt; faults = tt; failures = refl; operations = refl; unserved = tt; codes = tt; failing = tt; once = refl; aborts = refl; decided = record { cut = refl; cleared = refl; moved = refl }; silent = refl }, (record { cuts = refl; cleared = refl; ends = refl; deaths = tt; faults = tt; failures = refl; operations = refl; unserved = tt; codes = tt; failing = tt; once = refl; aborts = refl; decided = record { cut = refl; cleared = refl; moved = refl }; silent = refl }, (record { cuts = refl; cleared = refl; ends = refl; deaths = tt; faults = tt; failures = refl; operations = refl; unserved = tt; codes = tt; failing = tt; once = refl; aborts = refl; decided = record { cut = refl; cleared = refl; moved = refl }; silent = refl }, (record { cuts = refl; cleared = refl; ends = refl; deaths = tt; faults = tt; failures = refl; operations = refl; unserved = tt; codes = tt; failing = tt; once = refl; aborts = refl; decided = record { cut = refl; cleared = refl; moved = refl }; silent = refl }, (record { cuts = refl; cleared = refl; ends = refl; deaths = tt; faults = tt; failures = refl; operations = refl; unserved = tt; codes = tt; failing = tt; once = refl; aborts = refl; decided = record { cut = refl; cleared = refl; moved = refl }; silent = refl }, tt)))))))))))); aborted = (tt, (tt, (tt, (tt, (tt, (tt, (tt, (tt, (tt, (tt, (tt, (tt, (tt, (tt, (tt, (tt, (tt, (tt, (tt, (tt, (tt, (tt, (tt, (tt, (tt, (tt, tt)))))))))))))))))))))))))) }

untold_judged : JudgementLaw rare.untold_disk rare.untold_told
unfolding reading fault_of tcode_of header_of offset_of rcode_of value_of length_of extended_of three four part_of is_to is_same asked_by begun_by belongs start_at lowest_from label_for free_from count_flying lowest_flying label_of with_label is_write kind_of slot_of window_at is_fifo point_step doorbell_step reset_step abort_step reply_step lost_step refusal verdict request_of check_of blank_bytes command_kind elements_from made block_head decide reads_eui live_login response_bytes start_step reply_step_of_manager decide_step fresh_id left_for enter_step back_step leave_step
untold_judged = (tt, (refl, (refl, (refl, (refl, (refl, (refl, (refl, (refl, (tt, (tt, (tt, tt))))))))))))

untold_login : LoginLaw rare.untold_disk rare.untold_told
unfolding reading fault_of tcode_of header_of offset_of rcode_of value_of length_of extended_of three four part_of is_to is_same asked_by begun_by belongs start_at lowest_from label_for free_from count_flying lowest_flying label_of with_label is_write kind_of slot_of window_at is_fifo point_step doorbell_step reset_step abort_step reply_step lost_step refusal verdict request_of check_of blank_bytes command_kind elements_from made block_head decide reads_eui live_login response_bytes start_step reply_step_of_manager decide_step fresh_id left_for enter_step back_step leave_step
untold_login = (record { rows = tt; decisions = refl; logins = refl }, (record { rows = tt; decisions = refl; logins = refl }, (record { rows = tt; decisions = refl; logins = refl }, (record { rows = tt; decisions = refl; logins = refl }, (record { rows = tt; decisions = refl; logins = refl }, (record { rows = tt; decisions = refl; logins = refl }, (record { rows = tt; decisions = refl; logins = refl }, (record { rows = tt; decisions = refl; logins = refl }, (record { rows = tt; decisions = refl; logins = refl }, (record { rows = tt; decisions = refl; logins = refl }, (record { rows = tt; decisions = refl; logins = refl }, (record { rows = tt; decisions = refl; logins = refl }, tt))))))))))))

untold_media : MediaLaw rare.untold_disk rare.untold_told
unfolding reading fault_of tcode_of header_of offset_of rcode_of value_of length_of extended_of three four part_of is_to is_same asked_by begun_by belongs start_at lowest_from label_for free_from count_flying lowest_flying label_of with_label is_write kind_of slot_of window_at is_fifo point_step doorbell_step reset_step abort_step reply_step lost_step refusal verdict request_of check_of blank_bytes command_kind elements_from made block_head decide reads_eui live_login response_bytes start_step reply_step_of_manager decide_step fresh_id left_for enter_step back_step leave_step
untold_media = (record { pushes = refl; told = refl }, (record { pushes = refl; told = refl }, (record { pushes = refl; told = refl }, (record { pushes = refl; told = refl }, (record { pushes = refl; told = refl }, (record { pushes = refl; told = refl }, (record { pushes = refl; told = refl }, (record { pushes = refl; told = refl }, (record { pushes = refl; told = refl }, (record { pushes = refl; told = refl }, (record { pushes = refl; told = refl }, (record { pushes = refl; told = refl }, tt))))))))))))

untold_packets : EachMoment SentAt rare.untold_told
unfolding reading fault_of tcode_of header_of offset_of rcode_of value_of length_of extended_of three four part_of is_to is_same asked_by begun_by belongs start_at lowest_from label_for free_from count_flying lowest_flying label_of with_label is_write kind_of slot_of window_at is_fifo point_step doorbell_step reset_step abort_step reply_step lost_step refusal verdict request_of check_of blank_bytes command_kind elements_from made block_head decide reads_eui live_login response_bytes start_step reply_step_of_manager decide_step fresh_id left_for enter_step back_step leave_step
untold_packets = (tt, (tt, ((refl, λ e. record { in_generation = refl; spelled = record { packet = write_response (journals.to_target 0) 0; canonical = refl; retry = refl; priority = refl; source = refl; destination = refl }; label = tt }), (tt, (tt, ((refl, λ e. record { in_generation = refl; spelled = record { packet = write_block (journals.to_first 0) 0x13000000 (quad_bytes (0x41000000 ∷ 0x10000000 ∷ [])); canonical = refl; retry = refl; priority = refl; source = refl; destination = refl }; label = refl }), (tt, (tt, ((refl, λ e. record { in_generation = refl; spelled = record { packet = write_response (journals.to_target 0) 0; canonical = refl; retry = refl; priority = refl; source = refl; destination = refl }; label = tt }), (tt, ((refl, λ e. record { in_generation = refl; spelled = record { packet = write_block (journals.to_first 0) 0x11000000 (rare.some_block); canonical = refl; retry = refl; priority = refl; source = refl; destination = refl }; label = refl }), (tt, (tt, ((refl, λ e. record { in_generation = refl; spelled = record { packet = read_block_response (journals.to_target 0) 0 (rare.read_orb); canonical = refl; retry = refl; priority = refl; source = refl; destination = refl }; label = tt }), (tt, (tt, ((refl, λ e. record { in_generation = refl; spelled = record { packet = read_block (journals.to_first 0) 0x10000000 32; canonical = refl; retry = refl; priority = refl; source = refl; destination = refl }; label = refl }), ((refl, λ e. record { in_generation = refl; spelled = record { packet = write_response (journals.to_first 0) 0; canonical = refl; retry = refl; priority = refl; source = refl; destination = refl }; label = tt }), (tt, (tt, ((refl, λ e. record { in_generation = refl; spelled = record { packet = write_block (journals.to_target 0) 0xfffff0040008 (quad_bytes (0 ∷ 0x10000000 ∷ [])); canonical = refl; retry = refl; priority = refl; source = refl; destination = refl }; label = refl }), (tt, (tt, (tt, (tt, (tt, tt))))))))))))))))))))))))))

untold_answers : EachTurn (AnswersLaw rare.untold_disk) rare.untold_told
unfolding reading fault_of tcode_of header_of offset_of rcode_of value_of length_of extended_of three four part_of is_to is_same asked_by begun_by belongs start_at lowest_from label_for free_from count_flying lowest_flying label_of with_label is_write kind_of slot_of window_at is_fifo point_step doorbell_step reset_step abort_step reply_step lost_step refusal verdict request_of check_of blank_bytes command_kind elements_from made block_head decide reads_eui live_login response_bytes start_step reply_step_of_manager decide_step fresh_id left_for enter_step back_step leave_step
untold_answers = (tt, (tt, ((refl, tt), (tt, ((refl, tt), (tt, ((refl, tt), (tt, ((refl, tt), (tt, (tt, (tt, tt))))))))))))

untold_requests : EachTurn (RequestsLaw rare.untold_disk) rare.untold_told
unfolding reading fault_of tcode_of header_of offset_of rcode_of value_of length_of extended_of three four part_of is_to is_same asked_by begun_by belongs start_at lowest_from label_for free_from count_flying lowest_flying label_of with_label is_write kind_of slot_of window_at is_fifo point_step doorbell_step reset_step abort_step reply_step lost_step refusal verdict request_of check_of blank_bytes command_kind elements_from made block_head decide reads_eui live_login response_bytes start_step reply_step_of_manager decide_step fresh_id left_for enter_step back_step leave_step
untold_requests = (λ e. tt, (λ e. tt, (λ e. tt, (λ e. (record { number = refl; in_generation = refl; sender = refl; receiver = refl; label = refl; spelled = refl }, tt), (λ e. tt, (λ e. (record { payload = rare.some_block; size = refl; is = record { number = refl; in_generation = refl; sender = refl; receiver = refl; label = refl; spelled = refl } }, tt), (λ e. tt, (λ e. tt, (λ e. (record { number = refl; in_generation = refl; sender = refl; receiver = refl; label = refl; spelled = refl }, tt), (λ e. tt, (λ e. (record { number = refl; in_generation = refl; sender = refl; receiver = refl; label = refl; spelled = refl }, tt), (λ e. tt, tt))))))))))))

untold_statuses : EachTurn (StatusesAreSent rare.untold_disk) rare.untold_told
unfolding reading fault_of tcode_of header_of offset_of rcode_of value_of length_of extended_of three four part_of is_to is_same asked_by begun_by belongs start_at lowest_from label_for free_from count_flying lowest_flying label_of with_label is_write kind_of slot_of window_at is_fifo point_step doorbell_step reset_step abort_step reply_step lost_step refusal verdict request_of check_of blank_bytes command_kind elements_from made block_head decide reads_eui live_login response_bytes start_step reply_step_of_manager decide_step fresh_id left_for enter_step back_step leave_step
untold_statuses = (refl, (refl, (refl, (refl, (refl, (refl, (refl, (refl, (refl, (refl, (refl, (refl, tt))))))))))))

untold_decisions : EachTurn (DecisionsAreSent rare.untold_disk) rare.untold_told
unfolding reading fault_of tcode_of header_of offset_of rcode_of value_of length_of extended_of three four part_of is_to is_same asked_by begun_by belongs start_at lowest_from label_for free_from count_flying lowest_flying label_of with_label is_write kind_of slot_of window_at is_fifo point_step doorbell_step reset_step abort_step reply_step lost_step refusal verdict request_of check_of blank_bytes command_kind elements_from made block_head decide reads_eui live_login response_bytes start_step reply_step_of_manager decide_step fresh_id left_for enter_step back_step leave_step
untold_decisions = (refl, (refl, (refl, (refl, (refl, (refl, (refl, (refl, (refl, (refl, (refl, (refl, tt))))))))))))

untold_asked : EachMoment (NoneUnasked rare.untold_disk) rare.untold_told
unfolding reading fault_of tcode_of header_of offset_of rcode_of value_of length_of extended_of three four part_of is_to is_same asked_by begun_by belongs start_at lowest_from label_for free_from count_flying lowest_flying label_of with_label is_write kind_of slot_of window_at is_fifo point_step doorbell_step reset_step abort_step reply_step lost_step refusal verdict request_of check_of blank_bytes command_kind elements_from made block_head decide reads_eui live_login response_bytes start_step reply_step_of_manager decide_step fresh_id left_for enter_step back_step leave_step
untold_asked = (tt, (tt, (tt, (tt, (tt, (tt, (tt, (tt, (tt, (tt, (tt, (tt, (tt, (tt, (tt, (tt, (tt, (tt, (tt, (tt, (tt, (tt, (tt, (tt, (tt, (tt, tt))))))))))))))))))))))))))

untold_after : EachTurn (AfterTurn rare.untold_disk) rare.untold_told
unfolding reading fault_of tcode_of header_of offset_of rcode_of value_of length_of extended_of three four part_of is_to is_same asked_by begun_by belongs start_at lowest_from label_for free_from count_flying lowest_flying label_of with_label is_write kind_of slot_of window_at is_fifo point_step doorbell_step reset_step abort_step reply_step lost_step refusal verdict request_of check_of blank_bytes command_kind elements_from made block_head decide reads_eui live_login response_bytes start_step reply_step_of_manager decide_step fresh_id left_for enter_step back_step leave_step
untold_after = (record { agents = (record { ended = refl; answered = refl; ends = refl; unrung = refl }, (tt, (tt, (tt, (tt, (tt, (tt, (tt, tt)))))))); management = tt; roms = (tt, tt) }, (record { agents = (record { ended = refl; answered = refl; ends = refl; unrung = refl }, (tt, (tt, (tt, (tt, (tt, (tt, (tt, tt)))))))); management = tt; roms = (tt, tt) }, (record { agents = (refl, (tt, (tt, (tt, (tt, (tt, (tt, (tt, tt)))))))); management = tt; roms = (tt, tt) }, (record { agents = (refl, (tt, (tt, (tt, (tt, (tt, (tt, (tt, tt)))))))); management = tt; roms = (tt, tt) }, (record { agents = (refl, (tt, (tt, (tt, (tt, (tt, (tt, (tt, tt)))))))); management = tt; roms = (tt, tt) }, (record { agents = (refl, (tt, (tt, (tt, (tt, (tt, (tt, (tt, tt)))))))); management = tt; roms = (tt, tt) }, (record { agents = (refl, (tt, (tt, (tt, (tt, (tt, (tt, (tt, tt)))))))); management = tt; roms = (tt, tt) }, (record { agents = (refl, (tt, (tt, (tt, (tt, (tt, (tt, (tt, tt)))))))); management = tt; roms = (tt, tt) }, (record { agents = (refl, (tt, (tt, (tt, (tt, (tt, (tt, (tt, tt)))))))); management = tt; roms = (tt, tt) }, (record { agents = (tt, (tt, (tt, (tt, (tt, (tt, (tt, (tt, tt)))))))); management = tt; roms = (tt, tt) }, (record { agents = (tt, (tt, (tt, (tt, (tt, (tt, (tt, (tt, tt)))))))); management = tt; roms = (tt, tt) }, (record { agents = (tt, (tt, (tt, (tt, (tt, (tt, (tt, (tt, tt)))))))); management = tt; roms = (tt, tt) }, tt))))))))))))

untold_once : OnceLaw nobody rare.untold_told
unfolding reading fault_of tcode_of header_of offset_of rcode_of value_of length_of extended_of three four part_of is_to is_same asked_by begun_by belongs start_at lowest_from label_for free_from count_flying lowest_flying label_of with_label is_write kind_of slot_of window_at is_fifo point_step doorbell_step reset_step abort_step reply_step lost_step refusal verdict request_of check_of blank_bytes command_kind elements_from made block_head decide reads_eui live_login response_bytes start_step reply_step_of_manager decide_step fresh_id left_for enter_step back_step leave_step
untold_once = (tt, ((λ e. refl, λ e. record { once = refl; served = refl }), (tt, (tt, ((λ e. refl, tt), (tt, (tt, ((λ e. refl, λ e. record { once = refl; served = refl }), (tt, ((λ e. refl, tt), (tt, (tt, ((λ e. refl, λ e. record { once = refl; served = refl }), (tt, ((λ e. refl, tt), ((λ e. refl, λ e. record { once = refl; served = refl }), (tt, (tt, ((λ e. refl, tt), (tt, (tt, (tt, (tt, (tt, (tt, (tt, tt))))))))))))))))))))))))))

untold_order : OrderLaw nobody rare.untold_told
unfolding reading fault_of tcode_of header_of offset_of rcode_of value_of length_of extended_of three four part_of is_to is_same asked_by begun_by belongs start_at lowest_from label_for free_from count_flying lowest_flying label_of with_label is_write kind_of slot_of window_at is_fifo point_step doorbell_step reset_step abort_step reply_step lost_step refusal verdict request_of check_of blank_bytes command_kind elements_from made block_head decide reads_eui live_login response_bytes start_step reply_step_of_manager decide_step fresh_id left_for enter_step back_step leave_step
untold_order = (tt, (tt, (tt, (tt, (tt, (tt, (λ e. record { number = refl; appended = first_of_one; still = record { latest = refl; uncut = refl } }, (tt, (tt, (tt, (tt, (λ e. record { latest = refl; uncut = refl }, (tt, (tt, (tt, (tt, (tt, (tt, (tt, (tt, (tt, (tt, (record { number = refl; list = refl }, (tt, (tt, (tt, tt))))))))))))))))))))))))))

untold_execution : ExecutionLaw nobody rare.untold_disk rare.untold_told
unfolding reading fault_of tcode_of header_of offset_of rcode_of value_of length_of extended_of three four part_of is_to is_same asked_by begun_by belongs start_at lowest_from label_for free_from count_flying lowest_flying label_of with_label is_write kind_of slot_of window_at is_fifo point_step doorbell_step reset_step abort_step reply_step lost_step refusal verdict request_of check_of blank_bytes command_kind elements_from made block_head decide reads_eui live_login response_bytes start_step reply_step_of_manager decide_step fresh_id left_for enter_step back_step leave_step
untold_execution = (tt, (tt, (tt, (tt, (tt, (tt, (λ e. refl, (tt, (tt, (tt, (tt, (λ e. (record { once = refl; order = refl; login = refl }, record { command = refl; carried = inl refl; needed = λ len need. absurd (cc need); ended = tt }), (tt, (tt, (tt, (tt, (tt, (tt, (tt, (tt, (tt, (tt, (tt, (tt, (tt, (tt, tt))))))))))))))))))))))))))

untold_carried : CarriedLaw nobody rare.untold_disk rare.untold_told
unfolding reading fault_of tcode_of header_of offset_of rcode_of value_of length_of extended_of three four part_of is_to is_same asked_by begun_by belongs start_at lowest_from label_for free_from count_flying lowest_flying label_of with_label is_write kind_of slot_of window_at is_fifo point_step doorbell_step reset_step abort_step reply_step lost_step refusal verdict request_of check_of blank_bytes command_kind elements_from made block_head decide reads_eui live_login response_bytes start_step reply_step_of_manager decide_step fresh_id left_for enter_step back_step leave_step
untold_carried = record { carried = (tt, (tt, (tt, (λ e. refl, (tt, (tt, (λ e. record { read = record { response = 4; request = 3; got = refl; whole = refl; answers = refl; of_target = refl; of_initiator = refl; asks = record { read = refl; block = refl; from = refl; size = refl }; appended = first_of_one; opened = refl }; matches = (λ e. let bad : 0 ≡ 3 = e in omega (arith, bad), record { command = refl; direction = refl }) }, (tt, (tt, (tt, (tt, (λ e. record { read = record { response = 4; request = 3; got = refl; whole = refl; answers = refl; of_target = refl; of_initiator = refl; asks = record { read = refl; block = refl; from = refl; size = refl }; appended = first_of_one; opened = refl }; not_dummy = λ e. let bad : 0 ≡ 3 = e in omega (arith, bad); as_appended = record { command = refl; direction = refl }; size = refl; payloads = refl }, (tt, (tt, (tt, (tt, (tt, (tt, (tt, (tt, (tt, (tt, (tt, (tt, (tt, (tt, tt)))))))))))))))))))))))))); due = (refl, (refl, (refl, (refl, (refl, (refl, (refl, (refl, (refl, (refl, (refl, (refl, tt)))))))))))) }

untold_status : StatusLaw nobody rare.untold_told
unfolding reading fault_of tcode_of header_of offset_of rcode_of value_of length_of extended_of three four part_of is_to is_same asked_by begun_by belongs start_at lowest_from label_for free_from count_flying lowest_flying label_of with_label is_write kind_of slot_of window_at is_fifo point_step doorbell_step reset_step abort_step reply_step lost_step refusal verdict request_of check_of blank_bytes command_kind elements_from made block_head decide reads_eui live_login response_bytes start_step reply_step_of_manager decide_step fresh_id left_for enter_step back_step leave_step
untold_status = record { taken = (tt, (tt, (tt, (λ e. record { once = refl; ended = refl; sent = refl; written = record { is_write = refl; goes = refl; src = 1; spells = refl } }, (tt, (tt, (tt, (tt, (tt, (tt, (tt, (tt, (tt, (tt, (tt, (tt, (tt, (tt, (tt, (tt, (tt, (tt, (tt, (tt, (tt, (tt, tt)))))))))))))))))))))))))); each = (refl, (refl, (refl, (refl, (refl, (refl, (refl, (refl, (refl, (refl, (refl, (refl, tt)))))))))))) }

untold_answer : AnswerLaw nobody rare.untold_disk rare.untold_told
unfolding reading fault_of tcode_of header_of offset_of rcode_of value_of length_of extended_of three four part_of is_to is_same asked_by begun_by belongs start_at lowest_from label_for free_from count_flying lowest_flying label_of with_label is_write kind_of slot_of window_at is_fifo point_step doorbell_step reset_step abort_step reply_step lost_step refusal verdict request_of check_of blank_bytes command_kind elements_from made block_head decide reads_eui live_login response_bytes start_step reply_step_of_manager decide_step fresh_id left_for enter_step back_step leave_step
untold_answer = (tt, (tt, (tt, (λ e. record { len = refl; told = tt }, (tt, (tt, (tt, (tt, (tt, (tt, (tt, (tt, (tt, (tt, (tt, (tt, (tt, (tt, (tt, (tt, (tt, (tt, (tt, (tt, (tt, (tt, tt))))))))))))))))))))))))))

capacity_runs_end : EachTurn (EndsAsRead journals.one_disk) more.capacity_told
unfolding reading fault_of tcode_of header_of offset_of rcode_of value_of length_of extended_of three four part_of is_to is_same asked_by begun_by belongs start_at lowest_from label_for free_from count_flying lowest_flying label_of with_label is_write kind_of slot_of window_at is_fifo point_step doorbell_step reset_step abort_step reply_step lost_step refusal verdict request_of check_of blank_bytes command_kind elements_from made block_head decide reads_eui live_login response_bytes start_step reply_step_of_manager decide_step fresh_id left_for enter_step back_step leave_step
capacity_runs_end = (tt, (tt, (tt, (tt, (tt, ((tt, tt), (tt, (tt, (tt, (tt, (tt, (tt, tt))))))))))))

agent_reset_runs_end : EachTurn (EndsAsRead journals.one_disk) more.agent_reset_told
unfolding reading fault_of tcode_of header_of offset_of rcode_of value_of length_of extended_of three four part_of is_to is_same asked_by begun_by belongs start_at lowest_from label_for free_from count_flying lowest_flying label_of with_label is_write kind_of slot_of window_at is_fifo point_step doorbell_step reset_step abort_step reply_step lost_step refusal verdict request_of check_of blank_bytes command_kind elements_from made block_head decide reads_eui live_login response_bytes start_step reply_step_of_manager decide_step fresh_id left_for enter_step back_step leave_step
agent_reset_runs_end = (tt, (tt, (tt, (tt, (tt, (tt, (tt, (tt, ((tt, tt), (tt, (tt, (tt, (tt, (tt, (tt, tt)))))))))))))))

logout_runs_end : EachTurn (EndsAsRead journals.one_disk) more.logout_told
unfolding reading fault_of tcode_of header_of offset_of rcode_of value_of length_of extended_of three four part_of is_to is_same asked_by begun_by belongs start_at lowest_from label_for free_from count_flying lowest_flying label_of with_label is_write kind_of slot_of window_at is_fifo point_step doorbell_step reset_step abort_step reply_step lost_step refusal verdict request_of check_of blank_bytes command_kind elements_from made block_head decide reads_eui live_login response_bytes start_step reply_step_of_manager decide_step fresh_id left_for enter_step back_step leave_step
logout_runs_end = (tt, (tt, (tt, (tt, (tt, (tt, (tt, (tt, (tt, (tt, tt))))))))))

read_ahead_runs_end : EachTurn (EndsAsRead journals.one_disk) more.read_ahead_told
unfolding reading fault_of tcode_of header_of offset_of rcode_of value_of length_of extended_of three four part_of is_to is_same asked_by begun_by belongs start_at lowest_from label_for free_from count_flying lowest_flying label_of with_label is_write kind_of slot_of window_at is_fifo point_step doorbell_step reset_step abort_step reply_step lost_step refusal verdict request_of check_of blank_bytes command_kind elements_from made block_head decide reads_eui live_login response_bytes start_step reply_step_of_manager decide_step fresh_id left_for enter_step back_step leave_step
read_ahead_runs_end = (tt, (tt, (tt, ((tt, tt), (tt, (tt, (tt, ((tt, tt), (tt, (tt, (tt, (tt, (tt, (tt, (tt, (tt, (tt, tt)))))))))))))))))

login_runs_end : EachTurn (EndsAsRead journals.one_disk) more.login_told
unfolding reading fault_of tcode_of header_of offset_of rcode_of value_of length_of extended_of three four part_of is_to is_same asked_by begun_by belongs start_at lowest_from label_for free_from count_flying lowest_flying label_of with_label is_write kind_of slot_of window_at is_fifo point_step doorbell_step reset_step abort_step reply_step lost_step refusal verdict request_of check_of blank_bytes command_kind elements_from made block_head decide reads_eui live_login response_bytes start_step reply_step_of_manager decide_step fresh_id left_for enter_step back_step leave_step
login_runs_end = (tt, (tt, (tt, (tt, (tt, (tt, (tt, (tt, (tt, (tt, (tt, (tt, (tt, (tt, (tt, (tt, (tt, (tt, (tt, (tt, (tt, (tt, (tt, (tt, (tt, tt)))))))))))))))))))))))))

reconnect_runs_end : EachTurn (EndsAsRead journals.one_disk) more.reconnect_told
unfolding reading fault_of tcode_of header_of offset_of rcode_of value_of length_of extended_of three four part_of is_to is_same asked_by begun_by belongs start_at lowest_from label_for free_from count_flying lowest_flying label_of with_label is_write kind_of slot_of window_at is_fifo point_step doorbell_step reset_step abort_step reply_step lost_step refusal verdict request_of check_of blank_bytes command_kind elements_from made block_head decide reads_eui live_login response_bytes start_step reply_step_of_manager decide_step fresh_id left_for enter_step back_step leave_step
reconnect_runs_end = (tt, (tt, (tt, (tt, (tt, (tt, (tt, (tt, (tt, (tt, (tt, (tt, (tt, (tt, (tt, (tt, (tt, (tt, (tt, tt)))))))))))))))))))

table_runs_end : EachTurn (EndsAsRead journals.one_disk) more.table_told
unfolding reading fault_of tcode_of header_of offset_of rcode_of value_of length_of extended_of three four part_of is_to is_same asked_by begun_by belongs start_at lowest_from label_for free_from count_flying lowest_flying label_of with_label is_write kind_of slot_of window_at is_fifo point_step doorbell_step reset_step abort_step reply_step lost_step refusal verdict request_of check_of blank_bytes command_kind elements_from made block_head decide reads_eui live_login response_bytes start_step reply_step_of_manager decide_step fresh_id left_for enter_step back_step leave_step
table_runs_end = (tt, (tt, (tt, ((tt, tt), (tt, (tt, (tt, (tt, (tt, (tt, (tt, (tt, (tt, (tt, (tt, (tt, tt))))))))))))))))

load_runs_end : EachTurn (EndsAsRead journals.empty_bay) more.load_told
unfolding reading fault_of tcode_of header_of offset_of rcode_of value_of length_of extended_of three four part_of is_to is_same asked_by begun_by belongs start_at lowest_from label_for free_from count_flying lowest_flying label_of with_label is_write kind_of slot_of window_at is_fifo point_step doorbell_step reset_step abort_step reply_step lost_step refusal verdict request_of check_of blank_bytes command_kind elements_from made block_head decide reads_eui live_login response_bytes start_step reply_step_of_manager decide_step fresh_id left_for enter_step back_step leave_step
load_runs_end = (tt, (tt, (tt, (tt, (tt, ((tt, tt), (tt, (tt, (tt, (tt, (tt, (tt, (tt, (tt, (tt, (tt, (tt, tt)))))))))))))))))

aborts_runs_end : EachTurn (EndsAsRead journals.one_disk) more.abort_told
unfolding reading fault_of tcode_of header_of offset_of rcode_of value_of length_of extended_of three four part_of is_to is_same asked_by begun_by belongs start_at lowest_from label_for free_from count_flying lowest_flying label_of with_label is_write kind_of slot_of window_at is_fifo point_step doorbell_step reset_step abort_step reply_step lost_step refusal verdict request_of check_of blank_bytes command_kind elements_from made block_head decide reads_eui live_login response_bytes start_step reply_step_of_manager decide_step fresh_id left_for enter_step back_step leave_step
aborts_runs_end = (tt, (tt, (tt, (tt, (tt, (tt, (tt, (tt, (tt, (tt, (tt, (tt, (tt, (tt, (tt, (tt, (tt, (tt, (tt, (tt, (tt, (tt, (tt, tt)))))))))))))))))))))))

unit_reset_runs_end : EachTurn (EndsAsRead journals.one_disk) (rare.unit_reset rare.unit_reset_notes)
unfolding reading fault_of tcode_of header_of offset_of rcode_of value_of length_of extended_of three four part_of is_to is_same asked_by begun_by belongs start_at lowest_from label_for free_from count_flying lowest_flying label_of with_label is_write kind_of slot_of window_at is_fifo point_step doorbell_step reset_step abort_step reply_step lost_step refusal verdict request_of check_of blank_bytes command_kind elements_from made block_head decide reads_eui live_login response_bytes start_step reply_step_of_manager decide_step fresh_id left_for enter_step back_step leave_step
unit_reset_runs_end = (tt, (tt, (tt, (tt, (tt, (tt, (tt, (tt, (tt, (tt, (tt, tt)))))))))))

untold_runs_end : EachTurn (EndsAsRead rare.untold_disk) rare.untold_told
unfolding reading fault_of tcode_of header_of offset_of rcode_of value_of length_of extended_of three four part_of is_to is_same asked_by begun_by belongs start_at lowest_from label_for free_from count_flying lowest_flying label_of with_label is_write kind_of slot_of window_at is_fifo point_step doorbell_step reset_step abort_step reply_step lost_step refusal verdict request_of check_of blank_bytes command_kind elements_from made block_head decide reads_eui live_login response_bytes start_step reply_step_of_manager decide_step fresh_id left_for enter_step back_step leave_step
untold_runs_end = (tt, (tt, (tt, (tt, (tt, ((tt, tt), (tt, (tt, (tt, (tt, (tt, (tt, tt))))))))))))

pub tried : RunsTried
tried = record { capacity = record { once = capacity_once; order = capacity_order; execution = capacity_execution; status = capacity_status; answer = capacity_answer; carried = capacity_carried; runs_end = capacity_runs_end; takes = capacity_status.each; cause = capacity_cause; judgement = capacity_judged; login = capacity_login; media = capacity_media; sent = record { packets = capacity_packets; answers = capacity_answers; requests = capacity_requests; after = capacity_after; statuses = capacity_statuses; decisions = capacity_decisions; asked = capacity_asked } }; agent_reset = record { once = agent_reset_once; order = agent_reset_order; execution = agent_reset_execution; status = agent_reset_status; answer = agent_reset_answer; carried = agent_reset_carried; runs_end = agent_reset_runs_end; takes = agent_reset_status.each; cause = agent_reset_cause; judgement = agent_reset_judged; login = agent_reset_login; media = agent_reset_media; sent = record { packets = agent_reset_packets; answers = agent_reset_answers; requests = agent_reset_requests; after = agent_reset_after; statuses = agent_reset_statuses; decisions = agent_reset_decisions; asked = agent_reset_asked } }; logout = record { once = logout_once; order = logout_order; execution = logout_execution; status = logout_status; answer = logout_answer; carried = logout_carried; runs_end = logout_runs_end; takes = logout_status.each; cause = logout_cause; judgement = logout_judged; login = logout_login; media = logout_media; sent = record { packets = logout_packets; answers = logout_answers; requests = logout_requests; after = logout_after; statuses = logout_statuses; decisions = logout_decisions; asked = logout_asked } }; read_ahead = record { once = read_ahead_once; order = read_ahead_order; execution = read_ahead_execution; status = read_ahead_status; answer = read_ahead_answer; carried = read_ahead_carried; runs_end = read_ahead_runs_end; takes = read_ahead_status.each; cause = read_ahead_cause; judgement = read_ahead_judged; login = read_ahead_login; media = read_ahead_media; sent = record { packets = read_ahead_packets; answers = read_ahead_answers; requests = read_ahead_requests; after = read_ahead_after; statuses = read_ahead_statuses; decisions = read_ahead_decisions; asked = read_ahead_asked } }; login = record { once = login_once; order = login_order; execution = login_execution; status = login_status; answer = login_answer; carried = login_carried; runs_end = login_runs_end; takes = login_status.each; cause = login_cause; judgement = login_judged; login = login_login; media = login_media; sent = record { packets = login_packets; answers = login_answers; requests = login_requests; after = login_after; statuses = login_statuses; decisions = login_decisions; asked = login_asked } }; reconnect = record { once = reconnect_once; order = reconnect_order; execution = reconnect_execution; status = reconnect_status; answer = reconnect_answer; carried = reconnect_carried; runs_end = reconnect_runs_end; takes = reconnect_status.each; cause = reconnect_cause; judgement = reconnect_judged; login = reconnect_login; media = reconnect_media; sent = record { packets = reconnect_packets; answers = reconnect_answers; requests = reconnect_requests; after = reconnect_after; statuses = reconnect_statuses; decisions = reconnect_decisions; asked = reconnect_asked } }; table = record { once = table_once; order = table_order; execution = table_execution; status = table_status; answer = table_answer; carried = table_carried; runs_end = table_runs_end; takes = table_status.each; cause = table_cause; judgement = table_judged; login = table_login; media = table_media; sent = record { packets = table_packets; answers = table_answers; requests = table_requests; after = table_after; statuses = table_statuses; decisions = table_decisions; asked = table_asked } }; load = record { once = load_once; order = load_order; execution = load_execution; status = load_status; answer = load_answer; carried = load_carried; runs_end = load_runs_end; takes = load_status.each; cause = load_cause; judgement = load_judged; login = load_login; media = load_media; sent = record { packets = load_packets; answers = load_answers; requests = load_requests; after = load_after; statuses = load_statuses; decisions = load_decisions; asked = load_asked } }; aborts = record { once = aborts_once; order = aborts_order; execution = aborts_execution; status = aborts_status; answer = aborts_answer; carried = aborts_carried; runs_end = aborts_runs_end; takes = aborts_status.each; cause = aborts_cause; judgement = aborts_judged; login = aborts_login; media = aborts_media; sent = record { packets = aborts_packets; answers = aborts_answers; requests = aborts_requests; after = aborts_after; statuses = aborts_statuses; decisions = aborts_decisions; asked = aborts_asked } }; unit_reset = record { once = unit_reset_once; order = unit_reset_order; execution = unit_reset_execution; status = unit_reset_status; answer = unit_reset_answer; carried = unit_reset_carried; runs_end = unit_reset_runs_end; takes = unit_reset_status.each; cause = unit_is_reset; judgement = unit_reset_judged; login = unit_reset_login; media = unit_reset_media; sent = record { packets = unit_reset_packets; answers = unit_reset_answers; requests = unit_reset_requests; after = unit_reset_after; statuses = unit_reset_statuses; decisions = unit_reset_decisions; asked = unit_reset_asked } }; untold = record { once = untold_once; order = untold_order; execution = untold_execution; status = untold_status; answer = untold_answer; carried = untold_carried; runs_end = untold_runs_end; takes = untold_status.each; cause = untold_cause; judgement = untold_judged; login = untold_login; media = untold_media; sent = record { packets = untold_packets; answers = untold_answers; requests = untold_requests; after = untold_after; statuses = untold_statuses; decisions = untold_decisions; asked = untold_asked } } }
