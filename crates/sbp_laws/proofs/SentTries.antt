-- The journals that the sent law was tried on.
use Rattle.std.proofs.Common.{◌≡◌, ℕ, List, [], ◌∷◌, ◌++◌, refl, ap, arith}
use Rattle.std.specs.Prelude.{Some, None, slice_index}
use Rattle.orb_layout.specs.Pointers.{quad_bytes}
use Rattle.async_packet.specs.Packet.{write_block, write_response, read_block, read_block_response}
use Rattle.sbp_journal.specs.Run.{said}
use Rattle.sbp_journal.specs.declared.note.Note.{Note}
use Rattle.sbp_journal.specs.declared.note.Note.TheVariants as notes
use Rattle.sbp_laws.specs.Turns.{EachMoment, EachTurn}
use Rattle.sbp_laws.specs.Journals as journals
use Rattle.sbp_laws.specs.Tried.{SentTried}
use Rattle.sbp_laws.specs.SentLaw.{SentLaw, AfterTurn}
use Rattle.sbp_laws.specs.SentPackets.{SentAt}
use Rattle.sbp_laws.specs.SentAnswers.{AnswersLaw}
use Rattle.sbp_laws.specs.SentRequests.{RequestsLaw}
use Rattle.sbp_laws.specs.SentWrites.{DecisionsAreSent, StatusesAreSent}
use Rattle.sbp_laws.specs.Unasked.{NoneUnasked}
use Rattle.sbp_laws.specs.Turns.{turn}
use Rattle.orb_layout.specs.declared.status.StatusKind.TheVariants as kinds
use Rattle.async_packet.specs.Reading.{reading}
use Rattle.async_packet.specs.Faults.{fault_of}
use Rattle.async_packet.specs.Fields.{tcode_of, header_of, offset_of, rcode_of, value_of, length_of, extended_of}
use Rattle.async_packet.specs.Canon.{three, four}
use Rattle.sbp_journal.specs.Transactions.{part_of, is_to, is_same, asked_by, begun_by, belongs}
use Rattle.sbp_journal.specs.Addresses.{start_at}
use Rattle.sbp_laws.specs.Packets.{lowest_from, label_for, free_from}
use Rattle.sbp_laws.specs.Budget.{count_flying, lowest_flying}
use Rattle.label_table.specs.Requests.{label_of, with_label, is_write, kind_of}
use Rattle.bus_memory.specs.Windows.{slot_of, window_at, is_fifo}
use Rattle.command_agent.specs.Steps.{point_step, doorbell_step, reset_step, abort_step, reply_step, lost_step}
use Rattle.command_agent.specs.Checks.{refusal, verdict}
use Rattle.rbc_disk.specs.Requests.{request_of}
use Rattle.rbc_disk.specs.Checks.{check_of}
use Rattle.rbc_disk.specs.Disk.{blank_bytes}
use Rattle.orb_layout.specs.StatusBlocks.{command_kind}
use Rattle.page_table.specs.Elements.{elements_from}
use Rattle.config_rom.specs.Make.{made}
use Rattle.config_rom.specs.Sum.{sum_of, low_bits}
use Rattle.media_bay.specs.Unsolicited.{block_head}
use Rattle.mgmt_agent.specs.Decisions.{decide, reads_eui, live_login, response_bytes}
use Rattle.mgmt_agent.specs.Machine.{start_step, reply_step as reply_step_of_manager, decide_step}
use Rattle.login_table.specs.Table.{fresh_id, left_for, enter_step, back_step, leave_step}
use Rattle.sbp_laws.specs.Refused as refused
use Rattle.sbp_laws.specs.WorkedRuns as runs
use Rattle.sbp_laws.specs.RareRuns as rare

-- the bytes of a packet
abbrev first_bytes : Note → List ℕ
first_bytes (notes.Sent serial generation from to bytes) = bytes
first_bytes _ = []

packets_accepted : EachMoment SentAt journals.whole
unfolding reading fault_of tcode_of header_of offset_of rcode_of value_of length_of extended_of three four part_of is_to is_same asked_by begun_by belongs start_at lowest_from label_for free_from count_flying lowest_flying label_of with_label is_write kind_of slot_of window_at is_fifo point_step doorbell_step reset_step abort_step reply_step lost_step refusal verdict request_of check_of blank_bytes command_kind elements_from made block_head decide reads_eui live_login response_bytes start_step reply_step_of_manager decide_step fresh_id left_for enter_step back_step leave_step
packets_accepted = (tt, (tt, ((refl, λ e. record { in_generation = refl; spelled = record { packet = write_response (journals.to_target 0) 0; canonical = refl; retry = refl; priority = refl; source = refl; destination = refl }; label = tt }), (tt, (tt, ((refl, λ e. record { in_generation = refl; spelled = record { packet = write_block (journals.to_first 0) 0x13000000 (quad_bytes (0x41000000 ∷ 0x10000000 ∷ [])); canonical = refl; retry = refl; priority = refl; source = refl; destination = refl }; label = refl }), (tt, (tt, (tt, ((refl, λ e. record { in_generation = refl; spelled = record { packet = read_block_response (journals.to_target 0) 0 (journals.orb_bytes 0x80000000 0); canonical = refl; retry = refl; priority = refl; source = refl; destination = refl }; label = tt }), (tt, (tt, ((refl, λ e. record { in_generation = refl; spelled = record { packet = read_block (journals.to_first 0) 0x10000000 32; canonical = refl; retry = refl; priority = refl; source = refl; destination = refl }; label = refl }), ((refl, λ e. record { in_generation = refl; spelled = record { packet = write_response (journals.to_first 0) 0; canonical = refl; retry = refl; priority = refl; source = refl; destination = refl }; label = tt }), (tt, (tt, ((refl, λ e. record { in_generation = refl; spelled = record { packet = write_block (journals.to_target 0) 0xfffff0040008 (quad_bytes (0 ∷ 0x10000000 ∷ [])); canonical = refl; retry = refl; priority = refl; source = refl; destination = refl }; label = refl }), (tt, (tt, (tt, (tt, (tt, tt))))))))))))))))))))))

answer_1_accepted : AnswersLaw journals.one_disk (turn (journals.told journals.till_pointer) (said (notes.Got 1)) (notes.Sent 2 0 0 1 (journals.done_by_target 0 0) ∷ notes.Sent 3 0 0 1 (journals.fetch_packet 0 0x10000000) ∷ []))
unfolding reading fault_of tcode_of header_of offset_of rcode_of value_of length_of extended_of three four part_of is_to is_same asked_by begun_by belongs start_at lowest_from label_for free_from count_flying lowest_flying label_of with_label is_write kind_of slot_of window_at is_fifo point_step doorbell_step reset_step abort_step reply_step lost_step refusal verdict request_of check_of blank_bytes command_kind elements_from made block_head decide reads_eui live_login response_bytes start_step reply_step_of_manager decide_step fresh_id left_for enter_step back_step leave_step
answer_1_accepted = (refl, tt)

answer_2_accepted : AnswersLaw journals.one_disk (turn (journals.told (journals.till_pointer ++ journals.points_agent)) (said (notes.Got 2)) ([]))
unfolding reading fault_of tcode_of header_of offset_of rcode_of value_of length_of extended_of three four part_of is_to is_same asked_by begun_by belongs start_at lowest_from label_for free_from count_flying lowest_flying label_of with_label is_write kind_of slot_of window_at is_fifo point_step doorbell_step reset_step abort_step reply_step lost_step refusal verdict request_of check_of blank_bytes command_kind elements_from made block_head decide reads_eui live_login response_bytes start_step reply_step_of_manager decide_step fresh_id left_for enter_step back_step leave_step
answer_2_accepted = tt

answer_3_accepted : AnswersLaw journals.one_disk (turn (journals.told (journals.till_pointer ++ (journals.points_agent ++ said (notes.Got 2) ∷ []))) (said (notes.Got 3)) (notes.Sent 4 0 1 0 (journals.orb_packet 0 0x80000000 0) ∷ []))
unfolding reading fault_of tcode_of header_of offset_of rcode_of value_of length_of extended_of three four part_of is_to is_same asked_by begun_by belongs start_at lowest_from label_for free_from count_flying lowest_flying label_of with_label is_write kind_of slot_of window_at is_fifo point_step doorbell_step reset_step abort_step reply_step lost_step refusal verdict request_of check_of blank_bytes command_kind elements_from made block_head decide reads_eui live_login response_bytes start_step reply_step_of_manager decide_step fresh_id left_for enter_step back_step leave_step
answer_3_accepted = (refl, tt)

answer_4_accepted : AnswersLaw journals.one_disk (turn (journals.told journals.till_orb) (said (notes.Got 4)) (notes.Ran 0 (Some 0) (Some 0) 0 journals.ready_block [] None ∷ notes.Ended 0 (Some 0) (Some 0) kinds.Good ∷ notes.Sent 5 0 0 1 (journals.status_packet 0x41000000) ∷ []))
unfolding reading fault_of tcode_of header_of offset_of rcode_of value_of length_of extended_of three four part_of is_to is_same asked_by begun_by belongs start_at lowest_from label_for free_from count_flying lowest_flying label_of with_label is_write kind_of slot_of window_at is_fifo point_step doorbell_step reset_step abort_step reply_step lost_step refusal verdict request_of check_of blank_bytes command_kind elements_from made block_head decide reads_eui live_login response_bytes start_step reply_step_of_manager decide_step fresh_id left_for enter_step back_step leave_step
answer_4_accepted = tt

answer_5_accepted : AnswersLaw journals.one_disk (turn (journals.told journals.till_status) (said (notes.Got 5)) (notes.Taken 0 0 0 kinds.Good [] ∷ notes.Sent 6 0 1 0 (journals.done_by_first 0) ∷ []))
unfolding reading fault_of tcode_of header_of offset_of rcode_of value_of length_of extended_of three four part_of is_to is_same asked_by begun_by belongs start_at lowest_from label_for free_from count_flying lowest_flying label_of with_label is_write kind_of slot_of window_at is_fifo point_step doorbell_step reset_step abort_step reply_step lost_step refusal verdict request_of check_of blank_bytes command_kind elements_from made block_head decide reads_eui live_login response_bytes start_step reply_step_of_manager decide_step fresh_id left_for enter_step back_step leave_step
answer_5_accepted = (refl, tt)

answer_6_accepted : AnswersLaw journals.one_disk (turn (journals.told (journals.till_status ++ journals.takes_status)) (said (notes.Got 6)) ([]))
unfolding reading fault_of tcode_of header_of offset_of rcode_of value_of length_of extended_of three four part_of is_to is_same asked_by begun_by belongs start_at lowest_from label_for free_from count_flying lowest_flying label_of with_label is_write kind_of slot_of window_at is_fifo point_step doorbell_step reset_step abort_step reply_step lost_step refusal verdict request_of check_of blank_bytes command_kind elements_from made block_head decide reads_eui live_login response_bytes start_step reply_step_of_manager decide_step fresh_id left_for enter_step back_step leave_step
answer_6_accepted = tt

answers_accepted : EachTurn (AnswersLaw journals.one_disk) journals.whole
unfolding reading fault_of tcode_of header_of offset_of rcode_of value_of length_of extended_of three four part_of is_to is_same asked_by begun_by belongs start_at lowest_from label_for free_from count_flying lowest_flying label_of with_label is_write kind_of slot_of window_at is_fifo point_step doorbell_step reset_step abort_step reply_step lost_step refusal verdict request_of check_of blank_bytes command_kind elements_from made block_head decide reads_eui live_login response_bytes start_step reply_step_of_manager decide_step fresh_id left_for enter_step back_step leave_step
answers_accepted = (tt, (answer_6_accepted, (answer_5_accepted, (answer_4_accepted, (answer_3_accepted, (answer_2_accepted, (answer_1_accepted, (tt, (tt, (tt, tt))))))))))

requests_accepted : EachTurn (RequestsLaw journals.one_disk) journals.whole
unfolding reading fault_of tcode_of header_of offset_of rcode_of value_of length_of extended_of three four part_of is_to is_same asked_by begun_by belongs start_at lowest_from label_for free_from count_flying lowest_flying label_of with_label is_write kind_of slot_of window_at is_fifo point_step doorbell_step reset_step abort_step reply_step lost_step refusal verdict request_of check_of blank_bytes command_kind elements_from made block_head decide reads_eui live_login response_bytes start_step reply_step_of_manager decide_step fresh_id left_for enter_step back_step leave_step
requests_accepted = (λ e. tt, (λ e. tt, (λ e. tt, (λ e. (record { number = refl; in_generation = refl; sender = refl; receiver = refl; label = refl; spelled = refl }, tt), (λ e. tt, (λ e. tt, (λ e. (record { number = refl; in_generation = refl; sender = refl; receiver = refl; label = refl; spelled = refl }, tt), (λ e. tt, (λ e. (record { number = refl; in_generation = refl; sender = refl; receiver = refl; label = refl; spelled = refl }, tt), (λ e. tt, tt))))))))))

after_accepted : EachTurn (AfterTurn journals.one_disk) journals.whole
unfolding reading fault_of tcode_of header_of offset_of rcode_of value_of length_of extended_of three four part_of is_to is_same asked_by begun_by belongs start_at lowest_from label_for free_from count_flying lowest_flying label_of with_label is_write kind_of slot_of window_at is_fifo point_step doorbell_step reset_step abort_step reply_step lost_step refusal verdict request_of check_of blank_bytes command_kind elements_from made block_head decide reads_eui live_login response_bytes start_step reply_step_of_manager decide_step fresh_id left_for enter_step back_step leave_step
after_accepted = (record { agents = (record { ended = refl; answered = refl; ends = refl; unrung = refl }, (tt, (tt, (tt, (tt, (tt, (tt, (tt, tt)))))))); management = tt; roms = (tt, tt) }, (record { agents = (record { ended = refl; answered = refl; ends = refl; unrung = refl }, (tt, (tt, (tt, (tt, (tt, (tt, (tt, tt)))))))); management = tt; roms = (tt, tt) }, (record { agents = (refl, (tt, (tt, (tt, (tt, (tt, (tt, (tt, tt)))))))); management = tt; roms = (tt, tt) }, (record { agents = (refl, (tt, (tt, (tt, (tt, (tt, (tt, (tt, tt)))))))); management = tt; roms = (tt, tt) }, (record { agents = (refl, (tt, (tt, (tt, (tt, (tt, (tt, (tt, tt)))))))); management = tt; roms = (tt, tt) }, (record { agents = (refl, (tt, (tt, (tt, (tt, (tt, (tt, (tt, tt)))))))); management = tt; roms = (tt, tt) }, (record { agents = (refl, (tt, (tt, (tt, (tt, (tt, (tt, (tt, tt)))))))); management = tt; roms = (tt, tt) }, (record { agents = (tt, (tt, (tt, (tt, (tt, (tt, (tt, (tt, tt)))))))); management = tt; roms = (tt, tt) }, (record { agents = (tt, (tt, (tt, (tt, (tt, (tt, (tt, (tt, tt)))))))); management = tt; roms = (tt, tt) }, (record { agents = (tt, (tt, (tt, (tt, (tt, (tt, (tt, (tt, tt)))))))); management = tt; roms = (tt, tt) }, tt))))))))))

statuses_accepted : EachTurn (StatusesAreSent journals.one_disk) journals.whole
unfolding reading fault_of tcode_of header_of offset_of rcode_of value_of length_of extended_of three four part_of is_to is_same asked_by begun_by belongs start_at lowest_from label_for free_from count_flying lowest_flying label_of with_label is_write kind_of slot_of window_at is_fifo point_step doorbell_step reset_step abort_step reply_step lost_step refusal verdict request_of check_of blank_bytes command_kind elements_from made block_head decide reads_eui live_login response_bytes start_step reply_step_of_manager decide_step fresh_id left_for enter_step back_step leave_step
statuses_accepted = (refl, (refl, (refl, (refl, (refl, (refl, (refl, (refl, (refl, (refl, tt))))))))))

decisions_accepted : EachTurn (DecisionsAreSent journals.one_disk) journals.whole
unfolding reading fault_of tcode_of header_of offset_of rcode_of value_of length_of extended_of three four part_of is_to is_same asked_by begun_by belongs start_at lowest_from label_for free_from count_flying lowest_flying label_of with_label is_write kind_of slot_of window_at is_fifo point_step doorbell_step reset_step abort_step reply_step lost_step refusal verdict request_of check_of blank_bytes command_kind elements_from made block_head decide reads_eui live_login response_bytes start_step reply_step_of_manager decide_step fresh_id left_for enter_step back_step leave_step
decisions_accepted = (refl, (refl, (refl, (refl, (refl, (refl, (refl, (refl, (refl, (refl, tt))))))))))

asked_accepted : EachMoment (NoneUnasked journals.one_disk) journals.whole
unfolding reading fault_of tcode_of header_of offset_of rcode_of value_of length_of extended_of three four part_of is_to is_same asked_by begun_by belongs start_at lowest_from label_for free_from count_flying lowest_flying label_of with_label is_write kind_of slot_of window_at is_fifo point_step doorbell_step reset_step abort_step reply_step lost_step refusal verdict request_of check_of blank_bytes command_kind elements_from made block_head decide reads_eui live_login response_bytes start_step reply_step_of_manager decide_step fresh_id left_for enter_step back_step leave_step
asked_accepted = (tt, (tt, (tt, (tt, (tt, (tt, (tt, (tt, (tt, (tt, (tt, (tt, (tt, (tt, (tt, (tt, (tt, (tt, (tt, (tt, (tt, (tt, tt))))))))))))))))))))))

accepts : SentLaw journals.one_disk journals.whole
unfolding reading fault_of tcode_of header_of offset_of rcode_of value_of length_of extended_of three four part_of is_to is_same asked_by begun_by belongs start_at lowest_from label_for free_from count_flying lowest_flying label_of with_label is_write kind_of slot_of window_at is_fifo point_step doorbell_step reset_step abort_step reply_step lost_step refusal verdict request_of check_of blank_bytes command_kind elements_from made block_head decide reads_eui live_login response_bytes start_step reply_step_of_manager decide_step fresh_id left_for enter_step back_step leave_step
accepts = record { packets = packets_accepted; answers = answers_accepted; requests = requests_accepted; after = after_accepted; statuses = statuses_accepted; decisions = decisions_accepted; asked = asked_accepted }

unanswered : SentLaw journals.one_disk journals.unanswered → ⊥
unfolding reading fault_of tcode_of header_of offset_of rcode_of value_of length_of extended_of three four part_of is_to is_same asked_by begun_by belongs start_at lowest_from label_for free_from count_flying lowest_flying label_of with_label is_write kind_of slot_of window_at is_fifo point_step doorbell_step reset_step abort_step reply_step lost_step refusal verdict request_of check_of blank_bytes command_kind elements_from made block_head decide reads_eui live_login response_bytes start_step reply_step_of_manager decide_step fresh_id left_for enter_step back_step leave_step
unanswered = λ law. law.answers.0

answered_twice : SentLaw journals.one_disk journals.answered_twice → ⊥
unfolding reading fault_of tcode_of header_of offset_of rcode_of value_of length_of extended_of three four part_of is_to is_same asked_by begun_by belongs start_at lowest_from label_for free_from count_flying lowest_flying label_of with_label is_write kind_of slot_of window_at is_fifo point_step doorbell_step reset_step abort_step reply_step lost_step refusal verdict request_of check_of blank_bytes command_kind elements_from made block_head decide reads_eui live_login response_bytes start_step reply_step_of_manager decide_step fresh_id left_for enter_step back_step leave_step
answered_twice = λ law. (law.requests.0 refl).1

answered_otherwise : SentLaw journals.one_disk journals.answered_otherwise → ⊥
unfolding reading fault_of tcode_of header_of offset_of rcode_of value_of length_of extended_of three four part_of is_to is_same asked_by begun_by belongs start_at lowest_from label_for free_from count_flying lowest_flying label_of with_label is_write kind_of slot_of window_at is_fifo point_step doorbell_step reset_step abort_step reply_step lost_step refusal verdict request_of check_of blank_bytes command_kind elements_from made block_head decide reads_eui live_login response_bytes start_step reply_step_of_manager decide_step fresh_id left_for enter_step back_step leave_step
answered_otherwise = λ law. let bad : 0x70 ≡ 0 = ap (λ xs. slice_index xs 6) (ap first_bytes (law.answers.0).0) in omega (arith, bad)

not_fetched : SentLaw journals.one_disk journals.not_fetched → ⊥
unfolding reading fault_of tcode_of header_of offset_of rcode_of value_of length_of extended_of three four part_of is_to is_same asked_by begun_by belongs start_at lowest_from label_for free_from count_flying lowest_flying label_of with_label is_write kind_of slot_of window_at is_fifo point_step doorbell_step reset_step abort_step reply_step lost_step refusal verdict request_of check_of blank_bytes command_kind elements_from made block_head decide reads_eui live_login response_bytes start_step reply_step_of_manager decide_step fresh_id left_for enter_step back_step leave_step
not_fetched = λ law. law.requests.0 refl

fetched_elsewhere : SentLaw journals.one_disk journals.fetched_elsewhere → ⊥
unfolding reading fault_of tcode_of header_of offset_of rcode_of value_of length_of extended_of three four part_of is_to is_same asked_by begun_by belongs start_at lowest_from label_for free_from count_flying lowest_flying label_of with_label is_write kind_of slot_of window_at is_fifo point_step doorbell_step reset_step abort_step reply_step lost_step refusal verdict request_of check_of blank_bytes command_kind elements_from made block_head decide reads_eui live_login response_bytes start_step reply_step_of_manager decide_step fresh_id left_for enter_step back_step leave_step
fetched_elsewhere = λ law. let bad : 0x40 ≡ 0 = ap (λ xs. slice_index xs 11) ((law.requests.0 refl).0.spelled) in omega (arith, bad)

linked_too_early : SentLaw journals.one_disk (journals.served_linked 0 0x10000040) → ⊥
unfolding reading fault_of tcode_of header_of offset_of rcode_of value_of length_of extended_of three four part_of is_to is_same asked_by begun_by belongs start_at lowest_from label_for free_from count_flying lowest_flying label_of with_label is_write kind_of slot_of window_at is_fifo point_step doorbell_step reset_step abort_step reply_step lost_step refusal verdict request_of check_of blank_bytes command_kind elements_from made block_head decide reads_eui live_login response_bytes start_step reply_step_of_manager decide_step fresh_id left_for enter_step back_step leave_step
linked_too_early = λ law. let bad : 0 ≡ 0x80 = ap (λ xs. slice_index xs 16) (ap first_bytes (law.answers.0).0) in omega (arith, bad)

resting_label : SentLaw journals.one_disk (journals.asks_again 0) → ⊥
unfolding reading fault_of tcode_of header_of offset_of rcode_of value_of length_of extended_of three four part_of is_to is_same asked_by begun_by belongs start_at lowest_from label_for free_from count_flying lowest_flying label_of with_label is_write kind_of slot_of window_at is_fifo point_step doorbell_step reset_step abort_step reply_step lost_step refusal verdict request_of check_of blank_bytes command_kind elements_from made block_head decide reads_eui live_login response_bytes start_step reply_step_of_manager decide_step fresh_id left_for enter_step back_step leave_step
resting_label = λ law. let bad : Some 1 ≡ Some 0 = (law.packets.0.1 refl).label in grind (arith, bad)

other_src : SentLaw journals.one_disk journals.status_src_0 → ⊥
unfolding reading fault_of tcode_of header_of offset_of rcode_of value_of length_of extended_of three four part_of is_to is_same asked_by begun_by belongs start_at lowest_from label_for free_from count_flying lowest_flying label_of with_label is_write kind_of slot_of window_at is_fifo point_step doorbell_step reset_step abort_step reply_step lost_step refusal verdict request_of check_of blank_bytes command_kind elements_from made block_head decide reads_eui live_login response_bytes start_step reply_step_of_manager decide_step fresh_id left_for enter_step back_step leave_step
other_src = λ law. let bad : 0x01 ≡ 0x41 = ap (λ xs. slice_index xs 16) ((law.requests.0 refl).0.spelled) in omega (arith, bad)

status_unsent : SentLaw journals.one_disk journals.status_unsent → ⊥
unfolding reading fault_of tcode_of header_of offset_of rcode_of value_of length_of extended_of three four part_of is_to is_same asked_by begun_by belongs start_at lowest_from label_for free_from count_flying lowest_flying label_of with_label is_write kind_of slot_of window_at is_fifo point_step doorbell_step reset_step abort_step reply_step lost_step refusal verdict request_of check_of blank_bytes command_kind elements_from made block_head decide reads_eui live_login response_bytes start_step reply_step_of_manager decide_step fresh_id left_for enter_step back_step leave_step
status_unsent = λ law. law.requests.0 refl

nothing_read_ahead : SentLaw journals.one_disk journals.reads_nothing_ahead → ⊥
unfolding reading fault_of tcode_of header_of offset_of rcode_of value_of length_of extended_of three four part_of is_to is_same asked_by begun_by belongs start_at lowest_from label_for free_from count_flying lowest_flying label_of with_label is_write kind_of slot_of window_at is_fifo point_step doorbell_step reset_step abort_step reply_step lost_step refusal verdict request_of check_of blank_bytes command_kind elements_from made block_head decide reads_eui live_login response_bytes start_step reply_step_of_manager decide_step fresh_id left_for enter_step back_step leave_step
nothing_read_ahead = λ law. (law.requests.0 refl).1

doorbell_ignored : SentLaw journals.one_disk journals.doorbell_ignored → ⊥
unfolding reading fault_of tcode_of header_of offset_of rcode_of value_of length_of extended_of three four part_of is_to is_same asked_by begun_by belongs start_at lowest_from label_for free_from count_flying lowest_flying label_of with_label is_write kind_of slot_of window_at is_fifo point_step doorbell_step reset_step abort_step reply_step lost_step refusal verdict request_of check_of blank_bytes command_kind elements_from made block_head decide reads_eui live_login response_bytes start_step reply_step_of_manager decide_step fresh_id left_for enter_step back_step leave_step
doorbell_ignored = λ law. law.requests.0 refl

other_place : SentLaw journals.one_disk (journals.responds 0xfffff0040020) → ⊥
unfolding reading fault_of tcode_of header_of offset_of rcode_of value_of length_of extended_of three four part_of is_to is_same asked_by begun_by belongs start_at lowest_from label_for free_from count_flying lowest_flying label_of with_label is_write kind_of slot_of window_at is_fifo point_step doorbell_step reset_step abort_step reply_step lost_step refusal verdict request_of check_of blank_bytes command_kind elements_from made block_head decide reads_eui live_login response_bytes start_step reply_step_of_manager decide_step fresh_id left_for enter_step back_step leave_step
other_place = λ law. let bad : 0x20 ≡ 0 = ap (λ xs. slice_index xs 27) ((law.requests.0 refl).0.spelled) in omega (arith, bad)

serial_left_out : SentLaw journals.one_disk (refused.appends_as 2 0 journals.pointer_packet) → ⊥
unfolding reading fault_of tcode_of header_of offset_of rcode_of value_of length_of extended_of three four part_of is_to is_same asked_by begun_by belongs start_at lowest_from label_for free_from count_flying lowest_flying label_of with_label is_write kind_of slot_of window_at is_fifo point_step doorbell_step reset_step abort_step reply_step lost_step refusal verdict request_of check_of blank_bytes command_kind elements_from made block_head decide reads_eui live_login response_bytes start_step reply_step_of_manager decide_step fresh_id left_for enter_step back_step leave_step
serial_left_out = λ law. let bad : 2 ≡ 1 = law.packets.0.0 in omega (arith, bad)

other_generation : SentLaw journals.one_disk (refused.appends_as 1 1 journals.pointer_packet) → ⊥
unfolding reading fault_of tcode_of header_of offset_of rcode_of value_of length_of extended_of three four part_of is_to is_same asked_by begun_by belongs start_at lowest_from label_for free_from count_flying lowest_flying label_of with_label is_write kind_of slot_of window_at is_fifo point_step doorbell_step reset_step abort_step reply_step lost_step refusal verdict request_of check_of blank_bytes command_kind elements_from made block_head decide reads_eui live_login response_bytes start_step reply_step_of_manager decide_step fresh_id left_for enter_step back_step leave_step
other_generation = λ law. let bad : 1 ≡ 0 = (law.packets.0.1 refl).in_generation in omega (arith, bad)

other_retry : SentLaw journals.one_disk (refused.appends_as 1 0 (refused.pointer_by 0 journals.first_id 0 0xfffff0040008)) → ⊥
unfolding reading fault_of tcode_of header_of offset_of rcode_of value_of length_of extended_of three four part_of is_to is_same asked_by begun_by belongs start_at lowest_from label_for free_from count_flying lowest_flying label_of with_label is_write kind_of slot_of window_at is_fifo point_step doorbell_step reset_step abort_step reply_step lost_step refusal verdict request_of check_of blank_bytes command_kind elements_from made block_head decide reads_eui live_login response_bytes start_step reply_step_of_manager decide_step fresh_id left_for enter_step back_step leave_step
other_retry = λ law. let bad : 0 ≡ 1 = ap (λ xs. slice_index xs 2) ((law.requests.0 refl).0.spelled) in omega (arith, bad)

other_source : SentLaw journals.one_disk (refused.appends_as 1 0 (refused.pointer_by 1 journals.second_id 0 0xfffff0040008)) → ⊥
unfolding reading fault_of tcode_of header_of offset_of rcode_of value_of length_of extended_of three four part_of is_to is_same asked_by begun_by belongs start_at lowest_from label_for free_from count_flying lowest_flying label_of with_label is_write kind_of slot_of window_at is_fifo point_step doorbell_step reset_step abort_step reply_step lost_step refusal verdict request_of check_of blank_bytes command_kind elements_from made block_head decide reads_eui live_login response_bytes start_step reply_step_of_manager decide_step fresh_id left_for enter_step back_step leave_step
other_source = λ law. let bad : 0xc2 ≡ 0xc1 = ap (λ xs. slice_index xs 5) ((law.requests.0 refl).0.spelled) in omega (arith, bad)

higher_label : SentLaw journals.one_disk (refused.appends_as 1 0 (refused.pointer_by 1 journals.first_id 1 0xfffff0040008)) → ⊥
unfolding reading fault_of tcode_of header_of offset_of rcode_of value_of length_of extended_of three four part_of is_to is_same asked_by begun_by belongs start_at lowest_from label_for free_from count_flying lowest_flying label_of with_label is_write kind_of slot_of window_at is_fifo point_step doorbell_step reset_step abort_step reply_step lost_step refusal verdict request_of check_of blank_bytes command_kind elements_from made block_head decide reads_eui live_login response_bytes start_step reply_step_of_manager decide_step fresh_id left_for enter_step back_step leave_step
higher_label = λ law. let bad : Some 0 ≡ Some 1 = (law.packets.0.1 refl).label in grind (arith, bad)

other_register : SentLaw journals.one_disk (refused.appends_as 1 0 (refused.pointer_by 1 journals.first_id 0 0xfffff0040010)) → ⊥
unfolding reading fault_of tcode_of header_of offset_of rcode_of value_of length_of extended_of three four part_of is_to is_same asked_by begun_by belongs start_at lowest_from label_for free_from count_flying lowest_flying label_of with_label is_write kind_of slot_of window_at is_fifo point_step doorbell_step reset_step abort_step reply_step lost_step refusal verdict request_of check_of blank_bytes command_kind elements_from made block_head decide reads_eui live_login response_bytes start_step reply_step_of_manager decide_step fresh_id left_for enter_step back_step leave_step
other_register = λ law. let bad : 0x10 ≡ 0x08 = ap (λ xs. slice_index xs 11) ((law.requests.0 refl).0.spelled) in omega (arith, bad)

other_value : SentLaw journals.one_disk (refused.appends_as 1 0 (refused.points_to 0x10000040)) → ⊥
unfolding reading fault_of tcode_of header_of offset_of rcode_of value_of length_of extended_of three four part_of is_to is_same asked_by begun_by belongs start_at lowest_from label_for free_from count_flying lowest_flying label_of with_label is_write kind_of slot_of window_at is_fifo point_step doorbell_step reset_step abort_step reply_step lost_step refusal verdict request_of check_of blank_bytes command_kind elements_from made block_head decide reads_eui live_login response_bytes start_step reply_step_of_manager decide_step fresh_id left_for enter_step back_step leave_step
other_value = λ law. let bad : 0x40 ≡ 0 = ap (λ xs. slice_index xs 23) ((law.requests.0 refl).0.spelled) in omega (arith, bad)

other_number : SentLaw journals.one_disk (refused.rings_with 2) → ⊥
unfolding reading fault_of tcode_of header_of offset_of rcode_of value_of length_of extended_of three four part_of is_to is_same asked_by begun_by belongs start_at lowest_from label_for free_from count_flying lowest_flying label_of with_label is_write kind_of slot_of window_at is_fifo point_step doorbell_step reset_step abort_step reply_step lost_step refusal verdict request_of check_of blank_bytes command_kind elements_from made block_head decide reads_eui live_login response_bytes start_step reply_step_of_manager decide_step fresh_id left_for enter_step back_step leave_step
other_number = λ law. let bad : 2 ≡ 1 = ap (λ xs. slice_index xs 15) ((law.requests.0 refl).0.spelled) in omega (arith, bad)

other_state : SentLaw journals.one_disk (refused.reads_state 1) → ⊥
unfolding reading fault_of tcode_of header_of offset_of rcode_of value_of length_of extended_of three four part_of is_to is_same asked_by begun_by belongs start_at lowest_from label_for free_from count_flying lowest_flying label_of with_label is_write kind_of slot_of window_at is_fifo point_step doorbell_step reset_step abort_step reply_step lost_step refusal verdict request_of check_of blank_bytes command_kind elements_from made block_head decide reads_eui live_login response_bytes start_step reply_step_of_manager decide_step fresh_id left_for enter_step back_step leave_step
other_state = λ law. let bad : 1 ≡ 0 = ap (λ xs. slice_index xs 15) (ap first_bytes (law.answers.0).0) in omega (arith, bad)

conflict_left_out : SentLaw journals.one_disk (refused.second_manages 0) → ⊥
unfolding reading fault_of tcode_of header_of offset_of rcode_of value_of length_of extended_of three four part_of is_to is_same asked_by begun_by belongs start_at lowest_from label_for free_from count_flying lowest_flying label_of with_label is_write kind_of slot_of window_at is_fifo point_step doorbell_step reset_step abort_step reply_step lost_step refusal verdict request_of check_of blank_bytes command_kind elements_from made block_head decide reads_eui live_login response_bytes start_step reply_step_of_manager decide_step fresh_id left_for enter_step back_step leave_step
conflict_left_out = λ law. let bad : 0 ≡ 0x40 = ap (λ xs. slice_index xs 6) (ap first_bytes (law.answers.0).0) in omega (arith, bad)

dummy_served_plain : SentLaw journals.one_disk (refused.serves_dummy (refused.plain_bytes 0x82900000)) → ⊥
unfolding reading fault_of tcode_of header_of offset_of rcode_of value_of length_of extended_of three four part_of is_to is_same asked_by begun_by belongs start_at lowest_from label_for free_from count_flying lowest_flying label_of with_label is_write kind_of slot_of window_at is_fifo point_step doorbell_step reset_step abort_step reply_step lost_step refusal verdict request_of check_of blank_bytes command_kind elements_from made block_head decide reads_eui live_login response_bytes start_step reply_step_of_manager decide_step fresh_id left_for enter_step back_step leave_step
dummy_served_plain = λ law. let bad : 0x82 ≡ 0xe2 = ap (λ xs. slice_index xs 32) (ap first_bytes (law.answers.0).0) in omega (arith, bad)

other_table : SentLaw journals.one_disk refused.other_table → ⊥
unfolding reading fault_of tcode_of header_of offset_of rcode_of value_of length_of extended_of three four part_of is_to is_same asked_by begun_by belongs start_at lowest_from label_for free_from count_flying lowest_flying label_of with_label is_write kind_of slot_of window_at is_fifo point_step doorbell_step reset_step abort_step reply_step lost_step refusal verdict request_of check_of blank_bytes command_kind elements_from made block_head decide reads_eui live_login response_bytes start_step reply_step_of_manager decide_step fresh_id left_for enter_step back_step leave_step
other_table = λ law. let bad : 0 ≡ 0x10 = ap (λ xs. slice_index xs 31) (ap first_bytes (law.answers.0).0) in omega (arith, bad)

other_data : SentLaw journals.one_disk refused.other_data_served → ⊥
unfolding reading fault_of tcode_of header_of offset_of rcode_of value_of length_of extended_of three four part_of is_to is_same asked_by begun_by belongs start_at lowest_from label_for free_from count_flying lowest_flying label_of with_label is_write kind_of slot_of window_at is_fifo point_step doorbell_step reset_step abort_step reply_step lost_step refusal verdict request_of check_of blank_bytes command_kind elements_from made block_head decide reads_eui live_login response_bytes start_step reply_step_of_manager decide_step fresh_id left_for enter_step back_step leave_step
other_data = λ law. let bad : 0xbb ≡ 0xaa = ap (λ xs. slice_index xs 16) (ap first_bytes (law.answers.0).0) in omega (arith, bad)

chunk_elsewhere : SentLaw journals.one_disk refused.chunk_elsewhere → ⊥
unfolding reading fault_of tcode_of header_of offset_of rcode_of value_of length_of extended_of three four part_of is_to is_same asked_by begun_by belongs start_at lowest_from label_for free_from count_flying lowest_flying label_of with_label is_write kind_of slot_of window_at is_fifo point_step doorbell_step reset_step abort_step reply_step lost_step refusal verdict request_of check_of blank_bytes command_kind elements_from made block_head decide reads_eui live_login response_bytes start_step reply_step_of_manager decide_step fresh_id left_for enter_step back_step leave_step
chunk_elsewhere = λ law. let bad : 1 ≡ 0 = ap (λ xs. slice_index xs 10) ((law.requests.0 refl).0.spelled) in omega (arith, bad)

chunk_too_long : SentLaw journals.one_disk refused.chunk_too_long → ⊥
unfolding reading fault_of tcode_of header_of offset_of rcode_of value_of length_of extended_of three four part_of is_to is_same asked_by begun_by belongs start_at lowest_from label_for free_from count_flying lowest_flying label_of with_label is_write kind_of slot_of window_at is_fifo point_step doorbell_step reset_step abort_step reply_step lost_step refusal verdict request_of check_of blank_bytes command_kind elements_from made block_head decide reads_eui live_login response_bytes start_step reply_step_of_manager decide_step fresh_id left_for enter_step back_step leave_step
chunk_too_long = λ law. let bad : 2 ≡ 1 = ap (λ xs. slice_index xs 12) ((law.requests.0 refl).0.spelled) in omega (arith, bad)

other_rom : SentLaw journals.one_disk (refused.reads_rom 0) → ⊥
unfolding reading fault_of tcode_of header_of offset_of rcode_of value_of length_of extended_of three four part_of is_to is_same asked_by begun_by belongs start_at lowest_from label_for free_from count_flying lowest_flying label_of with_label is_write kind_of slot_of window_at is_fifo point_step doorbell_step reset_step abort_step reply_step lost_step refusal verdict request_of check_of blank_bytes command_kind elements_from made block_head decide reads_eui live_login response_bytes start_step reply_step_of_manager decide_step fresh_id left_for enter_step back_step leave_step sum_of low_bits
other_rom = λ law. let bad : 0 ≡ 4 = ap (λ xs. slice_index xs 12) (ap first_bytes (law.answers.0).0) in omega (arith, bad)

rom_not_read_on : SentLaw journals.one_disk (said (notes.Got 2) ∷ refused.reads_rom 0) → ⊥
unfolding reading fault_of tcode_of header_of offset_of rcode_of value_of length_of extended_of three four part_of is_to is_same asked_by begun_by belongs start_at lowest_from label_for free_from count_flying lowest_flying label_of with_label is_write kind_of slot_of window_at is_fifo point_step doorbell_step reset_step abort_step reply_step lost_step refusal verdict request_of check_of blank_bytes command_kind elements_from made block_head decide reads_eui live_login response_bytes start_step reply_step_of_manager decide_step fresh_id left_for enter_step back_step leave_step
rom_not_read_on = λ law. law.requests.0 refl

other_management_orb : SentLaw journals.one_disk refused.other_management_orb → ⊥
unfolding reading fault_of tcode_of header_of offset_of rcode_of value_of length_of extended_of three four part_of is_to is_same asked_by begun_by belongs start_at lowest_from label_for free_from count_flying lowest_flying label_of with_label is_write kind_of slot_of window_at is_fifo point_step doorbell_step reset_step abort_step reply_step lost_step refusal verdict request_of check_of blank_bytes command_kind elements_from made block_head decide reads_eui live_login response_bytes start_step reply_step_of_manager decide_step fresh_id left_for enter_step back_step leave_step
other_management_orb = λ law. let bad : 3 ≡ 7 = ap (λ xs. slice_index xs 33) (ap first_bytes (law.answers.0).0) in omega (arith, bad)

eui_not_read : SentLaw journals.one_disk (said (notes.Got 4) ∷ journals.told journals.reads_login) → ⊥
unfolding reading fault_of tcode_of header_of offset_of rcode_of value_of length_of extended_of three four part_of is_to is_same asked_by begun_by belongs start_at lowest_from label_for free_from count_flying lowest_flying label_of with_label is_write kind_of slot_of window_at is_fifo point_step doorbell_step reset_step abort_step reply_step lost_step refusal verdict request_of check_of blank_bytes command_kind elements_from made block_head decide reads_eui live_login response_bytes start_step reply_step_of_manager decide_step fresh_id left_for enter_step back_step leave_step
eui_not_read = λ law. law.requests.0 refl

management_status_elsewhere : SentLaw journals.one_disk refused.management_status_elsewhere → ⊥
unfolding reading fault_of tcode_of header_of offset_of rcode_of value_of length_of extended_of three four part_of is_to is_same asked_by begun_by belongs start_at lowest_from label_for free_from count_flying lowest_flying label_of with_label is_write kind_of slot_of window_at is_fifo point_step doorbell_step reset_step abort_step reply_step lost_step refusal verdict request_of check_of blank_bytes command_kind elements_from made block_head decide reads_eui live_login response_bytes start_step reply_step_of_manager decide_step fresh_id left_for enter_step back_step leave_step
management_status_elsewhere = λ law. let bad : 0x20 ≡ 0 = ap (λ xs. slice_index xs 23) ((law.requests.0 refl).0.spelled) in omega (arith, bad)

pointer_read_whole : SentLaw journals.one_disk (refused.rereads_by 32) → ⊥
unfolding reading fault_of tcode_of header_of offset_of rcode_of value_of length_of extended_of three four part_of is_to is_same asked_by begun_by belongs start_at lowest_from label_for free_from count_flying lowest_flying label_of with_label is_write kind_of slot_of window_at is_fifo point_step doorbell_step reset_step abort_step reply_step lost_step refusal verdict request_of check_of blank_bytes command_kind elements_from made block_head decide reads_eui live_login response_bytes start_step reply_step_of_manager decide_step fresh_id left_for enter_step back_step leave_step
pointer_read_whole = λ law. let bad : 0x20 ≡ 8 = ap (λ xs. slice_index xs 13) ((law.requests.0 refl).0.spelled) in omega (arith, bad)

status_unasked : SentLaw journals.one_disk refused.status_unasked → ⊥
unfolding reading fault_of tcode_of header_of offset_of rcode_of value_of length_of extended_of three four part_of is_to is_same asked_by begun_by belongs start_at lowest_from label_for free_from count_flying lowest_flying label_of with_label is_write kind_of slot_of window_at is_fifo point_step doorbell_step reset_step abort_step reply_step lost_step refusal verdict request_of check_of blank_bytes command_kind elements_from made block_head decide reads_eui live_login response_bytes start_step reply_step_of_manager decide_step fresh_id left_for enter_step back_step leave_step
status_unasked = λ law. law.requests.0 refl

status_elsewhere : SentLaw journals.one_disk (refused.sends_behind_end (refused.block_packet 0x13000020 0x41000000 0x10000000) []) → ⊥
unfolding reading fault_of tcode_of header_of offset_of rcode_of value_of length_of extended_of three four part_of is_to is_same asked_by begun_by belongs start_at lowest_from label_for free_from count_flying lowest_flying label_of with_label is_write kind_of slot_of window_at is_fifo point_step doorbell_step reset_step abort_step reply_step lost_step refusal verdict request_of check_of blank_bytes command_kind elements_from made block_head decide reads_eui live_login response_bytes start_step reply_step_of_manager decide_step fresh_id left_for enter_step back_step leave_step
status_elsewhere = λ law. let bad : 0x20 ≡ 0 = ap (λ xs. slice_index xs 11) ((law.requests.0 refl).0.spelled) in omega (arith, bad)

status_of_another : SentLaw journals.one_disk (refused.sends_behind_end (refused.block_packet 0x13000000 0x41000000 0x10000040) []) → ⊥
unfolding reading fault_of tcode_of header_of offset_of rcode_of value_of length_of extended_of three four part_of is_to is_same asked_by begun_by belongs start_at lowest_from label_for free_from count_flying lowest_flying label_of with_label is_write kind_of slot_of window_at is_fifo point_step doorbell_step reset_step abort_step reply_step lost_step refusal verdict request_of check_of blank_bytes command_kind elements_from made block_head decide reads_eui live_login response_bytes start_step reply_step_of_manager decide_step fresh_id left_for enter_step back_step leave_step
status_of_another = λ law. let bad : 0x40 ≡ 0 = ap (λ xs. slice_index xs 23) ((law.requests.0 refl).0.spelled) in omega (arith, bad)

reads_ahead_at_null : SentLaw journals.one_disk (refused.sends_behind_end (journals.status_packet 0x41000000) (notes.Sent 6 0 0 1 (journals.fetch_packet 1 0) ∷ [])) → ⊥
unfolding reading fault_of tcode_of header_of offset_of rcode_of value_of length_of extended_of three four part_of is_to is_same asked_by begun_by belongs start_at lowest_from label_for free_from count_flying lowest_flying label_of with_label is_write kind_of slot_of window_at is_fifo point_step doorbell_step reset_step abort_step reply_step lost_step refusal verdict request_of check_of blank_bytes command_kind elements_from made block_head decide reads_eui live_login response_bytes start_step reply_step_of_manager decide_step fresh_id left_for enter_step back_step leave_step
reads_ahead_at_null = λ law. (law.requests.0 refl).1

untold_elsewhere : SentLaw rare.untold_disk (rare.untold (notes.Sent 5 0 0 1 (rare.block_packet 0x11000040 rare.some_block) ∷ [])) → ⊥
unfolding reading fault_of tcode_of header_of offset_of rcode_of value_of length_of extended_of three four part_of is_to is_same asked_by begun_by belongs start_at lowest_from label_for free_from count_flying lowest_flying label_of with_label is_write kind_of slot_of window_at is_fifo point_step doorbell_step reset_step abort_step reply_step lost_step refusal verdict request_of check_of blank_bytes command_kind elements_from made block_head decide reads_eui live_login response_bytes start_step reply_step_of_manager decide_step fresh_id left_for enter_step back_step leave_step
untold_elsewhere = λ law. let bad : 0x40 ≡ 0 = ap (λ xs. slice_index xs 11) ((law.requests.0 refl).0.is.spelled) in omega (arith, bad)

ahead_past_its_reserve : SentLaw journals.one_disk (refused.checked_beside 48 (refused.fetches_ahead ∷ [])) → ⊥
unfolding reading fault_of tcode_of header_of offset_of rcode_of value_of length_of extended_of three four part_of is_to is_same asked_by begun_by belongs start_at lowest_from label_for free_from count_flying lowest_flying label_of with_label is_write kind_of slot_of window_at is_fifo point_step doorbell_step reset_step abort_step reply_step lost_step refusal verdict request_of check_of blank_bytes command_kind elements_from made block_head decide reads_eui live_login response_bytes start_step reply_step_of_manager decide_step fresh_id left_for enter_step back_step leave_step
ahead_past_its_reserve = λ law. (law.requests.0 refl).1

ahead_within_reserve_left_out : SentLaw journals.one_disk (refused.checked_beside 47 []) → ⊥
unfolding reading fault_of tcode_of header_of offset_of rcode_of value_of length_of extended_of three four part_of is_to is_same asked_by begun_by belongs start_at lowest_from label_for free_from count_flying lowest_flying label_of with_label is_write kind_of slot_of window_at is_fifo point_step doorbell_step reset_step abort_step reply_step lost_step refusal verdict request_of check_of blank_bytes command_kind elements_from made block_head decide reads_eui live_login response_bytes start_step reply_step_of_manager decide_step fresh_id left_for enter_step back_step leave_step
ahead_within_reserve_left_out = λ law. (law.requests.0 refl).1

aborted_of_another_line : SentLaw journals.one_disk (runs.abort_behind_time_out 1) → ⊥
unfolding reading fault_of tcode_of header_of offset_of rcode_of value_of length_of extended_of three four part_of is_to is_same asked_by begun_by belongs start_at lowest_from label_for free_from count_flying lowest_flying label_of with_label is_write kind_of slot_of window_at is_fifo point_step doorbell_step reset_step abort_step reply_step lost_step refusal verdict request_of check_of blank_bytes command_kind elements_from made block_head decide reads_eui live_login response_bytes start_step reply_step_of_manager decide_step fresh_id left_for enter_step back_step leave_step
aborted_of_another_line = λ law. law.requests.1.1.1.1.1.1.1.1.1.1.1.1.1.1.1.1.1.0 refl

chunk_otherwise : SentLaw journals.one_disk refused.chunk_otherwise → ⊥
unfolding reading fault_of tcode_of header_of offset_of rcode_of value_of length_of extended_of three four part_of is_to is_same asked_by begun_by belongs start_at lowest_from label_for free_from count_flying lowest_flying label_of with_label is_write kind_of slot_of window_at is_fifo point_step doorbell_step reset_step abort_step reply_step lost_step refusal verdict request_of check_of blank_bytes command_kind elements_from made block_head decide reads_eui live_login response_bytes start_step reply_step_of_manager decide_step fresh_id left_for enter_step back_step leave_step
chunk_otherwise = λ law. let bad : 0xde ≡ 0 = ap (λ xs. slice_index xs 20) ((law.requests.0 refl).0.spelled) in omega (arith, bad)

pointer_taken_in_active : SentLaw journals.one_disk (refused.points_again 0) → ⊥
unfolding reading fault_of tcode_of header_of offset_of rcode_of value_of length_of extended_of three four part_of is_to is_same asked_by begun_by belongs start_at lowest_from label_for free_from count_flying lowest_flying label_of with_label is_write kind_of slot_of window_at is_fifo point_step doorbell_step reset_step abort_step reply_step lost_step refusal verdict request_of check_of blank_bytes command_kind elements_from made block_head decide reads_eui live_login response_bytes start_step reply_step_of_manager decide_step fresh_id left_for enter_step back_step leave_step
pointer_taken_in_active = λ law. let bad : 0 ≡ 0x40 = ap (λ xs. slice_index xs 6) (ap first_bytes (law.answers.0).0) in omega (arith, bad)

pub tried : SentTried
tried = record { pointer_taken_in_active = pointer_taken_in_active; chunk_otherwise = chunk_otherwise; accepts = accepts; unanswered = unanswered; answered_twice = answered_twice; answered_otherwise = answered_otherwise; not_fetched = not_fetched; fetched_elsewhere = fetched_elsewhere; linked_too_early = linked_too_early; resting_label = resting_label; other_src = other_src; status_unsent = status_unsent; nothing_read_ahead = nothing_read_ahead; doorbell_ignored = doorbell_ignored; other_place = other_place; serial_left_out = serial_left_out; other_generation = other_generation; other_retry = other_retry; other_source = other_source; higher_label = higher_label; other_register = other_register; other_value = other_value; other_number = other_number; other_state = other_state; conflict_left_out = conflict_left_out; dummy_served_plain = dummy_served_plain; other_table = other_table; other_data = other_data; chunk_elsewhere = chunk_elsewhere; chunk_too_long = chunk_too_long; other_rom = other_rom; rom_not_read_on = rom_not_read_on; other_management_orb = other_management_orb; eui_not_read = eui_not_read; management_status_elsewhere = management_status_elsewhere; pointer_read_whole = pointer_read_whole; status_unasked = status_unasked; status_elsewhere = status_elsewhere; status_of_another = status_of_another; reads_ahead_at_null = reads_ahead_at_null; untold_elsewhere = untold_elsewhere; aborted_of_another_line = aborted_of_another_line; ahead_past_its_reserve = ahead_past_its_reserve; ahead_within_reserve_left_out = ahead_within_reserve_left_out }
