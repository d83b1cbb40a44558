-- The journals that the login law was tried on.
use Rattle.std.proofs.Common.{◌≡◌, ℕ, List, [], ◌∷◌, ◌++◌, refl, ap, ◌∙◌, arith}
use Rattle.std.specs.Prelude.{Option, Some, None, drop}
use Rattle.sbp_journal.specs.Run.{said}
use Rattle.sbp_journal.specs.declared.note.Note.{Note}
use Rattle.sbp_journal.specs.declared.note.Note.TheVariants as notes
use Rattle.sbp_laws.specs.Journals as journals
use Rattle.sbp_laws.specs.Tried.{LoginTried}
use Rattle.sbp_laws.specs.LoginLaw.{LoginLaw, HasLogins, is_decision_note}
use Rattle.sbp_laws.specs.NoteKinds.{of_kind}
use Rattle.sbp_laws.specs.Agents.{target_before}
use Rattle.sbp_laws.specs.Management.{decisions_due}
use Rattle.sbp_laws.specs.Turns.{Turn, turn}
use Rattle.sbp_journal.specs.declared.operation.FunctionWord.TheVariants as functions
use Rattle.async_packet.specs.Reading.{reading}
use Rattle.async_packet.specs.Faults.{fault_of}
use Rattle.async_packet.specs.Fields.{tcode_of, header_of, offset_of, rcode_of, value_of, length_of, extended_of}
use Rattle.async_packet.specs.Canon.{three, four}
use Rattle.sbp_journal.specs.Transactions.{part_of, is_to, is_same, asked_by, begun_by, belongs}
use Rattle.sbp_journal.specs.Addresses.{start_at}
use Rattle.sbp_laws.specs.Packets.{lowest_from, label_for, free_from}
use Rattle.sbp_laws.specs.Budget.{count_flying, lowest_flying}
use Rattle.label_table.specs.Requests.{label_of, with_label, is_write, kind_of}
use Rattle.bus_memory.specs.Windows.{slot_of, window_at, is_fifo}
use Rattle.command_agent.specs.Steps.{point_step, doorbell_step, reset_step, abort_step, reply_step, lost_step}
use Rattle.command_agent.specs.Checks.{refusal, verdict}
use Rattle.rbc_disk.specs.Requests.{request_of}
use Rattle.rbc_disk.specs.Checks.{check_of}
use Rattle.rbc_disk.specs.Disk.{blank_bytes}
use Rattle.orb_layout.specs.StatusBlocks.{command_kind}
use Rattle.page_table.specs.Elements.{elements_from}
use Rattle.config_rom.specs.Make.{made}
use Rattle.media_bay.specs.Unsolicited.{block_head}
use Rattle.mgmt_agent.specs.Decisions.{decide, reads_eui, live_login, response_bytes}
use Rattle.mgmt_agent.specs.Machine.{start_step, reply_step as reply_step_of_manager, decide_step}
use Rattle.login_table.specs.Table.{fresh_id, left_for, enter_step, back_step, leave_step}
use Rattle.sbp_laws.specs.Refused as refused
use Rattle.sbp_laws.specs.RareRuns as rare

-- the decisions of a turn are those that are due
as_due : (t : Turn) (due : List Note) → decisions_due (target_before journals.one_disk t) t ≡ due → HasLogins journals.one_disk t → of_kind is_decision_note t.rest ≡ due
as_due t due e law = law.decisions ∙ e

abbrev decision_turn : ℕ → Option ℕ → Turn
decision_turn status login = turn (journals.told (journals.reads_login ++ journals.reads_eui)) (said (notes.Got 8)) (notes.Managed 0 functions.Login 0 status login ∷ [])

abbrev keyed_turn : ℕ → ℕ → Option ℕ → Turn
keyed_turn password status login = turn (drop 2 (rare.keyed password 0 None)) (said (notes.Got 8)) (notes.Managed 0 functions.Login 0 status login ∷ [])

abbrev exclusive_turn : ℕ → Option ℕ → Turn
exclusive_turn status login = turn (drop 2 (rare.exclusive 0 None)) (said (notes.Got 17)) (notes.Managed 0 functions.Login 0 status login ∷ [])

-- the status and the login ID of the first decision
abbrev status_told : List Note → ℕ
status_told (notes.Managed i function subject status login ∷ rest) = status
status_told _ = 0

abbrev id_told : List Note → Option ℕ
id_told (notes.Managed i function subject status login ∷ rest) = login
id_told _ = None

expires : LoginLaw journals.one_disk journals.expires
unfolding reading fault_of tcode_of header_of offset_of rcode_of value_of length_of extended_of three four part_of is_to is_same asked_by begun_by belongs start_at lowest_from label_for free_from count_flying lowest_flying label_of with_label is_write kind_of slot_of window_at is_fifo point_step doorbell_step reset_step abort_step reply_step lost_step refusal verdict request_of check_of blank_bytes command_kind elements_from made block_head decide reads_eui live_login response_bytes start_step reply_step_of_manager decide_step fresh_id left_for enter_step back_step leave_step
expires = (record { rows = tt; decisions = refl; logins = refl }, (record { rows = tt; decisions = refl; logins = refl }, (record { rows = tt; decisions = refl; logins = refl }, (record { rows = tt; decisions = refl; logins = refl }, (record { rows = tt; decisions = refl; logins = refl }, (record { rows = tt; decisions = refl; logins = refl }, (record { rows = tt; decisions = refl; logins = refl }, (record { rows = tt; decisions = refl; logins = refl }, (record { rows = tt; decisions = refl; logins = refl }, (record { rows = tt; decisions = refl; logins = refl }, (record { rows = tt; decisions = refl; logins = refl }, (record { rows = tt; decisions = refl; logins = refl }, tt))))))))))))

stays_too_long : LoginLaw journals.one_disk journals.stays_too_long → ⊥
unfolding reading fault_of tcode_of header_of offset_of rcode_of value_of length_of extended_of three four part_of is_to is_same asked_by begun_by belongs start_at lowest_from label_for free_from count_flying lowest_flying label_of with_label is_write kind_of slot_of window_at is_fifo point_step doorbell_step reset_step abort_step reply_step lost_step refusal verdict request_of check_of blank_bytes command_kind elements_from made block_head decide reads_eui live_login response_bytes start_step reply_step_of_manager decide_step fresh_id left_for enter_step back_step leave_step
stays_too_long = λ law. let bad = law.0.logins in cc bad

held_left_out : LoginLaw journals.one_disk journals.held_left_out → ⊥
unfolding reading fault_of tcode_of header_of offset_of rcode_of value_of length_of extended_of three four part_of is_to is_same asked_by begun_by belongs start_at lowest_from label_for free_from count_flying lowest_flying label_of with_label is_write kind_of slot_of window_at is_fifo point_step doorbell_step reset_step abort_step reply_step lost_step refusal verdict request_of check_of blank_bytes command_kind elements_from made block_head decide reads_eui live_login response_bytes start_step reply_step_of_manager decide_step fresh_id left_for enter_step back_step leave_step
held_left_out = λ law. let bad = law.0.logins in cc bad

decides : LoginLaw journals.one_disk (journals.decides 0 (Some 1))
unfolding reading fault_of tcode_of header_of offset_of rcode_of value_of length_of extended_of three four part_of is_to is_same asked_by begun_by belongs start_at lowest_from label_for free_from count_flying lowest_flying label_of with_label is_write kind_of slot_of window_at is_fifo point_step doorbell_step reset_step abort_step reply_step lost_step refusal verdict request_of check_of blank_bytes command_kind elements_from made block_head decide reads_eui live_login response_bytes start_step reply_step_of_manager decide_step fresh_id left_for enter_step back_step leave_step
decides = (record { rows = (refl, tt); decisions = refl; logins = refl }, (record { rows = tt; decisions = refl; logins = refl }, (record { rows = tt; decisions = refl; logins = refl }, (record { rows = tt; decisions = refl; logins = refl }, (record { rows = tt; decisions = refl; logins = refl }, (record { rows = tt; decisions = refl; logins = refl }, (record { rows = tt; decisions = refl; logins = refl }, (record { rows = tt; decisions = refl; logins = refl }, (record { rows = tt; decisions = refl; logins = refl }, (record { rows = tt; decisions = refl; logins = refl }, (record { rows = tt; decisions = refl; logins = refl }, tt)))))))))))

other_id : LoginLaw journals.one_disk (journals.decides 0 (Some 2)) → ⊥
unfolding reading fault_of tcode_of header_of offset_of rcode_of value_of length_of extended_of three four part_of is_to is_same asked_by begun_by belongs start_at lowest_from label_for free_from count_flying lowest_flying label_of with_label is_write kind_of slot_of window_at is_fifo point_step doorbell_step reset_step abort_step reply_step lost_step refusal verdict request_of check_of blank_bytes command_kind elements_from made block_head decide reads_eui live_login response_bytes start_step reply_step_of_manager decide_step fresh_id left_for enter_step back_step leave_step
other_id = λ law. let bad : notes.Managed 0 functions.Login 0 0 (Some 2) ∷ [] ≡ notes.Managed 0 functions.Login 0 0 (Some 1) ∷ [] = as_due (decision_turn 0 (Some 2)) (notes.Managed 0 functions.Login 0 0 (Some 1) ∷ []) refl law.0 in let ids : Some 2 ≡ Some 1 = ap id_told bad in grind (arith, ids)

other_status : LoginLaw journals.one_disk (journals.decides 8 None) → ⊥
unfolding reading fault_of tcode_of header_of offset_of rcode_of value_of length_of extended_of three four part_of is_to is_same asked_by begun_by belongs start_at lowest_from label_for free_from count_flying lowest_flying label_of with_label is_write kind_of slot_of window_at is_fifo point_step doorbell_step reset_step abort_step reply_step lost_step refusal verdict request_of check_of blank_bytes command_kind elements_from made block_head decide reads_eui live_login response_bytes start_step reply_step_of_manager decide_step fresh_id left_for enter_step back_step leave_step
other_status = λ law. let bad : notes.Managed 0 functions.Login 0 8 None ∷ [] ≡ notes.Managed 0 functions.Login 0 0 (Some 1) ∷ [] = as_due (decision_turn 8 None) (notes.Managed 0 functions.Login 0 0 (Some 1) ∷ []) refl law.0 in let statuses : 8 ≡ 0 = ap status_told bad in omega (arith, statuses)

key_fits : LoginLaw journals.one_disk (rare.keyed 1 0 (Some 1))
unfolding reading fault_of tcode_of header_of offset_of rcode_of value_of length_of extended_of three four part_of is_to is_same asked_by begun_by belongs start_at lowest_from label_for free_from count_flying lowest_flying label_of with_label is_write kind_of slot_of window_at is_fifo point_step doorbell_step reset_step abort_step reply_step lost_step refusal verdict request_of check_of blank_bytes command_kind elements_from made block_head decide reads_eui live_login response_bytes start_step reply_step_of_manager decide_step fresh_id left_for enter_step back_step leave_step
key_fits = (record { rows = (refl, tt); decisions = refl; logins = refl }, (record { rows = tt; decisions = refl; logins = refl }, (record { rows = tt; decisions = refl; logins = refl }, (record { rows = tt; decisions = refl; logins = refl }, (record { rows = tt; decisions = refl; logins = refl }, (record { rows = tt; decisions = refl; logins = refl }, (record { rows = tt; decisions = refl; logins = refl }, (record { rows = tt; decisions = refl; logins = refl }, (record { rows = tt; decisions = refl; logins = refl }, (record { rows = tt; decisions = refl; logins = refl }, (record { rows = tt; decisions = refl; logins = refl }, (record { rows = tt; decisions = refl; logins = refl }, tt))))))))))))

key_fails : LoginLaw journals.one_disk (rare.keyed 2 4 None)
unfolding reading fault_of tcode_of header_of offset_of rcode_of value_of length_of extended_of three four part_of is_to is_same asked_by begun_by belongs start_at lowest_from label_for free_from count_flying lowest_flying label_of with_label is_write kind_of slot_of window_at is_fifo point_step doorbell_step reset_step abort_step reply_step lost_step refusal verdict request_of check_of blank_bytes command_kind elements_from made block_head decide reads_eui live_login response_bytes start_step reply_step_of_manager decide_step fresh_id left_for enter_step back_step leave_step
key_fails = (record { rows = (refl, tt); decisions = refl; logins = refl }, (record { rows = tt; decisions = refl; logins = refl }, (record { rows = tt; decisions = refl; logins = refl }, (record { rows = tt; decisions = refl; logins = refl }, (record { rows = tt; decisions = refl; logins = refl }, (record { rows = tt; decisions = refl; logins = refl }, (record { rows = tt; decisions = refl; logins = refl }, (record { rows = tt; decisions = refl; logins = refl }, (record { rows = tt; decisions = refl; logins = refl }, (record { rows = tt; decisions = refl; logins = refl }, (record { rows = tt; decisions = refl; logins = refl }, (record { rows = tt; decisions = refl; logins = refl }, tt))))))))))))

key_passed_over : LoginLaw journals.one_disk (rare.keyed 2 0 (Some 1)) → ⊥
unfolding reading fault_of tcode_of header_of offset_of rcode_of value_of length_of extended_of three four part_of is_to is_same asked_by begun_by belongs start_at lowest_from label_for free_from count_flying lowest_flying label_of with_label is_write kind_of slot_of window_at is_fifo point_step doorbell_step reset_step abort_step reply_step lost_step refusal verdict request_of check_of blank_bytes command_kind elements_from made block_head decide reads_eui live_login response_bytes start_step reply_step_of_manager decide_step fresh_id left_for enter_step back_step leave_step
key_passed_over = λ law. let bad : notes.Managed 0 functions.Login 0 0 (Some 1) ∷ [] ≡ notes.Managed 0 functions.Login 0 4 None ∷ [] = as_due (keyed_turn 2 0 (Some 1)) (notes.Managed 0 functions.Login 0 4 None ∷ []) refl law.0 in let statuses : 0 ≡ 4 = ap status_told bad in omega (arith, statuses)

key_refused : LoginLaw journals.one_disk (rare.keyed 1 4 None) → ⊥
unfolding reading fault_of tcode_of header_of offset_of rcode_of value_of length_of extended_of three four part_of is_to is_same asked_by begun_by belongs start_at lowest_from label_for free_from count_flying lowest_flying label_of with_label is_write kind_of slot_of window_at is_fifo point_step doorbell_step reset_step abort_step reply_step lost_step refusal verdict request_of check_of blank_bytes command_kind elements_from made block_head decide reads_eui live_login response_bytes start_step reply_step_of_manager decide_step fresh_id left_for enter_step back_step leave_step
key_refused = λ law. let bad : notes.Managed 0 functions.Login 0 4 None ∷ [] ≡ notes.Managed 0 functions.Login 0 0 (Some 1) ∷ [] = as_due (keyed_turn 1 4 None) (notes.Managed 0 functions.Login 0 0 (Some 1) ∷ []) refl law.0 in let statuses : 4 ≡ 0 = ap status_told bad in omega (arith, statuses)

exclusive_stands : LoginLaw journals.one_disk (rare.exclusive 4 None)
unfolding reading fault_of tcode_of header_of offset_of rcode_of value_of length_of extended_of three four part_of is_to is_same asked_by begun_by belongs start_at lowest_from label_for free_from count_flying lowest_flying label_of with_label is_write kind_of slot_of window_at is_fifo point_step doorbell_step reset_step abort_step reply_step lost_step refusal verdict request_of check_of blank_bytes command_kind elements_from made block_head decide reads_eui live_login response_bytes start_step reply_step_of_manager decide_step fresh_id left_for enter_step back_step leave_step
exclusive_stands = (record { rows = (refl, tt); decisions = refl; logins = refl }, (record { rows = tt; decisions = refl; logins = refl }, (record { rows = tt; decisions = refl; logins = refl }, (record { rows = tt; decisions = refl; logins = refl }, (record { rows = tt; decisions = refl; logins = refl }, (record { rows = tt; decisions = refl; logins = refl }, (record { rows = tt; decisions = refl; logins = refl }, (record { rows = tt; decisions = refl; logins = refl }, (record { rows = tt; decisions = refl; logins = refl }, (record { rows = tt; decisions = refl; logins = refl }, (record { rows = tt; decisions = refl; logins = refl }, (record { rows = tt; decisions = refl; logins = refl }, (record { rows = tt; decisions = refl; logins = refl }, (record { rows = (refl, tt); decisions = refl; logins = refl }, (record { rows = tt; decisions = refl; logins = refl }, (record { rows = tt; decisions = refl; logins = refl }, (record { rows = tt; decisions = refl; logins = refl }, (record { rows = tt; decisions = refl; logins = refl }, (record { rows = tt; decisions = refl; logins = refl }, (record { rows = tt; decisions = refl; logins = refl }, (record { rows = tt; decisions = refl; logins = refl }, (record { rows = tt; decisions = refl; logins = refl }, (record { rows = tt; decisions = refl; logins = refl }, (record { rows = tt; decisions = refl; logins = refl }, tt))))))))))))))))))))))))

exclusive_passed_over : LoginLaw journals.one_disk (rare.exclusive 0 (Some 2)) → ⊥
unfolding reading fault_of tcode_of header_of offset_of rcode_of value_of length_of extended_of three four part_of is_to is_same asked_by begun_by belongs start_at lowest_from label_for free_from count_flying lowest_flying label_of with_label is_write kind_of slot_of window_at is_fifo point_step doorbell_step reset_step abort_step reply_step lost_step refusal verdict request_of check_of blank_bytes command_kind elements_from made block_head decide reads_eui live_login response_bytes start_step reply_step_of_manager decide_step fresh_id left_for enter_step back_step leave_step
exclusive_passed_over = λ law. let bad : notes.Managed 0 functions.Login 0 0 (Some 2) ∷ [] ≡ notes.Managed 0 functions.Login 0 4 None ∷ [] = as_due (exclusive_turn 0 (Some 2)) (notes.Managed 0 functions.Login 0 4 None ∷ []) refl law.0 in let statuses : 0 ≡ 4 = ap status_told bad in omega (arith, statuses)

expires_early : LoginLaw journals.one_disk (refused.expires_at (notes.Expired 1 ∷ [])) → ⊥
unfolding reading fault_of tcode_of header_of offset_of rcode_of value_of length_of extended_of three four part_of is_to is_same asked_by begun_by belongs start_at lowest_from label_for free_from count_flying lowest_flying label_of with_label is_write kind_of slot_of window_at is_fifo point_step doorbell_step reset_step abort_step reply_step lost_step refusal verdict request_of check_of blank_bytes command_kind elements_from made block_head decide reads_eui live_login response_bytes start_step reply_step_of_manager decide_step fresh_id left_for enter_step back_step leave_step
expires_early = λ law. let bad = law.0.logins in cc bad

decides_early : LoginLaw journals.one_disk refused.decides_early → ⊥
unfolding reading fault_of tcode_of header_of offset_of rcode_of value_of length_of extended_of three four part_of is_to is_same asked_by begun_by belongs start_at lowest_from label_for free_from count_flying lowest_flying label_of with_label is_write kind_of slot_of window_at is_fifo point_step doorbell_step reset_step abort_step reply_step lost_step refusal verdict request_of check_of blank_bytes command_kind elements_from made block_head decide reads_eui live_login response_bytes start_step reply_step_of_manager decide_step fresh_id left_for enter_step back_step leave_step
decides_early = λ law. let bad = law.0.decisions in cc bad

left_left_out : LoginLaw journals.one_disk refused.left_left_out → ⊥
unfolding reading fault_of tcode_of header_of offset_of rcode_of value_of length_of extended_of three four part_of is_to is_same asked_by begun_by belongs start_at lowest_from label_for free_from count_flying lowest_flying label_of with_label is_write kind_of slot_of window_at is_fifo point_step doorbell_step reset_step abort_step reply_step lost_step refusal verdict request_of check_of blank_bytes command_kind elements_from made block_head decide reads_eui live_login response_bytes start_step reply_step_of_manager decide_step fresh_id left_for enter_step back_step leave_step
left_left_out = λ law. let bad = law.0.logins in cc bad

left_unasked : LoginLaw journals.one_disk refused.left_unasked → ⊥
unfolding reading fault_of tcode_of header_of offset_of rcode_of value_of length_of extended_of three four part_of is_to is_same asked_by begun_by belongs start_at lowest_from label_for free_from count_flying lowest_flying label_of with_label is_write kind_of slot_of window_at is_fifo point_step doorbell_step reset_step abort_step reply_step lost_step refusal verdict request_of check_of blank_bytes command_kind elements_from made block_head decide reads_eui live_login response_bytes start_step reply_step_of_manager decide_step fresh_id left_for enter_step back_step leave_step
left_unasked = λ law. let bad = law.0.logins in cc bad

back_left_out : LoginLaw journals.one_disk refused.back_left_out → ⊥
unfolding reading fault_of tcode_of header_of offset_of rcode_of value_of length_of extended_of three four part_of is_to is_same asked_by begun_by belongs start_at lowest_from label_for free_from count_flying lowest_flying label_of with_label is_write kind_of slot_of window_at is_fifo point_step doorbell_step reset_step abort_step reply_step lost_step refusal verdict request_of check_of blank_bytes command_kind elements_from made block_head decide reads_eui live_login response_bytes start_step reply_step_of_manager decide_step fresh_id left_for enter_step back_step leave_step
back_left_out = λ law. let bad = law.0.logins in cc bad

other_function : LoginLaw journals.one_disk refused.other_function → ⊥
unfolding reading fault_of tcode_of header_of offset_of rcode_of value_of length_of extended_of three four part_of is_to is_same asked_by begun_by belongs start_at lowest_from label_for free_from count_flying lowest_flying label_of with_label is_write kind_of slot_of window_at is_fifo point_step doorbell_step reset_step abort_step reply_step lost_step refusal verdict request_of check_of blank_bytes command_kind elements_from made block_head decide reads_eui live_login response_bytes start_step reply_step_of_manager decide_step fresh_id left_for enter_step back_step leave_step
other_function = λ law. let bad = law.0.decisions in cc bad

pub tried : LoginTried
tried = record { expires = expires; stays_too_long = stays_too_long; held_left_out = held_left_out; decides = decides; other_id = other_id; other_status = other_status; key_fits = key_fits; key_fails = key_fails; key_passed_over = key_passed_over; key_refused = key_refused; exclusive_stands = exclusive_stands; exclusive_passed_over = exclusive_passed_over; expires_early = expires_early; decides_early = decides_early; left_left_out = left_left_out; left_unasked = left_unasked; back_left_out = back_left_out; other_function = other_function }
