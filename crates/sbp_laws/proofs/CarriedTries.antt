-- The journals that the carried law was tried on.
use Rattle.std.proofs.Common.{◌≡◌, ◌<◌, [], ◌∷◌, refl, arith, subst, ap, inl, inr, ◌⊎◌}
use Rattle.orb_layout.specs.Pointers.{quad_bytes}
use Rattle.sbp_laws.specs.Lawful.{nobody}
use Rattle.sbp_laws.specs.Journals as journals
use Rattle.sbp_laws.specs.Tried.{CarriedTried}
use Rattle.sbp_laws.specs.CarriedLaw.{CarriedLaw, Run}
use Rattle.async_packet.specs.Reading.{reading}
use Rattle.async_packet.specs.Faults.{fault_of}
use Rattle.async_packet.specs.Fields.{tcode_of, header_of, offset_of, rcode_of, value_of, length_of, extended_of}
use Rattle.async_packet.specs.Canon.{three, four}
use Rattle.sbp_journal.specs.Transactions.{part_of, is_to, is_same, asked_by, begun_by, belongs}
use Rattle.sbp_journal.specs.Addresses.{start_at}
use Rattle.sbp_laws.specs.Packets.{lowest_from, label_for, free_from, access_at}
use Rattle.sbp_laws.specs.Budget.{count_flying, lowest_flying}
use Rattle.label_table.specs.Requests.{label_of, with_label, is_write, kind_of}
use Rattle.bus_memory.specs.Windows.{slot_of, window_at, is_fifo}
use Rattle.command_agent.specs.Steps.{point_step, doorbell_step, reset_step, abort_step, reply_step, lost_step}
use Rattle.command_agent.specs.Checks.{refusal, verdict}
use Rattle.rbc_disk.specs.Requests.{request_of}
use Rattle.rbc_disk.specs.Checks.{check_of}
use Rattle.rbc_disk.specs.Disk.{blank_bytes}
use Rattle.orb_layout.specs.StatusBlocks.{command_kind}
use Rattle.page_table.specs.Elements.{elements_from}
use Rattle.config_rom.specs.Make.{made}
use Rattle.media_bay.specs.Unsolicited.{block_head}
use Rattle.mgmt_agent.specs.Decisions.{decide, reads_eui, live_login, response_bytes}
use Rattle.mgmt_agent.specs.Machine.{start_step, reply_step as reply_step_of_manager, decide_step}
use Rattle.login_table.specs.Table.{fresh_id, left_for, enter_step, back_step, leave_step}
use Rattle.sbp_laws.specs.Refused as refused
use Rattle.std.specs.Prelude.{Some, None, slice_index, drop, length, true, false, IsSomeAnd, List, ℕ, ◌==◌, if◌then◌else◌}
use Rattle.sbp_journal.specs.Run.{Moment}
use Rattle.sbp_laws.specs.Terms.{appends}
use Rattle.sbp_laws.specs.CarriedBytes.{before_sent, open_list, WasRead, IsRead, orb_read, buffer_in, reads_since, payload_at}
use Rattle.sbp_laws.specs.Targets.{agent_at, target_at}
use Rattle.sbp_journal.specs.Wire.{terms}
use Rattle.page_table.specs.Buffer.{bytes_of}

first_of_one : 0 < 1
first_of_one = omega arith

accepts : CarriedLaw nobody journals.one_disk journals.whole
unfolding reading fault_of tcode_of header_of offset_of rcode_of value_of length_of extended_of three four part_of is_to is_same asked_by begun_by belongs start_at lowest_from label_for free_from count_flying lowest_flying label_of with_label is_write kind_of slot_of window_at is_fifo point_step doorbell_step reset_step abort_step reply_step lost_step refusal verdict request_of check_of blank_bytes command_kind elements_from made block_head decide reads_eui live_login response_bytes start_step reply_step_of_manager decide_step fresh_id left_for enter_step back_step leave_step
accepts = record { carried = (tt, (tt, (tt, (λ e. refl, (tt, (tt, (λ e. record { read = record { response = 4; request = 3; got = refl; whole = refl; answers = refl; of_target = refl; of_initiator = refl; asks = record { read = refl; block = refl; from = refl; size = refl }; appended = first_of_one; opened = refl }; matches = (λ e. let bad : 0 ≡ 3 = e in omega (arith, bad), record { command = refl; direction = refl }) }, (λ e. record { read = record { response = 4; request = 3; got = refl; whole = refl; answers = refl; of_target = refl; of_initiator = refl; asks = record { read = refl; block = refl; from = refl; size = refl }; appended = first_of_one; opened = refl }; not_dummy = λ e. let bad : 0 ≡ 3 = e in omega (arith, bad); as_appended = record { command = refl; direction = refl }; size = refl; payloads = refl }, (tt, (tt, (tt, (tt, (tt, (tt, (tt, (tt, (tt, (tt, (tt, (tt, (tt, (tt, tt)))))))))))))))))))))); due = (refl, (refl, (refl, (refl, (refl, (refl, (refl, (refl, (refl, (refl, tt)))))))))) }

answer_uncarried : CarriedLaw nobody journals.one_disk (journals.capacity_taken (quad_bytes (0 ∷ 512 ∷ []))) → ⊥
unfolding reading fault_of tcode_of header_of offset_of rcode_of value_of length_of extended_of three four part_of is_to is_same asked_by begun_by belongs start_at lowest_from label_for free_from count_flying lowest_flying label_of with_label is_write kind_of slot_of window_at is_fifo point_step doorbell_step reset_step abort_step reply_step lost_step refusal verdict request_of check_of blank_bytes command_kind elements_from made block_head decide reads_eui live_login response_bytes start_step reply_step_of_manager decide_step fresh_id left_for enter_step back_step leave_step
answer_uncarried = λ law. let bad = law.carried.0 refl in cc bad

run_unread : CarriedLaw nobody journals.one_disk journals.run_unread → ⊥
unfolding reading fault_of tcode_of header_of offset_of rcode_of value_of length_of extended_of three four part_of is_to is_same asked_by begun_by belongs start_at lowest_from label_for free_from count_flying lowest_flying label_of with_label is_write kind_of slot_of window_at is_fifo point_step doorbell_step reset_step abort_step reply_step lost_step refusal verdict request_of check_of blank_bytes command_kind elements_from made block_head decide reads_eui live_login response_bytes start_step reply_step_of_manager decide_step fresh_id left_for enter_step back_step leave_step
run_unread = λ law. let bad = (law.carried.0 refl).read.got in cc bad

run_left_out : CarriedLaw nobody journals.one_disk journals.run_left_out → ⊥
unfolding reading fault_of tcode_of header_of offset_of rcode_of value_of length_of extended_of three four part_of is_to is_same asked_by begun_by belongs start_at lowest_from label_for free_from count_flying lowest_flying label_of with_label is_write kind_of slot_of window_at is_fifo point_step doorbell_step reset_step abort_step reply_step lost_step refusal verdict request_of check_of blank_bytes command_kind elements_from made block_head decide reads_eui live_login response_bytes start_step reply_step_of_manager decide_step fresh_id left_for enter_step back_step leave_step
run_left_out = λ law. let bad = law.due.0 in cc bad

goes_on_with_own : (agent_at (target_at journals.one_disk (refused.checks 0)) 0).machine.outgoing ≡ refused.checked_block
unfolding reading fault_of tcode_of header_of offset_of rcode_of value_of length_of extended_of three four part_of is_to is_same asked_by begun_by belongs start_at lowest_from label_for free_from count_flying lowest_flying label_of with_label is_write kind_of slot_of window_at is_fifo point_step doorbell_step reset_step abort_step reply_step lost_step refusal verdict request_of check_of blank_bytes command_kind elements_from made block_head decide reads_eui live_login response_bytes start_step reply_step_of_manager decide_step fresh_id left_for enter_step back_step leave_step
goes_on_with_own = refl

goes_on_with_anothers : (agent_at (target_at journals.one_disk (refused.checks 1)) 0).machine.outgoing ≡ refused.checked_block → ⊥
unfolding reading fault_of tcode_of header_of offset_of rcode_of value_of length_of extended_of three four part_of is_to is_same asked_by begun_by belongs start_at lowest_from label_for free_from count_flying lowest_flying label_of with_label is_write kind_of slot_of window_at is_fifo point_step doorbell_step reset_step abort_step reply_step lost_step refusal verdict request_of check_of blank_bytes command_kind elements_from made block_head decide reads_eui live_login response_bytes start_step reply_step_of_manager decide_step fresh_id left_for enter_step back_step leave_step
goes_on_with_anothers = λ same. let bad = same in cc bad

-- the data of the first run
abbrev first_data : List Run → List ℕ
first_data [] = []
first_data (run ∷ rest) = run.bytes

-- of three packets that were got, one is
one_of_three : (r : ℕ) → (if 4 == r then true else if 3 == r then true else if 1 == r then true else false) ≡ true → (r ≡ 4) ⊎ ((r ≡ 3) ⊎ (r ≡ 1))
one_of_three r e = grind arith

-- what stood before the note that is refused: the ORB was brought with these bytes
abbrev past_of : List ℕ → List Moment
past_of bytes = drop 1 (refused.orb_brought bytes refused.runs_ready)

dummy_unmade_reads_four : (w : WasRead journals.one_disk (past_of (refused.orb_of 0x82900000 0)) 0 0 0) → w.response ≡ 4
unfolding reading fault_of tcode_of header_of offset_of rcode_of value_of length_of extended_of three four part_of is_to is_same asked_by begun_by belongs start_at lowest_from label_for free_from count_flying lowest_flying label_of with_label is_write kind_of slot_of window_at is_fifo point_step doorbell_step reset_step abort_step reply_step lost_step refusal verdict request_of check_of blank_bytes command_kind elements_from made block_head decide reads_eui live_login response_bytes start_step reply_step_of_manager decide_step fresh_id left_for enter_step back_step leave_step
dummy_unmade_reads_four w = by (one_of_three w.response w.got)
  where
    by : (w.response ≡ 4) ⊎ ((w.response ≡ 3) ⊎ (w.response ≡ 1)) → w.response ≡ 4
    by (inl e) = e
    by (inr (inl e)) = let bad : None ≡ Some w.request = subst (λ r. (terms (past_of (refused.orb_of 0x82900000 0))).answers r ≡ Some w.request) e w.answers in absurd (cc bad)
    by (inr (inr e)) = let bad : None ≡ Some w.request = subst (λ r. (terms (past_of (refused.orb_of 0x82900000 0))).answers r ≡ Some w.request) e w.answers in absurd (cc bad)

good_of_dummy_reads_four : (w : WasRead journals.one_disk (past_of (refused.orb_of 0xe2900000 0)) 0 0 0) → w.response ≡ 4
unfolding reading fault_of tcode_of header_of offset_of rcode_of value_of length_of extended_of three four part_of is_to is_same asked_by begun_by belongs start_at lowest_from label_for free_from count_flying lowest_flying label_of with_label is_write kind_of slot_of window_at is_fifo point_step doorbell_step reset_step abort_step reply_step lost_step refusal verdict request_of check_of blank_bytes command_kind elements_from made block_head decide reads_eui live_login response_bytes start_step reply_step_of_manager decide_step fresh_id left_for enter_step back_step leave_step
good_of_dummy_reads_four w = by (one_of_three w.response w.got)
  where
    by : (w.response ≡ 4) ⊎ ((w.response ≡ 3) ⊎ (w.response ≡ 1)) → w.response ≡ 4
    by (inl e) = e
    by (inr (inl e)) = let bad : None ≡ Some w.request = subst (λ r. (terms (past_of (refused.orb_of 0xe2900000 0))).answers r ≡ Some w.request) e w.answers in absurd (cc bad)
    by (inr (inr e)) = let bad : None ≡ Some w.request = subst (λ r. (terms (past_of (refused.orb_of 0xe2900000 0))).answers r ≡ Some w.request) e w.answers in absurd (cc bad)

other_command_reads_four : (w : WasRead journals.one_disk (past_of (refused.orb_of 0x82900000 0x25000000)) 0 0 0) → w.response ≡ 4
unfolding reading fault_of tcode_of header_of offset_of rcode_of value_of length_of extended_of three four part_of is_to is_same asked_by begun_by belongs start_at lowest_from label_for free_from count_flying lowest_flying label_of with_label is_write kind_of slot_of window_at is_fifo point_step doorbell_step reset_step abort_step reply_step lost_step refusal verdict request_of check_of blank_bytes command_kind elements_from made block_head decide reads_eui live_login response_bytes start_step reply_step_of_manager decide_step fresh_id left_for enter_step back_step leave_step
other_command_reads_four w = by (one_of_three w.response w.got)
  where
    by : (w.response ≡ 4) ⊎ ((w.response ≡ 3) ⊎ (w.response ≡ 1)) → w.response ≡ 4
    by (inl e) = e
    by (inr (inl e)) = let bad : None ≡ Some w.request = subst (λ r. (terms (past_of (refused.orb_of 0x82900000 0x25000000))).answers r ≡ Some w.request) e w.answers in absurd (cc bad)
    by (inr (inr e)) = let bad : None ≡ Some w.request = subst (λ r. (terms (past_of (refused.orb_of 0x82900000 0x25000000))).answers r ≡ Some w.request) e w.answers in absurd (cc bad)

other_length_reads_four : (w : WasRead journals.one_disk (past_of (refused.orb_of 0x82900008 0)) 0 0 0) → w.response ≡ 4
unfolding reading fault_of tcode_of header_of offset_of rcode_of value_of length_of extended_of three four part_of is_to is_same asked_by begun_by belongs start_at lowest_from label_for free_from count_flying lowest_flying label_of with_label is_write kind_of slot_of window_at is_fifo point_step doorbell_step reset_step abort_step reply_step lost_step refusal verdict request_of check_of blank_bytes command_kind elements_from made block_head decide reads_eui live_login response_bytes start_step reply_step_of_manager decide_step fresh_id left_for enter_step back_step leave_step
other_length_reads_four w = by (one_of_three w.response w.got)
  where
    by : (w.response ≡ 4) ⊎ ((w.response ≡ 3) ⊎ (w.response ≡ 1)) → w.response ≡ 4
    by (inl e) = e
    by (inr (inl e)) = let bad : None ≡ Some w.request = subst (λ r. (terms (past_of (refused.orb_of 0x82900008 0))).answers r ≡ Some w.request) e w.answers in absurd (cc bad)
    by (inr (inr e)) = let bad : None ≡ Some w.request = subst (λ r. (terms (past_of (refused.orb_of 0x82900008 0))).answers r ≡ Some w.request) e w.answers in absurd (cc bad)

short_orb_reads_four : (w : WasRead journals.one_disk (past_of (quad_bytes (0x80000000 ∷ 0 ∷ 0 ∷ 0x11000000 ∷ 0x82900000 ∷ 0 ∷ []))) 0 0 0) → w.response ≡ 4
unfolding reading fault_of tcode_of header_of offset_of rcode_of value_of length_of extended_of three four part_of is_to is_same asked_by begun_by belongs start_at lowest_from label_for free_from count_flying lowest_flying label_of with_label is_write kind_of slot_of window_at is_fifo point_step doorbell_step reset_step abort_step reply_step lost_step refusal verdict request_of check_of blank_bytes command_kind elements_from made block_head decide reads_eui live_login response_bytes start_step reply_step_of_manager decide_step fresh_id left_for enter_step back_step leave_step
short_orb_reads_four w = by (one_of_three w.response w.got)
  where
    by : (w.response ≡ 4) ⊎ ((w.response ≡ 3) ⊎ (w.response ≡ 1)) → w.response ≡ 4
    by (inl e) = e
    by (inr (inl e)) = let bad : None ≡ Some w.request = subst (λ r. (terms (past_of (quad_bytes (0x80000000 ∷ 0 ∷ 0 ∷ 0x11000000 ∷ 0x82900000 ∷ 0 ∷ [])))).answers r ≡ Some w.request) e w.answers in absurd (cc bad)
    by (inr (inr e)) = let bad : None ≡ Some w.request = subst (λ r. (terms (past_of (quad_bytes (0x80000000 ∷ 0 ∷ 0 ∷ 0x11000000 ∷ 0x82900000 ∷ 0 ∷ [])))).answers r ≡ Some w.request) e w.answers in absurd (cc bad)

abbrev past_elsewhere : List Moment
past_elsewhere = drop 1 (refused.runs_read_from 0x10000040)

not_elsewhere : WasRead journals.one_disk past_elsewhere 0 0 0 → ⊥
unfolding reading fault_of tcode_of header_of offset_of rcode_of value_of length_of extended_of three four part_of is_to is_same asked_by begun_by belongs start_at lowest_from label_for free_from count_flying lowest_flying label_of with_label is_write kind_of slot_of window_at is_fifo point_step doorbell_step reset_step abort_step reply_step lost_step refusal verdict request_of check_of blank_bytes command_kind elements_from made block_head decide reads_eui live_login response_bytes start_step reply_step_of_manager decide_step fresh_id left_for enter_step back_step leave_step
not_elsewhere w = by (one_of_three w.response w.got)
  where
    asked_for : (q : ℕ) → Some 3 ≡ Some q → IsSomeAnd (access_at (terms past_elsewhere) q) (λ access. IsRead access 0x10000000 32) → ⊥
    asked_for q e asks = let same : q ≡ 3 = grind arith in let there = subst (λ q. IsSomeAnd (access_at (terms past_elsewhere) q) (λ access. IsRead access 0x10000000 32)) same asks in let bad : 0x10000040 ≡ 0x10000000 = there.from in omega (arith, bad)

    by : (w.response ≡ 4) ⊎ ((w.response ≡ 3) ⊎ (w.response ≡ 1)) → ⊥
    by (inl e) = asked_for w.request (subst (λ r. (terms past_elsewhere).answers r ≡ Some w.request) e w.answers) w.asks
    by (inr (inl e)) = let bad : None ≡ Some w.request = subst (λ r. (terms past_elsewhere).answers r ≡ Some w.request) e w.answers in cc bad
    by (inr (inr e)) = let bad : None ≡ Some w.request = subst (λ r. (terms past_elsewhere).answers r ≡ Some w.request) e w.answers in cc bad

answer_otherwise : CarriedLaw nobody journals.one_disk refused.answer_otherwise → ⊥
unfolding reading fault_of tcode_of header_of offset_of rcode_of value_of length_of extended_of three four part_of is_to is_same asked_by begun_by belongs start_at lowest_from label_for free_from count_flying lowest_flying label_of with_label is_write kind_of slot_of window_at is_fifo point_step doorbell_step reset_step abort_step reply_step lost_step refusal verdict request_of check_of blank_bytes command_kind elements_from made block_head decide reads_eui live_login response_bytes start_step reply_step_of_manager decide_step fresh_id left_for enter_step back_step leave_step
answer_otherwise = λ law. let bad : 1 ≡ 0 = ap (λ xs. slice_index xs 3) (law.carried.0 refl) in omega (arith, bad)

other_data : CarriedLaw nobody journals.one_disk refused.other_data → ⊥
unfolding reading fault_of tcode_of header_of offset_of rcode_of value_of length_of extended_of three four part_of is_to is_same asked_by begun_by belongs start_at lowest_from label_for free_from count_flying lowest_flying label_of with_label is_write kind_of slot_of window_at is_fifo point_step doorbell_step reset_step abort_step reply_step lost_step refusal verdict request_of check_of blank_bytes command_kind elements_from made block_head decide reads_eui live_login response_bytes start_step reply_step_of_manager decide_step fresh_id left_for enter_step back_step leave_step
other_data = λ law. let bad : 0xbb ≡ 0xaa = ap (λ xs. slice_index xs 0) (ap first_data law.due.0) in omega (arith, bad)

dummy_unmade : CarriedLaw nobody journals.one_disk (refused.orb_brought (refused.orb_of 0x82900000 0) (refused.ends_as_dummy 0)) → ⊥
unfolding reading fault_of tcode_of header_of offset_of rcode_of value_of length_of extended_of three four part_of is_to is_same asked_by begun_by belongs start_at lowest_from label_for free_from count_flying lowest_flying label_of with_label is_write kind_of slot_of window_at is_fifo point_step doorbell_step reset_step abort_step reply_step lost_step refusal verdict request_of check_of blank_bytes command_kind elements_from made block_head decide reads_eui live_login response_bytes start_step reply_step_of_manager decide_step fresh_id left_for enter_step back_step leave_step
dummy_unmade = λ law. let is : (law.carried.0 refl).read.response ≡ 4 = dummy_unmade_reads_four (law.carried.0 refl).read in let bad : 0 ≡ 3 = subst (λ r. (orb_read (past_of (refused.orb_of 0x82900000 0)) r).format ≡ 3) is (law.carried.0 refl).matches in omega (arith, bad)

good_of_dummy : CarriedLaw nobody journals.one_disk (refused.orb_brought (refused.orb_of 0xe2900000 0) refused.runs_ready) → ⊥
unfolding reading fault_of tcode_of header_of offset_of rcode_of value_of length_of extended_of three four part_of is_to is_same asked_by begun_by belongs start_at lowest_from label_for free_from count_flying lowest_flying label_of with_label is_write kind_of slot_of window_at is_fifo point_step doorbell_step reset_step abort_step reply_step lost_step refusal verdict request_of check_of blank_bytes command_kind elements_from made block_head decide reads_eui live_login response_bytes start_step reply_step_of_manager decide_step fresh_id left_for enter_step back_step leave_step
good_of_dummy = λ law. let is : (law.carried.0 refl).read.response ≡ 4 = good_of_dummy_reads_four (law.carried.0 refl).read in (subst (λ r. (orb_read (past_of (refused.orb_of 0xe2900000 0)) r).format ≡ 3 → ⊥) is (law.carried.0 refl).not_dummy) refl

other_command : CarriedLaw nobody journals.one_disk (refused.orb_brought (refused.orb_of 0x82900000 0x25000000) refused.runs_ready) → ⊥
unfolding reading fault_of tcode_of header_of offset_of rcode_of value_of length_of extended_of three four part_of is_to is_same asked_by begun_by belongs start_at lowest_from label_for free_from count_flying lowest_flying label_of with_label is_write kind_of slot_of window_at is_fifo point_step doorbell_step reset_step abort_step reply_step lost_step refusal verdict request_of check_of blank_bytes command_kind elements_from made block_head decide reads_eui live_login response_bytes start_step reply_step_of_manager decide_step fresh_id left_for enter_step back_step leave_step
other_command = λ law. let is : (law.carried.0 refl).read.response ≡ 4 = other_command_reads_four (law.carried.0 refl).read in let bad : 0x25 ≡ 0 = ap (λ xs. slice_index xs 0) (subst (λ r. (orb_read (past_of (refused.orb_of 0x82900000 0x25000000)) r).cdb ≡ journals.ready_block) is (law.carried.0 refl).as_appended.command) in omega (arith, bad)

other_length : CarriedLaw nobody journals.one_disk (refused.orb_brought (refused.orb_of 0x82900008 0) refused.runs_ready) → ⊥
unfolding reading fault_of tcode_of header_of offset_of rcode_of value_of length_of extended_of three four part_of is_to is_same asked_by begun_by belongs start_at lowest_from label_for free_from count_flying lowest_flying label_of with_label is_write kind_of slot_of window_at is_fifo point_step doorbell_step reset_step abort_step reply_step lost_step refusal verdict request_of check_of blank_bytes command_kind elements_from made block_head decide reads_eui live_login response_bytes start_step reply_step_of_manager decide_step fresh_id left_for enter_step back_step leave_step
other_length = λ law. let is : (law.carried.0 refl).read.response ≡ 4 = other_length_reads_four (law.carried.0 refl).read in let bad : 8 ≡ 0 = subst (λ r. bytes_of (buffer_in (orb_read (past_of (refused.orb_of 0x82900008 0)) r) (reads_since (past_of (refused.orb_of 0x82900008 0)) 0 r)) ≡ 0) is (law.carried.0 refl).size in omega (arith, bad)

short_orb : CarriedLaw nobody journals.one_disk (refused.orb_brought (quad_bytes (0x80000000 ∷ 0 ∷ 0 ∷ 0x11000000 ∷ 0x82900000 ∷ 0 ∷ [])) refused.runs_ready) → ⊥
unfolding reading fault_of tcode_of header_of offset_of rcode_of value_of length_of extended_of three four part_of is_to is_same asked_by begun_by belongs start_at lowest_from label_for free_from count_flying lowest_flying label_of with_label is_write kind_of slot_of window_at is_fifo point_step doorbell_step reset_step abort_step reply_step lost_step refusal verdict request_of check_of blank_bytes command_kind elements_from made block_head decide reads_eui live_login response_bytes start_step reply_step_of_manager decide_step fresh_id left_for enter_step back_step leave_step
short_orb = λ law. let is : (law.carried.0 refl).read.response ≡ 4 = short_orb_reads_four (law.carried.0 refl).read in let bad : 24 ≡ 32 = subst (λ r. length (payload_at (terms (past_of (quad_bytes (0x80000000 ∷ 0 ∷ 0 ∷ 0x11000000 ∷ 0x82900000 ∷ 0 ∷ [])))) r) ≡ 32) is (law.carried.0 refl).read.whole in omega (arith, bad)

read_elsewhere : CarriedLaw nobody journals.one_disk (refused.runs_read_from 0x10000040) → ⊥
unfolding reading fault_of tcode_of header_of offset_of rcode_of value_of length_of extended_of three four part_of is_to is_same asked_by begun_by belongs start_at lowest_from label_for free_from count_flying lowest_flying label_of with_label is_write kind_of slot_of window_at is_fifo point_step doorbell_step reset_step abort_step reply_step lost_step refusal verdict request_of check_of blank_bytes command_kind elements_from made block_head decide reads_eui live_login response_bytes start_step reply_step_of_manager decide_step fresh_id left_for enter_step back_step leave_step
read_elsewhere = λ law. not_elsewhere ((law.carried.0 refl).read)

other_direction_reads_four : (w : WasRead journals.one_disk (past_of (refused.orb_of 0x8a900000 0)) 0 0 0) → w.response ≡ 4
unfolding reading fault_of tcode_of header_of offset_of rcode_of value_of length_of extended_of three four part_of is_to is_same asked_by begun_by belongs start_at lowest_from label_for free_from count_flying lowest_flying label_of with_label is_write kind_of slot_of window_at is_fifo point_step doorbell_step reset_step abort_step reply_step lost_step refusal verdict request_of check_of blank_bytes command_kind elements_from made block_head decide reads_eui live_login response_bytes start_step reply_step_of_manager decide_step fresh_id left_for enter_step back_step leave_step
other_direction_reads_four w = by (one_of_three w.response w.got)
  where
    by : (w.response ≡ 4) ⊎ ((w.response ≡ 3) ⊎ (w.response ≡ 1)) → w.response ≡ 4
    by (inl e) = e
    by (inr (inl e)) = let bad : None ≡ Some w.request = subst (λ r. (terms (past_of (refused.orb_of 0x8a900000 0))).answers r ≡ Some w.request) e w.answers in absurd (cc bad)
    by (inr (inr e)) = let bad : None ≡ Some w.request = subst (λ r. (terms (past_of (refused.orb_of 0x8a900000 0))).answers r ≡ Some w.request) e w.answers in absurd (cc bad)

abbrev past_early : List Moment
past_early = drop 1 refused.read_too_early

not_too_early : WasRead journals.one_disk past_early 0 0 0 → ⊥
unfolding reading fault_of tcode_of header_of offset_of rcode_of value_of length_of extended_of three four part_of is_to is_same asked_by begun_by belongs start_at lowest_from label_for free_from count_flying lowest_flying label_of with_label is_write kind_of slot_of window_at is_fifo point_step doorbell_step reset_step abort_step reply_step lost_step refusal verdict request_of check_of blank_bytes command_kind elements_from made block_head decide reads_eui live_login response_bytes start_step reply_step_of_manager decide_step fresh_id left_for enter_step back_step leave_step
not_too_early w = by (one_of_three w.response w.got)
  where
    asked_for : (q : ℕ) → Some 3 ≡ Some q → 0 < appends (before_sent past_early q) 0 0 → ⊥
    asked_for q e below = let same : q ≡ 3 = grind arith in let bad : 0 < 0 = subst (λ q. 0 < appends (before_sent past_early q) 0 0) same below in omega (arith, bad)

    by : (w.response ≡ 4) ⊎ ((w.response ≡ 3) ⊎ (w.response ≡ 1)) → ⊥
    by (inl e) = asked_for w.request (subst (λ r. (terms past_early).answers r ≡ Some w.request) e w.answers) w.appended
    by (inr (inl e)) = let bad : None ≡ Some w.request = subst (λ r. (terms past_early).answers r ≡ Some w.request) e w.answers in cc bad
    by (inr (inr e)) = let bad : None ≡ Some w.request = subst (λ r. (terms past_early).answers r ≡ Some w.request) e w.answers in cc bad

abbrev past_unnamed : List Moment
past_unnamed = drop 1 refused.read_unnamed

not_unnamed : WasRead journals.one_disk past_unnamed 0 0 0 → ⊥
unfolding reading fault_of tcode_of header_of offset_of rcode_of value_of length_of extended_of three four part_of is_to is_same asked_by begun_by belongs start_at lowest_from label_for free_from count_flying lowest_flying label_of with_label is_write kind_of slot_of window_at is_fifo point_step doorbell_step reset_step abort_step reply_step lost_step refusal verdict request_of check_of blank_bytes command_kind elements_from made block_head decide reads_eui live_login response_bytes start_step reply_step_of_manager decide_step fresh_id left_for enter_step back_step leave_step
not_unnamed w = by (one_of_three w.response w.got)
  where
    asked_for : (q : ℕ) → Some 3 ≡ Some q → open_list journals.one_disk (before_sent past_unnamed q) 0 ≡ Some 0 → ⊥
    asked_for q e opened = let same : q ≡ 3 = grind arith in let bad : None ≡ Some 0 = subst (λ q. open_list journals.one_disk (before_sent past_unnamed q) 0 ≡ Some 0) same opened in cc bad

    by : (w.response ≡ 4) ⊎ ((w.response ≡ 3) ⊎ (w.response ≡ 1)) → ⊥
    by (inl e) = asked_for w.request (subst (λ r. (terms past_unnamed).answers r ≡ Some w.request) e w.answers) w.opened
    by (inr (inl e)) = let bad : None ≡ Some w.request = subst (λ r. (terms past_unnamed).answers r ≡ Some w.request) e w.answers in cc bad
    by (inr (inr e)) = let bad : None ≡ Some w.request = subst (λ r. (terms past_unnamed).answers r ≡ Some w.request) e w.answers in cc bad

other_direction : CarriedLaw nobody journals.one_disk (refused.orb_brought (refused.orb_of 0x8a900000 0) refused.runs_ready) → ⊥
unfolding reading fault_of tcode_of header_of offset_of rcode_of value_of length_of extended_of three four part_of is_to is_same asked_by begun_by belongs start_at lowest_from label_for free_from count_flying lowest_flying label_of with_label is_write kind_of slot_of window_at is_fifo point_step doorbell_step reset_step abort_step reply_step lost_step refusal verdict request_of check_of blank_bytes command_kind elements_from made block_head decide reads_eui live_login response_bytes start_step reply_step_of_manager decide_step fresh_id left_for enter_step back_step leave_step
other_direction = λ law. let is : (law.carried.0 refl).read.response ≡ 4 = other_direction_reads_four (law.carried.0 refl).read in let bad : true ≡ false = subst (λ r. (orb_read (past_of (refused.orb_of 0x8a900000 0)) r).to_initiator ≡ false) is (law.carried.0 refl).as_appended.direction in cc bad

read_too_early : CarriedLaw nobody journals.one_disk refused.read_too_early → ⊥
unfolding reading fault_of tcode_of header_of offset_of rcode_of value_of length_of extended_of three four part_of is_to is_same asked_by begun_by belongs start_at lowest_from label_for free_from count_flying lowest_flying label_of with_label is_write kind_of slot_of window_at is_fifo point_step doorbell_step reset_step abort_step reply_step lost_step refusal verdict request_of check_of blank_bytes command_kind elements_from made block_head decide reads_eui live_login response_bytes start_step reply_step_of_manager decide_step fresh_id left_for enter_step back_step leave_step
read_too_early = λ law. not_too_early ((law.carried.0 refl).read)

read_unnamed : CarriedLaw nobody journals.one_disk refused.read_unnamed → ⊥
unfolding reading fault_of tcode_of header_of offset_of rcode_of value_of length_of extended_of three four part_of is_to is_same asked_by begun_by belongs start_at lowest_from label_for free_from count_flying lowest_flying label_of with_label is_write kind_of slot_of window_at is_fifo point_step doorbell_step reset_step abort_step reply_step lost_step refusal verdict request_of check_of blank_bytes command_kind elements_from made block_head decide reads_eui live_login response_bytes start_step reply_step_of_manager decide_step fresh_id left_for enter_step back_step leave_step
read_unnamed = λ law. not_unnamed ((law.carried.0 refl).read)

read_named : WasRead journals.one_disk (drop 1 refused.read_named) 0 0 0
unfolding reading fault_of tcode_of header_of offset_of rcode_of value_of length_of extended_of three four part_of is_to is_same asked_by begun_by belongs start_at lowest_from label_for free_from count_flying lowest_flying label_of with_label is_write kind_of slot_of window_at is_fifo point_step doorbell_step reset_step abort_step reply_step lost_step refusal verdict request_of check_of blank_bytes command_kind elements_from made block_head decide reads_eui live_login response_bytes start_step reply_step_of_manager decide_step fresh_id left_for enter_step back_step leave_step
read_named = record { response = 4; request = 3; got = refl; whole = refl; answers = refl; of_target = refl; of_initiator = refl; asks = record { read = refl; block = refl; from = refl; size = refl }; appended = first_of_one; opened = refl }

pub tried : CarriedTried
tried = record { accepts = accepts; answer_uncarried = answer_uncarried; run_unread = run_unread; run_left_out = run_left_out; goes_on_with_own = goes_on_with_own; goes_on_with_anothers = goes_on_with_anothers; answer_otherwise = answer_otherwise; other_data = other_data; dummy_unmade = dummy_unmade; good_of_dummy = good_of_dummy; other_command = other_command; other_length = other_length; short_orb = short_orb; read_elsewhere = read_elsewhere; other_direction = other_direction; read_too_early = read_too_early; read_unnamed = read_unnamed; read_named = read_named }
