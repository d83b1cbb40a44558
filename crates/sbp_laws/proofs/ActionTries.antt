-- The journals that the action law was tried on.
use Rattle.std.proofs.Common.{◌≡◌, ℕ, ◌≤◌, ◌⊎◌, List, [], ◌∷◌, ◌++◌, refl, ap, sym, subst, inl, inr, arith}
use Rattle.sbp_journal.specs.declared.note.Note.{Note}
use Rattle.sbp_journal.specs.declared.note.Note.TheVariants as notes
use Rattle.sbp_laws.specs.Journals as journals
use Rattle.sbp_laws.specs.Tried.{ActionTried}
use Rattle.sbp_laws.specs.ActionLaw.{ActionLaw}
use Rattle.sbp_laws.specs.Deliveries.{Settles, EndsSettle, NoneFlies}
use Rattle.sbp_laws.specs.Budget.{settle_deliveries}
use Rattle.sbp_journal.specs.Run.{Moment}
use Rattle.async_packet.specs.Reading.{reading}
use Rattle.async_packet.specs.Faults.{fault_of}
use Rattle.async_packet.specs.Fields.{tcode_of, header_of, offset_of, rcode_of, value_of, length_of, extended_of}
use Rattle.async_packet.specs.Canon.{three, four}
use Rattle.sbp_journal.specs.Transactions.{part_of, is_to, is_same, asked_by, begun_by, belongs}
use Rattle.sbp_journal.specs.Addresses.{start_at}
use Rattle.sbp_laws.specs.Packets.{lowest_from, label_for, free_from}
use Rattle.sbp_laws.specs.Budget.{count_flying, lowest_flying}
use Rattle.label_table.specs.Requests.{label_of, with_label, is_write, kind_of}
use Rattle.bus_memory.specs.Windows.{slot_of, window_at, is_fifo}
use Rattle.command_agent.specs.Steps.{point_step, doorbell_step, reset_step, abort_step, reply_step, lost_step}
use Rattle.command_agent.specs.Checks.{refusal, verdict}
use Rattle.rbc_disk.specs.Requests.{request_of}
use Rattle.rbc_disk.specs.Checks.{check_of}
use Rattle.rbc_disk.specs.Disk.{blank_bytes}
use Rattle.orb_layout.specs.StatusBlocks.{command_kind}
use Rattle.page_table.specs.Elements.{elements_from}
use Rattle.config_rom.specs.Make.{made}
use Rattle.media_bay.specs.Unsolicited.{block_head}
use Rattle.mgmt_agent.specs.Decisions.{decide, reads_eui, live_login, response_bytes}
use Rattle.mgmt_agent.specs.Machine.{start_step, reply_step as reply_step_of_manager, decide_step}
use Rattle.login_table.specs.Table.{fresh_id, left_for, enter_step, back_step, leave_step}
use Rattle.sbp_laws.specs.Refused as refused
use Rattle.orb_layout.specs.declared.status.StatusKind.TheVariants as kinds
use Rattle.sbp_journal.specs.declared.cause.CutCause.TheVariants as cuts
use Rattle.sbp_journal.specs.declared.event.Event.TheVariants as events
use Rattle.sbp_journal.specs.declared.event.Action.TheVariants as actions
use Rattle.std.specs.Prelude.{Some, None, slice_index, replicate, true, false}
use Rattle.sbp_journal.specs.declared.note.NoteBuffer.TheVariants.{Nothing}

one_of_one : 1 ≤ 1
one_of_one = omega arith

six_of_many : 6 ≤ 620
six_of_many = omega arith

none_of_many : 0 ≤ 600
none_of_many = omega arith

neither : {A B : Type 0} → (A → ⊥) → (B → ⊥) → A ⊎ B → ⊥
neither f g (inl a) = f a
neither f g (inr b) = g b

-- a settle that ends settled at once has nothing in flight
module _ (past : List Moment) (most : ℕ) where
  early_by : (before : List Note) (last : Note) → notes.Settled ∷ [] ≡ before ++ last ∷ [] → EndsSettle past most before last → NoneFlies past
  early_by [] last is ends = let same : notes.Settled ≡ last = cc is in subst (λ n. EndsSettle past most [] n) (sym same) ends
  early_by (x ∷ []) last is ends = absurd (cc is)
  early_by (x ∷ y ∷ before) last is ends = absurd (cc is)

at_once : (past : List Moment) → Settles past (notes.Settled ∷ []) → NoneFlies past
at_once past s = early_by past (settle_deliveries past) s.before s.last s.is s.ends

-- a settle that stops at once has no deliveries to spend
stopped_by : (past : List Moment) (most : ℕ) (before : List Note) (last : Note) → notes.Stopped ∷ [] ≡ before ++ last ∷ [] → EndsSettle past most before last → 0 ≡ most
stopped_by past most [] last is ends = let same : notes.Stopped ≡ last = cc is in (subst (λ n. EndsSettle past most [] n) (sym same) ends).0
stopped_by past most (x ∷ []) last is ends = absurd (cc is)
stopped_by past most (x ∷ y ∷ before) last is ends = absurd (cc is)

stopped_at_once : (past : List Moment) → Settles past (notes.Stopped ∷ []) → 0 ≡ settle_deliveries past
stopped_at_once past s = stopped_by past (settle_deliveries past) s.before s.last s.is s.ends

-- the number of the first refusal
abbrev number_told : List Note → ℕ
number_told (notes.Refused line number ∷ rest) = number
number_told _ = 0

accepts : ActionLaw journals.one_disk journals.whole_entries
unfolding reading fault_of tcode_of header_of offset_of rcode_of value_of length_of extended_of three four part_of is_to is_same asked_by begun_by belongs start_at lowest_from label_for free_from count_flying lowest_flying label_of with_label is_write kind_of slot_of window_at is_fifo point_step doorbell_step reset_step abort_step reply_step lost_step refusal verdict request_of check_of blank_bytes command_kind elements_from made block_head decide reads_eui live_login response_bytes start_step reply_step_of_manager decide_step fresh_id left_for enter_step back_step leave_step
accepts = record { brings = (record { before = journals.settle_notes; last = notes.Settled; is = refl; delivers = record { begins = tt; lowest = (refl, (refl, (refl, (refl, (refl, (refl, (refl, (refl, (refl, (refl, (refl, (refl, (refl, (refl, tt)))))))))))))); few = six_of_many; all = inr refl }; ends = refl }, (record { effects = refl; first = refl }, (refl, tt))); ordered = (record { effects = refl; first = refl }, (record { effects = refl; first = refl }, (record { effects = refl; first = refl }, (record { effects = refl; first = refl }, (record { effects = refl; first = refl }, (record { effects = refl; first = refl }, (record { effects = refl; first = refl }, (tt, (tt, (tt, tt)))))))))) }

steps_once : ActionLaw journals.one_disk journals.steps_once
unfolding reading fault_of tcode_of header_of offset_of rcode_of value_of length_of extended_of three four part_of is_to is_same asked_by begun_by belongs start_at lowest_from label_for free_from count_flying lowest_flying label_of with_label is_write kind_of slot_of window_at is_fifo point_step doorbell_step reset_step abort_step reply_step lost_step refusal verdict request_of check_of blank_bytes command_kind elements_from made block_head decide reads_eui live_login response_bytes start_step reply_step_of_manager decide_step fresh_id left_for enter_step back_step leave_step
steps_once = record { brings = (record { begins = tt; lowest = (refl, (refl, (refl, tt))); few = one_of_one; all = inl refl }, (record { effects = refl; first = refl }, (refl, tt))); ordered = (record { effects = refl; first = refl }, (tt, (tt, (tt, tt)))) }

settles_at_rest : ActionLaw journals.one_disk journals.settles_at_rest
unfolding reading fault_of tcode_of header_of offset_of rcode_of value_of length_of extended_of three four part_of is_to is_same asked_by begun_by belongs start_at lowest_from label_for free_from count_flying lowest_flying label_of with_label is_write kind_of slot_of window_at is_fifo point_step doorbell_step reset_step abort_step reply_step lost_step refusal verdict request_of check_of blank_bytes command_kind elements_from made block_head decide reads_eui live_login response_bytes start_step reply_step_of_manager decide_step fresh_id left_for enter_step back_step leave_step
settles_at_rest = record { brings = (record { before = []; last = notes.Settled; is = refl; delivers = record { begins = tt; lowest = tt; few = none_of_many; all = inr refl }; ends = refl }, (refl, tt)); ordered = (record { effects = refl; first = refl }, (tt, (tt, tt))) }

refuses_login : ActionLaw journals.one_disk (journals.refuses_login 2)
unfolding reading fault_of tcode_of header_of offset_of rcode_of value_of length_of extended_of three four part_of is_to is_same asked_by begun_by belongs start_at lowest_from label_for free_from count_flying lowest_flying label_of with_label is_write kind_of slot_of window_at is_fifo point_step doorbell_step reset_step abort_step reply_step lost_step refusal verdict request_of check_of blank_bytes command_kind elements_from made block_head decide reads_eui live_login response_bytes start_step reply_step_of_manager decide_step fresh_id left_for enter_step back_step leave_step
refuses_login = record { brings = (refl, (refl, tt)); ordered = (tt, (tt, tt)) }

steps_not : ActionLaw journals.one_disk journals.steps_not → ⊥
unfolding reading fault_of tcode_of header_of offset_of rcode_of value_of length_of extended_of three four part_of is_to is_same asked_by begun_by belongs start_at lowest_from label_for free_from count_flying lowest_flying label_of with_label is_write kind_of slot_of window_at is_fifo point_step doorbell_step reset_step abort_step reply_step lost_step refusal verdict request_of check_of blank_bytes command_kind elements_from made block_head decide reads_eui live_login response_bytes start_step reply_step_of_manager decide_step fresh_id left_for enter_step back_step leave_step
steps_not = λ law. neither (λ e. let bad : 0 ≡ 1 = e in omega (arith, bad)) (λ e. cc e) law.brings.0.all

injects : ActionLaw journals.one_disk (journals.injects journals.first_id journals.injected_notes)
unfolding reading fault_of tcode_of header_of offset_of rcode_of value_of length_of extended_of three four part_of is_to is_same asked_by begun_by belongs start_at lowest_from label_for free_from count_flying lowest_flying label_of with_label is_write kind_of slot_of window_at is_fifo point_step doorbell_step reset_step abort_step reply_step lost_step refusal verdict request_of check_of blank_bytes command_kind elements_from made block_head decide reads_eui live_login response_bytes start_step reply_step_of_manager decide_step fresh_id left_for enter_step back_step leave_step
injects = record { brings = (refl, (refl, tt)); ordered = (tt, (tt, tt)) }

other_source : ActionLaw journals.one_disk (journals.injects journals.second_id (notes.Refused 2 12 ∷ []))
unfolding reading fault_of tcode_of header_of offset_of rcode_of value_of length_of extended_of three four part_of is_to is_same asked_by begun_by belongs start_at lowest_from label_for free_from count_flying lowest_flying label_of with_label is_write kind_of slot_of window_at is_fifo point_step doorbell_step reset_step abort_step reply_step lost_step refusal verdict request_of check_of blank_bytes command_kind elements_from made block_head decide reads_eui live_login response_bytes start_step reply_step_of_manager decide_step fresh_id left_for enter_step back_step leave_step
other_source = record { brings = (refl, (refl, tt)); ordered = (tt, (tt, tt)) }

sets_key : ActionLaw journals.one_disk (journals.sets_key 0 (notes.Key 0 ∷ []))
unfolding reading fault_of tcode_of header_of offset_of rcode_of value_of length_of extended_of three four part_of is_to is_same asked_by begun_by belongs start_at lowest_from label_for free_from count_flying lowest_flying label_of with_label is_write kind_of slot_of window_at is_fifo point_step doorbell_step reset_step abort_step reply_step lost_step refusal verdict request_of check_of blank_bytes command_kind elements_from made block_head decide reads_eui live_login response_bytes start_step reply_step_of_manager decide_step fresh_id left_for enter_step back_step leave_step
sets_key = record { brings = (refl, (refl, tt)); ordered = (tt, (tt, tt)) }

no_unit : ActionLaw journals.one_disk (journals.sets_key 1 (notes.Refused 2 13 ∷ []))
unfolding reading fault_of tcode_of header_of offset_of rcode_of value_of length_of extended_of three four part_of is_to is_same asked_by begun_by belongs start_at lowest_from label_for free_from count_flying lowest_flying label_of with_label is_write kind_of slot_of window_at is_fifo point_step doorbell_step reset_step abort_step reply_step lost_step refusal verdict request_of check_of blank_bytes command_kind elements_from made block_head decide reads_eui live_login response_bytes start_step reply_step_of_manager decide_step fresh_id left_for enter_step back_step leave_step
no_unit = record { brings = (refl, (refl, tt)); ordered = (tt, (tt, tt)) }

inject_refused : ActionLaw journals.one_disk (journals.injects journals.first_id (notes.Refused 2 12 ∷ [])) → ⊥
unfolding reading fault_of tcode_of header_of offset_of rcode_of value_of length_of extended_of three four part_of is_to is_same asked_by begun_by belongs start_at lowest_from label_for free_from count_flying lowest_flying label_of with_label is_write kind_of slot_of window_at is_fifo point_step doorbell_step reset_step abort_step reply_step lost_step refusal verdict request_of check_of blank_bytes command_kind elements_from made block_head decide reads_eui live_login response_bytes start_step reply_step_of_manager decide_step fresh_id left_for enter_step back_step leave_step
inject_refused = λ law. let bad = law.brings.0 in cc bad

stops_early : ActionLaw journals.one_disk journals.stops_early → ⊥
unfolding reading fault_of tcode_of header_of offset_of rcode_of value_of length_of extended_of three four part_of is_to is_same asked_by begun_by belongs start_at lowest_from label_for free_from count_flying lowest_flying label_of with_label is_write kind_of slot_of window_at is_fifo point_step doorbell_step reset_step abort_step reply_step lost_step refusal verdict request_of check_of blank_bytes command_kind elements_from made block_head decide reads_eui live_login response_bytes start_step reply_step_of_manager decide_step fresh_id left_for enter_step back_step leave_step
stops_early = λ law. let bad : 0 ≡ 620 = stopped_at_once _ law.brings.0 in omega (arith, bad)

settles_early : ActionLaw journals.one_disk journals.settles_early → ⊥
unfolding reading fault_of tcode_of header_of offset_of rcode_of value_of length_of extended_of three four part_of is_to is_same asked_by begun_by belongs start_at lowest_from label_for free_from count_flying lowest_flying label_of with_label is_write kind_of slot_of window_at is_fifo point_step doorbell_step reset_step abort_step reply_step lost_step refusal verdict request_of check_of blank_bytes command_kind elements_from made block_head decide reads_eui live_login response_bytes start_step reply_step_of_manager decide_step fresh_id left_for enter_step back_step leave_step
settles_early = λ law. let bad = at_once _ law.brings.0 in cc bad

refuses_append : ActionLaw journals.one_disk journals.refuses_append → ⊥
unfolding reading fault_of tcode_of header_of offset_of rcode_of value_of length_of extended_of three four part_of is_to is_same asked_by begun_by belongs start_at lowest_from label_for free_from count_flying lowest_flying label_of with_label is_write kind_of slot_of window_at is_fifo point_step doorbell_step reset_step abort_step reply_step lost_step refusal verdict request_of check_of blank_bytes command_kind elements_from made block_head decide reads_eui live_login response_bytes start_step reply_step_of_manager decide_step fresh_id left_for enter_step back_step leave_step
refuses_append = λ law. let bad = law.brings.0.effects in cc bad

other_number : ActionLaw journals.one_disk (journals.refuses_login 3) → ⊥
unfolding reading fault_of tcode_of header_of offset_of rcode_of value_of length_of extended_of three four part_of is_to is_same asked_by begun_by belongs start_at lowest_from label_for free_from count_flying lowest_flying label_of with_label is_write kind_of slot_of window_at is_fifo point_step doorbell_step reset_step abort_step reply_step lost_step refusal verdict request_of check_of blank_bytes command_kind elements_from made block_head decide reads_eui live_login response_bytes start_step reply_step_of_manager decide_step fresh_id left_for enter_step back_step leave_step
other_number = λ law. let bad : 3 ≡ 2 = ap number_told law.brings.0 in omega (arith, bad)

-- the command block, the generation, and the generation seen, of the first note
abbrev cdb_of_first : List Note → List ℕ
cdb_of_first (notes.Append i n k cdb buffer ∷ rest) = cdb
cdb_of_first rest = []

abbrev reset_told : List Note → ℕ
reset_told (notes.Reset generation ∷ rest) = generation
reset_told rest = 0

abbrev seen_told : Note → ℕ
seen_told (notes.Seen node generation) = generation
seen_told note = 0

none_last : (before : List Note) (last : Note) → [] ≡ before ++ last ∷ [] → ⊥
none_last [] last e = cc e
none_last (first ∷ before) last e = cc e

begins_otherwise : ActionLaw journals.one_disk (journals.entry 1 (events.Begin 1 true) (notes.Begin 1 false ∷ []) ∷ []) → ⊥
unfolding reading fault_of tcode_of header_of offset_of rcode_of value_of length_of extended_of three four part_of is_to is_same asked_by begun_by belongs start_at lowest_from label_for free_from count_flying lowest_flying label_of with_label is_write kind_of slot_of window_at is_fifo point_step doorbell_step reset_step abort_step reply_step lost_step refusal verdict request_of check_of blank_bytes command_kind elements_from made block_head decide reads_eui live_login response_bytes start_step reply_step_of_manager decide_step fresh_id left_for enter_step back_step leave_step
begins_otherwise = λ law. let bad = law.brings.0 in cc bad

refuses_and_more : ActionLaw journals.one_disk (refused.one_entry (events.Act 0 (actions.Login 0 0 false (replicate 8 0))) (notes.Refused 2 2 ∷ notes.Stuck 0 ∷ [])) → ⊥
unfolding reading fault_of tcode_of header_of offset_of rcode_of value_of length_of extended_of three four part_of is_to is_same asked_by begun_by belongs start_at lowest_from label_for free_from count_flying lowest_flying label_of with_label is_write kind_of slot_of window_at is_fifo point_step doorbell_step reset_step abort_step reply_step lost_step refusal verdict request_of check_of blank_bytes command_kind elements_from made block_head decide reads_eui live_login response_bytes start_step reply_step_of_manager decide_step fresh_id left_for enter_step back_step leave_step
refuses_and_more = λ law. let bad = law.brings.0 in cc bad

rung_left_out : ActionLaw journals.one_disk (refused.one_entry refused.appends_with (notes.Append 0 0 0 journals.ready_block Nothing ∷ notes.Sent 1 0 1 0 journals.pointer_packet ∷ [])) → ⊥
unfolding reading fault_of tcode_of header_of offset_of rcode_of value_of length_of extended_of three four part_of is_to is_same asked_by begun_by belongs start_at lowest_from label_for free_from count_flying lowest_flying label_of with_label is_write kind_of slot_of window_at is_fifo point_step doorbell_step reset_step abort_step reply_step lost_step refusal verdict request_of check_of blank_bytes command_kind elements_from made block_head decide reads_eui live_login response_bytes start_step reply_step_of_manager decide_step fresh_id left_for enter_step back_step leave_step
rung_left_out = λ law. let bad = law.brings.0.effects in cc bad

appends_otherwise : ActionLaw journals.one_disk (refused.one_entry refused.appends_with (notes.Append 0 0 0 journals.capacity_block Nothing ∷ notes.Rung 0 0 0 ∷ notes.Sent 1 0 1 0 journals.pointer_packet ∷ [])) → ⊥
unfolding reading fault_of tcode_of header_of offset_of rcode_of value_of length_of extended_of three four part_of is_to is_same asked_by begun_by belongs start_at lowest_from label_for free_from count_flying lowest_flying label_of with_label is_write kind_of slot_of window_at is_fifo point_step doorbell_step reset_step abort_step reply_step lost_step refusal verdict request_of check_of blank_bytes command_kind elements_from made block_head decide reads_eui live_login response_bytes start_step reply_step_of_manager decide_step fresh_id left_for enter_step back_step leave_step
appends_otherwise = λ law. let bad : 0x25 ≡ 0 = ap (λ xs. slice_index xs 0) (ap cdb_of_first law.brings.0.effects) in omega (arith, bad)

delivers_another : ActionLaw journals.one_disk (refused.third_entry (events.Deliver 1) (notes.Got 2 ∷ [])) → ⊥
unfolding reading fault_of tcode_of header_of offset_of rcode_of value_of length_of extended_of three four part_of is_to is_same asked_by begun_by belongs start_at lowest_from label_for free_from count_flying lowest_flying label_of with_label is_write kind_of slot_of window_at is_fifo point_step doorbell_step reset_step abort_step reply_step lost_step refusal verdict request_of check_of blank_bytes command_kind elements_from made block_head decide reads_eui live_login response_bytes start_step reply_step_of_manager decide_step fresh_id left_for enter_step back_step leave_step
delivers_another = λ law. let bad : Some 2 ≡ Some 1 = law.brings.0.0 in grind (arith, bad)

delivers_nothing_sent : ActionLaw journals.one_disk (refused.third_entry (events.Deliver 2) (notes.Got 2 ∷ [])) → ⊥
unfolding reading fault_of tcode_of header_of offset_of rcode_of value_of length_of extended_of three four part_of is_to is_same asked_by begun_by belongs start_at lowest_from label_for free_from count_flying lowest_flying label_of with_label is_write kind_of slot_of window_at is_fifo point_step doorbell_step reset_step abort_step reply_step lost_step refusal verdict request_of check_of blank_bytes command_kind elements_from made block_head decide reads_eui live_login response_bytes start_step reply_step_of_manager decide_step fresh_id left_for enter_step back_step leave_step
delivers_nothing_sent = λ law. let bad = law.brings.0 in cc bad

refuses_delivery : ActionLaw journals.one_disk (refused.third_entry (events.Deliver 1) (notes.Refused 3 11 ∷ [])) → ⊥
unfolding reading fault_of tcode_of header_of offset_of rcode_of value_of length_of extended_of three four part_of is_to is_same asked_by begun_by belongs start_at lowest_from label_for free_from count_flying lowest_flying label_of with_label is_write kind_of slot_of window_at is_fifo point_step doorbell_step reset_step abort_step reply_step lost_step refusal verdict request_of check_of blank_bytes command_kind elements_from made block_head decide reads_eui live_login response_bytes start_step reply_step_of_manager decide_step fresh_id left_for enter_step back_step leave_step
refuses_delivery = λ law. let bad = law.brings.0.0 in cc bad

repeats_nothing_sent : ActionLaw journals.one_disk (refused.third_entry (events.Repeat 2) (notes.Got 2 ∷ [])) → ⊥
unfolding reading fault_of tcode_of header_of offset_of rcode_of value_of length_of extended_of three four part_of is_to is_same asked_by begun_by belongs start_at lowest_from label_for free_from count_flying lowest_flying label_of with_label is_write kind_of slot_of window_at is_fifo point_step doorbell_step reset_step abort_step reply_step lost_step refusal verdict request_of check_of blank_bytes command_kind elements_from made block_head decide reads_eui live_login response_bytes start_step reply_step_of_manager decide_step fresh_id left_for enter_step back_step leave_step
repeats_nothing_sent = λ law. let bad = law.brings.0 in cc bad

loses_not : ActionLaw journals.one_disk (refused.third_entry (events.Lose 1) []) → ⊥
unfolding reading fault_of tcode_of header_of offset_of rcode_of value_of length_of extended_of three four part_of is_to is_same asked_by begun_by belongs start_at lowest_from label_for free_from count_flying lowest_flying label_of with_label is_write kind_of slot_of window_at is_fifo point_step doorbell_step reset_step abort_step reply_step lost_step refusal verdict request_of check_of blank_bytes command_kind elements_from made block_head decide reads_eui live_login response_bytes start_step reply_step_of_manager decide_step fresh_id left_for enter_step back_step leave_step
loses_not = λ law. let bad = law.brings.0 in cc bad

refuses_time_out : ActionLaw journals.one_disk (refused.third_entry (events.Timeout 1) (notes.Refused 3 11 ∷ [])) → ⊥
unfolding reading fault_of tcode_of header_of offset_of rcode_of value_of length_of extended_of three four part_of is_to is_same asked_by begun_by belongs start_at lowest_from label_for free_from count_flying lowest_flying label_of with_label is_write kind_of slot_of window_at is_fifo point_step doorbell_step reset_step abort_step reply_step lost_step refusal verdict request_of check_of blank_bytes command_kind elements_from made block_head decide reads_eui live_login response_bytes start_step reply_step_of_manager decide_step fresh_id left_for enter_step back_step leave_step
refuses_time_out = λ law. let bad = law.brings.0.0 in cc bad

times_out_unasked : ActionLaw journals.one_disk (refused.third_entry (events.Timeout 2) (notes.TimedOut 2 ∷ [])) → ⊥
unfolding reading fault_of tcode_of header_of offset_of rcode_of value_of length_of extended_of three four part_of is_to is_same asked_by begun_by belongs start_at lowest_from label_for free_from count_flying lowest_flying label_of with_label is_write kind_of slot_of window_at is_fifo point_step doorbell_step reset_step abort_step reply_step lost_step refusal verdict request_of check_of blank_bytes command_kind elements_from made block_head decide reads_eui live_login response_bytes start_step reply_step_of_manager decide_step fresh_id left_for enter_step back_step leave_step
times_out_unasked = λ law. let bad = law.brings.0 in cc bad

steps_twice : ActionLaw journals.one_disk (refused.third_entry (events.Step 1) (notes.Got 1 ∷ refused.answers_first ++ notes.Got 2 ∷ [])) → ⊥
unfolding reading fault_of tcode_of header_of offset_of rcode_of value_of length_of extended_of three four part_of is_to is_same asked_by begun_by belongs start_at lowest_from label_for free_from count_flying lowest_flying label_of with_label is_write kind_of slot_of window_at is_fifo point_step doorbell_step reset_step abort_step reply_step lost_step refusal verdict request_of check_of blank_bytes command_kind elements_from made block_head decide reads_eui live_login response_bytes start_step reply_step_of_manager decide_step fresh_id left_for enter_step back_step leave_step
steps_twice = λ law. let bad : 2 ≤ 1 = law.brings.0.few in omega (arith, bad)

steps_higher : ActionLaw journals.one_disk (journals.entry 4 (events.Step 1) (notes.Got 3 ∷ []) ∷ journals.steps_once) → ⊥
unfolding reading fault_of tcode_of header_of offset_of rcode_of value_of length_of extended_of three four part_of is_to is_same asked_by begun_by belongs start_at lowest_from label_for free_from count_flying lowest_flying label_of with_label is_write kind_of slot_of window_at is_fifo point_step doorbell_step reset_step abort_step reply_step lost_step refusal verdict request_of check_of blank_bytes command_kind elements_from made block_head decide reads_eui live_login response_bytes start_step reply_step_of_manager decide_step fresh_id left_for enter_step back_step leave_step
steps_higher = λ law. let bad : Some 2 ≡ Some 3 = law.brings.0.lowest.0 in grind (arith, bad)

settles_untold : ActionLaw journals.one_disk (refused.one_entry events.Settle []) → ⊥
unfolding reading fault_of tcode_of header_of offset_of rcode_of value_of length_of extended_of three four part_of is_to is_same asked_by begun_by belongs start_at lowest_from label_for free_from count_flying lowest_flying label_of with_label is_write kind_of slot_of window_at is_fifo point_step doorbell_step reset_step abort_step reply_step lost_step refusal verdict request_of check_of blank_bytes command_kind elements_from made block_head decide reads_eui live_login response_bytes start_step reply_step_of_manager decide_step fresh_id left_for enter_step back_step leave_step
settles_untold = λ law. none_last law.brings.0.before law.brings.0.last law.brings.0.is

resets_twice : ActionLaw journals.one_disk (refused.one_entry (events.Reset (1 ∷ 0 ∷ [])) (notes.Reset 2 ∷ [])) → ⊥
unfolding reading fault_of tcode_of header_of offset_of rcode_of value_of length_of extended_of three four part_of is_to is_same asked_by begun_by belongs start_at lowest_from label_for free_from count_flying lowest_flying label_of with_label is_write kind_of slot_of window_at is_fifo point_step doorbell_step reset_step abort_step reply_step lost_step refusal verdict request_of check_of blank_bytes command_kind elements_from made block_head decide reads_eui live_login response_bytes start_step reply_step_of_manager decide_step fresh_id left_for enter_step back_step leave_step
resets_twice = λ law. let bad : 2 ≡ 1 = ap reset_told law.brings.0 in omega (arith, bad)

sees_unborn : ActionLaw journals.one_disk (refused.one_entry (events.See 0) (notes.Seen 0 1 ∷ [])) → ⊥
unfolding reading fault_of tcode_of header_of offset_of rcode_of value_of length_of extended_of three four part_of is_to is_same asked_by begun_by belongs start_at lowest_from label_for free_from count_flying lowest_flying label_of with_label is_write kind_of slot_of window_at is_fifo point_step doorbell_step reset_step abort_step reply_step lost_step refusal verdict request_of check_of blank_bytes command_kind elements_from made block_head decide reads_eui live_login response_bytes start_step reply_step_of_manager decide_step fresh_id left_for enter_step back_step leave_step
sees_unborn = λ law. let bad : 1 ≡ 0 = ap seen_told law.brings.0.0 in omega (arith, bad)

tick_left_out : ActionLaw journals.one_disk (refused.one_entry events.Tick []) → ⊥
unfolding reading fault_of tcode_of header_of offset_of rcode_of value_of length_of extended_of three four part_of is_to is_same asked_by begun_by belongs start_at lowest_from label_for free_from count_flying lowest_flying label_of with_label is_write kind_of slot_of window_at is_fifo point_step doorbell_step reset_step abort_step reply_step lost_step refusal verdict request_of check_of blank_bytes command_kind elements_from made block_head decide reads_eui live_login response_bytes start_step reply_step_of_manager decide_step fresh_id left_for enter_step back_step leave_step
tick_left_out = λ law. law.brings.0

injected_unsent : ActionLaw journals.one_disk (journals.injects journals.first_id (notes.Injected 1 ∷ [])) → ⊥
unfolding reading fault_of tcode_of header_of offset_of rcode_of value_of length_of extended_of three four part_of is_to is_same asked_by begun_by belongs start_at lowest_from label_for free_from count_flying lowest_flying label_of with_label is_write kind_of slot_of window_at is_fifo point_step doorbell_step reset_step abort_step reply_step lost_step refusal verdict request_of check_of blank_bytes command_kind elements_from made block_head decide reads_eui live_login response_bytes start_step reply_step_of_manager decide_step fresh_id left_for enter_step back_step leave_step
injected_unsent = λ law. let bad = law.brings.0 in cc bad

key_refused : ActionLaw journals.one_disk (journals.sets_key 0 (notes.Refused 2 13 ∷ [])) → ⊥
unfolding reading fault_of tcode_of header_of offset_of rcode_of value_of length_of extended_of three four part_of is_to is_same asked_by begun_by belongs start_at lowest_from label_for free_from count_flying lowest_flying label_of with_label is_write kind_of slot_of window_at is_fifo point_step doorbell_step reset_step abort_step reply_step lost_step refusal verdict request_of check_of blank_bytes command_kind elements_from made block_head decide reads_eui live_login response_bytes start_step reply_step_of_manager decide_step fresh_id left_for enter_step back_step leave_step
key_refused = λ law. let bad = law.brings.0 in cc bad

no_unit_keyed : ActionLaw journals.one_disk (journals.sets_key 1 (notes.Key 1 ∷ [])) → ⊥
unfolding reading fault_of tcode_of header_of offset_of rcode_of value_of length_of extended_of three four part_of is_to is_same asked_by begun_by belongs start_at lowest_from label_for free_from count_flying lowest_flying label_of with_label is_write kind_of slot_of window_at is_fifo point_step doorbell_step reset_step abort_step reply_step lost_step refusal verdict request_of check_of blank_bytes command_kind elements_from made block_head decide reads_eui live_login response_bytes start_step reply_step_of_manager decide_step fresh_id left_for enter_step back_step leave_step
no_unit_keyed = λ law. let bad = law.brings.0 in cc bad

packets_first : ActionLaw journals.one_disk (refused.third_entry (events.Deliver 1) (notes.Got 1 ∷ refused.answers_first ++ notes.Cut 0 (Some 0) cuts.AgentReset ∷ [])) → ⊥
unfolding reading fault_of tcode_of header_of offset_of rcode_of value_of length_of extended_of three four part_of is_to is_same asked_by begun_by belongs start_at lowest_from label_for free_from count_flying lowest_flying label_of with_label is_write kind_of slot_of window_at is_fifo point_step doorbell_step reset_step abort_step reply_step lost_step refusal verdict request_of check_of blank_bytes command_kind elements_from made block_head decide reads_eui live_login response_bytes start_step reply_step_of_manager decide_step fresh_id left_for enter_step back_step leave_step
packets_first = λ law. let bad = law.ordered.0.first in cc bad

ends_before_run : ActionLaw journals.one_disk (refused.third_entry (events.Deliver 1) (notes.Got 1 ∷ notes.Ended 0 (Some 0) (Some 0) kinds.Good ∷ notes.Ran 0 (Some 0) (Some 0) 0 journals.ready_block [] None ∷ [])) → ⊥
unfolding reading fault_of tcode_of header_of offset_of rcode_of value_of length_of extended_of three four part_of is_to is_same asked_by begun_by belongs start_at lowest_from label_for free_from count_flying lowest_flying label_of with_label is_write kind_of slot_of window_at is_fifo point_step doorbell_step reset_step abort_step reply_step lost_step refusal verdict request_of check_of blank_bytes command_kind elements_from made block_head decide reads_eui live_login response_bytes start_step reply_step_of_manager decide_step fresh_id left_for enter_step back_step leave_step
ends_before_run = λ law. let bad = law.ordered.0.effects in cc bad

delivers : ActionLaw journals.one_disk (refused.third_entry (events.Deliver 1) (notes.Got 1 ∷ refused.answers_first))
unfolding reading fault_of tcode_of header_of offset_of rcode_of value_of length_of extended_of three four part_of is_to is_same asked_by begun_by belongs start_at lowest_from label_for free_from count_flying lowest_flying label_of with_label is_write kind_of slot_of window_at is_fifo point_step doorbell_step reset_step abort_step reply_step lost_step refusal verdict request_of check_of blank_bytes command_kind elements_from made block_head decide reads_eui live_login response_bytes start_step reply_step_of_manager decide_step fresh_id left_for enter_step back_step leave_step
delivers = record { brings = ((refl, (refl, (refl, tt))), (record { effects = refl; first = refl }, (refl, tt))); ordered = (record { effects = refl; first = refl }, (tt, (tt, (tt, tt)))) }

loses : ActionLaw journals.one_disk (refused.third_entry (events.Lose 1) (notes.Lost 1 ∷ []))
unfolding reading fault_of tcode_of header_of offset_of rcode_of value_of length_of extended_of three four part_of is_to is_same asked_by begun_by belongs start_at lowest_from label_for free_from count_flying lowest_flying label_of with_label is_write kind_of slot_of window_at is_fifo point_step doorbell_step reset_step abort_step reply_step lost_step refusal verdict request_of check_of blank_bytes command_kind elements_from made block_head decide reads_eui live_login response_bytes start_step reply_step_of_manager decide_step fresh_id left_for enter_step back_step leave_step
loses = record { brings = (refl, (record { effects = refl; first = refl }, (refl, tt))); ordered = (tt, (tt, (tt, tt))) }

times_out : ActionLaw journals.one_disk (refused.third_entry (events.Timeout 1) (notes.TimedOut 1 ∷ notes.Stuck 0 ∷ []))
unfolding reading fault_of tcode_of header_of offset_of rcode_of value_of length_of extended_of three four part_of is_to is_same asked_by begun_by belongs start_at lowest_from label_for free_from count_flying lowest_flying label_of with_label is_write kind_of slot_of window_at is_fifo point_step doorbell_step reset_step abort_step reply_step lost_step refusal verdict request_of check_of blank_bytes command_kind elements_from made block_head decide reads_eui live_login response_bytes start_step reply_step_of_manager decide_step fresh_id left_for enter_step back_step leave_step
times_out = record { brings = ((refl, (refl, tt)), (record { effects = refl; first = refl }, (refl, tt))); ordered = (record { effects = refl; first = refl }, (tt, (tt, (tt, tt)))) }

ended_by_sight : ActionLaw journals.one_disk (refused.sees_then (notes.Refused 5 11 ∷ []))
unfolding reading fault_of tcode_of header_of offset_of rcode_of value_of length_of extended_of three four part_of is_to is_same asked_by begun_by belongs start_at lowest_from label_for free_from count_flying lowest_flying label_of with_label is_write kind_of slot_of window_at is_fifo point_step doorbell_step reset_step abort_step reply_step lost_step refusal verdict request_of check_of blank_bytes command_kind elements_from made block_head decide reads_eui live_login response_bytes start_step reply_step_of_manager decide_step fresh_id left_for enter_step back_step leave_step
ended_by_sight = record { brings = (refl, ((refl, (refl, tt)), (refl, (record { effects = refl; first = refl }, (refl, tt))))); ordered = (tt, (record { effects = refl; first = refl }, (tt, (tt, (tt, (tt, tt)))))) }

times_out_behind_sight : ActionLaw journals.one_disk (refused.sees_then (notes.TimedOut 1 ∷ [])) → ⊥
unfolding reading fault_of tcode_of header_of offset_of rcode_of value_of length_of extended_of three four part_of is_to is_same asked_by begun_by belongs start_at lowest_from label_for free_from count_flying lowest_flying label_of with_label is_write kind_of slot_of window_at is_fifo point_step doorbell_step reset_step abort_step reply_step lost_step refusal verdict request_of check_of blank_bytes command_kind elements_from made block_head decide reads_eui live_login response_bytes start_step reply_step_of_manager decide_step fresh_id left_for enter_step back_step leave_step
times_out_behind_sight = λ law. let bad = law.brings.0 in cc bad

resets : ActionLaw journals.one_disk (refused.one_entry (events.Reset (1 ∷ 0 ∷ [])) (notes.Reset 1 ∷ []))
unfolding reading fault_of tcode_of header_of offset_of rcode_of value_of length_of extended_of three four part_of is_to is_same asked_by begun_by belongs start_at lowest_from label_for free_from count_flying lowest_flying label_of with_label is_write kind_of slot_of window_at is_fifo point_step doorbell_step reset_step abort_step reply_step lost_step refusal verdict request_of check_of blank_bytes command_kind elements_from made block_head decide reads_eui live_login response_bytes start_step reply_step_of_manager decide_step fresh_id left_for enter_step back_step leave_step
resets = record { brings = (refl, (refl, tt)); ordered = (tt, (tt, tt)) }

sees : ActionLaw journals.one_disk (refused.one_entry (events.See 0) (notes.Seen 0 0 ∷ []))
unfolding reading fault_of tcode_of header_of offset_of rcode_of value_of length_of extended_of three four part_of is_to is_same asked_by begun_by belongs start_at lowest_from label_for free_from count_flying lowest_flying label_of with_label is_write kind_of slot_of window_at is_fifo point_step doorbell_step reset_step abort_step reply_step lost_step refusal verdict request_of check_of blank_bytes command_kind elements_from made block_head decide reads_eui live_login response_bytes start_step reply_step_of_manager decide_step fresh_id left_for enter_step back_step leave_step
sees = record { brings = ((refl, tt), (refl, tt)); ordered = (record { effects = refl; first = refl }, (tt, (tt, tt))) }

ticks : ActionLaw journals.one_disk (refused.one_entry events.Tick (notes.Tick ∷ []))
unfolding reading fault_of tcode_of header_of offset_of rcode_of value_of length_of extended_of three four part_of is_to is_same asked_by begun_by belongs start_at lowest_from label_for free_from count_flying lowest_flying label_of with_label is_write kind_of slot_of window_at is_fifo point_step doorbell_step reset_step abort_step reply_step lost_step refusal verdict request_of check_of blank_bytes command_kind elements_from made block_head decide reads_eui live_login response_bytes start_step reply_step_of_manager decide_step fresh_id left_for enter_step back_step leave_step
ticks = record { brings = ((refl, tt), (refl, tt)); ordered = (record { effects = refl; first = refl }, (tt, (tt, tt))) }

pub tried : ActionTried
tried = record { accepts = accepts; steps_once = steps_once; settles_at_rest = settles_at_rest; refuses_login = refuses_login; steps_not = steps_not; injects = injects; other_source = other_source; sets_key = sets_key; no_unit = no_unit; inject_refused = inject_refused; stops_early = stops_early; settles_early = settles_early; refuses_append = refuses_append; other_number = other_number; begins_otherwise = begins_otherwise; refuses_and_more = refuses_and_more; rung_left_out = rung_left_out; appends_otherwise = appends_otherwise; delivers_another = delivers_another; delivers_nothing_sent = delivers_nothing_sent; refuses_delivery = refuses_delivery; repeats_nothing_sent = repeats_nothing_sent; loses_not = loses_not; refuses_time_out = refuses_time_out; times_out_unasked = times_out_unasked; steps_twice = steps_twice; steps_higher = steps_higher; settles_untold = settles_untold; resets_twice = resets_twice; sees_unborn = sees_unborn; tick_left_out = tick_left_out; injected_unsent = injected_unsent; key_refused = key_refused; no_unit_keyed = no_unit_keyed; packets_first = packets_first; ends_before_run = ends_before_run; delivers = delivers; loses = loses; times_out = times_out; ended_by_sight = ended_by_sight; times_out_behind_sight = times_out_behind_sight; resets = resets; sees = sees; ticks = ticks }
