-- What the laws say of the journals of Journals.antt: of each law one that it accepts, and others that it refuses.
use Rattle.std.specs.Prelude.{◌≡◌, [], ◌∷◌, None, Some, List, drop, replicate, true, false, ◌++◌}
use Rattle.orb_layout.specs.Pointers.{quad_bytes}
use Rattle.rbc_disk.specs.Disk.{Disk}
use Rattle.sbp_journal.specs.Run.{Moment, history, said}
use Rattle.sbp_journal.specs.declared.note.Note.TheVariants as notes
use Rattle.sbp_laws.specs.Turns.{EachMoment, EachTurn, turn}
use Rattle.sbp_laws.specs.Targets.{Agent, agent_at, over, target_at}
use Rattle.sbp_laws.specs.Aborts.{AbortsStand}
use Rattle.sbp_laws.specs.Decided.{DecisionStands}
use Rattle.sbp_laws.specs.SentWrites.{DecisionsAreSent, StatusesAreSent, ends_silently}
use Rattle.sbp_laws.specs.Unasked.{NoneUnasked}
use Rattle.sbp_laws.specs.Deaths.{illegal_in, DeathsHaveRows, FailuresHaveRows, IllegalsHaveCodes}
use Rattle.sbp_laws.specs.Lawful.{nobody, LawfulForOthers, Lawful}
use Rattle.sbp_laws.specs.OnceLaw.{OnceLaw}
use Rattle.sbp_laws.specs.OrderLaw.{OrderLaw}
use Rattle.sbp_laws.specs.ExecutionLaw.{ExecutionLaw}
use Rattle.sbp_laws.specs.StatusLaw.{StatusLaw, TakesEach}
use Rattle.sbp_laws.specs.AnswerLaw.{AnswerLaw}
use Rattle.sbp_laws.specs.CarriedBytes.{WasRead}
use Rattle.sbp_laws.specs.CarriedLaw.{CarriedLaw, EndsAsRead}
use Rattle.sbp_laws.specs.CauseLaw.{CauseLaw}
use Rattle.sbp_laws.specs.JudgementLaw.{JudgementLaw}
use Rattle.sbp_laws.specs.LoginLaw.{LoginLaw}
use Rattle.sbp_laws.specs.SentLaw.{IsAtRest, SentLaw}
use Rattle.sbp_laws.specs.MediaLaw.{MediaLaw}
use Rattle.sbp_laws.specs.ActionLaw.{ActionLaw}
use Rattle.sbp_laws.specs.Budget.{budget, Lossless}
use Rattle.sbp_laws.specs.Journals as journals
use Rattle.sbp_laws.specs.WorkedRuns as runs
use Rattle.sbp_laws.specs.Refused as refused
use Rattle.sbp_laws.specs.RareRuns as rare
use Rattle.orb_layout.specs.declared.status.StatusKind.TheVariants as kinds
use Rattle.orb_layout.specs.declared.ask.FailCause.TheVariants as causes
use Rattle.sbp_journal.specs.declared.cause.CutCause.TheVariants as cuts
use Rattle.sbp_journal.specs.declared.cause.Cause.TheVariants as ignored
use Rattle.sbp_journal.specs.declared.event.Event.TheVariants as events
use Rattle.sbp_journal.specs.declared.event.Action.TheVariants as actions
use Rattle.sbp_journal.specs.declared.operation.FunctionWord.TheVariants as functions
use Rattle.rbc_command.specs.SenseData.{no_medium, was_reset, write_failed, read_failed, no_command}
use Rattle.sbp_journal.specs.declared.note.NoteBuffer.TheVariants.{Nothing}

pub record OnceTried : Type 0 where
  pub accepts : OnceLaw nobody journals.whole
  pub repeat_told : OnceLaw nobody journals.repeated
  pub judged_twice : OnceLaw nobody journals.judged_twice → ⊥
  pub closed_unserved : OnceLaw nobody journals.closed_unserved → ⊥
  pub closes_in_vain : OnceLaw nobody refused.slot_and_closed
  pub ignored_and_closed : OnceLaw nobody refused.ignored_and_closed → ⊥
  pub ignored_twice : OnceLaw nobody refused.ignored_twice → ⊥

pub record OrderTried : Type 0 where
  pub accepts : OrderLaw nobody journals.whole
  pub second_ends_first : OrderLaw nobody journals.second_ends_first → ⊥
  pub ends_after_cut : OrderLaw nobody journals.ends_after_cut → ⊥
  pub runs_after_cut : OrderLaw nobody journals.runs_after_cut → ⊥
  pub ends_in_next_list : OrderLaw nobody journals.ends_in_next_list → ⊥
  pub list_left_out : OrderLaw nobody journals.list_left_out → ⊥
  pub number_left_out : OrderLaw nobody journals.number_left_out → ⊥
  pub ends_twice : OrderLaw nobody refused.ends_twice → ⊥
  pub ends_unappended : OrderLaw nobody refused.ends_unappended → ⊥
  pub runs_in_next_list : OrderLaw nobody refused.runs_in_next_list → ⊥

pub record ExecutionTried : Type 0 where
  pub accepts : ExecutionLaw nobody journals.one_disk journals.whole
  pub write_accepted : ExecutionLaw nobody journals.one_disk (journals.write_runs (journals.block_of 0xaa) None)
  pub other_data : ExecutionLaw nobody journals.one_disk (journals.write_runs (journals.block_of 0xbb) None) → ⊥
  pub no_data : ExecutionLaw nobody journals.one_disk (journals.write_runs [] None) → ⊥
  pub runs_twice : ExecutionLaw nobody journals.one_disk journals.runs_twice → ⊥
  pub runs_another : ExecutionLaw nobody journals.one_disk journals.runs_another → ⊥
  pub runs_elsewhere : ExecutionLaw nobody journals.one_disk journals.runs_elsewhere → ⊥
  pub checked_unasked : ExecutionLaw nobody journals.one_disk journals.checked_unasked → ⊥
  pub ends_unrun : ExecutionLaw nobody journals.one_disk journals.ends_unrun → ⊥
  pub aborted_after_run : ExecutionLaw nobody journals.one_disk journals.aborted_after_run → ⊥
  pub runs_behind_end : ExecutionLaw nobody journals.one_disk refused.runs_behind_end → ⊥
  pub runs_out_of_turn : ExecutionLaw nobody journals.one_disk refused.runs_out_of_turn → ⊥
  pub check_told : ExecutionLaw nobody journals.empty_bay (refused.runs_with (Some no_medium))
  pub check_left_out : ExecutionLaw nobody journals.empty_bay (refused.runs_with None) → ⊥
  pub attention_told : ExecutionLaw nobody journals.one_disk (refused.runs_behind_reset (Some was_reset))
  pub attention_left_out : ExecutionLaw nobody journals.one_disk (refused.runs_behind_reset None) → ⊥
  pub write_fails : ExecutionLaw nobody journals.one_disk (journals.write_runs (journals.block_of 0xaa) (Some write_failed))
  pub write_fails_as_read : ExecutionLaw nobody journals.one_disk (journals.write_runs (journals.block_of 0xaa) (Some read_failed)) → ⊥
  pub ready_fails : ExecutionLaw nobody journals.one_disk (refused.runs_with (Some read_failed)) → ⊥
  pub ends_otherwise : ExecutionLaw nobody journals.one_disk (refused.ends_behind_run (kinds.Check no_command)) → ⊥
  pub dummy_after_run : ExecutionLaw nobody journals.one_disk (refused.ends_behind_run kinds.Dummy) → ⊥
  pub illegal_after_run : ExecutionLaw nobody journals.one_disk (refused.ends_behind_run (kinds.Illegal 1)) → ⊥

pub record StatusTried : Type 0 where
  pub accepts : StatusLaw nobody journals.whole
  pub taken_twice : StatusLaw nobody journals.taken_twice → ⊥
  pub taken_of_another : StatusLaw nobody journals.taken_of_another → ⊥
  pub taken_before_end : StatusLaw nobody journals.taken_before_end → ⊥
  pub taken_otherwise : StatusLaw nobody journals.taken_otherwise → ⊥
  pub taken_by_response : StatusLaw nobody journals.taken_by_response → ⊥
  pub not_taken : StatusLaw nobody journals.not_taken → ⊥
  pub other_fifo : StatusLaw nobody (refused.takes_block (refused.block_packet 0x13000020 0x41000000 0x10000000)) → ⊥
  pub other_slot : StatusLaw nobody (refused.takes_block (refused.block_packet 0x13000000 0x41000000 0x10000040)) → ⊥
  pub other_status : StatusLaw nobody (refused.takes_block (refused.block_packet 0x13000000 0x410b0000 0x10000000)) → ⊥
  pub sent_late : StatusLaw nobody refused.sent_late → ⊥

pub record AnswerTried : Type 0 where
  pub accepts : AnswerLaw nobody journals.one_disk (journals.capacity_taken (quad_bytes (0 ∷ 512 ∷ [])))
  pub other_answer : AnswerLaw nobody journals.one_disk (journals.capacity_taken (quad_bytes (1 ∷ 512 ∷ []))) → ⊥
  pub no_answer : AnswerLaw nobody journals.one_disk (journals.capacity_taken []) → ⊥
  pub answers_unasked : AnswerLaw nobody journals.one_disk refused.answers_unasked → ⊥
  pub reads_back : AnswerLaw nobody journals.one_disk (refused.reads_back (journals.block_of 0xaa))
  pub reads_what_was : AnswerLaw nobody journals.one_disk (refused.reads_back (journals.block_of 0)) → ⊥

pub record CarriedTried : Type 0 where
  pub accepts : CarriedLaw nobody journals.one_disk journals.whole
  pub answer_uncarried : CarriedLaw nobody journals.one_disk (journals.capacity_taken (quad_bytes (0 ∷ 512 ∷ []))) → ⊥
  pub run_unread : CarriedLaw nobody journals.one_disk journals.run_unread → ⊥
  pub run_left_out : CarriedLaw nobody journals.one_disk journals.run_left_out → ⊥
  pub goes_on_with_own : (agent_at (target_at journals.one_disk (refused.checks 0)) 0).machine.outgoing ≡ refused.checked_block
  pub goes_on_with_anothers : (agent_at (target_at journals.one_disk (refused.checks 1)) 0).machine.outgoing ≡ refused.checked_block → ⊥
  pub answer_otherwise : CarriedLaw nobody journals.one_disk refused.answer_otherwise → ⊥
  pub other_data : CarriedLaw nobody journals.one_disk refused.other_data → ⊥
  pub dummy_unmade : CarriedLaw nobody journals.one_disk (refused.orb_brought (refused.orb_of 0x82900000 0) (refused.ends_as_dummy 0)) → ⊥
  pub good_of_dummy : CarriedLaw nobody journals.one_disk (refused.orb_brought (refused.orb_of 0xe2900000 0) refused.runs_ready) → ⊥
  pub other_command : CarriedLaw nobody journals.one_disk (refused.orb_brought (refused.orb_of 0x82900000 0x25000000) refused.runs_ready) → ⊥
  pub other_length : CarriedLaw nobody journals.one_disk (refused.orb_brought (refused.orb_of 0x82900008 0) refused.runs_ready) → ⊥
  pub short_orb : CarriedLaw nobody journals.one_disk (refused.orb_brought (quad_bytes (0x80000000 ∷ 0 ∷ 0 ∷ 0x11000000 ∷ 0x82900000 ∷ 0 ∷ [])) refused.runs_ready) → ⊥
  pub read_elsewhere : CarriedLaw nobody journals.one_disk (refused.runs_read_from 0x10000040) → ⊥
  pub other_direction : CarriedLaw nobody journals.one_disk (refused.orb_brought (refused.orb_of 0x8a900000 0) refused.runs_ready) → ⊥
  pub read_too_early : CarriedLaw nobody journals.one_disk refused.read_too_early → ⊥
  pub read_unnamed : CarriedLaw nobody journals.one_disk refused.read_unnamed → ⊥
  pub read_named : WasRead journals.one_disk (drop 1 refused.read_named) 0 0 0

pub record CauseTried : Type 0 where
  pub accepts : CauseLaw journals.one_disk journals.whole
  pub dead_at_time_out : CauseLaw journals.one_disk journals.dead_at_time_out
  pub death_left_out : CauseLaw journals.one_disk journals.death_left_out → ⊥
  pub dead_twice : CauseLaw journals.one_disk journals.dead_twice → ⊥
  pub dead_at_an_orb : CauseLaw journals.one_disk journals.dead_at_an_orb → ⊥
  pub aborted_unasked : CauseLaw journals.one_disk journals.aborted_unasked → ⊥
  pub stuck_at_time_out : CauseLaw journals.one_disk journals.stuck_at_time_out
  pub stuck_left_out : CauseLaw journals.one_disk journals.stuck_left_out → ⊥
  pub state_ends : CauseLaw journals.one_disk journals.state_ends_in_error
  pub state_ends_well : CauseLaw journals.one_disk journals.state_ends_well → ⊥
  pub state_ends_never : CauseLaw journals.one_disk journals.state_ends_never → ⊥
  pub drops_at_reset : CauseLaw journals.one_disk journals.drops_at_reset
  pub drop_left_out : CauseLaw journals.one_disk journals.drop_left_out → ⊥
  pub unit_is_reset : CauseLaw journals.one_disk (rare.unit_reset rare.unit_reset_notes)
  pub cut_of_other_left_out : CauseLaw journals.one_disk (rare.unit_reset (notes.Cleared 0 ∷ notes.Managed 0 functions.UnitReset 1 0 None ∷ [])) → ⊥
  pub own_list_cut : CauseLaw journals.one_disk (rare.unit_reset (notes.Cut 0 (Some 0) cuts.UnitReset ∷ notes.Cleared 0 ∷ notes.Managed 0 functions.UnitReset 1 0 None ∷ [])) → ⊥
  pub cleared_left_out : CauseLaw journals.one_disk (rare.unit_reset (notes.Cut 1 (Some 0) cuts.UnitReset ∷ notes.Managed 0 functions.UnitReset 1 0 None ∷ [])) → ⊥
  pub abort_set_cuts : CauseLaw journals.one_disk (rare.abort_set (notes.Cut 0 (Some 0) cuts.AbortSet ∷ []))
  pub abort_set_cuts_not : CauseLaw journals.one_disk (rare.abort_set []) → ⊥
  pub logout_cuts : CauseLaw journals.one_disk (rare.log_out (notes.Cut 0 (Some 0) cuts.Logout ∷ []))
  pub logout_cuts_otherwise : CauseLaw journals.one_disk (rare.log_out (notes.Cut 0 (Some 0) cuts.AbortSet ∷ [])) → ⊥
  pub target_is_reset : CauseLaw journals.one_disk (rare.target_reset (notes.Cut 0 (Some 0) cuts.TargetReset ∷ notes.Cleared 0 ∷ []))
  pub target_reset_clears_not : CauseLaw journals.one_disk (rare.target_reset (notes.Cut 0 (Some 0) cuts.TargetReset ∷ [])) → ⊥
  pub agent_reset_cuts_not : CauseLaw journals.one_disk refused.agent_reset_cuts_not → ⊥
  pub agent_reset_drops_not : CauseLaw journals.one_disk refused.agent_reset_drops_not → ⊥
  pub operation_ends_otherwise : CauseLaw journals.one_disk refused.operation_ends_otherwise → ⊥
  pub reset_cuts_both : CauseLaw journals.one_disk (rare.sees_reset (rare.cut_by_reset 0 ∷ rare.cut_by_reset 1 ∷ []))
  pub reset_cuts_one : CauseLaw journals.one_disk (rare.sees_reset (rare.cut_by_reset 0 ∷ [])) → ⊥
  pub cuts_out_of_order : CauseLaw journals.one_disk (rare.sees_reset (rare.cut_by_reset 1 ∷ rare.cut_by_reset 0 ∷ [])) → ⊥
  pub dead_refused : CauseLaw journals.one_disk (rare.orb_answered 7 [] (rare.dies_of causes.Refused kinds.Failed))
  pub refusal_passes : CauseLaw journals.one_disk (rare.orb_answered 7 [] []) → ⊥
  pub refused_otherwise : CauseLaw journals.one_disk (rare.orb_answered 7 [] (rare.dies_of causes.Grammar kinds.Failed)) → ⊥
  pub dead_short : CauseLaw journals.one_disk (rare.orb_answered 0 (quad_bytes (0 ∷ 0 ∷ 0 ∷ 0 ∷ 0 ∷ 0 ∷ [])) (rare.dies_of causes.Grammar kinds.Failed))
  pub dead_short_otherwise : CauseLaw journals.one_disk (rare.orb_answered 0 (quad_bytes (0 ∷ 0 ∷ 0 ∷ 0 ∷ 0 ∷ 0 ∷ [])) (rare.dies_of causes.Refused kinds.Failed)) → ⊥
  pub dead_illegal : CauseLaw journals.one_disk (rare.orb_answered 0 rare.format_1 (rare.dies_of causes.Grammar (kinds.Illegal 1)))
  pub illegal_fails : CauseLaw journals.one_disk (rare.orb_answered 0 rare.format_1 (rare.dies_of causes.Grammar kinds.Failed)) → ⊥
  pub illegal_otherwise : CauseLaw journals.one_disk (rare.orb_answered 0 rare.format_1 (rare.dies_of causes.Grammar (kinds.Illegal 3))) → ⊥
  pub illegal_lives : CauseLaw journals.one_disk (rare.orb_answered 0 rare.format_1 (notes.Ended 0 (Some 0) (Some 0) (kinds.Illegal 1) ∷ [])) → ⊥
  pub dummy_lives : CauseLaw journals.one_disk (rare.orb_answered 0 rare.dummy_bytes (notes.Ended 0 (Some 0) (Some 0) kinds.Dummy ∷ []))
  pub dummy_dies : CauseLaw journals.one_disk (rare.orb_answered 0 rare.dummy_bytes (rare.dies_of causes.Grammar kinds.Dummy)) → ⊥
  pub management_times_out : CauseLaw journals.one_disk (rare.management_times_out (rare.management_fails causes.Timeout))
  pub management_goes_on : CauseLaw journals.one_disk (rare.management_times_out []) → ⊥
  pub management_fails_otherwise : CauseLaw journals.one_disk (rare.management_times_out (rare.management_fails causes.Label)) → ⊥
  pub management_refused : CauseLaw journals.one_disk (rare.management_answered 7 [] (rare.management_fails causes.Refused))
  pub management_refused_otherwise : CauseLaw journals.one_disk (rare.management_answered 7 [] (rare.management_fails causes.Grammar)) → ⊥
  pub management_short : CauseLaw journals.one_disk (rare.management_answered 0 (quad_bytes (0 ∷ 0 ∷ 0 ∷ 0 ∷ 0 ∷ 0 ∷ [])) (rare.management_fails causes.Grammar))
  pub management_short_otherwise : CauseLaw journals.one_disk (rare.management_answered 0 (quad_bytes (0 ∷ 0 ∷ 0 ∷ 0 ∷ 0 ∷ 0 ∷ [])) (rare.management_fails causes.Refused)) → ⊥
  pub aborted_left_out : CauseLaw journals.one_disk refused.aborted_left_out → ⊥
  pub aborts_behind_sight : CauseLaw journals.one_disk runs.abort_behind_sight
  pub aborted_left_out_behind_sight : CauseLaw journals.one_disk refused.aborted_left_out_behind_sight → ⊥
  pub aborts_behind_time_out : CauseLaw journals.one_disk (runs.abort_behind_time_out 0)
  pub dead_at_pointer : CauseLaw journals.one_disk (refused.reread_times_out refused.dies_by)
  pub pointer_ends_an_orb : CauseLaw journals.one_disk (refused.reread_times_out (refused.dies_by ++ notes.Ended 0 (Some 0) (Some 0) kinds.Failed ∷ [])) → ⊥
  pub status_ends_again : CauseLaw journals.one_disk (refused.status_times_out (refused.dies_by ++ notes.Ended 0 (Some 0) (Some 0) kinds.Failed ∷ [])) → ⊥
  pub untold_finds_no_label : CauseLaw rare.untold_disk (rare.untold (rare.dies_of causes.Label kinds.Failed)) → ⊥
  pub good_orb_dies : DeathsHaveRows journals.one_disk (turn (journals.told journals.till_orb) (said (notes.Got 4)) refused.good_orb_dies) refused.good_orb_dies → ⊥
  pub good_orb_illegal : IllegalsHaveCodes (illegal_in journals.one_disk (turn (journals.told journals.till_orb) (said (notes.Got 4)) refused.good_orb_dies)) refused.good_orb_dies → ⊥
  pub good_login_fails : FailuresHaveRows (target_at journals.one_disk (journals.told refused.login_read)) (turn (journals.told refused.login_read) (said (notes.Got 4)) refused.good_login_fails) refused.good_login_fails → ⊥
  pub dead_label : CauseLaw journals.one_disk (rare.labels_gone (rare.dies_of causes.Label kinds.Failed))
  pub no_label_lives : CauseLaw journals.one_disk (rare.labels_gone []) → ⊥
  pub management_without_label : CauseLaw journals.one_disk (rare.labels_gone_to_manager (rare.management_fails causes.Label))
  pub management_waits_for_label : CauseLaw journals.one_disk (rare.labels_gone_to_manager []) → ⊥

pub record JudgementTried : Type 0 where
  pub accepts : JudgementLaw journals.one_disk journals.whole
  pub old_is_ignored : JudgementLaw journals.one_disk journals.old_is_ignored
  pub old_is_acted_on : JudgementLaw journals.one_disk journals.old_is_acted_on → ⊥
  pub ignored_otherwise : JudgementLaw journals.one_disk journals.ignored_otherwise → ⊥
  pub ignored_with_answer : JudgementLaw journals.one_disk journals.ignored_with_answer → ⊥
  pub repeat_unanswered : JudgementLaw journals.one_disk (refused.repeats_write []) → ⊥
  pub repeat_answered_otherwise : JudgementLaw journals.one_disk (refused.repeats_write (notes.Sent 4 0 0 1 (journals.done_by_target 0 7) ∷ [])) → ⊥
  pub repeat_has_effect : JudgementLaw journals.one_disk (refused.repeats_write (notes.Rung 0 0 0 ∷ notes.Sent 4 0 0 1 (journals.done_by_target 0 0) ∷ [])) → ⊥
  pub unread_block : JudgementLaw journals.one_disk (refused.brings_block refused.unread_block (notes.Ignored 5 ignored.Grammar) (refused.answered_5 5))
  pub unread_block_got : JudgementLaw journals.one_disk (refused.brings_block refused.unread_block (notes.Got 5) (refused.answered_5 0)) → ⊥
  pub unread_block_unanswered : JudgementLaw journals.one_disk (refused.brings_block refused.unread_block (notes.Ignored 5 ignored.Grammar) []) → ⊥
  pub unawaited_response : JudgementLaw journals.one_disk (refused.repeats_response (notes.Ignored 2 ignored.Label))
  pub unawaited_response_got : JudgementLaw journals.one_disk (refused.repeats_response (notes.Got 2)) → ⊥
  pub register_of_another : JudgementLaw journals.one_disk (refused.second_writes (notes.Ignored 1 ignored.Login) refused.answered_7)
  pub register_of_another_got : JudgementLaw journals.one_disk (refused.second_writes (notes.Got 1) refused.answered_7) → ⊥
  pub other_initiator : JudgementLaw journals.one_disk (refused.between_initiators (notes.Ignored 1 ignored.Source) refused.answered_source)
  pub other_initiator_got : JudgementLaw journals.one_disk (refused.between_initiators (notes.Got 1) refused.answered_source) → ⊥
  pub status_again : JudgementLaw journals.one_disk (refused.comes_as_new (notes.Ignored 7 ignored.Slot) 0)
  pub status_again_got : JudgementLaw journals.one_disk (refused.comes_as_new (notes.Got 7) 0) → ⊥
  pub status_again_refused : JudgementLaw journals.one_disk (refused.comes_as_new (notes.Ignored 7 ignored.Slot) 7) → ⊥
  pub no_packet : JudgementLaw journals.one_disk (refused.brings_junk (notes.Ignored 1 ignored.Grammar) [])
  pub no_packet_got : JudgementLaw journals.one_disk (refused.brings_junk (notes.Got 1) []) → ⊥
  pub no_packet_answered : JudgementLaw journals.one_disk (refused.brings_junk (notes.Ignored 1 ignored.Grammar) (notes.Sent 2 0 0 1 (journals.done_by_target 0 5) ∷ [])) → ⊥
  pub repeat_is_ignored : JudgementLaw journals.one_disk (refused.repeats_write (notes.Sent 4 0 0 1 (journals.done_by_target 0 0) ∷ []))

pub record LoginTried : Type 0 where
  pub expires : LoginLaw journals.one_disk journals.expires
  pub stays_too_long : LoginLaw journals.one_disk journals.stays_too_long → ⊥
  pub held_left_out : LoginLaw journals.one_disk journals.held_left_out → ⊥
  pub decides : LoginLaw journals.one_disk (journals.decides 0 (Some 1))
  pub other_id : LoginLaw journals.one_disk (journals.decides 0 (Some 2)) → ⊥
  pub other_status : LoginLaw journals.one_disk (journals.decides 8 None) → ⊥
  pub key_fits : LoginLaw journals.one_disk (rare.keyed 1 0 (Some 1))
  pub key_fails : LoginLaw journals.one_disk (rare.keyed 2 4 None)
  pub key_passed_over : LoginLaw journals.one_disk (rare.keyed 2 0 (Some 1)) → ⊥
  pub key_refused : LoginLaw journals.one_disk (rare.keyed 1 4 None) → ⊥
  pub exclusive_stands : LoginLaw journals.one_disk (rare.exclusive 4 None)
  pub exclusive_passed_over : LoginLaw journals.one_disk (rare.exclusive 0 (Some 2)) → ⊥
  pub expires_early : LoginLaw journals.one_disk (refused.expires_at (notes.Expired 1 ∷ [])) → ⊥
  pub decides_early : LoginLaw journals.one_disk refused.decides_early → ⊥
  pub left_left_out : LoginLaw journals.one_disk refused.left_left_out → ⊥
  pub left_unasked : LoginLaw journals.one_disk refused.left_unasked → ⊥
  pub back_left_out : LoginLaw journals.one_disk refused.back_left_out → ⊥
  pub other_function : LoginLaw journals.one_disk refused.other_function → ⊥

pub record SentTried : Type 0 where
  pub accepts : SentLaw journals.one_disk journals.whole
  pub unanswered : SentLaw journals.one_disk journals.unanswered → ⊥
  pub answered_twice : SentLaw journals.one_disk journals.answered_twice → ⊥
  pub answered_otherwise : SentLaw journals.one_disk journals.answered_otherwise → ⊥
  pub not_fetched : SentLaw journals.one_disk journals.not_fetched → ⊥
  pub fetched_elsewhere : SentLaw journals.one_disk journals.fetched_elsewhere → ⊥
  pub linked_too_early : SentLaw journals.one_disk (journals.served_linked 0 0x10000040) → ⊥
  pub resting_label : SentLaw journals.one_disk (journals.asks_again 0) → ⊥
  pub other_src : SentLaw journals.one_disk journals.status_src_0 → ⊥
  pub status_unsent : SentLaw journals.one_disk journals.status_unsent → ⊥
  pub nothing_read_ahead : SentLaw journals.one_disk journals.reads_nothing_ahead → ⊥
  pub doorbell_ignored : SentLaw journals.one_disk journals.doorbell_ignored → ⊥
  pub other_place : SentLaw journals.one_disk (journals.responds 0xfffff0040020) → ⊥
  pub serial_left_out : SentLaw journals.one_disk (refused.appends_as 2 0 journals.pointer_packet) → ⊥
  pub other_generation : SentLaw journals.one_disk (refused.appends_as 1 1 journals.pointer_packet) → ⊥
  pub other_retry : SentLaw journals.one_disk (refused.appends_as 1 0 (refused.pointer_by 0 journals.first_id 0 0xfffff0040008)) → ⊥
  pub other_source : SentLaw journals.one_disk (refused.appends_as 1 0 (refused.pointer_by 1 journals.second_id 0 0xfffff0040008)) → ⊥
  pub higher_label : SentLaw journals.one_disk (refused.appends_as 1 0 (refused.pointer_by 1 journals.first_id 1 0xfffff0040008)) → ⊥
  pub other_register : SentLaw journals.one_disk (refused.appends_as 1 0 (refused.pointer_by 1 journals.first_id 0 0xfffff0040010)) → ⊥
  pub other_value : SentLaw journals.one_disk (refused.appends_as 1 0 (refused.points_to 0x10000040)) → ⊥
  pub other_number : SentLaw journals.one_disk (refused.rings_with 2) → ⊥
  pub other_state : SentLaw journals.one_disk (refused.reads_state 1) → ⊥
  pub conflict_left_out : SentLaw journals.one_disk (refused.second_manages 0) → ⊥
  pub dummy_served_plain : SentLaw journals.one_disk (refused.serves_dummy (refused.plain_bytes 0x82900000)) → ⊥
  pub other_table : SentLaw journals.one_disk refused.other_table → ⊥
  pub other_data : SentLaw journals.one_disk refused.other_data_served → ⊥
  pub chunk_elsewhere : SentLaw journals.one_disk refused.chunk_elsewhere → ⊥
  pub chunk_too_long : SentLaw journals.one_disk refused.chunk_too_long → ⊥
  pub other_rom : SentLaw journals.one_disk (refused.reads_rom 0) → ⊥
  pub rom_not_read_on : SentLaw journals.one_disk (said (notes.Got 2) ∷ refused.reads_rom 0) → ⊥
  pub other_management_orb : SentLaw journals.one_disk refused.other_management_orb → ⊥
  pub eui_not_read : SentLaw journals.one_disk (said (notes.Got 4) ∷ journals.told journals.reads_login) → ⊥
  pub management_status_elsewhere : SentLaw journals.one_disk refused.management_status_elsewhere → ⊥
  pub pointer_read_whole : SentLaw journals.one_disk (refused.rereads_by 32) → ⊥
  pub status_unasked : SentLaw journals.one_disk refused.status_unasked → ⊥
  pub status_elsewhere : SentLaw journals.one_disk (refused.sends_behind_end (refused.block_packet 0x13000020 0x41000000 0x10000000) []) → ⊥
  pub status_of_another : SentLaw journals.one_disk (refused.sends_behind_end (refused.block_packet 0x13000000 0x41000000 0x10000040) []) → ⊥
  pub reads_ahead_at_null : SentLaw journals.one_disk (refused.sends_behind_end (journals.status_packet 0x41000000) (notes.Sent 6 0 0 1 (journals.fetch_packet 1 0) ∷ [])) → ⊥
  pub untold_elsewhere : SentLaw rare.untold_disk (rare.untold (notes.Sent 5 0 0 1 (rare.block_packet 0x11000040 rare.some_block) ∷ [])) → ⊥
  pub aborted_of_another_line : SentLaw journals.one_disk (runs.abort_behind_time_out 1) → ⊥
  pub chunk_otherwise : SentLaw journals.one_disk refused.chunk_otherwise → ⊥
  pub pointer_taken_in_active : SentLaw journals.one_disk (refused.points_again 0) → ⊥
  pub ahead_past_its_reserve : SentLaw journals.one_disk (refused.checked_beside 48 (refused.fetches_ahead ∷ [])) → ⊥
  pub ahead_within_reserve_left_out : SentLaw journals.one_disk (refused.checked_beside 47 []) → ⊥

pub record MediaTried : Type 0 where
  pub unsolicited : MediaLaw journals.empty_bay (journals.loads_enabled (notes.Unsolicited 1))
  pub none_enabled : MediaLaw journals.empty_bay (journals.loads_disabled [])
  pub unsent : MediaLaw journals.empty_bay (journals.loads_enabled (notes.Unsent 1)) → ⊥
  pub unasked : MediaLaw journals.empty_bay (journals.loads_disabled (said (notes.Unsolicited 1) ∷ [])) → ⊥
  pub push_left_out : MediaLaw journals.empty_bay (journals.told (journals.two_begin ++ (journals.enables ++ journals.loads))) → ⊥
  pub told_once : MediaLaw rare.two_discs (refused.loads_again [])
  pub told_once_more : MediaLaw rare.two_discs (refused.loads_again (notes.Unsolicited 1 ∷ [])) → ⊥
  pub one_under_way : MediaLaw rare.two_discs (refused.loads_under_way (notes.Unsent 1 ∷ []))
  pub two_under_way : MediaLaw rare.two_discs (refused.loads_under_way (notes.Unsolicited 1 ∷ [])) → ⊥
  pub both_told : MediaLaw journals.empty_bay (refused.tells_both (notes.Unsolicited 1 ∷ notes.Unsolicited 2 ∷ []))
  pub told_out_of_order : MediaLaw journals.empty_bay (refused.tells_both (notes.Unsolicited 2 ∷ notes.Unsolicited 1 ∷ [])) → ⊥
  pub told_left_out : MediaLaw journals.empty_bay refused.told_left_out → ⊥
  pub told_of_a_status : MediaLaw journals.one_disk (rare.behind journals.till_status (notes.Got 5 ∷ notes.Told 0 ∷ [])) → ⊥

pub record ActionTried : Type 0 where
  pub accepts : ActionLaw journals.one_disk journals.whole_entries
  pub steps_once : ActionLaw journals.one_disk journals.steps_once
  pub settles_at_rest : ActionLaw journals.one_disk journals.settles_at_rest
  pub refuses_login : ActionLaw journals.one_disk (journals.refuses_login 2)
  pub steps_not : ActionLaw journals.one_disk journals.steps_not → ⊥
  pub injects : ActionLaw journals.one_disk (journals.injects journals.first_id journals.injected_notes)
  pub other_source : ActionLaw journals.one_disk (journals.injects journals.second_id (notes.Refused 2 12 ∷ []))
  pub sets_key : ActionLaw journals.one_disk (journals.sets_key 0 (notes.Key 0 ∷ []))
  pub no_unit : ActionLaw journals.one_disk (journals.sets_key 1 (notes.Refused 2 13 ∷ []))
  pub inject_refused : ActionLaw journals.one_disk (journals.injects journals.first_id (notes.Refused 2 12 ∷ [])) → ⊥
  pub stops_early : ActionLaw journals.one_disk journals.stops_early → ⊥
  pub settles_early : ActionLaw journals.one_disk journals.settles_early → ⊥
  pub refuses_append : ActionLaw journals.one_disk journals.refuses_append → ⊥
  pub other_number : ActionLaw journals.one_disk (journals.refuses_login 3) → ⊥
  pub begins_otherwise : ActionLaw journals.one_disk (journals.entry 1 (events.Begin 1 true) (notes.Begin 1 false ∷ []) ∷ []) → ⊥
  pub refuses_and_more : ActionLaw journals.one_disk (refused.one_entry (events.Act 0 (actions.Login 0 0 false (replicate 8 0))) (notes.Refused 2 2 ∷ notes.Stuck 0 ∷ [])) → ⊥
  pub rung_left_out : ActionLaw journals.one_disk (refused.one_entry refused.appends_with (notes.Append 0 0 0 journals.ready_block Nothing ∷ notes.Sent 1 0 1 0 journals.pointer_packet ∷ [])) → ⊥
  pub appends_otherwise : ActionLaw journals.one_disk (refused.one_entry refused.appends_with (notes.Append 0 0 0 journals.capacity_block Nothing ∷ notes.Rung 0 0 0 ∷ notes.Sent 1 0 1 0 journals.pointer_packet ∷ [])) → ⊥
  pub delivers_another : ActionLaw journals.one_disk (refused.third_entry (events.Deliver 1) (notes.Got 2 ∷ [])) → ⊥
  pub delivers_nothing_sent : ActionLaw journals.one_disk (refused.third_entry (events.Deliver 2) (notes.Got 2 ∷ [])) → ⊥
  pub refuses_delivery : ActionLaw journals.one_disk (refused.third_entry (events.Deliver 1) (notes.Refused 3 11 ∷ [])) → ⊥
  pub repeats_nothing_sent : ActionLaw journals.one_disk (refused.third_entry (events.Repeat 2) (notes.Got 2 ∷ [])) → ⊥
  pub loses_not : ActionLaw journals.one_disk (refused.third_entry (events.Lose 1) []) → ⊥
  pub refuses_time_out : ActionLaw journals.one_disk (refused.third_entry (events.Timeout 1) (notes.Refused 3 11 ∷ [])) → ⊥
  pub times_out_unasked : ActionLaw journals.one_disk (refused.third_entry (events.Timeout 2) (notes.TimedOut 2 ∷ [])) → ⊥
  pub steps_twice : ActionLaw journals.one_disk (refused.third_entry (events.Step 1) (notes.Got 1 ∷ refused.answers_first ++ notes.Got 2 ∷ [])) → ⊥
  pub steps_higher : ActionLaw journals.one_disk (journals.entry 4 (events.Step 1) (notes.Got 3 ∷ []) ∷ journals.steps_once) → ⊥
  pub settles_untold : ActionLaw journals.one_disk (refused.one_entry events.Settle []) → ⊥
  pub resets_twice : ActionLaw journals.one_disk (refused.one_entry (events.Reset (1 ∷ 0 ∷ [])) (notes.Reset 2 ∷ [])) → ⊥
  pub sees_unborn : ActionLaw journals.one_disk (refused.one_entry (events.See 0) (notes.Seen 0 1 ∷ [])) → ⊥
  pub tick_left_out : ActionLaw journals.one_disk (refused.one_entry events.Tick []) → ⊥
  pub injected_unsent : ActionLaw journals.one_disk (journals.injects journals.first_id (notes.Injected 1 ∷ [])) → ⊥
  pub key_refused : ActionLaw journals.one_disk (journals.sets_key 0 (notes.Refused 2 13 ∷ [])) → ⊥
  pub no_unit_keyed : ActionLaw journals.one_disk (journals.sets_key 1 (notes.Key 1 ∷ [])) → ⊥
  pub packets_first : ActionLaw journals.one_disk (refused.third_entry (events.Deliver 1) (notes.Got 1 ∷ refused.answers_first ++ notes.Cut 0 (Some 0) cuts.AgentReset ∷ [])) → ⊥
  pub ends_before_run : ActionLaw journals.one_disk (refused.third_entry (events.Deliver 1) (notes.Got 1 ∷ notes.Ended 0 (Some 0) (Some 0) kinds.Good ∷ notes.Ran 0 (Some 0) (Some 0) 0 journals.ready_block [] None ∷ [])) → ⊥
  pub delivers : ActionLaw journals.one_disk (refused.third_entry (events.Deliver 1) (notes.Got 1 ∷ refused.answers_first))
  pub loses : ActionLaw journals.one_disk (refused.third_entry (events.Lose 1) (notes.Lost 1 ∷ []))
  pub times_out : ActionLaw journals.one_disk (refused.third_entry (events.Timeout 1) (notes.TimedOut 1 ∷ notes.Stuck 0 ∷ []))
  pub ended_by_sight : ActionLaw journals.one_disk (refused.sees_then (notes.Refused 5 11 ∷ []))
  pub times_out_behind_sight : ActionLaw journals.one_disk (refused.sees_then (notes.TimedOut 1 ∷ [])) → ⊥
  pub resets : ActionLaw journals.one_disk (refused.one_entry (events.Reset (1 ∷ 0 ∷ [])) (notes.Reset 1 ∷ []))
  pub sees : ActionLaw journals.one_disk (refused.one_entry (events.See 0) (notes.Seen 0 0 ∷ []))
  pub ticks : ActionLaw journals.one_disk (refused.one_entry events.Tick (notes.Tick ∷ []))

-- Worked runs that each law of moments and turns accepts, whole.
pub record KeepsLaws (start : List Disk) (past : List Moment) : Type 0 where
  pub once : OnceLaw nobody past
  pub order : OrderLaw nobody past
  pub execution : ExecutionLaw nobody start past
  pub status : StatusLaw nobody past
  pub answer : AnswerLaw nobody start past
  pub carried : CarriedLaw nobody start past
  pub runs_end : EachTurn (EndsAsRead start) past
  pub takes : EachTurn (TakesEach nobody) past
  pub cause : CauseLaw start past
  pub judgement : JudgementLaw start past
  pub login : LoginLaw start past
  pub sent : SentLaw start past
  pub media : MediaLaw start past

pub record RunsTried : Type 0 where
  pub capacity : KeepsLaws journals.one_disk runs.capacity_told
  pub agent_reset : KeepsLaws journals.one_disk runs.agent_reset_told
  pub logout : KeepsLaws journals.one_disk runs.logout_told
  pub read_ahead : KeepsLaws journals.one_disk runs.read_ahead_told
  pub login : KeepsLaws journals.one_disk runs.login_told
  pub reconnect : KeepsLaws journals.one_disk runs.reconnect_told
  pub table : KeepsLaws journals.one_disk runs.table_told
  pub load : KeepsLaws journals.empty_bay runs.load_told
  pub aborts : KeepsLaws journals.one_disk runs.abort_told
  pub unit_reset : KeepsLaws journals.one_disk (rare.unit_reset rare.unit_reset_notes)
  pub untold : KeepsLaws rare.untold_disk rare.untold_told

-- The budget of a settle: 620 behind one append, whose pointer write is in flight, 622 where its command has a buffer of one chunk, 600 once
-- its status was taken. Which runs are lossless.
pub record BudgetTried : Type 0 where
  pub one_waits : budget (journals.told journals.till_pointer) ≡ 620
  pub one_chunk : budget (journals.told runs.appends_capacity) ≡ 622
  pub none_waits : budget journals.whole ≡ 600
  pub whole : Lossless journals.whole
  pub all_seen : Lossless runs.reconnect_told
  pub timed_out : Lossless journals.dead_at_time_out → ⊥
  pub unseen : Lossless journals.drops_at_reset → ⊥

-- Runs of a wild initiator, whole, as the laws for the others accept or refuse them; the first is lawful for the others alone.
pub record OthersTried : Type 0 where
  pub dies : LawfulForOthers (rare.wild_run rare.wild_dies)
  pub reset_is_ignored : LawfulForOthers (rare.wild_write (notes.Ignored 1 ignored.Login) (notes.Sent 2 0 0 1 (journals.done_by_target 0 7) ∷ []))
  pub not_of_all : Lawful (rare.wild_run rare.wild_dies) → ⊥
  pub death_left_out : LawfulForOthers (rare.wild_run []) → ⊥
  pub reset_is_got : LawfulForOthers (rare.wild_write (notes.Got 1) (notes.Sent 2 0 0 1 (journals.done_by_target 0 0) ∷ [])) → ⊥
  pub other_unanswered : LawfulForOthers rare.other_unanswered → ⊥
  pub other_sends_more : LawfulForOthers rare.other_sends_more → ⊥
  pub target_answers : SentLaw rare.untold_disk (history (refused.target_sends []).entries)
  pub target_reads_the_other : LawfulForOthers (refused.target_sends (refused.reads_the_other ∷ [])) → ⊥
  pub target_tells_the_other : LawfulForOthers (refused.target_sends (refused.tells_the_other ∷ [])) → ⊥
  pub target_answers_twice : LawfulForOthers (refused.target_sends (refused.target_answers ∷ [])) → ⊥
  pub wild_request_left_out : LawfulForOthers (refused.wild_appends []) → ⊥
  pub wild_request_twice : LawfulForOthers (refused.wild_appends (refused.first_request ∷ refused.first_request ∷ [])) → ⊥
  pub wild_run_forged : LawfulForOthers refused.wild_runs → ⊥
  pub wild_ends_as_read : EachTurn (EndsAsRead journals.one_disk) (refused.wild_ends None)
  pub wild_ends_otherwise : EachTurn (EndsAsRead journals.one_disk) (refused.wild_ends (Some no_command)) → ⊥

-- N of `dead` and `cut` is the list that the pointer named as it was taken, and not one that was prepared there since.
pub record NamedTried : Type 0 where
  pub dies_unnamed : CauseLaw journals.one_disk (rare.dies_unnamed None)
  pub cut_unnamed : CauseLaw journals.one_disk (rare.cut_unnamed None)
  pub dies_named_since : CauseLaw journals.one_disk (rare.dies_unnamed (Some 0)) → ⊥
  pub cut_named_since : CauseLaw journals.one_disk (rare.cut_unnamed (Some 0)) → ⊥

-- Sentences that stand in the subject's own words beside the steps of the machines: by packets that were got and sent, notes and tables. Each
-- refuses its journal by itself, with no other law.
pub record OwnTried : Type 0 where
  pub abort_out_of_nothing : EachTurn (AbortsStand journals.one_disk) journals.aborted_unasked → ⊥
  pub abort_passed_over : EachTurn (AbortsStand journals.one_disk) refused.aborted_left_out → ⊥
  pub cut_left_out : EachTurn (DecisionStands journals.one_disk) (rare.abort_set []) → ⊥
  pub cleared_left_out : EachTurn (DecisionStands journals.one_disk) (rare.unit_reset (notes.Cut 1 (Some 0) cuts.UnitReset ∷ notes.Managed 0 functions.UnitReset 1 0 None ∷ [])) → ⊥
  pub left_left_out : EachTurn (DecisionStands journals.one_disk) refused.left_left_out → ⊥
  pub end_without_status : EachTurn (StatusesAreSent journals.one_disk) journals.status_unsent → ⊥
  pub failure_told : StatusesAreSent journals.one_disk (turn refused.fetch_expires (said (notes.TimedOut 3)) (refused.fails_with (refused.failed_status 1 ∷ [])))
  pub failure_untold : StatusesAreSent journals.one_disk (turn refused.fetch_expires (said (notes.TimedOut 3)) (refused.fails_with [])) → ⊥
  pub failure_told_as_linked : StatusesAreSent journals.one_disk (turn refused.fetch_expires (said (notes.TimedOut 3)) (refused.fails_with (refused.failed_status 0 ∷ []))) → ⊥
  pub status_finds_no_label : StatusesAreSent journals.one_disk (turn rare.last_label_gone (said (notes.TimedOut 66)) (rare.dies_of causes.Timeout kinds.Failed))
  pub ends_without_death : ends_silently journals.one_disk (turn rare.last_label_gone (said (notes.TimedOut 66)) refused.fails_alone) ≡ false → ⊥
  pub ends_behind_death : ends_silently journals.one_disk (turn rare.last_label_gone (said (notes.TimedOut 66)) (rare.dies_of causes.Timeout kinds.Failed)) ≡ false
  pub last_told_as_linked : EachTurn (StatusesAreSent journals.one_disk) journals.status_src_0 → ⊥
  pub linked_told : StatusesAreSent journals.one_disk (turn refused.linked_comes (said (notes.Got 5)) (refused.ends_linked 0x01000000))
  pub linked_told_as_last : StatusesAreSent journals.one_disk (turn refused.linked_comes (said (notes.Got 5)) (refused.ends_linked 0x41000000)) → ⊥
  pub status_to_other_fifo : StatusesAreSent journals.one_disk (turn (journals.told journals.till_orb) (said (notes.Got 4)) (refused.ends_by (refused.block_packet 0x13000020 0x41000000 0x10000000))) → ⊥
  pub status_of_other_slot : StatusesAreSent journals.one_disk (turn (journals.told journals.till_orb) (said (notes.Got 4)) (refused.ends_by (refused.block_packet 0x13000000 0x41000000 0x10000040))) → ⊥
  pub response_left_out : EachTurn (DecisionsAreSent journals.one_disk) refused.response_left_out → ⊥
  pub response_otherwise : EachTurn (DecisionsAreSent journals.one_disk) (journals.responds 0xfffff0040020) → ⊥
  pub query_answered : DecisionsAreSent journals.one_disk (turn refused.query_comes (said (notes.Got 4)) (refused.answers_query 1))
  pub query_answered_otherwise : DecisionsAreSent journals.one_disk (turn refused.query_comes (said (notes.Got 4)) (refused.answers_query 2)) → ⊥
  pub block_of_other_orb : EachTurn (DecisionsAreSent journals.one_disk) refused.management_status_elsewhere → ⊥
  pub block_left_out : EachTurn (DecisionsAreSent journals.one_disk) refused.block_left_out → ⊥
  pub rests : IsAtRest journals.one_disk (refused.rereads []) 0 (agent_at (over (target_at journals.one_disk (refused.rereads []))) 0)
  pub rests_rung : (a : Agent) → IsAtRest journals.one_disk (refused.rereads refused.rings_again) 0 a → ⊥
  pub rests_unanswered : (a : Agent) → IsAtRest journals.one_disk (journals.told journals.till_status) 0 a → ⊥
  pub rests_linked : (a : Agent) → IsAtRest journals.one_disk (journals.told journals.second_linked) 0 a → ⊥
  pub reads_unasked : EachMoment (NoneUnasked rare.untold_disk) (history (refused.target_sends (refused.reads_the_other ∷ [])).entries) → ⊥
  pub status_unannounced : EachMoment (NoneUnasked journals.empty_bay) refused.tells_unannounced → ⊥
