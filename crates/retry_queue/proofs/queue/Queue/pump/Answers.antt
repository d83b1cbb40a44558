-- A pump ran the event of its row, or was idle.
use Rattle.std.proofs.Common.{◌∙◌, ap, refl, []}
use Rattle.std.specs.List.{slice_get}
use Rattle.retry_queue.proofs.Calls.{act_event, act_pumps, append_event_fits, append_pumps, idle_form, idle_one, idle_pumps, left, none_pumps, run_form, run_one}
use Rattle.retry_queue.proofs.queue.Queue.pump.Goals as goal

pub run-requires-clause-event : goal.run-requires-clause-event
run-requires-clause-event g c =
    act_event (left c.self.inside.told.world c.self.inside.kept c.self.inside.told.notes [] []) c.self.inside.submissions.items c.args.self.now c.own.result c.in-Act.action c.own.ensures c.self.view_is c.requires.one c.in-Act.ensures

pub returns-in_ok-self-inside-in-Act-clause-one : goal.returns-in_ok-self-inside-in-Act-clause-one
returns-in_ok-self-inside-in-Act-clause-one g c =
    run_one c.args.line c.own.result (left c.self.inside.told.world c.self.inside.kept c.self.inside.told.notes _ _) (left c.run.new.self.world c.self.inside.kept c.run.new.self.notes _ _) c.self.inside.submissions.items c.args.self.now c.self.view_is c.requires.one c.in_ok-self-inside-in-Act.ensures.happens

pub returns-in_ok-self-inside-in-Act-clause-form : goal.returns-in_ok-self-inside-in-Act-clause-form
returns-in_ok-self-inside-in-Act-clause-form g c =
    run_form c.args.line c.own.result (left c.self.inside.told.world c.self.inside.kept c.self.inside.told.notes _ _) (left c.run.new.self.world c.self.inside.kept c.run.new.self.notes _ _) c.in_ok-self-inside-in-Act.ensures.happens c.in_ok-self-inside-in-Act.ensures.notes

pub returns-in_ok-self-inside-in-Act-clause-pumps : goal.returns-in_ok-self-inside-in-Act-clause-pumps
returns-in_ok-self-inside-in-Act-clause-pumps g c =
    act_pumps c.args.line c.own.result c.in-Act.action (left c.self.inside.told.world c.self.inside.kept c.self.inside.told.notes _ _) (left c.run.new.self.world _ c.run.new.self.notes _ _) c.self.inside.submissions.items c.args.self.now c.own.ensures c.self.view_is c.requires.one c.in-Act.ensures
    (record { laws = c.in_ok-self-inside-in-Act.ensures.lawful; typed = c.in_ok-self-inside-in-Act.ensures.typed; keeps = c.in_ok-self-inside-in-Act.ensures.kept; tells = c.in_ok-self-inside-in-Act.ensures.notes })

pub run-requires-in-Some-clause-event : goal.run-requires-in-Some-clause-event
run-requires-in-Some-clause-event g c =
    append_event_fits (left c.self.inside.told.world c.self.inside.kept c.self.inside.told.notes [] []) c.self.inside.submissions.items c.args.self.now c.in-Some.event.now c.self.view_is c.requires.one (c.in-Some.ensures ∙ ap (λ es. slice_get es c.self.inside.kept.next) c.as_slice.ensures.value) c.self.invariant.each

pub returns-in_ok-self-inside-in-Some-clause-one : goal.returns-in_ok-self-inside-in-Some-clause-one
returns-in_ok-self-inside-in-Some-clause-one g c =
    run_one c.args.line c.in-Some.event.now (left c.self.inside.told.world c.self.inside.kept c.self.inside.told.notes _ _) (left c.run-in-Some.new.self.world c.self.inside.kept c.run-in-Some.new.self.notes _ _) c.self.inside.submissions.items c.args.self.now c.self.view_is c.requires.one c.in_ok-self-inside-in-Some.ensures.happens

pub returns-in_ok-self-inside-in-Some-clause-form : goal.returns-in_ok-self-inside-in-Some-clause-form
returns-in_ok-self-inside-in-Some-clause-form g c =
    run_form c.args.line c.in-Some.event.now (left c.self.inside.told.world c.self.inside.kept c.self.inside.told.notes _ _) (left c.run-in-Some.new.self.world c.self.inside.kept c.run-in-Some.new.self.notes _ _) c.in_ok-self-inside-in-Some.ensures.happens c.in_ok-self-inside-in-Some.ensures.notes

pub returns-in_ok-self-inside-in-Some-clause-pumps : goal.returns-in_ok-self-inside-in-Some-clause-pumps
returns-in_ok-self-inside-in-Some-clause-pumps g c =
    append_pumps c.args.line c.in-Some.event.now (left c.self.inside.told.world c.self.inside.kept c.self.inside.told.notes _ _) (left c.run-in-Some.new.self.world _ c.run-in-Some.new.self.notes _ _) c.self.inside.submissions.items c.args.self.now c.self.view_is c.requires.one c.in-Append.ensures (c.in-Some.ensures ∙ ap (λ es. slice_get es c.self.inside.kept.next) c.as_slice.ensures.value) c.self.invariant.each
    (record { laws = c.in_ok-self-inside-in-Some.ensures.lawful; typed = c.in_ok-self-inside-in-Some.ensures.typed; keeps = c.in_ok-self-inside-in-Some.ensures.kept; tells = c.in_ok-self-inside-in-Some.ensures.notes })

pub returns-in-Idle-clause-one : goal.returns-in-Idle-clause-one
returns-in-Idle-clause-one g c =
    idle_one (left c.self.inside.told.world c.self.inside.kept c.self.inside.told.notes [] []) (left c.idle.new.self.world c.self.inside.kept c.idle.new.self.notes [] []) c.self.inside.submissions.items c.args.self.now c.self.view_is c.requires.one c.idle.ensures.world

pub returns-in-Idle-clause-form : goal.returns-in-Idle-clause-form
returns-in-Idle-clause-form g c =
    idle_form c.idle.new.self.notes c.idle.ensures.notes

pub returns-in-Idle-clause-pumps : goal.returns-in-Idle-clause-pumps
returns-in-Idle-clause-pumps g c =
    idle_pumps c.args.line (left c.self.inside.told.world c.self.inside.kept c.self.inside.told.notes _ _) (left c.idle.new.self.world c.self.inside.kept c.idle.new.self.notes _ _) c.self.inside.submissions.items c.args.self.now c.self.view_is c.in-Idle.ensures c.idle.ensures.world refl c.idle.ensures.notes refl refl

pub returns-in-None-clause-one : goal.returns-in-None-clause-one
returns-in-None-clause-one g c =
    idle_one (left c.self.inside.told.world c.self.inside.kept c.self.inside.told.notes [] []) (left c.idle-in-None.new.self.world c.self.inside.kept c.idle-in-None.new.self.notes [] []) c.self.inside.submissions.items c.args.self.now c.self.view_is c.requires.one c.idle-in-None.ensures.world

pub returns-in-None-clause-form : goal.returns-in-None-clause-form
returns-in-None-clause-form g c =
    idle_form c.idle-in-None.new.self.notes c.idle-in-None.ensures.notes

pub returns-in-None-clause-pumps : goal.returns-in-None-clause-pumps
returns-in-None-clause-pumps g c =
    none_pumps c.args.line (left c.self.inside.told.world c.self.inside.kept c.self.inside.told.notes _ _) (left c.idle-in-None.new.self.world c.self.inside.kept c.idle-in-None.new.self.notes _ _) c.self.inside.submissions.items c.args.self.now c.self.view_is c.in-Append.ensures (c.in-None.ensures ∙ ap (λ es. slice_get es c.self.inside.kept.next) c.as_slice.ensures.value) c.idle-in-None.ensures.world refl c.idle-in-None.ensures.notes refl refl
