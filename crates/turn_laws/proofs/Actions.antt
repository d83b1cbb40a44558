-- What an action of an initiator brings, in each turn of every run that begins with its line.
use Rattle.std.proofs.Common.{◌≡◌, ◌∙◌, refl, sym, ap, subst, ℕ, ◌+◌, ◌<◌, false, List, length, Option, Some, None}
use Rattle.rbc_disk.specs.Disk.{Disk}
use Rattle.sbp_initiator.specs.Acting.{act_step}
use Rattle.sbp_initiator.specs.Effects.{Turn as Called}
use Rattle.sbp_initiator.specs.Histories.Ends.{own}
use Rattle.sbp_initiator.specs.declared.state.InitiatorState.{InitiatorState}
use Rattle.sbp_journal.specs.Outgoings.{OutboxState, empty_outbox}
use Rattle.sbp_journal.specs.Run.{Moment, asked}
use Rattle.sbp_journal.specs.declared.event.Action.{Action}
use Rattle.sbp_journal.specs.declared.event.Event.{Event}
use Rattle.sbp_journal.specs.declared.event.Event.TheVariants as events
use Rattle.sbp_journal.specs.declared.note.Note.{Note}
use Rattle.sbp_laws.specs.ActionLaw.{Acts, ActsOr}
use Rattle.sbp_laws.specs.Actions.{action_notes, refusal_at}
use Rattle.sbp_laws.specs.LineLaw.{refused}
use Rattle.sbp_laws.specs.Turns.{turn}
use Rattle.sbp_world.specs.Hosts.Fits.{AreRows}
use Rattle.sbp_world.specs.Lines.{weight_in}
use Rattle.sbp_world.specs.Worlds.{Scene, WorldState, initiator_at}
use Rattle.sbp_world.proofs.Agents.Management.Still.{hist}
use Rattle.sbp_world.proofs.Common.{untrue}
use Rattle.sbp_world.proofs.Hosts.Telling.{action_law}
use Rattle.turn_laws.specs.Actions.{ActionsLaw, ActsByRows}
use Rattle.turn_laws.proofs.ActNotes.{acts_as_told}
use Rattle.turn_laws.proofs.ActTies.{refused_by_rows}
use Rattle.turn_laws.proofs.Calls.{Brings, calls, injects, is_act, loses, refuses, refuses_action, resets, sets_key}
use Rattle.turn_laws.proofs.Handed.{handed}
use Rattle.turn_laws.proofs.KnownRuns.{Known, KnowingCases, of_every_known}
use Rattle.turn_laws.proofs.Pass.{call_no_act}
use Rattle.turn_laws.proofs.Places.{Place}
use Rattle.turn_laws.proofs.ReadsUnderWay.{AreTimely}
use Rattle.turn_laws.proofs.Timely.{Timely, untimed}

by_refusal : (number : Option ℕ) (past : List Moment) (line i : ℕ) (action : Action) (told : List Note) (refusal : ℕ) → number ≡ Some refusal → told ≡ refused line refusal → ActsOr number past line i action told
by_refusal (Some number) past line i action told refusal f g = g ∙ ap (refused line) (sym (let same : number ≡ refusal = cc in same))
by_refusal None past line i action told refusal f g = absurd (let no : None ≡ Some refusal = f in cc)

by_notes : (number : Option ℕ) (past : List Moment) (line i : ℕ) (action : Action) (told : List Note) → number ≡ None → Acts past i action told → ActsOr number past line i action told
by_notes None past line i action told e h = h
by_notes (Some number) past line i action told e h = absurd (let no : Some number ≡ None = e in cc)

module _ (units ready : ℕ) (start : List Disk) where
  -- an action that is done tells the notes of its line
  module _ (past : List Moment) (s : Scene) (here : Place units ready start past s) (i : ℕ) (inside : i < length s.world.initiators) (action : Action) where
    pub sides_are : (outbox : OutboxState) (state : InitiatorState) → act_step action empty_outbox (initiator_at s.world i) ≡ (None, (outbox, state)) → outbox.sides ≡ own (action_notes action (hist past s.world) i)
    sides_are outbox state e =
        let ms = hist past s.world in
        let old = initiator_at s.world i in
        let h = here.hosts i inside in
        ap (λ (x : Option ℕ × Called). x.1.0.sides) (sym e)
        ∙ subst (λ j. (act_step action empty_outbox old).1.0.sides ≡ own (action_notes action ms j)) h.number
        (action_law.notes ms old action empty_outbox (subst (λ j. AreRows ms j old.lists.slots) (sym h.number) h.rows) (ap (λ (x : Option ℕ × Called). x.0) e))

  module _ (past : List Moment) (s : Scene) (here : Place units ready start past s) (k : Known start (hist past s.world) s) (timely : AreTimely (hist past s.world)) (i : ℕ) (inside : i < length s.world.initiators) (action : Action) where
    abbrev ms : List Moment
    ms = hist past s.world

    abbrev old : InitiatorState
    old = initiator_at s.world i

    pub number_is : refusal_at ms i action ≡ (act_step action empty_outbox old).0
    number_is = refused_by_rows units ready start past s here i inside (k.1.each i inside) action empty_outbox timely

    pub does_so : (line weight : ℕ) (outbox : OutboxState) (state : InitiatorState) (w : WorldState) → act_step action empty_outbox old ≡ (None, (outbox, state)) → ActsByRows (turn ms (asked line (events.Act i action)) (handed (i + 1) weight outbox w))
    does_so line weight outbox state w e =
        by_notes (refusal_at ms i action) ms line i action (handed (i + 1) weight outbox w) (number_is ∙ ap (λ (x : Option ℕ × Called). x.0) e) (acts_as_told ms i (i + 1) weight action outbox w (sides_are past s here i inside action outbox state e))

    pub refuses_so : (line number : ℕ) → (act_step action empty_outbox old).0 ≡ Some number → ActsByRows (turn ms (asked line (events.Act i action)) (refused line number))
    refuses_so line number e = by_refusal (refusal_at ms i action) ms line i action (refused line number) number (number_is ∙ e) refl

  no_action : (past : List Moment) (line : ℕ) (event : Event) (rest : List Note) → is_act event ≡ false → ActsByRows (turn past (asked line event) rest)
  no_action past line (events.Act i action) rest e = untrue (sym e)
  no_action past line _ rest e = tt

  line_acts : (past : List Moment) (s : Scene) (line : ℕ) (event : Event) (rest : List Note) → Place units ready start past s → Known start (hist past s.world) s → AreTimely (hist past s.world) → Brings line s event rest
      → ActsByRows (turn (hist past s.world) (asked line event) rest)
  line_acts past s line event rest here k timely (calls is_event c) = no_action (hist past s.world) line event rest (call_no_act event c)
  line_acts past s line event rest here k timely (refuses is_event r) = no_action (hist past s.world) line event rest r.no_act
  line_acts past s line event rest here k timely (refuses_action i action number e) = refuses_so past s here k timely i e.inside action line number e.is
  line_acts past s line event rest here k timely (resets physical generation e) = tt
  line_acts past s line event rest here k timely (loses serial) = tt
  line_acts past s line event rest here k timely (sets_key unit key) = tt
  line_acts past s line event rest here k timely (injects i bytes serial generation from to) = tt

  action_cases : KnowingCases units ready start (Timely ActsByRows)
  action_cases = record {
    heard = λ past s serial again run one found zero_to may others here behind judged k timely. tt;
    heard_own = λ past s serial again one i found to_is inside own here behind judged k timely. tt;
    late = λ past s serial request done t found node_is e others here behind judged k timely. tt;
    late_own = λ past s serial request i outbox state found node_is inside e own here behind judged k timely. tt;
    sees = λ past s others here behind judged k timely. tt;
    sees_own = λ past s i inside own here behind judged k timely. tt;
    ticks = λ past s others here behind judged k timely. tt;
    ends = λ past s done here behind k timely. tt;
    acts = λ past s line i action outbox state inside e own here behind k timely. does_so past s here k timely i inside action line (weight_in action) outbox state _ e;
    lines = λ past s line event rest behind brings fresh here there k timely. line_acts past s line event rest here k timely brings;
    begins = λ line initiators is_ready timely. tt;
  }

pub actions_law : ActionsLaw
actions_law = untimed (λ start. ActsByRows) (of_every_known (λ start. Timely ActsByRows) (λ units ready start has. action_cases units ready start))
