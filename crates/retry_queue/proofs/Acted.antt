-- What the line of an action of a queue brings: the append of its ORB, if one, and behind it steps of its list, packets, or a refusal.
use Rattle.std.proofs.Common.{◌≡◌, ◌∙◌, refl, sym, ap, subst, ℕ, zero, suc, ◌+◌, ◌<◌, Bool, true, false, List, [], ◌∷◌, ◌++◌, Option, Some, None, ◌⊎◌, inl, inr}
use Rattle.rbc_disk.specs.Runs.{Told}
use Rattle.sbp_initiator.specs.Acting.{act_step}
use Rattle.sbp_initiator.specs.Histories.Ends.{own}
use Rattle.sbp_initiator.specs.declared.state.InitiatorState.{InitiatorState}
use Rattle.sbp_journal.specs.Outgoings.{OutboxState, empty_outbox}
use Rattle.sbp_journal.specs.Run.{Moment}
use Rattle.sbp_journal.specs.declared.event.Action.{Action}
use Rattle.sbp_journal.specs.declared.event.Action.TheVariants as actions
use Rattle.sbp_journal.specs.declared.event.Event.{Event}
use Rattle.sbp_journal.specs.declared.event.Event.TheVariants as events
use Rattle.sbp_journal.specs.declared.note.Note.{Note}
use Rattle.sbp_journal.specs.declared.note.Note.TheVariants as notes
use Rattle.sbp_journal.specs.declared.side.Side.TheVariants as sides
use Rattle.sbp_laws.specs.Actions.{action_notes, buffer_of, link_notes, new_list, new_number}
use Rattle.sbp_world.specs.Histories.{moments_behind}
use Rattle.sbp_world.specs.Hosts.Runs.{IsRun}
use Rattle.sbp_world.specs.Lines.{acted, acted_by, happens, weight_in}
use Rattle.sbp_world.specs.Lists.Opened.{AllOf}
use Rattle.sbp_world.specs.Runs.{Entry, IsNext, Run, after, beginning}
use Rattle.sbp_world.specs.Sending.{sent_all}
use Rattle.sbp_world.specs.Telling.{told, told_all}
use Rattle.sbp_world.specs.Worlds.{Scene, WorldState, initiator_at, with_initiator, without_notes}
use Rattle.sbp_world.proofs.Hosts.Refusing.{run_action_law}
use Rattle.sbp_world.proofs.Lists.JoinLaws.{moments_same}
use Rattle.sbp_world.proofs.Lists.OpenedNotes.{Behind, all_sent, behind_none, behind_one, behind_then}

-- ---- notes of an action, but for appends
abbrev pub of_action : Note → Bool
of_action (notes.Low i n k) = true
of_action (notes.Linked i n k) = true
of_action (notes.Rung i n k) = true
of_action (notes.Sent serial generation from to bytes) = true
of_action (notes.Refused line number) = true
of_action _ = false

-- the actions of a pump; it logs in on unit 0
abbrev pub IsOfPump : Action → Type 0
IsOfPump (actions.Login unit reconnect exclusive password) = unit ≡ 0
IsOfPump actions.Reconnect = Unit {0}
IsOfPump actions.AgentReset = Unit {0}
IsOfPump (actions.Append cmd) = Unit {0}
IsOfPump _ = ⊥

-- the append that an action begins with
abbrev pub opening : Action → List Moment → List Note
opening (actions.Append cmd) past = notes.Append 0 (new_list past 0) (new_number past 0) cmd.cdb (buffer_of cmd) ∷ []
opening _ past = []

-- notes one behind the other, the latest one first
abbrev onto : List Note → List Note → List Note
onto [] old = old
onto (note ∷ rest) old = onto rest (note ∷ old)

own_fresh : (weight : ℕ) (ns : List Note) (w : WorldState) → (told_all weight (own ns) w).fresh ≡ onto ns w.fresh
unfolding told_all told
own_fresh weight [] w = refl
own_fresh weight (note ∷ ns) w = own_fresh weight ns (told weight (sides.Own note) w)

onto_behind : (ns old : List Note) → AllOf of_action ns → Behind of_action old (onto ns old)
onto_behind [] old all = behind_none of_action old
onto_behind (note ∷ ns) old all =
    behind_then of_action old (note ∷ old) (onto ns (note ∷ old)) (behind_one of_action note old all.0) (onto_behind ns (note ∷ old) all.1)

links_all : (i n k : ℕ) → AllOf of_action (link_notes i n k ++ notes.Rung i n k ∷ [])
links_all i n zero = (refl, tt)
links_all i n (suc k) = (refl, (refl, (refl, tt)))

opened_first : (action : Action) (past : List Moment) → IsOfPump action → Behind of_action (opening action past) (onto (action_notes action past 0) [])
opened_first (actions.Append cmd) past pumps =
    let n = new_list past 0 in
    let k = new_number past 0 in
    onto_behind (link_notes 0 n k ++ notes.Rung 0 n k ∷ []) (notes.Append 0 n k cmd.cdb (buffer_of cmd) ∷ []) (links_all 0 n k)
opened_first (actions.Login unit reconnect exclusive password) past pumps = behind_none of_action []
opened_first actions.Reconnect past pumps = behind_none of_action []
opened_first actions.AgentReset past pumps = behind_none of_action []
opened_first _ past pumps = absurd pumps

-- ---- a line
pub record ActsSo (past : List Moment) (action : Action) (ns : List Note) : Type 0 where
  pub front : List Note
  pub opens : (front ≡ []) ⊎ (front ≡ opening action past)
  pub behind : Behind of_action front ns

acts_by : (past : List Moment) (line : ℕ) (action : Action) (w : WorldState) (x : Option ℕ × (OutboxState × InitiatorState)) → IsOfPump action → (x.0 ≡ None → x.1.0.sides ≡ own (action_notes action past 0)) → ActsSo past action (acted_by x line 0 action (without_notes w)).fresh
acts_by past line action w (Some number, (outbox, state)) pumps tells = record {
  front = [];
  opens = inl refl;
  behind = record { more = notes.Refused line number ∷ []; is = refl; all = (refl, tt) };
}
acts_by past line action w (None, (outbox, state)) pumps tells =
    let v = with_initiator 0 state (without_notes w) in
    let u = told_all (weight_in action) outbox.sides v in
    let fresh : u.fresh ≡ onto (action_notes action past 0) [] = ap (λ xs. (told_all (weight_in action) xs v).fresh) (tells refl) ∙ own_fresh (weight_in action) (action_notes action past 0) v in
    record {
      front = opening action past;
      opens = inr refl;
      behind = behind_then of_action (opening action past) u.fresh (sent_all (0 + 1) outbox.packets u).fresh
          (subst (Behind of_action (opening action past)) (sym fresh) (opened_first action past pumps))
          (all_sent of_action (0 + 1) (λ serial generation to bytes. refl) outbox.packets u);
    }

line_notes : (line : ℕ) (action : Action) (outcomes : List (Option Told)) (s : Scene) → (happens line (events.Act 0 action) outcomes s).world.fresh ≡ (acted_by (act_step action empty_outbox (initiator_at s.world 0)) line 0 action (without_notes s.world)).fresh
unfolding happens acted
line_notes line action outcomes s = refl

module _ (line : ℕ) (run : Run) (earlier : List Entry) (is_run : IsRun (record run { entries = earlier })) (some : 0 < run.initiators) where
  abbrev shorter : Run
  shorter = record run { entries = earlier }

  abbrev s : Scene
  s = after (beginning run) earlier

  abbrev past : List Moment
  past = moments_behind line run earlier

  tells : (action : Action) → (act_step action empty_outbox (initiator_at s.world 0)).0 ≡ None → (act_step action empty_outbox (initiator_at s.world 0)).1.0.sides ≡ own (action_notes action past 0)
  tells action done =
      run_action_law.notes line shorter is_run 0 some action empty_outbox done ∙ ap (λ ms. own (action_notes action ms 0)) (moments_same line run earlier earlier)

  happened : (number : ℕ) (event : Event) (action : Action) (outcomes : List (Option Told)) → event ≡ events.Act 0 action → IsOfPump action → ActsSo past action (happens number event outcomes s).world.fresh
  happened number event action outcomes is pumps =
      subst (λ e. ActsSo past action (happens number e outcomes s).world.fresh) (sym is)
      (subst (ActsSo past action) (sym (line_notes number action outcomes s))
      (acts_by past number action s.world (act_step action empty_outbox (initiator_at s.world 0)) pumps (tells action)))

  pub acts_so : (e : Entry) (action : Action) → e.event ≡ events.Act 0 action → IsOfPump action → IsNext e s → ActsSo past action e.notes
  acts_so e action is pumps next = subst (ActsSo past action) (sym next.notes_are) (happened e.line e.event action e.told is pumps)
