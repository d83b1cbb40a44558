-- The refusal of an action of a run.
use Rattle.sbp_world.proofs.Words.Std.{◌≡◌, refl, sym, ◌∙◌, ap, ℕ, ◌<◌, ◌&&◌, not, Bool, true, false, List}
use Rattle.sbp_world.proofs.Words.Wire.{OutboxState, Refusals, refusal_of, Moment, Action}
use Rattle.sbp_world.proofs.Words.Initiator.{InitiatorState, act_step, facts_with, ends_list, operation_of, refusal, rows_of, sends, finds_label}
use Rattle.sbp_world.proofs.Words.Laws.{refusal_at, refusals, Host, host_at}
use Rattle.sbp_world.proofs.Words.World.{history_of, Run, HasRows, RunRefusalLaw, is_decided, IsRun}
use Rattle.sbp_journal.specs.declared.event.Action.TheVariants as actions
use Rattle.sbp_initiator.proofs.FirstRow.{refusal_law}
use Rattle.sbp_world.specs.Hosts.Refusing.{initiator_of}
use Rattle.sbp_world.proofs.Hosts.Hosted.{host_law}
use Rattle.sbp_world.proofs.Hosts.Refusing.{run_action_law}
use Rattle.sbp_world.proofs.Common.{untrue}

-- the rows that neither the lists nor the session are read for
pub record Plain (run own : Refusals) : Type 0 where
  pub no_rom : run.no_rom ≡ own.no_rom
  pub dead_seen : run.dead_seen ≡ own.dead_seen

pub rows_same : (r q : Refusals) → r.stuck ≡ q.stuck → r.wrong_state ≡ q.wrong_state → r.waiting ≡ q.waiting → HasRows r q → Plain r q → r.no_label ≡ q.no_label → refusal_of r ≡ refusal_of q
rows_same r q a b d h p l =
    ap refusal_of (
    ap (λ x. record r { stuck = x }) a
    ∙ ap (λ x. record r { stuck = q.stuck; wrong_state = x }) b
    ∙ ap (λ x. record r { stuck = q.stuck; wrong_state = q.wrong_state; no_rom = x }) p.no_rom
    ∙ ap (λ x. record r { stuck = q.stuck; wrong_state = q.wrong_state; no_rom = q.no_rom; waiting = x }) d
    ∙ ap (λ x. record r { stuck = q.stuck; wrong_state = q.wrong_state; no_rom = q.no_rom; waiting = q.waiting; mid_link = x }) h.mid_link
    ∙ ap (λ x. record r { stuck = q.stuck; wrong_state = q.wrong_state; no_rom = q.no_rom; waiting = q.waiting; mid_link = q.mid_link; not_linking = x }) h.not_linking
    ∙ ap (λ x. record r { stuck = q.stuck; wrong_state = q.wrong_state; no_rom = q.no_rom; waiting = q.waiting; mid_link = q.mid_link; not_linking = q.not_linking; dead_seen = x }) p.dead_seen
    ∙ ap (λ x. record r { stuck = q.stuck; wrong_state = q.wrong_state; no_rom = q.no_rom; waiting = q.waiting; mid_link = q.mid_link; not_linking = q.not_linking; dead_seen = q.dead_seen; no_orb = x }) h.no_orb
    ∙ ap (λ x. record r { stuck = q.stuck; wrong_state = q.wrong_state; no_rom = q.no_rom; waiting = q.waiting; mid_link = q.mid_link; not_linking = q.not_linking; dead_seen = q.dead_seen; no_orb = q.no_orb; no_slot = x }) h.no_slot
    ∙ ap (λ x. record q { no_label = x }) l)

module _ (past : List Moment) (i : ℕ) (host : Host) (has_label : Bool) (s : InitiatorState) where
  plain_rows : (action : Action) → is_decided action ≡ true → Plain (refusals past i action host) (rows_of action (facts_with has_label s action))
  plain_rows (actions.Put cmd) e = untrue e
  plain_rows (actions.Append cmd) e = untrue e
  plain_rows actions.Low e = record { no_rom = refl; dead_seen = refl }
  plain_rows actions.Link e = record { no_rom = refl; dead_seen = refl }
  plain_rows actions.Ring e = untrue e
  plain_rows (actions.Dummy orb) e = record { no_rom = refl; dead_seen = refl }
  plain_rows actions.Rom e = record { no_rom = refl; dead_seen = refl }
  plain_rows actions.AgentReset e = untrue e
  plain_rows actions.State e = record { no_rom = refl; dead_seen = refl }
  plain_rows actions.Enable e = record { no_rom = refl; dead_seen = refl }
  plain_rows (actions.Login unit reconnect exclusive password) e = untrue e
  plain_rows (actions.Query unit) e = untrue e
  plain_rows actions.Reconnect e = record { no_rom = refl; dead_seen = refl }
  plain_rows actions.Logout e = untrue e
  plain_rows (actions.Abort orb) e = record { no_rom = refl; dead_seen = refl }
  plain_rows actions.AbortSet e = untrue e
  plain_rows actions.UnitReset e = untrue e
  plain_rows actions.TargetReset e = untrue e

ends_none : (action : Action) → is_decided action ≡ true → ends_list (operation_of action) ≡ false
ends_none (actions.Put cmd) e = untrue e
ends_none (actions.Append cmd) e = untrue e
ends_none actions.Low e = refl
ends_none actions.Link e = refl
ends_none actions.Ring e = untrue e
ends_none (actions.Dummy orb) e = refl
ends_none actions.Rom e = refl
ends_none actions.AgentReset e = untrue e
ends_none actions.State e = refl
ends_none actions.Enable e = refl
ends_none (actions.Login unit reconnect exclusive password) e = untrue e
ends_none (actions.Query unit) e = untrue e
ends_none actions.Reconnect e = refl
ends_none actions.Logout e = untrue e
ends_none (actions.Abort orb) e = refl
ends_none actions.AbortSet e = untrue e
ends_none actions.UnitReset e = untrue e
ends_none actions.TargetReset e = untrue e

-- an action that sends nothing finds no want of a label
none_lacks : (action : Action) (past : List Moment) (i : ℕ) (host : Host) (s : InitiatorState) → is_decided action ≡ true → sends action ≡ false → (refusals past i action host).no_label ≡ (sends action && not (finds_label action s))
none_lacks (actions.Put cmd) past i host s e f = untrue e
none_lacks (actions.Append cmd) past i host s e f = untrue e
none_lacks actions.Low past i host s e f = refl
none_lacks actions.Link past i host s e f = refl
none_lacks actions.Ring past i host s e f = untrue e
none_lacks (actions.Dummy orb) past i host s e f = refl
none_lacks actions.Rom past i host s e f = untrue (sym f)
none_lacks actions.AgentReset past i host s e f = untrue e
none_lacks actions.State past i host s e f = untrue (sym f)
none_lacks actions.Enable past i host s e f = untrue (sym f)
none_lacks (actions.Login unit reconnect exclusive password) past i host s e f = untrue e
none_lacks (actions.Query unit) past i host s e f = untrue e
none_lacks actions.Reconnect past i host s e f = untrue (sym f)
none_lacks actions.Logout past i host s e f = untrue e
none_lacks (actions.Abort orb) past i host s e f = untrue (sym f)
none_lacks actions.AbortSet past i host s e f = untrue e
none_lacks actions.UnitReset past i host s e f = untrue e
none_lacks actions.TargetReset past i host s e f = untrue e

decided_by : (line : ℕ) (run : Run) → IsRun run → (i : ℕ) → i < run.initiators → (action : Action) (o : OutboxState) → is_decided action ≡ true → (refusals (history_of line run) i action (host_at (history_of line run) i)).no_label ≡ (sends action && not (finds_label action (initiator_of run i))) → refusal_at (history_of line run) i action ≡ (act_step action o (initiator_of run i)).0
unfolding refusal
decided_by line run r i b action o e l =
    let s = initiator_of run i in
    let past = history_of line run in
    let host = host_at past i in
    let has_label = finds_label action s in
    let session = host_law.rows line run r i b action has_label in
    rows_same (refusals past i action host) (rows_of action (facts_with has_label s action)) session.stuck session.wrong_state (session.waiting (ends_none action e)) (run_action_law.rows line run r i b action host has_label) (plain_rows past i host has_label s action e) l
    ∙ sym (refusal_law.first action o s)

pub run_refusal_law : RunRefusalLaw
run_refusal_law = record {
  decided = decided_by;
  silent = λ line run r i b action o e f. decided_by line run r i b action o e (none_lacks action (history_of line run) i (host_at (history_of line run) i) (initiator_of run i) e f);
}
