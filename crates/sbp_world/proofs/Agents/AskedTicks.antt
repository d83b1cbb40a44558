-- A second that goes by leaves all desks waiting for what left.
use Rattle.sbp_world.proofs.Words.Std.{◌≡◌, ◌∙◌, refl, sym, ap, subst, ℕ, zero, suc, ◌+◌, Bool, true, false, cond, List, length, Option, Some, None, get_or-map, slice_index_or, same_Some, none-some}
use Rattle.sbp_world.proofs.Words.Wire.{Outgoing, OutboxState}
use Rattle.sbp_world.proofs.Words.Target.{Login, is_last, one_less, tick_step, after, NodeState, desk_at, login_at, scene, expired_from, with_side}
use Rattle.sbp_world.proofs.Words.World.{AllAsk, AsksReally, TicksAskLaw}
use Rattle.login_table.specs.Table.{ticked}
use Rattle.sbp_journal.specs.declared.side.Side.TheVariants as sides
use Rattle.sbp_target.specs.Receiving as receiving

told_same : (left at : ℕ) (logins : List ℕ) (o : OutboxState) → (expired_from left at logins o).packets ≡ o.packets
unfolding expired_from
told_same zero at logins o = refl
told_same (suc left) at logins o = told_same left (at + 1) logins (with_side o (sides.Expired (slice_index_or logins at 0)))

-- a login that is left has its FIFO
record WasThere (l : Option Login) (login : Login) : Type 0 where
  before : Login
  is : l ≡ Some before
  fifo : before.fifo ≡ login.fifo

was_by : (b : Bool) (x login : Login) → cond b None (Some (record x { remaining = one_less x.remaining })) ≡ Some login → WasThere (Some x) login
was_by true x login e = absurd (none-some login e)
was_by false x login e = record { before = x; is = refl; fifo = ap (λ (l : Login). l.fifo) (same_Some (record x { remaining = one_less x.remaining }) login e) }

was_there : (l : Option Login) (login : Login) → ticked l ≡ Some login → WasThere l login
was_there None login e = absurd (none-some login e)
was_there (Some x) login e = was_by (is_last x.remaining) x login e

pub ticks : (node : NodeState) (outbox : OutboxState) → AllAsk outbox.packets node → (let s = receiving.ticked (scene node outbox) in AllAsk s.outbox.packets s.node)
unfolding receiving.ticked
ticks node outbox a =
    let t = tick_step node.logins in
    record {
      all = λ p login l e.
          let w = was_there (login_at node p) login (sym (get_or-map ticked node.logins.places p None) ∙ e) in
          subst (λ (ps : List Outgoing). AsksReally ps login.fifo (desk_at node p)) (sym (told_same (length t.0) 0 t.0 outbox))
          (subst (λ (fifo : ℕ). AsksReally outbox.packets fifo (desk_at node p)) w.fifo (a.all p w.before l w.is));
    }

pub ticks_law : TicksAskLaw
ticks_law units ready calls outbox a = ticks (after units ready calls) outbox a
