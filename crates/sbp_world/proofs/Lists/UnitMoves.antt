-- A turn of a run leaves each login of the target on its unit, or live.
use Rattle.sbp_world.proofs.Words.Std.{◌≡◌, ◌∙◌, sym, ap, subst, ℕ, ◌<◌, Bool, List, length}
use Rattle.sbp_world.proofs.Words.Wire.{Moment}
use Rattle.sbp_world.proofs.Words.Target.{Disk, alone, NodeState}
use Rattle.sbp_world.proofs.Words.Laws.{injectors, OrderLaw}
use Rattle.sbp_world.proofs.Words.World.{after, beginning, Scene, WorldState, initiator_at, AreHeldAt, more_deliveries, IsHost}
use Rattle.sbp_world.proofs.Agents.Holders.{holders_between_law, holders_law}
use Rattle.sbp_world.proofs.Agents.Management.Holding.{Holding}
use Rattle.sbp_world.proofs.Agents.Management.Still.{hist}
use Rattle.sbp_world.proofs.Hosts.Runs.{count_after, count_between, run_law}
use Rattle.sbp_world.proofs.Wire.Nodes.{handed_alike}
use Rattle.sbp_world.proofs.Lists.Courses.{EveryPlace, Goes, by_delivery, by_end, by_line, by_start, more_than_one}
use Rattle.sbp_world.proofs.Lists.LiveTurns.{good, keeps as kept_calls}
use Rattle.sbp_world.proofs.Lists.PlaceOwners.{IsSeatedWell}
use Rattle.sbp_world.proofs.Lists.RunLaws.{order_run_law}
use Rattle.sbp_world.proofs.Lists.TurnCalls.{TurnCalls, TurnFrom, calls, keyed, leaves}
use Rattle.sbp_world.proofs.Lists.TurnWalk.{turn_calls}
use Rattle.sbp_world.proofs.Lists.UnitCalls.{call_stays}
use Rattle.sbp_world.proofs.Lists.UnitTables.{AllStay, same_stay}
use Rattle.sbp_world.proofs.Lists.Walks.{Turn, by_delivery as delivery_turn, by_end as end_turn, by_line as line_turn, by_start as start_turn}

-- ---- what is known of each place
pub record AreSeen (start : List Disk) (past : List Moment) (w : WorldState) : Type 0 where
  pub hosts : (i : ℕ) → i < length w.initiators → IsHost past i (initiator_at w i)
  pub law : OrderLaw (injectors past) past
  pub held : AreHeldAt start past w

pub seen_everywhere : EveryPlace AreSeen
seen_everywhere = record {
  after_lines = λ line run r has small size so_far. record {
    hosts = λ i b. run_law.rows line run r i (subst (λ n. i < n) (count_after run run.entries) b);
    law = order_run_law.after_lines line run r has small size so_far;
    held = holders_law line run r.few has small size r.short r.entries r.lines;
  };
  between = λ line run r has small size next most told m so_far. record {
    hosts = λ i b. run_law.between line run r next most told m i (subst (λ n. i < n) (count_between told (after (beginning run) run.entries) ∙ count_after run run.entries) b);
    law = order_run_law.between line run r has small size next (more_deliveries most) (more_than_one most) told m so_far;
    held = holders_between_law line run r.few has small size r.short r.entries r.lines next (more_deliveries most) (more_than_one most) told m;
  };
}

-- ---- a turn
as_turn : (past : List Moment) (s : Scene) (later : List Moment) (t : Scene) → Goes past s later t → Turn past s later t
as_turn _ _ _ _ (by_line past s line event told o q m) = line_turn past s line event told o q m
as_turn _ _ _ _ (by_start past s line most) = start_turn past s line (more_deliveries most) (more_than_one most)
as_turn _ _ _ _ (by_delivery past s one m none) = delivery_turn past s one m
as_turn _ _ _ _ (by_end past s done) = end_turn past s done

module _ (units ready : ℕ) (has : 0 < units) (start : List Disk) (past : List Moment) (s : Scene) (later : List Moment) (t : Scene) {lines : ℕ} (g : Goes past s later t) (h : Holding units ready start past lines s.world) (q : AreSeen start (hist past s.world) s.world) where
  abbrev wild : ℕ → Bool
  wild = injectors (hist past s.world)

  abbrev old : NodeState
  old = s.world.target

  seated : IsSeatedWell s.world
  seated = record { good = good units ready has start s.world h; seats = λ p login e. let k = q.held.held p login e in record { holder_is = k.holder; there = k.there; id_is = k.login_is } }

  from : TurnFrom wild past s.world later t.world
  from = turn_calls wild past s later t (as_turn past s later t g) seated (λ i l. (q.hosts i l).number) (λ i l. (q.hosts i l).rows) q.law

  same : t.world.target.logins ≡ old.logins → AllStay old.logins.places t.world.target.logins.places
  same e = same_stay old.logins.places t.world.target.logins.places (ap (λ x. x.places) e)

  by : TurnCalls wild later from.w t.world → AllStay old.logins.places t.world.target.logins.places
  by (leaves x none) = same (ap (λ (n : NodeState). n.logins) (x.target ∙ from.target))
  by (keyed unit key target places e) = same (ap (λ (n : NodeState). n.logins) target ∙ ap (λ (n : NodeState). n.logins) from.target)
  by (calls c) =
      let is : t.world.target ≡ (alone c.call old).node = ap (λ (v : WorldState). v.target) c.is ∙ (handed_alike 0 0 (alone c.call from.w.target).outbox c.u).target ∙ c.target ∙ ap (λ (n : NodeState). (alone c.call n).node) from.target in
      subst (λ (n : NodeState). AllStay old.logins.places n.logins.places) (sym is) (call_stays old (good units ready has start s.world h) (kept_calls units ready has start s.world h) c.call)

  pub turn_stays : AllStay old.logins.places t.world.target.logins.places
  turn_stays = by from.turn
