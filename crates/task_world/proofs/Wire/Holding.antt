-- What holds of a task world beside its wire: its initiator and its node know the nodes that they ask, and its target is the seat of the node.
use Rattle.sbp_world.proofs.Words.Std.{◌≡◌, ◌∙◌, sym, ap, subst, arith, length, ℕ, List}
use Rattle.sbp_world.proofs.Words.Wire.{GenerationsState, Moment, bare}
use Rattle.sbp_world.proofs.Words.Target.{NodeState}
use Rattle.sbp_world.proofs.Words.World.{WorldState, with_target}
use Rattle.sbp_world.proofs.Wire.Holding.{KnownTo, OwnGoes, OwnSound, own_alike}
use Rattle.sbp_world.proofs.Wire.Nodes.{Lands}
use Rattle.sbp_bus.specs.Generations.{new_generations}
use Rattle.sbp_bus.proofs.Making.{ids_size}
use Rattle.task_target.specs.Nodes.{TaskNode}
use Rattle.task_world.specs.Fitting.{Holds}
use Rattle.task_world.specs.Seats.{seat}
use Rattle.task_world.proofs.Wire.Seats.{retag_bare}

pub record TaskSound (past : List Moment) (lines : ℕ) (w : WorldState) (node : TaskNode) : Type 0 where
  pub own : OwnSound past lines w
  pub target_is : w.target ≡ seat node
  pub bus : w.generations ≡ new_generations 2
  pub holds : Holds (KnownTo w.generations.seen) node

pub same_layer : {past : List Moment} {lines : ℕ} (w : WorldState) (node : TaskNode) → TaskSound past lines w node → bare w.target.layer ≡ bare node.layer
same_layer w node s = ap (λ (t : NodeState). bare t.layer) s.target_is ∙ retag_bare node.layer

holds_as : (w v : WorldState) (node : TaskNode) → v.generations ≡ w.generations → Holds (KnownTo w.generations.seen) node → Holds (KnownTo v.generations.seen) node
holds_as w v node e h = subst (λ (g : GenerationsState). Holds (KnownTo g.seen) node) (sym e) h

-- the node has another state
pub lands_node : {past : List Moment} {lines : ℕ} (w v : WorldState) (old node : TaskNode) → TaskSound past lines w old → Lands past (with_target (seat node) w) v → Holds (KnownTo w.generations.seen) node → TaskSound past lines v node
lands_node {lines = lines} w v old node s l h = record {
  own = record { stands = l.stands; own = own_alike (with_target (seat node) w) v lines l.alike s.own.own };
  target_is = l.alike.target;
  bus = l.alike.generations ∙ s.bus;
  holds = holds_as w v node l.alike.generations h;
}

-- and has the state that it had
pub own_node : {past : List Moment} {before lines : ℕ} {earlier : List Moment} (w v : WorldState) (node : TaskNode) → TaskSound earlier before w node → OwnGoes past lines w v → TaskSound past lines v node
own_node w v node s o = record { own = o.sound; target_is = o.target ∙ s.target_is; bus = o.generations ∙ s.bus; holds = holds_as w v node o.generations s.holds }

-- there is one initiator
pub one_initiator : {past : List Moment} {lines : ℕ} (w : WorldState) (node : TaskNode) → TaskSound past lines w node → length w.initiators ≡ 1
one_initiator w node s =
    let size = s.own.stands.is.size in
    let two : length w.generations.latest.ids ≡ 2 = ap (λ (g : GenerationsState). length g.latest.ids) s.bus ∙ ids_size 2 in
    omega (arith, size, two)
