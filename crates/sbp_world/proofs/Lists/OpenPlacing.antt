-- The place of the agent whose ORB_POINTER a packet asks for.
use Rattle.sbp_world.proofs.Words.Std.{◌≡◌, ◌∙◌, refl, sym, ap, ℕ, same_Some}
use Rattle.sbp_world.proofs.Words.Wire.{Packet}
use Rattle.sbp_world.proofs.Words.Target.{Access, AgentRegister, demand_of, reached, row_of}
use Rattle.target_base.specs.declared.address.Demand.TheVariants as demands
use Rattle.sbp_target.proofs.Reached.{demand_place}

-- it is one place
pub one_place : (packet : Packet) (r q a b : ℕ) (x y : Access) → demand_of r packet ≡ demands.Agent a x → demand_of q packet ≡ demands.Agent b y → a ≡ b
unfolding demand_of
one_place packet r q a b x y e f =
    let c = demand_place (row_of (reached r packet)) r packet a x refl e in
    let d = demand_place (row_of (reached q packet)) q packet b y refl f in
    let same : c.found ≡ d.found = same_Some c.found d.found (sym c.at ∙ d.at) in
    sym c.own ∙ ap (λ (z : AgentRegister). z.place) same ∙ d.own
