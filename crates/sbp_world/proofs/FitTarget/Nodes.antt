-- What fits stays so where a part of a target changes.
use Rattle.sbp_world.proofs.Words.Std.{arith, ◌≡◌, refl, sym, ◌∙◌, subst, ℕ, ◌^◌, ◌<◌, ◌≤◌, nat_le, ◌==◌, Bool, true, false, cond, List, length, Option, Some, None, nat_tests, length-set}
use Rattle.sbp_world.proofs.Words.Wire.{largest, AreBytes, FitsRequest, Body, block_read, block_write, quadlet_read, Layer}
use Rattle.sbp_world.proofs.Words.Target.{Login, Table, Desk, Purpose, Sent, agent_body, new_desk, manager_body, NodeState, login_at, with_desk}
use Rattle.sbp_world.proofs.Words.Initiator.{Ask, Read, Write, Nothing}
use Rattle.sbp_world.proofs.Words.World.{FitsAgent, FitsManager, FitsSeat, IsOfKnown}
use Rattle.bus_transactions.proofs.Fits.{put_or}
use Rattle.mgmt_agent.specs.Machine as management
use Rattle.sbp_world.specs.FitTarget.{Fits}
use Rattle.sbp_world.proofs.FitTarget.Agents.{FitsAsk}
use Rattle.sbp_world.proofs.FitTarget.Manager.{AllTurn}

-- ---- bodies
abbrev pub IfBody : Option Body → Type 0
IfBody None = Unit {0}
IfBody (Some body) = FitsRequest body

read_body : (b : Bool) (offset len : ℕ) → nat_le len largest ≡ b → offset < 2 ^ 48 → IfBody (cond b (Some (block_read offset len)) None)
read_body true offset len e h = (h, small)
  where
    small : len ≤ largest
    small = grind (arith, nat_tests)
read_body false offset len e h = tt

write_body : (b : Bool) (offset : ℕ) (outgoing : List ℕ) → nat_le (length outgoing) largest ≡ b → offset < 2 ^ 48 → AreBytes outgoing → IfBody (cond b (Some (block_write offset outgoing)) None)
write_body true offset outgoing e h a = (h, small, a)
  where
    small : length outgoing ≤ largest
    small = grind (arith, nat_tests)
write_body false offset outgoing e h a = tt

either_fits : (b : Bool) (x y : ℕ) → x < 2 ^ 48 → y < 2 ^ 48 → cond b x y < 2 ^ 48
either_fits true x y h i = h
either_fits false x y h i = i

pub agent_body_fits : (ask : Ask) (is_status : Bool) (fifo : ℕ) (outgoing : List ℕ) → FitsAsk ask → fifo < 2 ^ 48 → AreBytes outgoing → IfBody (agent_body ask is_status fifo outgoing)
agent_body_fits (Read offset len) is_status fifo outgoing h f a = read_body (nat_le len largest) offset len refl h
agent_body_fits (Write offset len) is_status fifo outgoing h f a =
    write_body (nat_le (length outgoing) largest) (cond is_status fifo offset) outgoing refl (either_fits is_status fifo offset f h) a
agent_body_fits Nothing is_status fifo outgoing h f a = tt

pick_body : (b : Bool) (x y : Option Body) → IfBody x → IfBody y → IfBody (cond b x y)
pick_body true x y h i = h
pick_body false x y h i = i

pub manager_body_fits : (ask : Ask) (outgoing : List ℕ) → FitsAsk ask → AreBytes outgoing → IfBody (manager_body ask outgoing)
manager_body_fits (Read offset len) outgoing h a =
    pick_body (len == 4) (Some (quadlet_read offset)) (agent_body (Read offset len) false 0 outgoing) h (agent_body_fits (Read offset len) false 0 outgoing h (omega arith) a)
manager_body_fits (Write offset len) outgoing h a = agent_body_fits (Write offset len) false 0 outgoing h (omega arith) a
manager_body_fits Nothing outgoing h a = tt

-- ---- parts of a target
module _ (known : ℕ → Type 0) where
  pub none_main : (login : Option Login) (sent : Sent) → None ≡ Some sent → known sent.peer × IsOfKnown known login
  none_main login sent e = absurd (off sent e)
    where
      off : (sent : Sent) → None ≡ Some sent → ⊥
      off sent f = cc

  pub fits_layer : (node : NodeState) (layer : Layer Purpose) → Fits known node → Fits known (record node { layer = layer })
  fits_layer node layer f = record { manager = f.manager; logins = f.logins; size = f.size; agents = f.agents; seats = f.seats; rom = f.rom }

  pub fits_desk : (q : ℕ) (node : NodeState) (d : Desk) → FitsAgent d.agent → FitsSeat known d.main d.ahead (login_at node q) → Fits known node → Fits known (with_desk node q d)
  fits_desk q node d a s f = record {
    manager = f.manager;
    logins = f.logins;
    size = length-set node.desks q d ∙ f.size;
    agents = λ p. put_or (λ (x : Desk). FitsAgent x.agent) node.desks q p d new_desk (λ e. a) (f.agents p);
    seats = λ p. put_or (λ (x : Desk). FitsSeat known x.main x.ahead (login_at node p)) node.desks q p d new_desk
        (λ e. subst (λ (n : ℕ). FitsSeat known d.main d.ahead (login_at node n)) (sym e) s) (f.seats p);
    rom = f.rom;
  }

  pub fits_manager : (node : NodeState) (manager : management.Machine) (logins : Table) → FitsManager known manager → AllTurn known node.logins logins → Fits known node → Fits known (record node { manager = manager; logins = logins })
  fits_manager node manager logins m t f = record {
    manager = m;
    logins = λ p. (t p).fits (f.logins p);
    size = f.size;
    agents = f.agents;
    seats = λ p. let s = f.seats p in record {
      main = λ sent e. let h = s.main sent e in (h.0, (t p).of h.1);
      ahead = λ sent e. let h = s.ahead sent e in (h.0, (t p).of h.1);
    };
    rom = f.rom;
  }

  -- without what is under way
  pub seat_reset : (login : Option Login) → FitsSeat known None None login
  seat_reset login = record { main = none_main login; ahead = none_main login }
