-- At the start of a run the logins that have an ID of an initiator have the FIFO of a login, and each login of its node has such an ID. And wherever it is so, each live login
-- of the node has the FIFO of a login.
use Rattle.sbp_world.proofs.Words.Std.{◌≡◌, ◌∙◌, inl, refl, sym, ap, subst, ℕ, ◌<◌, ◌≤◌, true, List, [], length, Some}
use Rattle.sbp_world.proofs.Words.Wire.{Moment}
use Rattle.sbp_world.proofs.Words.Target.{Login, Table, is_live, place_at, Disk}
use Rattle.sbp_world.proofs.Words.World.{moments_behind, new_world, ready_logins, Run, beginning, IsLoginFifo, AreOwnIds}
use Rattle.sbp_world.proofs.Agents.Management.Begins.{first_holds}
use Rattle.sbp_world.proofs.Lists.KeptTurns.{id_is}
use Rattle.sbp_world.proofs.Lists.LiveSteps.{id_in}
use Rattle.sbp_world.proofs.Lists.OwnLogins.{table_owns}
use Rattle.sbp_world.proofs.Lists.OwnTables.{Owns, owned}

-- ---- at the start
pub first_own : (line : ℕ) (run : Run) → run.initiators ≤ 4 → 0 < run.units → run.units ≤ 4 → length run.start.disks ≡ run.units → (i : ℕ) → i < length (beginning run).world.initiators → AreOwnIds run.start.disks (moments_behind line run []) i (id_in (beginning run).world i) (beginning run).world.target.logins
unfolding new_world
first_own line run few has small size i inside =
    let h = first_holds run.initiators run.ready run.units line run.start.disks few small size in
    let table = h.at.agrees.table in
    record {
      fifo = λ place login e o. owned (beginning run).world.target.logins.places (subst (λ (x : Table). Owns x.places) table (table_owns run.ready run.initiators)) place login e;
      own = λ place login e live node. inl (record {
        place = place;
        login = login;
        there = ap (λ (x : Table). place_at x.places place) table ∙ e;
        live = live;
        node = node ∙ sym (id_is run.units (ready_logins run.initiators run.ready) has run.start.disks (beginning run).world h i inside);
        own = refl;
      });
    }

-- each live login of the node has the FIFO of a login
pub own_fifo : (start : List Disk) (past : List Moment) (i node : ℕ) (table : Table) → AreOwnIds start past i node table → (place : ℕ) (login : Login) → place_at table.places place ≡ Some login → is_live login ≡ true → login.node ≡ node → IsLoginFifo login.fifo
own_fifo start past i node table own place login e live of = own.fifo place login e (own.own place login e live of)
