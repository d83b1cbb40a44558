-- An ID of a login and a FIFO: where the table has a login with this ID, held or live, it has this FIFO. So it stays, as no ID is given twice and a login keeps its FIFO.
use Rattle.sbp_world.proofs.Words.Std.{arith, ◌≡◌, ◌∙◌, refl, sym, subst, inl, inr, ◌⊎◌, ℕ, ◌+◌, ◌<◌, ◌≤◌, ◌≢◌, nat_eq, Bool, true, false, List, length, Some, nat_tests}
use Rattle.sbp_world.proofs.Words.Wire.{Moment}
use Rattle.sbp_world.proofs.Words.Target.{Login, LoginRequest, IsTable, Table, asked_by, place_at, Disk}
use Rattle.sbp_world.proofs.Words.World.{AreRising, FewLogins, HasFewIds, HasLogin, Scene}
use Rattle.sbp_world.proofs.Agents.Management.Holding.{Holding}
use Rattle.sbp_world.proofs.Agents.Management.Still.{hist}
use Rattle.sbp_world.proofs.Lists.Courses.{Goes}
use Rattle.sbp_world.proofs.Lists.IdsRise.{Decides, IsEntered, IsNew, IsStill, entered_next, enters, leaves, returns}
use Rattle.sbp_world.proofs.Lists.IdsRuns.{IsDecision, TableTurn, decides, decision_made, last_few, stays, table_turn}

pub record HasFifo (table : Table) (id fifo : ℕ) : Type 0 where
  pub small : id ≤ table.last
  pub tied : (place : ℕ) (login : Login) → place_at table.places place ≡ Some login → login.login ≡ id → login.fifo ≡ fifo

-- ---- where the table has such a login
module _ (table : Table) (sound : IsTable table) (rising : AreRising table) (node id fifo : ℕ) (has : HasLogin table.places node id) (is : has.login.fifo ≡ fifo) where
  at_place : (place : ℕ) (login : Login) → place_at table.places place ≡ Some login → login.login ≡ id → (b : Bool) → nat_eq place has.place ≡ b → login.fifo ≡ fifo
  at_place place login there same true e =
      let one : place ≡ has.place = grind (arith, nat_tests) in
      let both : Some login ≡ Some has.login = sym there ∙ subst (λ p. place_at table.places p ≡ Some has.login) (sym one) has.there in
      let own : login ≡ has.login = cc in
      subst (λ (l : Login). l.fifo ≡ fifo) (sym own) is
  at_place place login there same false e =
      let away : place ≢ has.place = (λ f. let yes : nat_eq place has.place ≡ true = grind (arith, nat_tests) in let no : false ≡ true = sym e ∙ yes in cc) in
      absurd ((sound.sound.apart place has.place login has.login away there has.there).ids (same ∙ sym has.own))

  pub login_tied : HasFifo table id fifo
  login_tied = record {
    small = (let l = rising has.place has.login has.there in let o = has.own in omega (arith, l, o));
    tied = λ place login there same. at_place place login there same (nat_eq place has.place) refl;
  }

-- ---- it stays so
module _ (id fifo : ℕ) where
  still_tied : (t now : Table) → IsStill t now → HasFifo t id fifo → HasFifo now id fifo
  still_tied t now x tie = record {
    small = (let l = tie.small in let e = x.last in omega (arith, l, e));
    tied = λ place login there same. (let c = x.came place login there in c.fifo ∙ tie.tied place c.before c.there (sym c.login ∙ same));
  }

  entered_tied : (asked : LoginRequest) (t now : Table) → now.last ≡ t.last + 1 → IsEntered asked t now → HasFifo t id fifo → HasFifo now id fifo
  entered_tied asked t now next x tie = record {
    small = (let l = tie.small in omega (arith, l, next));
    tied = λ place login there same. by place login same (x.come place login there);
  }
    where
      by : (place : ℕ) (login : Login) → login.login ≡ id → IsNew asked now.last login ⊎ (place_at t.places place ≡ Some login) → login.fifo ≡ fifo
      by place login same (inl n) = let a = n.login in let l = tie.small in absurd (omega (arith, a, l, same, next))
      by place login same (inr there) = tie.tied place login there same

  module _ (units ready : ℕ) (more_units : 0 < units) (start : List Disk) (past : List Moment) (s : Scene) (later : List Moment) (t : Scene) {lines more : ℕ} (g : Goes past s later t) (h : Holding units ready start past lines s.world) (h_now : Holding units ready start later more t.world) (some : 0 < length s.world.initiators) (few : FewLogins (hist later t.world)) (ids : HasFewIds (hist past s.world) s.world.target.logins) (tie : HasFifo s.world.target.logins id fifo) where
    decided_tied : (d : IsDecision s.world t.world) → Decides d.on.on.orb d.on.on.source d.on.on.eui s.world.target.logins t.world.target.logins → HasFifo t.world.target.logins id fifo
    decided_tied d (leaves x lives) = still_tied s.world.target.logins t.world.target.logins x tie
    decided_tied d (returns f x lives) = still_tied s.world.target.logins t.world.target.logins x tie
    decided_tied d (enters f x) =
        let asked = asked_by d.on.on.orb d.on.on.source d.on.on.eui in
        entered_tied asked s.world.target.logins t.world.target.logins
        (entered_next asked s.world.target.logins t.world.target.logins ids.rising (last_few units ready more_units start past s later t g h h_now some few ids) x) x tie

    by_turn : TableTurn s.world t.world → HasFifo t.world.target.logins id fifo
    by_turn (stays x lives) = still_tied s.world.target.logins t.world.target.logins x tie
    by_turn (decides d) = decided_tied d (decision_made units ready more_units start past s later t g h some d)

    pub turn_tied : HasFifo t.world.target.logins id fifo
    turn_tied = by_turn (table_turn units ready more_units start past s later t g h some)
