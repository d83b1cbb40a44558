-- The response of a login and a table of logins: where the table has a login with the ID of the response, the response names the agent of its place. So it does as it is written, and so it stays, as no ID is
-- given twice and a login stays in its place.
use Rattle.sbp_world.proofs.Words.Std.{arith, ◌≡◌, ◌∙◌, refl, sym, subst, inl, inr, ◌⊎◌, ℕ, ◌+◌, ◌<◌, ◌≤◌, ◌≢◌, nat_eq, Bool, true, false, List, length, Some, nat_tests}
use Rattle.sbp_world.proofs.Words.Wire.{Moment}
use Rattle.sbp_world.proofs.Words.Target.{Login, LoginRequest, IsTable, Table, asked_by, place_at, Disk}
use Rattle.sbp_world.proofs.Words.Initiator.{LoginResponse}
use Rattle.sbp_world.proofs.Words.World.{AreRising, FewLogins, HasFewIds, HasLogin, Scene}
use Rattle.sbp_world.specs.Completing.PresentHomes.{IsBasedAt}
use Rattle.sbp_world.proofs.Agents.Management.Holding.{Holding}
use Rattle.sbp_world.proofs.Agents.Management.Still.{hist}
use Rattle.sbp_world.proofs.Lists.Courses.{Goes}
use Rattle.sbp_world.proofs.Lists.IdsRise.{Decides, IsEntered, IsNew, IsStill, entered_next, enters, leaves, returns}
use Rattle.sbp_world.proofs.Lists.IdsRuns.{IsDecision, TableTurn, decides, decision_made, last_few, stays, table_turn}
use Rattle.sbp_world.proofs.Lists.LiveGrants.{Names}

pub record IsTied (table : Table) (response : LoginResponse) : Type 0 where
  pub small : response.login ≤ table.last
  pub tied : (place : ℕ) (login : Login) → place_at table.places place ≡ Some login → login.login ≡ response.login → IsBasedAt response.agent place

-- ---- as it is written
module _ (table : Table) (sound : IsTable table) where
  -- no login has the ID 0
  pub zero_tied : (response : LoginResponse) → response.login ≡ 0 → IsTied table response
  zero_tied response e = record {
    small = omega (arith, e);
    tied = λ place login there same. (let least = (sound.sound.numbered place login there).least in absurd (omega (arith, least, same, e)));
  }

  module _ (rising : AreRising table) (id : ℕ) (response : LoginResponse) (has : HasLogin table.places id response.login) (based : IsBasedAt response.agent has.place) where
    at_place : (place : ℕ) (login : Login) → place_at table.places place ≡ Some login → login.login ≡ response.login → (b : Bool) → nat_eq place has.place ≡ b → IsBasedAt response.agent place
    at_place place login there same true e = subst (IsBasedAt response.agent) (let same_place : has.place ≡ place = grind (arith, nat_tests) in same_place) based
    at_place place login there same false e =
        let away : place ≢ has.place = (λ f. let yes : nat_eq place has.place ≡ true = grind (arith, nat_tests) in let no : false ≡ true = sym e ∙ yes in cc) in
        absurd ((sound.sound.apart place has.place login has.login away there has.there).ids (same ∙ sym has.own))

    pub has_tied : IsTied table response
    has_tied = record {
      small = (let l = rising has.place has.login has.there in let o = has.own in omega (arith, l, o));
      tied = λ place login there same. at_place place login there same (nat_eq place has.place) refl;
    }

  pub names_tied : AreRising table → (id : ℕ) (response : LoginResponse) → Names table.places id response → IsTied table response
  names_tied rising id response n =
      has_tied rising id response n.has (subst (IsBasedAt response.agent) n.same (record { small = n.based.small; is = n.based.base }))

-- ---- it stays so
still_tied : (t now : Table) (response : LoginResponse) → IsStill t now → IsTied t response → IsTied now response
still_tied t now response x tie = record {
  small = (let l = tie.small in let e = x.last in omega (arith, l, e));
  tied = λ place login there same. (let c = x.came place login there in tie.tied place c.before c.there (sym c.login ∙ same));
}

entered_tied : (asked : LoginRequest) (t now : Table) (response : LoginResponse) → now.last ≡ t.last + 1 → IsEntered asked t now → IsTied t response → IsTied now response
entered_tied asked t now response next x tie = record {
  small = (let l = tie.small in omega (arith, l, next));
  tied = λ place login there same. by place login same (x.come place login there);
}
  where
    by : (place : ℕ) (login : Login) → login.login ≡ response.login → IsNew asked now.last login ⊎ (place_at t.places place ≡ Some login) → IsBasedAt response.agent place
    by place login same (inl n) = let a = n.login in let l = tie.small in absurd (omega (arith, a, l, same, next))
    by place login same (inr there) = tie.tied place login there same

module _ (units ready : ℕ) (more_units : 0 < units) (start : List Disk) (past : List Moment) (s : Scene) (later : List Moment) (t : Scene) {lines more : ℕ} (g : Goes past s later t) (h : Holding units ready start past lines s.world) (h_now : Holding units ready start later more t.world) (some : 0 < length s.world.initiators) (few : FewLogins (hist later t.world)) (ids : HasFewIds (hist past s.world) s.world.target.logins) (response : LoginResponse) (tie : IsTied s.world.target.logins response) where
  decided_tied : (d : IsDecision s.world t.world) → Decides d.on.on.orb d.on.on.source d.on.on.eui s.world.target.logins t.world.target.logins → IsTied t.world.target.logins response
  decided_tied d (leaves x lives) = still_tied s.world.target.logins t.world.target.logins response x tie
  decided_tied d (returns f x lives) = still_tied s.world.target.logins t.world.target.logins response x tie
  decided_tied d (enters f x) =
      let asked = asked_by d.on.on.orb d.on.on.source d.on.on.eui in
      entered_tied asked s.world.target.logins t.world.target.logins response
      (entered_next asked s.world.target.logins t.world.target.logins ids.rising (last_few units ready more_units start past s later t g h h_now some few ids) x) x tie

  by_turn : TableTurn s.world t.world → IsTied t.world.target.logins response
  by_turn (stays x lives) = still_tied s.world.target.logins t.world.target.logins response x tie
  by_turn (decides d) = decided_tied d (decision_made units ready more_units start past s later t g h some d)

  pub turn_tied : IsTied t.world.target.logins response
  turn_tied = by_turn (table_turn units ready more_units start past s later t g h some)
