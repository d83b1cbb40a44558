-- Where a write of ORB_POINTER finds the login of its initiator (NCITS 325-1998, ORB_POINTER and login): while it waits to be judged, and target and initiator are in its generation, the target has a live login
-- of the initiator's node in the place to whose agent it is written.
use Rattle.std.specs.Prelude.{◌≡◌, ◌<◌, ◌+◌, ◌%◌, ◌^◌, ℕ, suc, true, List, length, Some}
use Rattle.login_table.specs.declared.login.Login.{Login}
use Rattle.login_table.specs.Table.{is_live}
use Rattle.mgmt_agent.specs.Decisions.{agent_base}
use Rattle.orb_layout.specs.declared.login.LoginResponse.{LoginResponse}
use Rattle.sbp_journal.specs.Run.{Moment}
use Rattle.sbp_journal.specs.Wire.{terms}
use Rattle.sbp_laws.specs.Packets.{id_for}
use Rattle.sbp_session.specs.Laws.{carried}
use Rattle.sbp_target.specs.Nodes.{login_at}
use Rattle.sbp_world.specs.Lists.Closes.{Under}
use Rattle.sbp_world.specs.Lists.FewLogins.{FewLogins}
use Rattle.sbp_world.specs.Lists.Live.{HasGivenUp}
use Rattle.sbp_world.specs.Lists.Needs.{IsCalm}
use Rattle.sbp_world.specs.Pointers.Pointers.{IsPointer, pointed_list}
use Rattle.sbp_world.specs.Worlds.{WorldState, initiator_at}

-- a live login of the node with an ID is in the place of the agent with this base
pub record HasHome (w : WorldState) (id base : ℕ) : Type 0 where
  pub place : ℕ
  pub small : place < 8
  pub at : (base + 0x08) % 2 ^ 48 ≡ (agent_base place + 0x08) % 2 ^ 48
  pub login : Login
  pub there : login_at w.target place ≡ Some login
  pub live : is_live login ≡ true
  pub of_node : login.node ≡ id

-- a write of ORB_POINTER for a list waits to be judged, in the generation of both ends
pub record WaitsFor (past : List Moment) (i n serial : ℕ) : Type 0 where
  pub pointed : pointed_list past serial i ≡ Some n
  pub pointer : IsPointer past i n serial
  pub current : pointer.packet.generation ≡ (terms past).generation (suc i)
  pub same : (terms past).generation 0 ≡ (terms past).generation (suc i)
  pub unjudged : (terms past).news serial ≡ 0

-- so each write of ORB_POINTER that waits finds the login of its initiator
abbrev pub AreHome : List Moment → WorldState → Type 0
AreHome past w = (i n serial : ℕ) → i < length w.initiators → IsCalm past i → (x : WaitsFor past i n serial) → HasHome w (id_for (terms past) 0 (suc i)) x.pointer.base

-- so it does where few logins were given
abbrev pub HomesFewLaw : Type 0
HomesFewLaw = Under (λ past w. FewLogins past → AreHome past w)

-- ---- what suffices for it
-- the agent with this base is that of a place
pub record IsBasedAt (base place : ℕ) : Type 0 where
  pub small : place < 8
  pub is : base ≡ agent_base place

-- In the generation of the target, where a session carries the response of a login, and the target has a live login of its initiator's node with the ID of that: the response names the agent of the place of
-- this login.
abbrev pub AreBasedThere : List Moment → WorldState → Type 0
AreBasedThere past w =
    (i : ℕ) → i < length w.initiators → IsCalm past i → (terms past).generation 0 ≡ (terms past).generation (suc i) → (response : LoginResponse) → carried (initiator_at w i).seat ≡ Some response → (place : ℕ) (login : Login) → login_at w.target place ≡ Some login → is_live login ≡ true → login.node ≡ id_for (terms past) 0 (suc i) → login.login ≡ response.login → IsBasedAt response.agent place

abbrev pub BasedFewLaw : Type 0
BasedFewLaw = Under (λ past w. FewLogins past → AreBasedThere past w)

-- And a write finds the login of its initiator where this has given up while the write waits: as it was sent the session was live, so the target had the login; no logout was under way, and none began since.
abbrev pub AreHomeStill : List Moment → WorldState → Type 0
AreHomeStill past w = (i n serial : ℕ) → i < length w.initiators → IsCalm past i → HasGivenUp past i → (x : WaitsFor past i n serial) → HasHome w (id_for (terms past) 0 (suc i)) x.pointer.base

abbrev pub HomeStillFewLaw : Type 0
HomeStillFewLaw = Under (λ past w. FewLogins past → AreHomeStill past w)
