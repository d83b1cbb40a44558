-- A desk whose register for unsolicited status is enabled has a live login, after every list of calls of a target.
use Rattle.sbp_world.proofs.Words.Std.{arith, ◌≡◌, ◌∙◌, refl, sym, ap, subst, ℕ, zero, suc, ◌+◌, ◌<◌, ◌≤◌, nat_eq, nat_lt, Bool, true, false, cond, List, [], length, Option, Some, None, Result, Ok, Err, slice_index_or, nat_tests, set_past, false≢true}
use Rattle.sbp_world.proofs.Words.Wire.{LabelParts, Packet, block_write, Layer, CutCause, OutboxState}
use Rattle.sbp_world.proofs.Words.Target.{AgentStep, PointRefusal, Which, Ahead, Main, AgentMachine, asks, doorbell_step, point_step, agent_reply, block, disk_at, Told, Login, Access, Desk, Purpose, cut, disowned, follow, expired_desk, new_desk, point_desk, pointed_desk, reset_desk, taken, which_in, clear_one, cut_placed, NodeState, Scene, desk_at, login_at, scene, with_desk, expire_agent, expired_by, expired_with, Stage, Whole, advance, advanced_with, announced_by, came, changed_by, follow_all, plain_at, replied, replied_by, replied_to, replied_with, served_login, stage, request_step, accessed_by, answered, asked_in, point, pointed_by, ring, rung_by, clear_from, clear_unit, cut_all, unsolicited_by, Announced, pushes, stay, withholds}
use Rattle.sbp_world.proofs.Words.Initiator.{Ask, Answer}
use Rattle.label_table.proofs.Owned.{set_at}
use Rattle.target_base.specs.declared.address.Access.TheVariants as accesses
use Rattle.sbp_target.specs.declared.purpose.Purpose.TheVariants as purposes
use Rattle.sbp_target.proofs.Histories.Framed as framed
use Rattle.sbp_target.proofs.Histories.Moved.{announced_moves}
use Rattle.sbp_target.proofs.Histories.Views.{cuts_keep, kept, placed_keep}

-- each place whose register is enabled is one of these
abbrev pub Enabled : (ℕ → Type 0) → NodeState → Type 0
Enabled Live node = (place : ℕ) → (desk_at node place).is_enabled ≡ true → Live place

module _ (Live : ℕ → Type 0) where
  pub set_enabled : (node : NodeState) (place : ℕ) (d : Desk) → (d.is_enabled ≡ true → Live place) → Enabled Live node → Enabled Live (with_desk node place d)
  set_enabled node place d f h other e = by (nat_lt place (length node.desks)) refl
    where
      by_place : (c : Bool) → nat_eq other place ≡ c → (cond c d (desk_at node other)).is_enabled ≡ true → Live other
      by_place true q g = let same : other ≡ place = grind (arith, nat_tests) in subst Live (sym same) (f g)
      by_place false q g = h other g

      by : (b : Bool) → nat_lt place (length node.desks) ≡ b → Live other
      by true l =
          let below : place < length node.desks = grind (arith, nat_tests) in
          by_place (nat_eq other place) refl (sym (ap (λ (x : Desk). x.is_enabled) (set_at node.desks place other d new_desk below)) ∙ e)
      by false l =
          let beyond : length node.desks ≤ place = grind (arith, nat_tests) in
          h other (sym (ap (λ (ds : List Desk). (slice_index_or ds other new_desk).is_enabled) (set_past node.desks place d beyond)) ∙ e)

  keeps : framed.Keeps (Enabled Live)
  keeps = record { layers = λ node layer h. h; desks = λ node place d e h. set_enabled node place d (λ g. h place (sym e ∙ g)) h }

  pub follows : (place : ℕ) (login : Login) (step : AgentStep) (s : Scene) → Enabled Live s.node → Enabled Live (follow place login step s).node
  follows place login step s h = framed.follows_at (Enabled Live) keeps place login step s h

  -- ---- cuts, and units that are cleared
  pub cuts : (cause : CutCause) (place : ℕ) (s : Scene) → Enabled Live s.node → Enabled Live (cut cause place s).node
  unfolding cut
  cuts cause place s h =
      set_enabled (record s.node { layer = disowned (desk_at s.node place).ahead (disowned (desk_at s.node place).main s.node.layer) }) place (reset_desk (desk_at s.node place)) (λ g. h place g) h

  abbrev In : Scene → Type 0
  In s = Enabled Live s.node

  pub cuts_placed : (place : Option ℕ) (cause : CutCause) (s : Scene) → Enabled Live s.node → Enabled Live (cut_placed place cause s).node
  cuts_placed place cause s h = placed_keep In cuts place cause s h

  pub cuts_all : (cause : CutCause) (unit : Option ℕ) (s : Scene) → Enabled Live s.node → Enabled Live (cut_all cause unit s).node
  cuts_all cause unit s h = cuts_keep In cuts cause unit s h

  pick : (b : Bool) (x y : Scene) → Enabled Live x.node → Enabled Live y.node → Enabled Live (cond b x y).node
  pick true x y h g = h
  pick false x y h g = g

  clears : (unit : ℕ) (s : Scene) → Enabled Live s.node → Enabled Live (clear_unit unit s).node
  unfolding clear_unit
  clears unit s h = h

  pub clears_one : (unit : ℕ) (s : Scene) → Enabled Live s.node → Enabled Live (clear_one unit s).node
  clears_one unit s h = pick (nat_lt unit (length s.node.units)) (clear_unit unit s) s (clears unit s h) h

  pub clears_from : (left unit : ℕ) (s : Scene) → Enabled Live s.node → Enabled Live (clear_from left unit s).node
  unfolding clear_from
  clears_from zero unit s h = h
  clears_from (suc left) unit s h = clears_from left (unit + 1) (clear_unit unit s) (clears unit s h)

  -- ---- unsolicited statuses
  sent_out : (place peer : ℕ) (node : NodeState) (r : Option LabelParts × (Layer Purpose × OutboxState)) → Enabled Live node → Enabled Live (unsolicited_by place peer node r).node
  sent_out place peer node (Some label, (layer, outbox)) h = set_enabled node place (record (desk_at node place) { is_enabled = false }) (λ g. absurd (false≢true g)) h
  sent_out place peer node (None, (layer, outbox)) h = h

  tells : (unit from : ℕ) (x y : Scene) → Announced unit from x y → In x → In y
  tells unit from _ _ (pushes place login s e) h =
      sent_out place login.node s.node (request_step s.node.layer s.outbox login.node (block_write login.fifo block) purposes.Unsolicited) h
  tells unit from _ _ (withholds place login s e) h = h

  announces_by : (b : Bool) (unit place : ℕ) (s : Scene) → Enabled Live s.node → Enabled Live (announced_by b unit place s).node
  announces_by b unit place s h = kept (Announced unit place) In (tells unit place) s _ (announced_moves (Announced unit place) unit place (λ x y m. m) s b s (stay s)) h

  changes_by : (b : Bool) (unit place : ℕ) (node : NodeState) → Enabled Live node → Enabled Live (changed_by b unit place node)
  changes_by false unit place node h = h
  changes_by true unit place node h = h

  -- ---- a reply to an agent
  taken_same : (which : Which) (d : Desk) → (taken which d).is_enabled ≡ d.is_enabled
  taken_same Main d = refl
  taken_same Ahead d = refl

  replies_with : (place unit : ℕ) (which : Which) (r : AgentStep × AgentMachine) (s : Stage) → Enabled Live s.node → Enabled Live (replied_with place unit which r s).1.node
  replies_with place unit which (step, m) s h =
      set_enabled s.node place (record (taken which (desk_at s.node place)) { agent = m }) (λ g. h place (sym (taken_same which (desk_at s.node place)) ∙ g)) h

  stages : (told : Option Told) (place unit : ℕ) (which : Which) (answer : Answer) (s : Stage) → Enabled Live s.node → Enabled Live (replied told place unit which answer s).1.node
  unfolding replied
  stages told place unit which answer s h = replies_with place unit which (agent_reply (desk_at s.node place).agent place (plain_at s unit) told which answer) s h

  advances_with : (place : ℕ) (login : Login) (r : AgentStep × Stage) (w : Whole) → Enabled Live r.1.node → Enabled Live (advanced_with place login r w).node
  unfolding follow_all
  advances_with place login (step, st) w h =
      let loaded = came (disk_at w.disks login.unit) (disk_at st.disks login.unit) in
      let changed = scene (changed_by loaded login.unit place st.node) w.outbox in
      announces_by loaded login.unit place (follow place login step changed) (follows place login step changed (changes_by loaded login.unit place st.node h))

  replies_by : (told : Option Told) (place : ℕ) (answer : Answer) (login : Option Login) (which : Option Which) (w : Whole) → Enabled Live w.node → Enabled Live (replied_by told place answer login which w).node
  unfolding advance
  replies_by told place answer (Some login) (Some which) w h =
      advances_with place login (replied told place login.unit which answer (stage w.node w.disks)) w (stages told place login.unit which answer (stage w.node w.disks) h)
  replies_by told place answer None which w h = h
  replies_by told place answer (Some login) None w h = h

  pub replies : (told : Option Told) (place peer : ℕ) (label : LabelParts) (answer : Answer) (w : Whole) → Enabled Live w.node → Enabled Live (replied_to told place peer label answer w).node
  unfolding replied_to
  replies told place peer label answer w h = replies_by told place answer (served_login w.node place) (which_in (desk_at w.node place) peer label) w h

  -- ---- a time-out of an agent's transaction
  lapsed_same : (which : Which) (d : Desk) → (expired_desk which d).1.is_enabled ≡ d.is_enabled
  lapsed_same Main d = refl
  lapsed_same Ahead d = refl

  lapses_with : (place : ℕ) (login : Login) (r : AgentStep × Desk) (s : Scene) → r.1.is_enabled ≡ (desk_at s.node place).is_enabled → Enabled Live s.node → Enabled Live (expired_with place login r s).node
  lapses_with place login (step, d) s e h =
      follows place login step (scene (with_desk s.node place d) s.outbox) (set_enabled s.node place d (λ g. h place (sym e ∙ g)) h)

  lapses_by : (place : ℕ) (login : Option Login) (which : Option Which) (s : Scene) → Enabled Live s.node → Enabled Live (expired_by place login which s).node
  lapses_by place (Some login) (Some which) s h = lapses_with place login (expired_desk which (desk_at s.node place)) s (lapsed_same which (desk_at s.node place)) h
  lapses_by place None which s h = h
  lapses_by place (Some login) None s h = h

  pub lapses : (place peer : ℕ) (label : LabelParts) (s : Scene) → Enabled Live s.node → Enabled Live (expire_agent place peer label s).node
  unfolding expire_agent
  lapses place peer label s h = lapses_by place (login_at s.node place) (which_in (desk_at s.node place) peer label) s h

  -- ---- the registers of an agent

  asks_in : (place : ℕ) (ask : Ask) (login : Option Login) (s : Scene) → Enabled Live s.node → Enabled Live (asked_in place ask login s).node
  asks_in place ask None s h = h
  asks_in place ask (Some login) s h = follows place login (asks ask) s h

  points_by : (place : ℕ) (request : Packet) (bytes : List ℕ) (r : Result Ask PointRefusal × Desk) (s : Scene) → r.1.is_enabled ≡ (desk_at s.node place).is_enabled → Enabled Live s.node → Enabled Live (pointed_by place request bytes r s).node
  points_by place request bytes (Ok ask, d) s e h =
      let t = answered request bytes 0 [] (scene (with_desk s.node place d) _) in
      asks_in place ask (login_at s.node place) t (set_enabled s.node place d (λ g. h place (sym e ∙ g)) h)
  points_by place request bytes (Err refusal, d) s e h = set_enabled s.node place d (λ g. h place (sym e ∙ g)) h

  pointed_same : (d : Desk) (r : Result Ask PointRefusal × AgentMachine) → (pointed_desk d r).1.is_enabled ≡ d.is_enabled
  pointed_same d (Ok ask, m) = refl
  pointed_same d (Err refusal, m) = refl

  rings_by : (place : ℕ) (request : Packet) (bytes : List ℕ) (r : Ask × AgentMachine) (s : Scene) → Enabled Live s.node → Enabled Live (rung_by place request bytes r s).node
  rings_by place request bytes (ask, m) s h =
      asks_in place ask (login_at s.node place) _ (set_enabled s.node place (record (desk_at s.node place) { agent = m }) (λ g. h place g) h)

  pub accesses_by : (access : Access) (place : ℕ) (request : Packet) (bytes : List ℕ) (s : Scene) → Live place → Enabled Live s.node → Enabled Live (accessed_by access place request bytes s).node
  unfolding point ring
  accesses_by accesses.State place request bytes s l h = h
  accesses_by accesses.Reset place request bytes s l h = cuts _ place s h
  accesses_by (accesses.Point pointer) place request bytes s l h =
      points_by place request bytes (point_desk (desk_at s.node place) pointer) s (pointed_same (desk_at s.node place) (point_step (desk_at s.node place).agent pointer)) h
  accesses_by accesses.Pointer place request bytes s l h = h
  accesses_by accesses.Ring place request bytes s l h = rings_by place request bytes (doorbell_step (desk_at s.node place).agent) s h
  accesses_by accesses.Enable place request bytes s l h = set_enabled s.node place (record (desk_at s.node place) { is_enabled = true }) (λ g. l) h
