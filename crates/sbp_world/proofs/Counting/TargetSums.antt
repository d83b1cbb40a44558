-- A delivery to the target: what it is yet to send, by the ORBs that are worked before it and by those that are worked behind it, and the ORBs whose turn came.
use Rattle.sbp_world.proofs.Words.Std.{arith, ◌≡◌, ◌∙◌, refl, sym, ap, ℕ, zero, suc, ◌+◌, ◌<◌, ◌≤◌, ◌&&◌, ◌||◌, not, Bool, true, false, cond, List, [], ◌∷◌, list_any, Option}
use Rattle.sbp_world.proofs.Words.Wire.{Moment, Side}
use Rattle.sbp_world.proofs.Words.World.{WorldState, machine_at}
use Rattle.sbp_world.proofs.Words.Target.{is_reset, state_in}
use Rattle.sbp_journal.specs.declared.event.Cmd.{Cmd}
use Rattle.sbp_journal.specs.declared.side.Side.TheVariants as sides
use Rattle.sbp_target.specs.Nodes.{NodeState, Scene}
use Rattle.sbp_target.specs.RequestsLeft.{begun_share, has_begun, has_ended, is_end, node_left, sum_below, works}
use Rattle.sbp_target.specs.RequestsLeft as target
use Rattle.sbp_target.specs.Requests.{requests}
use Rattle.sbp_world.specs.Counting.Rooms.{chunks_in, chunks_of, elements_of, ends_at, half_of, has_turn, is_end_of, new_at, newly, over_places, present_command, rooms, tables_of}
use Rattle.sbp_world.proofs.Counting.Sums.{left_same, sum_same}
use Rattle.sbp_world.proofs.Counting.Turns.{work_up}

-- ---- the same words
side_same : (place : ℕ) (side : Side) → is_end place side ≡ is_end_of place side
side_same place (sides.Ended at orb status) = refl
side_same place side = refl

sides_same : (place : ℕ) (told : List Side) → list_any (is_end place) told ≡ ends_at place told
sides_same place [] = refl
sides_same place (side ∷ told) = ap (λ b. b || list_any (is_end place) told) (side_same place side) ∙ ap (λ b. is_end_of place side || b) (sides_same place told)

places_same : (n : ℕ) (f : ℕ → ℕ) → sum_below n f ≡ over_places f n
unfolding sum_below over_places
places_same zero f = refl
places_same (suc n) f = let rest = places_same n f in omega (arith, rest)

-- ---- which ORB counts at a place in a turn
-- The agent is out of RESET.
abbrev pub is_up : WorldState → ℕ → Bool
is_up w place = not (is_reset (state_in (machine_at w place).phase))

-- the one that was worked before; and else the one whose turn came, where the agent is up behind the turn
module _ (past : List Moment) (w v : WorldState) where
  abbrev pub command_in : ℕ → Option Cmd
  command_in place = cond (works w.target place || not (is_up v place)) (present_command past w place) (present_command past v place)

  abbrev pub tables : ℕ → ℕ
  tables place = elements_of (command_in place)

  abbrev pub chunks : ℕ → ℕ
  chunks place = chunks_of (command_in place)

  pub worked_is : (place : ℕ) → works w.target place ≡ true → command_in place ≡ present_command past w place
  worked_is place e = ap (λ b. cond (b || not (is_up v place)) (present_command past w place) (present_command past v place)) e

  pub fresh_is : (place : ℕ) → works w.target place ≡ false → is_up v place ≡ true → command_in place ≡ present_command past v place
  fresh_is place e f =
      ap (λ b. cond (b || not (is_up v place)) (present_command past w place) (present_command past v place)) e
      ∙ ap (λ b. cond (not b) (present_command past w place) (present_command past v place)) f

  both : (place : ℕ) (command : Option Cmd) → command_in place ≡ command → (tables place ≡ elements_of command) × (chunks place ≡ chunks_of command)
  both place command e = (ap elements_of e, ap chunks_of e)

  pub left_before : node_left tables chunks w.target ≡ node_left (tables_of past w) (chunks_in past w) w.target
  left_before = left_same w.target tables chunks (tables_of past w) (chunks_in past w) (λ place small e. both place (present_command past w place) (worked_is place e))

  -- the ORB that is worked behind the turn is that one
  pub record Presents (now : List Moment) : Type 0 where
    pub stays : (place : ℕ) → place < 8 → works w.target place ≡ true → works v.target place ≡ true → present_command now v place ≡ present_command past w place
    pub comes : (place : ℕ) → place < 8 → works v.target place ≡ true → present_command now v place ≡ present_command past v place

  pub left_behind : (now : List Moment) → Presents now → node_left tables chunks v.target ≡ node_left (tables_of now v) (chunks_in now v) v.target
  left_behind now p = left_same v.target tables chunks (tables_of now v) (chunks_in now v) (λ place small e. by place small e (works w.target place) refl)
    where
      by : (place : ℕ) → place < 8 → works v.target place ≡ true → (b : Bool) → works w.target place ≡ b → (tables place ≡ tables_of now v place) × (chunks place ≡ chunks_in now v place)
      by place small e true f = both place (present_command now v place) (worked_is place f ∙ sym (p.stays place small f e))
      by place small e false f = both place (present_command now v place) (fresh_is place f (work_up (machine_at v place).phase e) ∙ sym (p.comes place small e))

  -- ---- the ORBs whose turn came, of agents that are up then
  module _ (s : Scene) (node : s.node ≡ v.target) (ups : (place : ℕ) → place < 8 → has_turn w v s.outbox.sides place ≡ true → is_up v place ≡ true) where
    begun_same : (place : ℕ) → has_begun w.target s place ≡ has_turn w v s.outbox.sides place
    begun_same place = ap (λ (n : NodeState). not (works w.target place) && (works n place || has_ended place s)) node ∙ ap (λ b. not (works w.target place) && (works v.target place || b)) (sides_same place s.outbox.sides)

    idle_first : (a b : Bool) → (not a && b) ≡ true → a ≡ false
    idle_first false b e = refl
    idle_first true b e = absurd (let no : false ≡ true = e in cc)

    share_same : (place : ℕ) → place < 8 → begun_share tables chunks w.target s place ≡ new_at past w v s.outbox.sides place
    share_same place small = ap (λ b. cond b (tables place + chunks place + 3) 0) (begun_same place) ∙ by (has_turn w v s.outbox.sides place) refl
      where
        by : (b : Bool) → has_turn w v s.outbox.sides place ≡ b → cond (has_turn w v s.outbox.sides place) (tables place + chunks place + 3) 0 ≡ cond (has_turn w v s.outbox.sides place) (half_of (present_command past v place)) 0
        by true f =
            let idle = idle_first (works w.target place) (works v.target place || ends_at place s.outbox.sides) f in
            let same = both place (present_command past v place) (fresh_is place idle (ups place small f)) in
            let one = same.0 in
            let two = same.1 in
            ap (λ n. cond (has_turn w v s.outbox.sides place) n 0) (let x : tables place + chunks place + 3 ≡ half_of (present_command past v place) = omega (arith, one, two) in x)
        by false f = ap (λ b. cond b (tables place + chunks place + 3) 0) f ∙ ap (λ b. cond b (half_of (present_command past v place)) 0) (sym f)

    pub turns_are : target.newly tables chunks w.target s ≡ newly past w v s.outbox.sides
    turns_are = sum_same 8 (begun_share tables chunks w.target s) (new_at past w v s.outbox.sides) share_same ∙ places_same 8 (new_at past w v s.outbox.sides)

    -- ---- together
    pub together : (now : List Moment) (due : ℕ) → Presents now → requests s.outbox.packets + node_left tables chunks s.node ≤ node_left tables chunks w.target + due + target.newly tables chunks w.target s → rooms now v now + newly past w v s.outbox.sides ≤ rooms past w past
        → requests s.outbox.packets + (node_left (tables_of now v) (chunks_in now v) v.target + rooms now v now) ≤ node_left (tables_of past w) (chunks_in past w) w.target + rooms past w past + due
    together now due p sent fall =
        let one = left_before in
        let two = left_behind now p in
        let three = turns_are in
        let here = ap (λ (n : NodeState). node_left tables chunks n) node in
        omega (arith, one, two, three, here, sent, fall)
