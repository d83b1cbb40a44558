-- What leaves the target, who has its places, and the history of its lists, leaves what the target is yet to send.
use Rattle.sbp_world.proofs.Words.Std.{arith, ◌≡◌, ◌∙◌, refl, ap, ℕ, zero, suc, ◌+◌, ◌-◌, ◌<◌, ◌≤◌, ◌==◌, ◌&&◌, nat_tests, is_some, Bool, true, false, cond, List, [], ◌∷◌, length, Option, Some, None, slice_index_or, slice_set}
use Rattle.sbp_world.proofs.Words.Wire.{Moment, Outgoing, Sent, Terms, holder_at}
use Rattle.sbp_world.proofs.Words.Target.{NodeState}
use Rattle.sbp_world.proofs.Words.Initiator.{InitiatorState}
use Rattle.sbp_world.proofs.Words.Laws.{command_at, ends}
use Rattle.sbp_world.proofs.Words.World.{WorldState, holder, initiator_in}
use Rattle.sbp_initiator.specs.Handing as own
use Rattle.sbp_target.specs.RequestsLeft.{node_left}
use Rattle.sbp_target.specs.Requests.{requests}
use Rattle.sbp_world.specs.Counting.Left.{quadlets_left}
use Rattle.sbp_world.specs.Counting.Rooms.{chunks_in, chunks_of, elements_of, of_list, present_command, rooms, tables_of}
use Rattle.sbp_world.specs.Counting.Wire.{is_unjudged, wire}
use Rattle.sbp_world.proofs.Counting.Others.{IsAside, rooms_aside}
use Rattle.sbp_world.proofs.Counting.Sums.{left_same}
use Rattle.sbp_world.proofs.Counting.WireWeights.{fewer_weigh_less}

-- ---- the target
module _ (before now : List Moment) (w v : WorldState) (a : IsAside before now w v) (target : v.target ≡ w.target) where
  command_same : (place : ℕ) (list : Option ℕ) (i : ℕ) → of_list list (λ n. command_at now i n (ends now i n)) ≡ of_list list (λ n. command_at before i n (ends before i n))
  command_same place None i = refl
  command_same place (Some n) i = a.goes.commands i n (ends now i n) ∙ ap (command_at before i n) (a.ends_are i n)

  present_same : (place : ℕ) → present_command now v place ≡ present_command before w place
  present_same place =
      ap (λ ps. of_list (holder_at ps place).list (λ n. command_at now (holder_at ps place).initiator n (ends now (holder_at ps place).initiator n))) a.places
      ∙ command_same place (holder w place).list (initiator_in w place)

  pub nodes_aside : node_left (tables_of now v) (chunks_in now v) v.target + rooms now v now ≤ node_left (tables_of before w) (chunks_in before w) w.target + rooms before w before
  nodes_aside =
      let here = ap (λ (n : NodeState). node_left (tables_of now v) (chunks_in now v) n) target in
      let same = left_same w.target (tables_of now v) (chunks_in now v) (tables_of before w) (chunks_in before w) (λ place small e. (ap elements_of (present_same place), ap chunks_of (present_same place))) in
      let fall = rooms_aside before now w v a in
      omega (arith, here, same, fall)

-- ---- quadlets of the ROM

pub set_quadlets : (states : List InitiatorState) (i : ℕ) (state other : InitiatorState) → i < length states → quadlets_left (slice_set states i state) + (256 - length (slice_index_or states i other).quads) ≡ quadlets_left states + (256 - length state.quads)
set_quadlets [] i state other inside = absurd (omega (arith, inside))
set_quadlets (one ∷ states) zero state other inside = omega arith
set_quadlets (one ∷ states) (suc i) state other inside = let rest = set_quadlets states i state other (omega (arith, inside)) in omega (arith, rest)

pub requests_same : (packets : List Outgoing) → requests packets ≡ own.requests packets
requests_same [] = refl
requests_same (packet ∷ later) = ap (λ n. cond (is_some packet.label) 1 0 + n) (requests_same later)

-- ---- the packets that count
-- where judgements are no fewer and the target's generation is the same, no more count
pub less_unjudged : (t u : Terms) → ((serial : ℕ) → t.news serial ≤ u.news serial) → u.generation 0 ≡ t.generation 0 → (serial : ℕ) (sent : Sent) → is_unjudged u serial sent ≡ true → is_unjudged t serial sent ≡ true
less_unjudged t u more same serial sent e =
    let parts = both (u.news serial == 0) (sent.generation == u.generation 0) e in
    let none : u.news serial ≡ 0 = (let x = parts.0 in grind (arith, nat_tests)) in
    let current : sent.generation ≡ t.generation 0 = (let x = parts.1 in (let y : sent.generation ≡ u.generation 0 = grind (arith, nat_tests) in y ∙ same)) in
    let most = more serial in
    join (t.news serial == 0) (sent.generation == t.generation 0) (let z : t.news serial ≡ 0 = omega (arith, none, most) in grind (arith, nat_tests)) (grind (arith, nat_tests))
  where
    both : (a b : Bool) → (a && b) ≡ true → (a ≡ true) × (b ≡ true)
    both true b f = (refl, f)
    both false b f = absurd (let no : false ≡ true = f in cc)

    join : (a b : Bool) → a ≡ true → b ≡ true → (a && b) ≡ true
    join true b f g = g
    join false b f g = f

pub wire_less : (t u : Terms) (w : WorldState) → ((serial : ℕ) → t.news serial ≤ u.news serial) → u.generation 0 ≡ t.generation 0 → wire (is_unjudged u) w ≤ wire (is_unjudged t) w
wire_less t u w more same = fewer_weigh_less (is_unjudged t) (is_unjudged u) (less_unjudged t u more same) w.store.kept
