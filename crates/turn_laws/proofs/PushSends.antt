-- The packets of unsolicited statuses: each goes to the node of another login of the unit, which is no node of the login whose command loaded the disc.
use Rattle.std.proofs.Common.{arith, ◌≡◌, ◌∙◌, refl, sym, ap, ℕ, suc, ◌+◌, ◌==◌, ◌&&◌, not, Bool, true, false, List, [], ◌∷◌, ◌++◌, append_assoc, append-nil, length, length-append, Option, Some, None}
use Rattle.label_table.specs.declared.judgement.Asked.{Asked}
use Rattle.label_table.specs.Bodies.{block_write}
use Rattle.label_table.specs.Layer.{Layer, asking_step}
use Rattle.login_table.specs.declared.login.Login.{Login}
use Rattle.login_table.specs.Table.{is_live, place_at}
use Rattle.media_bay.specs.Unsolicited.{block}
use Rattle.command_agent.specs.declared.step.AgentStep.{AgentStep}
use Rattle.sbp_journal.specs.Outgoings.{OutboxState}
use Rattle.sbp_journal.specs.declared.outbox.Outgoing.{Outgoing}
use Rattle.sbp_journal.specs.declared.side.Side.{Side}
use Rattle.sbp_journal.specs.declared.side.Side.TheVariants as sides
use Rattle.sbp_target.specs.Agents.{follow}
use Rattle.sbp_target.specs.Histories.Sides.{is_change}
use Rattle.sbp_target.specs.declared.purpose.Purpose.{Purpose}
use Rattle.sbp_target.specs.declared.purpose.Purpose.TheVariants as purposes
use Rattle.sbp_target.specs.Nodes.{Scene, desk_at}
use Rattle.sbp_target.specs.Replies.{announced_by}
use Rattle.sbp_target.specs.Sending.{request_step, sent_by, with_side}
use Rattle.sbp_target.specs.Units.{unsolicited_by}
use Rattle.sbp_target.specs.Histories.Moves.{Announced, Heard, pushes, stay, withholds}
use Rattle.sbp_target.proofs.Histories.Moved.{announced_moves}
use Rattle.sbp_target.proofs.Histories.Quiet.{Tells, follows_in}
use Rattle.sbp_target.proofs.Histories.Views.{kept}
use Rattle.sbp_world.proofs.Common.{and_first, and_second, equal, same_number, untrue}
use Rattle.std.proofs.lemmas.Bool.{not-true}

-- it goes to another live login of the unit
pub record IsPush (places : List (Option Login)) (unit from : ℕ) (packet : Outgoing) : Type 0 where
  pub place : ℕ
  pub other : Login
  pub away : place ≡ from → ⊥
  pub there : place_at places place ≡ Some other
  pub live : is_live other ≡ true
  pub unit_is : other.unit ≡ unit
  pub to_is : packet.to ≡ other.node

abbrev pub ArePushes : List (Option Login) → (unit from : ℕ) → List Outgoing → Type 0
ArePushes places unit from [] = Unit {0}
ArePushes places unit from (packet ∷ later) = IsPush places unit from packet × ArePushes places unit from later

-- behind other packets there are such alone
pub record Pushes (places : List (Option Login)) (unit from : ℕ) (first packets : List Outgoing) : Type 0 where
  pub more : List Outgoing
  pub is : packets ≡ first ++ more
  pub pushes : ArePushes places unit from more

-- ---- how many of them are told
abbrev pub pushes_told : List Side → ℕ
pushes_told [] = 0
pushes_told (sides.Unsolicited place ∷ later) = suc (pushes_told later)
pushes_told (side ∷ later) = pushes_told later

both_told : (a b : List Side) → pushes_told (a ++ b) ≡ pushes_told a + pushes_told b
both_told [] b = omega arith
both_told (sides.Unsolicited place ∷ a) b = let h = both_told a b in omega (arith, h)
both_told (side ∷ a) b = both_told a b

beside_told : (side : Side) → is_change side ≡ false → pushes_told (side ∷ []) ≡ 0
beside_told (sides.Unsolicited place) e = untrue (sym e)
beside_told side e = refl

-- none by what follows a step of an agent
told_as : (n : ℕ) → Tells (λ told. pushes_told told ≡ n)
told_as n = record { tells = λ told side e h. let a = both_told told (side ∷ []) in let b = beside_told side e in omega (arith, a, b, h) }

pub follow_told : (place : ℕ) (login : Login) (step : AgentStep) (s : Scene) → pushes_told (follow place login step s).outbox.sides ≡ pushes_told s.outbox.sides
follow_told place login step s = follows_in (λ told. pushes_told told ≡ pushes_told s.outbox.sides) (told_as (pushes_told s.outbox.sides)) place login step s refl

-- behind other packets there are such alone, as many as are told
pub record PushesTold (places : List (Option Login)) (unit from : ℕ) (first : List Outgoing) (base : ℕ) (given : OutboxState) : Type 0 where
  pub sends : Pushes places unit from first given.packets
  pub counted : pushes_told given.sides ≡ base + length sends.more

module _ (places : List (Option Login)) (unit from : ℕ) where
  abbrev All : List Outgoing → Type 0
  All packets = ArePushes places unit from packets

  one_more : (packets : List Outgoing) (packet : Outgoing) → All packets → IsPush places unit from packet → All (packets ++ packet ∷ [])
  one_more [] packet h p = (p, tt)
  one_more (one ∷ later) packet h p = (h.0, one_more later packet h.1 p)

  module _ (first : List Outgoing) (base : ℕ) where
    record At (s : Scene) : Type 0 where
      logins : s.node.logins.places ≡ places
      told : PushesTold places unit from first base s.outbox

    -- a side that is no such status leaves the count
    unsent : (place : ℕ) (s : Scene) → At s → PushesTold places unit from first base (with_side s.outbox (sides.Unsent place))
    unsent place s a =
        let x = a.told in
        record {
          sends = record { more = x.sends.more; is = x.sends.is; pushes = x.sends.pushes };
          counted = let h = x.counted in let b = both_told s.outbox.sides (sides.Unsent place ∷ []) in omega (arith, h, b);
        }

    apart : (place : ℕ) → not (place == from) ≡ true → place ≡ from → ⊥
    apart place e f =
        let same : (place == place) ≡ false = ap (λ n. place == n) f ∙ not-true (place == from) e in
        untrue (sym same ∙ same_number place)

    is_push : (place : ℕ) (other : Login) (s : Scene) (packet : Outgoing) → Heard unit from place other s → At s → packet.to ≡ other.node → IsPush places unit from packet
    is_push place other s packet e a to =
        let live_up = and_second (other.unit == unit) (is_live other && (not (place == from) && (desk_at s.node place).is_enabled)) e.heard in
        let up = and_second (is_live other) (not (place == from) && (desk_at s.node place).is_enabled) live_up in
        record {
          place = place;
          other = other;
          away = apart place (and_first (not (place == from)) (desk_at s.node place).is_enabled up);
          there = ap (λ ps. place_at ps place) (sym a.logins) ∙ e.is;
          live = and_first (is_live other) (not (place == from) && (desk_at s.node place).is_enabled) live_up;
          unit_is = equal other.unit unit (and_first (other.unit == unit) (is_live other && (not (place == from) && (desk_at s.node place).is_enabled)) e.heard);
          to_is = to;
        }

    pushed : (place : ℕ) (other : Login) (s : Scene) → Heard unit from place other s → (r : Option Asked × Layer Purpose) → At s → At (unsolicited_by place other.node s.node (sent_by r s.outbox other.node))
    pushed place other s e (None, layer) a = record { logins = a.logins; told = unsent place s a }
    pushed place other s e (Some asked, layer) a =
        let packet : Outgoing = record { to = other.node; label = Some asked.label; bytes = asked.bytes } in
        let x = a.told in
        record {
          logins = a.logins;
          told = record {
            sends = record {
              more = x.sends.more ++ packet ∷ [];
              is = ap (λ ps. ps ++ packet ∷ []) x.sends.is ∙ append_assoc first x.sends.more (packet ∷ []);
              pushes = one_more x.sends.more packet x.sends.pushes (is_push place other s packet e a refl);
            };
            counted = let h = x.counted in let b = both_told s.outbox.sides (sides.Unsolicited place ∷ []) in let c = length-append x.sends.more (packet ∷ []) in omega (arith, h, b, c);
          };
        }

    moves : (x y : Scene) → Announced unit from x y → At x → At y
    unfolding request_step
    moves _ _ (pushes place other s e) a = pushed place other s e (asking_step s.node.layer other.node (block_write other.fifo block) purposes.Unsolicited) a
    moves _ _ (withholds place other s e) a = record { logins = a.logins; told = unsent place s a }

    pub announce_sends : (b : Bool) (s : Scene) → s.node.logins.places ≡ places → s.outbox.packets ≡ first → pushes_told s.outbox.sides ≡ base → PushesTold places unit from first base (announced_by b unit from s).outbox
    announce_sends b s e f g =
        let before : At s = record { logins = e; told = record { sends = record { more = []; is = f ∙ sym (append-nil first); pushes = tt }; counted = omega (arith, g) } } in
        (kept (Announced unit from) At moves s _ (announced_moves (Announced unit from) unit from (λ y z m. m) s b s (stay s)) before).told
