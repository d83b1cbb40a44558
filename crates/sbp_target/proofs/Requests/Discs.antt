-- An unsolicited status that is sent takes the register of its place; nothing else of a place changes as a disc is told of.
use Rattle.std.proofs.Common.{arith, ◌≡◌, refl, sym, ap, ◌∙◌, ℕ, ◌<◌, ◌≤◌, ◌==◌, ◌&&◌, not, nat_eq, Bool, true, false, length, Option, Some, None}
use Rattle.std.specs.List.{list_any}
use Rattle.std.proofs.lemmas.List.{length-set}
use Rattle.label_table.specs.declared.judgement.Asked.{Asked}
use Rattle.label_table.specs.Bodies.{block_write}
use Rattle.label_table.specs.Layer.{Layer, asking_step}
use Rattle.login_table.specs.declared.login.Login.{Login}
use Rattle.login_table.specs.Table.{is_live}
use Rattle.media_bay.specs.Unsolicited.{block}
use Rattle.orb_layout.specs.Pointers.{bit}
use Rattle.sbp_journal.specs.declared.side.Side.TheVariants as sides
use Rattle.sbp_target.specs.declared.desk.Desk.{Desk}
use Rattle.sbp_target.specs.declared.purpose.Purpose.{Purpose}
use Rattle.sbp_target.specs.declared.purpose.Purpose.TheVariants as purposes
use Rattle.sbp_target.specs.Nodes.{Scene, desk_at, with_desk}
use Rattle.sbp_target.specs.Replies.{announced_by}
use Rattle.sbp_target.specs.Requests.{requests}
use Rattle.sbp_target.specs.RequestsLeft.{has_ended, is_end, node_left}
use Rattle.sbp_target.specs.Sending.{request_step, sent_by, with_side}
use Rattle.sbp_target.specs.Units.{hears, unsolicited_by}
use Rattle.sbp_target.specs.Histories.Moves.{Announced, pushes, stay, withholds}
use Rattle.sbp_target.proofs.Histories.Following.{other_place, same_place}
use Rattle.sbp_target.proofs.Histories.Moved.{announced_moves}
use Rattle.sbp_target.proofs.Histories.Seats.{split}
use Rattle.sbp_target.proofs.Histories.Views.{kept}
use Rattle.sbp_target.proofs.Requests.Easing.{in_desks, seated_few}
use Rattle.sbp_target.proofs.Requests.Follows.{one_more}
use Rattle.sbp_target.proofs.Requests.Frames.{desk_here, desk_there, sent_or_left}
use Rattle.sbp_target.proofs.Requests.Telling.{any_same}

pub record LeavesAgents (tables chunks : ℕ → ℕ) (x s : Scene) : Type 0 where
  pub size : length s.node.desks ≡ 8
  pub few : sent_or_left tables chunks s ≤ sent_or_left tables chunks x
  pub agents : (p : ℕ) → p < 8 → (desk_at s.node p).agent ≡ (desk_at x.node p).agent
  pub told : (p : ℕ) → has_ended p s ≡ has_ended p x

heard_enabled : (unit from place : ℕ) (desk : Desk) (login : Login) → hears unit from place desk login ≡ true → desk.is_enabled ≡ true
heard_enabled unit from place desk login e = last (login.unit == unit) (is_live login) (not (place == from)) desk.is_enabled e
  where
    last : (a b c d : Bool) → (a && (b && (c && d))) ≡ true → d ≡ true
    last true true true d h = h
    last true true false d h = cc h
    last true false c d h = cc h
    last false b c d h = cc h

module _ (tables chunks : ℕ → ℕ) (x : Scene) where
  abbrev Keeps : Scene → Type 0
  Keeps s = LeavesAgents tables chunks x s

  unsent : (s t : Scene) (place : ℕ) → t.node.desks ≡ s.node.desks → node_left tables chunks t.node ≡ node_left tables chunks s.node → t.outbox ≡ with_side s.outbox (sides.Unsent place) → Keeps s → Keeps t
  unsent s t place desks same told k =
      let few = k.few in
      let packets = ap (λ o. requests o.packets) told in
      record {
        size = ap length desks ∙ k.size;
        few = omega (arith, few, same, packets);
        agents = λ p b. ap (λ (d : Desk). d.agent) (in_desks s.node t.node p desks) ∙ k.agents p b;
        told = λ p. ap (λ o. list_any (is_end p) o.sides) told ∙ (any_same (is_end p) s.outbox.sides (sides.Unsent place) refl ∙ k.told p);
      }

  sent : (place : ℕ) (login : Login) (s : Scene) (r : Option Asked × Layer Purpose) → place < 8 → (desk_at s.node place).is_enabled ≡ true → Keeps s → Keeps (unsolicited_by place login.node s.node (sent_by r s.outbox login.node))
  sent place login s (None, layer) small enabled k = unsent s _ place refl refl refl k
  sent place login s (Some asked, layer) small enabled k =
      let d : Desk = record (desk_at s.node place) { is_enabled = false } in
      let t = unsolicited_by place login.node s.node (sent_by (Some asked, layer) s.outbox login.node) in
      let packets = one_more s.outbox.packets login.node asked.label asked.bytes in
      let one = ap bit enabled in
      let few = k.few in
      let less = seated_few tables chunks s t place d 0 k.size refl (omega (arith, packets, one)) in
      record {
        size = length-set s.node.desks place d ∙ k.size;
        few = omega (arith, few, less);
        agents = λ p b. agent p b ∙ k.agents p b;
        told = λ p. any_same (is_end p) s.outbox.sides (sides.Unsolicited place) refl ∙ k.told p;
      }
    where
      agent : (p : ℕ) → p < 8 → (desk_at (with_desk s.node place (record (desk_at s.node place) { is_enabled = false })) p).agent ≡ (desk_at s.node p).agent
      agent p b =
          let d : Desk = record (desk_at s.node place) { is_enabled = false } in
          split (nat_eq p place) ((desk_at (with_desk s.node place d) p).agent ≡ (desk_at s.node p).agent)
          (λ e. let same = same_place p place e in
          let size = k.size in
          ap (λ (n : ℕ). (desk_at (with_desk s.node place d) n).agent) same ∙ (ap (λ (g : Desk). g.agent) (desk_here s.node place d (omega (arith, small, size))) ∙ sym (ap (λ (n : ℕ). (desk_at s.node n).agent) same)))
          (λ e. ap (λ (g : Desk). g.agent) (desk_there s.node place d p (other_place p place e)))

  announces : (unit from : ℕ) (s t : Scene) → Announced unit from s t → Keeps s → Keeps t
  unfolding request_step
  announces unit from _ _ (pushes place login s h) k =
      sent place login s (asking_step s.node.layer login.node (block_write login.fifo block) purposes.Unsolicited) h.small (heard_enabled unit from place (desk_at s.node place) login h.heard) k
  announces unit from _ _ (withholds place login s h) k = unsent s _ place refl refl refl k

  pub discs_leave_agents : (b : Bool) (unit from : ℕ) → length x.node.desks ≡ 8 → LeavesAgents tables chunks x (announced_by b unit from x)
  discs_leave_agents b unit from size =
      kept (Announced unit from) Keeps (announces unit from) x _ (announced_moves (Announced unit from) unit from (λ s t m. m) x b x (stay x))
      (record { size = size; few = omega arith; agents = λ p b. refl; told = λ p. refl })
