-- A generation that is seen, and a key that is set, leave all desks waiting for what left.
use Rattle.sbp_world.proofs.Words.Std.{arith, ◌≡◌, ◌∙◌, sym, ap, ℕ, ◌<◌, Bool, true, false, List, length, None, false≢true}
use Rattle.sbp_world.proofs.Words.Wire.{Layer, seeing_step, Outgoing, OutboxState}
use Rattle.sbp_world.proofs.Words.Target.{Machine, is_ahead, is_sent, reset_step, Desk, Purpose, after, disabled, new_desk, NodeState, desk_at, scene, cleared_node, held_all, reset_by, seen, with_key, cut_all}
use Rattle.sbp_world.proofs.Words.World.{AllAsk, AsksReally, SightsLaw}
use Rattle.std.proofs.lemmas.List.{get_or-map}
use Rattle.sbp_journal.specs.declared.cause.CutCause.TheVariants as cuts
use Rattle.sbp_target.proofs.Histories.Settled.{all_good}
use Rattle.sbp_world.proofs.Agents.Cuts.{all_cut}
use Rattle.sbp_world.proofs.Agents.Sized.{idle_sized}

-- an agent in RESET waits for nothing
reset_asks : (packets : List Outgoing) (fifo : ℕ) (d : Desk) (m : Machine) → d.agent ≡ reset_step m → AsksReally packets fifo d
unfolding reset_step
reset_asks packets fifo d m e = record {
  main = λ sent f p. absurd (false≢true (sym (ap (λ (x : Machine). is_sent x.phase) e) ∙ p));
  ahead = λ sent f p. absurd (false≢true (sym (ap (λ (x : Machine). is_ahead x.ahead) e) ∙ p));
  sized = idle_sized d.agent (ap (λ (x : Machine). is_sent x.phase) e);
}

module _ (node : NodeState) (size : length node.desks ≡ 8) (outbox : OutboxState) (a : AllAsk outbox.packets node) where
  sights_by : (later : Bool) (layer : Layer Purpose) → (let s = (reset_by (later, layer) (scene node outbox)).1 in AllAsk s.outbox.packets s.node)
  sights_by false layer = record { all = λ p login l e. a.all p login l e }
  sights_by true layer =
      let begun = scene (cleared_node layer node) outbox in
      let cut = cut_all cuts.Reset None begun in
      let c = all_cut cuts.Reset None begun size in
      let at : (p : ℕ) → p < 8 → desk_at (held_all cut).node p ≡ disabled (desk_at cut.node p) = λ p l. (let s = c.size in get_or-map disabled cut.node.desks p new_desk new_desk (omega arith)) in
      record { all = λ p login l e. reset_asks (held_all cut).outbox.packets login.fifo (desk_at (held_all cut).node p) (desk_at node p).agent (ap (λ (d : Desk). d.agent) (at p l) ∙ c.agent p l) }

  pub sights : (generation id : ℕ) → (let s = (seen generation id (scene node outbox)).1 in AllAsk s.outbox.packets s.node)
  unfolding seen
  sights generation id = sights_by (seeing_step node.layer generation id).0 (seeing_step node.layer generation id).1

  pub keys : (unit : ℕ) (key : List ℕ) → AllAsk outbox.packets (with_key unit key node)
  keys unit key = record { all = λ p login l e. a.all p login l e }

pub sights_law : SightsLaw
sights_law units ready calls has =
    let node = after units ready calls in
    let g = all_good units ready calls has in
    record { sights = λ outbox generation id a. sights node g.mid.size outbox a generation id; keys = λ outbox unit key a. keys node g.mid.size outbox a unit key }
