-- Each call of a target changes the live logins of the node whose operation is under way alone, but for the sight of a later generation.
use Rattle.sbp_world.proofs.Words.Std.{◌≡◌, ◌∙◌, refl, sym, ap, subst, ℕ, Bool, true, false, cond, List, map, Option, Some, None, Result, Ok, Err, get_or-map, false≢true}
use Rattle.sbp_world.proofs.Words.Wire.{LabelParts, Stale, Finding, Layer, expiring_step, judging_step, of_again, of_generation, of_grammar, of_label, of_request, of_response, seeing_step, empty_outbox}
use Rattle.sbp_world.proofs.Words.Target.{Login, Table, held, held_for, is_last, is_live, one_less, place_at, login_ticked, Disk, Told, Purpose, after, alone, lets_expire, sees, ticks, NodeState, Scene, scene, answer_in, cleared_node, received, reset_by, seen, ticked, cut_all, whole}
use Rattle.sbp_world.proofs.Words.Initiator.{Expired}
use Rattle.sbp_world.proofs.Words.World.{AreSame, LoginsStand}
use Rattle.mgmt_agent.specs.Machine as management
use Rattle.sbp_target.specs.declared.purpose.Purpose.TheVariants as purposes
use Rattle.sbp_journal.specs.declared.cause.CutCause.TheVariants as cuts
use Rattle.sbp_target.proofs.Histories.Calling.{Good}
use Rattle.sbp_target.proofs.Histories.Settled.{all_good}
use Rattle.sbp_world.specs.Sessions.Standing.{StandingLaw}
use Rattle.sbp_world.proofs.Sessions.Logins.{reply_same, same}
use Rattle.sbp_world.proofs.Sessions.Tables.{delivery_tabled, lapse_tabled, lapsed_table, tabled}

module _ (node : NodeState) (g : Good node) (id : ℕ) where
  -- with these logins
  abbrev Keeps : Table → Type 0
  Keeps t = AreSame id node.logins.places t.places

  abbrev At : Scene → Type 0
  At x = Keeps x.node.logins

  module _ (other : management.source_in node.manager.operation ≡ Some id → ⊥) where
    found_same : (f : Finding Purpose) → Keeps (tabled f node)
    found_same of_generation = same id node.logins.places
    found_same of_grammar = same id node.logins.places
    found_same of_label = same id node.logins.places
    found_same (of_response p label None) = same id node.logins.places
    found_same (of_response p label (Some (purposes.Agent place))) = same id node.logins.places
    found_same (of_response p label (Some purposes.Management)) = reply_same id node.logins node.manager node.keys (answer_in p) other
    found_same (of_response p label (Some purposes.Unsolicited)) = same id node.logins.places
    found_same (of_again p rcode) = same id node.logins.places
    found_same (of_request p) = same id node.logins.places

    delivery_same : (run : Option Told) (disks : List Disk) (generation : ℕ) (bytes : List ℕ) → AreSame id node.logins.places (received run generation bytes (whole (scene node empty_outbox) disks)).1.node.logins.places
    delivery_same run disks generation bytes = subst Keeps (sym (delivery_tabled node g run disks generation bytes)) (found_same (judging_step node.layer generation bytes).0)

    late_same : (r : Result (Option Purpose) Stale) → Keeps (lapsed_table r node)
    late_same (Ok None) = same id node.logins.places
    late_same (Ok (Some (purposes.Agent place))) = same id node.logins.places
    late_same (Ok (Some purposes.Management)) = reply_same id node.logins node.manager node.keys Expired other
    late_same (Ok (Some purposes.Unsolicited)) = same id node.logins.places
    late_same (Err stale) = same id node.logins.places

    lapse_same : (peer : ℕ) (label : LabelParts) → At (alone (lets_expire peer label) node)
    lapse_same peer label = subst Keeps (sym (lapse_tabled node g peer label)) (late_same (expiring_step node.layer peer label).0)

  -- ---- a second
  ticks_live : (login : Login) → is_live login ≡ true → login_ticked (Some login) ≡ Some login
  ticks_live login e = by login.remaining refl e
    where
      by : (left : Option ℕ) → login.remaining ≡ left → is_live login ≡ true → login_ticked (Some login) ≡ Some login
      by None q l =
          ap (λ (x : Option ℕ). cond (is_last x) None (Some (record login { remaining = one_less x }))) q ∙ ap (λ (x : Option ℕ). Some (record login { remaining = x })) (sym q)
      by (Some seconds) q l = absurd (let x : is_live login ≡ false = rw q refl in false≢true (sym x ∙ l))

  was_live : (before : Option Login) (login : Login) → login_ticked before ≡ Some login → is_live login ≡ true → before ≡ Some login
  was_live None login e l = e
  was_live (Some own) login e l = by own.remaining refl e
    where
      by : (left : Option ℕ) → own.remaining ≡ left → login_ticked (Some own) ≡ Some login → Some own ≡ Some login
      by None q f = sym (ticks_live own (rw q refl)) ∙ f
      by (Some seconds) q f = absurd (last (is_last own.remaining) (sym (ap (λ (x : Option ℕ). cond (is_last own.remaining) None (Some (record own { remaining = one_less x }))) q) ∙ f))
        where
          last : (b : Bool) → cond b None (Some (record own { remaining = one_less (Some seconds) })) ≡ Some login → ⊥
          last true h = let z : None ≡ Some login = h in cc
          last false h =
              let own_is : record own { remaining = one_less (Some seconds) } ≡ login = cc in
              false≢true (ap is_live own_is ∙ l)

  second_same : At (alone ticks node)
  unfolding ticked
  second_same = record {
    keeps = λ place login e l n. get_or-map login_ticked node.logins.places place None ∙ ap login_ticked e ∙ ticks_live login l;
    brings = λ place login e l n. was_live (place_at node.logins.places place) login (sym (get_or-map login_ticked node.logins.places place None) ∙ e) l;
  }

  -- ---- a sight
  old_by : (r : Bool × Layer Purpose) → r.0 ≡ false → At (reset_by r (scene node empty_outbox)).1
  old_by (false, layer) e = same id node.logins.places
  old_by (true, layer) e = absurd (false≢true (sym e))

  old_same : (generation own : ℕ) → (seeing_step node.layer generation own).0 ≡ false → At (alone (sees generation own) node)
  unfolding seen
  old_same generation own e = old_by (seeing_step node.layer generation own) e

held_dead : (before : Option Login) (login : Login) → held before ≡ Some login → is_live login ≡ false
held_dead None login e = absurd (let z : None ≡ Some login = e in cc)
held_dead (Some own) login e =
    let own_is : record own { remaining = Some (held_for own.remaining own.hold) } ≡ login = cc in
    sym (ap is_live own_is)

all_dead : (places : List (Option Login)) (place : ℕ) (login : Login) → place_at (map held places) place ≡ Some login → is_live login ≡ false
all_dead places place login e = held_dead (place_at places place) login (sym (get_or-map held places place None) ∙ e)

new_by : (node : NodeState) (r : Bool × Layer Purpose) (place : ℕ) (login : Login) → r.0 ≡ true → place_at (reset_by r (scene node empty_outbox)).1.node.logins.places place ≡ Some login → is_live login ≡ false
new_by node (false, layer) place login t e = absurd (false≢true t)
new_by node (true, layer) place login t e = all_dead (cut_all cuts.Reset None (scene (cleared_node layer node) empty_outbox)).node.logins.places place login e

new_dead : (node : NodeState) (generation own place : ℕ) (login : Login) → (seeing_step node.layer generation own).0 ≡ true → place_at (alone (sees generation own) node).node.logins.places place ≡ Some login → is_live login ≡ false
unfolding seen
new_dead node generation own place login t e = new_by node (seeing_step node.layer generation own) place login t e

pub stands : (node : NodeState) → Good node → LoginsStand node
stands node g = record {
  deliveries = λ id other told disks generation bytes. delivery_same node g id other told disks generation bytes;
  expiries = λ id other peer label. lapse_same node g id other peer label;
  seconds = λ id. second_same node g id;
  keys = λ id unit key. same id node.logins.places;
  old_sights = λ id generation own e. old_same node g id generation own e;
  new_sights = new_dead node;
}

pub standing_law : StandingLaw
standing_law units ready calls has = stands (after units ready calls) (all_good units ready calls has)
