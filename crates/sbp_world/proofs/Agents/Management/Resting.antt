-- What a target tells at a reset, at a second and of a key, and that its logins are then as these notes say.
use Rattle.sbp_world.proofs.Words.Std.{◌≡◌, ◌∙◌, refl, sym, ap, subst, ℕ, zero, suc, ◌+◌, ◌<◌, Bool, true, false, cond, List, [], ◌∷◌, length, map, get_or, Option, Some, None, arith, slice_index_or}
use Rattle.sbp_world.proofs.Words.Wire.{Layer, seeing_step, OutboxState, empty_outbox}
use Rattle.sbp_world.proofs.Words.Target.{Login, IsSound, Table, expired_ids, held, is_live, place_at, login_ticked, Purpose, NodeState, Scene, scene, cleared_node, expired_from, held_from, reset_by, seen, tell_held, target_ticked, with_side, cut_all}
use Rattle.sbp_world.proofs.Words.Laws.{at_id, second_gone}
use Rattle.sbp_world.proofs.Words.World.{Agrees, Office, by_side, cleared, ticked}
use Rattle.mgmt_agent.specs.Machine as management
use Rattle.sbp_journal.specs.declared.cause.CutCause.TheVariants as cuts
use Rattle.sbp_journal.specs.declared.side.Side.TheVariants as sides
use Rattle.sbp_target.proofs.Histories.Seats.{Lives}
use Rattle.sbp_world.proofs.Agents.Management.Calm.{Calm, From, cuts_all}
use Rattle.sbp_world.proofs.Agents.Management.Managing.{Says, quiet_says, says_more}
use Rattle.sbp_world.proofs.Agents.Management.Places.{all_held, all_ticked, expires, holds, holds_from}

-- an office with other places
abbrev pub with_places : List (Option Login) → Office → Office
with_places places o = record o { table = record o.table { places = places } }

-- ---- logins are held

held_by : (b : Bool) (first now : Office) (login : Login) (o : OutboxState) → is_live login ≡ b → Says first now o.sides → Says first (with_places (holds (Some login) now.table.places) now) (cond b (with_side o (sides.Held login.login)) o).sides
held_by true first now login o e s =
    let told = says_more first now o.sides (sides.Held login.login) tt s in
    subst (λ places. Says first (with_places places now) (with_side o (sides.Held login.login)).sides)
    (sym (ap (λ b. cond b (map (at_id login.login (λ own. held (Some own))) now.table.places) now.table.places) e)) told
held_by false first now login o e s =
    subst (λ places. Says first (with_places places now) o.sides) (sym (ap (λ b. cond b (map (at_id login.login (λ own. held (Some own))) now.table.places) now.table.places) e)) s

held_one : (x : Option Login) (first now : Office) (o : OutboxState) → Says first now o.sides → Says first (with_places (holds x now.table.places) now) (tell_held x o).sides
held_one None first now o s = s
held_one (Some login) first now o s = held_by (is_live login) first now login o refl s

held_says : (left place : ℕ) (old : List (Option Login)) (first now : Office) (o : OutboxState) → Says first now o.sides → Says first (with_places (holds_from left place old now.table.places) now) (held_from left place old o).sides
unfolding held_from
held_says zero place old first now o s = s
held_says (suc left) place old first now o s =
    held_says left (place + 1) old first (with_places (holds (place_at old place) now.table.places) now) (tell_held (place_at old place) o) (held_one (place_at old place) first now o s)

-- ---- a reset is seen

-- what a call that asks for nothing makes of an office and of the node
pub record Rested (rom : List ℕ) (first : Office) (s : Scene) : Type 0 where
  pub rom_is : s.node.rom ≡ rom
  pub now : Office
  pub says : Says first now s.outbox.sides
  pub agrees : Agrees now s.node
  pub manages : now.manages ≡ first.manages
  pub manager : now.manager ≡ first.manager
  pub asks : now.asks ≡ first.asks

sees_as : (o : Office) (node : NodeState) (old : Lives) (layer : Layer Purpose) → From old layer → Agrees o node → IsSound node.logins.places → Rested node.rom (cleared o) (reset_by (true, layer) (scene node empty_outbox)).1
sees_as o node old layer f agrees sound =
    let begun = scene (cleared_node layer node) empty_outbox in
    let calm : Calm old (cleared_node layer node) begun = record { logins = refl; keys = refl; manager = refl; rom = refl; quiet = tt; from = f } in
    let t = cut_all cuts.Reset None begun in
    let c = cuts_all old (cleared_node layer node) cuts.Reset None begun calm in
    let first = cleared o in
    let places = holds_from 8 0 t.node.logins.places first.table.places in
    let table_is : first.table ≡ t.node.logins = agrees.table ∙ sym c.logins in
    let places_are : places ≡ map held t.node.logins.places =
    ap (λ (x : Table). holds_from 8 0 t.node.logins.places x.places) table_is
    ∙ all_held t.node.logins.places (subst (λ (x : Table). IsSound x.places) (sym c.logins) sound) in
    record {
      rom_is = c.rom;
      now = with_places places first;
      says = held_says 8 0 t.node.logins.places first first t.outbox (quiet_says t.outbox.sides first c.quiet);
      agrees = record {
        table = ap (λ xs. record first.table { places = xs }) places_are ∙ ap (λ (x : Table). record x { places = map held t.node.logins.places }) table_is;
        keys = agrees.keys ∙ sym c.keys;
        manager = ap management.clear_step agrees.manager ∙ sym c.manager;
      };
      manages = refl;
      manager = refl;
      asks = refl;
    }

sees_old : (o : Office) (node : NodeState) (layer : Layer Purpose) → Agrees o node → Rested node.rom o (reset_by (false, layer) (scene node empty_outbox)).1
sees_old o node layer agrees = record {
  rom_is = refl;
  now = o;
  says = record { is = refl; behind = tt };
  agrees = record { table = agrees.table; keys = agrees.keys; manager = agrees.manager };
  manages = refl;
  manager = refl;
  asks = refl;
}

abbrev pub seen_first : Bool → Office → Office
seen_first true o = cleared o
seen_first false o = o

sees_by : (r : Bool × Layer Purpose) (o : Office) (node : NodeState) (old : Lives) → From old r.1 → Agrees o node → IsSound node.logins.places → Rested node.rom (seen_first r.0 o) (reset_by r (scene node empty_outbox)).1
sees_by (true, layer) o node old f agrees sound = sees_as o node old layer f agrees sound
sees_by (false, layer) o node old f agrees sound = sees_old o node layer agrees

pub sight_rests : (generation id : ℕ) (o : Office) (node : NodeState) (old : Lives) → From old (seeing_step node.layer generation id).1 → Agrees o node → IsSound node.logins.places → Rested node.rom (seen_first (seeing_step node.layer generation id).0 o) (seen generation id (scene node empty_outbox)).1
unfolding seen
sight_rests generation id o node old f agrees sound = sees_by (seeing_step node.layer generation id) o node old f agrees sound

-- ---- a second passes

expired_says : (ids logins : List ℕ) (at : ℕ) (first now : Office) (o : OutboxState) → ((k : ℕ) → k < length ids → slice_index_or logins (at + k) 0 ≡ get_or ids k 0) → Says first now o.sides → Says first (with_places (expires ids now.table.places) now) (expired_from (length ids) at logins o).sides
unfolding expired_from
expired_says [] logins at first now o e s = s
expired_says (id ∷ ids) logins at first now o e s =
    let first_is : at ≡ at + 0 = omega arith in
    let here : slice_index_or logins at 0 ≡ id = ap (λ n. slice_index_or logins n 0) first_is ∙ e 0 (omega arith) in
    let told = says_more first now o.sides (sides.Expired id) tt s in
    let rest : (k : ℕ) → k < length ids → slice_index_or logins (at + 1 + k) 0 ≡ get_or ids k 0
    = λ k less. let next_is : at + 1 + k ≡ at + suc k = omega arith in ap (λ n. slice_index_or logins n 0) next_is ∙ e (suc k) (omega arith) in
    subst (λ n. Says first (with_places (expires (id ∷ ids) now.table.places) now) (expired_from (length ids) (at + 1) logins (with_side o (sides.Expired n))).sides) (sym here)
    (expired_says ids logins (at + 1) first (by_side (sides.Expired id) now) (with_side o (sides.Expired id)) rest told)

pub second_rests : (o : Office) (node : NodeState) → Agrees o node → IsSound node.logins.places → Rested node.rom (ticked o) (target_ticked (scene node empty_outbox))
unfolding target_ticked
second_rests o node agrees sound =
    let ids = expired_ids node.logins.places in
    let first = ticked o in
    let places_are : expires ids first.table.places ≡ map login_ticked node.logins.places =
    ap (λ (x : Table). expires ids (map second_gone x.places)) agrees.table ∙ all_ticked node.logins.places sound in
    record {
      rom_is = refl;
      now = with_places (expires ids first.table.places) first;
      says = expired_says ids ids 0 first first empty_outbox (λ k less. let same : 0 + k ≡ k = omega arith in ap (λ n. get_or ids n 0) same) (record { is = refl; behind = tt });
      agrees = record {
        table = ap (λ xs. record first.table { places = xs }) places_are ∙ ap (λ (x : Table). record x { places = map login_ticked node.logins.places }) agrees.table;
        keys = agrees.keys;
        manager = agrees.manager;
      };
      manages = refl;
      manager = refl;
      asks = refl;
    }
