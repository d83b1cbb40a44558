-- A pointer and a doorbell: a list is taken from its first ORB on, and the agent that is at the end of a list stays along it.
use Rattle.sbp_world.proofs.Words.Std.{◌≡◌, ◌∙◌, refl, sym, ap, subst, ◌<◌, ℕ, zero, suc, Bool, true, false, List, [], ◌∷◌, length, Option, Some, None, Result, Ok, Err, arith, slice_index_or, slice_set, get_or-set_at, get_or-set_other, length-set}
use Rattle.sbp_world.proofs.Words.Wire.{Packet, Layer, Holder, holder_at, opened_by, opened_step, or_nobody, place_in, list_in, orb_in, Note, empty_outbox, Moment, said}
use Rattle.sbp_world.proofs.Words.Target.{Login, Phase, PointRefusal, Machine, aligned, named, present_of, doorbell_step, point_step, Along, AtEnd, Knows, at_start, PointerBrings, complete, Desk, Purpose, noted, pointed_desk, NodeState, Scene, desk_at, login_at, scene, with_agent, with_desk, answer_step, with_side, answered, asked_in, point, pointed_by, rcode_of, ring, rung_by, orb_of, tell_step}
use Rattle.sbp_world.proofs.Words.Initiator.{start, Ask, Nothing, OrbPointer}
use Rattle.sbp_world.proofs.Words.Laws.{address_of, linked, slot_at, is_cut, appends, ends, lists, runs}
use Rattle.sbp_world.proofs.Words.World.{holder, ticket_at, ticket_of, told, told_all, WorldState, has_list, UnrunLaw, orbs, IsPointed, machine_at, WasHad}
use Rattle.bus_memory.specs.declared.window.Window.TheVariants as windows
use Rattle.command_agent.specs.Steps as steps
use Rattle.agent_laws.proofs.Along.Writes.{keeps_along}
use Rattle.sbp_journal.specs.declared.side.Side.TheVariants as sides
use Rattle.sbp_target.specs.Serving.{asked_at}
use Rattle.sbp_world.proofs.Agents.Management.Still.{hist}
use Rattle.sbp_world.proofs.Agents.AskedLate.{quiet_follow}
use Rattle.sbp_world.proofs.Lists.Cuts.{Cutting, answers, desk_more}
use Rattle.sbp_world.proofs.Lists.Follows.{Mid, alike, asks_mid}
use Rattle.sbp_world.proofs.Lists.SameAgents.{AreSame, set_here, set_there}
use Rattle.sbp_world.proofs.Lists.Kept.{IsLess, Kept, same}
use Rattle.sbp_world.proofs.Lists.Lists.{laid}
use Rattle.sbp_world.proofs.Lists.Looks.{Looks, kept_looks, opened_looks}
use Rattle.sbp_world.proofs.Lists.Told.{AgentOn, Apart, Behind, ListAt, Own}
use Rattle.sbp_world.proofs.Lists.Turns.{Acting, First, Lists, Ready, acting, apart, begun, finish, first_goes, first_listed, v}
use Rattle.sbp_world.proofs.Lists.Passing.{GoesOn}
use Rattle.sbp_world.proofs.Lists.Pointers.{deaf, refused, taken, taken_phase}
use Rattle.sbp_world.proofs.Lists.Stands.{no}

-- the answer changes no agent, and tells nothing
answered_same : (request : Packet) (bytes : List ℕ) (rcode : ℕ) (given : List ℕ) (s : Scene) → AreSame s.node (answered request bytes rcode given s).node
unfolding answer_step
answered_same request bytes rcode given s = record { desks = refl; agents = λ p. refl }

pub answered_sides : (request : Packet) (bytes : List ℕ) (rcode : ℕ) (given : List ℕ) (s : Scene) → (answered request bytes rcode given s).outbox.sides ≡ s.outbox.sides
unfolding answer_step
answered_sides request bytes rcode given s = refl

-- a step that tells nothing is noted so
asks_noted : (q : ℕ) (ask : Ask) (s : Scene) → noted q (steps.asks ask) s ≡ s
unfolding noted tell_step
asks_noted q ask s = refl

-- and what is asked for leaves
asked_mid : (wild : ℕ → Bool) (past : List Moment) (u x : WorldState) (q n : ℕ) (machines : ℕ → Machine) (b : q < 8) (a : Apart wild past x q n machines) (login : Option Login) (ask : Ask) (s : Scene) → Mid wild past u x q n machines b a s → Mid wild past u x q n machines b a (asked_in q ask login s)
asked_mid wild past u x q n machines b a None ask s m = m
asked_mid wild past u x q n machines b a (Some login) ask s m =
    asks_mid wild past u x q n machines b a login (steps.asks ask) s (subst (Mid wild past u x q n machines b a) (sym (asks_noted q ask s)) m)

-- ---- who has a place whose list is opened
place_there : (places : List (Option Holder)) (q : ℕ) (h : Holder) → slice_index_or places q None ≡ Some h → q < length places
place_there [] q h e = absurd (differ e)
  where
    differ : None ≡ Some h → ⊥
    differ e = cc
place_there (x ∷ places) zero h e = omega arith
place_there (x ∷ places) (suc q) h e = let b = place_there places q h e in omega arith

opened_set : (places : List (Option Holder)) (q : ℕ) (list : Option ℕ) (h : Holder) → place_in places q ≡ Some h → opened_step q list places ≡ slice_set places q (Some (record h { list = list }))
unfolding opened_step
opened_set places q list h e = ap (λ (x : Option Holder). opened_by x q list places) e

opened_here : (places : List (Option Holder)) (q : ℕ) (list : Option ℕ) (h : Holder) → place_in places q ≡ Some h → holder_at (opened_step q list places) q ≡ record h { list = list }
opened_here places q list h e =
    ap (λ ps. holder_at ps q) (opened_set places q list h e)
    ∙ ap or_nobody (get_or-set_at places q q (Some (record h { list = list })) None refl (place_there places q h e))

opened_other : (places : List (Option Holder)) (q p : ℕ) (list : Option ℕ) → (p ≡ q → ⊥) → holder_at (opened_step q list places) p ≡ holder_at places p
unfolding opened_step
opened_other places q p list f = by (place_in places q)
  where
    by : (x : Option Holder) → holder_at (opened_by x q list places) p ≡ holder_at places p
    by None = refl
    by (Some h) = ap or_nobody (get_or-set_other places q p (Some (record h { list = list })) None f)

opened_initiator : (places : List (Option Holder)) (q : ℕ) (list : Option ℕ) → (holder_at (opened_step q list places) q).initiator ≡ (holder_at places q).initiator
unfolding opened_step
opened_initiator places q list = by (place_in places q) refl
  where
    none : place_in places q ≡ None → opened_step q list places ≡ places
    none e = ap (λ (x : Option Holder). opened_by x q list places) e

    by : (x : Option Holder) → place_in places q ≡ x → (holder_at (opened_step q list places) q).initiator ≡ (holder_at places q).initiator
    by None e = ap (λ ps. (holder_at ps q).initiator) (none e)
    by (Some h) e = ap (λ (x : Holder). x.initiator) (opened_here places q list h e) ∙ sym (ap (λ (x : Option Holder). (or_nobody x).initiator) e)

-- a pointer that was taken begins the list
begun_along : (i n : ℕ) (ms : List Moment) (m : Machine) (ask : Ask) (s : Result Ask PointRefusal × Machine) → s.0 ≡ Ok ask → PointerBrings (orbs ms i n) m s → Along (orbs ms i n) at_start s.1
begun_along i n ms m ask (Ok other, now) e b = b.along
begun_along i n ms m ask (Err refusal, now) e b = absurd (differ e)
  where
    differ : Err refusal ≡ Ok ask → ⊥
    differ e = cc

-- nothing is told yet behind the first note
pub start_cutting : (wild : ℕ → Bool) (past : List Moment) (w : WorldState) (r : Ready wild past w) (note : Note) (first : First note) (u : WorldState) → Looks u (v wild past w r note first) → (layer : Layer Purpose) → Cutting wild past u (scene (record w.target { layer = layer }) empty_outbox)
unfolding told_all
start_cutting wild past w r note first u l layer = record {
  desks = r.good.mid.size;
  kept = kept_looks wild past (machine_at w) u (v wild past w r note first) l (begun wild past w r note first);
}

module _ (wild : ℕ → Bool) (past : List Moment) (w : WorldState) (r : Ready wild past w) (note : Note) (first : First note) (u : WorldState) (l : Looks u (v wild past w r note first)) (q : ℕ) (b : q < 8) (layer : Layer Purpose) (request : Packet) (bytes : List ℕ) where
  abbrev node : NodeState
  node = record w.target { layer = layer }

  abbrev here : Scene
  here = scene node empty_outbox

  abbrev K : Scene → Type 0
  K s = Kept wild past (λ p. (desk_at s.node p).agent) (told_all 0 s.outbox.sides u)

  inside : q < length node.desks
  inside = let e = r.good.mid.size in omega (arith, e)

  begins : Cutting wild past u here
  begins = start_cutting wild past w r note first u l layer

  -- ---- a doorbell
  module _ (h : has_list (machine_at w q).phase ≡ true) where
    abbrev act : Acting wild past w r note first q
    act = acting wild past w r note first q b h

    abbrev off : Apart wild past (v wild past w r note first) q act.n (machine_at w)
    off = apart wild past w r note first q act.n b h

    abbrev Q : Scene → Type 0
    Q = Mid wild past u (v wild past w r note first) q act.n (machine_at w) b off

    abbrev rung : Machine
    rung = (doorbell_step (machine_at w q)).1

    rung_mid : Q (scene (with_agent node q rung) empty_outbox)
    unfolding told_all
    rung_mid =
        let d : Desk = record (desk_at node q) { agent = rung } in
        record {
          fresh = note ∷ w.fresh;
          is = l;
          desks = length-set node.desks q d ∙ r.good.mid.size;
          same = λ p f. ap (λ (x : Desk). x.agent) (set_there node q p d inside f);
          after = subst (λ x. Behind wild past (v wild past w r note first) q act.n (machine_at w) x (note ∷ w.fresh)) (sym (ap (λ (x : Desk). x.agent) (set_here node q d inside))) (record {
            law = (begun wild past w r note first).passes;
            others = λ p c f. (begun wild past w r note first).on p c;
            own = λ own.
                let o = act.own own in
                let list = orbs (said note ∷ hist past w) (holder w q).initiator act.n in
                record {
                  listed = o.listed;
                  goes = record { progress = o.goes.progress; is = o.goes.is; ran = o.goes.ran; along = ((keeps_along list).rings o.goes.progress (machine_at w q) o.goes.along).along };
                  had = o.had;
                };
          });
        }

    heard_ring : K (ring q request bytes here)
    unfolding ring
    heard_ring =
        let t = scene (with_agent node q rung) empty_outbox in
        let x = answered request bytes complete [] t in
        let ask = (doorbell_step (machine_at w q)).0 in
        finish wild past w r note first u (v wild past w r note first) q act.n b off act.list (asked_at q ask x)
        (asked_mid wild past u (v wild past w r note first) q act.n (machine_at w) b off (login_at x.node q) ask x (alike wild past u (v wild past w r note first) q act.n (machine_at w) b off t x (answered_same request bytes complete [] t) (answered_sides request bytes complete [] t) rung_mid))

  deaf_ring : has_list (machine_at w q).phase ≡ false → K (ring q request bytes here)
  unfolding ring
  deaf_ring e =
      subst (λ (x : Ask × Machine). K (rung_by q request bytes x here)) (sym (deaf (machine_at w q) e))
      (by (login_at node q))
    where
      t : Scene
      t = scene (with_agent node q (machine_at w q)) empty_outbox

      x : Scene
      x = answered request bytes complete [] t

      done : Cutting wild past u x
      done = answers wild past u request bytes complete [] t (desk_more wild past u here q (record (desk_at node q) { agent = machine_at w q }) (same (machine_at w q)) begins)

      by : (login : Option Login) → K (asked_in q Nothing login x)
      by None = done.kept
      by (Some login) = subst K (sym (quiet_follow q login (steps.asks Nothing) x refl)) done.kept

  pub ring_kept : K (ring q request bytes here)
  ring_kept = by (has_list (machine_at w q).phase) refl
    where
      by : (x : Bool) → has_list (machine_at w q).phase ≡ x → K (ring q request bytes here)
      by true e = heard_ring e
      by false e = deaf_ring e

  -- ---- a pointer
  module _ (pointer : OrbPointer) (points : wild (holder w q).initiator ≡ false → (ask : Ask) → (point_step (machine_at w q) pointer).0 ≡ Ok ask → IsPointed (hist past w) w q pointer) (took : (ask : Ask) → (point_step (machine_at w q) pointer).0 ≡ Ok ask → wild (holder w q).initiator ≡ false → (n : ℕ) → list_in (ticket_at w q (orb_of (point_step (machine_at w q) pointer).1)) ≡ Some n → WasHad (said note ∷ hist past w) (holder w q).initiator n) where
    abbrev i : ℕ
    i = (holder w q).initiator

    abbrev now : Machine
    now = (point_step (machine_at w q) pointer).1

    abbrev list : Option ℕ
    list = list_in (ticket_at w q (orb_of now))

    -- its list is open from then on
    abbrev x : WorldState
    x = record w { fresh = note ∷ w.fresh; places = opened_step q list w.places }

    initiator_is : (holder x q).initiator ≡ i
    initiator_is = opened_initiator w.places q list

    other_is : (p : ℕ) → (p ≡ q → ⊥) → holder x p ≡ holder w p
    other_is p f = opened_other w.places q p list f

    -- the list of an initiator that is asked about, and any other
    record Chosen : Type 0 where
      n : ℕ
      alone : wild i ≡ false → (other : ℕ) → other < 8 → has_list (machine_at w other).phase ≡ true → (holder w other).initiator ≡ i → other ≡ q
      has : wild i ≡ false → (holder x q).list ≡ Some n
      own : wild i ≡ false → Own wild past x q n (machine_at w) (said note ∷ hist past w) now

    module _ (ask : Ask) (e : (point_step (machine_at w q) pointer).0 ≡ Ok ask) where
      -- no list of its initiator is open, and the ORB has not run
      shut : wild i ≡ false → (o : IsPointed (hist past w) w q pointer) → has_list (machine_at w q).phase ≡ true → ⊥
      shut f o h =
          let l = (r.needs i f).lists.listed q b h (r.calm i f) in
          let a = r.kept.on q b h l.n l.list f in
          let latest = l.still.latest in
          let same : l.n ≡ o.n = let other = o.still.latest in omega (arith, latest, other) in
          let none : a.progress.ended ≡ 0 = a.is ∙ ap (λ n. ends (hist past w) i n) same ∙ o.none in
          let end : AtEnd (orbs (hist past w) i l.n) a.progress (machine_at w q).present (machine_at w q).orb.next = subst (λ (x : Phase). Knows (orbs (hist past w) i l.n) a.progress x (machine_at w q)) (taken_phase (machine_at w q) pointer ask e h) a.along.main in
          let some = end.over.ended in
          omega (arith, none, some)

      unrun : wild i ≡ false → (o : IsPointed (hist past w) w q pointer) → UnrunLaw → runs (hist past w) i o.n 0 ≡ 0
      unrun f o u =
          (r.unrun u i f).held i o.n (r.calm i f) o.still o.none
          (λ place c h at. let same : place ≡ q = o.alone place c h at in shut f o (subst (λ p. has_list (machine_at w p).phase ≡ true) same h))

      honest : wild i ≡ false → (o : IsPointed (hist past w) w q pointer) → Chosen
      honest f o =
          let ms = hist past w in
          let t = taken (machine_at w q) pointer ask e in
          let orb : orb_of now ≡ aligned t.next = ap (λ (m : Machine). orb_of m) t.now_is in
          let at : Some (aligned t.next) ≡ Some (address_of ms i o.n 0) = sym (ap named t.is) ∙ o.first in
          let same_at : aligned t.next ≡ address_of ms i o.n 0 = cc in
          let found : list ≡ Some o.n = ap (λ k. list_in (ticket_at w q k)) (orb ∙ same_at) ∙ (o.named 0 o.linked_one).list in
          let listed : ListAt wild past x q o.n (machine_at w) (lists ms i) (is_cut ms i o.n) (linked ms i o.n) (appends ms i o.n) (slot_at ms i o.n) (ends ms i o.n) = record {
            latest_is = o.still.latest;
            uncut = o.still.uncut;
            within = r.within i o.n o.inside;
            list = λ k c d. ap (λ j. list_in (ticket_of w j (start (windows.Orb (slot_at ms i o.n k))))) initiator_is ∙ (o.named k d).list;
            number = λ k c d. ap (λ j. orb_in (ticket_of w j (start (windows.Orb (slot_at ms i o.n k))))) initiator_is ∙ (o.named k d).number;
          } in
          let begins = begun_along i o.n ms (machine_at w q) ask (point_step (machine_at w q) pointer) e ((keeps_along (orbs ms i o.n)).points (machine_at w q) pointer (laid ms i o.n) o.first o.linked_one) in
          record {
            n = o.n;
            alone = λ own. o.alone;
            has = λ own. ap (λ (h : Holder). h.list) (opened_here w.places q list (holder w q) o.there) ∙ found;
            own = λ own. record {
              listed = subst (λ j. Lists ms j o.n wild past x q (machine_at w) (said note ∷ ms)) (sym initiator_is) (first_listed ms i o.n wild past x q (machine_at w) note first listed);
              goes = subst (λ j. GoesOn (said note ∷ ms) j o.n now) (sym initiator_is) (first_goes ms i o.n note now first (record { progress = at_start; is = sym o.none; ran = λ t. unrun f o t; along = begins }));
              had = subst (λ j. WasHad (said note ∷ ms) j o.n) (sym initiator_is) (took ask e f o.n found);
            };
          }

      chosen : Chosen
      chosen = by (wild i) refl
        where
          by : (y : Bool) → wild i ≡ y → Chosen
          by true f = record { n = 0; alone = λ g. absurd (no (sym g ∙ f)); has = λ g. absurd (no (sym g ∙ f)); own = λ g. absurd (no (sym g ∙ f)) }
          by false f = honest f (points f ask e)

      calm_is : wild (holder x q).initiator ≡ false → wild i ≡ false
      calm_is f = ap wild (sym initiator_is) ∙ f

      point_off : Apart wild past x q chosen.n (machine_at w)
      point_off = λ p c f d g same.
          let at_p : (holder w p).initiator ≡ i = sym (ap (λ (h : Holder). h.initiator) (other_is p f)) ∙ same ∙ initiator_is in
          let own : wild i ≡ false = ap wild (sym at_p) ∙ ap (λ (h : Holder). wild h.initiator) (sym (other_is p f)) ∙ g in
          f (chosen.alone own p c d at_p)

      abbrev desk_now : Desk
      desk_now = record (desk_at node q) { agent = now; pointer = present_of now }

      abbrev taken_scene : Scene
      taken_scene = scene (with_desk node q desk_now) (with_side empty_outbox (sides.Opened q (orb_of now)))

      opens : Looks (told_all 0 taken_scene.outbox.sides u) x
      unfolding told_all told
      opens = opened_looks q (orb_of now) u (v wild past w r note first) l

      taken_mid : Mid wild past u x q chosen.n (machine_at w) b point_off taken_scene
      unfolding point_step
      taken_mid = record {
        fresh = note ∷ w.fresh;
        is = opens;
        desks = length-set node.desks q desk_now ∙ r.good.mid.size;
        same = λ p f. ap (λ (d : Desk). d.agent) (set_there node q p desk_now inside f);
        after = subst (λ m. Behind wild past x q chosen.n (machine_at w) m (note ∷ w.fresh)) (sym (ap (λ (d : Desk). d.agent) (set_here node q desk_now inside))) (record {
          law = (begun wild past w r note first).passes;
          others = λ p c f. subst (λ (h : Holder). AgentOn wild (said note ∷ hist past w) h (machine_at w p)) (sym (other_is p f)) ((begun wild past w r note first).on p c);
          own = λ g. chosen.own (calm_is g);
        });
      }

      taken_kept : K (pointed_by q request bytes (pointed_desk (desk_at node q) (Ok ask, now)) here)
      taken_kept =
          let y = answered request bytes complete [] taken_scene in
          finish wild past w r note first u x q chosen.n b point_off (λ g. chosen.has (calm_is g)) (asked_at q ask y)
          (asked_mid wild past u x q chosen.n (machine_at w) b point_off (login_at y.node q) ask y (alike wild past u x q chosen.n (machine_at w) b point_off taken_scene y (answered_same request bytes complete [] taken_scene) (answered_sides request bytes complete [] taken_scene) taken_mid))

    refused_kept : (refusal : PointRefusal) → (point_step (machine_at w q) pointer).0 ≡ Err refusal → K (pointed_by q request bytes (pointed_desk (desk_at node q) (Err refusal, now)) here)
    refused_kept refusal e =
        let d : Desk = record (desk_at node q) { agent = now } in
        let t = scene (with_desk node q d) empty_outbox in
        (answers wild past u request bytes (rcode_of refusal) [] t (desk_more wild past u here q d (subst (λ m. IsLess (machine_at w q) m) (sym (refused (machine_at w q) pointer refusal e)) (same (machine_at w q))) begins)).kept

    pub point_kept : K (point q pointer request bytes here)
    unfolding point
    point_kept = by (point_step (machine_at w q) pointer).0 refl
      where
        by : (y : Result Ask PointRefusal) → (point_step (machine_at w q) pointer).0 ≡ y → K (pointed_by q request bytes (pointed_desk (desk_at node q) (point_step (machine_at w q) pointer)) here)
        by (Ok ask) e = subst (λ y. K (pointed_by q request bytes (pointed_desk (desk_at node q) (y, now)) here)) (sym e) (taken_kept ask e)
        by (Err refusal) e = subst (λ y. K (pointed_by q request bytes (pointed_desk (desk_at node q) (y, now)) here)) (sym e) (refused_kept refusal e)
