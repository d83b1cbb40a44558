-- The transaction of an agent that is answered or times out: which of its desk's it is, for the target and for the terms, and the login that it serves.
use Rattle.sbp_world.proofs.Words.Std.{arith, ◌≡◌, ◌∙◌, refl, sym, ap, ℕ, ◌<◌, nat_lt, Bool, true, false, cond, List, length, Option, Some, None, nat_tests}
use Rattle.sbp_world.proofs.Words.Wire.{ReplyKind, Layer, state_for, LabelParts, under_way, Moment}
use Rattle.sbp_world.proofs.Words.Target.{Login, is_live, Disk, Which, Ahead, Main, Purpose, Sent, which_in, NodeState, desk_at, login_at, served_login, is_sent_as, if_served, IsThat}
use Rattle.sbp_world.proofs.Words.World.{WorldState, kept_as}
use Rattle.label_table.specs.declared.place.LabelState.TheVariants as states
use Rattle.label_table.proofs.Calls.{after_kept}
use Rattle.sbp_target.specs.declared.purpose.Purpose.TheVariants as purposes
use Rattle.sbp_target.proofs.Histories.Calling.{Good}
use Rattle.sbp_target.proofs.Histories.Following.{IsServed}
use Rattle.sbp_target.proofs.Histories.Primitives.{Known}
use Rattle.sbp_target.proofs.Histories.Rested.{Came, came_for, for_ahead, for_main}
use Rattle.sbp_target.proofs.Histories.Seats.{IsFor, Lives}
use Rattle.sbp_world.proofs.Agents.Management.Holding.{Holding}
use Rattle.sbp_world.proofs.Agents.Purposes.{g, label_generation, state_is}

-- two transactions with the same peer under the same label are one
sent_alike : (a b : Sent) → a.peer ≡ b.peer → a.label.number ≡ b.label.number → a.label.generation ≡ b.label.generation → a.label.serial ≡ b.label.serial → is_sent_as a b.peer b.label ≡ true
sent_alike a b peer number generation serial = grind (arith, nat_tests)

serial_of : (k l : ReplyKind) (m n : ℕ) → states.UnderWay k m ≡ states.UnderWay l n → m ≡ n
serial_of k l m n e = cc

pub not_both : (b : Bool) → b ≡ true → b ≡ false → ⊥
not_both b e f = let no : true ≡ false = sym e ∙ f in cc

pub served_there : (node : NodeState) (place : ℕ) (i : IsServed node place) → served_login node place ≡ Some i.login
served_there node place i = ap (λ (l : Option Login). if_served (length node.units) l) i.is ∙ on_unit (nat_lt i.login.unit (length node.units)) (let u = i.on_unit in grind (arith, nat_tests))
  where
    on_unit : (x : Bool) → x ≡ true → cond x (Some i.login) None ≡ Some i.login
    on_unit true e = refl
    on_unit false e = absurd (let no : false ≡ true = e in cc)

-- a label that is under way, at its table
pub state_of : (layer : Layer Purpose) (lives : Lives) (peer : ℕ) (label : LabelParts) (kind : ReplyKind) (purpose : Option Purpose) → Known layer lives → lives peer label ≡ under_way kind purpose → state_for layer.peers peer label.number ≡ states.UnderWay kind label.serial
state_of layer lives peer label kind purpose k e =
    ap (λ (x : Layer Purpose). state_for x.peers peer label.number) (sym k.layer_is)
    ∙ (after_kept 0xffc0 k.steps).agree.stands peer label kind purpose (sym (k.lives_are peer label) ∙ e)

-- the transaction of an agent, and the login that the agent serves
pub record IsServing (node : NodeState) (place : ℕ) (x : Sent) (which : Which) : Type 0 where
  pub which_is : which_in (desk_at node place) x.peer x.label ≡ Some which
  pub login : Login
  pub login_is : login_at node place ≡ Some login
  pub served_is : served_login node place ≡ Some login
  pub live : is_live login ≡ true

serving : (node : NodeState) (place : ℕ) (x : Sent) (which : Which) → which_in (desk_at node place) x.peer x.label ≡ Some which → IsServed node place → IsServing node place x which
serving node place x which w i = record { which_is = w; login = i.login; login_is = i.is; served_is = served_there node place i; live = i.live }

module _ (units ready : ℕ) (has : 0 < units) (start : List Disk) {past : List Moment} {lines : ℕ} (w : WorldState) (h : Holding units ready start past lines w) (place : ℕ) (b : place < 8) where
  abbrev G : Good w.target
  G = g units ready has start w h

  -- no transaction of a desk is its main one and its read ahead
  apart : (one two : Sent) → (desk_at w.target place).main ≡ Some one → (desk_at w.target place).ahead ≡ Some two → one.peer ≡ two.peer → one.label.number ≡ two.label.number → ⊥
  apart one two e f peer number =
      let s = G.mid.seats place b in
      let known = h.sound.nodes.target_holds.fits.seats place in
      let for_one = (s.main_for one e).0 in
      let for_two = (s.ahead_for two f).0 in
      let k = (known.main one e).0 in
      let l = (known.ahead two f).0 in
      let states_are : states.UnderWay for_one.kind one.label.serial ≡ states.UnderWay for_two.kind two.label.serial =
      sym (state_is units ready has start w h place one for_one k)
      ∙ ap (λ i. state_for w.target.layer.peers i one.label.number) peer
      ∙ ap (λ n. state_for w.target.layer.peers two.peer n) number
      ∙ state_is units ready has start w h place two for_two l in
      let serial = serial_of for_one.kind for_two.kind one.label.serial two.label.serial states_are in
      let generation = label_generation units ready has start w h place one for_one k ∙ sym (label_generation units ready has start w h place two for_two l) in
      not_both (is_sent_as one two.peer two.label) (sent_alike one two peer number generation serial) (s.apart one two e f)

  by_came : (x : Sent) (which : Which) → IsThat (kept_as which (desk_at w.target place)) x.peer x.label.number → Came place w.target x → IsServing w.target place x which
  by_came x Main k (for_main m is i s) = serving w.target place x Main is i
  by_came x Main k (for_ahead m is i s) = absurd (apart k.sent x k.is m k.peer_is k.number_is)
  by_came x Ahead k (for_main m is i s) = absurd (apart x k.sent m k.is (sym k.peer_is) (sym k.number_is))
  by_came x Ahead k (for_ahead m is i s) = serving w.target place x Ahead is i

  pub serves_it : (x : Sent) (which : Which) → IsFor G.lives (purposes.Agent place) x → IsThat (kept_as which (desk_at w.target place)) x.peer x.label.number → IsServing w.target place x which
  serves_it x which f k = by_came x which k (came_for place w.target G b x f)
