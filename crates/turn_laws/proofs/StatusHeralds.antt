-- A disc that came: who comes to be among the nodes that an unsolicited status is under way to has a login of which `unsolicited` is told.
use Rattle.std.proofs.Common.{◌≡◌, ◌∙◌, refl, sym, ap, inl, inr, ◌⊎◌, ℕ, zero, suc, ◌+◌, ◌&&◌, ◌==◌, not, Bool, true, false, cond, List, [], ◌∷◌, ◌++◌, Option, Some, None}
use Rattle.async_packet.specs.Labels.{LabelParts}
use Rattle.command_agent.specs.Machine.{Machine}
use Rattle.command_agent.specs.Steps.{reply_step}
use Rattle.command_agent.specs.declared.step.AgentStep.{AgentStep}
use Rattle.command_agent.specs.declared.step.Which.{Which}
use Rattle.label_table.specs.Bodies.{block_write}
use Rattle.label_table.specs.Layer.{Layer, asking_step}
use Rattle.label_table.specs.declared.judgement.Asked.{Asked}
use Rattle.login_table.specs.Table.{Table, is_live, place_at}
use Rattle.login_table.specs.declared.login.Login.{Login}
use Rattle.media_bay.specs.Unsolicited.{block}
use Rattle.orb_layout.specs.Replies.{Answer}
use Rattle.rbc_disk.specs.Disk.{disk_at}
use Rattle.rbc_disk.specs.Runs.{Told}
use Rattle.sbp_journal.specs.declared.side.Side.{Side}
use Rattle.sbp_journal.specs.declared.side.Side.TheVariants as sides
use Rattle.sbp_target.specs.Agents.{follow}
use Rattle.sbp_target.specs.Desks.{which_in}
use Rattle.sbp_target.specs.Nodes.{Scene, desk_at, login_at, scene}
use Rattle.sbp_target.specs.Replies.{Stage, Whole, advance, advanced_with, announced_by, came, changed_by, follow_all, plain_at, replied, replied_by, replied_to, replied_with, scene_of, served_login, stage}
use Rattle.sbp_target.specs.Sending.{request_step, sent_by, with_side}
use Rattle.sbp_target.specs.Units.{announce_at, announce_from, announce_in, announce_to, hears, is_pending, unsolicited_by}
use Rattle.sbp_target.specs.declared.purpose.Purpose.{Purpose}
use Rattle.sbp_target.specs.declared.purpose.Purpose.TheVariants as purposes
use Rattle.sbp_target.proofs.Histories.Seats.{Lives}
use Rattle.sbp_world.proofs.Agents.AskedLate.{follow_logins}
use Rattle.sbp_world.proofs.Agents.AskedReplies.{changed_logins}
use Rattle.turn_laws.proofs.Announcing.{second_of}
use Rattle.turn_laws.proofs.StatusAnnounces.{changed_still, replied_still}
use Rattle.turn_laws.proofs.StatusOnce.{more_pending}
use Rattle.turn_laws.proofs.StatusStays.{Still, follows}

-- `unsolicited` of a place is told
abbrev pub Tells : ℕ → List Side → Type 0
Tells place [] = ⊥
Tells place (side ∷ later) = (side ≡ sides.Unsolicited place) ⊎ Tells place later

pub tells_first : (place : ℕ) (a b : List Side) → Tells place a → Tells place (a ++ b)
tells_first place (side ∷ a) b (inl e) = inl e
tells_first place (side ∷ a) b (inr t) = inr (tells_first place a b t)
tells_first place [] b t = absurd t

pub tells_last : (place : ℕ) (a : List Side) → Tells place (a ++ sides.Unsolicited place ∷ [])
tells_last place [] = inl refl
tells_last place (side ∷ a) = inr (tells_last place a)

module _ (first : List ℕ) (table : Table) where
  -- of a live login with this node `unsolicited` is told
  pub record IsHeard (peer : ℕ) (told : List Side) : Type 0 where
    pub place : ℕ
    pub login : Login
    pub there : place_at table.places place ≡ Some login
    pub live : is_live login ≡ true
    pub node_is : login.node ≡ peer
    pub tells : Tells place told

  heard_more : (peer : ℕ) (told more : List Side) → IsHeard peer told → IsHeard peer (told ++ more)
  heard_more peer told more h = record { place = h.place; login = h.login; there = h.there; live = h.live; node_is = h.node_is; tells = tells_first h.place told more h.tells }

  pub record Heralds (s : Scene) : Type 0 where
    pub logins : s.node.logins ≡ table
    pub heard : (peer : ℕ) → is_pending peer s.node.pending ≡ true → (is_pending peer first ≡ true) ⊎ IsHeard peer s.outbox.sides

  begins : (s : Scene) → s.node.logins ≡ table → s.node.pending ≡ first → Heralds s
  begins s e f = record { logins = e; heard = λ peer h. inl (sym (ap (is_pending peer) f) ∙ h) }

  -- ---- one is sent to a node
  module _ (place : ℕ) (login : Login) (s : Scene) (there : login_at s.node place ≡ Some login) (live : is_live login ≡ true) (h : Heralds s) where
    side_more : (peer : ℕ) (side : Side) → (is_pending peer first ≡ true) ⊎ IsHeard peer s.outbox.sides → (is_pending peer first ≡ true) ⊎ IsHeard peer (s.outbox.sides ++ side ∷ [])
    side_more peer side (inl e) = inl e
    side_more peer side (inr x) = inr (heard_more peer s.outbox.sides (side ∷ []) x)

    joins : (peer : ℕ) → (is_pending peer s.node.pending ≡ true) ⊎ (peer ≡ login.node) → (is_pending peer first ≡ true) ⊎ IsHeard peer (s.outbox.sides ++ sides.Unsolicited place ∷ [])
    joins peer (inl e) = side_more peer (sides.Unsolicited place) (h.heard peer e)
    joins peer (inr e) = inr (record { place = place; login = login; there = sym (ap (λ (t : Table). place_at t.places place) h.logins) ∙ there; live = live; node_is = sym e; tells = tells_last place s.outbox.sides })

    told_out : (r : Option Asked × Layer Purpose) → Heralds (unsolicited_by place login.node s.node (sent_by r s.outbox login.node))
    told_out (None, layer) = record { logins = h.logins; heard = λ peer e. side_more peer (sides.Unsent place) (h.heard peer e) }
    told_out (Some asked, layer) = record { logins = h.logins; heard = λ peer e. joins peer (more_pending peer login.node s.node.pending e) }

    announces_to : Heralds (announce_to place login s)
    unfolding announce_to request_step
    announces_to = by (is_pending login.node s.node.pending)
      where
        by : (b : Bool) → Heralds (cond b (scene s.node (with_side s.outbox (sides.Unsent place))) (unsolicited_by place login.node s.node (request_step s.node.layer s.outbox login.node (block_write login.fifo block) purposes.Unsolicited)))
        by true = record { logins = h.logins; heard = λ peer e. side_more peer (sides.Unsent place) (h.heard peer e) }
        by false = told_out (asking_step s.node.layer login.node (block_write login.fifo block) purposes.Unsolicited)

  announces_in : (unit from place : ℕ) (login : Option Login) (s : Scene) → login_at s.node place ≡ login → Heralds s → Heralds (announce_in unit from place login s)
  announces_in unit from place None s e h = h
  announces_in unit from place (Some login) s e h = by (hears unit from place (desk_at s.node place) login) refl
    where
      by : (b : Bool) → hears unit from place (desk_at s.node place) login ≡ b → Heralds (cond b (announce_to place login s) s)
      by true f = announces_to place login s e (second_of (login.unit == unit) (is_live login) (not (place == from) && (desk_at s.node place).is_enabled) f) h
      by false f = h

  announces_at : (unit from place : ℕ) (s : Scene) → Heralds s → Heralds (announce_at unit from place s)
  unfolding announce_at
  announces_at unit from place s h = announces_in unit from place (login_at s.node place) s refl h

  announces_from : (left place unit from : ℕ) (s : Scene) → Heralds s → Heralds (announce_from left place unit from s)
  unfolding announce_from
  announces_from zero place unit from s h = h
  announces_from (suc left) place unit from s h = announces_from left (place + 1) unit from (announce_at unit from place s) (announces_at unit from place s h)

  announces_by : (b : Bool) (unit place : ℕ) (s : Scene) → Heralds s → Heralds (announced_by b unit place s)
  announces_by false unit place s h = h
  announces_by true unit place s h = announces_from 8 0 unit place s h

  -- ---- a reply to an agent
  module _ (old : Lives) where
    follows_all : (b : Bool) (place : ℕ) (login : Login) (step : AgentStep) (s : Scene) → Still old first s.node → s.node.logins ≡ table → Heralds (follow_all b place login step s)
    unfolding follow_all
    follows_all b place login step s h e =
        let t = scene (changed_by b login.unit place s.node) s.outbox in
        announces_by b login.unit place (follow place login step t)
        (begins (follow place login step t) (follow_logins place login step t ∙ (changed_logins b login.unit place s.node ∙ e)) (follows old first place login step t (changed_still old first b login.unit place s.node h)).pending)

    advances_with : (place : ℕ) (login : Login) (r : AgentStep × Stage) (w : Whole) → Still old first r.1.node → r.1.node.logins ≡ table → Heralds (scene_of (advanced_with place login r w))
    advances_with place login (step, st) w h e = follows_all (came (disk_at w.disks login.unit) (disk_at st.disks login.unit)) place login step (scene st.node w.outbox) h e

    replied_table : (place unit : ℕ) (which : Which) (r : AgentStep × Machine) (s : Stage) → s.node.logins ≡ table → (replied_with place unit which r s).1.node.logins ≡ table
    replied_table place unit which (step, m) s e = e

    advances : (told : Option Told) (place : ℕ) (login : Login) (which : Which) (answer : Answer) (w : Whole) → Still old first w.node → w.node.logins ≡ table → Heralds (scene_of (advance told place login which answer w))
    unfolding advance replied
    advances told place login which answer w h e =
        let s = stage w.node w.disks in
        let r = reply_step (desk_at w.node place).agent place (plain_at s login.unit) told which answer in
        advances_with place login (replied_with place login.unit which r s) w (replied_still old first place login.unit which r s h) (replied_table place login.unit which r s e)

    replies_by : (told : Option Told) (place : ℕ) (answer : Answer) (login : Option Login) (which : Option Which) (w : Whole) → Still old first w.node → w.node.logins ≡ table → Heralds (scene_of (replied_by told place answer login which w))
    replies_by told place answer (Some login) (Some which) w h e = advances told place login which answer w h e
    replies_by told place answer None which w h e = begins (scene_of w) e h.pending
    replies_by told place answer (Some login) None w h e = begins (scene_of w) e h.pending

    pub announcing : (told : Option Told) (place peer : ℕ) (label : LabelParts) (answer : Answer) (w : Whole) → Still old first w.node → w.node.logins ≡ table → Heralds (scene_of (replied_to told place peer label answer w))
    unfolding replied_to
    announcing told place peer label answer w h e = replies_by told place answer (served_login w.node place) (which_in (desk_at w.node place) peer label) w h e
