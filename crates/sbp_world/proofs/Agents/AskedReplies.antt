-- A reply to an agent leaves all desks waiting for what left.
use Rattle.sbp_world.proofs.Words.Std.{◌≡◌, ◌∙◌, refl, sym, ap, subst, ℕ, ◌<◌, nat_lt, Bool, true, false, cond, List, length, Option, Some, None, slice_set, length-set}
use Rattle.sbp_world.proofs.Words.Wire.{LabelParts, Asked, Body, block_write, Layer, asking_step, Outgoing, OutboxState}
use Rattle.sbp_world.proofs.Words.Target.{Login, block, Disk, disk_at, Told, AgentStep, Which, Ahead, Main, Machine, is_ahead, is_sent, reply_step, Desk, Purpose, Sent, follow, after, is_that, taken, which_in, NodeState, Scene, desk_at, login_at, scene, Stage, advance, announced_by, came, changed_by, follow_all, plain_in, replied, replied_by, replied_to, scene_of, served_login, stage, whole, request_step, sent_by, with_packet, unsolicited_by, unsolicited_from, if_served, ahead_under, Announced, pushes, stay, withholds}
use Rattle.sbp_world.proofs.Words.Initiator.{Answer}
use Rattle.sbp_world.proofs.Words.World.{AllAsk, AsksReally, IsStill, IsUnder, Left, RepliesLaw, main_body}
use Rattle.sbp_target.specs.declared.purpose.Purpose.TheVariants as purposes
use Rattle.sbp_target.proofs.Histories.Calling.{Good, not_eight}
use Rattle.sbp_target.proofs.Histories.Following.{Fits}
use Rattle.sbp_target.proofs.Histories.Settled.{all_good}
use Rattle.sbp_target.proofs.Histories.Stepped.{Behind, Over, ahead_replied, main_replied}
use Rattle.sbp_world.proofs.Agents.AskedFollows.{Followed, bare_of, desk_other, followed, left_as, left_more, still_body}
use Rattle.sbp_world.proofs.Agents.AskedLate.{ahead_of, all_by, asks_more, follow_keeps, follow_logins, none_sent, quiet_follow, same_login}
use Rattle.sbp_world.proofs.Agents.AskedSteps.{under_law}
use Rattle.sbp_world.proofs.Agents.Sized.{still_sized}
use Rattle.sbp_world.proofs.Agents.Walk.{desk_set}
use Rattle.sbp_target.proofs.Histories.Moved.{announced_moves}
use Rattle.sbp_target.proofs.Histories.Views.{kept}

-- ---- unsolicited statuses behind a step
-- a register is disabled
abbrev pub Off : Desk → Bool → Desk
Off d x = record d { is_enabled = x }

pub off_asks : (packets : List Outgoing) (fifo : ℕ) (d : Desk) (x : Bool) → AsksReally packets fifo d → AsksReally packets fifo (Off d x)
off_asks packets fifo d x a = record { main = a.main; ahead = a.ahead; sized = a.sized }

-- eight desks, and all wait for what left
pub record Fine (s : Scene) : Type 0 where
  pub desks : length s.node.desks ≡ 8
  pub all : AllAsk s.outbox.packets s.node

sent_fine : (place : ℕ) (login : Login) (s : Scene) (r : Option Asked × Layer Purpose) → place < 8 → Fine s → Fine (unsolicited_by place login.node s.node (sent_by r s.outbox login.node))
sent_fine place login s (None, layer) b h = record { desks = h.desks; all = record { all = λ p l i e. h.all.all p l i e } }
sent_fine place login s (Some asked, layer) b h =
    let packet : Outgoing = record { to = login.node; label = Some asked.label; bytes = asked.bytes } in
    let later = unsolicited_from place login.node layer s.node in
    let d = Off (desk_at s.node place) false in
    let packets = (with_packet s.outbox packet).packets in
    let more : (sent : Sent) (body : Option Body) → Left s.outbox.packets sent body → Left packets sent body = λ sent body. left_more s.outbox.packets packet sent body in
    record {
      desks = length-set s.node.desks place d ∙ h.desks;
      all = all_by place s.outbox.packets packets s.node later refl (λ k n. desk_other place k s.node later d b h.desks n refl) more
          (λ other e.
          subst (λ (x : Desk). AsksReally packets other.fifo x) (sym (desk_set place s.node later d b h.desks refl))
          (off_asks packets other.fifo (desk_at s.node place) false (asks_more s.outbox.packets packets more other.fifo (desk_at s.node place) (h.all.all place other b e))))
          h.all;
    }

tells : (unit from : ℕ) (x y : Scene) → Announced unit from x y → Fine x → Fine y
unfolding request_step
tells unit from _ _ (pushes place login s e) h = sent_fine place login s (asking_step s.node.layer login.node (block_write login.fifo block) purposes.Unsolicited) e.small h
tells unit from _ _ (withholds place login s e) h = record { desks = h.desks; all = h.all }

announces_by : (loaded : Bool) (unit from : ℕ) (s : Scene) → Fine s → Fine (announced_by loaded unit from s)
announces_by loaded unit from s h =
    kept (Announced unit from) Fine (tells unit from) s _ (announced_moves (Announced unit from) unit from (λ x y m. m) s loaded s (stay s)) h

changed_desks : (b : Bool) (unit place : ℕ) (node : NodeState) → (changed_by b unit place node).desks ≡ node.desks
changed_desks true unit place node = refl
changed_desks false unit place node = refl

pub changed_logins : (b : Bool) (unit place : ℕ) (node : NodeState) → (changed_by b unit place node).logins ≡ node.logins
changed_logins true unit place node = refl
changed_logins false unit place node = refl

pub served_is : (units : ℕ) (l : Option Login) (login : Login) → if_served units l ≡ Some login → l ≡ Some login
served_is units None login e = absurd (let f : None ≡ Some login = e in cc)
served_is units (Some x) login e = by (nat_lt x.unit units) e
  where
    by : (b : Bool) → cond b (Some x) None ≡ Some login → Some x ≡ Some login
    by true f = f
    by false f = absurd (let g : None ≡ Some login = f in cc)

module _ (node : NodeState) (g : Good node) (outbox : OutboxState) (q : ℕ) (b : q < 8) (a : AllAsk outbox.packets node) where
  abbrev Here : Desk
  Here = desk_at node q

  abbrev m : Machine
  m = Here.agent

  fits : Fits Here
  fits = g.mid.fits q b (not_eight q b)

  -- a step of the main transaction, and what follows it
  main_all : (login : Login) (r : AgentStep × Machine) (later : NodeState) → login_at node q ≡ Some login → Behind (is_ahead m.ahead) r → IsUnder (ahead_under m) r → later.desks ≡ slice_set node.desks q (record (taken Main Here) { agent = r.1 }) → later.logins ≡ node.logins → Fine (follow q login r.0 (scene later outbox))
  main_all login r later there behind under desks logins =
      let d : Desk = record (taken Main Here) { agent = r.1 } in
      let t = scene later outbox in
      let here : desk_at later q ≡ d = desk_set q node later d b g.mid.size desks in
      let f : Followed q login later (follow q login r.0 t)
      = followed q b login (is_ahead m.ahead) r.0 m r.1 t behind under (λ e. e)
      (record {
        desks = ap (λ ds. length ds) desks ∙ length-set node.desks q d ∙ g.mid.size;
        agent = ap (λ (x : Desk). x.agent) here;
        ahead = λ sent e i. (a.all q login b there).ahead sent (sym (ap (λ (x : Desk). x.ahead) here) ∙ e) i;
      }) in
      record {
        desks = f.desks;
        all = all_by q outbox.packets (follow q login r.0 t).outbox.packets node (follow q login r.0 t).node (follow_logins q login r.0 t ∙ logins)
            (λ p n. f.others p n ∙ desk_other q p node later d b g.mid.size n desks)
            (follow_keeps q login r.0 t)
            (λ other e. subst (λ (x : Login). AsksReally (follow q login r.0 t).outbox.packets x.fifo (desk_at (follow q login r.0 t).node q)) (same_login login other (sym there ∙ e)) f.asks)
            a;
      }

  -- a step of the read ahead
  ahead_all : (login : Login) (r : AgentStep × Machine) (later : NodeState) → Over m r → IsStill m r.1 → later.desks ≡ slice_set node.desks q (record (taken Ahead Here) { agent = r.1 }) → later.logins ≡ node.logins → Fine (follow q login r.0 (scene later outbox))
  ahead_all login r later over still desks logins =
      let d : Desk = record (taken Ahead Here) { agent = r.1 } in
      subst Fine (sym (quiet_follow q login r.0 (scene later outbox) over.silent)) (record {
        desks = ap (λ ds. length ds) desks ∙ length-set node.desks q d ∙ g.mid.size;
        all = all_by q outbox.packets outbox.packets node later logins (λ p n. desk_other q p node later d b g.mid.size n desks) (λ sent body h. h)
            (λ other e.
            subst (λ (x : Desk). AsksReally outbox.packets other.fifo x) (sym (desk_set q node later d b g.mid.size desks)) (record {
              main = λ sent f p. left_as outbox.packets sent (main_body other.fifo m) (main_body other.fifo r.1) (sym (still_body other.fifo m r.1 still)) ((a.all q other b e).main sent f (ap is_sent (sym still.phase) ∙ p));
              ahead = λ sent f p. absurd (none_sent sent f);
              sized = still_sized m r.1 still (a.all q other b e).sized;
            }))
            a;
      })

  -- ---- a reply
  module _ (layer : Layer Purpose) (told : Option Told) (answer : Answer) (disks : List Disk) where
    abbrev Over_layer : NodeState
    Over_layer = record node { layer = layer }

    abbrev Next : Login → Which → AgentStep × Stage
    Next login which = replied told q login.unit which answer (stage Over_layer disks)

    abbrev Loaded : Login → Stage → Bool
    Loaded login st = came (disk_at disks login.unit) (disk_at st.disks login.unit)

    main_replies : (login : Login) → login_at node q ≡ Some login → Fine (scene_of (advance told q login Main answer (whole (scene Over_layer outbox) disks)))
    unfolding advance replied follow_all
    main_replies login there =
        let plain = plain_in node.units disks login.unit in
        let r = reply_step m q plain told Main answer in
        let st = (Next login Main).1 in
        let x = Loaded login st in
        let later = changed_by x login.unit q st.node in
        announces_by x login.unit q (follow q login r.0 (scene later outbox))
        (main_all login r later there (main_replied m q plain told answer fits.agent) (under_law.replies m q plain told answer (bare_of m fits.agent))
        (changed_desks x login.unit q st.node) (changed_logins x login.unit q st.node))

    ahead_replies : (login : Login) → is_ahead m.ahead ≡ true → Fine (scene_of (advance told q login Ahead answer (whole (scene Over_layer outbox) disks)))
    unfolding advance replied follow_all
    ahead_replies login k =
        let plain = plain_in node.units disks login.unit in
        let r = reply_step m q plain told Ahead answer in
        let st = (Next login Ahead).1 in
        let x = Loaded login st in
        let later = changed_by x login.unit q st.node in
        announces_by x login.unit q (follow q login r.0 (scene later outbox))
        (ahead_all login r later (ahead_replied m q plain told answer k fits.agent) (under_law.ahead_replies m q plain told answer)
        (changed_desks x login.unit q st.node) (changed_logins x login.unit q st.node))

    same_fine : Fine (scene Over_layer outbox)
    same_fine = record { desks = g.mid.size; all = record { all = λ p login l e. a.all p login l e } }

    reply_by : (there : Option Login) (which : Option Which) → ((login : Login) → there ≡ Some login → login_at node q ≡ Some login) → (which ≡ Some Ahead → is_ahead m.ahead ≡ true) → Fine (scene_of (replied_by told q answer there which (whole (scene Over_layer outbox) disks)))
    reply_by None which h i = same_fine
    reply_by (Some login) None h i = same_fine
    reply_by (Some login) (Some Main) h i = main_replies login (h login refl)
    reply_by (Some login) (Some Ahead) h i = ahead_replies login (i refl)

    pub replies : (peer : ℕ) (label : LabelParts) → Fine (scene_of (replied_to told q peer label answer (whole (scene Over_layer outbox) disks)))
    unfolding replied_to
    replies peer label =
        reply_by (served_login Over_layer q) (which_in Here peer label) (λ login e. served_is (length node.units) (login_at node q) login e)
        (ahead_of (is_that Here.main peer label) (is_sent m.phase) (is_that Here.ahead peer label) (is_ahead m.ahead))

pub replies_law : RepliesLaw
replies_law units ready calls has =
    let node = after units ready calls in
    let g = all_good units ready calls has in
    record { replies = λ layer outbox told answer disks place peer label b a. (replies node g outbox place b a layer told answer disks peer label).all }
