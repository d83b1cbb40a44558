-- A disc that came: each unsolicited status that leaves goes to a node to which none was under way, and from then on one is; and there is one new one at most for each node.
use Rattle.std.proofs.Common.{◌≡◌, ◌∙◌, refl, sym, ap, subst, inl, inr, ◌⊎◌, ℕ, zero, suc, ◌+◌, Bool, true, false, cond, List, [], ◌∷◌, ◌++◌, Option, Some, None}
use Rattle.async_packet.specs.Labels.{LabelParts}
use Rattle.command_agent.specs.Machine.{Machine}
use Rattle.command_agent.specs.Steps.{reply_step}
use Rattle.command_agent.specs.declared.step.AgentStep.{AgentStep}
use Rattle.command_agent.specs.declared.step.Which.{Which}
use Rattle.command_agent.specs.declared.step.Which.TheVariants.{Ahead, Main}
use Rattle.label_table.specs.Bodies.{Body, block_write}
use Rattle.label_table.specs.History as wire
use Rattle.label_table.specs.History.{is_same, not_begun}
use Rattle.label_table.specs.Layer.{Layer, asking_step}
use Rattle.label_table.specs.declared.judgement.Asked.{Asked}
use Rattle.label_table.specs.declared.place.LabelState.TheVariants as states
use Rattle.label_table.specs.declared.reply.ReplyKind.{ReplyKind}
use Rattle.label_table.specs.declared.reply.ReplyKind.TheVariants as kinds
use Rattle.login_table.specs.declared.login.Login.{Login}
use Rattle.media_bay.specs.Unsolicited.{block}
use Rattle.orb_layout.specs.Replies.{Answer}
use Rattle.rbc_disk.specs.Disk.{disk_at}
use Rattle.rbc_disk.specs.Runs.{Told}
use Rattle.sbp_journal.specs.declared.side.Side.TheVariants as sides
use Rattle.sbp_target.specs.Agents.{follow}
use Rattle.sbp_target.specs.Desks.{taken, which_in}
use Rattle.sbp_target.specs.Nodes.{NodeState, Scene, desk_at, login_at, scene}
use Rattle.sbp_target.specs.Replies.{Stage, Whole, advance, advanced_with, announced_by, came, changed_by, follow_all, plain_at, replied, replied_by, replied_to, replied_with, served_login, stage}
use Rattle.sbp_target.specs.Sending.{request_step, sent_by, with_side}
use Rattle.sbp_target.specs.Units.{announce_at, announce_from, announce_in, announce_to, hears, is_pending, unsolicited_by}
use Rattle.sbp_target.specs.declared.desk.Desk.{Desk}
use Rattle.sbp_target.specs.declared.purpose.Purpose.{Purpose}
use Rattle.sbp_target.specs.declared.purpose.Purpose.TheVariants as purposes
use Rattle.sbp_target.proofs.Histories.Primitives.{Known, asks_known, began_at, began_off, live_on, none_known}
use Rattle.sbp_target.proofs.Histories.Seats.{Lives, OffOne, same_is, split}
use Rattle.sbp_world.proofs.Agents.CrewSeats.{state_of}
use Rattle.turn_laws.proofs.StatusKinds.{WaitsToWrite, write_waits}
use Rattle.turn_laws.proofs.StatusOnce.{Distinct, distinct_more, keeps_pending, more_pending, self_pending}
use Rattle.turn_laws.proofs.StatusStays.{IsLive, IsStatus, Seated, Still, desk_set, follows, life_stays, live_began, none_some, not_under, same_life}
use Rattle.sbp_world.proofs.Common.{untrue}

module _ (old : Lives) (first : List ℕ) where
  -- a node has one under way that it did not have before
  pub record HasNew (lives : Lives) (peer : ℕ) : Type 0 where
    pub label : LabelParts
    pub kind : ReplyKind
    pub is : IsStatus lives peer label kind
    pub fresh : (before : ReplyKind) → IsStatus old peer label before → ⊥

  abbrev pub Joined : List ℕ → ℕ → Type 0
  Joined pending peer = (is_pending peer first ≡ false) × (is_pending peer pending ≡ true)

  pub record Announced (node : NodeState) : Type 0 where
    pub lives : Lives
    pub known : Known node.layer lives
    pub stays : (peer : ℕ) (label : LabelParts) (kind : ReplyKind) → IsStatus old peer label kind → IsStatus lives peer label kind
    pub new : (peer : ℕ) (label : LabelParts) (kind : ReplyKind) → IsStatus lives peer label kind → IsStatus old peer label kind ⊎ Joined node.pending peer
    pub one : (peer : ℕ) (label other : LabelParts) (kind that : ReplyKind) → IsStatus lives peer label kind → IsStatus lives peer other that → IsStatus old peer label kind ⊎ (IsStatus old peer other that ⊎ (label ≡ other))
    pub grows : (peer : ℕ) → is_pending peer first ≡ true → is_pending peer node.pending ≡ true
    pub sent : (peer : ℕ) → is_pending peer node.pending ≡ true → (is_pending peer first ≡ true) ⊎ HasNew lives peer
    pub once : Distinct first → Distinct node.pending
    pub goes : (peer : ℕ) (label : LabelParts) → IsLive (old peer label) → IsLive (lives peer label)
    pub apart : (peer : ℕ) (label : LabelParts) (kind : ReplyKind) → IsStatus lives peer label kind → IsStatus old peer label kind ⊎ ((IsLive (old peer label) → ⊥) × (kind ≡ kinds.Write))

  pub still_announced : (node : NodeState) → Still old first node → Announced node
  still_announced node h = record {
    lives = h.lines.lives;
    known = h.lines.known;
    stays = h.lines.stays;
    new = λ p l kind s. inl (h.lines.before p l kind s);
    one = λ p l m kind that s t. inl (h.lines.before p l kind s);
    grows = λ p e. ap (is_pending p) h.pending ∙ e;
    sent = λ p e. inl (sym (ap (is_pending p) h.pending) ∙ e);
    once = λ d. subst Distinct (sym h.pending) d;
    goes = h.lines.goes;
    apart = λ p l kind s. inl (h.lines.before p l kind s);
  }

  -- ---- one is sent to a node
  module _ (place peer : ℕ) (s : Scene) (fifo : ℕ) (payload : List ℕ) (idle : is_pending peer s.node.pending ≡ false) (a : Announced s.node) where
    abbrev body : Body
    body = block_write fifo payload

    idle_first : is_pending peer first ≡ false
    idle_first = by (is_pending peer first) refl
      where
        by : (b : Bool) → is_pending peer first ≡ b → b ≡ false
        by true e = untrue (sym idle ∙ a.grows peer e)
        by false e = refl

    not_joined : {A : Type 0} (p : ℕ) → peer ≡ p → Joined s.node.pending p → A
    not_joined p e j = untrue (sym idle ∙ (ap (λ n. is_pending n s.node.pending) e ∙ j.1))

    more_joined : (A : Type 0) (p : ℕ) → A ⊎ Joined s.node.pending p → A ⊎ Joined (s.node.pending ++ peer ∷ []) p
    more_joined A p (inl x) = inl x
    more_joined A p (inr j) = inr (j.0, keeps_pending p peer s.node.pending j.1)

    old_only : {A : Type 0} (p : ℕ) → peer ≡ p → A ⊎ Joined s.node.pending p → A
    old_only p e (inl x) = x
    old_only p e (inr j) = not_joined p e j

    -- the transactions go on, but for the new one
    module _ (now : Lives) (label : LabelParts) (off : OffOne peer label a.lives now) (fresh : a.lives peer label ≡ not_begun) where
      lasts : (p : ℕ) (l : LabelParts) (kind : ReplyKind) → IsStatus a.lives p l kind → IsStatus now p l kind
      lasts p l kind s = life_stays a.lives now peer label off fresh p l kind s

      earlier : (p : ℕ) (l : LabelParts) (kind : ReplyKind) → is_same peer label p l ≡ false → IsStatus now p l kind → IsStatus a.lives p l kind
      earlier p l kind other h = sym (off.off p l other) ∙ h

      new_then : (p : ℕ) (l : LabelParts) (kind : ReplyKind) → IsStatus now p l kind → IsStatus old p l kind ⊎ Joined (s.node.pending ++ peer ∷ []) p
      new_then p l kind h =
          split (is_same peer label p l) (IsStatus old p l kind ⊎ Joined (s.node.pending ++ peer ∷ []) p)
          (λ same. inr (subst (Joined (s.node.pending ++ peer ∷ [])) (same_is peer label p l same).peer (idle_first, self_pending peer s.node.pending)))
          (λ other. more_joined (IsStatus old p l kind) p (a.new p l kind (earlier p l kind other h)))

      one_then : (p : ℕ) (l m : LabelParts) (kind that : ReplyKind) → IsStatus now p l kind → IsStatus now p m that → IsStatus old p l kind ⊎ (IsStatus old p m that ⊎ (l ≡ m))
      one_then p l m kind that h i =
          split (is_same peer label p l) (IsStatus old p l kind ⊎ (IsStatus old p m that ⊎ (l ≡ m)))
          (λ same. let x = same_is peer label p l same in
          split (is_same peer label p m) (IsStatus old p l kind ⊎ (IsStatus old p m that ⊎ (l ≡ m)))
          (λ both. inr (inr (sym x.label ∙ (same_is peer label p m both).label)))
          (λ other. inr (inl (old_only p x.peer (a.new p m that (earlier p m that other i))))))
          (λ other.
          split (is_same peer label p m) (IsStatus old p l kind ⊎ (IsStatus old p m that ⊎ (l ≡ m)))
          (λ same. inl (old_only p (same_is peer label p m same).peer (a.new p l kind (earlier p l kind other h))))
          (λ neither. a.one p l m kind that (earlier p l kind other h) (earlier p m that neither i)))

      apart_then : ((kind : ReplyKind) → IsStatus now peer label kind → kind ≡ kinds.Write) → (p : ℕ) (l : LabelParts) (kind : ReplyKind) → IsStatus now p l kind → IsStatus old p l kind ⊎ ((IsLive (old p l) → ⊥) × (kind ≡ kinds.Write))
      apart_then writes p l kind h =
          split (is_same peer label p l) (IsStatus old p l kind ⊎ ((IsLive (old p l) → ⊥) × (kind ≡ kinds.Write)))
          (λ same. inr ((λ live. let x = a.goes p l live in not_under (sym fresh ∙ (same_life a.lives peer label p l same ∙ x.is))), writes kind (same_life now peer label p l same ∙ h)))
          (λ other. a.apart p l kind (earlier p l kind other h))

      has_later : (p : ℕ) → (is_pending p first ≡ true) ⊎ HasNew a.lives p → (is_pending p first ≡ true) ⊎ HasNew now p
      has_later p (inl e) = inl e
      has_later p (inr n) = inr (record { label = n.label; kind = n.kind; is = lasts p n.label n.kind n.is; fresh = n.fresh })

      module _ (kind : ReplyKind) (is : IsStatus now peer label kind) where
        sent_then : (p : ℕ) → is_pending p (s.node.pending ++ peer ∷ []) ≡ true → (is_pending p first ≡ true) ⊎ HasNew now p
        sent_then p e = by (more_pending p peer s.node.pending e)
          where
            by : (is_pending p s.node.pending ≡ true) ⊎ (p ≡ peer) → (is_pending p first ≡ true) ⊎ HasNew now p
            by (inl f) = has_later p (a.sent p f)
            by (inr f) = inr (subst (HasNew now) (sym f) (record { label = label; kind = kind; is = is; fresh = λ k h. not_under (sym fresh ∙ a.stays peer label k h) }))

    -- the new one is a write
    same_kinds : (kind other : ReplyKind) (call one : ℕ) → states.UnderWay kind call ≡ states.UnderWay other one → kind ≡ other
    same_kinds kind other call one e = cc

    writes : (now : Lives) (asked : Asked) (layer : Layer Purpose) → Known layer now → WaitsToWrite layer peer asked.label.number → (kind : ReplyKind) → IsStatus now peer asked.label kind → kind ≡ kinds.Write
    writes now asked layer known w kind h = same_kinds kind kinds.Write asked.label.serial w.call (sym (state_of layer now peer asked.label kind (Some purposes.Unsolicited) known h) ∙ w.state)

    told_out : (r : Option Asked × Layer Purpose) → asking_step s.node.layer peer body purposes.Unsolicited ≡ r → Announced (unsolicited_by place peer s.node (sent_by r s.outbox peer)).node
    told_out (None, layer) e = record {
      lives = a.lives;
      known = none_known s.node.layer layer a.lives peer body purposes.Unsolicited a.known e;
      stays = a.stays;
      new = a.new;
      one = a.one;
      grows = a.grows;
      sent = a.sent;
      once = a.once;
      goes = a.goes;
      apart = a.apart;
    }
    told_out (Some asked, layer) e =
        let b = asks_known s.node.layer layer a.lives peer body purposes.Unsolicited asked a.known e in
        let now = live_on (wire.began peer asked.label b.kind purposes.Unsolicited) a.lives in
        let off = began_off peer asked.label b.kind purposes.Unsolicited a.lives in
        record {
          lives = now;
          known = b.known;
          stays = λ p l kind h. lasts now asked.label off b.fresh p l kind (a.stays p l kind h);
          new = new_then now asked.label off b.fresh;
          one = one_then now asked.label off b.fresh;
          grows = λ p h. keeps_pending p peer s.node.pending (a.grows p h);
          sent = sent_then now asked.label off b.fresh b.kind (began_at peer asked.label b.kind purposes.Unsolicited a.lives);
          once = λ d. distinct_more s.node.pending peer idle (a.once d);
          goes = λ p l h. live_began (is_same peer asked.label p l) b.kind purposes.Unsolicited (a.lives p l) (a.goes p l h);
          apart = apart_then now asked.label off b.fresh (writes now asked layer b.known (write_waits s.node.layer layer peer fifo payload purposes.Unsolicited asked e));
        }

  announces_to : (place : ℕ) (login : Login) (s : Scene) → Announced s.node → Announced (announce_to place login s).node
  unfolding announce_to request_step
  announces_to place login s a = by (is_pending login.node s.node.pending) refl
    where
      by : (b : Bool) → is_pending login.node s.node.pending ≡ b → Announced (cond b (scene s.node (with_side s.outbox (sides.Unsent place))) (unsolicited_by place login.node s.node (request_step s.node.layer s.outbox login.node (block_write login.fifo block) purposes.Unsolicited))).node
      by true e = a
      by false e = told_out place login.node s login.fifo block e a (asking_step s.node.layer login.node (block_write login.fifo block) purposes.Unsolicited) refl

  choose : (b : Bool) (x y : Scene) → Announced x.node → Announced y.node → Announced (cond b x y).node
  choose true x y h k = h
  choose false x y h k = k

  announces_in : (unit from place : ℕ) (login : Option Login) (s : Scene) → Announced s.node → Announced (announce_in unit from place login s).node
  announces_in unit from place None s a = a
  announces_in unit from place (Some login) s a = choose (hears unit from place (desk_at s.node place) login) (announce_to place login s) s (announces_to place login s a) a

  announces_at : (unit from place : ℕ) (s : Scene) → Announced s.node → Announced (announce_at unit from place s).node
  unfolding announce_at
  announces_at unit from place s a = announces_in unit from place (login_at s.node place) s a

  announces_from : (left place unit from : ℕ) (s : Scene) → Announced s.node → Announced (announce_from left place unit from s).node
  unfolding announce_from
  announces_from zero place unit from s a = a
  announces_from (suc left) place unit from s a = announces_from left (place + 1) unit from (announce_at unit from place s) (announces_at unit from place s a)

  announces_by : (b : Bool) (unit place : ℕ) (s : Scene) → Still old first s.node → Announced (announced_by b unit place s).node
  announces_by false unit place s h = still_announced s.node h
  announces_by true unit place s h = announces_from 8 0 unit place s (still_announced s.node h)

  -- ---- a reply to an agent
  pub changed_still : (b : Bool) (unit place : ℕ) (node : NodeState) → Still old first node → Still old first (changed_by b unit place node)
  changed_still false unit place node h = h
  changed_still true unit place node h = record { lines = h.lines; seated = h.seated; pending = h.pending }

  follows_all : (b : Bool) (place : ℕ) (login : Login) (step : AgentStep) (s : Scene) → Still old first s.node → Announced (follow_all b place login step s).node
  unfolding follow_all
  follows_all b place login step s h =
      let t = scene (changed_by b login.unit place s.node) s.outbox in
      announces_by b login.unit place (follow place login step t) (follows old first place login step t (changed_still b login.unit place s.node h))

  pub taken_seated : (which : Which) (d : Desk) → Seated old d → Seated old (taken which d)
  taken_seated Main d s = (λ x e. none_some x e, s.1)
  taken_seated Ahead d s = (s.0, λ x e. none_some x e)

  pub replied_still : (place unit : ℕ) (which : Which) (r : AgentStep × Machine) (s : Stage) → Still old first s.node → Still old first (replied_with place unit which r s).1.node
  replied_still place unit which (step, m) s h =
      let d = taken which (desk_at s.node place) in
      let k = desk_set old first s.node place (record d { agent = m }) (taken_seated which (desk_at s.node place) (h.seated place)) h in
      record { lines = k.lines; seated = k.seated; pending = k.pending }

  advances_with : (place : ℕ) (login : Login) (r : AgentStep × Stage) (w : Whole) → Still old first r.1.node → Announced (advanced_with place login r w).node
  advances_with place login (step, st) w h = follows_all (came (disk_at w.disks login.unit) (disk_at st.disks login.unit)) place login step (scene st.node w.outbox) h

  advances : (told : Option Told) (place : ℕ) (login : Login) (which : Which) (answer : Answer) (w : Whole) → Still old first w.node → Announced (advance told place login which answer w).node
  unfolding advance replied
  advances told place login which answer w h =
      let s = stage w.node w.disks in
      let r = reply_step (desk_at w.node place).agent place (plain_at s login.unit) told which answer in
      advances_with place login (replied_with place login.unit which r s) w (replied_still place login.unit which r s h)

  replies_by : (told : Option Told) (place : ℕ) (answer : Answer) (login : Option Login) (which : Option Which) (w : Whole) → Still old first w.node → Announced (replied_by told place answer login which w).node
  replies_by told place answer (Some login) (Some which) w h = advances told place login which answer w h
  replies_by told place answer None which w h = still_announced w.node h
  replies_by told place answer (Some login) None w h = still_announced w.node h

  pub replies : (told : Option Told) (place peer : ℕ) (label : LabelParts) (answer : Answer) (w : Whole) → Still old first w.node → Announced (replied_to told place peer label answer w).node
  unfolding replied_to
  replies told place peer label answer w h = replies_by told place answer (served_login w.node place) (which_in (desk_at w.node place) peer label) w h
