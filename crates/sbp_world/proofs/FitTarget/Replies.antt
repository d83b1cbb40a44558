-- What is kept by telling, giving up and asking is kept by all that a target does behind a response, a time-out, and the start of an operation.
use Rattle.sbp_world.proofs.Words.Std.{◌≡◌, refl, sym, ◌∙◌, subst, ℕ, zero, suc, ◌+◌, ◌&&◌, nat_lt, is_some, Bool, true, false, cond, length, Option, Some, None}
use Rattle.sbp_world.proofs.Words.Wire.{LabelParts, Body, Layer, CutCause, OutboxState}
use Rattle.sbp_world.proofs.Words.Target.{Login, Table, disk_at, Told, AgentStep, Which, Main, Ahead, Machine, is_under_way, abort_step, lost_step, reply_step, Decision, Effect, ManagerStep, Operation, Desk, Purpose, Sent, is_that, taken, which_in, request_step, Scene, scene, desk_at, login_at, with_desk, follow, clear_from, clear_unit, cut_all, stage, Whole, scene_of, came, changed_by, announced_by, follow_all, advanced_with, advance, plain_at, replied, replied_with, served_login, replied_by, replied_to, manager_body, place_in, cut_placed, tell_left, tell_failed, effect_by, decided_by, with_manager, manager_lost, lost_in, lose_operation, manager_sent, manager_asked, ask_manager, managed_with, managed_in, manage, concluded, expired_with, expired_by, expire_agent, timed_out}
use Rattle.sbp_world.proofs.Words.Initiator.{Ask, FailCause, Answer, NoLabel, Expired}
use Rattle.sbp_world.proofs.Words.World.{BytesTold, FitsAgent, FitsLogin, FitsOperation, FitsSeat, IsOfKnown}
use Rattle.orb_layout.specs.declared.ask.FailCause.TheVariants as causes
use Rattle.mgmt_agent.specs.declared.decision.Effect.TheVariants as effects
use Rattle.mgmt_agent.specs.Machine as management
use Rattle.sbp_journal.specs.declared.cause.CutCause.TheVariants as cuts
use Rattle.sbp_target.specs.declared.purpose.Purpose.TheVariants as purposes
use Rattle.sbp_world.proofs.FitTarget.Agents.{BytesIn, FitsAsk, FitsStep, abort_fits, lost_fits, reply_fits}
use Rattle.sbp_world.proofs.FitTarget.Manager.{FitsReply, managed_fits}
use Rattle.sbp_world.proofs.FitTarget.Nodes.{IfBody, fits_desk, fits_layer, fits_manager, manager_body_fits, none_main}
use Rattle.sbp_world.proofs.FitTarget.Pass.{At, In, IsServed, Keeps, Said, announces_all, anywhere, cuts_all, cuts_at, follows, pick, requests}
use Rattle.sbp_world.proofs.Agents.AskedReplies.{served_is}

module _ (known : ℕ → Type 0) (P : Said) where
  abbrev Of : Layer Purpose → OutboxState → Type 0
  Of l o = P l o.packets o.sides

  -- a transaction that is an agent's is with a node that is known, and so is that of its login
  that_some : (sent : Option Sent) (peer : ℕ) (label : LabelParts) → is_that sent peer label ≡ true → is_some sent ≡ true
  that_some None peer label e = cc
  that_some (Some sent) peer label e = refl

  some_known : (sent : Option Sent) (login : Login) → ((x : Sent) → sent ≡ Some x → known x.peer × IsOfKnown known (Some login)) → is_some sent ≡ true → known login.node
  some_known None login h e = absurd (off e)
    where
      off : false ≡ true → ⊥
      off x = cc
  some_known (Some x) login h e = (h x refl).1

  which_known : (d : Desk) (login : Login) (peer : ℕ) (label : LabelParts) (which : Which) → FitsSeat known d.main d.ahead (Some login) → which_in d peer label ≡ Some which → known login.node
  which_known d login peer label which s e = by (is_that d.main peer label) (is_that d.ahead peer label) (is_under_way Main d.agent) (is_under_way Ahead d.agent) refl refl e
    where
      by : (a b c f : Bool) → is_that d.main peer label ≡ a → is_that d.ahead peer label ≡ b → cond (a && c) (Some Main) (cond (b && f) (Some Ahead) None) ≡ Some which → known login.node
      by true b c f x y g = some_known d.main login s.main (that_some d.main peer label x)
      by false true c f x y g = some_known d.ahead login s.ahead (that_some d.ahead peer label y)
      by false false c f x y g = absurd (off g)
        where
          off : None ≡ Some which → ⊥
          off z = cc

  module _ (k : Keeps known P) where
    changes : (b : Bool) (unit q : ℕ) (s : Scene) → At known P q s → At known P q (scene (changed_by b unit q s.node) s.outbox)
    changes false unit q s h = record { made = h.made; fits = h.fits; here = h.here }
    changes true unit q s h =
        let f = h.fits in
        record { made = h.made; fits = record { manager = f.manager; logins = f.logins; size = f.size; agents = f.agents; seats = f.seats; rom = f.rom }; here = h.here }

    announces_by : (b : Bool) (unit q : ℕ) (s : Scene) → In known P s → In known P (announced_by b unit q s)
    announces_by false unit q s h = h
    announces_by true unit q s h = announces_all known P k unit q s h

    follows_all : (b : Bool) (q : ℕ) (login : Login) (step : AgentStep) (s : Scene) → FitsAsk step.ask → FitsAsk step.ahead → IsServed known login → At known P q s → In known P (follow_all b q login step s)
    unfolding follow_all
    follows_all b q login step s f g v h =
        let t = scene (changed_by b login.unit q s.node) s.outbox in
        announces_by b login.unit q (follow q login step t) (anywhere known P q (follow q login step t) (follows known P k q login step t f g v (changes b login.unit q s h)))

    -- ---- a reply to an agent
    taken_seat : (which : Which) (d : Desk) (m : Machine) (login : Option Login) → FitsSeat known d.main d.ahead login → (let t = record (taken which d) { agent = m } in FitsSeat known t.main t.ahead login)
    taken_seat Main d m login s = record { main = none_main known login; ahead = s.ahead }
    taken_seat Ahead d m login s = record { main = s.main; ahead = none_main known login }

    advances_by : (told : Option Told) (q : ℕ) (login : Login) (which : Which) (answer : Answer) (w : Whole) (r : AgentStep × Machine) → FitsStep r → IsServed known login → At known P q (scene_of w) → In known P (scene_of (advanced_with q login (replied_with q login.unit which r (stage w.node w.disks)) w))
    advances_by told q login which answer w (step, m) f v h =
        let st = (replied_with q login.unit which (step, m) (stage w.node w.disks)).1 in
        let d = record (taken which (desk_at w.node q)) { agent = m } in
        let g = fits_desk known q w.node d f.agent (taken_seat which (desk_at w.node q) m (login_at w.node q) (h.fits.seats q)) h.fits in
        follows_all (came (disk_at w.disks login.unit) (disk_at st.disks login.unit)) q login step (scene st.node w.outbox) f.ask f.ahead v
        (record { made = h.made; fits = record { manager = g.manager; logins = g.logins; size = g.size; agents = g.agents; seats = g.seats; rom = g.rom }; here = h.here })

    advances : (told : Option Told) (q : ℕ) (login : Login) (which : Which) (answer : Answer) (w : Whole) → BytesTold told → BytesIn answer → IsServed known login → At known P q (scene_of w) → In known P (scene_of (advance told q login which answer w))
    unfolding advance replied
    advances told q login which answer w t b v h =
        let s = stage w.node w.disks in
        advances_by told q login which answer w (reply_step (desk_at w.node q).agent q (plain_at s login.unit) told which answer)
        (reply_fits (desk_at w.node q).agent q (plain_at s login.unit) told which answer t b (h.fits.agents q)) v h

    replies_by : (told : Option Told) (q peer : ℕ) (label : LabelParts) (answer : Answer) (login : Option Login) (which : Option Which) (w : Whole) → served_login w.node q ≡ login → which_in (desk_at w.node q) peer label ≡ which → BytesTold told → BytesIn answer → In known P (scene_of w) → In known P (scene_of (replied_by told q answer login which w))
    replies_by told q peer label answer (Some login) (Some which) w e f t b h =
        let is : login_at w.node q ≡ Some login = served_is (length w.node.units) (login_at w.node q) login e in
        let n = which_known (desk_at w.node q) login peer label which (subst (λ (x : Option Login). FitsSeat known (desk_at w.node q).main (desk_at w.node q).ahead x) is (h.fits.seats q)) f in
        advances told q login which answer w t b
        (record { there = n; fifo = (subst (λ (x : Option Login). FitsLogin known x) is (h.fits.logins q)).0 })
        (record { made = h.made; fits = h.fits; here = subst (λ (x : Option Login). IsOfKnown known x) (sym is) n })
    replies_by told q peer label answer None which w e f t b h = h
    replies_by told q peer label answer (Some login) None w e f t b h = h

    replies : (told : Option Told) (q peer : ℕ) (label : LabelParts) (answer : Answer) (w : Whole) → BytesTold told → BytesIn answer → In known P (scene_of w) → In known P (scene_of (replied_to told q peer label answer w))
    unfolding replied_to
    replies told q peer label answer w t b h =
        replies_by told q peer label answer (served_login w.node q) (which_in (desk_at w.node q) peer label) w refl refl t b h

    -- ---- the effects of a decision
    refreshes : (q : ℕ) (d : Desk) (s : Scene) → d.agent ≡ (desk_at s.node q).agent → d.main ≡ (desk_at s.node q).main → d.ahead ≡ (desk_at s.node q).ahead → In known P s → In known P (scene (with_desk s.node q d) s.outbox)
    refreshes q d s ea em eh h = record {
      made = h.made;
      fits = fits_desk known q s.node d (subst (λ (m : Machine). FitsAgent m) (sym ea) (h.fits.agents q))
          (let t = h.fits.seats q in record { main = λ x e. t.main x (sym em ∙ e); ahead = λ x e. t.ahead x (sym eh ∙ e) }) h.fits;
    }

    tells : (s : Scene) (o : OutboxState) → Of s.node.layer o → In known P s → In known P (scene s.node o)
    tells s o m h = record { made = m; fits = h.fits }

    left_told : (l : Layer Purpose) (x : Option ℕ) (o : OutboxState) → Of l o → Of l (tell_left x o)
    left_told l None o h = h
    left_told l (Some login) o h = k.leaves.tells l o.packets o.sides _ tt h

    failed_told : (l : Layer Purpose) (source : ℕ) (x : Option FailCause) (o : OutboxState) → Of l o → Of l (tell_failed source x o)
    failed_told l source None o h = h
    failed_told l source (Some cause) o h = k.leaves.tells l o.packets o.sides _ tt h

    cuts_placed : (place : Option ℕ) (cause : CutCause) (s : Scene) → In known P s → In known P (cut_placed place cause s)
    cuts_placed None cause s h = h
    cuts_placed (Some place) cause s h = cuts_at known P k.leaves cause place s h

    clears : (unit : ℕ) (s : Scene) → In known P s → In known P (clear_unit unit s)
    unfolding clear_unit
    clears unit s h =
        let f = h.fits in
        record {
          made = k.leaves.tells s.node.layer s.outbox.packets s.outbox.sides _ tt h.made;
          fits = record { manager = f.manager; logins = f.logins; size = f.size; agents = f.agents; seats = f.seats; rom = f.rom };
        }

    clears_from : (left unit : ℕ) (s : Scene) → In known P s → In known P (clear_from left unit s)
    unfolding clear_from
    clears_from zero unit s h = h
    clears_from (suc left) unit s h = clears_from left (unit + 1) (clear_unit unit s) (clears unit s h)

    affects : (effect : Effect) (login : ℕ) (s : Scene) → In known P s → In known P (effect_by effect login s)
    affects effects.Nothing login s h = h
    affects (effects.Entered place replaced) login s h =
        let t = refreshes place (record (desk_at s.node place) { pointer = None; is_enabled = false }) s refl refl refl h in
        record { made = left_told s.node.layer replaced s.outbox h.made; fits = t.fits }
    affects (effects.Back place) login s h = tells s _ (k.leaves.tells s.node.layer s.outbox.packets s.outbox.sides _ tt h.made) h
    affects (effects.Left place) login s h =
        let u = cut_placed (place_in place) cuts.Logout s in
        let g = cuts_placed (place_in place) cuts.Logout s h in
        let t = refreshes place (record (desk_at u.node place) { is_enabled = false }) u refl refl refl g in
        record { made = k.leaves.tells u.node.layer u.outbox.packets u.outbox.sides _ tt g.made; fits = t.fits }
    affects (effects.Abort place orb) login s h =
        let t = h.fits.seats place in
        record {
          made = h.made;
          fits = fits_desk known place s.node (record (desk_at s.node place) { agent = abort_step (desk_at s.node place).agent orb }) (abort_fits (desk_at s.node place).agent orb (h.fits.agents place))
              (record { main = t.main; ahead = t.ahead }) h.fits;
        }
    affects (effects.AbortSet place) login s h = cuts_placed (place_in place) cuts.AbortSet s h
    affects (effects.UnitReset unit) login s h =
        let t = cut_all cuts.UnitReset (Some unit) s in
        let g = cuts_all known P k.leaves cuts.UnitReset (Some unit) s h in
        pick known P (nat_lt unit (length t.node.units)) (clear_unit unit t) t (clears unit t g) g
    affects effects.TargetReset login s h =
        let t = cut_all cuts.TargetReset None s in clears_from (length t.node.units) 0 t (cuts_all known P k.leaves cuts.TargetReset None s h)

    decides : (d : Option Decision) (effect : Effect) (source : ℕ) (s : Scene) → In known P s → In known P (decided_by d effect source s)
    unfolding decided_by
    decides None effect source s h = h
    decides (Some d) effect source s h =
        let t = effect_by effect d.subject s in
        let g = affects effect d.subject s h in
        tells t _ (k.leaves.tells t.node.layer t.outbox.packets t.outbox.sides _ tt g.made) g

    -- ---- the management agent
    manages_as : (s : Scene) (r : ManagerStep × (management.Machine × Table)) → FitsReply known s.node.logins r → In known P s → In known P (scene (with_manager s.node r.1) s.outbox)
    manages_as s (step, (manager, logins)) f h = record { made = h.made; fits = fits_manager known s.node manager logins f.manager f.turns h.fits }

    lost_with : (source : ℕ) (s : Scene) (r : ManagerStep × (management.Machine × Table)) → FitsReply known s.node.logins r → In known P s → In known P (manager_lost source s r)
    lost_with source s (step, r) f h =
        let g = manages_as s (step, r) f h in
        record { made = failed_told s.node.layer source step.failed s.outbox h.made; fits = g.fits }

    loses_in : (source : Option ℕ) (s : Scene) → In known P s → In known P (lost_in source s)
    loses_in None s h = h
    loses_in (Some source) s h =
        lost_with source s (management.reply_step s.node.manager s.node.logins s.node.keys NoLabel)
        (managed_fits known s.node.manager s.node.logins s.node.keys NoLabel tt h.fits.manager) h

    loses_operation : (s : Scene) → In known P s → In known P (lose_operation s)
    unfolding lose_operation
    loses_operation s h = loses_in (management.source_in s.node.manager.operation) s h

    manager_leaves : (s : Scene) (r : Option LabelParts × (Layer Purpose × OutboxState)) → In known P s → Of r.1.0 r.1.1 → In known P (manager_sent s.node r)
    manager_leaves s (Some label, (layer, outbox)) h m = record { made = m; fits = fits_layer known s.node layer h.fits }
    manager_leaves s (None, (layer, outbox)) h m =
        loses_operation (scene (record s.node { layer = layer }) outbox) (record { made = m; fits = fits_layer known s.node layer h.fits })

    manager_asks : (body : Option Body) (source : ℕ) (s : Scene) → IfBody body → known source → In known P s → In known P (manager_asked body source s)
    manager_asks None source s b n h = h
    manager_asks (Some body) source s b n h =
        manager_leaves s (request_step s.node.layer s.outbox source body purposes.Management) h (requests known P k s.node.layer s.outbox source body purposes.Management n b h.made)

    pub asks_manager : (source : ℕ) (ask : Ask) (s : Scene) → FitsAsk ask → known source → In known P s → In known P (ask_manager source ask s)
    unfolding ask_manager
    asks_manager source ask s f n h =
        manager_asks (manager_body ask s.node.manager.outgoing) source s (manager_body_fits ask s.node.manager.outgoing f h.fits.manager.outgoing) n h

    manages_with : (source : ℕ) (s : Scene) (r : ManagerStep × (management.Machine × Table)) → FitsReply known s.node.logins r → known source → In known P s → In known P (managed_with source s r)
    manages_with source s (step, r) f n h =
        let u = scene (with_manager s.node r) s.outbox in
        let t = decided_by step.decided step.effect source u in
        let g = decides step.decided step.effect source u (manages_as s (step, r) f h) in
        asks_manager source step.ask (scene t.node (tell_failed source step.failed t.outbox)) f.ask n
        (tells t (tell_failed source step.failed t.outbox) (failed_told t.node.layer source step.failed t.outbox g.made) g)

    source_known : (operation : Option Operation) (source : ℕ) → management.source_in operation ≡ Some source → FitsOperation known operation → known source
    source_known None source e f = absurd (off e)
      where
        off : None ≡ Some source → ⊥
        off z = cc
    source_known (Some operation) source e f = subst (λ (n : ℕ). known n) (same e) f.0
      where
        same : Some operation.source ≡ Some source → operation.source ≡ source
        same z = cc

    manages_in : (source : Option ℕ) (answer : Answer) (s : Scene) → management.source_in s.node.manager.operation ≡ source → BytesIn answer → In known P s → In known P (managed_in source answer s)
    manages_in None answer s e b h = h
    manages_in (Some source) answer s e b h =
        manages_with source s (management.reply_step s.node.manager s.node.logins s.node.keys answer)
        (managed_fits known s.node.manager s.node.logins s.node.keys answer b h.fits.manager) (source_known s.node.manager.operation source e h.fits.manager.operation) h

    manages : (answer : Answer) (s : Scene) → BytesIn answer → In known P s → In known P (manage answer s)
    unfolding manage
    manages answer s b h = manages_in (management.source_in s.node.manager.operation) answer s refl b h

    -- ---- what came of a transaction
    pub concludes : (told : Option Told) (purpose : Option Purpose) (peer : ℕ) (label : LabelParts) (answer : Answer) (w : Whole) → BytesTold told → BytesIn answer → In known P (scene_of w) → In known P (scene_of (concluded told purpose peer label answer w))
    unfolding concluded
    concludes told None peer label answer w t b h = h
    concludes told (Some (purposes.Agent place)) peer label answer w t b h = replies told place peer label answer w t b h
    concludes told (Some purposes.Management) peer label answer w t b h = manages answer (scene_of w) b h
    concludes told (Some purposes.Unsolicited) peer label answer w t b h =
        let f = h.fits in
        record { made = h.made; fits = record { manager = f.manager; logins = f.logins; size = f.size; agents = f.agents; seats = f.seats; rom = f.rom } }

    -- ---- a time-out
    expires_with : (q : ℕ) (login : Login) (which : Which) (s : Scene) (r : AgentStep × Machine) → FitsStep r → IsServed known login → At known P q s → In known P (expired_with q login (let l = r in (l.0, record (taken which (desk_at s.node q)) { agent = l.1 })) s)
    expires_with q login which s (step, m) f v h =
        let d = record (taken which (desk_at s.node q)) { agent = m } in
        let t = scene (with_desk s.node q d) s.outbox in
        anywhere known P q (follow q login step t)
        (follows known P k q login step t f.ask f.ahead v
        (record { made = h.made; fits = fits_desk known q s.node d f.agent (taken_seat which (desk_at s.node q) m (login_at s.node q) (h.fits.seats q)) h.fits; here = h.here }))

    expires_by : (q peer : ℕ) (label : LabelParts) (login : Option Login) (which : Option Which) (s : Scene) → login_at s.node q ≡ login → which_in (desk_at s.node q) peer label ≡ which → In known P s → In known P (expired_by q login which s)
    expires_by q peer label (Some login) (Some which) s is f h =
        let n = which_known (desk_at s.node q) login peer label which (subst (λ (x : Option Login). FitsSeat known (desk_at s.node q).main (desk_at s.node q).ahead x) is (h.fits.seats q)) f in
        expires_with q login which s (lost_step (desk_at s.node q).agent which causes.Timeout) (lost_fits (desk_at s.node q).agent which causes.Timeout (h.fits.agents q))
        (record { there = n; fifo = (subst (λ (x : Option Login). FitsLogin known x) is (h.fits.logins q)).0 })
        (record { made = h.made; fits = h.fits; here = subst (λ (x : Option Login). IsOfKnown known x) (sym is) n })
    expires_by q peer label None which s is f h = h
    expires_by q peer label (Some login) None s is f h = h

    expires_agent : (q peer : ℕ) (label : LabelParts) (s : Scene) → In known P s → In known P (expire_agent q peer label s)
    unfolding expire_agent
    expires_agent q peer label s h = expires_by q peer label (login_at s.node q) (which_in (desk_at s.node q) peer label) s refl refl h

    pub times_out : (purpose : Option Purpose) (peer : ℕ) (label : LabelParts) (s : Scene) → In known P s → In known P (timed_out purpose peer label s)
    times_out None peer label s h = h
    times_out (Some (purposes.Agent place)) peer label s h = expires_agent place peer label s h
    times_out (Some purposes.Management) peer label s h = manages Expired s tt h
    times_out (Some purposes.Unsolicited) peer label s h = h
