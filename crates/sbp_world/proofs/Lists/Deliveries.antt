-- Each call of the target keeps what is known of its agents, and what it tells is in the order: a packet that it gets, and a time-out.
use Rattle.sbp_world.proofs.Words.Std.{◌≡◌, ◌∙◌, refl, sym, ap, subst, ◌<◌, ◌≤◌, ℕ, nat_lt, Bool, true, false, cond, List, [], ◌∷◌, length, Option, Some, None, Result, Ok, Err, arith, nat_tests}
use Rattle.sbp_world.proofs.Words.Wire.{LabelParts, Packet, header_in, Stale, Finding, Layer, judging_step, of_again, of_generation, of_grammar, of_label, of_request, of_response, Sent, judged_note, Judged, Note, empty_outbox, Moment, said}
use Rattle.sbp_world.proofs.Words.Target.{Login, Held, Told, Which, Main, Ahead, is_ahead, is_sent, address_error, complete, demand_of, Access, Demand, Desk, Purpose, cut, is_that, new_desk, which_in, NodeState, Scene, desk_at, login_at, scene, answer_in, concluded, expire_agent, expired_by, expired_in, judged_scene, received, received_as, settled, timed_out, Whole, replied_by, replied_to, served_login, whole, accessed_by, answered, enabled, is_barred, serve, served_as}
use Rattle.sbp_world.proofs.Words.Initiator.{Expired}
use Rattle.sbp_world.proofs.Words.World.{whole_of, holder, told_all, WorldState, has_list, IsFor, machine_at, WasHad}
use Rattle.sbp_journal.specs.declared.cause.CutCause.TheVariants as cuts
use Rattle.sbp_journal.specs.declared.cause.Cause.TheVariants as ignored
use Rattle.sbp_journal.specs.declared.cause.Judged.TheVariants as judgements
use Rattle.sbp_journal.specs.declared.note.Note.TheVariants as notes
use Rattle.target_base.specs.declared.address.Access.TheVariants as accesses
use Rattle.target_base.specs.declared.address.Demand.TheVariants as demands
use Rattle.sbp_target.specs.declared.purpose.Purpose.TheVariants as purposes
use Rattle.sbp_target.specs.Serving.{request_step}
use Rattle.sbp_target.proofs.Histories.Calling.{not_eight}
use Rattle.sbp_target.proofs.Histories.Settled.{reaches}
use Rattle.sbp_world.proofs.Agents.AskedLate.{ahead_of, main_of}
use Rattle.sbp_world.proofs.Lists.Cuts.{Cutting, answers, cut_alike, cuts_one, desk_more, manages, starts}
use Rattle.sbp_world.proofs.Lists.Kept.{Kept, same}
use Rattle.sbp_world.proofs.Lists.Looks.{Looks}
use Rattle.sbp_world.proofs.Lists.Registers.{point_kept, ring_kept, start_cutting}
use Rattle.sbp_world.proofs.Agents.Management.Still.{hist}
use Rattle.sbp_world.proofs.Lists.Takings.{Takes}
use Rattle.sbp_world.proofs.Lists.Turns.{First, Ready, acting, got_it, ignored_it, late_it, late_kept, reply_kept, v}
use Rattle.sbp_world.proofs.Lists.StatusCalls.{none_beyond}
use Rattle.sbp_world.proofs.Lists.OpenTurns.{ahead_lists}
use Rattle.sbp_world.proofs.Lists.StatusLosses.{sent_has}

-- the first note of a delivery
pub first_of : (serial : ℕ) (judged : Judged) → First (judged_note serial judged)
first_of serial judgements.Got = got_it serial
first_of serial (judgements.Ignored cause) = ignored_it serial _

module _ (wild : ℕ → Bool) (past : List Moment) (w : WorldState) (r : Ready wild past w) where
  abbrev K : WorldState → Scene → Type 0
  K u s = Kept wild past (λ p. (desk_at s.node p).agent) (told_all 0 s.outbox.sides u)

  -- the place of an agent that waits for a transaction
  placed : (place peer : ℕ) (label : LabelParts) (which : Which) → which_in (desk_at w.target place) peer label ≡ Some which → place < 8
  placed place peer label which e = by (nat_lt place 8) refl
    where
      by : (b : Bool) → nat_lt place 8 ≡ b → place < 8
      by true f = grind (arith, nat_tests)
      by false f =
          let size = r.good.mid.size in
          let far : 8 ≤ place = grind (arith, nat_tests) in
          let none : desk_at w.target place ≡ new_desk = none_beyond w.target.desks place (omega arith) in
          absurd (differ (sym (ap (λ (d : Desk). which_in d peer label) none) ∙ e))
        where
          differ : None ≡ Some which → ⊥
          differ g = cc

  -- it has a list open
  pub waits_has : (place : ℕ) → place < 8 → (peer : ℕ) (label : LabelParts) (which : Which) → which_in (desk_at w.target place) peer label ≡ Some which → has_list (machine_at w place).phase ≡ true
  waits_has place b peer label Main e =
      let d = desk_at w.target place in
      sent_has d.agent.phase (main_of (is_that d.main peer label) (is_sent d.agent.phase) (is_that d.ahead peer label) (is_ahead d.agent.ahead) e)
  waits_has place b peer label Ahead e =
      let d = desk_at w.target place in
      ahead_lists d.agent.phase (is_ahead d.agent.ahead) (r.good.mid.fits place b (not_eight place b)).agent.bare
      (ahead_of (is_that d.main peer label) (is_sent d.agent.phase) (is_that d.ahead peer label) (is_ahead d.agent.ahead) e)

  -- ---- a packet that the target gets
  module _ (serial : ℕ) (sent : Sent) (is_for : IsFor w sent) (took : Takes wild past w serial sent) (run : Option Told) (media : Held) where
    abbrev layer : Layer Purpose
    layer = (judging_step w.target.layer sent.generation sent.bytes).1

    abbrev node : NodeState
    node = record w.target { layer = layer }

    abbrev here : Scene
    here = scene node empty_outbox

    abbrev all : Whole
    all = whole here media.disks

    abbrev Found : Finding Purpose → Type 0
    Found f = (judging_step w.target.layer sent.generation sent.bytes).0 ≡ f

    module _ (u : WorldState) (note : Note) (first : First note) (l : Looks u (v wild past w r note first)) where
      begins : Cutting wild past u here
      begins = start_cutting wild past w r note first u l layer

      reply_by : (p : Packet) (label : LabelParts) (place : ℕ) → Found (of_response p label (Some (purposes.Agent place))) → (there : Option Login) (which : Option Which) → which_in (desk_at w.target place) (header_in p).source label ≡ which → (let x = replied_by run place (answer_in p) there which all in K u (scene x.node x.outbox))
      reply_by p label place f None which e = begins.kept
      reply_by p label place f (Some login) None e = begins.kept
      reply_by p label place f (Some login) (Some which) e =
          let b = placed place (header_in p).source label which e in
          let h = waits_has place b (header_in p).source label which e in
          reply_kept wild past w r note first u l place b login which h layer run (answer_in p) media.disks
          (λ own progress is along.
          let a = acting wild past w r note first place b h in (r.needs (holder w place).initiator own).brings sent is_for p label place which f e b refl a.n (a.list own) progress is along)

      concludes : (p : Packet) (label : LabelParts) (purpose : Option Purpose) → Found (of_response p label purpose) → (let x = concluded run purpose (header_in p).source label (answer_in p) all in K u (scene x.node x.outbox))
      unfolding concluded replied_to
      concludes p label None f = begins.kept
      concludes p label (Some (purposes.Agent place)) f =
          reply_by p label place f (served_login node place) (which_in (desk_at w.target place) (header_in p).source label) refl
      concludes p label (Some purposes.Management) f = (manages wild past u (answer_in p) here begins).kept
      concludes p label (Some purposes.Unsolicited) f =
          (cut_alike wild past u here (scene (settled (header_in p).source node) empty_outbox) (record { desks = refl; agents = λ k. refl }) refl begins).kept

      -- ---- a request
      module _ (got : note ≡ notes.Got serial) where
        access_kept : (p : Packet) (place : ℕ) (access : Access) → Found (of_request p) → is_barred w.target p ≡ false → demand_of (length w.target.rom) p ≡ demands.Agent place access → K u (accessed_by access place p sent.bytes here)
        access_kept p place accesses.State f n d = (answers wild past u p sent.bytes complete _ here begins).kept
        access_kept p place accesses.Reset f n d = (answers wild past u p sent.bytes complete [] (cut cuts.AgentReset place here) (cuts_one wild past u cuts.AgentReset place here begins)).kept
        access_kept p place (accesses.Point pointer) f n d =
            point_kept wild past w r note first u l place (reaches w.target r.good p place (accesses.Point pointer) n d).small layer p sent.bytes pointer
            (λ own ask e. (r.needs (holder w place).initiator own).lists.points sent is_for p f n place pointer ask d e (r.calm (holder w place).initiator own))
            (λ ask e own list there. subst (λ x. WasHad (said x ∷ hist past w) (holder w place).initiator list) (sym got) (took p f n place pointer ask d e own list there))
        access_kept p place accesses.Pointer f n d = (answers wild past u p sent.bytes complete _ here begins).kept
        access_kept p place accesses.Ring f n d = ring_kept wild past w r note first u l place (reaches w.target r.good p place accesses.Ring n d).small layer p sent.bytes
        access_kept p place accesses.Enable f n d =
            (answers wild past u p sent.bytes complete [] (enabled place here) (desk_more wild past u here place (record (desk_at node place) { is_enabled = true }) (same (machine_at w place)) begins)).kept

        demand_kept : (p : Packet) (demand : Demand) → Found (of_request p) → is_barred w.target p ≡ false → demand_of (length w.target.rom) p ≡ demand → K u (served_as demand p sent.bytes here)
        demand_kept p (demands.Refused rcode) f n d = (answers wild past u p sent.bytes rcode [] here begins).kept
        demand_kept p (demands.Rom at len) f n d = (answers wild past u p sent.bytes complete _ here begins).kept
        demand_kept p (demands.Manage orb) f n d = (starts wild past u orb p sent.bytes here begins).kept
        demand_kept p (demands.Agent place access) f n d = access_kept p place access f n d

        serve_kept : (p : Packet) → Found (of_request p) → is_barred w.target p ≡ false → K u (serve p sent.bytes here)
        unfolding serve
        serve_kept p f n = demand_kept p (demand_of (length w.target.rom) p) f n refl

    -- ---- by what it is found to be
    abbrev Done : Judged × Whole → WorldState → Type 0
    Done x u = Looks u (v wild past w r (judged_note serial x.0) (first_of serial x.0)) → K u (scene x.1.node x.1.outbox)

    by_bar : (u : WorldState) (p : Packet) (b : Bool) → Found (of_request p) → is_barred w.target p ≡ b → Done (judged_scene (cond b (judgements.Ignored ignored.Login, answered p sent.bytes address_error [] here) (judgements.Got, serve p sent.bytes here)) all) u
    by_bar u p true f e l =
        let note = judged_note serial (judgements.Ignored ignored.Login) in
        let first = first_of serial (judgements.Ignored ignored.Login) in
        (answers wild past u p sent.bytes address_error [] here (begins u note first l)).kept
    by_bar u p false f e l = serve_kept u (judged_note serial judgements.Got) (first_of serial judgements.Got) l refl p f e

    by_found : (u : WorldState) (f : Finding Purpose) → Found f → Done (received_as run sent.bytes f all) u
    unfolding request_step is_barred
    by_found u of_generation f l = (begins u _ (first_of serial (judgements.Ignored ignored.Generation)) l).kept
    by_found u of_grammar f l = (begins u _ (first_of serial (judgements.Ignored ignored.Grammar)) l).kept
    by_found u of_label f l = (begins u _ (first_of serial (judgements.Ignored ignored.Label)) l).kept
    by_found u (of_again p rcode) f l =
        (answers wild past u p sent.bytes rcode [] here (begins u _ (first_of serial (judgements.Ignored ignored.Again)) l)).kept
    by_found u (of_response p label purpose) f l = concludes u _ (first_of serial judgements.Got) l p label purpose f
    by_found u (of_request p) f l = by_bar u p (is_barred w.target p) f refl l

    pub delivery_kept : (u : WorldState) → (let x = received run sent.generation sent.bytes (whole_of w.target media) in Looks u (v wild past w r (judged_note serial x.0) (first_of serial x.0)) → K u (scene x.1.node x.1.outbox))
    unfolding received
    delivery_kept u = by_found u (judging_step w.target.layer sent.generation sent.bytes).0 refl

  -- ---- a transaction that times out
  module _ (serial peer : ℕ) (label : LabelParts) (u : WorldState) (l : Looks u (v wild past w r (notes.TimedOut serial) (late_it serial))) where
    late_by : (layer : Layer Purpose) (place : ℕ) (there : Option Login) (which : Option Which) → which_in (desk_at w.target place) peer label ≡ which → K u (expired_by place there which (scene (record w.target { layer = layer }) empty_outbox))
    late_by layer place None which e = (start_cutting wild past w r (notes.TimedOut serial) (late_it serial) u l layer).kept
    late_by layer place (Some login) None e = (start_cutting wild past w r (notes.TimedOut serial) (late_it serial) u l layer).kept
    late_by layer place (Some login) (Some which) e =
        let b = placed place peer label which e in
        late_kept wild past w r (notes.TimedOut serial) (late_it serial) u l place b login which (waits_has place b peer label which e) layer

    lapses : (layer : Layer Purpose) (purpose : Option Purpose) → K u (timed_out purpose peer label (scene (record w.target { layer = layer }) empty_outbox))
    unfolding expire_agent
    lapses layer None = (start_cutting wild past w r (notes.TimedOut serial) (late_it serial) u l layer).kept
    lapses layer (Some (purposes.Agent place)) = late_by layer place (login_at w.target place) (which_in (desk_at w.target place) peer label) refl
    lapses layer (Some purposes.Management) =
        (manages wild past u Expired (scene (record w.target { layer = layer }) empty_outbox) (start_cutting wild past w r (notes.TimedOut serial) (late_it serial) u l layer)).kept
    lapses layer (Some purposes.Unsolicited) = (start_cutting wild past w r (notes.TimedOut serial) (late_it serial) u l layer).kept

    pub lapse_kept : (x : Result (Option Purpose) Stale × Layer Purpose) → K u (expired_in x peer label (scene w.target empty_outbox)).1
    lapse_kept (Ok purpose, layer) = lapses layer purpose
    lapse_kept (Err stale, layer) = (start_cutting wild past w r (notes.TimedOut serial) (late_it serial) u l layer).kept
