-- A packet that the target gets leaves the places whose lists are open as they were, or it is a write of ORB_POINTER that opens one; and a time-out opens none.
use Rattle.sbp_world.proofs.Words.Std.{◌≡◌, refl, sym, subst, inl, inr, ◌⊎◌, ◌<◌, ℕ, Bool, true, false, cond, List, [], length, Option, Some, None, Result, Ok, Err}
use Rattle.sbp_world.proofs.Words.Wire.{LabelParts, Packet, header_in, Finding, Layer, judging_step, of_again, of_generation, of_grammar, of_label, of_request, of_response, Sent, Judged, empty_outbox}
use Rattle.sbp_world.proofs.Words.Target.{Login, Held, Told, PointRefusal, Which, point_step, address_error, complete, demand_of, Access, Demand, Purpose, cut, which_in, Scene, desk_at, login_at, scene, answer_in, concluded, expire_agent, expired_by, judged_scene, received, received_as, settled, timed_out, Whole, replied_by, replied_to, served_login, whole, accessed_by, answered, enabled, is_barred, point, serve, served_as, orb_of}
use Rattle.sbp_world.proofs.Words.Initiator.{Ask, OrbPointer, Expired}
use Rattle.sbp_world.proofs.Words.World.{whole_of, holder, WorldState}
use Rattle.sbp_journal.specs.declared.cause.CutCause.TheVariants as cuts
use Rattle.sbp_journal.specs.declared.cause.Cause.TheVariants as ignored
use Rattle.sbp_journal.specs.declared.cause.Judged.TheVariants as judgements
use Rattle.target_base.specs.declared.address.Access.TheVariants as accesses
use Rattle.target_base.specs.declared.address.Demand.TheVariants as demands
use Rattle.sbp_target.specs.declared.purpose.Purpose.TheVariants as purposes
use Rattle.sbp_target.specs.Serving.{request_step}
use Rattle.sbp_target.proofs.Histories.Calling.{Good}
use Rattle.sbp_target.proofs.Histories.Following.{IsServed}
use Rattle.sbp_target.proofs.Histories.Settled.{reaches}
use Rattle.sbp_world.proofs.Lists.OpenCuts.{Here, cuts_one, desk_more, same_desks}
use Rattle.sbp_world.proofs.Lists.OpenManages.{answers, manages, starts}
use Rattle.sbp_world.proofs.Lists.OpenSteps.{Opens, late_open, refused_open, reply_open, ring_open, taken_open}
use Rattle.sbp_world.proofs.Lists.OpenTurns.{AreSeated, Before, K, begins, here, node, sound, waits_lists, waits_place}

module _ (w : WorldState) (g : Good w.target) (seats : AreSeated w) (u : WorldState) (same : u.places ≡ w.places) where
  abbrev Now : Layer Purpose → Scene → Type 0
  Now layer s = K w g seats u same layer s

  -- ---- a packet that the target gets
  module _ (sent : Sent) (run : Option Told) (media : Held) where
    abbrev layer : Layer Purpose
    layer = (judging_step w.target.layer sent.generation sent.bytes).1

    abbrev first : Scene
    first = here w g seats u same layer

    abbrev all : Whole
    all = whole first media.disks

    abbrev Found : Finding Purpose → Type 0
    Found f = (judging_step w.target.layer sent.generation sent.bytes).0 ≡ f

    -- a write of ORB_POINTER that was taken
    pub record Points (judged : Judged) (s : Scene) : Type 0 where
      pub packet : Packet
      pub found : Found (of_request packet)
      pub bar : is_barred w.target packet ≡ false
      pub place : ℕ
      pub small : place < 8
      pub served : IsServed w.target place
      pub pointer : OrbPointer
      pub asks : demand_of (length w.target.rom) packet ≡ demands.Agent place (accesses.Point pointer)
      pub ask : Ask
      pub took : (point_step (Here w.target place) pointer).0 ≡ Ok ask
      pub got : judged ≡ judgements.Got
      pub after : Opens w g seats u same layer place small packet sent.bytes served (orb_of (point_step (Here w.target place) pointer).1) s

    abbrev pub Turned : Judged → Scene → Type 0
    Turned judged s = Now layer s ⊎ Points judged s

    starting : Now layer first
    starting = begins w g seats u same layer

    answer : (p : Packet) (rcode : ℕ) (given : List ℕ) (s : Scene) → Now layer s → Now layer (answered p sent.bytes rcode given s)
    answer p rcode given s k = answers u (holder w) (Before w g seats) w.target.logins (sound w g seats) p sent.bytes rcode given s k

    reply_by : (p : Packet) (label : LabelParts) (place : ℕ) (there : Option Login) (which : Option Which) → which_in (desk_at w.target place) (header_in p).source label ≡ which → (let x = replied_by run place (answer_in p) there which all in Now layer (scene x.node x.outbox))
    reply_by p label place None which e = starting
    reply_by p label place (Some login) None e = starting
    reply_by p label place (Some login) (Some which) e =
        let b = waits_place w g seats place (header_in p).source label which e in
        reply_open w g seats u same layer place b (waits_lists w g seats place b (header_in p).source label which e) login which run (answer_in p) media.disks

    concludes : (p : Packet) (label : LabelParts) (purpose : Option Purpose) → (let x = concluded run purpose (header_in p).source label (answer_in p) all in Now layer (scene x.node x.outbox))
    unfolding concluded replied_to
    concludes p label None = starting
    concludes p label (Some (purposes.Agent place)) = reply_by p label place (served_login (node w g seats u same layer) place) (which_in (desk_at w.target place) (header_in p).source label) refl
    concludes p label (Some purposes.Management) = manages u (holder w) (Before w g seats) w.target.logins (sound w g seats) (answer_in p) first refl starting
    concludes p label (Some purposes.Unsolicited) =
        same_desks u (holder w) (Before w g seats) w.target.logins.places (sound w g seats) first (settled (header_in p).source first.node) empty_outbox refl refl starting

    -- ---- a request
    point_taken : (p : Packet) (place : ℕ) (pointer : OrbPointer) → Found (of_request p) → is_barred w.target p ≡ false → demand_of (length w.target.rom) p ≡ demands.Agent place (accesses.Point pointer) → (small : place < 8) → IsServed w.target place → (ask : Ask) → (point_step (Here w.target place) pointer).0 ≡ Ok ask → Points judgements.Got (point place pointer p sent.bytes first)
    point_taken p place pointer f n d small served ask e = record {
      packet = p;
      found = f;
      bar = n;
      place = place;
      small = small;
      served = served;
      pointer = pointer;
      asks = d;
      ask = ask;
      took = e;
      got = refl;
      after = taken_open w g seats u same layer place small p sent.bytes served (orb_of (point_step (Here w.target place) pointer).1) pointer ask e refl;
    }

    point_by : (p : Packet) (place : ℕ) (pointer : OrbPointer) → Found (of_request p) → is_barred w.target p ≡ false → demand_of (length w.target.rom) p ≡ demands.Agent place (accesses.Point pointer) → (small : place < 8) → IsServed w.target place → (x : Result Ask PointRefusal) → (point_step (Here w.target place) pointer).0 ≡ x → Turned judgements.Got (point place pointer p sent.bytes first)
    point_by p place pointer f n d small served (Ok ask) e = inr (point_taken p place pointer f n d small served ask e)
    point_by p place pointer f n d small served (Err refusal) e = inl (refused_open w g seats u same layer place small p sent.bytes pointer refusal e)

    access_open : (p : Packet) (place : ℕ) (access : Access) → Found (of_request p) → is_barred w.target p ≡ false → demand_of (length w.target.rom) p ≡ demands.Agent place access → Turned judgements.Got (accessed_by access place p sent.bytes first)
    access_open p place accesses.State f n d = inl (answer p complete _ first starting)
    access_open p place accesses.Reset f n d =
        inl (answer p complete [] (cut cuts.AgentReset place first) (cuts_one u (holder w) (Before w g seats) w.target.logins.places (sound w g seats) cuts.AgentReset place first starting))
    access_open p place (accesses.Point pointer) f n d =
        let r = reaches w.target g p place (accesses.Point pointer) n d in point_by p place pointer f n d r.small r.served (point_step (Here w.target place) pointer).0 refl
    access_open p place accesses.Pointer f n d = inl (answer p complete _ first starting)
    access_open p place accesses.Ring f n d = inl (ring_open w g seats u same layer place (reaches w.target g p place accesses.Ring n d).small p sent.bytes)
    access_open p place accesses.Enable f n d =
        inl (answer p complete [] (enabled place first)
        (desk_more u (holder w) (Before w g seats) w.target.logins.places (sound w g seats) first place (record (desk_at first.node place) { is_enabled = true }) (λ l. l) starting))

    demand_open : (p : Packet) (demand : Demand) → Found (of_request p) → is_barred w.target p ≡ false → demand_of (length w.target.rom) p ≡ demand → Turned judgements.Got (served_as demand p sent.bytes first)
    demand_open p (demands.Refused rcode) f n d = inl (answer p rcode [] first starting)
    demand_open p (demands.Rom at len) f n d = inl (answer p complete _ first starting)
    demand_open p (demands.Manage orb) f n d = inl (starts u (holder w) (Before w g seats) w.target.logins (sound w g seats) orb p sent.bytes first starting)
    demand_open p (demands.Agent place access) f n d = access_open p place access f n d

    serve_open : (p : Packet) → Found (of_request p) → is_barred w.target p ≡ false → Turned judgements.Got (serve p sent.bytes first)
    unfolding serve
    serve_open p f n = demand_open p (demand_of (length w.target.rom) p) f n refl

    -- ---- by what it is found to be
    abbrev Done : Judged × Whole → Type 0
    Done x = Turned x.0 (scene x.1.node x.1.outbox)

    by_bar : (p : Packet) (b : Bool) → Found (of_request p) → is_barred w.target p ≡ b → Done (judged_scene (cond b (judgements.Ignored ignored.Login, answered p sent.bytes address_error [] first) (judgements.Got, serve p sent.bytes first)) all)
    by_bar p true f e = inl (answer p address_error [] first starting)
    by_bar p false f e = serve_open p f e

    by_found : (f : Finding Purpose) → Found f → Done (received_as run sent.bytes f all)
    unfolding request_step is_barred
    by_found of_generation f = inl starting
    by_found of_grammar f = inl starting
    by_found of_label f = inl starting
    by_found (of_again p rcode) f = inl (answer p rcode [] first starting)
    by_found (of_response p label purpose) f = inl (concludes p label purpose)
    by_found (of_request p) f = by_bar p (is_barred w.target p) f refl

    pub delivery_open : (let x = received run sent.generation sent.bytes (whole_of w.target media) in Turned x.0 (scene x.1.node x.1.outbox))
    unfolding received
    delivery_open = by_found (judging_step w.target.layer sent.generation sent.bytes).0 refl

    -- ---- a write of ORB_POINTER that is taken
    abbrev Pointed : Judged × Whole → Type 0
    Pointed x = Points x.0 (scene x.1.node x.1.outbox)

    module _ (p : Packet) (place : ℕ) (pointer : OrbPointer) (ask : Ask) (f : Found (of_request p)) (n : is_barred w.target p ≡ false) (d : demand_of (length w.target.rom) p ≡ demands.Agent place (accesses.Point pointer)) (e : (point_step (Here w.target place) pointer).0 ≡ Ok ask) where
      serve_points : Points judgements.Got (serve p sent.bytes first)
      unfolding serve
      serve_points =
          let r = reaches w.target g p place (accesses.Point pointer) n d in
          subst (λ (demand : Demand). Points judgements.Got (served_as demand p sent.bytes first)) (sym d) (point_taken p place pointer f n d r.small r.served ask e)

      request_points : Pointed (received_as run sent.bytes (of_request p) all)
      unfolding request_step is_barred
      request_points =
          subst (λ b. Pointed (judged_scene (cond b (judgements.Ignored ignored.Login, answered p sent.bytes address_error [] first) (judgements.Got, serve p sent.bytes first)) all)) (sym n) serve_points

      pub takes_point : (let x = received run sent.generation sent.bytes (whole_of w.target media) in Points x.0 (scene x.1.node x.1.outbox))
      unfolding received
      takes_point = subst (λ (x : Finding Purpose). Pointed (received_as run sent.bytes x all)) (sym f) request_points

  -- ---- a transaction that times out
  module _ (layer : Layer Purpose) (peer : ℕ) (label : LabelParts) where
    abbrev begun : Scene
    begun = here w g seats u same layer

    late_by : (place : ℕ) (there : Option Login) (which : Option Which) → which_in (desk_at w.target place) peer label ≡ which → Now layer (expired_by place there which begun)
    late_by place None which e = begins w g seats u same layer
    late_by place (Some login) None e = begins w g seats u same layer
    late_by place (Some login) (Some which) e =
        let b = waits_place w g seats place peer label which e in
        late_open w g seats u same layer place b (waits_lists w g seats place b peer label which e) login which

    pub lapse_open : (purpose : Option Purpose) → Now layer (timed_out purpose peer label begun)
    unfolding expire_agent
    lapse_open None = begins w g seats u same layer
    lapse_open (Some (purposes.Agent place)) = late_by place (login_at w.target place) (which_in (desk_at w.target place) peer label) refl
    lapse_open (Some purposes.Management) = manages u (holder w) (Before w g seats) w.target.logins (sound w g seats) Expired begun refl (begins w g seats u same layer)
    lapse_open (Some purposes.Unsolicited) = begins w g seats u same layer
