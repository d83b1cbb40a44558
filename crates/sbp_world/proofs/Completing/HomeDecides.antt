-- As the target is called, it leaves the live logins of an initiator's node of which nothing is in hand but an operation whose ORB is about no login, and it keeps the ORB of that. Where that is no login and no
-- reconnect, the node gets no live login.
use Rattle.sbp_world.proofs.Words.Std.{arith, ◌≡◌, ◌∙◌, refl, sym, ap, subst, inl, inr, ◌⊎◌, ◌<◌, nat_eq, nat_tests, ℕ, Bool, true, false, List, [], ◌∷◌, ◌++◌, length, Option, Some, append_assoc}
use Rattle.sbp_world.proofs.Words.Wire.{Access, LabelParts, Moment, Packet, Sent, empty_outbox, found_sent, judging_step, of_response, said, terms}
use Rattle.sbp_world.proofs.Words.Target.{Disk, Function, Login, Managed, NodeState, Table, answer_in, decide, function_of, received, is_live, place_at, scene, whole}
use Rattle.sbp_world.proofs.Words.Initiator.{Payload, management_orb, start_of}
use Rattle.sbp_world.proofs.Words.Laws.{Decided, bytes_in, decided_by, decided_in, place_bytes}
use Rattle.sbp_world.proofs.Words.World.{AreSame, IsCalm, IsHandling, IsInAPlace, IsRest, IsServed, KeepsIn, WorldState, is_written, orb_in_place, read_access}
use Rattle.bus_memory.specs.declared.window.Window.TheVariants as windows
use Rattle.mgmt_agent.specs.Machine.{Machine}
use Rattle.mgmt_agent.specs.declared.function.Function.TheVariants as functions
use Rattle.mgmt_agent.specs.declared.operation.Operation.{Operation}
use Rattle.mgmt_agent.specs.declared.operation.Phase.{Phase}
use Rattle.mgmt_agent.specs.declared.operation.Phase.TheVariants as phases
use Rattle.sbp_journal.specs.declared.note.Note.TheVariants as notes
use Rattle.sbp_target.specs.declared.purpose.Purpose.TheVariants as purposes
use Rattle.sbp_world.proofs.Agents.Management.Holding.{Holding}
use Rattle.sbp_world.proofs.Agents.Management.Still.{hist}
use Rattle.sbp_world.proofs.Completing.HomeMoments.{Busied}
use Rattle.sbp_world.proofs.Completing.HomePlaces.{InHand, KeepsAt, Near, busied, free}
use Rattle.sbp_world.proofs.Lists.ContentManages.{bound}
use Rattle.sbp_world.proofs.Lists.Judging.{counts_at}
use Rattle.sbp_world.proofs.Lists.KeptBrings.{none_decided, same_decided}
use Rattle.sbp_world.proofs.Lists.KeptReplies.{HasRead, brought, delivery_read, kept}
use Rattle.sbp_world.proofs.Lists.KeptTurns.{id_is, operation_is}
use Rattle.sbp_world.proofs.Lists.LiveCalls.{HasLogins, HasOperation, answered, delivery_logins, delivery_operation, replies, starts, stays, untouched}
use Rattle.sbp_world.proofs.Lists.IdsRise.{Decides, decide_makes, enters, leaves, returns}
use Rattle.sbp_world.proofs.Lists.LiveDecides.{decided_kept, keeps_logins}
use Rattle.sbp_world.proofs.Lists.LiveHandled.{handling}
use Rattle.sbp_world.proofs.Lists.LiveReplies.{IsDecidedOn, Logged, granted, stands}
use Rattle.sbp_world.proofs.Lists.LiveSteps.{id_in, own_of, zero_of}
use Rattle.sbp_world.proofs.Lists.LiveOwn.{two_ways}
use Rattle.sbp_world.proofs.Lists.LiveTurns.{TargetCall, delivers, good, keeps, still}
use Rattle.sbp_world.proofs.Lists.OrbsHeard.{asked_by_it, is_answered, manages_is}
use Rattle.sbp_world.proofs.Lists.OrbsRead.{access_there, in_phase}
use Rattle.sbp_world.proofs.Sessions.Logins.{decides as others_stand, same}

module _ (quiet : Option Function → Bool) (units ready : ℕ) (has : 0 < units) (start : List Disk) {past : List Moment} {lines : ℕ} (w : WorldState) (h : Holding units ready start past lines w) (q : Near start (hist past w) w) (i : ℕ) (l : i < length w.initiators) (calm : IsCalm (hist past w) i) (together : zero_of w ≡ own_of w i) (placed : (op : Managed) → w.target.manager.operation ≡ Some op → op.source ≡ id_in w i → IsInAPlace op) (hand : InHand quiet start (hist past w) w i) where
  abbrev before : List Moment
  before = hist past w

  abbrev id : ℕ
  id = id_in w i

  -- an operation of it that has written nothing is the one in hand
  pub record IsThat (op : Managed) : Type 0 where
    pub b : Busied quiet start before i
    pub kept_at : KeepsAt w before i b.place
    pub orb : op.orb ≡ start_of (windows.Management b.place)

  module _ (op : Managed) (is : w.target.manager.operation ≡ Some op) (source : op.source ≡ id) (unwritten : is_written op.phase ≡ false) where
    x : IsInAPlace op
    x = placed op is source

    handles : IsHandling start before i x.place op
    handles = handling units ready start w h i l together op is source x.place x.small x.orb

    not_over : {A : Type 0} → op.phase ≡ phases.Status → A
    not_over e = two_ways (is_written op.phase) (ap is_written e) unwritten

    no_rest : {A : Type 0} → IsRest start before i → A
    unfolding handles x
    no_rest r = not_over (r.over x.place op handles).0

    that_by : InHand quiet start before w i → IsThat op
    unfolding handles x
    that_by (free f) = no_rest f.rest
    that_by (busied b k) = by (nat_eq ((terms before).news b.write) 0) refl
      where
        judged : IsRest start before i ⊎ IsServed start before i b.place b.write → IsThat op
        judged (inl r) = no_rest r
        judged (inr s) = record { b = b; kept_at = k; orb = x.orb ∙ ap (λ n. start_of (windows.Management n)) (s.handles x.place op handles) }

        by : (z : Bool) → nat_eq ((terms before).news b.write) 0 ≡ z → IsThat op
        by true e = no_rest (b.busy.waiting (grind (arith, nat_tests, e)))
        by false e = judged (b.busy.judged (grind (arith, nat_tests, e)))

    that : IsThat op
    that = that_by hand

  module _ (serial : ℕ) (sent : Sent) (found : found_sent serial w.store.kept ≡ Some sent) (zero_to : sent.to ≡ 0) (p : Packet) (label : LabelParts) (e : (judging_step w.target.layer sent.generation sent.bytes).0 ≡ of_response p label (Some purposes.Management)) where
    -- what the reply brings is the ORB in the place
    brings_place : (was : Managed) → w.target.manager.operation ≡ Some was → was.phase ≡ phases.Orb → was.source ≡ id → (bytes : List ℕ) → answer_in p ≡ Payload bytes → (b : Busied quiet start before i) → was.orb ≡ start_of (windows.Management b.place) → management_orb bytes ≡ orb_in_place before i b.place
    brings_place was is phase source bytes answer b orb =
        let of_it = source ∙ sym (id_is units ready has start w h i l) in
        let none = q.live.more.given.laws.none i l in
        let read = asked_by_it units ready has start w h serial sent found zero_to p label e in
        let counts = counts_at w h.sound.stands in
        let manages = manages_is units ready has start w h serial sent found zero_to p label e was is i of_it none calm in
        let told = is_answered units ready has start w h serial sent found zero_to p label e was is i of_it none calm bytes answer in
        let operation = operation_is units ready has start w h i l ∙ is in
        let asked_one = q.live.more.contents.each read was (((bound start before counts).own read manages).0 ∙ operation) in
        let reads : asked_one.access ≡ read_access was.orb 32 = in_phase was.phase phases.Orb was asked_one.access phase asked_one.content in
        let x = q.places i l serial read b.place asked_one.access bytes b.small
        (record {
          read = ap (λ (a : Access). a.is_write) reads;
          block = ap (λ (a : Access). a.is_block) reads;
          from = ap (λ (a : Access). a.offset) reads ∙ orb;
          size = ap (λ (a : Access). a.count) reads;
        })
        (record {
          own = told.own;
          answers = told.answers;
          of_initiator = told.of_initiator;
          asks = access_there start before counts read was asked_one;
          reads = ap (λ (a : Access). a.is_write) reads;
          block = ap (λ (a : Access). a.is_block) reads;
          tells = told.tells;
        }) in
        let at : (x.later ++ said (notes.Got read) ∷ []) ++ x.before ≡ before = append_assoc x.later (said (notes.Got read) ∷ []) x.before ∙ x.is in
        let below = x.below in
        let behind = b.behind was read operation phase orb manages told.of_initiator in
        ap management_orb (x.held ∙ ap place_bytes (sym (b.since (x.later ++ said (notes.Got read) ∷ []) x.before at (omega (arith, below, behind)))))

    module _ (left : Table) (d : IsDecidedOn w.target.manager w.target.logins w.target.keys (answer_in p) left) (source : d.was.source ≡ id) where
      that_one : IsThat d.was
      that_one = that d.was d.is source d.unwritten

      on_is : (phase : Phase) → d.was.phase ≡ phase → decided_in phase d.was.source (answer_in p) ≡ Some d.on
      on_is phase f = ap (λ (x : Phase). decided_in x d.was.source (answer_in p)) (sym f) ∙ (ap (λ (x : Option Operation). decided_by x (answer_in p)) (sym d.is) ∙ d.brought)

      by_phase : (phase : Phase) → d.was.phase ≡ phase → d.on.orb ≡ orb_in_place before i that_one.b.place
      by_phase phases.Orb f =
          let on = same_decided _ d.on (on_is phases.Orb f) in
          ap (λ (x : Decided). x.orb) (sym on) ∙ (ap (λ a. management_orb (bytes_in a)) d.pays ∙ brings_place d.was d.is f source d.bytes d.pays that_one.b that_one.orb)
      by_phase (phases.HighEui own) f = none_decided d.on (on_is (phases.HighEui own) f)
      by_phase (phases.LowEui own high) f =
          let on = same_decided _ d.on (on_is (phases.LowEui own high) f) in
          ap (λ (x : Decided). x.orb) (sym on) ∙ subst (λ (x : Phase). KeepsIn x (orb_in_place before i that_one.b.place)) f (that_one.kept_at d.was d.is source that_one.orb)
      by_phase (phases.Response fifo) f = none_decided d.on (on_is (phases.Response fifo) f)
      by_phase phases.Status f = none_decided d.on (on_is phases.Status f)

      is_quiet : quiet (function_of d.on.orb.function) ≡ true
      is_quiet = subst (λ orb. quiet (function_of orb.function) ≡ true) (sym (by_phase d.was.phase refl)) that_one.b.keeps

    -- what the target decides on an ORB of another node leaves the logins of this one
    others_same : (left : Table) (d : IsDecidedOn w.target.manager w.target.logins w.target.keys (answer_in p) left) → nat_eq d.was.source id ≡ false → AreSame id w.target.logins.places left.places
    others_same left d f =
        subst (λ (t : Table). AreSame id w.target.logins.places t.places) (sym d.left_is)
        (others_stand id d.on.orb d.on.source d.on.eui (λ g. two_ways (nat_eq d.was.source id) (let is : d.was.source ≡ id = sym d.source_is ∙ g in grind (arith, nat_tests, is)) f) w.target.logins w.target.keys)

  -- ---- where a quiet function leaves the logins
  module _ (keeping : (function : Option Function) → quiet function ≡ true → keeps_logins function ≡ true) where
    module _ (serial : ℕ) (sent : Sent) (found : found_sent serial w.store.kept ≡ Some sent) (zero_to : sent.to ≡ 0) (p : Packet) (label : LabelParts) (e : (judging_step w.target.layer sent.generation sent.bytes).0 ≡ of_response p label (Some purposes.Management)) where
      own_stands : (left : Table) (d : IsDecidedOn w.target.manager w.target.logins w.target.keys (answer_in p) left) → d.was.source ≡ id → AreSame id w.target.logins.places left.places
      own_stands left d source =
          let keeps_it = keeping (function_of d.on.orb.function) (is_quiet serial sent found zero_to p label e left d source) in
          subst (λ (t : Table). AreSame id w.target.logins.places t.places) (sym (d.left_is ∙ decided_kept d.on.orb d.on.source d.on.eui w.target.logins w.target.keys keeps_it)) (same id w.target.logins.places)

      logged_stands : (left : Table) → Logged w.target.manager w.target.logins w.target.keys (answer_in p) left → AreSame id w.target.logins.places left.places
      logged_stands left (stands f) = subst (λ (t : Table). AreSame id w.target.logins.places t.places) (sym f) (same id w.target.logins.places)
      logged_stands left (granted d) = by (nat_eq d.was.source id) refl
        where
          by : (b : Bool) → nat_eq d.was.source id ≡ b → AreSame id w.target.logins.places left.places
          by true f = own_stands left d (grind (arith, nat_tests, f))
          by false f = others_same serial sent found zero_to p label e left d f

    logins_stand : (serial : ℕ) (sent : Sent) → found_sent serial w.store.kept ≡ Some sent → sent.to ≡ 0 → (left : Table) → HasLogins w.target sent.generation sent.bytes left → AreSame id w.target.logins.places left.places
    logins_stand serial sent found to left (untouched f) = subst (λ (t : Table). AreSame id w.target.logins.places t.places) (sym f) (same id w.target.logins.places)
    logins_stand serial sent found to left (answered p label f r) = logged_stands serial sent found to p label f left r

    pub call_stands : {base fresh : List _} {now : NodeState} → TargetCall w base fresh now → AreSame id w.target.logins.places now.logins.places
    call_stands (still x t) = x.logins id
    call_stands {now = now} (delivers serial sent found to told disks is t first) =
        subst (λ (n : NodeState). AreSame id w.target.logins.places n.logins.places) (sym is)
        (logins_stand serial sent found to _ (delivery_logins w.target (good units ready has start w h) (keeps units ready has start w h) sent.generation sent.bytes told disks))

  -- ---- where none is of a login or of a reconnect
  -- each live login of the node had its place before
  abbrev pub Stood : Table → Type 0
  Stood now = (place : ℕ) (login : Login) → place_at now.places place ≡ Some login → is_live login ≡ true → login.node ≡ id → place_at w.target.logins.places place ≡ Some login

  module _ (no_login : quiet (Some functions.Login) ≡ true → ⊥) (no_return : quiet (Some functions.Reconnect) ≡ true → ⊥) where
    module _ (serial : ℕ) (sent : Sent) (found : found_sent serial w.store.kept ≡ Some sent) (zero_to : sent.to ≡ 0) (p : Packet) (label : LabelParts) (e : (judging_step w.target.layer sent.generation sent.bytes).0 ≡ of_response p label (Some purposes.Management)) where
      own_stood : (left : Table) (d : IsDecidedOn w.target.manager w.target.logins w.target.keys (answer_in p) left) → d.was.source ≡ id → Stood left
      own_stood left d source = subst Stood (sym d.left_is) (by (decide_makes d.on.orb d.on.source d.on.eui w.target.logins w.target.keys))
        where
          quiet_it : (function : Option Function) → function_of d.on.orb.function ≡ function → quiet function ≡ true
          quiet_it function f = subst (λ g. quiet g ≡ true) f (is_quiet serial sent found zero_to p label e left d source)

          by : Decides d.on.orb d.on.source d.on.eui w.target.logins (decide d.on.orb d.on.source d.on.eui w.target.logins w.target.keys).1 → Stood (decide d.on.orb d.on.source d.on.eui w.target.logins w.target.keys).1
          by (leaves t lives) = λ place login there live of. lives place login there live
          by (returns f t lives) = absurd (no_return (quiet_it (Some functions.Reconnect) f))
          by (enters f t) = absurd (no_login (quiet_it (Some functions.Login) f))

      logged_stood : (left : Table) → Logged w.target.manager w.target.logins w.target.keys (answer_in p) left → Stood left
      logged_stood left (stands f) = subst Stood (sym f) (λ place login there live of. there)
      logged_stood left (granted d) = by (nat_eq d.was.source id) refl
        where
          by : (b : Bool) → nat_eq d.was.source id ≡ b → Stood left
          by true f = own_stood left d (grind (arith, nat_tests, f))
          by false f = (others_same serial sent found zero_to p label e left d f).brings

    logins_stood : (serial : ℕ) (sent : Sent) → found_sent serial w.store.kept ≡ Some sent → sent.to ≡ 0 → (left : Table) → HasLogins w.target sent.generation sent.bytes left → Stood left
    logins_stood serial sent found to left (untouched f) = subst Stood (sym f) (λ place login there live of. there)
    logins_stood serial sent found to left (answered p label f r) = logged_stood serial sent found to p label f left r

    pub call_stood : {base fresh : List _} {now : NodeState} → TargetCall w base fresh now → Stood now.logins
    call_stood (still x t) = (x.logins id).brings
    call_stood {now = now} (delivers serial sent found to told disks is t first) =
        subst (λ (n : NodeState). Stood n.logins) (sym is)
        (logins_stood serial sent found to _ (delivery_logins w.target (good units ready has start w h) (keeps units ready has start w h) sent.generation sent.bytes told disks))

  -- ---- the ORB that it keeps
  module _ (b : Busied quiet start before i) (k : KeepsAt w before i b.place) where
    abbrev Kept : Managed → Type 0
    Kept op = KeepsIn op.phase (orb_in_place before i b.place)

    read_kept : (serial : ℕ) (sent : Sent) → found_sent serial w.store.kept ≡ Some sent → sent.to ≡ 0 → (p : Packet) (label : LabelParts) → (judging_step w.target.layer sent.generation sent.bytes).0 ≡ of_response p label (Some purposes.Management) → (op : Managed) → op.source ≡ id → op.orb ≡ start_of (windows.Management b.place) → HasRead w.target.manager.operation (answer_in p) op → Kept op
    read_kept serial sent found to p label e op source orb (kept old there source_old orb_old f) = f (orb_in_place before i b.place) (k old there (source_old ∙ source) (orb_old ∙ orb))
    read_kept serial sent found to p label e op source orb (brought old there source_old orb_old phase bytes answer f) =
        subst (KeepsIn op.phase) (brings_place serial sent found to p label e old there phase (source_old ∙ source) bytes answer b (orb_old ∙ orb)) f

    pub call_keeps : {base fresh : List _} {now : NodeState} → TargetCall w base fresh now → (op : Managed) → now.manager.operation ≡ Some op → op.source ≡ id → op.orb ≡ start_of (windows.Management b.place) → Kept op
    call_keeps (still x t) op is source orb = k op (sym (ap (λ (m : Machine). m.operation) (x.operation op is)) ∙ is) source orb
    call_keeps (delivers serial sent found to told disks node t first) op is source orb =
        let there = sym (ap (λ (n : NodeState). n.manager.operation) node) ∙ is in
        by there (delivery_operation w.target (good units ready has start w h) (keeps units ready has start w h) sent.generation sent.bytes told disks op there)
      where
        by : (received told sent.generation sent.bytes (whole (scene w.target empty_outbox) disks)).1.node.manager.operation ≡ Some op → HasOperation w.target sent.generation sent.bytes (received told sent.generation sent.bytes (whole (scene w.target empty_outbox) disks)).1.node op → Kept op
        by there (stays m y) = k op (sym (ap (λ (x : Machine). x.operation) m) ∙ there) source orb
        by there (starts a y) = subst (λ (x : Phase). KeepsIn x (orb_in_place before i b.place)) (sym a.phase) tt
        by there (replies p label f r) = read_kept serial sent found to p label f op source orb (delivery_read w.target (good units ready has start w h) (keeps units ready has start w h) told disks sent.generation sent.bytes p label f op there)
