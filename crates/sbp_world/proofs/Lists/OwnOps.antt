-- An operation of the target of an initiator that injected no packets keeps a good management ORB: it read the one in a place of the initiator, which stood there
-- before the read was sent.
use Rattle.sbp_world.proofs.Words.Std.{arith, ◌≡◌, ◌∙◌, refl, sym, ap, subst, ℕ, suc, ◌+◌, ◌^◌, ◌<◌, ◌≤◌, nat_le, Bool, true, false, List, [], ◌∷◌, ◌++◌, length, Option, Some, None, append_assoc, nat_tests}
use Rattle.sbp_world.proofs.Words.Wire.{LabelParts, Packet, SerialsCount, judging_step, of_response, Sent, found_sent, Access, empty_outbox, Moment, asked, said, terms}
use Rattle.sbp_world.proofs.Words.Target.{Operation, Disk, Told, NodeState, scene, answer_in, received, whole}
use Rattle.sbp_world.proofs.Words.Initiator.{start_of, ManagementOrb, management_orb, Payload}
use Rattle.sbp_world.proofs.Words.Laws.{id_for, place_bytes, place_held, target_at, EachMoment}
use Rattle.sbp_world.proofs.Words.World.{NoneInjected, Scene, WorldState, read_access, AreAsked, WasAsked, IsCalm, GoodIn, IsGoodOrb, BringPlaces, AreShort}
use Rattle.bus_memory.specs.declared.window.Window.TheVariants as windows
use Rattle.sbp_world.proofs.Hosts.Remaining.{remains, serials_behind}
use Rattle.sbp_world.proofs.Hosts.SentMoments.{count_now, serials_from}
use Rattle.mgmt_agent.specs.declared.operation.Phase.TheVariants as phases
use Rattle.mgmt_agent.specs.Machine.{Machine}
use Rattle.sbp_journal.specs.declared.note.Note.TheVariants as notes
use Rattle.sbp_target.specs.declared.purpose.Purpose.TheVariants as purposes
use Rattle.sbp_world.proofs.Agents.Management.Holding.{Holding}
use Rattle.sbp_world.proofs.Agents.Management.Still.{hist}
use Rattle.sbp_world.proofs.Lists.ContentManages.{bound, so_before}
use Rattle.sbp_world.proofs.Lists.Courses.{Goes}
use Rattle.sbp_world.proofs.Lists.Judging.{Grown, goes_next, grown}
use Rattle.sbp_world.proofs.Lists.KeptReplies.{HasRead, brought, delivery_read, kept}
use Rattle.sbp_world.proofs.Lists.KeptTurns.{id_is, operation_is}
use Rattle.sbp_world.proofs.Lists.LiveCalls.{HasOperation, delivery_operation, replies, starts, stays}
use Rattle.sbp_world.proofs.Lists.LiveRuns.{base_of, goes_turned}
use Rattle.sbp_world.proofs.Lists.LiveSteps.{id_in}
use Rattle.sbp_world.proofs.Lists.LiveTurns.{TargetCall, TurnOf, by_clearing, by_own, by_sight, by_target, delivers, good, keeps, still}
use Rattle.sbp_world.proofs.Lists.ManageTerms.{none_is}
use Rattle.sbp_world.proofs.Lists.OrbsHeard.{asked_by_it, is_answered, manages_is}
use Rattle.sbp_world.proofs.Lists.OrbsRead.{access_there, in_phase}
use Rattle.sbp_world.proofs.Lists.OwnCounts.{FewAt}
use Rattle.sbp_world.proofs.Lists.OwnPlaces.{IfGood, held_good, none_before}
use Rattle.sbp_world.specs.Lists.ReadOrbs.{IsAnswered}
use Rattle.sbp_world.proofs.Lists.OwnReplies.{delivery_good}
use Rattle.sbp_world.proofs.Lists.PlacedOps.{IsHeldOp, Written, asked_held}
use Rattle.sbp_world.proofs.Lists.StatusKnown.{each_from}

-- ---- a place that is written stays so: from the packet on that wrote it
abbrev pub IsHeldFrom : List Moment → (i place written : ℕ) → Type 0
IsHeldFrom past i place written = (front before : List Moment) → front ++ before ≡ past → written ≤ (terms before).count → place_held before i place ≡ None → ⊥

module _ (i place written : ℕ) (small : place < 2) (few_nodes : i + 1 < 2 ^ 16) where
  tail_is : (x m : Moment) (xs ms : List Moment) → x ∷ xs ≡ m ∷ ms → xs ≡ ms
  tail_is x m xs ms e = cc

  one_more : (m : Moment) (past : List Moment) → written ≤ (terms past).count → IsHeldFrom past i place written → IsHeldFrom (m ∷ past) i place written
  one_more m past few h [] before is l none = h [] past refl few (none_before i place small few_nodes m past (subst (λ ms. place_held ms i place ≡ None) is none))
  one_more m past few h (x ∷ front) before is l none = h front before (tail_is x m (front ++ before) past is) l none

  held_on : (new past : List Moment) → SerialsCount (new ++ past) → written ≤ (terms past).count → IsHeldFrom past i place written → IsHeldFrom (new ++ past) i place written
  held_on [] past c few h = h
  held_on (m ∷ new) past c few h =
      let serials = serials_behind m (new ++ past) c in
      let k = (remains new past serials).count in
      one_more m (new ++ past) (omega (arith, few, k)) (held_on new past serials few h)

  -- right behind that packet
  held_here : (generation from to : ℕ) (bytes : List ℕ) (before : List Moment) → SerialsCount (said (notes.Sent written generation from to bytes) ∷ before) → (place_held (said (notes.Sent written generation from to bytes) ∷ before) i place ≡ None → ⊥) → IsHeldFrom (said (notes.Sent written generation from to bytes) ∷ before) i place written
  held_here generation from to bytes before c held [] there is l none = held (subst (λ ms. place_held ms i place ≡ None) is none)
  held_here generation from to bytes before c held (x ∷ front) there is l none =
      let m = said (notes.Sent written generation from to bytes) in
      let serials = serials_behind m before c in
      let at : front ++ there ≡ before = tail_is x m (front ++ there) before is in
      let k = (remains front there (subst SerialsCount (sym at) serials)).count in
      let same = ap (λ ms. (terms ms).count) at in
      let next = c.0 in
      absurd (omega (arith, l, k, same, next))

-- ---- an operation of an initiator
pub record IsOwnOp (start : List Disk) (past : List Moment) (i : ℕ) (op : Operation) : Type 0 where
  pub place : ℕ
  pub small : place < 2
  pub orb : op.orb ≡ start_of (windows.Management place)
  pub good : GoodIn op.phase
  pub written : ℕ
  pub few : written ≤ (terms past).count
  pub held : IsHeldFrom past i place written
  pub later : (read : ℕ) → (target_at start past).manages ≡ Some read → written ≤ read

abbrev pub AreOwnOps : List Disk → List Moment → ℕ → Type 0
AreOwnOps start past i = (op : Operation) → (target_at start past).manager.operation ≡ Some op → op.source ≡ id_for (terms past) 0 (suc i) → IsOwnOp start past i op

-- ---- what is brought for it
-- an ORB that stood in the place
pub record StoodThere (past : List Moment) (i place : ℕ) (bytes : List ℕ) : Type 0 where
  pub later : List Moment
  pub earlier : List Moment
  pub is : later ++ earlier ≡ past
  pub bytes_are : bytes ≡ place_bytes (place_held earlier i place)
  pub some : place_held earlier i place ≡ None → ⊥

pub short_from : (later earlier : List Moment) → AreShort (later ++ earlier) → AreShort earlier
short_from [] earlier s = s
short_from (said note ∷ later) earlier s = short_from later earlier s
short_from (asked line event ∷ later) earlier s = short_from later earlier s.1

module _ (units ready : ℕ) (more_units : 0 < units) (start : List Disk) {past : List Moment} {lines : ℕ} (w : WorldState) (h : Holding units ready start past lines w) (i : ℕ) (inside : i < length w.initiators) (few_nodes : i + 1 < 2 ^ 16) (calm : IsCalm (hist past w) i) (none : NoneInjected (hist past w) i) (counts : SerialsCount (hist past w)) (are : AreAsked start (hist past w)) (places : BringPlaces (hist past w) i) (shorts : AreShort (hist past w)) (few : EachMoment (FewAt i) (hist past w)) where
  abbrev before : List Moment
  before = hist past w

  good_bytes : (place : ℕ) (held : Option ManagementOrb) (bytes : List ℕ) → IfGood held → (held ≡ None → ⊥) → bytes ≡ place_bytes held → IsGoodOrb (management_orb bytes)
  good_bytes place None bytes g some e = absurd (some refl)
  good_bytes place (Some one) bytes g some e = subst (λ (xs : List ℕ). IsGoodOrb (management_orb xs)) (sym e) g

  -- what answers the request of an operation
  module _ (old : Operation) (operation : (target_at start before).manager.operation ≡ Some old) (own : IsOwnOp start before i old) (read : ℕ) (manages_it : (target_at start before).manages ≡ Some read) (phase : old.phase ≡ phases.Orb) (serial : ℕ) (bytes : List ℕ) (answered : IsAnswered before i serial read bytes) where
    pub answer_good : IsGoodOrb (management_orb bytes)
    answer_good =
        let was : WasAsked start before read old = are.each read old (((bound start before counts).own read manages_it).0 ∙ operation) in
        let reads : was.access ≡ read_access old.orb 32 = in_phase old.phase phases.Orb old was.access phase was.content in
        let is = access_there start before counts read old was in
        let b = places serial read own.place was.access bytes own.small
        (record {
          read = ap (λ (a : Access). a.is_write) reads;
          block = ap (λ (a : Access). a.is_block) reads;
          from = ap (λ (a : Access). a.offset) reads ∙ own.orb;
          size = ap (λ (a : Access). a.count) reads;
        })
        (record {
          own = answered.own;
          answers = answered.answers;
          of_initiator = answered.of_initiator;
          asks = is;
          reads = ap (λ (a : Access). a.is_write) reads;
          block = ap (λ (a : Access). a.is_block) reads;
          tells = answered.tells;
        }) in
        let front = b.later ++ said (notes.Got read) ∷ [] in
        let at : front ++ b.before ≡ before = append_assoc b.later (said (notes.Got read) ∷ []) b.before ∙ b.is in
        let behind = own.later read manages_it in
        let below = b.below in
        let good_there : IfGood (place_held b.before i own.place) = held_good i own.place own.small few_nodes b.before (short_from front b.before (subst AreShort (sym at) shorts)) (each_from (FewAt i) front b.before (subst (EachMoment (FewAt i)) (sym at) few)) in
        good_bytes own.place (place_held b.before i own.place) bytes good_there (own.held front b.before at (omega (arith, behind, below))) b.held

  module _ (serial : ℕ) (sent : Sent) (found : found_sent serial w.store.kept ≡ Some sent) (zero_to : sent.to ≡ 0) (p : Packet) (label : LabelParts) (e : (judging_step w.target.layer sent.generation sent.bytes).0 ≡ of_response p label (Some purposes.Management)) (old : Operation) (there : w.target.manager.operation ≡ Some old) (source : old.source ≡ id_in w i) (own : IsOwnOp start before i old) where
    of_it : old.source ≡ id_for (terms before) 0 (suc i)
    of_it = source ∙ sym (id_is units ready more_units start w h i inside)

    abbrev read : ℕ
    read = asked_by_it units ready more_units start w h serial sent found zero_to p label e

    manages_it : (target_at start before).manages ≡ Some read
    manages_it = manages_is units ready more_units start w h serial sent found zero_to p label e old there i of_it none calm

    pub brings_good : old.phase ≡ phases.Orb → (bytes : List ℕ) → answer_in p ≡ Payload bytes → IsGoodOrb (management_orb bytes)
    brings_good phase bytes answer =
        answer_good old (operation_is units ready more_units start w h i inside ∙ there) own read manages_it phase serial bytes (is_answered units ready more_units start w h serial sent found zero_to p label e old there i of_it none calm bytes answer)

    -- they are those of the ORB that stood in the place then
    pub brings_held : old.phase ≡ phases.Orb → (bytes : List ℕ) → answer_in p ≡ Payload bytes → StoodThere before i own.place bytes
    brings_held phase bytes answer =
        let answered = is_answered units ready more_units start w h serial sent found zero_to p label e old there i of_it none calm bytes answer in
        let was : WasAsked start before read old = are.each read old (((bound start before counts).own read manages_it).0 ∙ (operation_is units ready more_units start w h i inside ∙ there)) in
        let reads : was.access ≡ read_access old.orb 32 = in_phase old.phase phases.Orb old was.access phase was.content in
        let is = access_there start before counts read old was in
        let b = places serial read own.place was.access bytes own.small
        (record {
          read = ap (λ (a : Access). a.is_write) reads;
          block = ap (λ (a : Access). a.is_block) reads;
          from = ap (λ (a : Access). a.offset) reads ∙ own.orb;
          size = ap (λ (a : Access). a.count) reads;
        })
        (record {
          own = answered.own;
          answers = answered.answers;
          of_initiator = answered.of_initiator;
          asks = is;
          reads = ap (λ (a : Access). a.is_write) reads;
          block = ap (λ (a : Access). a.is_block) reads;
          tells = answered.tells;
        }) in
        let front = b.later ++ said (notes.Got read) ∷ [] in
        let at : front ++ b.before ≡ before = append_assoc b.later (said (notes.Got read) ∷ []) b.before ∙ b.is in
        let behind = own.later read manages_it in
        let below = b.below in
        record { later = front; earlier = b.before; is = at; bytes_are = b.held; some = own.held front b.before at (omega (arith, behind, below)) }

-- ---- a turn
module _ (units ready : ℕ) (more_units : 0 < units) (start : List Disk) (past : List Moment) (s : Scene) (later : List Moment) (t : Scene) {lines more : ℕ} (g : Goes past s later t) (h : Holding units ready start past lines s.world) (h_now : Holding units ready start later more t.world) (i : ℕ) (inside : i < length s.world.initiators) (within : i < length t.world.initiators) (few : i < 8) (calm : IsCalm (hist past s.world) i) (none : NoneInjected (hist past s.world) i) (known : Written (hist past s.world) i) (counts : SerialsCount (hist past s.world)) (counts_now : SerialsCount (hist later t.world)) (are : AreAsked start (hist past s.world)) (places : BringPlaces (hist past s.world) i) (shorts : AreShort (hist past s.world)) (logins : EachMoment (FewAt i) (hist past s.world)) (own : AreOwnOps start (hist past s.world) i) where
  abbrev w : WorldState
  w = s.world

  abbrev v : WorldState
  v = t.world

  abbrev old_past : List Moment
  old_past = hist past w

  abbrev now : List Moment
  now = hist later v

  few_nodes : i + 1 < 2 ^ 16
  few_nodes = omega (arith, few)

  x : Grown old_past now
  x = grown old_past now (goes_next past s later t g)

  counts_on : SerialsCount (x.new ++ old_past)
  counts_on = subst SerialsCount (sym x.is) counts_now

  more_count : (terms old_past).count ≤ (terms now).count
  more_count = let k = (remains x.new old_past counts_on).count in let same = ap (λ ms. (terms ms).count) x.is in omega (arith, k, same)

  on_now : (place written : ℕ) → place < 2 → written ≤ (terms old_past).count → IsHeldFrom old_past i place written → IsHeldFrom now i place written
  on_now place written small l held = subst (λ ms. IsHeldFrom ms i place written) x.is (held_on i place written small few_nodes x.new old_past counts_on l held)

  module _ (op : Operation) (is : v.target.manager.operation ≡ Some op) (source : op.source ≡ id_in v i) where
    operation_now : (target_at start now).manager.operation ≡ Some op
    operation_now = operation_is units ready more_units start v h_now i within ∙ is

    -- a request of it was sent before the turn, or in it
    request_behind : (written : ℕ) → written ≤ (terms old_past).count → ((read : ℕ) → (target_at start old_past).manages ≡ Some read → (target_at start old_past).manager.operation ≡ Some op → written ≤ read) → (read : ℕ) → (target_at start now).manages ≡ Some read → written ≤ read
    request_behind written l k read e = by (nat_le read (terms old_past).count) refl
      where
        by : (b : Bool) → nat_le read (terms old_past).count ≡ b → written ≤ read
        by true f =
            let so = so_before start x.new old_past read counts_on (grind (arith, nat_tests)) (ap (λ ms. (target_at start ms).manages) x.is ∙ e) in
            k read so.manages (so.operation ∙ (ap (λ ms. (target_at start ms).manager.operation) x.is ∙ operation_now))
        by false f = let less : (terms old_past).count < read = grind (arith, nat_tests) in omega (arith, l, less)

    -- an operation that was under way
    moved : (old : Operation) → IsOwnOp start old_past i old → old.orb ≡ op.orb → GoodIn op.phase → IsOwnOp start now i op
    moved old o orb g = record {
      place = o.place;
      small = o.small;
      orb = sym orb ∙ o.orb;
      good = g;
      written = o.written;
      few = (let l = o.few in let k = more_count in omega (arith, l, k));
      held = on_now o.place o.written o.small o.few o.held;
      later = request_behind o.written o.few (λ read e f. o.later read e);
    }

    old_own : (old : Operation) → w.target.manager.operation ≡ Some old → old.source ≡ id_in w i → IsOwnOp start old_past i old
    old_own old there of_it = own old (operation_is units ready more_units start w h i inside ∙ there) (of_it ∙ sym (id_is units ready more_units start w h i inside))

    same_then : id_in v i ≡ id_in w i → v.target.manager.operation ≡ w.target.manager.operation → IsOwnOp start now i op
    same_then id e = let o = old_own op (sym e ∙ is) (source ∙ id) in moved op o refl o.good

    -- one that begins
    begun : id_in v i ≡ id_in w i → w.target.manager.operation ≡ None → (phase : op.phase ≡ phases.Orb) (serial : ℕ) (sent : Sent) → IsHeldOp units ready start w h i inside few calm none known serial sent op → IsOwnOp start now i op
    begun id idle phase serial sent a =
        let here = said (notes.Sent serial sent.generation sent.from sent.to sent.bytes) ∷ a.was.before in
        let counts_here : SerialsCount (a.was.later ++ here) = subst SerialsCount (sym a.was.is) counts in
        let first : SerialsCount here = serials_from a.was.later here counts_here in
        let k = (remains a.was.later here counts_here).count in
        let same = ap (λ ms. (terms ms).count) a.was.is in
        let next = first.0 in
        let counted = count_now a.was.before serial sent.generation sent.from sent.to sent.bytes in
        let there : serial ≤ (terms here).count = omega (arith, next, counted) in
        let l : serial ≤ (terms old_past).count = omega (arith, there, k, same) in
        let held_old : IsHeldFrom old_past i a.place serial = subst (λ ms. IsHeldFrom ms i a.place serial) a.was.is (held_on i a.place serial a.small few_nodes a.was.later here counts_here there (held_here i a.place serial a.small few_nodes sent.generation sent.from sent.to sent.bytes a.was.before first a.held)) in
        record {
          place = a.place;
          small = a.small;
          orb = a.orb;
          good = subst GoodIn (sym phase) tt;
          written = serial;
          few = (let k = more_count in omega (arith, l, k));
          held = on_now a.place serial a.small l held_old;
          later = request_behind serial l (λ read e f. absurd (none_is op (sym (operation_is units ready more_units start w h i inside ∙ idle) ∙ f)));
        }

    by_delivery : id_in v i ≡ id_in w i → (serial : ℕ) (sent : Sent) → found_sent serial w.store.kept ≡ Some sent → sent.to ≡ 0 → (told : Option Told) (disks : List Disk) → (let node = (received told sent.generation sent.bytes (whole (scene w.target empty_outbox) disks)).1.node in v.target.manager.operation ≡ node.manager.operation → node.manager.operation ≡ Some op → HasOperation w.target sent.generation sent.bytes node op → IsOwnOp start now i op)
    by_delivery id serial sent found zero_to told disks left there (stays m l) = same_then id (left ∙ ap (λ (x : Machine). x.operation) m)
    by_delivery id serial sent found zero_to told disks left there (starts a l) =
        begun id a.idle a.phase serial sent (asked_held units ready start w h i inside few calm none known serial sent found zero_to op a (source ∙ id))
    by_delivery id serial sent found zero_to told disks left there (replies p label f r) =
        on_read (delivery_read w.target (good units ready more_units start w h) (keeps units ready more_units start w h) told disks sent.generation sent.bytes p label f op there)
      where
        from_old : (old : Operation) → w.target.manager.operation ≡ Some old → old.source ≡ op.source → old.orb ≡ op.orb → IsOwnOp start now i op
        from_old old was source_old orb_old =
            let of_it : old.source ≡ id_in w i = source_old ∙ (source ∙ id) in
            let o = old_own old was of_it in
            let brings = brings_good units ready more_units start w h i inside few_nodes calm none counts are places shorts logins serial sent found zero_to p label f old was of_it o in
            moved old o orb_old (delivery_good w.target (good units ready more_units start w h) (keeps units ready more_units start w h) told disks sent.generation sent.bytes p label f old was o.good brings op there)

        on_read : HasRead w.target.manager.operation (answer_in p) op → IsOwnOp start now i op
        on_read (kept old was source_old orb_old k) = from_old old was source_old orb_old
        on_read (brought old was source_old orb_old phase bytes answer k) = from_old old was source_old orb_old

    by_call : id_in v i ≡ id_in w i → TargetCall w (base_of g) v.fresh v.target → IsOwnOp start now i op
    by_call id (still x told) = same_then id (ap (λ (m : Machine). m.operation) (x.operation op is))
    by_call id (delivers serial sent found zero_to told disks node notes first) =
        let there = sym (ap (λ (n : NodeState). n.manager.operation) node) ∙ is in
        by_delivery id serial sent found zero_to told disks (ap (λ (n : NodeState). n.manager.operation) node) there (delivery_operation w.target (good units ready more_units start w h) (keeps units ready more_units start w h) sent.generation sent.bytes told disks op there)

    by_turn : TurnOf i w (base_of g) v → IsOwnOp start now i op
    by_turn (by_target bus same call) = by_call bus.id call
    by_turn (by_clearing c same told) = absurd (c.none op is)
    by_turn (by_own bus same call away) = same_then bus.id (ap (λ (n : NodeState). n.manager.operation) same)
    by_turn (by_sight c same away) = same_then c.id (ap (λ (n : NodeState). n.manager.operation) same)

  pub own_turn : AreOwnOps start now i
  own_turn op is source =
      by_turn op (sym (operation_is units ready more_units start v h_now i within) ∙ is) (source ∙ id_is units ready more_units start v h_now i within) (goes_turned units ready more_units start past s later t g h i inside)
