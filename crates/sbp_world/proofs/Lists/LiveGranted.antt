-- What a status of 00 grants of an entry stands at each turn of a run in which no initiator injected packets, or few logins were given.
use Rattle.sbp_world.proofs.Words.Std.{arith, ◌≡◌, ◌∙◌, refl, sym, ap, subst, ◌⊎◌, inl, inr, ℕ, suc, ◌<◌, ◌≤◌, Bool, true, false, List, ◌∷◌, ◌++◌, map, length, Option, Some, None}
use Rattle.sbp_world.proofs.Words.Wire.{SerialsCount, Note, Moment, said, Sending, Terms, terms}
use Rattle.sbp_world.proofs.Words.Target.{Login, Table, place_at, Managed, Disk, NodeState}
use Rattle.sbp_world.proofs.Words.Initiator.{start_of, LoginResponse, login_response, Running, InitiatorState, response_of, is_stuck_seat}
use Rattle.sbp_world.proofs.Words.Laws.{host_at, is_management, target_at}
use Rattle.sbp_world.proofs.Words.World.{Scene, WorldState, initiator_at, Stands, AreAsked, WasAsked, IsCalmBeside, HasLogin, LivesWith, OwnBy, HasBase, IsActive, IsTaken, IsTold}
use Rattle.sbp_world.proofs.Wire.Bus.{holds}
use Rattle.bus_memory.specs.declared.window.Window.TheVariants as windows
use Rattle.sbp_world.proofs.Hosts.Hosted.{Cored, expires_fit, hears_fit}
use Rattle.sbp_world.proofs.Hosts.Remaining.{remains}
use Rattle.sbp_world.proofs.Hosts.SentMoments.{count_now, serials_from}
use Rattle.mgmt_agent.specs.Machine.{Machine}
use Rattle.sbp_journal.specs.declared.note.Note.TheVariants as notes
use Rattle.sbp_journal.specs.declared.operation.Operation.TheVariants as operations
use Rattle.sbp_world.proofs.Agents.Management.Holding.{Holding, past_terms}
use Rattle.sbp_world.proofs.Agents.Management.Still.{hist}
use Rattle.sbp_world.proofs.Sessions.Turns.{wire_generation}
use Rattle.sbp_world.proofs.Lists.IdsOwned.{own_on}
use Rattle.sbp_world.proofs.Lists.KeptTurns.{id_is}
use Rattle.sbp_world.proofs.Lists.Courses.{Goes}
use Rattle.sbp_world.proofs.Lists.Judging.{counts_at, goes_next, grown}
use Rattle.sbp_world.proofs.Lists.LiveActs.{Acted, act_acts, begins, idle, moves}
use Rattle.sbp_world.proofs.Lists.LiveCalled.{Begins, Waited, goes_on, told_before, told_now, waited}
use Rattle.sbp_world.proofs.Lists.LiveCalls.{HasLogins, HasOperation, delivery_logins, delivery_operation}
use Rattle.sbp_world.proofs.Lists.LiveEntries.{entry_at}
use Rattle.sbp_world.proofs.Lists.LiveGood.{now_based, now_good, now_ours, now_owned, now_unbad}
use Rattle.sbp_world.proofs.Lists.LiveGrants.{Grants, IsEntry, Names, delivery_grants, idle_grants, kept_grants, none_grants, still_grants}
use Rattle.sbp_world.proofs.Lists.LiveHandled.{gave_up, own_handled}
use Rattle.sbp_world.proofs.Lists.LiveHears.{IsAnswered, IsUndone, Never, Not, delivery_moved, lapse_moved}
use Rattle.sbp_world.proofs.Lists.LiveHelps.{ToTarget, helps_target}
use Rattle.sbp_world.proofs.Lists.LiveJoined.{BufferTurns, Held, IsStored, KeepsBuffer, PlacedTurns, StoredTurns, as_given, begun_rest, begun_silent, carried_on, target_turn}
use Rattle.sbp_world.proofs.Lists.LiveLeads.{hands_before}
use Rattle.sbp_world.proofs.Lists.LiveMoves.{Moved, answers, ends, gives_up, rests as stays, undoes}
use Rattle.sbp_world.proofs.Lists.LiveOurs.{own_host}
use Rattle.sbp_world.proofs.Lists.LiveOwn.{in_hand, is_exit, quits, two_ways}
use Rattle.sbp_world.proofs.Lists.LiveRuns.{AllLive, GrownBy, IsCored, With, base_of, goes_size, goes_beside, goes_turned}
use Rattle.sbp_world.proofs.Lists.LiveStandings.{good_block}
use Rattle.sbp_world.proofs.Lists.LiveSteps.{CarriedOf, ClaimsOf, Comes, GaveUpOf, GrantsOf, Grown, HelpsTarget, Lives, id_in, own_of, zero_of}
use Rattle.sbp_world.proofs.Lists.LiveTaken.{active_taken}
use Rattle.sbp_world.proofs.Lists.LiveTogether.{told_is, turn_begins}
use Rattle.sbp_world.proofs.Lists.LiveTold.{TargetTold, TellsAway}
use Rattle.sbp_world.proofs.Lists.LiveTurns.{IsCleared, OwnCall, SameBus, TargetCall, TurnOf, acts, by_clearing, by_own, by_sight, by_target, delivers, good, hears, keeps, lapses, rests, still}
use Rattle.sbp_world.proofs.Lists.ManageFirsts.{Goes as HostGoes}
use Rattle.sbp_world.proofs.Lists.ManageMoments.{Hands}
use Rattle.sbp_world.proofs.Lists.ManageOwn.{at_host}
use Rattle.sbp_world.proofs.Lists.ManageSends.{sent_is, sent_terms}

-- ---- what an initiator's call leaves of its operation
data Ends (s t : InitiatorState) : Type 0 where
  same_end : t.operation ≡ s.operation → Ends s t
  none_end : t.operation ≡ None → Ends s t
  begun_end : s.operation ≡ None → is_stuck_seat t.seat ≡ false → Ends s t

moved_ends : {Answered : Running → ℕ → Type 0} {Undone : Running → Type 0} (s t : InitiatorState) → Moved s Answered Undone t.operation t.seat → Ends s t
moved_ends s t (stays e l) = same_end e
moved_ends s t (gives_up e stuck) = none_end e
moved_ends s t (ends running is m e same) = none_end e
moved_ends s t (answers running status is m x e same) = none_end e
moved_ends s t (undoes running is m x e same) = none_end e

acted_ends : (s t : InitiatorState) → Acted s t.operation t.seat → Ends s t
acted_ends s t (idle e l) = same_end e
acted_ends s t (begins running none free e m same) = begun_end none (ap is_stuck_seat same ∙ free)
acted_ends s t (moves running none free e stuck sends) = begun_end none stuck

call_ends : (is_ready : Bool) (past : List Moment) (w : WorldState) (i : ℕ) → Cored is_ready past i (initiator_at w i) → (base fresh : List Note) (t : InitiatorState) → OwnCall w i base fresh t → Ends (initiator_at w i) t
call_ends is_ready past w i c base fresh t (rests e f) = same_end e
call_ends is_ready past w i c base fresh t (hears serial sent found to is first) =
    let s = initiator_at w i in
    moved_ends s t (subst (λ (x : InitiatorState). Moved s (IsAnswered s sent.generation sent.bytes) (IsUndone s sent.generation sent.bytes) x.operation x.seat) (sym is) (delivery_moved s sent.generation sent.bytes (hears_fit is_ready i s c.own.called sent.generation sent.bytes)))
call_ends is_ready past w i c base fresh t (lapses label is) =
    let s = initiator_at w i in
    moved_ends s t (subst (λ (x : InitiatorState). Moved s (Never s) (Not s) x.operation x.seat) (sym is) (lapse_moved s label (expires_fit is_ready i s c.own.called label)))
call_ends is_ready past w i c base fresh t (acts action is) =
    let s = initiator_at w i in acted_ends s t (subst (λ (x : InitiatorState). Acted s x.operation x.seat) (sym is) (act_acts action s))

-- no entry is under way
no_entry : {A : Type 0} (s : InitiatorState) → in_hand s.operation ≡ false → (running : Running) → s.operation ≡ Some running → is_management running.operation ≡ true → A
no_entry s out running is m = two_ways (is_management running.operation) m (sym (ap in_hand is) ∙ out)

out_grants : (id own : ℕ) (Active : Type 0) (Tells : ℕ → List ℕ → Type 0) (m : Machine) (places : List (Option Login)) (s : InitiatorState) → in_hand s.operation ≡ false → Grants Active Tells id own m places s
out_grants id own Active Tells m places s out = record {
  responding = λ op is of acts fifo p. record { logs_in = λ running f e. no_entry s out running f (ap is_management e); long = λ running f e. no_entry s out running f (ap is_management e); comes_back = λ running f e. no_entry s out running f (ap is_management e) };
  status = λ op is of acts p f. record { logs_in = λ running f e. no_entry s out running f (ap is_management e); comes_back = λ running f e. no_entry s out running f (ap is_management e) };
  told = λ orb bytes t f. record { logs_in = λ running f e. no_entry s out running f (ap is_management e); comes_back = λ running f e. no_entry s out running f (ap is_management e) };
}

-- ---- a packet of an operation of the target is of the target
module _ (start : List Disk) (past : List Moment) (counts : SerialsCount past) (serial : ℕ) (op : Managed) (was : WasAsked start past serial op) (packet : Sending) (sent : (terms past).sent serial ≡ Some packet) where
  abbrev then : List Moment
  then = said (notes.Sent serial was.generation 0 was.to was.bytes) ∷ was.before

  abbrev asking : Sending
  asking = record { generation = was.generation; from = 0; to = was.to; bytes = was.bytes; injected = (terms was.before).injected serial }

  counts_later : SerialsCount (was.later ++ then)
  counts_later = subst SerialsCount (sym was.is) counts

  counts_then : SerialsCount then
  counts_then = serials_from was.later then counts_later

  sent_there : serial ≤ (terms then).count
  sent_there = let n = count_now was.before serial was.generation 0 was.to was.bytes in let s = counts_then.0 in omega (arith, n, s)

  sent_then : (terms then).sent serial ≡ Some packet
  sent_then = sym ((remains was.later then counts_later).sent serial sent_there) ∙ ap (λ ms. (terms ms).sent serial) was.is ∙ sent

  packet_is : asking ≡ packet
  packet_is = sent_is serial asking packet (terms was.before).sent (sym (ap (λ (g : ℕ → Option Sending). g serial) (sent_terms serial asking (terms was.before)).sent) ∙ sent_then)

  from_target : packet.from ≡ 0
  from_target = sym (ap (λ (x : Sending). x.from) packet_is)

-- so a status block that waits is of a generation that the target has seen
pub seen_told : {past : List Moment} (w : WorldState) (stands : Stands past w) (start : List Disk) (i : ℕ) → i < length w.initiators → (contents : AreAsked start (hist past w)) (orb : ℕ) (bytes : List ℕ) → IsTold start (hist past w) i orb bytes → own_of w i ≤ zero_of w
seen_told {past} w stands start i inside contents orb bytes told =
    let t = told.telling in
    let from = from_target start (hist past w) (counts_at w stands) told.serial t.op (contents.each told.serial t.op t.is_for) t.packet t.sent in
    let all = holds stands.wire stands.reached in
    let honest = all.facts.honest told.serial t.packet (ap (λ (x : Terms). x.sent told.serial) (past_terms w stands) ∙ t.sent) in
    let seen : t.packet.generation ≤ (terms stands.wire.past).generation t.packet.from = honest.past in
    let zero_is = ap (λ n. (terms stands.wire.past).generation n) from ∙ ap (λ (x : Terms). x.generation 0) (past_terms w stands) ∙ wire_generation w stands 0 (omega arith) in
    let own_is = t.current ∙ wire_generation w stands (suc i) (omega (arith, inside)) in
    omega (arith, seen, zero_is, own_is)

-- ---- a turn
module _ (placed : PlacedTurns) (stored : StoredTurns) (buffers : BufferTurns) where
  module _ (units ready : ℕ) (start : List Disk) (past : List Moment) (s : Scene) (later : List Moment) (t : Scene) {lines more : ℕ} (has : 0 < units) (g : Goes past s later t) (h : Holding units ready start past lines s.world) (h_now : Holding units ready start later more t.world) (q : With Held start (hist past s.world) s.world) (q_now : With Held start (hist later t.world) t.world) (p : AllLive Held start (hist past s.world) s.world) (i : ℕ) (inside : i < length s.world.initiators) (beside : IsCalmBeside (hist later t.world) i) where
    abbrev w : WorldState
    w = s.world

    abbrev v : WorldState
    v = t.world

    abbrev before : List Moment
    before = hist past w

    abbrev now : List Moment
    now = hist later v

    abbrev base : List Moment
    base = map said (base_of g) ++ later

    within : i < length v.initiators
    within = subst (λ n. i < n) (sym (goes_size past s later t g)) inside

    was_beside : IsCalmBeside before i
    was_beside = goes_beside past s later t g i beside

    abbrev c : IsCored before i (initiator_at w i)
    c = q.known.cored i inside

    abbrev c_now : IsCored now i (initiator_at v i)
    c_now = q_now.known.cored i within

    abbrev hands : Hands start i now
    hands = q_now.more.given.laws.hands i within beside.0

    abbrev was_grown : Grown start before w i
    was_grown = (p i inside).grown

    -- the login of the host stays while an operation is under way
    host_login : HostGoes (host_at before i) (host_at now i) → (running : Running) → (initiator_at v i).operation ≡ Some running → (host_at now i).login ≡ (host_at before i).login
    host_login goes running e =
        let a = at_host now i (initiator_at v i) running c_now.cored.core e in
        let k = goes.on a.u a.is in
        let u = q.more.given.underway i inside k.was k.is in
        let le : a.u.first ≤ (terms before).count = subst (λ n. n ≤ (terms before).count) k.first u.sent in
        let x = grown before now (goes_next past s later t g) in
        ((q_now.more.given.laws.lasts i within).was x.new before x.is a.u a.is le).login

    -- ---- the target is called
    module _ (told : TargetTold (base_of g) v.fresh) where
      abbrev N : List Moment
      N = map said told.sends ++ (map said told.told ++ (map said told.first ++ base))

      now_is : now ≡ N
      now_is = told_is (base_of g) v.fresh told later

      hands_there : Hands start i N
      hands_there = subst (λ ms. Hands start i ms) now_is hands

      opened : Begins start before base i
      opened =
          turn_begins start i past s later t g
          (hands_before start i told.first base (hands_before start i told.told (map said told.first ++ base) (hands_before start i told.sends (map said told.told ++ (map said told.first ++ base)) hands_there)))

      goes_told : HostGoes (host_at before i) (host_at now i)
      goes_told = subst (λ ms. HostGoes (host_at before i) (host_at ms i)) (sym now_is) (goes_on start before base i opened told.sends told.told told.first told.are_sent told.are_told told.one)

      -- a status block that waits did so before, or is one of an operation of the target, which is in the initiator's generation
      waits_told : (orb : ℕ) (bytes : List ℕ) → IsTold start now i orb bytes → IsTold start before i orb bytes ⊎ ((zero_of v ≡ own_of v i) × ((op : Managed) × (v.target.manager.operation ≡ Some op)))
      waits_told orb bytes x = by (waited start before base i opened told.sends told.told told.first told.are_sent told.are_told told.one hands_there orb bytes (subst (λ ms. IsTold start ms i orb bytes) now_is x))
        where
          by : Waited start before base i opened told.sends told.told told.first told.are_sent told.are_told told.one hands_there orb bytes → IsTold start before i orb bytes ⊎ ((zero_of v ≡ own_of v i) × ((op : Managed) × (v.target.manager.operation ≡ Some op)))
          by (told_before old) = inl old
          by (told_now serial place telling n orb_is bytes_are) = inr (
            sym (wire_generation v h_now.sound.stands 0 (omega arith)) ∙ subst (λ ms. (terms ms).generation 0 ≡ (terms ms).generation (suc i)) (sym now_is) n.same ∙ wire_generation v h_now.sound.stands (suc i) (omega (arith, within)),
            (n.op, ap (λ (m : Machine). m.operation) (sym h_now.at.agrees.manager) ∙ ap (λ ms. (target_at start ms).manager.operation) now_is ∙ n.is),
          )

    -- the number of the login, where an entry is under way
    numbered : HostGoes (host_at before i) (host_at now i) → (running : Running) → (initiator_at v i).operation ≡ Some running → (host_at now i).login.login ≡ (host_at before i).login.login
    numbered goes running e = ap (λ (r : LoginResponse). r.login) (host_login goes running e)

    abbrev own_number : ℕ
    own_number = (host_at before i).login.login

    abbrev Now : (id own : ℕ) → NodeState → InitiatorState → Type 0
    Now id own node x = Grants (IsActive start now i) (IsTold start now i) id own node.manager node.logins.places x

    -- as the target leaves it
    module _ (bus : SameBus i w v) (same : initiator_at v i ≡ initiator_at w i) (told : TargetTold (base_of g) v.fresh) (was : zero_of w ≡ own_of w i) where
      as_now : Now (id_in w i) own_number v.target (initiator_at w i) → GrantsOf start now v i
      as_now x =
          subst (λ id. Now id (host_at now i).login.login v.target (initiator_at v i)) (sym bus.id)
          (subst (λ (y : InitiatorState). ((running : Running) → y.operation ≡ Some running → (host_at now i).login.login ≡ own_number) → Now (id_in w i) (host_at now i).login.login v.target y) (sym same)
          (λ number. kept_grants (id_in w i) own_number (host_at now i).login.login (IsActive start now i) (IsActive start now i) (IsTold start now i) (IsTold start now i) v.target.manager v.target.logins.places (initiator_at w i) (initiator_at w i) x (λ op is of a. a) (λ orb bytes y. y) refl number (λ op is of a f running e. refl) (λ orb bytes y running e. refl))
          (numbered (goes_told told)))

      module _ (up : GaveUpOf w i → ⊥) where
        abbrev k : ToTarget start (base_of g) before now w v i
        k = target_turn units ready start past s later t has g h h_now q q_now p i inside beside placed was bus same told

        abbrev help : HelpsTarget start (base_of g) before now w v i
        help = helps_target units ready start w h (as_given q) i inside was_beside.0 (base_of g) now v (p i inside).lives was up k

        abbrev grants : GrantsOf start before w i
        grants = was_grown.grants was_beside was

        abbrev store : IsStored start (base_of g) before w v i
        store = stored units ready start past s later t _ _ has g h h_now q q_now p i inside beside was bus told

        taken : IsActive start before i → IsTaken start before i
        taken active = active_taken start before i (q.more.given.managed i inside was_beside.0) (λ x. up (gave_up c.ready before w i c.cored x)) active

        called : TargetCall w (base_of g) v.fresh v.target → Now (id_in w i) own_number v.target (initiator_at w i)
        called (still x y) =
            still_grants (id_in w i) own_number (IsActive start before i) (IsActive start now i) (IsTold start before i) (IsTold start now i) w.target v.target (initiator_at w i) grants help.back help.waits x
        called (delivers serial sent found zero_to run disks is y first) =
            let comes : Comes w (base_of g) v serial sent = record { found = found; to_is = zero_to; told = run; disks = disks; is = is; notes = y; first = first } in
            let d = help.delivery serial sent comes in
            let f = good units ready has start w h in
            let one : HasLogins w.target sent.generation sent.bytes v.target.logins = subst (λ (n : NodeState). HasLogins w.target sent.generation sent.bytes n.logins) (sym is) (delivery_logins w.target f (keeps units ready has start w h) sent.generation sent.bytes run disks) in
            let all : (op : Managed) → v.target.manager.operation ≡ Some op → HasOperation w.target sent.generation sent.bytes v.target op =
            subst (λ (n : NodeState). (op : Managed) → n.manager.operation ≡ Some op → HasOperation w.target sent.generation sent.bytes n op) (sym is) (λ op e. delivery_operation w.target f (keeps units ready has start w h) sent.generation sent.bytes run disks op e) in
            delivery_grants (id_in w i) own_number (IsActive start before i) (IsActive start now i) (IsTold start before i) (IsTold start now i) w.target v.target (initiator_at w i) grants help.back help.waits sent.generation sent.bytes f.table (good units ready has start v h_now).table
            (λ packet label at left x of.
            let z = k.placed x.was x.is of in
            let own = own_handled units ready start w h i inside was x.was x.is of z.place z.small z.orb (q.more.given.managed i inside was_beside.0) c.ready c.cored up x.unwritten in
            let u = own.taken.underway in
            let at_place = z.orb ∙ ap (λ n. start_of (windows.Management n)) own.place_is in
            let orb = k.brings serial sent comes packet label at left x of u own.taken.is own.taken.manages at_place in
            subst (λ o. IsEntry own_number (initiator_at w i) o) (sym orb)
            (entry_at c.ready before i (initiator_at w i) c.cored u own.taken.is own.taken.manages (q.more.given.underway i inside u own.taken.is) (k.short u own.taken.is own.taken.manages)))
            d.silent
            (λ op e of. (let z = k.placed op e of in (z.place, (z.small, z.orb))))
            (λ op fifo e of active phase packet label at failure running f login long. store.stored serial sent comes op fifo e of (taken active) phase packet label at failure running f login long)
            one all

      target_grants : TargetCall w (base_of g) v.fresh v.target → GrantsOf start now v i
      target_grants call = by (in_hand (initiator_at w i).operation) refl
        where
          by : (b : Bool) → in_hand (initiator_at w i).operation ≡ b → GrantsOf start now v i
          by true e = as_now (called (λ x. two_ways (in_hand (initiator_at w i).operation) e x.none) call)
          by false e = out_grants (id_in v i) (host_at now i).login.login (IsActive start now i) (IsTold start now i) v.target.manager v.target.logins.places (initiator_at v i) (ap (λ (x : InitiatorState). in_hand x.operation) same ∙ e)

    -- ---- the target is not called
    module _ (bus : SameBus i w v) (same_target : v.target ≡ w.target) (call : OwnCall w i (base_of g) v.fresh (initiator_at v i)) (away : TellsAway i w (base_of g) v) where
      ended : Ends (initiator_at w i) (initiator_at v i)
      ended = call_ends c.ready before w i c.cored (base_of g) v.fresh (initiator_at v i) call

      -- the operation stays
      module _ (same : (initiator_at v i).operation ≡ (initiator_at w i).operation) where
        kept_buffer : (GaveUpOf w i → ⊥) → KeepsBuffer start before w v i
        kept_buffer = buffers units ready start past s later t _ _ has g h h_now q q_now p i inside beside bus same_target away same

        carried_so : CarriedOf start before now w i
        carried_so = carried_on units ready start past s later t has g h h_now q q_now p i inside beside away same

        goes_own : (running : Running) → (initiator_at v i).operation ≡ Some running → HostGoes (host_at before i) (host_at now i)
        goes_own running e = own_host past s later t g i away running (sym same ∙ e)

        same_grants : zero_of w ≡ own_of w i → GrantsOf start now v i
        same_grants was = by (in_hand (initiator_at w i).operation) refl
          where
            by : (b : Bool) → in_hand (initiator_at w i).operation ≡ b → GrantsOf start now v i
            by true f =
                let k = carried_so in
                let b = kept_buffer (λ x. two_ways (in_hand (initiator_at w i).operation) f x.none) in
                subst (λ id. Now id (host_at now i).login.login v.target (initiator_at v i)) (sym bus.id)
                (subst (λ (n : NodeState). Now (id_in w i) (host_at now i).login.login n (initiator_at v i)) (sym same_target)
                (kept_grants (id_in w i) own_number (host_at now i).login.login (IsActive start before i) (IsActive start now i) (IsTold start before i) (IsTold start now i) w.target.manager w.target.logins.places (initiator_at w i) (initiator_at v i)
                (was_grown.grants was_beside was) k.back k.tells same (λ running e. numbered (goes_own running e) running e) (λ op is of active phase running e. b.status was op is of phase running e) b.told))
            by false f = out_grants (id_in v i) (host_at now i).login.login (IsActive start now i) (IsTold start now i) v.target.manager v.target.logins.places (initiator_at v i) (ap in_hand same ∙ f)

      idle_now : (initiator_at w i).operation ≡ None → is_stuck_seat (initiator_at v i).seat ≡ false → (op : Managed) → v.target.manager.operation ≡ Some op → op.source ≡ id_in v i → IsActive start now i → ⊥
      idle_now none free op is of active = active (begun_rest units ready start past s later t has g h h_now q q_now p i inside beside none free)

      silent_now : (initiator_at w i).operation ≡ None → is_stuck_seat (initiator_at v i).seat ≡ false → (orb : ℕ) (bytes : List ℕ) → IsTold start now i orb bytes → ⊥
      silent_now none free = begun_silent units ready start past s later t has g h h_now q q_now p i inside beside none free

      own_grants : Ends (initiator_at w i) (initiator_at v i) → zero_of w ≡ own_of w i → GrantsOf start now v i
      own_grants (same_end e) was = same_grants e was
      own_grants (none_end e) was = none_grants (id_in v i) (host_at now i).login.login (IsActive start now i) (IsTold start now i) v.target.manager v.target.logins.places (initiator_at v i) e
      own_grants (begun_end none free) was = idle_grants (id_in v i) (host_at now i).login.login (IsActive start now i) (IsTold start now i) v.target.manager v.target.logins.places (initiator_at v i) (idle_now none free) (silent_now none free)

    -- ---- the target sees a later generation: no operation is left, and what waits did so before, of a generation that it had seen
    module _ (x : IsCleared i w v) (told : TargetTold (base_of g) v.fresh) where
      old_told : (orb : ℕ) (bytes : List ℕ) → IsTold start now i orb bytes → IsTold start before i orb bytes
      old_told orb bytes y = by (waits_told told orb bytes y)
        where
          by : IsTold start before i orb bytes ⊎ ((zero_of v ≡ own_of v i) × ((op : Managed) × (v.target.manager.operation ≡ Some op))) → IsTold start before i orb bytes
          by (inl old) = old
          by (inr n) = absurd (x.none n.1.0 n.1.1)

      cleared_grants : zero_of v ≡ own_of v i → GrantsOf start now v i
      cleared_grants e =
          idle_grants (id_in v i) (host_at now i).login.login (IsActive start now i) (IsTold start now i) v.target.manager v.target.logins.places (initiator_at v i) (λ op is of active. x.none op is)
          (λ orb bytes y. let l = seen_told w h.sound.stands start i inside q.more.contents orb bytes (old_told orb bytes y) in let a = x.later in let b = x.own in absurd (omega (arith, l, a, b, e)))

    -- ---- any turn
    told_in : TargetCall w (base_of g) v.fresh v.target → TargetTold (base_of g) v.fresh
    told_in (delivers serial sent found zero_to run disks is y first) = y
    told_in (still x y) = y

    turn_grants : TurnOf i w (base_of g) v → zero_of v ≡ own_of v i → GrantsOf start now v i
    turn_grants (by_target bus same call) e = target_grants bus same (told_in call) (sym bus.zero ∙ e ∙ bus.own) call
    turn_grants (by_clearing x same told) e = cleared_grants x told e
    turn_grants (by_own bus same call away) e = own_grants bus same call away (ended bus same call away) (sym bus.zero ∙ e ∙ bus.own)
    turn_grants (by_sight x same away) e = none_grants (id_in v i) (host_at now i).login.login (IsActive start now i) (IsTold start now i) v.target.manager v.target.logins.places (initiator_at v i) x.reset.none

    -- ---- what a response says that a status of 00 waits for
    module _ (Old New : LoginResponse → Type 0) (on : (response : LoginResponse) → Old response → New response) (had : (orb : ℕ) (bytes : List ℕ) → IsTold start before i orb bytes → bytes ≡ good_block orb → (running : Running) → (initiator_at w i).operation ≡ Some running → running.operation ≡ operations.Login → Old (login_response (response_of running (initiator_at w i)))) (fresh : (response : LoginResponse) → Names v.target.logins.places (id_in v i) response → New response) where
      abbrev Buffered : InitiatorState → Type 0
      Buffered x = (orb : ℕ) (bytes : List ℕ) → IsTold start now i orb bytes → bytes ≡ good_block orb → (running : Running) → x.operation ≡ Some running → running.operation ≡ operations.Login → New (login_response (response_of running x))

      abbrev Its : Running → LoginResponse
      Its running = login_response (response_of running (initiator_at w i))

      same_buffer : (bus : SameBus i w v) (same_target : v.target ≡ w.target) (call : OwnCall w i (base_of g) v.fresh (initiator_at v i)) (away : TellsAway i w (base_of g) v) → (initiator_at v i).operation ≡ (initiator_at w i).operation → Buffered (initiator_at v i)
      same_buffer bus same_target call away same orb bytes x e running is login =
          let old = (carried_so bus same_target call away same).tells orb bytes x in
          subst (λ (xs : List ℕ). New (login_response xs)) (sym ((kept_buffer bus same_target call away same (λ x. no_entry (initiator_at w i) x.none running (sym same ∙ is) (ap is_management login))).told orb bytes old running is))
          (on (Its running) (had orb bytes old e running (sym same ∙ is) login))

      own_buffer : (bus : SameBus i w v) (same_target : v.target ≡ w.target) (call : OwnCall w i (base_of g) v.fresh (initiator_at v i)) (away : TellsAway i w (base_of g) v) → Ends (initiator_at w i) (initiator_at v i) → Buffered (initiator_at v i)
      own_buffer bus same_target call away (same_end f) orb bytes x e running is login = same_buffer bus same_target call away f orb bytes x e running is login
      own_buffer bus same_target call away (none_end f) orb bytes x e running is login = absurd (let no : None ≡ Some running = sym f ∙ is in cc)
      own_buffer bus same_target call away (begun_end none free) orb bytes x e running is login = absurd (silent_now bus same_target call away none free orb bytes x)

      stays_buffered : initiator_at v i ≡ initiator_at w i → (orb : ℕ) (bytes : List ℕ) → IsTold start before i orb bytes → bytes ≡ good_block orb → (running : Running) → (initiator_at v i).operation ≡ Some running → running.operation ≡ operations.Login → New (login_response (response_of running (initiator_at v i)))
      stays_buffered same orb bytes old e running is login =
          subst (λ (x : InitiatorState). New (login_response (response_of running x))) (sym same) (on (Its running) (had orb bytes old e running (sym (ap (λ (x : InitiatorState). x.operation) same) ∙ is) login))

      target_buffer : SameBus i w v → initiator_at v i ≡ initiator_at w i → TargetCall w (base_of g) v.fresh v.target → TargetTold (base_of g) v.fresh → Buffered (initiator_at v i)
      target_buffer bus same call told orb bytes x e running is login = by (waits_told told orb bytes x)
        where
          by : IsTold start before i orb bytes ⊎ ((zero_of v ≡ own_of v i) × ((op : Managed) × (v.target.manager.operation ≡ Some op))) → New (login_response (response_of running (initiator_at v i)))
          by (inl old) = stays_buffered same orb bytes old e running is login
          by (inr n) = fresh (login_response (response_of running (initiator_at v i))) (((target_grants bus same told (sym bus.zero ∙ n.0 ∙ bus.own) call).told orb bytes x e).logs_in running is login)

      pub turn_buffer : TurnOf i w (base_of g) v → Buffered (initiator_at v i)
      turn_buffer (by_target bus same call) = target_buffer bus same call (told_in call)
      turn_buffer (by_clearing x same told) = λ orb bytes y e running is login. stays_buffered same orb bytes (old_told x told orb bytes y) e running is login
      turn_buffer (by_own bus same call away) = own_buffer bus same call away (ended bus same call away)
      turn_buffer (by_sight x same away) = λ orb bytes y e running is login. absurd (let no : None ≡ Some running = sym x.reset.none ∙ is in cc)

    -- it has the base of the agent of a place
    now_buffered : TurnOf i w (base_of g) v → (orb : ℕ) (bytes : List ℕ) → IsTold start now i orb bytes → bytes ≡ good_block orb → (running : Running) → (initiator_at v i).operation ≡ Some running → running.operation ≡ operations.Login → HasBase (login_response (response_of running (initiator_at v i)))
    now_buffered = turn_buffer HasBase HasBase (λ response b. b) (was_grown.buffer was_beside) (λ response n. n.based)

    -- and names a login that the initiator's node had
    now_lives : (number : ℕ) → HasLogin v.target.logins.places (id_in v i) number → LivesWith start now i number
    now_lives number x = record {
      place = x.place;
      login = x.login;
      there = ap (λ (y : Table). place_at y.places x.place) h_now.at.agrees.table ∙ x.there;
      live = x.live;
      node = x.of_node ∙ sym (id_is units ready has start v h_now i within);
      own = x.own;
    }

    now_named : TurnOf i w (base_of g) v → (orb : ℕ) (bytes : List ℕ) → IsTold start now i orb bytes → bytes ≡ good_block orb → (running : Running) → (initiator_at v i).operation ≡ Some running → running.operation ≡ operations.Login → OwnBy start now i (login_response (response_of running (initiator_at v i))).login
    now_named =
        turn_buffer (λ response. OwnBy start before i response.login) (λ response. OwnBy start now i response.login) (λ response o. own_on start i response.login past s later t g o) (was_grown.named was_beside)
        (λ response n. inl (now_lives response.login n.has))

    -- ---- what waits for a logout
    abbrev Logged : InitiatorState → Type 0
    Logged x = (orb : ℕ) (bytes : List ℕ) → IsTold start now i orb bytes → (running : Running) → x.operation ≡ Some running → running.operation ≡ operations.Logout → bytes ≡ good_block orb

    old_logged : (orb : ℕ) (bytes : List ℕ) → IsTold start before i orb bytes → (running : Running) → (initiator_at w i).operation ≡ Some running → running.operation ≡ operations.Logout → bytes ≡ good_block orb
    old_logged = was_grown.logout was_beside

    module _ (lives : Lives start now v i) where
      says_so : zero_of v ≡ own_of v i → (orb : ℕ) (bytes : List ℕ) → IsTold start now i orb bytes → (running : Running) → (initiator_at v i).operation ≡ Some running → running.operation ≡ operations.Logout → bytes ≡ good_block orb
      says_so e orb bytes x running is logout = by (lives.claims beside e)
        where
          by : GaveUpOf v i ⊎ ClaimsOf start now v i → bytes ≡ good_block orb
          by (inl up) = no_entry (initiator_at v i) up.none running is (ap is_management logout)
          by (inr claims) = let at = lives.aims.exit (ap is_exit is ∙ ap quits logout) in (claims.pended orb bytes x).0.of_leaves at.0 at.1

      target_logged : (initiator_at v i).operation ≡ (initiator_at w i).operation → TargetTold (base_of g) v.fresh → Logged (initiator_at v i)
      target_logged same told orb bytes x running is logout = by (waits_told told orb bytes x)
        where
          by : IsTold start before i orb bytes ⊎ ((zero_of v ≡ own_of v i) × ((op : Managed) × (v.target.manager.operation ≡ Some op))) → bytes ≡ good_block orb
          by (inl old) = old_logged orb bytes old running (sym same ∙ is) logout
          by (inr n) = says_so n.0 orb bytes x running is logout

      own_logged : (bus : SameBus i w v) (same_target : v.target ≡ w.target) (call : OwnCall w i (base_of g) v.fresh (initiator_at v i)) (away : TellsAway i w (base_of g) v) → Ends (initiator_at w i) (initiator_at v i) → Logged (initiator_at v i)
      own_logged bus same call away (same_end f) orb bytes x running is logout = old_logged orb bytes ((carried_so bus same call away f).tells orb bytes x) running (sym f ∙ is) logout
      own_logged bus same call away (none_end f) orb bytes x running is logout = absurd (let no : None ≡ Some running = sym f ∙ is in cc)
      own_logged bus same call away (begun_end none free) orb bytes x running is logout = absurd (silent_now bus same call away none free orb bytes x)

      turn_logged : TurnOf i w (base_of g) v → Logged (initiator_at v i)
      turn_logged (by_target bus same call) = target_logged (ap (λ (x : InitiatorState). x.operation) same) (told_in call)
      turn_logged (by_clearing x same told) = target_logged (ap (λ (x : InitiatorState). x.operation) same) told
      turn_logged (by_own bus same call away) = own_logged bus same call away (ended bus same call away)
      turn_logged (by_sight x same away) = λ orb bytes y running is logout. absurd (let no : None ≡ Some running = sym x.reset.none ∙ is in cc)

  pub grown_by : GrownBy Held
  grown_by units ready start past s later t lines more has g h h_now q q_now p i inside lives =
      let turn = goes_turned units ready has start past s later t g h i inside in
      record {
        grants = λ beside e. turn_grants units ready start past s later t has g h h_now q q_now p i inside beside turn e;
        buffer = λ beside. now_buffered units ready start past s later t has g h h_now q q_now p i inside beside turn;
        named = λ beside. now_named units ready start past s later t has g h h_now q q_now p i inside beside turn;
        ours = λ beside. now_ours units ready start past s later t has g h h_now q q_now p i inside beside;
        owned = λ beside. now_owned units ready start past s later t has g h h_now q q_now p i inside beside;
        good = λ beside. now_good units ready start past s later t has g h h_now q q_now p i inside beside;
        based = λ beside. now_based units ready start past s later t has g h h_now q q_now p i inside beside;
        logout = λ beside. turn_logged units ready start past s later t has g h h_now q q_now p i inside beside lives turn;
        unbad = λ beside. now_unbad units ready start past s later t has g h h_now q q_now p i inside beside;
      }
