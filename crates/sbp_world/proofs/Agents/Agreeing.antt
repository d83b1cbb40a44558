-- After each turn of the target the terms have its registers enabled.
use Rattle.sbp_world.proofs.Words.Std.{arith, ◌≡◌, ◌∙◌, refl, sym, ap, subst, ℕ, ◌+◌, ◌<◌, ◌≤◌, not, nat_eq, nat_lt, is_some, Bool, true, false, cond, List, [], ◌∷◌, length, map, replicate, Option, Some, None, Result, Ok, Err, slice_index_or, slice_set, unwrap_or, get_or-map, nat_tests, common_steps, set_past, false≢true}
use Rattle.sbp_world.proofs.Words.Wire.{LabelParts, Packet, header_in, lock, lock_response, read_block, read_block_response, read_quadlet, read_quadlet_response, write_block, write_quadlet, write_response, reading, Node, as_sending, ReplyKind, Stale, Finding, Layer, expiring_step, judging_step, of_again, of_generation, of_grammar, of_label, of_request, of_response, seeing_step, reply_kind, Sent, found_sent, Holder, id_of, judged_note, holder_at, or_nobody, function_word, Access, access_of, Moment, said, Kind, part_of, request, Terms, begun_in, gets, ignores_that, terms, times_out, Cause, Judged, FunctionWord, empty_outbox}
use Rattle.sbp_world.proofs.Words.Target.{Login, Table, find, is_of_node, place_at, tick_step, Disk, Held, Told, Decision, Effect, ManagerStep, AgentAccess, Demand, demand_of, Desk, Purpose, alone, lets_expire, sees, ticks, disabled, new_desk, manage, managed_in, managed_with, NodeState, Scene, desk_at, login_at, scene, with_desk, answer_in, cleared_node, concluded, expired, expired_in, held_all, judged_scene, received, received_as, reset_by, seen, ticked, timed_out, with_layer, Whole, replied_to, scene_of, whole, cut_all, accessed_by, answered, enabled, is_barred, serve, served_as, start_operation}
use Rattle.sbp_world.proofs.Words.Initiator.{Nothing, Answer, Expired}
use Rattle.sbp_world.proofs.Words.Laws.{access_at, answered_at, id_for, Target, got_by, known_at, over, is_serial, place_on, laws_replied, request_got, reset_seen, target_at}
use Rattle.sbp_world.proofs.Words.World.{marked, whole_of, handed_out, told_seen, with_seen, holder, told_all, WorldState, with_note, with_target, Office, by_sides, enabled_by, AreLive, AreTermsOf, AreHeldAt}
use Rattle.std.proofs.lemmas.List.{length-set}
use Rattle.bus_transactions.proofs.PacketParts.{PartOf, asks, part_case, part_read, replies}
use Rattle.label_table.proofs.Owned.{set_at}
use Rattle.mgmt_agent.specs.declared.decision.Effect.TheVariants as effects
use Rattle.mgmt_agent.specs.Machine as management
use Rattle.sbp_journal.specs.declared.cause.Cause.TheVariants as ignored
use Rattle.sbp_journal.specs.declared.cause.Judged.TheVariants as judgements
use Rattle.sbp_journal.specs.declared.cause.CutCause.TheVariants as cuts
use Rattle.sbp_journal.specs.declared.note.Note.TheVariants as notes
use Rattle.sbp_laws.specs.Packets as laws
use Rattle.target_base.specs.declared.address.Access.TheVariants as accesses
use Rattle.target_base.specs.declared.address.Demand.TheVariants as demands
use Rattle.sbp_target.specs.declared.purpose.Purpose.TheVariants as purposes
use Rattle.sbp_target.specs.Serving.{request_step}
use Rattle.sbp_world.proofs.Wire.Bus.{aged, holds}
use Rattle.sbp_world.proofs.Wire.Nodes.{handed_alike, marked_alike}
use Rattle.sbp_target.proofs.Histories.Calling.{Good}
use Rattle.sbp_target.proofs.Histories.Found.{IsFound, found as found_in}
use Rattle.sbp_world.proofs.Agents.Management.Firsts.{got_here, wire_is}
use Rattle.sbp_world.proofs.Agents.Management.Hearing.{answers_none}
use Rattle.sbp_world.proofs.Agents.Management.Holding.{Holding, good_of, marked_hist, target_generation, was_sent}
use Rattle.sbp_world.proofs.Agents.Management.Still.{gets_clock, hist, ignores_still, lapses_clock}
use Rattle.sbp_world.proofs.Agents.Management.Places.{AreApart, sound_apart}
use Rattle.sbp_world.proofs.Agents.Management.Told.{all_sides, office_in, term_in}
use Rattle.sbp_world.proofs.Agents.Ceasing.{AreExpiring, AreMute, IsFree, cuts_all, expired_ends, expired_tell, expiring_disable, held_tell, keeping, manager_ends, manager_logins, manager_tells, mute_keeps, muted, start_tells}
use Rattle.sbp_world.proofs.Agents.Demands.{demands_law}
use Rattle.sbp_world.proofs.Agents.Disabling.{AreDisabling, Keeps, all_behind, all_length, all_disabled, all_still, enabled_in, over_same, reply_keeps, request_table, sides_disabled, wire_in}
use Rattle.sbp_world.proofs.Agents.Enabling.{all_live}
use Rattle.sbp_world.proofs.Agents.Heeding.{Heeds, Hears, accesses_by, all_off, answers, begins, enables, lapses, replies as agent_replies, same_registers}
use Rattle.sbp_world.proofs.Agents.Hiring.{HiresIn, reply_hires}
use Rattle.sbp_world.proofs.Agents.Holders.{are_held}
use Rattle.sbp_world.proofs.Agents.Seats.{Seats, marked_same}
use Rattle.sbp_world.proofs.Agents.Serves.{start_keeps}
use Rattle.sbp_world.proofs.Agents.Sparing.{Spares, reply_spares}
use Rattle.sbp_world.proofs.Agents.Using.{faces_itself, sides_face, sides_off}
use Rattle.sbp_world.proofs.Lists.TakenTerms.{response_access}
use Rattle.sbp_world.proofs.Hosts.Knows.{seen_flag, seen_test}

-- the ID of a node, where the generation of the target and its IDs are the same
same_ids : (t u : Terms) → u.generation 0 ≡ t.generation 0 → ((n : ℕ) → u.ids (t.generation 0) n ≡ t.ids (t.generation 0) n) → (n : ℕ) → id_for u 0 n ≡ id_for t 0 n
same_ids t u g ids n = ap (λ x. u.ids x n) g ∙ ids n

-- ---- what a packet that is got asks for
record HasAccess (p : Packet) : Type 0 where
  access : Access
  is : access_of p ≡ Some access

asks_access : (p : Packet) → not (is_some (reply_kind p)) ≡ true → HasAccess p
asks_access (write_quadlet header offset value) e = record { access = record { is_lock = false; is_write = true; is_block = false; offset = offset; count = 4; payload = [] }; is = refl }
asks_access (write_block header offset payload) e = record { access = record { is_lock = false; is_write = true; is_block = true; offset = offset; count = length payload; payload = payload }; is = refl }
asks_access (write_response header rcode) e = absurd (false≢true e)
asks_access (read_quadlet header offset) e = record { access = record { is_lock = false; is_write = false; is_block = false; offset = offset; count = 4; payload = [] }; is = refl }
asks_access (read_block header offset asked) e = record { access = record { is_lock = false; is_write = false; is_block = true; offset = offset; count = asked; payload = [] }; is = refl }
asks_access (read_quadlet_response header rcode value) e = absurd (false≢true e)
asks_access (read_block_response header rcode payload) e = absurd (false≢true e)
asks_access (lock header offset extended payload) e = record { access = record { is_lock = true; is_write = false; is_block = true; offset = offset; count = length payload; payload = [] }; is = refl }
asks_access (lock_response header rcode extended payload) e = absurd (false≢true e)

record Part (bytes : List ℕ) : Type 0 where
  label : ℕ
  kind : Kind
  is : part_of bytes ≡ request label kind

asks_part : (bytes : List ℕ) (p : Packet) → reading bytes ≡ Ok p → not (is_some (reply_kind p)) ≡ true → Part bytes
asks_part bytes p read e = by (part_case p)
  where
    by : PartOf p → Part bytes
    by (asks l k part none) = record { label = l; kind = k; is = part_read bytes p read ∙ part }
    by (replies l k part some) = absurd (false≢true (sym (ap (λ (o : Option ReplyKind). not (is_some o)) some) ∙ e))

-- ---- one register is enabled in a list of eight
on_at : (xs : List Bool) (place other : ℕ) → length xs ≡ 8 → other < 8 → slice_index_or (slice_set xs place true) other false ≡ cond (nat_eq other place) true (slice_index_or xs other false)
on_at xs place other size small = by (nat_lt place (length xs)) refl
  where
    beyond : length xs ≤ place → nat_eq other place ≡ false
    beyond l = grind (arith, nat_tests)

    by : (b : Bool) → nat_lt place (length xs) ≡ b → slice_index_or (slice_set xs place true) other false ≡ cond (nat_eq other place) true (slice_index_or xs other false)
    by true e = let below : place < length xs = grind (arith, nat_tests) in set_at xs place other true false below
    by false e =
        let past : length xs ≤ place = grind (arith, nat_tests) in
        ap (λ ys. slice_index_or ys other false) (set_past xs place true past) ∙ sym (ap (λ b. cond b true (slice_index_or xs other false)) (beyond past))

enables_at : (node : NodeState) (place other : ℕ) → length node.desks ≡ 8 → other < 8 → (desk_at (with_desk node place (record (desk_at node place) { is_enabled = true })) other).is_enabled ≡ cond (nat_eq other place) true (desk_at node other).is_enabled
enables_at node place other size small = by (nat_lt place (length node.desks)) refl
  where
    beyond : length node.desks ≤ place → nat_eq other place ≡ false
    beyond l = grind (arith, nat_tests)

    by : (b : Bool) → nat_lt place (length node.desks) ≡ b → (desk_at (with_desk node place (record (desk_at node place) { is_enabled = true })) other).is_enabled ≡ cond (nat_eq other place) true (desk_at node other).is_enabled
    by true e = enables node place (grind (arith, nat_tests)) other
    by false e =
        let past : length node.desks ≤ place = grind (arith, nat_tests) in
        (same_registers node (with_desk node place (record (desk_at node place) { is_enabled = true })) (set_past node.desks place (record (desk_at node place) { is_enabled = true }) past)).each other
        ∙ sym (ap (λ b. cond b true (desk_at node other).is_enabled) (beyond past))

-- ---- the world that a turn begins in
module _ (units ready : ℕ) (has : 0 < units) (start : List Disk) {past : List Moment} {lines : ℕ} (w : WorldState) (h : Holding units ready start past lines w) (seats : Seats w) (agree : AreTermsOf (enabled_in start past w) w.target) where
  abbrev t : Terms
  t = terms (hist past w)

  abbrev T : Target
  T = target_at start (hist past w)

  abbrev logins : List (Option Login)
  logins = w.target.logins.places

  abbrev before : ℕ → Bool
  before place = (desk_at w.target place).is_enabled

  g : Good w.target
  g = good_of units ready h.calls w.target has h.made

  held : AreHeldAt start (hist past w) w
  held = are_held units ready has start w h seats

  pub was_live : AreLive w.target
  was_live = subst AreLive h.made (all_live units ready has h.calls)

  -- behind its first note: the same logins, nodes and places
  pub record First (v : WorldState) : Type 0 where
    pub table : (term_in start past v).table ≡ T.table
    pub ids : (n : ℕ) → id_for (wire_in start past v) 0 n ≡ id_for t 0 n
    pub places : v.places ≡ w.places

  -- the terms find each live login
  finds : (v : WorldState) → First v → (unit place : ℕ) → Hears unit logins place → place_on (term_in start past v) unit (id_for (wire_in start past v) 0 ((holder v place).initiator + 1)) ≡ place
  finds v f unit place i =
      let l = held.held place i.login i.is in
      let of = l.live i.live in
      let initiator_is : (holder v place).initiator ≡ l.holder.initiator = ap (λ (ps : List (Option Holder)). (holder_at ps place).initiator) f.places ∙ ap (λ (x : Option Holder). (or_nobody x).initiator) l.there in
      let at : Table → ℕ → ℕ → ℕ = λ (x : Table) u id. unwrap_or (find (is_of_node u id) x.places) 8 in
      ap (λ (x : Table). at x unit (id_for (wire_in start past v) 0 ((holder v place).initiator + 1))) f.table
      ∙ ap (at T.table unit) (f.ids ((holder v place).initiator + 1) ∙ ap (λ n. id_for t 0 (n + 1)) initiator_is)
      ∙ ap (λ u. at T.table u (id_for t 0 (l.holder.initiator + 1))) (sym i.unit_is)
      ∙ of.place_is

  its_unit : (place : ℕ) (login : Login) → login_at w.target place ≡ Some login → login.unit ≡ (holder w place).unit
  its_unit place login e =
      let l = held.held place login e in
      sym l.unit_is ∙ sym (ap (λ (x : Option Holder). (or_nobody x).unit) l.there)

  -- ---- a turn of an agent
  pub agent_turn : (q : ℕ) (v : WorldState) (x : Scene) (first : ℕ → Bool) → v.target ≡ x.node → First v → length (enabled_in start past v) ≡ 8 → ((place : ℕ) → place < 8 → slice_index_or (enabled_in start past v) place false ≡ first place) → Heeds q (holder w q).unit logins first false x → (let now = handed_out 0 0 x.outbox v in AreTermsOf (enabled_in start past now) now.target)
  agent_turn q v x first target_is f size same c =
      let now = handed_out 0 0 x.outbox v in
      let unit = (holder w q).unit in
      let unit_is : (holder v q).unit ≡ unit = ap (λ (ps : List (Option Holder)). (holder_at ps q).unit) f.places in
      let told_world = told_all 0 x.outbox.sides v in
      let sent : enabled_in start past now ≡ enabled_in start past told_world = (all_still start past 0 x.outbox.packets told_world).enabled in
      let here = faces_itself start past q unit logins v (finds v f unit) unit_is size in
      record {
        size = ap length sent ∙ sides_face start past q unit logins v (finds v f unit) unit_is x.outbox.sides v false c.heard here;
        each = λ place small.
            ap (λ xs. slice_index_or xs place false) sent
            ∙ sides_off start past q unit logins v (finds v f unit) unit_is x.outbox.sides v false c.heard here place small
            ∙ ap (all_off x.outbox.sides place) (same place small)
            ∙ sym (c.registers place)
            ∙ sym (ap (λ (n : NodeState). (desk_at n place).is_enabled) ((handed_alike 0 0 x.outbox v).target ∙ target_is));
      }

  -- where the registers are as before
  quiet_turn : (q : ℕ) (v : WorldState) (x : Scene) → v.target ≡ x.node → First v → enabled_in start past v ≡ enabled_in start past w → Heeds q (holder w q).unit logins before false x → (let now = handed_out 0 0 x.outbox v in AreTermsOf (enabled_in start past now) now.target)
  quiet_turn q v x target_is f same c =
      agent_turn q v x before target_is f (ap length same ∙ agree.size) (λ place small. ap (λ xs. slice_index_or xs place false) same ∙ agree.each place small) c

  -- a node with these desks and logins
  at_first : (q : ℕ) (node : NodeState) → node.desks ≡ w.target.desks → node.logins.places ≡ logins → Heeds q (holder w q).unit logins before false (scene node empty_outbox)
  at_first q node d l = begins q (holder w q).unit logins before node (same_registers w.target node d).each l

  -- ---- the first notes
  abbrev wire_of : Terms
  wire_of = (known_at start (hist past w)).wire

  module _ (serial : ℕ) (again : Bool) where
    abbrev noted_world : Judged → NodeState → WorldState
    noted_world judged now = with_note (judged_note serial judged) (marked serial again (with_target now w))

    noted_hist : (judged : Judged) (now : NodeState) → hist past (noted_world judged now) ≡ said (judged_note serial judged) ∷ hist past w
    noted_hist judged now = ap (λ ms. said (judged_note serial judged) ∷ ms) (marked_hist past serial again (with_target now w))

    noted_places : (judged : Judged) (now : NodeState) → (noted_world judged now).places ≡ w.places
    noted_places judged now = marked_same serial again (with_target now w)

    noted_target : (judged : Judged) (now : NodeState) → (noted_world judged now).target ≡ now
    noted_target judged now = (marked_alike (with_target now w) serial again).target

    -- what is ignored
    ignored_first : (cause : Cause) (now : NodeState) → First (noted_world (judgements.Ignored cause) now)
    ignored_first cause now =
        let e = noted_hist (judgements.Ignored cause) now in
        let u = ignores_that (t.sent serial) cause serial t in
        let s = ignores_still (t.sent serial) cause serial t in
        record {
          table = ap (λ ms. (target_at start ms).table) e ∙ (over_same T).table;
          ids = λ n.
              ap (λ ms. id_for (known_at start ms).wire 0 n) e
              ∙ ap (λ (x : Terms). id_for (ignores_that (x.sent serial) cause serial x) 0 n) (wire_is start (hist past w))
              ∙ same_ids t u s.generation s.ids n;
          places = noted_places (judgements.Ignored cause) now;
        }

    ignored_enabled : (cause : Cause) (now : NodeState) → enabled_in start past (noted_world (judgements.Ignored cause) now) ≡ enabled_in start past w
    ignored_enabled cause now = ap (λ ms. (target_at start ms).enabled) (noted_hist (judgements.Ignored cause) now) ∙ (over_same T).enabled

    -- what is got
    got_ids : (now : NodeState) (n : ℕ) → id_for (wire_in start past (noted_world judgements.Got now)) 0 n ≡ id_for t 0 n
    got_ids now n =
        let u = gets (t.sent serial) serial t in
        let c = gets_clock (t.sent serial) serial t in
        ap (λ ms. id_for (known_at start ms).wire 0 n) (noted_hist judgements.Got now)
        ∙ ap (λ (x : Terms). id_for (gets (x.sent serial) serial x) 0 n) (wire_is start (hist past w))
        ∙ same_ids t u c.generation c.ids n

    module _ (sent : Sent) (found : found_sent serial w.store.kept ≡ Some sent) (zero_to : sent.to ≡ 0) where
      was : t.sent serial ≡ Some (as_sending sent)
      was = was_sent w h.sound.stands serial sent found

      got_is : (now : NodeState) → term_in start past (noted_world judgements.Got now) ≡ got_by (answered_at t serial) t serial (over T)
      got_is now = ap (target_at start) (noted_hist judgements.Got now) ∙ got_here start (hist past w) serial (as_sending sent) was zero_to

      module _ (p : Packet) (read : reading sent.bytes ≡ Ok p) where
        access_is : access_at t serial ≡ access_of p
        access_is = ap (λ so. laws.access_in (laws.packet_in so)) was ∙ ap (λ r. laws.access_in (laws.spelled_by r)) read

        -- a response changes neither registers nor logins
        response_by : is_some (reply_kind p) ≡ true → (o : Option ℕ) → Keeps (over T) (got_by o t serial (over T))
        response_by some (Some own) = reply_keeps own (laws.answer_in (laws.packet_at t serial)) (over T)
        response_by some None =
            let none : access_at t serial ≡ None = access_is ∙ response_access p some in
            record {
              enabled = ap (λ a. (request_got a (id_for t 0 (unwrap_or (laws.sender_in (t.sent serial)) 0)) (over T)).enabled) none;
              table = ap (λ a. (request_got a (id_for t 0 (unwrap_or (laws.sender_in (t.sent serial)) 0)) (over T)).table) none;
            }

        response_keeps : is_some (reply_kind p) ≡ true → (now : NodeState) → Keeps T (term_in start past (noted_world judgements.Got now))
        response_keeps some now =
            let k = response_by some (answered_at t serial) in
            let o = over_same T in
            record {
              enabled = ap (λ (x : Target). x.enabled) (got_is now) ∙ k.enabled ∙ o.enabled;
              table = ap (λ (x : Target). x.table) (got_is now) ∙ k.table ∙ o.table;
            }

        response_first : is_some (reply_kind p) ≡ true → (now : NodeState) → First (noted_world judgements.Got now)
        response_first some now = record { table = (response_keeps some now).table; ids = got_ids now; places = noted_places judgements.Got now }

        -- a request is for a register or another address
        request_is : not (is_some (reply_kind p)) ≡ true → (now : NodeState) → term_in start past (noted_world judgements.Got now) ≡ request_got (access_of p) (id_for t 0 (unwrap_or (laws.sender_in (t.sent serial)) 0)) (over T)
        request_is asking now =
            let part = asks_part sent.bytes p read asking in
            got_is now
            ∙ ap (λ o. got_by o t serial (over T)) (answers_none t serial (as_sending sent) part.label part.kind was part.is)
            ∙ ap (λ a. request_got a (id_for t 0 (unwrap_or (laws.sender_in (t.sent serial)) 0)) (over T)) access_is

        request_first : not (is_some (reply_kind p)) ≡ true → (now : NodeState) → First (noted_world judgements.Got now)
        request_first asking now = record {
          table = ap (λ (x : Target). x.table) (request_is asking now) ∙ request_table (access_of p) (id_for t 0 (unwrap_or (laws.sender_in (t.sent serial)) 0)) (over T) ∙ (over_same T).table;
          ids = got_ids now;
          places = noted_places judgements.Got now;
        }

        request_enabled : not (is_some (reply_kind p)) ≡ true → (now : NodeState) → enabled_in start past (noted_world judgements.Got now) ≡ enabled_by (demand_of (length w.target.rom) p) (enabled_in start past w)
        request_enabled asking now =
            let a = asks_access p asking in
            let source = id_for t 0 (unwrap_or (laws.sender_in (t.sent serial)) 0) in
            ap (λ (x : Target). x.enabled) (request_is asking now)
            ∙ ap (λ o. (request_got o source (over T)).enabled) a.is
            ∙ demands_law.registers (length w.target.rom) p a.access source (over T) h.rom a.is
            ∙ ap (enabled_by (demand_of (length w.target.rom) p)) (over_same T).enabled

  -- ---- a time-out
  module _ (serial : ℕ) where
    abbrev lapsed_world : NodeState → WorldState
    lapsed_world now = with_note (notes.TimedOut serial) (with_target now w)

    lapsed_by : (b : Bool) → Keeps (over T) (cond b (laws_replied serial Expired (over T)) (over T))
    lapsed_by true = reply_keeps serial Expired (over T)
    lapsed_by false = record { enabled = refl; table = refl }

    lapse_keeps : (now : NodeState) → Keeps T (term_in start past (lapsed_world now))
    lapse_keeps now =
        let k = lapsed_by (is_serial (laws.sender_in (wire_of.sent serial)) 0) in
        let o = over_same T in
        record { enabled = k.enabled ∙ o.enabled; table = k.table ∙ o.table }

    lapse_first : (now : NodeState) → First (lapsed_world now)
    lapse_first now =
        let c = lapses_clock (begun_in (t.sent serial)) t in
        record {
          table = (lapse_keeps now).table;
          ids = λ n.
              ap (λ (x : Terms). id_for (times_out (begun_in (x.sent serial)) x) 0 n) (wire_is start (hist past w))
              ∙ same_ids t (times_out (begun_in (t.sent serial)) t) c.generation c.ids n;
          places = refl;
        }

  -- ---- a turn in which logins leave
  disabling_turn : (v : WorldState) (x : Scene) → v.target ≡ x.node → AreDisabling x.outbox.sides → length (enabled_in start past v) ≡ 8 → ((place : ℕ) → place < 8 → slice_index_or (all_disabled x.outbox.sides (office_in start past v) (enabled_in start past v)) place false ≡ (desk_at x.node place).is_enabled) → (let now = handed_out 0 0 x.outbox v in AreTermsOf (enabled_in start past now) now.target)
  disabling_turn v x target_is d size ends =
      let now = handed_out 0 0 x.outbox v in
      let told_world = told_all 0 x.outbox.sides v in
      let is : enabled_in start past now ≡ all_disabled x.outbox.sides (office_in start past v) (enabled_in start past v) =
      (all_still start past 0 x.outbox.packets told_world).enabled ∙ sides_disabled start past 0 x.outbox.sides v d in
      record {
        size = ap length is ∙ all_length x.outbox.sides (office_in start past v) (enabled_in start past v) ∙ size;
        each = λ place small.
            ap (λ xs. slice_index_or xs place false) is ∙ ends place small
            ∙ sym (ap (λ (n : NodeState). (desk_at n place).is_enabled) ((handed_alike 0 0 x.outbox v).target ∙ target_is));
      }

  -- ---- the management operation
  free_of : (word : FunctionWord) (first : Office) (status login : ℕ) (effect : Effect) → HiresIn word w.target.logins first status login effect → IsFree logins effect
  free_of word first status login effects.Nothing i = tt
  free_of word first status login (effects.Entered place replaced) i = i.free
  free_of word first status login (effects.Back place) i = tt
  free_of word first status login (effects.Left place) i = tt
  free_of word first status login (effects.Abort place orb) i = tt
  free_of word first status login (effects.AbortSet place) i = tt
  free_of word first status login (effects.UnitReset unit) i = tt
  free_of word first status login effects.TargetReset i = tt

  reply_free : (answer : Answer) (d : Decision) → (management.reply_step w.target.manager w.target.logins w.target.keys answer).0.decided ≡ Some d → IsFree logins (management.reply_step w.target.manager w.target.logins w.target.keys answer).0.effect
  reply_free answer d e =
      let r = management.reply_step w.target.manager w.target.logins w.target.keys answer in
      let hires = reply_hires w.target.logins g.table.sound w.target.manager w.target.keys answer in
      let on = (hires.brings d e).0 in
      let first : Office = record { table = w.target.logins; keys = w.target.keys; manager = w.target.manager; manages = None; asks = Nothing; decided = Some on } in
      free_of (function_word d.function) first d.status d.login r.0.effect (hires.hires d e first on refl refl)

  module _ (layer : Layer Purpose) (v : WorldState) (f : First v) (same : enabled_in start past v ≡ enabled_in start past w) where
    apart : AreApart logins
    apart = sound_apart logins g.table.sound

    table_is : (office_in start past v).table ≡ w.target.logins
    table_is = f.table ∙ h.at.agrees.table

    size_is : length (enabled_in start past v) ≡ 8
    size_is = ap length same ∙ agree.size

    each_is : (place : ℕ) → place < 8 → slice_index_or (enabled_in start past v) place false ≡ (desk_at w.target place).is_enabled
    each_is place small = ap (λ xs. slice_index_or xs place false) same ∙ agree.each place small

    abbrev begun : Scene
    begun = scene (record w.target { layer = layer }) empty_outbox

    with_turn : (source : ℕ) (r : ManagerStep × (management.Machine × Table)) → Spares r.0.effect w.target.logins r.1.1 → ((d : Decision) → r.0.decided ≡ Some d → IsFree logins r.0.effect) → (let x = managed_with source begun r in v.target ≡ x.node → (more : ℕ) → Holding units ready start past more (handed_out 0 0 x.outbox v) → AreTermsOf (enabled_in start past (handed_out 0 0 x.outbox v)) (handed_out 0 0 x.outbox v).target)
    with_turn source (step, (m, new)) spares free target_is more later =
        let x = managed_with source begun (step, (m, new)) in
        let o = office_in start past v in
        let E = enabled_in start past v in
        let told_world = told_all 0 x.outbox.sides v in
        let now = handed_out 0 0 x.outbox v in
        let tells = manager_tells w.target was_live apart o table_is E size_is each_is layer source step m new spares free in
        let logins_are = manager_logins w.target was_live apart o table_is E size_is each_is layer source step m new spares free in
        let final : (by_sides x.outbox.sides o).table ≡ new =
        ap (λ (y : Office). y.table) (sym (all_sides start past 0 x.outbox.sides v (all_behind start past x.outbox.sides tells)))
        ∙ sym (all_still start past 0 x.outbox.packets told_world).table
        ∙ later.at.agrees.table
        ∙ ap (λ (n : NodeState). n.logins) ((handed_alike 0 0 x.outbox v).target ∙ target_is)
        ∙ logins_are in
        disabling_turn v x target_is tells size_is (manager_ends w.target was_live apart o table_is E size_is each_is layer source step m new spares free final)

    manager_turn : (answer : Answer) → (let x = manage answer begun in v.target ≡ x.node → (more : ℕ) → Holding units ready start past more (handed_out 0 0 x.outbox v) → AreTermsOf (enabled_in start past (handed_out 0 0 x.outbox v)) (handed_out 0 0 x.outbox v).target)
    unfolding manage
    manager_turn answer = by (management.source_in w.target.manager.operation)
      where
        by : (source : Option ℕ) → (let x = managed_in source answer begun in v.target ≡ x.node → (more : ℕ) → Holding units ready start past more (handed_out 0 0 x.outbox v) → AreTermsOf (enabled_in start past (handed_out 0 0 x.outbox v)) (handed_out 0 0 x.outbox v).target)
        by None target_is more later = quiet_turn 0 v begun target_is f same (at_first 0 (record w.target { layer = layer }) refl refl)
        by (Some source) target_is more later =
            with_turn source (management.reply_step w.target.manager w.target.logins w.target.keys answer) (reply_spares w.target.logins w.target.manager w.target.keys answer) (reply_free answer) target_is more later

  -- ---- an agent's reply
  agent_reply : (run : Option Told) (place peer : ℕ) (label : LabelParts) (answer : Answer) (disks : List Disk) (layer : Layer Purpose) → Heeds place (holder w place).unit logins before false (scene_of (replied_to run place peer label answer (whole (scene (record w.target { layer = layer }) empty_outbox) disks)))
  agent_reply run place peer label answer disks layer =
      agent_replies place (holder w place).unit logins before run peer label answer (whole (scene (record w.target { layer = layer }) empty_outbox) disks) (λ x e. its_unit place x e) (at_first place (record w.target { layer = layer }) refl refl)

  -- ---- a delivery
  module _ (serial : ℕ) (again : Bool) (sent : Sent) (found : found_sent serial w.store.kept ≡ Some sent) (zero_to : sent.to ≡ 0) where
    abbrev Ends : Judged × Whole → Type 0
    Ends r = (more : ℕ) → (let now = handed_out 0 0 r.1.outbox (noted_world serial again r.0 r.1.node) in Holding units ready start past more now → AreTermsOf (enabled_in start past now) now.target)

    ignores : (cause : Cause) (x : Whole) → Heeds 0 (holder w 0).unit logins before false (scene x.node x.outbox) → Ends (judgements.Ignored cause, x)
    ignores cause x c more later =
        let v = noted_world serial again (judgements.Ignored cause) x.node in
        quiet_turn 0 v (scene x.node x.outbox) (noted_target serial again (judgements.Ignored cause) x.node) (ignored_first serial again cause x.node) (ignored_enabled serial again cause x.node) c

    answer_heeds : (q : ℕ) (p : Packet) (bytes : List ℕ) (rcode : ℕ) (given : List ℕ) (layer : Layer Purpose) → Heeds q (holder w q).unit logins before false (answered p bytes rcode given (scene (record w.target { layer = layer }) empty_outbox))
    answer_heeds q p bytes rcode given layer =
        answers q (holder w q).unit logins before false p bytes rcode given (scene (record w.target { layer = layer }) empty_outbox) (at_first q (record w.target { layer = layer }) refl refl)

    concludes : (run : Option Told) (p : Packet) (read : reading sent.bytes ≡ Ok p) (some : is_some (reply_kind p) ≡ true) (label : LabelParts) (disks : List Disk) (layer : Layer Purpose) (purpose : Option Purpose) → Ends (judgements.Got, concluded run purpose (header_in p).source label (answer_in p) (whole (scene (record w.target { layer = layer }) empty_outbox) disks))
    unfolding concluded
    concludes run p read some label disks layer purpose = by purpose
      where
        quiet : (q : ℕ) (x : Whole) → Heeds q (holder w q).unit logins before false (scene x.node x.outbox) → Ends (judgements.Got, x)
        quiet q x c more later =
            quiet_turn q (noted_world serial again judgements.Got x.node) (scene x.node x.outbox) (noted_target serial again judgements.Got x.node)
            (response_first serial again sent found zero_to p read some x.node) ((response_keeps serial again sent found zero_to p read some x.node).enabled) c

        by : (purpose : Option Purpose) → Ends (judgements.Got, concluded run purpose (header_in p).source label (answer_in p) (whole (scene (record w.target { layer = layer }) empty_outbox) disks))
        by None = quiet 0 (whole (scene (record w.target { layer = layer }) empty_outbox) disks) (at_first 0 (record w.target { layer = layer }) refl refl)
        by (Some (purposes.Agent place)) =
            quiet place (replied_to run place (header_in p).source label (answer_in p) (whole (scene (record w.target { layer = layer }) empty_outbox) disks)) (agent_reply run place (header_in p).source label (answer_in p) disks layer)
        by (Some purposes.Management) = λ more later.
            let x = manage (answer_in p) (scene (record w.target { layer = layer }) empty_outbox) in
            let v = noted_world serial again judgements.Got x.node in
            manager_turn layer v (response_first serial again sent found zero_to p read some x.node) ((response_keeps serial again sent found zero_to p read some x.node).enabled) (answer_in p) (noted_target serial again judgements.Got x.node) more later
        by (Some purposes.Unsolicited) =
            quiet 0 (concluded run (Some purposes.Unsolicited) (header_in p).source label (answer_in p) (whole (scene (record w.target { layer = layer }) empty_outbox) disks))
            (let c = at_first 0 (record w.target { layer = layer }) refl refl in record { registers = c.registers; heard = c.heard; has_run = c.has_run; logins = c.logins })

    -- ---- a request
    module _ (p : Packet) (read : reading sent.bytes ≡ Ok p) (asking : not (is_some (reply_kind p)) ≡ true) (disks : List Disk) (layer : Layer Purpose) where
      abbrev asked_scene : Scene
      asked_scene = scene (record w.target { layer = layer }) empty_outbox

      abbrev Serves : Scene → Type 0
      Serves s = Ends (judgements.Got, whole s disks)

      -- no register is asked to be enabled
      serves : (q : ℕ) (s : Scene) → enabled_by (demand_of (length w.target.rom) p) (enabled_in start past w) ≡ enabled_in start past w → Heeds q (holder w q).unit logins before false s → Serves s
      serves q s same c more later =
          quiet_turn q (noted_world serial again judgements.Got s.node) s (noted_target serial again judgements.Got s.node) (request_first serial again sent found zero_to p read asking s.node)
          (request_enabled serial again sent found zero_to p read asking s.node ∙ same) c

      enables_one : (place : ℕ) → enabled_by (demand_of (length w.target.rom) p) (enabled_in start past w) ≡ slice_set (enabled_in start past w) place true → Serves (answered p sent.bytes 0 [] (enabled place asked_scene))
      enables_one place same more later =
          let s = answered p sent.bytes 0 [] (enabled place asked_scene) in
          let v = noted_world serial again judgements.Got s.node in
          let first : ℕ → Bool = λ other. (desk_at (enabled place asked_scene).node other).is_enabled in
          let is : enabled_in start past v ≡ slice_set (enabled_in start past w) place true = request_enabled serial again sent found zero_to p read asking s.node ∙ same in
          agent_turn place v s first (noted_target serial again judgements.Got s.node) (request_first serial again sent found zero_to p read asking s.node)
          (ap length is ∙ length-set (enabled_in start past w) place true ∙ agree.size)
          (λ other small.
          ap (λ xs. slice_index_or xs other false) is ∙ on_at (enabled_in start past w) place other agree.size small
          ∙ ap (λ b. cond (nat_eq other place) true b) (agree.each other small) ∙ sym (enables_at asked_scene.node place other g.mid.size small))
          (answers place (holder w place).unit logins first false p sent.bytes 0 [] (enabled place asked_scene) (begins place (holder w place).unit logins first (enabled place asked_scene).node (λ other. refl) refl))

      starts_one : (orb : ℕ) → enabled_by (demand_of (length w.target.rom) p) (enabled_in start past w) ≡ enabled_in start past w → Serves (start_operation orb p sent.bytes asked_scene)
      starts_one orb same many later =
          let s = start_operation orb p sent.bytes asked_scene in
          let v = noted_world serial again judgements.Got s.node in
          let more = start_tells orb p sent.bytes asked_scene refl in
          let is : enabled_in start past v ≡ enabled_in start past w = request_enabled serial again sent found zero_to p read asking s.node ∙ same in
          let mute : AreMute s.outbox.sides = subst AreMute (sym more.is) more.mute in
          let m = muted s.outbox.sides (office_in start past v) (enabled_in start past v) mute in
          disabling_turn v s (noted_target serial again judgements.Got s.node) m.disabling (ap length is ∙ agree.size)
          (λ place small.
          ap (λ xs. slice_index_or xs place false) (m.registers ∙ is) ∙ agree.each place small
          ∙ sym ((same_registers w.target s.node (start_keeps orb p sent.bytes asked_scene).desks).each place))

      by_access : (place : ℕ) (access : AgentAccess) → demand_of (length w.target.rom) p ≡ demands.Agent place access → Serves (accessed_by access place p sent.bytes asked_scene)
      by_access place accesses.State e = serves place _ (ap (λ d. enabled_by d (enabled_in start past w)) e) (accesses_by place (holder w place).unit logins before accesses.State p sent.bytes asked_scene tt (at_first place asked_scene.node refl refl))
      by_access place accesses.Reset e = serves place _ (ap (λ d. enabled_by d (enabled_in start past w)) e) (accesses_by place (holder w place).unit logins before accesses.Reset p sent.bytes asked_scene tt (at_first place asked_scene.node refl refl))
      by_access place (accesses.Point pointer) e = serves place _ (ap (λ d. enabled_by d (enabled_in start past w)) e) (accesses_by place (holder w place).unit logins before (accesses.Point pointer) p sent.bytes asked_scene tt (at_first place asked_scene.node refl refl))
      by_access place accesses.Pointer e = serves place _ (ap (λ d. enabled_by d (enabled_in start past w)) e) (accesses_by place (holder w place).unit logins before accesses.Pointer p sent.bytes asked_scene tt (at_first place asked_scene.node refl refl))
      by_access place accesses.Ring e = serves place _ (ap (λ d. enabled_by d (enabled_in start past w)) e) (accesses_by place (holder w place).unit logins before accesses.Ring p sent.bytes asked_scene tt (at_first place asked_scene.node refl refl))
      by_access place accesses.Enable e = enables_one place (ap (λ d. enabled_by d (enabled_in start past w)) e)

      by_demand : (demand : Demand) → demand_of (length w.target.rom) p ≡ demand → Serves (served_as demand p sent.bytes asked_scene)
      by_demand (demands.Refused rcode) e = serves 0 _ (ap (λ d. enabled_by d (enabled_in start past w)) e) (answer_heeds 0 p sent.bytes rcode [] layer)
      by_demand (demands.Rom at len) e = serves 0 _ (ap (λ d. enabled_by d (enabled_in start past w)) e) (answer_heeds 0 p sent.bytes 0 _ layer)
      by_demand (demands.Manage orb) e = starts_one orb (ap (λ d. enabled_by d (enabled_in start past w)) e)
      by_demand (demands.Agent place access) e = by_access place access e

      request_ends : (let r = request_step p sent.bytes asked_scene in Ends (r.0, whole r.1 disks))
      unfolding request_step serve
      request_ends = by (is_barred asked_scene.node p)
        where
          by : (b : Bool) → (let r = cond {A = Judged × Scene} b (judgements.Ignored ignored.Login, answered p sent.bytes 7 [] asked_scene) (judgements.Got, serve p sent.bytes asked_scene) in Ends (r.0, whole r.1 disks))
          by true = ignores ignored.Login (whole (answered p sent.bytes 7 [] asked_scene) disks) (answer_heeds 0 p sent.bytes 7 [] layer)
          by false = by_demand (demand_of (length w.target.rom) p) refl

    as_judged : (r : Judged × Scene) (x : Whole) → Ends (r.0, whole r.1 x.disks) → Ends (judged_scene r x)
    as_judged (judged, s) x e = e

    by_finding : (run : Option Told) (disks : List Disk) (f : Finding Purpose) (layer now : Layer Purpose) → IsFound f w.target.layer now sent.bytes → Ends (received_as run sent.bytes f (with_layer layer (whole (scene w.target empty_outbox) disks)))
    by_finding run disks of_generation layer now f = ignores ignored.Generation (whole (scene (record w.target { layer = layer }) empty_outbox) disks) (at_first 0 (record w.target { layer = layer }) refl refl)
    by_finding run disks of_grammar layer now f = ignores ignored.Grammar (whole (scene (record w.target { layer = layer }) empty_outbox) disks) (at_first 0 (record w.target { layer = layer }) refl refl)
    by_finding run disks of_label layer now f = ignores ignored.Label (whole (scene (record w.target { layer = layer }) empty_outbox) disks) (at_first 0 (record w.target { layer = layer }) refl refl)
    by_finding run disks (of_response p label purpose) layer now f = concludes run p f.read f.kind label disks layer purpose
    by_finding run disks (of_again p rcode) layer now f = ignores ignored.Again (whole (answered p sent.bytes rcode [] (scene (record w.target { layer = layer }) empty_outbox)) disks) (answer_heeds 0 p sent.bytes rcode [] layer)
    by_finding run disks (of_request p) layer now f =
        as_judged (request_step p sent.bytes (scene (record w.target { layer = layer }) empty_outbox)) (with_layer layer (whole (scene w.target empty_outbox) disks))
        (request_ends p f.1.read (ap not f.1.kind) disks layer)

    pub delivery_agrees : (run : Option Told) (media : Held) → Ends (received run sent.generation sent.bytes (whole_of w.target media))
    unfolding received
    delivery_agrees run media =
        by_finding run media.disks (judging_step w.target.layer sent.generation sent.bytes).0 (judging_step w.target.layer sent.generation sent.bytes).1 (judging_step w.target.layer sent.generation sent.bytes).1
        (found_in w.target.layer sent.generation sent.bytes)

  -- ---- a time-out
  module _ (serial : ℕ) where
    abbrev Lapses : Scene → Type 0
    Lapses x = (more : ℕ) → (let now = handed_out 0 0 x.outbox (lapsed_world serial x.node) in Holding units ready start past more now → AreTermsOf (enabled_in start past now) now.target)

    lapses_quietly : (q : ℕ) (x : Scene) → Heeds q (holder w q).unit logins before false x → Lapses x
    lapses_quietly q x c more later = quiet_turn q (lapsed_world serial x.node) x refl (lapse_first serial x.node) (lapse_keeps serial x.node).enabled c

    lapse_for : (peer : ℕ) (label : LabelParts) (layer : Layer Purpose) (purpose : Option Purpose) → Lapses (timed_out purpose peer label (scene (record w.target { layer = layer }) empty_outbox))
    lapse_for peer label layer None = lapses_quietly 0 _ (at_first 0 (record w.target { layer = layer }) refl refl)
    lapse_for peer label layer (Some (purposes.Agent place)) =
        lapses_quietly place _ (lapses place (holder w place).unit logins before peer label (scene (record w.target { layer = layer }) empty_outbox) (at_first place (record w.target { layer = layer }) refl refl))
    lapse_for peer label layer (Some purposes.Management) = λ more later.
        let x = manage Expired (scene (record w.target { layer = layer }) empty_outbox) in
        manager_turn layer (lapsed_world serial x.node) (lapse_first serial x.node) (lapse_keeps serial x.node).enabled Expired refl more later
    lapse_for peer label layer (Some purposes.Unsolicited) = lapses_quietly 0 _ (at_first 0 (record w.target { layer = layer }) refl refl)

    lapse_by : (r : Result (Option Purpose) Stale × Layer Purpose) (peer : ℕ) (label : LabelParts) → Lapses (expired_in r peer label (scene w.target empty_outbox)).1
    lapse_by (Ok purpose, layer) peer label = lapse_for peer label layer purpose
    lapse_by (Err stale, layer) peer label = lapses_quietly 0 _ (at_first 0 (record w.target { layer = layer }) refl refl)

    pub lapse_agrees : (peer : ℕ) (label : LabelParts) → Lapses (alone (lets_expire peer label) w.target)
    unfolding expired
    lapse_agrees peer label = lapse_by (expiring_step w.target.layer peer label) peer label

  -- ---- a second: the logins that expire are not live
  abbrev ticked_world : NodeState → WorldState
  ticked_world node = with_target node (with_note notes.Tick w)

  pub second_agrees : (let x = alone ticks w.target in let now = handed_out 0 0 x.outbox (ticked_world x.node) in (more : ℕ) → Holding units ready start past more now → AreTermsOf (enabled_in start past now) now.target)
  unfolding ticked
  second_agrees more later =
      let x = alone ticks w.target in
      let v = ticked_world x.node in
      let now = handed_out 0 0 x.outbox v in
      let told_world = told_all 0 x.outbox.sides v in
      let o = office_in start past v in
      let E = enabled_in start past v in
      let ids = (tick_step w.target.logins).0 in
      let expiring : AreExpiring x.outbox.sides = expired_tell (length ids) 0 ids empty_outbox tt in
      let d = expiring_disable x.outbox.sides expiring in
      let same : E ≡ enabled_in start past w = (over_same T).enabled in
      let size : length E ≡ 8 = ap length same ∙ agree.size in
      let first : (place : ℕ) → place < 8 → slice_index_or E place false ≡ before place = λ place small. ap (λ xs. slice_index_or xs place false) same ∙ agree.each place small in
      let target_is : now.target ≡ x.node = (handed_alike 0 0 x.outbox v).target in
      let final : (by_sides x.outbox.sides o).table ≡ now.target.logins =
      ap (λ (y : Office). y.table) (sym (all_sides start past 0 x.outbox.sides v (all_behind start past x.outbox.sides d)))
      ∙ sym (all_still start past 0 x.outbox.packets told_world).table
      ∙ later.at.agrees.table in
      let now_live : AreLive now.target = subst AreLive later.made (all_live units ready has later.calls) in
      disabling_turn v x refl d size
      (λ place small.
      expired_ends x.outbox.sides expiring o E place size small (before place) (first place small)
      (λ e.
      let l = now_live place (ap (λ (n : NodeState). (desk_at n place).is_enabled) target_is ∙ e) in
      record { login = l.login; is = ap (λ (y : Table). place_at y.places place) final ∙ l.is }))

  -- ---- the target sees a generation

  abbrev latest : ℕ
  latest = w.generations.latest.generation

  abbrev own_id : ℕ
  own_id = id_of w.generations.latest 0

  abbrev sight_world : NodeState → WorldState
  sight_world node = with_target node (with_seen 0 (told_seen 0 w))

  terms_see : not (nat_eq latest (t.generation 0)) ≡ (seeing_step w.target.layer latest own_id).0
  terms_see =
      let stands = h.sound.stands in
      let there : 0 ≤ length w.initiators = omega arith in
      let layer_is : (stands.wire.layer 0).generation ≡ w.target.layer.generation = ap (λ (l : Node). l.generation) (stands.is.layers_are 0 there) in
      let a = aged stands.wire 0 stands.reached in
      let b = stands.is.bus_is in
      let c = (holds stands.wire stands.reached).bus_is in
      let below : w.target.layer.generation ≤ latest = omega arith in
      let same : t.generation 0 ≡ w.target.layer.generation = target_generation w stands ∙ sym (stands.is.sights 0 there) ∙ layer_is in
      seen_test w.target.layer.generation latest (t.generation 0) below same ∙ sym (seen_flag w.target.layer latest own_id)

  reset_enabled : (b : Bool) (u : Target) → (reset_seen b u).enabled ≡ cond b (replicate 8 false) u.enabled
  reset_enabled true u = refl
  reset_enabled false u = refl

  sight_enabled : (node : NodeState) → enabled_in start past (sight_world node) ≡ cond (seeing_step w.target.layer latest own_id).0 (replicate 8 false) (enabled_in start past w)
  sight_enabled node =
      ap (λ (x : Terms). (reset_seen (not (nat_eq latest (x.generation 0))) (over T)).enabled) (wire_is start (hist past w))
      ∙ reset_enabled (not (nat_eq latest (t.generation 0))) (over T)
      ∙ ap (λ b. cond b (replicate 8 false) (over T).enabled) terms_see
      ∙ ap (λ xs. cond (seeing_step w.target.layer latest own_id).0 (replicate 8 false) xs) (over_same T).enabled

  all_disabled_desks : (ds : List Desk) (place : ℕ) → (slice_index_or (map disabled ds) place new_desk).is_enabled ≡ false
  all_disabled_desks ds place = ap (λ (d : Desk). d.is_enabled) (get_or-map disabled ds place new_desk)

  none_enabled : (place : ℕ) → slice_index_or (replicate 8 false) place false ≡ false
  none_enabled place = grind (arith, common_steps)

  sight_by : (r : Bool × Layer Purpose) → (let x = (reset_by r (scene w.target empty_outbox)).1 in enabled_in start past (sight_world x.node) ≡ cond r.0 (replicate 8 false) (enabled_in start past w) → (let now = handed_out 0 0 x.outbox (sight_world x.node) in AreTermsOf (enabled_in start past now) now.target))
  sight_by (false, layer) e =
      let x = scene (record w.target { layer = layer }) empty_outbox in
      disabling_turn (sight_world x.node) x refl tt (ap length e ∙ agree.size) (λ place small. ap (λ xs. slice_index_or xs place false) e ∙ agree.each place small)
  sight_by (true, layer) e =
      let cleared = cleared_node layer w.target in
      let s = cut_all cuts.Reset None (scene cleared empty_outbox) in
      let x = held_all s in
      let v = sight_world x.node in
      let c = cuts_all before w.target.logins cuts.Reset None (scene cleared empty_outbox) (record { registers = λ place. refl; mute = tt; logins_are = refl }) in
      let k = held_tell 8 0 s.node.logins.places s.outbox (mute_keeps s.outbox.sides c.mute) in
      let kept = keeping x.outbox.sides (office_in start past v) (enabled_in start past v) k in
      disabling_turn v x refl kept.disabling (ap length e)
      (λ place small. ap (λ xs. slice_index_or xs place false) (kept.registers ∙ e) ∙ none_enabled place ∙ sym (all_disabled_desks s.node.desks place))

  pub sight_agrees : (let x = alone (sees latest own_id) w.target in let now = handed_out 0 0 x.outbox (sight_world x.node) in AreTermsOf (enabled_in start past now) now.target)
  unfolding seen
  sight_agrees = sight_by (seeing_step w.target.layer latest own_id) (sight_enabled (reset_by (seeing_step w.target.layer latest own_id) (scene w.target empty_outbox)).1.node)
