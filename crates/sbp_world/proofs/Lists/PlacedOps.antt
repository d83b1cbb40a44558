-- An operation of the target of an initiator that injected no packets has its ORB in one of the initiator's places of management, where each login that the initiator
-- was done with was granted an agent of a place.
use Rattle.sbp_world.proofs.Words.Std.{arith, ◌≡◌, ◌∙◌, inl, inr, ◌⊎◌, refl, sym, ap, subst, ℕ, suc, ◌%◌, ◌<◌, ◌==◌, ◌&&◌, nat_eq, Bool, true, false, cond, List, [], ◌∷◌, length, Option, Some, None, nat_tests}
use Rattle.sbp_world.proofs.Words.Wire.{Header, Packet, lock, lock_response, read_block, read_block_response, read_quadlet, read_quadlet_response, write_block, write_quadlet, write_response, Node, as_sending, Finding, judging_step, of_request, Sent, found_sent, Access, access_of, Moment, asked, said, Sending, Terms, terms, Action, HostOperation}
use Rattle.sbp_world.proofs.Words.Target.{Operation, Disk, accessed, accessed_at, by_address, by_register, by_rom, by_type, demand_by, demand_of, management_start, offset_in, or_nowhere, reached, Row, row_of, register_at, served_by, AgentAccess, AgentRegister, Demand}
use Rattle.sbp_world.proofs.Words.Initiator.{start_of, behind_by, LoginResponse, ManagementOrb, offset_at}
use Rattle.sbp_world.proofs.Words.Laws.{host_at, is_management, operation_of, ready_host, access_in, access_in_bytes, spelled_by, is_own, management_orb_of, place_held, place_written, EachMoment, event_of}
use Rattle.sbp_world.proofs.Words.World.{NoneInjected, MayAsk, MayWrite, managed_write, manages, writes_bell, writes_enable, writes_management, writes_pointer, writes_reset, WorldState, Stands, IsAsked, IsCalm, BasedAt, HasBase, IsInAPlace, RingsAt}
use Rattle.bus_memory.specs.declared.window.Window.TheVariants as windows
use Rattle.sbp_world.proofs.Hosts.SentMoments.{WasSent, sent_moment}
use Rattle.sbp_journal.specs.declared.event.Event.TheVariants as events
use Rattle.sbp_journal.specs.declared.note.Note.TheVariants as notes
use Rattle.sbp_journal.specs.declared.operation.Operation.TheVariants as operations
use Rattle.sbp_journal.specs.declared.operation.OpWord.TheVariants as words
use Rattle.sbp_world.proofs.Wire.Bus.{holds}
use Rattle.target_base.specs.Addresses.{managed, served}
use Rattle.target_base.specs.declared.address.Demand.TheVariants as demands
use Rattle.sbp_target.proofs.Histories.Found.{IsFound, found as found_as}
use Rattle.sbp_world.proofs.Agents.Management.Hearing.{request_current}
use Rattle.sbp_world.proofs.Agents.Management.Holding.{Holding, is_of, known_id, past_terms, same_id, was_sent}
use Rattle.sbp_world.proofs.Agents.Management.Still.{hist}
use Rattle.sbp_world.proofs.Lists.HostLogins.{GrantsAt, login_good}
use Rattle.sbp_world.proofs.Lists.LiveSteps.{id_in}
use Rattle.sbp_world.proofs.Lists.ManageTerms.{none_is, same_some}
use Rattle.sbp_world.proofs.Lists.ManageWrites.{WroteAt}
use Rattle.sbp_world.proofs.Lists.ManageLines.{eight_at}
use Rattle.sbp_world.proofs.Lists.StatusKnown.{each_from}
use Rattle.sbp_world.proofs.Common.{untrue}

-- ---- a write of MANAGEMENT_AGENT, by what it asks of the target
pub record IsManageWrite (p : Packet) (orb : ℕ) : Type 0 where
  pub header : Header
  pub offset : ℕ
  pub payload : List ℕ
  pub is : p ≡ write_block header offset payload
  pub at : offset ≡ management_start
  pub names : offset_at payload 0 ≡ orb

module _ (orb : ℕ) where
  refused_not : {A : Type 0} (rcode : ℕ) → demands.Refused rcode ≡ demands.Manage orb → A
  refused_not rcode e = absurd (let no : demands.Refused rcode ≡ demands.Manage orb = e in cc)

  agent_not : {A : Type 0} (place : ℕ) (access : AgentAccess) → Some (demands.Agent place access) ≡ Some (demands.Manage orb) → A
  agent_not place access e = absurd (let no : Some (demands.Agent place access) ≡ Some (demands.Manage orb) = e in cc)

  block_if : (b : Bool) (header : Header) (offset : ℕ) (payload : List ℕ) → offset ≡ management_start → cond b (Some (demands.Manage (offset_at payload 0))) None ≡ Some (demands.Manage orb) → IsManageWrite (write_block header offset payload) orb
  block_if true header offset payload at e = record { header = header; offset = offset; payload = payload; is = refl; at = at; names = (let both : Some (demands.Manage (offset_at payload 0)) ≡ Some (demands.Manage orb) = e in cc) }
  block_if false header offset payload at e = none_is (demands.Manage orb) e

  managed_is : (p : Packet) → offset_in p ≡ management_start → managed p ≡ Some (demands.Manage orb) → IsManageWrite p orb
  managed_is (write_block header offset payload) at e = block_if (length payload == 8) header offset payload at e
  managed_is (write_quadlet header offset value) at e = none_is (demands.Manage orb) e
  managed_is (read_quadlet header offset) at e = none_is (demands.Manage orb) e
  managed_is (read_block header offset count) at e = none_is (demands.Manage orb) e
  managed_is (lock header offset extended payload) at e = none_is (demands.Manage orb) e
  managed_is (write_response header rcode) at e = none_is (demands.Manage orb) e
  managed_is (read_quadlet_response header rcode value) at e = none_is (demands.Manage orb) e
  managed_is (read_block_response header rcode payload) at e = none_is (demands.Manage orb) e
  managed_is (lock_response header rcode extended payload) at e = none_is (demands.Manage orb) e

  access_not : {A : Type 0} (place : ℕ) (found : Option AgentAccess) → accessed_at place found ≡ Some (demands.Manage orb) → A
  access_not place None e = none_is (demands.Manage orb) e
  access_not place (Some access) e = agent_not place access e

  register_not : {A : Type 0} (found : Option AgentRegister) (p : Packet) → served_by found p ≡ Some (demands.Manage orb) → A
  register_not None p e = none_is (demands.Manage orb) e
  register_not (Some found) p e = access_not found.place (accessed found.register p) e

  served_is : (b : Bool) (p : Packet) → (offset_in p == management_start) ≡ b → cond b (managed p) (served_by (register_at (offset_in p)) p) ≡ Some (demands.Manage orb) → IsManageWrite p orb
  served_is true p f e = managed_is p (grind (arith, nat_tests)) e
  served_is false p f e = register_not (register_at (offset_in p)) p e

  nowhere_is : (found : Option Demand) → or_nowhere found ≡ demands.Manage orb → found ≡ Some (demands.Manage orb)
  nowhere_is None e = refused_not _ e
  nowhere_is (Some demand) e = ap (λ (d : Demand). Some d) e

  row_is : (row : Row) (p : Packet) → demand_by row p ≡ demands.Manage orb → IsManageWrite p orb
  row_is by_type p e = refused_not _ e
  row_is by_rom p e = absurd (let no : demands.Rom _ _ ≡ demands.Manage orb = e in cc)
  row_is by_register p e = served_is (offset_in p == management_start) p refl (nowhere_is (served (offset_in p) p) e)
  row_is by_address p e = refused_not _ e

  pub manage_write : (size : ℕ) (p : Packet) → demand_of size p ≡ demands.Manage orb → IsManageWrite p orb
  unfolding demand_of
  manage_write size p e = row_is (row_of (reached size p)) p e

-- ---- a ring is at no MANAGEMENT_AGENT
abbrev IsClear : LoginResponse → Type 0
IsClear response = behind_by response.agent 0x08 ≡ management_start → ⊥

based_clear : (response : LoginResponse) → HasBase response → IsClear response
based_clear response b e = let base = b.base in let small = b.small in absurd (omega (arith, base, small, e))

grants_clear : (m : Moment) (past : List Moment) (i : ℕ) → BasedAt i m past → GrantsAt IsClear i m past
grants_clear (asked line event) past i h = tt
grants_clear (said (notes.Op j operations.Login words.Done)) past i h = λ e. based_clear _ (h e)
grants_clear (said note) past i h = tt

all_clear : (past : List Moment) (i : ℕ) → EachMoment (BasedAt i) past → EachMoment (GrantsAt IsClear i) past
all_clear [] i h = tt
all_clear (m ∷ past) i h = (grants_clear m past i h.0, all_clear past i h.1)

login_clear : (past : List Moment) (i : ℕ) → i < 8 → EachMoment (BasedAt i) past → IsClear (host_at past i).login
login_clear past i small h = login_good IsClear past i (λ e. ready_clear i small e) (λ e. absurd (omega (arith, e))) (all_clear past i h)
  where
    ready_clear : (i : ℕ) → i < 8 → IsClear (ready_host i).login
    ready_clear i small e = absurd (omega (arith, small, e))

-- ---- each block write of an initiator to MANAGEMENT_AGENT names a place

pub record NamesPlace (payload : List ℕ) : Type 0 where
  pub place : ℕ
  pub small : place < 2
  pub names : offset_at payload 0 ≡ start_of (windows.Management place)

-- and the ORB of an operation stands in it from then on
pub record NamesHeld (i : ℕ) (here : List Moment) (payload : List ℕ) : Type 0 where
  pub named : NamesPlace payload
  pub held : place_held here i named.place ≡ None → ⊥

-- the action of a line that begins an operation of management puts an ORB into the place
written_by : (b c d : Bool) (one before : Option ManagementOrb) → b ≡ true → c ≡ true → d ≡ true → (one ≡ None → ⊥) → cond b (cond (c && d) one before) before ≡ None → ⊥
written_by true true true one before e f g some h = some h
written_by false c d one before e f g some h = absurd (let no : false ≡ true = e in cc)
written_by true false d one before e f g some h = absurd (let no : false ≡ true = f in cc)
written_by true true false one before e f g some h = absurd (let no : false ≡ true = g in cc)

own_by : (i : ℕ) (operation : Option HostOperation) → manages operation ≡ true → is_own i i operation ≡ true
own_by i (Some operation) m = and_true (i == i) (is_management operation) (grind arith) m
  where
    and_true : (a b : Bool) → a ≡ true → b ≡ true → (a && b) ≡ true
    and_true true b e f = f
    and_true false b e f = e
own_by i None m = untrue m

action_writes : (before : List Moment) (i serial generation to : ℕ) (bytes : List ℕ) (action : Action) → event_of before ≡ Some (events.Act i action) → manages (operation_of action) ≡ true → place_held (said (notes.Sent serial generation (suc i) to bytes) ∷ before) i ((host_at before i).writes % 2) ≡ None → ⊥
action_writes before i serial generation to bytes action line m none =
    let n = (host_at before i).writes % 2 in
    written_by (i == i) (is_own i i (operation_of action)) ((host_at before i).writes % 2 == n) (Some (management_orb_of action before i (host_at before i) n)) (place_held before i n)
    (grind arith) (own_by i (operation_of action) m) (grind arith) (λ e. (let no : Some (management_orb_of action before i (host_at before i) n) ≡ None = e in cc))
    (sym (ap (λ event. cond (i == i) (place_written event before i n (place_held before i n)) (place_held before i n)) line) ∙ none)

-- what is known of what an initiator wrote
pub record Written (past : List Moment) (i : ℕ) : Type 0 where
  pub asks : EachMoment (MayAsk i) past
  pub rings : EachMoment (RingsAt i) past
  pub wrote : EachMoment (WroteAt i) past
  pub based : EachMoment (BasedAt i) past

module _ (past : List Moment) (i : ℕ) (few : i < 8) (known : Written past i) (serial : ℕ) (packet : Sending) (sent : (terms past).sent serial ≡ Some packet) (own : packet.from ≡ suc i) (honest : packet.injected ≡ false) (access : Access) (spelled : access_in_bytes packet.bytes ≡ Some access) (writes : access.is_write ≡ true) (block : access.is_block ≡ true) (at : access.offset ≡ management_start) where
  places_by : (before : List Moment) (named : Option ℕ) → (terms before).injected serial ≡ false → EachMoment (BasedAt i) before → RingsAt i (said (notes.Sent serial packet.generation packet.from packet.to packet.bytes)) before → WroteAt i (said (notes.Sent serial packet.generation packet.from packet.to packet.bytes)) before → (action : Action) → event_of before ≡ Some (events.Act i action) → MayWrite before i named serial action access → NamesHeld i (said (notes.Sent serial packet.generation packet.from packet.to packet.bytes) ∷ before) access.payload
  places_by before named injected based ring wrote action line (writes_pointer r n) = absurd (by ((ring own injected action line r).at access spelled writes block))
    where
      by : (access.offset ≡ behind_by (host_at before i).login.agent 0x08) ⊎ (access.offset ≡ behind_by 0 0x08) → ⊥
      by (inl e) = login_clear before i few based (sym e ∙ at)
      by (inr e) = absurd (omega (arith, e, at))
  places_by before named injected based ring wrote action line (writes_bell r list other base p h is) = untrue (sym (ap (λ (a : Access). a.is_block) is) ∙ block)
  places_by before named injected based ring wrote action line (writes_reset r base is) = untrue (sym (ap (λ (a : Access). a.is_block) is) ∙ block)
  places_by before named injected based ring wrote action line (writes_enable r base is) = untrue (sym (ap (λ (a : Access). a.is_block) is) ∙ block)
  places_by before named injected based ring wrote action line (writes_management m offset place is) =
      let p = wrote own injected action line m in
      let n = (host_at before i).writes % 2 in
      let same : access ≡ managed_write p.offset n = same_some access (managed_write p.offset n) (sym spelled ∙ p.spelled) in
      record {
        named = record {
          place = n;
          small = omega arith;
          names = ap (λ (a : Access). offset_at a.payload 0) same ∙ eight_at (start_of (windows.Management n)) (let x : n < 2 = omega arith in omega (arith, x));
        };
        held = λ none. action_writes before i serial packet.generation packet.to packet.bytes action line m (ap (λ from. place_held (said (notes.Sent serial packet.generation from packet.to packet.bytes) ∷ before) i n) (sym own) ∙ none);
      }

  abbrev pub was_sent_at : WasSent past serial packet
  was_sent_at = sent_moment past serial packet sent

  pub names_held : NamesHeld i (said (notes.Sent serial packet.generation packet.from packet.to packet.bytes) ∷ was_sent_at.before) access.payload
  names_held =
      let w = was_sent_at in
      let here = said (notes.Sent serial packet.generation packet.from packet.to packet.bytes) ∷ w.before in
      let whole = λ (At : Moment → List Moment → Type 0) (h : EachMoment At past). each_from At w.later here (subst (EachMoment At) (sym w.is) h) in
      let asks = (whole (MayAsk i) known.asks).0 (from_is packet.from i own) (w.injected ∙ honest) access spelled writes in
      places_by w.before _ (w.injected ∙ honest) (whole (BasedAt i) known.based).1 (whole (RingsAt i) known.rings).0 (whole (WroteAt i) known.wrote).0 asks.action asks.line asks.is
    where
      from_is : (from i : ℕ) → from ≡ suc i → nat_eq from (suc i) ≡ true
      from_is from i e = grind (arith, nat_tests)

-- ---- an operation that a packet asks for
module _ (units ready : ℕ) (start : List Disk) {past : List Moment} {lines : ℕ} (w : WorldState) (h : Holding units ready start past lines w) (i : ℕ) (inside : i < length w.initiators) (few : i < 8) (calm : IsCalm (hist past w) i) (none : NoneInjected (hist past w) i) (known : Written (hist past w) i) where
  abbrev t : Terms
  t = terms (hist past w)

  -- its ORB stands in a place from the moment on at which it was asked for
  pub record IsHeldOp (serial : ℕ) (sent : Sent) (op : Operation) : Type 0 where
    pub is : t.sent serial ≡ Some (as_sending sent)
    pub own : sent.from ≡ suc i
    pub place : ℕ
    pub small : place < 2
    pub orb : op.orb ≡ start_of (windows.Management place)
    pub was : WasSent (hist past w) serial (as_sending sent)
    pub held : place_held (said (notes.Sent serial sent.generation sent.from sent.to sent.bytes) ∷ was.before) i place ≡ None → ⊥

  pub asked_held : (serial : ℕ) (sent : Sent) → found_sent serial w.store.kept ≡ Some sent → sent.to ≡ 0 → (op : Operation) → IsAsked w.target sent.generation sent.bytes op → op.source ≡ id_in w i → IsHeldOp serial sent op
  asked_held serial sent found zero_to op a source =
      let stands = h.sound.stands in
      let layer = w.target.layer in
      let now = (judging_step layer sent.generation sent.bytes).1 in
      let judged : judging_step layer sent.generation sent.bytes ≡ (of_request a.packet, now) = ap (λ (x : Finding _). (x, now)) a.found in
      let current : sent.generation ≡ t.generation 0 = request_current layer now sent.generation sent.bytes a.packet judged ∙ generation_is stands in
      let read = (subst (λ (x : Finding _). IsFound x layer now sent.bytes) a.found (found_as layer sent.generation sent.bytes)).1.read in
      let was = was_sent w stands serial sent found in
      let own : sent.from ≡ suc i = same_id w stands sent.from (suc i) (sym (ap (λ x. t.ids x sent.from) current) ∙ (sym ((is_of w stands serial sent found).source a.packet read) ∙ (a.source ∙ (source ∙ sym (known_id w stands (suc i) (omega arith)))))) in
      let m = manage_write op.orb (length w.target.rom) a.packet a.asks in
      let access : Access = record { is_lock = false; is_write = true; is_block = true; offset = m.offset; count = length m.payload; payload = m.payload } in
      let spelled : access_in_bytes sent.bytes ≡ Some access = ap (λ r. access_in (spelled_by r)) read ∙ ap access_of m.is in
      let honest = none calm serial (as_sending sent) was own in
      let n = names_held (hist past w) i few known serial (as_sending sent) was own honest access spelled refl refl m.at in
      record { is = was; own = own; place = n.named.place; small = n.named.small; orb = sym m.names ∙ n.named.names; was = sent_moment (hist past w) serial (as_sending sent) was; held = n.held }
    where
      generation_is : Stands past w → w.target.layer.generation ≡ (terms (hist past w)).generation 0
      generation_is stands = sym (ap (λ (l : Node). l.generation) (stands.is.layers_are 0 (omega arith))) ∙ (((holds stands.wire stands.reached).nodes 0).generation ∙ ap (λ (x : Terms). x.generation 0) (past_terms w stands))

  pub asked_placed : (serial : ℕ) (sent : Sent) → found_sent serial w.store.kept ≡ Some sent → sent.to ≡ 0 → (op : Operation) → IsAsked w.target sent.generation sent.bytes op → op.source ≡ id_in w i → IsInAPlace op
  asked_placed serial sent found zero_to op a source =
      let x = asked_held serial sent found zero_to op a source in
      record { place = x.place; small = x.small; orb = x.orb }
