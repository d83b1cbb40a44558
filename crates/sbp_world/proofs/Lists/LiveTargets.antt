-- What a turn of the target leaves of what is known of a node by where its initiator's session stands: of a delivery, which may decide the ORB of its
-- operation, and of each call that brings no reply.
use Rattle.sbp_world.proofs.Words.Std.{arith, ◌≡◌, ◌≢◌, ◌∙◌, refl, sym, ap, subst, ◌⊎◌, inl, inr, ℕ, ◌==◌, nat_eq, Bool, true, false, List, Option, Some, None, nat_tests, false≢true}
use Rattle.sbp_world.proofs.Words.Wire.{LabelParts, Packet, judging_step, of_response}
use Rattle.sbp_world.proofs.Words.Target.{Login, IsTable, Table, Operation, Status, decide, status_block, function_of, NodeState, answer_in}
use Rattle.sbp_world.proofs.Words.Initiator.{ManagementOrb, Answer}
use Rattle.sbp_world.proofs.Words.World.{AreSame, IsAsked, is_written, HasLogin, HasNone, HasOne}
use Rattle.mgmt_agent.specs.declared.function.Function.TheVariants as functions
use Rattle.mgmt_agent.specs.declared.operation.Phase.TheVariants as phases
use Rattle.mgmt_agent.specs.declared.status.Status.TheVariants as statuses
use Rattle.mgmt_agent.specs.Machine.{Machine}
use Rattle.sbp_target.specs.declared.purpose.Purpose.TheVariants as purposes
use Rattle.sbp_world.proofs.Sessions.Logins.{decides as others_stand, same}
use Rattle.sbp_world.specs.Lists.Live.{AreNamed}
use Rattle.sbp_world.proofs.Lists.LiveCalls.{HasLogins, HasOperation, StandsStill, answered, replies, starts, stays, untouched}
use Rattle.sbp_world.proofs.Lists.LiveDecides.{LeavesOne, decided_good, decided_kept, decided_one, decided_out, keeps_logins}
use Rattle.sbp_world.proofs.Lists.LiveReplies.{IsDecidedOn, Logged, decides, granted, reads, responds, stands}
use Rattle.sbp_world.proofs.Lists.LiveStandings.{Claims, Says, Stand, Unread, apart, comes, good_block, inside, leaves, none_number, number_in}
use Rattle.sbp_world.proofs.Lists.LiveTables.{none_named, none_one, same_has, same_named, same_none, same_one}

good_or : (s : Status) → (s ≡ statuses.NoFault) ⊎ (s ≢ statuses.NoFault)
good_or statuses.NoFault = inl refl
good_or statuses.RequestType = inr (λ e. cc)
good_or statuses.AccessDenied = inr (λ e. cc)
good_or statuses.LogicalUnit = inr (λ e. cc)
good_or statuses.Resources = inr (λ e. cc)
good_or statuses.FunctionRejected = inr (λ e. cc)
good_or statuses.LoginId = inr (λ e. cc)

-- The ORB that is decided is that of the operation which an initiator has under way, by where its session stands: while it is on its way out the ORB is that of a
-- logout of its login, and while it is in or apart it is about no login.
pub record IsMine (stand : Stand) (orb : ManagementOrb) : Type 0 where
  pub format : (number : ℕ) → stand ≡ leaves number → (orb.format == 0) ≡ true
  pub function : (number : ℕ) → stand ≡ leaves number → function_of orb.function ≡ Some functions.Logout
  pub subject : (number : ℕ) → stand ≡ leaves number → orb.subject ≡ number
  pub in_keeps : (number : ℕ) → stand ≡ inside number → keeps_logins (function_of orb.function) ≡ true
  pub apart_keeps : stand ≡ apart → keeps_logins (function_of orb.function) ≡ true

-- a status block that the target writes of an operation of the node
pub record IsWrittenNow (Acts : Type 0) (id : ℕ) (m : Machine) (orb : ℕ) (bytes : List ℕ) : Type 0 where
  pub op : Operation
  pub is : m.operation ≡ Some op
  pub own : op.source ≡ id
  pub served : Acts
  pub phase : op.phase ≡ phases.Status
  pub orb_is : orb ≡ op.orb
  pub bytes_are : bytes ≡ m.outgoing

module _ (id : ℕ) (Served Active Now Acts : Type 0) (Tells Waits : ℕ → List ℕ → Type 0) (stand : Stand) (node now : NodeState) (c : Claims Served Active Tells stand id node.manager node.logins.places) (on : Served → Now) (back : (op : Operation) → node.manager.operation ≡ Some op → op.source ≡ id → Acts → Active) where
  abbrev before : List (Option Login)
  before = node.logins.places

  abbrev after : List (Option Login)
  after = now.logins.places

  abbrev Left : Type 0
  Left = Claims Now Acts Waits stand id now.manager now.logins.places

  -- ---- the live logins of the node stand
  module _ (s : AreSame id before after) where
    leaving_same : {number : ℕ} → HasLogin before id number ⊎ (Served × HasNone before id) → HasLogin after id number ⊎ (Now × HasNone after id)
    leaving_same {number} (inl h) = inl (same_has id before after s number h)
    leaving_same (inr h) = inr (on h.0, same_none id before after s h.1)

    early_same : Served ⊎ HasNone before id → Now ⊎ HasNone after id
    early_same (inl served) = inl (on served)
    early_same (inr h) = inr (same_none id before after s h)

    unread_same : Unread stand before id → Unread stand after id
    unread_same u = record { comes_none = λ e. same_none id before after s (u.comes_none e); leaves_has = λ number e. same_has id before after s number (u.leaves_has number e) }

    of_comes_same : (orb : ℕ) (bytes : List ℕ) → (bytes ≡ good_block orb) ⊎ HasNone before id → (bytes ≡ good_block orb) ⊎ HasNone after id
    of_comes_same orb bytes (inl e) = inl e
    of_comes_same orb bytes (inr h) = inr (same_none id before after s h)

    says_same : (orb : ℕ) (bytes : List ℕ) → Says stand before id orb bytes → Says stand after id orb bytes
    says_same orb bytes says = record { of_comes = λ e. of_comes_same orb bytes (says.of_comes e); of_leaves = says.of_leaves }

    pended_same : (orb : ℕ) (bytes : List ℕ) → Tells orb bytes → Says stand after id orb bytes × ((number : ℕ) → stand ≡ leaves number → HasNone after id)
    pended_same orb bytes t = let p = c.pended orb bytes t in (says_same orb bytes p.0, λ number e. same_none id before after s (p.1 number e))

  -- ---- a call that brings no reply
  pub still_claims : StandsStill node now → ((orb : ℕ) (bytes : List ℕ) → Waits orb bytes → Tells orb bytes ⊎ IsWrittenNow Acts id now.manager orb bytes) → Left
  still_claims still waits = record {
    one = same_one id before after s c.one;
    apart_none = λ e. same_none id before after s (c.apart_none e);
    named = λ number e. same_named id before after s number (c.named number e);
    live = λ number e. same_has id before after s number (c.live number e);
    leaving = λ number e. leaving_same s (c.leaving number e);
    early = λ e. early_same s (c.early e);
    reading = λ op is own f. unread_same s (c.reading op (was op is) own f);
    written = written_still;
    status = status_still;
    pended = λ orb bytes t. pended_by orb bytes (waits orb bytes t);
  }
    where
      s : AreSame id before after
      s = still.logins id

      was : (op : Operation) → now.manager.operation ≡ Some op → node.manager.operation ≡ Some op
      was op is = sym (ap (λ (m : Machine). m.operation) (still.operation op is)) ∙ is

      written_still : (op : Operation) → now.manager.operation ≡ Some op → op.source ≡ id → Acts → is_written op.phase ≡ true → (number : ℕ) → stand ≡ leaves number → HasNone after id
      written_still op is own served f number e = same_none id before after s (c.written op (was op is) own (back op (was op is) own served) f number e)

      status_still : (op : Operation) → now.manager.operation ≡ Some op → op.source ≡ id → Acts → op.phase ≡ phases.Status → Says stand after id op.orb now.manager.outgoing
      status_still op is own served f = subst (λ (m : Machine). Says stand after id op.orb m.outgoing) (sym (still.operation op is)) (says_same s op.orb node.manager.outgoing (c.status op (was op is) own (back op (was op is) own served) f))

      pended_by : (orb : ℕ) (bytes : List ℕ) → Tells orb bytes ⊎ IsWrittenNow Acts id now.manager orb bytes → Says stand after id orb bytes × ((number : ℕ) → stand ≡ leaves number → HasNone after id)
      pended_by orb bytes (inl t) = pended_same s orb bytes t
      pended_by orb bytes (inr x) =
          (subst (λ (out : List ℕ). Says stand after id orb out) (sym x.bytes_are) (subst (λ (address : ℕ). Says stand after id address now.manager.outgoing) (sym x.orb_is) (status_still x.op x.is x.own x.served x.phase)), λ number e. written_still x.op x.is x.own x.served (ap is_written x.phase) number e)

  -- ---- a delivery
  module _ (generation : ℕ) (bytes : List ℕ) (sound : IsTable node.logins)
      (begins : (op : Operation) → now.manager.operation ≡ Some op → IsAsked node generation bytes op → op.source ≡ id → Served → ⊥)
      (mine : (p : Packet) (label : LabelParts) → (judging_step node.layer generation bytes).0 ≡ of_response p label (Some purposes.Management) → (left : Table) (d : IsDecidedOn node.manager node.logins node.keys (answer_in p) left) → d.was.source ≡ id → Served × IsMine stand d.on.orb)
      (silent : (op : Operation) → node.manager.operation ≡ Some op → op.source ≡ id → is_written op.phase ≡ false → (orb : ℕ) (outgoing : List ℕ) → Tells orb outgoing → ⊥)
      (waits : (orb : ℕ) (outgoing : List ℕ) → Waits orb outgoing → Tells orb outgoing ⊎ IsWrittenNow Acts id now.manager orb outgoing) where
    -- the ORB of its operation is decided
    module _ (p : Packet) (label : LabelParts) (found : (judging_step node.layer generation bytes).0 ≡ of_response p label (Some purposes.Management)) (d : IsDecidedOn node.manager node.logins node.keys (answer_in p) now.logins) (own : d.was.source ≡ id) where
      abbrev D : Table
      D = (decide d.on.orb d.on.source d.on.eui node.logins node.keys).1

      unread : Unread stand before id
      unread = c.reading d.was d.is own d.unwritten

      my : IsMine stand d.on.orb
      my = (mine p label found now.logins d own).1

      served : Served
      served = (mine p label found now.logins d own).0

      id_is : d.on.source ≡ id
      id_is = d.source_is ∙ own

      none_there : HasNone before id → HasNone before d.on.source
      none_there h = subst (HasNone before) (sym id_is) h

      one_comes : stand ≡ comes → LeavesOne d.on.source (decide d.on.orb d.on.source d.on.eui node.logins node.keys)
      one_comes e = decided_one d.on.orb d.on.source d.on.eui node.logins node.keys (none_there (unread.comes_none e))

      to_one : HasOne D.places d.on.source → HasOne after id
      to_one h = subst (λ (t : Table). HasOne t.places id) (sym d.left_is) (subst (HasOne D.places) id_is h)

      to_none : HasNone D.places d.on.source → HasNone after id
      to_none h = subst (λ (t : Table). HasNone t.places id) (sym d.left_is) (subst (HasNone D.places) id_is h)

      -- the session is on its way in
      comes_one : stand ≡ comes → HasOne after id
      comes_one e = to_one (one_comes e).one

      comes_refused : stand ≡ comes → (decide d.on.orb d.on.source d.on.eui node.logins node.keys).0.status ≢ statuses.NoFault → HasNone after id
      comes_refused e n = to_none ((one_comes e).refused n)

      -- it is on its way out
      leaves_none : (number : ℕ) → stand ≡ leaves number → HasNone after id
      leaves_none number e =
          let names : AreNamed before d.on.source d.on.orb.subject =
          subst (λ k. AreNamed before k d.on.orb.subject) (sym id_is) (subst (AreNamed before id) (sym (my.subject number e)) (c.named number (ap number_in e))) in
          to_none (decided_out d.on.orb d.on.source d.on.eui node.logins node.keys sound names (my.format number e) (my.function number e))

      leaves_good : (number : ℕ) → stand ≡ leaves number → (decide d.on.orb d.on.source d.on.eui node.logins node.keys).0.status ≡ statuses.NoFault
      leaves_good number e =
          let has : HasLogin before d.on.source d.on.orb.subject =
          subst (λ k. HasLogin before k d.on.orb.subject) (sym id_is) (subst (HasLogin before id) (sym (my.subject number e)) (unread.leaves_has number e)) in
          decided_good d.on.orb d.on.source d.on.eui node.logins node.keys sound has (my.format number e) (my.function number e)

      -- it is in, or apart
      kept_if : keeps_logins (function_of d.on.orb.function) ≡ true → AreSame id before after
      kept_if k = subst (λ (t : Table). AreSame id before t.places) (sym (d.left_is ∙ decided_kept d.on.orb d.on.source d.on.eui node.logins node.keys k)) (same id before)

    -- ---- its live logins
    record Kept : Type 0 where
      one : HasOne after id
      apart_none : stand ≡ apart → HasNone after id
      named : (number : ℕ) → number_in stand ≡ Some number → AreNamed after id number
      live : (number : ℕ) → stand ≡ inside number → HasLogin after id number
      leaving : (number : ℕ) → stand ≡ leaves number → HasLogin after id number ⊎ (Now × HasNone after id)
      early : stand ≡ comes → Now ⊎ HasNone after id
      pended : (orb : ℕ) (outgoing : List ℕ) → Tells orb outgoing → Says stand after id orb outgoing × ((number : ℕ) → stand ≡ leaves number → HasNone after id)

    kept_same : AreSame id before after → Kept
    kept_same s = record {
      one = same_one id before after s c.one;
      apart_none = λ e. same_none id before after s (c.apart_none e);
      named = λ number e. same_named id before after s number (c.named number e);
      live = λ number e. same_has id before after s number (c.live number e);
      leaving = λ number e. leaving_same s (c.leaving number e);
      early = λ e. early_same s (c.early e);
      pended = pended_same s;
    }

    module _ (p : Packet) (label : LabelParts) (found : (judging_step node.layer generation bytes).0 ≡ of_response p label (Some purposes.Management)) (d : IsDecidedOn node.manager node.logins node.keys (answer_in p) now.logins) (own : d.was.source ≡ id) where
      abbrev mind : IsMine stand d.on.orb
      mind = my p label found d own

      abbrev kept_by : keeps_logins (function_of d.on.orb.function) ≡ true → AreSame id before after
      kept_by = kept_if p label found d own

      decided_has_one : (st : Stand) → stand ≡ st → HasOne after id
      decided_has_one apart e = same_one id before after (kept_by (mind.apart_keeps e)) c.one
      decided_has_one comes e = comes_one p label found d own e
      decided_has_one (inside number) e = same_one id before after (kept_by (mind.in_keeps number e)) c.one
      decided_has_one (leaves number) e = none_one id after (leaves_none p label found d own number e)

      decided_named : (st : Stand) → stand ≡ st → (number : ℕ) → number_in st ≡ Some number → AreNamed after id number
      decided_named apart e number f = none_number number f
      decided_named comes e number f = none_number number f
      decided_named (inside other) e number f = same_named id before after (kept_by (mind.in_keeps other e)) number (c.named number (ap number_in e ∙ f))
      decided_named (leaves other) e number f = none_named id after number (leaves_none p label found d own other e)

      kept_decided : Kept
      kept_decided = record {
        one = decided_has_one stand refl;
        apart_none = λ e. same_none id before after (kept_by (mind.apart_keeps e)) (c.apart_none e);
        named = decided_named stand refl;
        live = λ number e. same_has id before after (kept_by (mind.in_keeps number e)) number (c.live number e);
        leaving = λ number e. inr (on (served p label found d own), leaves_none p label found d own number e);
        early = λ e. inl (on (served p label found d own));
        pended = λ orb outgoing t. absurd (silent d.was d.is own d.unwritten orb outgoing t);
      }

    -- that of another node
    others_kept : (answer : Answer) (d : IsDecidedOn node.manager node.logins node.keys answer now.logins) → (d.was.source ≡ id → ⊥) → AreSame id before after
    others_kept answer d other =
        subst (λ (t : Table). AreSame id before t.places) (sym d.left_is) (others_stand id d.on.orb d.on.source d.on.eui (λ e. other (sym d.source_is ∙ e)) node.logins node.keys)

    not_own : (source : ℕ) → nat_eq source id ≡ false → source ≡ id → ⊥
    not_own source e same = let yes : nat_eq source id ≡ true = grind (arith, nat_tests) in false≢true (sym e ∙ yes)

    by_logged : (p : Packet) (label : LabelParts) → (judging_step node.layer generation bytes).0 ≡ of_response p label (Some purposes.Management) → Logged node.manager node.logins node.keys (answer_in p) now.logins → Kept
    by_logged p label found (stands e) = kept_same (subst (λ (t : Table). AreSame id before t.places) (sym e) (same id before))
    by_logged p label found (granted d) = by (nat_eq d.was.source id) refl
      where
        by : (b : Bool) → nat_eq d.was.source id ≡ b → Kept
        by true e = kept_decided p label found d (grind (arith, nat_tests))
        by false e = kept_same (others_kept (answer_in p) d (not_own d.was.source e))

    by_logins : HasLogins node generation bytes now.logins → Kept
    by_logins (untouched e) = kept_same (subst (λ (t : Table). AreSame id before t.places) (sym e) (same id before))
    by_logins (answered p label found l) = by_logged p label found l

    -- ---- its operation
    -- one that begins was not taken before
    begun_unread : (op : Operation) → now.manager.operation ≡ Some op → IsAsked node generation bytes op → op.source ≡ id → Unread stand before id
    begun_unread op is a own = record { comes_none = λ e. none_by (c.early e); leaves_has = λ number e. has_by (c.leaving number e) }
      where
        none_by : Served ⊎ HasNone before id → HasNone before id
        none_by (inl served) = absurd (begins op is a own served)
        none_by (inr h) = h

        has_by : {number : ℕ} → HasLogin before id number ⊎ (Served × HasNone before id) → HasLogin before id number
        has_by (inl h) = h
        has_by (inr h) = absurd (begins op is a own h.0)

    abbrev Here : Table → Type 0
    Here t = AreSame id before t.places

    equal : now.logins ≡ node.logins → AreSame id before after
    equal e = subst Here (sym e) (same id before)

    was_there : (op : Operation) → now.manager ≡ node.manager → now.manager.operation ≡ Some op → node.manager.operation ≡ Some op
    was_there op e is = sym (ap (λ (m : Machine). m.operation) e) ∙ is

    both : {A : Type 0} (b : Bool) → b ≡ true → b ≡ false → A
    both true e f = absurd (false≢true (sym f))
    both false e f = absurd (false≢true e)

    reading_now : (op : Operation) → now.manager.operation ≡ Some op → op.source ≡ id → is_written op.phase ≡ false → HasOperation node generation bytes now op → Unread stand after id
    reading_now op is own f (stays m l) = unread_same (equal l) (c.reading op (was_there op m is) own f)
    reading_now op is own f (starts a l) = unread_same (equal l) (begun_unread op is a own)
    reading_now op is own f (replies p label found (reads was there source before_f after_f l)) = unread_same (equal l) (c.reading was there (source ∙ own) before_f)
    reading_now op is own f (replies p label found (responds was there source orb fifo w failure phase out l)) = both (is_written op.phase) (ap is_written phase) f
    reading_now op is own f (replies p label found (decides d source orb w out)) = both (is_written op.phase) w f

    written_now : (op : Operation) → now.manager.operation ≡ Some op → op.source ≡ id → Acts → is_written op.phase ≡ true → HasOperation node generation bytes now op → (number : ℕ) → stand ≡ leaves number → HasNone after id
    written_now op is own served_now f (stays m l) number e = same_none id before after (equal l) (c.written op (was_there op m is) own (back op (was_there op m is) own served_now) f number e)
    written_now op is own served_now f (starts a l) number e = both (is_written op.phase) f (ap is_written a.phase)
    written_now op is own served_now f (replies p label found (reads was there source before_f after_f l)) number e = both (is_written op.phase) f after_f
    written_now op is own served_now f (replies p label found (responds was there source orb fifo w failure phase out l)) number e =
        same_none id before after (equal l) (c.written was there (source ∙ own) (back was there (source ∙ own) served_now) (ap is_written w) number e)
    written_now op is own served_now f (replies p label found (decides d source orb w out)) number e = leaves_none p label found d (source ∙ own) number e

    abbrev SaysNow : Operation → Type 0
    SaysNow op = Says stand after id op.orb now.manager.outgoing

    says_good : (op : Operation) → now.manager.outgoing ≡ good_block op.orb → SaysNow op
    says_good op e = record { of_comes = λ s. inl e; of_leaves = λ number s. e }

    says_decided : (op : Operation) (p : Packet) (label : LabelParts) (found : (judging_step node.layer generation bytes).0 ≡ of_response p label (Some purposes.Management)) (d : IsDecidedOn node.manager node.logins node.keys (answer_in p) now.logins) (own : d.was.source ≡ id) → (s : Status) → s ≡ (decide d.on.orb d.on.source d.on.eui node.logins node.keys).0.status → now.manager.outgoing ≡ status_block op.orb s → (s ≡ statuses.NoFault) ⊎ (s ≢ statuses.NoFault) → SaysNow op
    says_decided op p label found d own s is out (inl good) = says_good op (out ∙ ap (status_block op.orb) good)
    says_decided op p label found d own s is out (inr bad) = record {
      of_comes = λ e. inr (comes_refused p label found d own e (λ g. bad (is ∙ g)));
      of_leaves = λ number e. absurd (bad (is ∙ leaves_good p label found d own number e));
    }

    status_now : (op : Operation) → now.manager.operation ≡ Some op → op.source ≡ id → Acts → op.phase ≡ phases.Status → HasOperation node generation bytes now op → SaysNow op
    status_now op is own served_now f (stays m l) =
        subst (λ (x : Machine). Says stand after id op.orb x.outgoing) (sym m) (says_same (equal l) op.orb node.manager.outgoing (c.status op (was_there op m is) own (back op (was_there op m is) own served_now) f))
    status_now op is own served_now f (starts a l) = both (is_written op.phase) (ap is_written f) (ap is_written a.phase)
    status_now op is own served_now f (replies p label found (reads was there source before_f after_f l)) = both (is_written op.phase) (ap is_written f) after_f
    status_now op is own served_now f (replies p label found (responds was there source orb fifo w failure phase out l)) = says_good op out
    status_now op is own served_now f (replies p label found (decides d source orb w out)) =
        let s = (decide d.on.orb d.on.source d.on.eui node.logins node.keys).0.status in says_decided op p label found d (source ∙ own) s refl (out.status f).0 (good_or s)

    pub delivery_claims : HasLogins node generation bytes now.logins → ((op : Operation) → now.manager.operation ≡ Some op → HasOperation node generation bytes now op) → Left
    delivery_claims logins operation =
        let k = by_logins logins in
        record {
          one = k.one;
          apart_none = k.apart_none;
          named = k.named;
          live = k.live;
          leaving = k.leaving;
          early = k.early;
          reading = λ op is own f. reading_now op is own f (operation op is);
          written = λ op is own served_now f number e. written_now op is own served_now f (operation op is) number e;
          status = λ op is own served_now f. status_now op is own served_now f (operation op is);
          pended = λ orb outgoing t. pended_by k orb outgoing (waits orb outgoing t);
        }
      where
        pended_by : Kept → (orb : ℕ) (outgoing : List ℕ) → Tells orb outgoing ⊎ IsWrittenNow Acts id now.manager orb outgoing → Says stand after id orb outgoing × ((number : ℕ) → stand ≡ leaves number → HasNone after id)
        pended_by k orb outgoing (inl t) = k.pended orb outgoing t
        pended_by k orb outgoing (inr x) =
            (subst (λ (bytes : List ℕ). Says stand after id orb bytes) (sym x.bytes_are) (subst (λ (address : ℕ). Says stand after id address now.manager.outgoing) (sym x.orb_is) (status_now x.op x.is x.own x.served x.phase (operation x.op x.is))), λ number e. written_now x.op x.is x.own x.served (ap is_written x.phase) (operation x.op x.is) number e)

-- ---- no login is live behind the sight of a later generation
pub sighted_claims : (id : ℕ) (Now Acts : Type 0) (Waits : ℕ → List ℕ → Type 0) (stand : Stand) (m : Machine) (places : List (Option Login)) → number_in stand ≡ None → HasNone places id → Claims Now Acts Waits stand id m places
sighted_claims id Now Acts Waits stand m places out h = record {
  one = none_one id places h;
  apart_none = λ e. h;
  named = λ number e. none_named id places number h;
  live = λ number e. none_number number (sym out ∙ ap number_in e);
  leaving = λ number e. none_number number (sym out ∙ ap number_in e);
  early = λ e. inr h;
  reading = λ op is own f. record { comes_none = λ e. h; leaves_has = λ number e. none_number number (sym out ∙ ap number_in e) };
  written = λ op is own served f number e. h;
  status = λ op is own served f. record { of_comes = λ e. inr h; of_leaves = λ number e. none_number number (sym out ∙ ap number_in e) };
  pended = λ orb bytes t. (record { of_comes = λ e. inr h; of_leaves = λ number e. none_number number (sym out ∙ ap number_in e) }, λ number e. h);
}
