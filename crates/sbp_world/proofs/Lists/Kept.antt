-- What is kept of the agents of all places, and of the order law, by what the target tells beside its agents, and by the packets that leave.
use Rattle.sbp_world.proofs.Words.Std.{◌≡◌, ◌∙◌, refl, sym, ap, subst, inl, inr, ◌⊎◌, ◌<◌, ◌==◌, ℕ, zero, suc, ◌+◌, Bool, true, false, cond, List, [], ◌∷◌, Option, Some, None, position, slice_index_or, slice_set, none-some}
use Rattle.sbp_world.proofs.Words.Wire.{LabelParts, Holder, node_of, back_at, back_step, enter_step, has_login, holder_at, is_free, left_step, or_nobody, place_in, put_at, taken_by, decided_places, managed_places, function_word, Moment, FunctionWord, Outgoing, Side}
use Rattle.sbp_world.proofs.Words.Target.{Machine, abort_step}
use Rattle.sbp_world.proofs.Words.Laws.{OrderLaw}
use Rattle.sbp_world.proofs.Words.World.{asked, posted, sent, sent_all, sent_to, holder, initiator_of, told, WorldState, has_list, orbs}
use Rattle.agent_laws.proofs.Along.Writes.{keeps_along}
use Rattle.sbp_journal.specs.declared.operation.FunctionWord.TheVariants as functions
use Rattle.sbp_journal.specs.declared.side.Side.TheVariants as sides
use Rattle.sbp_world.proofs.Agents.Management.Still.{hist}
use Rattle.sbp_world.proofs.Lists.Told.{AgentAt, AgentOn, along_of}
use Rattle.sbp_world.proofs.Lists.Running.{order_part}
use Rattle.sbp_world.proofs.Lists.Passing.{PassLaw}
use Rattle.sbp_world.proofs.Lists.Stands.{no}

-- what is known of all places, of the agents of which these are the machines
pub record Kept (wild : ℕ → Bool) (past : List Moment) (machines : ℕ → Machine) (w : WorldState) : Type 0 where
  pub law : OrderLaw wild (hist past w)
  pub agents : (p : ℕ) → p < 8 → AgentAt wild (hist past w) (holder w p) (machines p)
  pub passes : PassLaw wild (hist past w)
  pub on : (p : ℕ) → p < 8 → AgentOn wild (hist past w) (holder w p) (machines p)

pub keeps : {wild : ℕ → Bool} {past : List Moment} {machines : ℕ → Machine} {w : WorldState} → PassLaw wild (hist past w) → ((p : ℕ) → p < 8 → AgentOn wild (hist past w) (holder w p) (machines p)) → Kept wild past machines w
keeps {wild} {past} {machines} {w} l a = record {
  law = order_part wild (hist past w) l;
  agents = λ p b. along_of wild (hist past w) (holder w p) (machines p) (a p b);
  passes = l;
  on = a;
}

-- ---- who has a place: no list is open for who comes to have one
pub set_either : {A : Type 0} (xs : List A) (k p : ℕ) (x d : A) → (slice_index_or (slice_set xs k x) p d ≡ x) ⊎ (slice_index_or (slice_set xs k x) p d ≡ slice_index_or xs p d)
set_either [] k p x d = inr refl
set_either (y ∷ ys) zero zero x d = inl refl
set_either (y ∷ ys) zero (suc p) x d = inr refl
set_either (y ∷ ys) (suc k) zero x d = inr refl
set_either (y ∷ ys) (suc k) (suc p) x d = set_either ys k p x d

-- where a list is open, who has the place is the one before
abbrev pub Unlisted : List (Option Holder) → List (Option Holder) → Type 0
Unlisted old new = (p n : ℕ) → (holder_at new p).list ≡ Some n → holder_at new p ≡ holder_at old p

set_unlisted : (places : List (Option Holder)) (k : ℕ) (x : Option Holder) → (or_nobody x).list ≡ None → Unlisted places (slice_set places k x)
set_unlisted places k x e p n f = by (set_either places k p x None)
  where
    by : (slice_index_or (slice_set places k x) p None ≡ x) ⊎ (slice_index_or (slice_set places k x) p None ≡ slice_index_or places p None) → holder_at (slice_set places k x) p ≡ holder_at places p
    by (inl g) = absurd (none-some n (sym e ∙ (sym (ap (λ o. (or_nobody o).list) g) ∙ f)))
    by (inr g) = ap or_nobody g

put_unlisted : (at : Option ℕ) (places : List (Option Holder)) (x : Option Holder) → (or_nobody x).list ≡ None → Unlisted places (put_at at x places)
put_unlisted None places x e = λ p n f. refl
put_unlisted (Some k) places x e = set_unlisted places k x e

taken_unlisted : (found : Option Holder) (place initiator : ℕ) (places : List (Option Holder)) → Unlisted places (taken_by found place initiator places)
taken_unlisted None place initiator places = λ p n f. refl
taken_unlisted (Some h) place initiator places = set_unlisted places place (Some (record h { initiator = initiator; list = None })) refl

back_unlisted : (at : Option ℕ) (initiator : ℕ) (places : List (Option Holder)) → Unlisted places (back_at at initiator places)
back_unlisted None initiator places = λ p n f. refl
back_unlisted (Some place) initiator places = taken_unlisted (place_in places place) place initiator places

pub left_unlisted : (login : ℕ) (places : List (Option Holder)) → Unlisted places (left_step login places)
unfolding left_step
left_unlisted login places = put_unlisted (position (has_login login) places) places None refl

managed_unlisted : (word : FunctionWord) (subject login initiator : ℕ) (places : List (Option Holder)) → Unlisted places (managed_places word subject login initiator places)
unfolding enter_step back_step
managed_unlisted functions.Login subject login initiator places = put_unlisted (position is_free places) places (Some _) refl
managed_unlisted functions.Reconnect subject login initiator places = back_unlisted (position (has_login subject) places) initiator places
managed_unlisted functions.Query subject login initiator places = λ p n f. refl
managed_unlisted functions.Logout subject login initiator places = λ p n f. refl
managed_unlisted functions.Abort subject login initiator places = λ p n f. refl
managed_unlisted functions.AbortSet subject login initiator places = λ p n f. refl
managed_unlisted functions.UnitReset subject login initiator places = λ p n f. refl
managed_unlisted functions.TargetReset subject login initiator places = λ p n f. refl
managed_unlisted functions.Other subject login initiator places = λ p n f. refl

pub decided_unlisted : (status : ℕ) (word : FunctionWord) (subject login initiator : ℕ) (places : List (Option Holder)) → Unlisted places (decided_places status word subject login initiator places)
decided_unlisted status word subject login initiator places = by (status == 0)
  where
    by : (b : Bool) → Unlisted places (cond b (managed_places word subject login initiator places) places)
    by true = managed_unlisted word subject login initiator places
    by false = λ p n f. refl

-- ---- what the target tells beside its agents
-- neither of an agent's step nor of a pointer
abbrev pub IsBeside : Side → Type 0
IsBeside (sides.Own note) = ⊥
IsBeside (sides.Opened place orb) = ⊥
IsBeside (sides.Ran place orb cdb payload outcome) = ⊥
IsBeside (sides.Ended place orb status) = ⊥
IsBeside side = Unit {0}

-- ---- other machines: the same, without a list, or with the mark of an abort
pub data IsLess : Machine → Machine → Type 0 where
  same : (m : Machine) → IsLess m m
  shut : (m now : Machine) → has_list now.phase ≡ false → IsLess m now
  marked : (m : Machine) (orb : ℕ) → IsLess m (abort_step m orb)

module _ (wild : ℕ → Bool) (past : List Moment) where
  module _ (machines : ℕ → Machine) where
    rehold : (w : WorldState) (places : List (Option Holder)) → Unlisted w.places places → Kept wild past machines w → (p : ℕ) → p < 8 → AgentOn wild (hist past w) (holder_at places p) (machines p)
    rehold w places u k p b h n e f = subst (λ (x : Holder). AgentOn wild (hist past w) x (machines p)) (sym (u p n e)) (k.on p b) h n e f

    pub one_beside : (side : Side) (w : WorldState) → IsBeside side → Kept wild past machines w → Kept wild past machines (told 0 side w)
    unfolding told
    one_beside (sides.Own note) w h k = absurd h
    one_beside (sides.Opened place orb) w h k = absurd h
    one_beside (sides.Ran place orb cdb payload outcome) w h k = absurd h
    one_beside (sides.Ended place orb status) w h k = absurd h
    one_beside (sides.Dead place cause) w h k = keeps (tt, k.passes) (k.on)
    one_beside (sides.Cut place cause) w h k = keeps (tt, k.passes) (k.on)
    one_beside (sides.Managed node function subject status login) w h k = keeps (tt, k.passes) (rehold w (decided_places status (function_word function) subject login (initiator_of w node) w.places) (decided_unlisted status (function_word function) subject login (initiator_of w node) w.places) k)
    one_beside (sides.ManageFailed node cause) w h k = keeps (tt, k.passes) (k.on)
    one_beside (sides.Held login) w h k = keeps (tt, k.passes) (k.on)
    one_beside (sides.Expired login) w h k = keeps (tt, k.passes) (rehold w (left_step login w.places) (left_unlisted login w.places) k)
    one_beside (sides.Back login) w h k = keeps (tt, k.passes) (k.on)
    one_beside (sides.Left login) w h k = keeps (tt, k.passes) (rehold w (left_step login w.places) (left_unlisted login w.places) k)
    one_beside (sides.Cleared unit) w h k = keeps (tt, k.passes) (k.on)
    one_beside (sides.Unsolicited place) w h k = keeps (tt, k.passes) (k.on)
    one_beside (sides.Unsent place) w h k = keeps (tt, k.passes) (k.on)

    -- ---- packets
    asked_kept : (serial to node peer : ℕ) (label : Option LabelParts) (w : WorldState) → Kept wild past machines w → Kept wild past machines (asked serial to node peer label w)
    asked_kept serial to node peer None w k = k
    asked_kept serial to node peer (Some label) w k = keeps k.passes (k.on)

    to_kept : (to : Option ℕ) (from : ℕ) (packet : Outgoing) (w : WorldState) → Kept wild past machines w → Kept wild past machines (sent_to to from packet w)
    unfolding posted
    to_kept None from packet w k = k
    to_kept (Some to) from packet w k = asked_kept (w.store.last + 1) to from packet.to packet.label (posted from to false packet.bytes w) (keeps (tt, k.passes) (k.on))

    sent_kept : (from : ℕ) (packet : Outgoing) (w : WorldState) → Kept wild past machines w → Kept wild past machines (sent from packet w)
    unfolding sent
    sent_kept from packet w k = to_kept (node_of w.generations from packet.to) from packet w k

    pub all_kept : (from : ℕ) (packets : List Outgoing) (w : WorldState) → Kept wild past machines w → Kept wild past machines (sent_all from packets w)
    unfolding sent_all
    all_kept from [] w k = k
    all_kept from (packet ∷ later) w k = all_kept from later (sent from packet w) (sent_kept from packet w k)

  has_not : (b : Bool) → b ≡ false → b ≡ true → ⊥
  has_not b e f = no (sym e ∙ f)

  abort_list : (m : Machine) (orb : ℕ) → (abort_step m orb).phase ≡ m.phase
  unfolding abort_step
  abort_list m orb = refl

  agent_less : (ms : List Moment) (h : Holder) (m now : Machine) → IsLess m now → AgentOn wild ms h m → AgentOn wild ms h now
  agent_less ms h m _ (same _) a = a
  agent_less ms h m _ (shut _ now e) a = λ d n f g. absurd (has_not (has_list now.phase) e d)
  agent_less ms h m _ (marked _ orb) a = λ d n f g.
      let o = a (sym (ap has_list (abort_list m orb)) ∙ d) n f g in
      record { progress = o.progress; is = o.is; ran = o.ran; along = ((keeps_along (orbs ms h.initiator n)).aborts o.progress m orb o.along).along }

  pub less_kept : (before now : ℕ → Machine) (w : WorldState) → ((p : ℕ) → IsLess (before p) (now p)) → Kept wild past before w → Kept wild past now w
  less_kept before now w less k = keeps k.passes (λ p b. agent_less (hist past w) (holder w p) (before p) (now p) (less p) (k.on p b))

  pub as_kept : (before now : ℕ → Machine) (w : WorldState) → ((p : ℕ) → now p ≡ before p) → Kept wild past before w → Kept wild past now w
  as_kept before now w are k = keeps k.passes (λ p b. subst (AgentOn wild (hist past w) (holder w p)) (sym (are p)) (k.on p b))
