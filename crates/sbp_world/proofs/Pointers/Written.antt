-- What each write of an initiator is, by its packet.
use Rattle.sbp_world.proofs.Words.Std.{arith, ◌≡◌, refl, sym, ◌∙◌, ap, subst, ℕ, zero, suc, ◌==◌, nat_eq, Bool, true, false, cond, List, [], ◌∷◌, Option, Some, None, nat_tests, same_Some}
use Rattle.sbp_world.proofs.Words.Wire.{Access, Moment, asked, said, Sending, terms, Action, Event}
use Rattle.sbp_world.proofs.Words.Laws.{host_at, access_in_bytes, EachMoment, event_of}
use Rattle.sbp_world.proofs.Words.World.{MayAsk, MaySend, MayStand, MayWrite, asked_in, own_action, writes_bell, writes_enable, writes_management, writes_pointer, writes_reset, IsWrite, of_bell, of_enable, of_management, of_pointer, of_reset, pointed_list}
use Rattle.sbp_journal.specs.declared.event.Action.TheVariants as actions
use Rattle.sbp_journal.specs.declared.event.Event.TheVariants as events
use Rattle.sbp_journal.specs.declared.note.Note.TheVariants as notes
use Rattle.sbp_world.proofs.Hosts.Carries.{IsNoAct}
use Rattle.sbp_world.proofs.Hosts.Held.{sent_new, sent_old}
use Rattle.sbp_world.specs.Pointers.Moments.{IsWritten}
use Rattle.sbp_world.proofs.Pointers.Ages.{is_leaving, moment_sent}
use Rattle.sbp_world.proofs.Pointers.Calms.{AllCalm, Calm}
use Rattle.sbp_world.proofs.Pointers.Quiet.{writes_in}
use Rattle.sbp_world.proofs.Pointers.Sending.{written_now}
use Rattle.sbp_world.proofs.Common.{itself, cond_off, cond_on, untrue}

-- ---- each write is asked for in the line of an action

-- in whose line
data Whose (i : ℕ) (event : Option Event) : Type 0 where
  own_line : (action : Action) → event ≡ Some (events.Act i action) → Whose i event
  other_line : IsNoAct i event → Whose i event

acts_whose : (i j : ℕ) (action : Action) (b : Bool) → (i == j) ≡ b → Whose i (Some (events.Act j action))
acts_whose i j action true e = let same : j ≡ i = grind (arith, nat_tests) in own_line action (ap (λ k. Some (events.Act k action)) same)
acts_whose i j action false e = other_line e

whose : (i : ℕ) (event : Option Event) → Whose i event
whose i (Some (events.Act j action)) = acts_whose i j action (i == j) refl
whose i None = other_line tt
whose i (Some (events.Begin initiators ready)) = other_line tt
whose i (Some (events.Reset physical)) = other_line tt
whose i (Some (events.See node)) = other_line tt
whose i (Some (events.Deliver serial)) = other_line tt
whose i (Some (events.Repeat serial)) = other_line tt
whose i (Some (events.Lose serial)) = other_line tt
whose i (Some (events.Timeout serial)) = other_line tt
whose i (Some (events.Step count)) = other_line tt
whose i (Some events.Settle) = other_line tt
whose i (Some events.Tick) = other_line tt
whose i (Some (events.Inject initiator bytes)) = other_line tt
whose i (Some (events.Key unit key)) = other_line tt

module _ (i : ℕ) where
  write_asked : (serial generation from to : ℕ) (bytes : List ℕ) (past : List Moment) → MayStand i (said (notes.Sent serial generation from to bytes)) past → Calm (said (notes.Sent serial generation from to bytes)) past → MayAsk i (said (notes.Sent serial generation from to bytes)) past
  write_asked serial generation from to bytes past m c same honest access e w = by (whose i (event_of past))
    where
      is : from ≡ suc i
      is = grind (arith, nat_tests)

      by : Whose i (event_of past) → IsWritten past i (host_at (said (notes.Sent serial generation (suc i) to bytes) ∷ past) i).pointer serial access
      by (own_line action l) = record { action = action; line = l; is = (m same honest).writes action l access e w }
      by (other_line n) = untrue (sym (c i is honest n) ∙ ap writes_in e ∙ w)

  pub all_asked : (past : List Moment) → EachMoment (MayStand i) past → AllCalm past → EachMoment (MayAsk i) past
  all_asked [] m c = tt
  all_asked (asked line event ∷ past) m c = (tt, all_asked past m.1 c.1)
  all_asked (said (notes.Sent serial generation from to bytes) ∷ past) m c = (write_asked serial generation from to bytes past m.0 c.0, all_asked past m.1 c.1)
  all_asked (said _ ∷ past) m c = (tt, all_asked past m.1 c.1)

-- ---- a write

abbrev Writes : List Moment → ℕ → Type 0
Writes past i = (serial : ℕ) (packet : Sending) → (terms past).sent serial ≡ Some packet → packet.from ≡ suc i → packet.injected ≡ false → (access : Access) → access_in_bytes packet.bytes ≡ Some access → access.is_write ≡ true → IsWrite past i serial access

-- one that was sent before
goes_on : (past now : List Moment) (i x : ℕ) (access : Access) → pointed_list now x i ≡ pointed_list past x i → asked_in now x i ≡ asked_in past x i → IsWrite past i x access → IsWrite now i x access
goes_on past now i x access e f (of_pointer n p) = of_pointer n (e ∙ p)
goes_on past now i x access e f (of_bell base p) = of_bell base p
goes_on past now i x access e f (of_reset base a p) = of_reset base (f ∙ a) p
goes_on past now i x access e f (of_enable base p) = of_enable base p
goes_on past now i x access e f (of_management action a m offset place p) = of_management action (f ∙ a) m offset place p

module _ (i serial generation from to : ℕ) (bytes : List ℕ) (past : List Moment) where
  abbrev now : List Moment
  now = said (notes.Sent serial generation from to bytes) ∷ past

  abbrev packet : Sending
  packet = record { generation = generation; from = from; to = to; bytes = bytes; injected = (terms past).injected serial }

  -- this one
  new_write : MayStand i (said (notes.Sent serial generation from to bytes)) past → (is : from ≡ suc i) → (access : Access) → IsWritten past i (host_at (said (notes.Sent serial generation (suc i) to bytes) ∷ past) i).pointer serial access → (terms past).injected serial ≡ false → IsWrite now i serial access
  new_write m is access w honest = subst (λ x. IsWrite (said (notes.Sent serial generation x to bytes) ∷ past) i serial access) (sym is) (by w.is)
    where
      may : MaySend past i serial generation to bytes
      may = m (let f : (from == suc i) ≡ true = grind (arith, nat_tests) in f) honest

      asks : (action : Action) → w.action ≡ action → asked_in (said (notes.Sent serial generation (suc i) to bytes) ∷ past) serial i ≡ Some action
      asks action e =
          cond_on (nat_eq serial serial) (cond (nat_eq i i) (own_action i (event_of past)) (asked_in past serial i)) (asked_in past serial i) (itself serial)
          ∙ cond_on (nat_eq i i) (own_action i (event_of past)) (asked_in past serial i) (itself i)
          ∙ ap (own_action i) w.line
          ∙ cond_on (nat_eq i i) (Some w.action) None (itself i)
          ∙ ap Some e

      by : MayWrite past i (host_at (said (notes.Sent serial generation (suc i) to bytes) ∷ past) i).pointer serial w.action access → IsWrite (said (notes.Sent serial generation (suc i) to bytes) ∷ past) i serial access
      by (writes_pointer r named) = let p = may.points named in of_pointer p.list (written_now past i serial generation to bytes p.list named p.present)
      by (writes_bell r list other base present p e) = of_bell base e
      by (writes_reset a base e) = of_reset base (asks actions.AgentReset a) e
      by (writes_enable a base e) = of_enable base e
      by (writes_management a offset place e) = of_management w.action (asks w.action refl) a offset place e

older_list : (i serial generation from to : ℕ) (bytes : List ℕ) (past : List Moment) (x : ℕ) → nat_eq x serial ≡ false → pointed_list (said (notes.Sent serial generation from to bytes) ∷ past) x i ≡ pointed_list past x i
older_list i serial generation zero to bytes past x e = refl
older_list i serial generation (suc j) to bytes past x e = cond_off (nat_eq x serial) _ (pointed_list past x i) e

pub older_asked : (i serial generation from to : ℕ) (bytes : List ℕ) (past : List Moment) (x : ℕ) → nat_eq x serial ≡ false → asked_in (said (notes.Sent serial generation from to bytes) ∷ past) x i ≡ asked_in past x i
older_asked i serial generation zero to bytes past x e = refl
older_asked i serial generation (suc j) to bytes past x e = cond_off (nat_eq x serial) _ (asked_in past x i) e

sent_writes : (i serial generation from to : ℕ) (bytes : List ℕ) (past : List Moment) → MayStand i (said (notes.Sent serial generation from to bytes)) past → MayAsk i (said (notes.Sent serial generation from to bytes)) past → Writes past i → Writes (said (notes.Sent serial generation from to bytes) ∷ past) i
sent_writes i serial generation from to bytes past m a k x other sent is honest access spelled w = by (nat_eq x serial) refl
  where
    by : (c : Bool) → nat_eq x serial ≡ c → IsWrite (said (notes.Sent serial generation from to bytes) ∷ past) i x access
    by false e =
        goes_on past (said (notes.Sent serial generation from to bytes) ∷ past) i x access (older_list i serial generation from to bytes past x e) (older_asked i serial generation from to bytes past x e)
        (k x other (sym (sent_old serial x _ (terms past) e) ∙ sent) is honest access spelled w)
    by true e =
        let same : x ≡ serial = grind (arith, nat_tests) in
        let own = packet i serial generation from to bytes past in
        let p : own ≡ other = same_Some own other (sym (sent_new serial own (terms past)) ∙ ap (terms (said (notes.Sent serial generation from to bytes) ∷ past)).sent (sym same) ∙ sent) in
        let from_is : from ≡ suc i = ap (λ (y : Sending). y.from) p ∙ is in
        let fair : (terms past).injected serial ≡ false = ap (λ (y : Sending). y.injected) p ∙ honest in
        let written = a (let f : (from == suc i) ≡ true = grind (arith, nat_tests) in f) fair access (ap (λ (y : Sending). access_in_bytes y.bytes) p ∙ spelled) w in
        subst (λ y. IsWrite (said (notes.Sent serial generation from to bytes) ∷ past) i y access) (sym same) (new_write i serial generation from to bytes past m from_is access written fair)

-- a moment at which no packet is sent
still_list : (m : Moment) (past : List Moment) (i x : ℕ) → is_leaving m ≡ false → pointed_list (m ∷ past) x i ≡ pointed_list past x i
still_list (said (notes.Sent s generation from to bytes)) past i x e = untrue (sym e)
still_list (asked line event) past i x e = refl
still_list (said note) past i x e = refl

pub still_asked : (m : Moment) (past : List Moment) (i x : ℕ) → is_leaving m ≡ false → asked_in (m ∷ past) x i ≡ asked_in past x i
still_asked (said (notes.Sent s generation from to bytes)) past i x e = untrue (sym e)
still_asked (asked line event) past i x e = refl
still_asked (said note) past i x e = refl

still_writes : (m : Moment) (past : List Moment) (i : ℕ) → is_leaving m ≡ false → Writes past i → Writes (m ∷ past) i
still_writes m past i e k x other sent is honest access spelled w =
    goes_on past (m ∷ past) i x access (still_list m past i x e) (still_asked m past i x e) (k x other (sym (ap (λ f. f x) (moment_sent m past e)) ∙ sent) is honest access spelled w)

pub none_sent : {A : Type 0} (found : Sending) → None ≡ Some found → A
none_sent found e = absurd (differ e)
  where
    differ : None ≡ Some found → ⊥
    differ e = cc

pub all_writes : (i : ℕ) (past : List Moment) → EachMoment (MayStand i) past → EachMoment (MayAsk i) past → Writes past i
all_writes i [] m a = λ x other sent is honest access spelled w. none_sent other sent
all_writes i (asked line event ∷ past) m a = still_writes (asked line event) past i refl (all_writes i past m.1 a.1)
all_writes i (said (notes.Sent serial generation from to bytes) ∷ past) m a = sent_writes i serial generation from to bytes past m.0 a.0 (all_writes i past m.1 a.1)
all_writes i (said note ∷ past) m a = still_writes (said note) past i refl (all_writes i past m.1 a.1)
