-- The operation of an initiator is the one that was under way, or began since.
use Rattle.sbp_world.proofs.Words.Std.{arith, ◌≡◌, ◌⊎◌, inl, inr, ◌∙◌, refl, sym, ap, subst, ◌<◌, ◌≤◌, ◌==◌, ◌&&◌, ℕ, zero, suc, nat_lt, not, Bool, true, false, cond, List, [], ◌∷◌, ◌++◌, Option, Some, None, none-some}
use Rattle.sbp_world.proofs.Words.Wire.{SerialsCount, Moment, asked, said, Part, part_of, request, response, Terms, terms, Action, Event, Note, Operation, OpWord}
use Rattle.sbp_world.proofs.Words.Laws.{Host, Underway, acted, begin_operation, begun, goes_on, host_at, host_by, known_host, list_begins, op_ended, operation_of, ready_host, ring, sent_in, present_list, answered_at, receiver_in, sender_in, event_of}
use Rattle.sbp_journal.specs.Transactions.{no_packet}
use Rattle.sbp_journal.specs.declared.event.Action.TheVariants as actions
use Rattle.sbp_journal.specs.declared.event.Event.TheVariants as events
use Rattle.sbp_journal.specs.declared.note.Note.TheVariants as notes
use Rattle.sbp_journal.specs.declared.operation.Operation.TheVariants as operations
use Rattle.sbp_laws.specs.Hosts.{got_by, is_serial, reset_seen, sent_as}
use Rattle.sbp_world.proofs.Hosts.Remaining.{remains, serials_behind}
use Rattle.sbp_world.proofs.Lists.ManageFirsts.{pointer_operation}

-- the operation is the one that there was, but for its latest request
pub record IsSame (before : Option Underway) (now : Underway) : Type 0 where
  pub was : Underway
  pub is : before ≡ Some was
  pub first : was.first ≡ now.first
  pub operation : was.operation ≡ now.operation
  pub place : was.place ≡ now.place

-- since the n-th packet
pub record Goes (n : ℕ) (before now : Host) : Type 0 where
  pub operation : (underway : Underway) → now.operation ≡ Some underway → IsSame before.operation underway ⊎ (n < underway.first)

same_one : (before : Option Underway) (u : Underway) → before ≡ Some u → IsSame before u
same_one before u e = record { was = u; is = e; first = refl; operation = refl; place = refl }

module _ (n : ℕ) where
  pub like : (h k : Host) → k.operation ≡ h.operation → Goes n h k
  like h k e = record { operation = λ u g. inl (same_one h.operation u (sym e ∙ g)) }

  none_now : (h k : Host) → k.operation ≡ None → Goes n h k
  none_now h k e = record { operation = λ u g. absurd (none-some u (sym e ∙ g)) }

  then_op : (a b : Option Underway) (u : Underway) → ((v : Underway) → b ≡ Some v → IsSame a v ⊎ (n < v.first)) → IsSame b u ⊎ (n < u.first) → IsSame a u ⊎ (n < u.first)
  then_op a b u f (inr l) = inr l
  then_op a b u f (inl s) = by (f s.was s.is)
    where
      by : IsSame a s.was ⊎ (n < s.was.first) → IsSame a u ⊎ (n < u.first)
      by (inl t) = inl (record { was = t.was; is = t.is; first = t.first ∙ s.first; operation = t.operation ∙ s.operation; place = t.place ∙ s.place })
      by (inr l) = inr (subst (λ x. n < x) s.first l)

  pub goes_then : (a b c : Host) → Goes n a b → Goes n b c → Goes n a c
  goes_then a b c f g = record { operation = λ u e. then_op a.operation b.operation u f.operation (g.operation u e) }

  pick : (b : Bool) (h x y : Host) → Goes n h x → Goes n h y → Goes n h (cond b x y)
  pick true h x y f g = f
  pick false h x y f g = g

  self : (h : Host) → Goes n h h
  self h = like h h refl

  -- ---- a request is sent
  going : (operation : Option Underway) (serial : ℕ) (h : Host) → h.operation ≡ operation → Goes n h (goes_on operation serial h)
  going None serial h e = self h
  going (Some underway) serial h e = record {
    operation = λ u g. inl (record { was = underway; is = e; first = ap (λ (o : Option Underway). first_of o) g; operation = ap (λ (o : Option Underway). operation_in o) g; place = ap (λ (o : Option Underway). place_of o) g });
  }
    where
      first_of : Option Underway → ℕ
      first_of None = 0
      first_of (Some u) = u.first

      operation_in : Option Underway → Operation
      operation_in None = operations.State
      operation_in (Some u) = u.operation

      place_of : Option Underway → ℕ
      place_of None = 0
      place_of (Some u) = u.place

  module _ (serial : ℕ) (later : n < serial) where
    begins : (operation : Operation) (action : Action) (h : Host) → Goes n h (begin_operation operation action serial h)
    begins operation action h = record { operation = λ u g. inr (first_is u g) }
      where
        first_of : Option Underway → ℕ
        first_of None = 0
        first_of (Some u) = u.first

        first_is : (u : Underway) → (begin_operation operation action serial h).operation ≡ Some u → n < u.first
        first_is u g = subst (λ x. n < x) (ap first_of g) later

    -- with other counts
    as_begun : (operation : Operation) (action : Action) (h k : Host) → k.operation ≡ (begin_operation operation action serial h).operation → Goes n h k
    as_begun operation action h k e = let b = begins operation action h in record { operation = λ u g. b.operation u (sym e ∙ g) }

    rung : (pointer : Option ℕ) (h : Host) → Goes n h (ring pointer serial h)
    rung None h = like h (ring None serial h) refl
    rung (Some first) h = like h (ring (Some first) serial h) refl

    acting : (action : Action) (list : Option ℕ) (h : Host) → Goes n h (acted action (operation_of action) list serial h)
    acting actions.Rom list h = as_begun operations.Rom actions.Rom h _ refl
    acting (actions.Login unit reconnect exclusive password) list h = as_begun operations.Login (actions.Login unit reconnect exclusive password) h _ refl
    acting (actions.Query unit) list h = begins operations.Query (actions.Query unit) h
    acting actions.Reconnect list h = begins operations.Reconnect actions.Reconnect h
    acting actions.Logout list h = begins operations.Logout actions.Logout h
    acting (actions.Abort k) list h = begins operations.Abort (actions.Abort k) h
    acting actions.AbortSet list h = begins operations.AbortSet actions.AbortSet h
    acting actions.UnitReset list h = begins operations.UnitReset actions.UnitReset h
    acting actions.TargetReset list h = begins operations.TargetReset actions.TargetReset h
    acting actions.AgentReset list h = as_begun operations.AgentReset actions.AgentReset h _ refl
    acting actions.Enable list h = begins operations.Enable actions.Enable h
    acting actions.State list h = like h _ refl
    acting actions.Ring list h = rung h.pointer h
    acting (actions.Append cmd) list h = rung h.pointer h
    acting (actions.Put cmd) list h = self h
    acting actions.Low list h = self h
    acting actions.Link list h = self h
    acting (actions.Dummy k) list h = self h

    sends_in : (event : Option Event) (i : ℕ) (list : Option ℕ) (h : Host) → Goes n h (sent_in event i list serial h)
    sends_in (Some (events.Act j action)) i list h = pick (j == i) h _ _ (acting action list h) (going h.operation serial h refl)
    sends_in None i list h = going h.operation serial h refl
    sends_in (Some (events.Begin initiators ready)) i list h = going h.operation serial h refl
    sends_in (Some (events.Reset physical)) i list h = going h.operation serial h refl
    sends_in (Some (events.See node)) i list h = going h.operation serial h refl
    sends_in (Some (events.Deliver s)) i list h = going h.operation serial h refl
    sends_in (Some (events.Repeat s)) i list h = going h.operation serial h refl
    sends_in (Some (events.Lose s)) i list h = going h.operation serial h refl
    sends_in (Some (events.Timeout s)) i list h = going h.operation serial h refl
    sends_in (Some (events.Step count)) i list h = going h.operation serial h refl
    sends_in (Some events.Settle) i list h = going h.operation serial h refl
    sends_in (Some events.Tick) i list h = going h.operation serial h refl
    sends_in (Some (events.Inject from bytes)) i list h = going h.operation serial h refl
    sends_in (Some (events.Key unit key)) i list h = going h.operation serial h refl

    sends_as : (part : Part) (event : Option Event) (i : ℕ) (list : Option ℕ) (h : Host) → Goes n h (sent_as part event i list serial h)
    sends_as (request label kind) event i list h = sends_in event i list h
    sends_as (response label kind) event i list h = self h
    sends_as no_packet event i list h = self h

  -- ---- a packet is got

  gets : (own : Option ℕ) (wire : Terms) (serial : ℕ) (present : Option ℕ) (h : Host) → Goes n h (got_by own wire serial present h)
  gets (Some own) wire serial present h = like h (got_by (Some own) wire serial present h) (pointer_operation _ _ h)
  gets None wire serial present h = like h (got_by None wire serial present h) refl

  -- ---- the rest
  ends : (operation : Operation) (word : OpWord) (h : Host) → Goes n h (op_ended operation word h)
  ends operations.State word h = self h
  ends operation word h = none_now h (op_ended operation word h) refl

  list_ends : (k : ℕ) (h : Host) → Goes n h (list_begins k h)
  list_ends zero h = like h (list_begins zero h) refl
  list_ends (suc k) h = self h

  sees : (b : Bool) (h : Host) → Goes n h (reset_seen b h)
  sees true h = none_now h (reset_seen true h) refl
  sees false h = self h

  begins_run : (ready : Bool) (initiators i : ℕ) (h : Host) → Goes n h (begun ready initiators i h)
  begins_run ready initiators i h = pick (ready && nat_lt i initiators) h (ready_host i) h (none_now h (ready_host i) refl) (self h)

  -- ---- a moment
  -- a packet of an initiator is a later one
  abbrev pub IsLater : ℕ → Note → Type 0
  IsLater i (notes.Sent serial generation from to bytes) = (from == suc i) ≡ true → n < serial
  IsLater i note = Unit {0}

  sent_by : (b c : Bool) (h x : Host) → (b ≡ true → Goes n h x) → Goes n h (cond (b && c) x h)
  sent_by true true h x f = f refl
  sent_by true false h x f = self h
  sent_by false c h x f = self h

  pub noted : (note : Note) (past : List Moment) (wire : Terms) (i : ℕ) (h : Host) → IsLater i note → Goes n h (host_by note past wire i h)
  noted (notes.Begin initiators ready) past wire i h l = begins_run ready initiators i h
  noted (notes.Sent serial generation from to bytes) past wire i h l = sent_by (from == suc i) (not (wire.injected serial)) h _ (λ e. sends_as serial (l e) (part_of bytes) (event_of past) i (present_list past i) h)
  noted (notes.Got serial) past wire i h l = pick (is_serial (receiver_in (wire.sent serial)) (suc i)) h _ h (gets (answered_at wire serial) wire serial (present_list past i) h) (self h)
  noted (notes.TimedOut serial) past wire i h l = pick (is_serial (sender_in (wire.sent serial)) (suc i)) h _ h (like h _ refl) (self h)
  noted (notes.Op j operation word) past wire i h l = pick (j == i) h _ h (ends operation word h) (self h)
  noted (notes.Stuck j) past wire i h l = pick (j == i) h _ h (like h _ refl) (self h)
  noted (notes.Append j m k cdb buffer) past wire i h l = pick (j == i) h _ h (list_ends k h) (self h)
  noted (notes.Drop j m) past wire i h l = pick (j == i) h _ h (list_ends zero h) (self h)
  noted (notes.Taken j m k status answer) past wire i h l = pick (j == i) h _ h (like h _ refl) (self h)
  noted (notes.Seen node generation) past wire i h l = pick (node == suc i) h _ h (sees (not (generation == wire.generation node)) h) (self h)
  noted _ past wire i h l = self h

  -- a moment at which the initiator sends nothing, or a later packet
  abbrev pub IsLaterAt : ℕ → Moment → Type 0
  IsLaterAt i (said note) = IsLater i note
  IsLaterAt i (asked line event) = Unit {0}

  pub one : (m : Moment) (past : List Moment) (i : ℕ) → IsLaterAt i m → Goes n (host_at past i) (host_at (m ∷ past) i)
  one (asked line event) past i l = self (host_at past i)
  one (said note) past i l = noted note past (known_host past i).wire i (host_at past i) l

  later_one : (m : Moment) (past : List Moment) (i : ℕ) → SerialsCount (m ∷ past) → n ≤ (terms past).count → IsLaterAt i m
  later_one (said (notes.Sent serial generation from to bytes)) past i c l = λ same. (let e = c.0 in omega arith)
  later_one (said note) past i c l = tt
  later_one (asked line event) past i c l = tt

-- behind a history
pub since : (later past : List Moment) (i : ℕ) → SerialsCount (later ++ past) → Goes (terms past).count (host_at past i) (host_at (later ++ past) i)
since [] past i c = like (terms past).count (host_at past i) (host_at past i) refl
since (m ∷ later) past i c =
    let n = (terms past).count in
    let whole = later ++ past in
    let rest : SerialsCount whole = serials_behind m whole c in
    let more = (remains later past rest).count in
    goes_then n (host_at past i) (host_at whole i) (host_at (m ∷ whole) i) (since later past i rest) (one n m whole i (later_one n m whole i c (omega (arith, more))))
