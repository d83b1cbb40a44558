-- Where a write of an initiator goes that is under way, at each place: one of an operation of management to MANAGEMENT_AGENT, where the terms have that too; and every other one elsewhere, where each login that it was done with was granted an agent of a place.
use Rattle.std.proofs.Common.{arith, ◌≡◌, ◌∙◌, ◌⊎◌, inl, inr, refl, sym, ap, subst, ℕ, suc, ◌+◌, ◌^◌, ◌<◌, ◌≤◌, ◌==◌, nat_eq, is_some, Bool, true, false, cond, length, List, [], ◌∷◌, ◌++◌, Option, Some, None}
use Rattle.std.proofs.lemmas.Bool.Decides.{nat_tests}
use Rattle.bus_transactions.specs.Packets.{SerialsCount}
use Rattle.bus_transactions.specs.Reached.{IsAwaited}
use Rattle.bus_transactions.specs.Wire.{transaction}
use Rattle.bus_transactions.proofs.Facts.{begun_asked}
use Rattle.initiator_base.specs.Places.{behind_by, management_at}
use Rattle.mgmt_agent.specs.Decisions.{agent_base}
use Rattle.orb_layout.specs.declared.login.LoginResponse.{LoginResponse}
use Rattle.rbc_disk.specs.Disk.{Disk}
use Rattle.sbp_initiator.specs.declared.purpose.Purpose.{Purpose}
use Rattle.sbp_initiator.specs.declared.state.InitiatorState.{InitiatorState}
use Rattle.sbp_journal.specs.Addresses.{Access, management_address}
use Rattle.sbp_journal.specs.Run.{Moment, asked, said}
use Rattle.sbp_journal.specs.Transactions.{Kind, Sending}
use Rattle.sbp_journal.specs.Wire.{Terms, terms}
use Rattle.sbp_journal.specs.declared.event.Action.{Action}
use Rattle.sbp_journal.specs.declared.event.Event.{Event}
use Rattle.sbp_journal.specs.declared.event.Event.TheVariants as events
use Rattle.sbp_journal.specs.declared.note.Note.TheVariants as notes
use Rattle.sbp_journal.specs.declared.operation.Operation.TheVariants as operations
use Rattle.sbp_journal.specs.declared.operation.OpWord.TheVariants as words
use Rattle.sbp_laws.specs.Hosts.{Host, host_at}
use Rattle.sbp_laws.specs.OnceLaw.{is_write_in}
use Rattle.sbp_laws.specs.Operations.{is_management_write, management_offset}
use Rattle.sbp_laws.specs.Packets.{access_at, access_in, access_in_bytes, packet_in}
use Rattle.sbp_laws.specs.Turns.{EachMoment, event_of}
use Rattle.sbp_world.proofs.Agents.Management.Still.{hist}
use Rattle.sbp_world.proofs.Common.{equal, none_is, untrue}
use Rattle.sbp_world.proofs.Hosts.Remaining.{remains, serials_behind}
use Rattle.sbp_world.proofs.Hosts.SentMoments.{WasSent, count_now, sent_moment, serials_from}
use Rattle.sbp_world.proofs.Lists.HostLogins.{GrantsAt, login_good}
use Rattle.sbp_world.proofs.Lists.StatusKnown.{each_from}
use Rattle.sbp_world.proofs.Pointers.Written.{older_asked}
use Rattle.sbp_world.specs.Lists.FewLogins.{IsCalmBeside}
use Rattle.sbp_world.specs.Lists.Placings.{BasedAt, HasBase}
use Rattle.sbp_world.specs.Lists.Roms.{AreManaged}
use Rattle.sbp_world.specs.Pointers.Moments.{asked_in, own_action}
use Rattle.sbp_world.specs.Worlds.{Scene, initiator_at}
use Rattle.turn_laws.proofs.HostRoms.{Rom}
use Rattle.turn_laws.proofs.KnownRuns.{Known}
use Rattle.turn_laws.proofs.ManagerKnown.{Knows}
use Rattle.turn_laws.proofs.OwnTurns.{sender_is}
use Rattle.turn_laws.proofs.Places.{Place}
use Rattle.turn_laws.proofs.ReadsCarried.{asked_here}
use Rattle.turn_laws.proofs.RegisterWrites.{IsRegister, RegistersAt}
use Rattle.turn_laws.proofs.RequestFirsts.{IsNull, Tied, is_managing}
use Rattle.turn_laws.proofs.RomEnds.{known_at}
use Rattle.turn_laws.proofs.RomKnown.{KnownOf}
use Rattle.turn_laws.proofs.RomSmall.{IsSmallDistance}

-- ---- the action of a packet is that of its line
asked_behind : (later before : List Moment) (serial i : ℕ) → SerialsCount (later ++ before) → serial ≤ (terms before).count → asked_in (later ++ before) serial i ≡ asked_in before serial i
asked_behind [] before serial i c l = refl
asked_behind (said (notes.Sent s generation from to bytes) ∷ later) before serial i c l =
    let most = (remains later before c.1).count in
    let new = c.0 in
    older_asked i s generation from to bytes (later ++ before) serial (let apart : nat_eq serial s ≡ false = grind (arith, nat_tests, most, new, l) in apart) ∙ asked_behind later before serial i c.1 l
asked_behind (asked line event ∷ later) before serial i c l = asked_behind later before serial i (serials_behind (asked line event) (later ++ before) c) l
asked_behind (said note ∷ later) before serial i c l = asked_behind later before serial i (serials_behind (said note) (later ++ before) c) l

own_line : (i : ℕ) (event : Option Event) (action : Action) → own_action i event ≡ Some action → event ≡ Some (events.Act i action)
own_line i (Some (events.Act j other)) action e = by (nat_eq i j) refl e
  where
    by : (b : Bool) → nat_eq i j ≡ b → cond b (Some other) None ≡ Some action → Some (events.Act j other) ≡ Some (events.Act i action)
    by true f g =
        let node : i ≡ j = equal i j f in
        let same : other ≡ action = (let z : Some other ≡ Some action = g in cc) in
        ap (λ n. Some (events.Act n other)) (sym node) ∙ ap (λ a. Some (events.Act i a)) same
    by false f g = none_is action g
own_line i None action e = none_is action e
own_line i (Some event) action e = none_is action e

-- ---- the agents of logins
abbrev IsFar : LoginResponse → Type 0
IsFar response = (response.agent ≡ 0) ⊎ HasBase response

login_far : (past : List Moment) (i : ℕ) → i < 8 → EachMoment (BasedAt i) past → IsFar (host_at past i).login
login_far past i small based = login_good IsFar past i (inr (record { place = i; small = small; base = refl })) (inl refl) (all_far past based)
  where
    far_at : (m : Moment) (past : List Moment) → BasedAt i m past → GrantsAt IsFar i m past
    far_at (asked line event) past h = tt
    far_at (said (notes.Op j operations.Login words.Done)) past h = λ e. inr (h e)
    far_at (said note) past h = tt

    all_far : (past : List Moment) → EachMoment (BasedAt i) past → EachMoment (GrantsAt IsFar i) past
    all_far [] h = tt
    all_far (m ∷ past) h = (far_at m past h.0, all_far past h.1)

-- a register of such an agent is neither at MANAGEMENT_AGENT nor at 0
abbrev IsElsewhere : ℕ → Type 0
IsElsewhere offset = (offset ≡ management_address → ⊥) × (offset ≡ 0 → ⊥)

none_elsewhere : (distance offset : ℕ) → 0 < distance → distance < 0x20 → offset ≡ behind_by 0 distance → IsElsewhere offset
none_elsewhere distance offset some small e = ((λ f. absurd (omega (arith, some, small, e, f))), λ f. absurd (omega (arith, some, small, e, f)))

based_elsewhere : (place distance offset : ℕ) → place < 8 → 0 < distance → distance < 0x20 → offset ≡ behind_by (agent_base place) distance → IsElsewhere offset
based_elsewhere place distance offset b some small e = ((λ f. absurd (omega (arith, b, some, small, e, f))), λ f. absurd (omega (arith, b, some, small, e, f)))

register_elsewhere : (response : LoginResponse) (offset : ℕ) → IsFar response → IsRegister response.agent offset → IsElsewhere offset
register_elsewhere response offset far r = by far r.is
  where
    by : IsFar response → (offset ≡ behind_by response.agent r.distance) ⊎ (offset ≡ behind_by 0 r.distance) → IsElsewhere offset
    by far (inr e) = none_elsewhere r.distance offset r.some r.small e
    by (inl f) (inl e) = none_elsewhere r.distance offset r.some r.small (e ∙ ap (λ n. behind_by n r.distance) f)
    by (inr f) (inl e) = based_elsewhere f.place r.distance offset f.small r.some r.small (e ∙ ap (λ n. behind_by n r.distance) f.base)

-- ---- where MANAGEMENT_AGENT stands by the terms
offset_known : (distance : ℕ) → distance < 2 ^ 24 → management_offset (Some distance) ≡ management_at distance
offset_known distance small = omega (arith, small)

-- known or not
offset_is : (found own : Option ℕ) → known_at found ≡ own → IsSmallDistance found → ((offset : ℕ) → own ≡ Some offset → offset ≡ management_address) → (management_offset found ≡ management_address) ⊎ ((management_offset found ≡ 0) × (own ≡ None))
offset_is None own e small there = inr (refl, sym e)
offset_is (Some distance) own e small there = inl (offset_known distance small ∙ there (management_at distance) (sym e))

module _ (units ready : ℕ) (start : List Disk) (past : List Moment) (s : Scene) (here : Place units ready start past s) (k : Known start (hist past s.world) s) (i : ℕ) (inside : i < length s.world.initiators) where
  abbrev old : InitiatorState
  old = initiator_at s.world i

  abbrev ms : List Moment
  ms = hist past s.world

  abbrev wire : Terms
  wire = terms ms

  abbrev host : Host
  host = host_at ms i

  abbrev known_here : KnownOf ms i old
  known_here = k.1.each i inside

  few : i < 8
  few = (let most = here.holds.sound.stands.is.few in omega (arith, inside, most))

  managed : AreManaged ms s.world i
  managed = here.managed i inside

  there : (management_offset host.management ≡ management_address) ⊎ ((management_offset host.management ≡ 0) × (old.management ≡ None))
  there = offset_is host.management old.management (ap (λ (r : Rom). r.management) known_here.is) known_here.small managed.known

  -- ---- a request under way, for this
  module _ (number : ℕ) (its : Purpose) (kind : Kind) (own : ℕ) (tied : Tied ms i old number its) (own_is : tied.serial ≡ own) (awaits : IsAwaited wire (transaction old.layer.generation (suc i) 0 number) kind own) (serials : SerialsCount ms) where
    abbrev packet : Sending
    packet = awaits.packet

    from_is : packet.from ≡ suc i
    from_is = sender_is packet (transaction old.layer.generation (suc i) 0 number) number kind awaits.part awaits.begun

    honest : packet.injected ≡ false
    honest = (begun_asked packet (transaction old.layer.generation (suc i) 0 number) awaits.begun).0

    asked_is : asked_in ms own i ≡ Some tied.action
    asked_is = ap (λ n. asked_in ms n i) (sym own_is) ∙ tied.asked

    module _ (access : Access) (spelled : access_in_bytes packet.bytes ≡ Some access) (writes : access.is_write ≡ true) where
      -- of an operation of management
      module _ (manages_it : is_managing its ≡ true) where
        at_manager : access.offset ≡ management_address
        at_manager = managed.writes own packet tied.action access awaits.sent from_is honest asked_is (tied.makes ∙ manages_it) spelled

        known_there : Knows old ⊎ IsNull ms tied.serial → Knows old
        known_there (inl h) = h
        known_there (inr h) = (let null : access.offset ≡ 0 = h packet access (ap (λ n. wire.sent n) own_is ∙ awaits.sent) spelled in absurd (omega (arith, null, at_manager)))

        offset_there : management_offset host.management ≡ management_address
        offset_there = by there
          where
            by : (management_offset host.management ≡ management_address) ⊎ ((management_offset host.management ≡ 0) × (old.management ≡ None)) → management_offset host.management ≡ management_address
            by (inl e) = e
            by (inr e) = untrue (sym (ap is_some e.1) ∙ known_there (tied.knows manages_it))

        to_manager : (access.offset == management_offset host.management) ≡ true
        to_manager = ap (λ n. access.offset == n) offset_there ∙ ap (λ n. n == management_address) at_manager

      -- of another action
      module _ (other : is_managing its ≡ false) (calm : IsCalmBeside ms i) where
        was : WasSent ms own packet
        was = sent_moment ms own packet awaits.sent

        abbrev sent_here : List Moment
        sent_here = said (notes.Sent own packet.generation packet.from packet.to packet.bytes) ∷ was.before

        abbrev whole : (At : Moment → List Moment → Type 0) → EachMoment At ms → EachMoment At sent_here
        whole At h = each_from At was.later sent_here (subst (EachMoment At) (sym was.is) h)

        counts : SerialsCount (was.later ++ sent_here)
        counts = subst SerialsCount (sym was.is) serials

        own_line_is : event_of was.before ≡ Some (events.Act i tied.action)
        own_line_is =
            let new = (serials_from was.later sent_here counts).0 in
            let now = count_now was.before own packet.generation packet.from packet.to packet.bytes in
            let below : own ≤ (terms sent_here).count = omega (arith, new, now) in
            own_line i (event_of was.before) tied.action
            (sym (asked_here own packet.generation packet.to packet.bytes was.before i)
            ∙ ap (λ n. asked_in (said (notes.Sent own packet.generation n packet.to packet.bytes) ∷ was.before) own i) (sym from_is)
            ∙ sym (asked_behind was.later sent_here own i counts below)
            ∙ ap (λ past. asked_in past own i) was.is ∙ asked_is)

        elsewhere : IsElsewhere access.offset
        elsewhere =
            register_elsewhere (host_at was.before i).login access.offset (login_far was.before i few (whole (BasedAt i) (here.based i inside calm)).1)
            (((whole (RegistersAt i) (here.registers i inside)).0 from_is (was.injected ∙ honest) tied.action own_line_is (tied.makes ∙ other)).at access spelled writes)

        not_manager : (access.offset == management_offset host.management) ≡ false
        not_manager = by there
          where
            apart : (m n : ℕ) → (m ≡ n → ⊥) → (m == n) ≡ false
            apart m n f = by_test (m == n) refl
              where
                by_test : (b : Bool) → (m == n) ≡ b → (m == n) ≡ false
                by_test false e = e
                by_test true e = absurd (f (equal m n e))

            by : (management_offset host.management ≡ management_address) ⊎ ((management_offset host.management ≡ 0) × (old.management ≡ None)) → (access.offset == management_offset host.management) ≡ false
            by (inl e) = ap (λ n. access.offset == n) e ∙ apart access.offset management_address elsewhere.0
            by (inr e) = ap (λ n. access.offset == n) e.0 ∙ apart access.offset 0 elsewhere.1

    -- so it is by the terms
    pub aims : is_write_in (access_at wire own) ≡ true → (is_managing its ≡ false → is_management_write host (access_at wire own) ≡ true → IsCalmBeside ms i) → is_management_write host (access_at wire own) ≡ is_managing its
    aims write calm = by (access_in_bytes packet.bytes) refl
      where
        access_is : access_at wire own ≡ access_in_bytes packet.bytes
        access_is = ap (λ x. access_in (packet_in x)) awaits.sent

        tested_is : (access : Access) → access_in_bytes packet.bytes ≡ Some access → is_management_write host (access_at wire own) ≡ (access.offset == management_offset host.management)
        tested_is access e = ap (is_management_write host) (access_is ∙ e)

        by_purpose : (access : Access) (spelled : access_in_bytes packet.bytes ≡ Some access) → access.is_write ≡ true → (b c : Bool) → is_managing its ≡ b → (access.offset == management_offset host.management) ≡ c → (access.offset == management_offset host.management) ≡ b
        by_purpose access spelled w true c e f = to_manager access spelled w e
        by_purpose access spelled w false false e f = f
        by_purpose access spelled w false true e f = not_manager access spelled w e (calm e (tested_is access spelled ∙ f))

        by : (found : Option Access) → access_in_bytes packet.bytes ≡ found → is_management_write host (access_at wire own) ≡ is_managing its
        by None e = untrue (sym (ap is_write_in (access_is ∙ e)) ∙ write)
        by (Some access) e =
            tested_is access e ∙ by_purpose access e (sym (ap is_write_in (access_is ∙ e)) ∙ write) (is_managing its) (access.offset == management_offset host.management) refl refl
