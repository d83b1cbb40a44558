-- At a place of a run: where an agent is SUSPENDED that was rung, or was in RESET, and has had its list since, each ORB that was linked then has ended. The null pointer that it read since is that of an ORB in the slot of its last one,
-- which was the last one that was linked as the read was got.
use Rattle.sbp_world.proofs.Words.Std.{arith, ◌≡◌, ◌∙◌, ◌⊎◌, inl, inr, refl, sym, ap, subst, ◌<◌, ◌≤◌, ℕ, suc, cond, nat_eq, Bool, true, false, List, [], ◌∷◌, ◌++◌, length, Some, same_Some}
use Rattle.sbp_world.proofs.Words.Wire.{Moment, SerialsCount, said, terms}
use Rattle.sbp_world.proofs.Words.Target.{Ahead, Disk, Knows, Machine, Main}
use Rattle.sbp_world.proofs.Words.Initiator.{Answer}
use Rattle.sbp_world.proofs.Words.Laws.{Agent, EachMoment, Orb, address_of, answer_in, appends, before_sent, ends, injectors, linked, lists, orb, packet_at, prepared_in, receiver_in, slot_at}
use Rattle.sbp_world.proofs.Words.World.{GoesAlong, IsCalm, IsTameOrFew, Lasts, Remains, WorldState, has_list, holder, initiator_in, machine_at}
use Rattle.command_agent.specs.declared.phase.Phase.TheVariants as phases
use Rattle.sbp_journal.specs.declared.note.Note.TheVariants as notes
use Rattle.sbp_world.specs.Agents.Alike.{Alike}
use Rattle.sbp_world.specs.Completing.Bells.{AllEnded, AllNullsThen, AllRestLast, AreNamedAsGot, BringsNullOf, BroughtNullOf, HasBell, HasListThen, IsOfList, NamedAsGot, WasLastThen, agent_then, of_orb, of_orb_ahead, of_pointer}
use Rattle.sbp_world.specs.Completing.Nulls.{IsNullGot}
use Rattle.sbp_world.specs.Completing.Rung.{IsRung}
use Rattle.sbp_world.proofs.Agents.Management.Holding.{Holding}
use Rattle.sbp_world.proofs.Agents.Management.Still.{hist}
use Rattle.sbp_world.proofs.Common.{moment_joined, moments_joined}
use Rattle.sbp_world.proofs.Completing.BellsNamed.{Known}
use Rattle.sbp_world.proofs.Completing.BellsSlots.{IsBehind, at_behind}
use Rattle.sbp_world.proofs.Hosts.Carrying.{last_from}
use Rattle.sbp_world.proofs.Hosts.Lasting.{from_moment}
use Rattle.sbp_world.proofs.Hosts.LastingTerms.{AllLast}
use Rattle.sbp_world.proofs.Hosts.Remaining.{remains}
use Rattle.sbp_world.proofs.Hosts.SentMoments.{sent_below, serials_from}
use Rattle.sbp_world.proofs.Lists.AnswersCarriedBefore.{stands_at}
use Rattle.sbp_world.proofs.Lists.Brought.{list}
use Rattle.sbp_world.proofs.Lists.DataSlots.{appends_grow, prepared_below}
use Rattle.sbp_world.proofs.Lists.Passing.{PassLaw}
use Rattle.sbp_world.proofs.Lists.Sites.{Site}
use Rattle.sbp_world.proofs.Lists.StatusCall.{AreRested, Held}
use Rattle.sbp_world.proofs.Lists.StatusKnown.{each_from}
use Rattle.sbp_world.proofs.Lists.StatusLogins.{each_there}
use Rattle.sbp_world.proofs.Lists.StatusSteps.{rests_in}
use Rattle.sbp_world.proofs.Lists.StillReads.{same_slot}
use Rattle.sbp_world.proofs.Lists.StillTurns.{site_at}
use Rattle.sbp_world.proofs.Lists.UnrunTerms.{lists_grow}
use Rattle.sbp_world.proofs.Lists.WasReads.{sender_sent}

-- ---- what stood before a packet was sent stands before
record Front (back past : List Moment) : Type 0 where
  front : List Moment
  is : front ++ back ≡ past

front_sent : (past : List Moment) (serial : ℕ) → Front (before_sent past serial) past
front_sent [] serial = record { front = []; is = refl }
front_sent (said (notes.Sent other generation from to bytes) ∷ past) serial = by (front_sent past serial) (nat_eq other serial)
  where
    m : Moment
    m = said (notes.Sent other generation from to bytes)

    by : Front (before_sent past serial) past → (b : Bool) → Front (cond b past (before_sent past serial)) (m ∷ past)
    by f true = record { front = m ∷ []; is = refl }
    by f false = record { front = m ∷ f.front; is = ap (λ ms. m ∷ ms) f.is }
front_sent (m ∷ past) serial = let f = front_sent past serial in record { front = m ∷ f.front; is = ap (λ ms. m ∷ ms) f.is }

appended_before : (past : List Moment) (serial i n k : ℕ) → k < appends (before_sent past serial) i n → k < appends past i n
appended_before past serial i n k below =
    let f = front_sent past serial in
    let more = appends_grow i n k f.front (before_sent past serial) in
    let same : appends (f.front ++ before_sent past serial) i n ≡ appends past i n = ap (λ ms. appends ms i n) f.is in
    omega (arith, below, more, same)

-- ---- at a place
pub record Facts (start_disks : List Disk) (ms : List Moment) (w : WorldState) : Type 0 where
  pub known : Known start_disks ms w
  pub passes : PassLaw (injectors ms) ms
  pub rested : IsTameOrFew ms → AreRested (injectors ms) ms w
  pub rests : IsTameOrFew ms → AllRestLast start_disks ms
  pub nulls : IsTameOrFew ms → (i : ℕ) → i < length w.initiators → IsCalm ms i → AllNullsThen ms i
  pub named : IsTameOrFew ms → EachMoment (NamedAsGot (injectors ms) start_disks) ms

module _ (units ready : ℕ) (has : 0 < units) (start_disks : List Disk) {past : List Moment} {lines : ℕ} (w : WorldState) (h : Holding units ready start_disks past lines w) (facts : Facts start_disks (hist past w) w) (beside : IsTameOrFew (hist past w)) where
  abbrev ms : List Moment
  ms = hist past w

  abbrev wilds : ℕ → Bool
  wilds = injectors ms

  site : Site start_disks past w
  site = site_at start_disks past w facts.known.kit.ground

  module _ (place n : ℕ) (small : place < 8) (inside : initiator_in w place < length w.initiators) (calm : IsCalm ms (initiator_in w place)) (held : (holder w place).list ≡ Some n) (latest : suc n ≡ lists ms (initiator_in w place)) (suspended : (machine_at w place).phase ≡ phases.Suspended) (bell : HasBell start_disks ms place (initiator_in w place) n) where
    abbrev j : ℕ
    j = initiator_in w place

    abbrev m : Machine
    m = machine_at w place

    abbrev a : Agent
    a = agent_then start_disks ms place

    alike : Alike a.untold a.machine m
    alike = (site.agents.are.each place small).machine

    goes : GoesAlong ms j n m
    goes = facts.known.kit.ground.along.all place small (ap has_list suspended) calm n held

    -- its last ORB
    record LastOne : Type 0 where
      number : ℕ
      ended : ends ms j n ≡ suc number
      present : a.machine.present ≡ address_of ms j n number
      there : prepared_in ms j (slot_at ms j n number) ≡ Some (orb n number)

    last_one : LastOne
    last_one =
        let k = subst (λ y. Knows (list ms j n) goes.progress y m) suspended goes.along.main in
        let ended : ends ms j n ≡ suc k.over.last = sym goes.is ∙ k.over.ended in
        let rest : Held ms j n k.over.last = facts.rested beside j place calm small (ap (λ y. rests_in y m.orb.next) suspended) refl n k.over.last held ended in
        record {
          number = k.over.last;
          ended = ended;
          present = alike.present (ap has_list suspended) ∙ k.over.place;
          there = rest.slotted.placed.last;
        }

    abbrev base : List Moment
    base = said (notes.Got bell.serial) ∷ bell.past

    brought : BroughtNullOf start_disks base bell.later place a.machine.present
    brought = by bell.begins
      where
        rests : a.machine.phase ≡ phases.Suspended
        rests = alike.phase ∙ suspended

        by : IsRung (terms bell.past) bell.serial place ⊎ ((agent_then start_disks bell.past place).machine.phase ≡ phases.Reset) → BroughtNullOf start_disks base bell.later place a.machine.present
        by (inl rung) = (facts.rests beside).rung bell.later bell.past bell.serial place small bell.is rung rests
        by (inr reset) = (facts.rests beside).reset bell.later bell.past bell.serial place small bell.is reset rests

    x : BroughtNullOf start_disks base bell.later place a.machine.present
    x = brought

    -- as it was brought
    abbrev then : List Moment
    then = x.before ++ base

    abbrev answer : Answer
    answer = answer_in (packet_at (terms then) x.serial)

    at_then : x.behind ++ said (notes.Got x.serial) ∷ then ≡ ms
    at_then = sym (moments_joined x.behind (said (notes.Got x.serial) ∷ x.before) base) ∙ (ap (λ l. l ++ base) x.is ∙ bell.is)

    front_then : (x.behind ++ said (notes.Got x.serial) ∷ []) ++ then ≡ ms
    front_then = moment_joined x.behind (said (notes.Got x.serial)) then ∙ at_then

    keeps : HasListThen start_disks then place j n
    keeps = bell.keeps x.behind x.serial x.before at_then

    to : receiver_in ((terms then).sent x.request) ≡ Some (suc j)
    to = by x.brings
      where
        by : BringsNullOf a.machine.present (agent_then start_disks then place) x.request answer → receiver_in ((terms then).sent x.request) ≡ Some (suc j)
        by (of_orb bytes main phase pays null at) = keeps.sends Main x.request main
        by (of_pointer bytes main phase pays null at) = keeps.sends Main x.request main
        by (of_orb_ahead bytes offset ahead under pays null next at) = keeps.sends Ahead x.request ahead

    named : AreNamedAsGot (injectors ms) start_disks then x.serial
    named = each_there (NamedAsGot (injectors ms) start_disks) x.behind (said (notes.Got x.serial)) then (subst (EachMoment (NamedAsGot (injectors ms) start_disks)) (sym at_then) (facts.named beside))

    z : IsOfList start_disks then place j a.machine.present x.request answer
    z = named place j a.machine.present x.request answer small calm to x.brings

    list_is : z.list ≡ n
    list_is = same_Some z.list n (sym z.list_is ∙ keeps.taken)

    abbrev slot : ℕ
    slot = slot_at then j z.list z.number

    null_got : IsNullGot then j slot x.serial x.request
    null_got = record { by_target = x.by_target; closed = x.closed; from = z.from; to = to; access = z.access; is = z.is; bytes = z.bytes; brings = z.brings }

    last_then : WasLastThen base ms j slot x.request
    last_then = facts.nulls beside j inside calm x.behind then slot x.serial x.request z.stands.small at_then null_got bell.later base bell.is x.since

    -- as the read was got
    abbrev mid : List Moment
    mid = last_then.was.since ++ base

    abbrev one : Orb
    one = last_then.was.one

    mid_is : last_then.was.later ++ mid ≡ ms
    mid_is = last_then.was.is

    all_last : AllLast ms j
    all_last = site.last j inside

    lasts_then : Lasts then ms j
    lasts_then = from_moment (x.behind ++ said (notes.Got x.serial) ∷ []) then ms j front_then all_last

    lasts_mid : Lasts mid ms j
    lasts_mid = from_moment last_then.was.later mid ms j mid_is all_last

    lasts_base : Lasts base mid j
    lasts_base = from_moment last_then.was.since base mid j refl (last_from last_then.was.later mid j (subst (λ l. AllLast l j) (sym mid_is) all_last))

    counts_then : SerialsCount ((x.behind ++ said (notes.Got x.serial) ∷ []) ++ then)
    counts_then = subst SerialsCount (sym front_then) site.serials

    counts_mid : SerialsCount (last_then.was.later ++ mid)
    counts_mid = subst SerialsCount (sym mid_is) site.serials

    passes_mid : PassLaw wilds mid
    passes_mid = each_from _ last_then.was.later mid (subst (PassLaw wilds) (sym mid_is) facts.passes)

    -- the ORB of the slot had been appended then
    sent_then : x.request ≤ (terms then).count
    sent_then =
        let packet = sender_sent ((terms then).sent x.request) 0 z.from in
        sent_below then x.request packet.0 (serials_from (x.behind ++ said (notes.Got x.serial) ∷ []) then counts_then) packet.1

    same_before : before_sent then x.request ≡ before_sent mid x.request
    same_before =
        let r : Remains then ms = subst (Remains then) front_then (remains (x.behind ++ said (notes.Got x.serial) ∷ []) then counts_then) in
        let q : Remains mid ms = subst (Remains mid) mid_is (remains last_then.was.later mid counts_mid) in
        sym (r.before_it x.request sent_then) ∙ q.before_it x.request last_then.sent

    behind : z.number < appends (before_sent then x.request) j n
    behind = subst (λ l. z.number < appends (before_sent then x.request) j l) list_is z.behind

    appended_then : z.number < appends then j n
    appended_then = appended_before then x.request j n z.number behind

    appended_mid : z.number < appends mid j n
    appended_mid = appended_before mid x.request j n z.number (subst (λ l. z.number < appends l j n) same_before behind)

    slot_then : slot ≡ slot_at ms j n z.number
    slot_then = ap (λ l. slot_at then j l z.number) list_is ∙ sym (lasts_then.slot n z.number appended_then)

    slot_mid : slot_at mid j n z.number ≡ slot
    slot_mid = sym (lasts_mid.slot n z.number appended_mid) ∙ sym slot_then

    -- that of the last ORB
    slot_last : slot_at ms j n last_one.number ≡ slot
    slot_last = same_slot (slot_at ms j n last_one.number) slot (sym last_one.present ∙ z.address_is)

    -- ---- what stood in the slot then
    found_mid : prepared_in mid j slot ≡ Some (orb one.list one.number)
    found_mid = last_then.was.prepared

    below_mid : one.number < appends mid j one.list
    below_mid = prepared_below j one.list one.number wilds mid passes_mid slot found_mid

    begun_mid : one.list < lists mid j
    begun_mid = (at_behind wilds j one.list one.number mid passes_mid below_mid).begun

    no_later : one.list ≤ n
    no_later =
        let more = lists_grow j last_then.was.later mid in
        let same : lists (last_then.was.later ++ mid) j ≡ lists ms j = ap (λ l. lists l j) mid_is in
        let b = begun_mid in
        omega (arith, b, more, same, latest)

    -- it is of the list
    one_is : n ≡ one.list
    one_is = by (at_behind wilds j n z.number mid passes_mid appended_mid).behind
      where
        by : IsBehind (prepared_in mid j (slot_at mid j n z.number)) n z.number → n ≡ one.list
        by f = of f.late
          where
            same : f.one ≡ one
            same = same_Some f.one one (sym f.is ∙ (ap (λ s. prepared_in mid j s) slot_mid ∙ found_mid))

            of : (n < f.one.list) ⊎ ((n ≡ f.one.list) × (z.number ≤ f.one.number)) → n ≡ one.list
            of (inl l) = let low = no_later in let e = ap (λ (o : Orb). o.list) same in absurd (omega (arith, l, low, e))
            of (inr r) = r.0 ∙ ap (λ (o : Orb). o.list) same

    -- and no later one than the last one
    appended_one : one.number < appends ms j n
    appended_one = let b = subst (λ l. one.number < appends mid j l) (sym one_is) below_mid in let more = lasts_mid.appended n in omega (arith, b, more)

    slot_one : slot_at ms j n one.number ≡ slot
    slot_one =
        lasts_mid.slot n one.number (subst (λ l. one.number < appends mid j l) (sym one_is) below_mid)
        ∙ (ap (λ l. slot_at mid j l one.number) one_is ∙ stands_at j one.list one.number wilds mid passes_mid slot found_mid)

    no_further : one.number ≤ last_one.number
    no_further = by (at_behind wilds j n one.number ms facts.passes appended_one).behind
      where
        by : IsBehind (prepared_in ms j (slot_at ms j n one.number)) n one.number → one.number ≤ last_one.number
        by f = of f.late
          where
            same : f.one ≡ orb n last_one.number
            same = same_Some f.one (orb n last_one.number) (sym f.is ∙ (ap (λ s. prepared_in ms j s) (slot_one ∙ sym slot_last) ∙ last_one.there))

            of : (n < f.one.list) ⊎ ((n ≡ f.one.list) × (one.number ≤ f.one.number)) → one.number ≤ last_one.number
            of (inl l) = let e = ap (λ (o : Orb). o.list) same in absurd (omega (arith, l, e))
            of (inr r) = let e = ap (λ (o : Orb). o.number) same in let low = r.1 in omega (arith, low, e)

    pub ended_all : linked bell.past j n ≤ ends ms j n
    ended_all =
        let on = lasts_base.linked_on n in
        let last = subst (λ l. linked mid j l ≤ suc one.number) (sym one_is) last_then.was.last in
        let far = no_further in
        let e = last_one.ended in
        omega (arith, on, last, far, e)

  pub all_ended : AllEnded start_disks ms w
  all_ended place n small inside calm held latest suspended bell = ended_all place n small inside calm held latest suspended bell
