-- In a drill few requests of the target are nobody's: each is the read ahead that the agent of one of eight places dropped as it died, and their labels differ.
use Rattle.std.proofs.Common.{◌≡◌, ◌∙◌, refl, sym, ap, subst, arith, ℕ, zero, suc, ◌+◌, ◌<◌, ◌≤◌, ◌&&◌, ◌==◌, not, nat_eq, Bool, true, false, cond, List, [], ◌∷◌, ◌++◌, Option, Some, None}
use Rattle.std.proofs.lemmas.Bool.Decides.{nat_tests}
use Rattle.bus_transactions.specs.Packets.{SerialsCount}
use Rattle.command_agent.specs.declared.step.Which.{Which}
use Rattle.command_agent.specs.declared.step.Which.TheVariants.{Ahead, Main}
use Rattle.rbc_disk.specs.Disk.{Disk}
use Rattle.sbp_journal.specs.Run.{Moment, history, said}
use Rattle.sbp_journal.specs.Transactions.{Kind, Sending, Transaction}
use Rattle.sbp_journal.specs.Wire.{Held, free, rests, terms, waits}
use Rattle.sbp_journal.specs.declared.note.Note.TheVariants as notes
use Rattle.sbp_laws.specs.Packets.{access_at, begun_in, free_from, receiver_in, to_peer}
use Rattle.sbp_laws.specs.SentPackets.{SentAt}
use Rattle.sbp_laws.specs.Targets.{Agent, Purpose, Target, for_agent, for_manager, for_nobody, is_serial, over, purpose_among, purpose_of, target_at}
use Rattle.sbp_laws.specs.Turns.{EachMoment}
use Rattle.sbp_laws.specs.Unasked.{NoneUnasked}
use Rattle.sbp_world.specs.Agents.Crews.{agent_in}
use Rattle.sbp_world.specs.Completing.Labels.{is_for_nobody, is_nobodys, of_cut_lists, of_nobody}
use Rattle.sbp_world.proofs.Common.{equal_numbers, none_is, untrue}
use Rattle.sbp_world.proofs.Completing.LabelsCounts.{count_but}
use Rattle.sbp_world.proofs.Lists.BegunBy.{begun_of}
use Rattle.sbp_world.proofs.Lists.MainLater.{somebodys}
use Rattle.drill_laws.specs.DrillFew.{DrillsLeaveFew}
use Rattle.drill_laws.proofs.DrillAgents.{Owns, by_ahead, by_last, by_main}
use Rattle.drill_laws.proofs.DrillCalm.{all_calm}
use Rattle.drill_laws.proofs.DrillLive.{IsOwned, Live, Stands}
use Rattle.drill_laws.proofs.DrillMild.{AreMild}
use Rattle.drill_laws.proofs.DrillMoments.{drill_moments}
use Rattle.drill_laws.proofs.DrillOwners.{IsMild}
use Rattle.drill_laws.proofs.DrillPushes.{IsTame, NoPushAt, ends_history, none_pushed, tame_before}
use Rattle.drill_laws.proofs.DrillSettles.{each_before}
use Rattle.drill_laws.proofs.DrillStands.{over_stands, stands}
use Rattle.drill_laws.proofs.DrillTurns.{IsGood}

-- ---- a count of labels, each of which is one of so many
record IsAmong (m : ℕ) (k : ℕ → ℕ) (l : ℕ) : Type 0 where
  place : ℕ
  small : place < m
  is : l ≡ k place

none_found : (n : ℕ) (f : ℕ → Bool) → ((l : ℕ) → f l ≡ true → ⊥) → free_from n f ≡ 0
unfolding free_from
none_found zero f h = refl
none_found (suc n) f h = by (f n) refl (none_found n f h)
  where
    by : (b : Bool) → f n ≡ b → free_from n f ≡ 0 → cond b 1 0 + free_from n f ≡ 0
    by true e rest = absurd (h n e)
    by false e rest = omega (arith, rest)

few_found : (m : ℕ) (k : ℕ → ℕ) (n : ℕ) (f : ℕ → Bool) → ((l : ℕ) → f l ≡ true → IsAmong m k l) → free_from n f ≤ m
few_found zero k n f h =
    let none = none_found n f (λ l e. let a = h l e in let small = a.small in absurd (omega (arith, small))) in
    omega (arith, none)
few_found (suc m) k n f h =
    let most = count_but n (k m) f others (λ l b other e. or_other l e other) in
    let rest = few_found m k n others among in
    omega (arith, most, rest)
  where
    others : ℕ → Bool
    others l = f l && not (nat_eq l (k m))

    or_other : (l : ℕ) → f l ≡ true → nat_eq l (k m) ≡ false → others l ≡ true
    or_other l e other = ap (λ b. b && not (nat_eq l (k m))) e ∙ ap not other

    first : (a b : Bool) → (a && b) ≡ true → a ≡ true
    first true b e = refl
    first false b e = untrue e

    second : (a b : Bool) → (a && b) ≡ true → b ≡ true
    second true b e = e
    second false b e = untrue e

    among : (l : ℕ) → others l ≡ true → IsAmong m k l
    among l e = by (h l (first (f l) (not (nat_eq l (k m))) e)) (second (f l) (not (nat_eq l (k m))) e)
      where
        by : IsAmong (suc m) k l → not (nat_eq l (k m)) ≡ true → IsAmong m k l
        by a other = by_last (nat_eq a.place m) refl
          where
            by_last : (b : Bool) → nat_eq a.place m ≡ b → IsAmong m k l
            by_last false g = record { place = a.place; small = (let small = a.small in grind (arith, nat_tests)); is = a.is }
            by_last true g =
                let same : l ≡ k m = a.is ∙ ap k (equal_numbers a.place m g) in
                let own : nat_eq l (k m) ≡ true = grind (arith, nat_tests) in
                untrue (sym (ap not own) ∙ other)

-- ---- what is an agent's is not nobody's
is_it : (o : Option ℕ) (serial : ℕ) → o ≡ Some serial → is_serial o serial ≡ true
is_it None serial e = none_is serial e
is_it (Some other) serial e = let f : other ≡ serial = cc e in let g : (other == serial) ≡ true = grind (arith, nat_tests) in g

among_not : (from : ℕ) (agents : List Agent) (p serial : ℕ) → (agent_in agents p).ahead ≡ Some serial → purpose_among from agents serial ≡ for_nobody → ⊥
among_not from [] p serial e f = none_is serial e
among_not from (a ∷ agents) p serial e f = by (λ q h i. among_not (from + 1) agents q serial h i) (is_serial a.main serial) (is_serial a.ahead serial) refl p e f
  where
    no_agent : (which : Which) → for_agent from which ≡ for_nobody → ⊥
    no_agent which e = cc e

    rest : Purpose
    rest = purpose_among (from + 1) agents serial

    by : ((q : ℕ) → (agent_in agents q).ahead ≡ Some serial → rest ≡ for_nobody → ⊥) → (x y : Bool) → is_serial a.ahead serial ≡ y → (q : ℕ) → (agent_in (a ∷ agents) q).ahead ≡ Some serial → cond x (for_agent from Main) (cond y (for_agent from Ahead) rest) ≡ for_nobody → ⊥
    by more true y g q h i = no_agent Main i
    by more false true g q h i = no_agent Ahead i
    by more false false g zero h i = untrue (sym g ∙ is_it a.ahead serial h)
    by more false false g (suc q) h i = more q h i

ahead_somebodys : (t : Target) (p serial : ℕ) → (agent_in t.agents p).ahead ≡ Some serial → purpose_of t serial ≡ for_nobody → ⊥
ahead_somebodys t p serial e = by (is_serial t.manages serial)
  where
    by : (b : Bool) → cond b for_manager (purpose_among 0 t.agents serial) ≡ for_nobody → ⊥
    by true f = cc f
    by false f = among_not 0 t.agents p serial e f

-- ---- the labels that are nobody's
abbrev label_by : Option Transaction → ℕ
label_by None = 64
label_by (Some u) = u.label

begun_is : (past : List Moment) (u : Transaction) (kind : Kind) (s : ℕ) → SerialsCount past → (terms past).held u ≡ waits kind s → begun_in ((terms past).sent s) ≡ Some u
begun_is past u kind s c held = let b = begun_of past c u kind s held in ap begun_in b.sent ∙ b.begun

module _ (start : List Disk) (past : List Moment) (c : SerialsCount past) (S : Stands (Live start past) (over (target_at start past))) (i : ℕ) where
  abbrev T : Target
  T = over (target_at start past)

  abbrev held_at : ℕ → Held
  held_at l = (terms past).held (to_peer (terms past) 0 (suc i) l)

  abbrev label_of : Option ℕ → ℕ
  label_of None = 64
  label_of (Some s) = label_by (begun_in ((terms past).sent s))

  nobody_is : (purpose : Purpose) → is_for_nobody purpose ≡ true → purpose ≡ for_nobody
  nobody_is (for_agent place which) e = untrue e
  nobody_is for_manager e = untrue e
  nobody_is for_nobody e = refl

  dropped : (l : ℕ) (held : Held) → held_at l ≡ held → is_nobodys T held ≡ true → IsAmong 8 (λ p. label_of (S.last p)) l
  dropped l free e f = untrue f
  dropped l rests e f = untrue f
  dropped l (waits kind s) e f = by (S.owns s (record { u = to_peer (terms past) 0 (suc i) l; kind = kind; own = refl; held = e }))
    where
      none : purpose_of T s ≡ for_nobody
      none = nobody_is (purpose_of T s) f

      owned : (p : ℕ) → Owns (agent_in T.agents p) (S.last p) s → S.last p ≡ Some s
      owned p (by_main g) = absurd (somebodys T p s g none)
      owned p (by_ahead g) = absurd (ahead_somebodys T p s g none)
      owned p (by_last g) = g

      by : IsOwned T S.last s → IsAmong 8 (λ p. label_of (S.last p)) l
      by o = record { place = o.place; small = o.small; is = sym (ap label_of (owned o.place o.owns) ∙ ap label_by (begun_is past (to_peer (terms past) 0 (suc i) l) kind s c e)) }

  few_nobodys : of_nobody start past i ≤ 8
  few_nobodys = few_found 8 (λ p. label_of (S.last p)) 64 (λ l. is_nobodys T (held_at l)) (λ l e. dropped l (held_at l) refl e)

  pub few_of_cut_lists : of_cut_lists start past i ≤ 40
  few_of_cut_lists = let few = few_nobodys in omega (arith, few)

-- ---- a drill
serials_of : (past : List Moment) → EachMoment SentAt past → SerialsCount past
serials_of [] own = tt
serials_of (said (notes.Sent s generation from to bytes) ∷ past) own = (own.0.0, serials_of past own.1)
serials_of (_ ∷ past) own = serials_of past own.1

all_mild : (past : List Moment) → ((s : ℕ) (q : Sending) → (terms past).sent s ≡ Some q → IsGood q.from q.to q.bytes) → AreMild (terms past)
all_mild past good serial here access found = by ((terms past).sent serial) refl here found
  where
    zero_is : (n : ℕ) → is_serial (Some n) 0 ≡ true → n ≡ 0
    zero_is n e = grind (arith, nat_tests)

    by : (so : Option Sending) → (terms past).sent serial ≡ so → is_serial (receiver_in so) 0 ≡ true → access_at (record (terms past) { sent = λ s. so }) serial ≡ Some access → IsMild access
    by None e here found = untrue here
    by (Some q) e here found = λ w. (good serial q e (zero_is q.to here)).1 access found w

tame_from : (later earlier : List Moment) → IsTame (later ++ earlier) → IsTame earlier
tame_from [] earlier t = t
tame_from (m ∷ later) earlier t = tame_from later earlier (tame_before m (later ++ earlier) t)

pub drills_leave_few : DrillsLeaveFew
drills_leave_few disks entries l later earlier is before i inside =
    let all = all_calm disks entries l in
    let past = history entries in
    let tame : IsTame past = record { serials = serials_of past l.run.packets; mild = all_mild past all.here.sent; calm = all.each; drill = drill_moments disks entries l.run.brings l.run.lines } in
    let quiet = (none_pushed disks past [] false (ends_history disks entries) (λ e. refl) tame l.pushes).1 in
    let here = tame_from later earlier (subst IsTame (sym is) tame) in
    let law = each_before (NoneUnasked disks) later earlier (subst (EachMoment (NoneUnasked disks)) (sym is) l.asked) in
    let none = each_before (NoPushAt disks) later earlier (subst (EachMoment (NoPushAt disks)) (sym is) quiet) in
    few_of_cut_lists disks earlier here.serials (over_stands disks earlier (stands disks earlier here law none)) i
