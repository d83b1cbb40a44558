-- In every run in which no initiator injected packets no two agents are out of RESET of one initiator: the lists of both are its present one, or its latest one while it is ahead of
-- the target; and one write of ORB_POINTER was for that list.
use Rattle.sbp_world.proofs.Words.Std.{arith, ◌≡◌, ◌∙◌, refl, sym, ap, subst, ◌<◌, ◌≤◌, ◌+◌, ℕ, suc, nat_eq, Bool, true, false, List, ◌∷◌, ◌++◌, map, length, Some, Ok, nat_tests, same_Some}
use Rattle.sbp_world.proofs.Words.Wire.{Packet, reading, Holder, or_nobody, Moment, asked, said, Sending, terms}
use Rattle.sbp_world.proofs.Words.Target.{Disk, demand_of}
use Rattle.sbp_world.proofs.Words.World.{WhereTameOrFew, IsCalm, history_of, after, beginning, after_all, WorldState, begun, AreHeldAt, more_deliveries, pointed_list, HaveCaught, OpenListsLaw, Under, AreApart, OneUpLaw, AreAllOpenFor, IsOpenFor, IsUp, view, AreOpened, IsOpened, holder}
use Rattle.target_base.specs.declared.address.Access.TheVariants as accesses
use Rattle.sbp_world.proofs.Agents.Holders.{holders_between_law, holders_law}
use Rattle.sbp_world.proofs.Hosts.Runs.{count_after, count_between}
use Rattle.sbp_world.proofs.Pointers.Proved.{pointers_law}
use Rattle.sbp_world.proofs.Sessions.Runs.{caught_between_law, caught_law}
use Rattle.sbp_world.proofs.Lists.Courses.{more_than_one}
use Rattle.sbp_world.proofs.Lists.ListsProved.{closing}
use Rattle.sbp_world.proofs.Lists.LiveGiven.{ShortLaw}
use Rattle.sbp_world.proofs.Lists.LiveLogins.{laws as live_laws, logins_live, logouts_end}
use Rattle.sbp_world.proofs.Lists.OpenedKnown.{laws}
use Rattle.sbp_world.proofs.Lists.OpenedLaws.{opened_law}
use Rattle.sbp_world.proofs.Lists.OpenedMinded.{minded_law}
use Rattle.sbp_world.proofs.Lists.OpenPlacing.{one_place}
use Rattle.sbp_world.proofs.Lists.OpenProved.{opens_law}
use Rattle.sbp_world.proofs.Hosts.Cores.{not_so as up_state}

module _ (start : List Disk) (past : List Moment) (w : WorldState) (opened : AreOpened past w) (held : AreHeldAt start past w) (caught : HaveCaught start past w) (once : (i : ℕ) → i < length w.initiators → (n serial other : ℕ) → pointed_list past serial i ≡ Some n → pointed_list past other i ≡ Some n → serial ≡ other) (open_for : AreAllOpenFor past w) where
  module _ (i place other : ℕ) (calm : IsCalm past i) (b : place < 8) (c : other < 8) (up : IsUp w i place) (up_other : IsUp w i other) where
    is_opened : IsOpened past w place
    is_opened = opened place b (up_state _ up.up)

    pub inside : i < length w.initiators
    inside = subst (λ j. j < length w.initiators) up.own is_opened.inside

    abbrev one : IsOpenFor (view past i) i place (holder w place).list
    one = (open_for i inside calm).each place b up

    abbrev two : IsOpenFor (view past i) i other (holder w other).list
    two = (open_for i inside calm).each other c up_other

    -- the initiator is in the target's generation, or ahead of it
    pub not_behind : (terms past).generation 0 ≤ (terms past).generation (suc i)
    not_behind =
        let k = held.held place is_opened.login is_opened.is in
        let is : k.holder.initiator ≡ i = ap (λ (h : Holder). h.initiator) (sym (ap or_nobody k.there)) ∙ up.own in
        let next : i + 1 ≡ suc i = omega arith in
        let least = caught.logins place is_opened.login is_opened.is is_opened.live k.holder.initiator (k.live is_opened.live).of in
        subst (λ m. (terms past).generation 0 ≤ (terms past).generation m) (ap (λ m. m + 1) is ∙ next) least

    lists_same : two.list ≡ one.list
    lists_same = by (nat_eq ((terms past).generation 0) ((terms past).generation (suc i))) refl
      where
        by : (x : Bool) → nat_eq ((terms past).generation 0) ((terms past).generation (suc i)) ≡ x → two.list ≡ one.list
        by true e =
            let same : (terms past).generation 0 ≡ (terms past).generation (suc i) = grind (arith, nat_tests) in
            same_Some two.list one.list (sym (two.present same) ∙ one.present same)
        by false e =
            let h = not_behind in
            let ahead : (terms past).generation 0 < (terms past).generation (suc i) = grind (arith, nat_tests) in
            let x = two.ahead ahead in
            let y = one.ahead ahead in
            omega (arith, x, y)

    serials_same : two.serial ≡ one.serial
    serials_same = once i inside one.list two.serial one.serial (two.pointed ∙ ap (λ n. Some n) lists_same) one.pointed

    packets_same : two.packet ≡ one.packet
    packets_same = same_Some two.packet one.packet (sym two.sent ∙ (ap (terms past).sent serials_same ∙ one.sent))

    read_same : two.at.packet ≡ one.at.packet
    read_same = let both : Ok two.at.packet ≡ Ok one.at.packet = sym two.at.read ∙ (ap (λ (k : Sending). reading k.bytes) packets_same ∙ one.at.read) in cc

    apart : other ≡ place
    apart =
        one_place one.at.packet two.at.rom one.at.rom other place (accesses.Point two.at.pointer) (accesses.Point one.at.pointer)
        (ap (λ (k : Packet). demand_of two.at.rom k) (sym read_same) ∙ two.at.asks) one.at.asks

  pub are_apart : AreApart past w
  are_apart i place other calm b c up up_other = apart i place other calm b c up up_other

-- for which list each agent is out of RESET
module _ (short : ShortLaw) where
  pub open_for_law : Under (WhereTameOrFew AreAllOpenFor)
  open_for_law = opened_law laws (record { unrefused = logouts_end short; minded = minded_law (live_laws short) (logins_live short) })

  pub one_up_law : OpenListsLaw → OneUpLaw
  one_up_law lists_law = record {
    after_lines = λ line run r has small size tame.
        let w = (after (beginning run) run.entries).world in
        are_apart run.start.disks (history_of line run) w (opens_law.after_lines line run r has small size) (holders_law line run r.few has small size r.short r.entries r.lines) (caught_law line run r.few has small size r.short r.entries r.lines)
        (λ i b. (pointers_law.after_lines line run r i (subst (λ n. i < n) (count_after run run.entries) b)).once)
        (open_for_law.after_lines line run r has small size (closing.before lists_law line run r has small size tame) tame);
    between = λ line run r has small size next most told m tame.
        let w = (after_all told (begun (after (beginning run) run.entries))).world in
        let d = more_than_one most in
        are_apart run.start.disks (map said w.fresh ++ asked next (more_deliveries most) ∷ history_of line run) w (opens_law.between line run r has small size next (more_deliveries most) d told m)
        (holders_between_law line run r.few has small size r.short r.entries r.lines next (more_deliveries most) d told m)
        (caught_between_law line run r.few has small size r.short r.entries r.lines next (more_deliveries most) d told m)
        (λ i b. (pointers_law.between line run r next most told m i (subst (λ n. i < n) (count_between told (after (beginning run) run.entries) ∙ count_after run run.entries) b)).once)
        (open_for_law.between line run r has small size next most told m (closing.between lists_law line run r has small size next (more_deliveries most) d told m tame) tame);
  }
