-- The budget of a drill is far below what a settle may deliver.
use Rattle.std.proofs.Common.{◌≡◌, sym, subst, ℕ, ◌+◌, ◌*◌, ◌≤◌, ◌&&◌, not, Bool, true, false, cond, nat_eq, List, [], ◌∷◌, length, replicate, Some, None, arith}
use Rattle.std.proofs.lemmas.List.{length-replicate}
use Rattle.sbp_journal.specs.Run.{Moment, asked, said}
use Rattle.sbp_journal.specs.declared.event.Cmd.{Cmd}
use Rattle.sbp_journal.specs.declared.event.Event.{Event}
use Rattle.sbp_journal.specs.declared.event.Event.TheVariants as events
use Rattle.sbp_journal.specs.declared.event.Action.TheVariants as actions
use Rattle.sbp_journal.specs.declared.note.Note.TheVariants as notes
use Rattle.sbp_laws.specs.Budget.{budget, initiators, share_of, shares}
use Rattle.sbp_laws.specs.Completion.{in_the_air}
use Rattle.sbp_laws.specs.Lists.{cmd_of, command_at, is_none_taken, taken_at}
use Rattle.sbp_laws.specs.OrderLaw.{is_cut}
use Rattle.sbp_laws.specs.Turns.{EachMoment, event_of}
use Rattle.script_text.specs.Draws.{block_of, block_read, block_write}
use Rattle.drill_text.specs.Tally.{is_append}
use Rattle.drill_laws.specs.DrillLines.{IsDrillCommand, IsDrillLine, reads, writes}
use Rattle.drill_laws.specs.DrillTakings.{told_in}
use Rattle.drill_laws.proofs.DrillMoments.{DrillAt}

-- ---- one command
write_share : (lba byte : ℕ) → share_of (Some (block_write lba byte)) ≤ 18
unfolding block_write block_of
write_share lba byte = by (length (replicate 512 byte)) (length-replicate 512 byte)
  where
    by : (len : ℕ) → len ≡ 512 → share_of (Some (record { cdb = (block_write lba byte).cdb; to_initiator = false; length = len; payload = replicate 512 byte; segments = []; max_payload = 9 })) ≤ 18
    by len e = subst (λ n. share_of (Some (record { cdb = (block_write lba byte).cdb; to_initiator = false; length = n; payload = replicate 512 byte; segments = []; max_payload = 9 })) ≤ 18) (sym e) (omega arith)

read_share : (lba : ℕ) → share_of (Some (block_read lba)) ≤ 18
unfolding block_read
read_share lba = omega arith

command_share : (cmd : Cmd) → IsDrillCommand cmd → share_of (Some cmd) ≤ 18
command_share cmd (writes lba byte l b e) = subst (λ c. share_of (Some c) ≤ 18) (sym e) (write_share lba byte)
command_share cmd (reads lba l e) = subst (λ c. share_of (Some c) ≤ 18) (sym e) (read_share lba)

-- ---- each ORB
none_small : share_of None ≤ 18
none_small = omega arith

line_share : (event : Event) → IsDrillLine event → share_of (cmd_of (Some event)) ≤ 18
line_share (events.Act i (actions.Append cmd)) is = command_share cmd is.1
line_share events.Settle is = none_small
line_share _ is = absurd is

latest_share : (past : List Moment) → EachMoment DrillAt past → share_of (cmd_of (event_of past)) ≤ 18
latest_share [] d = none_small
latest_share (asked line event ∷ []) d = subst (λ e. share_of (cmd_of (Some e)) ≤ 18) (sym d.0) none_small
latest_share (asked line event ∷ moment ∷ past) d = line_share event d.0
latest_share (said note ∷ past) d = latest_share past d.1

each_share : (past : List Moment) → EachMoment DrillAt past → (i n k : ℕ) → share_of (command_at past i n k) ≤ 18
each_share [] d i n k = none_small
each_share (said (notes.Append j m l cdb buffer) ∷ past) d i n k = by (nat_eq i j) (nat_eq n m) (nat_eq k l) (each_share past d.1 i n k)
  where
    by : (b c e : Bool) → share_of (command_at past i n k) ≤ 18 → share_of (cond b (cond c (cond e (cmd_of (event_of past)) (command_at past i n k)) (command_at past i n k)) (command_at past i n k)) ≤ 18
    by true true true old = latest_share past d.1
    by true true false old = old
    by true false e old = old
    by false c e old = old
each_share (_ ∷ past) d i n k = each_share past d.1 i n k

-- ---- all
all_shares : (all past : List Moment) → ((i n k : ℕ) → share_of (command_at all i n k) ≤ 18) → shares all past ≤ 18 * told_in is_append past
all_shares all [] small = omega arith
all_shares all (said (notes.Append i n k cdb buffer) ∷ past) small =
    let rest = all_shares all past small in
    let one = by (not (is_cut all i n) && is_none_taken (taken_at all i n k)) in
    omega (arith, rest, one)
  where
    by : (b : Bool) → cond b (share_of (command_at all i n k)) 0 ≤ 18
    by true = small i n k
    by false = omega arith
all_shares all (asked line event ∷ past) small = all_shares all past small
all_shares all (said _ ∷ past) small = let rest = all_shares all past small in omega (arith, rest)

two_initiators : (past : List Moment) → EachMoment DrillAt past → initiators past ≤ 2
two_initiators [] d = omega arith
two_initiators (said (notes.Begin count ready) ∷ past) d = let two = d.0.two in omega (arith, two)
two_initiators (_ ∷ past) d = two_initiators past d.1

pub drill_budget : (past : List Moment) (lines : ℕ) → EachMoment DrillAt past → in_the_air past ≤ lines → told_in is_append past ≤ lines → budget past ≤ 22 * lines + 1200
drill_budget past lines d air appended =
    let all = all_shares past past (each_share past d) in
    let two = two_initiators past d in
    omega (arith, all, two, air, appended)
