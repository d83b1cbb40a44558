-- The requests of every turn, by who is to ask in it: the target, an initiator that gets a packet, one that acts, or nobody.
use Rattle.std.proofs.Common.{arith, ◌≡◌, ◌∙◌, refl, sym, ap, subst, ℕ, zero, suc, false, true, nat_eq, List, Option, Some, None}
use Rattle.rbc_disk.specs.Disk.{Disk}
use Rattle.sbp_journal.specs.Run.{Moment, asked, said}
use Rattle.sbp_journal.specs.Wire.{Terms, terms}
use Rattle.sbp_journal.specs.declared.event.Event.TheVariants as events
use Rattle.sbp_journal.specs.declared.note.Note.TheVariants as notes
use Rattle.sbp_laws.specs.Packets.{receiver_in, sender_in}
use Rattle.sbp_laws.specs.SentRequests.{RequestsLaw}
use Rattle.sbp_laws.specs.Targets.{is_serial}
use Rattle.sbp_laws.specs.Turns.{Turn, Where}
use Rattle.turn_laws.specs.ActRequests.{ActsByRequests, AsksIn}
use Rattle.turn_laws.specs.HostRequests.{HostAsks, got_by_host}
use Rattle.turn_laws.specs.Operations.{of_initiator}
use Rattle.turn_laws.specs.OtherRequests.{AsksNobody, OtherAsks}
use Rattle.turn_laws.specs.Requests.{RequestsRunLaw}
use Rattle.turn_laws.specs.TargetRequests.{TargetAsks, gets_it, times_out}
use Rattle.turn_laws.proofs.ActRequests.{act_requests_law}
use Rattle.turn_laws.proofs.EachTurns.{joined_law}
use Rattle.turn_laws.proofs.HostRequests.{host_requests_law}
use Rattle.turn_laws.proofs.OtherRequests.{other_requests_law}
use Rattle.turn_laws.proofs.TargetRequests.{target_requests_law}

module _ (start : List Disk) (t : Turn) where
  abbrev wire : Terms
  wire = terms t.past

  -- of the target and of nobody; of an initiator
  abbrev Others : Type 0
  Others = TargetAsks start t × OtherAsks start t

  abbrev Hosts : Type 0
  Hosts = HostAsks start t × ActsByRequests start t

  module _ (others : Others) (hosts : Hosts) where
    of_nobody : (m : Moment) → t.start ≡ m → AsksNobody wire m → RequestsLaw start t
    of_nobody m e h = others.1 (subst (AsksNobody wire) (sym e) h)

    got_asks : (serial : ℕ) → t.start ≡ said (notes.Got serial) → (to : Option ℕ) → receiver_in (wire.sent serial) ≡ to → RequestsLaw start t
    got_asks serial e None f = of_nobody (said (notes.Got serial)) e f
    got_asks serial e (Some zero) f = others.0 (gets_it serial e f)
    got_asks serial e (Some (suc i)) f =
        let own : got_by_host t.start wire ≡ true = ap (λ m. got_by_host m wire) e ∙ ap of_initiator f in
        subst (λ b. Where b (RequestsLaw start t)) own hosts.0

    late_asks : (serial : ℕ) → t.start ≡ said (notes.TimedOut serial) → (from : Option ℕ) → sender_in (wire.sent serial) ≡ from → RequestsLaw start t
    late_asks serial e None f = of_nobody (said (notes.TimedOut serial)) e (ap (λ x. is_serial x 0) f)
    late_asks serial e (Some zero) f = others.0 (times_out serial e f)
    late_asks serial e (Some (suc i)) f =
        let other : nat_eq (suc i) 0 ≡ false = grind arith in of_nobody (said (notes.TimedOut serial)) e (ap (λ x. is_serial x 0) f ∙ other)

    asks_at : (m : Moment) → t.start ≡ m → RequestsLaw start t
    asks_at (said (notes.Got serial)) e = got_asks serial e (receiver_in (wire.sent serial)) refl
    asks_at (said (notes.TimedOut serial)) e = late_asks serial e (sender_in (wire.sent serial)) refl
    asks_at (asked line (events.Act i action)) e = subst (λ m. AsksIn start m t) e hosts.1
    asks_at m e = of_nobody m e tt

    all_ask : RequestsLaw start t
    all_ask = asks_at t.start refl

pub requests_run_law : RequestsRunLaw
requests_run_law =
    joined_law Others Hosts RequestsLaw (λ start t others hosts. all_ask start t others hosts)
    (joined_law TargetAsks OtherAsks Others (λ start t x y. (x, y)) target_requests_law other_requests_law)
    (joined_law HostAsks ActsByRequests Hosts (λ start t x y. (x, y)) host_requests_law act_requests_law)
