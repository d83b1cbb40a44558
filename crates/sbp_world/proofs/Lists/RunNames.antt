-- A run that the target tells of is of the ORB by whose name its response brought it, where agents have the ORBs prepared last in their slots.
use Rattle.sbp_world.proofs.Words.Std.{arith, ◌≡◌, ◌∙◌, refl, sym, ap, subst, ℕ, ◌<◌, Bool, true, false, List, ◌∷◌, ◌++◌, Option, Some, None}
use Rattle.sbp_world.proofs.Words.Wire.{check_of, Moment, said, Note}
use Rattle.sbp_world.proofs.Words.Target.{AgentStep, Machine, Disk, Told, answer_in, heard_by, Which}
use Rattle.sbp_world.proofs.Words.Initiator.{CommandOrb}
use Rattle.sbp_world.proofs.Words.Laws.{address_of, named_orb, prepared_in, slot_at, Moved}
use Rattle.sbp_world.proofs.Words.World.{holder, Scene, WorldState, IsNamed, IsOpenAt, is_open_at, RunIsNamed, RunIsNamedFed, RunIsFed, own_reads, AllAhead, AllAwaited}
use Rattle.sbp_journal.specs.declared.note.Note.TheVariants as notes
use Rattle.sbp_world.proofs.Agents.Management.Still.{hist}
use Rattle.sbp_world.proofs.Lists.FedReads.{IsTurned}
use Rattle.sbp_world.proofs.Lists.FedRuns.{reads as reads_of, run_fed, turned, which_is}
use Rattle.sbp_world.proofs.Lists.FedSteps.{Hears}
use Rattle.sbp_world.proofs.Lists.FedStill.{ReadBy, TurnedBy, turns_by}
use Rattle.sbp_world.proofs.Lists.FedStillReads.{IsOwner, KnownHad}
use Rattle.sbp_world.proofs.Lists.EndNames.{same_list, same_orb}
use Rattle.sbp_world.proofs.Lists.NamedPlaces.{HasNames}
use Rattle.sbp_world.proofs.Lists.Passing.{PassAt, RunsNext}
use Rattle.sbp_world.proofs.Lists.Runless.{IsPlain, IsRunBy}
use Rattle.sbp_world.proofs.Lists.RunOutcomes.{IsSet, goes, is_open, list_is, number_is, opened, orb_is, runs}
use Rattle.sbp_world.proofs.Lists.RunReads.{M as run_machine, appended, below, i as run_initiator, not_dummy, step as run_step}
use Rattle.sbp_world.proofs.Lists.Sites.{IsPrepared, prepared}
use Rattle.sbp_world.proofs.Lists.StillReads.{IsHad, same_slot}

-- ---- the law at a run, where it is given so
abbrev pub RunNamedAt : Type 0 → (ℕ → Bool) → List Disk → Moment → List Moment → Type 0
RunNamedAt given wild start (said (notes.Ran i (Some n) (Some k) unit cdb bytes check)) past = given → wild i ≡ false → RunIsNamedFed start past i n k bytes
RunNamedAt given wild start moment past = Unit {0}

pub plain_named : (given : Type 0) (wild : ℕ → Bool) (start : List Disk) (note : Note) → IsPlain note → (past : List Moment) → RunNamedAt given wild start (said note) past
plain_named given wild start (notes.Ran i n k unit cdb bytes check) h past = absurd h
plain_named given wild start note h past = tt

module _ (given : Type 0) (wild : ℕ → Bool) (start : List Disk) (past : List Moment) (s : Scene) (set : IsSet wild start past s) (names : given → HasNames start past s.world) (run : Option Told) (ran : Note) (serial : ℕ) (r : IsRunBy s run serial ran) where
  abbrev w : WorldState
  w = s.world

  abbrev ms : List Moment
  ms = hist past w

  abbrev now : List Moment
  now = said (notes.Got serial) ∷ ms

  abbrev p : ℕ
  p = r.place

  abbrev i : ℕ
  i = run_initiator wild start past s set run ran serial r

  abbrev m : Machine
  m = run_machine wild start past s set run ran serial r

  abbrev stepped : AgentStep × Machine
  stepped = run_step wild start past s set run ran serial r

  small : p < 8
  small = below wild start past s set run ran serial r

  module _ (so : given) (own : wild i ≡ false) where
    known : HasNames start past w
    known = names so

    open_there : is_open_at w p ≡ true
    open_there = is_open wild start past s set run ran serial r

    abbrev J : ℕ → ℕ → CommandOrb → ℕ → List Moment → Type 0
    J = KnownHad start now ms w

    hears : Hears (ReadBy start J (IsOwner ms w) now p) (TurnedBy start J (IsOwner ms w) now p) (turns_by start J (IsOwner ms w) now p) m (answer_in r.by.packet)
    hears =
        known.fed.hears serial r.sent r.found r.to r.by.packet r.by.label p r.by.found (r.by.is_which ∙ ap (λ (x : Which). Some x) (which_is wild start past s set run ran serial r)) small (set.ready.calm i own) open_there

    abbrev of_turned : (at : ℕ) (orb : CommandOrb) (reads : List Moved) → TurnedBy start J (IsOwner ms w) now p at orb reads → IsTurned start now p at orb reads
    of_turned at orb reads t =
        let b = t.known.had.named.brought in
        record {
          brought = b;
          later = t.later;
          between = t.between;
          is = ap (λ x. t.later ++ (t.between ++ said (notes.Got x) ∷ b.earlier)) t.known.response_is ∙ (ap (λ xs. t.later ++ (t.between ++ said (notes.Got t.response) ∷ xs)) t.known.earlier_is ∙ t.is);
          reads_are =
              t.reads_are
              ∙ sym (ap (λ x. own_reads start p t.later (t.between ++ said (notes.Got x) ∷ b.earlier)) t.known.response_is ∙ ap (λ xs. own_reads start p t.later (t.between ++ said (notes.Got t.response) ∷ xs)) t.known.earlier_is);
        }

    owns : IsOwner ms w p i
    owns = record { small = small; calm = set.ready.calm i own; is = refl }

    -- and it waited as each packet was got
    awaited_turned : (at : ℕ) (orb : CommandOrb) (reads : List Moved) (t : TurnedBy start J (IsOwner ms w) now p at orb reads) → AllAwaited start i p t.later (t.between ++ said (notes.Got t.known.had.named.brought.response) ∷ t.known.had.named.brought.earlier)
    awaited_turned at orb reads t =
        subst (λ x. AllAwaited start i p t.later (t.between ++ said (notes.Got x) ∷ t.known.had.named.brought.earlier)) (sym t.known.response_is)
        (subst (λ xs. AllAwaited start i p t.later (t.between ++ said (notes.Got t.response) ∷ xs)) (sym t.known.earlier_is) (t.awaited i owns))

    -- and had it read ahead as each packet was got before it turned to it
    ahead_turned : (at : ℕ) (orb : CommandOrb) (reads : List Moved) (t : TurnedBy start J (IsOwner ms w) now p at orb reads) → AllAhead start i p at t.between (said (notes.Got t.known.had.named.brought.response) ∷ t.known.had.named.brought.earlier)
    ahead_turned at orb reads t =
        subst (λ x. AllAhead start i p at t.between (said (notes.Got x) ∷ t.known.had.named.brought.earlier)) (sym t.known.response_is)
        (subst (λ xs. AllAhead start i p at t.between (said (notes.Got t.response) ∷ xs)) (sym t.known.earlier_is) (t.ahead i owns))

    abbrev o : IsOpenAt ms w p
    o = opened wild start past s set run ran serial r own

    abbrev ended : ℕ
    ended = (heard_by r.by.which m (answer_in r.by.packet) (goes wild start past s set run ran serial r own).progress).ended

    is_prepared : IsPrepared ms i (slot_at ms i o.n ended) o.n ended
    is_prepared =
        let e = number_is wild start past s set run ran serial r own in
        let name : IsNamed ms w p o.n ended = o.named ended (omega (arith, e)) (runs wild start past s set run ran serial r own).turn.linked in
        prepared ms w i o.inside (known.rows i o.inside) (slot_at ms i o.n ended) o.n ended name.list name.number

    module _ (n k : ℕ) (next : RunsNext now i n k r.cdb r.payload) where
      here : IsPrepared ms i (slot_at ms i n k) n k
      here =
          subst (λ y. IsPrepared ms i (slot_at ms i n y) n y) (orb_is wild start past s set run ran serial r own n k next)
          (subst (λ y. IsPrepared ms i (slot_at ms i y ended) y ended) (list_is wild start past s set run ran serial r own n k next) is_prepared)

      abbrev orb : CommandOrb
      orb = stepped.1.orb

      abbrev fed : RunIsFed start now i n k r.payload
      fed = run_fed wild start past s set run ran serial r own (ReadBy start J (IsOwner ms w) now p) (TurnedBy start J (IsOwner ms w) now p) (turns_by start J (IsOwner ms w) now p) of_turned hears n k next

      abbrev reads : List Moved
      reads = reads_of wild start past s set run ran serial r own (ReadBy start J (IsOwner ms w) now p) (TurnedBy start J (IsOwner ms w) now p) (turns_by start J (IsOwner ms w) now p) of_turned hears n k next

      abbrev t : TurnedBy start J (IsOwner ms w) now p (address_of now i n k) orb reads
      t = turned wild start past s set run ran serial r own (ReadBy start J (IsOwner ms w) now p) (TurnedBy start J (IsOwner ms w) now p) (turns_by start J (IsOwner ms w) now p) of_turned hears n k next

      abbrev x : IsHad start now ms w p (address_of now i n k) orb
      x = t.known.had

      name_is : Some (named_orb x.named.led.n x.named.led.k) ≡ Some (named_orb n k)
      name_is =
          sym (ap (λ j. prepared_in ms j x.named.led.slot) (sym x.initiator) ∙ x.there)
          ∙ subst (λ slot. prepared_in ms i slot ≡ Some (named_orb n k)) (same_slot (slot_at ms i n k) x.named.led.slot x.named.led.stands) here.there

      abbrev run_named : RunIsNamed start now i n k
      run_named = record {
        place = p;
        small = small;
        orb = orb;
        named = x.named;
        initiator = x.initiator;
        list = same_list x.named.led.n x.named.led.k n k name_is;
        number = same_orb x.named.led.n x.named.led.k n k name_is;
        there = here.there;
        not_dummy = not_dummy wild start past s set run ran serial r own;
        as_appended = appended wild start past s set run ran serial r own n k next;
      }

      run_fed_so : RunIsNamedFed start now i n k r.payload
      run_fed_so = record { named = run_named; fed = fed; place = refl; response = refl; earlier = refl; awaited = awaited_turned (address_of now i n k) orb reads t; ahead = ahead_turned (address_of now i n k) orb reads t }

  abbrev note_of : Option ℕ → Option ℕ → Note
  note_of list number = notes.Ran i list number (holder w p).unit r.cdb r.payload (check_of r.outcome)

  by_names : (list number : Option ℕ) → PassAt wild (said (note_of list number)) now → RunNamedAt given wild start (said (note_of list number)) now
  by_names None number q = tt
  by_names (Some n) None q = tt
  by_names (Some n) (Some k) q = λ so own. run_fed_so so own n k (q own)

  pub named_so : PassAt wild (said ran) now → RunNamedAt given wild start (said ran) now
  named_so = subst (λ note. PassAt wild (said note) now → RunNamedAt given wild start (said note) now) (sym r.is) (by_names r.list r.number)
