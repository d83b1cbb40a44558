-- An end that the target tells of, but with the status failed, is of the ORB by whose name its response brought it, where agents have the ORBs prepared last in their slots.
use Rattle.sbp_world.proofs.Words.Std.{◌≡◌, ◌∙◌, refl, sym, ap, subst, ℕ, ◌<◌, Bool, true, false, List, [], ◌∷◌, ◌++◌, map, Option, Some, None, IsSomeAnd, same_Some}
use Rattle.sbp_world.proofs.Words.Wire.{list_in, orb_in, Moment, said, Note}
use Rattle.sbp_world.proofs.Words.Target.{AgentStep, Machine, Disk, Told}
use Rattle.sbp_world.proofs.Words.Initiator.{start_of, CommandOrb, StatusKind, Answer}
use Rattle.sbp_world.proofs.Words.Laws.{address_of, MatchesStatus, command_at, named_list, named_number, named_orb, prepared_in, slot_at, request_at}
use Rattle.sbp_world.proofs.Words.World.{ticket_at, Scene, WorldState, is_open_at, EndIsNamed, IsNamedBrought, IsStillBrought}
use Rattle.bus_memory.specs.declared.window.Window.TheVariants as windows
use Rattle.orb_layout.specs.declared.status.StatusKind.TheVariants as kinds
use Rattle.sbp_journal.specs.declared.note.Note.TheVariants as notes
use Rattle.sbp_world.proofs.Agents.Management.Still.{hist}
use Rattle.sbp_world.proofs.Lists.Endless.{IsEndBy, IsPlain}
use Rattle.sbp_world.proofs.Lists.EndReads.{M as end_machine, answer, asked_so, ends_so, got, i as place_initiator, is_open, k as end_number, light_request, light_slot, list, list_is, matches, named, number, opened, place as end_place, plain, small, step}
use Rattle.sbp_world.proofs.Lists.NamedPlaces.{HasNames}
use Rattle.sbp_world.proofs.Lists.OrbFolds.{Brings}
use Rattle.sbp_world.proofs.Lists.OrbReading.{reads_more}
use Rattle.sbp_world.proofs.Lists.OrbSteps.{Reads, Stepped, ends_read, reply_steps}
use Rattle.sbp_world.proofs.Lists.RunOutcomes.{IsSet}
use Rattle.sbp_world.proofs.Lists.Sites.{IsPrepared, prepared}
use Rattle.sbp_world.proofs.Lists.StillReads.{IsHad, named_over, same_slot, still_had}
use Rattle.sbp_world.proofs.Common.{untrue}

-- ---- the law at an end, where it is given so
abbrev pub EndNamedAt : Type 0 → (ℕ → Bool) → List Disk → Moment → List Moment → Type 0
EndNamedAt given wild start (said (notes.Ended i (Some n) (Some k) kinds.Failed)) past = Unit {0}
EndNamedAt given wild start (said (notes.Ended i (Some n) (Some k) status)) past = given → wild i ≡ false → EndIsNamed start past i n k status
EndNamedAt given wild start moment past = Unit {0}

module _ (given : Type 0) (wild : ℕ → Bool) (start : List Disk) where
  by_status : (past : List Moment) (i n k : ℕ) (status : StatusKind) → (ends_read (Some status) ≡ true → given → wild i ≡ false → EndIsNamed start past i n k status) → EndNamedAt given wild start (said (notes.Ended i (Some n) (Some k) status)) past
  by_status past i n k kinds.Failed f = tt
  by_status past i n k kinds.Dummy f = f refl
  by_status past i n k kinds.Good f = f refl
  by_status past i n k (kinds.Check sense) f = f refl
  by_status past i n k kinds.Aborted f = f refl
  by_status past i n k (kinds.Illegal meaning) f = f refl
  by_status past i n k (kinds.Management meaning) f = f refl

  by_names : (past : List Moment) (i : ℕ) (x y : Option ℕ) (status : StatusKind) → ((n k : ℕ) → x ≡ Some n → y ≡ Some k → given → wild i ≡ false → EndIsNamed start past i n k status) → EndNamedAt given wild start (said (notes.Ended i x y status)) past
  by_names past i None y status f = tt
  by_names past i (Some n) None status f = tt
  by_names past i (Some n) (Some k) status f = by_status past i n k status (λ e. f n k refl refl)

  pub plain_named : (note : Note) → IsPlain note → (past : List Moment) → EndNamedAt given wild start (said note) past
  plain_named (notes.Ended i None y status) h past = tt
  plain_named (notes.Ended i (Some n) None status) h past = tt
  plain_named (notes.Ended i (Some n) (Some k) status) h past = by_status past i n k status (λ e. untrue (sym h ∙ e))
  plain_named note h past = tt

pub same_list : (a b c d : ℕ) → Some (named_orb a b) ≡ Some (named_orb c d) → a ≡ c
same_list a b c d e = same_Some a c (ap named_list e)

pub same_orb : (a b c d : ℕ) → Some (named_orb a b) ≡ Some (named_orb c d) → b ≡ d
same_orb a b c d e = same_Some b d (ap named_number e)

module _ (given : Type 0) (wild : ℕ → Bool) (start : List Disk) (past : List Moment) (s : Scene) (set : IsSet wild start past s) (names : given → HasNames start past s.world) (run : Option Told) (serial : ℕ) (early : List Note) (ended : Note) (r : IsEndBy s run serial early ended) where
  abbrev w : WorldState
  w = s.world

  abbrev ms : List Moment
  ms = hist past w

  abbrev behind : List Moment
  behind = got wild start past s set run serial early ended r

  abbrev now : List Moment
  now = map said early ++ behind

  abbrev p : ℕ
  p = end_place wild start past s set run serial early ended r

  abbrev i : ℕ
  i = place_initiator wild start past s set run serial early ended r

  abbrev stepped : AgentStep × Machine
  stepped = step wild start past s set run serial early ended r

  abbrev m : Machine
  m = end_machine wild start past s set run serial early ended r

  abbrev heard : Answer
  heard = answer wild start past s set run serial early ended r

  below : p < 8
  below = small wild start past s set run serial early ended r

  module _ (so : given) (own : wild i ≡ false) where
    abbrev R : ℕ → CommandOrb → Type 0
    R address orb = IsHad start behind ms w p address orb

    known : HasNames start past w
    known = names so

    open_there : is_open_at w p ≡ true
    open_there = is_open wild start past s set run serial early ended r

    brings : Brings (λ q address orb. IsHad start behind ms w q address orb) m (record { place = p; which = r.by.which; answer = heard })
    brings = known.brings serial r.sent r.found r.to r.by.packet r.by.label p r.by.which r.by.found r.by.is_which below (set.ready.calm i own)

    had : Reads R m
    had = reads_more (λ address orb. IsStillBrought start ms w p address orb) R (λ address orb x. still_had start ms behind (said (notes.Got serial) ∷ []) refl w p address orb x) m (known.agents p below open_there (set.ready.calm i own))

    ends : Stepped R stepped
    ends = reply_steps R m p (plain wild start past s set run serial early ended r) run r.by.which heard had brings.main brings.ahead

    x : IsHad start behind ms w p stepped.1.present stepped.1.orb
    x = ends.ended (ap ends_read r.by.ended ∙ r.by.read)

    abbrev n : ℕ
    n = (opened wild start past s set run serial early ended r own).n

    abbrev k : ℕ
    k = end_number wild start past s set run serial early ended r own

    place_is : stepped.1.present ≡ address_of ms i n k
    place_is = (ends_so wild start past s set run serial early ended r own).turn.place

    is_prepared : IsPrepared ms i (slot_at ms i n k) n k
    is_prepared =
        let inside = (opened wild start past s set run serial early ended r own).inside in
        let name = named wild start past s set run serial early ended r own in
        prepared ms w i inside (known.rows i inside) (slot_at ms i n k) n k name.list name.number

    -- its name is that of the ORB which ends
    name_is : Some (named_orb x.named.led.n x.named.led.k) ≡ Some (named_orb n k)
    name_is =
        sym (ap (λ j. prepared_in ms j x.named.led.slot) (sym x.initiator) ∙ x.there)
        ∙ subst (λ slot. prepared_in ms i slot ≡ Some (named_orb n k)) (same_slot (slot_at ms i n k) x.named.led.slot (sym place_is ∙ x.named.led.stands)) is_prepared.there

    abbrev orb : CommandOrb
    orb = stepped.1.orb

    record IsOfName (address : ℕ) : Type 0 where
      brought : IsNamedBrought start now p address orb
      initiator : brought.i ≡ i
      list_is : brought.led.n ≡ n
      number_is : brought.led.k ≡ k

    of_name : IsOfName stepped.1.present
    of_name = record {
      brought = named_over start behind now (map said early) refl p stepped.1.present orb x.named;
      initiator = x.initiator;
      list_is = same_list x.named.led.n x.named.led.k n k name_is;
      number_is = same_orb x.named.led.n x.named.led.k n k name_is;
    }

    there : IsOfName (address_of now i n k)
    there = subst IsOfName (place_is ∙ ap (λ slot. start_of (windows.Orb slot)) (sym (light_slot i n k early behind r.light))) of_name

    end_named : EndIsNamed start now i n k r.status
    end_named =
        let asked = asked_so wild start past s set run serial early ended r own in
        record {
          place = p;
          small = below;
          orb = orb;
          named = there.brought;
          initiator = there.initiator;
          list = there.list_is;
          number = there.number_is;
          matches =
              subst (λ y. IsSomeAnd y (λ request. MatchesStatus r.status orb request)) (sym (light_request i n k early behind r.light ∙ asked.request_is))
              (matches (command_at ms i n k) (request_at ms i n k) (slot_at ms i n k) asked (list wild start past s set run serial early ended r own) k orb (λ o. o) r.status r.by.read (ends_so wild start past s set run serial early ended r own).read);
        }

    by_name : (a j : ℕ) → list_in (ticket_at w p r.orb) ≡ Some a → orb_in (ticket_at w p r.orb) ≡ Some j → EndIsNamed start now i a j r.status
    by_name a j e f =
        subst (λ y. EndIsNamed start now i y j r.status) (same_Some n a (sym (list_is wild start past s set run serial early ended r own) ∙ e))
        (subst (λ y. EndIsNamed start now i n y r.status) (same_Some k j (sym (number wild start past s set run serial early ended r own) ∙ f)) end_named)

  pub ended_named : EndNamedAt given wild start (said ended) now
  ended_named =
      subst (λ note. EndNamedAt given wild start (said note) now) (sym r.is)
      (by_names given wild start now i (list_in (ticket_at w p r.orb)) (orb_in (ticket_at w p r.orb)) r.status (λ a j e f so own. by_name so own a j e f))
