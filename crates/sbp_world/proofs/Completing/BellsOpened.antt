-- Turn by turn: a list that was not cut, for which the write of ORB_POINTER was taken, is at an agent that was in RESET as that was got, and that has had the list as each packet was got since.
use Rattle.sbp_world.proofs.Words.Std.{arith, ◌≡◌, ◌∙◌, refl, sym, ap, subst, inl, inr, ◌<◌, nat_lt, nat_tests, ℕ, Bool, true, false, List, [], ◌∷◌, ◌++◌, length, Option, Some, same_Some}
use Rattle.sbp_world.proofs.Words.Wire.{Event, Moment, Sending, asked, said, terms}
use Rattle.sbp_world.proofs.Words.Target.{Disk, is_reset, state_in}
use Rattle.sbp_world.proofs.Words.Laws.{Target, agent_at, is_cut, receiver_in, target_at}
use Rattle.sbp_world.proofs.Words.World.{AreNamedFor, AreOpenFor, IsCalm, IsOpenFor, IsUp, Run, Scene, WorldState, beginning, holder, PointersAt, machine_at, moments_behind, view}
use Rattle.command_agent.specs.declared.phase.Phase.TheVariants as phases
use Rattle.sbp_journal.specs.declared.note.Note.TheVariants as notes
use Rattle.sbp_world.specs.Agents.AskedRuns.{serial_of}
use Rattle.sbp_world.specs.Completing.Bells.{AreListsThen, HasListThen, KeepsList, agent_then}
use Rattle.sbp_world.specs.Completing.BellsOpened.{AreOpenings, HasOpening}
use Rattle.sbp_world.specs.Completing.Present.{IsUpWith, WasPointed}
use Rattle.sbp_world.proofs.Agents.Management.Still.{hist}
use Rattle.sbp_world.proofs.Common.{moments_joined}
use Rattle.sbp_world.proofs.Completing.PresentGets.{GotFrom, TurnGets}
use Rattle.sbp_world.proofs.Completing.PresentRuns.{its_serial, uncut_then, was_pointed}
use Rattle.sbp_world.proofs.Completing.PresentStays as stays
use Rattle.sbp_world.proofs.Completing.PresentTakes as takes
use Rattle.sbp_world.proofs.Completing.PresentLaws.{asks_nothing, nothing}
use Rattle.sbp_world.proofs.Completing.PresentTakes.{Kit}
use Rattle.sbp_world.proofs.Hosts.Cores.{not_so}
use Rattle.sbp_world.proofs.Lists.BusyCuts.{in_reset}
use Rattle.sbp_world.proofs.Lists.Gots.{WhereGot, got_before, got_here, got_in_line, got_where, turn_next}
use Rattle.sbp_world.proofs.Lists.Judging.{Grown, grown}
use Rattle.sbp_world.proofs.Lists.ManageSends.{opened_terms}
use Rattle.sbp_world.proofs.Lists.OpenedHere.{WasGot, got_found, has_list}
use Rattle.sbp_world.proofs.Lists.OpenNews.{got_news}
use Rattle.sbp_world.proofs.Lists.OrbWaits.{over_twice}
use Rattle.sbp_world.proofs.Lists.PlaceOwners.{Owns, walk_owns}
use Rattle.sbp_world.proofs.Lists.StatusRested.{Grounds}
use Rattle.sbp_world.proofs.Lists.TurnCalls.{TurnFrom}
use Rattle.sbp_world.proofs.Lists.TurnWalk.{turn_from}
use Rattle.sbp_world.proofs.Lists.Walks.{Step}

-- what is known of a place
pub record Since (start : List Disk) (past : List Moment) (w : WorldState) : Type 0 where
  pub kit : Kit nothing past w
  pub lists_then : AreListsThen start past w
  pub names : (i : ℕ) → i < length w.initiators → IsCalm past i → AreNamedFor past i

pub kit_step : (wild : ℕ → Bool) (units ready : ℕ) (start : List Disk) (past : List Moment) (s : Scene) (later : List Moment) (t : Scene) → Step wild units ready start Grounds (Since start) past s later t → Step wild units ready start Grounds (Kit nothing) past s later t
kit_step wild units ready start past s later t step = record {
  turn = step.turn;
  lines = step.lines;
  more = step.more;
  stands = step.stands;
  reaches = step.reaches;
  known = step.known;
  known_then = step.known_then;
  so_far = λ i own. (step.so_far i own).kit;
  so_far_then = λ i own. (step.so_far_then i own).kit;
  count = step.count;
  units_are = step.units_are;
}

-- as a line begins
has_asked : (start : List Disk) (line : ℕ) (event : Event) (past : List Moment) (place i n : ℕ) → HasListThen start past place i n → HasListThen start (asked line event ∷ past) place i n
has_asked start line event past place i n x =
    let opens = opened_terms event (terms past) in
    record {
      taken = x.taken;
      sends = λ which request waits.
          ap (λ (f : ℕ → Option Sending). receiver_in (f request)) opens.sent
          ∙ x.sends which request (subst (λ (T : Target). serial_of which (agent_at T place) ≡ Some request) (over_twice (target_at start past)) waits);
    }

module _ (wild : ℕ → Bool) (units ready : ℕ) (has : 0 < units) (start : List Disk) (past : List Moment) (s : Scene) (later : List Moment) (t : Scene) (given : Step wild units ready start Grounds (Since start) past s later t) where
  abbrev w : WorldState
  w = s.world

  abbrev v : WorldState
  v = t.world

  abbrev before : List Moment
  before = hist past w

  abbrev now : List Moment
  now = hist later v

  step : Step wild units ready start Grounds (Kit nothing) past s later t
  step = kit_step wild units ready start past s later t given

  on : Grown before now
  on = grown before now (turn_next past s later t given.turn)

  owns : Owns w v
  owns = walk_owns units ready has start s given.stands.reached.holds given.stands.reached.site.held later t given.turn

  turns : TurnFrom wild past w later v
  turns = turn_from wild units ready has start Grounds (Kit nothing) past s later t step step.known.numbers

  inside_before : (i : ℕ) → i < length v.initiators → i < length w.initiators
  inside_before i within = subst (λ c. i < c) given.count within

  -- ---- a list that was taken before
  module _ (i n : ℕ) (own : wild i ≡ false) (uncut : is_cut now i n ≡ false) (serial : ℕ) (o : HasOpening start before w i n serial) where
    abbrev with_it : IsUpWith before w i n
    with_it = record { place = o.place; small = o.small; up = o.up; list = o.list; latest = o.latest }

    has_now : IsUpWith now v i n
    has_now = stays.stays_with wild past w later v turns owns (given.so_far_then i own).kit.up i n (given.reaches.calm i own) uncut with_it

    up_now : IsUp v i o.place
    up_now = stays.up_now wild past w later v turns owns (given.so_far_then i own).kit.up i n (given.reaches.calm i own) uncut with_it

    has_it : HasListThen start before o.place i n
    has_it =
        subst (λ j. HasListThen start before o.place j n) o.up.own
        ((given.so_far i own).lists_then o.place n o.small (not_so (is_reset (state_in (machine_at w o.place).phase)) o.up.up) o.list)

    keeps_on : KeepsList start now (said (notes.Got serial) ∷ o.before) o.place i n
    keeps_on front other back e = by (got_where other (back ++ said (notes.Got serial) ∷ o.before) before now (turn_next past s later t given.turn) front e)
      where
        by : WhereGot before other (back ++ said (notes.Got serial) ∷ o.before) → HasListThen start (back ++ said (notes.Got serial) ∷ o.before) o.place i n
        by (got_before front f) = o.keeps front other back f
        by (got_here f) = subst (λ ms. HasListThen start ms o.place i n) (sym f) has_it
        by (got_in_line line event f) = subst (λ ms. HasListThen start ms o.place i n) (sym f) (has_asked start line event before o.place i n has_it)

    opening_on : HasOpening start now v i n serial
    opening_on = record {
      place = o.place;
      small = o.small;
      up = up_now;
      list = (given.so_far_then i own).kit.up i o.place n (given.reaches.calm i own) o.small up_now has_now.latest;
      latest = has_now.latest;
      later = on.new ++ o.later;
      before = o.before;
      is = moments_joined on.new o.later (said (notes.Got serial) ∷ o.before) ∙ (ap (λ ms. on.new ++ ms) o.is ∙ on.is);
      reset = o.reset;
      keeps = keeps_on;
    }

  -- ---- one that is taken in the turn
  module _ (i n : ℕ) (within : i < length t.world.initiators) (own : wild i ≡ false) (x : WasPointed now i n) (unjudged : (terms before).news x.serial ≡ 0) where
    inside : i < length w.initiators
    inside = inside_before i within

    module _ (g : GotFrom past w later v x.serial) where
      taken : takes.IsOpenedIn w now v i n
      taken = takes.opened_in nothing wild units ready has start past s later t step i n inside own (asks_nothing now i n) x unjudged g

      abbrev q : ℕ
      q = taken.has.place

      small : q < 8
      small = taken.has.small

      was_reset : is_reset (state_in (machine_at w q).phase) ≡ true
      was_reset = taken.reset

      calm : IsCalm now i
      calm = given.reaches.calm i own

      pointers : PointersAt now i
      pointers = given.known_then.ground.known.pointers i within

      open_for : AreOpenFor (view now i) v i
      open_for = (given.so_far_then i own).kit.open_for i within calm

      o : IsOpenFor (view now i) i taken.has.place (holder v taken.has.place).list
      o = open_for.each taken.has.place taken.has.small taken.has.up

      list_is : o.list ≡ n
      list_is = same_Some o.list n (sym (has_list now v i open_for ((given.so_far_then i own).names i within calm) taken.has.place o) ∙ taken.has.list)

      one : o.serial ≡ x.serial
      one = pointers.once n o.serial x.serial (o.pointed ∙ ap (λ l. Some l) list_is) x.pointed

      got : WasGot now o.serial i o.address (Some o.packet) (holder v taken.has.place).list
      got = got_found now o.serial i o.address (Some o.packet) (holder v taken.has.place).list o.named

      -- it was not got before
      not_before : (front earlier : List Moment) → (terms earlier).sent o.serial ≡ Some o.packet → front ++ said (notes.Got o.serial) ∷ earlier ≡ before → {A : Type 0} → A
      not_before front earlier sent f =
          let some = got_news o.serial front earlier before o.packet f sent in
          let none : (terms before).news o.serial ≡ 0 = ap (λ r. (terms before).news r) one ∙ unjudged in
          absurd (omega (arith, some, none))

      reset_before : (agent_then start before q).machine.phase ≡ phases.Reset
      reset_before = (given.stands.reached.site.agents.are.each q small).machine.phase ∙ in_reset (machine_at w q).phase was_reset

      reset_then : WhereGot before o.serial got.earlier → (agent_then start got.earlier q).machine.phase ≡ phases.Reset
      reset_then (got_before front f) = not_before front got.earlier got.sent f
      reset_then (got_here e) = subst (λ ms. (agent_then start ms q).machine.phase ≡ phases.Reset) (sym e) reset_before
      reset_then (got_in_line line event e) =
          subst (λ ms. (agent_then start ms q).machine.phase ≡ phases.Reset) (sym e)
          (subst (λ (T : Target). (agent_at T q).machine.phase ≡ phases.Reset) (sym (over_twice (target_at start before))) reset_before)

      -- nothing is got behind it
      not_asked : (line : ℕ) (event : Event) (back : List Moment) → back ++ said (notes.Got o.serial) ∷ got.earlier ≡ asked line event ∷ before → {A : Type 0} → A
      not_asked line event [] e = absurd (let z : said (notes.Got o.serial) ∷ got.earlier ≡ asked line event ∷ before = e in cc)
      not_asked line event (m ∷ back) e = not_before back got.earlier got.sent (let z : m ∷ (back ++ said (notes.Got o.serial) ∷ got.earlier) ≡ asked line event ∷ before = e in cc)

      keeps_new : KeepsList start now (said (notes.Got o.serial) ∷ got.earlier) q i n
      keeps_new front other back e = by (got_where other (back ++ said (notes.Got o.serial) ∷ got.earlier) before now (turn_next past s later t given.turn) front e)
        where
          by : WhereGot before other (back ++ said (notes.Got o.serial) ∷ got.earlier) → HasListThen start (back ++ said (notes.Got o.serial) ∷ got.earlier) q i n
          by (got_before more f) = not_before (more ++ said (notes.Got other) ∷ back) got.earlier got.sent (moments_joined more (said (notes.Got other) ∷ back) (said (notes.Got o.serial) ∷ got.earlier) ∙ f)
          by (got_here f) = not_before back got.earlier got.sent f
          by (got_in_line line event f) = not_asked line event back f

      opening_here : HasOpening start now v i n o.serial
      opening_here = record {
        place = q;
        small = small;
        up = taken.has.up;
        list = taken.has.list;
        latest = taken.has.latest;
        later = got.later;
        before = got.earlier;
        is = got.is;
        reset = reset_then (got_where o.serial got.earlier before now (turn_next past s later t given.turn) got.later got.is);
        keeps = keeps_new;
      }

      opening_new : HasOpening start now v i n x.serial
      opening_new = subst (λ r. HasOpening start now v i n r) one opening_here

    pub opens : HasOpening start now v i n x.serial
    opens = by (takes.gets nothing wild units ready has start past s later t step i n inside own (asks_nothing now i n) x unjudged)
      where
        by : TurnGets past w later v x.serial → HasOpening start now v i n x.serial
        by (inl e) = let taken = x.taken in absurd (omega (arith, e, taken, unjudged))
        by (inr g) = opening_new g

  pub turn_openings : AreOpenings wild start before w → AreOpenings wild start now v
  turn_openings a i n within own x uncut = by (nat_lt 0 ((terms before).news x.serial)) refl
    where
      by : (known : Bool) → nat_lt 0 ((terms before).news x.serial) ≡ known → HasOpening start now v i n x.serial
      by false e = opens i n within own x (let z : (terms before).news x.serial ≡ 0 = grind (arith, nat_tests, e) in z)
      by true e =
          let known : 0 < (terms before).news x.serial = grind (arith, nat_tests, e) in
          opening_on i n own uncut x.serial
          (subst (λ r. HasOpening start before w i n r) (its_serial nothing wild units ready has start (Kit nothing) (λ past w k. k.up) past s later t step (takes.all_take nothing wild units ready has start past s later t step) i n own x known)
          (a i n (inside_before i within) own (was_pointed nothing wild units ready has start (Kit nothing) (λ past w k. k.up) past s later t step (takes.all_take nothing wild units ready has start past s later t step) i n own x known)
          (uncut_then nothing wild units ready has start (Kit nothing) (λ past w k. k.up) past s later t step (takes.all_take nothing wild units ready has start past s later t step) i n uncut)))

-- no packet was taken as a run begins
pub first_openings : (wild : ℕ → Bool) (line : ℕ) (run : Run) → AreOpenings wild run.start.disks (moments_behind line run []) (beginning run).world
first_openings wild line run i n b own x uncut = let none = x.taken in absurd (omega (arith, none))
