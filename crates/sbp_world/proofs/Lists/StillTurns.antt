-- A turn of a world in which no initiator injected packets, or few logins were given, leaves each agent with the ORBs that it has read of an initiator that injected none, which are the
-- ones prepared last in their slots still: an initiator prepares ORBs in the line of its action alone, and this leaves the target as it is.
use Rattle.sbp_world.proofs.Words.Std.{arith, ◌≡◌, ◌∙◌, refl, sym, ap, subst, ◌<◌, ◌≤◌, ℕ, suc, nat_eq, nat_lt, Bool, true, false, cond, List, [], ◌∷◌, ◌++◌, map, length, Option, Some, None, nat_tests, same_Some}
use Rattle.sbp_world.proofs.Words.Wire.{holder_at, Holder, Moment, asked, said, Sending, terms, Action, Event, Note, end_note}
use Rattle.sbp_world.proofs.Words.Target.{number_behind, Phase, ReadAhead, Machine, aligned, Disk, Told, NodeState, desk_at}
use Rattle.sbp_world.proofs.Words.Initiator.{CommandOrb}
use Rattle.sbp_world.proofs.Words.Laws.{injectors, cmd_of, lowest_vacant, named_orb, prepared_in, slots, OrderLaw, receiver_in, Target, agent_at, over, target_at, ends, EachMoment, event_of}
use Rattle.sbp_world.proofs.Words.World.{MayHappen, acted, happens, holder, IsLine, Scene, WorldState, begun, initiator_at, without_notes, Alike, has_list, AreAskedAt, serial_of, AreAlong, IsCalm, OpenLists, initiator_in, is_open_at, machine_at, AreLed, IsJustBrought, IsStillBrought, LedAsGot, AskedAsGot, IsBrought, IsTameOrFew, more_deliveries, MayNext, delivered_next, settled_from}
use Rattle.command_agent.specs.declared.phase.Phase.TheVariants as phases
use Rattle.command_agent.specs.declared.phase.ReadAhead.TheVariants as aheads
use Rattle.sbp_journal.specs.declared.event.Event.TheVariants as events
use Rattle.sbp_journal.specs.declared.note.Note.TheVariants as notes
use Rattle.sbp_world.proofs.Lists.AgentFolds.{is_for}
use Rattle.sbp_world.proofs.Agents.Asides.{over_none}
use Rattle.sbp_world.proofs.Agents.Management.Holding.{Holding}
use Rattle.sbp_world.proofs.Agents.Management.Still.{hist}
use Rattle.sbp_world.proofs.Hosts.StepLaws.{step_law}
use Rattle.sbp_world.proofs.Hosts.Carries.{IsNoAct}
use Rattle.sbp_world.proofs.Lists.Calm.{calm_before as calm_by}
use Rattle.sbp_world.proofs.Lists.Adds.{Stays}
use Rattle.sbp_world.proofs.Lists.Courses.{Goes, by_delivery, by_end, by_line, by_start}
use Rattle.sbp_world.proofs.Lists.Judging.{goes_next, grown as grown_by}
use Rattle.sbp_world.proofs.Lists.LiveRuns.{goes_size, goes_tame_or_few}
use Rattle.sbp_world.proofs.Lists.Turned.{IsOne}
use Rattle.sbp_world.proofs.Lists.LedRuns.{got_just}
use Rattle.sbp_world.proofs.Lists.LinedAppends.{AllLined, LinedAt}
use Rattle.sbp_world.proofs.Lists.Lines.{acts}
use Rattle.sbp_world.proofs.Lists.ManageSends.{opened_terms}
use Rattle.sbp_world.proofs.Lists.ManageTerms.{none_is}
use Rattle.sbp_world.proofs.Lists.OpenTurns.{listing_up}
use Rattle.sbp_world.proofs.Lists.OrbFolds.{AreReading, over_reads}
use Rattle.sbp_world.proofs.Lists.OrbNotes.{GotBrings}
use Rattle.sbp_world.proofs.Lists.OrbPlaces.{alike_reads}
use Rattle.sbp_world.proofs.Lists.OrbReading.{reads_more}
use Rattle.sbp_world.proofs.Lists.OrbSteps.{ReadAheadOf, Reads, has_read, holds_read}
use Rattle.sbp_world.proofs.Lists.OrbWaits.{over_twice}
use Rattle.sbp_world.proofs.Lists.PlaceOwners.{Owns, turn_owns}
use Rattle.sbp_world.proofs.Lists.Sites.{Site, waiting}
use Rattle.sbp_world.proofs.Lists.StillReads.{AreStill, IsHad, ahead_name, had_still, main_name, named_over, o, still_had}
use Rattle.sbp_world.proofs.Lists.TurnReads.{Course, Gets, delivery_course, line_course, turn_over}
use Rattle.sbp_world.proofs.Hosts.Outboxes.{line_stays as event_behind}
use Rattle.sbp_world.proofs.Common.{untrue, same_node}

-- ---- what is known of a place
pub record Ground (start : List Disk) (ms : List Moment) (w : WorldState) : Type 0 where
  pub past : List Moment
  pub is : hist past w ≡ ms
  pub site : Site start past w
  pub law : OrderLaw (injectors ms) ms
  pub number : (i : ℕ) → i < length w.initiators → (initiator_at w i).number ≡ i
  pub lined : (i : ℕ) → i < length w.initiators → AllLined ms i
  pub asked_so : EachMoment (AskedAsGot start) ms
  pub led_so : IsTameOrFew ms → EachMoment (LedAsGot start) ms
  pub lists : IsTameOrFew ms → OpenLists ms w
  pub along : AreAlong ms w
  pub brought : AreReading (IsBrought start ms) (target_at start ms)

cancel : (front : List Note) (a b : List Moment) → map said front ++ a ≡ map said front ++ b → a ≡ b
cancel [] a b e = e
cancel (note ∷ front) a b e = cancel front a b (let tail : said note ∷ (map said front ++ a) ≡ said note ∷ (map said front ++ b) = e in cc)

pub site_at : (start : List Disk) (past : List Moment) (w : WorldState) → Ground start (hist past w) w → Site start past w
site_at start past w q = subst (λ p. Site start p w) (cancel w.fresh q.past past q.is) q.site

-- ---- no ORB is prepared but in the line of an action
module _ (i slot : ℕ) where
  one_prepared : (note : Note) (past : List Moment) → cmd_of (event_of past) ≡ None → LinedAt i (said note) past → prepared_in (said note ∷ past) i slot ≡ prepared_in past i slot
  one_prepared (notes.Append j n k cdb buffer) past none l = by (nat_eq i j) refl
    where
      by : (b : Bool) → nat_eq i j ≡ b → cond b (cond (nat_eq slot (lowest_vacant (slots past j))) (Some (named_orb n k)) (prepared_in past i slot)) (prepared_in past i slot) ≡ prepared_in past i slot
      by true e = let same : j ≡ i = grind (arith, nat_tests) in let x = l same in none_is x.cmd (sym none ∙ x.line)
      by false e = refl
  one_prepared note past none l = refl

  pub none_prepared : (ns : List Note) (past : List Moment) → cmd_of (event_of past) ≡ None → EachMoment (LinedAt i) (map said ns ++ past) → prepared_in (map said ns ++ past) i slot ≡ prepared_in past i slot
  none_prepared [] past none l = refl
  none_prepared (note ∷ ns) past none l =
      one_prepared note (map said ns ++ past) (ap cmd_of (event_behind ns past) ∙ none) l.0 ∙ none_prepared ns past none l.1

-- ---- agents that are alike
unlisted_holds : (phase : Phase) → has_list phase ≡ false → holds_read phase ≡ false
unlisted_holds phases.Reset e = refl
unlisted_holds phases.Dead e = refl
unlisted_holds phases.Fetching e = untrue (sym e)
unlisted_holds phases.ReadingTable e = untrue (sym e)
unlisted_holds (phases.ReadingData wanted) e = untrue (sym e)
unlisted_holds phases.Answering e = untrue (sym e)
unlisted_holds phases.WritingStatus e = untrue (sym e)
unlisted_holds phases.WritingLastStatus e = untrue (sym e)
unlisted_holds phases.ReadingNext e = untrue (sym e)
unlisted_holds phases.Suspended e = untrue (sym e)

pub unlisted_reads : (phase : Phase) → has_list phase ≡ false → has_read phase ≡ false
unlisted_reads phases.Reset e = refl
unlisted_reads phases.Dead e = refl
unlisted_reads phases.Fetching e = untrue (sym e)
unlisted_reads phases.ReadingTable e = untrue (sym e)
unlisted_reads (phases.ReadingData wanted) e = untrue (sym e)
unlisted_reads phases.Answering e = untrue (sym e)
unlisted_reads phases.WritingStatus e = untrue (sym e)
unlisted_reads phases.WritingLastStatus e = untrue (sym e)
unlisted_reads phases.ReadingNext e = untrue (sym e)
unlisted_reads phases.Suspended e = untrue (sym e)

module _ (R S : ℕ → CommandOrb → Type 0) (u : Bool) (a m : Machine) (alike : Alike u a m) where
  alike_back : has_list m.phase ≡ true → Reads R m → Reads R a
  alike_back open_there h = record {
    main = λ e. subst (λ n. R n a.orb) (sym (alike.present open_there)) (subst (R m.present) (sym (alike.orb open_there)) (h.main (ap holds_read (sym alike.phase) ∙ e)));
    ahead = subst (λ x. ReadAheadOf R a.orb.next x) (sym (alike.ahead open_there)) (subst (λ (orb : CommandOrb). ReadAheadOf R orb.next m.ahead) (sym (alike.orb open_there)) h.ahead);
    idle = λ e. alike.ahead open_there ∙ h.idle (ap has_read (sym alike.phase) ∙ e);
  }

  -- without a list it has none
  closed_reads : has_list m.phase ≡ false → Reads S a → Reads R a
  closed_reads closed h =
      let idle = h.idle (ap has_read alike.phase ∙ unlisted_reads m.phase closed) in
      record {
        main = λ e. untrue (sym (unlisted_holds m.phase closed) ∙ (ap holds_read (sym alike.phase) ∙ e));
        ahead = subst (ReadAheadOf R a.orb.next) (sym idle) tt;
        idle = λ e. idle;
      }

-- ---- a turn
module _ (units ready : ℕ) (has : 0 < units) (start : List Disk) (past : List Moment) (s : Scene) (later : List Moment) (t : Scene) {lines more : ℕ} (h : Holding units ready start past lines s.world) (h_now : Holding units ready start later more t.world) (q : Ground start (hist past s.world) s.world) (q_now : Ground start (hist later t.world) t.world) (beside : IsTameOrFew (hist past s.world)) (beside_now : IsTameOrFew (hist later t.world)) (owns : Owns s.world t.world) (count : length t.world.initiators ≡ length s.world.initiators) (still : AreStill start (hist past s.world) s.world) where
  abbrev w : WorldState
  w = s.world

  abbrev v : WorldState
  v = t.world

  abbrev before : List Moment
  before = hist past w

  abbrev now : List Moment
  now = hist later v

  abbrev T : Target
  T = over (target_at start before)

  abbrev pub site : Site start past w
  site = site_at start past w q

  abbrev pub site_now : Site start later v
  site_now = site_at start later v q_now

  abbrev pub lists : OpenLists before w
  lists = q.lists beside

  abbrev pub lists_now : OpenLists now v
  lists_now = q_now.lists beside_now

  pub owner : (p : ℕ) → p < 8 → is_open_at v p ≡ true → initiator_in v p ≡ initiator_in w p
  owner p b e = owns p b (listing_up (machine_at v p).phase e)

  pub inside : (p : ℕ) → p < 8 → is_open_at v p ≡ true → IsCalm now (initiator_in v p) → initiator_in w p < length w.initiators
  inside p b e calm = subst (λ n. initiator_in w p < n) count (subst (λ i. i < length v.initiators) (owner p b e) (lists_now.listed p b e calm).inside)

  -- who injected no packets injected none before
  pub calm_before : (back ms : List Moment) → back ++ ms ≡ now → (i : ℕ) → IsCalm now i → IsCalm ms i
  calm_before back ms is i calm = calm_by back ms i (subst (λ xs. IsCalm xs i) (sym is) calm)

  abbrev Still : ℕ → ℕ → CommandOrb → Type 0
  Still p address orb = IsStillBrought start now v p address orb

  -- ---- where nothing is prepared
  module _ (back : List Moment) (behind : back ++ before ≡ now) (prepared : (i slot : ℕ) → i < length w.initiators → prepared_in now i slot ≡ prepared_in before i slot) where
    abbrev R : ℕ → ℕ → CommandOrb → Type 0
    R p address orb = p < 8 → IsCalm now (initiator_in w p) → IsHad start now before w p address orb

    -- before it
    had_of : (p : ℕ) (b : p < 8) → is_open_at w p ≡ true → (x : Bool) → injectors now (initiator_in w p) ≡ x → Reads (R p) (agent_at T p).machine
    had_of p b e true f = reads_more (IsBrought start before p) (R p) (λ address orb x small calm. untrue (sym calm ∙ f)) (agent_at T p).machine ((over_reads (IsBrought start before) (target_at start before) q.brought).agents p)
    had_of p b e false f =
        alike_back (R p) (R p) (agent_at T p).untold (agent_at T p).machine (machine_at w p) (site.agents.are.each p b).machine e
        (reads_more (λ address orb. IsStillBrought start before w p address orb) (R p) (λ address orb x small calm. still_had start before now back behind w p address orb x) (machine_at w p)
        (still p b e (calm_before back before behind (initiator_in w p) f)))

    had_by : (p : ℕ) (b : p < 8) (x : Bool) → has_list (machine_at w p).phase ≡ x → Reads (R p) (agent_at T p).machine
    had_by p b true e = had_of p b e (injectors now (initiator_in w p)) refl
    had_by p b false e =
        closed_reads (R p) (IsBrought start before p) (agent_at T p).untold (agent_at T p).machine (machine_at w p) (site.agents.are.each p b).machine e
        ((over_reads (IsBrought start before) (target_at start before) q.brought).agents p)

    had_at : (p : ℕ) (x : Bool) → nat_lt p 8 ≡ x → Reads (R p) (agent_at T p).machine
    had_at p true e = had_by p (grind (arith, nat_tests)) (has_list (machine_at w p).phase) refl
    had_at p false e =
        let far : 8 ≤ p = grind (arith, nat_tests) in
        reads_more (IsBrought start before p) (R p) (λ address orb x small calm. absurd (omega (arith, far, small))) (agent_at T p).machine ((over_reads (IsBrought start before) (target_at start before) q.brought).agents p)

    over_before : AreReading R (over (target_at start before))
    over_before = record {
      agents = λ p f. had_at p (nat_lt p 8) refl;
      pending = λ reply e. none_is reply (sym (over_reads (IsBrought start before) (target_at start before) q.brought).none ∙ e);
    }

    -- what a packet brings
    module _ (ms : List Moment) (same : over (target_at start ms) ≡ T) (sent : (terms ms).sent ≡ (terms before).sent) (there : (i slot : ℕ) → prepared_in ms i slot ≡ prepared_in before i slot) (serial : ℕ) (front : List Moment) (is : front ++ said (notes.Got serial) ∷ ms ≡ now) where
      just_had : (p : ℕ) → p < 8 → IsCalm now (initiator_in w p) → (address : ℕ) (orb : CommandOrb) → IsJustBrought start ms serial p address orb → IsHad start now before w p address orb
      just_had p b calm address orb x =
          let y = x.from in
          let e = x.now in
          let waits : serial_of y.brought.which (agent_at T p) ≡ Some y.brought.request =
          subst (λ (z : Target). serial_of y.brought.which (agent_at z p) ≡ Some y.brought.request) same (subst (λ ps. serial_of y.brought.which (agent_at (over (target_at start ps)) p) ≡ Some y.brought.request) e y.brought.waited) in
          let asked = waiting units ready has start w h site p b y.brought.which y.brought.request waits in
          let to : receiver_in ((terms before).sent y.brought.request) ≡ Some (suc y.i) =
          subst (λ (f : ℕ → Option Sending). receiver_in (f y.brought.request) ≡ Some (suc y.i)) sent (subst (λ ps. receiver_in ((terms ps).sent y.brought.request) ≡ Some (suc y.i)) e y.to) in
          let own : y.i ≡ initiator_in w p = same_node y.i (initiator_in w p) (sym to ∙ asked.to) in
          let led = y.led (subst (λ ps. IsCalm ps y.i) (sym e) (calm_by (said (notes.Got serial) ∷ []) ms y.i (calm_before front (said (notes.Got serial) ∷ ms) is y.i (subst (IsCalm now) (sym own) calm)))) in
          record {
            named = named_over start (said (notes.Got serial) ∷ ms) now front is p address orb (record { brought = y.brought; i = y.i; to = y.to; led = led });
            initiator = own;
            there = sym (there y.i led.slot) ∙ subst (λ ps. prepared_in ps y.i led.slot ≡ Some (named_orb led.n led.k)) e led.there;
          }

      got_had : AreAskedAt start ms → AreLed start ms → GotBrings (IsJustBrought start ms serial) (terms ms) serial (over (target_at start ms)) → GotBrings R (terms ms) serial (over (target_at start ms))
      got_had a l just own closed place which purpose =
          let b = just own closed place which purpose in
          record { main = λ x p bytes e small calm. just_had place small calm _ _ (b.main x p bytes e); ahead = λ x a offset n bytes e small calm. just_had place small calm _ _ (b.ahead x a offset n bytes e) }

    gets : Gets start R now before
    gets serial front is a l e = got_had before refl refl (λ i slot. refl) serial front is a l (got_just start before serial a l e)

    gets_line : (line : ℕ) (event : Event) → Gets start R now (asked line event ∷ before)
    gets_line line event serial front is a l e =
        got_had (asked line event ∷ before) (over_twice (target_at start before)) (opened_terms event (terms before)).sent (λ i slot. refl) serial front is a l (got_just start (asked line event ∷ before) serial a l e)

    still_then : Course before now → AreStill start now v
    still_then course p b e calm =
        let quiet : IsCalm now (initiator_in w p) = subst (IsCalm now) (owner p b e) calm in
        let all = turn_over start R now before course q_now.asked_so (q_now.led_so beside_now) gets gets_line over_before in
        let agent = agent_at (over (target_at start now)) p in
        reads_more (R p) (Still p)
        (λ address orb r. let x = r b quiet in had_still start before now w v p address orb (owner p b e) x (prepared x.named.i x.named.led.slot (subst (λ i. i < length w.initiators) (sym x.initiator) (inside p b e calm)))) (machine_at v p)
        (alike_reads (R p) agent.untold agent.machine (machine_at v p) (site_now.agents.are.each p b).machine e (all.agents p (ap (λ r. is_for r p) (over_none (target_at start now)))))

  -- ---- where the target stands
  module _ (back : List Moment) (behind : back ++ before ≡ now) (target : v.target ≡ w.target) where
    pub machine_same : (p : ℕ) → machine_at v p ≡ machine_at w p
    machine_same p = ap (λ (n : NodeState). (desk_at n p).agent) target

    pub open_before : (p : ℕ) → is_open_at v p ≡ true → is_open_at w p ≡ true
    open_before p e = ap (λ (m : Machine). has_list m.phase) (sym (machine_same p)) ∙ e

    -- and nothing is prepared
    still_rests : ((i slot : ℕ) → i < length w.initiators → prepared_in now i slot ≡ prepared_in before i slot) → AreStill start now v
    still_rests prepared p b e calm =
        subst (Reads (Still p)) (sym (machine_same p))
        (reads_more (λ address orb. IsStillBrought start before w p address orb) (Still p)
        (λ address orb x.
        had_still start before now w v p address orb (owner p b e) (still_had start before now back behind w p address orb x) (prepared x.named.i x.named.led.slot (subst (λ i. i < length w.initiators) (sym x.initiator) (inside p b e calm)))) (machine_at w p)
        (still p b (open_before p e) (calm_before back before behind (initiator_in w p) (subst (IsCalm now) (owner p b e) calm))))

    -- or an initiator acts
    module _ (places : v.places ≡ w.places) (ends_are : (i n : ℕ) → ends now i n ≡ ends before i n) (p : ℕ) (b : p < 8) (e : is_open_at v p ≡ true) (calm_now : IsCalm now (initiator_in v p)) where
      abbrev M : Machine
      M = machine_at w p

      abbrev pub f : is_open_at w p ≡ true
      f = open_before p e

      abbrev i : ℕ
      i = initiator_in w p

      pub calm : IsCalm before i
      calm = calm_before back before behind i (subst (IsCalm now) (owner p b e) calm_now)

      holder_same : holder v p ≡ holder w p
      holder_same = ap (λ ps. holder_at ps p) places

      abbrev n : ℕ
      n = (o units ready has start w h site lists q.along p b f calm).n

      abbrev n_now : ℕ
      n_now = (o units ready has start v h_now site_now lists_now q_now.along p b e calm_now).n

      list_same : n_now ≡ n
      list_same =
          same_Some n_now n
          (sym (o units ready has start v h_now site_now lists_now q_now.along p b e calm_now).list
          ∙ (ap (λ (k : Holder). k.list) holder_same ∙ (o units ready has start w h site lists q.along p b f calm).list))

      pub number_same : ends now (initiator_in v p) n_now ≡ ends before i n
      number_same = ap (λ j. ends now j n_now) (owner p b e) ∙ (ap (ends now i) list_same ∙ ends_are i n)

      -- the same name stands there
      pub name_same : (x y slot : ℕ) → x ≡ y → prepared_in now (initiator_in v p) slot ≡ Some (named_orb n_now x) → prepared_in before i slot ≡ Some (named_orb n y) → prepared_in now i slot ≡ prepared_in before i slot
      name_same x y slot same g k =
          ap (λ j. prepared_in now j slot) (sym (owner p b e)) ∙ (g ∙ (ap (λ m. Some (named_orb m x)) list_same ∙ (ap (λ m. Some (named_orb n m)) same ∙ sym k)))

      as_now : (address : ℕ) (orb : CommandOrb) (x : IsStillBrought start before w p address orb) → prepared_in now i x.named.led.slot ≡ prepared_in before i x.named.led.slot → Still p address orb
      as_now address orb x same =
          had_still start before now w v p address orb (owner p b e) (still_had start before now back behind w p address orb x)
          (subst (λ j. prepared_in now j x.named.led.slot ≡ prepared_in before j x.named.led.slot) (sym x.initiator) same)

      main_now : holds_read M.phase ≡ true → Still p M.present M.orb
      main_now r =
          let x = (still p b f calm).main r in
          let at = x.named.led.stands in
          let slot = x.named.led.slot in
          as_now M.present M.orb x
          (name_same (ends now (initiator_in v p) n_now) (ends before i n) slot number_same
          (main_name units ready has start v h_now site_now lists_now q_now.along p b e calm_now (ap (λ (m : Machine). holds_read m.phase) (machine_same p) ∙ r) slot (ap (λ (m : Machine). m.present) (machine_same p) ∙ at))
          (main_name units ready has start w h site lists q.along p b f calm r slot at))

      ahead_now : (ahead : ReadAhead) → M.ahead ≡ ahead → ReadAheadOf (λ address orb. IsStillBrought start before w p address orb) M.orb.next ahead → ReadAheadOf (Still p) M.orb.next ahead
      ahead_now aheads.Idle g r = tt
      ahead_now (aheads.UnderWay rung) g r = record { offset = r.offset; is = r.is }
      ahead_now (aheads.Kept orb) g r =
          let x = r.read in
          let at = x.named.led.stands in
          let slot = x.named.led.slot in
          record {
            offset = r.offset;
            is = r.is;
            read = as_now (aligned r.offset) orb x
                (name_same (number_behind (machine_at v p).phase (ends now (initiator_in v p) n_now)) (number_behind M.phase (ends before i n)) slot
                (ap (λ (m : Machine). number_behind m.phase (ends now (initiator_in v p) n_now)) (machine_same p) ∙ ap (number_behind M.phase) number_same)
                (ahead_name units ready has start v h_now site_now lists_now q_now.along p b e calm_now orb (ap (λ (m : Machine). m.ahead) (machine_same p) ∙ g) r.offset (ap (λ (m : Machine). m.orb.next) (machine_same p) ∙ r.is) slot at)
                (ahead_name units ready has start w h site lists q.along p b f calm orb g r.offset r.is slot at));
          }

      still_acts : Reads (Still p) (machine_at v p)
      still_acts =
          let r = still p b f calm in
          subst (Reads (Still p)) (sym (machine_same p)) (record { main = main_now; ahead = ahead_now M.ahead refl r.ahead; idle = r.idle })

-- ---- by what the turn is
pub none_acts : (e : Option Event) → ((i : ℕ) → IsNoAct i e) → cmd_of e ≡ None
none_acts (Some (events.Act i action)) f = untrue (sym (f i) ∙ (let same : nat_eq i i ≡ true = grind (arith, nat_tests) in same))
none_acts None f = refl
none_acts (Some (events.Begin initiators is_ready)) f = refl
none_acts (Some (events.Reset physical)) f = refl
none_acts (Some (events.See node)) f = refl
none_acts (Some (events.Deliver serial)) f = refl
none_acts (Some (events.Repeat serial)) f = refl
none_acts (Some (events.Lose serial)) f = refl
none_acts (Some (events.Timeout serial)) f = refl
none_acts (Some (events.Step count)) f = refl
none_acts (Some events.Settle) f = refl
none_acts (Some events.Tick) f = refl
none_acts (Some (events.Inject i bytes)) f = refl
none_acts (Some (events.Key unit key)) f = refl

end_prepared : (done : Bool) (i slot : ℕ) (past : List Moment) → prepared_in (said (end_note done) ∷ past) i slot ≡ prepared_in past i slot
end_prepared true i slot past = refl
end_prepared false i slot past = refl

module _ (units ready : ℕ) (has : 0 < units) (start : List Disk) where
  Turns : (past : List Moment) (s : Scene) (later : List Moment) (t : Scene) → Type 0
  Turns past s later t =
      (lines more : ℕ) → Holding units ready start past lines s.world → Holding units ready start later more t.world → Ground start (hist past s.world) s.world → Ground start (hist later t.world) t.world → IsTameOrFew (hist past s.world) → IsTameOrFew (hist later t.world) → Owns s.world t.world → length t.world.initiators ≡ length s.world.initiators → (back : List Moment) → back ++ hist past s.world ≡ hist later t.world → AreStill start (hist past s.world) s.world → AreStill start (hist later t.world) t.world

  -- a line in which no initiator acts
  quiet_line : (past : List Moment) (s : Scene) (line : ℕ) (event : Event) (told : List (Option Told)) → IsOne event → MayHappen event told s → cmd_of (Some event) ≡ None → Turns past s (asked line event ∷ hist past s.world) (happens line event told s)
  unfolding Turns
  quiet_line past s line event told one may none lines more h h_now q q_now beside beside_now owns count back behind still =
      let t = happens line event told s in
      still_then units ready has start past s (asked line event ∷ hist past s.world) t h h_now q q_now beside beside_now owns count still back behind
      (λ i slot l. none_prepared i slot t.world.fresh (asked line event ∷ hist past s.world) none (q_now.lined i (subst (λ n. i < n) (sym count) l))) (line_course past s line event told one may)

  -- one in which an initiator acts
  acting_line : (past : List Moment) (s : Scene) (line i : ℕ) (action : Action) (told : List (Option Told)) → IsLine (events.Act i action) (length s.world.initiators) → Turns past s (asked line (events.Act i action) ∷ hist past s.world) (happens line (events.Act i action) told s)
  unfolding Turns happens
  acting_line past s line i action told fit lines more h h_now q q_now beside beside_now owns count back behind still p b e calm =
      let event = events.Act i action in
      let now = asked line event ∷ hist past s.world in
      let w = without_notes s.world in
      let site = site_at start past s.world q in
      let x : Stays (injectors (hist past s.world)) now w (acted line i action w) = acts (injectors (hist past s.world)) now line i action w (q.number i fit.0) (step_law.asked line event (hist past s.world) i (initiator_at s.world i).lists.slots (site.rows i fit.0)) (tt, q.law) in
      still_acts units ready has start past s now (happens line event told s) h h_now q q_now beside beside_now owns count still back behind x.target x.places (λ j n. x.adds.ends_are j n) p b e calm

  line_turn : (past : List Moment) (s : Scene) (line : ℕ) (event : Event) (told : List (Option Told)) → IsOne event → IsLine event (length s.world.initiators) → MayHappen event told s → Turns past s (asked line event ∷ hist past s.world) (happens line event told s)
  line_turn past s line (events.Act i action) told one fit may = acting_line past s line i action told fit
  line_turn past s line (events.Begin initiators is_ready) told one fit may = quiet_line past s line (events.Begin initiators is_ready) told one may refl
  line_turn past s line (events.Reset physical) told one fit may = quiet_line past s line (events.Reset physical) told one may refl
  line_turn past s line (events.See node) told one fit may = quiet_line past s line (events.See node) told one may refl
  line_turn past s line (events.Deliver serial) told one fit may = quiet_line past s line (events.Deliver serial) told one may refl
  line_turn past s line (events.Repeat serial) told one fit may = quiet_line past s line (events.Repeat serial) told one may refl
  line_turn past s line (events.Lose serial) told one fit may = quiet_line past s line (events.Lose serial) told one may refl
  line_turn past s line (events.Timeout serial) told one fit may = quiet_line past s line (events.Timeout serial) told one may refl
  line_turn past s line (events.Step count) told one fit may = absurd one
  line_turn past s line events.Settle told one fit may = absurd one
  line_turn past s line events.Tick told one fit may = quiet_line past s line events.Tick told one may refl
  line_turn past s line (events.Inject i bytes) told one fit may = quiet_line past s line (events.Inject i bytes) told one may refl
  line_turn past s line (events.Key unit key) told one fit may = quiet_line past s line (events.Key unit key) told one may refl

  -- a delivery
  delivery_turn : (past : List Moment) (s : Scene) (one : Option Told) → MayNext one s → ((i : ℕ) → IsNoAct i (event_of past)) → Turns past s past (delivered_next one s)
  unfolding Turns
  delivery_turn past s one may no_act lines more h h_now q q_now beside beside_now owns count back behind still =
      let t = delivered_next one s in
      let none = none_acts (event_of past) no_act in
      still_then units ready has start past s past t h h_now q q_now beside beside_now owns count still back behind
      (λ i slot l. none_prepared i slot t.world.fresh past none (q_now.lined i (subst (λ n. i < n) (sym count) l)) ∙ sym (none_prepared i slot s.world.fresh past none (q.lined i l))) (delivery_course past s one may)

  pub turn_still : (past : List Moment) (s : Scene) (later : List Moment) (t : Scene) → Goes past s later t → (lines more : ℕ) → Holding units ready start past lines s.world → Holding units ready start later more t.world → Ground start (hist past s.world) s.world → Ground start (hist later t.world) t.world → IsTameOrFew (hist later t.world) → AreStill start (hist past s.world) s.world → AreStill start (hist later t.world) t.world
  unfolding Turns
  turn_still past s later t g lines more h h_now q q_now beside_now still =
      let grown = grown_by (hist past s.world) (hist later t.world) (goes_next past s later t g) in
      by past s later t g lines more h h_now q q_now (goes_tame_or_few past s later t g beside_now) beside_now (turn_owns units ready has start s h (site_at start past s.world q).held later t g) (goes_size past s later t g) grown.new grown.is still
    where
      by : (past : List Moment) (s : Scene) (later : List Moment) (t : Scene) → Goes past s later t → Turns past s later t
      by _ _ _ _ (by_line past s line event told one fit may) = line_turn past s line event told one fit may
      by _ _ _ _ (by_start past s line most) = λ lines more h h_now q q_now beside beside_now owns count back behind still.
          still_rests units ready has start past s (asked line (more_deliveries most) ∷ hist past s.world) (begun s) h h_now q q_now beside beside_now owns count still back behind refl (λ i slot l. refl)
      by _ _ _ _ (by_delivery past s one may no_act) = delivery_turn past s one may no_act
      by _ _ _ _ (by_end past s done) = λ lines more h h_now q q_now beside beside_now owns count back behind still.
          still_rests units ready has start past s past (settled_from done s) h h_now q q_now beside beside_now owns count still back behind refl (λ i slot l. end_prepared done i slot (hist past s.world))
