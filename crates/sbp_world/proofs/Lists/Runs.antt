-- In a run in which lists were open as they should be before a moment, the agents of the target are along the lists of the initiators there, and the order law is
-- kept; and where they are so at the moment too, each read of an agent was sent when the ORB of its slot had been appended.
use Rattle.sbp_world.proofs.Words.Std.{arith, ◌≡◌, ◌∙◌, refl, sym, ap, subst, ℕ, suc, ◌+◌, ◌^◌, ◌<◌, ◌≤◌, Bool, true, false, List, [], ◌∷◌, ◌++◌, map, length, Option, Some, None, slice_index_or, get_or-replicate}
use Rattle.sbp_world.proofs.Words.Wire.{is_reset, end_note, Event, Note, Moment, asked, said}
use Rattle.sbp_world.proofs.Words.Target.{Told, Desk, new_desk}
use Rattle.sbp_world.proofs.Words.World.{history_of, moments_behind, MayHappen, happens, new_world, ready_logins, AreEntries, Entry, Run, after, beginning, MayAll, after_all, delivered_at, delivered_next, is_settled, lowest, holder, AreLines, Scene, WorldState, begun, initiator_at, with_note, without_notes, DeliversMore, Lasts, IsRun, more_deliveries, IsHost, has_list, IsCalm, OpenAfter, OpenBefore, OpenBehind, OpenIn, OpenLists, OpenWhile, machine_at, WasHad, AreOpened, OpensLaw, WasOpened, Unrun}
use Rattle.std.specs.Prelude.{replicate}
use Rattle.sbp_journal.specs.declared.event.Event.TheVariants as events
use Rattle.sbp_world.proofs.Wire.ToldBytes.{happened_fits}
use Rattle.sbp_world.proofs.Agents.Management.Begins.{first_holds, first_past}
use Rattle.sbp_world.proofs.Agents.Management.Holding.{Holding, good_of}
use Rattle.sbp_world.proofs.Agents.Management.Lines.{all_heard as all_hold, line_holds, opens}
use Rattle.sbp_world.proofs.Agents.Management.Runs.{no_repeats, not_reset}
use Rattle.sbp_world.proofs.Agents.Management.Still.{hist}
use Rattle.sbp_world.proofs.Agents.Holders.{are_held, seats_after}
use Rattle.sbp_world.proofs.Agents.Seating.{opened as seats_opened}
use Rattle.sbp_world.proofs.Hosts.Lasting.{lasting_law}
use Rattle.sbp_world.proofs.Hosts.Runs.{count_after, count_between, run_law, are_told}
use Rattle.sbp_world.proofs.Hosts.StepLaws.{step_law}
use Rattle.sbp_world.proofs.Lists.Awaited.{line_starts}
use Rattle.sbp_world.proofs.Lists.Bringing.{all_brought}
use Rattle.sbp_world.proofs.Lists.Calm.{asked_calm, calm_before}
use Rattle.sbp_world.proofs.Lists.Early.{Early}
use Rattle.sbp_world.proofs.Lists.EarlyLines.{end_early, first_early, line_early, next_early, turn_early}
use Rattle.sbp_world.proofs.Lists.EarlyTurns.{Stood, leaves_hosts}
use Rattle.sbp_world.proofs.Lists.Extends.{Extends, delivered_extends, extends_none}
use Rattle.sbp_world.proofs.Lists.Kept.{Kept, keeps}
use Rattle.sbp_world.proofs.Lists.OpenTurns.{listing_up}
use Rattle.sbp_world.proofs.Lists.Pointed.{all_take}
use Rattle.sbp_world.proofs.Lists.Takings.{AllTake}
use Rattle.sbp_world.proofs.Lists.Passes.{AllFacts, Facts, Grown, Hosts, More, MoreFacts, all_heard, line_keeps, ready}
use Rattle.sbp_world.proofs.Lists.RunSites.{site_after, site_between}
use Rattle.sbp_world.proofs.Lists.Sites.{Site}
use Rattle.sbp_world.proofs.Lists.Stays.{ready_now}
use Rattle.sbp_world.proofs.Lists.Turned.{IsOne, Turned, line_turned}
use Rattle.sbp_world.proofs.Lists.Turns.{Ready}
use Rattle.sbp_world.proofs.Lists.JoinLaws.{moments_same, lines_same}
use Rattle.sbp_world.proofs.Lists.Stands.{no}
use Rattle.sbp_world.proofs.Hosts.Cores.{not_so as up_state}

-- ---- a history that goes on
pub said_more : (old new : List Note) (past : List Moment) (e : Extends old new) → map said new ++ past ≡ map said e.more ++ (map said old ++ past)
said_more old new past e = ap (λ ns. map said ns ++ past) (sym e.is) ∙ split e.more old past
  where
    split : (a b : List Note) (past : List Moment) → map said (a ++ b) ++ past ≡ map said a ++ (map said b ++ past)
    split [] b past = refl
    split (n ∷ a) b past = ap (λ ms. said n ∷ ms) (split a b past)

pub hist_more : (old new : List Note) (past : List Moment) → Extends old new → (i : ℕ) → IsCalm (map said new ++ past) i → IsCalm (map said old ++ past) i
hist_more old new past e i c = calm_before (map said e.more) (map said old ++ past) i (subst (λ ms. IsCalm ms i) (said_more old new past e) c)

pub next_extends : (one : Option Told) (s : Scene) → Extends s.world.fresh (delivered_next one s).world.fresh
unfolding delivered_next
next_extends one s = by (lowest s.world)
  where
    by : (o : Option ℕ) → Extends s.world.fresh (delivered_at o one s).world.fresh
    by None = extends_none s.world.fresh
    by (Some serial) = delivered_extends serial false one s

-- ---- a new world: no list is open
closed : (p : ℕ) → p < 8 → has_list (slice_index_or (replicate 8 new_desk) p new_desk).agent.phase ≡ true → ⊥
closed p b d = no (sym (ap (λ (x : Desk). has_list x.agent.phase) (get_or-replicate 8 p new_desk new_desk b)) ∙ d)

first_kept : (wild : ℕ → Bool) (line n : ℕ) (is_ready : Bool) (units : ℕ) → Kept wild (first_past line n is_ready) (machine_at (new_world n is_ready units)) (new_world n is_ready units)
unfolding new_world
first_kept wild line n is_ready units = keeps (tt, (tt, tt)) (λ p b d m e f. absurd (closed p b d))

-- a list that is open was so from a write of ORB_POINTER on
open_had : (ms : List Moment) (w : WorldState) → AreOpened ms w → (q : ℕ) → q < 8 → has_list (machine_at w q).phase ≡ true → (n : ℕ) → (holder w q).list ≡ Some n → WasHad ms (holder w q).initiator n
open_had ms w opens q b h n list =
    record { place = q; opened = subst (λ l. WasOpened ms (holder w q).initiator q l) list (opens q b (up_state _ (listing_up (machine_at w q).phase h))).opened }

-- ---- runs

-- a run of some lines more has the same places before
pub as_front : (line : ℕ) (run : Run) (all entries : List Entry) → OpenBefore line run entries → OpenBefore line (record run { entries = all }) entries
as_front line run all [] b = tt
as_front line run all (e ∷ before) b =
    let same = sym (moments_same line run all before) in (
      record {
        begins = subst (λ ms. OpenLists ms (after (beginning run) before).world) same b.0.begins;
        goes = subst (λ ms. OpenIn e.event (asked e.line e.event ∷ ms) e.told (begun (after (beginning run) before))) same b.0.goes;
      },
      as_front line run all before b.1,
    )

module _ (wild : ℕ → Bool) (opened : (i : ℕ) → wild i ≡ false → OpensLaw) (line : ℕ) (run : Run) (few : run.initiators ≤ 4) (has : 0 < run.units) (small : run.units ≤ 4) (size : length run.start.disks ≡ run.units) where
  abbrev pub logins : ℕ
  logins = ready_logins run.initiators run.ready

  abbrev pub H : List Moment → ℕ → WorldState → Type 0
  H past lines w = Holding run.units logins run.start.disks past lines w

  abbrev pub front : List Entry → Run
  front entries = record run { entries = entries }

  abbrev pub moments : List Entry → List Moment
  moments entries = moments_behind line run entries

  abbrev pub Calm : List Moment → Type 0
  Calm ms = (i : ℕ) → wild i ≡ false → IsCalm ms i

  -- where there is an initiator that is asked about
  abbrev pub Given : Type 0 → Type 0
  Given known = (i : ℕ) → wild i ≡ false → known

  abbrev pub Lists : List Moment → WorldState → Type 0
  Lists ms w = (i : ℕ) → wild i ≡ false → OpenLists ms w

  -- a run of some of its lines
  module _ (entries : List Entry) (short : length entries + 2 < 2 ^ 32) (all : AreEntries (beginning run) entries) (fit : AreLines run entries) where
    abbrev pub here : Scene
    here = after (beginning run) entries

    pub is_run : IsRun (front entries)
    is_run = record { few = few; short = short; entries = all; lines = lines_same run entries entries fit }

    behind_is : history_of line (front entries) ≡ moments entries
    behind_is = moments_same line run entries entries

    count_is : length here.world.initiators ≡ run.initiators
    count_is = count_after (front entries) entries

    inside : (i : ℕ) → i < length here.world.initiators → i < run.initiators
    inside i b = subst (λ n. i < n) count_is b

    lasts_of : (ms : List Moment) → ms ≡ moments entries → (i : ℕ) → i < run.initiators → (later before : List Moment) → later ++ before ≡ ms → Lasts before ms i
    lasts_of ms is i b later before e =
        let same = behind_is ∙ sym is in
        subst (λ x. Lasts before x i) same (lasting_law.lasts line (front entries) is_run i b later before (e ∙ sym same))

    module _ (past : List Moment) (lines : ℕ) (h : H past lines here.world) (is : hist past here.world ≡ moments entries) where
      pub history_is : history_of line (front entries) ≡ hist past here.world
      history_is = behind_is ∙ sym is

      pub site : Site run.start.disks past here.world
      site = site_after line (front entries) is_run has small size past lines h history_is

      opened_here : (i : ℕ) → wild i ≡ false → AreOpened (hist past here.world) here.world
      opened_here i own = subst (λ ms. AreOpened ms here.world) history_is ((opened i own).after_lines line (front entries) is_run has small size)

      pub lists_here : Given (OpenAfter line run entries) → Lists (hist past here.world) here.world
      lists_here lists i own = subst (λ ms. OpenLists ms here.world) (sym is) (lists i own)

      pub stood : Lists (hist past here.world) here.world → Calm (hist past here.world) → Kept wild past (machine_at here.world) here.world → Stood wild run.units logins run.start.disks past lines here.world
      stood lists calm k = record { holds = h; site = site; lists = lists; calm = calm; agents = k.agents }

      pub facts : Given (OpenBefore line run entries) → Lists (hist past here.world) here.world → Calm (hist past here.world) → Early wild run.start.disks (hist past here.world) → Facts wild past here.world
      facts so_far lists calm early = record {
        good = good_of run.units logins h.calls here.world.target has h.made;
        needs = λ i own. record { lists = lists i own; brings = all_brought run.units logins has run.start.disks here.world h site (lists i own) wild early i own (calm i own) };
        calm = calm;
        within = λ i n b. (lasts_of (hist past here.world) is i (inside i b) [] (hist past here.world) refl).linked_in n;
        unrun = λ u i own. subst (λ ms. Unrun ms here.world) history_is (u.after_lines line (front entries) is_run has small size (as_front line run entries entries (so_far i own)));
        had = λ q b l own n list. open_had (hist past here.world) here.world (opened_here (holder here.world q).initiator own) q b l n list;
        take = all_take run.units logins run.start.disks here.world h site.held site.rows wild;
      }

      pub hosts : (next : ℕ) (event : Event) → Hosts wild (asked next event ∷ hist past here.world) (without_notes here.world)
      hosts next event = record {
        number = λ i b. (run_law.rows line (front entries) is_run i (inside i b)).number;
        rows = λ i b.
            let r = run_law.rows line (front entries) is_run i (inside i b) in
            step_law.asked next event (hist past here.world) i (initiator_at here.world i).lists.slots (subst (λ ms. IsHost ms i (initiator_at here.world i)) history_is r).rows;
      }

      -- as a line begins that delivers a packet
      take_line : (next : ℕ) (event : Event) → is_reset event ≡ false → AllTake wild (asked next event ∷ hist past here.world) (without_notes here.world)
      take_line next event e =
          let b = opens run.units logins has run.start.disks next event here.world e h in
          all_take run.units logins run.start.disks (without_notes here.world) b
          (are_held run.units logins has run.start.disks (without_notes here.world) b (seats_opened run.units logins has run.start.disks here.world (seats_after line run entries few has small size short all fit)))
          (hosts next event).rows wild

      -- ---- between deliveries of a line that follows
      module _ (next : ℕ) (event : Event) (d : DeliversMore event) where
        abbrev pub now : List Moment
        now = asked next event ∷ hist past here.world

        abbrev pub at : List (Option Told) → WorldState
        at told = (after_all told (begun here)).world

        pub holds_at : (told : List (Option Told)) → MayAll told (begun here) → H now (lines + 1) (at told)
        holds_at told m =
            all_hold run.units logins has run.start.disks told (are_told told here m) (begun here) (opens run.units logins has run.start.disks next event here.world (not_reset event d) h) (no_repeats event (hist past here.world) next d)

        now_is : (ms : List Moment) → ms ++ asked next event ∷ history_of line (front entries) ≡ ms ++ now
        now_is ms = ap (λ x. ms ++ asked next event ∷ x) history_is

        count_at : (told : List (Option Told)) → length (at told).initiators ≡ length here.world.initiators
        count_at told = count_between told here

        lasts_at : (told : List (Option Told)) → MayAll told (begun here) → (i : ℕ) → i < length here.world.initiators → (later before : List Moment) → later ++ before ≡ hist now (at told) → Lasts before (hist now (at told)) i
        lasts_at told m i b later before e = by event d refl
          where
            most : (o : Option ℕ) → more_deliveries o ≡ event → Lasts before (hist now (at told)) i
            most o same =
                let back : hist now (at told) ≡ map said (at told).fresh ++ asked next (more_deliveries o) ∷ history_of line (front entries) =
                sym (now_is (map said (at told).fresh)) ∙ ap (λ x. map said (at told).fresh ++ asked next x ∷ history_of line (front entries)) (sym same) in
                subst (λ ms. Lasts before ms i) (sym back) (lasting_law.between line (front entries) is_run next o told m i (inside i b) later before (e ∙ back))

            by : (x : Event) → DeliversMore x → x ≡ event → Lasts before (hist now (at told)) i
            by (events.Step count) c same = most (Some count) same
            by events.Settle c same = most None same
            by (events.Begin initiators is_ready) c same = absurd c
            by (events.Act initiator action) c same = absurd c
            by (events.Reset physical) c same = absurd c
            by (events.See node) c same = absurd c
            by (events.Deliver serial) c same = absurd c
            by (events.Repeat serial) c same = absurd c
            by (events.Lose serial) c same = absurd c
            by (events.Timeout serial) c same = absurd c
            by events.Tick c same = absurd c
            by (events.Inject initiator bytes) c same = absurd c
            by (events.Key unit key) c same = absurd c

        pub site_at : (told : List (Option Told)) → MayAll told (begun here) → Site run.start.disks now (at told)
        site_at told m = site_between line (front entries) is_run has small size next event d told m now (lines + 1) (holds_at told m) (now_is (map said (at told).fresh))

        opened_at : (told : List (Option Told)) → MayAll told (begun here) → (i : ℕ) → wild i ≡ false → AreOpened (hist now (at told)) (at told)
        opened_at told m i own = subst (λ ms. AreOpened ms (at told)) (now_is (map said (at told).fresh)) ((opened i own).between line (front entries) is_run has small size next event d told m)

        pub lists_at : (told : List (Option Told)) → Given (OpenBehind (asked next event ∷ moments entries) told (begun here)) → Lists (hist now (at told)) (at told)
        lists_at told lists i own = subst (λ ms. OpenLists (map said (at told).fresh ++ asked next event ∷ ms) (at told)) (sym is) (lists i own)

        stood_at : (told : List (Option Told)) → MayAll told (begun here) → Lists (hist now (at told)) (at told) → Calm (hist now (at told)) → Kept wild now (machine_at (at told)) (at told) → Stood wild run.units logins run.start.disks now (lines + 1) (at told)
        stood_at told m lists calm k = record { holds = holds_at told m; site = site_at told m; lists = lists; calm = calm; agents = k.agents }

        pub facts_at : Given (OpenBefore line run entries) → Lists (hist past here.world) here.world → (told : List (Option Told)) → MayAll told (begun here) → Given (OpenWhile (asked next event ∷ moments entries) told (begun here)) → Lists (hist now (at told)) (at told) → Calm (hist now (at told)) → Early wild run.start.disks (hist now (at told)) → Facts wild now (at told)
        facts_at so_far open_first told m goes lists calm early =
            let x = holds_at told m in
            record {
              good = good_of run.units logins x.calls (at told).target has x.made;
              needs = λ i own. record { lists = lists i own; brings = all_brought run.units logins has run.start.disks (at told) x (site_at told m) (lists i own) wild early i own (calm i own) };
              calm = calm;
              within = λ i n b. (lasts_at told m i (subst (λ k. i < k) (count_at told) b) [] (hist now (at told)) refl).linked_in n;
              unrun = λ u i own.
                  subst (λ ms. Unrun ms (at told)) (now_is (map said (at told).fresh))
                  (u.between line (front entries) is_run has small size next event d told m (record {
                    before = as_front line run entries entries (so_far i own);
                    begins = subst (λ ms. OpenLists ms here.world) (sym history_is) (open_first i own);
                    goes = subst (λ ms. OpenWhile (asked next event ∷ ms) told (begun here)) (sym behind_is) (goes i own);
                  }));
              had = λ q b l own n list. open_had (hist now (at told)) (at told) (opened_at told m (holder (at told) q).initiator own) q b l n list;
              take = all_take run.units logins run.start.disks (at told) x (site_at told m).held (site_at told m).rows wild;
            }

        pub calm_at : (one : Option Told) (told : List (Option Told)) → Calm (hist now (at (one ∷ told))) → Calm (hist now (at told))
        calm_at one told calm i own = hist_more (at told).fresh (at (one ∷ told)).fresh now (next_extends one (after_all told (begun here))) i (calm i own)

        module _ (so_far : Given (OpenBefore line run entries)) (lists : Lists (hist past here.world) here.world) (first : Calm (hist past here.world)) (kept : Kept wild past (machine_at here.world) here.world) (early : Early wild run.start.disks (hist past here.world)) where
          -- what holds between them, by what was so before
          pub record KeptAt (told : List (Option Told)) : Type 0 where
            pub facts_all : AllFacts wild now told (begun here)
            pub kept_there : Kept wild now (machine_at (at told)) (at told)

          -- and where lists are open there as they should be
          pub record At (told : List (Option Told)) : Type 0 where
            pub kept_at : KeptAt told
            pub stood_there : Stood wild run.units logins run.start.disks now (lines + 1) (at told)
            pub early_there : Early wild run.start.disks (hist now (at told))

          begun_kept : Kept wild now (machine_at (at [])) (at [])
          begun_kept = (ready_now wild next event past here.world (ready wild past here.world (facts so_far lists first early) kept)).kept

          kept_begun : KeptAt []
          kept_begun = record { facts_all = tt; kept_there = begun_kept }

          at_begun : (m : MayAll [] (begun here)) → Lists (hist now (at [])) (at []) → Calm (hist now (at [])) → At []
          at_begun m open_there calm =
              let x = stood_at [] m open_there calm begun_kept in
              record {
                kept_at = kept_begun;
                stood_there = x;
                early_there = turn_early wild run.units logins has run.start.disks past lines here.world (stood lists first kept) now (lines + 1) (at []) x [] (asked next event) refl (line_starts next event) (leaves_hosts refl) early;
              }

          abbrev pub Before : List (Option Told) → Type 0
          Before told = Given (OpenWhile (asked next event ∷ moments entries) told (begun here))

          kept_next : (one : Option Told) (told : List (Option Told)) → MayAll (one ∷ told) (begun here) → Before told → Lists (hist now (at told)) (at told) → Calm (hist now (at told)) → At told → KeptAt (one ∷ told)
          kept_next one told m goes open_before before x =
              let each : AllFacts wild now (one ∷ told) (begun here) = ((facts_at so_far lists told m.1 goes open_before before x.early_there, λ i b later past e. lasts_at (one ∷ told) m i (subst (λ k. i < k) (count_at told) b) later past e), x.kept_at.facts_all) in
              record { facts_all = each; kept_there = all_heard wild now (one ∷ told) (begun here) each begun_kept }

          at_next : (one : Option Told) (told : List (Option Told)) → MayAll (one ∷ told) (begun here) → Lists (hist now (at (one ∷ told))) (at (one ∷ told)) → Calm (hist now (at (one ∷ told))) → At told → KeptAt (one ∷ told) → At (one ∷ told)
          at_next one told m open_there calm x k =
              let y = stood_at (one ∷ told) m open_there calm k.kept_there in
              record {
                kept_at = k;
                stood_there = y;
                early_there = next_early wild run.units logins has run.start.disks now (lines + 1) one (after_all told (begun here)) x.stood_there y x.early_there;
              }

          pub at_told : (told : List (Option Told)) → MayAll told (begun here) → Before told → Lists (hist now (at told)) (at told) → Calm (hist now (at told)) → At told
          at_told [] m before open_there calm = at_begun m open_there calm
          at_told (one ∷ told) m before open_there calm =
              let c = calm_at one told calm in
              let l = lists_at told (λ i own. (before i own).0) in
              let rest : Before told = λ i own. (before i own).1 in
              let x = at_told told m.1 rest l c in at_next one told m open_there calm x (kept_next one told m rest l c x)

          pub kept_told : (told : List (Option Told)) → MayAll told (begun here) → Before told → Calm (hist now (at told)) → KeptAt told
          kept_told [] m before calm = kept_begun
          kept_told (one ∷ told) m before calm =
              let c = calm_at one told calm in
              let l = lists_at told (λ i own. (before i own).0) in
              let rest : Before told = λ i own. (before i own).1 in kept_next one told m rest l c (at_told told m.1 rest l c)

          more_facts : (told : List (Option Told)) → MayAll told (begun here) → Before told → Lists (hist now (at told)) (at told) → Calm (hist now (at told)) → MoreFacts wild now told (begun here)
          more_facts told m before open_there calm = let x = at_told told m before open_there calm in record { all = x.kept_at.facts_all; last = facts_at so_far lists told m before open_there calm x.early_there; count = count_at told }

      -- what a line that may follow asks for
      module _ (so_far : Given (OpenBefore line run entries)) (lists : Lists (hist past here.world) here.world) (first : Calm (hist past here.world)) (kept : Kept wild past (machine_at here.world) here.world) (early : Early wild run.start.disks (hist past here.world)) where
        settled_calm : (next : ℕ) (told : List (Option Told)) → Calm (hist (asked next events.Settle ∷ hist past here.world) (with_note (end_note (is_settled (after_all told (begun here)).world)) (after_all told (begun here)).world)) → Calm (hist (asked next events.Settle ∷ hist past here.world) (after_all told (begun here)).world)
        settled_calm next told calm i own = calm_before (said (end_note (is_settled (after_all told (begun here)).world)) ∷ []) (hist (asked next events.Settle ∷ hist past here.world) (after_all told (begun here)).world) i (calm i own)

        abbrev In : ℕ → Event → List (Option Told) → Type 0
        In next event told = Given (OpenIn event (asked next event ∷ moments entries) told (begun here))

        settled_lists : (next : ℕ) (told : List (Option Told)) → In next events.Settle told → Lists (hist (asked next events.Settle ∷ hist past here.world) (after_all told (begun here)).world) (after_all told (begun here)).world
        settled_lists next told before = lists_at next events.Settle tt told (λ i own. (before i own).0)

        more_of : (next : ℕ) (event : Event) (told : List (Option Told)) → MayHappen event told here → In next event told → Calm (hist (asked next event ∷ hist past here.world) (happens next event told here).world) → More wild event (asked next event ∷ hist past here.world) told (begun here)
        unfolding happens MayHappen
        more_of next (events.Begin initiators is_ready) told m before calm = tt
        more_of next (events.Act initiator action) told m before calm = tt
        more_of next (events.Reset physical) told m before calm = tt
        more_of next (events.See node) told m before calm = tt
        more_of next (events.Deliver serial) told m before calm = take_line next (events.Deliver serial) refl
        more_of next (events.Repeat serial) told m before calm = take_line next (events.Repeat serial) refl
        more_of next (events.Lose serial) told m before calm = tt
        more_of next (events.Timeout serial) told m before calm = tt
        more_of next (events.Step count) told m before calm = (kept_told next (events.Step count) tt so_far lists first kept early told m.may before calm).facts_all
        more_of next events.Settle told m before calm = more_facts next events.Settle tt so_far lists first kept early told m.may (λ i own. (before i own).1) (settled_lists next told before) (settled_calm next told calm)
        more_of next events.Tick told m before calm = tt
        more_of next (events.Inject initiator bytes) told m before calm = tt
        more_of next (events.Key unit key) told m before calm = tt

        -- a line keeps that each read is sent in time
        module _ (more : ℕ) where
          abbrev Goes : ℕ → Event → List (Option Told) → Type 0
          Goes next event told =
              MayHappen event told here → In next event told → Calm (hist (asked next event ∷ hist past here.world) (happens next event told here).world) → (IsOne event → Turned wild (asked next event ∷ hist past here.world) (without_notes here.world) (happens next event told here).world) → Stood wild run.units logins run.start.disks (asked next event ∷ hist past here.world) more (happens next event told here).world → Early wild run.start.disks (hist (asked next event ∷ hist past here.world) (happens next event told here).world)

          one_early : (next : ℕ) (event : Event) (told : List (Option Told)) → IsOne event → Goes next event told
          one_early next event told o m before calm t b = line_early wild run.units logins has run.start.disks next event past lines here.world (stood lists first kept) more (happens next event told here).world b (t o) early

          goes_early : (next : ℕ) (event : Event) (told : List (Option Told)) → Goes next event told
          unfolding happens MayHappen
          goes_early next (events.Step count) told m before calm t b = (at_told next (events.Step count) tt so_far lists first kept early told m.may before b.lists calm).early_there
          goes_early next events.Settle told m before calm t b =
              end_early wild run.start.disks (is_settled (after_all told (begun here)).world) (hist (asked next events.Settle ∷ hist past here.world) (after_all told (begun here)).world)
              (at_told next events.Settle tt so_far lists first kept early told m.may (λ i own. (before i own).1) (settled_lists next told before) (settled_calm next told calm)).early_there
          goes_early next (events.Begin initiators is_ready) told m before calm t b = one_early next (events.Begin initiators is_ready) told tt m before calm t b
          goes_early next (events.Act initiator action) told m before calm t b = one_early next (events.Act initiator action) told tt m before calm t b
          goes_early next (events.Reset physical) told m before calm t b = one_early next (events.Reset physical) told tt m before calm t b
          goes_early next (events.See node) told m before calm t b = one_early next (events.See node) told tt m before calm t b
          goes_early next (events.Deliver serial) told m before calm t b = one_early next (events.Deliver serial) told tt m before calm t b
          goes_early next (events.Repeat serial) told m before calm t b = one_early next (events.Repeat serial) told tt m before calm t b
          goes_early next (events.Lose serial) told m before calm t b = one_early next (events.Lose serial) told tt m before calm t b
          goes_early next (events.Timeout serial) told m before calm t b = one_early next (events.Timeout serial) told tt m before calm t b
          goes_early next events.Tick told m before calm t b = one_early next events.Tick told tt m before calm t b
          goes_early next (events.Inject initiator bytes) told m before calm t b = one_early next (events.Inject initiator bytes) told tt m before calm t b
          goes_early next (events.Key unit key) told m before calm t b = one_early next (events.Key unit key) told tt m before calm t b

  -- ---- behind the lines of a run
  -- by what was so before
  pub record KeptAfter (entries : List Entry) (w : WorldState) : Type 0 where
    pub past : List Moment
    pub holds : H past (length entries) w
    pub is : hist past w ≡ moments entries
    pub kept : Kept wild past (machine_at w) w

  -- and where lists are open there as they should be
  pub record EarlyAfter (entries : List Entry) (w : WorldState) : Type 0 where
    pub so_far : KeptAfter entries w
    pub early : Early wild run.start.disks (hist so_far.past w)

  first_after : KeptAfter [] (beginning run).world
  unfolding new_world
  first_after = record {
    past = first_past line run.initiators run.ready;
    holds = first_holds run.initiators run.ready run.units line run.start.disks few small size;
    is = refl;
    kept = first_kept wild line run.initiators run.ready run.units;
  }

  early_first : EarlyAfter [] (beginning run).world
  unfolding new_world
  early_first = record {
    so_far = record {
      past = first_past line run.initiators run.ready;
      holds = first_holds run.initiators run.ready run.units line run.start.disks few small size;
      is = refl;
      kept = first_kept wild line run.initiators run.ready run.units;
    };
    early = first_early wild run.start.disks line run.initiators run.ready;
  }

  module _ (e : Entry) (before : List Entry) (short : length before + 2 < 2 ^ 32) (more_short : length (e ∷ before) + 2 < 2 ^ 32) (all : AreEntries (beginning run) (e ∷ before)) (fit : AreLines run (e ∷ before)) (so_far : Given (OpenBefore line run before)) (x : EarlyAfter before (after (beginning run) before).world) (begins : Given (OpenAfter line run before)) (goes : Given (OpenIn e.event (asked e.line e.event ∷ moments before) e.told (begun (after (beginning run) before)))) (calm : Calm (moments (e ∷ before))) where
    abbrev s : Scene
    s = after (beginning run) before

    abbrev b : KeptAfter before s.world
    b = x.so_far

    abbrev next_past : List Moment
    next_past = asked e.line e.event ∷ hist b.past s.world

    pub next_is : hist next_past (happens e.line e.event e.told s).world ≡ moments (e ∷ before)
    next_is = ap (λ ns. map said ns ++ asked e.line e.event ∷ hist b.past s.world) (sym all.0.notes_are) ∙ ap (λ ms. map said e.notes ++ asked e.line e.event ∷ ms) b.is

    calm_first : Calm (hist b.past s.world)
    calm_first i own = subst (λ ms. IsCalm ms i) (sym b.is) (asked_calm e.line e.event (moments before) i (calm_before (map said e.notes) (asked e.line e.event ∷ moments before) i (calm i own)))

    calm_next : Calm (hist next_past (happens e.line e.event e.told s).world)
    calm_next i own = subst (λ ms. IsCalm ms i) (sym next_is) (calm i own)

    open_first : Lists (hist b.past s.world) s.world
    open_first = lists_here before short all.1 fit.1 b.past (length before) b.holds b.is begins

    grown : Grown wild next_past (without_notes s.world) (happens e.line e.event e.told s).world
    grown i within later past is = lasts_of (e ∷ before) more_short all fit (hist next_past (happens e.line e.event e.told s).world) next_is i (inside before short all.1 fit.1 i within) later past is

    known : Ready wild next_past (without_notes s.world)
    known = ready_now wild e.line e.event b.past s.world (ready wild b.past s.world (facts before short all.1 fit.1 b.past (length before) b.holds b.is so_far open_first calm_first x.early) b.kept)

    hosted : Hosts wild next_past (without_notes s.world)
    hosted = hosts before short all.1 fit.1 b.past (length before) b.holds b.is e.line e.event

    pub next_kept : Kept wild next_past (machine_at (happens e.line e.event e.told s).world) (happens e.line e.event e.told s).world
    next_kept =
        line_keeps wild b.past e.line e.event e.told s fit.0 all.0.may known hosted
        (more_of before short all.1 fit.1 b.past (length before) b.holds b.is so_far open_first calm_first b.kept x.early e.line e.event e.told all.0.may goes calm_next)
        grown

    pub next_holds : H next_past (length (e ∷ before)) (happens e.line e.event e.told s).world
    next_holds = subst (λ n. H next_past n (happens e.line e.event e.told s).world) (let x : length before + 1 ≡ suc (length before) = omega arith in x)
        (line_holds run.units logins has run.start.disks e.line e.event e.told s fit.0 (happened_fits e.event e.told s all.0.may) (omega arith) b.holds)

    pub next_after : KeptAfter (e ∷ before) (happens e.line e.event e.told s).world
    next_after = record { past = next_past; holds = next_holds; is = next_is; kept = next_kept }

    -- and of what is read
    open_next : Given (OpenAfter line run (e ∷ before)) → Lists (hist next_past (happens e.line e.event e.told s).world) (happens e.line e.event e.told s).world
    open_next ends = lists_here (e ∷ before) more_short all fit next_past (length (e ∷ before)) next_holds next_is ends

    next_stood : Given (OpenAfter line run (e ∷ before)) → Stood wild run.units logins run.start.disks next_past (length (e ∷ before)) (happens e.line e.event e.told s).world
    next_stood ends = stood (e ∷ before) more_short all fit next_past (length (e ∷ before)) next_holds next_is (open_next ends) calm_next next_kept

    pub early_next : Given (OpenAfter line run (e ∷ before)) → EarlyAfter (e ∷ before) (happens e.line e.event e.told s).world
    early_next ends = record {
      so_far = record { past = next_past; holds = next_holds; is = next_is; kept = next_kept };
      early = goes_early before short all.1 fit.1 b.past (length before) b.holds b.is so_far open_first calm_first b.kept x.early (length (e ∷ before)) e.line e.event e.told all.0.may goes calm_next
          (λ o. line_turned wild next_past e.line e.event e.told s o fit.0 all.0.may hosted known.kept.law) (next_stood ends);
    }

  pub calm_back : (e : Entry) (before : List Entry) → Calm (moments (e ∷ before)) → Calm (moments before)
  calm_back e before calm i own = asked_calm e.line e.event (moments before) i (calm_before (map said e.notes) (asked e.line e.event ∷ moments before) i (calm i own))

  pub early_after : (entries : List Entry) → length entries + 2 < 2 ^ 32 → AreEntries (beginning run) entries → AreLines run entries → Given (OpenBefore line run entries) → Given (OpenAfter line run entries) → Calm (moments entries) → EarlyAfter entries (after (beginning run) entries).world
  early_after [] short all fit lists ends calm = early_first
  early_after (e ∷ before) short all fit lists ends calm =
      let few_lines : length before + 2 < 2 ^ 32 = omega arith in
      let begins : Given (OpenAfter line run before) = λ i own. (lists i own).0.begins in
      let rest : Given (OpenBefore line run before) = λ i own. (lists i own).1 in
      early_next e before few_lines short all fit rest (early_after before few_lines all.1 fit.1 rest begins (calm_back e before calm)) begins (λ i own. (lists i own).0.goes) calm ends

  pub kept_after : (entries : List Entry) → length entries + 2 < 2 ^ 32 → AreEntries (beginning run) entries → AreLines run entries → Given (OpenBefore line run entries) → Calm (moments entries) → KeptAfter entries (after (beginning run) entries).world
  kept_after [] short all fit lists calm = first_after
  kept_after (e ∷ before) short all fit lists calm =
      let few_lines : length before + 2 < 2 ^ 32 = omega arith in
      let begins : Given (OpenAfter line run before) = λ i own. (lists i own).0.begins in
      let rest : Given (OpenBefore line run before) = λ i own. (lists i own).1 in
      next_after e before few_lines short all fit rest (early_after before few_lines all.1 fit.1 rest begins (calm_back e before calm)) begins (λ i own. (lists i own).0.goes) calm
