-- The law of the lists that are open, of every run.
use Rattle.sbp_world.proofs.Words.Std.{arith, ◌≡◌, ◌∙◌, refl, sym, ap, subst, ℕ, suc, ◌+◌, ◌^◌, ◌<◌, ◌≤◌, not, Bool, true, false, List, [], ◌∷◌, ◌++◌, map, length, Option, Some, None, slice_index_or, get_or-replicate, false≢true}
use Rattle.sbp_world.proofs.Words.Wire.{is_reset, or_nobody, Holder, Event, Moment, asked, said}
use Rattle.sbp_world.proofs.Words.Target.{Told, Desk, new_desk, Disk}
use Rattle.sbp_world.proofs.Words.Laws.{OrderLaw}
use Rattle.sbp_world.proofs.Words.World.{history_of, moments_behind, MayHappen, happens, new_world, ready_logins, AreEntries, Entry, Run, after, beginning, MayAll, after_all, holder, AreLines, Scene, WorldState, begun, initiator_at, without_notes, DeliversMore, AreAgentsAt, AreTaken, TakenListsLaw, AreRows, IsRun, more_deliveries, IsHost, IsCalm, OpenBefore, CutListsLaw, AreOpened, OpensLaw}
use Rattle.std.specs.Prelude.{replicate}
use Rattle.sbp_journal.specs.declared.event.Event.TheVariants as events
use Rattle.sbp_world.proofs.Wire.ToldBytes.{happened_fits}
use Rattle.sbp_world.proofs.Agents.Management.Begins.{first_holds, first_past}
use Rattle.sbp_world.proofs.Agents.Management.Holding.{Holding}
use Rattle.sbp_world.proofs.Agents.Management.Lines.{all_heard as all_hold, line_holds, opens}
use Rattle.sbp_world.proofs.Agents.Management.Runs.{no_repeats, not_reset}
use Rattle.sbp_world.proofs.Agents.Management.Still.{hist}
use Rattle.sbp_world.proofs.Agents.CrewRuns.{agents_between_law, agents_run_law}
use Rattle.sbp_world.proofs.Agents.Holders.{are_held, seats_after}
use Rattle.sbp_world.proofs.Agents.Seating.{all_seats, opened}
use Rattle.sbp_world.proofs.Agents.Seats.{Seats}
use Rattle.sbp_world.proofs.Hosts.Runs.{count_after, count_between, run_law, are_told}
use Rattle.sbp_world.proofs.Hosts.StepLaws.{step_law}
use Rattle.sbp_world.proofs.Lists.OpenCuts.{is_up}
use Rattle.sbp_world.proofs.Lists.OpenRuns.{AllFacts, AllSo, Facts, More, all, all_heard, line_were}
use Rattle.sbp_world.proofs.Lists.OpenWorlds.{AllTaken, AllWere}
use Rattle.sbp_world.proofs.Lists.OpenHad.{WereAt, same_were}
use Rattle.sbp_world.proofs.Lists.Runs.{kept_after}
use Rattle.sbp_target.proofs.Histories.Calling.{Good, not_eight}
use Rattle.sbp_world.proofs.Agents.Management.Holding.{good_of}
use Rattle.sbp_world.proofs.Lists.JoinLaws.{moments_same, lines_same}
use Rattle.sbp_world.proofs.Hosts.Cores.{not_so as up_state}

pub nobody_needs : (A : Type 0) → true ≡ false → A
nobody_needs A e = absurd (false≢true (sym e))

-- a new world has no list open
pub closed : (p : ℕ) → p < 8 → is_up (slice_index_or (replicate 8 new_desk) p new_desk).agent ≡ true → ⊥
closed p b d = false≢true (sym (ap (λ (x : Desk). is_up x.agent) (get_or-replicate 8 p new_desk new_desk b)) ∙ d)

first_were : (line n : ℕ) (is_ready : Bool) (units : ℕ) → AllWere (first_past line n is_ready) (new_world n is_ready units)
unfolding new_world
first_were line n is_ready units = record { each = λ p b d. absurd (closed p b d); had = λ i k e. absurd (false≢true e) }

first_taken : (start : List Disk) (line n : ℕ) (is_ready : Bool) (units : ℕ) → AllTaken start (first_past line n is_ready) (new_world n is_ready units)
unfolding new_world
first_taken start line n is_ready units p b d = absurd (closed p b d)

-- ---- runs

module _ (line : ℕ) (run : Run) (few : run.initiators ≤ 4) (has : 0 < run.units) (small : run.units ≤ 4) (size : length run.start.disks ≡ run.units) where
  abbrev logins : ℕ
  logins = ready_logins run.initiators run.ready

  abbrev H : List Moment → ℕ → WorldState → Type 0
  H past lines w = Holding run.units logins run.start.disks past lines w

  abbrev F : List Moment → WorldState → Type 0
  F past w = Facts run.units logins has run.start.disks past w

  abbrev front : List Entry → Run
  front entries = record run { entries = entries }

  abbrev moments : List Entry → List Moment
  moments entries = moments_behind line run entries

  -- a run of some of its lines
  module _ (entries : List Entry) (short : length entries + 2 < 2 ^ 32) (every : AreEntries (beginning run) entries) (fit : AreLines run entries) where
    abbrev here : Scene
    here = after (beginning run) entries

    is_run : IsRun (front entries)
    is_run = record { few = few; short = short; entries = every; lines = lines_same run entries entries fit }

    behind_is : history_of line (front entries) ≡ moments entries
    behind_is = moments_same line run entries entries

    inside : (i : ℕ) → i < length here.world.initiators → i < run.initiators
    inside i b = subst (λ n. i < n) (count_after (front entries) entries) b

    seats : Seats here.world
    seats = seats_after line run entries few has small size short every fit

    pub law : OrderLaw all (moments entries)
    law =
        let k = kept_after all (λ i f. nobody_needs OpensLaw f) line run few has small size entries short every fit (λ i f. nobody_needs (OpenBefore line run entries) f) (λ i f. nobody_needs (IsCalm (moments entries) i) f) in
        subst (OrderLaw all) k.is k.kept.law

    module _ (past : List Moment) (lines : ℕ) (h : H past lines here.world) (is : hist past here.world ≡ moments entries) where
      history_is : history_of line (front entries) ≡ hist past here.world
      history_is = behind_is ∙ sym is

      pub facts : F past here.world
      facts = record {
        lines = lines;
        holds = h;
        held = are_held run.units logins has run.start.disks here.world h seats;
        agents = subst (λ ms. AreAgentsAt run.start.disks ms here.world) history_is (agents_run_law line (front entries) few has small size short every (lines_same run entries entries fit));
        rows = λ i b. subst (λ ms. AreRows ms i (initiator_at here.world i).lists.slots) history_is (run_law.rows line (front entries) is_run i (inside i b)).rows;
      }

      pub numbers : (i : ℕ) → i < length here.world.initiators → (initiator_at here.world i).number ≡ i
      numbers i b = (run_law.rows line (front entries) is_run i (inside i b)).number

      first_agents : {event : Event} (next : ℕ) → AreAgentsAt run.start.disks (asked next event ∷ hist past here.world) (without_notes here.world)
      first_agents next =
          let settling = subst (λ ms. AreAgentsAt run.start.disks (asked next events.Settle ∷ ms) (without_notes here.world)) history_is (agents_between_law line (front entries) few has small size short every (lines_same run entries entries fit) next events.Settle tt [] tt) in
          record { requests = settling.requests; are = settling.are; known = settling.known }

      -- as a line begins
      pub first_facts : (next : ℕ) (event : Event) → is_reset event ≡ false → F (asked next event ∷ hist past here.world) (without_notes here.world)
      first_facts next event e =
          let b = opens run.units logins has run.start.disks next event here.world e h in
          record {
            lines = lines + 1;
            holds = b;
            held = are_held run.units logins has run.start.disks (without_notes here.world) b (opened run.units logins has run.start.disks here.world seats);
            agents = first_agents next;
            rows = λ i c.
                let r = run_law.rows line (front entries) is_run i (inside i c) in
                step_law.asked next event (hist past here.world) i (initiator_at here.world i).lists.slots (subst (λ ms. IsHost ms i (initiator_at here.world i)) history_is r).rows;
          }

      -- between deliveries of a line that follows
      module _ (next : ℕ) (event : Event) (d : DeliversMore event) where
        abbrev now : List Moment
        now = asked next event ∷ hist past here.world

        abbrev at : List (Option Told) → WorldState
        at told = (after_all told (begun here)).world

        rows_at : (told : List (Option Told)) → MayAll told (begun here) → (i : ℕ) → i < length (at told).initiators → AreRows (hist now (at told)) i (initiator_at (at told) i).lists.slots
        rows_at told m i b = by event d refl
          where
            c : i < run.initiators
            c = inside i (subst (λ n. i < n) (count_between told here) b)

            most : (o : Option ℕ) → more_deliveries o ≡ event → AreRows (hist now (at told)) i (initiator_at (at told) i).lists.slots
            most o same =
                let r = (run_law.between line (front entries) is_run next o told m i c).rows in
                let is_now : map said (at told).fresh ++ asked next (more_deliveries o) ∷ history_of line (front entries) ≡ hist now (at told) =
                ap (λ x. map said (at told).fresh ++ asked next (more_deliveries o) ∷ x) history_is ∙ ap (λ x. map said (at told).fresh ++ asked next x ∷ hist past here.world) same in
                subst (λ ms. AreRows ms i (initiator_at (at told) i).lists.slots) is_now r

            by : (x : Event) → DeliversMore x → x ≡ event → AreRows (hist now (at told)) i (initiator_at (at told) i).lists.slots
            by (events.Step count) q same = most (Some count) same
            by events.Settle q same = most None same
            by (events.Begin initiators is_ready) q same = absurd q
            by (events.Act initiator action) q same = absurd q
            by (events.Reset physical) q same = absurd q
            by (events.See node) q same = absurd q
            by (events.Deliver serial) q same = absurd q
            by (events.Repeat serial) q same = absurd q
            by (events.Lose serial) q same = absurd q
            by (events.Timeout serial) q same = absurd q
            by events.Tick q same = absurd q
            by (events.Inject initiator bytes) q same = absurd q
            by (events.Key unit key) q same = absurd q

        pub facts_at : (told : List (Option Told)) → MayAll told (begun here) → F now (at told)
        facts_at told m =
            let b = opens run.units logins has run.start.disks next event here.world (not_reset event d) h in
            let repeats = no_repeats event (hist past here.world) next d in
            let x = all_hold run.units logins has run.start.disks told (are_told told here m) (begun here) b repeats in
            let q = all_seats run.units logins has run.start.disks told (are_told told here m) (begun here) b (opened run.units logins has run.start.disks here.world seats) repeats in
            record {
              lines = lines + 1;
              holds = x;
              held = are_held run.units logins has run.start.disks (at told) x q;
              agents = subst (λ ms. AreAgentsAt run.start.disks (map said (at told).fresh ++ asked next event ∷ ms) (at told)) history_is (agents_between_law line (front entries) few has small size short every (lines_same run entries entries fit) next event d told m);
              rows = rows_at told m;
            }

        pub all_facts : (told : List (Option Told)) → MayAll told (begun here) → AllFacts run.units logins has run.start.disks now told (begun here)
        all_facts [] m = tt
        all_facts (one ∷ told) m = (facts_at told m.1, all_facts told m.1)

      -- what a line that may follow asks for
      more_of : (next : ℕ) (event : Event) (told : List (Option Told)) → MayHappen event told here → More run.units logins has run.start.disks event (asked next event ∷ hist past here.world) told (begun here)
      unfolding MayHappen
      more_of next (events.Begin initiators is_ready) told m = tt
      more_of next (events.Act initiator action) told m = tt
      more_of next (events.Reset physical) told m = tt
      more_of next (events.See node) told m = tt
      more_of next (events.Deliver serial) told m = tt
      more_of next (events.Repeat serial) told m = tt
      more_of next (events.Lose serial) told m = tt
      more_of next (events.Timeout serial) told m = tt
      more_of next (events.Step count) told m = all_facts next (events.Step count) tt told m.may
      more_of next events.Settle told m = all_facts next events.Settle tt told m.may
      more_of next events.Tick told m = tt
      more_of next (events.Inject initiator bytes) told m = tt
      more_of next (events.Key unit key) told m = tt

      -- as it begins the open lists are the same
      begun_were : (next : ℕ) (event : Event) → AllSo run.start.disks past here.world → AllSo run.start.disks (asked next event ∷ hist past here.world) (without_notes here.world)
      begun_were next event o = record {
        were = same_were (asked next event ∷ []) (hist past here.world) (asked next event ∷ hist past here.world) here.world (without_notes here.world) refl (λ i n. refl) refl (λ p l. l) o.were;
        taken = λ p b l. o.taken p b l;
      }

  -- ---- behind the lines of a run
  pub record After (entries : List Entry) (w : WorldState) : Type 0 where
    pub past : List Moment
    pub holds : H past (length entries) w
    pub is : hist past w ≡ moments entries
    pub so : AllSo run.start.disks past w

  first_after : After [] (beginning run).world
  unfolding new_world
  first_after = record {
    past = first_past line run.initiators run.ready;
    holds = first_holds run.initiators run.ready run.units line run.start.disks few small size;
    is = refl;
    so = record { were = first_were line run.initiators run.ready run.units; taken = first_taken run.start.disks line run.initiators run.ready run.units };
  }

  next_after : (e : Entry) (before : List Entry) → length before + 2 < 2 ^ 32 → AreEntries (beginning run) (e ∷ before) → AreLines run (e ∷ before) → After before (after (beginning run) before).world → After (e ∷ before) (happens e.line e.event e.told (after (beginning run) before)).world
  next_after e before short every fit b =
      let s = after (beginning run) before in
      let now = asked e.line e.event ∷ hist b.past s.world in
      record {
        past = now;
        holds = subst (λ n. H now n (happens e.line e.event e.told s).world) (let x : length before + 1 ≡ suc (length before) = omega arith in x)
            (line_holds run.units logins has run.start.disks e.line e.event e.told s fit.0 (happened_fits e.event e.told s every.0.may) (omega arith) b.holds);
        is = ap (λ ns. map said ns ++ now) (sym every.0.notes_are) ∙ ap (λ ms. map said e.notes ++ asked e.line e.event ∷ ms) b.is;
        so =
            line_were run.units logins has run.start.disks b.past e.line e.event e.told s fit.0 every.0.may
            (first_facts before short every.1 fit.1 b.past (length before) b.holds b.is e.line e.event)
            (numbers before short every.1 fit.1 b.past (length before) b.holds b.is)
            (tt, subst (OrderLaw all) (sym b.is) (law before short every.1 fit.1))
            (more_of before short every.1 fit.1 b.past (length before) b.holds b.is e.line e.event e.told every.0.may)
            (begun_were before short every.1 fit.1 b.past (length before) b.holds b.is e.line e.event b.so);
      }

  pub were_after : (entries : List Entry) → length entries + 2 < 2 ^ 32 → AreEntries (beginning run) entries → AreLines run entries → After entries (after (beginning run) entries).world
  were_after [] short every fit = first_after
  were_after (e ∷ before) short every fit =
      let few_lines : length before + 2 < 2 ^ 32 = omega arith in next_after e before few_lines every fit (were_after before few_lines every.1 fit.1)

  -- ---- at a place of a history
  opened_at : (past : List Moment) (w : WorldState) → F past w → AllWere past w → AreOpened (hist past w) w
  opened_at past w f o p b l =
      let g : Good w.target = good_of run.units logins f.holds.calls w.target has f.holds.made in
      let l' = up_is _ l in
      let s = g.mid.served p b (not_eight p b) (up_state _ l') in
      let k = f.held.held p s.login s.is in
      let is : holder w p ≡ k.holder = ap or_nobody k.there in
      record {
        login = s.login;
        is = s.is;
        live = s.live;
        there = k.there ∙ ap Some (sym is);
        id_is = ap (λ (x : Holder). x.login) is ∙ k.login_is;
        inside = subst (λ (x : Holder). x.initiator < length w.initiators) (sym is) (k.live s.live).of.small;
        opened = (o.each p b l').opened;
      }
    where
      up_is : (x : Bool) → x ≡ false → not x ≡ true
      up_is x e = ap not e

module _ (line : ℕ) (run : Run) (r : IsRun run) (has : 0 < run.units) (small : run.units ≤ 4) (size : length run.start.disks ≡ run.units) where
  abbrev last : Scene
  last = after (beginning run) run.entries

  abbrev known : After line run r.few has small size run.entries last.world
  known = were_after line run r.few has small size run.entries r.short r.entries r.lines

  pub opens_after : AreOpened (history_of line run) last.world
  opens_after =
      let k = known in
      let f = facts line run r.few has small size run.entries r.short r.entries r.lines k.past (length run.entries) k.holds k.is in
      subst (λ ms. AreOpened ms last.world) k.is (opened_at line run r.few has small size k.past last.world f k.so.were)

  pub had_after : WereAt (history_of line run) last.world
  had_after = let k = known in subst (λ ms. WereAt ms last.world) k.is k.so.were

  as_up : (x : Bool) → x ≡ false → not x ≡ true
  as_up x e = ap not e

  pub taken_after : AreTaken run.start.disks (history_of line run) last.world
  taken_after = let k = known in subst (λ ms. AreTaken run.start.disks ms last.world) k.is (λ p b e. k.so.taken p b (as_up _ e))

  module _ (next : ℕ) (event : Event) (d : DeliversMore event) (told : List (Option Told)) (m : MayAll told (begun last)) where
    abbrev end : WorldState
    end = (after_all told (begun last)).world

    pub opens_between : AreOpened (map said end.fresh ++ asked next event ∷ history_of line run) end
    opens_between =
        let k = known in
        let now = asked next event ∷ hist k.past last.world in
        let at = facts_at line run r.few has small size run.entries r.short r.entries r.lines k.past (length run.entries) k.holds k.is next event d told m in
        let each = all_facts line run r.few has small size run.entries r.short r.entries r.lines k.past (length run.entries) k.holds k.is next event d told m in
        let first = begun_were line run r.few has small size run.entries r.short r.entries r.lines k.past (length run.entries) k.holds k.is next event k.so in
        let o = all_heard run.units (ready_logins run.initiators run.ready) has run.start.disks now told (begun last) each m first in
        subst (λ ms. AreOpened (map said end.fresh ++ asked next event ∷ ms) end) k.is (opened_at line run r.few has small size now end at o.were)

    pub had_between : WereAt (map said end.fresh ++ asked next event ∷ history_of line run) end
    had_between =
        let k = known in
        let now = asked next event ∷ hist k.past last.world in
        let each = all_facts line run r.few has small size run.entries r.short r.entries r.lines k.past (length run.entries) k.holds k.is next event d told m in
        let first = begun_were line run r.few has small size run.entries r.short r.entries r.lines k.past (length run.entries) k.holds k.is next event k.so in
        let o = all_heard run.units (ready_logins run.initiators run.ready) has run.start.disks now told (begun last) each m first in
        subst (λ ms. WereAt (map said end.fresh ++ asked next event ∷ ms) end) k.is o.were

    pub taken_between : AreTaken run.start.disks (map said end.fresh ++ asked next event ∷ history_of line run) end
    taken_between =
        let k = known in
        let now = asked next event ∷ hist k.past last.world in
        let each = all_facts line run r.few has small size run.entries r.short r.entries r.lines k.past (length run.entries) k.holds k.is next event d told m in
        let first = begun_were line run r.few has small size run.entries r.short r.entries r.lines k.past (length run.entries) k.holds k.is next event k.so in
        let o = all_heard run.units (ready_logins run.initiators run.ready) has run.start.disks now told (begun last) each m first in
        subst (λ ms. AreTaken run.start.disks (map said end.fresh ++ asked next event ∷ ms) end) k.is (λ p b e. o.taken p b (as_up _ e))

pub opens_law : OpensLaw
opens_law = record {
  after_lines = λ line run r has small size. opens_after line run r has small size;
  between = λ line run r has small size next event d told m. opens_between line run r has small size next event d told m;
}

pub cut_lists_law : CutListsLaw
cut_lists_law = record {
  after_lines = λ line run r has small size. (had_after line run r has small size).had;
  between = λ line run r has small size next event d told m. (had_between line run r has small size next event d told m).had;
}

pub taken_lists_law : TakenListsLaw
taken_lists_law = record {
  after_lines = λ line run r has small size. taken_after line run r has small size;
  between = λ line run r has small size next event d told m. taken_between line run r has small size next event d told m;
}
