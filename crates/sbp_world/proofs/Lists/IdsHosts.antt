-- In every run the login that the host of an initiator has is of an ID of the initiator, or it has none: where each login that was done for it was of such an ID.
use Rattle.sbp_world.proofs.Words.Std.{arith, ◌≡◌, ◌∙◌, inl, inr, refl, sym, ap, subst, ℕ, ◌+◌, ◌<◌, ◌≤◌, ◌&&◌, nat_lt, Bool, true, false, List, [], ◌∷◌, ◌++◌, length, append_assoc, nat_tests}
use Rattle.sbp_world.proofs.Words.Wire.{Moment, asked, said, Note, Operation, OpWord}
use Rattle.sbp_world.proofs.Words.Target.{Table, place_at, Disk}
use Rattle.sbp_world.proofs.Words.Initiator.{LoginResponse, login_response}
use Rattle.sbp_world.proofs.Words.Laws.{host_at, response_of, first_table, EachMoment}
use Rattle.sbp_world.proofs.Words.World.{moments_behind, new_world, ready_logins, Run, after, beginning, WorldState, HadBy, HasOwn, OwnBy, OwnedAt}
use Rattle.sbp_world.proofs.Agents.Management.Begins.{first_holds}
use Rattle.sbp_world.proofs.Hosts.Runs.{count_after, count_between}
use Rattle.sbp_journal.specs.declared.note.Note.TheVariants as notes
use Rattle.sbp_journal.specs.declared.operation.Operation.TheVariants as operations
use Rattle.sbp_journal.specs.declared.operation.OpWord.TheVariants as words
use Rattle.sbp_world.proofs.Lists.Courses.{EveryPlace, Keeps, at_between, at_lines}
use Rattle.sbp_world.proofs.Lists.HostLogins.{GrantsAt, ReadyAt, login_begun}
use Rattle.sbp_world.proofs.Lists.IdsBegun.{BegunAt, begun_after, begun_between}
use Rattle.sbp_world.proofs.Lists.IdsOwned.{had_later, own_on}
use Rattle.sbp_world.proofs.Lists.KeptTurns.{id_is}
use Rattle.sbp_world.proofs.Lists.LiveBegins as begins

-- ---- a history
module _ (start : List Disk) (final : List Moment) (i : ℕ) where
  abbrev Good : LoginResponse → Type 0
  Good response = HasOwn start final i response

  op_grant : (j : ℕ) (operation : Operation) (word : OpWord) (past later : List Moment) → later ++ said (notes.Op j operation word) ∷ past ≡ final → OwnedAt start i (said (notes.Op j operation word)) past → GrantsAt Good i (said (notes.Op j operation word)) past
  op_grant j operations.Login words.Done past later is o =
      let id = (login_response (response_of (host_at past i))).login in
      λ e. inl (inr (subst (λ ms. HadBy start ms i id) is (had_later start i id later (said (notes.Op j operations.Login words.Done) ∷ past) (inr (o e)))))
  op_grant j operation word past later is o = tt

  note_grant : (note : Note) (past later : List Moment) → later ++ said note ∷ past ≡ final → OwnedAt start i (said note) past → GrantsAt Good i (said note) past
  note_grant (notes.Op j operation word) past later is o = op_grant j operation word past later is o
  note_grant note past later is o = tt

  one_grant : (m : Moment) (past later : List Moment) → later ++ m ∷ past ≡ final → OwnedAt start i m past → GrantsAt Good i m past
  one_grant (asked line event) past later is o = tt
  one_grant (said note) past later is o = note_grant note past later is o

  grants_from : (past later : List Moment) → later ++ past ≡ final → EachMoment (OwnedAt start i) past → EachMoment (GrantsAt Good i) past
  grants_from [] later is o = tt
  grants_from (m ∷ past) later is o = (one_grant m past later is o.0, grants_from past (later ++ m ∷ []) (append_assoc later (m ∷ []) past ∙ is) o.1)

  module _ (ready : Bool) (n : ℕ) (own : (ready && nat_lt i n) ≡ true → OwnBy start final i (i + 1)) where
    ready_note : (note : Note) (past : List Moment) → BegunAt ready n (said note) past → ReadyAt Good i (said note) past
    ready_note (notes.Begin initiators is_ready) past b = λ e. inl (own (sym (ap (λ x. x && nat_lt i initiators) b.1 ∙ ap (λ k. ready && nat_lt i k) b.0) ∙ e))
    ready_note note past b = tt

    ready_one : (m : Moment) (past : List Moment) → BegunAt ready n m past → ReadyAt Good i m past
    ready_one (asked line event) past b = tt
    ready_one (said note) past b = ready_note note past b

    ready_each : (past : List Moment) → EachMoment (BegunAt ready n) past → EachMoment (ReadyAt Good i) past
    ready_each [] b = tt
    ready_each (m ∷ past) b = (ready_one m past b.0, ready_each past b.1)

    begun_from : (later past : List Moment) → EachMoment (BegunAt ready n) (later ++ past) → EachMoment (BegunAt ready n) past
    begun_from [] past b = b
    begun_from (m ∷ later) past b = begun_from later past b.1

    owned_from : (later past : List Moment) → EachMoment (OwnedAt start i) (later ++ past) → EachMoment (OwnedAt start i) past
    owned_from [] past o = o
    owned_from (m ∷ later) past o = owned_from later past o.1

    host_own : EachMoment (BegunAt ready n) final → EachMoment (OwnedAt start i) final → (later past : List Moment) → later ++ past ≡ final → HasOwn start final i (host_at past i).login
    host_own b o later past is =
        login_begun Good past i (ready_each past (begun_from later past (subst (EachMoment (BegunAt ready n)) (sym is) b))) (inr refl)
        (grants_from past later is (owned_from later past (subst (EachMoment (OwnedAt start i)) (sym is) o)))

-- ---- where the initiators were ready at the start
abbrev ReadyOwn : Run → List Moment → WorldState → Type 0
ReadyOwn run past w = (i : ℕ) → (run.ready && nat_lt i run.initiators) ≡ true → OwnBy run.start.disks past i (i + 1)

abbrev Nothing : List Disk → List Moment → WorldState → Type 0
Nothing start past w = Unit {0}

nothing : EveryPlace Nothing
nothing = record { after_lines = λ line run r has small size so_far. tt; between = λ line run r has small size next most told m so_far. tt }

keeps_ready : (run : Run) (units ready : ℕ) → Keeps units ready run.start.disks (Nothing run.start.disks) (ReadyOwn run)
keeps_ready run units ready past s later t lines more g h h_now q q_now p i e = own_on run.start.disks i (i + 1) past s later t g (p i e)

first_ready : (line : ℕ) (run : Run) → run.initiators ≤ 4 → 0 < run.units → run.units ≤ 4 → length run.start.disks ≡ run.units → ReadyOwn run (moments_behind line run []) (beginning run).world
unfolding new_world
first_ready line run few has small size i e = by run.ready refl e
  where
    by : (ready : Bool) → run.ready ≡ ready → (ready && nat_lt i run.initiators) ≡ true → OwnBy run.start.disks (moments_behind line run []) i (i + 1)
    by false r f = absurd (let no : false ≡ true = f in cc)
    by true r f =
        let inside : i < run.initiators = grind (arith, nat_tests) in
        let h = first_holds run.initiators run.ready run.units line run.start.disks few small size in
        let one = begins.ready_has run.initiators few run.units small line run.start.disks size [] i inside in
        let there : i < length (beginning run).world.initiators = subst (λ k. i < k) (sym (count_after run [])) inside in
        inl (record {
          place = one.place;
          login = one.login;
          there = ap (λ b. place_at (first_of b).places one.place) r ∙ one.there;
          live = one.live;
          node = one.of_node ∙ (sym (begins.id_is run.initiators few run.units small line run.start.disks size run.ready i inside) ∙ sym (id_is run.units (ready_logins run.initiators run.ready) has run.start.disks (beginning run).world h i there));
          own = one.own;
        })
      where
        first_of : Bool → Table
        first_of b = first_table b run.initiators

-- ---- at each place of every run
abbrev pub HostsOwn : List Disk → List Moment → WorldState → Type 0
HostsOwn start past w = (i : ℕ) → i < length w.initiators → EachMoment (OwnedAt start i) past → (later earlier : List Moment) → later ++ earlier ≡ past → HasOwn start past i (host_at earlier i).login

pub hosts_own_everywhere : EveryPlace HostsOwn
hosts_own_everywhere = record {
  after_lines = λ line run r has small size so_far i l owned later earlier is.
      let inside : i < run.initiators = subst (λ n. i < n) (count_after run run.entries) l in
      let ready = at_lines Nothing (ReadyOwn run) nothing line run r.few has small size (keeps_ready run run.units (ready_logins run.initiators run.ready)) (first_ready line run r.few has small size) r so_far in
      host_own run.start.disks _ i run.ready run.initiators (ready i) (begun_after line run r i inside) owned later earlier is;
  between = λ line run r has small size next most told m so_far i l owned later earlier is.
      let inside : i < run.initiators = subst (λ n. i < n) (count_between told (after (beginning run) run.entries) ∙ count_after run run.entries) l in
      let ready = at_between Nothing (ReadyOwn run) nothing line run r.few has small size (keeps_ready run run.units (ready_logins run.initiators run.ready)) (first_ready line run r.few has small size) r next most told m so_far in
      host_own run.start.disks _ i run.ready run.initiators (ready i) (begun_between line run r i inside next told m most) owned later earlier is;
}
