-- Each line of a run, and each delivery, keeps that the last ORB of a list stands in its slot while its agent is at the end of the list.
use Rattle.sbp_world.proofs.Words.Std.{arith, ◌≡◌, ◌∙◌, refl, sym, ap, subst, ◌<◌, ◌≤◌, ℕ, suc, Bool, true, false, List, [], ◌∷◌, ◌++◌, map, length, Option, Some, None, Ok}
use Rattle.sbp_world.proofs.Words.Wire.{LabelParts, Packet, header_in, SerialsCount, judging_step, of_request, of_response, Sent, topology_at, holder_at, Event, Note, Moment, asked, said, terms}
use Rattle.sbp_world.proofs.Words.Target.{Which, Machine, point_step, reply_step, Login, Disk, Told, which_in, desk_at, answer_in, plain_in, is_barred, demand_of}
use Rattle.sbp_world.proofs.Words.Initiator.{Ask, OrbPointer}
use Rattle.sbp_world.proofs.Words.Laws.{present_list, taken_at, status_due, ends, lists, EachMoment}
use Rattle.sbp_world.proofs.Words.World.{holder, WorldState, initiator_at, without_notes, has_list, AreRows, Lasts, AreNamed, IsFor, machine_at, AllOf, of_rest, AreOpened, TakenSo}
use Rattle.orb_layout.specs.declared.ask.Ask.TheVariants as asks
use Rattle.sbp_target.specs.declared.purpose.Purpose.TheVariants as purposes
use Rattle.target_base.specs.declared.address.Access.TheVariants as accesses
use Rattle.target_base.specs.declared.address.Demand.TheVariants as demands
use Rattle.sbp_world.proofs.Agents.Management.Still.{hist}
use Rattle.sbp_world.proofs.Hosts.StepLaws.{step_law}
use Rattle.sbp_world.proofs.Lists.Generations.{moment_generation}
use Rattle.sbp_world.proofs.Lists.Joins.{Begins}
use Rattle.sbp_world.proofs.Lists.OpenTurns.{AreSeated}
use Rattle.sbp_world.proofs.Lists.Passing.{PassLaw}
use Rattle.sbp_world.proofs.Lists.Rises.{Rises}
use Rattle.sbp_world.proofs.Lists.StatusBytes.{written_at}
use Rattle.sbp_world.proofs.Lists.StatusPackets.{IsInbox}
use Rattle.sbp_world.proofs.Lists.StatusCall.{After, AreRested, Held, IsFirst, held_on, rests_has, rests_up}
use Rattle.sbp_world.proofs.Lists.StatusSteps.{rests}
use Rattle.sbp_world.proofs.Lists.StatusTurn.{Up}
use Rattle.sbp_world.proofs.Lists.Stays.{ready_now}
use Rattle.sbp_world.proofs.Lists.Turns.{Ready}
use Rattle.sbp_world.proofs.Common.{moment_joined}
use Rattle.sbp_world.proofs.Hosts.Cores.{not_so as up_state}

-- what is known of a history behind a turn, of an initiator
pub record Later (wild : ℕ → Bool) (i : ℕ) (now : List Moment) : Type 0 where
  pub passes : PassLaw wild now
  pub counted : SerialsCount now
  pub takes : EachMoment (TakenSo i) now
  pub rises : Rises now
  pub begins : Begins i now
  pub lasts : (later before : List Moment) → later ++ before ≡ now → Lasts before now i

pub after_of : (wild : ℕ → Bool) (i : ℕ) (now : List Moment) → Later wild i now → (more : List Note) (m : Moment) (H : List Moment) → map said more ++ m ∷ H ≡ now → After wild i H now
after_of wild i now l more m H is = record {
  passes = l.passes;
  counted = l.counted;
  takes = l.takes;
  rises = l.rises;
  begins = l.begins;
  lasts = l.lasts (map said more ++ m ∷ []) H (moment_joined (map said more) m H ∙ is);
}

module _ (wild : ℕ → Bool) where
  -- ---- what is known of a place
  pub record OwnAt (past : List Moment) (w : WorldState) (r : Ready wild past w) (i : ℕ) (own : wild i ≡ false) : Type 0 where
    pub untaken : (n k : ℕ) → ends (hist past w) i n ≤ k → taken_at (hist past w) i n k ≡ None
    pub present_latest : (n : ℕ) → present_list (hist past w) i ≡ Some n → suc n ≡ lists (hist past w) i
    pub rows : AreRows (hist past w) i (initiator_at w i).lists.slots
    pub up : (q : ℕ) → q < 8 → has_list (machine_at w q).phase ≡ true → Up wild i own past w q
    pub point_up : (sent : Sent) → IsFor w sent → (p : Packet) → (judging_step w.target.layer sent.generation sent.bytes).0 ≡ of_request p → is_barred w.target p ≡ false → (q : ℕ) → q < 8 → (pointer : OrbPointer) → demand_of (length w.target.rom) p ≡ demands.Agent q (accesses.Point pointer) → (ask : Ask) → (point_step (machine_at w q) pointer).0 ≡ Ok ask → Up wild i own past w q

  -- the bytes of an answer go to no FIFO, and into no response buffer
  abbrev pub AllFree : WorldState → Type 0
  AllFree w =
      (sent : Sent) → IsFor w sent → (run : Option Told) (disks : List Disk) (p : Packet) (label : LabelParts) (place : ℕ) → (judging_step w.target.layer sent.generation sent.bytes).0 ≡ of_response p label (Some (purposes.Agent place)) → place < 8 → (login : Login) (which : Which) → which_in (desk_at w.target place) (header_in p).source label ≡ Some which → (let step = (reply_step (machine_at w place) place (plain_in w.target.units disks login.unit) run which (answer_in p)).0 in wild (holder w place).initiator ≡ false → step.ended ≡ None → (offset size : ℕ) → step.ask ≡ asks.Write offset size → IsInbox (written_at offset) → ⊥)

  pub record At (past : List Moment) (w : WorldState) : Type 0 where
    pub ready : Ready wild past w
    pub rested : AreRested wild (hist past w) w
    pub seats : AreSeated w
    pub free : AllFree w
    pub same_gen : (topology_at w.generations 0).generation ≡ (terms (hist past w)).generation 0
    pub layer_gen : w.target.layer.generation ≡ (terms (hist past w)).generation 0
    pub names : AreNamed (hist past w) w
    pub own : (i : ℕ) (mild : wild i ≡ false) → i < length w.initiators → OwnAt past w ready i mild

  -- and of the one behind a turn
  pub record Then (w : WorldState) (now : List Moment) (v : WorldState) : Type 0 where
    pub later : (i : ℕ) → wild i ≡ false → i < length w.initiators → Later wild i now
    pub latest : (i q : ℕ) → wild i ≡ false → q < 8 → has_list (machine_at v q).phase ≡ true → (holder v q).initiator ≡ i → (n : ℕ) → (holder v q).list ≡ Some n → suc n ≡ lists now i
    pub opened : AreOpened now v
    pub count : length v.initiators ≡ length w.initiators

  module _ (w : WorldState) (now : List Moment) (v : WorldState) (then : Then w now v) where
    pub inside_then : (i q : ℕ) → q < 8 → rests (machine_at v q) ≡ true → (holder v q).initiator ≡ i → i < length w.initiators
    inside_then i q c rv mine =
        let o = then.opened q c (up_state _ (rests_up (machine_at v q) rv)) in
        subst (λ n. i < n) then.count (subst (λ j. j < length v.initiators) mine o.inside)

  pub low_at : (past : List Moment) (w : WorldState) (at : At past w) (i : ℕ) (mild : wild i ≡ false) → i < length w.initiators → (q : ℕ) → q < 8 → has_list (machine_at w q).phase ≡ true → (holder w q).initiator ≡ i → (terms (hist past w)).generation 0 ≤ (terms (hist past w)).generation (suc i)
  low_at past w at i mild inside q c l mine = let a = ((at.own i mild inside).up q c l).caught mine in let e = at.same_gen in omega (arith, a, e)

  -- ---- a turn that leaves the target and who has its places
  pub others_rest : (past : List Moment) (w : WorldState) → At past w → (now : List Moment) (v : WorldState) → Then w now v → (m : Moment) (more : List Note) → AllOf of_rest more → map said more ++ m ∷ hist past w ≡ now → ((i : ℕ) → IsFirst i m (hist past w)) → status_due (m ∷ hist past w) ≡ None → ((q : ℕ) → machine_at v q ≡ machine_at w q) → v.places ≡ w.places → ((i n : ℕ) → ends now i n ≡ ends (hist past w) i n) → AreRested wild now v
  others_rest past w at now v then m more rest is first due agents places ended i q mild c rv mine n k list e =
      let H = hist past w in
      let rb : rests (machine_at w q) ≡ true = ap (λ (x : Machine). rests x) (sym (agents q)) ∙ rv in
      let mine_w : (holder w q).initiator ≡ i = ap (λ ps. (holder_at ps q).initiator) (sym places) ∙ mine in
      let list_w : (holder w q).list ≡ Some n = ap (λ ps. (holder_at ps q).list) (sym places) ∙ list in
      let inside = inside_then w now v then i q c rv mine in
      let was : ends H i n ≡ suc k = sym (ended i n) ∙ e in
      let after = after_of wild i now (then.later i mild inside) more m H is in
      subst (λ ms. Held ms i n k) is
      (held_on wild i mild H m more rest (first i) (low_at past w at i mild inside q c (rests_has (machine_at w q) rb) mine_w) (subst (After wild i H) (sym is) after) n k due was (ap (λ ms. ends ms i n) is ∙ e)
      (at.rested i q mild c rb mine_w n k list_w was))

  -- a line begins
  rested_asked : (line : ℕ) (event : Event) (ms : List Moment) (w : WorldState) → AreRested wild ms w → AreRested wild (asked line event ∷ ms) (without_notes w)
  rested_asked line event ms w rested i q mild c rv mine n k list e =
      let h = rested i q mild c rv mine n k list e in
      let zero_same = moment_generation 0 (asked line event) ms refl in
      let own_same = moment_generation (suc i) (asked line event) ms refl in
      record {
        below = h.below;
        null = (tt, h.null);
        slotted = record {
          placed = record { last = h.slotted.placed.last; small = h.slotted.placed.small };
          held = λ one. let x = h.slotted.held (sym zero_same ∙ (one ∙ own_same)) in record { there = x.there; held = x.held };
        };
      }

  up_asked : (line : ℕ) (event : Event) (past : List Moment) (w : WorldState) (i : ℕ) (mild : wild i ≡ false) (q : ℕ) → Up wild i mild past w q → Up wild i mild (asked line event ∷ hist past w) (without_notes w) q
  up_asked line event past w i mild q u =
      let same = moment_generation (suc i) (asked line event) (hist past w) refl in
      record {
        mine = λ login e n. u.mine login e n;
        caught = λ m. let a = u.caught m in omega (arith, a, same);
        present = λ m g. u.present m (g ∙ same);
      }

  pub at_asked : (line : ℕ) (event : Event) (past : List Moment) (w : WorldState) → At past w → At (asked line event ∷ hist past w) (without_notes w)
  at_asked line event past w at =
      let zero_same = moment_generation 0 (asked line event) (hist past w) refl in
      record {
        ready = ready_now wild line event past w at.ready;
        rested = rested_asked line event (hist past w) w at.rested;
        seats = λ p login e. let k = at.seats p login e in record { holder_is = k.holder_is; there = k.there; id_is = k.id_is };
        free = λ sent is_for run disks p label place f b login which e. at.free sent (record { serial = is_for.serial; found = is_for.found; to = is_for.to }) run disks p label place f b login which e;
        same_gen = at.same_gen ∙ sym zero_same;
        layer_gen = at.layer_gen ∙ sym zero_same;
        names = record {
          stands = λ i n k e b t. let s = at.names.stands i n k e b t in record { last = s.last; small = s.small };
          named = λ place n k inside e b t. let x = at.names.named place n k inside e b t in record { list = x.list; number = x.number };
        };
        own = λ i mild inside.
            let o = at.own i mild inside in
            record {
              untaken = o.untaken;
              present_latest = o.present_latest;
              rows = step_law.asked line event (hist past w) i (initiator_at w i).lists.slots o.rows;
              up = λ q b l. up_asked line event past w i mild q (o.up q b l);
              point_up = λ sent is_for p judged bar q b pointer demand ask took. up_asked line event past w i mild q (o.point_up sent (record { serial = is_for.serial; found = is_for.found; to = is_for.to }) p judged bar q b pointer demand ask took);
            };
      }
