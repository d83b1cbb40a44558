-- In every run in which nobody injected packets, the target told of no death, or of no failure of the management operation, since it first saw the latest reset, where nothing was lost since that reset, few requests of
-- lists that were cut are under way at each moment since, and no delivery to the target tells of one. So no agent died, where the commands are legal, and each delivery goes on.
use Rattle.sbp_world.proofs.Words.Std.{arith, ◌≡◌, ◌∙◌, refl, sym, ap, subst, inl, ◌≤◌, ◌<◌, ◌-◌, ℕ, suc, false, Bool, List, [], ◌∷◌, ◌++◌, length, map, Option, false≢true}
use Rattle.sbp_world.proofs.Words.Wire.{Event, Moment, Sent, Terms, asked, opened, said, terms}
use Rattle.sbp_world.proofs.Words.Target.{Disk, Held, NodeState, Told, received}
use Rattle.sbp_world.proofs.Words.Laws.{Target, initiators, over, target_at}
use Rattle.sbp_world.proofs.Words.World.{IsFor, IsTame, MayTell, Run, UnderFrom, WorldState, after, after_all, beginning, begun, history_of, moments_behind, more_deliveries, target_received, target_sees, target_ticks, whole_of}
use Rattle.bus_transactions.specs.Carried.{AreKept}
use Rattle.orb_layout.specs.Pointers.{bit}
use Rattle.std.specs.List.{list_any}
use Rattle.sbp_journal.specs.declared.event.Event.TheVariants as events
use Rattle.sbp_laws.specs.MediaLaw.{is_pending}
use Rattle.sbp_world.specs.Completing.Sights.{AreFewOfCutLists, since_sight}
use Rattle.sbp_world.specs.Completing.Deaths.{AreFewNow, AreLegal, DeliveryGoesOn, GoesOnThere, IsLegalAt, NoneDied}
use Rattle.sbp_world.specs.Completing.Labels.{AlwaysFrom, AlwaysWhere, LosesNothing, is_nobodys, labels, of_cut_lists}
use Rattle.sbp_world.proofs.Agents.Management.Holding.{past_terms}
use Rattle.sbp_world.proofs.Agents.Management.Still.{hist}
use Rattle.sbp_world.proofs.Completing.DeathsHistory.{AreLive, Lives, none_dies, turn_lives}
use Rattle.sbp_world.proofs.Completing.DeathsTold.{deliveries_live, others_live}
use Rattle.sbp_world.proofs.Completing.DeathsTurns.{AreSaid, May, OthersTell, TellsBy, deathless, lives_said, turn_says}
use Rattle.sbp_world.proofs.Counting.StartCounted.{counted_after, counted_between}
use Rattle.sbp_world.proofs.Hosts.Hands.{hand_law}
use Rattle.sbp_world.proofs.Lists.Clauses.{open_lists_law}
use Rattle.sbp_world.proofs.Lists.Courses.{more_than_one}
use Rattle.sbp_world.proofs.Lists.IdsOwned.{aged_at}
use Rattle.sbp_world.proofs.Lists.ListsProved.{closing}
use Rattle.sbp_world.proofs.Lists.MachineTurns.{heard_in}
use Rattle.sbp_world.proofs.Lists.OrbWaits.{over_twice}
use Rattle.sbp_world.proofs.Lists.OwnFifos.{tame_before}
use Rattle.sbp_world.proofs.Lists.StatusKnown.{each_from}
use Rattle.sbp_world.proofs.Lists.TameWalks.{from_after, from_between}
use Rattle.sbp_world.proofs.Lists.Walks.{Walks}
use Rattle.sbp_world.proofs.Wire.Bus.{holds}

-- ---- as a line is asked for, as many are under way
abbrev cut_in : (T : Target) (t : Terms) (i : ℕ) → ℕ
cut_in T t i = labels (is_nobodys T) t i - bit (list_any (is_pending t (suc i)) T.pushes)

cut_opened : (event : Event) (T : Target) (t : Terms) (i : ℕ) → cut_in T (opened event t) i ≡ cut_in T t i
cut_opened (events.Reset physical) T t i = refl
cut_opened (events.Repeat serial) T t i = refl
cut_opened _ T t i = refl

pub cut_asked : (start : List Disk) (line : ℕ) (event : Event) (past : List Moment) (i : ℕ) → of_cut_lists start (asked line event ∷ past) i ≡ of_cut_lists start past i
cut_asked start line event past i =
    cut_opened event (over (over (target_at start past))) (terms past) i ∙ ap (λ (T : Target). cut_in T (terms past) i) (over_twice (target_at start past))

-- ---- a turn
-- what each delivery of a packet to the target tells, whatever the media hold, and whatever the run of a command may tell
abbrev pub TellNow : May → WorldState → Type 0
TellNow may w = (sent : Sent) → IsFor w sent → (run : Option Told) (media : Held) → MayTell run sent w.target media → AreSaid may (received run sent.generation sent.bytes (whole_of w.target media)).1.outbox.sides

abbrev Nothing : List Moment → WorldState → Type 0
Nothing past w = Unit {0}

-- what is so before wherever it is so, and of no run with injected packets
pub record IsSteady (Plain : List Moment → Type 0) : Type 0 where
  pub before : (later past : List Moment) → Plain (later ++ past) → Plain past
  pub tame : (past : List Moment) → Plain past → IsTame past

module _ (may : May) (tell : OthersTell may) where
  abbrev pub Going : List Disk → List Moment → WorldState → Type 0
  Going start past w = LosesNothing past → AreFewNow start (length w.initiators) past → TellNow may w

  abbrev Living : List Disk → (ℕ → Bool) → List Moment → WorldState → Type 0
  Living start wild past w = wild 0 ≡ false → Lives may (AreFewNow start (length w.initiators)) past

  living_walk : (wild : ℕ → Bool) (units ready : ℕ) → 0 < units → (start : List Disk) → Walks wild units ready start Nothing (Going start) (Living start wild)
  living_walk wild units ready has start past s later t step p own =
      let w = s.world in
      let h = step.stands.reached.holds in
      let stands = h.sound.stands in
      let old = hist past w in
      let bus : (terms old).bus ≡ w.generations.latest.generation = ap (λ (x : Terms). x.bus) (sym (past_terms w stands)) ∙ (sym (holds stands.wire stands.reached).bus_is ∙ stands.is.bus_is) in
      let aged = aged_at units ready start w h in
      subst (λ n. Lives may (AreFewNow start n) (hist later t.world)) (sym step.count)
      (turn_lives may (AreFewNow start (length w.initiators)) (TellsBy may (heard_in past s later t step.turn) s) w.generations.latest.generation old (hist later t.world)
      (turn_says may tell past s later t step.turn) (p own) bus
      (λ e. omega (arith, e, aged))
      (λ line event few i b. subst (λ n. n ≤ 40) (cut_asked start line event old i) (few i b))
      (λ kept level few serial run heard sent found to said_so.
      step.so_far 0 own (record { kept = kept; seen = level }) few sent (record { serial = serial; found = found; to = to }) run s.media said_so))

  first_living : (start : List Disk) (wild : ℕ → Bool) (line : ℕ) (run : Run) → Living start wild (moments_behind line run []) (beginning run).world
  first_living start wild line run own = record { none = λ kept few. tt; seen = λ e. absurd (false≢true e) }

  -- ---- each run
  module _ (Plain : List Moment → Type 0) (steady : IsSteady Plain) (goes : AlwaysFrom (λ start past w. Plain past → Going start past w)) where
    under : UnderFrom (λ start past w. Plain past → Going start past w)
    under = record {
      after_lines = λ line run r has small size so_far p. goes.after_lines line run r has small size p;
      between = λ line run r has small size next most told m so_far p. goes.between line run r has small size next most told m p;
    }

    none_told : (start : List Disk) (now : List Moment) (w : WorldState) → length w.initiators ≡ initiators now → Lives may (AreFewNow start (length w.initiators)) now → AreKept now → AreFewOfCutLists start now → AreLive may (since_sight 0 now)
    none_told start now w count lives kept few = lives.none kept (λ later earlier is most i b. few later earlier is most i (subst (λ n. i < n) count b))

    pub tells_law : AlwaysFrom (λ start past w. Plain past → AreKept past → AreFewOfCutLists start past → AreLive may (since_sight 0 past))
    tells_law = record {
      after_lines = λ line run r has small size plain.
          let now = history_of line run in
          let tame = steady.tame now plain in
          none_told run.start.disks now (after (beginning run) run.entries).world (counted_after line run r size)
          (from_after Plain steady.before Nothing Going Living (record { after_lines = λ a b c d e f. tt; between = λ a b c d e f g h j k. tt }) under living_walk (λ wild a b. first_living b.start.disks wild a b) line run r has small size
          (closing.before open_lists_law line run r has small size (inl tame)) plain (tame 0));
      between = λ line run r has small size next most told m plain.
          let now = map said (after_all told (begun (after (beginning run) run.entries))).world.fresh ++ asked next (more_deliveries most) ∷ history_of line run in
          let tame = steady.tame now plain in
          none_told run.start.disks now (after_all told (begun (after (beginning run) run.entries))).world (counted_between line run r size next (more_deliveries most) told m)
          (from_between Plain steady.before Nothing Going Living (record { after_lines = λ a b c d e f. tt; between = λ a b c d e f g h j k. tt }) under living_walk (λ wild a b. first_living b.start.disks wild a b) line run r has small size next (more_deliveries most) (more_than_one most) told m
          (closing.between open_lists_law line run r has small size next (more_deliveries most) (more_than_one most) told m (inl tame)) plain (tame 0));
    }

-- ---- deaths
others_tell : OthersTell deathless
unfolding target_sees target_ticks
others_tell = record {
  sights = λ generation id node. lives_said _ (hand_law.sees generation id node) (others_live.sights generation id node);
  ticks = λ node. lives_said _ (hand_law.ticks node) (others_live.ticks node);
}

delivery_tells : (run : Option Told) (sent : Sent) (node : NodeState) (media : Held) → MayTell run sent node media → DeliveryGoesOn run sent.generation sent.bytes node media.disks → AreSaid deathless (received run sent.generation sent.bytes (whole_of node media)).1.outbox.sides
unfolding target_received
delivery_tells run sent node media may goes = lives_said _ (hand_law.received run sent node media may) (deliveries_live run sent.generation sent.bytes node media.disks goes)

module _ (While : List Moment → Type 0) (back : (later past : List Moment) → While (later ++ past) → While past) where
  abbrev IsPlain : List Moment → Type 0
  IsPlain past = IsTame past × (AreLegal past × While past)

  plain_steady : IsSteady IsPlain
  plain_steady = record { before = λ later past p. (tame_before later past p.0, (each_from IsLegalAt later past p.1.0, back later past p.1.1)); tame = λ past p. p.0 }

  deliveries_tell : AlwaysWhere While GoesOnThere → AlwaysFrom (λ start past w. IsPlain past → Going deathless others_tell start past w)
  deliveries_tell goes = record {
    after_lines = λ line run r has small size p l few sent f told media may.
        delivery_tells told sent (after (beginning run) run.entries).world.target media may (goes.after_lines line run r has small size p.1.1 p.0 p.1.0 l few sent f told media may);
    between = λ line run r has small size next most told m p l few sent f one media may.
        delivery_tells one sent (after_all told (begun (after (beginning run) run.entries))).world.target media may (goes.between line run r has small size next most told m p.1.1 p.0 p.1.0 l few sent f one media may);
  }

  pub none_dies_where : AlwaysWhere While GoesOnThere → AlwaysWhere While NoneDied
  none_dies_where goes =
      let told_so = tells_law deathless others_tell IsPlain plain_steady (deliveries_tell goes) in
      record {
        after_lines = λ line run r has small size so tame legal kept few. none_dies _ (told_so.after_lines line run r has small size (tame, (legal, so)) kept few);
        between = λ line run r has small size next most told m so tame legal kept few. none_dies _ (told_so.between line run r has small size next most told m (tame, (legal, so)) kept few);
      }
