-- In every run in which no initiator injected packets, or few logins were given: null pointers are of the lists of their agents as packets are got; and an agent that was rung, or was in RESET, and is SUSPENDED with the list that it has
-- had since, has ended each ORB of it that was linked then.
use Rattle.sbp_world.proofs.Words.Std.{◌∙◌, sym, ap, subst, ◌<◌, ℕ, Bool, List, [], ◌∷◌, Option}
use Rattle.sbp_world.proofs.Words.Wire.{Event, Moment, Sending, asked, terms}
use Rattle.sbp_world.proofs.Words.Target.{Disk}
use Rattle.sbp_world.proofs.Words.Laws.{EachMoment, Target, access_in, agent_at, injectors, packet_in, receiver_in, sender_in, target_at}
use Rattle.sbp_world.proofs.Words.World.{IsTameOrFew, Run, Under, WorldState, beginning, moments_behind, more_deliveries}
use Rattle.sbp_world.specs.Completing.Bells.{AllEnded, AllRungEnded, AreNamedAsGot, AreOfLists, BringsNullOf, EndedAtRestLaw, NamedAsGot, NamedAsGotLaw, RungEndedWhereGotLaw}
use Rattle.sbp_world.proofs.Agents.Management.Still.{hist}
use Rattle.sbp_world.proofs.Common.{delivers}
use Rattle.sbp_world.proofs.Completing.AnswersRuns.{Nothing, by_places, no_ground, nothing, rested}
use Rattle.sbp_world.proofs.Completing.BellsEnded.{Facts, all_ended}
use Rattle.sbp_world.proofs.Completing.BellsLast.{Rings, all_rung_ended}
use Rattle.sbp_world.proofs.Completing.BellsNamedRuns.{known_everywhere, nulls_named_law}
use Rattle.sbp_world.proofs.Completing.BellsProved.{belled_law, rung_linked_law}
use Rattle.sbp_world.proofs.Completing.Nulls.{nulls_then_law}
use Rattle.sbp_world.proofs.Completing.RungRuns.{rests_last_law}
use Rattle.sbp_world.proofs.Lists.Beside.{tame_or_few_before}
use Rattle.sbp_world.proofs.Lists.Clauses.{open_lists_law}
use Rattle.sbp_world.proofs.Lists.Courses.{EveryPlace, more_than_one}
use Rattle.sbp_world.proofs.Lists.GotTurns.{got_turn}
use Rattle.sbp_world.proofs.Lists.Gots.{turn_next}
use Rattle.sbp_world.proofs.Lists.ListsProved.{closing}
use Rattle.sbp_world.proofs.Lists.ManageSends.{opened_terms}
use Rattle.sbp_world.proofs.Lists.OrbWaits.{over_twice}
use Rattle.sbp_world.proofs.Lists.Passing.{PassLaw}
use Rattle.sbp_world.proofs.Lists.TameWalks.{from_after, from_between}
use Rattle.sbp_world.proofs.Lists.Walks.{Walks, walked_after, walked_between}

-- ---- as a line begins
named_asked : (wild : ℕ → Bool) (start : List Disk) (line : ℕ) (event : Event) (past : List Moment) → ((serial : ℕ) → AreNamedAsGot wild start past serial) → (serial : ℕ) → AreNamedAsGot wild start (asked line event ∷ past) serial
named_asked wild start line event past a serial place i address request answer small own to x =
    let opens = opened_terms event (terms past) in
    let y = a serial place i address request answer small own
    (ap (λ (f : ℕ → Option Sending). receiver_in (f request)) (sym opens.sent) ∙ to)
    (subst (λ (T : Target). BringsNullOf address (agent_at T place) request answer) (over_twice (target_at start past)) x) in
    record {
      list = y.list;
      list_is = y.list_is;
      number = y.number;
      address_is = y.address_is;
      stands = record { small = y.stands.small; is = y.stands.is };
      behind = y.behind;
      from = ap (λ (f : ℕ → Option Sending). sender_in (f request)) opens.sent ∙ y.from;
      access = y.access;
      is = ap (λ (f : ℕ → Option Sending). access_in (packet_in (f request))) opens.sent ∙ y.is;
      bytes = y.bytes;
      brings = y.brings;
    }

-- ---- as each packet is got
abbrev AllNamed : List Disk → (ℕ → Bool) → List Moment → WorldState → Type 0
AllNamed start wild past w = EachMoment (NamedAsGot wild start) past

abbrev OfLists : List Disk → List Moment → WorldState → Type 0
OfLists start past w = AreOfLists start past

named_walk : (wild : ℕ → Bool) (units ready : ℕ) → 0 < units → (start : List Disk) → Walks wild units ready start Nothing (OfLists start) (AllNamed start wild)
named_walk wild units ready has start past s later t step p =
    got_turn (AreNamedAsGot wild start) (λ line event before a. named_asked wild start line event before a) (hist past s.world) (hist later t.world) (turn_next past s later t step.turn)
    (λ serial place i address request answer small own to x. step.so_far i own place i address request answer small (step.stands.reached.calm i own) to x) p

first_named : (wild : ℕ → Bool) (line : ℕ) (run : Run) → AllNamed run.start.disks wild (moments_behind line run []) (beginning run).world
first_named wild line run = (tt, (tt, tt))

pub named_as_got_law : NamedAsGotLaw
named_as_got_law = record {
  after_lines = λ line run r has small size tame.
      from_after IsTameOrFew tame_or_few_before Nothing OfLists AllNamed no_ground nulls_named_law named_walk first_named line run r has small size (closing.before open_lists_law line run r has small size tame) tame;
  between = λ line run r has small size next most told m tame.
      from_between IsTameOrFew tame_or_few_before Nothing OfLists AllNamed no_ground nulls_named_law named_walk first_named line run r has small size next (more_deliveries most) (more_than_one most) told m
      (closing.between open_lists_law line run r has small size next (more_deliveries most) (more_than_one most) told m tame) tame;
}

-- ---- appends
abbrev Passes : (ℕ → Bool) → List Moment → WorldState → Type 0
Passes wild past w = PassLaw wild past

passes_walk : (wild : ℕ → Bool) (units ready : ℕ) → 0 < units → (start : List Disk) → Walks wild units ready start Nothing Nothing (Passes wild)
passes_walk wild units ready has start past s later t step p = step.reaches.kept.passes

first_passes : (wild : ℕ → Bool) (line : ℕ) (run : Run) → Passes wild (moments_behind line run []) (beginning run).world
first_passes wild line run = (tt, (tt, tt))

passes_law : Under (λ past w. Passes (injectors past) past w)
passes_law = record {
  after_lines = λ line run r has small size so_far. walked_after Nothing Nothing Passes no_ground nothing passes_walk first_passes line run r has small size so_far;
  between = λ line run r has small size next most told m so_far. walked_between Nothing Nothing Passes no_ground nothing passes_walk first_passes line run r has small size next (more_deliveries most) (delivers most) told m so_far;
}

-- ---- at rest
facts_everywhere : EveryPlace Facts
facts_everywhere =
    let known = known_everywhere in
    let passes = passes_law in
    let last = rested in
    record {
      after_lines = λ line run r has small size so_far. record {
        known = known.after_lines line run r has small size so_far;
        passes = passes.after_lines line run r has small size so_far;
        rested = λ tame. last.after_lines line run r has small size so_far tame;
        rests = λ tame. rests_last_law.after_lines line run r has small size tame;
        nulls = λ tame. nulls_then_law.after_lines line run r has small size tame;
        named = λ tame. named_as_got_law.after_lines line run r has small size tame;
      };
      between = λ line run r has small size next most told m so_far. record {
        known = known.between line run r has small size next most told m so_far;
        passes = passes.between line run r has small size next most told m so_far;
        rested = λ tame. last.between line run r has small size next most told m so_far tame;
        rests = λ tame. rests_last_law.between line run r has small size next most told m tame;
        nulls = λ tame. nulls_then_law.between line run r has small size next most told m tame;
        named = λ tame. named_as_got_law.between line run r has small size next most told m tame;
      };
    }

ended_places : EveryPlace (λ start past w. IsTameOrFew past → AllEnded start past w)
ended_places =
    by_places Facts (λ start past w. IsTameOrFew past → AllEnded start past w) (λ units ready has start past lines w h facts beside. all_ended units ready has start w h facts beside) facts_everywhere

pub ended_at_rest_law : EndedAtRestLaw
ended_at_rest_law = record {
  after_lines = λ line run r has small size so_far. ended_places.after_lines line run r has small size so_far;
  between = λ line run r has small size next most told m so_far. ended_places.between line run r has small size next most told m so_far;
}

-- ---- what is rung
rings_everywhere : EveryPlace Rings
rings_everywhere =
    let facts = facts_everywhere in
    record {
      after_lines = λ line run r has small size so_far. record {
        facts = facts.after_lines line run r has small size so_far;
        belled = belled_law.after_lines line run r has small size;
        linked_so = rung_linked_law.after_lines line run r has small size;
      };
      between = λ line run r has small size next most told m so_far. record {
        facts = facts.between line run r has small size next most told m so_far;
        belled = belled_law.between line run r has small size next most told m;
        linked_so = rung_linked_law.between line run r has small size next most told m;
      };
    }

rung_ended_places : EveryPlace (λ start past w. IsTameOrFew past → AllRungEnded start past w)
rung_ended_places =
    by_places Rings (λ start past w. IsTameOrFew past → AllRungEnded start past w) (λ units ready has start past lines w h rings beside. all_rung_ended units ready has start w h rings beside) rings_everywhere

pub rung_ended_law : RungEndedWhereGotLaw
rung_ended_law = record {
  after_lines = λ line run r has small size so_far. rung_ended_places.after_lines line run r has small size so_far;
  between = λ line run r has small size next most told m so_far. rung_ended_places.between line run r has small size next most told m so_far;
}
