-- In a turn of a run in which no initiator injected packets, or few logins were given: where a status of 00 is got for a login its buffer holds a response with the agent of a
-- place, which names a login of the initiator, and each status that is got for a logout is 00.
use Rattle.sbp_world.proofs.Words.Std.{sym, subst, ℕ, ◌<◌, List, length}
use Rattle.sbp_world.proofs.Words.Wire.{Moment}
use Rattle.sbp_world.proofs.Words.Target.{Disk}
use Rattle.sbp_world.proofs.Words.Laws.{EachMoment}
use Rattle.sbp_world.proofs.Words.World.{Scene, initiator_at, GoodAt, NoBadAt, IsCalmBeside, OursAt, OwnBy, OwnedAt, BasedAt, HasBase}
use Rattle.sbp_world.proofs.Agents.Management.Holding.{Holding}
use Rattle.sbp_world.proofs.Agents.Management.Still.{hist}
use Rattle.sbp_world.proofs.Lists.Courses.{Goes}
use Rattle.sbp_world.proofs.Lists.Gots.{Next}
use Rattle.sbp_world.proofs.Lists.Judging.{counts_at, goes_next}
use Rattle.sbp_world.proofs.Lists.LiveBased.{based_of, buffered, good_turn}
use Rattle.sbp_world.proofs.Lists.LiveJoined.{Held}
use Rattle.sbp_world.proofs.Lists.LiveOwned.{ours_turn, owned_of}
use Rattle.sbp_world.proofs.Lists.LiveRuns.{AllLive, With, goes_size, goes_beside}
use Rattle.sbp_world.proofs.Lists.LiveSteps.{Grown}
use Rattle.sbp_world.proofs.Lists.LiveUnrefused.{leaves_well, unbad_turn}
use Rattle.sbp_world.proofs.Lists.ManageMoments.{Hands}

module _ (units ready : ℕ) (start : List Disk) (past : List Moment) (s : Scene) (later : List Moment) (t : Scene) {lines more : ℕ} (has : 0 < units) (g : Goes past s later t) (h : Holding units ready start past lines s.world) (h_now : Holding units ready start later more t.world) (q : With Held start (hist past s.world) s.world) (q_now : With Held start (hist later t.world) t.world) (p : AllLive Held start (hist past s.world) s.world) (i : ℕ) (inside : i < length s.world.initiators) (beside : IsCalmBeside (hist later t.world) i) where
  abbrev was : List Moment
  was = hist past s.world

  abbrev is_now : List Moment
  is_now = hist later t.world

  was_beside : IsCalmBeside was i
  was_beside = goes_beside past s later t g i beside

  now_inside : i < length t.world.initiators
  now_inside = subst (λ n. i < n) (sym (goes_size past s later t g)) inside

  grown : Grown start was s.world i
  grown = (p i inside).grown

  hands : Hands start i is_now
  hands = q_now.more.given.laws.hands i now_inside beside.0

  on : Next was is_now
  on = goes_next past s later t g

  pub now_good : EachMoment (GoodAt i) is_now
  now_good =
      let k = q.known.cored i inside in
      good_turn start was i (counts_at s.world h.sound.stands) q.more.contents (buffered HasBase start was i k.ready (initiator_at s.world i) k.cored (q.more.holds i inside) (grown.buffer was_beside)) is_now on hands (grown.good was_beside)

  pub now_based : EachMoment (BasedAt i) is_now
  now_based = based_of i is_now (q_now.more.granted i now_inside) now_good

  pub now_ours : EachMoment (OursAt start i) is_now
  now_ours =
      let k = q.known.cored i inside in
      ours_turn start was i (counts_at s.world h.sound.stands) q.more.contents (buffered (λ response. OwnBy start was i response.login) start was i k.ready (initiator_at s.world i) k.cored (q.more.holds i inside) (grown.named was_beside)) is_now on hands (grown.ours was_beside)

  pub now_owned : EachMoment (OwnedAt start i) is_now
  now_owned = owned_of start i is_now (q_now.more.granted i now_inside) now_ours

  pub now_unbad : EachMoment (NoBadAt i) is_now
  now_unbad =
      let k = q.known.cored i inside in
      unbad_turn start was i (counts_at s.world h.sound.stands) q.more.contents (leaves_well start was i k.ready (initiator_at s.world i) k.cored (grown.logout was_beside)) is_now on hands (grown.unbad was_beside)
