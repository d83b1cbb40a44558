-- The logins of initiators that injected no packets are on units that `login` lines asked for, in every run in which none injected packets, or few logins were given.
use Rattle.sbp_world.proofs.Words.Std.{arith, ◌≡◌, ◌∙◌, inl, inr, sym, ap, ℕ, suc, ◌+◌, ◌<◌, true, List, length, Some}
use Rattle.sbp_world.proofs.Words.Wire.{Holder, or_nobody, Moment, terms}
use Rattle.sbp_world.proofs.Words.Target.{Login, is_live, Disk, login_at}
use Rattle.sbp_world.proofs.Words.Laws.{id_for, EachMoment}
use Rattle.sbp_world.proofs.Words.World.{history_of, after, beginning, after_all, holder, WorldState, begun, AreHeldAt, more_deliveries, IsCalmBeside, IsTameOf, AreOwnIds, OwnedAt, BasedAt, AreShort}
use Rattle.sbp_world.specs.Lists.LoginUnits.{AreOnUnits, LoginUnitsLaw, is_asked_unit}
use Rattle.sbp_world.proofs.Agents.Holders.{holders_between_law, holders_law}
use Rattle.sbp_world.proofs.Lists.OwnNodes.{ids_everywhere}
use Rattle.sbp_world.proofs.Lists.BufferClears.{buffers_held}
use Rattle.sbp_world.proofs.Lists.Clauses.{open_lists_law}
use Rattle.sbp_world.proofs.Lists.Courses.{EveryPlace, more_than_one}
use Rattle.sbp_world.proofs.Lists.IdsReturns.{owned_ids_everywhere}
use Rattle.sbp_world.proofs.Lists.ListsProved.{closing}
use Rattle.sbp_world.proofs.Lists.LiveBuffered.{buffer_turns}
use Rattle.sbp_world.proofs.Lists.LiveGiven.{shorts_everywhere}
use Rattle.sbp_world.proofs.Lists.LiveGranted.{grown_by}
use Rattle.sbp_world.proofs.Lists.LiveJoined.{Held, helped}
use Rattle.sbp_world.proofs.Lists.LiveLogins.{laws, stored}
use Rattle.sbp_world.proofs.Lists.LivePlaced.{placed_turns}
use Rattle.sbp_world.proofs.Lists.LiveProved.{held_everywhere}
use Rattle.sbp_world.proofs.Lists.LiveRuns.{all_after, all_between}
use Rattle.sbp_world.proofs.Lists.LiveSteps.{id_in}
use Rattle.sbp_world.proofs.Lists.ShortLines.{short_law}
use Rattle.sbp_world.proofs.Lists.StoredTurns.{stored_turns}
use Rattle.sbp_world.proofs.Lists.UnitRuns.{AllAskedAt, OwnUnitsAt, all_asked_everywhere, own_units_everywhere}

-- ---- the logins that were done
-- each had the base of the agent of a place, and was of an ID of the initiator
pub record AreDone (start : List Disk) (past : List Moment) (i : ℕ) : Type 0 where
  pub based : EachMoment (BasedAt i) past
  pub owned : EachMoment (OwnedAt start i) past

held : EveryPlace Held
held = held_everywhere (laws short_law) (buffers_held short_law) (stored short_law)

done_everywhere : EveryPlace (λ start past w. (i : ℕ) → i < length w.initiators → IsCalmBeside past i → AreDone start past i)
done_everywhere = record {
  after_lines = λ line run r has small size so_far i l beside.
      let grown = (all_after Held held (helped placed_turns) (grown_by placed_turns stored_turns buffer_turns) line run r has small size so_far i l).grown in
      record { based = grown.based beside; owned = grown.owned beside };
  between = λ line run r has small size next most told m so_far i l beside.
      let grown = (all_between Held held (helped placed_turns) (grown_by placed_turns stored_turns buffer_turns) line run r has small size next most told m so_far i l).grown in
      record { based = grown.based beside; owned = grown.owned beside };
}

-- ---- by what is known of a place
abbrev pub AreOwnIdsAt : List Disk → List Moment → WorldState → Type 0
AreOwnIdsAt start past w = (i : ℕ) → i < length w.initiators → IsTameOf past i → AreShort past → EachMoment (BasedAt i) past → EachMoment (OwnedAt start i) past → AreOwnIds start past i (id_in w i) w.target.logins

pub record Facts (start : List Disk) (past : List Moment) (w : WorldState) : Type 0 where
  pub shorts : AreShort past
  pub done : (i : ℕ) → i < length w.initiators → IsCalmBeside past i → AreDone start past i
  pub held : AreHeldAt start past w
  pub node : (i : ℕ) → i < length w.initiators → id_for (terms past) 0 (suc i) ≡ id_in w i
  pub all : AllAskedAt past w
  pub ids : AreOwnIdsAt start past w
  pub units : OwnUnitsAt start past w

module _ (start : List Disk) (past : List Moment) (w : WorldState) (f : Facts start past w) where
  own_units : (i : ℕ) → i < length w.initiators → IsTameOf past i → (place : ℕ) (login : Login) → login_at w.target place ≡ Some login → is_live login ≡ true → (holder w place).initiator ≡ i → is_asked_unit past i login.unit ≡ true
  own_units i inside tame place login e live mine =
      let d = f.done i inside (tame.0, inr tame.1) in
      let k = f.held.held place login e in
      let same : k.holder.initiator ≡ i = ap (λ (h : Holder). h.initiator) (sym (ap or_nobody k.there)) ∙ mine in
      let next : i + 1 ≡ suc i = omega arith in
      let node : login.node ≡ id_in w i = sym (k.live live).of.node_is ∙ (ap (λ n. id_for (terms past) 0 (n + 1)) same ∙ (ap (λ n. id_for (terms past) 0 n) next ∙ f.node i inside)) in
      f.units i inside tame f.shorts d.based d.owned place login e ((f.ids i inside tame f.shorts d.based d.owned).own place login e live node)

  pub on_units : AreOnUnits past w
  on_units = record {
    all = λ tame some place login e. f.all tame f.shorts (λ i l. (f.done i l (tame i, inl tame)).based) some place login e;
    own = own_units;
  }

pub facts_everywhere : EveryPlace Facts
facts_everywhere =
    let short = shorts_everywhere short_law in
    record {
      after_lines = λ line run r has small size so_far. record {
        shorts = short.after_lines line run r has small size so_far;
        done = done_everywhere.after_lines line run r has small size so_far;
        held = holders_law line run r.few has small size r.short r.entries r.lines;
        node = ids_everywhere.after_lines line run r has small size so_far;
        all = all_asked_everywhere.after_lines line run r has small size so_far;
        ids = owned_ids_everywhere.after_lines line run r has small size so_far;
        units = own_units_everywhere.after_lines line run r has small size so_far;
      };
      between = λ line run r has small size next most told m so_far. record {
        shorts = short.between line run r has small size next most told m so_far;
        done = done_everywhere.between line run r has small size next most told m so_far;
        held = holders_between_law line run r.few has small size r.short r.entries r.lines next (more_deliveries most) (more_than_one most) told m;
        node = ids_everywhere.between line run r has small size next most told m so_far;
        all = all_asked_everywhere.between line run r has small size next most told m so_far;
        ids = owned_ids_everywhere.between line run r has small size next most told m so_far;
        units = own_units_everywhere.between line run r has small size next most told m so_far;
      };
    }

pub login_units_law : LoginUnitsLaw
login_units_law = record {
  after_lines = λ line run r has small size tame.
      on_units run.start.disks (history_of line run) (after (beginning run) run.entries).world (facts_everywhere.after_lines line run r has small size (closing.before open_lists_law line run r has small size tame));
  between = λ line run r has small size next most told m tame.
      on_units run.start.disks _ (after_all told (begun (after (beginning run) run.entries))).world (facts_everywhere.between line run r has small size next most told m (closing.between open_lists_law line run r has small size next (more_deliveries most) (more_than_one most) told m tame));
}
