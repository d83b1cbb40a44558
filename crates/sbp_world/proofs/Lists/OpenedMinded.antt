-- What is known of the management of an initiator that injected no packets, at each place of a run in which none did, or few logins were given: what is decided for its operation is the ORB in
-- the place of that, its node has one live login, an operation that ends lists has no response, and each status block that waits is one that the target tells.
use Rattle.sbp_world.proofs.Words.Std.{◌≡◌, ◌∙◌, ◌⊎◌, inl, inr, refl, sym, ap, subst, ℕ, suc, ◌<◌, true, false, List, ◌∷◌, ◌++◌, map, length, Some}
use Rattle.sbp_world.proofs.Words.Wire.{LabelParts, Packet, judging_step, of_response, Sent, found_sent, Moment, asked, said, terms}
use Rattle.sbp_world.proofs.Words.Target.{Operation, decide, Disk, answer_in}
use Rattle.sbp_world.proofs.Words.Initiator.{start_of, Payload}
use Rattle.sbp_world.proofs.Words.Laws.{cuts_list, Underway, host_at, is_management, id_for, Decided, decided_by}
use Rattle.sbp_world.proofs.Words.World.{history_of, ready_logins, after, beginning, after_all, WorldState, begun, initiator_at, more_deliveries, is_written, AreAsked, IsKept, HasGivenUp, HasOne, IsLive, LiveLaw, IsCalm, view, IsSilent}
use Rattle.bus_memory.specs.declared.window.Window.TheVariants as windows
use Rattle.sbp_target.specs.declared.purpose.Purpose.TheVariants as purposes
use Rattle.sbp_world.proofs.Wire.Starts.{laws_of}
use Rattle.sbp_world.proofs.Agents.Management.Holding.{Holding}
use Rattle.sbp_world.proofs.Agents.Management.Still.{hist}
use Rattle.sbp_world.proofs.Hosts.Runs.{count_after, count_between}
use Rattle.sbp_world.proofs.Lists.ContentAsked.{contents_law}
use Rattle.sbp_world.proofs.Lists.Courses.{EveryPlace, more_than_one}
use Rattle.sbp_world.proofs.Lists.KeptBrings.{brings}
use Rattle.sbp_world.proofs.Lists.KeptRuns.{AreKeptAt, kept_everywhere}
use Rattle.sbp_world.proofs.Lists.KeptTurns.{id_is, operation_is, own_is, zero_is}
use Rattle.sbp_world.proofs.Lists.LiveGiven.{LawsAt}
use Rattle.sbp_world.proofs.Lists.LiveReplies.{IsDecidedOn}
use Rattle.sbp_world.proofs.Lists.LiveSteps.{id_in, own_of, zero_of}
use Rattle.sbp_world.proofs.Lists.ManageKnown.{RestGot}
use Rattle.sbp_world.proofs.Lists.ManageProved.{rest_places_law}
use Rattle.sbp_world.proofs.Lists.OpenProved.{facts_at, were_after}
use Rattle.sbp_world.proofs.Lists.OpenedEndings.{Manages}
use Rattle.sbp_world.proofs.Lists.OpenedOrbs.{EndsLists, place_ends}
use Rattle.sbp_world.proofs.Lists.OpenedPlaces.{IsMinded, MindedLaw}
use Rattle.sbp_world.proofs.Lists.OpenedSends.{Tells}
use Rattle.sbp_world.proofs.Lists.SilenceRuns.{AreSilentAt, silent_everywhere}
use Rattle.sbp_world.proofs.Common.{untrue}

-- ---- at a place of a history
pub record IsPut (start : List Disk) (ms : List Moment) (w : WorldState) (i : ℕ) : Type 0 where
  pub calm : IsCalm ms i
  pub laws : LawsAt start ms w
  pub kept : IsKept start ms i
  pub silent : IsSilent start ms i
  pub live : (terms ms).generation 0 ≡ (terms ms).generation (suc i) → HasGivenUp ms i ⊎ IsLive w.target.logins.places (id_for (terms ms) 0 (suc i)) (initiator_at w i).seat
  pub got : (serial : ℕ) → RestGot start ms i serial
  pub contents : AreAsked start ms

module _ (units logins : ℕ) (has : 0 < units) (start : List Disk) {past : List Moment} {lines : ℕ} (w : WorldState) (h : Holding units logins start past lines w) (i : ℕ) (inside : i < length w.initiators) (put : IsPut start (hist past w) w i) where
  abbrev H : List Moment
  H = hist past w

  abbrev laws : LawsAt start H w
  laws = put.laws

  together : (terms H).generation 0 ≡ (terms H).generation (suc i) → zero_of w ≡ own_of w i
  together same = sym (zero_is units logins has start w h i inside) ∙ (same ∙ own_is units logins has start w h i inside)

  ends : (terms H).generation 0 ≡ (terms H).generation (suc i) → (serial : ℕ) (sent : Sent) → found_sent serial w.store.kept ≡ Some sent → sent.to ≡ 0 → (p : Packet) (label : LabelParts) → (judging_step w.target.layer sent.generation sent.bytes).0 ≡ of_response p label (Some purposes.Management) → (was : Operation) (on : Decided) (bytes : List ℕ) → w.target.manager.operation ≡ Some was → decided_by (Some was) (answer_in p) ≡ Some on → answer_in p ≡ Payload bytes → is_written was.phase ≡ false → on.source ≡ was.source → was.source ≡ id_in w i → (underway : Underway) → (host_at H i).operation ≡ Some underway → is_management underway.operation ≡ true → cuts_list (Some underway.operation) ≡ true → was.orb ≡ start_of (windows.Management underway.place) → EndsLists on.orb
  ends same serial sent found zero_to p label e was on bytes is brought pays unwritten on_source source underway there manages cuts orb =
      let left = (decide on.orb on.source on.eui w.target.logins w.target.keys).1 in
      let d : IsDecidedOn w.target.manager w.target.logins w.target.keys (answer_in p) (decide on.orb on.source on.eui w.target.logins w.target.keys).1 = record {
        was = was;
        is = is;
        unwritten = unwritten;
        on = on;
        brought = ap (λ o. decided_by o (answer_in p)) is ∙ brought;
        source_is = on_source;
        left_is = refl;
        bytes = bytes;
        pays = pays;
      } in
      let is_orb = brings units logins has start w h i inside put.calm (laws.none i inside) (laws.in_place i inside put.calm) put.kept (together same) serial sent found zero_to p label e left d source underway there manages orb in
      subst EndsLists (sym is_orb) (place_ends H i underway (laws.underway i inside underway there) manages cuts (laws.short i inside underway there))

  one_by : (underway : Underway) → (host_at H i).operation ≡ Some underway → is_management underway.operation ≡ true → HasGivenUp H i ⊎ IsLive w.target.logins.places (id_for (terms H) 0 (suc i)) (initiator_at w i).seat → HasOne w.target.logins.places (id_in w i)
  one_by underway there manages (inl up) = untrue (sym (up.none underway there) ∙ manages)
  one_by underway there manages (inr l) = subst (λ n. HasOne w.target.logins.places n) (id_is units logins has start w h i inside) l.one

  mine : Manages (view H i) w i
  mine = record {
    decides = ends;
    one = λ same underway there manages. one_by underway there manages (put.live same);
    answers = λ same was fifo is phase source underway there manages cuts orb.
        put.silent.none was fifo underway (operation_is units logins has start w h i inside ∙ is) phase (source ∙ sym (id_is units logins has start w h i inside)) same there manages cuts orb;
  }

  tells : Tells start H i
  tells = record {
    managed = laws.managed i inside put.calm;
    told = put.got;
    small = λ underway there. (laws.underway i inside underway there).small;
    contents = put.contents;
    serials = (laws_of past w h.sound.stands).serials;
  }

  pub minded : IsMinded start H w i
  minded = record { mine = mine; tells = tells }

-- ---- at the places of a run
module _ (units logins : ℕ) (has : 0 < units) (start : List Disk) (ms : List Moment) {past : List Moment} {lines : ℕ} (w : WorldState) (h : Holding units logins start past lines w) (is : hist past w ≡ ms) (i : ℕ) (inside : i < length w.initiators) (put : IsPut start ms w i) where
  pub minded_at : IsMinded start ms w i
  minded_at = subst (λ ns. IsMinded start ns w i) is (minded units logins has start w h i inside (subst (λ ns. IsPut start ns w i) (sym is) put))

module _ (laws : EveryPlace LawsAt) (live : LiveLaw) where
  kept : EveryPlace AreKeptAt
  kept = kept_everywhere laws

  silent : EveryPlace AreSilentAt
  silent = silent_everywhere laws

  pub minded_law : MindedLaw
  minded_law = record {
    after_lines = λ line run r units small size so_far i b beside.
        let past = history_of line run in
        let w = (after (beginning run) run.entries).world in
        let inside : i < length (after (beginning run) run.entries).world.initiators = subst (λ n. i < n) (sym (count_after run run.entries)) b in
        let calm = beside.0 in
        let k = were_after line run r.few units small size run.entries r.short r.entries r.lines in
        minded_at run.units (ready_logins run.initiators run.ready) units run.start.disks past w k.holds k.is i inside
        (record {
          calm = calm;
          laws = laws.after_lines line run r units small size so_far;
          kept = kept.after_lines line run r units small size so_far i inside calm;
          silent = silent.after_lines line run r units small size so_far i inside calm;
          live = λ same. (live.after_lines line run r units small size so_far).live i inside beside same;
          got = rest_places_law.after_lines line run r units small size so_far i b calm;
          contents = contents_law.after_lines line run r units small size;
        });
    between = λ line run r units small size next most told m so_far i b beside.
        let last = after (beginning run) run.entries in
        let event = more_deliveries most in
        let w = (after_all told (begun (after (beginning run) run.entries))).world in
        let now = map said w.fresh ++ asked next event ∷ history_of line run in
        let inside : i < length (after_all told (begun (after (beginning run) run.entries))).world.initiators = subst (λ n. i < n) (sym (count_between told (after (beginning run) run.entries) ∙ count_after run run.entries)) b in
        let calm = beside.0 in
        let k = were_after line run r.few units small size run.entries r.short r.entries r.lines in
        let f = facts_at line run r.few units small size run.entries r.short r.entries r.lines k.past (length run.entries) k.holds k.is next event (more_than_one most) told m in
        minded_at run.units (ready_logins run.initiators run.ready) units run.start.disks now w f.holds (ap (λ ms. map said w.fresh ++ asked next event ∷ ms) k.is) i inside
        (record {
          calm = calm;
          laws = laws.between line run r units small size next most told m so_far;
          kept = kept.between line run r units small size next most told m so_far i inside calm;
          silent = silent.between line run r units small size next most told m so_far i inside calm;
          live = λ same. (live.between line run r units small size next most told m so_far).live i inside beside same;
          got = rest_places_law.between line run r units small size next most told m so_far i b calm;
          contents = contents_law.between line run r units small size next event (more_than_one most) told m;
        });
  }
