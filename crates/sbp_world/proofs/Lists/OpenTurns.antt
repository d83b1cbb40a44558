-- What a turn of the target leaves of the places whose lists are open: each was open before, and who has it is the same; or the turn is that of a
-- write of ORB_POINTER, which opens the list of one place.
use Rattle.sbp_world.proofs.Words.Std.{◌≡◌, inl, ◌∙◌, refl, sym, ap, subst, ◌<◌, ◌≤◌, ℕ, nat_eq, nat_lt, not, Bool, true, false, List, length, Option, Some, None, arith, nat_tests, length-set, false≢true}
use Rattle.sbp_world.proofs.Words.Wire.{LabelParts, Layer, Holder, or_nobody, empty_outbox}
use Rattle.sbp_world.proofs.Words.Target.{Login, IsSound, is_live, place_at, Phase, Which, Ahead, Main, Machine, is_ahead, is_sent, state_in, doorbell_step, is_reset, Desk, Purpose, is_that, new_desk, which_in, NodeState, Scene, desk_at, login_at, scene, with_desk}
use Rattle.sbp_world.proofs.Words.Initiator.{Nothing}
use Rattle.sbp_world.proofs.Words.World.{holder, told_all, WorldState, has_list}
use Rattle.command_agent.specs.declared.phase.Phase.TheVariants as phases
use Rattle.sbp_target.proofs.Histories.Calling.{Good, not_eight}
use Rattle.sbp_target.proofs.Histories.Following.{IsServed}
use Rattle.sbp_target.proofs.Histories.Stepped.{is_bare}
use Rattle.sbp_world.proofs.Agents.AskedLate.{ahead_of, main_of}
use Rattle.sbp_world.proofs.Lists.SameAgents.{set_there}
use Rattle.sbp_world.proofs.Lists.OpenCuts.{Here, Listing, is_up, Open, OwnsLogin}
use Rattle.sbp_world.proofs.Lists.OpenFollows.{Beside}
use Rattle.sbp_world.proofs.Lists.OpenPlaces.{Has}
use Rattle.sbp_world.proofs.Lists.StatusCalls.{none_beyond}
use Rattle.sbp_world.proofs.Lists.StatusLosses.{sent_has}
use Rattle.sbp_world.proofs.Hosts.Cores.{not_so}

-- ---- an agent that has a list open is not in RESET
pub listing_up : (phase : Phase) → has_list phase ≡ true → not (is_reset (state_in phase)) ≡ true
listing_up phases.Reset e = absurd (false≢true e)
listing_up phases.Dead e = refl
listing_up phases.Fetching e = refl
listing_up phases.ReadingTable e = refl
listing_up (phases.ReadingData wanted) e = refl
listing_up phases.Answering e = refl
listing_up phases.WritingStatus e = refl
listing_up phases.WritingLastStatus e = refl
listing_up phases.ReadingNext e = refl
listing_up phases.Suspended e = refl

-- one that waits for something has a list open
pub ahead_lists : (phase : Phase) (x : Bool) → (is_bare phase ≡ true → x ≡ false) → x ≡ true → has_list phase ≡ true
ahead_lists phases.Reset x f e = absurd (false≢true (sym (f refl) ∙ e))
ahead_lists phases.Dead x f e = absurd (false≢true (sym (f refl) ∙ e))
ahead_lists _ x f e = refl

-- a doorbell that nobody hears
pub silent_by : (phase : Phase) (m : Machine) → not (is_reset (state_in phase)) ≡ false → doorbell_step (record m { phase = phase }) ≡ (Nothing, record m { phase = phase })
unfolding doorbell_step
silent_by phases.Reset m e = refl
silent_by phases.Dead m e = absurd (false≢true (sym e))
silent_by phases.Fetching m e = absurd (false≢true (sym e))
silent_by phases.ReadingTable m e = absurd (false≢true (sym e))
silent_by (phases.ReadingData wanted) m e = absurd (false≢true (sym e))
silent_by phases.Answering m e = absurd (false≢true (sym e))
silent_by phases.WritingStatus m e = absurd (false≢true (sym e))
silent_by phases.WritingLastStatus m e = absurd (false≢true (sym e))
silent_by phases.ReadingNext m e = absurd (false≢true (sym e))
silent_by phases.Suspended m e = absurd (false≢true (sym e))

-- ---- who has a place with a live login
-- who has the place of a login has its ID
pub record IsSeated (w : WorldState) (p : ℕ) (login : Login) : Type 0 where
  pub holder_is : Holder
  pub there : Has w.places p holder_is
  pub id_is : holder_is.login ≡ login.login

abbrev pub AreSeated : WorldState → Type 0
AreSeated w = (p : ℕ) (login : Login) → login_at w.target p ≡ Some login → IsSeated w p login

pub record HasSeat (w : WorldState) (p : ℕ) : Type 0 where
  pub there : Has w.places p (holder w p)
  pub login : Login
  pub is : place_at w.target.logins.places p ≡ Some login
  pub live : is_live login ≡ true
  pub id_is : (holder w p).login ≡ login.login

module _ (w : WorldState) (g : Good w.target) (seats : AreSeated w) where
  pub served_seat : (p : ℕ) → IsServed w.target p → HasSeat w p
  served_seat p s =
      let k = seats p s.login s.is in
      let is : holder w p ≡ k.holder_is = ap or_nobody k.there in
      record { there = k.there ∙ ap Some (sym is); login = s.login; is = s.is; live = s.live; id_is = ap (λ (x : Holder). x.login) is ∙ k.id_is }

  pub listing_seat : (p : ℕ) → p < 8 → Listing w.target p → HasSeat w p
  listing_seat p b l = served_seat p (g.mid.served p b (not_eight p b) (not_so (is_reset (state_in (Here w.target p).phase)) l))

  pub waits_place : (place peer : ℕ) (label : LabelParts) (which : Which) → which_in (desk_at w.target place) peer label ≡ Some which → place < 8
  waits_place place peer label which e = by (nat_lt place 8) refl
    where
      by : (b : Bool) → nat_lt place 8 ≡ b → place < 8
      by true f = grind (arith, nat_tests)
      by false f =
          let size = g.mid.size in
          let far : 8 ≤ place = grind (arith, nat_tests) in
          let none : desk_at w.target place ≡ new_desk = none_beyond w.target.desks place (omega arith) in
          absurd (differ (sym (ap (λ (d : Desk). which_in d peer label) none) ∙ e))
        where
          differ : None ≡ Some which → ⊥
          differ g = cc

  pub waits_lists : (place : ℕ) → place < 8 → (peer : ℕ) (label : LabelParts) (which : Which) → which_in (desk_at w.target place) peer label ≡ Some which → Listing w.target place
  waits_lists place b peer label Main e =
      let d = desk_at w.target place in
      listing_up d.agent.phase (sent_has d.agent.phase (main_of (is_that d.main peer label) (is_sent d.agent.phase) (is_that d.ahead peer label) (is_ahead d.agent.ahead) e))
  waits_lists place b peer label Ahead e =
      let d = desk_at w.target place in
      listing_up d.agent.phase (
      ahead_lists d.agent.phase (is_ahead d.agent.ahead) (g.mid.fits place b (not_eight place b)).agent.bare
      (ahead_of (is_that d.main peer label) (is_sent d.agent.phase) (is_that d.ahead peer label) (is_ahead d.agent.ahead) e))

  abbrev pub sound : IsSound w.target.logins.places
  sound = g.table.sound

  abbrev pub Before : ℕ → Type 0
  Before p = Listing w.target p

  -- ---- a call begins
  module _ (u : WorldState) (same : u.places ≡ w.places) (layer : Layer Purpose) where
    abbrev pub node : NodeState
    node = record w.target { layer = layer }

    abbrev pub here : Scene
    here = scene node empty_outbox

    abbrev pub K : Scene → Type 0
    K s = Open u (holder w) Before w.target.logins.places sound s

    pub there_at : (p : ℕ) → HasSeat w p → Has u.places p (holder w p)
    there_at p h = subst (λ (places : List (Option Holder)). Has places p (holder w p)) (sym same) h.there

    pub own_at : (p : ℕ) → HasSeat w p → Listing w.target p → OwnsLogin (Before p) w.target.logins.places (holder w p) p
    own_at p h l = record { login = h.login; is = h.is; live = h.live; id_is = h.id_is; why = l }

    pub begins : K here
    unfolding told_all
    begins = record {
      cuts = λ ms i n e. inl e;
      desks = g.mid.size;
      kept = λ p b l. there_at p (listing_seat p b l);
      own = λ p b l. own_at p (listing_seat p b l) l;
    }

    -- ---- what follows a step of one agent
    module _ (q : ℕ) (b : q < 8) where
      abbrev pub Q : Scene → Type 0
      Q s = Beside u u.places q (Here w.target) b s

      pub inside : q < length w.target.desks
      inside = let e = g.mid.size in omega (arith, e)

      pub other_set : (d : Desk) (p : ℕ) → (p ≡ q → ⊥) → Here (with_desk node q d) p ≡ Here w.target p
      other_set d p f = ap (λ (x : Desk). x.agent) (set_there node q p d inside f)

      pub first_beside : (d : Desk) → Q (scene (with_desk node q d) empty_outbox)
      unfolding told_all
      first_beside d = record { is = record { is = refl; cuts = λ ms i n. refl }; desks = length-set w.target.desks q d ∙ g.mid.size; same = other_set d }

      -- the agent had a list open
      pub of_beside : Listing w.target q → (s : Scene) → Q s → K s
      of_beside l s k =
          let h = listing_seat q b l in
          record {
            cuts = λ ms i n e. inl (sym (k.is.cuts ms i n) ∙ e);
            desks = k.desks;
            kept = λ p c e. kept_at p c (nat_eq p q) refl e;
            own = λ p c e. own_for p c (nat_eq p q) refl e;
          }
        where
          before : (p : ℕ) → nat_eq p q ≡ false → Listing s.node p → Listing w.target p
          before p x e =
              let f : p ≡ q → ⊥ = λ one. false≢true (sym x ∙ (let y : nat_eq p q ≡ true = grind (arith, nat_tests) in y)) in
              sym (ap (λ (m : Machine). is_up m) (k.same p f)) ∙ e

          kept_at : (p : ℕ) → p < 8 → (x : Bool) → nat_eq p q ≡ x → Listing s.node p → Has (told_all 0 s.outbox.sides u).places p (holder w p)
          kept_at p c true x e =
              let one : q ≡ p = grind (arith, nat_tests) in
              subst (λ (places : List (Option Holder)). Has places p (holder w p)) (sym k.is.is) (subst (λ j. Has u.places j (holder w j)) one (there_at q (listing_seat q b l)))
          kept_at p c false x e =
              subst (λ (places : List (Option Holder)). Has places p (holder w p)) (sym k.is.is) (there_at p (listing_seat p c (before p x e)))

          own_for : (p : ℕ) → p < 8 → (x : Bool) → nat_eq p q ≡ x → Listing s.node p → OwnsLogin (Before p) w.target.logins.places (holder w p) p
          own_for p c true x e =
              let one : q ≡ p = grind (arith, nat_tests) in
              subst (λ j. OwnsLogin (Before j) w.target.logins.places (holder w j) j) one (own_at q (listing_seat q b l) l)
          own_for p c false x e = let o = before p x e in own_at p (listing_seat p c o) o
