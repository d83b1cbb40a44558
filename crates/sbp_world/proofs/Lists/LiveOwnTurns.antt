-- What a turn of an initiator leaves of what is known of its node by where its session stands.
use Rattle.sbp_world.proofs.Words.Std.{◌≡◌, ◌∙◌, refl, sym, ap, subst, ◌⊎◌, inl, inr, ℕ, Bool, true, false, List, Option, Some, None}
use Rattle.sbp_world.proofs.Words.Wire.{Operation}
use Rattle.sbp_world.proofs.Words.Target.{Login, Managed}
use Rattle.sbp_world.proofs.Words.Initiator.{LoginResponse, login_response, Running, InitiatorState, moves_session, response_of, Seat, is_stuck_seat}
use Rattle.sbp_world.proofs.Words.World.{operation_by, session_in, work_in, HasLogin, HasNone}
use Rattle.sbp_world.proofs.Hosts.Knowing.{Sits}
use Rattle.mgmt_agent.specs.Machine.{Machine}
use Rattle.sbp_journal.specs.declared.operation.Operation.TheVariants as operations
use Rattle.sbp_session.specs.declared.seat.Seat.TheVariants as seats
use Rattle.sbp_world.proofs.Lists.LiveActs.{Acted, IsReset, Sends, begins, comes_back, goes_out, idle, logs_in, moves}
use Rattle.sbp_world.proofs.Lists.LiveMoves.{IsLike, Moved, answers, ends, gives_up, rests, undoes}
use Rattle.sbp_world.proofs.Lists.LiveOwn.{Came, Fit, GaveUp, Undid, came, enters_moves, granted_back, granted_in, in_again, in_hand, is_entry, is_exit, moves_managed, not_up, out_again, quits_moves, refused_in, still_stuck, stuck_still, two_ways, undid, up_like, went_out}
use Rattle.sbp_world.proofs.Lists.LiveStandings.{Claims, Stand, apart, apart_comes, apart_leaves, claims_apart, claims_comes, claims_inside, claims_kept, claims_leaves, claims_quiet, comes, good_block, inside, inside_comes, inside_leaves, leaves, leaves_comes, comes_leaves, stand_of}

-- an operation that moves the session is management, and in hand
moving_hand : {A : Type 0} (operation : Option Running) (seat : Seat) (running : Running) → operation ≡ Some running → moves_session running.operation ≡ true → GaveUp operation seat → A
moving_hand operation seat running is m g = two_ways (in_hand operation) (ap in_hand is ∙ moves_managed running.operation m) g.none

-- ---- the session is on its way by its operation alone
module _ (s : InitiatorState) (fit : Fit s.operation s.seat) where
  like_fit : (operation : Option Running) (seat : Seat) → operation ≡ s.operation → IsLike s.seat seat → Fit operation seat
  like_fit operation seat e l = record { coming = λ f. coming_by (fit.coming (sym l.stand ∙ f)); going = λ number f. going_by (fit.going number (sym l.stand ∙ f)) }
    where
      coming_by : (is_entry s.operation ≡ true) ⊎ GaveUp s.operation s.seat → (is_entry operation ≡ true) ⊎ GaveUp operation seat
      coming_by (inl x) = inl (ap is_entry e ∙ x)
      coming_by (inr g) = inr (up_like s.operation operation s.seat seat e l g)

      going_by : (is_exit s.operation ≡ true) ⊎ GaveUp s.operation s.seat → (is_exit operation ≡ true) ⊎ GaveUp operation seat
      going_by (inl x) = inl (ap is_exit e ∙ x)
      going_by (inr g) = inr (up_like s.operation operation s.seat seat e l g)

  given_up : (operation : Option Running) (seat : Seat) → operation ≡ None → is_stuck_seat seat ≡ true → GaveUp operation seat
  given_up operation seat e stuck = record { stuck = stuck; none = ap in_hand e }

  -- a session that stands otherwise
  stands_fit : (operation : Option Running) (seat : Seat) → (stand_of seat ≡ comes → ⊥) → ((number : ℕ) → stand_of seat ≡ leaves number → ⊥) → Fit operation seat
  stands_fit operation seat in_comes in_leaves = record { coming = λ e. absurd (in_comes e); going = λ number e. absurd (in_leaves number e) }

  apart_fit : (operation : Option Running) (seat : Seat) → stand_of seat ≡ apart → Fit operation seat
  apart_fit operation seat e = stands_fit operation seat (λ f. apart_comes (sym e ∙ f)) (λ number f. apart_leaves number (sym e ∙ f))

  inside_fit : (operation : Option Running) (seat : Seat) (own : ℕ) → stand_of seat ≡ inside own → Fit operation seat
  inside_fit operation seat own e = stands_fit operation seat (λ f. inside_comes own (sym e ∙ f)) (λ number f. inside_leaves own number (sym e ∙ f))

  up_fit : (operation : Option Running) (seat : Seat) → GaveUp operation seat → Fit operation seat
  up_fit operation seat g = record { coming = λ e. inr g; going = λ number e. inr g }

  -- it is not on its way where an operation is under way that moves no session, or none, and it is not stuck
  not_comes : is_stuck_seat s.seat ≡ false → is_entry s.operation ≡ false → stand_of s.seat ≡ comes → ⊥
  not_comes free n e = by (fit.coming e)
    where
      by : (is_entry s.operation ≡ true) ⊎ GaveUp s.operation s.seat → ⊥
      by (inl x) = two_ways (is_entry s.operation) x n
      by (inr g) = not_up s.operation s.seat free g

  not_leaves : is_stuck_seat s.seat ≡ false → is_exit s.operation ≡ false → (number : ℕ) → stand_of s.seat ≡ leaves number → ⊥
  not_leaves free n number e = by (fit.going number e)
    where
      by : (is_exit s.operation ≡ true) ⊎ GaveUp s.operation s.seat → ⊥
      by (inl x) = two_ways (is_exit s.operation) x n
      by (inr g) = not_up s.operation s.seat free g

  entry_of : (running : Running) → s.operation ≡ Some running → moves_session running.operation ≡ false → is_entry s.operation ≡ false
  entry_of running is m = by (is_entry s.operation) refl
    where
      by : (b : Bool) → is_entry s.operation ≡ b → is_entry s.operation ≡ false
      by false e = e
      by true e = two_ways (moves_session running.operation) (enters_moves running.operation (sym (ap is_entry is) ∙ e)) m

  exit_of : (running : Running) → s.operation ≡ Some running → moves_session running.operation ≡ false → is_exit s.operation ≡ false
  exit_of running is m = by (is_exit s.operation) refl
    where
      by : (b : Bool) → is_exit s.operation ≡ b → is_exit s.operation ≡ false
      by false e = e
      by true e = two_ways (moves_session running.operation) (quits_moves running.operation (sym (ap is_exit is) ∙ e)) m

  sits_on : (running : Running) → s.operation ≡ Some running → Sits (operation_by (work_in s.operation)) (session_in s.seat) → Sits (Some running.operation) (session_in s.seat)
  sits_on running is sits = subst (λ (x : Option Running). Sits (operation_by (work_in x)) (session_in s.seat)) is sits

  module _ (sits : Sits (operation_by (work_in s.operation)) (session_in s.seat)) (Answered : Running → ℕ → Type 0) (Undone : Running → Type 0) where
    came_fit : {operation : Operation} {status : ℕ} {response : List ℕ} (now : Option Running) (seat : Seat) → now ≡ None → Came operation status response s.seat seat → Fit now seat
    came_fit now seat e (still_stuck z) = up_fit now seat (given_up now seat e z)
    came_fit {operation} {status} {response} now seat e (granted_in a b c d) = inside_fit now seat (login_response response).login d
    came_fit now seat e (granted_back own a b c d) = inside_fit now seat own.login d
    came_fit now seat e (refused_in a b c) = apart_fit now seat c
    came_fit now seat e (went_out number a b) = apart_fit now seat b

    undid_fit : (now : Option Running) (seat : Seat) → now ≡ None → Undid s.seat seat → Fit now seat
    undid_fit now seat e (stuck_still z) = up_fit now seat (given_up now seat e z)
    undid_fit now seat e (out_again a b) = apart_fit now seat b
    undid_fit now seat e (in_again number a b) = inside_fit now seat number b

    ended_fit : (b : Bool) → is_stuck_seat s.seat ≡ b → (running : Running) → s.operation ≡ Some running → moves_session running.operation ≡ false → (operation : Option Running) (seat : Seat) → operation ≡ None → seat ≡ s.seat → Fit operation seat
    ended_fit true f running is m operation seat e same = up_fit operation seat (given_up operation seat e (ap is_stuck_seat same ∙ f))
    ended_fit false f running is m operation seat e same =
        stands_fit operation seat (λ x. not_comes f (entry_of running is m) (sym (ap stand_of same) ∙ x)) (λ number x. not_leaves f (exit_of running is m) number (sym (ap stand_of same) ∙ x))

    pub moved_fit : (operation : Option Running) (seat : Seat) → Moved s Answered Undone operation seat → Fit operation seat
    moved_fit operation seat (rests e l) = like_fit operation seat e l
    moved_fit operation seat (gives_up e stuck) = up_fit operation seat (given_up operation seat e stuck)
    moved_fit operation seat (ends running is m e same) = ended_fit (is_stuck_seat s.seat) refl running is m operation seat e same
    moved_fit operation seat (answers running status is m x e same) =
        came_fit operation seat e (subst (Came running.operation status (response_of running s) s.seat) (sym same) (came status (response_of running s) running.operation s.seat m (sits_on running is sits)))
    moved_fit operation seat (undoes running is m x e same) = undid_fit operation seat e (subst (Undid s.seat) (sym same) (undid running.operation s.seat m (sits_on running is sits)))

  sends_fit : (running : Running) (operation : Option Running) (seat : Seat) → operation ≡ Some running → (kind : Operation) (before now : Stand) → running.operation ≡ kind → stand_of seat ≡ now → Sends kind before now → Fit operation seat
  sends_fit running operation seat e kind before now k at logs_in = record { coming = λ f. inl (ap is_entry e ∙ ap enters_it k); going = λ number f. comes_leaves number (sym at ∙ f) }
    where
      enters_it : Operation → Bool
      enters_it x = is_entry (Some (record running { operation = x }))
  sends_fit running operation seat e kind before now k at comes_back = record { coming = λ f. inl (ap is_entry e ∙ ap enters_it k); going = λ number f. comes_leaves number (sym at ∙ f) }
    where
      enters_it : Operation → Bool
      enters_it x = is_entry (Some (record running { operation = x }))
  sends_fit running operation seat e kind before now k at (goes_out own) = record { coming = λ f. leaves_comes own (sym at ∙ f); going = λ number f. inl (ap is_exit e ∙ ap exits_it k) }
    where
      exits_it : Operation → Bool
      exits_it x = is_exit (Some (record running { operation = x }))

  pub acted_fit : (operation : Option Running) (seat : Seat) → Acted s operation seat → Fit operation seat
  acted_fit operation seat (idle e l) = like_fit operation seat e l
  acted_fit operation seat (begins running none free e m same) =
      stands_fit operation seat (λ x. not_comes free (ap is_entry none) (sym (ap stand_of same) ∙ x)) (λ number x. not_leaves free (ap is_exit none) number (sym (ap stand_of same) ∙ x))
  acted_fit operation seat (moves running none free e stuck sends) = sends_fit running operation seat e running.operation (stand_of s.seat) (stand_of seat) refl refl sends

pub reset_fit : (operation : Option Running) (seat : Seat) → IsReset operation seat → Fit operation seat
reset_fit operation seat r = record { coming = λ e. apart_comes (sym r.out ∙ e); going = λ number e. apart_leaves number (sym r.out ∙ e) }

-- ---- what is known of the node
module _ (id : ℕ) (m : Machine) (places : List (Option Login)) (Served Active Now Acts : Type 0) (Tells Waits : ℕ → List ℕ → Type 0) where
  -- what is known of the operation under way goes on, where that is the same
  pub record Carried : Type 0 where
    pub on : Served → Now
    pub back : (op : Managed) → m.operation ≡ Some op → op.source ≡ id → Acts → Active
    pub tells : (orb : ℕ) (bytes : List ℕ) → Waits orb bytes → Tells orb bytes

  abbrev pub Before : Option Running → Seat → Type 0
  Before operation seat = GaveUp operation seat ⊎ Claims Served Active Tells (stand_of seat) id m places

  abbrev pub After : Option Running → Seat → Type 0
  After operation seat = GaveUp operation seat ⊎ Claims Now Acts Waits (stand_of seat) id m places

  as_stand : (seat : Seat) (stand : Stand) → stand_of seat ≡ stand → Claims Now Acts Waits stand id m places → Claims Now Acts Waits (stand_of seat) id m places
  as_stand seat stand e c = subst (λ x. Claims Now Acts Waits x id m places) (sym e) c

  -- the status block that ends the operation was waiting
  pub record Pending (status : ℕ) : Type 0 where
    pub orb : ℕ
    pub bytes : List ℕ
    pub tells : Tells orb bytes
    pub good : bytes ≡ good_block orb → status ≡ 0

  module _ (s : InitiatorState) (fit : Fit s.operation s.seat) where
    like_claims : (operation : Option Running) (seat : Seat) → operation ≡ s.operation → IsLike s.seat seat → Carried → Before s.operation s.seat → After operation seat
    like_claims operation seat e l k (inl g) = inl (up_like s.operation operation s.seat seat e l g)
    like_claims operation seat e l k (inr c) = inr (as_stand seat (stand_of s.seat) l.stand (claims_kept id m places Served Active Tells (stand_of s.seat) c Now Acts Waits k.on k.back k.tells))

    quiet_claims : (operation : Option Running) (seat : Seat) → is_stuck_seat s.seat ≡ false → seat ≡ s.seat → is_entry s.operation ≡ false → is_exit s.operation ≡ false → Before s.operation s.seat → After operation seat
    quiet_claims operation seat free same x y (inl g) = not_up s.operation s.seat free g
    quiet_claims operation seat free same x y (inr c) =
        inr (as_stand seat (stand_of s.seat) (ap stand_of same) (claims_quiet id m places Served Active Tells (stand_of s.seat) c Now Acts Waits (not_comes s fit free x) (λ number. not_leaves s fit free y number)))

    module _ (sits : Sits (operation_by (work_in s.operation)) (session_in s.seat)) (Answered : Running → ℕ → Type 0) (Undone : Running → Type 0)
        (pend : (running : Running) (status : ℕ) → s.operation ≡ Some running → Answered running status → Pending status)
        (grant_in : (running : Running) → s.operation ≡ Some running → Answered running 0 → running.operation ≡ operations.Login → HasLogin places id (login_response (response_of running s)).login)
        (grant_back : (running : Running) → s.operation ≡ Some running → Answered running 0 → running.operation ≡ operations.Reconnect → (own : LoginResponse) → s.seat ≡ seats.Returning own → HasLogin places id own.login)
        (refused : (running : Running) → s.operation ≡ Some running → Undone running → Served → ⊥) where
      ended_claims : (b : Bool) → is_stuck_seat s.seat ≡ b → (running : Running) → s.operation ≡ Some running → moves_session running.operation ≡ false → (operation : Option Running) (seat : Seat) → operation ≡ None → seat ≡ s.seat → Before s.operation s.seat → After operation seat
      ended_claims true f running is n operation seat e same before = inl (given_up s fit operation seat e (ap is_stuck_seat same ∙ f))
      ended_claims false f running is n operation seat e same before = quiet_claims operation seat f same (entry_of s fit running is n) (exit_of s fit running is n) before

      none_by : (orb : ℕ) (bytes : List ℕ) (status : ℕ) → (bytes ≡ good_block orb → status ≡ 0) → (status ≡ 0 → ⊥) → (bytes ≡ good_block orb) ⊎ HasNone places id → HasNone places id
      none_by orb bytes status good bad (inl e) = absurd (bad (good e))
      none_by orb bytes status good bad (inr h) = h

      zero_answered : (running : Running) (status : ℕ) → status ≡ 0 → Answered running status → Answered running 0
      zero_answered running status z x = subst (Answered running) z x

      came_claims : (running : Running) (status : ℕ) → s.operation ≡ Some running → moves_session running.operation ≡ true → Answered running status → (operation : Option Running) (seat : Seat) → operation ≡ None → Came running.operation status (response_of running s) s.seat seat → Before s.operation s.seat → After operation seat
      came_claims running status is n x operation seat e k (inl g) = moving_hand s.operation s.seat running is n g
      came_claims running status is n x operation seat e (still_stuck z) (inr c) = inl (given_up s fit operation seat e z)
      came_claims running status is n x operation seat e (granted_in login zero before now) (inr c) =
          let number = (login_response (response_of running s)).login in
          inr (as_stand seat (inside number) now (claims_inside id m places Now Acts Waits number c.one (grant_in running is (zero_answered running status zero x) login)))
      came_claims running status is n x operation seat e (granted_back own reconnect zero before now) (inr c) =
          inr (as_stand seat (inside own.login) now (claims_inside id m places Now Acts Waits own.login c.one (grant_back running is (zero_answered running status zero x) reconnect own before)))
      came_claims running status is n x operation seat e (refused_in bad before now) (inr c) =
          let p = pend running status is x in
          inr (as_stand seat apart now (claims_apart id m places Now Acts Waits (none_by p.orb p.bytes status p.good bad ((c.pended p.orb p.bytes p.tells).0.of_comes before))))
      came_claims running status is n x operation seat e (went_out number before now) (inr c) =
          let p = pend running status is x in
          inr (as_stand seat apart now (claims_apart id m places Now Acts Waits ((c.pended p.orb p.bytes p.tells).1 number before)))

      none_early : (Served → ⊥) → Served ⊎ HasNone places id → HasNone places id
      none_early untaken (inl served) = absurd (untaken served)
      none_early untaken (inr h) = h

      has_leaving : {number : ℕ} → (Served → ⊥) → HasLogin places id number ⊎ (Served × HasNone places id) → HasLogin places id number
      has_leaving untaken (inl h) = h
      has_leaving untaken (inr h) = absurd (untaken h.0)

      undid_claims : (running : Running) → s.operation ≡ Some running → moves_session running.operation ≡ true → Undone running → (operation : Option Running) (seat : Seat) → operation ≡ None → Undid s.seat seat → Before s.operation s.seat → After operation seat
      undid_claims running is n x operation seat e k (inl g) = moving_hand s.operation s.seat running is n g
      undid_claims running is n x operation seat e (stuck_still z) (inr c) = inl (given_up s fit operation seat e z)
      undid_claims running is n x operation seat e (out_again before now) (inr c) = inr (as_stand seat apart now (claims_apart id m places Now Acts Waits (none_early (refused running is x) (c.early before))))
      undid_claims running is n x operation seat e (in_again number before now) (inr c) =
          inr (as_stand seat (inside number) now (claims_inside id m places Now Acts Waits number c.one (has_leaving (refused running is x) (c.leaving number before))))

      pub moved_claims : (operation : Option Running) (seat : Seat) → Moved s Answered Undone operation seat → (operation ≡ s.operation → Carried) → Before s.operation s.seat → After operation seat
      moved_claims operation seat (rests e l) k before = like_claims operation seat e l (k e) before
      moved_claims operation seat (gives_up e stuck) k before = inl (given_up s fit operation seat e stuck)
      moved_claims operation seat (ends running is n e same) k before = ended_claims (is_stuck_seat s.seat) refl running is n operation seat e same before
      moved_claims operation seat (answers running status is n x e same) k before =
          came_claims running status is n x operation seat e (subst (Came running.operation status (response_of running s) s.seat) (sym same) (came status (response_of running s) running.operation s.seat n (sits_on s fit running is sits))) before
      moved_claims operation seat (undoes running is n x e same) k before =
          undid_claims running is n x operation seat e (subst (Undid s.seat) (sym same) (undid running.operation s.seat n (sits_on s fit running is sits))) before

    -- an operation that begins was not taken yet, and no status block waits
    module _ (operation : Option Running) (seat : Seat) (begun : (running : Running) → s.operation ≡ None → operation ≡ Some running → is_stuck_seat s.seat ≡ false → is_stuck_seat seat ≡ false → Acts → ⊥) (silent : (running : Running) → s.operation ≡ None → operation ≡ Some running → is_stuck_seat s.seat ≡ false → is_stuck_seat seat ≡ false → (orb : ℕ) (bytes : List ℕ) → Waits orb bytes → ⊥) where
      sends_claims : (running : Running) → s.operation ≡ None → operation ≡ Some running → is_stuck_seat s.seat ≡ false → is_stuck_seat seat ≡ false → (kind : Operation) (before now : Stand) → stand_of s.seat ≡ before → stand_of seat ≡ now → Sends kind before now → Claims Served Active Tells (stand_of s.seat) id m places → Claims Now Acts Waits (stand_of seat) id m places
      sends_claims running none e free stuck kind before now f g logs_in c = as_stand seat comes g (claims_comes id m places Now Acts Waits (c.apart_none f))
      sends_claims running none e free stuck kind before now f g comes_back c = as_stand seat comes g (claims_comes id m places Now Acts Waits (c.apart_none f))
      sends_claims running none e free stuck kind before now f g (goes_out number) c =
          as_stand seat (leaves number) g (claims_leaves id m places Now Acts Waits number (begun running none e free stuck) (silent running none e free stuck) c.one (c.live number f))

      pub acted_claims : Acted s operation seat → (operation ≡ s.operation → Carried) → Before s.operation s.seat → After operation seat
      acted_claims (idle e l) k before = like_claims operation seat e l (k e) before
      acted_claims (begins running none free e n same) k before = quiet_claims operation seat free same (ap is_entry none) (ap is_exit none) before
      acted_claims (moves running none free e stuck sends) k (inl g) = not_up s.operation s.seat free g
      acted_claims (moves running none free e stuck sends) k (inr c) = inr (sends_claims running none e free stuck running.operation (stand_of s.seat) (stand_of seat) refl refl sends c)

  pub reset_claims : (operation : Option Running) (seat : Seat) → IsReset operation seat → HasNone places id → After operation seat
  reset_claims operation seat r h = inr (as_stand seat apart r.out (claims_apart id m places Now Acts Waits h))
