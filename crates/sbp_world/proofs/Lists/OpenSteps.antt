-- A reply, a time-out, a doorbell and a write of ORB_POINTER: what each leaves of the places whose lists are open.
use Rattle.sbp_world.proofs.Words.Std.{◌≡◌, ◌∙◌, refl, sym, ap, subst, inl, inr, ◌⊎◌, ◌<◌, ℕ, nat_eq, Bool, true, false, cond, List, [], Option, Some, None, Result, Ok, Err, arith, nat_tests, length-set, false≢true}
use Rattle.sbp_world.proofs.Words.Wire.{Packet, header_in, Layer, answering_step, Holder, list_in, empty_outbox}
use Rattle.sbp_world.proofs.Words.Target.{Login, Disk, disk_at, Told, AgentStep, PointRefusal, Which, Machine, present_of, doorbell_step, lost_step, point_step, reply_step, Desk, Purpose, follow, pointed_desk, taken, NodeState, Scene, desk_at, login_at, scene, with_agent, with_desk, expired_by, Stage, advance, announced_by, came, changed_by, follow_all, plain_in, replied, stage, whole, answer_step, answered_by, with_side, answered, asked_in, point, pointed_by, rcode_of, ring, rung_by, orb_of, complete}
use Rattle.sbp_world.proofs.Words.Initiator.{Ask, Nothing, OrbPointer, Answer}
use Rattle.sbp_world.proofs.Words.World.{holder, ticket_at, told, told_all, WorldState}
use Rattle.orb_layout.specs.declared.ask.FailCause.TheVariants as causes
use Rattle.command_agent.specs.Steps as steps
use Rattle.sbp_journal.specs.declared.side.Side.TheVariants as sides
use Rattle.sbp_target.specs.Serving.{asked_at}
use Rattle.sbp_target.proofs.Histories.Calling.{Good}
use Rattle.sbp_target.proofs.Histories.Following.{IsServed}
use Rattle.sbp_world.proofs.Agents.AskedLate.{quiet_follow}
use Rattle.sbp_world.proofs.Lists.SameAgents.{set_there, changed_same}
use Rattle.sbp_world.proofs.Lists.OpenCuts.{Here, Listing, is_up, Open, OwnsLogin, desk_more}
use Rattle.sbp_world.proofs.Lists.OpenFollows.{Beside, alike, announce_from_beside, follow_beside}
use Rattle.sbp_world.proofs.Lists.OpenManages.{answers}
use Rattle.sbp_world.proofs.Lists.OpenPlaces.{Has, opened_here, opened_there}
use Rattle.sbp_world.proofs.Lists.OpenSpares.{SameCuts}
use Rattle.sbp_world.proofs.Lists.OpenTurns.{AreSeated, Before, HasSeat, K, Q, begins, first_beside, here, inside, listing_seat, node, of_beside, served_seat, silent_by, sound}
use Rattle.sbp_world.proofs.Lists.Pointers.{refused}

module _ (w : WorldState) (g : Good w.target) (seats : AreSeated w) (u : WorldState) (same : u.places ≡ w.places) (layer : Layer Purpose) where
  abbrev Now : Scene → Type 0
  Now s = K w g seats u same layer s

  abbrev there : NodeState
  there = node w g seats u same layer

  abbrev first : Scene
  first = here w g seats u same layer

  module _ (q : ℕ) (b : q < 8) where
    abbrev By : Scene → Type 0
    By s = Q w g seats u same layer q b s

    announced_by_open : (x : Bool) (unit : ℕ) (s : Scene) → By s → By (announced_by x unit q s)
    announced_by_open true unit s m = announce_from_beside u u.places q (Here w.target) b 8 0 unit q (omega arith) s m
    announced_by_open false unit s m = m

    -- ---- a reply
    pub reply_open : Listing w.target q → (login : Login) (which : Which) (run : Option Told) (answer : Answer) (disks : List Disk) → (let x = advance run q login which answer (whole first disks) in Now (scene x.node x.outbox))
    unfolding advance replied follow_all
    reply_open l login which run answer disks =
        let plain = plain_in there.units disks login.unit in
        let step : AgentStep × Machine = reply_step (Here w.target q) q plain run which answer in
        let d : Desk = record (taken which (desk_at w.target q)) { agent = step.1 } in
        let st : Stage = (replied run q login.unit which answer (stage there disks)).1 in
        let loaded = came (disk_at disks login.unit) (disk_at st.disks login.unit) in
        let later = changed_by loaded login.unit q st.node in
        let c = changed_same loaded login.unit q st.node in
        let start = first_beside w g seats u same layer q b d in
        let s = scene later empty_outbox in
        let m : By s = alike u u.places q (Here w.target) b (scene (with_desk there q d) empty_outbox) s (record { desks = c.desks; agents = c.agents }) refl start in
        let x = announced_by loaded login.unit q (follow q login step.0 s) in
        of_beside w g seats u same layer q b l x (announced_by_open loaded login.unit (follow q login step.0 s) (follow_beside u u.places q (Here w.target) b login step.0 s m))

    -- ---- a time-out
    pub late_open : Listing w.target q → (login : Login) (which : Which) → Now (expired_by q (Some login) (Some which) first)
    late_open l login which =
        let loss = lost_step (Here w.target q) which causes.Timeout in
        let d : Desk = record (taken which (desk_at w.target q)) { agent = loss.1 } in
        let s = scene (with_desk there q d) empty_outbox in
        of_beside w g seats u same layer q b l (follow q login loss.0 s) (follow_beside u u.places q (Here w.target) b login loss.0 s (first_beside w g seats u same layer q b d))

    -- ---- what is asked of the registers
    module _ (request : Packet) (bytes : List ℕ) where
      answered_beside : (rcode : ℕ) (given : List ℕ) (places : List (Option Holder)) (machines : ℕ → Machine) (s : Scene) → Beside u places q machines b s → Beside u places q machines b (answered request bytes rcode given s)
      unfolding answer_step
      answered_beside rcode given places machines s m = by (answering_step s.node.layer request bytes rcode given)
        where
          by : (r : List ℕ × Layer Purpose) → Beside u places q machines b (scene (record s.node { layer = (answered_by r s.outbox (header_in request).source).0 }) (answered_by r s.outbox (header_in request).source).1)
          by (out, rest) = alike u places q machines b s (scene (record s.node { layer = rest }) (answered_by (out, rest) s.outbox (header_in request).source).1) (record { desks = refl; agents = λ p. refl }) refl m

      asked_beside : (ask : Ask) (login : Option Login) (places : List (Option Holder)) (machines : ℕ → Machine) (s : Scene) → Beside u places q machines b s → Beside u places q machines b (asked_in q ask login s)
      asked_beside ask None places machines s m = m
      asked_beside ask (Some login) places machines s m = follow_beside u places q machines b login (steps.asks ask) s m

      answer_open : (rcode : ℕ) (given : List ℕ) (s : Scene) → Now s → Now (answered request bytes rcode given s)
      answer_open rcode given s k = answers u (holder w) (Before w g seats) w.target.logins (sound w g seats) request bytes rcode given s k

      -- a doorbell
      rung_open : Listing w.target q → Now (ring q request bytes first)
      unfolding ring
      rung_open l =
          let r = doorbell_step (Here w.target q) in
          let s = scene (with_agent there q r.1) empty_outbox in
          let x = answered request bytes complete [] s in
          of_beside w g seats u same layer q b l (asked_at q r.0 x)
          (asked_beside r.0 (login_at x.node q) u.places (Here w.target) x (answered_beside complete [] u.places (Here w.target) s (first_beside w g seats u same layer q b (record (desk_at there q) { agent = r.1 }))))

      silent_open : is_up (Here w.target q) ≡ false → Now (ring q request bytes first)
      unfolding ring
      silent_open e =
          let m = Here w.target q in
          subst (λ (x : Ask × Machine). Now (rung_by q request bytes x first)) (sym (silent_by m.phase m e)) (by (login_at x.node q))
        where
          s : Scene
          s = scene (with_agent there q (Here w.target q)) empty_outbox

          x : Scene
          x = answered request bytes complete [] s

          done : Now x
          done = answer_open complete [] s (desk_more u (holder w) (Before w g seats) w.target.logins.places (sound w g seats) first q (record (desk_at there q) { agent = Here w.target q }) (λ l. l) (begins w g seats u same layer))

          by : (login : Option Login) → Now (asked_in q Nothing login x)
          by None = done
          by (Some login) = subst Now (sym (quiet_follow q login (steps.asks Nothing) x refl)) done

      pub ring_open : Now (ring q request bytes first)
      ring_open = by (is_up (Here w.target q)) refl
        where
          by : (x : Bool) → is_up (Here w.target q) ≡ x → Now (ring q request bytes first)
          by true e = rung_open e
          by false e = silent_open e

      -- ---- a pointer
      pub refused_open : (pointer : OrbPointer) (refusal : PointRefusal) → (point_step (Here w.target q) pointer).0 ≡ Err refusal → Now (point q pointer request bytes first)
      unfolding point
      refused_open pointer refusal e =
          subst (λ (x : Result Ask PointRefusal). Now (pointed_by q request bytes (pointed_desk (desk_at there q) (x, (point_step (Here w.target q) pointer).1)) first)) (sym e)
          (answer_open (rcode_of refusal) [] (scene (with_desk there q d) empty_outbox) (desk_more u (holder w) (Before w g seats) w.target.logins.places (sound w g seats) first q d (λ l. subst (λ (m : Machine). is_up m ≡ true) (refused (Here w.target q) pointer refusal e) l) (begins w g seats u same layer)))
        where
          d : Desk
          d = record (desk_at there q) { agent = (point_step (Here w.target q) pointer).1 }

      -- one that is taken opens the list of its place
      module _ (served : IsServed w.target q) (orb : ℕ) where
        abbrev pub opened : Option ℕ
        opened = list_in (ticket_at u q orb)

        abbrev pub Holds : ℕ → Holder
        Holds p = cond (nat_eq p q) (record (holder w q) { list = opened }) (holder w p)

        -- it was open before, or is this one
        abbrev pub Why : ℕ → Type 0
        Why p = Listing w.target p ⊎ (p ≡ q)

        abbrev pub After : Scene → Type 0
        After s = Open u Holds Why w.target.logins.places (sound w g seats) s

        -- and no list is cut
        abbrev pub Opens : Scene → Type 0
        Opens s = After s × SameCuts u.fresh (told_all 0 s.outbox.sides u).fresh

        here_is : Holds q ≡ record (holder w q) { list = opened }
        here_is = ap (λ (x : Bool). cond x (record (holder w q) { list = opened }) (holder w q)) (let e : nat_eq q q ≡ true = grind (arith, nat_tests) in e)

        there_is : (p : ℕ) → nat_eq p q ≡ false → Holds p ≡ holder w p
        there_is p e = ap (λ (x : Bool). cond x (record (holder w q) { list = opened }) (holder w p)) e

        pub taken_open : (pointer : OrbPointer) (ask : Ask) → (point_step (Here w.target q) pointer).0 ≡ Ok ask → orb ≡ orb_of (point_step (Here w.target q) pointer).1 → Opens (point q pointer request bytes first)
        unfolding point told told_all
        taken_open pointer ask e orb_is =
            subst (λ (x : Result Ask PointRefusal). Opens (pointed_by q request bytes (pointed_desk (desk_at there q) (x, m)) first)) (sym e) (after (asked_at q ask x) done, done.is.cuts)
          where
            m : Machine
            m = (point_step (Here w.target q) pointer).1

            d : Desk
            d = record (desk_at there q) { agent = m; pointer = present_of m }

            s : Scene
            s = scene (with_desk there q d) (with_side empty_outbox (sides.Opened q (orb_of m)))

            x : Scene
            x = answered request bytes complete [] s

            places : List (Option Holder)
            places = (told_all 0 s.outbox.sides u).places

            start : Beside u places q (Here w.target) b s
            start = record { is = record { is = refl; cuts = λ ms i n. refl }; desks = length-set w.target.desks q d ∙ g.mid.size; same = λ p f. ap (λ (y : Desk). y.agent) (set_there there q p d (inside w g seats u same layer q b) f) }

            done : Beside u places q (Here w.target) b (asked_at q ask x)
            done = asked_beside ask (login_at x.node q) places (Here w.target) x (answered_beside complete [] places (Here w.target) s start)

            seat : HasSeat w q
            seat = served_seat w g seats q served

            here_has : Has places q (record (holder w q) { list = opened })
            here_has =
                subst (λ k. Has places q (record (holder w q) { list = list_in (ticket_at u q k) })) (sym orb_is)
                (opened_here u.places q (list_in (ticket_at u q (orb_of m))) (holder w q) (subst (λ (ps : List (Option Holder)). Has ps q (holder w q)) (sym same) seat.there))

            there_has : (p : ℕ) → (p ≡ q → ⊥) → HasSeat w p → Has places p (holder w p)
            there_has p f h = opened_there u.places q p (list_in (ticket_at u q (orb_of m))) (holder w p) f (subst (λ (ps : List (Option Holder)). Has ps p (holder w p)) (sym same) h.there)

            after : (t : Scene) → Beside u places q (Here w.target) b t → After t
            after t k = record { cuts = λ ms i n e. inl (sym (k.is.cuts ms i n) ∙ e); desks = k.desks; kept = λ p c l. kept_at p c (nat_eq p q) refl l; own = λ p c l. own_for p c (nat_eq p q) refl l }
              where
                apart : (p : ℕ) → nat_eq p q ≡ false → p ≡ q → ⊥
                apart p y one = false≢true (sym y ∙ (let z : nat_eq p q ≡ true = grind (arith, nat_tests) in z))

                before : (p : ℕ) → nat_eq p q ≡ false → Listing t.node p → Listing w.target p
                before p y l = sym (ap (λ (n : Machine). is_up n) (k.same p (apart p y))) ∙ l

                kept_at : (p : ℕ) → p < 8 → (y : Bool) → nat_eq p q ≡ y → Listing t.node p → Has (told_all 0 t.outbox.sides u).places p (Holds p)
                kept_at p c true y l =
                    let one : q ≡ p = grind (arith, nat_tests) in
                    subst (λ (ps : List (Option Holder)). Has ps p (Holds p)) (sym k.is.is) (subst (λ j. Has places j (Holds j)) one (subst (λ (h : Holder). Has places q h) (sym here_is) here_has))
                kept_at p c false y l =
                    subst (λ (ps : List (Option Holder)). Has ps p (Holds p)) (sym k.is.is) (subst (λ (h : Holder). Has places p h) (sym (there_is p y)) (there_has p (apart p y) (listing_seat w g seats p c (before p y l))))

                own_for : (p : ℕ) → p < 8 → (y : Bool) → nat_eq p q ≡ y → Listing t.node p → OwnsLogin (Why p) w.target.logins.places (Holds p) p
                own_for p c true y l =
                    let one : q ≡ p = grind (arith, nat_tests) in
                    subst (λ j. OwnsLogin (Why j) w.target.logins.places (Holds j) j) one
                    (subst (λ (h : Holder). OwnsLogin (Why q) w.target.logins.places h q) (sym here_is) (record { login = seat.login; is = seat.is; live = seat.live; id_is = seat.id_is; why = inr refl }))
                own_for p c false y l =
                    let o = before p y l in
                    let h = listing_seat w g seats p c o in
                    subst (λ (x : Holder). OwnsLogin (Why p) w.target.logins.places x p) (sym (there_is p y)) (record { login = h.login; is = h.is; live = h.live; id_is = h.id_is; why = inl o })
