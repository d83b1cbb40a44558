-- In a turn of the target each packet to an initiator of which `unsolicited` is told in it is the write of the unsolicited status, the first packet to it there; so is each that nothing wants, which goes to such an initiator.
use Rattle.std.proofs.Common.{arith, ◌≡◌, ◌∙◌, refl, sym, ap, subst, inl, inr, ℕ, zero, suc, ◌==◌, ◌&&◌, ◌||◌, not, nat_eq, Bool, true, false, cond, List, [], ◌∷◌, ◌++◌, Option, Some, None}
use Rattle.std.proofs.lemmas.Bool.Decides.{nat_tests}
use Rattle.label_table.specs.Bodies.{Body}
use Rattle.login_table.specs.declared.login.Login.{Login}
use Rattle.rbc_disk.specs.Disk.{Disk}
use Rattle.sbp_journal.specs.Run.{Moment, said}
use Rattle.sbp_journal.specs.Wire.{Terms}
use Rattle.sbp_journal.specs.declared.note.Note.{Note}
use Rattle.sbp_journal.specs.declared.note.Note.TheVariants as notes
use Rattle.sbp_laws.specs.ActionLaw.{InOrder}
use Rattle.sbp_laws.specs.Agents.{Request, agent_outcomes, agent_requests_for, ahead_due, is_answer, requests_of, target_before, wire_after, wire_before}
use Rattle.sbp_laws.specs.CarriedLaw.{RunsWhereDue}
use Rattle.sbp_laws.specs.Deliveries.{once_told}
use Rattle.sbp_laws.specs.MediaLaw.{Load, is_push_note, load_in, logins_for, logins_told, may_push, push_body, push_notes, push_requests, told_logins}
use Rattle.sbp_laws.specs.NoteKinds.{of_kind}
use Rattle.sbp_laws.specs.Packets.{access_in_bytes}
use Rattle.sbp_laws.specs.SentAnswers.{answer_due}
use Rattle.sbp_laws.specs.SentRequests.{behind_answer}
use Rattle.sbp_laws.specs.Targets.{Target, initiator_at, initiator_with}
use Rattle.sbp_laws.specs.Turns.{Turn, effects_of, is_sent, sends_of}
use Rattle.sbp_laws.specs.Unasked.{is_announced, is_push}
use Rattle.sbp_world.proofs.Common.{itself, untrue}
use Rattle.turn_laws.proofs.AgentDue.{HasTurn, TellsFor}
use Rattle.turn_laws.proofs.AgentSends.{sends_for}
use Rattle.turn_laws.proofs.Handed.{AllInner, IsInner}
use Rattle.turn_laws.proofs.PresentOrbs.{told_one}
use Rattle.turn_laws.proofs.PushPlaces.{ArePlaced}
use Rattle.turn_laws.proofs.PushTurns.{Among, Differ, EachLogin, IsLoad, Named, load_of, kind_stands, named_in, one_of, reply_turn, runner_of, told_apart}
use Rattle.turn_laws.proofs.RequestLabels.{access_in_body}
use Rattle.turn_laws.proofs.RequestPackets.{Sound, begins_split}
use Rattle.turn_laws.proofs.SentOwn.{AreFor}
use Rattle.turn_laws.proofs.TargetHails.{Stands}
use Rattle.turn_laws.proofs.TargetRequests.{AsksAll, pushes_behind}
use Rattle.std.proofs.lemmas.Bool.{or_right}
use Rattle.turn_laws.proofs.PushTold.{whole_block}

-- ---- `unsolicited` stands before, and no packet behind it to the initiator
abbrev Unsent : Note → Type 0
Unsent note = is_sent note ≡ false

one_announced : (to : ℕ) (note : Note) (past : List Moment) → IsInner note → Unsent note → is_announced past to ≡ true → is_announced (said note ∷ past) to ≡ true
one_announced to (notes.Unsolicited i) past h u e = or_right (suc i == to) (is_announced past to) e
one_announced to (notes.Sent serial generation from other bytes) past h u e = untrue (sym u)
one_announced to (notes.Got serial) past h u e = absurd h
one_announced to (notes.Ignored serial cause) past h u e = absurd h
one_announced to (notes.TimedOut serial) past h u e = absurd h
one_announced to note past h u e = e

abbrev AllUnsent : List Note → Type 0
AllUnsent [] = Unit {0}
AllUnsent (note ∷ ns) = Unsent note × AllUnsent ns

effects_unsent : (ns : List Note) → AllUnsent (effects_of ns)
effects_unsent [] = tt
effects_unsent (note ∷ ns) = by (is_sent note) refl (effects_unsent ns)
  where
    by : (b : Bool) → is_sent note ≡ b → AllUnsent (effects_of ns) → AllUnsent (cond b (effects_of ns) (note ∷ effects_of ns))
    by true e k = k
    by false e k = (e, k)

all_announced : (to : ℕ) (ns : List Note) (past : List Moment) → AllInner ns → AllUnsent ns → is_announced past to ≡ true → is_announced (once_told past ns) to ≡ true
all_announced to [] past h u e = e
all_announced to (note ∷ ns) past h u e = ap (λ ms. is_announced ms to) (told_one note ns past) ∙ all_announced to ns (said note ∷ past) h.1 u.1 (one_announced to note past h.0 u.0 e)

pub stands_announced : (i : ℕ) (ns : List Note) (past : List Moment) → AllInner ns → AllUnsent ns → Stands (notes.Unsolicited i) ns → is_announced (once_told past ns) (suc i) ≡ true
stands_announced i [] past h u s = absurd s
stands_announced i (note ∷ ns) past h u (inl e) =
    let first : is_announced (said note ∷ past) (suc i) ≡ true = ap (λ n. is_announced (said n ∷ past) (suc i)) e ∙ ap (λ b. b || is_announced past (suc i)) (itself (suc i)) in
    ap (λ ms. is_announced ms (suc i)) (told_one note ns past) ∙ all_announced (suc i) ns (said note ∷ past) h.1 u.1 first
stands_announced i (note ∷ ns) past h u (inr s) = ap (λ ms. is_announced ms (suc i)) (told_one note ns past) ∙ stands_announced i ns (said note ∷ past) h.1 u.1 s

-- a packet to another one
other_sent : (to other serial generation from : ℕ) (bytes : List ℕ) (past : List Moment) → (other ≡ to → ⊥) → is_announced past to ≡ true → is_announced (said (notes.Sent serial generation from other bytes) ∷ past) to ≡ true
other_sent to other serial generation from bytes past apart e =
    let not_it : nat_eq other to ≡ false = differs other to apart in ap (λ b. not b && is_announced past to) not_it ∙ e
  where
    differs : (a b : ℕ) → (a ≡ b → ⊥) → nat_eq a b ≡ false
    differs a b f = by (nat_eq a b) refl
      where
        by : (c : Bool) → nat_eq a b ≡ c → c ≡ false
        by false g = refl
        by true g = absurd (f (let x : a ≡ b = grind (arith, nat_tests) in x))

same_number : (i j : ℕ) → suc i ≡ suc j → i ≡ j
same_number i j e = omega (arith, e)

kind_back : (i : ℕ) (ns : List Note) → Stands (notes.Unsolicited i) (of_kind is_push_note ns) → Stands (notes.Unsolicited i) ns
kind_back i [] s = absurd s
kind_back i (note ∷ ns) s = by (λ k. kind_back i ns k) (is_push_note note) s
  where
    by : (Stands (notes.Unsolicited i) (of_kind is_push_note ns) → Stands (notes.Unsolicited i) ns) → (b : Bool) → Stands (notes.Unsolicited i) (cond b (note ∷ of_kind is_push_note ns) (of_kind is_push_note ns)) → Stands (notes.Unsolicited i) (note ∷ ns)
    by more true (inl e) = inl e
    by more true (inr k) = inr (more k)
    by more false k = inr (more k)

-- ---- of the packets of a turn
module _ (t : Turn) where
  abbrev pub Due : List Moment → Note → Type 0
  Due past (notes.Sent serial generation zero to bytes) = (i : ℕ) → to ≡ suc i → Stands (notes.Unsolicited i) t.rest → (is_push (access_in_bytes bytes) && is_announced past to) ≡ true
  Due past note = Unit {0}

  abbrev pub EachDue : List Moment → List Note → Type 0
  EachDue past [] = Unit {0}
  EachDue past (note ∷ ns) = Due past note × EachDue (said note ∷ past) ns

  both_due : (a b : List Note) (past : List Moment) → EachDue past a → EachDue (once_told past a) b → EachDue past (a ++ b)
  both_due [] b past h k = k
  both_due (note ∷ a) b past h k = (h.0, both_due a b (said note ∷ past) h.1 (subst (λ ms. EachDue ms b) (told_one note a past) k))

  unsent_due : (note : Note) (past : List Moment) → Unsent note → Due past note
  unsent_due (notes.Sent serial generation from to bytes) past u = untrue (sym u)
  unsent_due note past u = tt

  all_unsent : (ns : List Note) (past : List Moment) → AllUnsent ns → EachDue past ns
  all_unsent [] past u = tt
  all_unsent (note ∷ ns) past u = (unsent_due note past u.0, all_unsent ns (said note ∷ past) u.1)

  -- where it is told of nobody
  spare_due : (note : Note) (past : List Moment) → ((i : ℕ) → Stands (notes.Unsolicited i) t.rest → ⊥) → Due past note
  spare_due (notes.Sent serial generation zero to bytes) past none = λ i e s. absurd (none i s)
  spare_due (notes.Sent serial generation (suc from) to bytes) past none = tt
  spare_due note past none = tt

  all_spare : (ns : List Note) (past : List Moment) → ((i : ℕ) → Stands (notes.Unsolicited i) t.rest → ⊥) → EachDue past ns
  all_spare [] past none = tt
  all_spare (note ∷ ns) past none = (spare_due note past none, all_spare ns (said note ∷ past) none)

  -- ---- an agent's packets, to another one than those that are told
  abbrev AllTo : ℕ → List Request → Type 0
  AllTo node [] = Unit {0}
  AllTo node (want ∷ wants) = (want.to ≡ node) × AllTo node wants

  to_one : (node : ℕ) (u : Bool) (o : Option Body) → AllTo node (requests_of node u o)
  to_one node u None = tt
  to_one node u (Some body) = (refl, tt)

  to_both : (node : ℕ) (a b : List Request) → AllTo node a → AllTo node b → AllTo node (a ++ b)
  to_both node [] b h k = k
  to_both node (want ∷ a) b h k = (h.0, to_both node a b h.1 k)

  abbrev AllAnnounced : List Moment → Type 0
  AllAnnounced past = (i : ℕ) → Stands (notes.Unsolicited i) t.rest → is_announced past (suc i) ≡ true

  module _ (j : ℕ) (other : (i : ℕ) → Stands (notes.Unsolicited i) t.rest → i ≡ j → ⊥) where
    to_due : (serial generation from to : ℕ) (bytes : List ℕ) (past : List Moment) → to ≡ suc j → Due past (notes.Sent serial generation from to bytes)
    to_due serial generation zero to bytes past e = λ i f s. absurd (other i s (same_number i j (sym f ∙ e)))
    to_due serial generation (suc from) to bytes past e = tt

    own_due : (ns : List Note) (wants : List Request) (past : List Moment) → AreFor 0 ns wants → AllTo (suc j) wants → AllAnnounced past → EachDue past ns × AllAnnounced (once_told past ns)
    own_due [] [] past h k a = (tt, a)
    own_due [] (want ∷ wants) past h k a = absurd h
    own_due (notes.Sent serial generation from to bytes ∷ ns) [] past h k a = absurd h
    own_due (notes.Sent serial generation from to bytes ∷ ns) (want ∷ wants) past h k a =
        let note = notes.Sent serial generation from to bytes in
        let there : to ≡ suc j = h.0.1.0 ∙ k.0 in
        let next : AllAnnounced (said note ∷ past) = λ i s. other_sent (suc i) to serial generation from bytes past (λ e. other i s (same_number i j (sym e ∙ there))) (a i s) in
        let rest = own_due ns wants (said note ∷ past) h.1 k.1 next in
        ((to_due serial generation from to bytes past there, rest.0), subst AllAnnounced (sym (told_one note ns past)) rest.1)
    own_due (note ∷ ns) wants past h k a = absurd h

  -- ---- the unsolicited statuses
  module _ (T : Target) (after : Terms) where
    abbrev Ready : List Moment → Login → Type 0
    Ready past login = may_push T after login ≡ true → is_announced past (suc (initiator_with after login.node)) ≡ true

    ready_more : (serial generation from to n : ℕ) (bytes : List ℕ) (past : List Moment) (logins : List Login) → to ≡ suc n → EachLogin T after (λ other. Named T after n other → ⊥) logins → EachLogin T after (Ready past) logins → EachLogin T after (Ready (said (notes.Sent serial generation from to bytes) ∷ past)) logins
    ready_more serial generation from to n bytes past [] e d r = tt
    ready_more serial generation from to n bytes past (login ∷ logins) e d r =
        ((λ may. other_sent (suc (initiator_with after login.node)) to serial generation from bytes past (λ f. d.0 (same_number (initiator_with after login.node) n (sym f ∙ e))) (r.0 may)), ready_more serial generation from to n bytes past logins e d.1 r.1)

    push_due : (login : Login) (serial generation from to : ℕ) (bytes : List ℕ) (past : List Moment) → to ≡ suc (initiator_with after login.node) → is_push (access_in_bytes bytes) ≡ true → is_announced past (suc (initiator_with after login.node)) ≡ true → Due past (notes.Sent serial generation from to bytes)
    push_due login serial generation zero to bytes past e p a = λ i f s. ap (λ b. b && is_announced past to) p ∙ (ap (is_announced past) e ∙ a)
    push_due login serial generation (suc from) to bytes past e p a = tt

    abbrev More : List Login → Type 0
    More logins = (ns : List Note) (p : List Moment) → AreFor 0 ns (push_requests T after logins) → EachLogin T after (Ready p) logins → EachDue p ns

    pushes_due : (logins : List Login) (ns : List Note) (past : List Moment) → AreFor 0 ns (push_requests T after logins) → Differ T after logins → EachLogin T after (Ready past) logins → EachDue past ns
    pushes_due [] [] past h d r = tt
    pushes_due [] (notes.Sent serial generation from to bytes ∷ ns) past h d r = absurd h
    pushes_due [] (note ∷ ns) past h d r = absurd h
    pushes_due (login ∷ logins) ns past h d r = by (λ ns p k q. pushes_due logins ns p k d.1 q) (may_push T after login) refl h
      where
        name : ℕ
        name = initiator_with after login.node

        told : More logins → may_push T after login ≡ true → (ns : List Note) → AreFor 0 ns (record { to = suc name; body = push_body login; is_untold = false } ∷ push_requests T after logins) → EachDue past ns
        told more may [] k = absurd k
        told more may (notes.Sent serial generation from to bytes ∷ ns) k =
            let note = notes.Sent serial generation from to bytes in
            let push : is_push (access_in_bytes bytes) ≡ true = ap is_push (access_in_body (push_body login) bytes k.0.1.1) ∙ whole_block in
            (push_due login serial generation from to bytes past k.0.1.0 push (r.0 may), more ns (said note ∷ past) k.1 (ready_more serial generation from to name bytes past logins k.0.1.0 d.0 r.1))
        told more may (note ∷ ns) k = absurd k

        by : More logins → (b : Bool) → may_push T after login ≡ b → AreFor 0 ns (cond b (record { to = suc name; body = push_body login; is_untold = false } ∷ push_requests T after logins) (push_requests T after logins)) → EachDue past ns
        by more true f k = told more f ns k
        by more false f k = more ns past k r.1

    -- each that may be told stands among the notes
    told_ready : (past : List Moment) (logins all : List Login) → ((i : ℕ) → Stands (notes.Unsolicited i) (push_notes T after logins) → Stands (notes.Unsolicited i) (push_notes T after all)) → ((i : ℕ) → Stands (notes.Unsolicited i) (push_notes T after all) → is_announced past (suc i) ≡ true) → EachLogin T after (Ready past) logins
    told_ready past [] all keep a = tt
    told_ready past (login ∷ logins) all keep a =
        ((λ may. a (initiator_with after login.node) (keep (initiator_with after login.node) (inl (ap (λ b. cond b (notes.Unsolicited (initiator_with after login.node)) (notes.Unsent (initiator_with after login.node))) may)))), told_ready past logins all (λ i s. keep i (inr s)) a)

-- ---- the turn
module _ (start : List Disk) (t : Turn) (sound : Sound start t) (all : AsksAll start t) (placed : ArePlaced start t) (runs : RunsWhereDue (λ i. false) start t) (inner : AllInner t.rest) (order : InOrder t) where
  abbrev T : Target
  T = target_before start t

  abbrev after : Terms
  after = wire_after t

  abbrev first : List Moment
  first = t.start ∷ t.past

  abbrev effects : List Note
  effects = effects_of t.rest

  abbrev IsOfLogins : Option Load → Type 0
  IsOfLogins load = of_kind is_push_note t.rest ≡ push_notes T after (logins_for T load)

  none_told : IsOfLogins None → (i : ℕ) → Stands (notes.Unsolicited i) t.rest → ⊥
  none_told e i s = named_in T after i [] (subst (Stands (notes.Unsolicited i)) e (kind_stands i t.rest s))

  effects_stand : (i : ℕ) (ns : List Note) → Stands (notes.Unsolicited i) ns → Stands (notes.Unsolicited i) (effects_of ns)
  effects_stand i [] s = absurd s
  effects_stand i (note ∷ ns) (inl e) = subst (λ (b : Bool). Stands (notes.Unsolicited i) (cond b (effects_of ns) (note ∷ effects_of ns))) (sym (ap is_sent e)) (inl e)
  effects_stand i (note ∷ ns) (inr s) = by (is_sent note) (effects_stand i ns s)
    where
      by : (b : Bool) → Stands (notes.Unsolicited i) (effects_of ns) → Stands (notes.Unsolicited i) (cond b (effects_of ns) (note ∷ effects_of ns))
      by true k = k
      by false k = inr k

  effects_inner : (ns : List Note) → AllInner ns → AllInner (effects_of ns)
  effects_inner [] h = tt
  effects_inner (note ∷ ns) h = by (is_sent note) (effects_inner ns h.1)
    where
      by : (b : Bool) → AllInner (effects_of ns) → AllInner (cond b (effects_of ns) (note ∷ effects_of ns))
      by true k = k
      by false k = (h.0, k)

  module _ (load : Load) (is : IsOfLogins (Some load)) (there : load_in T (wire_before t) t.rest ≡ Some load) (l : IsLoad T (wire_before t) t.rest load) where
    abbrev logins : List Login
    logins = told_logins load T.enabled T.table.places

    loaded : EachDue t first t.rest
    loaded =
        let r = runner_of start t l.first l.more l.runs runs in
        let a = r.agent in
        let j = initiator_at T (wire_before t) a.place in
        let reply = reply_turn start t a r.outcome r.ran t.start r.its in
        let apart = told_apart T after (wire_before t) (placed reply.call) load T.enabled l.first.initiator l.place_is in
        let h : HasTurn start T t a = subst (TellsFor start T t) r.its all.tells in
        let f = sends_for start t a h in
        let sends : sends_of t.rest ≡ f.own ++ f.more = begins_split (answer_due start t t.start) (sends_of t.rest) sound.answers ∙ (ap (λ ns. ns ++ behind_answer start t) reply.answer ∙ f.is) in
        let told : (i : ℕ) → Stands (notes.Unsolicited i) t.rest → Among (Named T after i) logins = λ i s. named_in T after i logins (subst (Stands (notes.Unsolicited i)) is (kind_stands i t.rest s)) in
        let other : (i : ℕ) → Stands (notes.Unsolicited i) t.rest → i ≡ j → ⊥ =
        λ i s e. one_of T after (λ login. Named T after l.first.initiator login → ⊥) (Named T after i) ⊥ (λ login no yes. no (yes ∙ (e ∙ sym r.initiator_is))) logins apart.0 (told i s) in
        let behind = once_told first effects in
        let announced : AllAnnounced t behind = λ i s. stands_announced i effects first (effects_inner t.rest inner) (effects_unsent t.rest) (effects_stand i t.rest s) in
        let wants = agent_requests_for T t a in
        let out = agent_outcomes T t a in
        let u = a.untold && is_answer out in
        let ahead = ahead_due T t a out in
        let own = own_due t j other f.own wants behind f.asks (to_both t (suc j) (requests_of (suc j) u out.sent) (requests_of (suc j) false ahead) (to_one t (suc j) u out.sent) (to_one t (suc j) false ahead)) announced in
        let ready = told_ready t T after (once_told behind f.own) logins logins (λ i s. s) (λ i s. own.1 i (kind_back i t.rest (subst (Stands (notes.Unsolicited i)) (sym is) s))) in
        let due : AreFor 0 f.more (push_requests T after (logins_told T t)) = pushes_behind start t all.pushes a h in
        let last = pushes_due t T after logins f.more (once_told behind f.own) (subst (λ (o : Option Load). AreFor 0 f.more (push_requests T after (logins_for T o))) there due) apart.1 ready in
        subst (EachDue t first) (sym order.first)
        (both_due t effects (sends_of t.rest) first (all_unsent t effects first (effects_unsent t.rest))
        (subst (EachDue t behind) (sym sends) (both_due t f.own f.more behind own.0 last)))

  by_load : (load : Option Load) → load_in T (wire_before t) t.rest ≡ load → IsOfLogins load → EachDue t first t.rest
  by_load None e is = all_spare t t.rest first (none_told is)
  by_load (Some load) e is = loaded load is e (load_of T T (wire_before t) t.rest load e)

  pub turn_due : EachDue t first t.rest
  turn_due = by_load (load_in T (wire_before t) t.rest) refl all.pushes.0
