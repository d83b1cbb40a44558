-- Where a status of 00 is got for a login, its response names a login that the initiator's node had as a turn began; so it does wherever a login is done.
use Rattle.sbp_world.proofs.Words.Std.{inr, sym, subst, ℕ, List, [], ◌∷◌, ◌++◌, map}
use Rattle.sbp_world.proofs.Words.Wire.{SerialsCount, Moment, asked, said, Event, Note, Operation, OpWord}
use Rattle.sbp_world.proofs.Words.Target.{Disk}
use Rattle.sbp_world.proofs.Words.Initiator.{LoginResponse, login_response}
use Rattle.sbp_world.proofs.Words.Laws.{host_at, response_of, EachMoment}
use Rattle.sbp_world.proofs.Words.World.{AreAsked, GrantedAt, IsGot, HadBy, OursAt, OwnBy, OwnedAt}
use Rattle.sbp_journal.specs.declared.note.Note.TheVariants as notes
use Rattle.sbp_journal.specs.declared.operation.Operation.TheVariants as operations
use Rattle.sbp_journal.specs.declared.operation.OpWord.TheVariants as words
use Rattle.sbp_world.proofs.Lists.Gots.{Next, next, next_line, same_still}
use Rattle.sbp_world.proofs.Lists.IdsOwned.{begun_had}
use Rattle.sbp_world.proofs.Lists.LiveBased.{Buffered, here_tells, line_tells, same_response, told_well}
use Rattle.sbp_world.proofs.Lists.LiveLeads.{hands_before}
use Rattle.sbp_world.proofs.Lists.ManageMoments.{Hands, LineFacts, MayHand}
use Rattle.sbp_world.proofs.Lists.Quiet.{AllQuiet, IsQuiet}

-- ---- a turn
module _ (start : List Disk) (before : List Moment) (i : ℕ) (counts : SerialsCount before) (contents : AreAsked start before) where
  abbrev Its : LoginResponse → Type 0
  Its response = OwnBy start before i response.login

  module _ (named : Buffered Its start before i) where
    -- its first note
    ours_first : (moment : Moment) → MayHand start i moment before → OursAt start i moment before
    ours_first (asked line event) h = tt
    ours_first (said (notes.Got serial)) h = λ a. told_well Its start before i named (here_tells start before i counts contents serial operations.Login 0 h a) a.underway a.is a.same
    ours_first (said note) h = tt

    ours_line : (line : ℕ) (event : Event) → LineFacts before → (note : Note) → MayHand start i (said note) (asked line event ∷ before) → OursAt start i (said note) (asked line event ∷ before)
    ours_line line event l (notes.Got serial) h = λ a.
        inr (begun_had start i (login_response (response_of (host_at before i))).login (asked line event) before tt
        (told_well Its start before i named (line_tells start before i counts contents serial operations.Login 0 line event l h a) a.underway a.is a.same))
    ours_line line event l note h = tt

    ours_quiet : (note : Note) (past : List Moment) → IsQuiet note → OursAt start i (said note) past
    ours_quiet (notes.Got serial) past q = absurd q
    ours_quiet note past q = tt

    ours_more : (front : List Note) (past : List Moment) → AllQuiet front → EachMoment (OursAt start i) past → EachMoment (OursAt start i) (map said front ++ past)
    ours_more [] past q g = g
    ours_more (note ∷ front) past q g = (ours_quiet note (map said front ++ past) q.0, ours_more front past q.1 g)

    pub ours_turn : (now : List Moment) → Next before now → Hands start i now → EachMoment (OursAt start i) before → EachMoment (OursAt start i) now
    ours_turn now (same_still e) h g = subst (EachMoment (OursAt start i)) (sym e) g
    ours_turn now (next front q moment is) h g =
        let there = hands_before start i front (moment ∷ before) (subst (Hands start i) (sym is) h) in
        subst (EachMoment (OursAt start i)) is (ours_more front (moment ∷ before) q (ours_first moment there.0, g))
    ours_turn now (next_line front q note line event is) h g =
        let there = hands_before start i front (said note ∷ asked line event ∷ before) (subst (Hands start i) (sym is) h) in
        subst (EachMoment (OursAt start i)) is (ours_more front (said note ∷ asked line event ∷ before) q (ours_line line event there.1.0 note there.0, (tt, g)))

-- ---- where a login is done
module _ (start : List Disk) (i : ℕ) where
  got_had : (past : List Moment) → IsGot i operations.Login 0 past → EachMoment (OursAt start i) past → HadBy start past i (login_response (response_of (host_at past i))).login
  got_had (said (notes.Got serial) ∷ past) a g =
      subst (λ r. HadBy start (said (notes.Got serial) ∷ past) i (login_response r).login) (sym (same_response past i serial operations.Login 0 a))
      (begun_had start i (login_response (response_of (host_at past i))).login (said (notes.Got serial)) past tt (g.0 a))
  got_had past a g = absurd a

  module _ (past : List Moment) (g : EachMoment (OursAt start i) past) where
    owned_word : (j : ℕ) (operation : Operation) (word : OpWord) → GrantedAt i (said (notes.Op j operation word)) past → OwnedAt start i (said (notes.Op j operation word)) past
    owned_word j operations.Login words.Done x = λ e. got_had past (x e) g
    owned_word j operations.Login (words.Refused status) x = tt
    owned_word j operations.Login words.Conflict x = tt
    owned_word j operations.Login words.Error x = tt
    owned_word j operations.Login words.Reset x = tt
    owned_word j operations.Login (words.Count count) x = tt
    owned_word j operations.Login (words.Bad fault) x = tt
    owned_word j operations.Login words.NoUnit x = tt
    owned_word j operations.Login (words.State value) x = tt
    owned_word j operations.Rom word x = tt
    owned_word j operations.Query word x = tt
    owned_word j operations.Reconnect word x = tt
    owned_word j operations.Logout word x = tt
    owned_word j operations.Abort word x = tt
    owned_word j operations.AbortSet word x = tt
    owned_word j operations.UnitReset word x = tt
    owned_word j operations.TargetReset word x = tt
    owned_word j operations.AgentReset word x = tt
    owned_word j operations.State word x = tt
    owned_word j operations.Enable word x = tt

    owned_note : (note : Note) → GrantedAt i (said note) past → OwnedAt start i (said note) past
    owned_note (notes.Op j operation word) x = owned_word j operation word x
    owned_note note x = tt

    owned_moment : (moment : Moment) → GrantedAt i moment past → OwnedAt start i moment past
    owned_moment (asked line event) x = tt
    owned_moment (said note) x = owned_note note x

  pub owned_of : (past : List Moment) → EachMoment (GrantedAt i) past → EachMoment (OursAt start i) past → EachMoment (OwnedAt start i) past
  owned_of [] x g = tt
  owned_of (moment ∷ past) x g = (owned_moment past g.1 moment x.0, owned_of past x.1 g.1)
