-- What holds of the response in its buffer where a status of 00 waits for a login holds of it where one is got, and so of the response of each login that was done: with the count of logins that its host had asked
-- for then.
use Rattle.sbp_world.proofs.Words.Std.{sym, subst, refl, ℕ, List, [], ◌∷◌, ◌++◌, map}
use Rattle.sbp_world.proofs.Words.Wire.{SerialsCount, Moment, asked, said, Event, Note, Operation, OpWord}
use Rattle.sbp_world.proofs.Words.Target.{Disk}
use Rattle.sbp_world.proofs.Words.Initiator.{LoginResponse, login_response}
use Rattle.sbp_world.proofs.Words.Laws.{host_at, known_host, response_of, EachMoment}
use Rattle.sbp_world.proofs.Words.World.{AreAsked, GrantedAt, IsAnswerTo, IsGot}
use Rattle.sbp_journal.specs.declared.note.Note.TheVariants as notes
use Rattle.sbp_journal.specs.declared.operation.Operation.TheVariants as operations
use Rattle.sbp_journal.specs.declared.operation.OpWord.TheVariants as words
use Rattle.sbp_world.proofs.Completing.LatestGranted.{DoneAt}
use Rattle.sbp_world.proofs.Completing.LatestHosts.{other_same}
use Rattle.sbp_world.proofs.Lists.Gots.{Next, next, next_line, same_still}
use Rattle.sbp_world.proofs.Lists.LiveBased.{Buffered, here_tells, line_tells, same_response, told_well}
use Rattle.sbp_world.proofs.Lists.LiveLeads.{hands_before}
use Rattle.sbp_world.proofs.Lists.ManageMoments.{Hands, LineFacts, MayHand}
use Rattle.sbp_world.proofs.Lists.Quiet.{AllQuiet, IsQuiet}

-- as a status of 00 is got for a login, it holds of the response in its buffer
abbrev pub ToldAt : (LoginResponse → ℕ → Type 0) → ℕ → Moment → List Moment → Type 0
ToldAt Good i (said (notes.Got serial)) past = IsAnswerTo past i serial operations.Login 0 → Good (login_response (response_of (host_at past i))) (host_at past i).logins
ToldAt Good i moment past = Unit {0}

-- ---- what follows from it
module _ (Old New : LoginResponse → ℕ → Type 0) (on : (response : LoginResponse) (count : ℕ) → Old response count → New response count) (i : ℕ) where
  one_on : (moment : Moment) (past : List Moment) → ToldAt Old i moment past → ToldAt New i moment past
  one_on (asked line event) past h = tt
  one_on (said (notes.Got serial)) past h = λ a. on (login_response (response_of (host_at past i))) (host_at past i).logins (h a)
  one_on (said note) past h = tt

  pub each_on : (past : List Moment) → EachMoment (ToldAt Old i) past → EachMoment (ToldAt New i) past
  each_on [] h = tt
  each_on (moment ∷ past) h = (one_on moment past h.0, each_on past h.1)

-- ---- a turn
module _ (Good : LoginResponse → ℕ → Type 0) (start : List Disk) (before : List Moment) (i : ℕ) (counts : SerialsCount before) (contents : AreAsked start before) (named : Buffered (λ response. Good response (host_at before i).logins) start before i) where
  -- its first note
  told_first : (moment : Moment) → MayHand start i moment before → ToldAt Good i moment before
  told_first (asked line event) h = tt
  told_first (said (notes.Got serial)) h = λ a. told_well (λ response. Good response (host_at before i).logins) start before i named (here_tells start before i counts contents serial operations.Login 0 h a) a.underway a.is a.same
  told_first (said note) h = tt

  told_line : (line : ℕ) (event : Event) → LineFacts before → (note : Note) → MayHand start i (said note) (asked line event ∷ before) → ToldAt Good i (said note) (asked line event ∷ before)
  told_line line event l (notes.Got serial) h = λ a. told_well (λ response. Good response (host_at before i).logins) start before i named (line_tells start before i counts contents serial operations.Login 0 line event l h a) a.underway a.is a.same
  told_line line event l note h = tt

  told_quiet : (note : Note) (past : List Moment) → IsQuiet note → ToldAt Good i (said note) past
  told_quiet (notes.Got serial) past q = absurd q
  told_quiet note past q = tt

  told_more : (front : List Note) (past : List Moment) → AllQuiet front → EachMoment (ToldAt Good i) past → EachMoment (ToldAt Good i) (map said front ++ past)
  told_more [] past q g = g
  told_more (note ∷ front) past q g = (told_quiet note (map said front ++ past) q.0, told_more front past q.1 g)

  pub told_turn : (now : List Moment) → Next before now → Hands start i now → EachMoment (ToldAt Good i) before → EachMoment (ToldAt Good i) now
  told_turn now (same_still e) h g = subst (EachMoment (ToldAt Good i)) (sym e) g
  told_turn now (next front q moment is) h g =
      let there = hands_before start i front (moment ∷ before) (subst (Hands start i) (sym is) h) in
      subst (EachMoment (ToldAt Good i)) is (told_more front (moment ∷ before) q (told_first moment there.0, g))
  told_turn now (next_line front q note line event is) h g =
      let there = hands_before start i front (said note ∷ asked line event ∷ before) (subst (Hands start i) (sym is) h) in
      subst (EachMoment (ToldAt Good i)) is (told_more front (said note ∷ asked line event ∷ before) q (told_line line event there.1.0 note there.0, (tt, g)))

-- ---- where a login is done
module _ (Good : LoginResponse → ℕ → Type 0) (i : ℕ) where
  got_good : (past : List Moment) → IsGot i operations.Login 0 past → EachMoment (ToldAt Good i) past → Good (login_response (response_of (host_at past i))) (host_at past i).logins
  got_good (said (notes.Got serial) ∷ past) a g =
      let now = said (notes.Got serial) ∷ past in
      subst (λ count. Good (login_response (response_of (host_at now i))) count) (sym (other_same (notes.Got serial) past (known_host past i).wire i (host_at past i) refl).logins)
      (subst (λ r. Good (login_response r) (host_at past i).logins) (sym (same_response past i serial operations.Login 0 a)) (g.0 a))
  got_good past a g = absurd a

  module _ (past : List Moment) (g : EachMoment (ToldAt Good i) past) where
    done_word : (j : ℕ) (operation : Operation) (word : OpWord) → GrantedAt i (said (notes.Op j operation word)) past → DoneAt Good i (said (notes.Op j operation word)) past
    done_word j operations.Login words.Done x = λ e. got_good past (x e) g
    done_word j operations.Login (words.Refused status) x = tt
    done_word j operations.Login words.Conflict x = tt
    done_word j operations.Login words.Error x = tt
    done_word j operations.Login words.Reset x = tt
    done_word j operations.Login (words.Count count) x = tt
    done_word j operations.Login (words.Bad fault) x = tt
    done_word j operations.Login words.NoUnit x = tt
    done_word j operations.Login (words.State value) x = tt
    done_word j operations.Rom word x = tt
    done_word j operations.Query word x = tt
    done_word j operations.Reconnect word x = tt
    done_word j operations.Logout word x = tt
    done_word j operations.Abort word x = tt
    done_word j operations.AbortSet word x = tt
    done_word j operations.UnitReset word x = tt
    done_word j operations.TargetReset word x = tt
    done_word j operations.AgentReset word x = tt
    done_word j operations.State word x = tt
    done_word j operations.Enable word x = tt

    done_note : (note : Note) → GrantedAt i (said note) past → DoneAt Good i (said note) past
    done_note (notes.Op j operation word) x = done_word j operation word x
    done_note note x = tt

    done_moment : (moment : Moment) → GrantedAt i moment past → DoneAt Good i moment past
    done_moment (asked line event) x = tt
    done_moment (said note) x = done_note note x

  pub grants_of : (past : List Moment) → EachMoment (GrantedAt i) past → EachMoment (ToldAt Good i) past → EachMoment (DoneAt Good i) past
  grants_of [] x g = tt
  grants_of (moment ∷ past) x g = (done_moment past g.1 moment x.0, grants_of past x.1 g.1)
