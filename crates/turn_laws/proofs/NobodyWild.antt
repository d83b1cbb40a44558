-- A law that leaves out a set of initiators leaves out nobody where the set is empty.
use Rattle.std.proofs.Common.{◌≡◌, ◌∙◌, refl, sym, ap, ℕ, suc, zero, ◌&&◌, not, Bool, true, false, List, [], ◌∷◌, Option, Some, None}
use Rattle.rbc_disk.specs.Disk.{Disk}
use Rattle.sbp_journal.specs.Run.{Moment, said}
use Rattle.sbp_journal.specs.Transactions.{Sending}
use Rattle.sbp_journal.specs.Wire.{Terms, terms}
use Rattle.sbp_journal.specs.declared.cause.Cause.{Cause}
use Rattle.sbp_journal.specs.declared.cause.Cause.TheVariants as causes
use Rattle.sbp_journal.specs.declared.note.Note.TheVariants as notes
use Rattle.orb_layout.specs.declared.status.StatusKind.TheVariants as kinds
use Rattle.orb_layout.specs.Replies.{Answer}
use Rattle.sbp_laws.specs.AnswerLaw.{AnswerAt, AnswerLaw}
use Rattle.sbp_laws.specs.CarriedLaw.{CarriedAt, CarriedLaw}
use Rattle.sbp_laws.specs.CauseLaw.{AbortedAt}
use Rattle.sbp_laws.specs.ExecutionLaw.{ExecutionAt, ExecutionLaw}
use Rattle.sbp_laws.specs.Lawful.{nobody}
use Rattle.sbp_laws.specs.OnceLaw.{ClosesOne, IsNew, Judges, OnceAt, OnceLaw, is_between, is_done, is_fair, is_wild, is_write_in}
use Rattle.sbp_laws.specs.OrderLaw.{OrderAt, OrderLaw}
use Rattle.sbp_laws.specs.Packets.{access_at}
use Rattle.sbp_laws.specs.StatusLaw.{TakenAt}
use Rattle.sbp_laws.specs.Turns.{EachMoment}
use Rattle.turn_laws.specs.Aborted.{AbortedIf}

module _ (P Q : Moment → List Moment → Type 0) (brings_it : (moment : Moment) (past : List Moment) → P moment past → Q moment past) where
  pub each_moment : (past : List Moment) → EachMoment P past → EachMoment Q past
  each_moment [] h = tt
  each_moment (moment ∷ past) h = (brings_it moment past h.0, each_moment past h.1)

module _ (wild : ℕ → Bool) (none : (i : ℕ) → wild i ≡ false) where
  not_wild : {A : Type 0} (i : ℕ) → wild i ≡ true → A
  not_wild i e = absurd (let no : true ≡ false = sym e ∙ none i in cc)

  -- ---- the once law
  same_node : (node : ℕ) → is_wild nobody node ≡ is_wild wild node
  same_node zero = refl
  same_node (suc i) = sym (none i)

  same_fair : (packet : Option Sending) → is_fair nobody packet ≡ is_fair wild packet
  same_fair None = refl
  same_fair (Some packet) = ap (λ b. not packet.injected && not b) (same_node packet.from)

  same_between : (packet : Option Sending) → is_between nobody packet ≡ is_between wild packet
  same_between None = refl
  same_between (Some packet) = ap (λ b. not packet.injected && not b && not (is_wild nobody packet.to)) (same_node packet.from)
      ∙ ap (λ b. not packet.injected && not (is_wild wild packet.from) && not b) (same_node packet.to)

  once_new : (wire : Terms) (serial : ℕ) → IsNew wild wire serial → IsNew nobody wire serial
  once_new wire serial law e = law (ap (λ b. b && is_write_in (access_at wire serial)) (sym (same_fair (wire.sent serial))) ∙ e)

  closes_one : (wire : Terms) (own : Option ℕ) (answer : Answer) → ClosesOne wild wire own answer → ClosesOne nobody wire own answer
  closes_one wire None answer law = tt
  closes_one wire (Some own) answer law = λ e. law (ap (λ b. b && is_write_in (access_at wire own) && is_done answer) (sym (same_between (wire.sent own))) ∙ e)

  judged : (wire : Terms) (cause : Cause) (serial : ℕ) → Judges wild wire cause serial → Judges nobody wire cause serial
  judged wire causes.Generation serial law = tt
  judged wire causes.Again serial law = tt
  judged wire cause serial law = once_new wire serial law

  once_at : (moment : Moment) (past : List Moment) → OnceAt wild moment past → OnceAt nobody moment past
  once_at (said (notes.Got serial)) past law = (once_new (terms past) serial law.0, closes_one (terms past) _ _ law.1)
  once_at (said (notes.Ignored serial cause)) past law = judged (terms past) cause serial law
  once_at moment past law = tt

  pub once_of_all : (past : List Moment) → OnceLaw wild past → OnceLaw nobody past
  once_of_all = each_moment (OnceAt wild) (OnceAt nobody) once_at

  -- ---- the laws of lists
  order_at : (moment : Moment) (past : List Moment) → OrderAt wild moment past → OrderAt nobody moment past
  order_at (said (notes.Append i n k cdb buffer)) past law = law
  order_at (said (notes.Ran i (Some n) (Some k) unit cdb bytes check)) past law = λ e. law (none i)
  order_at (said (notes.Ran i n k unit cdb bytes check)) past law = not_wild i law
  order_at (said (notes.Ended i (Some n) (Some k) status)) past law = λ e. law (none i)
  order_at (said (notes.Ended i n k status)) past law = not_wild i law
  order_at moment past law = tt

  pub order_of_all : (past : List Moment) → OrderLaw wild past → OrderLaw nobody past
  order_of_all = each_moment (OrderAt wild) (OrderAt nobody) order_at

  execution_at : (start : List Disk) (moment : Moment) (past : List Moment) → ExecutionAt wild start moment past → ExecutionAt nobody start moment past
  execution_at start (said (notes.Ran i (Some n) (Some k) unit cdb bytes check)) past law = λ e. law (none i)
  execution_at start (said (notes.Ended i (Some n) (Some k) status)) past law = λ e. law (none i)
  execution_at start moment past law = tt

  pub execution_of_all : (start : List Disk) (past : List Moment) → ExecutionLaw wild start past → ExecutionLaw nobody start past
  execution_of_all start = each_moment (ExecutionAt wild start) (ExecutionAt nobody start) (execution_at start)

  taken_at : (moment : Moment) (past : List Moment) → TakenAt wild moment past → TakenAt nobody moment past
  taken_at (said (notes.Taken i n k status answer)) past law = λ e. law (none i)
  taken_at moment past law = tt

  pub taken_of_all : (past : List Moment) → EachMoment (TakenAt wild) past → EachMoment (TakenAt nobody) past
  taken_of_all = each_moment (TakenAt wild) (TakenAt nobody) taken_at

  answer_at : (start : List Disk) (moment : Moment) (past : List Moment) → AnswerAt wild start moment past → AnswerAt nobody start moment past
  answer_at start (said (notes.Taken i n k kinds.Good answer)) past law = λ e. law (none i)
  answer_at start moment past law = tt

  pub answer_of_all : (start : List Disk) (past : List Moment) → AnswerLaw wild start past → AnswerLaw nobody start past
  answer_of_all start = each_moment (AnswerAt wild start) (AnswerAt nobody start) (answer_at start)

  carried_at : (start : List Disk) (moment : Moment) (past : List Moment) → CarriedAt wild start moment past → CarriedAt nobody start moment past
  carried_at start (said (notes.Ran i (Some n) (Some k) unit cdb bytes check)) past law = λ e. law (none i)
  carried_at start (said (notes.Ended i (Some n) (Some k) kinds.Failed)) past law = tt
  carried_at start (said (notes.Ended i (Some n) (Some k) status)) past law = λ e. law (none i)
  carried_at start (said (notes.Taken i n k kinds.Good answer)) past law = λ e. law (none i)
  carried_at start moment past law = tt

  pub carried_of_all : (start : List Disk) (past : List Moment) → CarriedLaw wild start past → CarriedLaw nobody start past
  carried_of_all start past law = record { carried = each_moment (CarriedAt wild start) (CarriedAt nobody start) (carried_at start) past law.carried; due = law.due }

  -- ---- aborted ORBs
  aborted_at : (start : List Disk) (moment : Moment) (past : List Moment) → AbortedIf start wild moment past → AbortedAt start moment past
  aborted_at start (said (notes.Ended i (Some n) (Some k) kinds.Aborted)) past law = law (none i)
  aborted_at start moment past law = tt

  pub aborted_of_all : (start : List Disk) (past : List Moment) → EachMoment (AbortedIf start wild) past → EachMoment (AbortedAt start) past
  aborted_of_all start = each_moment (AbortedIf start wild) (AbortedAt start) (aborted_at start)
