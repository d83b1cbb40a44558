-- One transaction or one request after the other.
use Rattle.std.specs.Prelude.{◌≡◌, ℕ, ◌+◌, ◌<◌, ◌≤◌, Bool, true, false, List, ◌∷◌, length, drop, slice_index_or, Option, Some, None, refl, if◌then◌else◌}
use Rattle.std.proofs.Common.{ap, sym, ◌∙◌}
use Rattle.std.proofs.lemmas.List.{at_drop_more, drop_all}
use Rattle.label_table.specs.Layer.{Layer}
use Rattle.login_table.specs.declared.login.Login.{Login}
use Rattle.orb_layout.specs.declared.ask.Ask.{Ask}
use Rattle.task_target.specs.declared.purpose.TaskPurpose.{TaskPurpose}
use Rattle.task_target.specs.declared.purpose.Sent.{Sent}
use Rattle.task_target.specs.Nodes.{Scene}
use Rattle.task_target.specs.Following.{all_disowned, ask_place, asks_sent, disowned}

first_disowned : (sent : Option Sent) (sents : List (Option Sent)) (layer : Layer TaskPurpose) → all_disowned (sent ∷ sents) layer ≡ all_disowned sents (disowned sent layer)
unfolding all_disowned
first_disowned sent sents layer = refl

pub disowning : (sents : List (Option Sent)) (at : ℕ) (d : Option Sent) (layer : Layer TaskPurpose) → at < length sents → all_disowned (drop at sents) layer ≡ all_disowned (drop (at + 1) sents) (disowned (slice_index_or sents at d) layer)
disowning sents at d layer h =
    at_drop_more (λ more. all_disowned more layer) sents at d h ∙ first_disowned (slice_index_or sents at d) (drop (at + 1) sents) layer

pub disowned_all : (sents : List (Option Sent)) (at : ℕ) (layer : Layer TaskPurpose) → length sents ≤ at → all_disowned (drop at sents) layer ≡ layer
unfolding all_disowned
disowned_all sents at layer h = ap (λ (more : List (Option Sent)). all_disowned more layer) (drop_all at sents h)

first_sent : (login : Login) (is_status : Bool) (one : ℕ × Ask) (more : List (ℕ × Ask)) (s t : Scene) → (true, t) ≡ ask_place login is_status one.0 one.1 s → asks_sent login is_status (one ∷ more) s ≡ asks_sent login is_status more t
unfolding asks_sent
first_sent login is_status one more s t e = ap (λ (x : Bool × Scene). if x.0 then asks_sent login is_status more x.1 else (Some one.0, x.1)) (sym e)

first_lost : (login : Login) (is_status : Bool) (one : ℕ × Ask) (more : List (ℕ × Ask)) (s t : Scene) → (false, t) ≡ ask_place login is_status one.0 one.1 s → asks_sent login is_status (one ∷ more) s ≡ (Some one.0, t)
unfolding asks_sent
first_lost login is_status one more s t e = ap (λ (x : Bool × Scene). if x.0 then asks_sent login is_status more x.1 else (Some one.0, x.1)) (sym e)

-- the request at a place of the list, which leaves or finds no label, where those before it left
module _ (login : Login) (is_status : Bool) (asks : List (ℕ × Ask)) (at : ℕ) (one : ℕ × Ask) (s t : Scene) (total : Option ℕ × Scene) (h : at < length asks) (is : one ≡ slice_index_or asks at one) (so : asks_sent login is_status (drop at asks) s ≡ total) where
  here : asks_sent login is_status (one ∷ drop (at + 1) asks) s ≡ total
  here = ap (λ (x : ℕ × Ask). asks_sent login is_status (x ∷ drop (at + 1) asks) s) is ∙ (sym (at_drop_more (λ more. asks_sent login is_status more s) asks at one h) ∙ so)

  pub asking : (is_sent : Bool) → (is_sent, t) ≡ ask_place login is_status one.0 one.1 s → is_sent ≡ true → asks_sent login is_status (drop (at + 1) asks) t ≡ total
  asking true e n = sym (first_sent login is_status one (drop (at + 1) asks) s t e) ∙ here
  asking false e n = absurd (let no : false ≡ true = n in cc)

  pub asked_lost : (is_sent : Bool) → (is_sent, t) ≡ ask_place login is_status one.0 one.1 s → is_sent ≡ false → (Some one.0, t) ≡ total
  asked_lost false e n = sym (first_lost login is_status one (drop (at + 1) asks) s t e) ∙ here
  asked_lost true e n = absurd (let no : true ≡ false = n in cc)

pub asked_all : (login : Login) (is_status : Bool) (asks : List (ℕ × Ask)) (at : ℕ) (s : Scene) (total : Option ℕ × Scene) → length asks ≤ at → asks_sent login is_status (drop at asks) s ≡ total → (None, s) ≡ total
unfolding asks_sent
asked_all login is_status asks at s total h so = sym (ap (λ (more : List (ℕ × Ask)). asks_sent login is_status more s) (drop_all at asks h)) ∙ so
