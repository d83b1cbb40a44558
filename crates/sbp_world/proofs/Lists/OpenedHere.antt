-- An agent that has a list open has the list for which the write that opened it was named: the present one, or the latest one while its initiator is ahead.
use Rattle.sbp_world.proofs.Words.Std.{arith, ◌≡◌, ◌∙◌, refl, sym, ap, ◌&&◌, ℕ, suc, nat_eq, Bool, true, false, cond, List, [], ◌∷◌, ◌++◌, Option, Some, None, nat_tests, same_Some}
use Rattle.sbp_world.proofs.Words.Wire.{Moment, asked, said, Sending, terms, Note}
use Rattle.sbp_world.proofs.Words.Initiator.{slot_of}
use Rattle.sbp_world.proofs.Words.Laws.{list_in, named_in}
use Rattle.sbp_world.proofs.Words.World.{holder, WorldState, AreHere, IsHere, Under, WhereTameOrFew, initiator_in, is_open_at, machine_at, AreAllOpenFor, AreOpenFor, AsGot, IsOpenFor, IsUp, as_got, got_as, view, AreNamedFor}
use Rattle.sbp_journal.specs.declared.note.Note.TheVariants as notes
use Rattle.sbp_world.proofs.Lists.OpenTurns.{listing_up}

-- ---- when a packet was got first
pub record WasGot (past : List Moment) (serial i address : ℕ) (packet : Option Sending) (list : Option ℕ) : Type 0 where
  pub later : List Moment
  pub earlier : List Moment
  pub is : later ++ said (notes.Got serial) ∷ earlier ≡ past
  pub sent : (terms earlier).sent serial ≡ packet
  pub list_is : list ≡ list_in (named_in earlier i (slot_of address))

none_got : {A : Type 0} (packet : Option Sending) (list : Option ℕ) → None ≡ as_got packet list → A
none_got packet list e = absurd (let no : None ≡ as_got packet list = e in cc)

one_more : (m : Moment) (past : List Moment) (serial i address : ℕ) (packet : Option Sending) (list : Option ℕ) → WasGot past serial i address packet list → WasGot (m ∷ past) serial i address packet list
one_more m past serial i address packet list g = record { later = m ∷ g.later; earlier = g.earlier; is = ap (λ ms. m ∷ ms) g.is; sent = g.sent; list_is = g.list_is }

packet_same : (a b : Option Sending) (x y : Option ℕ) → as_got a x ≡ as_got b y → a ≡ b
packet_same a b x y e = ap (λ (g : AsGot). g.packet) (same_Some _ _ e)

list_same : (a b : Option Sending) (x y : Option ℕ) → as_got a x ≡ as_got b y → x ≡ y
list_same a b x y e = ap (λ (g : AsGot). g.list) (same_Some _ _ e)

got_here : (serial s i address : ℕ) (past : List Moment) (packet : Option Sending) (list : Option ℕ) (a b : Bool) → nat_eq s serial ≡ a → cond (a && b) (as_got ((terms past).sent serial) (list_in (named_in past i (slot_of address)))) (got_as past s i address) ≡ as_got packet list → (got_as past s i address ≡ as_got packet list → WasGot past s i address packet list) → WasGot (said (notes.Got serial) ∷ past) s i address packet list
got_here serial s i address past packet list true true f e rest =
    let own : serial ≡ s = grind (arith, nat_tests) in
    record {
      later = [];
      earlier = past;
      is = ap (λ n. said (notes.Got n) ∷ past) (sym own);
      sent = ap (terms past).sent (sym own) ∙ packet_same ((terms past).sent serial) packet _ list e;
      list_is = sym (list_same ((terms past).sent serial) packet (list_in (named_in past i (slot_of address))) list e);
    }
got_here serial s i address past packet list true false f e rest = one_more (said (notes.Got serial)) past s i address packet list (rest e)
got_here serial s i address past packet list false b f e rest = one_more (said (notes.Got serial)) past s i address packet list (rest e)

got_note : (note : Note) (past : List Moment) (s i address : ℕ) (packet : Option Sending) (list : Option ℕ) → got_as (said note ∷ past) s i address ≡ as_got packet list → (got_as past s i address ≡ as_got packet list → WasGot past s i address packet list) → WasGot (said note ∷ past) s i address packet list
got_note (notes.Got serial) past s i address packet list e rest = got_here serial s i address past packet list (nat_eq s serial) (nat_eq ((terms past).news serial) 0) refl e rest
got_note note past s i address packet list e rest = one_more (said note) past s i address packet list (rest e)

pub got_found : (past : List Moment) (s i address : ℕ) (packet : Option Sending) (list : Option ℕ) → got_as past s i address ≡ as_got packet list → WasGot past s i address packet list
got_found [] s i address packet list e = none_got packet list e
got_found (asked line event ∷ past) s i address packet list e = one_more (asked line event) past s i address packet list (got_found past s i address packet list e)
got_found (said note ∷ past) s i address packet list e = got_note note past s i address packet list e (λ f. got_found past s i address packet list f)

-- ---- at a place
module _ (past : List Moment) (w : WorldState) (i : ℕ) (o : AreOpenFor (view past i) w i) (names : AreNamedFor past i) where
  is_up : (place : ℕ) → is_open_at w place ≡ true → initiator_in w place ≡ i → IsUp w i place
  is_up place open_there own = record { up = listing_up (machine_at w place).phase open_there; own = own }

  pub has_list : (place : ℕ) → (f : IsOpenFor (view past i) i place (holder w place).list) → (holder w place).list ≡ Some f.list
  has_list place f =
      let g = got_found past f.serial i f.address (Some f.packet) (holder w place).list f.named in
      let n = names g.later g.earlier f.serial f.packet place f.address g.is g.sent f.at in
      g.list_is ∙ ap list_in n.there ∙ (sym n.pointed ∙ f.pointed)

  pub is_here : IsHere past w i
  is_here = record {
    present = λ place b open_there own same.
        let f = o.each place b (is_up place open_there own) in
        f.present same ∙ sym (has_list place f);
    ahead = λ place n b open_there own l is.
        let f = o.each place b (is_up place open_there own) in
        let e : f.list ≡ n = same_Some f.list n (sym (has_list place f) ∙ is) in
        ap suc (sym e) ∙ f.ahead l;
  }

-- ---- at the places before which lists were so
pub here_of : Under (WhereTameOrFew AreAllOpenFor) → Under (WhereTameOrFew AreHere)
here_of law = record {
  after_lines = λ line run r has small size so_far beside i b calm names. is_here _ _ i (law.after_lines line run r has small size so_far beside i b calm) names;
  between = λ line run r has small size next most told m so_far beside i b calm names. is_here _ _ i (law.between line run r has small size next most told m so_far beside i b calm) names;
}
