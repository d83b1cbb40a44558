-- The words of a line, each behind a blank.
use Rattle.std.proofs.Common.{◌≡◌, ◌∙◌, sym, ap, ℕ, List, [], ◌∷◌, ◌++◌, map, append_assoc, append-nil}
use Rattle.std.specs.List.{join_with_byte}
use Rattle.orb_layout.specs.declared.status.StatusKind.{StatusKind}
use Rattle.orb_layout.specs.declared.status.StatusKind.TheVariants.{Good, Check, Dummy, Aborted, Illegal, Failed, Management}
use Rattle.sbp_journal.specs.Form.{IsStatus, IsAnswer}
use Rattle.line_text.specs.Fields.{Field, word, further}
use Rattle.sbp_journal.specs.Text.{keyword, fields, note_text}
use Rattle.sbp_journal.specs.declared.note.Note.{Note}

-- a status with an answer is one of an ORB
pub answer_status : (status : StatusKind) (answer : List ℕ) → IsAnswer status answer → IsStatus status
answer_status Good answer h = tt
answer_status (Check sense) answer h = h.1
answer_status Dummy answer h = tt
answer_status Aborted answer h = tt
answer_status (Illegal meaning) answer h = tt
answer_status Failed answer h = tt
answer_status (Management meaning) answer h = h.1

join-further : (w : List ℕ) (fs : List Field) → join_with_byte 32 (w ∷ map word fs) ≡ w ++ further fs
join-further w [] = sym (append-nil w)
join-further w (f ∷ fs) = ap (λ rest. w ++ 32 ∷ rest) (join-further (word f) fs)

-- the line of a note is its keyword, its further words and a line feed
pub line_is : (out : List ℕ) (note : Note) → ((out ++ keyword note) ++ further (fields note)) ++ 10 ∷ [] ≡ out ++ note_text note
line_is out note =
    regroup out (keyword note) (further (fields note)) ∙ ap (λ line. out ++ (line ++ 10 ∷ [])) (sym (join-further (keyword note) (fields note)))
  where
    regroup : (a b c : List ℕ) → ((a ++ b) ++ c) ++ 10 ∷ [] ≡ a ++ ((b ++ c) ++ 10 ∷ [])
    regroup a b c = simp append_assoc

-- some words behind bytes that stand at two places
pub words_behind : (bytes room more bytes1 room1 words room2 : List ℕ) → bytes1 ++ room1 ≡ bytes ++ (room ++ more) → room2 ≡ room1 ++ words → bytes1 ++ room2 ≡ bytes ++ (room ++ (more ++ words))
words_behind bytes room more bytes1 room1 words room2 e f =
    ap (λ (l : List ℕ). bytes1 ++ l) f
    ∙ sym (append_assoc bytes1 room1 words)
    ∙ ap (λ (l : List ℕ). l ++ words) e
    ∙ append_assoc bytes (room ++ more) words
    ∙ ap (λ (l : List ℕ). bytes ++ l) (append_assoc room more words)

-- the same of the words of a note and its line feed, with room made before and behind the words
pub line_behind : (bytes room bytes1 room1 bytes2 room2 bytes3 room3 room4 : List ℕ) (note : Note)
    → bytes1 ++ room1 ≡ bytes ++ room
    → bytes2 ++ room2 ≡ bytes1 ++ (room1 ++ (keyword note ++ further (fields note)))
    → bytes3 ++ room3 ≡ bytes2 ++ room2
    → room4 ≡ room3 ++ 10 ∷ []
    → bytes3 ++ room4 ≡ (bytes ++ room) ++ note_text note
line_behind bytes room bytes1 room1 bytes2 room2 bytes3 room3 room4 note first words second feed =
    let all = keyword note ++ further (fields note) in
    words_behind bytes1 room1 all bytes3 room3 (10 ∷ []) room4 (second ∙ words) feed
    ∙ sym (append_assoc bytes1 room1 (all ++ 10 ∷ []))
    ∙ ap (λ (l : List ℕ). l ++ (all ++ 10 ∷ [])) first
    ∙ sym (append_assoc (bytes ++ room) all (10 ∷ []))
    ∙ ap (λ (l : List ℕ). l ++ 10 ∷ []) (sym (append_assoc (bytes ++ room) (keyword note) (further (fields note))))
    ∙ line_is (bytes ++ room) note
