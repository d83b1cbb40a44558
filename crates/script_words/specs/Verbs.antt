-- The commands that words name, and the words that announce a further word.
use Rattle.std.specs.Prelude.{ℕ, if◌then◌else◌, List, [], ◌∷◌, ◌++◌, codes, bytes_eq, Option, Some, None}
use Rattle.script_words.specs.declared.verb.Verb.{Verb}
use Rattle.script_words.specs.declared.verb.Verb.TheVariants as verbs
use Rattle.script_words.specs.declared.fixed.FixedWord.{FixedWord}
use Rattle.script_words.specs.declared.fixed.FixedWord.TheVariants.{Excl, Pass, Seg, Pay}

-- what a word stands for in a table
abbrev pub look : {A : Type 0} → List (List ℕ × A) → List ℕ → Option A
look [] word = None
look (entry ∷ entries) word = if bytes_eq word entry.0 then Some entry.1 else look entries word

-- the commands without blocks
unfoldable pub plain_verbs : List (List ℕ × Verb)
plain_verbs =
    (codes "tur", verbs.Ready)
    ∷ (codes "inquiry", verbs.Inquiry)
    ∷ (codes "start", verbs.Start)
    ∷ (codes "stop", verbs.Stop)
    ∷ (codes "eject", verbs.Eject)
    ∷ (codes "load", verbs.Load)
    ∷ (codes "prevent", verbs.Prevent)
    ∷ (codes "allow", verbs.Allow)
    ∷ (codes "capacity", verbs.Capacity)
    ∷ (codes "sync", verbs.Sync)
    ∷ []

-- the commands on blocks
unfoldable pub block_verbs : List (List ℕ × Verb)
block_verbs =
    (codes "read", verbs.Read)
    ∷ (codes "read12", verbs.Read12)
    ∷ (codes "verify", verbs.Verify)
    ∷ (codes "write", verbs.Write)
    ∷ (codes "write12", verbs.Write12)
    ∷ []

abbrev pub verb_of : List ℕ → Option Verb
verb_of word = look (plain_verbs ++ block_verbs) word

abbrev pub fixed_word : FixedWord → List ℕ
fixed_word Excl = codes "excl"
fixed_word Pass = codes "pass"
fixed_word Seg = codes "seg"
fixed_word Pay = codes "pay"
