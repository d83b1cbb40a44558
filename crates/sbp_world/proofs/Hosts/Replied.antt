-- What stands behind the history in which an initiator gets a block read, and what the response brings.
use Rattle.sbp_world.proofs.Words.Std.{AllByRecursion}
use Rattle.sbp_world.proofs.Words.Wire.{reading, is_plain, Access, Moment, said, terms, Note}
use Rattle.sbp_world.proofs.Words.Initiator.{Payload}
use Rattle.sbp_world.proofs.Words.Laws.{answer_in, spelled_by, host_reply}
use Rattle.sbp_world.proofs.Words.World.{IsReadWith, payload_of}
use Rattle.std.specs.Prelude.{◌≡◌, ℕ, suc, ◌+◌, true, List, ◌∷◌, ◌++◌, length, map}
use Rattle.sbp_journal.specs.declared.note.Note.TheVariants as notes
use Rattle.sbp_world.specs.Hosts.Carrying.{IsServed}
use Rattle.sbp_world.proofs.Hosts.OrbTerms.{orb_terms}

-- Behind the note that it was got stand plain effects, which say nothing of ORBs, and the response. Where that tells bytes, the read was served so; and
-- it does where the read is complete, with as many bytes as were asked for.
pub record IsReplied (past : List Moment) (i serial : ℕ) (access : Access) (now : List Moment) : Type 0 where
  pub effects : List Note
  pub plain : AllByRecursion (λ note. is_plain note ≡ true) effects
  pub orbs : orb_terms (map said effects ++ said (notes.Got serial) ∷ past) i ≡ orb_terms past i
  pub to : ℕ
  pub bytes : List ℕ
  pub is : now ≡ said (notes.Sent ((terms past).count + 1) ((terms past).generation (suc i)) (suc i) to bytes) ∷ (map said effects ++ said (notes.Got serial) ∷ past)
  pub served : (payload : List ℕ) → answer_in (spelled_by (reading bytes)) ≡ Payload payload → IsServed past i access payload
  pub tells : (host_reply past i access).rcode ≡ 0 → answer_in (spelled_by (reading bytes)) ≡ Payload (payload_of bytes)
  pub sized : (host_reply past i access).rcode ≡ 0 → length (payload_of bytes) ≡ access.count
  -- and so it is a read, with that payload, and behind that history
  pub reads : IsReadWith past i serial (λ before payload. (before ≡ map said effects ++ said (notes.Got serial) ∷ past) × (payload ≡ payload_of bytes)) now
