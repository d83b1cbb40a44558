use Rattle.orb_layout.proofs.StatusForth.{status_forth}
use Rattle.orb_layout.proofs.laws.status_block_writes_back.Goals as goal

-- src/laws.rt:28:1
pub returns : goal.returns
returns c = status_forth
