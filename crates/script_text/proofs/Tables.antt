-- Rows are looked up table by table.
use Rattle.script_words.proofs.Tables.{look-append}

pub ruleset look_in_turn = (look-append)
