-- The run that a queue stands for is one of a script.
use Rattle.std.proofs.Common.{arith, ℕ, ◌+◌, ◌^◌, ◌<◌, ◌≤◌, suc, subst, sym, length}
use Rattle.sbp_world.specs.Wire.Keeping.{IsLikeAScripts}
use Rattle.retry_queue.specs.Runs.{StandsForRuns}
use Rattle.retry_queue.proofs.ScriptRuns.{short_run}

few_lines : (entries lines : ℕ) → suc entries ≤ lines → lines ≤ 65536 → entries + 2 < 2 ^ 32
few_lines entries lines less most = omega (arith, less, most)

few_initiators : 1 ≤ 4
few_initiators = omega arith

pub stands_for_runs : StandsForRuns
stands_for_runs served run s stands lines most media some few =
    let like : IsLikeAScripts run = record {
      few = subst (λ n. n ≤ 4) (sym stands.one) few_initiators;
      media = media;
      count = few_lines (length run.entries) (length served) (short_run served stands.line run stands.history) most;
      lines = stands.lines;
    } in
    record {
      lines = lines;
      count = most;
      history = stands.history;
      one = stands.one;
      some = some;
      most = few;
      like = like;
      entries_are = stands.stands.stands.lines;
      laws = stands.stands.has_laws stands.line like;
    }
