use Rattle.std.proofs.Common.{rules}
use Rattle.config_path.specs.contracts.path.PathHash.TheImpl.Laws.{respects_eq-law}
use Rattle.config_path.specs.contracts.path.PathOrd.TheImpl.Laws.{matches_eq-law, matches_partial_cmp-law}
use Rattle.config_path.specs.contracts.path.PathOrd.TheImpl.Laws.{total-law}
use Rattle.config_path.proofs.laws.paths.path_order.Goals as goal

pub returns-clause-order : goal.returns-clause-order
returns-clause-order c =
    record {
      equal = search rules;
      ordered = search rules;
      partial = matches_partial_cmp-law;
      total = total-law;
      agrees = matches_eq-law;
      hashes = respects_eq-law;
    }
