use Rattle.std.proofs.Common.{rules}
use Rattle.config_url.proofs.UrlPieces.{counted}
use Rattle.config_url.proofs.UrlParts.{no_scheme, no_mark}
use Rattle.config_url.proofs.parts.cut_scheme.Goals as goal

pub is_scheme-requires : goal.is_scheme-requires
is_scheme-requires c =
    (counted c.scheme_length.ensures.count c.split_at.ensures.front c.split_at.ensures.back).pass

pub returns-then-not-is_scheme : goal.returns-then-not-is_scheme
returns-then-not-is_scheme c =
    no_scheme c.split_at.result.1.now
    (counted c.scheme_length.ensures.count c.split_at.ensures.front c.split_at.ensures.back) (search rules)

pub returns-in_err-rest : goal.returns-in_err-rest
returns-in_err-rest c =
    rw c.from_residual.ensures (no_mark c.split_at.result.1.now
    (counted c.scheme_length.ensures.count c.split_at.ensures.front c.split_at.ensures.back) c.in_err-rest.ensures)
