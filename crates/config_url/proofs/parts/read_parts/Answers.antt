use Rattle.std.proofs.Common.{rules}
use Rattle.config_url.specs.UrlView.{parts_of}
use Rattle.config_url.proofs.UrlParts.{unwritten, wrong_host, wrong_port, cut_written}
use Rattle.config_url.proofs.parts.read_parts.Goals as goal

pub returns-in_err-parts : goal.returns-in_err-parts
returns-in_err-parts c = rw c.from_residual.ensures (unwritten c.in_err-parts.ensures)

pub returns-then-not-are_host_bytes : goal.returns-then-not-are_host_bytes
returns-then-not-are_host_bytes c =
    wrong_host (parts_of c.in_ok-parts.parts) c.in_ok-parts.ensures (search rules)

pub returns-then-not-are_digits : goal.returns-then-not-are_digits
returns-then-not-are_digits c = wrong_port (parts_of c.in_ok-parts.parts) c.in_ok-parts.ensures (search rules)

pub returns : goal.returns
returns c = cut_written (parts_of c.in_ok-parts.parts) c.in_ok-parts.ensures (search rules) (search rules)
