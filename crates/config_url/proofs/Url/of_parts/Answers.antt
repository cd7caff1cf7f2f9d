use Rattle.config_url.proofs.Url.of_parts.Goals as goal

pub returns-in_default-3 : goal.returns-in_default-3
returns-in_default-3 c u form = (rw c.in_default-3.is at c.in_ok-path.ensures) u.path form.path
