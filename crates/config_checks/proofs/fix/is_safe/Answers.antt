use Rattle.config_checks.proofs.fix.is_safe.Goals as goal

pub returns-in-Value : goal.returns-in-Value
returns-in-Value c = rw c.in-Value.is c.is_safe_value.ensures

pub returns-in-Name : goal.returns-in-Name
returns-in-Name c = rw c.in-Name.is c.is_safe_name.ensures
