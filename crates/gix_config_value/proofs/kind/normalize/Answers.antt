use Rattle.gix_config_value.proofs.kind.normalize.Goals as goal

pub returns-in-Suffix : goal.returns-in-Suffix
returns-in-Suffix c = rw c.in-Suffix.is c.normalize_as.ensures

pub returns-in-Integer : goal.returns-in-Integer
returns-in-Integer c = rw c.in-Integer.is c.normalize_as-in-Integer.ensures

pub returns-in-Amount : goal.returns-in-Amount
returns-in-Amount c = rw c.in-Amount.is c.normalize_as-in-Amount.ensures

pub returns-in-Boolean : goal.returns-in-Boolean
returns-in-Boolean c = rw c.in-Boolean.is c.normalize_as-in-Boolean.ensures

pub returns-in-Name : goal.returns-in-Name
returns-in-Name c = rw c.in-Name.is c.normalize_as-in-Name.ensures

pub returns-in-Attribute : goal.returns-in-Attribute
returns-in-Attribute c = rw c.in-Attribute.is c.normalize_as-in-Attribute.ensures

pub returns-in-Color : goal.returns-in-Color
returns-in-Color c = rw c.in-Color.is c.normalize_as-in-Color.ensures
