use Rattle.config_file.specs.Set.{class}
use Rattle.config_file.proofs.Sets.{of_no_class, member_shortens}
use Rattle.config_file.proofs.set.member.Goals as goal

pub returns-in-Some-class_has-clause-is : goal.returns-in-Some-class_has-clause-is
returns-in-Some-class_has-clause-is c = class c.in-Some.name.now c.in-Some.ensures c.in-Some-class_has.ensures

pub returns-in-None-class_has-clause-is : goal.returns-in-None-class_has-clause-is
returns-in-None-class_has-clause-is c = of_no_class c.in-Some.ensures c.in-None-class_has.ensures

pub returns-in_ok-has-in-None-clause-is : goal.returns-in_ok-has-in-None-clause-is
returns-in_ok-has-in-None-clause-is c = c.in_ok-has-in-None.ensures

pub returns-in_ok-has-in-None-clause-shorter : goal.returns-in_ok-has-in-None-clause-shorter
returns-in_ok-has-in-None-clause-shorter c = member_shortens c.in_ok-has-in-None.ensures
