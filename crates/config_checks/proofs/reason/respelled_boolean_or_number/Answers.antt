use Rattle.config_checks.proofs.reason.respelled_boolean_or_number.Goals as goal

pub returns-in-Ok : goal.returns-in-Ok
returns-in-Ok c = record {
  number = λ accepted. c.respelled_by.ensures;
  other = λ refused. absurd (refused c.in-Ok.field-0 c.in-Ok.ensures);
}
