use Rattle.config_search.proofs.command.command_in.Goals as goal

pub returns-clause-text : goal.returns-clause-text
returns-clause-text c = λ system agrees counting whole.
    rw (c.in_ok-kept.ensures, c.deref.ensures.value) (c.in_ok-text.ensures.text system agrees counting whole)
