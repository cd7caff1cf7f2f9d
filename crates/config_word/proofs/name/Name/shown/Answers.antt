use Rattle.config_word.specs.Laws.Name.{name_has_text, name_shown_is_text}
use Rattle.config_word.proofs.name.Name.shown.Goals as goal

pub returns-clause-text : goal.returns-clause-text
returns-clause-text c =
    rw c.push_to.ensures (rw c.new-text.ensures
    (name_shown_is_text c.args.self (name_has_text c.args.self c.numbers_fit.ensures)))
