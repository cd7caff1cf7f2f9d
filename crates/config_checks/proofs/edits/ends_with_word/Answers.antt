use Rattle.std.proofs.Common.{◌-◌, length}
use Rattle.std.proofs.lemmas.List.{take_rest}
use Rattle.config_checks.proofs.LackLemmas.{end_told, told_end}
use Rattle.config_checks.proofs.edits.ends_with_word.Goals as goal

pub returns : goal.returns
returns c =
    let text = c.args.text.now in
    let end = c.args.end.now in
    let is = rw (take_rest text (length text - length end)) at c.is_same_word.ensures in (
      λ yes. told_end text end (length text - length end) (is.0 yes),
      λ (word, ends). is.1 (end_told text end word ends),
    )
